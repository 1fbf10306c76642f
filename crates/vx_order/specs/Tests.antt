-- Tests of a line, each the refusal that it gives where it holds.
use Rattle.std.specs.Prelude.{Bool, true, false, List, [], ◌∷◌, Option, Some, None}
use Rattle.vx_model.specs.declared.no.No.{No}

-- the refusal, where the condition holds
abbrev pub when : Bool → No → Option No
when true refused = Some refused
when false refused = None

-- the first refusal, or else the other
abbrev pub before : Option No → Option No → Option No
before None other = other
before (Some refused) other = Some refused

-- the first test that holds
unfoldable pub first_said_no : List (Option No) → Option No
first_said_no [] = None
first_said_no (test ∷ tests) = before test (first_said_no tests)
