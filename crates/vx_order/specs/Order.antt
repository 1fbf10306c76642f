-- The one order of refusals.
use Rattle.std.specs.Prelude.{ℕ, Bool, List, [], ◌∷◌, length, Option}
use Rattle.vx_model.specs.declared.no.No.{No}
use Rattle.vx_script.specs.declared.line.ScriptLine.{ScriptLine}
use Rattle.vx_order.specs.declared.facts.SiteFacts.{SiteFacts}
use Rattle.vx_order.specs.Tests.{first_said_no}
use Rattle.vx_order.specs.Subject.{first_name, second_name, need_of, halt_of}
use Rattle.vx_order.specs.Spans.{span_of}
use Rattle.vx_order.specs.Sites.{named_facts, unknown_one, down_by, halted_by}
use Rattle.vx_order.specs.Shapes.{line_role, line_unknown, taken, over_limit, wrong_size}
use Rattle.vx_order.specs.Calls.{span_role, span_unknown, span_size, span_range}
use Rattle.vx_order.specs.Asks.{ask_of}
use Rattle.vx_order.specs.Links.{place_named}
use Rattle.vx_order.specs.Joining.{ask_taken, ask_limit, ask_size}
use Rattle.vx_order.specs.Sending.{ask_role, ask_unknown, ask_down, ask_paused, ask_replaying, ask_unconfirmed}
use Rattle.vx_order.specs.Holding.{span_down, span_full}

-- the tests of a line, whose sites are these, with these numbers, in the one order of refusals: 1 for sites, 6, 20, 5, 1 for
-- other names, 2, 19, 4, 3, 14, 23, 18, then 12 and 13 in the order of the links, and 15
abbrev pub tests_of : List SiteFacts → Bool → ScriptLine → (first second : Option SiteFacts) → (here there : Option ℕ) → List (Option No)
tests_of sites files line first second here there =
    unknown_one (first_name line) first
    ∷ unknown_one (second_name line) second
    ∷ down_by (need_of line) first second
    ∷ halted_by (halt_of line) first second
    ∷ line_role line first
    ∷ span_role first (span_of line)
    ∷ ask_role (ask_of line) here there first second
    ∷ line_unknown line first
    ∷ span_unknown first (span_of line)
    ∷ ask_unknown (ask_of line) there first second
    ∷ taken sites line first
    ∷ ask_taken (ask_of line) there first second
    ∷ over_limit (length sites) files line first
    ∷ ask_limit (ask_of line) first
    ∷ wrong_size line first
    ∷ ask_size (ask_of line) first second
    ∷ span_size first (span_of line)
    ∷ span_range first (span_of line)
    ∷ ask_down (ask_of line) there first second
    ∷ span_down sites first (span_of line)
    ∷ ask_paused (ask_of line) there first
    ∷ ask_replaying (ask_of line) there first second
    ∷ span_full sites first (span_of line)
    ∷ ask_unconfirmed (ask_of line) first
    ∷ []

-- the first refusal that holds of a line before it works
unfoldable pub line_refusal : List SiteFacts → Bool → ScriptLine → Option No
line_refusal sites files line =
    first_said_no (tests_of sites files line (named_facts sites (first_name line)) (named_facts sites (second_name line)) (place_named sites (first_name line)) (place_named sites (second_name line)))
