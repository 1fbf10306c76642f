-- What the rule of admission is asked and answers: what the numbers above the holds of links take of a log, as the program counts it, and
-- the refusal of a verdict.
use Rattle.std.specs.Prelude.{◌≡◌, ℕ, ◌<◌, min, List, drop, get_or, Option, Some, None}
use Rattle.vx_model.specs.Content.{Write}
use Rattle.vx_model.specs.declared.link.Link.{Link}
use Rattle.vx_model.specs.declared.no.No.{No}
use Rattle.vx_history.specs.Admission.{hold}
use Rattle.vx_history.specs.Events.{logged_blocks}
use Rattle.vx_policy.specs.declared.verdict.Verdict.{Verdict}
use Rattle.vx_policy.specs.declared.verdict.Verdict.TheVariants.{Go, Refuse}

-- no ring has as many blocks
abbrev pub most_counted : ℕ
most_counted = 0x1_0000_0000

-- the blocks that the numbers above a link's hold take
abbrev pub taken_above : List Write → Link → ℕ
taken_above log l = logged_blocks (drop (hold l) log)

-- the first numbers, so many, are those of the links, and none counts further than that
abbrev pub AreCounted : List Write → List Link → (count : ℕ) → (used : List ℕ) → Type 0
AreCounted log links count used = (k : ℕ) (d : Link) → k < count → get_or used k 0 ≡ min (taken_above log (get_or links k d)) most_counted

-- the refusal of a verdict, where it refuses
abbrev pub refusal_by : Verdict → Option No
refusal_by (Go stale dcm) = None
refusal_by (Refuse why) = Some why
