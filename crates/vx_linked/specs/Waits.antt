-- A line that waits for a write, by the links of its site in memory.
use Rattle.std.specs.Prelude.{ℕ, Bool, ◌&&◌, nat_lt, List, if◌then◌else◌}
use Rattle.std.specs.List.{list_any}
use Rattle.vx_history.specs.Admission.{is_live_link, is_log}
use Rattle.vx_history.specs.Refusals.{waits}
use Rattle.vx_history.specs.declared.event.Said.{Said}
use Rattle.vx_history.specs.declared.event.Said.TheVariants.{DoneAt, Pending}
use Rattle.vx_order.specs.declared.facts.LinkFacts.{LinkFacts}

-- an attached link that writes wait for, which is live and goes by the log, has not confirmed the number
abbrev pub holds_up : (number : ℕ) → LinkFacts → Bool
holds_up number l = l.link.attached && (waits l.link.sync && ((is_live_link l.link && is_log l.link.mode) && nat_lt l.link.net number))

-- what is said of a write by these links
abbrev pub wait_said : (number : ℕ) → List LinkFacts → Said
wait_said number links = if list_any (holds_up number) links then Pending number else DoneAt number
