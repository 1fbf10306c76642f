-- The parts of a turn of settling.
use Rattle.std.specs.Prelude.{ℕ, ◌-◌, List, [], ◌∷◌, ◌++◌, length, if◌then◌else◌}
use Rattle.vx_history.specs.Settling.{delivery, greeting_events, is_stuck}
use Rattle.vx_history.specs.Step.{run}
use Rattle.vx_history.specs.World.{World}
use Rattle.vx_history.specs.declared.event.Event.{Event}
use Rattle.vx_history.specs.declared.event.Event.TheVariants.{Apply, Pump, Tick}

-- what the receiver may lack is sent again, and delivered
abbrev pub sending_again : World → (p s : ℕ) → List Event
sending_again w p s = let sent = Tick p s ∷ Pump p s ∷ [] in sent ++ delivery p s w (run w sent)

-- all that waits at the receiver is applied, which is acknowledged
abbrev pub applying_all : World → (p s : ℕ) → List Event
applying_all w p s = let applied = Apply s (length (w.nodes s).log - (w.nodes s).safe) 0 ∷ [] in applied ++ delivery p s w (run w applied)

-- the receiver greets where a turn has brought nothing, before which so much was stored
abbrev pub greeting_if : (before : ℕ) → World → (p s : ℕ) → List Event
greeting_if before w p s = if is_stuck before (w.links p s).stored (w.nodes p).safe then greeting_events w p s else []
