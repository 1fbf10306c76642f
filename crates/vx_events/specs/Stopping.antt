-- A line that ended, as the events of a world in which sites may be in doubt: what those keep good, the line keeps good.
use Rattle.std.specs.Prelude.{◌≡◌, ℕ, Bool, true, false, List, [], ◌∷◌, ◌++◌}
use Rattle.vx_history.specs.Doubts.{Doubted}
use Rattle.vx_history.specs.Stops.{EventsEnd}
use Rattle.vx_history.specs.World.{World}
use Rattle.vx_history.specs.declared.event.Event.{Event}
use Rattle.vx_history.specs.declared.event.Event.TheVariants.{Crash as CrashAt}
use Rattle.vx_script.specs.declared.line.ScriptLine.{ScriptLine}
use Rattle.vx_events.specs.Ends.{LeavesOf, BegunOf, place_of}
use Rattle.vx_events.specs.Fails.{AreEnding, Fails}
use Rattle.vx_events.specs.LinkEnds.{LinkStops}
use Rattle.vx_events.specs.Lists.{Choice, events_of}

-- What came of the events of a line at a site: all of them; or the first of them; or those before one that a disk or a fuse ended, with what
-- is left of that one; or a crash in place of the one that was not begun.
pub data CameOf (w : World) (all : List Event) (s kept : ℕ) (events : List Event) : Type 0 where
  Whole : events ≡ all → CameOf w all s kept events
  Broken : (before : List Event) (e : Event) (rest left : List Event) (disk : ℕ) → all ≡ before ++ e ∷ rest → LeavesOf e disk left → events ≡ before ++ left
      → CameOf w all s kept events
  First : (rest : List Event) → all ≡ events ++ rest → CameOf w all s kept events
  Crashed : (e : Event) → all ≡ e ∷ [] → BegunOf w e [] → events ≡ CrashAt s kept ∷ [] → CameOf w all s kept events

-- the line ended as these events do
pub record StopsAs (d : Doubted) (line : ScriptLine) (s : ℕ) (fails : Fails) (new : Doubted) : Type 0 where
  pub choice : Choice
  pub events : List Event
  pub came : CameOf d.world (events_of d.world line choice) s choice.kept events
  pub ending : Fails
  pub are : AreEnding d.world s fails ending
  pub stops : EventsEnd d events ending new

-- the same of a line of any kind: one of links, or another
abbrev pub StopsBy : Bool → Doubted → ScriptLine → Fails → Doubted → Type 0
StopsBy true d line fails new = LinkStops d line fails new
StopsBy false d line fails new = StopsAs d line (place_of d.world line) fails new
