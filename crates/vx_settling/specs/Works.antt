-- What a part of a line that settles a link came to, whether contents are told or not.
use Rattle.std.specs.Prelude.{◌≡◌, ℕ, false, List, ◌++◌}
use Rattle.vx_history.specs.Doubts.{Doubted, Runs}
use Rattle.vx_history.specs.declared.event.Event.{Event}
use Rattle.vx_events.specs.Fails.{Fails}
use Rattle.vx_events.specs.LinkFinds.{EndsBetween, MovesBetween}
use Rattle.vx_events.specs.declared.said.Said.{Said}
use Rattle.vx_settling.specs.Ending.{StopsAmong}

-- contents are told to a line that settles a link, as long as the world has not strayed
abbrev pub CalmTold : Type 0 → Doubted → Type 0
CalmTold told d = told × (d.strayed ≡ false)

-- Its events are done: exactly they where contents are told. Either way packets passed between the two sites.
pub record SettleWorks (told : Type 0) (p s : ℕ) (d : Doubted) (events : List Event) (e : Doubted) : Type 0 where
  pub exact : told → Runs d events e
  pub moves : MovesBetween p s d e

-- packets passed between the two sites, and it ended so
pub record StopsOther (told : Type 0) (p s : ℕ) (d : Doubted) (fails : Fails) (said : Said) (last : Doubted) : Type 0 where
  pub middle : Doubted
  pub moves : MovesBetween p s d middle
  pub ends : EndsBetween p s d middle fails said last

-- it was refused, or ended by a failing disk or a fuse
pub record SettleStops (told : Type 0) (p s : ℕ) (d : Doubted) (events : List Event) (fails : Fails) (said : Said) (last : Doubted) : Type 0 where
  pub exact : told → StopsAmong told d events fails said last
  pub other : (told → ⊥) → StopsOther told p s d fails said last

-- these are its first events
pub record FirstOf (d : Doubted) (events : List Event) (e : Doubted) : Type 0 where
  pub before : List Event
  pub rest : List Event
  pub split : events ≡ before ++ rest
  pub runs : Runs d before e

-- memory ran out in it: a first part of its events is done
pub record Shortens (told : Type 0) (p s : ℕ) (d : Doubted) (events : List Event) (e : Doubted) : Type 0 where
  pub exact : told → FirstOf d events e
  pub moves : MovesBetween p s d e
