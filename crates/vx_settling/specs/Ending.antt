-- How events stop before their end: as a line of links does of which they are all events, or some.
use Rattle.std.specs.Prelude.{◌≡◌, ℕ, ◌+◌, ◌≤◌, Bool, List, [], ◌∷◌, ◌++◌}
use Rattle.vx_model.specs.declared.limits.TheConstants.{MOST_NUMBER}
use Rattle.vx_model.specs.declared.no.Counted.TheVariants.{Number}
use Rattle.vx_model.specs.declared.no.No.TheVariants.{Device, Limit, Down as IsOff}
use Rattle.vx_history.specs.Doubts.{Doubted, Runs, crashed_as, halved}
use Rattle.vx_history.specs.Stops.{ComesTo, IsFused, IsOpen, all_fails}
use Rattle.vx_history.specs.declared.event.Event.{Event}
use Rattle.vx_history.specs.declared.event.Event.TheVariants.{Apply as ApplyAt, Fault}
use Rattle.vx_events.specs.Fails.{Fails, IsLogDisk, IsSiteDisk}
use Rattle.vx_events.specs.LinkEnds.{ReadsLog, TakesNumber}
use Rattle.vx_events.specs.Stamps.{most_stamp_at, stamps_of}
use Rattle.vx_events.specs.declared.said.Said.{Said}
use Rattle.vx_events.specs.declared.said.Said.TheVariants.{Refused}

-- A disk fails in one of these events, a fuse runs out, a log cannot be read, or no number is left. The events before that are done.
pub data StopsAmong (told : Type 0) (d : Doubted) (events : List Event) (fails : Fails) (said : Said) (last : Doubted) : Type 0 where
  -- the disk of this site's log failed in an event
  HaltsIn : (e : Event) (site disk : ℕ) (middle : Doubted) → ComesTo d events e site middle → IsLogDisk (middle.world.nodes site) disk → fails ≡ (site, disk) ∷ [] → said ≡ Refused (Device disk)
      → last ≡ halved middle e site disk → StopsAmong told d events fails said last
  -- a disk of this site failed as waiting records were applied
  HaltsApplying : (before rest : List Event) (site count reached disk : ℕ) → events ≡ before ++ ApplyAt site count reached ∷ rest
      → Runs d (before ++ Fault site disk ∷ []) last → all_fails before ≡ [] → IsSiteDisk (last.world.nodes site) disk → fails ≡ (site, disk) ∷ [] → said ≡ Refused (Device disk)
      → StopsAmong told d events fails said last
  -- the fuse of this site ran out as waiting records were applied
  CutsApplying : (before rest : List Event) (site count reached kept : ℕ) (taken : Bool) (middle : Doubted) → events ≡ before ++ ApplyAt site count reached ∷ rest
      → Runs d before middle → all_fails before ≡ [] → kept ≤ (middle.world.nodes site).safe + count → IsOpen (middle.world.nodes site) → IsFused (d.world.nodes site).fuse
      → fails ≡ [] → said ≡ Refused IsOff → last ≡ crashed_as (halved middle (Fault site 0) site 0) site kept taken → StopsAmong told d events fails said last
  -- the fuse of this site ran out in an event
  CutsIn : (e : Event) (site kept : ℕ) (taken : Bool) (middle : Doubted) → ComesTo d events e site middle → IsFused (d.world.nodes site).fuse → fails ≡ []
      → said ≡ Refused IsOff → last ≡ crashed_as (halved middle e site 0) site kept taken → StopsAmong told d events fails said last
  -- a read of a log failed, as there was something to send
  IsUnreadIn : (before rest : List Event) (e : Event) (site disk : ℕ) → events ≡ before ++ e ∷ rest → ReadsLog last.world e site → Runs d before last
      → all_fails before ≡ [] → IsLogDisk (last.world.nodes site) disk → fails ≡ (site, disk) ∷ [] → said ≡ Refused (Device disk) → StopsAmong told d events fails said last
  -- no number is left for a header, or for records that wait
  LacksNumber : (before rest : List Event) (e : Event) (site : ℕ) → events ≡ before ++ e ∷ rest → TakesNumber last.world e site → Runs d before last
      → all_fails before ≡ [] → (told → MOST_NUMBER ≤ most_stamp_at last.world site + stamps_of e last.world site) → fails ≡ []
      → said ≡ Refused (Limit Number MOST_NUMBER) → StopsAmong told d events fails said last
