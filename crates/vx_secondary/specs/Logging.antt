-- What the logging of updates makes of a group, and what a crash in it leaves.
use Rattle.std.specs.Prelude.{◌≡◌, ◌⊎◌, ℕ, ◌+◌, ◌<◌, ◌≤◌, List, ◌++◌, length, take, drop, Some, None}
use Rattle.vx_model.specs.Content.{Write, fold_writes}
use Rattle.vx_model.specs.declared.call.Update.{Update}
use Rattle.vx_model.specs.declared.limits.TheConstants.{MOST_NUMBER}
use Rattle.vx_model.specs.declared.no.No.{No}
use Rattle.vx_model.specs.declared.no.No.TheVariants.{Device, Down, Limit}
use Rattle.vx_model.specs.declared.no.Counted.TheVariants.{Number}
use Rattle.vx_disk.specs.Causes.{DeviceCause}
use Rattle.vx_disk.specs.Moves.{Moves, Run}
use Rattle.vx_disk.specs.Shelf.{Meaning, Image}
use Rattle.vx_rvg.specs.Holdings.{Holding}
use Rattle.vx_rvg.specs.Stands.{FoundGroup, Stands}
use Rattle.vx_rvg.specs.Views.{Core, last_of, unit_of}

-- k is h with these writes behind the others, but for the first of all, which the log gave up
pub record Grows (xs : List Write) (h k : Holding) : Type 0 where
  pub gone : ℕ
  pub few : gone ≤ length (h.writes ++ xs)
  pub writes : k.writes ≡ drop gone (h.writes ++ xs)
  pub low : k.low ≡ h.low + gone
  pub content : k.content ≡ fold_writes h.content xs
  pub maps : k.maps ≡ h.maps

-- the same units, state and session, and no stamp taken back
pub record SameGroup (c c' : Core) : Type 0 where
  pub units : c'.units ≡ c.units
  pub ring : c'.log.ring ≡ c.log.ring
  pub state : c'.log.header.state ≡ c.log.header.state
  pub session : c'.log.header.incarnation ≡ c.log.header.incarnation
  pub stamp : c.log.header.stamp ≤ c'.log.header.stamp

-- the blocks of a group's log and of its volumes
pub record Own (c : Core) (u b : ℕ) : Type 0 where
  pub here : Run c.units.srl 0 (c.log.ring + 2) u b ⊎ ((v : ℕ) × (v < length c.units.vols) × (u ≡ unit_of c.units.vols v))

-- Of whatever the group held: an image has it, with a first part of these writes, which may be none or all, under its state and session.
pub record Logging (c : Core) (xs : List Write) (stamp : ℕ) (m : Meaning) (i : Image) : Type 0 where
  pub each : (h : Holding) → Stands c h m
      → (n : ℕ) × ((k : Holding) × (Grows (take n xs) h k × FoundGroup c.units c.log.ring c.log.header.state c.log.header.incarnation stamp i k))

-- whatever a call that logs these writes answers
pub record Step (xs : List Write) (c c' : Core) (m m' : Meaning) : Type 0 where
  pub same : SameGroup c c'
  pub moves : Moves (Own c) (Logging c xs (c'.log.header.stamp + 1) m) m m'

-- and where all of them are logged
pub record LogsAll (xs : List Write) (c c' : Core) (m m' : Meaning) : Type 0 where
  pub last : last_of c' ≡ last_of c + length xs
  pub running : c'.halted ≡ None
  pub holds : (h : Holding) → Stands c h m → (k : Holding) × (Grows xs h k × Stands c' k m')

-- why it stopped: a disk failed, which halts the group, or the shelf is down, or no number or stamp is left
abbrev pub LoggingStops : Core → Meaning → Meaning → No → Type 0
LoggingStops c' m m' (Device disk) = (c'.halted ≡ Some disk) × DeviceCause m m' (Device disk)
LoggingStops c' m m' Down = DeviceCause m m' Down
LoggingStops c' m m' (Limit what most) =
    (Limit what most ≡ Limit Number MOST_NUMBER) × ((c'.halted ≡ None) × ((MOST_NUMBER ≤ c'.log.header.stamp) ⊎ (MOST_NUMBER ≤ last_of c')))
LoggingStops c' m m' other = ⊥

-- it stopped behind so many writes
abbrev pub EndsLogging : ℕ → Core → Core → Meaning → Meaning → No → Type 0
EndsLogging n c c' m m' why = (last_of c' ≡ last_of c + n) × LoggingStops c' m m' why

-- it stopped behind the first of the updates, at most so many, and they wait no longer
abbrev pub EndsAfter : ℕ → List Update → List Update → Core → Core → Meaning → Meaning → No → Type 0
EndsAfter count old new c c' m m' why = (n : ℕ) × ((n ≤ count) × ((new ≡ drop n old) × EndsLogging n c c' m m' why))
