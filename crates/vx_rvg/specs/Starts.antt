-- How a group is started from what stands on its shelf.
use Rattle.std.specs.Prelude.{◌≡◌, ◌⊎◌, ℕ, ◌+◌, ◌≤◌, IsTrue, List, None, []}
use Rattle.vx_model.specs.Sizes.{ring_of}
use Rattle.vx_model.specs.declared.errors.Stop.{Stop}
use Rattle.vx_model.specs.declared.errors.Stop.TheVariants.{No as Refused, OutOfMemory}
use Rattle.vx_model.specs.declared.no.No.{No}
use Rattle.vx_model.specs.declared.no.No.TheVariants.{Damaged, NoConfig, Limit}
use Rattle.vx_model.specs.declared.no.Counted.TheVariants.{Number}
use Rattle.vx_model.specs.declared.state.State.{State as SiteState}
use Rattle.vx_model.specs.declared.units.Units.{Units}
use Rattle.vx_disk.specs.Shelf.{Meaning, Image}
use Rattle.vx_dcm.specs.Places.{Maps}
use Rattle.vx_overlay.specs.Pending.{Pending}
use Rattle.vx_disk.specs.Causes.{DeviceCause}
use Rattle.vx_srl.specs.Damages.{HasDamage}
use Rattle.vx_srl.specs.Starts.{NoHeader, StartsFrom}
use Rattle.vx_srl.specs.Views.{most_number}
use Rattle.vx_rvg.specs.Holdings.{Holding}
use Rattle.vx_rvg.specs.Stands.{FoundGroup, HasMarks, KeepsMaps, LeftGroup, Stands}
use Rattle.vx_rvg.specs.Views.{Core}

-- the ring of the log's unit
abbrev pub ring_in : Units → Meaning → ℕ
ring_in units m = ring_of (m.size units.srl)

-- the group holds what was left, in the next session
pub record IsStarted (units : Units) (old : Meaning) (core : Core) (new : Meaning) : Type 0 where
  pub units_are : core.units ≡ units
  pub ring_is : core.log.ring ≡ ring_in units old
  pub applied : core.applied + 1 ≡ core.log.header.low
  pub running : core.halted ≡ None
  -- a read gave the header that its log goes on from, whether a group was left or not
  pub header_is : IsTrue old.tells → StartsFrom units.srl (ring_in units old) core.log.header old
  pub each : (state : SiteState) (session stamp : ℕ) (h : Holding) → LeftGroup units (ring_in units old) state session stamp h old
      → (core.log.header.state ≡ state) × (core.log.header.incarnation ≡ session + 1) × (core.log.header.stamp ≤ stamp + 3) × Stands core h new

-- an image in a start has them, in the session that was left or in the next one
pub record Starting (units : Units) (m : Meaning) (i : Image) : Type 0 where
  pub each : (state : SiteState) (session stamp : ℕ) (h : Holding) → LeftGroup units (ring_in units m) state session stamp h m
      → FoundGroup units (ring_in units m) state session stamp i h ⊎ FoundGroup units (ring_in units m) state (session + 1) (stamp + 3) i h

-- nothing was left that a start should have found
abbrev pub NothingLeft : Units → Meaning → Type 0
NothingLeft units m = (state : SiteState) (session stamp : ℕ) (h : Holding) → LeftGroup units (ring_in units m) state session stamp h m → ⊥

-- why a start is refused: nothing is a header; a block is damaged; a number would go past its limit; or a device call failed
abbrev pub StartCause : Units → Meaning → Meaning → No → Type 0
StartCause units old new NoConfig = (IsTrue old.tells → NoHeader units.srl (ring_in units old) old) × NothingLeft units old
StartCause units old new (Damaged unit block stored computed) =
    (unit ≡ units.srl) × (stored ≡ computed → ⊥)
    × (IsTrue old.tells → HasDamage units.srl (ring_in units old) block stored computed old)
    × NothingLeft units old
StartCause units old new (Limit what most) = (what ≡ Number) × (most ≡ most_number)
    × ((state : SiteState) (session stamp : ℕ) (h : Holding) → LeftGroup units (ring_in units old) state session stamp h old → (most_number ≤ stamp + 2) ⊎ (most_number ≤ session))
StartCause units old new why = DeviceCause old new why

abbrev pub StartStop : Units → Meaning → Meaning → Stop → Type 0
StartStop units old new (Refused why) = StartCause units old new why
StartStop units old new OutOfMemory = Unit {0}

-- the change maps are those of a map unit that keeps its blocks, where the shelf tells them
pub record GivesMarks (units : Units) (m : Meaning) (d : Maps) : Type 0 where
  pub each : (maps : List (List ℕ)) → IsTrue m.tells → KeepsMaps units maps m → HasMarks d maps

-- memory for a start, as callers see it
pub record Room : Type 0 where
  -- the blocks of the ring, and those of the change maps
  pub ring : ℕ
  pub maps : ℕ

-- nothing waits, and there is room for as many blocks as the ring has
pub record IsRoom (ring : ℕ) (pending : Pending) : Type 0 where
  pub none : pending.entries ≡ []
  pub room : pending.capacity ≡ ring
