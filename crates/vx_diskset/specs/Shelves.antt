-- What calls on a replicated volume group make of the shelf below it, whatever shelf that is.
use Rattle.std.specs.Prelude.{◌≡◌, ◌⊎◌, ℕ, ◌+◌, ◌<◌, ◌≤◌, true, List, IsSome, IsTrue, Option, None, Result, Ok, Err}
use Rattle.vx_disk.specs.Causes.{OnDisks}
use Rattle.vx_disk.specs.Counts.{Rose}
use Rattle.vx_disk.specs.Disks.{Disks, Untouched}
use Rattle.vx_disk.specs.Moves.{Anything, Blocks, Moves}
use Rattle.vx_disk.specs.Shelf.{Meaning}
use Rattle.vx_events.specs.Fails.{IsLogDisk}
use Rattle.vx_events.specs.Fuses.{IsExact}
use Rattle.vx_events.specs.declared.said.Said.{Said}
use Rattle.vx_history.specs.Steps.{half_begun, logged, worked}
use Rattle.vx_history.specs.Stops.{IsFused}
use Rattle.vx_history.specs.World.{Node}
use Rattle.vx_model.specs.Content.{Write}
use Rattle.vx_model.specs.Sites.{is_origin}
use Rattle.vx_model.specs.declared.no.No.{No}
use Rattle.vx_model.specs.declared.no.No.TheVariants.{Device, Limit, Down as IsDown}
use Rattle.vx_model.specs.declared.state.State.{State}
use Rattle.vx_model.specs.declared.units.Units.{Units}
use Rattle.vx_rvg.specs.Contents.{ShowsContent}
use Rattle.vx_rvg.specs.Views.{Core}
use Rattle.vx_srl.specs.Views.{most_number}
use Rattle.vx_diskset.specs.Blames.{IsGroupDisk}
use Rattle.vx_diskset.specs.Burning.{Burnt}
use Rattle.vx_diskset.specs.DiskSets.{halted_at, halted_with, no_number}
use Rattle.vx_diskset.specs.Holds.{KeptBeside, most_header, sure_of}
use Rattle.vx_diskset.specs.Keeps.{doubting, kept_anew, restated}
use Rattle.vx_diskset.specs.Stands.{IsHeldAt, IsUpAt}

-- below a site that is not over a group it is a rack
abbrev pub IsRackOf : Node → Meaning → Type 0
IsRackOf n m = n.group ≡ None → IsSome m.disks

-- no count of a disk falls, and contents that are told now were told before
pub record LaterOn (old new : Meaning) : Type 0 where
  pub counts : (d : ℕ) → old.disk_faults d ≤ new.disk_faults d
  pub told : IsTrue new.tells → IsTrue old.tells

-- the blocks of the log and of the data volumes
abbrev pub OfRvg : Units → Blocks
OfRvg units u b = IsGroupDisk units u

-- Whatever is answered, no other block changed.
abbrev pub MovesOn : Core → Meaning → Meaning → Type 0
MovesOn c old new = Moves (OfRvg c.units) Anything old new

-- no block has a value that it might not have, but these
pub record ChangesOnly (mine : Blocks) (old new : Meaning) : Type 0 where
  pub units : new.units ≡ old.units
  pub size : (u : ℕ) → new.size u ≡ old.size u
  pub tells : new.tells ≡ old.tells
  pub leaves : (u b : ℕ) (v : List ℕ) → new.leaves u b v → old.leaves u b v ⊎ mine u b

-- but those of a group
abbrev pub ChangesOn : Core → Meaning → Meaning → Type 0
ChangesOn c old new = ChangesOnly (OfRvg c.units) old new

-- no block, no fuse and no disk that is made to fail changed
pub record StillOn (old new : Meaning) : Type 0 where
  pub told : OnDisks old.disks new.disks Untouched
  pub sizes : (u : ℕ) → new.size u ≡ old.size u

-- the calls of a line that was answered so
pub record BurnsOn (P : Disks → Disks → Type 0) (said : Said) (old new : Meaning) : Type 0 where
  pub told : OnDisks old.disks new.disks (Burnt P said old.size)
  pub sizes : (u : ℕ) → new.size u ≡ old.size u

-- of a rack a refusal 7 names the disk of the log, or that of one of the volumes
abbrev pub BlamesRack : Option Disks → Units → No → Type 0
BlamesRack disks units (Device disk) = IsSome disks → IsGroupDisk units disk
BlamesRack disks units other = Unit {0}

-- what a write answers of a site of any role
abbrev pub LoggedAs : KeptBeside → Node → Write → Meaning → Core → Meaning → Result ℕ No → Type 0
LoggedAs beside n x m c' new (Ok number) = (number ≡ n.safe + 1) × (n.safe < most_number) × IsUpAt beside (logged n x) c' new × (is_origin n.role ≡ true → (calls : ℕ) → IsTrue new.tells → IsRackOf n new → IsExact n x calls → 4 ≤ calls)
LoggedAs beside n x m c' new (Err (Device disk)) = IsUpAt beside (halted_with n x disk) c' new × Rose (m.disk_faults disk) (new.disk_faults disk) × (n.safe < most_number)
LoggedAs beside n x m c' new (Err (Limit what most)) = (Limit what most ≡ no_number) × (IsTrue new.tells → most_number ≤ most_header beside n) × IsUpAt beside (worked n) c' new
LoggedAs beside n x m c' new (Err IsDown) = IsFused n.fuse × IsHeldAt beside (half_begun n x) new × (is_origin n.role ≡ true → (calls : ℕ) → IsTrue new.tells → IsRackOf n new → IsExact n x calls → calls < 4) × (n.safe < most_number)
LoggedAs beside n x m c' new (Err other) = ⊥

-- what a read answers: the blocks, which are those of the content where it is told, or a failing disk
abbrev pub ReadAs : KeptBeside → Node → ℕ → ℕ → ℕ → List ℕ → Core → Meaning → Meaning → Result (Unit {0}) No → Type 0
ReadAs beside n volume start count bytes c' m new (Ok done) = (IsTrue new.tells → ShowsContent n.base volume start count bytes) × IsUpAt beside n c' new
ReadAs beside n volume start count bytes c' m new (Err (Device disk)) = IsUpAt beside n c' new × Rose (m.disk_faults disk) (new.disk_faults disk)
ReadAs beside n volume start count bytes c' m new (Err other) = ⊥

-- what a header with another state answers
abbrev pub KeptAs : KeptBeside → Node → State → Meaning → Core → Meaning → Result (Unit {0}) No → Type 0
KeptAs beside n s m c' new (Ok done) = IsUpAt (sure_of (kept_anew beside n s)) (worked (restated n s)) c' new
KeptAs beside n s m c' new (Err (Device disk)) = IsUpAt (doubting beside n s disk) (halted_at n disk) c' new × Rose (m.disk_faults disk) (new.disk_faults disk) × (IsRackOf n m → IsLogDisk n disk)
KeptAs beside n s m c' new (Err (Limit what most)) = (Limit what most ≡ no_number) × (IsTrue new.tells → most_number ≤ most_header beside n) × IsUpAt beside n c' new
KeptAs beside n s m c' new (Err IsDown) = IsFused n.fuse × IsHeldAt (doubting beside n s 0) (halted_at n 0) new
KeptAs beside n s m c' new (Err other) = ⊥
