-- What the steps of a search for space leave.
use Rattle.std.specs.Prelude.{◌≡◌, ◌⊎◌, ℕ, ◌+◌, ◌<◌, ◌≤◌, true, false, List, [], ◌∷◌, ◌++◌, length, slice_index, Result, Ok, Err}
use Rattle.vx_model.specs.declared.limits.TheConstants.{DISK_PLACES}
use Rattle.vx_config.specs.declared.entry.DiskEntry.{DiskEntry}
use Rattle.vx_config.specs.declared.entry.Subdisk.{Subdisk}
use Rattle.vx_layout.specs.Free.{HasNoRun, HasRun, IsLowestRun}
use Rattle.vx_layout.specs.Space.{AreColumns, ArePlexes, AreSpread, HasNone, IsGreatest, IsPlex, NoPlex, OnOne, OnSeveral, drl_blocks, flat, fmr_blocks, disk_room, room_sum}
use Rattle.vx_layout.specs.declared.shape.Shape.{Shape}
use Rattle.vx_layout.specs.declared.short.Short.{Short}
use Rattle.vx_layout.specs.declared.short.Short.TheVariants.{OutOfMemory, Space}

-- the room of each of the first disks
pub record AreRooms (disk_room : ℕ → ℕ) (count : ℕ) (xs : List ℕ) : Type 0 where
  pub each : (e : ℕ) → e < count → slice_index xs e ≡ disk_room e
  pub long : length xs ≡ DISK_PLACES

-- what a step answers: what holds at Ok, and of the two numbers where space is short
abbrev pub StepEnds : {T : Type 0} → (T → Type 0) → (ℕ → ℕ → Type 0) → Result T Short → Type 0
StepEnds done short (Ok x) = done x
StepEnds done short (Err (Space need have)) = short need have
StepEnds done short (Err OutOfMemory) = Unit {0}

-- runs of this kind were put behind others
pub record AddsSpread (used : List Subdisk) (disks : List DiskEntry) (disk_room : ℕ → ℕ) (blocks : ℕ) (old new : List Subdisk) : Type 0 where
  pub runs : List Subdisk
  pub are : AreSpread used disks disk_room 0 DISK_PLACES blocks runs
  pub is : new ≡ old ++ runs

pub record AddsColumn (used : List Subdisk) (disks : List DiskEntry) (blocks : ℕ) (old new : List Subdisk) : Type 0 where
  pub runs : List Subdisk
  pub are : OnOne used disks old blocks runs
  pub is : new ≡ old ++ runs

pub record AddsWhole (used : List Subdisk) (disks : List DiskEntry) (blocks : ℕ) (old new : List Subdisk) : Type 0 where
  pub runs : List Subdisk
  pub are : OnOne used disks old blocks runs ⊎ OnSeveral used disks old blocks runs
  pub is : new ≡ old ++ runs

pub record AddsColumns (used : List Subdisk) (disks : List DiskEntry) (ncol blocks : ℕ) (old new : List Subdisk) : Type 0 where
  pub runs : List Subdisk
  pub are : AreColumns used disks old ncol blocks runs
  pub is : new ≡ old ++ runs

pub record AddsPlex (want : Shape) (used : List Subdisk) (disks : List DiskEntry) (old new : List Subdisk) : Type 0 where
  pub runs : List Subdisk
  pub are : IsPlex want used disks old runs
  pub is : new ≡ old ++ runs

-- no disk has room for so many blocks
pub record ColumnShort (used : List Subdisk) (disks : List DiskEntry) (blocks : ℕ) (found : List Subdisk) (need have : ℕ) : Type 0 where
  pub is_need : need ≡ blocks
  pub none : HasNone (disk_room used disks found) blocks
  pub is_have : IsGreatest (disk_room used disks found) have

-- all disks together have not
pub record WholeShort (used : List Subdisk) (disks : List DiskEntry) (blocks : ℕ) (found : List Subdisk) (need have : ℕ) : Type 0 where
  pub is_need : need ≡ blocks
  pub is_have : have ≡ room_sum (disk_room used disks found) 0 DISK_PLACES
  pub short : room_sum (disk_room used disks found) 0 DISK_PLACES < blocks

-- some columns were placed, and the next one has no place
pub record ColumnsShort (used : List Subdisk) (disks : List DiskEntry) (ncol blocks : ℕ) (found : List Subdisk) (need have : ℕ) : Type 0 where
  pub placed : ℕ
  pub few : placed < ncol
  pub columns : List Subdisk
  pub are : AreColumns used disks found placed blocks columns
  pub short : ColumnShort used disks blocks (found ++ columns) need have

-- the disks below this one were filled
pub record Spreading (used : List Subdisk) (disks : List DiskEntry) (disk_room : ℕ → ℕ) (disk blocks left : ℕ) (old new : List Subdisk) : Type 0 where
  pub done : List Subdisk
  pub is : new ≡ old ++ done
  pub behind : ℕ
  pub count : disk + behind ≡ DISK_PLACES
  pub enough : left ≤ room_sum disk_room disk behind
  pub rest : (ss : List Subdisk) → AreSpread used disks disk_room disk behind left ss → AreSpread used disks disk_room 0 DISK_PLACES blocks (done ++ ss)

-- so many columns were placed
pub record Columning (used : List Subdisk) (disks : List DiskEntry) (blocks placed : ℕ) (old new : List Subdisk) : Type 0 where
  pub done : List Subdisk
  pub is : new ≡ old ++ done
  pub rest : (n : ℕ) (ss : List Subdisk) → AreColumns used disks new n blocks ss → AreColumns used disks old (placed + n) blocks (done ++ ss)

-- so many plexes were placed
pub record Placing (want : Shape) (used : List Subdisk) (disks : List DiskEntry) (placed : ℕ) (found : List Subdisk) (plexes : List (List Subdisk)) : Type 0 where
  pub many : length plexes ≡ placed
  pub is : found ≡ flat plexes
  pub rest : (more : List (List Subdisk)) → ArePlexes want used disks found more → ArePlexes want used disks [] (plexes ++ more)

-- all plexes were placed
pub record Placed (want : Shape) (used : List Subdisk) (disks : List DiskEntry) (found : List Subdisk) (plexes : List (List Subdisk)) : Type 0 where
  pub many : length plexes ≡ want.mirrors
  pub is : found ≡ flat plexes
  pub are : ArePlexes want used disks [] plexes

-- some were, and the next one has no place
pub record PlexesShort (want : Shape) (used : List Subdisk) (disks : List DiskEntry) (need have : ℕ) : Type 0 where
  pub plexes : List (List Subdisk)
  pub are : ArePlexes want used disks [] plexes
  pub few : length plexes < want.mirrors
  pub next : NoPlex want used disks (flat plexes) need have

-- a log was placed
pub record AddsLog (used : List Subdisk) (disks : List DiskEntry) (blocks : ℕ) (new_used logs new_logs : List Subdisk) : Type 0 where
  pub run : Subdisk
  pub is_run : IsLowestRun used disks blocks run
  pub is_used : new_used ≡ used ++ (run ∷ [])
  pub is_logs : new_logs ≡ logs ++ (run ∷ [])

-- no disk has so long a run
pub record LogShort (used : List Subdisk) (disks : List DiskEntry) (blocks need have : ℕ) : Type 0 where
  pub is_need : need ≡ blocks
  pub none : HasNoRun used disks need have

-- the run that was looked for
abbrev pub FoundRun : List Subdisk → List DiskEntry → ℕ → Subdisk → Type 0
FoundRun used disks blocks run = IsLowestRun used disks blocks run

-- the disks below this one have no such run
pub record NoneBelow (used : List Subdisk) (disks : List DiskEntry) (count disk longest : ℕ) : Type 0 where
  pub short : longest < count
  pub some : (longest ≡ 0) ⊎ ((d : ℕ) × (b : ℕ) × HasRun used disks longest d b)
  pub most : (d b n : ℕ) → 0 < n → d < disk → HasRun used disks n d b → n ≤ longest

-- the DRL was placed, where one is wanted
pub record AddsDrl (want : Shape) (used : List Subdisk) (disks : List DiskEntry) (new_used logs new_logs : List Subdisk) : Type 0 where
  pub none : want.drl ≡ false → (new_used ≡ used) × (new_logs ≡ logs)
  pub one : want.drl ≡ true → (run : Subdisk) × IsLowestRun used disks (drl_blocks want) run × (new_used ≡ used ++ (run ∷ [])) × (new_logs ≡ logs ++ (run ∷ []))

-- it is wanted and has no run
pub record DrlShort (want : Shape) (used : List Subdisk) (disks : List DiskEntry) (need have : ℕ) : Type 0 where
  pub wanted : want.drl ≡ true
  pub is_need : need ≡ drl_blocks want
  pub is_short : HasNoRun used disks need have

-- the FMR log was placed, where one is wanted
pub record AddsFmr (want : Shape) (used : List Subdisk) (disks : List DiskEntry) (logs new_logs : List Subdisk) : Type 0 where
  pub none : want.fmr ≡ false → new_logs ≡ logs
  pub one : want.fmr ≡ true → (run : Subdisk) × IsLowestRun used disks (fmr_blocks want) run × (new_logs ≡ logs ++ (run ∷ []))

-- it is wanted and has no run
pub record FmrShort (want : Shape) (used : List Subdisk) (disks : List DiskEntry) (need have : ℕ) : Type 0 where
  pub wanted : want.fmr ≡ true
  pub is_need : need ≡ fmr_blocks want
  pub is_short : HasNoRun used disks need have
