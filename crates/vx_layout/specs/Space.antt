-- Where a new volume finds space, or why it finds none.
use Rattle.std.specs.Prelude.{◌≡◌, ◌⊎◌, ℕ, zero, suc, ◌+◌, ◌-◌, ◌*◌, ◌^◌, ◌<◌, ◌≤◌, Bool, true, false, min, if◌then◌else◌, List, [], ◌∷◌, ◌++◌, length, Result, Ok, Err}
use Rattle.std.specs.Int.{div_ceil}
use Rattle.std.specs.List.{list_any}
use Rattle.vx_model.specs.declared.errors.Stop.{Stop}
use Rattle.vx_model.specs.declared.limits.TheConstants.{DISK_PLACES, MOST_COLUMNS, MOST_PLEXES, MOST_VOLUME_BLOCKS, PUBLIC_START}
use Rattle.vx_model.specs.declared.errors.Stop.TheVariants.{No, OutOfMemory}
use Rattle.vx_model.specs.declared.no.No.TheVariants as refusal
use Rattle.vx_config.specs.declared.config.Config.{Config}
use Rattle.vx_config.specs.declared.entry.DiskEntry.{DiskEntry}
use Rattle.vx_config.specs.declared.entry.Subdisk.{Subdisk}
use Rattle.vx_config.specs.Checks.{map_blocks, runs}
use Rattle.vx_layout.specs.Places.{disk_blocks, lies_on}
use Rattle.vx_layout.specs.Free.{AreLowest, HasNoRun, IsLowestRun, free_blocks}
use Rattle.vx_layout.specs.declared.shape.Found.{Found}
use Rattle.vx_layout.specs.declared.shape.Shape.{Shape}

-- 1 to 2^40 blocks on 1 to 8 plexes; 1 to 8 columns, and one where the plexes are concatenated; the width has 32 bits
pub record IsShape (want : Shape) : Type 0 where
  pub some : 0 < want.blocks
  pub few : want.blocks ≤ MOST_VOLUME_BLOCKS
  pub mirrors : 0 < want.mirrors
  pub plexes : want.mirrors ≤ MOST_PLEXES
  pub columns : 0 < want.ncol
  pub ncol : want.ncol ≤ MOST_COLUMNS
  pub one : want.width ≡ 0 → want.ncol ≡ 1
  pub width : want.width < 2 ^ 32

-- the blocks of one column of a striped plex
abbrev pub column_of : Shape → ℕ
column_of want = div_ceil want.blocks (want.ncol * want.width) * want.width

-- the free blocks of a disk, where it is allowed: no plex or column that was placed before uses it
unfoldable pub disk_room : List Subdisk → List DiskEntry → List Subdisk → ℕ → ℕ
disk_room used disks found disk = if list_any (lies_on disk) found then 0 else free_blocks used disks disk

-- the room of so many disks from this one on
abbrev pub room_sum : (ℕ → ℕ) → ℕ → ℕ → ℕ
room_sum disk_room disk zero = 0
room_sum disk_room disk (suc n) = disk_room disk + room_sum disk_room (disk + 1) n

-- the lowest disk that has so much room
pub record IsFirst (disk_room : ℕ → ℕ) (blocks disk : ℕ) : Type 0 where
  pub inside : disk < DISK_PLACES
  pub fits : blocks ≤ disk_room disk
  pub first : (e : ℕ) → e < disk → disk_room e < blocks

-- no disk has so much
pub record HasNone (disk_room : ℕ → ℕ) (blocks : ℕ) : Type 0 where
  pub none : (e : ℕ) → e < DISK_PLACES → disk_room e < blocks

-- the greatest room of a disk
pub record IsGreatest (disk_room : ℕ → ℕ) (most : ℕ) : Type 0 where
  pub each : (e : ℕ) → e < DISK_PLACES → disk_room e ≤ most
  pub disk : ℕ
  pub inside : disk < DISK_PLACES
  pub is : disk_room disk ≡ most

-- so many blocks lie on the lowest allowed disk whose free blocks suffice
pub record OnOne (used : List Subdisk) (disks : List DiskEntry) (found : List Subdisk) (blocks : ℕ) (ss : List Subdisk) : Type 0 where
  pub disk : ℕ
  pub first : IsFirst (disk_room used disks found) blocks disk
  pub are : AreLowest used disk PUBLIC_START (disk_blocks disks disk) blocks ss

-- so many blocks lie on the disks from this one on, each of which is filled before the next is taken
abbrev pub AreSpread : List Subdisk → List DiskEntry → (ℕ → ℕ) → ℕ → ℕ → ℕ → List Subdisk → Type 0
AreSpread used disks disk_room disk zero blocks ss = (blocks ≡ 0) × (ss ≡ [])
AreSpread used disks disk_room disk (suc n) blocks ss =
    (front : List Subdisk) × (back : List Subdisk) × (ss ≡ front ++ back) × AreLowest used disk PUBLIC_START (disk_blocks disks disk) (min blocks (disk_room disk)) front
    × AreSpread used disks disk_room (disk + 1) n (blocks - min blocks (disk_room disk)) back

-- no allowed disk suffices, and together they do
pub record OnSeveral (used : List Subdisk) (disks : List DiskEntry) (found : List Subdisk) (blocks : ℕ) (ss : List Subdisk) : Type 0 where
  pub none : HasNone (disk_room used disks found) blocks
  pub all : blocks ≤ room_sum (disk_room used disks found) 0 DISK_PLACES
  pub are : AreSpread used disks (disk_room used disks found) 0 DISK_PLACES blocks ss

-- so many columns, each on one disk that no earlier one uses
abbrev pub AreColumns : List Subdisk → List DiskEntry → List Subdisk → ℕ → ℕ → List Subdisk → Type 0
AreColumns used disks found zero blocks ss = ss ≡ []
AreColumns used disks found (suc n) blocks ss =
    (front : List Subdisk) × (back : List Subdisk) × (ss ≡ front ++ back) × OnOne used disks found blocks front × AreColumns used disks (found ++ front) n blocks back

-- a plex of this shape, beside what was placed before it
pub record IsPlex (want : Shape) (used : List Subdisk) (disks : List DiskEntry) (found ss : List Subdisk) : Type 0 where
  pub concatenated : want.width ≡ 0 → OnOne used disks found want.blocks ss ⊎ OnSeveral used disks found want.blocks ss
  pub striped : 0 < want.width → AreColumns used disks found want.ncol (column_of want) ss

-- the plexes of this shape, each beside those before it
abbrev pub ArePlexes : Shape → List Subdisk → List DiskEntry → List Subdisk → List (List Subdisk) → Type 0
ArePlexes want used disks found [] = Unit {0}
ArePlexes want used disks found (p ∷ ps) = IsPlex want used disks found p × ArePlexes want used disks (found ++ p) ps

-- some columns have their places, and the next one has none
pub record NoColumn (want : Shape) (used : List Subdisk) (disks : List DiskEntry) (found : List Subdisk) (need have : ℕ) : Type 0 where
  pub placed : ℕ
  pub few : placed < want.ncol
  pub columns : List Subdisk
  pub are : AreColumns used disks found placed (column_of want) columns
  pub is_need : need ≡ column_of want
  pub none : HasNone (disk_room used disks (found ++ columns)) (column_of want)
  pub is_have : IsGreatest (disk_room used disks (found ++ columns)) have

-- the disks together have too little room
pub record NoRoom (want : Shape) (used : List Subdisk) (disks : List DiskEntry) (found : List Subdisk) (need have : ℕ) : Type 0 where
  pub is_need : need ≡ want.blocks
  pub is_have : have ≡ room_sum (disk_room used disks found) 0 DISK_PLACES
  pub short : room_sum (disk_room used disks found) 0 DISK_PLACES < want.blocks

-- the next plex has no place: so many blocks are needed, and so many are there
pub record NoPlex (want : Shape) (used : List Subdisk) (disks : List DiskEntry) (found : List Subdisk) (need have : ℕ) : Type 0 where
  pub concatenated : want.width ≡ 0 → NoRoom want used disks found need have
  pub striped : 0 < want.width → NoColumn want used disks found need have

-- what was placed in one list
abbrev pub flat : List (List Subdisk) → List Subdisk
flat [] = []
flat (p ∷ ps) = p ++ flat ps

abbrev pub drl_blocks : Shape → ℕ
drl_blocks want = map_blocks want.blocks

abbrev pub fmr_blocks : Shape → ℕ
fmr_blocks want = want.mirrors * map_blocks want.blocks

-- the logs that are wanted, the DRL first: each is a run of its own beside all that was placed before it
abbrev pub AreLogs : Shape → List Subdisk → List DiskEntry → Bool → Bool → List Subdisk → Type 0
AreLogs want used disks false false logs = logs ≡ []
AreLogs want used disks true false logs = (drl : Subdisk) × (logs ≡ drl ∷ []) × IsLowestRun used disks (drl_blocks want) drl
AreLogs want used disks false true logs = (fmr : Subdisk) × (logs ≡ fmr ∷ []) × IsLowestRun used disks (fmr_blocks want) fmr
AreLogs want used disks true true logs = (drl : Subdisk) × (fmr : Subdisk) × (logs ≡ drl ∷ (fmr ∷ [])) × IsLowestRun used disks (drl_blocks want) drl × IsLowestRun (used ++ (drl ∷ [])) disks (fmr_blocks want) fmr

-- a log that is wanted has no run
abbrev pub NoLog : Shape → List Subdisk → List DiskEntry → ℕ → ℕ → Type 0
NoLog want used disks need have =
    ((want.drl ≡ true) × (need ≡ drl_blocks want) × HasNoRun used disks need have)
    ⊎ ((want.fmr ≡ true) × (need ≡ fmr_blocks want)
    × (((want.drl ≡ false) × HasNoRun used disks need have) ⊎ ((want.drl ≡ true) × ((drl : Subdisk) × IsLowestRun used disks (drl_blocks want) drl × HasNoRun (used ++ (drl ∷ [])) disks need have))))

-- the space that the rule gives to a new volume
pub record IsFound (c : Config) (want : Shape) (found : Found) : Type 0 where
  pub many : length found.plexes.items ≡ want.mirrors
  pub plexes : ArePlexes want (runs c) c.disks [] found.plexes.items
  pub logs : AreLogs want (runs c ++ flat found.plexes.items) c.disks want.drl want.fmr found.logs

-- some plexes have their places, and the next one has none; or all have, and a log has none
pub record IsSpaceShort (c : Config) (want : Shape) (need have : ℕ) : Type 0 where
  pub plexes : List (List Subdisk)
  pub are : ArePlexes want (runs c) c.disks [] plexes
  pub next : ((length plexes < want.mirrors) × NoPlex want (runs c) c.disks (flat plexes) need have) ⊎ ((length plexes ≡ want.mirrors) × NoLog want (runs c ++ flat plexes) c.disks need have)

-- what is answered
abbrev pub FindsSpace : Config → Shape → Result Found Stop → Type 0
FindsSpace c want (Ok found) = IsFound c want found
FindsSpace c want (Err (No (refusal.Space need have))) = IsSpaceShort c want need have
FindsSpace c want (Err (No other)) = ⊥
FindsSpace c want (Err OutOfMemory) = Unit {0}
