-- Which blocks of the disks are free, and which of them are the lowest.
use Rattle.std.specs.Prelude.{◌≡◌, ◌⊎◌, ℕ, zero, suc, ◌+◌, ◌-◌, ◌<◌, ◌≤◌, Bool, true, false, not, ◌&&◌, ◌==◌, nat_lt, nat_le, if◌then◌else◌, List, [], ◌∷◌, ◌++◌}
use Rattle.std.specs.List.{list_any}
use Rattle.vx_model.specs.declared.limits.TheConstants.{PUBLIC_START}
use Rattle.vx_config.specs.declared.entry.DiskEntry.{DiskEntry}
use Rattle.vx_config.specs.declared.entry.Subdisk.{Subdisk}
use Rattle.vx_layout.specs.Places.{disk_blocks}
use Rattle.vx_layout.specs.declared.gap.Gap.{Gap}

-- a run has this block of this disk
abbrev pub holds : ℕ → ℕ → Subdisk → Bool
holds disk block s = s.disk == disk && nat_le s.start block && nat_lt block (s.start + s.blocks)

-- no run has it
unfoldable pub is_free : List Subdisk → ℕ → ℕ → Bool
is_free used disk block = not (list_any (holds disk block) used)

-- how many of so many blocks from this one on are free
abbrev pub free_in : List Subdisk → ℕ → ℕ → ℕ → ℕ
free_in used disk block zero = 0
free_in used disk block (suc n) = (if is_free used disk block then 1 else 0) + free_in used disk (block + 1) n

-- how many blocks of the public region of a disk are free
unfoldable pub free_blocks : List Subdisk → List DiskEntry → ℕ → ℕ
free_blocks used disks disk = free_in used disk PUBLIC_START (disk_blocks disks disk - PUBLIC_START)

-- the first free blocks from this one on that stand one behind the other, as far as they go
pub record IsGap (used : List Subdisk) (disk from end : ℕ) (gap : Gap) : Type 0 where
  pub behind : from ≤ gap.start
  pub within : gap.start + gap.blocks ≤ end
  pub some : gap.start < end → 0 < gap.blocks
  pub before : (b : ℕ) → from ≤ b → b < gap.start → is_free used disk b ≡ false
  pub free : (b : ℕ) → gap.start ≤ b → b < gap.start + gap.blocks → is_free used disk b ≡ true
  pub stops : gap.start + gap.blocks < end → is_free used disk (gap.start + gap.blocks) ≡ false

-- a run that begins at the lowest free block from this one on, and goes on as long as blocks are free and so many wanted
pub record IsNext (used : List Subdisk) (disk from end wanted : ℕ) (s : Subdisk) : Type 0 where
  pub on : s.disk ≡ disk
  pub some : 0 < s.blocks
  pub few : s.blocks ≤ wanted
  pub behind : from ≤ s.start
  pub within : s.start + s.blocks ≤ end
  pub before : (b : ℕ) → from ≤ b → b < s.start → is_free used disk b ≡ false
  pub free : (b : ℕ) → s.start ≤ b → b < s.start + s.blocks → is_free used disk b ≡ true
  pub stops : s.blocks < wanted → s.start + s.blocks < end → is_free used disk (s.start + s.blocks) ≡ false

-- so many of the lowest free blocks of a disk from this one on, as runs in order
abbrev pub AreLowest : List Subdisk → ℕ → ℕ → ℕ → ℕ → List Subdisk → Type 0
AreLowest used disk from end wanted [] = wanted ≡ 0
AreLowest used disk from end wanted (s ∷ ss) = IsNext used disk from end wanted s × AreLowest used disk (s.start + s.blocks) end (wanted - s.blocks) ss

-- they were put behind others
pub record AddsLowest (used : List Subdisk) (disk end wanted : ℕ) (old new : List Subdisk) : Type 0 where
  pub runs : List Subdisk
  pub are : AreLowest used disk PUBLIC_START end wanted runs
  pub is : new ≡ old ++ runs

-- so many blocks from this one on are free, one behind the other
pub record HasRun (used : List Subdisk) (disks : List DiskEntry) (count disk block : ℕ) : Type 0 where
  pub public : PUBLIC_START ≤ block
  pub end : block + count ≤ disk_blocks disks disk
  pub free : (b : ℕ) → block ≤ b → b < block + count → is_free used disk b ≡ true

-- the lowest run of so many blocks, on the lowest disk that has one
pub record IsLowestRun (used : List Subdisk) (disks : List DiskEntry) (count : ℕ) (s : Subdisk) : Type 0 where
  pub blocks : s.blocks ≡ count
  pub run : HasRun used disks count s.disk s.start
  pub first : (disk block : ℕ) → HasRun used disks count disk block → (s.disk < disk) ⊎ ((s.disk ≡ disk) × (s.start ≤ block))

-- no disk has so many, and this is the longest run
pub record HasNoRun (used : List Subdisk) (disks : List DiskEntry) (count longest : ℕ) : Type 0 where
  pub short : longest < count
  pub some : (longest ≡ 0) ⊎ ((disk : ℕ) × (block : ℕ) × HasRun used disks longest disk block)
  pub most : (disk block n : ℕ) → 0 < n → HasRun used disks n disk block → n ≤ longest
