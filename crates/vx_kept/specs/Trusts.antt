-- Which imports agree, whatever a crash leaves and whichever disks can be read.
use Rattle.std.specs.Prelude.{◌≡◌, ◌⊎◌, ℕ, ◌<◌, Bool, true, false, Result, Ok, Err, List, length}
use Rattle.vx_disk.specs.Blocks.{bit_at}
use Rattle.vx_disk.specs.Shelf.{Each, Image, Meaning}
use Rattle.vx_model.specs.declared.no.No.{No}
use Rattle.vx_copyfmt.specs.Imports.{Damaged, Format, Found, Missing, NoConfig, ImportOutcome}
use Rattle.vx_config.specs.declared.config.Config.{Config}
use Rattle.vx_config.specs.declared.entry.DiskEntry.{DiskEntry}
use Rattle.vx_copies.specs.Answers.{good_set}
use Rattle.vx_copies.specs.Marks.{failed_at}
use Rattle.vx_kept.specs.Groups.{found, found_by}

-- a configuration is found, or an import is refused with 8 or 9
abbrev pub is_plain : ImportOutcome Config → Bool
is_plain (Found x) = true
is_plain (Missing disk) = true
is_plain NoConfig = true
is_plain (Damaged disk block stored computed) = false
is_plain (Format version) = false

-- Where imports agree, each one finds in an image the configuration that is found by one that reads all disks, or is refused with 8 or 9. Where the
-- newest configuration is committed it is that of each image, and holds the disks of the set as good.
pub record Trusts (committed agreed : Bool) (good : ℕ) (m : Meaning) : Type 0 where
  pub both : committed ≡ true → agreed ≡ true
  pub agree : agreed ≡ true → (i : Image) (readable : ℕ → Bool) (x y : Config) → Each m.leaves i → found m i ≡ Found x → found_by m readable i ≡ Found y → y ≡ x
  pub plain : agreed ≡ true → (i : Image) (readable : ℕ → Bool) (x : Config) → Each m.leaves i → found m i ≡ Found x → is_plain (found_by m readable i) ≡ true
  pub one : committed ≡ true → (i j : Image) (x y : Config) → Each m.leaves i → Each m.leaves j → found m i ≡ Found x → found m j ≡ Found y → y ≡ x
  pub members : committed ≡ true → (i : Image) (x : Config) (u : ℕ) → Each m.leaves i → found m i ≡ Found x → u < m.units → bit_at good u ≡ true → failed_at x.disks u ≡ false

-- no disk is held as failed
pub record AllGood (disks : List DiskEntry) : Type 0 where
  pub each : (u : ℕ) → failed_at disks u ≡ false

-- each disk is
pub record FailsAll (disks : List DiskEntry) : Type 0 where
  pub each : (u : ℕ) → u < length disks → failed_at disks u ≡ true

-- some disk is
pub record HasFailed (disks : List DiskEntry) : Type 0 where
  pub disk : ℕ
  pub failed : failed_at disks disk ≡ true

-- What a commit makes of it: done, the newest configuration is committed where the one before was, or where no disk is held as failed; refused, imports
-- agree where the one before was committed.
abbrev pub TrustEnds : {T : Type 0} → Bool → ℕ → Config → Meaning → Result T No → Type 0
TrustEnds committed good d new (Ok x) = (now : Bool) → (now ≡ true → (committed ≡ true) ⊎ AllGood d.disks) → Trusts now now (good_set d.disks) new
TrustEnds committed good d new (Err why) = Trusts false committed good new

-- the first one: it is where no disk is held as failed
abbrev pub TrustFirst : {T : Type 0} → Config → Meaning → Result T No → Type 0
TrustFirst d new (Ok x) = (now : Bool) → (now ≡ true → AllGood d.disks) → Trusts now now (good_set d.disks) new
TrustFirst d new (Err why) = Unit {0}
