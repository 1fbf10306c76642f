-- What an import asks of disks, as facts without a choice: a ghost field can hold them.
use Rattle.std.specs.Prelude.{◌≡◌, ℕ, ◌<◌, Bool, true, is_some}
use Rattle.vx_disk.specs.Shelf.{Each, Image, Meaning}
use Rattle.vx_config.specs.declared.config.Config.{Config}
use Rattle.vx_copyfmt.specs.Commits.{Among, IsHeaderBlock, IsTop}
use Rattle.vx_copyfmt.specs.Copies.{Disk, copy_at}
use Rattle.vx_copyfmt.specs.Imports.{Found}
use Rattle.vx_copyfmt.specs.declared.area.AreaHeader.{AreaHeader}
use Rattle.vx_copies.specs.Commits.{Below, HaveLabels}
use Rattle.vx_copies.specs.Looking.{on_shelf}
use Rattle.vx_kept.specs.Facts.{is_found}
use Rattle.vx_kept.specs.Groups.{found, found_by}
use Rattle.vx_kept.specs.Trusts.{is_plain}

-- The disks may be imported: where an image has a configuration, each disk has a label and a greater header that counts, and no header that a crash may
-- leave is above it; and whichever disks can be read, an import finds the one of every image, or is refused with 8 or 9.
pub record ImportFact (m : Meaning) : Type 0 where
  pub below : (i : Image) (x : Config) → Each m.leaves i → found m i ≡ Found x → Below x m
  pub counts : (i : Image) (x : Config) (u : ℕ) (d : Disk) (a : ℕ) (h : AreaHeader) → Each m.leaves i → found m i ≡ Found x → u < m.units → IsHeaderBlock a → Among (m.leaves u) d → IsTop d a h
      → is_some (copy_at (on_shelf m) d a) ≡ true
  pub labels : (i : Image) (x : Config) → Each m.leaves i → found m i ≡ Found x → HaveLabels m
  pub finds : (i j : Image) (readable : ℕ → Bool) (x : Config) → Each m.leaves i → Each m.leaves j → found_by m readable i ≡ Found x → is_found (found m j) ≡ true
  pub one : (i j : Image) (readable : ℕ → Bool) (x y : Config) → Each m.leaves i → Each m.leaves j → found_by m readable i ≡ Found x → found m j ≡ Found y → y ≡ x
  pub plain : (i : Image) (readable : ℕ → Bool) (x : Config) → Each m.leaves i → found m i ≡ Found x → is_plain (found_by m readable i) ≡ true
