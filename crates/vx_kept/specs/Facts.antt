-- The invariant of a group as facts, which have no choice in them: a ghost field can hold them.
use Rattle.std.specs.Prelude.{◌≡◌, ℕ, ◌<◌, Bool, true, false, List, is_some}
use Rattle.vx_disk.specs.Shelf.{Each, Image, Meaning}
use Rattle.vx_copyfmt.specs.Areas.{header_of}
use Rattle.vx_copyfmt.specs.Commits.{Among, IsHeaderBlock, IsTop, target_of}
use Rattle.vx_copyfmt.specs.Copies.{Disk, area_a, area_b, copy_at}
use Rattle.vx_copyfmt.specs.Imports.{Damaged, Format, Found, Missing, NoConfig, ImportOutcome}
use Rattle.vx_copyfmt.specs.declared.area.AreaHeader.{AreaHeader}
use Rattle.vx_config.specs.declared.config.Config.{Config}
use Rattle.vx_copies.specs.Commits.{Below, HaveLabels, HeldGood}
use Rattle.vx_copies.specs.Looking.{on_shelf}
use Rattle.vx_kept.specs.Groups.{found, found_by}
use Rattle.vx_kept.specs.Keeping.{Kin}

-- whether a configuration was found
abbrev pub is_found : ImportOutcome Config → Bool
is_found (Found x) = true
is_found (Missing disk) = false
is_found NoConfig = false
is_found (Damaged disk block stored computed) = false
is_found (Format version) = false

-- the disks keep a configuration of the group's kind
pub record KeptFact (c : Config) (good : ℕ → Type 0) (m : Meaning) : Type 0 where
  pub below : Below c m
  pub counts : (u : ℕ) (d : Disk) (a : ℕ) (h : AreaHeader) → u < m.units → IsHeaderBlock a → Among (m.leaves u) d → IsTop d a h → is_some (copy_at (on_shelf m) d a) ≡ true
  pub labels : HaveLabels m
  pub finds : (i : Image) → Each m.leaves i → is_found (found m i) ≡ true
  pub kin : (i : Image) (x : Config) → Each m.leaves i → found m i ≡ Found x → Kin c x
  pub others : (i : Image) (readable : ℕ → Bool) (g : ℕ) (x : Config) → Each m.leaves i → good g → readable g ≡ true → found_by m readable i ≡ Found x → Kin c x

-- whatever a crash leaves of a disk that is held as good, the next copy goes to one area
pub record TidyFact (c : Config) (m : Meaning) : Type 0 where
  pub goes : (u : ℕ) (v w x y : List ℕ) → HeldGood c m u → m.leaves u area_a v → m.leaves u area_b w → m.leaves u area_a x → m.leaves u area_b y → target_of (header_of v) (header_of w) ≡ target_of (header_of x) (header_of y)
