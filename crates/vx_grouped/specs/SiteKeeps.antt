-- Which blocks of a write the disks of a site with a group have.
use Rattle.std.specs.Prelude.{◌≡◌, ℕ, Bool, List, Result, Ok, Err, IfErr, IfOk}
use Rattle.vx_model.specs.declared.no.No.{No}
use Rattle.vx_model.specs.declared.no.No.TheVariants.{Device}
use Rattle.vx_disk.specs.Causes.{DeviceCause}
use Rattle.vx_disk.specs.Counts.{Rose}
use Rattle.vx_disk.specs.Shelf.{Goes, Meaning, Nothing}
use Rattle.vx_disk.specs.declared.shelf.Shelf.{Ghosts}
use Rattle.vx_history.specs.Groups.{GroupNode}
use Rattle.vx_history.specs.Steps.{worked}
use Rattle.vx_history.specs.World.{Node}
use Rattle.vx_group.specs.Holding.{wide}
use Rattle.vx_group.specs.Stands.{inner_meaning}
use Rattle.vx_group.specs.declared.group_core.GroupCore.{GroupCore}
use Rattle.vx_grouped.specs.GroupNotes.{IsGroupAt}
use Rattle.vx_grouped.specs.GroupSites.{UpNoted, site_disks}
use Rattle.vx_grouped.specs.Keepings.{KeepsPlain}
use Rattle.vx_grouped.specs.Plain.{HoldsPlain}
use Rattle.vx_grouped.specs.declared.group_site.GroupSite.{GroupSite}

-- what was read of the blocks of a write, by the parts of the group
pub record PlainKeeps (vol block : ℕ) (bytes : List ℕ) (c : GroupCore) (m : Meaning) (d : GroupCore) (m' : Meaning) (r : Result (List Bool) No) : Type 0 where
  pub kept : (note : GroupNode) → HoldsPlain note (inner_meaning (wide c) m) → IfOk r (KeepsPlain note m vol block bytes)
  pub stays : (n : Node) (note : GroupNode) → IsGroupAt n note c m → IsGroupAt n note d m'
  pub goes : Goes Nothing (inner_meaning (wide c) m) (inner_meaning (wide d) m')
  pub same : d.inner.config ≡ c.inner.config
  pub cause : IfErr r (DeviceCause m m')

module _ {R : Type 0} {g : Ghosts R} where
  -- of each block of a write whether it has what was to be written, or a disk failed
  abbrev pub PlainKept : Node → GroupNode → ℕ → ℕ → List ℕ → GroupSite R g → GroupSite R g → Result (List Bool) No → Type 0
  PlainKept n note vol block bytes old new (Ok bits) = KeepsPlain note (site_disks old) vol block bytes bits × UpNoted (worked n) note new
  PlainKept n note vol block bytes old new (Err (Device disk)) = UpNoted (worked n) note new × Rose ((site_disks old).disk_faults disk) ((site_disks new).disk_faults disk)
  PlainKept n note vol block bytes old new (Err other) = ⊥
