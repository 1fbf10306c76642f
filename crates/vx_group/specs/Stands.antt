-- What stands on the disks of a group beside what its core says.
use Rattle.std.specs.Prelude.{◌≡◌, ℕ, ◌<◌, ◌≤◌, ◌^◌, true, false, Some, List, length, slice_index_or}
use Rattle.vx_model.specs.declared.limits.TheConstants.{MOST_VOLUMES}
use Rattle.vx_model.specs.declared.units.Units.{Units}
use Rattle.vx_disk.specs.Shelf.{Meaning}
use Rattle.vx_config.specs.Checks.{blocks_of}
use Rattle.vx_config.specs.Configs.{UnitsFit}
use Rattle.vx_config.specs.Table.{greatest}
use Rattle.vx_copies.specs.Bodies.{is_wanted}
use Rattle.vx_copies.specs.Marks.{NoneGood}
use Rattle.vx_copyio.specs.Labelling.{AreLarge}
use Rattle.vx_kept.specs.Commits.{Member}
use Rattle.vx_kept.specs.Facts.{KeptFact, TidyFact}
use Rattle.vx_kept.specs.Groups.{group_meaning}
use Rattle.vx_kept.specs.Keeping.{AllOn}
use Rattle.vx_kept.specs.Trusts.{Trusts}
use Rattle.vx_group.specs.declared.inner.Inner.{Inner}

-- the count of faults of a volume
abbrev pub volume_faults : List ℕ → ℕ → ℕ
volume_faults faults v = slice_index_or faults v 0

-- the group as a shelf
abbrev pub inner_meaning : Inner → Meaning → Meaning
inner_meaning core m = group_meaning core.config (volume_faults core.faults) m

-- The configuration is checked and fits the shelf, each plex that takes part is ACTIVE, some disk of the set is held as good, and the disks
-- keep it. They are ready for the next commit, unless one was refused; and imports find of them what the flags say.
pub record InnerStands (core : Inner) (m : Meaning) : Type 0 where
  pub wanted : is_wanted m.units m.size core.config ≡ true
  pub serial : core.config.serial ≤ greatest
  pub disks : 0 < length core.config.disks
  pub rvg : (u : Units) → core.config.rvg ≡ Some u → UnitsFit u
  pub few : length core.config.volumes ≤ MOST_VOLUMES
  pub small : (v : ℕ) → blocks_of core.config.volumes v < 2 ^ 64
  pub large : AreLarge m
  pub on : AllOn core.config
  pub some : NoneGood core.config.disks (length core.config.disks) core.good → ⊥
  pub kept : KeptFact core.config (Member core.good m) m
  pub tidy : core.unsettled ≡ false → TidyFact core.config m
  pub trusts : Trusts core.committed core.agreed core.good m
