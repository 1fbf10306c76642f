-- The volumes of a group that are its replicated volume group, and how they are named.
use Rattle.std.specs.Prelude.{◌≡◌, ◌-◌, not, nat_lt, if◌then◌else◌, Option, Some, None, Result, Ok, Err}
use Rattle.vx_disk.specs.Shelf.{Meaning}
use Rattle.vx_model.specs.declared.no.Counted.TheVariants.{Number}
use Rattle.vx_model.specs.declared.no.No.{No}
use Rattle.vx_model.specs.declared.no.No.TheVariants.{Limit, Size}
use Rattle.vx_model.specs.declared.units.Units.{Units}
use Rattle.vx_config.specs.Checks.{is_group}
use Rattle.vx_config.specs.Table.{greatest}
use Rattle.vx_config.specs.declared.config.Config.{Config}
use Rattle.vx_kept.specs.Commits.{IsCommitted}
use Rattle.vx_group.specs.Dets.{margin}

-- the configuration with another replicated volume group, or none
abbrev pub with_rvg : Option Units → Config → Config
with_rvg rvg c = record { serial = c.serial; site = c.site; disks = c.disks; volumes = c.volumes; rvg = rvg }

-- The first refusal that holds: too few serials are left, or the volumes may not be a replicated volume group.
abbrev pub set_rvg_refusal : Config → Units → Option No
set_rvg_refusal c u = if nat_lt (greatest - margin) c.serial then Some (Limit Number greatest) else (if not (is_group c.volumes u) then Some Size else None)

-- these volumes are the replicated volume group, in memory and by each image that a crash may leave
pub record NamesRvg (units : Units) (d : Config) (m : Meaning) : Type 0 where
  pub named : d.rvg ≡ Some units
  pub committed : IsCommitted d m

-- How that ends: where it is refused memory has the group of before, or none.
abbrev pub RvgEnds : {T E : Type 0} → Units → Config → Config → Meaning → Result T E → Type 0
RvgEnds units c d m (Ok x) = NamesRvg units d m
RvgEnds units c d m (Err error) = d.rvg ≡ c.rvg
