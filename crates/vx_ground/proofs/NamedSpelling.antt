-- A configuration that has a spelling has one with a replicated volume group too, whose numbers fit their fields.
use Rattle.std.proofs.Common.{◌≤◌, Some, length, arith}
use Rattle.vx_config.specs.Configs.{HasSpelling, UnitsFit}
use Rattle.vx_config.specs.Table.{config as config_form, format_1, units as units_form}
use Rattle.vx_config.specs.declared.config.Config.{Config}
use Rattle.vx_config.proofs.FitLemmas.{numbers_fit}
use Rattle.vx_kept.specs.Cleans.{at_serial}
use Rattle.vx_group.specs.Rvgs.{with_rvg}
use Rattle.vx_model.specs.declared.limits.TheConstants.{MOST_DATA_VOLUMES, MOST_DISKS}
use Rattle.vx_model.specs.declared.units.Units.{Units}

units_spelled : (u : Units) → UnitsFit u → length u.vols ≤ MOST_DATA_VOLUMES → units_form.Fits u
unfolding units_form
units_spelled u fit few = (fit.srl, (fit.maps, (omega arith, few, numbers_fit u.vols fit.vols)))

pub named_spelled : (c : Config) (u : Units) → HasSpelling (at_serial 0 c) → UnitsFit u → length u.vols ≤ MOST_DATA_VOLUMES → HasSpelling (at_serial 0 (with_rvg (Some u) c))
unfolding HasSpelling config_form format_1
named_spelled c u has fit few = (has.0, (has.1.0, (has.1.1.0, (has.1.1.1.0, units_spelled u fit few))))

-- it has no more disks than a group may have
pub spelled_few : (c : Config) → HasSpelling (at_serial 0 c) → length c.disks ≤ MOST_DISKS
unfolding HasSpelling config_form format_1
spelled_few c has = has.1.1.0.1
