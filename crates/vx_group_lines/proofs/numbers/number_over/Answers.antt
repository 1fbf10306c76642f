-- `number_over`: a configuration has few volumes.
use Rattle.std.proofs.Common.{◌≤◌, List, length, subst, sym}
use Rattle.vx_model.specs.declared.limits.TheConstants.{MOST_VOLUMES}
use Rattle.vx_config.specs.declared.entry.VolumeEntry.{VolumeEntry}
use Rattle.vx_group_lines.proofs.numbers.number_over.Goals as goal

pub place_in-requires : goal.place_in-requires
place_in-requires c = record { few = subst (λ (vs : List VolumeEntry). length vs ≤ MOST_VOLUMES) (sym c.as_slice.ensures.volumes) c.as_slice.ensures.few }
