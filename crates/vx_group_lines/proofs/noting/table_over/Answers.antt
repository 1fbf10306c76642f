-- `table_over`: its configuration is sound, and so the replicated volume group lies on its volumes.
use Rattle.std.proofs.Common.{◌∙◌, ap, List}
use Rattle.vx_config.specs.Checks.{is_group}
use Rattle.vx_config.specs.declared.entry.VolumeEntry.{VolumeEntry}
use Rattle.vx_diskset.proofs.UnitsLie.{sound_group}
use Rattle.vx_group_lines.proofs.noting.table_over.Goals as goal

pub kinds_seen-requires-clause-group : goal.kinds_seen-requires-clause-group
kinds_seen-requires-clause-group c =
    ap (λ (vs : List VolumeEntry). is_group vs c.in-Some.units) c.as_slice.ensures.volumes ∙ sound_group c.args.config.now c.in-Some.units c.requires.sound c.in-Some.is
