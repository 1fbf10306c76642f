-- `has_few_subdisks`: its result.
use Rattle.std.proofs.Common.{ap, ◌∙◌, List, Option, ℕ}
use Rattle.std.specs.Prelude.{is_some, sum_by}
use Rattle.vx_config.specs.Configs.{left_of, volume_subdisks}
use Rattle.vx_config.specs.declared.entry.VolumeEntry.{VolumeEntry}
use Rattle.vx_config.proofs.CountLemmas.{is_some-left}
use Rattle.vx_config.proofs.shape.has_few_subdisks.Goals as goal

pub returns : goal.returns
returns c =
    c.is_some.ensures ∙ ap (λ (o : Option ℕ). is_some o) c.left_by_volumes.ensures
    ∙ ap (λ (vs : List VolumeEntry). is_some (left_of 1024 (sum_by volume_subdisks vs))) c.as_slice.ensures.volumes
    ∙ is_some-left 1024 (sum_by volume_subdisks c.args.config.now.volumes)
