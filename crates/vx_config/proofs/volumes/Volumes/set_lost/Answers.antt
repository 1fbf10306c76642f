-- The loss of a log of a volume, by its place.
use Rattle.std.proofs.Common.{ap, arith, sym, ◌∙◌, Option}
use Rattle.vx_config.specs.Changes.{with_lost}
use Rattle.vx_config.specs.declared.entry.LogEntry.{LogEntry}
use Rattle.vx_config.specs.declared.entry.VolumeLog.{VolumeLog}
use Rattle.vx_config.proofs.Changed.{changed-item, changed-none}
use Rattle.vx_config.proofs.volumes.Volumes.set_lost.Goals as goal

pub returns-in-Drl : goal.returns-in-Drl
returns-in-Drl c =
    changed-item (with_lost c.args.log c.args.lost) c.args.volume c.args.self.now c.self.inside.volumes.items c.index_mut-entry.result.now _ c.self.view_is (omega arith) c.index_mut-entry.ensures.value
    (ap (λ (o : Option LogEntry). record c.index_mut-entry.result.now { drl = o }) c.lost_as-entry.ensures ∙ ap (λ (l : VolumeLog). with_lost l c.args.lost c.index_mut-entry.result.now) (sym c.in-Drl.is))

pub returns-in-Fmr : goal.returns-in-Fmr
returns-in-Fmr c =
    changed-item (with_lost c.args.log c.args.lost) c.args.volume c.args.self.now c.self.inside.volumes.items c.index_mut-entry.result.now _ c.self.view_is (omega arith) c.index_mut-entry.ensures.value
    (ap (λ (o : Option LogEntry). record c.index_mut-entry.result.now { fmr = o }) c.lost_as-entry-in-Fmr.ensures ∙ ap (λ (l : VolumeLog). with_lost l c.args.lost c.index_mut-entry.result.now) (sym c.in-Fmr.is))

pub returns-else-volume-len : goal.returns-else-volume-len
returns-else-volume-len c = changed-none (with_lost c.args.log c.args.lost) c.args.volume c.args.self.now c.self.inside.volumes.items c.self.view_is (omega arith)
