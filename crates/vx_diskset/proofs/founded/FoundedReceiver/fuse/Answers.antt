-- The fuse of the disks below a replicated volume group that receives.
use Rattle.std.proofs.Common.{◌∙◌}
use Rattle.vx_diskset.specs.Founded.{LaidFuses}
use Rattle.vx_diskset.proofs.OverDisks.{carried_laid, laid_sound, laid_waits}
use Rattle.vx_diskset.proofs.founded.FoundedReceiver.fuse.Goals as goal

pub together-requires-clause-sound : goal.together-requires-clause-sound
together-requires-clause-sound g c = λ κs lives. laid_sound c.apart-laid.result.1 c.apart-laid.result.0 c.fuse-laid.result c.fuse-laid.ensures.volumes c.fuse-laid.ensures.down c.apart-laid.ensures.sound

pub together-requires-clause-waits : goal.together-requires-clause-waits
together-requires-clause-waits g c = λ κs lives. laid_waits c.apart-laid.result.1 c.apart-laid.result.0 c.fuse-laid.result c.fuse-laid.ensures.volumes c.fuse-laid.ensures.down c.apart-laid.result.2 c.apart-laid.ensures.waits

pub returns : goal.returns
returns g c = record {
  fuses = (
    c.together.ensures.core ∙ c.apart-laid.ensures.core,
    c.together.ensures.waiting ∙ c.apart-laid.ensures.waiting,
    carried_laid (λ l k. LaidFuses c.args.calls c.args.pick l k) c.args.self.laid c.apart-laid.result.0 c.together.result.laid c.fuse-laid.result c.apart-laid.ensures.laid c.together.ensures.laid
        (record { core = c.fuse-laid.ensures.core; alike = c.fuse-laid.ensures.alike; down = c.fuse-laid.ensures.down; disks = c.fuse-laid.ensures.disks; volumes = c.fuse-laid.ensures.volumes; told = c.fuse-laid.ensures.told }),
  );
}
