-- Disks that are made to fail, below a replicated volume group.
use Rattle.std.proofs.Common.{◌<◌, ◌∙◌, subst, sym}
use Rattle.vx_grouped.specs.GroupSites.{laid_disks}
use Rattle.vx_diskset.specs.Founded.{LaidFails}
use Rattle.vx_diskset.proofs.OverDisks.{carried_laid, laid_sound}
use Rattle.vx_diskset.proofs.founded.Founded.fail.Goals as goal

pub fail-laid-requires-after_bounds : goal.fail-laid-requires-after_bounds
fail-laid-requires-after_bounds g c = λ κs lives. subst (λ l. c.args.disk < (laid_disks l).units) (sym c.apart-laid.ensures.laid) c.requires.there

pub together-requires-after_bounds : goal.together-requires-after_bounds
together-requires-after_bounds g c = λ κs lives. laid_sound c.apart-laid.result.1 c.apart-laid.result.0 c.fail-laid.result c.fail-laid.ensures.volumes c.fail-laid.ensures.down c.apart-laid.ensures.sound

pub returns : goal.returns
returns g c = record {
  fails = (
    c.together.ensures.core ∙ c.apart-laid.ensures.core,
    carried_laid (λ l k. LaidFails c.args.disk c.args.on l k) c.args.self.laid c.apart-laid.result.0 c.together.result.laid c.fail-laid.result c.apart-laid.ensures.laid c.together.ensures.laid
        (record { core = c.fail-laid.ensures.core; alike = c.fail-laid.ensures.alike; down = c.fail-laid.ensures.down; armed = c.fail-laid.ensures.armed; disks = c.fail-laid.ensures.disks; volumes = c.fail-laid.ensures.volumes; told = c.fail-laid.ensures.told }),
  );
}
