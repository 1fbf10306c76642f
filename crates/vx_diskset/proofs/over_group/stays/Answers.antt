-- A group that stays up, or crashes.
use Rattle.std.proofs.Common.{◌∙◌, refl, sym}
use Rattle.vx_disk.specs.Disks.{Crashed}
use Rattle.vx_grouped.specs.GroupSites.{idle_disks, laid_disks}
use Rattle.vx_watched.proofs.SinceLemmas.{since_none, since_stop}
use Rattle.vx_diskset.proofs.over_group.stays.Goals as goal

pub returns-then-is_down-clause-since : goal.returns-then-is_down-clause-since
returns-then-is_down-clause-since g c =
    since_stop (laid_disks c.args.laid) (laid_disks c.args.laid) (idle_disks c.fell_idle-idle.result) (Crashed (laid_disks c.args.laid).size 0xffff_ffff_ffff_ffff) (since_none (laid_disks c.args.laid)) (sym c.is_down.ensures ∙ c.if-is_down.true) c.fell_idle-idle.ensures.stopped c.fell_idle-idle.ensures.disks

pub returns-then-is_down-clause-told : goal.returns-then-is_down-clause-told
returns-then-is_down-clause-told g c = c.fell_idle-idle.ensures.told

pub returns-then-is_down-clause-calm : goal.returns-then-is_down-clause-calm
returns-then-is_down-clause-calm g c = c.fell_idle-idle.ensures.stopped.unarmed

pub returns-then-is_down-clause-stays : goal.returns-then-is_down-clause-stays
returns-then-is_down-clause-stays g c = (
  record {
    down = sym c.is_down.ensures ∙ c.if-is_down.true;
    stopped = c.fell_idle-idle.ensures.stopped;
    away = c.fell_idle-idle.ensures.away;
    agreed = c.fell_idle-idle.ensures.agreed;
    told = c.fell_idle-idle.ensures.told;
    rests = c.fell_idle-idle.ensures.rests;
  },
  refl,
)

pub returns-clause-since : goal.returns-clause-since
returns-clause-since g c = since_none (laid_disks c.args.laid)

pub returns-clause-told : goal.returns-clause-told
returns-clause-told g c = λ told. told

pub returns-clause-calm : goal.returns-clause-calm
returns-clause-calm g c = sym c.is_down.ensures ∙ c.if-is_down.false

pub returns-clause-stays : goal.returns-clause-stays
returns-clause-stays g c = (refl, refl, sym c.is_down.ensures ∙ c.if-is_down.false)
