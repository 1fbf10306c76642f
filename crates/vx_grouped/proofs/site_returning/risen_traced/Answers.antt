-- Disks that are up again.
use Rattle.std.proofs.Common.{◌≡◌, IsFalse, IsTrue}
use Rattle.vx_disk.specs.Racks.{Alike}
use Rattle.vx_group.specs.Resumes.{CanImport}
use Rattle.vx_grouped.specs.SiteReturns.{ReturnSince}
use Rattle.vx_grouped.proofs.SinceReturns.{return_alike}
use Rattle.vx_grouped.proofs.TraceLemmas.{carried_both, carried_off, carried_on}
use Rattle.vx_grouped.proofs.site_returning.risen_traced.Goals as goal

pub returns-clause-alike : goal.returns-clause-alike
returns-clause-alike g c = carried_both (λ m m'. Alike m m') c.args.rack c.traced-inside.result c.untraced.result c.revive_shaded.new.rack c.traced-inside.ensures c.untraced.ensures.shade c.revive_shaded.ensures.alike

pub returns-clause-up : goal.returns-clause-up
returns-clause-up g c = carried_off (λ m. IsFalse m.down) c.untraced.result c.revive_shaded.new.rack c.untraced.ensures.shade c.revive_shaded.ensures.up

pub returns-clause-armed : goal.returns-clause-armed
returns-clause-armed g c = carried_both (λ m m'. m'.armed ≡ m.armed) c.args.rack c.traced-inside.result c.untraced.result c.revive_shaded.new.rack c.traced-inside.ensures c.untraced.ensures.shade c.revive_shaded.ensures.armed

pub returns-clause-can : goal.returns-clause-can
returns-clause-can g c = carried_both (λ m m'. CanImport m → CanImport m') c.args.rack c.traced-inside.result c.untraced.result c.revive_shaded.new.rack c.traced-inside.ensures c.untraced.ensures.shade c.revive_shaded.ensures.can

pub returns-clause-since : goal.returns-clause-since
returns-clause-since g c =
    carried_both (λ m m'. ReturnSince m m') c.args.rack c.traced-inside.result c.untraced.result c.revive_shaded.new.rack c.traced-inside.ensures c.untraced.ensures.shade (return_alike _ _ c.revive_shaded.ensures.alike c.revive_shaded.ensures.disks)

pub revive_shaded-requires-clause-down : goal.revive_shaded-requires-clause-down
revive_shaded-requires-clause-down g c = λ κs within. carried_on (λ m. IsTrue m.down) c.args.rack c.traced-inside.result c.traced-inside.ensures c.requires.down
