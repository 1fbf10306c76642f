-- What a read gives.
use Rattle.std.proofs.Common.{subst, ℕ}
use Rattle.vx_disk.specs.Causes.{Works}
use Rattle.vx_rvg.specs.Groups.{IsPatched}
use Rattle.vx_rvg.specs.Views.{Core}
use Rattle.vx_rvg.proofs.ReadAnswers.{shows_at}
use Rattle.vx_rvg.proofs.read.read_blocks.Goals as goal

pub returns-in-Ok-clause-gives : goal.returns-in-Ok-clause-gives
returns-in-Ok-clause-gives g c x rs covers tells =
    shows_at c.args.core.now x rs (g.S.Shelf.meaning c.args.shelf.now) covers (g.met.S.Shelf.lawful c.args.shelf.now) tells c.args.vol c.args.start c.unit-unit.result c.size-size.result c.requires.volume
    c.args.into.now c.read.new.into c.patch.new.into c.requires.blocks c.read.auto.into c.unit-unit.ensures c.size-size.ensures c.read_refusal.result c.read_refusal.ensures c.in_default.is c.in-Ok.ensures.ok
    (subst (λ (k : Core). IsPatched k.pending.entries c.args.vol c.args.start c.read.new.into c.patch.new.into) c.core.view_is c.patch.ensures)

pub returns-in-Ok-clause-works : goal.returns-in-Ok-clause-works
returns-in-Ok-clause-works g c = subst (λ (u : ℕ). Works (g.S.Shelf.meaning c.args.shelf.now).disks u) c.unit-unit.ensures c.in-Ok.ensures.works
