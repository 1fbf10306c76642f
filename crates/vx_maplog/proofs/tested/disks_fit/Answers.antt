-- Whether each disk fits, one after another.
use Rattle.std.proofs.Common.{arith}
use Rattle.vx_maplog.proofs.Fits.{fit_all, fit_next, size_there, unit_there}
use Rattle.vx_maplog.proofs.tested.disks_fit.Goals as goal

pub returns-then-k-units-clause-only : goal.returns-then-k-units-clause-only
returns-then-k-units-clause-only g c = λ fit.
    absurd (omega (arith, c.if-k-units.true, c.units.ensures, unit_there c.loop-k.k c.args.disks.now (g.S.Shelf.meaning c.args.shelf.now) fit (omega (arith, c.loop-k-test.true))))

pub returns-then-size-disk_blocks-clause-only : goal.returns-then-size-disk_blocks-clause-only
returns-then-size-disk_blocks-clause-only g c = λ fit.
    absurd (omega (arith, c.if-size-disk_blocks.true, c.size.ensures, c.disk_blocks.ensures, size_there c.loop-k.k c.args.disks.now (g.S.Shelf.meaning c.args.shelf.now) fit (omega (arith, c.loop-k-test.true))))

pub loop-k-preserved : goal.loop-k-preserved
loop-k-preserved g c =
    fit_next c.loop-k.k c.args.disks.now (g.S.Shelf.meaning c.args.shelf.now) c.loop-k.invariant (omega (arith, c.if-k-units.false, c.units.ensures))
    (omega (arith, c.if-size-disk_blocks.false, c.size.ensures, c.disk_blocks.ensures))

pub returns-clause-fit : goal.returns-clause-fit
returns-clause-fit g c = λ is. fit_all c.loop-k.k c.args.disks.now (g.S.Shelf.meaning c.args.shelf.now) c.loop-k.invariant (omega (arith, c.loop-k-test.false))
