-- `any_label`: its loop.
use Rattle.std.proofs.Common.{arith, ◌∙◌, sym}
use Rattle.vx_disk.proofs.Runs.{then_nothing}
use Rattle.vx_disk.specs.Shelf.{Nothing}
use Rattle.vx_disk.proofs.Spending.{then_spends}
use Rattle.vx_diskset.proofs.LabelLemmas.{no_front_read, reads_none, reads_then}
use Rattle.vx_diskset.proofs.labels.any_label.Goals as goal

pub loop-disk-init : goal.loop-disk-init
loop-disk-init g c = reads_none (g.R.Shelf.meaning c.args.rack.now)

pub loop-disk-preserved : goal.loop-disk-preserved
loop-disk-preserved g c = reads_then (g.R.Shelf.meaning c.args.rack.now) (g.R.Shelf.meaning c.loop-disk.rack) (g.R.Shelf.meaning c.has_label_at.new.rack) c.loop-disk.invariant c.has_label_at.ensures.goes c.has_label_at.ensures.spends

pub returns-then-has_label_at-clause-none : goal.returns-then-has_label_at-clause-none
returns-then-has_label_at-clause-none g c = λ tells none.
    let keeps = (no_front_read (g.R.Shelf.meaning c.args.rack.now) (g.R.Shelf.meaning c.loop-disk.rack) c.loop-disk.invariant.goes none).each c.loop-disk.disk (omega (arith, c.loop-disk.invariant.goes.units, c.loop-disk-test.true, c.units-disk-end.ensures)) in
    let clash = sym (c.has_label_at.ensures.none (c.loop-disk.invariant.goes.tells ∙ tells) keeps) ∙ c.if-has_label_at.true in
    cc

pub returns-then-has_label_at-clause-goes : goal.returns-then-has_label_at-clause-goes
returns-then-has_label_at-clause-goes g c = then_nothing Nothing (g.R.Shelf.meaning c.args.rack.now) (g.R.Shelf.meaning c.loop-disk.rack) (g.R.Shelf.meaning c.has_label_at.new.rack) c.loop-disk.invariant.goes c.has_label_at.ensures.goes

pub returns-then-has_label_at-clause-spends : goal.returns-then-has_label_at-clause-spends
returns-then-has_label_at-clause-spends g c = then_spends (g.R.Shelf.meaning c.args.rack.now) (g.R.Shelf.meaning c.loop-disk.rack) (g.R.Shelf.meaning c.has_label_at.new.rack) c.loop-disk.invariant.spends c.has_label_at.ensures.spends

pub has_label_at-requires-clause-there : goal.has_label_at-requires-clause-there
has_label_at-requires-clause-there g c = omega (arith, c.loop-disk.invariant.goes.units, c.loop-disk-test.true, c.units-disk-end.ensures)

pub has_label_at-requires-clause-some : goal.has_label_at-requires-clause-some
has_label_at-requires-clause-some g c = omega (arith, c.loop-disk.invariant.goes.size c.loop-disk.disk, c.requires.large.each c.loop-disk.disk (omega (arith, c.loop-disk-test.true, c.units-disk-end.ensures)))
