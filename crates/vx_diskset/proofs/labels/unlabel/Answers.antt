-- `unlabel`: a read, and the zeros behind it.
use Rattle.std.proofs.Common.{subst, sym}
use Rattle.std.specs.Prelude.{IfErr}
use Rattle.vx_disk.specs.Causes.{DeviceCause, refusal_of}
use Rattle.vx_disk.proofs.Causing.{cause_before}
use Rattle.vx_disk.proofs.Runs.{nothing_then, weaker}
use Rattle.vx_disk.proofs.Spending.{then_spends}
use Rattle.vx_disk.specs.Shelf.{Nothing}
use Rattle.vx_diskset.specs.Zeros.{OnlyZeros}
use Rattle.vx_diskset.proofs.labels.unlabel.Goals as goal

pub returns-in-Ok-clause-zeroes : goal.returns-in-Ok-clause-zeroes
returns-in-Ok-clause-zeroes g c = record {
  goes = nothing_then OnlyZeros (g.R.Shelf.meaning c.args.rack.now) (g.R.Shelf.meaning c.has_label_at.new.rack) (g.R.Shelf.meaning c.zero_front.new.rack) c.has_label_at.ensures.goes c.zero_front.ensures.goes;
  spends = then_spends (g.R.Shelf.meaning c.args.rack.now) (g.R.Shelf.meaning c.has_label_at.new.rack) (g.R.Shelf.meaning c.zero_front.new.rack) c.has_label_at.ensures.spends c.zero_front.ensures.spends;
}

pub returns-in-Err-clause-zeroes : goal.returns-in-Err-clause-zeroes
returns-in-Err-clause-zeroes g c = record {
  goes = nothing_then OnlyZeros (g.R.Shelf.meaning c.args.rack.now) (g.R.Shelf.meaning c.has_label_at.new.rack) (g.R.Shelf.meaning c.zero_front.new.rack) c.has_label_at.ensures.goes c.zero_front.ensures.goes;
  spends = then_spends (g.R.Shelf.meaning c.args.rack.now) (g.R.Shelf.meaning c.has_label_at.new.rack) (g.R.Shelf.meaning c.zero_front.new.rack) c.has_label_at.ensures.spends c.zero_front.ensures.spends;
}

pub returns-in-Err-clause-cause : goal.returns-in-Err-clause-cause
returns-in-Err-clause-cause g c =
    subst (λ no. DeviceCause (g.R.Shelf.meaning c.args.rack.now) (g.R.Shelf.meaning c.zero_front.new.rack) no) (sym c.refusal.ensures)
    (cause_before (g.R.Shelf.meaning c.args.rack.now) (g.R.Shelf.meaning c.has_label_at.new.rack) (g.R.Shelf.meaning c.zero_front.new.rack) c.has_label_at.ensures.goes.disk_faults (refusal_of c.in-Err.error)
    (subst (λ r. IfErr r (λ e. DeviceCause (g.R.Shelf.meaning c.has_label_at.new.rack) (g.R.Shelf.meaning c.zero_front.new.rack) (refusal_of e))) c.in-Err.is c.zero_front.ensures.cause))

pub returns-else-has_label_at-clause-zeroes : goal.returns-else-has_label_at-clause-zeroes
returns-else-has_label_at-clause-zeroes g c = record {
  goes = weaker Nothing OnlyZeros (g.R.Shelf.meaning c.args.rack.now) (g.R.Shelf.meaning c.has_label_at.new.rack) c.has_label_at.ensures.goes (λ u b v none. absurd none);
  spends = c.has_label_at.ensures.spends;
}
