-- `flush_behind`: its clauses; what `miss_fallen` asks.
use Rattle.std.proofs.Common.{◌∙◌, inl, inr, ap, sym, arith}
use Rattle.vx_disk.specs.Shelf.{Nothing}
use Rattle.vx_disk.proofs.Causing.{Cause_both}
use Rattle.vx_disk.proofs.Runs.{then_nothing}
use Rattle.vx_group.specs.Holding.{wide}
use Rattle.vx_group.specs.Stands.{inner_meaning}
use Rattle.vx_group.proofs.FindingLemmas.{then_group}
use Rattle.vx_group.proofs.HoldLemmas.{narrow_sound}
use Rattle.vx_group.proofs.LoseLemmas.{then_along}
use Rattle.vx_group.proofs.TrustLemmas.{err_from, ok_from}
use Rattle.vx_grouplogs.proofs.GoneLemmas.{drop_then}
use Rattle.vx_logs.specs.Writes.{first_region, last_region}
use Rattle.vx_model.specs.Sizes.{regions_of as regions_in}
use Rattle.vx_volume.proofs.PlaceLemmas.{active_below, active_few}
use Rattle.vx_logged.specs.Begun.{fell_in, fell_now}
use Rattle.vx_logged.specs.Behind.{none_missing}
use Rattle.vx_logged.specs.Logged.{are_off}
use Rattle.vx_logged.proofs.BeginLemmas.{but_any, but_more, but_note, but_then}
use Rattle.vx_logged.proofs.FallenLemmas.{fell_all, fell_some, off_less, run_less}
use Rattle.vx_logged.proofs.GoneLogs.{trusts_less, trusts_then}
use Rattle.vx_logged.proofs.HoldsLemmas.{fell_still, fewer_only, inner_count, less_hold, narrow_inner, off_any, only_fewer}
use Rattle.vx_logged.proofs.StandLemmas.{flushed_then, others_then, narrowed_then}
use Rattle.vx_group.proofs.UnsureLemmas.{marks_then, missed_faults}
use Rattle.vx_logged.proofs.missing.flush_behind.Goals as goal

pub flush_cleared-requires-clause-log : goal.flush_cleared-requires-clause-log
flush_cleared-requires-clause-log g c = λ is. c.requires.log (c.requires.sure is)

pub miss_fallen-requires-clause-there : goal.miss_fallen-requires-clause-there
miss_fallen-requires-clause-there g c = omega (arith, c.requires.there, c.flush_cleared.ensures.goes.units)

pub miss_fallen-requires-clause-within : goal.miss_fallen-requires-clause-within
miss_fallen-requires-clause-within g c = let same = c.flush_cleared.ensures.goes.size c.args.vol in omega (arith, c.requires.within, same)

pub miss_fallen-requires-clause-log : goal.miss_fallen-requires-clause-log
miss_fallen-requires-clause-log g c = λ is. c.flush_cleared.ensures.log (c.requires.log is)

pub miss_fallen-requires-clause-exists : goal.miss_fallen-requires-clause-exists
miss_fallen-requires-clause-exists g c = λ p on.
    let low = active_below c.args.core.now.inner.config (narrow_sound c.args.core.now (g.S.Shelf.meaning c.args.shelf.now) c.requires.stands) c.args.vol p (c.actives-was.ensures.some p on) in
    let many = inner_count c.args.core.now c.flush_cleared.new.core c.args.vol (c.flush_cleared.ensures.loses.loses.frames c.args.vol) (c.flush_cleared.ensures.goes.size c.args.vol) in
    omega (arith, low, many)

pub miss_fallen-requires-clause-up : goal.miss_fallen-requires-clause-up
miss_fallen-requires-clause-up g c = c.in-Ok.ensures.cause.after

pub returns-in-Err-clause-adds : goal.returns-in-Err-clause-adds
returns-in-Err-clause-adds g c = only_fewer _ (first_region c.args.block) (last_region c.args.block c.args.count) c.args.logs.now c.flush_cleared.new.logs c.flush_cleared.ensures.fewer

pub returns-in-Err-clause-notes : goal.returns-in-Err-clause-notes
returns-in-Err-clause-notes g c = but_any (fell_in c.args.core.now c.flush_cleared.new.core c.args.vol) (are_off c.flush_cleared.new.core c.args.vol) (first_region c.args.block) (last_region c.args.block c.args.count) c.args.logs.now c.flush_cleared.new.logs c.flush_cleared.ensures.notes

pub returns-in-Err-clause-begins : goal.returns-in-Err-clause-begins
returns-in-Err-clause-begins g c = λ is. tt

pub returns-in-Err-clause-holds : goal.returns-in-Err-clause-holds
returns-in-Err-clause-holds g c = λ going some. tt

pub returns-in-Err-clause-agreed : goal.returns-in-Err-clause-agreed
returns-in-Err-clause-agreed g c = c.in-Err.ensures.agreed

pub returns-in-Err-clause-cause : goal.returns-in-Err-clause-cause
returns-in-Err-clause-cause g c = c.in-Err.ensures.cause

pub returns-clause-goes : goal.returns-clause-goes
returns-clause-goes g c = then_nothing Nothing (inner_meaning (wide c.args.core.now) (g.S.Shelf.meaning c.args.shelf.now)) (inner_meaning (wide c.flush_cleared.new.core) (g.S.Shelf.meaning c.flush_cleared.new.shelf)) (inner_meaning (wide c.miss_fallen.new.core) (g.S.Shelf.meaning c.miss_fallen.new.shelf)) c.flush_cleared.ensures.goes c.miss_fallen.ensures.goes

pub returns-clause-loses : goal.returns-clause-loses
returns-clause-loses g c = then_along c.args.core.now.inner.config c.flush_cleared.new.core.inner.config c.miss_fallen.new.core.inner.config (g.S.Shelf.meaning c.args.shelf.now) (g.S.Shelf.meaning c.flush_cleared.new.shelf) (g.S.Shelf.meaning c.miss_fallen.new.shelf) c.flush_cleared.ensures.loses c.miss_fallen.ensures.loses

pub returns-clause-ok : goal.returns-clause-ok
returns-clause-ok g c = ok_from c.miss_fallen.result (λ keeps. flushed_then c.args.vol (inner_meaning (wide c.args.core.now) (g.S.Shelf.meaning c.args.shelf.now)) (inner_meaning (wide c.flush_cleared.new.core) (g.S.Shelf.meaning c.flush_cleared.new.shelf)) (inner_meaning (wide c.miss_fallen.new.core) (g.S.Shelf.meaning c.miss_fallen.new.shelf)) c.in-Ok.ensures.ok c.miss_fallen.ensures.goes) c.miss_fallen.ensures.trust

pub returns-clause-log : goal.returns-clause-log
returns-clause-log g c = λ on. c.miss_fallen.ensures.log (c.flush_cleared.ensures.log on)

pub returns-clause-others : goal.returns-clause-others
returns-clause-others g c = others_then c.args.vol c.args.core.now c.flush_cleared.new.core c.miss_fallen.new.core (g.S.Shelf.meaning c.args.shelf.now) (g.S.Shelf.meaning c.flush_cleared.new.shelf) (g.S.Shelf.meaning c.miss_fallen.new.shelf) c.flush_cleared.ensures.others c.miss_fallen.ensures.others

pub returns-clause-adds : goal.returns-clause-adds
returns-clause-adds g c = fewer_only _ _ (first_region c.args.block) (last_region c.args.block c.args.count) c.args.logs.now c.flush_cleared.new.logs c.miss_fallen.new.logs (ap regions_in (c.flush_cleared.ensures.goes.size c.args.vol)) c.flush_cleared.ensures.fewer c.miss_fallen.ensures.adds

pub returns-clause-maps : goal.returns-clause-maps
returns-clause-maps g c = λ know. c.miss_fallen.ensures.maps (c.flush_cleared.ensures.maps know)

pub returns-clause-notes : goal.returns-clause-notes
returns-clause-notes g c =
    but_then (fell_in c.args.core.now c.miss_fallen.new.core c.args.vol) (are_off c.miss_fallen.new.core c.args.vol) (first_region c.args.block) (last_region c.args.block c.args.count) c.args.logs.now c.flush_cleared.new.logs c.miss_fallen.new.logs
    (but_any (fell_in c.args.core.now c.miss_fallen.new.core c.args.vol) (are_off c.miss_fallen.new.core c.args.vol) (first_region c.args.block) (last_region c.args.block c.args.count) c.args.logs.now c.flush_cleared.new.logs
    (but_more (fell_in c.args.core.now c.flush_cleared.new.core c.args.vol) (fell_in c.args.core.now c.miss_fallen.new.core c.args.vol) none_missing none_missing 0 0 c.args.logs.now c.flush_cleared.new.logs (fell_still c.args.core.now c.flush_cleared.new.core c.miss_fallen.new.core c.args.vol c.miss_fallen.ensures.still) (λ p is. is) c.flush_cleared.ensures.notes))
    (but_note (fell_in c.args.core.now c.miss_fallen.new.core c.args.vol) (are_off c.miss_fallen.new.core c.args.vol) (first_region c.args.block) (last_region c.args.block c.args.count) c.flush_cleared.new.logs c.miss_fallen.new.logs c.miss_fallen.ensures.notes)

pub returns-clause-begins : goal.returns-clause-begins
returns-clause-begins g c = λ is. ok_from c.miss_fallen.result (λ either. elim either [
  | inl run ↦ inl (run_less (fell_in c.args.core.now c.miss_fallen.new.core c.args.vol) (fell_now c.actives-was.result c.miss_fallen.new.core c.args.vol) (first_region c.args.block) (last_region c.args.block c.args.count) c.miss_fallen.new.logs
      (fell_all c.args.core.now c.miss_fallen.new.core c.args.vol c.actives-was.result (λ q on. c.actives-was.ensures.all q (active_few c.args.core.now.inner.config (narrow_sound c.args.core.now (g.S.Shelf.meaning c.args.shelf.now) c.requires.stands) c.args.vol q on) on)) run)
  | inr spent ↦ inr spent
]) (c.miss_fallen.ensures.begins (elim (c.in-Ok.ensures.begins is) [
  | inl off ↦ inl (off_less (fell_now c.actives-was.result c.flush_cleared.new.core c.args.vol) (fell_in c.args.core.now c.flush_cleared.new.core c.args.vol) c.flush_cleared.new.logs (fell_some c.args.core.now c.flush_cleared.new.core c.args.vol c.actives-was.result c.actives-was.ensures.some) off)
  | inr spent ↦ inr spent
]))

pub returns-clause-holds : goal.returns-clause-holds
returns-clause-holds g c = λ going some. ok_from c.miss_fallen.result (λ either. elim either [
  | inl these ↦ inl (less_hold (fell_in c.args.core.now c.miss_fallen.new.core c.args.vol) (fell_now c.actives-was.result c.miss_fallen.new.core c.args.vol) (first_region c.args.block) (last_region c.args.block c.args.count) c.miss_fallen.new.logs
      (fell_all c.args.core.now c.miss_fallen.new.core c.args.vol c.actives-was.result (λ q on. c.actives-was.ensures.all q (active_few c.args.core.now.inner.config (narrow_sound c.args.core.now (g.S.Shelf.meaning c.args.shelf.now) c.requires.stands) c.args.vol q on) on)) these)
  | inr spent ↦ inr spent
]) (c.miss_fallen.ensures.holds going some)

pub returns-clause-drops : goal.returns-clause-drops
returns-clause-drops g c = drop_then (wide c.args.core.now).config (wide c.flush_cleared.new.core).config c.args.vol c.args.logs.now c.flush_cleared.new.logs c.miss_fallen.new.logs (g.S.Shelf.meaning c.args.shelf.now) (g.S.Shelf.meaning c.flush_cleared.new.shelf) (g.S.Shelf.meaning c.miss_fallen.new.shelf) (λ log. c.flush_cleared.ensures.narrow.shape.logs c.args.vol log) c.flush_cleared.ensures.loses.rises c.miss_fallen.ensures.loses.rises c.miss_fallen.ensures.goes.falls c.flush_cleared.ensures.drops c.miss_fallen.ensures.drops

pub returns-clause-trusts : goal.returns-clause-trusts
returns-clause-trusts g c = trusts_then c.args.vol c.miss_fallen.new.logs c.args.core.now.inner.config c.flush_cleared.new.core.inner.config c.miss_fallen.new.core.inner.config (trusts_less c.args.vol c.flush_cleared.new.logs c.miss_fallen.new.logs c.args.core.now.inner.config c.flush_cleared.new.core.inner.config c.miss_fallen.ensures.drops.none c.flush_cleared.ensures.trusts) c.miss_fallen.ensures.trusts

pub returns-clause-trust : goal.returns-clause-trust
returns-clause-trust g c = ok_from c.miss_fallen.result (λ keeps is. keeps (c.in-Ok.ensures.trust is)) c.miss_fallen.ensures.trust

pub returns-clause-agreed : goal.returns-clause-agreed
returns-clause-agreed g c = err_from c.miss_fallen.result (λ keeps is. keeps (c.in-Ok.ensures.trust is)) c.miss_fallen.ensures.agreed

pub returns-clause-finds : goal.returns-clause-finds
returns-clause-finds g c = then_group c.args.core.now c.flush_cleared.new.core c.miss_fallen.new.core (g.S.Shelf.meaning c.args.shelf.now) (g.S.Shelf.meaning c.flush_cleared.new.shelf) (g.S.Shelf.meaning c.miss_fallen.new.shelf) c.flush_cleared.ensures.finds c.miss_fallen.ensures.finds

pub returns-clause-cause : goal.returns-clause-cause
returns-clause-cause g c = Cause_both (inner_meaning (wide c.args.core.now) (g.S.Shelf.meaning c.args.shelf.now)) (inner_meaning (wide c.flush_cleared.new.core) (g.S.Shelf.meaning c.flush_cleared.new.shelf)) (inner_meaning (wide c.miss_fallen.new.core) (g.S.Shelf.meaning c.miss_fallen.new.shelf)) c.args.vol c.miss_fallen.result c.in-Ok.ensures.cause c.flush_cleared.ensures.goes.faults c.flush_cleared.ensures.goes.disk_faults c.miss_fallen.ensures.cause

pub returns-in-Err-clause-rests : goal.returns-in-Err-clause-rests
returns-in-Err-clause-rests g c = λ none. narrow_inner c.args.core.now c.flush_cleared.new.core none (c.flush_cleared.ensures.finds.free none) c.flush_cleared.ensures.narrow

pub returns-clause-rests : goal.returns-clause-rests
returns-clause-rests g c = λ none w p is. narrow_inner c.args.core.now c.flush_cleared.new.core none (c.flush_cleared.ensures.finds.free none) c.flush_cleared.ensures.narrow w p (sym (c.miss_fallen.ensures.still w p) ∙ is)

pub returns-in-Err-clause-left : goal.returns-in-Err-clause-left
returns-in-Err-clause-left g c = λ is. elim (c.in-Err.ensures.left is) [
  | inl down ↦ inl down
  | inr off ↦ inr (off_any (fell_in c.args.core.now c.flush_cleared.new.core c.args.vol) (first_region c.args.block) (last_region c.args.block c.args.count) c.flush_cleared.new.logs off)
]

pub returns-clause-left : goal.returns-clause-left
returns-clause-left g c = λ is. err_from c.miss_fallen.result (λ run. inr (run_less (fell_in c.args.core.now c.miss_fallen.new.core c.args.vol) (fell_now c.actives-was.result c.miss_fallen.new.core c.args.vol) (first_region c.args.block) (last_region c.args.block c.args.count) c.miss_fallen.new.logs
    (fell_all c.args.core.now c.miss_fallen.new.core c.args.vol c.actives-was.result (λ q on. c.actives-was.ensures.all q (active_few c.args.core.now.inner.config (narrow_sound c.args.core.now (g.S.Shelf.meaning c.args.shelf.now) c.requires.stands) c.args.vol q on) on)) run))
    (c.miss_fallen.ensures.left (elim (c.in-Ok.ensures.begins is) [
      | inl off ↦ inl (off_less (fell_now c.actives-was.result c.flush_cleared.new.core c.args.vol) (fell_in c.args.core.now c.flush_cleared.new.core c.args.vol) c.flush_cleared.new.logs (fell_some c.args.core.now c.flush_cleared.new.core c.args.vol c.actives-was.result c.actives-was.ensures.some) off)
      | inr spent ↦ inr spent
    ]))

pub returns-in-Err-clause-narrow : goal.returns-in-Err-clause-narrow
returns-in-Err-clause-narrow g c = c.flush_cleared.ensures.narrow

pub returns-clause-narrow : goal.returns-clause-narrow
returns-clause-narrow g c = narrowed_then c.args.core.now c.flush_cleared.new.core c.miss_fallen.new.core c.flush_cleared.ensures.narrow c.miss_fallen.ensures.narrow

pub returns-in-Err-clause-kept : goal.returns-in-Err-clause-kept
returns-in-Err-clause-kept g c = λ was. tt

pub returns-in-Err-clause-said : goal.returns-in-Err-clause-said
returns-in-Err-clause-said g c = λ is some. tt

pub returns-clause-kept : goal.returns-clause-kept
returns-clause-kept g c = λ was. c.miss_fallen.ensures.kept (c.in-Ok.ensures.kept was)

pub returns-clause-said : goal.returns-clause-said
returns-clause-said g c = λ is some. c.miss_fallen.ensures.kept (c.in-Ok.ensures.said is some)

pub returns-in-Err-clause-marks : goal.returns-in-Err-clause-marks
returns-in-Err-clause-marks g c = c.in-Err.ensures.marks

pub returns-in-Err-clause-gives_up : goal.returns-in-Err-clause-gives_up
returns-in-Err-clause-gives_up g c = c.in-Err.ensures.gives_up

pub returns-clause-marks : goal.returns-clause-marks
returns-clause-marks g c = marks_then c.args.vol c.args.core.now.inner.unsure c.flush_cleared.new.core.inner.unsure c.miss_fallen.new.core.inner.unsure c.miss_fallen.result c.in-Ok.ensures.marks c.miss_fallen.ensures.marks

pub returns-clause-gives_up : goal.returns-clause-gives_up
returns-clause-gives_up g c = missed_faults c.args.vol c.args.core.now.inner.config c.miss_fallen.new.core.inner (g.S.Shelf.meaning c.args.shelf.now) (g.S.Shelf.meaning c.miss_fallen.new.shelf) c.miss_fallen.result c.miss_fallen.ensures.misses

pub returns-clause-stands : goal.returns-clause-stands
returns-clause-stands g c = c.miss_fallen.ensures.stands

pub returns-in-Err-clause-stands : goal.returns-in-Err-clause-stands
returns-in-Err-clause-stands g c = c.flush_cleared.ensures.stands

pub returns-in-Err-clause-goes : goal.returns-in-Err-clause-goes
returns-in-Err-clause-goes g c = c.flush_cleared.ensures.goes

pub returns-in-Err-clause-loses : goal.returns-in-Err-clause-loses
returns-in-Err-clause-loses g c = c.flush_cleared.ensures.loses

pub returns-in-Err-clause-ok : goal.returns-in-Err-clause-ok
returns-in-Err-clause-ok g c = tt

pub returns-in-Err-clause-log : goal.returns-in-Err-clause-log
returns-in-Err-clause-log g c = c.flush_cleared.ensures.log

pub returns-in-Err-clause-others : goal.returns-in-Err-clause-others
returns-in-Err-clause-others g c = c.flush_cleared.ensures.others

pub returns-in-Err-clause-maps : goal.returns-in-Err-clause-maps
returns-in-Err-clause-maps g c = c.flush_cleared.ensures.maps

pub returns-in-Err-clause-drops : goal.returns-in-Err-clause-drops
returns-in-Err-clause-drops g c = c.flush_cleared.ensures.drops

pub returns-in-Err-clause-trusts : goal.returns-in-Err-clause-trusts
returns-in-Err-clause-trusts g c = c.flush_cleared.ensures.trusts

pub returns-in-Err-clause-trust : goal.returns-in-Err-clause-trust
returns-in-Err-clause-trust g c = tt

pub returns-in-Err-clause-finds : goal.returns-in-Err-clause-finds
returns-in-Err-clause-finds g c = c.flush_cleared.ensures.finds
