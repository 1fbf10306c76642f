-- A write that is marked first, and whose failed plexes miss it.
use Rattle.std.proofs.Common.{◌/◌, Bool, ap, length, refl, arith, ◌≡◌, ◌∙◌, true, false, inl, inr, sym, None}
use Rattle.std.specs.Prelude.{Err}
use Rattle.vx_disk.specs.Shelf.{Written}
use Rattle.vx_disk.proofs.Causing.{Cause_both}
use Rattle.vx_disk.proofs.Runs.{then_nothing}
use Rattle.vx_group.specs.Holding.{wide}
use Rattle.vx_group.specs.Stands.{inner_meaning}
use Rattle.vx_groupmaps.proofs.KnowLemmas.{note_more}
use Rattle.vx_logs.specs.Writes.{first_region, last_region}
use Rattle.vx_model.specs.Sizes.{regions_of as regions_in}
use Rattle.vx_group.proofs.HoldLemmas.{narrow_sound, narrow_wider}
use Rattle.vx_volume.specs.Plexes.{active}
use Rattle.vx_volume.proofs.PlaceLemmas.{active_few}
use Rattle.vx_logged.specs.Begun.{begun_refused, but_run, fell_in, fell_now, if_sure, was_on}
use Rattle.vx_logged.specs.Behind.{all_those}
use Rattle.vx_logged.specs.Logged.{are_off}
use Rattle.vx_logged.proofs.BeginLemmas.{but_less, but_more, but_none, but_note, but_then}
use Rattle.vx_logged.proofs.EmptyLemmas.{fell_begun, sure_begun}
use Rattle.vx_logged.proofs.FallenLemmas.{fell_all, fell_some, run_less, run_none, was_there}
use Rattle.vx_logged.proofs.HoldsLemmas.{holds_none}
use Rattle.vx_logged.proofs.MissLemmas.{more_off}
use Rattle.vx_logged.proofs.RefuseLemmas.{cause_refused, marks_later, only_same, those_any}
use Rattle.vx_logged.proofs.StandLemmas.{cause_to, only_then, others_then, wrote_nothing, narrowed_then, wide_maps_idle}
use Rattle.vx_group.proofs.LoseLemmas.{along_same, then_along}
use Rattle.vx_group.proofs.FindingLemmas.{then_group}
use Rattle.vx_logged.proofs.GoneLogs.{drops_refused, drops_so, drops_spent, no_map, trusts_less, trusts_then}
use Rattle.vx_grouplogs.proofs.GoneLemmas.{drop_then}
use Rattle.vx_group.proofs.UnsureLemmas.{down_faults, down_marks, marks_fell, misses_faults, or_down, unsure_then}
use Rattle.vx_logged.proofs.writing.write_marked.Goals as goal

pub mark_fallen-requires-clause-some : goal.mark_fallen-requires-clause-some
mark_fallen-requires-clause-some g c =
    omega (arith, c.requires.fits.some, c.requires.fits.whole)

pub returns-then-not-done-clause-goes : goal.returns-then-not-done-clause-goes
returns-then-not-done-clause-goes g c = then_nothing (Written c.args.vol c.args.block c.args.bytes.now) (inner_meaning (wide c.args.core.now) (g.S.Shelf.meaning c.args.shelf.now)) (inner_meaning (wide c.write_first.new.core) (g.S.Shelf.meaning c.write_first.new.shelf)) (inner_meaning (wide c.mark_fallen.new.core) (g.S.Shelf.meaning c.mark_fallen.new.shelf)) c.write_first.ensures.goes c.mark_fallen.ensures.goes

pub returns-else-not-done-clause-goes : goal.returns-else-not-done-clause-goes
returns-else-not-done-clause-goes g c = then_nothing (Written c.args.vol c.args.block c.args.bytes.now) (inner_meaning (wide c.args.core.now) (g.S.Shelf.meaning c.args.shelf.now)) (inner_meaning (wide c.write_first.new.core) (g.S.Shelf.meaning c.write_first.new.shelf)) (inner_meaning (wide c.mark_fallen.new.core) (g.S.Shelf.meaning c.mark_fallen.new.shelf)) c.write_first.ensures.goes c.mark_fallen.ensures.goes

pub returns-then-not-done-clause-ok : goal.returns-then-not-done-clause-ok
returns-then-not-done-clause-ok g c = wrote_nothing c.args.vol c.args.block c.args.bytes.now (inner_meaning (wide c.args.core.now) (g.S.Shelf.meaning c.args.shelf.now)) (inner_meaning (wide c.write_first.new.core) (g.S.Shelf.meaning c.write_first.new.shelf)) (inner_meaning (wide c.mark_fallen.new.core) (g.S.Shelf.meaning c.mark_fallen.new.shelf)) c.in-Ok.ensures.ok c.mark_fallen.ensures.goes c.in-Ok-mark_fallen.ensures.cause.after

pub returns-else-not-done-clause-ok : goal.returns-else-not-done-clause-ok
returns-else-not-done-clause-ok g c = wrote_nothing c.args.vol c.args.block c.args.bytes.now (inner_meaning (wide c.args.core.now) (g.S.Shelf.meaning c.args.shelf.now)) (inner_meaning (wide c.write_first.new.core) (g.S.Shelf.meaning c.write_first.new.shelf)) (inner_meaning (wide c.mark_fallen.new.core) (g.S.Shelf.meaning c.mark_fallen.new.shelf)) c.in-Ok.ensures.ok c.mark_fallen.ensures.goes c.in-Ok-mark_fallen.ensures.cause.after

pub miss_refused-requires-clause-some : goal.miss_refused-requires-clause-some
miss_refused-requires-clause-some g c = omega (arith, c.requires.fits.some, c.requires.fits.whole)

pub miss_refused-requires-clause-within : goal.miss_refused-requires-clause-within
miss_refused-requires-clause-within g c = let same = c.write_first.ensures.goes.size c.args.vol in omega (arith, c.requires.fits.within, same)

pub miss_refused-requires-in-Err-mark_fallen-clause-some : goal.miss_refused-requires-in-Err-mark_fallen-clause-some
miss_refused-requires-in-Err-mark_fallen-clause-some g c = omega (arith, c.requires.fits.some, c.requires.fits.whole)

pub miss_refused-requires-in-Err-mark_fallen-clause-within : goal.miss_refused-requires-in-Err-mark_fallen-clause-within
miss_refused-requires-in-Err-mark_fallen-clause-within g c = let same = c.write_first.ensures.goes.size c.args.vol in let next = c.mark_fallen.ensures.goes.size c.args.vol in omega (arith, c.requires.fits.within, same, next)

pub miss_refused-requires-in-Err-mark_fallen-clause-log : goal.miss_refused-requires-in-Err-mark_fallen-clause-log
miss_refused-requires-in-Err-mark_fallen-clause-log g c = λ off. c.mark_fallen.ensures.log

pub returns-in-Err-clause-goes : goal.returns-in-Err-clause-goes
returns-in-Err-clause-goes g c = then_nothing (Written c.args.vol c.args.block c.args.bytes.now) (inner_meaning (wide c.args.core.now) (g.S.Shelf.meaning c.args.shelf.now)) (inner_meaning (wide c.write_first.new.core) (g.S.Shelf.meaning c.write_first.new.shelf)) (inner_meaning (wide c.write_first.new.core) (g.S.Shelf.meaning c.miss_refused.new.shelf)) c.write_first.ensures.goes c.miss_refused.ensures.goes

pub returns-in-Err-clause-log : goal.returns-in-Err-clause-log
returns-in-Err-clause-log g c = c.miss_refused.ensures.log

pub returns-in-Err-clause-others : goal.returns-in-Err-clause-others
returns-in-Err-clause-others g c = others_then c.args.vol c.args.core.now c.write_first.new.core c.write_first.new.core (g.S.Shelf.meaning c.args.shelf.now) (g.S.Shelf.meaning c.write_first.new.shelf) (g.S.Shelf.meaning c.miss_refused.new.shelf) c.write_first.ensures.others c.miss_refused.ensures.others

pub returns-in-Err-clause-adds : goal.returns-in-Err-clause-adds
returns-in-Err-clause-adds g c = only_same _ (first_region c.args.block) (last_region c.args.block (length c.args.bytes.now / 512)) c.args.logs.now c.write_first.new.logs c.miss_refused.new.logs c.miss_refused.ensures.drl c.write_first.ensures.adds

pub returns-in-Err-clause-maps : goal.returns-in-Err-clause-maps
returns-in-Err-clause-maps g c = λ off know. c.miss_refused.ensures.knows off (c.write_first.ensures.missed off know)

pub returns-in-Err-clause-marked : goal.returns-in-Err-clause-marked
returns-in-Err-clause-marked g c = λ off. marks_later (λ s. g.S.Shelf.meaning s) c.args.vol c.args.block c.args.bytes.now (first_region c.args.block) (last_region c.args.block (length c.args.bytes.now / 512)) c.args.core.now c.write_first.new.core c.write_first.new.core (g.S.Shelf.meaning c.args.shelf.now) (g.S.Shelf.meaning c.write_first.new.shelf) (g.S.Shelf.meaning c.miss_refused.new.shelf) (c.write_first.ensures.marked off) c.miss_refused.ensures.goes

pub returns-in-Err-clause-agreed : goal.returns-in-Err-clause-agreed
returns-in-Err-clause-agreed g c = c.in-Err.ensures.agreed

pub returns-in-Err-clause-cause : goal.returns-in-Err-clause-cause
returns-in-Err-clause-cause g c = cause_refused (Unit {0}) (inner_meaning (wide c.args.core.now) (g.S.Shelf.meaning c.args.shelf.now)) (inner_meaning (wide c.write_first.new.core) (g.S.Shelf.meaning c.write_first.new.shelf)) (inner_meaning (wide c.write_first.new.core) (g.S.Shelf.meaning c.miss_refused.new.shelf)) c.args.vol c.in-Err.error c.miss_refused.result c.in-Err.ensures.cause c.miss_refused.ensures.goes.faults c.miss_refused.ensures.goes.disk_faults c.miss_refused.ensures.same c.miss_refused.ensures.fell c.miss_refused.ensures.goes.falls

pub returns-in-Err-mark_fallen-clause-goes : goal.returns-in-Err-mark_fallen-clause-goes
returns-in-Err-mark_fallen-clause-goes g c = then_nothing (Written c.args.vol c.args.block c.args.bytes.now) (inner_meaning (wide c.args.core.now) (g.S.Shelf.meaning c.args.shelf.now)) (inner_meaning (wide c.mark_fallen.new.core) (g.S.Shelf.meaning c.mark_fallen.new.shelf)) (inner_meaning (wide c.mark_fallen.new.core) (g.S.Shelf.meaning c.miss_refused-in-Err-mark_fallen.new.shelf)) (then_nothing (Written c.args.vol c.args.block c.args.bytes.now) (inner_meaning (wide c.args.core.now) (g.S.Shelf.meaning c.args.shelf.now)) (inner_meaning (wide c.write_first.new.core) (g.S.Shelf.meaning c.write_first.new.shelf)) (inner_meaning (wide c.mark_fallen.new.core) (g.S.Shelf.meaning c.mark_fallen.new.shelf)) c.write_first.ensures.goes c.mark_fallen.ensures.goes) c.miss_refused-in-Err-mark_fallen.ensures.goes

pub returns-in-Err-mark_fallen-clause-log : goal.returns-in-Err-mark_fallen-clause-log
returns-in-Err-mark_fallen-clause-log g c = λ off. c.miss_refused-in-Err-mark_fallen.ensures.log refl

pub returns-in-Err-mark_fallen-clause-others : goal.returns-in-Err-mark_fallen-clause-others
returns-in-Err-mark_fallen-clause-others g c = others_then c.args.vol c.args.core.now c.mark_fallen.new.core c.mark_fallen.new.core (g.S.Shelf.meaning c.args.shelf.now) (g.S.Shelf.meaning c.mark_fallen.new.shelf) (g.S.Shelf.meaning c.miss_refused-in-Err-mark_fallen.new.shelf) (others_then c.args.vol c.args.core.now c.write_first.new.core c.mark_fallen.new.core (g.S.Shelf.meaning c.args.shelf.now) (g.S.Shelf.meaning c.write_first.new.shelf) (g.S.Shelf.meaning c.mark_fallen.new.shelf) c.write_first.ensures.others c.mark_fallen.ensures.others) c.miss_refused-in-Err-mark_fallen.ensures.others

pub returns-in-Err-mark_fallen-clause-adds : goal.returns-in-Err-mark_fallen-clause-adds
returns-in-Err-mark_fallen-clause-adds g c = only_same _ (first_region c.args.block) (last_region c.args.block (length c.args.bytes.now / 512)) c.args.logs.now c.mark_fallen.new.logs c.miss_refused-in-Err-mark_fallen.new.logs c.miss_refused-in-Err-mark_fallen.ensures.drl (only_then _ _ (first_region c.args.block) (last_region c.args.block (length c.args.bytes.now / 512)) c.args.logs.now c.write_first.new.logs c.mark_fallen.new.logs (ap regions_in (c.write_first.ensures.goes.size c.args.vol)) c.write_first.ensures.adds c.mark_fallen.ensures.adds)

pub returns-in-Err-mark_fallen-clause-marked : goal.returns-in-Err-mark_fallen-clause-marked
returns-in-Err-mark_fallen-clause-marked g c = λ off. marks_later (λ s. g.S.Shelf.meaning s) c.args.vol c.args.block c.args.bytes.now (first_region c.args.block) (last_region c.args.block (length c.args.bytes.now / 512)) c.args.core.now c.mark_fallen.new.core c.mark_fallen.new.core (g.S.Shelf.meaning c.args.shelf.now) (g.S.Shelf.meaning c.mark_fallen.new.shelf) (g.S.Shelf.meaning c.miss_refused-in-Err-mark_fallen.new.shelf)
    (marks_later (λ s. g.S.Shelf.meaning s) c.args.vol c.args.block c.args.bytes.now (first_region c.args.block) (last_region c.args.block (length c.args.bytes.now / 512)) c.args.core.now c.write_first.new.core c.mark_fallen.new.core (g.S.Shelf.meaning c.args.shelf.now) (g.S.Shelf.meaning c.write_first.new.shelf) (g.S.Shelf.meaning c.mark_fallen.new.shelf) (c.write_first.ensures.marked off) c.mark_fallen.ensures.goes) c.miss_refused-in-Err-mark_fallen.ensures.goes

pub returns-in-Err-mark_fallen-clause-agreed : goal.returns-in-Err-mark_fallen-clause-agreed
returns-in-Err-mark_fallen-clause-agreed g c = λ is. c.in-Err-mark_fallen.ensures.agreed (c.in-Ok.ensures.trust is)

pub returns-in-Err-mark_fallen-clause-cause : goal.returns-in-Err-mark_fallen-clause-cause
returns-in-Err-mark_fallen-clause-cause g c = cause_refused (Unit {0}) (inner_meaning (wide c.args.core.now) (g.S.Shelf.meaning c.args.shelf.now)) (inner_meaning (wide c.mark_fallen.new.core) (g.S.Shelf.meaning c.mark_fallen.new.shelf)) (inner_meaning (wide c.mark_fallen.new.core) (g.S.Shelf.meaning c.miss_refused-in-Err-mark_fallen.new.shelf)) c.args.vol c.in-Err-mark_fallen.error c.miss_refused-in-Err-mark_fallen.result
    (Cause_both {T = Unit {0}} (inner_meaning (wide c.args.core.now) (g.S.Shelf.meaning c.args.shelf.now)) (inner_meaning (wide c.write_first.new.core) (g.S.Shelf.meaning c.write_first.new.shelf)) (inner_meaning (wide c.mark_fallen.new.core) (g.S.Shelf.meaning c.mark_fallen.new.shelf)) c.args.vol (Err c.in-Err-mark_fallen.error) c.in-Ok.ensures.cause c.write_first.ensures.goes.faults c.write_first.ensures.goes.disk_faults
    (cause_to Bool (Unit {0}) c.args.vol c.in-Err-mark_fallen.error (inner_meaning (wide c.write_first.new.core) (g.S.Shelf.meaning c.write_first.new.shelf)) (inner_meaning (wide c.mark_fallen.new.core) (g.S.Shelf.meaning c.mark_fallen.new.shelf)) c.in-Err-mark_fallen.ensures.cause))
    c.miss_refused-in-Err-mark_fallen.ensures.goes.faults c.miss_refused-in-Err-mark_fallen.ensures.goes.disk_faults c.miss_refused-in-Err-mark_fallen.ensures.same c.miss_refused-in-Err-mark_fallen.ensures.fell c.miss_refused-in-Err-mark_fallen.ensures.goes.falls

pub returns-then-not-done-clause-marked : goal.returns-then-not-done-clause-marked
returns-then-not-done-clause-marked g c = λ off. marks_later (λ s. g.S.Shelf.meaning s) c.args.vol c.args.block c.args.bytes.now (first_region c.args.block) (last_region c.args.block (length c.args.bytes.now / 512)) c.args.core.now c.write_first.new.core c.mark_fallen.new.core (g.S.Shelf.meaning c.args.shelf.now) (g.S.Shelf.meaning c.write_first.new.shelf) (g.S.Shelf.meaning c.mark_fallen.new.shelf) (c.write_first.ensures.marked off) c.mark_fallen.ensures.goes

pub returns-else-not-done-clause-marked : goal.returns-else-not-done-clause-marked
returns-else-not-done-clause-marked g c = λ off. marks_later (λ s. g.S.Shelf.meaning s) c.args.vol c.args.block c.args.bytes.now (first_region c.args.block) (last_region c.args.block (length c.args.bytes.now / 512)) c.args.core.now c.write_first.new.core c.mark_fallen.new.core (g.S.Shelf.meaning c.args.shelf.now) (g.S.Shelf.meaning c.write_first.new.shelf) (g.S.Shelf.meaning c.mark_fallen.new.shelf) (c.write_first.ensures.marked off) c.mark_fallen.ensures.goes

pub returns-in-Err-clause-loses : goal.returns-in-Err-clause-loses
returns-in-Err-clause-loses g c =
    then_along c.args.core.now.inner.config c.write_first.new.core.inner.config c.write_first.new.core.inner.config (g.S.Shelf.meaning c.args.shelf.now) (g.S.Shelf.meaning c.write_first.new.shelf) (g.S.Shelf.meaning c.miss_refused.new.shelf) c.write_first.ensures.loses
    (along_same c.write_first.new.core.inner.config (g.S.Shelf.meaning c.write_first.new.shelf) (g.S.Shelf.meaning c.miss_refused.new.shelf) c.miss_refused.ensures.below.faults)

pub returns-then-not-done-clause-loses : goal.returns-then-not-done-clause-loses
returns-then-not-done-clause-loses g c = then_along c.args.core.now.inner.config c.write_first.new.core.inner.config c.mark_fallen.new.core.inner.config (g.S.Shelf.meaning c.args.shelf.now) (g.S.Shelf.meaning c.write_first.new.shelf) (g.S.Shelf.meaning c.mark_fallen.new.shelf) c.write_first.ensures.loses c.mark_fallen.ensures.loses

pub returns-else-not-done-clause-loses : goal.returns-else-not-done-clause-loses
returns-else-not-done-clause-loses g c = then_along c.args.core.now.inner.config c.write_first.new.core.inner.config c.mark_fallen.new.core.inner.config (g.S.Shelf.meaning c.args.shelf.now) (g.S.Shelf.meaning c.write_first.new.shelf) (g.S.Shelf.meaning c.mark_fallen.new.shelf) c.write_first.ensures.loses c.mark_fallen.ensures.loses

pub returns-in-Err-mark_fallen-clause-loses : goal.returns-in-Err-mark_fallen-clause-loses
returns-in-Err-mark_fallen-clause-loses g c =
    then_along c.args.core.now.inner.config c.mark_fallen.new.core.inner.config c.mark_fallen.new.core.inner.config (g.S.Shelf.meaning c.args.shelf.now) (g.S.Shelf.meaning c.mark_fallen.new.shelf) (g.S.Shelf.meaning c.miss_refused-in-Err-mark_fallen.new.shelf)
    (then_along c.args.core.now.inner.config c.write_first.new.core.inner.config c.mark_fallen.new.core.inner.config (g.S.Shelf.meaning c.args.shelf.now) (g.S.Shelf.meaning c.write_first.new.shelf) (g.S.Shelf.meaning c.mark_fallen.new.shelf) c.write_first.ensures.loses c.mark_fallen.ensures.loses)
    (along_same c.mark_fallen.new.core.inner.config (g.S.Shelf.meaning c.mark_fallen.new.shelf) (g.S.Shelf.meaning c.miss_refused-in-Err-mark_fallen.new.shelf) c.miss_refused-in-Err-mark_fallen.ensures.below.faults)

pub returns-in-Err-clause-finds : goal.returns-in-Err-clause-finds
returns-in-Err-clause-finds g c =
    then_group c.args.core.now c.write_first.new.core c.write_first.new.core (g.S.Shelf.meaning c.args.shelf.now) (g.S.Shelf.meaning c.write_first.new.shelf) (g.S.Shelf.meaning c.miss_refused.new.shelf)
    c.write_first.ensures.finds
    (wide_maps_idle c.write_first.new.core c.args.vol (g.S.Shelf.meaning c.write_first.new.shelf) (g.S.Shelf.meaning c.miss_refused.new.shelf) c.write_first.ensures.stands c.miss_refused.ensures.below c.miss_refused.ensures.less)

pub returns-then-not-done-clause-finds : goal.returns-then-not-done-clause-finds
returns-then-not-done-clause-finds g c =
    then_group c.args.core.now c.write_first.new.core c.mark_fallen.new.core (g.S.Shelf.meaning c.args.shelf.now) (g.S.Shelf.meaning c.write_first.new.shelf) (g.S.Shelf.meaning c.mark_fallen.new.shelf)
    c.write_first.ensures.finds
    c.mark_fallen.ensures.finds

pub returns-else-not-done-clause-finds : goal.returns-else-not-done-clause-finds
returns-else-not-done-clause-finds g c =
    then_group c.args.core.now c.write_first.new.core c.mark_fallen.new.core (g.S.Shelf.meaning c.args.shelf.now) (g.S.Shelf.meaning c.write_first.new.shelf) (g.S.Shelf.meaning c.mark_fallen.new.shelf)
    c.write_first.ensures.finds
    c.mark_fallen.ensures.finds

pub returns-in-Err-mark_fallen-clause-finds : goal.returns-in-Err-mark_fallen-clause-finds
returns-in-Err-mark_fallen-clause-finds g c =
    then_group c.args.core.now c.mark_fallen.new.core c.mark_fallen.new.core (g.S.Shelf.meaning c.args.shelf.now) (g.S.Shelf.meaning c.mark_fallen.new.shelf) (g.S.Shelf.meaning c.miss_refused-in-Err-mark_fallen.new.shelf)
    (then_group c.args.core.now c.write_first.new.core c.mark_fallen.new.core (g.S.Shelf.meaning c.args.shelf.now) (g.S.Shelf.meaning c.write_first.new.shelf) (g.S.Shelf.meaning c.mark_fallen.new.shelf)
    c.write_first.ensures.finds
    c.mark_fallen.ensures.finds)
    (wide_maps_idle c.mark_fallen.new.core c.args.vol (g.S.Shelf.meaning c.mark_fallen.new.shelf) (g.S.Shelf.meaning c.miss_refused-in-Err-mark_fallen.new.shelf) c.mark_fallen.ensures.stands c.miss_refused-in-Err-mark_fallen.ensures.below c.miss_refused-in-Err-mark_fallen.ensures.less)

pub returns-in-Err-clause-drops : goal.returns-in-Err-clause-drops
returns-in-Err-clause-drops g c =
    drops_so c.args.core.now c.write_first.new.core c.args.vol c.args.logs.now c.miss_refused.new.logs (g.S.Shelf.meaning c.args.shelf.now) (g.S.Shelf.meaning c.miss_refused.new.shelf)
    (drop_then (wide c.args.core.now).config (wide c.write_first.new.core).config c.args.vol c.args.logs.now c.write_first.new.logs c.miss_refused.new.logs (g.S.Shelf.meaning c.args.shelf.now) (g.S.Shelf.meaning c.write_first.new.shelf) (g.S.Shelf.meaning c.miss_refused.new.shelf) (c.write_first.ensures.narrow.shape.logs c.args.vol) c.write_first.ensures.loses.rises c.miss_refused.ensures.below.faults c.miss_refused.ensures.below.falls c.write_first.ensures.drops (drops_refused (wide c.write_first.new.core).config c.args.vol c.write_first.new.logs c.miss_refused.new.logs (g.S.Shelf.meaning c.write_first.new.shelf) (g.S.Shelf.meaning c.miss_refused.new.shelf) c.write_first.new.stopped c.miss_refused.ensures.drops c.miss_refused.ensures.stays))

pub returns-then-stopped-clause-drops : goal.returns-then-stopped-clause-drops
returns-then-stopped-clause-drops g c =
    drops_so c.args.core.now c.write_first.new.core c.args.vol c.args.logs.now c.write_first.new.logs (g.S.Shelf.meaning c.args.shelf.now) (g.S.Shelf.meaning c.write_first.new.shelf) c.write_first.ensures.drops

pub returns-then-not-done-clause-drops : goal.returns-then-not-done-clause-drops
returns-then-not-done-clause-drops g c =
    drops_spent c.args.core.now c.mark_fallen.new.core c.args.vol c.args.logs.now c.mark_fallen.new.logs (g.S.Shelf.meaning c.args.shelf.now) (g.S.Shelf.meaning c.mark_fallen.new.shelf) (g.S.Shelf.meaning c.mark_fallen.new.shelf) (c.in-Ok-mark_fallen.ensures.spent c.if-not-done.true)
    (drop_then (wide c.args.core.now).config (wide c.write_first.new.core).config c.args.vol c.args.logs.now c.write_first.new.logs c.mark_fallen.new.logs (g.S.Shelf.meaning c.args.shelf.now) (g.S.Shelf.meaning c.write_first.new.shelf) (g.S.Shelf.meaning c.mark_fallen.new.shelf) (c.write_first.ensures.narrow.shape.logs c.args.vol) c.write_first.ensures.loses.rises c.mark_fallen.ensures.loses.rises c.mark_fallen.ensures.goes.falls c.write_first.ensures.drops c.mark_fallen.ensures.drops)

pub returns-else-not-done-clause-drops : goal.returns-else-not-done-clause-drops
returns-else-not-done-clause-drops g c =
    drops_so c.args.core.now c.mark_fallen.new.core c.args.vol c.args.logs.now c.mark_fallen.new.logs (g.S.Shelf.meaning c.args.shelf.now) (g.S.Shelf.meaning c.mark_fallen.new.shelf)
    (drop_then (wide c.args.core.now).config (wide c.write_first.new.core).config c.args.vol c.args.logs.now c.write_first.new.logs c.mark_fallen.new.logs (g.S.Shelf.meaning c.args.shelf.now) (g.S.Shelf.meaning c.write_first.new.shelf) (g.S.Shelf.meaning c.mark_fallen.new.shelf) (c.write_first.ensures.narrow.shape.logs c.args.vol) c.write_first.ensures.loses.rises c.mark_fallen.ensures.loses.rises c.mark_fallen.ensures.goes.falls c.write_first.ensures.drops c.mark_fallen.ensures.drops)

pub returns-in-Err-mark_fallen-clause-drops : goal.returns-in-Err-mark_fallen-clause-drops
returns-in-Err-mark_fallen-clause-drops g c =
    drops_so c.args.core.now c.mark_fallen.new.core c.args.vol c.args.logs.now c.miss_refused-in-Err-mark_fallen.new.logs (g.S.Shelf.meaning c.args.shelf.now) (g.S.Shelf.meaning c.miss_refused-in-Err-mark_fallen.new.shelf)
    (drop_then (wide c.args.core.now).config (wide c.mark_fallen.new.core).config c.args.vol c.args.logs.now c.mark_fallen.new.logs c.miss_refused-in-Err-mark_fallen.new.logs (g.S.Shelf.meaning c.args.shelf.now) (g.S.Shelf.meaning c.mark_fallen.new.shelf) (g.S.Shelf.meaning c.miss_refused-in-Err-mark_fallen.new.shelf) ((narrowed_then c.args.core.now c.write_first.new.core c.mark_fallen.new.core c.write_first.ensures.narrow c.mark_fallen.ensures.narrow).shape.logs c.args.vol)
    (then_along c.args.core.now.inner.config c.write_first.new.core.inner.config c.mark_fallen.new.core.inner.config (g.S.Shelf.meaning c.args.shelf.now) (g.S.Shelf.meaning c.write_first.new.shelf) (g.S.Shelf.meaning c.mark_fallen.new.shelf) c.write_first.ensures.loses c.mark_fallen.ensures.loses).rises c.miss_refused-in-Err-mark_fallen.ensures.below.faults c.miss_refused-in-Err-mark_fallen.ensures.below.falls
    (drop_then (wide c.args.core.now).config (wide c.write_first.new.core).config c.args.vol c.args.logs.now c.write_first.new.logs c.mark_fallen.new.logs (g.S.Shelf.meaning c.args.shelf.now) (g.S.Shelf.meaning c.write_first.new.shelf) (g.S.Shelf.meaning c.mark_fallen.new.shelf) (c.write_first.ensures.narrow.shape.logs c.args.vol) c.write_first.ensures.loses.rises c.mark_fallen.ensures.loses.rises c.mark_fallen.ensures.goes.falls c.write_first.ensures.drops c.mark_fallen.ensures.drops) (c.miss_refused-in-Err-mark_fallen.ensures.drops refl))

pub returns-in-Err-clause-trusts : goal.returns-in-Err-clause-trusts
returns-in-Err-clause-trusts g c =
    trusts_less c.args.vol c.write_first.new.logs c.miss_refused.new.logs c.args.core.now.inner.config c.write_first.new.core.inner.config
    (drops_refused (wide c.write_first.new.core).config c.args.vol c.write_first.new.logs c.miss_refused.new.logs (g.S.Shelf.meaning c.write_first.new.shelf) (g.S.Shelf.meaning c.miss_refused.new.shelf) c.write_first.new.stopped c.miss_refused.ensures.drops c.miss_refused.ensures.stays).none c.write_first.ensures.trusts

pub returns-then-stopped-clause-trusts : goal.returns-then-stopped-clause-trusts
returns-then-stopped-clause-trusts g c =
    c.write_first.ensures.trusts

pub returns-then-not-done-clause-trusts : goal.returns-then-not-done-clause-trusts
returns-then-not-done-clause-trusts g c =
    trusts_less c.args.vol c.mark_fallen.new.logs (record { drl = c.mark_fallen.new.logs.drl; fmr = None }) c.args.core.now.inner.config c.mark_fallen.new.core.inner.config (no_map c.mark_fallen.new.logs)
    (trusts_then c.args.vol c.mark_fallen.new.logs c.args.core.now.inner.config c.write_first.new.core.inner.config c.mark_fallen.new.core.inner.config (trusts_less c.args.vol c.write_first.new.logs c.mark_fallen.new.logs c.args.core.now.inner.config c.write_first.new.core.inner.config c.mark_fallen.ensures.drops.none c.write_first.ensures.trusts) c.mark_fallen.ensures.trusts)

pub returns-else-not-done-clause-trusts : goal.returns-else-not-done-clause-trusts
returns-else-not-done-clause-trusts g c =
    trusts_then c.args.vol c.mark_fallen.new.logs c.args.core.now.inner.config c.write_first.new.core.inner.config c.mark_fallen.new.core.inner.config (trusts_less c.args.vol c.write_first.new.logs c.mark_fallen.new.logs c.args.core.now.inner.config c.write_first.new.core.inner.config c.mark_fallen.ensures.drops.none c.write_first.ensures.trusts) c.mark_fallen.ensures.trusts

pub returns-in-Err-mark_fallen-clause-trusts : goal.returns-in-Err-mark_fallen-clause-trusts
returns-in-Err-mark_fallen-clause-trusts g c =
    trusts_less c.args.vol c.mark_fallen.new.logs c.miss_refused-in-Err-mark_fallen.new.logs c.args.core.now.inner.config c.mark_fallen.new.core.inner.config (c.miss_refused-in-Err-mark_fallen.ensures.drops refl).none
    (trusts_then c.args.vol c.mark_fallen.new.logs c.args.core.now.inner.config c.write_first.new.core.inner.config c.mark_fallen.new.core.inner.config (trusts_less c.args.vol c.write_first.new.logs c.mark_fallen.new.logs c.args.core.now.inner.config c.write_first.new.core.inner.config c.mark_fallen.ensures.drops.none c.write_first.ensures.trusts) c.mark_fallen.ensures.trusts)

pub returns-in-Err-clause-kept : goal.returns-in-Err-clause-kept
returns-in-Err-clause-kept g c =
    λ off. tt

pub returns-then-stopped-clause-kept : goal.returns-then-stopped-clause-kept
returns-then-stopped-clause-kept g c =
    λ off. absurd (let clash : true ≡ false = sym c.if-stopped.true ∙ off in cc)

pub returns-then-not-done-clause-kept : goal.returns-then-not-done-clause-kept
returns-then-not-done-clause-kept g c =
    λ off. record { so = inr (c.in-Ok-mark_fallen.ensures.spent c.if-not-done.true) }

pub returns-else-not-done-clause-kept : goal.returns-else-not-done-clause-kept
returns-else-not-done-clause-kept g c =
    λ off. record { so = inl ((c.in-Ok-mark_fallen.ensures.may c.if-not-done.false).some, c.in-Ok-mark_fallen.ensures.said c.if-not-done.false) }

pub returns-in-Err-mark_fallen-clause-kept : goal.returns-in-Err-mark_fallen-clause-kept
returns-in-Err-mark_fallen-clause-kept g c =
    λ off. tt

pub mark_fallen-requires-clause-has : goal.mark_fallen-requires-clause-has
mark_fallen-requires-clause-has g c = λ p on. was_there c.args.core.now c.write_first.new.core c.args.vol p (g.S.Shelf.meaning c.args.shelf.now) c.requires.stands c.write_first.ensures.narrow (record { volume = c.requires.fits.exists; within = omega (arith, c.requires.fits.some, c.requires.fits.whole, c.requires.fits.within) }) (c.actives-was.ensures.some p on)

pub mark_fallen-requires-clause-reads : goal.mark_fallen-requires-clause-reads
mark_fallen-requires-clause-reads g c = λ is. but_less (wide c.write_first.new.core).config c.args.vol (first_region c.args.block) (last_region c.args.block (length c.args.bytes.now / 512)) (was_on c.actives-was.result) (active (wide c.args.core.now).config c.args.vol) (g.S.Shelf.meaning c.write_first.new.shelf) (λ p on. narrow_wider c.args.core.now (g.S.Shelf.meaning c.args.shelf.now) c.requires.stands c.args.vol p (c.actives-was.ensures.some p on)) (c.write_first.ensures.alike c.if-stopped.false (c.requires.one is))

pub miss_refused-requires-clause-has : goal.miss_refused-requires-clause-has
miss_refused-requires-clause-has g c = λ p on. was_there c.args.core.now c.write_first.new.core c.args.vol p (g.S.Shelf.meaning c.args.shelf.now) c.requires.stands c.write_first.ensures.narrow (record { volume = c.requires.fits.exists; within = omega (arith, c.requires.fits.some, c.requires.fits.whole, c.requires.fits.within) }) (c.actives-was.ensures.some p on)

pub miss_refused-requires-clause-reads : goal.miss_refused-requires-clause-reads
miss_refused-requires-clause-reads g c = λ off is. but_less (wide c.write_first.new.core).config c.args.vol (first_region c.args.block) (last_region c.args.block (length c.args.bytes.now / 512)) (was_on c.actives-was.result) (active (wide c.args.core.now).config c.args.vol) (g.S.Shelf.meaning c.write_first.new.shelf) (λ p on. narrow_wider c.args.core.now (g.S.Shelf.meaning c.args.shelf.now) c.requires.stands c.args.vol p (c.actives-was.ensures.some p on)) (c.write_first.ensures.alike off (c.requires.one is))

pub miss_refused-requires-in-Err-mark_fallen-clause-has : goal.miss_refused-requires-in-Err-mark_fallen-clause-has
miss_refused-requires-in-Err-mark_fallen-clause-has g c = λ p on. was_there c.args.core.now c.mark_fallen.new.core c.args.vol p (g.S.Shelf.meaning c.args.shelf.now) c.requires.stands (narrowed_then c.args.core.now c.write_first.new.core c.mark_fallen.new.core c.write_first.ensures.narrow c.mark_fallen.ensures.narrow) (record { volume = c.requires.fits.exists; within = omega (arith, c.requires.fits.some, c.requires.fits.whole, c.requires.fits.within) }) (c.actives-was.ensures.some p on)

pub miss_refused-requires-in-Err-mark_fallen-clause-reads : goal.miss_refused-requires-in-Err-mark_fallen-clause-reads
miss_refused-requires-in-Err-mark_fallen-clause-reads g c = λ off is. record {
  so = λ up. c.mark_fallen.ensures.plexes (but_run (was_on c.actives-was.result) (first_region c.args.block) (last_region c.args.block (length c.args.bytes.now / 512))) up ((but_less (wide c.write_first.new.core).config c.args.vol (first_region c.args.block) (last_region c.args.block (length c.args.bytes.now / 512)) (was_on c.actives-was.result) (active (wide c.args.core.now).config c.args.vol) (g.S.Shelf.meaning c.write_first.new.shelf) (λ p on. narrow_wider c.args.core.now (g.S.Shelf.meaning c.args.shelf.now) c.requires.stands c.args.vol p (c.actives-was.ensures.some p on)) (c.write_first.ensures.alike c.if-stopped.false (c.requires.one is))).so (λ down. up (c.mark_fallen.ensures.goes.falls down)));
}

pub returns-in-Err-clause-notes : goal.returns-in-Err-clause-notes
returns-in-Err-clause-notes g c = but_then (begun_refused c.args.core.now c.write_first.new.core c.args.vol c.args.sure) all_those (first_region c.args.block) (last_region c.args.block (length c.args.bytes.now / 512)) c.args.logs.now c.write_first.new.logs c.miss_refused.new.logs (but_note (begun_refused c.args.core.now c.write_first.new.core c.args.vol c.args.sure) all_those (first_region c.args.block) (last_region c.args.block (length c.args.bytes.now / 512)) c.args.logs.now c.write_first.new.logs (those_any (are_off c.write_first.new.core c.args.vol) (first_region c.args.block) (last_region c.args.block (length c.args.bytes.now / 512)) c.args.logs.now c.write_first.new.logs c.write_first.ensures.notes))
    (but_more (if_sure c.args.sure c.actives-was.result) (begun_refused c.args.core.now c.write_first.new.core c.args.vol c.args.sure) all_those all_those (first_region c.args.block) (last_region c.args.block (length c.args.bytes.now / 512)) c.write_first.new.logs c.miss_refused.new.logs (λ p on. sure_begun c.args.core.now c.write_first.new.core c.args.vol c.args.sure c.actives-was.result c.actives-was.ensures.some p on) (λ p on. on) c.miss_refused.ensures.notes)

pub returns-then-stopped-clause-notes : goal.returns-then-stopped-clause-notes
returns-then-stopped-clause-notes g c = but_note (fell_in c.args.core.now c.write_first.new.core c.args.vol) (are_off c.write_first.new.core c.args.vol) (first_region c.args.block) (last_region c.args.block (length c.args.bytes.now / 512)) c.args.logs.now c.write_first.new.logs c.write_first.ensures.notes

pub returns-then-not-done-clause-notes : goal.returns-then-not-done-clause-notes
returns-then-not-done-clause-notes g c = but_none (fell_in c.args.core.now c.mark_fallen.new.core c.args.vol) (are_off c.mark_fallen.new.core c.args.vol) (first_region c.args.block) (last_region c.args.block (length c.args.bytes.now / 512)) c.args.logs.now (record { drl = c.mark_fallen.new.logs.drl; fmr = None }) refl

pub returns-else-not-done-clause-notes : goal.returns-else-not-done-clause-notes
returns-else-not-done-clause-notes g c = but_then (fell_in c.args.core.now c.mark_fallen.new.core c.args.vol) (are_off c.mark_fallen.new.core c.args.vol) (first_region c.args.block) (last_region c.args.block (length c.args.bytes.now / 512)) c.args.logs.now c.write_first.new.logs c.mark_fallen.new.logs
    (but_note (fell_in c.args.core.now c.mark_fallen.new.core c.args.vol) (are_off c.mark_fallen.new.core c.args.vol) (first_region c.args.block) (last_region c.args.block (length c.args.bytes.now / 512)) c.args.logs.now c.write_first.new.logs (note_more (are_off c.write_first.new.core c.args.vol) (are_off c.mark_fallen.new.core c.args.vol) (first_region c.args.block) (last_region c.args.block (length c.args.bytes.now / 512)) c.args.logs.now c.write_first.new.logs (more_off c.write_first.new.core c.mark_fallen.new.core c.args.vol c.mark_fallen.ensures.narrow) c.write_first.ensures.notes))
    (but_more (fell_now c.actives-was.result c.mark_fallen.new.core c.args.vol) (fell_in c.args.core.now c.mark_fallen.new.core c.args.vol) (are_off c.mark_fallen.new.core c.args.vol) (are_off c.mark_fallen.new.core c.args.vol) (first_region c.args.block) (last_region c.args.block (length c.args.bytes.now / 512)) c.write_first.new.logs c.mark_fallen.new.logs (fell_some c.args.core.now c.mark_fallen.new.core c.args.vol c.actives-was.result c.actives-was.ensures.some) (λ p is. is) c.mark_fallen.ensures.notes)

pub returns-in-Err-mark_fallen-clause-notes : goal.returns-in-Err-mark_fallen-clause-notes
returns-in-Err-mark_fallen-clause-notes g c = but_then (begun_refused c.args.core.now c.mark_fallen.new.core c.args.vol c.args.sure) all_those (first_region c.args.block) (last_region c.args.block (length c.args.bytes.now / 512)) c.args.logs.now c.mark_fallen.new.logs c.miss_refused-in-Err-mark_fallen.new.logs
    (but_then (begun_refused c.args.core.now c.mark_fallen.new.core c.args.vol c.args.sure) all_those (first_region c.args.block) (last_region c.args.block (length c.args.bytes.now / 512)) c.args.logs.now c.write_first.new.logs c.mark_fallen.new.logs (but_note (begun_refused c.args.core.now c.mark_fallen.new.core c.args.vol c.args.sure) all_those (first_region c.args.block) (last_region c.args.block (length c.args.bytes.now / 512)) c.args.logs.now c.write_first.new.logs (those_any (are_off c.write_first.new.core c.args.vol) (first_region c.args.block) (last_region c.args.block (length c.args.bytes.now / 512)) c.args.logs.now c.write_first.new.logs c.write_first.ensures.notes))
    (but_more (fell_now c.actives-was.result c.mark_fallen.new.core c.args.vol) (begun_refused c.args.core.now c.mark_fallen.new.core c.args.vol c.args.sure) (are_off c.mark_fallen.new.core c.args.vol) all_those (first_region c.args.block) (last_region c.args.block (length c.args.bytes.now / 512)) c.write_first.new.logs c.mark_fallen.new.logs (λ p on. fell_begun c.args.core.now c.mark_fallen.new.core c.args.vol c.args.sure p (fell_some c.args.core.now c.mark_fallen.new.core c.args.vol c.actives-was.result c.actives-was.ensures.some p on)) (λ p is. refl) c.mark_fallen.ensures.notes))
    (but_more (if_sure c.args.sure c.actives-was.result) (begun_refused c.args.core.now c.mark_fallen.new.core c.args.vol c.args.sure) all_those all_those (first_region c.args.block) (last_region c.args.block (length c.args.bytes.now / 512)) c.mark_fallen.new.logs c.miss_refused-in-Err-mark_fallen.new.logs (λ p on. sure_begun c.args.core.now c.mark_fallen.new.core c.args.vol c.args.sure c.actives-was.result c.actives-was.ensures.some p on) (λ p on. on) c.miss_refused-in-Err-mark_fallen.ensures.notes)

pub returns-in-Err-mark_fallen-clause-maps : goal.returns-in-Err-mark_fallen-clause-maps
returns-in-Err-mark_fallen-clause-maps g c = λ off know. c.miss_refused-in-Err-mark_fallen.ensures.knows refl (c.mark_fallen.ensures.maps (c.write_first.ensures.missed off know))

pub returns-else-not-done-clause-maps : goal.returns-else-not-done-clause-maps
returns-else-not-done-clause-maps g c = λ off know. c.in-Ok-mark_fallen.ensures.knows (c.in-Ok.ensures.written off know) c.if-not-done.false

pub returns-in-Err-clause-begins : goal.returns-in-Err-clause-begins
returns-in-Err-clause-begins g c = λ is off. tt

pub returns-in-Err-mark_fallen-clause-begins : goal.returns-in-Err-mark_fallen-clause-begins
returns-in-Err-mark_fallen-clause-begins g c = λ is off. tt

pub returns-then-stopped-clause-begins : goal.returns-then-stopped-clause-begins
returns-then-stopped-clause-begins g c = λ is off. absurd (let clash : true ≡ false = sym c.if-stopped.true ∙ off in cc)

pub returns-then-not-done-clause-begins : goal.returns-then-not-done-clause-begins
returns-then-not-done-clause-begins g c = λ is off. run_none (fell_in c.args.core.now c.mark_fallen.new.core c.args.vol) (first_region c.args.block) (last_region c.args.block (length c.args.bytes.now / 512)) (record { drl = c.mark_fallen.new.logs.drl; fmr = None }) refl

pub returns-else-not-done-clause-begins : goal.returns-else-not-done-clause-begins
returns-else-not-done-clause-begins g c = λ is off. run_less (fell_in c.args.core.now c.mark_fallen.new.core c.args.vol) (fell_now c.actives-was.result c.mark_fallen.new.core c.args.vol) (first_region c.args.block) (last_region c.args.block (length c.args.bytes.now / 512)) c.mark_fallen.new.logs
    (fell_all c.args.core.now c.mark_fallen.new.core c.args.vol c.actives-was.result (λ p on. c.actives-was.ensures.all p (active_few c.args.core.now.inner.config (narrow_sound c.args.core.now (g.S.Shelf.meaning c.args.shelf.now) c.requires.stands) c.args.vol p on) on))
    (c.in-Ok-mark_fallen.ensures.begins is c.if-not-done.false)

pub returns-in-Err-clause-refused : goal.returns-in-Err-clause-refused
returns-in-Err-clause-refused g c = λ is off. run_less (active c.args.core.now.inner.config c.args.vol) (was_on c.actives-was.result) (first_region c.args.block) (last_region c.args.block (length c.args.bytes.now / 512)) c.miss_refused.new.logs (λ p on. c.actives-was.ensures.all p (active_few c.args.core.now.inner.config (narrow_sound c.args.core.now (g.S.Shelf.meaning c.args.shelf.now) c.requires.stands) c.args.vol p on) on) (c.miss_refused.ensures.begins off is)

pub returns-in-Err-mark_fallen-clause-refused : goal.returns-in-Err-mark_fallen-clause-refused
returns-in-Err-mark_fallen-clause-refused g c = λ is off. run_less (active c.args.core.now.inner.config c.args.vol) (was_on c.actives-was.result) (first_region c.args.block) (last_region c.args.block (length c.args.bytes.now / 512)) c.miss_refused-in-Err-mark_fallen.new.logs (λ p on. c.actives-was.ensures.all p (active_few c.args.core.now.inner.config (narrow_sound c.args.core.now (g.S.Shelf.meaning c.args.shelf.now) c.requires.stands) c.args.vol p on) on) (c.miss_refused-in-Err-mark_fallen.ensures.begins refl is)

pub returns-then-stopped-clause-refused : goal.returns-then-stopped-clause-refused
returns-then-stopped-clause-refused g c = λ is off. tt

pub returns-then-not-done-clause-refused : goal.returns-then-not-done-clause-refused
returns-then-not-done-clause-refused g c = λ is off. tt

pub returns-else-not-done-clause-refused : goal.returns-else-not-done-clause-refused
returns-else-not-done-clause-refused g c = λ is off. tt

pub returns-in-Err-clause-holds : goal.returns-in-Err-clause-holds
returns-in-Err-clause-holds g c = λ off. tt

pub returns-in-Err-mark_fallen-clause-holds : goal.returns-in-Err-mark_fallen-clause-holds
returns-in-Err-mark_fallen-clause-holds g c = λ off. tt

pub returns-then-stopped-clause-holds : goal.returns-then-stopped-clause-holds
returns-then-stopped-clause-holds g c = λ off. absurd (let clash : true ≡ false = sym c.if-stopped.true ∙ off in cc)

pub returns-then-not-done-clause-holds : goal.returns-then-not-done-clause-holds
returns-then-not-done-clause-holds g c = λ off. holds_none c.mark_fallen.new.core.inner.config c.args.vol (first_region c.args.block) (last_region c.args.block (length c.args.bytes.now / 512)) (record { drl = c.mark_fallen.new.logs.drl; fmr = None }) refl

pub returns-else-not-done-clause-holds : goal.returns-else-not-done-clause-holds
returns-else-not-done-clause-holds g c = λ off. c.in-Ok-mark_fallen.ensures.holds c.if-not-done.false

pub returns-in-Err-clause-rests : goal.returns-in-Err-clause-rests
returns-in-Err-clause-rests g c = c.write_first.ensures.rests

pub returns-then-stopped-clause-rests : goal.returns-then-stopped-clause-rests
returns-then-stopped-clause-rests g c = c.write_first.ensures.rests

pub returns-then-not-done-clause-rests : goal.returns-then-not-done-clause-rests
returns-then-not-done-clause-rests g c = λ off w p is. c.write_first.ensures.rests off w p (sym (c.mark_fallen.ensures.still w p) ∙ is)

pub returns-else-not-done-clause-rests : goal.returns-else-not-done-clause-rests
returns-else-not-done-clause-rests g c = λ off w p is. c.write_first.ensures.rests off w p (sym (c.mark_fallen.ensures.still w p) ∙ is)

pub returns-in-Err-mark_fallen-clause-rests : goal.returns-in-Err-mark_fallen-clause-rests
returns-in-Err-mark_fallen-clause-rests g c = λ off w p is. c.write_first.ensures.rests off w p (sym (c.mark_fallen.ensures.still w p) ∙ is)

pub returns-in-Err-clause-free : goal.returns-in-Err-clause-free
returns-in-Err-clause-free g c = λ off. tt

pub returns-in-Err-mark_fallen-clause-free : goal.returns-in-Err-mark_fallen-clause-free
returns-in-Err-mark_fallen-clause-free g c = λ off. tt

pub returns-then-stopped-clause-free : goal.returns-then-stopped-clause-free
returns-then-stopped-clause-free g c = λ off. absurd (let clash : true ≡ false = sym c.if-stopped.true ∙ off in cc)

pub returns-then-not-done-clause-free : goal.returns-then-not-done-clause-free
returns-then-not-done-clause-free g c = λ off. inr refl

pub returns-else-not-done-clause-free : goal.returns-else-not-done-clause-free
returns-else-not-done-clause-free g c = λ off. inl (c.in-Ok-mark_fallen.ensures.free c.if-not-done.false)

pub returns-in-Err-clause-unsure : goal.returns-in-Err-clause-unsure
returns-in-Err-clause-unsure g c = down_marks c.args.vol c.args.core.now.inner.unsure c.write_first.new.core.inner.unsure c.in-Err.error c.miss_refused.result (or_down (g.S.Shelf.meaning c.miss_refused.new.shelf) c.in-Err.error c.miss_refused.result c.miss_refused.ensures.same c.miss_refused.ensures.fell) (marks_fell {T = Unit {0}} c.args.vol c.args.core.now.inner.unsure c.write_first.new.core.inner.unsure (Err c.in-Err.error) c.in-Err.ensures.marks)

pub returns-in-Err-clause-gives_up : goal.returns-in-Err-clause-gives_up
returns-in-Err-clause-gives_up g c = down_faults c.args.vol c.args.core.now.inner.config c.write_first.new.core.inner (g.S.Shelf.meaning c.args.shelf.now) (g.S.Shelf.meaning c.write_first.new.shelf) (g.S.Shelf.meaning c.miss_refused.new.shelf) c.in-Err.error c.miss_refused.result c.miss_refused.ensures.below.faults (or_down (g.S.Shelf.meaning c.miss_refused.new.shelf) c.in-Err.error c.miss_refused.result c.miss_refused.ensures.same c.miss_refused.ensures.fell) c.in-Err.ensures.gives_up

pub returns-then-stopped-clause-unsure : goal.returns-then-stopped-clause-unsure
returns-then-stopped-clause-unsure g c = c.in-Ok.ensures.marks

pub returns-then-stopped-clause-gives_up : goal.returns-then-stopped-clause-gives_up
returns-then-stopped-clause-gives_up g c = tt

pub returns-then-not-done-clause-unsure : goal.returns-then-not-done-clause-unsure
returns-then-not-done-clause-unsure g c = c.in-Ok-mark_fallen.ensures.marks ∙ c.in-Ok.ensures.marks

pub returns-then-not-done-clause-gives_up : goal.returns-then-not-done-clause-gives_up
returns-then-not-done-clause-gives_up g c = tt

pub returns-else-not-done-clause-unsure : goal.returns-else-not-done-clause-unsure
returns-else-not-done-clause-unsure g c = c.in-Ok-mark_fallen.ensures.marks ∙ c.in-Ok.ensures.marks

pub returns-else-not-done-clause-gives_up : goal.returns-else-not-done-clause-gives_up
returns-else-not-done-clause-gives_up g c = tt

pub returns-in-Err-mark_fallen-clause-unsure : goal.returns-in-Err-mark_fallen-clause-unsure
returns-in-Err-mark_fallen-clause-unsure g c = down_marks c.args.vol c.args.core.now.inner.unsure c.mark_fallen.new.core.inner.unsure c.in-Err-mark_fallen.error c.miss_refused-in-Err-mark_fallen.result (or_down (g.S.Shelf.meaning c.miss_refused-in-Err-mark_fallen.new.shelf) c.in-Err-mark_fallen.error c.miss_refused-in-Err-mark_fallen.result c.miss_refused-in-Err-mark_fallen.ensures.same c.miss_refused-in-Err-mark_fallen.ensures.fell) (marks_fell {T = Unit {0}} c.args.vol c.args.core.now.inner.unsure c.mark_fallen.new.core.inner.unsure (Err c.in-Err-mark_fallen.error) (unsure_then c.args.vol c.args.core.now.inner.unsure c.write_first.new.core.inner.unsure c.mark_fallen.new.core.inner.unsure c.in-Err-mark_fallen.error c.in-Ok.ensures.marks c.in-Err-mark_fallen.ensures.marks))

pub returns-in-Err-mark_fallen-clause-gives_up : goal.returns-in-Err-mark_fallen-clause-gives_up
returns-in-Err-mark_fallen-clause-gives_up g c = down_faults c.args.vol c.args.core.now.inner.config c.mark_fallen.new.core.inner (g.S.Shelf.meaning c.args.shelf.now) (g.S.Shelf.meaning c.mark_fallen.new.shelf) (g.S.Shelf.meaning c.miss_refused-in-Err-mark_fallen.new.shelf) c.in-Err-mark_fallen.error c.miss_refused-in-Err-mark_fallen.result c.miss_refused-in-Err-mark_fallen.ensures.below.faults (or_down (g.S.Shelf.meaning c.miss_refused-in-Err-mark_fallen.new.shelf) c.in-Err-mark_fallen.error c.miss_refused-in-Err-mark_fallen.result c.miss_refused-in-Err-mark_fallen.ensures.same c.miss_refused-in-Err-mark_fallen.ensures.fell) (misses_faults Bool c.args.vol c.args.core.now.inner.config c.mark_fallen.new.core.inner (g.S.Shelf.meaning c.args.shelf.now) (g.S.Shelf.meaning c.mark_fallen.new.shelf) c.in-Err-mark_fallen.error c.in-Err-mark_fallen.ensures.misses)

pub returns-then-stopped-clause-stands : goal.returns-then-stopped-clause-stands
returns-then-stopped-clause-stands g c = c.write_first.ensures.stands

pub returns-then-stopped-clause-goes : goal.returns-then-stopped-clause-goes
returns-then-stopped-clause-goes g c = c.write_first.ensures.goes

pub returns-then-stopped-clause-loses : goal.returns-then-stopped-clause-loses
returns-then-stopped-clause-loses g c = c.write_first.ensures.loses

pub returns-then-stopped-clause-ok : goal.returns-then-stopped-clause-ok
returns-then-stopped-clause-ok g c = c.in-Ok.ensures.ok

pub returns-then-stopped-clause-log : goal.returns-then-stopped-clause-log
returns-then-stopped-clause-log g c = c.write_first.ensures.log

pub returns-then-stopped-clause-others : goal.returns-then-stopped-clause-others
returns-then-stopped-clause-others g c = c.write_first.ensures.others

pub returns-then-stopped-clause-adds : goal.returns-then-stopped-clause-adds
returns-then-stopped-clause-adds g c = c.write_first.ensures.adds

pub returns-then-stopped-clause-marked : goal.returns-then-stopped-clause-marked
returns-then-stopped-clause-marked g c = c.write_first.ensures.marked

pub returns-then-stopped-clause-stays : goal.returns-then-stopped-clause-stays
returns-then-stopped-clause-stays g c = c.write_first.ensures.stays

pub returns-then-stopped-clause-full : goal.returns-then-stopped-clause-full
returns-then-stopped-clause-full g c = c.write_first.ensures.full

pub returns-then-stopped-clause-trust : goal.returns-then-stopped-clause-trust
returns-then-stopped-clause-trust g c = c.in-Ok.ensures.trust

pub returns-then-stopped-clause-agreed : goal.returns-then-stopped-clause-agreed
returns-then-stopped-clause-agreed g c = tt

pub returns-then-stopped-clause-finds : goal.returns-then-stopped-clause-finds
returns-then-stopped-clause-finds g c = c.write_first.ensures.finds

pub returns-then-stopped-clause-cause : goal.returns-then-stopped-clause-cause
returns-then-stopped-clause-cause g c = c.in-Ok.ensures.cause

pub returns-in-Err-clause-stands : goal.returns-in-Err-clause-stands
returns-in-Err-clause-stands g c = c.miss_refused.ensures.stands

pub returns-in-Err-mark_fallen-clause-stands : goal.returns-in-Err-mark_fallen-clause-stands
returns-in-Err-mark_fallen-clause-stands g c = c.miss_refused-in-Err-mark_fallen.ensures.stands

pub returns-in-Err-clause-ok : goal.returns-in-Err-clause-ok
returns-in-Err-clause-ok g c = tt

pub returns-in-Err-clause-trust : goal.returns-in-Err-clause-trust
returns-in-Err-clause-trust g c = tt

pub returns-in-Err-mark_fallen-clause-ok : goal.returns-in-Err-mark_fallen-clause-ok
returns-in-Err-mark_fallen-clause-ok g c = tt

pub returns-in-Err-mark_fallen-clause-trust : goal.returns-in-Err-mark_fallen-clause-trust
returns-in-Err-mark_fallen-clause-trust g c = tt

pub returns-in-Err-clause-stays : goal.returns-in-Err-clause-stays
returns-in-Err-clause-stays g c = c.write_first.ensures.stays

pub returns-in-Err-clause-full : goal.returns-in-Err-clause-full
returns-in-Err-clause-full g c = c.write_first.ensures.full

pub returns-in-Err-mark_fallen-clause-stays : goal.returns-in-Err-mark_fallen-clause-stays
returns-in-Err-mark_fallen-clause-stays g c = c.write_first.ensures.stays

pub returns-in-Err-mark_fallen-clause-full : goal.returns-in-Err-mark_fallen-clause-full
returns-in-Err-mark_fallen-clause-full g c = c.write_first.ensures.full

pub returns-then-not-done-clause-stays : goal.returns-then-not-done-clause-stays
returns-then-not-done-clause-stays g c = c.write_first.ensures.stays

pub returns-then-not-done-clause-full : goal.returns-then-not-done-clause-full
returns-then-not-done-clause-full g c = c.write_first.ensures.full

pub returns-else-not-done-clause-stays : goal.returns-else-not-done-clause-stays
returns-else-not-done-clause-stays g c = c.write_first.ensures.stays

pub returns-else-not-done-clause-full : goal.returns-else-not-done-clause-full
returns-else-not-done-clause-full g c = c.write_first.ensures.full

pub returns-then-not-done-clause-stands : goal.returns-then-not-done-clause-stands
returns-then-not-done-clause-stands g c = c.mark_fallen.ensures.stands

pub returns-then-not-done-clause-others : goal.returns-then-not-done-clause-others
returns-then-not-done-clause-others g c = others_then c.args.vol c.args.core.now c.write_first.new.core c.mark_fallen.new.core (g.S.Shelf.meaning c.args.shelf.now) (g.S.Shelf.meaning c.write_first.new.shelf) (g.S.Shelf.meaning c.mark_fallen.new.shelf) c.write_first.ensures.others c.mark_fallen.ensures.others

pub returns-then-not-done-clause-trust : goal.returns-then-not-done-clause-trust
returns-then-not-done-clause-trust g c = λ is. c.in-Ok-mark_fallen.ensures.trust (c.in-Ok.ensures.trust is)

pub returns-then-not-done-clause-agreed : goal.returns-then-not-done-clause-agreed
returns-then-not-done-clause-agreed g c = tt

pub returns-then-not-done-clause-cause : goal.returns-then-not-done-clause-cause
returns-then-not-done-clause-cause g c = record { before = c.in-Ok.ensures.cause.before; after = c.in-Ok-mark_fallen.ensures.cause.after }

pub returns-else-not-done-clause-stands : goal.returns-else-not-done-clause-stands
returns-else-not-done-clause-stands g c = c.mark_fallen.ensures.stands

pub returns-else-not-done-clause-others : goal.returns-else-not-done-clause-others
returns-else-not-done-clause-others g c = others_then c.args.vol c.args.core.now c.write_first.new.core c.mark_fallen.new.core (g.S.Shelf.meaning c.args.shelf.now) (g.S.Shelf.meaning c.write_first.new.shelf) (g.S.Shelf.meaning c.mark_fallen.new.shelf) c.write_first.ensures.others c.mark_fallen.ensures.others

pub returns-else-not-done-clause-trust : goal.returns-else-not-done-clause-trust
returns-else-not-done-clause-trust g c = λ is. c.in-Ok-mark_fallen.ensures.trust (c.in-Ok.ensures.trust is)

pub returns-else-not-done-clause-agreed : goal.returns-else-not-done-clause-agreed
returns-else-not-done-clause-agreed g c = tt

pub returns-else-not-done-clause-cause : goal.returns-else-not-done-clause-cause
returns-else-not-done-clause-cause g c = record { before = c.in-Ok.ensures.cause.before; after = c.in-Ok-mark_fallen.ensures.cause.after }

pub returns-else-not-done-clause-log : goal.returns-else-not-done-clause-log
returns-else-not-done-clause-log g c = λ off. c.mark_fallen.ensures.log

pub returns-else-not-done-clause-adds : goal.returns-else-not-done-clause-adds
returns-else-not-done-clause-adds g c = only_then _ _ (first_region c.args.block) (last_region c.args.block (length c.args.bytes.now / 512)) c.args.logs.now c.write_first.new.logs c.mark_fallen.new.logs (ap regions_in (c.write_first.ensures.goes.size c.args.vol)) c.write_first.ensures.adds c.mark_fallen.ensures.adds
