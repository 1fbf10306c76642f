-- `write_fresh`: its clauses; what the calls ask.
use Rattle.std.proofs.Common.{◌/◌, ◌∙◌, ap, inl, true, false, length, refl, subst, sym, arith, ◌≡◌, Err}
use Rattle.vx_disk.specs.Shelf.{Written}
use Rattle.vx_disk.proofs.Causing.{Cause_both}
use Rattle.vx_disk.proofs.Runs.{none_written, nothing_then}
use Rattle.vx_group.specs.Attaches.{region_count}
use Rattle.vx_group.specs.Holding.{wide}
use Rattle.vx_group.specs.Stands.{inner_meaning}
use Rattle.vx_group.proofs.CallLemmas.{nothing_Wrote}
use Rattle.vx_group.proofs.LoseLemmas.{then_along}
use Rattle.vx_group.proofs.TrustLemmas.{err_from, ok_from}
use Rattle.vx_volume.specs.Plexes.{active}
use Rattle.vx_logs.specs.Writes.{first_region, last_region}
use Rattle.vx_logged.specs.Behind.{those_missing}
use Rattle.vx_logged.proofs.RefuseLemmas.{marks_sooner}
use Rattle.vx_logged.proofs.StandLemmas.{fits_later}
use Rattle.vx_loggroup.specs.LoggedVolumes.{LoggedStands, is_alike}
use Rattle.vx_loggroup.proofs.FreshLemmas.{begins_stale, begun_first, fresh_goes, fresh_still, fresh_taken, lists_marks, lists_notes, lists_only, lists_same, fell_first, runs_same, lists_none}
use Rattle.vx_logged.specs.Begun.{begun_in, fell_in}
use Rattle.vx_loggroup.specs.Attaching.{fmr_or}
use Rattle.vx_loggroup.proofs.AlikeLemmas.{going_back}
use Rattle.vx_loggroup.proofs.NewLemmas.{list_same, start_blocks, start_count}
use Rattle.vx_loggroup.proofs.WroteMoves.{first_doubts, run_moves}
use Rattle.vx_group.proofs.FindingLemmas.{then_group}
use Rattle.vx_loggroup.proofs.KeepingLemmas.{frames_places, stay_keeps, then_keeps}
use Rattle.vx_loggroup.proofs.KeepingCalls.{begins_stay}
use Rattle.vx_group.proofs.UnsureLemmas.{faults_before, fell_then, marks_fell, misses_faults}
use Rattle.vx_loggroup.proofs.fresh.write_fresh.Goals as goal

pub takes_fresh-requires : goal.takes_fresh-requires
takes_fresh-requires g c = record { inside = let few = c.requires.stands.group.stands.few in let there = c.requires.fits.exists in omega (arith, few, there) }

pub begin_first-requires-clause-stands : goal.begin_first-requires-clause-stands
begin_first-requires-clause-stands g c = (subst (λ s. LoggedStands c.args.core.now c.args.logs.now.items c.args.alike.now s (g.S.Shelf.meaning c.args.shelf.now)) (c.takes_fresh.ensures.going c.if-not-takes_fresh.false) c.requires.stands)

pub begin_first-requires-clause-there : goal.begin_first-requires-clause-there
begin_first-requires-clause-there g c = c.requires.fits.exists

pub begin_first-requires-clause-same : goal.begin_first-requires-clause-same
begin_first-requires-clause-same g c = c.requires.fresh.each c.args.vol (c.takes_fresh.ensures.was c.if-not-takes_fresh.false)

pub write_whole-requires-2-clause-stands : goal.write_whole-requires-2-clause-stands
write_whole-requires-2-clause-stands g c = subst (λ s. LoggedStands c.begin_first.new.core c.begin_first.new.logs.items c.args.alike.now s (g.S.Shelf.meaning c.begin_first.new.shelf)) (sym (c.takes_fresh.ensures.going c.if-not-takes_fresh.false)) c.begin_first.ensures.stands

pub write_whole-requires-2-clause-fits : goal.write_whole-requires-2-clause-fits
write_whole-requires-2-clause-fits g c = (fits_later c.args.core.now c.begin_first.new.core c.args.vol c.args.block (length c.args.bytes.now) (g.S.Shelf.meaning c.args.shelf.now) (g.S.Shelf.meaning c.begin_first.new.shelf) c.begin_first.ensures.begins.goes c.requires.fits)

pub returns-then-not-takes_fresh-clause-fresh : goal.returns-then-not-takes_fresh-clause-fresh
returns-then-not-takes_fresh-clause-fresh g c = fresh_goes (Written c.args.vol c.args.block c.args.bytes.now) c.args.vol c.args.core.now c.write_whole.new.core c.args.fresh.now c.takes_fresh.new.fresh (g.S.Shelf.meaning c.args.shelf.now) (g.S.Shelf.meaning c.write_whole.new.shelf) c.write_whole.ensures.goes (λ w b x apart put. apart put.covers.there) c.takes_fresh.ensures.here c.takes_fresh.ensures.others c.requires.fresh

pub returns-then-not-takes_fresh-clause-full : goal.returns-then-not-takes_fresh-clause-full
returns-then-not-takes_fresh-clause-full g c = λ off on. let full = c.write_whole.ensures.full off on in omega (arith, full)

pub returns-in-Err-clause-stands : goal.returns-in-Err-clause-stands
returns-in-Err-clause-stands g c = subst (λ s. LoggedStands c.begin_first.new.core c.begin_first.new.logs.items c.args.alike.now s (g.S.Shelf.meaning c.begin_first.new.shelf)) (sym (c.takes_fresh.ensures.going c.if-not-takes_fresh.false)) c.begin_first.ensures.stands

pub returns-in-Err-clause-fresh : goal.returns-in-Err-clause-fresh
returns-in-Err-clause-fresh g c = (fresh_still c.args.core.now c.begin_first.new.core c.takes_fresh.new.fresh (g.S.Shelf.meaning c.args.shelf.now) (g.S.Shelf.meaning c.begin_first.new.shelf) c.begin_first.ensures.begins.goes (fresh_taken c.args.vol c.args.core.now c.args.fresh.now c.takes_fresh.new.fresh (g.S.Shelf.meaning c.args.shelf.now) c.takes_fresh.ensures.here c.takes_fresh.ensures.others c.requires.fresh))

pub returns-in-Err-clause-goes : goal.returns-in-Err-clause-goes
returns-in-Err-clause-goes g c = none_written (Written c.args.vol c.args.block c.args.bytes.now) (inner_meaning (wide c.args.core.now) (g.S.Shelf.meaning c.args.shelf.now)) (inner_meaning (wide c.begin_first.new.core) (g.S.Shelf.meaning c.begin_first.new.shelf)) c.begin_first.ensures.begins.goes

pub returns-in-Err-clause-loses : goal.returns-in-Err-clause-loses
returns-in-Err-clause-loses g c = c.begin_first.ensures.begins.loses

pub returns-in-Err-clause-marks : goal.returns-in-Err-clause-marks
returns-in-Err-clause-marks g c = lists_only (wide c.args.core.now).config c.args.vol (first_region c.args.block) (last_region c.args.block (length c.args.bytes.now / 512)) c.args.logs.now.items c.begin_first.new.logs.items c.begin_first.ensures.first

pub returns-in-Err-clause-notes : goal.returns-in-Err-clause-notes
returns-in-Err-clause-notes g c = lists_same _ _ c.args.vol _ (first_region c.args.block) (last_region c.args.block (length c.args.bytes.now / 512)) c.args.logs.now.items c.begin_first.new.logs.items c.begin_first.ensures.first

pub returns-in-Err-clause-marked : goal.returns-in-Err-clause-marked
returns-in-Err-clause-marked g c = λ off. inl c.begin_first.ensures.begins.goes

pub returns-in-Err-clause-full : goal.returns-in-Err-clause-full
returns-in-Err-clause-full g c = λ off on. absurd (let clash : true ≡ false = sym on ∙ off in cc)

pub returns-clause-fresh : goal.returns-clause-fresh
returns-clause-fresh g c = fresh_goes (Written c.args.vol c.args.block c.args.bytes.now) c.args.vol c.begin_first.new.core c.write_whole-2.new.core c.takes_fresh.new.fresh c.takes_fresh.new.fresh (g.S.Shelf.meaning c.begin_first.new.shelf) (g.S.Shelf.meaning c.write_whole-2.new.shelf) c.write_whole-2.ensures.goes (λ w b x apart put. apart put.covers.there) c.takes_fresh.ensures.here (λ w apart. refl) (fresh_still c.args.core.now c.begin_first.new.core c.takes_fresh.new.fresh (g.S.Shelf.meaning c.args.shelf.now) (g.S.Shelf.meaning c.begin_first.new.shelf) c.begin_first.ensures.begins.goes (fresh_taken c.args.vol c.args.core.now c.args.fresh.now c.takes_fresh.new.fresh (g.S.Shelf.meaning c.args.shelf.now) c.takes_fresh.ensures.here c.takes_fresh.ensures.others c.requires.fresh))

pub returns-clause-goes : goal.returns-clause-goes
returns-clause-goes g c = nothing_then (Written c.args.vol c.args.block c.args.bytes.now) (inner_meaning (wide c.args.core.now) (g.S.Shelf.meaning c.args.shelf.now)) (inner_meaning (wide c.begin_first.new.core) (g.S.Shelf.meaning c.begin_first.new.shelf)) (inner_meaning (wide c.write_whole-2.new.core) (g.S.Shelf.meaning c.write_whole-2.new.shelf)) c.begin_first.ensures.begins.goes c.write_whole-2.ensures.goes

pub returns-clause-ok : goal.returns-clause-ok
returns-clause-ok g c = ok_from c.write_whole-2.result (λ wrote. nothing_Wrote c.args.vol c.args.block c.args.bytes.now (inner_meaning (wide c.args.core.now) (g.S.Shelf.meaning c.args.shelf.now)) (inner_meaning (wide c.begin_first.new.core) (g.S.Shelf.meaning c.begin_first.new.shelf)) (inner_meaning (wide c.write_whole-2.new.core) (g.S.Shelf.meaning c.write_whole-2.new.shelf)) c.begin_first.ensures.begins.goes c.in-Ok.ensures.cause.after wrote) c.write_whole-2.ensures.ok

pub returns-clause-loses : goal.returns-clause-loses
returns-clause-loses g c = then_along c.args.core.now.inner.config c.begin_first.new.core.inner.config c.write_whole-2.new.core.inner.config (g.S.Shelf.meaning c.args.shelf.now) (g.S.Shelf.meaning c.begin_first.new.shelf) (g.S.Shelf.meaning c.write_whole-2.new.shelf) c.begin_first.ensures.begins.loses c.write_whole-2.ensures.loses

pub returns-clause-marks : goal.returns-clause-marks
returns-clause-marks g c = lists_marks (wide c.args.core.now).config (wide c.begin_first.new.core).config c.args.vol (first_region c.args.block) (last_region c.args.block (length c.args.bytes.now / 512)) c.args.logs.now.items c.begin_first.new.logs.items c.write_whole-2.new.logs.items (c.begin_first.ensures.begins.goes.size c.args.vol) c.begin_first.ensures.first c.write_whole-2.ensures.marks

pub returns-clause-notes : goal.returns-clause-notes
returns-clause-notes g c = lists_notes (begun_in c.begin_first.new.core c.write_whole-2.new.core c.args.vol (is_alike c.args.alike.now c.args.vol) c.write_whole-2.result) (begun_in c.args.core.now c.write_whole-2.new.core c.args.vol (is_alike c.args.alike.now c.args.vol) c.write_whole-2.result) (those_missing c.write_whole-2.new.core c.args.vol c.write_whole-2.result) c.args.vol _ (first_region c.args.block) (last_region c.args.block (length c.args.bytes.now / 512)) c.args.logs.now.items c.begin_first.new.logs.items c.write_whole-2.new.logs.items (begun_first c.args.core.now c.begin_first.new.core c.write_whole-2.new.core c.args.vol (is_alike c.args.alike.now c.args.vol) c.write_whole-2.result c.begin_first.ensures.begins.still) c.begin_first.ensures.first c.write_whole-2.ensures.notes

pub returns-clause-marked : goal.returns-clause-marked
returns-clause-marked g c = λ off. marks_sooner (λ s. g.S.Shelf.meaning s) c.args.vol c.args.block c.args.bytes.now (first_region c.args.block) (last_region c.args.block (length c.args.bytes.now / 512)) c.args.core.now c.begin_first.new.core c.write_whole-2.new.core (g.S.Shelf.meaning c.args.shelf.now) (g.S.Shelf.meaning c.begin_first.new.shelf) (g.S.Shelf.meaning c.write_whole-2.new.shelf) c.begin_first.ensures.begins.goes
    (begins_stale c.args.core.now c.begin_first.new.core c.args.vol (g.S.Shelf.meaning c.args.shelf.now) (g.S.Shelf.meaning c.begin_first.new.shelf) c.begin_first.ensures.stands.group c.begin_first.ensures.begins (record { volume = c.requires.fits.exists; within = let some = c.requires.fits.some in let whole = c.requires.fits.whole in let within = c.requires.fits.within in omega (arith, some, whole, within) })) (c.write_whole-2.ensures.marked off)

pub returns-clause-full : goal.returns-clause-full
returns-clause-full g c = λ off on. let full = c.write_whole-2.ensures.full off on in let few = c.in-Ok.ensures.few in omega (arith, full, few)

pub returns-clause-trust : goal.returns-clause-trust
returns-clause-trust g c = ok_from c.write_whole-2.result (λ keeps is. keeps (c.in-Ok.ensures.trust is)) c.write_whole-2.ensures.trust

pub returns-clause-agreed : goal.returns-clause-agreed
returns-clause-agreed g c = err_from c.write_whole-2.result (λ keeps is. keeps (c.in-Ok.ensures.trust is)) c.write_whole-2.ensures.agreed

pub returns-clause-cause : goal.returns-clause-cause
returns-clause-cause g c = Cause_both (inner_meaning (wide c.args.core.now) (g.S.Shelf.meaning c.args.shelf.now)) (inner_meaning (wide c.begin_first.new.core) (g.S.Shelf.meaning c.begin_first.new.shelf)) (inner_meaning (wide c.write_whole-2.new.core) (g.S.Shelf.meaning c.write_whole-2.new.shelf)) c.args.vol c.write_whole-2.result c.in-Ok.ensures.cause c.begin_first.ensures.begins.goes.faults c.begin_first.ensures.begins.goes.disk_faults c.write_whole-2.ensures.cause

pub returns-in-Err-clause-finds : goal.returns-in-Err-clause-finds
returns-in-Err-clause-finds g c =
    c.begin_first.ensures.begins.finds

pub returns-clause-finds : goal.returns-clause-finds
returns-clause-finds g c =
    then_group c.args.core.now c.begin_first.new.core c.write_whole-2.new.core (g.S.Shelf.meaning c.args.shelf.now) (g.S.Shelf.meaning c.begin_first.new.shelf) (g.S.Shelf.meaning c.write_whole-2.new.shelf)
    c.begin_first.ensures.begins.finds
    c.write_whole-2.ensures.finds

pub returns-then-not-takes_fresh-clause-keeps : goal.returns-then-not-takes_fresh-clause-keeps
returns-then-not-takes_fresh-clause-keeps g c = c.write_whole.ensures.keeps

pub returns-then-not-takes_fresh-clause-kept : goal.returns-then-not-takes_fresh-clause-kept
returns-then-not-takes_fresh-clause-kept g c = c.write_whole.ensures.kept

pub returns-in-Err-clause-keeps : goal.returns-in-Err-clause-keeps
returns-in-Err-clause-keeps g c = stay_keeps c.args.core.now c.begin_first.new.core c.args.logs.now.items c.begin_first.new.logs.items (g.S.Shelf.meaning c.args.shelf.now) (g.S.Shelf.meaning c.begin_first.new.shelf) (begins_stay c.args.vol (region_count (wide c.args.core.now).config c.args.vol) c.args.core.now c.begin_first.new.core c.args.logs.now.items c.begin_first.new.logs.items (g.S.Shelf.meaning c.args.shelf.now) (g.S.Shelf.meaning c.begin_first.new.shelf) c.begin_first.ensures.begins c.begin_first.ensures.first)

pub returns-clause-keeps : goal.returns-clause-keeps
returns-clause-keeps g c = then_keeps c.args.core.now c.begin_first.new.core c.write_whole-2.new.core c.args.logs.now.items c.begin_first.new.logs.items c.write_whole-2.new.logs.items (g.S.Shelf.meaning c.args.shelf.now) (g.S.Shelf.meaning c.begin_first.new.shelf) (g.S.Shelf.meaning c.write_whole-2.new.shelf) (frames_places c.args.core.now.inner.config c.begin_first.new.core.inner.config c.begin_first.ensures.begins.loses.loses.frames) c.begin_first.ensures.begins.loses.rises c.write_whole-2.ensures.loses.rises c.write_whole-2.ensures.goes.falls (begins_stay c.args.vol (region_count (wide c.args.core.now).config c.args.vol) c.args.core.now c.begin_first.new.core c.args.logs.now.items c.begin_first.new.logs.items (g.S.Shelf.meaning c.args.shelf.now) (g.S.Shelf.meaning c.begin_first.new.shelf) c.begin_first.ensures.begins c.begin_first.ensures.first) c.write_whole-2.ensures.keeps

pub returns-clause-kept : goal.returns-clause-kept
returns-clause-kept g c = c.write_whole-2.ensures.kept

pub returns-in-Err-clause-begins : goal.returns-in-Err-clause-begins
returns-in-Err-clause-begins g c = λ alike going. tt

pub returns-clause-begins : goal.returns-clause-begins
returns-clause-begins g c = λ alike going. ok_from c.write_whole-2.result (λ runs. runs_same (fell_in c.begin_first.new.core c.write_whole-2.new.core c.args.vol) (fell_in c.args.core.now c.write_whole-2.new.core c.args.vol) c.args.vol (first_region c.args.block) (last_region c.args.block (length c.args.bytes.now / 512)) c.write_whole-2.new.logs.items (fell_first c.args.core.now c.begin_first.new.core c.write_whole-2.new.core c.args.vol c.begin_first.ensures.begins.still) runs) (c.write_whole-2.ensures.begins alike going)

pub returns-then-not-takes_fresh-clause-refused : goal.returns-then-not-takes_fresh-clause-refused
returns-then-not-takes_fresh-clause-refused g c = c.write_whole.ensures.refused

pub returns-in-Err-clause-refused : goal.returns-in-Err-clause-refused
returns-in-Err-clause-refused g c = λ alike going up off. absurd (let clash : true ≡ false = sym alike ∙ off in cc)

pub returns-clause-refused : goal.returns-clause-refused
returns-clause-refused g c = λ alike going up. err_from c.write_whole-2.result (λ runs off. runs_same (active c.begin_first.new.core.inner.config c.args.vol) (active c.args.core.now.inner.config c.args.vol) c.args.vol (first_region c.args.block) (last_region c.args.block (length c.args.bytes.now / 512)) c.write_whole-2.new.logs.items (c.begin_first.ensures.begins.still c.args.vol) (runs off)) (c.write_whole-2.ensures.refused alike going c.in-Ok.ensures.cause.after)

pub returns-then-not-takes_fresh-clause-moves : goal.returns-then-not-takes_fresh-clause-moves
returns-then-not-takes_fresh-clause-moves g c = λ off.
    run_moves c.args.core.now c.args.core.now c.write_whole.new.core c.args.vol (region_count (wide c.args.core.now).config c.args.vol) c.args.logs.now.items c.args.logs.now.items c.write_whole.new.logs.items (λ w p. refl) refl refl
    (lists_none c.args.vol (region_count (wide c.args.core.now).config c.args.vol) c.args.logs.now.items) (list_same c.args.core.now.inner.config c.args.vol c.args.logs.now.items)
    (λ k at f is. ((c.requires.stands.each c.args.vol k at).on (going_back c.args.stopped.now c.write_whole.new.stopped c.write_whole.ensures.stays off)).fits.fmr f is)
    (first_region c.args.block) (last_region c.args.block (length c.args.bytes.now / 512)) (is_alike c.args.alike.now c.args.vol) c.write_whole.result (g.S.Shelf.meaning c.write_whole.new.shelf) c.write_whole.ensures.stands.group (c.write_whole.ensures.loses.loses.frames c.args.vol) (c.write_whole.ensures.goes.size c.args.vol)
    (λ w apart. ap fmr_or (c.write_whole.ensures.marks.others w apart)) c.write_whole.ensures.gone (λ alike. c.write_whole.ensures.begins alike off) c.write_whole.ensures.notes (c.write_whole.ensures.holds off)

pub returns-in-Err-clause-moves : goal.returns-in-Err-clause-moves
returns-in-Err-clause-moves g c = λ off. first_doubts c.args.core.now.inner.config c.begin_first.new.core.inner.config c.args.vol (first_region c.args.block) (last_region c.args.block (length c.args.bytes.now / 512)) (region_count (wide c.args.core.now).config c.args.vol) c.args.logs.now.items c.begin_first.new.logs.items c.begin_first.ensures.first c.begin_first.ensures.news

pub returns-clause-moves : goal.returns-clause-moves
returns-clause-moves g c = λ off.
    run_moves c.args.core.now c.begin_first.new.core c.write_whole-2.new.core c.args.vol (region_count (wide c.args.core.now).config c.args.vol) c.args.logs.now.items c.begin_first.new.logs.items c.write_whole-2.new.logs.items c.begin_first.ensures.begins.still
    (start_count c.args.vol c.args.core.now c.begin_first.new.core (g.S.Shelf.meaning c.args.shelf.now) (g.S.Shelf.meaning c.begin_first.new.shelf) c.begin_first.ensures.begins)
    (start_blocks c.args.vol c.args.core.now c.begin_first.new.core (g.S.Shelf.meaning c.args.shelf.now) (g.S.Shelf.meaning c.begin_first.new.shelf) c.begin_first.ensures.begins) c.begin_first.ensures.first c.begin_first.ensures.news (λ k at f is. ((c.begin_first.ensures.stands.each c.args.vol k at).on refl).fits.fmr f is)
    (first_region c.args.block) (last_region c.args.block (length c.args.bytes.now / 512)) (is_alike c.args.alike.now c.args.vol) c.write_whole-2.result (g.S.Shelf.meaning c.write_whole-2.new.shelf) c.write_whole-2.ensures.stands.group (c.write_whole-2.ensures.loses.loses.frames c.args.vol) (c.write_whole-2.ensures.goes.size c.args.vol)
    (λ w apart. ap fmr_or (c.write_whole-2.ensures.marks.others w apart ∙ c.begin_first.ensures.first.others w apart)) c.write_whole-2.ensures.gone (λ alike. c.write_whole-2.ensures.begins alike off) c.write_whole-2.ensures.notes (c.write_whole-2.ensures.holds off)

pub returns-then-not-takes_fresh-clause-trusts : goal.returns-then-not-takes_fresh-clause-trusts
returns-then-not-takes_fresh-clause-trusts g c = c.write_whole.ensures.trusts

pub returns-in-Err-clause-trusts : goal.returns-in-Err-clause-trusts
returns-in-Err-clause-trusts g c = record { each = λ w log has told. c.begin_first.ensures.begins.trusts.each w log told }

pub returns-clause-trusts : goal.returns-clause-trusts
returns-clause-trusts g c = record { each = λ w log has told. c.write_whole-2.ensures.trusts.each w log has (c.begin_first.ensures.begins.trusts.each w log told) }

pub returns-then-not-takes_fresh-clause-stays : goal.returns-then-not-takes_fresh-clause-stays
returns-then-not-takes_fresh-clause-stays g c = c.write_whole.ensures.stays

pub returns-in-Err-clause-stays : goal.returns-in-Err-clause-stays
returns-in-Err-clause-stays g c = λ on. on

pub returns-clause-stays : goal.returns-clause-stays
returns-clause-stays g c = c.write_whole-2.ensures.stays

pub returns-then-not-takes_fresh-clause-alike : goal.returns-then-not-takes_fresh-clause-alike
returns-then-not-takes_fresh-clause-alike g c = c.write_whole.ensures.alike

pub returns-in-Err-clause-alike : goal.returns-in-Err-clause-alike
returns-in-Err-clause-alike g c = tt

pub returns-clause-alike : goal.returns-clause-alike
returns-clause-alike g c = c.write_whole-2.ensures.alike

pub returns-then-not-takes_fresh-clause-flags : goal.returns-then-not-takes_fresh-clause-flags
returns-then-not-takes_fresh-clause-flags g c = c.write_whole.ensures.flags

pub returns-in-Err-clause-flags : goal.returns-in-Err-clause-flags
returns-in-Err-clause-flags g c = λ w apart. refl

pub returns-clause-flags : goal.returns-clause-flags
returns-clause-flags g c = c.write_whole-2.ensures.flags

pub returns-then-not-takes_fresh-clause-rests : goal.returns-then-not-takes_fresh-clause-rests
returns-then-not-takes_fresh-clause-rests g c = c.write_whole.ensures.rests

pub returns-in-Err-clause-rests : goal.returns-in-Err-clause-rests
returns-in-Err-clause-rests g c = λ off w p is. sym (c.begin_first.ensures.begins.still w p) ∙ is

pub returns-clause-rests : goal.returns-clause-rests
returns-clause-rests g c = λ off w p is. sym (c.begin_first.ensures.begins.still w p) ∙ c.write_whole-2.ensures.rests off w p is

pub returns-then-not-takes_fresh-clause-free : goal.returns-then-not-takes_fresh-clause-free
returns-then-not-takes_fresh-clause-free g c = c.write_whole.ensures.free

pub returns-in-Err-clause-free : goal.returns-in-Err-clause-free
returns-in-Err-clause-free g c = λ off. tt

pub returns-clause-free : goal.returns-clause-free
returns-clause-free g c = c.write_whole-2.ensures.free

pub returns-then-not-takes_fresh-clause-unsure : goal.returns-then-not-takes_fresh-clause-unsure
returns-then-not-takes_fresh-clause-unsure g c = c.write_whole.ensures.unsure

pub returns-then-not-takes_fresh-clause-gives_up : goal.returns-then-not-takes_fresh-clause-gives_up
returns-then-not-takes_fresh-clause-gives_up g c = c.write_whole.ensures.gives_up

pub returns-in-Err-clause-unsure : goal.returns-in-Err-clause-unsure
returns-in-Err-clause-unsure g c = marks_fell {T = Unit {0}} c.args.vol c.args.core.now.inner.unsure c.begin_first.new.core.inner.unsure (Err c.in-Err.error) c.in-Err.ensures.unsure

pub returns-in-Err-clause-gives_up : goal.returns-in-Err-clause-gives_up
returns-in-Err-clause-gives_up g c = misses_faults (Unit {0}) c.args.vol c.args.core.now.inner.config c.begin_first.new.core.inner (g.S.Shelf.meaning c.args.shelf.now) (g.S.Shelf.meaning c.begin_first.new.shelf) c.in-Err.error c.in-Err.ensures.misses

pub returns-clause-unsure : goal.returns-clause-unsure
returns-clause-unsure g c = fell_then c.args.vol c.args.core.now.inner.unsure c.begin_first.new.core.inner.unsure c.write_whole-2.new.core.inner.unsure c.write_whole-2.result c.in-Ok.ensures.unsure c.write_whole-2.ensures.unsure

pub returns-clause-gives_up : goal.returns-clause-gives_up
returns-clause-gives_up g c = faults_before c.args.vol c.args.core.now.inner.config c.begin_first.new.core.inner.config (g.S.Shelf.meaning c.args.shelf.now) (g.S.Shelf.meaning c.begin_first.new.shelf) (c.begin_first.ensures.begins.loses.loses.lies c.args.vol) (c.begin_first.ensures.begins.still c.args.vol) c.begin_first.ensures.begins.loses.rises c.write_whole-2.new.core.inner (g.S.Shelf.meaning c.write_whole-2.new.shelf) c.write_whole-2.result c.write_whole-2.ensures.gives_up

pub returns-then-not-takes_fresh-clause-stands : goal.returns-then-not-takes_fresh-clause-stands
returns-then-not-takes_fresh-clause-stands g c = c.write_whole.ensures.stands

pub returns-then-not-takes_fresh-clause-goes : goal.returns-then-not-takes_fresh-clause-goes
returns-then-not-takes_fresh-clause-goes g c = c.write_whole.ensures.goes

pub returns-then-not-takes_fresh-clause-ok : goal.returns-then-not-takes_fresh-clause-ok
returns-then-not-takes_fresh-clause-ok g c = c.write_whole.ensures.ok

pub returns-then-not-takes_fresh-clause-loses : goal.returns-then-not-takes_fresh-clause-loses
returns-then-not-takes_fresh-clause-loses g c = c.write_whole.ensures.loses

pub returns-then-not-takes_fresh-clause-finds : goal.returns-then-not-takes_fresh-clause-finds
returns-then-not-takes_fresh-clause-finds g c = c.write_whole.ensures.finds

pub returns-then-not-takes_fresh-clause-marks : goal.returns-then-not-takes_fresh-clause-marks
returns-then-not-takes_fresh-clause-marks g c = c.write_whole.ensures.marks

pub returns-then-not-takes_fresh-clause-notes : goal.returns-then-not-takes_fresh-clause-notes
returns-then-not-takes_fresh-clause-notes g c = c.write_whole.ensures.notes

pub returns-then-not-takes_fresh-clause-begins : goal.returns-then-not-takes_fresh-clause-begins
returns-then-not-takes_fresh-clause-begins g c = c.write_whole.ensures.begins

pub returns-then-not-takes_fresh-clause-marked : goal.returns-then-not-takes_fresh-clause-marked
returns-then-not-takes_fresh-clause-marked g c = c.write_whole.ensures.marked

pub returns-then-not-takes_fresh-clause-trust : goal.returns-then-not-takes_fresh-clause-trust
returns-then-not-takes_fresh-clause-trust g c = c.write_whole.ensures.trust

pub returns-then-not-takes_fresh-clause-agreed : goal.returns-then-not-takes_fresh-clause-agreed
returns-then-not-takes_fresh-clause-agreed g c = c.write_whole.ensures.agreed

pub returns-then-not-takes_fresh-clause-cause : goal.returns-then-not-takes_fresh-clause-cause
returns-then-not-takes_fresh-clause-cause g c = c.write_whole.ensures.cause

pub returns-in-Err-clause-ok : goal.returns-in-Err-clause-ok
returns-in-Err-clause-ok g c = tt

pub returns-in-Err-clause-trust : goal.returns-in-Err-clause-trust
returns-in-Err-clause-trust g c = tt

pub returns-in-Err-clause-agreed : goal.returns-in-Err-clause-agreed
returns-in-Err-clause-agreed g c = c.in-Err.ensures.agreed

pub returns-in-Err-clause-kept : goal.returns-in-Err-clause-kept
returns-in-Err-clause-kept g c = λ off. tt

pub returns-clause-stands : goal.returns-clause-stands
returns-clause-stands g c = c.write_whole-2.ensures.stands
