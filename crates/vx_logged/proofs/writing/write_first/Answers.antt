-- A write that is marked first.
use Rattle.std.proofs.Common.{◌≡◌, ◌∙◌, inl, inr, ◌/◌, true, false, length, refl, sym, arith, Bool}
use Rattle.std.proofs.lemmas.Bool.{not-false, not-true}
use Rattle.std.specs.Prelude.{not}
use Rattle.vx_disk.specs.Shelf.{Written}
use Rattle.vx_disk.proofs.Causing.{Cause_both}
use Rattle.vx_disk.proofs.Runs.{none_written, nothing_then}
use Rattle.vx_group.specs.Holding.{wide}
use Rattle.vx_group.specs.Stands.{inner_meaning}
use Rattle.vx_group.proofs.CallLemmas.{nothing_Wrote}
use Rattle.vx_group.proofs.TrustLemmas.{err_from, ok_from}
use Rattle.vx_groupmaps.specs.Missing.{none_spared}
use Rattle.vx_groupmaps.proofs.KnowLemmas.{note_more, note_same}
use Rattle.vx_logs.specs.Writes.{first_region, last_region}
use Rattle.vx_logged.specs.Logged.{are_off}
use Rattle.vx_logged.proofs.BeginLemmas.{but_of, plexes_one}
use Rattle.vx_logged.proofs.EmptyLemmas.{run_wider}
use Rattle.vx_logged.proofs.HoldsLemmas.{narrow_inner}
use Rattle.vx_logged.proofs.MissLemmas.{know_refused, know_run, know_wrote, more_off, plexes_wrote}
use Rattle.vx_volume.specs.Plexes.{active}
use Rattle.vx_logged.proofs.StandLemmas.{fits_later, narrowed_acts, narrowed_then, others_then, same_only, write_here, write_others}
use Rattle.vx_group.proofs.LoseLemmas.{then_along}
use Rattle.vx_group.proofs.FindingLemmas.{then_group}
use Rattle.vx_logged.proofs.GoneLogs.{trusts_in, trusts_then}
use Rattle.vx_grouplogs.proofs.GoneLemmas.{drop_before, drop_same}
use Rattle.vx_group.proofs.UnsureLemmas.{faults_before, gives_faults, marks_then, misses_faults}
use Rattle.vx_logged.proofs.writing.write_first.Goals as goal

pub mark_group-requires-clause-there : goal.mark_group-requires-clause-there
mark_group-requires-clause-there g c =
    c.requires.fits.exists

pub mark_group-requires-clause-some : goal.mark_group-requires-clause-some
mark_group-requires-clause-some g c =
    omega (arith, c.requires.fits.some, c.requires.fits.whole)

pub mark_group-requires-clause-within : goal.mark_group-requires-clause-within
mark_group-requires-clause-within g c =
    omega (arith, c.requires.fits.within)

pub mark_group-requires-clause-log : goal.mark_group-requires-clause-log
mark_group-requires-clause-log g c =
    c.requires.log c.if-stopped.false

pub write_group-requires-2-clause-fits : goal.write_group-requires-2-clause-fits
write_group-requires-2-clause-fits g c =
    fits_later c.args.core.now c.mark_group.new.core c.args.vol c.args.block (length c.args.bytes.now) (g.S.Shelf.meaning c.args.shelf.now) (g.S.Shelf.meaning c.mark_group.new.shelf) c.mark_group.ensures.goes c.requires.fits

pub returns-then-stopped-clause-log : goal.returns-then-stopped-clause-log
returns-then-stopped-clause-log g c =
    λ is. absurd (let clash : true ≡ false = sym c.if-stopped.true ∙ is in cc)

pub returns-then-stopped-clause-full : goal.returns-then-stopped-clause-full
returns-then-stopped-clause-full g c =
    λ off is. absurd (let clash : true ≡ false = sym c.if-stopped.true ∙ off in cc)

pub returns-then-stopped-clause-others : goal.returns-then-stopped-clause-others
returns-then-stopped-clause-others g c =
    write_others c.args.core.now c.write_group.new.core c.args.vol c.args.block c.args.bytes.now (g.S.Shelf.meaning c.args.shelf.now) (g.S.Shelf.meaning c.write_group.new.shelf) c.requires.stands c.requires.fits c.write_group.ensures.acts

pub returns-in-Err-clause-goes : goal.returns-in-Err-clause-goes
returns-in-Err-clause-goes g c =
    none_written (Written c.args.vol c.args.block c.args.bytes.now) (inner_meaning (wide c.args.core.now) (g.S.Shelf.meaning c.args.shelf.now)) (inner_meaning (wide c.mark_group.new.core) (g.S.Shelf.meaning c.mark_group.new.shelf)) c.mark_group.ensures.goes

pub returns-in-Err-clause-log : goal.returns-in-Err-clause-log
returns-in-Err-clause-log g c =
    λ is. c.mark_group.ensures.log

pub returns-in-Err-clause-stays : goal.returns-in-Err-clause-stays
returns-in-Err-clause-stays g c =
    λ is. is

pub returns-in-Err-clause-full : goal.returns-in-Err-clause-full
returns-in-Err-clause-full g c =
    λ off is. absurd (let clash : true ≡ false = sym is ∙ off in cc)

pub returns-clause-goes : goal.returns-clause-goes
returns-clause-goes g c =
    nothing_then (Written c.args.vol c.args.block c.args.bytes.now) (inner_meaning (wide c.args.core.now) (g.S.Shelf.meaning c.args.shelf.now)) (inner_meaning (wide c.mark_group.new.core) (g.S.Shelf.meaning c.mark_group.new.shelf)) (inner_meaning (wide c.write_group-2.new.core) (g.S.Shelf.meaning c.write_group-2.new.shelf)) c.mark_group.ensures.goes c.write_group-2.ensures.goes

pub returns-clause-ok : goal.returns-clause-ok
returns-clause-ok g c =
    ok_from c.write_group-2.result (λ wrote. nothing_Wrote c.args.vol c.args.block c.args.bytes.now (inner_meaning (wide c.args.core.now) (g.S.Shelf.meaning c.args.shelf.now)) (inner_meaning (wide c.mark_group.new.core) (g.S.Shelf.meaning c.mark_group.new.shelf)) (inner_meaning (wide c.write_group-2.new.core) (g.S.Shelf.meaning c.write_group-2.new.shelf)) c.mark_group.ensures.goes c.in-Ok.ensures.cause.after wrote) c.write_group-2.ensures.ok

pub returns-clause-log : goal.returns-clause-log
returns-clause-log g c =
    λ is.
    let done = not-false c.in-Ok.done is in
    write_here c.mark_group.new.core c.write_group-2.new.core c.args.vol c.args.block c.args.bytes.now (g.S.Shelf.meaning c.mark_group.new.shelf) (g.S.Shelf.meaning c.write_group-2.new.shelf) c.mark_group.ensures.stands (fits_later c.args.core.now c.mark_group.new.core c.args.vol c.args.block (length c.args.bytes.now) (g.S.Shelf.meaning c.args.shelf.now) (g.S.Shelf.meaning c.mark_group.new.shelf) c.mark_group.ensures.goes c.requires.fits) c.write_group-2.ensures.acts c.mark_group.new.logs
    (c.in-Ok.ensures.may done) c.mark_group.ensures.log

pub returns-clause-others : goal.returns-clause-others
returns-clause-others g c =
    others_then c.args.vol c.args.core.now c.mark_group.new.core c.write_group-2.new.core (g.S.Shelf.meaning c.args.shelf.now) (g.S.Shelf.meaning c.mark_group.new.shelf) (g.S.Shelf.meaning c.write_group-2.new.shelf) c.mark_group.ensures.others
    (write_others c.mark_group.new.core c.write_group-2.new.core c.args.vol c.args.block c.args.bytes.now (g.S.Shelf.meaning c.mark_group.new.shelf) (g.S.Shelf.meaning c.write_group-2.new.shelf) c.mark_group.ensures.stands (fits_later c.args.core.now c.mark_group.new.core c.args.vol c.args.block (length c.args.bytes.now) (g.S.Shelf.meaning c.args.shelf.now) (g.S.Shelf.meaning c.mark_group.new.shelf) c.mark_group.ensures.goes c.requires.fits) c.write_group-2.ensures.acts)

pub returns-clause-stays : goal.returns-clause-stays
returns-clause-stays g c =
    λ is. absurd (let clash : true ≡ false = sym is ∙ c.if-stopped.false in cc)

pub returns-clause-full : goal.returns-clause-full
returns-clause-full g c =
    λ off is. c.in-Ok.ensures.full (not-true c.in-Ok.done is)

pub returns-clause-trust : goal.returns-clause-trust
returns-clause-trust g c =
    ok_from c.write_group-2.result (λ keeps is. keeps (c.in-Ok.ensures.trust is)) c.write_group-2.ensures.trust

pub returns-clause-agreed : goal.returns-clause-agreed
returns-clause-agreed g c =
    err_from c.write_group-2.result (λ keeps is. keeps (c.in-Ok.ensures.trust is)) c.write_group-2.ensures.agreed

pub returns-clause-cause : goal.returns-clause-cause
returns-clause-cause g c =
    Cause_both (inner_meaning (wide c.args.core.now) (g.S.Shelf.meaning c.args.shelf.now)) (inner_meaning (wide c.mark_group.new.core) (g.S.Shelf.meaning c.mark_group.new.shelf)) (inner_meaning (wide c.write_group-2.new.core) (g.S.Shelf.meaning c.write_group-2.new.shelf)) c.args.vol c.write_group-2.result c.in-Ok.ensures.cause c.mark_group.ensures.goes.faults c.mark_group.ensures.goes.disk_faults c.write_group-2.ensures.cause

pub returns-then-stopped-clause-adds : goal.returns-then-stopped-clause-adds
returns-then-stopped-clause-adds g c = same_only _ _ _ c.args.logs.now

pub returns-in-Err-clause-adds : goal.returns-in-Err-clause-adds
returns-in-Err-clause-adds g c = c.mark_group.ensures.adds

pub returns-clause-adds : goal.returns-clause-adds
returns-clause-adds g c = c.mark_group.ensures.adds

pub returns-then-stopped-clause-narrow : goal.returns-then-stopped-clause-narrow
returns-then-stopped-clause-narrow g c = narrowed_acts _ c.args.core.now c.write_group.new.core (g.S.Shelf.meaning c.args.shelf.now) (g.S.Shelf.meaning c.write_group.new.shelf) c.write_group.ensures.acts

pub returns-in-Err-clause-narrow : goal.returns-in-Err-clause-narrow
returns-in-Err-clause-narrow g c = c.mark_group.ensures.narrow

pub returns-clause-narrow : goal.returns-clause-narrow
returns-clause-narrow g c = narrowed_then c.args.core.now c.mark_group.new.core c.write_group-2.new.core c.mark_group.ensures.narrow (narrowed_acts _ c.mark_group.new.core c.write_group-2.new.core (g.S.Shelf.meaning c.mark_group.new.shelf) (g.S.Shelf.meaning c.write_group-2.new.shelf) c.write_group-2.ensures.acts)

pub returns-then-stopped-clause-written : goal.returns-then-stopped-clause-written
returns-then-stopped-clause-written g c = λ off. absurd (let clash : true ≡ false = sym c.if-stopped.true ∙ off in cc)

pub returns-in-Err-clause-written : goal.returns-in-Err-clause-written
returns-in-Err-clause-written g c = λ off. tt

pub returns-clause-written : goal.returns-clause-written
returns-clause-written g c = λ off. ok_from c.write_group-2.result (λ wrote know.
    know_wrote c.mark_group.new.core c.write_group-2.new.core c.args.vol c.args.block c.args.bytes.now (g.S.Shelf.meaning c.mark_group.new.shelf) (g.S.Shelf.meaning c.write_group-2.new.shelf) c.mark_group.ensures.stands
    (fits_later c.args.core.now c.mark_group.new.core c.args.vol c.args.block (length c.args.bytes.now) (g.S.Shelf.meaning c.args.shelf.now) (g.S.Shelf.meaning c.mark_group.new.shelf) c.mark_group.ensures.goes c.requires.fits) c.write_group-2.ensures.acts c.mark_group.new.logs
    (c.mark_group.ensures.maps none_spared know) wrote) c.write_group-2.ensures.ok

pub returns-then-stopped-clause-notes : goal.returns-then-stopped-clause-notes
returns-then-stopped-clause-notes g c = note_same _ _ _ c.args.logs.now c.args.logs.now refl

pub returns-in-Err-clause-notes : goal.returns-in-Err-clause-notes
returns-in-Err-clause-notes g c = c.mark_group.ensures.notes

pub returns-clause-notes : goal.returns-clause-notes
returns-clause-notes g c = note_more (are_off c.mark_group.new.core c.args.vol) (are_off c.write_group-2.new.core c.args.vol) (first_region c.args.block) (last_region c.args.block (length c.args.bytes.now / 512)) c.args.logs.now c.mark_group.new.logs
    (more_off c.mark_group.new.core c.write_group-2.new.core c.args.vol (narrowed_acts _ c.mark_group.new.core c.write_group-2.new.core (g.S.Shelf.meaning c.mark_group.new.shelf) (g.S.Shelf.meaning c.write_group-2.new.shelf) c.write_group-2.ensures.acts)) c.mark_group.ensures.notes

pub returns-then-stopped-clause-missed : goal.returns-then-stopped-clause-missed
returns-then-stopped-clause-missed g c = λ off. absurd (let clash : true ≡ false = sym c.if-stopped.true ∙ off in cc)

pub returns-then-stopped-clause-marked : goal.returns-then-stopped-clause-marked
returns-then-stopped-clause-marked g c = λ off. absurd (let clash : true ≡ false = sym c.if-stopped.true ∙ off in cc)

pub returns-in-Err-clause-missed : goal.returns-in-Err-clause-missed
returns-in-Err-clause-missed g c = λ off know. know_run c.mark_group.new.core c.args.vol (first_region c.args.block) (last_region c.args.block (length c.args.bytes.now / 512)) c.mark_group.new.logs (g.S.Shelf.meaning c.mark_group.new.shelf) (c.mark_group.ensures.maps none_spared know)

pub returns-in-Err-clause-marked : goal.returns-in-Err-clause-marked
returns-in-Err-clause-marked g c = λ off. inl c.mark_group.ensures.goes

pub returns-clause-missed : goal.returns-clause-missed
returns-clause-missed g c = λ off know.
    know_refused c.mark_group.new.core c.write_group-2.new.core c.args.vol c.args.block c.args.bytes.now (g.S.Shelf.meaning c.mark_group.new.shelf) (g.S.Shelf.meaning c.write_group-2.new.shelf) c.mark_group.ensures.stands
    (fits_later c.args.core.now c.mark_group.new.core c.args.vol c.args.block (length c.args.bytes.now) (g.S.Shelf.meaning c.args.shelf.now) (g.S.Shelf.meaning c.mark_group.new.shelf) c.mark_group.ensures.goes c.requires.fits) c.write_group-2.ensures.acts c.mark_group.new.logs
    (c.mark_group.ensures.maps none_spared know)

pub returns-clause-marked : goal.returns-clause-marked
returns-clause-marked g c = λ off.
    let done = not-false c.in-Ok.done off in
    inr (record {
      moment = c.mark_group.new.shelf;
      core = c.mark_group.new.core;
      logs = c.mark_group.new.logs;
      before = c.mark_group.ensures.goes;
      marked = record { group = c.mark_group.ensures.stands; stands = c.mark_group.ensures.log.stands; dirty = c.in-Ok.ensures.may done; said = c.in-Ok.ensures.said done; missed = c.in-Ok.ensures.missed done };
      behind = c.write_group-2.ensures.goes;
    })

pub returns-then-stopped-clause-loses : goal.returns-then-stopped-clause-loses
returns-then-stopped-clause-loses g c = record { loses = c.write_group.ensures.loses; rises = c.write_group.ensures.acts.acts.faults }

pub returns-in-Err-clause-loses : goal.returns-in-Err-clause-loses
returns-in-Err-clause-loses g c = c.mark_group.ensures.loses

pub returns-clause-loses : goal.returns-clause-loses
returns-clause-loses g c =
    then_along c.args.core.now.inner.config c.mark_group.new.core.inner.config c.write_group-2.new.core.inner.config (g.S.Shelf.meaning c.args.shelf.now) (g.S.Shelf.meaning c.mark_group.new.shelf) (g.S.Shelf.meaning c.write_group-2.new.shelf) c.mark_group.ensures.loses
    (record { loses = c.write_group-2.ensures.loses; rises = c.write_group-2.ensures.acts.acts.faults })

pub returns-then-stopped-clause-finds : goal.returns-then-stopped-clause-finds
returns-then-stopped-clause-finds g c =
    c.write_group.ensures.finds

pub returns-in-Err-clause-finds : goal.returns-in-Err-clause-finds
returns-in-Err-clause-finds g c =
    c.mark_group.ensures.finds

pub returns-clause-finds : goal.returns-clause-finds
returns-clause-finds g c =
    then_group c.args.core.now c.mark_group.new.core c.write_group-2.new.core (g.S.Shelf.meaning c.args.shelf.now) (g.S.Shelf.meaning c.mark_group.new.shelf) (g.S.Shelf.meaning c.write_group-2.new.shelf)
    c.mark_group.ensures.finds
    (c.write_group-2.ensures.finds)

pub returns-then-stopped-clause-drops : goal.returns-then-stopped-clause-drops
returns-then-stopped-clause-drops g c =
    drop_same (wide c.args.core.now).config c.args.vol c.args.logs.now (g.S.Shelf.meaning c.args.shelf.now) (g.S.Shelf.meaning c.write_group.new.shelf)

pub returns-then-stopped-clause-trusts : goal.returns-then-stopped-clause-trusts
returns-then-stopped-clause-trusts g c =
    trusts_in c.args.vol c.args.logs.now c.args.core.now.inner.config c.write_group.new.core.inner.config c.write_group.ensures.logs

pub returns-in-Err-clause-drops : goal.returns-in-Err-clause-drops
returns-in-Err-clause-drops g c =
    c.mark_group.ensures.drops

pub returns-in-Err-clause-trusts : goal.returns-in-Err-clause-trusts
returns-in-Err-clause-trusts g c =
    c.mark_group.ensures.trusts

pub returns-clause-drops : goal.returns-clause-drops
returns-clause-drops g c =
    drop_before (wide c.args.core.now).config c.args.vol c.args.logs.now c.mark_group.new.logs (g.S.Shelf.meaning c.args.shelf.now) (g.S.Shelf.meaning c.mark_group.new.shelf) (g.S.Shelf.meaning c.write_group-2.new.shelf) c.write_group-2.ensures.acts.acts.faults c.write_group-2.ensures.acts.acts.falls c.mark_group.ensures.drops

pub returns-clause-trusts : goal.returns-clause-trusts
returns-clause-trusts g c =
    trusts_then c.args.vol c.mark_group.new.logs c.args.core.now.inner.config c.mark_group.new.core.inner.config c.write_group-2.new.core.inner.config c.mark_group.ensures.trusts
    (trusts_in c.args.vol c.mark_group.new.logs c.mark_group.new.core.inner.config c.write_group-2.new.core.inner.config c.write_group-2.ensures.logs)

pub returns-then-stopped-clause-alike : goal.returns-then-stopped-clause-alike
returns-then-stopped-clause-alike g c = λ off. absurd (let clash : true ≡ false = sym c.if-stopped.true ∙ off in cc)

pub returns-in-Err-clause-alike : goal.returns-in-Err-clause-alike
returns-in-Err-clause-alike g c = λ off one.
    but_of (wide c.mark_group.new.core).config c.args.vol (first_region c.args.block) (last_region c.args.block (length c.args.bytes.now / 512)) (λ p. active (wide c.args.core.now).config c.args.vol p) (g.S.Shelf.meaning c.mark_group.new.shelf)
    (λ up. run_wider (wide c.mark_group.new.core).config c.args.vol (first_region c.args.block) (last_region c.args.block (length c.args.bytes.now / 512)) (λ p r. not (active (wide c.args.core.now).config c.args.vol p)) (g.S.Shelf.meaning c.mark_group.new.shelf) (c.mark_group.ensures.plexes (λ p r. not (active (wide c.args.core.now).config c.args.vol p)) up (plexes_one (wide c.args.core.now).config c.args.vol (g.S.Shelf.meaning c.args.shelf.now) one)))

pub returns-clause-alike : goal.returns-clause-alike
returns-clause-alike g c = λ off one.
    but_of (wide c.write_group-2.new.core).config c.args.vol (first_region c.args.block) (last_region c.args.block (length c.args.bytes.now / 512)) (λ p. active (wide c.args.core.now).config c.args.vol p) (g.S.Shelf.meaning c.write_group-2.new.shelf)
    (λ up. plexes_wrote c.mark_group.new.core c.write_group-2.new.core c.args.vol c.args.block c.args.bytes.now (g.S.Shelf.meaning c.mark_group.new.shelf) (g.S.Shelf.meaning c.write_group-2.new.shelf) c.mark_group.ensures.stands
    (fits_later c.args.core.now c.mark_group.new.core c.args.vol c.args.block (length c.args.bytes.now) (g.S.Shelf.meaning c.args.shelf.now) (g.S.Shelf.meaning c.mark_group.new.shelf) c.mark_group.ensures.goes c.requires.fits) c.write_group-2.ensures.acts
    (λ p r. not (active (wide c.args.core.now).config c.args.vol p)) up
    (c.mark_group.ensures.plexes (λ p r. not (active (wide c.args.core.now).config c.args.vol p)) (λ down. up (c.write_group-2.ensures.acts.acts.falls down)) (plexes_one (wide c.args.core.now).config c.args.vol (g.S.Shelf.meaning c.args.shelf.now) one)))

pub returns-then-stopped-clause-rests : goal.returns-then-stopped-clause-rests
returns-then-stopped-clause-rests g c = λ off. absurd (let clash : true ≡ false = sym c.if-stopped.true ∙ off in cc)

pub returns-in-Err-clause-rests : goal.returns-in-Err-clause-rests
returns-in-Err-clause-rests g c = λ off w p is. sym (c.mark_group.ensures.still w p) ∙ is

pub returns-clause-rests : goal.returns-clause-rests
returns-clause-rests g c = λ off w p is.
    let none = c.in-Ok.ensures.free (not-false c.in-Ok.done off) in
    sym (c.mark_group.ensures.still w p) ∙ narrow_inner c.mark_group.new.core c.write_group-2.new.core none (c.write_group-2.ensures.finds.free none) (narrowed_acts _ c.mark_group.new.core c.write_group-2.new.core (g.S.Shelf.meaning c.mark_group.new.shelf) (g.S.Shelf.meaning c.write_group-2.new.shelf) c.write_group-2.ensures.acts) w p is

pub returns-then-stopped-clause-marks : goal.returns-then-stopped-clause-marks
returns-then-stopped-clause-marks g c = c.write_group.ensures.marks

pub returns-then-stopped-clause-gives_up : goal.returns-then-stopped-clause-gives_up
returns-then-stopped-clause-gives_up g c = gives_faults c.args.vol c.args.core.now.inner c.write_group.new.core.inner (g.S.Shelf.meaning c.args.shelf.now) (g.S.Shelf.meaning c.write_group.new.shelf) c.write_group.result c.write_group.ensures.gave_up

pub returns-in-Err-clause-marks : goal.returns-in-Err-clause-marks
returns-in-Err-clause-marks g c = c.in-Err.ensures.marks

pub returns-in-Err-clause-gives_up : goal.returns-in-Err-clause-gives_up
returns-in-Err-clause-gives_up g c = misses_faults Bool c.args.vol c.args.core.now.inner.config c.mark_group.new.core.inner (g.S.Shelf.meaning c.args.shelf.now) (g.S.Shelf.meaning c.mark_group.new.shelf) c.in-Err.error c.in-Err.ensures.misses

pub returns-clause-marks : goal.returns-clause-marks
returns-clause-marks g c = marks_then c.args.vol c.args.core.now.inner.unsure c.mark_group.new.core.inner.unsure c.write_group-2.new.core.inner.unsure c.write_group-2.result c.in-Ok.ensures.marks c.write_group-2.ensures.marks

pub returns-clause-gives_up : goal.returns-clause-gives_up
returns-clause-gives_up g c = faults_before c.args.vol c.args.core.now.inner.config c.mark_group.new.core.inner.config (g.S.Shelf.meaning c.args.shelf.now) (g.S.Shelf.meaning c.mark_group.new.shelf) (c.mark_group.ensures.loses.loses.lies c.args.vol) (c.mark_group.ensures.still c.args.vol) c.mark_group.ensures.loses.rises c.write_group-2.new.core.inner (g.S.Shelf.meaning c.write_group-2.new.shelf) c.write_group-2.result (gives_faults c.args.vol c.mark_group.new.core.inner c.write_group-2.new.core.inner (g.S.Shelf.meaning c.mark_group.new.shelf) (g.S.Shelf.meaning c.write_group-2.new.shelf) c.write_group-2.result c.write_group-2.ensures.gave_up)

pub returns-clause-stands : goal.returns-clause-stands
returns-clause-stands g c = c.write_group-2.ensures.stands

pub returns-in-Err-clause-stands : goal.returns-in-Err-clause-stands
returns-in-Err-clause-stands g c = c.mark_group.ensures.stands

pub returns-in-Err-clause-others : goal.returns-in-Err-clause-others
returns-in-Err-clause-others g c = c.mark_group.ensures.others

pub returns-in-Err-clause-trust : goal.returns-in-Err-clause-trust
returns-in-Err-clause-trust g c = tt

pub returns-in-Err-clause-agreed : goal.returns-in-Err-clause-agreed
returns-in-Err-clause-agreed g c = c.in-Err.ensures.agreed

pub returns-in-Err-clause-ok : goal.returns-in-Err-clause-ok
returns-in-Err-clause-ok g c = tt

pub returns-then-stopped-clause-stands : goal.returns-then-stopped-clause-stands
returns-then-stopped-clause-stands g c = c.write_group.ensures.stands

pub returns-then-stopped-clause-goes : goal.returns-then-stopped-clause-goes
returns-then-stopped-clause-goes g c = c.write_group.ensures.goes

pub returns-then-stopped-clause-ok : goal.returns-then-stopped-clause-ok
returns-then-stopped-clause-ok g c = c.write_group.ensures.ok

pub returns-then-stopped-clause-trust : goal.returns-then-stopped-clause-trust
returns-then-stopped-clause-trust g c = c.write_group.ensures.trust

pub returns-then-stopped-clause-agreed : goal.returns-then-stopped-clause-agreed
returns-then-stopped-clause-agreed g c = c.write_group.ensures.agreed

pub returns-then-stopped-clause-cause : goal.returns-then-stopped-clause-cause
returns-then-stopped-clause-cause g c = c.write_group.ensures.cause
