-- `copy_run`: clauses moved, copied and agreed; what `read_plex`, `write_all` and `detach` ask.
use Rattle.std.proofs.Common.{◌≡◌, refl, sym, ◌∙◌, true, false, arith, ◌/◌, Err, length, subst}
use Rattle.vx_resync.proofs.CauseLemmas.{blamed_since}
use Rattle.vx_group.proofs.LoseLemmas.{loses_detach}
use Rattle.vx_group.proofs.CallLemmas.{left_done, ok_by, blames_by, blames_later, ends_blame, plex_blames}
use Rattle.vx_group.proofs.CopyLemmas.{fits_source, ok_both, put_Copied, put_Moved, put_Stands, read_Moved, spent_by, spent_none, asked_source}
use Rattle.vx_group.proofs.DetachLemmas.{zero_bit}
use Rattle.vx_group.proofs.Standing.{fit_of, some_active, sound_of}
use Rattle.vx_group.proofs.WriteLemmas.{flushed_Stands, no_commit}
use Rattle.vx_disk.proofs.Causing.{Rose_before}
use Rattle.vx_disk.specs.declared.shelf.ShelfError.{ShelfError}
use Rattle.vx_group.specs.Blames.{Blames}
use Rattle.vx_volume.specs.Volumes.{PlexWrote}
use Rattle.vx_group.proofs.copying.copy_run.Goals as goal

pub read_plex-requires-clause-fits : goal.read_plex-requires-clause-fits
read_plex-requires-clause-fits g c = fits_source c.args.core.now c.args.vol c.args.source c.args.block _ (g.S.Shelf.meaning c.args.shelf.now) c.requires.stands c.requires.is_on c.requires.fits

pub returns-in-Err-clause-moved : goal.returns-in-Err-clause-moved
returns-in-Err-clause-moved g c = read_Moved c.args.core.now c.args.vol c.args.source (g.S.Shelf.meaning c.args.shelf.now) (g.S.Shelf.meaning c.read_plex.new.shelf) (g.met.S.Shelf.lawful c.args.shelf.now) (g.met.S.Shelf.lawful c.read_plex.new.shelf) c.requires.stands c.read_plex.ensures.goes _

pub write_all-requires-clause-disks : goal.write_all-requires-clause-disks
write_all-requires-clause-disks g c = fit_of c.args.core.now (g.S.Shelf.meaning c.read_plex.new.shelf) (flushed_Stands c.args.core.now c.args.vol (g.S.Shelf.meaning c.args.shelf.now) (g.S.Shelf.meaning c.read_plex.new.shelf) (g.met.S.Shelf.lawful c.args.shelf.now) (g.met.S.Shelf.lawful c.read_plex.new.shelf) c.requires.stands c.read_plex.ensures.goes)

pub detach-requires-clause-stands : goal.detach-requires-clause-stands
detach-requires-clause-stands g c = (put_Stands c.args.core.now c.args.vol c.args.source c.args.block _ c.read_plex.new.into (g.S.Shelf.meaning c.args.shelf.now) (g.S.Shelf.meaning c.read_plex.new.shelf) (g.S.Shelf.meaning c.write_all.new.shelf) (g.met.S.Shelf.lawful c.args.shelf.now) (g.met.S.Shelf.lawful c.read_plex.new.shelf) (g.met.S.Shelf.lawful c.write_all.new.shelf) c.requires.stands c.read_plex.auto.into c.requires.fits c.read_plex.ensures.goes c.in-Ok.ensures.ok c.write_all.ensures.goes)

pub returns-then-failed-eq0-clause-moved : goal.returns-then-failed-eq0-clause-moved
returns-then-failed-eq0-clause-moved g c = put_Moved c.args.core.now c.args.vol c.args.source c.args.block _ c.read_plex.new.into (g.S.Shelf.meaning c.args.shelf.now) (g.S.Shelf.meaning c.read_plex.new.shelf) (g.S.Shelf.meaning c.write_all.new.shelf) (g.met.S.Shelf.lawful c.args.shelf.now) (g.met.S.Shelf.lawful c.read_plex.new.shelf) (g.met.S.Shelf.lawful c.write_all.new.shelf) c.requires.stands c.read_plex.auto.into c.requires.fits c.read_plex.ensures.goes c.in-Ok.ensures.ok c.write_all.ensures.goes c.args.core.now (g.S.Shelf.meaning c.write_all.new.shelf) (g.met.S.Shelf.lawful c.write_all.new.shelf) (no_commit c.args.core.now (g.S.Shelf.meaning c.write_all.new.shelf)) (put_Stands c.args.core.now c.args.vol c.args.source c.args.block _ c.read_plex.new.into (g.S.Shelf.meaning c.args.shelf.now) (g.S.Shelf.meaning c.read_plex.new.shelf) (g.S.Shelf.meaning c.write_all.new.shelf) (g.met.S.Shelf.lawful c.args.shelf.now) (g.met.S.Shelf.lawful c.read_plex.new.shelf) (g.met.S.Shelf.lawful c.write_all.new.shelf) c.requires.stands c.read_plex.auto.into c.requires.fits c.read_plex.ensures.goes c.in-Ok.ensures.ok c.write_all.ensures.goes) (spent_none c.args.core.now.config (g.S.Shelf.meaning c.args.shelf.now) (g.S.Shelf.meaning c.write_all.new.shelf)) (λ w p apart. refl)

pub returns-then-is_member-clause-moved : goal.returns-then-is_member-clause-moved
returns-then-is_member-clause-moved g c = put_Moved c.args.core.now c.args.vol c.args.source c.args.block _ c.read_plex.new.into (g.S.Shelf.meaning c.args.shelf.now) (g.S.Shelf.meaning c.read_plex.new.shelf) (g.S.Shelf.meaning c.write_all.new.shelf) (g.met.S.Shelf.lawful c.args.shelf.now) (g.met.S.Shelf.lawful c.read_plex.new.shelf) (g.met.S.Shelf.lawful c.write_all.new.shelf) c.requires.stands c.read_plex.auto.into c.requires.fits c.read_plex.ensures.goes c.in-Ok.ensures.ok c.write_all.ensures.goes c.args.core.now (g.S.Shelf.meaning c.write_all.new.shelf) (g.met.S.Shelf.lawful c.write_all.new.shelf) (no_commit c.args.core.now (g.S.Shelf.meaning c.write_all.new.shelf)) (put_Stands c.args.core.now c.args.vol c.args.source c.args.block _ c.read_plex.new.into (g.S.Shelf.meaning c.args.shelf.now) (g.S.Shelf.meaning c.read_plex.new.shelf) (g.S.Shelf.meaning c.write_all.new.shelf) (g.met.S.Shelf.lawful c.args.shelf.now) (g.met.S.Shelf.lawful c.read_plex.new.shelf) (g.met.S.Shelf.lawful c.write_all.new.shelf) c.requires.stands c.read_plex.auto.into c.requires.fits c.read_plex.ensures.goes c.in-Ok.ensures.ok c.write_all.ensures.goes) (spent_none c.args.core.now.config (g.S.Shelf.meaning c.args.shelf.now) (g.S.Shelf.meaning c.write_all.new.shelf)) (λ w p apart. refl)

pub returns-in-Err-write_all-clause-moved : goal.returns-in-Err-write_all-clause-moved
returns-in-Err-write_all-clause-moved g c = put_Moved c.args.core.now c.args.vol c.args.source c.args.block _ c.read_plex.new.into (g.S.Shelf.meaning c.args.shelf.now) (g.S.Shelf.meaning c.read_plex.new.shelf) (g.S.Shelf.meaning c.write_all.new.shelf) (g.met.S.Shelf.lawful c.args.shelf.now) (g.met.S.Shelf.lawful c.read_plex.new.shelf) (g.met.S.Shelf.lawful c.write_all.new.shelf) c.requires.stands c.read_plex.auto.into c.requires.fits c.read_plex.ensures.goes c.in-Ok.ensures.ok c.write_all.ensures.goes c.args.core.now (g.S.Shelf.meaning c.write_all.new.shelf) (g.met.S.Shelf.lawful c.write_all.new.shelf) (no_commit c.args.core.now (g.S.Shelf.meaning c.write_all.new.shelf)) (put_Stands c.args.core.now c.args.vol c.args.source c.args.block _ c.read_plex.new.into (g.S.Shelf.meaning c.args.shelf.now) (g.S.Shelf.meaning c.read_plex.new.shelf) (g.S.Shelf.meaning c.write_all.new.shelf) (g.met.S.Shelf.lawful c.args.shelf.now) (g.met.S.Shelf.lawful c.read_plex.new.shelf) (g.met.S.Shelf.lawful c.write_all.new.shelf) c.requires.stands c.read_plex.auto.into c.requires.fits c.read_plex.ensures.goes c.in-Ok.ensures.ok c.write_all.ensures.goes) (spent_none c.args.core.now.config (g.S.Shelf.meaning c.args.shelf.now) (g.S.Shelf.meaning c.write_all.new.shelf)) (λ w p apart. refl)

pub returns-else-is_member-clause-moved : goal.returns-else-is_member-clause-moved
returns-else-is_member-clause-moved g c = put_Moved c.args.core.now c.args.vol c.args.source c.args.block _ c.read_plex.new.into (g.S.Shelf.meaning c.args.shelf.now) (g.S.Shelf.meaning c.read_plex.new.shelf) (g.S.Shelf.meaning c.write_all.new.shelf) (g.met.S.Shelf.lawful c.args.shelf.now) (g.met.S.Shelf.lawful c.read_plex.new.shelf) (g.met.S.Shelf.lawful c.write_all.new.shelf) c.requires.stands c.read_plex.auto.into c.requires.fits c.read_plex.ensures.goes c.in-Ok.ensures.ok c.write_all.ensures.goes c.detach.new.core (g.S.Shelf.meaning c.detach.new.shelf) (g.met.S.Shelf.lawful c.detach.new.shelf) c.detach.ensures.narrows c.detach.ensures.stands (spent_by c.args.core.now.config c.detach.new.core.config (g.S.Shelf.meaning c.args.shelf.now) (g.S.Shelf.meaning c.read_plex.new.shelf) (g.S.Shelf.meaning c.write_all.new.shelf) (g.S.Shelf.meaning c.detach.new.shelf) c.in-Ok-write_all.failed.disk c.read_plex.ensures.goes.disk_faults c.detach.ensures.narrows.acts.disk_faults (c.in-Ok-write_all.ensures.ends.1.rose (omega (arith, c.if-failed-eq0.false))) (loses_detach (g.S.Shelf.meaning c.args.shelf.now) (g.S.Shelf.meaning c.write_all.new.shelf) (g.S.Shelf.meaning c.detach.new.shelf) (λ u. let one = c.read_plex.ensures.goes.faults u in let two = c.write_all.ensures.goes.faults u in omega (arith, one, two)) c.detach.ensures.narrows.acts.faults c.args.core.now.config c.detach.new.core.config c.args.vol c.in-Ok-write_all.failed.set (λ p bit. blamed_since c.args.core.now.config c.args.vol p (g.S.Shelf.meaning c.args.shelf.now) (g.S.Shelf.meaning c.read_plex.new.shelf) (g.S.Shelf.meaning c.write_all.new.shelf) c.read_plex.ensures.goes.faults (c.in-Ok-write_all.ensures.ends.0.blamed p bit).1) c.detach.ensures.lies c.detach.ensures.others c.detach.ensures.failing c.detach.ensures.parts c.detach.ensures.narrows.shape c.detach.ensures.narrows.on)) (λ w p apart. c.detach.ensures.others w p (λ same bit. apart same))

pub returns-then-failed-eq0-clause-copied : goal.returns-then-failed-eq0-clause-copied
returns-then-failed-eq0-clause-copied g c = put_Copied c.args.core.now c.args.vol c.args.source c.args.block _ c.read_plex.new.into (g.S.Shelf.meaning c.args.shelf.now) (g.S.Shelf.meaning c.read_plex.new.shelf) (g.S.Shelf.meaning c.write_all.new.shelf) (g.met.S.Shelf.lawful c.args.shelf.now) (g.met.S.Shelf.lawful c.read_plex.new.shelf) (g.met.S.Shelf.lawful c.write_all.new.shelf) c.requires.stands c.read_plex.auto.into c.requires.fits c.read_plex.ensures.goes c.in-Ok.ensures.ok c.write_all.ensures.goes c.args.core.now (g.S.Shelf.meaning c.write_all.new.shelf) (g.met.S.Shelf.lawful c.write_all.new.shelf) (no_commit c.args.core.now (g.S.Shelf.meaning c.write_all.new.shelf)) (put_Stands c.args.core.now c.args.vol c.args.source c.args.block _ c.read_plex.new.into (g.S.Shelf.meaning c.args.shelf.now) (g.S.Shelf.meaning c.read_plex.new.shelf) (g.S.Shelf.meaning c.write_all.new.shelf) (g.met.S.Shelf.lawful c.args.shelf.now) (g.met.S.Shelf.lawful c.read_plex.new.shelf) (g.met.S.Shelf.lawful c.write_all.new.shelf) c.requires.stands c.read_plex.auto.into c.requires.fits c.read_plex.ensures.goes c.in-Ok.ensures.ok c.write_all.ensures.goes) (spent_none c.args.core.now.config (g.S.Shelf.meaning c.args.shelf.now) (g.S.Shelf.meaning c.write_all.new.shelf)) (λ w p apart. refl) (λ is. is) c.requires.settled c.requires.is_on c.in-Ok-write_all.ensures.ends.0.up (λ p on. c.in-Ok-write_all.ensures.ends.0.is_done p on (zero_bit c.in-Ok-write_all.failed.set p (omega (arith, c.if-failed-eq0.true))))

pub returns-else-is_member-clause-copied : goal.returns-else-is_member-clause-copied
returns-else-is_member-clause-copied g c = ok_by c.detach.result c.in-Ok-write_all.failed.disk (g.S.Shelf.meaning c.write_all.new.shelf) (g.S.Shelf.meaning c.detach.new.shelf) (ok_both _ _ c.detach.result (ok_both _ _ c.detach.result c.detach.ensures.off c.detach.ensures.settled) c.detach.ensures.trust) c.detach.ensures.cause (λ both up. put_Copied c.args.core.now c.args.vol c.args.source c.args.block _ c.read_plex.new.into (g.S.Shelf.meaning c.args.shelf.now) (g.S.Shelf.meaning c.read_plex.new.shelf) (g.S.Shelf.meaning c.write_all.new.shelf) (g.met.S.Shelf.lawful c.args.shelf.now) (g.met.S.Shelf.lawful c.read_plex.new.shelf) (g.met.S.Shelf.lawful c.write_all.new.shelf) c.requires.stands c.read_plex.auto.into c.requires.fits c.read_plex.ensures.goes c.in-Ok.ensures.ok c.write_all.ensures.goes c.detach.new.core (g.S.Shelf.meaning c.detach.new.shelf) (g.met.S.Shelf.lawful c.detach.new.shelf) c.detach.ensures.narrows c.detach.ensures.stands (spent_by c.args.core.now.config c.detach.new.core.config (g.S.Shelf.meaning c.args.shelf.now) (g.S.Shelf.meaning c.read_plex.new.shelf) (g.S.Shelf.meaning c.write_all.new.shelf) (g.S.Shelf.meaning c.detach.new.shelf) c.in-Ok-write_all.failed.disk c.read_plex.ensures.goes.disk_faults c.detach.ensures.narrows.acts.disk_faults (c.in-Ok-write_all.ensures.ends.1.rose (omega (arith, c.if-failed-eq0.false))) (loses_detach (g.S.Shelf.meaning c.args.shelf.now) (g.S.Shelf.meaning c.write_all.new.shelf) (g.S.Shelf.meaning c.detach.new.shelf) (λ u. let one = c.read_plex.ensures.goes.faults u in let two = c.write_all.ensures.goes.faults u in omega (arith, one, two)) c.detach.ensures.narrows.acts.faults c.args.core.now.config c.detach.new.core.config c.args.vol c.in-Ok-write_all.failed.set (λ p bit. blamed_since c.args.core.now.config c.args.vol p (g.S.Shelf.meaning c.args.shelf.now) (g.S.Shelf.meaning c.read_plex.new.shelf) (g.S.Shelf.meaning c.write_all.new.shelf) c.read_plex.ensures.goes.faults (c.in-Ok-write_all.ensures.ends.0.blamed p bit).1) c.detach.ensures.lies c.detach.ensures.others c.detach.ensures.failing c.detach.ensures.parts c.detach.ensures.narrows.shape c.detach.ensures.narrows.on)) (λ w p apart. c.detach.ensures.others w p (λ same bit. apart same)) both.1 both.0.1 (c.detach.ensures.others c.args.vol c.args.source (λ same bit. let clash : true ≡ false = sym bit ∙ sym c.is_member.ensures ∙ c.if-is_member.false in cc) ∙ c.requires.is_on) up (left_done c.args.core.now.config c.detach.new.core.config c.args.vol c.in-Ok-write_all.failed.set _ (g.S.Shelf.meaning c.read_plex.new.shelf) (g.S.Shelf.meaning c.write_all.new.shelf) (c.detach.ensures.narrows.on c.args.vol) c.in-Ok-write_all.ensures.ends.0 both.0.0))

pub returns-in-Err-clause-agreed : goal.returns-in-Err-clause-agreed
returns-in-Err-clause-agreed g c = c.requires.stands.trusts.both

pub returns-then-is_member-clause-agreed : goal.returns-then-is_member-clause-agreed
returns-then-is_member-clause-agreed g c = c.requires.stands.trusts.both

pub returns-in-Err-write_all-clause-agreed : goal.returns-in-Err-write_all-clause-agreed
returns-in-Err-write_all-clause-agreed g c = c.requires.stands.trusts.both

pub returns-else-is_member-clause-agreed : goal.returns-else-is_member-clause-agreed
returns-else-is_member-clause-agreed g c = c.detach.ensures.agreed

pub read_plex-requires-clause-asked : goal.read_plex-requires-clause-asked
read_plex-requires-clause-asked g c = asked_source c.args.core.now c.args.vol c.args.source c.args.block _ (g.S.Shelf.meaning c.args.shelf.now) c.requires.stands c.requires.is_on c.requires.fits

pub read_plex-requires-clause-whole : goal.read_plex-requires-clause-whole
read_plex-requires-clause-whole g c = c.requires.fits.whole

pub write_all-requires-clause-checked : goal.write_all-requires-clause-checked
write_all-requires-clause-checked g c = sound_of c.args.core.now (g.S.Shelf.meaning c.args.shelf.now) c.requires.stands

pub write_all-requires-clause-volume : goal.write_all-requires-clause-volume
write_all-requires-clause-volume g c = c.requires.fits.exists

pub write_all-requires-clause-within : goal.write_all-requires-clause-within
write_all-requires-clause-within g c = let long = c.read_plex.auto.into in let within = c.requires.fits.within in omega (arith, long, within)

pub write_all-requires-clause-whole : goal.write_all-requires-clause-whole
write_all-requires-clause-whole g c = let long = c.read_plex.auto.into in let whole = c.requires.fits.whole in omega (arith, long, whole)

pub write_all-requires-clause-some : goal.write_all-requires-clause-some
write_all-requires-clause-some g c = some_active c.args.core.now (g.S.Shelf.meaning c.args.shelf.now) c.requires.stands c.args.vol c.requires.fits.exists

pub write_all-requires-clause-up : goal.write_all-requires-clause-up
write_all-requires-clause-up g c = c.in-Ok.ensures.cause

pub detach-requires-clause-settled : goal.detach-requires-clause-settled
detach-requires-clause-settled g c = c.requires.settled

pub detach-requires-clause-left : goal.detach-requires-clause-left
detach-requires-clause-left g c = λ lt. let some = c.in-Ok-write_all.ensures.ends.0.some in record { plex = some.0; is_on = some.1; out = some.2 }

pub detach-requires-clause-those : goal.detach-requires-clause-those
detach-requires-clause-those g c = record { each = λ p bit. (c.in-Ok-write_all.ensures.ends.0.blamed p bit).0 }

pub returns-in-Err-clause-cause : goal.returns-in-Err-clause-cause
returns-in-Err-clause-cause g c = plex_blames (Unit {0}) c.args.core.now.config c.args.vol c.args.source (g.S.Shelf.meaning c.args.shelf.now) (g.S.Shelf.meaning c.read_plex.new.shelf) c.in-Err.error c.in-Err.ensures.cause

pub returns-then-failed-eq0-clause-cause : goal.returns-then-failed-eq0-clause-cause
returns-then-failed-eq0-clause-cause g c = c.in-Ok-write_all.ensures.ends.0.up

pub returns-then-is_member-clause-cause : goal.returns-then-is_member-clause-cause
returns-then-is_member-clause-cause g c = (
  Rose_before ((g.S.Shelf.meaning c.args.shelf.now).disk_faults c.in-Ok-write_all.failed.disk) ((g.S.Shelf.meaning c.read_plex.new.shelf).disk_faults c.in-Ok-write_all.failed.disk) ((g.S.Shelf.meaning c.write_all.new.shelf).disk_faults c.in-Ok-write_all.failed.disk)
      (c.read_plex.ensures.goes.disk_faults c.in-Ok-write_all.failed.disk) (c.in-Ok-write_all.ensures.ends.1.rose (omega (arith, c.if-failed-eq0.false))),
  c.in-Ok-write_all.ensures.ends.0.up,
)

pub returns-else-is_member-clause-cause : goal.returns-else-is_member-clause-cause
returns-else-is_member-clause-cause g c =
    blames_later c.detach.result (g.S.Shelf.meaning c.args.shelf.now) (g.S.Shelf.meaning c.read_plex.new.shelf) (g.S.Shelf.meaning c.detach.new.shelf) c.read_plex.ensures.goes.disk_faults
    (blames_by c.detach.result c.in-Ok-write_all.failed.disk (g.S.Shelf.meaning c.read_plex.new.shelf) (g.S.Shelf.meaning c.write_all.new.shelf) (g.S.Shelf.meaning c.detach.new.shelf) (c.in-Ok-write_all.ensures.ends.1.rose (omega (arith, c.if-failed-eq0.false))) c.write_all.ensures.goes.disk_faults c.detach.ensures.narrows.acts.disk_faults c.detach.ensures.cause)

pub returns-in-Err-write_all-clause-cause : goal.returns-in-Err-write_all-clause-cause
returns-in-Err-write_all-clause-cause g c =
    blames_later {T = Unit {0}} (Err c.fault_of.result) (g.S.Shelf.meaning c.args.shelf.now) (g.S.Shelf.meaning c.read_plex.new.shelf) (g.S.Shelf.meaning c.write_all.new.shelf) c.read_plex.ensures.goes.disk_faults
    (subst (λ (e : ShelfError). Blames {T = Unit {0}} (g.S.Shelf.meaning c.read_plex.new.shelf) (g.S.Shelf.meaning c.write_all.new.shelf) (Err e)) (sym c.fault_of.ensures)
    (ends_blame c.args.core.now.config c.args.vol (λ p. PlexWrote c.args.core.now.config c.args.vol p c.args.block (length c.read_plex.new.into / 512) c.args.block (length c.read_plex.new.into / 512) c.read_plex.new.into (g.S.Shelf.meaning c.read_plex.new.shelf) (g.S.Shelf.meaning c.write_all.new.shelf)) (g.S.Shelf.meaning c.read_plex.new.shelf) (g.S.Shelf.meaning c.write_all.new.shelf) c.in-Err-write_all.no 0 c.in-Err-write_all.ensures.ends))
