-- `flush_one`: clauses ends and cause; what `flush_all` and `detach` ask.
use Rattle.std.proofs.Common.{Err, inl, inr, refl, sym, subst, arith}
use Rattle.vx_disk.proofs.Causing.{Rose_after}
use Rattle.vx_disk.specs.declared.shelf.ShelfError.{ShelfError}
use Rattle.vx_volume.specs.Volumes.{PlexFlushed}
use Rattle.vx_group.specs.Blames.{Blames}
use Rattle.vx_group.proofs.LoseLemmas.{loses_detach, loses_same}
use Rattle.vx_group.proofs.CallLemmas.{blames_by, ends_blame, left_done}
use Rattle.vx_group.proofs.DetachLemmas.{zero_bit}
use Rattle.vx_group.proofs.QuiesceLemmas.{missed_back, one_back, one_on, same_parts, unsure_blames, unsure_ends}
use Rattle.vx_group.proofs.Standing.{fit_of, some_active, sound_of}
use Rattle.vx_group.proofs.WriteLemmas.{flushed_Narrows, flushed_Stands, flushed_all, no_commit, flushed_finds}
use Rattle.vx_group.proofs.FindingLemmas.{as_finds, before_ends, ends_finds, stays_finds}
use Rattle.vx_group.proofs.TrustLemmas.{err_all}
use Rattle.vx_group.proofs.TrustStillLemmas.{same_logs}
use Rattle.vx_group.proofs.SettleCalls.{idle_alike}
use Rattle.vx_group.proofs.SettleMore.{alike_ends, as_ends, ends_alike, leaves_settled}
use Rattle.vx_group.proofs.quiescing.flush_one.Goals as goal

pub flush_all-requires-clause-checked : goal.flush_all-requires-clause-checked
flush_all-requires-clause-checked g c = sound_of c.args.core.now (g.S.Shelf.meaning c.args.shelf.now) c.requires.stands

pub flush_all-requires-clause-some : goal.flush_all-requires-clause-some
flush_all-requires-clause-some g c = some_active c.args.core.now (g.S.Shelf.meaning c.args.shelf.now) c.requires.stands c.args.vol c.requires.there

pub flush_all-requires-clause-disks : goal.flush_all-requires-clause-disks
flush_all-requires-clause-disks g c = fit_of c.args.core.now (g.S.Shelf.meaning c.args.shelf.now) c.requires.stands

pub detach-requires-clause-stands : goal.detach-requires-clause-stands
detach-requires-clause-stands g c = flushed_Stands c.args.core.now c.args.vol (g.S.Shelf.meaning c.args.shelf.now) (g.S.Shelf.meaning c.flush_all.new.shelf) (g.met.S.Shelf.lawful c.args.shelf.now) (g.met.S.Shelf.lawful c.flush_all.new.shelf) c.requires.stands c.flush_all.ensures.goes

pub returns-then-failed-eq0-clause-ends : goal.returns-then-failed-eq0-clause-ends
returns-then-failed-eq0-clause-ends g c = one_on c.args.core.now c.args.core.now c.args.vol (g.S.Shelf.meaning c.args.shelf.now) (g.S.Shelf.meaning c.flush_all.new.shelf) (flushed_Stands c.args.core.now c.args.vol (g.S.Shelf.meaning c.args.shelf.now) (g.S.Shelf.meaning c.flush_all.new.shelf) (g.met.S.Shelf.lawful c.args.shelf.now) (g.met.S.Shelf.lawful c.flush_all.new.shelf) c.requires.stands c.flush_all.ensures.goes) (flushed_Narrows c.args.core.now c.args.vol (g.S.Shelf.meaning c.args.shelf.now) (g.S.Shelf.meaning c.flush_all.new.shelf) (g.met.S.Shelf.lawful c.args.shelf.now) (g.met.S.Shelf.lawful c.flush_all.new.shelf) c.requires.stands c.flush_all.ensures.goes c.args.core.now (g.S.Shelf.meaning c.flush_all.new.shelf) (g.met.S.Shelf.lawful c.flush_all.new.shelf) (no_commit c.args.core.now (g.S.Shelf.meaning c.flush_all.new.shelf))) (inl refl) (loses_same c.args.core.now.config (g.S.Shelf.meaning c.args.shelf.now) (g.S.Shelf.meaning c.flush_all.new.shelf)) (flushed_all c.args.core.now c.args.vol (g.S.Shelf.meaning c.args.shelf.now) (g.S.Shelf.meaning c.flush_all.new.shelf) (g.met.S.Shelf.lawful c.args.shelf.now) (g.met.S.Shelf.lawful c.flush_all.new.shelf) c.requires.stands c.flush_all.ensures.goes c.args.core.now (g.S.Shelf.meaning c.flush_all.new.shelf) (g.met.S.Shelf.lawful c.flush_all.new.shelf) (no_commit c.args.core.now (g.S.Shelf.meaning c.flush_all.new.shelf)) (λ p on. c.in-Ok.ensures.ends.0.is_done p on (zero_bit c.in-Ok.failed.set p (omega (arith, c.if-failed-eq0.true))))) (same_parts c.args.core.now) (λ is. is) c.requires.settled c.in-Ok.ensures.ends.0.up c.requires.more

pub returns-then-failed-eq0-clause-cause : goal.returns-then-failed-eq0-clause-cause
returns-then-failed-eq0-clause-cause g c = c.in-Ok.ensures.ends.0.up

pub returns-then-core-ge-MOST_NUMBER-clause-ends : goal.returns-then-core-ge-MOST_NUMBER-clause-ends
returns-then-core-ge-MOST_NUMBER-clause-ends g c = one_back c.args.core.now c.detach.new.core c.args.vol (g.S.Shelf.meaning c.args.shelf.now) (g.S.Shelf.meaning c.detach.new.shelf) c.detach.ensures.stands (flushed_Narrows c.args.core.now c.args.vol (g.S.Shelf.meaning c.args.shelf.now) (g.S.Shelf.meaning c.flush_all.new.shelf) (g.met.S.Shelf.lawful c.args.shelf.now) (g.met.S.Shelf.lawful c.flush_all.new.shelf) c.requires.stands c.flush_all.ensures.goes c.detach.new.core (g.S.Shelf.meaning c.detach.new.shelf) (g.met.S.Shelf.lawful c.detach.new.shelf) c.detach.ensures.narrows) (inr (c.in-Ok.failed.disk, (Rose_after ((g.S.Shelf.meaning c.args.shelf.now).disk_faults c.in-Ok.failed.disk) ((g.S.Shelf.meaning c.flush_all.new.shelf).disk_faults c.in-Ok.failed.disk) ((g.S.Shelf.meaning c.detach.new.shelf).disk_faults c.in-Ok.failed.disk) (c.in-Ok.ensures.ends.1.rose (omega (arith, c.if-failed-eq0.false))) (c.detach.ensures.narrows.acts.disk_faults c.in-Ok.failed.disk)))) (loses_detach (g.S.Shelf.meaning c.args.shelf.now) (g.S.Shelf.meaning c.flush_all.new.shelf) (g.S.Shelf.meaning c.detach.new.shelf) c.flush_all.ensures.goes.faults c.detach.ensures.narrows.acts.faults c.args.core.now.config c.detach.new.core.config c.args.vol c.in-Ok.failed.set (λ p bit. (c.in-Ok.ensures.ends.0.blamed p bit).1) c.detach.ensures.lies c.detach.ensures.others c.detach.ensures.failing c.detach.ensures.parts c.detach.ensures.narrows.shape c.detach.ensures.narrows.on) c.detach.ensures.parts

pub returns-then-core-ge-MOST_NUMBER-clause-cause : goal.returns-then-core-ge-MOST_NUMBER-clause-cause
returns-then-core-ge-MOST_NUMBER-clause-cause g c = ((Rose_after ((g.S.Shelf.meaning c.args.shelf.now).disk_faults c.in-Ok.failed.disk) ((g.S.Shelf.meaning c.flush_all.new.shelf).disk_faults c.in-Ok.failed.disk) ((g.S.Shelf.meaning c.detach.new.shelf).disk_faults c.in-Ok.failed.disk) (c.in-Ok.ensures.ends.1.rose (omega (arith, c.if-failed-eq0.false))) (c.detach.ensures.narrows.acts.disk_faults c.in-Ok.failed.disk)), c.in-Ok-detach.ensures.cause)

pub returns-else-core-ge-MOST_NUMBER-clause-ends : goal.returns-else-core-ge-MOST_NUMBER-clause-ends
returns-else-core-ge-MOST_NUMBER-clause-ends g c = one_on c.args.core.now c.detach.new.core c.args.vol (g.S.Shelf.meaning c.args.shelf.now) (g.S.Shelf.meaning c.detach.new.shelf) c.detach.ensures.stands (flushed_Narrows c.args.core.now c.args.vol (g.S.Shelf.meaning c.args.shelf.now) (g.S.Shelf.meaning c.flush_all.new.shelf) (g.met.S.Shelf.lawful c.args.shelf.now) (g.met.S.Shelf.lawful c.flush_all.new.shelf) c.requires.stands c.flush_all.ensures.goes c.detach.new.core (g.S.Shelf.meaning c.detach.new.shelf) (g.met.S.Shelf.lawful c.detach.new.shelf) c.detach.ensures.narrows) (inr (c.in-Ok.failed.disk, (Rose_after ((g.S.Shelf.meaning c.args.shelf.now).disk_faults c.in-Ok.failed.disk) ((g.S.Shelf.meaning c.flush_all.new.shelf).disk_faults c.in-Ok.failed.disk) ((g.S.Shelf.meaning c.detach.new.shelf).disk_faults c.in-Ok.failed.disk) (c.in-Ok.ensures.ends.1.rose (omega (arith, c.if-failed-eq0.false))) (c.detach.ensures.narrows.acts.disk_faults c.in-Ok.failed.disk)))) (loses_detach (g.S.Shelf.meaning c.args.shelf.now) (g.S.Shelf.meaning c.flush_all.new.shelf) (g.S.Shelf.meaning c.detach.new.shelf) c.flush_all.ensures.goes.faults c.detach.ensures.narrows.acts.faults c.args.core.now.config c.detach.new.core.config c.args.vol c.in-Ok.failed.set (λ p bit. (c.in-Ok.ensures.ends.0.blamed p bit).1) c.detach.ensures.lies c.detach.ensures.others c.detach.ensures.failing c.detach.ensures.parts c.detach.ensures.narrows.shape c.detach.ensures.narrows.on) (flushed_all c.args.core.now c.args.vol (g.S.Shelf.meaning c.args.shelf.now) (g.S.Shelf.meaning c.flush_all.new.shelf) (g.met.S.Shelf.lawful c.args.shelf.now) (g.met.S.Shelf.lawful c.flush_all.new.shelf) c.requires.stands c.flush_all.ensures.goes c.detach.new.core (g.S.Shelf.meaning c.detach.new.shelf) (g.met.S.Shelf.lawful c.detach.new.shelf) c.detach.ensures.narrows (left_done c.args.core.now.config c.detach.new.core.config c.args.vol c.in-Ok.failed.set _ (g.S.Shelf.meaning c.args.shelf.now) (g.S.Shelf.meaning c.flush_all.new.shelf) (c.detach.ensures.narrows.on c.args.vol) c.in-Ok.ensures.ends.0 c.in-Ok-detach.ensures.off)) c.detach.ensures.parts c.in-Ok-detach.ensures.trust c.in-Ok-detach.ensures.settled c.in-Ok-detach.ensures.cause (omega (arith, c.if-core-ge-MOST_NUMBER.false))

pub returns-else-core-ge-MOST_NUMBER-clause-cause : goal.returns-else-core-ge-MOST_NUMBER-clause-cause
returns-else-core-ge-MOST_NUMBER-clause-cause g c = c.in-Ok-detach.ensures.cause

pub returns-in-Err-detach-clause-ends : goal.returns-in-Err-detach-clause-ends
returns-in-Err-detach-clause-ends g c = missed_back c.args.core.now c.detach.new.core c.args.vol (g.S.Shelf.meaning c.args.shelf.now) (g.S.Shelf.meaning c.detach.new.shelf) c.detach.ensures.stands (flushed_Narrows c.args.core.now c.args.vol (g.S.Shelf.meaning c.args.shelf.now) (g.S.Shelf.meaning c.flush_all.new.shelf) (g.met.S.Shelf.lawful c.args.shelf.now) (g.met.S.Shelf.lawful c.flush_all.new.shelf) c.requires.stands c.flush_all.ensures.goes c.detach.new.core (g.S.Shelf.meaning c.detach.new.shelf) (g.met.S.Shelf.lawful c.detach.new.shelf) c.detach.ensures.narrows) (inr (c.in-Ok.failed.disk, (Rose_after ((g.S.Shelf.meaning c.args.shelf.now).disk_faults c.in-Ok.failed.disk) ((g.S.Shelf.meaning c.flush_all.new.shelf).disk_faults c.in-Ok.failed.disk) ((g.S.Shelf.meaning c.detach.new.shelf).disk_faults c.in-Ok.failed.disk) (c.in-Ok.ensures.ends.1.rose (omega (arith, c.if-failed-eq0.false))) (c.detach.ensures.narrows.acts.disk_faults c.in-Ok.failed.disk)))) (loses_detach (g.S.Shelf.meaning c.args.shelf.now) (g.S.Shelf.meaning c.flush_all.new.shelf) (g.S.Shelf.meaning c.detach.new.shelf) c.flush_all.ensures.goes.faults c.detach.ensures.narrows.acts.faults c.args.core.now.config c.detach.new.core.config c.args.vol c.in-Ok.failed.set (λ p bit. (c.in-Ok.ensures.ends.0.blamed p bit).1) c.detach.ensures.lies c.detach.ensures.others c.detach.ensures.failing c.detach.ensures.parts c.detach.ensures.narrows.shape c.detach.ensures.narrows.on) c.in-Err-detach.error c.mark_failed.new.unsure c.mark_failed.ensures (c.in-Ok.failed.disk, (Rose_after ((g.S.Shelf.meaning c.args.shelf.now).disk_faults c.in-Ok.failed.disk) ((g.S.Shelf.meaning c.flush_all.new.shelf).disk_faults c.in-Ok.failed.disk) ((g.S.Shelf.meaning c.detach.new.shelf).disk_faults c.in-Ok.failed.disk) (c.in-Ok.ensures.ends.1.rose (omega (arith, c.if-failed-eq0.false))) (c.detach.ensures.narrows.acts.disk_faults c.in-Ok.failed.disk))) c.detach.ensures.parts

pub returns-in-Err-detach-clause-cause : goal.returns-in-Err-detach-clause-cause
returns-in-Err-detach-clause-cause g c = blames_by {T = Unit {0}} (Err c.in-Err-detach.error) c.in-Ok.failed.disk (g.S.Shelf.meaning c.args.shelf.now) (g.S.Shelf.meaning c.flush_all.new.shelf) (g.S.Shelf.meaning c.detach.new.shelf) (c.in-Ok.ensures.ends.1.rose (omega (arith, c.if-failed-eq0.false))) c.flush_all.ensures.goes.disk_faults c.detach.ensures.narrows.acts.disk_faults c.in-Err-detach.ensures.cause

pub returns-in-Err-clause-ends : goal.returns-in-Err-clause-ends
returns-in-Err-clause-ends g c = unsure_ends c.args.core.now c.args.vol (g.S.Shelf.meaning c.args.shelf.now) (g.S.Shelf.meaning c.flush_all.new.shelf) (flushed_Stands c.args.core.now c.args.vol (g.S.Shelf.meaning c.args.shelf.now) (g.S.Shelf.meaning c.flush_all.new.shelf) (g.met.S.Shelf.lawful c.args.shelf.now) (g.met.S.Shelf.lawful c.flush_all.new.shelf) c.requires.stands c.flush_all.ensures.goes) (flushed_Narrows c.args.core.now c.args.vol (g.S.Shelf.meaning c.args.shelf.now) (g.S.Shelf.meaning c.flush_all.new.shelf) (g.met.S.Shelf.lawful c.args.shelf.now) (g.met.S.Shelf.lawful c.flush_all.new.shelf) c.requires.stands c.flush_all.ensures.goes c.args.core.now (g.S.Shelf.meaning c.flush_all.new.shelf) (g.met.S.Shelf.lawful c.flush_all.new.shelf) (no_commit c.args.core.now (g.S.Shelf.meaning c.flush_all.new.shelf))) c.requires.settled c.requires.more c.fault_of.result c.leave_unsure.new.unsure c.leave_unsure.result c.leave_unsure.ensures.marks c.leave_unsure.ensures.goes_on (subst (λ (e : ShelfError). Blames {T = Unit {0}} (g.S.Shelf.meaning c.args.shelf.now) (g.S.Shelf.meaning c.flush_all.new.shelf) (Err e)) (sym c.fault_of.ensures) (ends_blame c.args.core.now.config c.args.vol (λ p. PlexFlushed c.args.core.now.config c.args.vol p (g.S.Shelf.meaning c.args.shelf.now) (g.S.Shelf.meaning c.flush_all.new.shelf)) (g.S.Shelf.meaning c.args.shelf.now) (g.S.Shelf.meaning c.flush_all.new.shelf) c.in-Err.no 0 c.in-Err.ensures.ends))

pub returns-in-Err-clause-cause : goal.returns-in-Err-clause-cause
returns-in-Err-clause-cause g c = unsure_blames (g.S.Shelf.meaning c.args.shelf.now) (g.S.Shelf.meaning c.flush_all.new.shelf) c.fault_of.result c.leave_unsure.result c.leave_unsure.ensures.goes_on (subst (λ (e : ShelfError). Blames {T = Unit {0}} (g.S.Shelf.meaning c.args.shelf.now) (g.S.Shelf.meaning c.flush_all.new.shelf) (Err e)) (sym c.fault_of.ensures) (ends_blame c.args.core.now.config c.args.vol (λ p. PlexFlushed c.args.core.now.config c.args.vol p (g.S.Shelf.meaning c.args.shelf.now) (g.S.Shelf.meaning c.flush_all.new.shelf)) (g.S.Shelf.meaning c.args.shelf.now) (g.S.Shelf.meaning c.flush_all.new.shelf) c.in-Err.no 0 c.in-Err.ensures.ends))

pub returns-then-failed-eq0-clause-finds : goal.returns-then-failed-eq0-clause-finds
returns-then-failed-eq0-clause-finds g c =
    stays_finds c.args.core.now c.args.core.now (g.S.Shelf.meaning c.args.shelf.now) (g.S.Shelf.meaning c.flush_all.new.shelf) refl refl refl
    (flushed_finds c.args.core.now c.args.vol (g.S.Shelf.meaning c.args.shelf.now) (g.S.Shelf.meaning c.flush_all.new.shelf) (g.met.S.Shelf.lawful c.args.shelf.now) (g.met.S.Shelf.lawful c.flush_all.new.shelf) c.requires.stands c.flush_all.ensures.goes)

pub returns-then-core-ge-MOST_NUMBER-clause-finds : goal.returns-then-core-ge-MOST_NUMBER-clause-finds
returns-then-core-ge-MOST_NUMBER-clause-finds g c =
    ends_finds c.args.core.now c.detach.new.core (g.S.Shelf.meaning c.args.shelf.now) (g.S.Shelf.meaning c.detach.new.shelf) (before_ends c.detach.new.core (g.S.Shelf.meaning c.args.shelf.now) (g.S.Shelf.meaning c.flush_all.new.shelf) (g.S.Shelf.meaning c.detach.new.shelf)
    (flushed_finds c.args.core.now c.args.vol (g.S.Shelf.meaning c.args.shelf.now) (g.S.Shelf.meaning c.flush_all.new.shelf) (g.met.S.Shelf.lawful c.args.shelf.now) (g.met.S.Shelf.lawful c.flush_all.new.shelf) c.requires.stands c.flush_all.ensures.goes) c.detach.ensures.finds)

pub returns-else-core-ge-MOST_NUMBER-clause-finds : goal.returns-else-core-ge-MOST_NUMBER-clause-finds
returns-else-core-ge-MOST_NUMBER-clause-finds g c =
    ends_finds c.args.core.now c.detach.new.core (g.S.Shelf.meaning c.args.shelf.now) (g.S.Shelf.meaning c.detach.new.shelf) (before_ends c.detach.new.core (g.S.Shelf.meaning c.args.shelf.now) (g.S.Shelf.meaning c.flush_all.new.shelf) (g.S.Shelf.meaning c.detach.new.shelf)
    (flushed_finds c.args.core.now c.args.vol (g.S.Shelf.meaning c.args.shelf.now) (g.S.Shelf.meaning c.flush_all.new.shelf) (g.met.S.Shelf.lawful c.args.shelf.now) (g.met.S.Shelf.lawful c.flush_all.new.shelf) c.requires.stands c.flush_all.ensures.goes) c.detach.ensures.finds)

pub returns-in-Err-detach-clause-finds : goal.returns-in-Err-detach-clause-finds
returns-in-Err-detach-clause-finds g c =
    as_finds c.args.core.now c.detach.new.core _ (g.S.Shelf.meaning c.args.shelf.now) (g.S.Shelf.meaning c.detach.new.shelf) refl refl refl
    (ends_finds c.args.core.now c.detach.new.core (g.S.Shelf.meaning c.args.shelf.now) (g.S.Shelf.meaning c.detach.new.shelf) (before_ends c.detach.new.core (g.S.Shelf.meaning c.args.shelf.now) (g.S.Shelf.meaning c.flush_all.new.shelf) (g.S.Shelf.meaning c.detach.new.shelf)
    (flushed_finds c.args.core.now c.args.vol (g.S.Shelf.meaning c.args.shelf.now) (g.S.Shelf.meaning c.flush_all.new.shelf) (g.met.S.Shelf.lawful c.args.shelf.now) (g.met.S.Shelf.lawful c.flush_all.new.shelf) c.requires.stands c.flush_all.ensures.goes) c.detach.ensures.finds))

pub returns-in-Err-clause-finds : goal.returns-in-Err-clause-finds
returns-in-Err-clause-finds g c =
    stays_finds c.args.core.now _ (g.S.Shelf.meaning c.args.shelf.now) (g.S.Shelf.meaning c.flush_all.new.shelf) refl refl refl
    (flushed_finds c.args.core.now c.args.vol (g.S.Shelf.meaning c.args.shelf.now) (g.S.Shelf.meaning c.flush_all.new.shelf) (g.met.S.Shelf.lawful c.args.shelf.now) (g.met.S.Shelf.lawful c.flush_all.new.shelf) c.requires.stands c.flush_all.ensures.goes)

pub returns-then-failed-eq0-clause-logs : goal.returns-then-failed-eq0-clause-logs
returns-then-failed-eq0-clause-logs g c = same_logs c.args.core.now.config

pub returns-then-core-ge-MOST_NUMBER-clause-logs : goal.returns-then-core-ge-MOST_NUMBER-clause-logs
returns-then-core-ge-MOST_NUMBER-clause-logs g c = c.detach.ensures.logs

pub returns-else-core-ge-MOST_NUMBER-clause-logs : goal.returns-else-core-ge-MOST_NUMBER-clause-logs
returns-else-core-ge-MOST_NUMBER-clause-logs g c = c.detach.ensures.logs

pub returns-in-Err-detach-clause-logs : goal.returns-in-Err-detach-clause-logs
returns-in-Err-detach-clause-logs g c = c.detach.ensures.logs

pub returns-in-Err-clause-logs : goal.returns-in-Err-clause-logs
returns-in-Err-clause-logs g c = same_logs c.args.core.now.config

pub returns-then-failed-eq0-clause-alikes : goal.returns-then-failed-eq0-clause-alikes
returns-then-failed-eq0-clause-alikes g c =
    idle_alike c.args.core.now (g.S.Shelf.meaning c.args.shelf.now) (g.S.Shelf.meaning c.flush_all.new.shelf) c.requires.stands c.flush_all.ensures.goes
    (flushed_finds c.args.core.now c.args.vol (g.S.Shelf.meaning c.args.shelf.now) (g.S.Shelf.meaning c.flush_all.new.shelf) (g.met.S.Shelf.lawful c.args.shelf.now) (g.met.S.Shelf.lawful c.flush_all.new.shelf) c.requires.stands c.flush_all.ensures.goes)

pub returns-then-core-ge-MOST_NUMBER-clause-alikes : goal.returns-then-core-ge-MOST_NUMBER-clause-alikes
returns-then-core-ge-MOST_NUMBER-clause-alikes g c =
    ends_alike c.detach.new.core (g.S.Shelf.meaning c.args.shelf.now) (g.S.Shelf.meaning c.detach.new.shelf)
    (alike_ends c.detach.new.core (g.S.Shelf.meaning c.args.shelf.now) (g.S.Shelf.meaning c.flush_all.new.shelf) (g.S.Shelf.meaning c.detach.new.shelf)
    (idle_alike c.args.core.now (g.S.Shelf.meaning c.args.shelf.now) (g.S.Shelf.meaning c.flush_all.new.shelf) c.requires.stands c.flush_all.ensures.goes
    (flushed_finds c.args.core.now c.args.vol (g.S.Shelf.meaning c.args.shelf.now) (g.S.Shelf.meaning c.flush_all.new.shelf) (g.met.S.Shelf.lawful c.args.shelf.now) (g.met.S.Shelf.lawful c.flush_all.new.shelf) c.requires.stands c.flush_all.ensures.goes))
    c.detach.ensures.settles)

pub returns-then-core-ge-MOST_NUMBER-clause-settles : goal.returns-then-core-ge-MOST_NUMBER-clause-settles
returns-then-core-ge-MOST_NUMBER-clause-settles g c =
    alike_ends c.detach.new.core (g.S.Shelf.meaning c.args.shelf.now) (g.S.Shelf.meaning c.flush_all.new.shelf) (g.S.Shelf.meaning c.detach.new.shelf)
    (idle_alike c.args.core.now (g.S.Shelf.meaning c.args.shelf.now) (g.S.Shelf.meaning c.flush_all.new.shelf) c.requires.stands c.flush_all.ensures.goes
    (flushed_finds c.args.core.now c.args.vol (g.S.Shelf.meaning c.args.shelf.now) (g.S.Shelf.meaning c.flush_all.new.shelf) (g.met.S.Shelf.lawful c.args.shelf.now) (g.met.S.Shelf.lawful c.flush_all.new.shelf) c.requires.stands c.flush_all.ensures.goes))
    c.detach.ensures.settles

pub returns-else-core-ge-MOST_NUMBER-clause-alikes : goal.returns-else-core-ge-MOST_NUMBER-clause-alikes
returns-else-core-ge-MOST_NUMBER-clause-alikes g c =
    ends_alike c.detach.new.core (g.S.Shelf.meaning c.args.shelf.now) (g.S.Shelf.meaning c.detach.new.shelf)
    (alike_ends c.detach.new.core (g.S.Shelf.meaning c.args.shelf.now) (g.S.Shelf.meaning c.flush_all.new.shelf) (g.S.Shelf.meaning c.detach.new.shelf)
    (idle_alike c.args.core.now (g.S.Shelf.meaning c.args.shelf.now) (g.S.Shelf.meaning c.flush_all.new.shelf) c.requires.stands c.flush_all.ensures.goes
    (flushed_finds c.args.core.now c.args.vol (g.S.Shelf.meaning c.args.shelf.now) (g.S.Shelf.meaning c.flush_all.new.shelf) (g.met.S.Shelf.lawful c.args.shelf.now) (g.met.S.Shelf.lawful c.flush_all.new.shelf) c.requires.stands c.flush_all.ensures.goes))
    c.detach.ensures.settles)

pub returns-in-Err-detach-clause-alikes : goal.returns-in-Err-detach-clause-alikes
returns-in-Err-detach-clause-alikes g c =
    ends_alike c.detach.new.core (g.S.Shelf.meaning c.args.shelf.now) (g.S.Shelf.meaning c.detach.new.shelf)
    (alike_ends c.detach.new.core (g.S.Shelf.meaning c.args.shelf.now) (g.S.Shelf.meaning c.flush_all.new.shelf) (g.S.Shelf.meaning c.detach.new.shelf)
    (idle_alike c.args.core.now (g.S.Shelf.meaning c.args.shelf.now) (g.S.Shelf.meaning c.flush_all.new.shelf) c.requires.stands c.flush_all.ensures.goes
    (flushed_finds c.args.core.now c.args.vol (g.S.Shelf.meaning c.args.shelf.now) (g.S.Shelf.meaning c.flush_all.new.shelf) (g.met.S.Shelf.lawful c.args.shelf.now) (g.met.S.Shelf.lawful c.flush_all.new.shelf) c.requires.stands c.flush_all.ensures.goes))
    c.detach.ensures.settles)

pub returns-in-Err-detach-clause-settles : goal.returns-in-Err-detach-clause-settles
returns-in-Err-detach-clause-settles g c =
    as_ends c.detach.new.core _ (g.S.Shelf.meaning c.args.shelf.now) (g.S.Shelf.meaning c.detach.new.shelf) refl
    (alike_ends c.detach.new.core (g.S.Shelf.meaning c.args.shelf.now) (g.S.Shelf.meaning c.flush_all.new.shelf) (g.S.Shelf.meaning c.detach.new.shelf)
    (idle_alike c.args.core.now (g.S.Shelf.meaning c.args.shelf.now) (g.S.Shelf.meaning c.flush_all.new.shelf) c.requires.stands c.flush_all.ensures.goes
    (flushed_finds c.args.core.now c.args.vol (g.S.Shelf.meaning c.args.shelf.now) (g.S.Shelf.meaning c.flush_all.new.shelf) (g.met.S.Shelf.lawful c.args.shelf.now) (g.met.S.Shelf.lawful c.flush_all.new.shelf) c.requires.stands c.flush_all.ensures.goes))
    c.detach.ensures.settles)

pub returns-in-Err-clause-alikes : goal.returns-in-Err-clause-alikes
returns-in-Err-clause-alikes g c =
    idle_alike c.args.core.now (g.S.Shelf.meaning c.args.shelf.now) (g.S.Shelf.meaning c.flush_all.new.shelf) c.requires.stands c.flush_all.ensures.goes
    (flushed_finds c.args.core.now c.args.vol (g.S.Shelf.meaning c.args.shelf.now) (g.S.Shelf.meaning c.flush_all.new.shelf) (g.met.S.Shelf.lawful c.args.shelf.now) (g.met.S.Shelf.lawful c.flush_all.new.shelf) c.requires.stands c.flush_all.ensures.goes)

pub returns-in-Err-clause-settles : goal.returns-in-Err-clause-settles
returns-in-Err-clause-settles g c =
    leaves_settled _ (g.S.Shelf.meaning c.args.shelf.now) (g.S.Shelf.meaning c.flush_all.new.shelf) c.fault_of.result c.leave_unsure.result c.leave_unsure.ensures.goes_on
    (subst (λ (e : ShelfError). Blames {T = Unit {0}} (g.S.Shelf.meaning c.args.shelf.now) (g.S.Shelf.meaning c.flush_all.new.shelf) (Err e)) (sym c.fault_of.ensures) (ends_blame c.args.core.now.config c.args.vol (λ p. PlexFlushed c.args.core.now.config c.args.vol p (g.S.Shelf.meaning c.args.shelf.now) (g.S.Shelf.meaning c.flush_all.new.shelf)) (g.S.Shelf.meaning c.args.shelf.now) (g.S.Shelf.meaning c.flush_all.new.shelf) c.in-Err.no 0 c.in-Err.ensures.ends))
    (idle_alike c.args.core.now (g.S.Shelf.meaning c.args.shelf.now) (g.S.Shelf.meaning c.flush_all.new.shelf) c.requires.stands c.flush_all.ensures.goes
    (flushed_finds c.args.core.now c.args.vol (g.S.Shelf.meaning c.args.shelf.now) (g.S.Shelf.meaning c.flush_all.new.shelf) (g.met.S.Shelf.lawful c.args.shelf.now) (g.met.S.Shelf.lawful c.flush_all.new.shelf) c.requires.stands c.flush_all.ensures.goes))

pub returns-then-core-ge-MOST_NUMBER-clause-agreed : goal.returns-then-core-ge-MOST_NUMBER-clause-agreed
returns-then-core-ge-MOST_NUMBER-clause-agreed g c = λ is. c.detach.ensures.stands.trusts.both (c.in-Ok-detach.ensures.trust is)

pub returns-in-Err-detach-clause-agreed : goal.returns-in-Err-detach-clause-agreed
returns-in-Err-detach-clause-agreed g c = c.in-Err-detach.ensures.agreed

pub returns-in-Err-clause-agreed : goal.returns-in-Err-clause-agreed
returns-in-Err-clause-agreed g c = err_all c.leave_unsure.result c.requires.stands.trusts.both
