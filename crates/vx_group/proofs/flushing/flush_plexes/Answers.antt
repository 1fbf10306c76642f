-- `flush_plexes`: clauses stands, goes, ok, all, cause, narrows, spent and 2 more; what `flush_all` and `detach` ask.
use Rattle.std.proofs.Common.{Err, arith, false, inr, refl, subst, sym, true, ◌∙◌, ◌≡◌}
use Rattle.vx_kept.specs.Commits.{Member}
use Rattle.vx_group.proofs.LoseLemmas.{loses_detach}
use Rattle.vx_group.proofs.CopyLemmas.{spent_by, spent_none}
use Rattle.vx_group.proofs.CallLemmas.{blames_by, ends_blame, left_done, ok_by}
use Rattle.vx_disk.specs.declared.shelf.ShelfError.{ShelfError}
use Rattle.vx_volume.specs.Volumes.{PlexFlushed}
use Rattle.vx_group.specs.Blames.{Blames}
use Rattle.vx_group.proofs.DetachLemmas.{zero_bit}
use Rattle.vx_group.specs.GivesUp.{GivesUp}
use Rattle.vx_group.proofs.GiveLemmas.{detach_gives, ends_gives}
use Rattle.vx_group.proofs.Standing.{fit_of, some_active, sound_of}
use Rattle.vx_group.proofs.WriteLemmas.{no_commit, flushed_Goes, flushed_Stands, flushed_Flushed, flushed_Narrows, flushed_all, flushed_finds}
use Rattle.vx_group.proofs.FindingLemmas.{stays_finds, before_ends, ends_finds}
use Rattle.vx_group.proofs.TrustStillLemmas.{same_logs}
use Rattle.vx_group.proofs.TrustLemmas.{ok_from}
use Rattle.vx_group.proofs.SettleCalls.{idle_told, wrote_told}
use Rattle.vx_group.proofs.flushing.flush_plexes.Goals as goal

pub flush_all-requires-clause-some : goal.flush_all-requires-clause-some
flush_all-requires-clause-some g c = some_active c.args.core.now (g.S.Shelf.meaning c.args.shelf.now) c.requires.stands c.args.vol c.requires.there

pub flush_all-requires-clause-disks : goal.flush_all-requires-clause-disks
flush_all-requires-clause-disks g c = fit_of c.args.core.now (g.S.Shelf.meaning c.args.shelf.now) c.requires.stands

pub returns-then-failed-eq0-clause-stands : goal.returns-then-failed-eq0-clause-stands
returns-then-failed-eq0-clause-stands g c = flushed_Stands c.args.core.now c.args.vol (g.S.Shelf.meaning c.args.shelf.now) (g.S.Shelf.meaning c.flush_all.new.shelf) (g.met.S.Shelf.lawful c.args.shelf.now) (g.met.S.Shelf.lawful c.flush_all.new.shelf) c.requires.stands c.flush_all.ensures.goes

pub returns-then-failed-eq0-clause-goes : goal.returns-then-failed-eq0-clause-goes
returns-then-failed-eq0-clause-goes g c = flushed_Goes c.args.core.now c.args.vol (g.S.Shelf.meaning c.args.shelf.now) (g.S.Shelf.meaning c.flush_all.new.shelf) (g.met.S.Shelf.lawful c.args.shelf.now) (g.met.S.Shelf.lawful c.flush_all.new.shelf) c.requires.stands c.flush_all.ensures.goes c.args.core.now (g.S.Shelf.meaning c.flush_all.new.shelf) (g.met.S.Shelf.lawful c.flush_all.new.shelf) (no_commit c.args.core.now (g.S.Shelf.meaning c.flush_all.new.shelf))

pub returns-then-failed-eq0-clause-ok : goal.returns-then-failed-eq0-clause-ok
returns-then-failed-eq0-clause-ok g c = flushed_Flushed c.args.core.now c.args.vol (g.S.Shelf.meaning c.args.shelf.now) (g.S.Shelf.meaning c.flush_all.new.shelf) (g.met.S.Shelf.lawful c.args.shelf.now) (g.met.S.Shelf.lawful c.flush_all.new.shelf) c.requires.stands c.flush_all.ensures.goes c.args.core.now (g.S.Shelf.meaning c.flush_all.new.shelf) (g.met.S.Shelf.lawful c.flush_all.new.shelf) (no_commit c.args.core.now (g.S.Shelf.meaning c.flush_all.new.shelf)) (λ p on. c.in-Ok.ensures.ends.0.is_done p on (zero_bit c.in-Ok.failed.set p (omega (arith, c.if-failed-eq0.true))))

pub returns-then-failed-eq0-clause-all : goal.returns-then-failed-eq0-clause-all
returns-then-failed-eq0-clause-all g c = flushed_all c.args.core.now c.args.vol (g.S.Shelf.meaning c.args.shelf.now) (g.S.Shelf.meaning c.flush_all.new.shelf) (g.met.S.Shelf.lawful c.args.shelf.now) (g.met.S.Shelf.lawful c.flush_all.new.shelf) c.requires.stands c.flush_all.ensures.goes c.args.core.now (g.S.Shelf.meaning c.flush_all.new.shelf) (g.met.S.Shelf.lawful c.flush_all.new.shelf) (no_commit c.args.core.now (g.S.Shelf.meaning c.flush_all.new.shelf)) (λ p on. c.in-Ok.ensures.ends.0.is_done p on (zero_bit c.in-Ok.failed.set p (omega (arith, c.if-failed-eq0.true))))

pub returns-then-core-clause-stands : goal.returns-then-core-clause-stands
returns-then-core-clause-stands g c = flushed_Stands c.args.core.now c.args.vol (g.S.Shelf.meaning c.args.shelf.now) (g.S.Shelf.meaning c.flush_all.new.shelf) (g.met.S.Shelf.lawful c.args.shelf.now) (g.met.S.Shelf.lawful c.flush_all.new.shelf) c.requires.stands c.flush_all.ensures.goes

pub returns-then-core-clause-goes : goal.returns-then-core-clause-goes
returns-then-core-clause-goes g c = flushed_Goes c.args.core.now c.args.vol (g.S.Shelf.meaning c.args.shelf.now) (g.S.Shelf.meaning c.flush_all.new.shelf) (g.met.S.Shelf.lawful c.args.shelf.now) (g.met.S.Shelf.lawful c.flush_all.new.shelf) c.requires.stands c.flush_all.ensures.goes c.args.core.now (g.S.Shelf.meaning c.flush_all.new.shelf) (g.met.S.Shelf.lawful c.flush_all.new.shelf) (no_commit c.args.core.now (g.S.Shelf.meaning c.flush_all.new.shelf))

pub returns-then-core-clause-cause : goal.returns-then-core-clause-cause
returns-then-core-clause-cause g c = ((c.in-Ok.ensures.ends.1.rose (omega (arith, c.if-failed-eq0.false))), c.in-Ok.ensures.ends.0.up)

pub detach-requires-clause-stands : goal.detach-requires-clause-stands
detach-requires-clause-stands g c = flushed_Stands c.args.core.now c.args.vol (g.S.Shelf.meaning c.args.shelf.now) (g.S.Shelf.meaning c.flush_all.new.shelf) (g.met.S.Shelf.lawful c.args.shelf.now) (g.met.S.Shelf.lawful c.flush_all.new.shelf) c.requires.stands c.flush_all.ensures.goes

pub returns-else-core-clause-goes : goal.returns-else-core-clause-goes
returns-else-core-clause-goes g c = flushed_Goes c.args.core.now c.args.vol (g.S.Shelf.meaning c.args.shelf.now) (g.S.Shelf.meaning c.flush_all.new.shelf) (g.met.S.Shelf.lawful c.args.shelf.now) (g.met.S.Shelf.lawful c.flush_all.new.shelf) c.requires.stands c.flush_all.ensures.goes c.detach.new.core (g.S.Shelf.meaning c.detach.new.shelf) (g.met.S.Shelf.lawful c.detach.new.shelf) c.detach.ensures.narrows

pub returns-else-core-clause-ok : goal.returns-else-core-clause-ok
returns-else-core-clause-ok g c = ok_by c.detach.result c.in-Ok.failed.disk (g.S.Shelf.meaning c.flush_all.new.shelf) (g.S.Shelf.meaning c.detach.new.shelf) c.detach.ensures.off c.detach.ensures.cause (λ off up. flushed_Flushed c.args.core.now c.args.vol (g.S.Shelf.meaning c.args.shelf.now) (g.S.Shelf.meaning c.flush_all.new.shelf) (g.met.S.Shelf.lawful c.args.shelf.now) (g.met.S.Shelf.lawful c.flush_all.new.shelf) c.requires.stands c.flush_all.ensures.goes c.detach.new.core (g.S.Shelf.meaning c.detach.new.shelf) (g.met.S.Shelf.lawful c.detach.new.shelf) c.detach.ensures.narrows (left_done c.args.core.now.config c.detach.new.core.config c.args.vol c.in-Ok.failed.set _ (g.S.Shelf.meaning c.args.shelf.now) (g.S.Shelf.meaning c.flush_all.new.shelf) (c.detach.ensures.narrows.on c.args.vol) c.in-Ok.ensures.ends.0 off))

pub returns-else-core-clause-all : goal.returns-else-core-clause-all
returns-else-core-clause-all g c = ok_by c.detach.result c.in-Ok.failed.disk (g.S.Shelf.meaning c.flush_all.new.shelf) (g.S.Shelf.meaning c.detach.new.shelf) c.detach.ensures.off c.detach.ensures.cause (λ off up. flushed_all c.args.core.now c.args.vol (g.S.Shelf.meaning c.args.shelf.now) (g.S.Shelf.meaning c.flush_all.new.shelf) (g.met.S.Shelf.lawful c.args.shelf.now) (g.met.S.Shelf.lawful c.flush_all.new.shelf) c.requires.stands c.flush_all.ensures.goes c.detach.new.core (g.S.Shelf.meaning c.detach.new.shelf) (g.met.S.Shelf.lawful c.detach.new.shelf) c.detach.ensures.narrows (left_done c.args.core.now.config c.detach.new.core.config c.args.vol c.in-Ok.failed.set _ (g.S.Shelf.meaning c.args.shelf.now) (g.S.Shelf.meaning c.flush_all.new.shelf) (c.detach.ensures.narrows.on c.args.vol) c.in-Ok.ensures.ends.0 off))

pub returns-else-core-clause-cause : goal.returns-else-core-clause-cause
returns-else-core-clause-cause g c = blames_by c.detach.result c.in-Ok.failed.disk (g.S.Shelf.meaning c.args.shelf.now) (g.S.Shelf.meaning c.flush_all.new.shelf) (g.S.Shelf.meaning c.detach.new.shelf) (c.in-Ok.ensures.ends.1.rose (omega (arith, c.if-failed-eq0.false))) c.flush_all.ensures.goes.disk_faults c.detach.ensures.narrows.acts.disk_faults c.detach.ensures.cause

pub returns-in-Err-clause-stands : goal.returns-in-Err-clause-stands
returns-in-Err-clause-stands g c = flushed_Stands c.args.core.now c.args.vol (g.S.Shelf.meaning c.args.shelf.now) (g.S.Shelf.meaning c.flush_all.new.shelf) (g.met.S.Shelf.lawful c.args.shelf.now) (g.met.S.Shelf.lawful c.flush_all.new.shelf) c.requires.stands c.flush_all.ensures.goes

pub returns-in-Err-clause-goes : goal.returns-in-Err-clause-goes
returns-in-Err-clause-goes g c = flushed_Goes c.args.core.now c.args.vol (g.S.Shelf.meaning c.args.shelf.now) (g.S.Shelf.meaning c.flush_all.new.shelf) (g.met.S.Shelf.lawful c.args.shelf.now) (g.met.S.Shelf.lawful c.flush_all.new.shelf) c.requires.stands c.flush_all.ensures.goes c.args.core.now (g.S.Shelf.meaning c.flush_all.new.shelf) (g.met.S.Shelf.lawful c.flush_all.new.shelf) (no_commit c.args.core.now (g.S.Shelf.meaning c.flush_all.new.shelf))

pub returns-in-Err-clause-cause : goal.returns-in-Err-clause-cause
returns-in-Err-clause-cause g c = subst (λ (e : ShelfError). Blames {T = Unit {0}} (g.S.Shelf.meaning c.args.shelf.now) (g.S.Shelf.meaning c.flush_all.new.shelf) (Err e)) (sym c.fault_of.ensures) (ends_blame c.args.core.now.config c.args.vol (λ p. PlexFlushed c.args.core.now.config c.args.vol p (g.S.Shelf.meaning c.args.shelf.now) (g.S.Shelf.meaning c.flush_all.new.shelf)) (g.S.Shelf.meaning c.args.shelf.now) (g.S.Shelf.meaning c.flush_all.new.shelf) c.in-Err.no 0 c.in-Err.ensures.ends)

pub returns-then-failed-eq0-clause-narrows : goal.returns-then-failed-eq0-clause-narrows
returns-then-failed-eq0-clause-narrows g c = flushed_Narrows c.args.core.now c.args.vol (g.S.Shelf.meaning c.args.shelf.now) (g.S.Shelf.meaning c.flush_all.new.shelf) (g.met.S.Shelf.lawful c.args.shelf.now) (g.met.S.Shelf.lawful c.flush_all.new.shelf) c.requires.stands c.flush_all.ensures.goes c.args.core.now (g.S.Shelf.meaning c.flush_all.new.shelf) (g.met.S.Shelf.lawful c.flush_all.new.shelf) (no_commit c.args.core.now (g.S.Shelf.meaning c.flush_all.new.shelf))

pub returns-then-core-clause-narrows : goal.returns-then-core-clause-narrows
returns-then-core-clause-narrows g c = flushed_Narrows c.args.core.now c.args.vol (g.S.Shelf.meaning c.args.shelf.now) (g.S.Shelf.meaning c.flush_all.new.shelf) (g.met.S.Shelf.lawful c.args.shelf.now) (g.met.S.Shelf.lawful c.flush_all.new.shelf) c.requires.stands c.flush_all.ensures.goes c.args.core.now (g.S.Shelf.meaning c.flush_all.new.shelf) (g.met.S.Shelf.lawful c.flush_all.new.shelf) (no_commit c.args.core.now (g.S.Shelf.meaning c.flush_all.new.shelf))

pub returns-else-core-clause-narrows : goal.returns-else-core-clause-narrows
returns-else-core-clause-narrows g c = flushed_Narrows c.args.core.now c.args.vol (g.S.Shelf.meaning c.args.shelf.now) (g.S.Shelf.meaning c.flush_all.new.shelf) (g.met.S.Shelf.lawful c.args.shelf.now) (g.met.S.Shelf.lawful c.flush_all.new.shelf) c.requires.stands c.flush_all.ensures.goes c.detach.new.core (g.S.Shelf.meaning c.detach.new.shelf) (g.met.S.Shelf.lawful c.detach.new.shelf) c.detach.ensures.narrows

pub returns-in-Err-clause-narrows : goal.returns-in-Err-clause-narrows
returns-in-Err-clause-narrows g c = flushed_Narrows c.args.core.now c.args.vol (g.S.Shelf.meaning c.args.shelf.now) (g.S.Shelf.meaning c.flush_all.new.shelf) (g.met.S.Shelf.lawful c.args.shelf.now) (g.met.S.Shelf.lawful c.flush_all.new.shelf) c.requires.stands c.flush_all.ensures.goes c.args.core.now (g.S.Shelf.meaning c.flush_all.new.shelf) (g.met.S.Shelf.lawful c.flush_all.new.shelf) (no_commit c.args.core.now (g.S.Shelf.meaning c.flush_all.new.shelf))

pub returns-then-failed-eq0-clause-spent : goal.returns-then-failed-eq0-clause-spent
returns-then-failed-eq0-clause-spent g c = spent_none c.args.core.now.config (g.S.Shelf.meaning c.args.shelf.now) (g.S.Shelf.meaning c.flush_all.new.shelf)

pub returns-then-core-clause-spent : goal.returns-then-core-clause-spent
returns-then-core-clause-spent g c = spent_none c.args.core.now.config (g.S.Shelf.meaning c.args.shelf.now) (g.S.Shelf.meaning c.flush_all.new.shelf)

pub returns-in-Err-clause-spent : goal.returns-in-Err-clause-spent
returns-in-Err-clause-spent g c = spent_none c.args.core.now.config (g.S.Shelf.meaning c.args.shelf.now) (g.S.Shelf.meaning c.flush_all.new.shelf)

pub returns-else-core-clause-spent : goal.returns-else-core-clause-spent
returns-else-core-clause-spent g c =
    let old = g.S.Shelf.meaning c.args.shelf.now in
    spent_by c.args.core.now.config c.detach.new.core.config old old (g.S.Shelf.meaning c.flush_all.new.shelf) (g.S.Shelf.meaning c.detach.new.shelf) c.in-Ok.failed.disk (λ u. omega arith) c.detach.ensures.narrows.acts.disk_faults
    (c.in-Ok.ensures.ends.1.rose (omega (arith, c.if-failed-eq0.false)))
    (loses_detach (g.S.Shelf.meaning c.args.shelf.now) (g.S.Shelf.meaning c.flush_all.new.shelf) (g.S.Shelf.meaning c.detach.new.shelf) c.flush_all.ensures.goes.faults c.detach.ensures.narrows.acts.faults c.args.core.now.config c.detach.new.core.config c.args.vol c.in-Ok.failed.set (λ p bit. (c.in-Ok.ensures.ends.0.blamed p bit).1) c.detach.ensures.lies c.detach.ensures.others c.detach.ensures.failing c.detach.ensures.parts c.detach.ensures.narrows.shape c.detach.ensures.narrows.on)

pub returns-then-failed-eq0-clause-others : goal.returns-then-failed-eq0-clause-others
returns-then-failed-eq0-clause-others g c = λ w p apart. refl

pub returns-then-core-clause-others : goal.returns-then-core-clause-others
returns-then-core-clause-others g c = λ w p apart. refl

pub returns-in-Err-clause-others : goal.returns-in-Err-clause-others
returns-in-Err-clause-others g c = λ w p apart. refl

pub returns-else-core-clause-others : goal.returns-else-core-clause-others
returns-else-core-clause-others g c = λ w p apart. c.detach.ensures.others w p (λ same bit. apart same)

pub returns-then-core-clause-gave_up : goal.returns-then-core-clause-gave_up
returns-then-core-clause-gave_up g c = (refl, inr c.if-core.true)

pub returns-else-core-clause-gave_up : goal.returns-else-core-clause-gave_up
returns-else-core-clause-gave_up g c = detach_gives c.args.vol c.args.core.now c.detach.new.core c.in-Ok.failed.disk (g.S.Shelf.meaning c.args.shelf.now) (g.S.Shelf.meaning c.flush_all.new.shelf) (g.S.Shelf.meaning c.detach.new.shelf) c.detach.result c.detach.ensures.keeps c.detach.ensures.cause c.detach.ensures.missed

pub returns-in-Err-clause-gave_up : goal.returns-in-Err-clause-gave_up
returns-in-Err-clause-gave_up g c = subst (λ (e : ShelfError). GivesUp {T = Unit {0}} c.args.vol c.args.core.now c.args.core.now (g.S.Shelf.meaning c.args.shelf.now) (g.S.Shelf.meaning c.flush_all.new.shelf) (Err e)) (sym c.fault_of.ensures) (ends_gives c.args.vol c.args.core.now (λ p. PlexFlushed c.args.core.now.config c.args.vol p (g.S.Shelf.meaning c.args.shelf.now) (g.S.Shelf.meaning c.flush_all.new.shelf)) (g.S.Shelf.meaning c.args.shelf.now) (g.S.Shelf.meaning c.flush_all.new.shelf) c.in-Err.no 0 c.in-Err.ensures.ends)

pub returns-then-failed-eq0-clause-finds : goal.returns-then-failed-eq0-clause-finds
returns-then-failed-eq0-clause-finds g c =
    stays_finds c.args.core.now c.args.core.now (g.S.Shelf.meaning c.args.shelf.now) (g.S.Shelf.meaning c.flush_all.new.shelf) refl refl refl
    (flushed_finds c.args.core.now c.args.vol (g.S.Shelf.meaning c.args.shelf.now) (g.S.Shelf.meaning c.flush_all.new.shelf) (g.met.S.Shelf.lawful c.args.shelf.now) (g.met.S.Shelf.lawful c.flush_all.new.shelf) c.requires.stands c.flush_all.ensures.goes)

pub returns-then-core-clause-finds : goal.returns-then-core-clause-finds
returns-then-core-clause-finds g c =
    stays_finds c.args.core.now c.args.core.now (g.S.Shelf.meaning c.args.shelf.now) (g.S.Shelf.meaning c.flush_all.new.shelf) refl refl refl
    (flushed_finds c.args.core.now c.args.vol (g.S.Shelf.meaning c.args.shelf.now) (g.S.Shelf.meaning c.flush_all.new.shelf) (g.met.S.Shelf.lawful c.args.shelf.now) (g.met.S.Shelf.lawful c.flush_all.new.shelf) c.requires.stands c.flush_all.ensures.goes)

pub returns-in-Err-clause-finds : goal.returns-in-Err-clause-finds
returns-in-Err-clause-finds g c =
    stays_finds c.args.core.now c.args.core.now (g.S.Shelf.meaning c.args.shelf.now) (g.S.Shelf.meaning c.flush_all.new.shelf) refl refl refl
    (flushed_finds c.args.core.now c.args.vol (g.S.Shelf.meaning c.args.shelf.now) (g.S.Shelf.meaning c.flush_all.new.shelf) (g.met.S.Shelf.lawful c.args.shelf.now) (g.met.S.Shelf.lawful c.flush_all.new.shelf) c.requires.stands c.flush_all.ensures.goes)

pub returns-else-core-clause-finds : goal.returns-else-core-clause-finds
returns-else-core-clause-finds g c =
    ends_finds c.args.core.now c.detach.new.core (g.S.Shelf.meaning c.args.shelf.now) (g.S.Shelf.meaning c.detach.new.shelf) (before_ends c.detach.new.core (g.S.Shelf.meaning c.args.shelf.now) (g.S.Shelf.meaning c.flush_all.new.shelf) (g.S.Shelf.meaning c.detach.new.shelf)
    (flushed_finds c.args.core.now c.args.vol (g.S.Shelf.meaning c.args.shelf.now) (g.S.Shelf.meaning c.flush_all.new.shelf) (g.met.S.Shelf.lawful c.args.shelf.now) (g.met.S.Shelf.lawful c.flush_all.new.shelf) c.requires.stands c.flush_all.ensures.goes) c.detach.ensures.finds)

pub returns-then-failed-eq0-clause-logs : goal.returns-then-failed-eq0-clause-logs
returns-then-failed-eq0-clause-logs g c = same_logs c.args.core.now.config

pub returns-then-core-clause-logs : goal.returns-then-core-clause-logs
returns-then-core-clause-logs g c = same_logs c.args.core.now.config

pub returns-in-Err-clause-logs : goal.returns-in-Err-clause-logs
returns-in-Err-clause-logs g c = same_logs c.args.core.now.config

pub returns-else-core-clause-logs : goal.returns-else-core-clause-logs
returns-else-core-clause-logs g c = c.detach.ensures.logs

pub returns-then-failed-eq0-clause-full : goal.returns-then-failed-eq0-clause-full
returns-then-failed-eq0-clause-full g c = λ full. refl

pub returns-then-core-clause-full : goal.returns-then-core-clause-full
returns-then-core-clause-full g c = λ full. tt

pub returns-in-Err-clause-full : goal.returns-in-Err-clause-full
returns-in-Err-clause-full g c = λ full. tt

pub returns-else-core-clause-full : goal.returns-else-core-clause-full
returns-else-core-clause-full g c = λ full. ok_from c.detach.result (λ less. absurd (omega (arith, full, less))) c.detach.ensures.room

pub returns-then-failed-eq0-clause-settles : goal.returns-then-failed-eq0-clause-settles
returns-then-failed-eq0-clause-settles g c =
    idle_told c.args.core.now c.args.core.now (Member c.args.core.now.good (g.S.Shelf.meaning c.args.shelf.now)) (g.S.Shelf.meaning c.args.shelf.now) (g.S.Shelf.meaning c.flush_all.new.shelf) refl refl c.requires.stands.kept c.flush_all.ensures.goes
    (flushed_finds c.args.core.now c.args.vol (g.S.Shelf.meaning c.args.shelf.now) (g.S.Shelf.meaning c.flush_all.new.shelf) (g.met.S.Shelf.lawful c.args.shelf.now) (g.met.S.Shelf.lawful c.flush_all.new.shelf) c.requires.stands c.flush_all.ensures.goes)

pub returns-then-core-clause-settles : goal.returns-then-core-clause-settles
returns-then-core-clause-settles g c =
    idle_told c.args.core.now c.args.core.now (Member c.args.core.now.good (g.S.Shelf.meaning c.args.shelf.now)) (g.S.Shelf.meaning c.args.shelf.now) (g.S.Shelf.meaning c.flush_all.new.shelf) refl refl c.requires.stands.kept c.flush_all.ensures.goes
    (flushed_finds c.args.core.now c.args.vol (g.S.Shelf.meaning c.args.shelf.now) (g.S.Shelf.meaning c.flush_all.new.shelf) (g.met.S.Shelf.lawful c.args.shelf.now) (g.met.S.Shelf.lawful c.flush_all.new.shelf) c.requires.stands c.flush_all.ensures.goes)

pub returns-in-Err-clause-settles : goal.returns-in-Err-clause-settles
returns-in-Err-clause-settles g c =
    idle_told c.args.core.now c.args.core.now (Member c.args.core.now.good (g.S.Shelf.meaning c.args.shelf.now)) (g.S.Shelf.meaning c.args.shelf.now) (g.S.Shelf.meaning c.flush_all.new.shelf) refl refl c.requires.stands.kept c.flush_all.ensures.goes
    (flushed_finds c.args.core.now c.args.vol (g.S.Shelf.meaning c.args.shelf.now) (g.S.Shelf.meaning c.flush_all.new.shelf) (g.met.S.Shelf.lawful c.args.shelf.now) (g.met.S.Shelf.lawful c.flush_all.new.shelf) c.requires.stands c.flush_all.ensures.goes)

pub returns-else-core-clause-settles : goal.returns-else-core-clause-settles
returns-else-core-clause-settles g c =
    wrote_told c.args.core.now c.detach.new.core (g.S.Shelf.meaning c.args.shelf.now) (g.S.Shelf.meaning c.flush_all.new.shelf) (g.S.Shelf.meaning c.detach.new.shelf) c.requires.up c.if-core.false
    (flushed_finds c.args.core.now c.args.vol (g.S.Shelf.meaning c.args.shelf.now) (g.S.Shelf.meaning c.flush_all.new.shelf) (g.met.S.Shelf.lawful c.args.shelf.now) (g.met.S.Shelf.lawful c.flush_all.new.shelf) c.requires.stands c.flush_all.ensures.goes) c.detach.ensures.settles

pub returns-then-failed-eq0-clause-ready : goal.returns-then-failed-eq0-clause-ready
returns-then-failed-eq0-clause-ready g c = λ was. was

pub returns-then-core-clause-ready : goal.returns-then-core-clause-ready
returns-then-core-clause-ready g c = λ was. tt

pub returns-in-Err-clause-ready : goal.returns-in-Err-clause-ready
returns-in-Err-clause-ready g c = λ was. tt

pub returns-else-core-clause-ready : goal.returns-else-core-clause-ready
returns-else-core-clause-ready g c = λ was. ok_from c.detach.result (λ off on. absurd (let clash : true ≡ false = sym on ∙ off in cc)) c.detach.ensures.settled

pub flush_all-requires-clause-checked : goal.flush_all-requires-clause-checked
flush_all-requires-clause-checked g c = sound_of c.args.core.now (g.S.Shelf.meaning c.args.shelf.now) c.requires.stands

pub flush_all-requires-clause-up : goal.flush_all-requires-clause-up
flush_all-requires-clause-up g c = c.requires.up

pub detach-requires-clause-settled : goal.detach-requires-clause-settled
detach-requires-clause-settled g c = c.if-core.false

pub detach-requires-clause-left : goal.detach-requires-clause-left
detach-requires-clause-left g c = λ lt. let some = c.in-Ok.ensures.ends.0.some in record { plex = some.0; is_on = some.1; out = some.2 }

pub detach-requires-clause-those : goal.detach-requires-clause-those
detach-requires-clause-those g c = record { each = λ p bit. (c.in-Ok.ensures.ends.0.blamed p bit).0 }

pub returns-then-failed-eq0-clause-settled : goal.returns-then-failed-eq0-clause-settled
returns-then-failed-eq0-clause-settled g c = λ off. off

pub returns-then-failed-eq0-clause-faults : goal.returns-then-failed-eq0-clause-faults
returns-then-failed-eq0-clause-faults g c = refl

pub returns-then-failed-eq0-clause-unsure : goal.returns-then-failed-eq0-clause-unsure
returns-then-failed-eq0-clause-unsure g c = refl

pub returns-then-failed-eq0-clause-trust : goal.returns-then-failed-eq0-clause-trust
returns-then-failed-eq0-clause-trust g c = λ is. is

pub returns-then-failed-eq0-clause-cause : goal.returns-then-failed-eq0-clause-cause
returns-then-failed-eq0-clause-cause g c = c.in-Ok.ensures.ends.0.up

pub returns-then-core-clause-settled : goal.returns-then-core-clause-settled
returns-then-core-clause-settled g c = λ off. tt

pub returns-then-core-clause-faults : goal.returns-then-core-clause-faults
returns-then-core-clause-faults g c = refl

pub returns-then-core-clause-unsure : goal.returns-then-core-clause-unsure
returns-then-core-clause-unsure g c = refl

pub returns-then-core-clause-agreed : goal.returns-then-core-clause-agreed
returns-then-core-clause-agreed g c = c.requires.stands.trusts.both

pub returns-else-core-clause-stands : goal.returns-else-core-clause-stands
returns-else-core-clause-stands g c = c.detach.ensures.stands

pub returns-else-core-clause-settled : goal.returns-else-core-clause-settled
returns-else-core-clause-settled g c = λ off. c.detach.ensures.settled

pub returns-else-core-clause-faults : goal.returns-else-core-clause-faults
returns-else-core-clause-faults g c = c.detach.ensures.narrows.faults

pub returns-else-core-clause-unsure : goal.returns-else-core-clause-unsure
returns-else-core-clause-unsure g c = c.detach.ensures.narrows.unsure

pub returns-else-core-clause-trust : goal.returns-else-core-clause-trust
returns-else-core-clause-trust g c = c.detach.ensures.trust

pub returns-else-core-clause-agreed : goal.returns-else-core-clause-agreed
returns-else-core-clause-agreed g c = c.detach.ensures.agreed

pub returns-in-Err-clause-settled : goal.returns-in-Err-clause-settled
returns-in-Err-clause-settled g c = λ off. tt

pub returns-in-Err-clause-faults : goal.returns-in-Err-clause-faults
returns-in-Err-clause-faults g c = refl

pub returns-in-Err-clause-unsure : goal.returns-in-Err-clause-unsure
returns-in-Err-clause-unsure g c = refl

pub returns-in-Err-clause-agreed : goal.returns-in-Err-clause-agreed
returns-in-Err-clause-agreed g c = c.requires.stands.trusts.both
