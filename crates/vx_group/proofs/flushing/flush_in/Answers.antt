-- `flush_in`: clauses goes, cause, ok, marks, gave_up, loses, trust and 3 more.
use Rattle.std.proofs.Common.{refl, ◌∙◌, ℕ, Bool, List, ap, subst, Err, arith, sym}
use Rattle.vx_disk.specs.Shelf.{Nothing}
use Rattle.vx_disk.proofs.Runs.{nothing_then, same_Goes}
use Rattle.vx_group.specs.Blames.{CountsRise, MarksUnsure}
use Rattle.vx_group.specs.Stands.{volume_faults, inner_meaning}
use Rattle.vx_group.proofs.LoseLemmas.{loses_none, loses_same, then_loses}
use Rattle.vx_group.proofs.GiveLemmas.{later_gives, ready_gives, same_gives}
use Rattle.vx_group.proofs.CallLemmas.{blames_later, cause_by, counts_less, narrows_Goes, not_down, nothing_Flushed, raised_Goes}
use Rattle.vx_kept.proofs.PlexActing.{none_PlexActs}
use Rattle.vx_group.proofs.ActsLemmas.{narrow_PlexActs, then_PlexActs}
use Rattle.vx_group.proofs.FindingLemmas.{as_finds, none_finds, then_finds}
use Rattle.vx_group.proofs.TrustStillLemmas.{same_logs, then_logs, volumes_logs}
use Rattle.vx_group.proofs.SettleCalls.{as_told, same_told, then_told}
use Rattle.vx_group.proofs.flushing.flush_in.Goals as goal

pub returns-in-Err-clause-goes : goal.returns-in-Err-clause-goes
returns-in-Err-clause-goes g c = narrows_Goes c.args.core.now c.make_ready.new.core (g.S.Shelf.meaning c.args.shelf.now) (g.S.Shelf.meaning c.make_ready.new.shelf) (g.met.S.Shelf.lawful c.make_ready.new.shelf) c.requires.stands c.make_ready.ensures.narrows (volume_faults c.args.core.now.faults) (volume_faults c.give_up.new.faults) (λ u. let same = ap (λ (f : List ℕ). volume_faults f u) c.make_ready.ensures.narrows.faults in let less = counts_less c.in-Err.error c.args.vol (volume_faults c.make_ready.new.core.faults) (volume_faults c.give_up.new.faults) c.give_up.ensures.counts u in omega (arith, same, less))

pub returns-in-Err-clause-cause : goal.returns-in-Err-clause-cause
returns-in-Err-clause-cause g c = cause_by (Unit {0}) c.in-Err.error c.args.core.now.config c.make_ready.new.core.config c.args.vol (volume_faults c.args.core.now.faults) (volume_faults c.give_up.new.faults) (g.S.Shelf.meaning c.args.shelf.now) (g.S.Shelf.meaning c.make_ready.new.shelf) (not_down c.is_down.result (g.S.Shelf.meaning c.args.shelf.now).down c.is_down.ensures c.if-is_down.false) c.in-Err.ensures.cause (subst (λ (f : List ℕ). CountsRise c.in-Err.error c.args.vol (volume_faults f) (volume_faults c.give_up.new.faults)) c.make_ready.ensures.narrows.faults c.give_up.ensures.counts)

pub returns-in-Ok-flush_plexes-clause-goes : goal.returns-in-Ok-flush_plexes-clause-goes
returns-in-Ok-flush_plexes-clause-goes g c = nothing_then Nothing (inner_meaning c.args.core.now (g.S.Shelf.meaning c.args.shelf.now)) (inner_meaning c.make_ready.new.core (g.S.Shelf.meaning c.make_ready.new.shelf)) (inner_meaning c.flush_plexes.new.core (g.S.Shelf.meaning c.flush_plexes.new.shelf)) (narrows_Goes c.args.core.now c.make_ready.new.core (g.S.Shelf.meaning c.args.shelf.now) (g.S.Shelf.meaning c.make_ready.new.shelf) (g.met.S.Shelf.lawful c.make_ready.new.shelf) c.requires.stands c.make_ready.ensures.narrows (volume_faults c.args.core.now.faults) (volume_faults c.make_ready.new.core.faults) (λ u. let same = ap (λ (f : List ℕ). volume_faults f u) c.make_ready.ensures.narrows.faults in omega (arith, same))) c.flush_plexes.ensures.goes

pub returns-in-Ok-flush_plexes-clause-ok : goal.returns-in-Ok-flush_plexes-clause-ok
returns-in-Ok-flush_plexes-clause-ok g c = nothing_Flushed c.args.vol (inner_meaning c.args.core.now (g.S.Shelf.meaning c.args.shelf.now)) (inner_meaning c.make_ready.new.core (g.S.Shelf.meaning c.make_ready.new.shelf)) (inner_meaning c.flush_plexes.new.core (g.S.Shelf.meaning c.flush_plexes.new.shelf)) (narrows_Goes c.args.core.now c.make_ready.new.core (g.S.Shelf.meaning c.args.shelf.now) (g.S.Shelf.meaning c.make_ready.new.shelf) (g.met.S.Shelf.lawful c.make_ready.new.shelf) c.requires.stands c.make_ready.ensures.narrows (volume_faults c.args.core.now.faults) (volume_faults c.make_ready.new.core.faults) (λ u. let same = ap (λ (f : List ℕ). volume_faults f u) c.make_ready.ensures.narrows.faults in omega (arith, same))) c.in-Ok.ensures.cause c.in-Ok-flush_plexes.ensures.ok

pub returns-in-Err-flush_plexes-clause-goes : goal.returns-in-Err-flush_plexes-clause-goes
returns-in-Err-flush_plexes-clause-goes g c = raised_Goes Nothing (inner_meaning c.args.core.now (g.S.Shelf.meaning c.args.shelf.now)) c.flush_plexes.new.core.config (volume_faults c.flush_plexes.new.core.faults) (volume_faults c.give_up-in-Err-flush_plexes.new.faults) (g.S.Shelf.meaning c.flush_plexes.new.shelf) (counts_less c.in-Err-flush_plexes.error c.args.vol (volume_faults c.flush_plexes.new.core.faults) (volume_faults c.give_up-in-Err-flush_plexes.new.faults) c.give_up-in-Err-flush_plexes.ensures.counts) (nothing_then Nothing (inner_meaning c.args.core.now (g.S.Shelf.meaning c.args.shelf.now)) (inner_meaning c.make_ready.new.core (g.S.Shelf.meaning c.make_ready.new.shelf)) (inner_meaning c.flush_plexes.new.core (g.S.Shelf.meaning c.flush_plexes.new.shelf)) (narrows_Goes c.args.core.now c.make_ready.new.core (g.S.Shelf.meaning c.args.shelf.now) (g.S.Shelf.meaning c.make_ready.new.shelf) (g.met.S.Shelf.lawful c.make_ready.new.shelf) c.requires.stands c.make_ready.ensures.narrows (volume_faults c.args.core.now.faults) (volume_faults c.make_ready.new.core.faults) (λ u. let same = ap (λ (f : List ℕ). volume_faults f u) c.make_ready.ensures.narrows.faults in omega (arith, same))) c.flush_plexes.ensures.goes)

pub returns-in-Err-flush_plexes-clause-cause : goal.returns-in-Err-flush_plexes-clause-cause
returns-in-Err-flush_plexes-clause-cause g c = cause_by (Unit {0}) c.in-Err-flush_plexes.error c.args.core.now.config c.flush_plexes.new.core.config c.args.vol (volume_faults c.args.core.now.faults) (volume_faults c.give_up-in-Err-flush_plexes.new.faults) (g.S.Shelf.meaning c.args.shelf.now) (g.S.Shelf.meaning c.flush_plexes.new.shelf) (not_down c.is_down.result (g.S.Shelf.meaning c.args.shelf.now).down c.is_down.ensures c.if-is_down.false) (blames_later {T = Unit {0}} (Err c.in-Err-flush_plexes.error) (g.S.Shelf.meaning c.args.shelf.now) (g.S.Shelf.meaning c.make_ready.new.shelf) (g.S.Shelf.meaning c.flush_plexes.new.shelf) c.make_ready.ensures.narrows.acts.disk_faults c.in-Err-flush_plexes.ensures.cause) (subst (λ (f : List ℕ). CountsRise c.in-Err-flush_plexes.error c.args.vol (volume_faults f) (volume_faults c.give_up-in-Err-flush_plexes.new.faults)) (c.flush_plexes.ensures.faults ∙ c.make_ready.ensures.narrows.faults) c.give_up-in-Err-flush_plexes.ensures.counts)

pub returns-in-Err-clause-marks : goal.returns-in-Err-clause-marks
returns-in-Err-clause-marks g c = subst (λ (l : List Bool). MarksUnsure c.in-Err.error c.args.vol l c.give_up.new.unsure) c.make_ready.ensures.narrows.unsure c.give_up.ensures.marks

pub returns-in-Err-flush_plexes-clause-marks : goal.returns-in-Err-flush_plexes-clause-marks
returns-in-Err-flush_plexes-clause-marks g c = subst (λ (l : List Bool). MarksUnsure c.in-Err-flush_plexes.error c.args.vol l c.give_up-in-Err-flush_plexes.new.unsure) (c.flush_plexes.ensures.unsure ∙ c.make_ready.ensures.narrows.unsure) c.give_up-in-Err-flush_plexes.ensures.marks

pub returns-in-Err-clause-gave_up : goal.returns-in-Err-clause-gave_up
returns-in-Err-clause-gave_up g c =
    same_gives c.args.vol c.args.core.now c.make_ready.new.core (record { config = c.make_ready.new.core.config; good = c.make_ready.new.core.good; room = c.make_ready.new.core.room; unsettled = c.make_ready.new.core.unsettled; committed = c.make_ready.new.core.committed; agreed = c.make_ready.new.core.agreed; next = c.make_ready.new.core.next; faults = c.give_up.new.faults; unsure = c.give_up.new.unsure }) c.in-Err.error (g.S.Shelf.meaning c.args.shelf.now) (g.S.Shelf.meaning c.make_ready.new.shelf) refl refl
    (ready_gives c.args.vol c.args.core.now c.make_ready.new.core c.in-Err.error (g.S.Shelf.meaning c.args.shelf.now) (g.S.Shelf.meaning c.make_ready.new.shelf) c.make_ready.ensures.volumes c.in-Err.ensures.cause c.in-Err.ensures.missed)

pub returns-in-Err-flush_plexes-clause-gave_up : goal.returns-in-Err-flush_plexes-clause-gave_up
returns-in-Err-flush_plexes-clause-gave_up g c =
    same_gives c.args.vol c.args.core.now c.flush_plexes.new.core (record { config = c.flush_plexes.new.core.config; good = c.flush_plexes.new.core.good; room = c.flush_plexes.new.core.room; unsettled = c.flush_plexes.new.core.unsettled; committed = c.flush_plexes.new.core.committed; agreed = c.flush_plexes.new.core.agreed; next = c.flush_plexes.new.core.next; faults = c.give_up-in-Err-flush_plexes.new.faults; unsure = c.give_up-in-Err-flush_plexes.new.unsure }) c.in-Err-flush_plexes.error (g.S.Shelf.meaning c.args.shelf.now) (g.S.Shelf.meaning c.flush_plexes.new.shelf) refl refl
    (later_gives c.args.vol c.args.core.now c.make_ready.new.core c.flush_plexes.new.core c.in-Err-flush_plexes.error (g.S.Shelf.meaning c.args.shelf.now) (g.S.Shelf.meaning c.make_ready.new.shelf) (g.S.Shelf.meaning c.flush_plexes.new.shelf) c.make_ready.ensures.volumes c.make_ready.ensures.narrows.acts.faults c.in-Err-flush_plexes.ensures.gave_up)

pub returns-then-is_down-clause-loses : goal.returns-then-is_down-clause-loses
returns-then-is_down-clause-loses g c =
    loses_same c.args.core.now.config (g.S.Shelf.meaning c.args.shelf.now) (g.S.Shelf.meaning c.args.shelf.now)

pub returns-in-Err-clause-loses : goal.returns-in-Err-clause-loses
returns-in-Err-clause-loses g c =
    loses_none c.args.core.now.config c.make_ready.new.core.config (g.S.Shelf.meaning c.args.shelf.now) (g.S.Shelf.meaning c.make_ready.new.shelf) c.make_ready.ensures.volumes c.make_ready.ensures.failing c.make_ready.ensures.parts

pub returns-in-Ok-flush_plexes-clause-loses : goal.returns-in-Ok-flush_plexes-clause-loses
returns-in-Ok-flush_plexes-clause-loses g c =
    then_loses (g.S.Shelf.meaning c.args.shelf.now) (g.S.Shelf.meaning c.make_ready.new.shelf) (g.S.Shelf.meaning c.flush_plexes.new.shelf) c.make_ready.ensures.narrows.acts.faults c.flush_plexes.ensures.narrows.acts.faults c.args.core.now.config c.make_ready.new.core.config c.flush_plexes.new.core.config (loses_none c.args.core.now.config c.make_ready.new.core.config (g.S.Shelf.meaning c.args.shelf.now) (g.S.Shelf.meaning c.make_ready.new.shelf) c.make_ready.ensures.volumes c.make_ready.ensures.failing c.make_ready.ensures.parts) c.flush_plexes.ensures.spent.loses

pub returns-in-Err-flush_plexes-clause-loses : goal.returns-in-Err-flush_plexes-clause-loses
returns-in-Err-flush_plexes-clause-loses g c =
    then_loses (g.S.Shelf.meaning c.args.shelf.now) (g.S.Shelf.meaning c.make_ready.new.shelf) (g.S.Shelf.meaning c.flush_plexes.new.shelf) c.make_ready.ensures.narrows.acts.faults c.flush_plexes.ensures.narrows.acts.faults c.args.core.now.config c.make_ready.new.core.config c.flush_plexes.new.core.config (loses_none c.args.core.now.config c.make_ready.new.core.config (g.S.Shelf.meaning c.args.shelf.now) (g.S.Shelf.meaning c.make_ready.new.shelf) c.make_ready.ensures.volumes c.make_ready.ensures.failing c.make_ready.ensures.parts) c.flush_plexes.ensures.spent.loses

pub returns-in-Ok-flush_plexes-clause-trust : goal.returns-in-Ok-flush_plexes-clause-trust
returns-in-Ok-flush_plexes-clause-trust g c = λ is. c.in-Ok-flush_plexes.ensures.trust (c.in-Ok.ensures.trust is)

pub returns-in-Err-flush_plexes-clause-agreed : goal.returns-in-Err-flush_plexes-clause-agreed
returns-in-Err-flush_plexes-clause-agreed g c = λ is. c.in-Err-flush_plexes.ensures.agreed (c.in-Ok.ensures.trust is)

pub returns-then-is_down-clause-agreed : goal.returns-then-is_down-clause-agreed
returns-then-is_down-clause-agreed g c = c.requires.stands.trusts.both

pub returns-in-Err-clause-unit_faults : goal.returns-in-Err-clause-unit_faults
returns-in-Err-clause-unit_faults g c = c.make_ready.ensures.narrows.acts.faults

pub returns-in-Ok-flush_plexes-clause-unit_faults : goal.returns-in-Ok-flush_plexes-clause-unit_faults
returns-in-Ok-flush_plexes-clause-unit_faults g c = λ u. let one = c.make_ready.ensures.narrows.acts.faults u in let two = c.flush_plexes.ensures.narrows.acts.faults u in omega (arith, one, two)

pub returns-in-Err-flush_plexes-clause-unit_faults : goal.returns-in-Err-flush_plexes-clause-unit_faults
returns-in-Err-flush_plexes-clause-unit_faults g c = λ u. let one = c.make_ready.ensures.narrows.acts.faults u in let two = c.flush_plexes.ensures.narrows.acts.faults u in omega (arith, one, two)

pub returns-then-is_down-clause-acts : goal.returns-then-is_down-clause-acts
returns-then-is_down-clause-acts g c =
    none_PlexActs Nothing c.args.core.now.config (g.S.Shelf.meaning c.args.shelf.now)

pub returns-in-Err-clause-acts : goal.returns-in-Err-clause-acts
returns-in-Err-clause-acts g c =
    narrow_PlexActs Nothing c.args.core.now c.make_ready.new.core (g.S.Shelf.meaning c.args.shelf.now) (g.S.Shelf.meaning c.make_ready.new.shelf) c.make_ready.ensures.narrows

pub returns-in-Ok-flush_plexes-clause-acts : goal.returns-in-Ok-flush_plexes-clause-acts
returns-in-Ok-flush_plexes-clause-acts g c =
    then_PlexActs Nothing c.args.core.now c.make_ready.new.core c.flush_plexes.new.core (g.S.Shelf.meaning c.args.shelf.now) (g.S.Shelf.meaning c.make_ready.new.shelf) (g.S.Shelf.meaning c.flush_plexes.new.shelf)
    (narrow_PlexActs Nothing c.args.core.now c.make_ready.new.core (g.S.Shelf.meaning c.args.shelf.now) (g.S.Shelf.meaning c.make_ready.new.shelf) c.make_ready.ensures.narrows) c.flush_plexes.ensures.narrows

pub returns-in-Err-flush_plexes-clause-acts : goal.returns-in-Err-flush_plexes-clause-acts
returns-in-Err-flush_plexes-clause-acts g c =
    then_PlexActs Nothing c.args.core.now c.make_ready.new.core c.flush_plexes.new.core (g.S.Shelf.meaning c.args.shelf.now) (g.S.Shelf.meaning c.make_ready.new.shelf) (g.S.Shelf.meaning c.flush_plexes.new.shelf)
    (narrow_PlexActs Nothing c.args.core.now c.make_ready.new.core (g.S.Shelf.meaning c.args.shelf.now) (g.S.Shelf.meaning c.make_ready.new.shelf) c.make_ready.ensures.narrows) c.flush_plexes.ensures.narrows

pub returns-then-is_down-clause-finds : goal.returns-then-is_down-clause-finds
returns-then-is_down-clause-finds g c =
    none_finds c.args.core.now (g.S.Shelf.meaning c.args.shelf.now)

pub returns-in-Err-clause-finds : goal.returns-in-Err-clause-finds
returns-in-Err-clause-finds g c =
    as_finds c.args.core.now c.make_ready.new.core _ (g.S.Shelf.meaning c.args.shelf.now) (g.S.Shelf.meaning c.make_ready.new.shelf) refl refl refl c.make_ready.ensures.finds

pub returns-in-Ok-flush_plexes-clause-finds : goal.returns-in-Ok-flush_plexes-clause-finds
returns-in-Ok-flush_plexes-clause-finds g c =
    then_finds c.args.core.now c.make_ready.new.core c.flush_plexes.new.core (g.S.Shelf.meaning c.args.shelf.now) (g.S.Shelf.meaning c.make_ready.new.shelf) (g.S.Shelf.meaning c.flush_plexes.new.shelf) c.make_ready.ensures.finds c.flush_plexes.ensures.finds

pub returns-in-Err-flush_plexes-clause-finds : goal.returns-in-Err-flush_plexes-clause-finds
returns-in-Err-flush_plexes-clause-finds g c =
    as_finds c.args.core.now c.flush_plexes.new.core _ (g.S.Shelf.meaning c.args.shelf.now) (g.S.Shelf.meaning c.flush_plexes.new.shelf) refl refl refl
    (then_finds c.args.core.now c.make_ready.new.core c.flush_plexes.new.core (g.S.Shelf.meaning c.args.shelf.now) (g.S.Shelf.meaning c.make_ready.new.shelf) (g.S.Shelf.meaning c.flush_plexes.new.shelf) c.make_ready.ensures.finds c.flush_plexes.ensures.finds)

pub returns-then-is_down-clause-logs : goal.returns-then-is_down-clause-logs
returns-then-is_down-clause-logs g c = same_logs c.args.core.now.config

pub returns-in-Err-clause-logs : goal.returns-in-Err-clause-logs
returns-in-Err-clause-logs g c = volumes_logs c.args.core.now.config c.make_ready.new.core.config c.make_ready.ensures.volumes

pub returns-in-Ok-flush_plexes-clause-logs : goal.returns-in-Ok-flush_plexes-clause-logs
returns-in-Ok-flush_plexes-clause-logs g c =
    then_logs c.args.core.now.config c.make_ready.new.core.config c.flush_plexes.new.core.config (volumes_logs c.args.core.now.config c.make_ready.new.core.config c.make_ready.ensures.volumes) c.flush_plexes.ensures.logs

pub returns-in-Err-flush_plexes-clause-logs : goal.returns-in-Err-flush_plexes-clause-logs
returns-in-Err-flush_plexes-clause-logs g c =
    then_logs c.args.core.now.config c.make_ready.new.core.config c.flush_plexes.new.core.config (volumes_logs c.args.core.now.config c.make_ready.new.core.config c.make_ready.ensures.volumes) c.flush_plexes.ensures.logs

pub returns-then-is_down-clause-full : goal.returns-then-is_down-clause-full
returns-then-is_down-clause-full g c = λ full. tt

pub returns-in-Err-clause-full : goal.returns-in-Err-clause-full
returns-in-Err-clause-full g c = λ full. tt

pub returns-in-Err-flush_plexes-clause-full : goal.returns-in-Err-flush_plexes-clause-full
returns-in-Err-flush_plexes-clause-full g c = λ full. tt

pub returns-in-Ok-flush_plexes-clause-full : goal.returns-in-Ok-flush_plexes-clause-full
returns-in-Ok-flush_plexes-clause-full g c = λ full. c.in-Ok-flush_plexes.ensures.full (c.make_ready.ensures.full full) ∙ c.make_ready.ensures.volumes

pub returns-then-is_down-clause-settles : goal.returns-then-is_down-clause-settles
returns-then-is_down-clause-settles g c = same_told c.args.core.now (g.S.Shelf.meaning c.args.shelf.now)

pub returns-in-Err-clause-settles : goal.returns-in-Err-clause-settles
returns-in-Err-clause-settles g c = as_told c.args.core.now c.make_ready.new.core _ (g.S.Shelf.meaning c.args.shelf.now) (g.S.Shelf.meaning c.make_ready.new.shelf) refl refl c.make_ready.ensures.settles

pub returns-in-Ok-flush_plexes-clause-settles : goal.returns-in-Ok-flush_plexes-clause-settles
returns-in-Ok-flush_plexes-clause-settles g c = then_told c.args.core.now c.make_ready.new.core c.flush_plexes.new.core (g.S.Shelf.meaning c.args.shelf.now) (g.S.Shelf.meaning c.make_ready.new.shelf) (g.S.Shelf.meaning c.flush_plexes.new.shelf) c.make_ready.ensures.settles c.flush_plexes.ensures.settles

pub returns-in-Err-flush_plexes-clause-settles : goal.returns-in-Err-flush_plexes-clause-settles
returns-in-Err-flush_plexes-clause-settles g c =
    as_told c.args.core.now c.flush_plexes.new.core _ (g.S.Shelf.meaning c.args.shelf.now) (g.S.Shelf.meaning c.flush_plexes.new.shelf) refl refl
    (then_told c.args.core.now c.make_ready.new.core c.flush_plexes.new.core (g.S.Shelf.meaning c.args.shelf.now) (g.S.Shelf.meaning c.make_ready.new.shelf) (g.S.Shelf.meaning c.flush_plexes.new.shelf) c.make_ready.ensures.settles c.flush_plexes.ensures.settles)

pub returns-then-is_down-clause-ready : goal.returns-then-is_down-clause-ready
returns-then-is_down-clause-ready g c = tt

pub returns-in-Err-clause-ready : goal.returns-in-Err-clause-ready
returns-in-Err-clause-ready g c = tt

pub returns-in-Ok-flush_plexes-clause-ready : goal.returns-in-Ok-flush_plexes-clause-ready
returns-in-Ok-flush_plexes-clause-ready g c = c.in-Ok-flush_plexes.ensures.ready c.in-Ok.ensures.ready

pub returns-in-Err-flush_plexes-clause-ready : goal.returns-in-Err-flush_plexes-clause-ready
returns-in-Err-flush_plexes-clause-ready g c = tt

pub returns-then-is_down-clause-stands : goal.returns-then-is_down-clause-stands
returns-then-is_down-clause-stands g c = c.requires.stands

pub returns-then-is_down-clause-goes : goal.returns-then-is_down-clause-goes
returns-then-is_down-clause-goes g c = same_Goes Nothing (inner_meaning c.args.core.now (g.S.Shelf.meaning c.args.shelf.now))

pub returns-then-is_down-clause-ok : goal.returns-then-is_down-clause-ok
returns-then-is_down-clause-ok g c = tt

pub returns-then-is_down-clause-gave_up : goal.returns-then-is_down-clause-gave_up
returns-then-is_down-clause-gave_up g c = tt

pub returns-then-is_down-clause-trust : goal.returns-then-is_down-clause-trust
returns-then-is_down-clause-trust g c = tt

pub returns-then-is_down-clause-cause : goal.returns-then-is_down-clause-cause
returns-then-is_down-clause-cause g c = sym c.is_down.ensures ∙ c.if-is_down.true

pub returns-then-is_down-clause-unit_faults : goal.returns-then-is_down-clause-unit_faults
returns-then-is_down-clause-unit_faults g c = λ u. omega arith

pub returns-then-is_down-clause-marks : goal.returns-then-is_down-clause-marks
returns-then-is_down-clause-marks g c = refl

pub returns-in-Err-clause-ok : goal.returns-in-Err-clause-ok
returns-in-Err-clause-ok g c = tt

pub returns-in-Err-clause-trust : goal.returns-in-Err-clause-trust
returns-in-Err-clause-trust g c = tt

pub returns-in-Err-flush_plexes-clause-ok : goal.returns-in-Err-flush_plexes-clause-ok
returns-in-Err-flush_plexes-clause-ok g c = tt

pub returns-in-Err-flush_plexes-clause-trust : goal.returns-in-Err-flush_plexes-clause-trust
returns-in-Err-flush_plexes-clause-trust g c = tt

pub returns-in-Err-clause-agreed : goal.returns-in-Err-clause-agreed
returns-in-Err-clause-agreed g c = c.in-Err.ensures.agreed

pub returns-in-Ok-flush_plexes-clause-stands : goal.returns-in-Ok-flush_plexes-clause-stands
returns-in-Ok-flush_plexes-clause-stands g c = c.flush_plexes.ensures.stands

pub returns-in-Ok-flush_plexes-clause-gave_up : goal.returns-in-Ok-flush_plexes-clause-gave_up
returns-in-Ok-flush_plexes-clause-gave_up g c = tt

pub returns-in-Ok-flush_plexes-clause-agreed : goal.returns-in-Ok-flush_plexes-clause-agreed
returns-in-Ok-flush_plexes-clause-agreed g c = tt

pub returns-in-Err-clause-stands : goal.returns-in-Err-clause-stands
returns-in-Err-clause-stands g c = let s = c.make_ready.ensures.stands in record { wanted = s.wanted; serial = s.serial; disks = s.disks; rvg = s.rvg; few = s.few; small = s.small; large = s.large; on = s.on; some = s.some; kept = s.kept; tidy = s.tidy; trusts = s.trusts }

pub returns-in-Err-flush_plexes-clause-stands : goal.returns-in-Err-flush_plexes-clause-stands
returns-in-Err-flush_plexes-clause-stands g c = let s = c.flush_plexes.ensures.stands in record { wanted = s.wanted; serial = s.serial; disks = s.disks; rvg = s.rvg; few = s.few; small = s.small; large = s.large; on = s.on; some = s.some; kept = s.kept; tidy = s.tidy; trusts = s.trusts }

pub returns-in-Ok-flush_plexes-clause-cause : goal.returns-in-Ok-flush_plexes-clause-cause
returns-in-Ok-flush_plexes-clause-cause g c = record { before = not_down c.is_down.result (g.S.Shelf.meaning c.args.shelf.now).down c.is_down.ensures c.if-is_down.false; after = c.in-Ok-flush_plexes.ensures.cause }

pub returns-in-Ok-flush_plexes-clause-marks : goal.returns-in-Ok-flush_plexes-clause-marks
returns-in-Ok-flush_plexes-clause-marks g c = c.flush_plexes.ensures.unsure ∙ c.make_ready.ensures.narrows.unsure
