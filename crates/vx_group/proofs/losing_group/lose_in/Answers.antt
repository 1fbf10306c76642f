-- A log that is lost in a call on its volume.
use Rattle.std.proofs.Common.{◌∙◌, ℕ, Bool, List, ap, refl, subst, arith, false, sym, true, ◌≡◌}
use Rattle.vx_disk.specs.Shelf.{Nothing}
use Rattle.vx_group.specs.Blames.{CountsRise}
use Rattle.vx_group.specs.Stands.{volume_faults, inner_meaning}
use Rattle.vx_kept.proofs.PlexActing.{none_PlexActs}
use Rattle.vx_group.proofs.ActsLemmas.{narrow_PlexActs}
use Rattle.vx_group.proofs.CallLemmas.{cause_by, counts_less, narrows_Goes, not_down}
use Rattle.vx_group.proofs.LoseLemmas.{loses_plexes, loses_same}
use Rattle.vx_group.proofs.LostLemmas.{error_to}
use Rattle.vx_group.proofs.FindingLemmas.{as_finds, none_finds}
use Rattle.vx_group.proofs.TrustStillLemmas.{same_logs, still_but}
use Rattle.vx_group.proofs.SettleCalls.{as_told, same_told}
use Rattle.vx_group.proofs.UnsureLemmas.{misses_by, unsure_then}
use Rattle.vx_disk.proofs.Runs.{same_Goes}
use Rattle.vx_group.proofs.losing_group.lose_in.Goals as goal

pub returns-then-is_down-clause-acts : goal.returns-then-is_down-clause-acts
returns-then-is_down-clause-acts g c =
    none_PlexActs Nothing c.args.core.now.config (g.S.Shelf.meaning c.args.shelf.now)

pub returns-then-core-ge-MOST_NUMBER-clause-acts : goal.returns-then-core-ge-MOST_NUMBER-clause-acts
returns-then-core-ge-MOST_NUMBER-clause-acts g c =
    none_PlexActs Nothing c.args.core.now.config (g.S.Shelf.meaning c.args.shelf.now)

pub returns-in-Ok-clause-acts : goal.returns-in-Ok-clause-acts
returns-in-Ok-clause-acts g c =
    narrow_PlexActs Nothing c.args.core.now c.lose_log.new.core (g.S.Shelf.meaning c.args.shelf.now) (g.S.Shelf.meaning c.lose_log.new.shelf) c.lose_log.ensures.narrows

pub returns-in-Err-clause-acts : goal.returns-in-Err-clause-acts
returns-in-Err-clause-acts g c =
    narrow_PlexActs Nothing c.args.core.now c.lose_log.new.core (g.S.Shelf.meaning c.args.shelf.now) (g.S.Shelf.meaning c.lose_log.new.shelf) c.lose_log.ensures.narrows

pub returns-in-Ok-clause-goes : goal.returns-in-Ok-clause-goes
returns-in-Ok-clause-goes g c =
    narrows_Goes c.args.core.now c.lose_log.new.core (g.S.Shelf.meaning c.args.shelf.now) (g.S.Shelf.meaning c.lose_log.new.shelf) (g.met.S.Shelf.lawful c.lose_log.new.shelf) c.requires.stands c.lose_log.ensures.narrows (volume_faults c.args.core.now.faults) (volume_faults c.lose_log.new.core.faults)
    (λ u. let same = ap (λ (f : List ℕ). volume_faults f u) c.lose_log.ensures.narrows.faults in omega (arith, same))

pub returns-in-Err-clause-goes : goal.returns-in-Err-clause-goes
returns-in-Err-clause-goes g c =
    narrows_Goes c.args.core.now c.lose_log.new.core (g.S.Shelf.meaning c.args.shelf.now) (g.S.Shelf.meaning c.lose_log.new.shelf) (g.met.S.Shelf.lawful c.lose_log.new.shelf) c.requires.stands c.lose_log.ensures.narrows (volume_faults c.args.core.now.faults) (volume_faults c.give_up.new.faults)
    (λ u. let same = ap (λ (f : List ℕ). volume_faults f u) c.lose_log.ensures.narrows.faults in let less = counts_less c.in-Err.error c.args.vol (volume_faults c.lose_log.new.core.faults) (volume_faults c.give_up.new.faults) c.give_up.ensures.counts u in omega (arith, same, less))

pub returns-in-Err-clause-cause : goal.returns-in-Err-clause-cause
returns-in-Err-clause-cause g c =
    cause_by Bool c.in-Err.error c.args.core.now.config c.lose_log.new.core.config c.args.vol (volume_faults c.args.core.now.faults) (volume_faults c.give_up.new.faults) (g.S.Shelf.meaning c.args.shelf.now) (g.S.Shelf.meaning c.lose_log.new.shelf)
    (not_down c.is_down.result (g.S.Shelf.meaning c.args.shelf.now).down c.is_down.ensures c.if-is_down.false) (error_to (Unit {0}) Bool c.in-Err.error (g.S.Shelf.meaning c.args.shelf.now) (g.S.Shelf.meaning c.lose_log.new.shelf) c.in-Err.ensures.cause)
    (subst (λ (f : List ℕ). CountsRise c.in-Err.error c.args.vol (volume_faults f) (volume_faults c.give_up.new.faults)) c.lose_log.ensures.narrows.faults c.give_up.ensures.counts)

pub returns-in-Ok-clause-lost : goal.returns-in-Ok-clause-lost
returns-in-Ok-clause-lost g c =
    λ is. c.in-Ok.ensures.lost

pub returns-then-is_down-clause-loses : goal.returns-then-is_down-clause-loses
returns-then-is_down-clause-loses g c = loses_same c.args.core.now.config (g.S.Shelf.meaning c.args.shelf.now) (g.S.Shelf.meaning c.args.shelf.now)

pub returns-then-core-ge-MOST_NUMBER-clause-loses : goal.returns-then-core-ge-MOST_NUMBER-clause-loses
returns-then-core-ge-MOST_NUMBER-clause-loses g c = loses_same c.args.core.now.config (g.S.Shelf.meaning c.args.shelf.now) (g.S.Shelf.meaning c.args.shelf.now)

pub returns-in-Ok-clause-loses : goal.returns-in-Ok-clause-loses
returns-in-Ok-clause-loses g c =
    loses_plexes c.args.core.now.config c.lose_log.new.core.config (g.S.Shelf.meaning c.args.shelf.now) (g.S.Shelf.meaning c.lose_log.new.shelf) c.lose_log.ensures.narrows.shape.frames c.lose_log.ensures.plexes c.lose_log.ensures.failing c.lose_log.ensures.parts

pub returns-in-Err-clause-loses : goal.returns-in-Err-clause-loses
returns-in-Err-clause-loses g c =
    loses_plexes c.args.core.now.config c.lose_log.new.core.config (g.S.Shelf.meaning c.args.shelf.now) (g.S.Shelf.meaning c.lose_log.new.shelf) c.lose_log.ensures.narrows.shape.frames c.lose_log.ensures.plexes c.lose_log.ensures.failing c.lose_log.ensures.parts

pub returns-then-is_down-clause-plexes : goal.returns-then-is_down-clause-plexes
returns-then-is_down-clause-plexes g c = λ w p. refl

pub returns-then-core-ge-MOST_NUMBER-clause-plexes : goal.returns-then-core-ge-MOST_NUMBER-clause-plexes
returns-then-core-ge-MOST_NUMBER-clause-plexes g c = λ w p. refl

pub returns-then-is_down-clause-finds : goal.returns-then-is_down-clause-finds
returns-then-is_down-clause-finds g c =
    none_finds c.args.core.now (g.S.Shelf.meaning c.args.shelf.now)

pub returns-then-core-ge-MOST_NUMBER-clause-finds : goal.returns-then-core-ge-MOST_NUMBER-clause-finds
returns-then-core-ge-MOST_NUMBER-clause-finds g c =
    none_finds c.args.core.now (g.S.Shelf.meaning c.args.shelf.now)

pub returns-in-Ok-clause-finds : goal.returns-in-Ok-clause-finds
returns-in-Ok-clause-finds g c =
    c.lose_log.ensures.finds

pub returns-in-Err-clause-finds : goal.returns-in-Err-clause-finds
returns-in-Err-clause-finds g c =
    as_finds c.args.core.now c.lose_log.new.core _ (g.S.Shelf.meaning c.args.shelf.now) (g.S.Shelf.meaning c.lose_log.new.shelf) refl refl refl c.lose_log.ensures.finds

pub returns-then-is_down-clause-logs : goal.returns-then-is_down-clause-logs
returns-then-is_down-clause-logs g c = still_but c.args.vol c.args.log c.args.core.now.config c.args.core.now.config (same_logs c.args.core.now.config)

pub returns-then-core-ge-MOST_NUMBER-clause-logs : goal.returns-then-core-ge-MOST_NUMBER-clause-logs
returns-then-core-ge-MOST_NUMBER-clause-logs g c = still_but c.args.vol c.args.log c.args.core.now.config c.args.core.now.config (same_logs c.args.core.now.config)

pub returns-in-Ok-clause-logs : goal.returns-in-Ok-clause-logs
returns-in-Ok-clause-logs g c = c.lose_log.ensures.logs

pub returns-in-Err-clause-logs : goal.returns-in-Err-clause-logs
returns-in-Err-clause-logs g c = c.lose_log.ensures.logs

pub returns-then-core-ge-MOST_NUMBER-clause-few : goal.returns-then-core-ge-MOST_NUMBER-clause-few
returns-then-core-ge-MOST_NUMBER-clause-few g c = omega arith

pub returns-in-Ok-clause-few : goal.returns-in-Ok-clause-few
returns-in-Ok-clause-few g c = c.in-Ok.ensures.few

pub returns-then-is_down-clause-settles : goal.returns-then-is_down-clause-settles
returns-then-is_down-clause-settles g c = same_told c.args.core.now (g.S.Shelf.meaning c.args.shelf.now)

pub returns-then-core-ge-MOST_NUMBER-clause-settles : goal.returns-then-core-ge-MOST_NUMBER-clause-settles
returns-then-core-ge-MOST_NUMBER-clause-settles g c = same_told c.args.core.now (g.S.Shelf.meaning c.args.shelf.now)

pub returns-in-Ok-clause-settles : goal.returns-in-Ok-clause-settles
returns-in-Ok-clause-settles g c = c.lose_log.ensures.settles

pub returns-in-Err-clause-settles : goal.returns-in-Err-clause-settles
returns-in-Err-clause-settles g c = as_told c.args.core.now c.lose_log.new.core _ (g.S.Shelf.meaning c.args.shelf.now) (g.S.Shelf.meaning c.lose_log.new.shelf) refl refl c.lose_log.ensures.settles

pub returns-in-Ok-clause-marks : goal.returns-in-Ok-clause-marks
returns-in-Ok-clause-marks g c = c.lose_log.ensures.narrows.unsure

pub returns-in-Err-clause-marks : goal.returns-in-Err-clause-marks
returns-in-Err-clause-marks g c = unsure_then c.args.vol c.args.core.now.unsure c.lose_log.new.core.unsure c.give_up.new.unsure c.in-Err.error c.lose_log.ensures.narrows.unsure c.give_up.ensures.marks

pub returns-in-Err-clause-misses : goal.returns-in-Err-clause-misses
returns-in-Err-clause-misses g c = misses_by c.lose_log.new.core (g.S.Shelf.meaning c.args.shelf.now) (g.S.Shelf.meaning c.lose_log.new.shelf) c.in-Err.error c.in-Err.ensures.missed c.in-Err.ensures.cause

pub returns-then-is_down-clause-stands : goal.returns-then-is_down-clause-stands
returns-then-is_down-clause-stands g c = c.requires.stands

pub returns-then-is_down-clause-goes : goal.returns-then-is_down-clause-goes
returns-then-is_down-clause-goes g c = same_Goes Nothing (inner_meaning c.args.core.now (g.S.Shelf.meaning c.args.shelf.now))

pub returns-then-is_down-clause-lost : goal.returns-then-is_down-clause-lost
returns-then-is_down-clause-lost g c = tt

pub returns-then-is_down-clause-full : goal.returns-then-is_down-clause-full
returns-then-is_down-clause-full g c = tt

pub returns-then-is_down-clause-few : goal.returns-then-is_down-clause-few
returns-then-is_down-clause-few g c = tt

pub returns-then-is_down-clause-trust : goal.returns-then-is_down-clause-trust
returns-then-is_down-clause-trust g c = tt

pub returns-then-is_down-clause-agreed : goal.returns-then-is_down-clause-agreed
returns-then-is_down-clause-agreed g c = c.requires.stands.trusts.both

pub returns-then-is_down-clause-marks : goal.returns-then-is_down-clause-marks
returns-then-is_down-clause-marks g c = refl

pub returns-then-is_down-clause-misses : goal.returns-then-is_down-clause-misses
returns-then-is_down-clause-misses g c = tt

pub returns-then-is_down-clause-cause : goal.returns-then-is_down-clause-cause
returns-then-is_down-clause-cause g c = sym c.is_down.ensures ∙ c.if-is_down.true

pub returns-then-core-ge-MOST_NUMBER-clause-stands : goal.returns-then-core-ge-MOST_NUMBER-clause-stands
returns-then-core-ge-MOST_NUMBER-clause-stands g c = c.requires.stands

pub returns-then-core-ge-MOST_NUMBER-clause-goes : goal.returns-then-core-ge-MOST_NUMBER-clause-goes
returns-then-core-ge-MOST_NUMBER-clause-goes g c = same_Goes Nothing (inner_meaning c.args.core.now (g.S.Shelf.meaning c.args.shelf.now))

pub returns-then-core-ge-MOST_NUMBER-clause-trust : goal.returns-then-core-ge-MOST_NUMBER-clause-trust
returns-then-core-ge-MOST_NUMBER-clause-trust g c = λ is. is

pub returns-then-core-ge-MOST_NUMBER-clause-agreed : goal.returns-then-core-ge-MOST_NUMBER-clause-agreed
returns-then-core-ge-MOST_NUMBER-clause-agreed g c = tt

pub returns-then-core-ge-MOST_NUMBER-clause-marks : goal.returns-then-core-ge-MOST_NUMBER-clause-marks
returns-then-core-ge-MOST_NUMBER-clause-marks g c = refl

pub returns-then-core-ge-MOST_NUMBER-clause-misses : goal.returns-then-core-ge-MOST_NUMBER-clause-misses
returns-then-core-ge-MOST_NUMBER-clause-misses g c = tt

pub returns-then-core-ge-MOST_NUMBER-clause-lost : goal.returns-then-core-ge-MOST_NUMBER-clause-lost
returns-then-core-ge-MOST_NUMBER-clause-lost g c = λ is. absurd (let clash : false ≡ true = is in cc)

pub returns-in-Ok-clause-full : goal.returns-in-Ok-clause-full
returns-in-Ok-clause-full g c = λ is. absurd (let clash : true ≡ false = is in cc)

pub returns-in-Ok-clause-stands : goal.returns-in-Ok-clause-stands
returns-in-Ok-clause-stands g c = c.lose_log.ensures.stands

pub returns-in-Ok-clause-plexes : goal.returns-in-Ok-clause-plexes
returns-in-Ok-clause-plexes g c = c.lose_log.ensures.plexes

pub returns-in-Ok-clause-trust : goal.returns-in-Ok-clause-trust
returns-in-Ok-clause-trust g c = c.in-Ok.ensures.trust

pub returns-in-Ok-clause-agreed : goal.returns-in-Ok-clause-agreed
returns-in-Ok-clause-agreed g c = tt

pub returns-in-Ok-clause-misses : goal.returns-in-Ok-clause-misses
returns-in-Ok-clause-misses g c = tt

pub returns-in-Err-clause-plexes : goal.returns-in-Err-clause-plexes
returns-in-Err-clause-plexes g c = c.lose_log.ensures.plexes

pub returns-in-Err-clause-lost : goal.returns-in-Err-clause-lost
returns-in-Err-clause-lost g c = tt

pub returns-in-Err-clause-full : goal.returns-in-Err-clause-full
returns-in-Err-clause-full g c = tt

pub returns-in-Err-clause-few : goal.returns-in-Err-clause-few
returns-in-Err-clause-few g c = tt

pub returns-in-Err-clause-trust : goal.returns-in-Err-clause-trust
returns-in-Err-clause-trust g c = tt

pub returns-in-Err-clause-agreed : goal.returns-in-Err-clause-agreed
returns-in-Err-clause-agreed g c = c.in-Err.ensures.agreed

pub returns-in-Err-clause-stands : goal.returns-in-Err-clause-stands
returns-in-Err-clause-stands g c = let s = c.lose_log.ensures.stands in record { wanted = s.wanted; serial = s.serial; disks = s.disks; rvg = s.rvg; few = s.few; small = s.small; large = s.large; on = s.on; some = s.some; kept = s.kept; tidy = s.tidy; trusts = s.trusts }

pub returns-in-Ok-clause-cause : goal.returns-in-Ok-clause-cause
returns-in-Ok-clause-cause g c = record { before = not_down c.is_down.result (g.S.Shelf.meaning c.args.shelf.now).down c.is_down.ensures c.if-is_down.false; after = c.in-Ok.ensures.cause }

pub returns-then-core-ge-MOST_NUMBER-clause-cause : goal.returns-then-core-ge-MOST_NUMBER-clause-cause
returns-then-core-ge-MOST_NUMBER-clause-cause g c = record { before = not_down c.is_down.result (g.S.Shelf.meaning c.args.shelf.now).down c.is_down.ensures c.if-is_down.false; after = not_down c.is_down.result (g.S.Shelf.meaning c.args.shelf.now).down c.is_down.ensures c.if-is_down.false }
