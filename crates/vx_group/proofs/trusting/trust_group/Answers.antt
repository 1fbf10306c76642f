-- `trust_group`: its clauses, over a group of which no plex is held back; what `trust_log` asks.
use Rattle.std.proofs.Common.{false, refl, sym, subst, ◌∙◌, arith, true, ◌≡◌}
use Rattle.vx_config.specs.Changes.{lost}
use Rattle.vx_disk.specs.Shelf.{Goes, Nothing}
use Rattle.vx_kept.specs.PlexActs.{PlexActs}
use Rattle.vx_group.proofs.LostLemmas.{active_plexes}
use Rattle.vx_group.specs.Holding.{wide}
use Rattle.vx_group.specs.Stands.{inner_meaning}
use Rattle.vx_group.specs.declared.inner.Inner.{Inner}
use Rattle.vx_group.proofs.HoldLemmas.{from_none, none_Stands, wide_none}
use Rattle.vx_group.proofs.LoseLemmas.{loses_same}
use Rattle.vx_group.proofs.MendLemmas.{same_Goes}
use Rattle.vx_group.proofs.TrustingLemmas.{still_PlexActs}
use Rattle.vx_group.proofs.FindingLemmas.{still_group}
use Rattle.vx_group.proofs.FoundThrough.{alone_finds}
use Rattle.vx_group.proofs.TrustStillLemmas.{same_logs}
use Rattle.vx_group.proofs.UnsureMarks.{same_unsure}
use Rattle.vx_group.proofs.UnsureLemmas.{misses_by}
use Rattle.vx_group.proofs.CallLemmas.{not_down}
use Rattle.vx_group.proofs.trusting.trust_group.Goals as goal

pub trust_log-requires-clause-stands : goal.trust_log-requires-clause-stands
trust_log-requires-clause-stands g c = from_none c.args.core.now (g.S.Shelf.meaning c.args.shelf.now) c.requires.none c.requires.stands

pub returns-then-is_down-clause-goes : goal.returns-then-is_down-clause-goes
returns-then-is_down-clause-goes g c = same_Goes (inner_meaning (wide c.args.core.now) (g.S.Shelf.meaning c.args.shelf.now))

pub returns-then-is_down-clause-acts : goal.returns-then-is_down-clause-acts
returns-then-is_down-clause-acts g c = still_PlexActs c.args.vol c.args.log (wide c.args.core.now).config (g.S.Shelf.meaning c.args.shelf.now)

pub returns-then-is_down-clause-agreed : goal.returns-then-is_down-clause-agreed
returns-then-is_down-clause-agreed g c = λ is. c.requires.stands.stands.trusts.both is

pub returns-then-core-ge-MOST_NUMBER-clause-goes : goal.returns-then-core-ge-MOST_NUMBER-clause-goes
returns-then-core-ge-MOST_NUMBER-clause-goes g c = same_Goes (inner_meaning (wide c.args.core.now) (g.S.Shelf.meaning c.args.shelf.now))

pub returns-then-core-ge-MOST_NUMBER-clause-acts : goal.returns-then-core-ge-MOST_NUMBER-clause-acts
returns-then-core-ge-MOST_NUMBER-clause-acts g c = still_PlexActs c.args.vol c.args.log (wide c.args.core.now).config (g.S.Shelf.meaning c.args.shelf.now)

pub returns-in-Ok-clause-stands : goal.returns-in-Ok-clause-stands
returns-in-Ok-clause-stands g c = none_Stands (record { inner = c.trust_log.new.core; held = c.args.core.now.held }) (g.S.Shelf.meaning c.trust_log.new.shelf) c.requires.none c.trust_log.ensures.stands

pub returns-in-Err-clause-stands : goal.returns-in-Err-clause-stands
returns-in-Err-clause-stands g c = none_Stands (record { inner = c.trust_log.new.core; held = c.args.core.now.held }) (g.S.Shelf.meaning c.trust_log.new.shelf) c.requires.none c.trust_log.ensures.stands

pub returns-in-Ok-clause-goes : goal.returns-in-Ok-clause-goes
returns-in-Ok-clause-goes g c =
    subst (λ (i : Inner). Goes Nothing (inner_meaning i (g.S.Shelf.meaning c.args.shelf.now)) (inner_meaning (wide (record { inner = c.trust_log.new.core; held = c.args.core.now.held })) (g.S.Shelf.meaning c.trust_log.new.shelf))) (sym (wide_none c.args.core.now c.requires.none))
    (subst (λ (i : Inner). Goes Nothing (inner_meaning c.args.core.now.inner (g.S.Shelf.meaning c.args.shelf.now)) (inner_meaning i (g.S.Shelf.meaning c.trust_log.new.shelf))) (sym (wide_none (record { inner = c.trust_log.new.core; held = c.args.core.now.held }) c.requires.none)) c.trust_log.ensures.goes)

pub returns-in-Err-clause-goes : goal.returns-in-Err-clause-goes
returns-in-Err-clause-goes g c =
    subst (λ (i : Inner). Goes Nothing (inner_meaning i (g.S.Shelf.meaning c.args.shelf.now)) (inner_meaning (wide (record { inner = c.trust_log.new.core; held = c.args.core.now.held })) (g.S.Shelf.meaning c.trust_log.new.shelf))) (sym (wide_none c.args.core.now c.requires.none))
    (subst (λ (i : Inner). Goes Nothing (inner_meaning c.args.core.now.inner (g.S.Shelf.meaning c.args.shelf.now)) (inner_meaning i (g.S.Shelf.meaning c.trust_log.new.shelf))) (sym (wide_none (record { inner = c.trust_log.new.core; held = c.args.core.now.held }) c.requires.none)) c.trust_log.ensures.goes)

pub returns-in-Ok-clause-acts : goal.returns-in-Ok-clause-acts
returns-in-Ok-clause-acts g c =
    subst (λ (i : Inner). PlexActs Nothing (lost c.args.vol c.args.log false i.config) (wide (record { inner = c.trust_log.new.core; held = c.args.core.now.held })).config (g.S.Shelf.meaning c.args.shelf.now) (g.S.Shelf.meaning c.trust_log.new.shelf)) (sym (wide_none c.args.core.now c.requires.none))
    (subst (λ (i : Inner). PlexActs Nothing (lost c.args.vol c.args.log false c.args.core.now.inner.config) i.config (g.S.Shelf.meaning c.args.shelf.now) (g.S.Shelf.meaning c.trust_log.new.shelf)) (sym (wide_none (record { inner = c.trust_log.new.core; held = c.args.core.now.held }) c.requires.none)) c.trust_log.ensures.acts)

pub returns-in-Err-clause-acts : goal.returns-in-Err-clause-acts
returns-in-Err-clause-acts g c =
    subst (λ (i : Inner). PlexActs Nothing (lost c.args.vol c.args.log false i.config) (wide (record { inner = c.trust_log.new.core; held = c.args.core.now.held })).config (g.S.Shelf.meaning c.args.shelf.now) (g.S.Shelf.meaning c.trust_log.new.shelf)) (sym (wide_none c.args.core.now c.requires.none))
    (subst (λ (i : Inner). PlexActs Nothing (lost c.args.vol c.args.log false c.args.core.now.inner.config) i.config (g.S.Shelf.meaning c.args.shelf.now) (g.S.Shelf.meaning c.trust_log.new.shelf)) (sym (wide_none (record { inner = c.trust_log.new.core; held = c.args.core.now.held }) c.requires.none)) c.trust_log.ensures.acts)

pub returns-then-is_down-clause-loses : goal.returns-then-is_down-clause-loses
returns-then-is_down-clause-loses g c = loses_same c.args.core.now.inner.config (g.S.Shelf.meaning c.args.shelf.now) (g.S.Shelf.meaning c.args.shelf.now)

pub returns-then-core-ge-MOST_NUMBER-clause-loses : goal.returns-then-core-ge-MOST_NUMBER-clause-loses
returns-then-core-ge-MOST_NUMBER-clause-loses g c = loses_same c.args.core.now.inner.config (g.S.Shelf.meaning c.args.shelf.now) (g.S.Shelf.meaning c.args.shelf.now)

pub returns-then-is_down-clause-still : goal.returns-then-is_down-clause-still
returns-then-is_down-clause-still g c = λ w p. refl

pub returns-then-core-ge-MOST_NUMBER-clause-still : goal.returns-then-core-ge-MOST_NUMBER-clause-still
returns-then-core-ge-MOST_NUMBER-clause-still g c = λ w p. refl

pub returns-in-Ok-clause-still : goal.returns-in-Ok-clause-still
returns-in-Ok-clause-still g c = active_plexes c.args.core.now.inner.config c.trust_log.new.core.config c.trust_log.ensures.plexes

pub returns-in-Err-clause-still : goal.returns-in-Err-clause-still
returns-in-Err-clause-still g c = active_plexes c.args.core.now.inner.config c.trust_log.new.core.config c.trust_log.ensures.plexes

pub returns-then-is_down-clause-finds : goal.returns-then-is_down-clause-finds
returns-then-is_down-clause-finds g c =
    still_group c.args.core.now (g.S.Shelf.meaning c.args.shelf.now)

pub returns-then-core-ge-MOST_NUMBER-clause-finds : goal.returns-then-core-ge-MOST_NUMBER-clause-finds
returns-then-core-ge-MOST_NUMBER-clause-finds g c =
    still_group c.args.core.now (g.S.Shelf.meaning c.args.shelf.now)

pub returns-in-Ok-clause-finds : goal.returns-in-Ok-clause-finds
returns-in-Ok-clause-finds g c =
    alone_finds c.args.core.now _ (g.S.Shelf.meaning c.args.shelf.now) (g.S.Shelf.meaning c.trust_log.new.shelf) c.requires.none c.requires.none c.trust_log.ensures.finds c.trust_log.ensures.settles (same_unsure c.args.core.now.inner.unsure c.trust_log.new.core.unsure c.trust_log.ensures.unsure)

pub returns-in-Err-clause-finds : goal.returns-in-Err-clause-finds
returns-in-Err-clause-finds g c =
    alone_finds c.args.core.now _ (g.S.Shelf.meaning c.args.shelf.now) (g.S.Shelf.meaning c.trust_log.new.shelf) c.requires.none c.requires.none c.trust_log.ensures.finds c.trust_log.ensures.settles (same_unsure c.args.core.now.inner.unsure c.trust_log.new.core.unsure c.trust_log.ensures.unsure)

pub returns-then-is_down-clause-logs : goal.returns-then-is_down-clause-logs
returns-then-is_down-clause-logs g c = same_logs c.args.core.now.inner.config

pub returns-then-core-ge-MOST_NUMBER-clause-logs : goal.returns-then-core-ge-MOST_NUMBER-clause-logs
returns-then-core-ge-MOST_NUMBER-clause-logs g c = same_logs c.args.core.now.inner.config

pub returns-in-Ok-clause-logs : goal.returns-in-Ok-clause-logs
returns-in-Ok-clause-logs g c = c.trust_log.ensures.logs

pub returns-in-Err-clause-logs : goal.returns-in-Err-clause-logs
returns-in-Err-clause-logs g c = c.trust_log.ensures.logs

pub returns-in-Err-clause-misses : goal.returns-in-Err-clause-misses
returns-in-Err-clause-misses g c = misses_by c.trust_log.new.core (g.S.Shelf.meaning c.args.shelf.now) (g.S.Shelf.meaning c.trust_log.new.shelf) c.in-Err.error c.in-Err.ensures.missed c.in-Err.ensures.cause

pub returns-then-is_down-clause-stands : goal.returns-then-is_down-clause-stands
returns-then-is_down-clause-stands g c = c.requires.stands

pub returns-then-is_down-clause-none : goal.returns-then-is_down-clause-none
returns-then-is_down-clause-none g c = c.requires.none

pub returns-then-is_down-clause-few : goal.returns-then-is_down-clause-few
returns-then-is_down-clause-few g c = tt

pub returns-then-is_down-clause-faults : goal.returns-then-is_down-clause-faults
returns-then-is_down-clause-faults g c = refl

pub returns-then-is_down-clause-unsure : goal.returns-then-is_down-clause-unsure
returns-then-is_down-clause-unsure g c = refl

pub returns-then-is_down-clause-volumes : goal.returns-then-is_down-clause-volumes
returns-then-is_down-clause-volumes g c = tt

pub returns-then-is_down-clause-committed : goal.returns-then-is_down-clause-committed
returns-then-is_down-clause-committed g c = tt

pub returns-then-is_down-clause-full : goal.returns-then-is_down-clause-full
returns-then-is_down-clause-full g c = tt

pub returns-then-is_down-clause-trust : goal.returns-then-is_down-clause-trust
returns-then-is_down-clause-trust g c = tt

pub returns-then-is_down-clause-misses : goal.returns-then-is_down-clause-misses
returns-then-is_down-clause-misses g c = tt

pub returns-then-is_down-clause-cause : goal.returns-then-is_down-clause-cause
returns-then-is_down-clause-cause g c = sym c.is_down.ensures ∙ c.if-is_down.true

pub returns-then-core-ge-MOST_NUMBER-clause-stands : goal.returns-then-core-ge-MOST_NUMBER-clause-stands
returns-then-core-ge-MOST_NUMBER-clause-stands g c = c.requires.stands

pub returns-then-core-ge-MOST_NUMBER-clause-none : goal.returns-then-core-ge-MOST_NUMBER-clause-none
returns-then-core-ge-MOST_NUMBER-clause-none g c = c.requires.none

pub returns-then-core-ge-MOST_NUMBER-clause-few : goal.returns-then-core-ge-MOST_NUMBER-clause-few
returns-then-core-ge-MOST_NUMBER-clause-few g c = omega arith

pub returns-then-core-ge-MOST_NUMBER-clause-faults : goal.returns-then-core-ge-MOST_NUMBER-clause-faults
returns-then-core-ge-MOST_NUMBER-clause-faults g c = refl

pub returns-then-core-ge-MOST_NUMBER-clause-unsure : goal.returns-then-core-ge-MOST_NUMBER-clause-unsure
returns-then-core-ge-MOST_NUMBER-clause-unsure g c = refl

pub returns-then-core-ge-MOST_NUMBER-clause-trust : goal.returns-then-core-ge-MOST_NUMBER-clause-trust
returns-then-core-ge-MOST_NUMBER-clause-trust g c = λ is. is

pub returns-then-core-ge-MOST_NUMBER-clause-agreed : goal.returns-then-core-ge-MOST_NUMBER-clause-agreed
returns-then-core-ge-MOST_NUMBER-clause-agreed g c = tt

pub returns-then-core-ge-MOST_NUMBER-clause-misses : goal.returns-then-core-ge-MOST_NUMBER-clause-misses
returns-then-core-ge-MOST_NUMBER-clause-misses g c = tt

pub returns-then-core-ge-MOST_NUMBER-clause-volumes : goal.returns-then-core-ge-MOST_NUMBER-clause-volumes
returns-then-core-ge-MOST_NUMBER-clause-volumes g c = λ is. absurd (let clash : false ≡ true = is in cc)

pub returns-then-core-ge-MOST_NUMBER-clause-committed : goal.returns-then-core-ge-MOST_NUMBER-clause-committed
returns-then-core-ge-MOST_NUMBER-clause-committed g c = λ is. absurd (let clash : false ≡ true = is in cc)

pub returns-in-Ok-clause-full : goal.returns-in-Ok-clause-full
returns-in-Ok-clause-full g c = λ is. absurd (let clash : true ≡ false = is in cc)

pub returns-in-Ok-clause-loses : goal.returns-in-Ok-clause-loses
returns-in-Ok-clause-loses g c = c.trust_log.ensures.loses

pub returns-in-Err-clause-loses : goal.returns-in-Err-clause-loses
returns-in-Err-clause-loses g c = c.trust_log.ensures.loses

pub returns-in-Ok-clause-few : goal.returns-in-Ok-clause-few
returns-in-Ok-clause-few g c = c.in-Ok.ensures.few

pub returns-in-Err-clause-few : goal.returns-in-Err-clause-few
returns-in-Err-clause-few g c = tt

pub returns-in-Ok-clause-faults : goal.returns-in-Ok-clause-faults
returns-in-Ok-clause-faults g c = c.trust_log.ensures.faults

pub returns-in-Err-clause-faults : goal.returns-in-Err-clause-faults
returns-in-Err-clause-faults g c = c.trust_log.ensures.faults

pub returns-in-Ok-clause-unsure : goal.returns-in-Ok-clause-unsure
returns-in-Ok-clause-unsure g c = c.trust_log.ensures.unsure

pub returns-in-Err-clause-unsure : goal.returns-in-Err-clause-unsure
returns-in-Err-clause-unsure g c = c.trust_log.ensures.unsure

pub returns-in-Err-clause-volumes : goal.returns-in-Err-clause-volumes
returns-in-Err-clause-volumes g c = tt

pub returns-in-Err-clause-committed : goal.returns-in-Err-clause-committed
returns-in-Err-clause-committed g c = tt

pub returns-in-Err-clause-full : goal.returns-in-Err-clause-full
returns-in-Err-clause-full g c = tt

pub returns-in-Ok-clause-trust : goal.returns-in-Ok-clause-trust
returns-in-Ok-clause-trust g c = c.in-Ok.ensures.trust

pub returns-in-Err-clause-trust : goal.returns-in-Err-clause-trust
returns-in-Err-clause-trust g c = tt

pub returns-in-Ok-clause-agreed : goal.returns-in-Ok-clause-agreed
returns-in-Ok-clause-agreed g c = tt

pub returns-in-Err-clause-agreed : goal.returns-in-Err-clause-agreed
returns-in-Err-clause-agreed g c = c.in-Err.ensures.agreed

pub returns-in-Ok-clause-none : goal.returns-in-Ok-clause-none
returns-in-Ok-clause-none g c = c.requires.none

pub returns-in-Err-clause-none : goal.returns-in-Err-clause-none
returns-in-Err-clause-none g c = c.requires.none

pub returns-in-Ok-clause-misses : goal.returns-in-Ok-clause-misses
returns-in-Ok-clause-misses g c = tt

pub returns-in-Ok-clause-volumes : goal.returns-in-Ok-clause-volumes
returns-in-Ok-clause-volumes g c = λ is. c.in-Ok.ensures.volumes

pub returns-in-Ok-clause-committed : goal.returns-in-Ok-clause-committed
returns-in-Ok-clause-committed g c = λ is. c.in-Ok.ensures.committed

pub returns-in-Ok-clause-cause : goal.returns-in-Ok-clause-cause
returns-in-Ok-clause-cause g c = c.in-Ok.ensures.cause

pub returns-then-core-ge-MOST_NUMBER-clause-cause : goal.returns-then-core-ge-MOST_NUMBER-clause-cause
returns-then-core-ge-MOST_NUMBER-clause-cause g c = not_down c.is_down.result (g.S.Shelf.meaning c.args.shelf.now).down c.is_down.ensures c.if-is_down.false
