-- `trust_first`: its clauses.
use Rattle.std.proofs.Common.{ℕ, Bool, List, refl, subst, arith, sym, ◌∙◌}
use Rattle.vx_disk.specs.Shelf.{Nothing}
use Rattle.vx_disk.proofs.Runs.{then_nothing}
use Rattle.vx_group.specs.Blames.{CountsRise}
use Rattle.vx_group.specs.Holding.{wide}
use Rattle.vx_group.specs.Stands.{inner_meaning, volume_faults}
use Rattle.vx_group.proofs.CallLemmas.{cause_by, counts_less, not_down}
use Rattle.vx_group.proofs.LoseLemmas.{along_none}
use Rattle.vx_group.proofs.LostLemmas.{error_to}
use Rattle.vx_group.proofs.MendLemmas.{same_Goes}
use Rattle.vx_group.proofs.TrustingLemmas.{still_PlexActs}
use Rattle.vx_loggroup.proofs.FreshLemmas.{counted_Goes}
use Rattle.vx_group.proofs.FindingLemmas.{as_finds, still_group}
use Rattle.vx_group.proofs.UnsureMarks.{error_unsure, then_unsure}
use Rattle.vx_group.proofs.SettleCalls.{as_told}
use Rattle.vx_group.proofs.UnsureLemmas.{misses_to, unsure_then}
use Rattle.vx_loggroup.proofs.trusting.trust_first.Goals as goal

pub give_up-requires : goal.give_up-requires
give_up-requires g c = record { inside = let few = c.requires.stands.stands.few in let there = c.requires.there in omega (arith, few, there) }

pub returns-then-is_down-clause-goes : goal.returns-then-is_down-clause-goes
returns-then-is_down-clause-goes g c = same_Goes (inner_meaning (wide c.args.core.now) (g.S.Shelf.meaning c.args.shelf.now))

pub returns-then-is_down-clause-acts : goal.returns-then-is_down-clause-acts
returns-then-is_down-clause-acts g c = still_PlexActs c.args.vol c.args.log (wide c.args.core.now).config (g.S.Shelf.meaning c.args.shelf.now)

pub returns-then-is_down-clause-loses : goal.returns-then-is_down-clause-loses
returns-then-is_down-clause-loses g c = along_none c.args.core.now.inner.config (g.S.Shelf.meaning c.args.shelf.now)

pub returns-then-is_down-clause-still : goal.returns-then-is_down-clause-still
returns-then-is_down-clause-still g c = λ w p. refl

pub returns-then-is_down-clause-agreed : goal.returns-then-is_down-clause-agreed
returns-then-is_down-clause-agreed g c = λ is. c.requires.stands.stands.trusts.both is

pub returns-in-Ok-clause-loses : goal.returns-in-Ok-clause-loses
returns-in-Ok-clause-loses g c = record { loses = c.trust_group.ensures.loses; rises = c.trust_group.ensures.acts.acts.faults }

pub returns-in-Err-clause-loses : goal.returns-in-Err-clause-loses
returns-in-Err-clause-loses g c = record { loses = c.trust_group.ensures.loses; rises = c.trust_group.ensures.acts.acts.faults }

pub returns-in-Ok-clause-cause : goal.returns-in-Ok-clause-cause
returns-in-Ok-clause-cause g c = record { before = not_down c.is_down.result (g.S.Shelf.meaning c.args.shelf.now).down c.is_down.ensures c.if-is_down.false; after = c.in-Ok.ensures.cause }

pub returns-in-Err-clause-goes : goal.returns-in-Err-clause-goes
returns-in-Err-clause-goes g c =
    then_nothing Nothing (inner_meaning (wide c.args.core.now) (g.S.Shelf.meaning c.args.shelf.now)) (inner_meaning (wide c.trust_group.new.core) (g.S.Shelf.meaning c.trust_group.new.shelf)) (inner_meaning (wide (record { inner = record { config = c.trust_group.new.core.inner.config; good = c.trust_group.new.core.inner.good; room = c.trust_group.new.core.inner.room; unsettled = c.trust_group.new.core.inner.unsettled; committed = c.trust_group.new.core.inner.committed; agreed = c.trust_group.new.core.inner.agreed; next = c.trust_group.new.core.inner.next; faults = c.give_up.new.faults; unsure = c.give_up.new.unsure }; held = c.trust_group.new.core.held })) (g.S.Shelf.meaning c.trust_group.new.shelf)) c.trust_group.ensures.goes
    (counted_Goes (wide c.trust_group.new.core).config (volume_faults c.trust_group.new.core.inner.faults) (volume_faults c.give_up.new.faults) (g.S.Shelf.meaning c.trust_group.new.shelf) (counts_less c.in-Err.error c.args.vol (volume_faults c.trust_group.new.core.inner.faults) (volume_faults c.give_up.new.faults) c.give_up.ensures.counts))

pub returns-in-Err-clause-cause : goal.returns-in-Err-clause-cause
returns-in-Err-clause-cause g c =
    cause_by (Unit {0}) c.in-Err.error (wide c.args.core.now).config (wide c.trust_group.new.core).config c.args.vol (volume_faults c.args.core.now.inner.faults) (volume_faults c.give_up.new.faults) (g.S.Shelf.meaning c.args.shelf.now) (g.S.Shelf.meaning c.trust_group.new.shelf)
    (not_down c.is_down.result (g.S.Shelf.meaning c.args.shelf.now).down c.is_down.ensures c.if-is_down.false) (error_to Bool (Unit {0}) c.in-Err.error (g.S.Shelf.meaning c.args.shelf.now) (g.S.Shelf.meaning c.trust_group.new.shelf) c.in-Err.ensures.cause)
    (subst (λ (f : List ℕ). CountsRise c.in-Err.error c.args.vol (volume_faults f) (volume_faults c.give_up.new.faults)) c.trust_group.ensures.faults c.give_up.ensures.counts)

pub returns-then-is_down-clause-finds : goal.returns-then-is_down-clause-finds
returns-then-is_down-clause-finds g c =
    still_group c.args.core.now (g.S.Shelf.meaning c.args.shelf.now)

pub returns-in-Ok-clause-finds : goal.returns-in-Ok-clause-finds
returns-in-Ok-clause-finds g c =
    c.trust_group.ensures.finds

pub returns-in-Err-clause-finds : goal.returns-in-Err-clause-finds
returns-in-Err-clause-finds g c =
    record {
      core = as_finds (wide c.args.core.now) (wide c.trust_group.new.core) _ (g.S.Shelf.meaning c.args.shelf.now) (g.S.Shelf.meaning c.trust_group.new.shelf) refl refl refl c.trust_group.ensures.finds.core;
      settles = as_told (wide c.args.core.now) (wide c.trust_group.new.core) _ (g.S.Shelf.meaning c.args.shelf.now) (g.S.Shelf.meaning c.trust_group.new.shelf) refl refl c.trust_group.ensures.finds.settles;
      unsure = then_unsure c.args.core.now.inner.unsure c.trust_group.new.core.inner.unsure c.give_up.new.unsure c.trust_group.ensures.finds.unsure (error_unsure c.in-Err.error c.args.vol c.trust_group.new.core.inner.unsure c.give_up.new.unsure c.give_up.ensures.marks);
      free = c.trust_group.ensures.finds.free;
    }

pub returns-then-is_down-clause-trusts : goal.returns-then-is_down-clause-trusts
returns-then-is_down-clause-trusts g c = record { each = λ w log told. told }

pub returns-in-Ok-clause-trusts : goal.returns-in-Ok-clause-trusts
returns-in-Ok-clause-trusts g c = c.trust_group.ensures.logs

pub returns-in-Err-clause-trusts : goal.returns-in-Err-clause-trusts
returns-in-Err-clause-trusts g c = c.trust_group.ensures.logs

pub returns-in-Ok-clause-unsure : goal.returns-in-Ok-clause-unsure
returns-in-Ok-clause-unsure g c = c.trust_group.ensures.unsure

pub returns-in-Err-clause-unsure : goal.returns-in-Err-clause-unsure
returns-in-Err-clause-unsure g c = unsure_then c.args.vol c.args.core.now.inner.unsure c.trust_group.new.core.inner.unsure c.give_up.new.unsure c.in-Err.error c.trust_group.ensures.unsure c.give_up.ensures.marks

pub returns-in-Err-clause-misses : goal.returns-in-Err-clause-misses
returns-in-Err-clause-misses g c = misses_to c.trust_group.new.core.inner c.in-Err.error c.in-Err.ensures.misses

pub returns-in-Ok-clause-stands : goal.returns-in-Ok-clause-stands
returns-in-Ok-clause-stands g c = c.trust_group.ensures.stands

pub returns-in-Ok-clause-none : goal.returns-in-Ok-clause-none
returns-in-Ok-clause-none g c = c.trust_group.ensures.none

pub returns-in-Ok-clause-goes : goal.returns-in-Ok-clause-goes
returns-in-Ok-clause-goes g c = c.trust_group.ensures.goes

pub returns-in-Ok-clause-acts : goal.returns-in-Ok-clause-acts
returns-in-Ok-clause-acts g c = c.trust_group.ensures.acts

pub returns-in-Ok-clause-still : goal.returns-in-Ok-clause-still
returns-in-Ok-clause-still g c = c.trust_group.ensures.still

pub returns-in-Ok-clause-few : goal.returns-in-Ok-clause-few
returns-in-Ok-clause-few g c = c.in-Ok.ensures.few

pub returns-in-Ok-clause-trust : goal.returns-in-Ok-clause-trust
returns-in-Ok-clause-trust g c = c.in-Ok.ensures.trust

pub returns-in-Ok-clause-agreed : goal.returns-in-Ok-clause-agreed
returns-in-Ok-clause-agreed g c = tt

pub returns-in-Ok-clause-misses : goal.returns-in-Ok-clause-misses
returns-in-Ok-clause-misses g c = tt

pub returns-in-Err-clause-none : goal.returns-in-Err-clause-none
returns-in-Err-clause-none g c = c.trust_group.ensures.none

pub returns-in-Err-clause-few : goal.returns-in-Err-clause-few
returns-in-Err-clause-few g c = tt

pub returns-in-Err-clause-trust : goal.returns-in-Err-clause-trust
returns-in-Err-clause-trust g c = tt

pub returns-in-Err-clause-agreed : goal.returns-in-Err-clause-agreed
returns-in-Err-clause-agreed g c = c.in-Err.ensures.agreed

pub returns-then-is_down-clause-stands : goal.returns-then-is_down-clause-stands
returns-then-is_down-clause-stands g c = c.requires.stands

pub returns-then-is_down-clause-none : goal.returns-then-is_down-clause-none
returns-then-is_down-clause-none g c = c.requires.none

pub returns-then-is_down-clause-few : goal.returns-then-is_down-clause-few
returns-then-is_down-clause-few g c = tt

pub returns-then-is_down-clause-trust : goal.returns-then-is_down-clause-trust
returns-then-is_down-clause-trust g c = tt

pub returns-then-is_down-clause-unsure : goal.returns-then-is_down-clause-unsure
returns-then-is_down-clause-unsure g c = refl

pub returns-then-is_down-clause-misses : goal.returns-then-is_down-clause-misses
returns-then-is_down-clause-misses g c = tt

pub returns-then-is_down-clause-cause : goal.returns-then-is_down-clause-cause
returns-then-is_down-clause-cause g c = sym c.is_down.ensures ∙ c.if-is_down.true

pub returns-in-Err-clause-stands : goal.returns-in-Err-clause-stands
returns-in-Err-clause-stands g c = let it = c.trust_group.ensures.stands in let s = it.stands in record { stands = record { wanted = s.wanted; serial = s.serial; disks = s.disks; rvg = s.rvg; few = s.few; small = s.small; large = s.large; on = s.on; some = s.some; kept = s.kept; tidy = s.tidy; trusts = s.trusts }; held = it.held }
