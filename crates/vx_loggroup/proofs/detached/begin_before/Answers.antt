-- `begin_before`: its clauses; what the calls ask.
use Rattle.std.proofs.Common.{◌≡◌, ◌∙◌, Err, false, refl, subst, sym, arith}
use Rattle.std.specs.Prelude.{None, Some}
use Rattle.vx_group.specs.Attaches.{region_count}
use Rattle.vx_group.specs.Dets.{DetStops}
use Rattle.vx_group.specs.Holding.{wide}
use Rattle.vx_group.specs.Stands.{inner_meaning}
use Rattle.vx_group.proofs.HoldLemmas.{wide_shape}
use Rattle.vx_group.proofs.LoseLemmas.{along_none}
use Rattle.vx_group.proofs.MendLemmas.{same_Goes}
use Rattle.vx_group.proofs.UnitLemmas.{same_units}
use Rattle.vx_model.specs.declared.errors.Stop.TheVariants.{No as Refused}
use Rattle.vx_loggroup.specs.LoggedVolumes.{LoggedStands}
use Rattle.vx_loggroup.proofs.DetFresh.{begins_may}
use Rattle.vx_loggroup.proofs.DetachedLogs.{active_low, det_cause}
use Rattle.vx_loggroup.proofs.FreshLemmas.{fresh_still, fresh_taken, lists_none, none_of}
use Rattle.vx_loggroup.proofs.NewLemmas.{list_same}
use Rattle.vx_group.proofs.FindingLemmas.{still_group}
use Rattle.vx_loggroup.proofs.KeepingLemmas.{stays_none}
use Rattle.vx_loggroup.proofs.KeepingCalls.{begins_stay}
use Rattle.vx_loggroup.specs.Keeping.{logs_at}
use Rattle.vx_loggroup.proofs.SureLemmas.{since_same}
use Rattle.vx_loggroup.proofs.detached.begin_before.Goals as goal

pub returns-then-is_some-clause-goes : goal.returns-then-is_some-clause-goes
returns-then-is_some-clause-goes g c = same_Goes (inner_meaning (wide c.args.core.now) (g.S.Shelf.meaning c.args.shelf.now))

pub returns-then-is_some-clause-loses : goal.returns-then-is_some-clause-loses
returns-then-is_some-clause-loses g c = along_none c.args.core.now.inner.config (g.S.Shelf.meaning c.args.shelf.now)

pub returns-then-is_some-clause-still : goal.returns-then-is_some-clause-still
returns-then-is_some-clause-still g c = λ w p. refl

pub returns-then-is_some-clause-below : goal.returns-then-is_some-clause-below
returns-then-is_some-clause-below g c = same_units (g.S.Shelf.meaning c.args.shelf.now)

pub returns-then-is_some-clause-first : goal.returns-then-is_some-clause-first
returns-then-is_some-clause-first g c = lists_none c.args.vol (region_count (wide c.args.core.now).config c.args.vol) c.args.logs.now.items

pub returns-then-core-clause-goes : goal.returns-then-core-clause-goes
returns-then-core-clause-goes g c = same_Goes (inner_meaning (wide c.args.core.now) (g.S.Shelf.meaning c.args.shelf.now))

pub returns-then-core-clause-loses : goal.returns-then-core-clause-loses
returns-then-core-clause-loses g c = along_none c.args.core.now.inner.config (g.S.Shelf.meaning c.args.shelf.now)

pub returns-then-core-clause-still : goal.returns-then-core-clause-still
returns-then-core-clause-still g c = λ w p. refl

pub returns-then-core-clause-below : goal.returns-then-core-clause-below
returns-then-core-clause-below g c = same_units (g.S.Shelf.meaning c.args.shelf.now)

pub returns-then-core-clause-first : goal.returns-then-core-clause-first
returns-then-core-clause-first g c = lists_none c.args.vol (region_count (wide c.args.core.now).config c.args.vol) c.args.logs.now.items

pub returns-then-not-is_active-clause-goes : goal.returns-then-not-is_active-clause-goes
returns-then-not-is_active-clause-goes g c = same_Goes (inner_meaning (wide c.args.core.now) (g.S.Shelf.meaning c.args.shelf.now))

pub returns-then-not-is_active-clause-loses : goal.returns-then-not-is_active-clause-loses
returns-then-not-is_active-clause-loses g c = along_none c.args.core.now.inner.config (g.S.Shelf.meaning c.args.shelf.now)

pub returns-then-not-is_active-clause-still : goal.returns-then-not-is_active-clause-still
returns-then-not-is_active-clause-still g c = λ w p. refl

pub returns-then-not-is_active-clause-below : goal.returns-then-not-is_active-clause-below
returns-then-not-is_active-clause-below g c = same_units (g.S.Shelf.meaning c.args.shelf.now)

pub returns-then-not-is_active-clause-first : goal.returns-then-not-is_active-clause-first
returns-then-not-is_active-clause-first g c = lists_none c.args.vol (region_count (wide c.args.core.now).config c.args.vol) c.args.logs.now.items

pub returns-then-not-takes_fresh-clause-goes : goal.returns-then-not-takes_fresh-clause-goes
returns-then-not-takes_fresh-clause-goes g c = same_Goes (inner_meaning (wide c.args.core.now) (g.S.Shelf.meaning c.args.shelf.now))

pub returns-then-not-takes_fresh-clause-loses : goal.returns-then-not-takes_fresh-clause-loses
returns-then-not-takes_fresh-clause-loses g c = along_none c.args.core.now.inner.config (g.S.Shelf.meaning c.args.shelf.now)

pub returns-then-not-takes_fresh-clause-still : goal.returns-then-not-takes_fresh-clause-still
returns-then-not-takes_fresh-clause-still g c = λ w p. refl

pub returns-then-not-takes_fresh-clause-below : goal.returns-then-not-takes_fresh-clause-below
returns-then-not-takes_fresh-clause-below g c = same_units (g.S.Shelf.meaning c.args.shelf.now)

pub returns-then-not-takes_fresh-clause-first : goal.returns-then-not-takes_fresh-clause-first
returns-then-not-takes_fresh-clause-first g c = lists_none c.args.vol (region_count (wide c.args.core.now).config c.args.vol) c.args.logs.now.items

pub returns-then-not-takes_fresh-clause-fresh : goal.returns-then-not-takes_fresh-clause-fresh
returns-then-not-takes_fresh-clause-fresh g c = fresh_taken c.args.vol c.args.core.now c.args.fresh.now c.takes_fresh.new.fresh (g.S.Shelf.meaning c.args.shelf.now) c.takes_fresh.ensures.here c.takes_fresh.ensures.others c.requires.fresh

pub takes_fresh-requires : goal.takes_fresh-requires
takes_fresh-requires g c = record { inside = let few = c.requires.stands.group.stands.few in let low = active_low c.args.core.now.inner.config c.args.vol c.args.plex (sym c.is_active.ensures ∙ c.if-not-is_active.false) in let same = (wide_shape c.args.core.now).volumes in omega (arith, few, low, same) }

pub begin_first-requires-clause-stands : goal.begin_first-requires-clause-stands
begin_first-requires-clause-stands g c = subst (λ s. LoggedStands c.args.core.now c.args.logs.now.items c.args.alike.now s (g.S.Shelf.meaning c.args.shelf.now)) (c.takes_fresh.ensures.going c.if-not-takes_fresh.false) c.requires.stands

pub begin_first-requires-clause-there : goal.begin_first-requires-clause-there
begin_first-requires-clause-there g c = let low = active_low c.args.core.now.inner.config c.args.vol c.args.plex (sym c.is_active.ensures ∙ c.if-not-is_active.false) in let same = (wide_shape c.args.core.now).volumes in omega (arith, low, same)

pub begin_first-requires-clause-same : goal.begin_first-requires-clause-same
begin_first-requires-clause-same g c = c.requires.fresh.each c.args.vol (c.takes_fresh.ensures.was c.if-not-takes_fresh.false)

pub returns-in-Ok-clause-stands : goal.returns-in-Ok-clause-stands
returns-in-Ok-clause-stands g c = subst (λ s. LoggedStands c.begin_first.new.core c.begin_first.new.logs.items c.args.alike.now s (g.S.Shelf.meaning c.begin_first.new.shelf)) (sym (c.takes_fresh.ensures.going c.if-not-takes_fresh.false)) c.begin_first.ensures.stands

pub returns-in-Ok-clause-fresh : goal.returns-in-Ok-clause-fresh
returns-in-Ok-clause-fresh g c = (fresh_still c.args.core.now c.begin_first.new.core c.takes_fresh.new.fresh (g.S.Shelf.meaning c.args.shelf.now) (g.S.Shelf.meaning c.begin_first.new.shelf) c.begin_first.ensures.begins.goes (fresh_taken c.args.vol c.args.core.now c.args.fresh.now c.takes_fresh.new.fresh (g.S.Shelf.meaning c.args.shelf.now) c.takes_fresh.ensures.here c.takes_fresh.ensures.others c.requires.fresh))

pub returns-in-Ok-clause-refused : goal.returns-in-Ok-clause-refused
returns-in-Ok-clause-refused g c = λ why is. absurd (let clash : None ≡ Some why = sym (sym c.refuse_det.ensures ∙ none_of c.refuse_det.result (sym c.is_some.ensures ∙ c.if-is_some.false)) ∙ is in cc)

pub returns-in-Err-clause-stands : goal.returns-in-Err-clause-stands
returns-in-Err-clause-stands g c = subst (λ s. LoggedStands c.begin_first.new.core c.begin_first.new.logs.items c.args.alike.now s (g.S.Shelf.meaning c.begin_first.new.shelf)) (sym (c.takes_fresh.ensures.going c.if-not-takes_fresh.false)) c.begin_first.ensures.stands

pub returns-in-Err-clause-fresh : goal.returns-in-Err-clause-fresh
returns-in-Err-clause-fresh g c = (fresh_still c.args.core.now c.begin_first.new.core c.takes_fresh.new.fresh (g.S.Shelf.meaning c.args.shelf.now) (g.S.Shelf.meaning c.begin_first.new.shelf) c.begin_first.ensures.begins.goes (fresh_taken c.args.vol c.args.core.now c.args.fresh.now c.takes_fresh.new.fresh (g.S.Shelf.meaning c.args.shelf.now) c.takes_fresh.ensures.here c.takes_fresh.ensures.others c.requires.fresh))

pub returns-in-Err-clause-refused : goal.returns-in-Err-clause-refused
returns-in-Err-clause-refused g c = λ why is. absurd (let clash : None ≡ Some why = sym (sym c.refuse_det.ensures ∙ none_of c.refuse_det.result (sym c.is_some.ensures ∙ c.if-is_some.false)) ∙ is in cc)

pub returns-in-Ok-clause-may : goal.returns-in-Ok-clause-may
returns-in-Ok-clause-may g c = λ may. begins_may c.args.vol c.args.plex c.args.core.now c.begin_first.new.core (g.S.Shelf.meaning c.args.shelf.now) (g.S.Shelf.meaning c.begin_first.new.shelf) c.begin_first.ensures.begins (let few = c.in-Ok.ensures.few in let room = c.if-core.false in omega (arith, few, room)) may

pub returns-in-Err-clause-cause : goal.returns-in-Err-clause-cause
returns-in-Err-clause-cause g c = subst (λ no. DetStops {T = Unit {0}} (g.S.Shelf.meaning c.args.shelf.now) (g.S.Shelf.meaning c.begin_first.new.shelf) (Err (Refused no))) (sym c.refusal.ensures) (det_cause (Unit {0}) (Unit {0}) (g.S.Shelf.meaning c.args.shelf.now) (g.S.Shelf.meaning c.args.shelf.now) (g.S.Shelf.meaning c.begin_first.new.shelf) c.args.vol (inner_meaning (wide c.args.core.now) (g.S.Shelf.meaning c.args.shelf.now)) (inner_meaning (wide c.begin_first.new.core) (g.S.Shelf.meaning c.begin_first.new.shelf)) refl refl refl (λ u. omega arith) c.in-Err.error c.in-Err.ensures.cause)

pub returns-then-is_some-clause-finds : goal.returns-then-is_some-clause-finds
returns-then-is_some-clause-finds g c =
    still_group c.args.core.now (g.S.Shelf.meaning c.args.shelf.now)

pub returns-then-core-clause-finds : goal.returns-then-core-clause-finds
returns-then-core-clause-finds g c =
    still_group c.args.core.now (g.S.Shelf.meaning c.args.shelf.now)

pub returns-then-not-is_active-clause-finds : goal.returns-then-not-is_active-clause-finds
returns-then-not-is_active-clause-finds g c =
    still_group c.args.core.now (g.S.Shelf.meaning c.args.shelf.now)

pub returns-then-not-takes_fresh-clause-finds : goal.returns-then-not-takes_fresh-clause-finds
returns-then-not-takes_fresh-clause-finds g c =
    still_group c.args.core.now (g.S.Shelf.meaning c.args.shelf.now)

pub returns-in-Ok-clause-finds : goal.returns-in-Ok-clause-finds
returns-in-Ok-clause-finds g c =
    c.begin_first.ensures.begins.finds

pub returns-in-Err-clause-finds : goal.returns-in-Err-clause-finds
returns-in-Err-clause-finds g c =
    c.begin_first.ensures.begins.finds

pub returns-then-is_some-clause-stays : goal.returns-then-is_some-clause-stays
returns-then-is_some-clause-stays g c = stays_none c.args.core.now.inner.config c.args.logs.now.items (g.S.Shelf.meaning c.args.shelf.now) (g.S.Shelf.meaning c.args.shelf.now)

pub returns-then-core-clause-stays : goal.returns-then-core-clause-stays
returns-then-core-clause-stays g c = stays_none c.args.core.now.inner.config c.args.logs.now.items (g.S.Shelf.meaning c.args.shelf.now) (g.S.Shelf.meaning c.args.shelf.now)

pub returns-then-not-is_active-clause-stays : goal.returns-then-not-is_active-clause-stays
returns-then-not-is_active-clause-stays g c = stays_none c.args.core.now.inner.config c.args.logs.now.items (g.S.Shelf.meaning c.args.shelf.now) (g.S.Shelf.meaning c.args.shelf.now)

pub returns-then-not-takes_fresh-clause-stays : goal.returns-then-not-takes_fresh-clause-stays
returns-then-not-takes_fresh-clause-stays g c = stays_none c.args.core.now.inner.config c.args.logs.now.items (g.S.Shelf.meaning c.args.shelf.now) (g.S.Shelf.meaning c.args.shelf.now)

pub returns-in-Ok-clause-stays : goal.returns-in-Ok-clause-stays
returns-in-Ok-clause-stays g c = begins_stay c.args.vol (region_count (wide c.args.core.now).config c.args.vol) c.args.core.now c.begin_first.new.core c.args.logs.now.items c.begin_first.new.logs.items (g.S.Shelf.meaning c.args.shelf.now) (g.S.Shelf.meaning c.begin_first.new.shelf) c.begin_first.ensures.begins c.begin_first.ensures.first

pub returns-in-Err-clause-stays : goal.returns-in-Err-clause-stays
returns-in-Err-clause-stays g c = begins_stay c.args.vol (region_count (wide c.args.core.now).config c.args.vol) c.args.core.now c.begin_first.new.core c.args.logs.now.items c.begin_first.new.logs.items (g.S.Shelf.meaning c.args.shelf.now) (g.S.Shelf.meaning c.begin_first.new.shelf) c.begin_first.ensures.begins c.begin_first.ensures.first

pub returns-then-is_some-clause-news : goal.returns-then-is_some-clause-news
returns-then-is_some-clause-news g c = list_same c.args.core.now.inner.config c.args.vol c.args.logs.now.items

pub returns-then-is_some-clause-trusts : goal.returns-then-is_some-clause-trusts
returns-then-is_some-clause-trusts g c = record { each = λ w log told. told }

pub returns-then-core-clause-news : goal.returns-then-core-clause-news
returns-then-core-clause-news g c = list_same c.args.core.now.inner.config c.args.vol c.args.logs.now.items

pub returns-then-core-clause-trusts : goal.returns-then-core-clause-trusts
returns-then-core-clause-trusts g c = record { each = λ w log told. told }

pub returns-then-not-is_active-clause-news : goal.returns-then-not-is_active-clause-news
returns-then-not-is_active-clause-news g c = list_same c.args.core.now.inner.config c.args.vol c.args.logs.now.items

pub returns-then-not-is_active-clause-trusts : goal.returns-then-not-is_active-clause-trusts
returns-then-not-is_active-clause-trusts g c = record { each = λ w log told. told }

pub returns-then-not-takes_fresh-clause-news : goal.returns-then-not-takes_fresh-clause-news
returns-then-not-takes_fresh-clause-news g c = list_same c.args.core.now.inner.config c.args.vol c.args.logs.now.items

pub returns-then-not-takes_fresh-clause-trusts : goal.returns-then-not-takes_fresh-clause-trusts
returns-then-not-takes_fresh-clause-trusts g c = record { each = λ w log told. told }

pub returns-in-Ok-clause-news : goal.returns-in-Ok-clause-news
returns-in-Ok-clause-news g c = c.begin_first.ensures.news

pub returns-in-Ok-clause-trusts : goal.returns-in-Ok-clause-trusts
returns-in-Ok-clause-trusts g c = c.begin_first.ensures.begins.trusts

pub returns-in-Err-clause-news : goal.returns-in-Err-clause-news
returns-in-Err-clause-news g c = c.begin_first.ensures.news

pub returns-in-Err-clause-trusts : goal.returns-in-Err-clause-trusts
returns-in-Err-clause-trusts g c = c.begin_first.ensures.begins.trusts

pub returns-then-is_some-clause-since : goal.returns-then-is_some-clause-since
returns-then-is_some-clause-since g c = since_same c.args.vol (logs_at c.args.logs.now.items c.args.vol) c.args.core.now

pub returns-then-core-clause-since : goal.returns-then-core-clause-since
returns-then-core-clause-since g c = since_same c.args.vol (logs_at c.args.logs.now.items c.args.vol) c.args.core.now

pub returns-then-not-is_active-clause-since : goal.returns-then-not-is_active-clause-since
returns-then-not-is_active-clause-since g c = since_same c.args.vol (logs_at c.args.logs.now.items c.args.vol) c.args.core.now

pub returns-then-not-takes_fresh-clause-since : goal.returns-then-not-takes_fresh-clause-since
returns-then-not-takes_fresh-clause-since g c = since_same c.args.vol (logs_at c.args.logs.now.items c.args.vol) c.args.core.now

pub returns-in-Ok-clause-since : goal.returns-in-Ok-clause-since
returns-in-Ok-clause-since g c = c.begin_first.ensures.since

pub returns-in-Err-clause-since : goal.returns-in-Err-clause-since
returns-in-Err-clause-since g c = c.begin_first.ensures.since

pub returns-in-Ok-clause-first : goal.returns-in-Ok-clause-first
returns-in-Ok-clause-first g c = c.begin_first.ensures.first

pub returns-in-Ok-clause-trust : goal.returns-in-Ok-clause-trust
returns-in-Ok-clause-trust g c = c.in-Ok.ensures.trust

pub returns-in-Ok-clause-agreed : goal.returns-in-Ok-clause-agreed
returns-in-Ok-clause-agreed g c = tt

pub returns-in-Err-clause-first : goal.returns-in-Err-clause-first
returns-in-Err-clause-first g c = c.begin_first.ensures.first

pub returns-in-Err-clause-trust : goal.returns-in-Err-clause-trust
returns-in-Err-clause-trust g c = tt

pub returns-in-Err-clause-agreed : goal.returns-in-Err-clause-agreed
returns-in-Err-clause-agreed g c = c.in-Err.ensures.agreed

pub returns-in-Err-clause-may : goal.returns-in-Err-clause-may
returns-in-Err-clause-may g c = λ none. tt

pub returns-in-Ok-clause-cause : goal.returns-in-Ok-clause-cause
returns-in-Ok-clause-cause g c = tt

pub returns-then-core-clause-stands : goal.returns-then-core-clause-stands
returns-then-core-clause-stands g c = c.requires.stands

pub returns-then-core-clause-fresh : goal.returns-then-core-clause-fresh
returns-then-core-clause-fresh g c = c.requires.fresh

pub returns-then-core-clause-trust : goal.returns-then-core-clause-trust
returns-then-core-clause-trust g c = λ is. is

pub returns-then-core-clause-agreed : goal.returns-then-core-clause-agreed
returns-then-core-clause-agreed g c = tt

pub returns-then-core-clause-cause : goal.returns-then-core-clause-cause
returns-then-core-clause-cause g c = tt

pub returns-then-core-clause-may : goal.returns-then-core-clause-may
returns-then-core-clause-may g c = λ none. none

pub returns-then-core-clause-refused : goal.returns-then-core-clause-refused
returns-then-core-clause-refused g c = λ no is. (refl, refl, refl, refl)

pub returns-then-is_some-clause-stands : goal.returns-then-is_some-clause-stands
returns-then-is_some-clause-stands g c = c.requires.stands

pub returns-then-is_some-clause-fresh : goal.returns-then-is_some-clause-fresh
returns-then-is_some-clause-fresh g c = c.requires.fresh

pub returns-then-is_some-clause-trust : goal.returns-then-is_some-clause-trust
returns-then-is_some-clause-trust g c = λ is. is

pub returns-then-is_some-clause-agreed : goal.returns-then-is_some-clause-agreed
returns-then-is_some-clause-agreed g c = tt

pub returns-then-is_some-clause-cause : goal.returns-then-is_some-clause-cause
returns-then-is_some-clause-cause g c = tt

pub returns-then-is_some-clause-may : goal.returns-then-is_some-clause-may
returns-then-is_some-clause-may g c = λ none. none

pub returns-then-is_some-clause-refused : goal.returns-then-is_some-clause-refused
returns-then-is_some-clause-refused g c = λ no is. (refl, refl, refl, refl)

pub returns-then-not-is_active-clause-stands : goal.returns-then-not-is_active-clause-stands
returns-then-not-is_active-clause-stands g c = c.requires.stands

pub returns-then-not-is_active-clause-fresh : goal.returns-then-not-is_active-clause-fresh
returns-then-not-is_active-clause-fresh g c = c.requires.fresh

pub returns-then-not-is_active-clause-trust : goal.returns-then-not-is_active-clause-trust
returns-then-not-is_active-clause-trust g c = λ is. is

pub returns-then-not-is_active-clause-agreed : goal.returns-then-not-is_active-clause-agreed
returns-then-not-is_active-clause-agreed g c = tt

pub returns-then-not-is_active-clause-cause : goal.returns-then-not-is_active-clause-cause
returns-then-not-is_active-clause-cause g c = tt

pub returns-then-not-is_active-clause-may : goal.returns-then-not-is_active-clause-may
returns-then-not-is_active-clause-may g c = λ none. none

pub returns-then-not-is_active-clause-refused : goal.returns-then-not-is_active-clause-refused
returns-then-not-is_active-clause-refused g c = λ no is. (refl, refl, refl, refl)

pub returns-then-not-takes_fresh-clause-stands : goal.returns-then-not-takes_fresh-clause-stands
returns-then-not-takes_fresh-clause-stands g c = c.requires.stands

pub returns-then-not-takes_fresh-clause-trust : goal.returns-then-not-takes_fresh-clause-trust
returns-then-not-takes_fresh-clause-trust g c = λ is. is

pub returns-then-not-takes_fresh-clause-agreed : goal.returns-then-not-takes_fresh-clause-agreed
returns-then-not-takes_fresh-clause-agreed g c = tt

pub returns-then-not-takes_fresh-clause-cause : goal.returns-then-not-takes_fresh-clause-cause
returns-then-not-takes_fresh-clause-cause g c = tt

pub returns-then-not-takes_fresh-clause-may : goal.returns-then-not-takes_fresh-clause-may
returns-then-not-takes_fresh-clause-may g c = λ none. none

pub returns-then-not-takes_fresh-clause-refused : goal.returns-then-not-takes_fresh-clause-refused
returns-then-not-takes_fresh-clause-refused g c = λ no is. (refl, refl, refl, refl)

pub returns-in-Ok-clause-goes : goal.returns-in-Ok-clause-goes
returns-in-Ok-clause-goes g c = c.begin_first.ensures.begins.goes

pub returns-in-Ok-clause-loses : goal.returns-in-Ok-clause-loses
returns-in-Ok-clause-loses g c = c.begin_first.ensures.begins.loses

pub returns-in-Ok-clause-still : goal.returns-in-Ok-clause-still
returns-in-Ok-clause-still g c = c.begin_first.ensures.begins.still

pub returns-in-Ok-clause-below : goal.returns-in-Ok-clause-below
returns-in-Ok-clause-below g c = c.begin_first.ensures.begins.units

pub returns-in-Err-clause-goes : goal.returns-in-Err-clause-goes
returns-in-Err-clause-goes g c = c.begin_first.ensures.begins.goes

pub returns-in-Err-clause-loses : goal.returns-in-Err-clause-loses
returns-in-Err-clause-loses g c = c.begin_first.ensures.begins.loses

pub returns-in-Err-clause-still : goal.returns-in-Err-clause-still
returns-in-Err-clause-still g c = c.begin_first.ensures.begins.still

pub returns-in-Err-clause-below : goal.returns-in-Err-clause-below
returns-in-Err-clause-below g c = c.begin_first.ensures.begins.units
