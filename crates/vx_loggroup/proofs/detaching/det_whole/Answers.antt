-- `det_whole`: its clauses; what the calls ask.
use Rattle.std.proofs.Common.{◌≡◌, ◌∙◌, inl, inr, false, true, refl, sym, arith}
use Rattle.std.specs.Prelude.{None, Some}
use Rattle.vx_disk.specs.Shelf.{Nothing}
use Rattle.vx_disk.proofs.Runs.{then_nothing}
use Rattle.vx_group.specs.Holding.{wide}
use Rattle.vx_group.specs.Stands.{inner_meaning}
use Rattle.vx_group.proofs.DetLemmas.{may_margin, may_serial}
use Rattle.vx_group.proofs.FailingLemmas.{no_failing, then_failing}
use Rattle.vx_group.proofs.FindingLemmas.{still_group, then_group}
use Rattle.vx_group.proofs.HoldLemmas.{det_other}
use Rattle.vx_group.proofs.LoseLemmas.{none_parts, then_parts}
use Rattle.vx_group.proofs.MendLemmas.{same_Goes}
use Rattle.vx_group.proofs.RegainLemmas.{all_holds}
use Rattle.vx_group.proofs.TrustLemmas.{err_from, ok_from}
use Rattle.vx_group.proofs.UnitLemmas.{same_units, then_units}
use Rattle.vx_kept.proofs.Chosen.{active_volumes}
use Rattle.vx_logged.proofs.StandLemmas.{narrowed_same}
use Rattle.vx_loggroup.specs.Keeping.{logs_at}
use Rattle.vx_loggroup.proofs.AlikeLemmas.{all_whole}
use Rattle.vx_loggroup.proofs.DetachedLogs.{begin_none, det_later}
use Rattle.vx_loggroup.proofs.KeepingLemmas.{frames_places, shape_places, stay_keeps, stays_none, stays_same, then_stays}
use Rattle.vx_loggroup.proofs.SureLemmas.{later_sure, narrow_kept, said_later}
use Rattle.vx_loggroup.proofs.detaching.det_whole.Goals as goal

pub begin_early-requires-clause-stands : goal.begin_early-requires-clause-stands
begin_early-requires-clause-stands g c = c.requires.stands

pub begin_early-requires-clause-is_on : goal.begin_early-requires-clause-is_on
begin_early-requires-clause-is_on g c = sym c.is_active.ensures ∙ c.if-not-is_active.false

pub begin_early-requires-clause-more : goal.begin_early-requires-clause-more
begin_early-requires-clause-more g c = may_serial c.args.core.now.inner.config c.args.vol c.args.plex (sym c.refuse_det.ensures ∙ c.in_default.is)

pub det_beside-requires-clause-stands : goal.det_beside-requires-clause-stands
det_beside-requires-clause-stands g c = c.begin_early.ensures.stands.group

pub det_beside-requires-clause-none : goal.det_beside-requires-clause-none
det_beside-requires-clause-none g c = c.in-Ok.ensures.free

pub det_beside-requires-clause-is_on : goal.det_beside-requires-clause-is_on
det_beside-requires-clause-is_on g c = c.begin_early.ensures.still c.args.vol c.args.plex ∙ sym c.is_active.ensures ∙ c.if-not-is_active.false

pub det_beside-requires-clause-other : goal.det_beside-requires-clause-other
det_beside-requires-clause-other g c = let it = det_other c.args.core.now.inner.config c.args.core.now.inner.config c.args.vol c.args.plex refl (sym c.refuse_det.ensures ∙ c.in_default.is) (sym c.is_active.ensures ∙ c.if-not-is_active.false) in record { plex = it.plex; is_on = c.begin_early.ensures.still c.args.vol it.plex ∙ it.is_on; apart = it.apart }

pub det_beside-requires-clause-more : goal.det_beside-requires-clause-more
det_beside-requires-clause-more g c = let few = c.in-Ok.ensures.few in let low = may_margin c.args.core.now.inner.config c.args.vol c.args.plex (sym c.refuse_det.ensures ∙ c.in_default.is) in omega (arith, few, low)

pub returns-in-Some-clause-stands : goal.returns-in-Some-clause-stands
returns-in-Some-clause-stands g c = c.requires.stands

pub returns-then-not-is_active-clause-stands : goal.returns-then-not-is_active-clause-stands
returns-then-not-is_active-clause-stands g c = c.requires.stands

pub returns-in-Err-clause-stands : goal.returns-in-Err-clause-stands
returns-in-Err-clause-stands g c = c.begin_early.ensures.stands

pub returns-clause-stands : goal.returns-clause-stands
returns-clause-stands g c = all_whole c.begin_early.new.core c.det_beside.new.core c.begin_early.new.logs.items c.args.alike.now c.args.stopped (g.S.Shelf.meaning c.begin_early.new.shelf) (g.S.Shelf.meaning c.det_beside.new.shelf) c.begin_early.ensures.stands c.det_beside.ensures.stands c.det_beside.ensures.goes c.det_beside.ensures.logs

pub returns-then-not-is_active-clause-refused : goal.returns-then-not-is_active-clause-refused
returns-then-not-is_active-clause-refused g c = λ why is. absurd (let clash : None ≡ Some why = sym (sym c.refuse_det.ensures ∙ c.in_default.is) ∙ is in cc)

pub returns-in-Err-clause-refused : goal.returns-in-Err-clause-refused
returns-in-Err-clause-refused g c = λ why is. absurd (let clash : None ≡ Some why = sym (sym c.refuse_det.ensures ∙ c.in_default.is) ∙ is in cc)

pub returns-clause-refused : goal.returns-clause-refused
returns-clause-refused g c = λ why is. absurd (let clash : None ≡ Some why = sym (sym c.refuse_det.ensures ∙ c.in_default.is) ∙ is in cc)

pub returns-in-Some-clause-goes : goal.returns-in-Some-clause-goes
returns-in-Some-clause-goes g c = same_Goes (inner_meaning (wide c.args.core.now) (g.S.Shelf.meaning c.args.shelf.now))

pub returns-then-not-is_active-clause-goes : goal.returns-then-not-is_active-clause-goes
returns-then-not-is_active-clause-goes g c = same_Goes (inner_meaning (wide c.args.core.now) (g.S.Shelf.meaning c.args.shelf.now))

pub returns-in-Err-clause-goes : goal.returns-in-Err-clause-goes
returns-in-Err-clause-goes g c = c.begin_early.ensures.goes

pub returns-clause-goes : goal.returns-clause-goes
returns-clause-goes g c = then_nothing Nothing (inner_meaning (wide c.args.core.now) (g.S.Shelf.meaning c.args.shelf.now)) (inner_meaning (wide c.begin_early.new.core) (g.S.Shelf.meaning c.begin_early.new.shelf)) (inner_meaning (wide c.det_beside.new.core) (g.S.Shelf.meaning c.det_beside.new.shelf)) c.begin_early.ensures.goes c.det_beside.ensures.goes

pub returns-in-Some-clause-parts : goal.returns-in-Some-clause-parts
returns-in-Some-clause-parts g c = none_parts c.args.core.now.inner.config

pub returns-then-not-is_active-clause-parts : goal.returns-then-not-is_active-clause-parts
returns-then-not-is_active-clause-parts g c = none_parts c.args.core.now.inner.config

pub returns-in-Err-clause-parts : goal.returns-in-Err-clause-parts
returns-in-Err-clause-parts g c = c.begin_early.ensures.loses.loses.parts

pub returns-clause-parts : goal.returns-clause-parts
returns-clause-parts g c = then_parts c.args.core.now.inner.config c.begin_early.new.core.inner.config c.det_beside.new.core.inner.config c.begin_early.ensures.loses.loses.parts c.det_beside.ensures.parts

pub returns-in-Some-clause-disks : goal.returns-in-Some-clause-disks
returns-in-Some-clause-disks g c = no_failing (g.S.Shelf.meaning c.args.shelf.now) (g.S.Shelf.meaning c.args.shelf.now) c.args.core.now.inner.config.disks c.args.core.now.inner.config.disks refl

pub returns-then-not-is_active-clause-disks : goal.returns-then-not-is_active-clause-disks
returns-then-not-is_active-clause-disks g c = no_failing (g.S.Shelf.meaning c.args.shelf.now) (g.S.Shelf.meaning c.args.shelf.now) c.args.core.now.inner.config.disks c.args.core.now.inner.config.disks refl

pub returns-in-Err-clause-disks : goal.returns-in-Err-clause-disks
returns-in-Err-clause-disks g c = c.begin_early.ensures.loses.loses.disks

pub returns-clause-disks : goal.returns-clause-disks
returns-clause-disks g c = then_failing (g.S.Shelf.meaning c.args.shelf.now) (g.S.Shelf.meaning c.begin_early.new.shelf) (g.S.Shelf.meaning c.det_beside.new.shelf) c.begin_early.ensures.loses.rises c.det_beside.ensures.narrows.acts.faults c.args.core.now.inner.config.disks c.begin_early.new.core.inner.config.disks c.det_beside.new.core.inner.config.disks c.begin_early.ensures.loses.loses.disks c.det_beside.ensures.disks

pub returns-in-Some-clause-frames : goal.returns-in-Some-clause-frames
returns-in-Some-clause-frames g c = λ v. refl

pub returns-then-not-is_active-clause-frames : goal.returns-then-not-is_active-clause-frames
returns-then-not-is_active-clause-frames g c = λ v. refl

pub returns-in-Err-clause-frames : goal.returns-in-Err-clause-frames
returns-in-Err-clause-frames g c = c.begin_early.ensures.loses.loses.frames

pub returns-clause-frames : goal.returns-clause-frames
returns-clause-frames g c = λ v. c.det_beside.ensures.narrows.shape.frames v ∙ c.begin_early.ensures.loses.loses.frames v

pub returns-in-Some-clause-below : goal.returns-in-Some-clause-below
returns-in-Some-clause-below g c = same_units (g.S.Shelf.meaning c.args.shelf.now)

pub returns-then-not-is_active-clause-below : goal.returns-then-not-is_active-clause-below
returns-then-not-is_active-clause-below g c = same_units (g.S.Shelf.meaning c.args.shelf.now)

pub returns-in-Err-clause-below : goal.returns-in-Err-clause-below
returns-in-Err-clause-below g c = c.begin_early.ensures.below

pub returns-clause-below : goal.returns-clause-below
returns-clause-below g c = then_units (g.S.Shelf.meaning c.args.shelf.now) (g.S.Shelf.meaning c.begin_early.new.shelf) (g.S.Shelf.meaning c.det_beside.new.shelf) c.begin_early.ensures.below c.det_beside.ensures.below

pub returns-in-Some-clause-rises : goal.returns-in-Some-clause-rises
returns-in-Some-clause-rises g c = λ u. omega arith

pub returns-then-not-is_active-clause-rises : goal.returns-then-not-is_active-clause-rises
returns-then-not-is_active-clause-rises g c = λ u. omega arith

pub returns-in-Err-clause-rises : goal.returns-in-Err-clause-rises
returns-in-Err-clause-rises g c = c.begin_early.ensures.loses.rises

pub returns-clause-rises : goal.returns-clause-rises
returns-clause-rises g c = λ u. let one = c.begin_early.ensures.loses.rises u in let two = c.det_beside.ensures.narrows.acts.faults u in omega (arith, one, two)

pub returns-in-Some-clause-on : goal.returns-in-Some-clause-on
returns-in-Some-clause-on g c = λ v p is. is

pub returns-then-not-is_active-clause-on : goal.returns-then-not-is_active-clause-on
returns-then-not-is_active-clause-on g c = λ v p is. is

pub returns-in-Err-clause-on : goal.returns-in-Err-clause-on
returns-in-Err-clause-on g c = λ v p is. sym (c.begin_early.ensures.still v p) ∙ is

pub returns-clause-on : goal.returns-clause-on
returns-clause-on g c = λ v p is. sym (c.begin_early.ensures.still v p) ∙ c.det_beside.ensures.narrows.on v p is

pub returns-then-not-is_active-clause-begins : goal.returns-then-not-is_active-clause-begins
returns-then-not-is_active-clause-begins g c = λ going none same on. absurd (let clash : false ≡ true = sym c.if-not-is_active.true ∙ c.is_active.ensures ∙ on in cc)

pub returns-clause-begins : goal.returns-clause-begins
returns-clause-begins g c = all_holds c.det_beside.result (λ going none same on. c.in-Ok.ensures.begins going same)

pub returns-then-not-is_active-clause-off : goal.returns-then-not-is_active-clause-off
returns-then-not-is_active-clause-off g c = sym c.is_active.ensures ∙ c.if-not-is_active.true

pub returns-clause-off : goal.returns-clause-off
returns-clause-off g c = c.det_beside.ensures.off

pub returns-in-Some-clause-stays : goal.returns-in-Some-clause-stays
returns-in-Some-clause-stays g c = inr refl

pub returns-in-Err-clause-stays : goal.returns-in-Err-clause-stays
returns-in-Err-clause-stays g c = inr (c.begin_early.ensures.still c.args.vol c.args.plex)

pub returns-clause-stays : goal.returns-clause-stays
returns-clause-stays g c = err_from c.det_beside.result (λ either. elim either [ inl down ↦ inl down | inr same ↦ inr (active_volumes c.det_beside.new.core.inner.config c.begin_early.new.core.inner.config same c.args.vol c.args.plex ∙ c.begin_early.ensures.still c.args.vol c.args.plex) ]) c.det_beside.ensures.stays

pub returns-then-not-is_active-clause-kept : goal.returns-then-not-is_active-clause-kept
returns-then-not-is_active-clause-kept g c = narrow_kept c.args.core.now c.args.core.now c.args.logs.now.items (narrowed_same c.args.core.now)

pub returns-clause-kept : goal.returns-clause-kept
returns-clause-kept g c = all_holds c.det_beside.result (later_sure c.args.core.now c.begin_early.new.core c.det_beside.new.core c.args.logs.now.items c.begin_early.new.logs.items (let few = c.in-Ok.ensures.few in let low = may_margin c.args.core.now.inner.config c.args.vol c.args.plex (sym c.refuse_det.ensures ∙ c.in_default.is) in omega (arith, few, low)) c.det_beside.ensures.narrow c.in-Ok.ensures.kept)

pub returns-in-Some-clause-said : goal.returns-in-Some-clause-said
returns-in-Some-clause-said g c = λ on going same. tt

pub returns-then-not-is_active-clause-said : goal.returns-then-not-is_active-clause-said
returns-then-not-is_active-clause-said g c = λ on going same. absurd (let clash : false ≡ true = sym c.if-not-is_active.true ∙ c.is_active.ensures ∙ on in cc)

pub returns-in-Err-clause-said : goal.returns-in-Err-clause-said
returns-in-Err-clause-said g c = λ on going same. tt

pub returns-clause-said : goal.returns-clause-said
returns-clause-said g c = λ on going same. all_holds c.det_beside.result (said_later c.begin_early.new.core c.det_beside.new.core c.args.vol (logs_at c.begin_early.new.logs.items c.args.vol) (let few = c.in-Ok.ensures.few in let low = may_margin c.args.core.now.inner.config c.args.vol c.args.plex (sym c.refuse_det.ensures ∙ c.in_default.is) in omega (arith, few, low)) c.det_beside.ensures.narrow (c.in-Ok.ensures.said going same))

pub returns-in-Some-clause-others : goal.returns-in-Some-clause-others
returns-in-Some-clause-others g c = λ w p apart. refl

pub returns-then-not-is_active-clause-others : goal.returns-then-not-is_active-clause-others
returns-then-not-is_active-clause-others g c = λ w p apart. refl

pub returns-in-Err-clause-others : goal.returns-in-Err-clause-others
returns-in-Err-clause-others g c = λ w p apart. c.begin_early.ensures.still w p

pub returns-clause-others : goal.returns-clause-others
returns-clause-others g c = λ w p apart. c.det_beside.ensures.others w p apart ∙ c.begin_early.ensures.still w p

pub returns-in-Some-clause-maps : goal.returns-in-Some-clause-maps
returns-in-Some-clause-maps g c = begin_none c.args.vol c.args.plex c.args.logs.now.items

pub returns-then-not-is_active-clause-maps : goal.returns-then-not-is_active-clause-maps
returns-then-not-is_active-clause-maps g c = begin_none c.args.vol c.args.plex c.args.logs.now.items

pub returns-in-Err-clause-maps : goal.returns-in-Err-clause-maps
returns-in-Err-clause-maps g c = c.begin_early.ensures.maps

pub returns-clause-maps : goal.returns-clause-maps
returns-clause-maps g c = c.begin_early.ensures.maps

pub returns-in-Some-clause-same : goal.returns-in-Some-clause-same
returns-in-Some-clause-same g c = λ off. refl

pub returns-then-not-is_active-clause-same : goal.returns-then-not-is_active-clause-same
returns-then-not-is_active-clause-same g c = λ off. refl

pub returns-in-Err-clause-same : goal.returns-in-Err-clause-same
returns-in-Err-clause-same g c = λ off. absurd (let clash : false ≡ true = sym off ∙ sym c.is_active.ensures ∙ c.if-not-is_active.false in cc)

pub returns-clause-same : goal.returns-clause-same
returns-clause-same g c = λ off. absurd (let clash : false ≡ true = sym off ∙ sym c.is_active.ensures ∙ c.if-not-is_active.false in cc)

pub returns-in-Some-clause-free : goal.returns-in-Some-clause-free
returns-in-Some-clause-free g c = λ on. tt

pub returns-then-not-is_active-clause-free : goal.returns-then-not-is_active-clause-free
returns-then-not-is_active-clause-free g c = λ on. absurd (let clash : false ≡ true = sym c.if-not-is_active.true ∙ c.is_active.ensures ∙ on in cc)

pub returns-in-Err-clause-free : goal.returns-in-Err-clause-free
returns-in-Err-clause-free g c = λ on. tt

pub returns-clause-free : goal.returns-clause-free
returns-clause-free g c = λ on. all_holds c.det_beside.result c.det_beside.ensures.free

pub returns-in-Some-clause-trusts : goal.returns-in-Some-clause-trusts
returns-in-Some-clause-trusts g c = record { each = λ w log has told. told }

pub returns-then-not-is_active-clause-trusts : goal.returns-then-not-is_active-clause-trusts
returns-then-not-is_active-clause-trusts g c = record { each = λ w log has told. told }

pub returns-in-Err-clause-trusts : goal.returns-in-Err-clause-trusts
returns-in-Err-clause-trusts g c = c.begin_early.ensures.trusts

pub returns-clause-trusts : goal.returns-clause-trusts
returns-clause-trusts g c = record { each = λ w log has told. c.det_beside.ensures.trusts.each w log (c.begin_early.ensures.trusts.each w log has told) }

pub returns-in-Some-clause-keeps : goal.returns-in-Some-clause-keeps
returns-in-Some-clause-keeps g c = stay_keeps c.args.core.now c.args.core.now c.args.logs.now.items c.args.logs.now.items (g.S.Shelf.meaning c.args.shelf.now) (g.S.Shelf.meaning c.args.shelf.now) (stays_none c.args.core.now.inner.config c.args.logs.now.items (g.S.Shelf.meaning c.args.shelf.now) (g.S.Shelf.meaning c.args.shelf.now))

pub returns-then-not-is_active-clause-keeps : goal.returns-then-not-is_active-clause-keeps
returns-then-not-is_active-clause-keeps g c = stay_keeps c.args.core.now c.args.core.now c.args.logs.now.items c.args.logs.now.items (g.S.Shelf.meaning c.args.shelf.now) (g.S.Shelf.meaning c.args.shelf.now) (stays_none c.args.core.now.inner.config c.args.logs.now.items (g.S.Shelf.meaning c.args.shelf.now) (g.S.Shelf.meaning c.args.shelf.now))

pub returns-in-Err-clause-keeps : goal.returns-in-Err-clause-keeps
returns-in-Err-clause-keeps g c = stay_keeps c.args.core.now c.begin_early.new.core c.args.logs.now.items c.begin_early.new.logs.items (g.S.Shelf.meaning c.args.shelf.now) (g.S.Shelf.meaning c.begin_early.new.shelf) c.begin_early.ensures.stays

pub returns-clause-keeps : goal.returns-clause-keeps
returns-clause-keeps g c = stay_keeps c.args.core.now c.det_beside.new.core c.args.logs.now.items c.begin_early.new.logs.items (g.S.Shelf.meaning c.args.shelf.now) (g.S.Shelf.meaning c.det_beside.new.shelf)
    (then_stays c.args.core.now.inner.config c.begin_early.new.core.inner.config c.det_beside.new.core.inner.config c.args.logs.now.items c.begin_early.new.logs.items c.begin_early.new.logs.items (g.S.Shelf.meaning c.args.shelf.now) (g.S.Shelf.meaning c.begin_early.new.shelf) (g.S.Shelf.meaning c.det_beside.new.shelf) (frames_places c.args.core.now.inner.config c.begin_early.new.core.inner.config c.begin_early.ensures.loses.loses.frames) c.begin_early.ensures.loses.rises c.det_beside.ensures.narrows.acts.faults c.det_beside.ensures.goes.falls c.begin_early.ensures.stays
    (stays_same c.begin_early.new.core.inner.config c.det_beside.new.core.inner.config c.begin_early.new.logs.items (g.S.Shelf.meaning c.begin_early.new.shelf) (g.S.Shelf.meaning c.det_beside.new.shelf) (shape_places c.begin_early.new.core.inner.config c.det_beside.new.core.inner.config c.det_beside.ensures.narrows.shape) c.det_beside.ensures.disks.blamed c.det_beside.ensures.trusts))

pub returns-then-not-is_active-clause-trust : goal.returns-then-not-is_active-clause-trust
returns-then-not-is_active-clause-trust g c = λ is. is

pub returns-clause-trust : goal.returns-clause-trust
returns-clause-trust g c = ok_from c.det_beside.result (λ keeps is. keeps (c.in-Ok.ensures.trust is)) c.det_beside.ensures.trust

pub returns-in-Some-clause-agreed : goal.returns-in-Some-clause-agreed
returns-in-Some-clause-agreed g c = λ is. c.requires.stands.group.stands.trusts.both is

pub returns-in-Err-clause-agreed : goal.returns-in-Err-clause-agreed
returns-in-Err-clause-agreed g c = c.in-Err.ensures.agreed

pub returns-clause-agreed : goal.returns-clause-agreed
returns-clause-agreed g c = err_from c.det_beside.result (λ keeps is. keeps (c.in-Ok.ensures.trust is)) c.det_beside.ensures.agreed

pub returns-in-Some-clause-finds : goal.returns-in-Some-clause-finds
returns-in-Some-clause-finds g c = still_group c.args.core.now (g.S.Shelf.meaning c.args.shelf.now)

pub returns-then-not-is_active-clause-finds : goal.returns-then-not-is_active-clause-finds
returns-then-not-is_active-clause-finds g c = still_group c.args.core.now (g.S.Shelf.meaning c.args.shelf.now)

pub returns-in-Err-clause-finds : goal.returns-in-Err-clause-finds
returns-in-Err-clause-finds g c = c.begin_early.ensures.finds

pub returns-clause-finds : goal.returns-clause-finds
returns-clause-finds g c = then_group c.args.core.now c.begin_early.new.core c.det_beside.new.core (g.S.Shelf.meaning c.args.shelf.now) (g.S.Shelf.meaning c.begin_early.new.shelf) (g.S.Shelf.meaning c.det_beside.new.shelf) c.begin_early.ensures.finds c.det_beside.ensures.finds

pub returns-in-Some-clause-cause : goal.returns-in-Some-clause-cause
returns-in-Some-clause-cause g c = λ may. absurd (let clash : None ≡ Some c.in-Some.no = sym may ∙ sym c.refuse_det.ensures ∙ c.in-Some.is in cc)

pub returns-then-not-is_active-clause-cause : goal.returns-then-not-is_active-clause-cause
returns-then-not-is_active-clause-cause g c = λ may. tt

pub returns-in-Err-clause-cause : goal.returns-in-Err-clause-cause
returns-in-Err-clause-cause g c = λ may. c.in-Err.ensures.cause

pub returns-clause-cause : goal.returns-clause-cause
returns-clause-cause g c = λ may. det_later (g.S.Shelf.meaning c.args.shelf.now) (g.S.Shelf.meaning c.begin_early.new.shelf) (g.S.Shelf.meaning c.det_beside.new.shelf) c.begin_early.ensures.goes.disk_faults c.det_beside.result c.det_beside.ensures.cause

pub returns-in-Err-clause-begins : goal.returns-in-Err-clause-begins
returns-in-Err-clause-begins g c = tt

pub returns-in-Some-clause-begins : goal.returns-in-Some-clause-begins
returns-in-Some-clause-begins g c = tt

pub returns-in-Err-clause-off : goal.returns-in-Err-clause-off
returns-in-Err-clause-off g c = tt

pub returns-in-Some-clause-off : goal.returns-in-Some-clause-off
returns-in-Some-clause-off g c = tt

pub returns-in-Err-clause-kept : goal.returns-in-Err-clause-kept
returns-in-Err-clause-kept g c = tt

pub returns-in-Some-clause-kept : goal.returns-in-Some-clause-kept
returns-in-Some-clause-kept g c = tt

pub returns-in-Err-clause-trust : goal.returns-in-Err-clause-trust
returns-in-Err-clause-trust g c = tt

pub returns-in-Some-clause-trust : goal.returns-in-Some-clause-trust
returns-in-Some-clause-trust g c = tt

pub returns-then-not-is_active-clause-agreed : goal.returns-then-not-is_active-clause-agreed
returns-then-not-is_active-clause-agreed g c = tt

pub returns-then-not-is_active-clause-stays : goal.returns-then-not-is_active-clause-stays
returns-then-not-is_active-clause-stays g c = tt
