-- `det_fresh`: its clauses.
use Rattle.std.proofs.Common.{◌≡◌, ◌∙◌, inl, inr, ap, arith, sym}
use Rattle.vx_config.specs.Checks.{blocks_of}
use Rattle.vx_disk.specs.Shelf.{Nothing}
use Rattle.vx_disk.proofs.Runs.{then_nothing}
use Rattle.vx_group.specs.Attaches.{region_count}
use Rattle.vx_group.specs.Dets.{det_refusal}
use Rattle.vx_group.specs.Holding.{wide}
use Rattle.vx_group.specs.Stands.{inner_meaning}
use Rattle.vx_group.proofs.FailingLemmas.{then_failing}
use Rattle.vx_group.proofs.HoldLemmas.{wide_shape}
use Rattle.vx_group.proofs.LoseLemmas.{then_parts}
use Rattle.vx_group.proofs.TrustLemmas.{err_from, ok_from}
use Rattle.vx_group.proofs.UnitLemmas.{then_units}
use Rattle.vx_group.specs.declared.group_core.GroupCore.{GroupCore}
use Rattle.vx_grouplogs.proofs.LogShape.{same_count}
use Rattle.vx_loggroup.specs.Attaching.{fmr_or}
use Rattle.vx_loggroup.specs.LoggedVolumes.{is_alike}
use Rattle.vx_loggroup.proofs.DetFresh.{never_err}
use Rattle.vx_loggroup.proofs.DetMoves.{first_moves, run_det}
use Rattle.vx_loggroup.proofs.DetachedLogs.{begin_none, det_later, empty_later}
use Rattle.vx_loggroup.proofs.FreshLemmas.{fresh_still}
use Rattle.vx_group.proofs.FindingLemmas.{then_group}
use Rattle.vx_loggroup.proofs.KeepingLemmas.{frames_places, stay_keeps, then_keeps}
use Rattle.vx_loggroup.proofs.SureLemmas.{first_sure}
use Rattle.vx_loggroup.proofs.detached.det_fresh.Goals as goal

pub returns-in-Err-clause-refused : goal.returns-in-Err-clause-refused
returns-in-Err-clause-refused g c = λ why is. absurd (never_err c.begin_before.result c.in-Err.stop c.in-Err.is (c.begin_before.ensures.refused why is).0)

pub returns-in-Err-clause-parts : goal.returns-in-Err-clause-parts
returns-in-Err-clause-parts g c = c.begin_before.ensures.loses.loses.parts

pub returns-in-Err-clause-disks : goal.returns-in-Err-clause-disks
returns-in-Err-clause-disks g c = c.begin_before.ensures.loses.loses.disks

pub returns-in-Err-clause-frames : goal.returns-in-Err-clause-frames
returns-in-Err-clause-frames g c = c.begin_before.ensures.loses.loses.frames

pub returns-in-Err-clause-on : goal.returns-in-Err-clause-on
returns-in-Err-clause-on g c = λ w p is. sym (c.begin_before.ensures.still w p) ∙ is

pub returns-in-Err-clause-others : goal.returns-in-Err-clause-others
returns-in-Err-clause-others g c = λ w p apart. c.begin_before.ensures.still w p

pub returns-in-Err-clause-maps : goal.returns-in-Err-clause-maps
returns-in-Err-clause-maps g c = (c.begin_before.new.logs.items, c.begin_before.ensures.first, begin_none c.args.vol c.args.plex c.begin_before.new.logs.items)

pub returns-in-Err-clause-cause : goal.returns-in-Err-clause-cause
returns-in-Err-clause-cause g c = λ may. c.in-Err.ensures.cause

pub returns-clause-fresh : goal.returns-clause-fresh
returns-clause-fresh g c = fresh_still c.begin_before.new.core c.det_whole.new.core c.begin_before.new.fresh (g.S.Shelf.meaning c.begin_before.new.shelf) (g.S.Shelf.meaning c.det_whole.new.shelf) c.det_whole.ensures.goes c.begin_before.ensures.fresh

pub returns-clause-refused : goal.returns-clause-refused
returns-clause-refused g c = λ why is. let was = c.begin_before.ensures.refused why is in let it = c.det_whole.ensures.refused why (ap (λ (x : GroupCore). det_refusal x.inner.config c.args.vol c.args.plex) was.1 ∙ is) in (it.0, it.1 ∙ was.1, it.2 ∙ was.2, it.3 ∙ was.3)

pub returns-clause-goes : goal.returns-clause-goes
returns-clause-goes g c = then_nothing Nothing (inner_meaning (wide c.args.core.now) (g.S.Shelf.meaning c.args.shelf.now)) (inner_meaning (wide c.begin_before.new.core) (g.S.Shelf.meaning c.begin_before.new.shelf)) (inner_meaning (wide c.det_whole.new.core) (g.S.Shelf.meaning c.det_whole.new.shelf)) c.begin_before.ensures.goes c.det_whole.ensures.goes

pub returns-clause-parts : goal.returns-clause-parts
returns-clause-parts g c = then_parts c.args.core.now.inner.config c.begin_before.new.core.inner.config c.det_whole.new.core.inner.config c.begin_before.ensures.loses.loses.parts c.det_whole.ensures.parts

pub returns-clause-disks : goal.returns-clause-disks
returns-clause-disks g c = then_failing (g.S.Shelf.meaning c.args.shelf.now) (g.S.Shelf.meaning c.begin_before.new.shelf) (g.S.Shelf.meaning c.det_whole.new.shelf) c.begin_before.ensures.loses.rises c.det_whole.ensures.rises c.args.core.now.inner.config.disks c.begin_before.new.core.inner.config.disks c.det_whole.new.core.inner.config.disks c.begin_before.ensures.loses.loses.disks c.det_whole.ensures.disks

pub returns-clause-frames : goal.returns-clause-frames
returns-clause-frames g c = λ w. c.det_whole.ensures.frames w ∙ c.begin_before.ensures.loses.loses.frames w

pub returns-clause-below : goal.returns-clause-below
returns-clause-below g c = then_units (g.S.Shelf.meaning c.args.shelf.now) (g.S.Shelf.meaning c.begin_before.new.shelf) (g.S.Shelf.meaning c.det_whole.new.shelf) c.begin_before.ensures.below c.det_whole.ensures.below

pub returns-clause-on : goal.returns-clause-on
returns-clause-on g c = λ w p is. sym (c.begin_before.ensures.still w p) ∙ c.det_whole.ensures.on w p is

pub returns-clause-others : goal.returns-clause-others
returns-clause-others g c = λ w p apart. c.det_whole.ensures.others w p apart ∙ c.begin_before.ensures.still w p

pub returns-clause-begins : goal.returns-clause-begins
returns-clause-begins g c = ok_from c.det_whole.result (λ empty going none same on. empty_later c.begin_before.new.core.inner.config c.args.core.now.inner.config c.args.vol c.args.plex _
    (λ b is. record { volume = let old = (wide_shape c.args.core.now).volumes in let new = (wide_shape c.begin_before.new.core).volumes in let units = c.begin_before.ensures.goes.units in let lt = is.volume in omega (arith, old, new, units, lt); within = let old = (wide_shape c.args.core.now).blocks c.args.vol in let new = (wide_shape c.begin_before.new.core).blocks c.args.vol in let size = c.begin_before.ensures.goes.size c.args.vol in let lt = is.within in omega (arith, old, new, size, lt) })
    (empty going none same (c.begin_before.ensures.still c.args.vol c.args.plex ∙ on))) c.det_whole.ensures.begins

pub returns-clause-maps : goal.returns-clause-maps
returns-clause-maps g c = (c.begin_before.new.logs.items, c.begin_before.ensures.first, c.det_whole.ensures.maps)

pub returns-clause-trust : goal.returns-clause-trust
returns-clause-trust g c = ok_from c.det_whole.result (λ keeps is. keeps (c.in-Ok.ensures.trust is)) c.det_whole.ensures.trust

pub returns-clause-agreed : goal.returns-clause-agreed
returns-clause-agreed g c = err_from c.det_whole.result (λ keeps is. keeps (c.in-Ok.ensures.trust is)) c.det_whole.ensures.agreed

pub returns-clause-cause : goal.returns-clause-cause
returns-clause-cause g c = λ may. det_later (g.S.Shelf.meaning c.args.shelf.now) (g.S.Shelf.meaning c.begin_before.new.shelf) (g.S.Shelf.meaning c.det_whole.new.shelf) c.begin_before.ensures.goes.disk_faults c.det_whole.result (c.det_whole.ensures.cause (c.in-Ok.ensures.may may))

pub returns-in-Err-clause-finds : goal.returns-in-Err-clause-finds
returns-in-Err-clause-finds g c =
    c.begin_before.ensures.finds

pub returns-clause-finds : goal.returns-clause-finds
returns-clause-finds g c =
    then_group c.args.core.now c.begin_before.new.core c.det_whole.new.core (g.S.Shelf.meaning c.args.shelf.now) (g.S.Shelf.meaning c.begin_before.new.shelf) (g.S.Shelf.meaning c.det_whole.new.shelf) c.begin_before.ensures.finds c.det_whole.ensures.finds

pub returns-in-Err-clause-keeps : goal.returns-in-Err-clause-keeps
returns-in-Err-clause-keeps g c = stay_keeps c.args.core.now c.begin_before.new.core c.args.logs.now.items c.begin_before.new.logs.items (g.S.Shelf.meaning c.args.shelf.now) (g.S.Shelf.meaning c.begin_before.new.shelf) c.begin_before.ensures.stays

pub returns-clause-keeps : goal.returns-clause-keeps
returns-clause-keeps g c = then_keeps c.args.core.now c.begin_before.new.core c.det_whole.new.core c.args.logs.now.items c.begin_before.new.logs.items c.det_whole.new.logs.items (g.S.Shelf.meaning c.args.shelf.now) (g.S.Shelf.meaning c.begin_before.new.shelf) (g.S.Shelf.meaning c.det_whole.new.shelf) (frames_places c.args.core.now.inner.config c.begin_before.new.core.inner.config c.begin_before.ensures.loses.loses.frames) c.begin_before.ensures.loses.rises c.det_whole.ensures.rises c.det_whole.ensures.goes.falls c.begin_before.ensures.stays c.det_whole.ensures.keeps

pub returns-in-Err-clause-moves : goal.returns-in-Err-clause-moves
returns-in-Err-clause-moves g c = λ off. first_moves c.args.core.now.inner.config c.begin_before.new.core.inner.config c.args.vol (region_count (wide c.args.core.now).config c.args.vol) c.args.logs.now.items c.begin_before.new.logs.items c.begin_before.ensures.first c.begin_before.ensures.news

pub returns-clause-moves : goal.returns-clause-moves
returns-clause-moves g c = λ off.
    let blocks : blocks_of c.begin_before.new.core.inner.config.volumes c.args.vol ≡ blocks_of c.args.core.now.inner.config.volumes c.args.vol =
    (let old = (wide_shape c.args.core.now).blocks c.args.vol in let new = (wide_shape c.begin_before.new.core).blocks c.args.vol in let size = c.begin_before.ensures.goes.size c.args.vol in omega (arith, old, new, size)) in
    run_det c.args.core.now c.begin_before.new.core c.det_whole.new.core c.args.vol c.args.plex (region_count (wide c.args.core.now).config c.args.vol) c.args.logs.now.items c.begin_before.new.logs.items c.det_whole.new.logs.items c.begin_before.ensures.still
    (same_count c.args.core.now.inner.config c.begin_before.new.core.inner.config c.args.vol (c.begin_before.ensures.loses.loses.frames c.args.vol) blocks) blocks c.begin_before.ensures.first c.begin_before.ensures.news
    (λ k at f is. ((c.begin_before.ensures.stands.each c.args.vol k at).on off).fits.fmr f is) c.det_whole.ensures.maps
    (let one = c.begin_before.ensures.stands.many in let two = c.det_whole.ensures.stands.many in let old = (wide_shape c.begin_before.new.core).volumes in let new = (wide_shape c.det_whole.new.core).volumes in let units = c.det_whole.ensures.goes.units in omega (arith, one, two, old, new, units))
    (λ away. c.det_whole.ensures.same (c.begin_before.ensures.still c.args.vol c.args.plex ∙ away))
    (is_alike c.args.alike.now c.args.vol) c.args.stopped c.det_whole.new.core.held c.det_whole.result off (λ on. c.det_whole.ensures.free (c.begin_before.ensures.still c.args.vol c.args.plex ∙ on)) (returns-clause-begins g c)

pub returns-in-Err-clause-left : goal.returns-in-Err-clause-left
returns-in-Err-clause-left g c = λ w apart. ap fmr_or (c.begin_before.ensures.first.others w apart)

pub returns-clause-left : goal.returns-clause-left
returns-clause-left g c = λ w apart. ap fmr_or (c.det_whole.ensures.maps.others w apart ∙ c.begin_before.ensures.first.others w apart)

pub returns-in-Err-clause-trusts : goal.returns-in-Err-clause-trusts
returns-in-Err-clause-trusts g c = record { each = λ w log has told. c.begin_before.ensures.trusts.each w log told }

pub returns-clause-trusts : goal.returns-clause-trusts
returns-clause-trusts g c = record { each = λ w log has told. c.det_whole.ensures.trusts.each w log has (c.begin_before.ensures.trusts.each w log told) }

pub returns-in-Err-clause-stays : goal.returns-in-Err-clause-stays
returns-in-Err-clause-stays g c = inr (c.begin_before.ensures.still c.args.vol c.args.plex)

pub returns-clause-stays : goal.returns-clause-stays
returns-clause-stays g c = err_from c.det_whole.result (λ either. elim either [ inl down ↦ inl down | inr same ↦ inr (same ∙ c.begin_before.ensures.still c.args.vol c.args.plex) ]) c.det_whole.ensures.stays

pub returns-clause-kept : goal.returns-clause-kept
returns-clause-kept g c = ok_from c.det_whole.result (first_sure c.args.vol (region_count (wide c.args.core.now).config c.args.vol) c.args.core.now c.begin_before.new.core c.det_whole.new.core c.args.logs.now.items c.begin_before.new.logs.items c.det_whole.new.logs.items c.begin_before.ensures.first c.begin_before.ensures.since) c.det_whole.ensures.kept

pub returns-in-Err-clause-said : goal.returns-in-Err-clause-said
returns-in-Err-clause-said g c = λ on going same. tt

pub returns-clause-said : goal.returns-clause-said
returns-clause-said g c = λ on going same. c.det_whole.ensures.said (c.begin_before.ensures.still c.args.vol c.args.plex ∙ on) going same

pub returns-clause-stands : goal.returns-clause-stands
returns-clause-stands g c = c.det_whole.ensures.stands

pub returns-clause-off : goal.returns-clause-off
returns-clause-off g c = c.det_whole.ensures.off

pub returns-in-Err-clause-stands : goal.returns-in-Err-clause-stands
returns-in-Err-clause-stands g c = c.begin_before.ensures.stands

pub returns-in-Err-clause-fresh : goal.returns-in-Err-clause-fresh
returns-in-Err-clause-fresh g c = c.begin_before.ensures.fresh

pub returns-in-Err-clause-goes : goal.returns-in-Err-clause-goes
returns-in-Err-clause-goes g c = c.begin_before.ensures.goes

pub returns-in-Err-clause-below : goal.returns-in-Err-clause-below
returns-in-Err-clause-below g c = c.begin_before.ensures.below

pub returns-in-Err-clause-begins : goal.returns-in-Err-clause-begins
returns-in-Err-clause-begins g c = tt

pub returns-in-Err-clause-off : goal.returns-in-Err-clause-off
returns-in-Err-clause-off g c = tt

pub returns-in-Err-clause-kept : goal.returns-in-Err-clause-kept
returns-in-Err-clause-kept g c = tt

pub returns-in-Err-clause-trust : goal.returns-in-Err-clause-trust
returns-in-Err-clause-trust g c = tt

pub returns-in-Err-clause-agreed : goal.returns-in-Err-clause-agreed
returns-in-Err-clause-agreed g c = c.in-Err.ensures.agreed
