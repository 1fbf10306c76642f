-- `begin_early`: its clauses; what its calls ask.
use Rattle.std.proofs.Common.{◌≡◌, ◌∙◌, Bool, false, true, refl, subst, sym, arith}
use Rattle.std.specs.Prelude.{Err}
use Rattle.vx_config.specs.declared.config.Config.{Config}
use Rattle.vx_disk.specs.Causes.{DeviceCause}
use Rattle.vx_disk.specs.Shelf.{Nothing}
use Rattle.vx_disk.proofs.Runs.{then_nothing}
use Rattle.vx_group.specs.Holding.{wide}
use Rattle.vx_group.specs.Stands.{inner_meaning}
use Rattle.vx_group.proofs.FindingLemmas.{then_group}
use Rattle.vx_group.proofs.HoldLemmas.{narrow_sound, wide_shape}
use Rattle.vx_group.proofs.LoseLemmas.{along_same, then_along}
use Rattle.vx_group.proofs.RegainLemmas.{all_holds}
use Rattle.vx_group.proofs.TrustLemmas.{err_from, ok_from}
use Rattle.vx_group.proofs.UnitLemmas.{goes_units, then_units}
use Rattle.vx_group.specs.Settles.{ReadsOne}
use Rattle.vx_groupmaps.specs.Missing.{OnMaps}
use Rattle.vx_logged.proofs.StandLemmas.{config_is, narrowed_then, maps_idle}
use Rattle.vx_model.specs.declared.no.No.{No}
use Rattle.vx_volume.proofs.PlaceLemmas.{active_below}
use Rattle.vx_loggroup.specs.Attaching.{fmr_at}
use Rattle.vx_loggroup.specs.LoggedVolumes.{LoggedStands}
use Rattle.vx_loggroup.proofs.AlikeLemmas.{all_whole}
use Rattle.vx_loggroup.proofs.DetachedLogs.{active_low, begin_none, det_cause, det_later, down_stops, empty_later}
use Rattle.vx_loggroup.proofs.KeepingLemmas.{frames_places, stays_in, stays_same, then_stays}
use Rattle.vx_loggroup.proofs.SetLemmas.{item_at}
use Rattle.vx_loggroup.proofs.SureLemmas.{alike_here, begun_sure, narrow_kept, ready_free}
use Rattle.vx_loggroup.proofs.detaching.begin_early.Goals as goal

pub ready_group-requires-clause-stands : goal.ready_group-requires-clause-stands
ready_group-requires-clause-stands g c = c.requires.stands.group

pub ready_group-requires-clause-there : goal.ready_group-requires-clause-there
ready_group-requires-clause-there g c = let low = (active_low c.args.core.now.inner.config c.args.vol c.args.plex c.requires.is_on) in let same = (wide_shape c.args.core.now).volumes in omega (arith, low, same)

pub may_begin-requires : goal.may_begin-requires
may_begin-requires g c = record { few = λ was. let low = (active_low c.args.core.now.inner.config c.args.vol c.args.plex c.requires.is_on) in let few = c.requires.stands.group.stands.few in let same = (wide_shape c.args.core.now).volumes in omega (arith, low, few, same) }

pub begin_missing-requires-clause-stands : goal.begin_missing-requires-clause-stands
begin_missing-requires-clause-stands g c = subst (λ (s : Bool). LoggedStands c.ready_group.new.core c.args.logs.now.items c.args.alike.now s (g.S.Shelf.meaning c.ready_group.new.shelf)) (c.may_begin.ensures.going c.if-not-may_begin.false) (all_whole c.args.core.now c.ready_group.new.core c.args.logs.now.items c.args.alike.now c.args.stopped (g.S.Shelf.meaning c.args.shelf.now) (g.S.Shelf.meaning c.ready_group.new.shelf) c.requires.stands c.ready_group.ensures.stands c.ready_group.ensures.goes c.ready_group.ensures.logs)

pub begin_missing-requires-clause-none : goal.begin_missing-requires-clause-none
begin_missing-requires-clause-none g c = (c.may_begin.ensures.none c.if-not-may_begin.false)

pub begin_missing-requires-clause-there : goal.begin_missing-requires-clause-there
begin_missing-requires-clause-there g c = let low = (active_low c.args.core.now.inner.config c.args.vol c.args.plex c.requires.is_on) in let old = (wide_shape c.args.core.now).volumes in let new = (wide_shape c.ready_group.new.core).volumes in let same = c.ready_group.ensures.narrow.shape.volumes in omega (arith, low, old, new, same)

pub begin_missing-requires-clause-exists : goal.begin_missing-requires-clause-exists
begin_missing-requires-clause-exists g c = active_below c.ready_group.new.core.inner.config (narrow_sound c.ready_group.new.core (g.S.Shelf.meaning c.ready_group.new.shelf) c.ready_group.ensures.stands) c.args.vol c.args.plex (c.ready_group.ensures.still c.args.vol c.args.plex ∙ c.requires.is_on)

pub begin_missing-requires-clause-reads : goal.begin_missing-requires-clause-reads
begin_missing-requires-clause-reads g c = alike_here c.ready_group.new.core.inner.config c.args.vol c.args.plex (g.S.Shelf.meaning c.ready_group.new.shelf) (c.ready_group.ensures.still c.args.vol c.args.plex ∙ c.requires.is_on)
    (λ up. subst (λ (x : Config). ReadsOne x c.args.vol (g.S.Shelf.meaning c.ready_group.new.shelf)) (config_is c.ready_group.new.core c.args.vol (g.S.Shelf.meaning c.ready_group.new.shelf) (g.S.Shelf.meaning c.ready_group.new.shelf) (c.may_begin.ensures.none c.if-not-may_begin.false) c.ready_group.ensures.stands)
    (let it = item_at c.args.logs.now.items c.args.vol (let low = (active_low c.args.core.now.inner.config c.args.vol c.args.plex c.requires.is_on) in let many = c.requires.stands.many in omega (arith, low, many)) in ((all_whole c.args.core.now c.ready_group.new.core c.args.logs.now.items c.args.alike.now c.args.stopped (g.S.Shelf.meaning c.args.shelf.now) (g.S.Shelf.meaning c.ready_group.new.shelf) c.requires.stands c.ready_group.ensures.stands c.ready_group.ensures.goes c.ready_group.ensures.logs).each c.args.vol it.0 it.1).alike (c.may_begin.ensures.alike c.if-not-may_begin.false) up))

pub keep_begun-requires-clause-stands : goal.keep_begun-requires-clause-stands
keep_begun-requires-clause-stands g c = c.begin_missing.ensures.stands

pub keep_begun-requires-clause-none : goal.keep_begun-requires-clause-none
keep_begun-requires-clause-none g c = (c.may_begin.ensures.none c.if-not-may_begin.false)

pub keep_begun-requires-clause-there : goal.keep_begun-requires-clause-there
keep_begun-requires-clause-there g c = let low = (active_low c.args.core.now.inner.config c.args.vol c.args.plex c.requires.is_on) in let old = (wide_shape c.args.core.now).volumes in let new = (wide_shape c.ready_group.new.core).volumes in let same = c.ready_group.ensures.narrow.shape.volumes in omega (arith, low, old, new, same)

pub returns-in-Err-clause-stands : goal.returns-in-Err-clause-stands
returns-in-Err-clause-stands g c = (all_whole c.args.core.now c.ready_group.new.core c.args.logs.now.items c.args.alike.now c.args.stopped (g.S.Shelf.meaning c.args.shelf.now) (g.S.Shelf.meaning c.ready_group.new.shelf) c.requires.stands c.ready_group.ensures.stands c.ready_group.ensures.goes c.ready_group.ensures.logs)

pub returns-then-not-may_begin-clause-stands : goal.returns-then-not-may_begin-clause-stands
returns-then-not-may_begin-clause-stands g c = (all_whole c.args.core.now c.ready_group.new.core c.args.logs.now.items c.args.alike.now c.args.stopped (g.S.Shelf.meaning c.args.shelf.now) (g.S.Shelf.meaning c.ready_group.new.shelf) c.requires.stands c.ready_group.ensures.stands c.ready_group.ensures.goes c.ready_group.ensures.logs)

pub returns-in-Err-begin_missing-clause-stands : goal.returns-in-Err-begin_missing-clause-stands
returns-in-Err-begin_missing-clause-stands g c = subst (λ (s : Bool). LoggedStands c.ready_group.new.core c.begin_missing.new.logs.items c.args.alike.now s (g.S.Shelf.meaning c.begin_missing.new.shelf)) (sym (c.may_begin.ensures.going c.if-not-may_begin.false)) c.begin_missing.ensures.stands

pub returns-clause-stands : goal.returns-clause-stands
returns-clause-stands g c = subst (λ (s : Bool). LoggedStands c.keep_begun.new.core c.begin_missing.new.logs.items c.args.alike.now s (g.S.Shelf.meaning c.keep_begun.new.shelf)) (sym (c.may_begin.ensures.going c.if-not-may_begin.false)) c.keep_begun.ensures.stands

pub returns-in-Err-clause-goes : goal.returns-in-Err-clause-goes
returns-in-Err-clause-goes g c = c.ready_group.ensures.goes

pub returns-then-not-may_begin-clause-goes : goal.returns-then-not-may_begin-clause-goes
returns-then-not-may_begin-clause-goes g c = c.ready_group.ensures.goes

pub returns-in-Err-begin_missing-clause-goes : goal.returns-in-Err-begin_missing-clause-goes
returns-in-Err-begin_missing-clause-goes g c = (then_nothing Nothing (inner_meaning (wide c.args.core.now) (g.S.Shelf.meaning c.args.shelf.now)) (inner_meaning (wide c.ready_group.new.core) (g.S.Shelf.meaning c.ready_group.new.shelf)) (inner_meaning (wide c.ready_group.new.core) (g.S.Shelf.meaning c.begin_missing.new.shelf)) c.ready_group.ensures.goes c.begin_missing.ensures.goes)

pub returns-clause-goes : goal.returns-clause-goes
returns-clause-goes g c = then_nothing Nothing (inner_meaning (wide c.args.core.now) (g.S.Shelf.meaning c.args.shelf.now)) (inner_meaning (wide c.ready_group.new.core) (g.S.Shelf.meaning c.begin_missing.new.shelf)) (inner_meaning (wide c.keep_begun.new.core) (g.S.Shelf.meaning c.keep_begun.new.shelf)) (then_nothing Nothing (inner_meaning (wide c.args.core.now) (g.S.Shelf.meaning c.args.shelf.now)) (inner_meaning (wide c.ready_group.new.core) (g.S.Shelf.meaning c.ready_group.new.shelf)) (inner_meaning (wide c.ready_group.new.core) (g.S.Shelf.meaning c.begin_missing.new.shelf)) c.ready_group.ensures.goes c.begin_missing.ensures.goes) c.keep_begun.ensures.goes

pub returns-in-Err-clause-loses : goal.returns-in-Err-clause-loses
returns-in-Err-clause-loses g c = c.ready_group.ensures.loses

pub returns-then-not-may_begin-clause-loses : goal.returns-then-not-may_begin-clause-loses
returns-then-not-may_begin-clause-loses g c = c.ready_group.ensures.loses

pub returns-in-Err-begin_missing-clause-loses : goal.returns-in-Err-begin_missing-clause-loses
returns-in-Err-begin_missing-clause-loses g c = (then_along c.args.core.now.inner.config c.ready_group.new.core.inner.config c.ready_group.new.core.inner.config (g.S.Shelf.meaning c.args.shelf.now) (g.S.Shelf.meaning c.ready_group.new.shelf) (g.S.Shelf.meaning c.begin_missing.new.shelf) c.ready_group.ensures.loses (along_same c.ready_group.new.core.inner.config (g.S.Shelf.meaning c.ready_group.new.shelf) (g.S.Shelf.meaning c.begin_missing.new.shelf) c.begin_missing.ensures.below.faults))

pub returns-clause-loses : goal.returns-clause-loses
returns-clause-loses g c = then_along c.args.core.now.inner.config c.ready_group.new.core.inner.config c.keep_begun.new.core.inner.config (g.S.Shelf.meaning c.args.shelf.now) (g.S.Shelf.meaning c.begin_missing.new.shelf) (g.S.Shelf.meaning c.keep_begun.new.shelf) (then_along c.args.core.now.inner.config c.ready_group.new.core.inner.config c.ready_group.new.core.inner.config (g.S.Shelf.meaning c.args.shelf.now) (g.S.Shelf.meaning c.ready_group.new.shelf) (g.S.Shelf.meaning c.begin_missing.new.shelf) c.ready_group.ensures.loses (along_same c.ready_group.new.core.inner.config (g.S.Shelf.meaning c.ready_group.new.shelf) (g.S.Shelf.meaning c.begin_missing.new.shelf) c.begin_missing.ensures.below.faults)) (record { loses = c.keep_begun.ensures.loses; rises = c.keep_begun.ensures.rises })

pub returns-in-Err-clause-still : goal.returns-in-Err-clause-still
returns-in-Err-clause-still g c = c.ready_group.ensures.still

pub returns-then-not-may_begin-clause-still : goal.returns-then-not-may_begin-clause-still
returns-then-not-may_begin-clause-still g c = c.ready_group.ensures.still

pub returns-in-Err-begin_missing-clause-still : goal.returns-in-Err-begin_missing-clause-still
returns-in-Err-begin_missing-clause-still g c = c.ready_group.ensures.still

pub returns-clause-still : goal.returns-clause-still
returns-clause-still g c = λ w p. c.keep_begun.ensures.still w p ∙ c.ready_group.ensures.still w p

pub returns-in-Err-clause-below : goal.returns-in-Err-clause-below
returns-in-Err-clause-below g c = c.ready_group.ensures.below

pub returns-then-not-may_begin-clause-below : goal.returns-then-not-may_begin-clause-below
returns-then-not-may_begin-clause-below g c = c.ready_group.ensures.below

pub returns-in-Err-begin_missing-clause-below : goal.returns-in-Err-begin_missing-clause-below
returns-in-Err-begin_missing-clause-below g c = (then_units (g.S.Shelf.meaning c.args.shelf.now) (g.S.Shelf.meaning c.ready_group.new.shelf) (g.S.Shelf.meaning c.begin_missing.new.shelf) c.ready_group.ensures.below (goes_units (OnMaps c.ready_group.new.core.inner.config c.args.vol) (g.S.Shelf.meaning c.ready_group.new.shelf) (g.S.Shelf.meaning c.begin_missing.new.shelf) c.begin_missing.ensures.below))

pub returns-clause-below : goal.returns-clause-below
returns-clause-below g c = then_units (g.S.Shelf.meaning c.args.shelf.now) (g.S.Shelf.meaning c.begin_missing.new.shelf) (g.S.Shelf.meaning c.keep_begun.new.shelf) (then_units (g.S.Shelf.meaning c.args.shelf.now) (g.S.Shelf.meaning c.ready_group.new.shelf) (g.S.Shelf.meaning c.begin_missing.new.shelf) c.ready_group.ensures.below (goes_units (OnMaps c.ready_group.new.core.inner.config c.args.vol) (g.S.Shelf.meaning c.ready_group.new.shelf) (g.S.Shelf.meaning c.begin_missing.new.shelf) c.begin_missing.ensures.below)) c.keep_begun.ensures.below

pub returns-in-Err-clause-narrow : goal.returns-in-Err-clause-narrow
returns-in-Err-clause-narrow g c = c.ready_group.ensures.narrow

pub returns-then-not-may_begin-clause-narrow : goal.returns-then-not-may_begin-clause-narrow
returns-then-not-may_begin-clause-narrow g c = c.ready_group.ensures.narrow

pub returns-in-Err-begin_missing-clause-narrow : goal.returns-in-Err-begin_missing-clause-narrow
returns-in-Err-begin_missing-clause-narrow g c = c.ready_group.ensures.narrow

pub returns-clause-narrow : goal.returns-clause-narrow
returns-clause-narrow g c = narrowed_then c.args.core.now c.ready_group.new.core c.keep_begun.new.core c.ready_group.ensures.narrow c.keep_begun.ensures.narrow

pub returns-in-Err-clause-maps : goal.returns-in-Err-clause-maps
returns-in-Err-clause-maps g c = begin_none c.args.vol c.args.plex c.args.logs.now.items

pub returns-then-not-may_begin-clause-maps : goal.returns-then-not-may_begin-clause-maps
returns-then-not-may_begin-clause-maps g c = begin_none c.args.vol c.args.plex c.args.logs.now.items

pub returns-in-Err-begin_missing-clause-maps : goal.returns-in-Err-begin_missing-clause-maps
returns-in-Err-begin_missing-clause-maps g c = c.begin_missing.ensures.maps

pub returns-clause-maps : goal.returns-clause-maps
returns-clause-maps g c = c.begin_missing.ensures.maps

pub returns-then-not-may_begin-clause-begins : goal.returns-then-not-may_begin-clause-begins
returns-then-not-may_begin-clause-begins g c = λ going same. absurd (let clash : true ≡ false = sym (c.may_begin.ensures.all refl going (ready_free c.in-Ok.field-0 c.args.core.now.inner.config.serial c.in-Ok.ensures.none c.in-Ok.ensures.full c.requires.more) same) ∙ c.if-not-may_begin.true in cc)

pub returns-clause-begins : goal.returns-clause-begins
returns-clause-begins g c = all_holds c.keep_begun.result (λ going same. empty_later c.ready_group.new.core.inner.config c.args.core.now.inner.config c.args.vol c.args.plex (fmr_at c.begin_missing.new.logs.items c.args.vol) (λ b is. record { volume = let old = (wide_shape c.args.core.now).volumes in let new = (wide_shape c.ready_group.new.core).volumes in let units = c.ready_group.ensures.goes.units in let lt = is.volume in omega (arith, old, new, units, lt); within = let old = (wide_shape c.args.core.now).blocks c.args.vol in let new = (wide_shape c.ready_group.new.core).blocks c.args.vol in let size = c.ready_group.ensures.goes.size c.args.vol in let lt = is.within in omega (arith, old, new, size, lt) }) c.in-Ok-begin_missing.ensures.empty)

pub returns-then-not-may_begin-clause-free : goal.returns-then-not-may_begin-clause-free
returns-then-not-may_begin-clause-free g c = (ready_free c.in-Ok.field-0 c.args.core.now.inner.config.serial c.in-Ok.ensures.none c.in-Ok.ensures.full c.requires.more)

pub returns-clause-free : goal.returns-clause-free
returns-clause-free g c = all_holds c.keep_begun.result (c.keep_begun.ensures.finds.free (c.may_begin.ensures.none c.if-not-may_begin.false))

pub returns-then-not-may_begin-clause-few : goal.returns-then-not-may_begin-clause-few
returns-then-not-may_begin-clause-few g c = let few = c.in-Ok.ensures.few in omega (arith, few)

pub returns-clause-few : goal.returns-clause-few
returns-clause-few g c = ok_from c.keep_begun.result (λ two. let one = c.in-Ok.ensures.few in let last = two in omega (arith, one, last)) c.keep_begun.ensures.few

pub returns-in-Err-clause-trusts : goal.returns-in-Err-clause-trusts
returns-in-Err-clause-trusts g c = record { each = λ w log has told. c.ready_group.ensures.trusts.each w log told }

pub returns-then-not-may_begin-clause-trusts : goal.returns-then-not-may_begin-clause-trusts
returns-then-not-may_begin-clause-trusts g c = record { each = λ w log has told. c.ready_group.ensures.trusts.each w log told }

pub returns-in-Err-begin_missing-clause-trusts : goal.returns-in-Err-begin_missing-clause-trusts
returns-in-Err-begin_missing-clause-trusts g c = record { each = λ w log has told. c.ready_group.ensures.trusts.each w log told }

pub returns-clause-trusts : goal.returns-clause-trusts
returns-clause-trusts g c = record { each = λ w log has told. c.keep_begun.ensures.trusts.each w log has (c.ready_group.ensures.trusts.each w log told) }

pub returns-in-Err-clause-stays : goal.returns-in-Err-clause-stays
returns-in-Err-clause-stays g c = stays_same c.args.core.now.inner.config c.ready_group.new.core.inner.config c.args.logs.now.items (g.S.Shelf.meaning c.args.shelf.now) (g.S.Shelf.meaning c.ready_group.new.shelf) (frames_places c.args.core.now.inner.config c.ready_group.new.core.inner.config c.ready_group.ensures.loses.loses.frames) c.ready_group.ensures.loses.loses.disks.blamed c.ready_group.ensures.trusts

pub returns-then-not-may_begin-clause-stays : goal.returns-then-not-may_begin-clause-stays
returns-then-not-may_begin-clause-stays g c = stays_same c.args.core.now.inner.config c.ready_group.new.core.inner.config c.args.logs.now.items (g.S.Shelf.meaning c.args.shelf.now) (g.S.Shelf.meaning c.ready_group.new.shelf) (frames_places c.args.core.now.inner.config c.ready_group.new.core.inner.config c.ready_group.ensures.loses.loses.frames) c.ready_group.ensures.loses.loses.disks.blamed c.ready_group.ensures.trusts

pub returns-in-Err-begin_missing-clause-stays : goal.returns-in-Err-begin_missing-clause-stays
returns-in-Err-begin_missing-clause-stays g c = then_stays c.args.core.now.inner.config c.ready_group.new.core.inner.config c.ready_group.new.core.inner.config c.args.logs.now.items c.args.logs.now.items c.begin_missing.new.logs.items (g.S.Shelf.meaning c.args.shelf.now) (g.S.Shelf.meaning c.ready_group.new.shelf) (g.S.Shelf.meaning c.begin_missing.new.shelf) (frames_places c.args.core.now.inner.config c.ready_group.new.core.inner.config c.ready_group.ensures.loses.loses.frames) c.ready_group.ensures.loses.rises c.begin_missing.ensures.below.faults c.begin_missing.ensures.below.falls (stays_same c.args.core.now.inner.config c.ready_group.new.core.inner.config c.args.logs.now.items (g.S.Shelf.meaning c.args.shelf.now) (g.S.Shelf.meaning c.ready_group.new.shelf) (frames_places c.args.core.now.inner.config c.ready_group.new.core.inner.config c.ready_group.ensures.loses.loses.frames) c.ready_group.ensures.loses.loses.disks.blamed c.ready_group.ensures.trusts) c.begin_missing.ensures.stays

pub returns-clause-stays : goal.returns-clause-stays
returns-clause-stays g c = then_stays c.args.core.now.inner.config c.ready_group.new.core.inner.config c.keep_begun.new.core.inner.config c.args.logs.now.items c.begin_missing.new.logs.items c.begin_missing.new.logs.items (g.S.Shelf.meaning c.args.shelf.now) (g.S.Shelf.meaning c.begin_missing.new.shelf) (g.S.Shelf.meaning c.keep_begun.new.shelf) (frames_places c.args.core.now.inner.config c.ready_group.new.core.inner.config c.ready_group.ensures.loses.loses.frames) (λ u. let one = c.ready_group.ensures.loses.rises u in let two = c.begin_missing.ensures.below.faults u in omega (arith, one, two)) c.keep_begun.ensures.rises c.keep_begun.ensures.goes.falls (then_stays c.args.core.now.inner.config c.ready_group.new.core.inner.config c.ready_group.new.core.inner.config c.args.logs.now.items c.args.logs.now.items c.begin_missing.new.logs.items (g.S.Shelf.meaning c.args.shelf.now) (g.S.Shelf.meaning c.ready_group.new.shelf) (g.S.Shelf.meaning c.begin_missing.new.shelf) (frames_places c.args.core.now.inner.config c.ready_group.new.core.inner.config c.ready_group.ensures.loses.loses.frames) c.ready_group.ensures.loses.rises c.begin_missing.ensures.below.faults c.begin_missing.ensures.below.falls (stays_same c.args.core.now.inner.config c.ready_group.new.core.inner.config c.args.logs.now.items (g.S.Shelf.meaning c.args.shelf.now) (g.S.Shelf.meaning c.ready_group.new.shelf) (frames_places c.args.core.now.inner.config c.ready_group.new.core.inner.config c.ready_group.ensures.loses.loses.frames) c.ready_group.ensures.loses.loses.disks.blamed c.ready_group.ensures.trusts) c.begin_missing.ensures.stays)
    (stays_in c.ready_group.new.core.inner.config c.keep_begun.new.core.inner.config c.args.vol c.begin_missing.new.logs.items (g.S.Shelf.meaning c.begin_missing.new.shelf) (g.S.Shelf.meaning c.keep_begun.new.shelf) (frames_places c.ready_group.new.core.inner.config c.keep_begun.new.core.inner.config c.keep_begun.ensures.loses.frames) c.keep_begun.ensures.loses.disks.blamed c.keep_begun.ensures.trusts)

pub returns-then-not-may_begin-clause-kept : goal.returns-then-not-may_begin-clause-kept
returns-then-not-may_begin-clause-kept g c = narrow_kept c.args.core.now c.ready_group.new.core c.args.logs.now.items c.ready_group.ensures.narrow

pub returns-clause-kept : goal.returns-clause-kept
returns-clause-kept g c = ok_from c.keep_begun.result (begun_sure c.args.core.now c.ready_group.new.core c.keep_begun.new.core c.args.vol c.args.plex c.args.logs.now.items c.begin_missing.new.logs.items (let low = (active_low c.args.core.now.inner.config c.args.vol c.args.plex c.requires.is_on) in let many = c.requires.stands.many in omega (arith, low, many)) c.ready_group.ensures.narrow c.keep_begun.ensures.narrow c.begin_missing.ensures.maps) c.keep_begun.ensures.said

pub returns-then-not-may_begin-clause-said : goal.returns-then-not-may_begin-clause-said
returns-then-not-may_begin-clause-said g c = λ going same. absurd (let clash : true ≡ false = sym (c.may_begin.ensures.all refl going (ready_free c.in-Ok.field-0 c.args.core.now.inner.config.serial c.in-Ok.ensures.none c.in-Ok.ensures.full c.requires.more) same) ∙ c.if-not-may_begin.true in cc)

pub returns-clause-said : goal.returns-clause-said
returns-clause-said g c = ok_from c.keep_begun.result (λ said going same. said) c.keep_begun.ensures.said

pub returns-then-not-may_begin-clause-trust : goal.returns-then-not-may_begin-clause-trust
returns-then-not-may_begin-clause-trust g c = c.in-Ok.ensures.trust

pub returns-clause-trust : goal.returns-clause-trust
returns-clause-trust g c = ok_from c.keep_begun.result (λ keeps is. keeps (c.in-Ok.ensures.trust is)) c.keep_begun.ensures.trust

pub returns-in-Err-clause-agreed : goal.returns-in-Err-clause-agreed
returns-in-Err-clause-agreed g c = c.in-Err.ensures.agreed

pub returns-in-Err-begin_missing-clause-agreed : goal.returns-in-Err-begin_missing-clause-agreed
returns-in-Err-begin_missing-clause-agreed g c = λ is. c.ready_group.ensures.stands.stands.trusts.both (c.in-Ok.ensures.trust is)

pub returns-clause-agreed : goal.returns-clause-agreed
returns-clause-agreed g c = err_from c.keep_begun.result (λ keeps is. keeps (c.in-Ok.ensures.trust is)) c.keep_begun.ensures.agreed

pub returns-in-Err-clause-finds : goal.returns-in-Err-clause-finds
returns-in-Err-clause-finds g c = c.ready_group.ensures.finds

pub returns-then-not-may_begin-clause-finds : goal.returns-then-not-may_begin-clause-finds
returns-then-not-may_begin-clause-finds g c = c.ready_group.ensures.finds

pub returns-in-Err-begin_missing-clause-finds : goal.returns-in-Err-begin_missing-clause-finds
returns-in-Err-begin_missing-clause-finds g c = then_group c.args.core.now c.ready_group.new.core c.ready_group.new.core (g.S.Shelf.meaning c.args.shelf.now) (g.S.Shelf.meaning c.ready_group.new.shelf) (g.S.Shelf.meaning c.begin_missing.new.shelf) c.ready_group.ensures.finds (maps_idle c.ready_group.new.core c.args.vol (g.S.Shelf.meaning c.ready_group.new.shelf) (g.S.Shelf.meaning c.begin_missing.new.shelf) (c.may_begin.ensures.none c.if-not-may_begin.false) c.ready_group.ensures.stands c.begin_missing.ensures.below c.begin_missing.ensures.less)

pub returns-clause-finds : goal.returns-clause-finds
returns-clause-finds g c = then_group c.args.core.now c.ready_group.new.core c.keep_begun.new.core (g.S.Shelf.meaning c.args.shelf.now) (g.S.Shelf.meaning c.begin_missing.new.shelf) (g.S.Shelf.meaning c.keep_begun.new.shelf) (then_group c.args.core.now c.ready_group.new.core c.ready_group.new.core (g.S.Shelf.meaning c.args.shelf.now) (g.S.Shelf.meaning c.ready_group.new.shelf) (g.S.Shelf.meaning c.begin_missing.new.shelf) c.ready_group.ensures.finds (maps_idle c.ready_group.new.core c.args.vol (g.S.Shelf.meaning c.ready_group.new.shelf) (g.S.Shelf.meaning c.begin_missing.new.shelf) (c.may_begin.ensures.none c.if-not-may_begin.false) c.ready_group.ensures.stands c.begin_missing.ensures.below c.begin_missing.ensures.less)) c.keep_begun.ensures.finds

pub returns-in-Err-clause-cause : goal.returns-in-Err-clause-cause
returns-in-Err-clause-cause g c = subst (λ (why : No). DeviceCause (g.S.Shelf.meaning c.args.shelf.now) (g.S.Shelf.meaning c.ready_group.new.shelf) why) (sym c.refusal.ensures)
    (det_cause Bool (Unit {0}) (g.S.Shelf.meaning c.args.shelf.now) (g.S.Shelf.meaning c.args.shelf.now) (g.S.Shelf.meaning c.ready_group.new.shelf) c.args.vol (inner_meaning (wide c.args.core.now) (g.S.Shelf.meaning c.args.shelf.now)) (inner_meaning (wide c.ready_group.new.core) (g.S.Shelf.meaning c.ready_group.new.shelf)) refl refl refl (λ u. omega arith) c.in-Err.error c.in-Err.ensures.cause)

pub returns-in-Err-begin_missing-clause-cause : goal.returns-in-Err-begin_missing-clause-cause
returns-in-Err-begin_missing-clause-cause g c = down_stops (g.S.Shelf.meaning c.args.shelf.now) (g.S.Shelf.meaning c.ready_group.new.shelf) (g.S.Shelf.meaning c.begin_missing.new.shelf) (Err c.in-Err-begin_missing.stop) c.in-Err-begin_missing.ensures.down

pub returns-clause-cause : goal.returns-clause-cause
returns-clause-cause g c = det_later (g.S.Shelf.meaning c.args.shelf.now) (g.S.Shelf.meaning c.begin_missing.new.shelf) (g.S.Shelf.meaning c.keep_begun.new.shelf) (λ u. let one = c.ready_group.ensures.goes.disk_faults u in let two = c.begin_missing.ensures.below.disk_faults u in omega (arith, one, two)) c.keep_begun.result c.keep_begun.ensures.cause
