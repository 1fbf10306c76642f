-- `att_following`: its clauses; what its calls ask.
use Rattle.std.proofs.Common.{◌≡◌, ◌∙◌, ℕ, Bool, None, Option, ap, false, true, refl, subst, sym, arith}
use Rattle.std.specs.Prelude.{◌||◌, not, IfSome}
use Rattle.vx_group.specs.Holding.{wide}
use Rattle.vx_group.proofs.FindingLemmas.{then_finds}
use Rattle.vx_group.proofs.HoldLemmas.{wide_shape}
use Rattle.vx_group.proofs.RegainLemmas.{then_regains}
use Rattle.vx_model.specs.declared.errors.Stop.TheVariants.{No as Refused}
use Rattle.vx_model.specs.declared.no.No.{No}
use Rattle.vx_loggroup.specs.Attaching.{MapSource, map_there, went}
use Rattle.vx_loggroup.specs.LoggedVolumes.{LoggedStands, is_alike}
use Rattle.vx_loggroup.proofs.FollowLemmas.{attached_low, copied_attaches, copied_ends, copied_finds, copied_holds, copied_keeps, copied_regains, followed, kept_attaches, none_off, none_takes, or_none}
use Rattle.vx_loggroup.proofs.GoingLemmas.{lost_attaches, lost_holds, lost_keeps, refused_attaches, refused_maps, source_other, still_leaves, stop_before}
use Rattle.vx_loggroup.proofs.KeepingLemmas.{shape_places}
use Rattle.vx_loggroup.proofs.MadeLogs.{ok_clash}
use Rattle.vx_group.proofs.SettleCalls.{then_told}
use Rattle.vx_logged.proofs.StandLemmas.{wide_maps_idle}
use Rattle.vx_loggroup.proofs.following.att_following.Goals as goal

pub source_of-source-requires : goal.source_of-source-requires
source_of-source-requires g c =
    record { few = let few = c.requires.stands.group.stands.few in let same = (wide_shape c.args.core.now).volumes in omega (arith, few, same) }

pub att_whole-requires : goal.att_whole-requires
att_whole-requires g c =
    record { stands = c.requires.stands }

pub take_map-requires-clause-stands : goal.take_map-requires-clause-stands
take_map-requires-clause-stands g c =
    (followed c.args.core.now c.att_whole.new.core c.args.logs.now.items c.args.alike.now c.args.stopped c.args.vol c.args.plex c.in-Some.from (map_there c.args.logs.now.items c.args.core.now.inner.config c.args.stopped (g.S.Shelf.meaning c.args.shelf.now).down c.args.vol c.args.plex) (g.S.Shelf.meaning c.args.shelf.now) (g.S.Shelf.meaning c.att_whole.new.shelf) (g.met.S.Shelf.lawful c.args.shelf.now) c.requires.stands c.att_whole.ensures.stands (subst (λ (o : Option ℕ). IfSome o (MapSource c.args.core.now.inner.config c.args.alike.now c.args.stopped c.args.vol c.args.plex)) c.in-Some.is c.source_of-source.ensures.is) c.att_whole.ensures.attaches (c.in-Ok.ensures.ends (subst (λ (o : Option ℕ). IfSome o (MapSource c.args.core.now.inner.config c.args.alike.now c.args.stopped c.args.vol c.args.plex)) c.in-Some.is c.source_of-source.ensures.is).off).is_on).stands

pub take_map-requires-clause-there : goal.take_map-requires-clause-there
take_map-requires-clause-there g c =
    (followed c.args.core.now c.att_whole.new.core c.args.logs.now.items c.args.alike.now c.args.stopped c.args.vol c.args.plex c.in-Some.from (map_there c.args.logs.now.items c.args.core.now.inner.config c.args.stopped (g.S.Shelf.meaning c.args.shelf.now).down c.args.vol c.args.plex) (g.S.Shelf.meaning c.args.shelf.now) (g.S.Shelf.meaning c.att_whole.new.shelf) (g.met.S.Shelf.lawful c.args.shelf.now) c.requires.stands c.att_whole.ensures.stands (subst (λ (o : Option ℕ). IfSome o (MapSource c.args.core.now.inner.config c.args.alike.now c.args.stopped c.args.vol c.args.plex)) c.in-Some.is c.source_of-source.ensures.is) c.att_whole.ensures.attaches (c.in-Ok.ensures.ends (subst (λ (o : Option ℕ). IfSome o (MapSource c.args.core.now.inner.config c.args.alike.now c.args.stopped c.args.vol c.args.plex)) c.in-Some.is c.source_of-source.ensures.is).off).is_on).there

pub take_map-requires-clause-to : goal.take_map-requires-clause-to
take_map-requires-clause-to g c =
    (followed c.args.core.now c.att_whole.new.core c.args.logs.now.items c.args.alike.now c.args.stopped c.args.vol c.args.plex c.in-Some.from (map_there c.args.logs.now.items c.args.core.now.inner.config c.args.stopped (g.S.Shelf.meaning c.args.shelf.now).down c.args.vol c.args.plex) (g.S.Shelf.meaning c.args.shelf.now) (g.S.Shelf.meaning c.att_whole.new.shelf) (g.met.S.Shelf.lawful c.args.shelf.now) c.requires.stands c.att_whole.ensures.stands (subst (λ (o : Option ℕ). IfSome o (MapSource c.args.core.now.inner.config c.args.alike.now c.args.stopped c.args.vol c.args.plex)) c.in-Some.is c.source_of-source.ensures.is) c.att_whole.ensures.attaches (c.in-Ok.ensures.ends (subst (λ (o : Option ℕ). IfSome o (MapSource c.args.core.now.inner.config c.args.alike.now c.args.stopped c.args.vol c.args.plex)) c.in-Some.is c.source_of-source.ensures.is).off).is_on).low

pub take_map-requires-clause-from : goal.take_map-requires-clause-from
take_map-requires-clause-from g c =
    (followed c.args.core.now c.att_whole.new.core c.args.logs.now.items c.args.alike.now c.args.stopped c.args.vol c.args.plex c.in-Some.from (map_there c.args.logs.now.items c.args.core.now.inner.config c.args.stopped (g.S.Shelf.meaning c.args.shelf.now).down c.args.vol c.args.plex) (g.S.Shelf.meaning c.args.shelf.now) (g.S.Shelf.meaning c.att_whole.new.shelf) (g.met.S.Shelf.lawful c.args.shelf.now) c.requires.stands c.att_whole.ensures.stands (subst (λ (o : Option ℕ). IfSome o (MapSource c.args.core.now.inner.config c.args.alike.now c.args.stopped c.args.vol c.args.plex)) c.in-Some.is c.source_of-source.ensures.is) c.att_whole.ensures.attaches (c.in-Ok.ensures.ends (subst (λ (o : Option ℕ). IfSome o (MapSource c.args.core.now.inner.config c.args.alike.now c.args.stopped c.args.vol c.args.plex)) c.in-Some.is c.source_of-source.ensures.is).off).is_on).under

pub take_map-requires-clause-apart : goal.take_map-requires-clause-apart
take_map-requires-clause-apart g c =
    (followed c.args.core.now c.att_whole.new.core c.args.logs.now.items c.args.alike.now c.args.stopped c.args.vol c.args.plex c.in-Some.from (map_there c.args.logs.now.items c.args.core.now.inner.config c.args.stopped (g.S.Shelf.meaning c.args.shelf.now).down c.args.vol c.args.plex) (g.S.Shelf.meaning c.args.shelf.now) (g.S.Shelf.meaning c.att_whole.new.shelf) (g.met.S.Shelf.lawful c.args.shelf.now) c.requires.stands c.att_whole.ensures.stands (subst (λ (o : Option ℕ). IfSome o (MapSource c.args.core.now.inner.config c.args.alike.now c.args.stopped c.args.vol c.args.plex)) c.in-Some.is c.source_of-source.ensures.is) c.att_whole.ensures.attaches (c.in-Ok.ensures.ends (subst (λ (o : Option ℕ). IfSome o (MapSource c.args.core.now.inner.config c.args.alike.now c.args.stopped c.args.vol c.args.plex)) c.in-Some.is c.source_of-source.ensures.is).off).is_on).apart

pub take_map-requires-clause-reads : goal.take_map-requires-clause-reads
take_map-requires-clause-reads g c =
    (followed c.args.core.now c.att_whole.new.core c.args.logs.now.items c.args.alike.now c.args.stopped c.args.vol c.args.plex c.in-Some.from (map_there c.args.logs.now.items c.args.core.now.inner.config c.args.stopped (g.S.Shelf.meaning c.args.shelf.now).down c.args.vol c.args.plex) (g.S.Shelf.meaning c.args.shelf.now) (g.S.Shelf.meaning c.att_whole.new.shelf) (g.met.S.Shelf.lawful c.args.shelf.now) c.requires.stands c.att_whole.ensures.stands (subst (λ (o : Option ℕ). IfSome o (MapSource c.args.core.now.inner.config c.args.alike.now c.args.stopped c.args.vol c.args.plex)) c.in-Some.is c.source_of-source.ensures.is) c.att_whole.ensures.attaches (c.in-Ok.ensures.ends (subst (λ (o : Option ℕ). IfSome o (MapSource c.args.core.now.inner.config c.args.alike.now c.args.stopped c.args.vol c.args.plex)) c.in-Some.is c.source_of-source.ensures.is).off).is_on).reads

pub returns-in-Err-clause-stands : goal.returns-in-Err-clause-stands
returns-in-Err-clause-stands g c =
    c.in-Err.ensures.stands

pub returns-in-Err-clause-refused : goal.returns-in-Err-clause-refused
returns-in-Err-clause-refused g c =
    c.in-Err.ensures.refused

pub returns-in-Err-clause-tests : goal.returns-in-Err-clause-tests
returns-in-Err-clause-tests g c =
    λ why is. refl

pub returns-in-Err-clause-already : goal.returns-in-Err-clause-already
returns-in-Err-clause-already g c =
    c.in-Err.ensures.already

pub returns-in-Err-clause-ends : goal.returns-in-Err-clause-ends
returns-in-Err-clause-ends g c =
    c.in-Err.ensures.ends

pub returns-in-Err-clause-regains : goal.returns-in-Err-clause-regains
returns-in-Err-clause-regains g c =
    c.in-Err.ensures.regains

pub returns-in-Err-clause-keeps : goal.returns-in-Err-clause-keeps
returns-in-Err-clause-keeps g c =
    c.in-Err.ensures.keeps

pub returns-in-Err-clause-finds : goal.returns-in-Err-clause-finds
returns-in-Err-clause-finds g c =
    c.in-Err.ensures.finds

pub returns-in-Err-clause-cause : goal.returns-in-Err-clause-cause
returns-in-Err-clause-cause g c =
    c.in-Err.ensures.cause

pub returns-in-Err-clause-attaches : goal.returns-in-Err-clause-attaches
returns-in-Err-clause-attaches g c =
    kept_attaches ((is_alike c.args.alike.now c.args.vol || c.args.stopped) || not (went c.args.logs.now.items c.args.logs.now.items c.args.vol)) c.args.vol c.args.plex (map_there c.args.logs.now.items c.args.core.now.inner.config c.args.stopped (g.S.Shelf.meaning c.args.shelf.now).down c.args.vol c.args.plex) c.args.core.now c.att_whole.new.core (g.S.Shelf.meaning c.args.shelf.now) (g.S.Shelf.meaning c.att_whole.new.shelf) c.att_whole.ensures.attaches

pub returns-in-Err-clause-maps : goal.returns-in-Err-clause-maps
returns-in-Err-clause-maps g c =
    λ leaves. refl

pub returns-in-Err-clause-takes : goal.returns-in-Err-clause-takes
returns-in-Err-clause-takes g c =
    λ takes. absurd (let clash : true ≡ false = sym (still_leaves (is_alike c.args.alike.now c.args.vol || c.args.stopped) c.args.logs.now.items c.args.vol) ∙ takes in cc)

pub returns-in-Err-clause-kept : goal.returns-in-Err-clause-kept
returns-in-Err-clause-kept g c =
    λ off same going. tt

pub returns-in-None-clause-stands : goal.returns-in-None-clause-stands
returns-in-None-clause-stands g c =
    c.in-Ok.ensures.stands

pub returns-in-None-clause-refused : goal.returns-in-None-clause-refused
returns-in-None-clause-refused g c =
    c.in-Ok.ensures.refused

pub returns-in-None-clause-tests : goal.returns-in-None-clause-tests
returns-in-None-clause-tests g c =
    λ why is. refl

pub returns-in-None-clause-already : goal.returns-in-None-clause-already
returns-in-None-clause-already g c =
    c.in-Ok.ensures.already

pub returns-in-None-clause-count : goal.returns-in-None-clause-count
returns-in-None-clause-count g c =
    c.in-Ok.ensures.count

pub returns-in-None-clause-ends : goal.returns-in-None-clause-ends
returns-in-None-clause-ends g c =
    c.in-Ok.ensures.ends

pub returns-in-None-clause-regains : goal.returns-in-None-clause-regains
returns-in-None-clause-regains g c =
    c.in-Ok.ensures.regains

pub returns-in-None-clause-held : goal.returns-in-None-clause-held
returns-in-None-clause-held g c =
    c.in-Ok.ensures.held

pub returns-in-None-clause-keeps : goal.returns-in-None-clause-keeps
returns-in-None-clause-keeps g c =
    c.in-Ok.ensures.keeps

pub returns-in-None-clause-trust : goal.returns-in-None-clause-trust
returns-in-None-clause-trust g c =
    c.in-Ok.ensures.trust

pub returns-in-None-clause-finds : goal.returns-in-None-clause-finds
returns-in-None-clause-finds g c =
    c.in-Ok.ensures.finds

pub returns-in-None-clause-free : goal.returns-in-None-clause-free
returns-in-None-clause-free g c =
    c.in-Ok.ensures.free

pub returns-in-None-clause-attaches : goal.returns-in-None-clause-attaches
returns-in-None-clause-attaches g c =
    kept_attaches (is_alike c.args.alike.now c.args.vol || c.args.stopped) c.args.vol c.args.plex (map_there c.args.logs.now.items c.args.core.now.inner.config c.args.stopped (g.S.Shelf.meaning c.args.shelf.now).down c.args.vol c.args.plex) c.args.core.now c.att_whole.new.core (g.S.Shelf.meaning c.args.shelf.now) (g.S.Shelf.meaning c.att_whole.new.shelf) c.att_whole.ensures.attaches

pub returns-in-None-clause-maps : goal.returns-in-None-clause-maps
returns-in-None-clause-maps g c =
    λ leaves. refl

pub returns-in-None-clause-kept : goal.returns-in-None-clause-kept
returns-in-None-clause-kept g c =
    λ off same going. absurd (none_off c.args.core.now (g.S.Shelf.meaning c.args.shelf.now) (is_alike c.args.alike.now c.args.vol) c.args.stopped c.args.vol c.args.plex c.source_of-source.result c.requires.stands.group c.in-None.is (attached_low c.args.core.now.inner.config c.args.vol c.args.plex c.att_whole.result _ c.in-Ok.is (λ (why : No) is. (c.att_whole.ensures.refused why is).0)) c.source_of-source.ensures.all off same going)

pub returns-in-None-clause-takes : goal.returns-in-None-clause-takes
returns-in-None-clause-takes g c =
    none_takes c.args.core.now (g.S.Shelf.meaning c.args.shelf.now) (is_alike c.args.alike.now c.args.vol) c.args.stopped c.args.vol c.args.plex c.args.logs.now.items c.source_of-source.result c.requires.stands.group c.in-None.is (attached_low c.args.core.now.inner.config c.args.vol c.args.plex c.att_whole.result _ c.in-Ok.is (λ (why : No) is. (c.att_whole.ensures.refused why is).0)) c.source_of-source.ensures.all

pub lose_gone-requires-clause-stands : goal.lose_gone-requires-clause-stands
lose_gone-requires-clause-stands g c =
    c.take_map.ensures.stands

pub lose_gone-requires-clause-alone : goal.lose_gone-requires-clause-alone
lose_gone-requires-clause-alone g c =
    c.in-Ok.ensures.alone (subst (λ (o : Option ℕ). IfSome o (MapSource c.args.core.now.inner.config c.args.alike.now c.args.stopped c.args.vol c.args.plex)) c.in-Some.is c.source_of-source.ensures.is).off

pub lose_gone-requires-clause-on : goal.lose_gone-requires-clause-on
lose_gone-requires-clause-on g c =
    copied_ends c.att_whole.new.core c.args.vol c.args.plex c.att_whole.new.core.inner.config (g.S.Shelf.meaning c.att_whole.new.shelf) (g.S.Shelf.meaning c.take_map.new.shelf) (c.take_map.ensures.stands).group c.take_map.ensures.less (c.in-Ok.ensures.ends (subst (λ (o : Option ℕ). IfSome o (MapSource c.args.core.now.inner.config c.args.alike.now c.args.stopped c.args.vol c.args.plex)) c.in-Some.is c.source_of-source.ensures.is).off)

pub lose_gone-requires-clause-other : goal.lose_gone-requires-clause-other
lose_gone-requires-clause-other g c =
    source_other c.args.core.now c.att_whole.new.core c.args.alike.now c.args.stopped c.args.vol c.args.plex c.in-Some.from (map_there c.args.logs.now.items c.args.core.now.inner.config c.args.stopped (g.S.Shelf.meaning c.args.shelf.now).down c.args.vol c.args.plex) (g.S.Shelf.meaning c.args.shelf.now) (g.S.Shelf.meaning c.att_whole.new.shelf) (subst (λ (o : Option ℕ). IfSome o (MapSource c.args.core.now.inner.config c.args.alike.now c.args.stopped c.args.vol c.args.plex)) c.in-Some.is c.source_of-source.ensures.is) c.att_whole.ensures.attaches

pub returns-in-Ok-lose_gone-clause-stands : goal.returns-in-Ok-lose_gone-clause-stands
returns-in-Ok-lose_gone-clause-stands g c =
    subst (λ (b : Bool). LoggedStands c.lose_gone.new.core c.take_map.new.logs.items c.args.alike.now b (g.S.Shelf.meaning c.lose_gone.new.shelf)) (sym (subst (λ (o : Option ℕ). IfSome o (MapSource c.args.core.now.inner.config c.args.alike.now c.args.stopped c.args.vol c.args.plex)) c.in-Some.is c.source_of-source.ensures.is).going) c.lose_gone.ensures.stands

pub returns-in-Ok-lose_gone-clause-refused : goal.returns-in-Ok-lose_gone-clause-refused
returns-in-Ok-lose_gone-clause-refused g c =
    λ why is. absurd (ok_clash _ (Refused why) ((c.in-Ok.ensures.refused why is).0))

pub returns-in-Ok-lose_gone-clause-tests : goal.returns-in-Ok-lose_gone-clause-tests
returns-in-Ok-lose_gone-clause-tests g c =
    λ why is. absurd (ok_clash _ (Refused why) ((c.in-Ok.ensures.refused why is).0))

pub returns-in-Ok-lose_gone-clause-already : goal.returns-in-Ok-lose_gone-clause-already
returns-in-Ok-lose_gone-clause-already g c =
    λ may on. absurd (let clash : false ≡ true = sym (subst (λ (o : Option ℕ). IfSome o (MapSource c.args.core.now.inner.config c.args.alike.now c.args.stopped c.args.vol c.args.plex)) c.in-Some.is c.source_of-source.ensures.is).off ∙ on in cc)

pub returns-in-Ok-lose_gone-clause-count : goal.returns-in-Ok-lose_gone-clause-count
returns-in-Ok-lose_gone-clause-count g c =
    c.in-Ok.ensures.count

pub returns-in-Ok-lose_gone-clause-attaches : goal.returns-in-Ok-lose_gone-clause-attaches
returns-in-Ok-lose_gone-clause-attaches g c =
    lost_attaches c.args.vol c.args.plex (map_there c.args.logs.now.items c.args.core.now.inner.config c.args.stopped (g.S.Shelf.meaning c.args.shelf.now).down c.args.vol c.args.plex) c.args.core.now c.att_whole.new.core c.lose_gone.new.core (g.S.Shelf.meaning c.args.shelf.now) (g.S.Shelf.meaning c.take_map.new.shelf) (g.S.Shelf.meaning c.lose_gone.new.shelf) (c.lose_gone.ensures.attaches (map_there c.args.logs.now.items c.args.core.now.inner.config c.args.stopped (g.S.Shelf.meaning c.args.shelf.now).down c.args.vol c.args.plex)) (is_alike c.args.alike.now c.args.vol || c.args.stopped)
    (copied_attaches (is_alike c.args.alike.now c.args.vol || c.args.stopped) c.args.vol c.args.plex (map_there c.args.logs.now.items c.args.core.now.inner.config c.args.stopped (g.S.Shelf.meaning c.args.shelf.now).down c.args.vol c.args.plex) c.args.core.now c.att_whole.new.core (g.S.Shelf.meaning c.args.shelf.now) (g.S.Shelf.meaning c.att_whole.new.shelf) (g.S.Shelf.meaning c.take_map.new.shelf) (or_none (is_alike c.args.alike.now c.args.vol) c.args.stopped (subst (λ (o : Option ℕ). IfSome o (MapSource c.args.core.now.inner.config c.args.alike.now c.args.stopped c.args.vol c.args.plex)) c.in-Some.is c.source_of-source.ensures.is).apart (subst (λ (o : Option ℕ). IfSome o (MapSource c.args.core.now.inner.config c.args.alike.now c.args.stopped c.args.vol c.args.plex)) c.in-Some.is c.source_of-source.ensures.is).going) c.att_whole.ensures.attaches c.take_map.ensures.below c.take_map.ensures.goes)

pub returns-in-Ok-lose_gone-clause-ends : goal.returns-in-Ok-lose_gone-clause-ends
returns-in-Ok-lose_gone-clause-ends g c =
    λ off. c.in-Ok-lose_gone.ensures.ends

pub returns-in-Ok-lose_gone-clause-regains : goal.returns-in-Ok-lose_gone-clause-regains
returns-in-Ok-lose_gone-clause-regains g c =
    then_regains (g.S.Shelf.meaning c.args.shelf.now) (g.S.Shelf.meaning c.take_map.new.shelf) (g.S.Shelf.meaning c.lose_gone.new.shelf) (λ u. let one = c.att_whole.ensures.attaches.acts.faults u in let two = c.take_map.ensures.below.faults u in omega (arith, one, two)) (c.lose_gone.ensures.attaches None).acts.faults c.args.core.now.inner.config c.att_whole.new.core.inner.config c.lose_gone.new.core.inner.config c.args.vol c.args.plex c.lose_gone.ensures.failing
    (copied_regains c.args.core.now.inner.config c.att_whole.new.core.inner.config c.args.vol c.args.plex (g.S.Shelf.meaning c.args.shelf.now) (g.S.Shelf.meaning c.att_whole.new.shelf) (g.S.Shelf.meaning c.take_map.new.shelf) c.take_map.ensures.below.faults c.att_whole.ensures.regains)

pub returns-in-Ok-lose_gone-clause-held : goal.returns-in-Ok-lose_gone-clause-held
returns-in-Ok-lose_gone-clause-held g c =
    λ off. lost_holds (λ s. g.S.Shelf.meaning s) c.args.core.now.inner.config c.att_whole.new.core.inner.config c.lose_gone.new.core.inner.config c.args.vol c.args.plex c.take_map.new.shelf c.lose_gone.new.shelf (c.lose_gone.ensures.attaches None).acts.faults c.lose_gone.ensures.failing
    (copied_holds (λ s. g.S.Shelf.meaning s) c.args.core.now.inner.config c.att_whole.new.core.inner.config c.args.vol c.args.plex c.att_whole.new.shelf c.take_map.new.shelf c.take_map.ensures.below.faults (c.in-Ok.ensures.held off))

pub returns-in-Ok-lose_gone-clause-maps : goal.returns-in-Ok-lose_gone-clause-maps
returns-in-Ok-lose_gone-clause-maps g c =
    λ leaves. absurd (let clash : true ≡ false = sym leaves ∙ (or_none (is_alike c.args.alike.now c.args.vol) c.args.stopped (subst (λ (o : Option ℕ). IfSome o (MapSource c.args.core.now.inner.config c.args.alike.now c.args.stopped c.args.vol c.args.plex)) c.in-Some.is c.source_of-source.ensures.is).apart (subst (λ (o : Option ℕ). IfSome o (MapSource c.args.core.now.inner.config c.args.alike.now c.args.stopped c.args.vol c.args.plex)) c.in-Some.is c.source_of-source.ensures.is).going) in cc)

pub returns-in-Ok-lose_gone-clause-kept : goal.returns-in-Ok-lose_gone-clause-kept
returns-in-Ok-lose_gone-clause-kept g c =
    λ off same going. c.in-Ok-lose_gone.ensures.kept

pub returns-in-Ok-lose_gone-clause-trust : goal.returns-in-Ok-lose_gone-clause-trust
returns-in-Ok-lose_gone-clause-trust g c =
    λ is. c.in-Ok-lose_gone.ensures.trust (c.in-Ok.ensures.trust is)

pub returns-in-Ok-lose_gone-clause-free : goal.returns-in-Ok-lose_gone-clause-free
returns-in-Ok-lose_gone-clause-free g c =
    λ was. c.in-Ok-lose_gone.ensures.free

pub returns-in-Ok-lose_gone-clause-cause : goal.returns-in-Ok-lose_gone-clause-cause
returns-in-Ok-lose_gone-clause-cause g c =
    λ may. tt

pub returns-in-Ok-lose_gone-clause-takes : goal.returns-in-Ok-lose_gone-clause-takes
returns-in-Ok-lose_gone-clause-takes g c =
    λ takes. record { from = c.in-Some.from; is_on = (subst (λ (o : Option ℕ). IfSome o (MapSource c.args.core.now.inner.config c.args.alike.now c.args.stopped c.args.vol c.args.plex)) c.in-Some.is c.source_of-source.ensures.is).on; takes = c.take_map.ensures.takes }

pub returns-in-Ok-lose_gone-clause-keeps : goal.returns-in-Ok-lose_gone-clause-keeps
returns-in-Ok-lose_gone-clause-keeps g c =
    lost_keeps c.args.core.now c.att_whole.new.core c.lose_gone.new.core c.args.logs.now.items c.take_map.new.logs.items (g.S.Shelf.meaning c.args.shelf.now) (g.S.Shelf.meaning c.take_map.new.shelf) (g.S.Shelf.meaning c.lose_gone.new.shelf) c.att_whole.ensures.attaches.shape (λ u. let one = c.att_whole.ensures.attaches.acts.faults u in let two = c.take_map.ensures.below.faults u in omega (arith, one, two)) (c.lose_gone.ensures.attaches None).acts.faults (c.lose_gone.ensures.attaches None).acts.falls
    (copied_keeps c.args.core.now c.att_whole.new.core c.args.logs.now.items c.take_map.new.logs.items (g.S.Shelf.meaning c.args.shelf.now) (g.S.Shelf.meaning c.att_whole.new.shelf) (g.S.Shelf.meaning c.take_map.new.shelf) (shape_places c.args.core.now.inner.config c.att_whole.new.core.inner.config c.att_whole.ensures.attaches.shape) c.att_whole.ensures.attaches.acts.faults c.take_map.ensures.below.faults c.take_map.ensures.below.falls c.att_whole.ensures.keeps c.take_map.ensures.stays)
    c.lose_gone.ensures.stays c.lose_gone.ensures.full

pub returns-in-Ok-lose_gone-clause-finds : goal.returns-in-Ok-lose_gone-clause-finds
returns-in-Ok-lose_gone-clause-finds g c =
    then_finds (wide c.args.core.now) (wide c.att_whole.new.core) (wide c.lose_gone.new.core) (g.S.Shelf.meaning c.args.shelf.now) (g.S.Shelf.meaning c.take_map.new.shelf) (g.S.Shelf.meaning c.lose_gone.new.shelf) (copied_finds c.args.core.now c.att_whole.new.core (g.S.Shelf.meaning c.args.shelf.now) (g.S.Shelf.meaning c.att_whole.new.shelf) (g.S.Shelf.meaning c.take_map.new.shelf) c.att_whole.ensures.finds c.take_map.ensures.less) c.lose_gone.ensures.finds

pub returns-in-Err-lose_gone-clause-stands : goal.returns-in-Err-lose_gone-clause-stands
returns-in-Err-lose_gone-clause-stands g c =
    subst (λ (b : Bool). LoggedStands c.lose_gone.new.core c.take_map.new.logs.items c.args.alike.now b (g.S.Shelf.meaning c.lose_gone.new.shelf)) (sym (subst (λ (o : Option ℕ). IfSome o (MapSource c.args.core.now.inner.config c.args.alike.now c.args.stopped c.args.vol c.args.plex)) c.in-Some.is c.source_of-source.ensures.is).going) c.lose_gone.ensures.stands

pub returns-in-Err-lose_gone-clause-refused : goal.returns-in-Err-lose_gone-clause-refused
returns-in-Err-lose_gone-clause-refused g c =
    λ why is. absurd (ok_clash _ (Refused why) ((c.in-Ok.ensures.refused why is).0))

pub returns-in-Err-lose_gone-clause-tests : goal.returns-in-Err-lose_gone-clause-tests
returns-in-Err-lose_gone-clause-tests g c =
    λ why is. absurd (ok_clash _ (Refused why) ((c.in-Ok.ensures.refused why is).0))

pub returns-in-Err-lose_gone-clause-already : goal.returns-in-Err-lose_gone-clause-already
returns-in-Err-lose_gone-clause-already g c =
    λ may on. absurd (let clash : false ≡ true = sym (subst (λ (o : Option ℕ). IfSome o (MapSource c.args.core.now.inner.config c.args.alike.now c.args.stopped c.args.vol c.args.plex)) c.in-Some.is c.source_of-source.ensures.is).off ∙ on in cc)

pub returns-in-Err-lose_gone-clause-count : goal.returns-in-Err-lose_gone-clause-count
returns-in-Err-lose_gone-clause-count g c =
    λ off. tt

pub returns-in-Err-lose_gone-clause-attaches : goal.returns-in-Err-lose_gone-clause-attaches
returns-in-Err-lose_gone-clause-attaches g c =
    refused_attaches (is_alike c.args.alike.now c.args.vol) c.args.stopped c.args.logs.now.items c.take_map.new.logs.items c.args.vol c.args.plex (map_there c.args.logs.now.items c.args.core.now.inner.config c.args.stopped (g.S.Shelf.meaning c.args.shelf.now).down c.args.vol c.args.plex) c.args.core.now c.att_whole.new.core c.lose_gone.new.core (g.S.Shelf.meaning c.args.shelf.now) (g.S.Shelf.meaning c.att_whole.new.shelf) (g.S.Shelf.meaning c.take_map.new.shelf) (g.S.Shelf.meaning c.lose_gone.new.shelf) (subst (λ (o : Option ℕ). IfSome o (MapSource c.args.core.now.inner.config c.args.alike.now c.args.stopped c.args.vol c.args.plex)) c.in-Some.is c.source_of-source.ensures.is).apart (subst (λ (o : Option ℕ). IfSome o (MapSource c.args.core.now.inner.config c.args.alike.now c.args.stopped c.args.vol c.args.plex)) c.in-Some.is c.source_of-source.ensures.is).going c.in-Err-lose_gone.ensures.gone
    (λ none. ap g.S.Shelf.meaning (c.take_map.ensures.none none).1) c.att_whole.ensures.attaches c.take_map.ensures.below c.take_map.ensures.goes (c.lose_gone.ensures.attaches (map_there c.args.logs.now.items c.args.core.now.inner.config c.args.stopped (g.S.Shelf.meaning c.args.shelf.now).down c.args.vol c.args.plex))

pub returns-in-Err-lose_gone-clause-ends : goal.returns-in-Err-lose_gone-clause-ends
returns-in-Err-lose_gone-clause-ends g c =
    λ off. c.in-Err-lose_gone.ensures.ends

pub returns-in-Err-lose_gone-clause-regains : goal.returns-in-Err-lose_gone-clause-regains
returns-in-Err-lose_gone-clause-regains g c =
    then_regains (g.S.Shelf.meaning c.args.shelf.now) (g.S.Shelf.meaning c.take_map.new.shelf) (g.S.Shelf.meaning c.lose_gone.new.shelf) (λ u. let one = c.att_whole.ensures.attaches.acts.faults u in let two = c.take_map.ensures.below.faults u in omega (arith, one, two)) (c.lose_gone.ensures.attaches None).acts.faults c.args.core.now.inner.config c.att_whole.new.core.inner.config c.lose_gone.new.core.inner.config c.args.vol c.args.plex c.lose_gone.ensures.failing
    (copied_regains c.args.core.now.inner.config c.att_whole.new.core.inner.config c.args.vol c.args.plex (g.S.Shelf.meaning c.args.shelf.now) (g.S.Shelf.meaning c.att_whole.new.shelf) (g.S.Shelf.meaning c.take_map.new.shelf) c.take_map.ensures.below.faults c.att_whole.ensures.regains)

pub returns-in-Err-lose_gone-clause-held : goal.returns-in-Err-lose_gone-clause-held
returns-in-Err-lose_gone-clause-held g c =
    λ off. tt

pub returns-in-Err-lose_gone-clause-maps : goal.returns-in-Err-lose_gone-clause-maps
returns-in-Err-lose_gone-clause-maps g c =
    refused_maps (is_alike c.args.alike.now c.args.vol) c.args.stopped c.args.logs.now.items c.take_map.new.logs.items c.args.vol (subst (λ (o : Option ℕ). IfSome o (MapSource c.args.core.now.inner.config c.args.alike.now c.args.stopped c.args.vol c.args.plex)) c.in-Some.is c.source_of-source.ensures.is).apart (subst (λ (o : Option ℕ). IfSome o (MapSource c.args.core.now.inner.config c.args.alike.now c.args.stopped c.args.vol c.args.plex)) c.in-Some.is c.source_of-source.ensures.is).going c.in-Err-lose_gone.ensures.gone (λ none. (c.take_map.ensures.none none).0)

pub returns-in-Err-lose_gone-clause-kept : goal.returns-in-Err-lose_gone-clause-kept
returns-in-Err-lose_gone-clause-kept g c =
    λ off same going. tt

pub returns-in-Err-lose_gone-clause-cause : goal.returns-in-Err-lose_gone-clause-cause
returns-in-Err-lose_gone-clause-cause g c =
    λ may. stop_before ℕ (Unit {0}) (g.S.Shelf.meaning c.args.shelf.now) (g.S.Shelf.meaning c.take_map.new.shelf) (g.S.Shelf.meaning c.lose_gone.new.shelf) c.in-Err-lose_gone.stop (λ d. let one = c.att_whole.ensures.attaches.acts.disk_faults d in let two = c.take_map.ensures.below.disk_faults d in omega (arith, one, two)) c.in-Err-lose_gone.ensures.cause

pub returns-in-Err-lose_gone-clause-takes : goal.returns-in-Err-lose_gone-clause-takes
returns-in-Err-lose_gone-clause-takes g c =
    λ takes. record { from = c.in-Some.from; is_on = (subst (λ (o : Option ℕ). IfSome o (MapSource c.args.core.now.inner.config c.args.alike.now c.args.stopped c.args.vol c.args.plex)) c.in-Some.is c.source_of-source.ensures.is).on; takes = c.take_map.ensures.takes }

pub returns-in-Err-lose_gone-clause-keeps : goal.returns-in-Err-lose_gone-clause-keeps
returns-in-Err-lose_gone-clause-keeps g c =
    lost_keeps c.args.core.now c.att_whole.new.core c.lose_gone.new.core c.args.logs.now.items c.take_map.new.logs.items (g.S.Shelf.meaning c.args.shelf.now) (g.S.Shelf.meaning c.take_map.new.shelf) (g.S.Shelf.meaning c.lose_gone.new.shelf) c.att_whole.ensures.attaches.shape (λ u. let one = c.att_whole.ensures.attaches.acts.faults u in let two = c.take_map.ensures.below.faults u in omega (arith, one, two)) (c.lose_gone.ensures.attaches None).acts.faults (c.lose_gone.ensures.attaches None).acts.falls
    (copied_keeps c.args.core.now c.att_whole.new.core c.args.logs.now.items c.take_map.new.logs.items (g.S.Shelf.meaning c.args.shelf.now) (g.S.Shelf.meaning c.att_whole.new.shelf) (g.S.Shelf.meaning c.take_map.new.shelf) (shape_places c.args.core.now.inner.config c.att_whole.new.core.inner.config c.att_whole.ensures.attaches.shape) c.att_whole.ensures.attaches.acts.faults c.take_map.ensures.below.faults c.take_map.ensures.below.falls c.att_whole.ensures.keeps c.take_map.ensures.stays)
    c.lose_gone.ensures.stays c.lose_gone.ensures.full

pub returns-in-Err-lose_gone-clause-finds : goal.returns-in-Err-lose_gone-clause-finds
returns-in-Err-lose_gone-clause-finds g c =
    then_finds (wide c.args.core.now) (wide c.att_whole.new.core) (wide c.lose_gone.new.core) (g.S.Shelf.meaning c.args.shelf.now) (g.S.Shelf.meaning c.take_map.new.shelf) (g.S.Shelf.meaning c.lose_gone.new.shelf) (copied_finds c.args.core.now c.att_whole.new.core (g.S.Shelf.meaning c.args.shelf.now) (g.S.Shelf.meaning c.att_whole.new.shelf) (g.S.Shelf.meaning c.take_map.new.shelf) c.att_whole.ensures.finds c.take_map.ensures.less) c.lose_gone.ensures.finds

pub returns-in-Err-clause-settles : goal.returns-in-Err-clause-settles
returns-in-Err-clause-settles g c = c.in-Err.ensures.settles

pub returns-in-None-clause-settles : goal.returns-in-None-clause-settles
returns-in-None-clause-settles g c = c.in-Ok.ensures.settles

pub returns-in-Ok-lose_gone-clause-settles : goal.returns-in-Ok-lose_gone-clause-settles
returns-in-Ok-lose_gone-clause-settles g c =
    then_told (wide c.args.core.now) (wide c.att_whole.new.core) (wide c.lose_gone.new.core) (g.S.Shelf.meaning c.args.shelf.now) (g.S.Shelf.meaning c.take_map.new.shelf) (g.S.Shelf.meaning c.lose_gone.new.shelf)
    (then_told (wide c.args.core.now) (wide c.att_whole.new.core) (wide c.att_whole.new.core) (g.S.Shelf.meaning c.args.shelf.now) (g.S.Shelf.meaning c.att_whole.new.shelf) (g.S.Shelf.meaning c.take_map.new.shelf) c.att_whole.ensures.settles
    (wide_maps_idle c.att_whole.new.core c.args.vol (g.S.Shelf.meaning c.att_whole.new.shelf) (g.S.Shelf.meaning c.take_map.new.shelf) c.att_whole.ensures.stands.group c.take_map.ensures.below c.take_map.ensures.less).settles)
    c.lose_gone.ensures.settles

pub returns-in-Err-lose_gone-clause-settles : goal.returns-in-Err-lose_gone-clause-settles
returns-in-Err-lose_gone-clause-settles g c =
    then_told (wide c.args.core.now) (wide c.att_whole.new.core) (wide c.lose_gone.new.core) (g.S.Shelf.meaning c.args.shelf.now) (g.S.Shelf.meaning c.take_map.new.shelf) (g.S.Shelf.meaning c.lose_gone.new.shelf)
    (then_told (wide c.args.core.now) (wide c.att_whole.new.core) (wide c.att_whole.new.core) (g.S.Shelf.meaning c.args.shelf.now) (g.S.Shelf.meaning c.att_whole.new.shelf) (g.S.Shelf.meaning c.take_map.new.shelf) c.att_whole.ensures.settles
    (wide_maps_idle c.att_whole.new.core c.args.vol (g.S.Shelf.meaning c.att_whole.new.shelf) (g.S.Shelf.meaning c.take_map.new.shelf) c.att_whole.ensures.stands.group c.take_map.ensures.below c.take_map.ensures.less).settles)
    c.lose_gone.ensures.settles
