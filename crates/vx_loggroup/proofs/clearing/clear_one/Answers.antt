-- `clear_one`: clauses stands, marks and off; what the calls ask.
use Rattle.std.proofs.Common.{Bool, false, refl, subst, sym, arith, ◌∙◌}
use Rattle.vx_disk.specs.Shelf.{Nothing}
use Rattle.vx_group.specs.Attaches.{region_count}
use Rattle.vx_group.specs.Holding.{wide}
use Rattle.vx_group.proofs.LostLemmas.{if_ok_from}
use Rattle.vx_grouplogs.specs.Marking.{HoldsMany, NoMarks}
use Rattle.vx_logs.specs.declared.logs.Logs.{Logs}
use Rattle.std.specs.Prelude.{slice_get}
use Rattle.vx_loggroup.specs.LoggedVolumes.{is_alike}
use Rattle.vx_loggroup.proofs.AlikeLemmas.{clears_set, here_stands, index_low, same_item, set_stands}
use Rattle.vx_loggroup.proofs.SetLemmas.{item_of, set_here}
use Rattle.vx_loggroup.proofs.SettleLemmas.{settle_none}
use Rattle.vx_loggroup.proofs.TakenMaps.{shrink_none, shrink_set}
use Rattle.vx_loggroup.proofs.clearing.clear_one.Goals as goal

pub index_mut-requires : goal.index_mut-requires
index_mut-requires g c = let lt = (index_low c.args.core.now c.args.logs.now.items c.args.alike.now false (g.S.Shelf.meaning c.args.shelf.now) c.args.vol c.requires.stands c.requires.there) in omega (arith, c.args.logs.now.ok, lt)

pub clear_group-requires-clause-log : goal.clear_group-requires-clause-log
clear_group-requires-clause-log g c = (c.requires.stands.each c.args.vol c.index_mut.result.now (item_of c.args.logs.now.items c.args.vol c.index_mut.result.now c.index_mut.ensures.value (index_low c.args.core.now c.args.logs.now.items c.args.alike.now false (g.S.Shelf.meaning c.args.shelf.now) c.args.vol c.requires.stands c.requires.there))).on refl

pub returns-clause-stands : goal.returns-clause-stands
returns-clause-stands g c =
    set_stands Nothing c.args.core.now c.clear_group.new.core c.args.logs.now.items c.args.alike.now c.args.alike.now false false c.args.vol c.clear_group.new.logs (g.S.Shelf.meaning c.args.shelf.now) (g.S.Shelf.meaning c.clear_group.new.shelf) c.requires.stands c.clear_group.ensures.stands c.clear_group.ensures.goes
    (λ w b x apart none. none) (λ off. off) c.clear_group.ensures.others (λ w apart. refl)
    (here_stands c.args.core.now c.clear_group.new.core c.args.vol c.index_mut.result.now c.clear_group.new.logs (is_alike c.args.alike.now c.args.vol) false (g.S.Shelf.meaning c.args.shelf.now) (g.S.Shelf.meaning c.clear_group.new.shelf)
    (c.requires.stands.each c.args.vol c.index_mut.result.now (item_of c.args.logs.now.items c.args.vol c.index_mut.result.now c.index_mut.ensures.value (index_low c.args.core.now c.args.logs.now.items c.args.alike.now false (g.S.Shelf.meaning c.args.shelf.now) c.args.vol c.requires.stands c.requires.there))) c.clear_group.ensures.goes (λ on. c.clear_group.ensures.log) c.clear_group.ensures.maps)

pub returns-clause-marks : goal.returns-clause-marks
returns-clause-marks g c = clears_set (wide c.args.core.now).config c.args.vol c.args.logs.now.items c.index_mut.result.now c.clear_group.new.logs (item_of c.args.logs.now.items c.args.vol c.index_mut.result.now c.index_mut.ensures.value (index_low c.args.core.now c.args.logs.now.items c.args.alike.now false (g.S.Shelf.meaning c.args.shelf.now) c.args.vol c.requires.stands c.requires.there)) c.clear_group.ensures.fewer

pub returns-clause-off : goal.returns-clause-off
returns-clause-off g c = if_ok_from c.clear_group.result (λ (done : Bool) off is kept (l k : Logs) was many now.
    let old = same_item (slice_get c.args.logs.now.items c.args.vol) c.index_mut.result.now l (item_of c.args.logs.now.items c.args.vol c.index_mut.result.now c.index_mut.ensures.value (index_low c.args.core.now c.args.logs.now.items c.args.alike.now false (g.S.Shelf.meaning c.args.shelf.now) c.args.vol c.requires.stands c.requires.there)) was in
    subst (λ (z : Logs). NoMarks (region_count (wide c.args.core.now).config c.args.vol) z) (set_here c.args.logs.now.items c.args.vol c.clear_group.new.logs k now) (off is (subst (λ (z : Logs). HoldsMany z.drl) (sym old) many))) c.clear_group.ensures.off

pub returns-then-is_down-clause-settles : goal.returns-then-is_down-clause-settles
returns-then-is_down-clause-settles g c = settle_none c.args.core.now (g.S.Shelf.meaning c.args.shelf.now)

pub returns-then-not-is_alike-clause-settles : goal.returns-then-not-is_alike-clause-settles
returns-then-not-is_alike-clause-settles g c = settle_none c.args.core.now (g.S.Shelf.meaning c.args.shelf.now)

pub returns-clause-settles : goal.returns-clause-settles
returns-clause-settles g c = record { goes = c.clear_group.ensures.goes; narrow = c.clear_group.ensures.narrow; loses = c.clear_group.ensures.loses; finds = c.clear_group.ensures.finds; below = c.clear_group.ensures.below }

pub returns-then-is_down-clause-shrink : goal.returns-then-is_down-clause-shrink
returns-then-is_down-clause-shrink g c = shrink_none c.args.logs.now.items

pub returns-then-not-is_alike-clause-shrink : goal.returns-then-not-is_alike-clause-shrink
returns-then-not-is_alike-clause-shrink g c = shrink_none c.args.logs.now.items

pub returns-clause-shrink : goal.returns-clause-shrink
returns-clause-shrink g c = shrink_set c.args.vol c.args.logs.now.items c.index_mut.result.now c.clear_group.new.logs (item_of c.args.logs.now.items c.args.vol c.index_mut.result.now c.index_mut.ensures.value (index_low c.args.core.now c.args.logs.now.items c.args.alike.now false (g.S.Shelf.meaning c.args.shelf.now) c.args.vol c.requires.stands c.requires.there)) c.clear_group.ensures.stay

pub returns-clause-trust : goal.returns-clause-trust
returns-clause-trust g c = c.clear_group.ensures.trust

pub returns-clause-agreed : goal.returns-clause-agreed
returns-clause-agreed g c = c.clear_group.ensures.agreed

pub returns-clause-cause : goal.returns-clause-cause
returns-clause-cause g c = c.clear_group.ensures.cause

pub returns-then-is_down-clause-stands : goal.returns-then-is_down-clause-stands
returns-then-is_down-clause-stands g c = c.requires.stands

pub returns-then-is_down-clause-off : goal.returns-then-is_down-clause-off
returns-then-is_down-clause-off g c = tt

pub returns-then-is_down-clause-trust : goal.returns-then-is_down-clause-trust
returns-then-is_down-clause-trust g c = tt

pub returns-then-is_down-clause-cause : goal.returns-then-is_down-clause-cause
returns-then-is_down-clause-cause g c = sym c.is_down.ensures ∙ c.if-is_down.true

pub returns-then-not-is_alike-clause-stands : goal.returns-then-not-is_alike-clause-stands
returns-then-not-is_alike-clause-stands g c = c.requires.stands

pub returns-then-not-is_alike-clause-trust : goal.returns-then-not-is_alike-clause-trust
returns-then-not-is_alike-clause-trust g c = λ is. is

pub returns-then-not-is_alike-clause-agreed : goal.returns-then-not-is_alike-clause-agreed
returns-then-not-is_alike-clause-agreed g c = tt
