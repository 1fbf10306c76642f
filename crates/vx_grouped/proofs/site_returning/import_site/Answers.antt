-- An import of a site's group that was deported.
use Rattle.std.proofs.Common.{◌≡◌, ◌∙◌, IsTrue, true, false, subst, sym, ⊎_elim, refl}
use Rattle.std.proofs.lemmas.Bool.{false_from_ne_true}
use Rattle.vx_group.proofs.CallLemmas.{not_down}
use Rattle.vx_untold.specs.Shades.{rack_of, shade_lawful, shade_meaning, shade_rack}
use Rattle.vx_grouped.specs.SiteReturns.{TellsNone}
use Rattle.vx_grouped.proofs.SinceReturns.{return_all, return_at, return_calls, return_none, return_then}
use Rattle.vx_grouped.proofs.SiteReturnLemmas.{imported_down, imported_early, imported_fell, imported_late, imported_up}
use Rattle.vx_grouped.proofs.StopLemmas.{still_can, early_goes}
use Rattle.vx_grouped.proofs.GivenUpLemmas.{rested_tells}
use Rattle.vx_grouped.proofs.TellLemmas.{alike_tells, early_tells, none_risen, none_tells}
use Rattle.vx_grouped.proofs.BringLemmas.{alike_self}
use Rattle.std.specs.Prelude.{Some}
use Rattle.vx_grouped.proofs.ReturnMapLemmas.{came_up, down_late, idle_of, less_idle, never_early}
use Rattle.vx_grouped.proofs.LessLemmas.{left_goes, left_self, less_away}
use Rattle.vx_grouped.proofs.site_returning.import_site.Goals as goal

pub returns-then-is_down-clause-since : goal.returns-then-is_down-clause-since
returns-then-is_down-clause-since g c = return_at (λ s. shade_meaning g.R.Shelf.meaning s) (shade_meaning g.R.Shelf.meaning c.args.rack) c.args.rack c.of.result.rack c.of.ensures.rack (return_none (shade_meaning g.R.Shelf.meaning c.args.rack))

pub returns-in-Ok-clause-imported : goal.returns-in-Ok-clause-imported
returns-in-Ok-clause-imported g c = λ n note away.
    let is_rack = (g.met.R.Rack g.world.𝓛 g.world.𝓜 g.world.𝓡 ((λ s x. x), (λ x. x), (λ x. x), λ x. x)).rack in
    imported_up n note (shade_rack g.R.Shelf.meaning is_rack) (shade_lawful g.R.Shelf.meaning (g.met.R.Shelf g.world.𝓛 g.world.𝓜 g.world.𝓡 ((λ s x. x), (λ x. x), (λ x. x), λ x. x)).lawful) c.args.rack away c.in-Ok.laid c.in-Ok.ensures.since c.in-Ok.ensures.told c.spelled.ensures (c.in-Ok.ensures.leaves n note)

pub returns-in-Ok-clause-since : goal.returns-in-Ok-clause-since
returns-in-Ok-clause-since g c = return_calls (shade_meaning g.R.Shelf.meaning c.args.rack) (shade_meaning g.R.Shelf.meaning c.in-Ok.laid.shelf) c.in-Ok.ensures.since (false_from_ne_true (shade_meaning g.R.Shelf.meaning c.in-Ok.laid.shelf).down c.in-Ok.ensures.up)

pub returns-else-fell-clause-imported : goal.returns-else-fell-clause-imported
returns-else-fell-clause-imported g c = λ n note away.
    let is_rack = (g.met.R.Rack g.world.𝓛 g.world.𝓜 g.world.𝓡 ((λ s x. x), (λ x. x), (λ x. x), λ x. x)).rack in
    imported_early n note (shade_rack g.R.Shelf.meaning is_rack) (shade_lawful g.R.Shelf.meaning (g.met.R.Shelf g.world.𝓛 g.world.𝓜 g.world.𝓡 ((λ s x. x), (λ x. x), (λ x. x), λ x. x)).lawful) c.args.rack away c.in-Err.rack c.in-Err.stop c.in-Err.ensures.since c.in-Err.ensures.told c.in-Err.ensures.stops c.requires.can c.of-kept.result c.of-kept.ensures.rack c.of-kept.ensures.agreed
    (sym c.is_early.ensures ∙ c.if-is_early.true) (not_down c.is_down-fell.result (shade_meaning g.R.Shelf.meaning c.in-Err.rack).down c.is_down-fell.ensures c.if-fell.false)

pub returns-else-fell-clause-since : goal.returns-else-fell-clause-since
returns-else-fell-clause-since g c =
    return_at (λ s. shade_meaning g.R.Shelf.meaning s) (shade_meaning g.R.Shelf.meaning c.args.rack) c.in-Err.rack c.of-kept.result.rack c.of-kept.ensures.rack
    (return_calls (shade_meaning g.R.Shelf.meaning c.args.rack) (shade_meaning g.R.Shelf.meaning c.in-Err.rack) c.in-Err.ensures.since
    (false_from_ne_true (shade_meaning g.R.Shelf.meaning c.in-Err.rack).down (not_down c.is_down-fell.result (shade_meaning g.R.Shelf.meaning c.in-Err.rack).down c.is_down-fell.ensures c.if-fell.false)))

pub of-kept-requires-clause-can : goal.of-kept-requires-clause-can
of-kept-requires-clause-can g c = λ κs lives agreed.
    still_can (shade_meaning g.R.Shelf.meaning c.args.rack) (shade_meaning g.R.Shelf.meaning c.in-Err.rack) c.in-Err.stop (sym c.is_early.ensures ∙ c.if-is_early.true) c.requires.can c.in-Err.ensures.stops

pub returns-then-is_down_stop-clause-imported : goal.returns-then-is_down_stop-clause-imported
returns-then-is_down_stop-clause-imported g c = λ n note away.
    let is_rack = (g.met.R.Rack g.world.𝓛 g.world.𝓜 g.world.𝓡 ((λ s x. x), (λ x. x), (λ x. x), λ x. x)).rack in
    imported_down n note (shade_rack g.R.Shelf.meaning is_rack) (shade_lawful g.R.Shelf.meaning (g.met.R.Shelf g.world.𝓛 g.world.𝓜 g.world.𝓡 ((λ s x. x), (λ x. x), (λ x. x), λ x. x)).lawful) c.args.rack away c.in-Err.rack c.in-Err.stop c.in-Err.ensures.since c.in-Err.ensures.told c.in-Err.ensures.stops c.requires.can
    c.fallen-rack.result c.fallen-rack.ensures.told c.fallen-rack.ensures.fell c.fallen-rack.ensures.counts c.fallen-rack.ensures.since (λ early. absurd (never_early c.in-Err.stop (sym c.is_early.ensures ∙ c.if-is_early.false) early)) (λ late. c.fallen-rack.ensures.dark refl)
    c.of-then-is_down_stop.result c.of-then-is_down_stop.ensures.rack c.of-then-is_down_stop.ensures.agreed (sym c.is_down_stop.ensures ∙ c.if-is_down_stop.true)

pub returns-then-is_down_stop-clause-since : goal.returns-then-is_down_stop-clause-since
returns-then-is_down_stop-clause-since g c =
    let is_rack = (g.met.R.Rack g.world.𝓛 g.world.𝓜 g.world.𝓡 ((λ s x. x), (λ x. x), (λ x. x), λ x. x)).rack in
    let racks = shade_rack g.R.Shelf.meaning is_rack in
    return_at (λ s. shade_meaning g.R.Shelf.meaning s) (shade_meaning g.R.Shelf.meaning c.args.rack) c.fallen-rack.result c.of-then-is_down_stop.result.rack c.of-then-is_down_stop.ensures.rack
    (return_all (shade_meaning g.R.Shelf.meaning c.args.rack) (shade_meaning g.R.Shelf.meaning c.args.rack) (shade_meaning g.R.Shelf.meaning c.in-Err.rack) (shade_meaning g.R.Shelf.meaning c.fallen-rack.result)
    (return_none (shade_meaning g.R.Shelf.meaning c.args.rack)) c.in-Err.ensures.since c.fallen-rack.ensures.since (racks c.fallen-rack.result) c.fallen-rack.ensures.fell.unarmed)

pub returns-else-is_down_stop-clause-imported : goal.returns-else-is_down_stop-clause-imported
returns-else-is_down_stop-clause-imported g c = λ n note away.
    let is_rack = (g.met.R.Rack g.world.𝓛 g.world.𝓜 g.world.𝓡 ((λ s x. x), (λ x. x), (λ x. x), λ x. x)).rack in
    imported_late n note (shade_rack g.R.Shelf.meaning is_rack) (shade_lawful g.R.Shelf.meaning (g.met.R.Shelf g.world.𝓛 g.world.𝓜 g.world.𝓡 ((λ s x. x), (λ x. x), (λ x. x), λ x. x)).lawful) c.args.rack away c.in-Err.rack c.in-Err.stop c.in-Err.ensures.since c.in-Err.ensures.told c.in-Err.ensures.stops c.requires.can
    c.fallen-rack.result c.fallen-rack.ensures.told c.fallen-rack.ensures.fell c.fallen-rack.ensures.counts c.fallen-rack.ensures.since (λ early. absurd (never_early c.in-Err.stop (sym c.is_early.ensures ∙ c.if-is_early.false) early)) (λ late. c.fallen-rack.ensures.dark refl)
    c.of-in-Err.result c.risen.result c.of-in-Err.ensures.rack c.of-in-Err.ensures.agreed c.risen.ensures.told (sym c.is_down_stop.ensures ∙ c.if-is_down_stop.false) c.risen.ensures.alike c.risen.ensures.up c.risen.ensures.armed

pub returns-else-is_down_stop-clause-since : goal.returns-else-is_down_stop-clause-since
returns-else-is_down_stop-clause-since g c =
    let is_rack = (g.met.R.Rack g.world.𝓛 g.world.𝓜 g.world.𝓡 ((λ s x. x), (λ x. x), (λ x. x), λ x. x)).rack in
    let racks = shade_rack g.R.Shelf.meaning is_rack in
    return_at (λ s. shade_meaning g.R.Shelf.meaning s) (shade_meaning g.R.Shelf.meaning c.args.rack) c.risen.result c.of-in-Err.result.rack c.of-in-Err.ensures.rack
    (return_then (shade_meaning g.R.Shelf.meaning c.args.rack) (shade_meaning g.R.Shelf.meaning c.fallen-rack.result) (shade_meaning g.R.Shelf.meaning c.risen.result)
    (return_all (shade_meaning g.R.Shelf.meaning c.args.rack) (shade_meaning g.R.Shelf.meaning c.args.rack) (shade_meaning g.R.Shelf.meaning c.in-Err.rack) (shade_meaning g.R.Shelf.meaning c.fallen-rack.result)
    (return_none (shade_meaning g.R.Shelf.meaning c.args.rack)) c.in-Err.ensures.since c.fallen-rack.ensures.since (racks c.fallen-rack.result) c.fallen-rack.ensures.fell.unarmed)
    c.risen.ensures.since)

pub returns-then-is_down-clause-told : goal.returns-then-is_down-clause-told
returns-then-is_down-clause-told g c = λ told. (subst (λ s. IsTrue (g.R.Shelf.meaning (rack_of s)).tells) c.of.ensures.rack told)

pub returns-else-fell-clause-told : goal.returns-else-fell-clause-told
returns-else-fell-clause-told g c = λ told. c.in-Err.ensures.told (subst (λ s. IsTrue (g.R.Shelf.meaning (rack_of s)).tells) c.of-kept.ensures.rack told)

pub returns-then-is_down_stop-clause-told : goal.returns-then-is_down_stop-clause-told
returns-then-is_down_stop-clause-told g c = λ told. c.in-Err.ensures.told (c.fallen-rack.ensures.told (subst (λ s. IsTrue (g.R.Shelf.meaning (rack_of s)).tells) c.of-then-is_down_stop.ensures.rack told))

pub returns-else-is_down_stop-clause-told : goal.returns-else-is_down_stop-clause-told
returns-else-is_down_stop-clause-told g c = λ told. c.in-Err.ensures.told (c.fallen-rack.ensures.told (c.risen.ensures.told (subst (λ s. IsTrue (g.R.Shelf.meaning (rack_of s)).tells) c.of-in-Err.ensures.rack told)))

pub of-requires-clause-tells : goal.of-requires-clause-tells
of-requires-clause-tells g c = λ κs lives r agreed is. rested_tells r c.args.rested (shade_meaning g.R.Shelf.meaning c.args.rack) is c.requires.tells

pub of-kept-requires-clause-tells : goal.of-kept-requires-clause-tells
of-kept-requires-clause-tells g c = λ κs lives r agreed is.
    rested_tells r c.args.rested (shade_meaning g.R.Shelf.meaning c.in-Err.rack) is
    (early_tells c.args.rested (shade_meaning g.R.Shelf.meaning c.args.rack) (shade_meaning g.R.Shelf.meaning c.in-Err.rack) c.in-Err.stop (sym c.is_early.ensures ∙ c.if-is_early.true) c.in-Err.ensures.stops (not_down c.is_down-fell.result (shade_meaning g.R.Shelf.meaning c.in-Err.rack).down c.is_down-fell.ensures c.if-fell.false) c.requires.tells)

pub of-requires-then-is_down_stop-clause-tells : goal.of-requires-then-is_down_stop-clause-tells
of-requires-then-is_down_stop-clause-tells g c = λ κs lives r agreed is.
    rested_tells r c.args.rested (shade_meaning g.R.Shelf.meaning c.fallen-rack.result) is
    (none_tells c.args.rested (shade_meaning g.R.Shelf.meaning c.fallen-rack.result) (c.fallen-rack.ensures.dark refl))

pub of-requires-in-Err-clause-tells : goal.of-requires-in-Err-clause-tells
of-requires-in-Err-clause-tells g c = λ κs lives r agreed is.
    rested_tells r c.args.rested (shade_meaning g.R.Shelf.meaning c.risen.result) is
    (alike_tells c.args.rested (shade_meaning g.R.Shelf.meaning c.fallen-rack.result) (shade_meaning g.R.Shelf.meaning c.risen.result) c.risen.ensures.alike
    (none_tells c.args.rested (shade_meaning g.R.Shelf.meaning c.fallen-rack.result) (c.fallen-rack.ensures.dark refl)))

pub returns-then-is_down-clause-maps : goal.returns-then-is_down-clause-maps
returns-then-is_down-clause-maps g c = λ early w x it. idle_of c.of.result c.args.rack (Some c.args.rested) c.of.ensures.rack c.of.ensures.rested w x it

pub returns-in-Ok-clause-maps : goal.returns-in-Ok-clause-maps
returns-in-Ok-clause-maps g c = came_up (shade_meaning g.R.Shelf.meaning c.args.rack) (shade_meaning g.R.Shelf.meaning c.args.rack) refl (λ u. refl) (λ u b v left. left) (λ k. refl) c.in-Ok.laid c.args.rested c.in-Ok.ensures.maps

pub returns-else-fell-clause-maps : goal.returns-else-fell-clause-maps
returns-else-fell-clause-maps g c = λ early w x it.
    let goes = early_goes (shade_meaning g.R.Shelf.meaning c.args.rack) (shade_meaning g.R.Shelf.meaning c.in-Err.rack) c.in-Err.stop early c.in-Err.ensures.stops in
    idle_of c.of-kept.result c.in-Err.rack (Some c.args.rested) c.of-kept.ensures.rack c.of-kept.ensures.rested w x
    (less_idle (shade_meaning g.R.Shelf.meaning c.args.rack) (shade_meaning g.R.Shelf.meaning c.in-Err.rack) goes.units goes.size (λ u b v left. ⊎_elim (λ was. was) (λ none. absurd none) (goes.leaves u b v left)) w x (Some c.args.rested) it)

pub returns-then-is_down_stop-clause-maps : goal.returns-then-is_down_stop-clause-maps
returns-then-is_down_stop-clause-maps g c = λ early w x it. absurd (down_late c.in-Err.stop (sym c.is_down_stop.ensures ∙ c.if-is_down_stop.true) early)

pub returns-else-is_down_stop-clause-maps : goal.returns-else-is_down_stop-clause-maps
returns-else-is_down_stop-clause-maps g c = λ early w x it. absurd (never_early c.in-Err.stop (sym c.is_early.ensures ∙ c.if-is_early.false) early)

-- the fuse ran out, and the refusal says nothing of it

pub returns-then-fell-clause-imported : goal.returns-then-fell-clause-imported
returns-then-fell-clause-imported g c = λ n note away.
    let is_rack = (g.met.R.Rack g.world.𝓛 g.world.𝓜 g.world.𝓡 ((λ s x. x), (λ x. x), (λ x. x), λ x. x)).rack in
    imported_fell n note (shade_rack g.R.Shelf.meaning is_rack) (shade_lawful g.R.Shelf.meaning (g.met.R.Shelf g.world.𝓛 g.world.𝓜 g.world.𝓡 ((λ s x. x), (λ x. x), (λ x. x), λ x. x)).lawful) c.args.rack away c.in-Err.rack c.in-Err.stop c.in-Err.ensures.since c.in-Err.ensures.told c.in-Err.ensures.stops c.requires.can
    c.fallen.result c.fallen.ensures.fell c.fallen.ensures.since (c.fallen.ensures.dark refl) (sym c.is_down-fell.ensures ∙ c.if-fell.true) c.of-idle.result c.of-idle.ensures.rack c.of-idle.ensures.agreed

pub returns-then-fell-clause-since : goal.returns-then-fell-clause-since
returns-then-fell-clause-since g c =
    let is_rack = (g.met.R.Rack g.world.𝓛 g.world.𝓜 g.world.𝓡 ((λ s x. x), (λ x. x), (λ x. x), λ x. x)).rack in
    let racks = shade_rack g.R.Shelf.meaning is_rack in
    return_at (λ s. shade_meaning g.R.Shelf.meaning s) (shade_meaning g.R.Shelf.meaning c.args.rack) c.fallen.result c.of-idle.result.rack c.of-idle.ensures.rack
    (return_all (shade_meaning g.R.Shelf.meaning c.args.rack) (shade_meaning g.R.Shelf.meaning c.args.rack) (shade_meaning g.R.Shelf.meaning c.in-Err.rack) (shade_meaning g.R.Shelf.meaning c.fallen.result)
    (return_none (shade_meaning g.R.Shelf.meaning c.args.rack)) c.in-Err.ensures.since c.fallen.ensures.since (racks c.fallen.result) c.fallen.ensures.fell.unarmed)

pub returns-then-fell-clause-told : goal.returns-then-fell-clause-told
returns-then-fell-clause-told g c = λ told. c.in-Err.ensures.told (c.fallen.ensures.told (subst (λ s. IsTrue (g.R.Shelf.meaning (rack_of s)).tells) c.of-idle.ensures.rack told))

pub returns-then-fell-clause-maps : goal.returns-then-fell-clause-maps
returns-then-fell-clause-maps g c = λ early w x it. let clash : false ≡ true = early in cc

pub of-idle-requires-clause-tells : goal.of-idle-requires-clause-tells
of-idle-requires-clause-tells g c = λ κs lives r agreed is. rested_tells r c.args.rested (shade_meaning g.R.Shelf.meaning c.fallen.result) is (none_tells c.args.rested (shade_meaning g.R.Shelf.meaning c.fallen.result) (c.fallen.ensures.dark refl))

pub returns-in-Ok-clause-brings : goal.returns-in-Ok-clause-brings
returns-in-Ok-clause-brings g c = record { first = c.args.rack; revived = alike_self (shade_meaning g.R.Shelf.meaning c.args.rack); brings = c.in-Ok.ensures.brings }

pub returns-then-is_down-clause-less : goal.returns-then-is_down-clause-less
returns-then-is_down-clause-less g c = λ early.
    less_away c.of.result c.args.rack (shade_meaning g.R.Shelf.meaning c.args.rack) c.of.ensures.agreed c.of.ensures.rack (left_self (shade_meaning g.R.Shelf.meaning c.args.rack))

pub returns-in-Ok-clause-less : goal.returns-in-Ok-clause-less
returns-in-Ok-clause-less g c = tt

pub returns-else-fell-clause-less : goal.returns-else-fell-clause-less
returns-else-fell-clause-less g c = λ early.
    less_away c.of-kept.result c.in-Err.rack (shade_meaning g.R.Shelf.meaning c.args.rack) c.of-kept.ensures.agreed c.of-kept.ensures.rack
    (left_goes (shade_meaning g.R.Shelf.meaning c.args.rack) (shade_meaning g.R.Shelf.meaning c.in-Err.rack)
    (early_goes (shade_meaning g.R.Shelf.meaning c.args.rack) (shade_meaning g.R.Shelf.meaning c.in-Err.rack) c.in-Err.stop early c.in-Err.ensures.stops))

pub returns-then-fell-clause-less : goal.returns-then-fell-clause-less
returns-then-fell-clause-less g c = λ early. absurd (let clash : false ≡ true = early in cc)

pub returns-then-is_down_stop-clause-less : goal.returns-then-is_down_stop-clause-less
returns-then-is_down_stop-clause-less g c = λ early. absurd (down_late c.in-Err.stop (sym c.is_down_stop.ensures ∙ c.if-is_down_stop.true) early)

pub returns-else-is_down_stop-clause-less : goal.returns-else-is_down_stop-clause-less
returns-else-is_down_stop-clause-less g c = λ early. absurd (never_early c.in-Err.stop (sym c.is_early.ensures ∙ c.if-is_early.false) early)

-- ---- of an import that was refused behind its first write

pub returns-then-is_down-clause-dark : goal.returns-then-is_down-clause-dark
returns-then-is_down-clause-dark g c = λ late. absurd (let clash : true ≡ false = late in cc)

pub returns-in-Ok-clause-dark : goal.returns-in-Ok-clause-dark
returns-in-Ok-clause-dark g c = tt

pub returns-then-fell-clause-dark : goal.returns-then-fell-clause-dark
returns-then-fell-clause-dark g c = λ late. subst (λ s. TellsNone (shade_meaning g.R.Shelf.meaning s)) (sym c.of-idle.ensures.rack) (c.fallen.ensures.dark refl)

pub returns-else-fell-clause-dark : goal.returns-else-fell-clause-dark
returns-else-fell-clause-dark g c = λ late. absurd (never_early c.in-Err.stop late (sym c.is_early.ensures ∙ c.if-is_early.true))

pub returns-then-is_down_stop-clause-dark : goal.returns-then-is_down_stop-clause-dark
returns-then-is_down_stop-clause-dark g c = λ late. subst (λ s. TellsNone (shade_meaning g.R.Shelf.meaning s)) (sym c.of-then-is_down_stop.ensures.rack) (c.fallen-rack.ensures.dark refl)

pub returns-else-is_down_stop-clause-dark : goal.returns-else-is_down_stop-clause-dark
returns-else-is_down_stop-clause-dark g c = λ late.
    subst (λ s. TellsNone (shade_meaning g.R.Shelf.meaning s)) (sym c.of-in-Err.ensures.rack)
    (none_risen (shade_meaning g.R.Shelf.meaning c.fallen-rack.result) (shade_meaning g.R.Shelf.meaning c.risen.result) c.risen.ensures.alike c.risen.ensures.since.tells (c.fallen-rack.ensures.dark refl))
