-- A recovery of a site's group.
use Rattle.std.proofs.Common.{◌≡◌, ◌∙◌, IsTrue, true, false, subst, sym, ⊎_elim}
use Rattle.std.proofs.lemmas.Bool.{false_from_ne_true}
use Rattle.vx_untold.specs.Shades.{rack_of, shade_lawful, shade_meaning, shade_rack}
use Rattle.vx_grouped.specs.SiteReturns.{TellsNone}
use Rattle.vx_grouped.proofs.SinceReturns.{return_all, return_at, return_calls, return_none, return_then}
use Rattle.vx_grouped.proofs.SiteReturnLemmas.{recovered_not, recovered_up}
use Rattle.vx_grouped.proofs.GivenUpLemmas.{rested_tells}
use Rattle.vx_grouped.proofs.TellLemmas.{alike_tells, fallen_tells}
use Rattle.std.specs.Prelude.{Some}
use Rattle.vx_grouped.proofs.ReturnMapLemmas.{came_up, crashed_down, down_of, less_down}
use Rattle.vx_grouped.proofs.StopLemmas.{early_goes}
use Rattle.vx_grouped.proofs.LessLemmas.{left_back, left_self, less_fell}
use Rattle.vx_grouped.proofs.site_returning.recover_site.Goals as goal

pub returns-in-Ok-clause-recovered : goal.returns-in-Ok-clause-recovered
returns-in-Ok-clause-recovered g c = λ n note down.
    let is_rack = (g.met.R.Rack g.world.𝓛 g.world.𝓜 g.world.𝓡 ((λ s x. x), (λ x. x), (λ x. x), λ x. x)).rack in
    let racks = shade_rack g.R.Shelf.meaning is_rack in
    let laws = shade_lawful g.R.Shelf.meaning (g.met.R.Shelf g.world.𝓛 g.world.𝓜 g.world.𝓡 ((λ s x. x), (λ x. x), (λ x. x), λ x. x)).lawful in
    recovered_up n note racks laws c.args.rack c.risen.result down c.risen.ensures.told c.risen.ensures.alike c.risen.ensures.up c.risen.ensures.armed c.in-Ok.laid c.in-Ok.ensures.since c.in-Ok.ensures.told c.spelled.ensures (c.in-Ok.ensures.leaves n note)

pub returns-in-Err-clause-recovered : goal.returns-in-Err-clause-recovered
returns-in-Err-clause-recovered g c = λ n note down.
    let is_rack = (g.met.R.Rack g.world.𝓛 g.world.𝓜 g.world.𝓡 ((λ s x. x), (λ x. x), (λ x. x), λ x. x)).rack in
    let racks = shade_rack g.R.Shelf.meaning is_rack in
    let laws = shade_lawful g.R.Shelf.meaning (g.met.R.Shelf g.world.𝓛 g.world.𝓜 g.world.𝓡 ((λ s x. x), (λ x. x), (λ x. x), λ x. x)).lawful in
    recovered_not n note racks laws c.args.rack c.risen.result down c.risen.ensures.told c.risen.ensures.alike c.risen.ensures.up c.risen.ensures.armed c.in-Err.rack c.of-in-Err.result c.fallen.result c.of-in-Err.ensures.rack c.of-in-Err.ensures.agreed c.in-Err.ensures.told c.fallen.ensures.told c.in-Err.stop c.in-Err.ensures.since c.in-Err.ensures.stops
    (c.risen.ensures.can c.requires.can) c.fallen.ensures.fell c.fallen.ensures.counts c.fallen.ensures.since (λ early. c.fallen.ensures.stopped (c.is_early-early.ensures ∙ early)) (λ late. c.fallen.ensures.dark (c.is_early-early.ensures ∙ late))

pub returns-in-Err-clause-since : goal.returns-in-Err-clause-since
returns-in-Err-clause-since g c =
    let is_rack = (g.met.R.Rack g.world.𝓛 g.world.𝓜 g.world.𝓡 ((λ s x. x), (λ x. x), (λ x. x), λ x. x)).rack in
    let racks = shade_rack g.R.Shelf.meaning is_rack in
    return_at (λ s. shade_meaning g.R.Shelf.meaning s) (shade_meaning g.R.Shelf.meaning c.args.rack) c.fallen.result c.of-in-Err.result.rack c.of-in-Err.ensures.rack
    (return_all (shade_meaning g.R.Shelf.meaning c.args.rack) (shade_meaning g.R.Shelf.meaning c.risen.result) (shade_meaning g.R.Shelf.meaning c.in-Err.rack) (shade_meaning g.R.Shelf.meaning c.fallen.result)
    c.risen.ensures.since c.in-Err.ensures.since c.fallen.ensures.since (racks c.fallen.result) c.fallen.ensures.fell.unarmed)

pub returns-in-Ok-clause-since : goal.returns-in-Ok-clause-since
returns-in-Ok-clause-since g c =
    return_then (shade_meaning g.R.Shelf.meaning c.args.rack) (shade_meaning g.R.Shelf.meaning c.risen.result) (shade_meaning g.R.Shelf.meaning c.in-Ok.laid.shelf) c.risen.ensures.since
    (return_calls (shade_meaning g.R.Shelf.meaning c.risen.result) (shade_meaning g.R.Shelf.meaning c.in-Ok.laid.shelf) c.in-Ok.ensures.since (false_from_ne_true (shade_meaning g.R.Shelf.meaning c.in-Ok.laid.shelf).down c.in-Ok.ensures.up))

pub returns-then-not-is_down-clause-since : goal.returns-then-not-is_down-clause-since
returns-then-not-is_down-clause-since g c = return_at (λ s. shade_meaning g.R.Shelf.meaning s) (shade_meaning g.R.Shelf.meaning c.args.rack) c.args.rack c.of.result.rack c.of.ensures.rack (return_none (shade_meaning g.R.Shelf.meaning c.args.rack))

pub returns-in-Err-clause-told : goal.returns-in-Err-clause-told
returns-in-Err-clause-told g c = λ told. c.risen.ensures.told (c.in-Err.ensures.told (c.fallen.ensures.told (subst (λ s. IsTrue (g.R.Shelf.meaning (rack_of s)).tells) c.of-in-Err.ensures.rack told)))

pub returns-in-Ok-clause-told : goal.returns-in-Ok-clause-told
returns-in-Ok-clause-told g c = λ told. c.risen.ensures.told (c.in-Ok.ensures.told told)

pub returns-then-not-is_down-clause-told : goal.returns-then-not-is_down-clause-told
returns-then-not-is_down-clause-told g c = λ told. subst (λ s. IsTrue (g.R.Shelf.meaning (rack_of s)).tells) c.of.ensures.rack told

pub of-requires-clause-tells : goal.of-requires-clause-tells
of-requires-clause-tells g c = λ κs lives r agreed is. rested_tells r c.args.rested (shade_meaning g.R.Shelf.meaning c.args.rack) is c.requires.tells

pub import_watched-requires-clause-can : goal.import_watched-requires-clause-can
import_watched-requires-clause-can g c = λ κs lives. c.risen.ensures.can c.requires.can

pub import_watched-requires-clause-tells : goal.import_watched-requires-clause-tells
import_watched-requires-clause-tells g c = λ κs lives. alike_tells c.args.rested (shade_meaning g.R.Shelf.meaning c.args.rack) (shade_meaning g.R.Shelf.meaning c.risen.result) c.risen.ensures.alike c.requires.tells

pub of-requires-in-Err-clause-tells : goal.of-requires-in-Err-clause-tells
of-requires-in-Err-clause-tells g c = λ κs lives r agreed is.
    rested_tells r c.crashed.result (shade_meaning g.R.Shelf.meaning c.fallen.result) is
    (fallen_tells c.args.rested c.crashed.result c.crashed.ensures.alike c.crashed.ensures.drls c.crashed.ensures.maps (shade_meaning g.R.Shelf.meaning c.risen.result) (shade_meaning g.R.Shelf.meaning c.in-Err.rack) (shade_meaning g.R.Shelf.meaning c.fallen.result) c.in-Err.stop c.is_early-early.result c.is_early-early.ensures
    (alike_tells c.args.rested (shade_meaning g.R.Shelf.meaning c.args.rack) (shade_meaning g.R.Shelf.meaning c.risen.result) c.risen.ensures.alike c.requires.tells) c.in-Err.ensures.stops c.fallen.ensures.stopped c.fallen.ensures.dark)

pub returns-then-not-is_down-clause-maps : goal.returns-then-not-is_down-clause-maps
returns-then-not-is_down-clause-maps g c = λ early w x it. down_of c.of.result c.args.rack (Some c.args.rested) c.of.ensures.rack c.of.ensures.rested w x it

pub returns-in-Ok-clause-maps : goal.returns-in-Ok-clause-maps
returns-in-Ok-clause-maps g c =
    came_up (shade_meaning g.R.Shelf.meaning c.args.rack) (shade_meaning g.R.Shelf.meaning c.risen.result) c.risen.ensures.alike.contents.units c.risen.ensures.alike.contents.size c.risen.ensures.alike.contents.leaves c.risen.ensures.alike.counts.disk_faults c.in-Ok.laid c.args.rested c.in-Ok.ensures.maps

pub returns-in-Err-clause-maps : goal.returns-in-Err-clause-maps
returns-in-Err-clause-maps g c = λ early w x it.
    let alike = c.risen.ensures.alike.contents in
    let goes = early_goes (shade_meaning g.R.Shelf.meaning c.risen.result) (shade_meaning g.R.Shelf.meaning c.in-Err.rack) c.in-Err.stop early c.in-Err.ensures.stops in
    let fell = c.fallen.ensures.stopped (c.is_early-early.ensures ∙ early) in
    down_of c.of-in-Err.result c.fallen.result (Some c.crashed.result) c.of-in-Err.ensures.rack c.of-in-Err.ensures.rested w x
    (crashed_down c.args.rested c.crashed.result c.crashed.ensures.alike c.crashed.ensures.maps w x (shade_meaning g.R.Shelf.meaning c.fallen.result)
    (less_down (shade_meaning g.R.Shelf.meaning c.in-Err.rack) (shade_meaning g.R.Shelf.meaning c.fallen.result) fell.units fell.size fell.leaves w x (Some c.args.rested)
    (less_down (shade_meaning g.R.Shelf.meaning c.risen.result) (shade_meaning g.R.Shelf.meaning c.in-Err.rack) goes.units goes.size (λ u b v left. ⊎_elim (λ was. was) (λ none. absurd none) (goes.leaves u b v left)) w x (Some c.args.rested)
    (less_down (shade_meaning g.R.Shelf.meaning c.args.rack) (shade_meaning g.R.Shelf.meaning c.risen.result) alike.units alike.size alike.leaves w x (Some c.args.rested) it))))

pub returns-in-Ok-clause-brings : goal.returns-in-Ok-clause-brings
returns-in-Ok-clause-brings g c = record { first = c.risen.result; revived = c.risen.ensures.alike; brings = c.in-Ok.ensures.brings }

pub returns-then-not-is_down-clause-less : goal.returns-then-not-is_down-clause-less
returns-then-not-is_down-clause-less g c = λ early.
    less_fell c.of.result c.args.rack (shade_meaning g.R.Shelf.meaning c.args.rack) c.of.ensures.agreed c.of.ensures.rack (left_self (shade_meaning g.R.Shelf.meaning c.args.rack))

pub returns-in-Ok-clause-less : goal.returns-in-Ok-clause-less
returns-in-Ok-clause-less g c = tt

pub returns-in-Err-clause-less : goal.returns-in-Err-clause-less
returns-in-Err-clause-less g c = λ early.
    less_fell c.of-in-Err.result c.fallen.result (shade_meaning g.R.Shelf.meaning c.args.rack) c.of-in-Err.ensures.agreed c.of-in-Err.ensures.rack
    (left_back (shade_meaning g.R.Shelf.meaning c.args.rack) (shade_meaning g.R.Shelf.meaning c.risen.result) (shade_meaning g.R.Shelf.meaning c.in-Err.rack) (shade_meaning g.R.Shelf.meaning c.fallen.result) c.risen.ensures.alike
    (early_goes (shade_meaning g.R.Shelf.meaning c.risen.result) (shade_meaning g.R.Shelf.meaning c.in-Err.rack) c.in-Err.stop early c.in-Err.ensures.stops) (c.fallen.ensures.stopped (c.is_early-early.ensures ∙ early)))

pub returns-then-not-is_down-clause-dark : goal.returns-then-not-is_down-clause-dark
returns-then-not-is_down-clause-dark g c = λ late. absurd (let clash : true ≡ false = late in cc)

pub returns-in-Ok-clause-dark : goal.returns-in-Ok-clause-dark
returns-in-Ok-clause-dark g c = tt

pub returns-in-Err-clause-dark : goal.returns-in-Err-clause-dark
returns-in-Err-clause-dark g c = λ late. subst (λ s. TellsNone (shade_meaning g.R.Shelf.meaning s)) (sym c.of-in-Err.ensures.rack) (c.fallen.ensures.dark (c.is_early-early.ensures ∙ late))
