-- Each case of a line that recovers a site.
use Rattle.std.proofs.Common.{◌≡◌, ◌∙◌, ap, subst, sym, refl, arith}
use Rattle.vx_model.specs.declared.site.SiteState.TheVariants.{Bare as IsBare, Down as IsDown, Up as IsUp}
use Rattle.vx_order.specs.declared.facts.SiteFacts.{SiteFacts}
use Rattle.std.proofs.lemmas.Result.{err_from_is_err_and}
use Rattle.vx_script.specs.declared.line.ScriptLine.TheVariants.{Recover}
use Rattle.vx_diskset.specs.Asked.{SameFailing}
use Rattle.vx_diskset.proofs.KeepsFailing.{failing_same}
use Rattle.vx_events.specs.Facts.{site_number}
use Rattle.vx_events.proofs.Places.{some_same}
use Rattle.vx_events.proofs.Refused.{recover_may}
use Rattle.vx_site_lines.specs.Rises.{IsEmptyRiseRoom}
use Rattle.vx_yard.specs.Yards.{in_files}
use Rattle.vx_yard.proofs.Lists.{get_at}
use Rattle.vx_yard.proofs.NamedSite.{named_same, place_at, unbegun_by, unbegun_for, unbegun_site}
use Rattle.vx_yard.proofs.OfSites.{recovers_none, recovers_rest, recovers_up}
use Rattle.vx_yard.specs.OfSites.{RecoversAs}
use Rattle.vx_site_lines.proofs.RecoverSite.{never_deported, recover_from_bare, recover_from_down, recover_from_up, state_found}
use Rattle.vx_yard.proofs.Seats.{named_some}
use Rattle.vx_site_lines.proofs.recover.recover_line.Goals as goal

pub site_of-site-requires-clause-named : goal.site_of-site-requires-clause-named
site_of-site-requires-clause-named g c = λ κs within. named_some c.args.yard.now c.args.name.now (recover_may c.args.yard.now.facts.items (in_files c.args.yard.now) c.args.name.now c.requires.free)

pub unreachable-requires : goal.unreachable-requires
unreachable-requires g c =
    let at = get_at c.args.yard.now.facts.items c.site_of-site.result c.index.result.now c.site_of-site.ensures.fact c.index.ensures in
    absurd (omega (arith, c.if-index-lt-LEAST_BLOCKS.true, (c.requires.kept.each c.site_of-site.result c.index.result.now at).blocks))

pub unreachable-requires-in-Deported : goal.unreachable-requires-in-Deported
unreachable-requires-in-Deported g c =
    let at = get_at c.args.yard.now.facts.items c.site_of-site.result c.index-3.result.now c.site_of-site.ensures.fact c.index-3.ensures in
    let facts = c.args.yard.now.facts.items in
    absurd (never_deported facts (in_files c.args.yard.now) c.args.name.now c.index-3.result.now c.requires.free
    (λ n. named_same c.args.yard.now c.args.name.now c.site_of-site.result c.index-3.result.now n c.site_of-site.ensures.seat at) c.in-Deported.is)

pub rise_bare-requires-clause-room : goal.rise_bare-requires-clause-room
rise_bare-requires-clause-room g c κs within = λ f at.
    let facts = c.args.yard.now.facts.items in
    let s = c.site_of-site.result in
    let two = get_at facts s c.index-2.result.now c.site_of-site.ensures.fact c.index-2.ensures in
    subst (λ (x : SiteFacts). IsEmptyRiseRoom x.blocks c.in_ok-room.room) (some_same (sym two ∙ at)) c.in_ok-room.ensures

pub returns-then-count-ge-MOST_NUMBER-clause-leads : goal.returns-then-count-ge-MOST_NUMBER-clause-leads
returns-then-count-ge-MOST_NUMBER-clause-leads g c = λ d stands apart. unbegun_for d c.args.yard.now stands

pub returns-then-count-ge-MOST_NUMBER-clause-asked : goal.returns-then-count-ge-MOST_NUMBER-clause-asked
returns-then-count-ge-MOST_NUMBER-clause-asked g c = λ d stands apart.
    recovers_none (d.world.nodes (site_number d.world c.args.name.now)).state (site_number d.world c.args.name.now) c.args.yard.now
    (unbegun_site SameFailing d c.args.yard.now c.args.name.now failing_same stands (recover_may c.args.yard.now.facts.items (in_files c.args.yard.now) c.args.name.now c.requires.free))

pub returns-in_err-room-clause-leads : goal.returns-in_err-room-clause-leads
returns-in_err-room-clause-leads g c = λ d stands apart.
    let p = err_from_is_err_and c.from_residual.result c.from_residual.ensures.1 in
    unbegun_by d (Recover c.args.name.now) c.args.yard.now _ c.from_residual.result p.0 p.1 refl refl refl (record { flight = refl; assemblies = refl; feeders = refl }) stands

pub returns-in_err-room-clause-asked : goal.returns-in_err-room-clause-asked
returns-in_err-room-clause-asked g c = λ d stands apart.
    recovers_none (d.world.nodes (site_number d.world c.args.name.now)).state (site_number d.world c.args.name.now) c.args.yard.now
    (unbegun_site SameFailing d c.args.yard.now c.args.name.now failing_same stands (recover_may c.args.yard.now.facts.items (in_files c.args.yard.now) c.args.name.now c.requires.free))

pub returns-in-Bare-clause-leads : goal.returns-in-Bare-clause-leads
returns-in-Bare-clause-leads g c = λ d stands apart.
    let facts = c.args.yard.now.facts.items in
    let s = c.site_of-site.result in
    recover_from_bare d c.args.yard.now c.rise_bare.new.yard c.args.name.now s c.index-3.result.now c.rise_bare.result stands c.site_of-site.ensures.seat
    (get_at facts s c.index-3.result.now c.site_of-site.ensures.fact c.index-3.ensures) c.in-Bare.is c.rise_bare.ensures.rises

pub returns-in-Bare-clause-asked : goal.returns-in-Bare-clause-asked
returns-in-Bare-clause-asked g c = λ d stands apart.
    let y = c.args.yard.now in
    let s = c.site_of-site.result in
    let seat = c.site_of-site.ensures.seat in
    let at = get_at y.facts.items s c.index-3.result.now c.site_of-site.ensures.fact c.index-3.ensures in
    let state = state_found d y c.args.name.now s c.index-3.result.now stands seat at ∙ c.in-Bare.is in
    subst (λ k. RecoversAs (d.world.nodes k).state k y c.rise_bare.new.yard) (sym (place_at d y c.args.name.now s stands seat).number)
    (recovers_rest (d.world.nodes s).state s y c.rise_bare.new.yard (λ up. let clash : IsBare ≡ IsUp = sym state ∙ up in cc) c.rise_bare.ensures.failing)

pub returns-in-Up-clause-leads : goal.returns-in-Up-clause-leads
returns-in-Up-clause-leads g c = λ d stands apart.
    let facts = c.args.yard.now.facts.items in
    let s = c.site_of-site.result in
    let at = get_at facts s c.index-3.result.now c.site_of-site.ensures.fact c.index-3.ensures in
    let same = some_same (sym (get_at facts s c.index-2.result.now c.site_of-site.ensures.fact c.index-2.ensures) ∙ at) in
    recover_from_up d c.args.yard.now c.go_down.new.yard c.rise.new.yard c.args.name.now s c.index-2.result.now.blocks c.rise.result c.index-3.result.now stands apart c.site_of-site.ensures.seat at c.in-Up.is
    (ap (λ (f : SiteFacts). f.blocks) same) c.go_down.ensures.falls
    (λ e h choice taken name number from fit stood below down over blocks. c.rise.ensures.rises e h choice taken name number from fit stood below down over blocks c.in_ok-room.ensures.start)

pub returns-in-Up-clause-asked : goal.returns-in-Up-clause-asked
returns-in-Up-clause-asked g c = λ d stands apart.
    let y = c.args.yard.now in
    let s = c.site_of-site.result in
    let seat = c.site_of-site.ensures.seat in
    let place = place_at d y c.args.name.now s stands seat in
    let at = get_at y.facts.items s c.index-3.result.now c.site_of-site.ensures.fact c.index-3.ensures in
    let state = state_found d y c.args.name.now s c.index-3.result.now stands seat at ∙ c.in-Up.is in
    subst (λ k. RecoversAs (d.world.nodes k).state k y c.rise.new.yard) (sym place.number)
    (recovers_up (d.world.nodes s).state s y c.go_down.new.yard c.rise.new.yard c.site_of-site.ensures.disk_set (c.go_down.ensures.asked d stands place.below state) c.go_down.ensures.failing c.rise.ensures.failing)

pub returns-in-Down-clause-leads : goal.returns-in-Down-clause-leads
returns-in-Down-clause-leads g c = λ d stands apart.
    let facts = c.args.yard.now.facts.items in
    let s = c.site_of-site.result in
    let at = get_at facts s c.index-3.result.now c.site_of-site.ensures.fact c.index-3.ensures in
    let same = some_same (sym (get_at facts s c.index-2.result.now c.site_of-site.ensures.fact c.index-2.ensures) ∙ at) in
    recover_from_down d c.args.yard.now c.rise-in-Down.new.yard c.args.name.now s c.index-2.result.now.blocks c.rise-in-Down.result c.index-3.result.now stands apart c.site_of-site.ensures.seat at c.in-Down.is
    (ap (λ (f : SiteFacts). f.blocks) same)
    (λ e h choice taken name number from fit stood below down over blocks. c.rise-in-Down.ensures.rises e h choice taken name number from fit stood below down over blocks c.in_ok-room.ensures.start)

pub returns-in-Down-clause-asked : goal.returns-in-Down-clause-asked
returns-in-Down-clause-asked g c = λ d stands apart.
    let y = c.args.yard.now in
    let s = c.site_of-site.result in
    let seat = c.site_of-site.ensures.seat in
    let at = get_at y.facts.items s c.index-3.result.now c.site_of-site.ensures.fact c.index-3.ensures in
    let state = state_found d y c.args.name.now s c.index-3.result.now stands seat at ∙ c.in-Down.is in
    subst (λ k. RecoversAs (d.world.nodes k).state k y c.rise-in-Down.new.yard) (sym (place_at d y c.args.name.now s stands seat).number)
    (recovers_rest (d.world.nodes s).state s y c.rise-in-Down.new.yard (λ up. let clash : IsDown ≡ IsUp = sym state ∙ up in cc) c.rise-in-Down.ensures.failing)
