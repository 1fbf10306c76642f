-- A line that recovers a site whose disks are a group.
use Rattle.std.proofs.Common.{◌∙◌, ap, subst, sym}
use Rattle.std.proofs.lemmas.Result.{err_from_is_err_and}
use Rattle.vx_model.proofs.Lists.{get_there}
use Rattle.vx_diskset.proofs.KeepsFailing.{failing_same}
use Rattle.vx_diskset.specs.Asked.{SameFailing}
use Rattle.vx_events.proofs.Places.{some_same}
use Rattle.vx_events.proofs.Refused.{recover_may}
use Rattle.vx_events.specs.Facts.{site_number}
use Rattle.vx_above.proofs.Works.{beside_over}
use Rattle.vx_order.specs.declared.facts.SiteFacts.{SiteFacts}
use Rattle.vx_script.specs.declared.line.ScriptLine.TheVariants.{Recover}
use Rattle.vx_yard.proofs.Lists.{get_at}
use Rattle.vx_yard.proofs.NamedSite.{named_same, place_at, unbegun_site}
use Rattle.vx_yard.proofs.OfSites.{recovers_none, recovers_rest, recovers_up}
use Rattle.vx_yard.proofs.Seats.{named_some}
use Rattle.vx_yard.specs.OfSites.{RecoversAs}
use Rattle.vx_yard.specs.Yards.{in_files}
use Rattle.vx_group_lines.proofs.GroupAt.{group_at}
use Rattle.vx_group_lines.proofs.Recovering.{from_down, from_up, off_down, unbegun_rise}
use Rattle.vx_group_lines.proofs.RvgRecovers.{above_down, above_up, made_over, unbegun_above}
use Rattle.vx_group_lines.proofs.Tests.{rise_may}
use Rattle.vx_events.specs.RvgViews.{is_over_rvg}
use Rattle.vx_above.proofs.SeenSites.{state_placed}
use Rattle.vx_group_lines.proofs.recover.recover_line.Goals as goal

pub site_of-site-requires-clause-named : goal.site_of-site-requires-clause-named
site_of-site-requires-clause-named g c = λ κs within. named_some c.args.yard.now c.args.name.now (recover_may c.args.yard.now.facts.items (in_files c.args.yard.now) c.args.name.now c.requires.free)

pub returns-in_err-room-clause-beside : goal.returns-in_err-room-clause-beside
returns-in_err-room-clause-beside g c = λ d stands over.
    let p = err_from_is_err_and c.from_residual.result c.from_residual.ensures.1 in
    beside_over d (Recover c.args.name.now) c.args.yard.now c.args.yard.now c.from_residual.result over (unbegun_rise d c.args.name.now c.args.yard.now c.from_residual.result p.0 p.1 stands)

pub returns-in_err-room-clause-asked : goal.returns-in_err-room-clause-asked
returns-in_err-room-clause-asked g c = λ d stands over.
    recovers_none (d.world.nodes (site_number d.world c.args.name.now)).state (site_number d.world c.args.name.now) c.args.yard.now
    (unbegun_site SameFailing d c.args.yard.now c.args.name.now failing_same stands (recover_may c.args.yard.now.facts.items (in_files c.args.yard.now) c.args.name.now c.requires.free))

pub returns-in-Up-clause-beside : goal.returns-in-Up-clause-beside
returns-in-Up-clause-beside g c = λ d stands over.
    let y = c.args.yard.now in
    let s = c.site_of-site.result in
    let seat = c.site_of-site.ensures.seat in
    let there = get_there y.disk_sets.items s c.site_of-site.ensures.disk_set in
    let at = group_at d y c.args.name.now s there.0 stands seat over there.1 in
    let here = get_at y.facts.items s c.index.result.now c.site_of-site.ensures.fact c.index.ensures in
    from_up d c.args.name.now s y c.go_down.new.yard c.rise.new.yard there.0 c.rise.result stands (place_at d y c.args.name.now s stands seat).number there.1 at
    (ap (λ (f : SiteFacts). f.state) (some_same (sym at.fact ∙ here)) ∙ c.in-Up.is) c.go_down.ensures.falls c.rise.ensures.rises

pub returns-in_default-clause-beside : goal.returns-in_default-clause-beside
returns-in_default-clause-beside g c = λ d stands over.
    let y = c.args.yard.now in
    let s = c.site_of-site.result in
    let seat = c.site_of-site.ensures.seat in
    let there = get_there y.disk_sets.items s c.site_of-site.ensures.disk_set in
    let at = group_at d y c.args.name.now s there.0 stands seat over there.1 in
    let here = get_at y.facts.items s c.index.result.now c.site_of-site.ensures.fact c.index.ensures in
    let may = rise_may y.facts.items (in_files y) c.args.name.now c.requires.free in
    let same = ap (λ (f : SiteFacts). f.state) (some_same (sym at.fact ∙ here)) in
    let named = named_same y c.args.name.now s c.index.result.now may.site seat here in
    from_down d c.args.name.now s y c.rise-in_default.new.yard there.0 c.rise-in_default.result stands (place_at d y c.args.name.now s stands seat).number at
    (off_down (d.world.nodes s).state at.made (λ up. c.in_default.not-Up (sym same ∙ up)) (λ away. may.home (ap (λ (f : SiteFacts). f.state) named ∙ sym same ∙ away))) c.rise-in_default.ensures.rises

pub returns-in-Up-clause-asked : goal.returns-in-Up-clause-asked
returns-in-Up-clause-asked g c = λ d stands over.
    let y = c.args.yard.now in
    let s = c.site_of-site.result in
    let seat = c.site_of-site.ensures.seat in
    let place = place_at d y c.args.name.now s stands seat in
    let there = get_there y.disk_sets.items s c.site_of-site.ensures.disk_set in
    let at = group_at d y c.args.name.now s there.0 stands seat over there.1 in
    let here = get_at y.facts.items s c.index.result.now c.site_of-site.ensures.fact c.index.ensures in
    let up = ap (λ (f : SiteFacts). f.state) (some_same (sym at.fact ∙ here)) ∙ c.in-Up.is in
    subst (λ k. RecoversAs (d.world.nodes k).state k y c.rise.new.yard) (sym place.number)
    (recovers_up (d.world.nodes s).state s y c.go_down.new.yard c.rise.new.yard c.site_of-site.ensures.disk_set (c.go_down.ensures.asked d stands place.below up) c.go_down.ensures.failing c.rise.ensures.failing)

pub returns-in_default-clause-asked : goal.returns-in_default-clause-asked
returns-in_default-clause-asked g c = λ d stands over.
    let y = c.args.yard.now in
    let s = c.site_of-site.result in
    let seat = c.site_of-site.ensures.seat in
    let place = place_at d y c.args.name.now s stands seat in
    let there = get_there y.disk_sets.items s c.site_of-site.ensures.disk_set in
    let at = group_at d y c.args.name.now s there.0 stands seat over there.1 in
    let here = get_at y.facts.items s c.index.result.now c.site_of-site.ensures.fact c.index.ensures in
    let same = ap (λ (f : SiteFacts). f.state) (some_same (sym at.fact ∙ here)) in
    subst (λ k. RecoversAs (d.world.nodes k).state k y c.rise-in_default.new.yard) (sym place.number)
    (recovers_rest (d.world.nodes s).state s y c.rise-in_default.new.yard (λ up. c.in_default.not-Up (sym same ∙ up)) c.rise-in_default.ensures.failing)

pub returns-in_err-room-clause-above : goal.returns-in_err-room-clause-above
returns-in_err-room-clause-above g c = λ d stands over.
    let p = err_from_is_err_and c.from_residual.result c.from_residual.ensures.1 in
    unbegun_above d (Recover c.args.name.now) c.args.yard.now c.from_residual.result p.0 p.1 stands

pub returns-in-Up-clause-above : goal.returns-in-Up-clause-above
returns-in-Up-clause-above g c = λ d stands over.
    let y = c.args.yard.now in
    let s = c.site_of-site.result in
    let name = c.args.name.now in
    let seat = c.site_of-site.ensures.seat in
    let place = place_at d y name s stands seat in
    let here = get_at y.facts.items s c.index.result.now c.site_of-site.ensures.fact c.index.ensures in
    let may = rise_may y.facts.items (in_files y) name c.requires.free in
    let up = state_placed d y name s stands seat may.site ∙ ap (λ (f : SiteFacts). f.state) (named_same y name s c.index.result.now may.site seat here) ∙ c.in-Up.is in
    above_up d name s y c.go_down.new.yard c.rise.new.yard c.rise.result stands place.number place.below (ap (λ k. is_over_rvg (d.world.nodes k)) (sym place.number) ∙ over) up
    (c.go_down.ensures.falls d stands place.below up) (c.rise.ensures.rests d)

pub returns-in_default-clause-above : goal.returns-in_default-clause-above
returns-in_default-clause-above g c = λ d stands over.
    let y = c.args.yard.now in
    let s = c.site_of-site.result in
    let name = c.args.name.now in
    let seat = c.site_of-site.ensures.seat in
    let place = place_at d y name s stands seat in
    let there = get_there y.disk_sets.items s c.site_of-site.ensures.disk_set in
    let here = get_at y.facts.items s c.index.result.now c.site_of-site.ensures.fact c.index.ensures in
    let may = rise_may y.facts.items (in_files y) name c.requires.free in
    let named = named_same y name s c.index.result.now may.site seat here in
    let state = state_placed d y name s stands seat may.site in
    let rvg = ap (λ k. is_over_rvg (d.world.nodes k)) (sym place.number) ∙ over in
    above_down d name s y c.rise-in_default.new.yard c.rise-in_default.result stands place.number place.below rvg
    (off_down (d.world.nodes s).state (made_over d y s there.0 stands place.below there.1 rvg) (λ up. c.in_default.not-Up (sym (ap (λ (f : SiteFacts). f.state) named) ∙ sym state ∙ up))
    (λ away. may.home (sym state ∙ away))) (c.rise-in_default.ensures.rests d)
