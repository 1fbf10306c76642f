-- Each case of a line that gives a link another setting.
use Rattle.std.proofs.Common.{◌∙◌, refl, subst, sym}
use Rattle.std.specs.Prelude.{Ok, Err}
use Rattle.std.proofs.lemmas.List.{with_items_is}
use Rattle.vx_history.specs.Steps.{worked}
use Rattle.vx_diskset.specs.Holds.{beside_of}
use Rattle.vx_yard.specs.Yards.{in_files}
use Rattle.vx_yard.proofs.ChangeSite.{told_before}
use Rattle.vx_diskset.proofs.KeepsFailing.{failing_same}
use Rattle.vx_diskset.specs.Asked.{HeadUnder, SameFailing}
use Rattle.vx_diskset.specs.Burning.{NoMore}
use Rattle.vx_events.specs.declared.said.Said.{Said}
use Rattle.vx_events.specs.declared.said.Said.TheVariants.{Done, Refused}
use Rattle.vx_yard.proofs.ApplySite.{calls_keep}
use Rattle.vx_yard.proofs.Lists.{get_at, set_same}
use Rattle.vx_yard.proofs.NamedSite.{asks_at, place_at}
use Rattle.vx_link_lines.proofs.RawParts.{raw_there}
use Rattle.vx_link_lines.proofs.SetLine.{set_alone, set_kept, set_leads, set_raw, set_refused, set_said, set_state_is, set_stood}
use Rattle.vx_link_lines.proofs.SetNames.{set_first, set_second}
use Rattle.vx_link_lines.proofs.set.set_line.Goals as goal

pub site_of-here-requires-clause-named : goal.site_of-here-requires-clause-named
site_of-here-requires-clause-named g c = λ κs within.
    let y = c.args.yard.now in set_first y.facts.items (in_files y) c.args.first.now c.args.second.now c.args.sync c.requires.free.0 c.requires.free.1

pub site_of-there-requires-clause-named : goal.site_of-there-requires-clause-named
site_of-there-requires-clause-named g c = λ κs within.
    let y = c.args.yard.now in set_second y.facts.items (in_files y) c.args.first.now c.args.second.now c.args.sync c.requires.free.0 c.requires.free.1

pub returns-in-Ok-clause-told : goal.returns-in-Ok-clause-told
returns-in-Ok-clause-told g c =
    let es = c.args.yard.now.disk_sets.items in
    let s = c.site_of-here.result in
    told_before es s c.index_mut.result.now c.keep.new.self (get_at es s c.index_mut.result.now c.site_of-here.ensures.disk_set c.index_mut.ensures.value) c.in-Ok.ensures.later

pub returns-in-Err-clause-told : goal.returns-in-Err-clause-told
returns-in-Err-clause-told g c =
    let es = c.args.yard.now.disk_sets.items in
    let s = c.site_of-here.result in
    told_before es s c.index_mut.result.now c.keep.new.self (get_at es s c.index_mut.result.now c.site_of-here.ensures.disk_set c.index_mut.ensures.value) c.in-Err.ensures.later

pub returns-in-Ok-clause-leads : goal.returns-in-Ok-clause-leads
returns-in-Ok-clause-leads g c = λ d prot stands.
    let old = c.args.yard.now in
    let es = old.disk_sets.items in
    let s = c.site_of-here.result in
    let q = c.site_of-there.result in
    let p = c.args.first.now in
    let r = c.args.second.now in
    let before = c.index_mut.result.now in
    let after = c.keep.new.self in
    let at = get_at es s before c.site_of-here.ensures.disk_set c.index_mut.ensures.value in
    let at_too = get_at es s c.index.result.now c.site_of-here.ensures.disk_set c.index.ensures in
    let seat = c.site_of-here.ensures.seat in
    let seat_too = c.site_of-there.ensures.seat in
    let raw = raw_there d old s before stands (place_at d old p s stands seat).below at (set_raw d old p r c.args.sync c.requires.free.0 s q before stands c.requires.free.1 seat seat_too at) in
    let is = set_state_is d old p r c.args.sync c.requires.free.0 s q before stands c.requires.free.1 seat seat_too at c.index.result.now c.in-Some.state at_too
    (λ beside m v stood up alone facts has said. c.in-Some.ensures.is beside m v stood up alone (c.deref.ensures.value ∙ facts) has said) in
    let kept = set_kept d old p r c.args.sync c.requires.free.0 s q before stands c.requires.free.1 seat seat_too at after c.in-Some.state (Ok tt) is (λ beside m stood can. c.in-Ok.ensures.kept beside m stood raw can) in
    let stood = set_stood d old p r c.args.sync c.requires.free.0 s q before stands c.requires.free.1 seat seat_too at in
    let said = set_said d old p r c.args.sync c.requires.free.0 s q before stands c.requires.free.1 seat seat_too at in
    let racks = (g.met.R.Rack g.world.𝓛 g.world.𝓜 g.world.𝓡 ((λ s x. x), (λ x. x), (λ x. x), λ x. x)).rack in
    let here = place_at d old p s stands seat in
    let head = c.in-Ok.ensures.headed (beside_of d s) (d.world.nodes s) (stands.disk_sets.sites s before here.below at) in
    set_leads d old p r c.args.sync c.requires.free.0 s q before stands c.requires.free.1 seat seat_too at _ after (record { there = at; later = c.in-Ok.ensures.later; disk_sets = refl; racks = refl }) c.in-Ok.ensures.role prot racks head kept (c.in-Ok.ensures.called (beside_of d s) (worked (d.world.nodes s)) stood)
    (with_items_is old.facts c.keep_set.new.sites (c.keep_set.auto.sites ∙ c.deref_mut.ensures.len)
    ∙ c.keep_set.ensures.world d.world (c.deref_mut.ensures.value ∙ stands.facts)
    (set_alone d old p r c.args.sync c.requires.free.0 s q before stands c.requires.free.1 seat seat_too at) (stands.links.rows s).places said)
    (record { flight = refl; assemblies = refl; feeders = refl })

pub returns-in-Err-clause-leads : goal.returns-in-Err-clause-leads
returns-in-Err-clause-leads g c = λ d prot stands.
    let old = c.args.yard.now in
    let es = old.disk_sets.items in
    let s = c.site_of-here.result in
    let q = c.site_of-there.result in
    let p = c.args.first.now in
    let r = c.args.second.now in
    let before = c.index_mut.result.now in
    let after = c.keep.new.self in
    let at = get_at es s before c.site_of-here.ensures.disk_set c.index_mut.ensures.value in
    let at_too = get_at es s c.index.result.now c.site_of-here.ensures.disk_set c.index.ensures in
    let seat = c.site_of-here.ensures.seat in
    let seat_too = c.site_of-there.ensures.seat in
    let raw = raw_there d old s before stands (place_at d old p s stands seat).below at (set_raw d old p r c.args.sync c.requires.free.0 s q before stands c.requires.free.1 seat seat_too at) in
    let is = set_state_is d old p r c.args.sync c.requires.free.0 s q before stands c.requires.free.1 seat seat_too at c.index.result.now c.in-Some.state at_too
    (λ beside m v stood up alone facts has said. c.in-Some.ensures.is beside m v stood up alone (c.deref.ensures.value ∙ facts) has said) in
    let kept = set_kept d old p r c.args.sync c.requires.free.0 s q before stands c.requires.free.1 seat seat_too at after c.in-Some.state (Err c.in-Err.no) is (λ beside m stood can. c.in-Err.ensures.kept beside m stood raw can) in
    let stood = set_stood d old p r c.args.sync c.requires.free.0 s q before stands c.requires.free.1 seat seat_too at in
    set_refused d old p r c.args.sync c.requires.free.0 s q before stands c.requires.free.1 seat seat_too at _ after (record { there = at; later = c.in-Err.ensures.later; disk_sets = refl; racks = refl }) c.in-Err.ensures.role prot c.in-Err.no c.refused.result c.index_mut-in-Err.result.now c.refused.new.facts c.refused.ensures.said
    kept (c.in-Err.ensures.called (beside_of d s) (worked (d.world.nodes s)) stood)
    (get_at old.facts.items s c.index_mut-in-Err.result.now c.site_of-here.ensures.fact c.index_mut-in-Err.ensures.value) c.refused.ensures.noted refl
    (record { flight = refl; assemblies = c.let_go_if_down.ensures; feeders = refl })

pub returns-in-Ok-clause-asked : goal.returns-in-Ok-clause-asked
returns-in-Ok-clause-asked g c = λ d prot stands.
    let old = c.args.yard.now in
    let s = c.site_of-here.result in
    let before = c.index_mut.result.now in
    let at = get_at old.disk_sets.items s before c.site_of-here.ensures.disk_set c.index_mut.ensures.value in
    let here = place_at d old c.args.first.now s stands c.site_of-here.ensures.seat in
    asks_at SameFailing d old _ c.args.first.now s before c.keep.new.self stands c.site_of-here.ensures.seat at refl
    (calls_keep NoMore Done before c.keep.new.self (c.in-Ok.ensures.called (beside_of d s) (d.world.nodes s) (stands.disk_sets.sites s before here.below at)))

pub returns-in-Err-clause-asked : goal.returns-in-Err-clause-asked
returns-in-Err-clause-asked g c = λ d prot stands.
    let old = c.args.yard.now in
    let s = c.site_of-here.result in
    let before = c.index_mut.result.now in
    let at = get_at old.disk_sets.items s before c.site_of-here.ensures.disk_set c.index_mut.ensures.value in
    let here = place_at d old c.args.first.now s stands c.site_of-here.ensures.seat in
    asks_at SameFailing d old _ c.args.first.now s before c.keep.new.self stands c.site_of-here.ensures.seat at refl
    (calls_keep NoMore (Refused c.in-Err.no) before c.keep.new.self (c.in-Err.ensures.called (beside_of d s) (d.world.nodes s) (stands.disk_sets.sites s before here.below at)))

pub returns-in_default-clause-asked : goal.returns-in_default-clause-asked
returns-in_default-clause-asked g c = λ d prot stands.
    let old = c.args.yard.now in
    let s = c.site_of-here.result in
    let at = get_at old.disk_sets.items s c.index.result.now c.site_of-here.ensures.disk_set c.index.ensures in
    asks_at SameFailing d old _ c.args.first.now s c.index.result.now c.index.result.now stands c.site_of-here.ensures.seat at (sym (set_same old.disk_sets.items s c.index.result.now at)) (failing_same c.index.result.now)

pub returns-in-Ok-clause-called : goal.returns-in-Ok-clause-called
returns-in-Ok-clause-called g c = λ d prot stands.
    let old = c.args.yard.now in
    let s = c.site_of-here.result in
    let before = c.index_mut.result.now in
    let at = get_at old.disk_sets.items s before c.site_of-here.ensures.disk_set c.index_mut.ensures.value in
    let here = place_at d old c.args.first.now s stands c.site_of-here.ensures.seat in
    asks_at (HeadUnder 2 Done) d old _ c.args.first.now s before c.keep.new.self stands c.site_of-here.ensures.seat at refl
    (c.in-Ok.ensures.headed (beside_of d s) (d.world.nodes s) (stands.disk_sets.sites s before here.below at))

pub returns-in-Err-clause-called : goal.returns-in-Err-clause-called
returns-in-Err-clause-called g c = λ d prot stands.
    let old = c.args.yard.now in
    let s = c.site_of-here.result in
    let before = c.index_mut.result.now in
    let at = get_at old.disk_sets.items s before c.site_of-here.ensures.disk_set c.index_mut.ensures.value in
    let here = place_at d old c.args.first.now s stands c.site_of-here.ensures.seat in
    asks_at (HeadUnder 2 c.refused.result) d old _ c.args.first.now s before c.keep.new.self stands c.site_of-here.ensures.seat at refl
    (subst (λ (said : Said). HeadUnder 2 said before c.keep.new.self) (sym c.refused.ensures.said) (c.in-Err.ensures.headed (beside_of d s) (d.world.nodes s) (stands.disk_sets.sites s before here.below at)))

pub returns-in_default-clause-called : goal.returns-in_default-clause-called
returns-in_default-clause-called g c = λ d prot stands. tt
