-- Each case of a line that links a site to another one.
use Rattle.std.proofs.Common.{◌∙◌, List, length, ap, refl, sym, arith}
use Rattle.vx_order.specs.declared.facts.LinkFacts.{LinkFacts}
use Rattle.vx_order.specs.declared.facts.SiteFacts.{SiteFacts}
use Rattle.vx_events.proofs.Places.{some_same}
use Rattle.vx_yard.specs.Yards.{in_files}
use Rattle.vx_link_lines.proofs.LinkEnding.{called_named}
use Rattle.vx_link_lines.proofs.LinkNames.{link_apart, link_apart_too, link_first, link_links, link_second, link_two, links_it}
use Rattle.vx_yard.proofs.Lists.{get_at}
use Rattle.vx_yard.proofs.NamedSite.{site_at, unbegun_for}
use Rattle.vx_yard.proofs.OfSites.{all_still}
use Rattle.vx_link_lines.proofs.linking.link_line.Goals as goal

pub site_of-here-requires-clause-named : goal.site_of-here-requires-clause-named
site_of-here-requires-clause-named g c = λ κs within.
    let y = c.args.yard.now in link_first y.facts.items (in_files y) c.args.first.now c.args.second.now c.args.sync c.requires.free.0 c.requires.free.1

pub site_of-there-requires-clause-named : goal.site_of-there-requires-clause-named
site_of-there-requires-clause-named g c = λ κs within.
    let y = c.args.yard.now in link_second y.facts.items (in_files y) c.args.first.now c.args.second.now c.args.sync c.requires.free.0 c.requires.free.1

pub link_parts-requires-clause-states : goal.link_parts-requires-clause-states
link_parts-requires-clause-states g c κs within = c.in-Some.ensures.spelled

pub link_parts-requires-clause-few : goal.link_parts-requires-clause-few
link_parts-requires-clause-few g c κs within = λ site is.
    let fact = get_at c.args.yard.now.facts.items c.site_of-here.result c.index-3.result.now c.site_of-here.ensures.fact c.index-3.ensures in
    omega (arith, c.in-Some.ensures.few, ap (λ (ls : List LinkFacts). length ls) c.as_slice.ensures, ap (λ (f : SiteFacts). length f.links) (some_same (sym is ∙ fact)))

pub returns-clause-leads : goal.returns-clause-leads
returns-clause-leads g c = λ d prot stands off.
    let y = c.args.yard.now in
    let p = c.site_of-here.result in
    let s = c.site_of-there.result in
    let first = c.args.first.now in
    let second = c.args.second.now in
    let free = c.requires.free in
    let seat = c.site_of-here.ensures.seat in
    let seat_too = c.site_of-there.ensures.seat in
    let here = site_at d y first p stands (link_apart d y first second c.args.sync free.0 p s stands free.1 seat seat_too) seat in
    let there = site_at d y second s stands (link_apart_too d y first second c.args.sync free.0 p s stands free.1 seat seat_too) seat_too in
    let one = get_at y.disk_sets.items p c.index.result.now c.site_of-here.ensures.disk_set c.index.ensures in
    let other = get_at y.disk_sets.items s c.index-2.result.now c.site_of-there.ensures.disk_set c.index-2.ensures in
    let fact = get_at y.facts.items p c.index-3.result.now c.site_of-here.ensures.fact c.index-3.ensures in
    let two = link_two d y first second c.args.sync free.0 p s stands free.1 seat seat_too in
    let are = c.in-Some.ensures.is d (stands.disk_sets.sites p c.index.result.now here.below one) (stands.disk_sets.sites s c.index-2.result.now there.below other) here.apart there.apart two.up two.running two.up_too
    (c.as_slice.ensures ∙ link_links d y first second c.args.sync free.0 p s stands free.1 seat seat_too c.index-3.result.now (some_same (sym fact ∙ here.fact))) in
    c.link_parts.ensures.leads d first second prot stands (links_it d y first second c.args.sync free.0 p s stands free.1 seat seat_too off c.in-Some.states are)

pub returns-clause-asked : goal.returns-clause-asked
returns-clause-asked g c = λ d prot stands off.
    let y = c.args.yard.now in
    let p = c.site_of-here.result in
    let s = c.site_of-there.result in
    let first = c.args.first.now in
    let second = c.args.second.now in
    let free = c.requires.free in
    let seat = c.site_of-here.ensures.seat in
    let seat_too = c.site_of-there.ensures.seat in
    let here = site_at d y first p stands (link_apart d y first second c.args.sync free.0 p s stands free.1 seat seat_too) seat in
    let there = site_at d y second s stands (link_apart_too d y first second c.args.sync free.0 p s stands free.1 seat seat_too) seat_too in
    let one = get_at y.disk_sets.items p c.index.result.now c.site_of-here.ensures.disk_set c.index.ensures in
    let other = get_at y.disk_sets.items s c.index-2.result.now c.site_of-there.ensures.disk_set c.index-2.ensures in
    let fact = get_at y.facts.items p c.index-3.result.now c.site_of-here.ensures.fact c.index-3.ensures in
    let two = link_two d y first second c.args.sync free.0 p s stands free.1 seat seat_too in
    let are = c.in-Some.ensures.is d (stands.disk_sets.sites p c.index.result.now here.below one) (stands.disk_sets.sites s c.index-2.result.now there.below other) here.apart there.apart two.up two.running two.up_too
    (c.as_slice.ensures ∙ link_links d y first second c.args.sync free.0 p s stands free.1 seat seat_too c.index-3.result.now (some_same (sym fact ∙ here.fact))) in
    c.link_parts.ensures.asked d first second prot stands (links_it d y first second c.args.sync free.0 p s stands free.1 seat seat_too off c.in-Some.states are)

pub returns-clause-called : goal.returns-clause-called
returns-clause-called g c = λ d prot stands off.
    let y = c.args.yard.now in
    let p = c.site_of-here.result in
    let s = c.site_of-there.result in
    let first = c.args.first.now in
    let second = c.args.second.now in
    let free = c.requires.free in
    let seat = c.site_of-here.ensures.seat in
    let seat_too = c.site_of-there.ensures.seat in
    let here = site_at d y first p stands (link_apart d y first second c.args.sync free.0 p s stands free.1 seat seat_too) seat in
    let there = site_at d y second s stands (link_apart_too d y first second c.args.sync free.0 p s stands free.1 seat seat_too) seat_too in
    let one = get_at y.disk_sets.items p c.index.result.now c.site_of-here.ensures.disk_set c.index.ensures in
    let other = get_at y.disk_sets.items s c.index-2.result.now c.site_of-there.ensures.disk_set c.index-2.ensures in
    let fact = get_at y.facts.items p c.index-3.result.now c.site_of-here.ensures.fact c.index-3.ensures in
    let two = link_two d y first second c.args.sync free.0 p s stands free.1 seat seat_too in
    let are = c.in-Some.ensures.is d (stands.disk_sets.sites p c.index.result.now here.below one) (stands.disk_sets.sites s c.index-2.result.now there.below other) here.apart there.apart two.up two.running two.up_too
    (c.as_slice.ensures ∙ link_links d y first second c.args.sync free.0 p s stands free.1 seat seat_too c.index-3.result.now (some_same (sym fact ∙ here.fact))) in
    let it = links_it d y first second c.args.sync free.0 p s stands free.1 seat seat_too off c.in-Some.states are in
    called_named d first second prot p s c.args.sync c.in-Some.states it y stands c.link_parts.result c.link_parts.new.yard (c.link_parts.ensures.called d first second prot stands it)

pub returns-in_default-clause-leads : goal.returns-in_default-clause-leads
returns-in_default-clause-leads g c = λ d prot stands off. unbegun_for d c.args.yard.now stands

pub returns-in_default-clause-asked : goal.returns-in_default-clause-asked
returns-in_default-clause-asked g c = λ d prot stands off. all_still c.args.yard.now c.args.yard.now refl

pub returns-in_default-new-clause-leads : goal.returns-in_default-new-clause-leads
returns-in_default-new-clause-leads g c = λ d prot stands off. unbegun_for d c.args.yard.now stands

pub returns-in_default-new-clause-asked : goal.returns-in_default-new-clause-asked
returns-in_default-new-clause-asked g c = λ d prot stands off. all_still c.args.yard.now c.args.yard.now refl

pub returns-in_default-new-2-clause-leads : goal.returns-in_default-new-2-clause-leads
returns-in_default-new-2-clause-leads g c = λ d prot stands off. unbegun_for d c.args.yard.now stands

pub returns-in_default-new-2-clause-asked : goal.returns-in_default-new-2-clause-asked
returns-in_default-new-2-clause-asked g c = λ d prot stands off. all_still c.args.yard.now c.args.yard.now refl
