-- A look for the label of a group on the disks of a site.
use Rattle.std.proofs.Common.{◌≡◌, ◌∙◌, ap, refl}
use Rattle.std.specs.Prelude.{Some}
use Rattle.std.proofs.lemmas.Option.{slice_get_within}
use Rattle.vx_diskset.proofs.KeepsFailing.{failing_same}
use Rattle.vx_diskset.specs.Asked.{SameFailing}
use Rattle.vx_diskset.specs.Holds.{beside_of}
use Rattle.vx_events.proofs.Refused.{recover_may}
use Rattle.vx_events.specs.Facts.{seat_of, site_number}
use Rattle.vx_yard.proofs.ChangeSite.{told_before}
use Rattle.vx_yard.proofs.Lists.{get-set_same, get_at, length-set}
use Rattle.vx_yard.proofs.NamedSite.{asks_at, place_at, unbegun_for, unbegun_site}
use Rattle.vx_yard.proofs.RawSites.{bare_set}
use Rattle.vx_yard.proofs.OfSites.{recovers_none}
use Rattle.vx_yard.proofs.Seats.{named_some}
use Rattle.vx_yard.specs.Yards.{in_files}
use Rattle.vx_group_lines.proofs.BareSites.{bare_site}
use Rattle.vx_group_lines.proofs.Founding.{bare_asks, bare_stays, state_of, untold_now}
use Rattle.vx_group_lines.proofs.found.holds_group.Goals as goal

pub site_of-site-requires-clause-named : goal.site_of-site-requires-clause-named
site_of-site-requires-clause-named g c = λ κs within. named_some c.args.yard.now c.args.name.now (recover_may c.args.yard.now.facts.items (in_files c.args.yard.now) c.args.name.now c.requires.free)

pub returns-in-Bare-clause-holds : goal.returns-in-Bare-clause-holds
returns-in-Bare-clause-holds g c = λ d stands is.
    let y = c.args.yard.now in
    let s = c.site_of-site.result in
    let seat : seat_of y.facts.items c.args.name.now ≡ Some c.site_of-site.result = c.site_of-site.ensures.seat in
    let before = c.index_mut.result.now in
    let there = get_at y.disk_sets.items s before c.site_of-site.ensures.disk_set c.index_mut.ensures.value in
    let one = get_at y.facts.items s c.index.result.now c.site_of-site.ensures.fact c.index.ensures in
    let place = place_at d y c.args.name.now s stands seat in
    let bare = state_of d y c.args.name.now s c.index.result.now stands seat one ∙ c.in-Bare.is in
    let stood = stands.disk_sets.sites s before place.below there in
    untold_now d y _ c.args.name.now s before c.has_label.new.self c.has_label.result place.number bare (bare_set (beside_of d s) (d.world.nodes s) before stood bare)
    (bare_set (beside_of d s) (d.world.nodes s) c.has_label.new.self (c.has_label.ensures.stands (beside_of d s) (d.world.nodes s) stood) bare)
    (record { there = there; later = c.has_label.ensures.later; disk_sets = refl; racks = refl })
    (c.has_label.ensures.none (beside_of d s) (d.world.nodes s) stood bare)
    (get-set_same y.disk_sets.items s c.has_label.new.self (slice_get_within y.disk_sets.items s before there)) is

pub returns-in_default-clause-holds : goal.returns-in_default-clause-holds
returns-in_default-clause-holds g c = λ d stands is. absurd (cc)

pub returns-in-Bare-clause-stays : goal.returns-in-Bare-clause-stays
returns-in-Bare-clause-stays g c = λ d stands.
    let y = c.args.yard.now in
    let s = c.site_of-site.result in
    let seat : seat_of y.facts.items c.args.name.now ≡ Some c.site_of-site.result = c.site_of-site.ensures.seat in
    let before = c.index_mut.result.now in
    let there = get_at y.disk_sets.items s before c.site_of-site.ensures.disk_set c.index_mut.ensures.value in
    let one = get_at y.facts.items s c.index.result.now c.site_of-site.ensures.fact c.index.ensures in
    let bare = state_of d y c.args.name.now s c.index.result.now stands seat one ∙ c.in-Bare.is in
    let site = bare_site d y c.args.name.now s before stands c.requires.kept seat there bare in
    bare_stays d y _ c.args.name.now s before c.has_label.new.self stands site
    (record { there = there; later = c.has_label.ensures.later; disk_sets = refl; racks = refl }) c.has_label.ensures.failing
    (record { flight = refl; assemblies = refl; feeders = refl })
    (c.has_label.ensures.stands (beside_of d s) (d.world.nodes s) site.stood) refl

pub returns-in_default-clause-stays : goal.returns-in_default-clause-stays
returns-in_default-clause-stays g c = λ d stands. unbegun_for d c.args.yard.now stands

pub returns-in-Bare-clause-asked : goal.returns-in-Bare-clause-asked
returns-in-Bare-clause-asked g c = λ d stands.
    let y = c.args.yard.now in
    let s = c.site_of-site.result in
    let seat : seat_of y.facts.items c.args.name.now ≡ Some c.site_of-site.result = c.site_of-site.ensures.seat in
    let before = c.index_mut.result.now in
    let one = get_at y.facts.items s c.index.result.now c.site_of-site.ensures.fact c.index.ensures in
    let place = place_at d y c.args.name.now s stands seat in
    let bare = state_of d y c.args.name.now s c.index.result.now stands seat one ∙ c.in-Bare.is in
    bare_asks d c.args.name.now y _ (ap (λ k. (d.world.nodes k).state) place.number ∙ bare)
    (asks_at SameFailing d y _ c.args.name.now s before c.has_label.new.self stands seat
    (get_at y.disk_sets.items s before c.site_of-site.ensures.disk_set c.index_mut.ensures.value) refl c.has_label.ensures.failing)

pub returns-in_default-clause-asked : goal.returns-in_default-clause-asked
returns-in_default-clause-asked g c = λ d stands.
    recovers_none (d.world.nodes (site_number d.world c.args.name.now)).state (site_number d.world c.args.name.now) c.args.yard.now
    (unbegun_site SameFailing d c.args.yard.now c.args.name.now failing_same stands (recover_may c.args.yard.now.facts.items (in_files c.args.yard.now) c.args.name.now c.requires.free))

pub returns-in-Bare-clause-kept : goal.returns-in-Bare-clause-kept
returns-in-Bare-clause-kept g c =
    let kept = c.requires.kept in
    record {
      eight = length-set c.args.yard.now.disk_sets.items c.site_of-site.result c.has_label.new.self ∙ kept.eight;
      few = kept.few;
      each = kept.each;
      places = kept.places;
      numbers = kept.numbers;
    }

pub returns-in-Bare-clause-told : goal.returns-in-Bare-clause-told
returns-in-Bare-clause-told g c =
    let sets = c.args.yard.now.disk_sets.items in
    told_before sets c.site_of-site.result c.index_mut.result.now c.has_label.new.self
    (get_at sets c.site_of-site.result c.index_mut.result.now c.site_of-site.ensures.disk_set c.index_mut.ensures.value) c.has_label.ensures.later
