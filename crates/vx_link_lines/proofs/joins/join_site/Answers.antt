-- Each case of a part in which a site comes to the line of another one.
use Rattle.std.proofs.Common.{◌∙◌, ◌<◌, List, ap, refl, subst, sym}
use Rattle.std.specs.Prelude.{Ok, Err, length, slice_get}
use Rattle.std.proofs.lemmas.List.{with_items_is}
use Rattle.vx_order.specs.declared.facts.SiteFacts.{SiteFacts}
use Rattle.vx_diskset.specs.Asked.{HeadUnder}
use Rattle.vx_diskset.specs.Burning.{NoMore}
use Rattle.vx_diskset.specs.Holds.{beside_of}
use Rattle.vx_events.proofs.Places.{some_same}
use Rattle.vx_events.specs.declared.said.Said.{Said}
use Rattle.vx_events.specs.declared.said.Said.TheVariants.{Done, Refused}
use Rattle.vx_yard.proofs.ApplySite.{calls_keep}
use Rattle.vx_yard.proofs.ChangeSite.{told_before}
use Rattle.vx_link_lines.proofs.JoinLine.{join_done, join_headed, join_refused}
use Rattle.vx_yard.proofs.Lists.{get_at, length-set}
use Rattle.vx_yard.proofs.OverGroup.{none_over}
use Rattle.vx_link_lines.proofs.joins.join_site.Goals as goal

pub keep_joined-requires : goal.keep_joined-requires
keep_joined-requires g c = record {
  first = subst (λ (fs : List SiteFacts). c.args.here < length fs) (sym c.deref_mut.ensures.value) c.requires.first;
  second = subst (λ (fs : List SiteFacts). c.args.there < length fs) (sym c.deref_mut.ensures.value) c.requires.facts;
}

pub returns-in-Ok-clause-told : goal.returns-in-Ok-clause-told
returns-in-Ok-clause-told g c =
    let es = c.args.yard.now.disk_sets.items in
    told_before es c.args.there c.index_mut.result.now c.join.new.disks (get_at es c.args.there c.index_mut.result.now c.requires.disk_set c.index_mut.ensures.value) c.in-Ok.ensures.later

pub returns-in-Err-clause-told : goal.returns-in-Err-clause-told
returns-in-Err-clause-told g c =
    let es = c.args.yard.now.disk_sets.items in
    told_before es c.args.there c.index_mut.result.now c.join.new.disks (get_at es c.args.there c.index_mut.result.now c.requires.disk_set c.index_mut.ensures.value) c.in-Err.ensures.later

pub returns-in-Ok-clause-heads : goal.returns-in-Ok-clause-heads
returns-in-Ok-clause-heads g c = λ d note sync notes stands fit below first alone said is.
    let old = c.args.yard.now in
    let s = c.args.there in
    let before = c.index_mut.result.now in
    let at = get_at old.disk_sets.items s before c.requires.disk_set c.index_mut.ensures.value in
    let shown = c.deref_mut.ensures.value ∙ stands.facts ∙ notes.shows d.world in
    join_done note d c.args.here s sync notes fit alone said old _ before c.join.new.disks stands below (record { there = at; later = c.in-Ok.ensures.later; disk_sets = refl; racks = refl }) c.args.state.now is
    (λ beside a q k stood can so. c.in-Ok.ensures.joined beside a q k stood can so) (λ beside k stood. c.in-Ok.ensures.called beside k stood)
    (with_items_is old.facts c.keep_joined.new.sites (c.keep_joined.auto.sites ∙ c.deref_mut.ensures.len) ∙ c.keep_joined.ensures.world d.world sync shown (none_over (d.world.nodes c.args.here) first) (none_over (d.world.nodes s) alone) said)
    refl c.let_go.ensures c.set_feeder.ensures

pub returns-in-Err-clause-heads : goal.returns-in-Err-clause-heads
returns-in-Err-clause-heads g c = λ d note sync notes stands fit below first alone said is.
    let old = c.args.yard.now in
    let s = c.args.there in
    let before = c.index_mut.result.now in
    let at = get_at old.disk_sets.items s before c.requires.disk_set c.index_mut.ensures.value in
    join_refused note d c.args.here s sync notes fit alone said old _ before c.join.new.disks stands below (record { there = at; later = c.in-Err.ensures.later; disk_sets = refl; racks = refl }) c.args.state.now is
    c.in-Err.no c.refused.result c.index_mut-in-Err.result.now c.refused.new.facts c.refused.ensures.said
    (λ beside a q k stood can so. c.in-Err.ensures.joined beside a q k stood can so) (λ beside k stood. c.in-Err.ensures.called beside k stood)
    (get_at old.facts.items s c.index_mut-in-Err.result.now c.requires.facts c.index_mut-in-Err.ensures.value) c.refused.ensures.noted refl
    (record { flight = refl; assemblies = c.let_go_if_down.ensures; feeders = refl })

pub returns-in-Ok-clause-asked : goal.returns-in-Ok-clause-asked
returns-in-Ok-clause-asked g c = λ d stands below.
    let old = c.args.yard.now in
    let s = c.args.there in
    let before = c.index_mut.result.now in
    let at = get_at old.disk_sets.items s before c.requires.disk_set c.index_mut.ensures.value in
    record {
      before = before;
      after = c.join.new.disks;
      there = at;
      disk_sets = refl;
      did = calls_keep NoMore Done before c.join.new.disks (c.in-Ok.ensures.called (beside_of d s) (d.world.nodes s) (stands.disk_sets.sites s before below at));
    }

pub returns-in-Err-clause-asked : goal.returns-in-Err-clause-asked
returns-in-Err-clause-asked g c = λ d stands below.
    let old = c.args.yard.now in
    let s = c.args.there in
    let before = c.index_mut.result.now in
    let at = get_at old.disk_sets.items s before c.requires.disk_set c.index_mut.ensures.value in
    record {
      before = before;
      after = c.join.new.disks;
      there = at;
      disk_sets = refl;
      did = calls_keep NoMore (Refused c.in-Err.no) before c.join.new.disks (c.in-Err.ensures.called (beside_of d s) (d.world.nodes s) (stands.disk_sets.sites s before below at));
    }

pub returns-in-Ok-clause-called : goal.returns-in-Ok-clause-called
returns-in-Ok-clause-called g c = λ d note sync notes stands fit below alone said.
    let old = c.args.yard.now in
    let s = c.args.there in
    let before = c.index_mut.result.now in
    let at = get_at old.disk_sets.items s before c.requires.disk_set c.index_mut.ensures.value in
    record {
      before = before;
      after = c.join.new.disks;
      there = at;
      disk_sets = refl;
      did = join_headed note d c.args.here s sync notes fit alone said old before c.join.new.disks stands below at (Ok tt) (λ beside k stood can. c.in-Ok.ensures.headed beside k stood can);
    }

pub returns-in-Err-clause-called : goal.returns-in-Err-clause-called
returns-in-Err-clause-called g c = λ d note sync notes stands fit below alone said.
    let old = c.args.yard.now in
    let s = c.args.there in
    let before = c.index_mut.result.now in
    let at = get_at old.disk_sets.items s before c.requires.disk_set c.index_mut.ensures.value in
    record {
      before = before;
      after = c.join.new.disks;
      there = at;
      disk_sets = refl;
      did = subst (λ (answer : Said). HeadUnder 2 answer before c.join.new.disks) (sym c.refused.ensures.said)
          (join_headed note d c.args.here s sync notes fit alone said old before c.join.new.disks stands below at (Err c.in-Err.no) (λ beside k stood can. c.in-Err.ensures.headed beside k stood can));
    }

pub returns-in-Ok-clause-many : goal.returns-in-Ok-clause-many
returns-in-Ok-clause-many g c =
    ap (λ (fs : List SiteFacts). length fs) (with_items_is c.args.yard.now.facts c.keep_joined.new.sites (c.keep_joined.auto.sites ∙ c.deref_mut.ensures.len))
    ∙ c.keep_joined.auto.sites ∙ ap (λ (fs : List SiteFacts). length fs) c.deref_mut.ensures.value

pub returns-in-Err-clause-many : goal.returns-in-Err-clause-many
returns-in-Err-clause-many g c = length-set c.args.yard.now.facts.items c.args.there c.refused.new.facts

pub returns-in-Ok-clause-disk_sets : goal.returns-in-Ok-clause-disk_sets
returns-in-Ok-clause-disk_sets g c = length-set c.args.yard.now.disk_sets.items c.args.there c.join.new.disks

pub returns-in-Err-clause-disk_sets : goal.returns-in-Err-clause-disk_sets
returns-in-Err-clause-disk_sets g c = length-set c.args.yard.now.disk_sets.items c.args.there c.join.new.disks

pub returns-in-Ok-clause-links : goal.returns-in-Ok-clause-links
returns-in-Ok-clause-links g c = λ k a b was is.
    let same = c.keep_joined.auto.sites ∙ c.deref_mut.ensures.len in
    let had = c.keep_joined.ensures.links k b (sym (ap (λ (fs : List SiteFacts). slice_get fs k) (with_items_is c.args.yard.now.facts c.keep_joined.new.sites same)) ∙ is) in
    had.links ∙ ap (λ (f : SiteFacts). f.links) (some_same (sym had.there ∙ ap (λ (fs : List SiteFacts). slice_get fs k) c.deref_mut.ensures.value ∙ was))
