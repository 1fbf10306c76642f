-- Each case of a part that gives a site a link.
use Rattle.std.proofs.Common.{◌≡◌, ◌∙◌, ◌<◌, List, refl, subst, sym, ap}
use Rattle.std.specs.Prelude.{Some, length, slice_get}
use Rattle.std.proofs.lemmas.List.{with_items_is}
use Rattle.vx_order.specs.declared.facts.SiteFacts.{SiteFacts}
use Rattle.vx_diskset.specs.Asked.{HeadUnder}
use Rattle.vx_diskset.specs.Burning.{NoMore}
use Rattle.vx_diskset.specs.Holds.{beside_of}
use Rattle.vx_events.specs.declared.said.Said.{Said}
use Rattle.vx_events.specs.declared.said.Said.TheVariants.{Done, Refused}
use Rattle.vx_yard.proofs.ApplySite.{calls_keep}
use Rattle.vx_yard.proofs.ChangeSite.{told_before}
use Rattle.vx_link_lines.proofs.LinkParts.{made_header}
use Rattle.vx_yard.proofs.OverGroup.{none_over}
use Rattle.vx_yard.proofs.Lists.{get_at, length-set}
use Rattle.vx_link_lines.proofs.PartLine.{part_done, part_refused}
use Rattle.vx_link_lines.proofs.RawParts.{raw_part}
use Rattle.vx_link_lines.proofs.link.make_link.Goals as goal

pub keep_made-requires : goal.keep_made-requires
keep_made-requires g c = record {
  empty = c.requires.empty;
  first = subst (λ (fs : List SiteFacts). c.args.here < length fs) (sym c.deref_mut.ensures.value) c.requires.facts;
  few = λ site at. c.requires.few site (subst (λ (fs : List SiteFacts). slice_get fs c.args.here ≡ Some site) c.deref_mut.ensures.value at);
}

pub returns-in-Ok-clause-told : goal.returns-in-Ok-clause-told
returns-in-Ok-clause-told g c =
    let es = c.args.yard.now.disk_sets.items in
    told_before es c.args.here c.index_mut.result.now c.keep.new.self (get_at es c.args.here c.index_mut.result.now c.requires.disk_set c.index_mut.ensures.value) c.in-Ok.ensures.later

pub returns-in-Err-clause-told : goal.returns-in-Err-clause-told
returns-in-Err-clause-told g c =
    let es = c.args.yard.now.disk_sets.items in
    told_before es c.args.here c.index_mut.result.now c.keep.new.self (get_at es c.args.here c.index_mut.result.now c.requires.disk_set c.index_mut.ensures.value) c.in-Err.ensures.later

pub returns-in-Ok-clause-heads : goal.returns-in-Ok-clause-heads
returns-in-Ok-clause-heads g c = λ d note notes stands fit below alone session said is.
    let old = c.args.yard.now in
    let s = c.args.here in
    let before = c.index_mut.result.now in
    let at = get_at old.disk_sets.items s before c.requires.disk_set c.index_mut.ensures.value in
    let apart = none_over (d.world.nodes s) alone in
    let raw = raw_part note s notes d old before stands below at alone in
    let shown = c.deref_mut.ensures.value ∙ stands.facts ∙ notes.shows d.world in
    part_done note s notes d _ _ (made_header d c.args.here c.args.there c.args.sync fit alone said) old before stands below at _ c.keep.new.self (record { there = at; later = c.in-Ok.ensures.later; disk_sets = refl; racks = refl }) c.in-Ok.ensures.role c.args.state.now is
    (λ beside m stood can. c.in-Ok.ensures.kept beside m stood raw can) (λ beside m stood. c.in-Ok.ensures.called beside m stood)
    (with_items_is old.facts c.keep_made.new.sites (c.keep_made.auto.sites ∙ c.deref_mut.ensures.len) ∙ c.keep_made.ensures.world d.world shown apart (fit.rows s).places session said)
    (record { flight = refl; assemblies = refl; feeders = refl })

pub returns-in-Err-clause-heads : goal.returns-in-Err-clause-heads
returns-in-Err-clause-heads g c = λ d note notes stands fit below alone session said is.
    let old = c.args.yard.now in
    let s = c.args.here in
    let before = c.index_mut.result.now in
    let at = get_at old.disk_sets.items s before c.requires.disk_set c.index_mut.ensures.value in
    let raw = raw_part note s notes d old before stands below at alone in
    part_refused note s notes d _ _ (made_header d c.args.here c.args.there c.args.sync fit alone said) old before stands below at _ c.keep.new.self (record { there = at; later = c.in-Err.ensures.later; disk_sets = refl; racks = refl }) c.in-Err.ensures.role c.args.state.now is
    c.in-Err.no c.refused.result c.index_mut-in-Err.result.now c.refused.new.facts c.refused.ensures.said
    (λ beside m stood can. c.in-Err.ensures.kept beside m stood raw can) (λ beside m stood. c.in-Err.ensures.called beside m stood)
    (get_at old.facts.items s c.index_mut-in-Err.result.now c.requires.facts c.index_mut-in-Err.ensures.value) c.refused.ensures.noted refl
    (record { flight = refl; assemblies = c.let_go_if_down.ensures; feeders = refl })

pub returns-in-Ok-clause-asked : goal.returns-in-Ok-clause-asked
returns-in-Ok-clause-asked g c = λ d stands below.
    let old = c.args.yard.now in
    let s = c.args.here in
    let before = c.index_mut.result.now in
    let at = get_at old.disk_sets.items s before c.requires.disk_set c.index_mut.ensures.value in
    record {
      before = before;
      after = c.keep.new.self;
      there = at;
      disk_sets = refl;
      did = calls_keep NoMore Done before c.keep.new.self (c.in-Ok.ensures.called (beside_of d s) (d.world.nodes s) (stands.disk_sets.sites s before below at));
    }

pub returns-in-Err-clause-asked : goal.returns-in-Err-clause-asked
returns-in-Err-clause-asked g c = λ d stands below.
    let old = c.args.yard.now in
    let s = c.args.here in
    let before = c.index_mut.result.now in
    let at = get_at old.disk_sets.items s before c.requires.disk_set c.index_mut.ensures.value in
    record {
      before = before;
      after = c.keep.new.self;
      there = at;
      disk_sets = refl;
      did = calls_keep NoMore (Refused c.in-Err.no) before c.keep.new.self (c.in-Err.ensures.called (beside_of d s) (d.world.nodes s) (stands.disk_sets.sites s before below at));
    }

pub returns-in-Ok-clause-called : goal.returns-in-Ok-clause-called
returns-in-Ok-clause-called g c = λ d stands below.
    let old = c.args.yard.now in
    let s = c.args.here in
    let before = c.index_mut.result.now in
    let at = get_at old.disk_sets.items s before c.requires.disk_set c.index_mut.ensures.value in
    record {
      before = before;
      after = c.keep.new.self;
      there = at;
      disk_sets = refl;
      did = c.in-Ok.ensures.headed (beside_of d s) (d.world.nodes s) (stands.disk_sets.sites s before below at);
    }

pub returns-in-Err-clause-called : goal.returns-in-Err-clause-called
returns-in-Err-clause-called g c = λ d stands below.
    let old = c.args.yard.now in
    let s = c.args.here in
    let before = c.index_mut.result.now in
    let at = get_at old.disk_sets.items s before c.requires.disk_set c.index_mut.ensures.value in
    record {
      before = before;
      after = c.keep.new.self;
      there = at;
      disk_sets = refl;
      did = subst (λ (said : Said). HeadUnder 2 said before c.keep.new.self) (sym c.refused.ensures.said)
          (c.in-Err.ensures.headed (beside_of d s) (d.world.nodes s) (stands.disk_sets.sites s before below at));
    }

pub returns-in-Ok-clause-many : goal.returns-in-Ok-clause-many
returns-in-Ok-clause-many g c =
    ap (λ (fs : List SiteFacts). length fs) (with_items_is c.args.yard.now.facts c.keep_made.new.sites (c.keep_made.auto.sites ∙ c.deref_mut.ensures.len))
    ∙ c.keep_made.auto.sites ∙ ap (λ (fs : List SiteFacts). length fs) c.deref_mut.ensures.value

pub returns-in-Err-clause-many : goal.returns-in-Err-clause-many
returns-in-Err-clause-many g c = length-set c.args.yard.now.facts.items c.args.here c.refused.new.facts

pub returns-in-Ok-clause-disk_sets : goal.returns-in-Ok-clause-disk_sets
returns-in-Ok-clause-disk_sets g c = length-set c.args.yard.now.disk_sets.items c.args.here c.keep.new.self

pub returns-in-Err-clause-disk_sets : goal.returns-in-Err-clause-disk_sets
returns-in-Err-clause-disk_sets g c = length-set c.args.yard.now.disk_sets.items c.args.here c.keep.new.self
