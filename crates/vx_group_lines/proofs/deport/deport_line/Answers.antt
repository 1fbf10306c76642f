-- Each case of a line that deports a group.
use Rattle.std.proofs.Common.{◌∙◌, ap, sym, subst, refl}
use Rattle.std.specs.Prelude.{Err, Ok, slice_set}
use Rattle.vx_model.proofs.Lists.{get_there}
use Rattle.vx_events.proofs.Places.{some_same}
use Rattle.vx_yard.specs.GroupFacts.{deported_facts}
use Rattle.vx_script.specs.declared.line.ScriptLine.TheVariants.{GroupDeport}
use Rattle.vx_diskset.specs.Asked.{FuseGoesOn, SameFailing}
use Rattle.vx_diskset.specs.OverAways.{DeportsBelow}
use Rattle.vx_events.specs.GroupNotes.{note_at}
use Rattle.vx_events.specs.LinkedFacts.{linked_fact}
use Rattle.vx_events.specs.RvgOver.{missed_world}
use Rattle.vx_events.specs.StepsOver.{fact_of_group}
use Rattle.vx_events.specs.declared.said.Said.TheVariants.{Done}
use Rattle.vx_yard.proofs.ChangeSite.{told_before}
use Rattle.vx_yard.proofs.Lists.{get_at}
use Rattle.vx_yard.proofs.NamedSite.{asks_at, place_at}
use Rattle.vx_yard.proofs.Seats.{named_some}
use Rattle.vx_yard.specs.OfSites.{HasCalled}
use Rattle.vx_yard.specs.Yards.{in_files}
use Rattle.vx_yard.specs.Stands.{AreTold}
use Rattle.vx_group_lines.proofs.BelowDeport.{deport_below, deport_below_stopped}
use Rattle.vx_group_lines.proofs.BelowDone.{leads_above}
use Rattle.vx_group_lines.proofs.BelowUnmapped.{above_unmapped, unmapped_named}
use Rattle.vx_group_lines.proofs.BelowUp.{overs_behind}
use Rattle.vx_group_lines.proofs.GroupNamed.{if_ok, reply_same, up_named}
use Rattle.vx_group_lines.proofs.GroupDeports.{deport_done, deport_stopped}
use Rattle.vx_group_lines.proofs.NoMaps.{none_noted}
use Rattle.vx_group_lines.proofs.Tests.{deport_may, deport_runs}
use Rattle.vx_group_lines.proofs.deport.deport_line.Goals as goal

pub site_of-site-requires-clause-named : goal.site_of-site-requires-clause-named
site_of-site-requires-clause-named g c κs within =
    let may = deport_may c.args.yard.now.facts.items (in_files c.args.yard.now) c.args.name.now c.requires.free in
    named_some c.args.yard.now c.args.name.now may.site

pub returns-in-Ok-clause-leads : goal.returns-in-Ok-clause-leads
returns-in-Ok-clause-leads g c = λ d stands over.
    let y = c.args.yard.now in
    let s = c.site_of-site.result in
    let seat = c.site_of-site.ensures.seat in
    let at = get_at y.disk_sets.items s c.index_mut.result.now c.site_of-site.ensures.disk_set c.index_mut.ensures.value in
    let may = deport_may y.facts.items (in_files y) c.args.name.now c.requires.free in
    let up = up_named d y c.args.name.now s c.index_mut.result.now stands seat over at may in
    let n = d.world.nodes s in
    let note = note_at (d.world.nodes s) in
    deport_done d y _ c.args.name.now s c.index_mut.result.now c.deport_group.new.self stands
    (record {
      call = record { at = up.at; changed = record { there = at; later = c.in-Ok.ensures.later; disk_sets = refl; racks = refl }; failing = c.in-Ok.ensures.failing };
      is_line = record {
        place = (place_at d y c.args.name.now s stands seat).number;
        done = λ k. tt;
        broke = λ k. record { world = refl; after = λ i. refl; strayed = refl };
        lacks = λ k. record { world = refl; after = λ i. refl; strayed = refl };
        off = λ k. record { world = refl; after = λ i. refl; strayed = refl };
      };
      up = up.up;
      cut = c.in-Ok.ensures.cut;
      since = c.in-Ok.ensures.since;
    })
    (c.in-Ok.ensures.deported n note up.noted) (c.in-Ok.ensures.maps n note up.noted)
    (ap (λ f. slice_set y.facts.items s f) (c.deport.ensures ∙ ap (λ f. deported_facts f) (some_same (sym (get_at y.facts.items s c.index_mut-in-Ok.result.now c.site_of-site.ensures.fact c.index_mut-in-Ok.ensures.value) ∙ up.at.fact))))
    (record { flight = refl; assemblies = c.let_go.ensures; feeders = refl })

pub returns-in-Err-clause-leads : goal.returns-in-Err-clause-leads
returns-in-Err-clause-leads g c = λ d stands over.
    let y = c.args.yard.now in
    let s = c.site_of-site.result in
    let seat = c.site_of-site.ensures.seat in
    let at = get_at y.disk_sets.items s c.index_mut.result.now c.site_of-site.ensures.disk_set c.index_mut.ensures.value in
    let may = deport_may y.facts.items (in_files y) c.args.name.now c.requires.free in
    let up = up_named d y c.args.name.now s c.index_mut.result.now stands seat over at may in
    let n = d.world.nodes s in
    let note = note_at (d.world.nodes s) in
    let reply = c.group_stopped.ensures (fact_of_group n note) up.at.fact in
    let same = reply_same s (fact_of_group n note) c.in-Err.stop _ c.group_stopped.new.yard c.group_stopped.result reply in
    deport_stopped d y c.group_stopped.new.yard c.args.name.now s c.index_mut.result.now c.deport_group.new.self stands
    (record {
      call = record {
        at = up.at;
        changed = record { there = at; later = c.in-Err.ensures.later; disk_sets = ap (λ es. es.items) same.disk_sets; racks = same.racks };
        failing = c.in-Err.ensures.failing;
      };
      is_line = record {
        place = (place_at d y c.args.name.now s stands seat).number;
        done = λ k. tt;
        broke = λ k. record { world = refl; after = λ i. refl; strayed = refl };
        lacks = λ k. record { world = refl; after = λ i. refl; strayed = refl };
        off = λ k. record { world = refl; after = λ i. refl; strayed = refl };
      };
      up = up.up;
      cut = c.in-Err.ensures.cut;
      since = c.in-Err.ensures.since;
    })
    _ c.group_stopped.result (record { facts = refl; load = record { flight = refl; assemblies = refl; feeders = refl } }) c.in-Err.stop
    (c.in-Err.ensures.deported n note up.noted) (c.in-Err.ensures.maps n note up.noted)
    reply

pub returns-in-Ok-clause-above : goal.returns-in-Ok-clause-above
returns-in-Ok-clause-above g c = λ d stands over.
    let y = c.args.yard.now in
    let s = c.site_of-site.result in
    let seat = c.site_of-site.ensures.seat in
    let at = get_at y.disk_sets.items s c.index_mut.result.now c.site_of-site.ensures.disk_set c.index_mut.ensures.value in
    let may = deport_may y.facts.items (in_files y) c.args.name.now c.requires.free in
    let start = unmapped_named d y c.args.name.now s c.index_mut.result.now stands seat over at may (deport_runs y.facts.items (in_files y) c.args.name.now c.requires.free may) in
    let then = overs_behind (DeportsBelow (Ok tt)) c.index_mut.result.now c.deport_group.new.self start.at.set start.at.is_set c.in-Ok.ensures.over in
    leads_above none_noted d (GroupDeport c.args.name.now) s Done y _ start.carries (place_at d y c.args.name.now s stands seat).number (λ fails next it. it)
    (deport_below (missed_world none_noted d s) y _ c.args.name.now s c.index_mut.result.now c.deport_group.new.self then.set start.stands
    (record {
      at = start.at;
      up = start.up;
      changed = record { there = at; later = c.in-Ok.ensures.later; disk_sets = refl; racks = refl };
      failing = c.in-Ok.ensures.failing;
      since = c.in-Ok.ensures.since;
      is = then.is;
      cut = then.holds.cut;
      kept = then.holds.kept;
    })
    start.running start.none start.asks then.holds
    (ap (λ f. slice_set y.facts.items s f) (c.deport.ensures ∙ ap (λ f. deported_facts f) (some_same (sym (get_at y.facts.items s c.index_mut-in-Ok.result.now c.site_of-site.ensures.fact c.index_mut-in-Ok.ensures.value) ∙ start.at.seat.fact))))
    (record { flight = refl; assemblies = c.let_go.ensures; feeders = refl }))

pub returns-in-Err-clause-above : goal.returns-in-Err-clause-above
returns-in-Err-clause-above g c = λ d stands over.
    let y = c.args.yard.now in
    let s = c.site_of-site.result in
    let seat = c.site_of-site.ensures.seat in
    let at = get_at y.disk_sets.items s c.index_mut.result.now c.site_of-site.ensures.disk_set c.index_mut.ensures.value in
    let may = deport_may y.facts.items (in_files y) c.args.name.now c.requires.free in
    let start = unmapped_named d y c.args.name.now s c.index_mut.result.now stands seat over at may (deport_runs y.facts.items (in_files y) c.args.name.now c.requires.free may) in
    let then = overs_behind (DeportsBelow (Err c.in-Err.stop)) c.index_mut.result.now c.deport_group.new.self start.at.set start.at.is_set c.in-Err.ensures.over in
    let f = linked_fact (missed_world none_noted d s).world s in
    let reply = c.group_stopped.ensures f start.at.seat.fact in
    let same = reply_same s f c.in-Err.stop _ c.group_stopped.new.yard c.group_stopped.result reply in
    above_unmapped d y c.group_stopped.new.yard s (GroupDeport c.args.name.now) c.group_stopped.result start.carries (place_at d y c.args.name.now s stands seat).number (λ said fails next it. it)
    (deport_below_stopped (missed_world none_noted d s) y c.group_stopped.new.yard c.args.name.now s c.index_mut.result.now c.deport_group.new.self then.set start.stands
    (record {
      at = start.at;
      up = start.up;
      changed = record { there = at; later = c.in-Err.ensures.later; disk_sets = ap (λ es. es.items) same.disk_sets; racks = same.racks };
      failing = c.in-Err.ensures.failing;
      since = c.in-Err.ensures.since;
      is = then.is;
      cut = then.holds.cut;
      kept = then.holds.kept;
    })
    start.running start.none start.asks _ (record { facts = refl; load = record { flight = refl; assemblies = refl; feeders = refl } }) c.group_stopped.result c.in-Err.stop then.holds reply)

pub returns-in-Ok-clause-asked : goal.returns-in-Ok-clause-asked
returns-in-Ok-clause-asked g c = λ d stands over.
    let y = c.args.yard.now in
    let s = c.site_of-site.result in
    asks_at SameFailing d y _ c.args.name.now s c.index_mut.result.now c.deport_group.new.self stands c.site_of-site.ensures.seat
    (get_at y.disk_sets.items s c.index_mut.result.now c.site_of-site.ensures.disk_set c.index_mut.ensures.value) refl c.in-Ok.ensures.failing

pub returns-in-Err-clause-asked : goal.returns-in-Err-clause-asked
returns-in-Err-clause-asked g c = λ d stands over.
    let y = c.args.yard.now in
    let s = c.site_of-site.result in
    let f = get_there y.facts.items s c.site_of-site.ensures.fact in
    let same = reply_same s f.0 c.in-Err.stop _ c.group_stopped.new.yard c.group_stopped.result (c.group_stopped.ensures f.0 f.1) in
    asks_at SameFailing d y c.group_stopped.new.yard c.args.name.now s c.index_mut.result.now c.deport_group.new.self stands c.site_of-site.ensures.seat
    (get_at y.disk_sets.items s c.index_mut.result.now c.site_of-site.ensures.disk_set c.index_mut.ensures.value) (ap (λ es. es.items) same.disk_sets) c.in-Err.ensures.failing

pub returns-in-Ok-clause-called : goal.returns-in-Ok-clause-called
returns-in-Ok-clause-called g c = λ d stands over.
    let y = c.args.yard.now in
    let s = c.site_of-site.result in
    let at = get_at y.disk_sets.items s c.index_mut.result.now c.site_of-site.ensures.disk_set c.index_mut.ensures.value in
    let may = deport_may y.facts.items (in_files y) c.args.name.now c.requires.free in
    let up = up_named d y c.args.name.now s c.index_mut.result.now stands c.site_of-site.ensures.seat over at may in
    asks_at FuseGoesOn d y _ c.args.name.now s c.index_mut.result.now c.deport_group.new.self stands c.site_of-site.ensures.seat at refl (c.in-Ok.ensures.fuse (d.world.nodes s) (note_at (d.world.nodes s)) up.noted)

pub returns-in-Err-clause-called : goal.returns-in-Err-clause-called
returns-in-Err-clause-called g c = λ d stands over.
    let y = c.args.yard.now in
    let s = c.site_of-site.result in
    let at = get_at y.disk_sets.items s c.index_mut.result.now c.site_of-site.ensures.disk_set c.index_mut.ensures.value in
    let may = deport_may y.facts.items (in_files y) c.args.name.now c.requires.free in
    let up = up_named d y c.args.name.now s c.index_mut.result.now stands c.site_of-site.ensures.seat over at may in
    let f = get_there y.facts.items s c.site_of-site.ensures.fact in
    let same = reply_same s f.0 c.in-Err.stop _ c.group_stopped.new.yard c.group_stopped.result (c.group_stopped.ensures f.0 f.1) in
    if_ok (λ said. HasCalled d.world (GroupDeport c.args.name.now) said y c.group_stopped.new.yard) c.group_stopped.result
    (λ said. asks_at FuseGoesOn d y c.group_stopped.new.yard c.args.name.now s c.index_mut.result.now c.deport_group.new.self stands c.site_of-site.ensures.seat at (ap (λ es. es.items) same.disk_sets)
    (c.in-Err.ensures.fuse (d.world.nodes s) (note_at (d.world.nodes s)) up.noted))

pub returns-in-Ok-clause-told : goal.returns-in-Ok-clause-told
returns-in-Ok-clause-told g c = told_before c.args.yard.now.disk_sets.items c.site_of-site.result c.index_mut.result.now c.deport_group.new.self
    (get_at c.args.yard.now.disk_sets.items c.site_of-site.result c.index_mut.result.now c.site_of-site.ensures.disk_set c.index_mut.ensures.value) c.in-Ok.ensures.later

pub returns-in-Err-clause-told : goal.returns-in-Err-clause-told
returns-in-Err-clause-told g c = λ told.
    let y = c.args.yard.now in
    let s = c.site_of-site.result in
    let f = get_there y.facts.items s c.site_of-site.ensures.fact in
    let same = reply_same s f.0 c.in-Err.stop _ c.group_stopped.new.yard c.group_stopped.result (c.group_stopped.ensures f.0 f.1) in
    told_before y.disk_sets.items s c.index_mut.result.now c.deport_group.new.self (get_at y.disk_sets.items s c.index_mut.result.now c.site_of-site.ensures.disk_set c.index_mut.ensures.value) c.in-Err.ensures.later
    (subst (λ es. AreTold es) (ap (λ es. es.items) same.disk_sets) told)

pub returns-in-Err-clause-files : goal.returns-in-Err-clause-files
returns-in-Err-clause-files g c =
    let y = c.args.yard.now in
    let s = c.site_of-site.result in
    let f = get_there y.facts.items s c.site_of-site.ensures.fact in
    (reply_same s f.0 c.in-Err.stop _ c.group_stopped.new.yard c.group_stopped.result (c.group_stopped.ensures f.0 f.1)).files
