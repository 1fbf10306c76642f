-- Each case of a line that attaches a plex.
use Rattle.std.proofs.Common.{◌∙◌, ap, subst, refl}
use Rattle.std.specs.Prelude.{Ok, Err}
use Rattle.vx_model.proofs.Lists.{get_there}
use Rattle.vx_script.specs.declared.line.ScriptLine.TheVariants.{PlexAttach}
use Rattle.vx_diskset.specs.Asked.{FuseGoesOn, SameFailing}
use Rattle.vx_events.specs.GroupNotes.{note_at}
use Rattle.vx_events.specs.LinkedFacts.{linked_fact}
use Rattle.vx_events.specs.RvgOver.{missed_world}
use Rattle.vx_events.specs.StepsOver.{fact_of_group}
use Rattle.vx_yard.proofs.ChangeSite.{told_before}
use Rattle.vx_yard.proofs.Lists.{get_at}
use Rattle.vx_yard.proofs.NamedSite.{asks_at, place_at}
use Rattle.vx_yard.proofs.Seats.{named_some}
use Rattle.vx_yard.specs.OfSites.{HasCalled}
use Rattle.vx_yard.specs.Yards.{in_files}
use Rattle.vx_yard.specs.Stands.{AreTold}
use Rattle.vx_group_lines.proofs.BelowAttach.{attached, unattached}
use Rattle.vx_group_lines.proofs.BelowPlex.{below_plex}
use Rattle.vx_group_lines.proofs.BelowStart.{below_start}
use Rattle.vx_group_lines.proofs.GroupNamed.{if_ok, plain_is, plain_there, plex_fits, plex_named, reply_same, up_named}
use Rattle.vx_group_lines.proofs.GroupAttach.{att_all, att_at, att_ends, att_never, att_stopped, att_zero, att_maps_at}
use Rattle.vx_group_lines.proofs.Numbered.{placed_at}
use Rattle.vx_group_lines.proofs.Tests.{attach_may}
use Rattle.vx_group_lines.proofs.plex.attach_line.Goals as goal

pub site_of-site-requires-clause-named : goal.site_of-site-requires-clause-named
site_of-site-requires-clause-named g c κs within =
    let may = attach_may c.args.yard.now.facts.items (in_files c.args.yard.now) c.args.name.now c.args.volume.now c.args.plex c.requires.free in
    named_some c.args.yard.now c.args.name.now may.may.site

pub returns-in-Ok-clause-leads : goal.returns-in-Ok-clause-leads
returns-in-Ok-clause-leads g c = λ d stands over.
    let y = c.args.yard.now in
    let s = c.site_of-site.result in
    let seat = c.site_of-site.ensures.seat in
    let at = get_at y.disk_sets.items s c.index_mut.result.now c.site_of-site.ensures.disk_set c.index_mut.ensures.value in
    let may = attach_may y.facts.items (in_files y) c.args.name.now c.args.volume.now c.args.plex c.requires.free in
    let up = up_named d y c.args.name.now s c.index_mut.result.now stands seat over at may.may in
    let plex = plex_named d y c.args.name.now c.args.volume.now c.args.plex s c.index_mut.result.now seat up.at may in
    let n = d.world.nodes s in
    let note = note_at (d.world.nodes s) in
    let number = plain_is d y c.args.name.now c.args.volume.now s c.number_of-place.result c.index_mut.result.now up.at (placed_at y s c.index_mut.result.now c.args.volume.now c.number_of-place.result n note up.at.set up.at.is_set up.is_up up.at.fact at c.number_of-place.ensures (λ f there. plain_there y c.args.name.now c.args.volume.now c.args.plex s f seat there may)) in
    let fits = c.min.ensures ∙ plex_fits n note up.at.set.site c.args.volume.now c.args.plex up.is_up plex in
    att_ends d y _ c.args.name.now c.args.volume.now c.args.plex s c.index_mut.result.now c.attach_plex.new.self plex.found stands
    (record {
      call = record { at = up.at; changed = record { there = at; later = c.in-Ok.ensures.later; disk_sets = refl; racks = refl }; failing = c.in-Ok.ensures.failing };
      is_line = record {
        place = (place_at d y c.args.name.now s stands seat).number;
        done = λ k. record { world = refl; after = λ i. refl; strayed = refl };
        broke = λ k. record { world = refl; after = λ i. refl; strayed = refl };
        lacks = λ k. record { world = refl; after = λ i. refl; strayed = refl };
        off = λ k. record { world = refl; after = λ i. refl; strayed = refl };
      };
      up = up.up;
      cut = c.in-Ok.ensures.cut;
      since = c.in-Ok.ensures.since;
    })
    plex.there plex.below up.is_up c.in-Ok.copied
    (att_at n note number fits (Ok c.in-Ok.copied) c.index_mut.result.now c.attach_plex.new.self
    (c.in-Ok.ensures.called n note up.noted))
    (att_maps_at number fits (Ok c.in-Ok.copied) c.index_mut.result.now c.attach_plex.new.self (c.in-Ok.ensures.maps n note up.noted))
    (att_zero c.index_mut.result.now up.at.set c.in-Ok.copied up.at.is_set number fits (λ no at. c.in-Ok.ensures.refused n note no up.noted at) (λ at on. c.in-Ok.ensures.already n note up.noted at on))
    (att_all c.index_mut.result.now up.at.set c.in-Ok.copied up.at.is_set number fits (λ off. c.in-Ok.ensures.count off))
    (att_never c.index_mut.result.now up.at.set c.in-Ok.copied up.at.is_set number fits (λ no at. c.in-Ok.ensures.refused n note no up.noted at))
    refl (record { flight = refl; assemblies = refl; feeders = refl })

pub returns-in-Err-clause-leads : goal.returns-in-Err-clause-leads
returns-in-Err-clause-leads g c = λ d stands over.
    let y = c.args.yard.now in
    let s = c.site_of-site.result in
    let seat = c.site_of-site.ensures.seat in
    let at = get_at y.disk_sets.items s c.index_mut.result.now c.site_of-site.ensures.disk_set c.index_mut.ensures.value in
    let may = attach_may y.facts.items (in_files y) c.args.name.now c.args.volume.now c.args.plex c.requires.free in
    let up = up_named d y c.args.name.now s c.index_mut.result.now stands seat over at may.may in
    let plex = plex_named d y c.args.name.now c.args.volume.now c.args.plex s c.index_mut.result.now seat up.at may in
    let n = d.world.nodes s in
    let note = note_at (d.world.nodes s) in
    let reply = c.group_stopped.ensures (fact_of_group n note) up.at.fact in
    let same = reply_same s (fact_of_group n note) c.in-Err.stop _ c.group_stopped.new.yard c.group_stopped.result reply in
    att_stopped d y c.group_stopped.new.yard c.args.name.now c.args.volume.now c.args.plex s c.index_mut.result.now c.attach_plex.new.self plex.found stands
    (record {
      call = record {
        at = up.at;
        changed = record { there = at; later = c.in-Err.ensures.later; disk_sets = ap (λ es. es.items) same.disk_sets; racks = same.racks };
        failing = c.in-Err.ensures.failing;
      };
      is_line = record {
        place = (place_at d y c.args.name.now s stands seat).number;
        done = λ k. record { world = refl; after = λ i. refl; strayed = refl };
        broke = λ k. record { world = refl; after = λ i. refl; strayed = refl };
        lacks = λ k. record { world = refl; after = λ i. refl; strayed = refl };
        off = λ k. record { world = refl; after = λ i. refl; strayed = refl };
      };
      up = up.up;
      cut = c.in-Err.ensures.cut;
      since = c.in-Err.ensures.since;
    })
    plex.there plex.below up.is_up _ c.group_stopped.result (record { facts = refl; load = record { flight = refl; assemblies = refl; feeders = refl } }) c.in-Err.stop
    (att_at n note (plain_is d y c.args.name.now c.args.volume.now s c.number_of-place.result c.index_mut.result.now up.at (placed_at y s c.index_mut.result.now c.args.volume.now c.number_of-place.result n note up.at.set up.at.is_set up.is_up up.at.fact at c.number_of-place.ensures (λ f there. plain_there y c.args.name.now c.args.volume.now c.args.plex s f seat there may)))
    (c.min.ensures ∙ plex_fits n note up.at.set.site c.args.volume.now c.args.plex up.is_up plex) (Err c.in-Err.stop) c.index_mut.result.now c.attach_plex.new.self
    (c.in-Err.ensures.called n note up.noted))
    (att_maps_at (plain_is d y c.args.name.now c.args.volume.now s c.number_of-place.result c.index_mut.result.now up.at (placed_at y s c.index_mut.result.now c.args.volume.now c.number_of-place.result n note up.at.set up.at.is_set up.is_up up.at.fact at c.number_of-place.ensures (λ f there. plain_there y c.args.name.now c.args.volume.now c.args.plex s f seat there may)))
    (c.min.ensures ∙ plex_fits n note up.at.set.site c.args.volume.now c.args.plex up.is_up plex) (Err c.in-Err.stop) c.index_mut.result.now c.attach_plex.new.self
    (c.in-Err.ensures.maps n note up.noted))
    reply

pub returns-in-Ok-clause-asked : goal.returns-in-Ok-clause-asked
returns-in-Ok-clause-asked g c = λ d stands over.
    let y = c.args.yard.now in
    let s = c.site_of-site.result in
    asks_at SameFailing d y _ c.args.name.now s c.index_mut.result.now c.attach_plex.new.self stands c.site_of-site.ensures.seat
    (get_at y.disk_sets.items s c.index_mut.result.now c.site_of-site.ensures.disk_set c.index_mut.ensures.value) refl c.in-Ok.ensures.failing

pub returns-in-Err-clause-asked : goal.returns-in-Err-clause-asked
returns-in-Err-clause-asked g c = λ d stands over.
    let y = c.args.yard.now in
    let s = c.site_of-site.result in
    let f = get_there y.facts.items s c.site_of-site.ensures.fact in
    let same = reply_same s f.0 c.in-Err.stop _ c.group_stopped.new.yard c.group_stopped.result (c.group_stopped.ensures f.0 f.1) in
    asks_at SameFailing d y c.group_stopped.new.yard c.args.name.now s c.index_mut.result.now c.attach_plex.new.self stands c.site_of-site.ensures.seat
    (get_at y.disk_sets.items s c.index_mut.result.now c.site_of-site.ensures.disk_set c.index_mut.ensures.value) (ap (λ es. es.items) same.disk_sets) c.in-Err.ensures.failing

pub returns-in-Ok-clause-called : goal.returns-in-Ok-clause-called
returns-in-Ok-clause-called g c = λ d stands over.
    let y = c.args.yard.now in
    let s = c.site_of-site.result in
    let at = get_at y.disk_sets.items s c.index_mut.result.now c.site_of-site.ensures.disk_set c.index_mut.ensures.value in
    let may = attach_may y.facts.items (in_files y) c.args.name.now c.args.volume.now c.args.plex c.requires.free in
    let up = up_named d y c.args.name.now s c.index_mut.result.now stands c.site_of-site.ensures.seat over at may.may in
    asks_at FuseGoesOn d y _ c.args.name.now s c.index_mut.result.now c.attach_plex.new.self stands c.site_of-site.ensures.seat at refl (c.in-Ok.ensures.fuse (d.world.nodes s) (note_at (d.world.nodes s)) up.noted)

pub returns-in-Err-clause-called : goal.returns-in-Err-clause-called
returns-in-Err-clause-called g c = λ d stands over.
    let y = c.args.yard.now in
    let s = c.site_of-site.result in
    let at = get_at y.disk_sets.items s c.index_mut.result.now c.site_of-site.ensures.disk_set c.index_mut.ensures.value in
    let may = attach_may y.facts.items (in_files y) c.args.name.now c.args.volume.now c.args.plex c.requires.free in
    let up = up_named d y c.args.name.now s c.index_mut.result.now stands c.site_of-site.ensures.seat over at may.may in
    let f = get_there y.facts.items s c.site_of-site.ensures.fact in
    let same = reply_same s f.0 c.in-Err.stop _ c.group_stopped.new.yard c.group_stopped.result (c.group_stopped.ensures f.0 f.1) in
    if_ok (λ said. HasCalled d.world (PlexAttach c.args.name.now c.args.volume.now c.args.plex) said y c.group_stopped.new.yard) c.group_stopped.result
    (λ said. asks_at FuseGoesOn d y c.group_stopped.new.yard c.args.name.now s c.index_mut.result.now c.attach_plex.new.self stands c.site_of-site.ensures.seat at (ap (λ es. es.items) same.disk_sets)
    (c.in-Err.ensures.fuse (d.world.nodes s) (note_at (d.world.nodes s)) up.noted))

pub returns-in-Ok-clause-told : goal.returns-in-Ok-clause-told
returns-in-Ok-clause-told g c = told_before c.args.yard.now.disk_sets.items c.site_of-site.result c.index_mut.result.now c.attach_plex.new.self
    (get_at c.args.yard.now.disk_sets.items c.site_of-site.result c.index_mut.result.now c.site_of-site.ensures.disk_set c.index_mut.ensures.value) c.in-Ok.ensures.later

pub returns-in-Err-clause-told : goal.returns-in-Err-clause-told
returns-in-Err-clause-told g c = λ told.
    let y = c.args.yard.now in
    let s = c.site_of-site.result in
    let f = get_there y.facts.items s c.site_of-site.ensures.fact in
    let same = reply_same s f.0 c.in-Err.stop _ c.group_stopped.new.yard c.group_stopped.result (c.group_stopped.ensures f.0 f.1) in
    told_before y.disk_sets.items s c.index_mut.result.now c.attach_plex.new.self (get_at y.disk_sets.items s c.index_mut.result.now c.site_of-site.ensures.disk_set c.index_mut.ensures.value) c.in-Err.ensures.later
    (subst (λ es. AreTold es) (ap (λ es. es.items) same.disk_sets) told)

pub returns-in-Err-clause-files : goal.returns-in-Err-clause-files
returns-in-Err-clause-files g c =
    let y = c.args.yard.now in
    let s = c.site_of-site.result in
    let f = get_there y.facts.items s c.site_of-site.ensures.fact in
    (reply_same s f.0 c.in-Err.stop _ c.group_stopped.new.yard c.group_stopped.result (c.group_stopped.ensures f.0 f.1)).files

pub returns-in-Ok-clause-above : goal.returns-in-Ok-clause-above
returns-in-Ok-clause-above g c = λ d stands over.
    let y = c.args.yard.now in
    let s = c.site_of-site.result in
    let e = c.index_mut.result.now in
    let seat = c.site_of-site.ensures.seat in
    let at = get_at y.disk_sets.items s e c.site_of-site.ensures.disk_set c.index_mut.ensures.value in
    let may = attach_may y.facts.items (in_files y) c.args.name.now c.args.volume.now c.args.plex c.requires.free in
    let start = below_start d y c.args.name.now s e stands seat over may.may at in
    let named = below_plex (missed_world start.missed d s) y c.args.name.now c.args.volume.now c.args.plex s c.number_of-place.result e start.at start.asks seat may at c.number_of-place.ensures in
    attached d y _ c.args.name.now c.args.volume.now c.args.plex _ c.number_of-place.result s e c.attach_plex.new.self start named c.min.ensures
    (record { there = at; later = c.in-Ok.ensures.later; disk_sets = refl; racks = refl }) c.in-Ok.ensures.failing c.in-Ok.ensures.since c.in-Ok.copied c.in-Ok.ensures.over refl (record { flight = refl; assemblies = refl; feeders = refl })

pub returns-in-Err-clause-above : goal.returns-in-Err-clause-above
returns-in-Err-clause-above g c = λ d stands over.
    let y = c.args.yard.now in
    let s = c.site_of-site.result in
    let e = c.index_mut.result.now in
    let seat = c.site_of-site.ensures.seat in
    let at = get_at y.disk_sets.items s e c.site_of-site.ensures.disk_set c.index_mut.ensures.value in
    let may = attach_may y.facts.items (in_files y) c.args.name.now c.args.volume.now c.args.plex c.requires.free in
    let start = below_start d y c.args.name.now s e stands seat over may.may at in
    let named = below_plex (missed_world start.missed d s) y c.args.name.now c.args.volume.now c.args.plex s c.number_of-place.result e start.at start.asks seat may at c.number_of-place.ensures in
    let f = linked_fact (missed_world start.missed d s).world s in
    let reply = c.group_stopped.ensures f start.at.seat.fact in
    let same = reply_same s f c.in-Err.stop _ c.group_stopped.new.yard c.group_stopped.result reply in
    unattached d y c.group_stopped.new.yard c.args.name.now c.args.volume.now c.args.plex _ c.number_of-place.result s e c.attach_plex.new.self start named c.min.ensures
    (record { there = at; later = c.in-Err.ensures.later; disk_sets = ap (λ es. es.items) same.disk_sets; racks = same.racks }) c.in-Err.ensures.failing c.in-Err.ensures.since
    _ c.group_stopped.result (record { facts = refl; load = record { flight = refl; assemblies = refl; feeders = refl } }) c.in-Err.stop c.in-Err.ensures.over reply
