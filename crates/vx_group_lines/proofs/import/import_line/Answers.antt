-- Each case of a line that imports a group.
use Rattle.std.proofs.Common.{◌∙◌, ap, sym, subst, refl}
use Rattle.std.specs.Prelude.{Some, is_some, slice_get, slice_set}
use Rattle.std.proofs.lemmas.Result.{err_from_is_err_and}
use Rattle.vx_script.specs.declared.line.ScriptLine.TheVariants.{GroupImport}
use Rattle.vx_grouped.specs.SiteMaps.{CameMapped}
use Rattle.vx_grouped.specs.SiteReturns.{SiteImports}
use Rattle.vx_diskset.proofs.KeepsFailing.{failing_same}
use Rattle.vx_diskset.specs.Asked.{FuseGoesOn, SameFailing}
use Rattle.vx_diskset.specs.GroupCalls.{ImportsOn}
use Rattle.vx_diskset.specs.OverStarts.{ImportsIn}
use Rattle.vx_diskset.specs.OverTakes.{TakesAbove}
use Rattle.vx_diskset.specs.Recovers.{cut_past}
use Rattle.vx_diskset.specs.declared.disk_set.DiskSet.TheVariants.{Gone}
use Rattle.vx_events.specs.GroupNotes.{note_at}
use Rattle.vx_events.specs.LinkedFacts.{linked_fact}
use Rattle.vx_events.specs.StepsOver.{fact_of_group}
use Rattle.vx_yard.proofs.ChangeSite.{told_before}
use Rattle.vx_yard.proofs.Lists.{get_at, get-set_same, set_twice}
use Rattle.vx_yard.proofs.NamedSite.{asks_at, place_at, unbegun_by, unbegun_site}
use Rattle.vx_yard.proofs.Seats.{named_some}
use Rattle.vx_yard.specs.OfSites.{HasCalled}
use Rattle.vx_yard.specs.Stands.{AreTold}
use Rattle.vx_yard.specs.Yards.{in_files}
use Rattle.std.proofs.lemmas.Option.{slice_get_within}
use Rattle.vx_model.proofs.Lists.{get_there}
use Rattle.vx_above.proofs.Works.{beside_over}
use Rattle.vx_group_lines.proofs.AwayTakes.{away_above, takes_done, takes_refused}
use Rattle.vx_group_lines.proofs.GroupLeads.{or_stops}
use Rattle.vx_group_lines.proofs.GroupNamed.{away_named, if_ok, kept_as, kept_same, unbegun_over}
use Rattle.vx_group_lines.proofs.ImportBeside.{import_came, import_kept}
use Rattle.vx_group_lines.proofs.RvgRecovers.{unbegun_above}
use Rattle.vx_group_lines.proofs.Tests.{import_may}
use Rattle.vx_group_lines.proofs.import.import_line.Goals as goal

pub site_of-site-requires-clause-named : goal.site_of-site-requires-clause-named
site_of-site-requires-clause-named g c κs within = named_some c.args.yard.now c.args.name.now (import_may c.args.yard.now.facts.items (in_files c.args.yard.now) c.args.name.now c.requires.free).site

pub returns-in_err-room-clause-beside : goal.returns-in_err-room-clause-beside
returns-in_err-room-clause-beside g c = λ d stands over.
    let p = err_from_is_err_and c.from_residual.result c.from_residual.ensures.1 in
    beside_over d (GroupImport c.args.name.now) c.args.yard.now _ c.from_residual.result over
    (or_stops d (GroupImport c.args.name.now) c.args.yard.now _ c.from_residual.result
    (unbegun_over d (GroupImport c.args.name.now) c.args.yard.now _ c.from_residual.result p.0 p.1
    (unbegun_by d (GroupImport c.args.name.now) c.args.yard.now _ c.from_residual.result p.0 p.1 refl refl refl (record { flight = refl; assemblies = refl; feeders = refl }) stands)))

pub returns-in_err-room-clause-asked : goal.returns-in_err-room-clause-asked
returns-in_err-room-clause-asked g c = λ d stands over.
    unbegun_site SameFailing d c.args.yard.now c.args.name.now failing_same stands (import_may c.args.yard.now.facts.items (in_files c.args.yard.now) c.args.name.now c.requires.free).site

pub returns-in-Ok-clause-beside : goal.returns-in-Ok-clause-beside
returns-in-Ok-clause-beside g c = λ d stands over.
    let y = c.args.yard.now in
    let s = c.site_of-site.result in
    let sets = y.disk_sets.items in
    let before = c.replace-disk_set.result in
    let after = c.import_group-disk_set.result.0 in
    let there = get_at sets s c.index_mut.result.now c.site_of-site.ensures.disk_set c.index_mut.ensures.value ∙ ap (λ e. Some e) (sym c.replace-disk_set.ensures.value) in
    let twice = ap (λ e. slice_set (slice_set sets s e) s after) c.replace-disk_set.ensures.after ∙ set_twice sets s Gone after in
    let up = away_named d y c.args.name.now s before stands c.site_of-site.ensures.seat over there (import_may y.facts.items (in_files y) c.args.name.now c.requires.free) in
    let n = d.world.nodes s in
    let note = note_at (d.world.nodes s) in
    let f = fact_of_group (d.world.nodes s) (note_at (d.world.nodes s)) in
    let same = c.note_up.ensures.same in
    let now = ap (λ es. slice_get es s) twice ∙ get-set_same sets s after (slice_get_within sets s before there) in
    import_came d y c.note_up.new.yard c.args.name.now s before after stands
    (record {
      at = up.at;
      changed = record { there = there; later = c.import_group-disk_set.ensures.later; disk_sets = ap (λ es. es.items) same.disk_sets ∙ twice; racks = same.racks };
      failing = c.import_group-disk_set.ensures.failing;
    })
    (place_at d y c.args.name.now s stands c.site_of-site.ensures.seat).number up.away up.is_away over
    (subst (λ r. ImportsIn before after r) c.in-Ok.is c.import_group-disk_set.ensures.brought)
    (subst (λ r. ImportsOn (λ o e. SiteImports n note o e r) before after) c.in-Ok.is (c.import_group-disk_set.ensures.imported n note up.noted))
    (subst (λ r. ImportsOn (λ o e. CameMapped o e r) before after) c.in-Ok.is (c.import_group-disk_set.ensures.maps n note up.noted))
    (c.import_group-disk_set.ensures.cut ∙ ap (λ r. cut_past r before) c.in-Ok.is) c.import_group-disk_set.ensures.found
    (record { flight = same.flight; assemblies = ap (λ xs. xs.items) c.note_up.ensures.assemblies; feeders = ap (λ xs. xs.items) same.feeders })
    (λ x has plain none. c.note_up.ensures.facts f x up.at.fact (record { disk_set = after; there = now; is = has }) plain (record { disk_set = after; there = now; is = none }))
    (λ core x has at. c.note_up.ensures.made f x core up.at.fact (record { disk_set = after; there = now; is = at }) (record { disk_set = after; there = now; is = has }))

pub returns-in-Err-clause-beside : goal.returns-in-Err-clause-beside
returns-in-Err-clause-beside g c = λ d stands over.
    let y = c.args.yard.now in
    let s = c.site_of-site.result in
    let sets = y.disk_sets.items in
    let before = c.replace-disk_set.result in
    let after = c.import_group-disk_set.result.0 in
    let there = get_at sets s c.index_mut.result.now c.site_of-site.ensures.disk_set c.index_mut.ensures.value ∙ ap (λ e. Some e) (sym c.replace-disk_set.ensures.value) in
    let twice = ap (λ e. slice_set (slice_set sets s e) s after) c.replace-disk_set.ensures.after ∙ set_twice sets s Gone after in
    let up = away_named d y c.args.name.now s before stands c.site_of-site.ensures.seat over there (import_may y.facts.items (in_files y) c.args.name.now c.requires.free) in
    let n = d.world.nodes s in
    let note = note_at (d.world.nodes s) in
    let f = fact_of_group (d.world.nodes s) (note_at (d.world.nodes s)) in
    let now = ap (λ es. slice_get es s) twice ∙ get-set_same sets s after (slice_get_within sets s before there) in
    let reply = kept_as s f c.in-Err.stop _ c.import_stopped.new.yard c.import_stopped.result after (c.import_stopped.ensures f up.at.fact) now in
    let same = kept_same after s f c.in-Err.stop _ c.import_stopped.new.yard c.import_stopped.result reply in
    import_kept d y c.import_stopped.new.yard c.args.name.now s before after stands
    (record {
      at = up.at;
      changed = record { there = there; later = c.import_group-disk_set.ensures.later; disk_sets = ap (λ es. es.items) same.disk_sets ∙ twice; racks = same.racks };
      failing = c.import_group-disk_set.ensures.failing;
    })
    (place_at d y c.args.name.now s stands c.site_of-site.ensures.seat).number up.away up.is_away over
    _ (record { facts = refl; load = record { flight = refl; assemblies = refl; feeders = refl } }) c.import_stopped.result
    (c.import_group-disk_set.ensures.cut ∙ ap (λ r. cut_past r before) c.in-Err.is) c.in-Err.stop
    (subst (λ r. ImportsIn before after r) c.in-Err.is c.import_group-disk_set.ensures.brought)
    (subst (λ r. ImportsOn (λ o e. SiteImports n note o e r) before after) c.in-Err.is (c.import_group-disk_set.ensures.imported n note up.noted))
    (subst (λ r. ImportsOn (λ o e. CameMapped o e r) before after) c.in-Err.is (c.import_group-disk_set.ensures.maps n note up.noted)) reply

pub returns-in_err-room-clause-above : goal.returns-in_err-room-clause-above
returns-in_err-room-clause-above g c = λ d stands over.
    let p = err_from_is_err_and c.from_residual.result c.from_residual.ensures.1 in
    unbegun_above d (GroupImport c.args.name.now) c.args.yard.now c.from_residual.result p.0 p.1 stands

pub returns-in-Ok-clause-above : goal.returns-in-Ok-clause-above
returns-in-Ok-clause-above g c = λ d stands over.
    let y = c.args.yard.now in
    let s = c.site_of-site.result in
    let sets = y.disk_sets.items in
    let before = c.replace-disk_set.result in
    let after = c.import_group-disk_set.result.0 in
    let there = get_at sets s c.index_mut.result.now c.site_of-site.ensures.disk_set c.index_mut.ensures.value ∙ ap (λ e. Some e) (sym c.replace-disk_set.ensures.value) in
    let twice = ap (λ e. slice_set (slice_set sets s e) s after) c.replace-disk_set.ensures.after ∙ set_twice sets s Gone after in
    let at = away_above d y c.args.name.now s stands c.site_of-site.ensures.seat (import_may y.facts.items (in_files y) c.args.name.now c.requires.free) over in
    let same = c.note_up.ensures.same in
    let now = ap (λ es. slice_get es s) twice ∙ get-set_same sets s after (slice_get_within sets s before there) in
    takes_done d y c.note_up.new.yard c.args.name.now s at.number before after stands at.below at.over at.away
    (record { there = there; later = c.import_group-disk_set.ensures.later; disk_sets = ap (λ es. es.items) same.disk_sets ∙ twice; racks = same.racks })
    c.import_group-disk_set.ensures.failing
    (subst (λ r. TakesAbove before after r) c.in-Ok.is c.import_group-disk_set.ensures.above)
    (record { flight = same.flight; assemblies = ap (λ xs. xs.items) c.note_up.ensures.assemblies; feeders = ap (λ xs. xs.items) same.feeders })
    (λ x has plain none. c.note_up.ensures.facts (linked_fact d.world s) x at.fact (record { disk_set = after; there = now; is = has }) plain (record { disk_set = after; there = now; is = none }))
    (λ core x has held. c.note_up.ensures.made (linked_fact d.world s) x core at.fact (record { disk_set = after; there = now; is = held }) (record { disk_set = after; there = now; is = has }))

pub returns-in-Err-clause-above : goal.returns-in-Err-clause-above
returns-in-Err-clause-above g c = λ d stands over.
    let y = c.args.yard.now in
    let s = c.site_of-site.result in
    let sets = y.disk_sets.items in
    let before = c.replace-disk_set.result in
    let after = c.import_group-disk_set.result.0 in
    let there = get_at sets s c.index_mut.result.now c.site_of-site.ensures.disk_set c.index_mut.ensures.value ∙ ap (λ e. Some e) (sym c.replace-disk_set.ensures.value) in
    let twice = ap (λ e. slice_set (slice_set sets s e) s after) c.replace-disk_set.ensures.after ∙ set_twice sets s Gone after in
    let at = away_above d y c.args.name.now s stands c.site_of-site.ensures.seat (import_may y.facts.items (in_files y) c.args.name.now c.requires.free) over in
    let f = linked_fact d.world s in
    let now = ap (λ es. slice_get es s) twice ∙ get-set_same sets s after (slice_get_within sets s before there) in
    let reply = kept_as s f c.in-Err.stop _ c.import_stopped.new.yard c.import_stopped.result after (c.import_stopped.ensures f at.fact) now in
    let same = kept_same after s f c.in-Err.stop _ c.import_stopped.new.yard c.import_stopped.result reply in
    takes_refused d y c.import_stopped.new.yard c.args.name.now s at.number before after stands at.below at.over at.away
    (record { there = there; later = c.import_group-disk_set.ensures.later; disk_sets = ap (λ es. es.items) same.disk_sets ∙ twice; racks = same.racks })
    c.import_group-disk_set.ensures.failing
    _ (record { facts = refl; load = record { flight = refl; assemblies = refl; feeders = refl } }) c.import_stopped.result c.in-Err.stop
    (subst (λ r. TakesAbove before after r) c.in-Err.is c.import_group-disk_set.ensures.above) reply

pub returns-in-Ok-clause-asked : goal.returns-in-Ok-clause-asked
returns-in-Ok-clause-asked g c = λ d stands over.
    let y = c.args.yard.now in
    let s = c.site_of-site.result in
    let sets = y.disk_sets.items in
    let before = c.replace-disk_set.result in
    let after = c.import_group-disk_set.result.0 in
    let there = get_at sets s c.index_mut.result.now c.site_of-site.ensures.disk_set c.index_mut.ensures.value ∙ ap (λ e. Some e) (sym c.replace-disk_set.ensures.value) in
    let twice = ap (λ e. slice_set (slice_set sets s e) s after) c.replace-disk_set.ensures.after ∙ set_twice sets s Gone after in
    asks_at SameFailing d y c.note_up.new.yard c.args.name.now s before after stands c.site_of-site.ensures.seat there (ap (λ es. es.items) c.note_up.ensures.same.disk_sets ∙ twice) c.import_group-disk_set.ensures.failing

pub returns-in-Err-clause-asked : goal.returns-in-Err-clause-asked
returns-in-Err-clause-asked g c = λ d stands over.
    let y = c.args.yard.now in
    let s = c.site_of-site.result in
    let sets = y.disk_sets.items in
    let before = c.replace-disk_set.result in
    let after = c.import_group-disk_set.result.0 in
    let there = get_at sets s c.index_mut.result.now c.site_of-site.ensures.disk_set c.index_mut.ensures.value ∙ ap (λ e. Some e) (sym c.replace-disk_set.ensures.value) in
    let twice = ap (λ e. slice_set (slice_set sets s e) s after) c.replace-disk_set.ensures.after ∙ set_twice sets s Gone after in
    let f = get_there y.facts.items s c.site_of-site.ensures.fact in
    let reply = c.import_stopped.ensures f.0 f.1 in
    let same = kept_same reply.disk_set s f.0 c.in-Err.stop _ c.import_stopped.new.yard c.import_stopped.result reply.is in
    asks_at SameFailing d y c.import_stopped.new.yard c.args.name.now s before after stands c.site_of-site.ensures.seat there (ap (λ es. es.items) same.disk_sets ∙ twice) c.import_group-disk_set.ensures.failing

pub returns-in-Ok-clause-called : goal.returns-in-Ok-clause-called
returns-in-Ok-clause-called g c = λ d stands over.
    let y = c.args.yard.now in
    let s = c.site_of-site.result in
    let sets = y.disk_sets.items in
    let before = c.replace-disk_set.result in
    let after = c.import_group-disk_set.result.0 in
    let there = get_at sets s c.index_mut.result.now c.site_of-site.ensures.disk_set c.index_mut.ensures.value ∙ ap (λ e. Some e) (sym c.replace-disk_set.ensures.value) in
    let twice = ap (λ e. slice_set (slice_set sets s e) s after) c.replace-disk_set.ensures.after ∙ set_twice sets s Gone after in
    let up = away_named d y c.args.name.now s before stands c.site_of-site.ensures.seat over there (import_may y.facts.items (in_files y) c.args.name.now c.requires.free) in
    asks_at FuseGoesOn d y c.note_up.new.yard c.args.name.now s before after stands c.site_of-site.ensures.seat there (ap (λ es. es.items) c.note_up.ensures.same.disk_sets ∙ twice)
    (c.import_group-disk_set.ensures.fuse (d.world.nodes s) (note_at (d.world.nodes s)) up.noted)

pub returns-in-Err-clause-called : goal.returns-in-Err-clause-called
returns-in-Err-clause-called g c = λ d stands over.
    let y = c.args.yard.now in
    let s = c.site_of-site.result in
    let sets = y.disk_sets.items in
    let before = c.replace-disk_set.result in
    let after = c.import_group-disk_set.result.0 in
    let there = get_at sets s c.index_mut.result.now c.site_of-site.ensures.disk_set c.index_mut.ensures.value ∙ ap (λ e. Some e) (sym c.replace-disk_set.ensures.value) in
    let twice = ap (λ e. slice_set (slice_set sets s e) s after) c.replace-disk_set.ensures.after ∙ set_twice sets s Gone after in
    let up = away_named d y c.args.name.now s before stands c.site_of-site.ensures.seat over there (import_may y.facts.items (in_files y) c.args.name.now c.requires.free) in
    let f = get_there y.facts.items s c.site_of-site.ensures.fact in
    let reply = c.import_stopped.ensures f.0 f.1 in
    let same = kept_same reply.disk_set s f.0 c.in-Err.stop _ c.import_stopped.new.yard c.import_stopped.result reply.is in
    if_ok (λ said. HasCalled d.world (GroupImport c.args.name.now) said y c.import_stopped.new.yard) c.import_stopped.result
    (λ said. asks_at FuseGoesOn d y c.import_stopped.new.yard c.args.name.now s before after stands c.site_of-site.ensures.seat there (ap (λ es. es.items) same.disk_sets ∙ twice)
    (c.import_group-disk_set.ensures.fuse (d.world.nodes s) (note_at (d.world.nodes s)) up.noted))

pub returns-in-Ok-clause-told : goal.returns-in-Ok-clause-told
returns-in-Ok-clause-told g c = λ told.
    let y = c.args.yard.now in
    let s = c.site_of-site.result in
    let sets = y.disk_sets.items in
    let before = c.replace-disk_set.result in
    let after = c.import_group-disk_set.result.0 in
    let there = get_at sets s c.index_mut.result.now c.site_of-site.ensures.disk_set c.index_mut.ensures.value ∙ ap (λ e. Some e) (sym c.replace-disk_set.ensures.value) in
    let twice = ap (λ e. slice_set (slice_set sets s e) s after) c.replace-disk_set.ensures.after ∙ set_twice sets s Gone after in
    told_before sets s before after there c.import_group-disk_set.ensures.later (subst (λ es. AreTold es) (ap (λ es. es.items) c.note_up.ensures.same.disk_sets ∙ twice) told)

pub returns-in-Err-clause-told : goal.returns-in-Err-clause-told
returns-in-Err-clause-told g c = λ told.
    let y = c.args.yard.now in
    let s = c.site_of-site.result in
    let sets = y.disk_sets.items in
    let before = c.replace-disk_set.result in
    let after = c.import_group-disk_set.result.0 in
    let there = get_at sets s c.index_mut.result.now c.site_of-site.ensures.disk_set c.index_mut.ensures.value ∙ ap (λ e. Some e) (sym c.replace-disk_set.ensures.value) in
    let twice = ap (λ e. slice_set (slice_set sets s e) s after) c.replace-disk_set.ensures.after ∙ set_twice sets s Gone after in
    let f = get_there y.facts.items s c.site_of-site.ensures.fact in
    let reply = c.import_stopped.ensures f.0 f.1 in
    let same = kept_same reply.disk_set s f.0 c.in-Err.stop _ c.import_stopped.new.yard c.import_stopped.result reply.is in
    told_before sets s before after there c.import_group-disk_set.ensures.later (subst (λ es. AreTold es) (ap (λ es. es.items) same.disk_sets ∙ twice) told)

pub returns-in-Err-clause-files : goal.returns-in-Err-clause-files
returns-in-Err-clause-files g c =
    let y = c.args.yard.now in
    let s = c.site_of-site.result in
    let f = get_there y.facts.items s c.site_of-site.ensures.fact in
    let reply = c.import_stopped.ensures f.0 f.1 in
    (kept_same reply.disk_set s f.0 c.in-Err.stop _ c.import_stopped.new.yard c.import_stopped.result reply.is).files

pub returns-in-Ok-clause-files : goal.returns-in-Ok-clause-files
returns-in-Ok-clause-files g c = ap (λ o. is_some o) c.note_up.ensures.same.dir
