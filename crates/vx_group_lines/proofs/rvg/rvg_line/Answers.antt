-- Each case of a line that makes a replicated volume group.
use Rattle.std.proofs.Common.{◌≡◌, ◌∙◌, ℕ, List, true, ap, arith, length, sym, subst, refl}
use Rattle.std.specs.Prelude.{Some, is_some, slice_get, slice_set}
use Rattle.std.proofs.lemmas.Option.{slice_get_within}
use Rattle.std.proofs.lemmas.Result.{err_from_is_err_and}
use Rattle.vx_config.specs.Checks.{is_group}
use Rattle.vx_model.proofs.Lists.{get_there}
use Rattle.vx_model.specs.declared.units.Units.{Units}
use Rattle.vx_order.specs.declared.facts.SiteFacts.{SiteFacts}
use Rattle.vx_diskset.specs.Makings.{MadeOver}
use Rattle.vx_diskset.specs.declared.disk_set.DiskSet.TheVariants.{Gone}
use Rattle.vx_events.proofs.Places.{some_same}
use Rattle.vx_events.specs.GroupNotes.{note_at}
use Rattle.vx_events.specs.RvgNotes.{units_named}
use Rattle.vx_events.specs.StepsOver.{fact_of_group}
use Rattle.vx_yard.proofs.ChangeSite.{told_before}
use Rattle.vx_yard.proofs.Lists.{get_at, get-set_same, set_twice}
use Rattle.vx_yard.proofs.Seats.{named_some}
use Rattle.vx_yard.specs.Stands.{AreTold}
use Rattle.vx_yard.specs.Yards.{in_files}
use Rattle.vx_group_lines.specs.Making.{seen_units}
use Rattle.vx_group_lines.proofs.GroupNamed.{reply_same}
use Rattle.vx_group_lines.proofs.RvgAt.{asks_config, asks_first, asks_fits, asks_has, asks_none, asks_noted, rvg_at}
use Rattle.vx_group_lines.proofs.RvgEnds.{rvg_done, rvg_stopped, rvg_unbegun, units_are}
use Rattle.vx_group_lines.proofs.Tests.{rvg_few, rvg_named}
use Rattle.vx_group_lines.proofs.rvg.rvg_line.Goals as goal

pub site_of-site-requires-clause-named : goal.site_of-site-requires-clause-named
site_of-site-requires-clause-named g c = λ κs within.
    named_some c.args.yard.now c.args.name.now (rvg_named c.args.yard.now.facts.items (in_files c.args.yard.now) c.args.name.now c.args.srl.now c.args.maps.now c.args.volumes.now c.requires.free)

pub units_seen-units-requires-clause-few : goal.units_seen-units-requires-clause-few
units_seen-units-requires-clause-few g c =
    let s = c.site_of-site.result in
    (c.requires.kept.each s c.index.result.now (get_at c.args.yard.now.facts.items s c.index.result.now c.site_of-site.ensures.fact c.index.ensures)).volumes

pub units_seen-units-requires-clause-room : goal.units_seen-units-requires-clause-room
units_seen-units-requires-clause-room g c =
    let few = rvg_few c.args.yard.now.facts.items (in_files c.args.yard.now) c.args.name.now c.args.srl.now c.args.maps.now c.args.volumes.now c.requires.free in
    omega (arith, few, ap (λ (ns : List (List ℕ)). length ns) c.as_slice.ensures)

pub returns-in_err-room-clause-leads : goal.returns-in_err-room-clause-leads
returns-in_err-room-clause-leads g c = λ d stands.
    let p = err_from_is_err_and c.from_residual.result c.from_residual.ensures.1 in
    rvg_unbegun d c.args.yard.now c.args.name.now c.args.srl.now c.args.maps.now c.args.volumes.now c.from_residual.result p.0 p.1 stands

pub returns-in-Ok-clause-leads : goal.returns-in-Ok-clause-leads
returns-in-Ok-clause-leads g c = λ d stands.
    let y = c.args.yard.now in
    let name = c.args.name.now in
    let srl = c.args.srl.now in
    let maps = c.args.maps.now in
    let volumes = c.args.volumes.now in
    let s = c.site_of-site.result in
    let sets = y.disk_sets.items in
    let before = c.replace-disk_set.result in
    let after = c.make_rvg-disk_set.result.0 in
    let there = get_at sets s c.index_mut.result.now c.site_of-site.ensures.disk_set c.index_mut.ensures.value ∙ ap (λ e. Some e) (sym c.replace-disk_set.ensures.value) in
    let twice = ap (λ e. slice_set (slice_set sets s e) s after) c.replace-disk_set.ensures.after ∙ set_twice sets s Gone after in
    let at = rvg_at d y name srl maps volumes s before stands c.site_of-site.ensures.seat c.requires.free there in
    let n = d.world.nodes s in
    let note = note_at (d.world.nodes s) in
    let config = (asks_config d y name srl maps volumes s before stands at).config in
    let fact = get_at y.facts.items s c.index.result.now c.site_of-site.ensures.fact c.index.ensures in
    let units : c.units_seen-units.result ≡ units_named note srl maps volumes =
    c.units_seen-units.ensures ∙ ap (λ (ns : List (List ℕ)). seen_units c.index.result.now.volumes srl maps ns) c.as_slice.ensures
    ∙ ap (λ (f : SiteFacts). seen_units f.volumes srl maps volumes) (some_same (sym fact ∙ at.group.fact)) ∙ units_are note srl maps volumes in
    let made = c.make_rvg-disk_set.ensures.made n note config (asks_noted d y name srl maps volumes s before stands at) at.up (asks_first d y name srl maps volumes s before stands at) (asks_has d y name srl maps volumes s before stands at)
    (asks_none d y name srl maps volumes s before stands at) (subst (λ (u : Units). is_group config.volumes u ≡ true) (sym units) (asks_fits d y name srl maps volumes s before stands at)) in
    let same = c.note_up.ensures.same in
    let here = ap (λ es. slice_get es s) twice ∙ get-set_same sets s after (slice_get_within sets s before there) in
    rvg_done d y c.note_up.new.yard name srl maps volumes s before after stands at
    (record { there = there; later = c.make_rvg-disk_set.ensures.later; disk_sets = ap (λ es. es.items) same.disk_sets ∙ twice; racks = same.racks }) c.make_rvg-disk_set.ensures.failing c.make_rvg-disk_set.ensures.since
    (subst (λ r. MadeOver s n note (units_named note srl maps volumes) config before after r) c.in-Ok.is (subst (λ (u : Units). MadeOver s n note u config before after c.make_rvg-disk_set.result.1) units made))
    (λ core x stands_over has. c.note_up.ensures.made (fact_of_group n note) x core at.group.fact (record { disk_set = after; there = here; is = has }) (record { disk_set = after; there = here; is = stands_over }))
    (record { flight = same.flight; assemblies = ap (λ xs. xs.items) c.note_up.ensures.assemblies; feeders = ap (λ xs. xs.items) same.feeders })

pub returns-in-Err-clause-leads : goal.returns-in-Err-clause-leads
returns-in-Err-clause-leads g c = λ d stands.
    let y = c.args.yard.now in
    let name = c.args.name.now in
    let srl = c.args.srl.now in
    let maps = c.args.maps.now in
    let volumes = c.args.volumes.now in
    let s = c.site_of-site.result in
    let sets = y.disk_sets.items in
    let before = c.replace-disk_set.result in
    let after = c.make_rvg-disk_set.result.0 in
    let there = get_at sets s c.index_mut.result.now c.site_of-site.ensures.disk_set c.index_mut.ensures.value ∙ ap (λ e. Some e) (sym c.replace-disk_set.ensures.value) in
    let twice = ap (λ e. slice_set (slice_set sets s e) s after) c.replace-disk_set.ensures.after ∙ set_twice sets s Gone after in
    let at = rvg_at d y name srl maps volumes s before stands c.site_of-site.ensures.seat c.requires.free there in
    let n = d.world.nodes s in
    let note = note_at (d.world.nodes s) in
    let config = (asks_config d y name srl maps volumes s before stands at).config in
    let fact = get_at y.facts.items s c.index.result.now c.site_of-site.ensures.fact c.index.ensures in
    let units : c.units_seen-units.result ≡ units_named note srl maps volumes =
    c.units_seen-units.ensures ∙ ap (λ (ns : List (List ℕ)). seen_units c.index.result.now.volumes srl maps ns) c.as_slice.ensures
    ∙ ap (λ (f : SiteFacts). seen_units f.volumes srl maps volumes) (some_same (sym fact ∙ at.group.fact)) ∙ units_are note srl maps volumes in
    let made = c.make_rvg-disk_set.ensures.made n note config (asks_noted d y name srl maps volumes s before stands at) at.up (asks_first d y name srl maps volumes s before stands at) (asks_has d y name srl maps volumes s before stands at)
    (asks_none d y name srl maps volumes s before stands at) (subst (λ (u : Units). is_group config.volumes u ≡ true) (sym units) (asks_fits d y name srl maps volumes s before stands at)) in
    let reply = c.group_stopped.ensures (fact_of_group n note) at.group.fact in
    let same = reply_same s (fact_of_group n note) c.in-Err.stop _ c.group_stopped.new.yard c.group_stopped.result reply in
    rvg_stopped d y c.group_stopped.new.yard name srl maps volumes s before after stands at
    (record { there = there; later = c.make_rvg-disk_set.ensures.later; disk_sets = ap (λ es. es.items) same.disk_sets ∙ twice; racks = same.racks }) c.make_rvg-disk_set.ensures.failing c.make_rvg-disk_set.ensures.since
    _ (record { facts = refl; load = record { flight = refl; assemblies = refl; feeders = refl } }) c.group_stopped.result c.in-Err.stop
    (subst (λ r. MadeOver s n note (units_named note srl maps volumes) config before after r) c.in-Err.is (subst (λ (u : Units). MadeOver s n note u config before after c.make_rvg-disk_set.result.1) units made)) reply

pub returns-in-Ok-clause-told : goal.returns-in-Ok-clause-told
returns-in-Ok-clause-told g c = λ told.
    let s = c.site_of-site.result in
    let sets = c.args.yard.now.disk_sets.items in
    let before = c.replace-disk_set.result in
    let after = c.make_rvg-disk_set.result.0 in
    let there = get_at sets s c.index_mut.result.now c.site_of-site.ensures.disk_set c.index_mut.ensures.value ∙ ap (λ e. Some e) (sym c.replace-disk_set.ensures.value) in
    let twice = ap (λ e. slice_set (slice_set sets s e) s after) c.replace-disk_set.ensures.after ∙ set_twice sets s Gone after in
    told_before sets s before after there c.make_rvg-disk_set.ensures.later (subst (λ es. AreTold es) (ap (λ es. es.items) c.note_up.ensures.same.disk_sets ∙ twice) told)

pub returns-in-Err-clause-told : goal.returns-in-Err-clause-told
returns-in-Err-clause-told g c = λ told.
    let y = c.args.yard.now in
    let s = c.site_of-site.result in
    let sets = y.disk_sets.items in
    let before = c.replace-disk_set.result in
    let after = c.make_rvg-disk_set.result.0 in
    let there = get_at sets s c.index_mut.result.now c.site_of-site.ensures.disk_set c.index_mut.ensures.value ∙ ap (λ e. Some e) (sym c.replace-disk_set.ensures.value) in
    let twice = ap (λ e. slice_set (slice_set sets s e) s after) c.replace-disk_set.ensures.after ∙ set_twice sets s Gone after in
    let f = get_there y.facts.items s c.site_of-site.ensures.fact in
    let same = reply_same s f.0 c.in-Err.stop _ c.group_stopped.new.yard c.group_stopped.result (c.group_stopped.ensures f.0 f.1) in
    told_before sets s before after there c.make_rvg-disk_set.ensures.later (subst (λ es. AreTold es) (ap (λ es. es.items) same.disk_sets ∙ twice) told)

pub returns-in-Err-clause-files : goal.returns-in-Err-clause-files
returns-in-Err-clause-files g c =
    let y = c.args.yard.now in
    let s = c.site_of-site.result in
    let f = get_there y.facts.items s c.site_of-site.ensures.fact in
    (reply_same s f.0 c.in-Err.stop _ c.group_stopped.new.yard c.group_stopped.result (c.group_stopped.ensures f.0 f.1)).files

pub returns-in-Ok-clause-files : goal.returns-in-Ok-clause-files
returns-in-Ok-clause-files g c = ap (λ o. is_some o) c.note_up.ensures.same.dir
