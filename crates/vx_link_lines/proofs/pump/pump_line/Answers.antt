-- `pump_line`: clauses told, leads, asked and called; what `site_of-here`, `link_named` and `keep_pumped` ask.
use Rattle.std.proofs.Common.{◌≡◌, ◌∙◌, ⊎_elim, refl, subst, sym}
use Rattle.std.specs.Prelude.{None, slice_set}
use Rattle.vx_events.specs.Facts.{site_number}
use Rattle.std.proofs.lemmas.List.{with_items_is}
use Rattle.vx_order.specs.Order.{line_refusal}
use Rattle.vx_script.specs.declared.line.ScriptLine.TheVariants.{Pump}
use Rattle.vx_events.specs.declared.said.Said.TheVariants.{Done, Refused}
use Rattle.vx_diskset.specs.Asked.{LeavesAlone, LeavesFuse}
use Rattle.vx_diskset.specs.Burning.{NoMore}
use Rattle.vx_diskset.proofs.AloneCalls.{alone_leaves}
use Rattle.vx_link_lines.proofs.PumpCalls.{pump_stopped}
use Rattle.vx_diskset.specs.Holds.{beside_of}
use Rattle.vx_diskset.specs.Pumps.{PumpStop}
use Rattle.vx_history.specs.declared.sender.Action.{Action}
use Rattle.vx_peers.specs.Senders.{pump_asks}
use Rattle.vx_diskset.specs.Stands.{faults_at}
use Rattle.vx_linked.proofs.Finding.{found, pump_tested, seat_found}
use Rattle.vx_linked.specs.Tables.{FoundLink}
use Rattle.vx_yard.specs.Yards.{in_files}
use Rattle.vx_yard.proofs.ChangeSite.{told_before}
use Rattle.vx_link_lines.proofs.Deaf.{all_told}
use Rattle.vx_yard.proofs.Lists.{get_at}
use Rattle.vx_yard.proofs.NamedSite.{asks_at}
use Rattle.vx_yard.proofs.OverGroup.{none_noted}
use Rattle.vx_yard.proofs.RawSites.{raw_site, raw_told}
use Rattle.vx_link_lines.proofs.PumpLine.{asked_named, moved_named, pump_brings, pump_finds, pump_stops, pump_told, pumped_named, pumping, sent_named}
use Rattle.vx_link_lines.proofs.RawParts.{raw_there}
use Rattle.vx_link_lines.proofs.pump.pump_line.Goals as goal

pub site_of-here-requires-clause-named : goal.site_of-here-requires-clause-named
site_of-here-requires-clause-named g c = λ κs within.
    seat_found c.args.yard.now.facts.items c.args.first.now (pump_tested c.args.yard.now.facts.items c.args.first.now c.args.second.now (in_files c.args.yard.now, c.requires.free)).known

pub link_named-requires : goal.link_named-requires
link_named-requires g c = record {
  found = subst (λ fs. FoundLink fs c.args.first.now c.args.second.now) (sym c.deref.ensures.value)
      (found c.args.yard.now.facts.items c.args.first.now c.args.second.now (pump_tested c.args.yard.now.facts.items c.args.first.now c.args.second.now (in_files c.args.yard.now, c.requires.free)));
}

pub keep_pumped-requires : goal.keep_pumped-requires
keep_pumped-requires g c = record {
  free = (in_files c.args.yard.now, subst (λ fs. line_refusal fs (in_files c.args.yard.now) (Pump c.args.first.now c.args.second.now) ≡ None) (sym c.deref_mut.ensures.value) c.requires.free);
}

pub returns-in-Ok-clause-told : goal.returns-in-Ok-clause-told
returns-in-Ok-clause-told g c =
    let es = c.args.yard.now.disk_sets.items in
    let s = c.site_of-here.result in
    told_before es s c.index_mut.result.now c.pump.new.self (get_at es s c.index_mut.result.now c.site_of-here.ensures.disk_set c.index_mut.ensures.value) c.in-Ok.ensures.later

pub returns-in-Err-clause-told : goal.returns-in-Err-clause-told
returns-in-Err-clause-told g c =
    let es = c.args.yard.now.disk_sets.items in
    let s = c.site_of-here.result in
    told_before es s c.index_mut.result.now c.pump.new.self (get_at es s c.index_mut.result.now c.site_of-here.ensures.disk_set c.index_mut.ensures.value) c.in-Err.ensures.later

pub returns-in-Ok-clause-leads : goal.returns-in-Ok-clause-leads
returns-in-Ok-clause-leads g c = λ d stands carries.
    let old = c.args.yard.now in
    let es = old.disk_sets.items in
    let s = c.site_of-here.result in
    let p = c.args.first.now in
    let q = c.args.second.now in
    let before = c.index_mut.result.now in
    let after = c.pump.new.self in
    let at = get_at es s before c.site_of-here.ensures.disk_set c.index_mut.ensures.value in
    let there = found old.facts.items p q (pump_tested old.facts.items p q (in_files old, c.requires.free)) in
    let asks = pumping d old p q s c.deref.result.now c.link_named.result stands c.requires.free c.site_of-here.ensures.seat c.deref.ensures.value c.link_named.ensures.link
    (subst (λ fs. FoundLink fs p q) (sym c.deref.ensures.value) there) in
    let stood = stands.disk_sets.sites s before asks.seat.below at in
    let none = none_noted (d.world.nodes s) asks.seat.apart asks.raw in
    let raw = raw_site (beside_of d s) (d.world.nodes s) before none stood in
    let was = told_before es s before after at c.in-Ok.ensures.later in
    let items = with_items_is old.facts c.keep_pumped.new.sites (c.keep_pumped.auto.sites ∙ c.deref_mut.ensures.len) in
    ⊎_elim
    (λ tells.
    let moved = moved_named d old p q s c.link_named.result.link c.pump.new.link c.pump.new.flight asks
    (c.in-Ok.ensures.pumped d asks.place stood raw asks.origin asks.up asks.seat.apart asks.running (raw_told before raw ((was tells).each s before at)) asks.kept asks.link_is carries.flight) in
    pump_brings d old _ s before after stands carries asks.seat.below (record { there = at; later = c.in-Ok.ensures.later; disk_sets = refl; racks = refl }) c.in-Ok.ensures.still c.in-Ok.ensures.stands c.in-Ok.ensures.role none
    (record { assemblies = refl; feeders = refl }) was p q c.keep_pumped.new.sites (c.keep_pumped.ensures.world d.world c.pump.new.flight (c.deref_mut.ensures.value ∙ stands.facts) moved.link moved.flight) items)
    (λ untold.
    pump_finds d old _ s before after stands carries asks.seat.below (record { there = at; later = c.in-Ok.ensures.later; disk_sets = refl; racks = refl }) c.in-Ok.ensures.still c.in-Ok.ensures.stands c.in-Ok.ensures.role none
    (record { assemblies = refl; feeders = refl }) was p q c.keep_pumped.new.sites untold
    (sent_named d old p q s c.link_named.result.link old.flight c.pump.new.flight asks (c.in-Ok.ensures.more (beside_of d s) (d.world.nodes s) stood))
    (c.keep_pumped.ensures.facts d.world (c.deref_mut.ensures.value ∙ stands.facts) (pumped_named d old p q s c.link_named.result.link c.pump.new.link asks (c.in-Ok.ensures.rule (beside_of d s) (d.world.nodes s) stood))) items)
    (all_told (slice_set es s after))

pub returns-in-Err-clause-leads : goal.returns-in-Err-clause-leads
returns-in-Err-clause-leads g c = λ d stands carries.
    let old = c.args.yard.now in
    let es = old.disk_sets.items in
    let s = c.site_of-here.result in
    let p = c.args.first.now in
    let q = c.args.second.now in
    let before = c.index_mut.result.now in
    let after = c.pump.new.self in
    let at = get_at es s before c.site_of-here.ensures.disk_set c.index_mut.ensures.value in
    let there = found old.facts.items p q (pump_tested old.facts.items p q (in_files old, c.requires.free)) in
    let asks = pumping d old p q s c.deref.result.now c.link_named.result stands c.requires.free c.site_of-here.ensures.seat c.deref.ensures.value c.link_named.ensures.link
    (subst (λ fs. FoundLink fs p q) (sym c.deref.ensures.value) there) in
    let stood = stands.disk_sets.sites s before asks.seat.below at in
    let none = none_noted (d.world.nodes s) asks.seat.apart asks.raw in
    let raw = raw_site (beside_of d s) (d.world.nodes s) before none stood in
    let was = told_before es s before after at c.in-Err.ensures.later in
    pump_stops d old _ s before after stands carries asks.seat.below (record { there = at; later = c.in-Err.ensures.later; disk_sets = refl; racks = refl }) c.in-Err.ensures.still c.in-Err.ensures.stands c.in-Err.ensures.role none
    (record { assemblies = refl; feeders = refl }) was p q c.pump.new.flight c.in-Err.stop c.stopped.result (subst (λ (a : Action). PumpStop (d.world.nodes s) a (faults_at before) (faults_at after) c.in-Err.stop) (asked_named d old p q s c.link_named.result.link asks) (c.in-Err.ensures.stops (beside_of d s) (d.world.nodes s) stood raw asks.origin asks.up asks.seat.apart asks.running))
    (λ why same other tells.
    pump_told d.world s c.link_named.result.link.site c.pump.new.link c.pump.new.flight (faults_at before) (faults_at after) c.in-Err.stop
    (c.in-Err.ensures.pumped d asks.place stood raw asks.origin asks.up asks.seat.apart asks.running (raw_told before raw ((was tells).each s before at)) asks.kept asks.link_is carries.flight) why same other)
    c.stopped.ensures asks.seat.number refl refl c.in-Err.ensures.unsent

pub returns-in-Ok-clause-asked : goal.returns-in-Ok-clause-asked
returns-in-Ok-clause-asked g c = λ d stands.
    let old = c.args.yard.now in
    let s = c.site_of-here.result in
    asks_at LeavesAlone d old _ c.args.first.now s c.index_mut.result.now c.pump.new.self stands c.site_of-here.ensures.seat
    (get_at old.disk_sets.items s c.index_mut.result.now c.site_of-here.ensures.disk_set c.index_mut.ensures.value) refl c.in-Ok.ensures.still

pub returns-in-Err-clause-asked : goal.returns-in-Err-clause-asked
returns-in-Err-clause-asked g c = λ d stands.
    let old = c.args.yard.now in
    let s = c.site_of-here.result in
    asks_at LeavesAlone d old _ c.args.first.now s c.index_mut.result.now c.pump.new.self stands c.site_of-here.ensures.seat
    (get_at old.disk_sets.items s c.index_mut.result.now c.site_of-here.ensures.disk_set c.index_mut.ensures.value) refl c.in-Err.ensures.still

pub returns-in-Ok-clause-called : goal.returns-in-Ok-clause-called
returns-in-Ok-clause-called g c = λ d stands.
    let old = c.args.yard.now in
    let s = c.site_of-here.result in
    let before = c.index_mut.result.now in
    let after = c.pump.new.self in
    asks_at (LeavesFuse NoMore Done) d old _ c.args.first.now s before after stands c.site_of-here.ensures.seat
    (get_at old.disk_sets.items s before c.site_of-here.ensures.disk_set c.index_mut.ensures.value) refl
    (alone_leaves Done before after (λ why is. let said : Done ≡ Refused why = is in cc) c.in-Ok.ensures.still)

pub returns-in-Err-clause-called : goal.returns-in-Err-clause-called
returns-in-Err-clause-called g c = λ d stands.
    let old = c.args.yard.now in
    let s = c.site_of-here.result in
    let p = c.args.first.now in
    let q = c.args.second.now in
    let before = c.index_mut.result.now in
    let after = c.pump.new.self in
    let at = get_at old.disk_sets.items s before c.site_of-here.ensures.disk_set c.index_mut.ensures.value in
    let there = found old.facts.items p q (pump_tested old.facts.items p q (in_files old, c.requires.free)) in
    let asks = pumping d old p q s c.deref.result.now c.link_named.result stands c.requires.free c.site_of-here.ensures.seat c.deref.ensures.value c.link_named.ensures.link
    (subst (λ fs. FoundLink fs p q) (sym c.deref.ensures.value) there) in
    let stood = stands.disk_sets.sites s before asks.seat.below at in
    let raw = raw_there d old s before stands asks.seat.below at asks.raw in
    pump_stopped s old _ before after at refl c.in-Err.ensures.still (d.world.nodes s) (pump_asks c.link_named.result.link (d.world.nodes s).safe) (faults_at before) (faults_at after) (site_number d.world p) c.in-Err.stop c.stopped.result asks.seat.number
    (c.in-Err.ensures.stops (beside_of d s) (d.world.nodes s) stood raw asks.origin asks.up asks.seat.apart asks.running) c.stopped.ensures
