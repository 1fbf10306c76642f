-- Each case of a line that reads a volume of a group.
use Rattle.std.proofs.Common.{◌≡◌, ◌∙◌, refl}
use Rattle.std.specs.Prelude.{Some}
use Rattle.vx_events.specs.Facts.{seat_of}
use Rattle.vx_events.specs.GroupNotes.{note_at}
use Rattle.vx_yard.proofs.ChangeSite.{told_before}
use Rattle.vx_yard.proofs.Lists.{get_at}
use Rattle.vx_yard.proofs.Seats.{named_some}
use Rattle.vx_group_lines.proofs.BelowAt.{below_call, below_fits}
use Rattle.vx_group_lines.proofs.BelowReads.{below_done, below_stops}
use Rattle.vx_group_lines.proofs.GroupCalls.{at_up}
use Rattle.vx_group_lines.proofs.GroupPlain.{plain_fits, plain_numbered}
use Rattle.vx_group_lines.proofs.GroupRead.{may_read, read_asks, read_done, read_over, read_stops}
use Rattle.vx_group_lines.proofs.read.read_plain.Goals as goal

pub site_of-site-requires-clause-named : goal.site_of-site-requires-clause-named
site_of-site-requires-clause-named g c = λ κs within.
    let free = c.requires.free in named_some c.args.yard.now c.args.name.now (may_read c.args.yard.now free.0 c.args.name.now c.args.volume.now c.args.start free.1 free.2 free.3).site

pub returns-in-Ok-clause-leads : goal.returns-in-Ok-clause-leads
returns-in-Ok-clause-leads g c = λ d line count stands is room free over.
    let y = c.args.yard.now in
    let s = c.site_of-site.result in
    let e = c.index_mut.result.now in
    let seat : seat_of y.facts.items c.args.name.now ≡ Some c.site_of-site.result = c.site_of-site.ensures.seat in
    let at = get_at y.disk_sets.items s e c.site_of-site.ensures.disk_set c.index_mut.ensures.value in
    let may = may_read y line c.args.name.now c.args.volume.now c.args.start count is free in
    let plain = plain_numbered d y c.args.name.now c.args.volume.now c.args.start count s c.number_of-place.result e stands (read_over d.world line c.args.name.now c.args.volume.now c.args.start count is over) may seat at c.number_of-place.ensures in
    let up = at_up d y c.args.name.now s e plain.at plain.up in
    let fits = plain_fits d y c.args.name.now c.args.volume.now c.args.start count s c.number_of-place.result e _ plain room.size in
    read_done d y _ line c.args.name.now c.args.volume.now c.args.start count s c.number_of-place.result e c.blocks_of.new.disk_set stands is plain (record { at = plain.at; changed = record { there = at; later = c.in-Ok.ensures.later; disk_sets = refl; racks = refl }; failing = c.in-Ok.ensures.failing }) c.in-Ok.ensures.since refl (record { flight = refl; assemblies = refl; feeders = refl })
    c.in-Ok.blocks (c.in-Ok.ensures.size ∙ room.size)
    (c.in-Ok.ensures.read (d.world.nodes s) (note_at (d.world.nodes s)) up fits) (c.in-Ok.ensures.maps (d.world.nodes s) (note_at (d.world.nodes s)) up fits) c.in-Ok.ensures.cut

pub returns-in-Err-clause-leads : goal.returns-in-Err-clause-leads
returns-in-Err-clause-leads g c = λ d line count stands is room free over.
    let y = c.args.yard.now in
    let s = c.site_of-site.result in
    let e = c.index_mut.result.now in
    let seat : seat_of y.facts.items c.args.name.now ≡ Some c.site_of-site.result = c.site_of-site.ensures.seat in
    let at = get_at y.disk_sets.items s e c.site_of-site.ensures.disk_set c.index_mut.ensures.value in
    let may = may_read y line c.args.name.now c.args.volume.now c.args.start count is free in
    let plain = plain_numbered d y c.args.name.now c.args.volume.now c.args.start count s c.number_of-place.result e stands (read_over d.world line c.args.name.now c.args.volume.now c.args.start count is over) may seat at c.number_of-place.ensures in
    let up = at_up d y c.args.name.now s e plain.at plain.up in
    let fits = plain_fits d y c.args.name.now c.args.volume.now c.args.start count s c.number_of-place.result e _ plain room.size in
    read_stops d y _ line c.args.name.now c.args.volume.now c.args.start count s c.number_of-place.result e c.blocks_of.new.disk_set stands is plain (record { at = plain.at; changed = record { there = at; later = c.in-Err.ensures.later; disk_sets = refl; racks = refl }; failing = c.in-Err.ensures.failing }) c.in-Err.ensures.since refl (record { flight = refl; assemblies = refl; feeders = refl })
    c.in-Err.no
    (c.in-Err.ensures.read (d.world.nodes s) (note_at (d.world.nodes s)) up fits) (c.in-Err.ensures.maps (d.world.nodes s) (note_at (d.world.nodes s)) up fits) c.in-Err.ensures.cut

pub returns-in-Ok-clause-asked : goal.returns-in-Ok-clause-asked
returns-in-Ok-clause-asked g c = λ d line count stands is room free over.
    let y = c.args.yard.now in
    let s = c.site_of-site.result in
    let e = c.index_mut.result.now in
    let seat : seat_of y.facts.items c.args.name.now ≡ Some c.site_of-site.result = c.site_of-site.ensures.seat in
    let at = get_at y.disk_sets.items s e c.site_of-site.ensures.disk_set c.index_mut.ensures.value in
    read_asks d y _ line c.args.name.now c.args.volume.now c.args.start count s e c.blocks_of.new.disk_set stands is (read_over d.world line c.args.name.now c.args.volume.now c.args.start count is over) seat at refl c.in-Ok.ensures.failing

pub returns-in-Err-clause-asked : goal.returns-in-Err-clause-asked
returns-in-Err-clause-asked g c = λ d line count stands is room free over.
    let y = c.args.yard.now in
    let s = c.site_of-site.result in
    let e = c.index_mut.result.now in
    let seat : seat_of y.facts.items c.args.name.now ≡ Some c.site_of-site.result = c.site_of-site.ensures.seat in
    let at = get_at y.disk_sets.items s e c.site_of-site.ensures.disk_set c.index_mut.ensures.value in
    read_asks d y _ line c.args.name.now c.args.volume.now c.args.start count s e c.blocks_of.new.disk_set stands is (read_over d.world line c.args.name.now c.args.volume.now c.args.start count is over) seat at refl c.in-Err.ensures.failing

pub returns-in-Ok-clause-told : goal.returns-in-Ok-clause-told
returns-in-Ok-clause-told g c =
    told_before c.args.yard.now.disk_sets.items c.site_of-site.result c.index_mut.result.now c.blocks_of.new.disk_set
    (get_at c.args.yard.now.disk_sets.items c.site_of-site.result c.index_mut.result.now c.site_of-site.ensures.disk_set c.index_mut.ensures.value) c.in-Ok.ensures.later

pub returns-in-Err-clause-told : goal.returns-in-Err-clause-told
returns-in-Err-clause-told g c =
    told_before c.args.yard.now.disk_sets.items c.site_of-site.result c.index_mut.result.now c.blocks_of.new.disk_set
    (get_at c.args.yard.now.disk_sets.items c.site_of-site.result c.index_mut.result.now c.site_of-site.ensures.disk_set c.index_mut.ensures.value) c.in-Err.ensures.later

pub returns-in-Ok-clause-above : goal.returns-in-Ok-clause-above
returns-in-Ok-clause-above g c = λ d line count stands is room free over plain.
    let y = c.args.yard.now in
    let s = c.site_of-site.result in
    let e = c.index_mut.result.now in
    let seat : seat_of y.facts.items c.args.name.now ≡ Some c.site_of-site.result = c.site_of-site.ensures.seat in
    let at = get_at y.disk_sets.items s e c.site_of-site.ensures.disk_set c.index_mut.ensures.value in
    let may = may_read y line c.args.name.now c.args.volume.now c.args.start count is free in
    let call = below_call d y c.args.name.now c.args.volume.now c.args.start count s c.number_of-place.result e stands seat over plain may at c.number_of-place.ensures in
    let fits = below_fits d y c.args.name.now c.args.volume.now c.args.start count s c.number_of-place.result e _ call room.size in
    below_done d y _ line c.args.name.now c.args.volume.now c.args.start count s c.number_of-place.result e c.blocks_of.new.disk_set stands is call (record { there = at; later = c.in-Ok.ensures.later; disk_sets = refl; racks = refl }) c.in-Ok.ensures.failing c.in-Ok.ensures.since refl (record { flight = refl; assemblies = refl; feeders = refl })
    _ c.in-Ok.blocks fits (c.in-Ok.ensures.size ∙ room.size) c.in-Ok.ensures.over

pub returns-in-Err-clause-above : goal.returns-in-Err-clause-above
returns-in-Err-clause-above g c = λ d line count stands is room free over plain.
    let y = c.args.yard.now in
    let s = c.site_of-site.result in
    let e = c.index_mut.result.now in
    let seat : seat_of y.facts.items c.args.name.now ≡ Some c.site_of-site.result = c.site_of-site.ensures.seat in
    let at = get_at y.disk_sets.items s e c.site_of-site.ensures.disk_set c.index_mut.ensures.value in
    let may = may_read y line c.args.name.now c.args.volume.now c.args.start count is free in
    let call = below_call d y c.args.name.now c.args.volume.now c.args.start count s c.number_of-place.result e stands seat over plain may at c.number_of-place.ensures in
    let fits = below_fits d y c.args.name.now c.args.volume.now c.args.start count s c.number_of-place.result e _ call room.size in
    below_stops d y _ line c.args.name.now c.args.volume.now c.args.start count s c.number_of-place.result e c.blocks_of.new.disk_set stands is call (record { there = at; later = c.in-Err.ensures.later; disk_sets = refl; racks = refl }) c.in-Err.ensures.failing c.in-Err.ensures.since refl (record { flight = refl; assemblies = refl; feeders = refl })
    _ c.in-Err.no fits c.in-Err.ensures.over
