-- Each case of a line that makes a volume of a group.
use Rattle.std.proofs.Common.{ap, refl}
use Rattle.std.proofs.lemmas.Result.{err_from_is_err_and}
use Rattle.std.specs.Prelude.{is_some}
use Rattle.vx_script.specs.declared.line.ScriptLine.TheVariants.{Volume}
use Rattle.vx_yard.proofs.Lists.{get_at}
use Rattle.vx_group_lines.proofs.BelowMakes.{made, unmade}
use Rattle.vx_group_lines.proofs.BelowShort.{unbegun_below}
use Rattle.vx_group_lines.proofs.VolumeLine.{asked_by, asked_none, called_by, done_by, if_ok, rest_of, stopped_by, told_on}
use Rattle.vx_group_lines.proofs.volume.volume_line.Goals as goal

pub returns-in_err-room-clause-asked : goal.returns-in_err-room-clause-asked
returns-in_err-room-clause-asked g c = λ d blocks mirrors layout log map policy stands is_want free over. asked_none d c.args.yard.now c.args.name.now stands c.requires.named

pub returns-in-Ok-clause-leads : goal.returns-in-Ok-clause-leads
returns-in-Ok-clause-leads g c = λ d blocks mirrors layout log map policy stands is_want free over.
    let there = get_at c.args.yard.now.disk_sets.items c.site_of-site.result c.index_mut.result.now c.site_of-site.ensures.disk_set c.index_mut.ensures.value in
    done_by _ c.note_volumes.new.yard c.note_volumes.ensures.same d c.args.yard.now c.args.name.now c.args.volume.now blocks mirrors layout log map policy c.args.want.now is_want c.site_of-site.result c.index_mut.result.now c.make_volume.new.self
    stands c.site_of-site.ensures.seat over free (record { there = there; later = c.make_volume.ensures.later; disk_sets = refl; racks = refl }) c.make_volume.ensures.failing c.make_volume.ensures.cut c.make_volume.ensures.since
    (record { facts = refl; load = record { flight = refl; assemblies = refl; feeders = refl } }) c.in-Ok.field-0 c.in-Ok.ensures.made c.in-Ok.ensures.maps c.note_volumes.ensures.facts c.note_volumes.ensures.assemblies

pub returns-in-Ok-clause-asked : goal.returns-in-Ok-clause-asked
returns-in-Ok-clause-asked g c = λ d blocks mirrors layout log map policy stands is_want free over.
    let there = get_at c.args.yard.now.disk_sets.items c.site_of-site.result c.index_mut.result.now c.site_of-site.ensures.disk_set c.index_mut.ensures.value in
    asked_by _ c.note_volumes.new.yard c.note_volumes.ensures.same d c.args.yard.now c.args.name.now c.site_of-site.result c.index_mut.result.now c.make_volume.new.self stands c.site_of-site.ensures.seat
    (record { there = there; later = c.make_volume.ensures.later; disk_sets = refl; racks = refl }) c.make_volume.ensures.failing

pub returns-in-Ok-clause-called : goal.returns-in-Ok-clause-called
returns-in-Ok-clause-called g c = λ d blocks mirrors layout log map policy stands is_want free over.
    let there = get_at c.args.yard.now.disk_sets.items c.site_of-site.result c.index_mut.result.now c.site_of-site.ensures.disk_set c.index_mut.ensures.value in
    called_by _ c.note_volumes.new.yard c.note_volumes.ensures.same d c.args.yard.now c.args.name.now c.args.volume.now blocks mirrors layout log map policy c.site_of-site.result c.index_mut.result.now c.make_volume.new.self stands
    c.site_of-site.ensures.seat over free (record { there = there; later = c.make_volume.ensures.later; disk_sets = refl; racks = refl }) c.make_volume.ensures.fuse

pub returns-in-Ok-clause-told : goal.returns-in-Ok-clause-told
returns-in-Ok-clause-told g c = λ told.
    let there = get_at c.args.yard.now.disk_sets.items c.site_of-site.result c.index_mut.result.now c.site_of-site.ensures.disk_set c.index_mut.ensures.value in
    told_on _ c.note_volumes.new.yard c.note_volumes.ensures.same c.args.yard.now c.site_of-site.result c.index_mut.result.now c.make_volume.new.self
    (record { there = there; later = c.make_volume.ensures.later; disk_sets = refl; racks = refl }) told

pub returns-in-Err-clause-leads : goal.returns-in-Err-clause-leads
returns-in-Err-clause-leads g c = λ d blocks mirrors layout log map policy stands is_want free over.
    let there = get_at c.args.yard.now.disk_sets.items c.site_of-site.result c.index_mut.result.now c.site_of-site.ensures.disk_set c.index_mut.ensures.value in
    stopped_by c.site_of-site.result c.in-Err.stop c.group_stopped.result _ c.group_stopped.new.yard c.group_stopped.ensures d c.args.yard.now c.args.name.now c.args.volume.now blocks mirrors layout log map policy c.args.want.now is_want
    c.index_mut.result.now c.make_volume.new.self stands c.site_of-site.ensures.seat over free (record { there = there; later = c.make_volume.ensures.later; disk_sets = refl; racks = refl }) c.make_volume.ensures.failing
    c.make_volume.ensures.cut c.make_volume.ensures.since (record { facts = refl; load = record { flight = refl; assemblies = refl; feeders = refl } }) c.in-Err.ensures.made c.in-Err.ensures.maps

pub returns-in-Err-clause-asked : goal.returns-in-Err-clause-asked
returns-in-Err-clause-asked g c = λ d blocks mirrors layout log map policy stands is_want free over.
    let there = get_at c.args.yard.now.disk_sets.items c.site_of-site.result c.index_mut.result.now c.site_of-site.ensures.disk_set c.index_mut.ensures.value in
    let rest = rest_of c.site_of-site.result c.in-Err.stop c.group_stopped.result _ c.group_stopped.new.yard c.group_stopped.ensures c.args.yard.now.facts.items refl c.site_of-site.ensures.fact in
    asked_by _ c.group_stopped.new.yard rest d c.args.yard.now c.args.name.now c.site_of-site.result c.index_mut.result.now c.make_volume.new.self stands c.site_of-site.ensures.seat
    (record { there = there; later = c.make_volume.ensures.later; disk_sets = refl; racks = refl }) c.make_volume.ensures.failing

pub returns-in-Err-clause-called : goal.returns-in-Err-clause-called
returns-in-Err-clause-called g c = λ d blocks mirrors layout log map policy stands is_want free over.
    let there = get_at c.args.yard.now.disk_sets.items c.site_of-site.result c.index_mut.result.now c.site_of-site.ensures.disk_set c.index_mut.ensures.value in
    let rest = rest_of c.site_of-site.result c.in-Err.stop c.group_stopped.result _ c.group_stopped.new.yard c.group_stopped.ensures c.args.yard.now.facts.items refl c.site_of-site.ensures.fact in
    if_ok c.group_stopped.result _ (λ said.
    called_by _ c.group_stopped.new.yard rest d c.args.yard.now c.args.name.now c.args.volume.now blocks mirrors layout log map policy c.site_of-site.result c.index_mut.result.now c.make_volume.new.self stands
    c.site_of-site.ensures.seat over free (record { there = there; later = c.make_volume.ensures.later; disk_sets = refl; racks = refl }) c.make_volume.ensures.fuse)

pub returns-in-Err-clause-told : goal.returns-in-Err-clause-told
returns-in-Err-clause-told g c = λ told.
    let there = get_at c.args.yard.now.disk_sets.items c.site_of-site.result c.index_mut.result.now c.site_of-site.ensures.disk_set c.index_mut.ensures.value in
    let rest = rest_of c.site_of-site.result c.in-Err.stop c.group_stopped.result _ c.group_stopped.new.yard c.group_stopped.ensures c.args.yard.now.facts.items refl c.site_of-site.ensures.fact in
    told_on _ c.group_stopped.new.yard rest c.args.yard.now c.site_of-site.result c.index_mut.result.now c.make_volume.new.self
    (record { there = there; later = c.make_volume.ensures.later; disk_sets = refl; racks = refl }) told

pub returns-in-Err-clause-files : goal.returns-in-Err-clause-files
returns-in-Err-clause-files g c =
    let rest = rest_of c.site_of-site.result c.in-Err.stop c.group_stopped.result _ c.group_stopped.new.yard c.group_stopped.ensures c.args.yard.now.facts.items refl c.site_of-site.ensures.fact in
    ap (λ o. is_some o) rest.dir

pub returns-in_err-room-clause-above : goal.returns-in_err-room-clause-above
returns-in_err-room-clause-above g c = λ d blocks mirrors layout log map policy stands is_want free over.
    let p = err_from_is_err_and c.from_residual.result c.from_residual.ensures.1 in
    unbegun_below d (Volume c.args.name.now c.args.volume.now blocks mirrors layout log map policy) c.args.yard.now c.from_residual.result p.0 p.1 stands

pub returns-in-Ok-clause-above : goal.returns-in-Ok-clause-above
returns-in-Ok-clause-above g c = λ d blocks mirrors layout log map policy stands is_want free over.
    let there = get_at c.args.yard.now.disk_sets.items c.site_of-site.result c.index_mut.result.now c.site_of-site.ensures.disk_set c.index_mut.ensures.value in
    made d c.args.yard.now _ c.args.name.now c.args.volume.now blocks mirrors layout log map policy c.args.want.now is_want c.site_of-site.result c.index_mut.result.now c.make_volume.new.self stands c.site_of-site.ensures.seat over free (record { there = there; later = c.make_volume.ensures.later; disk_sets = refl; racks = refl }) c.make_volume.ensures.failing c.make_volume.ensures.since
    (record { facts = refl; load = record { flight = refl; assemblies = refl; feeders = refl } }) c.note_volumes.new.yard c.in-Ok.field-0 c.in-Ok.ensures.over c.note_volumes.ensures.facts c.note_volumes.ensures.assemblies c.note_volumes.ensures.same

pub returns-in-Err-clause-above : goal.returns-in-Err-clause-above
returns-in-Err-clause-above g c = λ d blocks mirrors layout log map policy stands is_want free over.
    let there = get_at c.args.yard.now.disk_sets.items c.site_of-site.result c.index_mut.result.now c.site_of-site.ensures.disk_set c.index_mut.ensures.value in
    let rest = rest_of c.site_of-site.result c.in-Err.stop c.group_stopped.result _ c.group_stopped.new.yard c.group_stopped.ensures c.args.yard.now.facts.items refl c.site_of-site.ensures.fact in
    unmade d c.args.yard.now _ c.args.name.now c.args.volume.now blocks mirrors layout log map policy c.args.want.now is_want c.site_of-site.result c.index_mut.result.now c.make_volume.new.self stands c.site_of-site.ensures.seat over free (record { there = there; later = c.make_volume.ensures.later; disk_sets = refl; racks = refl }) c.make_volume.ensures.failing c.make_volume.ensures.since
    (record { facts = refl; load = record { flight = refl; assemblies = refl; feeders = refl } }) c.group_stopped.new.yard c.in-Err.stop c.group_stopped.result c.in-Err.ensures.over rest c.group_stopped.ensures
