-- Each case of a line that makes a raw set.
use Rattle.std.proofs.Common.{◌≡◌, ◌∙◌, ap, sym, refl, arith}
use Rattle.std.specs.Prelude.{slice_get, slice_set, Some, map, ◌-◌}
use Rattle.vx_history.specs.Steps.{raw_volumes}
use Rattle.vx_order.specs.declared.facts.SiteFacts.{SiteFacts}
use Rattle.vx_events.specs.Facts.{seat_of, volume_fact}
use Rattle.vx_yard.specs.Yards.{in_files}
use Rattle.vx_diskset.specs.Asked.{SameFailing}
use Rattle.vx_diskset.proofs.KeepsFailing.{failing_same}
use Rattle.vx_yard.proofs.Lists.{get_at}
use Rattle.vx_yard.proofs.ChangeSite.{told_before}
use Rattle.vx_events.proofs.Refused.{raw_may}
use Rattle.vx_events.proofs.Places.{some_same}
use Rattle.vx_yard.proofs.Seats.{named_some}
use Rattle.vx_yard.proofs.NamedSite.{named_same, asks_at, unbegun_by, unbegun_site}
use Rattle.vx_site_lines.proofs.RawSite.{raw_leads, raw_stops}
use Rattle.std.proofs.lemmas.Result.{err_from_is_err_and}
use Rattle.vx_script.specs.declared.line.ScriptLine.TheVariants.{Raw as RawLine}
use Rattle.vx_site_lines.proofs.make.make_raw.Goals as goal
use Rattle.vx_site_lines.proofs.make.make_raw.Goals.{then-disks-lt-LEAST_RAW_DISKS-via-then-disks-lt-LEAST_RAW_DISKS, then-disks-lt-LEAST_RAW_DISKS-via-else-disks-lt-LEAST_RAW_DISKS+then-disks-gt-MOST_DISKS, then-disks-lt-LEAST_RAW_DISKS-via-else-disks-lt-LEAST_RAW_DISKS+else-disks-gt-MOST_DISKS+then-blocks-lt-LEAST_BLOCKS}

pub site_of-site-requires-clause-named : goal.site_of-site-requires-clause-named
site_of-site-requires-clause-named g c = λ κs within. named_some c.args.yard.now c.args.name.now (raw_may c.args.yard.now.facts.items (in_files c.args.yard.now) c.args.name.now c.requires.free).0

pub unreachable-requires : goal.unreachable-requires
unreachable-requires g c =
    let facts = c.args.yard.now.facts.items in
    let kept = c.requires.kept in
    let s = c.site_of-site.result in
    let one = get_at facts s c.index.result.now c.site_of-site.ensures.fact c.index.ensures in
    let two = get_at facts s c.index-2.result.now c.site_of-site.ensures.fact c.index-2.ensures in
    let may = raw_may c.args.yard.now.facts.items (in_files c.args.yard.now) c.args.name.now c.requires.free in
    let named = λ (f : SiteFacts) (at : slice_get facts s ≡ Some f). named_same c.args.yard.now c.args.name.now s f may.0 c.site_of-site.ensures.seat at in
    let first = named c.index.result.now one in
    let second = named c.index-2.result.now two in
    elim c.then-disks-lt-LEAST_RAW_DISKS.branch [
      | then-disks-lt-LEAST_RAW_DISKS-via-then-disks-lt-LEAST_RAW_DISKS w ↦ absurd (omega (arith, w.if-disks-lt-LEAST_RAW_DISKS.true, may.2, ap (λ (f : SiteFacts). f.disks) first))
      | then-disks-lt-LEAST_RAW_DISKS-via-else-disks-lt-LEAST_RAW_DISKS+then-disks-gt-MOST_DISKS w ↦ absurd (omega (arith, w.if-disks-gt-MOST_DISKS.true, (kept.each s c.index.result.now one).disks (ap (λ (f : SiteFacts). f.state) (sym first) ∙ may.1)))
      | then-disks-lt-LEAST_RAW_DISKS-via-else-disks-lt-LEAST_RAW_DISKS+else-disks-gt-MOST_DISKS+then-blocks-lt-LEAST_BLOCKS w ↦ absurd (omega (arith, w.if-blocks-lt-LEAST_BLOCKS.true, may.3, ap (λ (f : SiteFacts). f.blocks) second))
    ]

pub returns-in-Ok-clause-told : goal.returns-in-Ok-clause-told
returns-in-Ok-clause-told g c =
    let disk_sets = c.args.yard.now.disk_sets.items in
    let at = get_at disk_sets c.site_of-site.result c.index_mut.result.now c.site_of-site.ensures.disk_set c.index_mut.ensures.value in
    told_before disk_sets c.site_of-site.result c.index_mut.result.now c.lay_raw-made.new.place at c.lay_raw-made.ensures.later

pub returns-in-Err-clause-told : goal.returns-in-Err-clause-told
returns-in-Err-clause-told g c =
    let disk_sets = c.args.yard.now.disk_sets.items in
    let at = get_at disk_sets c.site_of-site.result c.index_mut.result.now c.site_of-site.ensures.disk_set c.index_mut.ensures.value in
    told_before disk_sets c.site_of-site.result c.index_mut.result.now c.lay_raw-made.new.place at c.lay_raw-made.ensures.later

pub returns-in-Ok-clause-leads : goal.returns-in-Ok-clause-leads
returns-in-Ok-clause-leads g c = λ d stands.
    let facts = c.args.yard.now.facts.items in
    let disk_sets = c.args.yard.now.disk_sets.items in
    let s = c.site_of-site.result in
    let is : seat_of c.args.yard.now.facts.items c.args.name.now ≡ Some c.site_of-site.result = c.site_of-site.ensures.seat in
    let within = c.site_of-site.ensures.fact in
    let one = get_at facts s c.index.result.now within c.index.ensures in
    let two = get_at facts s c.index-2.result.now within c.index-2.ensures in
    let three = get_at facts s c.index_mut-in-Ok.result.now within c.index_mut-in-Ok.ensures.value in
    let at = get_at disk_sets s c.index_mut.result.now c.site_of-site.ensures.disk_set c.index_mut.ensures.value in
    raw_leads d c.args.yard.now _ c.args.name.now s c.index_mut-in-Ok.result.now c.in_ok-volumes.volumes c.index_mut.result.now c.lay_raw-made.new.place c.lay_raw-made.result c.in-Ok.field-0 stands c.requires.free is three
    (c.in_ok-volumes.ensures
    ∙ ap (λ (f : SiteFacts). map volume_fact (raw_volumes 1 (f.disks - 2) c.index-2.result.now.blocks)) (some_same (sym one ∙ three))
    ∙ ap (λ (f : SiteFacts). map volume_fact (raw_volumes 1 (c.index_mut-in-Ok.result.now.disks - 2) f.blocks)) (some_same (sym two ∙ three)))
    (record {
      there = at;
      later = c.lay_raw-made.ensures.later;
      disk_sets = refl;
      racks = refl;
    })
    c.lay_raw-made.ensures.failing c.in-Ok.is c.lay_raw-made.ensures.made
    (ap (λ (f : SiteFacts). slice_set facts s f) c.make_raw.ensures)
    (record { flight = refl; assemblies = refl; feeders = refl })

pub returns-in-Err-clause-leads : goal.returns-in-Err-clause-leads
returns-in-Err-clause-leads g c = λ d stands.
    let facts = c.args.yard.now.facts.items in
    let disk_sets = c.args.yard.now.disk_sets.items in
    let s = c.site_of-site.result in
    let is : seat_of c.args.yard.now.facts.items c.args.name.now ≡ Some c.site_of-site.result = c.site_of-site.ensures.seat in
    let at = get_at disk_sets s c.index_mut.result.now c.site_of-site.ensures.disk_set c.index_mut.ensures.value in
    raw_stops c.in-Err.stop c.stopped.result d c.args.yard.now _ c.args.name.now s c.index.result.now c.index_mut.result.now c.lay_raw-made.new.place c.lay_raw-made.result c.stopped.ensures stands c.requires.free is
    (get_at facts s c.index.result.now (c.site_of-site.ensures.fact) c.index.ensures)
    (record {
      there = at;
      later = c.lay_raw-made.ensures.later;
      disk_sets = refl;
      racks = refl;
    })
    c.lay_raw-made.ensures.failing c.in-Err.is c.lay_raw-made.ensures.made
    refl (record { flight = refl; assemblies = refl; feeders = refl })

pub returns-in_err-volumes-clause-leads : goal.returns-in_err-volumes-clause-leads
returns-in_err-volumes-clause-leads g c = λ d stands.
    let p = err_from_is_err_and c.from_residual.result c.from_residual.ensures.1 in unbegun_by d (RawLine c.args.name.now) c.args.yard.now _ c.from_residual.result p.0 p.1 refl refl refl (record { flight = refl; assemblies = refl; feeders = refl }) stands

pub returns-in-Ok-clause-asked : goal.returns-in-Ok-clause-asked
returns-in-Ok-clause-asked g c = λ d stands.
    let disk_sets = c.args.yard.now.disk_sets.items in
    let s = c.site_of-site.result in
    let at = get_at disk_sets s c.index_mut.result.now c.site_of-site.ensures.disk_set c.index_mut.ensures.value in
    asks_at SameFailing d c.args.yard.now _ c.args.name.now s c.index_mut.result.now c.lay_raw-made.new.place stands c.site_of-site.ensures.seat at refl c.lay_raw-made.ensures.failing

pub returns-in-Err-clause-asked : goal.returns-in-Err-clause-asked
returns-in-Err-clause-asked g c = λ d stands.
    let disk_sets = c.args.yard.now.disk_sets.items in
    let s = c.site_of-site.result in
    let at = get_at disk_sets s c.index_mut.result.now c.site_of-site.ensures.disk_set c.index_mut.ensures.value in
    asks_at SameFailing d c.args.yard.now _ c.args.name.now s c.index_mut.result.now c.lay_raw-made.new.place stands c.site_of-site.ensures.seat at refl c.lay_raw-made.ensures.failing

pub returns-in_err-volumes-clause-asked : goal.returns-in_err-volumes-clause-asked
returns-in_err-volumes-clause-asked g c = λ d stands.
    unbegun_site SameFailing d c.args.yard.now c.args.name.now failing_same stands (raw_may c.args.yard.now.facts.items (in_files c.args.yard.now) c.args.name.now c.requires.free).0
