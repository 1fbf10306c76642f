-- `stand_up`: how a group that came up stands, and what is kept.
use Rattle.std.proofs.Common.{◌≡◌, ◌∙◌, ◌<◌, length, ap, sym, subst, refl}
use Rattle.std.specs.Prelude.{Some, slice_get, slice_set, Ok, Err}
use Rattle.std.proofs.lemmas.Option.{slice_get_within}
use Rattle.vx_diskset.specs.GroupCalls.{config_in}
use Rattle.vx_diskset.specs.OverRises.{LooksOver}
use Rattle.vx_diskset.specs.Recovers.{LooksAt}
use Rattle.vx_events.proofs.Places.{some_same}
use Rattle.vx_events.specs.GroupViews.{volumes_of}
use Rattle.vx_group_lines.specs.Rises.{kept_shown}
use Rattle.vx_diskset.specs.declared.disk_set.DiskSet.TheVariants.{Gone}
use Rattle.vx_yard.proofs.Lists.{get-set_same, get_at, set_twice}
use Rattle.vx_group_lines.proofs.Recovering.{above_down, above_up, so_down, so_up, stood_by}
use Rattle.vx_group_lines.proofs.recover.stand_up.Goals as goal

pub view_at-requires-clause-facts : goal.view_at-requires-clause-facts
view_at-requires-clause-facts g c κs within = subst (λ k. c.args.site < k) (sym c.note_up.ensures.many) c.requires.facts

pub fall_again-requires-clause-facts : goal.fall_again-requires-clause-facts
fall_again-requires-clause-facts g c κs within = subst (λ k. c.args.site < k) (sym c.note_up.ensures.many) c.requires.facts

pub returns-in-Ok : goal.returns-in-Ok
returns-in-Ok g c =
    let y = c.args.yard.now in
    let s = c.args.site in
    let mid = c.note_up.new.yard in
    let ds = mid.disk_sets.items in
    let low : s < length ds = subst (λ es. s < length es.items) (sym c.note_up.ensures.same.disk_sets) c.requires.disk_set in
    let at = get_at ds s c.index_mut.result.now low c.index_mut.ensures.value in
    let before = c.replace-disk_set.result in
    let after = c.look_at_cut-disk_set.result.0 in
    let there : slice_get ds s ≡ Some before = at ∙ ap (λ x. Some x) (sym c.replace-disk_set.ensures.value) in
    let put = ap (λ x. slice_set (slice_set ds s x) s after) c.replace-disk_set.ensures.after ∙ set_twice ds s Gone after in
    let here = ap (λ es. slice_get es s) put ∙ get-set_same ds s after low in
    let now : c.index.result.now ≡ after = some_same (sym (get_at _ s c.index.result.now (slice_get_within _ s after here) c.index.ensures) ∙ here) in
    let shows = c.shown_if-kept.ensures ∙ ap (λ o. kept_shown (volumes_of o) c.in-Ok.kept) (c.config.ensures ∙ ap (λ e. config_in e) now) in
    record {
      stood =
          stood_by s c.args.cut y mid _ before after (Ok c.in-Ok.kept) _ c.note_up.ensures.same there put
          (λ n note up. subst (λ r. LooksAt n note c.args.cut before after r) c.in-Ok.is (c.look_at_cut-disk_set.ensures.looks n note up)) (λ n note up. c.look_at_cut-disk_set.ensures.maps n note up) c.look_at_cut-disk_set.ensures.failing c.look_at_cut-disk_set.ensures.later refl refl refl refl
          (subst (λ r. LooksOver c.args.cut before after r) c.in-Ok.is c.look_at_cut-disk_set.ensures.stands)
          (so_up s y mid _ before after c.in-Ok.kept c.shown_if-kept.result c.view_at.result c.note_up.ensures.same there refl refl c.note_up.ensures.assemblies here shows c.note_up.ensures.facts c.view_at.ensures.up)
          (above_up s y mid _ before after c.in-Ok.kept c.shown_if-kept.result c.view_at.result c.note_up.ensures.same there refl refl c.note_up.ensures.assemblies shows c.note_up.ensures.made c.view_at.ensures.above);
    }

pub returns-in-Err : goal.returns-in-Err
returns-in-Err g c =
    let y = c.args.yard.now in
    let s = c.args.site in
    let mid = c.note_up.new.yard in
    let ds = mid.disk_sets.items in
    let low : s < length ds = subst (λ es. s < length es.items) (sym c.note_up.ensures.same.disk_sets) c.requires.disk_set in
    let at = get_at ds s c.index_mut.result.now low c.index_mut.ensures.value in
    let before = c.replace-disk_set.result in
    let after = c.look_at_cut-disk_set.result.0 in
    let there : slice_get ds s ≡ Some before = at ∙ ap (λ x. Some x) (sym c.replace-disk_set.ensures.value) in
    let put = ap (λ x. slice_set (slice_set ds s x) s after) c.replace-disk_set.ensures.after ∙ set_twice ds s Gone after in
    let same = c.fall_again.ensures.same in
    record {
      stood =
          stood_by s c.args.cut y mid c.fall_again.new.yard before after (Err c.in-Err.stop) c.fall_again.result c.note_up.ensures.same there (ap (λ es. es.items) same.disk_sets ∙ put)
          (λ n note up. subst (λ r. LooksAt n note c.args.cut before after r) c.in-Err.is (c.look_at_cut-disk_set.ensures.looks n note up)) (λ n note up. c.look_at_cut-disk_set.ensures.maps n note up) c.look_at_cut-disk_set.ensures.failing c.look_at_cut-disk_set.ensures.later same.racks same.flight same.feeders same.dir
          (subst (λ r. LooksOver c.args.cut before after r) c.in-Err.is c.look_at_cut-disk_set.ensures.stands)
          (so_down s y mid mid c.fall_again.new.yard before after c.in-Err.stop c.fall_again.result c.note_up.ensures.same there refl refl c.note_up.ensures.assemblies c.note_up.ensures.facts c.fall_again.ensures.facts c.fall_again.ensures.assemblies c.fall_again.ensures.said)
          (above_down s y mid mid c.fall_again.new.yard before after c.in-Err.stop c.fall_again.result c.note_up.ensures.same there refl refl c.note_up.ensures.assemblies c.note_up.ensures.made c.fall_again.ensures.facts c.fall_again.ensures.assemblies c.fall_again.ensures.said);
    }
