-- `rise`: what the import of a group leads a yard to.
use Rattle.std.proofs.Common.{◌∙◌, ap, sym, subst, refl}
use Rattle.std.specs.Prelude.{Some, slice_set}
use Rattle.vx_model.proofs.Lists.{get_there}
use Rattle.vx_diskset.specs.OverRises.{RaisesAbove}
use Rattle.vx_diskset.specs.OverStarts.{RaisesIn}
use Rattle.vx_diskset.specs.Recovers.{RaisesGroup, RaisesMaps}
use Rattle.vx_diskset.specs.declared.disk_set.DiskSet.TheVariants.{Gone}
use Rattle.vx_yard.proofs.Lists.{get_at, set_twice}
use Rattle.vx_group_lines.proofs.RecoverBeside.{beside_down, beside_up}
use Rattle.vx_group_lines.proofs.RvgRaising.{came_above, fell_above}
use Rattle.vx_group_lines.proofs.Recovering.{dir_mid, of_down, of_up, told_down, told_up}
use Rattle.vx_group_lines.proofs.recover.rise.Goals as goal

pub returns-in-Ok-clause-rises : goal.returns-in-Ok-clause-rises
returns-in-Ok-clause-rises g c = λ e stands below over down.
    let ds = c.args.yard.now.disk_sets.items in
    let s = c.args.site in
    let at = get_at ds s c.index_mut.result.now c.requires.disk_set c.index_mut.ensures.value in
    let there = at ∙ ap (λ x. Some x) (sym c.replace-disk_set.ensures.value) in
    beside_up c.args.yard.now _ c.stand_up.new.yard s c.replace-disk_set.result c.raise_group-disk_set.result.0
    (record {
      there = there;
      disk_sets = ap (λ x. slice_set (slice_set ds s x) s c.raise_group-disk_set.result.0) c.replace-disk_set.ensures.after ∙ set_twice ds s Gone c.raise_group-disk_set.result.0;
      facts = refl;
      racks = refl;
      load = record { flight = refl; assemblies = refl; feeders = refl };
      failing = c.raise_group-disk_set.ensures.failing;
      later = c.raise_group-disk_set.ensures.later;
    })
    e (record { stands = stands; below = below; over = over; down = down }) c.in-Ok.cut c.stand_up.result
    (subst (λ r. RaisesIn c.replace-disk_set.result c.raise_group-disk_set.result.0 r) c.in-Ok.is c.raise_group-disk_set.ensures.brought)
    (λ n note was. subst (λ r. RaisesGroup n note c.replace-disk_set.result c.raise_group-disk_set.result.0 r) c.in-Ok.is (c.raise_group-disk_set.ensures.raised n note was))
    (λ n note was. subst (λ r. RaisesMaps c.replace-disk_set.result c.raise_group-disk_set.result.0 r) c.in-Ok.is (c.raise_group-disk_set.ensures.maps n note was))
    c.raise_group-disk_set.ensures.found
    c.stand_up.ensures.stood

pub returns-in-Ok-clause-failing : goal.returns-in-Ok-clause-failing
returns-in-Ok-clause-failing g c =
    let ds = c.args.yard.now.disk_sets.items in
    let s = c.args.site in
    let at = get_at ds s c.index_mut.result.now c.requires.disk_set c.index_mut.ensures.value in
    let there = at ∙ ap (λ x. Some x) (sym c.replace-disk_set.ensures.value) in
    of_up c.args.yard.now _ c.stand_up.new.yard s c.replace-disk_set.result c.raise_group-disk_set.result.0
    (record {
      there = there;
      disk_sets = ap (λ x. slice_set (slice_set ds s x) s c.raise_group-disk_set.result.0) c.replace-disk_set.ensures.after ∙ set_twice ds s Gone c.raise_group-disk_set.result.0;
      facts = refl;
      racks = refl;
      load = record { flight = refl; assemblies = refl; feeders = refl };
      failing = c.raise_group-disk_set.ensures.failing;
      later = c.raise_group-disk_set.ensures.later;
    })
    c.in-Ok.cut c.stand_up.result c.stand_up.ensures.stood

pub returns-in-Ok-clause-told : goal.returns-in-Ok-clause-told
returns-in-Ok-clause-told g c =
    let ds = c.args.yard.now.disk_sets.items in
    let s = c.args.site in
    let at = get_at ds s c.index_mut.result.now c.requires.disk_set c.index_mut.ensures.value in
    let there = at ∙ ap (λ x. Some x) (sym c.replace-disk_set.ensures.value) in
    told_up c.args.yard.now _ c.stand_up.new.yard s c.replace-disk_set.result c.raise_group-disk_set.result.0
    (record {
      there = there;
      disk_sets = ap (λ x. slice_set (slice_set ds s x) s c.raise_group-disk_set.result.0) c.replace-disk_set.ensures.after ∙ set_twice ds s Gone c.raise_group-disk_set.result.0;
      facts = refl;
      racks = refl;
      load = record { flight = refl; assemblies = refl; feeders = refl };
      failing = c.raise_group-disk_set.ensures.failing;
      later = c.raise_group-disk_set.ensures.later;
    })
    c.in-Ok.cut c.stand_up.result c.stand_up.ensures.stood

pub returns-in-Err-clause-rises : goal.returns-in-Err-clause-rises
returns-in-Err-clause-rises g c = λ e stands below over down.
    let ds = c.args.yard.now.disk_sets.items in
    let s = c.args.site in
    let at = get_at ds s c.index_mut.result.now c.requires.disk_set c.index_mut.ensures.value in
    let there = at ∙ ap (λ x. Some x) (sym c.replace-disk_set.ensures.value) in
    beside_down c.args.yard.now _ c.group_stopped.new.yard s c.replace-disk_set.result c.raise_group-disk_set.result.0
    (record {
      there = there;
      disk_sets = ap (λ x. slice_set (slice_set ds s x) s c.raise_group-disk_set.result.0) c.replace-disk_set.ensures.after ∙ set_twice ds s Gone c.raise_group-disk_set.result.0;
      facts = refl;
      racks = refl;
      load = record { flight = refl; assemblies = refl; feeders = refl };
      failing = c.raise_group-disk_set.ensures.failing;
      later = c.raise_group-disk_set.ensures.later;
    })
    e (record { stands = stands; below = below; over = over; down = down }) c.in-Err.stop c.group_stopped.result
    (subst (λ r. RaisesIn c.replace-disk_set.result c.raise_group-disk_set.result.0 r) c.in-Err.is c.raise_group-disk_set.ensures.brought)
    (λ n note was. subst (λ r. RaisesGroup n note c.replace-disk_set.result c.raise_group-disk_set.result.0 r) c.in-Err.is (c.raise_group-disk_set.ensures.raised n note was))
    (λ n note was. subst (λ r. RaisesMaps c.replace-disk_set.result c.raise_group-disk_set.result.0 r) c.in-Err.is (c.raise_group-disk_set.ensures.maps n note was))
    c.group_stopped.ensures

pub returns-in-Err-clause-failing : goal.returns-in-Err-clause-failing
returns-in-Err-clause-failing g c =
    let ds = c.args.yard.now.disk_sets.items in
    let s = c.args.site in
    let at = get_at ds s c.index_mut.result.now c.requires.disk_set c.index_mut.ensures.value in
    let there = at ∙ ap (λ x. Some x) (sym c.replace-disk_set.ensures.value) in
    let fact = get_there c.args.yard.now.facts.items s c.requires.facts in
    of_down c.args.yard.now _ c.group_stopped.new.yard s c.replace-disk_set.result c.raise_group-disk_set.result.0
    (record {
      there = there;
      disk_sets = ap (λ x. slice_set (slice_set ds s x) s c.raise_group-disk_set.result.0) c.replace-disk_set.ensures.after ∙ set_twice ds s Gone c.raise_group-disk_set.result.0;
      facts = refl;
      racks = refl;
      load = record { flight = refl; assemblies = refl; feeders = refl };
      failing = c.raise_group-disk_set.ensures.failing;
      later = c.raise_group-disk_set.ensures.later;
    })
    c.in-Err.stop fact.0 c.group_stopped.result (c.group_stopped.ensures fact.0 fact.1)

pub returns-in-Err-clause-told : goal.returns-in-Err-clause-told
returns-in-Err-clause-told g c =
    let ds = c.args.yard.now.disk_sets.items in
    let s = c.args.site in
    let at = get_at ds s c.index_mut.result.now c.requires.disk_set c.index_mut.ensures.value in
    let there = at ∙ ap (λ x. Some x) (sym c.replace-disk_set.ensures.value) in
    let fact = get_there c.args.yard.now.facts.items s c.requires.facts in
    told_down c.args.yard.now _ c.group_stopped.new.yard s c.replace-disk_set.result c.raise_group-disk_set.result.0
    (record {
      there = there;
      disk_sets = ap (λ x. slice_set (slice_set ds s x) s c.raise_group-disk_set.result.0) c.replace-disk_set.ensures.after ∙ set_twice ds s Gone c.raise_group-disk_set.result.0;
      facts = refl;
      racks = refl;
      load = record { flight = refl; assemblies = refl; feeders = refl };
      failing = c.raise_group-disk_set.ensures.failing;
      later = c.raise_group-disk_set.ensures.later;
    })
    c.in-Err.stop fact.0 c.group_stopped.result (c.group_stopped.ensures fact.0 fact.1)

pub returns-in-Err-clause-files : goal.returns-in-Err-clause-files
returns-in-Err-clause-files g c =
    let fact = get_there c.args.yard.now.facts.items c.args.site c.requires.facts in
    dir_mid c.in-Err.stop c.args.site fact.0 _ c.group_stopped.new.yard c.group_stopped.result (c.group_stopped.ensures fact.0 fact.1)

pub returns-in-Ok-clause-rests : goal.returns-in-Ok-clause-rests
returns-in-Ok-clause-rests g c = λ d kept taken name rests stands below over down.
    let ds = c.args.yard.now.disk_sets.items in
    let s = c.args.site in
    let at = get_at ds s c.index_mut.result.now c.requires.disk_set c.index_mut.ensures.value in
    let there = at ∙ ap (λ x. Some x) (sym c.replace-disk_set.ensures.value) in
    came_above d name s kept taken c.args.yard.now _ c.stand_up.new.yard c.replace-disk_set.result c.raise_group-disk_set.result.0
    (record {
      there = there;
      disk_sets = ap (λ x. slice_set (slice_set ds s x) s c.raise_group-disk_set.result.0) c.replace-disk_set.ensures.after ∙ set_twice ds s Gone c.raise_group-disk_set.result.0;
      facts = refl;
      racks = refl;
      load = record { flight = refl; assemblies = refl; feeders = refl };
      failing = c.raise_group-disk_set.ensures.failing;
      later = c.raise_group-disk_set.ensures.later;
    })
    (record { rests = rests; stands = stands; below = below; over = over; down = down }) c.in-Ok.cut c.stand_up.result c.stand_up.ensures.stood
    (subst (λ r. RaisesAbove c.replace-disk_set.result c.raise_group-disk_set.result.0 r) c.in-Ok.is c.raise_group-disk_set.ensures.above)

pub returns-in-Err-clause-rests : goal.returns-in-Err-clause-rests
returns-in-Err-clause-rests g c = λ d kept taken name rests stands below over down.
    let ds = c.args.yard.now.disk_sets.items in
    let s = c.args.site in
    let at = get_at ds s c.index_mut.result.now c.requires.disk_set c.index_mut.ensures.value in
    let there = at ∙ ap (λ x. Some x) (sym c.replace-disk_set.ensures.value) in
    fell_above d name s kept taken c.args.yard.now _ c.group_stopped.new.yard c.replace-disk_set.result c.raise_group-disk_set.result.0
    (record {
      there = there;
      disk_sets = ap (λ x. slice_set (slice_set ds s x) s c.raise_group-disk_set.result.0) c.replace-disk_set.ensures.after ∙ set_twice ds s Gone c.raise_group-disk_set.result.0;
      facts = refl;
      racks = refl;
      load = record { flight = refl; assemblies = refl; feeders = refl };
      failing = c.raise_group-disk_set.ensures.failing;
      later = c.raise_group-disk_set.ensures.later;
    })
    (record { rests = rests; stands = stands; below = below; over = over; down = down }) c.in-Err.stop c.group_stopped.result
    (subst (λ r. RaisesAbove c.replace-disk_set.result c.raise_group-disk_set.result.0 r) c.in-Err.is c.raise_group-disk_set.ensures.above) c.group_stopped.ensures
