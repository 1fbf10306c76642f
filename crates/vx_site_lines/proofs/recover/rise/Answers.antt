-- Each case of the start of a group.
use Rattle.std.proofs.Common.{◌∙◌, ◌≤◌, ℕ, ap, sym, subst, refl, arith}
use Rattle.std.specs.Prelude.{Ok}
use Rattle.vx_model.specs.Sizes.{ring_of}
use Rattle.vx_diskset.specs.Layouts.{maps_room}
use Rattle.vx_yard.specs.Stands.{AreTold}
use Rattle.vx_yard.proofs.Lists.{get_at}
use Rattle.vx_yard.proofs.ChangeSite.{told_before}
use Rattle.vx_site_lines.proofs.RiseCases.{rises_again, rises_not, rises_up}
use Rattle.vx_site_lines.proofs.recover.rise.Goals as goal

pub returns-in-Up-clause-rises : goal.returns-in-Up-clause-rises
returns-in-Up-clause-rises g c = λ d h choice taken name number from fit stands below down apart blocks room.
    let lawful = (g.met.R.Shelf g.world.𝓛 g.world.𝓜 g.world.𝓡 ((λ s x. x), (λ x. x), (λ x. x), λ x. x)).lawful in
    let s = c.args.site in
    let at = get_at c.args.yard.now.disk_sets.items s c.index_mut.result.now c.requires.disk_set c.index_mut.ensures.value in
    rises_up lawful d h c.args.yard.now s c.ring_blocks-ring.result choice taken name number from fit stands below down apart (c.ring_blocks-ring.ensures ∙ ap ring_of blocks) c.args.room.start
    (record { ring_is = room.ring_is ∙ sym c.ring_blocks-ring.ensures; maps_are = subst (λ (n : ℕ). maps_room n ≤ c.args.room.start.maps) blocks room.maps_are }) c.index_mut.result.now c.raise_disks.new.place at
    c.in-Up.ensures.later c.in-Up.ensures.failing (Ok tt) c.in-Up.ensures.rose.0.came tt refl c.len-sites.result (omega (arith, c.len-sites.ensures, c.args.yard.now.facts.ok)) _ c.stand_up.new.yard
    c.in-Up.risen.state c.in-Up.risen.used c.stand_up.result c.stand_up.ensures.rises c.in-Up.ensures.rose.1.is c.in-Up.ensures.rose.1.told
    (record { disk_sets = refl; facts = refl; racks = refl; flight = refl; assemblies = refl; feeders = refl })

pub returns-in-Up-clause-failing : goal.returns-in-Up-clause-failing
returns-in-Up-clause-failing g c = record {
  before = c.index_mut.result.now;
  after = c.raise_disks.new.place;
  there = get_at c.args.yard.now.disk_sets.items c.args.site c.index_mut.result.now c.requires.disk_set c.index_mut.ensures.value;
  disk_sets = ap (λ es. es.items) c.stand_up.ensures.rises.disk_sets;
  did = c.in-Up.ensures.failing;
}

pub returns-in-Up-clause-told : goal.returns-in-Up-clause-told
returns-in-Up-clause-told g c = λ told.
    let at = get_at c.args.yard.now.disk_sets.items c.args.site c.index_mut.result.now c.requires.disk_set c.index_mut.ensures.value in
    told_before c.args.yard.now.disk_sets.items c.args.site c.index_mut.result.now c.raise_disks.new.place at c.in-Up.ensures.later
    (subst (λ es. AreTold es) (ap (λ es. es.items) c.stand_up.ensures.rises.disk_sets) told)

pub returns-in-Unfit-clause-rises : goal.returns-in-Unfit-clause-rises
returns-in-Unfit-clause-rises g c = λ d h choice taken name number from fit stands below down apart blocks room.
    let lawful = (g.met.R.Shelf g.world.𝓛 g.world.𝓜 g.world.𝓡 ((λ s x. x), (λ x. x), (λ x. x), λ x. x)).lawful in
    let s = c.args.site in
    let at = get_at c.args.yard.now.disk_sets.items s c.index_mut.result.now c.requires.disk_set c.index_mut.ensures.value in
    let went = c.in-Unfit.ensures.rose in
    rises_again lawful d h c.args.yard.now s c.ring_blocks-ring.result choice taken name number from fit stands below down apart (c.ring_blocks-ring.ensures ∙ ap ring_of blocks) c.args.room.start
    (record { ring_is = room.ring_is ∙ sym c.ring_blocks-ring.ensures; maps_are = subst (λ (n : ℕ). maps_room n ≤ c.args.room.start.maps) blocks room.maps_are }) c.index_mut.result.now went.up at
    went.later went.failing (Ok tt) went.raised.came tt refl c.len-sites.result (omega (arith, c.len-sites.ensures, c.args.yard.now.facts.ok)) c.raise_disks.new.place _
    went.none.none went.back.crashed went.fell went.fails
    (record { disk_sets = refl; facts = refl; racks = refl; flight = refl; assemblies = refl; feeders = refl })

pub returns-in-Unfit-clause-failing : goal.returns-in-Unfit-clause-failing
returns-in-Unfit-clause-failing g c = record {
  before = c.index_mut.result.now;
  after = c.raise_disks.new.place;
  there = get_at c.args.yard.now.disk_sets.items c.args.site c.index_mut.result.now c.requires.disk_set c.index_mut.ensures.value;
  disk_sets = refl;
  did = c.in-Unfit.ensures.failing;
}

pub returns-in-Unfit-clause-told : goal.returns-in-Unfit-clause-told
returns-in-Unfit-clause-told g c =
    told_before c.args.yard.now.disk_sets.items c.args.site c.index_mut.result.now c.raise_disks.new.place
    (get_at c.args.yard.now.disk_sets.items c.args.site c.index_mut.result.now c.requires.disk_set c.index_mut.ensures.value) c.in-Unfit.ensures.later

pub returns-in-Refused-clause-rises : goal.returns-in-Refused-clause-rises
returns-in-Refused-clause-rises g c = λ d h choice taken name number from fit stands below down apart blocks room.
    let lawful = (g.met.R.Shelf g.world.𝓛 g.world.𝓜 g.world.𝓡 ((λ s x. x), (λ x. x), (λ x. x), λ x. x)).lawful in
    let s = c.args.site in
    let at = get_at c.args.yard.now.disk_sets.items s c.index_mut.result.now c.requires.disk_set c.index_mut.ensures.value in
    rises_not lawful d h c.args.yard.now s c.ring_blocks-ring.result choice taken name number from fit stands below down apart (c.ring_blocks-ring.ensures ∙ ap ring_of blocks) c.args.room.start
    (record { ring_is = room.ring_is ∙ sym c.ring_blocks-ring.ensures; maps_are = subst (λ (n : ℕ). maps_room n ≤ c.args.room.start.maps) blocks room.maps_are }) c.index_mut.result.now c.raise_disks.new.place at
    c.in-Refused.ensures.later c.in-Refused.ensures.failing _ c.in-Refused.ensures.rose.came _ c.in-Refused.no refl
    (record { disk_sets = refl; facts = refl; racks = refl; flight = refl; assemblies = refl; feeders = refl })

pub returns-in-Refused-clause-failing : goal.returns-in-Refused-clause-failing
returns-in-Refused-clause-failing g c = record {
  before = c.index_mut.result.now;
  after = c.raise_disks.new.place;
  there = get_at c.args.yard.now.disk_sets.items c.args.site c.index_mut.result.now c.requires.disk_set c.index_mut.ensures.value;
  disk_sets = refl;
  did = c.in-Refused.ensures.failing;
}

pub returns-in-Refused-clause-told : goal.returns-in-Refused-clause-told
returns-in-Refused-clause-told g c =
    told_before c.args.yard.now.disk_sets.items c.args.site c.index_mut.result.now c.raise_disks.new.place
    (get_at c.args.yard.now.disk_sets.items c.args.site c.index_mut.result.now c.requires.disk_set c.index_mut.ensures.value) c.in-Refused.ensures.later
