-- Each case of the start of what an earlier run left on the disks of a bare site.
use Rattle.std.proofs.Common.{◌∙◌, ap, sym, subst, refl, arith}
use Rattle.std.specs.Prelude.{Ok, slice_set}
use Rattle.vx_model.specs.Sizes.{ring_of}
use Rattle.vx_model.proofs.Lists.{get_there}
use Rattle.vx_yard.specs.Stands.{AreTold}
use Rattle.vx_yard.proofs.Lists.{get_at}
use Rattle.vx_yard.proofs.ChangeSite.{told_before}
use Rattle.vx_site_lines.proofs.RiseCases.{bare_again, bare_not, bare_up}
use Rattle.vx_site_lines.proofs.recover.rise_found.Goals as goal

pub make_raw-requires : goal.make_raw-requires
make_raw-requires g c =
    let found = get_at c.args.yard.now.facts.items c.args.site c.index_mut-in-Up.result.now c.requires.facts c.index_mut-in-Up.ensures.value in
    omega (arith, c.requires.least, (c.requires.raw c.index_mut-in-Up.result.now found).size)

pub returns-in-Up-clause-rises : goal.returns-in-Up-clause-rises
returns-in-Up-clause-rises g c = λ d name number stands below bare.
    let lawful = (g.met.R.Shelf g.world.𝓛 g.world.𝓜 g.world.𝓡 ((λ s x. x), (λ x. x), (λ x. x), λ x. x)).lawful in
    let facts = c.args.yard.now.facts.items in
    let s = c.args.site in
    let f = c.index_mut-in-Up.result.now in
    let found = get_at facts s f c.requires.facts c.index_mut-in-Up.ensures.value in
    let raw = c.requires.raw f found in
    let at = get_at c.args.yard.now.disk_sets.items s c.index_mut.result.now c.requires.disk_set c.index_mut.ensures.value in
    bare_up d c.args.yard.now s name number stands below bare f f found found raw.can c.args.room.start raw.fits c.index_mut.result.now c.find_disks.new.place at c.in-Up.ensures.later
    c.in-Up.ensures.failing (Ok tt) c.in-Up.ensures.rose.0.came tt refl
    lawful _ c.stand_up.new.yard f c.args.volumes c.ring_blocks-ring.result c.len-sites.result c.in-Up.risen.state c.in-Up.risen.used c.stand_up.result c.stand_up.ensures.rises found
    raw.table (c.ring_blocks-ring.ensures ∙ ap ring_of (sym raw.size)) (omega (arith, c.len-sites.ensures, c.args.yard.now.facts.ok)) c.in-Up.ensures.rose.1.is (ap (λ x. slice_set facts s x) c.make_raw.ensures)
    refl refl refl refl refl

pub returns-in-Up-clause-failing : goal.returns-in-Up-clause-failing
returns-in-Up-clause-failing g c = record {
  before = c.index_mut.result.now;
  after = c.find_disks.new.place;
  there = get_at c.args.yard.now.disk_sets.items c.args.site c.index_mut.result.now c.requires.disk_set c.index_mut.ensures.value;
  disk_sets = ap (λ es. es.items) c.stand_up.ensures.rises.disk_sets;
  did = c.in-Up.ensures.failing;
}

pub returns-in-Up-clause-told : goal.returns-in-Up-clause-told
returns-in-Up-clause-told g c = λ told.
    let at = get_at c.args.yard.now.disk_sets.items c.args.site c.index_mut.result.now c.requires.disk_set c.index_mut.ensures.value in
    told_before c.args.yard.now.disk_sets.items c.args.site c.index_mut.result.now c.find_disks.new.place at c.in-Up.ensures.later
    (subst (λ es. AreTold es) (ap (λ es. es.items) c.stand_up.ensures.rises.disk_sets) told)

pub returns-in-Unfit-clause-rises : goal.returns-in-Unfit-clause-rises
returns-in-Unfit-clause-rises g c = λ d name number stands below bare.
    let s = c.args.site in
    let there = get_there c.args.yard.now.facts.items s c.requires.facts in
    let raw = c.requires.raw there.0 there.1 in
    let at = get_at c.args.yard.now.disk_sets.items s c.index_mut.result.now c.requires.disk_set c.index_mut.ensures.value in
    let went = c.in-Unfit.ensures.rose in
    bare_again d c.args.yard.now s name number stands below bare there.0 there.0 there.1 there.1 raw.can c.args.room.start raw.fits c.index_mut.result.now went.up at went.later
    went.failing (Ok tt) went.raised.came tt refl c.find_disks.new.place _ went.back.bare went.fell went.fails
    (record { disk_sets = refl; facts = refl; racks = refl; flight = refl; assemblies = refl; feeders = refl })

pub returns-in-Unfit-clause-failing : goal.returns-in-Unfit-clause-failing
returns-in-Unfit-clause-failing g c = record {
  before = c.index_mut.result.now;
  after = c.find_disks.new.place;
  there = get_at c.args.yard.now.disk_sets.items c.args.site c.index_mut.result.now c.requires.disk_set c.index_mut.ensures.value;
  disk_sets = refl;
  did = c.in-Unfit.ensures.failing;
}

pub returns-in-Unfit-clause-told : goal.returns-in-Unfit-clause-told
returns-in-Unfit-clause-told g c =
    told_before c.args.yard.now.disk_sets.items c.args.site c.index_mut.result.now c.find_disks.new.place
    (get_at c.args.yard.now.disk_sets.items c.args.site c.index_mut.result.now c.requires.disk_set c.index_mut.ensures.value) c.in-Unfit.ensures.later

pub returns-in-Refused-clause-rises : goal.returns-in-Refused-clause-rises
returns-in-Refused-clause-rises g c = λ d name number stands below bare.
    let s = c.args.site in
    let there = get_there c.args.yard.now.facts.items s c.requires.facts in
    let raw = c.requires.raw there.0 there.1 in
    let at = get_at c.args.yard.now.disk_sets.items s c.index_mut.result.now c.requires.disk_set c.index_mut.ensures.value in
    bare_not d c.args.yard.now s name number stands below bare there.0 there.0 there.1 there.1 raw.can c.args.room.start raw.fits c.index_mut.result.now c.find_disks.new.place at
    c.in-Refused.ensures.later c.in-Refused.ensures.failing _ c.in-Refused.ensures.rose.came _ c.in-Refused.no refl
    (record { disk_sets = refl; facts = refl; racks = refl; flight = refl; assemblies = refl; feeders = refl })

pub returns-in-Refused-clause-failing : goal.returns-in-Refused-clause-failing
returns-in-Refused-clause-failing g c = record {
  before = c.index_mut.result.now;
  after = c.find_disks.new.place;
  there = get_at c.args.yard.now.disk_sets.items c.args.site c.index_mut.result.now c.requires.disk_set c.index_mut.ensures.value;
  disk_sets = refl;
  did = c.in-Refused.ensures.failing;
}

pub returns-in-Refused-clause-told : goal.returns-in-Refused-clause-told
returns-in-Refused-clause-told g c =
    told_before c.args.yard.now.disk_sets.items c.args.site c.index_mut.result.now c.find_disks.new.place
    (get_at c.args.yard.now.disk_sets.items c.args.site c.index_mut.result.now c.requires.disk_set c.index_mut.ensures.value) c.in-Refused.ensures.later
