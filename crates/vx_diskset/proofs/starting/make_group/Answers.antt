-- `make_group`: clauses made and failing; what `create` asks.
use Rattle.std.proofs.Common.{◌*◌, ◌≤◌, ℕ, subst, sym, refl, rules, arith, ap}
use Rattle.vx_disk.specs.Maps.{maps_of}
use Rattle.vx_model.specs.declared.units.Units.{Units}
use Rattle.vx_model.specs.declared.limits.TheConstants.{LINK_PLACES}
use Rattle.vx_rvg.specs.Views.{UnitsPlaced}
use Rattle.vx_diskset.specs.Layouts.{raw_units}
use Rattle.vx_diskset.specs.declared.disk_set.DiskSet.TheVariants.{Spoiled}
use Rattle.vx_diskset.proofs.MakeGroup.{placed_raw, first_spells, made_stands, raw_failed}
use Rattle.vx_diskset.proofs.KeepsFailing.{same_spent}
use Rattle.vx_diskset.proofs.Laying.{maps_fit}
use Rattle.vx_diskset.proofs.StaysUp.{never_both}
use Rattle.vx_diskset.proofs.starting.make_group.Goals as goal
use Rattle.vx_diskset.proofs.starting.make_group.Goals.{then-disks-lt-LEAST_RAW_DISKS-via-then-disks-lt-LEAST_RAW_DISKS, then-disks-lt-LEAST_RAW_DISKS-via-else-disks-lt-LEAST_RAW_DISKS+then-disks-gt-MOST_DISKS, then-disks-lt-LEAST_RAW_DISKS-via-else-disks-lt-LEAST_RAW_DISKS+else-disks-gt-MOST_DISKS+then-not-has_maps}
use Rattle.vx_diskset.proofs.RawSets.{raw_alone}
use Rattle.vx_diskset.specs.Holds.{site_alone}
use Rattle.vx_history.specs.World.{Node}
use Rattle.vx_history.specs.Steps.{raw_set}

pub create-requires : goal.create-requires
create-requires g c = record {
  placed = subst (λ (u : Units). UnitsPlaced u (g.R.Shelf.meaning c.args.rack)) (sym c.raw_units.ensures)
      (placed_raw c.units-disks.result (g.R.Shelf.meaning c.args.rack) c.units-disks.ensures c.if-disks-lt-LEAST_RAW_DISKS.false
      (subst (λ (k : ℕ). LINK_PLACES * maps_of (raw_units k).vols (g.R.Shelf.meaning c.args.rack) ≤ (g.R.Shelf.meaning c.args.rack).size (raw_units k).maps) (sym c.units-disks.ensures)
      (c.has_maps.ensures.is (search rules))));
  state = first_spells c.args.site c.first.result c.first.ensures;
}

pub returns-in-Ok-clause-made : goal.returns-in-Ok-clause-made
returns-in-Ok-clause-made g c = λ n bare some. (
  raw_alone site_alone (raw_set c.args.site n) refl (ap (λ (k : Node). k.group) bare.is),
  made_stands c.args.site c.units-disks.result n c.in-Ok.rvg.core c.raw_units.result c.first.result (g.R.Shelf.meaning c.args.rack) (g.R.Shelf.meaning c.in-Ok.rvg.shelf)
      c.raw_units.ensures c.first.ensures c.units-disks.ensures ((g.met.R.Shelf g.world.𝓛 g.world.𝓜 g.world.𝓡 ((λ s x. x), (λ x. x), (λ x. x), λ x. x)).lawful c.in-Ok.rvg.shelf) c.in-Ok.rvg.sound.log_unit
      bare some c.in-Ok.ensures.core c.in-Ok.ensures.moves c.in-Ok.ensures.stands,
)

pub returns-in-Err-clause-made : goal.returns-in-Err-clause-made
returns-in-Err-clause-made g c = λ n bare some.
    raw_failed {R = g.row.R.Denot} {g = g.R.Shelf} c.args.site c.units-disks.result n (Spoiled c.args.rack) c.args.rack c.in-Err.rack c.raw_units.result c.in-Err.stop
    refl c.raw_units.ensures bare c.in-Err.ensures.cause some c.in-Err.ensures.left

pub returns-in-Ok-clause-failing : goal.returns-in-Ok-clause-failing
returns-in-Ok-clause-failing g c = record { told = same_spent (g.R.Shelf.meaning c.args.rack) (g.R.Shelf.meaning c.in-Ok.rvg.shelf) c.in-Ok.ensures.spends }

pub returns-in-Err-clause-failing : goal.returns-in-Err-clause-failing
returns-in-Err-clause-failing g c = record { told = same_spent (g.R.Shelf.meaning c.args.rack) (g.R.Shelf.meaning c.in-Err.rack) c.in-Err.ensures.spent }

pub returns-then-disks-lt-LEAST_RAW_DISKS-clause-made : goal.returns-then-disks-lt-LEAST_RAW_DISKS-clause-made
returns-then-disks-lt-LEAST_RAW_DISKS-clause-made g c = λ n bare can.
    let m = g.R.Shelf.meaning c.args.rack in
    elim c.then-disks-lt-LEAST_RAW_DISKS.branch [
      | then-disks-lt-LEAST_RAW_DISKS-via-then-disks-lt-LEAST_RAW_DISKS w ↦ absurd (omega (arith, w.if-disks-lt-LEAST_RAW_DISKS.true, can.some, bare.fitted.units, c.units-disks.ensures))
      | then-disks-lt-LEAST_RAW_DISKS-via-else-disks-lt-LEAST_RAW_DISKS+then-disks-gt-MOST_DISKS w ↦ absurd (omega (arith, w.if-disks-gt-MOST_DISKS.true, bare.few, bare.fitted.units, c.units-disks.ensures))
      | then-disks-lt-LEAST_RAW_DISKS-via-else-disks-lt-LEAST_RAW_DISKS+else-disks-gt-MOST_DISKS+then-not-has_maps w ↦
          absurd (never_both w.has_maps.result
          (w.has_maps.ensures.all
          (subst (λ (k : ℕ). LINK_PLACES * maps_of (raw_units k).vols m ≤ m.size (raw_units k).maps) (sym bare.fitted.units) (maps_fit n.disks n.blocks m can bare.fitted.size)))
          w.if-not-has_maps.true)
    ]
