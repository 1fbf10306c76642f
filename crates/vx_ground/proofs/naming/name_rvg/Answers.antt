-- Naming the volumes of a replicated volume group: logs stand on, as only configurations were written.
use Rattle.std.proofs.Common.{◌≡◌}
use Rattle.std.specs.Prelude.{◌≤◌, Err, IfErr, IsTrue, None, OnOk, Some, true}
use Rattle.vx_copies.specs.Commits.{MoreFailed}
use Rattle.vx_disk.specs.Shelf.{Goes, Nothing}
use Rattle.vx_group.specs.Dets.{DetStops}
use Rattle.vx_group.specs.Finds.{GroupFinds}
use Rattle.vx_group.specs.Holding.{wide}
use Rattle.vx_group.specs.Rvgs.{RvgEnds, set_rvg_refusal}
use Rattle.vx_group.specs.Stands.{inner_meaning}
use Rattle.vx_grouped.proofs.CarryLemmas.{carried}
use Rattle.vx_loggroup.proofs.AlikeLemmas.{all_whole}
use Rattle.vx_loggroup.proofs.FreshLemmas.{fresh_still}
use Rattle.vx_loggroup.proofs.StayLemmas.{each_idle}
use Rattle.vx_model.specs.declared.errors.Stop.TheVariants.{No as Refused}
use Rattle.vx_model.specs.declared.no.No.{No as NoValue}
use Rattle.vx_ground.specs.Named.{SameVolumes}
use Rattle.vx_loggroup.proofs.SettledFacts.{settled_same, volumes_few}
use Rattle.vx_ground.proofs.naming.name_rvg.Goals as goal

pub set_rvg_in-answer-requires : goal.set_rvg_in-answer-requires
set_rvg_in-answer-requires g c = record { stands = c.apart-shelf.ensures.stands.group }

pub together-requires : goal.together-requires
together-requires g c = record {
  stands = all_whole c.apart-shelf.result.1.core c.set_rvg_in-answer.new.core c.apart-shelf.result.1.logs.items c.apart-shelf.result.1.alike c.apart-shelf.result.1.stopped (g.S.Shelf.meaning c.apart-shelf.result.0) (g.S.Shelf.meaning c.set_rvg_in-answer.new.shelf)
      c.apart-shelf.ensures.stands c.set_rvg_in-answer.ensures.stands c.set_rvg_in-answer.ensures.goes
      (each_idle _ c.apart-shelf.result.1.core c.set_rvg_in-answer.new.core (g.S.Shelf.meaning c.apart-shelf.result.0) (g.S.Shelf.meaning c.set_rvg_in-answer.new.shelf) c.apart-shelf.ensures.stands.group c.set_rvg_in-answer.ensures.narrows.shape c.set_rvg_in-answer.ensures.goes c.set_rvg_in-answer.ensures.narrows.acts);
  begins = fresh_still c.apart-shelf.result.1.core c.set_rvg_in-answer.new.core c.apart-shelf.result.1.fresh (g.S.Shelf.meaning c.apart-shelf.result.0) (g.S.Shelf.meaning c.set_rvg_in-answer.new.shelf) c.set_rvg_in-answer.ensures.goes c.apart-shelf.ensures.begins;
  settles = settled_same c.apart-shelf.result.1.core c.set_rvg_in-answer.new.core c.apart-shelf.result.1.alike (g.S.Shelf.meaning c.apart-shelf.result.0) (g.S.Shelf.meaning c.set_rvg_in-answer.new.shelf) c.set_rvg_in-answer.ensures.finds
      (volumes_few c.apart-shelf.result.1.core c.set_rvg_in-answer.new.core (g.S.Shelf.meaning c.apart-shelf.result.0) (g.S.Shelf.meaning c.set_rvg_in-answer.new.shelf) Nothing c.set_rvg_in-answer.ensures.goes) c.set_rvg_in-answer.ensures.goes.falls c.apart-shelf.ensures.settles;
}

pub returns-clause-refused : goal.returns-clause-refused
returns-clause-refused g c =
    carried (λ x s y t. (no : NoValue) → set_rvg_refusal x.inner.config c.args.units.now ≡ Some no → (c.set_rvg_in-answer.result ≡ Err (Refused no)) × (y ≡ x) × (t ≡ s))
    c.args.group.core c.apart-shelf.result.1.core c.together.result.core c.set_rvg_in-answer.new.core c.args.group.shelf c.apart-shelf.result.0 c.together.result.shelf c.set_rvg_in-answer.new.shelf
    c.apart-shelf.ensures.core c.apart-shelf.ensures.shelf c.together.ensures.core c.together.ensures.shelf c.set_rvg_in-answer.ensures.refused

pub returns-clause-goes : goal.returns-clause-goes
returns-clause-goes g c =
    carried (λ x s y t. Goes Nothing (inner_meaning (wide x) (g.S.Shelf.meaning s)) (inner_meaning (wide y) (g.S.Shelf.meaning t)))
    c.args.group.core c.apart-shelf.result.1.core c.together.result.core c.set_rvg_in-answer.new.core c.args.group.shelf c.apart-shelf.result.0 c.together.result.shelf c.set_rvg_in-answer.new.shelf
    c.apart-shelf.ensures.core c.apart-shelf.ensures.shelf c.together.ensures.core c.together.ensures.shelf c.set_rvg_in-answer.ensures.goes

pub returns-clause-same : goal.returns-clause-same
returns-clause-same g c =
    carried (λ x s y t. SameVolumes x.inner.config y.inner.config)
    c.args.group.core c.apart-shelf.result.1.core c.together.result.core c.set_rvg_in-answer.new.core c.args.group.shelf c.apart-shelf.result.0 c.together.result.shelf c.set_rvg_in-answer.new.shelf
    c.apart-shelf.ensures.core c.apart-shelf.ensures.shelf c.together.ensures.core c.together.ensures.shelf
    (record { site = c.set_rvg_in-answer.ensures.site; volumes = c.set_rvg_in-answer.ensures.volumes; count = c.set_rvg_in-answer.ensures.disks.count })

pub returns-clause-disks : goal.returns-clause-disks
returns-clause-disks g c =
    carried (λ x s y t. MoreFailed (g.S.Shelf.meaning s) (g.S.Shelf.meaning t) x.inner.config.disks y.inner.config.disks)
    c.args.group.core c.apart-shelf.result.1.core c.together.result.core c.set_rvg_in-answer.new.core c.args.group.shelf c.apart-shelf.result.0 c.together.result.shelf c.set_rvg_in-answer.new.shelf
    c.apart-shelf.ensures.core c.apart-shelf.ensures.shelf c.together.ensures.core c.together.ensures.shelf c.set_rvg_in-answer.ensures.disks

pub returns-clause-ends : goal.returns-clause-ends
returns-clause-ends g c =
    carried (λ x s y t. RvgEnds c.args.units.now x.inner.config y.inner.config (g.S.Shelf.meaning t) c.set_rvg_in-answer.result)
    c.args.group.core c.apart-shelf.result.1.core c.together.result.core c.set_rvg_in-answer.new.core c.args.group.shelf c.apart-shelf.result.0 c.together.result.shelf c.set_rvg_in-answer.new.shelf
    c.apart-shelf.ensures.core c.apart-shelf.ensures.shelf c.together.ensures.core c.together.ensures.shelf c.set_rvg_in-answer.ensures.ends

pub returns-clause-trust : goal.returns-clause-trust
returns-clause-trust g c =
    carried (λ x s y t. OnOk c.set_rvg_in-answer.result (x.inner.committed ≡ true → y.inner.committed ≡ true))
    c.args.group.core c.apart-shelf.result.1.core c.together.result.core c.set_rvg_in-answer.new.core c.args.group.shelf c.apart-shelf.result.0 c.together.result.shelf c.set_rvg_in-answer.new.shelf
    c.apart-shelf.ensures.core c.apart-shelf.ensures.shelf c.together.ensures.core c.together.ensures.shelf c.set_rvg_in-answer.ensures.trust

pub returns-clause-agreed : goal.returns-clause-agreed
returns-clause-agreed g c =
    carried (λ x s y t. IfErr c.set_rvg_in-answer.result (λ e. x.inner.committed ≡ true → y.inner.agreed ≡ true))
    c.args.group.core c.apart-shelf.result.1.core c.together.result.core c.set_rvg_in-answer.new.core c.args.group.shelf c.apart-shelf.result.0 c.together.result.shelf c.set_rvg_in-answer.new.shelf
    c.apart-shelf.ensures.core c.apart-shelf.ensures.shelf c.together.ensures.core c.together.ensures.shelf c.set_rvg_in-answer.ensures.agreed

pub returns-clause-cause : goal.returns-clause-cause
returns-clause-cause g c =
    carried (λ x s y t. set_rvg_refusal x.inner.config c.args.units.now ≡ None → DetStops (g.S.Shelf.meaning s) (g.S.Shelf.meaning t) c.set_rvg_in-answer.result)
    c.args.group.core c.apart-shelf.result.1.core c.together.result.core c.set_rvg_in-answer.new.core c.args.group.shelf c.apart-shelf.result.0 c.together.result.shelf c.set_rvg_in-answer.new.shelf
    c.apart-shelf.ensures.core c.apart-shelf.ensures.shelf c.together.ensures.core c.together.ensures.shelf c.set_rvg_in-answer.ensures.cause

pub returns-clause-up : goal.returns-clause-up
returns-clause-up g c =
    carried (λ x s y t. OnOk c.set_rvg_in-answer.result (IsTrue (g.S.Shelf.meaning t).down → ⊥))
    c.args.group.core c.apart-shelf.result.1.core c.together.result.core c.set_rvg_in-answer.new.core c.args.group.shelf c.apart-shelf.result.0 c.together.result.shelf c.set_rvg_in-answer.new.shelf
    c.apart-shelf.ensures.core c.apart-shelf.ensures.shelf c.together.ensures.core c.together.ensures.shelf c.set_rvg_in-answer.ensures.up

pub returns-clause-later : goal.returns-clause-later
returns-clause-later g c =
    carried (λ x s y t. x.inner.config.serial ≤ y.inner.config.serial)
    c.args.group.core c.apart-shelf.result.1.core c.together.result.core c.set_rvg_in-answer.new.core c.args.group.shelf c.apart-shelf.result.0 c.together.result.shelf c.set_rvg_in-answer.new.shelf
    c.apart-shelf.ensures.core c.apart-shelf.ensures.shelf c.together.ensures.core c.together.ensures.shelf c.set_rvg_in-answer.ensures.later

pub returns-clause-finds : goal.returns-clause-finds
returns-clause-finds g c =
    carried (λ x s y t. GroupFinds x y (g.S.Shelf.meaning s) (g.S.Shelf.meaning t))
    c.args.group.core c.apart-shelf.result.1.core c.together.result.core c.set_rvg_in-answer.new.core c.args.group.shelf c.apart-shelf.result.0 c.together.result.shelf c.set_rvg_in-answer.new.shelf
    c.apart-shelf.ensures.core c.apart-shelf.ensures.shelf c.together.ensures.core c.together.ensures.shelf c.set_rvg_in-answer.ensures.finds

pub returns-clause-few : goal.returns-clause-few
returns-clause-few g c = c.few_stop.ensures
