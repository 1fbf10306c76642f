-- The blocks of the change maps of a group are those of each volume.
use Rattle.std.proofs.Common.{◌∙◌, ◌+◌, ◌*◌, ℕ, List, ap, arith, refl, sym, take}
use Rattle.std.proofs.lemmas.List.{take_all}
use Rattle.vx_disk.specs.Maps.{maps_of}
use Rattle.vx_ground.specs.Lifted.{laid_volumes}
use Rattle.vx_model.specs.Sizes.{map_blocks}
use Rattle.vx_model.specs.declared.limits.TheConstants.{LINK_PLACES}
use Rattle.vx_diskset.proofs.Laying.{maps_next}
use Rattle.vx_diskset.proofs.over_starts.maps_over.Goals as goal

pub loop-k-init : goal.loop-k-init
loop-k-init g c = (refl, omega arith)

pub size-blocks-requires-after_bounds : goal.size-blocks-requires-after_bounds
size-blocks-requires-after_bounds g c = λ κs lives. c.requires.exist c.loop-k.k c.loop-k-test.true

pub overflow_add-total : goal.overflow_add-total
overflow_add-total g c = omega (arith, c.loop-k.invariant.1, c.loop-k-test.true, c.requires.few, c.map_blocks-maps.ensures.few)

pub loop-k-preserved : goal.loop-k-preserved
loop-k-preserved g c =
    let m = laid_volumes c.args.laid.now in (
      ap (λ (n : ℕ). n + c.map_blocks-maps.result) c.loop-k.invariant.0
          ∙ ap (λ (n : ℕ). maps_of (take c.loop-k.k c.args.vols.now) m + n) (c.map_blocks-maps.ensures.value ∙ ap map_blocks c.size-blocks.ensures)
          ∙ sym (maps_next m c.args.vols.now c.loop-k.k c.loop-k-test.true),
      omega (arith, c.loop-k.invariant.1, c.map_blocks-maps.ensures.few),
    )

pub overflow_mul-result : goal.overflow_mul-result
overflow_mul-result g c = omega (arith, c.loop-k.invariant.1, c.requires.few, c.loop-k.auto.k-end)

pub returns : goal.returns
returns g c =
    ap (λ (n : ℕ). LINK_PLACES * n)
    (c.loop-k.invariant.0 ∙ ap (λ (xs : List ℕ). maps_of xs (laid_volumes c.args.laid.now)) (take_all c.loop-k.k c.args.vols.now (omega (arith, c.loop-k-test.false))))
