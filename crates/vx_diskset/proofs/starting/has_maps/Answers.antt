-- The blocks of the maps are those of each volume.
use Rattle.std.proofs.Common.{◌≡◌, ◌≤◌, ◌+◌, ◌-◌, ◌*◌, ℕ, suc, ap, sym, ◌∙◌, refl, arith}
use Rattle.std.proofs.lemmas.Bool.{le-leb, leb-true}
use Rattle.vx_disk.specs.Maps.{maps_of}
use Rattle.vx_events.specs.Facts.{values_from}
use Rattle.vx_model.specs.Sizes.{map_blocks}
use Rattle.vx_diskset.proofs.Laying.{maps_more}
use Rattle.vx_diskset.proofs.starting.has_maps.Goals as goal

pub loop-disk-init : goal.loop-disk-init
loop-disk-init g c = (refl, omega arith)

pub overflow_add-maps : goal.overflow_add-maps
overflow_add-maps g c = omega (arith, c.loop-disk.invariant.1, c.loop-disk-test.true, c.units-disks.ensures, c.requires.few, c.map_blocks-maps.ensures.few)

pub loop-disk-preserved : goal.loop-disk-preserved
loop-disk-preserved g c =
    let m = g.R.Shelf.meaning c.args.rack.now in
    let from : 1 ≤ c.loop-disk.disk = c.loop-disk.auto.disk in
    let at : 1 + (c.loop-disk.disk - 1) ≡ c.loop-disk.disk = omega (arith, from) in
    let here : c.map_blocks-maps.result ≡ map_blocks (m.size (1 + (c.loop-disk.disk - 1))) = c.map_blocks-maps.ensures.value ∙ ap map_blocks (c.size.ensures ∙ ap m.size (sym at)) in
    let more = maps_more (c.loop-disk.disk - 1) m in
    let next : c.loop-disk.disk + 1 - 1 ≡ suc (c.loop-disk.disk - 1) = omega (arith, from) in
    let all = ap (λ (n : ℕ). maps_of (values_from (λ (j : ℕ). j) 1 n) m) next in (
      ap (λ (n : ℕ). n + c.map_blocks-maps.result) c.loop-disk.invariant.0
          ∙ ap (λ (n : ℕ). maps_of (values_from (λ (j : ℕ). j) 1 (c.loop-disk.disk - 1)) m + n) here ∙ sym more ∙ sym all,
      omega (arith, c.loop-disk.invariant.1, c.map_blocks-maps.ensures.few, from),
    )

pub overflow_mul-result : goal.overflow_mul-result
overflow_mul-result g c = omega (arith, c.loop-disk.invariant.1, c.units-disks.ensures, c.requires.few, c.loop-disk.auto.disk-end, c.requires.some)

pub returns-clause-is : goal.returns-clause-is
returns-clause-is g c = λ yes.
    let m = g.R.Shelf.meaning c.args.rack.now in
    let le = leb-true (8 * c.loop-disk.maps) c.size-2.result yes in
    let end : c.loop-disk.disk - 1 ≡ m.units - 2 = omega (arith, c.loop-disk-test.false, c.loop-disk.auto.disk-end, c.units-disks.ensures, c.requires.some) in
    let all = c.loop-disk.invariant.0 ∙ ap (λ (n : ℕ). maps_of (values_from (λ (j : ℕ). j) 1 n) m) end in
    let last = c.size-2.ensures ∙ ap (λ (n : ℕ). m.size (n - 1)) c.units-disks.ensures in
    omega (arith, le, all, last)

pub returns-clause-all : goal.returns-clause-all
returns-clause-all g c = λ fit.
    let m = g.R.Shelf.meaning c.args.rack.now in
    let end : c.loop-disk.disk - 1 ≡ m.units - 2 = omega (arith, c.loop-disk-test.false, c.loop-disk.auto.disk-end, c.units-disks.ensures, c.requires.some) in
    let all = c.loop-disk.invariant.0 ∙ ap (λ (n : ℕ). maps_of (values_from (λ (j : ℕ). j) 1 n) m) end in
    let last = c.size-2.ensures ∙ ap (λ (n : ℕ). m.size (n - 1)) c.units-disks.ensures in
    le-leb (8 * c.loop-disk.maps) c.size-2.result (omega (arith, fit, all, last))
