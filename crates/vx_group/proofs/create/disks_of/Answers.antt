-- `disks_of`: what stays true in its loop over `unit`.
use Rattle.std.proofs.Common.{◌≡◌, ◌+◌, true, false, ℕ, length, List, refl, sym, ap, ◌∙◌, subst, arith}
use Rattle.std.proofs.lemmas.List.{length_push}
use Rattle.vx_config.specs.declared.entry.DiskEntry.{DiskEntry}
use Rattle.vx_copies.specs.Bodies.{have_blocks}
use Rattle.vx_copies.specs.Marks.{failed_at}
use Rattle.vx_group.proofs.CreateLemmas.{blocks_more, good_more}
use Rattle.vx_group.proofs.create.disks_of.Goals as goal

pub loop-unit-preserved : goal.loop-unit-preserved
loop-unit-preserved g c =
    let m = (g.S.Shelf.meaning c.args.shelf.now) in
    let d : DiskEntry = record { blocks = c.size.result; failed = false } in
    subst (λ (ds : List DiskEntry). (length ds ≡ c.loop-unit.unit + 1) × (have_blocks m.size 0 ds ≡ true) × ((u : ℕ) → failed_at ds u ≡ false)) (sym c.push.ensures) (
      length_push c.loop-unit.disks d ∙ (let one = c.loop-unit.invariant.0 in omega (arith, one)),
      blocks_more m.size 0 c.loop-unit.disks d c.loop-unit.invariant.1 (c.size.ensures ∙ ap m.size (let one = c.loop-unit.invariant.0 in omega (arith, one))),
      good_more c.loop-unit.disks d refl c.loop-unit.invariant.2,
    )
