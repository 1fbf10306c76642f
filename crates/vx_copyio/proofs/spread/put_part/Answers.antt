-- `put_part`: clauses copied and stops; what stays true in its loop over `disk`.
use Rattle.std.proofs.Common.{arith, ℕ, Bool, ◌+◌, ◌*◌, sym, subst}
use Rattle.vx_disk.specs.Burns.{MakesCalls}
use Rattle.vx_disk.specs.Disks.{count_below}
use Rattle.vx_disk.specs.Shelf.{Meaning}
use Rattle.vx_copyio.specs.Putting.{AllNew, Copied, IsMember, KeepsUp, part_of}
use Rattle.vx_copyio.proofs.Counted.{none_more, one_more}
use Rattle.vx_copyio.proofs.Spreading.{failed_from, failed_here, stopped_others, one_copied, one_new, reaches, skips_new}
use Rattle.vx_copyio.proofs.spread.put_part.Goals.{then-is_part+in-Ok, else-is_part}
use Rattle.vx_copyio.proofs.spread.put_part.Goals as goal

pub returns-in-Err-clause-copied : goal.returns-in-Err-clause-copied
returns-in-Err-clause-copied g c =
    reaches c.args.header.now c.args.body.now (part_of c.args.set c.args.good c.args.which) (g.S.Shelf.meaning c.args.shelf.now) (g.S.Shelf.meaning c.put_copy.new.shelf) (c.loop-disk.disk + 1) _ (omega (arith, c.loop-disk-test.true, c.units-disk-end.ensures))
    (one_copied c.args.header.now c.args.body.now (part_of c.args.set c.args.good c.args.which) (g.S.Shelf.meaning c.args.shelf.now) (g.S.Shelf.meaning c.loop-disk.shelf) (g.S.Shelf.meaning c.put_copy.new.shelf) c.loop-disk.disk
    (sym c.if-is_part.ensures) c.loop-disk.invariant.copied c.put_copy.ensures.moves c.put_copy.ensures.leaves)

pub returns-in-Err-clause-stops : goal.returns-in-Err-clause-stops
returns-in-Err-clause-stops g c =
    let these : ℕ → Bool = part_of c.args.set c.args.good c.args.which in
    let old : Meaning = g.S.Shelf.meaning c.args.shelf.now in
    let mid : Meaning = g.S.Shelf.meaning c.loop-disk.shelf in
    let new : Meaning = g.S.Shelf.meaning c.put_copy.new.shelf in
    record {
      member = record { below = omega (arith, c.loop-disk-test.true, c.units-disk-end.ensures); is = sym c.if-is_part.ensures };
      cause = failed_from old mid new c.loop-disk.disk c.in-Err.error c.loop-disk.invariant.copied.moves.faults c.loop-disk.invariant.copied.moves.disk_faults
          (failed_here mid new c.loop-disk.disk c.in-Err.error c.in-Err.ensures.cause);
      others = λ u is other. stopped_others c.args.header.now c.args.body.now these old mid new c.loop-disk.disk old.units u c.loop-disk.invariant.copied c.loop-disk.invariant.all
          c.put_copy.ensures.moves is.is other;
    }

pub loop-disk-preserved : goal.loop-disk-preserved
loop-disk-preserved g c = record {
  copied = elim c.if-is_part.branch [
    | then-is_part+in-Ok w ↦
        subst (λ s. Copied (IsMember (part_of c.args.set c.args.good c.args.which) (c.loop-disk.disk + 1)) c.args.header.now c.args.body.now (g.S.Shelf.meaning c.args.shelf.now) (g.S.Shelf.meaning s)) (sym w.shelf-is)
        (one_copied c.args.header.now c.args.body.now (part_of c.args.set c.args.good c.args.which) (g.S.Shelf.meaning c.args.shelf.now) (g.S.Shelf.meaning c.loop-disk.shelf) (g.S.Shelf.meaning w.put_copy.new.shelf) c.loop-disk.disk
        (sym w.if-is_part.ensures) c.loop-disk.invariant.copied w.put_copy.ensures.moves w.put_copy.ensures.leaves)
    | else-is_part w ↦
        subst (λ s. Copied (IsMember (part_of c.args.set c.args.good c.args.which) (c.loop-disk.disk + 1)) c.args.header.now c.args.body.now (g.S.Shelf.meaning c.args.shelf.now) (g.S.Shelf.meaning s)) (sym w.shelf-is)
        (reaches c.args.header.now c.args.body.now (part_of c.args.set c.args.good c.args.which) (g.S.Shelf.meaning c.args.shelf.now) (g.S.Shelf.meaning c.loop-disk.shelf) c.loop-disk.disk (c.loop-disk.disk + 1) (omega arith) c.loop-disk.invariant.copied)
  ];
  calls = elim c.if-is_part.branch [
    | then-is_part+in-Ok w ↦
        subst (λ s. MakesCalls (4 * count_below (part_of c.args.set c.args.good c.args.which) (c.loop-disk.disk + 1)) (g.S.Shelf.meaning c.args.shelf.now) (g.S.Shelf.meaning s)) (sym w.shelf-is)
        (one_more (part_of c.args.set c.args.good c.args.which) c.loop-disk.disk (g.S.Shelf.meaning c.args.shelf.now) (g.S.Shelf.meaning c.loop-disk.shelf) (g.S.Shelf.meaning w.put_copy.new.shelf)
        (sym w.if-is_part.ensures) c.loop-disk.invariant.calls w.in-Ok.ensures.calls)
    | else-is_part w ↦
        subst (λ s. MakesCalls (4 * count_below (part_of c.args.set c.args.good c.args.which) (c.loop-disk.disk + 1)) (g.S.Shelf.meaning c.args.shelf.now) (g.S.Shelf.meaning s)) (sym w.shelf-is)
        (none_more (part_of c.args.set c.args.good c.args.which) c.loop-disk.disk (g.S.Shelf.meaning c.args.shelf.now) (g.S.Shelf.meaning c.loop-disk.shelf) (sym w.if-is_part.ensures) c.loop-disk.invariant.calls)
  ];
  up = elim c.if-is_part.branch [
    | then-is_part+in-Ok w ↦ subst (λ s. KeepsUp (g.S.Shelf.meaning c.args.shelf.now) (g.S.Shelf.meaning s)) (sym w.shelf-is) (λ was. w.in-Ok.ensures.cause.after)
    | else-is_part w ↦ subst (λ s. KeepsUp (g.S.Shelf.meaning c.args.shelf.now) (g.S.Shelf.meaning s)) (sym w.shelf-is) c.loop-disk.invariant.up
  ];
  all = elim c.if-is_part.branch [
    | then-is_part+in-Ok w ↦
        subst (λ s. AllNew (IsMember (part_of c.args.set c.args.good c.args.which) (c.loop-disk.disk + 1)) c.args.header.now c.args.body.now (g.S.Shelf.meaning c.args.shelf.now) (g.S.Shelf.meaning s)) (sym w.shelf-is)
        (one_new c.args.header.now c.args.body.now (part_of c.args.set c.args.good c.args.which) (g.S.Shelf.meaning c.args.shelf.now) (g.S.Shelf.meaning c.loop-disk.shelf) (g.S.Shelf.meaning w.put_copy.new.shelf) c.loop-disk.disk
        (sym w.if-is_part.ensures) c.loop-disk.invariant.copied w.put_copy.ensures.moves c.loop-disk.invariant.all w.in-Ok.ensures.ok)
    | else-is_part w ↦
        subst (λ s. AllNew (IsMember (part_of c.args.set c.args.good c.args.which) (c.loop-disk.disk + 1)) c.args.header.now c.args.body.now (g.S.Shelf.meaning c.args.shelf.now) (g.S.Shelf.meaning s)) (sym w.shelf-is)
        (skips_new c.args.header.now c.args.body.now (part_of c.args.set c.args.good c.args.which) (g.S.Shelf.meaning c.args.shelf.now) (g.S.Shelf.meaning c.loop-disk.shelf) c.loop-disk.disk (sym w.if-is_part.ensures) c.loop-disk.invariant.all)
  ];
}
