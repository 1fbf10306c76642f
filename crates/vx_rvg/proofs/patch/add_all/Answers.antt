-- `add_all`: what `insert` asks; what stays true in its loop over `k`.
use Rattle.std.proofs.Common.{◌∙◌, arith}
use Rattle.vx_model.proofs.Contents.{cut}
use Rattle.vx_rvg.proofs.PatchFacts.{added, added_few}
use Rattle.vx_rvg.proofs.patch.add_all.Goals as goal

pub insert-requires : goal.insert-requires
insert-requires c =
    let held : _ = added_few c.args.pending.now.entries c.loop-k.pending.entries c.args.vol c.args.start c.loop-k.k c.args.bytes.now c.loop-k.invariant.0 in
    record { room = omega (arith, held, c.loop-k-test.true, c.requires.room, c.loop-k.invariant.1) }

pub loop-k-preserved : goal.loop-k-preserved
loop-k-preserved c = (
  added c.args.pending.now.entries c.loop-k.pending.entries c.insert.new.self.entries c.args.vol c.args.start c.loop-k.k c.args.bytes.now c.copy_from_slice.new.self
      c.loop-k.invariant.0 c.insert.ensures.entries (cut c.loop-k.k c.args.bytes.now c.copy_from_slice.new.self c.copy_from_slice.ensures.after),
  c.insert.ensures.capacity ∙ c.loop-k.invariant.1,
)
