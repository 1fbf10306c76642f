-- A block of a write over that of a volume, case by case.
use Rattle.std.proofs.Common.{◌∙◌, ◌+◌, ◌-◌, ℕ, List, sym, ap, subst, arith}
use Rattle.vx_model.specs.Content.{block_of, touches}
use Rattle.vx_model.proofs.Contents.{cut}
use Rattle.vx_rvg.specs.Contents.{write_of_update}
use Rattle.vx_secondary.proofs.Overs.{IsPutTo, touch_told, touch_none, touched, untouched}
use Rattle.vx_secondary.proofs.over.put_over.Goals as goal
use Rattle.vx_secondary.proofs.over.put_over.Goals.{in-Some, in_default}

pub loop-k-preserved : goal.loop-k-preserved
loop-k-preserved c =
    let x : _ = write_of_update c.args.update.now in
    let at : ℕ = c.args.start + c.loop-k.k in
    elim c.match-touched.branch [
      | in-Some w ↦
          let told = touch_told (touches x c.args.vol at) w.in-Some.place (at - x.start) (sym w.in-Some.is ∙ c.touched.ensures) in
          touched x c.args.vol c.args.start c.loop-k.k c.args.into.now c.loop-k.into c.loop-k.invariant c.loop-k-test.true _ w.copy_from_slice.new.self c.match-touched.into (omega arith) (omega (arith, w.copy_from_slice.ensures.len)) told.0
          (cut w.in-Some.place c.as_bytes-bytes.result.now w.copy_from_slice.new.self w.copy_from_slice.ensures.after
          ∙ ap (λ (b : List ℕ). block_of b w.in-Some.place) c.as_bytes-bytes.ensures.bytes ∙ ap (λ (k : ℕ). block_of x.bytes k) told.1)
          w.into-is
      | in_default w ↦ subst (λ (l : List ℕ). IsPutTo x c.args.vol c.args.start (c.loop-k.k + 1) c.args.into.now l) (sym w.into-is)
          (untouched x c.args.vol c.args.start c.loop-k.k c.args.into.now c.loop-k.into c.loop-k.invariant c.loop-k-test.true
          (touch_none (touches x c.args.vol at) (at - x.start) c.touched.result c.touched.ensures (λ p is. w.in_default.not-Some p is)))
    ]
