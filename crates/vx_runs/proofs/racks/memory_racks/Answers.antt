-- `memory_racks`: its result; what stays true in its loop over `step`.
use Rattle.std.proofs.Common.{List, ap, arith, length, subst, sym}
use Rattle.std.specs.List.{All}
use Rattle.std.proofs.lemmas.List.{length_push}
use Rattle.std.proofs.lemmas.List.Elements.{All-push}
use Rattle.vx_disk.specs.Racks.{Bare}
use Rattle.vx_disk.specs.Meanings.{shelf_meaning}
use Rattle.vx_disk.specs.declared.memory.MemShelf.{MemShelf}
use Rattle.vx_cli.proofs.Fresh.{fresh}
use Rattle.vx_runs.proofs.racks.memory_racks.Goals as goal

pub loop-step-preserved : goal.loop-step-preserved
loop-step-preserved c = record {
  count = omega (arith, ap (λ (racks : List MemShelf). length racks) c.in_ok-push.ensures.items, length_push c.loop-step.racks.items c.in_ok-new.field-0, c.loop-step.invariant.count);
  bare = subst (λ (racks : List MemShelf). All (λ (r : MemShelf). Bare (shelf_meaning r)) racks) (sym c.in_ok-push.ensures.items)
      (All-push (λ (r : MemShelf). Bare (shelf_meaning r)) _ _ c.loop-step.invariant.bare c.in_ok-new.ensures.bare);
}

pub returns : goal.returns
returns c = fresh shelf_meaning c.loop-step.racks.items (omega (arith, c.loop-step.invariant.count, c.loop-step.auto, c.loop-step-test.false)) c.loop-step.invariant.bare
