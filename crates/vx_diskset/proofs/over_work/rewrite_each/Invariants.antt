-- The loop of `rewrite_each` over `k`: what stays true.
use Rattle.vx_diskset.proofs.Rewriting.{RewriteRun}
use Rattle.vx_diskset.proofs.over_work.rewrite_each.Given as goal

abbrev pub invariant-loop-k : goal.invariant-loop-k
invariant-loop-k g l = RewriteRun l.volumes l.k (g.S.Shelf.meaning l.initial.shelf) (g.S.Shelf.meaning l.shelf)
