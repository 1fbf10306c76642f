-- The loop of `are_large` over `unit`: what stays true.
use Rattle.std.proofs.Common.{ℕ, ◌<◌, ◌≤◌}
use Rattle.vx_model.specs.declared.limits.TheConstants.{LEAST_GROUP_BLOCKS}
use Rattle.vx_copyio.proofs.labelling.are_large.Given as goal

abbrev pub invariant-loop-unit : goal.invariant-loop-unit
invariant-loop-unit g l = (u : ℕ) → u < l.unit → LEAST_GROUP_BLOCKS ≤ (g.S.Shelf.meaning l.shelf).size u
