-- The loop of `reach` over `run`: what stays true.
use Rattle.vx_layout.specs.Reaches.{Reaching}
use Rattle.vx_layout.proofs.gap.reach.Given as goal

abbrev pub invariant-loop-run : goal.invariant-loop-run
invariant-loop-run l = Reaching l.used l.disk l.block l.end l.run-index l.blocks
