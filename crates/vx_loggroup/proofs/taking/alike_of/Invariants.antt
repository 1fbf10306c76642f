-- The loop of `alike_of` over `vol`: what stays true.
use Rattle.vx_loggroup.proofs.AlikeFlags.{FlagsSoFar}
use Rattle.vx_loggroup.proofs.taking.alike_of.Given as goal

abbrev pub invariant-loop-vol : goal.invariant-loop-vol
invariant-loop-vol l = FlagsSoFar l.stopped l.rested l.vol l.alike
