-- The loop of `find_run` over `disk`: what stays true.
use Rattle.vx_layout.specs.Steps.{NoneBelow}
use Rattle.vx_layout.proofs.logs.find_run.Given as goal

abbrev pub invariant-loop-disk : goal.invariant-loop-disk
invariant-loop-disk l = NoneBelow l.used l.disks l.wanted l.disk l.longest
