-- The loop of `lies_on_failed` over `disk`: what stays true.
use Rattle.vx_group.proofs.RegainLemmas.{HeldBelow}
use Rattle.vx_group.proofs.regaining.lies_on_failed.Given as goal

abbrev pub invariant-loop-disk : goal.invariant-loop-disk
invariant-loop-disk l = HeldBelow l.config l.vol l.plex l.disk
