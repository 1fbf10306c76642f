-- The loop of `put_waiting` over `place`: what stays true.
use Rattle.vx_secondary.specs.Receivers.{writes_of_updates}
use Rattle.vx_secondary.proofs.Overs.{ShowsTo}
use Rattle.vx_secondary.proofs.over.put_waiting.Given as goal

abbrev pub invariant-loop-place : goal.invariant-loop-place
invariant-loop-place l = ShowsTo (writes_of_updates l.waiting) l.place l.vol l.start l.initial.into l.into
