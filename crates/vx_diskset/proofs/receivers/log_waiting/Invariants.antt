-- The loop of `log_waiting`: what stays true.
use Rattle.vx_diskset.proofs.Reaching.{LoggedSo}
use Rattle.vx_diskset.proofs.receivers.log_waiting.Given as goal

abbrev pub invariant-loop : goal.invariant-loop
invariant-loop g l = LoggedSo l.initial.waiting l.counter l.initial.rvg.core l.rvg.core (g.S.Shelf.meaning l.initial.rvg.shelf) (g.S.Shelf.meaning l.rvg.shelf) l.waiting
