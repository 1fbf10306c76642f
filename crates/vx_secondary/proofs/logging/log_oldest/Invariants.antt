-- The loop of `log_oldest`: what stays true.
use Rattle.vx_secondary.proofs.Waits.{LoggedTo}
use Rattle.vx_secondary.proofs.logging.log_oldest.Given as goal

abbrev pub invariant-loop : goal.invariant-loop
invariant-loop g l = LoggedTo l.initial.waiting l.counter l.initial.rvg.core l.rvg.core (g.S.Shelf.meaning l.initial.rvg.shelf) (g.S.Shelf.meaning l.rvg.shelf) l.waiting
