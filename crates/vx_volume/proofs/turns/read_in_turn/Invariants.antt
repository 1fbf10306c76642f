-- The loop of `read_in_turn` over `turn`: what stays true.
use Rattle.vx_volume.specs.Steps.{ReadLoop}
use Rattle.vx_volume.proofs.turns.read_in_turn.Given as goal

abbrev pub invariant-loop-turn : goal.invariant-loop-turn
invariant-loop-turn g l = ReadLoop l.config l.vol l.plexes l.first l.turn l.device (g.S.Shelf.meaning l.fn.shelf) (g.S.Shelf.meaning l.shelf)
