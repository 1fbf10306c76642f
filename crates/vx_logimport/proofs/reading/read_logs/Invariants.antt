-- The loop of `read_logs` over `vol`: what stays true.
use Rattle.vx_logimport.proofs.ReadLemmas.{ReadSoFar}
use Rattle.vx_logimport.proofs.reading.read_logs.Given as goal

abbrev pub invariant-loop-vol : goal.invariant-loop-vol
invariant-loop-vol g l = ReadSoFar l.fn.good l.fn.told l.fn.config l.vol l.logs.items (g.S.Shelf.meaning l.fn.shelf) (g.S.Shelf.meaning l.shelf)
