-- The loop of `scan`: what stays true.
use Rattle.std.specs.VecDeque.{deque_capacity}
use Rattle.vx_disk.specs.Spends.{Spends}
use Rattle.vx_srl.proofs.ScanLoops.{Scanning}
use Rattle.vx_srl.proofs.scan.scan.Given as goal

abbrev pub invariant-loop : goal.invariant-loop
invariant-loop g l = Scanning l.unit l.ring l.header (g.S.Shelf.meaning l.fn.shelf) (g.S.Shelf.meaning l.shelf) l.records.items (deque_capacity l.records) l.place l.left l.last l.counter × Spends (g.S.Shelf.meaning l.fn.shelf) (g.S.Shelf.meaning l.shelf)
