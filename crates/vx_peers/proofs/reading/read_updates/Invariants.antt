-- The loop of `read_updates` over `past`: what stays true.
use Rattle.std.proofs.Common.{◌≡◌, length, IsTrue}
use Rattle.vx_rvg.specs.Holdings.{Holding}
use Rattle.vx_rvg.specs.Stands.{Stands}
use Rattle.vx_peers.specs.Senders.{AreRead}
use Rattle.vx_peers.proofs.Looking.{Looked}
use Rattle.vx_peers.proofs.reading.read_updates.Given as goal

abbrev pub invariant-loop-past : goal.invariant-loop-past
invariant-loop-past g l =
    Looked l.fn.rvg.core l.rvg.core (g.S.Shelf.meaning l.fn.rvg.shelf) (g.S.Shelf.meaning l.rvg.shelf)
    × (length l.updates.items ≡ l.past)
    × ((h : Holding) → Stands l.fn.rvg.core h (g.S.Shelf.meaning l.fn.rvg.shelf) → IsTrue (g.S.Shelf.meaning l.fn.rvg.shelf).tells
    → AreRead h l.fn.rvg.core.log.header.state.line l.fn.first l.updates.items × Stands l.fn.rvg.core h (g.S.Shelf.meaning l.rvg.shelf))
