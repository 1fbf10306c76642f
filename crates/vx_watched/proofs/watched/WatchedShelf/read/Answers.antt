-- The account behind a read.
use Rattle.vx_disk.specs.Shelf.{Nothing}
use Rattle.vx_watched.proofs.SinceLemmas.{since_read}
use Rattle.vx_watched.proofs.watched.WatchedShelf.read.Goals as goal

pub invariant_of-self : goal.invariant_of-self
invariant_of-self g c = record { since = since_read g.B.Begun.first (g.S.Shelf.meaning c.args.self.now.shelf) (g.S.Shelf.meaning c.read.new.self) Nothing c.args.self.now.since c.read.ensures.goes c.read.ensures.disks }
