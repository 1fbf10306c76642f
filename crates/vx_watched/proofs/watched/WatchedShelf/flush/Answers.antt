-- The account behind a flush.
use Rattle.vx_disk.specs.Shelf.{DisksFlushed, Nothing}
use Rattle.vx_watched.proofs.SinceLemmas.{since_call}
use Rattle.vx_watched.proofs.watched.WatchedShelf.flush.Goals as goal

pub invariant_of-self : goal.invariant_of-self
invariant_of-self g c = record {
  since = since_call g.B.Begun.first (g.S.Shelf.meaning c.args.self.now.shelf) (g.S.Shelf.meaning c.flush.new.self) Nothing c.args.self.now.since c.flush.ensures.goes c.args.unit (DisksFlushed c.args.unit) c.flush.result c.flush.ensures.cause c.flush.ensures.disks;
}
