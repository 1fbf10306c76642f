-- The account behind a write.
use Rattle.vx_disk.specs.Shelf.{DisksWrote, Written}
use Rattle.vx_watched.proofs.SinceLemmas.{since_call}
use Rattle.vx_watched.proofs.watched.WatchedShelf.write.Goals as goal

pub invariant_of-self : goal.invariant_of-self
invariant_of-self g c = record {
  since = since_call g.B.Begun.first (g.S.Shelf.meaning c.args.self.now.shelf) (g.S.Shelf.meaning c.write.new.self) (Written c.args.unit c.args.block c.args.bytes.now) c.args.self.now.since c.write.ensures.goes c.args.unit
      (DisksWrote c.args.unit c.args.block c.args.bytes.now) c.write.result c.write.ensures.cause c.write.ensures.disks;
}
