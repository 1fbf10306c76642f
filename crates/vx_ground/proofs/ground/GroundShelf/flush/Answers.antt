-- The account behind a flush.
use Rattle.vx_group.proofs.HoldLemmas.{narrow_sound}
use Rattle.vx_ground.proofs.AccountLemmas.{since_loses}
use Rattle.vx_ground.proofs.ground.GroundShelf.flush.Goals as goal

pub invariant_of-self : goal.invariant_of-self
invariant_of-self g c = record {
  counts = c.args.self.now.counts;
  since = since_loses g.B.Founding.state c.args.self.now.group.core c.flush_few.new.group.core g.B.Founding.disks (g.S.Shelf.meaning c.args.self.now.group.shelf) (g.S.Shelf.meaning c.flush_few.new.group.shelf)
      (c.args.self.now.counts c.args.self.now.group.shelf) (c.args.self.now.counts c.flush_few.new.group.shelf) c.args.self.now.since (narrow_sound c.args.self.now.group.core (g.S.Shelf.meaning c.args.self.now.group.shelf) c.args.self.now.group.stands.group) c.flush_few.ensures.goes.disk_faults c.flush_few.ensures.goes.falls c.flush_few.ensures.loses
      c.args.unit c.flush_few.result c.flush_few.ensures.finds c.flush_few.ensures.cause c.flush_few.ensures.few c.flush_few.ensures.trust;
}
