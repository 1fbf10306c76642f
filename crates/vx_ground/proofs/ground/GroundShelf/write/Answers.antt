-- The account behind a write.
use Rattle.vx_group.proofs.HoldLemmas.{narrow_sound}
use Rattle.vx_ground.proofs.AccountLemmas.{since_loses}
use Rattle.vx_ground.proofs.ground.GroundShelf.write.Goals as goal

pub invariant_of-self : goal.invariant_of-self
invariant_of-self g c = record {
  counts = c.args.self.now.counts;
  since = since_loses g.B.Founding.state c.args.self.now.group.core c.write_few.new.group.core g.B.Founding.disks (g.S.Shelf.meaning c.args.self.now.group.shelf) (g.S.Shelf.meaning c.write_few.new.group.shelf)
      (c.args.self.now.counts c.args.self.now.group.shelf) (c.args.self.now.counts c.write_few.new.group.shelf) c.args.self.now.since (narrow_sound c.args.self.now.group.core (g.S.Shelf.meaning c.args.self.now.group.shelf) c.args.self.now.group.stands.group) c.write_few.ensures.goes.disk_faults c.write_few.ensures.goes.falls c.write_few.ensures.loses
      c.args.unit c.write_few.result c.write_few.ensures.finds c.write_few.ensures.cause c.write_few.ensures.few c.write_few.ensures.trust;
}
