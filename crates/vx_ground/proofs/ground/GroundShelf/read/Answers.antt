-- The account behind a read.
use Rattle.vx_group.proofs.HoldLemmas.{narrow_sound}
use Rattle.vx_group.proofs.FindingLemmas.{quiet_finds}
use Rattle.vx_ground.proofs.AccountLemmas.{since_same}
use Rattle.vx_ground.proofs.ground.GroundShelf.read.Goals as goal

pub invariant_of-self : goal.invariant_of-self
invariant_of-self g c = record {
  counts = c.args.self.now.counts;
  since = since_same g.B.Founding.state c.args.self.now.group.core c.read.new.self.core g.B.Founding.disks (g.S.Shelf.meaning c.args.self.now.group.shelf) (g.S.Shelf.meaning c.read.new.self.shelf)
      (c.args.self.now.counts c.args.self.now.group.shelf) (c.args.self.now.counts c.read.new.self.shelf) c.args.self.now.since (narrow_sound c.args.self.now.group.core (g.S.Shelf.meaning c.args.self.now.group.shelf) c.args.self.now.group.stands.group) c.read.ensures.goes.disk_faults c.read.ensures.goes.falls c.read.ensures.same c.read.ensures.held c.read.ensures.trusted.0 c.read.ensures.settled
      (quiet_finds (g.S.Shelf.meaning c.args.self.now.group.shelf) (g.S.Shelf.meaning c.read.new.self.shelf) (g.met.S.Shelf.lawful c.args.self.now.group.shelf) (g.met.S.Shelf.lawful c.read.new.self.shelf) c.read.ensures.below);
}
