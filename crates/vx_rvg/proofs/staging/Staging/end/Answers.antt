-- The group that a group commit leaves.
use Rattle.vx_rvg.specs.contracts.rvg_core.RvgCore.{the_view}
use Rattle.vx_rvg.proofs.CommitCalls.{end_is, end_same, end_sound, oldest_fit}
use Rattle.vx_rvg.proofs.staging.Staging.end.Goals as goal

pub keep_oldest-requires : goal.keep_oldest-requires
keep_oldest-requires g c = record {
  held = oldest_fit (the_view c.core.inside) c.args.self.core c.core.view_is (g.S.Shelf.meaning c.args.self.shelf) c.args.self.waiting c.args.self.sound c.args.self.counted;
}

pub invariant_of-result : goal.invariant_of-result
invariant_of-result g c = record {
  sound =
      end_sound (the_view c.core.inside) c.args.self.core c.core.view_is (g.S.Shelf.meaning c.args.self.shelf) c.args.self.waiting c.args.self.sound c.args.self.counted
      c.keep_oldest.new.self c.keep_oldest.ensures.entries c.keep_oldest.ensures.capacity c.requires.sealed;
}

pub returns-clause-core : goal.returns-clause-core
returns-clause-core g c =
    end_is (the_view c.core.inside) c.args.self.core c.core.view_is (g.S.Shelf.meaning c.args.self.shelf) c.args.self.waiting c.args.self.sound c.args.self.counted
    c.keep_oldest.new.self c.keep_oldest.ensures.entries c.keep_oldest.ensures.capacity

pub returns-clause-same : goal.returns-clause-same
returns-clause-same g c =
    end_same (the_view c.core.inside) c.args.self.core c.core.view_is (g.S.Shelf.meaning c.args.self.shelf) c.args.self.waiting c.args.self.sound c.args.self.counted
    c.keep_oldest.new.self c.keep_oldest.ensures.entries c.keep_oldest.ensures.capacity
