-- The group in a group commit behind a seal.
use Rattle.std.proofs.Common.{◌∙◌, ap}
use Rattle.vx_rvg.specs.Views.{Core}
use Rattle.vx_rvg.proofs.CommitCalls.{none_counted, seal_counted}
use Rattle.vx_rvg.proofs.MarkStaging.{seal_marked}
use Rattle.vx_rvg.proofs.staging.Staging.seal.Goals as goal

pub invariant_of-self : goal.invariant_of-self
invariant_of-self g c = record {
  sound = c.in-Ok.ensures.sound;
  counted = c.waiting-self.ensures ∙ none_counted c.seal_up.new.core (g.S.Shelf.meaning c.seal_up.new.shelf) c.in-Ok.ensures.sound (ap (λ (k : Core). k.log.staged) c.in-Ok.ensures.idle);
}

pub invariant_of-self-in-Err-1 : goal.invariant_of-self-in-Err-1
invariant_of-self-in-Err-1 g c = record {
  sound = c.seal_up.ensures.sound;
  counted =
      seal_counted c.args.self.now.waiting c.args.self.now.core (g.S.Shelf.meaning c.args.self.now.shelf) (g.S.Shelf.meaning c.seal_up.new.shelf) c.args.self.now.counted
      (record { units = c.seal_up.ensures.moves.units; size = c.seal_up.ensures.moves.size }) c.seal_up.new.core
      _ c.in-Err.no c.in-Err.ensures.answers;
}

pub returns-in-Ok-clause-marked : goal.returns-in-Ok-clause-marked
returns-in-Ok-clause-marked g c = seal_marked c.args.self.now.core (g.S.Shelf.meaning c.args.self.now.shelf) (g.S.Shelf.meaning c.seal_up.new.shelf) c.args.self.now.sound.maps c.seal_up.ensures.moves

pub returns-in-Err-clause-marked : goal.returns-in-Err-clause-marked
returns-in-Err-clause-marked g c = seal_marked c.args.self.now.core (g.S.Shelf.meaning c.args.self.now.shelf) (g.S.Shelf.meaning c.seal_up.new.shelf) c.args.self.now.sound.maps c.seal_up.ensures.moves
