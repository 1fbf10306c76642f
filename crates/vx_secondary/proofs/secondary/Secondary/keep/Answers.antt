-- An update that is kept waits behind the others.
use Rattle.std.proofs.Common.{◌∙◌, sym, subst, List}
use Rattle.vx_model.specs.declared.call.Update.{Update}
use Rattle.vx_secondary.specs.Receivers.{Wait}
use Rattle.vx_secondary.proofs.Waits.{wait_pushed}
use Rattle.vx_secondary.proofs.secondary.Secondary.keep.Goals as goal

pub invariant_of-self : goal.invariant_of-self
invariant_of-self g c = record {
  waits =
      subst (λ (us : List Update). Wait c.args.self.now.rvg.core (g.S.Shelf.meaning c.args.self.now.rvg.shelf).size us) (sym c.push.ensures)
      (wait_pushed c.args.self.now.rvg.core (g.S.Shelf.meaning c.args.self.now.rvg.shelf).size c.args.self.now.waiting c.args.update.now c.args.self.now.waits c.requires.takes.line c.requires.takes.next c.requires.takes.room
      (sym c.can_log.ensures ∙ c.if-not-can_log.false));
}
