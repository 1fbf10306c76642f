-- `new`: clause ok; what `new-made` asks.
use Rattle.std.proofs.Common.{ap, ◌∙◌, ◌++◌, ◌∷◌, [], subst, Some}
use Rattle.vx_turn.specs.Passing.{PassesLeft}
use Rattle.vx_turn.proofs.Keeps.{opens_at}
use Rattle.vx_turn.proofs.turn.Turn.new.Goals as goal

pub new-made-requires : goal.new-made-requires
new-made-requires g c =
    opens_at g.E.Engine.state g.E.Engine.root c.of.result.value c.args.callers c.push.new.self.items (record { engine = c.args.engine; before = c.of-before.result; last = Rattle.vx_turn.specs.declared.slot.Last.TheVariants.Ordered c.of-2.result c.of-3.result })
    (c.in_default-push.ensures.items ∙ ap (λ l. l ++ Some (record { engine = c.args.engine; before = c.of-before.result; last = Rattle.vx_turn.specs.declared.slot.Last.TheVariants.Ordered c.of-2.result c.of-3.result }) ∷ []) c.new-slots.ensures.items) c.of.ensures c.requires.runs

pub returns-clause-ok : goal.returns-clause-ok
returns-clause-ok g c = (
  subst (λ s. PassesLeft c.in-Ok-made.made.0.shared.table_id s c.args.callers c.deal-left.result.items)
      (ap (λ m. m.0.start) c.in-Ok-made.ensures.ok.4 ∙ ap g.E.Engine.state c.of.ensures) c.deal-left.ensures.0,
  c.deal-left.ensures.1,
)
