-- `take`: clause held; what `compare_exchange` and `load` ask.
use Rattle.std.proofs.Common.{rules, ap, ◌∙◌}
use Rattle.vx_turn.specs.Passing.{first_engine}
use Rattle.vx_turn.proofs.Keeps.{takes_it, counts}
use Rattle.vx_turn.proofs.Holding.{held}
use Rattle.vx_turn.proofs.turn.Turn.take.Goals as goal

pub compare_exchange-requires : goal.compare_exchange-requires
compare_exchange-requires g c = (search rules, search rules, takes_it g.E.Engine.state g.E.Engine.root (first_engine c.args.self.now) g.B.Origin.first c.requires.first _ _ _ (ap (λ m. m.0.live) c.loop.invariant.2 ∙ c.requires.rest.1))

pub load-requires : goal.load-requires
load-requires g c = (search rules, search rules, counts g.E.Engine.state g.E.Engine.root (first_engine c.args.self.now) _ _ _)

pub returns-then-compare_exchange-eq0-clause-held : goal.returns-then-compare_exchange-eq0-clause-held
returns-then-compare_exchange-eq0-clause-held g c =
    held g.E.Engine.state g.E.Engine.root (first_engine c.args.self.now) g.B.Origin.first c.requires.first c.args.seat.now.me c.loop.seat.me c.compare_exchange.new.seat.me c.load.new.seat.me c.args.self.now.table.shared.table_id.slots c.compare_exchange.result c.load.result
    c.loop.invariant.2 c.requires.rest.0 c.requires.rest.1 c.compare_exchange.ensures.2 (search rules) c.load.ensures.2
