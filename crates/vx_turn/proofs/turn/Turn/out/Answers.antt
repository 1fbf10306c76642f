-- `out`: clause out; what `exchange` asks.
use Rattle.std.proofs.Common.{◌∙◌}
use Rattle.vx_turn.specs.Passing.{first_engine}
use Rattle.vx_turn.proofs.Holding.{in_hand, taken_out}
use Rattle.vx_turn.proofs.turn.Turn.out.Goals as goal

pub exchange-requires : goal.exchange-requires
exchange-requires g c = (c.take-count.ensures.same.0 ∙ c.requires.table, in_hand g.E.Engine.state g.E.Engine.root (first_engine c.args.self.now) c.args.seat.now.me.0 c.take-count.result c.take-count.new.seat.me c.take-count.ensures.held)

pub returns-clause-out : goal.returns-clause-out
returns-clause-out g c = taken_out g.E.Engine.state g.E.Engine.root (first_engine c.args.self.now) c.args.seat.now.me.0 c.take-count.result c.next-place.result c.take-count.new.seat.me c.exchange.new.seat.me c.exchange.result c.in-Some.slot
    c.take-count.ensures.held c.exchange.ensures.2 c.in-Some.is c.exchange.ensures.3 c.next-place.ensures.0 c.next-place.ensures.1
