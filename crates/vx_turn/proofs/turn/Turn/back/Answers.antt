-- `back`: clause back; what `exchange` and `store` ask.
use Rattle.std.proofs.Common.{rules, ap, sym, None, ◌∷◌, ◌∙◌}
use Rattle.atomic_table.specs.Table.{rest}
use Rattle.vx_turn.specs.Passing.{first_engine}
use Rattle.vx_turn.proofs.Holding.{filled, ready_adds, added_seat, ready_gives, given_seat}
use Rattle.vx_turn.proofs.turn.Turn.back.Goals as goal

pub exchange-requires : goal.exchange-requires
exchange-requires g c = (search rules, (None, c.requires.ready.carried ∙ ap (λ l. (0, None) ∷ rest l) (sym c.requires.ready.carried)))

pub store-requires : goal.store-requires
store-requires g c = let r = c.requires.ready in let is = filled g.E.Engine.state g.E.Engine.root (first_engine c.args.self.now) c.args.seat.now.me c.exchange.new.seat.me c.args.place c.args.slot r c.exchange.ensures.3 in
    (search rules, search rules, ready_adds g.E.Engine.state g.E.Engine.root (first_engine c.args.self.now) _ _ c.args.place c.args.seat.now.me c.exchange.new.seat.me c.args.slot r is)

pub store-requires-2 : goal.store-requires-2
store-requires-2 g c = let r = c.requires.ready in let is = filled g.E.Engine.state g.E.Engine.root (first_engine c.args.self.now) c.args.seat.now.me c.exchange.new.seat.me c.args.place c.args.slot r c.exchange.ensures.3 in
    let grown = added_seat g.E.Engine.state g.E.Engine.root (first_engine c.args.self.now) c.args.self.now.table.shared.table_id.slots c.args.place c.args.seat.now.me c.exchange.new.seat.me c.store.new.seat.me c.args.slot is c.store.ensures.2 in
    (search rules, search rules, ready_gives g.E.Engine.state g.E.Engine.root (first_engine c.args.self.now) _ _ c.args.place c.args.seat.now.me c.store.new.seat.me c.args.slot c.args.self.now.sized.1 r grown)

pub returns-clause-back : goal.returns-clause-back
returns-clause-back g c = let r = c.requires.ready in let is = filled g.E.Engine.state g.E.Engine.root (first_engine c.args.self.now) c.args.seat.now.me c.exchange.new.seat.me c.args.place c.args.slot r c.exchange.ensures.3 in
    let grown = added_seat g.E.Engine.state g.E.Engine.root (first_engine c.args.self.now) c.args.self.now.table.shared.table_id.slots c.args.place c.args.seat.now.me c.exchange.new.seat.me c.store.new.seat.me c.args.slot is c.store.ensures.2 in
    given_seat g.E.Engine.state g.E.Engine.root (first_engine c.args.self.now) c.args.self.now.table.shared.table_id.slots c.args.place c.args.seat.now.me c.store.new.seat.me c.store-2.new.seat.me c.args.slot grown c.store-2.ensures.2
