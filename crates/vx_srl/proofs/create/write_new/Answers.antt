-- `write_new`: clauses moves, written, spends and works.
use Rattle.std.proofs.lemmas.Result.{on_ok_weaker}
use Rattle.vx_srl.proofs.MakeNew.{then_any, new_headers}
use Rattle.vx_disk.proofs.Spending.{on_always, then_spends, works_since}
use Rattle.vx_srl.proofs.create.write_new.Goals as goal

pub returns-clause-moves : goal.returns-clause-moves
returns-clause-moves g c = then_any _ _ _ _ _ (then_any _ _ _ _ _ c.blank_ring.ensures.moves c.write_header.ensures.follows) c.write_header-2.ensures.follows

pub returns-clause-written : goal.returns-clause-written
returns-clause-written g c = on_ok_weaker c.write_header-2.result
    (new_headers c.args.unit c.args.ring _ _ _ _ _ _ (g.met.S.Shelf.lawful c.blank_ring.new.shelf) c.in_ok-blank_ring.ensures.leaves c.in_ok-write_header.ensures.arrives)
    c.write_header-2.ensures.arrives

pub returns-in_err-write_header-clause-spends : goal.returns-in_err-write_header-clause-spends
returns-in_err-write_header-clause-spends g c = then_spends _ _ _ c.blank_ring.ensures.spends c.write_header.ensures.spends

pub returns-clause-spends : goal.returns-clause-spends
returns-clause-spends g c = then_spends _ _ _ (then_spends _ _ _ c.blank_ring.ensures.spends c.write_header.ensures.spends) c.write_header-2.ensures.spends

pub returns-clause-works : goal.returns-clause-works
returns-clause-works g c = on_always c.write_header-2.result (works_since _ _ _ c.blank_ring.ensures.spends c.in_ok-write_header.ensures.works)
