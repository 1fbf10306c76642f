-- The giving up of all records, case by case.
use Rattle.std.proofs.Common.{◌∙◌, sym}
use Rattle.std.proofs.lemmas.Result.{err_from_is_err_and}
use Rattle.vx_secondary.proofs.Rooms.{reclaim_step, reclaim_logs, reclaim_last, reclaim_free, reclaim_ends}
use Rattle.vx_secondary.proofs.room.give_up.Goals as goal

pub returns-in_err-reclaim-clause-step : goal.returns-in_err-reclaim-clause-step
returns-in_err-reclaim-clause-step g c =
    reclaim_step c.args.rvg.now.core c.reclaim.new.self.core (g.S.Shelf.meaning c.args.rvg.now.shelf) (g.S.Shelf.meaning c.reclaim.new.self.shelf) c.args.last c.requires.is_last c.ring-ring.ensures.low c.requires.running
    c.reclaim.result c.reclaim.ensures.answers c.reclaim.ensures.moves

pub returns-in_err-reclaim-clause-ends : goal.returns-in_err-reclaim-clause-ends
returns-in_err-reclaim-clause-ends g c =
    let p = err_from_is_err_and c.from_residual.result c.from_residual.ensures.1 in
    rw (p.1, p.2)
    (reclaim_ends c.args.rvg.now.core c.reclaim.new.self.core (g.S.Shelf.meaning c.args.rvg.now.shelf) (g.S.Shelf.meaning c.reclaim.new.self.shelf) c.args.last c.requires.is_last c.ring-ring.ensures.low c.requires.running
    c.in_err-reclaim.field-0.0 c.in_err-reclaim.ensures.answers)

pub returns-then-is_down-clause-step : goal.returns-then-is_down-clause-step
returns-then-is_down-clause-step g c =
    reclaim_step c.args.rvg.now.core c.reclaim.new.self.core (g.S.Shelf.meaning c.args.rvg.now.shelf) (g.S.Shelf.meaning c.reclaim.new.self.shelf) c.args.last c.requires.is_last c.ring-ring.ensures.low c.requires.running
    c.reclaim.result c.reclaim.ensures.answers c.reclaim.ensures.moves

pub returns-then-is_down-clause-ends : goal.returns-then-is_down-clause-ends
returns-then-is_down-clause-ends g c = (
  reclaim_last c.args.rvg.now.core c.reclaim.new.self.core (g.S.Shelf.meaning c.args.rvg.now.shelf) (g.S.Shelf.meaning c.reclaim.new.self.shelf) c.args.last c.requires.is_last c.ring-ring.ensures.low c.requires.running
      c.in_ok-reclaim.field-0 c.in_ok-reclaim.ensures.answers,
  sym c.is_down.ensures ∙ c.if-is_down.true,
)

pub returns-clause-step : goal.returns-clause-step
returns-clause-step g c =
    reclaim_step c.args.rvg.now.core c.reclaim.new.self.core (g.S.Shelf.meaning c.args.rvg.now.shelf) (g.S.Shelf.meaning c.reclaim.new.self.shelf) c.args.last c.requires.is_last c.ring-ring.ensures.low c.requires.running
    c.reclaim.result c.reclaim.ensures.answers c.reclaim.ensures.moves

pub returns-clause-logs : goal.returns-clause-logs
returns-clause-logs g c =
    reclaim_logs c.args.rvg.now.core c.reclaim.new.self.core (g.S.Shelf.meaning c.args.rvg.now.shelf) (g.S.Shelf.meaning c.reclaim.new.self.shelf) c.args.last c.requires.is_last c.ring-ring.ensures.low c.requires.running
    c.in_ok-reclaim.field-0 c.in_ok-reclaim.ensures.answers c.in_ok-reclaim.ensures.stands

pub returns-clause-room : goal.returns-clause-room
returns-clause-room g c =
    reclaim_free c.args.rvg.now.core c.reclaim.new.self.core (g.S.Shelf.meaning c.args.rvg.now.shelf) (g.S.Shelf.meaning c.reclaim.new.self.shelf) c.args.last c.requires.is_last c.ring-ring.ensures.low c.requires.running
    c.in_ok-reclaim.field-0 c.in_ok-reclaim.ensures.answers c.reclaim.new.self.sound (sym c.is_down.ensures ∙ c.if-is_down.false)
