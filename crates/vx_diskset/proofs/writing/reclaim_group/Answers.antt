-- A log of a site that is up gives up what it holds up to a number.
use Rattle.std.proofs.Common.{sym, ◌∙◌, ap, arith, refl}
use Rattle.vx_rvg.specs.Saves.{reclaim_refusal, reclaimed}
use Rattle.vx_diskset.proofs.Blamed.{unit_blamed}
use Rattle.vx_diskset.proofs.MakeRoom.{reclaimed_as, reclaim_cut, roomed_at, save_units}
use Rattle.vx_diskset.proofs.CallsBurn.{reclaim_off}
use Rattle.vx_diskset.proofs.Mores.{more_reclaimed}
use Rattle.vx_diskset.proofs.LeavesNumbers.{reclaim_takes}
use Rattle.vx_diskset.proofs.RvgMoves.{log_moves}
use Rattle.vx_diskset.proofs.writing.reclaim_group.Goals as goal

pub returns-then-is_down-clause-made : goal.returns-then-is_down-clause-made
returns-then-is_down-clause-made g c = λ beside n up none unneeded less.
    let lawful = g.met.S.Shelf.lawful in
    reclaim_cut n c.args.rvg.now.core (g.S.Shelf.meaning c.args.rvg.now.shelf) (g.S.Shelf.meaning c.reclaim-answer.new.self.shelf) c.args.to up (omega (arith, c.requires.applied, c.args.rvg.now.sound.known, up.head)) unneeded none less
    (lawful c.args.rvg.now.shelf) (lawful c.reclaim-answer.new.self.shelf) c.reclaim-answer.ensures.moves (sym c.is_down.ensures ∙ c.if-is_down.true)

pub returns-clause-made : goal.returns-clause-made
returns-clause-made g c = λ beside n up none unneeded less.
    let lawful = g.met.S.Shelf.lawful in
    reclaimed_as n c.args.rvg.now.core c.reclaim-answer.new.self.core (g.S.Shelf.meaning c.args.rvg.now.shelf) (g.S.Shelf.meaning c.reclaim-answer.new.self.shelf) c.args.to up (omega (arith, c.requires.applied, c.args.rvg.now.sound.known, up.head)) unneeded none less
    (lawful c.args.rvg.now.shelf) (lawful c.reclaim-answer.new.self.shelf) c.reclaim-answer.ensures.moves (sym c.is_down.ensures ∙ c.if-is_down.false) c.reclaim-answer.result c.reclaim-answer.ensures.answers
    (λ some. ap g.S.Shelf.meaning (c.reclaim-answer.ensures.unchanged some)) c.reclaim-answer.ensures.stands

pub returns-then-is_down-clause-room : goal.returns-then-is_down-clause-room
returns-then-is_down-clause-room g c = λ beside n count up none unneeded less room. tt

pub returns-clause-room : goal.returns-clause-room
returns-clause-room g c = λ beside n count up none unneeded less room.
    let lawful = g.met.S.Shelf.lawful in
    roomed_at n c.args.rvg.now.core c.reclaim-answer.new.self.core (g.S.Shelf.meaning c.args.rvg.now.shelf) (g.S.Shelf.meaning c.reclaim-answer.new.self.shelf) c.args.to count up (omega (arith, c.requires.applied, c.args.rvg.now.sound.known, up.head)) unneeded none less
    (lawful c.args.rvg.now.shelf) (lawful c.reclaim-answer.new.self.shelf) c.reclaim-answer.ensures.moves (sym c.is_down.ensures ∙ c.if-is_down.false) c.reclaim-answer.result c.reclaim-answer.ensures.answers c.reclaim-answer.new.self.sound room

pub returns-then-is_down-clause-off : goal.returns-then-is_down-clause-off
returns-then-is_down-clause-off g c = sym c.is_down.ensures ∙ c.if-is_down.true

pub returns-clause-off : goal.returns-clause-off
returns-clause-off g c = reclaim_off c.args.rvg.now.core c.args.to _ (g.S.Shelf.meaning c.args.rvg.now.shelf) (g.S.Shelf.meaning c.reclaim-answer.new.self.shelf) c.reclaim-answer.new.self.core c.reclaim-answer.result (sym c.is_down.ensures ∙ c.if-is_down.false) c.reclaim-answer.ensures.answers

pub returns-then-is_down-clause-spends : goal.returns-then-is_down-clause-spends
returns-then-is_down-clause-spends g c = c.reclaim-answer.ensures.spends

pub returns-clause-spends : goal.returns-clause-spends
returns-clause-spends g c = c.reclaim-answer.ensures.spends

pub returns-then-is_down-clause-units : goal.returns-then-is_down-clause-units
returns-then-is_down-clause-units g c =
    save_units (reclaim_refusal c.args.rvg.now.core c.args.to) c.args.rvg.now.core (reclaimed c.args.rvg.now.core c.args.to) (g.S.Shelf.meaning c.args.rvg.now.shelf) (g.S.Shelf.meaning c.reclaim-answer.new.self.shelf) c.reclaim-answer.new.self.core c.reclaim-answer.result refl
    c.reclaim-answer.ensures.answers

pub returns-clause-units : goal.returns-clause-units
returns-clause-units g c =
    save_units (reclaim_refusal c.args.rvg.now.core c.args.to) c.args.rvg.now.core (reclaimed c.args.rvg.now.core c.args.to) (g.S.Shelf.meaning c.args.rvg.now.shelf) (g.S.Shelf.meaning c.reclaim-answer.new.self.shelf) c.reclaim-answer.new.self.core c.reclaim-answer.result refl
    c.reclaim-answer.ensures.answers

pub returns-then-is_down-clause-group : goal.returns-then-is_down-clause-group
returns-then-is_down-clause-group g c =
    more_reclaimed (reclaim_refusal c.args.rvg.now.core c.args.to) c.args.rvg.now.core c.reclaim-answer.new.self.core c.args.to (g.S.Shelf.meaning c.args.rvg.now.shelf) (g.S.Shelf.meaning c.reclaim-answer.new.self.shelf) c.reclaim-answer.result c.ring-ring.ensures.low
    (omega (arith, c.requires.applied, c.args.rvg.now.sound.known)) c.reclaim-answer.ensures.answers

pub returns-clause-group : goal.returns-clause-group
returns-clause-group g c =
    more_reclaimed (reclaim_refusal c.args.rvg.now.core c.args.to) c.args.rvg.now.core c.reclaim-answer.new.self.core c.args.to (g.S.Shelf.meaning c.args.rvg.now.shelf) (g.S.Shelf.meaning c.reclaim-answer.new.self.shelf) c.reclaim-answer.result c.ring-ring.ensures.low
    (omega (arith, c.requires.applied, c.args.rvg.now.sound.known)) c.reclaim-answer.ensures.answers

pub returns-then-is_down-clause-takes : goal.returns-then-is_down-clause-takes
returns-then-is_down-clause-takes g c = record { never = λ has. tt; stamp = tt }

pub returns-clause-takes : goal.returns-clause-takes
returns-clause-takes g c =
    reclaim_takes c.args.rvg.now.core c.args.to (g.S.Shelf.meaning c.args.rvg.now.shelf) (g.S.Shelf.meaning c.reclaim-answer.new.self.shelf) c.reclaim-answer.new.self.core c.reclaim-answer.result c.ring-ring.ensures.low
    (omega (arith, c.requires.applied, c.args.rvg.now.sound.known)) c.reclaim-answer.ensures.answers

pub returns-clause-blames : goal.returns-clause-blames
returns-clause-blames g c =
    unit_blamed c.reclaim-answer.result (g.S.Shelf.meaning c.args.rvg.now.shelf) c.args.rvg.now.core c.args.rvg.now.sound.log_unit c.reclaim-answer.ensures.blames

pub returns-then-is_down-clause-moves : goal.returns-then-is_down-clause-moves
returns-then-is_down-clause-moves g c = log_moves c.args.rvg.now.core _ _ _ (g.S.Shelf.meaning c.args.rvg.now.shelf) (g.S.Shelf.meaning c.reclaim-answer.new.self.shelf) c.reclaim-answer.ensures.moves

pub returns-clause-moves : goal.returns-clause-moves
returns-clause-moves g c = log_moves c.args.rvg.now.core _ _ _ (g.S.Shelf.meaning c.args.rvg.now.shelf) (g.S.Shelf.meaning c.reclaim-answer.new.self.shelf) c.reclaim-answer.ensures.moves
