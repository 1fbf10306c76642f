-- `write`: by whether marks name a place of a link.
use Rattle.std.proofs.Common.{true}
use Rattle.vx_model.specs.Content.{blocks_in}
use Rattle.vx_disk.proofs.Spending.{on_always}
use Rattle.vx_rvg.specs.Marks.{write_first, write_last}
use Rattle.vx_rvg.proofs.MarkedStands.{between_none, by_none, by_some, none_named}
use Rattle.vx_rvg.proofs.group.Rvg.write.Goals as goal

pub returns-then-marks-eq0-clause-answers : goal.returns-then-marks-eq0-clause-answers
returns-then-marks-eq0-clause-answers g c = by_none c.args.marks _ _ c.if-marks-eq0.true c.write_plain.ensures.answers

pub returns-clause-answers : goal.returns-clause-answers
returns-clause-answers g c = by_some c.args.marks _ _ c.if-marks-eq0.false c.write_marked.ensures.answers

pub returns-then-marks-eq0-clause-stands : goal.returns-then-marks-eq0-clause-stands
returns-then-marks-eq0-clause-stands g c = by_none c.args.marks _ _ c.if-marks-eq0.true c.write_plain.ensures.stands

pub returns-clause-stands : goal.returns-clause-stands
returns-clause-stands g c = by_some c.args.marks _ _ c.if-marks-eq0.false c.write_marked.ensures.stands

pub returns-then-marks-eq0-clause-moves : goal.returns-then-marks-eq0-clause-moves
returns-then-marks-eq0-clause-moves g c = by_none c.args.marks _ _ c.if-marks-eq0.true c.write_plain.ensures.moves

pub returns-clause-moves : goal.returns-clause-moves
returns-clause-moves g c = by_some c.args.marks _ _ c.if-marks-eq0.false c.write_marked.ensures.moves

pub returns-then-marks-eq0-clause-calls : goal.returns-then-marks-eq0-clause-calls
returns-then-marks-eq0-clause-calls g c = by_none c.args.marks _ _ c.if-marks-eq0.true c.write_plain.ensures.calls

pub returns-clause-calls : goal.returns-clause-calls
returns-clause-calls g c = by_some c.args.marks _ _ c.if-marks-eq0.false c.write_marked.ensures.calls

pub returns-then-marks-eq0-clause-short : goal.returns-then-marks-eq0-clause-short
returns-then-marks-eq0-clause-short g c = by_none c.args.marks _ _ c.if-marks-eq0.true c.write_plain.ensures.short

pub returns-clause-short : goal.returns-clause-short
returns-clause-short g c = by_some c.args.marks _ _ c.if-marks-eq0.false c.write_marked.ensures.short

pub returns-then-marks-eq0-clause-blames : goal.returns-then-marks-eq0-clause-blames
returns-then-marks-eq0-clause-blames g c = by_none c.args.marks _ _ c.if-marks-eq0.true c.write_plain.ensures.blames

pub returns-clause-blames : goal.returns-clause-blames
returns-clause-blames g c = by_some c.args.marks _ _ c.if-marks-eq0.false c.write_marked.ensures.blames

pub returns-then-marks-eq0-clause-marked : goal.returns-then-marks-eq0-clause-marked
returns-then-marks-eq0-clause-marked g c = on_always c.write_plain.result (none_named c.args.marks c.args.vol (write_first c.args.start) (write_last c.args.start (blocks_in c.args.bytes.now)) c.write_plain.new.core.maps c.if-marks-eq0.true)

pub returns-then-marks-eq0-clause-part : goal.returns-then-marks-eq0-clause-part
returns-then-marks-eq0-clause-part g c = between_none _ true c.args.self.now.core.maps c.write_plain.new.core.maps c.write_plain.ensures.maps
