-- The group in a group commit behind a stage, by whether marks name a place of a link.
use Rattle.std.proofs.Common.{true}
use Rattle.vx_model.specs.Content.{blocks_in}
use Rattle.vx_disk.proofs.Spending.{on_always}
use Rattle.vx_rvg.specs.Commits.{stage_refusal}
use Rattle.vx_rvg.specs.Marks.{write_first, write_last}
use Rattle.vx_rvg.specs.Views.{unit_of}
use Rattle.vx_rvg.proofs.CommitCalls.{stage_counted}
use Rattle.vx_rvg.proofs.MarkStaging.{stage_is_keeps}
use Rattle.vx_rvg.proofs.MarkedStands.{between_none, by_none, by_some, none_named}
use Rattle.vx_rvg.proofs.staging.Staging.stage.Goals as goal

pub invariant_of-self : goal.invariant_of-self
invariant_of-self g c = record {
  sound = c.stage_plain.ensures.sound;
  counted =
      stage_counted c.args.self.now.waiting c.args.self.now.core (g.S.Shelf.meaning c.args.self.now.shelf) (g.S.Shelf.meaning c.stage_plain.new.shelf) c.args.self.now.counted
      (record { units = c.stage_plain.ensures.moves.units; size = c.stage_plain.ensures.moves.size }) c.stage_plain.new.core c.args.vol c.args.start c.args.bytes.now
      (stage_refusal c.args.self.now.core ((g.S.Shelf.meaning c.args.self.now.shelf).size (unit_of c.args.self.now.core.units.vols c.args.vol)) c.args.start (blocks_in c.args.bytes.now)) c.stage_plain.result c.stage_plain.ensures.answers;
}

pub invariant_of-self-2 : goal.invariant_of-self-2
invariant_of-self-2 g c = record {
  sound = c.stage_marked.ensures.sound;
  counted =
      stage_counted c.args.self.now.waiting (record c.args.self.now.core { maps = c.stage_marked.new.core.maps }) (g.S.Shelf.meaning c.args.self.now.shelf) (g.S.Shelf.meaning c.stage_marked.new.shelf) c.args.self.now.counted
      (record { units = c.stage_marked.ensures.moves.units; size = c.stage_marked.ensures.moves.size }) c.stage_marked.new.core c.args.vol c.args.start c.args.bytes.now
      (stage_refusal c.args.self.now.core ((g.S.Shelf.meaning c.args.self.now.shelf).size (unit_of c.args.self.now.core.units.vols c.args.vol)) c.args.start (blocks_in c.args.bytes.now)) c.stage_marked.result c.stage_marked.ensures.answers;
}

pub returns-then-marks-eq0-clause-answers : goal.returns-then-marks-eq0-clause-answers
returns-then-marks-eq0-clause-answers g c = by_none c.args.marks _ _ c.if-marks-eq0.true c.stage_plain.ensures.answers

pub returns-clause-answers : goal.returns-clause-answers
returns-clause-answers g c = by_some c.args.marks _ _ c.if-marks-eq0.false c.stage_marked.ensures.answers

pub returns-then-marks-eq0-clause-staged : goal.returns-then-marks-eq0-clause-staged
returns-then-marks-eq0-clause-staged g c = by_none c.args.marks _ _ c.if-marks-eq0.true c.stage_plain.ensures.staged

pub returns-clause-staged : goal.returns-clause-staged
returns-clause-staged g c = by_some c.args.marks _ _ c.if-marks-eq0.false c.stage_marked.ensures.staged

pub returns-then-marks-eq0-clause-moves : goal.returns-then-marks-eq0-clause-moves
returns-then-marks-eq0-clause-moves g c = by_none c.args.marks _ _ c.if-marks-eq0.true c.stage_plain.ensures.moves

pub returns-clause-moves : goal.returns-clause-moves
returns-clause-moves g c = by_some c.args.marks _ _ c.if-marks-eq0.false c.stage_marked.ensures.moves

pub returns-then-marks-eq0-clause-calls : goal.returns-then-marks-eq0-clause-calls
returns-then-marks-eq0-clause-calls g c = by_none c.args.marks _ _ c.if-marks-eq0.true c.stage_plain.ensures.calls

pub returns-clause-calls : goal.returns-clause-calls
returns-clause-calls g c = by_some c.args.marks _ _ c.if-marks-eq0.false c.stage_marked.ensures.calls

pub returns-then-marks-eq0-clause-short : goal.returns-then-marks-eq0-clause-short
returns-then-marks-eq0-clause-short g c = by_none c.args.marks _ _ c.if-marks-eq0.true c.stage_plain.ensures.short

pub returns-clause-short : goal.returns-clause-short
returns-clause-short g c = by_some c.args.marks _ _ c.if-marks-eq0.false c.stage_marked.ensures.short

pub returns-then-marks-eq0-clause-blames : goal.returns-then-marks-eq0-clause-blames
returns-then-marks-eq0-clause-blames g c = by_none c.args.marks _ _ c.if-marks-eq0.true c.stage_plain.ensures.blames

pub returns-clause-blames : goal.returns-clause-blames
returns-clause-blames g c = by_some c.args.marks _ _ c.if-marks-eq0.false c.stage_marked.ensures.blames

pub returns-then-marks-eq0-clause-marked : goal.returns-then-marks-eq0-clause-marked
returns-then-marks-eq0-clause-marked g c = on_always c.stage_plain.result (none_named c.args.marks c.args.vol (write_first c.args.start) (write_last c.args.start (blocks_in c.args.bytes.now)) c.stage_plain.new.core.maps c.if-marks-eq0.true)

pub returns-then-marks-eq0-clause-part : goal.returns-then-marks-eq0-clause-part
returns-then-marks-eq0-clause-part g c =
    between_none _ true c.args.self.now.core.maps c.stage_plain.new.core.maps
    (stage_is_keeps (stage_refusal c.args.self.now.core ((g.S.Shelf.meaning c.args.self.now.shelf).size (unit_of c.args.self.now.core.units.vols c.args.vol)) c.args.start (blocks_in c.args.bytes.now)) c.stage_plain.result c.args.self.now.core c.stage_plain.new.core
    c.args.vol c.args.start c.args.bytes.now (g.S.Shelf.meaning c.args.self.now.shelf) (g.S.Shelf.meaning c.stage_plain.new.shelf) c.stage_plain.ensures.answers)
