-- `fills`: its result; what stays true in its loop over `subdisk`.
use Rattle.vx_config.specs.Checks.{fill}
use Rattle.vx_config.proofs.FillLemmas.{fill-over, fill-full, fill-part, fill-ends, fill-stops}
use Rattle.vx_config.proofs.soundness.fills.Goals as goal
use Rattle.vx_config.proofs.soundness.fills.Goals.{then-blocks-room-2, else-blocks-room-2}

pub returns-then-blocks-room : goal.returns-then-blocks-room
returns-then-blocks-room c =
    fill-over c.args.column c.loop-subdisk.columns c.loop-subdisk.room c.from-blocks.result c.args.subdisks.now c.loop-subdisk.subdisk-index (fill c.args.column c.args.ncol c.args.column c.args.subdisks.now) c.loop-subdisk-test.true c.from-blocks.ensures c.if-blocks-room.true c.loop-subdisk.invariant

pub loop-subdisk-preserved : goal.loop-subdisk-preserved
loop-subdisk-preserved c =
    elim c.if-blocks-room-2.branch [
      | then-blocks-room-2 w ↦ rw (w.columns-is, w.room-is, w.saturating_sub-columns.ensures, w.next_room-room.ensures)
          (fill-full c.args.column c.loop-subdisk.columns c.loop-subdisk.room c.from-blocks.result c.args.subdisks.now c.loop-subdisk.subdisk-index (fill c.args.column c.args.ncol c.args.column c.args.subdisks.now) c.loop-subdisk-test.true c.from-blocks.ensures w.if-blocks-room-2.true c.loop-subdisk.invariant)
      | else-blocks-room-2 w ↦ rw (w.columns-is, w.room-is)
          (fill-part c.args.column c.loop-subdisk.columns c.loop-subdisk.room c.from-blocks.result c.args.subdisks.now c.loop-subdisk.subdisk-index (fill c.args.column c.args.ncol c.args.column c.args.subdisks.now) c.loop-subdisk-test.true c.from-blocks.ensures c.if-blocks-room.false w.if-blocks-room-2.false c.loop-subdisk.invariant)
    ]

pub returns-then-columns-eq0 : goal.returns-then-columns-eq0
returns-then-columns-eq0 c =
    fill-ends c.args.column c.loop-subdisk.columns c.loop-subdisk.room c.args.subdisks.now c.loop-subdisk.subdisk-index (fill c.args.column c.args.ncol c.args.column c.args.subdisks.now) c.loop-subdisk-test.false c.if-columns-eq0.true c.loop-subdisk.invariant

pub returns-else-columns-eq0 : goal.returns-else-columns-eq0
returns-else-columns-eq0 c =
    fill-stops c.args.column c.loop-subdisk.columns c.loop-subdisk.room c.args.subdisks.now c.loop-subdisk.subdisk-index (fill c.args.column c.args.ncol c.args.column c.args.subdisks.now) c.loop-subdisk-test.false c.if-columns-eq0.false c.loop-subdisk.invariant
