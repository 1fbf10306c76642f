-- `place_columns`: its result; what stays true in its loop over `column`.
use Rattle.std.proofs.Common.{arith, refl}
use Rattle.std.proofs.lemmas.Result.{err_from_is_err_and}
use Rattle.vx_layout.proofs.RoomLemmas.{column_end, column_more, column_start, columns_err}
use Rattle.vx_layout.proofs.columns.place_columns.Goals as goal

pub loop-column-init : goal.loop-column-init
loop-column-init c = column_start c.args.used.now c.args.disks.now c.args.wanted c.args.found.now.items

pub loop-column-preserved : goal.loop-column-preserved
loop-column-preserved c = column_more c.args.used.now c.args.disks.now c.args.wanted c.loop-column._column c.args.found.now.items c.loop-column.found.items c.place_column.new.found.items c.loop-column.invariant c.in_ok-place_column.ensures

pub returns : goal.returns
returns c = column_end c.args.used.now c.args.disks.now c.args.ncol c.args.wanted c.loop-column._column c.args.found.now.items c.loop-column.found.items (omega arith) c.loop-column.invariant

pub returns-in_err-place_column : goal.returns-in_err-place_column
returns-in_err-place_column c =
    let p = err_from_is_err_and c.from_residual.result c.from_residual.ensures.1 in
    rw (p.1, p.2) (columns_err c.args.used.now c.args.disks.now c.args.ncol c.args.wanted c.loop-column._column c.args.found.now.items c.loop-column.found.items c.place_column.new.found.items _ _ c.loop-column-test.true c.loop-column.invariant refl c.in_err-place_column.ensures)
