-- `column_blocks`: that no number grows too large.
use Rattle.std.proofs.Common.{arith}
use Rattle.vx_layout.proofs.RoomLemmas.{column_fits}
use Rattle.vx_layout.proofs.columns.column_blocks.Goals as goal

pub overflow_mul-result : goal.overflow_mul-result
overflow_mul-result c =
    let fits = column_fits c.args.want.now c.div_ceil-units.result c.from.result c.from-2.result c.from-3.result c.requires.shape c.requires.striped c.from.ensures c.from-2.ensures c.div_ceil-units.ensures c.from-3.ensures in
    omega (arith, fits)
