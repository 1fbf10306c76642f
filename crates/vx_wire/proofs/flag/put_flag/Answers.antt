-- `put_flag`: its result.
use Rattle.std.proofs.Common.{arith}
use Rattle.vx_wire.proofs.PlaceLemmas.{set-is}
use Rattle.vx_wire.proofs.flag.put_flag.Goals.{then-flag, else-flag}
use Rattle.vx_wire.proofs.flag.put_flag.Goals as goal

pub returns : goal.returns
returns c =
    elim c.if-flag.branch [
      | then-flag w ↦ rw (w.bytes-is, w.if-flag.true) (set-is c.args.at 1 c.args.bytes.now (omega arith))
      | else-flag w ↦ rw (w.bytes-is, w.if-flag.false) (set-is c.args.at 0 c.args.bytes.now (omega arith))
    ]
