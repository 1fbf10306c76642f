-- `get_line`: clause spelled.
use Rattle.std.proofs.Common.{◌+◌, sym, ap, ℕ}
use Rattle.vx_wire.specs.Fields.{line_bytes}
use Rattle.vx_wire.specs.Numbers.{be_bytes}
use Rattle.vx_wire.proofs.NumberLemmas.{length-be_bytes}
use Rattle.vx_wire.proofs.PlaceLemmas.{StandsAt-append}
use Rattle.vx_wire.proofs.line.get_line.Goals as goal

pub returns-clause-spelled : goal.returns-clause-spelled
unfolding line_bytes
returns-clause-spelled c =
    StandsAt-append c.args.at (c.args.at + 8) (be_bytes 8 c.get_u64.result) (be_bytes 4 c.get_u32.result) c.args.bytes.now
    (ap (λ (n : ℕ). c.args.at + n) (sym (length-be_bytes 8 c.get_u64.result))) 8 4 (length-be_bytes 8 c.get_u64.result) (length-be_bytes 4 c.get_u32.result)
    (sym c.get_u64.ensures.spelled) (sym c.get_u32.ensures.spelled)
