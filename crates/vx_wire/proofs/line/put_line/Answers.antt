-- `put_line`: its result.
use Rattle.std.proofs.Common.{arith, ◌∙◌, ap, ◌≡◌, ◌+◌, length}
use Rattle.vx_wire.specs.Fields.{line_bytes}
use Rattle.vx_wire.specs.Numbers.{be_bytes}
use Rattle.vx_wire.specs.Places.{put_at}
use Rattle.vx_wire.proofs.NumberLemmas.{length-be_bytes}
use Rattle.vx_wire.proofs.PlaceLemmas.{put_at-put_at}
use Rattle.vx_wire.proofs.line.put_line.Goals as goal

pub returns : goal.returns
unfolding line_bytes
returns c =
    let len : length (be_bytes 8 c.args.line.generation) ≡ 8 = length-be_bytes 8 c.args.line.generation in
    c.put_u32.ensures ∙ ap (put_at (c.args.at + 8) (be_bytes 4 c.args.line.origin)) c.put_u64.ensures
    ∙ put_at-put_at c.args.at (c.args.at + 8) (be_bytes 8 c.args.line.generation) (be_bytes 4 c.args.line.origin) c.args.bytes.now (omega arith) (omega arith)
