-- `put_u8`: its result.
use Rattle.std.proofs.Common.{arith, ◌∙◌, sym, ap, List, ℕ}
use Rattle.vx_wire.specs.Places.{put_at}
use Rattle.vx_wire.proofs.NumberLemmas.{be_bytes-byte}
use Rattle.vx_wire.proofs.PlaceLemmas.{set-is}
use Rattle.vx_wire.proofs.number.put_u8.Goals as goal

pub returns : goal.returns
returns c = set-is c.args.at c.args.number c.args.bytes.now (omega arith) ∙ ap (λ (p : List ℕ). put_at c.args.at p c.args.bytes.now) (sym (be_bytes-byte c.args.number (omega arith)))
