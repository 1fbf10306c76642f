-- `put_name`: its result.
use Rattle.std.proofs.Common.{arith, ◌≡◌, ◌+◌, ◌++◌, ◌∷◌, [], ◌∙◌, ap, List, ℕ, length}
use Rattle.vx_wire.specs.Numbers.{be_bytes}
use Rattle.vx_wire.specs.Places.{put_at}
use Rattle.vx_wire.proofs.NumberLemmas.{be_bytes-byte, length-be_bytes}
use Rattle.vx_wire.proofs.PlaceLemmas.{put_at-put_at}
use Rattle.vx_wire.proofs.name.put_name.Goals as goal

pub returns : goal.returns
returns c =
    let part : List ℕ = c.as_bytes-part.result.now in
    let same : part ≡ c.args.name.now = c.as_bytes-part.ensures.bytes in
    let len : length part ≡ length c.args.name.now = ap length same in
    let byte : be_bytes 1 (length part) ≡ length part ∷ [] = be_bytes-byte (length part) (omega arith) in
    let wide : length (be_bytes 1 (length part)) ≡ 1 = length-be_bytes 1 (length part) in
    c.put_bytes.ensures ∙ ap (put_at (c.args.at + 1) part) c.put_u8.ensures
    ∙ put_at-put_at c.args.at (c.args.at + 1) (be_bytes 1 (length part)) part c.args.bytes.now (omega arith) (omega arith)
    ∙ ap (λ (b : List ℕ). put_at c.args.at (b ++ part) c.args.bytes.now) byte
    ∙ ap (λ (p : List ℕ). put_at c.args.at (length p ∷ p) c.args.bytes.now) same
