-- `put_chunk`: its result.
use Rattle.std.proofs.Common.{arith, ◌≡◌, ◌∙◌, ◌++◌, ◌-◌, ◌*◌, sym, ap, List, ℕ, length, take, drop}
use Rattle.vx_wire.specs.Places.{put_at}
use Rattle.vx_wire.proofs.PlaceLemmas.{put_at-put_at}
use Rattle.vx_packet.specs.Messages.{chunk}
use Rattle.vx_packet.proofs.ChunkLemmas.{first_chunk, later_chunk}
use Rattle.vx_packet.proofs.payload.put_chunk.Goals as goal

pub returns-then-part-eq0 : goal.returns-then-part-eq0
returns-then-part-eq0 c =
    let old : List ℕ = c.args.into.now in
    let front : List ℕ = c.args.front.now in
    let bytes : List ℕ = c.args.bytes.now in
    let end : ℕ = c.min-end.result in
    let is : chunk c.args.part (front ++ bytes) ≡ front ++ take end bytes = first_chunk c.args.part end front bytes (omega arith) (omega (arith, c.requires.front)) (omega arith) in
    c.put_bytes-then-part-eq0.ensures
    ∙ ap (put_at _ (take end bytes)) c.put_bytes.ensures
    ∙ put_at-put_at c.args.at _ front (take end bytes) old (omega arith) (omega (arith, c.requires.room))
    ∙ ap (λ (t : List ℕ). put_at c.args.at t old) (sym is)

pub returns-else-part-eq0 : goal.returns-else-part-eq0
returns-else-part-eq0 c =
    let front : List ℕ = c.args.front.now in
    let bytes : List ℕ = c.args.bytes.now in
    let end : ℕ = c.min-end-else-part-eq0.result in
    let from : ℕ = 1024 * c.args.part - length front in
    let is : chunk c.args.part (front ++ bytes) ≡ take (end - from) (drop from bytes) = later_chunk c.args.part from end front bytes (omega arith) (omega arith) (omega arith) in
    c.put_bytes-else-part-eq0.ensures ∙ ap (λ (t : List ℕ). put_at c.args.at t c.args.into.now) (sym is)
