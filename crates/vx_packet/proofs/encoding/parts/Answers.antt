-- `parts`: its result.
use Rattle.std.proofs.Common.{arith, ◌≡◌, ◌+◌, ◌∙◌, ap, sym, take, length, ℕ, List}
use Rattle.std.proofs.lemmas.List.{length-append}
use Rattle.vx_packet.specs.Messages.{count_of_parts, payload_of, part_count}
use Rattle.vx_packet.proofs.RowLemmas.{payload-row}
use Rattle.vx_packet.proofs.encoding.parts.Goals as goal

pub returns : goal.returns
unfolding count_of_parts
returns c =
    let front : List ℕ = take c.put_front-len.result c.put_front-len.new.into in
    let payload = payload-row c.row_of-row.result c.args.m.now front c.row_of-row.ensures.row c.put_front-len.ensures.written in
    let total : c.put_front-len.result + length c.row_of-row.result.bytes.now ≡ length (payload_of c.args.m.now) =
    omega (arith, ap length (sym payload), length-append front c.row_of-row.result.bytes.now, ap length c.put_front-len.ensures.written, c.put_front-len.ensures.length) in
    c.part_count.ensures ∙ ap part_count total
