-- `is_spelled`: clause spelled.
use Rattle.std.proofs.Common.{◌≡◌, ◌∙◌, ◌++◌, sym, take, ℕ, List, refl}
use Rattle.vx_packet.specs.Messages.{payload_of}
use Rattle.vx_packet.proofs.RowLemmas.{payload-row}
use Rattle.vx_packet.proofs.reading.is_spelled.Goals as goal

pub returns-then-has_fields-clause-spelled : goal.returns-then-has_fields-clause-spelled
returns-then-has_fields-clause-spelled c =
    let front : List ℕ = take c.put_front-len.result c.put_front-len.new.into in
    let payload : front ++ c.row_of-row.result.bytes.now ≡ payload_of c.args.m.now = payload-row c.row_of-row.result c.args.m.now front c.row_of-row.ensures.row c.put_front-len.ensures.written in
    let fields = c.if-has_fields.ensures.0 refl in
    let row = c.row_of-row.ensures.row in (
      λ yes. record {
        kind_is = sym row.kind ∙ fields.0;
        session_is = sym row.session ∙ fields.1;
        number_is = sym row.number ∙ fields.2;
        payload_is = sym payload ∙ c.is_payload.ensures.0 yes;
      },
      λ is. c.is_payload.ensures.1 (payload ∙ is.payload_is),
    )
