-- `is_spelled`: its result; what `put_fields` asks.
use Rattle.std.proofs.Common.{arith, ◌≡◌, ◌∙◌, sym, ap, List, ℕ, length, take, replicate}
use lib.Pointwise.{pointwise}
use Rattle.std.specs.Prelude.{nat_eq}
use Rattle.std.specs.Cmp.Lexicographic.{same_text}
use Rattle.std.proofs.lemmas.Cmp.{nat_list_eq_equiv}
use Rattle.vx_wire.specs.Fields.{spelled}
use Rattle.vx_wire.specs.Places.{put_at}
use Rattle.vx_wire.proofs.PlaceLemmas.{put_at-whole}
use Rattle.vx_packet.specs.Packets.{packet_table}
use Rattle.vx_packet.proofs.PartLemmas.{length-header_table}
use Rattle.vx_packet.proofs.part.is_spelled.Goals as goal

pub put_fields-requires : goal.put_fields-requires
put_fields-requires c =
    let same : length (spelled c.table.result) ≡ length (spelled (packet_table c.args.p.now)) = ap (λ t. length (spelled t)) c.table.ensures in
    omega (arith, same, length-header_table c.args.p.now)

pub returns : goal.returns
returns c =
    let front : List ℕ = spelled (packet_table c.args.p.now) in
    let again : c.put_fields.new.bytes ≡ front =
    c.put_fields.ensures.written ∙ ap (λ t. put_at 0 (spelled t) (replicate 48 0)) c.table.ensures ∙ put_at-whole front (replicate 48 0) (length-header_table c.args.p.now) in
    let told : c.eq.result ≡ pointwise nat_eq front (take 48 c.args.bytes.now) = c.eq.ensures ∙ ap (λ (a : List ℕ). pointwise nat_eq a (take 48 c.args.bytes.now)) again in (
      λ yes. sym (same_text front (take 48 c.args.bytes.now) (sym yes ∙ told)),
      λ same. told ∙ ap (λ (a : List ℕ). pointwise nat_eq front a) same ∙ nat_list_eq_equiv.refl front,
    )
