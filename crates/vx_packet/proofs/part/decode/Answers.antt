-- `decode`: clauses found and only.
use Rattle.std.proofs.Common.{arith, ◌≡◌, ◌∙◌, ◌+◌, ap, sym, subst, List, ℕ, length, Some, refl}
use Rattle.vx_wire.specs.Fields.{spelled}
use Rattle.vx_packet.specs.PacketReading.{part_in}
use Rattle.vx_packet.specs.Packets.{packet_table, CanCarry}
use Rattle.vx_packet.specs.declared.part.Part.{Part}
use Rattle.vx_packet.proofs.Numbers.{not_both}
use Rattle.vx_packet.proofs.PartLemmas.{part_in-is, front_packet, packet_from}
use Rattle.vx_packet.proofs.part.decode.Goals.{else-whole-via-then-whole+then-can_carry+else-is_spelled, else-whole-via-then-whole+else-can_carry, else-whole-via-else-whole}
use Rattle.vx_packet.proofs.part.decode.Goals as goal

starts : (bytes : List ℕ) (p : Part) → p ≡ part_in bytes → p.start ≡ 48
unfolding part_in
starts bytes p is = ap (λ (q : Part). q.start) is

pub returns-then-is_spelled-clause-found : goal.returns-then-is_spelled-clause-found
returns-then-is_spelled-clause-found c =
    let start : c.read_part-part.result.start ≡ 48 = starts c.args.bytes.now c.read_part-part.result c.read_part-part.ensures in
    let whole : length c.args.bytes.now ≡ 48 + c.read_part-part.result.length = omega arith in record {
      can = c.if-can_carry.ensures.0 refl;
      typed = c.is_typed.ensures;
      start = start;
      whole = whole;
      is = packet_from c.args.bytes.now c.read_part-part.result (c.if-is_spelled.ensures.0 refl) start whole;
    }

pub returns-then-is_spelled-clause-only : goal.returns-then-is_spelled-clause-only
returns-then-is_spelled-clause-only c p is = ap Some (c.read_part-part.ensures ∙ part_in-is c.args.bytes.now p is)

pub returns-else-whole-clause-only : goal.returns-else-whole-clause-only
returns-else-whole-clause-only c p is =
    let same : p ≡ c.read_part-part.result = sym (c.read_part-part.ensures ∙ part_in-is c.args.bytes.now p is) in
    let whole : length c.args.bytes.now ≡ 48 + c.read_part-part.result.length = is.whole ∙ ap (λ (q : Part). 48 + q.length) same in
    elim c.else-whole.branch [
      | else-whole-via-then-whole+then-can_carry+else-is_spelled w ↦
          absurd (not_both (w.if-is_spelled.ensures.1 (front_packet c.args.bytes.now p is ∙ ap (λ (q : Part). spelled (packet_table q)) same)))
      | else-whole-via-then-whole+else-can_carry w ↦ absurd (not_both (w.if-can_carry.ensures.1 (subst CanCarry same is.can)))
      | else-whole-via-else-whole w ↦ absurd (w.if-whole.false whole)
    ]
