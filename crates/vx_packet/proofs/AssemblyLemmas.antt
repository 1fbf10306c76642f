-- What an assembly has after a part.
use Rattle.std.proofs.Common.{◌≡◌, ℕ, ◌+◌, ◌-◌, true, false, List, set, take, drop, refl, ap, sym, subst, ◌∙◌, arith, Option, Some, None}
use Rattle.vx_packet.specs.Assemblies.{HeldParts, key_in_part, parts_before, parts_after, held_parts, completed_message, IsPartKept, IsMessageWhole, IsBad, ReadsMessage}
use Rattle.vx_packet.specs.Gathering.{Parts, kept_payload, all_parts_came, joined_parts}
use Rattle.vx_packet.specs.MessageReading.{message_in}
use Rattle.vx_packet.specs.Messages.{IsMessage}
use Rattle.vx_packet.specs.Packets.{payload_in}
use Rattle.vx_packet.specs.declared.key.Key.{Key}
use Rattle.vx_packet.specs.declared.message.Message.{Message}
use Rattle.vx_packet.specs.declared.part.Part.{Part}
use Rattle.vx_packet.proofs.KeyLemmas.{held_of-key, held_of-parts}

-- the place is the message's that the part is of
abbrev pub begun : Option HeldParts → Part → HeldParts
begun old p = record { key = key_in_part p; parts = parts_before old (key_in_part p) }

-- the slice that is taken is the payload
pub slice-payload : (p : Part) (bytes : List ℕ) → take (p.start + p.length - p.start) (drop p.start bytes) ≡ payload_in p bytes
slice-payload p bytes = ap (λ (n : ℕ). take n (drop p.start bytes)) (omega arith)

-- the parts with the new one
pub after-put : (old : Option HeldParts) (p : Part) (k : Option Key) (ps new : Parts) (slice payload : List ℕ) → held_parts k ps ≡ Some (begun old p) → slice ≡ payload → new ≡ set ps p.part (Some (kept_payload p.part slice))
    → new ≡ parts_after old p payload
after-put old p k ps new slice payload is same put =
    put ∙ ap (λ (t : Parts). set t p.part (Some (kept_payload p.part slice))) (held_of-parts k ps (begun old p) is) ∙ ap (λ (t : List ℕ). set (parts_before old (key_in_part p)) p.part (Some (kept_payload p.part t))) same

pub kept-after : (old : Option HeldParts) (p : Part) (k : Option Key) (ps new : Parts) (payload : List ℕ) → held_parts k ps ≡ Some (begun old p) → new ≡ parts_after old p payload → all_parts_came new ≡ false
    → IsPartKept p (parts_after old p payload) (record { held = held_parts k new; whole = None })
kept-after old p k ps new payload is same missing = record {
  missing = ap all_parts_came (sym same) ∙ missing;
  held = ap (λ (q : Option Key). held_parts q new) (held_of-key k ps (begun old p) is) ∙ ap (λ (t : Parts). Some (record { key = key_in_part p; parts = t })) same;
  whole = refl;
}

pub whole-after : (old : Option HeldParts) (p : Part) (new : Parts) (payload whole : List ℕ) (m : Message) → new ≡ parts_after old p payload → all_parts_came new ≡ true → whole ≡ joined_parts new
    → IsMessage p.kind p.session p.number whole m → IsMessageWhole p (parts_after old p payload) (record { held = None; whole = Some m })
whole-after old p new payload whole m same all join is = record {
  all = ap all_parts_came (sym same) ∙ all;
  message = m;
  is = subst (λ (t : List ℕ). IsMessage p.kind p.session p.number t m) (join ∙ ap joined_parts same) is;
  held = refl;
  whole = refl;
}

pub bad-after : (old : Option HeldParts) (p : Part) (new : Parts) (payload whole : List ℕ) → new ≡ parts_after old p payload → all_parts_came new ≡ true → whole ≡ joined_parts new
    → ((m : Message) → IsMessage p.kind p.session p.number whole m → ⊥) → IsBad p (parts_after old p payload) (record { held = None; whole = None })
bad-after old p new payload whole same all join none = record {
  all = ap all_parts_came (sym same) ∙ all;
  none = λ m is. none m (subst (λ (t : List ℕ). IsMessage p.kind p.session p.number t m) (sym (join ∙ ap joined_parts same)) is);
  held = refl;
  whole = refl;
}

-- what was read of the payload is what the assembly then has
pub whole-read : (old : Option HeldParts) (p : Part) (new : Parts) (payload whole : List ℕ) (key : Key) → new ≡ parts_after old p payload → all_parts_came new ≡ true → whole ≡ joined_parts new → key ≡ key_in_part p
    → ReadsMessage p.kind p.session p.number whole true → IsMessageWhole p (parts_after old p payload) (record { held = None; whole = completed_message (Some key) new })
whole-read old p new payload whole key same all join is reads =
    let read : completed_message (Some key) new ≡ Some reads.0 =
    ap (λ (q : Key). message_in q.kind q.session q.number (joined_parts new)) is ∙ ap (message_in p.kind p.session p.number) (sym join) ∙ reads.1 in
    subst (λ (o : Option Message). IsMessageWhole p (parts_after old p payload) (record { held = None; whole = o })) (sym read) (whole-after old p new payload whole reads.0 same all join reads.2)
