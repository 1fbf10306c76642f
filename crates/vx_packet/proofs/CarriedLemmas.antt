-- What was put together is cut into the same packets again.
use Rattle.std.proofs.Common.{◌≡◌, ◌≤◌, ◌<◌, ℕ, zero, suc, ◌+◌, ◌*◌, ◌-◌, true, List, [], ◌∷◌, ◌++◌, length, take, drop, get_or, replicate, refl, ap, sym, subst, ◌∙◌, arith, Option, Some, None, inl, inr, get_or-set_same, get_or-set_other, length-append}
use Rattle.std.specs.Prelude.{◌⊎◌}
use Rattle.std.proofs.lemmas.List.{take_all, take_at, length-set, length-replicate, length-take, length-drop, append-nil, get_or-replicate, get_or_past}
use Rattle.std.proofs.lemmas.Bool.{cases_Bool, cases_eq, cases_lt}
use Rattle.std.proofs.lemmas.Option.{same_Some}
use Rattle.std.proofs.Math.Seq.{drop-append-add}
use Rattle.vx_packet.specs.Assemblies.{HeldParts, Assembled, key_in_part, same_part_key, parts_before, parts_after, TakesPart}
use Rattle.vx_packet.specs.Carried.{IsCarried, MayCarry, CameInPackets, envelope_of}
use Rattle.vx_packet.specs.Gathering.{Parts, kept_payload, all_parts_came, bytes_of, joined_parts}
use Rattle.vx_packet.specs.Messages.{payload_of, count_of_parts, part_count, chunk, IsMessage}
use Rattle.vx_packet.specs.Packets.{payload_in, part_numbered, part_packet, IsPacket}
use Rattle.vx_packet.specs.declared.assembly.Taken.{Taken}
use Rattle.vx_packet.specs.declared.assembly.Taken.TheVariants as taken
use Rattle.vx_packet.specs.declared.key.Key.{Key}
use Rattle.vx_packet.specs.declared.message.Message.{Message}
use Rattle.vx_packet.specs.declared.part.Part.{Part}
use Rattle.vx_packet.proofs.GatherLemmas.{kept-in}
use Rattle.vx_packet.proofs.KeyLemmas.{same_key-is}
use Rattle.vx_packet.proofs.Numbers.{not_both}
use Rattle.vx_packet.proofs.PacketLemmas.{same_parts, packet_of-is}
use Rattle.vx_packet.proofs.TakingLemmas.{payload-few}

none_is : {o : Option HeldParts} {h : HeldParts} → o ≡ None → o ≡ Some h → ⊥
none_is none some = absurd cc

-- the k-th payload
abbrev at : Parts → ℕ → List ℕ
at ps k = bytes_of (get_or ps k None)

-- the first ones are full, so there are so many bytes up to the next
joined-least : (ps : Parts) (c : ℕ) → c < length ps → ((k : ℕ) → k < c → length (at ps k) ≡ 1024) → 1024 * c + length (at ps c) ≤ length (joined_parts ps)
joined-least [] c lt full = absurd (omega arith)
joined-least (o ∷ ps) zero lt full = omega (arith, length-append (bytes_of o) (joined_parts ps))
joined-least (o ∷ ps) (suc c) lt full =
    let first : length (bytes_of o) ≡ 1024 = full 0 (omega arith) in
    omega (arith, length-append (bytes_of o) (joined_parts ps), joined-least ps c (omega arith) (λ k below. full (suc k) (omega arith)))

joined-most : (ps : Parts) → ((k : ℕ) → k < length ps → length (at ps k) ≤ 1024) → length (joined_parts ps) ≤ 1024 * length ps
joined-most [] few = omega arith
joined-most (o ∷ ps) few =
    let first : length (bytes_of o) ≤ 1024 = few 0 (omega arith) in
    omega (arith, length-append (bytes_of o) (joined_parts ps), joined-most ps (λ k below. few (suc k) (omega arith)))

-- each is the part of all of them that it came as
chunk-joined : (ps : Parts) (k : ℕ) → k < length ps → ((j : ℕ) → j + 1 < length ps → length (at ps j) ≡ 1024) → ((j : ℕ) → j < length ps → length (at ps j) ≤ 1024) → chunk k (joined_parts ps) ≡ at ps k
chunk-joined [] k lt full few = absurd (omega arith)
chunk-joined (o ∷ []) zero lt full few = ap (take 1024) (append-nil (bytes_of o)) ∙ take_all 1024 (bytes_of o) (few 0 (omega arith))
chunk-joined (o ∷ []) (suc k) lt full few = absurd (omega arith)
chunk-joined (o ∷ q ∷ ps) zero lt full few = take_at (bytes_of o) (joined_parts (q ∷ ps)) 1024 (full 0 (omega arith))
chunk-joined (o ∷ q ∷ ps) (suc k) lt full few =
    let first : length (bytes_of o) ≡ 1024 = full 0 (omega arith) in
    let start : 1024 * suc k ≡ length (bytes_of o) + 1024 * k = omega arith in
    ap (λ (n : ℕ). take 1024 (drop n (bytes_of o ++ joined_parts (q ∷ ps)))) start ∙ ap (take 1024) (drop-append-add (bytes_of o) (joined_parts (q ∷ ps)) (1024 * k))
    ∙ chunk-joined (q ∷ ps) k (omega arith) (λ j below. full (suc j) (omega arith)) (λ j below. few (suc j) (omega arith))

get-some : (ps : Parts) (k : ℕ) → all_parts_came ps ≡ true → k < length ps → get_or ps k None ≡ Some (at ps k)
get-some [] k all lt = absurd (omega arith)
get-some (None ∷ ps) k all lt = absurd (not_both all)
get-some (Some x ∷ ps) zero all lt = refl
get-some (Some x ∷ ps) (suc k) all lt = get-some ps k all (omega arith)

-- the lengths of payloads that came in packets
record Carries (n : ℕ) (ps : Parts) : Type 0 where
  count : length ps ≡ n
  lengths : (k : ℕ) → k < 65 → MayCarry n k (get_or ps k None)

carried-at : (n k : ℕ) (o : Option (List ℕ)) → MayCarry n k o → o ≡ Some (bytes_of o) → IsCarried n k (bytes_of o)
carried-at n k None may is = absurd cc
carried-at n k (Some x) may is = may

-- where all have come and are few enough they are so many parts again
record IsCutAgain (n : ℕ) (ps : Parts) : Type 0 where
  count : n ≡ part_count (length (joined_parts ps))
  each : (k : ℕ) → k < n → at ps k ≡ chunk k (joined_parts ps)
  few : n ≤ 65

counted : (n len last : ℕ) → 0 < n → 1024 * (n - 1) + last ≤ len → len ≤ 1024 * n → (1 < n → 0 < last) → n ≡ part_count len
counted n len last some least most more =
    elim (cases_lt 1 n) [ inl many ↦ let full : 0 < last = more many in omega (arith, full, least, most, many) | inr one ↦ omega (arith, least, most, some, one) ]

cut-again : (n : ℕ) (ps : Parts) → 0 < n → Carries n ps → all_parts_came ps ≡ true → length (joined_parts ps) ≤ 65544 → IsCutAgain n ps
cut-again n ps some carries all short =
    let is : (k : ℕ) → k < 65 → k < n → IsCarried n k (at ps k) =
    λ (k : ℕ) (small : k < 65) (below : k < n). carried-at n k (get_or ps k None) (carries.lengths k small) (get-some ps k all (omega (arith, carries.count, below))) in
    let few : n ≤ 65 =
    elim (cases_lt 65 n) [
      | inl more ↦ absurd (omega (arith, short, joined-least ps 65 (omega (arith, carries.count, more)) (λ k below. (is k below (omega (arith, more, below))).full (omega (arith, more, below)))))
      | inr le ↦ le
    ] in
    let full : (j : ℕ) → j + 1 < length ps → length (at ps j) ≡ 1024 =
    λ (j : ℕ) (below : j + 1 < length ps). (is j (omega (arith, few, below, carries.count)) (omega (arith, below, carries.count))).full (omega (arith, below, carries.count)) in
    let small : (j : ℕ) → j < length ps → length (at ps j) ≤ 1024 =
    λ (j : ℕ) (below : j < length ps). (is j (omega (arith, few, below, carries.count)) (omega (arith, below, carries.count))).few in
    let last : IsCarried n (n - 1) (at ps (n - 1)) = is (n - 1) (omega (arith, few, some)) (omega (arith, some)) in
    let least : 1024 * (n - 1) + length (at ps (n - 1)) ≤ length (joined_parts ps) =
    joined-least ps (n - 1) (omega (arith, some, carries.count)) (λ k below. full k (omega (arith, below, some, carries.count))) in
    let most : length (joined_parts ps) ≤ 1024 * length ps = joined-most ps small in
    record {
      count = counted n (length (joined_parts ps)) (length (at ps (n - 1))) some least (omega (arith, most, carries.count)) last.some;
      each = λ k below. sym (chunk-joined ps k (omega (arith, below, carries.count)) full small);
      few = few;
    }

-- so many parts as a key says have come in packets
Carries-none : (n : ℕ) → Carries n (replicate n None)
Carries-none n = record {
  count = length-replicate {A = Option (List ℕ)} n None;
  lengths = λ k below. elim (cases_lt k n) [
    | inl lt ↦ subst (MayCarry n k) (sym (get_or-replicate {A = Option (List ℕ)} n k None None lt)) tt
    | inr le ↦ subst (MayCarry n k) (sym (get_or_past (replicate n None) k None (omega (arith, le, length-replicate {A = Option (List ℕ)} n None)))) tt
  ];
}

Carries-before : (o : Option HeldParts) (key : Key) → ((h : HeldParts) → o ≡ Some h → Carries h.key.parts h.parts) → Carries key.parts (parts_before o key)
Carries-before None key held = Carries-none key.parts
Carries-before (Some h) key held = elim (cases_Bool (same_part_key h.key key)) [
  | inl same ↦
      let one : h.key ≡ key = same_key-is h.key key same in
      let now : parts_before (Some h) key ≡ h.parts = rw same refl in
      subst (Carries key.parts) (sym now) (subst (λ (q : Key). Carries q.parts h.parts) one (held h refl))
  | inr unlike ↦
      let now : parts_before (Some h) key ≡ replicate key.parts None = rw unlike refl in
      subst (Carries key.parts) (sym now) (Carries-none key.parts)
]

-- a packet's part
carried-packet : (bytes : List ℕ) (p : Part) → IsPacket bytes p → (length (payload_in p bytes) ≡ p.length) × IsCarried p.parts p.part (payload_in p bytes)
carried-packet bytes p is =
    let long : length (payload_in p bytes) ≡ p.length = omega (arith, length-take p.length (drop p.start bytes), length-drop p.start bytes, is.whole, is.start) in (
      long,
      record {
        full = λ h. long ∙ is.can.length.whole h;
        few = omega (arith, long, is.can.length.few);
        some = λ h. omega (arith, long, is.can.length.some h);
      },
    )

Carries-after : (o : Option HeldParts) (bytes : List ℕ) (p : Part) → IsPacket bytes p → ((h : HeldParts) → o ≡ Some h → Carries h.key.parts h.parts) → Carries p.parts (parts_after o p (payload_in p bytes))
Carries-after o bytes p is held =
    let before : Carries p.parts (parts_before o (key_in_part p)) = Carries-before o (key_in_part p) held in
    let within : p.part < length (parts_before o (key_in_part p)) = omega (arith, before.count, is.can.part) in
    let payload : List ℕ = payload_in p bytes in
    let now : Parts = parts_after o p payload in record {
      count = length-set (parts_before o (key_in_part p)) p.part (Some (kept_payload p.part payload)) ∙ before.count;
      lengths = λ k below. elim (cases_eq k p.part) [
        | inl same ↦
            let here : get_or now k None ≡ Some payload =
            ap (λ (i : ℕ). get_or now i None) same ∙ get_or-set_same (parts_before o (key_in_part p)) p.part (Some (kept_payload p.part payload)) None within
            ∙ ap (λ (t : List ℕ). Some t) (kept-in p.part payload (omega (arith, below, same))) in
            subst (MayCarry p.parts k) (sym here) (subst (λ (i : ℕ). IsCarried p.parts i payload) (sym same) (carried-packet bytes p is).1)
        | inr other ↦
            subst (MayCarry p.parts k) (sym (get_or-set_other (parts_before o (key_in_part p)) p.part k (Some (kept_payload p.part payload)) None other)) (before.lengths k below)
      ];
    }

held-carries : (a : Assembled) → CameInPackets a → (h : HeldParts) → a.held ≡ Some h → Carries h.key.parts h.parts
held-carries a came h is = record { count = came.count h is; lengths = came.lengths h is }

nothing-came : (a : Assembled) → a.held ≡ None → CameInPackets a
nothing-came a none = record { count = λ h is. absurd (none_is none is); lengths = λ h is. absurd (none_is none is) }

carries_held : (p : Part) (ps : Parts) → Carries p.parts ps → (h : HeldParts) → Some (record { key = key_in_part p; parts = ps }) ≡ Some h → Carries h.key.parts h.parts
carries_held p ps now h same =
    let one : record { key = key_in_part p; parts = ps } ≡ h = same_Some {A = HeldParts} (record { key = key_in_part p; parts = ps }) h same in
    subst (λ (q : HeldParts). Carries q.key.parts q.parts) one now

pub came-fresh : (a : Assembled) → a.held ≡ None → CameInPackets a
came-fresh a none = nothing-came a none

pub came-after : (a new : Assembled) (bytes : List ℕ) (p : Part) (t : Taken) → CameInPackets a → IsPacket bytes p → TakesPart a p (payload_in p bytes) t new → CameInPackets new
came-after a new bytes p taken.Whole came is taken = nothing-came new taken.held
came-after a new bytes p taken.Bad came is taken = nothing-came new taken.held
came-after a new bytes p taken.Kept came is taken =
    let now : Carries p.parts (parts_after a.held p (payload_in p bytes)) = Carries-after a.held bytes p is (held-carries a came) in record {
      count = λ h same. (carries_held p (parts_after a.held p (payload_in p bytes)) now h (sym taken.held ∙ same)).count;
      lengths = λ h same. (carries_held p (parts_after a.held p (payload_in p bytes)) now h (sym taken.held ∙ same)).lengths;
    }

-- a message that is whole is cut into the packets that it came in
part-again : (bytes : List ℕ) (p : Part) (m : Message) (joint : List ℕ) → IsPacket bytes p → IsMessage p.kind p.session p.number joint m → p.parts ≡ part_count (length joint) → payload_in p bytes ≡ chunk p.part joint
    → part_numbered (envelope_of p) m p.part ≡ p
unfolding part_numbered
part-again bytes p m joint is message count piece =
    let parts : count_of_parts m ≡ p.parts = same_parts m ∙ ap (λ (t : List ℕ). part_count (length t)) message.spelled.payload_is ∙ sym count in
    let long : length (chunk p.part (payload_of m)) ≡ p.length = ap (λ (t : List ℕ). length (chunk p.part t)) message.spelled.payload_is ∙ ap length (sym piece) ∙ (carried-packet bytes p is).0 in
    rw (message.spelled.kind_is, message.spelled.session_is, message.spelled.number_is, parts, long, ← is.start) refl

pub whole-again : (a new : Assembled) (bytes : List ℕ) (p : Part) (m : Message) → CameInPackets a → IsPacket bytes p → TakesPart a p (payload_in p bytes) taken.Whole new → new.whole ≡ Some m → bytes ≡ part_packet (envelope_of p) m p.part
whole-again a new bytes p m came is whole same =
    let payload : List ℕ = payload_in p bytes in
    let before : Parts = parts_before a.held (key_in_part p) in
    let now : Parts = parts_after a.held p payload in
    let carries : Carries p.parts now = Carries-after a.held bytes p is (held-carries a came) in
    let one : whole.message ≡ m = same_Some whole.message m (sym whole.whole ∙ same) in
    let message : IsMessage p.kind p.session p.number (joined_parts now) m = subst (λ (q : Message). IsMessage p.kind p.session p.number (joined_parts now) q) one whole.is in
    let short : length (joined_parts now) ≤ 65544 = omega (arith, payload-few m message.can, ap length message.spelled.payload_is) in
    let cut : IsCutAgain p.parts now = cut-again p.parts now (omega (arith, is.can.part)) carries whole.all short in
    let within : p.part < length before = omega (arith, carries.count, length-set before p.part (Some (kept_payload p.part payload)), is.can.part) in
    let here : at now p.part ≡ payload =
    ap bytes_of (get_or-set_same before p.part (Some (kept_payload p.part payload)) None within) ∙ kept-in p.part payload (omega (arith, is.can.part, cut.few)) in
    let piece : payload ≡ chunk p.part (joined_parts now) = sym here ∙ cut.each p.part is.can.part in
    let self : part_numbered (envelope_of p) m p.part ≡ p = part-again bytes p m (joined_parts now) is message cut.count piece in
    packet_of-is bytes (envelope_of p) m p.part (subst (IsPacket bytes) (sym self) is)
    (ap (λ (q : Part). payload_in q bytes) self ∙ piece ∙ ap (chunk p.part) (sym message.spelled.payload_is))
