-- The packets that were sent, under their numbers.
use Rattle.std.proofs.Common.{◌≡◌, ℕ, zero, suc, ◌+◌, ◌-◌, ◌<◌, ◌≤◌, Bool, true, false, List, [], ◌∷◌, length, refl, sym, ap, ◌∙◌, arith}
use Rattle.std.specs.Prelude.{Option, Some, None, slice_get, leb, if◌then◌else◌}
use Rattle.std.proofs.lemmas.Bool.Decides.{nat_tests}
use Rattle.std.proofs.lemmas.Option.{slice_get_past}
use Rattle.vx_model.specs.declared.limits.TheConstants.{MOST_PACKETS}
use Rattle.vx_history.specs.World.{Packet}
use Rattle.vx_history.proofs.Updates.{by_test}
use Rattle.vx_history.specs.Events.{packet_at}

-- the packet of a number
pub packet_found : (ps : List Packet) (number : ℕ) (p : Packet) → 0 < number → length ps < number + MOST_PACKETS → slice_get ps (number - 1) ≡ Some p
    → packet_at ps number ≡ Some p
packet_found ps zero p some new is = absurd (omega arith)
packet_found ps (suc k) p some new is =
    let here : suc k - 1 ≡ k = omega arith in
    let young : leb (suc k + MOST_PACKETS) (length ps) ≡ false = grind (arith, nat_tests) in
    ap (λ (b : Bool). if b then None else slice_get ps k) young
    ∙ ap (λ (i : ℕ). slice_get ps i) (sym here)
    ∙ is

-- a number that is kept is that of a packet
pub packet_kept : (ps : List Packet) (number : ℕ) → 0 < number → number ≤ length ps → length ps < number + MOST_PACKETS → packet_at ps number ≡ None → ⊥
packet_kept ps zero some sent new none = absurd (omega (arith, some))
packet_kept ps (suc k) some sent new none =
    let there = found ps k (omega (arith, sent)) in
    let young : leb (suc k + MOST_PACKETS) (length ps) ≡ false = grind (arith, nat_tests) in
    never (sym there.1 ∙ sym (ap (λ (b : Bool). if b then None else slice_get ps k) young) ∙ none)
  where
    found : (qs : List Packet) (i : ℕ) → i < length qs → (q : Packet) × (slice_get qs i ≡ Some q)
    found [] i h = absurd (omega (arith, h))
    found (q ∷ qs) zero h = (q, refl)
    found (q ∷ qs) (suc i) h = found qs i (omega (arith, h))

    never : {q : Packet} → Some q ≡ None → ⊥
    never e = cc

-- no packet has this number
pub packet_unknown : (ps : List Packet) (number : ℕ) → length ps < number → packet_at ps number ≡ None
packet_unknown ps zero lt = absurd (omega arith)
packet_unknown ps (suc k) lt = by_test (λ (o : Option Packet). o ≡ None) (leb (suc k + MOST_PACKETS) (length ps)) None (slice_get ps k) (λ _. refl) (λ _. slice_get_past ps k (omega arith))

-- the network has lost this number
pub packet_lost : (ps : List Packet) (number : ℕ) → number + MOST_PACKETS ≤ length ps → packet_at ps number ≡ None
packet_lost ps zero old = refl
packet_lost ps (suc k) old =
    let lost : leb (suc k + MOST_PACKETS) (length ps) ≡ true = grind (arith, nat_tests) in
    ap (λ (b : Bool). if b then None else slice_get ps k) lost
