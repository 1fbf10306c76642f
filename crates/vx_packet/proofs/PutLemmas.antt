-- Bytes put at a place, seen from a later start.
use Rattle.std.proofs.Common.{◌≡◌, ◌≤◌, ℕ, ◌+◌, List, ◌++◌, length, take, drop, ap, sym, ◌∙◌, arith}
use Rattle.std.proofs.lemmas.List.{drop-append-le, take-append-le, take-take, drop-take, drop-drop, length-take}
use Rattle.vx_wire.specs.Places.{put_at}

-- a front that ends before the place
pub take-put_at : (n at : ℕ) (new bytes : List ℕ) → n ≤ at → at ≤ length bytes → take n (put_at at new bytes) ≡ take n bytes
unfolding put_at
take-put_at n at new bytes before fits =
    let within : n ≤ length (take at bytes) = omega (arith, length-take at bytes) in
    take-append-le n (take at bytes) (new ++ drop (at + length new) bytes) within ∙ take-take n at bytes before

-- the rest behind it
pub drop-put_at : (a b : ℕ) (new bytes : List ℕ) → a + b ≤ length bytes → drop a (put_at (a + b) new bytes) ≡ put_at b new (drop a bytes)
unfolding put_at
drop-put_at a b new bytes fits =
    let within : a ≤ length (take (a + b) bytes) = omega (arith, length-take (a + b) bytes) in
    let behind : drop (a + b + length new) bytes ≡ drop (b + length new) (drop a bytes) =
    ap (λ (n : ℕ). drop n bytes) (omega arith) ∙ sym (drop-drop (b + length new) a bytes) in
    drop-append-le a (take (a + b) bytes) (new ++ drop (a + b + length new) bytes) within
    ∙ ap (λ (t : List ℕ). t ++ (new ++ drop (a + b + length new) bytes)) (drop-take a b bytes)
    ∙ ap (λ (t : List ℕ). take b (drop a bytes) ++ (new ++ t)) behind
