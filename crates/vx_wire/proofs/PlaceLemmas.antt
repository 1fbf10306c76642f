-- Bytes put at a place.
use Rattle.std.proofs.Common.{◌≡◌, ℕ, ◌+◌, ◌<◌, ◌≤◌, List, [], ◌∷◌, ◌++◌, length, take, drop, set, refl, sym, ap, ◌∙◌, arith, append_assoc, add-one, add-zero}
use Rattle.std.proofs.lemmas.List.{take-take, drop-take, drop_at, take_at, take-append-drop, length-take, length-drop, length-append, append-nil, drop_all, drop-drop, set_split}
use borrow.Rule.Slice.PartMut.{put_mid, mid_of}
use Rattle.vx_wire.specs.Places.{put_at, cut, StandsAt}

-- a write to the slice of w bytes from place at on
pub put_mid-is : (at k w : ℕ) (part bytes buf : List ℕ) → k ≡ w → length part ≡ w → at + w ≤ length bytes
    → buf ≡ part ++ drop w (mid_of at k bytes) → put_mid at k bytes buf ≡ put_at at part bytes
unfolding put_at
put_mid-is at k w part bytes buf same len fits is =
    let none : drop w (mid_of at k bytes) ≡ [] = drop_all w (mid_of at k bytes) (omega (arith, length-take k (drop at bytes))) in
    rw (is, none, append-nil, same, len, drop-drop w at bytes) refl

-- a write of the whole of that slice
pub put_mid-whole : (at k : ℕ) (part bytes buf : List ℕ) → k ≡ length part → at + length part ≤ length bytes → buf ≡ part → put_mid at k bytes buf ≡ put_at at part bytes
unfolding put_at
put_mid-whole at k part bytes buf same fits is = rw (is, same, drop-drop (length part) at bytes) refl

-- a write of one byte
pub set-is : (at n : ℕ) (bytes : List ℕ) → at < length bytes → set bytes at n ≡ put_at at (n ∷ []) bytes
unfolding put_at
set-is at n bytes fits = rw (set_split bytes at n fits, add-one) refl

-- the second part behind the first
pub put_at-put_at : (at next : ℕ) (a b bytes : List ℕ) → next ≡ at + length a → at ≤ length bytes → put_at next b (put_at at a bytes) ≡ put_at at (a ++ b) bytes
unfolding put_at
put_at-put_at at next a b bytes same fits =
    let front : List ℕ = take at bytes ++ a in
    let rest : List ℕ = drop (at + length a) bytes in
    let len : length front ≡ next = omega (arith, length-append (take at bytes) a, length-take at bytes) in
    let whole : take at bytes ++ (a ++ rest) ≡ front ++ rest = sym (append_assoc (take at bytes) a rest) in
    let behind : drop (next + length b) (front ++ rest) ≡ drop (at + length (a ++ b)) bytes =
    sym (drop-drop (length b) next (front ++ rest)) ∙ ap (drop (length b)) (drop_at front rest next len) ∙ drop-drop (length b) (at + length a) bytes
    ∙ ap (λ (n : ℕ). drop n bytes) (omega (arith, length-append a b)) in
    rw (whole, take_at front rest next len, behind) (append_assoc (take at bytes) a (b ++ drop (at + length (a ++ b)) bytes) ∙ ap (λ (t : List ℕ). take at bytes ++ t) (sym (append_assoc a b (drop (at + length (a ++ b)) bytes))))

pub length-put_at : (at : ℕ) (a bytes : List ℕ) → at + length a ≤ length bytes → length (put_at at a bytes) ≡ length bytes
unfolding put_at
length-put_at at a bytes fits = omega (arith, length-append (take at bytes) (a ++ drop (at + length a) bytes), length-append a (drop (at + length a) bytes), length-take at bytes, length-drop (at + length a) bytes)

pub put_at-nothing : (at : ℕ) (bytes : List ℕ) → bytes ≡ put_at at [] bytes
unfolding put_at
put_at-nothing at bytes = rw add-zero (sym (take-append-drop at bytes))

-- the first m and then the next n
pub take_sum : (m n : ℕ) (xs : List ℕ) → take (m + n) xs ≡ take m xs ++ take n (drop m xs)
take_sum m n xs = sym (take-append-drop m (take (m + n) xs)) ∙ rw (take-take m (m + n) xs (omega arith), drop-take m n xs) refl

-- two parts that stand one behind the other
pub StandsAt-append : (at next : ℕ) (a b bytes : List ℕ) → next ≡ at + length a → (m n : ℕ) → length a ≡ m → length b ≡ n → cut at m bytes ≡ a → cut next n bytes ≡ b → StandsAt at (a ++ b) bytes
StandsAt-append at next a b bytes same m n long wide first second =
    let behind : drop m (drop at bytes) ≡ drop next bytes = drop-drop m at bytes ∙ ap (λ (k : ℕ). drop k bytes) (omega arith) in
    let sum : length (a ++ b) ≡ m + n = omega (arith, length-append a b) in
    rw (sum, take_sum m n (drop at bytes), behind, first, second) refl

-- what is written over the front, and over the whole
pub take-put_at : (n : ℕ) (a bytes : List ℕ) → length a ≡ n → take n (put_at 0 a bytes) ≡ a
unfolding put_at
take-put_at n a bytes len = take_at a (drop (0 + length a) bytes) n len

pub put_at-whole : (a bytes : List ℕ) → length a ≡ length bytes → put_at 0 a bytes ≡ a
unfolding put_at
put_at-whole a bytes len = rw (drop_all (0 + length a) bytes (omega (arith, len))) (append-nil a)
