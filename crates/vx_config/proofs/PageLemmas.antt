-- Bytes put behind others, as far as there is room.
use Rattle.std.proofs.Common.{◌≡◌, ◌≤◌, ℕ, ◌+◌, ◌-◌, List, [], ◌++◌, ◌<◌, length, take, drop, get_or, refl, sym, ap, ◌∙◌, arith, append_assoc, ◌⊎◌, inl, inr}
use Rattle.std.specs.Prelude.{flat_map}
use Rattle.std.proofs.lemmas.Bool.{cases_lt}
use Rattle.std.proofs.lemmas.List.{length-append, length-take, take_all, take_at, drop_at, take-take, take-append-le, append-nil, drop_all, take_more}
use Rattle.std.proofs.lemmas.List.Concat.{flat_map-append}
use Rattle.vx_wire.specs.Numbers.{be_bytes}
use Rattle.vx_wire.specs.Places.{put_at}
use Rattle.vx_wire.proofs.NumberLemmas.{length-be_bytes}
use Rattle.vx_wire.proofs.PlaceLemmas.{take_sum}
use Rattle.vx_config.specs.Forms.{Form}
use Rattle.vx_config.specs.Pages.{room, onto}

-- a cut before a cut
cut-cut : (k : ℕ) (x b : List ℕ) → take k (take k x ++ b) ≡ take k (x ++ b)
cut-cut k x b =
    elim (cases_lt (length x) k) [
      | inl lt ↦ let all : take k x ≡ x = take_all k x (omega arith) in ap (λ (t : List ℕ). take k (t ++ b)) all
      | inr le ↦
          let len : length (take k x) ≡ k = omega (arith, length-take k x) in
          take-append-le k (take k x) b (omega arith) ∙ take-take k k x (omega arith) ∙ sym (take-append-le k x b le)
    ]

-- what is put behind what was put
pub onto-onto : (x a b : List ℕ) → onto (onto x a) b ≡ onto x (a ++ b)
unfolding onto
onto-onto x a b = cut-cut room (x ++ a) b ∙ ap (take room) (append_assoc x a b)

-- what is put first
pub onto-nothing : (text : List ℕ) → length text ≤ room → onto [] text ≡ text
unfolding onto
onto-nothing text short = take_all room text short

pub ruleset joined = (onto-onto, append_assoc)

-- bytes that are put as far as there is room
pub onto-cut : (len count : ℕ) (bytes text : List ℕ) → len ≤ room → length bytes ≡ room → ((count ≡ length text) × (length text ≤ room - len)) ⊎ (count ≡ room - len)
    → onto (take len bytes) text ≡ take len bytes ++ take count text
unfolding onto
onto-cut len count bytes text low whole way =
    let front : List ℕ = take len bytes in
    let front_len : length front ≡ len = omega (arith, length-take len bytes) in
    let sum : room ≡ len + (room - len) = omega arith in
    let cut : take room (front ++ text) ≡ front ++ take (room - len) text =
    ap (λ (n : ℕ). take n (front ++ text)) sum ∙ take_sum len (room - len) (front ++ text) ∙ rw (take_at front text len front_len, drop_at front text len front_len) refl in
    let rest : take (room - len) text ≡ take count text = elim way [
      | inl w ↦ take_all (room - len) text w.1 ∙ sym (take_all count text (omega (arith, w.0)))
      | inr w ↦ ap (λ (n : ℕ). take n text) (sym w)
    ] in
    cut ∙ ap (λ (t : List ℕ). front ++ t) rest

-- the bytes up to those that were put
pub take-put_at : (len k : ℕ) (part bytes : List ℕ) → length part ≡ k → len + k ≤ length bytes → take (len + k) (put_at len part bytes) ≡ take len bytes ++ part
unfolding put_at
take-put_at len k part bytes same fits =
    let rest : List ℕ = drop (len + length part) bytes in
    let front : List ℕ = take len bytes ++ part in
    let n : length front ≡ len + k = omega (arith, length-append (take len bytes) part, length-take len bytes) in
    ap (take (len + k)) (sym (append_assoc (take len bytes) part rest)) ∙ take_at front rest (len + k) n

-- a number written over a whole array
pub put_at-whole : (w n : ℕ) (bytes : List ℕ) → length bytes ≡ w → put_at 0 (be_bytes w n) bytes ≡ be_bytes w n
unfolding put_at
put_at-whole w n bytes len =
    let none : drop (0 + length (be_bytes w n)) bytes ≡ [] = drop_all (0 + length (be_bytes w n)) bytes (omega (arith, length-be_bytes w n)) in
    rw none (append-nil (be_bytes w n))

-- ---- values one after the other

-- the count alone
pub many-first : {A : Type 0} (form : Form A) (start page front : List ℕ) (xs : List A) → page ≡ onto start front → page ≡ onto start (front ++ flat_map form.spell (take 0 xs))
many-first form start page front xs e = e ∙ ap (onto start) (sym (append-nil front))

-- one value more
pub many-more : {A : Type 0} (form : Form A) (start page new front : List ℕ) (xs : List A) (i : ℕ) (d : A) → i < length xs
    → page ≡ onto start (front ++ flat_map form.spell (take i xs)) → new ≡ onto page (form.spell (get_or xs i d)) → new ≡ onto start (front ++ flat_map form.spell (take (i + 1) xs))
many-more form start page new front xs i d lt so_far one =
    let item : List ℕ = form.spell (get_or xs i d) in
    let before : List ℕ = flat_map form.spell (take i xs) in
    let more : flat_map form.spell (take (i + 1) xs) ≡ before ++ item = rw (take_more xs i d lt, flat_map-append) (ap (λ (t : List ℕ). before ++ t) (append-nil item)) in
    one ∙ ap (λ (p : List ℕ). onto p item) so_far ∙ onto-onto start (front ++ before) item ∙ ap (onto start) (append_assoc front before item ∙ ap (λ (t : List ℕ). front ++ t) (sym more))

-- all of them
pub many-all : {A : Type 0} (form : Form A) (start page front : List ℕ) (xs : List A) (i : ℕ) → length xs ≤ i → page ≡ onto start (front ++ flat_map form.spell (take i xs)) → page ≡ onto start (front ++ flat_map form.spell xs)
many-all {A} form start page front xs i le e = e ∙ ap (λ (ys : List A). onto start (front ++ flat_map form.spell ys)) (take_all i xs le)
