-- Parts that are kept in a buffer.
use Rattle.std.proofs.Common.{◌≡◌, ◌≤◌, ◌<◌, ℕ, zero, suc, ◌+◌, ◌*◌, Bool, true, List, [], ◌∷◌, ◌++◌, length, take, drop, set, get_or, replicate, refl, ap, sym, ◌∙◌, arith, Option, Some, None}
use Rattle.std.specs.Prelude.{◌&&◌, unwrap_or}
use Rattle.std.specs.List.{list_all}
use Rattle.std.specs.Option.{is_some}
use Rattle.std.proofs.lemmas.List.{take_at, take_all, take-take, drop_all, take-append-drop, length-drop, drop-take, append-nil}
use Rattle.std.proofs.lemmas.Slice.{drop-append-drop}
use Rattle.vx_wire.specs.Places.{put_at}
use Rattle.vx_packet.specs.Gathering.{Parts, kept_payload, all_parts_came, joined_parts, slot, parts_came, AreFull, whole_length}
use Rattle.vx_packet.proofs.Numbers.{not_both}
use Rattle.std.proofs.lemmas.Bool.{le-ltb}
use Rattle.vx_packet.proofs.RowLemmas.{lt_true}
use Rattle.vx_packet.proofs.PutLemmas.{take-put_at, drop-put_at}

zero-add : (n : ℕ) → 0 + n ≡ n
zero-add n = omega arith

-- a part that is put at the front of the buffer
slot-front : (payload buffer : List ℕ) → length payload ≤ 1024 → take (length payload) (take 1024 (put_at 0 payload buffer)) ≡ payload
unfolding put_at
slot-front payload buffer few =
    take-take (length payload) 1024 (payload ++ drop (0 + length payload) buffer) few ∙ take_at payload (drop (0 + length payload) buffer) (length payload) refl

rest-front : (payload buffer : List ℕ) → length payload ≤ 1024 → drop 1024 (put_at 0 payload buffer) ≡ drop 1024 buffer
unfolding put_at
rest-front payload buffer few = ap (λ (n : ℕ). drop 1024 (payload ++ drop n buffer)) (zero-add (length payload)) ∙ drop-append-drop (length payload) buffer payload 1024 few refl

-- one part more is kept, and the others stay
pub came-put : (lengths : List (Option ℕ)) (i : ℕ) (payload buffer : List ℕ) → length payload ≤ 1024 → 1024 * i + length payload ≤ length buffer
    → parts_came (set lengths i (Some (length payload))) (put_at (1024 * i) payload buffer) ≡ set (parts_came lengths buffer) i (Some payload)
came-put [] i payload buffer few fits = refl
came-put (n ∷ rest) zero payload buffer few fits =
    ap (λ (t : List ℕ). Some t ∷ parts_came rest (drop 1024 (put_at 0 payload buffer))) (slot-front payload buffer few)
    ∙ ap (λ (t : List ℕ). Some payload ∷ parts_came rest t) (rest-front payload buffer few)
came-put (n ∷ rest) (suc i) payload buffer few fits =
    let at : 1024 * suc i ≡ 1024 + 1024 * i = omega arith in
    let front : take 1024 (put_at (1024 + 1024 * i) payload buffer) ≡ take 1024 buffer = take-put_at 1024 (1024 + 1024 * i) payload buffer (omega arith) (omega arith) in
    let behind : drop 1024 (put_at (1024 + 1024 * i) payload buffer) ≡ put_at (1024 * i) payload (drop 1024 buffer) = drop-put_at 1024 (1024 * i) payload buffer (omega arith) in
    ap (λ (k : ℕ). parts_came (n ∷ set rest i (Some (length payload))) (put_at k payload buffer)) at
    ∙ ap (λ (t : List ℕ). slot n t ∷ parts_came (set rest i (Some (length payload))) (drop 1024 (put_at (1024 + 1024 * i) payload buffer))) front
    ∙ ap (λ (t : List ℕ). slot n (take 1024 buffer) ∷ parts_came (set rest i (Some (length payload))) t) behind
    ∙ ap (λ (ps : Parts). slot n (take 1024 buffer) ∷ ps) (came-put rest i payload (drop 1024 buffer) few (omega (arith, length-drop 1024 buffer)))

-- a part without a place in the buffer
pub came-told : (lengths : List (Option ℕ)) (i n : ℕ) (buffer : List ℕ) → length buffer ≤ 1024 * i → parts_came (set lengths i (Some n)) buffer ≡ set (parts_came lengths buffer) i (Some [])
came-told [] i n buffer past = refl
came-told (m ∷ rest) zero n buffer past =
    let none : buffer ≡ [] = drop_all 0 buffer (omega arith) in
    let nothing : take n (take 1024 buffer) ≡ [] = ap (λ (t : List ℕ). take n (take 1024 t)) none ∙ take_all n [] (omega arith) in
    ap (λ (t : List ℕ). Some t ∷ parts_came rest (drop 1024 buffer)) nothing
came-told (m ∷ rest) (suc i) n buffer past =
    ap (λ (ps : Parts). slot m (take 1024 buffer) ∷ ps) (came-told rest i n (drop 1024 buffer) (omega (arith, length-drop 1024 buffer)))

pub came-none : (n : ℕ) (buffer : List ℕ) → parts_came (replicate n None) buffer ≡ replicate n None
came-none zero buffer = refl
came-none (suc n) buffer = ap (λ (ps : Parts). None ∷ ps) (came-none n (drop 1024 buffer))

pub length-came : (lengths : List (Option ℕ)) (buffer : List ℕ) → length (parts_came lengths buffer) ≡ length lengths
length-came [] buffer = refl
length-came (n ∷ rest) buffer = ap suc (length-came rest (drop 1024 buffer))

is_some-slot : (n : Option ℕ) (place : List ℕ) → is_some (slot n place) ≡ is_some n
is_some-slot None place = refl
is_some-slot (Some n) place = refl

pub all_came-came : (lengths : List (Option ℕ)) (buffer : List ℕ) → all_parts_came (parts_came lengths buffer) ≡ list_all is_some lengths
all_came-came [] buffer = refl
all_came-came (n ∷ rest) buffer =
    ap (λ (b : Bool). b && all_parts_came (parts_came rest (drop 1024 buffer))) (is_some-slot n (take 1024 buffer)) ∙ ap (λ (b : Bool). is_some n && b) (all_came-came rest (drop 1024 buffer))

-- lengths stay full
pub AreFull-none : (n : ℕ) → AreFull (replicate n None)
AreFull-none zero = tt
AreFull-none (suc zero) = tt
AreFull-none (suc (suc n)) = (tt, AreFull-none (suc n))

pub AreFull-set : (lengths : List (Option ℕ)) (i n : ℕ) → n ≤ 1024 → (i + 1 < length lengths → n ≡ 1024) → AreFull lengths → AreFull (set lengths i (Some n))
AreFull-set [] i n few whole full = tt
AreFull-set (m ∷ []) zero n few whole full = few
AreFull-set (m ∷ []) (suc i) n few whole full = full
AreFull-set (m ∷ k ∷ rest) zero n few whole full = (whole (omega arith), full.1)
AreFull-set (m ∷ k ∷ rest) (suc zero) n few whole full = (full.0, AreFull-set (k ∷ rest) zero n few (λ h. whole (omega arith)) full.1)
AreFull-set (m ∷ k ∷ rest) (suc (suc i)) n few whole full = (full.0, AreFull-set (k ∷ rest) (suc i) n few (λ h. whole (omega arith)) full.1)

-- the whole is the full parts and the last
pub whole_length-last : (lengths : List (Option ℕ)) (k : ℕ) → k + 1 ≡ length lengths → whole_length lengths ≡ 1024 * k + unwrap_or (get_or lengths k None) 0
whole_length-last [] k count = absurd (omega arith)
whole_length-last (m ∷ []) zero count = omega arith
whole_length-last (m ∷ []) (suc k) count = absurd (omega arith)
whole_length-last (m ∷ l ∷ rest) zero count = absurd (omega arith)
whole_length-last (m ∷ l ∷ rest) (suc k) count = omega (arith, whole_length-last (l ∷ rest) k (omega arith))

-- the first m bytes and then the next n
pub take-sum : (m n : ℕ) (xs : List ℕ) → take m xs ++ take n (drop m xs) ≡ take (m + n) xs
take-sum m n xs = ap (λ (t : List ℕ). take m xs ++ t) (sym (drop-take m n xs)) ∙ ap (λ (t : List ℕ). t ++ drop m (take (m + n) xs)) (sym (take-take m (m + n) xs (omega arith))) ∙ take-append-drop m (take (m + n) xs)

-- where every part has come, the payloads are the front of the buffer
pub joined-came : (lengths : List (Option ℕ)) (buffer : List ℕ) → AreFull lengths → list_all is_some lengths ≡ true → joined_parts (parts_came lengths buffer) ≡ take (whole_length lengths) buffer
joined-came [] buffer full all = refl
joined-came (None ∷ []) buffer full all = absurd (not_both all)
joined-came (Some n ∷ []) buffer full all = append-nil (take n (take 1024 buffer)) ∙ take-take n 1024 buffer full
joined-came (None ∷ m ∷ rest) buffer full all = absurd (not_both all)
joined-came (Some n ∷ m ∷ rest) buffer full all =
    let first : take n (take 1024 buffer) ≡ take 1024 buffer = take-take n 1024 buffer (omega (arith, full.0)) ∙ ap (λ (k : ℕ). take k buffer) full.0 in
    let second : joined_parts (parts_came (m ∷ rest) (drop 1024 buffer)) ≡ take (whole_length (m ∷ rest)) (drop 1024 buffer) = joined-came (m ∷ rest) (drop 1024 buffer) full.1 all in
    ap (λ (t : List ℕ). t ++ joined_parts (parts_came (m ∷ rest) (drop 1024 buffer))) first ∙ ap (λ (t : List ℕ). take 1024 buffer ++ t) second ∙ take-sum 1024 (whole_length (m ∷ rest)) buffer

-- what is kept of a part
pub kept-in : (i : ℕ) (payload : List ℕ) → i < 65 → kept_payload i payload ≡ payload
kept-in i payload lt = rw (lt_true i 65 lt) refl

pub kept-past : (i : ℕ) (payload : List ℕ) → 65 ≤ i → kept_payload i payload ≡ []
kept-past i payload le = rw (le-ltb i 65 le) refl
