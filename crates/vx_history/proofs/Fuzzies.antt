-- Writes block by block, and what they make of contents that are right at some moment.
use Rattle.std.proofs.Common.{◌≡◌, ◌≢◌, ◌∙◌, ◌⊎◌, ℕ, zero, suc, ◌+◌, ◌<◌, ◌≤◌, List, [], ◌∷◌, ◌++◌, length, take, drop, refl, ap, sym, subst, arith, Bool, true, false, inl, inr}
use Rattle.std.specs.Prelude.{◌/◌, ◌-◌, slice_get, Some, None, Option, leb, if◌then◌else◌}
use Rattle.std.proofs.Math.Path.{fun_ext}
use Rattle.std.proofs.lemmas.Bool.Decides.{eqb_tells}
use Rattle.std.proofs.lemmas.List.{take-append-le}
use Rattle.vx_model.proofs.Contents.{fold_append, fold_size}
use Rattle.vx_model.specs.Content.{Write, Content, put, fold_writes, is_within, touches, block_of}
use Rattle.vx_history.specs.World.{Regions}
use Rattle.vx_history.specs.Regions.{AtSome, Fuzzy, IsWithin, marks_block}

pub unmarked : (a b : Bool) → (a ≡ true → b ≡ true) → b ≡ false → a ≡ false
unmarked true b f e = sym (f refl) ∙ e
unmarked false b f e = refl

-- what a write makes of a block, by whether it is within and touches it
abbrev made_of : Bool → Bool → List ℕ → List ℕ → List ℕ
made_of within touched new old = if within then (if touched then new else old) else old

made_local : (t u : Bool) (new p q : List ℕ) → p ≡ q → made_of t u new p ≡ made_of t u new q
made_local t u new p q e = ap (made_of t u new) e

-- a write that does not touch a block leaves it
pub put_other : (c : Content) (x : Write) (v b : ℕ) → touches x v b ≡ false → (put c x).block v b ≡ c.block v b
put_other c x v b h =
    ap (λ t. made_of (is_within c x) t (block_of x.bytes (b - x.start)) (c.block v b)) h ∙ same (is_within c x)
  where
    same : (t : Bool) → made_of t false (block_of x.bytes (b - x.start)) (c.block v b) ≡ c.block v b
    same true = refl
    same false = refl

-- at each block a write either leaves both contents, or makes both the same there
put_either : (c d : Content) (x : Write) (v b : ℕ) → c.size ≡ d.size → ((put c x).block v b ≡ (put d x).block v b) ⊎ (((put c x).block v b ≡ c.block v b) × ((put d x).block v b ≡ d.block v b))
put_either c d x v b e =
    let f : (put c x).block v b ≡ made_of (is_within d x) (touches x v b) (block_of x.bytes (b - x.start)) (c.block v b) = ap (λ (s : ℕ → ℕ). made_of (leb (x.start + length x.bytes / 512) (s x.volume)) (touches x v b) (block_of x.bytes (b - x.start)) (c.block v b)) e in
    elim (either (is_within d x) (touches x v b) (block_of x.bytes (b - x.start)) (c.block v b) (d.block v b)) [ inl p ↦ inl (f ∙ p) | inr p ↦ inr (f ∙ p.0, p.1) ]
  where
    either : (t u : Bool) (new p q : List ℕ) → (made_of t u new p ≡ made_of t u new q) ⊎ ((made_of t u new p ≡ p) × (made_of t u new q ≡ q))
    either true true new p q = inl refl
    either true false new p q = inr (refl, refl)
    either false u new p q = inr (refl, refl)

take_one : (n : ℕ) (xs : List Write) (x : Write) → slice_get xs n ≡ Some x → take (suc n) xs ≡ take n xs ++ x ∷ []
take_one n [] x h = absurd (cc)
take_one zero (y ∷ xs) x h = let e : y ≡ x = cc in ap (λ t. t ∷ []) e
take_one (suc n) (y ∷ xs) x h = ap (λ t. y ∷ t) (take_one n xs x h)

drop_one : (n : ℕ) (xs : List Write) (x : Write) → slice_get xs n ≡ Some x → drop n xs ≡ x ∷ drop (suc n) xs
drop_one n [] x h = absurd (cc)
drop_one zero (y ∷ xs) x h = let e : y ≡ x = cc in ap (λ t. t ∷ xs) e
drop_one (suc n) (y ∷ xs) x h = drop_one n xs x h

pub split : (a b : ℕ) → a ≤ b → (a ≡ b) ⊎ (a < b)
split a b h = elim (eqb_tells a b) [ inl p ↦ inl p.1 | inr p ↦ inr (let ne : a ≢ b = p.1 in omega arith) ]

-- the next write brings every block's moment to at least its own number
pub fuzzy_put : (c s : Content) (xs : List Write) (low high : ℕ) (map : Regions) (x : Write) → c.size ≡ s.size → slice_get xs low ≡ Some x → low < high → Fuzzy c s xs low high map → Fuzzy (put c x) s xs (suc low) high map
fuzzy_put c s xs low high map x e g less h v b m =
    let d : Content = fold_writes s (take low xs) in
    let f : fold_writes s (take (suc low) xs) ≡ put d x = ap (fold_writes s) (take_one low xs x g) ∙ fold_append s (take low xs) (x ∷ []) in
    let now = h v b m in
    elim (put_either c d x v b (e ∙ sym (fold_size s (take low xs)))) [
      | inl p ↦ (suc low, omega arith, omega arith, p ∙ ap (λ t. t.block v b) (sym f))
      | inr p ↦ elim (split low now.0 now.1) [
        | inl q ↦ (suc low, omega arith, omega arith, p.0 ∙ now.3 ∙ ap (λ n. (fold_writes s (take n xs)).block v b) (sym q) ∙ sym p.1 ∙ ap (λ t. t.block v b) (sym f))
        | inr q ↦ (now.0, omega arith, now.2, p.0 ∙ now.3)
      ]
    ]

missing : (n : ℕ) (xs : List Write) → slice_get xs n ≡ None → length xs ≤ n
missing n [] q = omega arith
missing zero (y ∷ xs) q = absurd (cc)
missing (suc n) (y ∷ xs) q = let r : length xs ≤ n = missing n xs q in omega arith

fuzzy_next : (count : ℕ) (c s : Content) (xs : List Write) (low high : ℕ) (map : Regions) → c.size ≡ s.size → low < high → high ≤ length xs → Fuzzy c s xs low high map → ((x : Write) → (put c x).size ≡ s.size → Fuzzy (put c x) s xs (suc low) high map → Fuzzy (fold_writes (put c x) (take count (drop (suc low) xs))) s xs (suc low + count) high map) → (o : Option Write) → slice_get xs low ≡ o → Fuzzy (fold_writes c (take (suc count) (drop low xs))) s xs (suc low + count) high map
fuzzy_next count c s xs low high map e less ends h rest None q = absurd (let r : length xs ≤ low = missing low xs q in omega arith)
fuzzy_next count c s xs low high map e less ends h rest (Some x) q =
    let t : take (suc count) (drop low xs) ≡ x ∷ take count (drop (suc low) xs) = ap (take (suc count)) (drop_one low xs x q) in
    subst (λ ys. Fuzzy (fold_writes c ys) s xs (suc low + count) high map) (sym t) (rest x e (fuzzy_put c s xs low high map x e q less h))

-- numbers low + 1 to low + count, put in order
pub fuzzy_fold : (count : ℕ) (c s : Content) (xs : List Write) (low high : ℕ) (map : Regions) → c.size ≡ s.size → low + count ≤ high → high ≤ length xs → Fuzzy c s xs low high map → Fuzzy (fold_writes c (take count (drop low xs))) s xs (low + count) high map
fuzzy_fold zero c s xs low high map e fits ends h = subst (λ n. Fuzzy c s xs n high map) (let i : low ≡ low + 0 = omega arith in i) h
fuzzy_fold (suc count) c s xs low high map e fits ends h =
    let i : suc low + count ≡ low + suc count = omega arith in
    subst (λ n. Fuzzy (fold_writes c (take (suc count) (drop low xs))) s xs n high map) i
    (fuzzy_next count c s xs low high map e (omega arith) ends h (λ x f g. fuzzy_fold count (put c x) s xs (suc low) high map f (omega arith) ends g) (slice_get xs low) refl)

pub content_equal : (c d : Content) → c.size ≡ d.size → ((v b : ℕ) → c.block v b ≡ d.block v b) → c ≡ d
content_equal c d e f =
    ap (λ n. let x : Content = record { size = n; block = c.block } in x) e ∙ ap (λ m. let x : Content = record { size = d.size; block = m } in x) (fun_ext (λ v. fun_ext (λ b. f v b)))

-- THE END OF A REPLAY: with no region left, and all numbers up to the last moment applied, the content is the line's
pub fuzzy_ends : (c s : Content) (xs : List Write) (n : ℕ) (map : Regions) → c.size ≡ s.size → ((v b : ℕ) → marks_block map v b ≡ false) → Fuzzy c s xs n n map → c ≡ fold_writes s (take n xs)
fuzzy_ends c s xs n map e none h =
    content_equal c (fold_writes s (take n xs)) (e ∙ sym (fold_size s (take n xs)))
    (λ v b. let p = h v b (none v b) in let q : p.0 ≡ n = omega (arith, p.1, p.2) in p.3 ∙ ap (λ k. (fold_writes s (take k xs)).block v b) q)

-- more moments, and a wider map, ask for less
pub fuzzy_longer : (c s : Content) (xs : List Write) (low high least more : ℕ) (map wide : Regions) → least ≤ low → high ≤ more → IsWithin map wide → Fuzzy c s xs low high map → Fuzzy c s xs least more wide
fuzzy_longer c s xs low high least more map wide lo le within h v b m =
    let p = h v b (unmarked (marks_block map v b) (marks_block wide v b) (within v (b / 64)) m) in (p.0, omega (arith, p.1), omega (arith, p.2), p.3)

-- the line grows: numbers up to the old head mean what they meant
pub some_grows : (c s : Content) (xs ys : List Write) (low high v b : ℕ) → high ≤ length xs → AtSome c s xs low high v b → AtSome c s (xs ++ ys) low high v b
some_grows c s xs ys low high v b le p =
    (p.0, p.1, p.2, p.3 ∙ ap (λ t. (fold_writes s t).block v b) (sym (take-append-le p.0 xs ys (omega (arith, p.2)))))
