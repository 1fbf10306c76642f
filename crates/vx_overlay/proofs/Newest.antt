-- The newest bytes in a list to which one is added, and in a list without its oldest.
use Rattle.std.proofs.Common.{IsSome, ◌≡◌, ℕ, List, [], ◌∷◌, ◌++◌, Option, Some, None, refl, ap, ◌∙◌, sym, arith, drop, take, ◌<◌, length, get_or, ◌+◌}
use Rattle.std.proofs.lemmas.Option.{none-some}
use Rattle.std.proofs.lemmas.List.{take_more, take-append-drop}
use Rattle.vx_overlay.specs.declared.entry.Entry.{Entry}
use Rattle.vx_overlay.specs.Pending.{IsNewestEntry, newest, newer_or, bytes_for, entry_of}

pub or-assoc : (x y z : Option (List ℕ)) → newer_or (newer_or x y) z ≡ newer_or x (newer_or y z)
or-assoc (Some x) y z = refl
or-assoc None y z = refl

pub or-none : (x : Option (List ℕ)) → newer_or x None ≡ x
or-none (Some x) = refl
or-none None = refl

-- the newest of two lists is that of the later one, if it has any
pub newest-append : (xs ys : List Entry) (v b : ℕ) → newest (xs ++ ys) v b ≡ newer_or (newest ys v b) (newest xs v b)
newest-append [] ys v b = sym (or-none (newest ys v b))
newest-append (x ∷ xs) ys v b =
    ap (λ (o : Option (List ℕ)). newer_or o (bytes_for x v b)) (newest-append xs ys v b)
    ∙ or-assoc (newest ys v b) (newest xs v b) (bytes_for x v b)

-- one more at the end
pub newest-snoc : (xs : List Entry) (e : Entry) (v b : ℕ) → newest (xs ++ e ∷ []) v b ≡ newer_or (bytes_for e v b) (newest xs v b)
newest-snoc xs e v b = newest-append xs (e ∷ []) v b

-- without the oldest
pub newest-drop : (n : ℕ) (xs : List Entry) (v b : ℕ) (bytes : List ℕ) → newest (drop n xs) v b ≡ Some bytes → newest xs v b ≡ Some bytes
newest-drop n xs v b bytes h =
    ap (λ (l : List Entry). newest l v b) (sym (take-append-drop n xs))
    ∙ newest-append (take n xs) (drop n xs) v b
    ∙ ap (λ (o : Option (List ℕ)). newer_or o (newest (take n xs) v b)) h

-- the first `at` and the next
pub newest-take : (xs : List Entry) (at : ℕ) (d : Entry) (v b : ℕ) → at < length xs
    → newest (take (at + 1) xs) v b ≡ newer_or (bytes_for (get_or xs at d) v b) (newest (take at xs) v b)
newest-take xs at d v b h = ap (λ (l : List Entry). newest l v b) (take_more xs at d h) ∙ newest-snoc (take at xs) (get_or xs at d) v b

-- an entry is of its own block, and of no other
pub bytes-same : (v b : ℕ) (bytes : List ℕ) → bytes_for (entry_of v b bytes) v b ≡ Some bytes
bytes-same v b bytes = grind arith

pub bytes-other : (volume block v b : ℕ) (bytes : List ℕ) → (v ≡ volume → b ≡ block → ⊥) → bytes_for (entry_of volume block bytes) v b ≡ None
bytes-other volume block v b bytes h = grind (arith, h)

pub newest-added : (xs : List Entry) (v b : ℕ) (bytes : List ℕ) → newest (xs ++ entry_of v b bytes ∷ []) v b ≡ Some bytes
newest-added xs v b bytes =
    newest-snoc xs (entry_of v b bytes) v b ∙ ap (λ (o : Option (List ℕ)). newer_or o (newest xs v b)) (bytes-same v b bytes)

pub newest-others : (xs : List Entry) (volume block v b : ℕ) (bytes : List ℕ) → (v ≡ volume → b ≡ block → ⊥)
    → newest (xs ++ entry_of volume block bytes ∷ []) v b ≡ newest xs v b
newest-others xs volume block v b bytes h =
    newest-snoc xs (entry_of volume block bytes) v b ∙ ap (λ (o : Option (List ℕ)). newer_or o (newest xs v b)) (bytes-other volume block v b bytes h)

-- an entry of the block, read from the back
pub bytes-hit : (e : Entry) (v b : ℕ) → e.volume ≡ v → e.block ≡ b → bytes_for e v b ≡ Some e.bytes
bytes-hit e v b p q = grind (arith, p, q)

pub bytes-miss : (e : Entry) (v b : ℕ) → (e.volume ≡ v → e.block ≡ b → ⊥) → bytes_for e v b ≡ None
bytes-miss e v b h = grind (arith, h)

or-is : (x y z : Option (List ℕ)) (bytes : List ℕ) → y ≡ Some bytes → IsSome (newer_or (newer_or x y) z)
or-is (Some x) y z bytes h = refl
or-is None y z bytes h = rw h refl

-- a block of which an entry stands in the list has bytes
pub newest-stands : (xs ys : List Entry) (v b : ℕ) (bytes : List ℕ) → IsSome (newest (xs ++ entry_of v b bytes ∷ ys) v b)
newest-stands xs ys v b bytes =
    let e : newest (xs ++ entry_of v b bytes ∷ ys) v b ≡ newer_or (newer_or (newest ys v b) (bytes_for (entry_of v b bytes) v b)) (newest xs v b) =
    newest-append xs (entry_of v b bytes ∷ ys) v b in
    rw e (or-is (newest ys v b) (bytes_for (entry_of v b bytes) v b) (newest xs v b) bytes (bytes-same v b bytes))

its-bytes : (e : Entry) (v b : ℕ) (bytes : List ℕ) → bytes_for e v b ≡ Some bytes → e ≡ entry_of v b bytes
its-bytes e v b bytes h =
    let p : e.volume ≡ v = grind (arith, h) in
    let q : e.block ≡ b = grind (arith, h) in
    let r : e.bytes ≡ bytes = grind (arith, h) in
    rw (sym p) (rw (sym q) (rw (sym r) refl))

longer : (e : Entry) (rest : List Entry) (v b : ℕ) (bytes : List ℕ) (o : Option (List ℕ)) → newest rest v b ≡ o
    → (newest rest v b ≡ Some bytes → IsNewestEntry rest v b bytes) → newer_or o (bytes_for e v b) ≡ Some bytes → IsNewestEntry (e ∷ rest) v b bytes
longer e rest v b bytes (Some x) is among h =
    let below : IsNewestEntry rest v b bytes = among (is ∙ h) in
    record { before = e ∷ below.before; after = below.after; there = ap (λ (l : List Entry). e ∷ l) below.there; last = below.last }
longer e rest v b bytes None is among h =
    record { before = []; after = rest; there = ap (λ (x : Entry). x ∷ rest) (its-bytes e v b bytes h); last = is }

-- the newest bytes are those of an entry of the list
pub newest-is : (xs : List Entry) (v b : ℕ) (bytes : List ℕ) → newest xs v b ≡ Some bytes → IsNewestEntry xs v b bytes
newest-is [] v b bytes h = absurd (none-some bytes h)
newest-is (e ∷ rest) v b bytes h = longer e rest v b bytes (newest rest v b) refl (newest-is rest v b bytes) h
