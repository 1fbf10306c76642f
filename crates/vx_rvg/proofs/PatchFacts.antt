-- Blocks that wait are put over what was read, and those of a write are added, one after another.
use Rattle.std.proofs.Common.{◌≡◌, ℕ, ◌+◌, ◌-◌, ◌*◌, ◌<◌, ◌≤◌, Bool, true, false, List, [], ◌∷◌, ◌++◌, length, take, drop, Option, Some, None, MatchOption, refl, sym, ap, ◌∙◌, subst, arith, ⊎_elim, append_assoc, length-append}
use Rattle.std.proofs.lemmas.Bool.{cases_eq, cases_lt}
use Rattle.std.proofs.lemmas.List.{drop-take, length-take, length-drop}
use Rattle.std.proofs.lemmas.Slice.{take-put_mid_below, drop-put_mid, between-put_mid}
use borrow.Rule.Slice.PartMut.{put_mid}
use Rattle.vx_model.specs.Content.{blocks_in, block_of}
use Rattle.vx_overlay.specs.declared.entry.Entry.{Entry}
use Rattle.vx_overlay.specs.Pending.{newest, entry_of}
use Rattle.vx_overlay.specs.Writes.{entries_at}
use Rattle.vx_overlay.proofs.WriteLemmas.{entries_at_snoc, entries_at_length}
use Rattle.vx_rvg.specs.Groups.{IsPatched}

-- the first n blocks have what waits over them, and the others are as they were
pub record IsPatchedTo (entries : List Entry) (vol start n : ℕ) (old new : List ℕ) : Type 0 where
  pub size : length new ≡ length old
  pub each : (k : ℕ) → k < n → MatchOption (newest entries vol (start + k)) (block_of new k ≡ block_of old k) (λ bytes. block_of new k ≡ bytes)
  pub rest : (k : ℕ) → n ≤ k → k < blocks_in old → block_of new k ≡ block_of old k

-- ---- one block put over its own

module _ (n w : ℕ) (xs block : List ℕ) (w_is : w ≡ 512) (long : length block ≡ 512) (fits : 512 * n + 512 ≤ length xs) where
  abbrev put : List ℕ
  put = put_mid (512 * n) w xs block

  pub put_size : length put ≡ length xs
  put_size =
      let rest : List ℕ = drop w (drop (512 * n) xs) in
      omega (arith, length-append (take (512 * n) xs) (block ++ rest), length-append block rest, length-take (512 * n) xs, length-drop w (drop (512 * n) xs), length-drop (512 * n) xs, w_is, long, fits)

  pub put_same : block_of put n ≡ block
  put_same =
      let wide : 512 * n + 512 - 512 * n ≡ 512 = omega arith in
      subst (λ (m : ℕ). take m (drop (512 * n) put) ≡ block) wide (between-put_mid (512 * n) w xs block (512 * n + 512) (omega (arith, fits)) (omega (arith, long)))

  put_below : (k : ℕ) → k < n → block_of put k ≡ block_of xs k
  put_below k low =
      sym (drop-take (512 * k) 512 put)
      ∙ ap (λ (l : List ℕ). drop (512 * k) l) (take-put_mid_below (512 * n) w xs block (512 * k + 512) (omega (arith, low)) (omega (arith, fits)))
      ∙ drop-take (512 * k) 512 xs

  put_above : (k : ℕ) → n < k → block_of put k ≡ block_of xs k
  put_above k high = ap (λ (l : List ℕ). take 512 l) (drop-put_mid (512 * n) w xs block (512 * k) (omega (arith, w_is, high)) (omega (arith, fits)) (long ∙ sym w_is))

  pub put_other : (k : ℕ) → (k ≡ n → ⊥) → block_of put k ≡ block_of xs k
  put_other k other = ⊎_elim (λ low. put_below k low) (λ high. put_above k (omega (arith, high, other))) (cases_lt k n)

-- ---- what the overlay answers

pub got : (o : Option (List ℕ)) (there : Bool) (old new : List ℕ) → MatchOption o ((there ≡ false) × (new ≡ old)) (λ bytes. (there ≡ true) × (new ≡ bytes)) → there ≡ true → o ≡ Some new
got (Some bytes) there old new is there_is = ap (λ (b : List ℕ). Some b) (sym is.1)
got None there old new is there_is = let wrong : true ≡ false = sym there_is ∙ is.0 in cc

pub got_none : (o : Option (List ℕ)) (there : Bool) (old new : List ℕ) → MatchOption o ((there ≡ false) × (new ≡ old)) (λ bytes. (there ≡ true) × (new ≡ bytes)) → there ≡ false → o ≡ None
got_none (Some bytes) there old new is none = let wrong : true ≡ false = sym is.0 ∙ none in cc
got_none None there old new is none = refl

-- ---- a step

module _ (es : List Entry) (vol start n : ℕ) (old mid : List ℕ) (before : IsPatchedTo es vol start n old mid) (low : n < blocks_in old) where
  abbrev shown : (new : List ℕ) → ℕ → Type 0
  shown new k = MatchOption (newest es vol (start + k)) (block_of new k ≡ block_of old k) (λ bytes. block_of new k ≡ bytes)

  pub patched_none : newest es vol (start + n) ≡ None → IsPatchedTo es vol start (n + 1) old mid
  patched_none none = record {
    size = before.size;
    each = λ k below.
        ⊎_elim
        (λ (here : k ≡ n). subst (λ (j : ℕ). shown mid j) (sym here)
        (subst (λ (o : Option (List ℕ)). MatchOption o (block_of mid n ≡ block_of old n) (λ bytes. block_of mid n ≡ bytes)) (sym none) (before.rest n (omega arith) low)))
        (λ other. before.each k (omega (arith, below, other)))
        (cases_eq k n);
    rest = λ k high inside. before.rest k (omega (arith, high)) inside;
  }

  pub patched_put : (w : ℕ) (block new : List ℕ) → w ≡ 512 → length block ≡ 512 → newest es vol (start + n) ≡ Some block → new ≡ put_mid (512 * n) w mid block
      → IsPatchedTo es vol start (n + 1) old new
  patched_put w block new w_is long is made = subst (λ (l : List ℕ). IsPatchedTo es vol start (n + 1) old l) (sym made) (record {
    size = put_size n w mid block w_is long fits ∙ before.size;
    each = λ k below.
        ⊎_elim
        (λ (here : k ≡ n). subst (λ (j : ℕ). shown (put n w mid block w_is long fits) j) (sym here)
        (subst (λ (o : Option (List ℕ)). MatchOption o (block_of (put n w mid block w_is long fits) n ≡ block_of old n) (λ bytes. block_of (put n w mid block w_is long fits) n ≡ bytes)) (sym is)
        (put_same n w mid block w_is long fits)))
        (λ other. subst (λ (b : List ℕ). MatchOption (newest es vol (start + k)) (b ≡ block_of old k) (λ bytes. b ≡ bytes)) (sym (put_other n w mid block w_is long fits k other))
        (before.each k (omega (arith, below, other))))
        (cases_eq k n);
    rest = λ k high inside. put_above n w mid block w_is long fits k (omega (arith, high)) ∙ before.rest k (omega (arith, high)) inside;
  })
    where
      fits : 512 * n + 512 ≤ length mid
      fits = omega (arith, low, before.size)

pub patched_all : (es : List Entry) (vol start n : ℕ) (old new : List ℕ) → n ≡ blocks_in old → IsPatchedTo es vol start n old new → IsPatched es vol start old new
patched_all es vol start n old new all is = record { size = is.size; each = λ k low. is.each k (omega (arith, all, low)) }

pub patched_start : (es : List Entry) (vol start : ℕ) (old : List ℕ) → IsPatchedTo es vol start 0 old old
patched_start es vol start old = record { size = refl; each = λ k low. absurd (omega (arith, low)); rest = λ k high inside. refl }

-- ---- one more block of a write behind the others

pub added : (old held new : List Entry) (v b n : ℕ) (bytes block : List ℕ) → held ≡ old ++ entries_at v b n bytes → new ≡ held ++ entry_of v (b + n) block ∷ [] → block ≡ block_of bytes n
    → new ≡ old ++ entries_at v b (n + 1) bytes
added old held new v b n bytes block before made is =
    made ∙ ap (λ (l : List Entry). l ++ entry_of v (b + n) block ∷ []) before
    ∙ append_assoc old (entries_at v b n bytes) (entry_of v (b + n) block ∷ [])
    ∙ ap (λ (x : List ℕ). old ++ (entries_at v b n bytes ++ entry_of v (b + n) x ∷ [])) is
    ∙ ap (λ (l : List Entry). old ++ l) (sym (entries_at_snoc v b n bytes))

pub added_few : (old held : List Entry) (v b n : ℕ) (bytes : List ℕ) → held ≡ old ++ entries_at v b n bytes → length held ≡ length old + n
added_few old held v b n bytes is = ap (λ (l : List Entry). length l) is ∙ length-append old (entries_at v b n bytes) ∙ ap (λ (m : ℕ). length old + m) (entries_at_length v b n bytes)
