-- Blocks of writes put over those of a volume, block by block.
use Rattle.std.proofs.Common.{◌≡◌, ◌∙◌, ⊎_elim, ℕ, zero, suc, ◌+◌, ◌-◌, ◌*◌, ◌/◌, ◌<◌, ◌≤◌, Bool, true, false, List, [], ◌∷◌, ◌++◌, length, take, Option, Some, None, refl, sym, ap, subst, arith}
use Rattle.std.specs.Prelude.{if◌then◌else◌, slice_get, leb}
use Rattle.std.proofs.lemmas.Bool.{cases_eq}
use Rattle.std.proofs.lemmas.List.{take_all}
use borrow.Rule.Slice.PartMut.{put_mid}
use Rattle.vx_model.specs.Content.{Content, Write, blocks_in, block_of, block_after, touches, is_within, put, fold_writes}
use Rattle.vx_model.proofs.Contents.{fold_append, folded_size}
use Rattle.vx_rvg.specs.Contents.{ShowsContent}
use Rattle.vx_rvg.proofs.PatchFacts.{put_size, put_same, put_other}
use Rattle.vx_secondary.specs.Overs.{AreWithin, IsPutOver}

-- the first n blocks have the write over them, and the others are as they were
pub record IsPutTo (x : Write) (vol start n : ℕ) (old new : List ℕ) : Type 0 where
  pub size : length new ≡ length old
  pub each : (k : ℕ) → k < n → block_of new k ≡ block_after x vol (start + k) (block_of old k)
  pub rest : (k : ℕ) → n ≤ k → k < blocks_in old → block_of new k ≡ block_of old k

pub put_start : (x : Write) (vol start : ℕ) (old : List ℕ) → IsPutTo x vol start 0 old old
put_start x vol start old = record { size = refl; each = λ k low. absurd (omega (arith, low)); rest = λ k high inside. refl }

pub put_all : (x : Write) (vol start n : ℕ) (old new : List ℕ) → n ≡ blocks_in old → IsPutTo x vol start n old new → IsPutOver x vol start old new
put_all x vol start n old new all to = record { size = to.size; each = λ k low. to.each k (omega (arith, all, low)) }

module _ (x : Write) (vol start n : ℕ) (old mid : List ℕ) (before : IsPutTo x vol start n old mid) (low : n < blocks_in old) where
  pub untouched : touches x vol (start + n) ≡ false → IsPutTo x vol start (n + 1) old mid
  untouched none = record {
    size = before.size;
    each = λ k below.
        ⊎_elim
        (λ (here : k ≡ n). subst (λ (j : ℕ). block_of mid j ≡ block_after x vol (start + j) (block_of old j)) (sym here)
        (before.rest n (omega arith) low ∙ ap (λ (b : Bool). if b then block_of x.bytes (start + n - x.start) else block_of old n) (sym none)))
        (λ other. before.each k (omega (arith, below, other)))
        (cases_eq k n);
    rest = λ k high inside. before.rest k (omega (arith, high)) inside;
  }

  pub touched : (w : ℕ) (block new : List ℕ) → w ≡ 512 → length block ≡ 512 → touches x vol (start + n) ≡ true → block ≡ block_of x.bytes (start + n - x.start) → new ≡ put_mid (512 * n) w mid block
      → IsPutTo x vol start (n + 1) old new
  touched w block new w_is long is there made = subst (λ (l : List ℕ). IsPutTo x vol start (n + 1) old l) (sym made) (record {
    size = put_size n w mid block w_is long fits ∙ before.size;
    each = λ k below.
        ⊎_elim
        (λ (here : k ≡ n). subst (λ (j : ℕ). block_of (put_mid (512 * n) w mid block) j ≡ block_after x vol (start + j) (block_of old j)) (sym here)
        (put_same n w mid block w_is long fits ∙ there ∙ ap (λ (b : Bool). if b then block_of x.bytes (start + n - x.start) else block_of old n) (sym is)))
        (λ other. put_other n w mid block w_is long fits k other ∙ before.each k (omega (arith, below, other)))
        (cases_eq k n);
    rest = λ k high inside. put_other n w mid block w_is long fits k (λ e. omega (arith, e, high)) ∙ before.rest k (omega (arith, high)) inside;
  })
    where
      fits : 512 * n + 512 ≤ length mid
      fits = omega (arith, low, before.size)

-- a content with the write is what is then shown
pub shows_put : (c : Content) (x : Write) (vol start : ℕ) (old new : List ℕ) → is_within c x ≡ true → IsPutOver x vol start old new → ShowsContent c vol start (blocks_in old) old → ShowsContent (put c x) vol start (blocks_in old) new
shows_put c x vol start old new within over shows = record {
  each = λ k low.
      over.each k low ∙ ap (λ (b : List ℕ). block_after x vol (start + k) b) (shows.each k low)
      ∙ ap (λ (b : Bool). if b then block_after x vol (start + k) (c.block vol (start + k)) else c.block vol (start + k)) (sym within);
}

-- ---- several writes

-- the content with the first n of them
pub record ShowsTo (xs : List Write) (n vol start : ℕ) (old new : List ℕ) : Type 0 where
  pub size : length new ≡ length old
  pub shows : (c : Content) → AreWithin c xs → ShowsContent c vol start (blocks_in old) old → ShowsContent (fold_writes c (take n xs)) vol start (blocks_in old) new

pub shows_none : (xs : List Write) (vol start : ℕ) (old : List ℕ) → ShowsTo xs 0 vol start old old
shows_none xs vol start old = record { size = refl; shows = λ c within shows. shows }

take_next : (n : ℕ) (xs : List Write) (x : Write) → slice_get xs n ≡ Some x → take (suc n) xs ≡ take n xs ++ x ∷ []
take_next zero (v ∷ xs) x is = let same : v ≡ x = cc in ap (λ (w : Write). w ∷ []) same
take_next (suc n) (v ∷ xs) x is = ap (λ (ws : List Write). v ∷ ws) (take_next n xs x is)
take_next zero [] x is = cc
take_next (suc n) [] x is = cc

pub shows_next : (xs : List Write) (n vol start : ℕ) (x : Write) (old mid new : List ℕ) → ShowsTo xs n vol start old mid → slice_get xs n ≡ Some x → IsPutOver x vol start mid new → ShowsTo xs (n + 1) vol start old new
shows_next xs n vol start x old mid new before here over = record {
  size = over.size ∙ before.size;
  shows = λ c within shows.
      let d : Content = fold_writes c (take n xs) in
      let inside : is_within d x ≡ true = ap (λ (k : ℕ). leb (x.start + blocks_in x.bytes) k) (folded_size c (take n xs) x.volume) ∙ within n x here in
      let many : blocks_in mid ≡ blocks_in old = ap (λ (k : ℕ). k / 512) before.size in
      let there : ShowsContent d vol start (blocks_in mid) mid = subst (λ (k : ℕ). ShowsContent d vol start k mid) (sym many) (before.shows c within shows) in
      let after : fold_writes c (take (n + 1) xs) ≡ put d x =
      ap (λ (k : ℕ). fold_writes c (take k xs)) (let e : n + 1 ≡ suc n = omega arith in e) ∙ ap (λ (ws : List Write). fold_writes c ws) (take_next n xs x here) ∙ fold_append c (take n xs) (x ∷ []) in
      subst (λ (e : Content). ShowsContent e vol start (blocks_in old) new) (sym after)
      (subst (λ (k : ℕ). ShowsContent (put d x) vol start k new) many (shows_put d x vol start mid new inside over there));
}

pub shows_all : (xs : List Write) (n vol start : ℕ) (old new : List ℕ) → length xs ≤ n → ShowsTo xs n vol start old new → (c : Content) → AreWithin c xs → ShowsContent c vol start (blocks_in old) old → ShowsContent (fold_writes c xs) vol start (blocks_in old) new
shows_all xs n vol start old new all to c within shows = subst (λ (ws : List Write). ShowsContent (fold_writes c ws) vol start (blocks_in old) new) (take_all n xs all) (to.shows c within shows)

-- what the test of a block tells
pub touch_told : (b : Bool) (p q : ℕ) → Some p ≡ (if b then Some q else None) → (b ≡ true) × (p ≡ q)
touch_told true p q is = (refl, let e : p ≡ q = cc in e)
touch_told false p q is = cc

pub touch_none : (b : Bool) (q : ℕ) (o : Option ℕ) → o ≡ (if b then Some q else None) → ((p : ℕ) → o ≡ Some p → ⊥) → b ≡ false
touch_none true q o is none = absurd (none q is)
touch_none false q o is none = refl
