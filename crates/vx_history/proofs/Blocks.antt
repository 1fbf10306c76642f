-- Blocks that are stored, and what is past the ends of volumes.
use Rattle.std.proofs.Common.{◌≡◌, ◌∙◌, ℕ, ◌+◌, ◌≤◌, List, [], ◌∷◌, length, take, refl, ap, sym, subst, arith, Bool, true, false}
use Rattle.std.specs.Prelude.{◌/◌, ◌-◌, ◌*◌, ◌&&◌, eqb, leb, ltb, if◌then◌else◌}
use Rattle.std.specs.List.{AllByRecursion}
use Rattle.std.proofs.lemmas.Bool.Decides.{nat_tests}
use Rattle.std.proofs.lemmas.List.{take-take}
use Rattle.vx_model.specs.Content.{Write, Content, put, fold_writes, is_within, touches, block_of}
use Rattle.vx_history.specs.World.{Regions}
use Rattle.vx_history.specs.Regions.{AtSome, Fuzzy, IsMapped, Near}
use Rattle.vx_history.specs.CopySteps.{IsBeyond, IsWholeBlocks, RegionFuzzy, with_blocks, without_region}
use Rattle.vx_history.proofs.Each.{each_take}
use Rattle.vx_history.proofs.Fuzzies.{put_other}
use Rattle.vx_history.proofs.Marking.{covered_at}
use Rattle.vx_history.proofs.Updates.{and_left, and_right, eqb_equal}

-- what a write makes of a block, by whether it is within and touches it
abbrev made_of : Bool → Bool → List ℕ → List ℕ → List ℕ
made_of within touched new old = if within then (if touched then new else old) else old

-- a block that is equal in both stays so
put_local : (c d : Content) (x : Write) (v b : ℕ) → c.size ≡ d.size → c.block v b ≡ d.block v b → (put c x).block v b ≡ (put d x).block v b
put_local c d x v b e f =
    ap (λ (s : ℕ → ℕ). made_of (leb (x.start + length x.bytes / 512) (s x.volume)) (touches x v b) (block_of x.bytes (b - x.start)) (c.block v b)) e
    ∙ ap (λ (old : List ℕ). made_of (is_within d x) (touches x v b) (block_of x.bytes (b - x.start)) old) f

pub fold_local : (xs : List Write) (c d : Content) (v b : ℕ) → c.size ≡ d.size → c.block v b ≡ d.block v b → (fold_writes c xs).block v b ≡ (fold_writes d xs).block v b
fold_local [] c d v b e f = f
fold_local (x ∷ xs) c d v b e f = fold_local xs (put c x) (put d x) v b e (put_local c d x v b e f)

whole_write : (start bytes size b : ℕ) → 512 * (bytes / 512) ≡ bytes → leb (start + bytes / 512) size ≡ true → leb start b ≡ true → ltb (512 * (b - start)) bytes ≡ true → size ≤ b → ⊥
whole_write start bytes size b w l k m past = grind (arith, nat_tests)

-- a write does not touch what is past its volume's end
put_beyond : (c : Content) (x : Write) (v b : ℕ) → IsWholeBlocks x → c.size v ≤ b → (t u : Bool) → is_within c x ≡ t → touches x v b ≡ u → (put c x).block v b ≡ c.block v b
put_beyond c x v b w past true true t u =
    let here : (leb x.start b && ltb (512 * (b - x.start)) (length x.bytes)) ≡ true = and_right (eqb v x.volume) (leb x.start b && ltb (512 * (b - x.start)) (length x.bytes)) u in
    let e : v ≡ x.volume = eqb_equal v x.volume (and_left (eqb v x.volume) (leb x.start b && ltb (512 * (b - x.start)) (length x.bytes)) u) in
    let beyond : c.size x.volume ≤ b = subst (λ n. c.size n ≤ b) e past in
    absurd (whole_write x.start (length x.bytes) (c.size x.volume) b w t (and_left (leb x.start b) (ltb (512 * (b - x.start)) (length x.bytes)) here)
    (and_right (leb x.start b) (ltb (512 * (b - x.start)) (length x.bytes)) here) beyond)
put_beyond c x v b w past true false t u = put_other c x v b u
put_beyond c x v b w past false u t e = ap (λ z. made_of z (touches x v b) (block_of x.bytes (b - x.start)) (c.block v b)) t

pub fold_beyond : (c : Content) (xs : List Write) → AllByRecursion IsWholeBlocks xs → IsBeyond (fold_writes c xs) c
fold_beyond c [] h v b past = refl
fold_beyond c (x ∷ xs) (w, h) v b past = fold_beyond (put c x) xs h v b past ∙ put_beyond c x v b w past (is_within c x) (touches x v b) refl refl

-- blocks are stored: the base takes the message's, and the start the line's
pub some_blocks : (c s d l : Content) (xs : List Write) (low high : ℕ) (pick : ℕ → ℕ → Bool) (v b : ℕ) → s.size ≡ l.size → (pick v b ≡ true → AtSome d l xs low high v b)
    → (pick v b ≡ false → AtSome c s xs low high v b) → AtSome (with_blocks pick c d) (with_blocks pick s l) xs low high v b
some_blocks c s d l xs low high pick v b e inside outside = by_here (pick v b) refl
  where
    by_here : (t : Bool) → pick v b ≡ t → AtSome (with_blocks pick c d) (with_blocks pick s l) xs low high v b
    by_here true t =
        let p = inside t in (
          p.0,
          p.1,
          p.2,
          ap (λ z. if z then d.block v b else c.block v b) t ∙ p.3
              ∙ fold_local (take p.0 xs) l (with_blocks pick s l) v b (sym e) (sym (ap (λ z. if z then l.block v b else s.block v b) t)),
        )
    by_here false t =
        let p = outside t in (
          p.0,
          p.1,
          p.2,
          ap (λ z. if z then d.block v b else c.block v b) t ∙ p.3
              ∙ fold_local (take p.0 xs) s (with_blocks pick s l) v b refl (sym (ap (λ z. if z then l.block v b else s.block v b) t)),
        )

-- past the ends every moment is right
pub some_beyond : (c s : Content) (xs : List Write) (low high v b : ℕ) → AllByRecursion IsWholeBlocks xs → low ≤ high → IsBeyond c s → s.size v ≤ b → AtSome c s xs low high v b
some_beyond c s xs low high v b whole le beyond past = (low, omega arith, le, beyond v b past ∙ sym (fold_beyond s (take low xs) (each_take IsWholeBlocks low xs whole) v b past))

-- the map without a region of which each block is right at some moment
pub fuzzy_without : (c s : Content) (xs : List Write) (low high : ℕ) (map : Regions) (volume region : ℕ) → AllByRecursion IsWholeBlocks xs → low ≤ high → IsBeyond c s
    → RegionFuzzy c s xs low high volume region → Fuzzy c s xs low high map → Fuzzy c s xs low high (without_region map volume region)
fuzzy_without c s xs low high map volume region whole le beyond inside h v b m =
    by_here (eqb v volume && eqb (b / 64) region) refl m
  where
    by_here : (t : Bool) → (eqb v volume && eqb (b / 64) region) ≡ t → (if t then false else map v (b / 64)) ≡ false → AtSome c s xs low high v b
    by_here false t m = h v b m
    by_here true t m = by_size (ltb b (s.size v)) refl
      where
        three : (p q r : Bool) → (p && q) ≡ true → r ≡ true → (p && (q && r)) ≡ true
        three true true r t u = u
        three true false r t u = absurd (cc)
        three false q r t u = absurd (cc)

        by_size : (u : Bool) → ltb b (s.size v) ≡ u → AtSome c s xs low high v b
        by_size true u = inside v b (three (eqb v volume) (eqb (b / 64) region) (ltb b (s.size v)) t u)
        by_size false u = some_beyond c s xs low high v b whole le beyond (grind (arith, nat_tests))

pub region_within : (d s : Content) (xs : List Write) (low high least most volume region : ℕ) → least ≤ low → high ≤ most → RegionFuzzy d s xs low high volume region
    → RegionFuzzy d s xs least most volume region
region_within d s xs low high least most volume region lo hi f v b i = let p = f v b i in (p.0, omega (arith, p.1), omega (arith, p.2), p.3)

-- blocks are stored that were read at moments from n on, of which the map covers all that came later
pub marked_blocks : (xs : List Write) (n low high : ℕ) (pick : ℕ → ℕ → Bool) (base start d l : Content) (map : Regions) → start.size ≡ l.size → n ≤ low
    → ((v b : ℕ) → pick v b ≡ true → AtSome d l xs low high v b) → IsMapped xs n base start map → low ≤ high → IsMapped xs n (with_blocks pick base d) (with_blocks pick start l) map
marked_blocks xs n low high pick base start d l map e le inside h lh = record {
  near = λ v b m.
      let p = some_blocks base start d l xs low high pick v b e (inside v b)
      (λ _. (low, omega arith, lh, h.near v b m ∙ sym (covered_at map v b m start xs n low le h.covers))) in
      p.3 ∙ covered_at map v b m (with_blocks pick start l) xs n p.0 (omega (arith, p.1)) h.covers;
  covers = h.covers;
}

-- the same of the line's first part
pub some_front : (xs : List Write) (low high k : ℕ) (d l : Content) (v b : ℕ) → high ≤ k → AtSome d l xs low high v b → AtSome d l (take k xs) low high v b
some_front xs low high k d l v b le p = (p.0, p.1, p.2, p.3 ∙ ap (λ (t : List Write). (fold_writes l t).block v b) (sym (take-take p.0 k xs (omega (arith, p.2)))))

-- the start of copying
pub near_fuzzy : (base start : Content) (xs : List Write) (n high : ℕ) (map : Regions) → n ≤ high → Near base start (take n xs) map → Fuzzy base start xs n high map
near_fuzzy base start xs n high map le h v b m = (n, omega arith, le, h v b m)
