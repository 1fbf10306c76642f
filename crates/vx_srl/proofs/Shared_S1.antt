-- What is kept of a log in memory, beside the records that stand on its unit.
use Rattle.std.proofs.Common.{◌≡◌, ℕ, zero, suc, ◌+◌, ◌%◌, List, [], ◌∷◌, ◌++◌, length, take, drop, refl, sym, ◌∙◌, ap, arith, length-append}
use Rattle.std.proofs.Math.Nat.{mod-add-mod}
use Rattle.vx_srlfmt.specs.Kinds.{Body}
use Rattle.vx_srlfmt.specs.declared.record.RecordHead.{RecordHead}
use Rattle.vx_disk.specs.Shelf.{Meaning}
use Rattle.vx_ringlog.specs.Cells.{Act, Write}
use Rattle.vx_ringlog.specs.Records.{Era, era_of, Record}
use Rattle.vx_ringlog.specs.Chain.{block, width, total}
use Rattle.vx_ringlog.specs.Ready.{after, next, last, RecordsFit}
use Rattle.vx_ringlog.specs.Acts.{body_acts}
use Rattle.vx_ringlog.specs.Logs.{State}
use Rattle.vx_srl.specs.Rings.{RingOn, heads_of, kept_heads}
use Rattle.vx_srl.specs.Views.{Log, width_of, widths, place_after, last_incarnation, all_of, end_of, next_of}
use Rattle.vx_srl.specs.declared.kept.Kept.{Kept}

-- one kept record for each that stands, with its header and its width
abbrev pub Same : List Record → List Kept → Type 0
Same [] [] = Unit {0}
Same [] (k ∷ ks) = ⊥
Same (r ∷ rs) [] = ⊥
Same (r ∷ rs) (k ∷ ks) = (r.head ≡ k.head) × (width r ≡ width_of k) × Same rs ks

-- ---- from equal headers

head_is : (a b : RecordHead) (xs ys : List RecordHead) → a ∷ xs ≡ b ∷ ys → a ≡ b
head_is a b xs ys is = cc

tail_is : (a b : RecordHead) (xs ys : List RecordHead) → a ∷ xs ≡ b ∷ ys → xs ≡ ys
tail_is a b xs ys is = cc

no_head : (a : RecordHead) (xs : List RecordHead) → a ∷ xs ≡ [] → ⊥
no_head a xs is = cc

pub same_of : (e : Era) (n prev : ℕ) (rs : List Record) (ks : List Kept) → RecordsFit e n prev rs → heads_of rs ≡ kept_heads ks → Same rs ks
same_of e n prev [] [] fits is = tt
same_of e n prev [] (k ∷ ks) fits is = no_head k.head (kept_heads ks) (sym is)
same_of e n prev (r ∷ rs) [] fits is = no_head r.head (heads_of rs) is
same_of e n prev (r ∷ rs) (k ∷ ks) fits is =
    let same : r.head ≡ k.head = head_is r.head k.head (heads_of rs) (kept_heads ks) is in
    let count : r.head.count ≡ k.head.count = ap (λ (h : RecordHead). h.count) same in (
      same,
      omega (arith, count, fits.2.genuine.count),
      same_of e (suc n) r.incarnation rs ks fits.5 (tail_is r.head k.head (heads_of rs) (kept_heads ks) is),
    )

pub same_heads : (rs : List Record) (ks : List Kept) → Same rs ks → heads_of rs ≡ kept_heads ks
same_heads [] [] same = refl
same_heads [] (k ∷ ks) same = absurd same
same_heads (r ∷ rs) [] same = absurd same
same_heads (r ∷ rs) (k ∷ ks) same = ap (λ (h : RecordHead). h ∷ heads_of rs) same.0 ∙ ap (λ (hs : List RecordHead). k.head ∷ hs) (same_heads rs ks same.2)

-- ---- counts and sums

pub same_length : (rs : List Record) (ks : List Kept) → Same rs ks → length rs ≡ length ks
same_length [] [] same = refl
same_length [] (k ∷ ks) same = absurd same
same_length (r ∷ rs) [] same = absurd same
same_length (r ∷ rs) (k ∷ ks) same = omega (arith, same_length rs ks same.2)

pub same_total : (rs : List Record) (ks : List Kept) → Same rs ks → total rs ≡ widths ks
same_total [] [] same = refl
same_total [] (k ∷ ks) same = absurd same
same_total (r ∷ rs) [] same = absurd same
same_total (r ∷ rs) (k ∷ ks) same = omega (arith, same.1, same_total rs ks same.2)

pub same_next : (n : ℕ) (rs : List Record) (ks : List Kept) → Same rs ks → next n rs ≡ n + length ks
same_next n [] [] same = omega arith
same_next n [] (k ∷ ks) same = absurd same
same_next n (r ∷ rs) [] same = absurd same
same_next n (r ∷ rs) (k ∷ ks) same = omega (arith, same_next (suc n) rs ks same.2)

pub same_last : (floor : ℕ) (rs : List Record) (ks : List Kept) → Same rs ks → last floor rs ≡ last_incarnation floor ks
same_last floor [] [] same = refl
same_last floor [] (k ∷ ks) same = absurd same
same_last floor (r ∷ rs) [] same = absurd same
same_last floor (r ∷ rs) (k ∷ ks) same =
    let is : r.incarnation ≡ k.head.incarnation = ap (λ (h : RecordHead). h.incarnation) same.0 in
    ap (λ (n : ℕ). last n rs) is ∙ same_last k.head.incarnation rs ks same.2

-- ---- places

-- a place is wrapped, or was before
pub wrapped : (ring p q w : ℕ) → p % ring ≡ q → (p + w) % ring ≡ (q + w) % ring
wrapped ring p q w is = sym (mod-add-mod p ring w) ∙ ap (λ (x : ℕ). (x + w) % ring) is

pub same_after : (ring p q : ℕ) (rs : List Record) (ks : List Kept) → p % ring ≡ q → Same rs ks → after p rs % ring ≡ place_after ring q ks
same_after ring p q [] [] is same = is
same_after ring p q [] (k ∷ ks) is same = absurd same
same_after ring p q (r ∷ rs) [] is same = absurd same
same_after ring p q (r ∷ rs) (k ∷ ks) is same =
    same_after ring (p + width r) ((q + width_of k) % ring) rs ks (wrapped ring p q (width r) is ∙ ap (λ (w : ℕ). (q + w) % ring) same.1) same.2

pub place_append : (ring p : ℕ) (ks ls : List Kept) → place_after ring p (ks ++ ls) ≡ place_after ring (place_after ring p ks) ls
place_append ring p [] ls = refl
place_append ring p (k ∷ ks) ls = place_append ring ((p + width_of k) % ring) ks ls

-- the block of a place looks at the wrapped place alone
pub block_wraps : (ring p q : ℕ) → p % ring ≡ q % ring → block ring p ≡ block ring q
block_wraps ring p q is = ap (λ (x : ℕ). 2 + x) is

next_wraps : (ring p q : ℕ) → p % ring ≡ q % ring → suc p % ring ≡ suc q % ring
next_wraps ring p q is =
    let a : suc p ≡ p + 1 = omega arith in
    let b : suc q ≡ q + 1 = omega arith in
    ap (λ (x : ℕ). x % ring) a ∙ sym (mod-add-mod p ring 1) ∙ ap (λ (x : ℕ). (x + 1) % ring) is ∙ mod-add-mod q ring 1 ∙ sym (ap (λ (x : ℕ). x % ring) b)

pub body_wraps : (ring p q : ℕ) (blocks : List (List ℕ)) → p % ring ≡ q % ring → body_acts ring p blocks ≡ body_acts ring q blocks
body_wraps ring p q [] is = refl
body_wraps ring p q (b ∷ bs) is =
    ap (λ (x : ℕ). Write x (Body b) ∷ body_acts ring (suc p) bs) (block_wraps ring p q is)
    ∙ ap (λ (acts : List Act). Write (block ring q) (Body b) ∷ acts) (body_wraps ring (suc p) (suc q) bs (next_wraps ring p q is))

-- ---- parts

pub same_take : (n : ℕ) (rs : List Record) (ks : List Kept) → Same rs ks → Same (take n rs) (take n ks)
same_take zero rs ks same = tt
same_take (suc n) [] [] same = tt
same_take (suc n) [] (k ∷ ks) same = absurd same
same_take (suc n) (r ∷ rs) [] same = absurd same
same_take (suc n) (r ∷ rs) (k ∷ ks) same = (same.0, same.1, same_take n rs ks same.2)

pub same_drop : (n : ℕ) (rs : List Record) (ks : List Kept) → Same rs ks → Same (drop n rs) (drop n ks)
same_drop zero rs ks same = same
same_drop (suc n) [] [] same = tt
same_drop (suc n) [] (k ∷ ks) same = absurd same
same_drop (suc n) (r ∷ rs) [] same = absurd same
same_drop (suc n) (r ∷ rs) (k ∷ ks) same = same_drop n rs ks same.2

pub same_append : (rs ss : List Record) (ks ls : List Kept) → Same rs ks → Same ss ls → Same (rs ++ ss) (ks ++ ls)
same_append [] ss [] ls same more = more
same_append [] ss (k ∷ ks) ls same more = absurd same
same_append (r ∷ rs) ss [] ls same more = absurd same
same_append (r ∷ rs) ss (k ∷ ks) ls same more = (same.0, same.1, same_append rs ss ks ls same.2 more)

pub widths_append : (ks ls : List Kept) → widths (ks ++ ls) ≡ widths ks + widths ls
widths_append [] ls = omega arith
widths_append (k ∷ ks) ls = omega (arith, widths_append ks ls)

pub last_kept_append : (floor : ℕ) (ks ls : List Kept) → last_incarnation floor (ks ++ ls) ≡ last_incarnation (last_incarnation floor ks) ls
last_kept_append floor [] ls = refl
last_kept_append floor (k ∷ ks) ls = last_kept_append k.head.incarnation ks ls

-- ---- a log that stands on the shelf

module _ (l : Log) (s : State) (m : Meaning) (on : RingOn l s m) where
  pub held_same : Same s.held l.held
  held_same = same_of (era_of s.header) s.header.low s.header.floor s.held l.held on.is_log.ready.fits on.describes.held

  pub staged_same : Same s.staged l.staged
  staged_same = same_of (era_of s.header) (next s.header.low s.held) (last s.header.floor s.held) s.staged l.staged on.is_log.ready.staged_fits on.describes.staged

  low_is : s.header.low ≡ l.header.low
  low_is = rw on.describes.header refl

  -- the place behind what is held, and behind all
  pub held_end : after s.base s.held % l.ring ≡ place_after l.ring l.header.place l.held
  held_end = same_after l.ring s.base l.header.place s.held l.held on.describes.place held_same

  pub all_end : after (after s.base s.held) s.staged % l.ring ≡ end_of l
  all_end =
      same_after l.ring (after s.base s.held) (place_after l.ring l.header.place l.held) s.staged l.staged held_end staged_same
      ∙ sym (place_append l.ring l.header.place l.held l.staged)

  -- the number behind what is held, and behind all
  pub held_next : next s.header.low s.held ≡ l.header.low + length l.held
  held_next = omega (arith, same_next s.header.low s.held l.held held_same, low_is)

  pub all_next : next (next s.header.low s.held) s.staged ≡ next_of l
  all_next = omega (arith, same_next (next s.header.low s.held) s.staged l.staged staged_same, held_next, length-append l.held l.staged)

  pub held_total : total s.held ≡ widths l.held
  held_total = same_total s.held l.held held_same

  pub all_total : total s.held + total s.staged ≡ widths (all_of l)
  all_total = omega (arith, held_total, same_total s.staged l.staged staged_same, widths_append l.held l.staged)

  -- the first n of them
  pub first_last : (n : ℕ) → last s.header.floor (take n s.held) ≡ last_incarnation l.header.floor (take n l.held)
  first_last n = ap (λ (f : ℕ). last f (take n s.held)) (rw on.describes.header refl) ∙ same_last l.header.floor (take n s.held) (take n l.held) (same_take n s.held l.held held_same)

  pub first_after : (n : ℕ) → after s.base (take n s.held) % l.ring ≡ place_after l.ring l.header.place (take n l.held)
  first_after n = same_after l.ring s.base l.header.place (take n s.held) (take n l.held) on.describes.place (same_take n s.held l.held held_same)

  pub first_next : (n : ℕ) → next s.header.low (take n s.held) ≡ l.header.low + length (take n l.held)
  first_next n = omega (arith, same_next s.header.low (take n s.held) (take n l.held) (same_take n s.held l.held held_same), low_is)
