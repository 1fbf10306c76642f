-- The record that stands under a number, and what a read of its blocks shows.
use Rattle.std.proofs.Common.{◌≡◌, ℕ, zero, suc, ◌+◌, ◌-◌, ◌*◌, ◌/◌, ◌%◌, ◌≤◌, Some, None, List, [], ◌∷◌, IsTrue, length, refl, sym, ◌∙◌, ap, subst, arith}
use Rattle.std.proofs.lemmas.Option.{same_Some}
use Rattle.std.specs.Prelude.{slice_get}
use Rattle.vx_wire.specs.Seals.{digest_of}
use Rattle.vx_srlfmt.specs.Kinds.{Kind, Body}
use Rattle.vx_srlfmt.specs.declared.header.Header.{Header}
use Rattle.vx_srlfmt.specs.declared.record.RecordHead.{RecordHead}
use Rattle.vx_disk.specs.Shelf.{Meaning}
use Rattle.vx_ringlog.specs.Cells.{Cells, read}
use Rattle.vx_ringlog.specs.Chain.{block, width}
use Rattle.vx_ringlog.specs.Logs.{State}
use Rattle.vx_ringlog.specs.Ready.{RecordsFit, SureBody, SureAll}
use Rattle.vx_ringlog.specs.Records.{Era, era_of, Record, Genuine, given, with_firsts}
use Rattle.vx_ringlog.proofs.Blocks.{cut_count}
use Rattle.vx_ringlog.proofs.CellLemmas.{may_read}
use Rattle.vx_ringio.specs.Bodies.{BodyIs, all_blocks, given_of}
use Rattle.vx_ringio.specs.Classes.{class_of}
use Rattle.vx_ringio.specs.Reading.{ReadsAs, ShowsBlocks}
use Rattle.vx_ringio.specs.declared.body.Body.TheVariants.{Differs}
use Rattle.vx_ringio.proofs.Following.{body_same, tracks_read}
use Rattle.vx_srl.specs.Calls.{Fetches, update_with}
use Rattle.vx_srl.specs.Rings.{RingOn}
use Rattle.vx_srl.specs.Views.{Log, PlacedFrom, width_of}
use Rattle.vx_srl.specs.declared.kept.Kept.{Kept}
use Rattle.vx_srl.proofs.Shared_S1.{Same, held_same, wrapped}

-- ---- the record of a number

-- this is the kth of these records, and its body stands behind the place that is kept of it
pub record At (ring : ℕ) (u : Cells) (n : ℕ) (rs : List Record) (k : ℕ) (kept : Kept) : Type 0 where
  pub one : Record
  pub there : slice_get rs k ≡ Some one
  pub head : one.head ≡ kept.head
  pub genuine : Genuine one
  pub number : one.head.number ≡ n + k
  pub place : ℕ
  pub wraps : place % ring ≡ kept.place
  pub sure : SureBody ring u (suc place) one.body

pub none_is : (b : Kept) → None ≡ Some b → ⊥
none_is b is = cc

pub found : (ring : ℕ) (u : Cells) (e : Era) (n prev p q : ℕ) (rs : List Record) (ks : List Kept) (k : ℕ) (kept : Kept) → Same rs ks → RecordsFit e n prev rs → SureAll ring u p rs → PlacedFrom ring q ks
    → p % ring ≡ q → slice_get ks k ≡ Some kept → At ring u n rs k kept
found ring u e n prev p q [] [] k kept same fits sure placed wraps is = absurd (none_is kept is)
found ring u e n prev p q [] (x ∷ ks) k kept same fits sure placed wraps is = absurd same
found ring u e n prev p q (r ∷ rs) [] k kept same fits sure placed wraps is = absurd same
found ring u e n prev p q (r ∷ rs) (x ∷ ks) zero kept same fits sure placed wraps is =
    let it : x ≡ kept = same_Some x kept is in
    record {
      one = r;
      there = refl;
      head = same.0 ∙ ap (λ (y : Kept). y.head) it;
      genuine = fits.2.genuine;
      number = omega (arith, fits.0);
      place = p;
      wraps = wraps ∙ sym placed.0 ∙ ap (λ (y : Kept). y.place) it;
      sure = sure.1;
    }
found ring u e n prev p q (r ∷ rs) (x ∷ ks) (suc k) kept same fits sure placed wraps is =
    let more : At ring u (suc n) rs k kept =
    found ring u e (suc n) r.incarnation (p + width r) ((q + width_of x) % ring) rs ks k kept same.2 fits.5 sure.2 placed.1
    (wrapped ring p q (width r) wraps ∙ ap (λ (w : ℕ). (q + w) % ring) same.1) is in
    record {
      one = more.one;
      there = more.there;
      head = more.head;
      genuine = more.genuine;
      number = omega (arith, more.number);
      place = more.place;
      wraps = more.wraps;
      sure = more.sure;
    }

-- ---- its blocks

cons_is : (a b : List ℕ) (as' bs : List (List ℕ)) → a ≡ b → as' ≡ bs → a ∷ as' ≡ b ∷ bs
cons_is a b as' bs one rest = cc

next_place : (ring p q : ℕ) → p % ring ≡ q % ring → suc p % ring ≡ suc q % ring
next_place ring p q is =
    let p_next : suc p ≡ p + 1 = omega arith in
    let both : (p + 1) % ring ≡ (q % ring + 1) % ring = wrapped ring p (q % ring) 1 is in
    let again : (q + 1) % ring ≡ (q % ring + 1) % ring = wrapped ring q (q % ring) 1 refl in
    let last : q + 1 ≡ suc q = omega arith in
    ap (λ (n : ℕ). n % ring) p_next ∙ both ∙ sym again ∙ ap (λ (n : ℕ). n % ring) last

pub body_read : (ring : ℕ) (u : Cells) (p q : ℕ) (bs body : List (List ℕ)) → length bs ≡ length body → p % ring ≡ q % ring → ShowsBlocks ring (read u) q bs → SureBody ring u p body → bs ≡ body
body_read ring u p q [] [] long wraps shows sure = refl
body_read ring u p q [] (x ∷ body) long wraps shows sure = absurd (omega (arith, long))
body_read ring u p q (b ∷ bs) [] long wraps shows sure = absurd (omega (arith, long))
body_read ring u p q (b ∷ bs) (x ∷ body) long wraps shows sure =
    let at : read u (block ring q) ≡ read u (block ring p) = ap (λ (n : ℕ). read u (2 + n)) (sym wraps) in
    let is : class_of ring b ≡ Body x = shows.0 ∙ at ∙ sure.0 (read u (block ring p)) (may_read u (block ring p)) in
    cons_is b x bs body (body_same ring b x is) (body_read ring u (suc p) (suc q) bs body (omega (arith, long)) (next_place ring p q wraps) shows.1 sure.1)

-- ---- what a read of them shows

module _ (l : Log) (k : ℕ) (kept : Kept) (there : slice_get l.held k ≡ Some kept) (placed : PlacedFrom l.ring l.header.place l.held) (m : Meaning) (disk : List ℕ) (size : length disk ≡ 512 * kept.head.count)
    (shows : (c : ℕ → Kind) → ReadsAs l.unit l.ring c m → ShowsBlocks l.ring c (kept.place + 1) (all_blocks disk)) where
  module _ (s : State) (on : RingOn l s m) where
    at : At l.ring s.unit s.header.low s.held k kept
    at = found l.ring s.unit (era_of s.header) s.header.low s.header.floor s.base l.header.place s.held l.held k kept (held_same l s m on) on.is_log.ready.fits on.is_log.ready.sure placed
        on.describes.place there

    long : length (all_blocks disk) ≡ length at.one.body
    long = omega (arith, cut_count (length disk / 512) disk, size, ap (λ (h : RecordHead). h.count) at.head, at.genuine.count)

    wraps : suc at.place % l.ring ≡ (kept.place + 1) % l.ring
    wraps =
        let next : suc at.place ≡ at.place + 1 = omega arith in
        ap (λ (n : ℕ). n % l.ring) next ∙ wrapped l.ring at.place kept.place 1 at.wraps

    module _ (tells : IsTrue m.tells) where
      disk_is : all_blocks disk ≡ at.one.body
      disk_is = body_read l.ring s.unit (suc at.place) (kept.place + 1) (all_blocks disk) at.one.body long wraps (shows (read s.unit) (tracks_read l.unit l.ring s.unit m tells on.tracks)) at.sure

      given_is : given_of kept.head disk ≡ given at.one
      given_is = ap (λ (bs : List (List ℕ)). with_firsts kept.head.firsts bs) disk_is ∙ ap (λ (h : RecordHead). with_firsts h.firsts at.one.body) (sym at.head)

      digest_is : kept.head.digest ≡ digest_of (given_of kept.head disk)
      digest_is = ap (λ (h : RecordHead). h.digest) (sym at.head) ∙ at.genuine.digest ∙ ap (λ (bytes : List ℕ). digest_of bytes) (sym given_is)

      number_is : s.header.low ≡ l.header.low → (n : ℕ) → l.header.low ≤ n → k ≡ n - l.header.low → n ≡ at.one.head.number
      number_is same n low is = omega (arith, at.number, same, low, is)

  -- the digests of a body that stands there are equal
  pub none_differ : (stored computed : List ℕ) → BodyIs kept.head disk (given_of kept.head disk) (Differs stored computed) → (s : State) → RingOn l s m → IsTrue m.tells → ⊥
  none_differ stored computed is s on tells = is.2 (is.0 ∙ digest_is s on tells ∙ sym is.1)

  pub fetches : (n : ℕ) (bytes : List ℕ) → l.header.low ≤ n → k ≡ n - l.header.low → bytes ≡ given_of kept.head disk
      → Fetches l n m (record { line = kept.head.line; number = n; vol = kept.head.vol; block = kept.head.block; bytes = bytes })
  fetches n bytes low is read_is = record {
    each = λ s on tells. (
      (at s on).one,
      subst (λ (i : ℕ). slice_get s.held i ≡ Some (at s on).one) is (at s on).there,
      same_update (at s on).one n bytes (at s on).head (number_is s on tells (ap (λ (h : Header). h.low) on.describes.header) n low is) (read_is ∙ given_is s on tells),
    );
  }
    where
      same_update : (r : Record) (n : ℕ) (bytes : List ℕ) → r.head ≡ kept.head → n ≡ r.head.number → bytes ≡ given r
          → record { line = kept.head.line; number = n; vol = kept.head.vol; block = kept.head.block; bytes = bytes } ≡ update_with r
      same_update r n bytes head number whole =
          ap (λ (xs : List ℕ). record { line = kept.head.line; number = n; vol = kept.head.vol; block = kept.head.block; bytes = xs }) whole
          ∙ ap (λ (i : ℕ). record { line = kept.head.line; number = i; vol = kept.head.vol; block = kept.head.block; bytes = given r }) number
          ∙ ap (λ (h : RecordHead). record { line = h.line; number = r.head.number; vol = h.vol; block = h.block; bytes = given r }) (sym head)
