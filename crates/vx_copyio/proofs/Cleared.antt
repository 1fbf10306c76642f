-- Headers that are written over with zeros.
use Rattle.std.proofs.Common.{◌≡◌, inl, inr, ⊎_elim, ℕ, ◌+◌, ◌<◌, Option, Some, None, List, length, refl, ap, sym, subst, ◌∙◌, arith}
use Rattle.std.proofs.lemmas.Bool.{cases_lt}
use Rattle.vx_wire.specs.Fields.{zero_bytes}
use Rattle.vx_disk.specs.Shelf.{Flushed, Goes, Holds, Meaning, Nothing, Or, Written, Wrote, piece}
use Rattle.vx_disk.proofs.Runs.{both_Goes, now_holds, piece_one, same_Goes, still_holds, then_nothing, weaker}
use Rattle.vx_copyfmt.specs.Areas.{header_of}
use Rattle.vx_copyfmt.specs.Commits.{IsHeaderBlock, Tidy}
use Rattle.vx_copyfmt.proofs.AreaLemmas.{header_of-zeros}
use Rattle.vx_copyio.specs.Settling.{AllCleared, HeadersZero, NoHeaders}

-- ---- one disk

module _ (disk : ℕ) (bytes : List ℕ) (is : bytes ≡ zero_bytes 512) (size : length bytes ≡ 512) (old mid new : Meaning) (there : disk < old.units) where
  zero_at : (block : ℕ) → IsHeaderBlock block → (u b : ℕ) (v : List ℕ) → Written disk block bytes u b v → HeadersZero old u b v
  zero_at block header u b v put =
      let here : u ≡ disk = put.covers.there in
      let same : b ≡ block = omega (arith, put.covers.first, put.covers.last, size) in
      record {
        there = subst (λ (k : ℕ). k < old.units) (sym here) there;
        header = subst IsHeaderBlock (sym same) header;
        value = put.value ∙ ap (λ (k : ℕ). piece block bytes k) same ∙ piece_one block bytes size ∙ is;
      }

  pub first_zero : Goes (Written disk 1 bytes) old mid → Goes (HeadersZero old) old mid
  first_zero one = weaker (Written disk 1 bytes) (HeadersZero old) old mid one (λ u b v put. zero_at 1 (inl refl) u b v put)

  pub both_zero : Goes (Written disk 1 bytes) old mid → Goes (Written disk 129 bytes) mid new → Goes (HeadersZero old) old new
  both_zero one two = weaker (Or (HeadersZero old) (Written disk 129 bytes)) (HeadersZero old) old new (both_Goes (HeadersZero old) (Written disk 129 bytes) old mid new (first_zero one) two)
      (λ u b v. ⊎_elim (λ put. put) (λ put. zero_at 129 (inr refl) u b v put))

  -- and the flush
  pub all_zero : (last : Meaning) → Goes (Written disk 1 bytes) old mid → Goes (Written disk 129 bytes) mid new → Goes Nothing new last → Goes (HeadersZero old) old last
  all_zero last one two flush = then_nothing (HeadersZero old) old new last (both_zero one two) flush

  -- other disks are as they were
  pub zero_only : (u b : ℕ) (v : List ℕ) → (u ≡ disk → ⊥) → Goes (Written disk 1 bytes) old mid → mid.leaves u b v → old.leaves u b v
  zero_only u b v out one left = ⊎_elim (λ was. was) (λ (put : Written disk 1 bytes u b v). absurd (out put.covers.there)) (one.leaves u b v left)

  pub zeros_only : (u b : ℕ) (v : List ℕ) → (u ≡ disk → ⊥) → Goes (Written disk 1 bytes) old mid → Goes (Written disk 129 bytes) mid new → new.leaves u b v → old.leaves u b v
  zeros_only u b v out one two left =
      zero_only u b v out one (⊎_elim (λ was. was) (λ (put : Written disk 129 bytes u b v). absurd (out put.covers.there)) (two.leaves u b v left))

  pub flushed_only : (last : Meaning) (u b : ℕ) (v : List ℕ) → (u ≡ disk → ⊥) → Goes (Written disk 1 bytes) old mid → Goes (Written disk 129 bytes) mid new → Goes Nothing new last → last.leaves u b v → old.leaves u b v
  flushed_only last u b v out one two flush left = zeros_only u b v out one two (⊎_elim (λ was. was) (λ none. absurd none) (flush.leaves u b v left))

  pub zero_left : (last : Meaning) → Wrote disk 1 bytes old mid → Wrote disk 129 bytes mid new → Flushed disk new last → NoHeaders disk last
  zero_left last one two flushed = record { none = λ b v header left. by b v header (flushed.each b v left) }
    where
      at_a : Holds new disk 1 bytes
      at_a = still_holds disk 129 bytes size mid new 1 bytes (λ same. omega (arith, same)) two (now_holds disk 1 bytes size old mid one)

      at_b : Holds new disk 129 bytes
      at_b = now_holds disk 129 bytes size mid new two

      by : (b : ℕ) (v : List ℕ) → IsHeaderBlock b → new.reads disk b v → header_of v ≡ None
      by b v (inl at) reads = ap header_of (at_a.only v (subst (λ (k : ℕ). new.reads disk k v) at reads) ∙ is) ∙ header_of-zeros
      by b v (inr at) reads = ap header_of (at_b.only v (subst (λ (k : ℕ). new.reads disk k v) at reads) ∙ is) ∙ header_of-zeros

-- ---- the disks below k

pub record Clearing (k : ℕ) (old new : Meaning) : Type 0 where
  pub goes : Goes (HeadersZero old) old new
  pub cleared : AllCleared k new

pub none_cleared : (m : Meaning) → Clearing 0 m m
none_cleared m = record { goes = same_Goes (HeadersZero m) m; cleared = record { each = λ u lt. absurd (omega (arith, lt)) } }

pub zeros_both : (old mid new : Meaning) → Goes (HeadersZero old) old mid → Goes (HeadersZero mid) mid new → Goes (HeadersZero old) old new
zeros_both old mid new one two =
    weaker (Or (HeadersZero old) (HeadersZero mid)) (HeadersZero old) old new (both_Goes (HeadersZero old) (HeadersZero mid) old mid new one two)
    (λ u b v. ⊎_elim (λ was. was) (λ (put : HeadersZero mid u b v). record { there = subst (λ (n : ℕ). u < n) one.units put.there; header = put.header; value = put.value }))

pub one_cleared : (k : ℕ) (old mid new : Meaning) → Clearing k old mid → Goes (HeadersZero mid) mid new → ((u b : ℕ) (v : List ℕ) → (u ≡ k → ⊥) → new.leaves u b v → mid.leaves u b v) → NoHeaders k new → Clearing (k + 1) old new
one_cleared k old mid new so_far goes only none = record {
  goes = zeros_both old mid new so_far.goes goes;
  cleared = record {
    each = λ u lt. elim (cases_lt u k) [
      | inl below ↦ record { none = λ b v header left. (so_far.cleared.each u below).none b v header (only u b v (λ same. omega (arith, same, below)) left) }
      | inr last ↦ let same : k ≡ u = omega (arith, lt, last) in subst (λ (n : ℕ). NoHeaders n new) same none
    ];
  };
}

-- ---- a disk without headers is ready for a copy of any serial

pub cleared_tidy : {C : Type 0} (reads : ℕ → List ℕ → Option C) (serial u : ℕ) (m : Meaning) → NoHeaders u m → Tidy reads serial (m.leaves u)
cleared_tidy reads serial u m none = record {
  fit = record {
    counts = λ d a h header among top. absurd (not_some h (sym (none.none a (d a) header (among a)) ∙ top.head));
    below = λ a v h header left head. absurd (not_some h (sym (none.none a v header left) ∙ head));
  };
  goes = λ v w x y in_v in_w in_x in_y.
      rw (none.none 1 v (inl refl) in_v, none.none 1 x (inl refl) in_x) refl;
}
  where
    not_some : {A : Type 0} (h : A) → None ≡ Some h → ⊥
    not_some h is = cc
