-- The calls that write a copy, one after the other.
use Rattle.std.proofs.Common.{◌≡◌, ◌⊎◌, inl, inr, ⊎_elim, ℕ, ◌+◌, ◌<◌, ◌≤◌, Bool, true, false, IsTrue, IsFalse, Some, List, length, take, refl, ap, sym, subst, ◌∙◌, arith}
use Rattle.vx_wire.specs.Seals.{digest_of}
use Rattle.vx_wire.proofs.SealLemmas.{length-digest_of}
use Rattle.vx_disk.specs.Shelf.{Meaning, Lawful, Covers, Written, Nothing, Goes, KeepsAll, Read, piece}
use Rattle.vx_disk.specs.Moves.{Moves, Run}
use Rattle.vx_disk.proofs.Moving.{of_goes, then_goes}
use Rattle.vx_disk.proofs.Runs.{at_rest, covers_one, piece_one, KeepsAll_one, still_left}
use Rattle.vx_copyfmt.specs.Areas.{CanSpellArea, area_block, header_of}
use Rattle.vx_copyfmt.specs.Copies.{Disk, area_a, area_b}
use Rattle.vx_copyfmt.specs.Commits.{Among, IsHeaderBlock, Mixed, exactly, target_of}
use Rattle.vx_copyfmt.specs.declared.area.AreaHeader.{AreaHeader}
use Rattle.vx_copyfmt.proofs.AreaLemmas.{length-area_block}
use Rattle.vx_copyfmt.proofs.Areas.{fit_mixed, kind_mixed, one_tidy}
use Rattle.vx_copyfmt.proofs.Subs.{lower_more, lower_sub, tidy_more}
use Rattle.vx_copyio.specs.Putting.{InImage, IsTarget, LeavesNew, LeavesOldOrNew, OldOrNew, those}
use Rattle.vx_copyio.proofs.Slots.{FillsBlocks, Landed, head_is, landed_new, landed_tidy, new_copy}

-- ---- headers that were read

block_covered : (disk a : ℕ) (bytes : List ℕ) → length bytes ≡ 512 → Covers disk a bytes disk a
block_covered disk a bytes len = covers_one disk a bytes len

-- what a read of one block gave, a crash may leave
read_left : (m : Meaning) (disk a : ℕ) (bytes : List ℕ) → Lawful m → length bytes ≡ 512 → Read m disk a bytes → IsTrue m.tells → m.leaves disk a bytes
read_left m disk a bytes lawful len read tells =
    subst (m.leaves disk a) (piece_one a bytes len) (lawful.shown disk a (piece a bytes a) (read.each tells a (block_covered disk a bytes len)))

pub target_is : (disk : ℕ) (first second : List ℕ) (old mid : Meaning) → Lawful old → Lawful mid → length first ≡ 512 → length second ≡ 512 → Goes Nothing old mid
    → Read old disk area_a first → Read mid disk area_b second → IsTarget disk (target_of (header_of first) (header_of second)) old
target_is disk first second old mid lawful lawful_mid long wide goes one two = record {
  first = first;
  second = second;
  in_a = λ tells. read_left old disk area_a first lawful long one tells;
  in_b = λ tells. still_left old mid goes disk area_b second (read_left mid disk area_b second lawful_mid wide two (subst (λ (t : Bool). IsTrue t) (sym goes.tells) tells));
  is = refl;
}

-- ---- what stays

-- a disk of before
pub as_old : (disk : ℕ) (h : AreaHeader) (body : List ℕ) (m : Meaning) (d : Disk) → Among (m.leaves disk) d → OldOrNew disk h body m d
as_old disk h body m d among = record {
  each = λ counts fit counted. inl (record { disk = d; among = among; label = refl; copy = refl });
  fit = λ counts fit counted. inl (tidy_more (those counts) h.serial (h.serial + 1) (exactly d) (omega arith) (one_tidy (those counts) h.serial (m.leaves disk) d fit among));
}

-- whatever a crash leaves of a disk that did not change
pub as_before : (disk : ℕ) (h : AreaHeader) (body : List ℕ) (old new : Meaning) → ((b : ℕ) (v : List ℕ) → new.leaves disk b v → old.leaves disk b v) → LeavesOldOrNew disk h body old new
as_before disk h body old new sub = record {
  each = λ d among. as_old disk h body old d (λ b. sub b (d b) (among b));
  lower = λ lower. lower_more h.serial (h.serial + 1) (new.leaves disk) (omega arith) (lower_sub (old.leaves disk) (new.leaves disk) sub h.serial lower);
}

-- nothing was written
pub read_moves : (disk : ℕ) (h : AreaHeader) (body : List ℕ) (old new : Meaning) → Goes Nothing old new → Moves (Run disk 1 256) (InImage disk h body old) old new
read_moves disk h body old new goes =
    of_goes (Run disk 1 256) (InImage disk h body old) Nothing old new goes (λ u b v no. absurd no)
    (λ i each. as_old disk h body old (i disk) (λ b. at_rest old disk b (i disk b) (each disk b)))

pub read_leaves : (disk : ℕ) (h : AreaHeader) (body : List ℕ) (old new : Meaning) → Goes Nothing old new → LeavesOldOrNew disk h body old new
read_leaves disk h body old new goes = as_before disk h body old new (λ b v left. still_left old new goes disk b v left)

-- one that tells nothing leaves nothing
tells_of : (m : Meaning) → Lawful m → (u b : ℕ) (v : List ℕ) → m.leaves u b v → IsTrue m.tells
tells_of m lawful u b v left = by_tells m.tells (λ no. lawful.none no u b v left)
  where
    by_tells : (t : Bool) → (IsFalse t → ⊥) → IsTrue t
    by_tells true h = refl
    by_tells false h = absurd (h refl)

-- some disk of before
a_disk : (m : Meaning) → Lawful m → IsTrue m.tells → (disk b : ℕ) → (v : List ℕ) × m.leaves disk b v
a_disk m lawful tells disk b = let found = lawful.some tells disk b in (found.0, lawful.shown disk b found.0 found.1)

module _ (disk area : ℕ) (h : AreaHeader) (body : List ℕ) (can : CanSpellArea h) (fills : FillsBlocks body) (long : h.length ≤ length body) (digest : h.digest ≡ digest_of (take h.length body))
    (old : Meaning) (lawful : Lawful old) (one : IsHeaderBlock area) (target : IsTarget disk area old) where
  abbrev OfBody : ℕ → ℕ → List ℕ → Type 0
  OfBody u b v = Written disk (area + 1) body u b v

  abbrev OfHeader : ℕ → ℕ → List ℕ → Type 0
  OfHeader u b v = Written disk area (area_block h) u b v

  in_body : (u b : ℕ) (v : List ℕ) → OfBody u b v → (area + 1 ≤ b) × (b ≤ area + 127)
  in_body u b v written = (written.covers.first, omega (arith, written.covers.first, written.covers.last, fills.few))

  body_run : (u b : ℕ) (v : List ℕ) → OfBody u b v → Run disk 1 256 u b
  body_run u b v written =
      let in_it = in_body u b v written in
      record { there = written.covers.there; first = omega (arith, in_it.0); last = ⊎_elim (λ is. omega (arith, in_it.1, is)) (λ is. omega (arith, in_it.1, is)) one }

  head_long : length (area_block h) ≡ 512
  head_long = length-area_block h (record { digest = ap length digest ∙ length-digest_of (take h.length body) })

  head_only : (u b : ℕ) (v : List ℕ) → OfHeader u b v → (u ≡ disk) × (b ≡ area)
  head_only u b v written = (written.covers.there, omega (arith, written.covers.first, written.covers.last, head_long))

  head_run : (u b : ℕ) (v : List ℕ) → OfHeader u b v → Run disk 1 256 u b
  head_run u b v written =
      let at = head_only u b v written in
      record { there = at.0; first = ⊎_elim (λ is. omega (arith, at.1, is)) (λ is. omega (arith, at.1, is)) one; last = ⊎_elim (λ is. omega (arith, at.1, is)) (λ is. omega (arith, at.1, is)) one }

  -- no block of the body is the header of an area
  no_other : (k : ℕ) → IsHeaderBlock k → area + 1 ≤ k → k ≤ area + 127 → ⊥
  no_other k is_k low high = ⊎_elim
      (λ (x : k ≡ area_a). ⊎_elim (λ (y : area ≡ area_a). omega (arith, x, y, low)) (λ (y : area ≡ area_b). omega (arith, x, y, low)) one)
      (λ (x : k ≡ area_b). ⊎_elim (λ (y : area ≡ area_a). omega (arith, x, y, high)) (λ (y : area ≡ area_b). omega (arith, x, y, low)) one) is_k

  -- a disk of which only body blocks are other ones
  mixed_old : (d : Disk) → Mixed (old.leaves disk) area d → OldOrNew disk h body old d
  mixed_old d mixed = record {
    each = λ counts fit counted. ⊎_elim (λ from. inl from) (λ torn. inr (inr torn))
        (kind_mixed (those counts) (old.leaves disk) fit.counts (λ b. (a_disk old lawful tells disk b).0) (λ b. (a_disk old lawful tells disk b).1) d
        target.first target.second (target.in_a tells) (target.in_b tells) (subst (λ (k : ℕ). Mixed (old.leaves disk) k d) target.is mixed));
    fit = λ counts fit counted. fit_mixed (those counts) h.serial (old.leaves disk) fit (λ b. (a_disk old lawful tells disk b).0) (λ b. (a_disk old lawful tells disk b).1) d
        target.first target.second (target.in_a tells) (target.in_b tells) (subst (λ (k : ℕ). Mixed (old.leaves disk) k d) target.is mixed);
  }
    where
      first : old.leaves disk 0 (d 0)
      first = ⊎_elim (λ is. is) (λ (in_it : (area + 1 ≤ 0) × (0 ≤ area + 127)). absurd (omega (arith, in_it.0))) (mixed 0)

      tells : IsTrue old.tells
      tells = tells_of old lawful disk 0 (d 0) first

  body_mixed : (m : Meaning) (d : Disk) → ((b : ℕ) → old.leaves disk b (d b) ⊎ OfBody disk b (d b)) → Mixed (old.leaves disk) area d
  body_mixed m d or b = ⊎_elim (λ was. inl was) (λ put. inr (in_body disk b (d b) put)) (or b)

  -- ---- the body is written

  module _ (mid : Meaning) (goes : Goes (Written disk (area + 1) body) old mid) where
    -- both headers are as they were
    head_old : (a : ℕ) (v : List ℕ) → IsHeaderBlock a → mid.leaves disk a v → old.leaves disk a v
    head_old a v is left = ⊎_elim (λ was. was) (λ put. let in_it = in_body disk a v put in absurd (no_other a is in_it.0 in_it.1)) (goes.leaves disk a v left)

    pub body_moves : Moves (Run disk 1 256) (InImage disk h body old) old mid
    body_moves = of_goes (Run disk 1 256) (InImage disk h body old) (Written disk (area + 1) body) old mid goes body_run
        (λ i each. mixed_old (i disk) (body_mixed old (i disk) (λ b. each disk b)))

    pub body_leaves : LeavesOldOrNew disk h body old mid
    body_leaves = record {
      each = λ d among. mixed_old d (body_mixed old d (λ b. goes.leaves disk b (d b) (among b)));
      lower = λ lower a v g is left head. omega (arith, lower a v g is (head_old a v is left) head);
    }

    -- ---- and its header

    module _ (kept : KeepsAll mid disk (area + 1) body) where
      -- each block is as it was behind the body, but the header
      amid : (d : Disk) → ((b : ℕ) → mid.leaves disk b (d b) ⊎ OfHeader disk b (d b)) → OldOrNew disk h body old d
      amid d or = by_head (or area)
        where
          at_mid : (b : ℕ) → (b ≡ area → ⊥) → mid.leaves disk b (d b)
          at_mid b apart = ⊎_elim (λ was. was) (λ put. absurd (apart (head_only disk b (d b) put).1)) (or b)

          out_of : (b : ℕ) → (b ≡ area → ⊥) → ((area + 1 ≤ b) × (b ≤ area + 127) → ⊥) → old.leaves disk b (d b)
          out_of b apart out = ⊎_elim (λ was. was) (λ put. absurd (out (in_body disk b (d b) put))) (goes.leaves disk b (d b) (at_mid b apart))

          other_head : (a : ℕ) → IsHeaderBlock a → (a ≡ area → ⊥) → old.leaves disk a (d a)
          other_head a is apart = out_of a apart (λ in_it. no_other a is in_it.0 in_it.1)

          zero_apart : 0 ≡ area → ⊥
          zero_apart is = ⊎_elim (λ (x : area ≡ area_a). omega (arith, x, is)) (λ (x : area ≡ area_b). omega (arith, x, is)) one

          by_head : mid.leaves disk area (d area) ⊎ OfHeader disk area (d area) → OldOrNew disk h body old d
          by_head (inl was) = mixed_old d (body_mixed old d (λ b. goes.leaves disk b (d b) (each_mid b)))
            where
              each_mid : (b : ℕ) → mid.leaves disk b (d b)
              each_mid b = ⊎_elim (λ is. is) (λ put. subst (λ (k : ℕ). mid.leaves disk k (d k)) (sym (head_only disk b (d b) put).1) was) (or b)
          by_head (inr put) = record {
            each = λ counts fit counted. inr (inl (
                new_copy h body can fills long digest counts counted (old.leaves disk) fit.below area one d (put.value ∙ piece_one area (area_block h) head_long)
                (λ b low high. (kept.each b (record { there = refl; first = low; last = high })).only (d b) (at_mid b (λ is. omega (arith, is, low))))
                other_head (out_of 0 zero_apart (λ in_it. omega (arith, in_it.0)))));
            fit = λ counts fit counted. inl (landed_tidy h body can fills long digest counts counted (old.leaves disk) (exactly d) fit.below area one (record {
              header = λ v is. is ∙ put.value ∙ piece_one area (area_block h) head_long;
              pieces = λ b v low high is. is ∙ (kept.each b (record { there = refl; first = low; last = high })).only (d b) (at_mid b (λ at. omega (arith, at, low)));
              rest = λ b v out is. subst (old.leaves disk b) (sym is)
                  (out_of b (λ at. ⊎_elim (λ low. omega (arith, low, at)) (λ high. omega (arith, high, at)) out) (λ in_it. ⊎_elim (λ low. omega (arith, low, in_it.0)) (λ high. omega (arith, high, in_it.1)) out));
            }));
          }

      module _ (new : Meaning) (last : Goes (Written disk area (area_block h)) mid new) where
        pub header_moves : Moves (Run disk 1 256) (InImage disk h body old) old new
        header_moves = then_goes (Run disk 1 256) (InImage disk h body old) (Written disk area (area_block h)) old mid new body_moves last head_run (λ i each. amid (i disk) (λ b. each disk b))

        pub header_leaves : LeavesOldOrNew disk h body old new
        header_leaves = record {
          each = λ d among. amid d (λ b. last.leaves disk b (d b) (among b));
          lower = λ lower a v g is left head. ⊎_elim
              (λ was. let lt : g.serial < h.serial = lower a v g is (head_old a v is was) head in omega (arith, lt))
              (λ put. let same : h.serial ≡ g.serial = new_serial a v g put head in omega (arith, same)) (last.leaves disk a v left);
        }
          where
            some_serial : {x y : AreaHeader} → Some x ≡ Some y → x.serial ≡ y.serial
            some_serial is = cc

            -- the header that is written is this one
            new_serial : (a : ℕ) (v : List ℕ) (g : AreaHeader) → OfHeader disk a v → header_of v ≡ Some g → h.serial ≡ g.serial
            new_serial a v g put head =
                let at : a ≡ area = (head_only disk a v put).1 in
                let here : v ≡ area_block h = put.value ∙ ap (λ (k : ℕ). piece area (area_block h) k) at ∙ piece_one area (area_block h) head_long in
                some_serial (sym (head_is h body can fills long digest) ∙ ap header_of (sym here) ∙ head)

        pub header_lands : KeepsAll new disk area (area_block h) → Landed area h body (old.leaves disk) (new.leaves disk)
        header_lands stands = record {
          header = λ v left. (KeepsAll_one new disk area (area_block h) head_long stands).only v left;
          pieces = λ b v low high left. (kept.each b (record { there = refl; first = low; last = high })).only v (before b v (λ is. omega (arith, is, low)) left);
          rest = λ b v out left. ⊎_elim (λ was. was) (λ put. absurd (let in_it = in_body disk b v put in ⊎_elim (λ low. omega (arith, low, in_it.0)) (λ high. omega (arith, high, in_it.1)) out))
              (goes.leaves disk b v (before b v (λ is. ⊎_elim (λ low. omega (arith, low, is)) (λ high. omega (arith, high, is)) out) left));
        }
          where
            before : (b : ℕ) (v : List ℕ) → (b ≡ area → ⊥) → new.leaves disk b v → mid.leaves disk b v
            before b v apart left = ⊎_elim (λ was. was) (λ put. absurd (apart (head_only disk b v put).1)) (last.leaves disk b v left)

        pub header_stands : KeepsAll new disk area (area_block h) → LeavesNew disk h body old new
        header_stands stands = record {
          each = λ counts d lower counted among. landed_new h body can fills long digest counts counted (old.leaves disk) (new.leaves disk) lower area one (header_lands stands) d among;
          tidy = λ counts lower counted. landed_tidy h body can fills long digest counts counted (old.leaves disk) (new.leaves disk) lower area one (header_lands stands);
        }
