-- Copies written to one disk after another.
use Rattle.std.proofs.Common.{◌≡◌, ◌⊎◌, inl, inr, ⊎_elim, ℕ, ◌+◌, ◌<◌, ◌≤◌, Bool, true, false, Result, Ok, Err, OnOk, IfErr, List, refl, ap, sym, subst, ◌∙◌, arith}
use Rattle.std.specs.Prelude.{◌&&◌, not, nat_eq, ◌/◌, ◌%◌, ◌^◌}
use Rattle.std.proofs.Math.Nat.{div-eq_of_lt}
use Rattle.std.proofs.Math.Pow.{pow_mono}
use Rattle.std.proofs.lemmas.Bool.{cases_lt}
use Rattle.vx_disk.specs.declared.shelf.ShelfError.{ShelfError}
use Rattle.vx_disk.specs.declared.shelf.ShelfError.TheVariants.{Fault, Down}
use Rattle.vx_disk.specs.Blocks.{bit_at}
use Rattle.vx_disk.specs.Causes.{Cause}
use Rattle.vx_disk.specs.Moves.{Moves, Run}
use Rattle.vx_disk.specs.Shelf.{Meaning}
use Rattle.vx_disk.proofs.Causing.{Rose_before}
use Rattle.vx_disk.proofs.Moving.{goes_on, still, wider}
use Rattle.vx_copyfmt.specs.Copies.{Disk}
use Rattle.vx_copyfmt.specs.declared.area.AreaHeader.{AreaHeader}
use Rattle.vx_copyio.specs.declared.spread.CopyFailed.{CopyFailed}
use Rattle.vx_copyfmt.proofs.Subs.{fit_sub, forged_sub, lower_sub, new_sub, old_sub, tidy_sub, torn_sub}
use Rattle.vx_copyio.proofs.Putting.{as_before, as_old}
use Rattle.vx_copyio.specs.Putting.{AllNew, AreasOf, Copied, CopyStops, FailedOn, InImage, InImages, IsCopyMade, IsMember, LeavesNew, LeavesOldOrNew, LeavesSame, OldOrNew, part_of, those}

-- ---- fewer values

module _ (h : AreaHeader) (body : List ℕ) where
  narrow : (u : ℕ) (old mid : Meaning) (d : Disk) → ((b : ℕ) (v : List ℕ) → mid.leaves u b v → old.leaves u b v) → OldOrNew u h body mid d → OldOrNew u h body old d
  narrow u old mid d sub is = record {
    each = λ counts fit counted. elim (is.each counts (fit_sub (those counts) (old.leaves u) (mid.leaves u) sub h.serial fit) counted) [
      | inl from ↦ inl (old_sub (those counts) (old.leaves u) (mid.leaves u) sub d from)
      | inr (inl from) ↦ inr (inl (new_sub (those counts) (old.leaves u) (mid.leaves u) sub (IsCopyMade h body) d from))
      | inr (inr torn) ↦ inr (inr (torn_sub (those counts) (old.leaves u) (mid.leaves u) sub d torn))
    ];
    fit = λ counts fit counted. elim (is.fit counts (fit_sub (those counts) (old.leaves u) (mid.leaves u) sub h.serial fit) counted) [
      | inl tidy ↦ inl tidy
      | inr forged ↦ inr (forged_sub (old.leaves u) (mid.leaves u) sub d forged)
    ];
  }

  -- what is left of a disk that did not change since, and before
  leaves_then : (u : ℕ) (old mid new : Meaning) → ((b : ℕ) (v : List ℕ) → new.leaves u b v → mid.leaves u b v) → LeavesOldOrNew u h body old mid → LeavesOldOrNew u h body old new
  leaves_then u old mid new sub was = record {
    each = λ d among. was.each d (λ b. sub b (d b) (among b));
    lower = λ lower. lower_sub (mid.leaves u) (new.leaves u) sub (h.serial + 1) (was.lower lower);
  }

  leaves_after : (u : ℕ) (old mid new : Meaning) → ((b : ℕ) (v : List ℕ) → mid.leaves u b v → old.leaves u b v) → LeavesOldOrNew u h body mid new → LeavesOldOrNew u h body old new
  leaves_after u old mid new sub now = record {
    each = λ d among. narrow u old mid d sub (now.each d among);
    lower = λ lower. now.lower (lower_sub (old.leaves u) (mid.leaves u) sub h.serial lower);
  }

  -- one with the new copy
  pub new_then : (u : ℕ) (old mid new : Meaning) → ((b : ℕ) (v : List ℕ) → new.leaves u b v → mid.leaves u b v) → LeavesNew u h body old mid → LeavesNew u h body old new
  new_then u old mid new sub was = record {
    each = λ counts d lower counted among. was.each counts d lower counted (λ b. sub b (d b) (among b));
    tidy = λ counts lower counted. tidy_sub (those counts) (mid.leaves u) (new.leaves u) sub (h.serial + 1) (was.tidy counts lower counted);
  }

  pub new_after : (u : ℕ) (old mid new : Meaning) → ((b : ℕ) (v : List ℕ) → mid.leaves u b v → old.leaves u b v) → LeavesNew u h body mid new → LeavesNew u h body old new
  new_after u old mid new sub now = record {
    each = λ counts d lower counted among. new_sub (those counts) (old.leaves u) (mid.leaves u) sub (IsCopyMade h body) d
        (now.each counts d (lower_sub (old.leaves u) (mid.leaves u) sub h.serial lower) counted among);
    tidy = λ counts lower counted. now.tidy counts (lower_sub (old.leaves u) (mid.leaves u) sub h.serial lower) counted;
  }

  module _ (these : ℕ → Bool) where
    below_or : (u k : ℕ) → u < k + 1 → (u < k) ⊎ (u ≡ k)
    below_or u k lt = elim (cases_lt u k) [ inl below ↦ inl below | inr le ↦ inr (omega (arith, lt, le)) ]

    -- a disk that is not one of these is as it was
    out_left : (old new : Meaning) (k u : ℕ) → Copied (IsMember these k) h body old new → k ≤ u → (b : ℕ) (v : List ℕ) → new.leaves u b v → old.leaves u b v
    out_left old new k u copied le b v left = ⊎_elim (λ was. was) (λ (mine : AreasOf (IsMember these k) u b). absurd (omega (arith, le, mine.on.below))) (copied.moves.leaves u b v left)

    pub none_copied : (m : Meaning) → Copied (IsMember these 0) h body m m
    none_copied m = record { moves = still (AreasOf (IsMember these 0)) (InImages (IsMember these 0) h body m) m; leaves = λ u is. absurd (omega (arith, is.below)) }

    pub none_new : (m : Meaning) → AllNew (IsMember these 0) h body m m
    none_new m = record { each = λ u is. absurd (omega (arith, is.below)) }

    more_moves : (old new : Meaning) (k n : ℕ) → k ≤ n → Copied (IsMember these k) h body old new → Moves (AreasOf (IsMember these n)) (InImages (IsMember these n) h body old) old new
    more_moves old new k n le copied =
        wider (AreasOf (IsMember these k)) (AreasOf (IsMember these n)) (InImages (IsMember these k) h body old) (InImages (IsMember these n) h body old) old new copied.moves
        (λ u b mine. record { on = record { below = omega (arith, mine.on.below, le); is = mine.on.is }; first = mine.first; last = mine.last })
        (λ i beside seen. record {
          each = λ u is. elim (cases_lt u k) [
            | inl below ↦ seen.each u (record { below = below; is = is.is })
            | inr above ↦ as_old u h body old (i u) (λ b. ⊎_elim (λ was. was) (λ (mine : AreasOf (IsMember these k) u b). absurd (omega (arith, above, mine.on.below))) (beside u b))
          ];
        })

    -- of more disks the same may be said
    pub reaches : (old new : Meaning) (k n : ℕ) → k ≤ n → Copied (IsMember these k) h body old new → Copied (IsMember these n) h body old new
    reaches old new k n le copied = record {
      moves = more_moves old new k n le copied;
      leaves = λ u is. elim (cases_lt u k) [
        | inl below ↦ copied.leaves u (record { below = below; is = is.is })
        | inr above ↦ as_before u h body old new (out_left old new k u copied above)
      ];
    }

    pub skips_new : (old new : Meaning) (k : ℕ) → these k ≡ false → AllNew (IsMember these k) h body old new → AllNew (IsMember these (k + 1)) h body old new
    skips_new old new k out all = record {
      each = λ u is. elim (below_or u k is.below) [
        | inl below ↦ all.each u (record { below = below; is = is.is })
        | inr same ↦ let clash : false ≡ true = sym out ∙ subst (λ (n : ℕ). these n ≡ true) same is.is in absurd cc
      ];
    }

    -- ---- one disk more

    module _ (old mid new : Meaning) (k : ℕ) (bit : these k ≡ true) (copied : Copied (IsMember these k) h body old mid) (moves : Moves (Run k 1 256) (InImage k h body mid) mid new) where
      before : (b : ℕ) (v : List ℕ) → mid.leaves k b v → old.leaves k b v
      before b v left = out_left old mid k k copied (omega arith) b v left

      beside_left : (u : ℕ) → u < k → (b : ℕ) (v : List ℕ) → new.leaves u b v → mid.leaves u b v
      beside_left u lt b v left = ⊎_elim (λ was. was) (λ (mine : Run k 1 256 u b). absurd (omega (arith, lt, mine.there))) (moves.leaves u b v left)

      pub one_copied : LeavesOldOrNew k h body mid new → Copied (IsMember these (k + 1)) h body old new
      one_copied leaves = record {
        moves = goes_on (AreasOf (IsMember these (k + 1))) (Run k 1 256) (InImages (IsMember these (k + 1)) h body old) (InImage k h body mid) old mid new (more_moves old mid k (k + 1) (omega arith) copied) moves
            (λ u b run. record { on = record { below = omega (arith, run.there); is = subst (λ (n : ℕ). these n ≡ true) (sym run.there) bit }; first = run.first; last = omega (arith, run.last) })
            (λ i beside seen. record {
              each = λ u is. elim (below_or u k is.below) [
                | inl below ↦ (copied.leaves u (record { below = below; is = is.is })).each (i u) (λ b. ⊎_elim (λ was. was) (λ (mine : Run k 1 256 u b). absurd (omega (arith, below, mine.there))) (beside u b))
                | inr same ↦ subst (λ (n : ℕ). OldOrNew n h body old (i n)) (sym same) (narrow k old mid (i k) before seen)
              ];
            });
        leaves = λ u is. elim (below_or u k is.below) [
          | inl below ↦ leaves_then u old mid new (beside_left u below) (copied.leaves u (record { below = below; is = is.is }))
          | inr same ↦ subst (λ (n : ℕ). LeavesOldOrNew n h body old new) (sym same) (leaves_after k old mid new before leaves)
        ];
      }

      pub one_new : AllNew (IsMember these k) h body old mid → LeavesNew k h body mid new → AllNew (IsMember these (k + 1)) h body old new
      one_new all stands = record {
        each = λ u is. elim (below_or u k is.below) [
          | inl below ↦ new_then u old mid new (beside_left u below) (all.each u (record { below = below; is = is.is }))
          | inr same ↦ subst (λ (n : ℕ). LeavesNew n h body old new) (sym same) (new_after k old mid new before stands)
        ];
      }

-- ---- why a copy was not written

pub on_err : {T E : Type 0} (r : Result T E) (P Q : E → Type 0) → ((e : E) → P e → Q e) → IfErr r P → IfErr r Q
on_err (Ok x) P Q then p = p
on_err (Err e) P Q then p = then e p

-- what failed after some calls
pub failed_from : (old mid new : Meaning) (u : ℕ) (e : ShelfError) → ((d : ℕ) → old.faults d ≤ mid.faults d) → ((d : ℕ) → old.disk_faults d ≤ mid.disk_faults d) → FailedOn mid new u e → FailedOn old new u e
failed_from old mid new u (Fault disk) units disks (one, two, up) = (Rose_before _ _ _ (units u) one, Rose_before _ _ _ (disks disk) two, up)
failed_from old mid new u Down units disks down = down

pub failed_here : (old new : Meaning) (u : ℕ) (e : ShelfError) → Cause {T = Unit {0}} old new u (Err e) → FailedOn old new u e
failed_here old new u (Fault disk) (faulted, up) = (faulted.count, faulted.disk_count, up.after)
failed_here old new u Down down = down

-- ---- what is on the other disks where a copy was not written

-- a disk that did not change, and then did not change
pub same_then : (u : ℕ) (old mid new : Meaning) → LeavesSame u old mid → LeavesSame u mid new → LeavesSame u old new
same_then u old mid new one two = record { each = λ b v left. one.each b v (two.each b v left) }

module _ (h : AreaHeader) (body : List ℕ) where
  -- what is said of a disk that did not change before
  pub same_or_new_after : (u : ℕ) (old mid new : Meaning) → LeavesSame u old mid → LeavesSame u mid new ⊎ LeavesNew u h body mid new → LeavesSame u old new ⊎ LeavesNew u h body old new
  same_or_new_after u old mid new same (inl now) = inl (same_then u old mid new same now)
  same_or_new_after u old mid new same (inr now) = inr (new_after h body u old mid new same.each now)

  -- the copies stopped at disk k
  pub stopped_others : (these : ℕ → Bool) (old mid new : Meaning) (k n u : ℕ) → Copied (IsMember these k) h body old mid → AllNew (IsMember these k) h body old mid
      → Moves (Run k 1 256) (InImage k h body mid) mid new → these u ≡ true → (u ≡ k → ⊥) → LeavesSame u old new ⊎ LeavesNew u h body old new
  stopped_others these old mid new k n u copied all moves is other =
      let here : (b : ℕ) (v : List ℕ) → new.leaves u b v → mid.leaves u b v = λ b v left. ⊎_elim (λ was. was) (λ (mine : Run k 1 256 u b). absurd (other mine.there)) (moves.leaves u b v left) in
      elim (cases_lt u k) [
        | inl below ↦ inr (new_then h body u old mid new here (all.each u (record { below = below; is = is })))
        | inr above ↦ inl (record { each = λ b v left. out_left h body these old mid k u copied above b v (here b v left) })
      ]

-- ---- one part of the disks, and then the other

module _ (h : AreaHeader) (body : List ℕ) (one two these : ℕ → Bool) (n : ℕ)
    (out : (u : ℕ) → one u ≡ true → two u ≡ false) (in_one : (u : ℕ) → one u ≡ true → these u ≡ true) (in_two : (u : ℕ) → two u ≡ true → these u ≡ true)
    (cover : (u : ℕ) → these u ≡ true → (one u ≡ true) ⊎ (two u ≡ true)) where
  not_both : (u : ℕ) → one u ≡ true → two u ≡ true → ⊥
  not_both u is was = let clash : false ≡ true = sym (out u is) ∙ was in cc

  of_one : (u : ℕ) → IsMember one n u → IsMember these n u
  of_one u m = record { below = m.below; is = in_one u m.is }

  of_two : (u : ℕ) → IsMember two n u → IsMember these n u
  of_two u m = record { below = m.below; is = in_two u m.is }

  part_of_it : (u : ℕ) → IsMember these n u → IsMember one n u ⊎ IsMember two n u
  part_of_it u m = ⊎_elim (λ is. inl (record { below = m.below; is = is })) (λ is. inr (record { below = m.below; is = is })) (cover u m.is)

  module _ (old mid : Meaning) (copied : Copied (IsMember one n) h body old mid) where
    -- the second part is as it was
    before_two : (u : ℕ) → two u ≡ true → (b : ℕ) (v : List ℕ) → mid.leaves u b v → old.leaves u b v
    before_two u is b v left = ⊎_elim (λ was. was) (λ (mine : AreasOf (IsMember one n) u b). absurd (not_both u mine.on.is is)) (copied.moves.leaves u b v left)

    first_moves : Moves (AreasOf (IsMember these n)) (InImages (IsMember these n) h body old) old mid
    first_moves =
        wider (AreasOf (IsMember one n)) (AreasOf (IsMember these n)) (InImages (IsMember one n) h body old) (InImages (IsMember these n) h body old) old mid copied.moves
        (λ u b mine. record { on = of_one u mine.on; first = mine.first; last = mine.last })
        (λ i beside seen. record {
          each = λ u is. elim (part_of_it u is) [
            | inl first ↦ seen.each u first
            | inr second ↦ as_old u h body old (i u) (λ b. ⊎_elim (λ was. was) (λ (mine : AreasOf (IsMember one n) u b). absurd (not_both u mine.on.is second.is)) (beside u b))
          ];
        })

    pub first_copied : Copied (IsMember these n) h body old mid
    first_copied = record {
      moves = first_moves;
      leaves = λ u is. elim (part_of_it u is) [
        | inl first ↦ copied.leaves u first
        | inr second ↦ as_before u h body old mid (before_two u second.is)
      ];
    }

    pub unreached : (u : ℕ) → two u ≡ true → LeavesSame u old mid
    unreached u is = record { each = before_two u is }

    -- the first part stopped: the second one is as it was
    pub first_stops : (failed : CopyFailed) → CopyStops one n h body old mid failed → CopyStops these n h body old mid failed
    first_stops failed stops = record {
      member = of_one failed.disk stops.member;
      cause = stops.cause;
      others = λ u is other. elim (part_of_it u is) [ inl first ↦ stops.others u first other | inr second ↦ inl (unreached u second.is) ];
    }

    module _ (new : Meaning) (then : Copied (IsMember two n) h body mid new) where
      -- the first part is as the first calls left it
      after_one : (u : ℕ) → one u ≡ true → (b : ℕ) (v : List ℕ) → new.leaves u b v → mid.leaves u b v
      after_one u is b v left = ⊎_elim (λ was. was) (λ (mine : AreasOf (IsMember two n) u b). absurd (not_both u is mine.on.is)) (then.moves.leaves u b v left)

      both_moves : Moves (AreasOf (IsMember these n)) (InImages (IsMember these n) h body old) old new
      both_moves =
          goes_on (AreasOf (IsMember these n)) (AreasOf (IsMember two n)) (InImages (IsMember these n) h body old) (InImages (IsMember two n) h body mid) old mid new first_moves then.moves
          (λ u b mine. record { on = of_two u mine.on; first = mine.first; last = mine.last })
          (λ i beside seen. record {
            each = λ u is. elim (part_of_it u is) [
              | inl first ↦ (copied.leaves u first).each (i u) (λ b. ⊎_elim (λ was. was) (λ (mine : AreasOf (IsMember two n) u b). absurd (not_both u first.is mine.on.is)) (beside u b))
              | inr second ↦ narrow h body u old mid (i u) (before_two u second.is) (seen.each u second)
            ];
          })

      pub both_copied : Copied (IsMember these n) h body old new
      both_copied = record {
        moves = both_moves;
        leaves = λ u is. elim (part_of_it u is) [
          | inl first ↦ leaves_then h body u old mid new (after_one u first.is) (copied.leaves u first)
          | inr second ↦ leaves_after h body u old mid new (before_two u second.is) (then.leaves u second)
        ];
      }

      -- the second part stopped, where the first one was written
      pub second_stops : AllNew (IsMember one n) h body old mid → (failed : CopyFailed) → CopyStops two n h body mid new failed → CopyStops these n h body old new failed
      second_stops all failed stops = record {
        member = of_two failed.disk stops.member;
        cause = failed_from old mid new failed.disk failed.error copied.moves.faults copied.moves.disk_faults stops.cause;
        others = λ u is other. elim (part_of_it u is) [
          | inl first ↦ inr (new_then h body u old mid new (after_one u first.is) (all.each u first))
          | inr second ↦ same_or_new_after h body u old mid new (unreached u second.is) (stops.others u second other)
        ];
      }

      -- the first part keeps its new copies
      pub first_new : AllNew (IsMember one n) h body old mid → AllNew (IsMember one n) h body old new
      first_new all = record { each = λ u first. new_then h body u old mid new (after_one u first.is) (all.each u first) }

      pub both_new : AllNew (IsMember one n) h body old mid → AllNew (IsMember two n) h body mid new → AllNew (IsMember these n) h body old new
      both_new all more = record {
        each = λ u is. elim (part_of_it u is) [
          | inl first ↦ (first_new all).each u first
          | inr second ↦ new_after h body u old mid new (before_two u second.is) (more.each u second)
        ];
      }

pub on_ok : {T E : Type 0} (r : Result T E) (P Q : Type 0) → (P → Q) → OnOk r P → OnOk r Q
on_ok (Ok x) P Q then p = then p
on_ok (Err e) P Q then p = p

-- ---- the members of a set, in two parts

pub part_out : (set good u : ℕ) → part_of set good true u ≡ true → part_of set good false u ≡ false
part_out set good u is = by_bits (bit_at set u) (bit_at good u) is
  where
    by_bits : (a b : Bool) → (a && b) ≡ true → (a && not b) ≡ false
    by_bits false b is = refl
    by_bits true true is = refl
    by_bits true false is = cc

pub part_in : (set good : ℕ) (which : Bool) (u : ℕ) → part_of set good which u ≡ true → bit_at set u ≡ true
part_in set good true u is = by_bits (bit_at set u) (bit_at good u) is
  where
    by_bits : (a b : Bool) → (a && b) ≡ true → a ≡ true
    by_bits false b is = is
    by_bits true b is = refl
part_in set good false u is = by_bits (bit_at set u) (not (bit_at good u)) is
  where
    by_bits : (a b : Bool) → (a && b) ≡ true → a ≡ true
    by_bits false b is = is
    by_bits true b is = refl

pub part_good : (set good u : ℕ) → part_of set good true u ≡ true → bit_at good u ≡ true
part_good set good u is = by_bits (bit_at set u) (bit_at good u) is
  where
    by_bits : (a b : Bool) → (a && b) ≡ true → b ≡ true
    by_bits false b is = absurd cc
    by_bits true b is = is

pub part_cover : (set good u : ℕ) → bit_at set u ≡ true → (part_of set good true u ≡ true) ⊎ (part_of set good false u ≡ true)
part_cover set good u is = by_bits (bit_at set u) (bit_at good u) is
  where
    by_bits : (a b : Bool) → a ≡ true → ((a && b) ≡ true) ⊎ ((a && not b) ≡ true)
    by_bits false b is = absurd cc
    by_bits true true is = inl refl
    by_bits true false is = inr refl

-- ---- members of a set

pub member_bit : (set disk m : ℕ) → set < 256 → ((m ≡ disk) ⊎ ((m ≡ 63) × (63 < disk))) → nat_eq (set / 2 ^ m % 2) 1 ≡ bit_at set disk
member_bit set disk m small (inl same) = rw same refl
member_bit set disk m small (inr high) =
    let one : set < 2 ^ 63 = omega (arith, small) in
    let above : 63 ≤ disk = omega (arith, high.1) in
    let more : 2 ^ 63 ≤ 2 ^ disk = pow_mono above in
    let all : set < 2 ^ disk = omega (arith, one, more) in
    let here : set / 2 ^ m ≡ 0 = ap (λ (n : ℕ). set / 2 ^ n) high.0 ∙ div-eq_of_lt one in
    let there : set / 2 ^ disk ≡ 0 = div-eq_of_lt all in
    rw (here, there) refl
