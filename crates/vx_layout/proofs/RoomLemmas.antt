-- The room of the disks, and what is taken of it.
use Rattle.std.proofs.Common.{◌≡◌, ◌⊎◌, inl, inr, ℕ, zero, suc, ◌+◌, ◌-◌, ◌*◌, ◌^◌, ◌<◌, ◌≤◌, Bool, true, false, List, [], ◌++◌, get_or, append_assoc, refl, ap, sym, ◌∙◌, subst, arith}
use Rattle.std.specs.Prelude.{min, max, slice_index, if◌then◌else◌, Result, Ok, Err}
use Rattle.std.specs.Int.{div_ceil}
use Rattle.std.specs.List.{list_any}
use Rattle.std.proofs.lemmas.Bool.{cases_lt}
use Rattle.std.proofs.lemmas.Grind.{div_ceil_times}
use Rattle.std.proofs.lemmas.List.{append-nil}
use Rattle.std.proofs.Math.Nat.{mul-le-mul_left}
use Rattle.vx_config.specs.declared.entry.DiskEntry.{DiskEntry}
use Rattle.vx_config.specs.declared.entry.Subdisk.{Subdisk}
use Rattle.vx_layout.specs.Places.{disk_blocks, lies_on}
use Rattle.vx_layout.specs.Free.{AddsLowest, AreLowest, free_blocks, free_in}
use Rattle.vx_layout.specs.Space.{AreColumns, AreSpread, HasNone, IsFirst, IsGreatest, IsShape, NoPlex, OnOne, OnSeveral, column_of, disk_room, room_sum}
use Rattle.vx_layout.specs.Steps.{AddsColumn, AddsColumns, AddsPlex, AddsSpread, AddsWhole, AreRooms, ColumnShort, Columning, ColumnsShort, StepEnds, Spreading, WholeShort}
use Rattle.vx_layout.specs.declared.shape.Shape.{Shape}
use Rattle.vx_layout.specs.declared.short.Short.{Short}
use Rattle.vx_layout.specs.declared.short.Short.TheVariants.{OutOfMemory, Space}

-- what is allowed is free
pub room_free : (used : List Subdisk) (disks : List DiskEntry) (found : List Subdisk) (disk end n : ℕ) → end ≡ disk_blocks disks disk → n ≤ disk_room used disks found disk → n ≤ free_in used disk 512 (end - 512)
unfolding disk_room free_blocks
room_free used disks found disk end n is le = by (list_any (lies_on disk) found) le
  where
    by : (t : Bool) → n ≤ (if t then 0 else free_in used disk 512 (disk_blocks disks disk - 512)) → n ≤ free_in used disk 512 (end - 512)
    by true none = omega (arith, none)
    by false le = subst (λ (e : ℕ). n ≤ free_in used disk 512 (e - 512)) (sym is) le

pub most_more : (xs : List ℕ) (d most new : ℕ) → d < 8 → ((e : ℕ) → e < d → get_or xs e 0 ≤ most) × ((e : ℕ) × (e < 8) × (get_or xs e 0 ≡ most)) → new ≡ max most (get_or xs d 0)
    → ((e : ℕ) → e < d + 1 → get_or xs e 0 ≤ new) × ((e : ℕ) × (e < 8) × (get_or xs e 0 ≡ new))
most_more xs d most new lt so_far is = (each, some (cases_lt most (get_or xs d 0)))
  where
    each : (e : ℕ) → e < d + 1 → get_or xs e 0 ≤ new
    each e e_lt = elim (cases_lt e d) [
      | inl before ↦ omega (arith, so_far.0 e before, is)
      | inr behind ↦ let same : get_or xs e 0 ≡ get_or xs d 0 = ap (λ (n : ℕ). get_or xs n 0) (let e_is : e ≡ d = omega (arith, e_lt, behind) in e_is) in omega (arith, same, is)
    ]

    some : (most < get_or xs d 0) ⊎ (get_or xs d 0 ≤ most) → (e : ℕ) × (e < 8) × (get_or xs e 0 ≡ new)
    some (inl less) = (d, lt, omega (arith, less, is))
    some (inr no_less) = (so_far.1.0, so_far.1.1, omega (arith, no_less, is, so_far.1.2))

-- ---- the rooms of a list are those of the disks

module _ (disk_room : ℕ → ℕ) (xs : List ℕ) (are : AreRooms disk_room 8 xs) where
  pub first_room : (n d : ℕ) → IsFirst (slice_index xs) n d → IsFirst disk_room n d
  first_room n d is = record { inside = is.inside; fits = omega (arith, is.fits, are.each d is.inside); first = λ e lt. omega (arith, is.first e lt, are.each e (omega (arith, lt, is.inside))) }

  pub none_room : (n : ℕ) → HasNone (slice_index xs) n → HasNone disk_room n
  none_room n is = record { none = λ e lt. omega (arith, is.none e lt, are.each e lt) }

  pub most_room : (n : ℕ) → IsGreatest (slice_index xs) n → IsGreatest disk_room n
  most_room n is = record { each = λ e lt. omega (arith, is.each e lt, are.each e lt); disk = is.disk; inside = is.inside; is = omega (arith, is.is, are.each is.disk is.inside) }

  sum_from : (d n : ℕ) → d + n ≤ 8 → room_sum (slice_index xs) d n ≡ room_sum disk_room d n
  sum_from d zero le = refl
  sum_from d (suc n) le = let here = are.each d (omega (arith, le)) in let rest = sum_from (d + 1) n (omega (arith, le)) in omega (arith, here, rest)

  pub sum_room : room_sum (slice_index xs) 0 8 ≡ room_sum disk_room 0 8
  sum_room = sum_from 0 8 (omega arith)

-- ---- a plex over several disks

pub spread_start : (used : List Subdisk) (disks : List DiskEntry) (disk_room : ℕ → ℕ) (blocks : ℕ) (old : List Subdisk) → blocks ≤ room_sum disk_room 0 8 → Spreading used disks disk_room 0 blocks blocks old old
spread_start used disks disk_room blocks old enough = record { done = []; is = sym (append-nil old); behind = 8; count = omega arith; enough = enough; rest = λ ss are. are }

pub spread_more : (used : List Subdisk) (disks : List DiskEntry) (disk_room : ℕ → ℕ) (disk end blocks left part : ℕ) (old new next : List Subdisk) → disk < 8 → Spreading used disks disk_room disk blocks left old new → end ≡ disk_blocks disks disk → part ≡ min left (disk_room disk)
    → AddsLowest used disk end part new next → Spreading used disks disk_room (disk + 1) blocks (left - part) old next
spread_more used disks disk_room disk end blocks left part old new next lt is end_is part_is adds = by is.behind is.count is.enough is.rest
  where
    by : (behind : ℕ) → disk + behind ≡ 8 → left ≤ room_sum disk_room disk behind → ((ss : List Subdisk) → AreSpread used disks disk_room disk behind left ss → AreSpread used disks disk_room 0 8 blocks (is.done ++ ss)) → Spreading used disks disk_room (disk + 1) blocks (left - part) old next
    by zero count enough rest = absurd (omega (arith, lt, count))
    by (suc n) count enough rest = record {
      done = is.done ++ adds.runs;
      is = adds.is ∙ ap (λ (xs : List Subdisk). xs ++ adds.runs) is.is ∙ append_assoc old is.done adds.runs;
      behind = n;
      count = omega (arith, count);
      enough = omega (arith, enough, part_is);
      rest = λ ss more. subst (λ (xs : List Subdisk). AreSpread used disks disk_room 0 8 blocks xs) (sym (append_assoc is.done adds.runs ss))
          (rest (adds.runs ++ ss) (adds.runs, ss, refl, subst (λ (e : ℕ). AreLowest used disk 512 e (min left (disk_room disk)) adds.runs) end_is (subst (λ (k : ℕ). AreLowest used disk 512 end k adds.runs) part_is adds.are), subst (λ (k : ℕ). AreSpread used disks disk_room (disk + 1) n (left - k) ss) part_is more));
    }

pub spread_end : (used : List Subdisk) (disks : List DiskEntry) (disk_room : ℕ → ℕ) (disk blocks left : ℕ) (old new : List Subdisk) → 8 ≤ disk → Spreading used disks disk_room disk blocks left old new → AddsSpread used disks disk_room blocks old new
spread_end used disks disk_room disk blocks left old new le is = by is.behind is.count is.enough is.rest
  where
    by : (behind : ℕ) → disk + behind ≡ 8 → left ≤ room_sum disk_room disk behind → ((ss : List Subdisk) → AreSpread used disks disk_room disk behind left ss → AreSpread used disks disk_room 0 8 blocks (is.done ++ ss)) → AddsSpread used disks disk_room blocks old new
    by zero count enough rest = record { runs = is.done; are = subst (λ (xs : List Subdisk). AreSpread used disks disk_room 0 8 blocks xs) (append-nil is.done) (rest [] (let none : left ≡ 0 = omega (arith, enough) in none, refl)); is = is.is }
    by (suc n) count enough rest = absurd (omega (arith, le, count))

pub from_one : (used : List Subdisk) (disks : List DiskEntry) (xs : List ℕ) (disk end blocks : ℕ) (found old new : List Subdisk) → found ≡ old → AreRooms (disk_room used disks found) 8 xs → IsFirst (slice_index xs) blocks disk → end ≡ disk_blocks disks disk → AddsLowest used disk end blocks old new
    → AddsColumn used disks blocks old new
from_one used disks xs disk end blocks found old new same are first end_is adds = record {
  runs = adds.runs;
  are = record {
    disk = disk;
    first = first_room (disk_room used disks old) xs (subst (λ (f : List Subdisk). AreRooms (disk_room used disks f) 8 xs) same are) blocks disk first;
    are = subst (λ (e : ℕ). AreLowest used disk 512 e blocks adds.runs) end_is adds.are;
  };
  is = adds.is;
}

pub one_fits : (used : List Subdisk) (disks : List DiskEntry) (xs : List ℕ) (disk end blocks : ℕ) (found : List Subdisk) → AreRooms (disk_room used disks found) 8 xs → IsFirst (slice_index xs) blocks disk → end ≡ disk_blocks disks disk → blocks ≤ free_in used disk 512 (end - 512)
one_fits used disks xs disk end blocks found are first end_is = room_free used disks found disk end blocks end_is (first_room (disk_room used disks found) xs are blocks disk first).fits

pub whole_one : (used : List Subdisk) (disks : List DiskEntry) (blocks : ℕ) (old new : List Subdisk) → AddsColumn used disks blocks old new → AddsWhole used disks blocks old new
whole_one used disks blocks old new adds = record { runs = adds.runs; are = inl adds.are; is = adds.is }

pub whole_several : (used : List Subdisk) (disks : List DiskEntry) (blocks : ℕ) (old new : List Subdisk) → HasNone (disk_room used disks old) blocks → blocks ≤ room_sum (disk_room used disks old) 0 8 → AddsSpread used disks (disk_room used disks old) blocks old new → AddsWhole used disks blocks old new
whole_several used disks blocks old new none enough adds = record { runs = adds.runs; are = inr (record { none = none; all = enough; are = adds.are }); is = adds.is }

pub rooms_same : (used : List Subdisk) (disks : List DiskEntry) (xs : List ℕ) (found old : List Subdisk) → found ≡ old → AreRooms (disk_room used disks found) 8 xs → AreRooms (disk_room used disks old) 8 xs
rooms_same used disks xs found old same are = subst (λ (f : List Subdisk). AreRooms (disk_room used disks f) 8 xs) same are

pub column_short : (used : List Subdisk) (disks : List DiskEntry) (xs : List ℕ) (blocks have : ℕ) (found old : List Subdisk) → found ≡ old → AreRooms (disk_room used disks found) 8 xs → HasNone (slice_index xs) blocks → IsGreatest (slice_index xs) have → ColumnShort used disks blocks old blocks have
column_short used disks xs blocks have found old same are none most =
    let rooms = rooms_same used disks xs found old same are in
    record { is_need = refl; none = none_room (disk_room used disks old) xs rooms blocks none; is_have = most_room (disk_room used disks old) xs rooms have most }

-- ---- columns

pub column_start : (used : List Subdisk) (disks : List DiskEntry) (blocks : ℕ) (old : List Subdisk) → Columning used disks blocks 0 old old
column_start used disks blocks old = record {
  done = [];
  is = sym (append-nil old);
  rest = λ n ss are. subst (λ (k : ℕ). AreColumns used disks old k blocks ss) (let e : n ≡ 0 + n = omega arith in e) are;
}

pub column_more : (used : List Subdisk) (disks : List DiskEntry) (blocks placed : ℕ) (old new next : List Subdisk) → Columning used disks blocks placed old new → AddsColumn used disks blocks new next → Columning used disks blocks (placed + 1) old next
column_more used disks blocks placed old new next is adds = record {
  done = is.done ++ adds.runs;
  is = adds.is ∙ ap (λ (xs : List Subdisk). xs ++ adds.runs) is.is ∙ append_assoc old is.done adds.runs;
  rest = λ n ss are. subst (λ (k : ℕ). AreColumns used disks old k blocks ((is.done ++ adds.runs) ++ ss)) (let e : placed + suc n ≡ placed + 1 + n = omega arith in e)
      (subst (λ (xs : List Subdisk). AreColumns used disks old (placed + suc n) blocks xs) (sym (append_assoc is.done adds.runs ss))
      (is.rest (suc n) (adds.runs ++ ss) (adds.runs, ss, refl, adds.are, subst (λ (f : List Subdisk). AreColumns used disks f n blocks ss) adds.is are)));
}

placed_so : (used : List Subdisk) (disks : List DiskEntry) (blocks placed : ℕ) (old new : List Subdisk) (is : Columning used disks blocks placed old new) → AreColumns used disks old placed blocks is.done
placed_so used disks blocks placed old new is =
    subst (λ (k : ℕ). AreColumns used disks old k blocks is.done) (let e : placed + 0 ≡ placed = omega arith in e) (subst (λ (xs : List Subdisk). AreColumns used disks old (placed + 0) blocks xs) (append-nil is.done) (is.rest 0 [] refl))

pub column_end : (used : List Subdisk) (disks : List DiskEntry) (ncol blocks placed : ℕ) (old new : List Subdisk) → placed ≡ ncol → Columning used disks blocks placed old new → AddsColumns used disks ncol blocks old new
column_end used disks ncol blocks placed old new same is = record {
  runs = is.done;
  are = subst (λ (k : ℕ). AreColumns used disks old k blocks is.done) same (placed_so used disks blocks placed old new is);
  is = is.is;
}

pub columns_short : (used : List Subdisk) (disks : List DiskEntry) (ncol blocks placed need have : ℕ) (old new : List Subdisk) → placed < ncol → Columning used disks blocks placed old new → ColumnShort used disks blocks new need have → ColumnsShort used disks ncol blocks old need have
columns_short used disks ncol blocks placed need have old new lt is short = record {
  placed = placed;
  few = lt;
  columns = is.done;
  are = placed_so used disks blocks placed old new is;
  short = subst (λ (f : List Subdisk). ColumnShort used disks blocks f need have) is.is short;
}

-- ---- a plex of either kind

pub whole_plex : (want : Shape) (used : List Subdisk) (disks : List DiskEntry) (blocks : ℕ) (old new : List Subdisk) (r : Result (Unit {0}) Short) → want.width ≡ 0 → blocks ≡ want.blocks
    → StepEnds (λ _. AddsWhole used disks blocks old new) (WholeShort used disks blocks old) r → StepEnds (λ _. AddsPlex want used disks old new) (NoPlex want used disks old) r
whole_plex want used disks blocks old new (Ok x) none same adds = record {
  runs = adds.runs;
  are = record { concatenated = λ _. subst (λ (n : ℕ). OnOne used disks old n adds.runs ⊎ OnSeveral used disks old n adds.runs) same adds.are; striped = λ some. absurd (omega (arith, none, some)) };
  is = adds.is;
}
whole_plex want used disks blocks old new (Err (Space need have)) none same short = record {
  concatenated = λ _. record { is_need = short.is_need ∙ same; is_have = short.is_have; short = omega (arith, short.short, same) };
  striped = λ some. absurd (omega (arith, none, some));
}
whole_plex want used disks blocks old new (Err OutOfMemory) none same short = short

pub columns_plex : (want : Shape) (used : List Subdisk) (disks : List DiskEntry) (blocks : ℕ) (old new : List Subdisk) (r : Result (Unit {0}) Short) → (want.width ≡ 0 → ⊥) → blocks ≡ column_of want
    → StepEnds (λ _. AddsColumns used disks want.ncol blocks old new) (ColumnsShort used disks want.ncol blocks old) r → StepEnds (λ _. AddsPlex want used disks old new) (NoPlex want used disks old) r
columns_plex want used disks blocks old new (Ok x) some same adds = record {
  runs = adds.runs;
  are = record { concatenated = λ none. absurd (some none); striped = λ _. subst (λ (n : ℕ). AreColumns used disks old want.ncol n adds.runs) same adds.are };
  is = adds.is;
}
columns_plex want used disks blocks old new (Err (Space need have)) some same short = record {
  concatenated = λ none. absurd (some none);
  striped = λ _. record {
    placed = short.placed;
    few = short.few;
    columns = short.columns;
    are = subst (λ (n : ℕ). AreColumns used disks old short.placed n short.columns) same short.are;
    is_need = short.short.is_need ∙ same;
    none = subst (λ (n : ℕ). HasNone (disk_room used disks (old ++ short.columns)) n) same short.short.none;
    is_have = short.short.is_have;
  };
}
columns_plex want used disks blocks old new (Err OutOfMemory) some same short = short

-- a column's blocks are a number of the program
pub column_fits : (want : Shape) (units ncol width' width : ℕ) → IsShape want → 0 < want.width → ncol ≡ want.ncol → width' ≡ want.width → units ≡ div_ceil want.blocks (ncol * width') → width ≡ want.width → units * width < 2 ^ 64
column_fits want units ncol width' width is some ncol_is width'_is units_is width_is =
    let product_is : ncol * width' ≡ want.ncol * want.width = ap (λ (n : ℕ). n * width') ncol_is ∙ ap (λ (n : ℕ). want.ncol * n) width'_is in
    let wide : 0 < want.ncol * want.width = mul_pos want.ncol want.width is.columns some in
    let most : div_ceil want.blocks (want.ncol * want.width) * (want.ncol * want.width) < want.blocks + want.ncol * want.width = (div_ceil_times want.blocks (want.ncol * want.width) wide).1 in
    let narrow : want.width ≤ want.ncol * want.width = at_least want.ncol want.width is.columns in
    let times : div_ceil want.blocks (want.ncol * want.width) * want.width ≤ div_ceil want.blocks (want.ncol * want.width) * (want.ncol * want.width) = mul-le-mul_left (div_ceil want.blocks (want.ncol * want.width)) narrow in
    let stripe : want.ncol * want.width ≤ 8 * want.width = mul_le want.ncol 8 want.width is.ncol in
    let product_same : units * width ≡ div_ceil want.blocks (want.ncol * want.width) * want.width = ap (λ (u : ℕ). u * width) (units_is ∙ ap (div_ceil want.blocks) product_is) ∙ ap (λ (w : ℕ). div_ceil want.blocks (want.ncol * want.width) * w) width_is in
    omega (arith, most, times, stripe, product_same, is.few, is.width)
  where
    mul_pos : (a b : ℕ) → 0 < a → 0 < b → 0 < a * b
    mul_pos a b x y = grind arith

    at_least : (a b : ℕ) → 0 < a → b ≤ a * b
    at_least a b x = grind arith

    mul_le : (a b c : ℕ) → a ≤ b → a * c ≤ b * c
    mul_le a b c x = grind arith

-- a column that has no place ends the search for columns
pub columns_err : (used : List Subdisk) (disks : List DiskEntry) (ncol blocks placed : ℕ) (old new next : List Subdisk) (s : Short) (r : Result (Unit {0}) Short) → placed < ncol → Columning used disks blocks placed old new → r ≡ Err s
    → StepEnds {T = Unit {0}} (λ _. AddsColumn used disks blocks new next) (ColumnShort used disks blocks new) (Err s) → StepEnds {T = Unit {0}} (λ _. AddsColumns used disks ncol blocks old next) (ColumnsShort used disks ncol blocks old) r
columns_err used disks ncol blocks placed old new next s r lt is same short =
    subst (λ (x : Result (Unit {0}) Short). StepEnds {T = Unit {0}} (λ _. AddsColumns used disks ncol blocks old next) (ColumnsShort used disks ncol blocks old) x) (sym same) (by s short)
  where
    by : (s : Short) → StepEnds {T = Unit {0}} (λ _. AddsColumn used disks blocks new next) (ColumnShort used disks blocks new) (Err s) → StepEnds {T = Unit {0}} (λ _. AddsColumns used disks ncol blocks old next) (ColumnsShort used disks ncol blocks old) (Err s)
    by (Space need have) short = columns_short used disks ncol blocks placed need have old new lt is short
    by OutOfMemory short = short
