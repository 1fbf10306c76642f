-- Free blocks, and the runs that hold the others.
use Rattle.std.proofs.Common.{◌≡◌, ◌⊎◌, inl, inr, ℕ, zero, suc, ◌+◌, ◌-◌, ◌<◌, ◌≤◌, Bool, true, false, Some, List, [], ◌∷◌, length, get_or, take, refl, ap, sym, ◌∙◌, arith}
use Rattle.std.specs.Prelude.{◌&&◌, ◌||◌, ◌==◌, not, nat_lt, nat_le, slice_get, if◌then◌else◌}
use Rattle.std.specs.List.{list_any}
use Rattle.std.proofs.lemmas.Bool.{cases_lt, eq-eqb, eqb-true, false_from_ne_true, le-leb, leb-true, lt-ltb, ltb-true}
use Rattle.std.proofs.lemmas.List.{take_all}
use Rattle.std.proofs.lemmas.List.Folds.{list_any_at}
use Rattle.std.proofs.lemmas.Option.{get_or_from_slice_get, slice_get-get_or, slice_get_within}
use Rattle.vx_config.specs.declared.entry.Subdisk.{Subdisk}
use Rattle.vx_config.proofs.FillLemmas.{no_subdisk}
use Rattle.vx_layout.specs.Free.{IsGap, free_in, holds, is_free}
use Rattle.vx_layout.specs.Reaches.{IsCut, IsReach, Reaching}
use Rattle.vx_layout.specs.declared.gap.Gap.{Gap}
use Rattle.vx_layout.proofs.Pairs.{and_left, and_right}

pub not_both : {b : Bool} → b ≡ true → b ≡ false → ⊥
not_both yes' no' = let e : true ≡ false = sym yes' ∙ no' in cc

-- ---- what it is to have a block

pub holds_parts : (disk b : ℕ) (s : Subdisk) → holds disk b s ≡ true → (s.disk ≡ disk) × (s.start ≤ b) × (b < s.start + s.blocks)
holds_parts disk b s is =
    let front : (s.disk == disk) && nat_le s.start b ≡ true = and_left _ (nat_lt b (s.start + s.blocks)) is in
    (eqb-true s.disk disk (and_left (s.disk == disk) _ front), leb-true s.start b (and_right (s.disk == disk) _ front), ltb-true b (s.start + s.blocks) (and_right (s.disk == disk && nat_le s.start b) _ is))

pub holds_from : (disk b : ℕ) (s : Subdisk) → s.disk ≡ disk → s.start ≤ b → b < s.start + s.blocks → holds disk b s ≡ true
holds_from disk b s on start end = both (both (eq-eqb s.disk disk on) (le-leb s.start b start)) (lt-ltb b (s.start + s.blocks) end)
  where
    both : {x y : Bool} → x ≡ true → y ≡ true → x && y ≡ true
    both one two = rw one two

-- ---- a block that a run has is not free

pub busy : (used : List Subdisk) (disk b k : ℕ) → k < length used → holds disk b (get_or used k no_subdisk) ≡ true → is_free used disk b ≡ false
unfolding is_free
busy used disk b k lt is = ap not (list_any_at (holds disk b) used k no_subdisk lt is)

pub busy_at : (used : List Subdisk) (disk b k : ℕ) (s : Subdisk) → slice_get used k ≡ Some s → holds disk b s ≡ true → is_free used disk b ≡ false
busy_at used disk b k s at is = busy used disk b k (slice_get_within used k s at) (ap (holds disk b) (get_or_from_slice_get used k s no_subdisk at) ∙ is)

pub free_one : (used : List Subdisk) (disk b k : ℕ) (s : Subdisk) → is_free used disk b ≡ true → slice_get used k ≡ Some s → holds disk b s ≡ false
free_one used disk b k s free at = false_from_ne_true (holds disk b s) (λ is. not_both free (busy_at used disk b k s at is))

pub free_item : (used : List Subdisk) (disk b k : ℕ) → is_free used disk b ≡ true → k < length used → holds disk b (get_or used k no_subdisk) ≡ false
free_item used disk b k free lt = free_one used disk b k (get_or used k no_subdisk) free (slice_get-get_or used k no_subdisk lt)

pub free_all : (used : List Subdisk) (disk b : ℕ) → ((k : ℕ) (s : Subdisk) → slice_get used k ≡ Some s → holds disk b s ≡ false) → is_free used disk b ≡ true
unfolding is_free
free_all used disk b each = ap not (none used each)
  where
    none : (ss : List Subdisk) → ((k : ℕ) (s : Subdisk) → slice_get ss k ≡ Some s → holds disk b s ≡ false) → list_any (holds disk b) ss ≡ false
    none [] each = refl
    none (s ∷ ss) each = ap (λ (x : Bool). x || list_any (holds disk b) ss) (each 0 s refl) ∙ none ss (λ k t at. each (suc k) t at)

-- ---- the loops

pub held_on : (used : List Subdisk) (disk block k : ℕ) (s : Subdisk) → k < length used → s ≡ get_or used k no_subdisk → holds disk block s ≡ true → (b : ℕ) → block ≤ b → b < block + (s.blocks - (block - s.start)) → is_free used disk b ≡ false
held_on used disk block k s lt item is b low high =
    let p = holds_parts disk block s is in
    let here : holds disk b s ≡ true = holds_from disk b s p.0 (omega (arith, p.1, low)) (omega (arith, high, p.1, p.2)) in
    busy used disk b k lt (ap (holds disk b) (sym item) ∙ here)

pub none_held : (used : List Subdisk) (disk block i : ℕ) → length used ≤ i → list_any (holds disk block) (take i used) ≡ false → is_free used disk block ≡ true
unfolding is_free
none_held used disk block i le none = ap not (ap (list_any (holds disk block)) (sym (take_all i used le)) ∙ none)

pub reach_more : (used : List Subdisk) (disk block end i blocks left : ℕ) → i < length used → is_free used disk block ≡ true → Reaching used disk block end i blocks → IsCut (get_or used i no_subdisk) disk block blocks left → Reaching used disk block end (i + 1) left
reach_more used disk block end i blocks left lt free so_far one = record {
  within = omega (arith, so_far.within, one.few);
  some = one.some so_far.some;
  free = λ k s k_lt at b low high. elim (cases_lt k i) [
    | inl before ↦ so_far.free k s before at b low (omega (arith, high, one.few))
    | inr behind ↦
        let k_is : k ≡ i = omega (arith, k_lt, behind) in
        let s_is : get_or used i no_subdisk ≡ s = get_or_from_slice_get used i s no_subdisk (ap (slice_get used) (sym k_is) ∙ at) in
        ap (holds disk b) (sym s_is) ∙ one.free b low high
  ];
  stops = by one.stops so_far.stops;
}
  where
    by : (left ≡ blocks) ⊎ (holds disk (block + left) (get_or used i no_subdisk) ≡ true) → (block + blocks ≡ end) ⊎ ((k : ℕ) × (s : Subdisk) × (slice_get used k ≡ Some s) × (holds disk (block + blocks) s ≡ true))
        → (block + left ≡ end) ⊎ ((k : ℕ) × (s : Subdisk) × (slice_get used k ≡ Some s) × (holds disk (block + left) s ≡ true))
    by (inr stop) before = inr (i, get_or used i no_subdisk, slice_get-get_or used i no_subdisk lt, stop)
    by (inl same) (inl at_end) = inl (omega (arith, same, at_end))
    by (inl same) (inr w) = inr (w.0, w.1, w.2, ap (λ (n : ℕ). holds disk (block + n) w.1) same ∙ w.3)

pub reach_end : (used : List Subdisk) (disk block end i blocks : ℕ) → length used ≤ i → Reaching used disk block end i blocks → IsReach used disk block end blocks
reach_end used disk block end i blocks le all = record {
  within = all.within;
  some = λ lt. all.some;
  free = λ b low high. free_all used disk b (λ k s at. all.free k s (omega (arith, le, slice_get_within used k s at)) at b low high);
  stops = λ lt. by lt all.stops;
}
  where
    by : block + blocks < end → (block + blocks ≡ end) ⊎ ((k : ℕ) × (s : Subdisk) × (slice_get used k ≡ Some s) × (holds disk (block + blocks) s ≡ true)) → is_free used disk (block + blocks) ≡ false
    by lt (inl at_end) = absurd (omega (arith, lt, at_end))
    by lt (inr w) = busy_at used disk (block + blocks) w.0 w.1 w.2 w.3

-- ---- how many blocks are free

pub free_le : (used : List Subdisk) (disk block n : ℕ) → free_in used disk block n ≤ n
free_le used disk block zero = omega arith
free_le used disk block (suc n) = by (is_free used disk block) (free_le used disk (block + 1) n)
  where
    by : (t : Bool) → free_in used disk (block + 1) n ≤ n → (if t then 1 else 0) + free_in used disk (block + 1) n ≤ suc n
    by true le = omega (arith, le)
    by false le = omega (arith, le)

pub free_busy : (used : List Subdisk) (disk block l m n : ℕ) → l + m ≡ n → ((b : ℕ) → block ≤ b → b < block + l → is_free used disk b ≡ false) → free_in used disk block n ≡ free_in used disk (block + l) m
free_busy used disk block zero m n is none = ap (free_in used disk block) (let e : n ≡ m = omega (arith, is) in e) ∙ ap (λ (b : ℕ). free_in used disk b m) (let e : block ≡ block + 0 = omega arith in e)
free_busy used disk block (suc l) m n is none =
    let n_is : n ≡ suc (l + m) = omega (arith, is) in
    let here : is_free used disk block ≡ false = none block (omega arith) (omega arith) in
    ap (free_in used disk block) n_is ∙ ap (λ (t : Bool). (if t then 1 else 0) + free_in used disk (block + 1) (l + m)) here ∙ zero_plus (free_in used disk (block + 1) (l + m))
    ∙ free_busy used disk (block + 1) l m (l + m) refl (λ b low high. none b (omega (arith, low)) (omega (arith, high)))
    ∙ ap (λ (b : ℕ). free_in used disk b m) (let e : block + 1 + l ≡ block + suc l = omega arith in e)
  where
    zero_plus : (k : ℕ) → 0 + k ≡ k
    zero_plus k = omega arith

pub free_run : (used : List Subdisk) (disk block l m n : ℕ) → l + m ≡ n → ((b : ℕ) → block ≤ b → b < block + l → is_free used disk b ≡ true) → free_in used disk block n ≡ l + free_in used disk (block + l) m
free_run used disk block zero m n is all = ap (free_in used disk block) (let e : n ≡ m = omega (arith, is) in e) ∙ ap (λ (b : ℕ). free_in used disk b m) (let e : block ≡ block + 0 = omega arith in e) ∙ (let e : free_in used disk (block + 0) m ≡ 0 + free_in used disk (block + 0) m = omega arith in e)
free_run used disk block (suc l) m n is all =
    let n_is : n ≡ suc (l + m) = omega (arith, is) in
    let here : is_free used disk block ≡ true = all block (omega arith) (omega arith) in
    let first : free_in used disk block n ≡ 1 + free_in used disk (block + 1) (l + m) = ap (free_in used disk block) n_is ∙ ap (λ (t : Bool). (if t then 1 else 0) + free_in used disk (block + 1) (l + m)) here in
    let rest : free_in used disk (block + 1) (l + m) ≡ l + free_in used disk (block + 1 + l) m = free_run used disk (block + 1) l m (l + m) refl (λ b low high. all b (omega (arith, low)) (omega (arith, high))) in
    let at : free_in used disk (block + 1 + l) m ≡ free_in used disk (block + suc l) m = ap (λ (b : ℕ). free_in used disk b m) (let e : block + 1 + l ≡ block + suc l = omega arith in e) in
    omega (arith, first, rest, at)

-- behind a gap so many fewer are free
pub free_gap : (used : List Subdisk) (disk from end : ℕ) (gap : Gap) → IsGap used disk from end gap → free_in used disk from (end - from) ≡ gap.blocks + free_in used disk (gap.start + gap.blocks) (end - (gap.start + gap.blocks))
free_gap used disk from end gap is =
    let skipped : free_in used disk from (end - from) ≡ free_in used disk (from + (gap.start - from)) (end - gap.start) = free_busy used disk from (gap.start - from) (end - gap.start) (end - from) (omega (arith, is.behind, is.within)) (λ b low high. is.before b low (omega (arith, high, is.behind))) in
    let at : free_in used disk (from + (gap.start - from)) (end - gap.start) ≡ free_in used disk gap.start (end - gap.start) = ap (λ (b : ℕ). free_in used disk b (end - gap.start)) (let e : from + (gap.start - from) ≡ gap.start = omega (arith, is.behind) in e) in
    skipped ∙ at ∙ free_run used disk gap.start gap.blocks (end - (gap.start + gap.blocks)) (end - gap.start) (omega (arith, is.within)) is.free

pub count_more : (used : List Subdisk) (disk end block free : ℕ) (gap : Gap) → (free + free_in used disk block (end - block) ≡ free_in used disk 512 (end - 512)) × (free ≤ block) × ((block ≤ end) ⊎ (block ≡ 512)) → IsGap used disk block end gap
    → (free + gap.blocks + free_in used disk (gap.start + gap.blocks) (end - (gap.start + gap.blocks)) ≡ free_in used disk 512 (end - 512)) × (free + gap.blocks ≤ gap.start + gap.blocks) × ((gap.start + gap.blocks ≤ end) ⊎ (gap.start + gap.blocks ≡ 512))
count_more used disk end block free gap so_far is = (omega (arith, so_far.0, free_gap used disk block end gap is), omega (arith, so_far.1, is.behind), inl is.within)
