-- What is found is free, lies in public regions, and overlaps nothing.
use Rattle.std.proofs.Common.{◌≡◌, ◌⊎◌, inl, inr, ℕ, zero, suc, ◌+◌, ◌-◌, ◌<◌, ◌≤◌, Bool, true, false, Option, Some, None, List, [], ◌∷◌, ◌++◌, refl, ap, sym, ◌∙◌, subst, arith}
use Rattle.std.specs.Prelude.{◌&&◌, ◌||◌, ◌==◌, not, nat_le, min, max, slice_get, sum_by, if◌then◌else◌}
use Rattle.std.specs.List.{list_all, list_any}
use Rattle.std.proofs.lemmas.Bool.{cases_lt, eq-eqb, eqb-true, false_from_ne_true, le-leb}
use Rattle.std.proofs.lemmas.List.Sums.{sum_by-append, sum_by-cons}
use Rattle.vx_config.specs.declared.entry.DiskEntry.{DiskEntry}
use Rattle.vx_config.specs.declared.entry.Subdisk.{Subdisk}
use Rattle.vx_config.specs.Checks.{are_apart, ends_within, in_region, pairwise, blocks_or}
use Rattle.vx_layout.specs.Places.{subdisk_blocks, disk_blocks, lies_on}
use Rattle.vx_layout.specs.Free.{AreLowest, IsNext, free_blocks, holds, is_free}
use Rattle.vx_layout.specs.Space.{AreSpread, OnOne, OnSeveral, disk_room}
use Rattle.vx_layout.proofs.Pairs.{and_left, and_right, pairs_across}
use Rattle.vx_layout.proofs.Gaps.{busy_at, holds_from, not_both}

-- a run with blocks that are free, in the public region of its disk
pub record IsFresh (used : List Subdisk) (disks : List DiskEntry) (s : Subdisk) : Type 0 where
  pub some : 0 < s.blocks
  pub region : in_region disks s ≡ true
  pub free : (b : ℕ) → s.start ≤ b → b < s.start + s.blocks → is_free used s.disk b ≡ true

-- runs that are so, that lie on no disk of these others, and that do not overlap
pub record AreFresh (used : List Subdisk) (disks : List DiskEntry) (found ss : List Subdisk) : Type 0 where
  pub fresh : (k : ℕ) (s : Subdisk) → slice_get ss k ≡ Some s → IsFresh used disks s
  pub away : (k j : ℕ) (s t : Subdisk) → slice_get ss k ≡ Some s → slice_get found j ≡ Some t → t.disk ≡ s.disk → ⊥
  pub pairs : pairwise are_apart ss ≡ true

-- ---- runs that are apart

apart_behind : (s t : Subdisk) → s.start + s.blocks ≤ t.start → are_apart s t ≡ true
unfolding are_apart
apart_behind s t le = by (s.disk == t.disk) (let less : min (s.start + s.blocks) (t.start + t.blocks) ≤ max s.start t.start = omega (arith, le) in le-leb _ _ less)
  where
    by : (b : Bool) → nat_le (min (s.start + s.blocks) (t.start + t.blocks)) (max s.start t.start) ≡ true → not b || nat_le (min (s.start + s.blocks) (t.start + t.blocks)) (max s.start t.start) ≡ true
    by true is = is
    by false is = refl

pub apart_disks : (s t : Subdisk) → (s.disk ≡ t.disk → ⊥) → are_apart s t ≡ true
unfolding are_apart
apart_disks s t other = by (s.disk == t.disk) (false_from_ne_true (s.disk == t.disk) (λ is. other (eqb-true s.disk t.disk is)))
  where
    by : (b : Bool) → b ≡ false → not b || nat_le (min (s.start + s.blocks) (t.start + t.blocks)) (max s.start t.start) ≡ true
    by true is = absurd (let clash : true ≡ false = is in cc)
    by false is = refl

-- what is free overlaps no run
pub apart_used : (used : List Subdisk) (disks : List DiskEntry) (s t : Subdisk) (k : ℕ) → IsFresh used disks s → slice_get used k ≡ Some t → are_apart t s ≡ true
unfolding are_apart
apart_used used disks s t k is at = by (t.disk == s.disk) refl (cases_lt (max t.start s.start) (min (t.start + t.blocks) (s.start + s.blocks)))
  where
    by : (b : Bool) → (t.disk == s.disk) ≡ b → (max t.start s.start < min (t.start + t.blocks) (s.start + s.blocks)) ⊎ (min (t.start + t.blocks) (s.start + s.blocks) ≤ max t.start s.start) → not b || nat_le (min (t.start + t.blocks) (s.start + s.blocks)) (max t.start s.start) ≡ true
    by false other any = refl
    by true same (inr le) = le-leb _ _ le
    by true same (inl lt) =
        let block : ℕ = max t.start s.start in
        let here : is_free used s.disk block ≡ true = is.free block (omega arith) (omega (arith, lt)) in
        let held : holds s.disk block t ≡ true = holds_from s.disk block t (eqb-true t.disk s.disk same) (omega arith) (omega (arith, lt)) in
        absurd (not_both here (busy_at used s.disk block k t at held))

-- ---- lists of runs

pub get_split : {A : Type 0} (xs ys : List A) (k : ℕ) (x : A) → slice_get (xs ++ ys) k ≡ Some x → ((i : ℕ) × (slice_get xs i ≡ Some x)) ⊎ ((i : ℕ) × (slice_get ys i ≡ Some x))
get_split [] ys k x at = inr (k, at)
get_split (y ∷ xs) ys zero x at = inl (0, at)
get_split (y ∷ xs) ys (suc k) x at = more (get_split xs ys k x at)
  where
    more : ((i : ℕ) × (slice_get xs i ≡ Some x)) ⊎ ((i : ℕ) × (slice_get ys i ≡ Some x)) → ((i : ℕ) × (slice_get (y ∷ xs) i ≡ Some x)) ⊎ ((i : ℕ) × (slice_get ys i ≡ Some x))
    more (inl w) = inl (suc w.0, w.1)
    more (inr w) = inr w

pub all_from : {A : Type 0} (p : A → Bool) (xs : List A) → ((k : ℕ) (x : A) → slice_get xs k ≡ Some x → p x ≡ true) → list_all p xs ≡ true
all_from p [] each = refl
all_from p (x ∷ xs) each = ap (λ (b : Bool). b && list_all p xs) (each 0 x refl) ∙ all_from p xs (λ k y at. each (suc k) y at)

pub pairs_join : {A : Type 0} (r : A → A → Bool) (xs ys : List A) → pairwise r xs ≡ true → pairwise r ys ≡ true → ((i j : ℕ) (x y : A) → slice_get xs i ≡ Some x → slice_get ys j ≡ Some y → r x y ≡ true) → pairwise r (xs ++ ys) ≡ true
pairs_join {A} r [] ys one two across = two
pairs_join {A} r (x ∷ xs) ys one two across =
    let head : list_all (r x) xs ≡ true = and_left (list_all (r x) xs) (pairwise r xs) one in
    let here : list_all (r x) (xs ++ ys) ≡ true = all_from (r x) (xs ++ ys) (λ k y at. by k y at (get_split xs ys k y at)) in
    ap (λ (b : Bool). b && pairwise r (xs ++ ys)) here ∙ pairs_join r xs ys (and_right (list_all (r x) xs) (pairwise r xs) one) two (λ i j y z at_y at_z. across (suc i) j y z at_y at_z)
  where
    by : (k : ℕ) (y : A) → slice_get (xs ++ ys) k ≡ Some y → ((i : ℕ) × (slice_get xs i ≡ Some y)) ⊎ ((i : ℕ) × (slice_get ys i ≡ Some y)) → r x y ≡ true
    by k y at (inl w) = pairs_across r (x ∷ []) xs 0 w.0 x y one refl w.1
    by k y at (inr w) = across 0 w.0 x y refl w.1

pub fresh_join : (used : List Subdisk) (disks : List DiskEntry) (found a b : List Subdisk) → AreFresh used disks found a → AreFresh used disks (found ++ a) b → AreFresh used disks found (a ++ b)
fresh_join used disks found a b one two = record {
  fresh = λ k s at. by_fresh k s (get_split a b k s at);
  away = λ k j s t at_s at_t same. by_away k j s t at_t same (get_split a b k s at_s);
  pairs = pairs_join are_apart a b one.pairs two.pairs (λ i j s t at_s at_t. let w = get_right' found a i s at_s in apart_disks s t (λ same. two.away j w.0 t s at_t w.1 same));
}
  where
    get_right' : (xs ys : List Subdisk) (i : ℕ) (x : Subdisk) → slice_get ys i ≡ Some x → (j : ℕ) × (slice_get (xs ++ ys) j ≡ Some x)
    get_right' [] ys i x at = (i, at)
    get_right' (y ∷ xs) ys i x at = let it = get_right' xs ys i x at in (suc it.0, it.1)

    get_left' : (xs ys : List Subdisk) (i : ℕ) (x : Subdisk) → slice_get xs i ≡ Some x → (j : ℕ) × (slice_get (xs ++ ys) j ≡ Some x)
    get_left' [] ys i x at = absurd cc
    get_left' (y ∷ xs) ys zero x at = (0, at)
    get_left' (y ∷ xs) ys (suc i) x at = let it = get_left' xs ys i x at in (suc it.0, it.1)

    by_fresh : (k : ℕ) (s : Subdisk) → ((i : ℕ) × (slice_get a i ≡ Some s)) ⊎ ((i : ℕ) × (slice_get b i ≡ Some s)) → IsFresh used disks s
    by_fresh k s (inl w) = one.fresh w.0 s w.1
    by_fresh k s (inr w) = two.fresh w.0 s w.1

    by_away : (k j : ℕ) (s t : Subdisk) → slice_get found j ≡ Some t → t.disk ≡ s.disk → ((i : ℕ) × (slice_get a i ≡ Some s)) ⊎ ((i : ℕ) × (slice_get b i ≡ Some s)) → ⊥
    by_away k j s t at_t same (inl w) = one.away w.0 j s t w.1 at_t same
    by_away k j s t at_t same (inr w) = let v = get_left' found a j t at_t in two.away w.0 v.0 s t w.1 v.1 same

-- ---- the lowest free blocks of a disk

pub region_from : (disks : List DiskEntry) (s : Subdisk) → 0 < s.blocks → 512 ≤ s.start → s.start + s.blocks ≤ disk_blocks disks s.disk → in_region disks s ≡ true
region_from disks s some public end = by (slice_get disks s.disk) refl
  where
    both : {x y : Bool} → x ≡ true → y ≡ true → x && y ≡ true
    both one two = rw one two

    by : (o : Option DiskEntry) → slice_get disks s.disk ≡ o → ends_within s o ≡ true
    by None at = absurd (let none : disk_blocks disks s.disk ≡ 0 = ap blocks_or at in omega (arith, none, end, some))
    by (Some d) at = let is : disk_blocks disks s.disk ≡ d.blocks = ap blocks_or at in both (le-leb 512 s.start public) (le-leb (s.start + s.blocks) d.blocks (omega (arith, is, end)))

pub record AreOn (used : List Subdisk) (disks : List DiskEntry) (disk from wanted : ℕ) (ss : List Subdisk) : Type 0 where
  pub fresh : (k : ℕ) (s : Subdisk) → slice_get ss k ≡ Some s → IsFresh used disks s
  pub on : (k : ℕ) (s : Subdisk) → slice_get ss k ≡ Some s → s.disk ≡ disk
  pub behind : (k : ℕ) (s : Subdisk) → slice_get ss k ≡ Some s → from ≤ s.start
  pub few : (k : ℕ) (s : Subdisk) → slice_get ss k ≡ Some s → 0 < wanted
  pub pairs : pairwise are_apart ss ≡ true
  pub sum : sum_by subdisk_blocks ss ≡ wanted

pub lowest_on : (used : List Subdisk) (disks : List DiskEntry) (disk from wanted : ℕ) (ss : List Subdisk) → 512 ≤ from → AreLowest used disk from (disk_blocks disks disk) wanted ss → AreOn used disks disk from wanted ss
lowest_on used disks disk from wanted [] public is = record { fresh = λ k s at. absurd (none k s at); on = λ k s at. absurd (none k s at); behind = λ k s at. absurd (none k s at); few = λ k s at. absurd (none k s at); pairs = refl; sum = sym is }
  where
    none : (k : ℕ) (s : Subdisk) → slice_get [] k ≡ Some s → ⊥
    none k s at = cc
lowest_on used disks disk from wanted (s ∷ ss) public is =
    step (lowest_on used disks disk (s.start + s.blocks) (wanted - s.blocks) ss (omega (arith, public, is.0.behind)) is.1)
  where
    first : IsNext used disk from (disk_blocks disks disk) wanted s
    first = is.0

    mine : IsFresh used disks s
    mine = record {
      some = first.some;
      region = region_from disks s first.some (omega (arith, public, first.behind)) (let size : disk_blocks disks s.disk ≡ disk_blocks disks disk = ap (disk_blocks disks) first.on in omega (arith, first.within, size));
      free = λ b low high. ap (λ (d : ℕ). is_free used d b) first.on ∙ first.free b low high;
    }

    step : AreOn used disks disk (s.start + s.blocks) (wanted - s.blocks) ss → AreOn used disks disk from wanted (s ∷ ss)
    step rest = record {
      fresh = λ k t at. by_fresh k t at;
      on = λ k t at. by_on k t at;
      behind = λ k t at. by_behind k t at;
      few = λ k t at. omega (arith, first.some, first.few);
      pairs = ap (λ (b : Bool). b && pairwise are_apart ss) (all_from (are_apart s) ss (λ k t at. apart_behind s t (rest.behind k t at))) ∙ rest.pairs;
      sum = let cons = sum_by-cons subdisk_blocks s ss in omega (arith, cons, rest.sum, first.few);
    }
      where
        by_fresh : (k : ℕ) (t : Subdisk) → slice_get (s ∷ ss) k ≡ Some t → IsFresh used disks t
        by_fresh zero t at = let same : s ≡ t = cc in subst (λ (x : Subdisk). IsFresh used disks x) same mine
        by_fresh (suc k) t at = rest.fresh k t at

        by_on : (k : ℕ) (t : Subdisk) → slice_get (s ∷ ss) k ≡ Some t → t.disk ≡ disk
        by_on zero t at = let same : s ≡ t = cc in subst (λ (x : Subdisk). x.disk ≡ disk) same first.on
        by_on (suc k) t at = rest.on k t at

        by_behind : (k : ℕ) (t : Subdisk) → slice_get (s ∷ ss) k ≡ Some t → from ≤ t.start
        by_behind zero t at = let same : s ≡ t = cc in subst (λ (x : Subdisk). from ≤ x.start) same first.behind
        by_behind (suc k) t at = let more = rest.behind k t at in omega (arith, more, first.behind)

-- a disk with room is used by none of those before
room_away : (used : List Subdisk) (disks : List DiskEntry) (found : List Subdisk) (disk j : ℕ) (t : Subdisk) → 0 < disk_room used disks found disk → slice_get found j ≡ Some t → t.disk ≡ disk → ⊥
unfolding disk_room
room_away used disks found disk j t some at same = by (list_any (lies_on disk) found) (any_at found j at) some
  where
    any_at : (xs : List Subdisk) (j : ℕ) → slice_get xs j ≡ Some t → list_any (lies_on disk) xs ≡ true
    any_at [] j at = absurd cc
    any_at (x ∷ xs) zero at = let one : x ≡ t = cc in ap (λ (b : Bool). b || list_any (lies_on disk) xs) (ap (lies_on disk) one ∙ eq-eqb t.disk disk same)
    any_at (x ∷ xs) (suc j) at = or_true (lies_on disk x) (list_any (lies_on disk) xs) (any_at xs j at)
      where
        or_true : (a b : Bool) → b ≡ true → a || b ≡ true
        or_true true b is = refl
        or_true false b is = is

    by : (b : Bool) → b ≡ true → 0 < (if b then 0 else free_blocks used disks disk) → ⊥
    by true is some = omega (arith, some)
    by false is some = let clash : false ≡ true = is in cc

pub one_fresh : (used : List Subdisk) (disks : List DiskEntry) (found : List Subdisk) (blocks : ℕ) (ss : List Subdisk) → OnOne used disks found blocks ss → AreFresh used disks found ss × (sum_by subdisk_blocks ss ≡ blocks)
one_fresh used disks found blocks ss is =
    let on = lowest_on used disks is.disk 512 blocks ss (omega arith) is.are in
    (record { fresh = on.fresh; away = λ k j s t at_s at_t same. room_away used disks found is.disk j t (let some = on.few k s at_s in omega (arith, some, is.first.fits)) at_t (same ∙ on.on k s at_s); pairs = on.pairs }, on.sum)

-- ---- several disks

pub record AreAbove (used : List Subdisk) (disks : List DiskEntry) (found : List Subdisk) (disk blocks : ℕ) (ss : List Subdisk) : Type 0 where
  pub fresh : AreFresh used disks found ss
  pub above : (k : ℕ) (s : Subdisk) → slice_get ss k ≡ Some s → disk ≤ s.disk
  pub sum : sum_by subdisk_blocks ss ≡ blocks

spread_above : (used : List Subdisk) (disks : List DiskEntry) (found : List Subdisk) (disk n blocks : ℕ) (ss : List Subdisk) → AreSpread used disks (disk_room used disks found) disk n blocks ss → AreAbove used disks found disk blocks ss
spread_above used disks found disk zero blocks ss is =
    subst (λ (xs : List Subdisk). AreAbove used disks found disk blocks xs) (sym is.1) (record {
      fresh = record { fresh = λ k s at. absurd (none k s at); away = λ k j s t at. absurd (none k s at); pairs = refl };
      above = λ k s at. absurd (none k s at);
      sum = sym is.0;
    })
  where
    none : (k : ℕ) (s : Subdisk) → slice_get [] k ≡ Some s → ⊥
    none k s at = cc
spread_above used disks found disk (suc n) blocks ss is =
    by is.0 is.1 is.2 (lowest_on used disks disk 512 (min blocks (disk_room used disks found disk)) is.0 (omega arith) is.3) (spread_above used disks found (disk + 1) n (blocks - min blocks (disk_room used disks found disk)) is.1 is.4)
  where
    by : (front back : List Subdisk) → ss ≡ front ++ back → AreOn used disks disk 512 (min blocks (disk_room used disks found disk)) front → AreAbove used disks found (disk + 1) (blocks - min blocks (disk_room used disks found disk)) back → AreAbove used disks found disk blocks ss
    by front back same on rest = subst (λ (xs : List Subdisk). AreAbove used disks found disk blocks xs) (sym same) (record {
      fresh = record {
        fresh = λ k s at. by_fresh k s (get_split front back k s at);
        away = λ k j s t at_s at_t alike. by_away j s t at_t alike (get_split front back k s at_s);
        pairs = pairs_join are_apart front back on.pairs rest.fresh.pairs (λ i j s t at_s at_t. apart_disks s t (λ alike. let low = on.on i s at_s in let high = rest.above j t at_t in omega (arith, alike, low, high)));
      };
      above = λ k s at. by_above k s (get_split front back k s at);
      sum = let e = sum_by-append subdisk_blocks front back in omega (arith, e, on.sum, rest.sum);
    })
      where
        by_fresh : (k : ℕ) (s : Subdisk) → ((i : ℕ) × (slice_get front i ≡ Some s)) ⊎ ((i : ℕ) × (slice_get back i ≡ Some s)) → IsFresh used disks s
        by_fresh k s (inl w) = on.fresh w.0 s w.1
        by_fresh k s (inr w) = rest.fresh.fresh w.0 s w.1

        by_above : (k : ℕ) (s : Subdisk) → ((i : ℕ) × (slice_get front i ≡ Some s)) ⊎ ((i : ℕ) × (slice_get back i ≡ Some s)) → disk ≤ s.disk
        by_above k s (inl w) = let e = on.on w.0 s w.1 in omega (arith, e)
        by_above k s (inr w) = let e = rest.above w.0 s w.1 in omega (arith, e)

        by_away : (j : ℕ) (s t : Subdisk) → slice_get found j ≡ Some t → t.disk ≡ s.disk → ((i : ℕ) × (slice_get front i ≡ Some s)) ⊎ ((i : ℕ) × (slice_get back i ≡ Some s)) → ⊥
        by_away j s t at_t alike (inl w) = room_away used disks found disk j t (let some = on.few w.0 s w.1 in omega (arith, some)) at_t (alike ∙ on.on w.0 s w.1)
        by_away j s t at_t alike (inr w) = rest.fresh.away w.0 j s t w.1 at_t alike

pub several_fresh : (used : List Subdisk) (disks : List DiskEntry) (found : List Subdisk) (blocks : ℕ) (ss : List Subdisk) → OnSeveral used disks found blocks ss → AreFresh used disks found ss × (sum_by subdisk_blocks ss ≡ blocks)
several_fresh used disks found blocks ss is = let it = spread_above used disks found 0 8 blocks ss is.are in (it.fresh, it.sum)
