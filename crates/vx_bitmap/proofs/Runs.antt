-- A run of regions that passes the ends of blocks.
use Rattle.std.proofs.Common.{◌≡◌, ◌∙◌, ◌⊎◌, inl, inr, ⊎_elim, ℕ, ◌+◌, ◌*◌, ◌/◌, ◌%◌, ◌<◌, ◌≤◌, Bool, true, false, List, length, refl, sym, ap, arith}
use Rattle.std.specs.Prelude.{◌&&◌, ◌==◌, leb, ltb, if◌then◌else◌, min, max, Err}
use Rattle.std.proofs.lemmas.Bool.{and_parts, cases_lt, lt-ltb, le-leb, leb-true}
use Rattle.std.proofs.lemmas.Bool.Decides.{nat_tests}
use Rattle.std.proofs.lemmas.Nat.{mul-le}
use Rattle.std.proofs.Math.Nat.{add-mul}
use Rattle.vx_disk.specs.Causes.{Cause, DeviceCause, refusal_of}
use Rattle.vx_disk.specs.Moves.{Moves, Run}
use Rattle.vx_disk.specs.Shelf.{Goes, Meaning, Or, Values}
use Rattle.vx_disk.specs.declared.shelf.ShelfError.{ShelfError}
use Rattle.vx_disk.specs.declared.shelf.ShelfError.TheVariants.{Fault, Down}
use Rattle.vx_disk.proofs.Moving.{goes_on, still}
use Rattle.vx_disk.proofs.Runs.{both_Goes, weaker}
use Rattle.vx_bitmap.specs.Bits.{AllAre, Between, Changed, ChangedBelow, is_among, is_marked}
use Rattle.vx_bitmap.specs.Maps.{ChangedAt, Changing, MapOn, marks_with}
use Rattle.vx_bitmap.proofs.Marks.{below_end}

-- ---- tests of the run and of its part in a block

pub among_is : (start end r : ℕ) → start ≤ r → r ≤ end → is_among start end r ≡ true
among_is start end r a b = rw (le-leb start r a, le-leb r end b) refl

among_before : (start end r : ℕ) → r < start → is_among start end r ≡ false
among_before start end r lt = let no : leb start r ≡ false = grind (arith, nat_tests) in ap (λ (b : Bool). b && leb r end) no

among_behind : (start end r : ℕ) → end < r → is_among start end r ≡ false
among_behind start end r lt = let no : leb r end ≡ false = grind (arith, nat_tests) in ap (λ (b : Bool). leb start r && b) no ∙ and_no (leb start r) where
  and_no : (b : Bool) → (b && false) ≡ false
  and_no true = refl
  and_no false = refl

not_below : (r n : ℕ) → n ≤ r → ltb r n ≡ false
not_below r n le = grind (arith, nat_tests)

and_no : (b : Bool) → (b && false) ≡ false
and_no true = refl
and_no false = refl

and_yes : (b : Bool) → (b && true) ≡ b
and_yes true = refl
and_yes false = refl

-- the part of the run in this block and the run are one within the block
part_is : (start end n r : ℕ) → n ≤ r → r < n + 4096 → is_among (max start n) (min end (n + 4095)) r ≡ is_among start end r
part_is start end n r first last =
    ⊎_elim
    (λ (lt : r < start). among_before (max start n) (min end (n + 4095)) r (omega (arith, lt)) ∙ sym (among_before start end r lt))
    (λ (ge : start ≤ r). ⊎_elim
    (λ (gt : end < r). among_behind (max start n) (min end (n + 4095)) r (omega (arith, gt)) ∙ sym (among_behind start end r gt))
    (λ (le : r ≤ end). among_is (max start n) (min end (n + 4095)) r (omega (arith, ge, first)) (omega (arith, le, last)) ∙ sym (among_is start end r ge le))
    (cases_lt end r))
    (cases_lt r start)

next_block : (start end n r : ℕ) (value o x y : Bool) → x ≡ (if is_among start end r && ltb r n then value else o) → y ≡ (if is_among (max start n) (min end (n + 4095)) r then value else x)
    → y ≡ (if is_among start end r && ltb r (n + 4096) then value else o)
next_block start end n r value o x y one two =
    ⊎_elim
    (λ (lt : r < n).
    two ∙ ap (λ (b : Bool). if b then value else x) (among_before (max start n) (min end (n + 4095)) r (omega (arith, lt))) ∙ one
    ∙ ap (λ (b : Bool). if is_among start end r && b then value else o) (lt-ltb r n lt ∙ sym (lt-ltb r (n + 4096) (omega (arith, lt)))))
    (λ (ge : n ≤ r).
    let x_is : x ≡ o = one ∙ ap (λ (b : Bool). if b then value else o) (ap (λ (b : Bool). is_among start end r && b) (not_below r n ge) ∙ and_no (is_among start end r)) in
    ⊎_elim
    (λ (lt : r < n + 4096).
    two ∙ ap (λ (b : Bool). if b then value else x) (part_is start end n r ge lt) ∙ ap (λ (z : Bool). if is_among start end r then value else z) x_is
    ∙ ap (λ (b : Bool). if b then value else o) (sym (ap (λ (b : Bool). is_among start end r && b) (lt-ltb r (n + 4096) lt) ∙ and_yes (is_among start end r))))
    (λ (past : n + 4096 ≤ r).
    two ∙ ap (λ (b : Bool). if b then value else x) (among_behind (max start n) (min end (n + 4095)) r (omega (arith, past))) ∙ x_is
    ∙ ap (λ (b : Bool). if b then value else o) (sym (ap (λ (b : Bool). is_among start end r && b) (not_below r (n + 4096) past) ∙ and_no (is_among start end r))))
    (cases_lt r (n + 4096)))
    (cases_lt r n)

below_is : (start end n r : ℕ) (value o x : Bool) → x ≡ (if is_among start end r && ltb r n then value else o) → (x ≡ o) ⊎ ((is_among start end r ≡ true) × (x ≡ value))
below_is start end n r value o x is = by (is_among start end r) (ltb r n) refl is where
  by : (a b : Bool) → is_among start end r ≡ a → x ≡ (if a && b then value else o) → (x ≡ o) ⊎ ((is_among start end r ≡ true) × (x ≡ value))
  by true true a_is e = inr (a_is, e)
  by true false a_is e = inl e
  by false b a_is e = inl e

-- a later cause is one from the start
pub cause_from : (old mid new : Meaning) (unit : ℕ) (e : ShelfError) → ((d : ℕ) → old.disk_faults d ≤ mid.disk_faults d) → Cause {T = Unit {0}} mid new unit (Err e) → DeviceCause old new (refusal_of e)
cause_from old mid new unit (Fault disk) counts cause = record {
  fell_not = omega (arith, counts disk, cause.0.disk_count.fell_not);
  rose = ⊎_elim (λ lt. inl (omega (arith, counts disk, lt))) (λ top. inr top) cause.0.disk_count.rose;
}
cause_from old mid new unit Down counts cause = cause

-- ---- the loop

-- the blocks before one are done
pub record DoneTo (unit first start end : ℕ) (value : Bool) (n : ℕ) (old now : List ℕ) (m mid : Meaning) : Type 0 where
  pub long : length now ≡ length old
  pub below : ChangedBelow start end value n (8 * length old) (is_marked old) (is_marked now)
  pub moves : Moves (Run unit first (length old / 512)) (Changing (record { unit = unit; first = first; bytes = old }) start end value m) m mid
  pub stands : MapOn (record { unit = unit; first = first; bytes = old }) m → MapOn (record { unit = unit; first = first; bytes = now }) mid

pub done_none : (unit first start end n : ℕ) (value : Bool) (old : List ℕ) (m : Meaning) → n ≤ start → DoneTo unit first start end value n old old m m
done_none unit first start end n value old m le = record {
  long = refl;
  below = record { each = λ r low. ap (λ (b : Bool). if b then value else is_marked old r) (sym (none r)) };
  moves = still (Run unit first (length old / 512)) (Changing (record { unit = unit; first = first; bytes = old }) start end value m) m;
  stands = λ on. on;
}
  where
    none : (r : ℕ) → (is_among start end r && ltb r n) ≡ false
    none r =
        ⊎_elim
        (λ (lt : r < start). ap (λ (b : Bool). b && ltb r n) (among_before start end r lt))
        (λ (ge : start ≤ r). ap (λ (b : Bool). is_among start end r && b) (not_below r n (omega (arith, le, ge))) ∙ and_no (is_among start end r))
        (cases_lt r start)

module _ (unit first start end n from to : ℕ) (value : Bool) (old mid_bytes : List ℕ) (m mid m' : Meaning) (at : DoneTo unit first start end value n old mid_bytes m mid)
    (from_is : from ≡ max start n) (to_is : to ≡ min end (n + 4095)) where
  part : (r : ℕ) → is_among from to r ≡ is_among (max start n) (min end (n + 4095)) r
  part r = rw (from_is, to_is) refl

  -- the step of a block, whatever it answers
  pub next_moves : Moves (Run unit first (length mid_bytes / 512)) (Changing (record { unit = unit; first = first; bytes = mid_bytes }) from to value mid) mid m'
      → Moves (Run unit first (length old / 512)) (Changing (record { unit = unit; first = first; bytes = old }) start end value m) m m'
  next_moves moves =
      goes_on (Run unit first (length old / 512)) (Run unit first (length mid_bytes / 512)) (Changing (record { unit = unit; first = first; bytes = old }) start end value m)
      (Changing (record { unit = unit; first = first; bytes = mid_bytes }) from to value mid) m mid m' at.moves moves
      (λ u b run. record { there = run.there; first = run.first; last = omega (arith, run.last, at.long) })
      (λ i beside changing. record {
        each = λ on. record {
          each = λ r low.
              elim ((changing.each (at.stands on)).each r (omega (arith, low, at.long))) [
                | inl same ↦ elim (below_is start end n r value (is_marked old r) (is_marked mid_bytes r) (at.below.each r low)) [
                  | inl was ↦ inl (same ∙ was)
                  | inr now ↦ inr (now.0, same ∙ now.1)
                ]
                | inr now ↦ inr (wider_run r now.0, now.1)
              ];
        };
      })
    where
      wider_run : (r : ℕ) → is_among from to r ≡ true → is_among start end r ≡ true
      wider_run r is =
          let parts = and_parts (leb from r) (leb r to) is in
          among_is start end r (let le = leb-true from r parts.0 in omega (arith, le, from_is)) (let le = leb-true r to parts.1 in omega (arith, le, to_is))

  -- the same block by block
  pub next_writes : Goes (ChangedAt (record { unit = unit; first = first; bytes = old }) start end value m) m mid → Goes (ChangedAt (record { unit = unit; first = first; bytes = mid_bytes }) from to value mid) mid m'
      → Goes (ChangedAt (record { unit = unit; first = first; bytes = old }) start end value m) m m'
  next_writes one two =
      weaker (Or before (ChangedAt (record { unit = unit; first = first; bytes = mid_bytes }) from to value mid)) before m m' (both_Goes before (ChangedAt (record { unit = unit; first = first; bytes = mid_bytes }) from to value mid) m mid m' one two)
      (λ u b x. ⊎_elim (λ is. is) (λ is. record {
        run = record { there = is.run.there; first = is.run.first; last = omega (arith, is.run.last, at.long) };
        so = λ on. record { each = λ r low. by r x b ((is.so (at.stands on)).each r (omega (arith, low, at.long))) (first + r / 4096 == b) refl low };
      }))
    where
      before : Values
      before = ChangedAt (record { unit = unit; first = first; bytes = old }) start end value m

      wider_to : (r : ℕ) → is_among from to r ≡ true → is_among start end r ≡ true
      wider_to r is =
          let parts = and_parts (leb from r) (leb r to) is in
          among_is start end r (let le = leb-true from r parts.0 in omega (arith, le, from_is)) (let le = leb-true r to parts.1 in omega (arith, le, to_is))

      by : (r : ℕ) (x : List ℕ) (b : ℕ)
          → (marks_with (record { unit = unit; first = first; bytes = mid_bytes }) b x r ≡ is_marked mid_bytes r) ⊎ ((is_among from to r ≡ true) × (marks_with (record { unit = unit; first = first; bytes = mid_bytes }) b x r ≡ value))
          → (t : Bool) → (first + r / 4096 == b) ≡ t → r < 8 * length old
          → (marks_with (record { unit = unit; first = first; bytes = old }) b x r ≡ is_marked old r) ⊎ ((is_among start end r ≡ true) × (marks_with (record { unit = unit; first = first; bytes = old }) b x r ≡ value))
      by r x b now false test low = inl (ap (λ (t : Bool). if t then is_marked x (r % 4096) else is_marked old r) test)
      by r x b now true test low =
          let here : marks_with (record { unit = unit; first = first; bytes = old }) b x r ≡ is_marked x (r % 4096) = ap (λ (t : Bool). if t then is_marked x (r % 4096) else is_marked old r) test in
          let there : is_marked x (r % 4096) ≡ marks_with (record { unit = unit; first = first; bytes = mid_bytes }) b x r = sym (ap (λ (t : Bool). if t then is_marked x (r % 4096) else is_marked mid_bytes r) test) in
          elim now [
            | inl same ↦ elim (below_is start end n r value (is_marked old r) (is_marked mid_bytes r) (at.below.each r low)) [
              | inl was ↦ inl (here ∙ there ∙ same ∙ was)
              | inr set ↦ inr (set.0, here ∙ there ∙ same ∙ set.1)
            ]
            | inr set ↦ inr (wider_to r set.0, here ∙ there ∙ set.1)
          ]

  pub done_next : (now : List ℕ) → length now ≡ length mid_bytes → Changed from to value (8 * length mid_bytes) (is_marked mid_bytes) (is_marked now)
      → Moves (Run unit first (length mid_bytes / 512)) (Changing (record { unit = unit; first = first; bytes = mid_bytes }) from to value mid) mid m'
      → (MapOn (record { unit = unit; first = first; bytes = mid_bytes }) mid → MapOn (record { unit = unit; first = first; bytes = now }) m')
      → DoneTo unit first start end value (n + 4096) old now m m'
  done_next now long changed moves stands = record {
    long = long ∙ at.long;
    below = record {
      each = λ r low. next_block start end n r value (is_marked old r) (is_marked mid_bytes r) (is_marked now r) (at.below.each r low)
          (changed.each r (omega (arith, low, at.long)) ∙ ap (λ (b : Bool). if b then value else is_marked mid_bytes r) (part r));
    };
    moves = next_moves moves;
    stands = λ on. stands (at.stands on);
  }

  pub done_part : Between start end value (8 * length old) (is_marked old) (is_marked mid_bytes)
  done_part = record { each = λ r low. below_is start end n r value (is_marked old r) (is_marked mid_bytes r) (at.below.each r low) }

  pub done_all : end < n → Changed start end value (8 * length old) (is_marked old) (is_marked mid_bytes)
  done_all past = record { each = λ r low. at.below.each r low ∙ ap (λ (b : Bool). if b then value else is_marked old r) (below_end start end n r past) }

  -- where all have the value, the rest of the run has it
  pub rest_are : AllAre start end value (is_marked old) → end < 8 * length old → AllAre from to value (is_marked mid_bytes)
  rest_are all inside = record {
    each = λ r low high.
        at.below.each r (omega (arith, high, inside, to_is))
        ∙ ap (λ (b : Bool). if b then value else is_marked old r) (ap (λ (b : Bool). is_among start end r && b) (not_below r n (omega (arith, low, from_is))) ∙ and_no (is_among start end r))
        ∙ all.each r (omega (arith, low, from_is)) (omega (arith, high, to_is));
  }

-- a slot ends where a later one begins
pub slot_before : (k s stride : ℕ) → k < s → k * stride + stride ≤ s * stride
slot_before k s stride lt = let one = mul-le (k + 1) stride s stride (omega (arith, lt)) (omega arith) in let two : (k + 1) * stride ≡ k * stride + 1 * stride = add-mul k 1 stride in omega (arith, one, two)
