-- Notes in the map of one plex.
use Rattle.std.proofs.Common.{◌≡◌, ◌∙◌, ◌⊎◌, inl, inr, ⊎_elim, ℕ, ◌+◌, ◌-◌, ◌*◌, ◌/◌, ◌%◌, ◌^◌, ◌<◌, ◌≤◌, Bool, true, false, List, refl, sym, ap, subst, arith}
use Rattle.std.specs.Prelude.{◌&&◌, ◌||◌, ◌==◌, not, if◌then◌else◌, OnOk, Result, Ok, Err}
use Rattle.std.proofs.lemmas.Bool.{cases_eq, eq-eqb, eqb-true}
pub use Rattle.vx_bitmap.proofs.Runs.{among_is}
use Rattle.vx_bitmap.specs.Bits.{Changed, is_among, is_marked}
use Rattle.vx_bitmap.specs.Maps.{ChangedAt, MapOn, SamePlace, map_block_count, marks_with, regions_mapped}
use Rattle.vx_disk.specs.Moves.{Run}
use Rattle.vx_disk.specs.Shelf.{Goes, Meaning, Or}
use Rattle.vx_disk.proofs.Runs.{both_Goes, weaker}
use Rattle.vx_fmr.specs.Missed.{IsMissedKept, Missed, OthersSame, SameMissedShape, has_missed, missed_place}
use Rattle.vx_fmr.proofs.Places.{others_same, plex_part}
use Rattle.vx_logs.specs.Noting.{FmrNoted, MayBeNoted, Noted, NotedAt, SameFmr, this_plex, noted_region}

-- ---- one bit after another

pub maybe_then : (those : ℕ → Bool) (anew : Bool) (first last p r : ℕ) (was mid now : Bool) → MayBeNoted those anew first last p r was mid → MayBeNoted those anew first last p r mid now → MayBeNoted those anew first last p r was now
maybe_then those anew first last p r was mid now one (inl same) = subst (λ (b : Bool). MayBeNoted those anew first last p r was b) (sym same) one
maybe_then those anew first last p r was mid now one (inr changed) = inr changed

-- what a finished note is, bit by bit
pub noted_maybe : (those : ℕ → Bool) (anew : Bool) (first last p r : ℕ) (was now : Bool) → now ≡ (if those p then noted_region anew first last r was else was) → MayBeNoted those anew first last p r was now
noted_maybe those anew first last p r was now is = by (those p) anew (is_among first last r) was refl refl refl refl is
  where
    by : (t a m w : Bool) → those p ≡ t → anew ≡ a → is_among first last r ≡ m → was ≡ w → now ≡ (if t then (m || (not a && w)) else w) → MayBeNoted those anew first last p r was now
    by false a m w t_is a_is m_is w_is e = inl (e ∙ sym w_is)
    by true a true w t_is a_is m_is w_is e = inr (t_is, inl (m_is, e))
    by true true false w t_is a_is m_is w_is e = inr (t_is, inr (a_is, e))
    by true false false w t_is a_is m_is w_is e = inl (e ∙ sym w_is)

alone_is : (plex p : ℕ) → p ≡ plex → this_plex plex p ≡ true
alone_is plex p is = eq-eqb p plex is

-- ---- one plex

module _ (f : Missed) (kept : IsMissedKept f.map f.plexes f.stride f.regions) (plex first last : ℕ) (there : plex < f.plexes) (low : last < f.stride) where
  fits : f.plexes * f.stride ≤ regions_mapped f.map
  fits = omega (arith, kept.all)

  -- a value of a block in a change of a run of the plex's map
  pub in_block : (value anew : Bool) (from to : ℕ) (m : Meaning) (u b : ℕ) (x : List ℕ) → ((r : ℕ) (now : Bool) → is_among first last r ≡ true → now ≡ value → ((is_among from to r ≡ true) × (now ≡ true)) ⊎ ((anew ≡ true) × (now ≡ false)))
      → ChangedAt f.map (missed_place f plex first) (missed_place f plex last) value m u b x → NotedAt (this_plex plex) anew from to f m u b x
  in_block value anew from to m u b x may changed = record {
    run = changed.run;
    so = λ on p r lt r_low. elim (cases_eq p plex) [
      | inl is ↦ subst (λ (q : ℕ). MayBeNoted (this_plex plex) anew from to q r (has_missed f q r) (marks_with f.map b x (missed_place f q r))) (sym is)
          (elim ((plex_part f.plexes f.stride (regions_mapped f.map) plex first last value (is_marked f.map.bytes) (marks_with f.map b x) fits there (changed.so on)).each r r_low) [
            | inl same ↦ inl same
            | inr now ↦ inr (alone_is plex plex refl, may r (marks_with f.map b x (missed_place f plex r)) now.0 now.1)
          ])
      | inr other ↦ inl (others_same f.plexes f.stride (regions_mapped f.map) plex first last value (is_marked f.map.bytes) (marks_with f.map b x) fits there low (changed.so on) p r lt r_low other)
    ];
  }

module _ (f g : Missed) (plex first last : ℕ) (others : OthersSame plex f g) where
  -- the map goes on
  pub note_noted : (anew : Bool) → anew ≡ false → Changed first last true f.stride (has_missed f plex) (has_missed g plex) → Noted (this_plex plex) anew first last f g
  note_noted anew on changed = record {
    each = λ p r lt low. elim (cases_eq p plex) [
      | inl is ↦ subst (λ (q : ℕ). has_missed g q r ≡ (if this_plex plex q then noted_region anew first last r (has_missed f q r) else has_missed f q r)) (sym is)
          (changed.each r low ∙ same (is_among first last r) (has_missed f plex r) anew on ∙ sym (ap (λ (t : Bool). if t then noted_region anew first last r (has_missed f plex r) else has_missed f plex r) (alone_is plex plex refl)))
      | inr other ↦ others.each p r lt low other ∙ sym (ap (λ (t : Bool). if t then noted_region anew first last r (has_missed f p r) else has_missed f p r) (not_alone p other))
    ];
  }
    where
      same : (t was a : Bool) → a ≡ false → (if t then true else was) ≡ (t || (not a && was))
      same true was a e = refl
      same false was a e = sym (ap (λ (b : Bool). not b && was) e)

      not_alone : (p : ℕ) → (p ≡ plex → ⊥) → this_plex plex p ≡ false
      not_alone p other = by (this_plex plex p) refl where
        by : (t : Bool) → this_plex plex p ≡ t → t ≡ false
        by true is = absurd (other (eqb-true p plex is))
        by false is = refl

-- the map begins anew, and then goes on
module _ (f g h : Missed) (plex first last : ℕ) (shape : SameMissedShape f g) (emptied : (r : ℕ) → r < f.stride → has_missed g plex r ≡ false) (others : OthersSame plex f g)
    (notes : Noted (this_plex plex) false first last g h) where
  pub anew_noted : (anew : Bool) → anew ≡ true → Noted (this_plex plex) anew first last f h
  anew_noted anew on = record {
    each = λ p r lt low. elim (cases_eq p plex) [
      | inl is ↦ subst (λ (q : ℕ). has_missed h q r ≡ (if this_plex plex q then noted_region anew first last r (has_missed f q r) else has_missed f q r)) (sym is) (here p r lt low is)
      | inr other ↦ there p r lt low other
    ];
  }
    where
      at : (p r : ℕ) → p < f.plexes → r < f.stride → has_missed h p r ≡ (if this_plex plex p then noted_region false first last r (has_missed g p r) else has_missed g p r)
      at p r lt low = notes.each p r (omega (arith, lt, shape.plexes)) (omega (arith, low, shape.stride))

      or_false : (t was a : Bool) → a ≡ true → (t || (true && false)) ≡ (t || (not a && was))
      or_false t was a e = sym (ap (λ (b : Bool). t || (not b && was)) e)

      here : (p r : ℕ) → p < f.plexes → r < f.stride → p ≡ plex → has_missed h plex r ≡ (if this_plex plex plex then noted_region anew first last r (has_missed f plex r) else has_missed f plex r)
      here p r lt low is =
          at plex r (omega (arith, lt, is)) low ∙ ap (λ (t : Bool). if t then noted_region false first last r (has_missed g plex r) else has_missed g plex r) (alone_is plex plex refl)
          ∙ ap (λ (w : Bool). noted_region false first last r w) (emptied r low) ∙ or_false (is_among first last r) (has_missed f plex r) anew on
          ∙ sym (ap (λ (t : Bool). if t then noted_region anew first last r (has_missed f plex r) else has_missed f plex r) (alone_is plex plex refl))

      not_alone : (p : ℕ) → (p ≡ plex → ⊥) → this_plex plex p ≡ false
      not_alone p other = by (this_plex plex p) refl where
        by : (t : Bool) → this_plex plex p ≡ t → t ≡ false
        by true is = absurd (other (eqb-true p plex is))
        by false is = refl

      there : (p r : ℕ) → p < f.plexes → r < f.stride → (p ≡ plex → ⊥) → has_missed h p r ≡ (if this_plex plex p then noted_region anew first last r (has_missed f p r) else has_missed f p r)
      there p r lt low other =
          at p r lt low ∙ ap (λ (t : Bool). if t then noted_region false first last r (has_missed g p r) else has_missed g p r) (not_alone p other) ∙ others.each p r lt low other
          ∙ sym (ap (λ (t : Bool). if t then noted_region anew first last r (has_missed f p r) else has_missed f p r) (not_alone p other))

-- ---- the calls of one note, by what they leave of the maps' blocks

module _ (f : Missed) (kept : IsMissedKept f.map f.plexes f.stride f.regions) (plex first last : ℕ) (there : plex < f.plexes) (inside : last < f.regions) (m m' : Meaning) where
  low : last < f.stride
  low = omega (arith, inside, kept.fit)

  pub note_writes : (anew : Bool) → Goes (ChangedAt f.map (missed_place f plex first) (missed_place f plex last) true m) m m' → Goes (NotedAt (this_plex plex) anew first last f m) m m'
  note_writes anew goes = weaker (ChangedAt f.map (missed_place f plex first) (missed_place f plex last) true m) (NotedAt (this_plex plex) anew first last f m) m m' goes
      (λ u b x changed. in_block f kept plex first last there low true anew first last m u b x (λ r now among value. inl (among, value)) changed)

  pub begin_writes : (anew : Bool) → anew ≡ true → Goes (ChangedAt f.map (missed_place f plex 0) (missed_place f plex (f.stride - 1)) false m) m m' → Goes (NotedAt (this_plex plex) anew first last f m) m m'
  begin_writes anew on goes = weaker (ChangedAt f.map (missed_place f plex 0) (missed_place f plex (f.stride - 1)) false m) (NotedAt (this_plex plex) anew first last f m) m m' goes
      (λ u b x changed. in_block f kept plex 0 (f.stride - 1) there (omega (arith, kept.some, kept.fit)) false anew first last m u b x (λ r now among value. inr (on, value)) changed)

-- a map that stands elsewhere in nothing has the same blocks
pub same_run : (f g : Missed) → SamePlace f.map g.map → (u b : ℕ) → Run g.map.unit g.map.first (map_block_count g.map) u b → Run f.map.unit f.map.first (map_block_count f.map) u b
same_run f g place u b run = record { there = run.there ∙ place.unit; first = omega (arith, run.first, place.first); last = omega (arith, run.last, place.first, place.long) }

-- a region by the test whether this block has it
pub with_there : (f : Missed) (b : ℕ) (x : List ℕ) (p r : ℕ) (t : Bool) → (f.map.first + missed_place f p r / 4096 == b) ≡ t → marks_with f.map b x (missed_place f p r) ≡ (if t then is_marked x (missed_place f p r % 4096) else has_missed f p r)
with_there f b x p r t test = ap (λ (s : Bool). if s then is_marked x (missed_place f p r % 4096) else has_missed f p r) test

pub with_moved : (f g : Missed) (b : ℕ) (x : List ℕ) → SameFmr f g → (p r : ℕ) (t : Bool) → (f.map.first + missed_place f p r / 4096 == b) ≡ t
    → marks_with g.map b x (missed_place g p r) ≡ (if t then is_marked x (missed_place f p r % 4096) else is_marked g.map.bytes (missed_place f p r))
with_moved f g b x same p r t test =
    ap (λ (s : ℕ). marks_with g.map b x (p * s + r)) same.shape.stride ∙ ap (λ (n : ℕ). if (n + missed_place f p r / 4096 == b) then is_marked x (missed_place f p r % 4096) else is_marked g.map.bytes (missed_place f p r)) same.place.first
    ∙ ap (λ (s : Bool). if s then is_marked x (missed_place f p r % 4096) else is_marked g.map.bytes (missed_place f p r)) test

-- one note behind another: what the second leaves of a block is left by both
pub blocks_then : (those : ℕ → Bool) (anew : Bool) (first last : ℕ) (f g : Missed) (m m1 : Meaning) (u b : ℕ) (x : List ℕ) → SameFmr f g → (MapOn f.map m → MapOn g.map m1)
    → ((p r : ℕ) → p < f.plexes → r < f.stride → MayBeNoted those anew first last p r (has_missed f p r) (has_missed g p r)) → NotedAt those anew first last g m1 u b x → NotedAt those anew first last f m u b x
blocks_then those anew first last f g m m1 u b x same stands far near = record {
  run = same_run f g same.place u b near.run;
  so = λ on p r lt low. by p r lt low (near.so (stands on) p r (omega (arith, lt, same.shape.plexes)) (omega (arith, low, same.shape.stride))) (f.map.first + missed_place f p r / 4096 == b) refl;
}
  where
    by : (p r : ℕ) → p < f.plexes → r < f.stride → MayBeNoted those anew first last p r (has_missed g p r) (marks_with g.map b x (missed_place g p r)) → (t : Bool) → (f.map.first + missed_place f p r / 4096 == b) ≡ t
        → MayBeNoted those anew first last p r (has_missed f p r) (marks_with f.map b x (missed_place f p r))
    by p r lt low now false test = inl (with_there f b x p r false test)
    by p r lt low now true test =
        maybe_then those anew first last p r (has_missed f p r) (has_missed g p r) (marks_with f.map b x (missed_place f p r)) (far p r lt low)
        (subst (λ (w : Bool). MayBeNoted those anew first last p r (has_missed g p r) w) (with_moved f g b x same p r true test ∙ sym (with_there f b x p r true test)) now)

pub then_writes : (those : ℕ → Bool) (anew : Bool) (first last : ℕ) (f g : Missed) (m m1 m2 : Meaning) → SameFmr f g → (MapOn f.map m → MapOn g.map m1)
    → ((p r : ℕ) → p < f.plexes → r < f.stride → MayBeNoted those anew first last p r (has_missed f p r) (has_missed g p r))
    → Goes (NotedAt those anew first last f m) m m1 → Goes (NotedAt those anew first last g m1) m1 m2 → Goes (NotedAt those anew first last f m) m m2
then_writes those anew first last f g m m1 m2 same stands far one two =
    weaker (Or (NotedAt those anew first last f m) (NotedAt those anew first last g m1)) (NotedAt those anew first last f m) m m2 (both_Goes (NotedAt those anew first last f m) (NotedAt those anew first last g m1) m m1 m2 one two)
    (λ u b x. ⊎_elim (λ is. is) (λ near. blocks_then those anew first last f g m m1 u b x same stands far near))

pub kept_later : (f g : Missed) → IsMissedKept f.map f.plexes f.stride f.regions → SameFmr f g → IsMissedKept g.map g.plexes g.stride g.regions
kept_later f g kept same = record {
  some = omega (arith, kept.some, same.shape.regions);
  fit = omega (arith, kept.fit, same.shape.regions, same.shape.stride);
  all = ap (λ (n : ℕ). n * g.stride) same.shape.plexes ∙ ap (λ (n : ℕ). f.plexes * n) same.shape.stride ∙ kept.all ∙ ap (λ (n : ℕ). 8 * n) (sym same.place.long);
  few = subst (λ (n : ℕ). n * g.stride < 2 ^ 64) (sym same.shape.plexes) (subst (λ (n : ℕ). f.plexes * n < 2 ^ 64) (sym same.shape.stride) kept.few);
}

-- ---- a map that begins anew and is then noted

module _ (f g : Missed) (kept : IsMissedKept f.map f.plexes f.stride f.regions) (plex first last : ℕ) (there : plex < f.plexes) (inside : last < f.regions) (m m1 m2 : Meaning)
    (place : SamePlace f.map g.map) (shape : SameMissedShape f g) (others : OthersSame plex f g) where
  pub kept_on : IsMissedKept g.map g.plexes g.stride g.regions
  kept_on = kept_later f g kept (record { place = place; shape = shape })

  module _ (anew : Bool) (on : anew ≡ true) (emptied : Changed 0 (f.stride - 1) false f.stride (has_missed f plex) (has_missed g plex)) where
    none : (r : ℕ) → r < f.stride → has_missed g plex r ≡ false
    none r r_low = emptied.each r r_low ∙ ap (λ (t : Bool). if t then false else has_missed f plex r) (among_is 0 (f.stride - 1) r (omega arith) (omega (arith, r_low)))

    far : (p r : ℕ) → p < f.plexes → r < f.stride → MayBeNoted (this_plex plex) anew first last p r (has_missed f p r) (has_missed g p r)
    far p r lt r_low = elim (cases_eq p plex) [
      | inl is ↦ inr (eq-eqb p plex is, inr (on, ap (λ (q : ℕ). has_missed g q r) is ∙ none r r_low))
      | inr other ↦ inl (others.each p r lt r_low other)
    ]

    pub both_writes : (MapOn f.map m → MapOn g.map m1) → Goes (ChangedAt f.map (missed_place f plex 0) (missed_place f plex (f.stride - 1)) false m) m m1
        → Goes (ChangedAt g.map (missed_place g plex first) (missed_place g plex last) true m1) m1 m2 → Goes (NotedAt (this_plex plex) anew first last f m) m m2
    both_writes stands one two =
        then_writes (this_plex plex) anew first last f g m m1 m2 (record { place = place; shape = shape }) stands far (begin_writes f kept plex first last there inside m m1 anew on one)
        (note_writes g kept_on plex first last (omega (arith, there, shape.plexes)) (omega (arith, inside, shape.regions)) m1 m2 anew two)

    pub both_noted : (h : Missed) → (MapOn f.map m → MapOn g.map m1) → (MapOn g.map m1 → MapOn h.map m2) → Changed first last true g.stride (has_missed g plex) (has_missed h plex) → OthersSame plex g h
        → SamePlace g.map h.map → SameMissedShape g h → FmrNoted (this_plex plex) anew first last f h m m2
    both_noted h stands after changed others2 place2 shape2 = record {
      same = record {
        place = record { unit = place2.unit ∙ place.unit; first = place2.first ∙ place.first; long = place2.long ∙ place.long };
        shape = record { plexes = shape2.plexes ∙ shape.plexes; stride = shape2.stride ∙ shape.stride; regions = shape2.regions ∙ shape.regions };
      };
      notes = anew_noted f g h plex first last shape none others (note_noted g h plex first last others2 false refl changed) anew on;
      stands = λ is. after (stands is);
    }

-- what holds at Ok
pub ok_noted : {T E : Type 0} (f g : Missed) (plex first last : ℕ) (m m' : Meaning) (anew : Bool) → anew ≡ false → SamePlace f.map g.map → SameMissedShape f g → OthersSame plex f g → (r : Result T E)
    → OnOk r (Changed first last true f.stride (has_missed f plex) (has_missed g plex)) → OnOk r (MapOn f.map m → MapOn g.map m') → OnOk r (FmrNoted (this_plex plex) anew first last f g m m')
ok_noted f g plex first last m m' anew on place shape others (Ok x) changed stands = record { same = record { place = place; shape = shape }; notes = note_noted f g plex first last others anew on changed; stands = stands }
ok_noted f g plex first last m m' anew on place shape others (Err e) changed stands = stands

pub ok_both : {T E : Type 0} (f g h : Missed) (kept : IsMissedKept f.map f.plexes f.stride f.regions) (plex first last : ℕ) (there : plex < f.plexes) (inside : last < f.regions) (m m1 m2 : Meaning)
    → SamePlace f.map g.map → SameMissedShape f g → OthersSame plex f g → (anew : Bool) → anew ≡ true → Changed 0 (f.stride - 1) false f.stride (has_missed f plex) (has_missed g plex)
    → (MapOn f.map m → MapOn g.map m1) → OthersSame plex g h → SamePlace g.map h.map → SameMissedShape g h → (r : Result T E)
    → OnOk r (Changed first last true g.stride (has_missed g plex) (has_missed h plex)) → OnOk r (MapOn g.map m1 → MapOn h.map m2) → OnOk r (FmrNoted (this_plex plex) anew first last f h m m2)
ok_both f g h kept plex first last there inside m m1 m2 place shape others anew on emptied stands others2 place2 shape2 (Ok x) changed after = both_noted f g kept plex first last there inside m m1 m2 place shape others anew on emptied h stands after changed others2 place2 shape2
ok_both f g h kept plex first last there inside m m1 m2 place shape others anew on emptied stands others2 place2 shape2 (Err e) changed after = after
