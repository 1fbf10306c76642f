-- Notes in the maps of several plexes, one after another.
use Rattle.std.proofs.Common.{◌≡◌, ◌∙◌, inl, inr, ℕ, ◌+◌, ◌<◌, ◌≤◌, Bool, true, false, IsTrue, refl, sym, ap, subst, arith}
use Rattle.std.specs.Prelude.{◌&&◌, ltb, if◌then◌else◌}
use Rattle.std.proofs.lemmas.Bool.{and_parts, cases_eq, cases_lt, eq-eqb, eqb-true, lt-ltb, ltb-true}
use Rattle.vx_bitmap.specs.Bits.{AllAre}
use Rattle.vx_bitmap.specs.Maps.{marks_with}
use Rattle.vx_disk.specs.Blocks.{bit_at}
use Rattle.vx_disk.specs.Shelf.{Goes, Meaning}
use Rattle.vx_disk.proofs.Runs.{same_Goes, weaker}
use Rattle.vx_fmr.specs.Missed.{Missed, has_missed, missed_place}
use Rattle.vx_logs.specs.Noting.{FmrHas, FmrNoted, IsMissedMap, IsStill, MayBeNoted, NotedAt, SameFmr, this_plex, below, is_one, noted_region}
use Rattle.vx_logs.proofs.NoteLemmas.{kept_later, noted_maybe, then_writes}

-- the plexes of the set below one have noted the run
pub record NotesTo (n set : ℕ) (anew : Bool) (first last : ℕ) (f g : Missed) (m m' : Meaning) : Type 0 where
  pub noted : FmrNoted (below n set) anew first last f g m m'
  pub writes : Goes (NotedAt (is_one set) anew first last f m) m m'
  pub up : IsTrue m'.down → IsTrue m.down

below_none : (n set p : ℕ) → n ≤ p → below n set p ≡ false
below_none n set p le = by (ltb p n) refl
  where
    by : (t : Bool) → ltb p n ≡ t → (ltb p n && bit_at set p) ≡ false
    by true is = absurd (let lt : p < n = ltb-true p n is in omega (arith, lt, le))
    by false is = ap (λ (t : Bool). t && bit_at set p) is

below_same : (n set p : ℕ) → (p ≡ n → ⊥) → below (n + 1) set p ≡ below n set p
below_same n set p other = ap (λ (t : Bool). t && bit_at set p) (elim (cases_lt p n) [
  | inl lt ↦ lt-ltb p (n + 1) (omega (arith, lt)) ∙ sym (lt-ltb p n lt)
  | inr ge ↦ no (n + 1) p (omega (arith, ge, other)) ∙ sym (no n p ge)
])
  where
    no : (k q : ℕ) → k ≤ q → ltb q k ≡ false
    no k q le = by (ltb q k) refl where
      by : (t : Bool) → ltb q k ≡ t → t ≡ false
      by true is = absurd (let lt : q < k = ltb-true q k is in omega (arith, lt, le))
      by false is = refl

below_last : (n set : ℕ) (b : Bool) → bit_at set n ≡ b → below (n + 1) set n ≡ b
below_last n set b is = ap (λ (t : Bool). t && bit_at set n) (lt-ltb n (n + 1) (omega arith)) ∙ is

pub notes_none : (set : ℕ) (anew : Bool) (first last : ℕ) (f : Missed) (m : Meaning) → NotesTo 0 set anew first last f f m m
notes_none set anew first last f m = record {
  noted = record {
    same = record { place = record { unit = refl; first = refl; long = refl }; shape = record { plexes = refl; stride = refl; regions = refl } };
    notes = record { each = λ p r lt low. sym (ap (λ (t : Bool). if t then noted_region anew first last r (has_missed f p r) else has_missed f p r) (below_none 0 set p (omega arith))) };
    stands = λ on. on;
  };
  writes = same_Goes (NotedAt (is_one set) anew first last f m) m;
  up = λ down. down;
}

module _ (n set : ℕ) (anew : Bool) (first last : ℕ) (f g : Missed) (m m1 : Meaning) (at : NotesTo n set anew first last f g m m1) (few : n < 8) where
  -- a plex that is not in the set
  pub notes_pass : bit_at set n ≡ false → NotesTo (n + 1) set anew first last f g m m1
  notes_pass out = record {
    noted = record {
      same = at.noted.same;
      stands = at.noted.stands;
      notes = record {
        each = λ p r lt low. at.noted.notes.each p r lt low ∙ ap (λ (t : Bool). if t then noted_region anew first last r (has_missed f p r) else has_missed f p r) (same p);
      };
    };
    writes = at.writes;
    up = at.up;
  }
    where
      same : (p : ℕ) → below n set p ≡ below (n + 1) set p
      same p = elim (cases_eq p n) [
        | inl is ↦ below_none n set p (omega (arith, is)) ∙ sym (ap (below (n + 1) set) is ∙ below_last n set false out)
        | inr other ↦ sym (below_same n set p other)
      ]

  module _ (in_set : bit_at set n ≡ true) where
    alone_one : (p : ℕ) → this_plex n p ≡ true → is_one set p ≡ true
    alone_one p is = let e : p ≡ n = eqb-true p n is in ap (is_one set) e ∙ ap (λ (t : Bool). t && bit_at set n) (lt-ltb n 8 few) ∙ in_set

    wide : (p r : ℕ) (was now : Bool) → MayBeNoted (this_plex n) anew first last p r was now → MayBeNoted (is_one set) anew first last p r was now
    wide p r was now (inl same) = inl same
    wide p r was now (inr changed) = inr (alone_one p changed.0, changed.1)

    below_one : (p : ℕ) → below n set p ≡ true → is_one set p ≡ true
    below_one p is = let parts = and_parts (ltb p n) (bit_at set p) is in
        let lt : p < n = ltb-true p n parts.0 in ap (λ (t : Bool). t && bit_at set p) (lt-ltb p 8 (omega (arith, lt, few))) ∙ parts.1

    so_far : (p r : ℕ) → p < f.plexes → r < f.stride → MayBeNoted (is_one set) anew first last p r (has_missed f p r) (has_missed g p r)
    so_far p r lt low = wider_set (noted_maybe (below n set) anew first last p r (has_missed f p r) (has_missed g p r) (at.noted.notes.each p r lt low))
      where
        wider_set : MayBeNoted (below n set) anew first last p r (has_missed f p r) (has_missed g p r) → MayBeNoted (is_one set) anew first last p r (has_missed f p r) (has_missed g p r)
        wider_set (inl same) = inl same
        wider_set (inr changed) = inr (below_one p changed.0, changed.1)

    module _ (h : Missed) (m2 : Meaning) (moves : Goes (NotedAt (this_plex n) anew first last g m1) m1 m2) where
      pub notes_writes : Goes (NotedAt (is_one set) anew first last f m) m m2
      notes_writes = then_writes (is_one set) anew first last f g m m1 m2 at.noted.same at.noted.stands so_far at.writes
          (weaker (NotedAt (this_plex n) anew first last g m1) (NotedAt (is_one set) anew first last g m1) m1 m2 moves
          (λ u b x near. record { run = near.run; so = λ on p r lt low. wide p r (has_missed g p r) (marks_with g.map b x (missed_place g p r)) (near.so on p r lt low) }))

      pub notes_next : FmrNoted (this_plex n) anew first last g h m1 m2 → (IsTrue m2.down → IsTrue m1.down) → NotesTo (n + 1) set anew first last f h m m2
      notes_next one up = record {
        noted = record {
          same = both_same at.noted.same one.same;
          stands = λ on. one.stands (at.noted.stands on);
          notes = record { each = λ p r lt low. step p r lt low };
        };
        writes = notes_writes;
        up = λ down. at.up (up down);
      }
        where
          both_same : SameFmr f g → SameFmr g h → SameFmr f h
          both_same a b = record {
            place = record { unit = b.place.unit ∙ a.place.unit; first = b.place.first ∙ a.place.first; long = b.place.long ∙ a.place.long };
            shape = record { plexes = b.shape.plexes ∙ a.shape.plexes; stride = b.shape.stride ∙ a.shape.stride; regions = b.shape.regions ∙ a.shape.regions };
          }

          step : (p r : ℕ) → p < f.plexes → r < f.stride → has_missed h p r ≡ (if below (n + 1) set p then noted_region anew first last r (has_missed f p r) else has_missed f p r)
          step p r lt low =
              let second : has_missed h p r ≡ (if this_plex n p then noted_region anew first last r (has_missed g p r) else has_missed g p r) = one.notes.each p r (omega (arith, lt, at.noted.same.shape.plexes)) (omega (arith, low, at.noted.same.shape.stride)) in
              let one_before : has_missed g p r ≡ (if below n set p then noted_region anew first last r (has_missed f p r) else has_missed f p r) = at.noted.notes.each p r lt low in
              elim (cases_eq p n) [
                | inl is ↦
                    let was : has_missed g p r ≡ has_missed f p r = one_before ∙ ap (λ (t : Bool). if t then noted_region anew first last r (has_missed f p r) else has_missed f p r) (below_none n set p (omega (arith, is))) in
                    second ∙ ap (λ (t : Bool). if t then noted_region anew first last r (has_missed g p r) else has_missed g p r) (eq-eqb p n is) ∙ ap (λ (w : Bool). noted_region anew first last r w) was
                    ∙ sym (ap (λ (t : Bool). if t then noted_region anew first last r (has_missed f p r) else has_missed f p r) (ap (below (n + 1) set) is ∙ below_last n set true in_set))
                | inr other ↦
                    second ∙ ap (λ (t : Bool). if t then noted_region anew first last r (has_missed g p r) else has_missed g p r) (not_alone p other) ∙ one_before
                    ∙ sym (ap (λ (t : Bool). if t then noted_region anew first last r (has_missed f p r) else has_missed f p r) (below_same n set p other))
              ]
            where
              not_alone : (p : ℕ) → (p ≡ n → ⊥) → this_plex n p ≡ false
              not_alone p other = by (this_plex n p) refl where
                by : (t : Bool) → this_plex n p ≡ t → t ≡ false
                by true is = absurd (other (eqb-true p n is))
                by false is = refl

-- the next plex has its map
pub has_later : (set last n : ℕ) (anew : Bool) (first : ℕ) (f g : Missed) (m m1 : Meaning) → FmrHas set last f m → NotesTo n set anew first last f g m m1 → IsMissedMap last g m1
has_later set last n anew first f g m m1 has at = record {
  lies = record {
    exists = omega (arith, has.map.lies.exists, at.noted.same.place.unit, at.writes.units);
    within = let size : m1.size g.map.unit ≡ m.size f.map.unit = at.writes.size g.map.unit ∙ ap m.size at.noted.same.place.unit in omega (arith, has.map.lies.within, at.noted.same.place.first, at.noted.same.place.long, size);
  };
  kept = kept_later f g has.map.kept at.noted.same;
  inside = omega (arith, has.map.inside, at.noted.same.shape.regions);
}

-- all of them
pub notes_all : (n set : ℕ) (anew : Bool) (first last : ℕ) (f g : Missed) (m m' : Meaning) → NotesTo n set anew first last f g m m' → n ≡ 8 → FmrNoted (is_one set) anew first last f g m m'
notes_all n set anew first last f g m m' at is = subst (λ (k : ℕ). FmrNoted (below k set) anew first last f g m m') is at.noted

-- where nothing is left to note, nothing is for the next plex
pub still_there : (n set : ℕ) (anew : Bool) (first last : ℕ) (f g : Missed) (m m1 : Meaning) → FmrHas set last f m → NotesTo n set anew first last f g m m1 → n < 8 → bit_at set n ≡ true → IsStill set anew first last f
    → (anew ≡ false) × AllAre first last true (has_missed g n)
still_there n set anew first last f g m m1 has at few in_set all = ((all.each n one).0, record { each = λ r low high. was r (omega (arith, high, has.map.inside, has.map.kept.fit)) ∙ ((all.each n one).1).each r low high })
  where
    one : is_one set n ≡ true
    one = ap (λ (t : Bool). t && bit_at set n) (lt-ltb n 8 few) ∙ in_set

    was : (r : ℕ) → r < f.stride → has_missed g n r ≡ has_missed f n r
    was r low = at.noted.notes.each n r (has.exist n one) low ∙ ap (λ (t : Bool). if t then noted_region anew first last r (has_missed f n r) else has_missed f n r) (below_none n set n (omega arith))
