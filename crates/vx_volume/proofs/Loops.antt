-- One plex more of a call on all that are ACTIVE.
use Rattle.std.proofs.Common.{◌≡◌, ◌≢◌, inl, inr, ℕ, ◌+◌, ◌<◌, ◌≤◌, Bool, true, false, List, length, set, get_or-set_same, get_or-set_other, length-set, refl, sym, ◌∙◌, subst, arith, IsTrue}
use Rattle.std.proofs.lemmas.Bool.{cases_eq}
use Rattle.vx_disk.specs.Counts.{Rose}
use Rattle.vx_disk.specs.Shelf.{Meaning}
use Rattle.vx_disk.proofs.Causing.{Rose_after, Rose_before}
use Rattle.vx_config.specs.declared.config.Config.{Config}
use Rattle.vx_volume.specs.Plexes.{SomeActive, active}
use Rattle.vx_volume.specs.Steps.{Loop, SomeDone, in_set}
use Rattle.vx_volume.specs.Volumes.{AllBut, AllPlexesFailed, PlexBlamed}

pub loop_start : (c : Config) (v : ℕ) (failed : List Bool) (device : ℕ) (done : ℕ → Type 0) (m : Meaning) → (IsTrue m.down → ⊥) → length failed ≡ 8 → ((p : ℕ) → in_set failed p ≡ false) → Loop c v 0 failed false device done m m
loop_start c v failed device done m up long none = record {
  tried = record { up = up; is_done = λ p lt is_on out. absurd (omega (arith, lt)); blamed = λ p is. absurd (let clash : false ≡ true = sym (none p) ∙ is in cc) };
  some = λ p lt is_on. absurd (omega (arith, lt));
  blames = record { rose = λ p is. absurd (let clash : false ≡ true = sym (none p) ∙ is in cc) };
  long = long;
}

module _ (c : Config) (v i : ℕ) (failed : List Bool) (any : Bool) (device : ℕ) (done done' : ℕ → Type 0) (old m m' : Meaning) (loop : Loop c v i failed any device done old m) where
  not_yet_in : in_set failed i ≡ false
  not_yet_in = by (in_set failed i) refl
    where
      by : (b : Bool) → in_set failed i ≡ b → in_set failed i ≡ false
      by false is = is
      by true is = absurd (let it = loop.tried.blamed i is in let lt : i < i = it.0 in omega (arith, lt))

  -- a plex that is not ACTIVE
  pub pass_over : (active c v i ≡ true → ⊥) → ((p : ℕ) → done p → done' p) → Loop c v (i + 1) failed any device done' old m
  pass_over off same = record {
    tried = record {
      up = loop.tried.up;
      is_done = λ p lt is_on out. elim (cases_eq p i) [
        | inl at ↦ absurd (off (subst (λ (q : ℕ). active c v q ≡ true) at is_on))
        | inr not ↦ same p (loop.tried.is_done p (omega (arith, lt, not)) is_on out)
      ];
      blamed = λ p is. let it = loop.tried.blamed p is in (omega (arith, it.0), it.1, it.2);
    };
    some = some any loop.some;
    blames = loop.blames;
    long = loop.long;
  }
    where
      some : (b : Bool) → SomeDone c v i failed b → SomeDone c v (i + 1) failed b
      some true it = (it.0, omega (arith, it.1), it.2, it.3)
      some false none = λ p lt is_on. elim (cases_eq p i) [
        | inl at ↦ absurd (off (subst (λ (q : ℕ). active c v q ≡ true) at is_on))
        | inr not ↦ none p (omega (arith, lt, not)) is_on
      ]

  module _ (is_on : IsTrue (active c v i)) (up : IsTrue m'.down → ⊥) (faults : (u : ℕ) → m.faults u ≤ m'.faults u) (disk_faults : (d : ℕ) → m.disk_faults d ≤ m'.disk_faults d) (before : (u : ℕ) → old.faults u ≤ m.faults u) (disk_before : (d : ℕ) → old.disk_faults d ≤ m.disk_faults d)
      (keeps : (p : ℕ) → p ≢ i → IsTrue (active c v p) → done p → done' p) where
    still_blamed : (p : ℕ) → PlexBlamed c v p old m → PlexBlamed c v p old m'
    still_blamed p blamed = record { disk = blamed.disk; is_its = blamed.is_its; rose = Rose_after _ _ _ blamed.rose (faults blamed.disk) }

    pub was_done : done' i → Loop c v (i + 1) failed true device done' old m'
    was_done mine = record {
      tried = record {
        up = up;
        is_done = λ p lt on not_in. elim (cases_eq p i) [
          | inl at ↦ subst done' (sym at) mine
          | inr not ↦ keeps p not on (loop.tried.is_done p (omega (arith, lt, not)) on not_in)
        ];
        blamed = λ p is. let it = loop.tried.blamed p is in (omega (arith, it.0), it.1, still_blamed p it.2);
      };
      some = (i, omega arith, is_on, not_yet_in);
      blames = record { rose = λ p is. Rose_after _ _ _ (loop.blames.rose p is) (disk_faults device) };
      long = loop.long;
    }

    pub has_failed : (disk : ℕ) → i < 8 → PlexBlamed c v i m m' → Rose (m.disk_faults disk) (m'.disk_faults disk) → Loop c v (i + 1) (set failed i true) any disk done' old m'
    has_failed disk lt blamed rose = record {
      tried = record {
        up = up;
        is_done = λ p below on not_in. elim (cases_eq p i) [
          | inl at ↦ absurd (let clash : true ≡ false = sym (get_or-set_same failed i true false in_list) ∙ subst (λ (q : ℕ). in_set (set failed i true) q ≡ false) at not_in in cc)
          | inr not ↦ keeps p not on (loop.tried.is_done p (omega (arith, below, not)) on (sym (get_or-set_other failed i p true false not) ∙ not_in))
        ];
        blamed = λ p is. elim (cases_eq p i) [
          | inl at ↦ subst (λ (q : ℕ). (q < i + 1) × IsTrue (active c v q) × PlexBlamed c v q old m') (sym at)
              (omega arith, is_on, record { disk = blamed.disk; is_its = blamed.is_its; rose = Rose_before _ _ _ (before blamed.disk) blamed.rose })
          | inr not ↦ let it = loop.tried.blamed p (sym (get_or-set_other failed i p true false not) ∙ is) in (omega (arith, it.0), it.1, still_blamed p it.2)
        ];
      };
      some = some any loop.some;
      blames = record { rose = λ p is. Rose_before _ _ _ (disk_before disk) rose };
      long = length-set failed i true ∙ loop.long;
    }
      where
        in_list : i < length failed
        in_list = omega (arith, lt, loop.long)

        less : (p i : ℕ) → p < i → p ≢ i
        less p i lt same = omega (arith, lt, same)

        some : (b : Bool) → SomeDone c v i failed b → SomeDone c v (i + 1) (set failed i true) b
        some true it = let below : it.0 < i = it.1 in (it.0, omega (arith, below), it.2, get_or-set_other failed i it.0 true false (less it.0 i below) ∙ it.3)
        some false none = λ p below on. elim (cases_eq p i) [
          | inl at ↦ subst (λ (q : ℕ). in_set (set failed i true) q ≡ true) (sym at) (get_or-set_same failed i true false in_list)
          | inr not ↦ get_or-set_other failed i p true false not ∙ none p (omega (arith, below, not)) on
        ]

-- ---- the end

module _ (c : Config) (v count : ℕ) (failed : List Bool) (any : Bool) (device : ℕ) (done : ℕ → Type 0) (old m : Meaning) (few : (p : ℕ) → IsTrue (active c v p) → p < 8) (at_end : 8 ≤ count) (loop : Loop c v count failed any device done old m) where
  pub ends_some : any ≡ true → AllBut c v (in_set failed) done old m
  ends_some is = record {
    is_done = λ p on out. loop.tried.is_done p (omega (arith, few p on, at_end)) on out;
    blamed = λ p is. let it = loop.tried.blamed p is in (it.1, it.2);
    some = let it = subst (λ (b : Bool). SomeDone c v count failed b) is loop.some in (it.0, it.2, it.3);
    up = loop.tried.up;
  }

  pub ends_none : any ≡ false → SomeActive c v → AllPlexesFailed c v device old m
  ends_none not some =
      let none = subst (λ (b : Bool). SomeDone c v count failed b) not loop.some in
      record {
        each = λ p on. (loop.tried.blamed p (none p (omega (arith, few p on, at_end)) on)).2;
        rose = loop.blames.rose some.plex (none some.plex (omega (arith, few some.plex some.is_on, at_end)) some.is_on);
        up = loop.tried.up;
      }
