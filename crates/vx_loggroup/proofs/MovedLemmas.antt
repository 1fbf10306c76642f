-- What a call of one volume makes of the maps of missed regions of all.
use Rattle.std.proofs.Common.{◌≡◌, ◌⊎◌, ◌≤◌, ◌&&◌, ℕ, Bool, true, false, List, refl, sym, ◌∙◌, ap, subst, inl, inr}
use Rattle.std.specs.Prelude.{Option, Some, None, ◌==◌, leb}
use Rattle.std.proofs.lemmas.Bool.{cases_eq, eq-eqb, eqb-true, le-leb, leb-true}
use Rattle.vx_model.proofs.Tests.{and_left, and_right}
use Rattle.vx_bitmap.specs.Bits.{is_among}
use Rattle.vx_config.specs.declared.config.Config.{Config}
use Rattle.vx_fmr.specs.Missed.{Missed, has_missed}
use Rattle.vx_logs.specs.declared.logs.Logs.{Logs}
use Rattle.vx_volume.specs.Plexes.{active}
use Rattle.vx_loggroup.specs.Attaching.{fmr_at}
use Rattle.vx_loggroup.specs.Moving.{IsThere, MapsDoubt, MapsFlushed, MapsMove, all_anew, in_none, in_run, missed_by, missed_in}

both_are : (x y : Bool) → x ≡ true → y ≡ true → (x && y) ≡ true
both_are true y on is = is
both_are false y on is = let clash : false ≡ true = on in cc

false_left : (x y : Bool) → x ≡ false → (x && y) ≡ false
false_left true y is = let clash : true ≡ false = is in cc
false_left false y is = refl

apart_eq : (v w : ℕ) → (v ≡ w → ⊥) → (v == w) ≡ false
apart_eq v w apart = by (v == w) refl
  where
    by : (b : Bool) → (v == w) ≡ b → (v == w) ≡ false
    by true is = absurd (apart (eqb-true v w is))
    by false is = is

-- ---- runs

pub run_volume : (vol first last v r : ℕ) → in_run vol first last v r ≡ true → v ≡ vol
run_volume vol first last v r is = eqb-true v vol (and_left (v == vol) (is_among first last r) is)

pub run_here : (vol first last r : ℕ) → first ≤ r → r ≤ last → in_run vol first last vol r ≡ true
run_here vol first last r low high = both_are (vol == vol) (is_among first last r) (eq-eqb vol vol refl) (both_are (leb first r) (leb r last) (le-leb first r low) (le-leb r last high))

pub run_among : (vol first last v r : ℕ) → in_run vol first last v r ≡ true → (first ≤ r) × (r ≤ last)
run_among vol first last v r is =
    let among = and_right (v == vol) (is_among first last r) is in
    (leb-true first r (and_left (leb first r) (leb r last) among), leb-true r last (and_right (leb first r) (leb r last) among))

-- ---- maps of other volumes

-- of a volume whose maps are as they were a call makes nothing
module _ (c : Config) (l k : List Logs) (v : ℕ) (same : fmr_at k v ≡ fmr_at l v) where
  pub same_missed : (p r : ℕ) (g : Missed) → fmr_at k v ≡ Some g → missed_in l c v p r ≡ has_missed g p r
  same_missed p r g at = ap (λ (o : Option Missed). missed_by o (active c v p) p r) (sym same ∙ at)

module _ (c d : Config) (vol first last : ℕ) (sure : Bool) (l k : List Logs) (others : (w : ℕ) → (w ≡ vol → ⊥) → fmr_at k w ≡ fmr_at l w) where
  -- what a map has besides
  most_run : ((p r : ℕ) (g : Missed) → fmr_at k vol ≡ Some g → IsThere c vol p r → has_missed g p r ≡ true
      → ((active d vol p ≡ false) × (first ≤ r) × (r ≤ last)) ⊎ ((active c vol p ≡ true → active d vol p ≡ false → sure ≡ false) × (missed_in l c vol p r ≡ true)))
      → (v p r : ℕ) (g : Missed) → fmr_at k v ≡ Some g → IsThere c v p r → has_missed g p r ≡ true
      → ((active d v p ≡ false) × (in_run vol first last v r ≡ true)) ⊎ ((active c v p ≡ true → active d v p ≡ false → all_anew vol sure v p ≡ false) × (missed_in l c v p r ≡ true))
  most_run only v p r g at it has = elim (cases_eq v vol) [
    | inl here ↦ most_here v here p r g at it has
    | inr other ↦ inr ((λ on away. false_left (v == vol) sure (apart_eq v vol other)), same_missed c l k v (others v other) p r g at ∙ has)
  ]
    where
      right_false : (x y : Bool) → y ≡ false → (x && y) ≡ false
      right_false true y is = is
      right_false false y is = refl

      most_here : (v : ℕ) → v ≡ vol → (p r : ℕ) (g : Missed) → fmr_at k v ≡ Some g → IsThere c v p r → has_missed g p r ≡ true
          → ((active d v p ≡ false) × (in_run vol first last v r ≡ true)) ⊎ ((active c v p ≡ true → active d v p ≡ false → all_anew vol sure v p ≡ false) × (missed_in l c v p r ≡ true))
      most_here v here p r g at it has = elim (only p r g (subst (λ (w : ℕ). fmr_at k w ≡ Some g) here at) (subst (λ (w : ℕ). IsThere c w p r) here it) has) [
        | inl run ↦ inl (subst (λ (w : ℕ). active d w p ≡ false) (sym here) run.0, subst (λ (w : ℕ). in_run vol first last w r ≡ true) (sym here) (run_here vol first last r run.1 run.2))
        | inr was ↦ inr ((λ on away. right_false (v == vol) sure (was.0 (subst (λ (w : ℕ). active c w p ≡ true) here on) (subst (λ (w : ℕ). active d w p ≡ false) here away))), subst (λ (w : ℕ). missed_in l c w p r ≡ true) (sym here) was.1)
      ]

  -- what it has still
  stay_run : ((p r : ℕ) (g : Missed) → fmr_at k vol ≡ Some g → IsThere c vol p r → active c vol p ≡ false → active d vol p ≡ false → missed_in l c vol p r ≡ true → has_missed g p r ≡ true)
      → (v p r : ℕ) (g : Missed) → fmr_at k v ≡ Some g → IsThere c v p r → active c v p ≡ false → active d v p ≡ false → missed_in l c v p r ≡ true → has_missed g p r ≡ true
  stay_run stay v p r g at it was off has = elim (cases_eq v vol) [
    | inl here ↦ stay p r g (subst (λ (w : ℕ). fmr_at k w ≡ Some g) here at) (subst (λ (w : ℕ). IsThere c w p r) here it) (subst (λ (w : ℕ). active c w p ≡ false) here was)
        (subst (λ (w : ℕ). active d w p ≡ false) here off) (subst (λ (w : ℕ). missed_in l c w p r ≡ true) here has)
    | inr other ↦ sym (same_missed c l k v (others v other) p r g at) ∙ has
  ]

  -- a write that is done, by what it makes of the volume
  pub move_run : ((p r : ℕ) (g : Missed) → fmr_at k vol ≡ Some g → IsThere c vol p r → has_missed g p r ≡ true
      → ((active d vol p ≡ false) × (first ≤ r) × (r ≤ last)) ⊎ ((active c vol p ≡ true → active d vol p ≡ false → sure ≡ false) × (missed_in l c vol p r ≡ true)))
      → ((p r : ℕ) (g : Missed) → fmr_at k vol ≡ Some g → IsThere c vol p r → active d vol p ≡ false → first ≤ r → r ≤ last → has_missed g p r ≡ true)
      → ((p r : ℕ) (g : Missed) → fmr_at k vol ≡ Some g → IsThere c vol p r → active c vol p ≡ false → active d vol p ≡ false → missed_in l c vol p r ≡ true → has_missed g p r ≡ true)
      → MapsMove c d (in_run vol first last) (all_anew vol sure) l k
  move_run only hold stay = record {
    most = most_run only;
    least = λ v p r g at it off has.
        let here = run_volume vol first last v r has in
        let among = run_among vol first last v r has in
        hold p r g (subst (λ (w : ℕ). fmr_at k w ≡ Some g) here at) (subst (λ (w : ℕ). IsThere c w p r) here it) (subst (λ (w : ℕ). active d w p ≡ false) here off) among.0 among.1;
    stay = stay_run stay;
  }

  -- and the flush behind it
  pub follow_run : ((p r : ℕ) (g : Missed) → fmr_at k vol ≡ Some g → IsThere c vol p r → has_missed g p r ≡ true
      → ((active d vol p ≡ false) × (first ≤ r) × (r ≤ last)) ⊎ ((active c vol p ≡ true → active d vol p ≡ false → sure ≡ false) × (missed_in l c vol p r ≡ true)))
      → ((p r : ℕ) (g : Missed) → fmr_at k vol ≡ Some g → IsThere c vol p r → active c vol p ≡ true → active d vol p ≡ false → first ≤ r → r ≤ last → has_missed g p r ≡ true)
      → ((p r : ℕ) (g : Missed) → fmr_at k vol ≡ Some g → IsThere c vol p r → active c vol p ≡ false → active d vol p ≡ false → missed_in l c vol p r ≡ true → has_missed g p r ≡ true)
      → MapsFlushed c d (in_run vol first last) (all_anew vol sure) l k
  follow_run only hold stay = record {
    most = most_run only;
    least = λ v p r g at it on off has.
        let here = run_volume vol first last v r has in
        let among = run_among vol first last v r has in
        hold p r g (subst (λ (w : ℕ). fmr_at k w ≡ Some g) here at) (subst (λ (w : ℕ). IsThere c w p r) here it) (subst (λ (w : ℕ). active c w p ≡ true) here on) (subst (λ (w : ℕ). active d w p ≡ false) here off) among.0 among.1;
    stay = stay_run stay;
  }

  -- and one that was refused
  pub doubt_run : ((p r : ℕ) (g : Missed) → fmr_at k vol ≡ Some g → IsThere c vol p r → has_missed g p r ≡ true → ((first ≤ r) × (r ≤ last)) ⊎ (missed_in l c vol p r ≡ true))
      → ((p r : ℕ) (g : Missed) → fmr_at k vol ≡ Some g → IsThere c vol p r → active c vol p ≡ false → active d vol p ≡ false → missed_in l c vol p r ≡ true → has_missed g p r ≡ true)
      → MapsDoubt c d (in_run vol first last) l k
  doubt_run only stay = record {
    most = λ v p r g at it has. elim (cases_eq v vol) [
      | inl here ↦ most_here v here p r g at it has
      | inr other ↦ inr (same_missed c l k v (others v other) p r g at ∙ has)
    ];
    stay = stay_run stay;
  }
    where
      most_here : (v : ℕ) → v ≡ vol → (p r : ℕ) (g : Missed) → fmr_at k v ≡ Some g → IsThere c v p r → has_missed g p r ≡ true → (in_run vol first last v r ≡ true) ⊎ (missed_in l c v p r ≡ true)
      most_here v here p r g at it has = elim (only p r g (subst (λ (w : ℕ). fmr_at k w ≡ Some g) here at) (subst (λ (w : ℕ). IsThere c w p r) here it) has) [
        | inl run ↦ inl (subst (λ (w : ℕ). in_run vol first last w r ≡ true) (sym here) (run_here vol first last r run.0 run.1))
        | inr missed ↦ inr (subst (λ (w : ℕ). missed_in l c w p r ≡ true) (sym here) missed)
      ]

-- a call that changes no map, as one that reads or attaches, whatever becomes of plexes
pub move_none : (c d : Config) (l k : List Logs) → ((v : ℕ) → (fmr_at k v ≡ fmr_at l v) ⊎ (fmr_at k v ≡ None)) → MapsMove c d in_none in_none l k
move_none c d l k same = record {
  most = λ v p r g at it has. inr ((λ on away. refl), as_was v p r g at ∙ has);
  least = λ v p r g at it off has. let clash : false ≡ true = has in cc;
  stay = λ v p r g at it was off has. sym (as_was v p r g at) ∙ has;
}
  where
    as_was : (v p r : ℕ) (g : Missed) → fmr_at k v ≡ Some g → missed_in l c v p r ≡ has_missed g p r
    as_was v p r g at = elim (same v) [
      | inl is ↦ same_missed c l k v is p r g at
      | inr none ↦ let clash : None ≡ Some g = sym none ∙ at in cc
    ]
