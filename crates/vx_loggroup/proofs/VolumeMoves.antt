-- What a write of a volume, or a detach, makes of the maps of missed regions in memory, by what it makes of the maps of that volume.
use Rattle.std.proofs.Common.{◌≡◌, ◌⊎◌, ◌<◌, ◌≤◌, ◌&&◌, ℕ, Bool, true, false, List, refl, sym, ◌∙◌, ap, subst, inl, inr, arith}
use Rattle.std.specs.Prelude.{Some, not, ◌==◌}
use Rattle.std.proofs.lemmas.Bool.{cases_eq, eqb-true}
use Rattle.vx_config.specs.Checks.{plexes_of}
use Rattle.vx_config.specs.declared.config.Config.{Config}
use Rattle.vx_fmr.specs.Missed.{Missed, OthersSame, SameMissedShape, has_missed}
use Rattle.vx_logs.specs.declared.logs.Logs.{Logs}
use Rattle.vx_volume.specs.Plexes.{active}
use Rattle.vx_group.specs.Attaches.{region_count}
use Rattle.vx_loggroup.specs.Attaching.{fmr_at}
use Rattle.vx_loggroup.specs.Moving.{IsThere, MapsDoubt, MapsFlushed, MapsMove, all_anew, in_none, in_run, missed_in, this_anew}
use Rattle.vx_loggroup.proofs.MovedLemmas.{doubt_run, follow_run, move_run, same_missed}

-- ---- plexes that took part, and do no more

fell_off : (x y : Bool) → (x && not y) ≡ true → y ≡ false
fell_off true true is = let clash : false ≡ true = is in cc
fell_off true false is = refl
fell_off false y is = let clash : false ≡ true = is in cc

fell_is : (x y : Bool) → x ≡ true → y ≡ false → (x && not y) ≡ true
fell_is true false on off = refl
fell_is true true on off = let clash : true ≡ false = off in cc
fell_is false y on off = let clash : false ≡ true = on in cc

low_old : (n a b : ℕ) → n < a → a ≤ b → n < b
low_old n a b low fit = omega (arith, low, fit)

low_new : (n a b g : ℕ) → n < a → a ≤ b → g ≡ b → n < g
low_new n a b g low fit same = omega (arith, low, fit, same)

-- Maps that were in memory before a call, or began in it: they have what plexes had missed.
pub record MapFirst (c : Config) (vol : ℕ) (l : List Logs) (f : Missed) : Type 0 where
  pub same : (p r : ℕ) → IsThere c vol p r → has_missed f p r ≡ missed_in l c vol p r
  pub plexes : plexes_of c vol ≤ f.plexes
  pub stride : region_count c vol ≤ f.stride

-- ---- a write

-- behind it: what a map had of plexes that took no part it has; what it has besides is of the run, of one of those plexes
pub record MapFrom (c d : Config) (vol first last : ℕ) (those : ℕ → Bool) (l : List Logs) (g : Missed) : Type 0 where
  pub map : Missed
  pub begun : MapFirst c vol l map
  pub shape : SameMissedShape map g
  pub stay : (p r : ℕ) → p < map.plexes → r < map.stride → active c vol p ≡ false → has_missed map p r ≡ true → has_missed g p r ≡ true
  pub only : (p r : ℕ) → p < map.plexes → r < map.stride → has_missed g p r ≡ true → (has_missed map p r ≡ true) ⊎ ((those p ≡ true) × (first ≤ r) × (r ≤ last))

module _ (c d : Config) (vol first last : ℕ) (l k : List Logs) (others : (w : ℕ) → (w ≡ vol → ⊥) → fmr_at k w ≡ fmr_at l w) where
  -- one that is done, of a volume of which it is sure, or not, that its plexes are alike
  module _ (sure : Bool) (those : ℕ → Bool) (off : (p : ℕ) → those p ≡ true → active d vol p ≡ false) (from : (g : Missed) → fmr_at k vol ≡ Some g → MapFrom c d vol first last those l g)
      (runs : sure ≡ true → (g : Missed) → fmr_at k vol ≡ Some g → (p r : ℕ) → p < g.plexes → r < g.stride → (active c vol p && not (active d vol p)) ≡ true → has_missed g p r ≡ true → (first ≤ r) × (r ≤ last)) where
    had : (p r : ℕ) (g : Missed) → fmr_at k vol ≡ Some g → IsThere c vol p r → has_missed g p r ≡ true → ((active d vol p ≡ false) × (first ≤ r) × (r ≤ last)) ⊎ (missed_in l c vol p r ≡ true)
    had p r g at it has =
        let f = from g at in
        elim (f.only p r (low_old p (plexes_of c vol) f.map.plexes it.plex f.begun.plexes) (low_old r (region_count c vol) f.map.stride it.region f.begun.stride) has) [
          | inl was ↦ inr (sym (f.begun.same p r it) ∙ was)
          | inr run ↦ inl (off p run.0, run.1, run.2)
        ]

    only : (p r : ℕ) (g : Missed) → fmr_at k vol ≡ Some g → IsThere c vol p r → has_missed g p r ≡ true
        → ((active d vol p ≡ false) × (first ≤ r) × (r ≤ last)) ⊎ ((active c vol p ≡ true → active d vol p ≡ false → sure ≡ false) × (missed_in l c vol p r ≡ true))
    only p r g at it has = by (active c vol p && not (active d vol p)) refl sure refl (had p r g at it has)
      where
        by : (x : Bool) → (active c vol p && not (active d vol p)) ≡ x → (y : Bool) → sure ≡ y → ((active d vol p ≡ false) × (first ≤ r) × (r ≤ last)) ⊎ (missed_in l c vol p r ≡ true)
            → ((active d vol p ≡ false) × (first ≤ r) × (r ≤ last)) ⊎ ((active c vol p ≡ true → active d vol p ≡ false → sure ≡ false) × (missed_in l c vol p r ≡ true))
        by x is y here (inl run) = inl run
        by x is false here (inr was) = inr ((λ on away. here), was)
        by false is true here (inr was) = inr ((λ on away. (let clash : true ≡ false = sym (fell_is (active c vol p) (active d vol p) on away) ∙ is in cc)), was)
        by true is true here (inr was) =
            let f = from g at in
            let run = runs here g at p r (low_new p (plexes_of c vol) f.map.plexes g.plexes it.plex f.begun.plexes f.shape.plexes) (low_new r (region_count c vol) f.map.stride g.stride it.region f.begun.stride f.shape.stride) is has in
            inl (fell_off (active c vol p) (active d vol p) is, run.0, run.1)

    stay : (p r : ℕ) (g : Missed) → fmr_at k vol ≡ Some g → IsThere c vol p r → active c vol p ≡ false → active d vol p ≡ false → missed_in l c vol p r ≡ true → has_missed g p r ≡ true
    stay p r g at it was away has =
        let f = from g at in
        f.stay p r (low_old p (plexes_of c vol) f.map.plexes it.plex f.begun.plexes) (low_old r (region_count c vol) f.map.stride it.region f.begun.stride) was (f.begun.same p r it ∙ has)

    -- each plex that is not ACTIVE has the run
    pub write_moves : ((p r : ℕ) (g : Missed) → fmr_at k vol ≡ Some g → IsThere c vol p r → active d vol p ≡ false → first ≤ r → r ≤ last → has_missed g p r ≡ true) → MapsMove c d (in_run vol first last) (all_anew vol sure) l k
    write_moves holds = move_run c d vol first last sure l k others only holds stay

    -- or each that falls out of use in the call
    pub flush_moves : ((p r : ℕ) (g : Missed) → fmr_at k vol ≡ Some g → IsThere c vol p r → active c vol p ≡ true → active d vol p ≡ false → first ≤ r → r ≤ last → has_missed g p r ≡ true) → MapsFlushed c d (in_run vol first last) (all_anew vol sure) l k
    flush_moves holds = follow_run c d vol first last sure l k others only holds stay

  -- one that was refused: any plex may have noted its run
  module _ (from : (g : Missed) → fmr_at k vol ≡ Some g → MapFrom c d vol first last (λ p. true) l g) where
    pub write_doubts : MapsDoubt c d (in_run vol first last) l k
    write_doubts =
        doubt_run c d vol first last false l k others
        (λ p r g at it has.
        let f = from g at in
        elim (f.only p r (low_old p (plexes_of c vol) f.map.plexes it.plex f.begun.plexes) (low_old r (region_count c vol) f.map.stride it.region f.begun.stride) has) [
          | inl was ↦ inr (sym (f.begun.same p r it) ∙ was)
          | inr run ↦ inl (run.1, run.2)
        ])
        (λ p r g at it was away has.
        let f = from g at in
        f.stay p r (low_old p (plexes_of c vol) f.map.plexes it.plex f.begun.plexes) (low_old r (region_count c vol) f.map.stride it.region f.begun.stride) was (f.begun.same p r it ∙ has))

-- ---- a detach

-- Behind it: the maps of the other plexes are as they were, and so is that of this one where it took no part; it has no region that it had not.
pub record MapWithout (c : Config) (vol plex : ℕ) (l : List Logs) (g : Missed) : Type 0 where
  pub map : Missed
  pub begun : MapFirst c vol l map
  pub others : OthersSame plex map g
  pub fewer : (r : ℕ) → plex < map.plexes → r < map.stride → has_missed g plex r ≡ true → has_missed map plex r ≡ true
  pub still : active c vol plex ≡ false → (r : ℕ) → r < map.stride → has_missed map plex r ≡ true → has_missed g plex r ≡ true

module _ (c d : Config) (vol plex : ℕ) (sure : Bool) (l k : List Logs) (others : (w : ℕ) → (w ≡ vol → ⊥) → fmr_at k w ≡ fmr_at l w) (from : (g : Missed) → fmr_at k vol ≡ Some g → MapWithout c vol plex l g)
    (empty : sure ≡ true → active c vol plex ≡ true → active d vol plex ≡ false → (g : Missed) → fmr_at k vol ≡ Some g → (r : ℕ) → r < region_count c vol → has_missed g plex r ≡ false) where
  -- of this volume
  was_here : (p r : ℕ) (g : Missed) → fmr_at k vol ≡ Some g → IsThere c vol p r → has_missed g p r ≡ true → missed_in l c vol p r ≡ true
  was_here p r g at it has =
      let f = from g at in
      let low = low_old p (plexes_of c vol) f.map.plexes it.plex f.begun.plexes in
      let region = low_old r (region_count c vol) f.map.stride it.region f.begun.stride in
      elim (cases_eq p plex) [
        | inl same ↦
            sym (f.begun.same p r it) ∙ ap (λ (q : ℕ). has_missed f.map q r) same
            ∙ f.fewer r (subst (λ (q : ℕ). q < f.map.plexes) same low) region (subst (λ (q : ℕ). has_missed g q r ≡ true) same has)
        | inr apart ↦ sym (f.begun.same p r it) ∙ sym (f.others.each p r low region apart) ∙ has
      ]

  stays_here : (p r : ℕ) (g : Missed) → fmr_at k vol ≡ Some g → IsThere c vol p r → active c vol p ≡ false → missed_in l c vol p r ≡ true → has_missed g p r ≡ true
  stays_here p r g at it was has =
      let f = from g at in
      let low = low_old p (plexes_of c vol) f.map.plexes it.plex f.begun.plexes in
      let region = low_old r (region_count c vol) f.map.stride it.region f.begun.stride in
      elim (cases_eq p plex) [
        | inl same ↦
            ap (λ (q : ℕ). has_missed g q r) same
            ∙ f.still (subst (λ (q : ℕ). active c vol q ≡ false) same was) r region (subst (λ (q : ℕ). has_missed f.map q r ≡ true) same (f.begun.same p r it ∙ has))
        | inr apart ↦ f.others.each p r low region apart ∙ f.begun.same p r it ∙ has
      ]

  -- a map that has a region does not begin anew, where this plex went off
  none_anew : (v p r : ℕ) (g : Missed) → fmr_at k v ≡ Some g → IsThere c v p r → has_missed g p r ≡ true → active c v p ≡ true → active d v p ≡ false → ((v == vol) && ((p == plex) && sure)) ≡ false
  none_anew v p r g at it has on away = by (v == vol) refl (p == plex) refl sure refl
    where
      by : (x : Bool) → (v == vol) ≡ x → (y : Bool) → (p == plex) ≡ y → (z : Bool) → sure ≡ z → (x && (y && z)) ≡ false
      by false here y one z is = refl
      by true here false one z is = refl
      by true here true one false is = refl
      by true here true one true is =
          let volume = eqb-true v vol here in
          let same = eqb-true p plex one in
          let at' = subst (λ (w : ℕ). fmr_at k w ≡ Some g) volume at in
          let on' = subst (λ (q : ℕ). active c vol q ≡ true) same (subst (λ (w : ℕ). active c w p ≡ true) volume on) in
          let away' = subst (λ (q : ℕ). active d vol q ≡ false) same (subst (λ (w : ℕ). active d w p ≡ false) volume away) in
          let none = empty is on' away' g at' r (subst (λ (w : ℕ). r < region_count c w) volume it.region) in
          let clash : true ≡ false = sym (subst (λ (q : ℕ). has_missed g q r ≡ true) same has) ∙ none in
          cc

  pub det_moves : MapsMove c d in_none (this_anew vol plex sure) l k
  det_moves = record {
    most = λ v p r g at it has. inr ((λ on away. none_anew v p r g at it has on away), was v p r g at it has);
    least = λ v p r g at it off has. let clash : false ≡ true = has in cc;
    stay = λ v p r g at it gone off has. stays v p r g at it gone has;
  }
    where
      was : (v p r : ℕ) (g : Missed) → fmr_at k v ≡ Some g → IsThere c v p r → has_missed g p r ≡ true → missed_in l c v p r ≡ true
      was v p r g at it has = elim (cases_eq v vol) [
        | inl here ↦
            subst (λ (w : ℕ). missed_in l c w p r ≡ true) (sym here) (was_here p r g (subst (λ (w : ℕ). fmr_at k w ≡ Some g) here at) (subst (λ (w : ℕ). IsThere c w p r) here it) has)
        | inr other ↦ same_missed c l k v (others v other) p r g at ∙ has
      ]

      stays : (v p r : ℕ) (g : Missed) → fmr_at k v ≡ Some g → IsThere c v p r → active c v p ≡ false → missed_in l c v p r ≡ true → has_missed g p r ≡ true
      stays v p r g at it gone has = elim (cases_eq v vol) [
        | inl here ↦
            stays_here p r g (subst (λ (w : ℕ). fmr_at k w ≡ Some g) here at) (subst (λ (w : ℕ). IsThere c w p r) here it) (subst (λ (w : ℕ). active c w p ≡ false) here gone)
            (subst (λ (w : ℕ). missed_in l c w p r ≡ true) here has)
        | inr other ↦ sym (same_missed c l k v (others v other) p r g at) ∙ has
      ]
