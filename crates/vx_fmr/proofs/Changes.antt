-- A change of a run of the map of one plex.
use Rattle.std.proofs.Common.{◌≡◌, ◌∙◌, ℕ, ◌+◌, ◌*◌, ◌<◌, ◌≤◌, Bool, sym, ap, subst, arith}
use Rattle.std.specs.Prelude.{OnOk, Result, Ok, Err}
use Rattle.vx_bitmap.specs.Bits.{AllAre, Between, Changed, is_marked}
use Rattle.vx_bitmap.specs.Maps.{Map, regions_mapped}
use Rattle.vx_fmr.specs.Missed.{IsMissedKept, Missed, OthersSame, has_missed, missed_place}
use Rattle.vx_fmr.proofs.Places.{all_at, others_same, plex_changed, plex_part}

on_then : {T E : Type 0} (P Q : Type 0) (r : Result T E) → (P → Q) → OnOk r P → OnOk r Q
on_then P Q (Ok x) more is = more is
on_then P Q (Err e) more is = is

module _ (v now : Missed) (is : v ≡ now) (new : Map) (plex first last start end : ℕ) (value : Bool) (s : start ≡ missed_place now plex first) (e : end ≡ missed_place now plex last)
    (kept : IsMissedKept v.map v.plexes v.stride v.regions) (there : plex < now.plexes) (low : last < v.stride) where
  abbrev made : Missed
  made = record { map = new; plexes = v.plexes; stride = v.stride; regions = v.regions }

  starts : start ≡ plex * v.stride + first
  starts = s ∙ ap (λ (f : Missed). missed_place f plex first) (sym is)

  ends : end ≡ plex * v.stride + last
  ends = e ∙ ap (λ (f : Missed). missed_place f plex last) (sym is)

  fits : v.plexes * v.stride ≤ regions_mapped v.map
  fits = omega (arith, kept.all)

  exists : plex < v.plexes
  exists = subst (λ (f : Missed). plex < f.plexes) (sym is) there

  changed_here : Changed start end value (regions_mapped v.map) (is_marked v.map.bytes) (is_marked new.bytes) → Changed first last value v.stride (has_missed v plex) (has_missed made plex)
  changed_here changed =
      plex_changed v.plexes v.stride (regions_mapped v.map) plex first last value (is_marked v.map.bytes) (is_marked new.bytes) fits exists
      (subst (λ (n : ℕ). Changed n (plex * v.stride + last) value (regions_mapped v.map) (is_marked v.map.bytes) (is_marked new.bytes)) starts
      (subst (λ (n : ℕ). Changed start n value (regions_mapped v.map) (is_marked v.map.bytes) (is_marked new.bytes)) ends changed))

  pub run_changed : {T E : Type 0} (r : Result T E) → OnOk r (Changed start end value (regions_mapped v.map) (is_marked v.map.bytes) (is_marked new.bytes))
      → OnOk r (Changed first last value now.stride (has_missed now plex) (has_missed made plex))
  run_changed r changed =
      subst (λ (f : Missed). OnOk r (Changed first last value f.stride (has_missed f plex) (has_missed made plex))) is
      (on_then (Changed start end value (regions_mapped v.map) (is_marked v.map.bytes) (is_marked new.bytes)) (Changed first last value v.stride (has_missed v plex) (has_missed made plex)) r changed_here changed)

  part_here : Between start end value (regions_mapped v.map) (is_marked v.map.bytes) (is_marked new.bytes) → Between (plex * v.stride + first) (plex * v.stride + last) value (regions_mapped v.map) (is_marked v.map.bytes) (is_marked new.bytes)
  part_here part =
      subst (λ (n : ℕ). Between n (plex * v.stride + last) value (regions_mapped v.map) (is_marked v.map.bytes) (is_marked new.bytes)) starts
      (subst (λ (n : ℕ). Between start n value (regions_mapped v.map) (is_marked v.map.bytes) (is_marked new.bytes)) ends part)

  pub run_part : Between start end value (regions_mapped v.map) (is_marked v.map.bytes) (is_marked new.bytes) → Between first last value now.stride (has_missed now plex) (has_missed made plex)
  run_part part =
      subst (λ (f : Missed). Between first last value f.stride (has_missed f plex) (has_missed made plex)) is
      (plex_part v.plexes v.stride (regions_mapped v.map) plex first last value (is_marked v.map.bytes) (is_marked new.bytes) fits exists (part_here part))

  pub run_others : Between start end value (regions_mapped v.map) (is_marked v.map.bytes) (is_marked new.bytes) → OthersSame plex now made
  run_others part =
      subst (λ (f : Missed). OthersSame plex f made) is
      (record { each = λ p r lt r_low other. others_same v.plexes v.stride (regions_mapped v.map) plex first last value (is_marked v.map.bytes) (is_marked new.bytes) fits exists low (part_here part) p r lt r_low other })

  pub run_all : AllAre first last value (has_missed now plex) → AllAre start end value (is_marked v.map.bytes)
  run_all all =
      let here : AllAre first last value (has_missed v plex) = subst (λ (f : Missed). AllAre first last value (has_missed f plex)) (sym is) all in
      subst (λ (n : ℕ). AllAre n end value (is_marked v.map.bytes)) (sym starts)
      (subst (λ (n : ℕ). AllAre (plex * v.stride + first) n value (is_marked v.map.bytes)) (sym ends) (all_at (plex * v.stride) first last value (is_marked v.map.bytes) here))
