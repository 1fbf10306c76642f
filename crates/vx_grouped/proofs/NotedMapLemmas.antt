-- What a site notes of the regions that plexes missed, behind a call by what it makes of the maps in memory.
use Rattle.std.proofs.Common.{◌≡◌, ◌⊎◌, ◌<◌, ◌&&◌, ◌||◌, ℕ, Bool, true, false, List, length, refl, sym, ◌∙◌, ap, subst, inl, inr}
use Rattle.std.specs.Prelude.{Option, Some, None, if◌then◌else◌, is_some, not, ◌==◌}
use Rattle.vx_config.specs.Checks.{plexes_of}
use Rattle.vx_config.specs.declared.config.Config.{Config}
use Rattle.vx_config.specs.declared.entry.VolumeLog.TheVariants.{Fmr}
use Rattle.vx_fmr.specs.Missed.{Missed, has_missed}
use Rattle.vx_group.specs.Attaches.{region_count}
use Rattle.vx_groupmaps.specs.Loading.{on_failed_disk}
use Rattle.vx_history.specs.Groups.{MissedNote}
use Rattle.vx_history.specs.Missing.{first_failed, maps_doubted, maps_written, this_volume, missed_then, no_plex, none_missed, perhaps_then}
use Rattle.vx_logs.specs.declared.logs.Logs.{Logs}
use Rattle.vx_volume.specs.Plexes.{active}
use Rattle.vx_loggroup.specs.Attaching.{fmr_at}
use Rattle.vx_loggroup.specs.LoggedVolumes.{is_alike}
use Rattle.vx_loggroup.specs.Moving.{IsThere, MapsBeginIn, MapsDoubt, MapsMove, goes_by, missed_by, missed_in, MapsAttach}
use Rattle.vx_grouped.specs.MapsNoted.{MapsNoted}
use Rattle.std.proofs.lemmas.Bool.{eq-eqb}

-- ---- one region of one plex

-- what was in its map, what is missed, and what may be
abbrev pub left_b : (was mapped missed : Bool) → Bool
left_b was mapped missed = if mapped then missed else not was

abbrev pub missed_b : (was now mapped missed these : Bool) → Bool
missed_b was now mapped missed these = if was && not now then these else (left_b was mapped missed || (not now && these))

abbrev pub perhaps_b : (was now anew mapped missed perhaps : Bool) → Bool
perhaps_b was now anew mapped missed perhaps = not ((was && not now) && anew) && ((mapped && perhaps) || ((was && not now) && left_b was mapped missed))

-- one of the call
run_b : (was now mapped missed these : Bool) → now ≡ false → these ≡ true → missed_b was now mapped missed these ≡ true
run_b true false mapped missed true off here = refl
run_b false false true true true off here = refl
run_b false false true false true off here = refl
run_b false false false missed true off here = refl
run_b was true mapped missed these off here = let clash : true ≡ false = off in cc
run_b was false mapped missed false off here = let clash : false ≡ true = here in cc

-- one that was in the map, where it is left
pub noted_b : (was now anew mapped missed perhaps these : Bool) → (was ≡ true → now ≡ false → anew ≡ false) → mapped ≡ true → (missed ≡ true) ⊎ (perhaps ≡ true)
    → (missed_b was now mapped missed these ≡ true) ⊎ (perhaps_b was now anew mapped missed perhaps ≡ true)
noted_b was now anew false missed perhaps these keeps on has = let clash : false ≡ true = on in cc
noted_b true false true true missed perhaps these keeps on has = let clash : true ≡ false = keeps refl refl in cc
noted_b true false false true true true these keeps on has = inr refl
noted_b true false false true true false these keeps on has = inr refl
noted_b true false false true false true these keeps on has = inr refl
noted_b true true anew true true perhaps these keeps on has = inl refl
noted_b true true anew true false true these keeps on has = inr refl
noted_b false now anew true true perhaps these keeps on has = inl refl
noted_b false now anew true false true these keeps on has = inr refl
noted_b true false false true false false these keeps on (inl is) = let clash : false ≡ true = is in cc
noted_b true false false true false false these keeps on (inr is) = let clash : false ≡ true = is in cc
noted_b true true anew true false false these keeps on (inl is) = let clash : false ≡ true = is in cc
noted_b true true anew true false false these keeps on (inr is) = let clash : false ≡ true = is in cc
noted_b false now anew true false false these keeps on (inl is) = let clash : false ≡ true = is in cc
noted_b false now anew true false false these keeps on (inr is) = let clash : false ≡ true = is in cc

-- one of a map that began in the call
began_b : (was now mapped missed these : Bool) → mapped ≡ false → not was ≡ true → missed_b was now mapped missed these ≡ true
began_b false now false missed these off first = refl
began_b true now mapped missed these off first = let clash : false ≡ true = first in cc
began_b false now true missed these off first = let clash : true ≡ false = off in cc

-- what a plex that takes no part has missed is of the call, or it took none before, and it had missed it or its map began in the call
pub record HadMissed (was mapped missed : Bool) : Type 0 where
  pub off : was ≡ false
  pub noted : mapped ≡ true → missed ≡ true

pub had_b : (was mapped missed these : Bool) → missed_b was false mapped missed these ≡ true → (these ≡ true) ⊎ HadMissed was mapped missed
had_b true mapped missed these has = inl has
had_b false true true these has = inr (record { off = refl; noted = λ _. refl })
had_b false true false these has = inl has
had_b false false missed these has = inr (record { off = refl; noted = λ on. (let clash : false ≡ true = on in cc) })

or_right : (x y : Bool) → y ≡ true → (x || y) ≡ true
or_right true y is = refl
or_right false y is = is

or_left : (x y : Bool) → x ≡ true → (x || y) ≡ true
or_left true y is = refl
or_left false y is = let clash : false ≡ true = is in cc

and_then : (x y : Bool) → (x && y) ≡ true → y ≡ true
and_then true y is = is
and_then false y is = let clash : false ≡ true = is in cc

or_none : (x y : Bool) → (x || y) ≡ false → (x ≡ false) × (y ≡ false)
or_none true y is = let clash : true ≡ false = is in cc
or_none false y is = (refl, is)

-- ---- maps that attaches go by

by_three : (s x y : Bool) → (not s && (not x && y)) ≡ true → y ≡ true
by_three true x y is = let clash : false ≡ true = is in cc
by_three false true y is = let clash : false ≡ true = is in cc
by_three false false y is = is

has_some : (o : Option Missed) → is_some o ≡ true → (f : Missed) × (o ≡ Some f)
has_some None is = let clash : false ≡ true = is in cc
has_some (Some f) is = (f, refl)

-- they are in memory
pub map_in : (logs : List Logs) (c : Config) (s : Bool) (v : ℕ) → goes_by logs c s v ≡ true → (f : Missed) × (fmr_at logs v ≡ Some f)
map_in logs c s v on = has_some (fmr_at logs v) (by_three s (on_failed_disk c v Fmr) (is_some (fmr_at logs v)) on)

-- and logs go on
going_b : (s rest : Bool) → (not s && rest) ≡ true → s ≡ false
going_b true rest is = let clash : false ≡ true = is in cc
going_b false rest is = refl

pub going : (logs : List Logs) (c : Config) (s : Bool) (v : ℕ) → goes_by logs c s v ≡ true → s ≡ false
going logs c s v on = going_b s (not (on_failed_disk c v Fmr) && is_some (fmr_at logs v)) on

-- ---- behind a call

module _ (w : MissedNote) (c d : Config) (l k : List Logs) (s t : Bool) (a b : List Bool) (may : ℕ → Bool) (noted : MapsNoted w c l a s)
    (same : (v : ℕ) → goes_by k d t v ≡ true → (plexes_of d v ≡ plexes_of c v) × (region_count d v ≡ region_count c v)) (begins : MapsBeginIn may c d s t l k) where
  there : (v p r : ℕ) → goes_by k d t v ≡ true → IsThere d v p r → IsThere c v p r
  there v p r on it = record { plex = subst (λ (n : ℕ). p < n) (same v on).0 it.plex; region = subst (λ (n : ℕ). r < n) (same v on).1 it.region }

  -- where none were gone by they begin
  first_none : (v p r : ℕ) → w.mapped v ≡ false → goes_by k d t v ≡ true → missed_in l c v p r ≡ not (active c v p)
  first_none v p r off on = ap (λ (o : Option Missed). missed_by o (active c v p) p r) (begins.so v (sym (noted.mapped v) ∙ off) on).1

  -- what they had is noted
  first_most : (v p r : ℕ) (these now anew : Bool) → goes_by k d t v ≡ true → IsThere c v p r → (active c v p ≡ true → now ≡ false → anew ≡ false) → missed_in l c v p r ≡ true
      → (missed_b (active c v p) now (w.mapped v) (w.missed v p r) these ≡ true) ⊎ (perhaps_b (active c v p) now anew (w.mapped v) (w.missed v p r) (w.perhaps v p r) ≡ true)
  first_most v p r these now anew on at keeps has = by (w.mapped v) refl
    where
      by : (x : Bool) → w.mapped v ≡ x → (missed_b (active c v p) now (w.mapped v) (w.missed v p r) these ≡ true) ⊎ (perhaps_b (active c v p) now anew (w.mapped v) (w.missed v p r) (w.perhaps v p r) ≡ true)
      by true is =
          let f = map_in l c s v (sym (noted.mapped v) ∙ is) in
          noted_b (active c v p) now anew (w.mapped v) (w.missed v p r) (w.perhaps v p r) these keeps is
          (noted.most v p r f.0 is f.1 at (sym (ap (λ (o : Option Missed). missed_by o (active c v p) p r) f.1) ∙ has))
      by false is = inl (began_b (active c v p) now (w.mapped v) (w.missed v p r) these is (sym (first_none v p r is on) ∙ has))

  -- and what is noted of one that takes no part they had
  first_least : (v p r : ℕ) → goes_by k d t v ≡ true → IsThere c v p r → HadMissed (active c v p) (w.mapped v) (w.missed v p r) → missed_in l c v p r ≡ true
  first_least v p r on at had = by (w.mapped v) refl
    where
      by : (x : Bool) → w.mapped v ≡ x → missed_in l c v p r ≡ true
      by true is =
          let f = map_in l c s v (sym (noted.mapped v) ∙ is) in
          ap (λ (o : Option Missed). missed_by o (active c v p) p r) f.1 ∙ noted.least v p r f.0 is f.1 at had.off (had.noted is)
      by false is = first_none v p r is on ∙ ap (λ (x : Bool). not x) had.off

  -- a call that is done; of these volumes a write may have failed
  module _ (these anew : ℕ → ℕ → Bool) (doubt : ℕ → Bool) (moves : t ≡ false → MapsMove c d these anew l k) (alike : (v : ℕ) → v < length d.volumes → doubt v ≡ false → is_alike b v ≡ true) where
    pub noted_moved : MapsNoted (record (maps_written (goes_by k d t) d.serial (active c) (active d) anew these w) { doubt = doubt }) d k b t
    noted_moved = record {
      mapped = λ v. refl;
      most = λ v p r g on at it has. by_most v p r on (there v p r on it) ((moves (going k d t v on)).most v p r g at (there v p r on it) has);
      least = λ v p r g on at it off has. by_least v p r g on at (there v p r on it) off
          (had_b (active c v p) (w.mapped v) (w.missed v p r) (these v r)
          (subst (λ (x : Bool). missed_b (active c v p) x (w.mapped v) (w.missed v p r) (these v r) ≡ true) off has));
      alike = alike;
      serial = refl;
    }
      where
        by_most : (v p r : ℕ) → goes_by k d t v ≡ true → IsThere c v p r → ((active d v p ≡ false) × (these v r ≡ true)) ⊎ ((active c v p ≡ true → active d v p ≡ false → anew v p ≡ false) × (missed_in l c v p r ≡ true))
            → (missed_b (active c v p) (active d v p) (w.mapped v) (w.missed v p r) (these v r) ≡ true) ⊎ (perhaps_b (active c v p) (active d v p) (anew v p) (w.mapped v) (w.missed v p r) (w.perhaps v p r) ≡ true)
        by_most v p r on it (inl (off, here)) = inl (run_b (active c v p) (active d v p) (w.mapped v) (w.missed v p r) (these v r) off here)
        by_most v p r on it (inr (keeps, has)) = first_most v p r (these v r) (active d v p) (anew v p) on it keeps has

        by_least : (v p r : ℕ) (g : Missed) → goes_by k d t v ≡ true → fmr_at k v ≡ Some g → IsThere c v p r → active d v p ≡ false → (these v r ≡ true) ⊎ HadMissed (active c v p) (w.mapped v) (w.missed v p r)
            → has_missed g p r ≡ true
        by_least v p r g on at it off (inl here) = (moves (going k d t v on)).least v p r g at it off here
        by_least v p r g on at it off (inr had) = (moves (going k d t v on)).stay v p r g at it had.off off (first_least v p r on it had)

  -- an attach by which the map of a plex becomes that of another one, of which these regions are noted
  module _ (vol plex : ℕ) (row : ℕ → Bool) (moves : MapsAttach c d vol plex l k) (noted_row : goes_by k d t vol ≡ true → (r : ℕ) → r < region_count c vol → missed_in l c vol moves.from r ≡ true → row r ≡ true)
      (alike : (v : ℕ) → v < length d.volumes → w.doubt v ≡ false → is_alike b v ≡ true) where
    abbrev pub joined_note : MissedNote
    joined_note = record {
      mapped = goes_by k d t;
      missed = missed_then w (active c) (active d) none_missed;
      perhaps = λ v p r. perhaps_then w (active c) (active d) no_plex v p r || ((v == vol) && ((p == plex) && row r));
      doubt = w.doubt;
      serial = d.serial;
    }

    pub noted_joined : MapsNoted joined_note d k b t
    noted_joined = record {
      mapped = λ v. refl;
      most = λ v p r g on at it has. by_most v p r on (there v p r on it) (moves.most v p r g at (there v p r on it) has);
      least = λ v p r g on at it off has. by_least v p r g on at (there v p r on it) off
          (had_b (active c v p) (w.mapped v) (w.missed v p r) false
          (subst (λ (x : Bool). missed_b (active c v p) x (w.mapped v) (w.missed v p r) false ≡ true) off has));
      alike = alike;
      serial = refl;
    }
      where
        either_way : (v p r : ℕ) → (missed_b (active c v p) (active d v p) (w.mapped v) (w.missed v p r) false ≡ true) ⊎ (perhaps_b (active c v p) (active d v p) false (w.mapped v) (w.missed v p r) (w.perhaps v p r) ≡ true)
            → (missed_b (active c v p) (active d v p) (w.mapped v) (w.missed v p r) false ≡ true) ⊎ ((perhaps_b (active c v p) (active d v p) false (w.mapped v) (w.missed v p r) (w.perhaps v p r) || ((v == vol) && ((p == plex) && row r))) ≡ true)
        either_way v p r (inl is) = inl is
        either_way v p r (inr is) = inr (or_left _ ((v == vol) && ((p == plex) && row r)) is)

        row_here : (v p r : ℕ) → goes_by k d t v ≡ true → IsThere c v p r → v ≡ vol → p ≡ plex → missed_in l c vol moves.from r ≡ true → ((v == vol) && ((p == plex) && row r)) ≡ true
        row_here v p r on it here same has =
            ap (λ (x : Bool). x && ((p == plex) && row r)) (eq-eqb v vol here) ∙ ap (λ (x : Bool). x && row r) (eq-eqb p plex same)
            ∙ noted_row (subst (λ (u : ℕ). goes_by k d t u ≡ true) here on) r (subst (λ (u : ℕ). r < region_count c u) here it.region) has

        by_most : (v p r : ℕ) → goes_by k d t v ≡ true → IsThere c v p r → (missed_in l c v p r ≡ true) ⊎ ((v ≡ vol) × (p ≡ plex) × (missed_in l c vol moves.from r ≡ true))
            → (missed_b (active c v p) (active d v p) (w.mapped v) (w.missed v p r) false ≡ true) ⊎ ((perhaps_b (active c v p) (active d v p) false (w.mapped v) (w.missed v p r) (w.perhaps v p r) || ((v == vol) && ((p == plex) && row r))) ≡ true)
        by_most v p r on it (inl has) = either_way v p r (first_most v p r false (active d v p) false on it (λ _ _. refl) has)
        by_most v p r on it (inr (here, same, has)) = inr (or_right _ ((v == vol) && ((p == plex) && row r)) (row_here v p r on it here same has))

        by_least : (v p r : ℕ) (g : Missed) → goes_by k d t v ≡ true → fmr_at k v ≡ Some g → IsThere c v p r → active d v p ≡ false → (false ≡ true) ⊎ HadMissed (active c v p) (w.mapped v) (w.missed v p r) → has_missed g p r ≡ true
        by_least v p r g on at it off (inl here) = let clash : false ≡ true = here in cc
        by_least v p r g on at it off (inr had) = moves.stay v p r g at it had.off off (first_least v p r on it had)

  -- a write that was refused, and whether copies may differ behind it
  module _ (vol : ℕ) (these : ℕ → ℕ → Bool) (fell : Bool) (moves : t ≡ false → MapsDoubt c d these l k)
      (alone : (v p r : ℕ) (g : Missed) → goes_by k d t v ≡ true → fmr_at k v ≡ Some g → IsThere c v p r → first_failed w vol fell (active c) v p ≡ true → has_missed g p r ≡ true → these v r ≡ true)
      (alike : (v : ℕ) → v < length d.volumes → (this_volume vol v && fell) ≡ false → w.doubt v ≡ false → is_alike b v ≡ true) where
    pub noted_doubted : MapsNoted (maps_doubted (goes_by k d t) d.serial (active c) (active d) vol fell these w) d k b t
    noted_doubted = record {
      mapped = λ v. refl;
      most = λ v p r g on at it has. by_first v p r g on at (there v p r on it) has (first_failed w vol fell (active c) v p) refl;
      least = λ v p r g on at it off has. by_least v p r g on at (there v p r on it) off
          (had_b (active c v p) (w.mapped v) (w.missed v p r) false
          (subst (λ (x : Bool). missed_b (active c v p) x (w.mapped v) (w.missed v p r) false ≡ true) off
          (and_then (not (first_failed w vol fell (active c) v p)) (missed_then w (active c) (active d) none_missed v p r) has)));
      alike = λ v low sure. alike v low (or_none (w.doubt v) (this_volume vol v && fell) sure).1 (or_none (w.doubt v) (this_volume vol v && fell) sure).0;
      serial = refl;
    }
      where
        either_way : (v p r : ℕ) → (missed_b (active c v p) (active d v p) (w.mapped v) (w.missed v p r) false ≡ true) ⊎ (perhaps_b (active c v p) (active d v p) false (w.mapped v) (w.missed v p r) (w.perhaps v p r) ≡ true) → (missed_b (active c v p) (active d v p) (w.mapped v) (w.missed v p r) false ≡ true) ⊎ ((these v r || perhaps_b (active c v p) (active d v p) false (w.mapped v) (w.missed v p r) (w.perhaps v p r)) ≡ true)
        either_way v p r (inl is) = inl is
        either_way v p r (inr is) = inr (or_right (these v r) _ is)

        by_most : (v p r : ℕ) → goes_by k d t v ≡ true → IsThere c v p r → (these v r ≡ true) ⊎ (missed_in l c v p r ≡ true) → (missed_b (active c v p) (active d v p) (w.mapped v) (w.missed v p r) false ≡ true) ⊎ ((these v r || perhaps_b (active c v p) (active d v p) false (w.mapped v) (w.missed v p r) (w.perhaps v p r)) ≡ true)
        by_most v p r on it (inl here) = inr (or_left (these v r) _ here)
        by_most v p r on it (inr has) = either_way v p r (first_most v p r false (active d v p) false on it (λ _ _. refl) has)

        -- by whether the plex took part, and no write failed before
        by_first : (v p r : ℕ) (g : Missed) → goes_by k d t v ≡ true → fmr_at k v ≡ Some g → IsThere c v p r → has_missed g p r ≡ true → (x : Bool) → first_failed w vol fell (active c) v p ≡ x
            → ((not (first_failed w vol fell (active c) v p) && missed_b (active c v p) (active d v p) (w.mapped v) (w.missed v p r) false) ≡ true) ⊎ ((these v r || (not (first_failed w vol fell (active c) v p) && perhaps_b (active c v p) (active d v p) false (w.mapped v) (w.missed v p r) (w.perhaps v p r))) ≡ true)
        by_first v p r g on at it has true first = inr (or_left (these v r) _ (alone v p r g on at it first has))
        by_first v p r g on at it has false first =
            subst (λ (x : Bool). ((not x && missed_b (active c v p) (active d v p) (w.mapped v) (w.missed v p r) false) ≡ true) ⊎ ((these v r || (not x && perhaps_b (active c v p) (active d v p) false (w.mapped v) (w.missed v p r) (w.perhaps v p r))) ≡ true)) (sym first)
            (by_most v p r on it ((moves (going k d t v on)).most v p r g at it has))

        by_least : (v p r : ℕ) (g : Missed) → goes_by k d t v ≡ true → fmr_at k v ≡ Some g → IsThere c v p r → active d v p ≡ false → (false ≡ true) ⊎ HadMissed (active c v p) (w.mapped v) (w.missed v p r) → has_missed g p r ≡ true
        by_least v p r g on at it off (inl here) = let clash : false ≡ true = here in cc
        by_least v p r g on at it off (inr had) = (moves (going k d t v on)).stay v p r g at it had.off off (first_least v p r on it had)
