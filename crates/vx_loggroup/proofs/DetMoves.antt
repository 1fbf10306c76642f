-- What a detach makes of the maps of missed regions in memory, by what it says of the list of logs.
use Rattle.std.proofs.Common.{◌≡◌, ◌∙◌, ◌<◌, ◌*◌, ◌/◌, ℕ, Bool, true, false, Option, Some, None, List, IsTrue, length, refl, sym, ap, subst, inl, inr, arith}
use Rattle.std.specs.Prelude.{slice_get, Result, Ok, Err, OnOk}
use Rattle.std.specs.Int.{div_ceil}
use Rattle.std.proofs.lemmas.Bool.{cases_eq}
use Rattle.std.proofs.lemmas.Option.{slice_get_within}
use Rattle.vx_config.specs.Checks.{blocks_of, plexes_of}
use Rattle.vx_config.specs.declared.config.Config.{Config}
use Rattle.vx_fmr.specs.Missed.{FmrLoaded, Missed, has_missed}
use Rattle.vx_group.specs.Attaches.{region_count}
use Rattle.vx_group.specs.Holding.{wide}
use Rattle.vx_group.specs.declared.group_core.GroupCore.{GroupCore}
use Rattle.vx_group.specs.declared.group_core.Held.{Held}
use Rattle.vx_logs.specs.declared.logs.Logs.{Logs}
use Rattle.vx_volume.specs.Plexes.{active}
use Rattle.vx_loggroup.specs.Attaching.{fmr_at, fmr_or}
use Rattle.vx_loggroup.specs.Detaching.{MapIsEmpty, MapsBegin}
use Rattle.vx_loggroup.specs.Fresh.{ListMaps, LogsFirst}
use Rattle.vx_loggroup.specs.Moving.{IsThere, MapsMove, MovesDet, in_none, missed_in, this_anew}
use Rattle.vx_loggroup.proofs.DetachedLogs.{active_low}
use Rattle.vx_loggroup.proofs.MovedLemmas.{same_missed}
use Rattle.vx_loggroup.proofs.NewLemmas.{HasMaps, begun_missed, has_maps}
use Rattle.vx_loggroup.proofs.SetLemmas.{item_at}
use Rattle.vx_loggroup.proofs.VolumeMoves.{MapWithout, det_moves}
use Rattle.vx_loggroup.proofs.WroteMoves.{first_maps}

-- a map that has no region of a block has none of the volume
empty_regions : (c : Config) (v p : ℕ) (o : Option Missed) → v < length c.volumes → MapIsEmpty c v p o → (f : Missed) → o ≡ Some f → (r : ℕ) → r < region_count c v → has_missed f p r ≡ false
empty_regions c v p o there empty f is r lt =
    subst (λ (n : ℕ). has_missed f p n ≡ false) (back r) (empty.so f is (64 * r) (record { volume = there; within = low (blocks_of c.volumes v) r lt }))
  where
    back : (n : ℕ) → 64 * n / 64 ≡ n
    back n = omega arith

    low : (blocks n : ℕ) → n < div_ceil blocks 64 → 64 * n < blocks
    low blocks n lt = omega (arith, lt)

-- where no map may begin anew
none_begins : (c d : Config) (vol plex : ℕ) (l k : List Logs) → MapsMove c d in_none (this_anew vol plex false) l k → MapsMove c d in_none in_none l k
none_begins c d vol plex l k moves = record {
  most = λ v p r g at it has. elim (moves.most v p r g at it has) [
    | inl here ↦ let clash : false ≡ true = here.1 in cc
    | inr was ↦ inr ((λ on away. refl), was.1)
  ];
  least = moves.least;
  stay = moves.stay;
}

-- logs that begin alone
pub first_moves : (c d : Config) (v n : ℕ) (ls ks : List Logs) → LogsFirst v n ls ks → ListMaps c v ls ks → MapsMove c d in_none in_none ls ks
first_moves c d v n ls ks first news = record {
  most = λ w p r g at it has. inr ((λ on away. refl), as_was w p r g at it ∙ has);
  least = λ w p r g at it off has. let clash : false ≡ true = has in cc;
  stay = λ w p r g at it was off has. sym (as_was w p r g at it) ∙ has;
}
  where
    as_was : (w p r : ℕ) (g : Missed) → fmr_at ks w ≡ Some g → IsThere c w p r → missed_in ls c w p r ≡ has_missed g p r
    as_was w p r g at it = elim (cases_eq w v) [
      | inl here ↦ sym (subst (λ (u : ℕ). has_missed g p r ≡ missed_in ls c u p r) (sym here) (begun_missed c v n ls ks g first news (subst (λ (u : ℕ). fmr_at ks u ≡ Some g) here at) p r (subst (λ (u : ℕ). IsThere c u p r) here it)))
      | inr apart ↦ same_missed c ls ks w (ap fmr_or (first.others w apart)) p r g at
    ]

-- From a group c the logs of volume v may begin, which gives e; then the plex is detached, which gives d.
module _ (c e d : GroupCore) (v plex n : ℕ) (ls ks js : List Logs) (still : (w p : ℕ) → active e.inner.config w p ≡ active c.inner.config w p) (count : plexes_of e.inner.config v ≡ plexes_of c.inner.config v)
    (blocks : blocks_of e.inner.config.volumes v ≡ blocks_of c.inner.config.volumes v) (first : LogsFirst v n ls ks) (news : ListMaps c.inner.config v ls ks)
    (fits : (k : Logs) → slice_get ks v ≡ Some k → (f : Missed) → k.fmr ≡ Some f → FmrLoaded (wide e).config v f)
    (maps : MapsBegin v plex ks js) (many : length js ≡ length ks) (same : active c.inner.config v plex ≡ false → js ≡ ks) where
  -- the maps before the detach
  was_maps : (g : Missed) → fmr_at js v ≡ Some g → (f : Missed) × (fmr_at ks v ≡ Some f)
  was_maps g is =
      let now : HasMaps js v g = has_maps js v g is in
      let old : (k : Logs) × (slice_get ks v ≡ Some k) = item_at ks v (let low = slice_get_within js v now.logs now.at in omega (arith, low, many)) in
      by old.0 old.1 now old.0.fmr refl
    where
      by : (k : Logs) → slice_get ks v ≡ Some k → HasMaps js v g → (o : Option Missed) → k.fmr ≡ o → (f : Missed) × (fmr_at ks v ≡ Some f)
      by k at now None none = absurd (let clash : None ≡ Some g = sym ((maps.here k now.logs at now.at).gone none) ∙ now.has in cc)
      by k at now (Some f) has = (f, ap fmr_or at ∙ has)

  det_map : (g : Missed) → fmr_at js v ≡ Some g → MapWithout c.inner.config v plex ls g
  det_map g is =
      let was = was_maps g is in
      let old : HasMaps ks v was.0 = has_maps ks v was.0 was.1 in
      let now : HasMaps js v g = has_maps js v g is in
      let it = (maps.here old.logs now.logs old.at now.at).here was.0 g old.has now.has in
      record {
        map = was.0;
        begun = first_maps c e d v n ls ks js still count blocks first news fits was.0 was.1;
        others = it.others;
        fewer = it.fewer;
        still = λ off r lt has. subst (λ (f : Missed). has_missed f plex r ≡ true) (one (fmr_at ks v) was.0 g was.1 (sym (ap (λ (xs : List Logs). fmr_at xs v) (same off)) ∙ is)) has;
      }
    where
      one : (o : Option Missed) (f h : Missed) → o ≡ Some f → o ≡ Some h → f ≡ h
      one o f h left right = let both : Some f ≡ Some h = sym left ∙ right in cc

  others_are : (w : ℕ) → (w ≡ v → ⊥) → fmr_at js w ≡ fmr_at ls w
  others_are w apart = ap fmr_or (maps.others w apart ∙ first.others w apart)

  module _ {T E : Type 0} (sure going : Bool) (h : Option Held) (r : Result T E) (off : going ≡ false) (free : IsTrue (active c.inner.config v plex) → OnOk r (h ≡ None))
      (begins : OnOk r (going ≡ false → h ≡ None → sure ≡ true → IsTrue (active c.inner.config v plex) → MapIsEmpty c.inner.config v plex (fmr_at js v))) where
    pub run_det : MovesDet c.inner.config d.inner.config v plex sure ls js r
    run_det = by r free begins
      where
        by : (r : Result T E) → (IsTrue (active c.inner.config v plex) → OnOk r (h ≡ None)) → OnOk r (going ≡ false → h ≡ None → sure ≡ true → IsTrue (active c.inner.config v plex) → MapIsEmpty c.inner.config v plex (fmr_at js v))
            → MovesDet c.inner.config d.inner.config v plex sure ls js r
        by (Ok x) free begins =
            det_moves c.inner.config d.inner.config v plex sure ls js others_are det_map
            (λ is on away g at r lt. empty_regions c.inner.config v plex (fmr_at js v) (active_low c.inner.config v plex on) (begins off (free on) is on) g at r lt)
        by (Err x) free begins =
            none_begins c.inner.config d.inner.config v plex ls js
            (det_moves c.inner.config d.inner.config v plex false ls js others_are det_map (λ is on away g at r lt. absurd (let clash : false ≡ true = is in cc)))
