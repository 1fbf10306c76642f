-- What a detach that was refused, and a volume that was made, make of what a site notes of missed regions.
use Rattle.std.proofs.Common.{◌≡◌, ◌<◌, ◌+◌, ◌&&◌, ℕ, Bool, true, false, List, length, refl, sym, ◌∙◌, ap, subst, IsTrue, inl, inr, arith}
use Rattle.std.specs.Prelude.{not, ◌==◌}
use Rattle.std.proofs.lemmas.Bool.{cases_lt, eq-eqb, eqb-true}
use Rattle.vx_config.specs.Checks.{plexes_of}
use Rattle.vx_config.specs.declared.config.Config.{Config}
use Rattle.vx_disk.specs.Counts.{Rose}
use Rattle.vx_disk.specs.Shelf.{Meaning}
use Rattle.vx_group.specs.Attaches.{region_count}
use Rattle.vx_history.specs.Groups.{MissedNote}
use Rattle.vx_history.specs.MapChanges.{InNoVolume, InVolume, MapsWritten}
use Rattle.vx_history.specs.Missing.{maps_added, maps_written, no_plex, none_missed, this_volume}
use Rattle.vx_kept.specs.Choice.{live}
use Rattle.vx_kept.specs.Keeping.{AllOn}
use Rattle.vx_logs.specs.declared.logs.Logs.{Logs}
use Rattle.vx_volume.specs.Plexes.{active}
use Rattle.vx_loggroup.specs.LoggedVolumes.{is_alike}
use Rattle.vx_loggroup.specs.Moving.{MapsBeginIn, MapsEnd, MapsMove, goes_by}
use Rattle.vx_grouped.specs.MapsNoted.{MapsNoted}
use Rattle.vx_grouped.specs.SiteMaps.{AddMaps, DetMapsFailed}
use Rattle.vx_grouped.proofs.NotedMapLemmas.{noted_moved}
use Rattle.vx_grouped.proofs.WrittenMapLemmas.{live_active, stay_known, written_as}

module _ (w : MissedNote) (c d : Config) (l k : List Logs) (s t : Bool) (a b : List Bool) (m m' : Meaning) (noted : MapsNoted w c l a s) (all_c : AllOn c) (all_d : AllOn d)
    (same : (v : ℕ) → goes_by k d t v ≡ true → (plexes_of d v ≡ plexes_of c v) × (region_count d v ≡ region_count c v)) (up : IsTrue m'.down → ⊥)
    (rack : (u : ℕ) → Rose (m.faults u) (m'.faults u) → Rose (m.disk_faults u) (m'.disk_faults u)) (ends : MapsEnd c d s t l k m m') (moves : t ≡ false → MapsMove c d none_missed no_plex l k) where
  -- by plexes that are ACTIVE or CLEAN
  none_written : (anew : ℕ → ℕ → Bool) (next : MissedNote) → MapsWritten (length c.volumes) (active c) (active d) anew none_missed w next → MapsWritten (length c.volumes) (live c) (live d) anew none_missed w next
  none_written anew next it = written_as w next (active c) (active d) (live c) (live d) anew none_missed (live_active c all_c) (live_active d all_d) (length c.volumes) it

  -- a plex that was not detached: the logs of its volume may have begun
  module _ (vol plex : ℕ) (still : active d vol plex ≡ active c vol plex) (begins : MapsBeginIn (this_volume vol) c d s t l k) (many : length d.volumes ≡ length c.volumes) (alike : (v : ℕ) → is_alike a v ≡ true → is_alike b v ≡ true) where
    abbrev undetached : MissedNote
    undetached = record (maps_written (goes_by k d t) d.serial (active c) (active d) no_plex none_missed w) { doubt = w.doubt }

    pub undet_noted : MapsNoted undetached d k b t
    undet_noted = noted_moved w c d l k s t a b (this_volume vol) noted same begins none_missed no_plex w.doubt moves (λ v lt sure. alike v (noted.alike v (subst (λ (n : ℕ). v < n) many lt) sure))

    pub undet_maps : DetMapsFailed vol plex m m' c d w undetached
    undet_maps = record {
      known = stay_known w undetached c d l k s t a m m' noted (λ v. refl) refl up rack ends InNoVolume (InVolume vol) (λ v off on. eqb-true v vol (begins.so v off on).0);
      same = sym (live_active d all_d vol plex) ∙ still ∙ live_active c all_c vol plex;
      written = none_written no_plex undetached (record { missed = λ v p r on. refl; perhaps = λ v p r on. refl; doubt = λ v lt. refl });
    }

    pub undet_goes : (after : MissedNote) × DetMapsFailed vol plex m m' c d w after × MapsNoted after d k b t
    undet_goes = (undetached, undet_maps, undet_noted)

  -- a volume that was made: its plexes are alike, and its logs have not begun
  module _ (begins : MapsBeginIn (λ v. false) c d s t l k) (many : length d.volumes ≡ length c.volumes + 1) (alike : (v : ℕ) → v < length c.volumes → is_alike a v ≡ true → is_alike b v ≡ true) (fresh : is_alike b (length c.volumes) ≡ true) where
    abbrev added : MissedNote
    added = maps_added (goes_by k d t) d.serial (active c) (active d) (length c.volumes) w

    low_or : (v n many_d : ℕ) → v < many_d → many_d ≡ n + 1 → (v ≡ n → ⊥) → v < n
    low_or v n many_d lt is apart = elim (cases_lt v n) [ inl low ↦ low | inr high ↦ absurd (apart (omega (arith, lt, is, high))) ]

    apart_by : (v n : ℕ) → (v == n) ≡ false → v ≡ n → ⊥
    apart_by v n off is = let clash : false ≡ true = sym off ∙ eq-eqb v n is in cc

    low_apart : (v n : ℕ) → v < n → (v == n) ≡ false
    low_apart v n low = by (v == n) refl
      where
        by : (x : Bool) → (v == n) ≡ x → (v == n) ≡ false
        by true is = let same_n = eqb-true v n is in absurd (omega (arith, low, same_n))
        by false is = is

    added_alike : (v : ℕ) → v < length d.volumes → (not (this_volume (length c.volumes) v) && w.doubt v) ≡ false → is_alike b v ≡ true
    added_alike v lt sure = by (v == length c.volumes) refl
      where
        by : (x : Bool) → (v == length c.volumes) ≡ x → is_alike b v ≡ true
        by true is = subst (λ (n : ℕ). is_alike b n ≡ true) (sym (eqb-true v (length c.volumes) is)) fresh
        by false is =
            let low = low_or v (length c.volumes) (length d.volumes) lt many (apart_by v (length c.volumes) is) in
            alike v low (noted.alike v low (sym (ap (λ (q : Bool). not q && w.doubt v) is) ∙ sure))

    pub added_noted : MapsNoted added d k b t
    added_noted = noted_moved w c d l k s t a b (λ v. false) noted same begins none_missed no_plex (λ v. not (this_volume (length c.volumes) v) && w.doubt v) moves added_alike

    pub added_maps : AddMaps m m' c d w added
    added_maps = record {
      called = record {
        known = stay_known w added c d l k s t a m m' noted (λ v. refl) refl up rack ends InNoVolume InNoVolume (λ v off on. let clash : false ≡ true = (begins.so v off on).0 in cc);
        written = none_written no_plex added (record { missed = λ v p r on. refl; perhaps = λ v p r on. refl; doubt = λ v lt. ap (λ (q : Bool). not q && w.doubt v) (low_apart v (length c.volumes) lt) });
      };
      doubt = ap (λ (q : Bool). not q && w.doubt (length c.volumes)) (eq-eqb (length c.volumes) (length c.volumes) refl);
    }

    pub added_goes : (after : MissedNote) × AddMaps m m' c d w after × MapsNoted after d k b t
    added_goes = (added, added_maps, added_noted)
