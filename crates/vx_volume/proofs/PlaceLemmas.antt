-- What a checked configuration says of the places of plexes that are ACTIVE.
use Rattle.std.proofs.Common.{◌≡◌, ℕ, ◌+◌, ◌<◌, ◌≤◌, ◌^◌, true, false, Option, Some, None, length, refl, ap, sym, ◌∙◌, arith, IsTrue}
use Rattle.std.specs.Prelude.{◌&&◌, nat_le, slice_get, is_some}
use Rattle.std.specs.List.{list_all, list_any}
use Rattle.std.proofs.lemmas.Bool.{leb-true, ltb-true}
use Rattle.std.proofs.lemmas.Option.{slice_get_within}
use Rattle.vx_disk.specs.Shelf.{Meaning}
use Rattle.vx_config.specs.declared.config.Config.{Config}
use Rattle.vx_config.specs.declared.entry.PlexEntry.{PlexEntry}
use Rattle.vx_config.specs.declared.entry.VolumeEntry.{VolumeEntry}
use Rattle.vx_config.specs.Checks.{blocks_of, has_logs, has_plexes, has_shape, is_live, is_sound, is_volume, plex_fills, preferred_is, plexes_of, plexes_or}
use Rattle.vx_layout.specs.Places.{HasBlock, disk_blocks, has_plex, place, plex_in}
use Rattle.vx_layout.proofs.Pairs.{all_at, and_left, and_right}
use Rattle.vx_layout.proofs.Placing.{from_sound, sound_apart}
use Rattle.vx_volume.specs.Plexes.{Apart, DisksFit, InRun, Inside, OneEach, RunFits, VolumeFits, active, active_or, uses}
use Rattle.vx_volume.proofs.UsesLemmas.{TherePlex, disk_there, plex_disk, plex_uses}

-- a plex that is ACTIVE is there
there_of : (c : Config) (v p : ℕ) → IsTrue (active c v p) → TherePlex c v p
unfolding active
there_of c v p is_on = by_volume (slice_get c.volumes v) refl
  where
    by_plex : (x : VolumeEntry) → slice_get c.volumes v ≡ Some x → (o : Option PlexEntry) → slice_get x.plexes p ≡ o → active_or o ≡ true → TherePlex c v p
    by_plex x at None at_p is = absurd (let clash : false ≡ true = is in cc)
    by_plex x at (Some a) at_p is = record { volume = x; plex = a; at_v = at; at_p = at_p }

    by_volume : (o : Option VolumeEntry) → slice_get c.volumes v ≡ o → TherePlex c v p
    by_volume None at = absurd (let clash : false ≡ true = ap (λ (o : Option VolumeEntry). active_or (plex_in o p)) (sym at) ∙ is_on in cc)
    by_volume (Some x) at = by_plex x at (slice_get x.plexes p) refl (ap (λ (o : Option VolumeEntry). active_or (plex_in o p)) (sym at) ∙ is_on)

pub has_of : (c : Config) (v p k : ℕ) → IsTrue (active c v p) → Inside c v k → HasBlock c v p k
unfolding has_plex
has_of c v p k is_on inside =
    let t = there_of c v p is_on in
    record { plex = ap (λ (o : Option VolumeEntry). is_some (plex_in o p)) t.at_v ∙ ap is_some t.at_p; block = inside.within }

-- ---- from a checked configuration

module _ (c : Config) (sound : is_sound c ≡ true) where
  pub apart_of : Apart c
  apart_of = record { one = λ v p b w q d in_b in_d on_b on_d same. (sound_apart c sound).one v p b w q d (has_of c v p b on_b in_b) (has_of c w q d on_d in_d) same }

  pub one_of : (v p : ℕ) → IsTrue (active c v p) → OneEach c v p
  one_of v p is_on = record { same = λ k l in_k in_l is. (apart_of.one v p k v p l in_k in_l is_on is_on is).2 }

  pub place_there : (v p k : ℕ) → IsTrue (active c v p) → Inside c v k → ((place c v p k).0 < length c.disks) × ((place c v p k).1 < disk_blocks c.disks (place c v p k).0)
  place_there v p k is_on inside = let r = (sound_apart c sound).region v p k (has_of c v p k is_on inside) in (disk_there c (place c v p k).0 (omega (arith, r.end)), omega (arith, r.end))

  pub fits_of : (v p block n : ℕ) (m : Meaning) → DisksFit c.disks m → IsTrue (active c v p) → ((k : ℕ) → InRun block n k → Inside c v k) → RunFits c v p block n m
  fits_of v p block n m fit is_on inside = record {
    there = λ k run. fit.there (place c v p k).0 (place_there v p k is_on (inside k run)).0;
    within = λ k run. let at = place_there v p k is_on (inside k run) in omega (arith, at.1, fit.size (place c v p k).0 at.0);
  }

  plexes_few : (v : ℕ) (x : VolumeEntry) → slice_get c.volumes v ≡ Some x → length x.plexes ≤ 8
  plexes_few v x at =
      let is = all_at is_volume c.volumes v x (from_sound c sound).2 at in
      let plexes : has_plexes x ≡ true = and_right (has_shape x && has_logs x) _ is in
      let three : nat_le (length x.plexes) 8 && list_all (plex_fills x) x.plexes && preferred_is (length x.plexes) x.prefer ≡ true = and_left _ (list_any is_live x.plexes) plexes in
      let two : nat_le (length x.plexes) 8 && list_all (plex_fills x) x.plexes ≡ true = and_left _ (preferred_is (length x.plexes) x.prefer) three in
      leb-true (length x.plexes) 8 (and_left (nat_le (length x.plexes) 8) _ two)

  pub preferred_there : (v : ℕ) (x : VolumeEntry) (p : ℕ) → slice_get c.volumes v ≡ Some x → x.prefer ≡ Some p → p < length x.plexes
  preferred_there v x p at prefer =
      let is = all_at is_volume c.volumes v x (from_sound c sound).2 at in
      let plexes : has_plexes x ≡ true = and_right (has_shape x && has_logs x) _ is in
      let three : nat_le (length x.plexes) 8 && list_all (plex_fills x) x.plexes && preferred_is (length x.plexes) x.prefer ≡ true = and_left _ (list_any is_live x.plexes) plexes in
      let one : preferred_is (length x.plexes) x.prefer ≡ true = and_right (nat_le (length x.plexes) 8 && list_all (plex_fills x) x.plexes) _ three in
      ltb-true p (length x.plexes) (ap (preferred_is (length x.plexes)) (sym prefer) ∙ one)

  pub count_few : (v : ℕ) → plexes_of c v ≤ 8
  count_few v = by (slice_get c.volumes v) refl
    where
      by : (o : Option VolumeEntry) → slice_get c.volumes v ≡ o → plexes_or o ≤ 8
      by None at = omega arith
      by (Some x) at = plexes_few v x at

  pub active_below : (v p : ℕ) → IsTrue (active c v p) → p < plexes_of c v
  active_below v p is_on =
      let t = there_of c v p is_on in
      let count : plexes_of c v ≡ length t.volume.plexes = ap plexes_or t.at_v in
      let lt = slice_get_within t.volume.plexes p t.plex t.at_p in
      omega (arith, count, lt)

  pub active_few : (v p : ℕ) → IsTrue (active c v p) → p < 8
  active_few v p is_on = omega (arith, active_below v p is_on, count_few v)

  pub volume_fits : (v block n bound : ℕ) (m : Meaning) → v < length c.volumes → block + n ≤ blocks_of c.volumes v → bound ≡ blocks_of c.volumes v → bound < 2 ^ 64 → DisksFit c.disks m → VolumeFits c v block n m
  volume_fits v block n bound m lt within is small fit =
      let inside : (k : ℕ) → InRun block n k → Inside c v k = λ k run. record { volume = lt; within = let last : k < block + n = run.last in omega (arith, last, within) } in
      record { inside = inside; sound = sound; end = omega (arith, within, is, small); fits = λ p is_on. fits_of v p block n m fit is_on inside; few = λ p is_on. active_few v p is_on }

  -- ---- the disks that a plex uses

  pub place_uses : (v p k : ℕ) → IsTrue (active c v p) → Inside c v k → IsTrue (uses c v p (place c v p k).0)
  place_uses v p k is_on inside = plex_uses c sound v p (there_of c v p is_on) k inside

  pub used_there : (v p d : ℕ) → IsTrue (active c v p) → IsTrue (uses c v p d) → d < length c.disks
  used_there v p d is_on is = plex_disk c sound v p (there_of c v p is_on) d is
