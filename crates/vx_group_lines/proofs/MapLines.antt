-- How what a call makes of the regions that plexes missed is seen in the world, whose lines name the failed calls.
use Rattle.std.proofs.Common.{◌≡◌, ◌⊎◌, ◌<◌, ◌≤◌, ◌+◌, ℕ, zero, suc, Bool, true, false, List, [], ◌∷◌, arith, length, refl, sym, ◌∙◌, subst, inl, inr}
use Rattle.std.specs.Prelude.{Option, Some, None, if◌then◌else◌, slice_get}
use Rattle.vx_config.specs.declared.config.Config.{Config}
use Rattle.vx_config.specs.declared.entry.LogEntry.{LogEntry}
use Rattle.vx_config.specs.declared.entry.PlexEntry.{PlexEntry}
use Rattle.vx_config.specs.declared.entry.VolumeEntry.{VolumeEntry}
use Rattle.vx_config.specs.declared.entry.VolumeLog.TheVariants.{Fmr}
use Rattle.vx_disk.specs.Shelf.{Meaning}
use Rattle.vx_history.specs.Groups.{MissedNote}
use Rattle.vx_history.specs.MapChanges.{InNoVolume, InVolume, MapsGone, MapsWritten, StayKnown}
use Rattle.vx_group.specs.Attaches.{region_count}
use Rattle.vx_history.specs.Missing.{CopiesMissed, each_anew, in_write, missed_then, no_plex, none_missed, one_anew, perhaps_then}
use Rattle.vx_kept.specs.Choice.{live, live_or}
use Rattle.vx_kept.specs.Cleans.{at_serial}
use Rattle.vx_layout.specs.Places.{plex_at}
use Rattle.vx_model.specs.Content.{Write}
use Rattle.vx_maplog.specs.Logs.{log_or}
use Rattle.vx_grouped.specs.MapsNoted.{CopiesNoted}
use Rattle.vx_grouped.specs.SiteMaps.{AddMaps, AttMaps, DetMapsDone, DetMapsFailed, DoubtMaps, FailedAt, MapsLike, WriteMaps, map_disk_of, map_disk_or}
use Rattle.vx_grouped.proofs.WrittenMapLemmas.{doubted_as, missed_as, perhaps_as, written_as}
use Rattle.vx_events.specs.Fails.{Fails}
use Rattle.vx_events.specs.GroupMaps.{FailedIn, MapsAdded, MapsAttached, MapsCalled, MapsDetached, MapsOfDoubt, MapsOfWrite, MapsUndetached, entry_takes, kept_disk, map_disk, maps_disk, takes_part}
use Rattle.vx_above.proofs.Losing.{Names}

-- ---- what configurations say

takes_or : (o : Option PlexEntry) → live_or o ≡ entry_takes o
takes_or None = refl
takes_or (Some p) = refl

pub takes_is : (c : Config) (v p : ℕ) → live c v p ≡ takes_part (at_serial 0 c) v p
unfolding live
takes_is c v p = takes_or (plex_at c v p)

kept_or : (e : Option LogEntry) → map_disk_or e ≡ kept_disk e
kept_or None = refl
kept_or (Some e) = refl

disk_or : (o : Option VolumeEntry) → map_disk_or (log_or Fmr o) ≡ maps_disk o
disk_or None = refl
disk_or (Some volume) = kept_or volume.fmr

pub disk_is : (c : Config) (v : ℕ) → map_disk_of c v ≡ map_disk (at_serial 0 c) v
disk_is c v = disk_or (slice_get c.volumes v)

-- ---- which maps are known

module _ (s many : ℕ) (fails : Fails) (o e : Meaning) (names : Names s many fails o e) (c : Config) (low : (v k : ℕ) → map_disk_of c v ≡ Some k → k < many) (w next : MissedNote) where
  pub gone_named : (v : ℕ) → MapsGone (FailedAt o e) (map_disk_of c) w next v → MapsGone (FailedIn s fails) (map_disk (at_serial 0 c)) w next v
  gone_named v (inl (k, at, rose)) = inl (k, sym (disk_is c v) ∙ at, names.each k (low v k at) rose)
  gone_named v (inr (inl none)) = inr (inl (sym (disk_is c v) ∙ none))
  gone_named v (inr (inr far)) = inr (inr far)

  pub known_named : (Lost Begins : ℕ → Type 0) → StayKnown (FailedAt o e) Lost Begins (map_disk_of c) w next → StayKnown (FailedIn s fails) Lost Begins (map_disk (at_serial 0 c)) w next
  known_named Lost Begins it = record { stays = λ v on. by v (it.stays v on); begins = it.begins; later = it.later }
    where
      by : (v : ℕ) → (next.mapped v ≡ true) ⊎ MapsGone (FailedAt o e) (map_disk_of c) w next v ⊎ Lost v → (next.mapped v ≡ true) ⊎ MapsGone (FailedIn s fails) (map_disk (at_serial 0 c)) w next v ⊎ Lost v
      by v (inl on) = inl on
      by v (inr (inl gone)) = inr (inl (gone_named v gone))
      by v (inr (inr lost)) = inr (inr lost)

-- ---- how many regions an attach copies

module _ (w : MissedNote) (c : Config) (v p n many : ℕ) (same : region_count c v ≡ many) (it : CopiesNoted w c v p n) where
  pub copies_unknown : w.mapped v ≡ false → n ≡ many
  copies_unknown off = it.unknown off ∙ same

  pub copies_known : w.mapped v ≡ true → CopiesMissed w v p many n
  copies_known on = subst (λ (k : ℕ). CopiesMissed w v p k n) same (it.missed on)

-- ---- so many disks have the logs of missed regions of volumes

abbrev entry_bound : Option LogEntry → ℕ
entry_bound None = 0
entry_bound (Some e) = e.disk + 1

abbrev pub logs_bound : List VolumeEntry → ℕ
logs_bound [] = 0
logs_bound (x ∷ xs) = entry_bound x.fmr + logs_bound xs

entry_low : (o : Option LogEntry) (k : ℕ) → map_disk_or o ≡ Some k → k < entry_bound o
entry_low None k is = absurd (let clash : None ≡ Some k = is in cc)
entry_low (Some e) k is = by e.lost is
  where
    by : (b : Bool) → (if b then None else Some e.disk) ≡ Some k → k < e.disk + 1
    by true is = absurd (let clash : None ≡ Some k = is in cc)
    by false is = let same : e.disk ≡ k = let both : Some e.disk ≡ Some k = is in cc in omega (arith, same)

volume_low : (vs : List VolumeEntry) (v k : ℕ) → map_disk_or (log_or Fmr (slice_get vs v)) ≡ Some k → k < logs_bound vs
volume_low [] v k is = absurd (let clash : None ≡ Some k = is in cc)
volume_low (x ∷ xs) zero k is = let low = entry_low x.fmr k is in omega (arith, low)
volume_low (x ∷ xs) (suc v) k is = let low = volume_low xs v k is in omega (arith, low)

pub logs_low : (c : Config) (many v k : ℕ) → logs_bound c.volumes ≤ many → map_disk_of c v ≡ Some k → k < many
logs_low c many v k enough is = let low = volume_low c.volumes v k is in omega (arith, low, enough)

-- ---- calls, as the lines tell them

module _ (s many : ℕ) (fails : Fails) (o e : Meaning) (names : Names s many fails o e) (c d : Config) (low : (v k : ℕ) → map_disk_of c v ≡ Some k → k < many) (w next : MissedNote) where
  written_to : (anew these : ℕ → ℕ → Bool) → MapsWritten (length c.volumes) (live c) (live d) anew these w next → MapsWritten (length c.volumes) (takes_part (at_serial 0 c)) (takes_part (at_serial 0 d)) anew these w next
  written_to anew these it = written_as w next (live c) (live d) (takes_part (at_serial 0 c)) (takes_part (at_serial 0 d)) anew these (takes_is c) (takes_is d) (length c.volumes) it

  missed_to : (v p r : ℕ) → missed_then w (live c) (live d) none_missed v p r ≡ missed_then w (takes_part (at_serial 0 c)) (takes_part (at_serial 0 d)) none_missed v p r
  missed_to = missed_as w next (live c) (live d) (takes_part (at_serial 0 c)) (takes_part (at_serial 0 d)) no_plex none_missed (takes_is c) (takes_is d)

  perhaps_to : (v p r : ℕ) → perhaps_then w (live c) (live d) no_plex v p r ≡ perhaps_then w (takes_part (at_serial 0 c)) (takes_part (at_serial 0 d)) no_plex v p r
  perhaps_to = perhaps_as w next (live c) (live d) (takes_part (at_serial 0 c)) (takes_part (at_serial 0 d)) no_plex none_missed (takes_is c) (takes_is d)

  pub like_named : MapsLike o e c d w next → MapsCalled s fails (at_serial 0 c) (at_serial 0 d) w next
  like_named it = record { known = known_named s many fails o e names c low w next InNoVolume InNoVolume it.known; written = written_to no_plex none_missed it.written }

  pub det_named : (vol plex : ℕ) → DetMapsDone vol plex o e c d w next → MapsDetached s fails vol plex (at_serial 0 c) (at_serial 0 d) w next
  det_named vol plex it = record { known = known_named s many fails o e names c low w next InNoVolume (InVolume vol) it.known; written = written_to (one_anew w vol plex) none_missed it.written }

  pub undet_named : (vol plex : ℕ) → DetMapsFailed vol plex o e c d w next → MapsUndetached s fails vol plex (at_serial 0 c) (at_serial 0 d) w next
  undet_named vol plex it = record {
    known = known_named s many fails o e names c low w next InNoVolume (InVolume vol) it.known;
    same = sym (takes_is d vol plex) ∙ it.same ∙ takes_is c vol plex;
    written = written_to no_plex none_missed it.written;
  }

  pub att_named : (vol plex : ℕ) → AttMaps vol plex o e c d w next → MapsAttached s fails vol plex (at_serial 0 c) (at_serial 0 d) w next
  att_named vol plex it = record {
    known = known_named s many fails o e names c low w next InNoVolume InNoVolume it.known;
    joined = record {
      missed = λ v p r on. it.joined.missed v p r on ∙ missed_to v p r;
      perhaps = λ v p r on has. elim (it.joined.perhaps v p r on has) [
        | inl is ↦ inl (sym (perhaps_to v p r) ∙ is)
        | inr took ↦ inr took
      ];
      doubt = it.joined.doubt;
    };
  }

  pub write_named : (x : Write) → WriteMaps x o e c d w next → MapsOfWrite s fails x (at_serial 0 c) (at_serial 0 d) w next
  write_named x it = record { known = known_named s many fails o e names c low w next InNoVolume (InVolume x.volume) it.known; written = written_to (each_anew w x.volume) (in_write x) it.written }

  pub doubt_named : (x : Write) → DoubtMaps x o e c d w next → MapsOfDoubt s fails x (at_serial 0 c) (at_serial 0 d) w next
  doubt_named x it = record {
    known = known_named s many fails o e names c low w next InNoVolume (InVolume x.volume) it.known;
    failed = doubted_as w next (live c) (live d) (takes_part (at_serial 0 c)) (takes_part (at_serial 0 d)) x.volume (in_write x) (takes_is c) (takes_is d) it.failed;
  }

  pub added_named : AddMaps o e c d w next → MapsAdded s fails (at_serial 0 c) (at_serial 0 d) w next
  added_named it = record { called = like_named it.called; doubt = it.doubt }
