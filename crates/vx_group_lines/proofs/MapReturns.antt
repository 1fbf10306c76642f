-- How what an import makes of the regions that plexes missed is seen in the world.
use Rattle.std.proofs.Common.{◌≡◌, ◌⊎◌, ◌<◌, ℕ, true, false, refl, sym, ◌∙◌, ap, inl, inr}
use Rattle.std.specs.Prelude.{Option, Some, None}
use Rattle.vx_model.specs.declared.site.PlexState.{PlexState}
use Rattle.vx_model.specs.declared.site.PlexState.TheVariants.{Active, Clean, Stale}
use Rattle.vx_config.specs.declared.config.Config.{Config}
use Rattle.vx_config.specs.declared.entry.PlexEntry.{PlexEntry}
use Rattle.vx_disk.specs.Shelf.{Meaning}
use Rattle.vx_history.specs.Groups.{MissedNote}
use Rattle.vx_history.specs.MapChanges.{MapsBack, MapsGone}
use Rattle.vx_history.specs.Missing.{no_plex, none_missed}
use Rattle.vx_kept.specs.Choice.{live}
use Rattle.vx_kept.specs.Cleans.{at_serial}
use Rattle.vx_layout.specs.Places.{plex_at}
use Rattle.vx_volume.specs.Plexes.{active, active_or, is_active}
use Rattle.vx_grouped.specs.Clean.{StopsClean}
use Rattle.vx_grouped.specs.SiteMaps.{BackMaps, FailedAt, map_disk_of}
use Rattle.vx_grouped.proofs.WrittenMapLemmas.{missed_as, perhaps_as}
use Rattle.vx_events.specs.Fails.{Fails}
use Rattle.vx_events.specs.GroupMaps.{FailedIn, StoppedClean, WantsMemory, map_disk, takes_part}
use Rattle.vx_above.proofs.Losing.{Names}
use Rattle.vx_group_lines.proofs.MapLines.{gone_named, takes_is}

-- ---- volumes that stopped cleanly

pub clean_to : (c : Config) (v : ℕ) → StopsClean c v → StoppedClean (at_serial 0 c) v
unfolding active
clean_to c v it = record { each = λ p plex at is. (let clash : true ≡ false = sym (on p plex at is) ∙ it.each p in cc) }
  where
    on : (p : ℕ) (plex : PlexEntry) → plex_at c v p ≡ Some plex → plex.state ≡ Active → active_or (plex_at c v p) ≡ true
    on p plex at is = ap active_or at ∙ ap is_active is

clean_from : (c : Config) (v : ℕ) → StoppedClean (at_serial 0 c) v → StopsClean c v
unfolding active
clean_from c v it = record { each = λ p. by p (plex_at c v p) refl }
  where
    by_state : (p : ℕ) (plex : PlexEntry) → plex_at c v p ≡ Some plex → (s : PlexState) → plex.state ≡ s → is_active plex.state ≡ false
    by_state p plex at Active is = absurd (it.each p plex at is)
    by_state p plex at Clean is = ap is_active is
    by_state p plex at Stale is = ap is_active is

    by : (p : ℕ) (o : Option PlexEntry) → plex_at c v p ≡ o → active_or (plex_at c v p) ≡ false
    by p None at = ap active_or at
    by p (Some plex) at = ap active_or at ∙ by_state p plex at plex.state refl

-- ---- behind an import

module _ (s many : ℕ) (fails : Fails) (o e : Meaning) (names : Names s many fails o e) (c d : Config) (low : (v k : ℕ) → map_disk_of c v ≡ Some k → k < many) (w next : MissedNote) where
  pub back_named : BackMaps o e c d w next → MapsBack (FailedIn s fails) WantsMemory (StoppedClean (at_serial 0 c)) (map_disk (at_serial 0 c)) (takes_part (at_serial 0 c)) (takes_part (at_serial 0 d)) w next
  back_named it = record {
    stays = λ v on clean. by v (it.back.stays v on (clean_from c v clean));
    only = λ v on. ((it.back.only v on).0, clean_to c v (it.back.only v on).1);
    missed = λ v p r on. it.back.missed v p r on ∙ missed_as w next (live c) (live d) (takes_part (at_serial 0 c)) (takes_part (at_serial 0 d)) no_plex none_missed (takes_is c) (takes_is d) v p r;
    perhaps = λ v p r on. it.back.perhaps v p r on ∙ perhaps_as w next (live c) (live d) (takes_part (at_serial 0 c)) (takes_part (at_serial 0 d)) no_plex none_missed (takes_is c) (takes_is d) v p r;
    doubt = λ v on. ((it.back.doubt v on).0, clean_to c v (it.back.doubt v on).1);
    later = it.back.later;
  }
    where
      by : (v : ℕ) → (next.mapped v ≡ true) ⊎ MapsGone (FailedAt o e) (map_disk_of c) w next v ⊎ WantsMemory → (next.mapped v ≡ true) ⊎ MapsGone (FailedIn s fails) (map_disk (at_serial 0 c)) w next v ⊎ WantsMemory
      by v (inl on) = inl on
      by v (inr (inl gone)) = inr (inl (gone_named s many fails o e names c low w next v gone))
      by v (inr (inr wanting)) = inr (inr wanting)
