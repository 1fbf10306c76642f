-- Plexes that are not STALE, where each one that takes part is ACTIVE.
use Rattle.std.proofs.Common.{◌≡◌, ◌∙◌, ◌<◌, inl, inr, ℕ, Bool, true, false, Option, Some, None, List, IsTrue, length, refl, sym, ap, arith}
use Rattle.std.specs.Prelude.{is_some, slice_get}
use Rattle.std.proofs.lemmas.Option.{slice_get_cases}
use Rattle.vx_config.specs.Checks.{blocks_of, is_stale, plexes_of, plexes_or}
use Rattle.vx_config.specs.declared.config.Config.{Config}
use Rattle.vx_config.specs.declared.entry.PlexEntry.{PlexEntry}
use Rattle.vx_config.specs.declared.entry.VolumeEntry.{VolumeEntry}
use Rattle.vx_kept.specs.Choice.{live, live_or}
use Rattle.vx_kept.specs.Keeping.{AllOn}
use Rattle.vx_layout.specs.Places.{HasBlock, has_plex, plex_at, plex_in}
use Rattle.vx_logs.specs.Held.{stale, stale_or}
use Rattle.vx_model.specs.declared.site.PlexState.{PlexState}
use Rattle.vx_model.specs.declared.site.PlexState.TheVariants.{Active, Clean, Stale}
use Rattle.vx_volume.specs.Plexes.{active}

-- a plex that there is takes part, or is STALE
live_or_stale : (c : Config) (v p b : ℕ) → HasBlock c v p b → stale c v p ≡ false → IsTrue (live c v p)
unfolding has_plex stale live
live_or_stale c v p b has off = by (plex_at c v p) has.plex off
  where
    by_state : (s : PlexState) (a : PlexEntry) → a.state ≡ s → is_stale a.state ≡ false → IsTrue (live_or (Some a))
    by_state Active a is off = ap (λ (s : PlexState). live_or (Some (record { state = s; whole = a.whole; subdisks = a.subdisks }))) is
    by_state Clean a is off = ap (λ (s : PlexState). live_or (Some (record { state = s; whole = a.whole; subdisks = a.subdisks }))) is
    by_state Stale a is off = absurd (let clash : true ≡ false = sym (ap is_stale is) ∙ off in cc)

    by : (o : Option PlexEntry) → is_some o ≡ true → stale_or o ≡ false → IsTrue (live_or o)
    by None some off = absurd (let clash : false ≡ true = some in cc)
    by (Some a) some off = by_state a.state a refl off

-- where each plex that takes part is ACTIVE, one that there is and is not STALE is
pub fresh_active : (c : Config) (v p b : ℕ) → AllOn c → HasBlock c v p b → stale c v p ≡ false → IsTrue (active c v p)
fresh_active c v p b all has off = all.each v p (live_or_stale c v p b has off)

some_at : (plexes : List PlexEntry) (p : ℕ) → p < length plexes → is_some (slice_get plexes p) ≡ true
some_at plexes p low = elim (slice_get_cases plexes p).1 [
  | inl there ↦ ap (λ (o : Option PlexEntry). is_some o) there.2
  | inr past ↦ absurd (let far = past.0 in omega (arith, low, far))
]

-- a plex that is counted is there
pub has_low : (c : Config) (v p : ℕ) → p < plexes_of c v → has_plex c v p ≡ true
unfolding has_plex
has_low c v p low = by (slice_get c.volumes v) low
  where
    by : (o : Option VolumeEntry) → p < plexes_or o → is_some (plex_in o p) ≡ true
    by None low = absurd (omega (arith, low))
    by (Some x) low = some_at x.plexes p low

-- where each plex that takes part is ACTIVE, one that is not is STALE
pub off_stale : (c : Config) (v p : ℕ) → AllOn c → 0 < blocks_of c.volumes v → p < plexes_of c v → active c v p ≡ false → stale c v p ≡ true
off_stale c v p all some low off = by (stale c v p) refl
  where
    by : (x : Bool) → stale c v p ≡ x → stale c v p ≡ true
    by true is = is
    by false is = absurd (let clash : false ≡ true = sym off ∙ fresh_active c v p 0 all (record { plex = has_low c v p low; block = some }) is in cc)
