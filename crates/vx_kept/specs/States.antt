-- Plexes of a volume that are put into the state STALE, in a configuration in memory.
use Rattle.std.specs.Prelude.{◌≡◌, ℕ, zero, suc, Bool, true, false, IsTrue, if◌then◌else◌, Option, Some, None}
use Rattle.vx_disk.specs.Blocks.{bit_at}
use Rattle.vx_model.specs.declared.site.PlexState.TheVariants.{Stale}
use Rattle.vx_config.specs.Changes.{stated}
use Rattle.vx_config.specs.declared.config.Config.{Config}
use Rattle.vx_config.specs.declared.entry.PlexEntry.{PlexEntry}
use Rattle.vx_layout.specs.Places.{plex_at}
use Rattle.vx_volume.specs.Plexes.{active}

abbrev pub whole_or : Option PlexEntry → Bool
whole_or None = false
whole_or (Some p) = p.whole

-- whether the next attach of a plex has to copy all of its regions
unfoldable pub whole_of : Config → ℕ → ℕ → Bool
whole_of c v p = whole_or (plex_at c v p)

-- with one plex STALE
abbrev pub stale_at : ℕ → ℕ → Config → Config
stale_at v p c = stated v p Stale (whole_of c v p) c

-- with those of the first n plexes of a volume STALE that are in the set
abbrev pub staled : ℕ → ℕ → Config → ℕ → Config
staled v set c zero = c
staled v set c (suc n) = if bit_at set n then stale_at v n (staled v set c n) else staled v set c n

-- an ACTIVE plex of the volume is none of the set
pub record SomeLeft (c : Config) (v set : ℕ) : Type 0 where
  pub plex : ℕ
  pub is_on : IsTrue (active c v plex)
  pub out : bit_at set plex ≡ false

-- each plex of the set is ACTIVE
pub record AreOn (c : Config) (v set : ℕ) : Type 0 where
  pub each : (p : ℕ) → bit_at set p ≡ true → IsTrue (active c v p)
