-- What a call in which plexes may have failed makes of the state of a plex.
use Rattle.std.specs.Prelude.{◌≡◌, ◌⊎◌, ℕ}
use Rattle.vx_model.specs.declared.site.PlexState.{PlexState}
use Rattle.vx_model.specs.declared.site.PlexState.TheVariants.{Active, Stale}
use Rattle.vx_disk.specs.Shelf.{Meaning}
use Rattle.vx_config.specs.declared.config.Config.{Config}
use Rattle.vx_volume.specs.Volumes.{PlexBlamed}
use Rattle.vx_group.specs.Loses.{AnyBlamed}

-- It stays; or it is STALE, and a call on a disk of the plex failed; or it is ACTIVE, as the plex was held back and another one of its volume failed.
abbrev pub StateStays : Config → ℕ → ℕ → Meaning → Meaning → PlexState → PlexState → Type 0
StateStays c v k old new was is = (is ≡ was) ⊎ ((is ≡ Stale) × PlexBlamed c v k old new) ⊎ ((is ≡ Active) × AnyBlamed c v old new)
