-- Which plex an import goes by.
use Rattle.std.specs.Prelude.{ℕ, suc, Bool, false, not, ◌&&◌, if◌then◌else◌, Option, Some, None, List, [], ◌∷◌, slice_get}
use Rattle.std.specs.List.{list_any}
use Rattle.vx_config.specs.Checks.{is_live}
use Rattle.vx_config.specs.declared.config.Config.{Config}
use Rattle.vx_config.specs.declared.entry.DiskEntry.{DiskEntry}
use Rattle.vx_config.specs.declared.entry.PlexEntry.{PlexEntry}
use Rattle.vx_config.specs.declared.entry.VolumeEntry.{VolumeEntry}
use Rattle.vx_copies.specs.Marks.{failed_at}
use Rattle.vx_layout.specs.Places.{plex_at}

abbrev pub live_or : Option PlexEntry → Bool
live_or None = false
live_or (Some p) = is_live p

-- whether a plex is ACTIVE or CLEAN
unfoldable pub live : Config → ℕ → ℕ → Bool
live c v p = live_or (plex_at c v p)

-- none of its subdisks is on a disk that is held as failed
abbrev pub is_whole : List DiskEntry → PlexEntry → Bool
is_whole disks p = not (list_any (λ s. failed_at disks s.disk) p.subdisks)

-- the place in a list of the first plex that passes; its length where none does
abbrev pub first_where : (PlexEntry → Bool) → List PlexEntry → ℕ
first_where test [] = 0
first_where test (p ∷ ps) = if test p then 0 else suc (first_where test ps)

-- the first that is live and whole, where there is one; else the first that is live
abbrev pub first_plex : List DiskEntry → List PlexEntry → ℕ
first_plex disks plexes =
    if list_any (λ p. is_live p && is_whole disks p) plexes then first_where (λ p. is_live p && is_whole disks p) plexes else first_where is_live plexes

abbrev pub chosen_or : List DiskEntry → Option VolumeEntry → ℕ
chosen_or disks None = 0
chosen_or disks (Some v) = first_plex disks v.plexes

-- The plex that an image of the volume goes by: the first that is ACTIVE or CLEAN and has no subdisk on a disk that is held as failed; where
-- there is none, the first that is ACTIVE or CLEAN.
unfoldable pub chosen : Config → ℕ → ℕ
chosen c v = chosen_or c.disks (slice_get c.volumes v)
