-- What the tests of a configuration are.
use Rattle.std.specs.Prelude.{ℕ, ◌+◌, ◌-◌, ◌*◌, Bool, true, false, not, ◌&&◌, ◌||◌, ◌==◌, nat_lt, nat_le, List, [], ◌∷◌, ◌++◌, length, flat_map, Option, Some, None, if◌then◌else◌, slice_get, sum_by, min, max}
use Rattle.vx_model.specs.declared.limits.TheConstants.{LEAST_BLOCKS, LINK_PLACES, MOST_COLUMNS, MOST_DATA_VOLUMES, MOST_PLEXES, MOST_SUBDISKS, PUBLIC_START}
use Rattle.std.specs.Int.{div_ceil}
use Rattle.std.specs.List.{list_all, list_any}
use Rattle.std.specs.Str.{bytes_eq}
pub use Rattle.vx_model.specs.Sizes.{map_blocks}
use Rattle.vx_model.specs.declared.site.PlexState.{PlexState}
use Rattle.vx_model.specs.declared.site.PlexState.TheVariants.{Active, Clean, Stale}
use Rattle.vx_model.specs.declared.units.Units.{Units}
use Rattle.vx_config.specs.declared.config.Config.{Config}
use Rattle.vx_config.specs.declared.entry.DiskEntry.{DiskEntry}
use Rattle.vx_config.specs.declared.entry.LogEntry.{LogEntry}
use Rattle.vx_config.specs.declared.entry.PlexEntry.{PlexEntry}
use Rattle.vx_config.specs.declared.entry.Subdisk.{Subdisk}
use Rattle.vx_config.specs.declared.entry.VolumeEntry.{VolumeEntry}
use Rattle.vx_config.specs.Configs.{volume_subdisks, subdisk_count}

-- ---- numbers of blocks

-- the blocks of one column of a plex; a concatenated plex has one column
unfoldable pub column_blocks : VolumeEntry → ℕ
column_blocks v = if v.width == 0 then v.blocks else div_ceil v.blocks (v.ncol * v.width) * v.width

-- ---- two by two

-- each is in this relation to each behind it
abbrev pub pairwise : {A : Type 0} → (A → A → Bool) → List A → Bool
pairwise apart [] = true
pairwise apart (x ∷ xs) = list_all (apart x) xs && pairwise apart xs

-- two runs have no block in common
unfoldable pub are_apart : Subdisk → Subdisk → Bool
are_apart a b = not (a.disk == b.disk) || nat_le (min (a.start + a.blocks) (b.start + b.blocks)) (max a.start b.start)

abbrev pub differ : VolumeEntry → VolumeEntry → Bool
differ a b = not (bytes_eq a.name b.name)

abbrev pub other_than : ℕ → ℕ → Bool
other_than a b = not (a == b)

-- ---- runs of blocks

abbrev pub log_run : LogEntry → Subdisk
log_run l = record { disk = l.disk; start = l.start; blocks = l.blocks }

abbrev pub log_runs : Option LogEntry → List Subdisk
log_runs None = []
log_runs (Some l) = log_run l ∷ []

abbrev pub plex_runs : PlexEntry → List Subdisk
plex_runs p = p.subdisks

-- the subdisks and logs of a volume
abbrev pub volume_runs : VolumeEntry → List Subdisk
volume_runs v = flat_map plex_runs v.plexes ++ (log_runs v.drl ++ log_runs v.fmr)

-- as many runs as a volume can have
abbrev pub volume_room : VolumeEntry → ℕ
volume_room v = volume_subdisks v + 2

-- the subdisks and logs of a group
unfoldable pub runs : Config → List Subdisk
runs c = flat_map volume_runs c.volumes

abbrev pub ends_within : Subdisk → Option DiskEntry → Bool
ends_within r None = false
ends_within r (Some d) = nat_le PUBLIC_START r.start && nat_le (r.start + r.blocks) d.blocks

-- a run lies in the public region of a disk that there is
abbrev pub in_region : List DiskEntry → Subdisk → Bool
in_region disks r = ends_within r (slice_get disks r.disk)

-- all subdisks and logs lie in public regions, and no two overlap
abbrev pub are_placed : Config → Bool
are_placed c = list_all (in_region c.disks) (runs c) && pairwise are_apart (runs c)

-- ---- one volume

-- the room of the next of so many columns, where there is one
abbrev pub next_room : ℕ → ℕ → ℕ
next_room column columns = if nat_le columns 1 then 0 else column

-- Subdisks fill so many columns, one after the other, where `room` blocks are left of the first of them.
abbrev pub fill : ℕ → ℕ → ℕ → List Subdisk → Bool
fill column columns room [] = columns == 0 || column == 0
fill column columns room (s ∷ ss) =
    nat_le s.blocks room && (if s.blocks == room then fill column (columns - 1) (next_room column columns) ss else fill column columns (room - s.blocks) ss)

abbrev pub plex_fills : VolumeEntry → PlexEntry → Bool
plex_fills v p = fill (column_blocks v) v.ncol (column_blocks v) p.subdisks

abbrev pub log_has : ℕ → Option LogEntry → Bool
log_has blocks None = true
log_has blocks (Some l) = l.blocks == blocks

abbrev pub preferred_is : ℕ → Option ℕ → Bool
preferred_is plexes None = true
preferred_is plexes (Some p) = nat_lt p plexes

abbrev pub is_stale : PlexState → Bool
is_stale Active = false
is_stale Clean = false
is_stale Stale = true

abbrev pub is_live : PlexEntry → Bool
is_live p = not (is_stale p.state)

-- 1 to 8 columns, and one where the plexes are concatenated
abbrev pub has_shape : VolumeEntry → Bool
has_shape v = nat_le 1 v.ncol && nat_le v.ncol MOST_COLUMNS && (not (v.width == 0) || v.ncol == 1)

-- a DRL has the volume's map blocks, an FMR log as many for each plex
abbrev pub has_logs : VolumeEntry → Bool
has_logs v = log_has (map_blocks v.blocks) v.drl && log_has (length v.plexes * map_blocks v.blocks) v.fmr

abbrev pub has_plexes : VolumeEntry → Bool
has_plexes v = nat_le (length v.plexes) MOST_PLEXES && list_all (plex_fills v) v.plexes && preferred_is (length v.plexes) v.prefer && list_any is_live v.plexes

abbrev pub is_volume : VolumeEntry → Bool
is_volume v = has_shape v && has_logs v && has_plexes v

-- ---- the replicated volume group

abbrev pub blocks_or_none : Option VolumeEntry → ℕ
blocks_or_none None = 0
blocks_or_none (Some v) = v.blocks

-- the blocks of a volume, by its place
abbrev pub blocks_of : List VolumeEntry → ℕ → ℕ
blocks_of volumes n = blocks_or_none (slice_get volumes n)

abbrev pub map_blocks_of : List VolumeEntry → ℕ → ℕ
map_blocks_of volumes n = map_blocks (blocks_of volumes n)

-- Distinct volumes of the group: a log of at least 8 blocks, maps of at least eight times the map blocks of the data
-- volumes, and 1 to 30 data volumes.
abbrev pub is_group : List VolumeEntry → Units → Bool
is_group volumes u =
    nat_le 1 (length u.vols) && nat_le (length u.vols) MOST_DATA_VOLUMES
    && list_all (λ n. nat_lt n (length volumes)) (u.srl ∷ (u.maps ∷ u.vols))
    && pairwise other_than (u.srl ∷ (u.maps ∷ u.vols))
    && nat_le LEAST_BLOCKS (blocks_of volumes u.srl)
    && nat_le (LINK_PLACES * sum_by (map_blocks_of volumes) u.vols) (blocks_of volumes u.maps)

abbrev pub group_or_none : List VolumeEntry → Option Units → Bool
group_or_none volumes None = true
group_or_none volumes (Some u) = is_group volumes u

-- ---- the whole

unfoldable pub is_sound : Config → Bool
is_sound c =
    nat_le (subdisk_count c) MOST_SUBDISKS
    && are_placed c
    && pairwise differ c.volumes
    && list_all is_volume c.volumes
    && group_or_none c.volumes c.rvg

abbrev pub plexes_or : Option VolumeEntry → ℕ
plexes_or None = 0
plexes_or (Some v) = length v.plexes

-- how many plexes a volume has
abbrev pub plexes_of : Config → ℕ → ℕ
plexes_of c v = plexes_or (slice_get c.volumes v)

-- the blocks of a disk, which are none where there is no disk
abbrev pub blocks_or : Option DiskEntry → ℕ
blocks_or None = 0
blocks_or (Some d) = d.blocks
