-- What lines at a site over a group of disks are answered.
use Rattle.std.specs.Prelude.{◌≡◌, ℕ, ◌+◌, ◌*◌, ◌<◌, ◌≤◌, Bool, false, true, List, length, Option, Some, None, is_some, slice_get}
use Rattle.std.specs.Int.{div_ceil}
use Rattle.std.specs.Str.{bytes_eq}
use Rattle.vx_model.specs.Content.{Write, block_of, blocks_in}
use Rattle.vx_model.specs.declared.limits.TheConstants.{BLOCK, REGION}
use Rattle.vx_model.specs.declared.site.PlexState.{PlexState}
use Rattle.vx_model.specs.declared.site.PlexState.TheVariants.{Active}
use Rattle.vx_history.specs.Groups.{BlockMay, GroupNode}
use Rattle.vx_history.specs.Missing.{CopiesMissed}
use Rattle.vx_history.specs.World.{Node}
use Rattle.vx_config.specs.Checks.{blocks_of}
use Rattle.vx_config.specs.declared.entry.PlexEntry.{PlexEntry}
use Rattle.vx_config.specs.declared.entry.VolumeEntry.{VolumeEntry}
use Rattle.vx_report.specs.declared.view.Kept.{Kept}
use Rattle.vx_events.specs.GroupNotes.{IsKnown}
use Rattle.vx_events.specs.GroupViews.{config_of, grouped_view, state_of_plex, volumes_of}
use Rattle.vx_events.specs.declared.said.Said.{Said}
use Rattle.vx_events.specs.declared.said.Said.TheVariants.{DoneAt, Got, Resumed}

-- ---- reads

-- so many blocks, of which each has a value that is noted of it, where contents are known
pub record GivesPlain (told : Type 0) (note : GroupNode) (volume start count : ℕ) (said : Said) : Type 0 where
  pub bytes : List ℕ
  pub got : said ≡ Got bytes
  pub size : length bytes ≡ BLOCK * count
  pub each : IsKnown told note → (k : ℕ) → k < count → BlockMay note volume (start + k) (block_of bytes k)

-- ---- plexes

abbrev pub entry_state : Option PlexEntry → Option PlexState
entry_state None = None
entry_state (Some plex) = Some (state_of_plex plex)

abbrev pub plex_entry_state : Option VolumeEntry → ℕ → Option PlexState
plex_entry_state None p = None
plex_entry_state (Some volume) p = entry_state (slice_get volume.plexes p)

-- the state of a plex of a volume, by the note
abbrev pub plex_state : GroupNode → (volume plex : ℕ) → Option PlexState
plex_state note v p = plex_entry_state (slice_get (volumes_of (config_of note.config)) v) p

-- how many regions a volume has
abbrev pub volume_regions : GroupNode → (volume : ℕ) → ℕ
volume_regions note v = div_ceil (blocks_of (volumes_of (config_of note.config)) v) REGION

abbrev pub entry_maps : Option VolumeEntry → Bool
entry_maps None = false
entry_maps (Some volume) = is_some volume.fmr

-- the volume keeps a map of the regions that its plexes missed
abbrev pub volume_maps : GroupNode → (volume : ℕ) → Bool
volume_maps note v = entry_maps (slice_get (volumes_of (config_of note.config)) v)

-- How many regions an attach copies: none where the plex takes part, all where the volume keeps no map of those that it has missed or these are not known, and never
-- more. Where they are known it is those, and of the others only some that it may have missed.
pub record AttachCopies (note : GroupNode) (volume plex : ℕ) (said : Said) : Type 0 where
  pub count : ℕ
  pub says : said ≡ DoneAt count
  pub few : count ≤ volume_regions note volume
  pub none : plex_state note volume plex ≡ Some Active → count ≡ 0
  pub all : (plex_state note volume plex ≡ Some Active → ⊥) → volume_maps note volume ≡ false → count ≡ volume_regions note volume
  pub unknown : (plex_state note volume plex ≡ Some Active → ⊥) → note.maps.mapped volume ≡ false → count ≡ volume_regions note volume
  pub missed : (plex_state note volume plex ≡ Some Active → ⊥) → note.maps.mapped volume ≡ true → CopiesMissed note.maps volume plex (volume_regions note volume) count

-- no other plex of the volume takes part
pub record IsLastPlex (note : GroupNode) (volume plex : ℕ) : Type 0 where
  pub takes : plex_state note volume plex ≡ Some Active
  pub alone : (q : ℕ) → plex_state note volume q ≡ Some Active → q ≡ plex

-- ---- recoveries

-- Of a write in which the fuse ran out: for each of its blocks whether a value that it may have is what was written, where contents are known. `next` is
-- the note behind the recovery.
pub record IsKeptOf (told : Type 0) (x : Write) (next : GroupNode) (kept : Kept) : Type 0 where
  pub volume : VolumeEntry
  pub is_volume : slice_get (volumes_of (config_of next.config)) x.volume ≡ Some volume
  pub name : kept.volume ≡ volume.name
  pub block : kept.block ≡ x.start
  pub many : kept.count ≡ blocks_in x.bytes
  pub each : IsKnown told next → (k : ℕ) → k < blocks_in x.bytes
      → (value : List ℕ) × BlockMay next x.volume (x.start + k) value × (slice_get kept.bits k ≡ Some (bytes_eq value (block_of x.bytes k)))

-- it is shown where a write was cut
abbrev pub ShowsKept : Type 0 → Option Write → GroupNode → Option Kept → Type 0
ShowsKept told None next kept = kept ≡ None
ShowsKept told (Some x) next kept = (view : Kept) × (kept ≡ Some view) × IsKeptOf told x next view

-- a recovery shows how the site stands, and what is kept of a write that was cut
pub record SaysBack (told : Type 0) (n : Node) (note next : GroupNode) (said : Said) : Type 0 where
  pub kept : Option Kept
  pub says : said ≡ Resumed (grouped_view n next) kept
  pub shows : ShowsKept told note.cut next kept
