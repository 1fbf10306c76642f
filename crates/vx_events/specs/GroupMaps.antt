-- What a line at a site over a group makes of the regions that plexes missed, as the site notes them.
use Rattle.std.specs.Prelude.{◌≡◌, ◌≢◌, ◌⊎◌, ◌<◌, ◌≤◌, ℕ, Bool, true, false, [], length, Option, Some, None, Contains, if◌then◌else◌, slice_get}
use Rattle.vx_model.specs.declared.limits.TheConstants.{COMMIT_SERIALS}
use Rattle.vx_model.specs.declared.site.PlexState.TheVariants.{Active}
use Rattle.vx_history.specs.Groups.{GroupNode, MissedNote}
use Rattle.vx_history.specs.MapChanges.{InNoVolume, InVolume, MapsBack, MapsFailed, MapsJoined, MapsWritten, StayKnown}
use Rattle.vx_history.specs.Missing.{each_anew, in_write, no_plex, none_missed, one_anew, with_maps}
use Rattle.vx_model.specs.Content.{Write}
use Rattle.vx_config.specs.Checks.{is_live}
use Rattle.vx_config.specs.declared.config.Config.{Config}
use Rattle.vx_config.specs.declared.entry.LogEntry.{LogEntry}
use Rattle.vx_config.specs.declared.entry.PlexEntry.{PlexEntry}
use Rattle.vx_config.specs.declared.entry.VolumeEntry.{VolumeEntry}
use Rattle.vx_layout.specs.Places.{plex_at}
use Rattle.vx_events.specs.Fails.{Fails}
use Rattle.vx_events.specs.GroupViews.{config_of}

-- ---- what a configuration says of a plex and of a log

-- a plex takes part, or stopped cleanly
abbrev pub entry_takes : Option PlexEntry → Bool
entry_takes None = false
entry_takes (Some plex) = is_live plex

abbrev pub takes_part : Config → ℕ → ℕ → Bool
takes_part c v p = entry_takes (plex_at c v p)

abbrev pub kept_disk : Option LogEntry → Option ℕ
kept_disk None = None
kept_disk (Some e) = if e.lost then None else Some e.disk

abbrev pub maps_disk : Option VolumeEntry → Option ℕ
maps_disk None = None
maps_disk (Some volume) = kept_disk volume.fmr

-- the disk of the log of missed regions of a volume, where it has one that is not lost
abbrev pub map_disk : Config → ℕ → Option ℕ
map_disk c v = maps_disk (slice_get c.volumes v)

-- a volume stopped cleanly: none of its plexes is ACTIVE
pub record StoppedClean (c : Config) (v : ℕ) : Type 0 where
  pub each : (p : ℕ) (plex : PlexEntry) → plex_at c v p ≡ Some plex → plex.state ≢ Active

-- ---- calls

-- a call on this disk of the site failed
abbrev pub FailedIn : ℕ → Fails → ℕ → Type 0
FailedIn s fails k = Contains fails (s, k)

-- no region was written, and no log begins
pub record MapsCalled (s : ℕ) (fails : Fails) (c d : Config) (w new : MissedNote) : Type 0 where
  pub known : StayKnown (FailedIn s fails) InNoVolume InNoVolume (map_disk c) w new
  pub written : MapsWritten (length c.volumes) (takes_part c) (takes_part d) no_plex none_missed w new

-- The fuse ran out: nothing is said of the maps any more. The next recovery knows none.
pub record MapsLost (c d : Config) (w new : MissedNote) : Type 0 where
  pub none : (v : ℕ) → new.mapped v ≡ false

-- a plex was detached: its map begins anew, unless a write of the volume failed
pub record MapsDetached (s : ℕ) (fails : Fails) (vol plex : ℕ) (c d : Config) (w new : MissedNote) : Type 0 where
  pub known : StayKnown (FailedIn s fails) InNoVolume (InVolume vol) (map_disk c) w new
  pub written : MapsWritten (length c.volumes) (takes_part c) (takes_part d) (one_anew w vol plex) none_missed w new

-- a plex was attached
pub record MapsAttached (s : ℕ) (fails : Fails) (vol plex : ℕ) (c d : Config) (w new : MissedNote) : Type 0 where
  pub known : StayKnown (FailedIn s fails) InNoVolume InNoVolume (map_disk c) w new
  pub joined : MapsJoined (length c.volumes) vol plex (takes_part c) (takes_part d) w new

-- or its detach was refused, as a disk failed: it takes part as it did
pub record MapsUndetached (s : ℕ) (fails : Fails) (vol plex : ℕ) (c d : Config) (w new : MissedNote) : Type 0 where
  pub known : StayKnown (FailedIn s fails) InNoVolume (InVolume vol) (map_disk c) w new
  pub same : takes_part d vol plex ≡ takes_part c vol plex
  pub written : MapsWritten (length c.volumes) (takes_part c) (takes_part d) no_plex none_missed w new

-- a write was done
pub record MapsOfWrite (s : ℕ) (fails : Fails) (x : Write) (c d : Config) (w new : MissedNote) : Type 0 where
  pub known : StayKnown (FailedIn s fails) InNoVolume (InVolume x.volume) (map_disk c) w new
  pub written : MapsWritten (length c.volumes) (takes_part c) (takes_part d) (each_anew w x.volume) (in_write x) w new

-- it failed
pub record MapsOfDoubt (s : ℕ) (fails : Fails) (x : Write) (c d : Config) (w new : MissedNote) : Type 0 where
  pub known : StayKnown (FailedIn s fails) InNoVolume (InVolume x.volume) (map_disk c) w new
  pub failed : MapsFailed x.volume (takes_part c) (takes_part d) (in_write x) w new

-- a volume was made, of which no write failed
pub record MapsAdded (s : ℕ) (fails : Fails) (c d : Config) (w new : MissedNote) : Type 0 where
  pub called : MapsCalled s fails c d w new
  pub doubt : new.doubt (length c.volumes) ≡ false

-- ---- recoveries

-- want of memory, of which nothing tells
abbrev pub WantsMemory : Type 0
WantsMemory = Unit {0}

-- so it is by the configuration that was noted, and the one that is
pub record MapsImported (s : ℕ) (fails : Fails) (note new : GroupNode) : Type 0 where
  pub old : Config
  pub now : Config
  pub was : config_of note.config ≡ Some old
  pub now_is : config_of new.config ≡ Some now
  pub back : MapsBack (FailedIn s fails) WantsMemory (StoppedClean old) (map_disk old) (takes_part old) (takes_part now) note.maps new.maps

-- One that crashed came up: every volume stopped uncleanly, so that each block has one value, and the next attach of each plex that takes no part copies all. Where
-- further configurations may have stood on the disks it may be that a volume stopped cleanly; then too its maps are not known.
pub record MapsRecovered (note new : GroupNode) : Type 0 where
  pub none : (v : ℕ) → new.maps.mapped v ≡ false
  pub doubt : (v : ℕ) → new.maps.doubt v ≡ true → (note.begun ≢ []) ⊎ (note.loose ≡ true)
  pub one : note.loose ≡ false → note.begun ≡ [] → (v b : ℕ) → b < new.bytes.size v → new.others v b ≡ []

-- nothing is known of the plexes of a new group, and its serial is small
pub record MapsFirst (new : GroupNode) : Type 0 where
  pub none : (v : ℕ) → new.maps.mapped v ≡ false
  pub doubt : (v : ℕ) → new.maps.doubt v ≡ false
  pub serial : new.maps.serial ≤ COMMIT_SERIALS

-- ---- notes

-- The note goes on so, and then what is noted of the regions that plexes missed, by the configuration before and behind.
pub record WithMaps (Goes : GroupNode → GroupNode → Type 0) (Maps : Config → Config → MissedNote → MissedNote → Type 0) (note new : GroupNode) : Type 0 where
  pub middle : GroupNode
  pub goes : Goes note middle
  pub maps : MissedNote
  pub old : Config
  pub now : Config
  pub was : config_of note.config ≡ Some old
  pub now_is : config_of middle.config ≡ Some now
  pub change : Maps old now note.maps maps
  pub is : new ≡ with_maps maps middle
