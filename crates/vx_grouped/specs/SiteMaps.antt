-- What calls on a site's group make of the regions that plexes missed, as the site notes them.
use Rattle.std.specs.Prelude.{◌≡◌, ◌<◌, ◌≤◌, ℕ, true, false, if◌then◌else◌, IsTrue, length, Option, Some, None, Result, Ok, Err}
use Rattle.vx_model.specs.Content.{Write}
use Rattle.vx_config.specs.Configs.{HasSpelling}
use Rattle.vx_config.specs.declared.config.Config.{Config}
use Rattle.vx_config.specs.declared.entry.LogEntry.{LogEntry}
use Rattle.vx_config.specs.declared.entry.VolumeLog.TheVariants.{Fmr}
use Rattle.vx_copies.specs.Marks.{failed_at}
use Rattle.vx_copyfmt.specs.Imports.{Found}
use Rattle.vx_disk.specs.Counts.{Rose}
use Rattle.vx_disk.specs.Shelf.{Each, Image, Meaning}
use Rattle.vx_disk.specs.declared.shelf.Shelf.{Ghosts}
use Rattle.vx_history.specs.Groups.{GroupNode, MissedNote}
use Rattle.vx_history.specs.MapChanges.{InNoVolume, InVolume, MapsBack, MapsFailed, MapsJoined, MapsWritten, StayKnown}
use Rattle.vx_history.specs.Missing.{each_anew, in_write, no_plex, none_missed, one_anew}
use Rattle.vx_kept.specs.Choice.{live}
use Rattle.vx_kept.specs.Cleans.{at_serial}
use Rattle.vx_kept.specs.Commits.{IsCommitted}
use Rattle.vx_kept.specs.Groups.{found}
use Rattle.vx_logimport.specs.Rests.{RestsNone, rests}
use Rattle.vx_logimport.specs.declared.rested.Rested.{Rested}
use Rattle.vx_logs.specs.Held.{InUse}
use Rattle.vx_maplog.specs.Logs.{log_of}
use Rattle.vx_model.specs.declared.errors.Stop.{Stop}
use Rattle.vx_model.specs.declared.errors.Stop.TheVariants.{No as Refused, OutOfMemory}
use Rattle.vx_model.specs.declared.no.No.{No}
use Rattle.vx_model.specs.declared.no.No.TheVariants.{Device, Down as IsOff}
use Rattle.vx_volume.specs.Plexes.{active}
use Rattle.vx_grouped.specs.Clean.{StoppedSome, StopsClean}
use Rattle.vx_grouped.specs.GroupNotes.{noted_config}
use Rattle.vx_grouped.specs.GroupSites.{idle_disks, site_config, site_disks}
use Rattle.vx_grouped.specs.SiteReturns.{stops_early}
use Rattle.vx_grouped.specs.MapsNoted.{CopiesNoted, MapsNoted, MapsOnDisk}
use Rattle.vx_grouped.specs.declared.group_site.GroupSite.{GroupSite}
use Rattle.vx_grouped.specs.declared.group_site.GroupSite.TheVariants.{Up, Deported, Down}

-- in each image that a crash may leave the logs have what is noted
pub record DiskMaps (w : MissedNote) (c : Config) (m : Meaning) : Type 0 where
  pub each : (i : Image) (x : Config) → Each m.leaves i → found m i ≡ Found x → MapsOnDisk w c x i

-- The disks of a group that was deported have what is noted, by the configuration that each image has; and a value says which volumes rest: of those the maps are
-- known, where the log is in use and its disk held as good. The serial that is noted is not above theirs.
pub record IdleMaps (w : MissedNote) (c : Config) (rested : Option Rested) (m : Meaning) : Type 0 where
  pub all : IsCommitted c m
  pub disks : DiskMaps w c m
  pub alike : (r : Rested) → rested ≡ Some r → (v : ℕ) → v < length c.volumes → w.doubt v ≡ false → rests r.alike v ≡ true
  pub maps : (r : Rested) → rested ≡ Some r → (v : ℕ) → w.mapped v ≡ true → rests r.maps v ≡ true
  pub serial : (i : Image) → Each m.leaves i → w.serial ≤ c.serial
  pub known : (i : Image) (r : Rested) (v : ℕ) (e : LogEntry) → Each m.leaves i → rested ≡ Some r → rests r.maps v ≡ true → v < length c.volumes → InUse c v Fmr e → failed_at c.disks e.disk ≡ false → w.mapped v ≡ true

abbrev pub map_disk_or : Option LogEntry → Option ℕ
map_disk_or None = None
map_disk_or (Some e) = if e.lost then None else Some e.disk

-- where a value says which volumes rest, it says so of none
pub record RestsNot (rested : Option Rested) : Type 0 where
  pub none : (r : Rested) → rested ≡ Some r → RestsNone r

-- The disks of a group that crashed have what is noted, and no volume rests.
pub record DownMaps (w : MissedNote) (c : Config) (rested : Option Rested) (m : Meaning) : Type 0 where
  pub disks : DiskMaps w c m
  pub rests : RestsNot rested

-- A group came up from disks of which a value says that no volume rests: no map is known, and, where contents are told, a volume of which a write failed stopped
-- cleanly by what may have been on them.
pub record RisenMaps (old new : Meaning) (next : MissedNote) : Type 0 where
  pub mapped : (v : ℕ) → next.mapped v ≡ false
  pub doubt : (v : ℕ) → next.doubt v ≡ true → IsTrue new.tells → StoppedSome old v

-- the disk of the log of missed regions of a volume, where it has one that is not lost
abbrev pub map_disk_of : Config → ℕ → Option ℕ
map_disk_of c v = map_disk_or (log_of c v Fmr)

-- a call on this disk failed
abbrev pub FailedAt : Meaning → Meaning → ℕ → Type 0
FailedAt old new k = Rose (old.disk_faults k) (new.disk_faults k)

-- ---- what a call from configuration c to d makes of the note: plexes that take part are ACTIVE, or CLEAN behind a deport

-- no region was written
pub record MapsLike (old new : Meaning) (c d : Config) (w next : MissedNote) : Type 0 where
  pub known : StayKnown (FailedAt old new) InNoVolume InNoVolume (map_disk_of c) w next
  pub written : MapsWritten (length c.volumes) (live c) (live d) no_plex none_missed w next

-- a plex was detached
pub record DetMapsDone (vol plex : ℕ) (old new : Meaning) (c d : Config) (w next : MissedNote) : Type 0 where
  pub known : StayKnown (FailedAt old new) InNoVolume (InVolume vol) (map_disk_of c) w next
  pub written : MapsWritten (length c.volumes) (live c) (live d) (one_anew w vol plex) none_missed w next

-- or it was not, as a disk failed: it takes part as it did
pub record DetMapsFailed (vol plex : ℕ) (old new : Meaning) (c d : Config) (w next : MissedNote) : Type 0 where
  pub known : StayKnown (FailedAt old new) InNoVolume (InVolume vol) (map_disk_of c) w next
  pub same : live d vol plex ≡ live c vol plex
  pub written : MapsWritten (length c.volumes) (live c) (live d) no_plex none_missed w next

-- a plex was attached
pub record AttMaps (vol plex : ℕ) (old new : Meaning) (c d : Config) (w next : MissedNote) : Type 0 where
  pub known : StayKnown (FailedAt old new) InNoVolume InNoVolume (map_disk_of c) w next
  pub joined : MapsJoined (length c.volumes) vol plex (live c) (live d) w next

-- a write was done
pub record WriteMaps (x : Write) (old new : Meaning) (c d : Config) (w next : MissedNote) : Type 0 where
  pub known : StayKnown (FailedAt old new) InNoVolume (InVolume x.volume) (map_disk_of c) w next
  pub written : MapsWritten (length c.volumes) (live c) (live d) (each_anew w x.volume) (in_write x) w next

-- it failed
pub record DoubtMaps (x : Write) (old new : Meaning) (c d : Config) (w next : MissedNote) : Type 0 where
  pub known : StayKnown (FailedAt old new) InNoVolume (InVolume x.volume) (map_disk_of c) w next
  pub failed : MapsFailed x.volume (live c) (live d) (in_write x) w next

-- a volume was made behind those of before
pub record AddMaps (old new : Meaning) (c d : Config) (w next : MissedNote) : Type 0 where
  pub called : MapsLike old new c d w next
  pub doubt : next.doubt (length c.volumes) ≡ false

-- A group that was deported came up: the maps of a volume that stopped cleanly may be taken up, and are as they were then.
pub record BackMaps (old new : Meaning) (c d : Config) (w next : MissedNote) : Type 0 where
  pub back : MapsBack (FailedAt old new) (Unit {0}) (StopsClean c) (map_disk_of c) (live c) (live d) w next

-- where a refusal names no disk, and does not say that the disks are down, nothing has changed
abbrev pub MapsQuiet : Stop → Type 0 → Type 0
MapsQuiet (Refused (Device disk)) same = Unit {0}
MapsQuiet (Refused IsOff) same = Unit {0}
MapsQuiet (Refused other) same = same
MapsQuiet OutOfMemory same = same

module _ {R : Type 0} {g : Ghosts R} where
  -- What is noted is so of the maps in memory, or on the disks by themselves; c is the configuration that is noted.
  abbrev pub MapsOf : MissedNote → Config → GroupSite R g → Type 0
  MapsOf w c (Up group) = MapsNoted w c group.logs.items group.alike group.stopped
  MapsOf w c (Deported idle) = IdleMaps w c idle.rested (idle_disks idle)
  MapsOf w c (Down idle) = DownMaps w c idle.rested (idle_disks idle)
  MapsOf w c other = Unit {0}

  -- the same of what a site notes: of disks by themselves only where it is known what they hold
  abbrev pub MapsFor : GroupNode → Config → GroupSite R g → Type 0
  MapsFor note c (Up group) = MapsNoted note.maps c group.logs.items group.alike group.stopped
  MapsFor note c (Deported idle) = note.dark ≡ false → IdleMaps note.maps c idle.rested (idle_disks idle)
  MapsFor note c (Down idle) = note.dark ≡ false → DownMaps note.maps c idle.rested (idle_disks idle)
  MapsFor note c other = Unit {0}

  -- a site stands for what it notes of its maps, by the configuration that it notes
  pub record StandMaps (note : GroupNode) (e : GroupSite R g) : Type 0 where
    pub config : Config
    pub is : note.config ≡ noted_config config
    pub spells : HasSpelling (at_serial 0 config)
    pub up : (c : Config) → site_config e ≡ Some c → c ≡ config
    pub maps : MapsFor note config e

  -- whatever is noted of the maps of a site, it stands for that still: behind a read; behind a crash, as the disks have what was in memory; and where calls on a
  -- disk are made to fail, or a fuse is set
  abbrev pub StaysMapped : GroupSite R g → GroupSite R g → Type 0
  StaysMapped old new = (note : GroupNode) → StandMaps note old → StandMaps note new

  -- whatever was noted of the maps of a site, its note goes on so by a call
  pub record MapsMoved (By : MissedNote → MissedNote → Type 0) (c d : Config) (old new : GroupSite R g) : Type 0 where
    pub so : (w : MissedNote) → MapsOf w c old → (next : MissedNote) × By w next × MapsOf next d new

  -- of disks on which a group crashed no volume rests
  abbrev pub DownRests : GroupSite R g → Type 0
  DownRests (Down idle) = RestsNot idle.rested
  DownRests other = Unit {0}

  -- so it is of a group that is up, and goes on; or its fuse ran out
  abbrev pub UpMaps : (Meaning → Meaning → Config → Config → MissedNote → MissedNote → Type 0) → GroupSite R g → GroupSite R g → Type 0
  UpMaps By old new = ((c d : Config) → site_config old ≡ Some c → site_config new ≡ Some d → MapsMoved (By (site_disks old) (site_disks new) c d) c d old new) × DownRests new

  -- ---- calls, by their answers; a call in which the fuse ran out leaves nothing that is said of maps

  abbrev pub WroteMapped : Write → GroupSite R g → GroupSite R g → Result (Unit {0}) No → Type 0
  WroteMapped x old new (Ok done) = UpMaps (WriteMaps x) old new
  WroteMapped x old new (Err why) = UpMaps (DoubtMaps x) old new

  abbrev pub AddedMapped : GroupSite R g → GroupSite R g → Result ℕ Stop → Type 0
  AddedMapped old new (Ok vol) = UpMaps AddMaps old new
  AddedMapped old new (Err stop) = UpMaps MapsLike old new × MapsQuiet stop (StaysMapped old new)

  abbrev pub DetMapped : (vol plex : ℕ) → GroupSite R g → GroupSite R g → Result (Unit {0}) Stop → Type 0
  DetMapped vol plex old new (Ok done) = UpMaps (DetMapsDone vol plex) old new
  DetMapped vol plex old new (Err stop) = UpMaps (DetMapsFailed vol plex) old new × MapsQuiet stop (StaysMapped old new)

  -- and so many regions are copied
  abbrev pub AttMapped : (vol plex : ℕ) → GroupSite R g → GroupSite R g → Result ℕ Stop → Type 0
  AttMapped vol plex old new (Ok count) =
      UpMaps (AttMaps vol plex) old new × ((c : Config) (w : MissedNote) → site_config old ≡ Some c → MapsOf w c old → active c vol plex ≡ false → CopiesNoted w c vol plex count)
  AttMapped vol plex old new (Err stop) = UpMaps MapsLike old new × MapsQuiet stop (StaysMapped old new)

  -- a deport: the disks have what was in memory; or it was refused
  abbrev pub DeportMapped : GroupSite R g → GroupSite R g → Result (Unit {0}) Stop → Type 0
  DeportMapped old new (Ok done) = (c d : Config) → site_config old ≡ Some c → IsCommitted d (site_disks new) → MapsMoved (MapsLike (site_disks old) (site_disks new) c d) c d old new
  DeportMapped old new (Err stop) = UpMaps MapsLike old new × MapsQuiet stop (StaysMapped old new)

  -- an import of disks, with a value that says which volumes rest: what is noted goes on; and something may be noted, whatever the disks were
  pub record CameBack (rested : Option Rested) (old : Meaning) (new : GroupSite R g) : Type 0 where
    pub so : (w : MissedNote) (c d : Config) → IsTrue (site_disks new).tells → site_config new ≡ Some d → IdleMaps w c rested old → (next : MissedNote) × BackMaps old (site_disks new) c d w next × MapsOf next d new
    pub some : (d : Config) → site_config new ≡ Some d → (w : MissedNote) × MapsOf w d new
    pub none : (d : Config) → site_config new ≡ Some d → RestsNot rested → (next : MissedNote) × RisenMaps old (site_disks new) next × MapsOf next d new

  -- refused before it wrote, the disks have what they had
  abbrev pub ImportMapped : Option Rested → Meaning → GroupSite R g → Result (Unit {0}) Stop → Type 0
  ImportMapped rested old new (Ok done) = CameBack rested old new
  ImportMapped rested old new (Err stop) = stops_early stop ≡ true → (w : MissedNote) (c : Config) → IdleMaps w c rested old → MapsOf w c new

  abbrev pub RecoverMapped : Option Rested → Meaning → GroupSite R g → Result (Unit {0}) Stop → Type 0
  RecoverMapped rested old new (Ok done) = CameBack rested old new
  RecoverMapped rested old new (Err stop) = stops_early stop ≡ true → (w : MissedNote) (c : Config) → DownMaps w c rested old → MapsOf w c new

  -- either, of a site
  abbrev pub CameMapped : GroupSite R g → GroupSite R g → Result (Unit {0}) Stop → Type 0
  CameMapped (Deported idle) new r = ImportMapped idle.rested (idle_disks idle) new r
  CameMapped (Down idle) new r = RecoverMapped idle.rested (idle_disks idle) new r
  CameMapped other new r = Unit {0}
