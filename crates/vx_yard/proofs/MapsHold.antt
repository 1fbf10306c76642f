-- What the disks of a site over a group have of the regions that its plexes missed, in the image that they have now.
use Rattle.std.proofs.Common.{◌≡◌, ℕ, Bool, List, subst}
use Rattle.vx_config.specs.declared.config.Config.{Config}
use Rattle.vx_copyfmt.specs.Imports.{Found}
use Rattle.vx_disk.specs.Shelf.{Image, Lawful, Meaning}
use Rattle.vx_group.specs.declared.group_core.GroupCore.{GroupCore}
use Rattle.vx_grouped.proofs.MapStandLemmas.{up_found}
use Rattle.vx_grouped.specs.MapsNoted.{MapsNoted, MapsOnDisk}
use Rattle.vx_grouped.specs.SiteMaps.{DiskMaps}
use Rattle.vx_history.specs.Groups.{MissedNote}
use Rattle.vx_kept.specs.Cleans.{at_serial}
use Rattle.vx_kept.specs.Groups.{found}
use Rattle.vx_loggroup.specs.LoggedVolumes.{LoggedStands}
use Rattle.vx_loggroup.specs.Moving.{IsThere}
use Rattle.vx_logs.specs.Held.{stale}
use Rattle.vx_logs.specs.declared.logs.Logs.{Logs}

there_at : (k : Config) (v p r : ℕ) → IsThere (at_serial 0 k) v p r → IsThere k v p r
there_at k v p r it = record { plex = it.plex; region = it.region }

-- serials do not count
disk_at : (w : MissedNote) (k x : Config) (i : Image) → MapsOnDisk w k x i → MapsOnDisk w (at_serial 0 k) x i
unfolding stale
disk_at w k x i it = record {
  most = λ e v p r on used at has. it.most e v p r on used (there_at k v p r at) has;
  least = λ e v p r on used at old has. it.least e v p r on used (there_at k v p r at) old has;
}

-- of a group that is up
pub up_maps_hold : (w : MissedNote) (core : GroupCore) (logs : List Logs) (flags : List Bool) (stopped : Bool) (m : Meaning) → LoggedStands core logs flags stopped m → Lawful m → MapsNoted w core.inner.config logs flags stopped
    → (c x : Config) (i : Image) → at_serial 0 core.inner.config ≡ c → m.now i → found m i ≡ Found x → MapsOnDisk w c x i
up_maps_hold w core logs flags stopped m stands lawful noted c x i same now is =
    subst (λ (k : Config). MapsOnDisk w k x i) same (disk_at w core.inner.config x i (up_found core logs flags stopped m stands w x i noted (lawful.within i now) is))

-- and of one whose disks are by themselves
pub away_maps_hold : (w : MissedNote) (k : Config) (m : Meaning) → Lawful m → DiskMaps w k m → (c x : Config) (i : Image) → at_serial 0 k ≡ c → m.now i → found m i ≡ Found x → MapsOnDisk w c x i
away_maps_hold w k m lawful it c x i same now is = subst (λ (e : Config). MapsOnDisk w e x i) same (disk_at w k x i (it.each i x (lawful.within i now) is))
