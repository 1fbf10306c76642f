-- What the racks hold of the sites of a world, in which sites may be in doubt.
use Rattle.std.specs.Prelude.{◌≡◌, ◌⊎◌, ℕ, ◌<◌, ◌≤◌, Contains, List, length, None, Option, Some, slice_get, IsTrue, true, false}
use Rattle.vx_model.specs.declared.limits.TheConstants.{MOST_SITES}
use Rattle.vx_history.specs.Doubts.{Doubted}
use Rattle.vx_history.specs.Groups.{BlockMay, GroupNode}
use Rattle.vx_disk.specs.Shelf.{Image, Meaning}
use Rattle.vx_config.specs.declared.config.Config.{Config}
use Rattle.vx_copyfmt.specs.Imports.{Found}
use Rattle.vx_kept.specs.Choice.{live}
use Rattle.vx_kept.specs.Cleans.{at_serial}
use Rattle.vx_kept.specs.Facts.{is_found}
use Rattle.vx_kept.specs.Groups.{found}
use Rattle.vx_kept.specs.Keeping.{frame_at}
use Rattle.vx_layout.specs.Places.{place}
use Rattle.vx_events.specs.GroupLines.{is_over_group}
use Rattle.vx_events.specs.GroupViews.{config_of}
use Rattle.vx_grouped.specs.GroupNotes.{noted_try}
use Rattle.vx_grouped.specs.MapsNoted.{MapsOnDisk}
use Rattle.vx_diskset.specs.Holds.{HoldsSite, beside_of}
use Rattle.vx_diskset.specs.Stands.{IsUnfitted}

-- The disks hold the volumes of a group as its site notes them: whatever a crash leaves on them now, an import that can read all of them finds a
-- configuration, in which each volume that is noted stands as it did, but for the states of its plexes and lost logs, and each plex that takes part has of
-- each block a value that the block may have. Unless it may disagree with others, that configuration is the one that is noted, but for its serial, or one that
-- is noted as begun, with no disk held as failed. Logs of missed regions that it does not hold as lost have what is noted of the plexes of their volumes.
pub record HoldsGroup (note : GroupNode) (m : Meaning) : Type 0 where
  pub finds : (i : Image) → m.now i → is_found (found m i) ≡ true
  pub volumes : (i : Image) (c x : Config) → config_of note.config ≡ Some c → m.now i → found m i ≡ Found x → (v : ℕ) → v < length c.volumes → frame_at x v ≡ frame_at c v
  pub one : (i : Image) (c x : Config) → note.loose ≡ false → config_of note.config ≡ Some c → m.now i → found m i ≡ Found x → (at_serial 0 x ≡ c) ⊎ Contains note.begun (noted_try x)
  pub has : (i : Image) (x : Config) → m.now i → found m i ≡ Found x → (v p b : ℕ) → b < note.bytes.size v → IsTrue (live x v p) → BlockMay note v b (i (place x v p b).0 (place x v p b).1)
  pub maps : (i : Image) (c x : Config) → config_of note.config ≡ Some c → m.now i → found m i ≡ Found x → MapsOnDisk note.maps c x i

module _ {R : Type 0} (meaning : R → Meaning) where
  -- The rack of each site over no group holds it, with what the world has of it beside its node. Racks of numbers that no site has are not fitted, up, and
  -- have no fuse.
  pub record RacksHold (d : Doubted) (racks : List R) : Type 0 where
    pub eight : length racks ≡ MOST_SITES
    pub each : (s : ℕ) (r : R) → s < d.world.sites → (d.world.nodes s).group ≡ None → slice_get racks s ≡ Some r → HoldsSite (beside_of d s) (d.world.nodes s) (meaning r)
    pub others : (s : ℕ) (r : R) → d.world.sites ≤ s → slice_get racks s ≡ Some r → IsUnfitted (meaning r)

  -- and that of each site over a group holds the group, where it is known what its disks hold
  pub record GroupsHold (d : Doubted) (racks : List R) : Type 0 where
    pub each : (s : ℕ) (r : R) (note : GroupNode) → s < d.world.sites → is_over_group (d.world.nodes s) ≡ true → (d.world.nodes s).group ≡ Some note → note.dark ≡ false → slice_get racks s ≡ Some r → HoldsGroup note (meaning r)

  -- the contents of each rack are told
  pub record RacksTell (racks : List R) : Type 0 where
    pub each : (s : ℕ) (r : R) → slice_get racks s ≡ Some r → IsTrue (meaning r).tells

  abbrev pub rack_count : Option R → ℕ → ℕ
  rack_count None d = 0
  rack_count (Some r) d = (meaning r).disk_faults d

  -- the count of faults of a disk of a rack
  abbrev pub rack_faults : List R → ℕ → ℕ → ℕ
  rack_faults racks s d = rack_count (slice_get racks s) d

  -- eight racks, none of them fitted, down, or with a fuse
  pub record AreFresh (racks : List R) : Type 0 where
    pub eight : length racks ≡ MOST_SITES
    pub units : (s : ℕ) (r : R) → slice_get racks s ≡ Some r → (meaning r).units ≡ 0
    pub up : (s : ℕ) (r : R) → slice_get racks s ≡ Some r → IsTrue (meaning r).down → ⊥
    pub unarmed : (s : ℕ) (r : R) → slice_get racks s ≡ Some r → IsTrue (meaning r).armed → ⊥
