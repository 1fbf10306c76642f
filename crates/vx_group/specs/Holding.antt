-- A plex that is held back: STALE in memory, and ACTIVE by what the disks may keep.
use Rattle.std.specs.Prelude.{◌≡◌, ◌⊎◌, ℕ, true, false, IsTrue, Option, Some, None, List}
use Rattle.vx_disk.specs.Shelf.{Meaning}
use Rattle.vx_model.specs.declared.site.PlexState.TheVariants.{Active}
use Rattle.vx_config.specs.Changes.{stated, with_volumes}
use Rattle.vx_config.specs.Checks.{is_sound, plexes_of}
use Rattle.vx_config.specs.declared.config.Config.{Config}
use Rattle.vx_config.specs.declared.entry.VolumeEntry.{VolumeEntry}
use Rattle.vx_volume.specs.Plexes.{active}
use Rattle.vx_kept.specs.States.{stale_at, whole_of}
use Rattle.vx_group.specs.Dets.{any_below, is_other}
use Rattle.vx_group.specs.Stands.{InnerStands}
use Rattle.vx_group.specs.declared.group_core.GroupCore.{GroupCore}
use Rattle.vx_group.specs.declared.group_core.Held.{Held}
use Rattle.vx_group.specs.declared.inner.Inner.{Inner}

-- with one plex ACTIVE
abbrev pub active_at : ℕ → ℕ → Config → Config
active_at v p c = stated v p Active (whole_of c v p) c

-- the volumes with the plex that is held back ACTIVE
abbrev pub volumes_by : Option Held → Config → List VolumeEntry
volumes_by None c = c.volumes
volumes_by (Some h) c = (active_at h.vol h.plex c).volumes

abbrev pub config_by : Option Held → Config → Config
config_by held c = with_volumes (volumes_by held c) c

-- the same with this configuration
abbrev pub with_config : Config → Inner → Inner
with_config c i = record { config = c; good = i.good; room = i.room; unsettled = i.unsettled; committed = i.committed; agreed = i.agreed; next = i.next; faults = i.faults; unsure = i.unsure }

-- The group as the disks may keep it: the plex that is held back is ACTIVE. What crashes may leave goes by this.
abbrev pub wide : GroupCore → Inner
wide core = with_config (config_by core.held core.inner.config) core.inner

-- The plex is STALE, and was ACTIVE; the configuration is checked as it is.
pub record IsHeld (c : Config) (v p : ℕ) : Type 0 where
  pub is_on : IsTrue (active (active_at v p c) v p)
  pub off : active c v p ≡ false
  pub back : stale_at v p (active_at v p c) ≡ c
  pub sound : is_sound c ≡ true

-- The group stands on the disks as they may keep it, and holds back a plex that is STALE in memory, or none.
pub record GroupStands (core : GroupCore) (m : Meaning) : Type 0 where
  pub stands : InnerStands (wide core) m
  pub held : (h : Held) → core.held ≡ Some h → IsHeld core.inner.config h.vol h.plex

-- with the plex held back
abbrev pub holding_plex : ℕ → ℕ → GroupCore → GroupCore
holding_plex v p c = record { inner = with_config (stale_at v p c.inner.config) c.inner; held = Some (record { vol = v; plex = p }) }

-- a plex that is ACTIVE beside another one is held back; where it is not, or is the only one, nothing changes
abbrev pub HeldBack : ℕ → ℕ → GroupCore → GroupCore → Type 0
HeldBack v p c d =
    ((d ≡ c) × (IsTrue (active c.inner.config v p) → any_below (is_other c.inner.config v p) (plexes_of c.inner.config v) ≡ false))
    ⊎ ((d ≡ holding_plex v p c) × IsTrue (active c.inner.config v p) × (any_below (is_other c.inner.config v p) (plexes_of c.inner.config v) ≡ true))

abbrev pub HeldAgain : Option Held → GroupCore → GroupCore → Type 0
HeldAgain None c d = d ≡ c
HeldAgain (Some h) c d = HeldBack h.vol h.plex c d
