-- What the calls of a line make of the configuration of a group.
use Rattle.std.specs.Prelude.{◌≡◌, ◌≢◌, ◌⊎◌, ◌==◌, ℕ, Bool, true, false, List, [], map, Option, Some, None, is_some, slice_get, Contains}
use Rattle.std.specs.List.{list_any}
use Rattle.vx_model.specs.declared.site.PlexState.{PlexState}
use Rattle.vx_model.specs.declared.site.PlexState.TheVariants.{Active, Stale}
use Rattle.vx_config.specs.Changes.{Matched, live_again, stated, with_volumes}
use Rattle.vx_config.specs.declared.config.Config.{Config}
use Rattle.vx_config.specs.declared.entry.DiskEntry.{DiskEntry}
use Rattle.vx_config.specs.declared.entry.PlexEntry.{PlexEntry}
use Rattle.vx_config.specs.declared.entry.VolumeEntry.{VolumeEntry}
use Rattle.vx_layout.specs.Made.{IsVolumeMade, with_volume}
use Rattle.vx_layout.specs.Places.{plex_at}
use Rattle.vx_layout.specs.Space.{IsFound}
use Rattle.vx_layout.specs.declared.shape.Found.{Found}
use Rattle.vx_layout.specs.declared.shape.Shape.{Shape}
use Rattle.vx_events.specs.Fails.{Fails}

-- a part of a plex lies on the disk
abbrev pub has_part : Option PlexEntry → ℕ → Bool
has_part None k = false
has_part (Some plex) k = list_any (λ s. s.disk == k) plex.subdisks

-- a call of a line at site s failed on a disk of a plex
pub record PlexFails (s : ℕ) (fails : Fails) (p : PlexEntry) : Type 0 where
  pub disk : ℕ
  pub part : has_part (Some p) disk ≡ true
  pub failed : Contains fails (s, disk)

-- so of some plex of a volume
pub record VolumeFails (s : ℕ) (fails : Fails) (v : VolumeEntry) : Type 0 where
  pub place : ℕ
  pub plex : PlexEntry
  pub at : slice_get v.plexes place ≡ Some plex
  pub failed : PlexFails s fails plex

-- ---- what becomes of the state of a plex of a volume

-- it stays
abbrev pub StateSame : VolumeEntry → PlexEntry → PlexState → Type 0
StateSame v p t = t ≡ p.state

-- so, or it is STALE, as a call on a disk of the plex failed; or ACTIVE, where it was held back and one on a disk of its volume did
abbrev pub StateLoses : ℕ → Fails → VolumeEntry → PlexEntry → PlexState → Type 0
StateLoses s fails v p t = (t ≡ p.state) ⊎ ((t ≡ Stale) × PlexFails s fails p) ⊎ ((t ≡ Active) × VolumeFails s fails v)

-- in an import: it is ACTIVE where it took part, and STALE else; or STALE, as a call on a disk of the plex failed; or ACTIVE, as one on a disk of its volume did
abbrev pub StateOpens : ℕ → Fails → VolumeEntry → PlexEntry → PlexState → Type 0
StateOpens s fails v p t = (t ≡ live_again p.state) ⊎ ((t ≡ Stale) × PlexFails s fails p) ⊎ ((t ≡ Active) × VolumeFails s fails v)

-- in a deport, with plexes that stopped cleanly as ACTIVE: it stays, or it is STALE so; or it was, and a call failed
abbrev pub StateRests : ℕ → Fails → VolumeEntry → PlexEntry → PlexState → Type 0
StateRests s fails v p t = (t ≡ p.state) ⊎ ((t ≡ Stale) × PlexFails s fails p) ⊎ ((t ≡ Active) × (p.state ≡ Stale) × (fails ≢ []))

-- a plex lies where it lay, and its state goes so
pub record PlexGoesBy (By : PlexEntry → PlexState → Type 0) (p q : PlexEntry) : Type 0 where
  pub subdisks : q.subdisks ≡ p.subdisks
  pub state : By p q.state

-- a volume is as it was but for its plexes
pub record VolumeGoesBy (By : VolumeEntry → PlexEntry → PlexState → Type 0) (v u : VolumeEntry) : Type 0 where
  pub name : u.name ≡ v.name
  pub blocks : u.blocks ≡ v.blocks
  pub ncol : u.ncol ≡ v.ncol
  pub width : u.width ≡ v.width
  pub prefer : u.prefer ≡ v.prefer
  pub drl : is_some u.drl ≡ is_some v.drl
  pub fmr : is_some u.fmr ≡ is_some v.fmr
  pub plexes : (k : ℕ) → Matched (PlexGoesBy (By v)) (slice_get v.plexes k) (slice_get u.plexes k)

-- disk k of site s is held as failed as it was, or where a call on it failed; it may be held as good again where this says so
pub record DiskLosesBut (again : Bool) (s k : ℕ) (fails : Fails) (a b : DiskEntry) : Type 0 where
  pub blocks : b.blocks ≡ a.blocks
  pub failed : b.failed ≡ true → (a.failed ≡ true) ⊎ Contains fails (s, k)
  pub stays : again ≡ false → a.failed ≡ true → b.failed ≡ true

-- The configuration d is c, but that disks on which calls of a line at site s failed may be held as failed, and the states of plexes go so; and some disks, as
-- told here, may be held as good again. Serials do not count.
pub record ConfigGoesBy (By : VolumeEntry → PlexEntry → PlexState → Type 0) (again : ℕ → Bool) (s : ℕ) (fails : Fails) (c d : Config) : Type 0 where
  pub site : d.site ≡ c.site
  pub rvg : d.rvg ≡ c.rvg
  pub disks : (k : ℕ) → Matched (DiskLosesBut (again k) s k fails) (slice_get c.disks k) (slice_get d.disks k)
  pub volumes : (v : ℕ) → Matched (VolumeGoesBy By) (slice_get c.volumes v) (slice_get d.volumes v)

-- plexes on such disks may be detached
abbrev pub ConfigLosesBut : (ℕ → Bool) → ℕ → Fails → Config → Config → Type 0
ConfigLosesBut again s fails c d = ConfigGoesBy (StateLoses s fails) again s fails c d

-- no plex changes its state
abbrev pub ConfigKeepsBut : (ℕ → Bool) → ℕ → Fails → Config → Config → Type 0
ConfigKeepsBut again s fails c d = ConfigGoesBy StateSame again s fails c d

-- the same where no disk is held as good again
abbrev pub ConfigLoses : ℕ → Fails → Config → Config → Type 0
ConfigLoses s fails c d = ConfigLosesBut (λ k. false) s fails c d

abbrev pub ConfigKeeps : ℕ → Fails → Config → Config → Type 0
ConfigKeeps s fails c d = ConfigKeepsBut (λ k. false) s fails c d

-- a deport, of configurations whose plexes that stopped cleanly are ACTIVE
abbrev pub ConfigRests : ℕ → Fails → Config → Config → Type 0
ConfigRests s fails c d = ConfigGoesBy (StateRests s fails) (λ k. false) s fails c d

abbrev pub lies_on_disk : Config → (v p : ℕ) → ℕ → Bool
lies_on_disk c v p k = has_part (plex_at c v p) k

-- ---- what was found again

-- a plex lies where it lay
pub record PlexStays (p q : PlexEntry) : Type 0 where
  pub subdisks : q.subdisks ≡ p.subdisks

-- a volume is as it was but for the states of its plexes
pub record VolumeStays (v u : VolumeEntry) : Type 0 where
  pub name : u.name ≡ v.name
  pub blocks : u.blocks ≡ v.blocks
  pub ncol : u.ncol ≡ v.ncol
  pub width : u.width ≡ v.width
  pub prefer : u.prefer ≡ v.prefer
  pub drl : is_some u.drl ≡ is_some v.drl
  pub fmr : is_some u.fmr ≡ is_some v.fmr
  pub plexes : (k : ℕ) → Matched PlexStays (slice_get v.plexes k) (slice_get u.plexes k)

-- ---- changes

abbrev pub plex_again : PlexEntry → PlexEntry
plex_again p = record p { state = live_again p.state }

abbrev pub volume_again : VolumeEntry → VolumeEntry
volume_again v = record v { plexes = map plex_again v.plexes }

-- a configuration of which each plex that stopped cleanly is ACTIVE
abbrev pub opened_again : Config → Config
opened_again c = with_volumes (map volume_again c.volumes) c

-- a new volume with this name, in the space that the rule gives to it
pub record AddsVolume (name : List ℕ) (want : Shape) (c d : Config) : Type 0 where
  pub found : Found
  pub space : IsFound c want found
  pub volume : VolumeEntry
  pub made : IsVolumeMade want found volume
  pub named : volume.name ≡ name
  pub is : d ≡ with_volume c volume

-- a plex of a volume in this state, of which the next attach has to copy all or not
pub record PutsPlex (v p : ℕ) (state : PlexState) (c d : Config) : Type 0 where
  pub whole : Bool
  pub is : d ≡ stated v p state whole c
