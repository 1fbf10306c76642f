-- A group that is begun on the disks of a bare site.
use Rattle.std.specs.Prelude.{◌≡◌, ◌⊎◌, ℕ, ◌<◌, ◌≤◌, true, false, [], length, slice_get, Some, None, IsFalse, Result, Ok, Err}
use Rattle.vx_model.specs.declared.errors.Stop.{Stop}
use Rattle.vx_model.specs.declared.errors.Stop.TheVariants.{No as Refused, OutOfMemory}
use Rattle.vx_model.specs.declared.limits.TheConstants.{COMMIT_SERIALS, LEAST_GROUP_BLOCKS, MOST_DISKS}
use Rattle.vx_model.specs.declared.no.No.TheVariants.{Device, Size}
use Rattle.vx_model.specs.declared.site.SiteState.TheVariants.{Bare}
use Rattle.vx_disk.specs.Causes.{DeviceCause}
use Rattle.vx_disk.specs.Counts.{Rose}
use Rattle.vx_disk.specs.Shelf.{Meaning}
use Rattle.vx_disk.specs.declared.shelf.Shelf.{Ghosts}
use Rattle.vx_history.specs.Groups.{GroupNode}
use Rattle.vx_history.specs.Missing.{maps_none}
use Rattle.vx_history.specs.Steps.{group_set}
use Rattle.vx_history.specs.World.{Node, NoFuse}
use Rattle.vx_config.specs.declared.config.Config.{Config}
use Rattle.vx_config.specs.declared.entry.DiskEntry.{DiskEntry}
use Rattle.vx_copies.specs.Marks.{failed_at}
use Rattle.vx_copyio.specs.Labelling.{HasSmall}
use Rattle.vx_kept.specs.Trusts.{HasFailed}
use Rattle.vx_watched.specs.Since.{CalledSince}
use Rattle.vx_grouped.specs.GroupSites.{GroupSiteStands, UpNoted, site_disks}
use Rattle.vx_grouped.specs.SiteMaps.{StandMaps}
use Rattle.vx_grouped.specs.declared.group_site.GroupSite.{GroupSite}
use Rattle.vx_grouped.specs.declared.group_site.GroupSite.TheVariants.{Up}

-- the disks of a bare site, of which a group can be made
pub record CanBegin (n : Node) (m : Meaning) : Type 0 where
  pub state : n.state ≡ Bare
  pub unfused : n.fuse ≡ NoFuse
  pub some : 0 < n.disks
  pub few : n.disks ≤ MOST_DISKS
  pub large : LEAST_GROUP_BLOCKS ≤ n.blocks
  pub units : m.units ≡ n.disks
  pub size : (u : ℕ) → u < n.disks → m.size u ≡ n.blocks
  pub up : IsFalse m.down
  pub unarmed : IsFalse m.armed

-- The note of a new group: it has no volume, no further configuration may stand on the disks, and its serial is small.
pub record IsFirstNote (note : GroupNode) : Type 0 where
  pub begun : note.begun ≡ []
  pub size : (v : ℕ) → note.bytes.size v ≡ 0
  pub others : (v b : ℕ) → note.others v b ≡ []
  pub cut : note.cut ≡ None
  pub dark : note.dark ≡ false
  pub serial : ℕ
  pub small : serial ≤ COMMIT_SERIALS
  pub maps : note.maps ≡ maps_none serial
  pub inside : (v : ℕ) → note.inside v ≡ false

-- a bare site as a group with this note
abbrev pub group_begun : GroupNode → ℕ → Node → Node
group_begun note site n = record (group_set site n) { group = Some note }

-- why no group is made: a disk is too small for one, or a device, or want of memory
abbrev pub BeginRefuses : Meaning → Meaning → Stop → Type 0
BeginRefuses old new (Refused why) = (HasSmall old × (why ≡ Size)) ⊎ DeviceCause old new why
BeginRefuses old new OutOfMemory = Unit {0}

-- what is known of the disks of a shelf that a group was made of, or that is handed back
abbrev pub CreateSince : {S G : Type 0} → Meaning → (S → Meaning) → (G → S) → Result G (S × Stop) → Type 0
CreateSince old meaning shelf (Ok g) = CalledSince old (meaning (shelf g))
CreateSince old meaning shelf (Err (s, stop)) = CalledSince old (meaning s)

-- a configuration with the number of the site, all its disks, no volumes, and no replicated volume group
pub record IsEmptyConfig (site : ℕ) (n : Node) (c : Config) : Type 0 where
  pub site_is : c.site ≡ site
  pub many : length c.disks ≡ n.disks
  pub each : (k : ℕ) (d : DiskEntry) → slice_get c.disks k ≡ Some d → d.blocks ≡ n.blocks
  pub volumes : c.volumes ≡ []
  pub rvg : c.rvg ≡ None

module _ {R : Type 0} {g : Ghosts R} where
  -- a disk of the group is held as failed
  abbrev pub HoldsFailed : GroupSite R g → Type 0
  HoldsFailed (Up group) = HasFailed group.core.inner.config.disks
  HoldsFailed other = ⊥

  -- a disk of it is held as failed only where a call on it failed since
  abbrev pub FailsSince : Meaning → GroupSite R g → Type 0
  FailsSince old (Up group) = (k : ℕ) → failed_at group.core.inner.config.disks k ≡ true → Rose (old.disk_faults k) ((site_disks (Up group)).disk_faults k)
  FailsSince old other = ⊥

  -- its group is this one
  abbrev pub IsEmptyGroup : ℕ → Node → GroupSite R g → Type 0
  IsEmptyGroup site n (Up group) = IsEmptyConfig site n group.core.inner.config
  IsEmptyGroup site n other = ⊥

  -- The site with a group whose imports agree unless a disk is held as failed, as a call on it failed; or bare, where a disk failed, or memory was wanted.
  abbrev pub BeginsGroup : ℕ → Node → Meaning → GroupSite R g → Result (Unit {0}) Stop → Type 0
  BeginsGroup site n old new (Ok done) = (note : GroupNode) × IsFirstNote note × UpNoted (group_begun note site n) note new × IsEmptyGroup site n new × ((note.loose ≡ false) ⊎ HoldsFailed new) × StandMaps note new × FailsSince old new
  BeginsGroup site n old new (Err (Refused (Device disk))) = GroupSiteStands n new × Rose (old.disk_faults disk) ((site_disks new).disk_faults disk)
  BeginsGroup site n old new (Err OutOfMemory) = GroupSiteStands n new
  BeginsGroup site n old new (Err (Refused other)) = ⊥
