-- How a recovery or an import of a group leaves the disks of its site.
use Rattle.std.specs.Prelude.{◌≡◌, ◌⊎◌, ℕ, ◌<◌, ◌≤◌, Bool, true, false, not, [], length, slice_get, Option, Some, None, IsTrue, IsFalse, List, Result, Ok, Err}
use Rattle.vx_model.specs.declared.errors.Stop.{Stop}
use Rattle.vx_model.specs.declared.errors.Stop.TheVariants.{No as Refused, OutOfMemory}
use Rattle.vx_model.specs.declared.no.Counted.TheVariants.{Number as Numbers}
use Rattle.vx_model.specs.declared.no.No.TheVariants.{Damaged, Device, Down as IsOff, Format, Limit, Missing as Lacks, NoConfig}
use Rattle.vx_disk.specs.Counts.{Rose}
use Rattle.vx_disk.specs.Disks.{Disks, is_set}
use Rattle.vx_disk.specs.Racks.{Alike, Stopped}
use Rattle.vx_disk.specs.Shelf.{Meaning}
use Rattle.vx_disk.specs.declared.shelf.Shelf.{Ghosts}
use Rattle.vx_history.specs.Groups.{BlockMay, GroupNode}
use Rattle.vx_history.specs.Steps.{crashed, group_up, worked}
use Rattle.vx_history.specs.Stops.{IsFused}
use Rattle.vx_history.specs.World.{Node}
use Rattle.vx_config.specs.Changes.{Matched}
use Rattle.vx_config.specs.Checks.{blocks_of}
use Rattle.vx_config.specs.Table.{greatest}
use Rattle.vx_config.specs.declared.config.Config.{Config}
use Rattle.vx_group.specs.Imports.{ImportStops}
use Rattle.vx_logimport.specs.declared.rested.Rested.{Rested}
use Rattle.vx_untold.specs.Shades.{shade_meaning}
use Rattle.vx_untold.specs.declared.shade.Shade.{Shade}
use Rattle.vx_watched.specs.Since.{FuseGoes, fuse_calls, is_rack}
use Rattle.vx_grouped.specs.Clean.{StopsClean}
use Rattle.vx_grouped.specs.ConfigMoves.{ConfigBack, OpensMoves, VolumeMoves}
use Rattle.vx_grouped.specs.GroupNotes.{NotesConfig, note_dimmed}
use Rattle.vx_grouped.specs.GroupSites.{AwayNoted, DownNoted, UpNoted, dimmed_site, site_disks, with_note}
use Rattle.vx_grouped.specs.Readies.{ready_of}
use Rattle.vx_grouped.specs.SiteEnds.{HasNow, stops_down}
use Rattle.vx_grouped.specs.declared.group_site.GroupSite.{GroupSite}
use Rattle.vx_grouped.specs.declared.group_site.GroupSite.TheVariants.{Deported, Down}

-- The note behind an import: the disks hold one configuration, and each block has what it had and might have, or one of these values. Where contents
-- are told, volumes are as large as they were.
pub record NoteReturns (told : Type 0) (note next : GroupNode) : Type 0 where
  pub begun : next.begun ≡ []
  pub loose : next.loose ≡ false
  pub cut : next.cut ≡ None
  pub dark : next.dark ≡ note.dark
  pub inside : next.inside ≡ note.inside
  pub block : (v b : ℕ) → ((next.bytes.block v b ≡ note.bytes.block v b) × (next.others v b ≡ note.others v b)) ⊎ (next.others v b ≡ [])
  pub may : told → (v b : ℕ) → b < note.bytes.size v → BlockMay note v b (next.bytes.block v b)
  pub size : told → (v : ℕ) → 0 < note.bytes.size v → next.bytes.size v ≡ note.bytes.size v

-- a site whose group came up with this note
abbrev pub returned_with : GroupNode → Node → Node
returned_with next n = with_note next (group_up n)

-- a disk failed
pub record SomeRose (old new : Meaning) : Type 0 where
  pub disk : ℕ
  pub below : disk < old.units
  pub rose : Rose (old.disk_faults disk) (new.disk_faults disk)

-- it is known what the disks hold: contents are told, imports agree, and nothing was begun
abbrev pub KnownAway : Type 0 → GroupNode → Type 0
KnownAway told note = told × (note.loose ≡ false) × (note.begun ≡ [])

-- Why an import is refused: a disk fails in it; or, before it writes, a disk that is held as good cannot be read, none has a configuration that may be
-- taken up, or too few serials are left. Of disks of which contents are told none is damaged or of another format; and where it is known what they hold a
-- disk failed if none has a configuration.
abbrev pub ImportWhy : (told known : Type 0) → Meaning → Meaning → Stop → Type 0
ImportWhy told known old new (Refused (Device disk)) = Rose (old.disk_faults disk) (new.disk_faults disk)
ImportWhy told known old new (Refused (Lacks disk)) = Rose (old.disk_faults disk) (new.disk_faults disk)
ImportWhy told known old new (Refused NoConfig) = known → SomeRose old new
ImportWhy told known old new (Refused (Limit what most)) = (what ≡ Numbers) × (most ≡ greatest)
ImportWhy told known old new (Refused (Damaged disk block stored computed)) = told → ⊥
ImportWhy told known old new (Refused (Format version)) = told → ⊥
ImportWhy told known old new (Refused other) = ⊥
ImportWhy told known old new OutOfMemory = Unit {0}

-- a fuse that is set still is, and has no more calls left
pub record KeepsFuse (old new : Meaning) : Type 0 where
  pub goes : (o n : Disks) → old.disks ≡ Some o → new.disks ≡ Some n → FuseGoes o.fuse n.fuse

-- disks that tell nothing, and leave nothing
pub record TellsNone (m : Meaning) : Type 0 where
  pub tells : m.tells ≡ false
  pub leaves : (u b : ℕ) (v : List ℕ) → m.leaves u b v → ⊥

-- whether an import that was refused so had written nothing
abbrev pub stops_early : Stop → Bool
stops_early (Refused (Device disk)) = false
stops_early (Refused IsOff) = false
stops_early (Refused (Limit what most)) = false
stops_early other = true

-- The disks that are made to fail are the same. A fuse that is set was set before, and has no more calls left.
pub record FailsFused (old new : Disks) : Type 0 where
  pub failing : (u : ℕ) → new.failing u ≡ old.failing u
  pub set : is_set new.fuse ≡ true → is_set old.fuse ≡ true
  pub left : is_set new.fuse ≡ true → fuse_calls new.fuse ≤ fuse_calls old.fuse

-- The same disks, of which contents are told no more than before.
pub record ReturnSince (old new : Meaning) : Type 0 where
  pub units : new.units ≡ old.units
  pub size : (u : ℕ) → new.size u ≡ old.size u
  pub tells : IsTrue new.tells → IsTrue old.tells
  pub counts : (d : ℕ) → old.disk_faults d ≤ new.disk_faults d
  pub rack : is_rack new.disks ≡ is_rack old.disks
  pub told : (o n : Disks) → old.disks ≡ Some o → new.disks ≡ Some n → FailsFused o n

-- the same disks, of which a crash leaves no more
pub record LeftLess (old new : Meaning) : Type 0 where
  pub units : new.units ≡ old.units
  pub size : (u : ℕ) → new.size u ≡ old.size u
  pub tells : new.tells ≡ old.tells
  pub leaves : (u b : ℕ) (v : List ℕ) → new.leaves u b v → old.leaves u b v

module _ {R : Type 0} {g : Ghosts R} where
  -- the disks as an import sees them: where imports of them may disagree, it is not known what they hold
  abbrev pub as_imported : GroupSite R g → Meaning
  as_imported (Deported idle) = shade_meaning g.meaning (ready_of idle.agreed idle.rack)
  as_imported (Down idle) = shade_meaning g.meaning (ready_of idle.agreed idle.rack)
  as_imported other = site_disks other

  -- of which volumes disks by themselves tell what a clean stop left
  abbrev pub site_rested : GroupSite R g → Option Rested
  site_rested (Deported idle) = idle.rested
  site_rested (Down idle) = idle.rested
  site_rested other = None

  -- whether it is not known from then on what they hold
  abbrev pub is_dimmed : GroupSite R g → Bool
  is_dimmed (Deported idle) = not idle.agreed
  is_dimmed (Down idle) = not idle.agreed
  is_dimmed other = false

  -- why an import of disks that were down was refused: what it found of them, once they were up, and left of them, before they crashed again
  pub record RefusedBetween (old : Meaning) (new : GroupSite R g) (stop : Stop) : Type 0 where
    pub first : Shade R
    pub middle : Shade R
    pub revived : Alike old (shade_meaning g.meaning first)
    pub stops : ImportStops (shade_meaning g.meaning first) (shade_meaning g.meaning middle) stop
    pub crashed : Stopped (shade_meaning g.meaning middle) (site_disks new)

  -- The configuration that was taken up, beside the one that was noted. Where imports agreed and nothing was begun it has the same volumes, with each plex that
  -- took part, but for those on disks of which a call failed; and each block has one value, but for those of a volume that stopped cleanly.
  pub record ConfigReturns (note next : GroupNode) (old : Meaning) (new : GroupSite R g) : Type 0 where
    pub was : Config
    pub now : Config
    pub has : HasNow now new
    pub noted : NotesConfig note was
    pub noted_now : NotesConfig next now
    pub sizes : (v : ℕ) → next.bytes.size v ≡ blocks_of now.volumes v
    pub change : ConfigBack (IsTrue (site_disks new).tells) old (site_disks new) was now
    pub one : IsTrue (site_disks new).tells → note.loose ≡ false → note.begun ≡ [] → (v b : ℕ) → b < next.bytes.size v → (next.others v b ≡ []) ⊎ ((v < length was.volumes) × StopsClean was v)
    pub opens : IsTrue (site_disks new).tells → note.loose ≡ false → note.begun ≡ [] → (v : ℕ) → Matched (VolumeMoves (OpensMoves old (site_disks new))) (slice_get was.volumes v) (slice_get now.volumes v)
    pub parts : IsTrue (site_disks new).tells → note.loose ≡ false → note.begun ≡ [] → (now.site ≡ was.site) × (now.rvg ≡ was.rvg)

  -- the group is up, with another note
  abbrev pub ReturnsUp : Node → GroupNode → Meaning → GroupSite R g → Type 0
  ReturnsUp n note old new = (next : GroupNode) × NoteReturns (IsTrue (site_disks new).tells) note next × UpNoted (returned_with next n) next new × ConfigReturns note next old new

  -- The same of these disks, which crashed: the group is up; or it is refused, and they are down again. Where it had begun to write it is not known what
  -- they hold.
  abbrev pub RecoversFrom : Node → GroupNode → Meaning → GroupSite R g → Result (Unit {0}) Stop → Type 0
  RecoversFrom n note old new (Ok done) = ReturnsUp n note old new
  RecoversFrom n note old new (Err stop) = DownNoted (dimmed_site (not (stops_early stop)) note n) (note_dimmed (not (stops_early stop)) note) new × ImportWhy (IsTrue (site_disks new).tells) (KnownAway (IsTrue (site_disks new).tells) note) old (site_disks new) stop × (IsTrue (site_disks new).tells → RefusedBetween old new stop)

  -- What a refused import leaves: the disks by themselves, without a fuse where it had begun to write; or they are down, as it ran out.
  abbrev pub ImportRefused : Bool → Node → GroupNode → Meaning → GroupSite R g → Stop → Type 0
  ImportRefused true n note old new stop = DownNoted (crashed (returned_with (note_dimmed true note) n) 0) (note_dimmed true note) new × IsFused n.fuse
  ImportRefused false n note old new stop =
      AwayNoted (worked (dimmed_site (not (stops_early stop)) note n)) (note_dimmed (not (stops_early stop)) note) new × (IsFalse (site_disks new).armed ⊎ KeepsFuse old (site_disks new)) × ImportWhy (IsTrue (site_disks new).tells) (KnownAway (IsTrue (site_disks new).tells) note) old (site_disks new) stop

  abbrev pub ImportsFrom : Node → GroupNode → Meaning → GroupSite R g → Result (Unit {0}) Stop → Type 0
  ImportsFrom n note old new (Ok done) = ReturnsUp n note old new × KeepsFuse old (site_disks new)
  ImportsFrom n note old new (Err stop) = ImportRefused (stops_down stop) n note old new stop

  -- A recovery of a site that crashed: its group is up. Refused, its disks are down again. Where imports may disagree it is not known what they hold.
  abbrev pub SiteRecovers : Node → GroupNode → GroupSite R g → GroupSite R g → Result (Unit {0}) Stop → Type 0
  SiteRecovers n note old new r = RecoversFrom (dimmed_site (is_dimmed old) note n) (note_dimmed (is_dimmed old) note) (as_imported old) new r

  -- An import of a site that was deported: its group is up. Refused, its disks are by themselves still; or its fuse ran out, and they are down.
  abbrev pub SiteImports : Node → GroupNode → GroupSite R g → GroupSite R g → Result (Unit {0}) Stop → Type 0
  SiteImports n note old new r = ImportsFrom (dimmed_site (is_dimmed old) note n) (note_dimmed (is_dimmed old) note) (as_imported old) new r

  -- an import that was refused before anything was written leaves the disks as they were, as an import sees them
  abbrev pub LessLeft : Meaning → GroupSite R g → Result (Unit {0}) Stop → Type 0
  LessLeft old new (Ok done) = Unit {0}
  LessLeft old new (Err stop) = stops_early stop ≡ true → LeftLess old (as_imported new)

  -- one that was refused behind that leaves disks that tell nothing
  abbrev pub LateDark : GroupSite R g → Result (Unit {0}) Stop → Type 0
  LateDark new (Ok done) = Unit {0}
  LateDark new (Err stop) = stops_early stop ≡ false → TellsNone (site_disks new)
