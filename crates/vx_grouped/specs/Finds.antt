-- A group that is found on the disks of a bare site, of which it is not known what they hold.
use Rattle.std.specs.Prelude.{◌≡◌, ℕ, ◌<◌, true, false, [], None, IsFalse, Result, Ok, Err}
use Rattle.vx_model.specs.declared.errors.Stop.{Stop}
use Rattle.vx_model.specs.declared.site.SiteState.TheVariants.{Bare}
use Rattle.vx_disk.specs.Shelf.{Meaning}
use Rattle.vx_disk.specs.declared.shelf.Shelf.{Ghosts}
use Rattle.vx_history.specs.Groups.{GroupNode}
use Rattle.vx_history.specs.World.{Node, NoFuse}
use Rattle.vx_config.specs.Checks.{blocks_of}
use Rattle.vx_config.specs.declared.config.Config.{Config}
use Rattle.vx_group.specs.declared.group_core.GroupCore.{GroupCore}
use Rattle.vx_watched.specs.Since.{CalledSince}
use Rattle.vx_watched.specs.Traces.{TellsLess}
use Rattle.vx_grouped.specs.Begins.{group_begun}
use Rattle.vx_grouped.specs.GroupNotes.{NotesConfig}
use Rattle.vx_grouped.specs.GroupSites.{UpNoted}
use Rattle.vx_grouped.specs.Returns.{GroupReturns}
use Rattle.vx_grouped.specs.SiteEnds.{HasNow}
use Rattle.vx_grouped.specs.SiteMaps.{StandMaps}
use Rattle.vx_grouped.specs.SiteReturns.{ImportWhy, ReturnSince}
use Rattle.vx_grouped.specs.declared.group_site.GroupSite.{GroupSite}

-- the disks of a bare site, which are up
pub record CanFind (n : Node) (m : Meaning) : Type 0 where
  pub state : n.state ≡ Bare
  pub unfused : n.fuse ≡ NoFuse
  pub units : m.units ≡ n.disks
  pub size : (u : ℕ) → u < n.disks → m.size u ≡ n.blocks
  pub up : IsFalse m.down
  pub unarmed : IsFalse m.armed

-- The note of a group that was found: it is not known what the disks hold, no further configuration may stand on them, and its volumes have one value each.
pub record IsFoundNote (note : GroupNode) (c : Config) : Type 0 where
  pub config : NotesConfig note c
  pub begun : note.begun ≡ []
  pub loose : note.loose ≡ false
  pub dark : note.dark ≡ true
  pub size : (v : ℕ) → note.bytes.size v ≡ blocks_of c.volumes v
  pub cut : note.cut ≡ None
  pub inside : (v : ℕ) → note.inside v ≡ false

-- the disks behind it: those of the group, or those that are handed back
abbrev pub FoundSince : {S G : Type 0} → Meaning → (S → Meaning) → (G → Meaning) → Result G (S × Stop) → Type 0
FoundSince old meaning disks (Ok g) = ReturnSince old (disks g)
FoundSince old meaning disks (Err (s, stop)) = CalledSince old (meaning s)

-- the rack of that group, or the one that is handed back, tells no more than it did
abbrev pub FoundTells : {S G : Type 0} → Meaning → (S → Meaning) → (G → Meaning) → Result G (S × Stop) → Type 0
FoundTells old rack below (Ok g) = TellsLess old (below g)
FoundTells old rack below (Err (s, stop)) = TellsLess old (rack s)

-- what is known of the parts of the group that came up
abbrev pub FindsParts : {S G : Type 0} → Node → GroupNode → Config → Meaning → (G → GroupCore) → (G → Meaning) → Result G (S × Stop) → Type 0
FindsParts n note last old core disks (Ok g) = GroupReturns n note last old (core g) (disks g)
FindsParts n note last old core disks (Err e) = Unit {0}

-- Why none comes up, of disks that are up still.
pub record FindStops (n : Node) (old new : Meaning) (stop : Stop) : Type 0 where
  pub units : new.units ≡ n.disks
  pub size : (u : ℕ) → u < n.disks → new.size u ≡ n.blocks
  pub up : IsFalse new.down
  pub unarmed : IsFalse new.armed
  pub why : ImportWhy ⊥ ⊥ old new stop

module _ {R : Type 0} {g : Ghosts R} where
  -- the site with the group that was found, if one was
  abbrev pub FindsUp : {S : Type 0} → ℕ → Node → Result (GroupSite R g) (S × Stop) → Type 0
  FindsUp site n (Ok e) = (note : GroupNode) × (c : Config) × IsFoundNote note c × HasNow c e × UpNoted (group_begun note site n) note e × StandMaps note e
  FindsUp site n (Err e) = Unit {0}
