-- What the disks of a site with a group of disks, and no replicated volume group, stand for.
use Rattle.std.specs.Prelude.{◌≡◌, ℕ, ◌+◌, ◌/◌, ◌%◌, ◌<◌, ◌≤◌, [], Bool, true, false, Option, Some, None, IsTrue, IsFalse}
use Rattle.vx_model.specs.declared.limits.TheConstants.{BLOCK}
use Rattle.vx_model.specs.declared.site.Role.TheVariants.{Primary}
use Rattle.vx_model.specs.declared.site.SiteState.TheVariants.{Bare}
use Rattle.vx_disk.specs.Shelf.{Meaning}
use Rattle.vx_disk.specs.declared.shelf.Shelf.{Ghosts}
use Rattle.vx_config.specs.Configs.{HasSpelling}
use Rattle.vx_config.specs.declared.config.Config.{Config}
use Rattle.vx_kept.specs.Cleans.{at_serial}
use Rattle.vx_history.specs.Groups.{GroupNode}
use Rattle.vx_history.specs.Steps.{burned, crashed, deported_site}
use Rattle.vx_history.specs.World.{Node, NoFuse}
use Rattle.vx_group.specs.declared.group_core.GroupCore.{GroupCore}
use Rattle.vx_untold.specs.Shades.{rack_of, shade_meaning}
use Rattle.vx_watched.specs.Empty.{no_shelf}
use Rattle.vx_grouped.specs.Away.{IsAwayAt, IsDeportedAt}
use Rattle.vx_grouped.specs.GroupNotes.{IsGroupAt, IsGroupCut, note_dimmed}
use Rattle.vx_grouped.specs.SetFuses.{HasFuse}
use Rattle.vx_grouped.specs.declared.group_site.GroupSite.{GroupSite}
use Rattle.vx_grouped.specs.declared.idle.Idle.{Idle}
use Rattle.vx_grouped.specs.declared.laid.Laid.{Laid}
use Rattle.vx_grouped.specs.declared.group_site.GroupSite.TheVariants.{Up, Deported, Down, Marked, Gone}

-- a site without a replicated volume group: a primary with no volume of one and no write, which nothing halts
pub record HasNoRvg (n : Node) : Type 0 where
  pub role : n.role ≡ Primary
  pub volumes : n.volumes ≡ []
  pub log : n.log ≡ []
  pub safe : n.safe ≡ 0
  pub running : n.halted ≡ None

-- a site that notes this of its group
pub record NotesGroup (n : Node) (note : GroupNode) : Type 0 where
  pub is : n.group ≡ Some note
  pub none : HasNoRvg n

-- a site with this note, behind calls on its disks
abbrev pub with_note : GroupNode → Node → Node
with_note note n = record n { group = Some note; fuse = burned n.fuse }

-- a site of whose disks, if this is so, it is no longer known what they hold
abbrev pub dimmed_site : Bool → GroupNode → Node → Node
dimmed_site dims note n = record n { group = Some (note_dimmed dims note) }

-- a site with this note whose group was just deported
abbrev pub deported_with : GroupNode → Node → Node
deported_with note n = deported_site (burned n.fuse) (crashed (with_note note n) 0)

-- Whether a rack tells, and its disks as they are seen: unless the note says that nothing is known of what they hold, contents are told where the
-- rack tells them.
abbrev pub IsLit : GroupNode → Bool → Meaning → Type 0
IsLit note told m = note.dark ≡ false → IsTrue told → IsTrue m.tells

-- a site whose group is up
pub record GroupUp (n : Node) (note : GroupNode) (told : Bool) (core : GroupCore) (m : Meaning) : Type 0 where
  pub noted : NotesGroup n note
  pub lit : IsLit note told m
  pub fuse : HasFuse n.fuse m
  pub spells : HasSpelling (at_serial 0 core.inner.config)
  pub at : IsGroupAt n note core m

-- disks that are down and have no fuse
pub record AreStopped (m : Meaning) : Type 0 where
  pub down : IsTrue m.down
  pub unarmed : IsFalse m.armed

-- a site whose group crashed, of which imports agree or not
pub record GroupDown (n : Node) (note : GroupNode) (agreed told : Bool) (m : Meaning) : Type 0 where
  pub noted : NotesGroup n note
  pub lit : IsLit note told m
  pub agrees : note.loose ≡ false → agreed ≡ true
  pub unfused : n.fuse ≡ NoFuse
  pub stopped : AreStopped m
  pub last : Config
  pub spells : HasSpelling (at_serial 0 last)
  pub away : IsAwayAt n note last m

-- a site whose group was deported: its disks are up, and keep their fuse
pub record GroupAway (n : Node) (note : GroupNode) (agreed told : Bool) (m : Meaning) : Type 0 where
  pub noted : NotesGroup n note
  pub lit : IsLit note told m
  pub agrees : note.loose ≡ false → agreed ≡ true
  pub up : IsTrue m.down → ⊥
  pub fuse : HasFuse n.fuse m
  pub last : Config
  pub newest : Config
  pub spells : HasSpelling (at_serial 0 newest)
  pub away : IsDeportedAt n note last newest m

-- the disks of a bare site, on which labels and headers of a group may stand
pub record IsMarkedSite (n : Node) (m : Meaning) : Type 0 where
  pub state : n.state ≡ Bare
  pub units : m.units ≡ n.disks
  pub size : (u : ℕ) → u < n.disks → m.size u ≡ n.blocks
  pub unfused : n.fuse ≡ NoFuse
  pub up : IsFalse m.down
  pub unarmed : IsFalse m.armed

-- a site whose fuse ran out: its disks are down, and the group over them is not yet let go
pub record GroupFallen (n : Node) (note : GroupNode) (told : Bool) (core : GroupCore) (m : Meaning) : Type 0 where
  pub noted : NotesGroup n note
  pub lit : IsLit note told m
  pub spells : HasSpelling (at_serial 0 core.inner.config)
  pub cut : IsGroupCut n note core m

-- so many bytes from this block of a volume on: whole blocks, which lie in the volume that is noted
pub record FitsPlain (note : GroupNode) (vol block count : ℕ) : Type 0 where
  pub some : 0 < count
  pub whole : count % BLOCK ≡ 0
  pub within : block + count / BLOCK ≤ note.bytes.size vol

module _ {R : Type 0} {g : Ghosts R} where
  -- the disks of a group that is up, and of one that is not
  abbrev pub laid_disks : Laid R g → Meaning
  laid_disks laid = shade_meaning g.meaning laid.shelf

  abbrev pub idle_disks : Idle R g → Meaning
  idle_disks idle = shade_meaning g.meaning idle.rack

  -- its disks: they may tell nothing of their contents where it is not known what they hold
  abbrev pub site_disks : GroupSite R g → Meaning
  site_disks (Up group) = laid_disks group
  site_disks (Deported idle) = idle_disks idle
  site_disks (Down idle) = idle_disks idle
  site_disks (Marked rack) = g.meaning rack
  site_disks Gone = no_shelf

  -- the rack itself, under whatever is known of its contents
  abbrev pub laid_below : Laid R g → Meaning
  laid_below laid = g.meaning (rack_of laid.shelf)

  abbrev pub idle_below : Idle R g → Meaning
  idle_below idle = g.meaning (rack_of idle.rack)

  abbrev pub site_below : GroupSite R g → Meaning
  site_below (Up group) = laid_below group
  site_below (Deported idle) = idle_below idle
  site_below (Down idle) = idle_below idle
  site_below (Marked rack) = g.meaning rack
  site_below Gone = no_shelf

  -- the configuration of a group that is up
  abbrev pub site_config : GroupSite R g → Option Config
  site_config (Up group) = Some group.core.inner.config
  site_config other = None

  -- whether imports agree of a group that is up
  abbrev pub site_agrees : GroupSite R g → Bool
  site_agrees (Up group) = group.core.inner.agreed
  site_agrees other = false

  -- the group is up
  abbrev pub UpNoted : Node → GroupNode → GroupSite R g → Type 0
  UpNoted n note (Up group) = GroupUp n note (laid_below group).tells group.core (laid_disks group)
  UpNoted n note other = ⊥

  -- it is up, and its disks are down
  abbrev pub CutNoted : Node → GroupNode → GroupSite R g → Type 0
  CutNoted n note (Up group) = GroupFallen n note (laid_below group).tells group.core (laid_disks group)
  CutNoted n note other = ⊥

  abbrev pub DownNoted : Node → GroupNode → GroupSite R g → Type 0
  DownNoted n note (Down idle) = GroupDown n note idle.agreed (idle_below idle).tells (idle_disks idle)
  DownNoted n note other = ⊥

  abbrev pub AwayNoted : Node → GroupNode → GroupSite R g → Type 0
  AwayNoted n note (Deported idle) = GroupAway n note idle.agreed (idle_below idle).tells (idle_disks idle)
  AwayNoted n note other = ⊥

  -- the disks of a site that has a group, or on which one was begun
  abbrev pub GroupSiteStands : Node → GroupSite R g → Type 0
  GroupSiteStands n (Up group) = (note : GroupNode) × GroupUp n note (laid_below group).tells group.core (laid_disks group)
  GroupSiteStands n (Deported idle) = (note : GroupNode) × GroupAway n note idle.agreed (idle_below idle).tells (idle_disks idle)
  GroupSiteStands n (Down idle) = (note : GroupNode) × GroupDown n note idle.agreed (idle_below idle).tells (idle_disks idle)
  GroupSiteStands n (Marked rack) = IsMarkedSite n (g.meaning rack)
  GroupSiteStands n Gone = ⊥
