-- What a line notes of groups: of those of its own sites alone.
use Rattle.std.specs.Prelude.{◌≡◌, ◌==◌, ◌||◌, ℕ, Bool, false, Option, Some}
use Rattle.vx_history.specs.Doubts.{After, Doubted}
use Rattle.vx_history.specs.Groups.{GroupNode}
use Rattle.vx_history.specs.World.{World}
use Rattle.vx_script.specs.declared.line.ScriptLine.{ScriptLine}
use Rattle.vx_script.specs.declared.line.ScriptLine.TheVariants.{Apply, Crash, Disk, Fuse, GroupDeport, GroupImport, GroupInit, PlexAttach, PlexDetach, Put, Read, Recover, Rvg, Settle, Show, Status, Volume, Write}
use Rattle.vx_events.specs.Facts.{site_number}

-- site i notes this of its group of disks, or nothing, also where it is as it may be on its disks
pub record HasNote (i : ℕ) (o : Option GroupNode) (d : Doubted) : Type 0 where
  pub note : (d.world.nodes i).group ≡ o
  pub doubt : (a : After) → d.after i ≡ Some a → a.node.group ≡ o

-- the line is one at site i, or settles a link of it
abbrev pub may_note : World → ScriptLine → (i : ℕ) → Bool
may_note w (GroupInit site) i = i == site_number w site
may_note w (GroupDeport site) i = i == site_number w site
may_note w (GroupImport site) i = i == site_number w site
may_note w (Volume site volume blocks mirrors layout log map policy) i = i == site_number w site
may_note w (PlexDetach site volume plex) i = i == site_number w site
may_note w (PlexAttach site volume plex) i = i == site_number w site
may_note w (Rvg site srl maps volumes) i = i == site_number w site
may_note w (Disk site disk state) i = i == site_number w site
may_note w (Crash site pick) i = i == site_number w site
may_note w (Fuse site calls pick) i = i == site_number w site
may_note w (Recover site) i = i == site_number w site
may_note w (Write site volume start count fill) i = i == site_number w site
may_note w (Put site volume start bytes) i = i == site_number w site
may_note w (Read site volume start count) i = i == site_number w site
may_note w (Show site volume start count) i = i == site_number w site
may_note w (Apply site to) i = i == site_number w site
may_note w (Status site) i = i == site_number w site
may_note w (Settle p s) i = (i == site_number w p) || (i == site_number w s)
may_note w other i = false
