-- Worlds in which something holds of what each site notes of its group: that it is known what its disks hold.
use Rattle.std.specs.Prelude.{◌≡◌, ℕ, false, Option, Some, None, unwrap_or}
use Rattle.vx_history.specs.Doubts.{After, Doubted}
use Rattle.vx_history.specs.Groups.{GroupNode}
use Rattle.vx_history.specs.World.{Node}
use Rattle.vx_events.specs.GroupNotes.{no_note}

-- of each site, also where it is as it may be on its disks
pub record AllNote (P : Option GroupNode → Type 0) (d : Doubted) : Type 0 where
  pub sites : (i : ℕ) → P (d.world.nodes i).group
  pub doubts : (s : ℕ) (a : After) → d.after s ≡ Some a → P a.node.group

-- of a site, by what it notes
abbrev pub IsBrightNote : Option GroupNode → Type 0
IsBrightNote o = (unwrap_or o no_note).dark ≡ false

abbrev pub IsBright : Node → Type 0
IsBright n = IsBrightNote n.group

abbrev pub AllBright : Doubted → Type 0
AllBright d = AllNote IsBrightNote d

-- it notes no group
abbrev pub IsNoNote : Option GroupNode → Type 0
IsNoNote o = o ≡ None

-- no site does
abbrev pub NotesNone : Doubted → Type 0
NotesNone d = AllNote IsNoNote d
