-- What holds of a world in which any number of sites may be in doubt.
use Rattle.std.specs.Prelude.{◌≡◌, ℕ, ◌<◌, Bool, true, false, [], Option, Some, None}
use Rattle.vx_model.specs.declared.site.SiteState.TheVariants.{Up}
use Rattle.vx_history.specs.Doubts.{After, Doubted}
use Rattle.vx_history.specs.GoodWorld.{GoodWorld}
use Rattle.vx_history.specs.Refusals.{is_running}
use Rattle.vx_history.specs.Good.{IsMade}
use Rattle.vx_history.specs.World.{Node, Link, World}

-- no site is in doubt
abbrev pub NoDoubts : Doubted → Type 0
NoDoubts d = (s : ℕ) → d.after s ≡ None

-- what a site is, and what it may be on its disks: both are up and halted, under one name
pub record IsDoubt (w : World) (s : ℕ) (a : After) : Type 0 where
  pub here : s < w.sites
  pub name : a.node.name ≡ (w.nodes s).name
  pub up : (w.nodes s).state ≡ Up
  pub up_too : a.node.state ≡ Up
  pub halted : is_running (w.nodes s).halted ≡ false
  pub halted_too : is_running a.node.halted ≡ false

-- a site as it may be on its disks, where that is so chosen and it is in doubt, and its links
abbrev pub node_as : Bool → Option After → Node → Node
node_as true (Some a) n = a.node
node_as true None n = n
node_as false o n = n

abbrev pub row_as : Bool → Option After → (ℕ → Link) → ℕ → Link
row_as true (Some a) row = a.row
row_as true None row = row
row_as false o row = row

-- the world in which each site in doubt that is chosen is as it may be on its disks
abbrev pub resolved_as : World → (ℕ → Option After) → (ℕ → Bool) → World
resolved_as w after chosen =
    record w { nodes = λ i. node_as (chosen i) (after i) (w.nodes i); links = λ i. row_as (chosen i) (after i) (w.links i) }

-- each site in doubt stands still, and whichever of them are as they may be on their disks, the world is good
pub record GoodDoubted (d : Doubted) : Type 0 where
  pub doubts : (s : ℕ) (a : After) → d.after s ≡ Some a → IsDoubt d.world s a
  pub good : (chosen : ℕ → Bool) → GoodWorld (resolved_as d.world d.after chosen)

-- the same log and the same data volumes
pub record SameRoom (n m : Node) : Type 0 where
  pub ring : m.ring ≡ n.ring
  pub volumes : m.volumes ≡ n.volumes

-- what a site may be on its disks has the log and the data volumes that it has
abbrev pub DoubtsAlike : Doubted → Type 0
DoubtsAlike d = (s : ℕ) (a : After) → d.after s ≡ Some a → SameRoom (d.world.nodes s) a.node

-- a site that is more than bare, and has data volumes
abbrev pub HasData : Node → Type 0
HasData n = IsMade n × (n.volumes ≡ [] → ⊥)

-- each site that has data volumes has them still, and its log
pub record RoomStays (d new : Doubted) : Type 0 where
  pub sites : (i : ℕ) → HasData (d.world.nodes i) → SameRoom (d.world.nodes i) (new.world.nodes i)
  pub doubts : DoubtsAlike new
