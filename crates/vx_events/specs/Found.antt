-- What may be found on the disks of a site that tell no contents.
use Rattle.std.specs.Prelude.{◌≡◌, ℕ, None, length}
use Rattle.vx_history.specs.World.{Link, Node}
use Rattle.vx_model.specs.declared.site.SPhase.TheVariants.{Quiet}
use Rattle.vx_model.specs.declared.site.SiteState.TheVariants.{Up}
use Rattle.vx_events.specs.LinksFit.{RowFits, StartsAt}

-- the same disks and volumes, up and running, with the same notes of the disks: those that are made to fail, the fuse, and the group
pub record SameDisks (n k : Node) : Type 0 where
  pub name : k.name ≡ n.name
  pub disks : k.disks ≡ n.disks
  pub blocks : k.blocks ≡ n.blocks
  pub volumes : k.volumes ≡ n.volumes
  pub up : k.state ≡ Up
  pub running : k.halted ≡ None
  pub failing : k.failing ≡ n.failing
  pub fuse : k.fuse ≡ n.fuse
  pub group : k.group ≡ n.group

-- Site s, which was n, comes up as k with these links, among so many sites: all writes of its log are durable, it is in no replay and was fed by none
-- since, and it has links only where writes arise.
pub record ComesUpAs (s sites : ℕ) (n k : Node) (row : ℕ → Link) : Type 0 where
  pub same : SameDisks n k
  pub whole : length k.log ≡ k.safe
  pub quiet : k.phase ≡ Quiet
  pub rests : k.fed_by ≡ k.other
  pub fits : RowFits s sites row
  pub starts : StartsAt k row
