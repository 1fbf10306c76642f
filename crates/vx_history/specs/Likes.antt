-- Worlds that differ in notes alone: in what no event and no law of sites, links and packets looks at.
use Rattle.std.specs.Prelude.{◌≡◌, ℕ, true}
use Rattle.vx_model.specs.declared.history.Line.{Line}
use Rattle.vx_history.specs.World.{Link, World}
use Rattle.vx_history.specs.Sends.{is_linked}

-- the same link, or no link in either
pub record SameLink (a b : Link) : Type 0 where
  pub linked : is_linked b ≡ is_linked a
  pub same : is_linked a ≡ true → b ≡ a

-- v is w but for the notes of its sites: their fuses, the disks that are made to fail, their groups of disks, and how many headers were written
pub record IsLike (w v : World) : Type 0 where
  pub sites : v.sites ≡ w.sites
  pub nodes : (i : ℕ) → v.nodes i ≡ record (w.nodes i) { fuse = (v.nodes i).fuse; failing = (v.nodes i).failing; group = (v.nodes i).group }
  pub links : (p s : ℕ) → SameLink (w.links p s) (v.links p s)
  pub lines : (l : Line) → v.lines l ≡ w.lines l
  pub packets : v.packets ≡ w.packets
  pub promised : v.promised ≡ w.promised
  pub gathering : (i : ℕ) → v.gathering i ≡ w.gathering i
