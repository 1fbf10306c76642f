-- What an event at one site changes of a world in which sites may be in doubt, place by place.
use Rattle.std.specs.Prelude.{◌≡◌, ℕ, ◌+◌, false, List, Option}
use Rattle.vx_history.specs.Doubts.{After, Doubted}
use Rattle.vx_history.specs.World.{Gathering, Link, Node, Packet}

-- Each other site is as it was: its node, its links, the headers of its log, what it may be besides, and what it puts together. The world has not strayed before where it
-- has not behind that.
pub record ChangesNode (s : ℕ) (d e : Doubted) : Type 0 where
  pub sites : e.world.sites ≡ d.world.sites
  pub nodes : (i : ℕ) → (i ≡ s → ⊥) → e.world.nodes i ≡ d.world.nodes i
  pub links : (i k : ℕ) → (i ≡ s → ⊥) → e.world.links i k ≡ d.world.links i k
  pub headers : (i : ℕ) → (i ≡ s → ⊥) → e.world.headers i ≡ d.world.headers i
  pub after : (i : ℕ) → (i ≡ s → ⊥) → e.after i ≡ d.after i
  pub strayed : e.strayed ≡ false → d.strayed ≡ false
  pub gathering : (i : ℕ) → (i ≡ s → ⊥) → e.world.gathering i ≡ d.world.gathering i

-- besides, no packet is sent, and what the site itself puts together stays
pub record ChangesAt (s : ℕ) (d e : Doubted) : Type 0 where
  pub site : ChangesNode s d e
  pub packets : e.world.packets ≡ d.world.packets
  pub gathering : e.world.gathering s ≡ d.world.gathering s

-- a site has this node, these links and so many headers in its log, and it may be this besides
pub record SiteIs (s : ℕ) (d : Doubted) (n : Node) (row : ℕ → Link) (many : ℕ) (doubt : Option After) : Type 0 where
  pub node : d.world.nodes s ≡ n
  pub links : (k : ℕ) → d.world.links s k ≡ row k
  pub headers : d.world.headers s ≡ many
  pub after : d.after s ≡ doubt

-- a further site is this node, and all else is as it was
pub record AddsSite (d e : Doubted) (n : Node) : Type 0 where
  pub sites : e.world.sites ≡ d.world.sites + 1
  pub node : e.world.nodes d.world.sites ≡ n
  pub nodes : (i : ℕ) → (i ≡ d.world.sites → ⊥) → e.world.nodes i ≡ d.world.nodes i
  pub links : (i k : ℕ) → e.world.links i k ≡ d.world.links i k
  pub headers : (i : ℕ) → e.world.headers i ≡ d.world.headers i
  pub after : (i : ℕ) → e.after i ≡ d.after i
  pub strayed : e.strayed ≡ false → d.strayed ≡ false
  pub packets : e.world.packets ≡ d.world.packets
  pub gathering : (i : ℕ) → e.world.gathering i ≡ d.world.gathering i

-- Another world, which differs at one site: that is this node now, with these links, so many headers in its log, what it may be besides, and what it puts
-- together; and these are all packets that were ever sent.
pub record EffectAt (s : ℕ) (d e : Doubted) (n : Node) (row : ℕ → Link) (many : ℕ) (doubt : Option After) (packets : List Packet) (gathered : Option Gathering)
    : Type 0 where
  pub site : ChangesNode s d e
  pub is : SiteIs s e n row many doubt
  pub sent : e.world.packets ≡ packets
  pub gathering : e.world.gathering s ≡ gathered

-- a site has the name, and the disks, that it had; those that were made to fail are the same
pub record KeepsDisks (n m : Node) : Type 0 where
  pub name : m.name ≡ n.name
  pub disks : m.disks ≡ n.disks
  pub blocks : m.blocks ≡ n.blocks
  pub failing : m.failing ≡ n.failing
