-- That the writes of logs fit the volumes and the rings of their sites.
use Rattle.std.specs.Prelude.{◌≡◌, ℕ, zero, suc, ◌+◌, ◌≤◌, true, List, [], ◌∷◌}
use Rattle.std.specs.List.{AllByRecursion}
use Rattle.vx_model.specs.Content.{Write, blocks_in}
use Rattle.vx_model.specs.declared.history.Line.{Line}
use Rattle.vx_model.specs.declared.limits.TheConstants.{MOST_CALL_BLOCKS}
use Rattle.vx_model.specs.declared.site.SiteState.TheVariants.{Bare}
use Rattle.vx_history.specs.World.{Node, Volume, World}
use Rattle.vx_history.specs.Good.{IsMade}
use Rattle.vx_history.specs.Refusals.{agree, rings_fit}

-- the blocks of a volume, of which there are none beyond the last
abbrev pub blocks_of_volume : List Volume → ℕ → ℕ
blocks_of_volume [] v = 0
blocks_of_volume (x ∷ xs) zero = x.blocks
blocks_of_volume (x ∷ xs) (suc v) = blocks_of_volume xs v

-- the write is as long as a call may be, has room in the ring, and ends within its volume
pub record WriteFits (n : Node) (x : Write) : Type 0 where
  pub some : 1 ≤ blocks_in x.bytes
  pub few : blocks_in x.bytes ≤ MOST_CALL_BLOCKS
  pub room : blocks_in x.bytes + 1 ≤ n.ring
  pub within : x.start + blocks_in x.bytes ≤ blocks_of_volume n.volumes x.volume

-- what a site's volumes held and hold has their sizes, and a bare site has no ring
pub record IsSized (n : Node) : Type 0 where
  pub start : (v : ℕ) → n.start.size v ≡ blocks_of_volume n.volumes v
  pub base : (v : ℕ) → n.base.size v ≡ blocks_of_volume n.volumes v
  pub bare : n.state ≡ Bare → n.ring ≡ 0

-- a site on a line has the volumes of the site that began the line, and a ring that holds what that one's holds
pub record IsAlike (origin n : Node) : Type 0 where
  pub volumes : agree origin.volumes n.volumes ≡ true
  pub rings : rings_fit origin n ≡ true

-- the site that began the line has volumes, or it is this one
abbrev pub LeadsAlone : Node → ℕ → Node → Type 0
LeadsAlone origin i n = origin.volumes ≡ [] → n.line.origin ≡ i

-- Fact 12. Each write fits the site in whose log it stands, and each that a line holds fits the site that began the line. So what a
-- receiver takes fits it, as it is of the sizes of that site.
pub record Fitting (w : World) : Type 0 where
  pub sized : (i : ℕ) → IsSized (w.nodes i)
  pub logs : (i : ℕ) → AllByRecursion (WriteFits (w.nodes i)) (w.nodes i).log
  pub held : (l : Line) → AllByRecursion (WriteFits (w.nodes l.origin)) (w.lines l).held
  pub alike : (i : ℕ) → IsMade (w.nodes i) → IsAlike (w.nodes (w.nodes i).line.origin) (w.nodes i)
  -- Fact 21: no other site stands on a line of a site without volumes, so that such a site may get some
  pub alone : (i : ℕ) → IsMade (w.nodes i) → LeadsAlone (w.nodes (w.nodes i).line.origin) i (w.nodes i)
