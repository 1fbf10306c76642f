-- What a world keeps of an earlier one, whatever happens.
use Rattle.std.specs.Prelude.{◌≡◌, ℕ, ◌≤◌, List, ◌++◌}
use Rattle.vx_model.specs.Content.{IsPrefixOf}
use Rattle.vx_history.specs.World.{Packet, Promise, World}
use Rattle.vx_history.specs.Good.{IsMade}
use Rattle.vx_history.specs.Sound.{CameTo}
use Rattle.vx_model.specs.declared.history.Line.{Line}

-- v is w after some events: what a line holds only grows and what was answered on it only rises, once the site that begins it is more
-- than bare, as it then stays; who came to a line came to it; and all that was sent or promised was
pub record GrownWorld (w v : World) : Type 0 where
  pub held : (l : Line) → IsMade (w.nodes l.origin) → IsPrefixOf (w.lines l).held (v.lines l).held
  pub told : (l : Line) → IsMade (w.nodes l.origin) → (w.lines l).told ≤ (v.lines l).told
  pub made : (i : ℕ) → IsMade (w.nodes i) → IsMade (v.nodes i)
  pub came : (i : ℕ) → IsMade (w.nodes i) → (l : Line) → CameTo w.nodes l i → CameTo v.nodes l i
  pub sent : (more : List Packet) × (v.packets ≡ w.packets ++ more)
  pub promised : (more : List Promise) × (v.promised ≡ w.promised ++ more)
