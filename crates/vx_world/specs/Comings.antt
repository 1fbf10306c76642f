-- A site comes to a line: what it has to show.
use Rattle.std.specs.Prelude.{◌≡◌, ◌≢◌, ℕ, ◌≤◌, false, [], ◌∷◌, ◌++◌}
use Rattle.vx_model.specs.declared.history.Line.{Line}
use Rattle.vx_history.specs.World.{Node, World}
use Rattle.vx_history.specs.Good.{GoodNode, IsMade}
use Rattle.vx_history.specs.Refusals.{is_bunker}
use Rattle.vx_history.specs.Sends.{is_linked}
use Rattle.vx_history.specs.Sound.{has_line, HasCome, LosesNothing, IsFed, TakesUpdates, IsMarked, IsNewest, KnownNode}

-- Site i, which is to be n, comes to the line of n: who began the line stood on it, the site notes the line behind those on which it stood,
-- and of the lines of that origin on which it stood none is newer.
pub record MayCome (w : World) (i : ℕ) (n : Node) : Type 0 where
  pub began : IsMade (w.nodes n.line.origin)
  pub named : n.line.generation ≤ (w.nodes n.line.origin).top
  pub tops : (w.nodes i).top ≤ n.top
  pub topped : n.line.generation ≤ n.top
  pub notes : n.stood ≡ (w.nodes i).stood ++ n.line ∷ []
  pub rises : (line : Line) → HasCome w.nodes i line → line.origin ≡ n.line.origin → line.generation ≤ n.line.generation

-- It comes for the first time. It is no bunker, keeps no link, and did not begin the line. What it has of the line is as good as what any
-- site has of it, and it has nothing where it is a stranger there.
pub record MayComeFirst (w : World) (i : ℕ) (n : Node) : Type 0 where
  pub comes : MayCome w i n
  pub new : has_line (w.nodes i).stood n.line ≡ false
  pub made : IsMade (w.nodes i)
  pub stays : IsMade n
  pub elsewhere : n.line.origin ≢ i
  pub session : (w.nodes i).session ≤ n.session
  pub alone : (k : ℕ) → is_linked (w.links i k) ≡ false
  pub plain : is_bunker (w.nodes i).role ≡ false
  pub good : GoodNode (w.lines n.line) i n
  pub whole : LosesNothing n
  pub fed : IsFed n
  pub takes : TakesUpdates n
  pub marked : IsMarked n
  pub newest : IsNewest n
  pub known : KnownNode w.nodes w.links i n
