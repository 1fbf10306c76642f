-- When a write goes.
use Rattle.std.specs.Prelude.{◌≡◌, ℕ, ◌+◌, ◌<◌, ◌≤◌, List}
use Rattle.vx_model.specs.Content.{Write, blocks_in}
use Rattle.vx_model.specs.declared.limits.TheConstants.{MOST_NUMBER}
use Rattle.vx_history.specs.Admission.{Goes}
use Rattle.vx_history.specs.Events.{admitted}
use Rattle.vx_history.specs.World.{World}
use Rattle.vx_history.specs.declared.admission.Change.{Change}
use Rattle.vx_events.proofs.Passing.{IsCall}

-- it finds its volume at a primary that is up, has room and a number, and the links of its site let it in
pub record IsLetIn (w : World) (s : ℕ) (x : Write) : Type 0 where
  pub call : IsCall w s x.volume x.start (blocks_in x.bytes)
  pub fits : blocks_in x.bytes + 1 ≤ (w.nodes s).ring
  pub free : (w.nodes s).safe < MOST_NUMBER
  pub changes : List Change
  pub goes : admitted w s x ≡ Goes changes
