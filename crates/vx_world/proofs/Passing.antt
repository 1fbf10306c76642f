-- What is said of an event, past the tests before it.
use Rattle.std.proofs.Common.{◌≡◌, subst}
use Rattle.std.specs.Prelude.{Result, IfOk}
use Rattle.vx_history.specs.World.{World}
use Rattle.vx_history.specs.Refusals.{Outcome, says}
use Rattle.vx_model.specs.declared.errors.OutOfMemory.{OutOfMemory}
use Rattle.vx_history.specs.declared.event.Said.{Said}

-- the same outcome, said otherwise
pub passed : (r : Result Said OutOfMemory) (v : World) (o p : Outcome) → o ≡ p → IfOk r (λ said. says v said ≡ o) → IfOk r (λ said. says v said ≡ p)
passed r v o p e h = subst (λ (x : Outcome). IfOk r (λ said. says v said ≡ x)) e h
