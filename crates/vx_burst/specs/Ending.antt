-- What the threads of a burst leave.
use Rattle.std.specs.Prelude.{◌≡◌, ℕ, suc, List, [], length, slice_get, Some}
use Rattle.vx_turn.specs.declared.meaning.Entry.{Entry}
use Rattle.vx_settle.specs.Bringing.{Events}
use Rattle.vx_burst.specs.Finishing.{BurstStage, ArePlaced, LeadsHistory, IsWaited}
use Rattle.atomic_table.specs.Seated.{TableId}
use Rattle.vx_turn.specs.declared.passes.Pass.{Pass}
use Rattle.vx_turn.specs.declared.meaning.State.{State}
use Rattle.vx_turn.specs.Passing.{IsNewPass, ClosesTurn}
use Rattle.vx_settle.specs.declared.peer.Stand.{Stand}
use Rattle.vx_burst_threads.specs.declared.plan.Planned.{Planned}
use Rattle.vx_burst_threads.specs.declared.plan.Answered.{Answered}
use Rattle.vx_burst_threads.specs.declared.worker.Worker.{Worker}
use Rattle.vx_burst_threads.specs.Joining.{backs, WorkedAndMet}
use Rattle.vx_burst.specs.Setting.{AreSetUp}

-- a worker for each caller but the last was set up for these peers, all worked and were met by the last pass, and it ended the turn
pub record HasJoined {E P : Type 0} (stand : P → Stand) (root : P → P) (state : E → State) (base : E → E) (first : E) (z : TableId) (callers : ℕ) (plan : List Planned) (firsts : List P) (olds : List Answered) (engine : E) (out : List P) (news : List Answered) : Type 0 where
  pub ws : List (Worker P)
  pub set : AreSetUp stand z (state first) callers plan ws
  pub back : backs ws ≡ firsts
  pub all : callers ≡ suc (length ws)
  pub pass : Pass
  pub own : IsNewPass z (state first) callers (length ws) pass
  pub last : Pass
  pub worked : WorkedAndMet stand root plan pass [] ws olds last out news
  pub closes : ClosesTurn state base first last engine

-- the whole burst: one legal history leads from the engine that was handed in to the one that comes back; the answers have the places 1 to
-- the plan's length among the calls of it that stay, which are a legal history too, and each that is logged was waited for
pub record Ran {E P : Type 0} (stand : P → Stand) (root : P → P) (state : E → State) (base : E → E) (plan : List Planned) (first : E) (firsts : List P) (engine : E) (peers : List P) (answers : List Answered) : Type 0 where
  pub log : List Entry
  pub stays : Events
  pub stage : BurstStage stand root (state first) firsts plan log (state engine) peers answers (length plan) stays
  pub placed : ArePlaced answers (length plan)
  pub leads : LeadsHistory (state first) stays (state engine)
  pub waited : (k : ℕ) (a : Answered) → slice_get answers k ≡ Some a → IsWaited stand root (state first) firsts log (state engine) peers a
  pub rooted : base engine ≡ base first
