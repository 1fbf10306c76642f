-- What the caller knows once it has met all.
use Rattle.std.specs.Prelude.{◌≡◌, ℕ, List, [], ◌∷◌, ◌++◌}
use Rattle.atomic_table.specs.Seated.{TableId}
use Rattle.vx_turn.specs.declared.passes.Pass.{Pass}
use Rattle.vx_turn.specs.Acting.{LiesAmong}
use Rattle.vx_turn.specs.History.{BeginsWith}
use Rattle.vx_turn.specs.Passing.{seen_of, start_of, mine_of, met_of, callers_of, table_id_of, IsSame}
use Rattle.vx_settle.specs.declared.peer.Stand.{Stand}
use Rattle.vx_burst_threads.specs.declared.plan.Planned.{Planned}
use Rattle.vx_burst_threads.specs.declared.plan.Answered.{Answered}
use Rattle.vx_burst_threads.specs.declared.writer.Made.{Made}
use Rattle.vx_burst_threads.specs.declared.writer.Writer.{Writer}
use Rattle.vx_burst_threads.specs.declared.worker.Worker.{Worker}
use Rattle.vx_burst_threads.specs.declared.worker.Worker.TheVariants.{Writes, Drains}
use Rattle.vx_burst_threads.specs.Laying.{LaidWith}
use Rattle.vx_burst_threads.specs.Working.{EachWorked}

module _ {P : Type 0} where
  abbrev pub pass_of : Worker P → Pass
  pass_of (Writes w) = w.pass
  pass_of (Drains d) = d.pass

  abbrev pub AllOf : TableId → List (Worker P) → Type 0
  AllOf z ws = (w : Worker P) → LiesAmong w ws → table_id_of (pass_of w) ≡ z

  -- one of the writers made this
  abbrev pub IsMadeBy : List (Worker P) → Made → Type 0
  IsMadeBy ws m = (x : Writer) × LiesAmong (Writes x) ws × LiesAmong m x.made.items

  -- the peers of the workers, the last worker's first
  abbrev pub backs : List (Worker P) → List P
  backs [] = []
  backs (Writes w ∷ ws) = backs ws
  backs (Drains d ∷ ws) = backs ws ++ d.peer ∷ []

  -- q is p, which has seen what each worker saw, and stands for its callers
  pub record Meeting (p : Pass) (peers : List P) (ws : List (Worker P)) (q : Pass) (out : List P) : Type 0 where
    pub same : IsSame p q
    pub start : start_of q ≡ start_of p
    pub callers : callers_of q ≡ callers_of p
    pub mine : mine_of q ≡ mine_of p
    pub begins : BeginsWith (seen_of p) (seen_of q)
    pub each : (w : Worker P) → LiesAmong w ws → BeginsWith (seen_of (pass_of w)) (seen_of q) × LiesAmong ((pass_of w).number, mine_of (pass_of w)) (met_of q)
    pub old : (x : ℕ × List ℕ) → LiesAmong x (met_of p) → LiesAmong x (met_of q)
    pub back : out ≡ peers ++ backs ws

  -- the workers ws became some xs, each by its own work, all were met, and what they made was laid
  pub record WorkedAndMet (stand : P → Stand) (root : P → P) (plan : List Planned) (p : Pass) (peers : List P) (ws : List (Worker P)) (olds : List Answered) (q : Pass) (out : List P) (bs : List Answered) : Type 0 where
    pub xs : List (Worker P)
    pub worked : EachWorked stand root plan ws xs
    pub met : Meeting p peers xs q out
    pub laid : LaidWith (IsMadeBy xs) olds bs
