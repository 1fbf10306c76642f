-- The workers of a burst before they work, and the memory that they take.
use Rattle.std.specs.Prelude.{◌≡◌, ℕ, ◌+◌, ◌-◌, ◌≤◌, List, [], length, vec_capacity, slice_get, Some}
use Rattle.atomic_table.specs.Seated.{TableId}
use Rattle.vx_turn.specs.declared.meaning.State.{State}
use Rattle.vx_turn.specs.declared.passes.Passes.{Passes}
use Rattle.vx_turn.specs.Passing.{IsNewPass, AreDealt}
use Rattle.vx_settle.specs.declared.peer.Stand.{Stand}
use Rattle.vx_burst_threads.specs.declared.plan.Planned.{Planned}
use Rattle.vx_burst_threads.specs.declared.plan.Answered.{Answered}
use Rattle.vx_burst_threads.specs.declared.worker.Worker.{Worker}
use Rattle.vx_burst_threads.specs.declared.worker.Worker.TheVariants.{Writes, Drains}
use Rattle.vx_burst_threads.specs.Planning.{own_count}
use Rattle.vx_burst_threads.specs.Writing.{IsWriterReady}
use Rattle.vx_burst_threads.specs.Draining.{IsLinked}
use Rattle.vx_burst.specs.declared.rooms.Space.{Space}
use Rattle.vx_burst.specs.declared.rooms.Room.{Room}

-- no answer has a place
abbrev pub AreBlank : List Answered → Type 0
AreBlank answers = (k : ℕ) (a : Answered) → slice_get answers k ≡ Some a → a.place ≡ 0

-- each room is empty, and has space for what its thread may make. The first is that of the last of so many threads
abbrev pub AreThreadRooms : List Planned → ℕ → List Space → Type 0
AreThreadRooms plan threads rooms = (i : ℕ) (r : Space) → slice_get rooms i ≡ Some r → (r.made.items ≡ []) × (own_count (threads - i) plan ≤ vec_capacity r.made)

module _ {P : Type 0} where
  -- all memory of a burst of so many threads and peers
  pub record HasBurstRoom (plan : List Planned) (threads links : ℕ) (r : Room P) : Type 0 where
    pub blank : AreBlank r.answers.items
    pub long : length r.answers.items ≡ length plan
    pub unordered : r.order.items ≡ []
    pub order : length plan ≤ vec_capacity r.order
    pub rooms : AreThreadRooms plan threads r.made.items
    pub made : length r.made.items ≡ threads
    pub idle : r.workers.items ≡ []
    pub workers : threads + links ≤ vec_capacity r.workers
    pub gone : r.peers.items ≡ []
    pub peers : threads + links ≤ vec_capacity r.peers

  -- a worker that has done nothing, with the pass of number i. The writer with this pass is the thread i + 1
  abbrev pub IsSetUp : (P → Stand) → TableId → State → ℕ → List Planned → ℕ → Worker P → Type 0
  IsSetUp stand z start callers plan i (Writes w) = IsNewPass z start callers i w.pass × (w.thread ≡ i + 1) × IsWriterReady z plan w
  IsSetUp stand z start callers plan i (Drains d) = IsNewPass z start callers i d.pass × IsLinked d.pass (stand d.peer)

  abbrev pub AreSetUp : (P → Stand) → TableId → State → ℕ → List Planned → List (Worker P) → Type 0
  AreSetUp stand z start callers plan ws = (i : ℕ) (w : Worker P) → slice_get ws i ≡ Some w → IsSetUp stand z start callers plan i w

  -- so many of the callers have their workers, and the others' passes are left
  pub record Set (stand : P → Stand) (z : TableId) (start : State) (callers : ℕ) (plan : List Planned) (ws : List (Worker P)) (passes : Passes) : Type 0 where
    pub workers : AreSetUp stand z start callers plan ws
    pub dealt : AreDealt z start callers (callers - length ws) passes
    pub below : length ws ≤ callers
