-- What the threads of a burst have done.
use Rattle.std.specs.Prelude.{◌≡◌, ℕ, ◌<◌, List, length, slice_index_or}
use Rattle.atomic_table.specs.Seated.{TableId}
use Rattle.vx_turn.specs.Passing.{table_id_of}
use Rattle.vx_settle.specs.declared.peer.Stand.{Stand}
use Rattle.vx_burst_threads.specs.declared.plan.Planned.{Planned}
use Rattle.vx_burst_threads.specs.declared.worker.Worker.{Worker}
use Rattle.vx_burst_threads.specs.declared.worker.Worker.TheVariants.{Writes, Drains}
use Rattle.vx_burst_threads.specs.Writing.{IsWriterReady, WriterWrote}
use Rattle.vx_burst_threads.specs.Draining.{IsLinked, DrainedWith}

module _ {P : Type 0} where
  -- a worker that has room for what it is to do, on the turn of this table
  abbrev pub IsSet : (P → Stand) → TableId → List Planned → Worker P → Type 0
  IsSet stand z plan (Writes w) = IsWriterReady z plan w
  IsSet stand z plan (Drains d) = (table_id_of d.pass ≡ z) × IsLinked d.pass (stand d.peer)

  abbrev pub AllSet : (P → Stand) → TableId → List Planned → List (Worker P) → Type 0
  AllSet stand z plan ws = (i : ℕ) (w : Worker P) → i < length ws → slice_index_or ws i w ≡ w → IsSet stand z plan w

  abbrev pub HasWorked : (P → Stand) → (P → P) → List Planned → Worker P → Worker P → Type 0
  HasWorked stand root plan (Writes w) (Writes x) = WriterWrote plan w x
  HasWorked stand root plan (Drains w) (Drains x) = DrainedWith stand root w x
  HasWorked stand root plan w x = ⊥

  -- each worker did its own work
  abbrev pub EachWorked : (P → Stand) → (P → P) → List Planned → List (Worker P) → List (Worker P) → Type 0
  EachWorked stand root plan ws xs = (length xs ≡ length ws) × ((i : ℕ) (d : Worker P) → i < length ws → HasWorked stand root plan (slice_index_or ws i d) (slice_index_or xs i d))
