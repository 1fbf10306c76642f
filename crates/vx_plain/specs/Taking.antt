-- What a peer that takes what it is handed stands for.
use Rattle.std.specs.Prelude.{◌≡◌, ◌⊎◌, ℕ, ◌+◌, ◌<◌, List, [], ◌∷◌, ◌++◌, length, slice_get, Some}
use Rattle.vx_model.specs.declared.call.Update.{Update}
use Rattle.vx_settle.specs.declared.peer.Stand.{Stand}
use Rattle.vx_settle.specs.Peers.{LiesIn}
use Rattle.vx_plain.specs.Logging.{RaisesCount}
use Rattle.vx_plain.specs.declared.small.TheConstants.{VOLUME_BLOCKS}
use Rattle.vx_plain.specs.declared.taker.Taker.{Taker}

abbrev pub stand_of : Taker → Stand
stand_of p = record { link = p.link; line = record { generation = 0; origin = 0 }; sizes = VOLUME_BLOCKS ∷ []; net = length p.handed.items; stored = length p.handed.items; faults = p.faults; handed = p.handed.items }

-- what no call changes of it
abbrev pub root_of : Taker → Taker
root_of p = record { link = p.link; most = p.most; faults = 0; handed = p.first.value; first = p.first }

-- the update is the one behind so many, on the line and within the volume
abbrev pub IsNextUpdate : ℕ → Update → Type 0
IsNextUpdate net u = (u.line ≡ record { generation = 0; origin = 0 }) × (u.number ≡ net + 1) × LiesIn (VOLUME_BLOCKS ∷ []) u

-- an update that is the next one is taken, or counts a fault, and nothing else changes
pub record TakesNextUpdate (s : Taker) (u : Update) (t : Taker) : Type 0 where
  pub link : t.link ≡ s.link
  pub most : t.most ≡ s.most
  pub first : t.first ≡ s.first
  pub how : ((t.handed.items ≡ s.handed.items) × (t.faults ≡ s.faults) × (IsNextUpdate (length s.handed.items) u → ⊥))
      ⊎ (((t.handed.items ≡ s.handed.items) × RaisesCount s.faults t.faults) ⊎ ((t.handed.items ≡ s.handed.items ++ u ∷ []) × (t.faults ≡ s.faults) × IsNextUpdate (length s.handed.items) u))

-- each is of one of two links
abbrev pub TakersOfTwo : List Taker → Type 0
TakersOfTwo peers = (i : ℕ) (p : Taker) → slice_get peers i ≡ Some p → p.link < 2
