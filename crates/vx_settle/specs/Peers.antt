-- What a peer does with what it is handed.
use Rattle.std.specs.Prelude.{◌≡◌, ◌⊎◌, ℕ, ◌+◌, ◌≤◌, List, [], ◌∷◌, ◌++◌, length, slice_get, Some}
use Rattle.vx_model.specs.Content.{blocks_in}
use Rattle.vx_model.specs.declared.call.Update.{Update}
use Rattle.vx_model.specs.declared.history.Line.{Line}
use Rattle.vx_turn.specs.Acting.{CountRose}
use Rattle.vx_settle.specs.declared.peer.Ack.{Ack}
use Rattle.vx_settle.specs.declared.peer.Stand.{Stand}

-- the update lies within volumes of these sizes
abbrev pub LiesIn : List ℕ → Update → Type 0
LiesIn sizes u = (size : ℕ) × (slice_get sizes u.vol ≡ Some size) × (u.block + blocks_in u.bytes ≤ size)

-- what no call changes of a peer, and what never falls
pub record PeerGoes (s t : Stand) : Type 0 where
  pub link : t.link ≡ s.link
  pub line : t.line ≡ s.line
  pub sizes : t.sizes ≡ s.sizes
  pub faults : s.faults ≤ t.faults
  pub net : s.net ≤ t.net
  pub stored : s.stored ≤ t.stored

-- updates of this line, with the numbers behind n one after another
abbrev pub AreNumbered : Line → (n : ℕ) → List Update → Type 0
AreNumbered l n [] = Unit {0}
AreNumbered l n (u ∷ us) = (u.line ≡ l) × (u.number ≡ n + 1) × AreNumbered l (n + 1) us

-- The peer took these updates: the next ones of its line, of which none is left out, and it has received as many more.
pub record GetsNext (s : Stand) (got : List Update) (t : Stand) : Type 0 where
  pub handed : t.handed ≡ s.handed ++ got
  pub next : AreNumbered s.line s.net got
  pub net : t.net ≡ s.net + length got

-- what a peer does with an update, and what it answers
pub record Hands (s : Stand) (u : Update) (ack : Ack) (t : Stand) : Type 0 where
  pub goes : PeerGoes s t
  pub net : ack.net ≡ t.net
  pub stored : ack.stored ≡ t.stored
  -- it has received no more, or it took the update, which is the line's next one
  pub handed : ((t.net ≡ s.net) × (t.handed ≡ s.handed)) ⊎ GetsNext s (u ∷ []) t
  -- without a fault the line's next number, within the volumes, is received
  pub next : (CountRose s.faults t.faults → ⊥) → u.line ≡ s.line → u.number ≡ s.net + 1 → LiesIn s.sizes u → t.net ≡ s.net + 1

-- what a peer does where it applies everything that waits, and what it answers
pub record Finishes (s : Stand) (ack : Ack) (t : Stand) : Type 0 where
  pub goes : PeerGoes s t
  pub net : ack.net ≡ t.net
  pub stored : ack.stored ≡ t.stored
  pub received : t.net ≡ s.net
  pub handed : t.handed ≡ s.handed
  -- without a fault all that was received is stored
  pub all : (CountRose s.faults t.faults → ⊥) → t.stored ≡ t.net
