-- A link that is settled over disks that tell no contents.
use Rattle.std.specs.Prelude.{◌≡◌, ◌⊎◌, ℕ, Bool, true, false}
use Rattle.vx_history.specs.World.{DataAck, Hello, Message, NetAck, Packet, Update, World}
use Rattle.vx_events.specs.Settles.{CanSettle}

abbrev pub is_update : Message → Bool
is_update (Hello session number stored) = false
is_update (Update number x) = true
is_update (NetAck session number) = false
is_update (DataAck number) = false

-- a packet that settling sends: a part of an update from p to s, or an answer or a greeting of s
abbrev pub IsSent : (p s : ℕ) → Packet → Type 0
IsSent p s q = ((q.source ≡ p) × (q.target ≡ s) × (is_update q.message ≡ true)) ⊎ ((q.source ≡ s) × (is_update q.message ≡ false))

-- What the tests of the line and what holds of every world's links say of a link that may be settled: both sites are at work, and it goes by the log.
pub record MayMove (p s : ℕ) (w : World) : Type 0 where
  pub can : CanSettle w p s
  pub trimmed : (w.links p s).trimmed ≡ 0
