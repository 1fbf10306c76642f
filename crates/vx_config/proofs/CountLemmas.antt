-- Counts that use up room.
use Rattle.std.proofs.Common.{◌≡◌, ℕ, ◌-◌, refl, Option, Some, None, Bool, true, false, cond}
use Rattle.std.specs.Prelude.{is_some, nat_le}
use Rattle.vx_config.specs.Configs.{left_of}

abbrev some : ℕ → Option ℕ
some n = Some n

-- something is left where there is room
pub is_some-left : (room n : ℕ) → is_some (left_of room n) ≡ nat_le n room
is_some-left room n = by (nat_le n room) where
  by : (b : Bool) → is_some (cond b (some (room - n)) None) ≡ b
  by true = refl
  by false = refl
