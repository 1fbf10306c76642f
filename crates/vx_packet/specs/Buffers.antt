-- Bytes of fixed room.
use Rattle.std.specs.Prelude.{◌≡◌, ℕ, ◌*◌, ◌%◌, ◌<◌, ◌≤◌, List, length}
use Rattle.vx_model.specs.declared.limits.TheConstants.{BLOCK}

-- 1 to so many whole blocks
pub record AreWholeBlocks (most : ℕ) (bytes : List ℕ) : Type 0 where
  pub some : 0 < length bytes
  pub few : length bytes ≤ BLOCK * most
  pub whole : length bytes % BLOCK ≡ 0
