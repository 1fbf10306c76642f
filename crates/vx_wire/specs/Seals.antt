-- Digests and sealed blocks.
use Rattle.std.specs.Prelude.{◌≡◌, ℕ, ◌-◌, List, ◌++◌, length, take, drop}
use Rattle.sha2.specs.Sha256.{sha256}
use Rattle.vx_wire.specs.Fields.{zero_bytes}
use Rattle.vx_wire.specs.declared.sealed.BrokenSeal.{BrokenSeal}

-- the digest of bytes, which is SHA-256
unfoldable pub digest_of : List ℕ → List ℕ
digest_of bytes = sha256 bytes

-- the 480 bytes of fields with zeros behind them
unfoldable pub filled : List ℕ → List ℕ
filled fields = fields ++ zero_bytes (480 - length fields)

-- these fields as a sealed block: with zeros behind them and the digest of both
unfoldable pub sealed : List ℕ → List ℕ
sealed fields = filled fields ++ digest_of (filled fields)

-- the digest at the end of a block is that of the bytes before it
abbrev pub IsSealed : List ℕ → Type 0
IsSealed block = drop 480 block ≡ digest_of (take 480 block)

-- the digest at the end of a block, and another one of the bytes before it
pub record IsBroken (block : List ℕ) (broken : BrokenSeal) : Type 0 where
  pub stored : broken.stored ≡ drop 480 block
  pub computed : broken.computed ≡ digest_of (take 480 block)
  pub differ : IsSealed block → ⊥
