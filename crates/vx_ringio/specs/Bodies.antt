-- The body of a record, as bytes.
use Rattle.std.specs.Prelude.{◌≡◌, ℕ, ◌/◌, ◌≤◌, ◌<◌, ◌%◌, List, length}
use Rattle.vx_model.specs.declared.limits.TheConstants.{BLOCK, MOST_CALL_BYTES}
use Rattle.vx_wire.specs.Seals.{digest_of}
use Rattle.vx_srlfmt.specs.declared.record.RecordHead.{RecordHead}
use Rattle.vx_ringlog.specs.Records.{with_firsts, first_blocks}
use Rattle.vx_ringio.specs.declared.body.Body.{Body}
use Rattle.vx_ringio.specs.declared.body.Body.TheVariants.{Whole, Differs}

-- all of them
abbrev pub all_blocks : List ℕ → List (List ℕ)
all_blocks bytes = first_blocks (length bytes / BLOCK) bytes

-- the bytes are 1 to 16 whole blocks
pub record IsBlocks (bytes : List ℕ) : Type 0 where
  pub some : 0 < length bytes
  pub few : length bytes ≤ MOST_CALL_BYTES
  pub whole : length bytes % BLOCK ≡ 0

-- the bytes as they were given, from those that stand on disk
abbrev pub given_of : RecordHead → List ℕ → List ℕ
given_of head bytes = with_firsts head.firsts (all_blocks bytes)

-- what is said of a body that was read, by the header of its record
abbrev pub BodyIs : RecordHead → List ℕ → List ℕ → Body → Type 0
BodyIs head disk given Whole = (given ≡ given_of head disk) × (head.digest ≡ digest_of given)
BodyIs head disk given (Differs stored computed) = (stored ≡ head.digest) × (computed ≡ digest_of (given_of head disk)) × (stored ≡ computed → ⊥)
