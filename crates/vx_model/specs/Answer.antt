-- What a call on replicated volumes is answered, by their content alone.
use Rattle.std.specs.Prelude.{ℕ, ◌+◌, ◌||◌, Bool, List, eqb, ltb, if◌then◌else◌}
use Rattle.vx_model.specs.declared.limits.TheConstants.{MOST_CALL_BLOCKS}
use Rattle.vx_model.specs.Content.{Content, blocks_from, blocks_in}
use Rattle.vx_model.specs.declared.call.Call.{Call}
use Rattle.vx_model.specs.declared.call.Call.TheVariants.{Read, Write as WriteBlocks}

pub data Answer : Type 0 where
  -- these blocks
  Shows : (blocks : List (List ℕ)) → Answer
  -- the write is done
  Accepts : Answer
  -- refusal 4
  WrongSize : Answer
  -- refusal 3
  OutOfRange : Answer

-- a read or write has 1 to 16 blocks
abbrev pub is_wrong_count : ℕ → Bool
is_wrong_count count = eqb count 0 || ltb MOST_CALL_BLOCKS count

-- the blocks end past the volume
abbrev pub is_past : Content → ℕ → ℕ → ℕ → Bool
is_past c volume start count = ltb (c.size volume) (start + count)

-- a record of so many blocks and its header is larger than the ring
abbrev pub is_too_large : ℕ → ℕ → Bool
is_too_large ring count = ltb ring (count + 1)

-- the answer of a call, over a log whose ring has so many blocks
abbrev pub answer_of : Content → ℕ → Call → Answer
answer_of c ring (Read volume start count) =
    if is_wrong_count count then WrongSize
    else if is_past c volume start count then OutOfRange
    else Shows (blocks_from c volume start count)
answer_of c ring (WriteBlocks volume start bytes) =
    if is_wrong_count (blocks_in bytes) || is_too_large ring (blocks_in bytes) then WrongSize
    else if is_past c volume start (blocks_in bytes) then OutOfRange
    else Accepts
