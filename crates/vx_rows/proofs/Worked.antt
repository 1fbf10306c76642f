-- The definitions of content, fold and answer on small inputs, against values worked by hand.
use Rattle.std.proofs.Common.{◌≡◌, ◌*◌, ℕ, [], ◌∷◌, refl}
use Rattle.std.specs.Prelude.{replicate}
use Rattle.vx_model.specs.Answer.{answer_of, Shows, Accepts, WrongSize, OutOfRange}
use Rattle.vx_model.specs.Content.{Write, Content, fold_writes, zeros, zero_block}
use Rattle.vx_model.specs.declared.call.Call.TheVariants.{Read, Write as WriteBlocks}

-- two volumes of 64 blocks
abbrev small : Content
small = zeros (λ v. 64)

abbrev filled : ℕ → ℕ → ℕ → Write
filled start count byte = record { volume = 0; start = start; bytes = replicate (count * 512) byte }

-- a block that was written, its neighbour, and the same block of the other volume
written : (fold_writes small (filled 3 1 0x5a ∷ [])).block 0 3 ≡ replicate 512 0x5a
written = refl

beside : (fold_writes small (filled 3 1 0x5a ∷ [])).block 0 4 ≡ zero_block
beside = refl

elsewhere : (fold_writes small (filled 3 1 0x5a ∷ [])).block 1 3 ≡ zero_block
elsewhere = refl

-- the later of two writes stands
later : (fold_writes small (filled 0 2 1 ∷ filled 1 2 2 ∷ [])).block 0 1 ≡ replicate 512 2
later = refl

earlier : (fold_writes small (filled 0 2 1 ∷ filled 1 2 2 ∷ [])).block 0 0 ≡ replicate 512 1
earlier = refl

-- a write past the end changes nothing
past : (fold_writes small (filled 63 2 1 ∷ [])).block 0 63 ≡ zero_block
past = refl

last : (fold_writes small (filled 63 1 1 ∷ [])).block 0 63 ≡ replicate 512 1
last = refl

-- the answers of calls on volumes of 64 blocks over a ring of 62
answers_last : answer_of small 62 (WriteBlocks 0 63 (replicate 512 1)) ≡ Accepts
answers_last = refl

answers_past : answer_of small 62 (WriteBlocks 0 63 (replicate 1024 1)) ≡ OutOfRange
answers_past = refl

answers_none : answer_of small 62 (WriteBlocks 0 0 []) ≡ WrongSize
answers_none = refl

answers_many : answer_of small 62 (WriteBlocks 0 0 (replicate 8704 1)) ≡ WrongSize
answers_many = refl

answers_full : answer_of small 62 (WriteBlocks 0 0 (replicate 8192 2)) ≡ Accepts
answers_full = refl

-- sixteen blocks and a header do not fit a ring of sixteen
answers_large : answer_of small 16 (WriteBlocks 0 0 (replicate 8192 2)) ≡ WrongSize
answers_large = refl

answers_read : answer_of (fold_writes small (filled 3 1 0x5a ∷ [])) 62 (Read 0 3 2) ≡ Shows (replicate 512 0x5a ∷ zero_block ∷ [])
answers_read = refl
