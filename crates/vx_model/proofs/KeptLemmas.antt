-- Bytes put over the front of zeros.
use Rattle.std.proofs.Common.{◌≡◌, ◌≤◌, ◌<◌, ◌%◌, ℕ, List, ◌++◌, length, drop, replicate, arith, length-append}
use Rattle.std.proofs.lemmas.List.{take_at, drop-replicate, length-replicate}
use Rattle.vx_model.specs.Kept.{IsPadded}
use Rattle.vx_model.specs.BlockLists.{IsBlockList}

pub IsPadded-front : (size n : ℕ) (xs : List ℕ) → n ≤ size → length xs ≡ n → IsPadded size n (xs ++ drop n (replicate size 0))
IsPadded-front size n xs few e = record {
  few = few;
  whole = rw (length-append, drop-replicate, length-replicate) (omega arith);
  rest = rw (take_at xs (drop n (replicate size 0)) n e, drop-replicate);
}

pub IsBlockList-front : (n : ℕ) (xs : List ℕ) → 0 < n → n % 512 ≡ 0 → n ≤ 8192 → length xs ≡ n → IsBlockList n (xs ++ drop n (replicate 8192 0))
IsBlockList-front n xs some whole few e = record { some = some; whole = whole; kept = IsPadded-front 8192 n xs few e }
