-- The blocks of a read or write, as the program keeps them.
use Rattle.std.specs.Prelude.{◌≡◌, ℕ, ◌<◌, ◌%◌, List, length}
use Rattle.std.proofs.Common.{◌≤◌, ap, sym, arith, take}
use Rattle.std.proofs.lemmas.List.{length-take}
use Rattle.vx_model.specs.declared.limits.TheConstants.{BLOCK, MOST_CALL_BYTES}
use Rattle.vx_model.specs.Kept.{front, padded, IsPadded}
use Rattle.vx_model.specs.declared.block_list.Blocks.TheInside.{Inside}

pub record IsBlockList (len : ℕ) (bytes : List ℕ) : Type 0 where
  pub some : 0 < len
  pub whole : len % BLOCK ≡ 0
  pub kept : IsPadded MOST_CALL_BYTES len bytes

abbrev made : List ℕ → ℕ → Inside
made bytes len = record { bytes = bytes; len = len }

pub padded-front : (a : Inside) → IsBlockList a.len a.bytes → made (padded MOST_CALL_BYTES (front a.len a.bytes)) (length (front a.len a.bytes)) ≡ a
padded-front a h =
    let few : a.len ≤ length a.bytes = omega (arith, h.kept.few, h.kept.whole) in
    let e : length (take a.len a.bytes) ≡ a.len = omega (arith, length-take a.len a.bytes) in
    rw e (ap (λ (b : List ℕ). made b a.len) (sym h.kept.rest))
