-- A name as the program keeps it.
use Rattle.std.specs.Prelude.{◌≡◌, ℕ, ◌<◌, List, length}
use Rattle.std.proofs.Common.{◌≤◌, ap, sym, arith, take}
use Rattle.std.proofs.lemmas.List.{length-take}
use Rattle.vx_model.specs.declared.limits.TheConstants.{MOST_NAME_BYTES}
use Rattle.vx_model.specs.Kept.{front, padded, IsPadded}
use Rattle.vx_model.specs.declared.name.Name.TheInside.{Inside}

pub record IsName (len : ℕ) (bytes : List ℕ) : Type 0 where
  pub some : 0 < len
  pub kept : IsPadded MOST_NAME_BYTES len bytes

abbrev made : List ℕ → ℕ → Inside
made bytes len = record { bytes = bytes; len = len }

pub padded-front : (a : Inside) → IsName a.len a.bytes → made (padded MOST_NAME_BYTES (front a.len a.bytes)) (length (front a.len a.bytes)) ≡ a
padded-front a h =
    let few : a.len ≤ length a.bytes = omega (arith, h.kept.few, h.kept.whole) in
    let e : length (take a.len a.bytes) ≡ a.len = omega (arith, length-take a.len a.bytes) in
    rw e (ap (λ (b : List ℕ). made b a.len) (sym h.kept.rest))
