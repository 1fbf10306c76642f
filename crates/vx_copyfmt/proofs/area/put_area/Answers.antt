-- `put_area`: its result.
use Rattle.std.proofs.Common.{arith, ◌≡◌, ◌≤◌, ◌∙◌, ◌++◌, ap, List, ℕ, length, take}
use Rattle.vx_wire.specs.Seals.{filled, sealed, digest_of}
use Rattle.vx_wire.proofs.SealLemmas.{length-filled}
use Rattle.vx_copyfmt.specs.Areas.{area_fields, area_block}
use Rattle.vx_wire.proofs.PlaceLemmas.{take-put_at}
use Rattle.vx_copyfmt.proofs.AreaLemmas.{length-area_fields}
use Rattle.vx_copyfmt.proofs.area.put_area.Goals as goal

pub returns : goal.returns
unfolding area_block sealed
returns c =
    let front : List ℕ = filled (area_fields c.args.h.now) in
    let few : length (area_fields c.args.h.now) ≤ 480 = omega (arith, length-area_fields c.args.h.now c.is_typed.ensures) in
    let len : length front ≡ 480 = length-filled (area_fields c.args.h.now) few in
    let put : take 480 c.put_front.new.into ≡ front = ap (take 480) c.put_front.ensures ∙ take-put_at 480 front c.args.into.now len in
    record {
      can = c.requires;
      typed = c.is_typed.ensures;
      is = c.seal.ensures ∙ ap (λ (t : List ℕ). t ++ digest_of t) put;
    }
