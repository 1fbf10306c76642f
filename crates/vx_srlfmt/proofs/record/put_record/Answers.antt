-- `put_record`: its result.
use Rattle.std.proofs.Common.{arith, ◌≡◌, ◌≤◌, ◌∙◌, ◌++◌, ap, List, ℕ, length, take}
use Rattle.vx_wire.specs.Seals.{filled, sealed, digest_of}
use Rattle.vx_wire.proofs.SealLemmas.{length-filled}
use Rattle.vx_srlfmt.specs.Records.{record_fields, record_block}
use Rattle.vx_wire.proofs.PlaceLemmas.{take-put_at}
use Rattle.vx_srlfmt.proofs.RecordAgain.{length-record_fields}
use Rattle.vx_srlfmt.proofs.record.put_record.Goals as goal

pub returns : goal.returns
unfolding record_block sealed
returns c =
    let front : List ℕ = filled (record_fields c.args.h.now) in
    let few : length (record_fields c.args.h.now) ≤ 480 = omega (arith, length-record_fields c.args.h.now c.is_typed.ensures) in
    let len : length front ≡ 480 = length-filled (record_fields c.args.h.now) few in
    let put : take 480 c.put_front.new.into ≡ front = ap (take 480) c.put_front.ensures ∙ take-put_at 480 front c.args.into.now len in
    record {
      can = c.requires;
      typed = c.is_typed.ensures;
      is = c.seal.ensures ∙ ap (λ (t : List ℕ). t ++ digest_of t) put;
    }
