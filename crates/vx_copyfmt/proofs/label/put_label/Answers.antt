-- `put_label`: its result.
use Rattle.std.proofs.Common.{arith, ◌≡◌, ◌≤◌, ◌∙◌, ◌++◌, ap, List, ℕ, length, take}
use Rattle.vx_wire.specs.Seals.{filled, sealed, digest_of}
use Rattle.vx_wire.proofs.SealLemmas.{length-filled}
use Rattle.vx_copyfmt.specs.Labels.{label_fields, label_block}
use Rattle.vx_wire.proofs.PlaceLemmas.{take-put_at}
use Rattle.vx_copyfmt.proofs.LabelLemmas.{length-label_table}
use Rattle.vx_copyfmt.proofs.label.put_label.Goals as goal

pub returns : goal.returns
unfolding label_block sealed
returns c =
    let front : List ℕ = filled (label_fields c.args.label.now) in
    let few : length (label_fields c.args.label.now) ≤ 480 = omega (arith, length-label_table c.args.label.now) in
    let len : length front ≡ 480 = length-filled (label_fields c.args.label.now) few in
    let put : take 480 c.put_front.new.into ≡ front = ap (take 480) c.put_front.ensures ∙ take-put_at 480 front c.args.into.now len in
    record {
      typed = c.is_typed.ensures;
      is = c.seal.ensures ∙ ap (λ (t : List ℕ). t ++ digest_of t) put;
    }
