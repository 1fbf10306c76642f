-- `put_zeros`: its result.
use Rattle.std.proofs.Common.{arith, length, ◌≡◌, ◌∙◌, ◌+◌, ◌-◌, ap, ℕ, take, drop}
use Rattle.std.proofs.lemmas.List.{length-replicate, length-take, length-drop}
use Rattle.vx_wire.specs.Fields.{zero_bytes}
use Rattle.vx_wire.proofs.PlaceLemmas.{put_mid-whole}
use Rattle.vx_wire.proofs.bytes.put_zeros.Goals as goal

pub returns : goal.returns
returns c =
    let k : ℕ = c.args.at + c.args.count - c.args.at in
    let len : length (zero_bytes c.args.count) ≡ c.args.count = length-replicate c.args.count 0 in
    let many : length (take k (drop c.args.at c.args.bytes.now)) ≡ c.args.count = omega (arith, length-take k (drop c.args.at c.args.bytes.now), length-drop c.args.at c.args.bytes.now) in
    put_mid-whole c.args.at _ (zero_bytes c.args.count) c.args.bytes.now _ (omega arith) (omega arith) (c.fill.ensures.after (λ y e. e) ∙ ap zero_bytes many)
