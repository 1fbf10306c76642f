-- `put_front`: its result; what `put_fields` asks.
use Rattle.std.proofs.Common.{arith, ◌≡◌, ◌-◌, ◌∙◌, ◌++◌, ap, sym, List, ℕ, length}
use Rattle.vx_wire.specs.Fields.{spelled, zero_bytes}
use Rattle.vx_wire.specs.Places.{put_at}
use Rattle.vx_wire.specs.Seals.{filled}
use Rattle.vx_wire.proofs.PlaceLemmas.{put_at-put_at}
use Rattle.vx_copyfmt.specs.Labels.{label_table, label_fields}
use Rattle.vx_copyfmt.proofs.LabelLemmas.{length-label_table}
use Rattle.vx_copyfmt.proofs.label.put_front.Goals as goal

pub put_fields-requires : goal.put_fields-requires
put_fields-requires c =
    let same : length (spelled c.table.result) ≡ length (spelled (label_table c.args.label.now)) = ap (λ t. length (spelled t)) c.table.ensures in
    omega (arith, same, length-label_table c.args.label.now)

pub returns : goal.returns
unfolding filled
returns c =
    let old : List ℕ = c.args.into.now in
    let fields : List ℕ = label_fields c.args.label.now in
    let wide : length fields ≡ 28 = length-label_table c.args.label.now in
    let first : c.put_fields.new.bytes ≡ put_at 0 fields old = c.put_fields.ensures.written ∙ ap (λ t. put_at 0 (spelled t) old) c.table.ensures in
    let left : 480 - length fields ≡ 452 = omega arith in
    let rest : zero_bytes (480 - length fields) ≡ zero_bytes 452 = ap zero_bytes left in
    c.put_zeros.ensures ∙ ap (put_at 28 (zero_bytes 452)) first ∙ put_at-put_at 0 28 fields (zero_bytes 452) old (omega arith) (omega arith)
    ∙ ap (λ (t : List ℕ). put_at 0 (fields ++ t) old) (sym rest)
