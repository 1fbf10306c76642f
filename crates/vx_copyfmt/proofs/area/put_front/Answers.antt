-- `put_front`: its result; what `put_fields` asks.
use Rattle.std.proofs.Common.{arith, ◌≡◌, ◌-◌, ◌∙◌, ◌++◌, ap, sym, List, ℕ, length}
use Rattle.std.proofs.lemmas.List.{length-append}
use Rattle.vx_wire.specs.Fields.{spelled, zero_bytes}
use Rattle.vx_wire.specs.Places.{put_at}
use Rattle.vx_wire.specs.Seals.{filled}
use Rattle.vx_wire.proofs.PlaceLemmas.{put_at-put_at}
use Rattle.vx_copyfmt.specs.Areas.{area_table, area_fields}
use Rattle.vx_copyfmt.proofs.AreaLemmas.{length-area_table}
use Rattle.vx_copyfmt.proofs.area.put_front.Goals as goal

pub put_fields-requires : goal.put_fields-requires
put_fields-requires c =
    let same : length (spelled c.table.result) ≡ length (spelled (area_table c.args.h.now)) = ap (λ t. length (spelled t)) c.table.ensures in
    omega (arith, same, length-area_table c.args.h.now)

pub returns : goal.returns
unfolding filled area_fields
returns c =
    let old : List ℕ = c.args.into.now in
    let table : List ℕ = spelled (area_table c.args.h.now) in
    let digest : List ℕ = c.args.h.now.digest in
    let wide : length table ≡ 20 = length-area_table c.args.h.now in
    let long : length digest ≡ 32 = omega arith in
    let two : length (table ++ digest) ≡ 52 = omega (arith, length-append table digest) in
    let first : c.put_fields.new.bytes ≡ put_at 0 table old = c.put_fields.ensures.written ∙ ap (λ t. put_at 0 (spelled t) old) c.table.ensures in
    let second : c.put_bytes.new.bytes ≡ put_at 0 (table ++ digest) old =
    c.put_bytes.ensures ∙ ap (put_at 20 digest) first ∙ put_at-put_at 0 20 table digest old (omega arith) (omega arith) in
    let left : 480 - length (table ++ digest) ≡ 428 = omega arith in
    let rest : zero_bytes (480 - length (table ++ digest)) ≡ zero_bytes 428 = ap zero_bytes left in
    c.put_zeros.ensures ∙ ap (put_at 52 (zero_bytes 428)) second ∙ put_at-put_at 0 52 (table ++ digest) (zero_bytes 428) old (omega arith) (omega arith)
    ∙ ap (λ (t : List ℕ). put_at 0 ((table ++ digest) ++ t) old) (sym rest)
