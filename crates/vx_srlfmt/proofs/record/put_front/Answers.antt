-- `put_front`: its result; what `put_fields` asks.
use Rattle.std.proofs.Common.{arith, ◌≡◌, ◌-◌, ◌∙◌, ◌++◌, ap, sym, List, ℕ, length, append_assoc}
use Rattle.std.proofs.lemmas.List.{length-append}
use Rattle.vx_wire.specs.Fields.{spelled, zero_bytes}
use Rattle.vx_wire.specs.Places.{put_at}
use Rattle.vx_wire.specs.Seals.{filled}
use Rattle.vx_wire.proofs.PlaceLemmas.{put_at-put_at}
use Rattle.vx_srlfmt.specs.Records.{record_table, record_fields}
use Rattle.vx_srlfmt.proofs.RecordAgain.{length-record_table}
use Rattle.vx_srlfmt.proofs.record.put_front.Goals as goal

pub put_fields-requires : goal.put_fields-requires
put_fields-requires c =
    let same : length (spelled c.table.result) ≡ length (spelled (record_table c.args.h.now)) = ap (λ t. length (spelled t)) c.table.ensures in
    omega (arith, same, length-record_table c.args.h.now)

pub returns : goal.returns
unfolding filled record_fields
returns c =
    let old : List ℕ = c.args.into.now in
    let table : List ℕ = spelled (record_table c.args.h.now) in
    let digest : List ℕ = c.args.h.now.digest in
    let firsts : List ℕ = c.args.h.now.firsts in
    let fields : List ℕ = table ++ (digest ++ firsts) in
    let wide : length table ≡ 60 = length-record_table c.args.h.now in
    let long : length digest ≡ 32 = omega arith in
    let short : length firsts ≡ 16 = omega arith in
    let two : length (table ++ digest) ≡ 92 = omega (arith, length-append table digest) in
    let grouped : (table ++ digest) ++ firsts ≡ fields = append_assoc table digest firsts in
    let three : length fields ≡ 108 = omega (arith, ap length (sym grouped), length-append (table ++ digest) firsts) in
    let first : c.put_fields.new.bytes ≡ put_at 0 table old = c.put_fields.ensures.written ∙ ap (λ t. put_at 0 (spelled t) old) c.table.ensures in
    let second : c.put_bytes.new.bytes ≡ put_at 0 (table ++ digest) old =
    c.put_bytes.ensures ∙ ap (put_at 60 digest) first ∙ put_at-put_at 0 60 table digest old (omega arith) (omega arith) in
    let third : c.put_bytes-2.new.bytes ≡ put_at 0 fields old =
    c.put_bytes-2.ensures ∙ ap (put_at 92 firsts) second ∙ put_at-put_at 0 92 (table ++ digest) firsts old (omega arith) (omega arith) ∙ ap (λ (t : List ℕ). put_at 0 t old) grouped in
    let left : 480 - length fields ≡ 372 = omega arith in
    let rest : zero_bytes (480 - length fields) ≡ zero_bytes 372 = ap zero_bytes left in
    c.put_zeros.ensures ∙ ap (put_at 108 (zero_bytes 372)) third ∙ put_at-put_at 0 108 fields (zero_bytes 372) old (omega arith) (omega arith)
    ∙ ap (λ (t : List ℕ). put_at 0 (fields ++ t) old) (sym rest)
