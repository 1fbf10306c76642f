-- `put_fields`: what `put-place` asks; what stays true in its loop over `field`.
use Rattle.std.proofs.Common.{arith, ◌∙◌, ap, sym, List, ℕ, length, get_or, take, length-append}
use Rattle.vx_wire.specs.declared.field.Field.{Field}
use Rattle.vx_wire.specs.declared.field.Field.TheVariants.{U8}
use Rattle.vx_wire.specs.Fields.{spelled, field_bytes}
use Rattle.vx_wire.specs.Places.{put_at}
use Rattle.vx_wire.proofs.FieldLemmas.{spelled-more, length-spelled_next}
use Rattle.vx_wire.proofs.PlaceLemmas.{put_at-nothing, put_at-put_at}
use Rattle.vx_wire.proofs.field.put_fields.Goals as goal

pub loop-field-init : goal.loop-field-init
unfolding spelled
loop-field-init c = record { next = omega arith; written = put_at-nothing c.args.at c.args.bytes.now }

pub put-place-requires : goal.put-place-requires
put-place-requires c =
    omega (arith, length-spelled_next c.args.fields.now c.loop-field.field-index (U8 0) c.loop-field-test.true, c.loop-field.invariant.next, c.loop-field.auto.bytes)

pub loop-field-preserved : goal.loop-field-preserved
loop-field-preserved c =
    let i : ℕ = c.loop-field.field-index in
    let so_far : List ℕ = spelled (take i c.args.fields.now) in
    let field : Field = get_or c.args.fields.now i (U8 0) in
    let more = spelled-more c.args.fields.now i (U8 0) c.loop-field-test.true in
    let len = length-spelled_next c.args.fields.now i (U8 0) c.loop-field-test.true in
    record {
      next = c.put-place.ensures.next ∙ omega (arith, c.loop-field.invariant.next, ap length more, length-append so_far (field_bytes field));
      written = c.put-place.ensures.written ∙ ap (put_at c.loop-field.place (field_bytes field)) c.loop-field.invariant.written
          ∙ put_at-put_at c.args.at c.loop-field.place so_far (field_bytes field) c.args.bytes.now c.loop-field.invariant.next (omega (arith, c.requires))
          ∙ ap (λ (b : List ℕ). put_at c.args.at b c.args.bytes.now) (sym more);
    }
