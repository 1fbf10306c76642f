-- `with_bit`: that no number grows too large.
use Rattle.std.proofs.Common.{◌∙◌, sym, arith}
use Rattle.vx_bitmap.proofs.Bytes.{fits-more}
use Rattle.vx_bitmap.proofs.bit.with_bit.Goals as goal

pub overflow_add-result : goal.overflow_add-result
overflow_add-result c =
    let more = fits-more c.args.byte c.args.k (omega (arith, c.ranges.byte.fits)) c.requires (sym c.has_bit-has.ensures ∙ c.if-has.false) in
    omega (arith, more, c.weight.ensures)
