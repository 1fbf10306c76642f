-- `used`: its result; that no number grows too large.
use Rattle.std.proofs.Common.{◌<◌, ◌+◌, ◌-◌, length, ap, sym, arith}
use Rattle.vx_srl.specs.Views.{next_of}
use Rattle.vx_srl.proofs.LogLists.{blocks_behind, part_length, place_low, record_before, split_widths}
use Rattle.vx_srl.proofs.log.Srl.used.Goals as goal

pub overflow_add-gone : goal.overflow_add-gone
overflow_add-gone c = omega (arith, c.requires.known, ap next_of c.self.view_is, part_length c.self.inside.sealed c.self.inside.records.items, c.self.invariant.ordered.numbers)

pub overflow_sub-result : goal.overflow_sub-result
overflow_sub-result c =
    let ks = c.self.inside.records.items in
    let gone = c.args.above + 1 - c.self.inside.header.low in
    let at : gone < length ks = omega (arith, c.requires.known, ap next_of c.self.view_is, part_length c.self.inside.sealed ks) in
    omega (
      arith,
      c.self.invariant.used_is,
      split_widths gone ks,
      record_before c.self.inside.ring c.self.inside.header.place gone ks c.index.result.now c.index.ensures (place_low c.self.inside.ring c.self.inside.header c.self.invariant.ordered.of_ring)
          c.self.invariant.ordered.placed c.self.invariant.ordered.fits at,
    )

pub returns : goal.returns
returns c =
    let ks = c.self.inside.records.items in
    let gone = c.args.above + 1 - c.self.inside.header.low in
    let at : gone < length ks = omega (arith, c.requires.known, ap next_of c.self.view_is, part_length c.self.inside.sealed ks) in
    rw (sym c.self.view_is) (blocks_behind c.self.inside.ring c.self.inside.header.place gone c.self.inside.sealed ks c.index.result.now c.self.inside.used c.self.invariant.used_is c.index.ensures
    (place_low c.self.inside.ring c.self.inside.header c.self.invariant.ordered.of_ring) c.self.invariant.ordered.placed c.self.invariant.ordered.fits at)
