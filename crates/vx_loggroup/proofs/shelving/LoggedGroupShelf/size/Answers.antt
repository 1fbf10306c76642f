-- `size`: its result; that each place lies within.
use Rattle.std.proofs.Common.{length, ap, sym, ◌∙◌, arith}
use Rattle.vx_config.specs.Checks.{blocks_of}
use Rattle.vx_group.proofs.HoldLemmas.{at_blocks, wide_shape}
use Rattle.vx_loggroup.proofs.shelving.LoggedGroupShelf.size.Goals as goal

pub bounds-as_slice-unit : goal.bounds-as_slice-unit
bounds-as_slice-unit g c = let lt = c.requires in let same = (wide_shape c.args.self.now.core).volumes in let count = ap length c.as_slice.ensures.volumes in omega (arith, lt, same, count)

pub bounds-as_slice-unit-2 : goal.bounds-as_slice-unit-2
bounds-as_slice-unit-2 g c = let lt = c.requires in let same = (wide_shape c.args.self.now.core).volumes in let count = ap length c.as_slice.ensures.volumes in omega (arith, lt, same, count)

pub returns : goal.returns
returns g c =
    at_blocks c.as_slice.result.now c.args.unit c.index-as_slice-unit.result (let lt = c.requires in let same = (wide_shape c.args.self.now.core).volumes in let count = ap length c.as_slice.ensures.volumes in omega (arith, lt, same, count))
    ∙ ap (λ vs. blocks_of vs c.args.unit) c.as_slice.ensures.volumes ∙ sym ((wide_shape c.args.self.now.core).blocks c.args.unit)
