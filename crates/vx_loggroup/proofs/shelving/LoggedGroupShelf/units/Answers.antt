-- `units`: its result.
use Rattle.std.proofs.Common.{length, ap, sym, ◌∙◌}
use Rattle.vx_group.proofs.HoldLemmas.{wide_shape}
use Rattle.vx_loggroup.proofs.shelving.LoggedGroupShelf.units.Goals as goal

pub returns : goal.returns
returns g c = ap length c.as_slice.ensures.volumes ∙ sym (wide_shape c.args.self.now.core).volumes
