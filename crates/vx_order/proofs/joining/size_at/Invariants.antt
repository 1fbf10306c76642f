-- The loop of `size_at` over `volume`: what stays true.
use Rattle.std.proofs.Common.{◌≡◌, drop}
use Rattle.std.specs.Prelude.{slice_get}
use Rattle.vx_order.specs.Joining.{data_sizes}
use Rattle.vx_order.proofs.joining.size_at.Given as goal

abbrev pub invariant-loop-volume : goal.invariant-loop-volume
invariant-loop-volume g = slice_get (data_sizes (drop g.volume-index g.volumes)) g.left ≡ slice_get (data_sizes g.volumes) g.place
