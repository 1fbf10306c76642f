-- The loop of `copy` over `unit`: what stays true.
use Rattle.std.proofs.Common.{◌≡◌, take}
use Rattle.vx_model.proofs.units.VolumeUnits.copy.Given as goal

abbrev pub invariant-loop-unit : goal.invariant-loop-unit
invariant-loop-unit l = l.units ≡ take l.unit-index l.unit-items
