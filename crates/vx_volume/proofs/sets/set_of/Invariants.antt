-- The loop of `set_of` over `k`: what stays true.
use Rattle.std.proofs.Common.{◌≡◌, ◌-◌, ◌<◌, ◌^◌, drop}
use Rattle.vx_volume.specs.Sets.{bits}
use Rattle.vx_volume.proofs.sets.set_of.Given as goal

abbrev pub invariant-loop-k : goal.invariant-loop-k
invariant-loop-k l = (l.set ≡ bits (drop (8 - l.k) l.told)) × (l.set < 2 ^ l.k)
