-- The loop of `copy` over `disk`: what stays true.
use Rattle.std.proofs.Common.{◌≡◌, take}
use Rattle.vx_config.proofs.disks.Disks.copy.Given as goal

abbrev pub invariant-loop-disk : goal.invariant-loop-disk
invariant-loop-disk l = l.disks ≡ take l.disk-index l.disk-items
