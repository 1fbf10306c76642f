-- The loop of `open_disks` over `disk`: what stays true.
use Rattle.std.proofs.Common.{◌≡◌, length}
use Rattle.vx_filedisk.proofs.fit.open_disks.Given as goal

abbrev pub invariant-loop-disk : goal.invariant-loop-disk
invariant-loop-disk l = length l.files.items ≡ l.disk-counter
