-- The loop of `count_blocks` over `write`: what stays true.
use Rattle.std.proofs.Common.{◌≡◌, min, take}
use Rattle.vx_history.specs.Events.{logged_blocks}
use Rattle.vx_sites.proofs.row.count_blocks.Given as goal

abbrev pub invariant-loop-write : goal.invariant-loop-write
invariant-loop-write l = l.count ≡ min (logged_blocks (take l.write-index l.writes)) 0x1_0000_0000
