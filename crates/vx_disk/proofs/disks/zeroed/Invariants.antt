-- The loop of `zeroed` over `unit`: what stays true.
use Rattle.vx_disk.specs.Memory.{AllZeroed}
use Rattle.vx_disk.proofs.disks.zeroed.Given as goal

abbrev pub invariant-loop-unit : goal.invariant-loop-unit
invariant-loop-unit l = AllZeroed l._unit l.blocks l.units.items
