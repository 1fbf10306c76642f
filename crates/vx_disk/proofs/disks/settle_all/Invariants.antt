-- The loop of `settle_all` over `unit`: what stays true.
use Rattle.std.proofs.Common.{◌≡◌, ◌≤◌, ◌<◌, ℕ, ◌%◌, get_or}
use Rattle.vx_disk.specs.declared.unit.MemUnit.{MemUnit}
use Rattle.vx_disk.specs.Memory.{SettledUnit, loose_before}
use Rattle.vx_disk.proofs.disks.settle_all.Given as goal

abbrev pub invariant-loop-unit : goal.invariant-loop-unit
invariant-loop-unit l = record {
  next : l.number ≡ loose_before l.initial.units l.unit-index % 64;
  done : (u : ℕ) (d : MemUnit) → u < l.unit-index → SettledUnit (get_or l.initial.units u d) l.pick (loose_before l.initial.units u % 64) (get_or l.units u d);
  rest : (u : ℕ) (d : MemUnit) → l.unit-index ≤ u → get_or l.units u d ≡ get_or l.initial.units u d;
}
