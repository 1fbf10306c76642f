-- The loop of `put_disks` over `disk`: what stays true.
use Rattle.std.proofs.Common.{◌≡◌, ◌++◌, length, take}
use Rattle.std.specs.Prelude.{flat_map}
use Rattle.vx_wire.specs.Numbers.{be_bytes}
use Rattle.vx_config.specs.Pages.{onto}
use Rattle.vx_config.specs.Table.{disk}
use Rattle.vx_config.proofs.spelling.put_disks.Given as goal

abbrev pub invariant-loop-disk : goal.invariant-loop-disk
invariant-loop-disk l = l.page ≡ onto l.fn.page (be_bytes 1 (length l.disks) ++ flat_map disk.spell (take l.disk-index l.disks))
