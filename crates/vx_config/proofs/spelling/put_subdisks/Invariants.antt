-- The loop of `put_subdisks` over `subdisk`: what stays true.
use Rattle.std.proofs.Common.{◌≡◌, ◌++◌, length, take}
use Rattle.std.specs.Prelude.{flat_map}
use Rattle.vx_wire.specs.Numbers.{be_bytes}
use Rattle.vx_config.specs.Pages.{onto}
use Rattle.vx_config.specs.Table.{subdisk}
use Rattle.vx_config.proofs.spelling.put_subdisks.Given as goal

abbrev pub invariant-loop-subdisk : goal.invariant-loop-subdisk
invariant-loop-subdisk l = l.page ≡ onto l.fn.page (be_bytes 1 (length l.subdisks) ++ flat_map subdisk.spell (take l.subdisk-index l.subdisks))
