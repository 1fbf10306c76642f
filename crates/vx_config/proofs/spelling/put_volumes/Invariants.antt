-- The loop of `put_volumes` over `volume`: what stays true.
use Rattle.std.proofs.Common.{◌≡◌, ◌++◌, length, take}
use Rattle.std.specs.Prelude.{flat_map}
use Rattle.vx_wire.specs.Numbers.{be_bytes}
use Rattle.vx_config.specs.Pages.{onto}
use Rattle.vx_config.specs.Table.{volume}
use Rattle.vx_config.proofs.spelling.put_volumes.Given as goal

abbrev pub invariant-loop-volume : goal.invariant-loop-volume
invariant-loop-volume l = l.page ≡ onto l.fn.page (be_bytes 1 (length l.volumes) ++ flat_map volume.spell (take l.volume-index l.volumes))
