-- The loop of `put_numbers` over `number`: what stays true.
use Rattle.std.proofs.Common.{◌≡◌, ◌++◌, length, take}
use Rattle.std.specs.Prelude.{flat_map}
use Rattle.vx_wire.specs.Numbers.{be_bytes}
use Rattle.vx_config.specs.Pages.{onto}
use Rattle.vx_config.specs.Forms.{number}
use Rattle.vx_config.proofs.spelling.put_numbers.Given as goal

abbrev pub invariant-loop-number : goal.invariant-loop-number
invariant-loop-number l = l.page ≡ onto l.fn.page (be_bytes 1 (length l.numbers) ++ flat_map (number 1).spell (take l.number-index l.numbers))
