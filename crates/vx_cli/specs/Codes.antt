-- The exit status of a program.
use Rattle.std.specs.Prelude.{ℕ}
use Rattle.vx_cli.specs.declared.status.Status.{Status}
use Rattle.vx_cli.specs.declared.status.Status.TheVariants.{Done, Usage, BadLine, ReadFault, WriteFault, OutOfMemory, TooLong}

-- a number for each end of a run; 0 is a run that is done
abbrev pub code_of : Status → ℕ
code_of Done = 0
code_of Usage = 1
code_of (BadLine line column) = 2
code_of ReadFault = 3
code_of WriteFault = 4
code_of OutOfMemory = 5
code_of TooLong = 6
