-- The run of blocks of a line.
use Rattle.std.specs.Prelude.{Option, Some, None}
use Rattle.vx_script.specs.declared.line.ScriptLine.{ScriptLine}
use Rattle.vx_script.specs.declared.line.ScriptLine.TheVariants.{Write, Put, Read, Show}
use Rattle.vx_order.specs.declared.span.Span.{Span}
use Rattle.vx_order.specs.declared.span.Way.TheVariants.{Writes, Reads, Shows}

-- the run of blocks of a line that has one; `put` has one block
unfoldable pub span_of : ScriptLine → Option Span
span_of (Write _ volume block count _) = Some (record { volume = volume; start = block; count = count; way = Writes })
span_of (Put _ volume block _) = Some (record { volume = volume; start = block; count = 1; way = Writes })
span_of (Read _ volume block count) = Some (record { volume = volume; start = block; count = count; way = Reads })
span_of (Show _ volume block count) = Some (record { volume = volume; start = block; count = count; way = Shows })
span_of _ = None
