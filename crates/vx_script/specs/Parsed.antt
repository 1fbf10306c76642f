-- What parsing a line returns.
use Rattle.std.specs.Prelude.{◌≡◌, ℕ, Option, Result, Ok, Err}
use Rattle.vx_script.specs.declared.line.ScriptLine.{ScriptLine}
use Rattle.vx_script.specs.declared.errors.LineErr.{LineErr}
use Rattle.vx_script.specs.declared.errors.LineErr.TheVariants.{Bad, OutOfMemory}

-- a line, or the number and the column at which it is wrong, unless memory ran out
abbrev pub IsParsed : ℕ → Result (Option ScriptLine) LineErr → Result (Option ScriptLine) ℕ → Type 0
IsParsed number (Ok line) said = said ≡ Ok line
IsParsed number (Err (Bad line column)) said = (line ≡ number) × (said ≡ Err column)
IsParsed number (Err OutOfMemory) said = Unit {0}
