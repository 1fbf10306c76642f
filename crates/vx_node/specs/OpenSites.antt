-- The names in a line by which it is told whether it is open.
use Rattle.std.specs.Prelude.{ℕ, List, Option, Some, None}
use Rattle.vx_script.specs.declared.line.ScriptLine.{ScriptLine}
use Rattle.vx_script.specs.declared.line.ScriptLine.TheVariants.{Link}

-- a site: where a replicated volume group is over its group, the line is open
abbrev pub open_site : ScriptLine → Option (List ℕ)
open_site (Link p s sync prot) = Some p
open_site other = None

-- another one at which it is
abbrev pub open_second : ScriptLine → Option (List ℕ)
open_second (Link p s sync prot) = Some s
open_second other = None
