-- Lines by which it may be lost what the disks of a group hold.
use Rattle.vx_script.specs.declared.line.ScriptLine.{ScriptLine}
use Rattle.vx_events.specs.GroupEnds.{BringsUp}
use Rattle.vx_events.specs.Known.{SaysNo}
use Rattle.vx_events.specs.declared.said.Said.{Said}

-- a recovery or an import was refused
abbrev pub IsHeldDown : ScriptLine → Said → Type 0
IsHeldDown line said = BringsUp line × SaysNo said
