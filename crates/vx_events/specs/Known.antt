-- What is known of the disks of a group behind a line at its site.
use Rattle.std.specs.Prelude.{◌≡◌, ◌⊎◌, true}
use Rattle.vx_history.specs.Groups.{GroupNode}
use Rattle.vx_script.specs.declared.line.ScriptLine.{ScriptLine}
use Rattle.vx_events.specs.GroupEnds.{BringsUp}
use Rattle.vx_events.specs.declared.said.Said.{Said}
use Rattle.vx_events.specs.declared.said.Said.TheVariants.{Refused}

-- the line is refused, be it by its work
abbrev pub SaysNo : Said → Type 0
SaysNo (Refused why) = Unit {0}
SaysNo other = ⊥

-- The line may leave it unknown what the disks hold: a recovery or an import of disks that may not agree, or one that is refused.
abbrev pub MayDarken : GroupNode → ScriptLine → Said → Type 0
MayDarken note line said = BringsUp line × ((note.loose ≡ true) ⊎ SaysNo said)
