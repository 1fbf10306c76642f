-- The lines that are built today.
use Rattle.std.specs.Prelude.{ℕ, List, Bool, true, false, Option, Some, None, Result, Ok, Err}
use Rattle.vx_script.specs.Grammar.{line_of}
use Rattle.vx_script.specs.declared.line.ScriptLine.{ScriptLine}
use Rattle.vx_script.specs.declared.line.ScriptLine.TheVariants.{Site, Raw, Disk, Crash, Fuse, Recover, GroupInit, GroupDeport, GroupImport, Volume, PlexDetach, PlexAttach, Rvg, Write, Put, Read, Show, Apply, Status, Link, Set, Connect, Cut, Pause, Resume, Pump, Tick, Wait, Deliver, Settle}
use Rattle.vx_model.specs.declared.link.Prot.{Prot}
use Rattle.vx_model.specs.declared.link.Prot.TheVariants.{Fail}

-- whether a full log fails writes
abbrev pub is_fail_prot : Prot → Bool
is_fail_prot Fail = true
is_fail_prot _ = false

-- whether lines of this kind are built: those that make a link, or give it a setting, only where a full log fails writes
abbrev pub is_built : ScriptLine → Bool
is_built (Site _ _ _) = true
is_built (Raw _) = true
is_built (Disk _ _ _) = true
is_built (Crash _ _) = true
is_built (Fuse _ _ _) = true
is_built (Recover _) = true
is_built (GroupInit _) = true
is_built (GroupDeport _) = true
is_built (GroupImport _) = true
is_built (Volume _ _ _ _ _ _ _ _) = true
is_built (PlexDetach _ _ _) = true
is_built (PlexAttach _ _ _) = true
is_built (Rvg _ _ _ _) = true
is_built (Write _ _ _ _ _) = true
is_built (Put _ _ _ _) = true
is_built (Read _ _ _ _) = true
is_built (Show _ _ _ _) = true
is_built (Apply _ _) = true
is_built (Status _) = true
is_built (Link _ _ _ prot) = is_fail_prot prot
is_built (Set _ _ _ prot) = is_fail_prot prot
is_built (Connect _ _) = true
is_built (Cut _ _) = true
is_built (Pause _ _) = true
is_built (Resume _ _) = true
is_built (Pump _ _) = true
is_built (Tick _ _) = true
is_built (Wait _ _) = true
is_built (Deliver _) = true
is_built (Settle _ _) = true
is_built _ = false

abbrev pub if_built : Bool → ScriptLine → Result (Option ScriptLine) ℕ
if_built true line = Ok (Some line)
if_built false line = Err 1

-- a line of the grammar whose kind is not built is wrong at column 1
abbrev pub only_built : Result (Option ScriptLine) ℕ → Result (Option ScriptLine) ℕ
only_built (Err column) = Err column
only_built (Ok None) = Ok None
only_built (Ok (Some line)) = if_built (is_built line) line

-- what these bytes say: a line, or nothing where they are empty or a comment, or the column at which they are wrong
unfoldable pub script_line : List ℕ → Result (Option ScriptLine) ℕ
script_line bytes = only_built (line_of bytes)
