-- The lines that work on links.
use Rattle.std.specs.Prelude.{Bool, true, false}
use Rattle.vx_script.specs.declared.line.ScriptLine.{ScriptLine}
use Rattle.vx_script.specs.declared.line.ScriptLine.TheVariants.{Link, Set, Connect, Cut, Pause, Resume, Pump, Tick, Wait}

abbrev pub is_on_links : ScriptLine → Bool
is_on_links (Link _ _ _ _) = true
is_on_links (Set _ _ _ _) = true
is_on_links (Connect _ _) = true
is_on_links (Cut _ _) = true
is_on_links (Pause _ _) = true
is_on_links (Resume _ _) = true
is_on_links (Pump _ _) = true
is_on_links (Tick _ _) = true
is_on_links (Wait _ _) = true
is_on_links _ = false
