-- What a line asks of the links of its site.
use Rattle.std.specs.Prelude.{Option, Some, None}
use Rattle.vx_script.specs.declared.line.ScriptLine.{ScriptLine}
use Rattle.vx_script.specs.declared.line.ScriptLine.TheVariants.{Link, Set, Connect, Cut, Pause, Resume, Tick, Pump, Settle, Wait}
use Rattle.vx_order.specs.declared.ask.Ask.{Ask}
use Rattle.vx_order.specs.declared.ask.Ask.TheVariants.{Makes, Sets, Turns, Pumps, Settles, Waits}

unfoldable pub ask_of : ScriptLine → Option Ask
ask_of (Link _ _ _ _) = Some Makes
ask_of (Set _ _ _ _) = Some Sets
ask_of (Connect _ _) = Some Turns
ask_of (Cut _ _) = Some Turns
ask_of (Pause _ _) = Some Turns
ask_of (Resume _ _) = Some Turns
ask_of (Tick _ _) = Some Turns
ask_of (Pump _ _) = Some Pumps
ask_of (Settle _ _) = Some Settles
ask_of (Wait _ number) = Some (Waits number)
ask_of _ = None
