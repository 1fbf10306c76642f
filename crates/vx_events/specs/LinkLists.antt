-- The events of the world that a line of links or packets stands for.
use Rattle.std.specs.Prelude.{ℕ, List, [], ◌∷◌}
use Rattle.vx_model.specs.declared.link.SyncMode.{SyncMode}
use Rattle.vx_model.specs.declared.link.Prot.TheVariants.{Fail as FailsWhenFull}
use Rattle.vx_history.specs.World.{World}
use Rattle.vx_history.specs.declared.event.Event.{Event}
use Rattle.vx_history.specs.declared.event.Event.TheVariants.{Link as LinkAt, Set as SetAt, Connect as ConnectAt, Cut as CutAt, Pause as PauseAt, Resume as ResumeAt, Pump as PumpAt, Tick as TickAt, Wait as WaitAt, Deliver as DeliverAt}
use Rattle.vx_history.specs.declared.event.LinkPart.TheVariants.{Joins, Made, Marked, Opened}
use Rattle.vx_script.specs.declared.line.ScriptLine.{ScriptLine}
use Rattle.vx_script.specs.declared.line.ScriptLine.TheVariants.{Link, Set, Connect, Cut, Pause, Resume, Pump, Tick, Wait, Deliver, Settle}
use Rattle.vx_history.specs.Settling.{settling}
use Rattle.vx_events.specs.Facts.{site_number}

-- a link is made in four steps, each of them durable before the next; whatever the line says, a log without room fails its writes
abbrev pub link_parts : (p s : ℕ) → SyncMode → List Event
link_parts p s sync = LinkAt p s sync FailsWhenFull Joins ∷ LinkAt p s sync FailsWhenFull Made ∷ LinkAt p s sync FailsWhenFull Marked ∷ LinkAt p s sync FailsWhenFull Opened ∷ []

abbrev pub link_events : World → ScriptLine → List Event
link_events w (Link p s sync prot) = link_parts (site_number w p) (site_number w s) sync
link_events w (Set p s sync prot) = SetAt (site_number w p) (site_number w s) sync FailsWhenFull ∷ []
link_events w (Connect p s) = ConnectAt (site_number w p) (site_number w s) ∷ []
link_events w (Cut p s) = CutAt (site_number w p) (site_number w s) ∷ []
link_events w (Pause p s) = PauseAt (site_number w p) (site_number w s) ∷ []
link_events w (Resume p s) = ResumeAt (site_number w p) (site_number w s) ∷ []
link_events w (Pump p s) = PumpAt (site_number w p) (site_number w s) ∷ []
link_events w (Tick p s) = TickAt (site_number w p) (site_number w s) ∷ []
link_events w (Wait p number) = WaitAt (site_number w p) number ∷ []
link_events w (Deliver number) = DeliverAt number ∷ []
link_events w (Settle p s) = settling w (site_number w p) (site_number w s)
link_events w other = []
