-- What each event of a link leaves of its numbers.
use Rattle.std.proofs.Common.{◌≡◌, ℕ, ◌+◌, ◌≤◌, ◌<◌, arith}
use Rattle.vx_history.specs.Sending.{sent_step}
use Rattle.vx_model.specs.declared.limits.TheConstants.{MOST_AHEAD}
use Rattle.vx_model.specs.declared.link.Link.{Link}
use Rattle.vx_history.specs.declared.sender.SEvent.{SEvent}
use Rattle.vx_history.specs.declared.sender.SEvent.TheVariants.{Pump, Tick, Hello, NetAck, DataAck, Connect, Cut, Pause, Resume, Restart}
use Rattle.vx_history.specs.declared.sender.SFacts.{SFacts}
use Rattle.vx_history.specs.declared.sender.Action.TheVariants.{Ignored, Updates}

pub stored-rises : (l : Link) (e : SEvent) (f : SFacts) → l.stored ≤ (sent_step l e f).link.stored
stored-rises l Pump f = grind arith
stored-rises l Tick f = grind arith
stored-rises l (Hello session number stored) f = grind arith
stored-rises l (NetAck session number) f = grind arith
stored-rises l (DataAck number) f = grind arith
stored-rises l Connect f = grind arith
stored-rises l Cut f = grind arith
stored-rises l Pause f = grind arith
stored-rises l Resume f = grind arith
stored-rises l Restart f = grind arith

pub updates-fit : (l : Link) (e : SEvent) (f : SFacts) (from to : ℕ) → (sent_step l e f).action ≡ Updates from to
    → (l.sent < from) × (l.stored < from) × (from ≤ to) × (to ≤ f.safe) × (to ≤ l.net + MOST_AHEAD)
updates-fit l Pump f from to h = grind (arith, h)
updates-fit l Tick f from to h = grind (arith, h)
updates-fit l (Hello session number stored) f from to h = grind (arith, h)
updates-fit l (NetAck session number) f from to h = grind (arith, h)
updates-fit l (DataAck number) f from to h = grind (arith, h)
updates-fit l Connect f from to h = grind (arith, h)
updates-fit l Cut f from to h = grind (arith, h)
updates-fit l Pause f from to h = grind (arith, h)
updates-fit l Resume f from to h = grind (arith, h)
updates-fit l Restart f from to h = grind (arith, h)

pub ignored-keeps : (l : Link) (e : SEvent) (f : SFacts) → (sent_step l e f).action ≡ Ignored → (sent_step l e f).link ≡ l
ignored-keeps l Pump f h = grind (arith, h)
ignored-keeps l Tick f h = grind (arith, h)
ignored-keeps l (Hello session number stored) f h = grind (arith, h)
ignored-keeps l (NetAck session number) f h = grind (arith, h)
ignored-keeps l (DataAck number) f h = grind (arith, h)
ignored-keeps l Connect f h = grind (arith, h)
ignored-keeps l Cut f h = grind (arith, h)
ignored-keeps l Pause f h = grind (arith, h)
ignored-keeps l Resume f h = grind (arith, h)
ignored-keeps l Restart f h = grind (arith, h)
