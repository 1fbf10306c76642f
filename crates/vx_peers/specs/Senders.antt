-- The sending end of a link, over the group of its site.
use Rattle.std.specs.Prelude.{◌≡◌, ℕ, ◌+◌, ◌-◌, ◌<◌, List, ◌++◌, map, take, drop, length, true, Option, Some, slice_get, IsTrue}
use Rattle.vx_model.specs.Content.{Write}
use Rattle.vx_model.specs.declared.call.Update.{Update}
use Rattle.vx_model.specs.declared.errors.Stop.{Stop}
use Rattle.vx_model.specs.declared.errors.Stop.TheVariants.{No as Refused, OutOfMemory}
use Rattle.vx_model.specs.declared.history.Line.{Line}
use Rattle.vx_model.specs.declared.link.Link.{Link as PlainLink}
use Rattle.vx_model.specs.declared.no.No.{No}
use Rattle.vx_model.specs.declared.no.No.TheVariants.{Damaged}
use Rattle.vx_history.specs.Events.{link_event}
use Rattle.vx_history.specs.LinkForms.{plain_link}
use Rattle.vx_history.specs.Sending.{sent_step}
use Rattle.vx_history.specs.Sends.{updates as updates_of}
use Rattle.vx_history.specs.World.{Node, Packet, World}
use Rattle.vx_history.specs.declared.sender.Action.{Action}
use Rattle.vx_history.specs.declared.sender.Action.TheVariants.{Updates}
use Rattle.vx_history.specs.declared.sender.SEvent.{SEvent}
use Rattle.vx_history.specs.declared.sender.SEvent.TheVariants.{Pump}
use Rattle.vx_courier.specs.UnderWay.{FlightStands}
use Rattle.vx_disk.specs.Causes.{BlamesUnit, DeviceCause}
use Rattle.vx_disk.specs.Disks.{Disks}
use Rattle.vx_disk.specs.Shelf.{Meaning}
use Rattle.vx_net.specs.Flights.{Flying}
use Rattle.vx_packet.specs.declared.message.Envelope.{Envelope}
use Rattle.vx_rvg.specs.Contents.{write_of_update}
use Rattle.vx_rvg.specs.Holdings.{Holding, update_of}
use Rattle.vx_rvg.specs.Stands.{Stands}
use Rattle.vx_rvg.specs.Views.{Core, last_of}
use Rattle.vx_srl.specs.declared.errors.SrlNo.{SrlNo}
use Rattle.vx_srl.specs.declared.errors.SrlNo.TheVariants.{NoRoom, Other, Overrun}

-- the group of a site whose links send: it stands on the site's line, its last number is the site's last durable one, and its log has the
-- last of the site's durable writes
pub record SendsFrom (n : Node) (c : Core) (m : Meaning) : Type 0 where
  pub line : c.log.header.state.line ≡ n.line
  pub head : last_of c ≡ n.safe
  pub held : Holding
  pub stands : Stands c held m
  pub some : 0 < held.low
  pub writes : held.writes ≡ drop (held.low - 1) (take n.safe n.log)

-- these updates are the writes that a log holds from a number on, on its line
pub record AreRead (h : Holding) (line : Line) (first : ℕ) (us : List Update) : Type 0 where
  pub each : (k : ℕ) (u : Update) → slice_get us k ≡ Some u → (x : Write) × (slice_get h.writes (first + k - h.low) ≡ Some x) × (u ≡ update_of line (first + k) x)

-- the updates of these numbers were sent, which are what a log holds under them
pub record SentRange (h : Holding) (line : Line) (e : Envelope) (from to : ℕ) (f f' : Flying) : Type 0 where
  pub updates : List Update
  pub read : AreRead h line from updates
  pub all : from + length updates ≡ to + 1
  pub flies : (ps : List Packet) → FlightStands ps f → FlightStands (ps ++ updates_of e.source e.target e.line from (map write_of_update updates)) f'

-- the link in memory and the packets under way are what the world has of them behind an event of this link
pub record LinkMoved (w : World) (p s : ℕ) (e : SEvent) (l : PlainLink) (f : Flying) : Type 0 where
  pub link : l ≡ plain_link s ((link_event w p s e).links p s)
  pub flight : FlightStands (link_event w p s e).packets f

-- what is under way is what was, and behind it these packets
abbrev pub Sends : List Packet → (f f' : Flying) → Type 0
Sends more f f' = (ps : List Packet) → FlightStands ps f → FlightStands (ps ++ more) f'

-- the updates of these numbers were sent, of whatever writes
pub record SendsRange (e : Envelope) (from to : ℕ) (f f' : Flying) : Type 0 where
  pub writes : List Write
  pub all : from + length writes ≡ to + 1
  pub flies : Sends (updates_of e.source e.target e.line from writes) f f'

-- what a link's rule has its site send was sent, of whatever writes
abbrev pub SendsBy : Action → Envelope → (f f' : Flying) → Type 0
SendsBy (Updates from to) e f f' = SendsRange e from to f f'
SendsBy other e f f' = f' ≡ f

abbrev pub way_from : (source target : ℕ) → Line → Envelope
way_from source target line = record { source = source; target = target; line = line }

-- what its rule has a site send, with so many durable writes, as the link is pumped
abbrev pub pump_asks : PlainLink → (safe : ℕ) → Action
pump_asks l safe = (sent_step l Pump (record { safe = safe; line_ok = true })).action

-- the link as its rule leaves it behind a pump, at a site with so many durable writes
abbrev pub pumped_at : PlainLink → (safe : ℕ) → PlainLink
pumped_at l safe = (sent_step l Pump (record { safe = safe; line_ok = true })).link

-- ---- refusals of a read

abbrev pub IsOther : SrlNo → Type 0
IsOther (NoRoom need free) = ⊥
IsOther (Overrun low) = ⊥
IsOther (Other why) = Unit {0}

abbrev pub stop_with : SrlNo → Stop
stop_with (NoRoom need free) = OutOfMemory
stop_with (Overrun low) = OutOfMemory
stop_with (Other why) = Refused why

-- why logged writes could not be read: a device call failed; or a digest differed, which does not come where the group holds something
abbrev pub ReadStop : Core → Meaning → Meaning → No → Type 0
ReadStop c old new (Damaged unit block stored computed) = (h : Holding) → Stands c h old → IsTrue old.tells → ⊥
ReadStop c old new why = DeviceCause old new why

abbrev pub ReadCause : Core → Meaning → Meaning → Stop → Type 0
ReadCause c old new (Refused why) = ReadStop c old new why
ReadCause c old new OutOfMemory = Unit {0}

-- where the shelf is a rack, a refusal 7 names the disk that is this unit
abbrev pub BlamesStop : Option Disks → (unit : ℕ) → Stop → Type 0
BlamesStop disks unit (Refused why) = BlamesUnit disks unit why
BlamesStop disks unit OutOfMemory = Unit {0}
