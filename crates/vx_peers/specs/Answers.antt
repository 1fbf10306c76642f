-- Greetings and acknowledgements at the sending end of a link.
use Rattle.std.specs.Prelude.{◌≡◌, ℕ, Bool, true, false, Option, Some, None}
use Rattle.vx_model.specs.declared.history.Line.{Line}
use Rattle.vx_model.specs.declared.link.Link.{Link as PlainLink}
use Rattle.vx_model.specs.declared.site.SiteState.TheVariants.{Up}
use Rattle.vx_history.specs.Events.{delivered, packet_at}
use Rattle.vx_history.specs.LinkForms.{plain_link}
use Rattle.vx_history.specs.Refusals.{Outcome, keeps_links}
use Rattle.vx_history.specs.Sends.{is_linked}
use Rattle.vx_history.specs.World.{Link, Message, Node, World, Hello, Update, NetAck, DataAck}
use Rattle.vx_history.specs.declared.event.Said.{Said}
use Rattle.vx_history.specs.declared.sender.SEvent.{SEvent}
use Rattle.vx_history.specs.declared.sender.SEvent.TheVariants as event
use Rattle.vx_courier.specs.Together.{AssemblyStands}
use Rattle.vx_courier.specs.UnderWay.{FlightStands}
use Rattle.vx_net.specs.Flights.{Flying}
use Rattle.vx_packet.specs.Assemblies.{Assembled}
use Rattle.vx_packet.specs.declared.message.Message.{Message as Spelled}
use Rattle.vx_packet.specs.declared.message.Message.TheVariants as in_bytes

-- whether a message is one that the sending end of a link hears
abbrev pub is_answer : Message → Bool
is_answer (Hello session number stored) = true
is_answer (Update number x) = false
is_answer (NetAck session number) = true
is_answer (DataAck number) = true

-- what it is to a link
abbrev pub event_in : Spelled → Option SEvent
event_in (in_bytes.Hello session number stored) = Some (event.Hello session number stored)
event_in (in_bytes.NetAck session number) = Some (event.NetAck session number)
event_in (in_bytes.DataAck number) = Some (event.DataAck number)
event_in other = None

-- a site that is up and runs, and keeps this link
pub record Listens (n : Node) (l : Link) (safe : ℕ) (line : Line) : Type 0 where
  pub up : n.state ≡ Up
  pub running : n.halted ≡ None
  pub keeps : keeps_links n.role ≡ true
  pub linked : is_linked l ≡ true
  pub safe_is : safe ≡ n.safe
  pub line_is : line ≡ n.line

-- The packet was delivered: what is said is what the world says, and the site's link to this source, what is in assembly, and what is under
-- way are what the world has.
pub record LinkStandsFor (o : Outcome) (site source : ℕ) (l : PlainLink) (a : Assembled) (f : Flying) (said : Said) : Type 0 where
  pub says : said ≡ o.said
  pub link : l ≡ plain_link source (o.world.links site source)
  pub assembly : AssemblyStands o.world.packets site (o.world.gathering site) a
  pub flight : FlightStands o.world.packets f

abbrev pub AnsweredAt : World → (site source number : ℕ) → PlainLink → Assembled → Flying → Said → Type 0
AnsweredAt w site source number l a f said = LinkStandsFor (delivered w number (packet_at w.packets number)) site source l a f said

-- the same but for what is in assembly
pub record PartStandsFor (o : Outcome) (site source : ℕ) (l : PlainLink) (f : Flying) (said : Said) : Type 0 where
  pub says : said ≡ o.said
  pub link : l ≡ plain_link source (o.world.links site source)
  pub flight : FlightStands o.world.packets f

abbrev pub PartAnsweredAt : World → (site source number : ℕ) → PlainLink → Flying → Said → Type 0
PartAnsweredAt w site source number l f said = PartStandsFor (delivered w number (packet_at w.packets number)) site source l f said
