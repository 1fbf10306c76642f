-- The receiving end of a link, over the group of its site.
use Rattle.std.specs.Prelude.{◌≡◌, ℕ, ◌<◌, ◌≤◌, Bool, true, false, List, ◌++◌, ◌∷◌, [], ◌⊎◌, length, map, drop, Option, Some, None, Result, Ok}
use Rattle.vx_model.specs.declared.call.Update.{Update}
use Rattle.vx_model.specs.declared.history.Line.{Line}
use Rattle.vx_model.specs.declared.no.No.{No}
use Rattle.vx_model.specs.declared.site.SiteState.TheVariants.{Up}
use Rattle.vx_model.specs.Sites.{is_origin}
use Rattle.vx_history.specs.Events.{delivered, packet_at}
use Rattle.vx_history.specs.LinkForms.{plain_receiver}
use Rattle.vx_history.specs.Receiving.{received_step}
use Rattle.vx_history.specs.Refusals.{Outcome}
use Rattle.vx_history.specs.Sends.{packets_of}
use Rattle.vx_history.specs.World.{NetAck, Node, Packet, World}
use Rattle.vx_history.specs.declared.event.Said.{Said}
use Rattle.vx_history.specs.declared.event.Said.TheVariants.{Ignored as IsIgnored, Taken as IsTaken}
use Rattle.vx_history.specs.declared.receiver.RAction.{RAction}
use Rattle.vx_history.specs.declared.receiver.RAction.TheVariants.{DataAck as AcksFromDisk, Ignored, IgnoredAck, Nothing, Take}
use Rattle.vx_history.specs.declared.receiver.REvent.TheVariants.{Update as HearUpdate}
use Rattle.vx_courier.specs.Together.{AssemblyStands}
use Rattle.vx_courier.specs.UnderWay.{FlightStands}
use Rattle.vx_net.specs.Flights.{Flying, greatest_packet}
use Rattle.vx_packet.specs.Assemblies.{Assembled, TakesPart}
use Rattle.vx_packet.specs.declared.assembly.Taken.{Taken}
use Rattle.vx_packet.specs.declared.assembly.Taken.TheVariants as taken
use Rattle.vx_packet.specs.declared.message.Message.{Message}
use Rattle.vx_packet.specs.declared.message.Message.TheVariants as message
use Rattle.vx_packet.specs.declared.part.Part.{Part}
use Rattle.vx_peers.specs.Senders.{Sends}
use Rattle.vx_rvg.specs.Contents.{write_of_update}
use Rattle.vx_rvg.specs.Views.{Core}
use Rattle.vx_secondary.specs.Answers.{TakeIs}
use Rattle.vx_secondary.specs.Receivers.{receiver_of}

-- the update that a message is, on this line
abbrev pub update_from : Message → Line → Option Update
update_from (message.Update number vol block bytes) line = Some (record { line = line; number = number; vol = vol; block = block; bytes = bytes })
update_from other line = None

-- the update waits
abbrev pub waits_now : Result RAction No → Option Bool
waits_now (Ok (Take ack)) = Some true
waits_now other = None

-- by what a part came to: another is missing; or it is whole, and waits where the receiver takes it; or it is bad
abbrev pub GatheredBy : Taken → Core → (size : ℕ → ℕ) → Line → List Update → Assembled → List Update → Option Bool → Type 0
GatheredBy taken.Kept c size line us new us' result = (result ≡ Some false) × (us' ≡ us)
GatheredBy taken.Bad c size line us new us' result = (result ≡ None) × (us' ≡ us)
GatheredBy taken.Whole c size line us new us' result = (m : Message) (u : Update) → new.whole ≡ Some m → update_from m line ≡ Some u
    → (r : Result RAction No) × (TakeIs c size us u r us' × (result ≡ waits_now r))

abbrev pub GatheredIs : Core → (size : ℕ → ℕ) → Part → List ℕ → List Update → Assembled → List Update → Assembled → Option Bool → Type 0
GatheredIs c size part payload us a us' a' result = (t : Taken) × (TakesPart a part payload t a' × GatheredBy t c size part.line us a' us' result)

-- the update waits behind the others where it was whole and taken, and else nothing waits that did not
abbrev pub WaitsBy : Option Bool → List Update → List Update → Type 0
WaitsBy (Some true) us us' = (u : Update) × (us' ≡ us ++ u ∷ [])
WaitsBy other us us' = us' ≡ us

-- the group of a site that receives, what waits behind it, and who feeds it: its rule sees the site, and the writes that wait are those behind
-- the durable ones
pub record ReceivesWrites (n : Node) (c : Core) (us : List Update) (fed : ℕ) : Type 0 where
  pub up : n.state ≡ Up
  pub role : is_origin n.role ≡ false
  pub halted : c.halted ≡ n.halted
  pub rule : receiver_of c us ≡ plain_receiver n
  pub logged : n.safe ≤ length n.log
  pub fed_by : fed ≡ n.fed_by
  pub waits : map write_of_update us ≡ drop n.safe n.log

-- A packet was delivered to this site: what is said is what the world says, and what the site and the network have is what the world has.
pub record StandsForOutcome (o : Outcome) (site : ℕ) (c : Core) (us : List Update) (fed : ℕ) (a : Assembled) (f : Flying) (said : Said) : Type 0 where
  pub says : said ≡ o.said
  pub receiver : ReceivesWrites (o.world.nodes site) c us fed
  pub assembly : AssemblyStands o.world.packets site (o.world.gathering site) a
  pub flight : FlightStands o.world.packets f

abbrev pub DeliveredAt : World → (site number : ℕ) → Core → List Update → (fed : ℕ) → Assembled → Flying → Said → Type 0
DeliveredAt w site number c us fed a f said = StandsForOutcome (delivered w number (packet_at w.packets number)) site c us fed a f said

-- what the rule says of an update of this line and number, at a group behind which these updates wait
abbrev pub rule_at : Core → List Update → Line → (number : ℕ) → RAction
rule_at c us line number = (received_step (receiver_of c us) (HearUpdate line number)).action

-- nothing comes of an update
abbrev pub IsIdle : RAction → Type 0
IsIdle Nothing = Unit {0}
IsIdle Ignored = Unit {0}
IsIdle (IgnoredAck number) = ⊥
IsIdle (Take ack) = ⊥
IsIdle (AcksFromDisk number) = Unit {0}

-- an acknowledgement from memory
abbrev pub acks_of : (site source : ℕ) → Core → (number : ℕ) → List Packet
acks_of site source c number = packets_of site source c.log.header.state.line (NetAck c.log.header.incarnation number)

-- What comes of an update of this source by the rule of the site that receives it, whatever is in assembly: it waits behind the others, is acknowledged, and the
-- source feeds the receiver; or a part of it was kept, or lost; or it is acknowledged again; or nothing comes of it.
pub data TookOne (rule : RAction) (source site : ℕ) (c : Core) (us us' : List Update) (fed fed' : ℕ) (a a' : Assembled) (f f' : Flying) (said : Said) : Type 0 where
  OneWaits : (u : Update) (number : ℕ) → rule ≡ Take number → us' ≡ us ++ u ∷ [] → fed' ≡ source → Sends (acks_of site source c number) f f' → said ≡ IsTaken
      → TookOne rule source site c us us' fed fed' a a' f f' said
  NoneWaits : (number : ℕ) → rule ≡ Take number → us' ≡ us → fed' ≡ fed → f' ≡ f → ((said ≡ IsTaken) ⊎ (said ≡ IsIgnored))
      → TookOne rule source site c us us' fed fed' a a' f f' said
  AcksAgain : (number : ℕ) → rule ≡ IgnoredAck number → us' ≡ us → fed' ≡ fed → a' ≡ a → Sends (acks_of site source c number) f f' → said ≡ IsIgnored
      → TookOne rule source site c us us' fed fed' a a' f f' said
  NotHeard : IsIdle rule → us' ≡ us → fed' ≡ fed → a' ≡ a → f' ≡ f → said ≡ IsIgnored → TookOne rule source site c us us' fed fed' a a' f f' said

-- an acknowledgement from memory was sent
abbrev pub SendsOn : (source target : ℕ) → Line → (session number : ℕ) → Flying → Flying → Type 0
SendsOn source target line session number f f' =
    (ps : List Packet) → FlightStands ps f → f.count < greatest_packet → FlightStands (ps ++ packets_of source target line (NetAck session number)) f'
