-- What the disks of a site make of the packet of an update that is handed to it.
use Rattle.std.specs.Prelude.{◌≡◌, ◌⊎◌, ℕ, false, List}
use Rattle.vx_model.specs.Content.{Write}
use Rattle.vx_model.specs.Sites.{is_origin}
use Rattle.vx_history.specs.Events.{delivered, packet_at, with_write}
use Rattle.vx_history.specs.Refusals.{Outcome, says}
use Rattle.vx_history.specs.Stops.{IsOpen}
use Rattle.vx_history.specs.Sends.{packets_of, sending}
use Rattle.vx_history.specs.World.{NetAck, Packet, World}
use Rattle.vx_history.specs.declared.event.Said.{Said}
use Rattle.vx_history.specs.declared.event.Said.TheVariants.{Ignored as IsIgnored, Taken as IsTaken}
use Rattle.vx_history.specs.declared.receiver.RAction.TheVariants.{Take}
use Rattle.vx_courier.specs.Together.{AssemblyStands}
use Rattle.vx_courier.specs.UnderWay.{FlightStands}
use Rattle.vx_disk.specs.declared.shelf.Shelf.{Ghosts}
use Rattle.vx_events.specs.LinkFinds.{rule_of}
use Rattle.vx_net.specs.Flights.{Flying}
use Rattle.vx_peers.specs.Senders.{Sends}
use Rattle.vx_packet.specs.Assemblies.{Assembled}
use Rattle.vx_diskset.specs.Holds.{KeptBeside}
use Rattle.vx_diskset.specs.Stands.{SiteStands}
use Rattle.vx_diskset.specs.declared.disk_set.DiskSet.{DiskSet}

module _ {R : Type 0} {g : Ghosts R} where
  -- The packet was delivered to this site: what is said is what the world says; and the disks, who feeds the site, what is in assembly, and
  -- what is under way are what the world has.
  pub record DeliveredTo (o : Outcome) (beside : KeptBeside) (site : ℕ) (e : DiskSet R g) (fed : ℕ) (a : Assembled) (f : Flying) (said : Said) : Type 0 where
    pub says : said ≡ o.said
    pub stands : SiteStands beside (o.world.nodes site) e
    pub fed_by : fed ≡ (o.world.nodes site).fed_by
    pub assembly : AssemblyStands o.world.packets site (o.world.gathering site) a
    pub flight : FlightStands o.world.packets f

  -- What comes of the packet p of the update of number k, whatever is in assembly. A site that is open and receives, and whose next number it is, takes a write of
  -- the packet's source, and acknowledges it from memory, or nothing but a part of one; any other ignores it, as the world says, and may acknowledge it again.
  pub data TookTo (w : World) (number : ℕ) (p : Packet) (k : ℕ) (beside : KeptBeside) (e : DiskSet R g) (fed : ℕ) (a a' : Assembled) (f f' : Flying) (said : Said) : Type 0 where
    TakesOne : IsOpen (w.nodes p.target) → is_origin (w.nodes p.target).role ≡ false → rule_of w p k ≡ Take k → (x : Write) → said ≡ IsTaken
        → SiteStands beside (with_write (w.nodes p.target) p.source x) e → fed ≡ p.source
        → Sends (packets_of p.target p.source (w.nodes p.target).line (NetAck (w.nodes p.target).session k)) f f' → TookTo w number p k beside e fed a a' f f' said
    TakesNone : IsOpen (w.nodes p.target) → is_origin (w.nodes p.target).role ≡ false → rule_of w p k ≡ Take k → ((said ≡ IsTaken) ⊎ (said ≡ IsIgnored))
        → SiteStands beside (w.nodes p.target) e → fed ≡ (w.nodes p.target).fed_by → f' ≡ f → TookTo w number p k beside e fed a a' f f' said
    IsUnheard : (more : List Packet) → delivered w number (packet_at w.packets number) ≡ says (sending w more) IsIgnored → said ≡ IsIgnored
        → SiteStands beside (w.nodes p.target) e → fed ≡ (w.nodes p.target).fed_by → a' ≡ a → Sends more f f' → TookTo w number p k beside e fed a a' f f' said
