-- The packet of a number, as it is found and read.
use Rattle.std.proofs.Common.{◌≡◌, ◌∙◌, ℕ, List, ap, sym, subst, refl}
use Rattle.std.proofs.lemmas.Option.{same_Some}
use Rattle.std.specs.Prelude.{Option, Some, None}
use Rattle.vx_history.specs.Events.{packet_at}
use Rattle.vx_history.specs.World.{Packet}
use Rattle.vx_courier.specs.UnderWay.{CanFly, FlightStands, carrier, part_carried, way_of}
use Rattle.vx_courier.proofs.Flying.{at_number, can_fly, place_of_number}
use Rattle.vx_net.specs.Flights.{Flying, kept_packet as bytes_at}
use Rattle.vx_packet.specs.Packets.{IsPacket, part_numbered}
use Rattle.vx_packet.specs.declared.message.Envelope.{Envelope}
use Rattle.vx_packet.specs.declared.message.Message.{Message as Spelled}
use Rattle.vx_packet.specs.declared.part.Part.{Part}
use Rattle.vx_parts.specs.Spelling.{spelled_message}

line_of_part : (e : Envelope) (m : Spelled) (k : ℕ) → (part_numbered e m k).line ≡ e.line
unfolding part_numbered
line_of_part e m k = refl

source_of_part : (e : Envelope) (m : Spelled) (k : ℕ) → (part_numbered e m k).source ≡ e.source
unfolding part_numbered
source_of_part e m k = refl

-- what is read of the bytes of a packet
pub record ReadSo (p : Packet) (bytes : List ℕ) (part : Part) : Type 0 where
  pub part_is : part ≡ part_carried p
  pub bytes_are : bytes ≡ carrier p
  pub fly : CanFly p
  pub line : part.line ≡ p.line
  pub source : part.source ≡ p.source

module _ (ps : List Packet) (number : ℕ) (p : Packet) (at : packet_at ps number ≡ Some p) (f : Flying) (flight : FlightStands ps f) where
  kept : bytes_at f number ≡ Some (carrier p)
  kept = at_number ps f number flight ∙ ap (λ (o : Option Packet). by_option o) at
    where
      by_option : Option Packet → Option (List ℕ)
      by_option None = None
      by_option (Some q) = Some (carrier q)

  pub never_none : None ≡ bytes_at f number → ⊥
  never_none is = let e : None ≡ Some (carrier p) = is ∙ kept in absurd (cc)

  same_bytes : (bytes : List ℕ) → Some bytes ≡ bytes_at f number → bytes ≡ carrier p
  same_bytes bytes is = same_Some bytes (carrier p) (is ∙ kept)

  flies : CanFly p
  flies = let place = place_of_number ps number p at in can_fly ps f flight place.0 p place.2

  found : (bytes : List ℕ) → Some bytes ≡ bytes_at f number → (r : Option Part) → ((q : Part) → IsPacket bytes q → r ≡ Some q) → r ≡ Some (part_carried p)
  found bytes some r only = only (part_carried p) (subst (λ (bs : List ℕ). IsPacket bs (part_carried p)) (sym (same_bytes bytes some)) flies.packet)

  pub never_other : (bytes : List ℕ) → Some bytes ≡ bytes_at f number → (r : Option Part) → ((q : Part) → IsPacket bytes q → r ≡ Some q) → r ≡ None → ⊥
  never_other bytes some r only none = let e : None ≡ Some (part_carried p) = sym none ∙ found bytes some r only in absurd (cc)

  pub read_so : (bytes : List ℕ) (part : Part) → Some bytes ≡ bytes_at f number → (r : Option Part) → ((q : Part) → IsPacket bytes q → r ≡ Some q) → r ≡ Some part → ReadSo p bytes part
  read_so bytes part some r only is =
      let same : part ≡ part_carried p = same_Some part (part_carried p) (sym is ∙ found bytes some r only) in
      record {
        part_is = same;
        bytes_are = same_bytes bytes some;
        fly = flies;
        line = ap (λ (q : Part). q.line) same ∙ line_of_part (way_of p) (spelled_message p.message) p.part;
        source = ap (λ (q : Part). q.source) same ∙ source_of_part (way_of p) (spelled_message p.message) p.part;
      }
