-- The packet that a line delivers: it is one that the network keeps, and its part tells where it goes and of what kind it is.
use Rattle.std.proofs.Common.{◌≡◌, ◌∙◌, ℕ, List, length, ap, sym, subst, refl, false}
use Rattle.std.specs.Prelude.{Option, Some, None, option_map, true}
use Rattle.vx_model.specs.Content.{Write}
use Rattle.vx_history.specs.Doubts.{Doubted}
use Rattle.vx_history.specs.Events.{packet_at}
use Rattle.vx_history.specs.World.{DataAck, Hello, Message, NetAck, Packet, Update}
use Rattle.vx_order.specs.Packets.{packet_unknown}
use Rattle.vx_order.specs.declared.facts.SiteFacts.{SiteFacts}
use Rattle.vx_courier.specs.UnderWay.{part_carried}
use Rattle.vx_disk.specs.declared.shelf.Shelf.{Ghosts}
use Rattle.vx_packet.specs.Packets.{part_numbered}
use Rattle.vx_packet.specs.declared.part.Part.{Part}
use Rattle.vx_peers.specs.Answers.{is_answer}
use Rattle.vx_events.proofs.LinkAgreeing.{packet_agrees}
use Rattle.vx_events.proofs.Places.{never_some, some_same}
use Rattle.vx_events.proofs.Values.{length-values_from}
use Rattle.vx_events.specs.StepsOver.{fact_over}
use Rattle.vx_yard.specs.Carries.{Carries}
use Rattle.vx_yard.specs.Standing.{StandsFor}
use Rattle.vx_yard.specs.declared.yard.Yard.{Yard}
use Rattle.vx_yard.proofs.Carrying.{sent_count}

-- what the part of a packet tells
pub target_is : (q : Packet) → (part_carried q).target ≡ q.target
unfolding part_numbered
target_is q = refl

pub source_is : (q : Packet) → (part_carried q).source ≡ q.source
unfolding part_numbered
source_is q = refl

pub kind_update : (q : Packet) → (part_carried q).kind ≡ 2 → (k : ℕ) × (x : Write) × (q.message ≡ Update k x)
unfolding part_numbered
kind_update q is = by q.message is
  where
    by : (m : Message) → (part_carried (record q { message = m })).kind ≡ 2 → (k : ℕ) × (x : Write) × (m ≡ Update k x)
    by (Hello session number stored) e = absurd (cc)
    by (Update number x) e = (number, x, refl)
    by (NetAck session number) e = absurd (cc)
    by (DataAck number) e = absurd (cc)

pub kind_answer : (q : Packet) → ((part_carried q).kind ≡ 2 → ⊥) → is_answer q.message ≡ true
unfolding part_numbered
kind_answer q not = by q.message not
  where
    by : (m : Message) → ((part_carried (record q { message = m })).kind ≡ 2 → ⊥) → is_answer m ≡ true
    by (Hello session number stored) e = refl
    by (Update number x) e = absurd (e refl)
    by (NetAck session number) e = refl
    by (DataAck number) e = refl

-- the part that is found is that of the packet
pub part_is : (r : Option Part) (part : Part) (o : Option Packet) (q : Packet) → r ≡ option_map part_carried o → o ≡ Some q → r ≡ Some part → part ≡ part_carried q
part_is r part o q found at is = some_same (sym is ∙ found ∙ ap (λ (x : Option Packet). option_map part_carried x) at)

pub never_lost : (r : Option Part) (o : Option Packet) (q : Packet) → r ≡ option_map part_carried o → o ≡ Some q → r ≡ None → ⊥
never_lost r o q found at is = never_some (sym is ∙ found ∙ ap (λ (x : Option Packet). option_map part_carried x) at)

-- the packet of a part that was found
pub record Found (d : Doubted) (number : ℕ) (part : Part) : Type 0 where
  pub packet : Packet
  pub at : packet_at d.world.packets number ≡ Some packet
  pub is : part ≡ part_carried packet
  pub to : packet.target ≡ part.target
  pub from : packet.source ≡ part.source

module _ {R : Type 0} {g : Ghosts R} where
  -- the network keeps the packet
  pub packet_kept : (d : Doubted) (y : Yard R g) (number : ℕ) → Carries d y → packet_unknown y.flight.count number ≡ None → (q : Packet) × (packet_at d.world.packets number ≡ Some q)
  packet_kept d y number carries free = packet_agrees d.world false number (subst (λ (k : ℕ). packet_unknown k number ≡ None) (sent_count d y carries) free)

  -- as many facts as sites
  pub sites_many : (d : Doubted) (y : Yard R g) → StandsFor d y → length y.facts.items ≡ d.world.sites
  sites_many d y stands = ap (λ (fs : List SiteFacts). length fs) stands.facts ∙ length-values_from (λ i. fact_over d.world i) 0 d.world.sites

  pub found : (d : Doubted) (y : Yard R g) (number : ℕ) (r : Option Part) (part : Part) → Carries d y → packet_unknown y.flight.count number ≡ None → r ≡ option_map part_carried (packet_at d.world.packets number) → r ≡ Some part → Found d number part
  found d y number r part carries free of is =
      let q = packet_kept d y number carries free in
      let same = part_is r part (packet_at d.world.packets number) q.0 of q.1 is in
      record {
        packet = q.0;
        at = q.1;
        is = same;
        to = sym (ap (λ (x : Part). x.target) same ∙ target_is q.0);
        from = sym (ap (λ (x : Part). x.source) same ∙ source_is q.0);
      }
