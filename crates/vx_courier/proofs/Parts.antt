-- The parts of a message, one behind the other.
use Rattle.std.proofs.Common.{◌≡◌, ◌∙◌, ◌+◌, ◌<◌, ◌≤◌, ℕ, zero, suc, List, [], ◌∷◌, ◌++◌, length, ap, sym, subst, refl, arith, length-append}
use Rattle.std.proofs.lemmas.List.{append_assoc}
use Rattle.vx_model.specs.declared.history.Line.{Line}
use Rattle.vx_history.specs.Sends.{packet, packets_from, packets_of, parts_of}
use Rattle.vx_history.specs.World.{Message, Packet}
use Rattle.vx_net.specs.Flights.{Flying, greatest_packet, sent}
use Rattle.vx_packet.specs.Messages.{CanSpellMessage, IsTyped, count_of_parts as parts_in_bytes}
use Rattle.vx_packet.specs.Packets.{IsPacket, part_packet, part_numbered}
use Rattle.vx_packet.specs.declared.message.Envelope.{Envelope}
use Rattle.vx_packet.specs.declared.message.Message.{Message as Spelled}
use Rattle.vx_parts.specs.Spelling.{spelled_message}
use Rattle.vx_parts.proofs.Counting.{parts_are}
use Rattle.vx_courier.specs.UnderWay.{CanFly, FlightStands, carrier}
use Rattle.vx_courier.proofs.Flying.{count_is, sends_one}

-- one part more at the end
last_part : (s t : ℕ) (line : Line) (m : Message) (a k : ℕ) → packets_from s t line m a (suc k) ≡ packets_from s t line m a k ++ packet s t line m (a + k) ∷ []
last_part s t line m a zero = let same : a ≡ a + 0 = omega arith in ap (λ (n : ℕ). packet s t line m n ∷ []) same
last_part s t line m a (suc k) =
    let next : a + 1 + k ≡ a + suc k = omega arith in
    ap (λ (qs : List Packet). packet s t line m a ∷ qs) (last_part s t line m (a + 1) k)
    ∙ ap (λ (n : ℕ). packet s t line m a ∷ (packets_from s t line m (a + 1) k ++ packet s t line m n ∷ [])) next

so_many : (s t : ℕ) (line : Line) (m : Message) (a k : ℕ) → length (packets_from s t line m a k) ≡ k
so_many s t line m a zero = refl
so_many s t line m a (suc k) = ap suc (so_many s t line m (a + 1) k)

module _ (e : Envelope) (m : Message) (message : Spelled) (is : message ≡ spelled_message m) (can : CanSpellMessage message) (typed : IsTyped message) where
  -- what was sent of it
  abbrev gone : ℕ → List Packet
  gone k = packets_from e.source e.target e.line m 0 k

  part_flies : (k : ℕ) → k < parts_in_bytes message → IsPacket (part_packet e message k) (part_numbered e message k) → CanFly (packet e.source e.target e.line m k)
  part_flies k low packs = record {
    can = subst CanSpellMessage is can;
    typed = subst IsTyped is typed;
    within = omega (arith, low, ap parts_in_bytes is, parts_are m);
    packet = subst (λ (x : Spelled). IsPacket (part_packet e x k) (part_numbered e x k)) is packs;
  }

  pub part_sent : (ps : List Packet) (k next : ℕ) (old f f' : Flying) (bytes : List ℕ) → FlightStands ps old → old.count + parts_of m ≤ greatest_packet → FlightStands (ps ++ gone k) f → k < parts_in_bytes message → next ≡ suc k
      → IsPacket (part_packet e message k) (part_numbered e message k) → bytes ≡ part_packet e message k → f' ≡ sent f bytes → FlightStands (ps ++ gone next) f'
  part_sent ps k next old f f' bytes first room stands low more packs bytes_are after =
      let one : Packet = packet e.source e.target e.line m k in
      let count : f.count ≡ length ps + k = count_is (ps ++ gone k) f stands ∙ length-append ps (gone k) ∙ ap (λ (n : ℕ). length ps + n) (so_many e.source e.target e.line m 0 k) in
      let below : k < parts_of m = omega (arith, low, ap parts_in_bytes is, parts_are m) in
      let free : f.count < greatest_packet = omega (arith, count, room, below, count_is ps old first) in
      let sent_is : sent f (carrier one) ≡ f' = sym (after ∙ ap (λ (bs : List ℕ). sent f bs) (bytes_are ∙ ap (λ (x : Spelled). part_packet e x k) is)) in
      let goes : FlightStands ((ps ++ gone k) ++ one ∷ []) (sent f (carrier one)) = sends_one (ps ++ gone k) f one stands free (part_flies k low packs) in
      let list : (ps ++ gone k) ++ one ∷ [] ≡ ps ++ gone next
      = let here : 0 + k ≡ k = omega arith in
      append_assoc ps (gone k) (one ∷ [])
      ∙ ap (λ (n : ℕ). ps ++ (gone k ++ packet e.source e.target e.line m n ∷ [])) (sym here)
      ∙ ap (λ (qs : List Packet). ps ++ qs) (sym (last_part e.source e.target e.line m 0 k))
      ∙ ap (λ (n : ℕ). ps ++ gone n) (sym more) in
      subst (λ (g : Flying). FlightStands (ps ++ gone next) g) sent_is (subst (λ (qs : List Packet). FlightStands qs (sent f (carrier one))) list goes)

  pub all_gone : (k : ℕ) → k ≡ parts_in_bytes message → gone k ≡ packets_of e.source e.target e.line m
  all_gone k all = ap gone (all ∙ ap parts_in_bytes is ∙ parts_are m)
