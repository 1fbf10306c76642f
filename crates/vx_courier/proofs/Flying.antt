-- Packets that are sent and found, one by one.
use Rattle.std.proofs.Common.{◌≡◌, ◌∙◌, ◌⊎◌, ◌+◌, ◌-◌, ◌<◌, ◌≤◌, ℕ, zero, suc, Bool, true, false, List, [], ◌∷◌, ◌++◌, length, map, ap, sym, subst, refl, arith, length-append, length-drop}
use Rattle.std.specs.Prelude.{Option, Some, None, slice_get, ltb, leb, if◌then◌else◌}
use Rattle.std.specs.Option.{option_map}
use Rattle.std.proofs.lemmas.Bool.Decides.{nat_tests}
use Rattle.std.proofs.lemmas.List.{length-map}
use Rattle.std.proofs.lemmas.List.Elements.{All-get_or, All-push}
use Rattle.std.proofs.lemmas.Option.{get_or_from_slice_get, slice_get-map, slice_get_within}
use Rattle.vx_history.specs.Events.{packet_at}
use Rattle.vx_history.specs.World.{Packet}
use Rattle.vx_net.specs.Flights.{Flying, oldest_of, greatest_packet, most_kept, newest_packets, nothing_sent, kept_packet as bytes_at, sent, sent_all}
use Rattle.vx_net.proofs.Sent.{after, all-sent, dropped-after, given-after}
use Rattle.vx_packet.specs.Packets.{IsPacket}
use Rattle.vx_packet.specs.declared.part.Part.{Part}
use Rattle.vx_courier.specs.UnderWay.{CanFly, FlightStands, carrier, part_carried}

-- ---- one more

sent_last : (f : Flying) (bs : List (List ℕ)) (b : List ℕ) → sent_all f (bs ++ b ∷ []) ≡ sent (sent_all f bs) b
sent_last f [] b = refl
sent_last f (y ∷ bs) b = sent_last (sent f y) bs b

map_last : (ps : List Packet) (p : Packet) → map carrier (ps ++ p ∷ []) ≡ map carrier ps ++ carrier p ∷ []
map_last [] p = refl
map_last (q ∷ ps) p = ap (λ (bs : List (List ℕ)). carrier q ∷ bs) (map_last ps p)

long : (ps : List Packet) → length (map carrier ps) ≡ length ps
long ps = length-map ps carrier

as_sent : (ps : List Packet) (f : Flying) → FlightStands ps f → f ≡ after (map carrier ps)
as_sent ps f stands = stands.flying ∙ all-sent (map carrier ps) (omega (arith, stands.few, long ps))

pub count_is : (ps : List Packet) (f : Flying) → FlightStands ps f → f.count ≡ length ps
count_is ps f stands = ap (λ (g : Flying). g.count) (as_sent ps f stands) ∙ long ps

-- one more packet is sent
pub sends_one : (ps : List Packet) (f : Flying) (p : Packet) → FlightStands ps f → f.count < greatest_packet → CanFly p → FlightStands (ps ++ p ∷ []) (sent f (carrier p))
sends_one ps f p stands room one = record {
  each = All-push CanFly ps p stands.each one;
  few = omega (arith, room, count_is ps f stands, length-append ps (p ∷ []));
  flying = ap (λ (g : Flying). sent g (carrier p)) stands.flying ∙ sym (sent_last nothing_sent (map carrier ps) (carrier p)) ∙ ap (λ (bs : List (List ℕ)). sent_all nothing_sent bs) (sym (map_last ps p));
}

-- a packet more is one more at most
by_room : (f : Flying) (b : List ℕ) (t : Bool) → (if t then record { count = f.count + 1; kept = newest_packets (f.kept ++ b ∷ []) } else f).count ≤ f.count + 1
by_room f b true = omega arith
by_room f b false = omega arith

pub count_next : (f f' : Flying) (b : List ℕ) → f' ≡ sent f b → f'.count ≤ f.count + 1
count_next f f' b is = omega (arith, ap (λ (g : Flying). g.count) is, by_room f b (ltb f.count greatest_packet))

-- ---- the packet of a number

zero_none : (bs : List (List ℕ)) → bytes_at (after bs) 0 ≡ None
zero_none bs =
    let rest : length (newest_packets bs) ≡ length bs - (length bs - most_kept) = length-drop (length bs - most_kept) bs in
    let below : ltb 0 (oldest_of (after bs)) ≡ true = grind (arith, rest) in
    rw below refl

dropped : (ps : List Packet) (k : ℕ) → leb (suc k + 65536) (length ps) ≡ true → bytes_at (after (map carrier ps)) (suc k) ≡ option_map carrier (packet_at ps (suc k))
dropped ps k old =
    let far : suc k + most_kept ≤ length (map carrier ps) = grind (arith, long ps, nat_tests) in
    dropped-after (map carrier ps) (suc k) far ∙ ap (λ (b : Bool). option_map carrier (if b then None else slice_get ps k)) (sym old)

kept : (ps : List Packet) (k : ℕ) → leb (suc k + 65536) (length ps) ≡ false → bytes_at (after (map carrier ps)) (suc k) ≡ option_map carrier (packet_at ps (suc k))
kept ps k new =
    let near : length (map carrier ps) ≤ k + most_kept = grind (arith, long ps, nat_tests) in
    let next : k + 1 ≡ suc k = omega arith in
    sym (ap (λ (n : ℕ). bytes_at (after (map carrier ps)) n) next)
    ∙ given-after (map carrier ps) k near
    ∙ slice_get-map carrier ps k
    ∙ ap (λ (b : Bool). option_map carrier (if b then None else slice_get ps k)) (sym new)

-- the bytes that are kept under a number carry the packet of that number
pub at_number : (ps : List Packet) (f : Flying) (number : ℕ) → FlightStands ps f → bytes_at f number ≡ option_map carrier (packet_at ps number)
at_number ps f number stands = ap (λ (g : Flying). bytes_at g number) (as_sent ps f stands) ∙ by_number number
  where
    by_test : (k : ℕ) (b : Bool) → leb (suc k + 65536) (length ps) ≡ b → bytes_at (after (map carrier ps)) (suc k) ≡ option_map carrier (packet_at ps (suc k))
    by_test k true is = dropped ps k is
    by_test k false is = kept ps k is

    by_number : (n : ℕ) → bytes_at (after (map carrier ps)) n ≡ option_map carrier (packet_at ps n)
    by_number zero = zero_none (map carrier ps)
    by_number (suc k) = by_test k (leb (suc k + 65536) (length ps)) refl

-- a packet that was sent can fly
pub can_fly : (ps : List Packet) (f : Flying) → FlightStands ps f → (k : ℕ) (p : Packet) → slice_get ps k ≡ Some p → CanFly p
can_fly ps f stands k p is = subst CanFly (get_or_from_slice_get ps k p p is) (All-get_or CanFly ps k p (slice_get_within ps k p is) stands.each)

-- a packet that has a number was sent in a place
pub place_of_number : (ps : List Packet) (number : ℕ) (p : Packet) → packet_at ps number ≡ Some p → (k : ℕ) × (number ≡ suc k) × (slice_get ps k ≡ Some p)
place_of_number ps zero p is = absurd (cc)
place_of_number ps (suc k) p is = (k, refl, by_test (leb (suc k + 65536) (length ps)) is)
  where
    by_test : (b : Bool) → (if b then None else slice_get ps k) ≡ Some p → slice_get ps k ≡ Some p
    by_test true is = absurd (cc)
    by_test false is = is

-- ---- what is read in the bytes of a number

pub read_none : (ps : List Packet) (f : Flying) (number : ℕ) → FlightStands ps f → None ≡ bytes_at f number → None ≡ option_map part_carried (packet_at ps number)
read_none ps f number stands none = by_packet (packet_at ps number) (none ∙ at_number ps f number stands)
  where
    by_packet : (o : Option Packet) → None ≡ option_map carrier o → None ≡ option_map part_carried o
    by_packet None is = refl
    by_packet (Some p) is = absurd (cc)

pub read_some : (ps : List Packet) (f : Flying) (number : ℕ) (bytes : List ℕ) (r : Option Part) → FlightStands ps f → Some bytes ≡ bytes_at f number → ((q : Part) → IsPacket bytes q → r ≡ Some q) → r ≡ option_map part_carried (packet_at ps number)
read_some ps f number bytes r stands some only = by_packet (packet_at ps number) refl (some ∙ at_number ps f number stands)
  where
    by_packet : (o : Option Packet) → packet_at ps number ≡ o → Some bytes ≡ option_map carrier o → r ≡ option_map part_carried o
    by_packet None at is = absurd (cc)
    by_packet (Some p) at is =
        let there = place_of_number ps number p at in
        let fly : CanFly p = can_fly ps f stands there.0 p there.2 in
        let same : carrier p ≡ bytes = cc in
        only (part_carried p) (subst (λ (bs : List ℕ). IsPacket bs (part_carried p)) same fly.packet)
