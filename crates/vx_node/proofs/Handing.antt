-- The packets of a link that is settled, one by one.
use Rattle.std.proofs.Common.{◌≡◌, ◌∙◌, ◌++◌, ◌+◌, ◌<◌, ◌≤◌, ◌⊎◌, ℕ, zero, suc, Bool, true, false, List, [], ◌∷◌, length, drop, ap, arith, append_assoc, inl, inr, refl, sym}
use Rattle.std.specs.Prelude.{◌&&◌, ◌||◌, ◌==◌, Option, Some, None, if◌then◌else◌, option_map, slice_get}
use Rattle.std.proofs.lemmas.List.{drop_all}
use Rattle.vx_model.proofs.Lists.{get_front}
use Rattle.vx_history.proofs.Updates.{and_left, and_right, eqb_equal}
use Rattle.vx_history.specs.Events.{packet_at}
use Rattle.vx_history.specs.Settling.{deliver_between, is_between}
use Rattle.vx_history.specs.World.{DataAck, Hello, Message, NetAck, Packet, Update}
use Rattle.vx_history.specs.declared.event.Event.{Event}
use Rattle.vx_history.specs.declared.event.Event.TheVariants.{Deliver}
use Rattle.vx_courier.specs.UnderWay.{part_carried}
use Rattle.vx_events.proofs.Places.{some_same}
use Rattle.vx_packet.specs.Packets.{part_numbered}
use Rattle.vx_packet.specs.declared.part.Part.{Part}
use Rattle.vx_settling.proofs.Running.{are_both}
use Rattle.vx_settling.proofs.Unfolding.{packet_found}
use Rattle.vx_settling.specs.Between.{IsSent, is_update}
use Rattle.vx_settling.specs.Kinds.{AreSettling}
use Rattle.vx_node.specs.Handing.{handing_over, handed_by, way_by}

-- ---- the events

one_by : (t : Bool) (e : Event) (es : List Event) → (if t then e ∷ es else es) ≡ (if t then e ∷ [] else []) ++ es
one_by true e es = refl
one_by false e es = refl

-- those of the packets from a place on are those of the one there, and those behind it
deliver_one : (a b j k : ℕ) (ps : List Packet) → k < length ps → deliver_between a b j (drop k ps) ≡ handed_by a b j (slice_get ps k) ++ deliver_between a b (suc j) (drop (suc k) ps)
deliver_one a b j k [] low = absurd (omega (arith, low))
deliver_one a b j zero (q ∷ qs) low = one_by (is_between a b q) (Deliver (suc j)) (deliver_between a b (suc j) qs)
deliver_one a b j (suc k) (q ∷ qs) low = deliver_one a b j k qs (omega (arith, low))

-- those of so many packets
abbrev pub handed_to : (a b before n : ℕ) → List Packet → List Event
handed_to a b before zero ps = []
handed_to a b before (suc n) ps = handed_to a b before n ps ++ handing_over a b (before + n) ps

pub handed_rest : (a b before n : ℕ) (ps : List Packet) → before + n ≤ length ps → deliver_between a b before (drop before ps) ≡ handed_to a b before n ps ++ deliver_between a b (before + n) (drop (before + n) ps)
handed_rest a b before zero ps low = let same : before ≡ before + 0 = omega arith in ap (λ (k : ℕ). deliver_between a b k (drop k ps)) same
handed_rest a b before (suc n) ps low =
    let next : suc (before + n) ≡ before + suc n = omega arith in
    let here : before + n < length ps = omega (arith, low) in
    let less : before + n ≤ length ps = omega (arith, low) in
    handed_rest a b before n ps less
    ∙ ap (λ (es : List Event). handed_to a b before n ps ++ es)
    (deliver_one a b (before + n) (before + n) ps here ∙ ap (λ (k : ℕ). handing_over a b (before + n) ps ++ deliver_between a b k (drop k ps)) next)
    ∙ sym (append_assoc (handed_to a b before n ps) (handing_over a b (before + n) ps) (deliver_between a b (before + suc n) (drop (before + suc n) ps)))

-- all of them
pub handed_all : (a b before n : ℕ) (ps : List Packet) → before + n ≡ length ps → handed_to a b before n ps ≡ deliver_between a b before (drop before ps)
handed_all a b before n ps all =
    sym (handed_rest a b before n ps (omega (arith, all)) ∙ ap (λ (qs : List Packet). handed_to a b before n ps ++ deliver_between a b (before + n) qs) (drop_all (before + n) ps (omega (arith, all)))
    ∙ append_none (handed_to a b before n ps))
  where
    append_none : (es : List Event) → es ++ [] ≡ es
    append_none [] = refl
    append_none (e ∷ es) = ap (λ (xs : List Event). e ∷ xs) (append_none es)

pub handed_more : (a b k : ℕ) (ps qs more : List Packet) → qs ≡ ps ++ more → k < length ps → handing_over a b k qs ≡ handing_over a b k ps
handed_more a b k ps qs more is low = ap (λ (xs : List Packet). handing_over a b k xs) is ∙ ap (λ (o : Option Packet). handed_by a b k o) (get_front ps more k low)

-- ---- they are such as settle a link

one_settles : (t : Bool) (k : ℕ) → AreSettling (if t then Deliver k ∷ [] else [])
one_settles true k = (refl, tt)
one_settles false k = tt

handed_settles : (a b k : ℕ) (o : Option Packet) → AreSettling (handed_by a b k o)
handed_settles a b k None = tt
handed_settles a b k (Some q) = one_settles (is_between a b q) (suc k)

pub handed_settle : (a b before n : ℕ) (ps : List Packet) → AreSettling (handed_to a b before n ps)
handed_settle a b before zero ps = tt
handed_settle a b before (suc n) ps = are_both (handed_to a b before n ps) (handing_over a b (before + n) ps) (handed_settle a b before n ps) (handed_settles a b (before + n) (slice_get ps (before + n)))

-- ---- what the network has of a packet

-- a packet that is kept, as bytes carry it
pub record CarriedAt (ps : List Packet) (k : ℕ) (part : Part) : Type 0 where
  pub packet : Packet
  pub at : packet_at ps (suc k) ≡ Some packet
  pub there : slice_get ps k ≡ Some packet
  pub is : part ≡ part_carried packet

pub carried_at : (ps : List Packet) (k : ℕ) (part : Part) → Some part ≡ option_map part_carried (packet_at ps (suc k)) → CarriedAt ps k part
carried_at ps k part is = by (packet_at ps (suc k)) refl is
  where
    by : (o : Option Packet) → packet_at ps (suc k) ≡ o → Some part ≡ option_map part_carried o → CarriedAt ps k part
    by None here none = absurd (cc)
    by (Some q) here same = record { packet = q; at = here; there = packet_found ps k q here; is = some_same same }

-- what is done of it
pub handed_none : (a b k : ℕ) (ps : List Packet) (part : Part) → (at : CarriedAt ps k part) → is_between a b at.packet ≡ false → [] ≡ handing_over a b k ps
handed_none a b k ps part at not =
    sym (ap (λ (o : Option Packet). handed_by a b k o) at.there ∙ ap (λ (t : Bool). let es : List Event = if t then Deliver (suc k) ∷ [] else [] in es) not)

pub handed_some : (a b k number : ℕ) (ps : List Packet) (part : Part) → (at : CarriedAt ps k part) → is_between a b at.packet ≡ true → number ≡ suc k → (let es : List Event = Deliver number ∷ [] in es) ≡ handing_over a b k ps
handed_some a b k number ps part at goes is =
    ap (λ (n : ℕ). let es : List Event = Deliver n ∷ [] in es) is
    ∙ sym (ap (λ (o : Option Packet). handed_by a b k o) at.there ∙ ap (λ (t : Bool). let es : List Event = if t then Deliver (suc k) ∷ [] else [] in es) goes)

-- the kind of an update is the second
update_kind : (q : Packet) → (let p : Part = part_carried q in p.kind == 2) ≡ is_update q.message
unfolding part_numbered
update_kind q = by q.message
  where
    by : (m : Message) → (let p : Part = part_carried (record q { message = m }) in p.kind == 2) ≡ is_update m
    by (Hello session number stored) = refl
    by (Update number x) = refl
    by (NetAck session number) = refl
    by (DataAck number) = refl

-- which way it goes, and that settling sends it
pub record GoesSo (a b : ℕ) (q : Packet) (goes : Bool) : Type 0 where
  pub is : goes ≡ is_between a b q
  pub sent : goes ≡ true → IsSent a b q

none_some : {A : Type 0} (x : A) → None ≡ Some x → ⊥
none_some x e = cc

pub goes_so : (a b : ℕ) (q : Packet) (part : Part) (goes : Bool) → part ≡ part_carried q
    → way_by ((part.source == a) && (part.target == b)) ((part.source == b) && (part.target == a)) (part.kind == 2) ≡ Some goes → GoesSo a b q goes
unfolding part_numbered
goes_so a b q part goes is way =
    by ((q.source == a) && (q.target == b)) ((q.source == b) && (q.target == a)) (is_update q.message) refl refl refl
    (ap (λ (u : Bool). way_by ((q.source == a) && (q.target == b)) ((q.source == b) && (q.target == a)) u) (sym (update_kind q))
    ∙ sym (ap (λ (p : Part). way_by ((p.source == a) && (p.target == b)) ((p.source == b) && (p.target == a)) (p.kind == 2)) is) ∙ way)
  where
    by : (f k u : Bool) → ((q.source == a) && (q.target == b)) ≡ f → ((q.source == b) && (q.target == a)) ≡ k → is_update q.message ≡ u → way_by f k u ≡ Some goes → GoesSo a b q goes
    by true k true forth back kind way = record {
      is = sym (some_same way) ∙ sym (ap (λ (t : Bool). t || ((q.source == b) && (q.target == a))) forth);
      sent = λ _. inl (eqb_equal q.source a (and_left (q.source == a) (q.target == b) forth), eqb_equal q.target b (and_right (q.source == a) (q.target == b) forth), kind);
    }
    by true k false forth back kind way = absurd (none_some goes way)
    by false true true forth back kind way = absurd (none_some goes way)
    by false true false forth back kind way = record {
      is = sym (some_same way) ∙ sym (ap (λ (t : Bool). t || ((q.source == b) && (q.target == a))) forth ∙ back);
      sent = λ _. inr (eqb_equal q.source b (and_left (q.source == b) (q.target == a) back), kind);
    }
    by false false u forth back kind way = record {
      is = sym (some_same way) ∙ sym (ap (λ (t : Bool). t || ((q.source == b) && (q.target == a))) forth ∙ back);
      sent = λ goes_it. absurd (let e : false ≡ true = some_same way ∙ goes_it in cc);
    }
