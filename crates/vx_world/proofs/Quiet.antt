-- Delivering what was sent, and what was sent in answer, leaves nothing to be delivered.
use Rattle.std.proofs.Common.{◌≡◌, ℕ, suc, ◌+◌, List, [], ◌∷◌, ◌++◌, length, refl, ap, sym, ◌∙◌, subst, append_assoc, drop, Bool, true, false}
use Rattle.std.proofs.lemmas.List.{append-nil}
use Rattle.std.specs.Prelude.{leb, slice_get, Some, None, Option, ◌&&◌}
use Rattle.std.specs.List.{AllByRecursion}
use Rattle.vx_model.specs.Content.{Write}
use Rattle.vx_history.specs.World.{World, Packet, Message, Hello, Update, NetAck, DataAck}
use Rattle.vx_model.specs.Sites.{is_origin}
use Rattle.vx_history.specs.Receiving.{received_step}
use Rattle.vx_history.specs.LinkForms.{plain_receiver}
use Rattle.vx_history.specs.declared.sender.SEvent.{SEvent}
use Rattle.vx_history.specs.declared.sender.SEvent.TheVariants.{Hello as HearHello, NetAck as HearNetAck, DataAck as HearDataAck}
use Rattle.vx_history.specs.declared.receiver.REvent.TheVariants.{Update as HearUpdate}
use Rattle.vx_history.specs.declared.receiver.RAction.{RAction}
use Rattle.vx_history.specs.declared.receiver.RAction.TheVariants.{Nothing as DoesNothing, Ignored as Ignores, IgnoredAck, Take, DataAck as AcksFromDisk}
use Rattle.vx_history.proofs.Updates.{by_test}
use Rattle.vx_history.specs.declared.event.Event.{Event}
use Rattle.vx_history.specs.declared.event.Event.TheVariants.{Deliver}
use Rattle.vx_history.specs.declared.event.Said.TheVariants.{Ignored as IsIgnored}
use Rattle.vx_history.specs.Sends.{is_linked, packets_of}
use Rattle.vx_history.specs.Refusals.{Outcome, says, is_running, keeps_links}
use Rattle.vx_model.specs.Sites.{is_up}
use Rattle.vx_history.specs.Events
use Rattle.vx_history.specs.Gatherings.{completes}
use Rattle.vx_model.specs.declared.limits.TheConstants.{MOST_PACKETS}
use Rattle.vx_history.specs.Step.{step, run}
use Rattle.vx_history.specs.Settling.{is_between, deliver_between, deliver_new, delivery}
use Rattle.vx_world.proofs.Lists.{each_append}
use Rattle.vx_world.proofs.Batches.{IsIn, in_head, in_tail, in_new}
use Rattle.vx_world.proofs.Turns.{run_append, new_between, nothing_new}

abbrev pub is_update : Message → Bool
is_update (Hello session number stored) = false
is_update (Update number x) = true
is_update (NetAck session number) = false
is_update (DataAck number) = false

-- to which nothing is answered
abbrev pub IsLast : Packet → Type 0
IsLast p = is_update p.message ≡ false

-- a world in which more was sent than in v, none of it to be answered
pub record Adds (v w : World) : Type 0 where
  pub more : List Packet
  pub sent : w.packets ≡ v.packets ++ more
  pub last : AllByRecursion IsLast more

adds_none : (v w : World) → w.packets ≡ v.packets → Adds v w
adds_none v w e = record { more = []; sent = e ∙ sym (append-nil v.packets); last = tt }

-- ## One packet

taken_adds : (v : World) (p : Packet) (x : Write) (action : RAction) → Adds v (Events.update_taken v p x action).world
taken_adds v p x DoesNothing = adds_none v v refl
taken_adds v p x Ignores = adds_none v v refl
taken_adds v p x (IgnoredAck number) = record {
  more = packets_of p.target p.source (v.nodes p.target).line
      (NetAck (v.nodes p.target).session number);
  sent = refl;
  last = (refl, tt);
}
taken_adds v p x (Take number) = by_whole (completes (v.gathering p.target) p)
  where
    by_whole : (b : Bool) → Adds v (Events.taken_if b v p x number).world
    by_whole true = record {
      more = packets_of p.target p.source (v.nodes p.target).line
          (NetAck (v.nodes p.target).session number);
      sent = refl;
      last = (refl, tt);
    }
    by_whole false = adds_none v v refl
taken_adds v p x (AcksFromDisk number) = adds_none v v refl

link_heard_same : (v : World) (p : Packet) (e : SEvent) → (Events.link_heard v p e).world.packets ≡ v.packets
link_heard_same v p e =
    by_test (λ (o : Outcome). o.world.packets ≡ v.packets) (keeps_links (v.nodes p.target).role && is_linked (v.links p.target p.source)) _
    (says v IsIgnored) (λ _. refl) (λ _. refl)

pub heard_adds : (v : World) (p : Packet) (m : Message) → Adds v (Events.heard v p m).world
heard_adds v p (Hello session number stored) = adds_none v _ (link_heard_same v p (HearHello session number stored))
heard_adds v p (Update number x) =
    by_test (λ (o : Outcome). Adds v o.world) (is_origin (v.nodes p.target).role) (says v IsIgnored) _ (λ _. adds_none v v refl)
    (λ _. taken_adds v p x (received_step (plain_receiver (v.nodes p.target)) (HearUpdate p.line number)).action)
heard_adds v p (NetAck session number) = adds_none v _ (link_heard_same v p (HearNetAck session number))
heard_adds v p (DataAck number) = adds_none v _ (link_heard_same v p (HearDataAck number))

heard_same : (v : World) (p : Packet) (m : Message) → is_update m ≡ false → (Events.heard v p m).world.packets ≡ v.packets
heard_same v p (Hello session number stored) e = link_heard_same v p (HearHello session number stored)
heard_same v p (Update number x) e = absurd (cc)
heard_same v p (NetAck session number) e = link_heard_same v p (HearNetAck session number)
heard_same v p (DataAck number) e = link_heard_same v p (HearDataAck number)

-- whatever is said of a packet, and whatever is in assembly
gathers_by : (P : List Packet → Type 0) (p : Packet) (o : Outcome) → P o.world.packets → P (Events.gathers p o).world.packets
gathers_by P p o h = by_taken (Events.is_taken o.said)
  where
    by_taken : (b : Bool) → P (Events.gathered_if b o.world p).packets
    by_taken true = h
    by_taken false = h

handed_by : (P : List Packet → Type 0) (v : World) (p : Packet) → P v.packets → P (Events.heard v p p.message).world.packets
    → P (Events.gathers p (Events.handed v p)).world.packets
handed_by P v p h k =
    gathers_by P p (Events.handed v p)
    (by_test (λ (o : Outcome). P o.world.packets) (is_up (v.nodes p.target).state && is_running (v.nodes p.target).halted) _ (says v IsIgnored) (λ _. k)
    (λ _. h))

-- more was sent, none of it to be answered
abbrev Added : List Packet → List Packet → Type 0
Added ps qs = (more : List Packet) × (qs ≡ ps ++ more) × AllByRecursion IsLast more

delivered_adds : (v : World) (number : ℕ) (p : Option Packet) → Adds v (Events.delivered v number p).world
delivered_adds v number None = adds_none v v refl
delivered_adds v number (Some p) =
    let h : Adds v (Events.heard v p p.message).world = heard_adds v p p.message in
    let added : Added v.packets (Events.gathers p (Events.handed v p)).world.packets = handed_by (Added v.packets) v p ([], sym (append-nil v.packets), tt)
    (h.more, h.sent, h.last) in
    record { more = added.0; sent = added.1; last = added.2 }

delivered_same : (v : World) (k : ℕ) (p : Packet) → slice_get v.packets k ≡ Some p → IsLast p → (step v (Deliver (suc k))).world.packets ≡ v.packets
delivered_same v k p e last =
    by_test (λ (q : Option Packet). (Events.delivered v (suc k) q).world.packets ≡ v.packets) (leb (suc k + MOST_PACKETS) (length v.packets)) None
    (slice_get v.packets k)
    (λ _. refl)
    (λ _. subst (λ (q : Option Packet). (Events.delivered v (suc k) q).world.packets ≡ v.packets) (sym e)
    (handed_by (λ (ps : List Packet). ps ≡ v.packets) v p refl (heard_same v p p.message last)))

-- ## Batches

-- more is sent, and then more again
joins : (v u w : World) → Adds v u → Adds u w → Adds v w
joins v u w first rest = record {
  more = first.more ++ rest.more;
  sent = rest.sent ∙ ap (λ (t : List Packet). t ++ rest.more) first.sent ∙ append_assoc v.packets first.more rest.more;
  last = each_append IsLast first.more rest.more first.last rest.last;
}

batch_adds : (p s : ℕ) (qs : List Packet) (k : ℕ) (v : World) → Adds v (run v (deliver_between p s k qs))
batch_adds p s [] k v = adds_none v v refl
batch_adds p s (q ∷ qs) k v =
    let u : World = (step v (Deliver (suc k))).world in
    let first : Adds v (Events.delivered v (suc k) (Events.packet_at v.packets (suc k))).world = delivered_adds v (suc k)
    (Events.packet_at v.packets (suc k)) in
    let more : Adds v u = record { more = first.more; sent = first.sent; last = first.last } in
    by_test (λ (es : List Event). Adds v (run v es)) (is_between p s q) (Deliver (suc k) ∷ deliver_between p s (suc k) qs) (deliver_between p s (suc k) qs)
    (λ _. joins v u (run u (deliver_between p s (suc k) qs)) more (batch_adds p s qs (suc k) u))
    (λ _. batch_adds p s qs (suc k) v)

batch_same : (p s : ℕ) (qs : List Packet) (k : ℕ) (v : World) → IsIn v.packets k qs → AllByRecursion IsLast qs
    → (run v (deliver_between p s k qs)).packets ≡ v.packets
batch_same p s [] k v is last = refl
batch_same p s (q ∷ qs) k v is (last, rest) =
    let u : World = (step v (Deliver (suc k))).world in
    let same : u.packets ≡ v.packets = delivered_same v k q (in_head v.packets k q qs is) last in
    by_test (λ (es : List Event). (run v es).packets ≡ v.packets) (is_between p s q) (Deliver (suc k) ∷ deliver_between p s (suc k) qs)
    (deliver_between p s (suc k) qs)
    (λ _. batch_same p s qs (suc k) u (subst (λ (x : List Packet). IsIn x (suc k) qs) (sym same) (in_tail v.packets k q qs is)) rest ∙ same)
    (λ _. batch_same p s qs (suc k) v (in_tail v.packets k q qs is) rest)

-- behind both rounds nothing was sent that was not there behind the first
pub none_left : (p s : ℕ) (old w : World) → deliver_new p s (run w (deliver_new p s old w)) (run w (delivery p s old w)) ≡ []
none_left p s old w =
    let v : World = run w (deliver_new p s old w) in
    let adds : Adds w v = batch_adds p s (drop (length old.packets) w.packets) (length old.packets) w in
    let second : deliver_new p s w v ≡ deliver_between p s (length w.packets) adds.more = new_between p s w v w.packets adds.more refl adds.sent in
    let same : (run v (deliver_new p s w v)).packets ≡ v.packets =
    ap (λ (es : List Event). (run v es).packets) second
    ∙ batch_same p s adds.more (length w.packets) v
    (subst (λ (x : List Packet). IsIn x (length w.packets) adds.more) (sym adds.sent) (in_new w.packets adds.more)) adds.last in
    subst (λ (x : World). deliver_new p s v x ≡ []) (sym (run_append w (deliver_new p s old w) (deliver_new p s w v)))
    (nothing_new p s v (run v (deliver_new p s w v)) v.packets refl same)
