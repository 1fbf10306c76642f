-- What each event of which settling is made changes of a world.
use Rattle.std.proofs.Common.{◌≡◌, ◌∙◌, ◌+◌, ◌-◌, ◌<◌, ℕ, zero, suc, List, Bool, true, false, refl, ap, sym, subst, arith}
use Rattle.std.proofs.lemmas.Bool.Decides.{nat_tests}
use Rattle.std.specs.List.{AllByRecursion}
use Rattle.std.specs.Prelude.{not, ◌&&◌, eqb, leb, ltb, min, Option, Some, None, if◌then◌else◌}
use Rattle.vx_model.specs.Content.{Write}
use Rattle.vx_model.specs.Sites.{is_origin, is_up}
use Rattle.vx_model.specs.declared.site.Mark.TheVariants.{Consistent}
use Rattle.vx_model.specs.declared.site.SPhase.{SPhase}
use Rattle.vx_model.specs.declared.no.No.TheVariants.{LinkDown, Paused}
use Rattle.vx_model.specs.declared.no.SiteName.TheVariants.{Number as SiteNumber}
use Rattle.vx_history.proofs.Behind.{link_by, site_by, unless_by, work_by}
use Rattle.vx_history.proofs.Updates.{by_test}
use Rattle.vx_history.specs.Events.{acknowledged, applied, applied_by, apply_at, delivered, receiver_facts, gathered_if, greeting_back, handed, heard, is_taken, link_event, link_heard, link_step, packet_at, reached_at, said_of_link, taken_if, ticked_at, ticked_link, update_taken, with_write}
use Rattle.vx_history.specs.Gatherings.{completes}
use Rattle.vx_history.specs.Headers.{count_at, heard_headers}
use Rattle.vx_history.specs.LinkForms.{plain_link, plain_receiver, with_plain}
use Rattle.vx_history.specs.Receiving.{Received, is_log_phase, received_step, with_applied}
use Rattle.vx_history.specs.Refusals.{Outcome, at_work, is_running, keeps_links, says, unless, when_live}
use Rattle.vx_history.specs.Sending.{Sent, sent_step}
use Rattle.vx_history.specs.Sends.{is_linked, packets_of, sending, sent_by, with_link}
use Rattle.vx_history.specs.Step.{done, outcome_of, step}
use Rattle.vx_history.specs.World.{DataAck, Hello, Link, Message, NetAck, Node, Packet, Update, World, no_regions, updated}
use Rattle.vx_history.specs.declared.event.Event.TheVariants.{Apply, Connect, Deliver, Pump, Tick}
use Rattle.vx_history.specs.declared.event.Said.TheVariants.{Ignored as IsIgnored}
use Rattle.vx_history.specs.declared.receiver.RAction.{RAction}
use Rattle.vx_history.specs.declared.receiver.RAction.TheVariants.{DataAck as AcksFromDisk, Ignored as Ignores, IgnoredAck, Nothing as DoesNothing, Take}
use Rattle.vx_history.specs.declared.receiver.REvent.TheVariants.{Update as HearUpdate}
use Rattle.vx_history.specs.declared.receiver.RState.{RState}
use Rattle.vx_history.specs.declared.sender.SEvent.{SEvent}
use Rattle.vx_history.specs.declared.sender.SEvent.TheVariants.{Connect as ConnectLink, DataAck as HearDataAck, Hello as HearHello, NetAck as HearNetAck, Pump as PumpLink, Tick as TickLink}
use Rattle.vx_settling.specs.Between.{is_update}
use Rattle.vx_settling.proofs.Rules.{PlainGoes, connect_goes, disk_goes, goes_plain, hello_goes, memory_goes, pump_goes, tick_goes}
use Rattle.vx_settling.proofs.Taking.{takes_applied, takes_written}
use Rattle.vx_settling.proofs.Touching.{Changed, LinkTouch, SiteTouch, Touch, link_moved, link_same, site_gathered, site_linked, site_same, site_sent, site_taken, touch_same, with_headers}

-- ---- behind tests

-- ---- the link's own events

module _ (Q : Packet → Type 0) (f t g p s : ℕ) (w : World) where
  abbrev P : World → Type 0
  P v = Touch Q f t g p s w v

  abbrev link : Link
  link = w.links p s

  -- the link as its rule leaves it, and what is sent on it
  pub event_touch : (e : SEvent) → PlainGoes (plain_link s link) (link_step w p s e).link → AllByRecursion Q (sent_by (link_step w p s e).action p s (w.nodes p)) → P (link_event w p s e)
  event_touch e goes all =
      let r : Sent = link_step w p s e in
      let m : Link = with_plain link r.link in
      let moved : LinkTouch p s w (with_link w p s m) = link_moved p s w m (goes_plain s link r.link link.since goes) in
      record {
        site = site_sent Q f t g w (with_link w p s m) (sent_by r.action p s (w.nodes p)) (site_linked Q f t g w w p (updated (w.links p) s m) (site_same Q f t g w)) all;
        link = record { rows = moved.rows; links = moved.links; link = moved.link };
      }

  pub connect_changes : AllByRecursion Q (greeting_back w p s) → Changed Q f t g p s w (step w (Connect p s)).world
  connect_changes all =
      let v : World = link_event w p s ConnectLink in
      let qs : List Packet = greeting_back w p s in
      let m : P v = event_touch ConnectLink (connect_goes (plain_link s link) (receiver_facts (w.nodes p) (w.nodes p).line)) tt in
      with_headers Q f t g p s w (outcome_of w (Connect p s)).world (λ i. 0) (λ i apart. refl)
      (link_by P w p s (done (sending v qs)) (touch_same Q f t g p s w)
      (record { site = site_sent Q f t g w v qs m.site all; link = record { rows = m.link.rows; links = m.link.links; link = m.link.link } }))

  pub tick_changes : Changed Q f t g p s w (step w (Tick p s)).world
  tick_changes =
      let l : Link = ticked_link w p s in
      with_headers Q f t g p s w (outcome_of w (Tick p s)).world (λ i. 0) (λ i apart. refl)
      (link_by P w p s (done (ticked_at w p s)) (touch_same Q f t g p s w)
      (record {
        site = site_linked Q f t g w w p (updated (w.links p) s l) (site_same Q f t g w);
        link = link_moved p s w l (goes_plain s link (link_step w p s TickLink).link no_regions (tick_goes (plain_link s link) (receiver_facts (w.nodes p) (w.nodes p).line)));
      }))

  pub pump_by : (P : World → Type 0) → P w → P (link_event w p s PumpLink) → P (outcome_of w (Pump p s)).world
  pump_by P here there =
      let last : Outcome = done (link_event w p s PumpLink) in
      link_by P w p s (when_live w s link last) here
      (unless_by P (not (link.attached && link.connected)) (LinkDown (SiteNumber s)) w (unless link.paused Paused w last) here (unless_by P link.paused Paused w last here there))

  pub pump_changes : AllByRecursion Q (sent_by (link_step w p s PumpLink).action p s (w.nodes p)) → Changed Q f t g p s w (step w (Pump p s)).world
  pump_changes all =
      with_headers Q f t g p s w (outcome_of w (Pump p s)).world (λ i. 0) (λ i apart. refl)
      (pump_by P (touch_same Q f t g p s w) (event_touch PumpLink (pump_goes (plain_link s link) (receiver_facts (w.nodes p) (w.nodes p).line)) all))

-- ---- records that are applied

some_of : (k : ℕ) → eqb k 0 ≡ false → 0 < k
some_of zero e = absurd (cc)
some_of (suc k) e = omega arith

module _ (Q : Packet → Type 0) (f g p q s : ℕ) (w : World) (all : (number : ℕ) → AllByRecursion Q (packets_of s (w.nodes s).fed_by (w.nodes s).line (DataAck number))) where
  abbrev Applies : World → Type 0
  Applies v = Touch Q f s g p q w v

  by_count : is_origin (w.nodes s).role ≡ false → (count : ℕ) → Applies (apply_at w s count).world
  by_count receives count =
      let n : Node = w.nodes s in
      let st : RState = plain_receiver n in
      let left : ℕ = st.waiting - count in
      let number : ℕ = st.last - left in
      by_test (λ (r : Received). Applies (applied_by w s r.state r.action).world) (eqb (min count st.waiting) 0) (record { state = st; action = DoesNothing }) (with_applied st left)
      (λ _. touch_same Q f s g p q w)
      (λ some.
      let few : 0 < min count st.waiting = some_of (min count st.waiting) some in
      let after : Node = applied n number (with_applied st left).state.mark in
      record {
        site = site_sent Q f s g w _ (packets_of s n.fed_by n.line (DataAck number))
            (site_taken Q f s g w after
            (takes_applied f n number (with_applied st left).state.mark (omega (arith, few)) (omega arith)
            (λ quiet. ap (λ (phase : SPhase). (let behind : RState = record st { waiting = left } in if is_log_phase phase && leb n.end number then (record behind { mark = Consistent }) else behind).mark) quiet))
            receives) (all number);
        link = link_same p q w (acknowledged w s after) (λ i k. refl);
      })

  pub apply_changes : (count reached : ℕ) → Changed Q f s g p q w (step w (Apply s count reached)).world
  apply_changes count reached =
      let n : Node = w.nodes s in
      let last : Outcome = (if is_origin n.role then reached_at w s count reached else apply_at w s count) in
      let same : Applies w = touch_same Q f s g p q w in
      with_headers Q f s g p q w (outcome_of w (Apply s count reached)).world (λ i. 0) (λ i apart. refl)
      (site_by Applies w s (at_work w s last) same
      (work_by Applies w s last same
      (by_test (λ (o : Outcome). Applies o.world) (is_origin n.role) (reached_at w s count reached) (apply_at w s count) (λ _. same) (λ receives. by_count receives count))))

-- ---- packets

-- a packet that is handed to its target
handed_by : (P : World → Type 0) (w : World) (q : Packet) → P w → P (heard w q q.message).world → P (handed w q).world
handed_by P w q here there =
    by_test (λ (o : Outcome). P o.world) (is_up (w.nodes q.target).state && is_running (w.nodes q.target).halted) (heard w q q.message) (says w IsIgnored) (λ _. there) (λ _. here)

-- the world behind a delivery, by the packet of its number
abbrev behind : World → (number : ℕ) → Option Packet → World
behind w number o = record (delivered w number o).world { headers = λ i. w.headers i + heard_headers w (delivered w number o).world i o }

-- an update changes its target alone
module _ (Q : Packet → Type 0) (p s : ℕ) (w : World) (q : Packet) (k : ℕ) (x : Write) (is : q.message ≡ Update k x)
    (acks : (number : ℕ) → AllByRecursion Q (packets_of q.target q.source (w.nodes q.target).line (NetAck (w.nodes q.target).session number))) where
  record Hands (v : World) : Type 0 where
    site : SiteTouch Q q.source q.target q.target w v
    links : (i j : ℕ) → v.links i j ≡ w.links i j

  hands_none : Hands w
  hands_none = record { site = site_same Q q.source q.target q.target w; links = λ i j. refl }

  by_whole : is_origin (w.nodes q.target).role ≡ false → (whole : Bool) (number : ℕ) → Hands (taken_if whole w q x number).world
  by_whole receives true number = record {
    site = site_sent Q q.source q.target q.target w _ _
        (site_taken Q q.source q.target q.target w (with_write (w.nodes q.target) q.source x) (takes_written q.source (w.nodes q.target) x) receives) (acks number);
    links = λ i j. refl;
  }
  by_whole receives false number = hands_none

  by_action : is_origin (w.nodes q.target).role ≡ false → (r : RAction) → Hands (update_taken w q x r).world
  by_action receives DoesNothing = hands_none
  by_action receives Ignores = hands_none
  by_action receives (IgnoredAck number) = record {
    site = site_sent Q q.source q.target q.target w w _ (site_same Q q.source q.target q.target w) (acks number);
    links = λ i j. refl;
  }
  by_action receives (Take number) = by_whole receives (completes (w.gathering q.target) q) number
  by_action receives (AcksFromDisk number) = hands_none

  hands_heard : Hands (heard w q q.message).world
  hands_heard =
      subst (λ (m : Message). Hands (heard w q m).world) (sym is)
      (by_test (λ (o : Outcome). Hands o.world) (is_origin (w.nodes q.target).role) (says w IsIgnored) _ (λ _. hands_none)
      (λ receives. by_action receives (received_step (plain_receiver (w.nodes q.target)) (HearUpdate q.line k)).action))

  links_gathered : (v : World) (taken : Bool) → ((i j : ℕ) → v.links i j ≡ w.links i j) → (i j : ℕ) → (gathered_if taken v q).links i j ≡ w.links i j
  links_gathered v true same = same
  links_gathered v false same = same

  none_here : (v : World) (i : ℕ) → v.links q.target q.source ≡ w.links q.target q.source → heard_headers w v i (Some q) ≡ 0
  none_here v i same =
      ap (λ (b : Bool). count_at q.target i (if b then 1 else 0)) (equal (w.links q.target q.source).stored (v.links q.target q.source).stored (ap (λ (l : Link). l.stored) same))
      ∙ none (eqb q.target i)
    where
      equal : (m n : ℕ) → n ≡ m → ltb m n ≡ false
      equal m n e = grind (arith, nat_tests)

      none : (b : Bool) → (let n : ℕ = if b then 0 else 0 in n) ≡ 0
      none true = refl
      none false = refl

  pub update_changes : (number : ℕ) → packet_at w.packets number ≡ Some q → Changed Q q.source q.target q.target p s w (step w (Deliver number)).world
  update_changes number at =
      let o : Outcome = handed w q in
      let hands : Hands o.world = handed_by Hands w q hands_none hands_heard in
      let v : World = gathered_if (is_taken o.said) o.world q in
      let same = links_gathered o.world (is_taken o.said) hands.links in
      subst (λ (x : Option Packet). Changed Q q.source q.target q.target p s w (behind w number x)) (sym at)
      (with_headers Q q.source q.target q.target p s w v (λ i. heard_headers w v i (Some q)) (λ i apart. none_here v i (same q.target q.source))
      (record {
        site = site_gathered Q q.source q.target q.target w o.world q (is_taken o.said) refl hands.site;
        link = link_same p s w v same;
      }))

-- an answer or a greeting moves the target's link to its source
module _ (Q : Packet → Type 0) (f t : ℕ) (w : World) (q : Packet) where
  abbrev T : World → Type 0
  T v = Touch Q f t q.target q.target q.source w v

  touch_none : T w
  touch_none = touch_same Q f t q.target q.target q.source w

  by_link : (e : SEvent) → ((facts : _) → PlainGoes (plain_link q.source (w.links q.target q.source)) (sent_step (plain_link q.source (w.links q.target q.source)) e facts).link)
      → T (link_heard w q e).world
  by_link e goes =
      let l : Link = w.links q.target q.source in
      let r : Sent = sent_step (plain_link q.source l) e (receiver_facts (w.nodes q.target) q.line) in
      let m : Link = with_plain l r.link in
      by_test (λ (o : Outcome). T o.world) (keeps_links (w.nodes q.target).role && is_linked l) (says (with_link w q.target q.source m) (said_of_link r.action)) (says w IsIgnored)
      (λ _. record {
        site = site_linked Q f t q.target w w q.target (updated (w.links q.target) q.source m) (site_same Q f t q.target w);
        link = link_moved q.target q.source w m (goes_plain q.source l r.link l.since (goes (receiver_facts (w.nodes q.target) q.line)));
      })
      (λ _. touch_none)

  by_message : (m : Message) → is_update m ≡ false → T (heard w q m).world
  by_message (Hello session number stored) other = by_link (HearHello session number stored) (λ facts. hello_goes _ session number stored facts)
  by_message (Update number x) other = absurd (cc)
  by_message (NetAck session number) other = by_link (HearNetAck session number) (λ facts. memory_goes _ session number facts)
  by_message (DataAck number) other = by_link (HearDataAck number) (λ facts. disk_goes _ number facts)

  link_gathered : (v : World) (taken : Bool) → LinkTouch q.target q.source w v → LinkTouch q.target q.source w (gathered_if taken v q)
  link_gathered v true m = record { rows = m.rows; links = m.links; link = m.link }
  link_gathered v false m = m

  none_there : (v : World) (i : ℕ) → (i ≡ q.target → ⊥) → heard_headers w v i (Some q) ≡ 0
  none_there v i apart =
      ap (λ (b : Bool). if b then (if ltb (w.links q.target q.source).stored (v.links q.target q.source).stored then 1 else 0) else 0) (differs q.target i apart)
    where
      differs : (m n : ℕ) → (n ≡ m → ⊥) → eqb m n ≡ false
      differs m n h = grind (arith, nat_tests)

  pub answer_changes : (number : ℕ) → packet_at w.packets number ≡ Some q → is_update q.message ≡ false
      → Changed Q f t q.target q.target q.source w (step w (Deliver number)).world
  answer_changes number at other =
      let o : Outcome = handed w q in
      let m : T o.world = handed_by T w q touch_none (by_message q.message other) in
      let v : World = gathered_if (is_taken o.said) o.world q in
      subst (λ (x : Option Packet). Changed Q f t q.target q.target q.source w (behind w number x)) (sym at)
      (with_headers Q f t q.target q.target q.source w v (λ i. heard_headers w v i (Some q)) (λ i apart. none_there v i apart)
      (record {
        site = site_gathered Q f t q.target w o.world q (is_taken o.said) refl m.site;
        link = link_gathered o.world (is_taken o.said) m.link;
      }))

-- a packet that the network has let go changes nothing
pub gone_is : (w : World) (number : ℕ) → packet_at w.packets number ≡ None → (step w (Deliver number)).world ≡ record w { headers = λ i. w.headers i + 0 }
gone_is w number at = ap (λ (o : Option Packet). behind w number o) at
