-- What is sent on links, and what is delivered, keeps what holds of the world.
use Rattle.std.proofs.Common.{◌≡◌, ℕ, ◌+◌, ◌≤◌, ◌++◌, [], ◌∷◌, length, refl, ap, sym, ◌∙◌, subst, arith, take, Bool, true, false, length-append}
use Rattle.std.proofs.lemmas.Bool.{not-true}
use Rattle.std.specs.Prelude.{leb, ltb, if◌then◌else◌, eqb, min, max, slice_get, Some, None, Option, ◌&&◌, ◌||◌, not, zero, suc}
use Rattle.std.specs.List.{AllByRecursion}
use Rattle.vx_model.specs.Content.{Write, IsNumber, IsPrefixOf}
use Rattle.vx_history.specs.World.{World, Node, Link, Packet, Message, Hello, Update, NetAck, DataAck, with_node}
use Rattle.vx_model.specs.Sites.{is_origin, same_line}
use Rattle.vx_history.specs.Good.{IsMade}
use Rattle.vx_history.specs.Admission.{is_live_link}
use Rattle.vx_history.specs.Sending.{Sent, sent_step, by_log, pumped_up_to, with_nothing}
use Rattle.vx_history.specs.Receiving.{Received, takes, repeats, with_next, phase_takes}
use Rattle.vx_history.specs.LinkForms.{plain_link, with_plain, plain_receiver}
use Rattle.vx_model.specs.declared.history.Line.{Line}
use Rattle.vx_model.specs.declared.site.SiteState.TheVariants.{Up}
use Rattle.vx_model.specs.declared.link.Link.{Link as PlainLink}
use Rattle.vx_history.specs.declared.sender.SEvent.{SEvent}
use Rattle.vx_history.specs.declared.sender.SEvent.TheVariants.{Pump as PumpLink, Connect as ConnectLink, Hello as HearHello, NetAck as HearNetAck, DataAck as HearDataAck}
use Rattle.vx_history.specs.declared.sender.Action.TheVariants.{Updates}
use Rattle.vx_history.specs.declared.receiver.RState.{RState}
use Rattle.vx_history.specs.declared.receiver.RAction.TheVariants.{Ignored as Ignores, IgnoredAck, Take}
use Rattle.vx_model.specs.declared.no.No.TheVariants.{Unknown, Unconfirmed}
use Rattle.vx_model.specs.declared.no.Named.TheVariants.{Number as ByNumber}
use Rattle.vx_history.proofs.Updates.{by_test, and_left, and_right, same_line_equal, at_place, eqb_equal}
use Rattle.vx_history.proofs.GoodLemmas.{up_is_made}
use Rattle.vx_history.proofs.StateCases.{runs_is, up_is}
use Rattle.vx_history.specs.declared.event.Said.TheVariants.{Ignored as IsIgnored, Pending, DoneAt}
use Rattle.vx_history.specs.Sends.{is_linked, with_link, sending, promising, packets_of, greeting, sent_by}
use Rattle.vx_history.specs.Refusals.{Outcome, says, unless, is_running, keeps_links, some_below, is_unconfirmed, holds_back}
use Rattle.vx_model.specs.Sites.{is_up}
use Rattle.vx_history.specs.Events
use Rattle.vx_history.specs.Gatherings.{completes}
use Rattle.vx_model.specs.declared.limits.TheConstants.{MOST_AHEAD, MOST_PACKETS}
use Rattle.vx_history.specs.Sound.{GoodLink, GoodMessage, GoodPacket, IsStranger, StrangerSays, Sound}
use Rattle.vx_world.proofs.Lists.{prefix_refl, prefix_trans, prefix_take, each_found, not_both}
use Rattle.vx_world.proofs.Moves.{sound_gathering, sound_sending, sound_promising, sound_with_link, sound_with_node, good_later, stranger_of_links, still_linked}
use Rattle.vx_world.proofs.Tests.{Keeps, unless_keeps}
use Rattle.vx_world.proofs.Changes.{greeting_good, memory_good, up_whole}
use Rattle.vx_world.proofs.Nodes
use Rattle.vx_world.proofs.Links

-- who has a link of the line's origin is no stranger
pub no_stranger : (nodes : ℕ → Node) (links : ℕ → ℕ → Link) (p s : ℕ) (line : Line) → line.origin ≡ p → is_linked (links p s) ≡ true
    → IsStranger nodes links line s → ⊥
no_stranger nodes links p s line e linked (g, none, plain) = not_both (is_linked (links p s)) linked (ap (λ (j : ℕ). is_linked (links j s)) (sym e) ∙ none)

-- ## Links

-- a link as its rule leaves it, with what is sent on it
pub moved_keeps : (w : World) (p q : ℕ) (r : Sent) → Sound w
    → GoodLink (w.lines (w.nodes p).line) p q (w.nodes p) (w.nodes q) (with_plain (w.links p q) r.link)
    → AllByRecursion (GoodPacket w.nodes (with_link w p q (with_plain (w.links p q) r.link)).links w.lines) (sent_by r.action p q (w.nodes p)) → Sound
    (Events.moved_by w p q r)
moved_keeps w p q r s good sent =
    sound_sending (with_link w p q (with_plain (w.links p q) r.link)) (sent_by r.action p q (w.nodes p))
    (sound_with_link w p q (with_plain (w.links p q) r.link) s good (λ is. is) (λ _ is. is))
    sent

-- a link of which nothing changes that anything is said of
pub quiet_keeps : (w : World) (p q : ℕ) (connected paused : Bool) (sent trimmed : ℕ) → Sound w
    → Sound (Events.moved_by w p q (with_nothing (record (plain_link q (w.links p q)) { connected = connected; paused = paused; sent = sent; trimmed = trimmed })))
quiet_keeps w p q connected paused sent trimmed s =
    moved_keeps w p q (with_nothing (record (plain_link q (w.links p q)) { connected = connected; paused = paused; sent = sent; trimmed = trimmed })) s
    (Links.link_like (w.lines (w.nodes p).line) p q (w.nodes p) (w.nodes q) (w.links p q) _ refl refl refl refl (λ says. says) (s.links p q))
    tt

pub pump_keeps : (w : World) (p q : ℕ) → Sound w → (w.nodes p).state ≡ Up → is_linked (w.links p q) ≡ true → Sound (Events.link_event w p q PumpLink)
pump_keeps w p q s up linked =
    let n : Node = w.nodes p in
    let l : PlainLink = plain_link q (w.links p q) in
    let low : ℕ = max l.sent l.stored in
    let high : ℕ = min n.safe (l.net + MOST_AHEAD) in
    by_test (λ (r : Sent). Sound (Events.moved_by w p q r)) (is_live_link l && by_log l.mode) (pumped_up_to l low high) (with_nothing l)
    (λ _. by_test (λ (r : Sent). Sound (Events.moved_by w p q r)) (ltb low high)
    (record { link = record l { sent = high }; action = Updates (low + 1) high }) (with_nothing (record l { sent = low }))
    (λ _. sends low high (omega arith))
    (λ _. quiet_keeps w p q l.connected l.paused low l.trimmed s))
    (λ _. quiet_keeps w p q l.connected l.paused l.sent l.trimmed s)
  where
    sends : (low high : ℕ) → high ≤ (w.nodes p).safe
        → Sound (Events.moved_by w p q (record { link = record (plain_link q (w.links p q)) { sent = high }; action = Updates (low + 1) high }))
    sends low high most =
        let n : Node = w.nodes p in
        let made : IsMade n = up_is_made n up in
        let m : Link = record (w.links p q) { sent = high } in
        let r : Sent = record { link = record (plain_link q (w.links p q)) { sent = high }; action = Updates (low + 1) high } in
        moved_keeps w p q r s
        (Links.link_like (w.lines n.line) p q n (w.nodes q) (w.links p q) m refl refl refl refl (λ says. says) (s.links p q))
        (Links.sent_good (GoodPacket w.nodes (with_link w p q m).links w.lines) p q n (w.lines n.line).held
        (durable made)
        (λ number x is _. record {
          said = is;
          known = λ g. apart made (stranger_of_links w.nodes w.links (with_link w p q m).links (still_linked w p q m (λ is. is)) n.line q g);
          came = s.stands p made;
        })
        (low + 1) high (omega arith) most)
      where
        -- what is durable at a site that sends is what its line holds, or a first part of it
        durable : IsMade (w.nodes p) → IsPrefixOf (take (w.nodes p).safe (w.nodes p).log) (w.lines (w.nodes p).line).held
        durable made = by_origin (is_origin (w.nodes p).role) refl
          where
            by_origin : (b : Bool) → is_origin (w.nodes p).role ≡ b
                → IsPrefixOf (take (w.nodes p).safe (w.nodes p).log) (w.lines (w.nodes p).line).held
            by_origin true o = subst (λ t. IsPrefixOf t (w.lines (w.nodes p).line).held) (sym ((s.good.nodes p).origin_log made o))
                (prefix_refl (w.lines (w.nodes p).line).held)
            by_origin false r = prefix_trans (take (w.nodes p).safe (w.nodes p).log) (w.nodes p).log (w.lines (w.nodes p).line).held
                (prefix_take (w.nodes p).safe (w.nodes p).log) ((s.good.nodes p).receiver_log made r)

        -- and who has its link is no stranger
        apart : IsMade (w.nodes p) → IsStranger w.nodes w.links (w.nodes p).line q → ⊥
        apart made g = by_origin (is_origin (w.nodes p).role) refl
          where
            by_origin : (b : Bool) → is_origin (w.nodes p).role ≡ b → ⊥
            by_origin true o = no_stranger w.nodes w.links p q (w.nodes p).line ((s.good.nodes p).own_line made o) linked g
            by_origin false r = s.bunkers p q linked r g

greets_is : (a b : Node) → Events.greets a b ≡ true → (b.state ≡ Up) × (is_origin b.role ≡ false) × (b.halted ≡ None)
greets_is a b g =
    let rest : (is_running b.halted && (not (is_origin b.role) && same_line b.line a.line)) ≡ true = and_right (is_up b.state)
    (is_running b.halted && (not (is_origin b.role) && same_line b.line a.line)) g in (
      up_is b.state (and_left (is_up b.state) (is_running b.halted && (not (is_origin b.role) && same_line b.line a.line)) g),
      not-true (is_origin b.role) (and_left (not (is_origin b.role)) (same_line b.line a.line)
          (and_right (is_running b.halted) (not (is_origin b.role) && same_line b.line a.line) rest)),
      runs_is b.halted (and_left (is_running b.halted) (not (is_origin b.role) && same_line b.line a.line) rest),
    )

pub connect_keeps : (w : World) (p q : ℕ) → Sound w → Sound (sending (Events.link_event w p q ConnectLink) (Events.greeting_back w p q))
connect_keeps w p q s =
    let v : World = Events.link_event w p q ConnectLink in
    let l : PlainLink = plain_link q (w.links p q) in
    let sound : Sound v = quiet_keeps w p q true l.paused l.sent l.trimmed s in
    sound_sending v (Events.greeting_back w p q) sound
    (by_test (AllByRecursion (GoodPacket v.nodes v.links v.lines)) (Events.greets (w.nodes p) (w.nodes q)) (greeting q p (w.nodes q)) []
    (λ g. let is = greets_is (w.nodes p) (w.nodes q) g in greeting_good v q p sound (up_is_made (w.nodes q) is.0) is.1 is.0 is.2)
    (λ _. tt))

-- ## Packets

link_heard_keeps : (w : World) (p : Packet) (e : SEvent) → Sound w
    → GoodLink (w.lines (w.nodes p.target).line) p.target p.source (w.nodes p.target) (w.nodes p.source) (with_plain (w.links p.target p.source) (sent_step (plain_link p.source (w.links p.target p.source)) e (Events.receiver_facts (w.nodes p.target) p.line)).link) → Keeps (Events.link_heard w p e)
link_heard_keeps w p e s good =
    let r : Sent = sent_step (plain_link p.source (w.links p.target p.source)) e (Events.receiver_facts (w.nodes p.target) p.line) in
    by_test Keeps (keeps_links (w.nodes p.target).role && is_linked (w.links p.target p.source))
    (says (with_link w p.target p.source (with_plain (w.links p.target p.source) r.link)) (Events.said_of_link r.action)) _
    (λ _. sound_with_link w p.target p.source (with_plain (w.links p.target p.source) r.link) s good (λ is. is) (λ _ is. is))
    (λ _. s)

from_memory_keeps : (w : World) (p : Packet) (n : Node) (number : ℕ) → Sound w → w.nodes p.target ≡ n → IsMade n → is_origin n.role ≡ false
    → number ≤ length n.log → Sound (Events.from_memory w n p number)
from_memory_keeps w p n number s is made r has =
    sound_sending w (packets_of p.target p.source n.line (NetAck n.session number)) s
    (subst (λ (x : Node). IsMade x → is_origin x.role ≡ false → number ≤ length x.log → AllByRecursion (GoodPacket w.nodes w.links w.lines)
    (packets_of p.target p.source x.line (NetAck x.session number))) is
    (λ made r has. memory_good w p.target p.source s made number r has) made r has)

-- of an update that is not whole nothing is taken
taken_if_keeps : (w : World) (p : Packet) (x : Write) (number : ℕ) → Sound w → Keeps (Events.taken_if true w p x number)
    → Keeps (Events.taken_if (completes (w.gathering p.target) p) w p x number)
taken_if_keeps w p x number s whole = by_whole (completes (w.gathering p.target) p)
  where
    by_whole : (b : Bool) → Keeps (Events.taken_if b w p x number)
    by_whole true = whole
    by_whole false = s

update_keeps : (w : World) (p : Packet) (number : ℕ) (x : Write) → Sound w → (w.nodes p.target).state ≡ Up → IsNumber (w.lines p.line).held number x
    → (IsStranger w.nodes w.links p.line p.target → ⊥) → Keeps (Events.update_heard w p number x)
update_keeps w p number x s up is known =
    let n : Node = w.nodes p.target in
    let t : RState = plain_receiver n in
    by_test Keeps (is_origin n.role) (says w IsIgnored) _
    (λ _. s)
    (λ r. by_test (λ (o : Received). Keeps (Events.update_taken w p x o.action)) (takes t p.line number)
    (record { state = with_next t; action = Take number }) _
    (λ c. taken r c)
    (λ _. by_test (λ o. Keeps (Events.update_taken w p x o)) (repeats t p.line number) (IgnoredAck t.last) Ignores
    (λ _. from_memory_keeps w p n (length n.log) s refl (up_is_made n up) r (omega arith))
    (λ _. s)))
  where
    whole : is_origin (w.nodes p.target).role ≡ false → takes (plain_receiver (w.nodes p.target)) p.line number ≡ true
        → Keeps (Events.taken_if true w p x number)
    whole r c =
        let n : Node = w.nodes p.target in
        let made : IsMade n = up_is_made n up in
        let m : Node = Events.with_write n p.source x in
        let t : RState = plain_receiver n in
        let room : Bool = ltb t.waiting 16 && phase_takes t.phase in
        let e : p.line ≡ n.line = same_line_equal p.line n.line (and_left (same_line p.line n.line) (eqb number (length n.log + 1) && room) c) in
        let next : number ≡ length n.log + 1 = eqb_equal number (length n.log + 1)
        (and_left (eqb number (length n.log + 1)) room (and_right (same_line p.line n.line) (eqb number (length n.log + 1) && room) c)) in
        let takes_it : phase_takes n.phase ≡ true = and_right (ltb t.waiting 16) (phase_takes n.phase)
        (and_right (eqb number (length n.log + 1)) room (and_right (same_line p.line n.line) (eqb number (length n.log + 1) && room) c)) in
        let here : IsNumber (w.lines n.line).held number x = subst (λ (l : Line). IsNumber (w.lines l).held number x) e is in
        let none : IsStranger w.nodes w.links n.line p.target → ⊥ = subst (λ (l : Line). IsStranger w.nodes w.links l p.target → ⊥) e known in
        let v : Sound (with_node w p.target m) = sound_with_node w p.target m s
        (good_later w p.target m s.good made refl (λ is. is) (Nodes.good_taken (w.lines n.line) p.target n p.source x number made r takes_it here next (s.good.nodes p.target)))
        (Nodes.later_taken n p.source x)
        (up_whole m up)
        (s.fed p.target)
        (s.takes p.target)
        (s.marked p.target)
        (s.newest p.target)
        (s.stands p.target)
        (λ _. Nodes.fed_still (w.lines n.line) p.target n n.state (n.log ++ x ∷ []) n.session n.mark n.halted n.fuse p.source (λ m. m))
        (λ _ _ g. absurd (none g)) in
        from_memory_keeps (with_node w p.target m) p m number v (at_place w.nodes p.target m) made r (omega (arith, next, length-append n.log (x ∷ [])))

    taken : is_origin (w.nodes p.target).role ≡ false → takes (plain_receiver (w.nodes p.target)) p.line number ≡ true
        → Keeps (Events.update_taken w p x (Take number))
    taken r c = taken_if_keeps w p x number s (whole r c)

heard_keeps : (w : World) (p : Packet) (m : Message) → Sound w → (w.nodes p.target).state ≡ Up
    → GoodMessage (w.lines p.line).held (w.nodes p.source) p.line m
    → StrangerSays (IsStranger w.nodes w.links p.line p.target) (IsStranger w.nodes w.links p.line p.source) m → Keeps (Events.heard w p m)
heard_keeps w p (Hello session number stored) s up h known =
    link_heard_keeps w p (HearHello session number stored) s
    (Links.link_hello (w.lines (w.nodes p.target).line) (w.lines (w.nodes p.source).line) p.target p.source (w.nodes p.target) (w.nodes p.source) (w.links p.target p.source) p.line
    (s.good.nodes p.source) (s.unbegun (w.nodes p.target).line p.source) (s.links p.target p.source) (w.lines p.line).held session number stored h)
heard_keeps w p (Update number x) s up h known = update_keeps w p number x s up h known
heard_keeps w p (NetAck session number) s up h known =
    link_heard_keeps w p (HearNetAck session number) s
    (Links.link_net_ack (w.lines (w.nodes p.target).line) (w.lines (w.nodes p.source).line) p.target p.source (w.nodes p.target) (w.nodes p.source) (w.links p.target p.source) p.line
    (s.good.nodes p.source) (s.unbegun (w.nodes p.target).line p.source) (s.links p.target p.source) (w.lines p.line).held session number h)
heard_keeps w p (DataAck number) s up h known =
    link_heard_keeps w p (HearDataAck number) s
    (Links.link_data_ack (w.lines (w.nodes p.target).line) (w.lines (w.nodes p.source).line) p.target p.source (w.nodes p.target) (w.nodes p.source) (w.links p.target p.source) p.line
    (s.good.nodes p.source) (s.unbegun (w.nodes p.target).line p.source) (s.links p.target p.source) (w.lines p.line).held number h)

handed_keeps : (w : World) (p : Packet) → Sound w → GoodPacket w.nodes w.links w.lines p → Keeps (Events.handed w p)
handed_keeps w p s good =
    by_test Keeps (is_up (w.nodes p.target).state && is_running (w.nodes p.target).halted) _ (says w IsIgnored)
    (λ c. heard_keeps w p p.message s
    (up_is (w.nodes p.target).state (and_left (is_up (w.nodes p.target).state) (is_running (w.nodes p.target).halted) c)) good.said good.known)
    (λ _. s)

-- what a packet is put to is no matter
gathers_keeps : (p : Packet) (o : Outcome) → Keeps o → Keeps (Events.gathers p o)
gathers_keeps p o s = by_taken (Events.is_taken o.said)
  where
    by_taken : (b : Bool) → Sound (Events.gathered_if b o.world p)
    by_taken true = sound_gathering o.world _ s
    by_taken false = s

delivered_keeps : (w : World) (number k : ℕ) (p : Option Packet) → slice_get w.packets k ≡ p → Sound w → Keeps (Events.delivered w number p)
delivered_keeps w number k None e s = s
delivered_keeps w number k (Some p) e s = gathers_keeps p (Events.handed w p)
    (handed_keeps w p s (each_found (GoodPacket w.nodes w.links w.lines) w.packets k p e s.packets))

pub deliver_keeps : (w : World) (number : ℕ) → Sound w → Keeps (Events.delivered w number (Events.packet_at w.packets number))
deliver_keeps w zero s = s
deliver_keeps w (suc k) s =
    by_test (λ (p : Option Packet). Keeps (Events.delivered w (suc k) p)) (leb (suc k + MOST_PACKETS) (length w.packets)) None (slice_get w.packets k)
    (λ _. s) (λ _. delivered_keeps w (suc k) k (slice_get w.packets k) refl s)

-- ## Waiting

pub wait_keeps : (w : World) (p number : ℕ) → Sound w → (w.nodes p).state ≡ Up → is_origin (w.nodes p).role ≡ true → Keeps (Events.waited w p number)
wait_keeps w p number s up o =
    let made : IsMade (w.nodes p) = up_is_made (w.nodes p) up in
    let unconfirmed : Bool = some_below w.sites (λ k. is_unconfirmed number k (w.links p k)) in
    let held : Bool = some_below w.sites (λ k. holds_back number k (w.links p k)) in
    let promised : Outcome = says (promising w (Events.promises_of (w.nodes p) number (w.links p) w.sites)) (DoneAt number) in
    let answered : Outcome = if held then says w (Pending number) else promised in
    unless_keeps (eqb number 0 || ltb (w.nodes p).safe number) (Unknown (ByNumber number)) w (unless unconfirmed (Unconfirmed number) w answered) s
    (λ _. unless_keeps unconfirmed (Unconfirmed number) w answered s
    (λ u. by_test Keeps held (says w (Pending number)) promised
    (λ _. s)
    (λ h. sound_promising w (Events.promises_of (w.nodes p) number (w.links p) w.sites) s
    (Links.promises_good w.nodes w.links w.lines s.good.nodes p number o
    (λ q linked. (
      no_stranger w.nodes w.links p q (w.nodes p).line
          ((s.good.nodes p).own_line made o) linked,
      (s.links p q).came linked,
    ))
    (s.links p) w.sites u h))))
