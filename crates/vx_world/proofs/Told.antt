-- What each event of settling makes of two sites and their link: what is sent, updates and acknowledgements.
use Rattle.std.proofs.Common.{◌≡◌, ℕ, suc, ◌+◌, ◌-◌, ◌≤◌, ◌<◌, List, [], ◌∷◌, ◌++◌, length, refl, ap, sym, ◌∙◌, subst, arith, Bool, true, false}
use Rattle.std.specs.Prelude.{if◌then◌else◌, leb, ltb, eqb, not, max, min, slice_get, Some, None, Option, ◌&&◌}
use Rattle.std.proofs.lemmas.Bool.Decides.{nat_tests}
use Rattle.std.proofs.lemmas.List.{append-nil}
use Rattle.vx_model.specs.Content.{Write}
use Rattle.vx_history.specs.World.{World, Node, Link, Packet, Message, Update, NetAck, DataAck, no_regions, with_node}
use Rattle.vx_model.specs.Sites.{is_origin, same_line}
use Rattle.vx_history.specs.Admission.{is_live_link}
use Rattle.vx_history.specs.Sending.{Sent, sent_step, by_log, pumped_up_to, with_nothing, with_ignored, memory_acknowledged, disk_acknowledged, if_on_line}
use Rattle.vx_history.specs.Receiving.{Received, takes, repeats, with_next, update_heard, phase_takes}
use Rattle.vx_history.specs.LinkForms.{plain_link, with_plain, plain_receiver}
use Rattle.vx_model.specs.declared.history.Line.{Line}
use Rattle.vx_model.specs.declared.site.SiteState.TheVariants.{Up}
use Rattle.vx_history.specs.declared.sender.SEvent.{SEvent}
use Rattle.vx_history.specs.declared.sender.SEvent.TheVariants.{Pump as PumpLink, NetAck as HearNetAck, DataAck as HearDataAck}
use Rattle.vx_history.specs.declared.sender.Action.TheVariants.{Updates}
use Rattle.vx_history.specs.declared.receiver.RState.{RState}
use Rattle.vx_history.specs.declared.receiver.RAction.{RAction}
use Rattle.vx_history.specs.declared.receiver.RAction.TheVariants.{Ignored as Ignores, IgnoredAck, Take}
use Rattle.vx_history.proofs.Updates.{at_place, same_line_self}
use Rattle.vx_history.specs.declared.event.Event.TheVariants.{Pump, Tick, Deliver}
use Rattle.vx_history.specs.declared.event.Said.TheVariants.{Ignored as IsIgnored, Taken as IsTaken}
use Rattle.vx_history.specs.Sends.{is_linked, with_link, packet, updates, between, sent_by}
use Rattle.vx_history.specs.Refusals.{Outcome, says, when_live, on_link, keeps_links, is_running}
use Rattle.vx_model.specs.Sites.{is_up}
use Rattle.vx_history.specs.Events
use Rattle.vx_history.specs.Gatherings.{key_of, came_after, completes, left_by}
use Rattle.vx_model.specs.declared.limits.TheConstants.{MOST_AHEAD, MOST_PACKETS, MOST_WAITING}
use Rattle.vx_model.proofs.Tests.{both_true}
use Rattle.vx_history.specs.Step.{outcome_of, step, done}
use Rattle.vx_world.proofs.Pair.{gathers_at, counted_at, At, Fit, link_event_at, sending_at, with_node_at, with_link_at, link_passes, hears, passes, falls}

-- by a test that comes out so
pub by_true : {A : Type 0} (b : Bool) (x y : A) → b ≡ true → (if b then x else y) ≡ x
by_true true x y e = refl
by_true false x y e = absurd (cc)

pub by_false : {A : Type 0} (b : Bool) (x y : A) → b ≡ false → (if b then x else y) ≡ y
by_false true x y e = absurd (cc)
by_false false x y e = refl

-- the network keeps what stands behind so many packets
abbrev pub IsYoung : List Packet → ℕ → Type 0
IsYoung ps k = length ps ≤ k + MOST_PACKETS

module _ (v : World) (p s : ℕ) (a b : Node) (l : Link) (ps : List Packet) (at : At v p s a b l ps) (fit : Fit p s a b l) where
  pub nothing_sent : (w : World) (m : Link) → At w p s a b m (ps ++ []) → At w p s a b m ps
  nothing_sent w m h = subst (λ (x : List Packet). At w p s a b m x) (append-nil ps) h

  -- what was sent counts as lost
  pub tick_at : At (step v (Tick p s)).world p s a b (record l { sent = l.net; trimmed = 0; since = no_regions }) ps
  tick_at =
      let m : Link = record l { sent = l.net; trimmed = 0; since = no_regions } in
      let is : Events.ticked_link v p s ≡ m =
      ap (λ (x : Link). let y : Link = record x { sent = x.net; trimmed = 0; since = no_regions } in y) at.at_l in
      counted_at p s a b m ps v (Tick p s)
      (subst (λ (o : Outcome). At o.world p s a b m ps)
      (sym (link_passes v p s a b l ps at (done (Events.ticked_at v p s)) fit))
      (subst (λ (x : Link). At (with_link v p s x) p s a b m ps) (sym is) (with_link_at v p s a b l ps at m)))

  pub live : (is_live_link (plain_link s l) && by_log l.mode) ≡ true
  live =
      both_true (is_live_link (plain_link s l)) (by_log l.mode)
      (both_true l.attached (l.connected && not l.paused) fit.attached (both_true l.connected (not l.paused) fit.connected (ap not fit.running)))
      (ap by_log fit.mode)

  pub pumps : sent_step (plain_link s l) PumpLink (Events.receiver_facts a a.line) ≡ pumped_up_to (plain_link s l) (max l.sent l.stored) (min a.safe (l.net + MOST_AHEAD))
  pumps = by_true (is_live_link (plain_link s l) && by_log l.mode) _ _ live

  pub pump_passes : (o : Outcome) → on_link v p s (when_live v s (v.links p s) o) ≡ o
  pump_passes o =
      link_passes v p s a b l ps at _ fit
      ∙ passes (not ((v.links p s).attached && (v.links p s).connected)) _ v _
      (falls ((v.links p s).attached && (v.links p s).connected)
      (ap (λ (x : Link). x.attached && x.connected) at.at_l ∙ both_true l.attached l.connected fit.attached fit.connected))
      ∙ passes (v.links p s).paused _ v o (ap (λ (x : Link). x.paused) at.at_l ∙ fit.running)

  -- what the receiver may lack is sent
  pub pump_at : (low high : ℕ) → max l.sent l.stored ≡ low → min a.safe (l.net + MOST_AHEAD) ≡ high → low < high
      → At (step v (Pump p s)).world p s a b (record l { sent = high }) (ps ++ updates p s a.line (low + 1) (between (low + 1) high a.log))
  pump_at low high is_low is_high less =
      let r : Sent = record { link = record (plain_link s l) { sent = high }; action = Updates (low + 1) high } in
      let e : sent_step (plain_link s l) PumpLink (Events.receiver_facts a a.line) ≡ r =
      pumps ∙ ap (λ k. pumped_up_to (plain_link s l) k (min a.safe (l.net + MOST_AHEAD))) is_low ∙ ap (λ k. pumped_up_to (plain_link s l) low k) is_high ∙ by_true
      (ltb low high) _ _ (below low high less) in
      counted_at p s a b (record l { sent = high }) (ps ++ updates p s a.line (low + 1) (between (low + 1) high a.log)) v (Pump p s)
      (subst (λ (o : Outcome). At o.world p s a b (record l { sent = high }) (ps ++ updates p s a.line (low + 1) (between (low + 1) high a.log)))
      (sym (pump_passes (done (Events.link_event v p s PumpLink))))
      (subst (λ (x : Sent). At (Events.link_event v p s PumpLink) p s a b (with_plain l x.link) (ps ++ sent_by x.action p s a)) e
      (link_event_at v p s a b l ps at PumpLink)))
    where
      below : (m n : ℕ) → m < n → ltb m n ≡ true
      below m n h = grind (arith, nat_tests)

  pub pump_none : max l.sent l.stored ≡ l.sent → min a.safe (l.net + MOST_AHEAD) ≤ l.sent → At (step v (Pump p s)).world p s a b l ps
  pump_none is_low most =
      let r : Sent = with_nothing (plain_link s l) in
      let e : sent_step (plain_link s l) PumpLink (Events.receiver_facts a a.line) ≡ r =
      pumps ∙ ap (λ k. pumped_up_to (plain_link s l) k (min a.safe (l.net + MOST_AHEAD))) is_low ∙ by_false (ltb l.sent (min a.safe (l.net + MOST_AHEAD))) _ _
      (above l.sent (min a.safe (l.net + MOST_AHEAD)) most) in
      counted_at p s a b l ps v (Pump p s)
      (nothing_sent (outcome_of v (Pump p s)).world l
      (subst (λ (o : Outcome). At o.world p s a b l (ps ++ [])) (sym (pump_passes (done (Events.link_event v p s PumpLink))))
      (subst (λ (x : Sent). At (Events.link_event v p s PumpLink) p s a b (with_plain l x.link) (ps ++ sent_by x.action p s a)) e
      (link_event_at v p s a b l ps at PumpLink))))
    where
      above : (m n : ℕ) → n ≤ m → ltb m n ≡ false
      above m n h = grind (arith, nat_tests)

  -- ## Packets

  -- what is delivered is the packet of that number
  pub delivered_is : (k : ℕ) (q : Packet) → IsYoung ps k → slice_get ps k ≡ Some q → outcome_of v (Deliver (suc k)) ≡ Events.gathers q (Events.handed v q)
  delivered_is k q young e =
      let new : leb (suc k + MOST_PACKETS) (length ps) ≡ false = not_above (suc k + MOST_PACKETS) (length ps) (omega (arith, young)) in
      ap (λ (x : List Packet). Events.delivered v (suc k) (if leb (suc k + MOST_PACKETS) (length x) then None else slice_get x k)) at.sent
      ∙ ap (λ (c : Bool). Events.delivered v (suc k) (if c then None else slice_get ps k)) new
      ∙ ap (λ (o : Option Packet). Events.delivered v (suc k) o) e
    where
      not_above : (m n : ℕ) → n < m → leb m n ≡ false
      not_above m n h = grind (arith, nat_tests)

  pub handed_is : (q : Packet) (n : Node) → v.nodes q.target ≡ n → n.state ≡ Up → n.halted ≡ None → Events.handed v q ≡ Events.heard v q q.message
  handed_is q n e up none = by_true (is_up (v.nodes q.target).state && is_running (v.nodes q.target).halted) _ _ (hears v p s a b l ps at q.target n e up none)

  -- what comes of a packet, by what its target makes of it
  pub deliver_via : (k : ℕ) (q : Packet) (o : Outcome) (c d : Node) (m : Link) (qs : List Packet) → IsYoung ps k → slice_get ps k ≡ Some q
      → Events.handed v q ≡ o → At o.world p s c d m qs → At (step v (Deliver (suc k))).world p s c d m qs
  deliver_via k q o c d m qs young e is h =
      counted_at p s c d m qs v (Deliver (suc k))
      (subst (λ (x : Outcome). At x.world p s c d m qs) (sym (delivered_is k q young e))
      (gathers_at p s c d m qs v q (Events.handed v q) (subst (λ (x : Outcome). At x.world p s c d m qs) (sym is) h)))

  abbrev pub the_update : (n : ℕ) (x : Write) (part : ℕ) → Packet
  the_update n x part = packet p s a.line (Update n x) part

  abbrev pub the_ack : ℕ → Packet
  the_ack n = packet s p b.line (NetAck b.session n) 0

  pub update_is : (n : ℕ) (x : Write) (part : ℕ) (action : RAction) → (update_heard (plain_receiver b) a.line n).action ≡ action
      → Events.handed v (the_update n x part) ≡ Events.update_taken v (the_update n x part) x action
  update_is n x part action e =
      let q : Packet = the_update n x part in
      handed_is q b at.at_s fit.up_b fit.runs_b
      ∙ ap (λ (y : Node). if is_origin y.role then says v IsIgnored else Events.update_taken v q x (update_heard (plain_receiver y) a.line n).action) at.at_s
      ∙ by_false (is_origin b.role) _ _ fit.receives
      ∙ ap (λ (action : RAction). Events.update_taken v q x action) e

  -- the next number, for which there is room, can be taken
  pub can_take : (n : ℕ) → n ≡ length b.log + 1 → ltb (length b.log - b.safe) MOST_WAITING ≡ true → (update_heard (plain_receiver b) a.line n).action ≡ Take n
  can_take n next room =
      let t : RState = plain_receiver b in
      let taken : takes t a.line n ≡ true =
      both_true (same_line a.line b.line) (eqb n (length b.log + 1) && (ltb (length b.log - b.safe) MOST_WAITING && phase_takes b.phase))
      (ap (λ (y : Line). same_line a.line y) fit.line ∙ same_line_self a.line)
      (both_true (eqb n (length b.log + 1)) (ltb (length b.log - b.safe) MOST_WAITING && phase_takes b.phase) (same n (length b.log + 1) next)
      (both_true (ltb (length b.log - b.safe) MOST_WAITING) (phase_takes b.phase) room fit.takes)) in
      ap (λ (r : Received). r.action) (by_true (takes t a.line n) (record { state = with_next t; action = Take n }) _ taken)
    where
      same : (m n : ℕ) → m ≡ n → eqb m n ≡ true
      same m n h = grind (arith, nat_tests)

  -- an update that is whole is taken
  pub taken_at : (k n : ℕ) (x : Write) (part : ℕ) → IsYoung ps k → slice_get ps k ≡ Some (the_update n x part) → n ≡ length b.log + 1
      → ltb (length b.log - b.safe) MOST_WAITING ≡ true → completes (v.gathering s) (the_update n x part) ≡ true
      → At (step v (Deliver (suc k))).world p s a (Events.with_write b p x) l (ps ++ the_ack n ∷ [])
  taken_at k n x part young e next room whole =
      let q : Packet = the_update n x part in
      let c : Node = Events.with_write b p x in
      let qs : List Packet = ps ++ the_ack n ∷ [] in
      deliver_via k q (Events.taken_if true v q x n) a c l qs young e
      (update_is n x part (Take n) (can_take n next room) ∙ ap (λ (t : Bool). Events.taken_if t v q x n) whole)
      (subst (λ (y : Node). At (Events.from_memory (with_node v s (Events.with_write y p x)) y q n) p s a c l qs) (sym at.at_s)
      (sending_at (with_node v s c) p s a c l ps (with_node_at v p s a b l ps at c fit.apart) (the_ack n ∷ [])))

  -- of one that is not whole the part is kept
  pub kept_at : (k n : ℕ) (x : Write) (part : ℕ) → IsYoung ps k → slice_get ps k ≡ Some (the_update n x part) → n ≡ length b.log + 1
      → ltb (length b.log - b.safe) MOST_WAITING ≡ true → completes (v.gathering s) (the_update n x part) ≡ false
      → At (step v (Deliver (suc k))).world p s a b l ps × ((step v (Deliver (suc k))).world.gathering s ≡ Some
      (record { key = key_of (the_update n x part); came = came_after (v.gathering s) (the_update n x part) }))
  kept_at k n x part young e next room some =
      let q : Packet = the_update n x part in
      let is : Events.handed v q ≡ says v IsTaken = update_is n x part (Take n) (can_take n next room) ∙ ap (λ (t : Bool). Events.taken_if t v q x n) some in (
        deliver_via k q (says v IsTaken) a b l ps young e is at,
        ap (λ (o : Outcome). o.world.gathering s) (delivered_is k q young e)
            ∙ ap (λ (o : Outcome). (Events.gathers q o).world.gathering s) is
            ∙ at_place v.gathering s (left_by (v.gathering s) q)
            ∙ ap (λ (t : Bool). if t then None else Some (record { key = key_of q; came = came_after (v.gathering s) q })) some,
      )

  -- an update for which there is no room is ignored
  pub ignored_at : (k n : ℕ) (x : Write) (part : ℕ) → IsYoung ps k → slice_get ps k ≡ Some (the_update n x part) → length b.log < n
      → ltb (length b.log - b.safe) MOST_WAITING ≡ false → At (step v (Deliver (suc k))).world p s a b l ps
  ignored_at k n x part young e past full =
      let t : RState = plain_receiver b in
      let action : (update_heard t a.line n).action ≡ Ignores =
      ap (λ (r : Received). r.action)
      (by_false (takes t a.line n) _ _
      (no_room (same_line a.line b.line) (eqb n (length b.log + 1)) (ltb (length b.log - b.safe) MOST_WAITING) (phase_takes b.phase) full))
      ∙ by_false (repeats t a.line n) (IgnoredAck t.last) Ignores (no_repeat (same_line a.line b.line) (leb n (length b.log)) (above n (length b.log) past)) in
      deliver_via k (the_update n x part) (says v IsIgnored) a b l ps young e (update_is n x part Ignores action) at
    where
      no_room : (c d e f : Bool) → e ≡ false → (c && (d && (e && f))) ≡ false
      no_room true true false f h = refl
      no_room true false e f h = refl
      no_room false d e f h = refl
      no_room true true true f h = absurd (cc)

      no_repeat : (c d : Bool) → d ≡ false → (c && d) ≡ false
      no_repeat true d h = h
      no_repeat false d h = refl

      above : (m n : ℕ) → n < m → leb m n ≡ false
      above m n h = grind (arith, nat_tests)

  -- an update that the site has already is acknowledged again
  pub again_at : (k n : ℕ) (x : Write) (part : ℕ) → IsYoung ps k → slice_get ps k ≡ Some (the_update n x part) → n ≤ length b.log
      → At (step v (Deliver (suc k))).world p s a b l (ps ++ the_ack (length b.log) ∷ [])
  again_at k n x part young e old =
      let q : Packet = the_update n x part in
      let t : RState = plain_receiver b in
      let qs : List Packet = ps ++ the_ack (length b.log) ∷ [] in
      let untaken : takes t a.line n ≡ false = none_left (same_line a.line b.line) (eqb n (length b.log + 1))
      (ltb (length b.log - b.safe) MOST_WAITING && phase_takes b.phase) (above n (length b.log) old) in
      let known : repeats t a.line n ≡ true = both_true (same_line a.line b.line) (leb n (length b.log))
      (ap (λ (y : Line). same_line a.line y) fit.line ∙ same_line_self a.line) (at_most n (length b.log) old) in
      let action : (update_heard t a.line n).action ≡ IgnoredAck (length b.log) =
      ap (λ (r : Received). r.action) (by_false (takes t a.line n) _ _ untaken) ∙ by_true (repeats t a.line n) (IgnoredAck t.last) Ignores known in
      deliver_via k q (Events.update_taken v q x (IgnoredAck (length b.log))) a b l qs young e (update_is n x part (IgnoredAck (length b.log)) action)
      (subst (λ (y : Node). At (Events.from_memory v y q (length b.log)) p s a b l qs) (sym at.at_s)
      (sending_at v p s a b l ps at (the_ack (length b.log) ∷ [])))
    where
      none_left : (c d e : Bool) → d ≡ false → (c && (d && e)) ≡ false
      none_left true false e h = refl
      none_left false d e h = refl
      none_left true true e h = absurd (cc)

      above : (m n : ℕ) → m ≤ n → eqb m (n + 1) ≡ false
      above m n h = grind (arith, nat_tests)

      at_most : (m n : ℕ) → m ≤ n → leb m n ≡ true
      at_most m n h = grind (arith, nat_tests)

  -- what the link hears of its receiver
  pub link_at : (k : ℕ) (m : Message) (e : SEvent) → IsYoung ps k → slice_get ps k ≡ Some (packet s p b.line m 0)
      → Events.heard v (packet s p b.line m 0) m ≡ Events.link_heard v (packet s p b.line m 0) e
      → At (step v (Deliver (suc k))).world p s a b (with_plain l (sent_step (plain_link s l) e (Events.receiver_facts a b.line)).link) ps
  link_at k m e young found is =
      let q : Packet = packet s p b.line m 0 in
      let r : Link → Node → Sent = λ x y. sent_step (plain_link s x) e (Events.receiver_facts y b.line) in
      let v' : World = with_link v p s (with_plain (v.links p s) (r (v.links p s) (v.nodes p)).link) in
      let goes : Events.link_heard v q e ≡ says v' (Events.said_of_link (r (v.links p s) (v.nodes p)).action) =
      by_true (keeps_links (v.nodes p).role && is_linked (v.links p s)) _ _
      (both_true (keeps_links (v.nodes p).role) (is_linked (v.links p s)) (ap (λ (x : Node). keeps_links x.role) at.at_p ∙ fit.sends)
      (ap is_linked at.at_l ∙ fit.linked)) in
      deliver_via k q (says v' (Events.said_of_link (r (v.links p s) (v.nodes p)).action)) a b (with_plain l (r l a).link) ps young found
      (handed_is q a at.at_p fit.up_a fit.runs_a ∙ is ∙ goes)
      (with_link_at_via (with_plain (v.links p s) (r (v.links p s) (v.nodes p)).link) (with_plain l (r l a).link)
      (ap (λ (x : Link). with_plain x (r x (v.nodes p)).link) at.at_l ∙ ap (λ (y : Node). with_plain l (r l y).link) at.at_p))
    where
      with_link_at_via : (m n : Link) → m ≡ n → At (with_link v p s m) p s a b n ps
      with_link_at_via m n e = subst (λ (x : Link). At (with_link v p s m) p s a b x ps) e (with_link_at v p s a b l ps at m)

  pub ours : same_line b.line a.line ≡ true
  ours = ap (λ (y : Line). same_line y a.line) fit.line ∙ same_line_self a.line

  pub heard_as : (r : Sent) → if_on_line (Events.receiver_facts a b.line) (plain_link s l) r ≡ r
  heard_as r = by_true (same_line b.line a.line) r (with_ignored (plain_link s l)) ours

  -- an acknowledgement from memory in the present session that tells something new
  pub memory_at : (k n : ℕ) → IsYoung ps k → slice_get ps k ≡ Some (the_ack n) → l.session ≡ b.session → l.net < n
      → At (step v (Deliver (suc k))).world p s a b (record l { net = n }) ps
  memory_at k n young e session new =
      let t : (by_log l.mode && (eqb b.session l.session && ltb l.net n)) ≡ true =
      both_true (by_log l.mode) (eqb b.session l.session && ltb l.net n) (ap by_log fit.mode)
      (both_true (eqb b.session l.session) (ltb l.net n) (same b.session l.session (sym session)) (below l.net n new)) in
      subst (λ (x : Sent). At (step v (Deliver (suc k))).world p s a b (with_plain l x.link) ps)
      (heard_as (memory_acknowledged (plain_link s l) b.session n) ∙ by_true (by_log l.mode && (eqb b.session l.session && ltb l.net n)) _ _ t)
      (link_at k (NetAck b.session n) (HearNetAck b.session n) young e refl)
    where
      same : (m n : ℕ) → m ≡ n → eqb m n ≡ true
      same m n h = grind (arith, nat_tests)

      below : (m n : ℕ) → m < n → ltb m n ≡ true
      below m n h = grind (arith, nat_tests)

  -- one that tells nothing new
  pub stale_at : (k n : ℕ) → IsYoung ps k → slice_get ps k ≡ Some (the_ack n) → n ≤ l.net → At (step v (Deliver (suc k))).world p s a b l ps
  stale_at k n young e old =
      let t : (by_log l.mode && (eqb b.session l.session && ltb l.net n)) ≡ false = nothing (by_log l.mode) (eqb b.session l.session) (ltb l.net n)
      (not_less l.net n old) in
      subst (λ (x : Sent). At (step v (Deliver (suc k))).world p s a b (with_plain l x.link) ps)
      (heard_as (memory_acknowledged (plain_link s l) b.session n) ∙ by_false (by_log l.mode && (eqb b.session l.session && ltb l.net n)) _ _ t)
      (link_at k (NetAck b.session n) (HearNetAck b.session n) young e refl)
    where
      nothing : (c d e : Bool) → e ≡ false → (c && (d && e)) ≡ false
      nothing true true e h = h
      nothing true false e h = refl
      nothing false d e h = refl

      not_less : (m n : ℕ) → n ≤ m → ltb m n ≡ false
      not_less m n h = grind (arith, nat_tests)

  -- an acknowledgement from disk that tells something new
  pub disk_at : (k n : ℕ) → IsYoung ps k → slice_get ps k ≡ Some (packet s p b.line (DataAck n) 0) → l.stored < n
      → At (step v (Deliver (suc k))).world p s a b (record l { stored = n; net = max l.net n }) ps
  disk_at k n young e new =
      let t : (by_log l.mode && ltb l.stored n) ≡ true = both_true (by_log l.mode) (ltb l.stored n) (ap by_log fit.mode) (below l.stored n new) in
      subst (λ (x : Sent). At (step v (Deliver (suc k))).world p s a b (with_plain l x.link) ps)
      (heard_as (disk_acknowledged (plain_link s l) n) ∙ by_true (by_log l.mode && ltb l.stored n) _ _ t)
      (link_at k (DataAck n) (HearDataAck n) young e refl)
    where
      below : (m n : ℕ) → m < n → ltb m n ≡ true
      below m n h = grind (arith, nat_tests)
