-- A greeting or an acknowledgement, as an event that may write a header of the log of the site whose link hears it.
use Rattle.std.proofs.Common.{◌≡◌, ◌∙◌, ◌⊎◌, inl, inr, ◌+◌, ◌<◌, ℕ, Bool, true, false, ap, sym, subst, refl, arith}
use Rattle.std.proofs.lemmas.Bool.Decides.{nat_tests}
use Rattle.std.specs.Prelude.{Option, Some, None, IfSome, ◌&&◌, drop, ltb, if◌then◌else◌}
use Rattle.vx_model.specs.Content.{Write}
use Rattle.vx_model.specs.Sites.{is_up}
use Rattle.vx_model.specs.declared.link.Link.{Link as PlainLink}
use Rattle.vx_model.specs.declared.link.Mode.{Mode}
use Rattle.vx_model.specs.declared.site.SiteState.{SiteState}
use Rattle.vx_history.proofs.Updates.{at_place}
use Rattle.vx_model.specs.declared.link.Mode.TheVariants.{Log, Dcm, Replay, Fork, Stale}
use Rattle.vx_history.specs.Admission.{is_log, mode_hold, mode_holds}
use Rattle.vx_history.specs.Doubts.{Doubted}
use Rattle.vx_history.specs.Events.{delivered, receiver_facts, gathered_if, handed, heard, is_taken, link_heard, logged_blocks, packet_at, said_of_link, used_above}
use Rattle.vx_history.specs.LinkForms.{plain_link, with_plain}
use Rattle.vx_history.specs.Refusals.{Outcome, is_running, keeps_links, says}
use Rattle.vx_history.specs.Sending.{Sent, sent_step}
use Rattle.vx_history.specs.Sends.{is_linked, is_made, with_link}
use Rattle.vx_history.specs.Stops.{IsOpen, stored_by}
use Rattle.vx_history.specs.World.{DataAck, Hello, Link, Message, NetAck, Node, Packet, Update, World, updated}
use Rattle.vx_history.specs.declared.event.Event.{Event}
use Rattle.vx_history.specs.declared.event.Event.TheVariants.{Deliver as DeliverAt}
use Rattle.vx_history.specs.declared.event.Said.{Said as EventSaid}
use Rattle.vx_history.specs.declared.event.Said.TheVariants.{Ignored as IsIgnored, Taken as IsTaken}
use Rattle.vx_history.specs.declared.sender.Action.{Action}
use Rattle.vx_history.specs.declared.sender.SEvent.{SEvent}
use Rattle.vx_history.specs.declared.sender.SEvent.TheVariants.{Hello as HearHello, NetAck as HearNetAck, DataAck as HearDataAck}
use Rattle.vx_history.specs.declared.sender.Action.TheVariants.{Ignored, Nothing, Taken, Updates}
use Rattle.vx_courier.specs.UnderWay.{FlightStands}
use Rattle.vx_net.specs.Flights.{Flying}
use Rattle.vx_order.specs.declared.facts.LinkFacts.{LinkFacts}
use Rattle.vx_peers.proofs.Hears.{event_for, link_there, outcome_is}
use Rattle.vx_peers.specs.Answers.{Listens, is_answer}
use Rattle.vx_diskset.specs.Holds.{header_links, row_links}
use Rattle.vx_effects.proofs.TargetAnswers.{answer_effect}
use Rattle.vx_effects.proofs.Fitting.{fit_happened}
use Rattle.vx_events.specs.Effects.{EffectAt}
use Rattle.vx_events.specs.LinkedFacts.{link_fact, needed_by}
use Rattle.vx_events.specs.LinksFit.{LinksFit, is_plain_mode, is_plain_mode as goes_plainly}
use Rattle.vx_joins.specs.Hearings.{IsListening}
use Rattle.vx_linked.specs.Hearings.{Hears}
use Rattle.vx_link_lines.specs.Headed.{behind}
use Rattle.vx_link_lines.proofs.HeaderCalls.{IsHeader}
use Rattle.vx_link_lines.proofs.NotedYard.{sure_open}
use Rattle.vx_yard.proofs.Rows.{row_links_same}

-- ---- links that go by the log or by nothing

plain_too : (m : Mode) → is_plain_mode m ≡ true → goes_plainly m ≡ true
plain_too Log e = e
plain_too Dcm e = e
plain_too (Replay id phase left start end) e = e
plain_too (Fork maps) e = e
plain_too Stale e = e

holding_log : (m : Mode) → is_plain_mode m ≡ true → mode_holds m ≡ is_log m
holding_log Log e = refl
holding_log Dcm e = refl
holding_log (Replay id phase left start end) e = absurd (cc)
holding_log (Fork maps) e = refl
holding_log Stale e = refl

hold_log : (m : Mode) (stored : ℕ) → is_plain_mode m ≡ true → mode_hold m stored ≡ stored
hold_log Log stored e = refl
hold_log Dcm stored e = refl
hold_log (Replay id phase left start end) stored e = absurd (cc)
hold_log (Fork maps) stored e = refl
hold_log Stale stored e = refl

-- what such a link needs
module _ (n : Node) (s : ℕ) (l : Link) (link : PlainLink) (is : link ≡ plain_link s l) (plain : is_plain_mode l.mode ≡ true) where
  abbrev by : Bool → ℕ
  by b = if b then logged_blocks (drop link.stored n.log) else 0

  needs_is : needed_by n s l ≡ by (link.attached && is_log link.mode)
  needs_is =
      ap (λ (b : Bool). if l.attached && b then used_above n s l else 0) (holding_log l.mode plain)
      ∙ ap (λ (k : ℕ). if l.attached && is_log l.mode then logged_blocks (drop k n.log) else 0) (hold_log l.mode l.stored plain)
      ∙ ap (λ (k : PlainLink). if k.attached && is_log k.mode then logged_blocks (drop k.stored n.log) else 0) (sym is)

  pub needs_some : (o : Option ℕ) (b : Bool) → b ≡ (link.attached && is_log link.mode) → b ≡ true → IfSome o (λ blocks. blocks ≡ logged_blocks (drop link.stored n.log)) → IfSome o (λ blocks. blocks ≡ needed_by n s l)
  needs_some None b test yes_ used = tt
  needs_some (Some blocks) b test yes_ used = used ∙ sym (needs_is ∙ ap by (sym test ∙ yes_))

  pub needs_none : (b : Bool) → b ≡ (link.attached && is_log link.mode) → b ≡ false → 0 ≡ needed_by n s l
  needs_none b test no_ = sym (needs_is ∙ ap by (sym test ∙ no_))

-- a link of a site that hears goes by the log or by nothing
pub listening : (d : Doubted) (t q : ℕ) (f : LinkFacts) → LinksFit d → Hears d.world t q f → IsListening (d.world.nodes t) (d.world.links t q)
listening d t q f fits h = record {
  up = h.site.up;
  running = h.site.running;
  apart = h.link.apart;
  keeps = h.site.keeps;
  linked = h.link.linked;
  plain = plain_too (d.world.links t q).mode ((fits.rows t).plain q h.link.linked).mode;
}

-- a link as it is shown, by its parts
pub shown_by : (n : Node) (q : ℕ) (l : Link) (link : PlainLink) (used : ℕ) → link ≡ plain_link q l → used ≡ needed_by n q l → (let x : LinkFacts = record { link = link; used = used } in x) ≡ link_fact n q l
shown_by n q l link used is needs =
    ap (λ (k : PlainLink). let x : LinkFacts = record { link = k; used = used } in x) is ∙ ap (λ (k : ℕ). let x : LinkFacts = record { link = plain_link q l; used = k } in x) needs

-- ---- the event

module _ (d : Doubted) (number : ℕ) (p : Packet) (at : packet_at d.world.packets number ≡ Some p) (answers : is_answer p.message ≡ true) where
  abbrev pub s : ℕ
  s = p.target

  abbrev w : World
  w = d.world

  abbrev pub n : Node
  n = w.nodes s

  abbrev pub event : Event
  event = DeliverAt number

  -- what the world makes of it
  abbrev pub o : Outcome
  o = delivered w number (packet_at w.packets number)

  abbrev pub row : ℕ → Link
  row = updated (w.links s) p.source (o.world.links s p.source)

  pub no_update : (k : ℕ) (x : Write) → p.message ≡ Update k x → ⊥
  no_update k x is = absurd (let e : false ≡ true = sym (ap is_answer is) ∙ answers in cc)

  effect : EffectAt s d (behind d event) n row (w.headers s + (if ltb (w.links s p.source).stored (o.world.links s p.source).stored then 1 else 0)) (d.after s) w.packets (o.world.gathering s)
  effect = answer_effect d number p false at no_update

  pub heard_kept : row_links row w.sites ≡ header_links o.world s
  heard_kept = sym (row_links_same row ((behind d event).world.links s) effect.is.links (behind d event).world.sites ∙ ap (λ (k : ℕ). row_links row k) effect.site.sites)

  -- what the link counts as stored behind it is what the rule says
  link_stored : (e : SEvent) (b : Bool)
      → (let r : Sent = sent_step (plain_link p.source (w.links s p.source)) e (receiver_facts n p.line) in
      ((if b then says (with_link w s p.source (with_plain (w.links s p.source) r.link)) (said_of_link r.action) else says w IsIgnored).world.links s p.source).stored ≡ (if b then r.link.stored else (w.links s p.source).stored))
  link_stored e true =
      let l : Link = with_plain (w.links s p.source) (sent_step (plain_link p.source (w.links s p.source)) e (receiver_facts n p.line)).link in
      ap (λ (row : ℕ → Link). (row p.source).stored) (at_place w.links s (updated (w.links s) p.source l)) ∙ ap (λ (x : Link). x.stored) (at_place (w.links s) p.source l)
  link_stored e false = refl

  message_stored : (m : Message) → is_answer m ≡ true → ((heard w p m).world.links s p.source).stored ≡ stored_by n (w.links s p.source) p m
  message_stored (Hello session number stored) e = link_stored (HearHello session number stored) (keeps_links n.role && is_linked (w.links s p.source))
  message_stored (Update number x) e = absurd (cc)
  message_stored (NetAck session number) e = link_stored (HearNetAck session number) (keeps_links n.role && is_linked (w.links s p.source))
  message_stored (DataAck number) e = link_stored (HearDataAck number) (keeps_links n.role && is_linked (w.links s p.source))

  links_gathered : (took : Bool) (v : World) → (gathered_if took v p).links ≡ v.links
  links_gathered true v = refl
  links_gathered false v = refl

  stored_is : IsOpen n → (o.world.links s p.source).stored ≡ stored_by n (w.links s p.source) p p.message
  stored_is opens =
      ap (λ (x : Option Packet). ((delivered w number x).world.links s p.source).stored) at
      ∙ ap (λ (g : ℕ → ℕ → Link). (g s p.source).stored) (links_gathered (is_taken (handed w p).said) (handed w p).world)
      ∙ ap (λ (t : SiteState). ((if is_up t && is_running n.halted then heard w p p.message else says w IsIgnored).world.links s p.source).stored) opens.0
      ∙ ap (λ (h : Option ℕ). ((if is_running h then heard w p p.message else says w IsIgnored).world.links s p.source).stored) opens.1
      ∙ message_stored p.message answers

  pub rises_by : IsOpen n → ltb (w.links s p.source).stored (o.world.links s p.source).stored ≡ true → (w.links s p.source).stored < stored_by n (w.links s p.source) p p.message
  rises_by opens rises =
      subst (λ (k : ℕ). (w.links s p.source).stored < k) (stored_is opens) (less (w.links s p.source).stored (o.world.links s p.source).stored rises)
    where
      less : (a b : ℕ) → ltb a b ≡ true → a < b
      less a b is = grind (arith, nat_tests)

  -- a header was written
  pub heard_rose : ltb (w.links s p.source).stored (o.world.links s p.source).stored ≡ true → EffectAt s d (behind d event) n row (w.headers s + 1) (d.after s) w.packets (o.world.gathering s)
  heard_rose rises = subst (λ (b : Bool). EffectAt s d (behind d event) n row (w.headers s + (if b then 1 else 0)) (d.after s) w.packets (o.world.gathering s)) rises effect

  pub heard_header : ltb (w.links s p.source).stored (o.world.links s p.source).stored ≡ true → LinksFit d → IsOpen n → n.group ≡ None → IsHeader d event s n (header_links o.world s) (o.world.gathering s)
  heard_header rises fits opens none = record {
    row = row;
    effect = heard_rose rises;
    kept = heard_kept;
    sure = sure_open d s fits opens;
    like = record { state = refl; name = refl; disks = refl; blocks = refl; volumes = refl; group = refl; failing = refl; fuse = refl };
    fits = fit_happened d event false tt fits;
    fits_before = fits;
    sets = tt;
    opens = opens;
    none = none;
    writes = (p, at, refl, no_update, rises_by opens rises);
  }

  -- none was
  pub heard_effect : ltb (w.links s p.source).stored (o.world.links s p.source).stored ≡ false → EffectAt s d (behind d event) n row (w.headers s) (d.after s) w.packets (o.world.gathering s)
  heard_effect stays =
      let same : w.headers s + 0 ≡ w.headers s = omega arith in
      subst (λ (k : ℕ). EffectAt s d (behind d event) n row k (d.after s) w.packets (o.world.gathering s)) same
      (subst (λ (b : Bool). EffectAt s d (behind d event) n row (w.headers s + (if b then 1 else 0)) (d.after s) w.packets (o.world.gathering s)) stays effect)

  -- ---- what is said

  abbrev pub TakenOr : EventSaid → Type 0
  TakenOr x = (x ≡ IsTaken) ⊎ (x ≡ IsIgnored)

  link_says : (a : Action) → TakenOr (said_of_link a)
  link_says Nothing = inr refl
  link_says Ignored = inr refl
  link_says Taken = inl refl
  link_says (Updates from to) = inr refl

  listen_says : (b : Bool) (v : World) (a : Action) → TakenOr (if b then says v (said_of_link a) else says w IsIgnored).said
  listen_says true v a = link_says a
  listen_says false v a = inr refl

  message_says : (m : Message) → is_answer m ≡ true → TakenOr (heard w p m).said
  message_says (Hello session number stored) e = listen_says (keeps_links n.role && is_linked (w.links s p.source)) _ _
  message_says (Update number x) e = absurd (cc)
  message_says (NetAck session number) e = listen_says (keeps_links n.role && is_linked (w.links s p.source)) _ _
  message_says (DataAck number) e = listen_says (keeps_links n.role && is_linked (w.links s p.source)) _ _

  state_says : (up : Bool) → TakenOr (if up then heard w p p.message else says w IsIgnored).said
  state_says true = message_says p.message answers
  state_says false = inr refl

  pub answer_says : TakenOr o.said
  answer_says = subst (λ (x : Option Packet). TakenOr (delivered w number x).said) (sym at) (state_says (is_up n.state && is_running n.halted))

  -- ---- the link that hears it

  pub hears_as : (m : Message) → is_answer m ≡ true → heard w p m ≡ link_heard w p (event_for m)
  hears_as (Hello session number stored) e = refl
  hears_as (Update number x) e = absurd (cc)
  hears_as (NetAck session number) e = refl
  hears_as (DataAck number) e = refl

  module _ (f : Flying) (flight : FlightStands w.packets f) (fits : LinksFit d) (l : IsListening n (w.links s p.source)) where
    pub listens : Listens n (w.links s p.source) n.safe n.line
    listens = record { up = l.up; running = l.running; keeps = l.keeps; linked = l.linked; safe_is = refl; line_is = refl }

    gathered_links : (took : Bool) (v : World) → (gathered_if took v p).links ≡ v.links
    gathered_links true v = refl
    gathered_links false v = refl

    abbrev rule : Sent
    rule = sent_step (plain_link p.source (w.links s p.source)) (event_for p.message) (receiver_facts n p.line)

    made : (o.world.links s p.source).made ≡ (w.links s p.source).made
    made =
        ap (λ (r : Outcome). (r.world.links s p.source).made) (outcome_is w number p at answers f flight n.safe n.line listens)
        ∙ ap (λ (g : ℕ → ℕ → Link). (g s p.source).made) (gathered_links (is_taken (said_of_link rule.action)) (with_link w s p.source (with_plain (w.links s p.source) rule.link)))
        ∙ ap (λ (x : Link). x.made) (link_there w number p at answers f flight n.safe n.line listens)

    -- it goes by the log or by nothing behind it too
    pub behind_plain : is_plain_mode (o.world.links s p.source).mode ≡ true
    behind_plain = (((fit_happened d event false tt fits).rows s).plain p.source (ap (λ (m : Option ℕ). is_made m) made ∙ l.linked)).mode
