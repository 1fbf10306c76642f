-- What events of other sites make of two worlds that differ in one halted site and its links alone.
use Rattle.vx_model.specs.Sites.{is_origin, is_up, same_line}
use Rattle.std.proofs.Common.{◌≡◌, ◌∙◌, inl, inr, ℕ, List, [], ap, sym, subst, refl, Bool, true, false}
use Rattle.std.specs.Prelude.{Option, Some, None, not, ◌&&◌, eqb, if◌then◌else◌}
use Rattle.std.proofs.lemmas.Bool.{cases_eq}
use Rattle.vx_model.specs.Content.{Write}
use Rattle.vx_history.specs.Events.{link_event, ticked_link, ticked_at, link_step, receiver_facts, greets, greeting_back, packet_at, delivered, handed, gathers, gathered_if, is_taken, taken_if, heard, link_heard, update_heard, update_taken, from_memory, with_write, said_of_link}
use Rattle.vx_history.specs.LinkForms.{plain_link, with_plain, plain_receiver}
use Rattle.vx_history.specs.Receiving.{received_step}
use Rattle.vx_history.specs.Refusals.{Outcome, says, unless, on_link_if, when_live, is_running, keeps_links}
use Rattle.vx_history.specs.Sending.{Sent, sent_step}
use Rattle.vx_history.specs.Sends.{is_linked, with_link, sending, sent_by, packets_of, greeting}
use Rattle.vx_history.specs.Step.{outcome_of, done}
use Rattle.vx_history.specs.Steps.{stopped_by, burned}
use Rattle.vx_history.specs.World.{Node, Link, Packet, Gathering, World, Message, Hello, Update, NetAck, DataAck, no_regions, with_node}
use Rattle.vx_history.specs.declared.event.Event.TheVariants.{Pump, Tick, Deliver, Connect, Cut, Pause, Resume, Fault}
use Rattle.vx_history.specs.declared.event.Said.{Said}
use Rattle.vx_history.specs.declared.event.Said.TheVariants.{Ignored as IsIgnored, Refused}
use Rattle.vx_model.specs.declared.no.No.TheVariants.{Down as NotUp, LinkDown, Paused, Device}
use Rattle.vx_model.specs.declared.no.SiteName.TheVariants.{Number as SiteNumber}
use Rattle.vx_history.specs.declared.receiver.RAction.{RAction}
use Rattle.vx_history.specs.declared.receiver.RAction.TheVariants as act
use Rattle.vx_history.specs.declared.receiver.REvent.TheVariants.{Update as HearUpdate}
use Rattle.vx_history.specs.declared.sender.SEvent.{SEvent}
use Rattle.vx_history.specs.declared.sender.SEvent.TheVariants.{Pump as PumpLink, Connect as ConnectLink, Cut as CutLink, Pause as PauseLink, Resume as ResumeLink, Hello as HearHello, NetAck as HearNetAck, DataAck as HearDataAck}
use Rattle.vx_model.specs.declared.site.SiteState.{SiteState}
use Rattle.vx_model.specs.declared.site.SiteState.TheVariants.{Up}
use Rattle.vx_history.specs.Gatherings.{completes, left_by}
use Rattle.vx_world.specs.Twins.{Twin}
use Rattle.vx_world.proofs.TwinTests.{not_both, both, there, linked}
use Rattle.vx_world.proofs.TwinChanges.{twin_sending, twin_link, twin_node, say_of, handed_said}

-- ---- events side by side

module _ (s : ℕ) (w v : World) (twin : Twin s w v) where
  pub same_step : (p q : ℕ) (e : SEvent) → (p ≡ s → ⊥) → link_step v p q e ≡ link_step w p q e
  same_step p q e apart =
      ap (λ (row : ℕ → Link). sent_step (plain_link q (row q)) e (receiver_facts (v.nodes p) (v.nodes p).line)) (twin.rows p apart)
      ∙ ap (λ (n : Node). sent_step (plain_link q (w.links p q)) e (receiver_facts n n.line)) (twin.nodes p apart)

  pub event : (p q : ℕ) (e : SEvent) → (p ≡ s → ⊥) → Twin s (link_event w p q e) (link_event v p q e)
  event p q e apart =
      let r : Sent = link_step w p q e in
      let t : Sent = link_step v p q e in
      let same : t ≡ r = same_step p q e apart in
      twin_sending s (with_link w p q (with_plain (w.links p q) r.link)) (with_link v p q (with_plain (v.links p q) t.link))
      (twin_link s w v twin p q (with_plain (w.links p q) r.link) (with_plain (v.links p q) t.link) apart
      (ap (λ (x : Sent). with_plain (v.links p q) x.link) same ∙ ap (λ (row : ℕ → Link). with_plain (row q) r.link) (twin.rows p apart)))
      (sent_by r.action p q (w.nodes p)) (sent_by t.action p q (v.nodes p))
      (ap (λ (x : Sent). sent_by x.action p q (v.nodes p)) same ∙ ap (λ (n : Node). sent_by r.action p q n) (twin.nodes p apart))

  pub twin_tick : (p q : ℕ) → Twin s (outcome_of w (Tick p q)).world (outcome_of v (Tick p q)).world
  twin_tick p q =
      linked s keeps_links w v p q (done (ticked_at w p q)) (done (ticked_at v p q)) twin
      (λ apart. twin_link s w v twin p q (ticked_link w p q) (ticked_link v p q) apart
      (ap (λ (row : ℕ → Link). let y : Link = record (row q) { sent = (row q).net; trimmed = 0; since = no_regions } in y) (twin.rows p apart)))

  pub twin_cut : (p q : ℕ) → Twin s (outcome_of w (Cut p q)).world (outcome_of v (Cut p q)).world
  twin_cut p q = linked s keeps_links w v p q (done (link_event w p q CutLink)) (done (link_event v p q CutLink)) twin (event p q CutLink)

  pub twin_pause : (p q : ℕ) → Twin s (outcome_of w (Pause p q)).world (outcome_of v (Pause p q)).world
  twin_pause p q = linked s keeps_links w v p q (done (link_event w p q PauseLink)) (done (link_event v p q PauseLink)) twin (event p q PauseLink)

  pub twin_resume : (p q : ℕ) → Twin s (outcome_of w (Resume p q)).world (outcome_of v (Resume p q)).world
  twin_resume p q = linked s keeps_links w v p q (done (link_event w p q ResumeLink)) (done (link_event v p q ResumeLink)) twin (event p q ResumeLink)

  pub twin_pump : (p q : ℕ) → Twin s (outcome_of w (Pump p q)).world (outcome_of v (Pump p q)).world
  twin_pump p q =
      let o : Outcome = done (link_event w p q PumpLink) in
      let r : Outcome = done (link_event v p q PumpLink) in
      linked s keeps_links w v p q (when_live w q (w.links p q) o) (when_live v q (v.links p q) r) twin
      (λ apart.
      both s (not ((w.links p q).attached && (w.links p q).connected)) (not ((v.links p q).attached && (v.links p q).connected)) (LinkDown (SiteNumber q))
      (LinkDown (SiteNumber q)) w v (unless (w.links p q).paused Paused w o) (unless (v.links p q).paused Paused v r)
      (ap (λ (row : ℕ → Link). not ((row q).attached && (row q).connected)) (twin.rows p apart)) twin
      (λ _. both s (w.links p q).paused (v.links p q).paused Paused Paused w v o r
      (ap (λ (row : ℕ → Link). (row q).paused) (twin.rows p apart)) twin (λ _. event p q PumpLink apart)))

  pub unmoved : (a b : Node) → b.state ≡ Up → is_running b.halted ≡ false → greets a b ≡ false
  unmoved a b up halted =
      ap (λ (t : SiteState). is_up t && (is_running b.halted && (not (is_origin b.role) && same_line b.line a.line))) up
      ∙ ap (λ (t : Bool). t && (not (is_origin b.role) && same_line b.line a.line)) halted

  pub greets_so : (u : World) (p q : ℕ) (b : Bool) → greets (u.nodes p) (u.nodes q) ≡ b → greeting_back u p q ≡ (if b then greeting q p (u.nodes q) else [])
  greets_so u p q b e = ap (λ (t : Bool). if t then greeting q p (u.nodes q) else []) e

  pub same_greeting : (p q : ℕ) → (p ≡ s → ⊥) → greeting_back v p q ≡ greeting_back w p q
  same_greeting p q apart = elim (cases_eq q s) [
    | inl same ↦
        subst (λ (i : ℕ). greeting_back v p i ≡ greeting_back w p i) (sym same)
        (greets_so v p s false (unmoved (v.nodes p) (v.nodes s) twin.up_too twin.halted_too) ∙ sym
        (greets_so w p s false (unmoved (w.nodes p) (w.nodes s) twin.up twin.halted)))
    | inr other ↦
        ap (λ (n : Node). if greets n (v.nodes q) then greeting q p (v.nodes q) else []) (twin.nodes p apart)
        ∙ ap (λ (n : Node). if greets (w.nodes p) n then greeting q p n else []) (twin.nodes q other)
  ]

  pub twin_connect : (p q : ℕ) → Twin s (outcome_of w (Connect p q)).world (outcome_of v (Connect p q)).world
  twin_connect p q =
      linked s keeps_links w v p q (done (sending (link_event w p q ConnectLink) (greeting_back w p q)))
      (done (sending (link_event v p q ConnectLink) (greeting_back v p q))) twin
      (λ apart. twin_sending s (link_event w p q ConnectLink) (link_event v p q ConnectLink) (event p q ConnectLink apart) (greeting_back w p q)
      (greeting_back v p q) (same_greeting p q apart))

  -- a link of an origin is set, attached or detached
  pub twin_set : (p q : ℕ) (change : Link → Link)
      → Twin s (on_link_if is_origin w p q (done (with_link w p q (change (w.links p q))))).world (on_link_if is_origin v p q (done (with_link v p q (change (v.links p q))))).world
  twin_set p q change =
      let l : Link = change (w.links p q) in
      let m : Link = change (v.links p q) in
      linked s is_origin w v p q (done (with_link w p q l)) (done (with_link v p q m)) twin
      (λ apart. twin_link s w v twin p q l m apart (ap (λ (row : ℕ → Link). change (row q)) (twin.rows p apart)))

  -- ---- packets

  pub one_of : (b c : Bool) (o r x y : Outcome) → c ≡ b → Twin s o.world r.world → Twin s x.world y.world
      → Twin s (if b then o else x).world (if c then r else y).world
  one_of true true o r x y e first second = first
  one_of false false o r x y e first second = second
  one_of true false o r x y e first second = absurd (not_both true refl (sym e))
  one_of false true o r x y e first second = absurd (not_both false (sym e) refl)

  pub heard_link : (p : Packet) (e : SEvent) → (p.target ≡ s → ⊥) → Twin s (link_heard w p e).world (link_heard v p e).world
  heard_link p e apart =
      let l : Link = w.links p.target p.source in
      let m : Link = v.links p.target p.source in
      let r : Sent = sent_step (plain_link p.source l) e (receiver_facts (w.nodes p.target) p.line) in
      let t : Sent = sent_step (plain_link p.source m) e (receiver_facts (v.nodes p.target) p.line) in
      let links : m ≡ l = ap (λ (row : ℕ → Link). row p.source) (twin.rows p.target apart) in
      let same : t ≡ r = ap (λ (k : Link). sent_step (plain_link p.source k) e (receiver_facts (v.nodes p.target) p.line)) links ∙ ap
      (λ (n : Node). sent_step (plain_link p.source l) e (receiver_facts n p.line)) (twin.nodes p.target apart) in
      one_of (keeps_links (w.nodes p.target).role && is_linked l) (keeps_links (v.nodes p.target).role && is_linked m)
      (says (with_link w p.target p.source (with_plain l r.link)) (said_of_link r.action))
      (says (with_link v p.target p.source (with_plain m t.link)) (said_of_link t.action)) (says w IsIgnored) (says v IsIgnored)
      (ap (λ (n : Node). keeps_links n.role && is_linked m) (twin.nodes p.target apart) ∙ ap
      (λ (k : Link). keeps_links (w.nodes p.target).role && is_linked k) links)
      (twin_link s w v twin p.target p.source (with_plain l r.link) (with_plain m t.link) apart
      (ap (λ (x : Sent). with_plain m x.link) same ∙ ap (λ (k : Link). with_plain k r.link) links))
      twin

  pub from_both : (w' v' : World) → Twin s w' v' → (n k : Node) (p : Packet) (number : ℕ) → k ≡ n → Twin s (from_memory w' n p number) (from_memory v' k p number)
  from_both w' v' twin' n k p number e =
      twin_sending s w' v' twin' (packets_of p.target p.source n.line (NetAck n.session number)) (packets_of p.target p.source k.line (NetAck k.session number))
      (ap (λ (m : Node). packets_of p.target p.source m.line (NetAck m.session number)) e)

  pub taken_both : (p : Packet) (x : Write) (a : RAction) → (p.target ≡ s → ⊥) → Twin s (update_taken w p x a).world (update_taken v p x a).world
  taken_both p x act.Nothing apart = twin
  taken_both p x act.Ignored apart = twin
  taken_both p x (act.IgnoredAck number) apart = from_both w v twin (w.nodes p.target) (v.nodes p.target) p number (twin.nodes p.target apart)
  taken_both p x (act.Take number) apart =
      subst (λ (g : Option Gathering). Twin s (taken_if (completes (w.gathering p.target) p) w p x number).world
      (taken_if (completes g p) v p x number).world) (sym (twin.gathering p.target))
      (by_whole (completes (w.gathering p.target) p)
      (from_both (with_node w p.target (with_write (w.nodes p.target) p.source x)) (with_node v p.target (with_write (v.nodes p.target) p.source x))
      (twin_node s w v twin p.target (with_write (w.nodes p.target) p.source x) (with_write (v.nodes p.target) p.source x) apart
      (ap (λ (n : Node). with_write n p.source x) (twin.nodes p.target apart)))
      (w.nodes p.target) (v.nodes p.target) p number (twin.nodes p.target apart)))
    where
      by_whole : (b : Bool) → Twin s (taken_if true w p x number).world (taken_if true v p x number).world
          → Twin s (taken_if b w p x number).world (taken_if b v p x number).world
      by_whole true whole = whole
      by_whole false whole = twin
  taken_both p x (act.DataAck number) apart = twin

  pub heard_update : (p : Packet) (number : ℕ) (x : Write) → (p.target ≡ s → ⊥) → Twin s (update_heard w p number x).world (update_heard v p number x).world
  heard_update p number x apart =
      let rule : Node → RAction = λ n. (received_step (plain_receiver n) (HearUpdate p.line number)).action in
      one_of (is_origin (w.nodes p.target).role) (is_origin (v.nodes p.target).role) (says w IsIgnored) (says v IsIgnored)
      (update_taken w p x (rule (w.nodes p.target))) (update_taken v p x (rule (v.nodes p.target)))
      (ap (λ (n : Node). is_origin n.role) (twin.nodes p.target apart)) twin
      (subst (λ (a : RAction). Twin s (update_taken w p x (rule (w.nodes p.target))).world (update_taken v p x a).world)
      (sym (ap rule (twin.nodes p.target apart))) (taken_both p x (rule (w.nodes p.target)) apart))

  pub heard_both : (p : Packet) (m : Message) → (p.target ≡ s → ⊥) → Twin s (heard w p m).world (heard v p m).world
  heard_both p (Hello session number stored) apart = heard_link p (HearHello session number stored) apart
  heard_both p (Update number x) apart = heard_update p number x apart
  heard_both p (NetAck session number) apart = heard_link p (HearNetAck session number) apart
  heard_both p (DataAck number) apart = heard_link p (HearDataAck number) apart

  pub off : (u : World) (n : Node) (o x : Outcome) → is_running n.halted ≡ false → n.state ≡ Up → (if is_up n.state && is_running n.halted then o else x) ≡ x
  off u n o x halted up = ap (λ (t : SiteState). if is_up t && is_running n.halted then o else x) up ∙ ap (λ (t : Bool). if t then o else x) halted

  pub said_both : (p : Packet) → (p.target ≡ s → ⊥) → (handed v p).said ≡ (handed w p).said
  said_both p apart =
      handed_said v p ∙ ap (λ (n : Node). say_of p n (v.links p.target p.source)) (twin.nodes p.target apart) ∙ ap
      (λ (row : ℕ → Link). say_of p (w.nodes p.target) (row p.source)) (twin.rows p.target apart) ∙ sym (handed_said w p)

  pub gathers_both : (p : Packet) (o r : Outcome) → r.said ≡ o.said → Twin s o.world r.world → Twin s (gathers p o).world (gathers p r).world
  gathers_both p o r same t = subst (λ (x : Said). Twin s (gathered_if (is_taken o.said) o.world p) (gathered_if (is_taken x) r.world p)) (sym same)
      (by_taken (is_taken o.said))
    where
      by_taken : (b : Bool) → Twin s (gathered_if b o.world p) (gathered_if b r.world p)
      by_taken true = record {
        sites = t.sites;
        nodes = t.nodes;
        rows = t.rows;
        lines = t.lines;
        packets = t.packets;
        promised = t.promised;
        gathering = λ i. ap (λ (g : Option Gathering). if eqb i p.target then left_by g p else r.world.gathering i) (t.gathering p.target) ∙ ap
            (λ (g : Option Gathering). if eqb i p.target then left_by (o.world.gathering p.target) p else g) (t.gathering i);
        here = t.here;
        name = t.name;
        up = t.up;
        up_too = t.up_too;
        halted = t.halted;
        halted_too = t.halted_too;
      }
      by_taken false = t

  pub handed_both : (p : Packet) → Twin s (gathers p (handed w p)).world (gathers p (handed v p)).world
  handed_both p = elim (cases_eq p.target s) [
    | inl same ↦
        subst (λ (o : Outcome). Twin s (gathers p o).world (gathers p (handed v p)).world)
        (sym (off w (w.nodes p.target) (heard w p p.message) (says w IsIgnored)
        (subst (λ (i : ℕ). is_running (w.nodes i).halted ≡ false) (sym same) twin.halted) (subst (λ (i : ℕ). (w.nodes i).state ≡ Up) (sym same) twin.up)))
        (subst (λ (o : Outcome). Twin s w (gathers p o).world)
        (sym (off v (v.nodes p.target) (heard v p p.message) (says v IsIgnored)
        (subst (λ (i : ℕ). is_running (v.nodes i).halted ≡ false) (sym same) twin.halted_too)
        (subst (λ (i : ℕ). (v.nodes i).state ≡ Up) (sym same) twin.up_too))) twin)
    | inr apart ↦ gathers_both p (handed w p) (handed v p) (said_both p apart)
        (one_of (is_up (w.nodes p.target).state && is_running (w.nodes p.target).halted)
        (is_up (v.nodes p.target).state && is_running (v.nodes p.target).halted)
        (heard w p p.message) (heard v p p.message) (says w IsIgnored) (says v IsIgnored)
        (ap (λ (n : Node). is_up n.state && is_running n.halted) (twin.nodes p.target apart)) (heard_both p p.message apart) twin)
  ]

  pub delivered_both : (number : ℕ) (o : Option Packet) → Twin s (delivered w number o).world (delivered v number o).world
  delivered_both number None = twin
  delivered_both number (Some p) = handed_both p

  pub twin_deliver : (number : ℕ) → Twin s (outcome_of w (Deliver number)).world (outcome_of v (Deliver number)).world
  twin_deliver number =
      subst (λ (ps : List Packet). Twin s (delivered w number (packet_at w.packets number)).world (delivered v number (packet_at ps number)).world)
      (sym twin.packets)
      (delivered_both number (packet_at w.packets number))

  pub twin_fault : (q disk : ℕ) → (q ≡ s → ⊥) → Twin s (outcome_of w (Fault q disk)).world (outcome_of v (Fault q disk)).world
  twin_fault q disk apart =
      let o : Outcome = says (stopped_by w q disk) (Refused (Device disk)) in
      let r : Outcome = says (stopped_by v q disk) (Refused (Device disk)) in
      there s w v q (unless (not (is_up (w.nodes q).state)) NotUp w o) (unless (not (is_up (v.nodes q).state)) NotUp v r) twin
      (both s (not (is_up (w.nodes q).state)) (not (is_up (v.nodes q).state)) NotUp NotUp w v o r
      (ap (λ (n : Node). not (is_up n.state)) (twin.nodes q apart)) twin
      (λ _. twin_node s w v twin q (record (w.nodes q) { halted = Some disk; fuse = burned (w.nodes q).fuse })
      (record (v.nodes q) { halted = Some disk; fuse = burned (v.nodes q).fuse }) apart
      (ap (λ (n : Node). let k : Node = record n { halted = Some disk; fuse = burned n.fuse } in k) (twin.nodes q apart))))
