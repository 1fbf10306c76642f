-- A greeting or an acknowledgement, as the world has it delivered.
use Rattle.std.proofs.Common.{◌≡◌, ◌∙◌, ◌⊎◌, inl, inr, ℕ, Bool, true, false, List, ap, sym, subst, refl}
use Rattle.std.proofs.lemmas.Option.{same_Some}
use Rattle.std.specs.Prelude.{Option, Some, None, ◌&&◌, if◌then◌else◌}
use Rattle.vx_model.specs.Sites.{is_up, same_line}
use Rattle.vx_model.specs.declared.history.Line.{Line}
use Rattle.vx_model.specs.declared.link.Link.{Link as PlainLink}
use Rattle.vx_model.specs.declared.site.SiteState.{SiteState}
use Rattle.vx_history.specs.Events.{delivered, receiver_facts, gathered_if, gathers, heard, is_taken, link_heard, packet_at, said_of_link}
use Rattle.vx_history.specs.Gatherings.{gathered, left_by}
use Rattle.vx_history.specs.LinkForms.{plain_link, with_plain}
use Rattle.vx_history.specs.Refusals.{Outcome, is_running, says}
use Rattle.vx_history.specs.Sending.{Sent, sent_step}
use Rattle.vx_history.specs.Sends.{is_linked, parts_of, with_link}
use Rattle.vx_history.specs.World.{DataAck, Gathering, Hello, Link, Message, NetAck, Node, Packet, Update, World, updated}
use Rattle.vx_history.specs.declared.event.Said.{Said}
use Rattle.vx_history.specs.declared.event.Said.TheVariants.{Ignored as IsIgnored, Taken as IsTaken}
use Rattle.vx_history.specs.declared.sender.Action.{Action}
use Rattle.vx_history.specs.declared.sender.Action.TheVariants.{Ignored, Nothing, Taken, Updates}
use Rattle.vx_history.specs.declared.sender.SEvent.{SEvent}
use Rattle.vx_history.specs.declared.sender.SEvent.TheVariants as event
use Rattle.vx_history.specs.declared.sender.SFacts.{SFacts}
use Rattle.vx_history.proofs.Updates.{at_place}
use Rattle.vx_courier.specs.Together.{AreOne, AssemblyStands, IsPutTo}
use Rattle.vx_courier.specs.UnderWay.{FlightStands, part_carried}
use Rattle.vx_courier.proofs.Flying.{place_of_number}
use Rattle.vx_courier.proofs.Joining.{put_together}
use Rattle.vx_courier.proofs.Singles.{single_message}
use Rattle.vx_net.specs.Flights.{Flying}
use Rattle.vx_packet.specs.Assemblies.{Assembled, TakesPart}
use Rattle.vx_packet.specs.Messages.{IsMessage}
use Rattle.vx_packet.specs.Packets.{payload_in}
use Rattle.vx_packet.specs.declared.assembly.Taken.{Taken as Put}
use Rattle.vx_packet.specs.declared.assembly.Taken.TheVariants as put
use Rattle.vx_packet.specs.declared.message.Message.{Message as Spelled}
use Rattle.vx_packet.specs.declared.part.Part.{Part}
use Rattle.vx_parts.specs.Spelling.{spelled_message}
use Rattle.vx_peers.specs.Answers.{LinkStandsFor, Listens, PartStandsFor, event_in, is_answer}
use Rattle.vx_peers.proofs.Found.{ReadSo}
use Rattle.vx_peers.proofs.Links.{data_again, hello_again, net_again}

-- the event that an answer is
abbrev pub event_for : Message → SEvent
event_for (Hello session number stored) = event.Hello session number stored
event_for (Update number x) = event.Tick
event_for (NetAck session number) = event.NetAck session number
event_for (DataAck number) = event.DataAck number

event_there : (m : Message) → is_answer m ≡ true → event_in (spelled_message m) ≡ Some (event_for m)
event_there (Hello session number stored) is = refl
event_there (Update number x) is = absurd (cc)
event_there (NetAck session number) is = refl
event_there (DataAck number) is = refl

one_part : (m : Message) → is_answer m ≡ true → parts_of m ≡ 1
one_part (Hello session number stored) is = refl
one_part (Update number x) is = absurd (cc)
one_part (NetAck session number) is = refl
one_part (DataAck number) is = refl

heard_is : (w : World) (p : Packet) (m : Message) → is_answer m ≡ true → heard w p m ≡ link_heard w p (event_for m)
heard_is w p (Hello session number stored) is = refl
heard_is w p (Update number x) is = absurd (cc)
heard_is w p (NetAck session number) is = refl
heard_is w p (DataAck number) is = refl

again : (s : ℕ) (l : Link) (facts : SFacts) (m : Message) → is_answer m ≡ true → (let k : PlainLink = (sent_step (plain_link s l) (event_for m) facts).link in plain_link s (with_plain l k) ≡ k)
again s l facts (Hello session number stored) is = hello_again s l facts session number stored
again s l facts (Update number x) is = absurd (cc)
again s l facts (NetAck session number) is = net_again s l facts session number
again s l facts (DataAck number) is = data_again s l facts number

module _ (w : World) (number : ℕ) (p : Packet) (at : packet_at w.packets number ≡ Some p) (answers : is_answer p.message ≡ true) (f : Flying) (flight : FlightStands w.packets f)
    (safe : ℕ) (line : Line) (listens : Listens (w.nodes p.target) (w.links p.target p.source) safe line) where
  abbrev n : Node
  n = w.nodes p.target

  abbrev l : Link
  l = w.links p.target p.source

  abbrev r : Sent
  r = sent_step (plain_link p.source l) (event_for p.message) (receiver_facts n p.line)

  abbrev after : World
  after = with_link w p.target p.source (with_plain l r.link)

  pub outcome_is : delivered w number (packet_at w.packets number) ≡ gathers p (says after (said_of_link r.action))
  outcome_is =
      ap (delivered w number) at
      ∙ ap (gathers p)
      (ap (λ (st : SiteState). if is_up st && is_running n.halted then heard w p p.message else says w IsIgnored) listens.up
      ∙ ap (λ (h : Option ℕ). if is_running h then heard w p p.message else says w IsIgnored) listens.running
      ∙ heard_is w p p.message answers
      ∙ ap (λ (b : Bool). if b && is_linked l then says after (said_of_link r.action) else says w IsIgnored) listens.keeps
      ∙ ap (λ (b : Bool). if b then says after (said_of_link r.action) else says w IsIgnored) listens.linked)

  -- the rule in memory says what it says in the world
  pub step_is : (bytes : List ℕ) (part : Part) → ReadSo p bytes part → (k : PlainLink) → k ≡ plain_link p.source l → (ok : Bool) → ok ≡ same_line part.line line → (e : SEvent) → e ≡ event_for p.message
      → sent_step k e (record { safe = safe; line_ok = ok }) ≡ r
  step_is bytes part read k link ok same e is =
      let line_ok : ok ≡ same_line p.line n.line = same ∙ ap (λ (i : Line). same_line i line) read.line ∙ ap (same_line p.line) listens.line_is in
      ap (λ (t : PlainLink). sent_step t e (record { safe = safe; line_ok = ok })) link
      ∙ ap (λ (t : SEvent). sent_step (plain_link p.source l) t (record { safe = safe; line_ok = ok })) is
      ∙ ap (λ (i : ℕ). sent_step (plain_link p.source l) (event_for p.message) (record { safe = i; line_ok = ok })) listens.safe_is
      ∙ ap (λ (b : Bool). sent_step (plain_link p.source l) (event_for p.message) (record { safe = n.safe; line_ok = b })) line_ok

  pub message_is : (bytes : List ℕ) (part : Part) → ReadSo p bytes part → (o : Option Spelled) → ((m : Spelled) → IsMessage part.kind part.session part.number (payload_in part bytes) m → o ≡ Some m) → o ≡ Some (spelled_message p.message)
  message_is bytes part read o only =
      only (spelled_message p.message)
      (subst (λ (q : Part). IsMessage q.kind q.session q.number (payload_in q bytes) (spelled_message p.message)) (sym read.part_is)
      (subst (λ (bs : List ℕ). IsMessage (part_carried p).kind (part_carried p).session (part_carried p).number (payload_in (part_carried p) bs) (spelled_message p.message)) (sym read.bytes_are)
      (single_message p read.fly (one_part p.message answers))))

  pub event_is : (m : Spelled) → m ≡ spelled_message p.message → (o : Option SEvent) → o ≡ event_in m → o ≡ Some (event_for p.message)
  event_is m is o found = found ∙ ap event_in is ∙ event_there p.message answers

  pub link_there : after.links p.target p.source ≡ with_plain l r.link
  link_there = ap (λ (row : ℕ → Link). row p.source) (at_place w.links p.target (updated (w.links p.target) p.source (with_plain l r.link))) ∙ at_place (w.links p.target) p.source (with_plain l r.link)

  link_is : (k : PlainLink) → k ≡ r.link → k ≡ plain_link p.source (after.links p.target p.source)
  link_is k is = is ∙ sym (again p.source l (receiver_facts n p.line) p.message answers) ∙ ap (plain_link p.source) (sym link_there)

  gathered_links : (took : Bool) (v : World) → (gathered_if took v p).links ≡ v.links
  gathered_links true v = refl
  gathered_links false v = refl

  -- and so it is behind the delivery
  pub link_so : (k : PlainLink) → k ≡ r.link → k ≡ plain_link p.source ((delivered w number (packet_at w.packets number)).world.links p.target p.source)
  link_so k is =
      link_is k is
      ∙ sym (ap (λ (f : ℕ → ℕ → Link). plain_link p.source (f p.target p.source)) (ap (λ (o : Outcome). o.world.links) outcome_is ∙ gathered_links (is_taken (said_of_link r.action)) after))

  said_ignored : (x : Action) → (x ≡ Taken → ⊥) → said_of_link x ≡ IsIgnored
  said_ignored Nothing other = refl
  said_ignored Ignored other = refl
  said_ignored Taken other = absurd (other refl)
  said_ignored (Updates from to) other = refl

  -- but for what is in assembly

  pub part_ignored : (k : PlainLink) → k ≡ r.link → (r.action ≡ Taken → ⊥) → PartStandsFor (delivered w number (packet_at w.packets number)) p.target p.source k f IsIgnored
  part_ignored k is other =
      subst (λ (o : Outcome). PartStandsFor o p.target p.source k f IsIgnored) (sym (outcome_is ∙ ap (λ (s : Said). gathers p (says after s)) (said_ignored r.action other)))
      (record { says = refl; link = link_is k is; flight = flight })

  pub part_taken : (k : PlainLink) → k ≡ r.link → r.action ≡ Taken → PartStandsFor (delivered w number (packet_at w.packets number)) p.target p.source k f IsTaken
  part_taken k is took =
      subst (λ (o : Outcome). PartStandsFor o p.target p.source k f IsTaken) (sym (outcome_is ∙ ap (λ (x : Action). gathers p (says after (said_of_link x))) took))
      (record { says = refl; link = link_is k is; flight = flight })

  module _ (a : Assembled) (stands : AssemblyStands w.packets p.target (w.gathering p.target) a) where
    pub ignored_so : (k : PlainLink) → k ≡ r.link → (r.action ≡ Taken → ⊥) → LinkStandsFor (delivered w number (packet_at w.packets number)) p.target p.source k a f IsIgnored
    ignored_so k is other =
        subst (λ (o : Outcome). LinkStandsFor o p.target p.source k a f IsIgnored) (sym (outcome_is ∙ ap (λ (s : Said). gathers p (says after s)) (said_ignored r.action other)))
        (record { says = refl; link = link_is k is; assembly = stands; flight = flight })

    pub taken_so : (k : PlainLink) → k ≡ r.link → r.action ≡ Taken → AreOne w.packets → (bytes : List ℕ) (part : Part) → ReadSo p bytes part → (t : Put) (new : Assembled) → TakesPart a part (payload_in part bytes) t new
        → LinkStandsFor (delivered w number (packet_at w.packets number)) p.target p.source k new f IsTaken
    taken_so k is took one bytes part read t new takes =
        let place = place_of_number w.packets number p at in
        let whole : IsPutTo w.packets p.target (w.gathering p.target) p t new
        = put_together w.packets p.target place.0 p one place.2 refl read.fly (w.gathering p.target) a stands t new
        (subst (λ (bs : List ℕ). TakesPart a (part_carried p) (payload_in (part_carried p) bs) t new) read.bytes_are (subst (λ (q : Part). TakesPart a q (payload_in q bytes) t new) read.part_is takes)) in
        let there : (gathered after p).gathering p.target ≡ left_by (w.gathering p.target) p = at_place w.gathering p.target (left_by (w.gathering p.target) p) in
        subst (λ (o : Outcome). LinkStandsFor o p.target p.source k new f IsTaken) (sym (outcome_is ∙ ap (λ (x : Action). gathers p (says after (said_of_link x))) took))
        (record {
          says = refl;
          link = link_is k is;
          assembly = subst (λ (h : Option Gathering). AssemblyStands w.packets p.target h new) (sym there) (by_put t whole);
          flight = flight;
        })
      where
        by_put : (s : Put) → IsPutTo w.packets p.target (w.gathering p.target) p s new → AssemblyStands w.packets p.target (left_by (w.gathering p.target) p) new
        by_put put.Kept is = is.1
        by_put put.Whole is = is.1
        by_put put.Bad is = absurd is

pub not_taken : (x : Action) → (x ≡ Nothing) ⊎ ((x ≡ Ignored) ⊎ ((from : ℕ) × (to : ℕ) × (x ≡ Updates from to))) → x ≡ Taken → ⊥
not_taken x (inl nothing) taken = let e : Nothing ≡ Taken = sym nothing ∙ taken in absurd (cc)
not_taken x (inr (inl ignored)) taken = let e : Ignored ≡ Taken = sym ignored ∙ taken in absurd (cc)
not_taken x (inr (inr updates)) taken = let e : Updates updates.0 updates.1 ≡ Taken = sym updates.2 ∙ taken in absurd (cc)

pub never_empty : {A : Type 0} (o : Option A) (x : A) → o ≡ Some x → o ≡ None → ⊥
never_empty o x some none = let e : Some x ≡ None = sym some ∙ none in absurd (cc)

pub same_value : {A : Type 0} (o : Option A) (x y : A) → o ≡ Some x → o ≡ Some y → y ≡ x
same_value o x y one two = same_Some y x (sym two ∙ one)
