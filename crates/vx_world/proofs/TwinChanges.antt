-- Changes of two worlds that differ in one halted site and its links alone.
use Rattle.vx_model.specs.Sites.{is_origin, is_up}
use Rattle.std.proofs.Common.{◌≡◌, ◌∙◌, ℕ, List, ◌++◌, ap, sym, refl, Bool, true, false}
use Rattle.std.specs.Prelude.{◌&&◌, eqb, if◌then◌else◌}
use Rattle.vx_model.specs.Content.{Write}
use Rattle.vx_history.specs.Events.{receiver_facts, handed, taken_if, heard, update_taken, said_of_link}
use Rattle.vx_history.specs.LinkForms.{plain_link, plain_receiver}
use Rattle.vx_history.specs.Receiving.{received_step}
use Rattle.vx_history.specs.Refusals.{Outcome, says, is_running, keeps_links}
use Rattle.vx_history.specs.Sending.{sent_step}
use Rattle.vx_history.specs.Sends.{is_linked, with_links, with_link, sending, promising}
use Rattle.vx_history.specs.World.{Node, Link, Packet, Promise, World, Message, Hello, Update, NetAck, DataAck, updated, with_node}
use Rattle.vx_history.proofs.Updates.{eqb_equal}
use Rattle.vx_history.specs.declared.event.Said.{Said}
use Rattle.vx_history.specs.declared.event.Said.TheVariants.{Ignored as IsIgnored, Taken as IsTaken}
use Rattle.vx_history.specs.declared.receiver.RAction.{RAction}
use Rattle.vx_history.specs.declared.receiver.RAction.TheVariants as act
use Rattle.vx_history.specs.declared.receiver.REvent.TheVariants.{Update as HearUpdate}
use Rattle.vx_history.specs.declared.sender.SEvent.{SEvent}
use Rattle.vx_history.specs.declared.sender.SEvent.TheVariants.{Hello as HearHello, NetAck as HearNetAck, DataAck as HearDataAck}
use Rattle.vx_model.specs.declared.site.SiteState.TheVariants.{Up}
use Rattle.vx_history.specs.Gatherings.{completes}
use Rattle.vx_world.specs.Twins.{Twin}

-- ---- changes side by side

module _ (s : ℕ) (w v : World) (twin : Twin s w v) where
  pub place : {A : Type 0} (f g : ℕ → A) (p : ℕ) (x y : A) (i : ℕ) → y ≡ x → g i ≡ f i → updated g p y i ≡ updated f p x i
  place f g p x y i here rest = ap (λ z. if eqb i p then z else g i) here ∙ ap (λ z. if eqb i p then x else z) rest

  pub twin_sending : (ps qs : List Packet) → qs ≡ ps → Twin s (sending w ps) (sending v qs)
  twin_sending ps qs e = record {
    sites = twin.sites;
    nodes = twin.nodes;
    rows = twin.rows;
    lines = twin.lines;
    packets = ap (λ (xs : List Packet). v.packets ++ xs) e ∙ ap (λ (xs : List Packet). xs ++ ps) twin.packets;
    promised = twin.promised;
    gathering = twin.gathering;
    here = twin.here;
    name = twin.name;
    up = twin.up;
    up_too = twin.up_too;
    halted = twin.halted;
    halted_too = twin.halted_too;
  }

  pub twin_promising : (es fs : List Promise) → fs ≡ es → Twin s (promising w es) (promising v fs)
  twin_promising es fs e = record {
    sites = twin.sites;
    nodes = twin.nodes;
    rows = twin.rows;
    lines = twin.lines;
    packets = twin.packets;
    promised = ap (λ (xs : List Promise). v.promised ++ xs) e ∙ ap (λ (xs : List Promise). xs ++ es) twin.promised;
    gathering = twin.gathering;
    here = twin.here;
    name = twin.name;
    up = twin.up;
    up_too = twin.up_too;
    halted = twin.halted;
    halted_too = twin.halted_too;
  }

  pub twin_row : (p : ℕ) (row more : ℕ → Link) → (p ≡ s → ⊥) → more ≡ row → Twin s (with_links w p row) (with_links v p more)
  twin_row p row more apart e = record {
    sites = twin.sites;
    nodes = twin.nodes;
    rows = λ i other. place w.links v.links p row more i e (twin.rows i other);
    lines = twin.lines;
    packets = twin.packets;
    promised = twin.promised;
    gathering = twin.gathering;
    here = twin.here;
    name = twin.name;
    up = twin.up;
    up_too = twin.up_too;
    halted = twin.halted;
    halted_too = twin.halted_too;
  }

  pub twin_link : (p q : ℕ) (l m : Link) → (p ≡ s → ⊥) → m ≡ l → Twin s (with_link w p q l) (with_link v p q m)
  twin_link p q l m apart e =
      twin_row p (updated (w.links p) q l) (updated (v.links p) q m) apart
      (ap (λ (k : Link). updated (v.links p) q k) e ∙ ap (λ (row : ℕ → Link). updated row q l) (twin.rows p apart))

  pub elsewhere : {A : Type 0} (P : A → Type 0) (f : ℕ → A) (p : ℕ) (x : A) → (p ≡ s → ⊥) → P (f s) → P (updated f p x s)
  elsewhere P f p x apart h = by_place (eqb s p) refl
    where
      by_place : (b : Bool) → eqb s p ≡ b → P (if b then x else f s)
      by_place true e = absurd (apart (sym (eqb_equal s p e)))
      by_place false e = h

  pub twin_node : (p : ℕ) (n k : Node) → (p ≡ s → ⊥) → k ≡ n → Twin s (with_node w p n) (with_node v p k)
  twin_node p n k apart e = record {
    sites = twin.sites;
    nodes = λ i other. place w.nodes v.nodes p n k i e (twin.nodes i other);
    rows = twin.rows;
    lines = twin.lines;
    packets = twin.packets;
    promised = twin.promised;
    gathering = twin.gathering;
    here = twin.here;
    name = elsewhere (λ (x : Node). (updated v.nodes p k s).name ≡ x.name) w.nodes p n apart
        (elsewhere (λ (x : Node). x.name ≡ (w.nodes s).name) v.nodes p k apart twin.name);
    up = elsewhere (λ (x : Node). x.state ≡ Up) w.nodes p n apart twin.up;
    up_too = elsewhere (λ (x : Node). x.state ≡ Up) v.nodes p k apart twin.up_too;
    halted = elsewhere (λ (x : Node). is_running x.halted ≡ false) w.nodes p n apart twin.halted;
    halted_too = elsewhere (λ (x : Node). is_running x.halted ≡ false) v.nodes p k apart twin.halted_too;
  }

-- ---- what is said of a packet

abbrev pub said_of_taken : RAction → Said
said_of_taken act.Nothing = IsIgnored
said_of_taken act.Ignored = IsIgnored
said_of_taken (act.IgnoredAck number) = IsIgnored
said_of_taken (act.Take number) = IsTaken
said_of_taken (act.DataAck number) = IsIgnored

abbrev pub say_of_link : Packet → Node → Link → SEvent → Said
say_of_link p n l e = if keeps_links n.role && is_linked l then said_of_link (sent_step (plain_link p.source l) e (receiver_facts n p.line)).action else IsIgnored

abbrev pub say_of_message : Packet → Node → Link → Message → Said
say_of_message p n l (Hello session number stored) = say_of_link p n l (HearHello session number stored)
say_of_message p n l (Update number x) = if is_origin n.role then IsIgnored else said_of_taken
    (received_step (plain_receiver n) (HearUpdate p.line number)).action
say_of_message p n l (NetAck session number) = say_of_link p n l (HearNetAck session number)
say_of_message p n l (DataAck number) = say_of_link p n l (HearDataAck number)

abbrev pub say_of : Packet → Node → Link → Said
say_of p n l = if is_up n.state && is_running n.halted then say_of_message p n l p.message else IsIgnored

pub either_said : (b : Bool) (o r : Outcome) → (if b then o else r).said ≡ (if b then o.said else r.said)
either_said true o r = refl
either_said false o r = refl

pub taken_said : (u : World) (p : Packet) (x : Write) (a : RAction) → (update_taken u p x a).said ≡ said_of_taken a
taken_said u p x act.Nothing = refl
taken_said u p x act.Ignored = refl
taken_said u p x (act.IgnoredAck number) = refl
taken_said u p x (act.Take number) = by_whole (completes (u.gathering p.target) p)
  where
    by_whole : (b : Bool) → (taken_if b u p x number).said ≡ IsTaken
    by_whole true = refl
    by_whole false = refl
taken_said u p x (act.DataAck number) = refl

pub heard_said : (u : World) (p : Packet) (m : Message) → (heard u p m).said ≡ say_of_message p (u.nodes p.target) (u.links p.target p.source) m
heard_said u p (Hello session number stored) = either_said (keeps_links (u.nodes p.target).role && is_linked (u.links p.target p.source)) _ (says u IsIgnored)
heard_said u p (Update number x) =
    let a : RAction = (received_step (plain_receiver (u.nodes p.target)) (HearUpdate p.line number)).action in
    either_said (is_origin (u.nodes p.target).role) (says u IsIgnored) (update_taken u p x a) ∙ ap
    (λ (t : Said). if is_origin (u.nodes p.target).role then IsIgnored else t) (taken_said u p x a)
heard_said u p (NetAck session number) = either_said (keeps_links (u.nodes p.target).role && is_linked (u.links p.target p.source)) _ (says u IsIgnored)
heard_said u p (DataAck number) = either_said (keeps_links (u.nodes p.target).role && is_linked (u.links p.target p.source)) _ (says u IsIgnored)

pub handed_said : (u : World) (p : Packet) → (handed u p).said ≡ say_of p (u.nodes p.target) (u.links p.target p.source)
handed_said u p =
    let open_now : Bool = is_up (u.nodes p.target).state && is_running (u.nodes p.target).halted in
    either_said open_now (heard u p p.message) (says u IsIgnored) ∙ ap (λ (t : Said). if open_now then t else IsIgnored) (heard_said u p p.message)
