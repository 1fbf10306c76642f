-- The packet of an update that is handed to a site: what changes of the world is that site, and none of its links.
use Rattle.std.proofs.Common.{◌≡◌, ◌∙◌, ◌+◌, ℕ, Bool, true, false, List, [], ◌∷◌, ◌++◌, length, ap, sym, subst, refl, arith, length-append}
use Rattle.std.specs.Prelude.{◌&&◌, eqb, ltb, Option, Some, if◌then◌else◌}
use Rattle.std.proofs.lemmas.Bool.Decides.{nat_tests}
use Rattle.std.proofs.lemmas.List.{append-nil}
use Rattle.vx_model.specs.Content.{Write}
use Rattle.vx_model.specs.Sites.{is_origin, is_up}
use Rattle.vx_model.specs.declared.site.SiteState.{SiteState}
use Rattle.vx_model.specs.declared.site.SiteState.TheVariants.{Bare, Up, Deported, Down}
use Rattle.vx_history.specs.Doubts.{Doubted, happened}
use Rattle.vx_history.specs.Events.{delivered, gathered_if, handed, heard, is_taken, linked_sites, packet_at, taken_if, update_taken, with_write}
use Rattle.vx_history.specs.Gatherings.{completes}
use Rattle.vx_history.specs.Headers.{count_at, heard_headers}
use Rattle.vx_history.specs.LinkForms.{plain_receiver}
use Rattle.vx_history.specs.Receiving.{received_step}
use Rattle.vx_history.specs.Refusals.{is_running, says}
use Rattle.vx_history.specs.Sends.{packets_of}
use Rattle.vx_history.specs.World.{Link, Message, NetAck, Node, Packet, Update, World}
use Rattle.vx_history.specs.declared.event.Event.TheVariants.{Deliver}
use Rattle.vx_history.specs.declared.event.Said.TheVariants.{Ignored as IsIgnored}
use Rattle.vx_history.specs.declared.receiver.RAction.{RAction}
use Rattle.vx_history.specs.declared.receiver.RAction.TheVariants.{DataAck, Ignored, IgnoredAck, Nothing, Take}
use Rattle.vx_history.specs.declared.receiver.REvent.TheVariants.{Update as HearUpdate}
use Rattle.vx_order.specs.declared.facts.LinkFacts.{LinkFacts}
use Rattle.vx_order.specs.declared.facts.RvgFacts.{RvgFacts}
use Rattle.vx_order.specs.declared.facts.SiteFacts.{SiteFacts}
use Rattle.vx_events.specs.Effects.{EffectAt}
use Rattle.vx_events.specs.Facts.{group_by, group_fact, head_of}
use Rattle.vx_events.specs.LinkedFacts.{link_fact, link_facts, links_by, seen_fact}
use Rattle.vx_effects.specs.Facts.{fact_of, last_group, received_fact}
use Rattle.vx_effects.proofs.Fitting.{updated_other}

-- ---- what it leaves of the world

-- all but the node of a site, what it puts together, and packets that are sent is as it was
pub record HandsTo (t : ℕ) (w v : World) : Type 0 where
  pub sites : v.sites ≡ w.sites
  pub nodes : (i : ℕ) → (i ≡ t → ⊥) → v.nodes i ≡ w.nodes i
  pub links : (i k : ℕ) → v.links i k ≡ w.links i k
  pub gathering : (i : ℕ) → (i ≡ t → ⊥) → v.gathering i ≡ w.gathering i
  pub more : List Packet
  pub sent : v.packets ≡ w.packets ++ more

hands_none : (t : ℕ) (w : World) → HandsTo t w w
hands_none t w = record { sites = refl; nodes = λ i apart. refl; links = λ i k. refl; gathering = λ i apart. refl; more = []; sent = sym (append-nil w.packets) }

module _ (w : World) (p : Packet) (x : Write) where
  abbrev target : Node
  target = w.nodes p.target

  taken_hands : (whole : Bool) (number : ℕ) → HandsTo p.target w (taken_if whole w p x number).world
  taken_hands true number = record {
    sites = refl;
    nodes = λ i apart. updated_other w.nodes p.target i (with_write target p.source x) apart;
    links = λ i k. refl;
    gathering = λ i apart. refl;
    more = packets_of p.target p.source target.line (NetAck target.session number);
    sent = refl;
  }
  taken_hands false number = hands_none p.target w

  action_hands : (r : RAction) → HandsTo p.target w (update_taken w p x r).world
  action_hands Nothing = hands_none p.target w
  action_hands Ignored = hands_none p.target w
  action_hands (IgnoredAck number) = record {
    sites = refl;
    nodes = λ i apart. refl;
    links = λ i k. refl;
    gathering = λ i apart. refl;
    more = packets_of p.target p.source target.line (NetAck target.session number);
    sent = refl;
  }
  action_hands (Take number) = taken_hands (completes (w.gathering p.target) p) number
  action_hands (DataAck number) = hands_none p.target w

  role_hands : (origin : Bool) (r : RAction) → HandsTo p.target w (if origin then says w IsIgnored else update_taken w p x r).world
  role_hands true r = hands_none p.target w
  role_hands false r = action_hands r

  state_hands : (up : Bool) (k : ℕ) → p.message ≡ Update k x → HandsTo p.target w (if up then heard w p p.message else says w IsIgnored).world
  state_hands true k is = subst (λ (t : Message). HandsTo p.target w (heard w p t).world) (sym is) (role_hands (is_origin target.role) (received_step (plain_receiver target) (HearUpdate p.line k)).action)
  state_hands false k is = hands_none p.target w

  gathered_hands : (taken : Bool) (v : World) → HandsTo p.target w v → HandsTo p.target w (gathered_if taken v p)
  gathered_hands true v hands = record {
    sites = hands.sites;
    nodes = hands.nodes;
    links = hands.links;
    gathering = λ i apart. updated_other v.gathering p.target i _ apart ∙ hands.gathering i apart;
    more = hands.more;
    sent = hands.sent;
  }
  gathered_hands false v hands = hands

  pub update_hands : (number k : ℕ) → packet_at w.packets number ≡ Some p → p.message ≡ Update k x → HandsTo p.target w (delivered w number (packet_at w.packets number)).world
  update_hands number k at is =
      subst (λ (o : Option Packet). HandsTo p.target w (delivered w number o).world) (sym at)
      (gathered_hands (is_taken (handed w p).said) (handed w p).world (state_hands (is_up target.state && is_running target.halted) k is))

-- ---- the event

less_itself : (a b : ℕ) → b ≡ a → ltb a b ≡ false
less_itself a b same = grind (arith, nat_tests)

counts_none : (b : Bool) → (let n : ℕ = if b then 0 else 0 in n) ≡ 0
counts_none true = refl
counts_none false = refl

-- no header is written
pub no_header : (w v : World) (i : ℕ) (p : Packet) → v.links p.target p.source ≡ w.links p.target p.source → heard_headers w v i (Some p) ≡ 0
no_header w v i p same =
    ap (λ (b : Bool). count_at p.target i (if b then 1 else 0)) (less_itself (w.links p.target p.source).stored (v.links p.target p.source).stored (ap (λ (l : Link). l.stored) same))
    ∙ counts_none (eqb p.target i)

pub update_effect : (d : Doubted) (number : ℕ) (p : Packet) (k : ℕ) (x : Write) (taken : Bool) → packet_at d.world.packets number ≡ Some p → p.message ≡ Update k x
    → EffectAt p.target d (happened d (Deliver number) taken) ((delivered d.world number (packet_at d.world.packets number)).world.nodes p.target) (d.world.links p.target) (d.world.headers p.target) (d.after p.target)
    (delivered d.world number (packet_at d.world.packets number)).world.packets ((delivered d.world number (packet_at d.world.packets number)).world.gathering p.target)
update_effect d number p k x taken at is =
    let w : World = d.world in
    let v : World = (delivered w number (packet_at w.packets number)).world in
    let hands : HandsTo p.target w v = update_hands w p x number k at is in
    let none : (i : ℕ) → heard_headers w v i (packet_at w.packets number) ≡ 0 = λ i. ap (λ (o : Option Packet). heard_headers w v i o) at ∙ no_header w v i p (hands.links p.target p.source) in
    record {
      site = record {
        sites = hands.sites;
        nodes = hands.nodes;
        links = λ i j apart. hands.links i j;
        headers = λ i apart. let zero = none i in omega (arith, zero);
        after = λ i apart. refl;
        strayed = λ calm. calm;
        gathering = hands.gathering;
      };
      is = record { node = refl; links = λ j. hands.links p.target j; headers = let zero = none p.target in omega (arith, zero); after = refl };
      sent = refl;
      gathering = refl;
    }

-- ---- the facts of a site that took a write

none_listed : (n k : Node) (row : ℕ → Link) (ss : List ℕ) → link_facts n row ss ≡ [] → link_facts k row ss ≡ []
none_listed n k row [] none = refl
none_listed n k row (s ∷ ss) none = absurd (let e : link_fact n s (row s) ∷ link_facts n row ss ≡ [] = none in cc)

none_shown : (n k : Node) (row : ℕ → Link) (ss : List ℕ) (t : SiteState) → links_by t (link_facts n row ss) ≡ [] → links_by t (link_facts k row ss) ≡ links_by t (link_facts n row ss)
none_shown n k row ss Bare none = refl
none_shown n k row ss Up none = none_listed n k row ss none ∙ sym none
none_shown n k row ss Deported none = refl
none_shown n k row ss Down none = refl

head_received : (n : Node) → is_origin n.role ≡ false → head_of n ≡ length n.log
head_received n receives = ap (λ (b : Bool). if b then n.safe else length n.log) receives

group_received : (n : Node) (source : ℕ) (x : Write) (t : SiteState) → is_origin n.role ≡ false → group_by t (with_write n source x) ≡ last_group (length n.log + 1) (group_by t n)
group_received n source x Bare receives = refl
group_received n source x Up receives =
    let long : length (n.log ++ x ∷ []) ≡ length n.log + 1 = length-append n.log (x ∷ []) in
    ap (λ (i : ℕ). Some (let r : RvgFacts = record (group_fact n) { last = i } in r)) (head_received (with_write n source x) receives ∙ long)
group_received n source x Deported receives = refl
group_received n source x Down receives = refl

pub received_is : (n : Node) (row : ℕ → Link) (sites source : ℕ) (x : Write) → is_origin n.role ≡ false → (fact_of n row sites).links ≡ [] → fact_of (with_write n source x) row sites ≡ received_fact (length n.log + 1) (fact_of n row sites)
received_is n row sites source x receives none =
    let ss : List ℕ = linked_sites row sites 0 sites in
    ap (λ (ls : List LinkFacts). let f : SiteFacts = record (seen_fact (with_write n source x)) { links = ls } in f) (none_shown n (with_write n source x) row ss n.state none)
    ∙ ap (λ (g : Option RvgFacts). let f : SiteFacts = record (fact_of n row sites) { rvg = g } in f) (group_received n source x n.state receives)
