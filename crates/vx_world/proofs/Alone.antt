-- Events that change one site and its links alone.
use Rattle.vx_model.specs.Sites.{is_origin, is_up}
use Rattle.vx_model.specs.declared.limits.TheConstants.{MOST_LINKS}
use Rattle.std.proofs.Common.{◌≡◌, ◌∙◌, ℕ, ap, sym, subst, refl, Bool, true, false, Option, Some, None}
use Rattle.std.specs.Prelude.{not, ◌&&◌, leb}
use Rattle.vx_history.proofs.Updates.{at_place, by_test}
use Rattle.vx_model.specs.Content.{Write}
use Rattle.vx_history.specs.Events.{delivered, gathers, gathered_if, is_taken, handed, heard, link_heard, packet_at, said_of_link, receiver_facts, joined, new_link}
use Rattle.vx_history.specs.LinkForms.{plain_link, with_plain}
use Rattle.vx_history.specs.Refusals.{Outcome, says, unless, unless_halted, at_site, both_at_work, on_link_if, may_link, follows, count_links_of, sizes_meet, rings_fit, is_primary, is_running, keeps_links}
use Rattle.vx_history.specs.Sending.{Sent, sent_step}
use Rattle.vx_history.specs.Sends.{is_linked, with_link}
use Rattle.vx_history.specs.Step.{outcome_of, step, done, link_part}
use Rattle.vx_history.specs.World.{Node, Link, Packet, Gathering, World, Message, Hello, Update, NetAck, DataAck, with_node, updated}
use Rattle.vx_history.specs.declared.event.Event.{Event}
use Rattle.vx_history.specs.declared.event.Event.TheVariants.{Deliver, Link as LinkAt}
use Rattle.vx_history.specs.declared.event.LinkPart.TheVariants.{Joins, Made, Marked, Opened}
use Rattle.vx_history.specs.declared.event.Said.TheVariants.{Ignored as IsIgnored}
use Rattle.vx_model.specs.declared.link.Prot.{Prot}
use Rattle.vx_model.specs.declared.link.SyncMode.{SyncMode}
use Rattle.vx_model.specs.declared.no.No.{No}
use Rattle.vx_model.specs.declared.no.No.TheVariants.{Exists, Size, Role as WrongRole, Limit}
use Rattle.vx_model.specs.declared.no.Counted.TheVariants.{Links}
use Rattle.vx_history.specs.declared.sender.SEvent.{SEvent}
use Rattle.vx_history.specs.declared.sender.SEvent.TheVariants.{Hello as HearHello, NetAck as HearNetAck, DataAck as HearDataAck}
use Rattle.vx_model.specs.declared.site.SiteState.TheVariants.{Up}
use Rattle.vx_model.specs.declared.site.Mark.TheVariants.{Consistent}
use Rattle.vx_history.specs.Gatherings.{left_by, emptied}
use Rattle.vx_world.specs.Twins.{IsAlone}
use Rattle.vx_world.proofs.Halving.{aside}

module _ (w : World) (s : ℕ) (up : (w.nodes s).state ≡ Up) where
  pub same : IsAlone s w w
  same = record { sites = refl; nodes = λ _ _. refl; rows = λ _ _. refl; lines = refl; packets = refl; promised = refl; gathering = λ _ _. refl; name = refl; up = up }

  pub tested : (b : Bool) (why : No) (o : Outcome) → IsAlone s w o.world → IsAlone s w (unless b why w o).world
  tested true why o is = same
  tested false why o is = is

  pub runs : (h : Option ℕ) (o : Outcome) → IsAlone s w o.world → IsAlone s w (unless_halted h w o).world
  runs None o is = is
  runs (Some disk) o is = same

  one_link : (q : ℕ) (l : Link) → IsAlone s w (with_link w s q l)
  one_link q l = record {
    sites = refl;
    nodes = λ _ _. refl;
    rows = λ i apart. aside w.links s
        (updated (w.links s) q l) i apart;
    lines = refl;
    packets = refl;
    promised = refl;
    gathering = λ _ _. refl;
    name = refl;
    up = up;
  }

  pub one_node : (n : Node) → n.name ≡ (w.nodes s).name → n.state ≡ Up → IsAlone s w (with_node w s n)
  one_node n name state = record {
    sites = refl;
    nodes = λ i apart. aside w.nodes s n i apart;
    rows = λ _ _. refl;
    lines = refl;
    packets = refl;
    promised = refl;
    gathering = λ _ _. refl;
    name = ap (λ (m : Node). m.name) (at_place w.nodes s n) ∙ name;
    up = ap (λ (m : Node). m.state) (at_place w.nodes s n) ∙ state;
  }

  -- a link of an origin is set, attached or detached
  pub set_alone : (q : ℕ) (change : Link → Link) → IsAlone s w (on_link_if is_origin w s q (done (with_link w s q (change (w.links s q))))).world
  set_alone q change =
      tested (leb w.sites s) _ _ (tested (leb w.sites q) _ _ (tested (not (is_up (w.nodes s).state)) _ _ (runs (w.nodes s).halted _
      (tested (not (is_origin (w.nodes s).role)) _ _
      (tested (not (is_linked (w.links s q))) _ _ (one_link q (change (w.links s q))))))))

  heard_link : (p : Packet) (e : SEvent) → p.target ≡ s → IsAlone s w (link_heard w p e).world
  heard_link p e target =
      let l : Link = w.links p.target p.source in
      let r : Sent = sent_step (plain_link p.source l) e (receiver_facts (w.nodes p.target) p.line) in
      by_test (λ (o : Outcome). IsAlone s w o.world) (keeps_links (w.nodes p.target).role && is_linked l)
      (says (with_link w p.target p.source (with_plain l r.link)) (said_of_link r.action)) (says w IsIgnored)
      (λ _. subst (λ (i : ℕ). IsAlone s w (with_link w i p.source (with_plain l r.link))) (sym target) (one_link p.source (with_plain l r.link)))
      (λ _. same)

  heard_alone : (p : Packet) (m : Message) → p.target ≡ s → ((number : ℕ) (x : Write) → m ≡ Update number x → ⊥) → IsAlone s w (heard w p m).world
  heard_alone p (Hello session number stored) target none = heard_link p (HearHello session number stored) target
  heard_alone p (Update number x) target none = absurd (none number x refl)
  heard_alone p (NetAck session number) target none = heard_link p (HearNetAck session number) target
  heard_alone p (DataAck number) target none = heard_link p (HearDataAck number) target

  -- what the site then has in assembly is its own
  other_gathering : (v : World) (f : ℕ → Option Gathering) → IsAlone s w v → ((i : ℕ) → (i ≡ s → ⊥) → f i ≡ w.gathering i)
      → IsAlone s w (record v { gathering = f })
  other_gathering v f is e = record { sites = is.sites; nodes = is.nodes; rows = is.rows; lines = is.lines; packets = is.packets; promised = is.promised; gathering = e; name = is.name; up = is.up }

  gathers_alone : (p : Packet) (o : Outcome) → p.target ≡ s → IsAlone s w o.world → IsAlone s w (gathers p o).world
  gathers_alone p o target is = by_taken (is_taken o.said)
    where
      by_taken : (b : Bool) → IsAlone s w (gathered_if b o.world p)
      by_taken true =
          other_gathering o.world _ is
          (λ i apart. aside o.world.gathering p.target (left_by (o.world.gathering p.target) p) i (λ same. apart (same ∙ target)) ∙ is.gathering i apart)
      by_taken false = is

  handed_alone : (p : Packet) → p.target ≡ s → ((number : ℕ) (x : Write) → p.message ≡ Update number x → ⊥) → IsAlone s w (gathers p (handed w p)).world
  handed_alone p target none =
      gathers_alone p (handed w p) target
      (by_test (λ (o : Outcome). IsAlone s w o.world) (is_up (w.nodes p.target).state && is_running (w.nodes p.target).halted) (heard w p p.message)
      (says w IsIgnored)
      (λ _. heard_alone p p.message target none) (λ _. same))

  pub heard_by : (number : ℕ) (p : Packet) → packet_at w.packets number ≡ Some p → p.target ≡ s → ((n : ℕ) (x : Write) → p.message ≡ Update n x → ⊥)
      → IsAlone s w (outcome_of w (Deliver number)).world
  heard_by number p at target none = subst (λ (o : Option Packet). IsAlone s w (delivered w number o).world) (sym at) (handed_alone p target none)

  both_up : (p q : ℕ) (o : Outcome) → IsAlone s w o.world → IsAlone s w (at_site w p (at_site w q (both_at_work w p q o))).world
  both_up p q o is =
      tested (leb w.sites p) _ _ (tested (leb w.sites q) _ _
      (tested (not (is_up (w.nodes p).state && is_up (w.nodes q).state)) _ _ (runs (w.nodes p).halted _ (runs (w.nodes q).halted o is))))

  pub joins_alone : (p : ℕ) (sync : SyncMode) (prot : Prot) → IsAlone s w (outcome_of w (LinkAt p s sync prot Joins)).world
  joins_alone p sync prot =
      let o : Outcome = done (emptied (with_node w s (joined (w.nodes p) p (w.nodes s))) s) in
      let sized : Outcome = unless (not (sizes_meet (w.nodes p).volumes (w.nodes s).volumes && rings_fit (w.nodes p) (w.nodes s))) Size w o in
      let few : Outcome = unless (leb MOST_LINKS (count_links_of w p)) (Limit Links MOST_LINKS) w sized in
      let new : Outcome = unless (is_linked (w.links p s)) (Exists (w.nodes s).name) w few in
      both_up p s (unless (not (may_link w p s)) WrongRole w new)
      (tested (not (may_link w p s)) WrongRole new
      (tested (is_linked (w.links p s)) (Exists (w.nodes s).name) few (tested (leb MOST_LINKS (count_links_of w p)) (Limit Links MOST_LINKS) sized
      (tested (not (sizes_meet (w.nodes p).volumes (w.nodes s).volumes && rings_fit (w.nodes p) (w.nodes s))) Size o
      (other_gathering (with_node w s (joined (w.nodes p) p (w.nodes s))) _ (one_node (joined (w.nodes p) p (w.nodes s)) refl up)
      (λ i apart. aside w.gathering s None i apart))))))

  pub marked_alone : (p : ℕ) (sync : SyncMode) (prot : Prot) → IsAlone s w (outcome_of w (LinkAt p s sync prot Marked)).world
  marked_alone p sync prot = both_up p s (link_part Marked w p s sync prot) (tested _ _ _ (one_node (record (w.nodes s) { mark = Consistent }) refl up))

  pub made_alone : (q : ℕ) (sync : SyncMode) (prot : Prot) → IsAlone s w (outcome_of w (LinkAt s q sync prot Made)).world
  made_alone q sync prot =
      let o : Outcome = done (with_link w s q (new_link (count_links_of w s) sync prot (w.nodes q))) in
      let new : Outcome = unless (is_linked (w.links s q)) (Exists (w.nodes q).name) w o in
      both_up s q (link_part Made w s q sync prot)
      (tested (not (is_primary (w.nodes s).role && follows w s q)) WrongRole new
      (tested (is_linked (w.links s q)) (Exists (w.nodes q).name) o (one_link q (new_link (count_links_of w s) sync prot (w.nodes q)))))

  pub opened_alone : (q : ℕ) (sync : SyncMode) (prot : Prot) → IsAlone s w (outcome_of w (LinkAt s q sync prot Opened)).world
  opened_alone q sync prot = both_up s q (link_part Opened w s q sync prot) (tested _ _ _ (one_link q _))

-- whatever headers are counted
pub counted_alone : (w : World) (s : ℕ) (e : Event) → IsAlone s w (outcome_of w e).world → IsAlone s w (step w e).world
counted_alone w s e is = record { sites = is.sites; nodes = is.nodes; rows = is.rows; lines = is.lines; packets = is.packets; promised = is.promised; gathering = is.gathering; name = is.name; up = is.up }
