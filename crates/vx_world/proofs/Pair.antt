-- Two sites and the link from one to the other, through the events of settling.
use Rattle.std.proofs.Common.{◌≡◌, ℕ, List, length, replicate, ◌++◌, refl, ap, ◌∙◌, subst, Bool, true, false}
use Rattle.std.specs.Prelude.{leb, eqb, not, Some, None, Option, ◌&&◌}
use Rattle.vx_history.specs.World.{World, Node, Link, Packet, Key, Gathering, updated, with_node}
use Rattle.vx_model.specs.Sites.{is_origin, same_line}
use Rattle.vx_history.specs.Sending.{sent_step}
use Rattle.vx_history.specs.Receiving.{phase_takes}
use Rattle.vx_history.specs.LinkForms.{plain_link, with_plain}
use Rattle.vx_model.specs.declared.site.SiteState.{SiteState}
use Rattle.vx_model.specs.declared.site.SiteState.TheVariants.{Up}
use Rattle.vx_model.specs.declared.link.Mode.TheVariants.{Log}
use Rattle.vx_history.specs.declared.sender.SEvent.{SEvent}
use Rattle.vx_model.specs.declared.no.No.{No}
use Rattle.vx_history.proofs.Behind.{runs}
use Rattle.vx_history.proofs.Updates.{at_place, by_test, eqb_equal, and_right, updated_other}
use Rattle.vx_history.specs.Sends.{is_linked, with_link, sending, sent_by}
use Rattle.vx_history.specs.Refusals.{Outcome, unless, at_work, on_link, keeps_links, is_running, unless_halted}
use Rattle.vx_model.specs.Sites.{is_up}
use Rattle.vx_history.specs.Events
use Rattle.vx_history.specs.Gatherings.{key_of, same_key, came_before, came_after, completes, left_by}
use Rattle.vx_history.specs.Step.{step, outcome_of}
use Rattle.vx_history.specs.GoodGatherings.{MayGather}
use Rattle.vx_history.specs.declared.event.Event.{Event}
use Rattle.std.proofs.lemmas.List.{length-set, length-replicate}

-- what is in assembly has a place for each part of its message
abbrev pub HasPlaces : Option Gathering → Type 0
HasPlaces g = (key : Key) → length (came_before g key) ≡ key.parts

-- what stands in a world of two sites and the link, and all that was sent
pub record At (v : World) (p s : ℕ) (a b : Node) (l : Link) (ps : List Packet) : Type 0 where
  pub given_p : leb v.sites p ≡ false
  pub given_s : leb v.sites s ≡ false
  pub at_p : v.nodes p ≡ a
  pub at_s : v.nodes s ≡ b
  pub at_l : v.links p s ≡ l
  pub sent : v.packets ≡ ps
  pub places : HasPlaces (v.gathering s)

-- the sites and the link are such that they settle
pub record Fit (p s : ℕ) (a b : Node) (l : Link) : Type 0 where
  pub apart : p ≡ s → ⊥
  pub up_a : a.state ≡ Up
  pub up_b : b.state ≡ Up
  pub runs_a : a.halted ≡ None
  pub runs_b : b.halted ≡ None
  pub sends : keeps_links a.role ≡ true
  pub receives : is_origin b.role ≡ false
  pub line : b.line ≡ a.line
  pub takes : phase_takes b.phase ≡ true
  pub linked : is_linked l ≡ true
  pub attached : l.attached ≡ true
  pub connected : l.connected ≡ true
  pub running : l.paused ≡ false
  pub mode : l.mode ≡ Log

-- what holds of what stands in the world itself holds of it under its names
pub via : (v : World) (p s : ℕ) (a b : Node) (l : Link) (ps : List Packet) → At v p s a b l ps → (P : Node → Node → Link → List Packet → Type 0)
    → P (v.nodes p) (v.nodes s) (v.links p s) v.packets → P a b l ps
via v p s a b l ps at P h =
    subst (λ (x : Node). P x b l ps) at.at_p
    (subst (λ (x : Node). P (v.nodes p) x l ps) at.at_s
    (subst (λ (x : Link). P (v.nodes p) (v.nodes s) x ps) at.at_l
    (subst (λ (x : List Packet). P (v.nodes p) (v.nodes s) (v.links p s) x) at.sent h)))

pub itself : (v : World) (p s : ℕ) → leb v.sites p ≡ false → leb v.sites s ≡ false → HasPlaces (v.gathering s)
    → At v p s (v.nodes p) (v.nodes s) (v.links p s) v.packets
itself v p s h k places = record { given_p = h; given_s = k; at_p = refl; at_s = refl; at_l = refl; sent = refl; places = places }

pub passes : (b : Bool) (why : No) (w : World) (o : Outcome) → b ≡ false → unless b why w o ≡ o
passes true why w o e = absurd (cc)
passes false why w o e = refl

pub falls : (b : Bool) → b ≡ true → not b ≡ false
falls true e = refl
falls false e = absurd (cc)

pub at_link : (w : World) (p s : ℕ) (l : Link) → (with_link w p s l).links p s ≡ l
at_link w p s l = ap (λ (row : ℕ → Link). row s) (at_place w.links p (updated (w.links p) s l)) ∙ at_place (w.links p) s l

module _ (v : World) (p s : ℕ) (a b : Node) (l : Link) (ps : List Packet) (at : At v p s a b l ps) where
  -- what the rule of the link makes of it
  pub link_event_at : (e : SEvent)
      → At (Events.link_event v p s e) p s a b (with_plain l (sent_step (plain_link s l) e (Events.receiver_facts a a.line)).link) (ps ++ sent_by (sent_step (plain_link s l) e (Events.receiver_facts a a.line)).action p s a)
  link_event_at e =
      via v p s a b l ps at
      (λ a b l ps. At (Events.link_event v p s e) p s a b (with_plain l (sent_step (plain_link s l) e (Events.receiver_facts a a.line)).link)
      (ps ++ sent_by (sent_step (plain_link s l) e (Events.receiver_facts a a.line)).action p s a))
      (record {
        given_p = at.given_p;
        given_s = at.given_s;
        at_p = refl;
        at_s = refl;
        at_l = at_link v p s (with_plain (v.links p s) (Events.link_step v p s e).link);
        sent = refl;
        places = at.places;
      })

  pub sending_at : (more : List Packet) → At (sending v more) p s a b l (ps ++ more)
  sending_at more = record {
    given_p = at.given_p;
    given_s = at.given_s;
    at_p = at.at_p;
    at_s = at.at_s;
    at_l = at.at_l;
    sent = ap
        (λ (x : List Packet). x ++ more) at.sent;
    places = at.places;
  }

  pub with_node_at : (n : Node) → (p ≡ s → ⊥) → At (with_node v s n) p s a n l ps
  with_node_at n apart = record {
    given_p = at.given_p;
    given_s = at.given_s;
    at_p = updated_other v.nodes s p n apart ∙ at.at_p;
    at_s = at_place v.nodes s n;
    at_l = at.at_l;
    sent = at.sent;
    places = at.places;
  }

  pub with_link_at : (m : Link) → At (with_link v p s m) p s a b m ps
  with_link_at m = record { given_p = at.given_p; given_s = at.given_s; at_p = at.at_p; at_s = at.at_s; at_l = at_link v p s m; sent = at.sent; places = at.places }

  pub work_passes : (q : ℕ) (n : Node) (o : Outcome) → v.nodes q ≡ n → n.state ≡ Up → n.halted ≡ None → at_work v q o ≡ o
  work_passes q n o e up none =
      passes (not (is_up (v.nodes q).state)) _ v (unless_halted (v.nodes q).halted v o)
      (falls (is_up (v.nodes q).state) (ap (λ (x : Node). is_up x.state) e ∙ ap is_up up))
      ∙ runs (v.nodes q).halted v o (ap (λ (x : Node). x.halted) e ∙ none)

  pub link_passes : (o : Outcome) → Fit p s a b l → on_link v p s o ≡ o
  link_passes o fit =
      passes (leb v.sites p) _ v _ at.given_p
      ∙ passes (leb v.sites s) _ v _ at.given_s
      ∙ work_passes p a _ at.at_p fit.up_a fit.runs_a
      ∙ passes (not (keeps_links (v.nodes p).role)) _ v _ (falls (keeps_links (v.nodes p).role) (ap (λ (x : Node). keeps_links x.role) at.at_p ∙ fit.sends))
      ∙ passes (not (is_linked (v.links p s))) _ v o (falls (is_linked (v.links p s)) (ap is_linked at.at_l ∙ fit.linked))

  -- a site that is up and not halted hears
  pub hears : (q : ℕ) (n : Node) → v.nodes q ≡ n → n.state ≡ Up → n.halted ≡ None → (is_up (v.nodes q).state && is_running (v.nodes q).halted) ≡ true
  hears q n e up none =
      ap (λ (x : Node). is_up x.state && is_running x.halted) e ∙ ap (λ (state : SiteState). is_up state && is_running n.halted) up ∙ ap is_running none

-- ## What is in assembly, and headers

other_key : (key : Key) → length (replicate key.parts false) ≡ key.parts
other_key key = length-replicate {A = Bool} key.parts false

pub same_parts : (a b : Key) → same_key a b ≡ true → a.parts ≡ b.parts
same_parts a b e = by_tests (eqb a.source b.source) (eqb a.kind b.kind) (same_line a.line b.line) (eqb a.session b.session) (eqb a.number b.number) e
  where
    by_tests : (q r t u x : Bool) → (q && (r && (t && (u && (x && eqb a.parts b.parts))))) ≡ true → a.parts ≡ b.parts
    by_tests q r t u x h =
        eqb_equal a.parts b.parts
        (and_right x (eqb a.parts b.parts) (and_right u (x && eqb a.parts b.parts) (and_right t (u && (x && eqb a.parts b.parts))
        (and_right r (t && (u && (x && eqb a.parts b.parts))) (and_right q (r && (t && (u && (x && eqb a.parts b.parts)))) h)))))

pub after_places : (g : Option Gathering) (q : Packet) → HasPlaces g → length (came_after g q) ≡ (key_of q).parts
after_places g q places = length-set (came_before g (key_of q)) q.part true ∙ places (key_of q)

pub left_places : (g : Option Gathering) (q : Packet) → HasPlaces g → HasPlaces (left_by g q)
left_places g q places key =
    by_test (λ (h : Option Gathering). length (came_before h key) ≡ key.parts) (completes g q) None (Some (record { key = key_of q; came = came_after g q }))
    (λ _. other_key key)
    (λ _. by_test (λ (xs : List Bool). length xs ≡ key.parts) (same_key (key_of q) key) (came_after g q) (replicate key.parts false)
    (λ same. after_places g q places ∙ same_parts (key_of q) key same)
    (λ _. other_key key))

-- what is in assembly has a place for each part
pub places_in : (i : ℕ) (n : Node) (ps : List Packet) (g : Option Gathering) → MayGather i n ps g → HasPlaces g
places_in i n ps None h key = length-replicate {A = Bool} key.parts false
places_in i n ps (Some g) h key =
    by_test (λ (xs : List Bool). length xs ≡ key.parts) (same_key g.key key) g.came (replicate key.parts false)
    (λ same. h.places ∙ same_parts g.key key same) (λ _. length-replicate {A = Bool} key.parts false)

module _ (p s : ℕ) (a b : Node) (l : Link) (ps : List Packet) where
  -- what a packet is put to is no matter
  pub gathers_at : (v : World) (q : Packet) (o : Outcome) → At o.world p s a b l ps → At (Events.gathers q o).world p s a b l ps
  gathers_at v q o at = by_taken (Events.is_taken o.said)
    where
      by_taken : (t : Bool) → At (Events.gathered_if t o.world q) p s a b l ps
      by_taken true = record {
        given_p = at.given_p;
        given_s = at.given_s;
        at_p = at.at_p;
        at_s = at.at_s;
        at_l = at.at_l;
        sent = at.sent;
        places = by_test HasPlaces (eqb s q.target) (left_by (o.world.gathering q.target) q) (o.world.gathering s)
            (λ e. left_places (o.world.gathering q.target) q (subst (λ (i : ℕ). HasPlaces (o.world.gathering i)) (eqb_equal s q.target e) at.places))
            (λ _. at.places);
      }
      by_taken false = at

  -- and so are headers
  pub counted_at : (v : World) (e : Event) → At (outcome_of v e).world p s a b l ps → At (step v e).world p s a b l ps
  counted_at v e at =
      record { given_p = at.given_p; given_s = at.given_s; at_p = at.at_p; at_s = at.at_s; at_l = at.at_l; sent = at.sent; places = at.places }
