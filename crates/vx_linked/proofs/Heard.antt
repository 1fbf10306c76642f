-- What a link in memory has heard, as a delivery of the world.
use Rattle.std.proofs.Common.{◌≡◌, ◌∙◌, ◌⊎◌, ⊎_elim, inl, inr, ◌+◌, ◌<◌, ℕ, List, [], ◌∷◌, Bool, true, false, ap, sym, subst, refl, arith}
use Rattle.std.proofs.lemmas.Bool.{and_parts, false_from_ne_true}
use Rattle.std.specs.Prelude.{Option, Some, None, ◌&&◌, ◌==◌, cond, slice_get, if◌then◌else◌}
use Rattle.std.specs.List.{find}
use Rattle.std.proofs.lemmas.Bool.Decides.{nat_tests}
use Rattle.vx_history.specs.Events.{delivered, receiver_facts, gathered_if, gathers, handed, heard, link_heard, linked_sites, packet_at, said_of_link, is_taken}
use Rattle.vx_history.specs.LinkForms.{plain_link, with_plain}
use Rattle.vx_history.specs.Refusals.{Outcome, is_running, keeps_links, says}
use Rattle.vx_history.specs.Sending.{Sent, sent_step}
use Rattle.vx_history.specs.Sends.{is_linked, with_link}
use Rattle.vx_history.specs.Step.{outcome_of, step}
use Rattle.vx_history.specs.World.{Link, Node, Packet, World, updated}
use Rattle.vx_history.specs.declared.event.Event.TheVariants.{Deliver as DeliverAt}
use Rattle.vx_history.specs.declared.event.Said.TheVariants.{Ignored as IsIgnored}
use Rattle.vx_history.specs.declared.sender.SEvent.{SEvent}
use Rattle.vx_history.proofs.StateCases.{runs_is, up_is}
use Rattle.vx_history.proofs.Updates.{at_place}
use Rattle.vx_model.specs.Sites.{is_up}
use Rattle.vx_model.specs.declared.site.SiteState.{SiteState}
use Rattle.vx_model.specs.declared.site.SiteState.TheVariants.{Bare, Up, Deported, Down}
use Rattle.vx_order.specs.declared.facts.LinkFacts.{LinkFacts}
use Rattle.vx_order.specs.declared.facts.SiteFacts.{SiteFacts}
use Rattle.vx_events.specs.Facts.{group_by}
use Rattle.vx_events.specs.GroupLines.{is_over_group}
use Rattle.vx_events.specs.LinkedFacts.{link_fact, link_facts, linked_fact, links_by, links_of_site}
use Rattle.vx_events.specs.StepsOver.{fact_over, facts_over}
use Rattle.vx_events.proofs.OverSeats.{fact_apart}
use Rattle.vx_history.specs.Listed.{AreListed, IsAmong}
use Rattle.vx_events.proofs.Places.{never_some}
use Rattle.vx_events.proofs.Values.{slice_get-values_from}
use Rattle.vx_linked.specs.Hearings.{Hears, IsHearing, group_listens, hearing, listens}
use Rattle.vx_linked.specs.Tables.{Put, fact_between, leads_to, link_leading}
use Rattle.vx_linked.specs.Turns.{IsLinkOf}
use Rattle.vx_linked.proofs.Shown.{between, put_is}

module _ (w : World) (number : ℕ) (p : Packet) (e : SEvent) (at : packet_at w.packets number ≡ Some p) (heard_is : heard w p p.message ≡ link_heard w p e)
    (listening : IsHearing (w.nodes p.target)) (linked : is_linked (w.links p.target p.source) ≡ true) where
  abbrev n : Node
  n = w.nodes p.target

  abbrev l : Link
  l = w.links p.target p.source

  abbrev r : Sent
  r = sent_step (plain_link p.source l) e (receiver_facts n p.line)

  abbrev left : Link
  left = with_plain l r.link

  abbrev after : World
  after = with_link w p.target p.source left

  outcome_is : outcome_of w (DeliverAt number) ≡ gathers p (says after (said_of_link r.action))
  outcome_is =
      ap (delivered w number) at
      ∙ ap (gathers p)
      (ap (λ (st : SiteState). if is_up st && is_running n.halted then heard w p p.message else says w IsIgnored) listening.up
      ∙ ap (λ (h : Option ℕ). if is_running h then heard w p p.message else says w IsIgnored) listening.running
      ∙ heard_is
      ∙ ap (λ (b : Bool). if b && is_linked l then says after (said_of_link r.action) else says w IsIgnored) listening.keeps
      ∙ ap (λ (b : Bool). if b then says after (said_of_link r.action) else says w IsIgnored) linked)

  gathered_shows : (b : Bool) → facts_over (gathered_if b after p) ≡ facts_over after
  gathered_shows true = refl
  gathered_shows false = refl

  gathered_links : (b : Bool) → (gathered_if b after p).links p.target p.source ≡ after.links p.target p.source
  gathered_links true = refl
  gathered_links false = refl

  shows : facts_over (step w (DeliverAt number)).world ≡ facts_over after
  shows = ap (λ (o : Outcome). facts_over o.world) outcome_is ∙ gathered_shows (is_taken (said_of_link r.action))

  link_is : (step w (DeliverAt number)).world.links p.target p.source ≡ left
  link_is =
      ap (λ (o : Outcome). o.world.links p.target p.source) outcome_is
      ∙ gathered_links (is_taken (said_of_link r.action))
      ∙ ap (λ (row : ℕ → Link). row p.source) (at_place w.links p.target (updated (w.links p.target) p.source left)) ∙ at_place (w.links p.target) p.source left

  pub heard_shows : (old new : List SiteFacts) (x : LinkFacts) → old ≡ facts_over w → Put p.target p.source x old new → x ≡ link_fact n p.source ((step w (DeliverAt number)).world.links p.target p.source)
      → new ≡ facts_over (step w (DeliverAt number)).world
  heard_shows old new x facts put is =
      put_is w p.target p.source old new x left facts put listening.up refl (is ∙ ap (link_fact n p.source) link_is) ∙ sym shows

-- the same by the numbers of the two sites
pub keeps_so : (w : World) (number : ℕ) (p : Packet) (e : SEvent) (target source : ℕ) → packet_at w.packets number ≡ Some p → p.target ≡ target → p.source ≡ source → heard w p p.message ≡ link_heard w p e
    → IsHearing (w.nodes target) → is_linked (w.links target source) ≡ true → (old new : List SiteFacts) (x : LinkFacts) → old ≡ facts_over w → Put target source x old new
    → x ≡ link_fact (w.nodes target) source ((step w (DeliverAt number)).world.links target source) → new ≡ facts_over (step w (DeliverAt number)).world
keeps_so w number p e target source at t s heard_is listening linked old new x facts put is =
    heard_shows w number p e at heard_is (subst (λ (i : ℕ). IsHearing (w.nodes i)) (sym t) listening)
    (subst (λ (j : ℕ). is_linked (w.links p.target j) ≡ true) (sym s) (subst (λ (i : ℕ). is_linked (w.links i source) ≡ true) (sym t) linked)) old new x facts
    (subst (λ (j : ℕ). Put p.target j x old new) (sym s) (subst (λ (i : ℕ). Put i source x old new) (sym t) put))
    (subst (λ (j : ℕ). x ≡ link_fact (w.nodes p.target) j ((step w (DeliverAt number)).world.links p.target j)) (sym s)
    (subst (λ (i : ℕ). x ≡ link_fact (w.nodes i) source ((step w (DeliverAt number)).world.links i source)) (sym t) is))

-- ---- whether the target listens

listens_up : (st : SiteState) (n : Node) → group_listens (if is_up st then group_by st n else None) ≡ (is_up st && (is_running n.halted && keeps_links n.role))
listens_up Bare n = refl
listens_up Up n = refl
listens_up Deported n = refl
listens_up Down n = refl

pub listens_is : (w : World) (i : ℕ) → listens (Some (linked_fact w i)) ≡ (is_up (w.nodes i).state && (is_running (w.nodes i).halted && keeps_links (w.nodes i).role))
listens_is w i = listens_up (w.nodes i).state (w.nodes i)

picks : (b : Bool) (o : Option LinkFacts) (l : LinkFacts) → (if b then o else None) ≡ Some l → (b ≡ true) × (o ≡ Some l)
picks true o l e = (refl, e)
picks false o l e = absurd (never_some e)

pub between_so : (sites : List SiteFacts) (target source : ℕ) (l : LinkFacts) → hearing sites target source ≡ Some l → fact_between sites target source ≡ Some l
between_so sites target source l is = (picks (listens (slice_get sites target)) (fact_between sites target source) l is).1

pub site_shown : (w : World) (i : ℕ) → i < w.sites → slice_get (facts_over w) i ≡ Some (fact_over w i)
site_shown w i below = let start : 0 + i ≡ i = omega arith in slice_get-values_from (λ j. fact_over w j) 0 w.sites i below ∙ ap (λ (j : ℕ). Some (fact_over w j)) start

-- the same of a site over no group
pub site_apart : (w : World) (i : ℕ) → i < w.sites → is_over_group (w.nodes i) ≡ false → slice_get (facts_over w) i ≡ Some (linked_fact w i)
site_apart w i below none = site_shown w i below ∙ ap (λ (f : SiteFacts). Some f) (fact_apart w i none)

pub hears_so : (w : World) (sites : List SiteFacts) (target source : ℕ) (l : LinkFacts) → sites ≡ facts_over w → hearing sites target source ≡ Some l → Hears w target source l
hears_so w sites target source l facts is =
    let here : hearing (facts_over w) target source ≡ Some l = ap (λ (fs : List SiteFacts). hearing fs target source) (sym facts) ∙ is in
    let found = picks (listens (slice_get (facts_over w) target)) (fact_between (facts_over w) target source) l here in
    let link : IsLinkOf w target source l = between w target source l found.1 in
    let listening : (is_up (w.nodes target).state && (is_running (w.nodes target).halted && keeps_links (w.nodes target).role)) ≡ true
    = sym (listens_is w target) ∙ ap listens (sym (site_apart w target link.below link.apart)) ∙ found.0 in
    let up = and_parts (is_up (w.nodes target).state) _ listening in
    let running = and_parts (is_running (w.nodes target).halted) _ up.1 in
    record { site = record { up = link.up; running = runs_is (w.nodes target).halted running.0; keeps = running.1 }; link = link }

-- ---- where nothing hears

-- a link that stands in the list is found
pub among_found : (n : Node) (row : ℕ → Link) (s : ℕ) (ts : List ℕ) → IsAmong s ts → find (leads_to s) (link_facts n row ts) ≡ None → ⊥
among_found n row s [] h e = h
among_found n row s (t ∷ ts) (inl same) e = by (t == s) (subst (λ (k : ℕ). (t == k) ≡ true) (sym same) (self t)) e
  where
    self : (k : ℕ) → (k == k) ≡ true
    self k = grind (arith, nat_tests)

    by : (b : Bool) → b ≡ true → cond b (Some (link_fact n t (row t))) (find (leads_to s) (link_facts n row ts)) ≡ None → ⊥
    by true is none = never_some (sym none)
    by false is none = absurd (cc)
among_found n row s (t ∷ ts) (inr more) e = by (t == s) (λ none. among_found n row s ts more none) e
  where
    by : (b : Bool) → (find (leads_to s) (link_facts n row ts) ≡ None → ⊥) → cond b (Some (link_fact n t (row t))) (find (leads_to s) (link_facts n row ts)) ≡ None → ⊥
    by true rest none = never_some (sym none)
    by false rest none = rest none

neither : (u v k : Bool) → (u && (v && k)) ≡ false → ((u && v) ≡ false) ⊎ (k ≡ false)
neither false v k e = inl refl
neither true false k e = inl refl
neither true true k e = inr e

module _ (w : World) (p : Packet) (e : SEvent) (heard_is : heard w p p.message ≡ link_heard w p e) where
  abbrev site : Node
  site = w.nodes p.target

  abbrev there : Link
  there = w.links p.target p.source

  not_handed : (is_up site.state && is_running site.halted) ≡ false → handed w p ≡ says w IsIgnored
  not_handed off = ap (λ (b : Bool). if b then heard w p p.message else says w IsIgnored) off

  not_heard : (keeps_links site.role && is_linked there) ≡ false → handed w p ≡ says w IsIgnored
  not_heard none = by (is_up site.state && is_running site.halted)
    where
      outcome : Outcome
      outcome =
          let r = sent_step (plain_link p.source there) e (receiver_facts site p.line) in
          says (with_link w p.target p.source (with_plain there r.link)) (said_of_link r.action)

      by : (b : Bool) → (if b then heard w p p.message else says w IsIgnored) ≡ says w IsIgnored
      by true = heard_is ∙ ap (λ (b : Bool). if b then outcome else says w IsIgnored) none
      by false = refl

  and_false : (a b : Bool) → b ≡ false → (a && b) ≡ false
  and_false true b is = is
  and_false false b is = refl

  unlinked : AreListed w → p.source < w.sites → site.state ≡ Up → fact_between (facts_over w) p.target p.source ≡ None → slice_get (facts_over w) p.target ≡ Some (linked_fact w p.target) → is_linked there ≡ false
  unlinked listed small up none at =
      false_from_ne_true (is_linked there)
      (λ is. among_found site (w.links p.target) p.source (linked_sites (w.links p.target) w.sites 0 w.sites) (listed.each p.target p.source small is)
      (ap (λ (st : SiteState). find (leads_to p.source) (links_by st (links_of_site w p.target))) (sym up) ∙ ap (λ (o : Option SiteFacts). link_leading o p.source) (sym at) ∙ none))

  -- of a target over no group
  deaf_apart : hearing (facts_over w) p.target p.source ≡ None → p.target < w.sites → p.source < w.sites → is_over_group site ≡ false → AreListed w → handed w p ≡ says w IsIgnored
  deaf_apart none below small alone listed =
      let at = site_apart w p.target below alone in
      let same : listens (slice_get (facts_over w) p.target) ≡ (is_up site.state && (is_running site.halted && keeps_links site.role)) = ap listens at ∙ listens_is w p.target in
      by (listens (slice_get (facts_over w) p.target)) refl same at none
    where
      by : (b : Bool) → listens (slice_get (facts_over w) p.target) ≡ b → listens (slice_get (facts_over w) p.target) ≡ (is_up site.state && (is_running site.halted && keeps_links site.role))
          → slice_get (facts_over w) p.target ≡ Some (linked_fact w p.target) → (if listens (slice_get (facts_over w) p.target) then fact_between (facts_over w) p.target p.source else None) ≡ None → handed w p ≡ says w IsIgnored
      by true is same at missing =
          let up = and_parts (is_up site.state) _ (sym same ∙ is) in
          not_heard (and_false (keeps_links site.role) (is_linked there)
          (unlinked listed small (up_is site.state up.0) (ap (λ (b : Bool). if b then fact_between (facts_over w) p.target p.source else None) (sym is) ∙ missing) at))
      by false is same at missing =
          ⊎_elim (λ (off : (is_up site.state && is_running site.halted) ≡ false). not_handed off)
          (λ (idle : keeps_links site.role ≡ false). not_heard (ap (λ (b : Bool). b && is_linked there) idle))
          (neither (is_up site.state) (is_running site.halted) (keeps_links site.role) (sym same ∙ is))

  pub deaf_so : (sites : List SiteFacts) → sites ≡ facts_over w → hearing sites p.target p.source ≡ None → p.target < w.sites → p.source < w.sites
      → (is_over_group site ≡ true → is_linked there ≡ false) → AreListed w → handed w p ≡ says w IsIgnored
  deaf_so sites facts none below small alone listed = by (is_over_group site) refl
    where
      by : (b : Bool) → is_over_group site ≡ b → handed w p ≡ says w IsIgnored
      by true over = not_heard (and_false (keeps_links site.role) (is_linked there) (alone over))
      by false is = deaf_apart (ap (λ (fs : List SiteFacts). hearing fs p.target p.source) (sym facts) ∙ none) below small is listed
