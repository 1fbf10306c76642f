-- What is known of two sites and the link between them where no test refuses a line on that link.
use Rattle.std.proofs.Common.{◌≡◌, ◌∙◌, ◌+◌, ◌<◌, ℕ, zero, suc, List, [], ◌∷◌, length, Bool, true, false, ap, sym, subst, refl, arith}
use Rattle.std.specs.Prelude.{Option, Some, None, cond, not, ◌==◌, unwrap_or, if◌then◌else◌}
use Rattle.std.specs.List.{find}
use Rattle.std.specs.Str.{bytes_eq}
use Rattle.std.proofs.lemmas.Bool.Decides.{nat_tests}
use Rattle.vx_model.specs.Sites.{is_up}
use Rattle.vx_model.specs.declared.no.No.TheVariants.{Down as NotUp, Role as WrongRole}
use Rattle.vx_model.specs.declared.site.Role.{Role}
use Rattle.vx_model.specs.declared.site.SiteState.{SiteState}
use Rattle.vx_model.specs.declared.site.SiteState.TheVariants.{Bare, Up, Deported, Down}
use Rattle.vx_history.specs.Events.{is_in_place, link_in_place, put_before, linked_sites}
use Rattle.vx_history.specs.Sends.{is_made, is_linked}
use Rattle.vx_history.specs.World.{Node, Link, World}
use Rattle.vx_history.proofs.StateCases.{up_is}
use Rattle.vx_order.specs.declared.facts.SiteFacts.{SiteFacts}
use Rattle.vx_order.specs.declared.facts.LinkFacts.{LinkFacts}
use Rattle.vx_order.specs.declared.facts.RvgFacts.{RvgFacts}
use Rattle.vx_order.specs.Links.{place_named, link_to, link_towards}
use Rattle.vx_order.specs.Sending.{not_linked}
use Rattle.vx_order.specs.Sites.{site_named, unknown_one, site_off, rvg_of, halted_one}
use Rattle.vx_order.specs.Tests.{when}
use Rattle.vx_events.specs.Facts.{values_from, site_number, group_fact, group_by}
use Rattle.vx_events.specs.GroupLines.{is_over_group}
use Rattle.vx_events.specs.LinkedFacts.{link_fact, link_facts, links_by, links_of_site, linked_fact, linked_facts, seen_fact, seen_facts}
use Rattle.vx_events.specs.Plain.{IsUnlinked}
use Rattle.vx_events.specs.StepsOver.{fact_over, facts_over}
use Rattle.vx_events.proofs.OverSeats.{apart_shown, fact_apart, seats_over}
use Rattle.vx_events.proofs.Steps.{no_sites}
use Rattle.vx_events.proofs.Places.{position_within, some_same, never_some}
use Rattle.vx_events.proofs.Refused.{when_none, not_false, named, running_by}
use Rattle.vx_events.proofs.Values.{length-values_from, slice_get-values_from}

-- ---- the numbers of sites

-- a site that a line names
pub record Seat (w : World) (name : List ℕ) : Type 0 where
  pub below : site_number w name < w.sites
  pub found : site_named (facts_over w) name ≡ Some (fact_over w (site_number w name))
  pub place : place_named (facts_over w) (Some name) ≡ Some (site_number w name)

pub seat_at : (w : World) (name : List ℕ) → unknown_one (Some name) (site_named (facts_over w) name) ≡ None → Seat w name
seat_at w name known =
    let n = named (facts_over w) name known in
    let number : site_number w name ≡ n.at.place = ap (λ (o : Option ℕ). unwrap_or o 0) (sym (seats_over w name) ∙ n.at.is) in
    let inside : n.at.place < length (facts_over w) = position_within (λ site. bytes_eq site.name name) (facts_over w) n.at.place n.at.is in
    let many : length (facts_over w) ≡ w.sites = length-values_from (λ i. fact_over w i) 0 w.sites in
    let below : n.at.place < w.sites = omega (arith, many, inside) in
    let start : 0 + n.at.place ≡ site_number w name = omega (arith, number) in
    record {
      below = omega (arith, below, number);
      found = n.found ∙ sym n.at.there ∙ slice_get-values_from (λ i. fact_over w i) 0 w.sites n.at.place below ∙ ap (λ (i : ℕ). Some (fact_over w i)) start;
      place = n.at.is ∙ ap (λ (i : ℕ). Some i) (sym number);
    }

-- ---- links that are found are linked

abbrev pub AllLinked : (ℕ → Link) → List ℕ → Type 0
AllLinked row [] = Unit {0}
AllLinked row (s ∷ ss) = (is_linked (row s) ≡ true) × AllLinked row ss

made_there : (made : Option ℕ) (place : ℕ) → is_in_place made place ≡ true → is_made made ≡ true
made_there None place e = absurd (cc)
made_there (Some k) place e = refl

picked : (row : ℕ → Link) (place sites s : ℕ) → link_in_place row place sites ≡ Some s → is_linked (row s) ≡ true
picked row place zero s e = absurd (never_some e)
picked row place (suc k) s e = by (is_in_place (row k).made place) (made_there (row k).made place) (λ is. picked row place k s is) e
  where
    by : (b : Bool) → (b ≡ true → is_linked (row k) ≡ true) → (link_in_place row place k ≡ Some s → is_linked (row s) ≡ true)
        → (if b then Some k else link_in_place row place k) ≡ Some s → is_linked (row s) ≡ true
    by true there more is = subst (λ (j : ℕ). is_linked (row j) ≡ true) (some_same is) (there refl)
    by false there more is = more is

pub all_linked : (row : ℕ → Link) (sites place k : ℕ) → AllLinked row (linked_sites row sites place k)
all_linked row sites place zero = tt
all_linked row sites place (suc k) = by (link_in_place row place sites) (λ s is. picked row place sites s is) (all_linked row sites (place + 1) k)
  where
    by : (o : Option ℕ) → ((s : ℕ) → o ≡ Some s → is_linked (row s) ≡ true) → AllLinked row (linked_sites row sites (place + 1) k) → AllLinked row (put_before o (linked_sites row sites (place + 1) k))
    by None there more = more
    by (Some s) there more = (there s refl, more)

same_number : (s t : ℕ) → (s == t) ≡ true → s ≡ t
same_number s t e = grind (arith, nat_tests)

-- the link that is found is that of the world
pub found_link : (n : Node) (row : ℕ → Link) (ss : List ℕ) (t : ℕ) (l : LinkFacts) → AllLinked row ss → find (λ (x : LinkFacts). x.link.site == t) (link_facts n row ss) ≡ Some l
    → (l ≡ link_fact n t (row t)) × (is_linked (row t) ≡ true)
found_link n row [] t l all e = absurd (never_some e)
found_link n row (s ∷ ss) t l all e = by (s == t) (same_number s t) (λ is. found_link n row ss t l all.1 is) e
  where
    by : (b : Bool) → (b ≡ true → s ≡ t) → (find (λ (x : LinkFacts). x.link.site == t) (link_facts n row ss) ≡ Some l → (l ≡ link_fact n t (row t)) × (is_linked (row t) ≡ true))
        → cond b (Some (link_fact n s (row s))) (find (λ (x : LinkFacts). x.link.site == t) (link_facts n row ss)) ≡ Some l
        → (l ≡ link_fact n t (row t)) × (is_linked (row t) ≡ true)
    by true same more is = (
      sym (some_same is) ∙ ap (λ (k : ℕ). link_fact n k (row k)) (same refl),
      subst (λ (k : ℕ). is_linked (row k) ≡ true) (same refl) all.0,
    )
    by false same more is = more is

-- ---- a line on a link

pub linked_none : (o : Option LinkFacts) (site : SiteFacts) → not_linked o (Some site) ≡ None → (l : LinkFacts) × (o ≡ Some l)
linked_none None site e = absurd (cc)
linked_none (Some l) site e = (l, refl)

-- two sites, of which the first is over no group, is up, is not halted, and keeps a link to the second
pub record OnLink (w : World) (p s : List ℕ) (test : Role → Bool) : Type 0 where
  pub here : site_number w p < w.sites
  pub there : site_number w s < w.sites
  pub apart : is_over_group (w.nodes (site_number w p)) ≡ false
  pub up : (w.nodes (site_number w p)).state ≡ Up
  pub running : (w.nodes (site_number w p)).halted ≡ None
  pub role : test (w.nodes (site_number w p)).role ≡ true
  pub linked : is_linked (w.links (site_number w p) (site_number w s)) ≡ true
  pub second : site_named (facts_over w) s ≡ Some (fact_over w (site_number w s))
  pub towards : link_towards (site_named (facts_over w) p) (place_named (facts_over w) (Some s))
      ≡ Some (link_fact (w.nodes (site_number w p)) (site_number w s) (w.links (site_number w p) (site_number w s)))

-- the group that a site shows as it is up
pub shown : (w : World) (i : ℕ) → (w.nodes i).state ≡ Up → rvg_of (Some (linked_fact w i)) ≡ Some (group_fact (w.nodes i))
shown w i up = ap (λ (t : SiteState). if is_up t then group_by t (w.nodes i) else None) up

pub on_link_by : (w : World) (p s : List ℕ) (tests : Option RvgFacts → Bool) (test : Role → Bool) → ((n : Node) → tests (Some (group_fact n)) ≡ test n.role)
    → tests None ≡ false → unknown_one (Some p) (site_named (facts_over w) p) ≡ None → unknown_one (Some s) (site_named (facts_over w) s) ≡ None
    → when (site_off (site_named (facts_over w) p)) NotUp ≡ None → halted_one (site_named (facts_over w) p) ≡ None
    → when (not (tests (rvg_of (site_named (facts_over w) p)))) WrongRole ≡ None
    → not_linked (link_towards (site_named (facts_over w) p) (place_named (facts_over w) (Some s))) (site_named (facts_over w) s) ≡ None
    → OnLink w p s test
on_link_by w p s tests test same none known other up running role link =
    let a : ℕ = site_number w p in
    let b : ℕ = site_number w s in
    let n : Node = w.nodes a in
    let first = seat_at w p known in
    let second = seat_at w s other in
    let shows : tests (rvg_of (Some (fact_over w a))) ≡ true =
    not_false (tests (rvg_of (Some (fact_over w a)))) (when_none (not (tests (rvg_of (Some (fact_over w a))))) WrongRole (subst (λ (o : Option SiteFacts). when (not (tests (rvg_of o))) WrongRole ≡ None) first.found role)) in
    let apart : is_over_group n ≡ false = apart_shown w a tests none shows in
    let here : site_named (facts_over w) p ≡ Some (linked_fact w a) = first.found ∙ ap (λ (f : SiteFacts). Some f) (fact_apart w a apart) in
    let up_here : n.state ≡ Up =
    up_is n.state (not_false (is_up n.state) (when_none (not (is_up n.state)) NotUp (subst (λ (o : Option SiteFacts). when (site_off o) NotUp ≡ None) here up))) in
    let group : rvg_of (Some (linked_fact w a)) ≡ Some (group_fact n) = shown w a up_here in
    let role_here : when (not (tests (Some (group_fact n)))) WrongRole ≡ None =
    subst (λ (o : Option RvgFacts). when (not (tests o)) WrongRole ≡ None) group (subst (λ (o : Option SiteFacts). when (not (tests (rvg_of o))) WrongRole ≡ None) here role) in
    let towards : link_towards (site_named (facts_over w) p) (place_named (facts_over w) (Some s)) ≡ find (λ (x : LinkFacts). x.link.site == b) (links_of_site w a) =
    ap (λ (o : Option SiteFacts). link_towards o (place_named (facts_over w) (Some s))) here
    ∙ ap (λ (o : Option ℕ). link_towards (Some (linked_fact w a)) o) second.place
    ∙ ap (λ (t : SiteState). if is_up t then link_to (links_by t (links_of_site w a)) (Some b) else None) up_here in
    let linked = linked_none _ _ (subst (λ (o : Option SiteFacts). not_linked (link_towards (site_named (facts_over w) p) (place_named (facts_over w) (Some s))) o ≡ None) second.found link) in
    let is = found_link n (w.links a) (linked_sites (w.links a) w.sites 0 w.sites) b linked.0 (all_linked (w.links a) w.sites 0 w.sites) (sym towards ∙ linked.1) in
    record {
      here = first.below;
      there = second.below;
      apart = apart;
      up = up_here;
      running = running_by (linked_fact w a) (group_fact n) (subst (λ (o : Option SiteFacts). halted_one o ≡ None) here running)
          (ap (λ (t : SiteState). if is_up t then group_by n.state n else None) up_here) (ap (λ (t : SiteState). group_by t n) up_here);
      role = sym (same n) ∙ not_false (tests (Some (group_fact n))) (when_none (not (tests (Some (group_fact n)))) WrongRole role_here);
      linked = is.1;
      second = second.found;
      towards = linked.1 ∙ ap (λ (l : LinkFacts). Some l) is.0;
    }

-- ---- worlds without links

pub nothing_shown : (state : SiteState) → links_by state [] ≡ []
nothing_shown Bare = refl
nothing_shown Up = refl
nothing_shown Deported = refl
nothing_shown Down = refl

fact_same : (w : World) → IsUnlinked w → (i : ℕ) → linked_fact w i ≡ seen_fact (w.nodes i)
fact_same w none i =
    ap (λ (ls : List LinkFacts). let f : SiteFacts = record (seen_fact (w.nodes i)) { links = ls } in f)
    (ap (λ (ss : List ℕ). links_by (w.nodes i).state (link_facts (w.nodes i) (w.links i) ss)) (no_sites (w.links i) w.sites 0 w.sites (none.none i)) ∙ nothing_shown (w.nodes i).state)

facts_same : (w : World) → IsUnlinked w → (k n : ℕ) → values_from (λ i. linked_fact w i) k n ≡ values_from (λ i. seen_fact (w.nodes i)) k n
facts_same w none k zero = refl
facts_same w none k (suc n) =
    ap (λ (f : SiteFacts). f ∷ values_from (λ i. linked_fact w i) (k + 1) n) (fact_same w none k)
    ∙ ap (λ (fs : List SiteFacts). seen_fact (w.nodes k) ∷ fs) (facts_same w none (k + 1) n)

pub no_links_seen : (w : World) → IsUnlinked w → linked_facts w ≡ seen_facts w
no_links_seen w none = facts_same w none 0 w.sites
