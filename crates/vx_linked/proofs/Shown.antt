-- What the tests of a line see of a world, as one of its links changes.
use Rattle.std.proofs.Common.{◌≡◌, ◌∙◌, ◌+◌, ◌<◌, ℕ, zero, suc, Bool, true, false, List, [], ◌∷◌, length, ap, sym, subst, refl, arith}
use Rattle.std.specs.Prelude.{Option, Some, None, IsSome, is_some, cond, nat_lt, slice_get, slice_set, unwrap_or}
use Rattle.std.specs.List.{find, position, position_or_len}
use Rattle.std.specs.Str.{bytes_eq}
use Rattle.std.proofs.lemmas.List.Folds.{find_at}
use Rattle.std.proofs.lemmas.Option.{slice_get_within}
pub use Rattle.vx_model.proofs.Lists.{get_at}
use Rattle.vx_history.specs.Events.{linked_sites}
use Rattle.vx_history.specs.Sends.{with_link}
use Rattle.vx_history.specs.World.{Node, Link, World, updated}
use Rattle.vx_history.proofs.Updates.{at_place}
use Rattle.vx_model.specs.declared.site.SiteState.{SiteState}
use Rattle.vx_model.specs.declared.site.SiteState.TheVariants.{Bare, Up, Deported, Down}
use Rattle.vx_order.specs.declared.facts.LinkFacts.{LinkFacts}
use Rattle.vx_order.specs.declared.facts.SiteFacts.{SiteFacts}
use Rattle.vx_events.specs.Facts.{seat_of, site_number, values_from}
use Rattle.vx_events.specs.GroupLines.{is_over_group}
use Rattle.vx_events.specs.LinkedFacts.{link_fact, link_facts, links_by, links_of_site, linked_fact, seen_fact}
use Rattle.vx_events.specs.StepsOver.{fact_over, facts_over}
use Rattle.vx_events.proofs.LinkTesting.{all_linked, found_link}
use Rattle.vx_events.proofs.OverSeats.{apart_linked, fact_apart, seats_over}
use Rattle.vx_events.proofs.Places.{never_some, position_within, some_same}
use Rattle.vx_events.proofs.Refused.{found_at}
use Rattle.vx_events.proofs.Values.{length-values_from, slice_get-values_from}
use Rattle.vx_linked.specs.Tables.{FoundLink, HasPlace, Put, fact_between, leads_to, link_leading, place_to, relinked, site_relinked}
use Rattle.vx_linked.specs.Turns.{IsLinkOf}
use Rattle.vx_effects.specs.Facts.{fact_of, over_of}
use Rattle.vx_effects.proofs.Facts.{over_apart}
use Rattle.vx_effects.proofs.Fitting.{updated_other}
use Rattle.vx_effects.proofs.Rows.{apart, made_same, sites_same}
use Rattle.vx_linked.proofs.Links.{link_facts_set}

place_by : (b : Bool) (n i : ℕ) → cond b (Some n) None ≡ Some i → n ≡ i
place_by true n i e = some_same e
place_by false n i e = absurd (cc)

-- the place that was found is the first one
pub first_place : {A : Type 0} (p : A → Bool) (xs : List A) (i : ℕ) → position p xs ≡ Some i → i ≡ position_or_len p xs
first_place p xs i e = sym (place_by (nat_lt (position_or_len p xs) (length xs)) (position_or_len p xs) i e)

-- the values of a function that differs at one place
values_same : {A : Type 0} (f h : ℕ → A) (k n : ℕ) → ((j : ℕ) → k < j + 1 → h j ≡ f j) → values_from h k n ≡ values_from f k n
values_same f h k zero same = refl
values_same f h k (suc n) same =
    ap (λ y. y ∷ values_from h (k + 1) n) (same k (omega arith)) ∙ ap (λ ys. f k ∷ ys) (values_same f h (k + 1) n (λ j past. same j (omega arith)))

pub values_from-set : {A : Type 0} (f h : ℕ → A) (k n i : ℕ) (x : A) → h (k + i) ≡ x → ((j : ℕ) → (j ≡ k + i → ⊥) → h j ≡ f j) → values_from h k n ≡ slice_set (values_from f k n) i x
values_from-set f h k zero i x here there = refl
values_from-set f h k (suc n) zero x here there =
    let e : k + 0 ≡ k = omega arith in
    ap (λ y. y ∷ values_from h (k + 1) n) (ap h (sym e) ∙ here) ∙ ap (λ ys. x ∷ ys) (values_same f h (k + 1) n (λ j past. there j (omega arith)))
values_from-set f h k (suc n) (suc i) x here there =
    let e : (k + 1) + i ≡ k + suc i = omega arith in
    ap (λ y. y ∷ values_from h (k + 1) n) (there k (omega arith))
    ∙ ap (λ ys. f k ∷ ys) (values_from-set f h (k + 1) n i x (ap h e ∙ here) (λ j apart. there j (λ is. apart (is ∙ sym e))))

-- The facts of a world in which one link changed, but for its place: those of before, with the facts of this link in its place. That is the base of every
-- line that changes a link.
pub facts_with_link : (w : World) (p s : ℕ) (l : Link) → is_over_group (w.nodes p) ≡ false → (w.nodes p).state ≡ Up → l.made ≡ (w.links p s).made
    → facts_over (with_link w p s l) ≡ slice_set (facts_over w) p (site_relinked (linked_fact w p) (position_or_len (leads_to s) (links_of_site w p)) (link_fact (w.nodes p) s l))
facts_with_link w p s l apart_group up same =
    let n : Node = w.nodes p in
    let row : ℕ → Link = w.links p in
    let next : ℕ → Link = updated row s l in
    let ss : List ℕ = linked_sites row w.sites 0 w.sites in
    let start : 0 + p ≡ p = omega arith in
    let place : ℕ = position_or_len (leads_to s) (links_of_site w p) in
    let links : link_facts n next (linked_sites next w.sites 0 w.sites) ≡ slice_set (links_of_site w p) place (link_fact n s l)
    = ap (link_facts n next) (sites_same row next (made_same row s l same) w.sites 0 w.sites) ∙ link_facts_set n row s l ss (apart row w.sites 0 w.sites) in
    let here : fact_of n next w.sites ≡ site_relinked (linked_fact w p) place (link_fact n s l)
    = ap (λ (ls : List LinkFacts). let f : SiteFacts = record (seen_fact n) { links = links_by n.state ls } in f) links
    ∙ ap (λ (ls : List LinkFacts). let f : SiteFacts = record (seen_fact n) { links = ls } in f)
    (ap (λ (t : SiteState). links_by t (slice_set (links_of_site w p) place (link_fact n s l))) up
    ∙ ap (λ (t : SiteState). slice_set (links_by t (links_of_site w p)) place (link_fact n s l)) (sym up)) in
    values_from-set (λ i. fact_over w i) (λ i. fact_over (with_link w p s l) i) 0 w.sites p (site_relinked (linked_fact w p) place (link_fact n s l))
    (ap (λ (i : ℕ). fact_over (with_link w p s l) i) start ∙ ap (λ (r : ℕ → Link). over_of n r w.sites) (at_place w.links p next) ∙ over_apart n next w.sites apart_group ∙ here)
    (λ j other. ap (λ (r : ℕ → Link). over_of (w.nodes j) r w.sites) (updated_other w.links p j next (λ e. other (e ∙ sym start))))

-- ---- the link that a line names

-- no list without items has a place
no_place : {A : Type 0} (p : A → Bool) (xs : List A) (i : ℕ) → xs ≡ [] → position p xs ≡ Some i → ⊥
no_place p xs i none is =
    let inside : i < length xs = position_within p xs i is in
    let empty : length xs ≡ 0 = ap length none in
    absurd (omega (arith, inside, empty))

pub number_is : (w : World) (name : List ℕ) (k : ℕ) → seat_of (facts_over w) name ≡ Some k → k ≡ site_number w name
number_is w name k is = sym (ap (λ (o : Option ℕ). unwrap_or o 0) (sym (seats_over w name) ∙ is))

module _ (w : World) (from to : List ℕ) (f : FoundLink (facts_over w) from to) where
  abbrev a : ℕ
  a = site_number w from

  abbrev b : ℕ
  b = site_number w to

  pub here_is : f.here ≡ a
  here_is = number_is w from f.here f.first

  pub there_is : f.there ≡ b
  there_is = number_is w to f.there f.second

  pub here_below : a < w.sites
  here_below =
      let inside : f.here < length (facts_over w) = position_within (λ site. bytes_eq site.name from) (facts_over w) f.here f.first in
      let many : length (facts_over w) ≡ w.sites = length-values_from (λ i. fact_over w i) 0 w.sites in
      omega (arith, inside, many, here_is)

  pub site_seen : f.site ≡ fact_over w a
  site_seen =
      let start : 0 + a ≡ a = omega arith in
      some_same
      (sym f.site_is ∙ ap (slice_get (facts_over w)) here_is ∙ slice_get-values_from (λ i. fact_over w i) 0 w.sites a here_below ∙ ap (λ (i : ℕ). Some (fact_over w i)) start)

  -- it shows a link, so it is over no group
  pub apart_there : is_over_group (w.nodes a) ≡ false
  apart_there = apart_linked w a (λ none. no_place (leads_to f.there) f.site.links f.place (ap (λ (x : SiteFacts). x.links) site_seen ∙ none) f.place_is)

  pub site_there : f.site ≡ linked_fact w a
  site_there = site_seen ∙ fact_apart w a apart_there

  module _ (up : (w.nodes a).state ≡ Up) where
    links_there : f.site.links ≡ links_of_site w a
    links_there = ap (λ (site : SiteFacts). site.links) site_there ∙ ap (λ (t : SiteState). links_by t (links_of_site w a)) up

    place_there : place_to b (links_of_site w a) ≡ Some f.place
    place_there = ap (place_to b) (sym links_there) ∙ ap (λ (k : ℕ). place_to k f.site.links) (sym there_is) ∙ f.place_is

    pub place_is : f.place ≡ position_or_len (leads_to b) (links_of_site w a)
    place_is = first_place (leads_to b) (links_of_site w a) f.place place_there

    pub link_there : f.link ≡ link_fact (w.nodes a) b (w.links a b)
    link_there =
        (found_link (w.nodes a) (w.links a) (linked_sites (w.links a) w.sites 0 w.sites) b f.link (all_linked (w.links a) w.sites 0 w.sites)
        (find_at (leads_to b) (links_of_site w a) ∙ ap (slice_get (links_of_site w a)) (sym place_is) ∙ ap (λ (ls : List LinkFacts). slice_get ls f.place) (sym links_there) ∙ f.link_is)).0

    -- the facts with another link in its place
    pub relinked_is : (l : Link) → l.made ≡ (w.links a b).made → relinked (facts_over w) f.here f.site f.place (link_fact (w.nodes a) b l) ≡ facts_over (with_link w a b l)
    relinked_is l same =
        let x : LinkFacts = link_fact (w.nodes a) b l in
        ap (λ (i : ℕ). relinked (facts_over w) i f.site f.place x) here_is
        ∙ ap (λ (site : SiteFacts). relinked (facts_over w) a site f.place x) site_there
        ∙ ap (λ (k : ℕ). relinked (facts_over w) a (linked_fact w a) k x) place_is
        ∙ sym (facts_with_link w a b l apart_there up same)

-- ---- a link between the sites of two numbers

get_site : (w : World) (i : ℕ) (site : SiteFacts) → slice_get (facts_over w) i ≡ Some site → (i < w.sites) × (site ≡ fact_over w i)
get_site w i site is =
    let inside : i < length (facts_over w) = slice_get_within (facts_over w) i site is in
    let many : length (facts_over w) ≡ w.sites = length-values_from (λ j. fact_over w j) 0 w.sites in
    let below : i < w.sites = omega (arith, inside, many) in
    let start : 0 + i ≡ i = omega arith in
    (below, some_same (sym is ∙ slice_get-values_from (λ j. fact_over w j) 0 w.sites i below ∙ ap (λ (j : ℕ). Some (fact_over w j)) start))

-- only a site that is up shows links
up_by : (st : SiteState) (to : ℕ) (ls : List LinkFacts) (l : LinkFacts) → find (leads_to to) (links_by st ls) ≡ Some l → (st ≡ Up) × (find (leads_to to) ls ≡ Some l)
up_by Bare to ls l is = absurd (never_some is)
up_by Up to ls l is = (refl, is)
up_by Deported to ls l is = absurd (never_some is)
up_by Down to ls l is = absurd (never_some is)

pub between : (w : World) (from to : ℕ) (l : LinkFacts) → fact_between (facts_over w) from to ≡ Some l → IsLinkOf w from to l
between w from to l is = by (slice_get (facts_over w) from) (λ site at. get_site w from site at) is
  where
    by : (o : Option SiteFacts) → ((site : SiteFacts) → o ≡ Some site → (from < w.sites) × (site ≡ fact_over w from)) → link_leading o to ≡ Some l → IsLinkOf w from to l
    by None at e = absurd (never_some e)
    by (Some site) at e =
        let there = at site refl in
        let seen : find (leads_to to) (fact_over w from).links ≡ Some l = sym (ap (λ (s : SiteFacts). find (leads_to to) s.links) there.1) ∙ e in
        let alone = apart_linked w from (λ none. never_some (sym (ap (find (leads_to to)) none) ∙ seen)) in
        let up = up_by (w.nodes from).state to (links_of_site w from) l (sym (ap (λ (s : SiteFacts). find (leads_to to) s.links) (fact_apart w from alone)) ∙ seen) in
        let link = found_link (w.nodes from) (w.links from) (linked_sites (w.links from) w.sites 0 w.sites) to l (all_linked (w.links from) w.sites 0 w.sites) up.1 in
        record { below = there.0; apart = alone; up = up.0; linked = link.1; link_is = link.0 }

-- the facts with a link put between two sites that are linked
pub put_is : (w : World) (from to : ℕ) (old new : List SiteFacts) (x : LinkFacts) (l : Link) → old ≡ facts_over w → Put from to x old new → (w.nodes from).state ≡ Up → l.made ≡ (w.links from to).made
    → x ≡ link_fact (w.nodes from) to l → new ≡ facts_over (with_link w from to l)
put_is w from to old new x l facts put up same is =
    let seen : put.site ≡ fact_over w from = (get_site w from put.site (sym (ap (λ (fs : List SiteFacts). slice_get fs from) facts) ∙ put.site_is)).1 in
    let alone = apart_linked w from (λ none. no_place (leads_to to) put.site.links put.place (ap (λ (s : SiteFacts). s.links) seen ∙ none) put.place_is) in
    let site : put.site ≡ linked_fact w from = seen ∙ fact_apart w from alone in
    let links : put.site.links ≡ links_of_site w from = ap (λ (s : SiteFacts). s.links) site ∙ ap (λ (t : SiteState). links_by t (links_of_site w from)) up in
    let place : put.place ≡ position_or_len (leads_to to) (links_of_site w from) = first_place (leads_to to) (links_of_site w from) put.place (ap (place_to to) (sym links) ∙ put.place_is) in
    put.new_is
    ∙ ap (λ (fs : List SiteFacts). relinked fs from put.site put.place x) facts
    ∙ ap (λ (s : SiteFacts). relinked (facts_over w) from s put.place x) site
    ∙ ap (λ (k : ℕ). relinked (facts_over w) from (linked_fact w from) k x) place
    ∙ ap (λ (y : LinkFacts). relinked (facts_over w) from (linked_fact w from) (position_or_len (leads_to to) (links_of_site w from)) y) is
    ∙ sym (facts_with_link w from to l alone up same)

-- a link that is found has a place
pub has_place : (sites : List SiteFacts) (from to : ℕ) → IsSome (fact_between sites from to) → HasPlace sites from to
has_place sites from to some = by (slice_get sites from) refl some
  where
    no_link : IsSome (link_leading None to) → ⊥
    no_link e = let f : false ≡ true = e in absurd (cc)

    by_link : (site : SiteFacts) → slice_get sites from ≡ Some site → (o : Option LinkFacts) → find (leads_to to) site.links ≡ o → IsSome o → HasPlace sites from to
    by_link site at None is e = let f : false ≡ true = e in absurd (cc)
    by_link site at (Some l) is e = record {
      site = site;
      site_is = at;
      placed = ap (λ (o : Option ℕ). is_some o) (found_at (leads_to to) site.links l is).is;
      found = l;
      found_is = ap (λ (o : Option SiteFacts). link_leading o to) at ∙ is;
    }

    by : (o : Option SiteFacts) → slice_get sites from ≡ o → IsSome (link_leading o to) → HasPlace sites from to
    by None at e = absurd (no_link e)
    by (Some site) at e = by_link site at (find (leads_to to) site.links) refl e

-- the link of that place put there
pub put_so : (sites : List SiteFacts) (from to : ℕ) (h : HasPlace sites from to) (site new : SiteFacts) (l : LinkFacts) → slice_get sites from ≡ Some site
    → ((place : ℕ) → place_to to site.links ≡ Some place → new ≡ site_relinked site place l) → Put from to l sites (slice_set sites from new)
put_so sites from to h site new l at puts =
    let same : h.site ≡ site = some_same (sym h.site_is ∙ at) in
    let k = some_of (place_to to site.links) (subst (λ (s : SiteFacts). IsSome (place_to to s.links)) same h.placed) in
    record { site = site; place = k.0; site_is = at; place_is = k.1; new_is = ap (slice_set sites from) (puts k.0 k.1) }
  where
    some_of : (o : Option ℕ) → IsSome o → (k : ℕ) × (o ≡ Some k)
    some_of None e = let f : false ≡ true = e in absurd (cc)
    some_of (Some k) e = (k, refl)
