-- The site that a line names, in a yard whose sites may keep links.
use Rattle.std.proofs.Common.{◌≡◌, ◌∙◌, ◌+◌, ◌<◌, ℕ, true, false, List, [], length, ap, sym, subst, refl, arith}
use Rattle.std.specs.Prelude.{Option, Some, is_some, slice_get, slice_set, unwrap_or}
use Rattle.std.specs.Str.{bytes_eq}
use Rattle.vx_history.specs.Doubts.{Doubted}
use Rattle.vx_disk.specs.declared.shelf.Shelf.{Ghosts}
use Rattle.vx_order.specs.Sites.{rvg_of}
use Rattle.vx_order.specs.declared.facts.SiteFacts.{SiteFacts}
use Rattle.vx_diskset.specs.declared.disk_set.DiskSet.{DiskSet}
use Rattle.vx_events.specs.Facts.{seat_of, site_number}
use Rattle.vx_events.specs.GroupLines.{is_over_group}
use Rattle.vx_events.specs.LinkedFacts.{linked_fact}
use Rattle.vx_events.specs.StepsOver.{fact_over, facts_over, over_group_at}
use Rattle.vx_events.proofs.OverSeats.{apart_shown, fact_apart, seats_over}
use Rattle.vx_events.proofs.Places.{position_within, some_same}
use Rattle.vx_events.proofs.Refused.{Named}
use Rattle.vx_events.proofs.Values.{length-values_from, slice_get-values_from}
use Rattle.vx_yard.specs.OfSites.{OfSite}
use Rattle.std.specs.Prelude.{Result, Err}
use Rattle.vx_model.specs.declared.errors.OutOfMemory.{OutOfMemory}
use Rattle.vx_script.specs.declared.line.ScriptLine.{ScriptLine}
use Rattle.vx_events.specs.declared.said.Said.{Said}
use Rattle.vx_yard.specs.Standing.{LeadsIs, SitesAgree, StandsFor, StaysFor}
use Rattle.vx_yard.specs.Stands.{AreTold, RoseAll, site_faults}
use Rattle.std.specs.Vec.{vec_capacity}
use Rattle.vx_yard.specs.Yards.{count_of}
use Rattle.vx_yard.proofs.Carrying.{SameLoad, carries_same}
use Rattle.vx_yard.proofs.ChangeSite.{rose_none}
use Rattle.vx_yard.proofs.OfSites.{site_still}
use Rattle.vx_yard.specs.declared.yard.Yard.{Yard}

module _ {R : Type 0} {g : Ghosts R} where
  -- what the tests see of a site
  pub fact_of : (d : Doubted) (y : Yard R g) (s : ℕ) → StandsFor d y → s < d.world.sites → slice_get y.facts.items s ≡ Some (fact_over d.world s)
  fact_of d y s stands below =
      let start : 0 + s ≡ s = omega arith in
      ap (λ (fs : List SiteFacts). slice_get fs s) stands.facts ∙ slice_get-values_from (λ i. fact_over d.world i) 0 d.world.sites s below
      ∙ ap (λ (i : ℕ). Some (fact_over d.world i)) start

  -- the site of this number is the one of that name
  pub record PlaceAt (d : Doubted) (y : Yard R g) (name : List ℕ) (s : ℕ) : Type 0 where
    pub below : s < d.world.sites
    pub number : site_number d.world name ≡ s
    pub fact : slice_get y.facts.items s ≡ Some (fact_over d.world s)

  pub place_at : (d : Doubted) (y : Yard R g) (name : List ℕ) (s : ℕ) → StandsFor d y → seat_of y.facts.items name ≡ Some s → PlaceAt d y name s
  place_at d y name s stands is =
      let many : length (facts_over d.world) ≡ d.world.sites = length-values_from (λ i. fact_over d.world i) 0 d.world.sites in
      let seat : seat_of (facts_over d.world) name ≡ Some s = ap (λ (fs : List SiteFacts). seat_of fs name) (sym stands.facts) ∙ is in
      let inside : s < length (facts_over d.world) = position_within (λ site. bytes_eq site.name name) (facts_over d.world) s seat in
      let below : s < d.world.sites = omega (arith, many, inside) in
      record {
        below = below;
        number = ap (λ (o : Option ℕ). unwrap_or o 0) (sym (seats_over d.world name) ∙ seat);
        fact = fact_of d y s stands below;
      }

  -- and it is over no group
  pub record SiteAt (d : Doubted) (y : Yard R g) (name : List ℕ) (s : ℕ) : Type 0 where
    pub below : s < d.world.sites
    pub number : site_number d.world name ≡ s
    pub fact : slice_get y.facts.items s ≡ Some (linked_fact d.world s)
    pub apart : is_over_group (d.world.nodes s) ≡ false

  pub site_at : (d : Doubted) (y : Yard R g) (name : List ℕ) (s : ℕ) → StandsFor d y → is_over_group (d.world.nodes s) ≡ false → seat_of y.facts.items name ≡ Some s → SiteAt d y name s
  site_at d y name s stands apart is =
      let at = place_at d y name s stands is in
      record { below = at.below; number = at.number; fact = at.fact ∙ ap (λ (f : SiteFacts). Some f) (fact_apart d.world s apart); apart = apart }

  -- the same by the name
  pub apart_at : (d : Doubted) (y : Yard R g) (name : List ℕ) (s : ℕ) → StandsFor d y → over_group_at d.world name ≡ false → seat_of y.facts.items name ≡ Some s → is_over_group (d.world.nodes s) ≡ false
  apart_at d y name s stands apart is = ap (λ (k : ℕ). is_over_group (d.world.nodes k)) (sym (place_at d y name s stands is).number) ∙ apart

  pub named_at : (d : Doubted) (y : Yard R g) (name : List ℕ) (s : ℕ) → StandsFor d y → over_group_at d.world name ≡ false → seat_of y.facts.items name ≡ Some s → SiteAt d y name s
  named_at d y name s stands apart is = site_at d y name s stands (apart_at d y name s stands apart is) is

  -- what the tests found of it
  pub fact_named : (d : Doubted) (y : Yard R g) (name : List ℕ) (s : ℕ) → SiteAt d y name s → seat_of y.facts.items name ≡ Some s → (n : Named y.facts.items name) → n.facts ≡ linked_fact d.world s
  fact_named d y name s seat is n =
      let place : n.at.place ≡ s = some_same (sym n.at.is ∙ is) in
      some_same (sym n.at.there ∙ ap (slice_get y.facts.items) place ∙ seat.fact)

  -- the same of a site that is over a group
  pub fact_placed : (d : Doubted) (y : Yard R g) (name : List ℕ) (s : ℕ) → PlaceAt d y name s → seat_of y.facts.items name ≡ Some s → (n : Named y.facts.items name) → n.facts ≡ fact_over d.world s
  fact_placed d y name s seat is n =
      let place : n.at.place ≡ s = some_same (sym n.at.is ∙ is) in
      some_same (sym n.at.there ∙ ap (slice_get y.facts.items) place ∙ seat.fact)

  -- one in whose facts the tests found a replicated volume group
  pub rvg_at : (d : Doubted) (y : Yard R g) (name : List ℕ) (s : ℕ) → StandsFor d y → seat_of y.facts.items name ≡ Some s → (n : Named y.facts.items name) → is_some (rvg_of (Some n.facts)) ≡ true → SiteAt d y name s
  rvg_at d y name s stands seat n has =
      site_at d y name s stands
      (apart_shown d.world s (λ o. is_some o) refl (ap (λ (f : SiteFacts). is_some (rvg_of (Some f))) (sym (fact_placed d y name s (place_at d y name s stands seat) seat n)) ∙ has)) seat

  -- what a line asked of the rack of its site
  pub asks_at : (Did : DiskSet R g → DiskSet R g → Type 0) (d : Doubted) (old new : Yard R g) (name : List ℕ) (s : ℕ) (before after : DiskSet R g) → StandsFor d old → seat_of old.facts.items name ≡ Some s
      → slice_get old.disk_sets.items s ≡ Some before → new.disk_sets.items ≡ slice_set old.disk_sets.items s after → Did before after → OfSite Did (site_number d.world name) old new
  asks_at Did d old new name s before after stands seat there disk_sets did =
      subst (λ (k : ℕ). OfSite Did k old new) (sym (place_at d old name s stands seat).number) (record { before = before; after = after; there = there; disk_sets = disk_sets; did = did })

  -- a line for which memory was short
  pub unbegun_for : (d : Doubted) (y : Yard R g) → StandsFor d y → StaysFor d y y
  unbegun_for d y stands = record { stands = stands; carries = λ was. was; rose = rose_none (count_of y) (count_of y) (λ s u. omega arith) }

  pub unbegun_site : (Did : DiskSet R g → DiskSet R g → Type 0) (d : Doubted) (y : Yard R g) (name : List ℕ) → ((e : DiskSet R g) → Did e e) → StandsFor d y → Named y.facts.items name → OfSite Did (site_number d.world name) y y
  unbegun_site Did d y name none stands named =
      let here = place_at d y name named.at.place stands named.at.is in
      subst (λ (k : ℕ). OfSite Did k y y) (sym here.number) (site_still Did named.at.place y y none (omega (arith, here.below, stands.disk_sets.eight, stands.disk_sets.few)) refl)

  -- a yard of which each part is as it was
  pub unbegun_by : (d : Doubted) (line : ScriptLine) (y new : Yard R g) (r : Result Said OutOfMemory) (e : OutOfMemory) → r ≡ Err e → new.facts.items ≡ y.facts.items → new.disk_sets ≡ y.disk_sets → new.racks ≡ y.racks → SameLoad y new → StandsFor d y → LeadsIs d line y new r
  unbegun_by d line y new r e is facts disk_sets racks load stands = subst (λ (x : Result Said OutOfMemory). LeadsIs d line y new x) (sym is) (record {
    stands = record {
      facts = facts ∙ stands.facts;
      disk_sets = subst (λ es. SitesAgree d es) (sym sets) stands.disk_sets;
      links = stands.links;
      roles = record { each = λ s x below at. stands.roles.each s x below (sym (ap (λ es. slice_get es s) sets) ∙ at) };
      first = stands.first;
      noted = λ s x below at. stands.noted s x below (sym (ap (λ es. slice_get es s) sets) ∙ at);
      doubts = λ s a is. stands.doubts s a is;
      failing = λ s x below at. stands.failing s x below (sym (ap (λ es. slice_get es s) sets) ∙ at);
      fuses = λ s x below at. stands.fuses s x below (sym (ap (λ es. slice_get es s) sets) ∙ at);
      none = ap (λ rs. rs.items) racks ∙ stands.none;
      room = omega (arith, stands.room, ap (λ rs. vec_capacity rs) racks);
    };
    carries = carries_same d y new load (λ told. subst (λ es. AreTold es) sets told);
    rose = subst (λ es. RoseAll [] (count_of y) (site_faults es)) (sym sets) (rose_none (count_of y) (count_of y) (λ s u. omega arith));
  })
    where
      sets : new.disk_sets.items ≡ y.disk_sets.items
      sets = ap (λ es. es.items) disk_sets

  -- the facts that the tests found are those of the place that was found
  pub named_same : (y : Yard R g) (name : List ℕ) (s : ℕ) (f : SiteFacts) (n : Named y.facts.items name) → seat_of y.facts.items name ≡ Some s → slice_get y.facts.items s ≡ Some f → n.facts ≡ f
  named_same y name s f n seat at = some_same (sym n.at.there ∙ ap (slice_get y.facts.items) (some_same (sym n.at.is ∙ seat)) ∙ at)
