-- A line that makes a site, where other sites may keep links and be in doubt.
use Rattle.std.proofs.Common.{◌≡◌, ◌∙◌, ◌+◌, ◌<◌, ◌≤◌, ℕ, zero, suc, Bool, true, false, List, [], ◌∷◌, ◌++◌, length, ap, sym, subst, refl, arith, ⊎_elim}
use Rattle.std.specs.Prelude.{Option, Some, None, Result, Err, bytes_eq, if◌then◌else◌, is_some, slice_get, slice_set}
use Rattle.std.specs.Vec.{vec_capacity}
use Rattle.std.proofs.lemmas.Bool.{cases_eq}
use Rattle.std.proofs.lemmas.Option.{slice_get_within}
use Rattle.vx_history.proofs.Places.{count_most}
use Rattle.vx_history.proofs.Updates.{at_place, eqb_equal}
use Rattle.vx_history.specs.Doubts.{After, Doubted}
use Rattle.vx_history.specs.Events.{is_in_place, link_in_place, linked_sites, put_before}
use Rattle.vx_history.specs.KeptLinks.{kept_links}
use Rattle.vx_history.specs.Listed.{HasPlaces}
use Rattle.vx_history.specs.Refusals.{Outcome}
use Rattle.vx_history.specs.Sends.{is_linked, is_made}
use Rattle.vx_history.specs.Step.{headers_counted, done as is_done, outcome_of}
use Rattle.vx_history.specs.Steps.{site_made}
use Rattle.vx_history.specs.World.{Link, Node, World, bare_site}
use Rattle.vx_history.specs.declared.event.Event.TheVariants.{Site as MakeSite}
use Rattle.vx_model.specs.declared.errors.OutOfMemory.{OutOfMemory as MemoryError}
use Rattle.vx_model.specs.declared.errors.Stop.{Stop}
use Rattle.vx_model.specs.declared.errors.Stop.TheVariants.{No as Refused, OutOfMemory}
use Rattle.vx_model.specs.declared.no.No.TheVariants.{Device, Exists}
use Rattle.vx_model.specs.declared.state.KeptLink.{KeptLink}
use Rattle.vx_disk.specs.declared.shelf.Shelf.{Ghosts}
use Rattle.vx_order.specs.Order.{line_refusal}
use Rattle.vx_order.specs.Shapes.{taken}
use Rattle.vx_order.specs.Sites.{site_named}
use Rattle.vx_order.specs.declared.facts.SiteFacts.{SiteFacts}
use Rattle.vx_script.specs.declared.line.ScriptLine.TheVariants.{Site}
use Rattle.vx_diskset.specs.Asked.{FailsAs, FusedAs}
use Rattle.vx_diskset.specs.DiskSets.{FitIs}
use Rattle.vx_diskset.specs.Holds.{KeptBeside, KeptSite, beside_of, doubt_of, row_links}
use Rattle.vx_diskset.specs.Noted.{NotedOver}
use Rattle.vx_diskset.specs.Stands.{IsUnused, RoleIs, SiteStands}
use Rattle.vx_diskset.specs.declared.disk_set.DiskSet.{DiskSet}
use Rattle.vx_effects.proofs.Fitting.{fit_happened}
use Rattle.vx_events.proofs.Refused.{SiteMay, passes, site_may, when_none}
use Rattle.vx_events.proofs.Steps.{site_step}
use Rattle.vx_events.proofs.Testing.{absent, none_under}
use Rattle.vx_events.proofs.Values.{length-values_from, values_from-push}
use Rattle.vx_events.specs.Effects.{AddsSite}
use Rattle.vx_events.specs.Facts.{values_from}
use Rattle.vx_events.specs.GroupLines.{is_over_group}
use Rattle.vx_events.specs.GroupNotes.{note_at}
use Rattle.vx_events.specs.LinkedFacts.{link_facts, linked_fact, links_by, seen_fact}
use Rattle.vx_events.specs.StepsOver.{fact_of_group, fact_over, facts_over}
use Rattle.vx_events.proofs.OverSeats.{name_over}
use Rattle.vx_events.specs.LinksFit.{LinksFit}
use Rattle.vx_events.specs.declared.said.Said.{Said}
use Rattle.vx_events.specs.declared.said.Said.TheVariants.{Done}
use Rattle.vx_diskset.proofs.Roles.{role_origin}
use Rattle.vx_model.specs.Sites.{is_origin}
use Rattle.vx_yard.specs.Changes.{bare_facts}
use Rattle.vx_yard.specs.Replies.{reply_to}
use Rattle.vx_model.specs.declared.site.SiteState.TheVariants.{Bare as IsBare, Up as IsUp}
use Rattle.vx_yard.specs.Standing.{IsSameSite, Leads, LeadsIs, SitesAgree, StandsFor, BeginsFirst}
use Rattle.vx_yard.specs.Working.{IsFree}
use Rattle.vx_yard.specs.Yards.{IsTold, in_files}
use Rattle.vx_yard.specs.declared.yard.Yard.{Yard}
use Rattle.vx_yard.proofs.Alike.{apart_place}
use Rattle.vx_yard.proofs.CrashLine.{rose_still}
use Rattle.vx_yard.proofs.FuseStays.{fused_none}
use Rattle.vx_yard.proofs.Kept.{many_sites}
use Rattle.vx_yard.proofs.Lists.{get-set_other, length-set}
use Rattle.vx_yard.proofs.NoteSite.{one_left, only_left}
use Rattle.vx_yard.proofs.OneSite.{Changed, at_set, rose_at, told_by}
use Rattle.vx_yard.proofs.OverGroup.{noted_none}
use Rattle.vx_yard.proofs.Carrying.{SameLoad, carries_more, carries_same}
use Rattle.vx_yard.proofs.Rows.{fact_same, row_links_same}
use Rattle.vx_yard.proofs.SiteEvents.{first_choice}
use Rattle.vx_site_lines.proofs.Apart.{fact_at, over_is}
use Rattle.vx_site_lines.proofs.SiteLine.{most_same}

-- ---- links among one site more

never_true : false ≡ true → ⊥
never_true e = cc

bare_up : IsBare ≡ IsUp → ⊥
bare_up e = cc

not_made : (m : Option ℕ) → (is_made m ≡ true → ⊥) → m ≡ None
not_made None never = refl
not_made (Some place) never = absurd (never refl)

placed_at : (m : Option ℕ) (place : ℕ) → is_in_place m place ≡ true → m ≡ Some place
placed_at None place e = absurd (never_true e)
placed_at (Some made) place e = ap (λ (k : ℕ). Some k) (eqb_equal made place e)

module _ (row : ℕ → Link) (sites : ℕ) (has : HasPlaces sites row) where
  in_place_more : (place : ℕ) → link_in_place row place (suc sites) ≡ link_in_place row place sites
  in_place_more place =
      let none : (row sites).made ≡ None = not_made (row sites).made (λ is. let below = has.within sites is in absurd (omega (arith, below))) in
      ap (λ (m : Option ℕ). if is_in_place m place then Some sites else link_in_place row place sites) none

  places_more : (place n : ℕ) → linked_sites row (suc sites) place n ≡ linked_sites row sites place n
  places_more place zero = refl
  places_more place (suc n) =
      ap (λ (o : Option ℕ). put_before o (linked_sites row (suc sites) (place + 1) n)) (in_place_more place)
      ∙ ap (λ (ss : List ℕ). put_before (link_in_place row place sites) ss) (places_more (place + 1) n)

  -- no link has the place of the count
  none_there : (n : ℕ) → link_in_place row sites n ≡ None
  none_there zero = refl
  none_there (suc n) = by (is_in_place (row n).made sites) (λ is. placed_at (row n).made sites is) (none_there n)
    where
      by : (b : Bool) → (b ≡ true → (row n).made ≡ Some sites) → link_in_place row sites n ≡ None → (if b then Some n else link_in_place row sites n) ≡ None
      by true there rest = absurd (let below = has.below n sites (there refl) in omega (arith, below, count_most sites (λ k. is_linked (row k))))
      by false there rest = rest

  last_place : (place n : ℕ) → place + n ≡ sites → linked_sites row sites place (suc n) ≡ linked_sites row sites place n
  last_place place zero is =
      let here : place ≡ sites = omega (arith, is) in
      ap (λ (o : Option ℕ). put_before o []) (ap (λ (k : ℕ). link_in_place row k sites) here ∙ none_there sites)
  last_place place (suc n) is = ap (λ (ss : List ℕ). put_before (link_in_place row place sites) ss) (last_place (place + 1) n (omega (arith, is)))

  pub linked_more : linked_sites row (suc sites) 0 (suc sites) ≡ linked_sites row sites 0 sites
  linked_more = places_more 0 (suc sites) ∙ last_place 0 sites (omega arith)

  pub row_links_more : row_links row (suc sites) ≡ row_links row sites
  row_links_more = ap (λ (ss : List ℕ). kept_links row ss) linked_more

-- ---- a world with one site more

-- what the world has of each other site beside its node
beside_more : (d e : Doubted) (n : Node) (i : ℕ) → AddsSite d e n → LinksFit d → beside_of e i ≡ beside_of d i
beside_more d e n i adds fits =
    let more : e.world.sites ≡ suc d.world.sites = omega (arith, adds.sites) in
    ap (λ (ls : List KeptLink). let b : KeptBeside = record { links = ls; headers = e.world.headers i; doubt = doubt_of e.world i (e.after i) } in b)
    (row_links_same (d.world.links i) (e.world.links i) (adds.links i) e.world.sites ∙ ap (λ (k : ℕ). row_links (d.world.links i) k) more ∙ row_links_more (d.world.links i) d.world.sites (fits.rows i).places)
    ∙ ap (λ (k : ℕ). let b : KeptBeside = record { links = row_links (d.world.links i) d.world.sites; headers = k; doubt = doubt_of e.world i (e.after i) } in b) (adds.headers i)
    ∙ ap (λ (o : Option KeptSite). let b : KeptBeside = record { links = row_links (d.world.links i) d.world.sites; headers = d.world.headers i; doubt = o } in b)
    (ap (λ (o : Option After). doubt_of e.world i o) (adds.after i) ∙ by (d.after i) refl more)
  where
    by : (o : Option After) → d.after i ≡ o → e.world.sites ≡ suc d.world.sites → doubt_of e.world i o ≡ doubt_of d.world i o
    by None is more = refl
    by (Some a) is more =
        ap (λ (ls : List KeptLink). Some (let x : KeptSite = record { node = a.node; links = ls; headers = e.world.headers i } in x))
        (ap (λ (k : ℕ). row_links a.row k) more ∙ row_links_more a.row d.world.sites (fits.doubts i a is).row.places)
        ∙ ap (λ (k : ℕ). Some (let x : KeptSite = record { node = a.node; links = row_links a.row d.world.sites; headers = k } in x)) (adds.headers i)

-- what the tests see of it
fact_more : (d e : Doubted) (n : Node) (i : ℕ) → AddsSite d e n → LinksFit d → (i ≡ d.world.sites → ⊥) → linked_fact e.world i ≡ linked_fact d.world i
fact_more d e n i adds fits apart =
    let more : e.world.sites ≡ suc d.world.sites = omega (arith, adds.sites) in
    fact_same (d.world.nodes i) (e.world.nodes i) (d.world.links i) (e.world.links i) (suc d.world.sites) e.world.sites (adds.nodes i apart) (adds.links i) more
    ∙ ap (λ (ss : List ℕ). let f : SiteFacts = record (seen_fact (d.world.nodes i)) { links = links_by (d.world.nodes i).state (link_facts (d.world.nodes i) (d.world.links i) ss) } in f)
    (linked_more (d.world.links i) d.world.sites (fits.rows i).places)

over_more : (d e : Doubted) (n : Node) (i : ℕ) → AddsSite d e n → LinksFit d → (i ≡ d.world.sites → ⊥) → fact_over e.world i ≡ fact_over d.world i
over_more d e n i adds fits apart =
    ap (λ (m : Node). if is_over_group m then fact_of_group m (note_at m) else linked_fact e.world i) (adds.nodes i apart)
    ∙ ap (λ (f : SiteFacts). if is_over_group (d.world.nodes i) then fact_of_group (d.world.nodes i) (note_at (d.world.nodes i)) else f) (fact_more d e n i adds fits apart)

values_below : (f h : ℕ → SiteFacts) (k m s : ℕ) → k + m ≤ s → ((j : ℕ) → j < s → h j ≡ f j) → values_from h k m ≡ values_from f k m
values_below f h k zero s past same = refl
values_below f h k (suc m) s past same =
    ap (λ (x : SiteFacts). x ∷ values_from h (k + 1) m) (same k (omega (arith, past)))
    ∙ ap (λ (xs : List SiteFacts). f k ∷ xs) (values_below f h (k + 1) m s (omega (arith, past)) same)

facts_more : (d e : Doubted) (n : Node) → AddsSite d e n → LinksFit d → facts_over e.world ≡ facts_over d.world ++ fact_over e.world d.world.sites ∷ []
facts_more d e n adds fits =
    let more : e.world.sites ≡ suc d.world.sites = omega (arith, adds.sites) in
    let start : 0 + d.world.sites ≡ d.world.sites = omega arith in
    ap (λ (k : ℕ). values_from (λ i. fact_over e.world i) 0 k) more
    ∙ values_from-push (λ i. fact_over e.world i) 0 d.world.sites
    ∙ ap (λ (fs : List SiteFacts). fs ++ fact_over e.world (0 + d.world.sites) ∷ [])
    (values_below (λ i. fact_over d.world i) (λ i. fact_over e.world i) 0 d.world.sites d.world.sites (omega arith) (λ j below. over_more d e n j adds fits (λ same. omega (arith, below, same))))
    ∙ ap (λ (k : ℕ). facts_over d.world ++ fact_over e.world k ∷ []) start

-- the event
abbrev site_event : Doubted → List ℕ → ℕ → ℕ → Doubted
site_event d name disks blocks = record d { world = (headers_counted d.world (MakeSite name disks blocks) (is_done (site_made d.world name disks blocks))).world }

no_more : (n : ℕ) → n + 0 ≡ n
no_more n = omega arith

site_adds : (d : Doubted) (name : List ℕ) (disks blocks : ℕ) → AddsSite d (site_event d name disks blocks) (bare_site name disks blocks)
site_adds d name disks blocks = record {
  sites = refl;
  node = at_place d.world.nodes d.world.sites (bare_site name disks blocks);
  nodes = λ i apart. apart_place d.world.nodes d.world.sites (bare_site name disks blocks) i apart;
  links = λ i k. refl;
  headers = λ i. no_more (d.world.headers i);
  after = λ i. refl;
  strayed = λ calm. calm;
  packets = refl;
  gathering = λ i. refl;
}

site_fits : (d : Doubted) (name : List ℕ) (disks blocks : ℕ) → outcome_of d.world (MakeSite name disks blocks) ≡ is_done (site_made d.world name disks blocks) → LinksFit d → LinksFit (site_event d name disks blocks)
site_fits d name disks blocks at fits =
    subst (λ (o : Outcome). LinksFit (record d { world = (headers_counted d.world (MakeSite name disks blocks) o).world })) at (fit_happened d (MakeSite name disks blocks) false tt fits)

-- no site has the name of a new one
none_linked : (w : World) (name : List ℕ) (k n : ℕ) → is_some (site_named (values_from (λ i. fact_over w i) k n) name) ≡ false → (i : ℕ) → i < n → bytes_eq (w.nodes (k + i)).name name ≡ false
none_linked w name k zero e i h = absurd (omega (arith, h))
none_linked w name k (suc n) e zero h =
    let start : k ≡ k + 0 = omega arith in
    subst (λ (j : ℕ). bytes_eq (w.nodes j).name name ≡ false) start
    (ap (λ (x : List ℕ). bytes_eq x name) (sym (name_over w k))
    ∙ (absent (bytes_eq (fact_over w k).name name) (fact_over w k) (site_named (values_from (λ i. fact_over w i) (k + 1) n) name) e).0)
none_linked w name k (suc n) e (suc i) h =
    let over : k + 1 + i ≡ k + suc i = omega arith in
    subst (λ (j : ℕ). bytes_eq (w.nodes j).name name ≡ false) over
    (none_linked w name (k + 1) n
    (absent (bytes_eq (fact_over w k).name name) (fact_over w k) (site_named (values_from (λ i. fact_over w i) (k + 1) n) name) e).1 i (omega (arith, h)))

site_outcome : (w : World) (files : Bool) (name : List ℕ) (disks blocks : ℕ) → line_refusal (facts_over w) files (Site name disks blocks) ≡ None → outcome_of w (MakeSite name disks blocks) ≡ is_done (site_made w name disks blocks)
unfolding taken
site_outcome w files name disks blocks free =
    let p = passes (facts_over w) files (Site name disks blocks) free in
    let may = site_may (facts_over w) files name disks blocks free in
    let many : length (facts_over w) ≡ w.sites = length-values_from (λ i. fact_over w i) 0 w.sites in
    let none : is_some (site_named (facts_over w) name) ≡ false = when_none (is_some (site_named (facts_over w) name)) (Exists name) p.free in
    site_step w name disks blocks
    (none_under w.sites (λ k. bytes_eq (w.nodes k).name name)
    (λ k h. let start : 0 + k ≡ k = omega arith in subst (λ (j : ℕ). bytes_eq (w.nodes j).name name ≡ false) start (none_linked w name 0 w.sites none k h)))
    (omega (arith, may.few_sites, many)) may.few_disks may.some_disks may.some_blocks

module _ {R : Type 0} {g : Ghosts R} where
  -- the yard with another disk set of a number that no site had
  stands_more : (d e : Doubted) (old new : Yard R g) (n : Node) (f : SiteFacts) (before after : DiskSet R g) → StandsFor d old → d.world.sites < 8 → AddsSite d e n → LinksFit e → Changed old new d.world.sites before after
      → SiteStands (beside_of e d.world.sites) n after → FailsAs n after → FusedAs n after → is_origin n.role ≡ true → n.state ≡ IsBare → n.group ≡ None → f ≡ fact_over e.world d.world.sites → new.facts.items ≡ old.facts.items ++ f ∷ [] → StandsFor e new
  stands_more d e old new n f before after stands few adds links changed here failing fuse role bare none fact facts = record {
    facts = facts ∙ ap (λ (fs : List SiteFacts). fs ++ f ∷ []) stands.facts ∙ ap (λ (x : SiteFacts). facts_over d.world ++ x ∷ []) fact ∙ sym (facts_more d e n adds stands.links);
    disk_sets = subst (λ es. SitesAgree e es) (sym changed.disk_sets) (record {
      eight = length-set old.disk_sets.items s after ∙ stands.disk_sets.eight;
      few = omega (arith, few, adds.sites);
      sites = λ i x inside is. at_set (λ j y. SiteStands (beside_of e j) (e.world.nodes j) y) old.disk_sets.items s after within
          (subst (λ (m : Node). SiteStands (beside_of e s) m after) (sym adds.node) here) i x is
          (λ apart was.
          subst (λ (b : KeptBeside). SiteStands b (e.world.nodes i) x) (sym (beside_more d e n i adds stands.links))
          (subst (λ (m : Node). SiteStands (beside_of d i) m x) (sym (adds.nodes i apart)) (stands.disk_sets.sites i x (less i apart inside) was)));
      others = λ i x past is. stands.disk_sets.others i x (omega (arith, past, adds.sites)) (sym (get-set_other old.disk_sets.items s i after (λ same. omega (arith, past, same, adds.sites))) ∙ is);
    });
    links = links;
    roles = record {
      each = λ i x inside is. at_set (λ j y. RoleIs (e.world.nodes j) y) old.disk_sets.items s after within (subst (λ (m : Node). RoleIs m after) (sym adds.node) (role_origin n after role)) i x (there i x is)
          (λ apart was. subst (λ (m : Node). RoleIs m x) (sym (adds.nodes i apart)) (stands.roles.each i x (less i apart inside) was));
    };
    first = λ i inside. ⊎_elim
        (λ (same : i ≡ s). subst (λ (k : ℕ). BeginsFirst k (e.world.nodes k)) (sym same) (subst (λ (m : Node). BeginsFirst s m) (sym adds.node) (λ made none. absurd (made bare))))
        (λ apart. subst (λ (m : Node). BeginsFirst i m) (sym (adds.nodes i apart)) (stands.first i (less i apart inside)))
        (cases_eq i s);
    noted = λ i x inside is. at_set (λ j y. NotedOver (e.world.nodes j) y) old.disk_sets.items s after within (noted_none (beside_of e s) n (e.world.nodes s) after here none) i x (there i x is)
        (λ apart was. subst (λ (m : Node). NotedOver m x) (sym (adds.nodes i apart)) (stands.noted i x (less i apart inside) was));
    doubts = λ i a is. doubted i a is;
    failing = λ i x inside is. at_set (λ j y. FailsAs (e.world.nodes j) y) old.disk_sets.items s after within (subst (λ (m : Node). FailsAs m after) (sym adds.node) failing) i x (there i x is)
        (λ apart was. subst (λ (m : Node). FailsAs m x) (sym (adds.nodes i apart)) (stands.failing i x (less i apart inside) was));
    fuses = λ i x inside is. at_set (λ j y. FusedAs (e.world.nodes j) y) old.disk_sets.items s after within (subst (λ (m : Node). FusedAs m after) (sym adds.node) fuse) i x (there i x is)
        (λ apart was. subst (λ (m : Node). FusedAs m x) (sym (adds.nodes i apart)) (stands.fuses i x (less i apart inside) was));
    none = ap (λ r. r.items) changed.racks ∙ stands.none;
    room = omega (arith, stands.room, ap (λ r. vec_capacity r) changed.racks);
  }
    where
      s : ℕ
      s = d.world.sites

      within : s < length old.disk_sets.items
      within = slice_get_within old.disk_sets.items s before changed.there

      less : (i : ℕ) → (i ≡ s → ⊥) → i < e.world.sites → i < s
      less i apart below = let count = adds.sites in grind arith

      there : (i : ℕ) (x : DiskSet R g) → slice_get new.disk_sets.items i ≡ Some x → slice_get (slice_set old.disk_sets.items s after) i ≡ Some x
      there i x is = sym (ap (λ es. slice_get es i) changed.disk_sets) ∙ is

      doubted : (i : ℕ) (a : After) → e.after i ≡ Some a → IsSameSite (e.world.nodes i) a.node
      doubted i a is =
          let was = stands.doubts i a (sym (adds.after i) ∙ is) in
          ⊎_elim
          (λ (last : i ≡ s). absurd (in_doubt (sym (stands.links.later i (omega (arith, last))) ∙ (stands.links.doubts i a (sym (adds.after i) ∙ is)).up)))
          (λ apart. subst (λ (m : Node). IsSameSite m a.node) (sym (adds.nodes i apart)) was) (cases_eq i s)
        where
          in_doubt : IsBare ≡ IsUp → ⊥
          in_doubt e = cc

  pub site_leads : (d : Doubted) (old new : Yard R g) (name : List ℕ) (disks blocks : ℕ) (before after : DiskSet R g) → StandsFor d old → IsFree old (Site name disks blocks)
      → Changed old new (length old.facts.items) before after → ((beside : KeptBeside) (name : List ℕ) → SiteStands beside (bare_site name disks blocks) after)
      → new.facts.items ≡ old.facts.items ++ bare_facts name disks blocks ∷ [] → SameLoad old new → Leads d (Site name disks blocks) Done old new
  site_leads d old new name disks blocks before after stands free changed fits facts load =
      let many = many_sites d old stands in
      let may = site_may old.facts.items (in_files old) name disks blocks free in
      let e : Doubted = site_event d name disks blocks in
      let n : Node = bare_site name disks blocks in
      let at = site_outcome d.world (in_files old) name disks blocks (ap (λ (fs : List SiteFacts). line_refusal fs (in_files old) (Site name disks blocks)) (sym stands.facts) ∙ free) in
      let changed_there : Changed old new d.world.sites before after = subst (λ (k : ℕ). Changed old new k before after) many changed in
      let adds = site_adds d name disks blocks in
      record {
        next = e;
        fails = [];
        done = record {
          ends = one_left (IsTold new) d (Site name disks blocks) d.world.sites first_choice (MakeSite name disks blocks) (is_done (site_made d.world name disks blocks)) Done e.world refl refl at refl refl;
          counts = tt;
          works = tt;
          calls = tt;
        };
        carries = carries_more d e n old new load adds (λ up. bare_up up) (told_by old new d.world.sites before after changed_there);
        stands = stands_more d e old new n (bare_facts name disks blocks) before after stands (omega (arith, may.few_sites, many)) adds (site_fits d name disks blocks at stands.links) changed_there
            (fits (beside_of e d.world.sites) name) (record { told = λ x at u on. absurd (never_true on) }) (fused_none n after refl) refl refl refl
            (fact_at e.world d.world.sites (bare_facts name disks blocks) (over_is n (e.world.nodes d.world.sites) adds.node refl)
            (sym (fact_same n (e.world.nodes d.world.sites) (d.world.links d.world.sites) (e.world.links d.world.sites) e.world.sites e.world.sites adds.node (λ k. refl) refl))) facts;
        rose = rose_still old new d.world.sites before after changed_there.there changed_there.later changed_there.disk_sets;
      }

  pub site_stops : {T : Type 0} (dir : Option T) (stop : Stop) (said : Result Said MemoryError) (d : Doubted) (old new : Yard R g) (name : List ℕ) (disks blocks : ℕ) (before after : DiskSet R g) → said ≡ reply_to stop → StandsFor d old
      → IsFree old (Site name disks blocks) → is_some dir ≡ in_files old → Changed old new (length old.facts.items) before after → FitIs dir disks blocks before after (Err stop)
      → new.facts.items ≡ old.facts.items → SameLoad old new → LeadsIs d (Site name disks blocks) old new said
  site_stops dir stop said d old new name disks blocks before after is stands free files changed fits facts load = subst (λ r. LeadsIs d (Site name disks blocks) old new r) (sym is) (by_stop stop fits)
    where
      may : SiteMay old.facts.items (in_files old) disks blocks
      may = site_may old.facts.items (in_files old) name disks blocks free

      s : ℕ
      s = d.world.sites

      many : length old.facts.items ≡ s
      many = many_sites d old stands

      here : Changed old new s before after
      here = subst (λ (k : ℕ). Changed old new k before after) many changed

      within : s < length old.disk_sets.items
      within = slice_get_within old.disk_sets.items s before here.there

      -- another unused disk set in the place of one
      stays : IsUnused after → StandsFor d new
      stays unused = record {
        facts = facts ∙ stands.facts;
        disk_sets = subst (λ es. SitesAgree d es) (sym here.disk_sets) (record {
          eight = length-set old.disk_sets.items s after ∙ stands.disk_sets.eight;
          few = stands.disk_sets.few;
          sites = λ i x below at. stands.disk_sets.sites i x below (sym (get-set_other old.disk_sets.items s i after (λ same. omega (arith, below, same))) ∙ at);
          others = λ i x past at. at_set (λ j y. IsUnused y) old.disk_sets.items s after within unused i x at (λ apart was. stands.disk_sets.others i x past was);
        });
        links = stands.links;
        roles = record { each = λ i x below at. stands.roles.each i x below (was i x below at) };
        noted = λ i x below at. stands.noted i x below (was i x below at);
        first = stands.first;
        doubts = λ i a is. stands.doubts i a is;
        failing = λ i x below at. stands.failing i x below (was i x below at);
        fuses = λ i x below at. stands.fuses i x below (was i x below at);
        none = ap (λ r. r.items) here.racks ∙ stands.none;
        room = omega (arith, stands.room, ap (λ r. vec_capacity r) here.racks);
      }
        where
          was : (i : ℕ) (x : DiskSet R g) → i < s → slice_get new.disk_sets.items i ≡ Some x → slice_get old.disk_sets.items i ≡ Some x
          was i x below at = sym (get-set_other old.disk_sets.items s i after (λ same. omega (arith, below, same))) ∙ sym (ap (λ es. slice_get es i) here.disk_sets) ∙ at

      by_stop : (stop : Stop) → FitIs dir disks blocks before after (Err stop) → LeadsIs d (Site name disks blocks) old new (reply_to stop)
      by_stop OutOfMemory unused = record { stands = stays unused; carries = carries_same d old new load (told_by old new s before after here); rose = rose_still old new s before after here.there here.later here.disk_sets }
      by_stop (Refused (Device disk)) h = record {
        next = d;
        fails = (s, disk) ∷ [];
        done = record { ends = only_left (IsTold new) d (Site name disks blocks) s (MakeSite name disks blocks) disk refl refl tt refl; counts = tt; works = tt; calls = tt };
        carries = carries_same d old new load (told_by old new s before after here);
        stands = stays h.0;
        rose = rose_at old new s disk before after here h.1;
      }
      by_stop (Refused other) h = absurd (omega (arith, h, may.few_blocks, most_same dir (in_files old) files))
