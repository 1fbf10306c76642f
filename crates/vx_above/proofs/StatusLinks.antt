-- What the status of a site shows of its links.
use Rattle.std.proofs.Common.{◌≡◌, ◌∙◌, ◌+◌, ◌<◌, ◌≤◌, ℕ, zero, suc, List, [], ◌∷◌, Bool, true, false, ap, sym, refl, arith}
use Rattle.std.specs.Prelude.{Option, Some, None, if◌then◌else◌, nat_lt, slice_get}
use Rattle.std.proofs.lemmas.Bool.Decides.{nat_tests}
use Rattle.vx_history.specs.Doubts.{Doubted}
use Rattle.vx_history.specs.Events.{linked_sites}
use Rattle.vx_history.specs.Sends.{is_linked}
use Rattle.vx_history.specs.World.{Node, Regions, Volume, World}
use Rattle.vx_model.specs.Sizes.{regions_of}
use Rattle.vx_model.specs.declared.no.SiteName.{SiteName}
use Rattle.vx_model.specs.declared.no.SiteName.TheVariants.{Known, Number}
use Rattle.vx_model.specs.declared.site.SiteState.{SiteState}
use Rattle.vx_model.specs.declared.site.SiteState.TheVariants.{Bare, Up, Deported, Down}
use Rattle.vx_disk.specs.declared.shelf.Shelf.{Ghosts}
use Rattle.vx_order.specs.declared.facts.LinkFacts.{LinkFacts}
use Rattle.vx_order.specs.declared.facts.SiteFacts.{SiteFacts}
use Rattle.vx_order.specs.Links.{named_at as name_in, site_name}
use Rattle.vx_report.specs.declared.view.LinkView.{LinkView}
use Rattle.vx_report.specs.declared.view.RvgView.{RvgView}
use Rattle.vx_report.specs.declared.view.SiteView.{SiteView}
use Rattle.vx_diskset.specs.Holds.{KeptBeside, beside_of}
use Rattle.vx_diskset.specs.Stands.{SiteStands}
use Rattle.vx_diskset.specs.declared.disk_set.DiskSet.{DiskSet}
use Rattle.vx_effects.proofs.Headers.{count_none}
use Rattle.vx_events.proofs.LinkTesting.{AllLinked, all_linked}
use Rattle.vx_events.proofs.OverSeats.{fact_apart, name_over}
use Rattle.vx_events.proofs.Places.{some_same}
use Rattle.vx_events.proofs.Values.{slice_get-values_from}
use Rattle.vx_events.specs.Facts.{group_by, group_fact, head_of, values_from}
use Rattle.vx_events.specs.GroupLines.{is_over_group}
use Rattle.vx_events.specs.LinkViews.{link_view, link_views, linked_view, marked_from, views_by}
use Rattle.vx_events.specs.LinkedFacts.{link_fact, link_facts, links_by, linked_fact}
use Rattle.vx_events.specs.StepsOver.{fact_over, facts_over}
use Rattle.vx_events.specs.LinksFit.{LinksFit}
use Rattle.vx_events.specs.Views.{group_shown, group_view, name_of}
use Rattle.vx_above.specs.Seen.{group_at, group_seen, link_seen, links_seen, site_seen}
use Rattle.vx_yard.specs.Standing.{StandsFor}
use Rattle.vx_yard.specs.declared.yard.Yard.{Yard}
use Rattle.vx_yard.proofs.NamedSite.{fact_of}

-- behind the last value stands none
past_values : {A : Type 0} (f : ℕ → A) (k n i : ℕ) → n ≤ i → slice_get (values_from f k n) i ≡ None
past_values f k zero i h = refl
past_values f k (suc n) zero h = absurd (omega arith)
past_values f k (suc n) (suc i) h = past_values f (k + 1) n i (omega arith)

-- the name that stands in the facts is that of the world
name_by : (w : World) (i : ℕ) (b : Bool) → nat_lt i w.sites ≡ b → site_name (facts_over w) i ≡ (if b then Known (w.nodes i).name else Number i)
name_by w i true e =
    let start : 0 + i ≡ i = omega arith in
    let inside : i < w.sites = grind (arith, nat_tests) in
    ap (λ (o : Option SiteFacts). name_in o i) (slice_get-values_from (λ j. fact_over w j) 0 w.sites i inside)
    ∙ ap (λ (j : ℕ). Known (fact_over w j).name) start ∙ ap (λ (name : List ℕ). Known name) (name_over w i)
name_by w i false e =
    let past : w.sites ≤ i = grind (arith, nat_tests) in
    ap (λ (o : Option SiteFacts). name_in o i) (past_values (λ j. fact_over w j) 0 w.sites i past)

name_is : (w : World) (i : ℕ) → site_name (facts_over w) i ≡ name_of w i
name_is w i = name_by w i (nat_lt i w.sites) refl

abbrev group_with : Node → ℕ → SiteName → RvgView
group_with n session origin = record {
  role = n.role;
  generation = n.line.generation;
  origin = origin;
  head = head_of n;
  mark = n.mark;
  session = session;
  halted = n.halted;
}

group_is : (w : World) (n : Node) (session : ℕ) → session ≡ n.session → group_seen (facts_over w) session (group_fact n) ≡ group_view w n
group_is w n session is =
    ap (λ (o : SiteName). group_with n session o) (name_is w n.line.origin) ∙ ap (λ (k : ℕ). group_with n k (name_of w n.line.origin)) is

shown_is : (state : SiteState) (w : World) (n : Node) (session : ℕ) → (state ≡ Up → session ≡ n.session) → group_at state (facts_over w) session (group_by state n) ≡ group_shown state w n
shown_is Bare w n session is = refl
shown_is Up w n session is = ap (λ (v : RvgView). Some v) (group_is w n session (is refl))
shown_is Deported w n session is = refl
shown_is Down w n session is = refl

-- a map that marks nothing
none_marked : (marks : Regions) → ((v r : ℕ) → marks v r ≡ false) → (v : ℕ) (xs : List Volume) → marked_from marks v xs ≡ 0
none_marked marks none v [] = refl
none_marked marks none v (x ∷ xs) =
    let here = count_none (regions_of x.blocks) (marks v) (none v) in
    let rest = none_marked marks none (v + 1) xs in
    omega (arith, here, rest)

-- a link
link_is : (w : World) (p s : ℕ) → marked_from (w.links p s).map 0 (w.nodes p).volumes ≡ 0 → link_seen (facts_over w) (link_fact (w.nodes p) s (w.links p s)) ≡ link_view w p s (w.links p s)
link_is w p s none =
    ap (λ (name : SiteName). let v : LinkView = record (link_seen (facts_over w) (link_fact (w.nodes p) s (w.links p s))) { name = name } in v) (name_is w s)
    ∙ ap (λ (k : ℕ). let v : LinkView = record (link_view w p s (w.links p s)) { marked = k } in v) (sym none)

links_are : (w : World) (p : ℕ) → ((s : ℕ) → is_linked (w.links p s) ≡ true → marked_from (w.links p s).map 0 (w.nodes p).volumes ≡ 0) → (ss : List ℕ) → AllLinked (w.links p) ss
    → links_seen (facts_over w) (link_facts (w.nodes p) (w.links p) ss) ≡ link_views w p ss
links_are w p plain [] all = refl
links_are w p plain (s ∷ ss) all =
    ap (λ (v : LinkView). v ∷ links_seen (facts_over w) (link_facts (w.nodes p) (w.links p) ss)) (link_is w p s (plain s all.0))
    ∙ ap (λ (vs : List LinkView). link_view w p s (w.links p s) ∷ vs) (links_are w p plain ss all.1)

by_state : (state : SiteState) (sites : List SiteFacts) (links : List LinkFacts) (views : List LinkView) → links_seen sites links ≡ views → links_seen sites (links_by state links) ≡ views_by state views
by_state Bare sites links views same = refl
by_state Up sites links views same = same
by_state Deported sites links views same = refl
by_state Down sites links views same = refl

-- a view of a site with this group and these links
abbrev view_with : Node → Option RvgView → List LinkView → SiteView
view_with n rvg links = record { name = n.name; state = n.state; disks = []; volumes = []; rvg = rvg; links = links }

seen_is : (d : Doubted) (p session : ℕ) → LinksFit d → ((d.world.nodes p).state ≡ Up → session ≡ (d.world.nodes p).session)
    → site_seen (facts_over d.world) session (linked_fact d.world p) (links_seen (facts_over d.world) (linked_fact d.world p).links) ≡ linked_view d.world p
seen_is d p session fits is =
    let w : World = d.world in
    let n : Node = w.nodes p in
    let sites : List ℕ = linked_sites (w.links p) w.sites 0 w.sites in
    let links = by_state n.state (facts_over w) (link_facts n (w.links p) sites) (link_views w p sites)
    (links_are w p (λ s linked. none_marked (w.links p s).map (λ v r. ((fits.rows p).plain s linked).map v r) 0 n.volumes) sites (all_linked (w.links p) w.sites 0 w.sites)) in
    ap (λ (o : Option RvgView). view_with n o (links_seen (facts_over w) (linked_fact w p).links)) (shown_is n.state w n session is)
    ∙ ap (λ (ls : List LinkView). view_with n (group_shown n.state w n) ls) links

module _ {R : Type 0} {g : Ghosts R} where
  -- what is shown of the facts of a site and of its links is how it stands
  pub linked_view_is : (d : Doubted) (y : Yard R g) (s session : ℕ) (site f : SiteFacts) (links : List LinkView) (disk_set : DiskSet R g) (view : SiteView) → StandsFor d y → s < d.world.sites → is_over_group (d.world.nodes s) ≡ false
      → slice_get y.facts.items s ≡ Some site → slice_get y.facts.items s ≡ Some f → slice_get y.disk_sets.items s ≡ Some disk_set
      → ((beside : KeptBeside) (n : Node) → SiteStands beside n disk_set → n.state ≡ Up → is_over_group n ≡ false → session ≡ n.session)
      → view ≡ site_seen y.facts.items session site links → links ≡ links_seen y.facts.items f.links → view ≡ linked_view d.world s
  linked_view_is d y s session site f links disk_set view stands below apart site_at f_at disk_set_at session_is is links_is =
      let there = fact_of d y s stands below ∙ ap (λ (x : SiteFacts). Some x) (fact_apart d.world s apart) in
      let same : site ≡ linked_fact d.world s = some_same (sym site_at ∙ there) in
      let f_same : f ≡ linked_fact d.world s = some_same (sym f_at ∙ there) in
      is
      ∙ ap (λ (ls : List LinkView). site_seen y.facts.items session site ls) (links_is ∙ ap (λ (x : SiteFacts). links_seen y.facts.items x.links) f_same)
      ∙ ap (λ (x : SiteFacts). site_seen y.facts.items session x (links_seen y.facts.items (linked_fact d.world s).links)) same
      ∙ ap (λ (fs : List SiteFacts). site_seen fs session (linked_fact d.world s) (links_seen fs (linked_fact d.world s).links)) stands.facts
      ∙ seen_is d s session stands.links (λ up. session_is (beside_of d s) (d.world.nodes s) (stands.disk_sets.sites s disk_set below disk_set_at) up apart)
