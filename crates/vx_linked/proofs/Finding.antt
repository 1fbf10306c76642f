-- The link that a line names is found where no test refuses the line.
use Rattle.std.proofs.Common.{◌≡◌, ◌∙◌, ℕ, List, Bool, true, ap, sym, subst, refl}
use Rattle.std.specs.Prelude.{Option, Some, None, IsSome, not, is_some, slice_get, slice_set, if◌then◌else◌}
use Rattle.std.specs.List.{find}
use Rattle.std.specs.Str.{bytes_eq}
use Rattle.std.proofs.lemmas.List.Folds.{find_at}
use Rattle.vx_history.specs.Refusals.{keeps_links}
use Rattle.vx_history.specs.World.{World}
use Rattle.vx_model.specs.Sites.{is_up}
use Rattle.vx_model.specs.declared.no.No.TheVariants.{Down as NotUp, Role as WrongRole}
use Rattle.vx_order.specs.Asks.{ask_of}
use Rattle.vx_order.specs.Links.{link_to, link_towards, place_named}
use Rattle.vx_order.specs.Sending.{not_linked, sends}
use Rattle.vx_order.specs.Sites.{halted_one, rvg_of, site_named, site_off, unknown_one}
use Rattle.vx_order.specs.Subject.{first_name, halt_of, need_of, second_name}
use Rattle.vx_order.specs.Tests.{when}
use Rattle.vx_order.specs.declared.facts.LinkFacts.{LinkFacts}
use Rattle.vx_order.specs.declared.facts.SiteFacts.{SiteFacts}
use Rattle.vx_script.specs.declared.line.ScriptLine.TheVariants.{Connect, Cut, Pause, Pump, Resume, Tick}
use Rattle.vx_events.specs.Facts.{seat_of}
use Rattle.vx_events.specs.StepsOver.{facts_over}
use Rattle.vx_events.proofs.LinkTesting.{OnLink, linked_none, on_link_by}
use Rattle.vx_events.proofs.Places.{some_same}
use Rattle.vx_events.proofs.Refused.{FoundAt, found_at, named, not_false, passes, when_none}
use Rattle.vx_linked.specs.Tables.{FoundLink, IsUnrefused, leads_to, place_to, relinked, site_relinked}
use Rattle.vx_linked.proofs.Shown.{first_place}

-- what no test refuses of a line that turns a link
pub record Tested (sites : List SiteFacts) (from to : List ℕ) : Type 0 where
  pub known : unknown_one (Some from) (site_named sites from) ≡ None
  pub other : unknown_one (Some to) (site_named sites to) ≡ None
  pub up : when (site_off (site_named sites from)) NotUp ≡ None
  pub running : halted_one (site_named sites from) ≡ None
  pub role : when (not (sends (rvg_of (site_named sites from)))) WrongRole ≡ None
  pub linked : not_linked (link_towards (site_named sites from) (place_named sites (Some to))) (site_named sites to) ≡ None

pub connect_tested : (sites : List SiteFacts) (from to : List ℕ) → IsUnrefused sites (Connect from to) → Tested sites from to
unfolding first_name second_name need_of halt_of ask_of
connect_tested sites from to free =
    let t = passes sites free.0 (Connect from to) free.1 in
    record { known = t.known; other = t.other_known; up = t.up; running = t.running; role = t.link_role; linked = t.link }

pub cut_tested : (sites : List SiteFacts) (from to : List ℕ) → IsUnrefused sites (Cut from to) → Tested sites from to
unfolding first_name second_name need_of halt_of ask_of
cut_tested sites from to free =
    let t = passes sites free.0 (Cut from to) free.1 in
    record { known = t.known; other = t.other_known; up = t.up; running = t.running; role = t.link_role; linked = t.link }

pub pause_tested : (sites : List SiteFacts) (from to : List ℕ) → IsUnrefused sites (Pause from to) → Tested sites from to
unfolding first_name second_name need_of halt_of ask_of
pause_tested sites from to free =
    let t = passes sites free.0 (Pause from to) free.1 in
    record { known = t.known; other = t.other_known; up = t.up; running = t.running; role = t.link_role; linked = t.link }

pub resume_tested : (sites : List SiteFacts) (from to : List ℕ) → IsUnrefused sites (Resume from to) → Tested sites from to
unfolding first_name second_name need_of halt_of ask_of
resume_tested sites from to free =
    let t = passes sites free.0 (Resume from to) free.1 in
    record { known = t.known; other = t.other_known; up = t.up; running = t.running; role = t.link_role; linked = t.link }

pub tick_tested : (sites : List SiteFacts) (from to : List ℕ) → IsUnrefused sites (Tick from to) → Tested sites from to
unfolding first_name second_name need_of halt_of ask_of
tick_tested sites from to free =
    let t = passes sites free.0 (Tick from to) free.1 in
    record { known = t.known; other = t.other_known; up = t.up; running = t.running; role = t.link_role; linked = t.link }

pub pump_tested : (sites : List SiteFacts) (from to : List ℕ) → IsUnrefused sites (Pump from to) → Tested sites from to
unfolding first_name second_name need_of halt_of ask_of
pump_tested sites from to free =
    let t = passes sites free.0 (Pump from to) free.1 in
    record { known = t.known; other = t.other_known; up = t.up; running = t.running; role = t.link_role; linked = t.link }

pub seat_found : (sites : List SiteFacts) (name : List ℕ) → unknown_one (Some name) (site_named sites name) ≡ None → IsSome (seat_of sites name)
seat_found sites name known = ap (λ (o : Option ℕ). is_some o) (named sites name known).at.is

-- the site of a name stands in its place
pub seat_named : (sites : List SiteFacts) (name : List ℕ) (k : ℕ) → seat_of sites name ≡ Some k → site_named sites name ≡ slice_get sites k
seat_named sites name k is =
    find_at (λ (site : SiteFacts). bytes_eq site.name name) sites
    ∙ ap (slice_get sites) (sym (first_place (λ (site : SiteFacts). bytes_eq site.name name) sites k is))

pub found : (sites : List SiteFacts) (from to : List ℕ) → Tested sites from to → FoundLink sites from to
found sites from to t =
    let a = named sites from t.known in
    let b = named sites to t.other in
    let up : is_up a.facts.state ≡ true
    = not_false (is_up a.facts.state) (when_none (not (is_up a.facts.state)) NotUp (subst (λ (o : Option SiteFacts). when (site_off o) NotUp ≡ None) a.found t.up)) in
    let towards : not_linked (link_towards (Some a.facts) (Some b.at.place)) (Some b.facts) ≡ None
    = subst (λ (o : Option SiteFacts). not_linked (link_towards (Some a.facts) (Some b.at.place)) o ≡ None) b.found
    (subst (λ (o : Option ℕ). not_linked (link_towards (Some a.facts) o) (site_named sites to) ≡ None) b.at.is
    (subst (λ (o : Option SiteFacts). not_linked (link_towards o (place_named sites (Some to))) (site_named sites to) ≡ None) a.found t.linked)) in
    let among : not_linked (find (leads_to b.at.place) a.facts.links) (Some b.facts) ≡ None
    = subst (λ (c : Bool). not_linked (if c then link_to a.facts.links (Some b.at.place) else None) (Some b.facts) ≡ None) up towards in
    let l = linked_none (find (leads_to b.at.place) a.facts.links) b.facts among in
    let at : FoundAt (leads_to b.at.place) a.facts.links l.0 = found_at (leads_to b.at.place) a.facts.links l.0 l.1 in
    record {
      here = a.at.place;
      there = b.at.place;
      site = a.facts;
      place = at.place;
      link = l.0;
      first = a.at.is;
      second = b.at.is;
      site_is = a.at.there;
      place_is = at.is;
      link_is = at.there;
    }

-- what the tests see of a world
pub on_link : (w : World) (from to : List ℕ) → Tested (facts_over w) from to → OnLink w from to keeps_links
on_link w from to t = on_link_by w from to sends keeps_links (λ n. refl) refl t.known t.other t.up t.running t.role t.linked

-- the link of that place changed, in the site of that place
pub changed_so : (g : LinkFacts → LinkFacts) (old : List SiteFacts) (from to : List ℕ) (f : FoundLink old from to) (here there place : ℕ) (site new : SiteFacts)
    → seat_of old from ≡ Some here → seat_of old to ≡ Some there → slice_get old here ≡ Some site → place_to there site.links ≡ Some place
    → ((l : LinkFacts) → slice_get site.links place ≡ Some l → new ≡ site_relinked site place (g l))
    → (at : FoundLink old from to) × (slice_set old here new ≡ relinked old at.here at.site at.place (g at.link))
changed_so g old from to f here there place site new first second at placed turns =
    let same_here : f.here ≡ here = some_same (sym f.first ∙ first) in
    let same_there : f.there ≡ there = some_same (sym f.second ∙ second) in
    let same_site : f.site ≡ site = some_same (sym f.site_is ∙ ap (slice_get old) same_here ∙ at) in
    let same_place : f.place ≡ place = some_same (sym f.place_is ∙ ap (λ (k : ℕ). place_to k f.site.links) same_there ∙ ap (λ (s : SiteFacts). place_to there s.links) same_site ∙ placed) in
    let link_is : slice_get site.links place ≡ Some f.link = ap (λ (s : SiteFacts). slice_get s.links place) (sym same_site) ∙ ap (slice_get f.site.links) (sym same_place) ∙ f.link_is in (
      record { here = here; there = there; site = site; place = place; link = f.link; first = first; second = second; site_is = at; place_is = placed; link_is = link_is },
      ap (slice_set old here) (turns f.link link_is),
    )

-- a line names one link
pub one_link : (old : List SiteFacts) (from to : List ℕ) (f : FoundLink old from to) (here there place : ℕ) (site : SiteFacts) (l : LinkFacts) → seat_of old from ≡ Some here → seat_of old to ≡ Some there
    → slice_get old here ≡ Some site → place_to there site.links ≡ Some place → slice_get site.links place ≡ Some l → l ≡ f.link
one_link old from to f here there place site l first second at placed is =
    let same_here : f.here ≡ here = some_same (sym f.first ∙ first) in
    let same_there : f.there ≡ there = some_same (sym f.second ∙ second) in
    let same_site : f.site ≡ site = some_same (sym f.site_is ∙ ap (slice_get old) same_here ∙ at) in
    let same_place : f.place ≡ place = some_same (sym f.place_is ∙ ap (λ (k : ℕ). place_to k f.site.links) same_there ∙ ap (λ (s : SiteFacts). place_to there s.links) same_site ∙ placed) in
    some_same (sym is ∙ ap (λ (s : SiteFacts). slice_get s.links place) (sym same_site) ∙ ap (slice_get f.site.links) (sym same_place) ∙ f.link_is)
