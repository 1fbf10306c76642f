-- What a line notes of the fuses of two sites, and what that leaves as it is.
use Rattle.std.proofs.Common.{◌≡◌, ◌∙◌, inl, inr, ◌⊎◌, ⊎_elim, ◌+◌, ℕ, zero, suc, List, [], ◌∷◌, refl, ap, sym}
use Rattle.std.specs.Prelude.{Option, if◌then◌else◌}
use Rattle.std.proofs.lemmas.Bool.{cases_eq}
use Rattle.vx_history.proofs.Fuses.{worked_twice}
use Rattle.vx_history.proofs.Updates.{all_updated, at_place}
use Rattle.vx_history.specs.Doubts.{After, Doubted}
use Rattle.vx_history.specs.Events.{linked_sites}
use Rattle.vx_history.specs.Steps.{worked, worked_on}
use Rattle.vx_history.specs.World.{Gathering, Link, Node, Packet, World, updated}
use Rattle.vx_order.specs.declared.facts.LinkFacts.{LinkFacts}
use Rattle.vx_order.specs.declared.facts.RvgFacts.{RvgFacts}
use Rattle.vx_order.specs.declared.facts.SiteFacts.{SiteFacts}
use Rattle.vx_model.specs.declared.site.SiteState.{SiteState}
use Rattle.vx_model.specs.declared.site.SiteState.TheVariants.{Bare, Up, Deported, Down}
use Rattle.vx_events.specs.Effects.{EffectAt}
use Rattle.vx_events.specs.Facts.{group_by, values_from}
use Rattle.vx_events.specs.GroupLines.{is_over_group}
use Rattle.vx_events.specs.GroupNotes.{note_at}
use Rattle.vx_events.specs.LinkedFacts.{link_fact, link_facts, links_by, seen_fact}
use Rattle.vx_events.specs.LinksFit.{LinksFit}
use Rattle.vx_events.specs.StepsOver.{fact_of_group, fact_over, facts_over}
use Rattle.vx_effects.specs.Facts.{fact_of, over_of}
use Rattle.vx_effects.specs.LinkParts.{noted_both}
use Rattle.vx_effects.proofs.Facts.{with_parts}
use Rattle.vx_effects.proofs.Fitting.{updated_other}
use Rattle.vx_effects.proofs.Leaving.{fit_worked}

-- ---- what the tests see

links_burnt : (n : Node) (row : ℕ → Link) (ss : List ℕ) → link_facts (worked n) row ss ≡ link_facts n row ss
links_burnt n row [] = refl
links_burnt n row (s ∷ ss) = ap (λ (fs : List LinkFacts). link_fact n s (row s) ∷ fs) (links_burnt n row ss)

group_burnt : (n : Node) (t : SiteState) → group_by t (worked n) ≡ group_by t n
group_burnt n Bare = refl
group_burnt n Up = refl
group_burnt n Deported = refl
group_burnt n Down = refl

fact_burnt : (n : Node) (row : ℕ → Link) (sites : ℕ) → fact_of (worked n) row sites ≡ fact_of n row sites
fact_burnt n row sites =
    let ss : List ℕ = linked_sites row sites 0 sites in
    ap (λ (fs : List LinkFacts). with_parts (seen_fact n) (group_by n.state (worked n)) (links_by n.state fs)) (links_burnt n row ss)
    ∙ ap (λ (rvg : Option RvgFacts). with_parts (seen_fact n) rvg (links_by n.state (link_facts n row ss))) (group_burnt n n.state)

values_alike : {A : Type 0} (f g : ℕ → A) (k n : ℕ) → ((i : ℕ) → g i ≡ f i) → values_from g k n ≡ values_from f k n
values_alike f g k zero same = refl
values_alike {A} f g k (suc n) same = ap (λ (x : A). x ∷ values_from g (k + 1) n) (same k) ∙ ap (λ (xs : List A). f k ∷ xs) (values_alike f g (k + 1) n same)

pub over_burnt : (n : Node) (row : ℕ → Link) (sites : ℕ) → over_of (worked n) row sites ≡ over_of n row sites
over_burnt n row sites = ap (λ (f : SiteFacts). if is_over_group n then fact_of_group n (note_at n) else f) (fact_burnt n row sites)

pub worked_shows : (w : World) (s : ℕ) → facts_over (worked_on w s) ≡ facts_over w
worked_shows w s =
    values_alike (λ i. fact_over w i) (λ i. fact_over (worked_on w s) i) 0 w.sites
    (λ i. all_updated (λ (j : ℕ) (n : Node). over_of n (w.links j) w.sites ≡ over_of (w.nodes j) (w.links j) w.sites) w.nodes s (worked (w.nodes s)) (over_burnt (w.nodes s) (w.links s) w.sites)
    (λ j _. refl) i)

-- ---- links

pub noted_fits : (d : Doubted) (a b : ℕ) → LinksFit d → LinksFit (noted_both d a b)
noted_fits d a b fit = fit_worked (record d { world = worked_on d.world a }) b (fit_worked d a fit)

-- ---- nodes

module _ (nodes : ℕ → Node) (a b : ℕ) where
  abbrev first : ℕ → Node
  first = updated nodes a (worked (nodes a))

  abbrev both : ℕ → Node
  both = updated first b (worked (first b))

  pub first_here : (s : ℕ) → s ≡ a → first s ≡ worked (nodes s)
  first_here s same = ap first same ∙ at_place nodes a (worked (nodes a)) ∙ ap (λ (i : ℕ). worked (nodes i)) (sym same)

  by_first : (s : ℕ) → worked (first s) ≡ worked (nodes s)
  by_first s = ⊎_elim (λ (same : s ≡ a). ap worked (first_here s same) ∙ worked_twice (nodes s)) (λ apart. ap worked (updated_other nodes a s (worked (nodes a)) apart)) (cases_eq s a)

  second_here : (s : ℕ) → s ≡ b → both s ≡ worked (nodes s)
  second_here s same = ap both same ∙ at_place first b (worked (first b)) ∙ ap (λ (i : ℕ). worked (first i)) (sym same) ∙ by_first s

  pub both_here : (s : ℕ) → (s ≡ a) ⊎ (s ≡ b) → both s ≡ worked (nodes s)
  both_here s (inr same) = second_here s same
  both_here s (inl same) = ⊎_elim (λ (second : s ≡ b). second_here s second) (λ apart. updated_other first b s (worked (first b)) apart ∙ first_here s same) (cases_eq s b)

  pub both_there : (s : ℕ) → (s ≡ a → ⊥) → (s ≡ b → ⊥) → both s ≡ nodes s
  both_there s one two = updated_other first b s (worked (first b)) two ∙ updated_other nodes a s (worked (nodes a)) one

-- sites that are alike are noted alike
both_alike : (nodes new : ℕ → Node) (a b i : ℕ) → new i ≡ nodes i → both new a b i ≡ both nodes a b i
both_alike nodes new a b i same =
    ⊎_elim (λ (one : i ≡ a). both_here new a b i (inl one) ∙ ap worked same ∙ sym (both_here nodes a b i (inl one)))
    (λ none. ⊎_elim (λ (two : i ≡ b). both_here new a b i (inr two) ∙ ap worked same ∙ sym (both_here nodes a b i (inr two)))
    (λ never. both_there new a b i none never ∙ same ∙ sym (both_there nodes a b i none never)) (cases_eq i b)) (cases_eq i a)

pub noted_effect : (d e : Doubted) (a b s : ℕ) (n : Node) (row : ℕ → Link) (many : ℕ) (doubt : Option After) (packets : List Packet) (gathered : Option Gathering) → (s ≡ a) ⊎ (s ≡ b)
    → EffectAt s d e n row many doubt packets gathered → EffectAt s (noted_both d a b) (noted_both e a b) (worked n) row many doubt packets gathered
noted_effect d e a b s n row many doubt packets gathered one f = record {
  site = record {
    sites = f.site.sites;
    nodes = λ i apart. both_alike d.world.nodes e.world.nodes a b i (f.site.nodes i apart);
    links = f.site.links;
    headers = f.site.headers;
    after = f.site.after;
    strayed = f.site.strayed;
    gathering = f.site.gathering;
  };
  is = record { node = both_here e.world.nodes a b s one ∙ ap worked f.is.node; links = f.is.links; headers = f.is.headers; after = f.is.after };
  sent = f.sent;
  gathering = f.gathering;
}
