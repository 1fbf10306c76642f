-- What the tests of a line see of a site that may be over a group: it stands under the same number and name, and only one that is over none shows a
-- replicated volume group.
use Rattle.std.proofs.Common.{◌≡◌, ◌∙◌, ℕ, zero, suc, ◌+◌, Bool, true, false, List, [], refl, ap, sym}
use Rattle.std.specs.Prelude.{Option, Some, None, cond, if◌then◌else◌}
use Rattle.std.specs.List.{position_from}
use Rattle.std.specs.Str.{bytes_eq}
use Rattle.std.proofs.lemmas.Iterator.Adapters.{position_from-zero}
use Rattle.vx_model.specs.Sites.{is_up}
use Rattle.vx_history.specs.World.{World}
use Rattle.vx_order.specs.Sites.{rvg_of}
use Rattle.vx_order.specs.declared.facts.RvgFacts.{RvgFacts}
use Rattle.vx_order.specs.declared.facts.SiteFacts.{SiteFacts}
use Rattle.vx_events.specs.Facts.{facts_of, seat_of, site_fact, values_from}
use Rattle.vx_events.specs.GroupLines.{is_over_group}
use Rattle.vx_events.specs.GroupNotes.{note_at}
use Rattle.vx_events.specs.LinkedFacts.{linked_fact}
use Rattle.vx_events.specs.StepsOver.{fact_of_group, fact_over, facts_over}

-- a site that is over no group is seen as it is beside no group
pub fact_apart : (w : World) (i : ℕ) → is_over_group (w.nodes i) ≡ false → fact_over w i ≡ linked_fact w i
fact_apart w i none = ap (λ (b : Bool). if b then fact_of_group (w.nodes i) (note_at (w.nodes i)) else linked_fact w i) none

-- and one over a group by what is noted of it
pub fact_grouped : (w : World) (i : ℕ) → is_over_group (w.nodes i) ≡ true → fact_over w i ≡ fact_of_group (w.nodes i) (note_at (w.nodes i))
fact_grouped w i over = ap (λ (b : Bool). if b then fact_of_group (w.nodes i) (note_at (w.nodes i)) else linked_fact w i) over

-- a site whose replicated volume group passes a test is over no group
pub apart_shown : (w : World) (i : ℕ) (tests : Option RvgFacts → Bool) → tests None ≡ false → tests (rvg_of (Some (fact_over w i))) ≡ true → is_over_group (w.nodes i) ≡ false
apart_shown w i tests none shows = by (is_over_group (w.nodes i)) refl shows
  where
    none_of : (u : Bool) → (let o : Option RvgFacts = (if u then None else None) in o) ≡ None
    none_of true = refl
    none_of false = refl

    never : true ≡ false → ⊥
    never e = absurd (cc)

    by : (b : Bool) → is_over_group (w.nodes i) ≡ b → tests (rvg_of (Some (if b then fact_of_group (w.nodes i) (note_at (w.nodes i)) else linked_fact w i))) ≡ true
        → is_over_group (w.nodes i) ≡ false
    by true is e = absurd (never (sym e ∙ ap tests (none_of (is_up (w.nodes i).state)) ∙ none))
    by false is e = is

-- and so is one that shows links
pub apart_linked : (w : World) (i : ℕ) → ((fact_over w i).links ≡ [] → ⊥) → is_over_group (w.nodes i) ≡ false
apart_linked w i some = by (is_over_group (w.nodes i)) refl some
  where
    by : (b : Bool) → is_over_group (w.nodes i) ≡ b → ((if b then fact_of_group (w.nodes i) (note_at (w.nodes i)) else linked_fact w i).links ≡ [] → ⊥) → is_over_group (w.nodes i) ≡ false
    by true is never = absurd (never refl)
    by false is never = is

-- what is read of one of two values of which it is the same
pub of_either : {A : Type 0} (read : SiteFacts → A) (b : Bool) (f k : SiteFacts) (x : A) → read f ≡ x → read k ≡ x → read (if b then f else k) ≡ x
of_either read true f k x first second = first
of_either read false f k x first second = second

module _ (w : World) (i : ℕ) where
  -- what the tests see of each site alike
  pub over_reads : {A : Type 0} (read : SiteFacts → A) (x : A) → read (fact_of_group (w.nodes i) (note_at (w.nodes i))) ≡ x → read (linked_fact w i) ≡ x → read (fact_over w i) ≡ x
  over_reads read x first second = of_either read (is_over_group (w.nodes i)) (fact_of_group (w.nodes i) (note_at (w.nodes i))) (linked_fact w i) x first second

  pub name_over : (fact_over w i).name ≡ (w.nodes i).name
  name_over = over_reads (λ (f : SiteFacts). f.name) (w.nodes i).name refl refl

seats_from : (w : World) (name : List ℕ) (j k n : ℕ)
    → position_from (λ (site : SiteFacts). bytes_eq site.name name) j (values_from (λ i. fact_over w i) k n) ≡ position_from (λ (site : SiteFacts). bytes_eq site.name name) j (values_from (λ i. site_fact (w.nodes i)) k n)
seats_from w name j k zero = refl
seats_from w name j k (suc n) =
    ap (λ (x : List ℕ). cond (bytes_eq x name) (Some j) (position_from (λ (site : SiteFacts). bytes_eq site.name name) (j + 1) (values_from (λ i. fact_over w i) (k + 1) n))) (name_over w k)
    ∙ ap (λ (o : Option ℕ). cond (bytes_eq (w.nodes k).name name) (Some j) o) (seats_from w name (j + 1) (k + 1) n)

-- the number of the site of a name
pub seats_over : (w : World) (name : List ℕ) → seat_of (facts_over w) name ≡ seat_of (facts_of w) name
seats_over w name =
    position_from-zero (λ (site : SiteFacts). bytes_eq site.name name) (facts_over w) ∙ seats_from w name 0 0 w.sites
    ∙ sym (position_from-zero (λ (site : SiteFacts). bytes_eq site.name name) (facts_of w))
