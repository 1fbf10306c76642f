-- The blocks of a log that the links need which its header keeps.
use Rattle.std.proofs.Common.{◌≡◌, ◌∙◌, ◌<◌, ◌≤◌, ◌+◌, ◌⊎◌, ℕ, Bool, true, false, List, [], ◌∷◌, length, ap, sym, subst, refl, arith, ⊎_elim}
use Rattle.std.specs.Prelude.{Option, Some, None, ◌&&◌, drop, if◌then◌else◌, slice_get, slice_set, IfSome}
use Rattle.std.proofs.lemmas.Bool.{cases_eq}
use Rattle.std.proofs.lemmas.Option.{slice_get_within}
use Rattle.vx_history.specs.Events.{logged_blocks}
use Rattle.vx_history.specs.World.{Node}
use Rattle.vx_model.specs.declared.state.KeptLink.{KeptLink}
use Rattle.vx_model.specs.declared.state.KeptMode.{KeptMode}
use Rattle.vx_model.specs.declared.state.KeptMode.TheVariants.{Log, Dcm, Replay, Fork, Stale}
use Rattle.vx_diskset.specs.Needs.{hold_of, is_needing}
use Rattle.vx_events.proofs.Places.{some_same}
use Rattle.vx_model.specs.declared.state.State.{State}
use Rattle.vx_diskset.specs.Holds.{state_with}
use Rattle.vx_site_lines.specs.Rises.{AreNeeds, IsNeed, IsRisen, NeedsBelow, can_rise, is_by_log, link_needs, risen_facts}
use Rattle.vx_effects.specs.Restarts.{facts_again}
use Rattle.vx_order.specs.declared.facts.LinkFacts.{LinkFacts}
use Rattle.vx_order.specs.declared.facts.SiteFacts.{SiteFacts}
use Rattle.vx_yard.specs.Changes.{up_facts}
use Rattle.vx_yard.proofs.Lists.{get-set_other, get-set_same, length-set, set_twice}
use Rattle.vx_model.specs.declared.limits.TheConstants.{LINK_PLACES}

-- one that needs nothing, and one that needs what is above its hold
pub need_none : (n : Node) (l : KeptLink) (b : Bool) → b ≡ (l.attached && is_by_log l.mode) → b ≡ false → IsNeed n l 0
need_none n l b is none = record { is = sym (ap (λ (x : Bool). if x then logged_blocks (drop l.stored n.log) else 0) (sym is ∙ none)) }

pub need_some : (n : Node) (l : KeptLink) (b : Bool) (blocks : ℕ) → b ≡ (l.attached && is_by_log l.mode) → b ≡ true → blocks ≡ logged_blocks (drop l.stored n.log) → blocks ≡ link_needs n l
need_some n l b blocks is some used = used ∙ sym (ap (λ (x : Bool). if x then logged_blocks (drop l.stored n.log) else 0) (sym is ∙ some))

pub need_if : (n : Node) (l : KeptLink) (b : Bool) (r : Option ℕ) → b ≡ (l.attached && is_by_log l.mode) → b ≡ true → IfSome r (λ blocks. blocks ≡ logged_blocks (drop l.stored n.log))
    → IfSome r (λ blocks. IsNeed n l blocks)
need_if n l b None is some used = tt
need_if n l b (Some blocks) is some used = record { is = need_some n l b blocks is some used }

-- such a link holds the log, from what it stored on
holds_in : (l : KeptLink) (m : KeptMode) → l.mode ≡ m → (l.attached && is_by_log m) ≡ true → (is_needing l ≡ true) × (l.stored ≡ hold_of l)
holds_in l Log is e =
    let with_mode : KeptMode → KeptLink = λ m. record l { mode = m } in
    (ap (λ (m : KeptMode). is_needing (with_mode m)) is ∙ e, sym (ap (λ (m : KeptMode). hold_of (with_mode m)) is))
holds_in l Dcm is e = absurd (none l.attached e)
  where
    none : (b : Bool) → (b && false) ≡ true → ⊥
    none true f = cc
    none false f = cc
holds_in l Replay is e = absurd (none l.attached e)
  where
    none : (b : Bool) → (b && false) ≡ true → ⊥
    none true f = cc
    none false f = cc
holds_in l Fork is e = absurd (none l.attached e)
  where
    none : (b : Bool) → (b && false) ≡ true → ⊥
    none true f = cc
    none false f = cc
holds_in l Stale is e = absurd (none l.attached e)
  where
    none : (b : Bool) → (b && false) ≡ true → ⊥
    none true f = cc
    none false f = cc

pub holds_log : (l : KeptLink) (b : Bool) → b ≡ (l.attached && is_by_log l.mode) → b ≡ true → (is_needing l ≡ true) × (l.stored ≡ hold_of l)
holds_log l b is some = holds_in l l.mode refl (sym is ∙ some)

-- ---- the places of their needs

pub needs_none : (n : Node) (links : List KeptLink) (used : List ℕ) → NeedsBelow n links used 0
needs_none n links used = record { each = λ j l less at. absurd (omega (arith, less)) }

pub needs_more : (n : Node) (links : List KeptLink) (used : List ℕ) (k : ℕ) (x : KeptLink) (blocks : ℕ) → k < length used → slice_get links k ≡ Some x → IsNeed n x blocks → NeedsBelow n links used k
    → NeedsBelow n links (slice_set used k blocks) (k + 1)
needs_more n links used k x blocks inside there is below = record {
  each = λ j l less at. ⊎_elim
      (λ (same : j ≡ k).
      let here : x ≡ l = some_same (sym there ∙ ap (slice_get links) (sym same) ∙ at) in
      ap (slice_get (slice_set used k blocks)) same ∙ get-set_same used k blocks inside ∙ ap (λ (b : ℕ). Some b) (is.is ∙ ap (link_needs n) here))
      (λ apart. get-set_other used k j blocks apart ∙ below.each j l (nearer j k less apart) at)
      (cases_eq j k);
}
  where
    nearer : (j k : ℕ) → j < k + 1 → (j ≡ k → ⊥) → j < k
    nearer j k less apart = grind arith

pub needs_all : (n : Node) (links : List KeptLink) (used : List ℕ) (k : ℕ) → k ≡ length links → NeedsBelow n links used k → AreNeeds n links used
needs_all n links used k all below = record { each = λ j l at. below.each j l (omega (arith, slice_get_within links j l at, all)) at }

-- what was answered
pub need_got : (n : Node) (l : KeptLink) (r : Option ℕ) (blocks : ℕ) → r ≡ Some blocks → IfSome r (λ b. IsNeed n l b) → IsNeed n l blocks
need_got n l r blocks is h = subst (λ (x : Option ℕ). IfSome x (λ b. IsNeed n l b)) is h

-- a site may rise with what its log keeps where it may with the links that it has
pub rises_with : (s sites : ℕ) (n : Node) (links : List KeptLink) (state : State) → state ≡ state_with n state.links → state.links ≡ links → can_rise s sites (state_with n links) ≡ true → can_rise s sites state ≡ true
rises_with s sites n links state is same may = ap (λ st. can_rise s sites st) (is ∙ ap (λ ls. state_with n ls) same) ∙ may

-- what rose, of a copy of what its log keeps
pub risen_copy : (s sites : ℕ) (n : Node) (state copied : State) (links : List KeptLink) (used : List ℕ) → copied ≡ state → state ≡ state_with n state.links → true ≡ can_rise s sites state → links ≡ state.links
    → AreNeeds n links used → IsRisen s sites n copied used
risen_copy s sites n state copied links used same is may at needs = subst (λ st. IsRisen s sites n st used) (sym same) (record {
  kept = is;
  may = sym may;
  needs = subst (λ ls. AreNeeds n ls used) at needs;
})

-- what holds of the element of a place, in whichever way it was got
pub of_place : {A : Type 0} (P : A → Type 0) (xs : List A) (i : ℕ) (x y : A) → slice_get xs i ≡ Some y → slice_get xs i ≡ Some x → P x → P y
of_place P xs i x y there at h = subst P (some_same (sym at ∙ there)) h

-- what the tests see of a site that came up, where its links are taken in behind it
pub noted_risen : (fs : List SiteFacts) (s : ℕ) (f before stood again : SiteFacts) (state : State) (last ring : ℕ) (used : List ℕ) (links : List LinkFacts) → s < length fs → slice_get fs s ≡ Some f
    → slice_get fs s ≡ Some before → stood ≡ up_facts state last ring before → slice_get (slice_set fs s stood) s ≡ Some again → links ≡ facts_again state.links used
    → slice_set (slice_set fs s stood) s (record again { links = links }) ≡ slice_set fs s (risen_facts state last ring used f)
noted_risen fs s f before stood again state last ring used links below at first is second found = set_twice fs s stood (record again { links = links })
    ∙ ap (λ (x : SiteFacts). slice_set fs s (record x { links = links }))
    (some_same (sym second ∙ get-set_same fs s stood below) ∙ is ∙ ap (λ (x : SiteFacts). up_facts state last ring x) (some_same (sym first ∙ at)))
    ∙ ap (λ (ls : List LinkFacts). slice_set fs s (record (up_facts state last ring f) { links = ls })) found

few_again : (ls : List KeptLink) (us : List ℕ) → length (facts_again ls us) ≤ length ls
few_again [] us = omega arith
few_again (l ∷ ls) [] = omega arith
few_again (l ∷ ls) (u ∷ us) = omega (arith, few_again ls us)

-- a site that came up has as many places of links as any
pub risen_many : (fs gs : List SiteFacts) (s : ℕ) (x : SiteFacts) → s < length fs → gs ≡ slice_set fs s x → s < length gs
risen_many fs gs s x below is = omega (arith, below, length-set fs s x, ap length is)

pub risen_few : (fs gs : List SiteFacts) (s : ℕ) (f f2 : SiteFacts) (state : State) (last ring : ℕ) (used : List ℕ) → s < length fs → gs ≡ slice_set fs s (risen_facts state last ring used f) → slice_get gs s ≡ Some f2
    → length state.links ≤ LINK_PLACES → length f2.links ≤ LINK_PLACES
risen_few fs gs s f f2 state last ring used below is at few =
    let same = some_same (sym at ∙ ap (λ xs. slice_get xs s) is ∙ get-set_same fs s (risen_facts state last ring used f) below) in
    omega (arith, ap (λ (x : SiteFacts). length x.links) same, few_again state.links used, few)

places : LINK_PLACES ≡ 8
places = refl

pub few_places : (n : ℕ) → n ≤ 4 → n ≤ LINK_PLACES
few_places n few = omega (arith, places, few)
