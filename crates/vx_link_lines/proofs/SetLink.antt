-- A line that gives a link another setting, over the log of its site.
use Rattle.std.proofs.Common.{◌≡◌, ◌∙◌, ◌⊎◌, inl, inr, ⊎_elim, ◌≤◌, ℕ, zero, suc, Bool, true, false, List, [], ◌∷◌, ap, sym, subst, refl, arith}
use Rattle.std.specs.Prelude.{Option, Some, None, IfSome, slice_get, eqb, if◌then◌else◌}
use Rattle.vx_history.proofs.Updates.{at_place, eqb_equal}
use Rattle.vx_history.specs.Events.{linked_sites}
use Rattle.vx_history.specs.KeptLinks.{kept_link, kept_links}
use Rattle.vx_history.specs.Refusals.{Outcome}
use Rattle.vx_history.specs.Step.{step}
use Rattle.vx_history.specs.World.{Link, Node, World, updated}
use Rattle.vx_history.specs.declared.event.Event.TheVariants.{Set as SetAt}
use Rattle.vx_history.specs.declared.event.Said.TheVariants.{Done as IsDone}
use Rattle.vx_model.specs.declared.link.Prot.TheVariants.{Fail as FailsWhenFull}
use Rattle.vx_model.specs.declared.link.SyncMode.{SyncMode}
use Rattle.vx_model.specs.declared.state.KeptLink.{KeptLink}
use Rattle.vx_model.specs.declared.state.State.{State}
use Rattle.vx_order.specs.declared.facts.LinkFacts.{LinkFacts}
use Rattle.vx_diskset.specs.Holds.{header_links, row_links}
use Rattle.vx_diskset.specs.Keeps.{Suffices}
use Rattle.vx_diskset.specs.Needs.{hold_of, is_needing}
use Rattle.vx_effects.proofs.LinkRows.{changed_kept}
use Rattle.vx_effects.specs.LinkParts.{kept_over}
use Rattle.vx_events.proofs.Places.{some_same}
use Rattle.vx_events.specs.LinkedFacts.{link_fact}
use Rattle.vx_linked.proofs.PartFacts.{set_done, sets}
use Rattle.vx_linked.specs.Making.{kept_plain, set_link}

-- ---- the links that the header keeps

pub set_links : (w : World) (p s : ℕ) (sync : SyncMode) (l : LinkFacts) → (step w (SetAt p s sync FailsWhenFull)).said ≡ IsDone → l ≡ link_fact (w.nodes p) s (w.links p s)
    → kept_over (kept_plain (set_link l.link sync)) (kept_links (w.links p) (linked_sites (w.links p) w.sites 0 w.sites)) ≡ header_links (step w (SetAt p s sync FailsWhenFull)).world p
set_links w p s sync l said is =
    ap (λ (x : LinkFacts). kept_over (kept_plain (set_link x.link sync)) (kept_links (w.links p) (linked_sites (w.links p) w.sites 0 w.sites))) is
    ∙ sym (changed_kept (w.links p) w.sites s (sets w p s sync) refl)
    ∙ sym (ap (λ (row : ℕ → Link). row_links row w.sites) (at_place w.links p (updated (w.links p) s (sets w p s sync))))
    ∙ sym (ap (λ (o : Outcome). header_links o.world p) (set_done w p s sync said).2)

-- ---- a link that stands in a header needs what it needed

-- each link of the list with one put over is one of before, or the one that was put there
over_get : (x : KeptLink) (ls : List KeptLink) (k : ℕ) (l : KeptLink) → slice_get (kept_over x ls) k ≡ Some l → (o : KeptLink) × (slice_get ls k ≡ Some o) × ((l ≡ o) ⊎ ((o.site ≡ x.site) × (l ≡ x)))
over_get x [] k l is = absurd (cc)
over_get x (o ∷ ls) zero l is = (o, refl, by (eqb o.site x.site) (eqb_equal o.site x.site) is)
  where
    by : (b : Bool) → (b ≡ true → o.site ≡ x.site) → Some (if b then x else o) ≡ Some l → (l ≡ o) ⊎ ((o.site ≡ x.site) × (l ≡ x))
    by true same e = inr (same refl, sym (some_same e))
    by false same e = inl (sym (some_same e))
over_get x (o ∷ ls) (suc k) l is = over_get x ls k l is

-- what a header keeps of a row
kept_get : (row : ℕ → Link) (ss : List ℕ) (k : ℕ) (o : KeptLink) → slice_get (kept_links row ss) k ≡ Some o → o ≡ kept_link o.site (row o.site)
kept_get row [] k o is = absurd (cc)
kept_get row (s ∷ ss) zero o is = subst (λ (x : KeptLink). x ≡ kept_link x.site (row x.site)) (some_same is) refl
kept_get row (s ∷ ss) (suc k) o is = kept_get row ss k o is

-- a link put over another one of its site needs no more than that, or nothing that is not durable
pub needs_over : (n : Node) (row : ℕ → Link) (ss : List ℕ) (s : ℕ) (x : KeptLink) → x.site ≡ s
    → (is_needing x ≡ true → (n.safe ≤ hold_of x) ⊎ ((is_needing (kept_link s (row s)) ≡ true) × (hold_of (kept_link s (row s)) ≤ hold_of x)))
    → (k : ℕ) (l : KeptLink) → slice_get (kept_over x (kept_links row ss)) k ≡ Some l → is_needing l ≡ true → Suffices (kept_links row ss) n l
needs_over n row ss s x site no_more k l is needs =
    let r = over_get x (kept_links row ss) k l is in
    ⊎_elim
    (λ (same : l ≡ r.0). inr (k, (r.0, (r.1, (subst (λ (y : KeptLink). is_needing y ≡ true) same needs, subst (λ (y : KeptLink). hold_of r.0 ≤ hold_of y) (sym same) (omega arith))))))
    (λ (other : (r.0.site ≡ x.site) × (l ≡ x)).
    let there : r.0 ≡ kept_link s (row s) = kept_get row ss k r.0 r.1 ∙ ap (λ (j : ℕ). kept_link j (row j)) (other.0 ∙ site) in
    ⊎_elim
    (λ (durable : n.safe ≤ hold_of x). inl (subst (λ (y : KeptLink). n.safe ≤ hold_of y) (sym other.1) durable))
    (λ (less : (is_needing (kept_link s (row s)) ≡ true) × (hold_of (kept_link s (row s)) ≤ hold_of x)).
    inr (
      k,
      (
        r.0,
        (
          r.1,
          (
            subst (λ (y : KeptLink). is_needing y ≡ true) (sym there) less.0,
            subst (λ (y : KeptLink). hold_of y ≤ hold_of l) (sym there) (subst (λ (y : KeptLink). hold_of (kept_link s (row s)) ≤ hold_of y) (sym other.1) less.1),
          ),
        ),
      ),
    ))
    (no_more (subst (λ (y : KeptLink). is_needing y ≡ true) other.1 needs)))
    r.2

-- a setting changes nothing of what a link needs
pub set_needs : (w : World) (p s : ℕ) (sync : SyncMode) (n : Node) → (step w (SetAt p s sync FailsWhenFull)).said ≡ IsDone
    → (k : ℕ) (l : KeptLink) → slice_get (header_links (step w (SetAt p s sync FailsWhenFull)).world p) k ≡ Some l → is_needing l ≡ true → Suffices (header_links w p) n l
set_needs w p s sync n said k l is needs =
    needs_over n (w.links p) (linked_sites (w.links p) w.sites 0 w.sites) s (kept_plain (set_link (link_fact (w.nodes p) s (w.links p s)).link sync)) refl
    (λ needing. inr (needing, omega arith)) k l
    (ap (λ (ls : List KeptLink). slice_get ls k) (set_links w p s sync (link_fact (w.nodes p) s (w.links p s)) said refl) ∙ is) needs

pub state_so : (o : Option State) (a b : State) → a ≡ b → IfSome o (λ x. x ≡ a) → IfSome o (λ x. x ≡ b)
state_so None a b same is = tt
state_so (Some x) a b same is = is ∙ same
