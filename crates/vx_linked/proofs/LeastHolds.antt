-- The numbers that the links of a site need, and those that a write waits for.
use Rattle.std.proofs.Common.{◌≡◌, ◌∙◌, ◌⊎◌, inl, inr, ⊎_elim, ◌≤◌, ℕ, zero, suc, List, [], ◌∷◌, Bool, true, false, ap, subst, refl, arith}
use Rattle.std.proofs.lemmas.Bool.{and_parts}
use Rattle.std.specs.Prelude.{◌&&◌, ◌||◌, min, Some, slice_get, if◌then◌else◌}
use Rattle.std.specs.List.{list_any}
use Rattle.vx_model.proofs.Tests.{or_true}
use Rattle.vx_order.specs.Sending.{last_number}
use Rattle.vx_history.specs.Admission.{hold, is_holding}
use Rattle.vx_history.specs.Events.{linked_sites}
use Rattle.vx_history.specs.Listed.{AreListed, IsAmong}
use Rattle.vx_history.specs.Refusals.{is_waited_for, some_below}
use Rattle.vx_history.specs.Sends.{is_linked}
use Rattle.vx_history.specs.World.{Link, Node, World}
use Rattle.vx_order.specs.declared.facts.LinkFacts.{LinkFacts}
use Rattle.vx_order.specs.declared.facts.SiteFacts.{SiteFacts}
use Rattle.vx_events.proofs.LinkTesting.{AllLinked, all_linked}
use Rattle.vx_events.proofs.Places.{some_same}
use Rattle.vx_events.specs.LinkedFacts.{link_fact, link_facts, links_of_site}
use Rattle.vx_linked.specs.Holds.{HeldBy, awaits, held_from, least_hold, lesser_hold}
use Rattle.vx_linked.proofs.Confirms.{AllBelow, all_below, below_at, below_of, both_ways}

-- ---- the least hold

lesser_is : (number : ℕ) (l : LinkFacts) → lesser_hold number l ≤ number
lesser_is number l = by (is_holding l.link)
  where
    by : (b : Bool) → (if b then min number (hold l.link) else number) ≤ number
    by true = omega arith
    by false = omega arith

lesser_held : (number : ℕ) (l : LinkFacts) → is_holding l.link ≡ true → lesser_hold number l ≤ hold l.link
lesser_held number l e =
    let is : lesser_hold number l ≡ min number (hold l.link) = ap (λ (b : Bool). if b then min number (hold l.link) else number) e in
    omega (arith, is)

from_least : (number : ℕ) (ls : List LinkFacts) → held_from number ls ≤ number
from_least number [] = omega arith
from_least number (l ∷ ls) =
    let rest : held_from (lesser_hold number l) ls ≤ lesser_hold number l = from_least (lesser_hold number l) ls in
    let here : lesser_hold number l ≤ number = lesser_is number l in
    omega (arith, rest, here)

each_least : (number : ℕ) (ls : List LinkFacts) (k : ℕ) (l : LinkFacts) → slice_get ls k ≡ Some l → is_holding l.link ≡ true → held_from number ls ≤ hold l.link
each_least number [] k l is e = absurd (cc)
each_least number (x ∷ ls) zero l is e =
    let same : x ≡ l = some_same is in
    let rest : held_from (lesser_hold number x) ls ≤ lesser_hold number x = from_least (lesser_hold number x) ls in
    let here : lesser_hold number x ≤ hold x.link = lesser_held number x (ap (λ (y : LinkFacts). is_holding y.link) same ∙ e) in
    let at : hold x.link ≡ hold l.link = ap (λ (y : LinkFacts). hold y.link) same in
    omega (arith, rest, here, at)
each_least number (x ∷ ls) (suc k) l is e = each_least (lesser_hold number x) ls k l is e

-- it is the number itself, or the hold of a link that needs the log
later : (number : ℕ) (x : LinkFacts) (ls : List LinkFacts) → HeldBy number ls → HeldBy number (x ∷ ls)
later number x ls h = record { place = suc h.place; link = h.link; there = h.there; needs = h.needs; is = h.is }

min_is : (a b : ℕ) → (min a b ≡ a) ⊎ (min a b ≡ b)
min_is zero b = inl (omega arith)
min_is (suc a) zero = inr (omega arith)
min_is (suc a) (suc b) = ⊎_elim (λ (e : min a b ≡ a). inl (omega (arith, e))) (λ (e : min a b ≡ b). inr (omega (arith, e))) (min_is a b)

lesser_by : (number : ℕ) (l : LinkFacts) → (lesser_hold number l ≡ number) ⊎ ((is_holding l.link ≡ true) × (lesser_hold number l ≡ hold l.link))
lesser_by number l = by (is_holding l.link) refl
  where
    by : (b : Bool) → is_holding l.link ≡ b
        → ((if b then min number (hold l.link) else number) ≡ number) ⊎ ((is_holding l.link ≡ true) × ((if b then min number (hold l.link) else number) ≡ hold l.link))
    by true e = ⊎_elim (λ (f : min number (hold l.link) ≡ number). inl f) (λ (f : min number (hold l.link) ≡ hold l.link). inr (e, f)) (min_is number (hold l.link))
    by false e = inl refl

held_by : (number : ℕ) (ls : List LinkFacts) → (held_from number ls ≡ number) ⊎ HeldBy (held_from number ls) ls
held_by number [] = inl refl
held_by number (l ∷ ls) =
    ⊎_elim
    (λ (same : held_from (lesser_hold number l) ls ≡ lesser_hold number l).
    ⊎_elim (λ (e : lesser_hold number l ≡ number). inl (same ∙ e))
    (λ (e : (is_holding l.link ≡ true) × (lesser_hold number l ≡ hold l.link)). inr (record { place = 0; link = l; there = refl; needs = e.0; is = same ∙ e.1 }))
    (lesser_by number l))
    (λ (h : HeldBy (held_from (lesser_hold number l) ls) ls). inr (later (held_from (lesser_hold number l) ls) l ls h))
    (held_by (lesser_hold number l) ls)

pub least_each : (site : SiteFacts) (k : ℕ) (l : LinkFacts) → slice_get site.links k ≡ Some l → is_holding l.link ≡ true → least_hold site ≤ hold l.link
least_each site k l is e = each_least (last_number site.rvg) site.links k l is e

pub least_last : (site : SiteFacts) → least_hold site ≤ last_number site.rvg
least_last site = from_least (last_number site.rvg) site.links

pub least_by : (site : SiteFacts) → (least_hold site ≡ last_number site.rvg) ⊎ HeldBy (least_hold site) site.links
least_by site = held_by (last_number site.rvg) site.links

-- ---- links that a write waits for

module _ (n : Node) (row : ℕ → Link) (sites : ℕ) where
  abbrev waited : ℕ → Bool
  waited k = is_waited_for k (row k)

  abbrev held : ℕ → Bool
  held k = awaits (link_fact n k (row k))

  awaiting : (ss : List ℕ) → AllLinked row ss → AllBelow sites ss → list_any awaits (link_facts n row ss) ≡ true → some_below sites waited ≡ true
  awaiting [] linked below e = absurd (cc)
  awaiting (s ∷ ss) linked below e = by (held s) (λ here. below_at sites waited s below.0 (ap (λ (b : Bool). b && held s) linked.0 ∙ here)) (λ is. awaiting ss linked.1 below.1 is) e
    where
      by : (b : Bool) → (b ≡ true → some_below sites waited ≡ true) → (list_any awaits (link_facts n row ss) ≡ true → some_below sites waited ≡ true)
          → (b || list_any awaits (link_facts n row ss)) ≡ true → some_below sites waited ≡ true
      by true here more is = here refl
      by false here more is = more is

  among : (k : ℕ) (ss : List ℕ) → IsAmong k ss → held k ≡ true → list_any awaits (link_facts n row ss) ≡ true
  among k [] h e = absurd h
  among k (t ∷ ts) (inl same) e = ap (λ (b : Bool). b || list_any awaits (link_facts n row ts)) (subst (λ (j : ℕ). held j ≡ true) same e)
  among k (t ∷ ts) (inr more) e = or_true (held t) _ (among k ts more e)

pub awaits_same : (w : World) → AreListed w → (p : ℕ) → some_below w.sites (λ k. is_waited_for k (w.links p k)) ≡ list_any awaits (links_of_site w p)
awaits_same w listed p =
    let n : Node = w.nodes p in
    let row : ℕ → Link = w.links p in
    let ss : List ℕ = linked_sites row w.sites 0 w.sites in
    both_ways _ _
    (λ back.
    let k = below_of w.sites (waited n row w.sites) back in
    let parts = and_parts (is_linked (row k.0)) (held n row w.sites k.0) k.2 in
    among n row w.sites k.0 ss (listed.each p k.0 k.1 parts.0) parts.1)
    (λ up. awaiting n row w.sites ss (all_linked row w.sites 0 w.sites) (all_below row w.sites 0 w.sites) up)
