-- The links of a site in the order in which they were made, and what they make of a write.
use Rattle.std.proofs.Common.{◌≡◌, ◌∙◌, inl, inr, ℕ, zero, suc, ◌+◌, ◌≤◌, ◌<◌, List, [], ◌∷◌, ◌++◌, length, get_or, ap, sym, subst, refl, arith, Bool}
use Rattle.std.specs.Prelude.{Option, Some, None, ltb, min, zip, ◌&&◌, if◌then◌else◌}
use Rattle.std.proofs.lemmas.Bool.{cases_eq}
use Rattle.std.proofs.lemmas.Bool.Decides.{nat_tests}
use Rattle.std.proofs.lemmas.List.{get_or-set_same, get_or-set_other}
use Rattle.std.proofs.Math.ListN.{set}
use Rattle.vx_model.specs.Content.{Write, blocks_in}
use Rattle.vx_model.specs.declared.link.Link.{Link as PlainLink}
use Rattle.vx_history.specs.World.{World, Node, Link}
use Rattle.vx_history.specs.Admission.{Admitted, Held_by, Goes, Held, or_else, unless_held, blocks, is_holding, held_by_room, held_when_full, full_log_of, change, change_by, changes, first_down, first_full, admit}
use Rattle.vx_history.specs.LinkForms.{plain_link}
use Rattle.vx_history.specs.declared.admission.Change.{Change}
use Rattle.vx_history.specs.declared.admission.Change.TheVariants.{Stays}
use Rattle.vx_policy.specs.Verdicts.{verdict}
use Rattle.vx_history.specs.Refusals.{unless_at_most, why_held}
use Rattle.vx_history.specs.Events.{link_in_place, put_before, linked_sites, plain_links, log_uses, admitted, links_changed, put_in, written_if}
use Rattle.vx_history.proofs.Places.{before_more}
use Rattle.vx_model.specs.declared.no.No.{No}
use Rattle.vx_sites.specs.Refusing.{unless_refused}
use Rattle.vx_world.specs.Counted.{AreCounted, taken_above, most_counted, refusal_by}

-- ## The links in their order

-- one more place, behind the others
pub linked_on : (row : ℕ → Link) (sites place k : ℕ)
    → linked_sites row sites place (suc k) ≡ linked_sites row sites place k ++ put_before (link_in_place row (place + k) sites) []
linked_on row sites place zero = ap (λ (p : ℕ). put_before (link_in_place row p sites) []) (let e : place ≡ place + zero = omega arith in e)
linked_on row sites place (suc k) =
    let there : place + 1 + k ≡ place + suc k = omega arith in
    ap (λ (xs : List ℕ). put_before (link_in_place row place sites) xs) (linked_on row sites (place + 1) k)
    ∙ before_more (link_in_place row place sites) (linked_sites row sites (place + 1) k) (put_before (link_in_place row (place + 1 + k) sites) [])
    ∙ ap (λ (p : ℕ). put_before (link_in_place row place sites) (linked_sites row sites (place + 1) k) ++ put_before (link_in_place row p sites) []) there

pub plain_append : (row : ℕ → Link) (xs ys : List ℕ) → plain_links row (xs ++ ys) ≡ plain_links row xs ++ plain_links row ys
plain_append row [] ys = refl
plain_append row (x ∷ xs) ys = ap (λ (ls : List PlainLink). plain_link x (row x) ∷ ls) (plain_append row xs ys)

-- ## Counts that are cut off

-- a count further than any ring reaches is as good as that many
module _ (need room : ℕ) (small : room < most_counted) where
  same_blocks : (l : PlainLink) (u : ℕ) → blocks need room l (min u most_counted) ≡ blocks need room l u
  same_blocks l u = ap (λ (b : Bool). is_holding l && b) (same_test u)
    where
      same_test : (u : ℕ) → ltb room (need + min u most_counted) ≡ ltb room (need + u)
      same_test u = grind (arith, nat_tests)

  same_held : (l : PlainLink) (u : ℕ) → held_by_room need room l (min u most_counted) ≡ held_by_room need room l u
  same_held l u = ap (λ (b : Bool). if b then held_when_full (full_log_of l) l.site else None) (same_blocks l u)

  same_change : (l : PlainLink) (u : ℕ) → change need room l (min u most_counted) ≡ change need room l u
  same_change l u = ap (λ (b : Bool). if b then change_by (full_log_of l) l.bunker else Stays) (same_blocks l u)

  module _ (n : Node) (row : ℕ → Link) where
    abbrev pub Counts : List ℕ → List ℕ → Type 0
    Counts ss used = AreCounted n.log (plain_links row ss) (length (plain_links row ss)) used

    first : (s : ℕ) (ss : List ℕ) (u : ℕ) (us : List ℕ) → Counts (s ∷ ss) (u ∷ us) → u ≡ min (taken_above n.log (plain_link s (row s))) most_counted
    first s ss u us counts = counts zero (plain_link s (row s)) (omega arith)

    others : (s : ℕ) (ss : List ℕ) (u : ℕ) (us : List ℕ) → Counts (s ∷ ss) (u ∷ us) → Counts ss us
    others s ss u us counts = λ k d lt. counts (suc k) d (omega (arith, lt))

    full_same : (ss used : List ℕ) → Counts ss used → length (plain_links row ss) ≤ length used
        → first_full need room (zip (plain_links row ss) used) ≡ first_full need room (zip (plain_links row ss) (log_uses n row ss))
    full_same [] used counts few = refl
    full_same (s ∷ ss) [] counts few = absurd (omega (arith, few))
    full_same (s ∷ ss) (u ∷ us) counts few =
        let l : PlainLink = plain_link s (row s) in
        ap (λ (v : ℕ). or_else (held_by_room need room l v) (first_full need room (zip (plain_links row ss) us))) (first s ss u us counts)
        ∙ ap (λ (h : Option Held). or_else h (first_full need room (zip (plain_links row ss) us))) (same_held l (taken_above n.log l))
        ∙ ap (λ (h : Option Held). or_else (held_by_room need room l (taken_above n.log l)) h) (full_same ss us (others s ss u us counts) (omega (arith, few)))

    changes_same : (ss used : List ℕ) → Counts ss used → length (plain_links row ss) ≤ length used
        → changes need room (zip (plain_links row ss) used) ≡ changes need room (zip (plain_links row ss) (log_uses n row ss))
    changes_same [] used counts few = refl
    changes_same (s ∷ ss) [] counts few = absurd (omega (arith, few))
    changes_same (s ∷ ss) (u ∷ us) counts few =
        let l : PlainLink = plain_link s (row s) in
        ap (λ (v : ℕ). change need room l v ∷ changes need room (zip (plain_links row ss) us)) (first s ss u us counts)
        ∙ ap (λ (c : Change). c ∷ changes need room (zip (plain_links row ss) us)) (same_change l (taken_above n.log l))
        ∙ ap (λ (cs : List Change). change need room l (taken_above n.log l) ∷ cs) (changes_same ss us (others s ss u us counts) (omega (arith, few)))

    -- so the rule says the same of them
    pub admits_same : (ss used : List ℕ) → Counts ss used → length (plain_links row ss) ≤ length used
        → admit need room (plain_links row ss) used ≡ admit need room (plain_links row ss) (log_uses n row ss)
    admits_same ss used counts few =
        let ls : List PlainLink = plain_links row ss in
        ap (λ (h : Option Held). unless_held (first_down ls) (unless_held h (Goes (changes need room (zip ls used))))) (full_same ss used counts few)
        ∙ ap (λ (cs : List Change). unless_held (first_down ls) (unless_held (first_full need room (zip ls (log_uses n row ss))) (Goes cs)))
        (changes_same ss used counts few)

-- one link more is counted
pub counted_more : (log : List Write) (links : List PlainLink) (at : ℕ) (used : List ℕ) (u : ℕ) → AreCounted log links at used → at < length used
    → ((d : PlainLink) → u ≡ min (taken_above log (get_or links at d)) most_counted) → AreCounted log links (at + 1) (set used at u)
counted_more log links at used u counts within is k d lt =
    elim (cases_eq k at) [
      | inl here ↦
          subst (λ (j : ℕ). get_or (set used at u) j 0 ≡ min (taken_above log (get_or links j d)) most_counted) (sym here)
          (get_or-set_same used at u 0 within ∙ is d)
      | inr apart ↦ get_or-set_other used at k u 0 apart ∙ counts k d (omega (arith, lt, apart))
    ]

-- what a place within the list has hangs on no other value
same_place : {A : Type 0} (xs : List A) (i : ℕ) (d e : A) → i < length xs → get_or xs i d ≡ get_or xs i e
same_place [] i d e lt = absurd (omega (arith, lt))
same_place (x ∷ xs) zero d e lt = refl
same_place (x ∷ xs) (suc i) d e lt = same_place xs i d e (omega (arith, lt))

pub counted_as : (log was : List Write) (links : List PlainLink) (at u : ℕ) (d e : PlainLink) → at < length links → was ≡ log
    → u ≡ min (taken_above was (get_or links at e)) most_counted → u ≡ min (taken_above log (get_or links at d)) most_counted
counted_as log was links at u d e lt same is =
    is
    ∙ ap (λ (xs : List Write). min (taken_above xs (get_or links at e)) most_counted) same
    ∙ ap (λ (l : PlainLink). min (taken_above log l) most_counted) (same_place links at e d lt)

-- ## The write

-- why a write is not let in
abbrev pub held_by : Admitted → Option No
held_by (Held_by why) = Some (why_held why)
held_by (Goes changes) = None

pub held_write : (a : Admitted) (w : World) (p : ℕ) (x : Write) (fails : Option ℕ) (answer : Option No) → answer ≡ held_by a
    → unless_refused answer w (unless_at_most (w.nodes p).safe w (put_in (links_changed w p x) p x fails)) ≡ written_if a w p x fails
held_write (Held_by why) w p x fails answer is =
    ap (λ (n : Option No). unless_refused n w (unless_at_most (w.nodes p).safe w (put_in (links_changed w p x) p x fails))) is
held_write (Goes changes) w p x fails answer is =
    ap (λ (n : Option No). unless_refused n w (unless_at_most (w.nodes p).safe w (put_in (links_changed w p x) p x fails))) is

-- the refusal of a verdict is that of the rule
pub verdict_holds : (a : Admitted) → refusal_by (verdict a) ≡ held_by a
verdict_holds (Held_by why) = refl
verdict_holds (Goes changes) = refl

-- what the rule says of the links that were listed, and of what was counted, it says of the site
pub refused_by_rule : (w : World) (p : ℕ) (x : Write) (n : Node) (bytes : List ℕ) (links : List PlainLink) (used : List ℕ) (room : ℕ) (answer : Option No)
    → n ≡ w.nodes p → bytes ≡ x.bytes → links ≡ plain_links (w.links p) (linked_sites (w.links p) w.sites 0 w.sites)
    → AreCounted n.log links (length links) used → length links ≤ length used → room ≡ n.ring → room < most_counted
    → answer ≡ refusal_by (verdict (admit (blocks_in bytes + 1) room links used)) → answer ≡ held_by (admitted w p x)
refused_by_rule w p x n bytes links used room answer node same listed counted few ring small is =
    let row : ℕ → Link = w.links p in
    let ss : List ℕ = linked_sites row w.sites 0 w.sites in
    let counts : AreCounted n.log (plain_links row ss) (length (plain_links row ss)) used = subst
    (λ (ls : List PlainLink). AreCounted n.log ls (length ls) used) listed counted in
    let enough : length (plain_links row ss) ≤ length used = subst (λ (ls : List PlainLink). length ls ≤ length used) listed few in
    is
    ∙ ap (λ (ls : List PlainLink). refusal_by (verdict (admit (blocks_in bytes + 1) room ls used))) listed
    ∙ ap (λ (a : Admitted). refusal_by (verdict a)) (admits_same (blocks_in bytes + 1) room small n row ss used counts enough)
    ∙ ap (λ (r : ℕ). refusal_by (verdict (admit (blocks_in bytes + 1) r (plain_links row ss) (log_uses n row ss)))) ring
    ∙ ap (λ (m : Node). refusal_by (verdict (admit (blocks_in bytes + 1) m.ring (plain_links row ss) (log_uses m row ss)))) node
    ∙ ap (λ (b : List ℕ). refusal_by (verdict (admit (blocks_in b + 1) (w.nodes p).ring (plain_links row ss) (log_uses (w.nodes p) row ss)))) same
    ∙ verdict_holds (admitted w p x)
