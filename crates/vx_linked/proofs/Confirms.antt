-- A line that waits for a write, as an event of the world.
use Rattle.std.proofs.Common.{◌≡◌, ◌∙◌, ◌⊎◌, ⊎_elim, inl, inr, ◌+◌, ◌<◌, ℕ, zero, suc, List, [], ◌∷◌, Bool, true, false, ap, sym, subst, refl, arith}
use Rattle.std.proofs.lemmas.Bool.{and_parts}
use Rattle.std.specs.Prelude.{Option, Some, None, IsSome, not, ◌&&◌, ◌||◌, eqb, leb, ltb, if◌then◌else◌}
use Rattle.std.specs.List.{list_any}
use Rattle.vx_history.specs.Events.{linked_sites, link_in_place, put_before, is_in_place, promises_of, waited}
use Rattle.vx_history.specs.Headers.{is_refused}
use Rattle.vx_history.specs.Refusals.{Outcome, at_work, holds_back, is_unconfirmed, says, some_below, unless, unless_halted}
use Rattle.vx_history.specs.Sends.{is_linked, promising}
use Rattle.vx_history.specs.Step.{outcome_of, step}
use Rattle.vx_history.specs.World.{Link, Node, World}
use Rattle.vx_history.specs.declared.event.Event.TheVariants.{Wait as WaitAt}
use Rattle.vx_history.specs.declared.event.Said.{Said}
use Rattle.vx_history.specs.declared.event.Said.TheVariants.{DoneAt, Pending}
use Rattle.vx_model.specs.Sites.{is_origin, is_up}
use Rattle.vx_model.specs.declared.no.Named.TheVariants.{Number as ByNumber}
use Rattle.vx_model.specs.declared.no.No.{No}
use Rattle.vx_model.specs.declared.no.No.TheVariants.{Down as NotUp, Role as WrongRole, Unconfirmed, Unknown}
use Rattle.vx_model.specs.declared.site.SiteState.{SiteState}
use Rattle.vx_model.specs.declared.site.SiteState.TheVariants.{Up}
use Rattle.vx_model.proofs.Tests.{or_true}
use Rattle.vx_order.specs.Asks.{ask_of}
use Rattle.vx_order.specs.Sites.{site_named, site_off}
use Rattle.vx_order.specs.Subject.{first_name, halt_of, need_of, second_name}
use Rattle.vx_order.specs.Tests.{when}
use Rattle.vx_order.specs.declared.facts.SiteFacts.{SiteFacts}
use Rattle.vx_script.specs.declared.line.ScriptLine.TheVariants.{Wait}
use Rattle.vx_events.specs.Facts.{seat_of, site_number}
use Rattle.vx_events.specs.LinkedFacts.{link_fact, link_facts, linked_fact, links_by, links_of_site}
use Rattle.vx_events.specs.StepsOver.{facts_over}
use Rattle.vx_history.specs.Listed.{AreListed, IsAmong}
use Rattle.vx_history.proofs.StateCases.{up_is}
use Rattle.vx_events.proofs.LinkTesting.{AllLinked, all_linked, seat_at}
use Rattle.vx_events.proofs.LinkWaiting.{wait_agrees, wait_apart}
use Rattle.vx_events.proofs.OverSeats.{fact_apart}
use Rattle.vx_events.proofs.Places.{never_some, some_same}
use Rattle.vx_events.proofs.Refused.{not_false, passes, when_none}
use Rattle.vx_linked.specs.Tables.{IsUnrefused}
use Rattle.vx_linked.specs.Waits.{holds_up, wait_said}
use Rattle.vx_linked.proofs.Finding.{seat_found}
use Rattle.vx_linked.proofs.Leaving.{wait_by}

-- ---- tests of an event that was not refused

pub peel : (b : Bool) (why : No) (w : World) (o : Outcome) → is_refused (unless b why w o).said ≡ false → unless b why w o ≡ o
peel true why w o e = absurd (cc)
peel false why w o e = refl

peel_halted : (h : Option ℕ) (w : World) (o : Outcome) → is_refused (unless_halted h w o).said ≡ false → unless_halted h w o ≡ o
peel_halted None w o e = refl
peel_halted (Some disk) w o e = absurd (cc)

pub next : (x y : Outcome) → x ≡ y → is_refused x.said ≡ false → is_refused y.said ≡ false
next x y is e = subst (λ (o : Outcome). is_refused o.said ≡ false) is e

peel_work : (w : World) (p : ℕ) (o : Outcome) → is_refused (at_work w p o).said ≡ false → at_work w p o ≡ o
peel_work w p o e =
    let up = peel (not (is_up (w.nodes p).state)) NotUp w (unless_halted (w.nodes p).halted w o) e in
    up ∙ peel_halted (w.nodes p).halted w o (next (at_work w p o) (unless_halted (w.nodes p).halted w o) up e)

-- what is said then: pending where a link holds the number back
said_then : (w : World) (p number : ℕ) → is_refused (step w (WaitAt p number)).said ≡ false
    → (step w (WaitAt p number)).said ≡ (if some_below w.sites (λ k. holds_back number k (w.links p k)) then Pending number else DoneAt number)
said_then w p number e =
    let held : Bool = some_below w.sites (λ k. holds_back number k (w.links p k)) in
    let last : Outcome = (if held then says w (Pending number) else says (promising w (promises_of (w.nodes p) number (w.links p) w.sites)) (DoneAt number)) in
    let confirmed : Outcome = unless (some_below w.sites (λ k. is_unconfirmed number k (w.links p k))) (Unconfirmed number) w last in
    let led : Outcome = unless (not (is_origin (w.nodes p).role)) WrongRole w (waited w p number) in
    let e1 = peel (leb w.sites p) (Unknown (ByNumber p)) w (at_work w p led) e in
    let r1 = next (outcome_of w (WaitAt p number)) (at_work w p led) e1 e in
    let e2 = peel_work w p led r1 in
    let r2 = next (at_work w p led) led e2 r1 in
    let e3 = peel (not (is_origin (w.nodes p).role)) WrongRole w (waited w p number) r2 in
    let r3 = next led (waited w p number) e3 r2 in
    let e4 = peel (eqb number 0 || ltb (w.nodes p).safe number) (Unknown (ByNumber number)) w confirmed r3 in
    let r4 = next (waited w p number) confirmed e4 r3 in
    let e5 = peel (some_below w.sites (λ k. is_unconfirmed number k (w.links p k))) (Unconfirmed number) w last r4 in
    ap (λ (o : Outcome). o.said) (e1 ∙ e2 ∙ e3 ∙ e4 ∙ e5) ∙ by held
  where
    by : (b : Bool) → (if b then says w (Pending number) else says (promising w (promises_of (w.nodes p) number (w.links p) w.sites)) (DoneAt number)).said ≡ (if b then Pending number else DoneAt number)
    by true = refl
    by false = refl

-- ---- the links that hold a number back are those that hold it up

pub both_ways : (a b : Bool) → (a ≡ true → b ≡ true) → (b ≡ true → a ≡ true) → a ≡ b
both_ways true b f g = sym (f refl)
both_ways false true f g = g refl
both_ways false false f g = refl

split : (k n : ℕ) → k < suc n → (k ≡ n) ⊎ (k < n)
split zero zero h = inl refl
split zero (suc n) h = inr (omega arith)
split (suc k) zero h = absurd (omega (arith, h))
split (suc k) (suc n) h = ⊎_elim (λ (e : k ≡ n). inl (ap suc e)) (λ (less : k < n). inr (omega (arith, less))) (split k n (omega (arith, h)))

pub below_at : (n : ℕ) (test : ℕ → Bool) (k : ℕ) → k < n → test k ≡ true → some_below n test ≡ true
below_at zero test k h e = absurd (omega (arith, h))
below_at (suc n) test k h e =
    ⊎_elim (λ (is : k ≡ n). ap (λ (b : Bool). b || some_below n test) (subst (λ (j : ℕ). test j ≡ true) is e))
    (λ (less : k < n). or_true (test n) (some_below n test) (below_at n test k less e)) (split k n h)

pub below_of : (n : ℕ) (test : ℕ → Bool) → some_below n test ≡ true → (k : ℕ) × (k < n) × (test k ≡ true)
below_of zero test e = absurd (cc)
below_of (suc n) test e = by (test n) refl (λ is. let r = below_of n test is in (r.0, omega (arith, r.1), r.2)) e
  where
    by : (b : Bool) → test n ≡ b → (some_below n test ≡ true → (k : ℕ) × (k < suc n) × (test k ≡ true)) → (b || some_below n test) ≡ true → (k : ℕ) × (k < suc n) × (test k ≡ true)
    by true here later is = (n, omega arith, here)
    by false here later is = later is

picked_below : (row : ℕ → Link) (place sites s : ℕ) → link_in_place row place sites ≡ Some s → s < sites
picked_below row place zero s e = absurd (never_some e)
picked_below row place (suc k) s e = by (is_in_place (row k).made place) (λ is. picked_below row place k s is) e
  where
    by : (b : Bool) → (link_in_place row place k ≡ Some s → s < k) → (if b then Some k else link_in_place row place k) ≡ Some s → s < suc k
    by true more is = let same : k ≡ s = some_same is in omega (arith, same)
    by false more is = omega (arith, more is)

abbrev pub AllBelow : ℕ → List ℕ → Type 0
AllBelow n [] = Unit {0}
AllBelow n (s ∷ ss) = (s < n) × AllBelow n ss

pub all_below : (row : ℕ → Link) (sites place k : ℕ) → AllBelow sites (linked_sites row sites place k)
all_below row sites place zero = tt
all_below row sites place (suc k) = by (link_in_place row place sites) (λ s is. picked_below row place sites s is) (all_below row sites (place + 1) k)
  where
    by : (o : Option ℕ) → ((s : ℕ) → o ≡ Some s → s < sites) → AllBelow sites (linked_sites row sites (place + 1) k) → AllBelow sites (put_before o (linked_sites row sites (place + 1) k))
    by None there more = more
    by (Some s) there more = (there s refl, more)

module _ (n : Node) (row : ℕ → Link) (number sites : ℕ) where
  abbrev holds : ℕ → Bool
  holds k = holds_back number k (row k)

  abbrev held : ℕ → Bool
  held k = holds_up number (link_fact n k (row k))

  -- a link that holds the number up does so
  holding : (ss : List ℕ) → AllLinked row ss → AllBelow sites ss → list_any (holds_up number) (link_facts n row ss) ≡ true → some_below sites holds ≡ true
  holding [] linked below e = absurd (cc)
  holding (s ∷ ss) linked below e = by (held s) (λ here. below_at sites holds s below.0 (ap (λ (b : Bool). b && held s) linked.0 ∙ here)) (λ is. holding ss linked.1 below.1 is) e
    where
      by : (b : Bool) → (b ≡ true → some_below sites holds ≡ true) → (list_any (holds_up number) (link_facts n row ss) ≡ true → some_below sites holds ≡ true)
          → (b || list_any (holds_up number) (link_facts n row ss)) ≡ true → some_below sites holds ≡ true
      by true here more is = here refl
      by false here more is = more is

  among_any : (k : ℕ) (ss : List ℕ) → IsAmong k ss → held k ≡ true → list_any (holds_up number) (link_facts n row ss) ≡ true
  among_any k [] h e = absurd h
  among_any k (t ∷ ts) (inl same) e = ap (λ (b : Bool). b || list_any (holds_up number) (link_facts n row ts)) (subst (λ (j : ℕ). held j ≡ true) same e)
  among_any k (t ∷ ts) (inr more) e = or_true (held t) _ (among_any k ts more e)

pub holds_same : (w : World) → AreListed w → (p number : ℕ) → some_below w.sites (λ k. holds_back number k (w.links p k)) ≡ list_any (holds_up number) (links_of_site w p)
holds_same w listed p number =
    let n : Node = w.nodes p in
    let row : ℕ → Link = w.links p in
    let ss : List ℕ = linked_sites row w.sites 0 w.sites in
    both_ways _ _
    (λ back.
    let k = below_of w.sites (holds n row number w.sites) back in
    let parts = and_parts (is_linked (row k.0)) (held n row number w.sites k.0) k.2 in
    among_any n row number w.sites k.0 ss (listed.each p k.0 k.1 parts.0) parts.1)
    (λ up. holding n row number w.sites ss (all_linked row w.sites 0 w.sites) (all_below row w.sites 0 w.sites) up)

-- ---- the line

pub wait_named : (sites : List SiteFacts) (from : List ℕ) (number : ℕ) → IsUnrefused sites (Wait from number) → IsSome (seat_of sites from)
unfolding first_name second_name need_of halt_of ask_of
wait_named sites from number free = seat_found sites from (passes sites free.0 (Wait from number) free.1).known

said_refused : (s : Said) (number : ℕ) → (s ≡ DoneAt number) ⊎ (s ≡ Pending number) → is_refused s ≡ false
said_refused s number (inl is) = ap is_refused is
said_refused s number (inr is) = ap is_refused is

-- what is said of the facts of the site is what is said of the event
pub wait_is : (w : World) (sites : List SiteFacts) (from : List ℕ) (number : ℕ) (site : SiteFacts) → sites ≡ facts_over w → AreListed w → IsUnrefused sites (Wait from number) → site_named sites from ≡ Some site
    → wait_said number site.links ≡ (step w (WaitAt (site_number w from) number)).said
unfolding first_name second_name need_of halt_of ask_of
wait_is w sites from number site is listed free found =
    let a : ℕ = site_number w from in
    let free_here : IsUnrefused (facts_over w) (Wait from number) = subst (λ (fs : List SiteFacts). IsUnrefused fs (Wait from number)) is free in
    let t = passes (facts_over w) free_here.0 (Wait from number) free_here.1 in
    let one = seat_at w from t.known in
    let here : site_named (facts_over w) from ≡ Some (linked_fact w a) = one.found ∙ ap (λ (f : SiteFacts). Some f) (fact_apart w a (wait_apart w free_here.0 from number free_here.1)) in
    let same : site ≡ linked_fact w a = some_same (sym found ∙ ap (λ (fs : List SiteFacts). site_named fs from) is ∙ here) in
    let up : (w.nodes a).state ≡ Up
    = up_is (w.nodes a).state (not_false (is_up (w.nodes a).state) (when_none (not (is_up (w.nodes a).state)) NotUp (subst (λ (o : Option SiteFacts). when (site_off o) NotUp ≡ None) here t.up))) in
    let links : site.links ≡ links_of_site w a = ap (λ (f : SiteFacts). f.links) same ∙ ap (λ (st : SiteState). links_by st (links_of_site w a)) up in
    let kept = said_refused _ number (wait_agrees w free_here.0 from number listed free_here.1) in
    ap (wait_said number) links
    ∙ ap (λ (b : Bool). if b then Pending number else DoneAt number) (sym (holds_same w listed a number))
    ∙ sym (said_then w a number kept)

-- nothing of the facts changes
pub wait_shows : (w : World) (p number : ℕ) → facts_over w ≡ facts_over (step w (WaitAt p number)).world
wait_shows w p number = wait_by (λ (v : World). facts_over w ≡ facts_over v) w p number refl refl
