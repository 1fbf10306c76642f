-- Where no test of a line that waits for a write refuses, the write is confirmed or pending.
use Rattle.std.proofs.Common.{◌≡◌, ◌∙◌, ◌⊎◌, inl, inr, ◌<◌, ℕ, List, [], ◌∷◌, Bool, true, false, ap, sym, subst, refl}
use Rattle.std.proofs.lemmas.Bool.{and_parts, false_from_ne_true}
use Rattle.std.specs.Prelude.{Option, Some, None, not, ◌&&◌, ◌||◌, ◌==◌, nat_lt, if◌then◌else◌, length}
use Rattle.std.specs.List.{list_any}
use Rattle.vx_model.specs.Sites.{is_up, is_origin}
use Rattle.vx_model.specs.declared.no.Named.TheVariants.{Number as ByNumber}
use Rattle.vx_model.specs.declared.no.No.TheVariants.{Unknown, Role as WrongRole, Down as NotUp, Unconfirmed}
use Rattle.vx_model.specs.declared.site.SiteState.{SiteState}
use Rattle.vx_model.proofs.Tests.{both_true}
use Rattle.vx_history.specs.Admission.{is_fail}
use Rattle.vx_history.specs.Events.{linked_sites, waited, promises_of}
use Rattle.vx_history.specs.Refusals.{Outcome, says, unless, at_work, some_below, is_unconfirmed, holds_back, goes}
use Rattle.vx_history.specs.Sends.{is_linked, promising}
use Rattle.vx_history.specs.Step.{step, outcome_of}
use Rattle.vx_history.specs.World.{Node, Link as LinkOf, World}
use Rattle.vx_history.specs.declared.event.Event.TheVariants.{Wait as WaitAt}
use Rattle.vx_history.specs.declared.event.Said.TheVariants.{DoneAt, Pending}
use Rattle.vx_order.specs.declared.facts.SiteFacts.{SiteFacts}
use Rattle.vx_order.specs.declared.facts.RvgFacts.{RvgFacts}
use Rattle.vx_order.specs.Asks.{ask_of}
use Rattle.vx_order.specs.Sending.{has_writes, number_unknown, last_number, lacks, unconfirmed_at}
use Rattle.vx_order.specs.Sites.{site_named, site_off, rvg_of, halted_one}
use Rattle.vx_order.specs.Subject.{first_name, second_name, need_of, halt_of}
use Rattle.vx_order.specs.Tests.{when}
use Rattle.vx_script.specs.declared.line.ScriptLine.TheVariants.{Wait}
use Rattle.vx_events.specs.Facts.{site_number, group_fact, head_of}
use Rattle.vx_events.specs.GroupLines.{is_over_group}
use Rattle.vx_events.specs.LinkedFacts.{link_fact, link_facts, links_by, links_of_site, linked_fact}
use Rattle.vx_events.specs.StepsOver.{fact_over, facts_over, refused_over}
use Rattle.vx_history.specs.Listed.{IsAmong, AreListed}
use Rattle.vx_events.proofs.LinkJoining.{IsHere, here_by}
use Rattle.vx_events.proofs.LinkTesting.{seat_at}
use Rattle.vx_events.proofs.OverSeats.{apart_shown, fact_apart}
use Rattle.vx_events.proofs.Passing.{off, is_site, is_at_work}
use Rattle.vx_events.proofs.Refused.{passes, when_none, not_false}
use Rattle.vx_events.proofs.Testing.{none_under}

-- a link that lacks the number is one of those of its site
any_among : (number : ℕ) (n : Node) (row : ℕ → LinkOf) (k : ℕ) (ts : List ℕ) → IsAmong k ts → lacks number (link_fact n k (row k)) ≡ true → list_any (lacks number) (link_facts n row ts) ≡ true
any_among number n row k [] h e = absurd h
any_among number n row k (t ∷ ts) (inl same) e =
    ap (λ (b : Bool). b || list_any (lacks number) (link_facts n row ts)) (subst (λ (j : ℕ). lacks number (link_fact n j (row j)) ≡ true) same e)
any_among number n row k (t ∷ ts) (inr more) e = by (lacks number (link_fact n t (row t))) (any_among number n row k ts more e)
  where
    by : (b : Bool) → list_any (lacks number) (link_facts n row ts) ≡ true → (b || list_any (lacks number) (link_facts n row ts)) ≡ true
    by true is = refl
    by false is = is

-- an unconfirmed link lacks it
lacking : (number : ℕ) (n : Node) (k : ℕ) (l : LinkOf) → is_unconfirmed number k l ≡ true → (is_linked l ≡ true) × (lacks number (link_fact n k l) ≡ true)
lacking number n k l e =
    let linked = and_parts (is_linked l) _ e in
    let attached = and_parts l.attached _ linked.1 in
    let fails = and_parts (is_fail l.sync) _ attached.1 in
    let below = and_parts (nat_lt l.net number) _ fails.1 in (
      linked.0,
      both_true (l.attached && (is_fail l.sync && not (goes k l))) (nat_lt l.net number)
          (both_true l.attached (is_fail l.sync && not (goes k l)) attached.0 (both_true (is_fail l.sync) (not (goes k l)) fails.0 below.1)) below.0,
    )

never_both : (b : Bool) → b ≡ true → b ≡ false → ⊥
never_both true e f = absurd (cc)
never_both false e f = absurd (cc)

module _ (w : World) (listed : AreListed w) (a number : ℕ) (below : a < w.sites) (here : IsHere w a) where
  abbrev n : Node
  n = w.nodes a

  none_unconfirmed : unconfirmed_at (Some (linked_fact w a)) number ≡ None → some_below w.sites (λ k. is_unconfirmed number k (w.links a k)) ≡ false
  none_unconfirmed e =
      let none : list_any (lacks number) (links_of_site w a) ≡ false =
      sym (ap (λ (t : SiteState). is_up t && list_any (lacks number) (links_by t (links_of_site w a))) here.up) ∙ when_none (is_up n.state && list_any (lacks number) (links_by n.state (links_of_site w a))) _ e in
      none_under w.sites (λ k. is_unconfirmed number k (w.links a k))
      (λ k small. false_from_ne_true (is_unconfirmed number k (w.links a k))
      (λ is. let both = lacking number n k (w.links a k) is in
      never_both (list_any (lacks number) (links_of_site w a)) (any_among number n (w.links a) k (linked_sites (w.links a) w.sites 0 w.sites) (listed.each a k small both.0) both.1) none))

  -- confirmed, or not yet
  answers : (b : Bool) → ((if b then says w (Pending number) else says (promising w (promises_of n number (w.links a) w.sites)) (DoneAt number)).said ≡ DoneAt number)
      ⊎ ((if b then says w (Pending number) else says (promising w (promises_of n number (w.links a) w.sites)) (DoneAt number)).said ≡ Pending number)
  answers true = inr refl
  answers false = inl refl

  waits_step : is_origin n.role ≡ true → (number == 0 || nat_lt n.safe number) ≡ false → some_below w.sites (λ k. is_unconfirmed number k (w.links a k)) ≡ false
      → outcome_of w (WaitAt a number) ≡ (if some_below w.sites (λ k. holds_back number k (w.links a k)) then says w (Pending number) else says (promising w (promises_of n number (w.links a) w.sites)) (DoneAt number))
  waits_step origin known none =
      let o : Outcome = (if some_below w.sites (λ k. holds_back number k (w.links a k)) then says w (Pending number) else says (promising w (promises_of n number (w.links a) w.sites)) (DoneAt number)) in
      let confirmed : Outcome = unless (some_below w.sites (λ k. is_unconfirmed number k (w.links a k))) (Unconfirmed number) w o in
      let led : Outcome = unless (not (is_origin n.role)) WrongRole w (waited w a number) in
      is_site w a (at_work w a led) below
      ∙ is_at_work w a led here.up here.running
      ∙ off (not (is_origin n.role)) WrongRole w (waited w a number) (ap not origin)
      ∙ off (number == 0 || nat_lt n.safe number) (Unknown (ByNumber number)) w confirmed known
      ∙ off (some_below w.sites (λ k. is_unconfirmed number k (w.links a k))) (Unconfirmed number) w o none

-- the site of such a line is over no group
pub wait_apart : (w : World) (files : Bool) (p : List ℕ) (number : ℕ) → refused_over w files (Wait p number) ≡ None → is_over_group (w.nodes (site_number w p)) ≡ false
unfolding first_name second_name need_of halt_of ask_of
wait_apart w files p number free =
    let t = passes (facts_over w) files (Wait p number) free in
    let a : ℕ = site_number w p in
    let one = seat_at w p t.known in
    let shows : has_writes (rvg_of (Some (fact_over w a))) ≡ true =
    not_false (has_writes (rvg_of (Some (fact_over w a))))
    (when_none (not (has_writes (rvg_of (Some (fact_over w a))))) WrongRole (subst (λ (o : Option SiteFacts). when (not (has_writes (rvg_of o))) WrongRole ≡ None) one.found t.link_role)) in
    apart_shown w a has_writes refl shows

pub wait_agrees : (w : World) (files : Bool) (p : List ℕ) (number : ℕ) → AreListed w → refused_over w files (Wait p number) ≡ None
    → ((step w (WaitAt (site_number w p) number)).said ≡ DoneAt number) ⊎ ((step w (WaitAt (site_number w p) number)).said ≡ Pending number)
unfolding first_name second_name need_of halt_of ask_of
wait_agrees w files p number listed free =
    let t = passes (facts_over w) files (Wait p number) free in
    let a : ℕ = site_number w p in
    let n : Node = w.nodes a in
    let one = seat_at w p t.known in
    let found : site_named (facts_over w) p ≡ Some (linked_fact w a) = one.found ∙ ap (λ (f : SiteFacts). Some f) (fact_apart w a (wait_apart w files p number free)) in
    let here = here_by w a (when_none (not (is_up n.state)) NotUp (subst (λ (o : Option SiteFacts). when (site_off o) NotUp ≡ None) found t.up))
    (subst (λ (o : Option SiteFacts). halted_one o ≡ None) found t.running) in
    let role : when (not (has_writes (Some (group_fact n)))) WrongRole ≡ None =
    subst (λ (o : Option RvgFacts). when (not (has_writes o)) WrongRole ≡ None) here.group (subst (λ (o : Option SiteFacts). when (not (has_writes (rvg_of o))) WrongRole ≡ None) found t.link_role) in
    let origin : is_origin n.role ≡ true = not_false (is_origin n.role) (when_none (not (is_origin n.role)) WrongRole role) in
    let head : head_of n ≡ n.safe = ap (λ (b : Bool). if b then n.safe else length n.log) origin in
    let known : number_unknown number (head_of n) ≡ None =
    subst (λ (o : Option RvgFacts). number_unknown number (last_number o) ≡ None) here.group (subst (λ (o : Option SiteFacts). number_unknown number (last_number (rvg_of o)) ≡ None) found t.link) in
    let within : (number == 0 || nat_lt n.safe number) ≡ false = when_none (number == 0 || nat_lt n.safe number) _ (subst (λ (k : ℕ). number_unknown number k ≡ None) head known) in
    let none = none_unconfirmed w listed a number one.below here (subst (λ (o : Option SiteFacts). unconfirmed_at o number ≡ None) found t.confirmed) in
    subst (λ (o : Outcome). (o.said ≡ DoneAt number) ⊎ (o.said ≡ Pending number)) (sym (waits_step w listed a number one.below here origin within none))
    (answers w listed a number one.below here (some_below w.sites (λ k. holds_back number k (w.links a k))))
