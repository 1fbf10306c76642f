-- What a site greets with, as the tests of a line see it and as the world has it.
use Rattle.std.proofs.Common.{◌≡◌, ◌∙◌, ℕ, List, [], ◌++◌, length, Bool, true, false, ap, sym, subst, refl}
use Rattle.std.proofs.lemmas.Bool.{and_parts, not-true}
use Rattle.std.specs.Prelude.{Option, Some, None, not, ◌&&◌, slice_get, if◌then◌else◌}
use Rattle.vx_courier.specs.UnderWay.{FlightStands}
use Rattle.vx_history.specs.Events.{greeting_back, greets}
use Rattle.vx_history.specs.Refusals.{is_running}
use Rattle.vx_history.specs.Sends.{greeting, packets_of}
use Rattle.vx_history.specs.World.{Hello, Node, Packet, World}
use Rattle.vx_history.proofs.StateCases.{up_is}
use Rattle.vx_model.specs.Sites.{is_origin, is_up, same_line}
use Rattle.vx_model.specs.declared.site.SiteState.{SiteState}
use Rattle.vx_model.specs.declared.site.SiteState.TheVariants.{Bare, Up, Deported, Down}
use Rattle.vx_net.specs.Flights.{Flying}
use Rattle.vx_order.specs.Sites.{rvg_of, site_named}
use Rattle.vx_order.specs.declared.facts.RvgFacts.{RvgFacts}
use Rattle.vx_order.specs.declared.facts.SiteFacts.{SiteFacts}
use Rattle.vx_events.specs.Facts.{group_by, group_fact, seat_of, site_number}
use Rattle.vx_events.specs.GroupLines.{is_over_group}
use Rattle.vx_events.specs.GroupNotes.{note_at}
use Rattle.vx_events.specs.LinkedFacts.{linked_fact}
use Rattle.vx_events.specs.StepsOver.{fact_of_group, fact_over, facts_over}
use Rattle.vx_events.proofs.OverSeats.{fact_apart}
use Rattle.vx_events.proofs.LinkTesting.{seat_at, shown}
use Rattle.vx_linked.specs.Greetings.{Tells, greeter, greeter_of, hello_of, receives_on}
use Rattle.vx_linked.proofs.Finding.{Tested, on_link, seat_named}

group_shown : (st : SiteState) (n : Node) → (if is_up st then group_by st n else None) ≡ (if is_up st then Some (group_fact n) else None)
group_shown Bare n = refl
group_shown Up n = refl
group_shown Deported n = refl
group_shown Down n = refl

none_shown : (u : Bool) → (let o : Option RvgFacts = (if u then None else None) in o) ≡ None
none_shown true = refl
none_shown false = refl

greets_not : (up runs origin line : Bool) → origin ≡ true → (up && (runs && (not origin && line))) ≡ false
greets_not false runs origin line e = refl
greets_not true false origin line e = refl
greets_not true true true line e = refl
greets_not true true false line e = absurd (cc)

by_up : (u : Bool) (a b : RvgFacts) → greeter_of (Some a) (if u then Some b else None) ≡ (if u && receives_on a.line b then Some b else None)
by_up true a b = refl
by_up false a b = refl

runs_none : (h : Option ℕ) → is_running h ≡ true → h ≡ None
runs_none None e = refl
runs_none (Some disk) e = let no : false ≡ true = e in absurd (cc)

module _ (w : World) (from to : List ℕ) (tested : Tested (facts_over w) from to) where
  abbrev a : ℕ
  a = site_number w from

  abbrev b : ℕ
  b = site_number w to

  abbrev here : Node
  here = w.nodes a

  abbrev there : Node
  there = w.nodes b

  -- a group that is seen of the second site greets as the world has it
  second_by : (o : Bool) → is_over_group there ≡ o → (is_over_group there ≡ true → is_origin there.role ≡ true)
      → greeter_of (Some (group_fact here)) (rvg_of (Some (if o then fact_of_group there (note_at there) else linked_fact w b))) ≡ (if greets here there then Some (group_fact there) else None)
  second_by false apart origin = ap (greeter_of (Some (group_fact here))) (group_shown there.state there) ∙ by_up (is_up there.state) (group_fact here) (group_fact there)
  second_by true over origin =
      ap (greeter_of (Some (group_fact here))) (none_shown (is_up there.state))
      ∙ sym (ap (λ (g : Bool). if g then Some (group_fact there) else None)
      (greets_not (is_up there.state) (is_running there.halted) (is_origin there.role) (same_line there.line here.line) (origin over)))

  greeter_is : (is_over_group there ≡ true → is_origin there.role ≡ true) → greeter (facts_over w) from to ≡ (if greets here there then Some (group_fact there) else None)
  greeter_is origin =
      let m = on_link w from to tested in
      let first : site_named (facts_over w) from ≡ Some (linked_fact w a) = (seat_at w from tested.known).found ∙ ap (λ (f : SiteFacts). Some f) (fact_apart w a m.apart) in
      ap (λ (o : Option SiteFacts). greeter_of (rvg_of o) (rvg_of (site_named (facts_over w) to))) first
      ∙ ap (λ (o : Option SiteFacts). greeter_of (rvg_of (Some (linked_fact w a))) (rvg_of o)) (seat_at w to tested.other).found
      ∙ ap (λ (o : Option RvgFacts). greeter_of o (rvg_of (Some (fact_over w b)))) (shown w a m.up)
      ∙ second_by (is_over_group there) refl origin

  receives_there : greets here there ≡ true → (there.state ≡ Up) × (there.halted ≡ None) × (is_origin there.role ≡ false)
  receives_there e =
      let up = and_parts (is_up there.state) _ e in
      let runs = and_parts (is_running there.halted) _ up.1 in
      (up_is there.state up.0, runs_none there.halted runs.0, not-true (is_origin there.role) (and_parts (not (is_origin there.role)) (same_line there.line here.line) runs.1).0)

  -- the greeting that is sent is that of the world
  hello_is : (session stored : ℕ) → Tells there session stored → hello_of (if greets here there then Some (group_fact there) else None) b a session stored ≡ greeting_back w a b
  hello_is session stored tells = by (greets here there) receives_there
    where
      by : (g : Bool) → (g ≡ true → (there.state ≡ Up) × (there.halted ≡ None) × (is_origin there.role ≡ false)) → hello_of (if g then Some (group_fact there) else None) b a session stored ≡ (if g then greeting b a there else [])
      by false receives = refl
      by true receives =
          let up = (receives refl).0 in
          let runs = (receives refl).1 in
          let role = (receives refl).2 in
          ap (λ (k : ℕ). packets_of b a there.line (Hello k (if is_origin there.role then there.safe else length there.log) stored)) (tells.session_is up role)
          ∙ ap (λ (o : Bool). packets_of b a there.line (Hello there.session (if o then there.safe else length there.log) stored)) role
          ∙ ap (λ (k : ℕ). packets_of b a there.line (Hello there.session (length there.log) k)) (tells.stored_is up runs role)

  pub greeted : (session stored : ℕ) (r : Option RvgFacts) (f : Flying) → Tells there session stored → r ≡ greeter (facts_over w) from to → FlightStands (w.packets ++ hello_of r b a session stored) f
      → FlightStands (w.packets ++ greeting_back w a b) f
  greeted session stored r f tells is stands =
      subst (λ (ps : List Packet). FlightStands (w.packets ++ ps) f) (ap (λ (o : Option RvgFacts). hello_of o b a session stored) (is ∙ greeter_is tells.origin) ∙ hello_is session stored tells) stands

-- the group that was found is that of the second site
pub greeter_there : (sites : List SiteFacts) (from to : List ℕ) (here there : ℕ) (first second : SiteFacts) → seat_of sites from ≡ Some here → seat_of sites to ≡ Some there
    → slice_get sites here ≡ Some first → slice_get sites there ≡ Some second → greeter sites from to ≡ greeter_of (rvg_of (Some first)) (rvg_of (Some second))
greeter_there sites from to i j first second at_first at_second is_first is_second =
    ap (λ (o : Option SiteFacts). greeter_of (rvg_of o) (rvg_of (site_named sites to))) (seat_named sites from i at_first ∙ is_first)
    ∙ ap (λ (o : Option SiteFacts). greeter_of (rvg_of (Some first)) (rvg_of o)) (seat_named sites to j at_second ∙ is_second)

-- what is under way from one number to another
pub numbered : (w : World) (r : Option RvgFacts) (here there a b session stored : ℕ) (f : Flying) → here ≡ a → there ≡ b → FlightStands (w.packets ++ hello_of r there here session stored) f
    → FlightStands (w.packets ++ hello_of r b a session stored) f
numbered w r i j a b session stored f first second stands =
    subst (λ (t : ℕ). FlightStands (w.packets ++ hello_of r t a session stored) f) second (subst (λ (t : ℕ). FlightStands (w.packets ++ hello_of r j t session stored) f) first stands)
