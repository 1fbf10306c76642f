-- A line is open by the sites that it names.
use Rattle.std.proofs.Common.{◌≡◌, ◌∙◌, ℕ, Bool, true, false, List, Option, Some, None, ap, sym, subst, refl}
use Rattle.std.specs.Prelude.{◌||◌, IsSome}
use Rattle.vx_disk.specs.declared.shelf.Shelf.{Ghosts}
use Rattle.vx_history.specs.World.{World}
use Rattle.vx_order.specs.Order.{line_refusal}
use Rattle.vx_order.specs.Sites.{named_facts, unknown_one}
use Rattle.vx_order.specs.Subject.{first_name, second_name}
use Rattle.vx_script.specs.declared.line.ScriptLine.{ScriptLine}
use Rattle.vx_script.specs.declared.line.ScriptLine.TheVariants.{Deliver, Link}
use Rattle.vx_events.proofs.Places.{some_same}
use Rattle.vx_events.proofs.Refused.{named, passes}
use Rattle.vx_events.specs.Facts.{seat_of}
use Rattle.vx_events.specs.OpenLines.{is_open}
use Rattle.vx_events.specs.RvgSteps.{over_rvg_at}
use Rattle.vx_link_lines.proofs.AnswerFor.{refused_other}
use Rattle.vx_yard.proofs.Seats.{named_some}
use Rattle.vx_yard.specs.Working.{IsFree}
use Rattle.vx_yard.specs.Yards.{in_files}
use Rattle.vx_yard.specs.declared.yard.Yard.{Yard}
use Rattle.vx_node.specs.OpenSites.{open_second, open_site}

-- ---- what the tests found of the names

first_of : (line : ScriptLine) (site : List ℕ) → open_site line ≡ Some site → first_name line ≡ Some site
unfolding first_name
first_of (Link p s sync prot) site is = is
first_of other site is = absurd (cc)

second_of : (line : ScriptLine) (site : List ℕ) → open_second line ≡ Some site → second_name line ≡ Some site
unfolding second_name
second_of (Link p s sync prot) site is = is
second_of other site is = absurd (cc)

none_delivered : (line : ScriptLine) (site : List ℕ) → open_site line ≡ Some site → (number : ℕ) → line ≡ Deliver number → ⊥
none_delivered (Deliver k) site is number same = absurd (cc)
none_delivered other site is number same = absurd (cc)

module _ {R : Type 0} {g : Ghosts R} where
  tests_free : (y : Yard R g) (line : ScriptLine) (site : List ℕ) → open_site line ≡ Some site → IsFree y line → line_refusal y.facts.items (in_files y) line ≡ None
  tests_free y line site is free = refused_other y line (none_delivered line site is) ∙ free

  pub finds_first : (y : Yard R g) (line : ScriptLine) (site : List ℕ) → open_site line ≡ Some site → IsFree y line → IsSome (seat_of y.facts.items site)
  finds_first y line site is free =
      let p = passes y.facts.items (in_files y) line (tests_free y line site is free) in
      named_some y site (named y.facts.items site (subst (λ (o : Option (List ℕ)). unknown_one o (named_facts y.facts.items o) ≡ None) (first_of line site is) p.known))

  pub finds_second : (y : Yard R g) (line : ScriptLine) (site second : List ℕ) → open_site line ≡ Some site → open_second line ≡ Some second → IsFree y line → IsSome (seat_of y.facts.items second)
  finds_second y line site second is other free =
      let p = passes y.facts.items (in_files y) line (tests_free y line site is free) in
      named_some y second (named y.facts.items second (subst (λ (o : Option (List ℕ)). unknown_one o (named_facts y.facts.items o) ≡ None) (second_of line second other) p.other_known))

-- ---- whether it is open

module _ (w : World) where
  pub open_nowhere : (line : ScriptLine) → open_site line ≡ None → is_open w line ≡ false
  open_nowhere (Link p s sync prot) none = absurd (cc)
  open_nowhere other none = refl

  -- at the site of its name
  over_first : (name site : List ℕ) (b : Bool) → (let o : Option (List ℕ) = Some name in o ≡ Some site) → over_rvg_at w site ≡ b → over_rvg_at w name ≡ b
  over_first name site b is over = ap (λ (n : List ℕ). over_rvg_at w n) (some_same is) ∙ over

  either_first : (name site second : List ℕ) (b : Bool) → (let o : Option (List ℕ) = Some name in o ≡ Some site) → over_rvg_at w site ≡ b → (over_rvg_at w name || over_rvg_at w second) ≡ (b || over_rvg_at w second)
  either_first name site second b is over = ap (λ (x : Bool). x || over_rvg_at w second) (over_first name site b is over)

  pub open_there : (line : ScriptLine) (site : List ℕ) → open_site line ≡ Some site → over_rvg_at w site ≡ true → is_open w line ≡ true
  open_there (Link p s sync prot) site is over = either_first p site s true is over
  open_there other site is over = absurd (cc)

  -- where the first site has none
  pub open_not : (line : ScriptLine) (site : List ℕ) → open_site line ≡ Some site → open_second line ≡ None → over_rvg_at w site ≡ false → is_open w line ≡ false
  open_not (Link p s sync prot) site is none off = absurd (cc)
  open_not other site is none off = absurd (cc)

  second_there : (p site s second : List ℕ) → (let o : Option (List ℕ) = Some p in o ≡ Some site) → (let o : Option (List ℕ) = Some s in o ≡ Some second) → over_rvg_at w site ≡ false
      → over_rvg_at w second ≡ (over_rvg_at w p || over_rvg_at w s)
  second_there p site s second is same off = ap (λ (n : List ℕ). over_rvg_at w n) (sym (some_same same)) ∙ sym (either_first p site s false is off)

  pub open_by_second : (line : ScriptLine) (site second : List ℕ) → open_site line ≡ Some site → open_second line ≡ Some second → over_rvg_at w site ≡ false → over_rvg_at w second ≡ is_open w line
  open_by_second (Link p s sync prot) site second is same off = second_there p site s second is same off
  open_by_second other site second is same off = absurd (cc)
