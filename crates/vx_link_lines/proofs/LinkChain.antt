-- The worlds behind the parts of a line that makes a link, and that each header keeps what was computed before the first of them.
use Rattle.std.proofs.Common.{◌≡◌, ◌∙◌, ◌+◌, ◌<◌, ℕ, zero, suc, List, [], ◌∷◌, ◌++◌, Bool, true, false, ap, sym, refl, arith, ⊎_elim}
use Rattle.std.specs.Prelude.{None, not, ◌&&◌, ◌||◌, eqb}
use Rattle.std.proofs.lemmas.Bool.{cases_eq, false_from_ne_true, not-true}
use Rattle.vx_model.specs.Sites.{first_line, same_line}
use Rattle.vx_model.specs.declared.link.Prot.TheVariants.{Fail as FailsWhenFull}
use Rattle.vx_model.specs.declared.link.SyncMode.{SyncMode}
use Rattle.vx_model.specs.declared.site.Mark.TheVariants.{Consistent}
use Rattle.vx_model.specs.declared.state.KeptLink.{KeptLink}
use Rattle.vx_model.specs.declared.state.State.{State}
use Rattle.vx_history.proofs.Updates.{and_left, and_right, at_place, eqb_apart}
use Rattle.vx_history.specs.Doubts.{Doubted}
use Rattle.vx_history.specs.Events.{joined as joined_to, new_link, opened}
use Rattle.vx_history.specs.KeptLinks.{kept_link, kept_links}
use Rattle.vx_history.specs.Refusals.{is_empty, is_fresh, is_primary, count_links_of as count_of_links, some_below}
use Rattle.vx_history.specs.Sends.{is_linked}
use Rattle.vx_history.specs.Step.{step}
use Rattle.vx_history.specs.Stops.{IsOpen}
use Rattle.vx_history.specs.World.{Link, Node, World, updated}
use Rattle.vx_history.specs.declared.event.Event.{Event}
use Rattle.vx_history.specs.declared.event.Event.TheVariants.{Link as LinkAt}
use Rattle.vx_history.specs.declared.event.LinkPart.TheVariants.{Joins, Made, Marked, Opened}
use Rattle.vx_history.specs.declared.event.Said.TheVariants.{Done as IsDone}
use Rattle.vx_diskset.specs.Holds.{header_links, row_links, state_with}
use Rattle.vx_effects.proofs.Fitting.{fit_happened}
use Rattle.vx_effects.proofs.LinkParts.{AreTwo, joins_done, joins_effect, made_effect, made_follows, marked_effect, marked_follows, opened_follows, two_done}
use Rattle.vx_effects.proofs.LinkRows.{changed_kept}
use Rattle.vx_effects.specs.LinkParts.{kept_over}
use Rattle.vx_events.proofs.Steps.{no_sites}
use Rattle.vx_events.specs.Effects.{ChangesNode, EffectAt}
use Rattle.vx_events.specs.LinksFit.{LinksFit}
use Rattle.vx_link_lines.specs.Headed.{behind}
use Rattle.vx_link_lines.specs.Linking.{further_links, opened_links}
use Rattle.vx_link_lines.proofs.LinkParts.{made_links, made_opens, marked_opens, opened_kept, opened_opens}
use Rattle.vx_yard.proofs.Rows.{row_links_same}

-- ---- rows

-- the links of a site that an event left alone
row_stays : (d e : Doubted) (s i : ℕ) → ChangesNode s d e → (i ≡ s → ⊥) → header_links e.world i ≡ header_links d.world i
row_stays d e s i changes apart =
    row_links_same (d.world.links i) (e.world.links i) (λ k. changes.links i k apart) e.world.sites ∙ ap (λ (k : ℕ). row_links (d.world.links i) k) changes.sites

-- the links of the site that it changed
row_is : (d e : Doubted) (s : ℕ) (row : ℕ → Link) → ChangesNode s d e → ((k : ℕ) → e.world.links s k ≡ row k) → header_links e.world s ≡ row_links row d.world.sites
row_is d e s row changes is = row_links_same row (e.world.links s) is e.world.sites ∙ ap (λ (k : ℕ). row_links row k) changes.sites

none_below : (n : ℕ) (test : ℕ → Bool) → some_below n test ≡ false → (k : ℕ) → k < n → test k ≡ false
none_below zero test none k less = absurd (omega (arith, less))
none_below (suc m) test none k less =
    ⊎_elim (λ (same : k ≡ m). ap test same ∙ first (test m) (some_below m test) none) (λ apart. none_below m test (rest (test m) (some_below m test) none) k (omega (arith, less, apart)))
    (cases_eq k m)
  where
    first : (a b : Bool) → (a || b) ≡ false → a ≡ false
    first true b e = absurd (cc)
    first false b e = refl

    rest : (a b : Bool) → (a || b) ≡ false → b ≡ false
    rest true b e = absurd (cc)
    rest false b e = e

module _ (d : Doubted) (p s : ℕ) (sync : SyncMode) (fit : LinksFit d) (said : (step d.world (LinkAt p s sync FailsWhenFull Joins)).said ≡ IsDone) where
  abbrev w : World
  w = d.world

  abbrev fresh_tests : Bool
  fresh_tests = same_line (w.nodes p).line (first_line p) && is_fresh w s

  tests : (not (eqb s p) && (is_empty (w.nodes p).log && fresh_tests)) ≡ true
  tests = and_right (is_primary (w.nodes p).role) (not (eqb s p) && (is_empty (w.nodes p).log && fresh_tests)) (joins_done w p s sync FailsWhenFull said).0

  -- the two are not one site
  pub apart : s ≡ p → ⊥
  apart = eqb_apart s p (not-true (eqb s p) (and_left (not (eqb s p)) (is_empty (w.nodes p).log && fresh_tests) tests))

  pub apart_too : p ≡ s → ⊥
  apart_too e = apart (sym e)

  pub fresh : is_fresh w s ≡ true
  fresh =
      and_right (same_line (w.nodes p).line (first_line p)) (is_fresh w s)
      (and_right (is_empty (w.nodes p).log) fresh_tests (and_right (not (eqb s p)) (is_empty (w.nodes p).log && fresh_tests) tests))

  unlinked : (k : ℕ) → is_linked (w.links s k) ≡ false
  unlinked k =
      false_from_ne_true (is_linked (w.links s k))
      (λ linked. absurd (let f : false ≡ true = sym (none_below w.sites (λ j. is_linked (w.links s j)) none k ((fit.rows s).places.within k linked)) ∙ linked in cc))
    where
      none : some_below w.sites (λ j. is_linked (w.links s j)) ≡ false
      none =
          not-true (some_below w.sites (λ j. is_linked (w.links s j)))
          (and_right (is_empty (w.nodes s).log) (not (some_below w.sites (λ j. is_linked (w.links s j))))
          (and_right (is_primary (w.nodes s).role) (is_empty (w.nodes s).log && not (some_below w.sites (λ j. is_linked (w.links s j)))) fresh))

  -- the one that joins has no links
  pub second_links : header_links w s ≡ []
  second_links = ap (λ (ss : List ℕ). kept_links (w.links s) ss) (no_sites (w.links s) w.sites 0 w.sites unlinked)

  -- ---- the worlds

  abbrev joins : Event
  joins = LinkAt p s sync FailsWhenFull Joins

  abbrev makes : Event
  makes = LinkAt p s sync FailsWhenFull Made

  abbrev marks : Event
  marks = LinkAt p s sync FailsWhenFull Marked

  abbrev opens : Event
  opens = LinkAt p s sync FailsWhenFull Opened

  abbrev one : Doubted
  one = behind d joins

  abbrev two : Doubted
  two = behind one makes

  abbrev three : Doubted
  three = behind two marks

  abbrev four : Doubted
  four = behind three opens

  pub said_two : (step one.world makes).said ≡ IsDone
  said_two = made_follows w p s sync FailsWhenFull said

  pub said_three : (step two.world marks).said ≡ IsDone
  said_three = marked_follows w p s sync FailsWhenFull said

  pub said_four : (step three.world opens).said ≡ IsDone
  said_four = opened_follows w p s sync FailsWhenFull said

  pub fit_one : LinksFit one
  fit_one = fit_happened d joins false refl fit

  pub fit_two : LinksFit two
  fit_two = fit_happened one makes false refl fit_one

  pub fit_three : LinksFit three
  fit_three = fit_happened two marks false refl fit_two

  f_one : EffectAt s d one (joined_to (w.nodes p) p (w.nodes s)) (w.links s) (w.headers s + 1) (d.after s) w.packets None
  f_one = joins_effect d p s sync FailsWhenFull false said

  abbrev made_link : Link
  made_link = new_link (count_of_links one.world p) sync FailsWhenFull (one.world.nodes s)

  f_two : EffectAt p one two (one.world.nodes p) (updated (one.world.links p) s made_link) (one.world.headers p + 1) (one.after p) one.world.packets (one.world.gathering p)
  f_two = made_effect one p s sync FailsWhenFull false said_two

  f_three : EffectAt s two three (record (two.world.nodes s) { mark = Consistent }) (two.world.links s) (two.world.headers s + 1) (two.after s) two.world.packets (two.world.gathering s)
  f_three = marked_effect two p s sync FailsWhenFull false said_three

  -- ---- places

  pub below_one : (i : ℕ) → i < w.sites → i < one.world.sites
  below_one i below = omega (arith, below, f_one.site.sites)

  pub below_two : (i : ℕ) → i < w.sites → i < two.world.sites
  below_two i below = omega (arith, below, f_one.site.sites, f_two.site.sites)

  pub below_three : (i : ℕ) → i < w.sites → i < three.world.sites
  below_three i below = omega (arith, below, f_one.site.sites, f_two.site.sites, f_three.site.sites)

  -- ---- nodes

  pub second_one : one.world.nodes s ≡ joined_to (w.nodes p) p (w.nodes s)
  second_one = f_one.is.node

  pub second_two : two.world.nodes s ≡ joined_to (w.nodes p) p (w.nodes s)
  second_two = f_two.site.nodes s apart ∙ second_one

  pub first_one : one.world.nodes p ≡ w.nodes p
  first_one = f_one.site.nodes p apart_too

  pub first_two : two.world.nodes p ≡ w.nodes p
  first_two = f_two.is.node ∙ first_one

  pub first_three : three.world.nodes p ≡ w.nodes p
  first_three = f_three.site.nodes p apart_too ∙ first_two

  pub open_here : IsOpen (w.nodes s)
  open_here = let t : AreTwo w p s = (two_done w p s sync FailsWhenFull Joins said).0 in (t.up_too, t.running_too)

  pub open_one : IsOpen (one.world.nodes p)
  open_one = made_opens one p s sync said_two

  pub open_two : IsOpen (two.world.nodes s)
  open_two = marked_opens two p s sync said_three

  pub open_three : IsOpen (three.world.nodes p)
  open_three = opened_opens three p s sync said_four

  -- ---- what the headers keep

  module _ (session : ℕ) where
    links_two : header_links two.world p ≡ further_links w p s sync session
    links_two =
        made_links one p s sync said_two (fit_one.rows p).places
        ∙ ap (λ (ls : List KeptLink). ls ++ kept_link s made_link ∷ []) (row_stays d one s p f_one.site apart_too)

    links_three : header_links three.world p ≡ further_links w p s sync session
    links_three = row_stays two three s p f_three.site apart_too ∙ links_two

    link_there : three.world.links p s ≡ made_link
    link_there = f_three.site.links p s apart_too ∙ f_two.is.links s ∙ at_place (one.world.links p) s made_link

    links_four : header_links four.world p ≡ opened_links w p s sync session (w.nodes p).safe
    links_four =
        sym (opened_kept three p s sync said_four)
        ∙ changed_kept (three.world.links p) three.world.sites s (opened (three.world.links p s) (three.world.nodes p).safe) refl
        ∙ ap (λ (l : Link). kept_over (kept_link s (opened l (three.world.nodes p).safe)) (header_links three.world p)) link_there
        ∙ ap (λ (n : Node). kept_over (kept_link s (opened made_link n.safe)) (header_links three.world p)) first_three
        ∙ ap (λ (ls : List KeptLink). kept_over (kept_link s (opened made_link (w.nodes p).safe)) ls) links_three

  second_two_links : header_links two.world s ≡ []
  second_two_links = row_stays one two p s f_two.site apart ∙ row_is d one s (w.links s) f_one.site f_one.is.links ∙ second_links

  pub made_is : (made : State) (session : ℕ) → made ≡ state_with (w.nodes p) (further_links w p s sync session) → made ≡ state_with (one.world.nodes p) (header_links (step one.world makes).world p)
  made_is made session is =
      is ∙ ap (λ (n : Node). state_with n (further_links w p s sync session)) (sym first_one) ∙ ap (λ (ls : List KeptLink). state_with (one.world.nodes p) ls) (sym (links_two session))

  pub marked_is : (marked : State) → marked ≡ (let m : State = record (state_with (joined_to (w.nodes p) p (w.nodes s)) []) { mark = Consistent } in m)
      → marked ≡ (let m : State = record (state_with (two.world.nodes s) (header_links two.world s)) { mark = Consistent } in m)
  marked_is marked is =
      is
      ∙ ap (λ (n : Node). let m : State = record (state_with n []) { mark = Consistent } in m) (sym second_two)
      ∙ ap (λ (ls : List KeptLink). let m : State = record (state_with (two.world.nodes s) ls) { mark = Consistent } in m) (sym second_two_links)

  pub opened_is : (opened : State) (session last : ℕ) → last ≡ (w.nodes p).safe → opened ≡ state_with (w.nodes p) (opened_links w p s sync session last)
      → opened ≡ state_with (three.world.nodes p) (header_links (step three.world opens).world p)
  opened_is opened session last safe is =
      is
      ∙ ap (λ (k : ℕ). state_with (w.nodes p) (opened_links w p s sync session k)) safe
      ∙ ap (λ (n : Node). state_with n (opened_links w p s sync session (w.nodes p).safe)) (sym first_three)
      ∙ ap (λ (ls : List KeptLink). state_with (three.world.nodes p) ls) (sym (links_four session))
