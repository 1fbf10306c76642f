-- The tests of one kind of line of links, from the one order.
use Rattle.std.proofs.Common.{◌≡◌, ap, ℕ, refl, Bool, true, false, List, [], ◌∷◌, not, ◌&&◌, ◌||◌, nat_le, if◌then◌else◌}
use Rattle.std.specs.Prelude.{Option, Some, None}
use Rattle.vx_model.specs.declared.limits.TheConstants.{MOST_LINKS}
use Rattle.vx_model.specs.declared.link.SyncMode.{SyncMode}
use Rattle.vx_model.specs.declared.link.Prot.{Prot}
use Rattle.vx_model.specs.declared.no.Counted.TheVariants.{Links}
use Rattle.vx_model.specs.declared.no.No.{No}
use Rattle.vx_model.specs.declared.no.No.TheVariants.{Size, Role, Down, Limit}
use Rattle.vx_model.specs.Sites.{is_up}
use Rattle.vx_script.specs.declared.line.ScriptLine.TheVariants.{Link, Set, Connect, Cut, Pause, Resume, Tick, Pump, Settle, Wait}
use Rattle.vx_order.specs.declared.ask.Ask.TheVariants.{Makes, Sets, Turns, Pumps, Settles, Waits}
use Rattle.vx_order.specs.declared.facts.SiteFacts.{SiteFacts}
use Rattle.vx_order.specs.declared.subject.Need.TheVariants.{FirstUp, BothUp}
use Rattle.vx_order.specs.declared.subject.Halt.TheVariants.{First, Both}
use Rattle.vx_order.specs.Asks.{ask_of}
use Rattle.vx_order.specs.Joining.{can_link, linked_already, volumes_agree, ring_fits, ask_taken, ask_limit, ask_size}
use Rattle.vx_order.specs.LinkKinds.{link_refusal, set_refusal, turn_refusal, pump_refusal, settle_refusal, wait_refusal}
use Rattle.vx_order.specs.Links.{place_named, link_towards, link_count}
use Rattle.vx_order.specs.Order.{line_refusal}
use Rattle.vx_order.specs.Sending.{has_writes, sends, goes_by_nothing, leads_astray, not_linked, last_number, number_unknown, cut_off, held_up, forked, unconfirmed_at, ask_role, ask_unknown, ask_down, ask_paused, ask_replaying, ask_unconfirmed}
use Rattle.vx_order.specs.Shapes.{line_role, line_unknown, taken, over_limit, wrong_size}
use Rattle.vx_order.specs.Sites.{site_named, rvg_of, halted_one, unknown_one, down_by, halted_by}
use Rattle.vx_order.specs.Spans.{span_of}
use Rattle.vx_order.specs.Subject.{first_name, second_name, need_of, halt_of}
use Rattle.vx_order.specs.Tests.{when, before, first_said_no}
use Rattle.vx_order.proofs.KindLemmas.{before_none}

-- The state and the halted disk of the first site stand before the other tests.
first_front : (off : Bool) (halted tests rest : Option No) → tests ≡ rest → before (when off Down) (before halted tests) ≡ (if off then Some Down else before halted rest)
first_front true halted tests rest e = refl
first_front false None tests rest e = e
first_front false (Some refused) tests rest e = refl

-- And those of both sites.
both_front : (off : Bool) (one two tests rest : Option No) → tests ≡ rest
    → before (when off Down) (before (before one (before two None)) tests) ≡ (if off then Some Down else before one (before two rest))
both_front true one two tests rest e = refl
both_front false (Some refused) two tests rest e = refl
both_front false None (Some refused) tests rest e = refl
both_front false None None tests rest e = e

-- The tests of a further link.
made_tests : (p q r : Bool) (a b c : No) (t : Option No)
    → before (when p a) (before t (before (when q b) (before (when r c) None))) ≡ (if p then Some a else before t (if q then Some b else if r then Some c else None))
made_tests true q r a b c t = refl
made_tests false q r a b c (Some refused) = refl
made_tests false true r a b c None = refl
made_tests false false true a b c None = refl
made_tests false false false a b c None = refl

-- A role, and up to four tests behind it.
role_one : (p : Bool) (a : No) (t : Option No) → before (when p a) (before t None) ≡ (if p then Some a else t)
role_one true a t = refl
role_one false a t = before_none t

role_two : (p : Bool) (a : No) (t u : Option No) → before (when p a) (before t (before u None)) ≡ (if p then Some a else before t u)
role_two true a t u = refl
role_two false a t u = ap (λ (o : Option No). before t o) (before_none u)

role_three : (p : Bool) (a : No) (t u v : Option No) → before (when p a) (before t (before u (before v None))) ≡ (if p then Some a else before t (before u v))
role_three true a t u v = refl
role_three false a t u v = ap (λ (o : Option No). before t (before u o)) (before_none v)

role_four : (p : Bool) (a : No) (t u v x : Option No) → before (when p a) (before t (before u (before v (before x None)))) ≡ (if p then Some a else before t (before u (before v x)))
role_four true a t u v x = refl
role_four false a t u v x = ap (λ (o : Option No). before t (before u (before v o))) (before_none x)

module _ (here there : Option ℕ) where
  link_tests : (first second : Option SiteFacts) (p s : List ℕ)
      → first_said_no (unknown_one (Some p) first ∷ unknown_one (Some s) second ∷ down_by BothUp first second ∷ halted_by Both first second ∷ ask_role (Some Makes) here there first second ∷ ask_taken (Some Makes) there first second ∷ ask_limit (Some Makes) first ∷ ask_size (Some Makes) first second ∷ [])
      ≡ link_refusal here there first second p s
  unfolding first_said_no
  link_tests None second p s = refl
  link_tests (Some a) None p s = refl
  link_tests (Some a) (Some b) p s =
      both_front (not (is_up a.state) || not (is_up b.state)) (halted_one (Some a)) (halted_one (Some b)) _ _
      (made_tests (not (can_link here there (Some a) (Some b))) (nat_le MOST_LINKS (link_count (Some a))) (not (volumes_agree (Some a) (Some b) && ring_fits (rvg_of (Some a)) (rvg_of (Some b)))) Role (Limit Links MOST_LINKS) Size
      (linked_already (link_towards (Some a) there) (Some b)))

  set_tests : (first second : Option SiteFacts) (p s : List ℕ)
      → first_said_no (unknown_one (Some p) first ∷ unknown_one (Some s) second ∷ down_by FirstUp first second ∷ halted_by First first second ∷ ask_role (Some Sets) here there first second ∷ ask_unknown (Some Sets) there first second ∷ [])
      ≡ set_refusal there first second p s
  unfolding first_said_no
  set_tests None second p s = refl
  set_tests (Some a) None p s = refl
  set_tests (Some a) (Some b) p s =
      first_front (not (is_up a.state)) (halted_one (Some a)) _ _ (role_one (not (has_writes (rvg_of (Some a)))) Role (not_linked (link_towards (Some a) there) (Some b)))

  turn_tests : (first second : Option SiteFacts) (p s : List ℕ)
      → first_said_no (unknown_one (Some p) first ∷ unknown_one (Some s) second ∷ down_by FirstUp first second ∷ halted_by First first second ∷ ask_role (Some Turns) here there first second ∷ ask_unknown (Some Turns) there first second ∷ [])
      ≡ turn_refusal there first second p s
  unfolding first_said_no
  turn_tests None second p s = refl
  turn_tests (Some a) None p s = refl
  turn_tests (Some a) (Some b) p s =
      first_front (not (is_up a.state)) (halted_one (Some a)) _ _ (role_one (not (sends (rvg_of (Some a)))) Role (not_linked (link_towards (Some a) there) (Some b)))

  pump_tests : (first second : Option SiteFacts) (p s : List ℕ)
      → first_said_no (unknown_one (Some p) first ∷ unknown_one (Some s) second ∷ down_by FirstUp first second ∷ halted_by First first second ∷ ask_role (Some Pumps) here there first second ∷ ask_unknown (Some Pumps) there first second ∷ ask_down (Some Pumps) there first second ∷ ask_paused (Some Pumps) there first ∷ [])
      ≡ pump_refusal there first second p s
  unfolding first_said_no
  pump_tests None second p s = refl
  pump_tests (Some a) None p s = refl
  pump_tests (Some a) (Some b) p s =
      first_front (not (is_up a.state)) (halted_one (Some a)) _ _
      (role_three (not (sends (rvg_of (Some a)))) Role (not_linked (link_towards (Some a) there) (Some b)) (cut_off (link_towards (Some a) there) (Some b)) (held_up (link_towards (Some a) there)))

  settle_tests : (first second : Option SiteFacts) (p s : List ℕ)
      → first_said_no (unknown_one (Some p) first ∷ unknown_one (Some s) second ∷ down_by BothUp first second ∷ halted_by Both first second ∷ ask_role (Some Settles) here there first second ∷ ask_unknown (Some Settles) there first second ∷ ask_down (Some Settles) there first second ∷ ask_paused (Some Settles) there first ∷ ask_replaying (Some Settles) there first second ∷ [])
      ≡ settle_refusal there first second p s
  unfolding first_said_no
  settle_tests None second p s = refl
  settle_tests (Some a) None p s = refl
  settle_tests (Some a) (Some b) p s =
      both_front (not (is_up a.state) || not (is_up b.state)) (halted_one (Some a)) (halted_one (Some b)) _ _
      (role_four ((not (sends (rvg_of (Some a))) || goes_by_nothing (link_towards (Some a) there)) || leads_astray (link_towards (Some a) there) (rvg_of (Some a)) (rvg_of (Some b))) Role (not_linked (link_towards (Some a) there) (Some b)) (cut_off (link_towards (Some a) there) (Some b)) (held_up (link_towards (Some a) there))
      (forked (link_towards (Some a) there) (Some b)))

  wait_tests : (first : Option SiteFacts) (p : List ℕ) (number : ℕ)
      → first_said_no (unknown_one (Some p) first ∷ down_by FirstUp first None ∷ halted_by First first None ∷ ask_role (Some (Waits number)) here there first None ∷ ask_unknown (Some (Waits number)) there first None ∷ ask_unconfirmed (Some (Waits number)) first ∷ [])
      ≡ wait_refusal first p number
  unfolding first_said_no
  wait_tests None p number = refl
  wait_tests (Some a) p number =
      first_front (not (is_up a.state)) (halted_one (Some a)) _ _
      (role_two (not (has_writes (rvg_of (Some a)))) Role (number_unknown number (last_number (rvg_of (Some a)))) (unconfirmed_at (Some a) number))

module _ (sites : List SiteFacts) (files : Bool) (p s : List ℕ) where
  abbrev here : Option ℕ
  here = place_named sites (Some p)

  abbrev there : Option ℕ
  there = place_named sites (Some s)

  pub link_lines_are : (sync : SyncMode) (prot : Prot) → line_refusal sites files (Link p s sync prot) ≡ link_refusal here there (site_named sites p) (site_named sites s) p s
  unfolding line_refusal first_said_no first_name second_name need_of halt_of line_role line_unknown taken over_limit wrong_size span_of ask_of
  link_lines_are sync prot = link_tests here there (site_named sites p) (site_named sites s) p s

  pub set_lines_are : (sync : SyncMode) (prot : Prot) → line_refusal sites files (Set p s sync prot) ≡ set_refusal there (site_named sites p) (site_named sites s) p s
  unfolding line_refusal first_said_no first_name second_name need_of halt_of line_role line_unknown taken over_limit wrong_size span_of ask_of
  set_lines_are sync prot = set_tests here there (site_named sites p) (site_named sites s) p s

  pub connect_lines_are : line_refusal sites files (Connect p s) ≡ turn_refusal there (site_named sites p) (site_named sites s) p s
  unfolding line_refusal first_said_no first_name second_name need_of halt_of line_role line_unknown taken over_limit wrong_size span_of ask_of
  connect_lines_are = turn_tests here there (site_named sites p) (site_named sites s) p s

  pub cut_lines_are : line_refusal sites files (Cut p s) ≡ turn_refusal there (site_named sites p) (site_named sites s) p s
  unfolding line_refusal first_said_no first_name second_name need_of halt_of line_role line_unknown taken over_limit wrong_size span_of ask_of
  cut_lines_are = turn_tests here there (site_named sites p) (site_named sites s) p s

  pub pause_lines_are : line_refusal sites files (Pause p s) ≡ turn_refusal there (site_named sites p) (site_named sites s) p s
  unfolding line_refusal first_said_no first_name second_name need_of halt_of line_role line_unknown taken over_limit wrong_size span_of ask_of
  pause_lines_are = turn_tests here there (site_named sites p) (site_named sites s) p s

  pub resume_lines_are : line_refusal sites files (Resume p s) ≡ turn_refusal there (site_named sites p) (site_named sites s) p s
  unfolding line_refusal first_said_no first_name second_name need_of halt_of line_role line_unknown taken over_limit wrong_size span_of ask_of
  resume_lines_are = turn_tests here there (site_named sites p) (site_named sites s) p s

  pub tick_lines_are : line_refusal sites files (Tick p s) ≡ turn_refusal there (site_named sites p) (site_named sites s) p s
  unfolding line_refusal first_said_no first_name second_name need_of halt_of line_role line_unknown taken over_limit wrong_size span_of ask_of
  tick_lines_are = turn_tests here there (site_named sites p) (site_named sites s) p s

  pub pump_lines_are : line_refusal sites files (Pump p s) ≡ pump_refusal there (site_named sites p) (site_named sites s) p s
  unfolding line_refusal first_said_no first_name second_name need_of halt_of line_role line_unknown taken over_limit wrong_size span_of ask_of
  pump_lines_are = pump_tests here there (site_named sites p) (site_named sites s) p s

  pub settle_lines_are : line_refusal sites files (Settle p s) ≡ settle_refusal there (site_named sites p) (site_named sites s) p s
  unfolding line_refusal first_said_no first_name second_name need_of halt_of line_role line_unknown taken over_limit wrong_size span_of ask_of
  settle_lines_are = settle_tests here there (site_named sites p) (site_named sites s) p s

pub wait_lines_are : (sites : List SiteFacts) (files : Bool) (p : List ℕ) (number : ℕ) → line_refusal sites files (Wait p number) ≡ wait_refusal (site_named sites p) p number
unfolding line_refusal first_said_no first_name second_name need_of halt_of line_role line_unknown taken over_limit wrong_size span_of ask_of
wait_lines_are sites files p number = wait_tests (place_named sites (Some p)) None (site_named sites p) p number
