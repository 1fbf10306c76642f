-- The sites that a line names which makes a link are found, and its first event is not refused.
use Rattle.std.proofs.Common.{◌≡◌, ◌∙◌, ℕ, List, Bool, false, ap, sym, subst}
use Rattle.std.specs.Prelude.{IsSome, Some, None}
use Rattle.vx_model.specs.declared.link.Prot.TheVariants.{Fail as FailsWhenFull}
use Rattle.vx_model.specs.declared.link.Prot.{Prot}
use Rattle.vx_model.specs.declared.link.SyncMode.{SyncMode}
use Rattle.vx_model.specs.declared.site.SiteState.{SiteState}
use Rattle.vx_history.specs.Doubts.{Doubted}
use Rattle.vx_history.specs.Step.{step}
use Rattle.vx_history.specs.World.{World}
use Rattle.vx_history.specs.declared.event.Event.TheVariants.{Link as LinkAt}
use Rattle.vx_history.specs.declared.event.LinkPart.TheVariants.{Joins}
use Rattle.vx_history.specs.declared.event.Said.TheVariants.{Done as IsDone}
use Rattle.vx_order.specs.Asks.{ask_of}
use Rattle.vx_order.specs.Order.{line_refusal}
use Rattle.vx_order.specs.Subject.{first_name, halt_of, need_of, second_name}
use Rattle.vx_order.specs.declared.facts.SiteFacts.{SiteFacts}
use Rattle.vx_script.specs.declared.line.ScriptLine.TheVariants.{Link}
use Rattle.vx_disk.specs.declared.shelf.Shelf.{Ghosts}
use Rattle.vx_effects.proofs.LinkParts.{AreTwo, two_done}
use Rattle.vx_events.proofs.LinkJoining.{join_agrees, join_apart}
use Rattle.vx_events.proofs.Refused.{passes}
use Rattle.vx_events.specs.Facts.{seat_of, site_number}
use Rattle.vx_events.specs.GroupLines.{is_over_group}
use Rattle.vx_events.specs.LinkedFacts.{linked_fact, links_by, links_of_site}
use Rattle.vx_events.specs.RvgLinks.{links_rvg}
use Rattle.vx_events.specs.RvgSteps.{over_rvg_at}
use Rattle.vx_events.specs.StepsOver.{refused_over}
use Rattle.vx_linked.proofs.Finding.{seat_found}
use Rattle.vx_link_lines.specs.Linking.{AreLinkStates, IsLinking}
use Rattle.vx_yard.specs.Standing.{StandsFor}
use Rattle.vx_yard.specs.Working.{IsFree}
use Rattle.vx_yard.specs.Yards.{in_files}
use Rattle.vx_link_lines.specs.declared.linking.LinkStates.{LinkStates}
use Rattle.vx_yard.specs.declared.yard.Yard.{Yard}
use Rattle.vx_link_lines.proofs.AllDurable.{durable_for}
use Rattle.vx_link_lines.proofs.RawParts.{first_off, none_seat, second_off}
use Rattle.vx_yard.proofs.LinkLines.{listed}
use Rattle.vx_yard.proofs.NamedSite.{PlaceAt, place_at}

pub link_first : (sites : List SiteFacts) (files : Bool) (first second : List ℕ) (sync : SyncMode) (prot : Prot) → line_refusal sites files (Link first second sync prot) ≡ None → IsSome (seat_of sites first)
unfolding first_name second_name need_of halt_of ask_of
link_first sites files first second sync prot free = seat_found sites first (passes sites files (Link first second sync prot) free).known

pub link_second : (sites : List SiteFacts) (files : Bool) (first second : List ℕ) (sync : SyncMode) (prot : Prot) → line_refusal sites files (Link first second sync prot) ≡ None → IsSome (seat_of sites second)
unfolding first_name second_name need_of halt_of ask_of
link_second sites files first second sync prot free = seat_found sites second (passes sites files (Link first second sync prot) free).other_known

module _ {R : Type 0} {g : Ghosts R} (d : Doubted) (old : Yard R g) (first second : List ℕ) (sync : SyncMode) (prot : Prot) (p s : ℕ) (stands : StandsFor d old)
    (free : IsFree old (Link first second sync prot)) (seat : seat_of old.facts.items first ≡ Some p) (seat_too : seat_of old.facts.items second ≡ Some s) where
  abbrev w : World
  w = d.world

  here : PlaceAt d old first p
  here = place_at d old first p stands seat

  there : PlaceAt d old second s
  there = place_at d old second s stands seat_too

  tested : refused_over w (in_files old) (Link first second sync prot) ≡ None
  tested = ap (λ (fs : List SiteFacts). line_refusal fs (in_files old) (Link first second sync prot)) (sym stands.facts) ∙ free

  -- neither of the two is over a group
  pub link_apart : is_over_group (w.nodes p) ≡ false
  link_apart = subst (λ (k : ℕ). is_over_group (w.nodes k) ≡ false) here.number (join_apart w (in_files old) first second sync prot tested).0

  pub link_apart_too : is_over_group (w.nodes s) ≡ false
  link_apart_too = subst (λ (k : ℕ). is_over_group (w.nodes k) ≡ false) there.number (join_apart w (in_files old) first second sync prot tested).1

  pub link_said : (step w (LinkAt p s sync FailsWhenFull Joins)).said ≡ IsDone
  link_said =
      subst (λ (k : ℕ). (step w (LinkAt k s sync FailsWhenFull Joins)).said ≡ IsDone) here.number
      (subst (λ (k : ℕ). (step w (LinkAt (site_number w first) k sync FailsWhenFull Joins)).said ≡ IsDone) there.number
      (join_agrees w (in_files old) first second sync prot (durable_for d old stands) (listed d stands.links) tested))

  pub link_two : AreTwo w p s
  link_two = (two_done w p s sync FailsWhenFull Joins link_said).0

  -- what the tests see of the links of the first site
  pub link_links : (f : SiteFacts) → f ≡ linked_fact w p → f.links ≡ links_of_site w p
  link_links f is = ap (λ (x : SiteFacts). x.links) is ∙ ap (λ (t : SiteState). links_by t (links_of_site w p)) link_two.up

  module _ (off : links_rvg w (Link first second sync prot) ≡ false) where
    abbrev is_first : Bool
    is_first = over_rvg_at w first

    abbrev is_second : Bool
    is_second = over_rvg_at w second

    pub links_it : (states : LinkStates) → AreLinkStates w p s sync states → IsLinking d first second p s sync states
    links_it states are = record {
      below = here.below;
      below_too = there.below;
      apart = none_seat d old first p stands seat link_apart (first_off is_first is_second off);
      apart_too = none_seat d old second s stands seat_too link_apart_too (second_off is_first is_second off);
      number = here.number;
      number_too = there.number;
      said = link_said;
      are = are;
    }
