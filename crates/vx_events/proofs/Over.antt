-- In a world without groups of disks a line does what it does there; and a line that works on a group ends as events do.
use Rattle.std.proofs.Common.{◌≡◌, ◌∙◌, ℕ, zero, suc, ◌+◌, Bool, true, false, List, [], ◌∷◌, length, refl, ap, sym, subst, inl, inr}
use Rattle.std.specs.Prelude.{◌&&◌, eqb, is_some, Option, Some, None}
use Rattle.vx_model.specs.declared.no.No.{No}
use Rattle.vx_history.specs.Doubts.{Doubted}
use Rattle.vx_history.specs.Groups.{GroupNode}
use Rattle.vx_history.specs.Stops.{AllDone as EventsDone}
use Rattle.vx_history.specs.World.{World}
use Rattle.vx_order.specs.Order.{line_refusal}
use Rattle.vx_order.specs.declared.facts.SiteFacts.{SiteFacts}
use Rattle.vx_script.specs.declared.line.ScriptLine.{ScriptLine}
use Rattle.vx_script.specs.declared.line.ScriptLine.TheVariants.{GroupInit, GroupDeport, GroupImport, Volume, PlexDetach, PlexAttach, Disk, Crash, Fuse, Recover, Write, Put, Read, Show, Status, Deliver}
use Rattle.vx_events.proofs.GroupStopping.{group_stops}
use Rattle.vx_events.proofs.Noting.{same_like}
use Rattle.vx_events.proofs.OverSeats.{fact_apart}
use Rattle.vx_events.specs.Facts.{site_number, values_from}
use Rattle.vx_events.specs.Fails.{Fails}
use Rattle.vx_events.specs.GroupEnds.{GroupStops}
use Rattle.vx_events.specs.GroupLines.{is_over_group}
use Rattle.vx_events.specs.LinkedFacts.{linked_fact, linked_facts, refused_by}
use Rattle.vx_events.specs.Lines.{LineStep, StepBy}
use Rattle.vx_events.specs.Plain.{HasNoGroups}
use Rattle.vx_events.specs.StepsOver.{MakesNoGroup, OverBy, StepOver, fact_over, facts_over, is_for_group, refused_over}
use Rattle.vx_events.specs.declared.said.Said.{Said}

-- functions with the same values
pub values_same : {A : Type 0} (f g : ℕ → A) → ((i : ℕ) → f i ≡ g i) → (k n : ℕ) → values_from f k n ≡ values_from g k n
values_same f g same k zero = refl
values_same {A} f g same k (suc n) =
    ap (λ (x : A). x ∷ values_from f (k + 1) n) (same k) ∙ ap (λ (xs : List A). g k ∷ xs) (values_same f g same (k + 1) n)

module _ (w : World) (groups : HasNoGroups w) where
  -- no site is over a group
  no_group : (i : ℕ) → is_over_group (w.nodes i) ≡ false
  no_group i = ap (λ (o : Option GroupNode). is_some o && eqb (length (w.nodes i).volumes) 0) (groups.none i)

  pub facts_same : facts_over w ≡ linked_facts w
  facts_same = values_same (λ i. fact_over w i) (λ i. linked_fact w i) (λ i. fact_apart w i (no_group i)) 0 w.sites

  pub refused_same : (files : Bool) (line : ScriptLine) → refused_over w files line ≡ refused_by w files line
  refused_same files (Deliver number) = refl
  refused_same files other = ap (λ (sites : List SiteFacts). line_refusal sites files other) facts_same

  not_for_group : (line : ScriptLine) → MakesNoGroup line → is_for_group w line ≡ false
  not_for_group (GroupInit site) makes = absurd makes
  not_for_group (GroupDeport site) makes = no_group (site_number w site)
  not_for_group (GroupImport site) makes = no_group (site_number w site)
  not_for_group (Volume site volume blocks mirrors layout log map policy) makes = no_group (site_number w site)
  not_for_group (PlexDetach site volume plex) makes = no_group (site_number w site)
  not_for_group (PlexAttach site volume plex) makes = no_group (site_number w site)
  not_for_group (Disk site disk state) makes = no_group (site_number w site)
  not_for_group (Crash site pick) makes = no_group (site_number w site)
  not_for_group (Fuse site calls pick) makes = no_group (site_number w site)
  not_for_group (Recover site) makes = no_group (site_number w site)
  not_for_group (Write site volume start count fill) makes = no_group (site_number w site)
  not_for_group (Put site volume start bytes) makes = no_group (site_number w site)
  not_for_group (Read site volume start count) makes = no_group (site_number w site)
  not_for_group (Show site volume start count) makes = no_group (site_number w site)
  not_for_group (Status site) makes = no_group (site_number w site)
  not_for_group other makes = refl

by_refusal : (o : Option No) (told : Type 0) (d : Doubted) (line : ScriptLine) (fails : Fails) (said : Said) (new : Doubted) → StepBy o told d line fails said new
    → OverBy o false told d line fails said new
by_refusal None told d line fails said new step = inl step
by_refusal (Some why) told d line fails said new step = step

back_refusal : (o : Option No) (told : Type 0) (d : Doubted) (line : ScriptLine) (fails : Fails) (said : Said) (new : Doubted) → told
    → OverBy o false told d line fails said new → StepBy o told d line fails said new
back_refusal None told d line fails said new tells (inl step) = step
back_refusal None told d line fails said new tells (inr kept) = absurd (kept.untold tells)
back_refusal (Some why) told d line fails said new tells step = step

pub over_plain : (told : Type 0) (files : Bool) (d : Doubted) (line : ScriptLine) (fails : Fails) (said : Said) (new : Doubted) → HasNoGroups d.world → MakesNoGroup line
    → LineStep told files d line fails said new → StepOver told files d line fails said new
over_plain told files d line fails said new groups makes step =
    subst (λ (o : Option No). OverBy o (is_for_group d.world line) told d line fails said new) (sym (refused_same d.world groups files line))
    (subst (λ (b : Bool). OverBy (refused_by d.world files line) b told d line fails said new) (sym (not_for_group d.world groups line makes))
    (by_refusal (refused_by d.world files line) told d line fails said new step))

pub plain_over : (told : Type 0) (files : Bool) (d : Doubted) (line : ScriptLine) (fails : Fails) (said : Said) (new : Doubted) → told → HasNoGroups d.world
    → MakesNoGroup line → StepOver told files d line fails said new → LineStep told files d line fails said new
plain_over told files d line fails said new tells groups makes step =
    back_refusal (refused_by d.world files line) told d line fails said new tells
    (subst (λ (b : Bool). OverBy (refused_by d.world files line) b told d line fails said new) (not_for_group d.world groups line makes)
    (subst (λ (o : Option No). OverBy o (is_for_group d.world line) told d line fails said new) (refused_same d.world groups files line) step))

pub over_stops : (told : Type 0) (files : Bool) (d : Doubted) (line : ScriptLine) (fails : Fails) (said : Said) (new : Doubted) → is_for_group d.world line ≡ true
    → StepOver told files d line fails said new → GroupStops d new
over_stops told files d line fails said new group step =
    by (refused_over d.world files line) (subst (λ (b : Bool). OverBy (refused_over d.world files line) b told d line fails said new) group step)
  where
    by : (o : Option No) → OverBy o true told d line fails said new → GroupStops d new
    by None ends = group_stops told d line _ fails said new ends
    by (Some why) refused = record { events = []; stops = EventsDone d refl refl (same_like d new refused.stays) }
