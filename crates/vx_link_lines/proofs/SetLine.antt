-- A line that gives a link another setting leads a yard to what its event makes of the world.
use Rattle.std.proofs.Common.{◌≡◌, ◌∙◌, ◌+◌, ℕ, false, List, [], ◌∷◌, ap, arith, sym, subst, refl}
use Rattle.std.specs.Prelude.{Some, None, not, slice_get, slice_set, Result, Ok, Err}
use Rattle.vx_history.specs.Doubts.{Doubted, Runs}
use Rattle.vx_history.specs.Listed.{HasPlaces}
use Rattle.vx_history.specs.Refusals.{Outcome, at_site, at_work, unless}
use Rattle.vx_history.specs.Sends.{is_linked, with_link}
use Rattle.vx_history.specs.Step.{done, step}
use Rattle.vx_history.specs.Steps.{worked, worked_on}
use Rattle.vx_history.specs.Stops.{IsOpen, all_fails}
use Rattle.vx_history.specs.World.{Link, Node, World, updated}
use Rattle.vx_history.specs.declared.event.Event.{Event}
use Rattle.vx_history.specs.declared.event.Event.TheVariants.{Set as SetAt}
use Rattle.vx_history.specs.declared.event.Said.{Said as EventSaid}
use Rattle.vx_history.specs.declared.event.Said.TheVariants.{Done as IsDone, Refused as IsRefused}
use Rattle.vx_model.specs.Sites.{is_origin}
use Rattle.vx_model.specs.declared.link.Prot.TheVariants.{Fail as FailsWhenFull}
use Rattle.vx_model.specs.declared.link.Prot.{Prot}
use Rattle.vx_model.specs.declared.link.SyncMode.{SyncMode}
use Rattle.vx_model.specs.declared.no.Named.TheVariants.{Number as ByNumber}
use Rattle.vx_model.specs.declared.no.No.{No}
use Rattle.vx_model.specs.declared.no.No.TheVariants.{Role as WrongRole, Unknown}
use Rattle.vx_model.specs.declared.site.SiteState.TheVariants.{Up as IsUp}
use Rattle.vx_model.specs.declared.state.State.{State}
use Rattle.vx_order.specs.Order.{line_refusal}
use Rattle.vx_order.specs.declared.facts.SiteFacts.{SiteFacts}
use Rattle.vx_script.specs.declared.line.ScriptLine.{ScriptLine}
use Rattle.vx_script.specs.declared.line.ScriptLine.TheVariants.{Set}
use Rattle.vx_disk.specs.Racks.{IsRack}
use Rattle.vx_disk.specs.declared.shelf.Shelf.{Ghosts}
use Rattle.vx_diskset.specs.Asked.{HeadUnder, LeavesFuse}
use Rattle.vx_diskset.specs.Burning.{NoMore}
use Rattle.vx_diskset.proofs.Worked.{stands_worked}
use Rattle.vx_diskset.specs.Holds.{KeptBeside, beside_of, header_links, row_links, state_with}
use Rattle.vx_diskset.specs.Keeps.{CanKeep, KeptAt}
use Rattle.vx_diskset.specs.Stands.{KeepsRole, SiteStands}
use Rattle.vx_diskset.specs.declared.disk_set.DiskSet.{DiskSet}
use Rattle.vx_effects.proofs.Fitting.{fit_happened}
use Rattle.vx_effects.proofs.Rises.{set_effect}
use Rattle.vx_effects.proofs.Tests
use Rattle.vx_events.proofs.LinkAgreeing.{set_agrees, set_link}
use Rattle.vx_events.proofs.LinkTesting.{OnLink}
use Rattle.vx_events.specs.Effects.{EffectAt}
use Rattle.vx_events.specs.Facts.{seat_of, site_number}
use Rattle.vx_events.specs.Fuses.{MayPass, header_calls}
use Rattle.vx_events.specs.GroupLines.{is_over_group}
use Rattle.vx_events.specs.LinkEnds.{LinkEnds, LinkReplies, LinksDone, link_noted}
use Rattle.vx_events.specs.StepsOver.{facts_over, refused_over}
use Rattle.vx_events.specs.LinkLists.{link_events}
use Rattle.vx_events.specs.Sayings.{RepeatsSaid}
use Rattle.vx_events.specs.declared.said.Said.{Said}
use Rattle.vx_events.specs.declared.said.Said.TheVariants.{Done, Refused}
use Rattle.vx_linked.proofs.PartFacts.{sets}
use Rattle.vx_link_lines.proofs.OverGroups.{linked_off}
use Rattle.vx_link_lines.specs.Headed.{NextFor, behind, noted_by}
use Rattle.vx_events.specs.RvgViews.{is_over_rvg}
use Rattle.vx_yard.specs.Standing.{Leads, StandsFor}
use Rattle.vx_yard.specs.Working.{IsFree}
use Rattle.vx_yard.specs.Writes.{noted_facts}
use Rattle.vx_yard.specs.Yards.{IsTold, in_files}
use Rattle.vx_yard.specs.declared.yard.Yard.{Yard}
use Rattle.vx_yard.proofs.Carrying.{LetsGoBy, SameLoad}
use Rattle.vx_link_lines.proofs.HeadedEnds.{IsBehind, headed_ends}
use Rattle.vx_yard.proofs.HeadNeeds.{head_passes, head_works, refused_undone}
use Rattle.vx_yard.proofs.NamedSite.{PlaceAt, SiteAt, place_at, site_at}
use Rattle.vx_link_lines.proofs.NotedYard.{carries_noted, note_one, notes_one, stands_noted, sure_open}
use Rattle.vx_yard.proofs.OneSite.{Changed}
use Rattle.vx_yard.proofs.OverGroup.{none_noted}
use Rattle.vx_link_lines.proofs.PartLine.{IsKeptHeader, kept_done, kept_refused}
use Rattle.vx_yard.proofs.Rows.{row_links_same}
use Rattle.vx_link_lines.proofs.SetLink.{set_needs}

-- a setting that is done was made at a site that is up and not halted
pub set_open : (w : World) (p s : ℕ) (sync : SyncMode) → (step w (SetAt p s sync FailsWhenFull)).said ≡ IsDone → IsOpen (w.nodes p)
set_open w p s sync said =
    let Q : Outcome → Type 0 = λ (o : Outcome). o.said ≡ IsDone → IsOpen (w.nodes p) in
    let none : (why : No) → Q (let o : Outcome = record { world = w; said = IsRefused why } in o) = λ why e. absurd (let f : IsRefused why ≡ IsDone = e in cc) in
    let linked : Outcome = unless (not (is_linked (w.links p s))) (Unknown (ByNumber s)) w (done (with_link w p s (sets w p s sync))) in
    let led : Outcome = unless (not (is_origin (w.nodes p).role)) WrongRole w linked in
    Tests.site_ends Q w none p (at_site w s (at_work w p led))
    (λ _. Tests.site_ends Q w none s (at_work w p led) (λ _. Tests.work_ends Q w none p led (λ up runs _. (up, runs)))) said

module _ {R : Type 0} {g : Ghosts R} (d : Doubted) (old : Yard R g) (first second : List ℕ) (sync : SyncMode) (free_prot : Prot) (s q : ℕ) (before : DiskSet R g) (stands : StandsFor d old)
    (free : IsFree old (Set first second sync free_prot)) (seat : seat_of old.facts.items first ≡ Some s) (seat_too : seat_of old.facts.items second ≡ Some q) (at : slice_get old.disk_sets.items s ≡ Some before) where
  abbrev n : Node
  n = d.world.nodes s

  abbrev w : World
  w = d.world

  abbrev event : Event
  event = SetAt s q sync FailsWhenFull

  there : PlaceAt d old second q
  there = place_at d old second q stands seat_too

  tested : refused_over w (in_files old) (Set first second sync free_prot) ≡ None
  tested = ap (λ (fs : List SiteFacts). line_refusal fs (in_files old) (Set first second sync free_prot)) (sym stands.facts) ∙ free

  -- the link of the line
  on : OnLink w first second is_origin
  on = set_link w (in_files old) first second sync free_prot tested

  -- its site is over no group
  pub set_alone : is_over_group n ≡ false
  set_alone = subst (λ (k : ℕ). is_over_group (w.nodes k) ≡ false) (place_at d old first s stands seat).number on.apart

  -- with a replicated volume group or without one
  pub set_raw : is_over_rvg n ≡ false
  set_raw = subst (λ (k : ℕ). is_over_rvg (w.nodes k) ≡ false) (place_at d old first s stands seat).number (linked_off d old (site_number w first) (site_number w second) stands on.here on.linked)

  here : SiteAt d old first s
  here = site_at d old first s stands set_alone seat

  pub set_said : (step w event).said ≡ IsDone
  set_said =
      subst (λ (k : ℕ). (step w (SetAt k q sync FailsWhenFull)).said ≡ IsDone) here.number
      (subst (λ (k : ℕ). (step w (SetAt (site_number w first) k sync FailsWhenFull)).said ≡ IsDone) there.number (set_agrees w (in_files old) first second sync free_prot tested))

  pub set_opens : IsOpen n
  set_opens = set_open w s q sync set_said

  abbrev row : ℕ → Link
  row = updated (w.links s) q (sets w s q sync)

  effect : EffectAt s d (behind d event) n row (w.headers s + 1) (d.after s) w.packets (w.gathering s)
  effect = set_effect d s q sync FailsWhenFull false set_said

  -- the state that its header keeps then
  abbrev pub state : State
  state = state_with n (header_links (step w event).world s)

  kept : row_links row w.sites ≡ header_links (behind d event).world s
  kept = sym (row_links_same row ((behind d event).world.links s) effect.is.links (behind d event).world.sites ∙ ap (λ (k : ℕ). row_links row k) effect.site.sites)

  pub set_can : CanKeep (beside_of d s) (worked n) state
  set_can = record { up = set_opens.0; running = set_opens.1; apart = set_alone; line = refl; role = refl; needs = λ k l is needing. set_needs w s q sync (worked n) set_said k l is needing }

  header : IsKeptHeader d event s state
  header = record {
    header = record {
      row = row;
      effect = effect;
      kept = kept;
      sure = sure_open d s stands.links set_opens;
      like = record { state = refl; name = refl; disks = refl; blocks = refl; volumes = refl; group = refl; failing = refl; fuse = refl };
      fits = fit_happened d event false refl stands.links;
      fits_before = stands.links;
      sets = refl;
      opens = set_opens;
      none = none_noted n set_alone set_raw;
      writes = refl;
    };
    role = refl;
    can = set_can;
  }

  noted : StandsFor (noted_by (note_one s) d) old
  noted = stands_noted d old s before stands here.below at

  numbers : (prot : Prot) → link_events w (Set first second sync prot) ≡ event ∷ []
  numbers prot =
      ap (λ (k : ℕ). let es : List Event = SetAt k (site_number w second) sync FailsWhenFull ∷ [] in es) here.number
      ∙ ap (λ (k : ℕ). let es : List Event = SetAt s k sync FailsWhenFull ∷ [] in es) there.number

  -- ---- the call on the disks

  pub set_stood : SiteStands (beside_of d s) (worked n) before
  set_stood = stands_worked (beside_of d s) n before (stands.disk_sets.sites s before here.below at)

  pub set_kept : (after : DiskSet R g) (st : State) (result : Result (Unit {0}) No) → st ≡ state
      → ((beside : KeptBeside) (m : Node) → SiteStands beside m before → CanKeep beside m st → KeptAt beside m st before after result) → KeptAt (beside_of d s) (worked n) state before after result
  set_kept after st result is call =
      subst (λ (x : State). KeptAt (beside_of d s) (worked n) x before after result) is
      (call (beside_of d s) (worked n) set_stood (subst (λ (x : State). CanKeep (beside_of d s) (worked n) x) (sym is) set_can))

  -- the state that was asked of the disks
  pub set_state_is : (disks : DiskSet R g) (st : State) → slice_get old.disk_sets.items s ≡ Some disks
      → ((beside : KeptBeside) (m : Node) (v : World) → SiteStands beside m disks → m.state ≡ IsUp → is_over_group m ≡ false → old.facts.items ≡ facts_over v → HasPlaces v.sites (v.links s) → (step v event).said ≡ IsDone
      → st ≡ state_with m (header_links (step v event).world s)) → st ≡ state
  set_state_is disks st there_too is =
      is (beside_of d s) n w (stands.disk_sets.sites s disks here.below there_too) set_opens.0 set_alone stands.facts (stands.links.rows s).places set_said

  -- ---- the yard behind it

  module _ (new : Yard R g) (after : DiskSet R g) (changed : Changed old new s before after) (keeps : KeepsRole before after) (prot : Prot) where
    abbrev line : ScriptLine
    line = Set first second sync prot

    leads_by : {e : Doubted} {fails : List (ℕ × ℕ)} {said : Said} → LinkEnds (IsTold new) d line fails said e → (said ≡ Done → (n.failing 0 ≡ false) × MayPass header_calls n.fuse)
        → NextFor fails (noted_by (note_one s) d) e old new → Leads d line said old new
    leads_by {e} {fails} ends needs next = record {
      next = e;
      fails = fails;
      done = record {
        ends = ends;
        counts = tt;
        works = λ is. subst (λ (k : ℕ). (w.nodes k).failing 0 ≡ false) (sym here.number) (needs is).0;
        calls = λ is. subst (λ (k : ℕ). MayPass header_calls (w.nodes k).fuse) (sym here.number) (needs is).1;
      };
      stands = next.stands;
      carries = λ carries. next.carries (carries_noted d old s carries);
      rose = next.rose;
    }

    notes : (v : World) → link_noted w line v ≡ record v { nodes = note_one s v.nodes }
    notes v = ap (λ (k : ℕ). worked_on v k) here.number

    -- it is done
    pub set_leads : ((r : R) → IsRack (g.meaning r)) → HeadUnder 2 Done before after → KeptAt (beside_of d s) (worked n) state before after (Ok tt) → LeavesFuse NoMore Done before after → new.facts.items ≡ facts_over (step w event).world → SameLoad old new → Leads d line Done old new
    set_leads racks head is calls facts load =
        let stood : SiteStands (beside_of d s) n before = stands.disk_sets.sites s before here.below at in
        leads_by {fails = []}
        (LinksDone (behind d event) (subst (λ (es : List Event). Runs d es (behind d event)) (sym (numbers prot)) (false, refl)) (ap (λ (es : List Event). all_fails es) (numbers prot)) refl
        (subst (λ (es : List Event). LinkReplies line d (behind d event) es Done) (sym (numbers prot)) (subst (λ (o : EventSaid). RepeatsSaid (step w event).world 0 o Done) (sym set_said) refl))
        (record { world = sym (notes (behind d event).world); after = λ i. refl; strayed = refl }))
        (λ is. (
          head_works racks 2 (beside_of d s) n before after stood head (omega arith) (stands.failing s before here.below at),
          head_passes racks 2 (beside_of d s) n before after stood head (stands.fuses s before here.below at),
        ))
        (kept_done (note_one s) s (notes_one s) d event state header old before noted here.below at new after changed keeps is calls facts load)

    -- it was refused
    pub set_refused : (why : No) (said : Said) (x x' : SiteFacts) → said ≡ Refused why → KeptAt (beside_of d s) (worked n) state before after (Err why) → LeavesFuse NoMore (Refused why) before after → slice_get old.facts.items s ≡ Some x
        → x' ≡ noted_facts why x → new.facts.items ≡ slice_set old.facts.items s x' → LetsGoBy why old new s → Leads d line said old new
    set_refused why said x x' says is calls there_too shown facts lets =
        let h = kept_refused (note_one s) s (notes_one s) d event state header old before noted here.below at new after changed keeps why said x x' says is calls there_too shown facts lets in
        let b : IsBehind d line (note_one s) event s d = record {
          before = [];
          rest = [];
          split = numbers prot;
          runs = refl;
          none = refl;
          opens = set_opens;
          writes = refl;
          takes = refl;
          notes = notes;
          fused = λ f. f;
        } in
        let e = headed_ends d line (note_one s) event s d b old new h.0 h.2 in
        subst (λ (r : Said). Leads d line r old new) (sym h.1) (leads_by e.ends (λ (is : Refused h.0 ≡ Done). absurd (refused_undone h.0 is)) e.goes)
