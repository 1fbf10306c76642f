-- However a line ends, it ends as events of the world do, where the world has not strayed behind it.
use Rattle.std.proofs.Common.{◌≡◌, inl, inr, ℕ, Bool, true, false, [], Option, Some, None, refl}
use Rattle.std.specs.Prelude.{◌&&◌, not, eqb, is_some, length}
use Rattle.vx_model.specs.declared.no.No.{No}
use Rattle.vx_history.specs.Doubts.{Doubted}
use Rattle.vx_history.specs.Stops.{AllDone as EventsDone}
use Rattle.vx_history.specs.World.{Node}
use Rattle.vx_script.specs.declared.line.ScriptLine.{ScriptLine}
use Rattle.vx_script.specs.declared.line.ScriptLine.TheVariants.{Put, Rvg, Write}
use Rattle.vx_events.proofs.GroupStopping.{group_stops}
use Rattle.vx_events.proofs.LinkStopping.{link_stops}
use Rattle.vx_events.proofs.Noting.{same_like}
use Rattle.vx_events.proofs.RvgEnding.{finds_stops, opens_at, over_rvg_stops}
use Rattle.vx_events.proofs.RefusedCalls.{put_may, write_may}
use Rattle.vx_events.proofs.Stopping.{writes_open}
use Rattle.vx_events.proofs.RvgStopping.{rvg_stops, same_doubted}
use Rattle.vx_events.proofs.StrayLines.{step_calm}
use Rattle.vx_events.proofs.Stopping.{ended}
use Rattle.vx_events.specs.Facts.{site_number}
use Rattle.vx_events.specs.Fails.{Fails}
use Rattle.vx_events.specs.GroupEnds.{GroupEnds}
use Rattle.vx_events.specs.GroupLines.{is_over_group}
use Rattle.vx_events.specs.Lines.{EndsBy, IsRefusedLine, is_of_links}
use Rattle.vx_events.specs.OpenLines.{is_open}
use Rattle.vx_events.specs.RvgMakes.{RvgStops}
use Rattle.vx_events.specs.RvgOver.{OpensFor}
use Rattle.vx_events.specs.RvgSteps.{AsBefore, FoundOne, FullBy, StepFull, WorksAbove, WorksBeside, WorksFull, is_for_rvg, rvg_place}
use Rattle.vx_events.specs.RvgViews.{is_over_rvg}
use Rattle.vx_events.specs.StepsOver.{WorksOver, facts_over, group_place, is_for_group, refused_over}
use Rattle.vx_events.specs.declared.said.Said.{Said}

-- a site with a replicated volume group is over no group without one
apart_of : (group : Bool) (none : Bool) → (group && not none) ≡ true → (group && none) ≡ false
apart_of true true e = absurd (let f : false ≡ true = e in cc)
apart_of true false e = refl
apart_of false none e = refl

pub rvg_apart : (n : Node) → is_over_rvg n ≡ true → is_over_group n ≡ false
rvg_apart n over = apart_of (is_some n.group) (eqb (length n.volumes) 0) over

module _ (told : Type 0) (is_told : told) (files : Bool) (d : Doubted) (fails : Fails) (said : Said) (new : Doubted) where
  refused_stops : (why : No) → IsRefusedLine why d fails said new → RvgStops d new
  refused_stops why is = record {
    before = d;
    like = same_doubted d;
    events = [];
    ending = [];
    stops = EventsDone d refl refl (same_like d new is.stays);
  }

  group_too : (line : ScriptLine) (s : ℕ) → GroupEnds told d line s fails said new → RvgStops d new
  group_too line s ends =
      let stops = group_stops told d line s fails said new ends in
      record { before = d; like = same_doubted d; events = stops.events; ending = []; stops = stops.stops }

  -- a line on no group
  done_by_kind : d.strayed ≡ false → (links : Bool) (line : ScriptLine) → OpensFor d.world line → EndsBy links told d line fails said new → RvgStops d new
  done_by_kind calm true line opens ends =
      let stops = link_stops told is_told d calm line fails said new ends in
      record { before = d; like = same_doubted d; events = stops.events; ending = fails; stops = stops.stops }
  done_by_kind calm false line opens ends =
      let stops = ended told d line (λ untold recovers. untold is_told) (opens_at d.world line opens) fails said new ends in
      record { before = d; like = same_doubted d; events = stops.events; ending = stops.ending; stops = stops.stops }

  -- ---- where a line writes its site is open

  opens_apart : (line : ScriptLine) → is_for_group d.world line ≡ false → refused_over d.world files line ≡ None → OpensFor d.world line
  opens_apart (Write site volume start count fill) apart free = writes_open d.world site volume start count apart (write_may (facts_over d.world) files site volume start count fill free)
  opens_apart (Put site volume start bytes) apart free = writes_open d.world site volume start 1 apart (put_may (facts_over d.world) files site volume start bytes free)
  opens_apart other apart free = tt

  opens_above : (line : ScriptLine) → is_for_rvg d.world line ≡ true → refused_over d.world files line ≡ None → OpensFor d.world line
  opens_above (Write site volume start count fill) over free = writes_open d.world site volume start count (rvg_apart (d.world.nodes (site_number d.world site)) over) (write_may (facts_over d.world) files site volume start count fill free)
  opens_above (Put site volume start bytes) over free = writes_open d.world site volume start 1 (rvg_apart (d.world.nodes (site_number d.world site)) over) (put_may (facts_over d.world) files site volume start bytes free)
  opens_above other over free = tt

  -- ---- the ways of a line

  before_stops : d.strayed ≡ false → (group : Bool) (line : ScriptLine) → is_for_group d.world line ≡ group → refused_over d.world files line ≡ None → WorksOver group told d line fails said new → RvgStops d new
  before_stops calm true line is free ends = group_too line (group_place d.world line) ends
  before_stops calm false line is free (inl step) = done_by_kind calm (is_of_links line) line (opens_apart line is free) step.ends
  before_stops calm false line is free (inr kept) = absurd (kept.untold is_told)

module _ (told : Type 0) (is_told : told) (files : Bool) (d : Doubted) (fails : Fails) (said : Said) (new : Doubted) (calm : new.strayed ≡ false) (was : d.strayed ≡ false) where
  beside_stops : (line : ScriptLine) → refused_over d.world files line ≡ None → WorksBeside told d line fails said new → RvgStops d new
  beside_stops line free (AsBefore works found) =
      before_stops told is_told files d fails said new was (is_for_group d.world line) line refl free works
  beside_stops line free (FoundOne finds) = finds_stops told d (group_place d.world line) fails said new line calm finds

  above_stops : (halts above : Bool) (line : ScriptLine) → is_for_rvg d.world line ≡ above → refused_over d.world files line ≡ None
      → WorksAbove halts above told d line fails said new → RvgStops d new
  above_stops true above line is free ends = absurd ends
  above_stops false true line is free ends =
      over_rvg_stops told d (rvg_place d.world line) fails said new line calm (opens_above told is_told files d fails said new line is free) ends
  above_stops false false line is free ends = beside_stops line free ends

  full_stops : (line : ScriptLine) → refused_over d.world files line ≡ None → WorksFull told d line fails said new → RvgStops d new
  full_stops (Rvg site srl maps volumes) free ends = rvg_stops told d (Rvg site srl maps volumes) (site_number d.world site) fails said new ends
  full_stops other free ends = above_stops (is_open d.world other) (is_for_rvg d.world other) other refl free ends

  by_refusal : (line : ScriptLine) (o : Option No) → refused_over d.world files line ≡ o → FullBy o told d line fails said new → RvgStops d new
  by_refusal line (Some why) is step = refused_stops told is_told files d fails said new why step
  by_refusal line None is step = full_stops line is step

pub step_stops : (told : Type 0) → told → (files : Bool) (d : Doubted) (fails : Fails) (said : Said) (new : Doubted) (line : ScriptLine) → new.strayed ≡ false
    → StepFull told files d line fails said new → RvgStops d new
step_stops told is_told files d fails said new line calm step =
    by_refusal told is_told files d fails said new calm (step_calm told files d line fails said new step calm) line (refused_over d.world files line) refl step
