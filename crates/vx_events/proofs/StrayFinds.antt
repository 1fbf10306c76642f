-- A world strays only where a line leaves it with a group that was found: with a replicated volume group, or at a site that had one.
use Rattle.std.proofs.Common.{◌≡◌, ◌∙◌, inl, inr, ℕ, Bool, true, false, Option, Some, None, ap, sym}
use Rattle.std.specs.Prelude.{unwrap_or}
use Rattle.vx_history.specs.Doubts.{Doubted}
use Rattle.vx_history.specs.Groups.{GroupNode}
use Rattle.vx_history.specs.Steps.{group_set}
use Rattle.vx_history.specs.World.{no_link}
use Rattle.vx_script.specs.declared.line.ScriptLine.{ScriptLine}
use Rattle.vx_events.proofs.RvgEnding.{never_found}
use Rattle.vx_events.proofs.RvgStays.{back_group}
use Rattle.vx_events.proofs.StrayLines.{CalmOrSome, StraysAs, step_found}
use Rattle.vx_events.proofs.Straying.{run_strays}
use Rattle.vx_events.specs.Ends.{found_linked}
use Rattle.vx_events.specs.Fails.{Fails}
use Rattle.vx_events.specs.GroupNotes.{no_note, note_at}
use Rattle.vx_events.specs.Plain.{HasNoGroups}
use Rattle.vx_events.specs.RvgBack.{FindsLost, FindsNoRvg, FindsPlain, FindsRvg, RvgFinds, fall_first, found_fallen, unmade_site}
use Rattle.vx_events.specs.RvgFits.{config_rvg, rvg_noted}
use Rattle.vx_events.specs.RvgSteps.{HasNoRvgs, StepFull}
use Rattle.vx_events.specs.RvgViews.{is_over_rvg}
use Rattle.vx_events.specs.Strays.{NotesNoRvgs, gone_astray}
use Rattle.vx_events.specs.declared.said.Said.{Said}

module _ (told : Type 0) (d : Doubted) (line : ScriptLine) (s : ℕ) (fails : Fails) (said : Said) (new : Doubted) where
  -- what is found is a group
  finds_apart : RvgFinds told d line s fails said new → (new.world.nodes s).group ≡ None → StraysAs d new
  finds_apart (FindsRvg kept taken next mid n k row c units are brings unknown dark is same comes config fits lies says left) none =
      absurd (let e : Some next ≡ None = sym (back_group s line taken next d (gone_astray (found_linked mid s k row)) new left) ∙ none in cc)
  finds_apart (FindsLost site kept taken disk next mid n k row c units has cut is are failed unknown dark rests same comes config fits lies says left) none =
      absurd (let e : Some next ≡ None = sym (back_group s line taken next d (gone_astray (found_fallen mid s k row)) new left) ∙ none in cc)
  finds_apart (FindsPlain kept taken next mid has are brings unknown dark is plain says left) none =
      absurd
      (let e : Some next ≡ None = sym (back_group s line taken next d (gone_astray (found_linked mid s (group_set s (unmade_site (mid.world.nodes s))) (λ k. no_link))) new left) ∙ none in
      cc)
  finds_apart (FindsNoRvg kept taken lost next why has are brings unknown device notes says left) none =
      left.strayed ∙ run_strays taken d (fall_first (d.world.nodes s).state s kept)

  -- with a replicated volume group, or of a site that had one
  pub finds_plain : RvgFinds told d line s fails said new → is_over_rvg (d.world.nodes s) ≡ false → rvg_noted (note_at (new.world.nodes s)) ≡ None → ⊥
  finds_plain (FindsRvg kept taken next mid n k row c units are brings unknown dark is same comes config fits lies says left) off none =
      let noted : (new.world.nodes s).group ≡ Some next = back_group s line taken next d (gone_astray (found_linked mid s k row)) new left in
      absurd
      (let e : Some units ≡ None =
      sym (ap (λ (o : Option GroupNode). rvg_noted (unwrap_or o no_note)) noted ∙ ap config_rvg config ∙ fits.rvg) ∙ none in
      cc)
  finds_plain (FindsLost site kept taken disk next mid n k row c units has cut is are failed unknown dark rests same comes config fits lies says left) off none =
      absurd (let e : true ≡ false = sym has ∙ off in cc)
  finds_plain (FindsPlain kept taken next mid has are brings unknown dark is plain says left) off none = absurd (let e : true ≡ false = sym has ∙ off in cc)
  finds_plain (FindsNoRvg kept taken lost next why has are brings unknown device notes says left) off none = absurd (let e : true ≡ false = sym has ∙ off in cc)

module _ (told : Type 0) (files : Bool) (d : Doubted) (line : ScriptLine) (fails : Fails) (said : Said) (new : Doubted) (step : StepFull told files d line fails said new) where
  -- nothing strays where no site has a group
  pub step_apart : HasNoGroups new.world → StraysAs d new
  step_apart none = by (step_found told files d line fails said new step)
    where
      by : CalmOrSome told d fails said new line → StraysAs d new
      by (inl same) = same
      by (inr (s, finds)) = finds_apart told d line s fails said new finds (none.none s)

  -- nor where none has a replicated volume group over one, or notes one
  pub step_plain : HasNoRvgs d.world → NotesNoRvgs new.world → StraysAs d new
  step_plain none plain = by (step_found told files d line fails said new step)
    where
      by : CalmOrSome told d fails said new line → StraysAs d new
      by (inl same) = same
      by (inr (s, finds)) = absurd (finds_plain told d line s fails said new finds (none s) (plain s))

  -- nor where contents are told, it is known what the disks of each group hold, and imports of them agree
  pub step_known : told → ((i : ℕ) → (note_at (d.world.nodes i)).dark ≡ false) → ((i : ℕ) → (note_at (d.world.nodes i)).loose ≡ false) → StraysAs d new
  step_known tells known agree = by (step_found told files d line fails said new step)
    where
      by : CalmOrSome told d fails said new line → StraysAs d new
      by (inl same) = same
      by (inr (s, finds)) = absurd (never_found told tells d s (known s) fails said new line (agree s) finds)
