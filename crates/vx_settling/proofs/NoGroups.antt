-- Where no site notes a group of disks and contents are told, a line that makes none leaves it so, and none is open.
use Rattle.std.proofs.Common.{◌≡◌, ◌∙◌, inl, inr, ℕ, Bool, true, false, Option, Some, None, ap, sym, subst, refl}
use Rattle.std.specs.Prelude.{◌&&◌, eqb, is_some, length, not, unwrap_or}
use Rattle.vx_history.specs.Doubts.{Doubted}
use Rattle.vx_history.specs.Groups.{GroupNode}
use Rattle.vx_model.specs.declared.no.No.{No}
use Rattle.vx_script.specs.declared.line.ScriptLine.{ScriptLine}
use Rattle.vx_script.specs.declared.line.ScriptLine.TheVariants.{Crash, Disk, Fuse, GroupDeport, GroupImport, GroupInit, PlexAttach, PlexDetach, Put, Read, Recover, Rvg, Show, Status, Volume, Write}
use Rattle.vx_events.proofs.KnownLaws.{finds_none}
use Rattle.vx_events.proofs.Opens.{for_none, open_none}
use Rattle.vx_events.proofs.StrayLines.{CalmOrSome, step_found}
use Rattle.vx_events.specs.Brights.{IsNoNote, NotesNone}
use Rattle.vx_events.specs.Facts.{site_number}
use Rattle.vx_events.specs.Fails.{Fails}
use Rattle.vx_events.specs.GroupEnds.{KnowsNothing}
use Rattle.vx_events.specs.GroupLines.{is_over_group}
use Rattle.vx_events.specs.GroupNotes.{no_note, note_at}
use Rattle.vx_events.specs.Lines.{is_of_links}
use Rattle.vx_events.specs.OpenLines.{HasNoOpen, is_open}
use Rattle.vx_events.specs.RvgBack.{FindsLost, FindsNoRvg, FindsPlain, FindsRvg, RvgFinds}
use Rattle.vx_events.specs.RvgSteps.{AsBefore, FoundOne, FullBy, HasNoRvgs, MakesNoRvg, StepFull, WorksAbove, WorksBeside, WorksFull, is_for_rvg}
use Rattle.vx_events.specs.StepsOver.{MakesNoGroup, WorksOver, group_place, is_for_group, refused_over}
use Rattle.vx_events.specs.declared.said.Said.{Said}
use Rattle.vx_settling.proofs.EachLines.{kind_each}

module _ (d : Doubted) (b : NotesNone d) where
  group_off : (i : ℕ) → is_over_group (d.world.nodes i) ≡ false
  group_off i = ap (λ (o : Option GroupNode). is_some o && eqb (length (d.world.nodes i).volumes) 0) (b.sites i)

  pub rvg_off : HasNoRvgs d.world
  rvg_off i = ap (λ (o : Option GroupNode). is_some o && not (eqb (length (d.world.nodes i).volumes) 0)) (b.sites i)

  alone : (line : ScriptLine) → MakesNoGroup line → is_for_group d.world line ≡ false
  alone (GroupInit site) makes = absurd makes
  alone (GroupDeport site) makes = group_off (site_number d.world site)
  alone (GroupImport site) makes = group_off (site_number d.world site)
  alone (Volume site volume blocks mirrors layout log map policy) makes = group_off (site_number d.world site)
  alone (PlexDetach site volume plex) makes = group_off (site_number d.world site)
  alone (PlexAttach site volume plex) makes = group_off (site_number d.world site)
  alone (Disk site disk state) makes = group_off (site_number d.world site)
  alone (Crash site pick) makes = group_off (site_number d.world site)
  alone (Fuse site calls pick) makes = group_off (site_number d.world site)
  alone (Recover site) makes = group_off (site_number d.world site)
  alone (Write site volume start count fill) makes = group_off (site_number d.world site)
  alone (Put site volume start bytes) makes = group_off (site_number d.world site)
  alone (Read site volume start count) makes = group_off (site_number d.world site)
  alone (Show site volume start count) makes = group_off (site_number d.world site)
  alone (Status site) makes = group_off (site_number d.world site)
  alone other makes = refl

  pub no_open : HasNoOpen d.world
  no_open = open_none d.world rvg_off

  -- nothing else is found on its disks
  note_is : (s : ℕ) → note_at (d.world.nodes s) ≡ no_note
  note_is s = ap (λ (o : Option GroupNode). unwrap_or o no_note) (b.sites s)

  known : (s : ℕ) → KnowsNothing (Unit {0}) (note_at (d.world.nodes s)) → ⊥
  known s nothing =
      finds_none (Unit {0}) tt (note_at (d.world.nodes s)) (ap (λ (g : GroupNode). g.dark) (note_is s))
      (λ loose. let clash : true ≡ false = sym loose ∙ ap (λ (g : GroupNode). g.loose) (note_is s) in cc) nothing

  module _ (calm : d.strayed ≡ false) (fails : Fails) (said : Said) (new : Doubted) where
    finds_nothing : (line : ScriptLine) (s : ℕ) → RvgFinds (Unit {0}) d line s fails said new → ⊥
    finds_nothing line s (FindsRvg kept taken next mid n k row c units are brings unknown dark is same comes config fits lies says left) = known s unknown
    finds_nothing line s (FindsLost site kept taken disk next mid n k row c units has cut is are failed unknown dark rests same comes config fits lies says left) = known s unknown
    finds_nothing line s (FindsPlain kept taken next mid has are brings unknown dark is plain says left) = known s unknown
    finds_nothing line s (FindsNoRvg kept taken lost next why has are brings unknown device notes says left) = known s unknown

    beside_none : (line : ScriptLine) → MakesNoGroup line → WorksBeside (Unit {0}) d line fails said new → NotesNone new
    beside_none line makes (AsBefore works found) = by (is_for_group d.world line) (alone line makes) works
      where
        by : (group : Bool) → group ≡ false → WorksOver group (Unit {0}) d line fails said new → NotesNone new
        by true off ends = absurd (let clash : true ≡ false = off in cc)
        by false off (inl step) = kind_each IsNoNote refl (Unit {0}) tt (is_of_links line) d calm line fails said new b step.ends
        by false off (inr kept) = absurd (kept.untold tt)
    beside_none line makes (FoundOne finds) = absurd (finds_nothing line (group_place d.world line) finds)

    above_none : (halts above : Bool) (line : ScriptLine) → is_for_rvg d.world line ≡ above → MakesNoGroup line → WorksAbove halts above (Unit {0}) d line fails said new → NotesNone new
    above_none true above line is makes ends = absurd ends
    above_none false true line is makes ends = absurd (let clash : true ≡ false = sym is ∙ for_none d.world rvg_off line in cc)
    above_none false false line is makes ends = beside_none line makes ends

    full_none : (line : ScriptLine) → MakesNoGroup line → MakesNoRvg line → WorksFull (Unit {0}) d line fails said new → NotesNone new
    full_none (Rvg site srl maps volumes) makes none ends = absurd none
    full_none other makes none ends = above_none (is_open d.world other) (is_for_rvg d.world other) other refl makes ends

    refusal_none : (o : Option No) (line : ScriptLine) → MakesNoGroup line → MakesNoRvg line → FullBy o (Unit {0}) d line fails said new → NotesNone new
    refusal_none (Some why) line makes none step = subst (λ (e : Doubted). NotesNone e) (sym step.stays) b
    refusal_none None line makes none step = full_none line makes none step

    -- so a line leaves it
    pub step_none : (files : Bool) (line : ScriptLine) → MakesNoGroup line → MakesNoRvg line → StepFull (Unit {0}) files d line fails said new → NotesNone new
    step_none files line makes none step = refusal_none (refused_over d.world files line) line makes none step

    -- and it does not stray
    pub step_stays : (files : Bool) (line : ScriptLine) → StepFull (Unit {0}) files d line fails said new → new.strayed ≡ false
    step_stays files line step = by (step_found (Unit {0}) files d line fails said new step)
      where
        by : CalmOrSome (Unit {0}) d fails said new line → new.strayed ≡ false
        by (inl same) = same ∙ calm
        by (inr (s, finds)) = absurd (finds_nothing line s finds)
