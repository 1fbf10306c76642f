-- Want of memory in a recovery or an import of a site with a replicated volume group, or in a line that makes one, leaves the one that is noted, and it stays known
-- what the disks hold.
use Rattle.std.proofs.Common.{◌≡◌, ◌∙◌, inl, inr, ℕ, List, [], true, false, ap, subst, sym}
use Rattle.vx_model.specs.declared.units.Units.{Units}
use Rattle.vx_history.specs.Doubts.{Doubted}
use Rattle.vx_history.specs.Groups.{GroupNode}
use Rattle.vx_script.specs.declared.line.ScriptLine.{ScriptLine}
use Rattle.vx_events.proofs.KnownLaws.{back_known}
use Rattle.vx_events.proofs.RvgKnown.{narrowed_dark, of_note, works_dark}
use Rattle.vx_events.proofs.RvgStays.{but_group, but_keeps, loses, same_config, then_same}
use Rattle.vx_events.proofs.RvgTests.{gained_note}
use Rattle.vx_events.specs.Fails.{Fails}
use Rattle.vx_events.specs.GroupEnds.{BringsUp}
use Rattle.vx_events.specs.GroupNotes.{NotesShort, note_at}
use Rattle.vx_events.specs.GroupViews.{config_of}
use Rattle.vx_events.specs.RvgFits.{NoteKeepsRvg}
use Rattle.vx_events.specs.RvgMakes.{units_at}
use Rattle.vx_events.specs.RvgNotes.{NotesNoRvg}
use Rattle.vx_events.specs.RvgParts.{RvgShort, ShortGroup, ShortLog, ShortMade}
use Rattle.vx_events.specs.RvgViews.{is_over_rvg}
use Rattle.vx_events.specs.declared.said.Said.TheVariants.{Done}

short_config : (note next : GroupNode) → NotesShort note next → next.config ≡ note.config
short_config note next (inl same) = ap (λ (g : GroupNode). g.config) same
short_config note next (inr (loose, dark)) = ap (λ (g : GroupNode). g.config) dark

-- where imports agree
short_dark : (note next : GroupNode) → note.dark ≡ false → note.loose ≡ false → NotesShort note next → next.dark ≡ false
short_dark note next known agree (inl same) = ap (λ (g : GroupNode). g.dark) same ∙ known
short_dark note next known agree (inr (loose, dark)) = absurd (let f : true ≡ false = sym loose ∙ agree in cc)

unmade_keeps : (told : Type 0) (s : ℕ) (fails : Fails) (units : Units) (note next : GroupNode) → NotesNoRvg told ⊥ s fails units note next → NoteKeepsRvg note next
unmade_keeps told s fails units note next x c at =
    loses s fails x.middle next x.moves c (ap (λ (bytes : List ℕ). config_of bytes) (ap (λ (g : GroupNode). g.config) x.narrowed.same) ∙ at)

module _ (told : Type 0) (d : Doubted) (line : ScriptLine) (s : ℕ) (new : Doubted) where
  abbrev here : GroupNode
  here = note_at (d.world.nodes s)

  pub short_stays : is_over_rvg (d.world.nodes s) ≡ true → RvgShort told d line s new → NoteKeepsRvg here (note_at (new.world.nodes s))
  short_stays over (ShortGroup kept taken lost next has is notes left) =
      but_keeps told d line s [] Done new over lost taken next d _ left (same_config here next (short_config here next notes))
  short_stays over (ShortLog kept taken fails middle next has is are back keeps cut left) =
      but_keeps told d line s fails Done new over true taken next d _ left (then_same here middle next keeps (ap (λ (g : GroupNode). g.config) cut))
  short_stays over (ShortMade site srl maps volumes fails next is are notes left) =
      subst (λ (g : GroupNode). NoteKeepsRvg here g) (sym (gained_note s next d new left)) (unmade_keeps told s fails (units_at d s srl maps volumes) here next notes)

  pub short_known : here.dark ≡ false → (BringsUp line → here.loose ≡ false) → RvgShort told d line s new → (note_at (new.world.nodes s)).dark ≡ false
  short_known known agree (ShortGroup kept taken lost next has is notes left) =
      of_note new.world s next (but_group lost s line taken next d _ new left) (short_dark here next known (agree is) notes)
  short_known known agree (ShortLog kept taken fails middle next has is are back keeps cut left) =
      of_note new.world s next (but_group true s line taken next d _ new left)
      (ap (λ (g : GroupNode). g.dark) cut
      ∙ back_known told s (d.world.nodes s) fails here middle known (λ loose. let f : true ≡ false = sym loose ∙ agree is in cc) back)
  short_known known agree (ShortMade site srl maps volumes fails next is are notes left) =
      ap (λ (g : GroupNode). g.dark) (gained_note s next d new left) ∙ works_dark ⊥ s fails notes.middle next notes.moves
      ∙ narrowed_dark told (units_at d s srl maps volumes) here notes.middle notes.narrowed ∙ known
