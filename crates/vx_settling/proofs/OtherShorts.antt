-- Want of memory in a line leaves what other sites note of their groups too.
use Rattle.std.proofs.Common.{◌≡◌, ◌⊎◌, inl, inr, ℕ, List, [], ◌∷◌, false, subst, sym, true}
use Rattle.std.specs.Prelude.{eqb, Option}
use Rattle.vx_history.specs.Doubts.{Doubted}
use Rattle.vx_history.specs.Groups.{GroupNode}
use Rattle.vx_history.specs.Steps.{worked_on}
use Rattle.vx_history.specs.World.{World}
use Rattle.vx_history.specs.declared.event.Event.{Event}
use Rattle.vx_script.specs.declared.line.ScriptLine.{ScriptLine}
use Rattle.vx_script.specs.declared.line.ScriptLine.TheVariants.{GroupImport, Recover}
use Rattle.vx_events.specs.Doubts.{IsAs, run_as}
use Rattle.vx_events.specs.Facts.{site_number}
use Rattle.vx_events.specs.GroupEnds.{BringsUp}
use Rattle.vx_events.specs.GroupLines.{crash_first, fuse_lost, noting}
use Rattle.vx_events.specs.Parts.{FellFirst, PartLeft, ReadFirst, StopsBetween, StopsDown, StopsInPart, StopsRead, StopsShort, raises_first, reads_first}
use Rattle.vx_events.specs.RvgBack.{fall_first}
use Rattle.vx_events.specs.RvgParts.{RvgShort, ShortFull, ShortGroup, ShortLog, ShortMade, short_place}
use Rattle.vx_events.specs.StepsOver.{group_place}
use Rattle.vx_events.specs.declared.said.Said.TheVariants.{Done}
use Rattle.vx_settling.specs.OtherNotes.{HasNote, may_note}
use Rattle.vx_settling.proofs.OtherLines
use Rattle.vx_settling.proofs.OtherNotes

-- ---- the sites of lines

raises_apart : (w : World) (line : ScriptLine) (i : ℕ) → may_note w line i ≡ false → raises_first w line ≡ true → eqb i (group_place w line) ≡ false
raises_apart w (Recover site) i off is = off
raises_apart w other i off is = absurd (let f : false ≡ true = is in cc)

reads_apart : (w : World) (line : ScriptLine) (i : ℕ) → may_note w line i ≡ false → reads_first w line ≡ true → eqb i (group_place w line) ≡ false
reads_apart w (GroupImport site) i off is = off
reads_apart w other i off is = absurd (let f : false ≡ true = is in cc)

short_apart : (w : World) (line : ScriptLine) (i : ℕ) → may_note w line i ≡ false → BringsUp line → eqb i (short_place w line) ≡ false
short_apart w (GroupImport site) i off brings = off
short_apart w (Recover site) i off brings = off
short_apart w other i off brings = absurd brings

-- ---- lines

module _ (i : ℕ) (o : Option GroupNode) (d : Doubted) (x : OtherNotes.Standing i o d) (told : Type 0) (new : Doubted) where
  part_notes : (line : ScriptLine) (es : List Event) → PartLeft line d es new → HasNote i o new
  part_notes line [] is = subst (λ (e : Doubted). HasNote i o e) (sym is) x.has
  part_notes line (e ∷ es) left = OtherLines.are_notes i o line d (run_as false d (e ∷ es)) new left (OtherLines.ran i o d x false (e ∷ es))

  fell_notes : (line : ScriptLine) → may_note d.world line i ≡ false → FellFirst d line new → HasNote i o new
  fell_notes line off h =
      let s : ℕ = group_place d.world line in
      let es : List Event = crash_first (d.world.nodes s).state s in
      let last : Doubted = run_as false d es in
      let has : HasNote i o last = OtherLines.ran i o d x false es in
      OtherNotes.as_notes i o last (noting last.world s h.next) new h.leads
      (OtherNotes.noting_notes i o last.world s h.next (raises_apart d.world line i off h.raises) has.note) has

  read_by : (s : ℕ) (next : GroupNode) → eqb i s ≡ false → IsAs d (worked_on (noting d.world s next) s) new ⊎ IsAs d (fuse_lost (noting d.world s next) s) new
      → HasNote i o new
  read_by s next apart (inl left) = OtherLines.made_notes i o s next d new apart left x.has
  read_by s next apart (inr left) =
      let v : World = noting d.world s next in
      OtherNotes.as_notes i o d (fuse_lost v s) new left (OtherNotes.lost_notes i o true v s (OtherNotes.noting_notes i o d.world s next apart x.has.note)) x.has

  read_notes : (line : ScriptLine) → may_note d.world line i ≡ false → ReadFirst d line new → HasNote i o new
  read_notes line off h = read_by (group_place d.world line) h.next (reads_apart d.world line i off h.reads) h.leads

  stops_notes : (line : ScriptLine) → may_note d.world line i ≡ false → StopsShort told d line new → HasNote i o new
  stops_notes line off (StopsInPart part) = part_notes line part.before part.leads
  stops_notes line off (StopsDown fell) = fell_notes line off fell
  stops_notes line off (StopsRead read) = read_notes line off read
  stops_notes line off (StopsBetween untold p s middle is moves left) =
      let a : ℕ = site_number d.world p in
      let b : ℕ = site_number d.world s in
      let both = OtherLines.neither (eqb i a) (eqb i b) (subst (λ (l : ScriptLine). may_note d.world l i ≡ false) is off) in
      OtherLines.are_notes i o line d middle new left (OtherLines.moved_notes i o d x a b middle both.1 moves)

  rvg_notes : (line : ScriptLine) → may_note d.world line i ≡ false → RvgShort told d line (short_place d.world line) new → HasNote i o new
  rvg_notes line off (ShortGroup kept taken lost next has is notes left) =
      let s : ℕ = short_place d.world line in
      OtherLines.fell i o d x told [] Done new line s (short_apart d.world line i off is) taken lost next (fall_first (d.world.nodes s).state s kept) left
  rvg_notes line off (ShortLog kept taken fails middle next has is are back keeps cut left) =
      let s : ℕ = short_place d.world line in
      OtherLines.fell i o d x told fails Done new line s (short_apart d.world line i off is) taken true next (fall_first (d.world.nodes s).state s kept) left
  rvg_notes line off (ShortMade site srl maps volumes fails next is are notes left) =
      let apart : eqb i (short_place d.world line) ≡ false =
      subst (λ (l : ScriptLine). eqb i (short_place d.world l) ≡ false) (sym is) (subst (λ (l : ScriptLine). may_note d.world l i ≡ false) is off) in
      OtherLines.made_notes i o (short_place d.world line) next d new apart left x.has

  pub short_notes : (line : ScriptLine) → may_note d.world line i ≡ false → ShortFull told d line new → HasNote i o new
  short_notes line off (inl short) = stops_notes line off short
  short_notes line off (inr short) = rvg_notes line off short
