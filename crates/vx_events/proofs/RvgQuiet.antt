-- Where no call of a line failed, and no fuse ran out in it, imports of a group of disks with a replicated volume group agree behind it as before.
use Rattle.std.proofs.Common.{◌≡◌, ◌∙◌, ◌⊎◌, inl, inr, ℕ, Bool, true, false, List, Option, Some, ap, refl, subst, sym}
use Rattle.std.specs.Prelude.{unwrap_or}
use Rattle.vx_model.specs.declared.no.Counted.TheVariants.{Number}
use Rattle.vx_model.specs.declared.no.No.{No}
use Rattle.vx_model.specs.declared.no.No.TheVariants.{Limit}
use Rattle.vx_history.specs.Doubts.{Doubted}
use Rattle.vx_history.specs.Groups.{GroupNode, MissedNote, NoteSettles}
use Rattle.vx_history.specs.World.{Node, World}
use Rattle.vx_model.specs.Content.{Write as BlockWrite}
use Rattle.vx_config.specs.declared.config.Config.{Config}
use Rattle.vx_layout.specs.declared.shape.Shape.{Shape}
use Rattle.vx_script.specs.declared.line.ScriptLine.{ScriptLine}
use Rattle.vx_script.specs.declared.line.ScriptLine.TheVariants.{Apply, GroupDeport, GroupImport, PlexAttach, PlexDetach, Put, Read, Recover, Show, Volume, Write}
use Rattle.vx_events.proofs.KnownLaws.{left_note}
use Rattle.vx_events.proofs.RvgEnding.{never_found}
use Rattle.vx_events.proofs.RvgMissed.{loosened_group, missed_agrees, missed_node}
use Rattle.vx_events.proofs.RvgStays.{back_group, but_group}
use Rattle.vx_events.specs.Fails.{Fails}
use Rattle.vx_events.specs.GroupEnds.{BringsUp, FindsGroup, FindsNoGroup, GroupCut, GroupDoes, GroupDone, GroupEnds, GroupFails, GroupLacks, GroupNotFound, ImportFails, InitFails, KeptUnread, NotFoundLeaves}
use Rattle.vx_events.specs.GroupMaps.{WithMaps}
use Rattle.vx_events.specs.GroupNotes.{NotesBack, NotesRefused, NotesVolume, NotesWrite, Reconfigures, no_note, note_at}
use Rattle.vx_events.specs.RvgBack.{GroupHeld, GroupUnfound, KeptLost, LogFails, LogLacks, RvgBack, RvgFinds, RvgUp}
use Rattle.vx_order.specs.Calls.{is_data}
use Rattle.vx_events.proofs.ReadsLeave.{read_by, read_note}
use Rattle.vx_events.proofs.WritesBelow.{write_by}
use Rattle.vx_events.specs.RvgOver.{AsGroup, BelowEnds, CutBelow, EndsBelow, EndsOver, NotesLine, OverRvg, SaysOver, kind_named, missed_world, note_loosened}
use Rattle.vx_events.specs.RvgWorks.{FuseRanOut, NoneFailed, NoteAgrees, NotesWork}
use Rattle.vx_events.specs.declared.said.Said.{Said}
use Rattle.vx_events.proofs.RvgKnown.{noted_over_here}
use Rattle.vx_events.specs.RvgTakes.{RvgTaken, TakeFails, TakeLacks, TakeCut, TakeOff, TakeUnfound, TakeHeld, RvgTakes}

-- ---- notes

agrees_same : (note next : GroupNode) → next.loose ≡ note.loose → next.begun ≡ note.begun → NoteAgrees note → NoteAgrees next
agrees_same note next loose begun a = record { loose = loose ∙ a.loose; begun = begun ∙ a.begun }

agrees_note : (note next : GroupNode) → next ≡ note → NoteAgrees note → NoteAgrees next
agrees_note note next same a = agrees_same note next (ap (λ (g : GroupNode). g.loose) same) (ap (λ (g : GroupNode). g.begun) same) a

agrees_refused : (note next : GroupNode) → NotesRefused note next → NoteAgrees note → NoteAgrees next
agrees_refused note next (inl same) a = agrees_note note next same a
agrees_refused note next (inr dark) a = agrees_same note next (ap (λ (g : GroupNode). g.loose) dark) (ap (λ (g : GroupNode). g.begun) dark) a

agrees_unfound : (why : No) (note next : GroupNode) → NotFoundLeaves why note next → NoteAgrees note → NoteAgrees next
agrees_unfound (Limit Number most) note next leaves a = agrees_refused note next leaves a
agrees_unfound other note next leaves a = agrees_note note next leaves a

agrees_at : (m : Node) (next : GroupNode) → m.group ≡ Some next → NoteAgrees next → NoteAgrees (note_at m)
agrees_at m next is a = subst (λ (g : GroupNode). NoteAgrees g) (sym (ap (λ (o : Option GroupNode). unwrap_or o no_note) is)) a

-- where no commit was refused
pub settled_maps : {C : Config → Config → Type 0} {Maps : Config → Config → MissedNote → MissedNote → Type 0} (note next : GroupNode) → WithMaps (Reconfigures C NoteSettles) Maps note next → NoteAgrees note → NoteAgrees next
settled_maps note next x a =
    let rests = x.goes.keeps.tight a.loose a.begun in
    agrees_same x.middle next (ap (λ (g : GroupNode). g.loose) x.is) (ap (λ (g : GroupNode). g.begun) x.is) (record { loose = rests.1; begun = rests.0 })

-- a write that was done
written_agrees : (s : ℕ) (fails : Fails) (x : BlockWrite) (note next : GroupNode) → NotesWrite s fails x note next → NoteAgrees note → NoteAgrees next
written_agrees s fails x note next w a = agrees_same w.middle next (ap (λ (g : GroupNode). g.loose) w.is) (ap (λ (g : GroupNode). g.begun) w.is) (settled_maps note w.middle w.moves a)

-- a volume that was made
volume_agrees : (s : ℕ) (fails : Fails) (name : List ℕ) (want : Shape) (note next : GroupNode) → NotesVolume s fails name want note next → NoteAgrees note → NoteAgrees next
volume_agrees s fails name want note next x a =
    let rests = x.settles.tight a.loose a.begun in
    agrees_same x.middle next (ap (λ (g : GroupNode). g.loose) x.zeros.same) (ap (λ (g : GroupNode). g.begun) x.zeros.same) (record { loose = rests.1; begun = rests.0 })

-- ---- a line on the group alone

-- such a line, where it is done
module _ (told : Type 0) (d : Doubted) (line : ScriptLine) (s : ℕ) (fails : Fails) (said : Said) (new : Doubted) (none : NoneFailed s fails) (dry : FuseRanOut (d.world.nodes s) said → ⊥)
    (rests : BringsUp line → ⊥) (does : (note next : GroupNode) → GroupDoes told s (d.world.nodes s) note line fails said next → NoteAgrees note → NoteAgrees next) (a : NoteAgrees (note_at (d.world.nodes s))) where
  pub group_agrees : GroupEnds told d line s fails said new → NoteAgrees (note_at (new.world.nodes s))
  group_agrees (GroupDone next are done left) = agrees_at (new.world.nodes s) next (left_note s line next _ new left) (does (note_at (d.world.nodes s)) next done a)
  group_agrees (GroupLacks why wants without says left) = agrees_at (new.world.nodes s) (note_at (d.world.nodes s)) (left_note s line (note_at (d.world.nodes s)) d new left) a
  group_agrees (GroupFails disk next are has spoils says left) = absurd (none disk has)
  group_agrees (InitFails disk site is are has says left) = absurd (none disk has)
  group_agrees (ImportFails why next site is are refuses begun says left) = absurd (rests (subst BringsUp (sym is) tt))
  group_agrees (KeptUnread disk next site is are has back says left) = absurd (none disk has)
  group_agrees (GroupCut next are fused cuts says left) = absurd (dry (fused, says))
  group_agrees (GroupNotFound why next are brings not leaves says left) = absurd (rests brings)
  group_agrees (FindsGroup next are brings unknown dark says left) = absurd (rests brings)
  group_agrees (FindsNoGroup next why are brings unknown device refused says left) = absurd (rests brings)

  under_agrees : EndsBelow told d line s fails said new → NoteAgrees (note_at (new.world.nodes s))
  under_agrees (AsGroup ends) = group_agrees ends
  under_agrees (CutBelow kept next are fused cuts says left) = absurd (dry (fused, says))

tight_still : (loosens : Bool) (note : GroupNode) → (loosens ≡ true → ⊥) → NoteAgrees note → NoteAgrees (note_loosened loosens note)
tight_still true note never a = absurd (never refl)
tight_still false note never a = record { loose = a.loose; begun = a.begun }

-- ---- a line at such a site

module _ (told : Type 0) (tells : told) (d : Doubted) (s : ℕ) (fails : Fails) (said : Said) (new : Doubted) (none : NoneFailed s fails)
    (dry : FuseRanOut (d.world.nodes s) said → ⊥) (bright : (note_at (d.world.nodes s)).dark ≡ false) (a : NoteAgrees (note_at (d.world.nodes s))) where
  abbrev here : GroupNode
  here = note_at (d.world.nodes s)

  -- a group that came up, and the calls on its log
  came_agrees : (middle next : GroupNode) → NotesBack told s (d.world.nodes s) fails here middle → NotesWork ⊥ s fails middle next → NoteAgrees next
  came_agrees middle next back works = works.keeps.quiet none (λ off. off) (record { loose = back.loose; begun = back.begun })

  back_agrees : (line : ScriptLine) → RvgBack told d line s fails said new → NoteAgrees (note_at (new.world.nodes s))
  back_agrees line (RvgUp site kept taken middle next shown has is are back keeps works says shows left) =
      agrees_at (new.world.nodes s) next (back_group s line taken next d _ new left) (came_agrees middle next back works)
  back_agrees line (LogFails site kept taken disk middle next events has is are failed back keeps works begun says left) = absurd (none disk failed)
  back_agrees line (LogLacks site kept taken middle next has is are back keeps works lacks says left) =
      agrees_at (new.world.nodes s) next (but_group true s line taken next d _ new left)
      (agrees_same works.worked next (ap (λ (g : GroupNode). g.loose) works.is) (ap (λ (g : GroupNode). g.begun) works.is) (came_agrees middle works.worked back works.works))
  back_agrees line (KeptLost site kept taken disk middle next has cut is are failed back keeps works says left) = absurd (none disk failed)
  back_agrees line (GroupUnfound site kept taken lost why next has is are not leaves says left) =
      agrees_at (new.world.nodes s) next (but_group lost s line taken next d _ new left) (agrees_unfound why here next leaves a)
  back_agrees line (GroupHeld site kept taken lost disk next has is are failed notes says left) = absurd (none disk failed)

  takes_agrees : (line : ScriptLine) → RvgTakes told d line s fails said new → NoteAgrees (note_at (new.world.nodes s))
  takes_agrees line (RvgTaken site middle next has is are back keeps works says left) = agrees_at (new.world.nodes s) next (back_group s line false next d _ new left) (came_agrees middle next back works)
  takes_agrees line (TakeFails site disk middle next events has is are failed back keeps works begun says left) = absurd (none disk failed)
  takes_agrees line (TakeLacks site middle next has is are back keeps works lacks says left) =
      agrees_at (new.world.nodes s) next (but_group true s line false next d _ new left)
      (agrees_same works.worked next (ap (λ (g : GroupNode). g.loose) works.is) (ap (λ (g : GroupNode). g.begun) works.is) (came_agrees middle works.worked back works.works))
  takes_agrees line (TakeCut site middle next events has is are fused back keeps works begun says left) = absurd (dry (fused, says))
  takes_agrees line (TakeOff site next has is are fused notes says left) = absurd (dry (fused, says))
  takes_agrees line (TakeUnfound site lost why next has is are not leaves says left) = agrees_at (new.world.nodes s) next (but_group lost s line false next d _ new left) (agrees_unfound why here next leaves a)
  takes_agrees line (TakeHeld site lost disk next has is are failed notes says left) = absurd (none disk failed)

  -- ---- other lines

  line_agrees : (Off : Type 0) → (Off → ⊥) → (line : ScriptLine) (next : GroupNode) → NotesLine Off s fails line here next → NoteAgrees next
  line_agrees Off runs (Write site volume start count fill) next x = x.keeps.quiet none runs a
  line_agrees Off runs (Put site volume start bytes) next x = x.keeps.quiet none runs a
  line_agrees Off runs (Read site volume start count) next x = x.keeps.quiet none runs a
  line_agrees Off runs (Show site volume start count) next x = x.keeps.quiet none runs a
  line_agrees Off runs (Apply site to) next x = x.keeps.quiet none runs a
  line_agrees Off runs other next same = agrees_note here next same a

  line_ends : (line : ScriptLine) → EndsOver told d line s fails said new → NoteAgrees (note_at (new.world.nodes s))
  line_ends line h =
      let runs : FuseRanOut (d.world.nodes s) h.inner → ⊥ = λ off. dry (off.0, subst (λ (r : Said). SaysOver (d.world.nodes s) h.next r said) off.1 h.says) in
      agrees_at (new.world.nodes s) h.next (ap (λ (w : World). (w.nodes s).group) h.left.world ∙ noted_over_here line d.world h.middle.world s h.next)
      (line_agrees (FuseRanOut (d.world.nodes s) h.inner) runs line h.next h.notes)

  back_or : (line : ScriptLine) → RvgBack told d line s fails said new ⊎ RvgFinds told d line s fails said new → NoteAgrees (note_at (new.world.nodes s))
  back_or line (inl back) = back_agrees line back
  back_or line (inr finds) = absurd (never_found told tells d s bright fails said new line a.loose finds)

  takes_or : (line : ScriptLine) → RvgTakes told d line s fails said new ⊎ RvgFinds told d line s fails said new → NoteAgrees (note_at (new.world.nodes s))
  takes_or line (inl takes) = takes_agrees line takes
  takes_or line (inr finds) = absurd (never_found told tells d s bright fails said new line a.loose finds)

  -- one on the group alone
  below_agrees : (line : ScriptLine) → (BringsUp line → ⊥) → ((n : Node) (note next : GroupNode) → GroupDoes told s n note line fails said next → NoteAgrees note → NoteAgrees next) → BelowEnds told d line s fails said new → NoteAgrees (note_at (new.world.nodes s))
  below_agrees line rests does below =
      agrees_at (new.world.nodes s) (note_loosened below.loosens (note_at (below.middle.world.nodes s))) (loosened_group below.loosens s below.middle new below.left)
      (tight_still below.loosens (note_at (below.middle.world.nodes s)) (λ loosens. below.why loosens none dry)
      (under_agrees told (missed_world below.missed d s) line s fails said below.middle none (λ off. dry (subst (λ (n : Node). FuseRanOut n said) (missed_node below.missed d s) off)) rests
      (λ note next done. does ((missed_world below.missed d s).world.nodes s) note next done) (missed_agrees below.missed d s a) below.ends))

  pub over_agrees : (line : ScriptLine) → OverRvg told d line s fails said new → NoteAgrees (note_at (new.world.nodes s))
  over_agrees (GroupDeport site) ends = below_agrees (GroupDeport site) (λ brings. brings) (λ n note next done. settled_maps note next done.0) ends
  over_agrees (Volume site volume blocks mirrors layout log map policy) ends = below_agrees (Volume site volume blocks mirrors layout log map policy) (λ brings. brings) (λ n note next done. volume_agrees s fails volume _ note next done.0) ends
  over_agrees (PlexDetach site volume plex) ends = below_agrees (PlexDetach site volume plex) (λ brings. brings) (λ n note next done. settled_maps note next done.0) ends
  over_agrees (PlexAttach site volume plex) ends = below_agrees (PlexAttach site volume plex) (λ brings. brings) (λ n note next done. settled_maps note next done.0) ends
  over_agrees (GroupImport site) ends = takes_or (GroupImport site) ends
  over_agrees (Recover site) ends = back_or (Recover site) ends
  over_agrees (Write site volume start count fill) ends =
      write_by told d (Write site volume start count fill) s fails said new (NoteAgrees (note_at (new.world.nodes s))) (λ it. line_ends (Write site volume start count fill) it)
      (λ below. below_agrees (Write site volume start count fill) (λ brings. brings) (λ n note next done. written_agrees s fails _ note next done.0) below) (is_data (kind_named (d.world.nodes s) volume)) ends
  over_agrees (Put site volume start bytes) ends =
      write_by told d (Put site volume start bytes) s fails said new (NoteAgrees (note_at (new.world.nodes s))) (λ it. line_ends (Put site volume start bytes) it)
      (λ below. below_agrees (Put site volume start bytes) (λ brings. brings) (λ n note next done. written_agrees s fails _ note next done.0) below) (is_data (kind_named (d.world.nodes s) volume)) ends
  over_agrees (Read site volume start count) ends =
      read_by told d (Read site volume start count) volume start count s fails said new (NoteAgrees (note_at (new.world.nodes s))) (λ it. line_ends (Read site volume start count) it) (λ left. agrees_note (note_at (d.world.nodes s)) (note_at (new.world.nodes s)) (read_note d new s left) a) (is_data (kind_named (d.world.nodes s) volume)) ends
  over_agrees (Show site volume start count) ends =
      read_by told d (Show site volume start count) volume start count s fails said new (NoteAgrees (note_at (new.world.nodes s))) (λ it. line_ends (Show site volume start count) it) (λ left. agrees_note (note_at (d.world.nodes s)) (note_at (new.world.nodes s)) (read_note d new s left) a) (is_data (kind_named (d.world.nodes s) volume)) ends
  over_agrees other ends = line_ends other ends
