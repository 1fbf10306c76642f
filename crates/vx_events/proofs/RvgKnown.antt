-- Disks of a group with a replicated volume group of which it is known what they hold stay so, as those of a group without one.
use Rattle.std.proofs.Common.{◌≡◌, ◌∙◌, ◌⊎◌, inl, inr, ℕ, Bool, true, false, Option, Some, ap, refl, sym, subst}
use Rattle.std.specs.Prelude.{unwrap_or}
use Rattle.vx_history.proofs.Updates.{at_place}
use Rattle.vx_history.specs.Doubts.{Doubted}
use Rattle.vx_history.specs.Groups.{GroupNode}
use Rattle.vx_history.specs.Steps.{burned}
use Rattle.vx_history.specs.Stops.{IsFused}
use Rattle.vx_history.specs.World.{NoFuse, Node, World}
use Rattle.vx_config.specs.declared.config.Config.{Config}
use Rattle.vx_model.specs.declared.units.Units.{Units}
use Rattle.vx_script.specs.declared.line.ScriptLine.{ScriptLine}
use Rattle.vx_script.specs.declared.line.ScriptLine.TheVariants.{Apply, GroupDeport, GroupImport, PlexAttach, PlexDetach, Put, Read, Recover, Show, Volume, Write}
use Rattle.vx_order.specs.Calls.{is_data}
use Rattle.vx_events.proofs.ReadsLeave.{read_by, read_note}
use Rattle.vx_events.proofs.WritesBelow.{write_by}
use Rattle.vx_events.proofs.KnownLaws.{back_known, cuts_known, finds_none, group_known, group_stays, no_rise, same_note, stays_known}
use Rattle.vx_events.proofs.RvgMissed.{loosened_note, missed_dark, missed_note}
use Rattle.vx_events.specs.Doubts.{with_disks}
use Rattle.vx_events.specs.Fails.{Fails}
use Rattle.vx_events.specs.GroupEnds.{BringsUp}
use Rattle.vx_events.specs.GroupLines.{noting}
use Rattle.vx_events.specs.GroupNotes.{Reconfigures, no_note, note_at}
use Rattle.vx_events.specs.Known.{MayDarken}
use Rattle.vx_events.specs.RvgBack.{FindsLost, FindsNoRvg, FindsPlain, FindsRvg, GroupHeld, GroupUnfound, IsLeftBack, KeptLost, LogFails, LogLacks, RvgBack, RvgFinds, RvgUp, fuse_left}
use Rattle.vx_events.specs.RvgMakes.{IsLeftRvg, MakesRvg, RvgCut, RvgDone, RvgFails, RvgLacks, units_at}
use Rattle.vx_events.specs.RvgNotes.{NotesNarrowed}
use Rattle.vx_events.specs.RvgOver.{AsGroup, BelowEnds, CutBelow, EndsBelow, EndsOver, NotesLine, OverRvg, kind_named, missed_world, noting_over, fuse_behind}
use Rattle.vx_events.specs.RvgWorks.{FuseRanOut, NotesWork, WorksAs}
use Rattle.vx_events.specs.declared.said.Said.{Said}
use Rattle.vx_events.specs.RvgTakes.{RvgTaken, TakeFails, TakeLacks, TakeCut, TakeOff, TakeUnfound, TakeHeld, RvgTakes}

-- ---- the note that a line leaves

pub of_note : (w : World) (s : ℕ) (next : GroupNode) → (w.nodes s).group ≡ Some next → next.dark ≡ false → (note_at (w.nodes s)).dark ≡ false
of_note w s next is known = ap (λ (o : Option GroupNode). (unwrap_or o no_note).dark) is ∙ known

pub noted_here : (v : World) (s : ℕ) (next : GroupNode) → ((noting v s next).nodes s).group ≡ Some next
noted_here v s next = ap (λ (n : Node). n.group) (at_place v.nodes s (record (v.nodes s) { group = Some next }))

pub noted_over_here : (line : ScriptLine) (w v : World) (s : ℕ) (next : GroupNode) → ((noting_over line w v s next).nodes s).group ≡ Some next
noted_over_here line w v s next = ap (λ (n : Node). n.group) (at_place v.nodes s (record (v.nodes s) { group = Some next; fuse = fuse_behind line (w.nodes s).fuse (v.nodes s).fuse }))

back_note : (s : ℕ) (line : ScriptLine) (taken : Bool) (next : GroupNode) (before last new : Doubted) → IsLeftBack s line taken next before last new → next.dark ≡ false
    → (note_at (new.world.nodes s)).dark ≡ false
back_note s line taken next before last new left known =
    let u : World = with_disks taken s before.world last.world in
    of_note new.world s next (ap (λ (w : World). (w.nodes s).group) left.world ∙ group_stays s line (noting u s next) ∙ noted_here u s next) known

pub back_dark : (s : ℕ) (line : ScriptLine) (taken : Bool) (next : GroupNode) (before last new : Doubted) → IsLeftBack s line taken next before last new
    → (note_at (new.world.nodes s)).dark ≡ next.dark
back_dark s line taken next before last new left =
    let u : World = with_disks taken s before.world last.world in
    ap (λ (o : Option GroupNode). (unwrap_or o no_note).dark)
    (ap (λ (w : World). (w.nodes s).group) left.world ∙ group_stays s line (noting u s next) ∙ noted_here u s next)

-- whatever becomes of the fuse
pub lost_group : (lost : Bool) (v : World) (s : ℕ) → ((fuse_left lost v s).nodes s).group ≡ (v.nodes s).group
lost_group true v s = ap (λ (n : Node). n.group) (at_place v.nodes s (record (v.nodes s) { fuse = NoFuse }))
lost_group false v s = refl

made_note : (s : ℕ) (next : GroupNode) (last new : Doubted) → IsLeftRvg s next last new → next.dark ≡ false → (note_at (new.world.nodes s)).dark ≡ false
made_note s next last new left known =
    let v : World = noting last.world s next in
    of_note new.world s next
    (ap (λ (w : World). (w.nodes s).group) left.world ∙ ap (λ (n : Node). n.group) (at_place v.nodes s (record (v.nodes s) { fuse = burned (v.nodes s).fuse })) ∙ noted_here last.world s next) known

-- ---- a line that makes a replicated volume group

pub narrowed_dark : (told : Type 0) (units : Units) (note new : GroupNode) → NotesNarrowed told units note new → new.dark ≡ note.dark
narrowed_dark told units note new x = ap (λ (g : GroupNode). g.dark) x.same

worked_dark : {C : Config → Config → Type 0} (Off : Type 0) (s : ℕ) (fails : Fails) (note new : GroupNode) → Reconfigures C (WorksAs Off s fails) note new → new.dark ≡ note.dark
worked_dark Off s fails note new x = x.keeps.works.same.dark

pub works_dark : (Off : Type 0) (s : ℕ) (fails : Fails) (note new : GroupNode) → NotesWork Off s fails note new → new.dark ≡ note.dark
works_dark Off s fails note new x = x.keeps.works.same.dark

pub making_known : (told : Type 0) (d : Doubted) (line : ScriptLine) (s : ℕ) (fails : Fails) (said : Said) (new : Doubted) → MakesRvg told d line s fails said new
    → (note_at (d.world.nodes s)).dark ≡ false → (note_at (new.world.nodes s)).dark ≡ false
making_known told d line s fails said new (RvgDone site srl maps volumes middle next is are x says left) known =
    made_note s next _ new left
    (ap (λ (g : GroupNode). g.dark) x.is ∙ worked_dark ⊥ s fails middle x.settled x.moves ∙ narrowed_dark told (units_at d s srl maps volumes) (note_at (d.world.nodes s)) middle x.narrowed ∙ known)
making_known told d line s fails said new (RvgLacks site srl maps volumes next is are x says left) known =
    made_note s next _ new left
    (works_dark ⊥ s fails x.middle next x.moves ∙ narrowed_dark told (units_at d s srl maps volumes) (note_at (d.world.nodes s)) x.middle x.narrowed ∙ known)
making_known told d line s fails said new (RvgFails site srl maps volumes disk next is are has x says left) known =
    made_note s next _ new left
    (works_dark ⊥ s fails x.middle next x.moves ∙ narrowed_dark told (units_at d s srl maps volumes) (note_at (d.world.nodes s)) x.middle x.narrowed ∙ known)
making_known told d line s fails said new (RvgCut site srl maps volumes next is are fused x says left) known =
    made_note s next _ new left
    (works_dark (IsFused (d.world.nodes s).fuse) s fails x.middle next x.moves ∙ narrowed_dark told (units_at d s srl maps volumes) (note_at (d.world.nodes s)) x.middle x.narrowed ∙ known)

-- ---- recoveries and imports

-- a line on the group alone
under_known : (told : Type 0) → told → (d : Doubted) (line : ScriptLine) (s : ℕ) (fails : Fails) (said : Said) (new : Doubted) → EndsBelow told d line s fails said new
    → (note_at (d.world.nodes s)).dark ≡ false → (MayDarken (note_at (d.world.nodes s)) line said → ⊥) → (note_at (new.world.nodes s)).dark ≡ false
under_known told tells d line s fails said new (AsGroup ends) known free = group_known told tells d line s fails said new ends known free
under_known told tells d line s fails said new (CutBelow kept next are fused cuts says left) known free =
    stays_known s line next _ new left (cuts_known s (note_at (d.world.nodes s)) line fails next known (no_rise (note_at (d.world.nodes s)) line said _ says free) cuts)

module _ (told : Type 0) (tells : told) (d : Doubted) (s : ℕ) (known : (note_at (d.world.nodes s)).dark ≡ false) (fails : Fails) (said : Said) (new : Doubted) where
  abbrev here : GroupNode
  here = note_at (d.world.nodes s)

  pub back_known_too : (line : ScriptLine) → (MayDarken here line said → ⊥) → RvgBack told d line s fails said new → (note_at (new.world.nodes s)).dark ≡ false
  back_known_too line free (RvgUp site kept taken middle next shown has is are back keeps works says shows left) =
      back_note s line taken next d _ new left
      (works_dark ⊥ s fails middle next works ∙ back_known told s (d.world.nodes s) fails here middle known (λ loose. free (subst BringsUp (sym is) tt, inl loose)) back)
  back_known_too line free (LogFails site kept taken disk middle next left has is are failed back keeps works begun says leads) =
      absurd (no_rise here line said _ says free (subst BringsUp (sym is) tt))
  back_known_too line free (LogLacks site kept taken middle next has is are back keeps works lacks says left) = absurd (no_rise here line said _ says free (subst BringsUp (sym is) tt))
  back_known_too line free (KeptLost site kept taken disk middle next has cut is are failed back keeps works says left) = absurd (no_rise here line said _ says free (subst BringsUp (sym is) tt))
  back_known_too line free (GroupUnfound site kept taken lost why next has is are not leaves says left) = absurd (no_rise here line said why says free (subst BringsUp (sym is) tt))
  back_known_too line free (GroupHeld site kept taken lost disk next has is are failed notes says left) = absurd (no_rise here line said _ says free (subst BringsUp (sym is) tt))

  finds_known : (line : ScriptLine) → (MayDarken here line said → ⊥) → RvgFinds told d line s fails said new → ⊥
  finds_known line free (FindsRvg kept taken next mid n k row c units are brings unknown dark is same comes config fits lies says left) =
      finds_none told tells here known (λ loose. free (brings, inl loose)) unknown
  finds_known line free (FindsLost site kept taken disk next mid n k row c units has cut is are failed unknown dark rests same comes config fits lies says left) =
      finds_none told tells here known (λ loose. free (subst BringsUp (sym is) tt, inl loose)) unknown
  finds_known line free (FindsPlain kept taken next mid has are brings unknown dark is none says left) =
      finds_none told tells here known (λ loose. free (brings, inl loose)) unknown
  finds_known line free (FindsNoRvg kept taken lost next why has are brings unknown device notes says left) =
      finds_none told tells here known (λ loose. free (brings, inl loose)) unknown

  takes_known : (line : ScriptLine) → (MayDarken here line said → ⊥) → RvgTakes told d line s fails said new → (note_at (new.world.nodes s)).dark ≡ false
  takes_known line free (RvgTaken site middle next has is are back keeps works says left) =
      back_note s line false next d _ new left
      (works_dark ⊥ s fails middle next works ∙ back_known told s (d.world.nodes s) fails here middle known (λ loose. free (subst BringsUp (sym is) tt, inl loose)) back)
  takes_known line free (TakeFails site disk middle next events has is are failed back keeps works begun says left) = absurd (no_rise here line said _ says free (subst BringsUp (sym is) tt))
  takes_known line free (TakeLacks site middle next has is are back keeps works lacks says left) = absurd (no_rise here line said _ says free (subst BringsUp (sym is) tt))
  takes_known line free (TakeCut site middle next events has is are fused back keeps works begun says left) = absurd (no_rise here line said _ says free (subst BringsUp (sym is) tt))
  takes_known line free (TakeOff site next has is are fused notes says left) = absurd (no_rise here line said _ says free (subst BringsUp (sym is) tt))
  takes_known line free (TakeUnfound site lost why next has is are not leaves says left) = absurd (no_rise here line said why says free (subst BringsUp (sym is) tt))
  takes_known line free (TakeHeld site lost disk next has is are failed notes says left) = absurd (no_rise here line said _ says free (subst BringsUp (sym is) tt))

  -- ---- other lines

  line_dark : (Off : Type 0) (line : ScriptLine) (next : GroupNode) → NotesLine Off s fails line here next → next.dark ≡ false
  line_dark Off (Write site volume start count fill) next x = works_dark Off s fails here next x ∙ known
  line_dark Off (Put site volume start bytes) next x = works_dark Off s fails here next x ∙ known
  line_dark Off (Read site volume start count) next x = works_dark Off s fails here next x ∙ known
  line_dark Off (Show site volume start count) next x = works_dark Off s fails here next x ∙ known
  line_dark Off (Apply site to) next x = works_dark Off s fails here next x ∙ known
  line_dark Off other next same = same_note here next same known

  line_known : (line : ScriptLine) → EndsOver told d line s fails said new → (note_at (new.world.nodes s)).dark ≡ false
  line_known line h =
      of_note new.world s h.next (ap (λ (w : World). (w.nodes s).group) h.left.world ∙ noted_over_here line d.world h.middle.world s h.next) (line_dark (FuseRanOut (d.world.nodes s) h.inner) line h.next h.notes)

  back_or_known : (line : ScriptLine) → (MayDarken here line said → ⊥) → RvgBack told d line s fails said new ⊎ RvgFinds told d line s fails said new
      → (note_at (new.world.nodes s)).dark ≡ false
  back_or_known line free (inl back) = back_known_too line free back
  back_or_known line free (inr finds) = absurd (finds_known line free finds)

  takes_or_known : (line : ScriptLine) → (MayDarken here line said → ⊥) → RvgTakes told d line s fails said new ⊎ RvgFinds told d line s fails said new → (note_at (new.world.nodes s)).dark ≡ false
  takes_or_known line free (inl takes) = takes_known line free takes
  takes_or_known line free (inr finds) = absurd (finds_known line free finds)

  -- one on the group alone
  below_known : (line : ScriptLine) → (MayDarken here line said → ⊥) → BelowEnds told d line s fails said new → (note_at (new.world.nodes s)).dark ≡ false
  below_known line free below =
      ap (λ (k : GroupNode). k.dark) (loosened_note below.loosens s below.middle new below.left)
      ∙ under_known told tells (missed_world below.missed d s) line s fails said below.middle below.ends (missed_dark below.missed d s known)
      (λ may. free (subst (λ (k : GroupNode). MayDarken k line said) (missed_note below.missed d s) may))

  pub over_known : (line : ScriptLine) → (MayDarken here line said → ⊥) → OverRvg told d line s fails said new → (note_at (new.world.nodes s)).dark ≡ false
  over_known (GroupDeport site) free ends = below_known (GroupDeport site) free ends
  over_known (Volume site volume blocks mirrors layout log map policy) free ends = below_known (Volume site volume blocks mirrors layout log map policy) free ends
  over_known (PlexDetach site volume plex) free ends = below_known (PlexDetach site volume plex) free ends
  over_known (PlexAttach site volume plex) free ends = below_known (PlexAttach site volume plex) free ends
  over_known (GroupImport site) free ends = takes_or_known (GroupImport site) free ends
  over_known (Recover site) free ends = back_or_known (Recover site) free ends
  over_known (Write site volume start count fill) free ends =
      write_by told d (Write site volume start count fill) s fails said new ((note_at (new.world.nodes s)).dark ≡ false) (λ it. line_known (Write site volume start count fill) it) (λ below. below_known (Write site volume start count fill) free below) (is_data (kind_named (d.world.nodes s) volume)) ends
  over_known (Put site volume start bytes) free ends =
      write_by told d (Put site volume start bytes) s fails said new ((note_at (new.world.nodes s)).dark ≡ false) (λ it. line_known (Put site volume start bytes) it) (λ below. below_known (Put site volume start bytes) free below) (is_data (kind_named (d.world.nodes s) volume)) ends
  over_known (Read site volume start count) free ends =
      read_by told d (Read site volume start count) volume start count s fails said new ((note_at (new.world.nodes s)).dark ≡ false) (λ it. line_known (Read site volume start count) it) (λ left. ap (λ (g : GroupNode). g.dark) (read_note d new s left) ∙ known) (is_data (kind_named (d.world.nodes s) volume)) ends
  over_known (Show site volume start count) free ends =
      read_by told d (Show site volume start count) volume start count s fails said new ((note_at (new.world.nodes s)).dark ≡ false) (λ it. line_known (Show site volume start count) it) (λ left. ap (λ (g : GroupNode). g.dark) (read_note d new s left) ∙ known) (is_data (kind_named (d.world.nodes s) volume)) ends
  over_known other free ends = line_known other ends
