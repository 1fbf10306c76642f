-- Disks of a group of which it is known what they hold stay so, but for a recovery or an import of disks that may not agree, or one that is refused.
use Rattle.std.proofs.Common.{◌≡◌, ◌∙◌, ◌⊎◌, inl, inr, ℕ, Bool, true, false, List, Option, Some, ap, refl, sym, subst}
use Rattle.std.specs.Prelude.{unwrap_or}
use Rattle.vx_model.specs.Content.{Write as WriteBlocks}
use Rattle.vx_model.specs.declared.no.No.{No}
use Rattle.vx_history.proofs.Updates.{at_place}
use Rattle.vx_history.specs.Doubts.{Doubted}
use Rattle.vx_history.specs.Groups.{GroupNode, MissedNote, NoteSettles, NoteUnsettles}
use Rattle.vx_history.specs.Steps.{burned}
use Rattle.vx_history.specs.World.{FuseSet, Node, World, updated, with_node}
use Rattle.vx_config.specs.declared.config.Config.{Config}
use Rattle.vx_layout.specs.declared.shape.Shape.{Shape}
use Rattle.vx_script.specs.declared.line.ScriptLine.{ScriptLine}
use Rattle.vx_script.specs.declared.line.ScriptLine.TheVariants.{GroupInit, GroupDeport, GroupImport, Volume, PlexDetach, PlexAttach, Disk, Crash, Fuse, Recover, Write, Put, Read, Show, Status}
use Rattle.vx_events.specs.Failing.{is_failing}
use Rattle.vx_events.specs.Fails.{Fails}
use Rattle.vx_events.specs.GroupEnds.{BringsUp, GroupCuts, GroupDoes, GroupEnds, GroupDone, GroupLacks, GroupFails, GroupSpoils, InitFails, ImportFails, KeptUnread, GroupCut, GroupNotFound, FindsGroup, FindsNoGroup, IsLeftOver, KnowsNothing}
use Rattle.vx_events.specs.GroupLines.{group_noted, noting}
use Rattle.vx_events.specs.GroupMaps.{WithMaps}
use Rattle.vx_events.specs.GroupNotes.{NotesBack, NotesCut, NotesDoubt, NotesVolume, NotesWrite, Reconfigures, no_note, note_at}
use Rattle.vx_events.specs.Known.{MayDarken, SaysNo}
use Rattle.vx_events.specs.declared.said.Said.{Said}
use Rattle.vx_events.specs.declared.said.Said.TheVariants.{Refused}

-- ---- the note that a line leaves

placed : (v : World) (s : ℕ) (n : Node) → n.group ≡ (v.nodes s).group → ((with_node v s n).nodes s).group ≡ (v.nodes s).group
placed v s n is = ap (λ (x : Node). x.group) (at_place v.nodes s n) ∙ is

-- what a line notes of the disks is beside the note of their group
pub group_stays : (s : ℕ) (line : ScriptLine) (v : World) → ((group_noted s line v).nodes s).group ≡ (v.nodes s).group
group_stays s (Disk site disk state) v = placed v s (record (v.nodes s) { failing = updated (v.nodes s).failing disk (is_failing state) }) refl
group_stays s (Fuse site calls pick) v = placed v s (record (v.nodes s) { fuse = FuseSet calls }) refl
group_stays s (Volume site volume blocks mirrors layout log map policy) v = placed v s (record (v.nodes s) { fuse = burned (v.nodes s).fuse }) refl
group_stays s (PlexDetach site volume plex) v = placed v s (record (v.nodes s) { fuse = burned (v.nodes s).fuse }) refl
group_stays s (PlexAttach site volume plex) v = placed v s (record (v.nodes s) { fuse = burned (v.nodes s).fuse }) refl
group_stays s (Write site volume start count fill) v = placed v s (record (v.nodes s) { fuse = burned (v.nodes s).fuse }) refl
group_stays s (Put site volume start bytes) v = placed v s (record (v.nodes s) { fuse = burned (v.nodes s).fuse }) refl
group_stays s (GroupDeport site) v = placed v s (record (v.nodes s) { fuse = burned (v.nodes s).fuse }) refl
group_stays s (GroupImport site) v = placed v s (record (v.nodes s) { fuse = burned (v.nodes s).fuse }) refl
group_stays s (Read site volume start count) v = placed v s (record (v.nodes s) { fuse = burned (v.nodes s).fuse }) refl
group_stays s (Show site volume start count) v = placed v s (record (v.nodes s) { fuse = burned (v.nodes s).fuse }) refl
group_stays s other v = refl

pub left_note : (s : ℕ) (line : ScriptLine) (next : GroupNode) (last new : Doubted) → IsLeftOver s line next last new → (new.world.nodes s).group ≡ Some next
left_note s line next last new left =
    ap (λ (w : World). (w.nodes s).group) left.world ∙ group_stays s line (noting last.world s next)
    ∙ ap (λ (n : Node). n.group) (at_place last.world.nodes s (record (last.world.nodes s) { group = Some next }))

pub stays_known : (s : ℕ) (line : ScriptLine) (next : GroupNode) (last new : Doubted) → IsLeftOver s line next last new → next.dark ≡ false → (note_at (new.world.nodes s)).dark ≡ false
stays_known s line next last new left known = ap (λ (o : Option GroupNode). (unwrap_or o no_note).dark) (left_note s line next last new left) ∙ known

-- ---- what becomes of a note

settled : {C : Config → Config → Type 0} (note next : GroupNode) → note.dark ≡ false → Reconfigures C NoteSettles note next → next.dark ≡ false
settled note next known x = x.keeps.same.dark ∙ known

unsettled : {C : Config → Config → Type 0} {twice : Bool} (note next : GroupNode) → note.dark ≡ false → Reconfigures C (NoteUnsettles twice) note next → next.dark ≡ false
unsettled note next known x = x.keeps.same.dark ∙ known

settled_maps : {C : Config → Config → Type 0} {M : Config → Config → MissedNote → MissedNote → Type 0} (note next : GroupNode) → note.dark ≡ false → WithMaps (Reconfigures C NoteSettles) M note next → next.dark ≡ false
settled_maps note next known x = ap (λ (g : GroupNode). g.dark) x.is ∙ settled note x.middle known x.goes

unsettled_maps : {C : Config → Config → Type 0} {twice : Bool} {M : Config → Config → MissedNote → MissedNote → Type 0} (note next : GroupNode) → note.dark ≡ false → WithMaps (Reconfigures C (NoteUnsettles twice)) M note next → next.dark ≡ false
unsettled_maps note next known x = ap (λ (g : GroupNode). g.dark) x.is ∙ unsettled note x.middle known x.goes

with_volume_more : (s : ℕ) (fails : Fails) (name : List ℕ) (note next : GroupNode) → {want : Shape} → note.dark ≡ false → NotesVolume s fails name want note next → next.dark ≡ false
with_volume_more s fails name note next known x = ap (λ (g : GroupNode). g.dark) x.zeros.same ∙ x.settles.same.dark ∙ known

written : (s : ℕ) (fails : Fails) (note next : GroupNode) → {w : WriteBlocks} → note.dark ≡ false → NotesWrite s fails w note next → next.dark ≡ false
written s fails note next known x = ap (λ (g : GroupNode). g.dark) x.is ∙ settled_maps note x.middle known x.moves

doubtful : (s : ℕ) (fails : Fails) (note next : GroupNode) → {w : WriteBlocks} → note.dark ≡ false → NotesDoubt s fails w note next → next.dark ≡ false
doubtful s fails note next known x = ap (λ (g : GroupNode). g.dark) x.is ∙ unsettled_maps note x.middle known x.moves

cut_off : (s : ℕ) (fails : Fails) (note next : GroupNode) → {w : WriteBlocks} → note.dark ≡ false → NotesCut s fails w note next → next.dark ≡ false
cut_off s fails note next known x = ap (λ (g : GroupNode). g.dark) x.is ∙ unsettled_maps note x.middle known x.moves

pub back_known : (told : Type 0) (s : ℕ) (n : Node) (fails : Fails) (note next : GroupNode) → note.dark ≡ false → (note.loose ≡ true → ⊥) → NotesBack told s n fails note next → next.dark ≡ false
back_known told s n fails note next known tight x = by x.dark
  where
    by : (next.dark ≡ note.dark) ⊎ ((next.dark ≡ true) × (note.loose ≡ true)) → next.dark ≡ false
    by (inl same) = same ∙ known
    by (inr dark) = absurd (tight dark.1)

pub same_note : (note next : GroupNode) → next ≡ note → note.dark ≡ false → next.dark ≡ false
same_note note next same known = ap (λ (g : GroupNode). g.dark) same ∙ known

-- ---- the ends of a line

does_known : (told : Type 0) (s : ℕ) (n : Node) (note : GroupNode) (line : ScriptLine) (fails : Fails) (said : Said) (next : GroupNode) → note.dark ≡ false
    → (MayDarken note line said → ⊥) → GroupDoes told s n note line fails said next → next.dark ≡ false
does_known told s n note (GroupInit site) fails said next known free does = does.0.dark
does_known told s n note (GroupDeport site) fails said next known free does = settled_maps note next known does.0
does_known told s n note (GroupImport site) fails said next known free does = back_known told s n fails note next known (λ loose. free (tt, inl loose)) does.0
does_known told s n note (Volume site volume blocks mirrors layout log map policy) fails said next known free does = with_volume_more s fails volume note next known does.0
does_known told s n note (PlexDetach site volume plex) fails said next known free does = settled_maps note next known does.0
does_known told s n note (PlexAttach site volume plex) fails said next known free does = settled_maps note next known does.0
does_known told s n note (Write site volume start count fill) fails said next known free does = written s fails note next known does.0
does_known told s n note (Put site volume start bytes) fails said next known free does = written s fails note next known does.0
does_known told s n note (Read site volume start count) fails said next known free does = same_note note next does.0 known
does_known told s n note (Show site volume start count) fails said next known free does = same_note note next does.0 known
does_known told s n note (Recover site) fails said next known free does = back_known told s n fails note next known (λ loose. free (tt, inl loose)) does.0
does_known told s n note (Disk site disk state) fails said next known free does = same_note note next does.0 known
does_known told s n note (Crash site pick) fails said next known free does = same_note note next does.0 known
does_known told s n note (Fuse site calls pick) fails said next known free does = same_note note next does.0 known
does_known told s n note (Status site) fails said next known free does = same_note note next does.0 known
does_known told s n note other fails said next known free does = absurd does

spoils_known : (s : ℕ) (note : GroupNode) (line : ScriptLine) (fails : Fails) (next : GroupNode) → note.dark ≡ false → (BringsUp line → ⊥) → GroupSpoils s note line fails next → next.dark ≡ false
spoils_known s note (GroupDeport site) fails next known free spoils = unsettled_maps note next known spoils
spoils_known s note (GroupImport site) fails next known free spoils = absurd (free tt)
spoils_known s note (Volume site volume blocks mirrors layout log map policy) fails next known free spoils = unsettled_maps note next known spoils
spoils_known s note (PlexDetach site volume plex) fails next known free spoils = unsettled_maps note next known spoils
spoils_known s note (PlexAttach site volume plex) fails next known free spoils = unsettled_maps note next known spoils
spoils_known s note (Write site volume start count fill) fails next known free spoils = doubtful s fails note next known spoils
spoils_known s note (Put site volume start bytes) fails next known free spoils = doubtful s fails note next known spoils
spoils_known s note (Read site volume start count) fails next known free spoils = same_note note next spoils.0 known
spoils_known s note (Show site volume start count) fails next known free spoils = same_note note next spoils.0 known
spoils_known s note (Recover site) fails next known free spoils = absurd (free tt)
spoils_known s note other fails next known free spoils = absurd spoils

pub cuts_known : (s : ℕ) (note : GroupNode) (line : ScriptLine) (fails : Fails) (next : GroupNode) → note.dark ≡ false → (BringsUp line → ⊥) → GroupCuts s note line fails next → next.dark ≡ false
cuts_known s note (GroupDeport site) fails next known free cuts = unsettled_maps note next known cuts
cuts_known s note (GroupImport site) fails next known free cuts = absurd (free tt)
cuts_known s note (Volume site volume blocks mirrors layout log map policy) fails next known free cuts = unsettled_maps note next known cuts
cuts_known s note (PlexDetach site volume plex) fails next known free cuts = unsettled_maps note next known cuts
cuts_known s note (PlexAttach site volume plex) fails next known free cuts = unsettled_maps note next known cuts
cuts_known s note (Write site volume start count fill) fails next known free cuts = cut_off s fails note next known cuts
cuts_known s note (Put site volume start bytes) fails next known free cuts = cut_off s fails note next known cuts
cuts_known s note other fails next known free cuts = absurd cuts

-- a line that was refused brings no group up
pub no_rise : (note : GroupNode) (line : ScriptLine) (said : Said) (why : No) → said ≡ Refused why → (MayDarken note line said → ⊥) → BringsUp line → ⊥
no_rise note line said why is free brings = free (brings, inr (subst SaysNo (sym is) tt))

pub never : false ≡ true → ⊥
never e = absurd (cc)

pub finds_none : (told : Type 0) → told → (note : GroupNode) → note.dark ≡ false → (note.loose ≡ true → ⊥) → KnowsNothing told note → ⊥
finds_none told tells note known tight (inl untold) = untold tells
finds_none told tells note known tight (inr (inl loose)) = tight loose
finds_none told tells note known tight (inr (inr dark)) = never (sym known ∙ dark)

pub group_known : (told : Type 0) → told → (d : Doubted) (line : ScriptLine) (s : ℕ) (fails : Fails) (said : Said) (new : Doubted) → GroupEnds told d line s fails said new
    → (note_at (d.world.nodes s)).dark ≡ false → (MayDarken (note_at (d.world.nodes s)) line said → ⊥) → (note_at (new.world.nodes s)).dark ≡ false
group_known told tells d line s fails said new (GroupDone next are does left) known free =
    stays_known s line next _ new left (does_known told s (d.world.nodes s) (note_at (d.world.nodes s)) line fails said next known free does)
group_known told tells d line s fails said new (GroupLacks why wants none says left) known free = stays_known s line _ d new left known
group_known told tells d line s fails said new (GroupFails disk next are has spoils says left) known free =
    stays_known s line next _ new left (spoils_known s (note_at (d.world.nodes s)) line fails next known (no_rise (note_at (d.world.nodes s)) line said _ says free) spoils)
group_known told tells d line s fails said new (InitFails disk site is are has says left) known free = subst (λ (w : World). (note_at (w.nodes s)).dark ≡ false) (sym left.world) known
group_known told tells d line s fails said new (ImportFails why next site is are refuses begun says left) known free =
    absurd (no_rise (note_at (d.world.nodes s)) line said why says free (subst BringsUp (sym is) tt))
group_known told tells d line s fails said new (KeptUnread disk next site is are has back says left) known free =
    absurd (no_rise (note_at (d.world.nodes s)) line said _ says free (subst BringsUp (sym is) tt))
group_known told tells d line s fails said new (GroupCut next are fused cuts says left) known free =
    stays_known s line next _ new left (cuts_known s (note_at (d.world.nodes s)) line fails next known (no_rise (note_at (d.world.nodes s)) line said _ says free) cuts)
group_known told tells d line s fails said new (GroupNotFound why next are brings not leaves says left) known free = absurd (no_rise (note_at (d.world.nodes s)) line said why says free brings)
group_known told tells d line s fails said new (FindsGroup next are brings unknown dark says left) known free =
    absurd (finds_none told tells (note_at (d.world.nodes s)) known (λ loose. free (brings, inl loose)) unknown)
group_known told tells d line s fails said new (FindsNoGroup next why are brings unknown device refused says left) known free =
    absurd (no_rise (note_at (d.world.nodes s)) line said why says free brings)
