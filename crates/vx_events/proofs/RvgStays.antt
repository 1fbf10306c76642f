-- A line at a site over a group of disks with a replicated volume group leaves it noted with the one that it had, on the same volumes.
use Rattle.std.proofs.Common.{◌≡◌, ◌∙◌, ◌⊎◌, inl, inr, ℕ, Bool, true, false, List, Option, Some, ap, refl, sym, subst}
use Rattle.std.specs.Prelude.{slice_get, unwrap_or}
use Rattle.vx_model.specs.declared.no.Counted.TheVariants.{Number}
use Rattle.vx_model.specs.declared.no.No.{No}
use Rattle.vx_model.specs.declared.no.No.TheVariants.{Limit}
use Rattle.vx_history.specs.Doubts.{Doubted}
use Rattle.vx_history.specs.Groups.{GroupNode, MissedNote}
use Rattle.vx_history.specs.World.{Node, World}
use Rattle.vx_model.specs.Content.{Write as BlockWrite}
use Rattle.vx_config.specs.declared.config.Config.{Config}
use Rattle.vx_model.specs.declared.site.PlexState.TheVariants.{Active, Stale}
use Rattle.vx_script.specs.declared.line.ScriptLine.{ScriptLine}
use Rattle.vx_script.specs.declared.line.ScriptLine.TheVariants.{Apply, GroupDeport, GroupImport, PlexAttach, PlexDetach, Put, Read, Recover, Show, Volume, Write}
use Rattle.vx_events.proofs.KnownLaws.{group_stays, left_note, never}
use Rattle.vx_events.proofs.Places.{some_same}
use Rattle.vx_events.proofs.PlexKeeps.{puts_or, volume_keeps}
use Rattle.vx_events.proofs.RvgConfigs.{again_keeps, closed_keeps, keeps_self, keeps_then, loses_keeps, stayed}
use Rattle.vx_events.proofs.RvgKnown.{back_dark, lost_group, noted_here, noted_over_here}
use Rattle.vx_events.proofs.RvgMissed.{loosened_note, missed_keeps}
use Rattle.vx_events.specs.Doubts.{with_disks}
use Rattle.vx_events.specs.Fails.{Fails}
use Rattle.vx_events.specs.GroupConfigs.{ConfigLoses, lies_on_disk, opened_again}
use Rattle.vx_order.specs.Calls.{is_data}
use Rattle.vx_events.proofs.ReadsLeave.{read_by, read_note}
use Rattle.vx_events.proofs.WritesBelow.{write_by}
use Rattle.vx_events.specs.GroupEnds.{BringsUp, FindsGroup, FindsNoGroup, GroupCut, GroupCuts, GroupDoes, GroupDone, GroupEnds, GroupFails, GroupLacks, GroupNotFound, GroupSpoils, ImportFails, InitFails, KeptUnread, NotFoundLeaves}
use Rattle.vx_events.specs.GroupLines.{group_noted, noting, plain_number}
use Rattle.vx_events.specs.GroupMaps.{WithMaps}
use Rattle.vx_events.specs.GroupNotes.{IsKnown, NotesBack, NotesCut, NotesDoubt, NotesRefused, NotesUnfound, NotesWrite, Reconfigures, no_note, note_at}
use Rattle.vx_events.specs.GroupViews.{config_of}
use Rattle.vx_events.specs.RvgBack.{FindsLost, FindsNoRvg, FindsPlain, FindsRvg, GroupHeld, GroupUnfound, IsLeftBack, IsLeftBut, KeptLost, LogFails, LogLacks, RvgBack, RvgFinds, RvgUp}
use Rattle.vx_events.specs.RvgFits.{KeepsRvg, KeptConfig, NoteKeepsRvg, config_rvg, rvg_noted}
use Rattle.vx_events.specs.RvgOver.{AsGroup, BelowEnds, CutBelow, EndsBelow, NotesLine, OverRvg, EndsOver, kind_named, missed_world}
use Rattle.vx_events.specs.RvgViews.{is_over_rvg}
use Rattle.vx_events.specs.RvgWorks.{NotesWork, FuseRanOut, WorksCut}
use Rattle.vx_events.specs.declared.said.Said.{Said}
use Rattle.vx_events.specs.RvgTakes.{RvgTaken, TakeFails, TakeLacks, TakeCut, TakeOff, TakeUnfound, TakeHeld, RvgTakes, NotesOff}
use Rattle.vx_history.specs.Stops.{IsFused}

-- ---- notes

pub same_config : (note next : GroupNode) → next.config ≡ note.config → NoteKeepsRvg note next
same_config note next same c at = record { now = c; is = ap (λ (bytes : List ℕ). config_of bytes) same ∙ at; keeps = keeps_self c }

same_note : (note next : GroupNode) → next ≡ note → NoteKeepsRvg note next
same_note note next same = same_config note next (ap (λ (g : GroupNode). g.config) same)

pub then_same : (note middle next : GroupNode) → NoteKeepsRvg note middle → next.config ≡ middle.config → NoteKeepsRvg note next
then_same note middle next f same c at =
    let x : KeptConfig c middle = f c at in record { now = x.now; is = ap (λ (bytes : List ℕ). config_of bytes) same ∙ x.is; keeps = x.keeps }

pub then_keeps : (note middle next : GroupNode) → NoteKeepsRvg note middle → NoteKeepsRvg middle next → NoteKeepsRvg note next
then_keeps note middle next f g c at =
    let x : KeptConfig c middle = f c at in
    let y : KeptConfig x.now next = g x.now x.is in
    record { now = y.now; is = y.is; keeps = keeps_then c x.now y.now x.keeps y.keeps }

reconfigured : {C : Config → Config → Type 0} {K : GroupNode → GroupNode → Type 0} (note next : GroupNode) → ((c d : Config) → C c d → KeepsRvg c d)
    → Reconfigures C K note next → NoteKeepsRvg note next
reconfigured note next keeps x c at = record {
  now = x.now;
  is = x.is;
  keeps = subst (λ (k : Config). KeepsRvg k x.now) (some_same (sym x.was ∙ at)) (keeps x.old x.now x.change);
}

-- what is noted of the regions that plexes missed may go on too
pub mapped_by : {C : Config → Config → Type 0} {K : GroupNode → GroupNode → Type 0} {Maps : Config → Config → MissedNote → MissedNote → Type 0} (note next : GroupNode)
    → ((c d : Config) → C c d → KeepsRvg c d) → WithMaps (Reconfigures C K) Maps note next → NoteKeepsRvg note next
mapped_by note next keeps x = then_same note x.middle next (reconfigured note x.middle keeps x.goes) (ap (λ (g : GroupNode). g.config) x.is)

pub loses : {K : GroupNode → GroupNode → Type 0} (s : ℕ) (fails : Fails) (note next : GroupNode) → Reconfigures (ConfigLoses s fails) K note next → NoteKeepsRvg note next
loses s fails note next x = reconfigured note next (λ c d. loses_keeps (λ _. false) s fails c d) x

pub refused_config : (note next : GroupNode) → NotesRefused note next → next.config ≡ note.config
refused_config note next (inl same) = ap (λ (g : GroupNode). g.config) same
refused_config note next (inr dark) = ap (λ (g : GroupNode). g.config) dark

pub unmade_config : (note next : GroupNode) → NotesUnfound note next → next.config ≡ note.config
unmade_config note next (inl refused) = refused_config note next refused
unmade_config note next (inr loose) = refused_config (record note { loose = true }) next loose

unfound_config : (why : No) (note next : GroupNode) → NotFoundLeaves why note next → next.config ≡ note.config
unfound_config (Limit Number most) note next leaves = refused_config note next leaves
unfound_config other note next leaves = ap (λ (g : GroupNode). g.config) leaves

-- what a site notes of its group
pub by_note : (m : Node) (note next : GroupNode) → m.group ≡ Some next → NoteKeepsRvg note next → NoteKeepsRvg note (note_at m)
by_note m note next is keeps = subst (λ (g : GroupNode). NoteKeepsRvg note g) (sym (ap (λ (o : Option GroupNode). unwrap_or o no_note) is)) keeps

-- ---- a line on the group alone

-- such a line keeps it, where it is done, fails and is cut off so
module _ (told : Type 0) (d : Doubted) (line : ScriptLine) (s : ℕ) (fails : Fails) (said : Said) (new : Doubted) (rests : BringsUp line → ⊥)
    (does : (note next : GroupNode) → GroupDoes told s (d.world.nodes s) note line fails said next → NoteKeepsRvg note next) (spoils : (note next : GroupNode) → GroupSpoils s note line fails next → NoteKeepsRvg note next)
    (cuts : (note next : GroupNode) → GroupCuts s note line fails next → NoteKeepsRvg note next) where
  abbrev noted : GroupNode
  noted = note_at (d.world.nodes s)

  pub group_keeps : GroupEnds told d line s fails said new → NoteKeepsRvg (note_at (d.world.nodes s)) (note_at (new.world.nodes s))
  group_keeps (GroupDone next are done left) = by_note (new.world.nodes s) noted next (left_note s line next _ new left) (does noted next done)
  group_keeps (GroupLacks why wants none says left) = by_note (new.world.nodes s) noted noted (left_note s line noted d new left) (same_config noted noted refl)
  group_keeps (GroupFails disk next are has spoiled says left) = by_note (new.world.nodes s) noted next (left_note s line next _ new left) (spoils noted next spoiled)
  group_keeps (InitFails disk site is are has says left) = subst (λ (w : World). NoteKeepsRvg (note_at (d.world.nodes s)) (note_at (w.nodes s))) (sym left.world) (same_config noted noted refl)
  group_keeps (ImportFails why next site is are refuses begun says left) = absurd (rests (subst BringsUp (sym is) tt))
  group_keeps (KeptUnread disk next site is are has back says left) = absurd (rests (subst BringsUp (sym is) tt))
  group_keeps (GroupCut next are fused cut says left) = by_note (new.world.nodes s) noted next (left_note s line next _ new left) (cuts noted next cut)
  group_keeps (GroupNotFound why next are brings not leaves says left) = absurd (rests brings)
  group_keeps (FindsGroup next are brings unknown dark says left) = absurd (rests brings)
  group_keeps (FindsNoGroup next why are brings unknown device refused says left) = absurd (rests brings)

  under_keeps : EndsBelow told d line s fails said new → NoteKeepsRvg (note_at (d.world.nodes s)) (note_at (new.world.nodes s))
  under_keeps (AsGroup ends) = group_keeps ends
  under_keeps (CutBelow kept next are fused cut says left) = by_note (new.world.nodes s) noted next (left_note s line next _ new left) (cuts noted next cut)

-- so it is behind what else the line notes
module _ (told : Type 0) (d : Doubted) (line : ScriptLine) (s : ℕ) (fails : Fails) (said : Said) (new : Doubted) (rests : BringsUp line → ⊥)
    (does : (n : Node) (note next : GroupNode) → GroupDoes told s n note line fails said next → NoteKeepsRvg note next) (spoils : (note next : GroupNode) → GroupSpoils s note line fails next → NoteKeepsRvg note next)
    (cuts : (note next : GroupNode) → GroupCuts s note line fails next → NoteKeepsRvg note next) where
  pub below_keeps : BelowEnds told d line s fails said new → NoteKeepsRvg (note_at (d.world.nodes s)) (note_at (new.world.nodes s))
  below_keeps below =
      missed_keeps below.missed d s (note_at (new.world.nodes s))
      (then_same (note_at ((missed_world below.missed d s).world.nodes s)) (note_at (below.middle.world.nodes s)) (note_at (new.world.nodes s))
      (under_keeps told (missed_world below.missed d s) line s fails said below.middle rests (does ((missed_world below.missed d s).world.nodes s)) spoils cuts below.ends)
      (ap (λ (g : GroupNode). g.config) (loosened_note below.loosens s below.middle new below.left)))

-- a deport
deport_keeps : (s : ℕ) (fails : Fails) (note next : GroupNode) (told : Type 0) (n : Node) (site : List ℕ) (said : Said) → GroupDoes told s n note (GroupDeport site) fails said next → NoteKeepsRvg note next
deport_keeps s fails note next told n site said does =
    mapped_by note next
    (λ c d x.
    keeps_then c (opened_again c) d (again_keeps c)
    (keeps_then (opened_again c) (opened_again d) d (loses_keeps (λ _. false) s fails (opened_again c) (opened_again d) x) (closed_keeps d))) does.0

below_stays : (told : Type 0) (d : Doubted) (site : List ℕ) (s : ℕ) (fails : Fails) (said : Said) (new : Doubted) → BelowEnds told d (GroupDeport site) s fails said new → NoteKeepsRvg (note_at (d.world.nodes s)) (note_at (new.world.nodes s))
below_stays told d site s fails said new below =
    below_keeps told d (GroupDeport site) s fails said new (λ brings. brings) (λ n note next does. deport_keeps s fails note next told n site said does)
    (λ note next spoils. mapped_by note next (λ c e. loses_keeps (λ _. false) s fails c e) spoils) (λ note next cuts. mapped_by note next (λ c e. loses_keeps (λ _. false) s fails c e) cuts) below

-- a write that was done, failed or was cut off
module _ (s : ℕ) (fails : Fails) (x : BlockWrite) (note next : GroupNode) where
  lost_keeps : (c e : Config) → ConfigLoses s fails c e → KeepsRvg c e
  lost_keeps c e lost = loses_keeps (λ _. false) s fails c e lost

  written_keeps : NotesWrite s fails x note next → NoteKeepsRvg note next
  written_keeps w = then_same note w.middle next (mapped_by note w.middle lost_keeps w.moves) (ap (λ (g : GroupNode). g.config) w.is)

  doubt_keeps : NotesDoubt s fails x note next → NoteKeepsRvg note next
  doubt_keeps w = then_same note w.middle next (mapped_by note w.middle lost_keeps w.moves) (ap (λ (g : GroupNode). g.config) w.is)

  cut_keeps : NotesCut s fails x note next → NoteKeepsRvg note next
  cut_keeps w = then_same note w.middle next (mapped_by note w.middle lost_keeps w.moves) (ap (λ (g : GroupNode). g.config) w.is)

-- ---- recoveries and imports

-- the note that such a line leaves
pub back_group : (s : ℕ) (line : ScriptLine) (taken : Bool) (next : GroupNode) (before last new : Doubted) → IsLeftBack s line taken next before last new
    → (new.world.nodes s).group ≡ Some next
back_group s line taken next before last new left =
    let u : World = with_disks taken s before.world last.world in
    ap (λ (w : World). (w.nodes s).group) left.world ∙ group_stays s line (noting u s next) ∙ noted_here u s next

pub but_group : (lost : Bool) (s : ℕ) (line : ScriptLine) (taken : Bool) (next : GroupNode) (before last new : Doubted) → IsLeftBut lost s line taken next before last new
    → (new.world.nodes s).group ≡ Some next
but_group lost s line taken next before last new left =
    let u : World = with_disks taken s before.world last.world in
    let v : World = noting u s next in
    ap (λ (w : World). (w.nodes s).group) left.world ∙ lost_group lost (group_noted s line v) s ∙ group_stays s line v ∙ noted_here u s next

-- a group that came up with the replicated volume group that it had, where it is known what the disks hold
pub back_keeps : (told : Type 0) (s : ℕ) (n : Node) (fails : Fails) (note middle : GroupNode) → IsKnown told middle → rvg_noted middle ≡ rvg_noted note
    → NotesBack told s n fails note middle → NoteKeepsRvg note middle
back_keeps told s n fails note middle known same x c at =
    let old : x.old ≡ c = some_same (sym x.was ∙ at) in
    record {
      now = x.now;
      is = x.is;
      keeps = record {
        rvg = sym (ap (λ (o : Option Config). config_rvg o) x.is) ∙ same ∙ ap (λ (o : Option Config). config_rvg o) at;
        volumes = λ v e get.
            stayed (slice_get x.now.volumes v) e (x.volumes known v e (subst (λ (k : Config). slice_get k.volumes v ≡ Some e) (sym old) get));
      };
    }

module _ (told : Type 0) (d : Doubted) (line : ScriptLine) (s : ℕ) (fails : Fails) (said : Said) (new : Doubted) (over : is_over_rvg (d.world.nodes s) ≡ true) where
  abbrev here : GroupNode
  here = note_at (d.world.nodes s)

  -- it came up, and the log was worked on
  works_keeps : (Off : Type 0) (middle worked : GroupNode) → NoteKeepsRvg here middle → NotesWork Off s fails middle worked → NoteKeepsRvg here worked
  works_keeps Off middle worked keeps works = then_keeps here middle worked keeps (loses s fails middle worked works)

  -- while what is kept of a write is still to be read
  left_cut : (Off : Type 0) (middle next : GroupNode) → NoteKeepsRvg here middle → WorksCut Off s fails here.cut middle next → NoteKeepsRvg here next
  left_cut Off middle next keeps x = then_same here x.worked next (works_keeps Off middle x.worked keeps x.works) (ap (λ (g : GroupNode). g.config) x.is)

  left_keeps : (taken : Bool) (next : GroupNode) (before last : Doubted) → IsLeftBack s line taken next before last new → NoteKeepsRvg here next
      → NoteKeepsRvg here (note_at (new.world.nodes s))
  left_keeps taken next before last left keeps = by_note (new.world.nodes s) here next (back_group s line taken next before last new left) keeps

  pub but_keeps : (lost taken : Bool) (next : GroupNode) (before last : Doubted) → IsLeftBut lost s line taken next before last new → NoteKeepsRvg here next
      → NoteKeepsRvg here (note_at (new.world.nodes s))
  but_keeps lost taken next before last left keeps = by_note (new.world.nodes s) here next (but_group lost s line taken next before last new left) keeps

  pub back_stays : RvgBack told d line s fails said new → NoteKeepsRvg here (note_at (new.world.nodes s))
  back_stays (RvgUp site kept taken middle next shown has is are back keeps works says shows left) = left_keeps taken next d _ left (works_keeps ⊥ middle next keeps works)
  back_stays (LogFails site kept taken disk middle next events has is are failed back keeps works begun says left) = but_keeps true taken next d _ left (left_cut ⊥ middle next keeps works)
  back_stays (LogLacks site kept taken middle next has is are back keeps works lacks says left) = but_keeps true taken next d _ left (left_cut ⊥ middle next keeps works)
  back_stays (KeptLost site kept taken disk middle next has cut is are failed back keeps works says left) = left_keeps taken next d _ left (left_cut ⊥ middle next keeps works)
  back_stays (GroupUnfound site kept taken lost why next has is are not leaves says left) =
      but_keeps lost taken next d _ left (same_config here next (unfound_config why here next leaves))
  back_stays (GroupHeld site kept taken lost disk next has is are failed notes says left) =
      but_keeps lost taken next d _ left (same_config here next (refused_config here next notes))

  off_config : (next : GroupNode) → NotesOff told here next → next.config ≡ here.config
  off_config next (inl refused) = refused_config here next refused
  off_config next (inr unknown) = unmade_config here next unknown.1

  pub takes_stays : RvgTakes told d line s fails said new → NoteKeepsRvg here (note_at (new.world.nodes s))
  takes_stays (RvgTaken site middle next has is are back keeps works says left) = left_keeps false next d _ left (works_keeps ⊥ middle next keeps works)
  takes_stays (TakeFails site disk middle next events has is are failed back keeps works begun says left) = but_keeps true false next d _ left (left_cut ⊥ middle next keeps works)
  takes_stays (TakeLacks site middle next has is are back keeps works lacks says left) = but_keeps true false next d _ left (left_cut ⊥ middle next keeps works)
  takes_stays (TakeCut site middle next events has is are fused back keeps works begun says left) = left_keeps false next d _ left (left_cut (IsFused (d.world.nodes s).fuse) middle next keeps works)
  takes_stays (TakeOff site next has is are fused notes says left) = left_keeps false next d _ left (same_config here next (off_config next notes))
  takes_stays (TakeUnfound site lost why next has is are not leaves says left) = but_keeps lost false next d _ left (same_config here next (unfound_config why here next leaves))
  takes_stays (TakeHeld site lost disk next has is are failed notes says left) = but_keeps lost false next d _ left (same_config here next (refused_config here next notes))

  -- what is found on disks of which nothing is known may be another one, and stays unknown
  finds_stays : told → RvgFinds told d line s fails said new → (note_at (new.world.nodes s)).dark ≡ false → NoteKeepsRvg here (note_at (new.world.nodes s))
  finds_stays tells (FindsRvg kept taken next mid n k row c units are brings unknown dark is same comes config fits lies says left) known =
      absurd (never (sym known ∙ back_dark s line taken next d _ new left ∙ dark tells))
  finds_stays tells (FindsLost site kept taken disk next mid n k row c units has cut is are failed unknown dark rests same comes config fits lies says left) known =
      absurd (never (sym known ∙ back_dark s line taken next d _ new left ∙ dark tells))
  finds_stays tells (FindsPlain kept taken next mid has are brings unknown dark is none says left) known =
      absurd (never (sym known ∙ back_dark s line taken next d _ new left ∙ dark tells))
  finds_stays tells (FindsNoRvg kept taken lost next why has are brings unknown device notes says left) known =
      but_keeps lost taken next d _ left (same_config here next (unmade_config here next notes))

  -- ---- other lines

  line_keeps : (Off : Type 0) (l : ScriptLine) (next : GroupNode) → NotesLine Off s fails l here next → NoteKeepsRvg here next
  line_keeps Off (Write site volume start count fill) next x = loses s fails here next x
  line_keeps Off (Put site volume start bytes) next x = loses s fails here next x
  line_keeps Off (Read site volume start count) next x = loses s fails here next x
  line_keeps Off (Show site volume start count) next x = loses s fails here next x
  line_keeps Off (Apply site to) next x = loses s fails here next x
  line_keeps Off other next same = same_note here next same

  line_stays : EndsOver told d line s fails said new → NoteKeepsRvg here (note_at (new.world.nodes s))
  line_stays h =
      by_note (new.world.nodes s) here h.next (ap (λ (w : World). (w.nodes s).group) h.left.world ∙ noted_over_here line d.world h.middle.world s h.next) (line_keeps (FuseRanOut (d.world.nodes s) h.inner) line h.next h.notes)

module _ (told : Type 0) (d : Doubted) (s : ℕ) (fails : Fails) (said : Said) (new : Doubted) (over : is_over_rvg (d.world.nodes s) ≡ true) where
  abbrev Stays : Type 0
  Stays = NoteKeepsRvg (note_at (d.world.nodes s)) (note_at (new.world.nodes s))

  back_or : (line : ScriptLine) → RvgBack told d line s fails said new ⊎ RvgFinds told d line s fails said new → Stays ⊎ RvgFinds told d line s fails said new
  back_or line (inl back) = inl (back_stays told d line s fails said new over back)
  back_or line (inr finds) = inr finds

  takes_or : (line : ScriptLine) → RvgTakes told d line s fails said new ⊎ RvgFinds told d line s fails said new → Stays ⊎ RvgFinds told d line s fails said new
  takes_or line (inl takes) = inl (takes_stays told d line s fails said new over takes)
  takes_or line (inr finds) = inr finds

  -- the line left it noted so, or found something on disks of which nothing is known
  pub stays_or_finds : (line : ScriptLine) → OverRvg told d line s fails said new → Stays ⊎ RvgFinds told d line s fails said new
  stays_or_finds (GroupDeport site) ends = inl (below_stays told d site s fails said new ends)
  stays_or_finds (Volume site volume blocks mirrors layout log map policy) ends =
      inl (below_keeps told d (Volume site volume blocks mirrors layout log map policy) s fails said new (λ brings. brings) (λ n note next does. volume_keeps s fails volume _ note next does.0)
      (λ note next spoils. mapped_by note next (λ c e. loses_keeps (λ _. false) s fails c e) spoils) (λ note next cuts. mapped_by note next (λ c e. loses_keeps (λ _. false) s fails c e) cuts) ends)
  stays_or_finds (PlexDetach site volume plex) ends =
      inl (below_keeps told d (PlexDetach site volume plex) s fails said new (λ brings. brings)
      (λ n note next does. mapped_by note next (λ c e x. puts_or (λ _. false) s fails (plain_number note volume) plex Stale c e (inr x)) does.0)
      (λ note next spoils. mapped_by note next (λ c e x. loses_keeps (λ _. false) s fails c e x) spoils)
      (λ note next cuts. mapped_by note next (λ c e x. puts_or (λ _. false) s fails (plain_number note volume) plex Stale c e x) cuts) ends)
  stays_or_finds (PlexAttach site volume plex) ends =
      inl (below_keeps told d (PlexAttach site volume plex) s fails said new (λ brings. brings)
      (λ n note next does. mapped_by note next (λ c e x. puts_or (lies_on_disk c (plain_number note volume) plex) s fails (plain_number note volume) plex Active c e (inr x)) does.0)
      (λ note next spoils. mapped_by note next (λ c e x. loses_keeps (lies_on_disk c (plain_number note volume) plex) s fails c e x) spoils)
      (λ note next cuts. mapped_by note next (λ c e x. puts_or (lies_on_disk c (plain_number note volume) plex) s fails (plain_number note volume) plex Active c e x) cuts) ends)
  stays_or_finds (GroupImport site) ends = takes_or (GroupImport site) ends
  stays_or_finds (Recover site) ends = back_or (Recover site) ends
  stays_or_finds (Write site volume start count fill) ends =
      write_by told d (Write site volume start count fill) s fails said new (Stays ⊎ RvgFinds told d (Write site volume start count fill) s fails said new) (λ it. inl (line_stays told d (Write site volume start count fill) s fails said new over it))
      (λ below. inl (below_keeps told d (Write site volume start count fill) s fails said new (λ brings. brings) (λ n note next does. written_keeps s fails _ note next does.0) (λ note next spoils. doubt_keeps s fails _ note next spoils) (λ note next cuts. cut_keeps s fails _ note next cuts) below)) (is_data (kind_named (d.world.nodes s) volume)) ends
  stays_or_finds (Put site volume start bytes) ends =
      write_by told d (Put site volume start bytes) s fails said new (Stays ⊎ RvgFinds told d (Put site volume start bytes) s fails said new) (λ it. inl (line_stays told d (Put site volume start bytes) s fails said new over it))
      (λ below. inl (below_keeps told d (Put site volume start bytes) s fails said new (λ brings. brings) (λ n note next does. written_keeps s fails _ note next does.0) (λ note next spoils. doubt_keeps s fails _ note next spoils) (λ note next cuts. cut_keeps s fails _ note next cuts) below)) (is_data (kind_named (d.world.nodes s) volume)) ends
  stays_or_finds (Read site volume start count) ends =
      read_by told d (Read site volume start count) volume start count s fails said new (Stays ⊎ RvgFinds told d (Read site volume start count) s fails said new) (λ it. inl (line_stays told d (Read site volume start count) s fails said new over it)) (λ left. inl (same_note (note_at (d.world.nodes s)) (note_at (new.world.nodes s)) (read_note d new s left))) (is_data (kind_named (d.world.nodes s) volume)) ends
  stays_or_finds (Show site volume start count) ends =
      read_by told d (Show site volume start count) volume start count s fails said new (Stays ⊎ RvgFinds told d (Show site volume start count) s fails said new) (λ it. inl (line_stays told d (Show site volume start count) s fails said new over it)) (λ left. inl (same_note (note_at (d.world.nodes s)) (note_at (new.world.nodes s)) (read_note d new s left))) (is_data (kind_named (d.world.nodes s) volume)) ends
  stays_or_finds other ends = inl (line_stays told d other s fails said new over ends)

  pub over_stays : told → (line : ScriptLine) → OverRvg told d line s fails said new → (note_at (new.world.nodes s)).dark ≡ false → Stays
  over_stays tells line ends known = by (stays_or_finds line ends)
    where
      by : Stays ⊎ RvgFinds told d line s fails said new → Stays
      by (inl stays) = stays
      by (inr finds) = finds_stays told d line s fails said new over tells finds known
