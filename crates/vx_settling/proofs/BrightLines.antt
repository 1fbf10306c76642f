-- However a line ends that is no refused recovery or import, it stays known what the disks of all groups hold, where imports agree of a group that it brings up.
use Rattle.std.proofs.Common.{◌≡◌, ◌∙◌, inl, inr, ℕ, List, [], ◌∷◌, ◌++◌, Bool, true, false, ap, sym, subst, refl}
use Rattle.std.specs.Prelude.{Option, Some, None, unwrap_or}
use Rattle.vx_model.specs.declared.no.No.{No}
use Rattle.vx_history.specs.Doubts.{Doubted}
use Rattle.vx_history.specs.Groups.{GroupNode, MissedNote}
use Rattle.vx_history.specs.Missing.{with_maps}
use Rattle.vx_history.specs.World.{Node, World}
use Rattle.vx_history.specs.declared.event.Event.{Event}
use Rattle.vx_history.specs.declared.event.Event.TheVariants.{Crash as CrashAt, Recover as RecoverAt}
use Rattle.vx_history.specs.Steps.{worked, worked_on}
use Rattle.vx_script.specs.declared.line.ScriptLine.{ScriptLine}
use Rattle.vx_script.specs.declared.line.ScriptLine.TheVariants.{GroupDeport, GroupImport, PlexAttach, PlexDetach, Put, Read, Recover, Rvg, Show, Volume, Write}
use Rattle.vx_events.proofs.KnownLaws.{group_known, left_note}
use Rattle.vx_events.proofs.RvgEnding.{never_found}
use Rattle.vx_events.proofs.RvgFull.{brings_found}
use Rattle.vx_events.proofs.RvgKnown.{making_known, narrowed_dark, over_known, noted_over_here}
use Rattle.vx_events.proofs.RvgMissed.{loosened_note}
use Rattle.vx_events.proofs.RvgStays.{back_group}
use Rattle.vx_events.proofs.RvgTests.{gained_note}
use Rattle.vx_events.specs.Doubts.{IsAs, run_as, with_disks}
use Rattle.vx_events.specs.Ends.{place_of}
use Rattle.vx_events.specs.Facts.{site_number}
use Rattle.vx_events.specs.Fails.{Fails}
use Rattle.vx_events.specs.GroupEnds.{BringsUp, FindsGroup, FindsNoGroup, GroupCut, GroupDone, GroupEnds, GroupFails, GroupLacks, GroupNotFound, ImportFails, InitFails, IsLeftOver, KeptUnread}
use Rattle.vx_events.specs.GroupLines.{cut_events, group_events, group_noted, noting, refused_events, unread_events}
use Rattle.vx_events.specs.GroupNotes.{IsKnown, no_note, note_at}
use Rattle.vx_events.specs.Known.{MayDarken, SaysNo}
use Rattle.vx_events.specs.Lines.{is_of_links}
use Rattle.vx_events.specs.RvgBack.{GroupHeld, GroupUnfound, IsLeftBack, KeptLost, LogFails, LogLacks, RvgBack, RvgUp, fall_first}
use Rattle.vx_events.specs.Brights.{AllBright, IsBright, IsBrightNote}
use Rattle.vx_events.specs.RvgMakes.{IsLeftRvg, MakesRvg, RvgCut, RvgDone, RvgFails, RvgLacks, noting_in, units_at}
use Rattle.vx_events.specs.RvgNotes.{volume_events}
use Rattle.vx_events.specs.Lists.{crash_count}
use Rattle.vx_events.specs.OpenLines.{is_open}
use Rattle.vx_order.specs.Calls.{is_data}
use Rattle.vx_events.proofs.ReadsLeave.{read_by}
use Rattle.vx_events.proofs.WritesBelow.{write_by}
use Rattle.vx_events.specs.RvgOver.{AsGroup, BelowEnds, CutBelow, EndsBelow, EndsOver, OverRvg, kind_named, loosened_at, missed_world, note_loosened, noting_over, fuse_behind}
use Rattle.vx_events.specs.RvgSteps.{AsBefore, FoundOne, FullBy, StepFull, WorksAbove, WorksBeside, WorksFull, is_for_rvg, rvg_place}
use Rattle.vx_events.specs.StepsOver.{WorksOver, group_place, is_for_group, refused_over}
use Rattle.vx_events.specs.declared.said.Said.{Said}
use Rattle.vx_events.specs.declared.said.Said.TheVariants.{Refused}
use Rattle.vx_settling.specs.Brights.{IsHeldDown}
use Rattle.vx_settling.proofs.Brights.{as_bright, disks_bright, group_noted_bright, node_bright, noting_bright, run_bright, worked_bright}
use Rattle.vx_settling.proofs.EachLines.{ends_each, kind_each}
use Rattle.vx_events.specs.RvgTakes.{RvgTaken, TakeFails, TakeLacks, TakeCut, TakeOff, TakeUnfound, TakeHeld, RvgTakes}

-- ---- what a line leaves

-- what the site notes is bright, where the site is
pub next_bright : (m : Node) (next : GroupNode) → m.group ≡ Some next → IsBright m → next.dark ≡ false
next_bright m next is bright = sym (ap (λ (o : Option GroupNode). (unwrap_or o no_note).dark) is) ∙ bright

over_bright : (s : ℕ) (line : ScriptLine) (next : GroupNode) (last new : Doubted) → IsLeftOver s line next last new → IsBright (new.world.nodes s) → AllBright last
    → AllBright new
over_bright s line next last new left here b =
    let known : next.dark ≡ false = next_bright (new.world.nodes s) next (left_note s line next last new left) here in
    as_bright last (group_noted s line (noting last.world s next)) new left
    (group_noted_bright s line (noting last.world s next) (noting_bright last.world s next known b.sites)) b

back_bright : (s : ℕ) (line : ScriptLine) (taken : Bool) (next : GroupNode) (d last new : Doubted) → IsLeftBack s line taken next d last new → IsBright (new.world.nodes s)
    → AllBright d → AllBright last → AllBright new
back_bright s line taken next d last new left here before b =
    let known : next.dark ≡ false = next_bright (new.world.nodes s) next (back_group s line taken next d last new left) here in
    let u : World = with_disks taken s d.world last.world in
    let v : World = noting u s next in
    as_bright last (group_noted s line v) new left
    (group_noted_bright s line v (noting_bright u s next known (disks_bright taken s d.world last.world before.sites b.sites))) b

pub made_bright : (s : ℕ) (next : GroupNode) (last new : Doubted) → IsLeftRvg s next last new → IsBright (new.world.nodes s) → AllBright last → AllBright new
made_bright s next last new left here b =
    let known : next.dark ≡ false = sym (ap (λ (g : GroupNode). g.dark) (gained_note s next last new left)) ∙ here in
    let v : World = noting last.world s next in
    as_bright last _ new left (worked_bright v s (noting_bright last.world s next known b.sites)) b

same_bright : (d new : Doubted) → IsAs d d.world new → AllBright d → AllBright new
same_bright d new left b = as_bright d d.world new left b.sites b

-- another note of the group of a site
in_bright : (d : Doubted) (s : ℕ) (note : GroupNode) → note.dark ≡ false → AllBright d → AllBright (noting_in d s note)
in_bright d s note known b = record { sites = noting_bright d.world s note known b.sites; doubts = b.doubts }

-- ---- lines at a site over a group

-- a line that is refused brings no group up
loud : (said : Said) (line : ScriptLine) (why : No) → (IsHeldDown line said → ⊥) → said ≡ Refused why → BringsUp line → ⊥
loud said line why held says brings = held (brings, subst SaysNo (sym says) tt)

group_bright : (d : Doubted) → AllBright d → (fails : Fails) (said : Said) (new : Doubted) (told : Type 0) (line : ScriptLine) (s : ℕ) → (IsHeldDown line said → ⊥) → IsBright (new.world.nodes s) → GroupEnds told d line s fails said new → AllBright new
group_bright d b fails said new told line s held here (GroupDone next are does left) =
    over_bright s line next (run_as false d (group_events (d.world.nodes s) s line)) new left here (run_bright false d (group_events (d.world.nodes s) s line) b)
group_bright d b fails said new told line s held here (GroupLacks why wants none says left) = over_bright s line (note_at (d.world.nodes s)) d new left here b
group_bright d b fails said new told line s held here (GroupFails disk next are has spoils says left) =
    over_bright s line next (run_as false d (refused_events (d.world.nodes s) s line)) new left here (run_bright false d (refused_events (d.world.nodes s) s line) b)
group_bright d b fails said new told line s held here (InitFails disk site is are has says left) = same_bright d new left b
group_bright d b fails said new told line s held here (ImportFails why next site is are refuses notes says left) = absurd (loud said line why held says (subst BringsUp (sym is) tt))
group_bright d b fails said new told line s held here (KeptUnread disk next site is are has back says left) =
    over_bright s line next (run_as false d (unread_events (d.world.nodes s) s)) new left here (run_bright false d (unread_events (d.world.nodes s) s) b)
group_bright d b fails said new told line s held here (GroupCut next are fused cuts says left) =
    over_bright s line next (run_as false d (cut_events s line)) new left here (run_bright false d (cut_events s line) b)
group_bright d b fails said new told line s held here (GroupNotFound why next are brings not leaves says left) =
    over_bright s line next (run_as false d (refused_events (d.world.nodes s) s line)) new left here (run_bright false d (refused_events (d.world.nodes s) s line) b)
group_bright d b fails said new told line s held here (FindsGroup next are brings unknown dark says left) =
    over_bright s line next (run_as false d (group_events (d.world.nodes s) s line)) new left here (run_bright false d (group_events (d.world.nodes s) s line) b)
group_bright d b fails said new told line s held here (FindsNoGroup next why are brings unknown device notes says left) =
    over_bright s line next (run_as false d (refused_events (d.world.nodes s) s line)) new left here (run_bright false d (refused_events (d.world.nodes s) s line) b)

under_bright : (d : Doubted) → AllBright d → (fails : Fails) (said : Said) (new : Doubted) (told : Type 0) (line : ScriptLine) (s : ℕ) → (IsHeldDown line said → ⊥) → IsBright (new.world.nodes s) → EndsBelow told d line s fails said new → AllBright new
under_bright d b fails said new told line s held here (AsGroup ends) = group_bright d b fails said new told line s held here ends
under_bright d b fails said new told line s held here (CutBelow kept next are fused cuts says left) =
    over_bright s line next (run_as false d (CrashAt s (crash_count (d.world.nodes s) kept) ∷ [])) new left here (run_bright false d (CrashAt s (crash_count (d.world.nodes s) kept) ∷ []) b)

module _ (told : Type 0) (tells : told) (d : Doubted) (b : AllBright d) (fails : Fails) (said : Said) (new : Doubted) where
  rises_bright : (line : ScriptLine) (s : ℕ) → (IsHeldDown line said → ⊥) → IsBright (new.world.nodes s) → RvgBack told d line s fails said new → AllBright new
  rises_bright line s held here (RvgUp site kept taken middle next shown has is are back keeps works says shows left) =
      let events : List Event = fall_first (d.world.nodes s).state s kept ++ RecoverAt s None ∷ [] in
      back_bright s line taken next d (run_as taken d events) new left here b (run_bright taken d events b)
  rises_bright line s held here (LogFails site kept taken disk middle next events has is are failed back keeps works begun says left) =
      absurd (loud said line _ held says (subst BringsUp (sym is) tt))
  rises_bright line s held here (LogLacks site kept taken middle next has is are back keeps works lacks says left) = absurd (loud said line _ held says (subst BringsUp (sym is) tt))
  rises_bright line s held here (KeptLost site kept taken disk middle next has cut is are failed back keeps works says left) = absurd (loud said line _ held says (subst BringsUp (sym is) tt))
  rises_bright line s held here (GroupUnfound site kept taken lost why next has is are not leaves says left) = absurd (loud said line why held says (subst BringsUp (sym is) tt))
  rises_bright line s held here (GroupHeld site kept taken lost disk next has is are failed notes says left) = absurd (loud said line _ held says (subst BringsUp (sym is) tt))

  takes_bright : (line : ScriptLine) (s : ℕ) → (IsHeldDown line said → ⊥) → IsBright (new.world.nodes s) → RvgTakes told d line s fails said new → AllBright new
  takes_bright line s held here (RvgTaken site middle next has is are back keeps works says left) =
      back_bright s line false next d (run_as false d (RecoverAt s None ∷ [])) new left here b (run_bright false d (RecoverAt s None ∷ []) b)
  takes_bright line s held here (TakeFails site disk middle next events has is are failed back keeps works begun says left) = absurd (loud said line _ held says (subst BringsUp (sym is) tt))
  takes_bright line s held here (TakeLacks site middle next has is are back keeps works lacks says left) = absurd (loud said line _ held says (subst BringsUp (sym is) tt))
  takes_bright line s held here (TakeCut site middle next events has is are fused back keeps works begun says left) = absurd (loud said line _ held says (subst BringsUp (sym is) tt))
  takes_bright line s held here (TakeOff site next has is are fused notes says left) = absurd (loud said line _ held says (subst BringsUp (sym is) tt))
  takes_bright line s held here (TakeUnfound site lost why next has is are not leaves says left) = absurd (loud said line why held says (subst BringsUp (sym is) tt))
  takes_bright line s held here (TakeHeld site lost disk next has is are failed notes says left) = absurd (loud said line _ held says (subst BringsUp (sym is) tt))

  -- where imports agree, and the line is no refused one that brings a group up, its site stays known
  dim : (line : ScriptLine) (s : ℕ) → (BringsUp line → (note_at (d.world.nodes s)).loose ≡ false) → (IsHeldDown line said → ⊥)
      → MayDarken (note_at (d.world.nodes s)) line said → ⊥
  dim line s agree held (brings, inl loose) = let f : true ≡ false = sym loose ∙ agree brings in cc
  dim line s agree held (brings, inr refused) = held (brings, refused)

  -- ---- a site with a replicated volume group

  line_bright : (line : ScriptLine) (s : ℕ) → IsBright (new.world.nodes s) → EndsOver told d line s fails said new → AllBright new
  line_bright line s here h =
      let middle : AllBright h.middle = ends_each IsBrightNote refl (IsKnown told (note_at (d.world.nodes s))) (tells, b.sites s) d line (place_of d.world line) h.ending h.inner h.middle b h.ends in
      let known : h.next.dark ≡ false = next_bright (new.world.nodes s) h.next (over_group h.middle s h.next h.left) here in
      let u : World = h.middle.world in
      as_bright h.middle (noting_over line d.world u s h.next) new h.left
      (node_bright u s (record (u.nodes s) { group = Some h.next; fuse = fuse_behind line (d.world.nodes s).fuse (u.nodes s).fuse }) known middle.sites) middle
    where
      over_group : (middle : Doubted) (s : ℕ) (next : GroupNode) → IsAs middle (noting_over line d.world middle.world s next) new → (new.world.nodes s).group ≡ Some next
      over_group middle s next left = ap (λ (w : World). (w.nodes s).group) left.world ∙ noted_over_here line d.world middle.world s next

  read_bright : (s : ℕ) → IsAs d (worked_on d.world s) new → AllBright new
  read_bright s left = as_bright d (worked_on d.world s) new left (node_bright d.world s (worked (d.world.nodes s)) (b.sites s) b.sites) b

  -- a line on the group alone
  below_bright : (line : ScriptLine) (s : ℕ) → (IsHeldDown line said → ⊥) → IsBright (new.world.nodes s) → BelowEnds told d line s fails said new → AllBright new
  below_bright line s held here below =
      let w : MissedNote = below.missed in
      let known : (note_at (below.middle.world.nodes s)).dark ≡ false = sym (ap (λ (k : GroupNode). k.dark) (loosened_note below.loosens s below.middle new below.left)) ∙ here in
      let middle : AllBright below.middle = under_bright (missed_world w d s) (in_bright d s (with_maps w (note_at (d.world.nodes s))) (b.sites s) b) fails said below.middle told line s held known below.ends in
      as_bright below.middle (loosened_at below.loosens below.middle.world s) new below.left
      (noting_bright below.middle.world s (note_loosened below.loosens (note_at (below.middle.world.nodes s))) known middle.sites) middle

  place_or : (line : ScriptLine) (s : ℕ) → (IsHeldDown line said → ⊥) → (BringsUp line → (note_at (d.world.nodes s)).loose ≡ false)
      → IsBright (new.world.nodes s) → OverRvg told d line s fails said new → AllBright new
  place_or (GroupDeport site) s held agree here below = below_bright (GroupDeport site) s held here below
  place_or (Volume site volume blocks mirrors layout log map policy) s held agree here below = below_bright (Volume site volume blocks mirrors layout log map policy) s held here below
  place_or (PlexDetach site volume plex) s held agree here below = below_bright (PlexDetach site volume plex) s held here below
  place_or (PlexAttach site volume plex) s held agree here below = below_bright (PlexAttach site volume plex) s held here below
  place_or (GroupImport site) s held agree here (inl takes) = takes_bright (GroupImport site) s held here takes
  place_or (GroupImport site) s held agree here (inr finds) = absurd (never_found told tells d s (b.sites s) fails said new (GroupImport site) (agree tt) finds)
  place_or (Recover site) s held agree here (inl back) = rises_bright (Recover site) s held here back
  place_or (Recover site) s held agree here (inr finds) = absurd (never_found told tells d s (b.sites s) fails said new (Recover site) (agree tt) finds)
  place_or (Write site volume start count fill) s held agree here ends =
      write_by told d (Write site volume start count fill) s fails said new (AllBright new) (λ it. line_bright (Write site volume start count fill) s here it) (λ below. below_bright (Write site volume start count fill) s held here below) (is_data (kind_named (d.world.nodes s) volume)) ends
  place_or (Put site volume start bytes) s held agree here ends =
      write_by told d (Put site volume start bytes) s fails said new (AllBright new) (λ it. line_bright (Put site volume start bytes) s here it) (λ below. below_bright (Put site volume start bytes) s held here below) (is_data (kind_named (d.world.nodes s) volume)) ends
  place_or (Read site volume start count) s held agree here ends =
      read_by told d (Read site volume start count) volume start count s fails said new (AllBright new) (λ it. line_bright (Read site volume start count) s here it) (λ left. read_bright s left) (is_data (kind_named (d.world.nodes s) volume)) ends
  place_or (Show site volume start count) s held agree here ends =
      read_by told d (Show site volume start count) volume start count s fails said new (AllBright new) (λ it. line_bright (Show site volume start count) s here it) (λ left. read_bright s left) (is_data (kind_named (d.world.nodes s) volume)) ends
  place_or other s held agree here ends = line_bright other s here ends

  over_rvg_bright : (line : ScriptLine) (s : ℕ) → (IsHeldDown line said → ⊥) → (BringsUp line → (note_at (d.world.nodes s)).loose ≡ false)
      → OverRvg told d line s fails said new → AllBright new
  over_rvg_bright line s held agree ends =
      let here : IsBright (new.world.nodes s) = over_known told tells d s (b.sites s) fails said new line (dim line s agree held) ends in
      place_or line s held agree here ends

  -- ---- a line that makes one

  makes_bright : (line : ScriptLine) (s : ℕ) → IsBright (new.world.nodes s) → MakesRvg told d line s fails said new → AllBright new
  makes_bright line s here (RvgDone site srl maps volumes middle next is are x says left) =
      let es : List Event = volume_events (note_at (d.world.nodes s)) s (units_at d s srl maps volumes) in
      let known : middle.dark ≡ false = narrowed_dark told (units_at d s srl maps volumes) (note_at (d.world.nodes s)) middle x.narrowed ∙ b.sites s in
      made_bright s next (run_as false (noting_in d s middle) es) new left here (run_bright false (noting_in d s middle) es (in_bright d s middle known b))
  makes_bright line s here (RvgLacks site srl maps volumes next is are x says left) = made_bright s next d new left here b
  makes_bright line s here (RvgFails site srl maps volumes disk next is are has x says left) = made_bright s next d new left here b
  makes_bright line s here (RvgCut site srl maps volumes next is are fused x says left) =
      made_bright s next (run_as false d (CrashAt s 0 ∷ [])) new left here (run_bright false d (CrashAt s 0 ∷ []) b)

  -- ---- any line

  beside_bright : d.strayed ≡ false → (line : ScriptLine) → (IsHeldDown line said → ⊥) → (BringsUp line → (note_at (d.world.nodes (group_place d.world line))).loose ≡ false)
      → WorksBeside told d line fails said new → AllBright new
  beside_bright calm line held agree (AsBefore works found) = by_group (is_for_group d.world line) works
    where
      by_group : (group : Bool) → WorksOver group told d line fails said new → AllBright new
      by_group true ends =
          let s : ℕ = group_place d.world line in
          group_bright d b fails said new told line s held (group_known told tells d line s fails said new ends (b.sites s) (dim line s agree held)) ends
      by_group false (inl step) = kind_each IsBrightNote refl told tells (is_of_links line) d calm line fails said new b step.ends
      by_group false (inr kept) = absurd (kept.untold tells)
  beside_bright calm line held agree (FoundOne finds) =
      let s : ℕ = group_place d.world line in
      absurd (never_found told tells d s (b.sites s) fails said new line (agree (brings_found told d line s fails said new finds)) finds)

  agree_at : (line : ScriptLine) → (BringsUp line → (note_at (d.world.nodes (group_place d.world line))).loose ≡ false) → BringsUp line
      → (note_at (d.world.nodes (rvg_place d.world line))).loose ≡ false
  agree_at (GroupImport site) agree brings = agree tt
  agree_at (Recover site) agree brings = agree tt
  agree_at other agree brings = absurd brings

  above_bright : d.strayed ≡ false → (halts above : Bool) (line : ScriptLine) → (IsHeldDown line said → ⊥)
      → (BringsUp line → (note_at (d.world.nodes (group_place d.world line))).loose ≡ false) → WorksAbove halts above told d line fails said new → AllBright new
  above_bright calm true above line held agree ends = absurd ends
  above_bright calm false true line held agree ends = over_rvg_bright line (rvg_place d.world line) held (agree_at line agree) ends
  above_bright calm false false line held agree ends = beside_bright calm line held agree ends

  full_bright : d.strayed ≡ false → (line : ScriptLine) → (IsHeldDown line said → ⊥) → (BringsUp line → (note_at (d.world.nodes (group_place d.world line))).loose ≡ false)
      → WorksFull told d line fails said new → AllBright new
  full_bright calm (Rvg site srl maps volumes) held agree ends =
      let s : ℕ = site_number d.world site in
      makes_bright (Rvg site srl maps volumes) s (making_known told d (Rvg site srl maps volumes) s fails said new ends (b.sites s)) ends
  full_bright calm other held agree ends = above_bright calm (is_open d.world other) (is_for_rvg d.world other) other held agree ends

  refusal_bright : d.strayed ≡ false → (o : Option No) (line : ScriptLine) → (IsHeldDown line said → ⊥) → (BringsUp line → (note_at (d.world.nodes (group_place d.world line))).loose ≡ false)
      → FullBy o told d line fails said new → AllBright new
  refusal_bright calm (Some why) line held agree step = subst (λ (e : Doubted). AllBright e) (sym step.stays) b
  refusal_bright calm None line held agree step = full_bright calm line held agree step

  pub step_bright : d.strayed ≡ false → (files : Bool) (line : ScriptLine) → (IsHeldDown line said → ⊥)
      → (BringsUp line → (note_at (d.world.nodes (group_place d.world line))).loose ≡ false) → StepFull told files d line fails said new → AllBright new
  step_bright calm files line held agree step = refusal_bright calm (refused_over d.world files line) line held agree step
