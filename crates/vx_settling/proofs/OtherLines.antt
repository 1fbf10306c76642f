-- However a line ends, a site that is more than bare and at which it does not work notes of its group what it noted.
use Rattle.std.proofs.Common.{◌≡◌, ◌∙◌, inl, inr, ℕ, List, [], ◌∷◌, ◌++◌, Bool, true, false, refl, ap, sym, subst}
use Rattle.std.specs.Prelude.{eqb, not, ◌||◌, Option, Some, None}
use Rattle.vx_model.specs.declared.no.No.{No}
use Rattle.vx_history.proofs.Updates.{by_test, eqb_apart}
use Rattle.vx_history.specs.Doubts.{Doubted, crashed_as, halved}
use Rattle.vx_history.specs.Events.{with_write}
use Rattle.vx_history.specs.Good.{IsMade}
use Rattle.vx_history.specs.Groups.{GroupNode, MissedNote}
use Rattle.vx_history.specs.Missing.{with_maps}
use Rattle.vx_history.specs.Steps.{group_set, worked, worked_on}
use Rattle.vx_history.specs.World.{Link as LinkRecord, Node, World, no_link}
use Rattle.vx_history.specs.declared.event.Event.{Event}
use Rattle.vx_history.specs.declared.event.Event.TheVariants.{Crash as CrashAt, Deliver as DeliverAt, Fault, Pump as PumpAt, Recover as RecoverAt, Fall as FallAt}
use Rattle.vx_script.specs.declared.line.ScriptLine.{ScriptLine}
use Rattle.vx_script.specs.declared.line.ScriptLine.TheVariants.{Apply, Crash, Disk, Fuse, GroupDeport, GroupImport, GroupInit, PlexAttach, PlexDetach, Put, Read, Recover, Rvg, Show, Status, Volume, Write}
use Rattle.vx_world.proofs.Doubting.{like_good}
use Rattle.vx_events.proofs.RvgFull.{brings_found}
use Rattle.vx_events.proofs.RvgStopping.{noted_doubted}
use Rattle.vx_events.specs.Doubts.{IsAs, run_as, with_disks}
use Rattle.vx_events.specs.Ends.{AllDone, DiskFails, Ends, FindsLinks, FindsNone, FromBare, FromDown, FromUp, FuseRunsOut, HeaderFails, IsLeft, NoNumber, Recovering, ShowsReceived, found_linked, noted, place_of}
use Rattle.vx_events.specs.Facts.{site_number}
use Rattle.vx_events.specs.Fails.{Fails}
use Rattle.vx_events.specs.GroupEnds.{BringsUp, FindsGroup, FindsNoGroup, GroupCut, GroupDone, GroupEnds, GroupFails, GroupLacks, GroupNotFound, ImportFails, InitFails, IsLeftOver, KeptUnread}
use Rattle.vx_events.specs.GroupLines.{cut_events, fuse_lost, group_events, group_noted, noting, refused_events, unread_events}
use Rattle.vx_events.specs.GroupNotes.{IsKnown, note_at}
use Rattle.vx_events.specs.Lines.{EndsBy, is_of_links}
use Rattle.vx_events.specs.LinkEnds.{AppliesCut, AppliesPart, AreLeft, LinkEnds, LinksCut, LinksDone, LinksFind, LinksHalt, LogUnread, NoHeader, link_noted}
use Rattle.vx_events.specs.Lists.{Choice, crash_count, events_of}
use Rattle.vx_events.specs.LinkFinds.{ApplyCut, ApplyHalts, EndsBetween, FindsOther, GivesUp, HeaderCut, HeaderHalts, IsStored, IsUnread, KeepsOther, LosesOther, MovesBetween, ReadsNone, SendsOther, SettlesOther, TakesOther}
use Rattle.vx_events.specs.LinkLists.{link_events}
use Rattle.vx_events.specs.RvgBack.{FindsLost, FindsNoRvg, FindsPlain, FindsRvg, GroupHeld, GroupUnfound, IsLeftBack, IsLeftBut, KeptLost, LogFails, LogLacks, RvgBack, RvgFinds, RvgUp, fall_first, fallen, fallen_row, found_fallen, fuse_left, unmade_site}
use Rattle.vx_events.specs.RvgMakes.{IsLeftRvg, MakesRvg, RvgCut, RvgDone, RvgFails, RvgLacks, noting_in, units_at}
use Rattle.vx_events.specs.RvgNotes.{volume_events}
use Rattle.vx_events.specs.OpenLines.{is_open}
use Rattle.vx_order.specs.Calls.{is_data}
use Rattle.vx_events.proofs.ReadsLeave.{read_by}
use Rattle.vx_events.proofs.WritesBelow.{write_by}
use Rattle.vx_events.specs.RvgOver.{AsGroup, BelowEnds, CutBelow, EndsBelow, EndsOver, OverRvg, kind_named, loosened_at, missed_world, note_loosened, noting_over, fuse_behind}
use Rattle.vx_events.specs.RvgSteps.{AsBefore, FoundOne, FullBy, StepFull, WorksAbove, WorksBeside, WorksFull, is_for_rvg, rvg_place}
use Rattle.vx_events.specs.StepsOver.{WorksOver, group_place, is_for_group, refused_over}
use Rattle.vx_events.specs.Strays.{gone_astray}
use Rattle.vx_events.specs.declared.said.Said.{Said}
use Rattle.vx_settling.specs.OtherNotes.{HasNote, may_note}
use Rattle.vx_settling.proofs.OtherNotes
use Rattle.vx_events.specs.RvgTakes.{RvgTaken, TakeFails, TakeLacks, TakeCut, TakeOff, TakeUnfound, TakeHeld, RvgTakes}

-- ---- the sites of lines

group_apart : (w : World) (line : ScriptLine) (i : ℕ) → may_note w line i ≡ false → is_for_group w line ≡ true → eqb i (group_place w line) ≡ false
group_apart w (GroupInit site) i off is = off
group_apart w (GroupDeport site) i off is = off
group_apart w (GroupImport site) i off is = off
group_apart w (Volume site volume blocks mirrors layout log map policy) i off is = off
group_apart w (PlexDetach site volume plex) i off is = off
group_apart w (PlexAttach site volume plex) i off is = off
group_apart w (Disk site disk state) i off is = off
group_apart w (Crash site pick) i off is = off
group_apart w (Fuse site calls pick) i off is = off
group_apart w (Recover site) i off is = off
group_apart w (Write site volume start count fill) i off is = off
group_apart w (Put site volume start bytes) i off is = off
group_apart w (Read site volume start count) i off is = off
group_apart w (Show site volume start count) i off is = off
group_apart w (Status site) i off is = off
group_apart w other i off is = absurd (let f : false ≡ true = is in cc)

rvg_apart : (w : World) (line : ScriptLine) (i : ℕ) → may_note w line i ≡ false → is_for_rvg w line ≡ true → eqb i (rvg_place w line) ≡ false
rvg_apart w (GroupDeport site) i off is = off
rvg_apart w (GroupImport site) i off is = off
rvg_apart w (Volume site volume blocks mirrors layout log map policy) i off is = off
rvg_apart w (PlexDetach site volume plex) i off is = off
rvg_apart w (PlexAttach site volume plex) i off is = off
rvg_apart w (Disk site disk state) i off is = off
rvg_apart w (Crash site pick) i off is = off
rvg_apart w (Fuse site calls pick) i off is = off
rvg_apart w (Recover site) i off is = off
rvg_apart w (Write site volume start count fill) i off is = off
rvg_apart w (Put site volume start bytes) i off is = off
rvg_apart w (Read site volume start count) i off is = off
rvg_apart w (Show site volume start count) i off is = off
rvg_apart w (Apply site to) i off is = off
rvg_apart w (Status site) i off is = off
rvg_apart w other i off is = absurd (let f : false ≡ true = is in cc)

brings_apart : (w : World) (line : ScriptLine) (i : ℕ) → may_note w line i ≡ false → BringsUp line → eqb i (group_place w line) ≡ false
brings_apart w (GroupImport site) i off brings = off
brings_apart w (Recover site) i off brings = off
brings_apart w other i off brings = absurd brings

-- a recovery of another site
recover_apart : (w : World) (line : ScriptLine) (i : ℕ) → may_note w line i ≡ false → (site : List ℕ) → line ≡ Recover site → eqb i (place_of w line) ≡ false
recover_apart w line i off site is =
    subst (λ (l : ScriptLine). eqb i (place_of w l) ≡ false) (sym is) (subst (λ (l : ScriptLine). may_note w l i ≡ false) is off)

pub neither : (a b : Bool) → (a || b) ≡ false → (a ≡ false) × (b ≡ false)
neither true b off = absurd (let f : true ≡ false = off in cc)
neither false b off = (refl, off)

module _ (i : ℕ) (o : Option GroupNode) where
  -- ---- what a line leaves

  left_notes : (s : ℕ) (line : ScriptLine) (taken : Bool) (d last new : Doubted) → IsLeft s line taken d last new → HasNote i o d → HasNote i o last → HasNote i o new
  left_notes s line taken d last new left before h =
      let u : World = with_disks taken s d.world last.world in
      OtherNotes.as_notes i o last (noted s line u) new left
      (OtherNotes.noted_notes i o s line u (OtherNotes.disks_notes i o taken s d.world last.world before.note h.note)) h

  over_notes : (s : ℕ) (line : ScriptLine) (next : GroupNode) (last new : Doubted) → eqb i s ≡ false → IsLeftOver s line next last new → HasNote i o last → HasNote i o new
  over_notes s line next last new apart left h =
      let u : World = noting last.world s next in
      OtherNotes.as_notes i o last (group_noted s line u) new left
      (OtherNotes.group_noted_notes i o s line u (OtherNotes.noting_notes i o last.world s next apart h.note)) h

  -- the worlds in which a site is back
  risen : (s : ℕ) (line : ScriptLine) (taken : Bool) (next : GroupNode) (d last : Doubted) → eqb i s ≡ false → HasNote i o d → HasNote i o last
      → OtherNotes.Notes i o (group_noted s line (noting (with_disks taken s d.world last.world) s next))
  risen s line taken next d last apart before h =
      let u : World = with_disks taken s d.world last.world in
      OtherNotes.group_noted_notes i o s line (noting u s next)
      (OtherNotes.noting_notes i o u s next apart (OtherNotes.disks_notes i o taken s d.world last.world before.note h.note))

  back_notes : (s : ℕ) (line : ScriptLine) (taken : Bool) (next : GroupNode) (d last new : Doubted) → eqb i s ≡ false → IsLeftBack s line taken next d last new
      → HasNote i o d → HasNote i o last → HasNote i o new
  back_notes s line taken next d last new apart left before h =
      OtherNotes.as_notes i o last (group_noted s line (noting (with_disks taken s d.world last.world) s next)) new left
      (risen s line taken next d last apart before h) h

  pub but_notes : (lost : Bool) (s : ℕ) (line : ScriptLine) (taken : Bool) (next : GroupNode) (d last new : Doubted) → eqb i s ≡ false
      → IsLeftBut lost s line taken next d last new → HasNote i o d → HasNote i o last → HasNote i o new
  but_notes lost s line taken next d last new apart left before h =
      let v : World = group_noted s line (noting (with_disks taken s d.world last.world) s next) in
      OtherNotes.as_notes i o last (fuse_left lost v s) new left (OtherNotes.lost_notes i o lost v s (risen s line taken next d last apart before h)) h

  pub made_notes : (s : ℕ) (next : GroupNode) (last new : Doubted) → eqb i s ≡ false → IsLeftRvg s next last new → HasNote i o last → HasNote i o new
  made_notes s next last new apart left h =
      let v : World = noting last.world s next in
      OtherNotes.as_notes i o last _ new left (OtherNotes.worked_notes i o v s (OtherNotes.noting_notes i o last.world s next apart h.note)) h

  same_notes : (d new : Doubted) → IsAs d d.world new → HasNote i o d → HasNote i o new
  same_notes d new left h = OtherNotes.as_notes i o d d.world new left h.note h

  -- another note of another group
  in_stands : (d : Doubted) (s : ℕ) (note : GroupNode) → eqb i s ≡ false → OtherNotes.Standing i o d → OtherNotes.Standing i o (noting_in d s note)
  in_stands d s note apart x = record {
    good = like_good d (noting_in d s note) x.good (noted_doubted d s note);
    made = by_test (λ (m : Node). IsMade m) (eqb i s) (record (d.world.nodes s) { group = Some note }) (d.world.nodes i)
        (λ e. absurd (let f : true ≡ false = sym e ∙ apart in cc)) (λ _. x.made);
    has = record { note = OtherNotes.noting_notes i o d.world s note apart x.has.note; doubt = x.has.doubt };
  }

  pub are_notes : (line : ScriptLine) (d last new : Doubted) → AreLeft line d last new → HasNote i o last → HasNote i o new
  are_notes line d last new left h =
      OtherNotes.as_notes i o last (link_noted d.world line last.world) new left (OtherNotes.link_noted_notes i o d.world line last.world h.note) h

  -- ---- lines at another site over a group

  group_notes : (d : Doubted) → OtherNotes.Standing i o d → (told : Type 0) (fails : Fails) (said : Said) (new : Doubted) (line : ScriptLine) (s : ℕ) → eqb i s ≡ false → GroupEnds told d line s fails said new → HasNote i o new
  group_notes d x told fails said new line s apart (GroupDone next are does left) =
      over_notes s line next (run_as false d (group_events (d.world.nodes s) s line)) new apart left (OtherNotes.run_stands i o false d (group_events (d.world.nodes s) s line) x).has
  group_notes d x told fails said new line s apart (GroupLacks why wants none says left) = over_notes s line (note_at (d.world.nodes s)) d new apart left x.has
  group_notes d x told fails said new line s apart (GroupFails disk next are has spoils says left) =
      over_notes s line next (run_as false d (refused_events (d.world.nodes s) s line)) new apart left (OtherNotes.run_stands i o false d (refused_events (d.world.nodes s) s line) x).has
  group_notes d x told fails said new line s apart (InitFails disk site is are has says left) = same_notes d new left x.has
  group_notes d x told fails said new line s apart (ImportFails why next site is are refuses notes says left) =
      let v : World = noting d.world s next in
      OtherNotes.as_notes i o d (fuse_lost v s) new left (OtherNotes.lost_notes i o true v s (OtherNotes.noting_notes i o d.world s next apart x.has.note)) x.has
  group_notes d x told fails said new line s apart (KeptUnread disk next site is are has back says left) =
      over_notes s line next (run_as false d (unread_events (d.world.nodes s) s)) new apart left (OtherNotes.run_stands i o false d (unread_events (d.world.nodes s) s) x).has
  group_notes d x told fails said new line s apart (GroupCut next are fused cuts says left) =
      over_notes s line next (run_as false d (cut_events s line)) new apart left (OtherNotes.run_stands i o false d (cut_events s line) x).has
  group_notes d x told fails said new line s apart (GroupNotFound why next are brings not leaves says left) =
      over_notes s line next (run_as false d (refused_events (d.world.nodes s) s line)) new apart left (OtherNotes.run_stands i o false d (refused_events (d.world.nodes s) s line) x).has
  group_notes d x told fails said new line s apart (FindsGroup next are brings unknown dark says left) =
      over_notes s line next (run_as false d (group_events (d.world.nodes s) s line)) new apart left (OtherNotes.run_stands i o false d (group_events (d.world.nodes s) s line) x).has
  group_notes d x told fails said new line s apart (FindsNoGroup next why are brings unknown device notes says left) =
      over_notes s line next (run_as false d (refused_events (d.world.nodes s) s line)) new apart left (OtherNotes.run_stands i o false d (refused_events (d.world.nodes s) s line) x).has

  under_notes : (d : Doubted) → OtherNotes.Standing i o d → (told : Type 0) (fails : Fails) (said : Said) (new : Doubted) (line : ScriptLine) (s : ℕ) → eqb i s ≡ false → EndsBelow told d line s fails said new → HasNote i o new
  under_notes d x told fails said new line s apart (AsGroup ends) = group_notes d x told fails said new line s apart ends
  under_notes d x told fails said new line s apart (CutBelow kept next are fused cuts says left) =
      over_notes s line next (run_as false d (CrashAt s (crash_count (d.world.nodes s) kept) ∷ [])) new apart left (OtherNotes.run_stands i o false d (CrashAt s (crash_count (d.world.nodes s) kept) ∷ []) x).has

  module _ (d : Doubted) (x : OtherNotes.Standing i o d) where
    -- what events lead to
    pub ran : (taken : Bool) (es : List Event) → HasNote i o (run_as taken d es)
    ran taken es = (OtherNotes.run_stands i o taken d es x).has

    -- ---- lines on no group

    -- another site that came up with the links of its header
    linked_notes : (mid : Doubted) (s : ℕ) (k : Node) (row : ℕ → LinkRecord) → eqb i s ≡ false → HasNote i o mid → HasNote i o (found_linked mid s k row)
    linked_notes mid s k row apart h = record { note = OtherNotes.apart_notes i o mid.world s k apart h.note; doubt = h.doubt }

    rested : (s : ℕ) (c : Choice) (taken : Bool) (mid : Doubted) (n : Node) → Recovering d s c taken mid n → HasNote i o mid
    rested s c taken mid n (FromUp up is node) = subst (λ (e : Doubted). HasNote i o e) (sym is) (ran taken (CrashAt s (crash_count (d.world.nodes s) c.kept) ∷ []))
    rested s c taken mid n (FromDown down is node) = subst (λ (e : Doubted). HasNote i o e) (sym is) x.has
    rested s c taken mid n (FromBare bare is node) = subst (λ (e : Doubted). HasNote i o e) (sym is) x.has

    ends_notes : (told : Type 0) (line : ScriptLine) (s : ℕ) (fails : Fails) (said : Said) (new : Doubted) → ((site : List ℕ) → line ≡ Recover site → eqb i s ≡ false)
        → Ends told d line s fails said new → HasNote i o new
    ends_notes told line s fails said new apart (AllDone c taken borne says left) =
        left_notes s line taken d (run_as taken d (events_of d.world line c)) new left x.has (ran taken (events_of d.world line c))
    ends_notes told line s fails said new apart (DiskFails c taken before e rest leaves disk is led may failed says left) =
        left_notes s line taken d (run_as taken d (before ++ leaves)) new left x.has (ran taken (before ++ leaves))
    ends_notes told line s fails said new apart (HeaderFails c e f disk is leaves writes failed says left) =
        left_notes s line false d (halved d f s disk) new left x.has (OtherNotes.halved_notes i o d f s disk x)
    ends_notes told line s fails said new apart (FuseRunsOut c e begun is begins keeps fused failed says left) =
        left_notes s line false d (run_as false d (begun ++ CrashAt s c.kept ∷ [])) new left x.has (ran false (begun ++ CrashAt s c.kept ∷ []))
    ends_notes told line s fails said new apart (NoNumber c taken before e rest is may none failed says left) =
        left_notes s line taken d (run_as taken d before) new left x.has (ran taken before)
    ends_notes told line s fails said new apart (ShowsReceived site volume start count is role gives borne left) = left_notes s line false d d new left x.has x.has
    ends_notes told line s fails said new apart (FindsLinks untold c taken site mid n k row is recovers comes borne says left) =
        left_notes s line taken d (found_linked mid s k row) new left x.has (linked_notes mid s k row (apart site is) (rested s c taken mid n recovers))
    ends_notes told line s fails said new apart (FindsNone untold c taken site mid n why is recovers device failed says left) =
        left_notes s line taken d mid new left x.has (rested s c taken mid n recovers)

    -- ---- lines of links

    settled_notes : (p s : ℕ) (middle last : Doubted) (fails : Fails) (said : Said) → eqb i p ≡ false → eqb i s ≡ false → HasNote i o middle
        → EndsBetween p s d middle fails said last → HasNote i o last
    settled_notes p s middle last fails said apart beside h (IsStored stored failed says is) = subst (λ (e : Doubted). HasNote i o e) (sym is) h
    settled_notes p s middle last fails said apart beside h (GivesUp why may failed says is) = subst (λ (e : Doubted). HasNote i o e) (sym is) h
    settled_notes p s middle last fails said apart beside h (IsUnread disk sends here failed says is) = subst (λ (e : Doubted). HasNote i o e) (sym is) h
    settled_notes p s middle last fails said apart beside h (HeaderHalts number disk opens writes here failed says is) =
        subst (λ (e : Doubted). HasNote i o e) (sym is) (OtherNotes.halved_apart i o middle (DeliverAt number) p disk apart h)
    settled_notes p s middle last fails said apart beside h (ApplyHalts disk opens here failed says is) =
        subst (λ (e : Doubted). HasNote i o e) (sym is) (record { note = OtherNotes.calm_notes i o middle.world (Fault s disk) tt h.note; doubt = h.doubt })
    settled_notes p s middle last fails said apart beside h (HeaderCut number kept taken opens writes fused failed says is) =
        let cut : Doubted = halved middle (DeliverAt number) p 0 in
        subst (λ (e : Doubted). HasNote i o e) (sym is)
        (OtherNotes.crashed_notes i o cut p kept taken (OtherNotes.halved_apart i o middle (DeliverAt number) p 0 apart h))
    settled_notes p s middle last fails said apart beside h (ApplyCut kept taken opens fused failed says is) =
        let cut : Doubted = halved middle (Fault s 0) s 0 in
        subst (λ (e : Doubted). HasNote i o e) (sym is) (OtherNotes.crashed_notes i o cut s kept taken (OtherNotes.halved_apart i o middle (Fault s 0) s 0 beside h))

    pub moved_notes : (p s : ℕ) (middle : Doubted) → eqb i s ≡ false → MovesBetween p s d middle → HasNote i o middle
    moved_notes p s middle beside m = record {
      note = ap (λ (n : Node). n.group) (m.nodes i (eqb_apart i s beside)) ∙ x.has.note;
      doubt = λ a is. x.has.doubt a (sym (m.after i) ∙ is);
    }

    other_notes : (line : ScriptLine) (fails : Fails) (said : Said) (last : Doubted) → may_note d.world line i ≡ false → FindsOther d line fails said last → HasNote i o last
    other_notes line fails said last off (SendsOther p s more is sends failed says leads) =
        subst (λ (e : Doubted). HasNote i o e) (sym leads)
        (record { note = OtherNotes.calm_notes i o d.world (PumpAt (site_number d.world p) (site_number d.world s)) tt x.has.note; doubt = x.has.doubt })
    other_notes line fails said last off (ReadsNone p s why is may failed says leads) = subst (λ (e : Doubted). HasNote i o e) (sym leads) x.has
    other_notes line fails said last off (TakesOther number q write is may failed says leads) =
        let n : Node = d.world.nodes q.target in
        subst (λ (e : Doubted). HasNote i o e) (sym leads)
        (record { note = OtherNotes.node_notes i o d.world q.target (with_write n q.source write) refl x.has.note; doubt = x.has.doubt })
    other_notes line fails said last off (KeepsOther number q is may failed says leads) =
        subst (λ (e : Doubted). HasNote i o e) (sym leads)
        (record { note = OtherNotes.node_notes i o d.world q.target (d.world.nodes q.target) refl x.has.note; doubt = x.has.doubt })
    other_notes line fails said last off (LosesOther number q is may failed says leads) = subst (λ (e : Doubted). HasNote i o e) (sym leads) x.has
    other_notes line fails said last off (SettlesOther p s middle is moves ends) =
        let a : ℕ = site_number d.world p in
        let b : ℕ = site_number d.world s in
        let both = neither (eqb i a) (eqb i b) (subst (λ (l : ScriptLine). may_note d.world l i ≡ false) is off) in
        settled_notes a b middle last fails said both.0 both.1 (moved_notes a b middle both.1 moves) ends

    links_notes : (told : Type 0) (line : ScriptLine) (fails : Fails) (said : Said) (new : Doubted) → may_note d.world line i ≡ false → LinkEnds told d line fails said new
        → HasNote i o new
    links_notes told line fails said new off (LinksDone last runs none borne says left) =
        are_notes line d last new left (OtherNotes.runs_stand i o (link_events d.world line) d last x runs).has
    links_notes told line fails said new off (LinksHalt e site disk middle comes here is says left) =
        are_notes line d (halved middle e site disk) new left
        (OtherNotes.halved_notes i o middle e site disk (OtherNotes.runs_stand i o comes.before d middle x comes.runs))
    links_notes told line fails said new off (AppliesPart before rest site count reached disk last split runs none here is says left) =
        are_notes line d last new left (OtherNotes.runs_stand i o (before ++ Fault site disk ∷ []) d last x runs).has
    links_notes told line fails said new off (AppliesCut before rest site count reached kept taken middle split runs none few opens fused failed says left) =
        let h : Doubted = halved middle (Fault site 0) site 0 in
        are_notes line d (crashed_as h site kept taken) new left
        (OtherNotes.crashed_notes i o h site kept taken (OtherNotes.halved_notes i o middle (Fault site 0) site 0 (OtherNotes.runs_stand i o before d middle x runs)))
    links_notes told line fails said new off (LinksCut e site kept taken middle comes fused none says left) =
        let h : Doubted = halved middle e site 0 in
        are_notes line d (crashed_as h site kept taken) new left
        (OtherNotes.crashed_notes i o h site kept taken
        (OtherNotes.halved_notes i o middle e site 0 (OtherNotes.runs_stand i o comes.before d middle x comes.runs)))
    links_notes told line fails said new off (LogUnread before rest e site disk middle split reads runs none here is says left) =
        are_notes line d middle new left (OtherNotes.runs_stand i o before d middle x runs).has
    links_notes told line fails said new off (NoHeader before rest e site middle split takes runs none most is says left) =
        are_notes line d middle new left (OtherNotes.runs_stand i o before d middle x runs).has
    links_notes told line fails said new off (LinksFind untold last finds left) = are_notes line d last new left (other_notes line fails said last off finds)

    by_kind : (told : Type 0) (links : Bool) (line : ScriptLine) (fails : Fails) (said : Said) (new : Doubted) → may_note d.world line i ≡ false
        → EndsBy links told d line fails said new → HasNote i o new
    by_kind told true line fails said new off ends = links_notes told line fails said new off ends
    by_kind told false line fails said new off ends =
        ends_notes told line (place_of d.world line) fails said new (recover_apart d.world line i off) ends

    module _ (told : Type 0) (fails : Fails) (said : Said) (new : Doubted) where
      -- ---- another site with a replicated volume group

      -- a line that leaves the site like this, behind these events
      rose : (line : ScriptLine) (s : ℕ) → eqb i s ≡ false → (taken : Bool) (next : GroupNode) (es : List Event) → IsLeftBack s line taken next d (run_as taken d es) new → HasNote i o new
      rose line s apart taken next es left = back_notes s line taken next d (run_as taken d es) new apart left x.has (ran taken es)

      pub fell : (line : ScriptLine) (s : ℕ) → eqb i s ≡ false → (taken lost : Bool) (next : GroupNode) (es : List Event) → IsLeftBut lost s line taken next d (run_as taken d es) new → HasNote i o new
      fell line s apart taken lost next es left = but_notes lost s line taken next d (run_as taken d es) new apart left x.has (ran taken es)

      rises_notes : (line : ScriptLine) (s : ℕ) → eqb i s ≡ false → RvgBack told d line s fails said new → HasNote i o new
      rises_notes line s apart (RvgUp site kept taken middle next shown has is are back keeps works says shows left) =
          rose line s apart taken next (fall_first (d.world.nodes s).state s kept ++ RecoverAt s None ∷ []) left
      rises_notes line s apart (LogFails site kept taken disk middle next leaves has is are failed back keeps works begun says left) =
          fell line s apart taken true next (fall_first (d.world.nodes s).state s kept ++ leaves) left
      rises_notes line s apart (LogLacks site kept taken middle next has is are back keeps works lacks says left) =
          fell line s apart taken true next (fall_first (d.world.nodes s).state s kept) left
      rises_notes line s apart (KeptLost site kept taken disk middle next has cut is are failed back keeps works says left) =
          rose line s apart taken next (fall_first (d.world.nodes s).state s kept ++ RecoverAt s None ∷ CrashAt s 0 ∷ []) left
      rises_notes line s apart (GroupUnfound site kept taken lost why next has is are not leaves says left) =
          fell line s apart taken lost next (fall_first (d.world.nodes s).state s kept) left
      rises_notes line s apart (GroupHeld site kept taken lost disk next has is are failed notes says left) =
          fell line s apart taken lost next (fall_first (d.world.nodes s).state s kept) left

      takes_notes : (line : ScriptLine) (s : ℕ) → eqb i s ≡ false → RvgTakes told d line s fails said new → HasNote i o new
      takes_notes line s apart (RvgTaken site middle next has is are back keeps works says left) = rose line s apart false next (RecoverAt s None ∷ []) left
      takes_notes line s apart (TakeFails site disk middle next events has is are failed back keeps works begun says left) = fell line s apart false true next events left
      takes_notes line s apart (TakeLacks site middle next has is are back keeps works lacks says left) = fell line s apart false true next [] left
      takes_notes line s apart (TakeCut site middle next events has is are fused back keeps works begun says left) = rose line s apart false next (events ++ FallAt s ∷ []) left
      takes_notes line s apart (TakeOff site next has is are fused notes says left) = rose line s apart false next (FallAt s ∷ []) left
      takes_notes line s apart (TakeUnfound site lost why next has is are not leaves says left) = fell line s apart false lost next [] left
      takes_notes line s apart (TakeHeld site lost disk next has is are failed notes says left) = fell line s apart false lost next [] left

      -- the site as it came up
      came : (line : ScriptLine) (s : ℕ) (taken : Bool) (next : GroupNode) (mid : Doubted) (k : Node) (row : ℕ → LinkRecord) → eqb i s ≡ false → HasNote i o mid
          → IsLeftBack s line taken next d (gone_astray (found_linked mid s k row)) new → HasNote i o new
      came line s taken next mid k row apart h left =
          let linked : HasNote i o (found_linked mid s k row) = linked_notes mid s k row apart h in
          back_notes s line taken next d (gone_astray (found_linked mid s k row)) new apart left x.has (record { note = linked.note; doubt = linked.doubt })

      at_rest : (s kept : ℕ) (taken : Bool) (mid : Doubted) → mid ≡ run_as taken d (fall_first (d.world.nodes s).state s kept) → HasNote i o mid
      at_rest s kept taken mid is = subst (λ (e : Doubted). HasNote i o e) (sym is) (ran taken (fall_first (d.world.nodes s).state s kept))

      finds_notes : (line : ScriptLine) (s : ℕ) → eqb i s ≡ false → RvgFinds told d line s fails said new → HasNote i o new
      finds_notes line s apart (FindsRvg kept taken next mid n k row c units are brings unknown dark is same comes config fits lies says left) =
          came line s taken next mid k row apart (at_rest s kept taken mid is) left
      finds_notes line s apart (FindsLost site kept taken disk next mid n k row c units has cut is are failed unknown dark rests same comes config fits lies says left) =
          let linked : HasNote i o (found_linked mid s (fallen k) (fallen_row row)) = linked_notes mid s (fallen k) (fallen_row row) apart (at_rest s kept taken mid rests) in
          back_notes s line taken next d (gone_astray (found_fallen mid s k row)) new apart left x.has (record { note = linked.note; doubt = linked.doubt })
      finds_notes line s apart (FindsPlain kept taken next mid has are brings unknown dark is none says left) =
          came line s taken next mid (group_set s (unmade_site (mid.world.nodes s))) (λ _. no_link) apart (at_rest s kept taken mid is) left
      finds_notes line s apart (FindsNoRvg kept taken lost next why has are brings unknown device notes says left) =
          but_notes lost s line taken next d _ new apart left x.has (ran taken (fall_first (d.world.nodes s).state s kept))

      line_notes : (line : ScriptLine) (s : ℕ) → may_note d.world line i ≡ false → eqb i s ≡ false → EndsOver told d line s fails said new → HasNote i o new
      line_notes line s off apart h =
          let middle : HasNote i o h.middle =
          ends_notes (IsKnown told (note_at (d.world.nodes s))) line (place_of d.world line) h.ending h.inner h.middle (recover_apart d.world line i off) h.ends in
          let u : World = h.middle.world in
          OtherNotes.as_notes i o h.middle (noting_over line d.world u s h.next) new h.left
          (OtherNotes.apart_notes i o u s (record (u.nodes s) { group = Some h.next; fuse = fuse_behind line (d.world.nodes s).fuse (u.nodes s).fuse }) apart middle.note) middle

      read_notes : (s : ℕ) → eqb i s ≡ false → IsAs d (worked_on d.world s) new → HasNote i o new
      read_notes s apart left = OtherNotes.as_notes i o d (worked_on d.world s) new left (OtherNotes.apart_notes i o d.world s (worked (d.world.nodes s)) apart x.has.note) x.has

      -- a line on the group alone
      below_notes : (line : ScriptLine) (s : ℕ) → eqb i s ≡ false → BelowEnds told d line s fails said new → HasNote i o new
      below_notes line s apart below =
          let w : MissedNote = below.missed in
          let h : HasNote i o below.middle = under_notes (missed_world w d s) (in_stands d s (with_maps w (note_at (d.world.nodes s))) apart x) told fails said below.middle line s apart below.ends in
          OtherNotes.as_notes i o below.middle (loosened_at below.loosens below.middle.world s) new below.left
          (OtherNotes.noting_notes i o below.middle.world s (note_loosened below.loosens (note_at (below.middle.world.nodes s))) apart h.note) h

      place_or : (line : ScriptLine) (s : ℕ) → may_note d.world line i ≡ false → eqb i s ≡ false → OverRvg told d line s fails said new → HasNote i o new
      place_or (GroupDeport site) s off apart below = below_notes (GroupDeport site) s apart below
      place_or (Volume site volume blocks mirrors layout log map policy) s off apart below = below_notes (Volume site volume blocks mirrors layout log map policy) s apart below
      place_or (PlexDetach site volume plex) s off apart below = below_notes (PlexDetach site volume plex) s apart below
      place_or (PlexAttach site volume plex) s off apart below = below_notes (PlexAttach site volume plex) s apart below
      place_or (GroupImport site) s off apart (inl takes) = takes_notes (GroupImport site) s apart takes
      place_or (GroupImport site) s off apart (inr finds) = finds_notes (GroupImport site) s apart finds
      place_or (Recover site) s off apart (inl back) = rises_notes (Recover site) s apart back
      place_or (Recover site) s off apart (inr finds) = finds_notes (Recover site) s apart finds
      place_or (Write site volume start count fill) s off apart ends =
          write_by told d (Write site volume start count fill) s fails said new (HasNote i o new) (λ it. line_notes (Write site volume start count fill) s off apart it) (λ below. below_notes (Write site volume start count fill) s apart below) (is_data (kind_named (d.world.nodes s) volume)) ends
      place_or (Put site volume start bytes) s off apart ends =
          write_by told d (Put site volume start bytes) s fails said new (HasNote i o new) (λ it. line_notes (Put site volume start bytes) s off apart it) (λ below. below_notes (Put site volume start bytes) s apart below) (is_data (kind_named (d.world.nodes s) volume)) ends
      place_or (Read site volume start count) s off apart ends =
          read_by told d (Read site volume start count) volume start count s fails said new (HasNote i o new) (λ it. line_notes (Read site volume start count) s off apart it) (λ left. read_notes s apart left) (is_data (kind_named (d.world.nodes s) volume)) ends
      place_or (Show site volume start count) s off apart ends =
          read_by told d (Show site volume start count) volume start count s fails said new (HasNote i o new) (λ it. line_notes (Show site volume start count) s off apart it) (λ left. read_notes s apart left) (is_data (kind_named (d.world.nodes s) volume)) ends
      place_or other s off apart ends = line_notes other s off apart ends

      -- ---- a line that makes one

      makes_notes : (line : ScriptLine) (s : ℕ) → eqb i s ≡ false → MakesRvg told d line s fails said new → HasNote i o new
      makes_notes line s apart (RvgDone site srl maps volumes middle next is are notes says left) =
          let es : List Event = volume_events (note_at (d.world.nodes s)) s (units_at d s srl maps volumes) in
          made_notes s next (run_as false (noting_in d s middle) es) new apart left
          (OtherNotes.run_stands i o false (noting_in d s middle) es (in_stands d s middle apart x)).has
      makes_notes line s apart (RvgLacks site srl maps volumes next is are notes says left) = made_notes s next d new apart left x.has
      makes_notes line s apart (RvgFails site srl maps volumes disk next is are has notes says left) = made_notes s next d new apart left x.has
      makes_notes line s apart (RvgCut site srl maps volumes next is are fused notes says left) =
          made_notes s next (run_as false d (CrashAt s 0 ∷ [])) new apart left (ran false (CrashAt s 0 ∷ []))

      -- ---- any line

      beside_notes : (line : ScriptLine) → may_note d.world line i ≡ false → WorksBeside told d line fails said new → HasNote i o new
      beside_notes line off (AsBefore works found) = by_group (is_for_group d.world line) refl works
        where
          by_group : (group : Bool) → is_for_group d.world line ≡ group → WorksOver group told d line fails said new → HasNote i o new
          by_group true is ends = group_notes d x told fails said new line (group_place d.world line) (group_apart d.world line i off is) ends
          by_group false is (inl step) = by_kind told (is_of_links line) line fails said new off step.ends
          by_group false is (inr kept) =
              group_notes d x told fails said new line (group_place d.world line) (brings_apart d.world line i off (subst BringsUp (sym kept.recovers) tt)) kept.ends
      beside_notes line off (FoundOne finds) =
          let s : ℕ = group_place d.world line in
          finds_notes line s (brings_apart d.world line i off (brings_found told d line s fails said new finds)) finds

      above_notes : (halts above : Bool) (line : ScriptLine) → is_for_rvg d.world line ≡ above → may_note d.world line i ≡ false
          → WorksAbove halts above told d line fails said new → HasNote i o new
      above_notes true above line is off ends = absurd ends
      above_notes false true line is off ends = place_or line (rvg_place d.world line) off (rvg_apart d.world line i off is) ends
      above_notes false false line is off ends = beside_notes line off ends

      full_notes : (line : ScriptLine) → may_note d.world line i ≡ false → WorksFull told d line fails said new → HasNote i o new
      full_notes (Rvg site srl maps volumes) off ends = makes_notes (Rvg site srl maps volumes) (site_number d.world site) off ends
      full_notes other off ends = above_notes (is_open d.world other) (is_for_rvg d.world other) other refl off ends

      refusal_notes : (why : Option No) (line : ScriptLine) → may_note d.world line i ≡ false → FullBy why told d line fails said new → HasNote i o new
      refusal_notes (Some why) line off step = subst (λ (e : Doubted). HasNote i o e) (sym step.stays) x.has
      refusal_notes None line off step = full_notes line off step

      pub step_notes : (files : Bool) (line : ScriptLine) → may_note d.world line i ≡ false → StepFull told files d line fails said new → HasNote i o new
      step_notes files line off step = refusal_notes (refused_over d.world files line) line off step
