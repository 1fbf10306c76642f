-- How a line ended at a site over a group of disks with a replicated volume group is an end of events of the world: from one that differs in what a site
-- notes of its group.
use Rattle.std.proofs.Common.{◌≡◌, ◌∙◌, append_assoc, inl, inr, ℕ, ◌<◌, Bool, true, false, List, [], ◌∷◌, ◌++◌, refl, sym, ap}
use Rattle.std.specs.Prelude.{◌⊎◌, Some, None}
use Rattle.vx_model.specs.declared.site.SiteState.{SiteState}
use Rattle.vx_model.specs.declared.site.SiteState.TheVariants.{Bare, Up, Deported, Down}
use Rattle.vx_history.specs.Doubts.{Doubted}
use Rattle.vx_history.specs.Groups.{GroupNode}
use Rattle.vx_history.specs.Likes.{IsLike}
use Rattle.vx_history.specs.Stops.{EventsEnd, AllDone as EventsDone, Halts, Cuts, Reads, IsLikeDoubted, IsOpen, all_fails, told_fails}
use Rattle.vx_history.specs.World.{NoFuse, World}
use Rattle.vx_history.specs.declared.event.Event.{Event}
use Rattle.vx_history.specs.declared.event.Event.TheVariants.{Crash as CrashAt, Fall as FallAt, Recover as RecoverAt}
use Rattle.vx_script.specs.declared.line.ScriptLine.{ScriptLine}
use Rattle.vx_script.specs.declared.line.ScriptLine.TheVariants.{Apply, Crash, Disk as DiskLine, Fuse as FuseLine, GroupDeport, GroupImport, PlexAttach, PlexDetach, Put, Raw, Read, Recover, Show, Site, Status, Volume, Write}
use Rattle.vx_events.proofs.GroupStopping.{group_stops, noted_like, stop_by}
use Rattle.vx_events.proofs.KnownLaws.{finds_none}
use Rattle.vx_events.proofs.Noting.{as_like, disks_like, like_disks, like_noted, like_self, like_then, like_site}
use Rattle.vx_events.proofs.RvgMissed.{loosened_like, missed_like}
use Rattle.vx_events.proofs.RvgStopping.{ended as ended_rvg, same_doubted}
use Rattle.vx_events.proofs.Stopping.{BeginsWrite, Recovers, ended, runs_as}
use Rattle.vx_order.specs.Calls.{is_data}
use Rattle.vx_events.proofs.WritesBelow.{write_by}
use Rattle.vx_events.proofs.ReadsLeave.{read_by, read_stops}
use Rattle.vx_events.specs.Doubts.{run_as, with_disks}
use Rattle.vx_events.specs.Ends.{place_of}
use Rattle.vx_events.specs.Facts.{site_number}
use Rattle.vx_events.specs.Fails.{Fails}
use Rattle.vx_events.specs.GroupEnds.{GroupStops, KnowsNothing}
use Rattle.vx_events.specs.GroupLines.{group_noted, noting}
use Rattle.vx_events.specs.GroupNotes.{IsKnown, note_at}
use Rattle.vx_events.specs.Lists.{Choice, events_of, recovery_of, crash_count}
use Rattle.vx_events.specs.RvgBack.{FindsLost, FindsNoRvg, FindsPlain, FindsRvg, GroupHeld, GroupUnfound, IsLeftBack, IsLeftBut, KeptLost, LogFails, LogLacks, RvgBack, RvgFinds, RvgUp, SessionLeft, fall_first, fuse_left}
use Rattle.vx_events.specs.RvgMakes.{RvgStops}
use Rattle.vx_events.specs.RvgOver.{AsGroup, BelowEnds, CutBelow, EndsBelow, EndsOver, OpensFor, OverRvg, kind_named, missed_world, noting_over, fuse_behind}
use Rattle.vx_events.specs.RvgParts.{RvgShort, ShortGroup, ShortLog, ShortMade}
use Rattle.vx_events.specs.declared.said.Said.{Said}
use Rattle.vx_events.specs.RvgTakes.{RvgTaken, TakeFails, TakeLacks, TakeCut, TakeOff, TakeUnfound, TakeHeld, RvgTakes}

-- ---- ends in worlds that differ in notes alone

doubted_then : (x y z : Doubted) → IsLikeDoubted x y → IsLikeDoubted y z → IsLikeDoubted x z
doubted_then x y z a b = record { worlds = like_then a.worlds b.worlds; after = λ i. b.after i ∙ a.after i }

ends_like : (d : Doubted) (events : List Event) (fails : Fails) (last new : Doubted) → EventsEnd d events fails last → IsLikeDoubted last new
    → EventsEnd d events fails new
ends_like d events fails last new (EventsDone x runs is like) more = EventsDone x runs is (doubted_then x last new like more)
ends_like d events fails last new (Halts e site disk middle comes one like) more = Halts e site disk middle comes one (doubted_then _ last new like more)
ends_like d events fails last new (Cuts e site kept taken middle comes fused none like) more =
    Cuts e site kept taken middle comes fused none (doubted_then _ last new like more)
ends_like d events fails last new (Reads before rest e site disk middle split runs none one like) more =
    Reads before rest e site disk middle split runs none one (doubted_then middle last new like more)

-- ---- what events tell of failing disks

told_both : (xs ys : List Event) → all_fails (xs ++ ys) ≡ all_fails xs ++ all_fails ys
told_both [] ys = refl
told_both (x ∷ xs) ys = ap (λ (fs : Fails). told_fails x ++ fs) (told_both xs ys) ∙ sym (append_assoc (told_fails x) (all_fails xs) (all_fails ys))

-- behind events that tell of none
told_behind : (xs ys : List Event) → all_fails xs ≡ [] → all_fails (xs ++ ys) ≡ all_fails ys
told_behind xs ys none = told_both xs ys ∙ ap (λ (fs : Fails). fs ++ all_fails ys) none

falls_tell : (t : SiteState) (s kept : ℕ) → all_fails (fall_first t s kept) ≡ []
falls_tell Bare s kept = refl
falls_tell Up s kept = refl
falls_tell Deported s kept = refl
falls_tell Down s kept = refl

-- ---- what is left is no more than notes

pub back_like : (s : ℕ) (line : ScriptLine) (taken : Bool) (next : GroupNode) (before last new : Doubted) → IsLeftBack s line taken next before last new → IsLikeDoubted last new
back_like s line taken next before last new is =
    let u : World = with_disks taken s before.world last.world in
    let v : World = noting u s next in
    as_like last new (group_noted s line v)
    (like_then (disks_like taken s before.world last.world) (like_then (like_disks u s (u.nodes s).failing (Some next)) (noted_like s line v))) is

lost_like : (lost : Bool) (v : World) (s : ℕ) → IsLike v (fuse_left lost v s)
lost_like true v s = like_noted v s NoFuse
lost_like false v s = like_self v

pub but_like : (lost : Bool) (s : ℕ) (line : ScriptLine) (taken : Bool) (next : GroupNode) (before last new : Doubted) → IsLeftBut lost s line taken next before last new
    → IsLikeDoubted last new
but_like lost s line taken next before last new is =
    let u : World = with_disks taken s before.world last.world in
    let v : World = noting u s next in
    let x : World = group_noted s line v in
    as_like last new (fuse_left lost x s)
    (like_then (disks_like taken s before.world last.world)
    (like_then (like_disks u s (u.nodes s).failing (Some next)) (like_then (noted_like s line v) (lost_like lost x s)))) is

-- events that are all done, and of which one may tell of a disk
but_by : (lost : Bool) (d : Doubted) (s : ℕ) (line : ScriptLine) (taken : Bool) (next : GroupNode) (events : List Event) (ending : Fails) (new : Doubted)
    → all_fails events ≡ ending → IsLeftBut lost s line taken next d (run_as taken d events) new → RvgStops d new
but_by lost d s line taken next events ending new tells left = record {
  before = d;
  like = same_doubted d;
  events = events;
  ending = ending;
  stops = EventsDone (run_as taken d events) (runs_as taken d events) (sym tells) (but_like lost s line taken next d (run_as taken d events) new left);
}

done_by : (d : Doubted) (s : ℕ) (line : ScriptLine) (taken : Bool) (next : GroupNode) (events : List Event) (ending : Fails) (new : Doubted)
    → all_fails events ≡ ending → IsLeftBack s line taken next d (run_as taken d events) new → RvgStops d new
done_by d s line taken next events ending new tells left = but_by false d s line taken next events ending new tells left

-- ---- a line on the group alone

under_stops : (told : Type 0) (d : Doubted) (line : ScriptLine) (s : ℕ) (fails : Fails) (said : Said) (new : Doubted) → EndsBelow told d line s fails said new → GroupStops d new
under_stops told d line s fails said new (AsGroup ends) = group_stops told d line s fails said new ends
under_stops told d line s fails said new (CutBelow kept next are fused cuts says left) = stop_by d new s line next (CrashAt s (crash_count (d.world.nodes s) kept) ∷ []) refl left

-- ---- recoveries

-- nothing came up, and a site that was up crashed
pub fall_stops : (d : Doubted) (s : ℕ) (line : ScriptLine) (kept : ℕ) (taken lost : Bool) (next : GroupNode) (new : Doubted)
    → IsLeftBut lost s line taken next d (run_as taken d (fall_first (d.world.nodes s).state s kept)) new → RvgStops d new
fall_stops d s line kept taken lost next new left =
    but_by lost d s line taken next (fall_first (d.world.nodes s).state s kept) [] new (falls_tell (d.world.nodes s).state s kept) left

module _ (told : Type 0) (d : Doubted) (line : ScriptLine) (s : ℕ) (fails : Fails) (said : Said) (new : Doubted) where
  pub back_stops : RvgBack told d line s fails said new → RvgStops d new
  back_stops (RvgUp site kept taken middle next shown has is are back keeps works says shows left) =
      done_by d s line taken next (fall_first (d.world.nodes s).state s kept ++ RecoverAt s None ∷ []) [] new (told_behind (fall_first (d.world.nodes s).state s kept) (RecoverAt s None ∷ []) (falls_tell (d.world.nodes s).state s kept)) left
  back_stops (LogFails site kept taken disk middle next left has is are failed back keeps works (inl none) says leads) =
      but_by true d s line taken next (fall_first (d.world.nodes s).state s kept ++ left) [] new (told_behind (fall_first (d.world.nodes s).state s kept) left (falls_tell (d.world.nodes s).state s kept) ∙ ap all_fails none) leads
  back_stops (LogFails site kept taken disk middle next left has is are failed back keeps works (inr begun) says leads) =
      but_by true d s line taken next (fall_first (d.world.nodes s).state s kept ++ left) ((s, disk) ∷ []) new (told_behind (fall_first (d.world.nodes s).state s kept) left (falls_tell (d.world.nodes s).state s kept) ∙ ap all_fails begun) leads
  back_stops (LogLacks site kept taken middle next has is are back keeps works lacks says left) = fall_stops d s line kept taken true next new left
  back_stops (KeptLost site kept taken disk middle next has cut is are failed back keeps works says left) =
      done_by d s line taken next (fall_first (d.world.nodes s).state s kept ++ RecoverAt s None ∷ CrashAt s 0 ∷ []) [] new
      (told_behind (fall_first (d.world.nodes s).state s kept) (RecoverAt s None ∷ CrashAt s 0 ∷ []) (falls_tell (d.world.nodes s).state s kept)) left
  back_stops (GroupUnfound site kept taken lost why next has is are not leaves says left) = fall_stops d s line kept taken lost next new left
  back_stops (GroupHeld site kept taken lost disk next has is are failed notes says left) = fall_stops d s line kept taken lost next new left

  -- ---- imports

  session_tells : (disk : ℕ) (left : List Event) → SessionLeft s disk left → (ending : Fails) × (all_fails left ≡ ending)
  session_tells disk left (inl none) = ([], ap all_fails none)
  session_tells disk left (inr begun) = ((s, disk) ∷ [], ap all_fails begun)

  pub takes_stops : RvgTakes told d line s fails said new → RvgStops d new
  takes_stops (RvgTaken site middle next has is are back keeps works says left) = done_by d s line false next (RecoverAt s None ∷ []) [] new refl left
  takes_stops (TakeFails site disk middle next events has is are failed back keeps works begun says left) =
      let tells = session_tells disk events begun in but_by true d s line false next events tells.0 new tells.1 left
  takes_stops (TakeLacks site middle next has is are back keeps works lacks says left) = but_by true d s line false next [] [] new refl left
  takes_stops (TakeCut site middle next events has is are fused back keeps works begun says left) =
      let tells = session_tells 0 events begun in done_by d s line false next (events ++ FallAt s ∷ []) (tells.0 ++ []) new (told_both events (FallAt s ∷ []) ∙ ap (λ (fs : Fails). fs ++ []) tells.1) left
  takes_stops (TakeOff site next has is are fused notes says left) = done_by d s line false next (FallAt s ∷ []) [] new refl left
  takes_stops (TakeUnfound site lost why next has is are not leaves says left) = but_by lost d s line false next [] [] new refl left
  takes_stops (TakeHeld site lost disk next has is are failed notes says left) = but_by lost d s line false next [] [] new refl left

  -- ---- other lines

  -- one on the group alone
  pub below_stops : BelowEnds told d line s fails said new → RvgStops d new
  below_stops below =
      let before : Doubted = missed_world below.missed d s in
      let stops = under_stops told before line s fails said below.middle below.ends in
      record {
        before = before;
        like = missed_like below.missed d s;
        events = stops.events;
        ending = [];
        stops = ends_like before stops.events [] below.middle new stops.stops (loosened_like below.loosens s below.middle new below.left);
      }

  -- one that is no recovery
  over_stops : (Recovers line → ⊥)
      → ((c : Choice) → BeginsWrite (events_of d.world line c) → IsOpen (d.world.nodes (place_of d.world line)) × (place_of d.world line < d.world.sites))
      → EndsOver told d line s fails said new → RvgStops d new
  over_stops rises opens h =
      let stops = ended (IsKnown told (note_at (d.world.nodes s))) d line (λ untold recovers. rises recovers) opens h.ending h.inner h.middle h.ends in
      record {
        before = d;
        like = same_doubted d;
        events = stops.events;
        ending = stops.ending;
        stops = ends_like d stops.events stops.ending h.middle new stops.stops
            (as_like h.middle new (noting_over line d.world h.middle.world s h.next)
            (like_site h.middle.world s (h.middle.world.nodes s).failing (Some h.next) (fuse_behind line (d.world.nodes s).fuse (h.middle.world.nodes s).fuse)) h.left);
      }

-- what want of memory leaves of a recovery or an import
pub short_stops : (told : Type 0) (d : Doubted) (line : ScriptLine) (s : ℕ) (new : Doubted) → RvgShort told d line s new → RvgStops d new
short_stops told d line s new (ShortGroup kept taken lost next has is notes left) = fall_stops d s line kept taken lost next new left
short_stops told d line s new (ShortLog kept taken fails middle next has is are back keeps cut left) = fall_stops d s line kept taken true next new left
short_stops told d line s new (ShortMade site srl maps volumes fails next is are notes left) = ended_rvg d d new (same_doubted d) s next [] refl left

-- ---- where a line writes its site is open

recovery_begins : (t : SiteState) (s kept : ℕ) → BeginsWrite (recovery_of t s kept) → ⊥
recovery_begins Bare s kept h = h
recovery_begins Up s kept h = h
recovery_begins Deported s kept h = h
recovery_begins Down s kept h = h

pub opens_at : (w : World) (line : ScriptLine) → OpensFor w line → (c : Choice) → BeginsWrite (events_of w line c)
    → IsOpen (w.nodes (place_of w line)) × (place_of w line < w.sites)
opens_at w (Site name disks blocks) opens c h = absurd h
opens_at w (Raw site) opens c h = absurd h
opens_at w (DiskLine site disk state) opens c h = absurd h
opens_at w (Crash site pick) opens c h = absurd h
opens_at w (FuseLine site calls pick) opens c h = absurd h
opens_at w (Recover site) opens c h = absurd (recovery_begins (w.nodes (site_number w site)).state (site_number w site) (crash_count (w.nodes (site_number w site)) c.kept) h)
opens_at w (Write site volume start count fill) opens c h = opens
opens_at w (Put site volume start bytes) opens c h = opens
opens_at w (Read site volume start count) opens c h = absurd h
opens_at w (Show site volume start count) opens c h = absurd h
opens_at w (Apply site to) opens c h = absurd h
opens_at w (Status site) opens c h = absurd h
opens_at w other opens c h = absurd h

-- ---- any line at such a site

unknown_found : (told : Type 0) (d : Doubted) (s : ℕ) (fails : Fails) (said : Said) (new : Doubted) (line : ScriptLine) → RvgFinds told d line s fails said new
    → KnowsNothing told (note_at (d.world.nodes s))
unknown_found told d s fails said new line (FindsRvg kept taken next mid n k row c units are brings unknown dark is same comes config fits lies says left) = unknown
unknown_found told d s fails said new line (FindsLost site kept taken disk next mid n k row c units has cut is are failed unknown dark rests same comes config fits lies says left) = unknown
unknown_found told d s fails said new line (FindsPlain kept taken next mid has are brings unknown dark is none says left) = unknown
unknown_found told d s fails said new line (FindsNoRvg kept taken lost next why has are brings unknown free notes says left) = unknown

-- what the disks hold is known, and imports agree, so nothing else is found on them
pub never_found : (told : Type 0) → told → (d : Doubted) (s : ℕ) → (note_at (d.world.nodes s)).dark ≡ false → (fails : Fails) (said : Said) (new : Doubted) (line : ScriptLine)
    → (note_at (d.world.nodes s)).loose ≡ false → RvgFinds told d line s fails said new → ⊥
never_found told tells d s bright fails said new line agree finds = finds_none told tells (note_at (d.world.nodes s)) bright tight (unknown_found told d s fails said new line finds)
  where
    tight : (note_at (d.world.nodes s)).loose ≡ true → ⊥
    tight loose = absurd (let e : true ≡ false = sym loose ∙ agree in cc)

module _ (told : Type 0) (d : Doubted) (s : ℕ) (fails : Fails) (said : Said) (new : Doubted) where
  -- Where the world has not strayed, nothing else came up from the disks: at most none was found, and a site that is up crashed.
  pub finds_stops : (line : ScriptLine) → new.strayed ≡ false → RvgFinds told d line s fails said new → RvgStops d new
  finds_stops line calm (FindsRvg kept taken next mid n k row c units are brings unknown dark is same comes config fits lies says left) =
      absurd (let e : true ≡ false = sym left.strayed ∙ calm in cc)
  finds_stops line calm (FindsLost site kept taken disk next mid n k row c units has cut is are failed unknown dark rests same comes config fits lies says left) =
      absurd (let e : true ≡ false = sym left.strayed ∙ calm in cc)
  finds_stops line calm (FindsPlain kept taken next mid has are brings unknown dark is none says left) = absurd (let e : true ≡ false = sym left.strayed ∙ calm in cc)
  finds_stops line calm (FindsNoRvg kept taken lost next why has are brings unknown free notes says left) = fall_stops d s line kept taken lost next new left

  back_or : (line : ScriptLine) → RvgBack told d line s fails said new ⊎ RvgFinds told d line s fails said new → RvgStops d new ⊎ RvgFinds told d line s fails said new
  back_or line (inl back) = inl (back_stops told d line s fails said new back)
  back_or line (inr finds) = inr finds

  takes_or : (line : ScriptLine) → RvgTakes told d line s fails said new ⊎ RvgFinds told d line s fails said new → RvgStops d new ⊎ RvgFinds told d line s fails said new
  takes_or line (inl takes) = inl (takes_stops told d line s fails said new takes)
  takes_or line (inr finds) = inr finds

  -- the line ended as events do, or found something on disks of which nothing is known
  pub stops_or_finds : (line : ScriptLine) → OpensFor d.world line → OverRvg told d line s fails said new → RvgStops d new ⊎ RvgFinds told d line s fails said new
  stops_or_finds (GroupDeport site) opens ends = inl (below_stops told d (GroupDeport site) s fails said new ends)
  stops_or_finds (Volume site volume blocks mirrors layout log map policy) opens ends = inl (below_stops told d (Volume site volume blocks mirrors layout log map policy) s fails said new ends)
  stops_or_finds (PlexDetach site volume plex) opens ends = inl (below_stops told d (PlexDetach site volume plex) s fails said new ends)
  stops_or_finds (PlexAttach site volume plex) opens ends = inl (below_stops told d (PlexAttach site volume plex) s fails said new ends)
  stops_or_finds (GroupImport site) opens ends = takes_or (GroupImport site) ends
  stops_or_finds (Recover site) opens ends = back_or (Recover site) ends
  stops_or_finds (Write site volume start count fill) opens ends =
      write_by told d (Write site volume start count fill) s fails said new (RvgStops d new ⊎ RvgFinds told d (Write site volume start count fill) s fails said new) (λ it. inl (over_stops told d (Write site volume start count fill) s fails said new (λ recovers. recovers) (opens_at d.world (Write site volume start count fill) opens) it)) (λ below. inl (below_stops told d (Write site volume start count fill) s fails said new below)) (is_data (kind_named (d.world.nodes s) volume)) ends
  stops_or_finds (Put site volume start bytes) opens ends =
      write_by told d (Put site volume start bytes) s fails said new (RvgStops d new ⊎ RvgFinds told d (Put site volume start bytes) s fails said new) (λ it. inl (over_stops told d (Put site volume start bytes) s fails said new (λ recovers. recovers) (opens_at d.world (Put site volume start bytes) opens) it)) (λ below. inl (below_stops told d (Put site volume start bytes) s fails said new below)) (is_data (kind_named (d.world.nodes s) volume)) ends
  stops_or_finds (Read site volume start count) opens ends =
      read_by told d (Read site volume start count) volume start count s fails said new (RvgStops d new ⊎ RvgFinds told d (Read site volume start count) s fails said new) (λ it. inl (over_stops told d (Read site volume start count) s fails said new (λ recovers. recovers) (opens_at d.world (Read site volume start count) opens) it)) (λ left. inl (read_stops d new s left)) (is_data (kind_named (d.world.nodes s) volume)) ends
  stops_or_finds (Show site volume start count) opens ends =
      read_by told d (Show site volume start count) volume start count s fails said new (RvgStops d new ⊎ RvgFinds told d (Show site volume start count) s fails said new) (λ it. inl (over_stops told d (Show site volume start count) s fails said new (λ recovers. recovers) (opens_at d.world (Show site volume start count) opens) it)) (λ left. inl (read_stops d new s left)) (is_data (kind_named (d.world.nodes s) volume)) ends
  stops_or_finds other opens ends = inl (over_stops told d other s fails said new (λ recovers. recovers) (opens_at d.world other opens) ends)

  pub over_rvg_stops : (line : ScriptLine) → new.strayed ≡ false → OpensFor d.world line → OverRvg told d line s fails said new → RvgStops d new
  over_rvg_stops line calm opens ends = by (stops_or_finds line opens ends)
    where
      by : RvgStops d new ⊎ RvgFinds told d line s fails said new → RvgStops d new
      by (inl stops) = stops
      by (inr finds) = finds_stops line calm finds
