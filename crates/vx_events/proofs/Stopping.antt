-- How a line ended is an end of events of the world, in which sites may be in doubt.
use Rattle.std.proofs.Common.{◌≡◌, ◌∙◌, inl, inr, ℕ, Bool, true, false, List, [], ◌∷◌, ◌++◌, ap, sym, subst, refl}
use Rattle.std.proofs.lemmas.List.{append-nil}
use Rattle.std.specs.Prelude.{Option, Some, None, ◌<◌}
use Rattle.vx_model.specs.declared.no.No.{No}
use Rattle.vx_model.specs.declared.site.SiteState.{SiteState}
use Rattle.vx_model.specs.declared.site.SiteState.TheVariants.{Bare, Up, Deported, Down}
use Rattle.vx_history.specs.Doubts.{Doubted, Runs, halved, happened}
use Rattle.vx_history.specs.Stops.{EventsEnd, AllDone as EventsDone, Halts, Cuts, Reads, IsOpen, IsFused, IsLikeDoubted, all_fails, told_fails, of_disk}
use Rattle.vx_history.specs.World.{World}
use Rattle.vx_history.specs.declared.event.Event.{Event}
use Rattle.vx_history.specs.declared.event.Event.TheVariants.{Site as MakeSite, Raw as MakeRaw, Write as WriteAt, Read as ReadAt, Apply as ApplyAt, Crash as CrashAt, Recover as RecoverAt, Fault}
use Rattle.vx_order.specs.Sites.{unknown_one}
use Rattle.vx_order.specs.declared.facts.RvgFacts.{RvgFacts}
use Rattle.vx_order.specs.declared.facts.SiteFacts.{SiteFacts}
use Rattle.vx_script.specs.declared.line.ScriptLine.{ScriptLine}
use Rattle.vx_script.specs.declared.line.ScriptLine.TheVariants.{Site, Raw, Disk as DiskLine, Crash, Fuse as FuseLine, Recover, Write, Put, Read, Show, Apply, Status}
use Rattle.vx_events.proofs.LinkStopping.{link_stops}
use Rattle.vx_events.proofs.LinkTesting.{seat_at}
use Rattle.vx_events.proofs.Noting.{left_like, like_then, same_like}
use Rattle.vx_events.proofs.OverSeats.{fact_apart}
use Rattle.vx_events.proofs.Places.{some_same}
use Rattle.vx_events.proofs.Refused.{Named}
use Rattle.vx_events.proofs.RefusedCalls.{WriteMay, write_may, put_may}
use Rattle.vx_events.proofs.StoppingCuts.{cut_like}
use Rattle.vx_events.specs.Doubts.{run_as}
use Rattle.vx_events.specs.Ends.{Ends, AllDone, DiskFails, HeaderFails, FuseRunsOut, NoNumber, ShowsReceived, FindsLinks, FindsNone, place_of, LeavesOf, BegunOf, WritesAHeader}
use Rattle.vx_events.specs.Facts.{site_number, group_fact, group_by}
use Rattle.vx_events.specs.Fails.{AreBorne, Fails}
use Rattle.vx_events.specs.Lines.{EndsBy, IsRefusedLine, is_of_links}
use Rattle.vx_events.specs.LinkEnds.{FirstCame}
use Rattle.vx_events.specs.LinkLists.{link_events}
use Rattle.vx_events.specs.GroupLines.{is_over_group}
use Rattle.vx_events.specs.LinkedFacts.{linked_fact}
use Rattle.vx_events.specs.StepsOver.{OverBy, StepOver, facts_over, is_for_group, refused_over}
use Rattle.vx_events.specs.Lists.{Choice, crash_count, events_of, recovery_of}
use Rattle.vx_events.specs.Stopping.{CameOf, Whole, Broken, First, Crashed, StopsAs, StopsBy}
use Rattle.vx_events.specs.declared.said.Said.{Said}

-- ---- events that are done

pub runs_as : (taken : Bool) (d : Doubted) (es : List Event) → Runs d es (run_as taken d es)
runs_as taken d [] = refl
runs_as taken d (e ∷ es) = (taken, runs_as taken (happened d e taken) es)

-- all of these events are done
all_stop : (taken : Bool) (d : Doubted) (es : List Event) (fails : Fails) (new : Doubted) → fails ≡ all_fails es → IsLikeDoubted (run_as taken d es) new → EventsEnd d es fails new
all_stop taken d es fails new is like = EventsDone (run_as taken d es) (runs_as taken d es) is like

-- the events of a line that ended so
record CameTo (d : Doubted) (all : List Event) (s kept : ℕ) (fails : Fails) (new : Doubted) : Type 0 where
  events : List Event
  came : CameOf d.world all s kept events
  stops : EventsEnd d events fails new

-- ---- the events of a line are at its site, and none of them tells of a failing disk

abbrev IsAt : ℕ → Event → Type 0
IsAt s (WriteAt p volume start bytes fails) = (p ≡ s) × (fails ≡ None)
IsAt s (ApplyAt p count reached) = p ≡ s
IsAt s (RecoverAt p fails) = (p ≡ s) × (fails ≡ None)
IsAt s (Fault p disk) = ⊥
IsAt s other = Unit {0}

abbrev AllAt : ℕ → List Event → Type 0
AllAt s [] = Unit {0}
AllAt s (e ∷ es) = IsAt s e × AllAt s es

recovery_at : (t : SiteState) (s kept : ℕ) → AllAt s (recovery_of t s kept)
recovery_at Bare s kept = ((refl, refl), tt)
recovery_at Up s kept = (tt, ((refl, refl), tt))
recovery_at Deported s kept = ((refl, refl), tt)
recovery_at Down s kept = ((refl, refl), tt)

all_at : (w : World) (line : ScriptLine) (c : Choice) → AllAt (place_of w line) (events_of w line c)
all_at w (Site name disks blocks) c = (tt, tt)
all_at w (Raw site) c = (tt, tt)
all_at w (DiskLine site disk state) c = tt
all_at w (Crash site pick) c = (tt, tt)
all_at w (FuseLine site calls pick) c = tt
all_at w (Recover site) c = recovery_at (w.nodes (site_number w site)).state (site_number w site) (crash_count (w.nodes (site_number w site)) c.kept)
all_at w (Write site volume start count fill) c = ((refl, refl), tt)
all_at w (Put site volume start bytes) c = ((refl, refl), tt)
all_at w (Read site volume start count) c = (tt, tt)
all_at w (Show site volume start count) c = (tt, tt)
all_at w (Apply site to) c = (refl, tt)
all_at w (Status site) c = tt
all_at w other c = tt

split_at : (s : ℕ) (before : List Event) (e : Event) (rest : List Event) → AllAt s (before ++ e ∷ rest) → AllAt s before × IsAt s e
split_at s [] e rest h = (tt, h.0)
split_at s (b ∷ before) e rest h = let more = split_at s before e rest h.1 in ((h.0, more.0), more.1)

told_none : (s : ℕ) (e : Event) → IsAt s e → told_fails e ≡ []
told_none s (WriteAt p volume start bytes fails) h = ap (λ (o : Option ℕ). of_disk p o) h.1
told_none s (RecoverAt p fails) h = ap (λ (o : Option ℕ). of_disk p o) h.1
told_none s (Fault p disk) h = absurd h
told_none s other h = refl

-- events before others fail in nothing
fails_behind : (s : ℕ) (before left : List Event) → AllAt s before → all_fails (before ++ left) ≡ all_fails left
fails_behind s [] left h = refl
fails_behind s (e ∷ es) left h = ap (λ (xs : List (ℕ × ℕ)). xs ++ all_fails (es ++ left)) (told_none s e h.0) ∙ fails_behind s es left h.1

all_none : (s : ℕ) (es : List Event) → AllAt s es → all_fails es ≡ []
all_none s [] h = refl
all_none s (e ∷ es) h = ap (λ (xs : List (ℕ × ℕ)). xs ++ all_fails es) (told_none s e h.0) ∙ all_none s es h.1

-- ---- the ends of a line

module _ (taken : Bool) (d : Doubted) (all : List Event) (s kept disk : ℕ) (before : List Event) (e : Event) (rest left : List Event) (fails : Fails) (new : Doubted)
    (split : all ≡ before ++ e ∷ rest) (at : AllAt s before × IsAt s e) (one : fails ≡ (s, disk) ∷ []) (like : IsLikeDoubted (run_as taken d (before ++ left)) new) where
  -- nothing of the event stands
  none_left : left ≡ [] → CameTo d all s kept fails new
  none_left is =
      let same : run_as taken d (before ++ left) ≡ run_as taken d before = ap (λ (l : List Event). run_as taken d (before ++ l)) is ∙ ap (λ (l : List Event). run_as taken d l) (append-nil before) in
      record {
        events = before ++ e ∷ rest;
        came = Whole (sym split);
        stops = Reads before rest e s disk (run_as taken d before) refl (runs_as taken d before) (all_none s before at.0) one (subst (λ (x : Doubted). IsLikeDoubted x new) same like);
      }

  -- the event stands as one in which the disk failed
  one_left : LeavesOf e disk left → all_fails left ≡ (s, disk) ∷ [] → CameTo d all s kept fails new
  one_left leaves tells = record {
    events = before ++ left;
    came = Broken before e rest left disk split leaves refl;
    stops = all_stop taken d (before ++ left) fails new (one ∙ sym (fails_behind s before left at.0 ∙ tells)) like;
  }

  ended_by : (e' : Event) → e ≡ e' → LeavesOf e' disk left → CameTo d all s kept fails new
  ended_by (MakeSite name disks blocks) is leaves = none_left leaves
  ended_by (MakeRaw p) is leaves = none_left leaves
  ended_by (ReadAt p volume start count) is leaves = none_left leaves
  ended_by (WriteAt p volume start bytes f) is leaves =
      one_left (subst (λ (x : Event). LeavesOf x disk left) (sym is) leaves) (ap all_fails leaves ∙ ap (λ (k : ℕ). (k, disk) ∷ []) (subst (λ (x : Event). IsAt s x) is at.1).0)
  ended_by (ApplyAt p count reached) is leaves =
      one_left (subst (λ (x : Event). LeavesOf x disk left) (sym is) leaves) (ap all_fails leaves ∙ ap (λ (k : ℕ). (k, disk) ∷ []) (subst (λ (x : Event). IsAt s x) is at.1))
  ended_by (RecoverAt p f) is (inl none) = none_left none
  ended_by (RecoverAt p f) is (inr leaves) =
      one_left (subst (λ (x : Event). LeavesOf x disk left) (sym is) (inr leaves)) (ap all_fails leaves ∙ ap (λ (k : ℕ). (k, disk) ∷ []) (subst (λ (x : Event). IsAt s x) is at.1).0)
  ended_by other is leaves = absurd leaves

  disk_ended : LeavesOf e disk left → CameTo d all s kept fails new
  disk_ended leaves = ended_by e refl leaves

-- the first of these events is a write
abbrev pub BeginsWrite : List Event → Type 0
BeginsWrite [] = ⊥
BeginsWrite (WriteAt p volume start bytes fails ∷ es) = Unit {0}
BeginsWrite (other ∷ es) = ⊥

recovery_no_write : (t : SiteState) (s kept : ℕ) → BeginsWrite (recovery_of t s kept) → ⊥
recovery_no_write Bare s kept h = h
recovery_no_write Up s kept h = h
recovery_no_write Deported s kept h = h
recovery_no_write Down s kept h = h

-- a site that the tests found up and running
seen_open : (w : World) (name : List ℕ) (n : Named (facts_over w) name) → is_over_group (w.nodes (site_number w name)) ≡ false → n.facts.state ≡ Up → ((rvg : RvgFacts) → n.facts.rvg ≡ Some rvg → rvg.halted ≡ None)
    → IsOpen (w.nodes (site_number w name)) × (site_number w name < w.sites)
seen_open w name n apart up running =
    let s : ℕ = site_number w name in
    let seat = seat_at w name (subst (λ (o : Option SiteFacts). unknown_one (Some name) o ≡ None) (sym n.found) refl) in
    let same : n.facts ≡ linked_fact w s = some_same (sym n.found ∙ seat.found) ∙ fact_apart w s apart in
    let here : (w.nodes s).state ≡ Up = sym (ap (λ (f : SiteFacts). f.state) same) ∙ up in (
      (here, running (group_fact (w.nodes s)) (ap (λ (f : SiteFacts). f.rvg) same ∙ ap (λ (t : SiteState). group_by t (w.nodes s)) here)),
      seat.below,
    )

pub writes_open : (w : World) (name volume : List ℕ) (start count : ℕ) → is_over_group (w.nodes (site_number w name)) ≡ false → WriteMay (facts_over w) name volume start count → IsOpen (w.nodes (site_number w name)) × (site_number w name < w.sites)
writes_open w name volume start count apart may = seen_open w name may.call.site apart may.call.up may.call.running

open_of : (w : World) (files : Bool) (line : ScriptLine) (c : Choice) → is_for_group w line ≡ false → refused_over w files line ≡ None → BeginsWrite (events_of w line c)
    → IsOpen (w.nodes (place_of w line)) × (place_of w line < w.sites)
open_of w files (Site name disks blocks) c apart free h = absurd h
open_of w files (Raw site) c apart free h = absurd h
open_of w files (DiskLine site disk state) c apart free h = absurd h
open_of w files (Crash site pick) c apart free h = absurd h
open_of w files (FuseLine site calls pick) c apart free h = absurd h
open_of w files (Recover site) c apart free h = absurd (recovery_no_write (w.nodes (site_number w site)).state (site_number w site) (crash_count (w.nodes (site_number w site)) c.kept) h)
open_of w files (Write site volume start count fill) c apart free h = writes_open w site volume start count apart (write_may (facts_over w) files site volume start count fill free)
open_of w files (Put site volume start bytes) c apart free h = writes_open w site volume start 1 apart (put_may (facts_over w) files site volume start bytes free)
open_of w files (Read site volume start count) c apart free h = absurd h
open_of w files (Show site volume start count) c apart free h = absurd h
open_of w files (Apply site to) c apart free h = absurd h
open_of w files (Status site) c apart free h = absurd h
open_of w files other c apart free h = absurd h

module _ (d : Doubted) (all : List Event) (s kept : ℕ) (fails : Fails) (new : Doubted) where
  -- a fuse that ran out in a write
  cut_write : (p volume start : ℕ) (bytes : List ℕ) (f : Option ℕ) (begun : List Event) → all ≡ WriteAt p volume start bytes f ∷ [] → p ≡ s
      → BegunOf d.world (WriteAt p volume start bytes f) begun → IsOpen (d.world.nodes s) × (s < d.world.sites) → IsFused (d.world.nodes s).fuse → fails ≡ []
      → IsLikeDoubted (run_as false d (begun ++ CrashAt s kept ∷ [])) new → CameTo d all s kept fails new
  cut_write p volume start bytes f begun is at (inl begins) runs fused none like =
      let e : Event = WriteAt s volume start bytes (Some 0) in
      let here : begun ≡ e ∷ [] = begins ∙ ap (λ (k : ℕ). WriteAt k volume start bytes (Some 0) ∷ []) at in
      let cut : IsLikeDoubted (run_as false d (e ∷ CrashAt s kept ∷ [])) new = subst (λ (es : List Event). IsLikeDoubted (run_as false d (es ++ CrashAt s kept ∷ [])) new) here like in
      let began : IsLikeDoubted _ _ = cut_like d s volume start bytes kept runs.1 runs.0.0 in
      record {
        events = e ∷ [];
        came = Broken [] (WriteAt p volume start bytes f) [] begun 0 is begins (sym here);
        stops = Cuts e s kept true d
            (record { before = []; rest = []; split = refl; runs = refl; fails = refl; opens = runs.0; writes = refl })
            fused none
            (record { worlds = like_then began.worlds cut.worlds; after = λ k. cut.after k ∙ began.after k });
      }
  cut_write p volume start bytes f begun is at (inr unbegun) runs fused none like = record {
    events = CrashAt s kept ∷ [];
    came = Crashed (WriteAt p volume start bytes f) is (inr (refl, unbegun.1)) refl;
    stops = all_stop false d (CrashAt s kept ∷ []) fails new none (subst (λ (es : List Event). IsLikeDoubted (run_as false d (es ++ CrashAt s kept ∷ [])) new) unbegun.0 like);
  }

  -- a fuse that ran out
  fuse_ended : (e : Event) (begun : List Event) → all ≡ e ∷ [] → IsAt s e → (BeginsWrite (e ∷ []) → IsOpen (d.world.nodes s) × (s < d.world.sites)) → BegunOf d.world e begun
      → IsFused (d.world.nodes s).fuse → fails ≡ [] → IsLikeDoubted (run_as false d (begun ++ CrashAt s kept ∷ [])) new → CameTo d all s kept fails new
  fuse_ended (WriteAt p volume start bytes f) begun is at may_write begins fused none like =
      cut_write p volume start bytes f begun is at.0 begins (may_write tt) fused none like
  fuse_ended (ApplyAt p count reached) begun is at may_write begins fused none like = record {
    events = CrashAt s kept ∷ [];
    came = Crashed (ApplyAt p count reached) is refl refl;
    stops = all_stop false d (CrashAt s kept ∷ []) fails new none (subst (λ (es : List Event). IsLikeDoubted (run_as false d (es ++ CrashAt s kept ∷ [])) new) begins like);
  }
  fuse_ended other begun is at may_write begins fused none like = absurd begins

  first_same : (e f : Event) → e ∷ [] ≡ f ∷ [] → e ≡ f
  first_same e f is = cc

  never_left : (f : Event) → f ∷ [] ≡ [] → ⊥
  never_left f is = cc

  -- a disk that failed in the header before a write
  header_ended : (e f : Event) (disk : ℕ) → all ≡ e ∷ [] → (BeginsWrite (e ∷ []) → IsOpen (d.world.nodes s) × (s < d.world.sites)) → LeavesOf e disk (f ∷ [])
      → WritesAHeader d.world f s → fails ≡ (s, disk) ∷ [] → IsLikeDoubted (halved d f s disk) new → CameTo d all s kept fails new
  header_ended (MakeSite name disks blocks) f disk is may_write leaves writes one like = absurd (never_left f leaves)
  header_ended (MakeRaw p) f disk is may_write leaves writes one like = absurd (never_left f leaves)
  header_ended (ReadAt p volume start count) f disk is may_write leaves writes one like = absurd (never_left f leaves)
  header_ended (WriteAt p volume start bytes g) f disk is may_write leaves writes one like =
      let same : f ≡ WriteAt p volume start bytes (Some disk) = first_same f (WriteAt p volume start bytes (Some disk)) leaves in
      let there = subst (λ (x : Event). WritesAHeader d.world x s) same writes in
      let halved_like = subst (λ (x : Event). IsLikeDoubted (halved d x s disk) new) same like in
      record {
        events = WriteAt p volume start bytes (Some disk) ∷ [];
        came = Broken [] (WriteAt p volume start bytes g) [] (WriteAt p volume start bytes (Some disk) ∷ []) disk is refl refl;
        stops = Halts (WriteAt p volume start bytes (Some disk)) s disk d
            (record { before = []; rest = []; split = refl; runs = refl; fails = refl; opens = (may_write tt).0; writes = there.0 }) one halved_like;
      }
  header_ended (ApplyAt p count reached) f disk is may_write leaves writes one like =
      absurd (subst (λ (x : Event). WritesAHeader d.world x s) (first_same f (Fault p disk) leaves) writes)
  header_ended (RecoverAt p g) f disk is may_write (inl none) writes one like = absurd (never_left f none)
  header_ended (RecoverAt p g) f disk is may_write (inr leaves) writes one like =
      absurd (subst (λ (x : Event). WritesAHeader d.world x s) (first_same f (RecoverAt p (Some disk)) leaves) writes)
  header_ended other f disk is may_write leaves writes one like = absurd leaves

abbrev pub Recovers : ScriptLine → Type 0
Recovers (Recover site) = Unit {0}
Recovers other = ⊥

-- a line whose site is up and runs, where it writes, and of whose disks contents are told where it recovers it
module _ (told : Type 0) (d : Doubted) (line : ScriptLine) (finds : (told → ⊥) → Recovers line → ⊥)
    (opens : (c : Choice) → BeginsWrite (events_of d.world line c) → IsOpen (d.world.nodes (place_of d.world line)) × (place_of d.world line < d.world.sites)) where
  abbrev s : ℕ
  s = place_of d.world line

  stopping : (fails : Fails) (new : Doubted) (c : Choice) → CameTo d (events_of d.world line c) s c.kept fails new → StopsAs d line s fails new
  stopping fails new c h = record { choice = c; events = h.events; came = h.came; ending = fails; are = inl refl; stops = h.stops }

  -- it is done in spite of failed calls
  bearing : (fails : Fails) (new : Doubted) (c : Choice) → AreBorne d.world s fails → CameTo d (events_of d.world line c) s c.kept [] new → StopsAs d line s fails new
  bearing fails new c borne h = record { choice = c; events = h.events; came = h.came; ending = []; are = inr (refl, borne); stops = h.stops }

  at_of : (c : Choice) (before : List Event) (e : Event) (rest : List Event) → events_of d.world line c ≡ before ++ e ∷ rest → AllAt s before × IsAt s e
  at_of c before e rest split = split_at s before e rest (subst (λ (es : List Event). AllAt s es) split (all_at d.world line c))

  opens_if : (c : Choice) (e : Event) → events_of d.world line c ≡ e ∷ [] → BeginsWrite (e ∷ []) → IsOpen (d.world.nodes s) × (s < d.world.sites)
  opens_if c e is begins = opens c (subst (λ (es : List Event). BeginsWrite es) (sym is) begins)

  pub ended : (fails : Fails) (said : Said) (new : Doubted) → Ends told d line s fails said new → StopsAs d line s fails new
  ended fails said new (AllDone c taken borne says leads) =
      let es : List Event = events_of d.world line c in
      bearing fails new c borne (record { events = es; came = Whole refl; stops = all_stop taken d es [] new (sym (all_none s es (all_at d.world line c))) (left_like s line taken d (run_as taken d es) new leads) })
  ended fails said new (DiskFails c taken before e rest left disk split leaves names one says leads) =
      stopping fails new c
      (disk_ended taken d (events_of d.world line c) s c.kept disk before e rest left fails new split (at_of c before e rest split) one
      (left_like s line taken d (run_as taken d (before ++ left)) new leads) leaves)
  ended fails said new (HeaderFails c e f disk is leaves writes one says leads) =
      stopping fails new c
      (header_ended d (events_of d.world line c) s c.kept fails new e f disk is (opens_if c e is) leaves writes one (left_like s line false d (halved d f s disk) new leads))
  ended fails said new (FuseRunsOut c e begun is begins keeps fused none says leads) =
      stopping fails new c
      (fuse_ended d (events_of d.world line c) s c.kept fails new e begun is (at_of c [] e [] is).1 (opens_if c e is) begins fused none
      (left_like s line false d (run_as false d (begun ++ CrashAt s c.kept ∷ [])) new leads))
  ended fails said new (NoNumber c taken before e rest split lacks most none says leads) =
      let at = at_of c before e rest split in
      stopping fails new c (record {
        events = before;
        came = First (e ∷ rest) split;
        stops = all_stop taken d before fails new (none ∙ sym (all_none s before at.0)) (left_like s line taken d (run_as taken d before) new leads);
      })
  ended fails said new (ShowsReceived site volume start count is role gives borne leads) =
      let c : Choice = record { kept = 0; reached = 0 } in
      bearing fails new c borne (record {
        events = [];
        came = First (events_of d.world line c) refl;
        stops = all_stop false d [] [] new refl (left_like s line false d d new leads);
      })
  ended fails said new (FindsLinks untold c taken site mid n k row is from comes none says leads) = absurd (finds untold (subst (λ (l : ScriptLine). Recovers l) (sym is) tt))
  ended fails said new (FindsNone untold c taken site mid n why is from other none says leads) = absurd (finds untold (subst (λ (l : ScriptLine). Recovers l) (sym is) tt))

-- a line of any kind
ended_by_kind : (told : Type 0) → told → (d : Doubted) → d.strayed ≡ false → (line : ScriptLine)
    → ((c : Choice) → BeginsWrite (events_of d.world line c) → IsOpen (d.world.nodes (place_of d.world line)) × (place_of d.world line < d.world.sites))
    → (links : Bool) (fails : Fails) (said : Said) (new : Doubted) → EndsBy links told d line fails said new → StopsBy links d line fails new
ended_by_kind told is_told d calm line opens true fails said new ends = link_stops told is_told d calm line fails said new ends
ended_by_kind told is_told d calm line opens false fails said new ends = ended told d line (λ untold recovers. untold is_told) opens fails said new ends

-- a line that a test refuses stands for none of its events
refused : (links : Bool) (d : Doubted) (line : ScriptLine) (why : No) (fails : Fails) (said : Said) (new : Doubted) → IsRefusedLine why d fails said new → StopsBy links d line fails new
refused true d line why fails said new is = record {
  events = [];
  came = FirstCame (link_events d.world line) refl;
  stops = all_stop false d [] fails new is.none (same_like d new is.stays);
}
refused false d line why fails said new is =
    let c : Choice = record { kept = 0; reached = 0 } in
    record {
      choice = c;
      events = [];
      came = First (events_of d.world line c) refl;
      ending = fails;
      are = inl refl;
      stops = all_stop false d [] fails new is.none (same_like d new is.stays);
    }

by_refusal : (told : Type 0) → told → (d : Doubted) → d.strayed ≡ false → (files : Bool) (line : ScriptLine) (fails : Fails) (said : Said) (new : Doubted) (o : Option No) → is_for_group d.world line ≡ false
    → refused_over d.world files line ≡ o → OverBy o false told d line fails said new → StopsBy (is_of_links line) d line fails new
by_refusal told is_told d calm files line fails said new (Some why) apart is step = refused (is_of_links line) d line why fails said new step
by_refusal told is_told d calm files line fails said new None apart is (inl step) =
    ended_by_kind told is_told d calm line (λ c begins. open_of d.world files line c apart is begins) (is_of_links line) fails said new step.ends
by_refusal told is_told d calm files line fails said new None apart is (inr kept) = absurd (kept.untold is_told)

-- however a line that works on no group ends over disks that tell their contents, where the world has not strayed
pub line_stops : (told : Type 0) → told → (d : Doubted) → d.strayed ≡ false → (files : Bool) (line : ScriptLine) (fails : Fails) (said : Said) (new : Doubted) → is_for_group d.world line ≡ false
    → StepOver told files d line fails said new → StopsBy (is_of_links line) d line fails new
line_stops told is_told d calm files line fails said new apart step =
    by_refusal told is_told d calm files line fails said new (refused_over d.world files line) apart refl
    (subst (λ (b : Bool). OverBy (refused_over d.world files line) b told d line fails said new) apart step)
