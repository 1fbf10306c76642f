-- How a line over a group of disks ended is an end of events of the world, which differ from it in notes alone.
use Rattle.std.proofs.Common.{◌≡◌, ℕ, List, [], ◌∷◌, false, refl, sym, ◌++◌}
use Rattle.std.specs.Prelude.{Some}
use Rattle.vx_history.specs.Doubts.{Doubted}
use Rattle.vx_history.specs.Groups.{GroupNode}
use Rattle.vx_history.specs.Likes.{IsLike}
use Rattle.vx_history.specs.Steps.{burned}
use Rattle.vx_history.specs.Stops.{AllDone as EventsDone, IsLikeDoubted, all_fails}
use Rattle.vx_history.specs.World.{Node, World, FuseSet, NoFuse, updated}
use Rattle.vx_history.specs.declared.event.Event.{Event}
use Rattle.vx_history.specs.declared.event.Event.TheVariants.{Crash as CrashAt}
use Rattle.vx_model.specs.declared.site.SiteState.{SiteState}
use Rattle.vx_model.specs.declared.site.SiteState.TheVariants.{Bare, Up, Deported, Down}
use Rattle.vx_script.specs.declared.line.ScriptLine.{ScriptLine}
use Rattle.vx_script.specs.declared.line.ScriptLine.TheVariants.{GroupInit, GroupDeport, GroupImport, Volume, PlexDetach, PlexAttach, Disk, Crash, Fuse, Recover, Write, Put, Read, Show}
use Rattle.vx_events.proofs.Noting.{as_like, like_disks, like_noted, like_self, like_then}
use Rattle.vx_events.proofs.Stopping.{runs_as}
use Rattle.vx_events.specs.Doubts.{run_as}
use Rattle.vx_events.specs.Failing.{is_failing}
use Rattle.vx_events.specs.Fails.{Fails}
use Rattle.vx_events.specs.GroupEnds.{GroupEnds, GroupDone, GroupLacks, GroupFails, InitFails, ImportFails, KeptUnread, GroupCut, GroupNotFound, FindsGroup, FindsNoGroup, GroupStops, IsLeftOver}
use Rattle.vx_events.specs.GroupLines.{unread_events, crash_first, cut_events, fuse_lost, group_events, group_noted, group_recovery, noting, refused_events}
use Rattle.vx_events.specs.declared.said.Said.{Said}

-- what a line notes is no more than a note
pub noted_like : (s : ℕ) (line : ScriptLine) (v : World) → IsLike v (group_noted s line v)
noted_like s (Disk site disk state) v = like_disks v s (updated (v.nodes s).failing disk (is_failing state)) (v.nodes s).group
noted_like s (Fuse site calls pick) v = like_noted v s (FuseSet calls)
noted_like s (Volume site volume blocks mirrors layout log map policy) v = like_noted v s (burned (v.nodes s).fuse)
noted_like s (PlexDetach site volume plex) v = like_noted v s (burned (v.nodes s).fuse)
noted_like s (PlexAttach site volume plex) v = like_noted v s (burned (v.nodes s).fuse)
noted_like s (Write site volume start count fill) v = like_noted v s (burned (v.nodes s).fuse)
noted_like s (Put site volume start bytes) v = like_noted v s (burned (v.nodes s).fuse)
noted_like s (GroupDeport site) v = like_noted v s (burned (v.nodes s).fuse)
noted_like s (GroupImport site) v = like_noted v s (burned (v.nodes s).fuse)
noted_like s (Read site volume start count) v = like_noted v s (burned (v.nodes s).fuse)
noted_like s (Show site volume start count) v = like_noted v s (burned (v.nodes s).fuse)
noted_like s other v = like_self v

left_over : (s : ℕ) (line : ScriptLine) (next : GroupNode) (last new : Doubted) → IsLeftOver s line next last new → IsLikeDoubted last new
left_over s line next last new is =
    let v : World = noting last.world s next in
    as_like last new (group_noted s line v) (like_then (like_disks last.world s (last.world.nodes s).failing (Some next)) (noted_like s line v)) is

-- no event of such a line tells of a failing disk
recovery_tells : (state : SiteState) (s : ℕ) → all_fails (group_recovery state s) ≡ []
recovery_tells Bare s = refl
recovery_tells Up s = refl
recovery_tells Deported s = refl
recovery_tells Down s = refl

first_tells : (state : SiteState) (s : ℕ) → all_fails (crash_first state s) ≡ []
first_tells Bare s = refl
first_tells Up s = refl
first_tells Deported s = refl
first_tells Down s = refl

pub events_tell : (n : Node) (s : ℕ) (line : ScriptLine) → all_fails (group_events n s line) ≡ []
events_tell n s (GroupInit site) = refl
events_tell n s (GroupDeport site) = refl
events_tell n s (GroupImport site) = refl
events_tell n s (Recover site) = recovery_tells n.state s
events_tell n s (Crash site pick) = refl
events_tell n s other = refl

refused_tell : (n : Node) (s : ℕ) (line : ScriptLine) → all_fails (refused_events n s line) ≡ []
refused_tell n s (Recover site) = first_tells n.state s
refused_tell n s other = refl

unread_tells : (state : SiteState) (s : ℕ) → all_fails (group_recovery state s ++ CrashAt s 0 ∷ []) ≡ []
unread_tells Bare s = refl
unread_tells Up s = refl
unread_tells Deported s = refl
unread_tells Down s = refl

cut_tells : (s : ℕ) (line : ScriptLine) → all_fails (cut_events s line) ≡ []
cut_tells s (GroupImport site) = refl
cut_tells s other = refl

pub stop_by : (d new : Doubted) (s : ℕ) (line : ScriptLine) (next : GroupNode) (events : List Event) → all_fails events ≡ []
    → IsLeftOver s line next (run_as false d events) new → GroupStops d new
stop_by d new s line next events tells left = record {
  events = events;
  stops = EventsDone (run_as false d events) (runs_as false d events) (sym tells) (left_over s line next (run_as false d events) new left);
}

pub group_stops : (told : Type 0) (d : Doubted) (line : ScriptLine) (s : ℕ) (fails : Fails) (said : Said) (new : Doubted) → GroupEnds told d line s fails said new
    → GroupStops d new
group_stops told d line s fails said new (GroupDone next are does left) =
    stop_by d new s line next (group_events (d.world.nodes s) s line) (events_tell (d.world.nodes s) s line) left
group_stops told d line s fails said new (GroupLacks why wants none says left) = stop_by d new s line _ [] refl left
group_stops told d line s fails said new (GroupFails disk next are has spoils says left) =
    stop_by d new s line next (refused_events (d.world.nodes s) s line) (refused_tell (d.world.nodes s) s line) left
group_stops told d line s fails said new (InitFails disk site is are has says left) = record { events = []; stops = EventsDone d refl refl (as_like d new d.world (like_self d.world) left) }
group_stops told d line s fails said new (KeptUnread disk next site is are has back says left) =
    stop_by d new s line next (unread_events (d.world.nodes s) s) (unread_tells (d.world.nodes s).state s) left
group_stops told d line s fails said new (GroupCut next are fused cuts says left) = stop_by d new s line next (cut_events s line) (cut_tells s line) left
group_stops told d line s fails said new (ImportFails why next site is are refuses begun says left) =
    let v : World = noting d.world s next in
    record {
      events = [];
      stops = EventsDone d refl refl (as_like d new (fuse_lost v s) (like_then (like_disks d.world s (d.world.nodes s).failing (Some next)) (like_noted v s NoFuse)) left);
    }
group_stops told d line s fails said new (GroupNotFound why next are brings not leaves says left) =
    stop_by d new s line _ (refused_events (d.world.nodes s) s line) (refused_tell (d.world.nodes s) s line) left
group_stops told d line s fails said new (FindsGroup next are brings unknown dark says left) =
    stop_by d new s line next (group_events (d.world.nodes s) s line) (events_tell (d.world.nodes s) s line) left
group_stops told d line s fails said new (FindsNoGroup next why are brings unknown free refused says left) =
    stop_by d new s line next (refused_events (d.world.nodes s) s line) (refused_tell (d.world.nodes s) s line) left
