-- How a line over a group of disks ends keeps the disks of its site, but for those that a line makes fail.
use Rattle.std.proofs.Common.{◌≡◌, ◌∙◌, ℕ, [], ◌∷◌, ◌++◌, false, refl, sym, subst}
use Rattle.std.specs.Prelude.{not, Some}
use Rattle.vx_model.specs.declared.no.No.TheVariants.{Role as WrongRole, Down as NotUp}
use Rattle.vx_model.specs.declared.site.SiteState.{SiteState}
use Rattle.vx_model.specs.declared.site.SiteState.TheVariants.{Bare, Up, Deported, Down}
use Rattle.vx_model.specs.Sites.{is_up}
use Rattle.vx_history.proofs.Updates.{at_place}
use Rattle.vx_history.specs.Doubts.{Doubted, happened}
use Rattle.vx_history.specs.Events.{crash_at, deport_at, group_again, group_from, is_plain_group, kept_of}
use Rattle.vx_history.specs.Groups.{GroupNode}
use Rattle.vx_history.specs.Refusals.{Outcome, at_work, unless}
use Rattle.vx_history.specs.Step.{done}
use Rattle.vx_history.specs.Steps.{crashed, deported_site, group_back, group_set, group_up}
use Rattle.vx_history.specs.World.{Node, World, with_node}
use Rattle.vx_history.specs.declared.event.Event.TheVariants.{Crash as CrashAt, Deport as DeportAt, Group as GroupAt}
use Rattle.vx_script.specs.declared.line.ScriptLine.{ScriptLine}
use Rattle.vx_script.specs.declared.line.ScriptLine.TheVariants.{GroupInit, GroupDeport, GroupImport, Volume, PlexDetach, PlexAttach, Disk, Crash, Fuse, Recover, Write, Put, Read, Show}
use Rattle.vx_events.proofs.Keeping.{past, past_site, past_work}
use Rattle.vx_events.specs.Doubts.{run_as}
use Rattle.vx_events.specs.Effects.{KeepsDisks}
use Rattle.vx_events.specs.Fails.{Fails}
use Rattle.vx_events.specs.GroupEnds.{GroupEnds, GroupDone, GroupLacks, GroupFails, InitFails, ImportFails, KeptUnread, GroupCut, GroupNotFound, FindsGroup, FindsNoGroup, IsLeftOver}
use Rattle.vx_events.specs.GroupLines.{MakesNoFailure, crash_first, cut_events, fuse_lost, group_events, group_noted, group_recovery, noting, refused_events}
use Rattle.vx_events.specs.declared.said.Said.{Said}
use Rattle.vx_effects.proofs.Effects.{crash_turns}
use Rattle.vx_effects.proofs.Groups.{deport_turns}

keeps_self : (n : Node) → KeepsDisks n n
keeps_self n = record { name = refl; disks = refl; blocks = refl; failing = refl }

keeps_then : (a b c : Node) → KeepsDisks a b → KeepsDisks b c → KeepsDisks a c
keeps_then a b c k l = record { name = l.name ∙ k.name; disks = l.disks ∙ k.disks; blocks = l.blocks ∙ k.blocks; failing = l.failing ∙ k.failing }

-- a node at its place
keeps_at : (s : ℕ) (w : World) (n m : Node) → m ≡ n → KeepsDisks (w.nodes s) n → KeepsDisks (w.nodes s) m
keeps_at s w n m is keeps = subst (λ (x : Node). KeepsDisks (w.nodes s) x) (sym is) keeps

-- ---- events

again_keeps : (s : ℕ) (w : World) → KeepsDisks (w.nodes s) ((group_again w s).world.nodes s)
again_keeps s w =
    past (λ (v : World). KeepsDisks (w.nodes s) (v.nodes s)) (not (is_plain_group (w.nodes s))) WrongRole w (done (group_back w s)) (keeps_self (w.nodes s))
    (keeps_at s w (group_up (w.nodes s)) _ (at_place w.nodes s (group_up (w.nodes s))) (record { name = refl; disks = refl; blocks = refl; failing = refl }))

from_keeps : (state : SiteState) (s : ℕ) (w : World) → KeepsDisks (w.nodes s) ((group_from state w s).world.nodes s)
from_keeps Bare s w =
    keeps_at s w (group_set s (w.nodes s)) _ (at_place w.nodes s (group_set s (w.nodes s))) (record { name = refl; disks = refl; blocks = refl; failing = refl })
from_keeps Up s w = keeps_self (w.nodes s)
from_keeps Deported s w = again_keeps s w
from_keeps Down s w = again_keeps s w

group_keeps : (s : ℕ) (d : Doubted) → KeepsDisks (d.world.nodes s) ((happened d (GroupAt s) false).world.nodes s)
group_keeps s d =
    let w : World = d.world in
    past_site (λ (v : World). KeepsDisks (w.nodes s) (v.nodes s)) w s (group_from (w.nodes s).state w s) (keeps_self (w.nodes s)) (from_keeps (w.nodes s).state s w)

crash_keeps : (s kept : ℕ) (d : Doubted) → KeepsDisks (d.world.nodes s) ((happened d (CrashAt s kept) false).world.nodes s)
crash_keeps s kept d =
    let w : World = d.world in
    let k : ℕ = kept_of (w.nodes s) kept in
    let o : Outcome = done (crash_at w s k) in
    let n : Node = crashed (w.nodes s) k in
    past_site (λ (v : World). KeepsDisks (w.nodes s) (v.nodes s)) w s (unless (not (is_up (w.nodes s).state)) NotUp w o) (keeps_self (w.nodes s))
    (past (λ (v : World). KeepsDisks (w.nodes s) (v.nodes s)) (not (is_up (w.nodes s).state)) NotUp w o (keeps_self (w.nodes s))
    (keeps_at s w n _ ((crash_turns s w k).nodes s ∙ at_place w.nodes s n) (record { name = refl; disks = refl; blocks = refl; failing = refl })))

deport_keeps : (s : ℕ) (d : Doubted) → KeepsDisks (d.world.nodes s) ((happened d (DeportAt s) false).world.nodes s)
deport_keeps s d =
    let w : World = d.world in
    let o : Outcome = done (deport_at w s) in
    let n : Node = deported_site (w.nodes s).fuse (crashed (w.nodes s) (kept_of (w.nodes s) 0)) in
    past_site (λ (v : World). KeepsDisks (w.nodes s) (v.nodes s)) w s (at_work w s o) (keeps_self (w.nodes s))
    (past_work (λ (v : World). KeepsDisks (w.nodes s) (v.nodes s)) w s o (keeps_self (w.nodes s))
    (keeps_at s w n _ ((deport_turns d s).nodes s ∙ at_place w.nodes s n) (record { name = refl; disks = refl; blocks = refl; failing = refl })))

-- a group that comes up, and then crashes
group_crash : (s : ℕ) (d : Doubted) → KeepsDisks (d.world.nodes s) ((run_as false d (GroupAt s ∷ CrashAt s 0 ∷ [])).world.nodes s)
group_crash s d =
    let e : Doubted = happened d (GroupAt s) false in
    keeps_then (d.world.nodes s) (e.world.nodes s) ((happened e (CrashAt s 0) false).world.nodes s) (group_keeps s d) (crash_keeps s 0 e)

recovery_keeps : (state : SiteState) (s : ℕ) (d : Doubted) → KeepsDisks (d.world.nodes s) ((run_as false d (group_recovery state s)).world.nodes s)
recovery_keeps Bare s d = group_keeps s d
recovery_keeps Up s d =
    let e : Doubted = happened d (CrashAt s 0) false in
    keeps_then (d.world.nodes s) (e.world.nodes s) ((happened e (GroupAt s) false).world.nodes s) (crash_keeps s 0 d) (group_keeps s e)
recovery_keeps Deported s d = group_keeps s d
recovery_keeps Down s d = group_keeps s d

unread_keeps : (state : SiteState) (s : ℕ) (d : Doubted)
    → KeepsDisks (d.world.nodes s) ((run_as false d (group_recovery state s ++ CrashAt s 0 ∷ [])).world.nodes s)
unread_keeps Bare s d = group_crash s d
unread_keeps Up s d =
    let e : Doubted = happened d (CrashAt s 0) false in
    keeps_then (d.world.nodes s) (e.world.nodes s) ((run_as false e (GroupAt s ∷ CrashAt s 0 ∷ [])).world.nodes s) (crash_keeps s 0 d) (group_crash s e)
unread_keeps Deported s d = group_crash s d
unread_keeps Down s d = group_crash s d

first_keeps : (state : SiteState) (s : ℕ) (d : Doubted) → KeepsDisks (d.world.nodes s) ((run_as false d (crash_first state s)).world.nodes s)
first_keeps Bare s d = keeps_self (d.world.nodes s)
first_keeps Up s d = crash_keeps s 0 d
first_keeps Deported s d = keeps_self (d.world.nodes s)
first_keeps Down s d = keeps_self (d.world.nodes s)

events_keep : (n : Node) (s : ℕ) (line : ScriptLine) (d : Doubted) → KeepsDisks (d.world.nodes s) ((run_as false d (group_events n s line)).world.nodes s)
events_keep n s (GroupInit site) d = group_keeps s d
events_keep n s (GroupDeport site) d = deport_keeps s d
events_keep n s (GroupImport site) d = group_keeps s d
events_keep n s (Recover site) d = recovery_keeps n.state s d
events_keep n s (Crash site pick) d = crash_keeps s 0 d
events_keep n s other d = keeps_self (d.world.nodes s)

refused_keep : (n : Node) (s : ℕ) (line : ScriptLine) (d : Doubted) → KeepsDisks (d.world.nodes s) ((run_as false d (refused_events n s line)).world.nodes s)
refused_keep n s (Recover site) d = first_keeps n.state s d
refused_keep n s other d = keeps_self (d.world.nodes s)

cut_keep : (s : ℕ) (line : ScriptLine) (d : Doubted) → KeepsDisks (d.world.nodes s) ((run_as false d (cut_events s line)).world.nodes s)
cut_keep s (GroupImport site) d = group_crash s d
cut_keep s other d = crash_keeps s 0 d

-- ---- notes

fuse_keeps : (s : ℕ) (v : World) (n : Node) → KeepsDisks (v.nodes s) n → KeepsDisks (v.nodes s) ((with_node v s n).nodes s)
fuse_keeps s v n keeps = keeps_at s v n _ (at_place v.nodes s n) keeps

noted_keeps : (s : ℕ) (line : ScriptLine) (v : World) → MakesNoFailure line → KeepsDisks (v.nodes s) ((group_noted s line v).nodes s)
noted_keeps s (Disk site disk state) v none = absurd none
noted_keeps s (Fuse site calls pick) v none = fuse_keeps s v _ (record { name = refl; disks = refl; blocks = refl; failing = refl })
noted_keeps s (Volume site volume blocks mirrors layout log map policy) v none = fuse_keeps s v _ (record { name = refl; disks = refl; blocks = refl; failing = refl })
noted_keeps s (PlexDetach site volume plex) v none = fuse_keeps s v _ (record { name = refl; disks = refl; blocks = refl; failing = refl })
noted_keeps s (PlexAttach site volume plex) v none = fuse_keeps s v _ (record { name = refl; disks = refl; blocks = refl; failing = refl })
noted_keeps s (Write site volume start count fill) v none = fuse_keeps s v _ (record { name = refl; disks = refl; blocks = refl; failing = refl })
noted_keeps s (Put site volume start bytes) v none = fuse_keeps s v _ (record { name = refl; disks = refl; blocks = refl; failing = refl })
noted_keeps s (GroupDeport site) v none = fuse_keeps s v _ (record { name = refl; disks = refl; blocks = refl; failing = refl })
noted_keeps s (GroupImport site) v none = fuse_keeps s v _ (record { name = refl; disks = refl; blocks = refl; failing = refl })
noted_keeps s (Read site volume start count) v none = fuse_keeps s v _ (record { name = refl; disks = refl; blocks = refl; failing = refl })
noted_keeps s (Show site volume start count) v none = fuse_keeps s v _ (record { name = refl; disks = refl; blocks = refl; failing = refl })
noted_keeps s other v none = keeps_self (v.nodes s)

noting_keeps : (s : ℕ) (v : World) (next : GroupNode) → KeepsDisks (v.nodes s) ((noting v s next).nodes s)
noting_keeps s v next =
    fuse_keeps s v (record (v.nodes s) { group = Some next }) (record { name = refl; disks = refl; blocks = refl; failing = refl })

ends_with : (s : ℕ) (line : ScriptLine) (next : GroupNode) (d last new : Doubted) → MakesNoFailure line → KeepsDisks (d.world.nodes s) (last.world.nodes s)
    → IsLeftOver s line next last new → KeepsDisks (d.world.nodes s) (new.world.nodes s)
ends_with s line next d last new none before left =
    let v : World = noting last.world s next in
    let noted : KeepsDisks (last.world.nodes s) ((group_noted s line v).nodes s) =
    keeps_then (last.world.nodes s) (v.nodes s) ((group_noted s line v).nodes s) (noting_keeps s last.world next) (noted_keeps s line v none) in
    subst (λ (x : World). KeepsDisks (d.world.nodes s) (x.nodes s)) (sym left.world)
    (keeps_then (d.world.nodes s) (last.world.nodes s) ((group_noted s line v).nodes s) before noted)

pub group_ends_keep : (told : Type 0) (d : Doubted) (line : ScriptLine) (s : ℕ) (fails : Fails) (said : Said) (new : Doubted) → MakesNoFailure line
    → GroupEnds told d line s fails said new → KeepsDisks (d.world.nodes s) (new.world.nodes s)
group_ends_keep told d line s fails said new none (GroupDone next are does left) =
    ends_with s line next d _ new none (events_keep (d.world.nodes s) s line d) left
group_ends_keep told d line s fails said new none (GroupLacks why wants free says left) = ends_with s line _ d d new none (keeps_self (d.world.nodes s)) left
group_ends_keep told d line s fails said new none (GroupFails disk next are has spoils says left) =
    ends_with s line next d _ new none (refused_keep (d.world.nodes s) s line d) left
group_ends_keep told d line s fails said new none (InitFails disk site is are has says left) =
    subst (λ (x : World). KeepsDisks (d.world.nodes s) (x.nodes s)) (sym left.world) (keeps_self (d.world.nodes s))
group_ends_keep told d line s fails said new none (ImportFails why next site is are refuses begun says left) =
    let v : World = noting d.world s next in
    subst (λ (x : World). KeepsDisks (d.world.nodes s) (x.nodes s)) (sym left.world)
    (keeps_then (d.world.nodes s) (v.nodes s) ((fuse_lost v s).nodes s) (noting_keeps s d.world next)
    (fuse_keeps s v _ (record { name = refl; disks = refl; blocks = refl; failing = refl })))
group_ends_keep told d line s fails said new none (KeptUnread disk next site is are has back says left) =
    ends_with s line next d _ new none (unread_keeps (d.world.nodes s).state s d) left
group_ends_keep told d line s fails said new none (GroupCut next are fused cuts says left) = ends_with s line next d _ new none (cut_keep s line d) left
group_ends_keep told d line s fails said new none (GroupNotFound why next are brings not leaves says left) =
    ends_with s line _ d _ new none (refused_keep (d.world.nodes s) s line d) left
group_ends_keep told d line s fails said new none (FindsGroup next are brings unknown dark says left) =
    ends_with s line next d _ new none (events_keep (d.world.nodes s) s line d) left
group_ends_keep told d line s fails said new none (FindsNoGroup next why are brings unknown free refused says left) =
    ends_with s line next d _ new none (refused_keep (d.world.nodes s) s line d) left
