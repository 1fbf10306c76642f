-- How a line over a group of disks ends changes its own site alone.
use Rattle.std.proofs.Common.{◌≡◌, ◌∙◌, ◌+◌, ℕ, List, false, refl, ap, sym, arith, ◌++◌, ◌∷◌, []}
use Rattle.std.specs.Prelude.{not, Option, None}
use Rattle.vx_model.specs.declared.no.No.TheVariants.{Role as WrongRole, Down as NotUp}
use Rattle.vx_model.specs.declared.site.SiteState.{SiteState}
use Rattle.vx_model.specs.declared.site.SiteState.TheVariants.{Bare, Up, Deported, Down}
use Rattle.vx_model.specs.Sites.{is_up}
use Rattle.vx_history.specs.Doubts.{Doubted, happened}
use Rattle.vx_history.specs.Events.{crash_at, deport_at, group_again, group_from, is_plain_group, kept_of}
use Rattle.vx_history.specs.Groups.{GroupNode}
use Rattle.vx_history.specs.Refusals.{Outcome, at_work, unless}
use Rattle.vx_history.specs.Step.{done, outcome_of}
use Rattle.vx_history.specs.Steps.{group_back, group_up}
use Rattle.vx_history.specs.World.{Gathering, Link, Node, Packet, World, with_node}
use Rattle.vx_history.specs.declared.event.Event.TheVariants.{Crash as CrashAt, Deport as DeportAt, Group as GroupAt}
use Rattle.vx_script.specs.declared.line.ScriptLine.{ScriptLine}
use Rattle.vx_script.specs.declared.line.ScriptLine.TheVariants.{GroupInit, GroupDeport, GroupImport, Volume, PlexDetach, PlexAttach, Disk, Crash, Fuse, Recover, Write, Put, Read, Show}
use Rattle.vx_events.proofs.Keeping.{past, past_site, past_work}
use Rattle.vx_events.specs.Doubts.{IsAs, run_as}
use Rattle.vx_events.specs.Effects.{ChangesNode}
use Rattle.vx_events.specs.Fails.{Fails}
use Rattle.vx_events.specs.GroupEnds.{GroupEnds, GroupDone, GroupLacks, GroupFails, InitFails, ImportFails, KeptUnread, GroupCut, GroupNotFound, FindsGroup, FindsNoGroup, IsLeftOver}
use Rattle.vx_events.specs.GroupLines.{crash_first, cut_events, fuse_lost, group_events, group_noted, group_recovery, noting, refused_events}
use Rattle.vx_events.specs.declared.said.Said.{Said}
use Rattle.vx_effects.proofs.Effects.{Turns, changes_same, changes_then, crash_turns}
use Rattle.vx_effects.proofs.Fitting.{updated_other}
use Rattle.vx_effects.proofs.Groups.{deport_turns}

-- a world of which each other site is as it was
record Aside (s : ℕ) (w v : World) : Type 0 where
  sites : v.sites ≡ w.sites
  nodes : (i : ℕ) → (i ≡ s → ⊥) → v.nodes i ≡ w.nodes i
  links : (i k : ℕ) → (i ≡ s → ⊥) → v.links i k ≡ w.links i k
  headers : (i : ℕ) → v.headers i ≡ w.headers i
  gathering : (i : ℕ) → (i ≡ s → ⊥) → v.gathering i ≡ w.gathering i

aside_same : (s : ℕ) (w : World) → Aside s w w
aside_same s w = record { sites = refl; nodes = λ i _. refl; links = λ i k _. refl; headers = λ i. refl; gathering = λ i _. refl }

aside_node : (s : ℕ) (w : World) (n : Node) → Aside s w (with_node w s n)
aside_node s w n = record {
  sites = refl;
  nodes = λ i apart. updated_other w.nodes s i n apart;
  links = λ i k _. refl;
  headers = λ i. refl;
  gathering = λ i _. refl;
}

aside_then : (s : ℕ) (w v u : World) → Aside s w v → Aside s v u → Aside s w u
aside_then s w v u a b = record {
  sites = b.sites ∙ a.sites;
  nodes = λ i apart. b.nodes i apart ∙ a.nodes i apart;
  links = λ i k apart. b.links i k apart ∙ a.links i k apart;
  headers = λ i. b.headers i ∙ a.headers i;
  gathering = λ i apart. b.gathering i apart ∙ a.gathering i apart;
}

aside_turns : (s : ℕ) (w v : World) {n : Node} {row : ℕ → Link} {packets : List Packet} {gathered : Option Gathering} → Turns s w v n row packets gathered → Aside s w v
aside_turns s w v {n} {row} {packets} {gathered} t = record {
  sites = t.sites;
  nodes = λ i apart. t.nodes i ∙ updated_other w.nodes s i n apart;
  links = λ i k apart. t.links i k ∙ ap (λ (r : ℕ → Link). r k) (updated_other w.links s i row apart);
  headers = t.headers;
  gathering = λ i apart. t.gathering i ∙ updated_other w.gathering s i gathered apart;
}

-- ---- events

again_aside : (s : ℕ) (w : World) → Aside s w (group_again w s).world
again_aside s w = past (Aside s w) (not (is_plain_group (w.nodes s))) WrongRole w (done (group_back w s)) (aside_same s w) (aside_node s w (group_up (w.nodes s)))

from_aside : (state : SiteState) (s : ℕ) (w : World) → Aside s w (group_from state w s).world
from_aside Bare s w = record {
  sites = refl;
  nodes = λ i apart. updated_other w.nodes s i _ apart;
  links = λ i k _. refl;
  headers = λ i. refl;
  gathering = λ i _. refl;
}
from_aside Up s w = aside_same s w
from_aside Deported s w = again_aside s w
from_aside Down s w = again_aside s w

group_aside : (s : ℕ) (w : World) → Aside s w (outcome_of w (GroupAt s)).world
group_aside s w = past_site (Aside s w) w s (group_from (w.nodes s).state w s) (aside_same s w) (from_aside (w.nodes s).state s w)

crash_aside : (s kept : ℕ) (w : World) → Aside s w (outcome_of w (CrashAt s kept)).world
crash_aside s kept w =
    let o : Outcome = done (crash_at w s (kept_of (w.nodes s) kept)) in
    past_site (Aside s w) w s (unless (not (is_up (w.nodes s).state)) NotUp w o) (aside_same s w)
    (past (Aside s w) (not (is_up (w.nodes s).state)) NotUp w o (aside_same s w) (aside_turns s w (crash_at w s (kept_of (w.nodes s) kept)) (crash_turns s w (kept_of (w.nodes s) kept))))

deport_aside : (s : ℕ) (d : Doubted) → Aside s d.world (outcome_of d.world (DeportAt s)).world
deport_aside s d =
    let w : World = d.world in
    let o : Outcome = done (deport_at w s) in
    past_site (Aside s w) w s (at_work w s o) (aside_same s w)
    (past_work (Aside s w) w s o (aside_same s w) (aside_turns s w (deport_at w s) (deport_turns d s)))

-- ---- what is in doubt

plus_none : (a : ℕ) → a + 0 ≡ a
plus_none a = omega arith

crash_changes : (s kept : ℕ) (d : Doubted) → ChangesNode s d (happened d (CrashAt s kept) false)
crash_changes s kept d =
    let a : Aside s d.world (outcome_of d.world (CrashAt s kept)).world = crash_aside s kept d.world in
    record {
      sites = a.sites;
      nodes = a.nodes;
      links = a.links;
      headers = λ i apart. plus_none (d.world.headers i);
      after = λ i apart. updated_other d.after s i None apart;
      strayed = λ calm. calm;
      gathering = a.gathering;
    }

group_changes : (s : ℕ) (d : Doubted) → ChangesNode s d (happened d (GroupAt s) false)
group_changes s d =
    let a : Aside s d.world (outcome_of d.world (GroupAt s)).world = group_aside s d.world in
    record { sites = a.sites; nodes = a.nodes; links = a.links; headers = λ i apart. plus_none (d.world.headers i); after = λ i apart. refl; strayed = λ calm. calm; gathering = a.gathering }

deport_changes : (s : ℕ) (d : Doubted) → ChangesNode s d (happened d (DeportAt s) false)
deport_changes s d =
    let a : Aside s d.world (outcome_of d.world (DeportAt s)).world = deport_aside s d in
    record { sites = a.sites; nodes = a.nodes; links = a.links; headers = λ i apart. plus_none (d.world.headers i); after = λ i apart. refl; strayed = λ calm. calm; gathering = a.gathering }

recovery_changes : (state : SiteState) (s : ℕ) (d : Doubted) → ChangesNode s d (run_as false d (group_recovery state s))
recovery_changes Bare s d = group_changes s d
recovery_changes Up s d =
    let e : Doubted = happened d (CrashAt s 0) false in changes_then s d e (happened e (GroupAt s) false) (crash_changes s 0 d) (group_changes s e)
recovery_changes Deported s d = group_changes s d
recovery_changes Down s d = group_changes s d

events_change : (n : Node) (s : ℕ) (line : ScriptLine) (d : Doubted) → ChangesNode s d (run_as false d (group_events n s line))
events_change n s (GroupInit site) d = group_changes s d
events_change n s (GroupDeport site) d = deport_changes s d
events_change n s (GroupImport site) d = group_changes s d
events_change n s (Recover site) d = recovery_changes n.state s d
events_change n s (Crash site pick) d = crash_changes s 0 d
events_change n s other d = changes_same s d

first_changes : (state : SiteState) (s : ℕ) (d : Doubted) → ChangesNode s d (run_as false d (crash_first state s))
first_changes Bare s d = changes_same s d
first_changes Up s d = crash_changes s 0 d
first_changes Deported s d = changes_same s d
first_changes Down s d = changes_same s d

refused_change : (n : Node) (s : ℕ) (line : ScriptLine) (d : Doubted) → ChangesNode s d (run_as false d (refused_events n s line))
refused_change n s (Recover site) d = first_changes n.state s d
refused_change n s other d = changes_same s d

-- a site that came up crashes
unread_changes : (state : SiteState) (s : ℕ) (d : Doubted) → ChangesNode s d (run_as false d (group_recovery state s ++ CrashAt s 0 ∷ []))
unread_changes Bare s d =
    let e : Doubted = happened d (GroupAt s) false in changes_then s d e (happened e (CrashAt s 0) false) (group_changes s d) (crash_changes s 0 e)
unread_changes Up s d =
    let c : Doubted = happened d (CrashAt s 0) false in
    let e : Doubted = happened c (GroupAt s) false in
    changes_then s d c (happened e (CrashAt s 0) false) (crash_changes s 0 d)
    (changes_then s c e (happened e (CrashAt s 0) false) (group_changes s c) (crash_changes s 0 e))
unread_changes Deported s d =
    let e : Doubted = happened d (GroupAt s) false in changes_then s d e (happened e (CrashAt s 0) false) (group_changes s d) (crash_changes s 0 e)
unread_changes Down s d =
    let e : Doubted = happened d (GroupAt s) false in changes_then s d e (happened e (CrashAt s 0) false) (group_changes s d) (crash_changes s 0 e)

cut_changes : (s : ℕ) (line : ScriptLine) (d : Doubted) → ChangesNode s d (run_as false d (cut_events s line))
cut_changes s (GroupImport site) d =
    let e : Doubted = happened d (GroupAt s) false in changes_then s d e (happened e (CrashAt s 0) false) (group_changes s d) (crash_changes s 0 e)
cut_changes s other d = crash_changes s 0 d

-- ---- notes

noted_aside : (s : ℕ) (line : ScriptLine) (v : World) → Aside s v (group_noted s line v)
noted_aside s (Disk site disk state) v = aside_node s v _
noted_aside s (Fuse site calls pick) v = aside_node s v _
noted_aside s (Volume site volume blocks mirrors layout log map policy) v = aside_node s v _
noted_aside s (PlexDetach site volume plex) v = aside_node s v _
noted_aside s (PlexAttach site volume plex) v = aside_node s v _
noted_aside s (Write site volume start count fill) v = aside_node s v _
noted_aside s (Put site volume start bytes) v = aside_node s v _
noted_aside s (GroupDeport site) v = aside_node s v _
noted_aside s (GroupImport site) v = aside_node s v _
noted_aside s (Read site volume start count) v = aside_node s v _
noted_aside s (Show site volume start count) v = aside_node s v _
noted_aside s other v = aside_same s v

-- a world to which that of events came, with notes of the site
left_by : (s : ℕ) (last new : Doubted) (v : World) → Aside s last.world v → IsAs last v new → ChangesNode s last new
left_by s last new v a is = record {
  sites = ap (λ (x : World). x.sites) is.world ∙ a.sites;
  nodes = λ i apart. ap (λ (x : World). x.nodes i) is.world ∙ a.nodes i apart;
  links = λ i k apart. ap (λ (x : World). x.links i k) is.world ∙ a.links i k apart;
  headers = λ i apart. ap (λ (x : World). x.headers i) is.world ∙ a.headers i;
  after = λ i apart. is.after i;
  strayed = λ calm. sym is.strayed ∙ calm;
  gathering = λ i apart. ap (λ (x : World). x.gathering i) is.world ∙ a.gathering i apart;
}

left_changes : (s : ℕ) (line : ScriptLine) (next : GroupNode) (last new : Doubted) → IsLeftOver s line next last new → ChangesNode s last new
left_changes s line next last new is =
    let v : World = noting last.world s next in
    left_by s last new (group_noted s line v) (aside_then s last.world v (group_noted s line v) (aside_node s last.world _) (noted_aside s line v)) is

ends_by : (s : ℕ) (line : ScriptLine) (next : GroupNode) (d last new : Doubted) → ChangesNode s d last → IsLeftOver s line next last new → ChangesNode s d new
ends_by s line next d last new before left = changes_then s d last new before (left_changes s line next last new left)

pub group_ends_change : (told : Type 0) (d : Doubted) (line : ScriptLine) (s : ℕ) (fails : Fails) (said : Said) (new : Doubted) → GroupEnds told d line s fails said new
    → ChangesNode s d new
group_ends_change told d line s fails said new (GroupDone next are does left) =
    ends_by s line next d _ new (events_change (d.world.nodes s) s line d) left
group_ends_change told d line s fails said new (GroupLacks why wants none says left) = ends_by s line _ d d new (changes_same s d) left
group_ends_change told d line s fails said new (GroupFails disk next are has spoils says left) =
    ends_by s line next d _ new (refused_change (d.world.nodes s) s line d) left
group_ends_change told d line s fails said new (InitFails disk site is are has says left) = left_by s d new d.world (aside_same s d.world) left
group_ends_change told d line s fails said new (KeptUnread disk next site is are has back says left) =
    ends_by s line next d _ new (unread_changes (d.world.nodes s).state s d) left
group_ends_change told d line s fails said new (GroupCut next are fused cuts says left) = ends_by s line next d _ new (cut_changes s line d) left
group_ends_change told d line s fails said new (ImportFails why next site is are refuses begun says left) =
    left_by s d new (fuse_lost (noting d.world s next) s)
    (aside_then s d.world (noting d.world s next) (fuse_lost (noting d.world s next) s) (aside_node s d.world _) (aside_node s (noting d.world s next) _)) left
group_ends_change told d line s fails said new (GroupNotFound why next are brings not leaves says left) =
    ends_by s line _ d _ new (refused_change (d.world.nodes s) s line d) left
group_ends_change told d line s fails said new (FindsGroup next are brings unknown dark says left) =
    ends_by s line next d _ new (events_change (d.world.nodes s) s line d) left
group_ends_change told d line s fails said new (FindsNoGroup next why are brings unknown free refused says left) =
    ends_by s line next d _ new (refused_change (d.world.nodes s) s line d) left
