-- What holds of what each site notes of its group, and of a site that notes none, no event changes, and nor does what a line notes beside its group.
use Rattle.std.proofs.Common.{◌≡◌, ◌∙◌, ℕ, List, [], ◌∷◌, Bool, true, false, refl, sym, subst}
use Rattle.std.specs.Prelude.{leb, ltb, eqb, not, ◌||◌, Option, Some, None, bytes_eq}
use Rattle.vx_model.specs.Sites.{is_bare}
use Rattle.vx_model.specs.Sizes.{is_raw_shape}
use Rattle.vx_model.specs.declared.limits.TheConstants.{MOST_DISKS, MOST_SITES}
use Rattle.vx_model.specs.declared.no.Counted.TheVariants.{Sites, Disks}
use Rattle.vx_model.specs.declared.no.No.TheVariants.{Exists, Limit, Role as WrongRole, Size}
use Rattle.vx_model.specs.declared.site.SiteState.{SiteState}
use Rattle.vx_model.specs.declared.site.SiteState.TheVariants.{Bare, Up, Deported, Down}
use Rattle.vx_history.proofs.Updates.{all_updated, by_test}
use Rattle.vx_history.specs.Doubts.{After, Doubted, Runs, crashed_as, crashed_by, halved, happened, resolved_at, resolved_for, taken_up}
use Rattle.vx_history.specs.Events.{crash_at, group_from, is_plain_group, kept_of, packet_at}
use Rattle.vx_history.specs.Groups.{GroupNode}
use Rattle.vx_history.specs.Refusals.{Outcome, at_work, says, some_below, unless}
use Rattle.vx_history.specs.Step.{done, step}
use Rattle.vx_history.specs.Steps.{burned, group_back, group_set, group_up, raw_made, raw_set, site_made, stopped_by, worked_on}
use Rattle.vx_history.specs.Volumes.{volumes_made, volumes_set}
use Rattle.vx_history.specs.World.{FuseSet, NoFuse, Node, Packet, World, bare_site, updated, with_node}
use Rattle.vx_history.specs.declared.event.Event.{Event}
use Rattle.vx_history.specs.declared.event.Event.TheVariants.{Site, Raw, Group, Volumes}
use Rattle.vx_history.specs.declared.event.Said.TheVariants.{Done}
use Rattle.vx_script.specs.declared.line.ScriptLine.{ScriptLine}
use Rattle.vx_script.specs.declared.line.ScriptLine.TheVariants.{Apply, Deliver, Disk as DiskLine, Fuse as FuseLine, GroupDeport, GroupImport, Link, PlexAttach, PlexDetach, Put, Read, Set, Settle, Show, Volume, Write}
use Rattle.vx_world.proofs.Doubting.{others}
use Rattle.vx_world.proofs.Guards
use Rattle.vx_world.proofs.Rooms.{calm_step, crash_room}
use Rattle.vx_events.specs.Doubts.{IsAs, run_as, with_disks}
use Rattle.vx_events.specs.Ends.{noted}
use Rattle.vx_events.specs.Facts.{site_number}
use Rattle.vx_events.specs.Failing.{is_failing}
use Rattle.vx_events.specs.GroupLines.{group_noted, noting}
use Rattle.vx_events.specs.LinkEnds.{link_noted, target_noted}
use Rattle.vx_events.specs.RvgBack.{fuse_left}
use Rattle.vx_events.specs.Brights.{AllNote}

module _ (P : Option GroupNode → Type 0) (empty : P None) where
  abbrev pub EachAll : World → Type 0
  EachAll w = (i : ℕ) → P (w.nodes i).group

  each_of : (n m : Node) → m.group ≡ n.group → P n.group → P m.group
  each_of n m same here = subst P (sym same) here

  -- ---- worlds in which a site is another node

  pub node_each : (v : World) (s : ℕ) (n : Node) → P n.group → EachAll v → EachAll (with_node v s n)
  node_each v s n here all = all_updated (λ _ (m : Node). P m.group) v.nodes s n here (λ k _. all k)

  pub noting_each : (v : World) (s : ℕ) (next : GroupNode) → P (Some next) → EachAll v → EachAll (noting v s next)
  noting_each v s next known all = node_each v s (record (v.nodes s) { group = Some next }) known all

  pub disks_each : (taken : Bool) (s : ℕ) (w v : World) → EachAll w → EachAll v → EachAll (with_disks taken s w v)
  disks_each true s w v before all = node_each v s (record (v.nodes s) { failing = (w.nodes s).failing; group = (w.nodes s).group }) (before s) all
  disks_each false s w v before all = all

  pub worked_each : (v : World) (s : ℕ) → EachAll v → EachAll (worked_on v s)
  worked_each v s all = node_each v s (record (v.nodes s) { fuse = burned (v.nodes s).fuse }) (all s) all

  failed_each : (v : World) (s disk : ℕ) (b : Bool) → EachAll v → EachAll (with_node v s (record (v.nodes s) { failing = updated (v.nodes s).failing disk b }))
  failed_each v s disk b all = node_each v s (record (v.nodes s) { failing = updated (v.nodes s).failing disk b }) (all s) all

  fused_each : (v : World) (s calls : ℕ) → EachAll v → EachAll (with_node v s (record (v.nodes s) { fuse = FuseSet calls }))
  fused_each v s calls all = node_each v s (record (v.nodes s) { fuse = FuseSet calls }) (all s) all

  pub lost_each : (lost : Bool) (v : World) (s : ℕ) → EachAll v → EachAll (fuse_left lost v s)
  lost_each true v s all = node_each v s (record (v.nodes s) { fuse = NoFuse }) (all s) all
  lost_each false v s all = all

  -- what lines note
  pub noted_each : (s : ℕ) (line : ScriptLine) (v : World) → EachAll v → EachAll (noted s line v)
  noted_each s (DiskLine site disk state) v all = failed_each v s disk (is_failing state) all
  noted_each s (FuseLine site calls pick) v all = fused_each v s calls all
  noted_each s (Write site volume start count fill) v all = worked_each v s all
  noted_each s (Put site volume start bytes) v all = worked_each v s all
  noted_each s (Apply site to) v all = worked_each v s all
  noted_each s other v all = all

  pub group_noted_each : (s : ℕ) (line : ScriptLine) (v : World) → EachAll v → EachAll (group_noted s line v)
  group_noted_each s (DiskLine site disk state) v all = failed_each v s disk (is_failing state) all
  group_noted_each s (FuseLine site calls pick) v all = fused_each v s calls all
  group_noted_each s (Volume site volume blocks mirrors layout log map policy) v all = worked_each v s all
  group_noted_each s (PlexDetach site volume plex) v all = worked_each v s all
  group_noted_each s (PlexAttach site volume plex) v all = worked_each v s all
  group_noted_each s (Write site volume start count fill) v all = worked_each v s all
  group_noted_each s (Put site volume start bytes) v all = worked_each v s all
  group_noted_each s (GroupDeport site) v all = worked_each v s all
  group_noted_each s (GroupImport site) v all = worked_each v s all
  group_noted_each s (Read site volume start count) v all = worked_each v s all
  group_noted_each s (Show site volume start count) v all = worked_each v s all
  group_noted_each s other v all = all

  target_each : (sites : ℕ) (o : Option Packet) (v : World) → EachAll v → EachAll (target_noted sites o v)
  target_each sites None v all = all
  target_each sites (Some p) v all = by_test EachAll (ltb p.target sites) (worked_on v p.target) v (λ _. worked_each v p.target all) (λ _. all)

  pub link_noted_each : (w : World) (line : ScriptLine) (v : World) → EachAll v → EachAll (link_noted w line v)
  link_noted_each w (Link p s sync prot) v all = worked_each (worked_on v (site_number w p)) (site_number w s) (worked_each v (site_number w p) all)
  link_noted_each w (Set p s sync prot) v all = worked_each v (site_number w p) all
  link_noted_each w (Deliver number) v all = target_each w.sites (packet_at w.packets number) v all
  link_noted_each w (Settle p s) v all = worked_each (worked_on v (site_number w p)) (site_number w s) (worked_each v (site_number w p) all)
  link_noted_each w other v all = all

  -- these worlds, with the doubts of d
  pub as_each : (d : Doubted) (v : World) (new : Doubted) → IsAs d v new → EachAll v → AllNote P d → AllNote P new
  as_each d v new is all b = record {
    sites = subst (λ (w : World). EachAll w) (sym is.world) all;
    doubts = λ s a at. b.doubts s a (sym (is.after s) ∙ at);
  }

  -- ---- events

  group_each : (w : World) (q : ℕ) (state : SiteState) → EachAll w → EachAll (group_from state w q).world
  group_each w q Bare all = node_each w q (group_set q (w.nodes q)) (all q) all
  group_each w q Up all = all
  group_each w q Deported all =
      Guards.unless_holds EachAll (not (is_plain_group (w.nodes q))) WrongRole w (says (group_back w q) Done) all (λ _. node_each w q (group_up (w.nodes q)) (all q) all)
  group_each w q Down all =
      Guards.unless_holds EachAll (not (is_plain_group (w.nodes q))) WrongRole w (says (group_back w q) Done) all (λ _. node_each w q (group_up (w.nodes q)) (all q) all)

  event_each : (w : World) (e : Event) → EachAll w → EachAll (step w e).world
  event_each w (Site name disks blocks) all =
      let o : Outcome = done (site_made w name disks blocks) in
      let few : Outcome = unless (eqb disks 0 || ltb blocks 8) Size w o in
      let some : Outcome = unless (ltb MOST_DISKS disks) (Limit Disks MOST_DISKS) w few in
      Guards.unless_holds EachAll (some_below w.sites (λ k. bytes_eq (w.nodes k).name name)) (Exists name) w
      (unless (leb MOST_SITES w.sites) (Limit Sites MOST_SITES) w some) all
      (λ _. Guards.unless_holds EachAll (leb MOST_SITES w.sites) (Limit Sites MOST_SITES) w some all
      (λ _. Guards.unless_holds EachAll (ltb MOST_DISKS disks) (Limit Disks MOST_DISKS) w few all
      (λ _. Guards.unless_holds EachAll (eqb disks 0 || ltb blocks 8) Size w o all
      (λ _. node_each w w.sites (bare_site name disks blocks) empty all))))
  event_each w (Raw q) all =
      let n : Node = w.nodes q in
      let o : Outcome = done (raw_made w q) in
      let shaped : Outcome = unless (not (is_raw_shape n.disks n.blocks)) Size w o in
      Guards.at_site_holds EachAll w q (unless (not (is_bare n.state)) WrongRole w shaped) all
      (λ _. Guards.unless_holds EachAll (not (is_bare n.state)) WrongRole w shaped all
      (λ _. Guards.unless_holds EachAll (not (is_raw_shape n.disks n.blocks)) Size w o all (λ _. node_each w q (raw_set q n) (all q) all)))
  event_each w (Group q) all = Guards.at_site_holds EachAll w q _ all (λ _. group_each w q (w.nodes q).state all)
  event_each w (Volumes q log xs) all =
      let n : Node = w.nodes q in
      let o : Outcome = done (volumes_made w q log xs) in
      let tested : Outcome = unless (not (is_plain_group n)) WrongRole w o in
      Guards.at_site_holds EachAll w q (at_work w q tested) all
      (λ _. Guards.at_work_holds EachAll w q tested all
      (λ _ _. Guards.unless_holds EachAll (not (is_plain_group n)) WrongRole w o all (λ _. node_each w q (volumes_set log xs n) (all q) all)))
  event_each w other all = λ i. each_of (w.nodes i) ((step w other).world.nodes i) (calm_step w i other tt).group (all i)

  -- ---- doubts

  resolved_each : (d : Doubted) (t : ℕ) (taken : Bool) → AllNote P d → AllNote P (resolved_at d t taken)
  resolved_each d t taken b = record {
    sites = by_taken taken;
    doubts = λ s a is. b.doubts s a (others d.after t s a is).1;
  }
    where
      by_after : (o : Option After) → d.after t ≡ o → EachAll (taken_up d.world t o)
      by_after None is = b.sites
      by_after (Some a) is = all_updated (λ _ (m : Node). P m.group) d.world.nodes t a.node (b.doubts t a is) (λ k _. b.sites k)

      by_taken : (c : Bool) → EachAll (resolved_at d t c).world
      by_taken true = by_after (d.after t) refl
      by_taken false = b.sites

  stepped_each : (d : Doubted) (e : Event) → AllNote P d → AllNote P (record d { world = (step d.world e).world })
  stepped_each d e b = record { sites = event_each d.world e b.sites; doubts = b.doubts }

  happened_each : (d : Doubted) (e : Event) (taken : Bool) → AllNote P d → AllNote P (happened d e taken)
  happened_each d e taken b = by_crash (crashed_by e)
    where
      by_crash : (o : Option ℕ) → (let r = resolved_for o d taken in AllNote P (record r { world = (step r.world e).world }))
      by_crash None = stepped_each d e b
      by_crash (Some t) = stepped_each (resolved_at d t taken) e (resolved_each d t taken b)

  pub runs_each : (es : List Event) (d new : Doubted) → AllNote P d → Runs d es new → AllNote P new
  runs_each [] d new b is = subst (λ (e : Doubted). AllNote P e) (sym is) b
  runs_each (e ∷ es) d new b (taken, rest) = runs_each es (happened d e taken) new (happened_each d e taken b) rest

  pub run_each : (taken : Bool) (d : Doubted) (es : List Event) → AllNote P d → AllNote P (run_as taken d es)
  run_each taken d [] b = b
  run_each taken d (e ∷ es) b = run_each taken (happened d e taken) es (happened_each d e taken b)

  stopped_each : (w : World) (s disk : ℕ) → EachAll w → EachAll (stopped_by w s disk)
  stopped_each w s disk all = node_each w s (record (w.nodes s) { halted = Some disk; fuse = burned (w.nodes s).fuse }) (all s) all

  pub halved_each : (d : Doubted) (e : Event) (site disk : ℕ) → AllNote P d → AllNote P (halved d e site disk)
  halved_each d e site disk b =
      let next : World = (step d.world e).world in
      let mine : After = record { node = (stopped_by next site disk).nodes site; row = next.links site } in
      let may : P mine.node.group = stopped_each next site disk (event_each d.world e b.sites) site in
      record {
        sites = stopped_each d.world site disk b.sites;
        doubts = λ s a is.
            all_updated (λ k (o : Option After). o ≡ Some a → P a.node.group) d.after site (Some mine)
            (λ same. let here : mine ≡ a = cc in subst (λ (x : After). P x.node.group) here may) (λ k _ same. b.doubts k a same) s is;
      }

  pub crashed_each : (d : Doubted) (s kept : ℕ) (taken : Bool) → AllNote P d → AllNote P (crashed_as d s kept taken)
  crashed_each d s kept taken b =
      let r : Doubted = resolved_at d s taken in
      let k : ℕ = kept_of (r.world.nodes s) kept in
      let c : AllNote P r = resolved_each d s taken b in
      record {
        sites = λ i. each_of (r.world.nodes i) ((crash_at r.world s k).nodes i) (crash_room r.world i s k).group (c.sites i);
        doubts = c.doubts;
      }
