-- No event changes what a site that is more than bare notes of its group, and nor does what a line notes beside it.
use Rattle.std.proofs.Common.{◌≡◌, ◌∙◌, ℕ, List, [], ◌∷◌, Bool, true, false, refl, sym, subst}
use Rattle.std.specs.Prelude.{ltb, eqb, not, Option, Some, None}
use Rattle.vx_model.specs.declared.no.No.TheVariants.{Role as WrongRole}
use Rattle.vx_history.proofs.GoodLemmas.{up_is_made}
use Rattle.vx_history.proofs.Updates.{by_test, eqb_equal}
use Rattle.vx_history.specs.Doubts.{After, Doubted, Runs, crashed_as, crashed_by, halved, happened, resolved_at, resolved_for, taken_up}
use Rattle.vx_history.specs.Events.{is_plain_group, kept_of, packet_at}
use Rattle.vx_history.specs.Good.{IsMade}
use Rattle.vx_history.specs.Groups.{GroupNode}
use Rattle.vx_history.specs.Refusals.{Outcome, at_work, unless}
use Rattle.vx_history.specs.Sound.{Sound}
use Rattle.vx_history.specs.Step.{done, step}
use Rattle.vx_history.specs.Steps.{burned, stopped_by, worked_on}
use Rattle.vx_history.specs.Volumes.{volumes_made, volumes_set}
use Rattle.vx_history.specs.World.{FuseSet, NoFuse, Node, Packet, World, updated, with_node}
use Rattle.vx_history.specs.declared.event.Event.{Event}
use Rattle.vx_history.specs.declared.event.Event.TheVariants.{Volumes}
use Rattle.vx_script.specs.declared.line.ScriptLine.{ScriptLine}
use Rattle.vx_script.specs.declared.line.ScriptLine.TheVariants.{Apply, Deliver, Disk as DiskLine, Fuse as FuseLine, GroupDeport, GroupImport, Link, PlexAttach, PlexDetach, Put, Read, Set, Settle, Show, Volume, Write}
use Rattle.vx_world.proofs.Doubting.{happened_good, others, resolve_good, world_good}
use Rattle.vx_world.proofs.Grows.{step_grows}
use Rattle.vx_world.proofs.Guards
use Rattle.vx_world.proofs.Rooms.{MakesNothing, calm_step, crash_room, step_room}
use Rattle.vx_world.specs.Lines.{GoodDoubted}
use Rattle.vx_events.specs.Doubts.{IsAs, run_as, with_disks}
use Rattle.vx_events.specs.Ends.{noted}
use Rattle.vx_events.specs.Facts.{site_number}
use Rattle.vx_events.specs.Failing.{is_failing}
use Rattle.vx_events.specs.GroupLines.{group_noted, noting}
use Rattle.vx_events.specs.LinkEnds.{link_noted, target_noted}
use Rattle.vx_events.specs.RvgBack.{fuse_left}
use Rattle.vx_settling.specs.OtherNotes.{HasNote}

-- a good world in which site i is more than bare and notes this
pub record Standing (i : ℕ) (o : Option GroupNode) (d : Doubted) : Type 0 where
  pub good : GoodDoubted d
  pub made : IsMade (d.world.nodes i)
  pub has : HasNote i o d

module _ (i : ℕ) (o : Option GroupNode) where
  abbrev pub Notes : World → Type 0
  Notes v = (v.nodes i).group ≡ o

  -- ---- worlds in which a site is another node

  -- one that notes the same of its group
  pub node_notes : (v : World) (s : ℕ) (n : Node) → n.group ≡ (v.nodes s).group → Notes v → Notes (with_node v s n)
  node_notes v s n same h =
      by_test (λ (m : Node). m.group ≡ o) (eqb i s) n (v.nodes i) (λ e. same ∙ subst (λ (k : ℕ). (v.nodes k).group ≡ o) (eqb_equal i s e) h) (λ _. h)

  -- or another site than this
  pub apart_notes : (v : World) (s : ℕ) (n : Node) → eqb i s ≡ false → Notes v → Notes (with_node v s n)
  apart_notes v s n apart h =
      by_test (λ (m : Node). m.group ≡ o) (eqb i s) n (v.nodes i) (λ e. absurd (let f : true ≡ false = sym e ∙ apart in cc)) (λ _. h)

  pub noting_notes : (v : World) (s : ℕ) (next : GroupNode) → eqb i s ≡ false → Notes v → Notes (noting v s next)
  noting_notes v s next apart h = apart_notes v s (record (v.nodes s) { group = Some next }) apart h

  pub disks_notes : (taken : Bool) (s : ℕ) (w v : World) → Notes w → Notes v → Notes (with_disks taken s w v)
  disks_notes true s w v before h =
      let n : Node = record (v.nodes s) { failing = (w.nodes s).failing; group = (w.nodes s).group } in
      by_test (λ (m : Node). m.group ≡ o) (eqb i s) n (v.nodes i) (λ e. subst (λ (k : ℕ). (w.nodes k).group ≡ o) (eqb_equal i s e) before) (λ _. h)
  disks_notes false s w v before h = h

  pub worked_notes : (v : World) (s : ℕ) → Notes v → Notes (worked_on v s)
  worked_notes v s h = node_notes v s (record (v.nodes s) { fuse = burned (v.nodes s).fuse }) refl h

  failed_notes : (v : World) (s disk : ℕ) (b : Bool) → Notes v → Notes (with_node v s (record (v.nodes s) { failing = updated (v.nodes s).failing disk b }))
  failed_notes v s disk b h = node_notes v s (record (v.nodes s) { failing = updated (v.nodes s).failing disk b }) refl h

  fused_notes : (v : World) (s calls : ℕ) → Notes v → Notes (with_node v s (record (v.nodes s) { fuse = FuseSet calls }))
  fused_notes v s calls h = node_notes v s (record (v.nodes s) { fuse = FuseSet calls }) refl h

  pub lost_notes : (lost : Bool) (v : World) (s : ℕ) → Notes v → Notes (fuse_left lost v s)
  lost_notes true v s h = node_notes v s (record (v.nodes s) { fuse = NoFuse }) refl h
  lost_notes false v s h = h

  stopped_notes : (w : World) (s disk : ℕ) → Notes w → Notes (stopped_by w s disk)
  stopped_notes w s disk h = node_notes w s (record (w.nodes s) { halted = Some disk; fuse = burned (w.nodes s).fuse }) refl h

  -- what lines note beside it
  pub noted_notes : (s : ℕ) (line : ScriptLine) (v : World) → Notes v → Notes (noted s line v)
  noted_notes s (DiskLine site disk state) v h = failed_notes v s disk (is_failing state) h
  noted_notes s (FuseLine site calls pick) v h = fused_notes v s calls h
  noted_notes s (Write site volume start count fill) v h = worked_notes v s h
  noted_notes s (Put site volume start bytes) v h = worked_notes v s h
  noted_notes s (Apply site to) v h = worked_notes v s h
  noted_notes s other v h = h

  pub group_noted_notes : (s : ℕ) (line : ScriptLine) (v : World) → Notes v → Notes (group_noted s line v)
  group_noted_notes s (DiskLine site disk state) v h = failed_notes v s disk (is_failing state) h
  group_noted_notes s (FuseLine site calls pick) v h = fused_notes v s calls h
  group_noted_notes s (Volume site volume blocks mirrors layout log map policy) v h = worked_notes v s h
  group_noted_notes s (PlexDetach site volume plex) v h = worked_notes v s h
  group_noted_notes s (PlexAttach site volume plex) v h = worked_notes v s h
  group_noted_notes s (Write site volume start count fill) v h = worked_notes v s h
  group_noted_notes s (Put site volume start bytes) v h = worked_notes v s h
  group_noted_notes s (GroupDeport site) v h = worked_notes v s h
  group_noted_notes s (GroupImport site) v h = worked_notes v s h
  group_noted_notes s (Read site volume start count) v h = worked_notes v s h
  group_noted_notes s (Show site volume start count) v h = worked_notes v s h
  group_noted_notes s other v h = h

  target_notes : (sites : ℕ) (p : Option Packet) (v : World) → Notes v → Notes (target_noted sites p v)
  target_notes sites None v h = h
  target_notes sites (Some p) v h = by_test Notes (ltb p.target sites) (worked_on v p.target) v (λ _. worked_notes v p.target h) (λ _. h)

  pub link_noted_notes : (w : World) (line : ScriptLine) (v : World) → Notes v → Notes (link_noted w line v)
  link_noted_notes w (Link p s sync prot) v h = worked_notes (worked_on v (site_number w p)) (site_number w s) (worked_notes v (site_number w p) h)
  link_noted_notes w (Set p s sync prot) v h = worked_notes v (site_number w p) h
  link_noted_notes w (Deliver number) v h = target_notes w.sites (packet_at w.packets number) v h
  link_noted_notes w (Settle p s) v h = worked_notes (worked_on v (site_number w p)) (site_number w s) (worked_notes v (site_number w p) h)
  link_noted_notes w other v h = h

  -- these worlds, with the doubts of d
  pub as_notes : (d : Doubted) (v : World) (new : Doubted) → IsAs d v new → Notes v → HasNote i o d → HasNote i o new
  as_notes d v new is here h = record {
    note = subst (λ (w : World). Notes w) (sym is.world) here;
    doubt = λ a at. h.doubt a (sym (is.after i) ∙ at);
  }

  -- ---- events

  event_notes : (w : World) (e : Event) → Sound w → IsMade (w.nodes i) → Notes w → Notes (step w e).world
  event_notes w (Volumes q log xs) s made h =
      let n : Node = w.nodes q in
      let last : Outcome = done (volumes_made w q log xs) in
      let tested : Outcome = unless (not (is_plain_group n)) WrongRole w last in
      Guards.at_site_holds Notes w q (at_work w q tested) h
      (λ _. Guards.at_work_holds Notes w q tested h
      (λ _ _. Guards.unless_holds Notes (not (is_plain_group n)) WrongRole w last h (λ _. node_notes w q (volumes_set log xs n) refl h)))
  event_notes w other s made h = (step_room w i s made other tt).group ∙ h

  -- one that makes nothing, of any world
  pub calm_notes : (w : World) (e : Event) → MakesNothing e → Notes w → Notes (step w e).world
  calm_notes w e calm h = (calm_step w i e calm).group ∙ h

  -- the site in doubt that may be this one
  taken_notes : (d : Doubted) (t : ℕ) (a : After) → d.after t ≡ Some a → HasNote i o d → (updated d.world.nodes t a.node i).group ≡ o
  taken_notes d t a is h =
      by_test (λ (m : Node). m.group ≡ o) (eqb i t) a.node (d.world.nodes i) (λ e. h.doubt a (subst (λ (k : ℕ). d.after k ≡ Some a) (sym (eqb_equal i t e)) is)) (λ _. h.note)

  resolved_notes : (d : Doubted) (t : ℕ) (taken : Bool) → HasNote i o d → HasNote i o (resolved_at d t taken)
  resolved_notes d t taken h = record {
    note = by_taken taken;
    doubt = λ a is. h.doubt a (others d.after t i a is).1;
  }
    where
      by_after : (x : Option After) → d.after t ≡ x → Notes (taken_up d.world t x)
      by_after None is = h.note
      by_after (Some a) is = taken_notes d t a is h

      by_taken : (c : Bool) → Notes (resolved_at d t c).world
      by_taken true = by_after (d.after t) refl
      by_taken false = h.note

  resolved_made : (d : Doubted) (t : ℕ) (taken : Bool) → GoodDoubted d → IsMade (d.world.nodes i) → IsMade ((resolved_at d t taken).world.nodes i)
  resolved_made d t false g made = made
  resolved_made d t true g made = by_after (d.after t) refl
    where
      by_after : (x : Option After) → d.after t ≡ x → IsMade ((taken_up d.world t x).nodes i)
      by_after None is = made
      by_after (Some a) is = by_test (λ (m : Node). IsMade m) (eqb i t) a.node (d.world.nodes i) (λ _. up_is_made a.node (g.doubts t a is).up_too) (λ _. made)

  -- an event that is done, of a world in which the site stands
  stepped_has : (d : Doubted) (e : Event) → Standing i o d → HasNote i o (record d { world = (step d.world e).world })
  stepped_has d e x = record { note = event_notes d.world e (world_good d x.good).sound x.made x.has.note; doubt = x.has.doubt }

  stepped_made : (d : Doubted) (e : Event) → Standing i o d → IsMade ((step d.world e).world.nodes i)
  stepped_made d e x = (step_grows d.world e (world_good d x.good).sound).made i x.made

  resolved_stands : (d : Doubted) (t : ℕ) (taken : Bool) → Standing i o d → Standing i o (resolved_at d t taken)
  resolved_stands d t taken x = record {
    good = resolve_good d t taken x.good;
    made = resolved_made d t taken x.good x.made;
    has = resolved_notes d t taken x.has;
  }

  happened_stands : (d : Doubted) (e : Event) (taken : Bool) → Standing i o d → Standing i o (happened d e taken)
  happened_stands d e taken x = record {
    good = happened_good d e taken x.good;
    made = by_made (crashed_by e);
    has = by_crash (crashed_by e);
  }
    where
      by_made : (t : Option ℕ) → (let r = resolved_for t d taken in IsMade ((step r.world e).world.nodes i))
      by_made None = stepped_made d e x
      by_made (Some t) = stepped_made (resolved_at d t taken) e (resolved_stands d t taken x)

      by_crash : (t : Option ℕ) → (let r = resolved_for t d taken in HasNote i o (record r { world = (step r.world e).world }))
      by_crash None = stepped_has d e x
      by_crash (Some t) = stepped_has (resolved_at d t taken) e (resolved_stands d t taken x)

  pub runs_stand : (es : List Event) (d new : Doubted) → Standing i o d → Runs d es new → Standing i o new
  runs_stand [] d new x is = subst (λ (e : Doubted). Standing i o e) (sym is) x
  runs_stand (e ∷ es) d new x (taken, rest) = runs_stand es (happened d e taken) new (happened_stands d e taken x) rest

  pub run_stands : (taken : Bool) (d : Doubted) (es : List Event) → Standing i o d → Standing i o (run_as taken d es)
  run_stands taken d [] x = x
  run_stands taken d (e ∷ es) x = run_stands taken (happened d e taken) es (happened_stands d e taken x)

  pub halved_notes : (d : Doubted) (e : Event) (site disk : ℕ) → Standing i o d → HasNote i o (halved d e site disk)
  halved_notes d e site disk x =
      let next : World = (step d.world e).world in
      let mine : After = record { node = (stopped_by next site disk).nodes site; row = next.links site } in
      let may : Notes (stopped_by next site disk) = stopped_notes next site disk (event_notes d.world e (world_good d x.good).sound x.made x.has.note) in
      record {
        note = stopped_notes d.world site disk x.has.note;
        doubt = λ a is.
            by_test (λ (p : Option After). p ≡ Some a → a.node.group ≡ o) (eqb i site) (Some mine) (d.after i)
            (λ e same.
            let here : mine ≡ a = cc in
            subst (λ (y : After). y.node.group ≡ o) here (subst (λ (k : ℕ). ((stopped_by next site disk).nodes k).group ≡ o) (eqb_equal i site e) may))
            (λ _ same. x.has.doubt a same) is;
      }

  -- an event of another site that a disk ended
  pub halved_apart : (d : Doubted) (e : Event) (site disk : ℕ) → eqb i site ≡ false → HasNote i o d → HasNote i o (halved d e site disk)
  halved_apart d e site disk apart h = record {
    note = stopped_notes d.world site disk h.note;
    doubt = λ a is.
        by_test (λ (p : Option After). p ≡ Some a → a.node.group ≡ o) (eqb i site)
        (Some (record { node = (stopped_by (step d.world e).world site disk).nodes site; row = (step d.world e).world.links site })) (d.after i)
        (λ same. absurd (let f : true ≡ false = sym same ∙ apart in cc)) (λ _ same. h.doubt a same) is;
  }

  pub crashed_notes : (d : Doubted) (s kept : ℕ) (taken : Bool) → HasNote i o d → HasNote i o (crashed_as d s kept taken)
  crashed_notes d s kept taken h =
      let r : Doubted = resolved_at d s taken in
      let k : ℕ = kept_of (r.world.nodes s) kept in
      let c : HasNote i o r = resolved_notes d s taken h in
      record { note = (crash_room r.world i s k).group ∙ c.note; doubt = c.doubt }
