-- What a recovery is done from, where a replicated volume group is found over a group of which nothing was known.
use Rattle.std.proofs.Common.{◌≡◌, ◌∙◌, ⊎_elim, ℕ, Bool, false, List, [], ap, sym, subst, refl, arith, IsTrue}
use Rattle.std.specs.Prelude.{Option, Some, None, Result, Ok, Err, slice_get, slice_set, unwrap_or}
use Rattle.vx_model.specs.declared.errors.OutOfMemory.{OutOfMemory}
use Rattle.vx_model.specs.declared.errors.Stop.{Stop}
use Rattle.vx_model.specs.declared.errors.Stop.TheVariants.{No as StopsBy, OutOfMemory as MemoryStop}
use Rattle.vx_model.specs.declared.no.No.TheVariants.{Device}
use Rattle.vx_model.specs.declared.site.SiteState.{SiteState}
use Rattle.vx_model.specs.declared.site.SiteState.TheVariants.{Up as IsUp, Down as IsDown}
use Rattle.vx_disk.specs.declared.shelf.Shelf.{Ghosts}
use Rattle.vx_history.specs.Doubts.{Doubted, happened}
use Rattle.vx_history.specs.Groups.{GroupNode}
use Rattle.vx_history.specs.Steps.{burned}
use Rattle.vx_history.specs.World.{Fuse, Node, NoFuse}
use Rattle.vx_history.specs.declared.event.Event.TheVariants.{Crash as CrashAt}
use Rattle.vx_order.specs.declared.facts.SiteFacts.{SiteFacts}
use Rattle.vx_report.specs.declared.view.Kept.{Kept}
use Rattle.vx_report.specs.declared.view.SiteView.{SiteView}
use Rattle.vx_script.specs.declared.line.ScriptLine.TheVariants.{Recover}
use Rattle.vx_effects.specs.Facts.{down_fact}
use Rattle.vx_grouped.specs.GroupSites.{DownNoted, site_below, site_config}
use Rattle.vx_diskset.specs.Aboves.{site_in}
use Rattle.vx_diskset.specs.Asked.{SameFailing}
use Rattle.vx_diskset.specs.GroupCalls.{AtSite, config_in, core_in}
use Rattle.vx_diskset.specs.Holds.{beside_of}
use Rattle.vx_diskset.specs.OverRises.{FoundAgain, FoundOver, KnowsLess, LookedOver, LooksOver, PlainFound}
use Rattle.vx_diskset.specs.Stands.{IsRackTold}
use Rattle.vx_diskset.specs.declared.disk_set.DiskSet.{DiskSet}
use Rattle.vx_diskset.specs.declared.disk_set.DiskSet.TheVariants.{Over}
use Rattle.vx_diskset.specs.declared.group_set.CutWrite.{CutWrite}
use Rattle.vx_diskset.specs.declared.group_set.KeptWrite.{KeptWrite}
use Rattle.vx_diskset.specs.declared.over_set.OverSet.{OverSet}
use Rattle.vx_events.proofs.RvgEvents.{rvg_apart}
use Rattle.vx_events.specs.Doubts.{run_as}
use Rattle.vx_events.specs.GroupNotes.{no_note, note_at}
use Rattle.vx_events.specs.GroupViews.{volumes_of}
use Rattle.vx_events.specs.LinkViews.{linked_view}
use Rattle.vx_events.specs.LinkedFacts.{linked_fact, links_by, links_of_site}
use Rattle.vx_events.specs.RvgBack.{fall_first}
use Rattle.vx_events.specs.RvgViews.{is_over_rvg, over_disks}
use Rattle.vx_events.specs.StepsOver.{fact_of_group}
use Rattle.vx_events.specs.declared.said.Said.{Said}
use Rattle.vx_events.specs.declared.said.Said.TheVariants.{Resumed}
use Rattle.vx_yard.proofs.Carrying.{SameLoad}
use Rattle.vx_yard.proofs.FuseStays.{fused_none}
use Rattle.vx_yard.proofs.OneSite.{Changed}
use Rattle.vx_yard.proofs.OverGroup.{over_rvg}
use Rattle.vx_yard.specs.Loads.{LetGo}
use Rattle.vx_yard.specs.Standing.{StandsFor}
use Rattle.vx_yard.specs.declared.yard.Yard.{Yard}
use Rattle.vx_group_lines.specs.Noting.{made_facts}
use Rattle.vx_group_lines.specs.Rises.{ComesDown, FindsAbove, StandsOver, StoodUp, kept_shown}
use Rattle.vx_group_lines.specs.RvgRises.{RaisesIs, RestsSo, rests_as, rests_world}
use Rattle.vx_group_lines.proofs.Arriving.{Arrives}
use Rattle.vx_group_lines.proofs.FoundLost.{found_lost}
use Rattle.vx_group_lines.proofs.GroupAt.{GroupAt, down_noted, group_by}
use Rattle.vx_group_lines.proofs.GroupCalls.{Called}
use Rattle.vx_group_lines.proofs.Raising.{Begins, RaisedTo}
use Rattle.vx_group_lines.proofs.Recovering.{changed_up, failing_up, same_between}
use Rattle.vx_group_lines.proofs.Rising.{unfused_down}
use Rattle.vx_group_lines.proofs.RvgAtRest.{AtRest, LookedAt, called_over, first_fact, looked_at, never_lost, rest_set, stood_changed, stood_failing, stood_load, stood_looks, stood_same, stood_told}
use Rattle.vx_group_lines.proofs.RvgComing.{DownCall, down_made, none_after, rest_links, rest_sure, rest_unfused}
use Rattle.vx_group_lines.proofs.RvgFacts.{up_seen}
use Rattle.vx_group_lines.proofs.RvgFound.{FoundCall, found_arrives, found_carries, found_ends, found_fails, found_left, found_raises, found_rose, found_says, found_stands_by, found_worked}
use Rattle.vx_group_lines.proofs.RvgStanding.{RvgOver, rvg_over, set_volumes}

-- a world that comes to rest, from the one in which the line begins
rest_down_as : (d e : Doubted) (s : ℕ) → ComesDown d e s → e ≡ rests_world d s 0 false
rest_down_as d e s comes = ⊎_elim
    (λ (down : ((d.world.nodes s).state ≡ IsDown) × (e ≡ d)). down.1 ∙ sym (ap (λ (t : SiteState). run_as false d (fall_first t s 0)) down.0))
    (λ (up : ((d.world.nodes s).state ≡ IsUp) × (e ≡ happened d (CrashAt s 0) false)). up.1 ∙ sym (ap (λ (t : SiteState). run_as false d (fall_first t s 0)) up.0))
    comes.how

module _ {R : Type 0} {g : Ghosts R} where
  -- of a site with a replicated volume group
  abbrev pub over_call : (d : Doubted) (name : List ℕ) (s kept : ℕ) (taken : Bool) (old new : Yard R g) (o q : OverSet R g) (lit : Fuse) → lit ≡ NoFuse → RestsSo d s kept taken → DownCall (rests_as d s kept taken) old new s o (Over q)
      → (here : FoundOver (beside_of (rests_as d s kept taken) s) ((rests_as d s kept taken).world.nodes s) lit q)
      → KnowsLess (note_at ((rests_as d s kept taken).world.nodes s)) here.next (site_in q)
      → FoundCall d (rests_world d s kept taken) (Recover name) s taken old new (Over o) q lit
  over_call d name s kept taken old new o q lit none rests call here less =
      let unfused : ((rests_as d s kept taken).world.nodes s).fuse ≡ NoFuse = rest_unfused (rests_as d s kept taken) old new s o (Over q) call in
      record {
        stands = call.stands;
        fits = rests.fits;
        below = call.below;
        sure = rest_sure (rests_as d s kept taken) old new s o (Over q) call;
        links = rest_links (rests_as d s kept taken) old new s o (Over q) call;
        note = ap (λ (x : Option GroupNode). unwrap_or x no_note) rests.group;
        changed = call.changed;
        failing = call.failing;
        brings = tt;
        over = here;
        less = less;
        lit_is = unfused ∙ sym none;
        fused = fused_none here.node (Over q) (here.same.fuse ∙ none);
      }

  -- of a site over a group without one, which is down in the world e
  abbrev pub plain_call : (d e : Doubted) (name : List ℕ) (s : ℕ) (old new : Yard R g) (before : DiskSet R g) (q : OverSet R g) (lit : Fuse) → lit ≡ NoFuse → Begins e s old → (call : Called e old new [] s before (Over q))
      → note_at (e.world.nodes s) ≡ note_at (d.world.nodes s) → DownNoted (e.world.nodes s) (note_at (e.world.nodes s)) call.at.set.site
      → (here : FoundOver (beside_of e s) (e.world.nodes s) lit q) → KnowsLess (note_at (e.world.nodes s)) here.next (site_in q)
      → FoundCall d e (Recover name) s false old new before q lit
  plain_call d e name s old new before q lit none begin call same down here less =
      let unfused : (e.world.nodes s).fuse ≡ NoFuse = unfused_down (e.world.nodes s) (note_at (e.world.nodes s)) call.at.set.site down in
      record {
        stands = begin.stands;
        fits = begin.stands.links;
        below = begin.below;
        sure = none_after e.world s (e.after s) (call.at.stands.sure call.at.made);
        links = call.at.stands.unlinked call.at.made;
        note = same;
        changed = call.changed;
        failing = call.failing;
        brings = tt;
        over = here;
        less = less;
        lit_is = unfused ∙ sym none;
        fused = fused_none here.node (Over q) (here.same.fuse ∙ none);
      }

  -- ---- what came up, behind the look at a write that was cut

  -- what is known of the disks behind calls on them
  less_on : (note next : GroupNode) (x q : OverSet R g) → (IsTrue (site_below (site_in q)).tells → IsTrue (site_below (site_in x)).tells) → KnowsLess note next (site_in x) → KnowsLess note next (site_in q)
  less_on note next x q told less = record { was = λ it. less.was (told it); dark = λ it. less.dark (told it) }

  pub found_stood : (d : Doubted) (name : List ℕ) (s kept : ℕ) (taken : Bool) (old mid new : Yard R g) (before between : DiskSet R g) (first : RaisedTo old mid s before between) (at : AtRest d s kept taken old)
      (cut : Option CutWrite) (result : Result Said OutOfMemory) (st : StoodUp s cut mid new result) (x : OverSet R g) → between ≡ Over x → cut ≡ (rest_set d s kept taken old mid new before between first at).cut
      → FoundAgain (beside_of (rests_as d s kept taken) s) ((rests_as d s kept taken).world.nodes s) (note_at ((rests_as d s kept taken).world.nodes s)) (site_in (rest_set d s kept taken old mid new before between first at)) x
      → RaisesIs d (Recover name) s kept taken old new result
  found_stood d name s kept taken old mid new before between first at cut result st x is cut_is again = by st.answer refl looks
    where
      b : Doubted
      b = rests_as d s kept taken

      n : Node
      n = (rests_as d s kept taken).world.nodes s

      o : OverSet R g
      o = rest_set d s kept taken old mid new before between first at

      looked : LookedAt cut x st.after st.answer
      looked = stood_looks d s kept taken old mid new before between first at cut result st x is

      p : OverSet R g
      p = looked.set

      here : FoundOver (beside_of (rests_as d s kept taken) s) ((rests_as d s kept taken).world.nodes s) (burned ((rests_as d s kept taken).world.nodes s).fuse) x
      here = again.over

      looks : LookedOver (beside_of (rests_as d s kept taken) s) here.node here.next cut x p st.answer
      looks = looked.looked (beside_of b s) here.node here.next here.stands here.same.up here.same.running here.noted here.clear

      at_before : st.before ≡ Over x
      at_before = sym (stood_same d s kept taken old mid new before between first at cut result st) ∙ is

      call : DownCall (rests_as d s kept taken) old new s (rest_set d s kept taken old mid new before between first at) (Over p)
      call =
          called_over d s kept taken old mid new before between first at st.after p looked.is (stood_changed d s kept taken old mid new before between first at cut result st)
          (stood_failing d s kept taken old mid new before between first at cut result st)

      unfused : ((rests_as d s kept taken).world.nodes s).fuse ≡ NoFuse
      unfused = rest_unfused b old new s o (Over p) call

      sits : RvgOver (beside_of (rests_as d s kept taken) s) here.node here.next (Over x)
      sits = rvg_over (beside_of b s) here.node here.next (Over x) here.stands here.noted (rvg_apart here.node (over_rvg (beside_of b s) here.node x here.stands)) here.same.up here.origin

      f : SiteFacts
      f = linked_fact (rests_as d s kept taken).world s

      so : StandsOver s (linked_fact (rests_as d s kept taken).world s) sits.config sits.core st.after st.answer mid new result
      so =
          st.above f sits.config sits.core
          (ap (λ (fs : List SiteFacts). slice_get fs s) first.facts ∙ first_fact d s kept taken old mid new before between first at)
          (subst (λ (e : DiskSet R g). AtSite (λ y. site_config y ≡ Some sits.config) e) (sym at_before) sits.has) (subst (λ (e : DiskSet R g). core_in e ≡ Some sits.core) (sym at_before) sits.has_core)

      tells : IsTrue (site_below (site_in p)).tells → IsTrue (site_below (site_in x)).tells
      tells = stood_told d s kept taken old mid new before between first at cut result st x p is looked.is

      -- a disk failed in it
      lost_kept : (stop : Stop) → st.answer ≡ Err stop → LookedOver (beside_of (rests_as d s kept taken) s) here.node here.next cut x p (Err stop) → RaisesIs d (Recover name) s kept taken old new result
      lost_kept (StopsBy (Device disk)) ends it =
          let done : StandsOver s (linked_fact (rests_as d s kept taken).world s) sits.config sits.core st.after (Err (StopsBy (Device disk))) mid new result =
          subst (λ (a : Result (Option KeptWrite) Stop). StandsOver s f sits.config sits.core st.after a mid new result) ends so in
          subst (λ (r : Result Said OutOfMemory). RaisesIs d (Recover name) s kept taken old new r) (sym done.2)
          (found_lost d name s kept taken at.rests old new o p call x again tells cut cut_is disk it sits.core sits.config sits.noted
          (up_seen (beside_of b s) here.node sits.core (set_volumes (Over x)) sits.stands here.same.running here.whole)
          (done.0 ∙ ap (λ (fs : List SiteFacts). slice_set fs s (down_fact (made_facts sits.core sits.config f))) first.facts)
          (record {
            flight = st.flight ∙ first.load.flight;
            assemblies = subst (λ a. LetGo s a new.assemblies.items) first.load.assemblies done.1;
            feeders = ap (λ xs. xs.items) st.feeders ∙ first.load.feeders;
          }))
      lost_kept (StopsBy other) ends it = absurd it
      lost_kept MemoryStop ends it = absurd it

      by : (answer : Result (Option KeptWrite) Stop) → st.answer ≡ answer → LookedOver (beside_of (rests_as d s kept taken) s) here.node here.next cut x p st.answer → RaisesIs d (Recover name) s kept taken old new result
      by (Err stop) ends it = lost_kept stop ends (subst (λ (a : Result (Option KeptWrite) Stop). LookedOver (beside_of b s) here.node here.next cut x p a) ends it)
      by (Ok read) ends it = subst (λ (r : Result Said OutOfMemory). RaisesIs d (Recover name) s kept taken old new r) (sym replied)
          (found_raises d name s kept taken old new (Over o) p lit found (Resumed view shown) shown refl stands (stood_load d s kept taken old mid new before between first at cut result st done.1))
        where
          lit : Fuse
          lit = burned (burned ((rests_as d s kept taken).world.nodes s).fuse)

          done : StandsOver s (linked_fact (rests_as d s kept taken).world s) sits.config sits.core st.after (Ok read) mid new result
          done = subst (λ (a : Result (Option KeptWrite) Stop). StandsOver s f sits.config sits.core st.after a mid new result) ends so

          now : LookedOver (beside_of (rests_as d s kept taken) s) here.node here.next cut x p (Ok read)
          now = subst (λ (a : Result (Option KeptWrite) Stop). LookedOver (beside_of b s) here.node here.next cut x p a) ends it

          came : FoundOver (beside_of (rests_as d s kept taken) s) ((rests_as d s kept taken).world.nodes s) lit p
          came = found_worked (beside_of b s) n (burned n.fuse) x p here now.0 now.1

          found : FoundCall d (rests_world d s kept taken) (Recover name) s taken old new (Over o) p lit
          found =
              over_call d name s kept taken old new o p lit (ap (λ (x : Fuse). burned (burned x)) unfused) at.rests call came
              (less_on (note_at n) here.next x p tells again.less)

          left : Doubted
          left = found_left d (rests_world d s kept taken) (Recover name) s taken old new (Over o) p lit found

          arrives : Arrives (rests_as d s kept taken) left s came.node ((rests_as d s kept taken).world.gathering s)
          arrives = found_arrives d (rests_world d s kept taken) (Recover name) s taken old new (Over o) p lit found

          stands : StandsFor left new
          stands =
              found_stands_by d (rests_world d s kept taken) (Recover name) s taken old new (Over o) p lit found sits.core sits.config sits.noted
              (up_seen (beside_of b s) here.node sits.core (set_volumes (Over x)) sits.stands here.same.running here.whole)
              (done.0 ∙ ap (λ (fs : List SiteFacts). slice_set fs s (made_facts sits.core sits.config f)) first.facts
              ∙ ap (λ (k : SiteFacts). slice_set old.facts.items s k) (down_made sits.core sits.config b.world s (note_at n) at.down))

          shown : Option Kept
          shown = kept_shown (volumes_of (config_in st.after)) read

          view : SiteView
          view = over_disks (left.world.nodes s) (note_at (left.world.nodes s)) (linked_view left.world s)

          replied : result ≡ Ok (Resumed view shown)
          replied =
              done.2 left stands (omega (arith, at.below, arrives.site.sites)) (ap (λ (k : Node). is_over_rvg k) arrives.node ∙ over_rvg (beside_of b s) came.node p came.stands)
              (ap (λ (t : SiteState). links_by t (links_of_site b.world s)) at.down)

  -- ---- of a site over a group without one

  pub found_risen : (e : Doubted) (s : ℕ) (old mid new : Yard R g) (before between : DiskSet R g) (first : RaisedTo old mid s before between) (begin : Begins e s old)
      (cut : Option CutWrite) (result : Result Said OutOfMemory) (st : StoodUp s cut mid new result) (x : OverSet R g) → between ≡ Over x → cut ≡ None
      → PlainFound (beside_of e s) (e.world.nodes s) (note_at (e.world.nodes s)) x → FindsAbove e s old new result
  found_risen e s old mid new before between first begin cut result st x is none again = by st.answer refl looks
    where
      n : Node
      n = e.world.nodes s

      note : GroupNode
      note = note_at (e.world.nodes s)

      at_before : st.before ≡ Over x
      at_before = sym (same_between old mid new s before between first cut result st) ∙ is

      looked : LookedAt None x st.after st.answer
      looked =
          looked_at None x st.after st.answer
          (subst (λ (c : Option CutWrite). LooksOver c (Over x) st.after st.answer) none (subst (λ (y : DiskSet R g). LooksOver cut y st.after st.answer) at_before st.over))

      p : OverSet R g
      p = looked.set

      here : FoundOver (beside_of e s) (e.world.nodes s) (burned (e.world.nodes s).fuse) x
      here = again.over

      looks : LookedOver (beside_of e s) here.node here.next None x p st.answer
      looks = looked.looked (beside_of e s) here.node here.next here.stands here.same.up here.same.running here.noted here.clear

      at : GroupAt e old [] s before
      at = group_by e old [] s before begin.stands begin.below begin.over first.there

      call : Called e old new [] s before (Over p)
      call = record {
        at = at;
        changed = subst (λ (y : DiskSet R g). Changed old new s before y) looked.is (changed_up old mid new s before between first cut result st);
        failing = subst (λ (y : DiskSet R g). SameFailing before y) looked.is (failing_up old mid new s before between first cut result st);
      }

      down : DownNoted (e.world.nodes s) (note_at (e.world.nodes s)) at.set.site
      down = down_noted n at.set.site at.stands.stands begin.down

      unfused : (e.world.nodes s).fuse ≡ NoFuse
      unfused = unfused_down n note at.set.site down

      sits : RvgOver (beside_of e s) here.node here.next (Over x)
      sits = rvg_over (beside_of e s) here.node here.next (Over x) here.stands here.noted (rvg_apart here.node (over_rvg (beside_of e s) here.node x here.stands)) here.same.up here.origin

      f : SiteFacts
      f = fact_of_group (e.world.nodes s) (note_at (e.world.nodes s))

      so : StandsOver s (fact_of_group (e.world.nodes s) (note_at (e.world.nodes s))) sits.config sits.core st.after st.answer mid new result
      so =
          st.above f sits.config sits.core (ap (λ (fs : List SiteFacts). slice_get fs s) first.facts ∙ at.fact)
          (subst (λ (y : DiskSet R g). AtSite (λ z. site_config z ≡ Some sits.config) y) (sym at_before) sits.has) (subst (λ (y : DiskSet R g). core_in y ≡ Some sits.core) (sym at_before) sits.has_core)

      by : (answer : Result (Option KeptWrite) Stop) → st.answer ≡ answer → LookedOver (beside_of e s) here.node here.next None x p st.answer → FindsAbove e s old new result
      by (Err stop) ends it = absurd (never_lost (beside_of e s) here.node here.next x p stop (subst (λ (a : Result (Option KeptWrite) Stop). LookedOver (beside_of e s) here.node here.next None x p a) ends it))
      by (Ok read) ends it = subst (λ (r : Result Said OutOfMemory). FindsAbove e s old new r) (sym replied) (record {
        next = left;
        fails = found_fails e e (Recover []) s false old new before p lit (found e [] refl);
        finds = λ d name comes.
            found_ends d e (Recover name) s false old new before p lit (found d name comes.note) 0 (Resumed view shown) (rest_down_as d e s comes)
            (found_says d e name s false old new before p lit (found d name comes.note) (Resumed view shown) shown refl);
        stands = stands;
        carries = λ carried. found_carries e e (Recover []) s false old new before p lit (found e [] refl) load carried;
        rose = found_rose e e (Recover []) s false old new before p lit (found e [] refl);
      })
        where
          lit : Fuse
          lit = burned (burned (e.world.nodes s).fuse)

          done : StandsOver s (fact_of_group (e.world.nodes s) (note_at (e.world.nodes s))) sits.config sits.core st.after (Ok read) mid new result
          done = subst (λ (a : Result (Option KeptWrite) Stop). StandsOver s f sits.config sits.core st.after a mid new result) ends so

          now : LookedOver (beside_of e s) here.node here.next None x p (Ok read)
          now = subst (λ (a : Result (Option KeptWrite) Stop). LookedOver (beside_of e s) here.node here.next None x p a) ends it

          came : FoundOver (beside_of e s) (e.world.nodes s) lit p
          came = found_worked (beside_of e s) n (burned n.fuse) x p here now.0 now.1

          tells : IsTrue (site_below (site_in p)).tells → IsTrue (site_below (site_in x)).tells
          tells told = subst (λ (y : DiskSet R g). IsRackTold y) at_before (st.later.told (subst (λ (y : DiskSet R g). IsRackTold y) (sym looked.is) told))

          -- whatever the line is called, and the world from which it came to rest
          found : (d : Doubted) (name : List ℕ) → note_at (e.world.nodes s) ≡ note_at (d.world.nodes s) → FoundCall d e (Recover name) s false old new before p lit
          found d name same =
              plain_call d e name s old new before p lit (ap (λ (y : Fuse). burned (burned y)) unfused) begin call same down came
              (less_on note here.next x p tells again.less)

          left : Doubted
          left = found_left e e (Recover []) s false old new before p lit (found e [] refl)

          arrives : Arrives e left s came.node (e.world.gathering s)
          arrives = found_arrives e e (Recover []) s false old new before p lit (found e [] refl)

          load : SameLoad old new
          load = record {
            flight = st.flight ∙ first.load.flight;
            assemblies = ap (λ xs. xs.items) done.1 ∙ first.load.assemblies;
            feeders = ap (λ xs. xs.items) st.feeders ∙ first.load.feeders;
          }

          stands : StandsFor left new
          stands =
              found_stands_by e e (Recover []) s false old new before p lit (found e [] refl) sits.core sits.config sits.noted
              (up_seen (beside_of e s) here.node sits.core (set_volumes (Over x)) sits.stands here.same.running here.whole)
              (done.0 ∙ ap (λ (fs : List SiteFacts). slice_set fs s (made_facts sits.core sits.config f)) first.facts)

          shown : Option Kept
          shown = kept_shown (volumes_of (config_in st.after)) read

          view : SiteView
          view = over_disks (left.world.nodes s) (note_at (left.world.nodes s)) (linked_view left.world s)

          replied : result ≡ Ok (Resumed view shown)
          replied =
              done.2 left stands (omega (arith, begin.below, arrives.site.sites)) (ap (λ (k : Node). is_over_rvg k) arrives.node ∙ over_rvg (beside_of e s) came.node p came.stands) refl
