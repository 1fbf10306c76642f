-- What the calls of a recovery lead a yard to, at a site whose group has a replicated volume group.
use Rattle.std.proofs.Common.{◌≡◌, ◌∙◌, ◌≤◌, ℕ, Bool, List, ap, sym, subst, refl}
use Rattle.std.specs.Prelude.{Option, Some, slice_get, slice_set, Result, Ok, Err}
use Rattle.vx_model.specs.declared.errors.OutOfMemory.{OutOfMemory}
use Rattle.vx_model.specs.declared.errors.Stop.{Stop}
use Rattle.vx_model.specs.declared.errors.Stop.TheVariants.{No as StopsBy, OutOfMemory as MemoryStop}
use Rattle.vx_model.specs.declared.no.No.{No}
use Rattle.vx_model.specs.declared.no.No.TheVariants.{Damaged, Device, Format, Limit, Missing as Lacks, NoConfig}
use Rattle.vx_disk.specs.declared.shelf.Shelf.{Ghosts}
use Rattle.vx_history.specs.Doubts.{Doubted}
use Rattle.vx_history.specs.Groups.{GroupNode}
use Rattle.vx_history.specs.Steps.{burned}
use Rattle.vx_history.specs.World.{Node}
use Rattle.vx_order.specs.declared.facts.SiteFacts.{SiteFacts}
use Rattle.vx_script.specs.declared.line.ScriptLine.TheVariants.{Recover}
use Rattle.vx_effects.specs.Facts.{down_fact}
use Rattle.vx_grouped.specs.GroupSites.{site_config, site_disks}
use Rattle.vx_diskset.specs.Aboves.{site_in}
use Rattle.vx_diskset.specs.GroupCalls.{AtSite, config_in, core_in, cut_above}
use Rattle.vx_diskset.specs.Holds.{beside_of}
use Rattle.vx_diskset.specs.OverRises.{HeldStill, LookedOver, LostAgain, OverRises, RaisesAbove, RisesAgain, RisesFound, RisesHeld, RisesLost, RisesPlain, RoseAgain, came_with}
use Rattle.vx_diskset.specs.OverStarts.{HandsOut}
use Rattle.vx_diskset.specs.declared.disk_set.DiskSet.{DiskSet}
use Rattle.vx_diskset.specs.declared.disk_set.DiskSet.TheVariants.{Over}
use Rattle.vx_diskset.specs.declared.group_set.CutWrite.{CutWrite}
use Rattle.vx_diskset.specs.declared.group_set.KeptWrite.{KeptWrite}
use Rattle.vx_diskset.specs.declared.over_set.OverSet.{OverSet}
use Rattle.vx_events.specs.GroupNotes.{note_at}
use Rattle.vx_events.specs.GroupViews.{volumes_of}
use Rattle.vx_events.specs.LinkViews.{linked_view}
use Rattle.vx_events.specs.LinkedFacts.{linked_fact}
use Rattle.vx_events.specs.RvgViews.{over_disks}
use Rattle.vx_events.specs.declared.said.Said.{Said}
use Rattle.vx_events.specs.declared.said.Said.TheVariants.{Resumed}
use Rattle.vx_yard.proofs.Carrying.{SameLoad}
use Rattle.vx_yard.proofs.Lists.{set_same}
use Rattle.vx_yard.specs.Loads.{LetGo}
use Rattle.vx_yard.specs.Writes.{below_facts}
use Rattle.vx_yard.specs.declared.yard.Yard.{Yard}
use Rattle.vx_group_lines.specs.Noting.{IsNotedRefusal, KeepsRest, made_facts, reply_noted}
use Rattle.vx_group_lines.specs.Rises.{StandsOver, StoodUp, kept_shown}
use Rattle.vx_group_lines.specs.RvgRises.{RaisesIs, rests_as}
use Rattle.vx_group_lines.proofs.Raising.{RaisedTo}
use Rattle.vx_group_lines.proofs.Recovering.{changed_down}
use Rattle.vx_group_lines.proofs.RvgAtRest.{AtRest, LookedAt, called_over, first_fact, raised, rest_set, stood_changed, stood_failing, stood_later, stood_load, stood_looks, stood_same, stood_told, unlinked}
use Rattle.vx_group_lines.proofs.RvgComing.{DownCall}
use Rattle.vx_group_lines.proofs.RvgHeld.{held_device, held_limit, held_memory, held_missing, held_none, held_strange}
use Rattle.vx_group_lines.proofs.RvgLost.{lost_device, lost_limit, lost_memory}
use Rattle.vx_group_lines.proofs.RvgPlain.{plain_stood}
use Rattle.vx_group_lines.proofs.RvgRose.{came_first, over_risen, risen, risen_below, risen_stands, risen_world, rose_raises}
use Rattle.vx_group_lines.proofs.RvgKept.{kept_lost}
use Rattle.vx_group_lines.proofs.RvgStanding.{RvgOver}
use Rattle.vx_group_lines.proofs.RecoverFound.{found_stood}

handed : {A : Type 0} {a b : A} → (let x : Result A Stop = Ok a in x ≡ Ok b) → a ≡ b
handed is = cc

stopped_by : {A : Type 0} {a b : Stop} → (let x : Result A Stop = Err a in x ≡ Err b) → a ≡ b
stopped_by is = cc

never_both : {A : Type 0} {a : A} {stop : Stop} → (let x : Result A Stop = Ok a in x ≡ Err stop) → ⊥
never_both is = cc

module _ {R : Type 0} {g : Ghosts R} (d : Doubted) (name : List ℕ) (s kept : ℕ) (taken : Bool) (old mid new : Yard R g) (before between : DiskSet R g) (first : RaisedTo old mid s before between) (at : AtRest d s kept taken old) where
  abbrev b : Doubted
  b = rests_as d s kept taken

  abbrev n : Node
  n = (rests_as d s kept taken).world.nodes s

  abbrev note : GroupNode
  note = note_at ((rests_as d s kept taken).world.nodes s)

  abbrev f : SiteFacts
  f = linked_fact (rests_as d s kept taken).world s

  abbrev o : OverSet R g
  o = rest_set d s kept taken old mid new before between first at

  -- ---- it came up

  module _ (cut : Option CutWrite) (result : Result Said OutOfMemory) (st : StoodUp s cut mid new result) where
    same : between ≡ st.before
    same = stood_same d s kept taken old mid new before between first at cut result st

    -- with the replicated volume group that the site had
    rose : (x : OverSet R g) → between ≡ Over x → cut ≡ o.cut → RoseAgain (beside_of b s) n note (site_in o) x → RaisesIs d (Recover name) s kept taken old new result
    rose x is cut_is r = by st.answer refl
      where
        looks : LookedAt cut x st.after st.answer
        looks = stood_looks d s kept taken old mid new before between first at cut result st x is

        p : OverSet R g
        p = looks.set

        call : DownCall b old new s o (Over p)
        call =
            called_over d s kept taken old mid new before between first at st.after p looks.is (stood_changed d s kept taken old mid new before between first at cut result st)
            (stood_failing d s kept taken old mid new before between first at cut result st)

        m : Node
        m = came_with (burned n.fuse) r.over.next n

        looked : (answer : Result (Option KeptWrite) Stop) → st.answer ≡ answer → LookedOver (beside_of b s) m r.over.next cut x p answer
        looked answer so =
            subst (λ (q : Result (Option KeptWrite) Stop). LookedOver (beside_of b s) m r.over.next cut x p q) so
            (looks.looked (beside_of b s) m r.over.next r.over.stands refl refl r.over.noted (r.over.works.same.cut ∙ r.group.returns.cut))

        last : (k : ℕ) → (site_disks (site_in x)).disk_faults k ≤ (site_disks (site_in p)).disk_faults k
        last = stood_later d s kept taken old mid new before between first at cut result st x p is looks.is

        came : RvgOver (beside_of b s) (risen d s kept taken at.rests old new o p call x r last) r.over.next (Over x)
        came = came_first d s kept taken at.rests old new o p call x r last

        shown : (answer : Result (Option KeptWrite) Stop) → st.answer ≡ answer → StandsOver s f came.config came.core st.after answer mid new result
        shown answer so =
            subst (λ (q : Result (Option KeptWrite) Stop). StandsOver s f came.config came.core st.after q mid new result) so
            (st.above f came.config came.core (ap (λ (fs : List SiteFacts). slice_get fs s) first.facts ∙ first_fact d s kept taken old mid new before between first at)
            (subst (λ (e : DiskSet R g). AtSite (λ y. site_config y ≡ Some came.config) e) (sym is ∙ same) came.has)
            (subst (λ (e : DiskSet R g). core_in e ≡ Some came.core) (sym is ∙ same) came.has_core))

        -- what is kept of the write was read
        read_kept : (read : Option KeptWrite) → st.answer ≡ Ok read → RaisesIs d (Recover name) s kept taken old new result
        read_kept read so =
            let it = looked (Ok read) so in
            let stands = shown (Ok read) so in
            let facts : new.facts.items ≡ slice_set old.facts.items s (made_facts came.core came.config f) =
            stands.0 ∙ ap (λ (fs : List SiteFacts). slice_set fs s (made_facts came.core came.config f)) first.facts in
            let e : Doubted = risen_world d s kept taken at.rests old new o p call x r last in
            let says : result ≡ Ok (Resumed (over_disks (e.world.nodes s) (note_at (e.world.nodes s)) (linked_view e.world s)) (kept_shown (volumes_of (config_in (Over p))) read)) =
            stands.2 e (risen_stands d s kept taken at.rests old new o p call x r last it.0 it.1 facts) (risen_below d s kept taken at.rests old new o p call x r last)
            (over_risen d s kept taken at.rests old new o p call x r last) (unlinked d s kept taken old mid new before between first at)
            ∙ ap (λ (q : DiskSet R g). Ok (Resumed (over_disks (e.world.nodes s) (note_at (e.world.nodes s)) (linked_view e.world s)) (kept_shown (volumes_of (config_in q)) read))) looks.is in
            subst (λ (q : Result Said OutOfMemory). RaisesIs d (Recover name) s kept taken old new q) (sym says)
            (rose_raises d s kept taken at.rests old new o p call x r last it.0 it.1 cut read cut_is it.2 (stood_told d s kept taken old mid new before between first at cut result st x p is looks.is) name
            (Resumed (over_disks (e.world.nodes s) (note_at (e.world.nodes s)) (linked_view e.world s)) (kept_shown (volumes_of (config_in (Over p))) read)) facts
            (stood_load d s kept taken old mid new before between first at cut result st stands.1) refl)

        -- or a disk failed in that
        lost_kept : (stop : Stop) → st.answer ≡ Err stop → RaisesIs d (Recover name) s kept taken old new result
        lost_kept (StopsBy (Device disk)) so =
            let stands = shown (Err (StopsBy (Device disk))) so in
            subst (λ (q : Result Said OutOfMemory). RaisesIs d (Recover name) s kept taken old new q) (sym stands.2)
            (kept_lost d s kept taken at.rests old new o p call x r last cut cut_is disk (looked (Err (StopsBy (Device disk))) so) name
            (stands.0 ∙ ap (λ (fs : List SiteFacts). slice_set fs s (down_fact (made_facts came.core came.config f))) first.facts)
            (record {
              flight = st.flight ∙ first.load.flight;
              assemblies = subst (λ a. LetGo s a new.assemblies.items) first.load.assemblies stands.1;
              feeders = ap (λ xs. xs.items) st.feeders ∙ first.load.feeders;
            }))
        lost_kept (StopsBy other) so = absurd (looked (Err (StopsBy other)) so)
        lost_kept MemoryStop so = absurd (looked (Err MemoryStop) so)

        by : (answer : Result (Option KeptWrite) Stop) → st.answer ≡ answer → RaisesIs d (Recover name) s kept taken old new result
        by (Err stop) so = lost_kept stop so
        by (Ok read) so = read_kept read so

    pub came_above : RaisesAbove before between (Ok cut) → RaisesIs d (Recover name) s kept taken old new result
    came_above above = let it = raised d s kept taken old mid new before between first at (Ok cut) above in by it.answer it.hands it.rises
      where
        rises : (done : Unit {0}) → cut ≡ cut_above between o.cut → OverRises (beside_of b s) n note (site_in o) between (Ok done) → RaisesIs d (Recover name) s kept taken old new result
        rises done handed_is (RisesAgain x is ok again) = rose x is (handed_is ∙ ap (λ (e : DiskSet R g). cut_above e o.cut) is) again
        rises done handed_is (RisesFound x is ok found) =
            found_stood d name s kept taken old mid new before between first at cut result st x is (handed_is ∙ ap (λ (e : DiskSet R g). cut_above e o.cut) is) found
        rises done handed_is (RisesPlain x is ok plain) = plain_stood d name s kept taken old mid new before between first at cut result st x is (handed_is ∙ ap (λ (e : DiskSet R g). cut_above e o.cut) is) plain
        rises done handed_is (RisesLost x stop is err lost) = absurd (never_both err)
        rises done handed_is (RisesHeld x stop is err held) = absurd (never_both err)

        by : (answer : Result (Unit {0}) Stop) → HandsOut (cut_above between o.cut) answer (Ok cut) → OverRises (beside_of b s) n note (site_in o) between answer → RaisesIs d (Recover name) s kept taken old new result
        by (Ok done) hands it = rises done (handed hands) it
        by (Err stop) hands it = absurd (never_both hands)

  -- ---- it did not

  load_off : KeepsRest mid new → new.assemblies.items ≡ mid.assemblies.items → SameLoad old new
  load_off rest held = record {
    flight = rest.flight ∙ first.load.flight;
    assemblies = held ∙ first.load.assemblies;
    feeders = ap (λ xs. xs.items) rest.feeders ∙ first.load.feeders;
  }

  facts_off : (why : No) → below_facts why f ≡ f → (result : Result Said OutOfMemory) → IsNotedRefusal s f why mid new result → new.facts.items ≡ slice_set old.facts.items s f
  facts_off why quiet result it = it.facts ∙ ap (λ (x : SiteFacts). slice_set mid.facts.items s x) quiet ∙ ap (λ (fs : List SiteFacts). slice_set fs s f) first.facts

  memory_facts : new ≡ mid → new.facts.items ≡ slice_set old.facts.items s f
  memory_facts as_mid = ap (λ (y : Yard R g). y.facts.items) as_mid ∙ first.facts ∙ sym (set_same old.facts.items s f (first_fact d s kept taken old mid new before between first at))

  memory_load : new ≡ mid → SameLoad old new
  memory_load as_mid = subst (λ (y : Yard R g). SameLoad old y) (sym as_mid) first.load

  call_off : (p : OverSet R g) → between ≡ Over p → (stop : Stop) (result : Result Said OutOfMemory) → reply_noted s f stop mid new result → DownCall b old new s o (Over p)
  call_off p is stop result reply = called_over d s kept taken old mid new before between first at between p is (changed_down old mid new s before between first stop f result reply) first.failing

  -- the replicated volume group did not come up
  lost : (p : OverSet R g) → between ≡ Over p → (stop : Stop) (result : Result Said OutOfMemory) → reply_noted s f stop mid new result → LostAgain (beside_of b s) n note (site_in o) p stop
      → RaisesIs d (Recover name) s kept taken old new result
  lost p is (StopsBy (Device disk)) result it r =
      subst (λ (q : Result Said OutOfMemory). RaisesIs d (Recover name) s kept taken old new q) (sym it.said)
      (lost_device d s kept taken at.rests old new o p (call_off p is (StopsBy (Device disk)) result it) (StopsBy (Device disk)) r disk r.why.1 name r.why.0 (facts_off (Device disk) refl result it) (load_off it.same it.assemblies))
  lost p is (StopsBy (Limit what most)) result it r =
      subst (λ (q : Result Said OutOfMemory). RaisesIs d (Recover name) s kept taken old new q) (sym it.said)
      (lost_limit d s kept taken at.rests old new o p (call_off p is (StopsBy (Limit what most)) result it) (StopsBy (Limit what most)) r name what most r.why.0 r.why.1 r.why.2 (facts_off (Limit what most) refl result it)
      (load_off it.same it.assemblies))
  lost p is (StopsBy other) result it r = absurd r.why
  lost p is MemoryStop result it r =
      subst (λ (q : Result Said OutOfMemory). RaisesIs d (Recover name) s kept taken old new q) (sym it.1)
      (lost_memory d s kept taken at.rests old new o p (call_off p is MemoryStop result it) MemoryStop r name r.why.0 r.why.1 (memory_facts it.0) (memory_load it.0))

  -- the group did not, or nothing was known of what did
  held : (p : OverSet R g) → between ≡ Over p → (stop : Stop) (result : Result Said OutOfMemory) → reply_noted s f stop mid new result → HeldStill (beside_of b s) n note (site_in o) p stop
      → RaisesIs d (Recover name) s kept taken old new result
  held p is (StopsBy (Device disk)) result it h =
      subst (λ (q : Result Said OutOfMemory). RaisesIs d (Recover name) s kept taken old new q) (sym it.said)
      (held_device d s kept taken at.rests old new o p (call_off p is (StopsBy (Device disk)) result it) (StopsBy (Device disk)) h (facts_off (Device disk) refl result it) (load_off it.same it.assemblies) name disk h.why)
  held p is (StopsBy (Lacks disk)) result it h =
      subst (λ (q : Result Said OutOfMemory). RaisesIs d (Recover name) s kept taken old new q) (sym it.said)
      (held_missing d s kept taken at.rests old new o p (call_off p is (StopsBy (Lacks disk)) result it) (StopsBy (Lacks disk)) h (facts_off (Lacks disk) refl result it) (load_off it.same it.assemblies) name disk refl h.why)
  held p is (StopsBy NoConfig) result it h =
      subst (λ (q : Result Said OutOfMemory). RaisesIs d (Recover name) s kept taken old new q) (sym it.said)
      (held_none d s kept taken at.rests old new o p (call_off p is (StopsBy NoConfig) result it) (StopsBy NoConfig) h (facts_off NoConfig refl result it) (load_off it.same it.assemblies) name refl h.why)
  held p is (StopsBy (Limit what most)) result it h =
      subst (λ (q : Result Said OutOfMemory). RaisesIs d (Recover name) s kept taken old new q) (sym it.said)
      (held_limit d s kept taken at.rests old new o p (call_off p is (StopsBy (Limit what most)) result it) (StopsBy (Limit what most)) h (facts_off (Limit what most) refl result it) (load_off it.same it.assemblies) name what most
      h.why.0 h.why.1)
  held p is (StopsBy (Damaged unit block stored computed)) result it h =
      subst (λ (q : Result Said OutOfMemory). RaisesIs d (Recover name) s kept taken old new q) (sym it.said)
      (held_strange d s kept taken at.rests old new o p (call_off p is (StopsBy (Damaged unit block stored computed)) result it) (StopsBy (Damaged unit block stored computed)) h
      (facts_off (Damaged unit block stored computed) refl result it) (load_off it.same it.assemblies) name (Damaged unit block stored computed) refl refl tt h.why)
  held p is (StopsBy (Format version)) result it h =
      subst (λ (q : Result Said OutOfMemory). RaisesIs d (Recover name) s kept taken old new q) (sym it.said)
      (held_strange d s kept taken at.rests old new o p (call_off p is (StopsBy (Format version)) result it) (StopsBy (Format version)) h (facts_off (Format version) refl result it) (load_off it.same it.assemblies) name
      (Format version) refl refl tt h.why)
  held p is (StopsBy other) result it h = absurd h.why
  held p is MemoryStop result it h =
      subst (λ (q : Result Said OutOfMemory). RaisesIs d (Recover name) s kept taken old new q) (sym it.1)
      (held_memory d s kept taken at.rests old new o p (call_off p is MemoryStop result it) MemoryStop h (memory_facts it.0) (memory_load it.0) name refl)

  pub fell_above : (stop : Stop) (result : Result Said OutOfMemory) → RaisesAbove before between (Err stop) → ((x : SiteFacts) → slice_get mid.facts.items s ≡ Some x → reply_noted s x stop mid new result)
      → RaisesIs d (Recover name) s kept taken old new result
  fell_above stop result above replied = let it = raised d s kept taken old mid new before between first at (Err stop) above in by it.answer it.hands it.rises
    where
      reply : reply_noted s f stop mid new result
      reply = replied f (ap (λ (fs : List SiteFacts). slice_get fs s) first.facts ∙ first_fact d s kept taken old mid new before between first at)

      rises : (why : Stop) → stop ≡ why → OverRises (beside_of b s) n note (site_in o) between (Err why) → RaisesIs d (Recover name) s kept taken old new result
      rises why same (RisesAgain x is ok again) = absurd (never_both (sym ok))
      rises why same (RisesFound x is ok found) = absurd (never_both (sym ok))
      rises why same (RisesPlain x is ok plain) = absurd (never_both (sym ok))
      rises why same (RisesLost p end is err left) =
          lost p is stop result reply (subst (λ (q : Stop). LostAgain (beside_of b s) n note (site_in o) p q) (sym (same ∙ stopped_by err)) left)
      rises why same (RisesHeld p end is err left) =
          held p is stop result reply (subst (λ (q : Stop). HeldStill (beside_of b s) n note (site_in o) p q) (sym (same ∙ stopped_by err)) left)

      by : (answer : Result (Unit {0}) Stop) → HandsOut (cut_above between o.cut) answer (Err stop) → OverRises (beside_of b s) n note (site_in o) between answer → RaisesIs d (Recover name) s kept taken old new result
      by (Ok done) hands it = absurd (never_both (sym hands))
      by (Err why) hands it = rises why (stopped_by hands) it
