-- What a line that recovers a site over a group leads a yard to.
use Rattle.std.proofs.Common.{◌≡◌, ◌∙◌, inl, inr, ◌<◌, ℕ, Bool, true, false, List, [], map, ap, sym, subst, refl, arith, ⊎_elim, length, IsTrue}
use Rattle.std.specs.Prelude.{is_some, Option, Some, None, slice_get, slice_set, Result, Ok, Err, ◌&&◌, ◌||◌, eqb, unwrap_or}
use Rattle.std.proofs.lemmas.Option.{slice_get_within}
use Rattle.vx_model.specs.declared.errors.OutOfMemory.{OutOfMemory}
use Rattle.vx_model.specs.declared.errors.Stop.{Stop}
use Rattle.vx_model.specs.declared.errors.Stop.TheVariants.{No as StopsBy, OutOfMemory as MemoryStop}
use Rattle.vx_model.specs.declared.site.SiteState.{SiteState}
use Rattle.vx_model.specs.declared.site.SiteState.TheVariants.{Bare as IsBare, Up as IsUp, Deported as IsDeported, Down as IsDown}
use Rattle.vx_disk.specs.declared.shelf.Shelf.{Ghosts}
use Rattle.vx_config.specs.declared.config.Config.{Config}
use Rattle.vx_history.specs.Doubts.{Doubted, happened}
use Rattle.vx_history.specs.Groups.{GroupNode, MissedNote}
use Rattle.vx_history.specs.Missing.{with_maps}
use Rattle.vx_history.specs.Steps.{crashed}
use Rattle.vx_history.specs.World.{Node, World}
use Rattle.vx_history.specs.declared.event.Event.TheVariants.{Crash as CrashAt}
use Rattle.vx_order.specs.declared.facts.SiteFacts.{SiteFacts}
use Rattle.vx_report.specs.declared.view.Kept.{Kept}
use Rattle.vx_report.specs.declared.view.SiteView.{SiteView}
use Rattle.vx_script.specs.declared.line.ScriptLine.TheVariants.{Recover}
use Rattle.vx_grouped.proofs.MapNoteLemmas.{up_with_maps}
use Rattle.vx_grouped.specs.GroupNotes.{note_dimmed}
use Rattle.vx_grouped.specs.GroupSites.{DownNoted, UpNoted, site_config, site_disks}
use Rattle.vx_grouped.specs.SiteMaps.{CameMapped, RisenMaps, StandMaps, StaysMapped}
use Rattle.vx_grouped.specs.SiteReturns.{SiteRecovers, as_imported, is_dimmed, returned_with}
use Rattle.vx_grouped.specs.declared.group_site.GroupSite.{GroupSite}
use Rattle.vx_diskset.proofs.KeepsFailing.{failing_then}
use Rattle.vx_diskset.specs.Asked.{SameFailing}
use Rattle.vx_diskset.specs.DiskSets.{Later}
use Rattle.vx_diskset.specs.GroupCalls.{AtFound, AtSite, OnSites, config_in, core_in, cut_behind}
use Rattle.vx_diskset.specs.OverRises.{LooksOver}
use Rattle.vx_diskset.specs.Recovers.{LooksAt, RaisesGroup, RaisesMaps}
use Rattle.vx_diskset.specs.Stands.{IsRackTold, faults_at}
use Rattle.vx_diskset.specs.declared.disk_set.DiskSet.{DiskSet}
use Rattle.vx_diskset.specs.declared.disk_set.DiskSet.TheVariants.{OfGroup}
use Rattle.vx_diskset.specs.declared.group_set.CutWrite.{CutWrite}
use Rattle.vx_diskset.specs.declared.group_set.GroupSet.{GroupSet}
use Rattle.vx_diskset.specs.declared.group_set.KeptWrite.{KeptWrite}
use Rattle.vx_events.proofs.Parts.{none_done}
use Rattle.vx_events.proofs.Places.{some_same}
use Rattle.vx_events.specs.Doubts.{IsAs, run_as}
use Rattle.vx_events.specs.GroupEnds.{GroupEnds}
use Rattle.vx_events.specs.GroupLines.{is_over_group, noting, crash_first}
use Rattle.vx_events.specs.GroupNotes.{note_at, NotesShort, no_note}
use Rattle.vx_events.specs.GroupViews.{plain_fact, volumes_of}
use Rattle.vx_events.specs.LinkViews.{linked_view}
use Rattle.vx_events.specs.RvgBack.{RvgFinds}
use Rattle.vx_events.specs.RvgSteps.{FoundOne}
use Rattle.vx_events.specs.RvgViews.{is_over_rvg, over_disks}
use Rattle.vx_events.specs.StepsOver.{fact_of_group, group_place}
use Rattle.vx_events.specs.Parts.{StopsDown, StopsInPart, StopsShort, raises_first}
use Rattle.vx_events.specs.declared.said.Said.{Said}
use Rattle.vx_events.specs.declared.said.Said.TheVariants.{Resumed}
use Rattle.vx_yard.proofs.ChangeSite.{rose_none}
use Rattle.vx_yard.proofs.Lists.{get-set_same, set_twice}
use Rattle.vx_yard.proofs.OneSite.{Changed, told_by}
use Rattle.vx_yard.proofs.RecoverLine.{rose_then}
use Rattle.vx_rvg.specs.Views.{Core}
use Rattle.vx_above.proofs.Works.{beside_over}
use Rattle.vx_yard.specs.AboveLines.{LeadsBesideIs}
use Rattle.vx_yard.specs.Carries.{Carries}
use Rattle.vx_effects.specs.Facts.{down_fact}
use Rattle.vx_yard.specs.GroupFacts.{group_up_facts}
use Rattle.vx_yard.specs.Loads.{LetGo}
use Rattle.vx_yard.specs.OfSites.{OfSite}
use Rattle.vx_yard.specs.Replies.{reply_to}
use Rattle.vx_yard.specs.Standing.{Falls, LeadsOverOrStops, StandsFor, crash_of}
use Rattle.vx_yard.specs.Stands.{RoseAll}
use Rattle.vx_yard.specs.Yards.{IsTold, count_of, in_files}
use Rattle.vx_yard.specs.declared.yard.Yard.{Yard}
use Rattle.vx_packet.specs.Assemblies.{Assembled}
use Rattle.vx_group_lines.specs.Noting.{HasConfig, HasCore, HasNoCore, KeepsRest, made_facts, reply_noted}
use Rattle.vx_group_lines.specs.Rises.{ComesDown, FindsAbove, RisesBeside, RisesIs, StandsOver, StandsSo, StoodUp, kept_shown}
use Rattle.vx_group_lines.specs.Views.{view_with}
use Rattle.vx_group_lines.proofs.Arriving.{Arrives, arrives_crash, noted_at}
use Rattle.vx_group_lines.proofs.GroupAt.{GroupAt, down_noted, group_by, up_noted, up_notes, lit_up}
use Rattle.vx_group_lines.proofs.GroupCalls.{Called, SetThen, maps_were}
use Rattle.vx_group_lines.proofs.GroupMarks.{begins_at, noting_same}
use Rattle.vx_group_lines.proofs.GroupShown.{config_at}
use Rattle.vx_group_lines.proofs.MapComing.{MapsCame, bright_before, comes_up, config_with, recovered_so, returns_with}
use Rattle.vx_group_lines.proofs.MapGoing.{on_both, up_config}
use Rattle.vx_group_lines.proofs.Rising.{has_up, refused_as}
use Rattle.vx_group_lines.proofs.Raising.{Begins, RaisedTo, later_then, stays_back}
use Rattle.vx_group_lines.proofs.Resuming.{looked}
use Rattle.vx_model.specs.Sites.{is_up}
use Rattle.vx_model.proofs.Tests.{or_true}

-- the site of the line is over a group, which notes it
over_noted : (n : Node) → is_over_group n ≡ true → n.group ≡ Some (note_at n)
over_noted n over = by n.group refl
  where
    by : (o : Option GroupNode) → n.group ≡ o → n.group ≡ Some (note_at n)
    by None is = absurd (let e : false ≡ true = sym (ap (λ (x : Option GroupNode). is_some x && eqb (length n.volumes) 0) is) ∙ over in cc)
    by (Some note) is = is ∙ ap (λ (x : Option GroupNode). Some (unwrap_or x no_note)) (sym is)

module _ (told : Type 0) (d e : Doubted) (name : List ℕ) (s : ℕ) (next : GroupNode) (place : group_place d.world (Recover name) ≡ s) (over : is_over_group (d.world.nodes s) ≡ true) (comes : ComesDown d e s) (notes : NotesShort (note_at (e.world.nodes s)) next) where
  -- it crashed first, or may not agree
  raises_so : (is_up (d.world.nodes s).state || (note_at (d.world.nodes s)).loose) ≡ true → raises_first d.world (Recover name) ≡ true
  raises_so is =
      ap (λ (k : ℕ). is_over_group (d.world.nodes k) && (is_up (d.world.nodes k).state || (note_at (d.world.nodes k)).loose)) place
      ∙ ap (λ (b : Bool). b && (is_up (d.world.nodes s).state || (note_at (d.world.nodes s)).loose)) over ∙ is

  fell : (is_up (d.world.nodes s).state || (note_at (d.world.nodes s)).loose) ≡ true → StopsShort told d (Recover name) (noted_at e s next)
  fell is = StopsDown (record {
    raises = raises_so is;
    next = next;
    notes = subst (λ (k : ℕ). NotesShort (note_at (d.world.nodes k)) next) (sym place) (subst (λ (k : GroupNode). NotesShort k next) comes.note notes);
    leads = subst (λ (k : ℕ). let last = run_as false d (crash_first (d.world.nodes k).state k) in IsAs last (noting last.world k next) (noted_at e s next)) (sym place)
        (subst (λ (x : Doubted). IsAs x (noting x.world s next) (noted_at e s next)) (sym (refused_as d e s comes)) (record { world = refl; after = λ i. refl; strayed = refl }));
  })

  -- a site that was down is as it was
  whole : e ≡ d → next ≡ note_at (e.world.nodes s) → StopsShort told d (Recover name) (noted_at e s next)
  whole same is =
      let kept : noted_at e s next ≡ d =
      ap (λ (x : Doubted). noted_at x s next) same ∙ ap (λ (k : GroupNode). noted_at d s k) (is ∙ comes.note)
      ∙ ap (λ (w : World). let x : Doubted = record d { world = w } in x) (noting_same d.world s (note_at (d.world.nodes s)) (over_noted (d.world.nodes s) over)) in
      subst (λ (x : Doubted). StopsShort told d (Recover name) x) (sym kept) (StopsInPart (none_done d (Recover name)))

  -- what want of memory leaves of it
  stops_low : StopsShort told d (Recover name) (noted_at e s next)
  stops_low = ⊎_elim
      (λ (down : ((d.world.nodes s).state ≡ IsDown) × (e ≡ d)).
      ⊎_elim (λ same. whole down.1 same)
      (λ dark. fell (or_true (is_up (d.world.nodes s).state) (note_at (d.world.nodes s)).loose (ap (λ (k : GroupNode). k.loose) (sym comes.note) ∙ dark.0))) notes)
      (λ (up : ((d.world.nodes s).state ≡ IsUp) × (e ≡ happened d (CrashAt s 0) false)).
      fell (ap (λ (t : SiteState). is_up t || (note_at (d.world.nodes s)).loose) up.0))
      comes.how

-- a site that was down
pub down_first : (d : Doubted) (s : ℕ) → (d.world.nodes s).state ≡ IsDown → ComesDown d d s
down_first d s down = record { how = inl (down, refl); name = refl; disks = refl; blocks = refl; note = refl }

-- a site over a group that is neither bare, up nor deported is down
pub off_down : (t : SiteState) → (t ≡ IsBare → ⊥) → (t ≡ IsUp → ⊥) → (t ≡ IsDeported → ⊥) → t ≡ IsDown
off_down IsBare bare up away = absurd (bare refl)
off_down IsUp bare up away = absurd (up refl)
off_down IsDeported bare up away = absurd (away refl)
off_down IsDown bare up away = refl

module _ {R : Type 0} {g : Ghosts R} where
  -- ---- the two calls of a site

  -- what a reply leaves of the disks
  kept_mid : (stop : Stop) (s : ℕ) (f : SiteFacts) (mid new : Yard R g) (result : Result Said OutOfMemory) → reply_noted s f stop mid new result → (new.disk_sets.items ≡ mid.disk_sets.items) × (new.racks ≡ mid.racks)
  kept_mid (StopsBy why) s f mid new result it = (ap (λ es. es.items) it.same.disk_sets, it.same.racks)
  kept_mid MemoryStop s f mid new result it = (ap (λ (y : Yard R g). y.disk_sets.items) it.0, ap (λ (y : Yard R g). y.racks) it.0)

  pub dir_mid : (stop : Stop) (s : ℕ) (f : SiteFacts) (mid new : Yard R g) (result : Result Said OutOfMemory) → reply_noted s f stop mid new result → in_files new ≡ in_files mid
  dir_mid (StopsBy why) s f mid new result it = ap (λ d. is_some d) it.same.dir
  dir_mid MemoryStop s f mid new result it = ap (λ (y : Yard R g). in_files y) it.0

  module _ (old mid new : Yard R g) (s : ℕ) (before between : DiskSet R g) (first : RaisedTo old mid s before between) where
    -- the disks that came up are those that were looked at
    pub same_between : (cut : Option CutWrite) (result : Result Said OutOfMemory) (st : StoodUp s cut mid new result) → between ≡ st.before
    same_between cut result st =
        some_same
        (sym (ap (λ (es : List (DiskSet R g)). slice_get es s) first.disk_sets ∙ get-set_same old.disk_sets.items s between (slice_get_within old.disk_sets.items s before first.there)) ∙ st.there)

    pub changed_up : (cut : Option CutWrite) (result : Result Said OutOfMemory) (st : StoodUp s cut mid new result) → Changed old new s before st.after
    changed_up cut result st = record {
      there = first.there;
      later = later_then before st.before st.after (subst (λ (x : DiskSet R g). Later before x) (same_between cut result st) first.later) st.later;
      disk_sets = st.disk_sets ∙ ap (λ (es : List (DiskSet R g)). slice_set es s st.after) first.disk_sets ∙ set_twice old.disk_sets.items s between st.after;
      racks = st.racks ∙ first.racks;
    }

    pub failing_up : (cut : Option CutWrite) (result : Result Said OutOfMemory) (st : StoodUp s cut mid new result) → SameFailing before st.after
    failing_up cut result st = failing_then before st.before st.after (subst (λ (x : DiskSet R g). SameFailing before x) (same_between cut result st) first.failing) st.failing

    pub changed_down : (stop : Stop) (f : SiteFacts) (result : Result Said OutOfMemory) → reply_noted s f stop mid new result → Changed old new s before between
    changed_down stop f result it =
        let kept = kept_mid stop s f mid new result it in
        record { there = first.there; later = first.later; disk_sets = kept.0 ∙ first.disk_sets; racks = kept.1 ∙ first.racks }

    pub of_up : (cut : Option CutWrite) (result : Result Said OutOfMemory) (st : StoodUp s cut mid new result) → OfSite SameFailing s old new
    of_up cut result st =
        let changed = changed_up cut result st in
        record { before = before; after = st.after; there = changed.there; disk_sets = changed.disk_sets; did = failing_up cut result st }

    pub told_up : (cut : Option CutWrite) (result : Result Said OutOfMemory) (st : StoodUp s cut mid new result) → IsTold new → IsTold old
    told_up cut result st = told_by old new s before st.after (changed_up cut result st)

    pub of_down : (stop : Stop) (f : SiteFacts) (result : Result Said OutOfMemory) → reply_noted s f stop mid new result → OfSite SameFailing s old new
    of_down stop f result it =
        let changed = changed_down stop f result it in
        record { before = before; after = between; there = changed.there; disk_sets = changed.disk_sets; did = first.failing }

    pub told_down : (stop : Stop) (f : SiteFacts) (result : Result Said OutOfMemory) → reply_noted s f stop mid new result → IsTold new → IsTold old
    told_down stop f result it = told_by old new s before between (changed_down stop f result it)

    module _ (e : Doubted) (begin : Begins e s old) where
      pub came_up : (cut : Option CutWrite) (result : Result Said OutOfMemory) (t : GroupSet R g) → between ≡ OfGroup t → ((c : Config) → site_config t.site ≡ Some c → c.rvg ≡ None) → ((n : Node) (note : GroupNode) → AtSite (DownNoted n note) before → RaisesGroup n note before between (Ok cut))
          → ((n : Node) (note : GroupNode) → AtSite (DownNoted n note) before → RaisesMaps before between (Ok cut))
          → StoodUp s cut mid new result → RisesIs e s old new result
      came_up cut result t is_set alone raises moved st =
          let n : Node = e.world.nodes s in
          let note : GroupNode = note_at (e.world.nodes s) in
          let same : between ≡ st.before = same_between cut result st in
          let at : GroupAt e old [] s before = group_by e old [] s before begin.stands begin.below begin.over first.there in
          let call : Called e old new [] s before st.after = record { at = at; changed = changed_up cut result st; failing = failing_up cut result st } in
          let down : AtSite (DownNoted n note) before = subst (λ (x : DiskSet R g). AtSite (DownNoted n note) x) (sym at.is_set) (down_noted n at.set.site at.stands.stands begin.down) in
          let was : RaisesGroup n note (OfGroup at.set) st.before (Ok cut) =
          subst (λ (x : DiskSet R g). RaisesGroup n note x st.before (Ok cut)) at.is_set (subst (λ (x : DiskSet R g). RaisesGroup n note before x (Ok cut)) same (raises n note down)) in
          let plain : st.before ≡ OfGroup t = sym same ∙ is_set in
          let rm : SetThen (λ (x : GroupSite R g). SiteRecovers n note at.set.site x (Ok tt)) st.before
          = record { set = t; is = plain; holds = subst (λ (x : DiskSet R g). AtFound (λ y. SiteRecovers n note at.set.site y (Ok tt)) x) plain was.0 } in
          let seen : GroupNode = rm.holds.0 in
          let is_down : DownNoted n note at.set.site = down_noted n at.set.site at.stands.stands begin.down in
          let had : StandMaps note at.set.site = maps_were e old new [] s before st.after begin.stands call in
          let raised : CameMapped at.set.site t.site (Ok tt)
          = subst (λ (x : DiskSet R g). RaisesMaps (OfGroup at.set) x (Ok cut)) plain (subst (λ (x : DiskSet R g). RaisesMaps x st.before (Ok cut)) at.is_set (subst (λ (x : DiskSet R g). RaisesMaps before x (Ok cut)) same (moved n note down))) in
          let came : MapsCame (λ (w : MissedNote). RisenMaps (site_disks at.set.site) (site_disks rm.set.site) w) seen rm.set.site
          = comes_up n note seen (is_dimmed at.set.site) at.set.site rm.set.site rm.holds.3.now had is_down rm.holds.1.dark (up_config (returned_with seen n) seen rm.holds.3.now rm.set.site rm.holds.2 rm.holds.3.has) rm.holds.3.noted_now raised in
          let next : GroupNode = with_maps came.maps seen in
          let rm_up : UpNoted (returned_with next n) next rm.set.site = up_with_maps came.maps (returned_with seen n) seen rm.set.site rm.holds.2 in
          let st_up : AtSite (UpNoted (returned_with next n) next) st.before = subst (λ (x : DiskSet R g). AtSite (UpNoted (returned_with next n) next) x) (sym rm.is) rm_up in
          let up = has_up (returned_with next n) next rm.set.site rm_up in
          let later : Later before st.before = subst (λ (x : DiskSet R g). Later before x) same first.later in
          looked e s old new before st.after begin call rm.set.site next (returns_with came.maps (IsTrue (site_disks rm.set.site).tells) (note_dimmed (is_dimmed at.set.site) note) seen rm.holds.1)
          (config_with came.maps (note_dimmed (is_dimmed at.set.site) note) seen (as_imported at.set.site) rm.set.site rm.holds.3) (lit_up (returned_with next n) next rm.set.site rm_up)
          (λ set is. record {
            tells = λ yes_. subst (λ (x : DiskSet R g). IsRackTold x) rm.is (st.later.told (subst (λ (x : DiskSet R g). IsRackTold x) (sym is) yes_));
            from = λ k. omega (arith, later.counts k, ap (λ (x : DiskSet R g). faults_at x k) at.is_set, ap (λ (x : DiskSet R g). faults_at x k) rm.is);
            counts = λ k. omega (arith, st.later.counts k, ap (λ (x : DiskSet R g). faults_at x k) rm.is, ap (λ (x : DiskSet R g). faults_at x k) is);
          })
          cut (subst (λ (x : DiskSet R g). cut ≡ cut_behind x at.set.cut) plain was.2) up.config up.reads (alone up.config up.has) mid (record { facts = first.facts; load = first.load; flight = st.flight; feeders = st.feeders }) result
          (λ set is. on_both StaysMapped st.before st.after rm.set set rm.is is (st.maps (returned_with next n) next st_up) next came.stands)
          (λ bright tells. recovered_so n note next at.set.site (site_disks rm.set.site) is_down (bright_before (is_dimmed at.set.site) note next rm.holds.1.dark bright) tells (came.by bright tells) rm.holds.3.was (record { is = rm.holds.3.noted.is; spells = rm.holds.3.noted.spells }) (rm.holds.3.one tells)) st.answer
          (subst (λ (x : DiskSet R g). LooksAt (returned_with next n) next cut x st.after st.answer) rm.is (st.looks (returned_with next n) next st_up))
          (st.so (fact_of_group n note) up.config (ap (λ (fs : List SiteFacts). slice_get fs s) first.facts ∙ at.fact)
          (subst (λ (x : DiskSet R g). AtSite (λ y. site_config y ≡ Some up.config) x) (sym rm.is) up.has) (alone up.config up.has) (ap (λ (x : DiskSet R g). core_in x) plain))

      pub came_down : (stop : Stop) (result : Result Said OutOfMemory) (t : GroupSet R g) → between ≡ OfGroup t → ((n : Node) (note : GroupNode) → AtSite (DownNoted n note) before → RaisesGroup n note before between (Err stop))
          → ((n : Node) (note : GroupNode) → AtSite (DownNoted n note) before → RaisesMaps before between (Err stop))
          → ((f : SiteFacts) → slice_get mid.facts.items s ≡ Some f → reply_noted s f stop mid new result) → RisesIs e s old new result
      came_down stop result t is_set raises moved replied =
          let n : Node = e.world.nodes s in
          let note : GroupNode = note_at (e.world.nodes s) in
          let at : GroupAt e old [] s before = group_by e old [] s before begin.stands begin.below begin.over first.there in
          let down : AtSite (DownNoted n note) before = subst (λ (x : DiskSet R g). AtSite (DownNoted n note) x) (sym at.is_set) (down_noted n at.set.site at.stands.stands begin.down) in
          let it = replied (fact_of_group n note) (ap (λ (fs : List SiteFacts). slice_get fs s) first.facts ∙ at.fact) in
          let call : Called e old new [] s before between = record { at = at; changed = changed_down stop (fact_of_group n note) result it; failing = first.failing } in
          stays_back e s old new before between begin call stop t is_set (raises n note down) (moved n note down) mid first.facts first.load result replied

  -- ---- a site that was up

  -- it crashes before it is recovered
  pub record Fallen (d : Doubted) (s : ℕ) (old new : Yard R g) : Type 0 where
    pub begin : Begins (happened d (CrashAt s 0) false) s new
    pub comes : ComesDown d (happened d (CrashAt s 0) false) s
    pub carries : Carries d old → Carries (happened d (CrashAt s 0) false) new
    pub rose : RoseAll [] (count_of old) (count_of new)

  pub fallen : (d : Doubted) (s : ℕ) (old new : Yard R g) (before : DiskSet R g) → StandsFor d old → GroupAt d old [] s before → (d.world.nodes s).state ≡ IsUp → Falls d s old new → Fallen d s old new
  fallen d s old new before stands at up f =
      let n : Node = d.world.nodes s in
      let none = (up_notes n (note_at n) at.set.site (up_noted n at.set.site at.stands.stands up)).0.none in
      let fell : Arrives d (happened d (CrashAt s 0) false) s (crashed n 0) None = arrives_crash d d s n (d.world.gathering s) (begins_at d old [] s before stands at) at.below up none.log none.safe in
      let p = f.plain at.over in
      let is : crash_of d s f.count f.taken ≡ crash_of d s 0 false = ap (λ (b : Bool). crash_of d s f.count b) p.1 ∙ ap (λ (k : ℕ). crash_of d s k false) p.0 in
      record {
        begin = record {
          stands = subst (λ (x : Doubted). StandsFor x new) is f.stands;
          below = omega (arith, at.below, fell.site.sites);
          over = ap (λ (x : Node). is_over_group x) fell.node ∙ at.over;
          down = ap (λ (x : Node). x.state) fell.node;
        };
        comes = record {
          how = inr (up, refl);
          name = ap (λ (x : Node). x.name) fell.node;
          disks = ap (λ (x : Node). x.disks) fell.node;
          blocks = ap (λ (x : Node). x.blocks) fell.node;
          note = ap (λ (x : Node). note_at x) fell.node;
        };
        carries = λ was. subst (λ (x : Doubted). Carries x new) is (f.carries was);
        rose = f.rose;
      }

  -- ---- the line

  pub resumes : (d e : Doubted) (name : List ℕ) (s : ℕ) (old mid new : Yard R g) (result : Result Said OutOfMemory) → group_place d.world (Recover name) ≡ s → is_over_group (d.world.nodes s) ≡ true → ComesDown d e s
      → (Carries d old → Carries e mid) → RoseAll [] (count_of old) (count_of mid) → RisesIs e s mid new result → LeadsOverOrStops d (Recover name) old new result
  resumes d e name s old mid new (Ok said) place over comes before rose r = record {
    next = r.next;
    fails = r.fails;
    done = subst (λ (k : ℕ). GroupEnds (IsTold new) d (Recover name) k r.fails said r.next) (sym place) (r.done d name comes);
    stands = r.stands;
    carries = λ was. r.carries (before was);
    rose = rose_then r.fails (count_of old) (count_of mid) (count_of new) rose r.rose;
  }
  resumes d e name s old mid new (Err x) place over comes before rose r = record {
    next = noted_at e s r.note;
    part = stops_low (IsTold new) d e name s r.note place over comes r.notes;
    stands = r.stands;
    carries = λ was. r.carries (before was);
    rose = rose_then [] (count_of old) (count_of mid) (count_of new) rose r.rose;
  }

  -- where a replicated volume group was found
  finds_beside : (d e : Doubted) (name : List ℕ) (s : ℕ) (old mid new : Yard R g) (result : Result Said OutOfMemory) → group_place d.world (Recover name) ≡ s → ComesDown d e s → (Carries d old → Carries e mid)
      → RoseAll [] (count_of old) (count_of mid) → FindsAbove e s mid new result → LeadsBesideIs d (Recover name) old new result
  finds_beside d e name s old mid new (Ok said) place comes before rose f = record {
    next = f.next;
    fails = f.fails;
    works = FoundOne (subst (λ (k : ℕ). RvgFinds (IsTold new) d (Recover name) k f.fails said f.next) (sym place) (f.finds d name comes));
    stands = f.stands;
    carries = λ was. f.carries (before was);
    rose = rose_then f.fails (count_of old) (count_of mid) (count_of new) rose f.rose;
  }
  finds_beside d e name s old mid new (Err x) place comes before rose f = absurd f

  rises_beside : (d e : Doubted) (name : List ℕ) (s : ℕ) (old mid new : Yard R g) (result : Result Said OutOfMemory) → group_place d.world (Recover name) ≡ s → is_over_group (d.world.nodes s) ≡ true → ComesDown d e s
      → (Carries d old → Carries e mid) → RoseAll [] (count_of old) (count_of mid) → RisesBeside e s mid new result → LeadsBesideIs d (Recover name) old new result
  rises_beside d e name s old mid new result place over comes before rose (inl rises) =
      beside_over d (Recover name) old new result (ap (λ (k : ℕ). is_over_group (d.world.nodes k)) place ∙ over) (resumes d e name s old mid new result place over comes before rose rises)
  rises_beside d e name s old mid new result place over comes before rose (inr finds) = finds_beside d e name s old mid new result place comes before rose finds

  pub from_down : (d : Doubted) (name : List ℕ) (s : ℕ) (old new : Yard R g) (before : DiskSet R g) (result : Result Said OutOfMemory) → StandsFor d old → group_place d.world (Recover name) ≡ s → GroupAt d old name s before
      → (d.world.nodes s).state ≡ IsDown → ((e : Doubted) → StandsFor e old → s < e.world.sites → is_over_group (e.world.nodes s) ≡ true → (e.world.nodes s).state ≡ IsDown → RisesBeside e s old new result)
      → LeadsBesideIs d (Recover name) old new result
  from_down d name s old new before result stands place at down rises =
      rises_beside d d name s old old new result place at.over (down_first d s down) (λ was. was) (rose_none (count_of old) (count_of old) (λ i u. omega arith)) (rises d stands at.below at.over down)

  pub from_up : (d : Doubted) (name : List ℕ) (s : ℕ) (old mid new : Yard R g) (before : DiskSet R g) (result : Result Said OutOfMemory) → StandsFor d old → group_place d.world (Recover name) ≡ s → slice_get old.disk_sets.items s ≡ Some before → GroupAt d old name s before
      → (d.world.nodes s).state ≡ IsUp → ((d : Doubted) → StandsFor d old → s < d.world.sites → (d.world.nodes s).state ≡ IsUp → Falls d s old mid)
      → ((e : Doubted) → StandsFor e mid → s < e.world.sites → is_over_group (e.world.nodes s) ≡ true → (e.world.nodes s).state ≡ IsDown → RisesBeside e s mid new result)
      → LeadsBesideIs d (Recover name) old new result
  from_up d name s old mid new before result stands place there at up falls rises =
      let e : Doubted = happened d (CrashAt s 0) false in
      let f : Fallen d s old mid = fallen d s old mid before stands (group_by d old [] s before stands at.below at.over there) up (falls d stands at.below up) in
      rises_beside d e name s old mid new result place at.over f.comes f.carries f.rose (rises e f.begin.stands f.begin.below f.begin.over f.begin.down)

  -- ---- the group that came up, and the look

  pub stood_by : (s : ℕ) (cut : Option CutWrite) (old mid new : Yard R g) (before after : DiskSet R g) (answer : Result (Option KeptWrite) Stop) (result : Result Said OutOfMemory) → KeepsRest old mid
      → slice_get mid.disk_sets.items s ≡ Some before → new.disk_sets.items ≡ slice_set mid.disk_sets.items s after → ((n : Node) (note : GroupNode) → AtSite (UpNoted n note) before → LooksAt n note cut before after answer)
      → ((n : Node) (note : GroupNode) → AtSite (UpNoted n note) before → OnSites StaysMapped before after) → SameFailing before after → Later before after → new.racks ≡ mid.racks → new.flight ≡ mid.flight → new.feeders ≡ mid.feeders → new.dir ≡ mid.dir
      → LooksOver cut before after answer
      → ((f : SiteFacts) (c : Config) → slice_get old.facts.items s ≡ Some f → AtSite (λ x. site_config x ≡ Some c) before → c.rvg ≡ None → core_in before ≡ None → StandsSo s f c after answer old new result)
      → ((f : SiteFacts) (c : Config) (core : Core) → slice_get old.facts.items s ≡ Some f → AtSite (λ x. site_config x ≡ Some c) before → core_in before ≡ Some core → StandsOver s f c core after answer old new result) → StoodUp s cut old new result
  stood_by s cut old mid new before after answer result rest there disk_sets looks maps failing later racks flight feeders dir over so above = record {
    before = before;
    after = after;
    answer = answer;
    there = ap (λ es. slice_get es.items s) (sym rest.disk_sets) ∙ there;
    disk_sets = disk_sets ∙ ap (λ es. slice_set es.items s after) rest.disk_sets;
    looks = looks;
    maps = maps;
    failing = failing;
    later = later;
    racks = racks ∙ rest.racks;
    flight = flight ∙ rest.flight;
    feeders = feeders ∙ rest.feeders;
    dir = dir ∙ rest.dir;
    over = over;
    so = so;
    above = above;
  }

  -- what the tests see of it
  noted_up : (s : ℕ) (old mid : Yard R g) (before : DiskSet R g) (f : SiteFacts) (c : Config) → KeepsRest old mid → slice_get mid.disk_sets.items s ≡ Some before → slice_get old.facts.items s ≡ Some f
      → AtSite (λ x. site_config x ≡ Some c) before → c.rvg ≡ None → core_in before ≡ None
      → ((f : SiteFacts) (c : Config) → slice_get old.facts.items s ≡ Some f → HasConfig s c old → c.rvg ≡ None → HasNoCore s old → mid.facts.items ≡ slice_set old.facts.items s (group_up_facts (map plain_fact c.volumes) f))
      → mid.facts.items ≡ slice_set old.facts.items s (group_up_facts (map plain_fact c.volumes) f)
  noted_up s old mid before f c rest there at is plain none noted =
      let here : slice_get old.disk_sets.items s ≡ Some before = ap (λ es. slice_get es.items s) (sym rest.disk_sets) ∙ there in
      noted f c at (record { disk_set = before; there = here; is = is }) plain (record { disk_set = before; there = here; is = none })

  noted_over : (s : ℕ) (old mid : Yard R g) (before : DiskSet R g) (f : SiteFacts) (c : Config) (core : Core) → KeepsRest old mid → slice_get mid.disk_sets.items s ≡ Some before → slice_get old.facts.items s ≡ Some f
      → AtSite (λ x. site_config x ≡ Some c) before → core_in before ≡ Some core
      → ((f : SiteFacts) (c : Config) (core : Core) → slice_get old.facts.items s ≡ Some f → HasConfig s c old → HasCore s core old → mid.facts.items ≡ slice_set old.facts.items s (made_facts core c f))
      → mid.facts.items ≡ slice_set old.facts.items s (made_facts core c f)
  noted_over s old mid before f c core rest there at is has noted =
      let here : slice_get old.disk_sets.items s ≡ Some before = ap (λ es. slice_get es.items s) (sym rest.disk_sets) ∙ there in
      noted f c core at (record { disk_set = before; there = here; is = is }) (record { disk_set = before; there = here; is = has })

  seen_up : (s : ℕ) (old mid : Yard R g) (f x : SiteFacts) → slice_get old.facts.items s ≡ Some f → mid.facts.items ≡ slice_set old.facts.items s x → slice_get mid.facts.items s ≡ Some x
  seen_up s old mid f x at is = ap (λ (fs : List SiteFacts). slice_get fs s) is ∙ get-set_same old.facts.items s x (slice_get_within old.facts.items s f at)

  -- its answer, where what is kept was read
  pub so_up : (s : ℕ) (old mid new : Yard R g) (before after : DiskSet R g) (kept : Option KeptWrite) (shown : Option Kept) (view : SiteView) → KeepsRest old mid → slice_get mid.disk_sets.items s ≡ Some before
      → new.facts.items ≡ mid.facts.items → new.assemblies ≡ mid.assemblies → mid.assemblies ≡ old.assemblies → slice_get new.disk_sets.items s ≡ Some after → shown ≡ kept_shown (volumes_of (config_in after)) kept
      → ((f : SiteFacts) (c : Config) → slice_get old.facts.items s ≡ Some f → HasConfig s c old → c.rvg ≡ None → HasNoCore s old → mid.facts.items ≡ slice_set old.facts.items s (group_up_facts (map plain_fact c.volumes) f))
      → ((f : SiteFacts) (c : Config) → slice_get new.facts.items s ≡ Some f → f.rvg ≡ None → HasConfig s c new → view ≡ view_with f (Some c))
      → (f : SiteFacts) (c : Config) → slice_get old.facts.items s ≡ Some f → AtSite (λ x. site_config x ≡ Some c) before → c.rvg ≡ None → core_in before ≡ None → StandsSo s f c after (Ok kept) old new (Ok (Resumed view shown))
  so_up s old mid new before after kept shown view rest there facts loads held here shows noted views f c at is plain none =
      let x : SiteFacts = group_up_facts (map plain_fact c.volumes) f in
      let marked : mid.facts.items ≡ slice_set old.facts.items s x = noted_up s old mid before f c rest there at is plain none noted in
      let now : slice_get new.facts.items s ≡ Some x = ap (λ (fs : List SiteFacts). slice_get fs s) facts ∙ seen_up s old mid f x at marked in (
        facts ∙ marked,
        loads ∙ held,
        λ k has.
            ap (λ (v : SiteView). Ok (Resumed v shown)) (views x k now refl (record { disk_set = after; there = here; is = has }))
            ∙ ap (λ (o : Option Kept). Ok (Resumed (view_with x (Some k)) o)) (shows ∙ ap (λ (o : Option Config). kept_shown (volumes_of o) kept) (config_at after (Some k) has)),
      )

  -- the same with a replicated volume group over it
  pub above_up : (s : ℕ) (old mid new : Yard R g) (before after : DiskSet R g) (kept : Option KeptWrite) (shown : Option Kept) (view : SiteView) → KeepsRest old mid → slice_get mid.disk_sets.items s ≡ Some before
      → new.facts.items ≡ mid.facts.items → new.assemblies ≡ mid.assemblies → mid.assemblies ≡ old.assemblies → shown ≡ kept_shown (volumes_of (config_in after)) kept
      → ((f : SiteFacts) (c : Config) (core : Core) → slice_get old.facts.items s ≡ Some f → HasConfig s c old → HasCore s core old → mid.facts.items ≡ slice_set old.facts.items s (made_facts core c f))
      → ((e : Doubted) (f : SiteFacts) → StandsFor e new → s < e.world.sites → is_over_rvg (e.world.nodes s) ≡ true → slice_get new.facts.items s ≡ Some f → f.links ≡ []
      → view ≡ over_disks (e.world.nodes s) (note_at (e.world.nodes s)) (linked_view e.world s))
      → (f : SiteFacts) (c : Config) (core : Core) → slice_get old.facts.items s ≡ Some f → AtSite (λ x. site_config x ≡ Some c) before → core_in before ≡ Some core → StandsOver s f c core after (Ok kept) old new (Ok (Resumed view shown))
  above_up s old mid new before after kept shown view rest there facts loads held shows noted views f c core at is has =
      let x : SiteFacts = made_facts core c f in
      let marked : mid.facts.items ≡ slice_set old.facts.items s x = noted_over s old mid before f c core rest there at is has noted in
      let now : slice_get new.facts.items s ≡ Some x = ap (λ (fs : List SiteFacts). slice_get fs s) facts ∙ seen_up s old mid f x at marked in (
        facts ∙ marked,
        loads ∙ held,
        λ e stands below over unlinked.
            ap (λ (v : SiteView). Ok (Resumed v shown)) (views e x stands below over now unlinked)
            ∙ ap (λ (o : Option Kept). Ok (Resumed (over_disks (e.world.nodes s) (note_at (e.world.nodes s)) (linked_view e.world s)) o)) shows,
      )

  -- and where it was not
  fell_seen : (s : ℕ) (old mid near new : Yard R g) (f x : SiteFacts) → slice_get old.facts.items s ≡ Some f → near.facts.items ≡ mid.facts.items → mid.facts.items ≡ slice_set old.facts.items s x
      → ((f : SiteFacts) → slice_get near.facts.items s ≡ Some f → new.facts.items ≡ slice_set near.facts.items s (down_fact f)) → new.facts.items ≡ slice_set old.facts.items s (down_fact x)
  fell_seen s old mid near new f x at facts marked fell =
      let now : slice_get near.facts.items s ≡ Some x = ap (λ (fs : List SiteFacts). slice_get fs s) facts ∙ seen_up s old mid f x at marked in
      fell x now ∙ ap (λ (fs : List SiteFacts). slice_set fs s (down_fact x)) (facts ∙ marked) ∙ set_twice old.facts.items s x (down_fact x)

  pub so_down : (s : ℕ) (old mid near new : Yard R g) (before after : DiskSet R g) (stop : Stop) (result : Result Said OutOfMemory) → KeepsRest old mid → slice_get mid.disk_sets.items s ≡ Some before → near.facts.items ≡ mid.facts.items
      → near.assemblies ≡ mid.assemblies → mid.assemblies ≡ old.assemblies
      → ((f : SiteFacts) (c : Config) → slice_get old.facts.items s ≡ Some f → HasConfig s c old → c.rvg ≡ None → HasNoCore s old → mid.facts.items ≡ slice_set old.facts.items s (group_up_facts (map plain_fact c.volumes) f))
      → ((f : SiteFacts) → slice_get near.facts.items s ≡ Some f → new.facts.items ≡ slice_set near.facts.items s (down_fact f)) → LetGo s near.assemblies.items new.assemblies.items → result ≡ reply_to stop
      → (f : SiteFacts) (c : Config) → slice_get old.facts.items s ≡ Some f → AtSite (λ x. site_config x ≡ Some c) before → c.rvg ≡ None → core_in before ≡ None → StandsSo s f c after (Err stop) old new result
  so_down s old mid near new before after stop result rest there facts loads held noted fell lets replied f c at is plain none = (
    fell_seen s old mid near new f (group_up_facts (map plain_fact c.volumes) f) at facts (noted_up s old mid before f c rest there at is plain none noted) fell,
    subst (λ (xs : List Assembled). LetGo s xs new.assemblies.items) (ap (λ xs. xs.items) (loads ∙ held)) lets,
    replied,
  )

  pub above_down : (s : ℕ) (old mid near new : Yard R g) (before after : DiskSet R g) (stop : Stop) (result : Result Said OutOfMemory) → KeepsRest old mid → slice_get mid.disk_sets.items s ≡ Some before → near.facts.items ≡ mid.facts.items
      → near.assemblies ≡ mid.assemblies → mid.assemblies ≡ old.assemblies
      → ((f : SiteFacts) (c : Config) (core : Core) → slice_get old.facts.items s ≡ Some f → HasConfig s c old → HasCore s core old → mid.facts.items ≡ slice_set old.facts.items s (made_facts core c f))
      → ((f : SiteFacts) → slice_get near.facts.items s ≡ Some f → new.facts.items ≡ slice_set near.facts.items s (down_fact f)) → LetGo s near.assemblies.items new.assemblies.items → result ≡ reply_to stop
      → (f : SiteFacts) (c : Config) (core : Core) → slice_get old.facts.items s ≡ Some f → AtSite (λ x. site_config x ≡ Some c) before → core_in before ≡ Some core → StandsOver s f c core after (Err stop) old new result
  above_down s old mid near new before after stop result rest there facts loads held noted fell lets replied f c core at is has = (
    fell_seen s old mid near new f (made_facts core c f) at facts (noted_over s old mid before f c core rest there at is has noted) fell,
    subst (λ (xs : List Assembled). LetGo s xs new.assemblies.items) (ap (λ xs. xs.items) (loads ∙ held)) lets,
    replied,
  )

  -- memory ran out before anything was done
  pub unbegun_rise : (d : Doubted) (name : List ℕ) (y : Yard R g) (r : Result Said OutOfMemory) (x : OutOfMemory) → r ≡ Err x → StandsFor d y → LeadsOverOrStops d (Recover name) y y r
  unbegun_rise d name y r x is stands =
      subst (λ (q : Result Said OutOfMemory). LeadsOverOrStops d (Recover name) y y q) (sym is) (record {
        next = d;
        part = StopsInPart (none_done d (Recover name));
        stands = stands;
        carries = λ was. was;
        rose = rose_none (count_of y) (count_of y) (λ i u. omega arith);
      })
