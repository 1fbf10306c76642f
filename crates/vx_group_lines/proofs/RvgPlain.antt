-- What a recovery of a site whose group has a replicated volume group leads its yard to, where nothing was known of the disks, and a group without one came up.
use Rattle.std.proofs.Common.{◌≡◌, ◌∙◌, ◌++◌, ◌<◌, ℕ, Bool, true, false, List, [], map, ap, sym, subst, refl, arith, inr, IsTrue}
use Rattle.std.proofs.lemmas.List.{append-nil}
use Rattle.std.proofs.lemmas.Option.{slice_get_within}
use Rattle.std.specs.Prelude.{Option, Some, None, slice_get, slice_set, unwrap_or, Result, Ok, Err}
use Rattle.vx_model.specs.declared.errors.OutOfMemory.{OutOfMemory}
use Rattle.vx_model.specs.declared.errors.Stop.{Stop}
use Rattle.vx_model.specs.declared.errors.Stop.TheVariants.{No as StopsBy, OutOfMemory as MemoryStop}
use Rattle.vx_model.specs.declared.no.No.TheVariants.{Device}
use Rattle.vx_model.specs.declared.site.SiteState.{SiteState}
use Rattle.vx_model.specs.declared.site.SiteState.TheVariants.{Up as IsUp, Down as IsDown}
use Rattle.vx_disk.specs.declared.shelf.Shelf.{Ghosts}
use Rattle.vx_config.specs.declared.config.Config.{Config}
use Rattle.vx_effects.proofs.Headers.{count_none}
use Rattle.vx_effects.proofs.Leaving.{fit_disks, fit_found}
use Rattle.vx_history.specs.Doubts.{Doubted}
use Rattle.vx_history.specs.Events.{recovery_greeting}
use Rattle.vx_history.specs.Groups.{GroupNode, MissedNote}
use Rattle.vx_history.specs.KeptLinks.{kept_links}
use Rattle.vx_history.specs.Listed.{HasPlaces, links_in}
use Rattle.vx_history.specs.Missing.{with_maps}
use Rattle.vx_history.specs.Sends.{is_linked}
use Rattle.vx_history.specs.Steps.{burned, group_set, worked}
use Rattle.vx_history.specs.World.{Fuse, Gathering, Link, Node, NoFuse, no_link}
use Rattle.vx_order.specs.declared.facts.SiteFacts.{SiteFacts}
use Rattle.vx_order.specs.declared.facts.VolumeFacts.{VolumeFacts}
use Rattle.vx_report.specs.declared.view.Kept.{Kept}
use Rattle.vx_report.specs.declared.view.SiteView.{SiteView}
use Rattle.vx_script.specs.declared.line.ScriptLine.TheVariants.{Recover}
use Rattle.vx_grouped.proofs.MapNoteLemmas.{up_with_maps}
use Rattle.vx_grouped.specs.GroupSites.{DownNoted, UpNoted, laid_below, laid_disks, site_below, site_config}
use Rattle.vx_grouped.specs.SetFuses.{HasFuse}
use Rattle.vx_grouped.specs.SiteMaps.{CameMapped, MapsOf, StandMaps, StaysMapped}
use Rattle.vx_grouped.specs.SiteReturns.{returned_with}
use Rattle.vx_grouped.specs.declared.group_site.GroupSite.{GroupSite}
use Rattle.vx_grouped.specs.declared.group_site.GroupSite.TheVariants.{Up as SiteUp, Deported as SiteAway, Down as SiteDown, Marked, Gone as SiteGone}
use Rattle.vx_diskset.proofs.GroupStands.{IsLikeGroup, up_like}
use Rattle.vx_diskset.specs.Aboves.{site_in}
use Rattle.vx_diskset.specs.Asked.{SameFailing}
use Rattle.vx_diskset.specs.GroupCalls.{AtSite, core_in, cut_in}
use Rattle.vx_diskset.specs.GroupSets.{cut_value}
use Rattle.vx_diskset.specs.Noted.{below_rvg}
use Rattle.vx_diskset.specs.OverRises.{PlainAgain, note_ready}
use Rattle.vx_diskset.specs.Recovers.{LooksAt, RisesWith}
use Rattle.vx_diskset.specs.Stands.{IsRackTold}
use Rattle.vx_diskset.specs.declared.disk_set.DiskSet.{DiskSet}
use Rattle.vx_diskset.specs.declared.disk_set.DiskSet.TheVariants.{OfGroup, Over}
use Rattle.vx_diskset.specs.declared.group_set.CutWrite.{CutWrite}
use Rattle.vx_diskset.specs.declared.group_set.GroupSet.{GroupSet}
use Rattle.vx_diskset.specs.declared.group_set.KeptWrite.{KeptWrite}
use Rattle.vx_diskset.specs.declared.over_set.OverSet.{OverSet}
use Rattle.vx_events.proofs.Steps.{no_sites}
use Rattle.vx_events.specs.Effects.{EffectAt}
use Rattle.vx_events.specs.Ends.{found_linked}
use Rattle.vx_events.specs.Found.{ComesUpAs}
use Rattle.vx_events.specs.GroupEnds.{KnowsNothing}
use Rattle.vx_events.specs.GroupLines.{noting}
use Rattle.vx_events.specs.GroupNotes.{no_note, note_at}
use Rattle.vx_events.specs.GroupViews.{grouped_view, plain_fact}
use Rattle.vx_events.specs.LinkedFacts.{linked_fact, links_by, links_of_site}
use Rattle.vx_events.specs.LinksFit.{RowFits}
use Rattle.vx_events.specs.RvgBack.{FindsPlain, RvgFinds, unmade_site}
use Rattle.vx_events.specs.RvgFits.{config_rvg, rvg_noted}
use Rattle.vx_events.specs.StepsOver.{fact_of_group}
use Rattle.vx_events.specs.Strays.{gone_astray}
use Rattle.vx_events.specs.declared.said.Said.{Said}
use Rattle.vx_events.specs.declared.said.Said.TheVariants.{Resumed}
use Rattle.vx_yard.proofs.CrashLine.{rose_still}
use Rattle.vx_yard.proofs.FailsStay.{fails_then}
use Rattle.vx_yard.proofs.FuseStays.{fused_none}
use Rattle.vx_yard.proofs.Lists.{get-set_same}
use Rattle.vx_yard.proofs.OneSite.{Changed}
use Rattle.vx_yard.specs.GroupFacts.{group_up_facts}
use Rattle.vx_yard.specs.Standing.{BeginsFirst}
use Rattle.vx_yard.specs.Yards.{IsTold}
use Rattle.vx_yard.specs.declared.yard.Yard.{Yard}
use Rattle.vx_above.proofs.GroupStatus.{table_is}
use Rattle.vx_above.proofs.RiseWorlds.{behind_disks, found_effect, own_gathering, own_is, own_node, own_packets, own_sites}
use Rattle.vx_above.specs.OwnDisks.{own_disks}
use Rattle.vx_group_lines.specs.Rises.{StandsSo, StoodUp, kept_shown}
use Rattle.vx_group_lines.specs.RvgRises.{RaisesIs, rests_as, rests_world}
use Rattle.vx_group_lines.specs.Views.{view_with}
use Rattle.vx_group_lines.proofs.Arriving.{Arrives, arrives_as, arrives_none, arrives_noted, arrives_then}
use Rattle.vx_group_lines.proofs.GroupAt.{up_notes}
use Rattle.vx_group_lines.proofs.GroupCalls.{SetThen, set_then}
use Rattle.vx_group_lines.proofs.GroupLeads.{Follows, follows_on, up_set}
use Rattle.vx_group_lines.proofs.GroupShown.{view_up}
use Rattle.vx_group_lines.proofs.MapComing.{stands_up}
use Rattle.vx_group_lines.proofs.MapGoing.{on_both}
use Rattle.vx_group_lines.proofs.Raising.{RaisedTo}
use Rattle.vx_group_lines.proofs.Rising.{HasUp, has_up}
use Rattle.vx_group_lines.proofs.RvgAtRest.{AtRest, called_rest, first_fact, rest_set, stood_changed, stood_failing, stood_load, stood_same}
use Rattle.vx_group_lines.proofs.RvgComing.{DownCall, rest_fell, rest_links, rest_stood, rest_sure, rest_unfused}
use Rattle.vx_group_lines.proofs.RvgFound.{arrives_astray, knows_nothing}
use Rattle.vx_group_lines.proofs.RvgWorlds.{own_state}

-- ---- a site without links

none_places : (sites : ℕ) → HasPlaces sites (λ k. no_link)
none_places sites = record {
  within = λ k linked. absurd (let e : false ≡ true = linked in cc);
  below = λ k place made. absurd (let e : None ≡ Some place = made in cc);
  apart = λ k t place made too. absurd (let e : None ≡ Some place = made in cc);
  filled = λ place low. let none : links_in sites (λ k. no_link) ≡ 0 = count_none sites (λ k. is_linked no_link) (λ k. refl) in absurd (omega (arith, low, none));
}

pub none_fits : (p sites : ℕ) → RowFits p sites (λ k. no_link)
none_fits p sites = record {
  places = none_places sites;
  apart = λ k linked same. let e : false ≡ true = linked in absurd (cc);
  plain = λ k linked. absurd (let e : false ≡ true = linked in cc);
  none = λ k free. refl;
}

-- ---- the node

-- as it is made anew, with the disks that are made to fail
own_made : (b : Bool) (s : ℕ) (was n : Node) (next : GroupNode) → (let x : Node = own_node b was (group_set s (unmade_site n)) in let y : Node = record x { group = Some next } in y)
    ≡ (let y : Node = record (group_set s (unmade_site (own_node b was n))) { group = Some next } in y)
own_made true s was n next = refl
own_made false s was n next = refl

own_called : (b : Bool) (was n : Node) → (own_node b was n).name ≡ n.name
own_called true was n = refl
own_called false was n = refl

-- what the tests see of it
made_fact : (core_volumes : List VolumeFacts) (b : Doubted) (s : ℕ) (next : GroupNode) (m : Node) → m ≡ (let y : Node = record (group_set s (unmade_site (b.world.nodes s))) { group = Some next } in y) → (b.world.nodes s).state ≡ IsDown
    → core_volumes ≡ (fact_of_group m next).volumes → group_up_facts core_volumes (linked_fact b.world s) ≡ fact_of_group m next
made_fact volumes b s next m is down table =
    ap (λ (t : SiteState). let x : SiteFacts = record (group_up_facts volumes (linked_fact b.world s)) { links = links_by t (links_of_site b.world s) } in x) down
    ∙ ap (λ (vs : List VolumeFacts). let x : SiteFacts = record (fact_of_group (group_set s (unmade_site (b.world.nodes s))) next) { volumes = vs } in x) table
    ∙ ap (λ (k : Node). fact_of_group k next) (sym is)

module _ {R : Type 0} {g : Ghosts R} where
  -- a group that is up by another node
  pub up_as : (n k : Node) → IsLikeGroup n k → (note : GroupNode) (e : GroupSite R g) → UpNoted n note e → UpNoted k note e
  up_as n k like note (SiteUp laid) it = up_like n k like note (laid_below laid).tells laid.core (laid_disks laid) it
  up_as n k like note (SiteAway idle) it = absurd it
  up_as n k like note (SiteDown idle) it = absurd it
  up_as n k like note (Marked rack) it = absurd it
  up_as n k like note SiteGone it = absurd it

  -- what was noted of the maps of a group that came up, where nothing was known of it
  came_some : (n : Node) (note : GroupNode) (old new : GroupSite R g) (d : Config) → DownNoted n note old → CameMapped old new (Ok tt) → site_config new ≡ Some d → (w : MissedNote) × MapsOf w d new
  came_some n note (SiteUp laid) new d down came is = absurd down
  came_some n note (SiteAway idle) new d down came is = absurd down
  came_some n note (SiteDown idle) new d down came is = came.some d is
  came_some n note (Marked rack) new d down came is = absurd down
  came_some n note SiteGone new d down came is = absurd down

  -- without a write that was cut nothing is read, and no disk fails
  never_unread : (n : Node) (note : GroupNode) (e : GroupSite R g) (after : DiskSet R g) (stop : Stop) → RisesWith n note None e after (Err stop) → ⊥
  never_unread n note e after (StopsBy (Device disk)) it = it.2
  never_unread n note e after (StopsBy other) it = it
  never_unread n note e after MemoryStop it = it

  module _ (d : Doubted) (name : List ℕ) (s kept : ℕ) (taken : Bool) (old mid new : Yard R g) (before between : DiskSet R g) (first : RaisedTo old mid s before between) (at : AtRest d s kept taken old)
      (cut : Option CutWrite) (result : Result Said OutOfMemory) (st : StoodUp s cut mid new result) (x : GroupSet R g) (is : between ≡ OfGroup x) (none : cut ≡ None)
      (r : PlainAgain ((rests_as d s kept taken).world.nodes s) (note_at ((rests_as d s kept taken).world.nodes s)) (site_in (rest_set d s kept taken old mid new before between first at)) x) where
    abbrev h : Doubted
    h = rests_world d s kept taken

    abbrev b : Doubted
    b = rests_as d s kept taken

    abbrev n : Node
    n = (rests_as d s kept taken).world.nodes s

    abbrev note : GroupNode
    note = note_at ((rests_as d s kept taken).world.nodes s)

    abbrev o : OverSet R g
    o = rest_set d s kept taken old mid new before between first at

    call : DownCall b old new s o st.after
    call =
        called_rest d s kept taken old mid new before between first at st.after (stood_changed d s kept taken old mid new before between first at cut result st)
        (stood_failing d s kept taken old mid new before between first at cut result st)

    unfused : n.fuse ≡ NoFuse
    unfused = rest_unfused b old new s o st.after call

    -- the set that came up
    at_group : st.before ≡ OfGroup x
    at_group = sym (stood_same d s kept taken old mid new before between first at cut result st) ∙ is

    at_site : x.site ≡ SiteUp r.laid
    at_site = ap (λ (y : GroupSet R g). y.site) r.is

    -- ---- the note

    memory : (w : MissedNote) × MapsOf w r.laid.core.inner.config (SiteUp r.laid)
    memory = came_some (below_rvg n) note (site_in o) (SiteUp r.laid) r.laid.core.inner.config (rest_fell b old new s o st.after call) r.maps refl

    abbrev next : GroupNode
    next = with_maps memory.0 r.group.middle

    -- the node of the group, before its data volumes are gone
    abbrev group_node : Node
    group_node = record (returned_with r.group.middle (record (below_rvg n) { group = Some (note_ready (site_in o) note) })) { group = Some next }

    up_first : UpNoted group_node next (SiteUp r.laid)
    up_first = up_with_maps memory.0 (returned_with r.group.middle (record (below_rvg n) { group = Some (note_ready (site_in o) note) })) r.group.middle (SiteUp r.laid) r.group.up

    at_up : AtSite (UpNoted group_node next) st.before
    at_up = subst (λ (e : DiskSet R g). AtSite (UpNoted group_node next) e) (sym at_group) (subst (λ (e : GroupSite R g). UpNoted group_node next e) (sym at_site) up_first)

    has : HasUp group_node next (SiteUp r.laid)
    has = has_up group_node next (SiteUp r.laid) up_first

    plain : rvg_noted next ≡ None
    plain = ap (λ (c : Option Config). config_rvg c) has.reads ∙ rvg_of
      where
        rvg_of : has.config.rvg ≡ None
        rvg_of = ap (λ (c : Option Config). config_rvg c) (sym has.has) ∙ r.none

    looks : (answer : Result (Option KeptWrite) Stop) → st.answer ≡ answer → RisesWith group_node next None x.site st.after answer
    looks answer so =
        subst (λ (q : Result (Option KeptWrite) Stop). RisesWith group_node next None x.site st.after q) so
        (subst (λ (c : Option CutWrite). LooksAt group_node next c (OfGroup x) st.after st.answer) none
        (subst (λ (e : DiskSet R g). LooksAt group_node next cut e st.after st.answer) at_group (st.looks group_node next at_up)))

    -- ---- the world

    abbrev at_h : Node
    at_h = h.world.nodes s

    abbrev k : Node
    k = group_set s (unmade_site (h.world.nodes s))

    abbrev row : ℕ → Link
    row = λ j. no_link

    abbrev shown : Doubted
    shown = own_disks taken s d.world (found_linked h s (group_set s (unmade_site (h.world.nodes s))) (λ j. no_link))

    abbrev m : Node
    m = record (group_set s (unmade_site ((rests_as d s kept taken).world.nodes s))) { group = Some next }

    abbrev left : Doubted
    left = let e : Doubted = shown in gone_astray (record e { world = noting e.world s next })

    below_h : s < h.world.sites
    below_h = subst (λ (i : ℕ). s < i) (own_sites s d.world h taken) at.below

    down_h : at_h.state ≡ IsDown
    down_h = sym (ap (λ (y : Node). y.state) (own_is s d.world h taken) ∙ own_state taken (d.world.nodes s) at_h) ∙ at.down

    comes_as : ComesUpAs s h.world.sites (let y : Node = record at_h { volumes = [] } in y) k row
    comes_as = record {
      same = record { name = refl; disks = refl; blocks = refl; volumes = refl; up = refl; running = refl; failing = refl; fuse = refl; group = refl };
      whole = refl;
      quiet = refl;
      rests = refl;
      fits = none_fits s h.world.sites;
      starts = λ j linked. let e : false ≡ true = linked in absurd (cc);
    }

    effect : EffectAt s b shown (own_node taken (d.world.nodes s) k) row (h.world.headers s) (h.after s) (h.world.packets ++ recovery_greeting s k) (h.world.gathering s)
    effect = behind_disks s d.world h (found_linked h s k row) k row (h.world.headers s) (h.after s) (h.world.packets ++ recovery_greeting s k) (h.world.gathering s) taken (found_effect h s k row)

    sure : b.after s ≡ None
    sure = rest_sure b old new s o st.after call

    first_there : BeginsFirst s (own_node taken (d.world.nodes s) k)
    first_there = by taken
      where
        by : (t : Bool) → BeginsFirst s (own_node t (d.world.nodes s) k)
        by true = λ made empty. record { state = refl; session = refl; low = refl }
        by false = λ made empty. record { state = refl; session = refl; low = refl }

    came : Arrives b shown s (own_node taken (d.world.nodes s) k) (b.world.gathering s)
    came =
        subst (λ (y : Option Gathering). Arrives b shown s (own_node taken (d.world.nodes s) k) y) (sym (own_gathering s d.world h taken))
        (arrives_then b b shown s n (own_node taken (d.world.nodes s) k) row (h.world.headers s) (h.after s) (h.world.packets ++ recovery_greeting s k) (b.world.gathering s) (h.world.gathering s)
        (arrives_none b s at.stands.links sure (rest_links b old new s o st.after call)) effect
        (fit_disks taken s d.world (found_linked h s k row) (fit_found h s (let y : Node = record at_h { volumes = [] } in y) k row below_h sure comes_as at.rests.fits)) sure
        (append-nil h.world.packets ∙ sym (own_packets s d.world h taken))
        (ap (λ (ss : List ℕ). kept_links row ss) (no_sites row b.world.sites 0 b.world.sites (λ j. refl))) (λ _. first_there))

    arrives : Arrives b left s m (b.world.gathering s)
    arrives =
        arrives_astray b (record shown { world = noting shown.world s next }) s m (b.world.gathering s)
        (arrives_as b (record shown { world = noting shown.world s next }) s (let y : Node = record (own_node taken (d.world.nodes s) k) { group = Some next } in y) m (b.world.gathering s)
        (own_made taken s (d.world.nodes s) at_h next ∙ ap (λ (y : Node). let q : Node = record (group_set s (unmade_site y)) { group = Some next } in q) (sym (own_is s d.world h taken)))
        (arrives_noted b shown s (own_node taken (d.world.nodes s) k) next (b.world.gathering s) came))

    -- ---- the disks, as they are behind the look

    module _ (read : Option KeptWrite) (so : st.answer ≡ Ok read) where
      it : RisesWith group_node next None x.site st.after (Ok read)
      it = looks (Ok read) so

      t : SetThen (UpNoted (worked group_node) next) st.after
      t = set_then (UpNoted (worked group_node) next) st.after it.0

      like : IsLikeGroup (worked group_node) m
      like = record {
        state = refl;
        disks = refl;
        blocks = refl;
        group = refl;
        none = λ _. record { role = refl; volumes = refl; log = refl; safe = refl; running = refl };
        fuse = λ q has_fuse. subst (λ (f : Fuse). HasFuse f q) (ap (λ (f : Fuse). burned (burned f)) unfused ∙ sym unfused) has_fuse;
        unfused = λ _. unfused;
      }

      up : UpNoted m next t.set.site
      up = up_as (worked group_node) m like next t.set.site t.holds

      stays : StandMaps next x.site → StandMaps next t.set.site
      stays had = on_both StaysMapped st.before st.after x t.set at_group t.is (st.maps group_node next at_up) next had

      maps : StandMaps next t.set.site
      maps =
          stays (subst (λ (e : GroupSite R g). StandMaps next e) (sym at_site)
          (stands_up memory.0 r.group.middle r.laid.core.inner.config (SiteUp r.laid) refl (record { is = r.group.up.at.lies.config; spells = r.group.up.spells }) memory.1))

      cut_none : cut_value t.set.cut ≡ None
      cut_none = ap (λ (e : DiskSet R g). cut_in e) (sym t.is) ∙ it.1

      changed : Changed old new s (Over o) (OfGroup t.set)
      changed = subst (λ (e : DiskSet R g). Changed old new s (Over o) e) t.is call.changed

      there : slice_get new.disk_sets.items s ≡ Some (OfGroup t.set)
      there = ap (λ (es : List (DiskSet R g)). slice_get es s) changed.disk_sets ∙ get-set_same old.disk_sets.items s (OfGroup t.set) (slice_get_within old.disk_sets.items s (Over o) changed.there)

      shown_so : StandsSo s (linked_fact b.world s) has.config st.after (Ok read) mid new result
      shown_so =
          subst (λ (q : Result (Option KeptWrite) Stop). StandsSo s (linked_fact b.world s) has.config st.after q mid new result) so
          (st.so (linked_fact b.world s) has.config (ap (λ (fs : List SiteFacts). slice_get fs s) first.facts ∙ first_fact d s kept taken old mid new before between first at)
          (subst (λ (e : DiskSet R g). AtSite (λ y. site_config y ≡ Some has.config) e) (sym at_group) (subst (λ (e : GroupSite R g). site_config e ≡ Some has.config) (sym at_site) has.has))
          (ap (λ (c : Option Config). config_rvg c) (sym has.has) ∙ r.none) (ap (λ (e : DiskSet R g). core_in e) at_group))

      abbrev facts_now : SiteFacts
      facts_now = group_up_facts (map plain_fact has.config.volumes) (linked_fact b.world s)

      fact : facts_now ≡ fact_of_group m next
      fact = made_fact (map plain_fact has.config.volumes) b s next m refl at.down (sym (table_is next has.config has.reads))

      follows : Follows b left old new
      follows =
          follows_on b left s m next facts_now old new (Over o) t.set at.stands at.below changed arrives (up_notes m next t.set.site up).0
          (up_set m next t.set (record { few = (rest_stood b old new s o st.after call).0.2; some = (rest_stood b old new s o st.after call).0.3 }) up maps plain cut_none r.group.returns.cut)
          (fails_then n m (Over o) (OfGroup t.set) refl (subst (λ (e : DiskSet R g). SameFailing (Over o) e) t.is call.failing) (at.stands.failing s (Over o) at.below changed.there))
          (fused_none m (OfGroup t.set) unfused) fact (shown_so.0 ∙ ap (λ (fs : List SiteFacts). slice_set fs s facts_now) first.facts)
          (stood_load d s kept taken old mid new before between first at cut result st shown_so.1)

      -- ---- what is said

      now : HasUp m next t.set.site
      now = has_up m next t.set.site up

      seen : view_with facts_now (Some now.config) ≡ grouped_view (let y : Node = record at_h { state = IsUp } in y) next
      seen =
          ap (λ (f : SiteFacts). view_with f (Some now.config)) fact ∙ view_up m next t.set.site now.config up now.has
          ∙ ap (λ (called : List ℕ). let v : SiteView = record (grouped_view m next) { name = called } in v) (ap (λ (y : Node). y.name) (own_is s d.world h taken) ∙ own_called taken (d.world.nodes s) at_h)

      abbrev kept_said : Option Kept
      kept_said = kept_shown now.config.volumes read

      replied : result ≡ Ok (Resumed (view_with facts_now (Some now.config)) kept_said)
      replied = shown_so.2 now.config (subst (λ (e : DiskSet R g). AtSite (λ y. site_config y ≡ Some now.config) e) (sym t.is) now.has)

      -- what the rack tells now it told before
      told_before : IsTold new → IsTrue (site_below (SiteUp r.laid)).tells
      told_before told =
          let now_told : IsRackTold st.after = subst (λ (e : DiskSet R g). IsRackTold e) (sym t.is) (told.each s (OfGroup t.set) there) in
          let then_told : IsRackTold (OfGroup x) = subst (λ (e : DiskSet R g). IsRackTold e) at_group (st.later.told now_told) in
          subst (λ (e : GroupSite R g). IsTrue (site_below e).tells) at_site then_told

      unknown : KnowsNothing (IsTold new) (note_at (d.world.nodes s))
      unknown =
          subst (λ (y : GroupNode). KnowsNothing (IsTold new) y) (ap (λ (y : Option GroupNode). unwrap_or y no_note) at.rests.group)
          (knows_nothing (IsTold new) (site_below (SiteUp r.laid)).tells note told_before r.less.was)

      ends : RvgFinds (IsTold new) d (Recover name) s [] (Resumed (view_with facts_now (Some now.config)) kept_said) left
      ends =
          FindsPlain kept taken next h at.rests.over tt tt unknown (λ told. r.less.dark (told_before told)) refl plain (kept_said, ap (λ (v : SiteView). Resumed v kept_said) seen)
          (record { world = refl; after = λ i. refl; strayed = refl })

      raises : RaisesIs d (Recover name) s kept taken old new result
      raises = subst (λ (q : Result Said OutOfMemory). RaisesIs d (Recover name) s kept taken old new q) (sym replied) (record {
        next = left;
        fails = [];
        works = inr ends;
        stands = follows.stands;
        carries = follows.carries;
        rose = rose_still old new s (Over o) (OfGroup t.set) changed.there changed.later changed.disk_sets;
      })

    by_answer : (answer : Result (Option KeptWrite) Stop) → st.answer ≡ answer → RaisesIs d (Recover name) s kept taken old new result
    by_answer (Ok read) so = raises read so
    by_answer (Err stop) so = absurd (never_unread group_node next x.site st.after stop (looks (Err stop) so))

  pub plain_stood : (d : Doubted) (name : List ℕ) (s kept : ℕ) (taken : Bool) (old mid new : Yard R g) (before between : DiskSet R g) (first : RaisedTo old mid s before between) (at : AtRest d s kept taken old)
      (cut : Option CutWrite) (result : Result Said OutOfMemory) (st : StoodUp s cut mid new result) (x : GroupSet R g) → between ≡ OfGroup x → cut ≡ None
      → PlainAgain ((rests_as d s kept taken).world.nodes s) (note_at ((rests_as d s kept taken).world.nodes s)) (site_in (rest_set d s kept taken old mid new before between first at)) x
      → RaisesIs d (Recover name) s kept taken old new result
  plain_stood d name s kept taken old mid new before between first at cut result st x is none r = by_answer d name s kept taken old mid new before between first at cut result st x is none r st.answer refl
