-- What a recovery of a bare site leads a yard to, on whose disks an earlier run may have left a group.
use Rattle.std.proofs.Common.{◌≡◌, ◌∙◌, ◌⊎◌, ◌<◌, inl, inr, ℕ, Bool, true, false, List, [], ◌∷◌, map, ap, sym, subst, refl, arith, IsTrue}
use Rattle.std.proofs.lemmas.Option.{slice_get_within}
use Rattle.std.specs.Prelude.{Option, Some, None, Result, Ok, Err, slice_get, slice_set}
use Rattle.vx_model.specs.declared.errors.OutOfMemory.{OutOfMemory as MemoryError}
use Rattle.vx_model.specs.declared.errors.Stop.{Stop}
use Rattle.vx_model.specs.declared.errors.Stop.TheVariants.{No as Refused, OutOfMemory}
use Rattle.vx_model.specs.declared.no.No.{No}
use Rattle.vx_model.specs.declared.no.No.TheVariants.{Device, NoConfig, Missing as Lacks, Limit, Damaged, Format}
use Rattle.vx_model.specs.declared.site.SiteState.{SiteState}
use Rattle.vx_model.specs.declared.site.SiteState.TheVariants.{Bare as IsBare, Up as IsUp}
use Rattle.vx_model.specs.Refusals.{IsNoDevice}
use Rattle.vx_config.specs.declared.config.Config.{Config}
use Rattle.vx_disk.specs.Counts.{Rose}
use Rattle.vx_disk.specs.declared.shelf.Shelf.{Ghosts}
use Rattle.vx_history.specs.Doubts.{After, Doubted, happened}
use Rattle.vx_history.specs.Groups.{GroupNode}
use Rattle.vx_history.specs.Steps.{burned, group_set, raw_set}
use Rattle.vx_history.specs.World.{Fuse, Node, NoFuse, World}
use Rattle.vx_history.specs.declared.event.Event.TheVariants.{Group as MakeGroup, Recover as RecoverAt}
use Rattle.vx_order.specs.declared.facts.LinkFacts.{LinkFacts}
use Rattle.vx_order.specs.declared.facts.SiteFacts.{SiteFacts}
use Rattle.vx_order.specs.declared.facts.VolumeFacts.{VolumeFacts}
use Rattle.vx_report.specs.declared.view.SiteView.{SiteView}
use Rattle.vx_rvg.specs.Views.{Core}
use Rattle.vx_script.specs.declared.line.ScriptLine.TheVariants.{Recover}
use Rattle.vx_grouped.specs.Begins.{group_begun}
use Rattle.vx_grouped.specs.GroupSites.{UpNoted, site_below, site_config}
use Rattle.vx_grouped.specs.SiteReturns.{ImportWhy}
use Rattle.vx_diskset.specs.Aboves.{site_in}
use Rattle.vx_diskset.specs.Asked.{IsRawSet, FailsAs, SameFailing}
use Rattle.vx_diskset.specs.GroupCalls.{AtSite, bare_disks, core_in, cut_in}
use Rattle.vx_diskset.specs.GroupFinds.{FindsIs, FoundApart, FoundIn, FoundUp}
use Rattle.vx_diskset.specs.GroupSets.{cut_value}
use Rattle.vx_diskset.specs.Holds.{beside_of, doubt_of, header_links}
use Rattle.vx_diskset.specs.OverRises.{FoundOver}
use Rattle.vx_diskset.specs.Stands.{IsRackTold, IsToldAt, SiteStands, faults_at}
use Rattle.vx_diskset.specs.declared.disk_set.DiskSet.{DiskSet}
use Rattle.vx_diskset.specs.declared.disk_set.DiskSet.TheVariants.{Bare, Spoiled, Up as UpSet, Receives, Down as DownSet, OfGroup, Over, Gone as GoneSet}
use Rattle.vx_diskset.specs.declared.group_set.GroupSet.{GroupSet}
use Rattle.vx_diskset.specs.declared.over_set.OverSet.{OverSet}
use Rattle.vx_events.specs.Doubts.{run_as}
use Rattle.vx_events.specs.Ends.{DiskFails, Ends, FindsNone, FromBare}
use Rattle.vx_events.specs.Facts.{seat_of, site_number}
use Rattle.vx_events.specs.Fails.{Fails}
use Rattle.vx_events.specs.GroupEnds.{FindsGroup, GroupEnds}
use Rattle.vx_events.specs.GroupLines.{group_recovery, is_over_group}
use Rattle.vx_events.specs.GroupNotes.{note_at}
use Rattle.vx_events.specs.GroupViews.{grouped_view, noted_table, plain_fact}
use Rattle.vx_events.specs.LinkViews.{linked_view}
use Rattle.vx_events.specs.LinkedFacts.{linked_fact, links_by, links_of_site}
use Rattle.vx_events.specs.RvgBack.{RvgFinds, fall_first}
use Rattle.vx_events.specs.RvgFits.{config_rvg}
use Rattle.vx_events.specs.RvgSteps.{FoundOne}
use Rattle.vx_events.specs.RvgViews.{is_over_rvg, over_disks}
use Rattle.vx_events.specs.StepsOver.{FindsKept, fact_of_group, is_for_group}
use Rattle.vx_events.specs.declared.said.Said.{Said}
use Rattle.vx_events.specs.declared.said.Said.TheVariants.{Refused as SaidNo, Resumed}
use Rattle.vx_events.proofs.Places.{some_same}
use Rattle.vx_yard.proofs.Carrying.{SameLoad, carries_same}
use Rattle.vx_yard.proofs.CrashLine.{rose_still}
use Rattle.vx_yard.proofs.FailsStay.{fails_then}
use Rattle.vx_yard.proofs.FuseStays.{fused_none}
use Rattle.vx_yard.proofs.Lists.{get-set_same}
use Rattle.vx_yard.proofs.NamedSite.{place_at, unbegun_for}
use Rattle.vx_yard.proofs.NoteSite.{comes_same}
use Rattle.vx_yard.proofs.OfSites.{recovers_rest}
use Rattle.vx_yard.proofs.OneSite.{Changed, role_off, rose_at, stands_still, told_by}
use Rattle.vx_yard.proofs.OverGroup.{bare_apart, noted_none, over_rvg}
use Rattle.vx_yard.proofs.RecoverLine.{bare_events, recover_done}
use Rattle.vx_yard.proofs.SiteEvents.{first_choice}
use Rattle.vx_yard.specs.AboveLines.{LeadsBeside, LeadsBesideIs}
use Rattle.vx_yard.specs.GroupFacts.{group_up_facts}
use Rattle.vx_yard.specs.OfSites.{OfSite, RecoversAs}
use Rattle.vx_yard.specs.Replies.{reply_to}
use Rattle.vx_yard.specs.Standing.{LeadsFound, LeadsFoundIs, StandsFor, StaysFor}
use Rattle.vx_yard.specs.Stands.{RoseAll}
use Rattle.vx_yard.proofs.RawSites.{bare_set, raw_rack, raw_told}
use Rattle.vx_yard.specs.Yards.{IsTold, count_of}
use Rattle.vx_yard.specs.declared.yard.Yard.{Yard}
use Rattle.vx_group_lines.specs.Founds.{IsBareUntold}
use Rattle.vx_above.proofs.Works.{beside_found, beside_short}
use Rattle.vx_group_lines.specs.Noting.{made_facts}
use Rattle.vx_group_lines.specs.RvgRises.{rests_world}
use Rattle.vx_group_lines.specs.Views.{view_with}
use Rattle.vx_group_lines.proofs.Arriving.{Arrives, arrives_made, arrives_none, arrives_noted, noted_at}
use Rattle.vx_group_lines.proofs.BareSites.{IsBareSite, bare_counts, bare_sure, bare_unfused, blank_links, never_up, over_state}
use Rattle.vx_group_lines.proofs.GroupAt.{up_notes}
use Rattle.vx_group_lines.proofs.GroupCalls.{SetThen}
use Rattle.vx_group_lines.proofs.GroupLeads.{Follows, follows_on, up_set}
use Rattle.vx_group_lines.proofs.GroupShown.{view_up}
use Rattle.vx_above.proofs.GroupStatus.{table_is}
use Rattle.vx_group_lines.proofs.Rising.{HasUp, has_up}
use Rattle.vx_group_lines.proofs.RvgFound.{FoundCall, found_arrives, found_carries, found_ends, found_fails, found_left, found_rose, found_says, found_sits, found_stands}
use Rattle.vx_group_lines.proofs.RvgStanding.{RvgOver}

-- what the tests see of a bare site that is a group with these volumes
found_fact : (w : World) (s : ℕ) (note : GroupNode) (volumes : List VolumeFacts) → (w.nodes s).state ≡ IsBare → noted_table note ≡ volumes
    → group_up_facts volumes (linked_fact w s) ≡ fact_of_group (group_begun note s (w.nodes s)) note
found_fact w s note volumes bare table =
    ap (λ (t : SiteState). let f : SiteFacts = record (group_up_facts volumes (linked_fact w s)) { links = links_by t (links_of_site w s) } in f) bare
    ∙ ap (λ (vs : List VolumeFacts). let f : SiteFacts = record (fact_of_group (group_begun note s (w.nodes s)) note) { volumes = vs } in f) (sym table)

module _ {R : Type 0} {g : Ghosts R} where
  module _ (d : Doubted) (old new : Yard R g) (name : List ℕ) (s : ℕ) (before after : DiskSet R g) (stands : StandsFor d old) (site : IsBareSite d old name s before) (changed : Changed old new s before after) (failing : SameFailing before after)
      (load : SameLoad old new) where
    abbrev n : Node
    n = d.world.nodes s

    unfused : n.fuse ≡ NoFuse
    unfused = bare_unfused d old name s before site

    fails_as : (m : Node) → m.failing ≡ n.failing → FailsAs m after
    fails_as m same = fails_then n m before after same failing (stands.failing s before site.below changed.there)

    rose_here : RoseAll [] (count_of old) (count_of new)
    rose_here = rose_still old new s before after changed.there changed.later changed.disk_sets

    -- ---- it is bare as it was

    still : SiteStands (beside_of d s) n after → new.facts.items ≡ old.facts.items → StandsFor d new
    still here facts =
        stands_still d d old new s before after stands site.below changed
        (comes_same d s after stands.links here (fails_as n refl) (fused_none n after unfused) (role_off (beside_of d s) n n after here (λ up. absurd (never_up (sym site.bare ∙ up))))) (λ was. was)
        (λ _. noted_none (beside_of d s) n n after here (ap (λ (k : Node). k.group) site.is)) refl facts

    -- nothing was done
    pub bare_stays : SiteStands (beside_of d s) n after → new.facts.items ≡ old.facts.items → StaysFor d old new
    bare_stays here facts = record { stands = still here facts; carries = carries_same d old new load (told_by old new s before after changed); rose = rose_here }

    module _ (untold : IsToldAt before → ⊥) where
      never : IsTold new → ⊥
      never told =
          untold (raw_told before (bare_set (beside_of d s) n before site.stood site.bare) ((told_by old new s before after changed told).each s before changed.there))

      -- ---- none came up

      ended : (fails : Fails) (said : Said) → SiteStands (beside_of d s) n after → new.facts.items ≡ old.facts.items → Ends (IsTold new) d (Recover name) s fails said d → RoseAll fails (count_of old) (count_of new)
          → LeadsFound d (Recover name) said old new
      ended fails said here facts ends rose = record {
        next = d;
        fails = fails;
        done = inl (recover_done (IsTold new) d d s name fails said site.number ends);
        stands = still here facts;
        carries = carries_same d old new load (told_by old new s before after changed);
        rose = rose;
      }

      not_there : (why : No) → IsNoDevice why → SiteStands (beside_of d s) n after → new.facts.items ≡ old.facts.items → LeadsFound d (Recover name) (SaidNo why) old new
      not_there why other here facts =
          ended [] (SaidNo why) here facts
          (FindsNone never first_choice false name d (raw_set s n) why refl (FromBare site.bare refl refl) other refl refl (record { world = refl; after = λ i. refl; strayed = refl })) rose_here

      by_why : (why : No) → ImportWhy ⊥ ⊥ (bare_disks before) (bare_disks after) (Refused why) → SiteStands (beside_of d s) n after → new.facts.items ≡ old.facts.items → LeadsFound d (Recover name) (SaidNo why) old new
      by_why (Device disk) because here facts =
          let rose : Rose (faults_at before disk) (faults_at after disk) = subst (λ (k : ℕ). Rose k (faults_at after disk)) (bare_counts (beside_of d s) n before site.stood site.bare disk)
          (subst (λ (k : ℕ). Rose ((bare_disks before).disk_faults disk) k) (bare_counts (beside_of d s) n after here site.bare disk) because) in
          ended ((s, disk) ∷ []) (SaidNo (Device disk)) here facts
          (DiskFails first_choice false [] (RecoverAt s None) [] [] disk (bare_events d s name site.number site.bare) (inl refl) tt refl refl (record { world = refl; after = λ i. refl; strayed = refl }))
          (rose_at old new s disk before after changed rose)
      by_why (Lacks disk) because here facts = not_there (Lacks disk) tt here facts
      by_why NoConfig because here facts = not_there NoConfig tt here facts
      by_why (Limit what most) because here facts = not_there (Limit what most) tt here facts
      by_why (Damaged unit block stored computed) because here facts = not_there (Damaged unit block stored computed) tt here facts
      by_why (Format version) because here facts = not_there (Format version) tt here facts
      by_why other because here facts = absurd because

      by_stop : (stop : Stop) → (stop ≡ Refused NoConfig) ⊎ ImportWhy ⊥ ⊥ (bare_disks before) (bare_disks after) stop → SiteStands (beside_of d s) n after → new.facts.items ≡ old.facts.items
          → LeadsFoundIs d (Recover name) old new (reply_to stop)
      by_stop stop (inl none) here facts = subst (λ (x : Stop). LeadsFoundIs d (Recover name) old new (reply_to x)) (sym none) (not_there NoConfig tt here facts)
      by_stop (Refused why) (inr because) here facts = by_why why because here facts
      by_stop OutOfMemory (inr because) here facts = bare_stays here facts

      -- the site is over no group
      alone : is_for_group d.world (Recover name) ≡ false
      alone = ap (λ (k : ℕ). is_over_group (d.world.nodes k)) site.number ∙ bare_apart n site.is

      pub found_none : (stop : Stop) (said : Result Said MemoryError) → said ≡ reply_to stop → FindsIs s (d.world.nodes s) before after (Err stop) → new.facts.items ≡ old.facts.items → LeadsBesideIs d (Recover name) old new said
      found_none stop said says found facts =
          beside_found d (Recover name) old new said alone
          (subst (λ (r : Result Said MemoryError). LeadsFoundIs d (Recover name) old new r) (sym says) (by_stop stop found.1 (found.0 (beside_of d s)) facts))

      -- ---- a group came up

      found_done : (view : SiteView) (t : GroupSet R g) → after ≡ OfGroup t → FoundUp s (d.world.nodes s) t.site → ((c : Config) → site_config t.site ≡ Some c → c.rvg ≡ None) → cut_in after ≡ None
          → ((c : Config) → AtSite (λ e. site_config e ≡ Some c) after → c.rvg ≡ None → core_in after ≡ None
          → (new.facts.items ≡ slice_set old.facts.items s (group_up_facts (map plain_fact c.volumes) (linked_fact d.world s)))
          × (view ≡ view_with (group_up_facts (map plain_fact c.volumes) (linked_fact d.world s)) (Some c)))
          → LeadsFound d (Recover name) (Resumed view None) old new
      found_done view t is found none clear seen = record {
        next = e;
        fails = [];
        done = inr (subst (λ (k : ℕ). FindsKept (IsTold new) d (Recover name) k [] (Resumed view None) e) (sym site.number) (record {
          untold = never;
          site = name;
          recovers = refl;
          bare = site.bare;
          shows = refl;
          up = ap (λ (x : Node). x.state) comes.node ∙ (up_notes m note to.set.site up).1;
          ends = ends;
        }));
        stands = follows.stands;
        carries = follows.carries;
        rose = rose_here;
      }
        where
          to : SetThen (FoundUp s n) after
          to = record { set = t; is = is; holds = found }

          note : GroupNode
          note = to.holds.0

          m : Node
          m = group_begun note s n

          up : UpNoted m note to.set.site
          up = to.holds.4

          has : HasUp m note to.set.site
          has = has_up m note to.set.site up

          facts_now : SiteFacts
          facts_now = group_up_facts (map plain_fact has.config.volumes) (linked_fact d.world s)

          so : (new.facts.items ≡ slice_set old.facts.items s facts_now) × (view ≡ view_with facts_now (Some has.config))
          so = seen has.config (subst (λ (x : DiskSet R g). AtSite (λ y. site_config y ≡ Some has.config) x) (sym to.is) has.has) (none has.config has.has) (ap (λ (x : DiskSet R g). core_in x) is)

          h : Doubted
          h = happened d (MakeGroup s) false

          e : Doubted
          e = noted_at h s note

          fact : facts_now ≡ fact_of_group m note
          fact = found_fact d.world s note (map plain_fact has.config.volumes) site.bare (table_is note has.config has.reads)

          cut : cut_value to.set.cut ≡ None
          cut = ap (λ (x : DiskSet R g). cut_in x) (sym to.is) ∙ clear

          comes : Arrives d e s m (d.world.gathering s)
          comes =
              arrives_noted d h s (group_set s n) note (d.world.gathering s)
              (arrives_made d d s n (d.world.gathering s)
              (arrives_none d s stands.links (bare_sure d s site.bare stands.links) (blank_links d s (stands.links.bare s site.bare))) site.below site.bare site.is)

          follows : Follows d e old new
          follows =
              follows_on d e s m note facts_now old new before to.set stands site.below
              (subst (λ (x : DiskSet R g). Changed old new s before x) to.is changed)
              comes
              (up_notes m note to.set.site up).0
              (up_set m note to.set (record { few = site.few; some = site.some }) up to.holds.5 (ap (λ (o : Option Config). config_rvg o) has.reads ∙ none has.config has.has) cut to.holds.2.cut)
              (subst (λ (x : DiskSet R g). FailsAs m x) to.is (fails_as m refl)) (fused_none m (OfGroup to.set) unfused) fact so.0 load

          shown : view ≡ grouped_view (record n { state = IsUp }) note
          shown = so.1 ∙ ap (λ (f : SiteFacts). view_with f (Some has.config)) fact ∙ view_up m note to.set.site has.config up has.has

          ends : GroupEnds (IsTold new) d (Recover name) s [] (Resumed view None) e
          ends =
              subst (λ (x : Doubted). GroupEnds (IsTold new) d (Recover name) s [] (Resumed view None) (noted_at x s note))
              (ap (λ (t : SiteState). run_as false d (group_recovery t s)) site.bare)
              (FindsGroup note tt tt (inl never) (λ told. absurd (never told)) (None, ap (λ (v : SiteView). Resumed v None) shown) (record { world = refl; after = λ i. refl; strayed = refl }))

      -- ---- a group came up with a replicated volume group

      module _ (p : OverSet R g) (is : after ≡ Over p) (dark : IsRackTold after → ⊥) (found : FoundApart (d.world.nodes s) p) where
        calm : d.after s ≡ None
        calm = bare_sure d s site.bare stands.links

        blank : header_links d.world s ≡ []
        blank = blank_links d s (stands.links.bare s site.bare)

        here : FoundOver (beside_of d s) (d.world.nodes s) (burned (d.world.nodes s).fuse) p
        here = found (beside_of d s) (ap (λ (o : Option After). doubt_of d.world s o) calm) blank

        dark_below : IsTrue (site_below (site_in p)).tells → ⊥
        dark_below = subst (λ (x : DiskSet R g). IsRackTold x → ⊥) is dark

        call : FoundCall d d (Recover name) s false old new before p (burned (d.world.nodes s).fuse)
        call = record {
          stands = stands;
          fits = stands.links;
          below = site.below;
          sure = calm;
          links = blank;
          note = refl;
          changed = subst (λ (x : DiskSet R g). Changed old new s before x) is changed;
          failing = subst (λ (x : DiskSet R g). SameFailing before x) is failing;
          brings = tt;
          over = here;
          less = record { was = λ it. absurd (dark_below it); dark = λ it. absurd (dark_below it) };
          lit_is = unfused ∙ sym (ap (λ (f : Fuse). burned f) unfused);
          fused = fused_none here.node (Over p) (here.same.fuse ∙ ap (λ (f : Fuse). burned f) unfused);
        }

        abbrev left : Doubted
        left = found_left d d (Recover name) s false old new before p (burned n.fuse) call

        sits : RvgOver (beside_of (found_left d d (Recover name) s false old new before p (burned (d.world.nodes s).fuse) call) s) call.over.node call.over.next (Over p)
        sits = found_sits d d (Recover name) s false old new before p (burned n.fuse) call

        arrives : Arrives d (found_left d d (Recover name) s false old new before p (burned (d.world.nodes s).fuse) call) s call.over.node (d.world.gathering s)
        arrives = found_arrives d d (Recover name) s false old new before p (burned n.fuse) call

        -- nothing is seen of links at a bare site
        bare_links : links_by (d.world.nodes s).state (links_of_site d.world s) ≡ []
        bare_links = ap (λ (t : SiteState). links_by t (links_of_site d.world s)) site.bare

        bare_made : (core : Core) (c : Config) → made_facts core c (linked_fact d.world s) ≡ made_facts core c (fact_of_group (d.world.nodes s) (note_at (d.world.nodes s)))
        bare_made core c = ap (λ (ls : List LinkFacts). let f : SiteFacts = record (made_facts core c (linked_fact d.world s)) { links = ls } in f) bare_links

        rest : rests_world d s 0 false ≡ d
        rest = ap (λ (t : SiteState). run_as false d (fall_first t s 0)) site.bare

        found_over : (view : SiteView)
            → ((core : Core) (c : Config) → core_in after ≡ Some core → AtSite (λ e. site_config e ≡ Some c) after → new.facts.items ≡ slice_set old.facts.items s (made_facts core c (linked_fact d.world s)))
            → ((e : Doubted) (f : SiteFacts) → StandsFor e new → s < e.world.sites → is_over_rvg (e.world.nodes s) ≡ true → slice_get new.facts.items s ≡ Some f → f.links ≡ []
            → view ≡ over_disks (e.world.nodes s) (note_at (e.world.nodes s)) (linked_view e.world s)) → LeadsBeside d (Recover name) (Resumed view None) old new
        unfolding sits
        found_over view made shows = record {
          next = left;
          fails = found_fails d d (Recover name) s false old new before p (burned n.fuse) call;
          works = FoundOne (subst (λ (k : ℕ). RvgFinds (IsTold new) d (Recover name) k (found_fails d d (Recover name) s false old new before p (burned n.fuse) call) (Resumed view None) left) (sym site.number)
              (found_ends d d (Recover name) s false old new before p (burned n.fuse) call 0 (Resumed view None) (sym rest)
              (found_says d d name s false old new before p (burned n.fuse) call (Resumed view None) None (ap (λ (v : SiteView). Resumed v None) shown))));
          stands = now_stands;
          carries = λ carried. found_carries d d (Recover name) s false old new before p (burned n.fuse) call load carried;
          rose = found_rose d d (Recover name) s false old new before p (burned n.fuse) call;
        }
          where
            facts : new.facts.items ≡ slice_set old.facts.items s (made_facts sits.core sits.config (linked_fact d.world s))
            facts = made sits.core sits.config (subst (λ (x : DiskSet R g). core_in x ≡ Some sits.core) (sym is) sits.has_core) (subst (λ (x : DiskSet R g). AtSite (λ y. site_config y ≡ Some sits.config) x) (sym is) sits.has)

            now_stands : StandsFor left new
            now_stands =
                found_stands d d (Recover name) s false old new before p (burned n.fuse) call
                (facts ∙ ap (λ (f : SiteFacts). slice_set old.facts.items s f) (bare_made sits.core sits.config))

            there : slice_get new.facts.items s ≡ Some (made_facts sits.core sits.config (linked_fact d.world s))
            there =
                ap (λ (fs : List SiteFacts). slice_get fs s) facts
                ∙ get-set_same old.facts.items s (made_facts sits.core sits.config (linked_fact d.world s)) (slice_get_within old.facts.items s (linked_fact d.world s) site.fact)

            shown : view ≡ over_disks (left.world.nodes s) (note_at (left.world.nodes s)) (linked_view left.world s)
            shown =
                shows left (made_facts sits.core sits.config (linked_fact d.world s)) now_stands (omega (arith, site.below, arrives.site.sites))
                (ap (λ (x : Node). is_over_rvg x) arrives.node ∙ over_rvg (beside_of d s) call.over.node p call.over.stands) there bare_links

      -- whatever came up
      pub found_came : (view : SiteView) → FindsIs s (d.world.nodes s) before after (Ok (tt {0}))
          → ((c : Config) → AtSite (λ e. site_config e ≡ Some c) after → c.rvg ≡ None → core_in after ≡ None
          → (new.facts.items ≡ slice_set old.facts.items s (group_up_facts (map plain_fact c.volumes) (linked_fact d.world s)))
          × (view ≡ view_with (group_up_facts (map plain_fact c.volumes) (linked_fact d.world s)) (Some c)))
          → ((core : Core) (c : Config) → core_in after ≡ Some core → AtSite (λ e. site_config e ≡ Some c) after → new.facts.items ≡ slice_set old.facts.items s (made_facts core c (linked_fact d.world s)))
          → ((e : Doubted) (f : SiteFacts) → StandsFor e new → s < e.world.sites → is_over_rvg (e.world.nodes s) ≡ true → slice_get new.facts.items s ≡ Some f → f.links ≡ []
          → view ≡ over_disks (e.world.nodes s) (note_at (e.world.nodes s)) (linked_view e.world s)) → LeadsBeside d (Recover name) (Resumed view None) old new
      found_came view found seen made shows = by after refl found.1
        where
          by : (e : DiskSet R g) → after ≡ e → FoundIn s n e → LeadsBeside d (Recover name) (Resumed view None) old new
          by (OfGroup t) is it = beside_found d (Recover name) old new (Ok (Resumed view None)) alone (found_done view t is it.0 it.1 found.2 seen)
          by (Over p) is it = found_over p is found.0 it view made shows
          by (Bare rack) is it = absurd it
          by (Spoiled rack) is it = absurd it
          by (UpSet rvg) is it = absurd it
          by (Receives r) is it = absurd it
          by (DownSet rack) is it = absurd it
          by GoneSet is it = absurd it

  -- ---- the site of the line

  -- its state, as the tests see it
  -- a recovery of a bare site asks that no disk is made to fail
  pub bare_asks : (d : Doubted) (name : List ℕ) (old new : Yard R g) → (d.world.nodes (site_number d.world name)).state ≡ IsBare → OfSite SameFailing (site_number d.world name) old new
      → RecoversAs (d.world.nodes (site_number d.world name)).state (site_number d.world name) old new
  bare_asks d name old new bare of =
      recovers_rest (d.world.nodes (site_number d.world name)).state (site_number d.world name) old new (λ up. let clash : IsBare ≡ IsUp = sym bare ∙ up in absurd (cc)) of

  pub state_of : (d : Doubted) (y : Yard R g) (name : List ℕ) (s : ℕ) (f : SiteFacts) → StandsFor d y → seat_of y.facts.items name ≡ Some s → slice_get y.facts.items s ≡ Some f → (d.world.nodes s).state ≡ f.state
  state_of d y name s f stands seat at =
      let n : Node = d.world.nodes s in
      sym (over_state n d.world s (is_over_group n) refl) ∙ ap (λ (x : Option SiteFacts). state_or x) (sym (place_at d y name s stands seat).fact ∙ at)
    where
      state_or : Option SiteFacts → SiteState
      state_or None = IsBare
      state_or (Some x) = x.state

  -- its disks had a label, and so they tell nothing
  pub untold_now : (d : Doubted) (old new : Yard R g) (name : List ℕ) (s : ℕ) (before after : DiskSet R g) (holds : Bool) → site_number d.world name ≡ s → (d.world.nodes s).state ≡ IsBare → IsRawSet before
      → IsRawSet after → Changed old new s before after → (IsToldAt before → holds ≡ false) → slice_get new.disk_sets.items s ≡ Some after → holds ≡ true → IsBareUntold d name new
  untold_now d old new name s before after holds number bare raw raw_after changed none there is = record {
    bare = ap (λ (k : ℕ). (d.world.nodes k).state) number ∙ bare;
    untold = λ e at told.
        let same : Some e ≡ Some after = sym at ∙ ap (λ (k : ℕ). slice_get new.disk_sets.items k) number ∙ there in
        let is_told : IsToldAt after = subst (λ (x : DiskSet R g). IsToldAt x) (some_same same) told in
        let never : true ≡ false = sym is ∙ none (raw_told before raw (changed.later.told (raw_rack after raw_after is_told))) in
        absurd (cc);
  }

  -- memory ran out before anything was done
  pub unbegun_found : (d : Doubted) (name : List ℕ) (y : Yard R g) (r : Result Said MemoryError) (x : MemoryError) → r ≡ Err x → StandsFor d y → LeadsBesideIs d (Recover name) y y r
  unbegun_found d name y r x is stands = subst (λ (q : Result Said MemoryError). LeadsBesideIs d (Recover name) y y q) (sym is) (beside_short d (Recover name) y y (unbegun_for d y stands))
