-- What the import of a group that is down leads a yard to where it comes up.
use Rattle.std.proofs.Common.{◌≡◌, ◌∙◌, ◌⊎◌, inl, inr, ⊎_elim, ◌+◌, ◌≤◌, ℕ, suc, true, false, List, [], length, map, ap, sym, subst, refl, arith, IsTrue}
use Rattle.std.specs.Prelude.{Contains, Option, Some, None, slice_get, slice_set, Result, Ok, Err}
use Rattle.vx_model.specs.Content.{Write}
use Rattle.vx_model.specs.declared.errors.OutOfMemory.{OutOfMemory}
use Rattle.vx_model.specs.declared.errors.Stop.{Stop}
use Rattle.vx_model.specs.declared.errors.Stop.TheVariants.{No as StopsBy}
use Rattle.vx_model.specs.declared.limits.TheConstants.{MOST_DISKS}
use Rattle.vx_model.specs.declared.no.No.TheVariants.{Device}
use Rattle.vx_model.specs.declared.site.SiteState.{SiteState}
use Rattle.vx_model.specs.declared.site.SiteState.TheVariants.{Up as IsUp, Down as IsDown}
use Rattle.vx_model.proofs.Tests.{by_bool}
use Rattle.vx_disk.specs.Counts.{Rose}
use Rattle.vx_disk.specs.declared.shelf.Shelf.{Ghosts}
use Rattle.vx_config.specs.Checks.{blocks_of}
use Rattle.vx_config.specs.declared.config.Config.{Config}
use Rattle.vx_config.specs.declared.entry.VolumeEntry.{VolumeEntry}
use Rattle.vx_kept.specs.Cleans.{at_serial}
use Rattle.vx_history.specs.Doubts.{Doubted, happened}
use Rattle.vx_history.specs.Groups.{GroupNode}
use Rattle.vx_history.specs.Sound.{is_at_rest}
use Rattle.vx_history.specs.Steps.{crashed, group_up, worked}
use Rattle.vx_history.specs.World.{Node}
use Rattle.vx_history.specs.declared.event.Event.TheVariants.{Crash as CrashAt, Group as Regroup}
use Rattle.vx_order.specs.declared.facts.SiteFacts.{SiteFacts}
use Rattle.vx_order.specs.declared.facts.VolumeFacts.{VolumeFacts}
use Rattle.vx_report.specs.declared.view.Kept.{Kept}
use Rattle.vx_report.specs.declared.view.SiteView.{SiteView}
use Rattle.vx_script.specs.declared.line.ScriptLine.TheVariants.{Recover}
use Rattle.vx_grouped.proofs.ReadyLemmas.{imported_same}
use Rattle.vx_grouped.specs.GroupSites.{DownNoted, FitsPlain, UpNoted, site_config, site_disks, with_note, site_below}
use Rattle.vx_grouped.specs.SiteMaps.{StandMaps}
use Rattle.vx_grouped.specs.SiteReturns.{ConfigReturns, NoteReturns, as_imported, returned_with, is_dimmed}
use Rattle.vx_grouped.specs.declared.group_site.GroupSite.{GroupSite}
use Rattle.vx_diskset.specs.Asked.{FailsAs}
use Rattle.vx_diskset.specs.GroupCalls.{AtPlain, AtSite, cut_in}
use Rattle.vx_diskset.specs.GroupSets.{cut_value}
use Rattle.vx_diskset.specs.Recovers.{KeptIs, RisesWith, still_cut}
use Rattle.vx_diskset.specs.declared.disk_set.DiskSet.{DiskSet}
use Rattle.vx_diskset.specs.declared.disk_set.DiskSet.TheVariants.{OfGroup}
use Rattle.vx_diskset.specs.declared.group_set.CutWrite.{CutWrite}
use Rattle.vx_diskset.specs.declared.group_set.GroupSet.{GroupSet}
use Rattle.vx_diskset.specs.declared.group_set.KeptWrite.{KeptWrite}
use Rattle.vx_events.specs.GroupEnds.{FindsGroup, GroupDone, GroupEnds, KeptUnread, KnowsNothing}
use Rattle.vx_events.specs.GroupMaps.{MapsRecovered}
use Rattle.vx_events.specs.GroupNotes.{NotesBack, note_at, IsKnown}
use Rattle.vx_events.specs.GroupReplies.{ShowsKept}
use Rattle.vx_events.specs.GroupViews.{config_of, grouped_view, noted_table, plain_fact}
use Rattle.vx_events.specs.RvgFits.{config_rvg}
use Rattle.vx_events.specs.StepsOver.{fact_of_group}
use Rattle.vx_events.specs.declared.said.Said.{Said}
use Rattle.vx_events.specs.declared.said.Said.TheVariants.{Refused, Resumed}
use Rattle.vx_yard.proofs.Carrying.{LetsGo, SameLoad}
use Rattle.vx_yard.proofs.FuseStays.{fused_none}
use Rattle.vx_yard.proofs.OneSite.{Changed}
use Rattle.vx_effects.specs.Facts.{down_fact}
use Rattle.vx_yard.specs.GroupFacts.{group_up_facts}
use Rattle.vx_yard.specs.Loads.{LetGo}
use Rattle.vx_yard.specs.Yards.{IsTold}
use Rattle.vx_yard.specs.declared.yard.Yard.{Yard}
use Rattle.vx_packet.specs.Assemblies.{Assembled}
use Rattle.vx_group_lines.specs.Rises.{ComesDown, RisesIs, StandsSo, kept_shown}
use Rattle.vx_group_lines.specs.Views.{view_with}
use Rattle.vx_group_lines.proofs.Arriving.{Arrives, arrives_crash, arrives_noted, arrives_up, noted_at}
use Rattle.vx_group_lines.proofs.GroupAt.{down_notes, up_notes}
use Rattle.vx_group_lines.proofs.GroupCalls.{Called, SetThen, calls_all, calls_are, calls_named, set_then}
use Rattle.vx_group_lines.proofs.GroupLeads.{Follows, Sized, down_set, follows_off, follows_on, up_set}
use Rattle.vx_group_lines.proofs.GroupShown.{view_up}
use Rattle.vx_above.proofs.SiteCalls.{calls}
use Rattle.vx_above.proofs.GroupStatus.{config_is, table_is}
use Rattle.vx_group_lines.proofs.Returning.{SitsOn, back_of, NoneKnown, none_known}
use Rattle.vx_group_lines.proofs.Rising.{HasUp, cut_some, fits_by, has_up, risen_is, risen_node, shows_cut, sits_down, some_config, told_of, unfused_down, unread_as, up_as}
use Rattle.vx_grouped.specs.GroupNotes.{note_dimmed}
use Rattle.vx_group_lines.proofs.Dimming.{dark_moves}
use Rattle.vx_group_lines.proofs.MapGoing.{stand_as}
use Rattle.vx_group_lines.proofs.Raising.{Begins, fits_note, rose_up, is_down as is_down_here, sized as sized_here, was_cut as was_cut_here, was_fits as was_fits_here, turned as turned_here, still_fails as still_fails_here, there_now as there_now_here, starts as starts_here, loose as loose_here}

rose_down : (a b c : ℕ) → a ≤ b → Rose b c → Rose a c
rose_down a b c later rose = record {
  fell_not = omega (arith, rose.fell_not, later);
  rose = ⊎_elim (λ less. inl (omega (arith, less, later))) (λ top. inr top) rose.rose;
}

-- ---- the facts of the site

-- it came up with these volumes
up_seen : (n : Node) (note next : GroupNode) (c : Config) → config_of next.config ≡ Some (at_serial 0 c)
    → group_up_facts (map plain_fact c.volumes) (fact_of_group n note) ≡ fact_of_group (risen_node next n) next
up_seen n note next c is = ap (λ (vs : List VolumeFacts). group_up_facts vs (fact_of_group n note)) (sym (table_is next c is))

-- and went down again
fell_seen : (n : Node) (note next k : GroupNode) (c : Config) → config_of next.config ≡ Some (at_serial 0 c) → k.config ≡ next.config
    → down_fact (group_up_facts (map plain_fact c.volumes) (fact_of_group n note)) ≡ fact_of_group (crashed (with_note k (returned_with next n)) 0) k
fell_seen n note next k c is same =
    ap (λ (vs : List VolumeFacts). down_fact (group_up_facts vs (fact_of_group n note))) (sym (table_is next c is))
    ∙ ap (λ (xs : List ℕ). let q : GroupNode = record next { config = xs } in down_fact (group_up_facts (noted_table q) (fact_of_group n note))) (sym same)

named_view : (n k : Node) (next : GroupNode) → n.name ≡ k.name → grouped_view (risen_node next n) next ≡ grouped_view (record k { state = IsUp }) next
named_view n k next name = ap (λ (x : List ℕ). let v : SiteView = record (grouped_view (risen_node next n) next) { name = x } in v) name

module _ {R : Type 0} {g : Ghosts R} where
  module _ (e : Doubted) (s : ℕ) (old new : Yard R g) (before after : DiskSet R g) (begin : Begins e s old) (call : Called e old new [] s before after) where
    abbrev n : Node
    n = e.world.nodes s

    abbrev note : GroupNode
    note = note_at (e.world.nodes s)

    is_down : DownNoted (e.world.nodes s) (note_at (e.world.nodes s)) call.at.set.site
    is_down = is_down_here e s old new before after begin call

    sized : Sized (e.world.nodes s)
    sized = sized_here e s old new before after begin call

    was_cut : cut_value call.at.set.cut ≡ (note_at (e.world.nodes s)).cut
    was_cut = was_cut_here e s old new before after begin call

    was_fits : (x : CutWrite) → call.at.set.cut ≡ Some x → FitsPlain (note_at (e.world.nodes s)) x.volume x.block (length x.bytes)
    was_fits = was_fits_here e s old new before after begin call

    turned : (set : GroupSet R g) → after ≡ OfGroup set → Changed old new s before (OfGroup set)
    turned = turned_here e s old new before after begin call

    still_fails : (m : Node) (set : GroupSet R g) → after ≡ OfGroup set → m.failing ≡ n.failing → FailsAs m (OfGroup set)
    still_fails = still_fails_here e s old new before after begin call

    there_now : slice_get new.disk_sets.items s ≡ Some after
    there_now = there_now_here e s old new before after begin call

    starts : Arrives e e s (e.world.nodes s) (e.world.gathering s)
    starts = starts_here e s old new before after begin call

    loose : is_dimmed call.at.set.site ≡ true → (note_at (e.world.nodes s)).loose ≡ true
    loose = loose_here e s old new before after begin call

    -- ---- it came up

    -- what was done behind the import
    pub record SinceThen (m x : GroupSite R g) : Type 0 where
      pub tells : IsTrue (site_below x).tells → IsTrue (site_below m).tells
      pub from : (k : ℕ) → (site_disks call.at.set.site).disk_faults k ≤ (site_disks m).disk_faults k
      pub counts : (k : ℕ) → (site_disks m).disk_faults k ≤ (site_disks x).disk_faults k

    -- the yard between the import and the look
    pub record HalfWay (mid : Yard R g) : Type 0 where
      pub facts : mid.facts.items ≡ old.facts.items
      pub load : SameLoad old mid
      pub flight : new.flight ≡ mid.flight
      pub feeders : new.feeders ≡ mid.feeders

    module _
        (m : GroupSite R g) (next : GroupNode) (back : NoteReturns (IsTrue (site_disks m).tells) (note_dimmed (is_dimmed call.at.set.site) (note_at (e.world.nodes s))) next)
        (config : ConfigReturns (note_dimmed (is_dimmed call.at.set.site) (note_at (e.world.nodes s))) next (as_imported call.at.set.site) m) (lit : next.dark ≡ false → IsTrue (site_below m).tells → IsTrue (site_disks m).tells)
        (since : (set : GroupSet R g) → after ≡ OfGroup set → SinceThen m set.site) (cut : Option CutWrite) (cut_is : cut ≡ call.at.set.cut) (c : Config) (reads : config_of next.config ≡ Some (at_serial 0 c)) (alone : c.rvg ≡ None)
        (mid : Yard R g) (half : HalfWay mid) (result : Result Said OutOfMemory)
        (mapped : (set : GroupSet R g) → after ≡ OfGroup set → StandMaps next set.site) (renewed : next.dark ≡ false → IsTrue (site_disks m).tells → MapsRecovered (note_at (e.world.nodes s)) next)
      where
        sizes : (k : Config) → config_of next.config ≡ Some (at_serial 0 k) → (v : ℕ) → next.bytes.size v ≡ blocks_of k.volumes v
        sizes k is v =
            config.sizes v ∙ ap (λ (vs : List VolumeEntry). blocks_of vs v) (some_config config.now k (sym (config_is next.config config.now config.noted_now.is config.noted_now.spells) ∙ is))

        -- contents that are known were told of the disks that came up
        known : (set : GroupSet R g) → after ≡ OfGroup set → IsKnown (IsTold new) next → IsTrue (site_disks m).tells
        known set is it = lit it.1 ((since set is).tells (told_of new s after set there_now is it.0))

        back_for : (set : GroupSet R g) (is : after ≡ OfGroup set) (many : ℕ) → MOST_DISKS ≤ many → (d : Doubted) → ComesDown d e s
            → NotesBack (IsTold new) s (d.world.nodes s) (calls s old new many) (note_at (d.world.nodes s)) next
        back_for set is many enough d comes =
            let sits : SitsOn n (as_imported call.at.set.site) = sits_down n note call.at.set.site is_down in
            subst (λ (k : GroupNode). NotesBack (IsTold new) s (d.world.nodes s) (calls s old new many) k next) comes.note
            (back_of (IsTold new) (is_dimmed call.at.set.site) s (d.world.nodes s) note next (as_imported call.at.set.site) m (calls s old new many) (known set is)
            (record { units = sits.units ∙ comes.disks; size = λ u low. sits.size u (omega (arith, low, comes.disks)) ∙ comes.blocks }) loose back config
            (λ k low rose.
            calls_named e old new [] s before after begin.stands call call.at.set set call.at.is_set is many k (omega (arith, low, comes.disks, sized.few, enough))
            (rose_up ((site_disks call.at.set.site).disk_faults k) ((as_imported call.at.set.site).disk_faults k) ((site_disks m).disk_faults k) ((site_disks set.site).disk_faults k)
            ((imported_same {R = R} {g = g} call.at.set.site).counts k) rose ((since set is).counts k))))

        -- and so are the maps
        maps_for : (set : GroupSet R g) → after ≡ OfGroup set → (d : Doubted) → ComesDown d e s → IsKnown (IsTold new) next → MapsRecovered (note_at (d.world.nodes s)) next
        maps_for set is d comes it = subst (λ (k : GroupNode). MapsRecovered k next) comes.note (renewed it.1 (known set is it))

        cut_for : (d : Doubted) → ComesDown d e s → cut_value cut ≡ (note_at (d.world.nodes s)).cut
        cut_for d comes = ap (λ (o : Option CutWrite). cut_value o) cut_is ∙ was_cut ∙ ap (λ (k : GroupNode). k.cut) comes.note

        -- the write that was cut lies in its volume still, where contents are told
        lies_now : IsTrue (site_disks m).tells → (x : CutWrite) → FitsPlain (note_at (e.world.nodes s)) x.volume x.block (length x.bytes) → FitsPlain next x.volume x.block (length x.bytes)
        lies_now yes_ x fits = record {
          some = fits.some;
          whole = fits.whole;
          within = omega (arith, fits.within, back.size yes_ x.volume (omega (arith, fits.some, fits.whole, fits.within)));
        }

        risen : Arrives e (happened e (Regroup s) false) s (group_up (e.world.nodes s)) (e.world.gathering s)
        risen =
            let none = (down_notes n note call.at.set.site is_down).0.none in
            arrives_up e e s n (e.world.gathering s) starts begin.below (ap (λ (t : SiteState). is_at_rest t) begin.down) none.role none.volumes none.log

        -- it stays up, with what is kept
        kept_up : (kept : Option KeptWrite) → AtPlain (UpNoted (worked (returned_with next (e.world.nodes s))) next) after → cut_in after ≡ None → KeptIs next (site_disks m) cut kept
            → StandsSo s (fact_of_group (e.world.nodes s) (note_at (e.world.nodes s))) c after (Ok kept) mid new result → RisesIs e s old new result
        kept_up kept at clear is_kept so = subst (λ (r : Result Said OutOfMemory). RisesIs e s old new r) (sym replied) (record {
          next = noted_at (happened e (Regroup s) false) s next;
          fails = calls s old new MOST_DISKS;
          done = ends;
          stands = follows.stands;
          carries = follows.carries;
          rose = calls_all e old new [] s before after begin.stands call MOST_DISKS;
        })
          where
            t : SetThen (UpNoted (worked (returned_with next (e.world.nodes s))) next) after
            t = set_then (UpNoted (worked (returned_with next n)) next) after at

            holds : UpNoted (risen_node next (e.world.nodes s)) next t.set.site
            holds = subst (λ (k : Node). UpNoted k next t.set.site) (risen_is n next (unfused_down n note call.at.set.site is_down)) t.holds

            has : HasUp (risen_node next (e.world.nodes s)) next t.set.site
            has = has_up (risen_node next n) next t.set.site holds

            shown : Option Kept
            shown = kept_shown has.config.volumes kept

            view : SiteView
            view = view_with (group_up_facts (map plain_fact c.volumes) (fact_of_group n note)) (Some has.config)

            replied : result ≡ Ok (Resumed view shown)
            replied = so.2 has.config (subst (λ (x : DiskSet R g). AtSite (λ y. site_config y ≡ Some has.config) x) (sym t.is) has.has)

            load : SameLoad old new
            load = record {
              flight = half.flight ∙ half.load.flight;
              assemblies = ap (λ xs. xs.items) so.1 ∙ half.load.assemblies;
              feeders = ap (λ xs. xs.items) half.feeders ∙ half.load.feeders;
            }

            follows : Follows e (noted_at (happened e (Regroup s) false) s next) old new
            follows =
                follows_on e (noted_at (happened e (Regroup s) false) s next) s (risen_node next n) next (group_up_facts (map plain_fact c.volumes) (fact_of_group n note)) old new before t.set begin.stands begin.below (turned t.set t.is)
                (arrives_noted e (happened e (Regroup s) false) s (group_up n) next (e.world.gathering s) risen) (up_notes (risen_node next n) next t.set.site holds).0
                (up_set (risen_node next n) next t.set (record { few = sized.few; some = sized.some }) holds (mapped t.set t.is) (ap (λ (x : Option Config). config_rvg x) reads ∙ alone) (ap (λ (x : DiskSet R g). cut_in x) (sym t.is) ∙ clear) back.cut)
                (still_fails (risen_node next n) t.set t.is refl) (fused_none (risen_node next n) (OfGroup t.set) (unfused_down n note call.at.set.site is_down)) (up_seen n note next c reads)
                (so.0 ∙ ap (λ (fs : List SiteFacts). slice_set fs s (group_up_facts (map plain_fact c.volumes) (fact_of_group n note))) half.facts) load

            seen : (d : Doubted) → ComesDown d e s → view ≡ grouped_view (record (d.world.nodes s) { state = IsUp }) next
            seen d comes =
                ap (λ (f : SiteFacts). view_with f (Some has.config)) (up_seen n note next c reads) ∙ view_up (risen_node next n) next t.set.site has.config holds has.has
                ∙ named_view n (d.world.nodes s) next comes.name

            shows : IsTrue (site_disks m).tells → (d : Doubted) → ComesDown d e s → ShowsKept (IsTold new) (note_at (d.world.nodes s)).cut next shown
            shows tells d comes =
                subst (λ (w : Option Write). ShowsKept (IsTold new) w next (kept_shown has.config.volumes kept)) (cut_for d comes)
                (shows_cut (IsTold new) next (site_disks m) has.config (λ _. tells) has.reads (sizes has.config has.reads) cut kept (λ x is. lies_now tells x (was_fits x (sym cut_is ∙ is))) is_kept)

            ends : (d : Doubted) (name : List ℕ) → ComesDown d e s → GroupEnds (IsTold new) d (Recover name) s (calls s old new MOST_DISKS) (Resumed view shown) (noted_at (happened e (Regroup s) false) s next)
            ends d name comes =
                subst (λ (x : Doubted). GroupEnds (IsTold new) d (Recover name) s (calls s old new MOST_DISKS) (Resumed view shown) (noted_at x s next)) (up_as d e s comes)
                (by_bool (site_disks m).tells
                (λ yes_.
                GroupDone next (calls_are e old new [] s before after begin.stands call MOST_DISKS) (
                  back_for t.set t.is MOST_DISKS (omega arith) d comes,
                  maps_for t.set t.is d comes,
                  record { kept = shown; says = ap (λ (v : SiteView). Resumed v shown) (seen d comes); shows = shows yes_ d comes },
                ) (record { world = refl; after = λ i. refl; strayed = refl }))
                (λ no_.
                let nothing : NoneKnown (IsTold new) note next =
                none_known (IsTold new) note next (site_disks m).tells no_ (λ told bright. known t.set t.is (told, bright)) (dark_moves (is_dimmed call.at.set.site) note next loose back.dark) in
                FindsGroup next (calls_are e old new [] s before after begin.stands call MOST_DISKS) tt
                (subst (λ (k : GroupNode). KnowsNothing (IsTold new) k) comes.note nothing.before) nothing.dark
                (shown, ap (λ (v : SiteView). Resumed v shown) (seen d comes)) (record { world = refl; after = λ i. refl; strayed = refl })))

        -- it went down again
        unread : (disk : ℕ) → AtPlain (DownNoted (crashed (with_note (still_cut cut next) (returned_with next (e.world.nodes s))) 0) (still_cut cut next)) after → cut_in after ≡ cut_value cut
            → ((x : CutWrite) → (k : Option CutWrite) → cut_value k ≡ cut_value cut → k ≡ Some x → FitsPlain next x.volume x.block (length x.bytes)) → (cut_value cut ≡ None → ⊥)
            → AtPlain (λ x. Rose ((site_disks m).disk_faults disk) ((site_disks x).disk_faults disk)) after
            → StandsSo s (fact_of_group (e.world.nodes s) (note_at (e.world.nodes s))) c after (Err (StopsBy (Device disk))) mid new result → RisesIs e s old new result
        unread disk at stays_cut fits some rose so = subst (λ (r : Result Said OutOfMemory). RisesIs e s old new r) (sym so.2) (record {
          next = noted_at (happened (happened e (Regroup s) false) (CrashAt s 0) false) s (still_cut cut next);
          fails = calls s old new (MOST_DISKS + suc disk);
          done = ends;
          stands = follows.stands;
          carries = follows.carries;
          rose = calls_all e old new [] s before after begin.stands call (MOST_DISKS + suc disk);
        })
          where
            k : Node
            k = crashed (with_note (still_cut cut next) (returned_with next (e.world.nodes s))) 0

            t : SetThen (DownNoted (crashed (with_note (still_cut cut next) (returned_with next (e.world.nodes s))) 0) (still_cut cut next)) after
            t = set_then (DownNoted k (still_cut cut next)) after at

            same : cut_value t.set.cut ≡ cut_value cut
            same = ap (λ (x : DiskSet R g). cut_in x) (sym t.is) ∙ stays_cut

            lets : LetsGo old new s
            lets = record {
              flight = half.flight ∙ half.load.flight;
              assemblies = subst (λ (xs : List Assembled). LetGo s xs new.assemblies.items) half.load.assemblies so.1;
              feeders = ap (λ xs. xs.items) half.feeders ∙ half.load.feeders;
            }

            fell : Arrives e (happened (happened e (Regroup s) false) (CrashAt s 0) false) s (crashed (group_up (e.world.nodes s)) 0) None
            fell =
                let none = (down_notes n note call.at.set.site is_down).0.none in
                arrives_crash e (happened e (Regroup s) false) s (group_up n) (e.world.gathering s) risen (omega (arith, begin.below, risen.site.sites)) refl none.log none.safe

            follows : Follows e (noted_at (happened (happened e (Regroup s) false) (CrashAt s 0) false) s (still_cut cut next)) old new
            follows =
                follows_off e (noted_at (happened (happened e (Regroup s) false) (CrashAt s 0) false) s (still_cut cut next)) s k (still_cut cut next)
                (down_fact (group_up_facts (map plain_fact c.volumes) (fact_of_group n note))) old new before t.set begin.stands begin.below (turned t.set t.is)
                (arrives_noted e (happened (happened e (Regroup s) false) (CrashAt s 0) false) s (crashed (group_up n) 0) (still_cut cut next) None fell)
                (λ back_up. let w : IsDown ≡ IsUp = back_up in absurd (cc)) (down_notes k (still_cut cut next) t.set.site t.holds).0
                (down_set k (still_cut cut next) t.set (record { few = sized.few; some = sized.some }) t.holds (stand_as next (still_cut cut next) t.set.site refl refl refl (mapped t.set t.is)) (ap (λ (x : Option Config). config_rvg x) reads ∙ alone) same (λ x is. fits_note (still_cut cut next) next refl x (fits x t.set.cut same is)))
                (still_fails k t.set t.is refl) (fused_none k (OfGroup t.set) refl) (fell_seen n note next (still_cut cut next) c reads refl)
                (so.0 ∙ ap (λ (fs : List SiteFacts). slice_set fs s (down_fact (group_up_facts (map plain_fact c.volumes) (fact_of_group n note)))) half.facts) lets

            named : Contains (calls s old new (MOST_DISKS + suc disk)) (s, disk)
            named =
                calls_named e old new [] s before after begin.stands call call.at.set t.set call.at.is_set t.is (MOST_DISKS + suc disk) disk (omega arith)
                (rose_down ((site_disks call.at.set.site).disk_faults disk) ((site_disks m).disk_faults disk) ((site_disks t.set.site).disk_faults disk) ((since t.set t.is).from disk)
                (subst (λ (x : DiskSet R g). AtPlain (λ y. Rose ((site_disks m).disk_faults disk) ((site_disks y).disk_faults disk)) x) t.is rose))

            ends : (d : Doubted) (name : List ℕ) → ComesDown d e s
                → GroupEnds (IsTold new) d (Recover name) s (calls s old new (MOST_DISKS + suc disk)) (Refused (Device disk)) (noted_at (happened (happened e (Regroup s) false) (CrashAt s 0) false) s (still_cut cut next))
            ends d name comes =
                subst
                (λ (x : Doubted). GroupEnds (IsTold new) d (Recover name) s (calls s old new (MOST_DISKS + suc disk)) (Refused (Device disk)) (noted_at x s (still_cut cut next)))
                (unread_as d e s comes)
                (KeptUnread disk (still_cut cut next) name refl (calls_are e old new [] s before after begin.stands call (MOST_DISKS + suc disk)) named
                (record {
                  middle = next;
                  back = back_for t.set t.is (MOST_DISKS + suc disk) (omega arith) d comes;
                  maps = maps_for t.set t.is d comes;
                  cut = λ none. some (cut_for d comes ∙ none);
                  is = ap (λ (w : Option Write). let q : GroupNode = record next { cut = w } in q) (cut_for d comes);
                })
                refl (record { world = refl; after = λ i. refl; strayed = refl }))

        pub looked : (answer : Result (Option KeptWrite) Stop) → RisesWith (returned_with next (e.world.nodes s)) next cut m after answer
            → StandsSo s (fact_of_group (e.world.nodes s) (note_at (e.world.nodes s))) c after answer mid new result → RisesIs e s old new result
        looked (Ok kept) it so = kept_up kept it.0 it.1 it.2 so
        looked (Err (StopsBy (Device disk))) it so = unread disk it.0 it.1 (λ x o same is. fits_by next cut o same it.2 x is) (cut_some next cut it.2) it.3 so
        looked (Err other) it so = absurd it
