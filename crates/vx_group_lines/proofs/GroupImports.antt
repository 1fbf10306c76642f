-- The line that imports a group that was deported.
use Rattle.std.proofs.Common.{◌≡◌, ◌∙◌, ◌⊎◌, ◌+◌, ◌<◌, ℕ, Bool, true, false, List, map, ap, sym, subst, refl, arith, inl, inr, IsTrue}
use Rattle.std.specs.Prelude.{Contains, Option, Some, None, IsFalse, slice_get, slice_set, Result, Ok, Err, not}
use Rattle.std.proofs.lemmas.Option.{slice_get_within}
use Rattle.vx_model.specs.declared.errors.OutOfMemory.{OutOfMemory}
use Rattle.vx_model.specs.declared.errors.Stop.{Stop}
use Rattle.vx_model.specs.declared.errors.Stop.TheVariants.{No as StopsBy, OutOfMemory as MemoryStop}
use Rattle.vx_model.specs.declared.no.No.{No}
use Rattle.vx_model.specs.declared.no.No.TheVariants.{Down as IsOff, Device}
use Rattle.vx_model.specs.declared.site.SiteState.TheVariants.{Up as IsUp, Down as IsDown, Deported as IsDeported}
use Rattle.vx_disk.specs.Counts.{Rose}
use Rattle.vx_disk.specs.declared.shelf.Shelf.{Ghosts}
use Rattle.vx_config.specs.declared.config.Config.{Config}
use Rattle.vx_kept.specs.Cleans.{at_serial}
use Rattle.vx_history.specs.Doubts.{Doubted, happened}
use Rattle.vx_history.specs.Groups.{GroupNode, MissedNote}
use Rattle.vx_history.specs.Missing.{with_maps}
use Rattle.vx_history.specs.Steps.{crashed, group_up, worked_on}
use Rattle.vx_history.specs.Stops.{IsFused}
use Rattle.vx_history.specs.World.{Node}
use Rattle.vx_history.specs.declared.event.Event.TheVariants.{Crash as CrashAt, Group as GroupAt_}
use Rattle.vx_history.specs.Sound.{is_at_rest}
use Rattle.vx_order.specs.declared.facts.SiteFacts.{SiteFacts}
use Rattle.vx_order.specs.declared.facts.VolumeFacts.{VolumeFacts}
use Rattle.vx_script.specs.declared.line.ScriptLine.TheVariants.{GroupImport}
use Rattle.vx_grouped.proofs.MapNoteLemmas.{up_with_maps}
use Rattle.vx_grouped.proofs.ReadyLemmas.{imported_same}
use Rattle.vx_grouped.specs.GroupSites.{AwayNoted, DownNoted, HasNoRvg, UpNoted, site_config, site_disks, with_note, site_below}
use Rattle.vx_grouped.specs.SiteMaps.{BackMaps, CameMapped, StandMaps}
use Rattle.vx_grouped.specs.SiteReturns.{ConfigReturns, KeepsFuse, NoteReturns, SiteImports, as_imported, returned_with, is_dimmed, stops_early}
use Rattle.vx_grouped.specs.declared.group_site.GroupSite.{GroupSite}
use Rattle.vx_diskset.specs.GroupCalls.{AtSite, OnSites, cut_in}
use Rattle.vx_diskset.specs.GroupSets.{cut_value, noted_cut}
use Rattle.vx_diskset.specs.Holds.{beside_of}
use Rattle.vx_diskset.specs.Stands.{IsRackTold}
use Rattle.vx_diskset.specs.declared.disk_set.DiskSet.{DiskSet}
use Rattle.vx_diskset.specs.declared.disk_set.DiskSet.TheVariants.{OfGroup}
use Rattle.vx_diskset.specs.declared.group_set.GroupSet.{GroupSet}
use Rattle.vx_events.specs.Fails.{Fails}
use Rattle.vx_events.specs.Parts.{StopsRead, StopsShort}
use Rattle.vx_events.specs.GroupEnds.{AreOf, FindsNoGroup, GroupCut, GroupDone, GroupEnds, GroupFails, GroupNotFound, ImportFails}
use Rattle.vx_events.specs.GroupLines.{fuse_lost, noting}
use Rattle.vx_events.specs.GroupNotes.{IsKnown, note_at, NotesShort}
use Rattle.vx_events.specs.GroupViews.{config_of, plain_fact}
use Rattle.vx_events.proofs.RvgStays.{refused_config}
use Rattle.vx_events.specs.RvgFits.{config_rvg, rvg_noted}
use Rattle.vx_events.specs.StepsOver.{fact_of_group, group_place, over_group_at}
use Rattle.vx_events.specs.declared.said.Said.{Said}
use Rattle.vx_events.specs.declared.said.Said.TheVariants.{Done, Refused}
use Rattle.vx_yard.proofs.Carrying.{LetsGo, SameLoad}
use Rattle.vx_yard.proofs.FuseStays.{fused_none}
use Rattle.vx_yard.proofs.Lists.{get-set_same, set_same}
use Rattle.vx_yard.proofs.OverGroup.{set_notes}
use Rattle.vx_effects.specs.Facts.{down_fact}
use Rattle.vx_yard.specs.GroupFacts.{group_up_facts}
use Rattle.vx_yard.specs.Standing.{LeadsOver, LeadsOverIs, LeadsOverOrStops, StandsFor, StopsFor}
use Rattle.vx_yard.specs.Writes.{below_facts}
use Rattle.vx_yard.specs.Yards.{IsTold}
use Rattle.vx_yard.specs.declared.yard.Yard.{Yard}
use Rattle.vx_group_lines.proofs.Arriving.{Arrives, arrives_crash, arrives_unfused, arrives_up, arrives_worked}
use Rattle.vx_above.proofs.SiteCalls.{calls}
use Rattle.vx_above.proofs.Changing.{notes_config, notes_table}
use Rattle.vx_group_lines.proofs.GroupAt.{away_notes, down_notes, no_value, uncut, up_notes, lit_away, lit_up, loose_away}
use Rattle.vx_group_lines.proofs.GroupCalls.{Called, SetThen, called_to, calls_all, calls_are, calls_named, calls_names, calls_none, cut_of, failing_to, maps_were, plain_were, sets_then, sized}
use Rattle.vx_group_lines.proofs.GroupEnding.{Midway, load_on, lets_on}
use Rattle.vx_group_lines.proofs.GroupLeads.{Follows, away_set, down_set, follows_off, follows_on, leads_by, or_stops, up_set}
use Rattle.vx_group_lines.proofs.GroupMarks.{begins_at, group_noted_at}
use Rattle.vx_group_lines.proofs.ImportWhys.{away_unfused, config_now, fused_keeps, import_cases, ImportCases, is_late, sits_away, StaysAway, unfused_with, Why, why_disk, why_is}
use Rattle.vx_above.proofs.Losing.{Names}
use Rattle.vx_group_lines.proofs.MapComing.{MapsCame, comes_back, config_with, fell_dark, returns_with, stays_away}
use Rattle.vx_group_lines.proofs.MapGoing.{on_both}
use Rattle.vx_group_lines.proofs.MapLines.{logs_bound, logs_low}
use Rattle.vx_group_lines.proofs.MapReturns.{back_named}
use Rattle.vx_group_lines.proofs.Returning.{back_of}
use Rattle.vx_group_lines.specs.Noting.{IsNotedRefusal, reply_noted}
use Rattle.vx_grouped.specs.GroupNotes.{note_dimmed}
use Rattle.vx_events.specs.Doubts.{IsAs}
use Rattle.vx_group_lines.proofs.Dimming.{KnownBy, dimmed_by, no_call, notes_refused, notes_short}

module _ {R : Type 0} {g : Ghosts R} where
  module _ (d : Doubted) (old new : Yard R g) (name : List ℕ) (s : ℕ) (before after : DiskSet R g) (stands : StandsFor d old) (call : Called d old new name s before after)
      (place : group_place d.world (GroupImport name) ≡ s) (away : (d.world.nodes s).state ≡ IsDeported) (noted : AwayNoted (d.world.nodes s) (note_at (d.world.nodes s)) call.at.set.site) where
    abbrev n : Node
    n = d.world.nodes s

    abbrev note : GroupNode
    note = note_at (d.world.nodes s)

    abbrev was_site : GroupSite R g
    was_site = call.at.set.site

    none : HasNoRvg n
    none = (set_notes (beside_of d s) n call.at.set call.at.stands call.at.made).1.none

    names_at : (next : GroupSet R g) → after ≡ OfGroup next → (many k : ℕ) → k < many → Rose ((as_imported was_site).disk_faults k) ((site_disks next.site).disk_faults k) → Contains (calls s old new many) (s, k)
    names_at next is many k low rose =
        calls_named d old new name s before after stands call call.at.set next call.at.is_set is many k low
        (subst (λ (x : ℕ). Rose x ((site_disks next.site).disk_faults k)) ((imported_same {R = R} {g = g} was_site).counts k) rose)

    told_at : (next : GroupSet R g) → after ≡ OfGroup next → IsTold new → IsTrue (site_below next.site).tells
    told_at next is told =
        subst (λ (x : DiskSet R g). IsRackTold x) is
        (told.each s after (ap (λ (es : List (DiskSet R g)). slice_get es s) call.changed.disk_sets ∙ get-set_same old.disk_sets.items s after (slice_get_within old.disk_sets.items s before call.changed.there)))

    -- imports that may disagree are noted
    loose : is_dimmed call.at.set.site ≡ true → (note_at (d.world.nodes s)).loose ≡ true
    loose is = loose_away n note was_site noted is

    abbrev dims : Bool
    dims = is_dimmed call.at.set.site

    -- the note behind a refusal that came before the first write, or behind it
    abbrev left : Bool → GroupNode
    left late = dimmed_by late (is_dimmed call.at.set.site) (note_at (d.world.nodes s))

    note_clear : note.cut ≡ None
    note_clear =
        ap (λ (o : Option GroupNode). noted_cut o) (sym (group_noted_at d old name s before call.at)) ∙ sym call.at.stands.cut
        ∙ uncut (beside_of d s) n call.at.set call.at.stands (λ down. let w : IsDeported ≡ IsDown = sym away ∙ down in absurd (cc))

    set_clear : cut_value call.at.set.cut ≡ None
    set_clear = uncut (beside_of d s) n call.at.set call.at.stands (λ down. let w : IsDeported ≡ IsDown = sym away ∙ down in absurd (cc))

    -- ---- done

    pub import_done : OnSites (λ o e. SiteImports n note o e (Ok (tt {0}))) before after → OnSites (λ o e. CameMapped o e (Ok (tt {0}))) before after → cut_in after ≡ None → SameLoad old new
        → ((c : Config) → AtSite (λ site. site_config site ≡ Some c) after → c.rvg ≡ None)
        → ((c : Config) → AtSite (λ site. site_config site ≡ Some c) after → new.facts.items ≡ slice_set old.facts.items s (group_up_facts (map plain_fact c.volumes) (fact_of_group (d.world.nodes s) (note_at (d.world.nodes s)))))
        → LeadsOver d (GroupImport name) Done old new
    import_done on maps cut load alone facts =
        let P : GroupSite R g → GroupSite R g → Type 0 = λ o e. SiteImports n note o e (Ok (tt {0})) in
        let then : SetThen (P was_site) after = sets_then P before after call.at.set call.at.is_set on in
        let first : GroupNode = then.holds.0.0 in
        let first_back : NoteReturns (IsTrue (site_disks then.set.site).tells) (note_dimmed dims note) first = then.holds.0.1 in
        let first_up : UpNoted (returned_with first n) first then.set.site = then.holds.0.2 in
        let first_config : ConfigReturns (note_dimmed dims note) first (as_imported was_site) then.set.site = then.holds.0.3 in
        let had : StandMaps note was_site = maps_were d old new name s before after stands call in
        let came : MapsCame (λ (w : MissedNote). BackMaps (site_disks was_site) (site_disks then.set.site) had.config first_config.now note.maps w) first then.set.site
        = comes_back n note first dims was_site then.set.site first_config.now had noted first_back.dark (config_now (returned_with first n) first first_config.now then.set.site first_up first_config.has) first_config.noted_now
        (on_both (λ o e. CameMapped o e (Ok (tt {0}))) before after call.at.set then.set call.at.is_set then.is maps) in
        let next : GroupNode = with_maps came.maps first in
        let back : NoteReturns (IsTrue (site_disks then.set.site).tells) (note_dimmed dims note) next = returns_with came.maps (IsTrue (site_disks then.set.site).tells) (note_dimmed dims note) first first_back in
        let up : UpNoted (returned_with next n) next then.set.site = up_with_maps came.maps (returned_with first n) first then.set.site first_up in
        let config : ConfigReturns (note_dimmed dims note) next (as_imported was_site) then.set.site = config_with came.maps (note_dimmed dims note) first (as_imported was_site) then.set.site first_config in
        let many : ℕ = n.disks + (site_disks was_site).units + logs_bound had.config.volumes in
        let fails : Fails = calls s old new many in
        let names : Names s many fails (site_disks was_site) (site_disks then.set.site) = calls_names d old new name s before after stands call call.at.set then.set call.at.is_set then.is many (omega arith) in
        let lit : IsKnown (IsTold new) next → IsTrue (site_disks then.set.site).tells = λ known. lit_up (returned_with next n) next then.set.site up known.1 (told_at then.set then.is known.0) in
        let keeps : KeepsFuse (as_imported was_site) (site_disks then.set.site) = then.holds.1 in
        let m : Node = returned_with next n in
        let e : Doubted = happened d (GroupAt_ s) false in
        let last : Doubted = record e { world = worked_on (noting e.world s next) s } in
        let f : SiteFacts = group_up_facts (map plain_fact config.now.volumes) (fact_of_group n note) in
        let held : AtSite (λ site. site_config site ≡ Some config.now) after
        = subst (λ (x : DiskSet R g). AtSite (λ (site : GroupSite R g). site_config site ≡ Some config.now) x) (sym then.is) (config_now m next config.now then.set.site up config.has) in
        leads_by d last (GroupImport name) s fails Done old new place
        (GroupDone next (calls_are d old new name s before after stands call many) (
          back_of (IsTold new) dims s n note next (as_imported was_site) then.set.site fails lit (sits_away n note was_site noted) loose back config
              (λ k low rose. names_at then.set then.is many k (omega (arith, low)) rose),
          λ known. record {
            old = at_serial 0 had.config;
            now = at_serial 0 config.now;
            was = notes_config note had.config (record { is = had.is; spells = had.spells });
            now_is = notes_config next config.now config.noted_now;
            back =
                back_named s many fails (site_disks was_site) (site_disks then.set.site) names had.config config.now (λ u k. logs_low had.config many u k (omega arith)) note.maps came.maps
                (came.by known.1 (lit known));
          },
          refl,
        )
        (record { world = refl; after = λ i. refl; strayed = refl }))
        (follows_on d last s m next f old new before then.set stands call.at.below (called_to d old new name s before after stands call then.set then.is)
        (arrives_worked d e s (group_up n) next (d.world.gathering s)
        (arrives_up d d s n (d.world.gathering s) (begins_at d old name s before stands call.at) call.at.below (ap (λ t. is_at_rest t) away) none.role none.volumes none.log))
        (up_notes m next then.set.site up).0
        (up_set m next then.set (record { few = (sized d old new name s before after stands call).few; some = (sized d old new name s before after stands call).some }) up came.stands
        (ap (λ (o : Option Config). config_rvg o) (notes_config next config.now config.noted_now) ∙ alone config.now held) (cut_of d old new name s before after stands call then.set then.is None cut) back.cut)
        (failing_to d old new name s before after stands call m then.set then.is refl)
        (fused_keeps n m before after call.at.set then.set call.at.is_set then.is refl call.failing keeps (stands.fuses s before call.at.below call.changed.there))
        (ap (λ (vs : List VolumeFacts). group_up_facts vs (fact_of_group n note)) (sym (notes_table next config.now config.noted_now))) (facts config.now held) load)
        (calls_all d old new name s before after stands call many)

    -- ---- refused

    -- what is noted of the maps then
    left_stands : (late : Bool) (stop : Stop) (next : GroupSet R g) → late ≡ not (stops_early stop) → AwayNoted (with_note (left late) (d.world.nodes s)) (left late) next.site → CameMapped call.at.set.site next.site (Err stop) → StandMaps (left late) next.site
    left_stands late stop next is there came = stays_away n (with_note (left late) n) note late dims was_site next.site stop (maps_were d old new name s before after stands call) noted there is came

    left_plain : (late : Bool) → rvg_noted (left late) ≡ None
    left_plain late =
        ap (λ (c : List ℕ). config_rvg (config_of c)) (refused_config note (left late) (notes_refused late dims note)) ∙ plain_were d old new name s before after stands call

    -- the disks are by themselves still, and their fuse as it was
    pub stays_follows : (late : Bool) (next : GroupSet R g) → after ≡ OfGroup next → AwayNoted (with_note (left late) (d.world.nodes s)) (left late) next.site → StandMaps (left late) next.site → KeepsFuse (as_imported was_site) (site_disks next.site) → cut_in after ≡ cut_in before
        → new.facts.items ≡ old.facts.items → SameLoad old new → Follows d (record d { world = worked_on (noting d.world s (left late)) s }) old new
    stays_follows late next is there maps keeps cut facts load =
        let k : GroupNode = left late in
        let m : Node = with_note k n in
        follows_on d (record d { world = worked_on (noting d.world s k) s }) s m k (fact_of_group n note) old new before next stands call.at.below (called_to d old new name s before after stands call next is)
        (arrives_worked d d s n k (d.world.gathering s) (begins_at d old name s before stands call.at))
        (away_notes m k next.site there).0
        (away_set m k next (record { few = (sized d old new name s before after stands call).few; some = (sized d old new name s before after stands call).some }) there maps (left_plain late)
        (cut_of d old new name s before after stands call next is None (cut ∙ ap (λ (x : DiskSet R g). cut_in x) call.at.is_set ∙ set_clear)) note_clear)
        (failing_to d old new name s before after stands call m next is refl)
        (fused_keeps n m before after call.at.set next call.at.is_set is refl call.failing keeps (stands.fuses s before call.at.below call.changed.there))
        refl (facts ∙ sym (set_same old.facts.items s (fact_of_group n note) call.at.fact)) load

    -- and the fuse is lost
    pub lost_follows : (late : Bool) (next : GroupSet R g) → after ≡ OfGroup next → AwayNoted (with_note (left late) (d.world.nodes s)) (left late) next.site → StandMaps (left late) next.site → IsFalse (site_disks next.site).armed → cut_in after ≡ cut_in before
        → new.facts.items ≡ old.facts.items → SameLoad old new → Follows d (record d { world = fuse_lost (noting d.world s (left late)) s }) old new
    lost_follows late next is away_is maps unarmed cut facts load =
        let k : GroupNode = left late in
        let m : Node = unfused_with k n in
        let there : AwayNoted m k next.site = away_unfused n k next.site away_is unarmed in
        follows_on d (record d { world = fuse_lost (noting d.world s k) s }) s m k (fact_of_group n note) old new before next stands call.at.below (called_to d old new name s before after stands call next is)
        (arrives_unfused d d s n k (d.world.gathering s) (begins_at d old name s before stands call.at))
        (away_notes m k next.site there).0
        (away_set m k next (record { few = (sized d old new name s before after stands call).few; some = (sized d old new name s before after stands call).some }) there maps (left_plain late)
        (cut_of d old new name s before after stands call next is None (cut ∙ ap (λ (x : DiskSet R g). cut_in x) call.at.is_set ∙ set_clear)) note_clear)
        (failing_to d old new name s before after stands call m next is refl) (fused_none m (OfGroup next) refl)
        refl (facts ∙ sym (set_same old.facts.items s (fact_of_group n note) call.at.fact)) load

    -- the fuse ran out
    pub import_off : (next : GroupSet R g) → after ≡ OfGroup next → DownNoted (crashed (returned_with (left true) (d.world.nodes s)) 0) (left true) next.site → IsFused n.fuse → cut_in after ≡ cut_in before
        → new.facts.items ≡ slice_set old.facts.items s (down_fact (fact_of_group (d.world.nodes s) (note_at (d.world.nodes s)))) → LetsGo old new s → LeadsOver d (GroupImport name) (Refused IsOff) old new
    import_off next is down fused cut facts lets =
        let k : GroupNode = left true in
        let m : Node = crashed (returned_with k n) 0 in
        let first : Doubted = happened d (GroupAt_ s) false in
        let e : Doubted = happened first (CrashAt s 0) false in
        let last : Doubted = record e { world = worked_on (noting e.world s k) s } in
        let risen : Arrives d first s (group_up n) (d.world.gathering s)
        = arrives_up d d s n (d.world.gathering s) (begins_at d old name s before stands call.at) call.at.below (ap (λ t. is_at_rest t) away) none.role none.volumes none.log in
        let clear : cut_value next.cut ≡ None = cut_of d old new name s before after stands call next is None (cut ∙ ap (λ (x : DiskSet R g). cut_in x) call.at.is_set ∙ set_clear) in
        leads_by d last (GroupImport name) s (calls s old new n.disks) (Refused IsOff) old new place
        (GroupCut k (calls_are d old new name s before after stands call n.disks) fused (notes_refused true dims note) refl (record { world = refl; after = λ i. refl; strayed = refl }))
        (follows_off d last s m k (down_fact (fact_of_group n note)) old new before next stands call.at.below (called_to d old new name s before after stands call next is)
        (arrives_worked d e s (crashed (group_up n) 0) k None (arrives_crash d first s (group_up n) (d.world.gathering s) risen (omega (arith, call.at.below, risen.site.sites)) refl none.log none.safe))
        (λ up. let w : IsDown ≡ IsUp = up in absurd (cc))
        (down_notes m k next.site down).0
        (down_set m k next (record { few = (sized d old new name s before after stands call).few; some = (sized d old new name s before after stands call).some }) down
        (fell_dark m note dims was_site next.site (maps_were d old new name s before after stands call) down) (left_plain true) (clear ∙ sym note_clear)
        (λ x at. let no : Some x ≡ None = sym at ∙ no_value next.cut clear in absurd (cc)))
        (failing_to d old new name s before after stands call m next is refl) (fused_none m (OfGroup next) refl) refl facts lets)
        (calls_all d old new name s before after stands call n.disks)

    -- ---- by the reply

    module _ (mid : Yard R g) (half : Midway old mid) (result : Result Said OutOfMemory) (cut : cut_in after ≡ cut_in before) where
      facts_still : (x : SiteFacts) → x ≡ fact_of_group (d.world.nodes s) (note_at (d.world.nodes s)) → new.facts.items ≡ slice_set mid.facts.items s x → new.facts.items ≡ old.facts.items
      facts_still x is facts =
          facts ∙ ap (λ (fs : List SiteFacts). slice_set fs s x) half.facts ∙ ap (λ (y : SiteFacts). slice_set old.facts.items s y) is
          ∙ set_same old.facts.items s (fact_of_group (d.world.nodes s) (note_at (d.world.nodes s))) call.at.fact

      -- it was refused, and the disks are by themselves
      away_leads : (late : Bool) (why : No) (many : ℕ) (next : GroupSet R g) → after ≡ OfGroup next → StaysAway late dims n note (as_imported was_site) next.site → StandMaps (left late) next.site → new.facts.items ≡ old.facts.items → SameLoad old new
          → GroupEnds (IsTold new) d (GroupImport name) s (calls s old new many) (Refused why) (record d { world = worked_on (noting d.world s (left late)) s })
          → GroupEnds (IsTold new) d (GroupImport name) s (calls s old new many) (Refused why) (record d { world = fuse_lost (noting d.world s (left late)) s })
          → LeadsOver d (GroupImport name) (Refused why) old new
      away_leads late why many next is (away_is, inl unarmed) maps facts load keeps lost =
          leads_by d (record d { world = fuse_lost (noting d.world s (left late)) s }) (GroupImport name) s (calls s old new many) (Refused why) old new place lost
          (lost_follows late next is away_is maps unarmed cut facts load) (calls_all d old new name s before after stands call many)
      away_leads late why many next is (away_is, inr fuse) maps facts load keeps lost =
          leads_by d (record d { world = worked_on (noting d.world s (left late)) s }) (GroupImport name) s (calls s old new many) (Refused why) old new place keeps
          (stays_follows late next is away_is maps fuse cut facts load) (calls_all d old new name s before after stands call many)

      known_ends : (why : No) (fails : Fails) → AreOf s fails → KnownBy (IsTold new) (is_late why) dims s note fails why
          → GroupEnds (IsTold new) d (GroupImport name) s fails (Refused why) (record d { world = worked_on (noting d.world s (left (is_late why))) s })
      known_ends why fails of (inl (none, leaves)) = GroupNotFound why (left (is_late why)) of tt none leaves refl (record { world = refl; after = λ i. refl; strayed = refl })
      known_ends why fails of (inr (nothing, device)) = FindsNoGroup (left (is_late why)) why of tt nothing device (notes_refused (is_late why) dims note) refl (record { world = refl; after = λ i. refl; strayed = refl })

      by_case : (why : No) (next : GroupSet R g) → after ≡ OfGroup next → ImportCases dims n note (as_imported was_site) next.site why → CameMapped was_site next.site (Err (StopsBy why))
          → IsNotedRefusal s (fact_of_group (d.world.nodes s) (note_at (d.world.nodes s))) why mid new result → LeadsOverIs d (GroupImport name) old new result
      by_case why next is (inl (disk, device, stays, rose)) came refusal =
          let r : IsNotedRefusal s (fact_of_group n note) (Device disk) mid new result = subst (λ (w : No). IsNotedRefusal s (fact_of_group n note) w mid new result) device refusal in
          let many : ℕ = disk + 1 in
          let of = calls_are d old new name s before after stands call many in
          let has : Contains (calls s old new many) (s, disk) = names_at next is many disk (omega arith) rose in
          subst (λ (x : Result Said OutOfMemory). LeadsOverIs d (GroupImport name) old new x) (sym r.said)
          (away_leads true (Device disk) many next is stays (left_stands true (StopsBy why) next (ap (λ (w : No). is_late w) (sym device)) stays.0 came) (facts_still (below_facts (Device disk) (fact_of_group n note)) refl r.facts) (load_on old mid new half r.same r.assemblies)
          (GroupFails disk (left true) of has (notes_refused true dims note) refl (record { world = refl; after = λ i. refl; strayed = refl }))
          (ImportFails (Device disk) (left true) name refl of has (notes_refused true dims note) refl (record { world = refl; after = λ i. refl; strayed = refl })))
      by_case why next is (inr (inl (off, down, fused))) came refusal =
          let r : IsNotedRefusal s (fact_of_group n note) IsOff mid new result = subst (λ (w : No). IsNotedRefusal s (fact_of_group n note) w mid new result) off refusal in
          subst (λ (x : Result Said OutOfMemory). LeadsOverIs d (GroupImport name) old new x) (sym r.said)
          (import_off next is down fused cut (r.facts ∙ ap (λ (fs : List SiteFacts). slice_set fs s (down_fact (fact_of_group n note))) half.facts) (lets_on old mid new s half r.same r.assemblies))
      by_case why next is (inr (inr (stays, it, not_device, not_off))) came refusal =
          let many : ℕ = why_disk why + 1 + n.disks in
          let of = calls_are d old new name s before after stands call many in
          let w : Why (IsTold new) dims s note (calls s old new many) why
          = why_is (IsTold new) dims s note (calls s old new many) (IsTrue (site_disks next.site).tells) loose (as_imported was_site) (site_disks next.site) why
          (λ told bright. lit_away (with_note (left (is_late why)) n) (left (is_late why)) next.site stays.0 bright (told_at next is told))
          (λ k missing rose. names_at next is many k (omega (arith, ap (λ (x : No). why_disk x) missing)) rose) it
          (λ some no_fails. no_call (calls s old new many) (s, some.disk) no_fails (names_at next is many some.disk (let low = some.below in let same = (sits_away n note was_site noted).units in omega (arith, low, same)) some.rose)) not_device not_off in
          subst (λ (x : Result Said OutOfMemory). LeadsOverIs d (GroupImport name) old new x) (sym refusal.said)
          (away_leads (is_late why) why many next is stays (left_stands (is_late why) (StopsBy why) next refl stays.0 came) (facts_still (below_facts why (fact_of_group n note)) (w.quiet.facts (fact_of_group n note)) refusal.facts)
          (load_on old mid new half refusal.same (w.quiet.loads s mid.assemblies.items new.assemblies.items refusal.assemblies))
          (known_ends why (calls s old new many) of w.known)
          (ImportFails why (left (is_late why)) name refl of w.refuses (notes_refused (is_late why) dims note) refl (record { world = refl; after = λ i. refl; strayed = refl })))

      -- memory ran out: nothing was done, but the fuse may have burned, or be lost, and it may not be known any more what the disks hold
      memory_part : (new_is : Doubted) → over_group_at d.world name ≡ true
          → IsAs d (worked_on (noting d.world s (left false)) s) new_is ⊎ IsAs d (fuse_lost (noting d.world s (left false)) s) new_is → StopsShort (IsTold new) d (GroupImport name) new_is
      memory_part new_is over leads = StopsRead (record {
        reads = over;
        next = left false;
        notes = subst (λ (k : ℕ). NotesShort (note_at (d.world.nodes k)) (left false)) (sym place) (notes_short dims note loose);
        leads = subst (λ (k : ℕ). IsAs d (worked_on (noting d.world k (left false)) k) new_is ⊎ IsAs d (fuse_lost (noting d.world k (left false)) k) new_is) (sym place) leads;
      })

      memory_stops : (next : GroupSet R g) → after ≡ OfGroup next → StaysAway false dims n note (as_imported was_site) next.site → StandMaps (left false) next.site → over_group_at d.world name ≡ true → new ≡ mid → StopsFor d (GroupImport name) old new
      memory_stops next is (away_is, inl unarmed) maps over same =
          let follows = lost_follows false next is away_is maps unarmed cut (ap (λ (y : Yard R g). y.facts.items) same ∙ half.facts) (subst (λ (y : Yard R g). SameLoad old y) (sym same) half.load) in
          let e : Doubted = record d { world = fuse_lost (noting d.world s (left false)) s } in
          record {
            next = e;
            part = memory_part e over (inr (record { world = refl; after = λ i. refl; strayed = refl }));
            stands = follows.stands;
            carries = follows.carries;
            rose = calls_none d old new name s before after stands call;
          }
      memory_stops next is (away_is, inr fuse) maps over same =
          let follows = stays_follows false next is away_is maps fuse cut (ap (λ (y : Yard R g). y.facts.items) same ∙ half.facts) (subst (λ (y : Yard R g). SameLoad old y) (sym same) half.load) in
          let e : Doubted = record d { world = worked_on (noting d.world s (left false)) s } in
          record {
            next = e;
            part = memory_part e over (inl (record { world = refl; after = λ i. refl; strayed = refl }));
            stands = follows.stands;
            carries = follows.carries;
            rose = calls_none d old new name s before after stands call;
          }

      pub import_stopped : (stop : Stop) → OnSites (λ o e. SiteImports n note o e (Err stop)) before after → OnSites (λ o e. CameMapped o e (Err stop)) before after → over_group_at d.world name ≡ true
          → reply_noted s (fact_of_group (d.world.nodes s) (note_at (d.world.nodes s))) stop mid new result → LeadsOverOrStops d (GroupImport name) old new result
      import_stopped (StopsBy why) on maps over refusal =
          let P : GroupSite R g → GroupSite R g → Type 0 = λ o e. SiteImports n note o e (Err (StopsBy why)) in
          let then : SetThen (P was_site) after = sets_then P before after call.at.set call.at.is_set on in
          or_stops d (GroupImport name) old new result (by_case why then.set then.is (import_cases dims n note (as_imported was_site) then.set.site why then.holds)
          (on_both (λ o e. CameMapped o e (Err (StopsBy why))) before after call.at.set then.set call.at.is_set then.is maps) refusal)
      import_stopped MemoryStop on maps over refusal =
          let P : GroupSite R g → GroupSite R g → Type 0 = λ o e. SiteImports n note o e (Err MemoryStop) in
          let then : SetThen (P was_site) after = sets_then P before after call.at.set call.at.is_set on in
          subst (λ (x : Result Said OutOfMemory). LeadsOverOrStops d (GroupImport name) old new x) (sym refusal.1) (memory_stops then.set then.is (then.holds.0, then.holds.1)
          (left_stands false MemoryStop then.set refl then.holds.0 (on_both (λ o e. CameMapped o e (Err MemoryStop)) before after call.at.set then.set call.at.is_set then.is maps)) over refusal.0)
