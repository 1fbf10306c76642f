-- The line that deports the group of a site.
use Rattle.std.proofs.Common.{◌≡◌, ◌∙◌, ◌+◌, ◌<◌, ◌≤◌, ℕ, false, List, length, ap, sym, subst, refl, arith, inl, inr}
use Rattle.std.specs.Prelude.{None, IsTrue, slice_set, Result, Ok, Err}
use Rattle.vx_model.specs.declared.errors.OutOfMemory.{OutOfMemory}
use Rattle.vx_model.specs.declared.errors.Stop.{Stop}
use Rattle.vx_model.specs.declared.errors.Stop.TheVariants.{No as StopsBy, OutOfMemory as MemoryStop}
use Rattle.vx_model.specs.declared.no.No.{No}
use Rattle.vx_model.specs.declared.site.SiteState.TheVariants.{Up as IsUp, Deported as IsDeported}
use Rattle.vx_disk.specs.Shelf.{Meaning}
use Rattle.vx_disk.specs.declared.shelf.Shelf.{Ghosts}
use Rattle.vx_config.specs.declared.config.Config.{Config}
use Rattle.vx_history.specs.Doubts.{Doubted, happened}
use Rattle.vx_history.specs.Groups.{GroupNode, NoteSettles, NoteUnsettles}
use Rattle.vx_history.specs.Steps.{worked_on}
use Rattle.vx_history.specs.World.{Node}
use Rattle.vx_history.specs.declared.event.Event.TheVariants.{Deport as DeportAt}
use Rattle.vx_kept.specs.Cleans.{at_serial}
use Rattle.vx_order.specs.declared.facts.SiteFacts.{SiteFacts}
use Rattle.vx_order.specs.declared.facts.VolumeFacts.{VolumeFacts}
use Rattle.vx_script.specs.declared.line.ScriptLine.TheVariants.{GroupDeport}
use Rattle.vx_grouped.specs.ConfigMoves.{CleansPlexes, LosesSome, OpensMost, OpensSame, none_again}
use Rattle.vx_grouped.specs.GroupNotes.{NotesConfig}
use Rattle.vx_grouped.specs.GroupSites.{AwayNoted, HasNoRvg, deported_with, site_disks}
use Rattle.vx_grouped.specs.SiteEnds.{ConfigGoes, LacksDeport, SiteDeported}
use Rattle.vx_grouped.specs.declared.group_site.GroupSite.{GroupSite}
use Rattle.vx_grouped.specs.declared.group_site.GroupSite.TheVariants.{Up as SiteUp, Deported as SiteAway, Down as SiteDown, Marked, Gone as SiteGone}
use Rattle.vx_diskset.specs.Asked.{FailsAs, FusedAs}
use Rattle.vx_diskset.specs.GroupCalls.{OnSites, cut_in}
use Rattle.vx_diskset.specs.GroupSets.{cut_value}
use Rattle.vx_diskset.specs.Holds.{beside_of}
use Rattle.vx_diskset.specs.declared.disk_set.DiskSet.{DiskSet}
use Rattle.vx_events.specs.Fails.{Fails}
use Rattle.vx_events.specs.GroupConfigs.{ConfigLoses, ConfigRests, StateRests, opened_again}
use Rattle.vx_events.specs.GroupEnds.{GroupDone, GroupWants}
use Rattle.vx_events.specs.GroupLines.{noting}
use Rattle.vx_events.specs.GroupNotes.{note_at, Reconfigures}
use Rattle.vx_events.specs.GroupViews.{noted_table}
use Rattle.vx_events.specs.StepsOver.{fact_of_group}
use Rattle.vx_events.specs.declared.said.Said.{Said}
use Rattle.vx_events.specs.declared.said.Said.TheVariants.{Done}
use Rattle.vx_yard.proofs.Carrying.{LetsGo}
use Rattle.vx_yard.proofs.OneSite.{Changed}
use Rattle.vx_yard.proofs.FailsStay.{fails_then}
use Rattle.vx_yard.proofs.OverGroup.{set_notes}
use Rattle.vx_yard.specs.GroupFacts.{deported_facts}
use Rattle.vx_yard.specs.Standing.{LeadsOver, LeadsOverIs, StandsFor}
use Rattle.vx_yard.specs.declared.yard.Yard.{Yard}
use Rattle.vx_group_lines.proofs.Arriving.{arrives_away, arrives_worked}
use Rattle.vx_above.proofs.SiteCalls.{calls}
use Rattle.vx_above.proofs.Changing.{moves_table, moves_to, notes_table, reconfigures}
use Rattle.vx_above.proofs.Fails.{contains_some}
use Rattle.vx_group_lines.proofs.GroupAt.{away_notes}
use Rattle.vx_group_lines.proofs.GroupCalls.{SetThen, calls_all, calls_are, calls_names, fused_since, note_uncut, set_uncut, sets_then, maps_were, plain_were}
use Rattle.vx_group_lines.proofs.GroupDone.{refused_leads}
use Rattle.vx_group_lines.proofs.GroupEnding.{Calling, Midway, since_at}
use Rattle.vx_group_lines.proofs.GroupLeads.{away_set, follows_off, leads_by, sized_of}
use Rattle.vx_group_lines.proofs.GroupMarks.{begins_at}
use Rattle.vx_above.proofs.Losing.{Names, facts_move, most_rests, opened_goes, opens_rests}
use Rattle.vx_grouped.specs.SiteMaps.{DeportMapped, MapsLike, StandMaps}
use Rattle.vx_grouped.proofs.MapNoteLemmas.{away_with_maps}
use Rattle.vx_history.specs.Missing.{with_maps}
use Rattle.vx_events.specs.GroupMaps.{MapsCalled, MapsLost}
use Rattle.vx_group_lines.proofs.MapGoing.{MapsAway, goes_away, on_both, with_goes}
use Rattle.vx_group_lines.proofs.MapLines.{like_named, logs_bound, logs_low}
use Rattle.vx_group_lines.proofs.Plains.{cleans_rvg, rvg_goes}
use Rattle.vx_group_lines.proofs.Serials.{lacks_past, serial_noted}
use Rattle.vx_group_lines.specs.Noting.{IsNotedRefusal, reply_noted}

-- the facts of a site whose group was deported
away_seen : (n : Node) (note k : GroupNode) → noted_table k ≡ noted_table note → deported_facts (fact_of_group n note) ≡ fact_of_group (deported_with k n) k
away_seen n note k same = ap (λ (vs : List VolumeFacts). let f : SiteFacts = record (deported_facts (fact_of_group n note)) { volumes = vs } in f) (sym same)

-- the disk that failed in a deport, if one did
abbrev pub failed_disk : {o e : Meaning} {c d : Config} → CleansPlexes o e c d → ℕ
failed_disk (inl moves) = 0
failed_disk (inr (any, moves)) = any.0

module _ (s many : ℕ) (fails : Fails) (o e : Meaning) (note next : GroupNode) (names : Names s many fails o e) where
  pub cleans_to : (was now : Config) → length was.disks ≤ many → (it : CleansPlexes o e was now) → failed_disk it < many → ConfigRests s fails (opened_again (at_serial 0 was)) (opened_again (at_serial 0 now))
  cleans_to was now enough (inl moves) below = opened_goes OpensSame (StateRests s fails) fails none_again s many o e was now (λ v p t it. opens_rests s fails v p t it) names enough moves
  cleans_to was now enough (inr (any, moves)) below =
      opened_goes (OpensMost o e) (StateRests s fails) fails none_again s many o e was now
      (λ v p t it. most_rests s many fails o e names (contains_some fails (s, any.0) (names.each any.0 below any.1)) v p t it) names enough moves

  pub cleans_table : (was now : Config) → NotesConfig note was → NotesConfig next now → CleansPlexes o e was now → noted_table next ≡ noted_table note
  cleans_table was now noted noted_now (inl moves) = notes_table next now noted_now ∙ facts_move none_again OpensSame o e was now moves ∙ sym (notes_table note was noted)
  cleans_table was now noted noted_now (inr (any, moves)) = notes_table next now noted_now ∙ facts_move none_again (OpensMost o e) o e was now moves ∙ sym (notes_table note was noted)

module _ {R : Type 0} {g : Ghosts R} where
  limit_wants : (note : GroupNode) (e : GroupSite R g) (name : List ℕ) (why : No) → StandMaps note e → LacksDeport e why → GroupWants note (GroupDeport name) why
  limit_wants note (SiteUp group) name why maps lacks =
      subst (λ (w : No). GroupWants note (GroupDeport name) w) (sym lacks.0) (tt, refl, lacks_past note group.core.inner.config.serial (serial_noted note group maps) lacks.1)
  limit_wants note (SiteAway idle) name why maps lacks = absurd lacks
  limit_wants note (SiteDown idle) name why maps lacks = absurd lacks
  limit_wants note (Marked rack) name why maps lacks = absurd lacks
  limit_wants note SiteGone name why maps lacks = absurd lacks

  pub site_away : (n : Node) (note : GroupNode) (e : GroupSite R g) → AwayNoted n note e → IsTrue (site_disks e).down → ⊥
  site_away n note (SiteUp group) it = absurd it
  site_away n note (SiteAway idle) it = it.up
  site_away n note (SiteDown idle) it = absurd it
  site_away n note (Marked rack) it = absurd it
  site_away n note SiteGone it = absurd it

  module _ (d : Doubted) (old new : Yard R g) (name : List ℕ) (s : ℕ) (before after : DiskSet R g) (stands : StandsFor d old) (it : Calling d (GroupDeport name) old new name s before after) where
    abbrev n : Node
    n = d.world.nodes s

    abbrev note : GroupNode
    note = note_at (d.world.nodes s)

    abbrev was_site : GroupSite R g
    was_site = it.call.at.set.site

    pub deport_done : OnSites (λ o e. SiteDeported n note o e (Ok (tt {0}))) before after → OnSites (λ o e. DeportMapped o e (Ok (tt {0}))) before after → new.facts.items ≡ slice_set old.facts.items s (deported_facts (fact_of_group (d.world.nodes s) (note_at (d.world.nodes s)))) → LetsGo old new s
        → LeadsOver d (GroupDeport name) Done old new
    deport_done on maps facts lets =
        let P : GroupSite R g → GroupSite R g → Type 0 = λ o e. SiteDeported n note o e (Ok (tt {0})) in
        let then : SetThen (P was_site) after = sets_then P before after it.call.at.set it.call.at.is_set on in
        let next : GroupNode = then.holds.0 in
        let goes : ConfigGoes (CleansPlexes (site_disks was_site) (site_disks then.set.site)) note next was_site then.set.site = then.holds.3 in
        let away : AwayNoted (deported_with next n) next then.set.site = then.holds.2 in
        let go : MapsAway note next was_site then.set.site goes.was
        = goes_away (deported_with next n) note next was_site goes.was (maps_were d old new name s before after stands it.call) goes.had then.set.site away then.holds.4
        (on_both (λ o e. DeportMapped o e (Ok (tt {0}))) before after it.call.at.set then.set it.call.at.is_set then.is maps) in
        let k : GroupNode = with_maps go.maps next in
        let many : ℕ = (site_disks was_site).units + length goes.was.disks + logs_bound goes.was.volumes + failed_disk goes.change + 1 in
        let fails : Fails = calls s old new many in
        let names : Names s many fails (site_disks was_site) (site_disks then.set.site)
        = calls_names d old new name s before after stands it.call it.call.at.set then.set it.call.at.is_set then.is many (omega arith) in
        let none : HasNoRvg n = (set_notes (beside_of d s) n it.call.at.set it.call.at.stands it.call.at.made).1.none in
        let sized = sized_of (beside_of d s) n it.call.at.set it.call.at.stands in
        let m : Node = deported_with k n in
        let e : Doubted = happened d (DeportAt s) false in
        let last : Doubted = record e { world = worked_on (noting e.world s k) s } in
        let gone : AwayNoted m k then.set.site = away_with_maps go.maps (deported_with next n) next then.set.site away in
        let clear : cut_value then.set.cut ≡ None = ap (λ (x : DiskSet R g). cut_in x) (sym then.is) ∙ it.cut ∙ ap (λ (x : DiskSet R g). cut_in x) it.call.at.is_set ∙ set_uncut d old new name s before after stands it.call it.up in
        leads_by d last (GroupDeport name) s fails Done old new it.is_line.place
        (GroupDone k (calls_are d old new name s before after stands it.call many) (
          with_goes (Reconfigures (λ c x. ConfigRests s fails (opened_again c) (opened_again x)) NoteSettles) (MapsCalled s fails) note next goes.was go.config go.maps goes.noted go.noted
              (reconfigures s many fails (site_disks was_site) (site_disks then.set.site) note next names (λ c x. ConfigRests s fails (opened_again c) (opened_again x)) (λ a b. NoteSettles a b) goes.was goes.now goes.noted goes.noted_now
              (cleans_to s many fails (site_disks was_site) (site_disks then.set.site) note next names goes.was goes.now (omega arith) goes.change (omega arith)) then.holds.1)
              (like_named s many fails (site_disks was_site) (site_disks then.set.site) names goes.was go.config (λ u j. logs_low goes.was many u j (omega arith)) note.maps go.maps go.by),
          refl,
        )
        (record { world = refl; after = λ i. refl; strayed = refl }))
        (follows_off d last s m k (deported_facts (fact_of_group n note)) old new before then.set stands it.call.at.below
        (subst (λ (x : DiskSet R g). Changed old new s before x) then.is it.call.changed)
        (arrives_worked d e s _ k None (arrives_away d d s n (d.world.gathering s) (begins_at d old name s before stands it.call.at) it.call.at.below it.up none.running none.log none.safe))
        (λ up. let w : IsDeported ≡ IsUp = up in absurd (cc))
        (away_notes m k then.set.site gone).0
        (away_set m k then.set (record { few = sized.few; some = sized.some }) gone go.stands
        (rvg_goes note next goes.was goes.now goes.noted goes.noted_now (cleans_rvg (site_disks was_site) (site_disks then.set.site) goes.was goes.now goes.change) ∙ plain_were d old new name s before after stands it.call) clear (then.holds.1.same.cut ∙ note_uncut d old new name s before after stands it.call it.up))
        (subst (λ (x : DiskSet R g). FailsAs m x) then.is (fails_then n m before after refl it.call.failing (stands.failing s before it.call.at.below it.call.changed.there)))
        (fused_since n m it.call.at.set then.set refl (since_at before after it.call.at.set then.set it.call.at.is_set then.is it.since) (site_away m k then.set.site gone)
        (subst (λ (x : DiskSet R g). FusedAs n x) it.call.at.is_set (stands.fuses s before it.call.at.below it.call.changed.there)))
        (away_seen n note k (cleans_table s many fails (site_disks was_site) (site_disks then.set.site) note next names goes.was goes.now goes.noted goes.noted_now goes.change)) facts lets)
        (calls_all d old new name s before after stands it.call many)

    pub deport_refused : (mid : Yard R g) (result : Result Said OutOfMemory) → Midway old mid → (why : No) → OnSites (λ o e. SiteDeported n note o e (Err (StopsBy why))) before after
        → OnSites (λ o e. DeportMapped o e (Err (StopsBy why))) before after → IsNotedRefusal s (fact_of_group (d.world.nodes s) (note_at (d.world.nodes s))) why mid new result → LeadsOverIs d (GroupDeport name) old new result
    deport_refused mid result half why on maps refusal =
        refused_leads d (GroupDeport name) old new name s before after stands it mid half result (Unit {0}) false (λ o e c x. ⊥) (λ o e. LosesSome o e) (λ o e. LosesSome o e) MapsLike (λ o which. LacksDeport o which)
        (record {
          ends = λ many fails o e next was now names noted noted_now enough logs change keeps w by.
              with_goes (Reconfigures (λ c x. ConfigLoses s fails c x) (NoteUnsettles false)) (MapsCalled s fails) note next was now w noted noted_now
              (reconfigures s many fails o e note next names (λ c x. ConfigLoses s fails c x) (λ a b. NoteUnsettles false a b) was now noted noted_now (moves_to s many fails o e note next names none_again was now enough change) keeps)
              (like_named s many fails o e names was now (λ u k. logs_low was many u k logs) note.maps w by);
        })
        (record {
          ends = λ many fails o e next was now names noted noted_now enough logs change keeps w by.
              with_goes (Reconfigures (λ c x. ConfigLoses s fails c x) (NoteUnsettles false)) MapsLost note next was now w noted noted_now
              (reconfigures s many fails o e note next names (λ c x. ConfigLoses s fails c x) (λ a b. NoteUnsettles false a b) was now noted noted_now (moves_to s many fails o e note next names none_again was now enough change) keeps)
              (record { none = by.none });
        })
        (record { same = λ many o e t fails next was now names noted noted_now change. moves_table t many fails o e note next names none_again was now noted noted_now change; rvg = λ o e next was now noted noted_now change. rvg_goes note next was now noted noted_now change.parts.rvg })
        (record { same = λ many o e t fails next was now names noted noted_now change. moves_table t many fails o e note next names none_again was now noted noted_now change; rvg = λ o e next was now noted noted_now change. rvg_goes note next was now noted noted_now change.parts.rvg })
        (λ which is. limit_wants note was_site name which (maps_were d old new name s before after stands it.call) is) why on maps refusal

    deport_memory : OnSites (λ o e. SiteDeported n note o e (Err MemoryStop)) before after → ⊥
    deport_memory on = (sets_then (λ o e. SiteDeported n note o e (Err MemoryStop)) before after it.call.at.set it.call.at.is_set on).holds

    pub deport_stopped : (mid : Yard R g) (result : Result Said OutOfMemory) → Midway old mid → (stop : Stop) → OnSites (λ o e. SiteDeported n note o e (Err stop)) before after
        → OnSites (λ o e. DeportMapped o e (Err stop)) before after → reply_noted s (fact_of_group (d.world.nodes s) (note_at (d.world.nodes s))) stop mid new result → LeadsOverIs d (GroupDeport name) old new result
    deport_stopped mid result half (StopsBy why) on maps refusal = deport_refused mid result half why on maps refusal
    deport_stopped mid result half MemoryStop on maps refusal = absurd (deport_memory on)
