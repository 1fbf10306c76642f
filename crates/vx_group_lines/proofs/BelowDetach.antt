-- The line that detaches a plex of a group below a replicated volume group.
use Rattle.std.proofs.Common.{◌≡◌, ◌∙◌, ◌⊎◌, ℕ, false, List, refl, subst}
use Rattle.std.specs.Prelude.{Some, min, Result, Ok, Err}
use Rattle.vx_model.specs.declared.site.PlexState.TheVariants.{Stale}
use Rattle.vx_script.specs.declared.line.ScriptLine.TheVariants.{PlexDetach}
use Rattle.vx_grouped.specs.ConfigMoves.{DetCuts, DetDone, DetFails, none_again}
use Rattle.vx_grouped.specs.SiteEnds.{refuses_det}
use Rattle.vx_grouped.specs.SiteMaps.{DetMapped, DetMapsDone, DetMapsFailed, UpMaps}
use Rattle.vx_diskset.specs.OverPlains.{DetBelow, DetsBelow, OnOver}
use Rattle.vx_events.specs.GroupConfigs.{ConfigKeeps}
use Rattle.vx_events.specs.GroupMaps.{MapsDetached, MapsLost, MapsUndetached}
use Rattle.vx_events.specs.declared.said.Said.TheVariants.{Done}
use Rattle.vx_above.proofs.Changing.{PutsOr, det_table, det_to, keeps_table, keeps_to, reconfigures, stated_table, stated_to}
use Rattle.vx_group_lines.proofs.GroupPlex.{det_wants, not_last}
use Rattle.vx_group_lines.proofs.MapLines.{det_named, logs_low, undet_named}
use Rattle.vx_group_lines.proofs.Plains.{det_rvg, rvg_goes}
use Rattle.vx_group_lines.proofs.Serials.{det_left}
use Rattle.vx_model.specs.declared.errors.OutOfMemory.{OutOfMemory}
use Rattle.vx_model.specs.declared.errors.Stop.{Stop}
use Rattle.vx_model.specs.declared.errors.Stop.TheVariants.{No as StopsBy, OutOfMemory as MemoryStop}
use Rattle.vx_model.specs.declared.no.No.{No}
use Rattle.vx_disk.specs.declared.shelf.Shelf.{Ghosts}
use Rattle.vx_history.specs.Doubts.{Doubted}
use Rattle.vx_history.specs.Groups.{GroupNode, NoteSettles, NoteUnsettles}
use Rattle.vx_history.specs.World.{Node}
use Rattle.vx_grouped.specs.GroupSites.{UpNoted}
use Rattle.vx_grouped.specs.declared.group_site.GroupSite.{GroupSite}
use Rattle.vx_diskset.specs.Aboves.{site_in}
use Rattle.vx_diskset.specs.Asked.{SameFailing}
use Rattle.vx_diskset.specs.GroupCalls.{CalledOn}
use Rattle.vx_diskset.specs.Noted.{below_rvg}
use Rattle.vx_diskset.specs.declared.disk_set.DiskSet.{DiskSet}
use Rattle.vx_diskset.specs.declared.over_set.OverSet.{OverSet}
use Rattle.vx_events.specs.GroupLines.{plain_number}
use Rattle.vx_events.specs.GroupNotes.{Reconfigures, note_at}
use Rattle.vx_events.specs.LinkedFacts.{linked_fact}
use Rattle.vx_events.specs.RvgOver.{missed_world}
use Rattle.vx_events.specs.declared.said.Said.{Said}
use Rattle.vx_yard.proofs.Carrying.{SameLoad}
use Rattle.vx_yard.proofs.OneSite.{Changed}
use Rattle.vx_yard.specs.AboveLines.{LeadsAboveIs}
use Rattle.vx_yard.specs.Standing.{StandsFor}
use Rattle.vx_yard.specs.declared.yard.Yard.{Yard}
use Rattle.vx_group_lines.proofs.BelowDone.{BelowLine, LeadsBelow, below_done, below_refused}
use Rattle.vx_group_lines.proofs.BelowPlex.{BelowPlex}
use Rattle.vx_group_lines.proofs.BelowStart.{BelowStart, above_is}
use Rattle.vx_group_lines.proofs.BelowUp.{OverBehind, overs_behind}
use Rattle.vx_group_lines.proofs.GroupEnding.{Midway, SameTable}
use Rattle.vx_group_lines.proofs.GroupNamed.{plex_fits}
use Rattle.vx_group_lines.proofs.MapGoing.{with_goes}
use Rattle.vx_group_lines.specs.Noting.{IsNotedRefusal, reply_noted}

module _ {R : Type 0} {g : Ghosts R} where
  module _ (d : Doubted) (old new : Yard R g) (name volume : List ℕ) (plex place s : ℕ) (before after : DiskSet R g) (p : OverSet R g) (stands : StandsFor d old)
      (it : BelowLine d (PlexDetach name volume plex) old new name s before after p) (named : BelowPlex (note_at (d.world.nodes s)) volume plex place)
      (is_up : UpNoted (below_rvg (d.world.nodes s)) (note_at (d.world.nodes s)) (site_in it.call.at.set)) where
    abbrev n : Node
    n = d.world.nodes s

    abbrev note : GroupNode
    note = note_at (d.world.nodes s)

    abbrev was : GroupSite R g
    was = site_in it.call.at.set

    abbrev v : ℕ
    v = plain_number (note_at (d.world.nodes s)) volume

    det_fails_same : SameTable note (λ o e. DetFails o e)
    det_fails_same = record { same = λ many o e t fails next was now names noted noted_now change. keeps_table t many fails o e note next names none_again was now noted noted_now change; rvg = λ o e next was now noted noted_now change. rvg_goes note next was now noted noted_now change.parts.rvg }

    det_cuts_same : SameTable note (λ o e. DetCuts v plex o e)
    det_cuts_same = record { same = λ many o e t fails next was now names noted noted_now change. det_table t many fails o e note next names v plex was now noted noted_now change; rvg = λ o e next was now noted noted_now change. rvg_goes note next was now noted noted_now (det_rvg v plex o e was now change) }

    det_done : DetBelow (below_rvg (d.world.nodes s)) note v plex was (site_in p) (Ok (tt {0})) → UpMaps (DetMapsDone v plex) was (site_in p)
        → ((no : No) → refuses_det was v plex ≡ Some no → (let r : Result (Unit {0}) Stop = Ok (tt {0}) in r) ≡ Err (StopsBy no)) → new.facts.items ≡ old.facts.items → SameLoad old new → LeadsBelow d (PlexDetach name volume plex) s Done old new
    det_done called maps refused facts load =
        below_done d (PlexDetach name volume plex) old new name s before after p stands it {T = Unit {0}} false (λ o e. DetDone v plex o e) (λ o e. DetFails o e) (λ o e. DetCuts v plex o e) (DetMapsDone v plex) (λ which. refuses_det was v plex ≡ Some which) Done (tt {0}) (λ k h. h)
        (record {
          ends = λ many fails o e next was now names noted noted_now enough logs change keeps w by. (
            with_goes (Reconfigures (λ c x. PutsOr s fails none_again v plex Stale c x) NoteSettles) (MapsDetached s fails v plex) note next was now w noted noted_now
                (reconfigures s many fails o e note next names (λ c x. PutsOr s fails none_again v plex Stale c x) (λ a b. NoteSettles a b) was now noted noted_now
                (stated_to s many fails o e note next names none_again v plex Stale was now enough change) keeps)
                (det_named s many fails o e names was now (λ u k. logs_low was many u k logs) note.maps w v plex by),
            refl,
            not_last (below_rvg n) note (site_in it.call.at.set) v plex named.at.found is_up named.at.there named.at.below refused,
            det_left (below_rvg n) note (site_in it.call.at.set) v plex is_up it.maps (λ no is. (let clash = refused no is in absurd (cc))),
          );
        })
        (record { same = λ many o e t fails next was now names noted noted_now change. stated_table t many fails o e note next names none_again v plex Stale was now noted noted_now change; rvg = λ o e next was now noted noted_now change. rvg_goes note next was now noted noted_now change.moves.parts.rvg })
        called maps facts load

    det_refused : (mid : Yard R g) (result : Result Said OutOfMemory) → Midway old mid → (why : No) → DetBelow (below_rvg (d.world.nodes s)) note v plex was (site_in p) (Err (StopsBy why))
        → DetMapped v plex was (site_in p) (Err (StopsBy why)) → IsNotedRefusal s (linked_fact d.world s) why mid new result → (said : Said) × (result ≡ Ok said) × LeadsBelow d (PlexDetach name volume plex) s said old new
    det_refused mid result half why called maps refusal =
        below_refused d (PlexDetach name volume plex) old new name s before after p stands it mid half result (Unit {0}) false (λ o e. DetDone v plex o e) (λ o e. DetFails o e) (λ o e. DetCuts v plex o e) (DetMapsFailed v plex) (λ which. refuses_det was v plex ≡ Some which)
        (record {
          ends = λ many fails o e next was now names noted noted_now enough logs change keeps w by.
              with_goes (Reconfigures (λ c x. ConfigKeeps s fails c x) (NoteUnsettles false)) (MapsUndetached s fails v plex) note next was now w noted noted_now
              (reconfigures s many fails o e note next names (λ c x. ConfigKeeps s fails c x) (λ a b. NoteUnsettles false a b) was now noted noted_now
              (keeps_to s many fails o e note next names none_again was now enough change) keeps)
              (undet_named s many fails o e names was now (λ u k. logs_low was many u k logs) note.maps w v plex by);
        })
        (record {
          ends = λ many fails o e next was now names noted noted_now enough logs change keeps w by.
              with_goes (Reconfigures (λ c x. ConfigKeeps s fails c x ⊎ PutsOr s fails none_again v plex Stale c x) (NoteUnsettles false)) MapsLost note next was now w noted noted_now
              (reconfigures s many fails o e note next names (λ c x. ConfigKeeps s fails c x ⊎ PutsOr s fails none_again v plex Stale c x) (λ a b. NoteUnsettles false a b) was now noted noted_now
              (det_to s many fails o e note next names v plex was now enough change) keeps)
              (record { none = by.none });
        })
        det_fails_same det_cuts_same (λ which is. det_wants (below_rvg n) note (site_in it.call.at.set) name volume plex named.at.found which is_up it.maps named.at.there named.at.below is) why called maps.0 refusal

    det_halts : (mid : Yard R g) (result : Result Said OutOfMemory) → Midway old mid → (stop : Stop) → DetBelow (below_rvg (d.world.nodes s)) note v plex was (site_in p) (Err stop)
        → DetMapped v plex was (site_in p) (Err stop) → reply_noted s (linked_fact d.world s) stop mid new result → (said : Said) × (result ≡ Ok said) × LeadsBelow d (PlexDetach name volume plex) s said old new
    det_halts mid result half (StopsBy why) called maps refusal = det_refused mid result half why called maps refusal
    det_halts mid result half MemoryStop called maps refusal = absurd called

  -- ---- from the yard

  -- the call, by the number of the volume and that of the plex
  det_so : (vol plex v q : ℕ) (r : Result (Unit {0}) Stop) (o e : OverSet R g) → vol ≡ v → plex ≡ q → DetsBelow vol plex r o e → DetsBelow v q r o e
  det_so vol plex v q r o e same fits it = subst (λ (k : ℕ). DetsBelow k q r o e) same (subst (λ (k : ℕ). DetsBelow vol k r o e) fits it)

  module _ (d : Doubted) (old new : Yard R g) (name volume : List ℕ) (plex asked place s : ℕ) (before after : DiskSet R g) (start : BelowStart d old name s before)
      (named : BelowPlex (note_at ((missed_world start.missed d s).world.nodes s)) volume plex place) (fits : asked ≡ min plex 0xffff_ffff)
      (changed : Changed old new s before after) (failing : SameFailing before after) (since : CalledOn before after) where
    abbrev e : Doubted
    e = missed_world start.missed d s

    abbrev note_there : GroupNode
    note_there = note_at ((missed_world start.missed d s).world.nodes s)

    abbrev number_there : ℕ
    number_there = plain_number (note_at ((missed_world start.missed d s).world.nodes s)) volume

    whole : asked ≡ plex
    whole = fits ∙ plex_fits (below_rvg (e.world.nodes s)) note_there (site_in start.at.set) volume plex start.asks named.at

    line_of : (r : Result (Unit {0}) Stop) (then : OverBehind (DetsBelow place asked r start.at.set) after) → BelowLine e (PlexDetach name volume plex) old new name s before after then.set
    line_of r then = record {
      call = record {
        at = start.at;
        up = start.up;
        changed = changed;
        failing = failing;
        since = since;
        is = then.is;
        cut = then.holds.cut;
        kept = then.holds.kept;
      };
      is_line = record {
        done = λ k. record { world = refl; after = λ i. refl; strayed = refl };
        broke = λ k. record { world = refl; after = λ i. refl; strayed = refl };
        lacks = λ k. record { world = refl; after = λ i. refl; strayed = refl };
        off = λ count k. record { world = refl; after = λ i. refl; strayed = refl };
      };
      maps = start.maps;
    }

    then_of : (r : Result (Unit {0}) Stop) → OnOver (DetsBelow place asked r) before after → OverBehind (DetsBelow place asked r start.at.set) after
    then_of r on = overs_behind (DetsBelow place asked r) before after start.at.set start.at.is_set on

    pub detached : OnOver (DetsBelow place asked (Ok (tt {0}))) before after → new.facts.items ≡ old.facts.items → SameLoad old new → LeadsAboveIs d (PlexDetach name volume plex) old new (Ok Done)
    unfolding line_of
    detached on facts load =
        let r : Result (Unit {0}) Stop = Ok (tt {0}) in
        let then : OverBehind (DetsBelow place asked r start.at.set) after = then_of r on in
        let so : DetsBelow number_there plex r start.at.set then.set = det_so place asked number_there plex r start.at.set then.set named.number whole then.holds in
        above_is d old new name s before (PlexDetach name volume plex) (Ok Done) start start.number (λ said fails next ends. ends) (
          Done,
          refl,
          det_done e old new name volume plex place s before after then.set start.stands (line_of r then) named start.asks
              (so.called (below_rvg (e.world.nodes s)) note_there start.asks) (so.maps (below_rvg (e.world.nodes s)) note_there start.asks) (λ no is. so.refused (below_rvg (e.world.nodes s)) note_there no start.asks is) facts load,
        )

    pub undetached : (mid : Yard R g) (result : Result Said OutOfMemory) → Midway old mid → (stop : Stop) → OnOver (DetsBelow place asked (Err stop)) before after → reply_noted s (linked_fact (missed_world start.missed d s).world s) stop mid new result
        → LeadsAboveIs d (PlexDetach name volume plex) old new result
    unfolding line_of
    undetached mid result half stop on refusal =
        let r : Result (Unit {0}) Stop = Err stop in
        let then : OverBehind (DetsBelow place asked r start.at.set) after = then_of r on in
        let so : DetsBelow number_there plex r start.at.set then.set = det_so place asked number_there plex r start.at.set then.set named.number whole then.holds in
        above_is d old new name s before (PlexDetach name volume plex) result start start.number (λ said fails next ends. ends)
        (det_halts e old new name volume plex place s before after then.set start.stands (line_of r then) named start.asks mid result half stop
        (so.called (below_rvg (e.world.nodes s)) note_there start.asks) (so.maps (below_rvg (e.world.nodes s)) note_there start.asks) refusal)
