-- The line that attaches a plex of a group below a replicated volume group.
use Rattle.std.proofs.Common.{◌≡◌, ◌∙◌, ◌⊎◌, ℕ, true, false, List, refl, subst}
use Rattle.std.specs.Prelude.{Some, IsTrue, min, Result, Ok, Err}
use Rattle.vx_model.specs.declared.site.PlexState.TheVariants.{Active}
use Rattle.vx_script.specs.declared.line.ScriptLine.TheVariants.{PlexAttach}
use Rattle.vx_volume.specs.Plexes.{uses}
use Rattle.vx_grouped.specs.ConfigMoves.{AttCuts, AttDone, AttFails}
use Rattle.vx_grouped.specs.SiteEnds.{RegionsOf, is_plex_on, refuses_att}
use Rattle.vx_grouped.specs.SiteMaps.{AttMapped, AttMaps, MapsLike}
use Rattle.vx_diskset.specs.OverPlains.{AttBelow, AttsBelow, OnOver}
use Rattle.vx_events.specs.GroupConfigs.{ConfigKeepsBut, lies_on_disk}
use Rattle.vx_events.specs.GroupMaps.{MapsAttached, MapsCalled, MapsLost}
use Rattle.vx_events.specs.declared.said.Said.TheVariants.{DoneAt}
use Rattle.vx_above.proofs.Changing.{PutsOr, att_done, att_kept, att_table, att_to, keeps_table, reconfigures, stated_table}
use Rattle.vx_group_lines.proofs.GroupAttach.{att_copies, zero_by}
use Rattle.vx_group_lines.proofs.GroupPlex.{att_wants}
use Rattle.vx_group_lines.proofs.MapLines.{att_named, like_named, logs_low}
use Rattle.vx_group_lines.proofs.Plains.{att_rvg, rvg_goes}
use Rattle.vx_group_lines.proofs.Serials.{att_left}
use Rattle.vx_model.specs.declared.errors.OutOfMemory.{OutOfMemory}
use Rattle.vx_model.specs.declared.errors.Stop.{Stop}
use Rattle.vx_model.specs.declared.errors.Stop.TheVariants.{No as StopsBy, OutOfMemory as MemoryStop}
use Rattle.vx_model.specs.declared.no.No.{No}
use Rattle.vx_disk.specs.declared.shelf.Shelf.{Ghosts}
use Rattle.vx_history.specs.Doubts.{Doubted}
use Rattle.vx_history.specs.Groups.{GroupNode, NoteSettles, NoteUnsettles}
use Rattle.vx_history.specs.World.{Node}
use Rattle.vx_grouped.specs.GroupSites.{UpNoted}
use Rattle.vx_grouped.specs.declared.group_site.GroupSite.{GroupSite}
use Rattle.vx_diskset.specs.Aboves.{site_in}
use Rattle.vx_diskset.specs.Asked.{SameFailing}
use Rattle.vx_diskset.specs.GroupCalls.{CalledOn}
use Rattle.vx_diskset.specs.Noted.{below_rvg}
use Rattle.vx_diskset.specs.declared.disk_set.DiskSet.{DiskSet}
use Rattle.vx_diskset.specs.declared.over_set.OverSet.{OverSet}
use Rattle.vx_events.specs.GroupLines.{plain_number}
use Rattle.vx_events.specs.GroupNotes.{Reconfigures, note_at}
use Rattle.vx_events.specs.LinkedFacts.{linked_fact}
use Rattle.vx_events.specs.RvgOver.{missed_world}
use Rattle.vx_events.specs.declared.said.Said.{Said}
use Rattle.vx_yard.proofs.Carrying.{SameLoad}
use Rattle.vx_yard.proofs.OneSite.{Changed}
use Rattle.vx_yard.specs.AboveLines.{LeadsAboveIs}
use Rattle.vx_yard.specs.Standing.{StandsFor}
use Rattle.vx_yard.specs.declared.yard.Yard.{Yard}
use Rattle.vx_group_lines.proofs.BelowDone.{BelowLine, LeadsBelow, below_done, below_refused}
use Rattle.vx_group_lines.proofs.BelowPlex.{BelowPlex}
use Rattle.vx_group_lines.proofs.BelowStart.{BelowStart, above_is}
use Rattle.vx_group_lines.proofs.BelowUp.{OverBehind, overs_behind}
use Rattle.vx_group_lines.proofs.GroupEnding.{Midway, SameTable}
use Rattle.vx_group_lines.proofs.GroupNamed.{plex_fits}
use Rattle.vx_group_lines.proofs.MapGoing.{with_goes}
use Rattle.vx_group_lines.specs.Noting.{IsNotedRefusal, reply_noted}

module _ {R : Type 0} {g : Ghosts R} where
  module _ (d : Doubted) (old new : Yard R g) (name volume : List ℕ) (plex place s : ℕ) (before after : DiskSet R g) (p : OverSet R g) (stands : StandsFor d old)
      (it : BelowLine d (PlexAttach name volume plex) old new name s before after p) (named : BelowPlex (note_at (d.world.nodes s)) volume plex place)
      (is_up : UpNoted (below_rvg (d.world.nodes s)) (note_at (d.world.nodes s)) (site_in it.call.at.set)) where
    abbrev n : Node
    n = d.world.nodes s

    abbrev note : GroupNode
    note = note_at (d.world.nodes s)

    abbrev was : GroupSite R g
    was = site_in it.call.at.set

    abbrev v : ℕ
    v = plain_number (note_at (d.world.nodes s)) volume

    att_fails_same : SameTable note (λ o e. AttFails v plex o e)
    att_fails_same = record { same = λ many o e t fails next was now names noted noted_now change. keeps_table t many fails o e note next names (uses was v plex) was now noted noted_now change; rvg = λ o e next was now noted noted_now change. rvg_goes note next was now noted noted_now change.parts.rvg }

    att_cuts_same : SameTable note (λ o e. AttCuts v plex o e)
    att_cuts_same = record { same = λ many o e t fails next was now names noted noted_now change. att_table t many fails o e note next names v plex was now noted noted_now change; rvg = λ o e next was now noted noted_now change. rvg_goes note next was now noted noted_now (att_rvg v plex o e was now change) }

    attach_done : (count : ℕ) → AttBelow (below_rvg (d.world.nodes s)) note v plex was (site_in p) (Ok count) → AttMapped v plex was (site_in p) (Ok count) → (IsTrue (is_plex_on was v plex) → count ≡ 0) → (is_plex_on was v plex ≡ false → RegionsOf was v count)
        → ((no : No) → refuses_att was v plex ≡ Some no → ⊥) → new.facts.items ≡ old.facts.items → SameLoad old new → LeadsBelow d (PlexAttach name volume plex) s (DoneAt count) old new
    attach_done count called maps none all never facts load =
        below_done d (PlexAttach name volume plex) old new name s before after p stands it {T = ℕ} true (λ o e. AttDone v plex o e) (λ o e. AttFails v plex o e) (λ o e. AttCuts v plex o e) (AttMaps v plex) (λ which. refuses_att was v plex ≡ Some which) (DoneAt count) count (λ k h. h)
        (record {
          ends = λ many fails o e next was now names noted noted_now enough logs change keeps w by. (
            with_goes (Reconfigures (λ c x. PutsOr s fails (λ k. lies_on_disk c v plex k) v plex Active c x) NoteSettles) (MapsAttached s fails v plex) note next was now w noted noted_now
                (reconfigures s many fails o e note next names (λ c x. PutsOr s fails (λ k. lies_on_disk c v plex k) v plex Active c x) (λ a b. NoteSettles a b) was now noted noted_now
                (att_done s many fails o e note next names v plex was now enough change) keeps)
                (att_named s many fails o e names was now (λ u k. logs_low was many u k logs) note.maps w v plex by),
            att_copies (below_rvg n) note (site_in it.call.at.set) v plex count is_up it.maps maps.1 none all,
            att_left (below_rvg n) note (site_in it.call.at.set) v plex is_up it.maps never,
          );
        })
        (record { same = λ many o e t fails next was now names noted noted_now change. stated_table t many fails o e note next names (λ k. uses was v plex k) v plex Active was now noted noted_now change; rvg = λ o e next was now noted noted_now change. rvg_goes note next was now noted noted_now change.moves.parts.rvg })
        called maps.0 facts load

    attach_refused : (mid : Yard R g) (result : Result Said OutOfMemory) → Midway old mid → (why : No) → AttBelow (below_rvg (d.world.nodes s)) note v plex was (site_in p) (Err (StopsBy why))
        → AttMapped v plex was (site_in p) (Err (StopsBy why)) → IsNotedRefusal s (linked_fact d.world s) why mid new result → (said : Said) × (result ≡ Ok said) × LeadsBelow d (PlexAttach name volume plex) s said old new
    attach_refused mid result half why called maps refusal =
        below_refused d (PlexAttach name volume plex) old new name s before after p stands it mid half result ℕ true (λ o e. AttDone v plex o e) (λ o e. AttFails v plex o e) (λ o e. AttCuts v plex o e) MapsLike (λ which. refuses_att was v plex ≡ Some which)
        (record {
          ends = λ many fails o e next was now names noted noted_now enough logs change keeps w by.
              with_goes (Reconfigures (λ c x. ConfigKeepsBut (λ k. lies_on_disk c v plex k) s fails c x) (NoteUnsettles true)) (MapsCalled s fails) note next was now w noted noted_now
              (reconfigures s many fails o e note next names (λ c x. ConfigKeepsBut (λ k. lies_on_disk c v plex k) s fails c x) (λ a b. NoteUnsettles true a b) was now noted noted_now
              (att_kept s many fails o e note next names v plex was now enough change) keeps)
              (like_named s many fails o e names was now (λ u k. logs_low was many u k logs) note.maps w by);
        })
        (record {
          ends = λ many fails o e next was now names noted noted_now enough logs change keeps w by.
              with_goes (Reconfigures (λ c x. ConfigKeepsBut (λ k. lies_on_disk c v plex k) s fails c x ⊎ PutsOr s fails (λ k. lies_on_disk c v plex k) v plex Active c x) (NoteUnsettles true)) MapsLost note next was now w noted noted_now
              (reconfigures s many fails o e note next names
              (λ c x. ConfigKeepsBut (λ k. lies_on_disk c v plex k) s fails c x ⊎ PutsOr s fails (λ k. lies_on_disk c v plex k) v plex Active c x) (λ a b. NoteUnsettles true a b) was now noted noted_now
              (att_to s many fails o e note next names v plex was now enough change) keeps)
              (record { none = by.none });
        })
        att_fails_same att_cuts_same (λ which is. att_wants (below_rvg n) note (site_in it.call.at.set) name volume plex named.at.found which is_up it.maps named.at.there named.at.below is) why called maps.0 refusal

    attach_halts : (mid : Yard R g) (result : Result Said OutOfMemory) → Midway old mid → (stop : Stop) → AttBelow (below_rvg (d.world.nodes s)) note v plex was (site_in p) (Err stop)
        → AttMapped v plex was (site_in p) (Err stop) → reply_noted s (linked_fact d.world s) stop mid new result → (said : Said) × (result ≡ Ok said) × LeadsBelow d (PlexAttach name volume plex) s said old new
    attach_halts mid result half (StopsBy why) called maps refusal = attach_refused mid result half why called maps refusal
    attach_halts mid result half MemoryStop called maps refusal = absurd called

  -- ---- from the yard

  -- the call, by the number of the volume and that of the plex
  att_so : (vol plex v q : ℕ) (r : Result ℕ Stop) (o e : OverSet R g) → vol ≡ v → plex ≡ q → AttsBelow vol plex r o e → AttsBelow v q r o e
  att_so vol plex v q r o e same fits it = subst (λ (k : ℕ). AttsBelow k q r o e) same (subst (λ (k : ℕ). AttsBelow vol k r o e) fits it)

  module _ (d : Doubted) (old new : Yard R g) (name volume : List ℕ) (plex asked place s : ℕ) (before after : DiskSet R g) (start : BelowStart d old name s before)
      (named : BelowPlex (note_at ((missed_world start.missed d s).world.nodes s)) volume plex place) (fits : asked ≡ min plex 0xffff_ffff)
      (changed : Changed old new s before after) (failing : SameFailing before after) (since : CalledOn before after) where
    abbrev e : Doubted
    e = missed_world start.missed d s

    abbrev m : Node
    m = below_rvg ((missed_world start.missed d s).world.nodes s)

    abbrev note_there : GroupNode
    note_there = note_at ((missed_world start.missed d s).world.nodes s)

    abbrev number_there : ℕ
    number_there = plain_number (note_at ((missed_world start.missed d s).world.nodes s)) volume

    whole : asked ≡ plex
    whole = fits ∙ plex_fits m note_there (site_in start.at.set) volume plex start.asks named.at

    line_of : (r : Result ℕ Stop) (then : OverBehind (AttsBelow place asked r start.at.set) after) → BelowLine e (PlexAttach name volume plex) old new name s before after then.set
    line_of r then = record {
      call = record {
        at = start.at;
        up = start.up;
        changed = changed;
        failing = failing;
        since = since;
        is = then.is;
        cut = then.holds.cut;
        kept = then.holds.kept;
      };
      is_line = record {
        done = λ k. record { world = refl; after = λ i. refl; strayed = refl };
        broke = λ k. record { world = refl; after = λ i. refl; strayed = refl };
        lacks = λ k. record { world = refl; after = λ i. refl; strayed = refl };
        off = λ count k. record { world = refl; after = λ i. refl; strayed = refl };
      };
      maps = start.maps;
    }

    then_of : (r : Result ℕ Stop) → OnOver (AttsBelow place asked r) before after → OverBehind (AttsBelow place asked r start.at.set) after
    then_of r on = overs_behind (AttsBelow place asked r) before after start.at.set start.at.is_set on

    never_by : (count : ℕ) (why : No) → (let r : Result ℕ Stop = Ok count in r) ≡ Err (StopsBy why) → ⊥
    never_by count why clash = absurd (cc)

    pub attached : (count : ℕ) → OnOver (AttsBelow place asked (Ok count)) before after → new.facts.items ≡ old.facts.items → SameLoad old new → LeadsAboveIs d (PlexAttach name volume plex) old new (Ok (DoneAt count))
    unfolding line_of
    attached count on facts load =
        let r : Result ℕ Stop = Ok count in
        let then : OverBehind (AttsBelow place asked r start.at.set) after = then_of r on in
        let so : AttsBelow number_there plex r start.at.set then.set = att_so place asked number_there plex r start.at.set then.set named.number whole then.holds in
        let refused : (no : No) → refuses_att (site_in start.at.set) number_there plex ≡ Some no → r ≡ Err (StopsBy no) = λ no is. so.refused m note_there no start.asks is in
        above_is d old new name s before (PlexAttach name volume plex) (Ok (DoneAt count)) start start.number (λ said fails next ends. ends) (
          DoneAt count,
          refl,
          attach_done e old new name volume plex place s before after then.set start.stands (line_of r then) named start.asks count
              (so.called m note_there start.asks) (so.maps m note_there start.asks)
              (zero_by (site_in start.at.set) number_there plex count (refuses_att (site_in start.at.set) number_there plex) refl refused (λ free on. so.already m note_there start.asks free on))
              (λ off. so.count off) (λ no is. never_by count no (refused no is)) facts load,
        )

    pub unattached : (mid : Yard R g) (result : Result Said OutOfMemory) → Midway old mid → (stop : Stop) → OnOver (AttsBelow place asked (Err stop)) before after → reply_noted s (linked_fact (missed_world start.missed d s).world s) stop mid new result
        → LeadsAboveIs d (PlexAttach name volume plex) old new result
    unfolding line_of
    unattached mid result half stop on refusal =
        let r : Result ℕ Stop = Err stop in
        let then : OverBehind (AttsBelow place asked r start.at.set) after = then_of r on in
        let so : AttsBelow number_there plex r start.at.set then.set = att_so place asked number_there plex r start.at.set then.set named.number whole then.holds in
        above_is d old new name s before (PlexAttach name volume plex) result start start.number (λ said fails next ends. ends)
        (attach_halts e old new name volume plex place s before after then.set start.stands (line_of r then) named start.asks mid result half stop
        (so.called m note_there start.asks) (so.maps m note_there start.asks) refusal)
