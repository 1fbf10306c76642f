-- The line that attaches a plex.
use Rattle.std.proofs.Common.{◌≡◌, ◌∙◌, ◌⊎◌, ◌<◌, ◌≤◌, ℕ, Bool, true, false, List, ap, sym, subst, refl, arith}
use Rattle.std.specs.Prelude.{Option, Some, None, is_some, slice_get, Result, Ok, Err, IsTrue}
use Rattle.vx_model.specs.declared.errors.OutOfMemory.{OutOfMemory}
use Rattle.vx_model.specs.declared.errors.Stop.{Stop}
use Rattle.vx_model.specs.declared.errors.Stop.TheVariants.{No as StopsBy, OutOfMemory as MemoryStop}
use Rattle.vx_model.specs.declared.no.No.{No}
use Rattle.vx_model.specs.declared.site.PlexState.TheVariants.{Active}
use Rattle.vx_disk.specs.declared.shelf.Shelf.{Ghosts}
use Rattle.std.specs.Int.{div_ceil}
use Rattle.vx_config.specs.Checks.{blocks_of}
use Rattle.vx_model.specs.declared.limits.TheConstants.{REGION}
use Rattle.vx_config.specs.declared.config.Config.{Config}
use Rattle.vx_config.specs.declared.entry.VolumeEntry.{VolumeEntry}
use Rattle.vx_config.specs.declared.entry.VolumeLog.TheVariants.{Fmr}
use Rattle.vx_history.specs.Doubts.{Doubted}
use Rattle.vx_history.specs.Groups.{GroupNode, NoteSettles, NoteUnsettles, MissedNote}
use Rattle.vx_history.specs.World.{Node}
use Rattle.vx_volume.specs.Plexes.{active}
use Rattle.vx_order.specs.declared.facts.VolumeFacts.{VolumeFacts}
use Rattle.vx_script.specs.declared.line.ScriptLine.TheVariants.{PlexAttach}
use Rattle.vx_maplog.specs.Logs.{log_of, log_or}
use Rattle.vx_grouped.specs.ConfigMoves.{AttCuts, AttDone, AttFails}
use Rattle.vx_grouped.specs.Copied.{CopiesRegions}
use Rattle.vx_grouped.specs.GroupNotes.{NotesConfig}
use Rattle.vx_grouped.specs.GroupSites.{UpNoted, site_config}
use Rattle.vx_grouped.specs.SiteEnds.{AttCalled, RegionsOf, is_plex_on, refuses_att}
use Rattle.vx_grouped.specs.declared.group_site.GroupSite.{GroupSite}
use Rattle.vx_grouped.specs.declared.group_site.GroupSite.TheVariants.{Up as SiteUp, Deported as SiteAway, Down as SiteDown, Marked, Gone as SiteGone}
use Rattle.vx_diskset.specs.GroupCalls.{AtPlain, AtSite, OnSites}
use Rattle.vx_diskset.specs.declared.disk_set.DiskSet.{DiskSet}
use Rattle.vx_diskset.specs.declared.disk_set.DiskSet.TheVariants.{OfGroup}
use Rattle.vx_diskset.specs.declared.group_set.GroupSet.{GroupSet}
use Rattle.vx_volume.specs.Plexes.{uses}
use Rattle.vx_group.specs.Attaches.{region_count}
use Rattle.vx_events.specs.GroupConfigs.{ConfigKeepsBut, lies_on_disk}
use Rattle.vx_events.specs.GroupLines.{plain_number}
use Rattle.vx_events.specs.GroupNotes.{note_at, Reconfigures}
use Rattle.vx_events.specs.GroupReplies.{AttachCopies, entry_maps, volume_maps, volume_regions}
use Rattle.vx_events.specs.GroupViews.{noted_table, volumes_of}
use Rattle.vx_events.specs.StepsOver.{fact_of_group}
use Rattle.vx_events.specs.declared.said.Said.{Said}
use Rattle.vx_events.specs.declared.said.Said.TheVariants.{DoneAt}
use Rattle.vx_yard.proofs.Carrying.{SameLoad}
use Rattle.vx_yard.specs.Standing.{LeadsOver, LeadsOverIs, StandsFor}
use Rattle.vx_yard.specs.declared.yard.Yard.{Yard}
use Rattle.vx_above.proofs.Changing.{PutsOr, att_done, att_kept, att_table, att_to, keeps_table, notes_config, reconfigures, stated_table}
use Rattle.vx_group_lines.proofs.GroupCalls.{sets_then, maps_were}
use Rattle.vx_group_lines.proofs.GroupDone.{done_leads, refused_leads}
use Rattle.vx_group_lines.proofs.GroupEnding.{Calling, Midway, SameTable}
use Rattle.vx_group_lines.proofs.GroupPlex.{att_wants, on_state, state_on}
use Rattle.vx_grouped.specs.SiteMaps.{AttMapped, AttMaps, MapsLike, MapsOf, StandMaps, UpMaps}
use Rattle.vx_grouped.specs.MapsNoted.{CopiesNoted}
use Rattle.vx_events.specs.GroupMaps.{MapsAttached, MapsCalled, MapsLost}
use Rattle.vx_group_lines.proofs.MapGoing.{on_map, with_goes}
use Rattle.vx_group_lines.proofs.Serials.{att_left}
use Rattle.vx_group_lines.proofs.MapLines.{att_named, copies_known, copies_unknown, like_named, logs_low}
use Rattle.vx_group_lines.proofs.Plains.{att_rvg, rvg_goes}
use Rattle.vx_group_lines.specs.Noting.{IsNotedRefusal, reply_noted}

-- the regions of a volume, by its note
regions_by : (note : GroupNode) (c : Config) (v : ℕ) → NotesConfig note c → region_count c v ≡ volume_regions note v
regions_by note c v noted = ap (λ (o : Option Config). div_ceil (blocks_of (volumes_of o) v) REGION) (sym (notes_config note c noted))

-- and whether it keeps a map of missed regions
entry_map : (o : Option VolumeEntry) → is_some (log_or Fmr o) ≡ entry_maps o
entry_map None = refl
entry_map (Some volume) = refl

maps_by : (note : GroupNode) (c : Config) (v : ℕ) → NotesConfig note c → is_some (log_of c v Fmr) ≡ volume_maps note v
maps_by note c v noted = entry_map (slice_get c.volumes v) ∙ ap (λ (o : Option Config). entry_maps (slice_get (volumes_of o) v)) (sym (notes_config note c noted))

module _ {R : Type 0} {g : Ghosts R} where
  -- how many regions are copied
  pub att_copies : (n : Node) (note : GroupNode) (e : GroupSite R g) (v plex k : ℕ) → UpNoted n note e → StandMaps note e
      → ((c : Config) (w : MissedNote) → site_config e ≡ Some c → MapsOf w c e → active c v plex ≡ false → CopiesNoted w c v plex k) → (IsTrue (is_plex_on e v plex) → k ≡ 0) → (is_plex_on e v plex ≡ false → RegionsOf e v k) → AttachCopies note v plex (DoneAt k)
  att_copies n note (SiteUp group) v plex k it had copies none all =
      let noted : NotesConfig note group.core.inner.config = record { is = it.at.lies.config; spells = it.spells } in
      by_on (active group.core.inner.config v plex) refl noted
    where
      by_on : (b : Bool) → active group.core.inner.config v plex ≡ b → NotesConfig note group.core.inner.config → AttachCopies note v plex (DoneAt k)
      by_on true on noted = record {
        count = k;
        says = refl;
        few = omega (arith, none on);
        none = λ _. none on;
        all = λ off _. absurd (off (state_on note group.core.inner.config v plex noted on));
        unknown = λ off _. absurd (off (state_on note group.core.inner.config v plex noted on));
        missed = λ off _. absurd (off (state_on note group.core.inner.config v plex noted on));
      }
      by_on false on noted =
          let it : CopiesRegions group.core.inner.config v k = all on in
          let same : region_count group.core.inner.config v ≡ volume_regions note v = regions_by note group.core.inner.config v noted in
          let stood : MapsOf note.maps group.core.inner.config (SiteUp group) = subst (λ (c : Config). MapsOf note.maps c (SiteUp group)) (sym (had.up group.core.inner.config refl)) had.maps in
          let copied : CopiesNoted note.maps group.core.inner.config v plex k = copies group.core.inner.config note.maps refl stood on in
          record {
            count = k;
            says = refl;
            few = subst (λ (x : ℕ). k ≤ x) same it.few;
            none = λ takes. absurd (let e : false ≡ true = sym on ∙ on_state note group.core.inner.config v plex noted takes in cc);
            all = λ _ off. it.all (maps_by note group.core.inner.config v noted ∙ off) ∙ same;
            unknown = λ _ off. copies_unknown note.maps group.core.inner.config v plex k (volume_regions note v) same copied off;
            missed = λ _ known. copies_known note.maps group.core.inner.config v plex k (volume_regions note v) same copied known;
          }
  att_copies n note (SiteAway idle) v plex k it had copies none all = absurd it
  att_copies n note (SiteDown idle) v plex k it had copies none all = absurd it
  att_copies n note (Marked rack) v plex k it had copies none all = absurd it
  att_copies n note SiteGone v plex k it had copies none all = absurd it

  pub att_at : (n : Node) (note : GroupNode) {v w p q : ℕ} → v ≡ w → p ≡ q → (r : Result ℕ Stop) (before after : DiskSet R g) → OnSites (λ o e. AttCalled n note v p o e r) before after
      → OnSites (λ o e. AttCalled n note w q o e r) before after
  att_at n note {v} {w} {p} {q} number plex r before after it =
      subst (λ (k : ℕ). OnSites (λ (o e : GroupSite R g). AttCalled n note k q o e r) before after) number
      (subst (λ (k : ℕ). OnSites (λ (o e : GroupSite R g). AttCalled n note v k o e r) before after) plex it)

  pub att_maps_at : {v w p q : ℕ} → v ≡ w → p ≡ q → (r : Result ℕ Stop) (before after : DiskSet R g) → OnSites (λ o e. AttMapped v p o e r) before after → OnSites (λ o e. AttMapped w q o e r) before after
  att_maps_at {v} {w} {p} {q} number plex r before after it =
      subst (λ (k : ℕ). OnSites (λ (o e : GroupSite R g). AttMapped k q o e r) before after) number (subst (λ (k : ℕ). OnSites (λ (o e : GroupSite R g). AttMapped v k o e r) before after) plex it)

  -- nothing is copied to one that takes part
  pub zero_by : (site : GroupSite R g) (v p count : ℕ) (o : Option No) → refuses_att site v p ≡ o → ((no : No) → refuses_att site v p ≡ Some no → (let r : Result ℕ Stop = Ok count in r) ≡ Err (StopsBy no))
      → (refuses_att site v p ≡ None → IsTrue (is_plex_on site v p) → (let r : Result ℕ Stop = Ok count in r) ≡ Ok 0) → IsTrue (is_plex_on site v p) → count ≡ 0
  zero_by site v p count None is refused already on = let e = already is on in cc
  zero_by site v p count (Some why) is refused already on = absurd (let e = refused why is in cc)

  pub att_zero : (before : DiskSet R g) (set : GroupSet R g) {v w p q : ℕ} (count : ℕ) → before ≡ OfGroup set → v ≡ w → p ≡ q → ((no : No) → AtPlain (λ o. refuses_att o v p ≡ Some no) before → (let r : Result ℕ Stop = Ok count in r) ≡ Err (StopsBy no))
      → (AtPlain (λ o. refuses_att o v p ≡ None) before → AtSite (λ o. IsTrue (is_plex_on o v p)) before → (let r : Result ℕ Stop = Ok count in r) ≡ Ok 0) → IsTrue (is_plex_on set.site w q) → count ≡ 0
  att_zero before set {v} {w} {p} {q} count is number plex refused already =
      subst (λ (k : ℕ). IsTrue (is_plex_on set.site k q) → count ≡ 0) number
      (subst (λ (k : ℕ). IsTrue (is_plex_on set.site v k) → count ≡ 0) plex
      (λ on. zero_by set.site v p count (refuses_att set.site v p) refl
      (λ no at. refused no (subst (λ (x : DiskSet R g). AtPlain (λ (o : GroupSite R g). refuses_att o v p ≡ Some no) x) (sym is) at))
      (λ at on. already (subst (λ (x : DiskSet R g). AtPlain (λ (o : GroupSite R g). refuses_att o v p ≡ None) x) (sym is) at) (subst (λ (x : DiskSet R g). AtSite (λ (o : GroupSite R g). IsTrue (is_plex_on o v p)) x) (sym is) on)) on))

  -- no test refused one that is done
  pub att_never : (before : DiskSet R g) (set : GroupSet R g) {v w p q : ℕ} (count : ℕ) → before ≡ OfGroup set → v ≡ w → p ≡ q → ((no : No) → AtPlain (λ o. refuses_att o v p ≡ Some no) before → (let r : Result ℕ Stop = Ok count in r) ≡ Err (StopsBy no))
      → (no : No) → refuses_att set.site w q ≡ Some no → ⊥
  att_never before set {v} {w} {p} {q} count is number plex refused why at =
      let clash =
      refused why (subst (λ (x : DiskSet R g). AtPlain (λ (o : GroupSite R g). refuses_att o v p ≡ Some why) x) (sym is)
      (subst (λ (k : ℕ). refuses_att set.site k p ≡ Some why) (sym number) (subst (λ (k : ℕ). refuses_att set.site w k ≡ Some why) (sym plex) at))) in
      absurd (cc)

  pub att_all : (before : DiskSet R g) (set : GroupSet R g) {v w p q : ℕ} (count : ℕ) → before ≡ OfGroup set → v ≡ w → p ≡ q → (AtSite (λ o. is_plex_on o v p ≡ false) before → AtSite (λ o. RegionsOf o v count) before)
      → is_plex_on set.site w q ≡ false → RegionsOf set.site w count
  att_all before set {v} {w} {p} {q} count is number plex all =
      subst (λ (k : ℕ). is_plex_on set.site k q ≡ false → RegionsOf set.site k count) number
      (subst (λ (k : ℕ). is_plex_on set.site v k ≡ false → RegionsOf set.site v count) plex
      (λ off. subst (λ (x : DiskSet R g). AtSite (λ (o : GroupSite R g). RegionsOf o v count) x) is (all (subst (λ (x : DiskSet R g). AtSite (λ (o : GroupSite R g). is_plex_on o v p ≡ false) x) (sym is) off))))

  module _ (d : Doubted) (old new : Yard R g) (name volume : List ℕ) (plex s : ℕ) (before after : DiskSet R g) (found : VolumeFacts) (stands : StandsFor d old)
      (it : Calling d (PlexAttach name volume plex) old new name s before after)
      (at : slice_get (noted_table (note_at (d.world.nodes s))) (plain_number (note_at (d.world.nodes s)) volume) ≡ Some found) (below : plex < found.plexes)
      (is_up : UpNoted (d.world.nodes s) (note_at (d.world.nodes s)) it.call.at.set.site) where
    abbrev n : Node
    n = d.world.nodes s

    abbrev note : GroupNode
    note = note_at (d.world.nodes s)

    abbrev v : ℕ
    v = plain_number (note_at (d.world.nodes s)) volume

    att_fails_same : SameTable note (λ o e. AttFails v plex o e)
    att_fails_same = record { same = λ many o e t fails next was now names noted noted_now change. keeps_table t many fails o e note next names (uses was v plex) was now noted noted_now change; rvg = λ o e next was now noted noted_now change. rvg_goes note next was now noted noted_now change.parts.rvg }

    att_cuts_same : SameTable note (λ o e. AttCuts v plex o e)
    att_cuts_same = record { same = λ many o e t fails next was now names noted noted_now change. att_table t many fails o e note next names v plex was now noted noted_now change; rvg = λ o e next was now noted noted_now change. rvg_goes note next was now noted noted_now (att_rvg v plex o e was now change) }

    pub att_ends : (count : ℕ) → OnSites (λ o e. AttCalled n note v plex o e (Ok count)) before after → OnSites (λ o e. AttMapped v plex o e (Ok count)) before after → (IsTrue (is_plex_on it.call.at.set.site v plex) → count ≡ 0) → (is_plex_on it.call.at.set.site v plex ≡ false → RegionsOf it.call.at.set.site v count)
        → ((no : No) → refuses_att it.call.at.set.site v plex ≡ Some no → ⊥) → new.facts.items ≡ old.facts.items → SameLoad old new → LeadsOver d (PlexAttach name volume plex) (DoneAt count) old new
    att_ends count on maps none all never facts load =
        done_leads d (PlexAttach name volume plex) old new name s before after stands it true (λ o e. AttDone v plex o e) (λ o e. AttFails v plex o e) (λ o e. AttCuts v plex o e) (AttMaps v plex) (λ o which. refuses_att o v plex ≡ Some which) (DoneAt count) count (λ k h. h)
        (record {
          ends = λ many fails o e next was now names noted noted_now enough logs change keeps w by. (
            with_goes (Reconfigures (λ c x. PutsOr s fails (λ k. lies_on_disk c v plex k) v plex Active c x) NoteSettles) (MapsAttached s fails v plex) note next was now w noted noted_now
                (reconfigures s many fails o e note next names (λ c x. PutsOr s fails (λ k. lies_on_disk c v plex k) v plex Active c x) (λ a b. NoteSettles a b) was now noted noted_now
                (att_done s many fails o e note next names v plex was now enough change) keeps)
                (att_named s many fails o e names was now (λ u k. logs_low was many u k logs) note.maps w v plex by),
            att_copies n note it.call.at.set.site v plex count is_up (maps_were d old new name s before after stands it.call)
                (sets_then (λ o e. AttMapped v plex o e (Ok count)) before after it.call.at.set it.call.at.is_set maps).holds.1 none all,
            att_left n note it.call.at.set.site v plex is_up (maps_were d old new name s before after stands it.call) never,
          );
        })
        (record { same = λ many o e t fails next was now names noted noted_now change. stated_table t many fails o e note next names (λ k. uses was v plex k) v plex Active was now noted noted_now change; rvg = λ o e next was now noted noted_now change. rvg_goes note next was now noted noted_now change.moves.parts.rvg })
        on (on_map (λ o e. AttMapped v plex o e (Ok count)) (λ o e. UpMaps (AttMaps v plex) o e) (λ o e m. m.0) before after it.call.at.set it.call.at.is_set maps) facts load

    pub att_refused : (mid : Yard R g) (result : Result Said OutOfMemory) → Midway old mid → (why : No) → OnSites (λ o e. AttCalled n note v plex o e (Err (StopsBy why))) before after
        → OnSites (λ o e. AttMapped v plex o e (Err (StopsBy why))) before after → IsNotedRefusal s (fact_of_group (d.world.nodes s) (note_at (d.world.nodes s))) why mid new result → LeadsOverIs d (PlexAttach name volume plex) old new result
    att_refused mid result half why on maps refusal =
        refused_leads d (PlexAttach name volume plex) old new name s before after stands it mid half result ℕ true (λ o e. AttDone v plex o e) (λ o e. AttFails v plex o e) (λ o e. AttCuts v plex o e) MapsLike (λ o which. refuses_att o v plex ≡ Some which)
        (record {
          ends = λ many fails o e next was now names noted noted_now enough logs change keeps w by.
              with_goes (Reconfigures (λ c x. ConfigKeepsBut (λ k. lies_on_disk c v plex k) s fails c x) (NoteUnsettles true)) (MapsCalled s fails) note next was now w noted noted_now
              (reconfigures s many fails o e note next names (λ c x. ConfigKeepsBut (λ k. lies_on_disk c v plex k) s fails c x) (λ a b. NoteUnsettles true a b) was now noted noted_now
              (att_kept s many fails o e note next names v plex was now enough change) keeps)
              (like_named s many fails o e names was now (λ u k. logs_low was many u k logs) note.maps w by);
        })
        (record {
          ends = λ many fails o e next was now names noted noted_now enough logs change keeps w by.
              with_goes (Reconfigures (λ c x. ConfigKeepsBut (λ k. lies_on_disk c v plex k) s fails c x ⊎ PutsOr s fails (λ k. lies_on_disk c v plex k) v plex Active c x) (NoteUnsettles true)) MapsLost note next was now w noted noted_now
              (reconfigures s many fails o e note next names
              (λ c x. ConfigKeepsBut (λ k. lies_on_disk c v plex k) s fails c x ⊎ PutsOr s fails (λ k. lies_on_disk c v plex k) v plex Active c x) (λ a b. NoteUnsettles true a b) was now noted noted_now
              (att_to s many fails o e note next names v plex was now enough change) keeps)
              (record { none = by.none });
        })
        att_fails_same att_cuts_same (λ which is. att_wants n note it.call.at.set.site name volume plex found which is_up (maps_were d old new name s before after stands it.call) at below is) why on maps refusal

    att_memory : OnSites (λ o e. AttCalled n note v plex o e (Err MemoryStop)) before after → ⊥
    att_memory on = (sets_then (λ o e. AttCalled n note v plex o e (Err MemoryStop)) before after it.call.at.set it.call.at.is_set on).holds

    pub att_stopped : (mid : Yard R g) (result : Result Said OutOfMemory) → Midway old mid → (stop : Stop) → OnSites (λ o e. AttCalled n note v plex o e (Err stop)) before after
        → OnSites (λ o e. AttMapped v plex o e (Err stop)) before after → reply_noted s (fact_of_group (d.world.nodes s) (note_at (d.world.nodes s))) stop mid new result → LeadsOverIs d (PlexAttach name volume plex) old new result
    att_stopped mid result half (StopsBy why) on maps refusal = att_refused mid result half why on maps refusal
    att_stopped mid result half MemoryStop on maps refusal = absurd (att_memory on)
