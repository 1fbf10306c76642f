-- The line that makes a volume of a group below a replicated volume group.
use Rattle.std.proofs.Common.{◌≡◌, ◌∙◌, ◌+◌, ◌++◌, ◌<◌, ◌≤◌, inl, inr, ℕ, true, false, List, length, map, ap, arith, refl, subst, sym}
use Rattle.std.specs.List.{list_any}
use Rattle.std.specs.Prelude.{Option, Some, None, slice_set, Result, Ok, Err}
use Rattle.vx_model.specs.declared.errors.OutOfMemory.{OutOfMemory}
use Rattle.vx_model.specs.declared.errors.Stop.TheVariants.{No as StopsBy}
use Rattle.vx_model.specs.declared.limits.TheConstants.{MOST_PLEXES, MOST_VOLUMES}
use Rattle.vx_model.specs.declared.no.No.{No}
use Rattle.vx_model.specs.declared.units.Units.{Units}
use Rattle.vx_disk.specs.Shelf.{Meaning}
use Rattle.vx_disk.specs.declared.shelf.Shelf.{Ghosts}
use Rattle.vx_config.specs.declared.config.Config.{Config}
use Rattle.vx_kept.specs.Cleans.{at_serial}
use Rattle.vx_history.specs.Doubts.{Doubted}
use Rattle.vx_history.specs.Groups.{GroupNode, MissedNote, NoteSettles, NoteUnsettles}
use Rattle.vx_history.specs.Missing.{with_maps}
use Rattle.vx_history.specs.Steps.{burned}
use Rattle.vx_history.specs.Volumes.{as_volume}
use Rattle.vx_history.specs.World.{Node, Volume as VolumeOf}
use Rattle.vx_layout.specs.Made.{with_volume}
use Rattle.vx_layout.specs.declared.shape.Shape.{Shape}
use Rattle.vx_group.specs.Makes.{has_name, is_shape}
use Rattle.vx_order.specs.Volumes.{is_volume_shape}
use Rattle.vx_order.specs.declared.facts.LinkFacts.{LinkFacts}
use Rattle.vx_order.specs.declared.facts.SiteFacts.{SiteFacts}
use Rattle.vx_order.specs.declared.facts.VolumeFacts.{VolumeFacts}
use Rattle.vx_script.specs.declared.line.Layout.{Layout}
use Rattle.vx_script.specs.declared.line.ReadPolicy.{ReadPolicy}
use Rattle.vx_script.specs.declared.line.ScriptLine.TheVariants.{Volume}
use Rattle.vx_script.specs.declared.line.VolumeLog.{VolumeLog}
use Rattle.vx_script.specs.declared.line.VolumeMap.{VolumeMap}
use Rattle.vx_grouped.specs.Added.{note_added}
use Rattle.vx_grouped.specs.ConfigMoves.{LosesSome, VolumeAdded, none_again}
use Rattle.vx_grouped.specs.GroupNotes.{NotesConfig}
use Rattle.vx_grouped.specs.GroupSites.{UpNoted, site_config, site_disks, with_note}
use Rattle.vx_grouped.specs.SiteAdds.{LacksVolume}
use Rattle.vx_grouped.specs.SiteEnds.{ConfigGoes}
use Rattle.vx_grouped.specs.SiteMaps.{AddMaps, AddedMapped, MapsLike, StandMaps}
use Rattle.vx_grouped.specs.declared.group_site.GroupSite.{GroupSite}
use Rattle.vx_grouped.specs.declared.group_site.GroupSite.TheVariants.{Up as SiteUp, Deported as SiteAway, Down as SiteDown, Marked, Gone as SiteGone}
use Rattle.vx_grouped.proofs.MapNoteLemmas.{up_with_maps}
use Rattle.vx_diskset.proofs.NotedLikes.{cut_none}
use Rattle.vx_diskset.proofs.Tidied.{note_tidy}
use Rattle.vx_diskset.specs.Aboves.{site_in}
use Rattle.vx_diskset.specs.Noted.{IsNamed, below_rvg}
use Rattle.vx_diskset.specs.OverPlains.{note_tidied}
use Rattle.vx_diskset.specs.OverVolumes.{VolBelow}
use Rattle.vx_diskset.specs.declared.disk_set.DiskSet.{DiskSet}
use Rattle.vx_diskset.specs.declared.over_set.OverSet.{OverSet}
use Rattle.vx_events.proofs.Places.{some_same}
use Rattle.vx_events.proofs.PlexKeeps.{volume_keeps}
use Rattle.vx_events.proofs.RvgStays.{then_same}
use Rattle.vx_events.specs.Fails.{Fails}
use Rattle.vx_events.specs.GroupConfigs.{ConfigLoses}
use Rattle.vx_events.specs.GroupEnds.{GroupDone, GroupWants}
use Rattle.vx_events.specs.GroupLines.{shape_of}
use Rattle.vx_events.specs.GroupMaps.{MapsCalled, MapsLost}
use Rattle.vx_events.specs.GroupNotes.{NotesVolume, Reconfigures, note_at}
use Rattle.vx_events.specs.GroupViews.{config_of, volumes_of}
use Rattle.vx_events.specs.LinkedFacts.{link_facts, linked_fact, links_by}
use Rattle.vx_events.specs.RvgFits.{NoteKeepsRvg, config_rvg, data_of}
use Rattle.vx_events.specs.RvgOver.{AsGroup}
use Rattle.vx_events.specs.RvgViews.{data_facts, data_seen, data_units, is_over_rvg, kinds_by, others_by, others_of, table_at}
use Rattle.vx_events.specs.declared.said.Said.{Said}
use Rattle.vx_events.specs.declared.said.Said.TheVariants.{Done}
use Rattle.vx_history.specs.Events.{linked_sites}
use Rattle.vx_yard.proofs.Carrying.{SameLoad}
use Rattle.vx_yard.proofs.Rows.{fact_from, facts_is, shown_by}
use Rattle.vx_yard.specs.GroupFacts.{with_table}
use Rattle.vx_yard.specs.Standing.{StandsFor}
use Rattle.vx_yard.specs.declared.yard.Yard.{Yard}
use Rattle.vx_above.proofs.Changing.{moves_table, moves_to, notes_config, reconfigures}
use Rattle.vx_above.proofs.Losing.{Names, found_zero}
use Rattle.vx_above.proofs.OverSeen.{group_like, table_by}
use Rattle.vx_above.proofs.OverSites.{over_again}
use Rattle.vx_above.proofs.SiteCalls.{calls}
use Rattle.vx_group_lines.proofs.BelowDone.{BelowLine, LeadsBelow, are, below_refused, loosens_of, names, never_on, rose, settles_tight, tidied_as}
use Rattle.vx_group_lines.proofs.BelowUp.{NotesBelow, below_follows, none_cut}
use Rattle.vx_group_lines.proofs.GroupEnding.{Midway, SameTable, world_up}
use Rattle.vx_group_lines.proofs.GroupLeads.{Follows}
use Rattle.vx_group_lines.proofs.GroupVolume.{adds_zeros, config_now, room_wants, shape_fits, volume_why}
use Rattle.vx_group_lines.proofs.MapGoing.{MapsOn, goes_up, with_goes}
use Rattle.vx_group_lines.proofs.MapLines.{added_named, like_named, logs_bound, logs_low}
use Rattle.vx_group_lines.proofs.Plains.{rvg_goes}
use Rattle.vx_group_lines.proofs.RvgFacts.{data_same}
use Rattle.vx_group_lines.proofs.RvgReturns.{named_again}
use Rattle.vx_group_lines.proofs.Serials.{lacks_by, serial_noted}
use Rattle.vx_group_lines.specs.Noting.{IsNotedRefusal}

-- what the tests see of the volumes of a site, by the configuration that it notes
abbrev split_by : List VolumeOf → Option Config → List VolumeFacts
split_by vs o = data_facts (volumes_of o) (data_units (config_rvg o)) vs ++ others_of o

named_table : (m : Node) (c : Config) (units : Units) → is_over_rvg m ≡ true → config_of (note_at m).config ≡ Some c → c.rvg ≡ Some units → m.volumes ≡ map as_volume (data_of c.volumes units) → table_at m ≡ kinds_by c.rvg c.volumes
named_table m c units over config rvg volumes =
    table_by m over
    ∙ ap (λ (o : Option Config). split_by m.volumes o) config
    ∙ ap (λ (vs : List VolumeOf). data_facts c.volumes (data_units c.rvg) vs ++ others_by c.rvg c.volumes) volumes
    ∙ ap (λ (o : Option Units). data_facts c.volumes (data_units o) (map as_volume (data_of c.volumes units)) ++ others_by c.rvg c.volumes) rvg
    ∙ ap (λ (fs : List VolumeFacts). fs ++ others_by c.rvg c.volumes) (data_same c.volumes units.vols)
    ∙ ap (λ (o : Option Units). map (data_seen c.volumes) (data_units o) ++ others_by c.rvg c.volumes) (sym rvg)

module _ {R : Type 0} {g : Ghosts R} where
  -- why a volume is not made that the tests let through
  pub wants_volume : (n : Node) (note : GroupNode) (e : GroupSite R g) (name volume : List ℕ) (blocks mirrors : ℕ) (layout : Layout) (log : VolumeLog) (map_of : VolumeMap) (policy : ReadPolicy) (want : Shape) → want ≡ shape_of blocks mirrors layout log map_of policy
      → UpNoted n note e → StandMaps note e → ((c : Config) → site_config e ≡ Some c → (list_any (has_name volume) c.volumes ≡ false) × (length c.volumes < MOST_VOLUMES)) → mirrors ≤ MOST_PLEXES → is_volume_shape blocks mirrors layout ≡ true → (why : No) → LacksVolume e volume want why
      → GroupWants note (Volume name volume blocks mirrors layout log map_of policy) why
  wants_volume n note (SiteUp group) name volume blocks mirrors layout log map_of policy want is_want up maps free plexes shape why (inl is) =
      let c : Config = group.core.inner.config in
      let frees = free c refl in
      let mirrored : want.mirrors ≡ mirrors = ap (λ (w : Shape). w.mirrors) is_want in
      let fits : is_shape want ≡ true = ap is_shape is_want ∙ shape_fits blocks mirrors layout log map_of policy shape in
      let limit = volume_why c volume want why frees.0 frees.1 (omega (arith, plexes, mirrored)) fits is in
      subst (λ (w : No). GroupWants note (Volume name volume blocks mirrors layout log map_of policy) w) (sym limit.0) (tt, refl, lacks_by note c.serial (serial_noted note group maps) limit.1)
  wants_volume n note (SiteUp group) name volume blocks mirrors layout log map_of policy want is_want up maps free plexes shape why (inr room) =
      room_wants note group.core.inner.config (record { is = up.at.lies.config; spells = up.spells }) name volume blocks mirrors layout log map_of policy want is_want why room.1
  wants_volume n note (SiteAway idle) name volume blocks mirrors layout log map_of policy want is_want up maps free plexes shape why lacks = absurd up
  wants_volume n note (SiteDown idle) name volume blocks mirrors layout log map_of policy want is_want up maps free plexes shape why lacks = absurd up
  wants_volume n note (Marked rack) name volume blocks mirrors layout log map_of policy want is_want up maps free plexes shape why lacks = absurd up
  wants_volume n note SiteGone name volume blocks mirrors layout log map_of policy want is_want up maps free plexes shape why lacks = absurd up

  module _ (d : Doubted) (old new : Yard R g) (name volume : List ℕ) (blocks mirrors : ℕ) (layout : Layout) (log : VolumeLog) (map_of : VolumeMap) (policy : ReadPolicy) (want : Shape) (is_want : want ≡ shape_of blocks mirrors layout log map_of policy)
      (s : ℕ) (before after : DiskSet R g) (p : OverSet R g) (stands : StandsFor d old) (it : BelowLine d (Volume name volume blocks mirrors layout log map_of policy) old new name s before after p)
      (is_up : UpNoted (below_rvg (d.world.nodes s)) (note_at (d.world.nodes s)) (site_in it.call.at.set)) where
    abbrev n : Node
    n = d.world.nodes s

    abbrev note : GroupNode
    note = note_at (d.world.nodes s)

    abbrev was : GroupSite R g
    was = site_in it.call.at.set

    abbrev o : Meaning
    o = site_disks (site_in it.call.at.set)

    abbrev e : Meaning
    e = site_disks (site_in p)

    -- it is made
    does : (many : ℕ) (fails : Fails) (next : GroupNode) (vol : ℕ) (before now : Config) → Names s many fails o e → NotesConfig note before → NotesConfig next now → length before.disks ≤ many → logs_bound before.volumes ≤ many
        → VolumeAdded volume want vol o e before now → NoteSettles note next → (w : MissedNote) → AddMaps o e before now note.maps w
        → NotesVolume s fails volume (shape_of blocks mirrors layout log map_of policy) note (note_added vol want.blocks (with_maps w next))
    does many fails next vol before now named noted noted_now enough logs added keeps w by =
        subst (λ (x : Shape). NotesVolume s fails volume x note (note_added vol want.blocks (with_maps w next))) is_want (record {
          old = at_serial 0 before;
          made = with_volume (at_serial 0 before) added.volume;
          now = at_serial 0 now;
          was = notes_config note before noted;
          adds = record { found = added.found; space = found_zero before want added.found added.space; volume = added.volume; made = added.is_volume.made; named = added.is_volume.named; is = refl };
          loses = moves_to s many fails o e note next named none_again (with_volume before added.volume) now enough added.moves;
          is = notes_config next now noted_now;
          middle = next;
          settles = keeps;
          maps = w;
          missed = added_named s many fails o e named before now (λ u k. logs_low before many u k logs) note.maps w by;
          zeros = adds_zeros vol (length before.volumes) want.blocks (with_maps w next) added.number;
        })

    abbrev many_of : Config → ℕ
    many_of c = (site_disks (site_in it.call.at.set)).units + length c.disks + logs_bound c.volumes + 1

    pub vol_done : (vol : ℕ) → VolBelow (below_rvg (d.world.nodes s)) note volume want was (site_in p) (Ok vol) → AddedMapped was (site_in p) (Ok vol)
        → ((c : Config) → site_config (site_in p) ≡ Some c → new.facts.items ≡ slice_set old.facts.items s (with_table (kinds_by c.rvg c.volumes) (linked_fact d.world s))) → SameLoad old new
        → LeadsBelow d (Volume name volume blocks mirrors layout log map_of policy) s Done old new
    vol_done vol called maps facts load =
        let next : GroupNode = called.0 in
        let goes : ConfigGoes (VolumeAdded volume want vol o e) note next was (site_in p) = called.3 in
        let first : GroupNode = note_tidied (note_added vol want.blocks next) in
        let go : MapsOn (AddMaps o e goes.was goes.now) note next (site_in p) = goes_up AddMaps (with_note first (below_rvg n)) note next first was (site_in p) (VolumeAdded volume want vol o e) it.maps goes called.2 maps in
        let k : GroupNode = note_added vol want.blocks (with_maps go.maps next) in
        let tidied : GroupNode = note_tidied k in
        let m : Node = with_note tidied n in
        let noted : UpNoted (below_rvg m) tidied (site_in p) = up_with_maps go.maps (with_note first (below_rvg n)) first (site_in p) called.2 in
        let many : ℕ = many_of goes.was in
        let named : Names s many (calls s old new many) o e = names d (Volume name volume blocks mirrors layout log map_of policy) old new name s before after p stands it many (omega arith) in
        let adds : NotesVolume s (calls s old new many) volume (shape_of blocks mirrors layout log map_of policy) note k
        = does many (calls s old new many) next vol goes.was goes.now named goes.noted goes.noted_now (omega arith) (omega arith) goes.change called.1 go.maps go.by in
        let keeps : NoteKeepsRvg note tidied = then_same note k tidied (volume_keeps s (calls s old new many) volume (shape_of blocks mirrors layout log map_of policy) note k adds) refl in
        let clear : tidied.cut ≡ None = called.1.same.cut ∙ none_cut d old new name s before after p stands it.call in
        let notes : NotesBelow note tidied = record { keeps = keeps; tidy = note_tidy k; cut = called.1.same.cut; inside = called.1.same.inside } in
        let still : is_over_rvg m ≡ true = over_again n m tidied it.call.at.over refl refl in
        let fits : IsNamed m = named_again n m tidied refl refl keeps (cut_none m tidied refl clear) it.call.at.named in
        let same : fits.0 ≡ at_serial 0 goes.now = some_same (sym fits.2 ∙ notes_config next goes.now goes.noted_now) in
        let table : kinds_by goes.now.rvg goes.now.volumes ≡ table_at m
        = sym (named_table m fits.0 fits.1 still fits.2 fits.3 fits.4 ∙ ap (λ (c : Config). kinds_by c.rvg c.volumes) same) in
        let f : SiteFacts = with_table (kinds_by goes.now.rvg goes.now.volumes) (linked_fact d.world s) in
        let ls : List ℕ = linked_sites (d.world.links s) d.world.sites 0 d.world.sites in
        let links : links_by n.state (link_facts n (d.world.links s) ls) ≡ links_by n.state (link_facts m (d.world.links s) ls) = ap (λ (xs : List LinkFacts). links_by n.state xs) (sym (shown_by n m (d.world.links s) (λ j l. refl) ls)) in
        let shown : f ≡ fact_from m (d.world.links s) d.world.sites
        = facts_is f (fact_from m (d.world.links s) d.world.sites) refl refl refl refl (it.call.at.over ∙ sym still) table (sym (group_like n.state n tidied (burned n.fuse))) links in
        let config : site_config (site_in p) ≡ Some goes.now = config_now goes.now (below_rvg m) tidied (site_in p) noted goes.has in
        let follows : Follows d (world_up d s tidied) old new = below_follows d old new name s before after p stands it.call tidied noted notes f shown (facts goes.now config) load in
        record {
          next = world_up d s tidied;
          middle = world_up d s k;
          fails = calls s old new many;
          ends = AsGroup (GroupDone k (are d (Volume name volume blocks mirrors layout log map_of policy) old new name s before after p stands it many) (adds, refl) (it.is_line.done k));
          loosens = loosens_of k;
          why = λ on none never. never_on (settles_tight note next it.call.at.noted.3.tidy called.1) on;
          left = tidied_as d s k;
          stands = follows.stands;
          carries = follows.carries;
          rose = rose d (Volume name volume blocks mirrors layout log map_of policy) old new name s before after p stands it many;
        }

    pub vol_refused : (mid : Yard R g) (result : Result Said OutOfMemory) → Midway old mid → (why : No) → VolBelow (below_rvg (d.world.nodes s)) note volume want was (site_in p) (Err (StopsBy why)) → AddedMapped was (site_in p) (Err (StopsBy why))
        → ((why : No) → LacksVolume was volume want why → GroupWants note (Volume name volume blocks mirrors layout log map_of policy) why) → IsNotedRefusal s (linked_fact d.world s) why mid new result
        → (said : Said) × (result ≡ Ok said) × LeadsBelow d (Volume name volume blocks mirrors layout log map_of policy) s said old new
    vol_refused mid result half why called maps wants refusal =
        below_refused d (Volume name volume blocks mirrors layout log map_of policy) old new name s before after p stands it mid half result ℕ false (λ o e c x. ⊥) (λ o e. LosesSome o e) (λ o e. LosesSome o e) MapsLike (λ which. LacksVolume was volume want which)
        (record {
          ends = λ many fails o e next was now names noted noted_now enough logs change keeps w by.
              with_goes (Reconfigures (λ c x. ConfigLoses s fails c x) (NoteUnsettles false)) (MapsCalled s fails) note next was now w noted noted_now
              (reconfigures s many fails o e note next names (λ c x. ConfigLoses s fails c x) (λ a b. NoteUnsettles false a b) was now noted noted_now (moves_to s many fails o e note next names none_again was now enough change) keeps)
              (like_named s many fails o e names was now (λ u k. logs_low was many u k logs) note.maps w by);
        })
        (record {
          ends = λ many fails o e next was now names noted noted_now enough logs change keeps w by.
              with_goes (Reconfigures (λ c x. ConfigLoses s fails c x) (NoteUnsettles false)) MapsLost note next was now w noted noted_now
              (reconfigures s many fails o e note next names (λ c x. ConfigLoses s fails c x) (λ a b. NoteUnsettles false a b) was now noted noted_now (moves_to s many fails o e note next names none_again was now enough change) keeps)
              (record { none = by.none });
        })
        loses_same loses_same wants why called maps.0 refusal
      where
        loses_same : SameTable note (λ o e. LosesSome o e)
        loses_same = record {
          same = λ many o e t fails next was now names noted noted_now change. moves_table t many fails o e note next names none_again was now noted noted_now change;
          rvg = λ o e next was now noted noted_now change. rvg_goes note next was now noted noted_now change.parts.rvg;
        }
