-- The line that makes a volume of a disk group.
use Rattle.std.proofs.Common.{◌≡◌, ◌∙◌, ◌⊎◌, ◌+◌, ◌-◌, ◌^◌, ◌<◌, ◌≤◌, ℕ, Bool, true, false, List, [], ◌∷◌, map, length, ap, sym, subst, refl, arith, inl, inr, ⊎_elim}
use Rattle.std.specs.Prelude.{Option, Some, None, Contains, find, not, ◌&&◌, ◌||◌, ◌==◌, nat_le, nat_lt, bytes_eq, if◌then◌else◌, slice_set, Result, Ok, Err}
use Rattle.std.specs.List.{list_all, list_any}
use Rattle.std.proofs.lemmas.Bool.{and_parts, both_ways, eqb-true}
use Rattle.std.proofs.lemmas.Bool.Decides.{nat_tests}
use Rattle.std.proofs.lemmas.List.{length-map}
use Rattle.std.proofs.lemmas.Option.{same_Some}
use Rattle.vx_model.specs.declared.errors.OutOfMemory.{OutOfMemory}
use Rattle.vx_model.specs.declared.errors.Stop.{Stop}
use Rattle.vx_model.specs.declared.errors.Stop.TheVariants.{No as StopsBy, OutOfMemory as MemoryStop}
use Rattle.vx_model.specs.declared.limits.TheConstants.{MOST_COLUMNS, MOST_NUMBER, MOST_PLEXES, MOST_VOLUMES}
use Rattle.vx_model.specs.declared.no.Counted.TheVariants.{Number as Numbers, Plexes, Subdisks, Volumes}
use Rattle.vx_model.specs.declared.no.No.{No}
use Rattle.vx_model.specs.declared.no.No.TheVariants.{Exists, Limit, Size, Space}
use Rattle.vx_disk.specs.declared.shelf.Shelf.{Ghosts}
use Rattle.vx_config.specs.Table.{greatest}
use Rattle.vx_config.specs.declared.config.Config.{Config}
use Rattle.vx_config.specs.declared.entry.Subdisk.{Subdisk}
use Rattle.vx_config.specs.declared.entry.VolumeEntry.{VolumeEntry}
use Rattle.vx_history.specs.Doubts.{Doubted}
use Rattle.vx_history.specs.Groups.{GroupNode, NoteSettles, NoteUnsettles, MissedNote}
use Rattle.vx_history.specs.Steps.{burned}
use Rattle.vx_history.specs.World.{Fuse as FuseOf, FuseLit, FuseSet, Node, NoFuse}
use Rattle.vx_kept.specs.Cleans.{at_serial}
use Rattle.vx_layout.specs.Made.{IsVolumeMade, with_volume}
use Rattle.vx_layout.specs.Space.{IsFound, IsSpaceShort}
use Rattle.vx_layout.specs.declared.shape.Shape.{Shape}
use Rattle.vx_model.specs.declared.units.Units.{Units}
use Rattle.vx_group.specs.Dets.{margin}
use Rattle.vx_group.specs.Makes.{has_name, is_few, is_shape, make_refusal}
use Rattle.vx_order.specs.Volumes.{is_layout, is_volume_shape}
use Rattle.vx_order.specs.declared.facts.SiteFacts.{SiteFacts}
use Rattle.vx_order.specs.declared.facts.VolumeFacts.{VolumeFacts}
use Rattle.vx_script.specs.declared.line.Layout.{Layout}
use Rattle.vx_script.specs.declared.line.Layout.TheVariants.{Concat, Stripe}
use Rattle.vx_script.specs.declared.line.ReadPolicy.{ReadPolicy}
use Rattle.vx_script.specs.declared.line.ScriptLine.TheVariants.{Volume}
use Rattle.vx_script.specs.declared.line.VolumeLog.{VolumeLog}
use Rattle.vx_script.specs.declared.line.VolumeMap.{VolumeMap}
use Rattle.vx_grouped.specs.Added.{note_added}
use Rattle.vx_grouped.specs.ConfigMoves.{LosesSome, VolumeAdded, none_again}
use Rattle.vx_grouped.specs.GroupNotes.{NotesConfig}
use Rattle.vx_grouped.specs.GroupSites.{UpNoted, site_config, site_disks, with_note}
use Rattle.vx_grouped.specs.SiteAdds.{IsRoomShort, LacksVolume, SiteAdded}
use Rattle.vx_grouped.specs.SiteEnds.{ConfigGoes, HasNow}
use Rattle.vx_grouped.specs.declared.group_site.GroupSite.{GroupSite}
use Rattle.vx_grouped.specs.declared.group_site.GroupSite.TheVariants.{Up as SiteUp, Deported as SiteAway, Down as SiteDown, Marked, Gone as SiteGone}
use Rattle.vx_diskset.specs.Asked.{FailsAs, FusedAs}
use Rattle.vx_diskset.specs.Fuses.{LeftAs}
use Rattle.vx_diskset.specs.GroupCalls.{AtSite, OnSites, cut_in}
use Rattle.vx_diskset.specs.GroupSets.{cut_value}
use Rattle.vx_diskset.specs.Holds.{beside_of}
use Rattle.vx_diskset.specs.declared.disk_set.DiskSet.{DiskSet}
use Rattle.vx_diskset.specs.declared.disk_set.DiskSet.TheVariants.{OfGroup}
use Rattle.vx_events.specs.Fails.{Fails}
use Rattle.vx_events.specs.GroupConfigs.{ConfigLoses}
use Rattle.vx_events.specs.GroupEnds.{GroupDone, GroupWants}
use Rattle.vx_events.specs.GroupLines.{shape_of}
use Rattle.vx_events.specs.GroupNotes.{AddsZeros, NotesVolume, note_at, Reconfigures}
use Rattle.vx_events.specs.GroupViews.{noted_table, plain_fact}
use Rattle.vx_events.specs.RvgFits.{config_rvg, rvg_noted}
use Rattle.vx_events.specs.RvgViews.{kinds_by}
use Rattle.vx_events.specs.StepsOver.{fact_of_group}
use Rattle.vx_events.specs.declared.said.Said.{Said}
use Rattle.vx_events.specs.declared.said.Said.TheVariants.{Done}
use Rattle.vx_yard.proofs.Carrying.{SameLoad}
use Rattle.vx_yard.proofs.FailsStay.{fails_then}
use Rattle.vx_yard.proofs.Lists.{set_same}
use Rattle.vx_yard.proofs.OneSite.{Changed}
use Rattle.vx_yard.specs.GroupFacts.{with_table}
use Rattle.vx_yard.specs.Standing.{LeadsOver, LeadsOverIs, StandsFor, StaysFor}
use Rattle.vx_yard.specs.declared.yard.Yard.{Yard}
use Rattle.vx_above.proofs.SiteCalls.{calls}
use Rattle.vx_above.proofs.Changing.{moves_table, moves_to, notes_config, notes_table, reconfigures}
use Rattle.vx_group_lines.proofs.GroupAt.{up_notes}
use Rattle.vx_group_lines.proofs.GroupCalls.{SetThen, calls_all, calls_are, calls_names, calls_none, fused_since, note_uncut, set_uncut, sets_then, site_up, maps_were, plain_were}
use Rattle.vx_group_lines.proofs.GroupDone.{refused_leads}
use Rattle.vx_group_lines.proofs.GroupEnding.{Calling, Midway, since_at, turned_leads}
use Rattle.vx_group_lines.proofs.GroupLeads.{follows_on, sized_of, up_set}
use Rattle.vx_group_lines.proofs.GroupMarks.{begins_at}
use Rattle.vx_above.proofs.Losing.{Names, found_zero, short_zero}
use Rattle.vx_grouped.specs.SiteMaps.{AddMaps, AddedMapped, MapsLike, StandMaps, StaysMapped, UpMaps}
use Rattle.vx_grouped.proofs.ImageLemmas.{contains_next}
use Rattle.vx_grouped.proofs.MapNoteLemmas.{up_with_maps}
use Rattle.vx_history.specs.Missing.{with_maps}
use Rattle.vx_events.specs.GroupMaps.{MapsCalled, MapsLost}
use Rattle.vx_group_lines.proofs.MapGoing.{MapsOn, goes_up, on_both, stand_as, with_goes}
use Rattle.vx_group_lines.proofs.MapLines.{added_named, like_named, logs_bound, logs_low}
use Rattle.vx_group_lines.proofs.Plains.{rvg_goes}
use Rattle.vx_group_lines.proofs.Serials.{lacks_by, serial_noted}
use Rattle.vx_group_lines.specs.Noting.{reply_noted}

-- ---- tests in order

some_first : {A : Type 0} (b : Bool) (x y : A) (o : Option A) → (if b then Some x else o) ≡ Some y → ((b ≡ true) × (x ≡ y)) ⊎ ((b ≡ false) × (o ≡ Some y))
some_first true x y o is = inl (refl, same_Some x y is)
some_first false x y o is = inr (refl, is)

both_true : (a b : Bool) → a ≡ true → b ≡ true → (a && b) ≡ true
both_true true b one two = two
both_true false b one two = absurd (let no_one : false ≡ true = one in cc)

past_of : (n v : ℕ) → v < n → nat_le n v ≡ true → ⊥
past_of n v below past = grind (arith, nat_tests)

over_of : (n v : ℕ) → v ≤ n → nat_lt n v ≡ true → ⊥
over_of n v below past = grind (arith, nat_tests)

not_on : (b : Bool) → b ≡ true → not b ≡ true → ⊥
not_on true on is = let no_one : false ≡ true = is in cc
not_on false on is = let no_one : false ≡ true = on in cc

-- ---- the shape that a line asks for

some_width : (w : ℕ) → nat_le 1 w ≡ true → (w == 0) ≡ false
some_width w le = by (w == 0) refl
  where
    by : (b : Bool) → (w == 0) ≡ b → (w == 0) ≡ false
    by true is = absurd (let none : w ≡ 0 = eqb-true w 0 is in let no_one : false ≡ true = subst (λ (k : ℕ). nat_le 1 k ≡ true) none le in cc)
    by false is = is

or_first : (a b : Bool) → a ≡ false → (not a || b) ≡ true
or_first true b off = absurd (let no_one : true ≡ false = off in cc)
or_first false b off = refl

pub shape_fits : (blocks mirrors : ℕ) (layout : Layout) (log : VolumeLog) (map : VolumeMap) (policy : ReadPolicy) → is_volume_shape blocks mirrors layout ≡ true → is_shape (shape_of blocks mirrors layout log map policy) ≡ true
shape_fits blocks mirrors Concat log map policy it =
    let first = (and_parts (nat_le 1 blocks && nat_le blocks (2 ^ 40) && nat_le 1 mirrors) true it).0 in
    ap (λ (b : Bool). b && true && true && true) first
shape_fits blocks mirrors (Stripe columns width) log map policy it =
    let parts = and_parts (nat_le 1 blocks && nat_le blocks (2 ^ 40) && nat_le 1 mirrors) (is_layout (Stripe columns width)) it in
    let three = and_parts (nat_le 1 columns && nat_le columns MOST_COLUMNS && nat_le 1 width) (nat_lt width (2 ^ 32)) parts.1 in
    let two = and_parts (nat_le 1 columns && nat_le columns MOST_COLUMNS) (nat_le 1 width) three.0 in
    let one = and_parts (nat_le 1 columns) (nat_le columns MOST_COLUMNS) two.0 in
    both_true (nat_le 1 blocks && nat_le blocks (2 ^ 40) && nat_le 1 mirrors && nat_le 1 columns && nat_le columns MOST_COLUMNS) (not (width == 0) || columns == 1)
    (both_true (nat_le 1 blocks && nat_le blocks (2 ^ 40) && nat_le 1 mirrors && nat_le 1 columns) (nat_le columns MOST_COLUMNS)
    (both_true (nat_le 1 blocks && nat_le blocks (2 ^ 40) && nat_le 1 mirrors) (nat_le 1 columns) parts.0 one.0) one.1)
    (or_first (width == 0) (columns == 1) (some_width width two.1))

-- ---- what refuses a volume

none_by : (name : List ℕ) (v : VolumeEntry) (rest : Option VolumeFacts) (any : Bool) → (rest ≡ None → any ≡ false) → (b : Bool) → bytes_eq v.name name ≡ b → (if b then Some (plain_fact v) else rest) ≡ None → (bytes_eq v.name name || any) ≡ false
none_by name v rest any off true is none = absurd (let no_one : Some (plain_fact v) ≡ None = none in cc)
none_by name v rest any off false is none = ap (λ (b : Bool). b || any) is ∙ off none

-- no volume has the name
none_named : (name : List ℕ) (vs : List VolumeEntry) → find (λ (v : VolumeFacts). bytes_eq v.name name) (map plain_fact vs) ≡ None → list_any (has_name name) vs ≡ false
none_named name [] none = refl
none_named name (v ∷ vs) none =
    none_by name v (find (λ (v : VolumeFacts). bytes_eq v.name name) (map plain_fact vs)) (list_any (has_name name) vs) (none_named name vs) (bytes_eq v.name name) refl none

-- what is left of the tests of a volume that those of the line let through: want of a serial
pub volume_why : (c : Config) (name : List ℕ) (want : Shape) (why : No) → list_any (has_name name) c.volumes ≡ false → length c.volumes < MOST_VOLUMES → want.mirrors ≤ MOST_PLEXES → is_shape want ≡ true
    → make_refusal c name want ≡ Some why → (why ≡ Limit Numbers MOST_NUMBER) × (nat_lt (greatest - margin) c.serial ≡ true)
volume_why c name want why free few plexes shape is = ⊎_elim
    (λ first. absurd (both_ways (list_any (has_name name) c.volumes) free first.0))
    (λ one. ⊎_elim
    (λ full. absurd (past_of MOST_VOLUMES (length c.volumes) few full.0))
    (λ two. ⊎_elim
    (λ many. absurd (over_of MOST_PLEXES want.mirrors plexes many.0))
    (λ three. ⊎_elim
    (λ last. (sym last.1, last.0))
    (λ four. ⊎_elim
    (λ odd. absurd (not_on (is_shape want) shape odd.0))
    (λ none. absurd (let no_one : None ≡ Some why = none.1 in cc))
    (some_first (not (is_shape want)) Size why None four.1))
    (some_first (nat_lt (greatest - margin) c.serial) (Limit Numbers greatest) why _ three.1))
    (some_first (nat_lt MOST_PLEXES want.mirrors) (Limit Plexes MOST_PLEXES) why _ two.1))
    (some_first (nat_le MOST_VOLUMES (length c.volumes)) (Limit Volumes MOST_VOLUMES) why _ one.1))
    (some_first (list_any (has_name name) c.volumes) (Exists name) why _ is)

-- a plex of too many runs
many_by : (x : List Subdisk) (xs : List (List Subdisk)) (rest : Bool) (b : Bool) → nat_le (length x) 255 ≡ b → (b && rest) ≡ false → (rest ≡ false → (ss : List Subdisk) × Contains xs ss × (255 < length ss)) → (ss : List Subdisk) × Contains (x ∷ xs) ss × (255 < length ss)
many_by x xs rest true few is later = let it = later is in (it.0, contains_next it.0 x xs it.1, it.2)
many_by x xs rest false many is later = (x, (0, omega arith, refl), over_by (length x) many)
  where
    over_by : (n : ℕ) → nat_le n 255 ≡ false → 255 < n
    over_by n past = grind (arith, nat_tests)

many_runs : (xs : List (List Subdisk)) → list_all is_few xs ≡ false → (ss : List Subdisk) × Contains xs ss × (255 < length ss)
many_runs [] is = absurd (let no_one : true ≡ false = is in cc)
many_runs (x ∷ xs) is = many_by x xs (list_all is_few xs) (nat_le (length x) 255) refl is (λ rest. many_runs xs rest)

module _ (note : GroupNode) (c : Config) (noted : NotesConfig note c) (name volume : List ℕ) (blocks mirrors : ℕ) (layout : Layout) (log : VolumeLog) (map : VolumeMap) (policy : ReadPolicy) (want : Shape) (is_want : want ≡ shape_of blocks mirrors layout log map policy) where
  pub room_wants : (why : No) → IsRoomShort c volume want why → GroupWants note (Volume name volume blocks mirrors layout log map policy) why
  room_wants (Space need have) short = record {
    config = at_serial 0 c;
    is = notes_config note c noted;
    short = subst (λ (w : Shape). IsSpaceShort (at_serial 0 c) w need have) is_want (short_zero c want need have short);
  }
  room_wants (Limit Subdisks most) it = (
    record {
      config = at_serial 0 c;
      is = notes_config note c noted;
      found = it.0.found;
      space = subst (λ (w : Shape). IsFound (at_serial 0 c) w it.0.found) is_want (found_zero c want it.0.found it.0.space);
      many = ⊎_elim
          (λ runs. inl (many_runs it.0.found.plexes.items runs))
          (λ parts. inr (parts.0, subst (λ (w : Shape). IsVolumeMade w it.0.found parts.0) is_want parts.1.made, parts.1.named, parts.2)) it.0.many;
    },
    it.1,
  )
  room_wants other it = absurd it

-- ---- fuses

unburned : (f : FuseOf) (y : Option (ℕ × ℕ)) → LeftAs (burned f) y → LeftAs f y
unburned NoFuse y left = left
unburned (FuseSet calls) y left = left
unburned (FuseLit most) y left = left

-- the volume begins as zeros
pub adds_zeros : (v volume blocks : ℕ) (note : GroupNode) → v ≡ volume → AddsZeros volume blocks note (note_added v blocks note)
adds_zeros v volume blocks note same =
    subst (λ (k : ℕ). AddsZeros k blocks note (note_added v blocks note)) same (record { size = λ k. refl; block = λ k b. refl; others = λ k b. refl; same = refl })

module _ {R : Type 0} {g : Ghosts R} where
  pub config_now : (c : Config) (n : Node) (note : GroupNode) (e : GroupSite R g) → UpNoted n note e → HasNow c e → site_config e ≡ Some c
  config_now c n note (SiteUp group) up has = ap (λ (x : Config). Some x) has
  config_now c n note (SiteAway idle) up has = absurd up
  config_now c n note (SiteDown idle) up has = absurd up
  config_now c n note (Marked rack) up has = absurd up
  config_now c n note SiteGone up has = absurd up

  module _ (d : Doubted) (old new : Yard R g) (name volume : List ℕ) (blocks mirrors : ℕ) (layout : Layout) (log : VolumeLog) (map_of : VolumeMap) (policy : ReadPolicy) (want : Shape)
      (is_want : want ≡ shape_of blocks mirrors layout log map_of policy) (s : ℕ) (before after : DiskSet R g) (stands : StandsFor d old)
      (it : Calling d (Volume name volume blocks mirrors layout log map_of policy) old new name s before after) where
    abbrev n : Node
    n = d.world.nodes s

    abbrev note : GroupNode
    note = note_at (d.world.nodes s)

    abbrev was_site : GroupSite R g
    was_site = it.call.at.set.site

    -- it is made
    does : (many : ℕ) (fails : Fails) (next : GroupNode) (e : GroupSite R g) (vol : ℕ) (was now : Config) → Names s many fails (site_disks was_site) (site_disks e) → NotesConfig note was → NotesConfig next now → length was.disks ≤ many → logs_bound was.volumes ≤ many
        → VolumeAdded volume want vol (site_disks was_site) (site_disks e) was now → NoteSettles note next → (w : MissedNote) → AddMaps (site_disks was_site) (site_disks e) was now note.maps w
        → NotesVolume s fails volume (shape_of blocks mirrors layout log map_of policy) note (note_added vol want.blocks (with_maps w next))
    does many fails next e vol was now names noted noted_now enough logs added keeps w by =
        subst (λ (x : Shape). NotesVolume s fails volume x note (note_added vol want.blocks (with_maps w next))) is_want (record {
          old = at_serial 0 was;
          made = with_volume (at_serial 0 was) added.volume;
          now = at_serial 0 now;
          was = notes_config note was noted;
          adds = record { found = added.found; space = found_zero was want added.found added.space; volume = added.volume; made = added.is_volume.made; named = added.is_volume.named; is = refl };
          loses = moves_to s many fails (site_disks was_site) (site_disks e) note next names none_again (with_volume was added.volume) now enough added.moves;
          is = notes_config next now noted_now;
          middle = next;
          settles = keeps;
          maps = w;
          missed = added_named s many fails (site_disks was_site) (site_disks e) names was now (λ u k. logs_low was many u k logs) note.maps w by;
          zeros = adds_zeros vol (length was.volumes) want.blocks (with_maps w next) added.number;
        })

    abbrev many_of : Config → ℕ
    many_of was = (site_disks it.call.at.set.site).units + length was.disks + logs_bound was.volumes

    pub volume_done : (vol : ℕ) → OnSites (λ o e. SiteAdded n note volume want o e (Ok vol)) before after → OnSites (λ o e. AddedMapped o e (Ok vol)) before after
        → ((c : Config) → AtSite (λ e. site_config e ≡ Some c) after → new.facts.items ≡ slice_set old.facts.items s (with_table (kinds_by c.rvg c.volumes) (fact_of_group (d.world.nodes s) (note_at (d.world.nodes s)))))
        → SameLoad old new → LeadsOver d (Volume name volume blocks mirrors layout log map_of policy) Done old new
    volume_done vol on maps facts load =
        let it_is : SetThen (λ e. SiteAdded n note volume want was_site e (Ok vol)) after = sets_then (λ o e. SiteAdded n note volume want o e (Ok vol)) before after it.call.at.set it.call.at.is_set on in
        let next : GroupNode = it_is.holds.0 in
        let goes : ConfigGoes (VolumeAdded volume want vol (site_disks was_site) (site_disks it_is.set.site)) note next was_site it_is.set.site = it_is.holds.3 in
        let first : GroupNode = note_added vol want.blocks next in
        let go : MapsOn (AddMaps (site_disks was_site) (site_disks it_is.set.site) goes.was goes.now) note next it_is.set.site
        = goes_up AddMaps (with_note first n) note next first was_site it_is.set.site (VolumeAdded volume want vol (site_disks was_site) (site_disks it_is.set.site)) (maps_were d old new name s before after stands it.call) goes it_is.holds.2
        (on_both (λ o e. UpMaps AddMaps o e) before after it.call.at.set it_is.set it.call.at.is_set it_is.is maps) in
        let k : GroupNode = note_added vol want.blocks (with_maps go.maps next) in
        let up : UpNoted (with_note k n) k it_is.set.site = up_with_maps go.maps (with_note first n) first it_is.set.site it_is.holds.2 in
        let many : ℕ = many_of goes.was in
        let names : Names s many (calls s old new many) (site_disks was_site) (site_disks it_is.set.site)
        = calls_names d old new name s before after stands it.call it.call.at.set it_is.set it.call.at.is_set it_is.is many (omega arith) in
        let noted_k : NotesConfig k goes.now = record { is = goes.noted_now.is; spells = goes.noted_now.spells } in
        let plain : rvg_noted next ≡ None =
        rvg_goes note next goes.was goes.now goes.noted goes.noted_now goes.change.moves.parts.rvg ∙ plain_were d old new name s before after stands it.call in
        let f : SiteFacts = with_table (kinds_by goes.now.rvg goes.now.volumes) (fact_of_group (d.world.nodes s) (note_at (d.world.nodes s))) in
        turned_leads d (Volume name volume blocks mirrors layout log map_of policy) old new name s before after stands it Done (calls s old new many) k it_is.set it_is.is up (stand_as (with_maps go.maps next) k it_is.set.site refl refl refl go.stands) plain it_is.holds.1.same.cut f
        (seen_up k goes.now noted_k (sym (ap (λ (o : Option Config). config_rvg o) (notes_config next goes.now goes.noted_now)) ∙ plain))
        (facts goes.now (subst (λ (x : DiskSet R g). AtSite (λ e. site_config e ≡ Some goes.now) x) (sym it_is.is) (config_now goes.now (with_note k n) k it_is.set.site up goes.has))) load
        (GroupDone k (calls_are d old new name s before after stands it.call many)
        (does many (calls s old new many) next it_is.set.site vol goes.was goes.now names goes.noted goes.noted_now (omega arith) (omega arith) goes.change it_is.holds.1 go.maps go.by, refl) (it.is_line.done k))
        (calls_all d old new name s before after stands it.call many)
      where
        seen_up : (k : GroupNode) (c : Config) → NotesConfig k c → c.rvg ≡ None → with_table (kinds_by c.rvg c.volumes) (fact_of_group (d.world.nodes s) (note_at (d.world.nodes s))) ≡ fact_of_group (with_note k (d.world.nodes s)) k
        seen_up k c noted none =
            ap (λ (vs : List VolumeFacts). with_table vs (fact_of_group (d.world.nodes s) (note_at (d.world.nodes s))))
            (ap (λ (u : Option Units). kinds_by u c.volumes) none ∙ sym (notes_table k c noted))

    -- memory ran out, and nothing was
    pub volume_stays : OnSites (λ o e. SiteAdded n note volume want o e (Err MemoryStop)) before after → OnSites (λ o e. AddedMapped o e (Err MemoryStop)) before after → new.facts.items ≡ old.facts.items → SameLoad old new → StaysFor d old new
    volume_stays on maps facts load =
        let it_is : SetThen (λ e. UpNoted n note e) after = sets_then (λ o e. SiteAdded n note volume want o e (Err MemoryStop)) before after it.call.at.set it.call.at.is_set on in
        let up : UpNoted n note it_is.set.site = it_is.holds in
        let stays : UpMaps MapsLike was_site it_is.set.site × StaysMapped was_site it_is.set.site
        = on_both (λ o e. AddedMapped o e (Err MemoryStop)) before after it.call.at.set it_is.set it.call.at.is_set it_is.is maps in
        let uncut : cut_value it_is.set.cut ≡ None
        = ap (λ (x : DiskSet R g). cut_in x) (sym it_is.is) ∙ it.cut ∙ ap (λ (x : DiskSet R g). cut_in x) it.call.at.is_set ∙ set_uncut d old new name s before after stands it.call it.up in
        let failing : FailsAs n (OfGroup it_is.set)
        = subst (λ (x : DiskSet R g). FailsAs n x) it_is.is (fails_then n n before after refl it.call.failing (stands.failing s before it.call.at.below it.call.changed.there)) in
        let left : FusedAs (record n { fuse = burned n.fuse }) (OfGroup it_is.set)
        = fused_since n (record n { fuse = burned n.fuse }) it.call.at.set it_is.set refl (since_at before after it.call.at.set it_is.set it.call.at.is_set it_is.is it.since) (site_up n note it_is.set.site up)
        (subst (λ (x : DiskSet R g). FusedAs n x) it.call.at.is_set (stands.fuses s before it.call.at.below it.call.changed.there)) in
        let follows = follows_on d d s n note (fact_of_group n note) old new before it_is.set stands it.call.at.below (subst (λ (x : DiskSet R g). Changed old new s before x) it_is.is it.call.changed)
        (begins_at d old name s before stands it.call.at) (up_notes n note it_is.set.site up).0
        (up_set n note it_is.set (sized_of (beside_of d s) n it.call.at.set it.call.at.stands) up (stays.1 note (maps_were d old new name s before after stands it.call)) (plain_were d old new name s before after stands it.call) uncut (note_uncut d old new name s before after stands it.call it.up)) failing
        (record { told = λ x at. unburned n.fuse x.fuse (left.told x at) }) refl (facts ∙ sym (set_same old.facts.items s (fact_of_group n note) it.call.at.fact)) load in
        record { stands = follows.stands; carries = follows.carries; rose = calls_none d old new name s before after stands it.call }

    module _ (mid : Yard R g) (half : Midway old mid) (result : Result Said OutOfMemory) (is_up : UpNoted (d.world.nodes s) (note_at (d.world.nodes s)) it.call.at.set.site)
        (free : find (λ (v : VolumeFacts). bytes_eq v.name volume) (noted_table (note_at (d.world.nodes s))) ≡ None) (few : length (noted_table (note_at (d.world.nodes s))) < MOST_VOLUMES) (plexes : mirrors ≤ MOST_PLEXES)
        (shape : is_volume_shape blocks mirrors layout ≡ true) where
      volume_wants : (e : GroupSite R g) → UpNoted n note e → StandMaps note e → (why : No) → LacksVolume e volume want why → GroupWants note (Volume name volume blocks mirrors layout log map_of policy) why
      volume_wants (SiteUp group) up maps why (inl is) =
          let c : Config = group.core.inner.config in
          let noted : NotesConfig note c = record { is = up.at.lies.config; spells = up.spells } in
          let table : noted_table note ≡ map plain_fact c.volumes = notes_table note c noted in
          let named : list_any (has_name volume) c.volumes ≡ false
          = none_named volume c.volumes (ap (λ (fs : List VolumeFacts). find (λ (v : VolumeFacts). bytes_eq v.name volume) fs) (sym table) ∙ free) in
          let count : length (noted_table note) ≡ length c.volumes = ap (λ (fs : List VolumeFacts). length fs) table ∙ length-map c.volumes plain_fact in
          let mirrored : want.mirrors ≡ mirrors = ap (λ (w : Shape). w.mirrors) is_want in
          let fits : is_shape want ≡ true = ap is_shape is_want ∙ shape_fits blocks mirrors layout log map_of policy shape in
          let limit = volume_why c volume want why named (omega (arith, few, count)) (omega (arith, plexes, mirrored)) fits is in
          subst (λ (w : No). GroupWants note (Volume name volume blocks mirrors layout log map_of policy) w) (sym limit.0) (tt, refl, lacks_by note c.serial (serial_noted note group maps) limit.1)
      volume_wants (SiteUp group) up maps why (inr room) =
          room_wants note group.core.inner.config (record { is = up.at.lies.config; spells = up.spells }) name volume blocks mirrors layout log map_of policy want is_want why room.1
      volume_wants (SiteAway idle) up maps why lacks = absurd up
      volume_wants (SiteDown idle) up maps why lacks = absurd up
      volume_wants (Marked rack) up maps why lacks = absurd up
      volume_wants SiteGone up maps why lacks = absurd up

      pub volume_stopped : (stop : Stop) → OnSites (λ o e. SiteAdded n note volume want o e (Err stop)) before after → OnSites (λ o e. AddedMapped o e (Err stop)) before after
          → reply_noted s (fact_of_group (d.world.nodes s) (note_at (d.world.nodes s))) stop mid new result → LeadsOverIs d (Volume name volume blocks mirrors layout log map_of policy) old new result
      volume_stopped (StopsBy why) on maps refusal =
          refused_leads d (Volume name volume blocks mirrors layout log map_of policy) old new name s before after stands it mid half result ℕ false (λ o e c x. ⊥) (λ o e. LosesSome o e) (λ o e. LosesSome o e) MapsLike (λ o which. LacksVolume o volume want which)
          (record {
            ends = λ many fails o e next was now names noted noted_now enough logs change keeps w by.
                with_goes (Reconfigures (λ c x. ConfigLoses s fails c x) (NoteUnsettles false)) (MapsCalled s fails) note next was now w noted noted_now
                (reconfigures s many fails o e note next names (λ c x. ConfigLoses s fails c x) (λ a b. NoteUnsettles false a b) was now noted noted_now (moves_to s many fails o e note next names none_again was now enough change) keeps)
                (like_named s many fails o e names was now (λ u k. logs_low was many u k logs) note.maps w by);
          })
          (record {
            ends = λ many fails o e next was now names noted noted_now enough logs change keeps w by.
                with_goes (Reconfigures (λ c x. ConfigLoses s fails c x) (NoteUnsettles false)) MapsLost note next was now w noted noted_now
                (reconfigures s many fails o e note next names (λ c x. ConfigLoses s fails c x) (λ a b. NoteUnsettles false a b) was now noted noted_now (moves_to s many fails o e note next names none_again was now enough change) keeps)
                (record { none = by.none });
          })
          (record { same = λ many o e t fails next was now names noted noted_now change. moves_table t many fails o e note next names none_again was now noted noted_now change; rvg = λ o e next was now noted noted_now change. rvg_goes note next was now noted noted_now change.parts.rvg })
          (record { same = λ many o e t fails next was now names noted noted_now change. moves_table t many fails o e note next names none_again was now noted noted_now change; rvg = λ o e next was now noted noted_now change. rvg_goes note next was now noted noted_now change.parts.rvg })
          (λ which lacks. volume_wants it.call.at.set.site is_up (maps_were d old new name s before after stands it.call) which lacks) why on maps refusal
      volume_stopped MemoryStop on maps refusal =
          subst (λ (x : Result Said OutOfMemory). LeadsOverIs d (Volume name volume blocks mirrors layout log map_of policy) old new x) (sym refusal.1)
          (volume_stays on maps (ap (λ (y : Yard R g). y.facts.items) refusal.0 ∙ half.facts) (subst (λ (y : Yard R g). SameLoad old y) (sym refusal.0) half.load))
