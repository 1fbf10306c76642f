-- What a write leads a yard to whose volume is one of the group below a replicated volume group, and none of its data volumes: it ends as one of the group alone. What
-- plexes missed is not noted there, so that nothing is said of their maps.
use Rattle.std.proofs.Common.{◌≡◌, ◌∙◌, ◌+◌, ◌*◌, ◌≤◌, ℕ, Bool, true, false, List, length, map, ap, sym, subst, refl, arith}
use Rattle.std.specs.List.{position}
use Rattle.std.specs.Str.{bytes_eq}
use Rattle.std.specs.Prelude.{◌&&◌, Option, Some, None, Result, Ok, Err, if◌then◌else◌, slice_get, slice_set, unwrap_or}
use Rattle.vx_model.specs.Content.{Content, Write}
use Rattle.vx_model.specs.declared.no.No.{No}
use Rattle.vx_model.specs.declared.no.No.TheVariants.{Device, Down as IsOff}
use Rattle.vx_model.specs.declared.units.Units.{Units}
use Rattle.vx_disk.specs.Shelf.{Meaning}
use Rattle.vx_disk.specs.declared.shelf.Shelf.{Ghosts}
use Rattle.vx_config.specs.declared.config.Config.{Config}
use Rattle.vx_config.specs.declared.entry.VolumeEntry.{VolumeEntry}
use Rattle.vx_kept.specs.Cleans.{at_serial}
use Rattle.vx_history.specs.Doubts.{Doubted}
use Rattle.vx_history.specs.Groups.{GroupNode, NoteSettles, NoteUnsettles, note_cut, note_doubt, note_write}
use Rattle.vx_history.specs.MapChanges.{InNoVolume, InVolume, StayKnown}
use Rattle.vx_history.specs.Missing.{no_maps, this_volume, with_maps}
use Rattle.vx_history.specs.Steps.{burned, crashed}
use Rattle.vx_history.specs.World.{Node}
use Rattle.vx_order.specs.Calls.{is_data}
use Rattle.vx_order.specs.declared.facts.SiteFacts.{SiteFacts}
use Rattle.vx_order.specs.declared.facts.VolumeFacts.{VolumeFacts}
use Rattle.vx_order.specs.declared.facts.VolumeKind.TheVariants.{Plain}
use Rattle.vx_script.specs.declared.line.ScriptLine.{ScriptLine}
use Rattle.vx_script.specs.declared.line.ScriptLine.TheVariants.{Put as PutLine, Write as WriteLine}
use Rattle.vx_effects.specs.Facts.{down_fact}
use Rattle.vx_grouped.specs.ConfigMoves.{LosesSome, none_again}
use Rattle.vx_grouped.specs.Ends.{plain_write}
use Rattle.vx_grouped.specs.GroupSites.{DownNoted, FitsPlain, UpNoted, site_disks, with_note}
use Rattle.vx_grouped.specs.SiteEnds.{ConfigGoes}
use Rattle.vx_diskset.proofs.NotedLikes.{same_size}
use Rattle.vx_diskset.specs.Aboves.{IsOutside, IsOutsideOf, above_in, above_site, site_in}
use Rattle.vx_diskset.specs.Asked.{SameFailing}
use Rattle.vx_diskset.specs.GroupCalls.{CalledOn}
use Rattle.vx_diskset.specs.GroupSets.{cut_behind, cut_value}
use Rattle.vx_diskset.specs.Holds.{KeptBeside, beside_of}
use Rattle.vx_diskset.specs.Layouts.{units_of}
use Rattle.vx_diskset.specs.Noted.{RestsNamed, below_rvg}
use Rattle.vx_diskset.specs.OverPlains.{OnOver}
use Rattle.vx_diskset.specs.OverWrites.{WritesBelow, WroteBelow}
use Rattle.vx_diskset.specs.Stands.{OverStands, faults_at}
use Rattle.vx_diskset.specs.declared.disk_set.DiskSet.{DiskSet}
use Rattle.vx_diskset.specs.declared.over_set.OverSet.{OverSet}
use Rattle.vx_diskset.specs.declared.over_set.OverSite.{OverSite}
use Rattle.vx_diskset.specs.declared.over_set.OverSite.TheVariants.{Origin as OriginSite, Receiver as ReceiverSite, Deported as GroupAway, Down as GroupFell, Gone as NoGroup}
use Rattle.vx_events.proofs.DataNamed.{SpanTests, put_tests, write_tests}
use Rattle.vx_events.proofs.OtherKinds.{IsOtherPlace, other_number, plain_written}
use Rattle.vx_events.proofs.Places.{some_same}
use Rattle.vx_events.proofs.Refused.{Named}
use Rattle.vx_events.proofs.RefusedCalls.{CallMay}
use Rattle.vx_events.proofs.RvgMissed.{missed_node, missed_note}
use Rattle.vx_events.proofs.RvgStays.{then_same}
use Rattle.vx_events.specs.Facts.{place_of, seat_of, site_number, volume_fact}
use Rattle.vx_events.specs.Fails.{Fails}
use Rattle.vx_events.specs.GroupConfigs.{ConfigLoses}
use Rattle.vx_events.specs.GroupEnds.{AreOf}
use Rattle.vx_events.specs.GroupLines.{plain_number}
use Rattle.vx_events.specs.GroupMaps.{FailedIn, MapsLost, MapsOfDoubt, MapsOfWrite, map_disk}
use Rattle.vx_events.specs.GroupNotes.{Reconfigures, note_at}
use Rattle.vx_events.specs.GroupViews.{noted_table}
use Rattle.vx_events.specs.LinkedFacts.{linked_fact}
use Rattle.vx_events.specs.RvgFits.{NoteKeepsRvg, config_rvg, entries_noted, rvg_noted}
use Rattle.vx_events.specs.RvgOver.{AsGroup, BelowEnds, EndsWrite, OverRvg, fact_kind, kind_named, missed_world, note_loosened}
use Rattle.vx_events.specs.RvgSteps.{over_rvg_at, rvg_place}
use Rattle.vx_events.specs.RvgViews.{is_over_rvg, over_table, table_at}
use Rattle.vx_events.specs.declared.said.Said.{Said}
use Rattle.vx_events.specs.declared.said.Said.TheVariants.{Done, Refused}
use Rattle.vx_yard.proofs.Carrying.{LetsGo, LetsGoBy, SameLoad}
use Rattle.vx_yard.proofs.Lists.{set_same}
use Rattle.vx_yard.proofs.NamedSite.{fact_named, place_at}
use Rattle.vx_yard.proofs.OneSite.{Changed}
use Rattle.vx_yard.proofs.Rows.{fact_from, fact_like}
use Rattle.vx_yard.specs.AboveLines.{LeadsAbove}
use Rattle.vx_yard.specs.Standing.{StandsFor}
use Rattle.vx_yard.specs.Stands.{RoseAll}
use Rattle.vx_yard.specs.Working.{IsFree}
use Rattle.vx_yard.specs.Writes.{IsWriteLine, below_facts}
use Rattle.vx_yard.specs.Writes.IsWriteLine.{OfPut, OfWrite}
use Rattle.vx_yard.specs.Yards.{IsTold, count_of, in_files}
use Rattle.vx_yard.specs.declared.yard.Yard.{Yard}
use Rattle.vx_above.proofs.Changing.{moves_table, moves_to, reconfigures}
use Rattle.vx_above.proofs.Fails.{calls_of}
use Rattle.vx_above.proofs.Losing.{Names}
use Rattle.vx_above.proofs.OverSeen.{seen_like}
use Rattle.vx_above.proofs.OverSites.{over_again}
use Rattle.vx_above.proofs.SiteCalls.{calls, names_below, rose_below}
use Rattle.vx_above.proofs.Tables.{table_like}
use Rattle.vx_group_lines.proofs.BelowAt.{BelowAt, BelowCall, below_at, below_call}
use Rattle.vx_group_lines.proofs.BelowDone.{LeadsBelow, leads_above, loosened_world, never_on, seen_keeps, tight_then}
use Rattle.vx_group_lines.proofs.BelowMissed.{missed_carries, missed_site, missed_stands}
use Rattle.vx_group_lines.proofs.BelowOff.{FollowsOff, crash_kept, fell_by, world_kept}
use Rattle.vx_group_lines.proofs.BelowUp.{BelowAs, NotesStill, OverBehind, follows_by, overs_behind}
use Rattle.vx_group_lines.proofs.GroupEnding.{world_up}
use Rattle.vx_group_lines.proofs.GroupLeads.{Follows}
use Rattle.vx_group_lines.proofs.GroupWrite.{done_ends, fails_ends, under_ends}
use Rattle.vx_group_lines.proofs.MapGoing.{with_goes}
use Rattle.vx_group_lines.proofs.Plains.{rvg_goes}
use Rattle.vx_group_lines.specs.Noting.{HasConfig, number_in}

-- ---- no maps are noted

void : {A : Type 0} → false ≡ true → A
void e = absurd (cc)

and_off : (b : Bool) → (b && false) ≡ false
and_off true = refl
and_off false = refl

stays_void : (Failed Lost Begins : ℕ → Type 0) (disk : ℕ → Option ℕ) → StayKnown Failed Lost Begins disk no_maps no_maps
stays_void Failed Lost Begins disk = record { stays = λ v on. void on; begins = λ v on. void on; later = omega arith }

write_void : (s : ℕ) (fails : Fails) (x : Write) (c d : Config) → MapsOfWrite s fails x c d no_maps no_maps
write_void s fails x c d = record {
  known = stays_void (FailedIn s fails) InNoVolume (InVolume x.volume) (map_disk c);
  written = record { missed = λ v p r on. void on; perhaps = λ v p r on. void on; doubt = λ v low. refl };
}

doubt_void : (s : ℕ) (fails : Fails) (x : Write) (c d : Config) → MapsOfDoubt s fails x c d no_maps no_maps
doubt_void s fails x c d = record {
  known = stays_void (FailedIn s fails) InNoVolume (InVolume x.volume) (map_disk c);
  failed = record { fell = false; missed = λ v p r on. void on; perhaps = λ v p r on may. void on; doubt = λ v. sym (and_off (this_volume x.volume v)) };
}

-- ---- the line, by its words

write_turns : (told : Type 0) (d : Doubted) (line : ScriptLine) (name volume : List ℕ) (start : ℕ) (bytes : List ℕ) (s : ℕ) (said : Said) → IsWriteLine line name volume start bytes → is_data (kind_named (d.world.nodes s) volume) ≡ false
    → (fails : Fails) (next : Doubted) → BelowEnds told d line s fails said next → OverRvg told d line s fails said next
write_turns told d line name volume start bytes s said (OfWrite count fill is filled) kind fails next ends =
    subst (λ (l : ScriptLine). OverRvg told d l s fails said next) (sym is)
    (subst (λ (b : Bool). EndsWrite b told d (WriteLine name volume start count fill) s fails said next) (sym kind) (subst (λ (l : ScriptLine). BelowEnds told d l s fails said next) is ends))
write_turns told d line name volume start bytes s said (OfPut is one) kind fails next ends =
    subst (λ (l : ScriptLine). OverRvg told d l s fails said next) (sym is)
    (subst (λ (b : Bool). EndsWrite b told d (PutLine name volume start bytes) s fails said next) (sym kind) (subst (λ (l : ScriptLine). BelowEnds told d l s fails said next) is ends))

write_seat : (d : Doubted) (line : ScriptLine) (name volume : List ℕ) (start : ℕ) (bytes : List ℕ) → IsWriteLine line name volume start bytes → rvg_place d.world line ≡ site_number d.world name
write_seat d line name volume start bytes (OfWrite count fill is filled) = ap (λ (l : ScriptLine). rvg_place d.world l) is
write_seat d line name volume start bytes (OfPut is one) = ap (λ (l : ScriptLine). rvg_place d.world l) is

-- ---- the write

module _ {R : Type 0} {g : Ghosts R} where
  -- the call of such a line on the group, in a world in which no maps are noted
  pub record WriteCall (d : Doubted) (old new : Yard R g) (name volume : List ℕ) (start : ℕ) (bytes : List ℕ) (s place : ℕ) (before after : DiskSet R g) (p : OverSet R g) : Type 0 where
    pub called : BelowAs d old new name s before after p
    pub asks : UpNoted (below_rvg (d.world.nodes s)) (note_at (d.world.nodes s)) (site_in called.at.set)
    pub fits : FitsPlain (note_at (d.world.nodes s)) place start (length bytes)
    pub number : plain_number (note_at (d.world.nodes s)) volume ≡ place
    pub none : (note_at (d.world.nodes s)).maps ≡ no_maps

  module _ (d : Doubted) (old new : Yard R g) (line : ScriptLine) (name volume : List ℕ) (start : ℕ) (bytes : List ℕ) (s place : ℕ) (before after : DiskSet R g) (p : OverSet R g) (stands : StandsFor d old) (is : IsWriteLine line name volume start bytes)
      (call : WriteCall d old new name volume start bytes s place before after p) where
    abbrev n : Node
    n = d.world.nodes s

    abbrev note : GroupNode
    note = note_at (d.world.nodes s)

    abbrev x : Write
    x = plain_write place start bytes

    abbrev o : Meaning
    o = site_disks (site_in call.called.at.set)

    abbrev e : Meaning
    e = site_disks (site_in p)

    abbrev f : SiteFacts
    f = linked_fact d.world s

    abbrev fails : ℕ → Fails
    fails many = calls s old new many

    names : (many : ℕ) → (site_disks (site_in call.called.at.set)).units ≤ many → Names s many (calls s old new many) (site_disks (site_in call.called.at.set)) (site_disks (site_in p))
    names many enough =
        names_below old new s before after call.called.changed o e (λ j. ap (λ (z : DiskSet R g). faults_at z j) call.called.at.is_set) (λ j. ap (λ (z : DiskSet R g). faults_at z j) call.called.is) many enough

    are : (many : ℕ) → AreOf s (calls s old new many)
    are many = calls_of s (count_of old s) (count_of new s) many

    rises : (many : ℕ) → RoseAll (calls s old new many) (count_of old) (count_of new)
    rises many = rose_below old new s before after call.called.changed many

    -- none was cut before it
    clear : (note_at (d.world.nodes s)).cut ≡ None
    clear = let rests = call.called.at.named.6 in rests.0 call.called.up

    -- a configuration as one is noted
    abbrev at_was : Config → Config
    at_was c = at_serial 0 c

    -- ---- the configuration that it leaves

    module _ (middle : GroupNode) (goes : ConfigGoes (LosesSome (site_disks (site_in call.called.at.set)) (site_disks (site_in p))) (note_at (d.world.nodes s)) middle (site_in call.called.at.set) (site_in p)) where
      moves : (Keeps : GroupNode → GroupNode → Type 0) → Keeps (note_at (d.world.nodes s)) middle → (many : ℕ) → (site_disks (site_in call.called.at.set)).units ≤ many → length goes.was.disks ≤ many
          → Reconfigures (ConfigLoses s (calls s old new many)) Keeps (note_at (d.world.nodes s)) middle
      moves Keeps keeps many units enough =
          let named : Names s many (calls s old new many) o e = names many units in
          reconfigures s many (fails many) o e note middle named (ConfigLoses s (fails many)) Keeps goes.was goes.now goes.noted goes.noted_now
          (moves_to s many (fails many) o e note middle named none_again goes.was goes.now enough goes.change) keeps

      rvg_same : rvg_noted middle ≡ rvg_noted (note_at (d.world.nodes s))
      rvg_same = rvg_goes note middle goes.was goes.now goes.noted goes.noted_now goes.change.parts.rvg

      shows : noted_table middle ≡ noted_table (note_at (d.world.nodes s))
      shows =
          let many : ℕ = (site_disks (site_in call.called.at.set)).units in
          let named : Names s many (calls s old new many) o e = names many (omega arith) in
          moves_table s many (fails many) o e note middle named none_again goes.was goes.now goes.noted goes.noted_now goes.change

      keeps_rvg : NoteKeepsRvg (note_at (d.world.nodes s)) middle
      keeps_rvg = seen_keeps note middle goes.was goes.now goes.noted goes.noted_now shows rvg_same

    -- the tests see the same of a site with this note of its group
    seen : (k : GroupNode) → over_table (with_note k (d.world.nodes s)) k ≡ over_table (d.world.nodes s) (note_at (d.world.nodes s)) → linked_fact d.world s ≡ fact_from (with_note k (d.world.nodes s)) (d.world.links s) d.world.sites
    seen k table = sym (fact_like n (with_note k n) (d.world.links s) d.world.sites (seen_like n k (burned n.fuse) call.called.at.over (over_again n (with_note k n) k call.called.at.over refl refl) table) (λ j l. refl))

    -- ---- done

    pub wrote_done : WroteBelow (below_rvg (d.world.nodes s)) (note_at (d.world.nodes s)) (plain_write place start bytes) (site_in call.called.at.set) (site_in p) (Ok tt) → cut_value p.cut ≡ cut_value call.called.at.set.cut
        → new.facts.items ≡ old.facts.items → SameLoad old new → LeadsBelow d line s Done old new
    wrote_done wrote cut facts load =
        let middle : GroupNode = wrote.0 in
        let settles : NoteSettles note middle = wrote.1 in
        let goes : ConfigGoes (LosesSome o e) note middle (site_in call.called.at.set) (site_in p) = wrote.3 in
        let k : GroupNode = note_write x middle in
        let many : ℕ = (site_disks (site_in call.called.at.set)).units + length goes.was.disks in
        let table : over_table (with_note k n) k ≡ over_table n note = table_like n (with_note k n) note k refl (rvg_same middle goes) (shows middle goes) in
        let notes : NotesStill note k = record { keeps = then_same note middle k (keeps_rvg middle goes) refl; tidy = tight_then note middle call.called.at.noted.3.tidy settles; inside = settles.same.inside } in
        let follows : Follows d (world_up d s k) old new =
        follows_by d old new name s before after p stands call.called k wrote.2 notes (cut ∙ call.called.at.noted.1 ∙ sym settles.same.cut) (settles.same.cut ∙ clear) f (seen k table)
        (facts ∙ sym (set_same old.facts.items s f call.called.at.seat.fact)) load in
        record {
          next = world_up d s k;
          middle = world_up d s k;
          fails = fails many;
          ends = AsGroup (done_ends (IsTold new) d (world_up d s k) line name volume start bytes s place (fails many) k is call.number (are many)
              (record {
                middle = with_maps no_maps middle;
                moves = with_goes (Reconfigures (ConfigLoses s (fails many)) NoteSettles) (MapsOfWrite s (fails many) x) note middle goes.was goes.now no_maps goes.noted goes.noted_now (moves middle goes NoteSettles settles many (omega arith) (omega arith))
                    (subst (λ w. MapsOfWrite s (fails many) x (at_was goes.was) (at_was goes.now) w no_maps) (sym call.none) (write_void s (fails many) x (at_was goes.was) (at_was goes.now)));
                is = ap (λ w. note_write x (with_maps w middle)) (settles.same.maps ∙ call.none);
              })
              (record { world = refl; after = λ i. refl; strayed = refl }));
          loosens = false;
          why = λ on none never. never_on refl on;
          left = record { world = sym (loosened_world false d.world s k); after = λ i. refl; strayed = refl };
          stands = follows.stands;
          carries = follows.carries;
          rose = rises many;
        }

    -- ---- a disk failed

    wrote_fails : (disk : ℕ) → WroteBelow (below_rvg (d.world.nodes s)) (note_at (d.world.nodes s)) (plain_write place start bytes) (site_in call.called.at.set) (site_in p) (Err (Device disk)) → cut_value p.cut ≡ cut_value call.called.at.set.cut
        → new.facts.items ≡ slice_set old.facts.items s (linked_fact d.world s) → SameLoad old new → LeadsBelow d line s (Refused (Device disk)) old new
    wrote_fails disk wrote cut facts load =
        let middle : GroupNode = wrote.0 in
        let loosens : Bool = wrote.1 in
        let unsettles : NoteUnsettles false note middle = wrote.2 in
        let goes : ConfigGoes (LosesSome o e) note middle (site_in call.called.at.set) (site_in p) = wrote.6 in
        let k : GroupNode = note_doubt x middle in
        let l : GroupNode = note_loosened loosens k in
        let many : ℕ = (site_disks (site_in call.called.at.set)).units + length goes.was.disks + disk + 1 in
        let named : Names s many (calls s old new many) o e = names many (omega arith) in
        let table : over_table (with_note l n) l ≡ over_table n note = table_like n (with_note l n) note l refl (rvg_same middle goes) (shows middle goes) in
        let notes : NotesStill note l = record { keeps = then_same note middle l (keeps_rvg middle goes) refl; tidy = wrote.3; inside = unsettles.same.inside } in
        let follows : Follows d (world_up d s l) old new =
        follows_by d old new name s before after p stands call.called l wrote.4 notes (cut ∙ call.called.at.noted.1 ∙ sym unsettles.same.cut) (unsettles.same.cut ∙ clear) f (seen l table) facts load in
        record {
          next = world_up d s l;
          middle = world_up d s k;
          fails = fails many;
          ends = AsGroup (fails_ends (IsTold new) d (world_up d s k) line name volume start bytes s place (fails many) k is call.number (are many) disk (named.each disk (omega arith) wrote.5)
              (record {
                middle = with_maps no_maps middle;
                moves = with_goes (Reconfigures (ConfigLoses s (fails many)) (NoteUnsettles false)) (MapsOfDoubt s (fails many) x) note middle goes.was goes.now no_maps goes.noted goes.noted_now
                    (moves middle goes (NoteUnsettles false) unsettles many (omega arith) (omega arith))
                    (subst (λ w. MapsOfDoubt s (fails many) x (at_was goes.was) (at_was goes.now) w no_maps) (sym call.none) (doubt_void s (fails many) x (at_was goes.was) (at_was goes.now)));
                is = ap (λ w. note_doubt x (with_maps w middle)) (unsettles.same.maps ∙ call.none);
              })
              (record { world = refl; after = λ i. refl; strayed = refl }));
          loosens = loosens;
          why = λ on none never. none disk (named.each disk (omega arith) wrote.5);
          left = record { world = sym (loosened_world loosens d.world s k); after = λ i. refl; strayed = refl };
          stands = follows.stands;
          carries = follows.carries;
          rose = rises many;
        }

    -- ---- the fuse ran out in it

    wrote_off : WroteBelow (below_rvg (d.world.nodes s)) (note_at (d.world.nodes s)) (plain_write place start bytes) (site_in call.called.at.set) (site_in p) (Err IsOff) → cut_value p.cut ≡ Some (plain_write place start bytes)
        → ((units : Units) (count : ℕ) (m : Node) (left : GroupNode) → DownNoted m left (site_in p) → RestsNamed units count (site_in p)) → new.facts.items ≡ slice_set old.facts.items s (down_fact (linked_fact d.world s)) → LetsGo old new s → LeadsBelow d line s (Refused IsOff) old new
    wrote_off wrote cut rests facts lets =
        let middle : GroupNode = wrote.0 in
        let unsettles : NoteUnsettles false note middle = wrote.1 in
        let goes : ConfigGoes (LosesSome o e) note middle (site_in call.called.at.set) (site_in p) = wrote.4 in
        let k : GroupNode = note_cut x middle in
        let l : GroupNode = note_loosened true k in
        let many : ℕ = (site_disks (site_in call.called.at.set)).units + length goes.was.disks in
        let table : over_table (with_note l n) l ≡ over_table n note = table_like n (with_note l n) note l refl (rvg_same middle goes) (shows middle goes) in
        let notes : NotesStill note l = record { keeps = then_same note middle l (keeps_rvg middle goes) refl; tidy = λ tight. void (sym tight); inside = unsettles.same.inside } in
        let fits : FitsPlain l place start (length bytes) = same_size note l x (λ v low. ap (λ (c : Content). c.size v) unsettles.same.bytes) call.fits in
        let fell : FollowsOff d s l old new =
        fell_by d old new name s before after p stands call.called l wrote.2 notes cut
        (λ y there. subst (λ (z : Write). FitsPlain l z.volume z.start (length z.bytes)) (some_same there) fits) (λ units named. rests units (length (entries_noted l)) (crashed (with_note l (below_rvg n)) 0) l wrote.2) table facts lets in
        record {
          next = world_kept d s fell.count l;
          middle = world_kept d s fell.count k;
          fails = fails many;
          ends = under_ends (IsTold new) d (world_kept d s fell.count k) line name volume start bytes s place (fails many) k is call.number (are many) fell.count wrote.3
              (record {
                middle = with_maps no_maps middle;
                moves = with_goes (Reconfigures (ConfigLoses s (fails many)) (NoteUnsettles false)) MapsLost note middle goes.was goes.now no_maps goes.noted goes.noted_now
                    (moves middle goes (NoteUnsettles false) unsettles many (omega arith) (omega arith)) (record { none = λ v. refl });
                is = ap (λ w. note_cut x (with_maps w middle)) (unsettles.same.maps ∙ call.none);
              })
              (record { world = refl; after = λ i. refl; strayed = refl });
          loosens = true;
          why = λ on none never. never (wrote.3, refl);
          left = record { world = sym (loosened_world true (crash_kept d s fell.count).world s k); after = λ i. refl; strayed = refl };
          stands = fell.follows.stands;
          carries = fell.follows.carries;
          rose = rises many;
        }

    pub wrote_stops : (no : No) → WroteBelow (below_rvg (d.world.nodes s)) (note_at (d.world.nodes s)) (plain_write place start bytes) (site_in call.called.at.set) (site_in p) (Err no)
        → cut_value p.cut ≡ cut_behind {T = Unit {0}} (Err no) (plain_write place start bytes) (cut_value call.called.at.set.cut) → ((units : Units) (count : ℕ) (m : Node) (left : GroupNode) → DownNoted m left (site_in p) → RestsNamed units count (site_in p))
        → new.facts.items ≡ slice_set old.facts.items s (below_facts no (linked_fact d.world s)) → LetsGoBy no old new s → LeadsBelow d line s (Refused no) old new
    wrote_stops (Device disk) wrote cut rests facts lets = wrote_fails disk wrote cut facts (record { flight = lets.flight; assemblies = lets.assemblies; feeders = lets.feeders })
    wrote_stops IsOff wrote cut rests facts lets = wrote_off wrote cut rests facts (record { flight = lets.flight; assemblies = lets.assemblies; feeders = lets.feeders })
    wrote_stops other wrote cut rests facts lets = absurd wrote

  -- ---- the volume is none of those of the replicated volume group

  outside_site : (beside : KeptBeside) (n : Node) (s : OverSite R g) (units : Units) (place : ℕ) → OverStands beside n s → units_of n ≡ units → IsOtherPlace units place → IsOutside place (above_site s)
  outside_site beside n (OriginSite f) units place it same other = subst (λ (u : Units). IsOutsideOf u place) (sym (it.units ∙ same)) (record { log = other.log; maps = other.maps; vols = other.vols })
  outside_site beside n (ReceiverSite f) units place it same other = subst (λ (u : Units). IsOutsideOf u place) (sym (it.units ∙ same)) (record { log = other.log; maps = other.maps; vols = other.vols })
  outside_site beside n (GroupAway idle) units place it same other = tt
  outside_site beside n (GroupFell idle) units place it same other = tt
  outside_site beside n NoGroup units place it same other = absurd it

  -- the tests of the volume of the line
  span_tests : (y : Yard R g) (line : ScriptLine) (name volume : List ℕ) (start : ℕ) (bytes : List ℕ) (n : Named y.facts.items name) (f : SiteFacts) → IsWriteLine line name volume start bytes → IsFree y line → n.facts ≡ f → (count : ℕ) × SpanTests f volume start count
  span_tests y line name volume start bytes n f (OfWrite count fill is filled) free fact = (count, write_tests f y.facts.items (in_files y) name volume start count fill n fact (subst (λ (l : ScriptLine). IsFree y l) is free))
  span_tests y line name volume start bytes n f (OfPut is one) free fact = (1, put_tests f y.facts.items (in_files y) name volume start bytes n fact (subst (λ (l : ScriptLine). IsFree y l) is free))

  outside_of : (d : Doubted) (y : Yard R g) (line : ScriptLine) (name volume : List ℕ) (start : ℕ) (bytes : List ℕ) (count s place : ℕ) (e : DiskSet R g) → IsWriteLine line name volume start bytes → IsFree y line → (may : CallMay y.facts.items name volume start count)
      → seat_of y.facts.items name ≡ Some s → (call : BelowCall d y name volume start count s place e) → IsOutside place (above_in call.at.set)
  outside_of d y line name volume start bytes count s place e is free may seat call =
      let n : Node = d.world.nodes s in
      let tests : (count : ℕ) × SpanTests (linked_fact d.world s) volume start count = span_tests y line name volume start bytes may.site (linked_fact d.world s) is free (fact_named d y name s call.at.seat seat may.site) in
      let kind : call.found.kind ≡ Plain = plain_written d.world s volume start tests.0 call.up tests.1 call.found call.finds call.off in
      let other : (i : ℕ) × (position (λ (v : VolumeEntry). bytes_eq v.name volume) call.at.named.0.volumes ≡ Some i) × IsOtherPlace call.at.named.1 i =
      other_number n volume call.found call.at.named.0 call.at.named.1 call.at.over call.at.named.2 call.at.named.3 call.at.named.4 call.finds call.off kind in
      let here : place ≡ other.0 = call.placed ∙ ap (λ (o : Option ℕ). unwrap_or o 0) other.1 in
      let units : units_of n ≡ call.at.named.1 = some_same (sym call.at.noted.3.named ∙ ap (λ (o : Option Config). config_rvg o) call.at.named.2 ∙ call.at.named.3) in
      outside_site (beside_of d s) n call.at.set.site call.at.named.1 place call.at.stands.1 units (subst (λ (k : ℕ). IsOtherPlace call.at.named.1 k) (sym here) other.2)

-- ---- the line, in the world before it, and in the one in which no maps are noted

module _ {R : Type 0} {g : Ghosts R} where
  module _ (d : Doubted) (old : Yard R g) (name volume : List ℕ) (start count s place : ℕ) (before : DiskSet R g) (stands : StandsFor d old) (seat : seat_of old.facts.items name ≡ Some s) (over : over_rvg_at d.world name ≡ true)
      (plain : is_data (kind_named (d.world.nodes (site_number d.world name)) volume) ≡ false) (may : CallMay old.facts.items name volume start count) (there : slice_get old.disk_sets.items s ≡ Some before)
      (number : (c : Config) → HasConfig s c old → place ≡ number_in c.volumes volume) where
    abbrev node_was : Node
    node_was = d.world.nodes s

    abbrev node_bare : Node
    node_bare = missed_site no_maps (d.world.nodes s)

    at : BelowAt d old name s before
    at = below_at d old name s before stands seat over there

    pub bare_stands : StandsFor (missed_world no_maps d s) old
    bare_stands = missed_stands no_maps d old name s before stands at there

    here : (missed_world no_maps d s).world.nodes s ≡ missed_site no_maps (d.world.nodes s)
    here = missed_node no_maps d s

    bare_number : site_number (missed_world no_maps d s).world name ≡ s
    bare_number = (place_at (missed_world no_maps d s) old name s bare_stands seat).number

    still_over : is_over_rvg (missed_site no_maps (d.world.nodes s)) ≡ true
    still_over = over_again node_was node_bare (with_maps no_maps (note_at node_was)) at.over refl refl

    same_table : table_at (missed_site no_maps (d.world.nodes s)) ≡ table_at (d.world.nodes s)
    same_table =
        ap (λ (b : Bool). if b then over_table node_bare (note_at node_bare) else map volume_fact node_bare.volumes) still_over
        ∙ sym (ap (λ (b : Bool). if b then over_table node_was (note_at node_was) else map volume_fact node_was.volumes) at.over)

    -- the volume is no data volume
    pub plain_here : is_data (kind_named (d.world.nodes s) volume) ≡ false
    plain_here = subst (λ (i : ℕ). is_data (kind_named (d.world.nodes i) volume) ≡ false) (place_at d old name s stands seat).number plain

    bare_over : over_rvg_at (missed_world no_maps d s).world name ≡ true
    bare_over = ap (λ (i : ℕ). is_over_rvg ((missed_world no_maps d s).world.nodes i)) bare_number ∙ ap (λ (k : Node). is_over_rvg k) here ∙ still_over

    bare_plain : is_data (kind_named ((missed_world no_maps d s).world.nodes (site_number (missed_world no_maps d s).world name)) volume) ≡ false
    bare_plain =
        ap (λ (i : ℕ). is_data (kind_named ((missed_world no_maps d s).world.nodes i) volume)) bare_number ∙ ap (λ (k : Node). is_data (kind_named k volume)) here
        ∙ ap (λ (vs : List VolumeFacts). is_data (fact_kind (slice_get vs (unwrap_or (place_of vs volume) 0)))) same_table ∙ plain_here

    pub bare_call : BelowCall (missed_world no_maps d s) old name volume start count s place before
    bare_call = below_call (missed_world no_maps d s) old name volume start count s place before bare_stands seat bare_over bare_plain may there number

    -- what the tests see of the site
    pub bare_fact : slice_get old.facts.items s ≡ Some (linked_fact (missed_world no_maps d s).world s)
    bare_fact = bare_call.at.seat.fact

    bare_none : (note_at ((missed_world no_maps d s).world.nodes s)).maps ≡ no_maps
    bare_none = ap (λ (k : GroupNode). k.maps) (missed_note no_maps d s)

    module _ (new : Yard R g) (line : ScriptLine) (bytes : List ℕ) (after : DiskSet R g) (is : IsWriteLine line name volume start bytes) (free : IsFree old line) (many : length bytes ≡ 512 * count) (changed : Changed old new s before after) (failing : SameFailing before after)
        (since : CalledOn before after) where
      abbrev writes : Result (Unit {0}) No → OverSet R g → OverSet R g → Type 0
      writes r = WritesBelow place start bytes r

      outside : IsOutside place (above_in bare_call.at.set)
      outside = outside_of (missed_world no_maps d s) old line name volume start bytes count s place before is free may seat bare_call

      fits : FitsPlain (note_at ((missed_world no_maps d s).world.nodes s)) place start (length bytes)
      fits = record {
        some = omega (arith, bare_call.some, many);
        whole = omega (arith, many);
        within = omega (arith, bare_call.within, many);
      }

      call_of : (r : Result (Unit {0}) No) (to : OverBehind (WritesBelow place start bytes r bare_call.at.set) after) → WriteCall (missed_world no_maps d s) old new name volume start bytes s place before after to.set
      call_of r to = record {
        called = record {
          at = bare_call.at;
          up = bare_call.up;
          changed = changed;
          failing = failing;
          since = since;
          is = to.is;
          kept = to.holds.kept outside;
        };
        asks = bare_call.asks;
        fits = fits;
        number = bare_call.volume_is;
        none = bare_none;
      }

      above : (said : Said) → LeadsBelow (missed_world no_maps d s) line s said old new → LeadsAbove d line said old new
      above said it =
          leads_above no_maps d line s said old new (missed_carries no_maps d old name s before stands at there) (write_seat d line name volume start bytes is ∙ (place_at d old name s stands seat).number)
          (write_turns (IsTold new) d line name volume start bytes s said is plain_here) it

      pub write_above : (done : Unit {0}) → OnOver (WritesBelow place start bytes (Ok done)) before after → new.facts ≡ old.facts → SameLoad old new → LeadsAbove d line Done old new
      unfolding call_of bare_call
      write_above done wrote facts load =
          let to : OverBehind (WritesBelow place start bytes (Ok done) bare_call.at.set) after = overs_behind (writes (Ok done)) before after bare_call.at.set bare_call.at.is_set wrote in
          above Done (wrote_done (missed_world no_maps d s) old new line name volume start bytes s place before after to.set bare_stands is (call_of (Ok done) to)
          (to.holds.wrote (below_rvg ((missed_world no_maps d s).world.nodes s)) (note_at ((missed_world no_maps d s).world.nodes s)) bare_call.asks fits) to.holds.cut (ap (λ fs. fs.items) facts) load)

      pub stop_above : (no : No) → OnOver (WritesBelow place start bytes (Err no)) before after → new.facts.items ≡ slice_set old.facts.items s (below_facts no (linked_fact (missed_world no_maps d s).world s)) → LetsGoBy no old new s
          → LeadsAbove d line (Refused no) old new
      unfolding call_of bare_call
      stop_above why wrote facts lets =
          let to : OverBehind (WritesBelow place start bytes (Err why) bare_call.at.set) after = overs_behind (writes (Err why)) before after bare_call.at.set bare_call.at.is_set wrote in
          above (Refused why) (wrote_stops (missed_world no_maps d s) old new line name volume start bytes s place before after to.set bare_stands is (call_of (Err why) to) why
          (to.holds.wrote (below_rvg ((missed_world no_maps d s).world.nodes s)) (note_at ((missed_world no_maps d s).world.nodes s)) bare_call.asks fits) to.holds.cut to.holds.named facts lets)
