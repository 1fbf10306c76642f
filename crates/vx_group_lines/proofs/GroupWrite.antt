-- What a write to a volume of a group leads a yard to.
use Rattle.std.proofs.Common.{◌≡◌, ◌∙◌, ◌+◌, ◌*◌, ◌≤◌, ℕ, Bool, true, false, List, length, ap, sym, subst, refl, arith}
use Rattle.std.specs.Prelude.{Option, Some, Ok, Err, Contains, replicate, slice_get, slice_set}
use Rattle.std.proofs.lemmas.List.{length-replicate}
use Rattle.vx_model.specs.Content.{Write, blocks_in}
use Rattle.vx_model.specs.declared.no.No.{No}
use Rattle.vx_model.specs.declared.no.No.TheVariants.{Device, Down as IsOff}
use Rattle.vx_disk.specs.Shelf.{Meaning}
use Rattle.vx_disk.specs.declared.shelf.Shelf.{Ghosts}
use Rattle.vx_history.specs.Doubts.{Doubted, happened}
use Rattle.vx_history.specs.Groups.{GroupNode, NoteSettles, NoteUnsettles, note_cut, note_doubt, note_write}
use Rattle.vx_history.specs.Steps.{worked_on, crashed}
use Rattle.vx_history.specs.Stops.{IsFused}
use Rattle.vx_history.specs.World.{Node, World}
use Rattle.vx_history.specs.declared.event.Event.TheVariants.{Crash as CrashAt}
use Rattle.vx_script.specs.declared.line.ScriptLine.{ScriptLine}
use Rattle.vx_grouped.specs.ConfigMoves.{LosesSome, none_again}
use Rattle.vx_grouped.specs.Ends.{plain_write}
use Rattle.vx_grouped.specs.GroupSites.{FitsPlain, UpNoted, site_disks, with_note, DownNoted}
use Rattle.vx_grouped.specs.SiteEnds.{ConfigGoes, PlainWrote}
use Rattle.vx_diskset.specs.Asked.{FuseGoesOn, FusedAs, SameFailing}
use Rattle.vx_diskset.specs.GroupCalls.{CalledOn, OnSites, cut_in}
use Rattle.vx_diskset.specs.GroupSets.{cut_behind, cut_value}
use Rattle.vx_diskset.specs.Holds.{beside_of}
use Rattle.vx_diskset.specs.declared.disk_set.DiskSet.{DiskSet}
use Rattle.vx_diskset.specs.declared.disk_set.DiskSet.TheVariants.{OfGroup}
use Rattle.vx_diskset.specs.declared.group_set.CutWrite.{CutWrite}
use Rattle.vx_diskset.specs.declared.group_set.GroupSet.{GroupSet}
use Rattle.vx_events.proofs.RefusedCalls.{WriteMay, put_may, write_may}
use Rattle.vx_events.specs.Doubts.{IsAs}
use Rattle.vx_events.specs.Facts.{seat_of, site_number}
use Rattle.vx_events.specs.Fails.{Fails}
use Rattle.vx_events.specs.GroupConfigs.{ConfigLoses}
use Rattle.vx_events.specs.GroupEnds.{AreOf, GroupCut, GroupDone, GroupEnds, GroupFails}
use Rattle.vx_events.specs.GroupLines.{noting, plain_number}
use Rattle.vx_events.specs.GroupNotes.{NotesCut, NotesDoubt, NotesWrite, Reconfigures, note_at}
use Rattle.vx_events.specs.GroupViews.{noted_table}
use Rattle.vx_events.specs.Lists.{crash_count}
use Rattle.vx_events.specs.RvgOver.{CutBelow, EndsBelow}
use Rattle.vx_events.specs.StepsOver.{fact_of_group, group_place, is_for_group, over_group_at}
use Rattle.vx_events.specs.declared.said.Said.{Said}
use Rattle.vx_events.specs.declared.said.Said.TheVariants.{Done, Refused}
use Rattle.vx_yard.proofs.Carrying.{LetsGo, LetsGoBy, SameLoad}
use Rattle.vx_yard.proofs.Lists.{set_same}
use Rattle.vx_yard.proofs.NamedSite.{asks_at}
use Rattle.vx_yard.proofs.OverGroup.{set_notes}
use Rattle.vx_effects.specs.Facts.{down_fact}
use Rattle.vx_yard.specs.OfSites.{AsAsked, HasCalled, WritesBy}
use Rattle.vx_yard.specs.Standing.{LeadsOver, StandsFor}
use Rattle.vx_yard.specs.Working.{IsFree}
use Rattle.vx_yard.specs.Writes.{IsWriteLine, below_facts}
use Rattle.vx_yard.specs.Writes.IsWriteLine.{OfPut, OfWrite}
use Rattle.vx_yard.specs.Yards.{IsTold, in_files}
use Rattle.vx_yard.specs.declared.yard.Yard.{Yard}
use Rattle.vx_above.proofs.SiteCalls.{calls}
use Rattle.vx_above.proofs.Changing.{moves_table, moves_to, reconfigures}
use Rattle.vx_group_lines.proofs.GroupCalls.{Called, SetThen, calls_all, calls_are, calls_named, calls_names, down_seen, fused_since, off_follows, seen_as, sets_then, site_up, up_follows, maps_were, plain_were}
use Rattle.vx_group_lines.proofs.GroupLeads.{leads_by}
use Rattle.vx_group_lines.proofs.GroupPlain.{PlainCall, plain_fits}
use Rattle.vx_grouped.specs.SiteMaps.{DoubtMaps, StandMaps, UpMaps, WriteMaps, WroteMapped}
use Rattle.vx_grouped.proofs.MapNoteLemmas.{down_with_maps, up_with_maps}
use Rattle.vx_history.specs.Missing.{no_maps, with_maps}
use Rattle.vx_events.specs.GroupMaps.{MapsLost, MapsOfDoubt, MapsOfWrite}
use Rattle.vx_group_lines.proofs.MapGoing.{Goes, MapsOn, goes_up, off_stands, on_both, stand_as, with_goes}
use Rattle.vx_group_lines.proofs.MapLines.{doubt_named, logs_bound, logs_low, write_named}
use Rattle.vx_group_lines.proofs.Plains.{rvg_goes}
use Rattle.vx_above.proofs.Losing.{Names}

-- ---- the two lines

-- how many blocks are written
pub block_count : (line : ScriptLine) (name volume : List ℕ) (start : ℕ) (bytes : List ℕ) → IsWriteLine line name volume start bytes → length bytes ≡ 512 * blocks_in bytes
block_count line name volume start bytes (OfWrite count fill is filled) = omega (arith, ap length filled, length-replicate {A = ℕ} (512 * count) fill)
block_count line name volume start bytes (OfPut is one) = omega (arith, one)

pub write_over : (w : World) (line : ScriptLine) (name volume : List ℕ) (start : ℕ) (bytes : List ℕ) → IsWriteLine line name volume start bytes → is_for_group w line ≡ true → over_group_at w name ≡ true
write_over w line name volume start bytes (OfWrite count fill is filled) over = subst (λ (l : ScriptLine). is_for_group w l ≡ true) is over
write_over w line name volume start bytes (OfPut is one) over = subst (λ (l : ScriptLine). is_for_group w l ≡ true) is over

write_place : (w : World) (line : ScriptLine) (name volume : List ℕ) (start : ℕ) (bytes : List ℕ) → IsWriteLine line name volume start bytes → group_place w line ≡ site_number w name
write_place w line name volume start bytes (OfWrite count fill is filled) = ap (λ (l : ScriptLine). group_place w l) is
write_place w line name volume start bytes (OfPut is one) = ap (λ (l : ScriptLine). group_place w l) is

-- a write by the name of its volume is one by its number
named_write : (P : Write → Type 0) (note : GroupNode) (volume : List ℕ) (start place : ℕ) (bytes other : List ℕ) → plain_number note volume ≡ place → bytes ≡ other → P (plain_write place start bytes) → P (plain_write (plain_number note volume) start other)
named_write P note volume start place bytes other number same here =
    subst (λ (bs : List ℕ). P (plain_write (plain_number note volume) start bs)) same (subst (λ (v : ℕ). P (plain_write v start bytes)) (sym number) here)

module _ (told : Type 0) (d e : Doubted) (line : ScriptLine) (name volume : List ℕ) (start : ℕ) (bytes : List ℕ) (s place : ℕ) (fails : Fails) (next : GroupNode) (is : IsWriteLine line name volume start bytes) (number : plain_number (note_at (d.world.nodes s)) volume ≡ place)
    (are : AreOf s fails) where
  abbrev was_note : GroupNode
  was_note = note_at (d.world.nodes s)

  pub done_ends : NotesWrite s fails (plain_write place start bytes) (note_at (d.world.nodes s)) next → IsAs d (worked_on (noting d.world s next) s) e → GroupEnds told d line s fails Done e
  done_ends wrote is_as = by is
    where
      by : IsWriteLine line name volume start bytes → GroupEnds told d line s fails Done e
      by (OfWrite count fill is filled) =
          subst (λ (l : ScriptLine). GroupEnds told d l s fails Done e) (sym is)
          (GroupDone next are (named_write (λ x. NotesWrite s fails x was_note next) was_note volume start place bytes (replicate (512 * count) fill) number filled wrote, refl) is_as)
      by (OfPut is one) =
          subst (λ (l : ScriptLine). GroupEnds told d l s fails Done e) (sym is)
          (GroupDone next are (named_write (λ x. NotesWrite s fails x was_note next) was_note volume start place bytes bytes number refl wrote, refl) is_as)

  pub fails_ends : (disk : ℕ) → Contains fails (s, disk) → NotesDoubt s fails (plain_write place start bytes) (note_at (d.world.nodes s)) next → IsAs d (worked_on (noting d.world s next) s) e
      → GroupEnds told d line s fails (Refused (Device disk)) e
  fails_ends disk has doubts is_as = by is
    where
      by : IsWriteLine line name volume start bytes → GroupEnds told d line s fails (Refused (Device disk)) e
      by (OfWrite count fill is filled) =
          subst (λ (l : ScriptLine). GroupEnds told d l s fails (Refused (Device disk)) e) (sym is)
          (GroupFails disk next are has (named_write (λ x. NotesDoubt s fails x was_note next) was_note volume start place bytes (replicate (512 * count) fill) number filled doubts) refl is_as)
      by (OfPut is one) =
          subst (λ (l : ScriptLine). GroupEnds told d l s fails (Refused (Device disk)) e) (sym is)
          (GroupFails disk next are has (named_write (λ x. NotesDoubt s fails x was_note next) was_note volume start place bytes bytes number refl doubts) refl is_as)

  pub cut_ends : IsFused (d.world.nodes s).fuse → NotesCut s fails (plain_write place start bytes) (note_at (d.world.nodes s)) next
      → IsAs (happened d (CrashAt s 0) false) (worked_on (noting (happened d (CrashAt s 0) false).world s next) s) e → GroupEnds told d line s fails (Refused IsOff) e
  cut_ends fused cuts is_as = by is
    where
      by : IsWriteLine line name volume start bytes → GroupEnds told d line s fails (Refused IsOff) e
      by (OfWrite count fill is filled) =
          subst (λ (l : ScriptLine). GroupEnds told d l s fails (Refused IsOff) e) (sym is)
          (GroupCut next are fused (named_write (λ x. NotesCut s fails x was_note next) was_note volume start place bytes (replicate (512 * count) fill) number filled cuts) refl is_as)
      by (OfPut is one) =
          subst (λ (l : ScriptLine). GroupEnds told d l s fails (Refused IsOff) e) (sym is)
          (GroupCut next are fused (named_write (λ x. NotesCut s fails x was_note next) was_note volume start place bytes bytes number refl cuts) refl is_as)

  -- below a replicated volume group, of which the crash keeps so many writes where it was halted
  pub under_ends : (kept : ℕ) → IsFused (d.world.nodes s).fuse → NotesCut s fails (plain_write place start bytes) (note_at (d.world.nodes s)) next
      → IsAs (happened d (CrashAt s (crash_count (d.world.nodes s) kept)) false) (worked_on (noting (happened d (CrashAt s (crash_count (d.world.nodes s) kept)) false).world s next) s) e → EndsBelow told d line s fails (Refused IsOff) e
  under_ends kept fused cuts is_as = by is
    where
      by : IsWriteLine line name volume start bytes → EndsBelow told d line s fails (Refused IsOff) e
      by (OfWrite count fill is filled) =
          subst (λ (l : ScriptLine). EndsBelow told d l s fails (Refused IsOff) e) (sym is)
          (CutBelow kept next are fused (named_write (λ x. NotesCut s fails x was_note next) was_note volume start place bytes (replicate (512 * count) fill) number filled cuts) refl is_as)
      by (OfPut is one) =
          subst (λ (l : ScriptLine). EndsBelow told d l s fails (Refused IsOff) e) (sym is)
          (CutBelow kept next are fused (named_write (λ x. NotesCut s fails x was_note next) was_note volume start place bytes bytes number refl cuts) refl is_as)

module _ {R : Type 0} {g : Ghosts R} where
  -- what the tests say of it
  pub may_write : (y : Yard R g) (line : ScriptLine) (name volume : List ℕ) (start : ℕ) (bytes : List ℕ) → IsWriteLine line name volume start bytes → IsFree y line → WriteMay y.facts.items name volume start (blocks_in bytes)
  may_write y line name volume start bytes (OfWrite count fill is filled) free =
      let many : count ≡ blocks_in bytes = omega (arith, ap length filled, length-replicate {A = ℕ} (512 * count) fill) in
      subst (λ (k : ℕ). WriteMay y.facts.items name volume start k) many (write_may y.facts.items (in_files y) name volume start count fill (subst (λ (l : ScriptLine). IsFree y l) is free))
  may_write y line name volume start bytes (OfPut is one) free =
      let many : 1 ≡ blocks_in bytes = omega (arith, one) in
      subst (λ (k : ℕ). WriteMay y.facts.items name volume start k) many (put_may y.facts.items (in_files y) name volume start bytes (subst (λ (l : ScriptLine). IsFree y l) is free))

  -- what it asks of the disks of its site
  pub write_asks : (d : Doubted) (old new : Yard R g) (line : ScriptLine) (name volume : List ℕ) (start : ℕ) (bytes : List ℕ) (s : ℕ) (before after : DiskSet R g) → StandsFor d old → IsWriteLine line name volume start bytes → seat_of old.facts.items name ≡ Some s
      → slice_get old.disk_sets.items s ≡ Some before → new.disk_sets.items ≡ slice_set old.disk_sets.items s after → SameFailing before after → AsAsked d.world line old new
  write_asks d old new line name volume start bytes s before after stands (OfWrite count fill is filled) seat there sets failing =
      subst (λ (l : ScriptLine). AsAsked d.world l old new) (sym is) (asks_at SameFailing d old new name s before after stands seat there sets failing)
  write_asks d old new line name volume start bytes s before after stands (OfPut is one) seat there sets failing =
      subst (λ (l : ScriptLine). AsAsked d.world l old new) (sym is) (asks_at SameFailing d old new name s before after stands seat there sets failing)

  pub write_calls : (d : Doubted) (old new : Yard R g) (line : ScriptLine) (name volume : List ℕ) (start : ℕ) (bytes : List ℕ) (s : ℕ) (said : Said) (before after : DiskSet R g) → StandsFor d old → IsWriteLine line name volume start bytes → over_group_at d.world name ≡ true
      → seat_of old.facts.items name ≡ Some s → slice_get old.disk_sets.items s ≡ Some before → new.disk_sets.items ≡ slice_set old.disk_sets.items s after → FuseGoesOn before after → HasCalled d.world line said old new
  write_calls d old new line name volume start bytes s said before after stands (OfWrite count fill is filled) over seat there sets fuse =
      subst (λ (l : ScriptLine). HasCalled d.world l said old new) (sym is)
      (asks_at (WritesBy (over_group_at d.world name) (replicate (512 * count) fill) said) d old new name s before after stands seat there sets
      (subst (λ (b : Bool). WritesBy b (replicate (512 * count) fill) said before after) (sym over) fuse))
  write_calls d old new line name volume start bytes s said before after stands (OfPut is one) over seat there sets fuse =
      subst (λ (l : ScriptLine). HasCalled d.world l said old new) (sym is)
      (asks_at (WritesBy (over_group_at d.world name) bytes said) d old new name s before after stands seat there sets (subst (λ (b : Bool). WritesBy b bytes said before after) (sym over) fuse))

  module _ (d : Doubted) (old new : Yard R g) (line : ScriptLine) (name volume : List ℕ) (start : ℕ) (bytes : List ℕ) (s place : ℕ) (before after : DiskSet R g) (stands : StandsFor d old) (is : IsWriteLine line name volume start bytes)
      (plain : PlainCall d old name volume start (blocks_in bytes) s place before) (called : Called d old new name s before after) (since : CalledOn before after) where
    abbrev n : Node
    n = d.world.nodes s

    abbrev note : GroupNode
    note = note_at (d.world.nodes s)

    abbrev x : Write
    x = plain_write place start bytes

    abbrev disks : Meaning
    disks = site_disks called.at.set.site

    -- the calls that failed, where so many disks may have
    abbrev fails : ℕ → Fails
    fails many = calls s old new many

    place_is : group_place d.world line ≡ s
    place_is = write_place d.world line name volume start bytes is ∙ plain.number

    -- what the configuration comes to
    moves : (next : GroupSet R g) → after ≡ OfGroup next → (middle : GroupNode) (Keeps : GroupNode → GroupNode → Type 0) (goes : ConfigGoes (LosesSome (site_disks called.at.set.site) (site_disks next.site)) note middle called.at.set.site next.site)
        → Keeps note middle → (many : ℕ) → disks.units ≤ many → length goes.was.disks ≤ many → Reconfigures (ConfigLoses s (fails many)) Keeps note middle
    moves next to middle Keeps goes keeps many units enough =
        let names : Names s many (fails many) (site_disks called.at.set.site) (site_disks next.site) = calls_names d old new name s before after stands called called.at.set next called.at.is_set to many units in
        reconfigures s many (fails many) (site_disks called.at.set.site) (site_disks next.site) note middle names (ConfigLoses s (fails many)) Keeps goes.was goes.now goes.noted goes.noted_now
        (moves_to s many (fails many) (site_disks called.at.set.site) (site_disks next.site) note middle names none_again goes.was goes.now enough goes.change) keeps

    table : (next : GroupSet R g) → after ≡ OfGroup next → (middle : GroupNode) (goes : ConfigGoes (LosesSome (site_disks called.at.set.site) (site_disks next.site)) note middle called.at.set.site next.site) → noted_table middle ≡ noted_table note
    table next to middle goes =
        let many : ℕ = disks.units in
        let names : Names s many (fails many) (site_disks called.at.set.site) (site_disks next.site) = calls_names d old new name s before after stands called called.at.set next called.at.is_set to many (omega arith) in
        moves_table s many (fails many) (site_disks called.at.set.site) (site_disks next.site) note middle names none_again goes.was goes.now goes.noted goes.noted_now goes.change

    -- its fuse, where it is up still
    fuse_on : (k : GroupNode) (next : GroupSet R g) → after ≡ OfGroup next → UpNoted (with_note k n) k next.site → FusedAs (with_note k n) (OfGroup next)
    fuse_on k next to noted =
        fused_since n (with_note k n) called.at.set next refl
        (subst (λ (e : DiskSet R g). CalledOn (OfGroup called.at.set) e) to (subst (λ (e : DiskSet R g). CalledOn e after) called.at.is_set since)) (site_up (with_note k n) k next.site noted)
        (subst (λ (e : DiskSet R g). FusedAs n e) called.at.is_set (stands.fuses s before called.at.below called.changed.there))

    -- what is noted of maps behind it
    named : (next : GroupSet R g) → after ≡ OfGroup next → (many : ℕ) → disks.units ≤ many → Names s many (fails many) (site_disks called.at.set.site) (site_disks next.site)
    named next to many units = calls_names d old new name s before after stands called called.at.set next called.at.is_set to many units

    had : StandMaps note called.at.set.site
    had = maps_were d old new name s before after stands called

    went : (By : Goes) (next : GroupSet R g) → after ≡ OfGroup next → OnSites (λ o e. UpMaps By o e) before after → UpMaps By called.at.set.site next.site
    went By next to maps = on_both (λ o e. UpMaps By o e) before after called.at.set next called.at.is_set to maps

    facts_still : new.facts ≡ old.facts → new.facts.items ≡ slice_set old.facts.items s (fact_of_group n note)
    facts_still facts = ap (λ fs. fs.items) facts ∙ sym (set_same old.facts.items s (fact_of_group n note) called.at.fact)

    pub write_done : (done : Unit {0}) → OnSites (λ o e. PlainWrote n note (plain_write place start bytes) o e (Ok done)) before after → OnSites (λ o e. WroteMapped (plain_write place start bytes) o e (Ok done)) before after → cut_in after ≡ cut_behind (Ok done) (plain_write place start bytes) (cut_in before) → new.facts ≡ old.facts → SameLoad old new
        → LeadsOver d line Done old new
    write_done done wrote maps cut facts load =
        let to : SetThen (λ e. PlainWrote n note x called.at.set.site e (Ok done)) after = sets_then (λ o e. PlainWrote n note x o e (Ok done)) before after called.at.set called.at.is_set wrote in
        let middle : GroupNode = to.holds.0 in
        let settles : NoteSettles note middle = to.holds.1 in
        let goes : ConfigGoes (LosesSome (site_disks called.at.set.site) (site_disks to.set.site)) note middle called.at.set.site to.set.site = to.holds.3 in
        let first : GroupNode = note_write x middle in
        let go : MapsOn (WriteMaps x (site_disks called.at.set.site) (site_disks to.set.site) goes.was goes.now) note middle to.set.site
        = goes_up (WriteMaps x) (with_note first n) note middle first called.at.set.site to.set.site (LosesSome (site_disks called.at.set.site) (site_disks to.set.site)) had goes to.holds.2 (went (WriteMaps x) to.set to.is maps) in
        let k : GroupNode = note_write x (with_maps go.maps middle) in
        let up : UpNoted (with_note k n) k to.set.site = up_with_maps go.maps (with_note first n) first to.set.site to.holds.2 in
        let many : ℕ = disks.units + length goes.was.disks + logs_bound goes.was.volumes in
        leads_by d (record d { world = worked_on (noting d.world s k) s }) line s (fails many) Done old new place_is
        (done_ends (IsTold new) d (record d { world = worked_on (noting d.world s k) s }) line name volume start bytes s place (fails many) k is plain.volume_is (calls_are d old new name s before after stands called many)
        (record {
          middle = with_maps go.maps middle;
          moves = with_goes (Reconfigures (ConfigLoses s (fails many)) NoteSettles) (MapsOfWrite s (fails many) x) note middle goes.was goes.now go.maps goes.noted goes.noted_now (moves to.set to.is middle NoteSettles goes settles many (omega arith) (omega arith))
              (write_named s many (fails many) (site_disks called.at.set.site) (site_disks to.set.site) (named to.set to.is many (omega arith)) goes.was goes.now (λ u j. logs_low goes.was many u j (omega arith)) note.maps go.maps x go.by);
          is = refl;
        })
        (record { world = refl; after = λ i. refl; strayed = refl }))
        (up_follows d old new name s before after stands called k to.set plain.up to.is up (stand_as (with_maps go.maps middle) k to.set.site refl refl refl go.stands)
        (rvg_goes note middle goes.was goes.now goes.noted goes.noted_now goes.change.parts.rvg ∙ plain_were d old new name s before after stands called) settles.same.cut cut (fuse_on k to.set to.is up) (fact_of_group n note)
        (seen_as n (with_note k n) note k refl refl refl refl (table to.set to.is middle to.holds.3)) (facts_still facts) load)
        (calls_all d old new name s before after stands called many)

    write_fails : (disk : ℕ) → OnSites (λ o e. PlainWrote n note (plain_write place start bytes) o e (Err (Device disk))) before after → OnSites (λ o e. WroteMapped (plain_write place start bytes) o e (Err (Device disk))) before after → cut_in after ≡ cut_in before
        → new.facts.items ≡ slice_set old.facts.items s (fact_of_group n note) → SameLoad old new → LeadsOver d line (Refused (Device disk)) old new
    write_fails disk wrote maps cut facts load =
        let to : SetThen (λ e. PlainWrote n note x called.at.set.site e (Err (Device disk))) after = sets_then (λ o e. PlainWrote n note x o e (Err (Device disk))) before after called.at.set called.at.is_set wrote in
        let middle : GroupNode = to.holds.0 in
        let unsettles : NoteUnsettles false note middle = to.holds.1 in
        let goes : ConfigGoes (LosesSome (site_disks called.at.set.site) (site_disks to.set.site)) note middle called.at.set.site to.set.site = to.holds.4 in
        let first : GroupNode = note_doubt x middle in
        let go : MapsOn (DoubtMaps x (site_disks called.at.set.site) (site_disks to.set.site) goes.was goes.now) note middle to.set.site
        = goes_up (DoubtMaps x) (with_note first n) note middle first called.at.set.site to.set.site (LosesSome (site_disks called.at.set.site) (site_disks to.set.site)) had goes to.holds.2 (went (DoubtMaps x) to.set to.is maps) in
        let k : GroupNode = note_doubt x (with_maps go.maps middle) in
        let up : UpNoted (with_note k n) k to.set.site = up_with_maps go.maps (with_note first n) first to.set.site to.holds.2 in
        let many : ℕ = disks.units + length goes.was.disks + logs_bound goes.was.volumes + disk + 1 in
        leads_by d (record d { world = worked_on (noting d.world s k) s }) line s (fails many) (Refused (Device disk)) old new place_is
        (fails_ends (IsTold new) d (record d { world = worked_on (noting d.world s k) s }) line name volume start bytes s place (fails many) k is plain.volume_is (calls_are d old new name s before after stands called many)
        disk (calls_named d old new name s before after stands called called.at.set to.set called.at.is_set to.is many disk (omega arith) to.holds.3)
        (record {
          middle = with_maps go.maps middle;
          moves = with_goes (Reconfigures (ConfigLoses s (fails many)) (NoteUnsettles false)) (MapsOfDoubt s (fails many) x) note middle goes.was goes.now go.maps goes.noted goes.noted_now (moves to.set to.is middle (NoteUnsettles false) goes unsettles many (omega arith) (omega arith))
              (doubt_named s many (fails many) (site_disks called.at.set.site) (site_disks to.set.site) (named to.set to.is many (omega arith)) goes.was goes.now (λ u j. logs_low goes.was many u j (omega arith)) note.maps go.maps x go.by);
          is = refl;
        })
        (record { world = refl; after = λ i. refl; strayed = refl }))
        (up_follows d old new name s before after stands called k to.set plain.up to.is up (stand_as (with_maps go.maps middle) k to.set.site refl refl refl go.stands)
        (rvg_goes note middle goes.was goes.now goes.noted goes.noted_now goes.change.parts.rvg ∙ plain_were d old new name s before after stands called) unsettles.same.cut cut (fuse_on k to.set to.is up) (fact_of_group n note)
        (seen_as n (with_note k n) note k refl refl refl refl (table to.set to.is middle to.holds.4)) facts load)
        (calls_all d old new name s before after stands called many)

    -- the write that is kept lies in its volume
    cut_fits : (k : GroupNode) (o : Option CutWrite) → FitsPlain k place start (length bytes) → cut_value o ≡ Some (plain_write place start bytes) → (w : CutWrite) → o ≡ Some w → FitsPlain k w.volume w.block (length w.bytes)
    cut_fits k o fits is w there =
        let same : plain_write w.volume w.block w.bytes ≡ plain_write place start bytes = let e : Some (plain_write w.volume w.block w.bytes) ≡ Some (plain_write place start bytes) = sym (ap (λ (p : Option CutWrite). cut_value p) there) ∙ is in cc in
        subst (λ (z : Write). FitsPlain k z.volume z.start (length z.bytes)) (sym same) fits

    write_cut : OnSites (λ o e. PlainWrote n note (plain_write place start bytes) o e (Err IsOff)) before after → OnSites (λ o e. WroteMapped (plain_write place start bytes) o e (Err IsOff)) before after → cut_in after ≡ Some (plain_write place start bytes)
        → new.facts.items ≡ slice_set old.facts.items s (down_fact (fact_of_group n note)) → LetsGo old new s → LeadsOver d line (Refused IsOff) old new
    write_cut wrote maps cut facts lets =
        let to : SetThen (λ e. PlainWrote n note x called.at.set.site e (Err IsOff)) after = sets_then (λ o e. PlainWrote n note x o e (Err IsOff)) before after called.at.set called.at.is_set wrote in
        let middle : GroupNode = to.holds.0 in
        let unsettles : NoteUnsettles false note middle = to.holds.1 in
        let goes : ConfigGoes (LosesSome (site_disks called.at.set.site) (site_disks to.set.site)) note middle called.at.set.site to.set.site = to.holds.4 in
        let first : GroupNode = note_cut x middle in
        let k : GroupNode = note_cut x (with_maps no_maps middle) in
        let down : DownNoted (crashed (with_note k n) 0) k to.set.site = down_with_maps no_maps (crashed (with_note first n) 0) first to.set.site to.holds.2 in
        let lost : StandMaps (with_maps no_maps middle) to.set.site
        = off_stands (crashed (with_note first n) 0) first middle goes.now to.set.site goes.noted_now to.holds.2 (went (DoubtMaps x) to.set to.is maps).1 in
        let many : ℕ = disks.units + length goes.was.disks in
        let h : Doubted = happened d (CrashAt s 0) false in
        let e : Doubted = record h { world = worked_on (noting h.world s k) s } in
        let fits : FitsPlain note place start (length bytes) = plain_fits d old name volume start (blocks_in bytes) s place before (length bytes) plain (block_count line name volume start bytes is) in
        leads_by d e line s (fails many) (Refused IsOff) old new place_is
        (cut_ends (IsTold new) d e line name volume start bytes s place (fails many) k is plain.volume_is (calls_are d old new name s before after stands called many) to.holds.3
        (record {
          middle = with_maps no_maps middle;
          moves = with_goes (Reconfigures (ConfigLoses s (fails many)) (NoteUnsettles false)) MapsLost note middle goes.was goes.now no_maps goes.noted goes.noted_now (moves to.set to.is middle (NoteUnsettles false) goes unsettles many (omega arith) (omega arith)) (record { none = λ v. refl });
          is = refl;
        })
        (record { world = refl; after = λ i. refl; strayed = refl }))
        (off_follows d old new name s before after stands called k to.set plain.up to.is down (stand_as (with_maps no_maps middle) k to.set.site refl refl refl lost)
        (rvg_goes note middle goes.was goes.now goes.noted goes.noted_now goes.change.parts.rvg ∙ plain_were d old new name s before after stands called) cut
        (cut_fits k to.set.cut (record { some = fits.some; whole = fits.whole; within = omega (arith, fits.within, ap (λ c. c.size place) unsettles.same.bytes) })
        (ap (λ (z : DiskSet R g). cut_in z) (sym to.is) ∙ cut))
        (down_fact (fact_of_group n note))
        (down_seen n note k (set_notes (beside_of d s) n called.at.set called.at.stands called.at.made).1.none.volumes (table to.set to.is middle to.holds.4)) facts lets)
        (calls_all d old new name s before after stands called many)

    -- it is refused
    pub write_stops : (no : No) → OnSites (λ o e. PlainWrote n note (plain_write place start bytes) o e (Err no)) before after → OnSites (λ o e. WroteMapped (plain_write place start bytes) o e (Err no)) before after → cut_in after ≡ cut_behind {T = Unit {0}} (Err no) (plain_write place start bytes) (cut_in before)
        → new.facts.items ≡ slice_set old.facts.items s (below_facts no (fact_of_group n note)) → LetsGoBy no old new s → LeadsOver d line (Refused no) old new
    write_stops (Device disk) wrote maps cut facts lets = write_fails disk wrote maps cut facts (record { flight = lets.flight; assemblies = lets.assemblies; feeders = lets.feeders })
    write_stops IsOff wrote maps cut facts lets = write_cut wrote maps cut facts (record { flight = lets.flight; assemblies = lets.assemblies; feeders = lets.feeders })
    write_stops other wrote maps cut facts lets = absurd (sets_then (λ o e. PlainWrote n note x o e (Err other)) before after called.at.set called.at.is_set wrote).holds
