-- What a read of a volume of a group leads a yard to.
use Rattle.std.proofs.Common.{◌≡◌, ◌∙◌, ◌+◌, ◌-◌, ◌*◌, ◌<◌, ℕ, Bool, true, List, length, take, drop, ap, sym, subst, refl, arith}
use Rattle.std.specs.Prelude.{None, Option, Some, Ok, Err, Contains, IsSome, IsTrue, is_some, slice_get, slice_set}
use Rattle.std.proofs.lemmas.Option.{slice_get_within}
use Rattle.vx_model.specs.Content.{block_of}
use Rattle.vx_model.specs.declared.no.No.{No}
use Rattle.vx_model.specs.declared.no.No.TheVariants.{Device}
use Rattle.vx_disk.specs.Shelf.{Meaning}
use Rattle.vx_disk.specs.declared.shelf.Shelf.{Ghosts}
use Rattle.vx_history.specs.Doubts.{Doubted}
use Rattle.vx_history.specs.Groups.{BlockMay, GroupNode}
use Rattle.vx_history.specs.Steps.{burned, worked, worked_on}
use Rattle.vx_history.specs.World.{Node, World}
use Rattle.vx_order.specs.declared.facts.SiteFacts.{SiteFacts}
use Rattle.vx_script.specs.declared.line.ScriptLine.{ScriptLine}
use Rattle.vx_script.specs.declared.line.ScriptLine.TheVariants.{Read, Show}
use Rattle.vx_grouped.specs.GroupSites.{FitsPlain, UpNoted, site_disks, with_note}
use Rattle.vx_grouped.specs.Plain.{ReadsPlain}
use Rattle.vx_kept.specs.Cleans.{at_serial}
use Rattle.vx_grouped.specs.SiteEnds.{PlainRead, SiteGivesUp}
use Rattle.vx_grouped.specs.declared.group_site.GroupSite.{GroupSite}
use Rattle.vx_grouped.specs.declared.group_site.GroupSite.TheVariants.{Up as SiteUp, Deported as SiteAway, Down as SiteDown, Marked, Gone as SiteGone}
use Rattle.vx_diskset.specs.Aboves.{site_in}
use Rattle.vx_diskset.specs.Asked.{FusedAs, SameFailing}
use Rattle.vx_diskset.specs.GroupCalls.{CalledOn, OnSites, cut_in}
use Rattle.vx_diskset.specs.OverPlains.{OnOver, ReadsBelow}
use Rattle.vx_diskset.specs.Stands.{IsRackTold}
use Rattle.vx_diskset.specs.declared.disk_set.DiskSet.{DiskSet}
use Rattle.vx_diskset.specs.declared.disk_set.DiskSet.TheVariants.{Bare, Spoiled, Up as RaisedSet, Receives, Down as DownSet, OfGroup, Over, Gone as GoneSet}
use Rattle.vx_diskset.specs.declared.group_set.GroupSet.{GroupSet}
use Rattle.vx_diskset.specs.declared.over_set.OverSet.{OverSet}
use Rattle.vx_events.proofs.Places.{some_same}
use Rattle.vx_events.proofs.RefusedCalls.{CallMay, read_may, show_may}
use Rattle.vx_events.specs.Doubts.{IsAs}
use Rattle.vx_events.specs.Facts.{place_of, seat_of, site_number}
use Rattle.vx_events.specs.Fails.{Fails}
use Rattle.vx_events.specs.GroupEnds.{AreOf, GroupDone, GroupEnds, GroupFails, VolumeOut}
use Rattle.vx_events.specs.GroupLines.{noting, plain_number}
use Rattle.vx_events.specs.GroupNotes.{IsKnown, note_at}
use Rattle.vx_events.specs.GroupReplies.{GivesPlain}
use Rattle.vx_events.specs.StepsOver.{fact_of_group, group_place, is_for_group, over_group_at}
use Rattle.vx_events.specs.declared.said.Said.{Said}
use Rattle.vx_events.specs.declared.said.Said.TheVariants.{Got, Refused}
use Rattle.vx_yard.proofs.Carrying.{SameLoad}
use Rattle.vx_yard.proofs.Lists.{get-set_same, set_same}
use Rattle.vx_yard.proofs.NamedSite.{asks_at, named_same}
use Rattle.vx_yard.specs.OfSites.{AsAsked, ReadsBy}
use Rattle.vx_yard.specs.Standing.{LeadsOver, StandsFor}
use Rattle.vx_yard.specs.Working.{IsFree}
use Rattle.vx_yard.specs.Yards.{IsTold, in_files}
use Rattle.vx_yard.specs.declared.yard.Yard.{Yard}
use Rattle.vx_above.proofs.SiteCalls.{calls}
use Rattle.vx_above.proofs.Changing.{notes_config}
use Rattle.vx_group_lines.proofs.GroupAt.{lit_up, up_noted}
use Rattle.vx_group_lines.proofs.GroupCalls.{Called, SetThen, calls_all, calls_are, calls_named, calls_names, fused_since, seen_as, sets_then, site_up, up_follows, maps_were, plain_were}
use Rattle.vx_group_lines.proofs.GroupLeads.{Follows, leads_by}
use Rattle.vx_group_lines.proofs.GroupMarks.{group_noted_at}
use Rattle.vx_group_lines.proofs.GroupPlain.{PlainCall}
use Rattle.vx_above.proofs.Losing.{Names, plex_fails}
use Rattle.vx_group_lines.specs.Plain.{GaveBelow, GavePlain, IsReadOf}
use Rattle.vx_grouped.specs.SiteMaps.{StaysMapped}
use Rattle.vx_group_lines.proofs.MapGoing.{on_both}
use Rattle.vx_group_lines.specs.Plain.IsReadOf.{ByRead, ByShow}

-- ---- the two lines

-- the names in a line that reads
abbrev pub read_words : ScriptLine → Option (List ℕ × List ℕ)
read_words (Read site volume start count) = Some (site, volume)
read_words (Show site volume start count) = Some (site, volume)
read_words other = None

pub read_over : (w : World) (line : ScriptLine) (name volume : List ℕ) (start count : ℕ) → IsReadOf line name volume start count → is_for_group w line ≡ true → over_group_at w name ≡ true
read_over w line name volume start count (ByRead is) over = subst (λ (l : ScriptLine). is_for_group w l ≡ true) is over
read_over w line name volume start count (ByShow is) over = subst (λ (l : ScriptLine). is_for_group w l ≡ true) is over

read_place : (w : World) (line : ScriptLine) (name volume : List ℕ) (start count : ℕ) → IsReadOf line name volume start count → group_place w line ≡ site_number w name
read_place w line name volume start count (ByRead is) = ap (λ (l : ScriptLine). group_place w l) is
read_place w line name volume start count (ByShow is) = ap (λ (l : ScriptLine). group_place w l) is

got_ends : (told : Type 0) (d e : Doubted) (line : ScriptLine) (name volume : List ℕ) (start count s : ℕ) (fails : Fails) (said : Said) → IsReadOf line name volume start count → AreOf s fails
    → GivesPlain told (note_at (d.world.nodes s)) (plain_number (note_at (d.world.nodes s)) volume) start count said → IsAs d (worked_on (noting d.world s (note_at (d.world.nodes s))) s) e → GroupEnds told d line s fails said e
got_ends told d e line name volume start count s fails said (ByRead is) are gives is_as =
    subst (λ (l : ScriptLine). GroupEnds told d l s fails said e) (sym is) (GroupDone (note_at (d.world.nodes s)) are (refl, gives) is_as)
got_ends told d e line name volume start count s fails said (ByShow is) are gives is_as =
    subst (λ (l : ScriptLine). GroupEnds told d l s fails said e) (sym is) (GroupDone (note_at (d.world.nodes s)) are (refl, gives) is_as)

unread_ends : (told : Type 0) (d e : Doubted) (line : ScriptLine) (name volume : List ℕ) (start count s disk : ℕ) (fails : Fails) → IsReadOf line name volume start count → AreOf s fails → Contains fails (s, disk) → VolumeOut s fails (note_at (d.world.nodes s)) (plain_number (note_at (d.world.nodes s)) volume)
    → IsAs d (worked_on (noting d.world s (note_at (d.world.nodes s))) s) e → GroupEnds told d line s fails (Refused (Device disk)) e
unread_ends told d e line name volume start count s disk fails (ByRead is) are has out is_as =
    subst (λ (l : ScriptLine). GroupEnds told d l s fails (Refused (Device disk)) e) (sym is) (GroupFails disk (note_at (d.world.nodes s)) are has (refl, out) refl is_as)
unread_ends told d e line name volume start count s disk fails (ByShow is) are has out is_as =
    subst (λ (l : ScriptLine). GroupEnds told d l s fails (Refused (Device disk)) e) (sym is) (GroupFails disk (note_at (d.world.nodes s)) are has (refl, out) refl is_as)

-- ---- the blocks

pub reads_block : (note : GroupNode) (m : Meaning) (v start count : ℕ) (bytes : List ℕ) → ReadsPlain note m v start bytes → length bytes ≡ 512 * count → IsTrue m.tells → (k : ℕ) → k < count → BlockMay note v (start + k) (block_of bytes k)
reads_block note m v start count bytes reads size tells k below =
    let back : (start + k) - start ≡ k = omega arith in
    subst (λ (j : ℕ). BlockMay note v (start + k) (take 512 (drop (512 * j) bytes))) back
    (reads.each tells (start + k) (record { there = refl; first = omega arith; last = omega (arith, size, below) }))

-- the note of a node, behind calls that changed nothing of it
noted_burned : (n : Node) (note : GroupNode) → n.group ≡ Some note → worked n ≡ with_note note n
noted_burned n note is = ap (λ (o : Option GroupNode). let k : Node = record n { group = o; fuse = burned n.fuse } in k) is

module _ {R : Type 0} {g : Ghosts R} where
  -- what the tests say of it
  pub may_read : (y : Yard R g) (line : ScriptLine) (name volume : List ℕ) (start count : ℕ) → IsReadOf line name volume start count → IsFree y line → CallMay y.facts.items name volume start count
  may_read y line name volume start count (ByRead is) free = read_may y.facts.items (in_files y) name volume start count (subst (λ (l : ScriptLine). IsFree y l) is free)
  may_read y line name volume start count (ByShow is) free = show_may y.facts.items (in_files y) name volume start count (subst (λ (l : ScriptLine). IsFree y l) is free)

  -- what it asks of the disks of its site
  pub read_asks : (d : Doubted) (old new : Yard R g) (line : ScriptLine) (name volume : List ℕ) (start count s : ℕ) (before after : DiskSet R g) → StandsFor d old → IsReadOf line name volume start count → over_group_at d.world name ≡ true → seat_of old.facts.items name ≡ Some s
      → slice_get old.disk_sets.items s ≡ Some before → new.disk_sets.items ≡ slice_set old.disk_sets.items s after → SameFailing before after → AsAsked d.world line old new
  read_asks d old new line name volume start count s before after stands (ByRead is) over seat there sets failing =
      subst (λ (l : ScriptLine). AsAsked d.world l old new) (sym is)
      (asks_at (ReadsBy (over_group_at d.world name)) d old new name s before after stands seat there sets (subst (λ (b : Bool). ReadsBy b before after) (sym over) failing))
  read_asks d old new line name volume start count s before after stands (ByShow is) over seat there sets failing =
      subst (λ (l : ScriptLine). AsAsked d.world l old new) (sym is)
      (asks_at (ReadsBy (over_group_at d.world name)) d old new name s before after stands seat there sets (subst (λ (b : Bool). ReadsBy b before after) (sym over) failing))

  -- no plex could be read, as the calls that the line names say
  pub volume_out : (n : Node) (note : GroupNode) (e : GroupSite R g) (v s many : ℕ) (fails : Fails) (behind : Meaning) → UpNoted n note e → Names s many fails (site_disks e) behind → SiteGivesUp v e behind → VolumeOut s fails note v
  volume_out n note (SiteUp group) v s many fails behind up names gone = record {
    config = at_serial 0 group.core.inner.config;
    is = notes_config note group.core.inner.config (record { is = up.at.lies.config; spells = up.spells });
    each = λ p plex at is. plex_fails s many fails (site_disks (SiteUp group)) behind names plex (gone.each p plex at is);
  }
  volume_out n note (SiteAway idle) v s many fails behind up names gone = absurd up
  volume_out n note (SiteDown idle) v s many fails behind up names gone = absurd up
  volume_out n note (Marked rack) v s many fails behind up names gone = absurd up
  volume_out n note SiteGone v s many fails behind up names gone = absurd up

  module _ (d : Doubted) (old new : Yard R g) (line : ScriptLine) (name volume : List ℕ) (start count s place : ℕ) (before after : DiskSet R g) (stands : StandsFor d old) (is : IsReadOf line name volume start count)
      (plain : PlainCall d old name volume start count s place before) (called : Called d old new name s before after) (since : CalledOn before after) (facts : new.facts ≡ old.facts) (load : SameLoad old new) where
    abbrev n : Node
    n = d.world.nodes s

    abbrev note : GroupNode
    note = note_at (d.world.nodes s)

    abbrev behind : Doubted
    behind = record d { world = worked_on (noting d.world s note) s }

    place_is : group_place d.world line ≡ s
    place_is = read_place d.world line name volume start count is ∙ plain.number

    -- it is up as it was
    follows : (next : GroupSet R g) → after ≡ OfGroup next → UpNoted (worked n) note next.site → StaysMapped called.at.set.site next.site → cut_in after ≡ cut_in before → Follows d behind old new
    follows next to up stays cut =
        let noted : UpNoted (with_note note n) note next.site = subst (λ (k : Node). UpNoted k note next.site) (noted_burned n note (group_noted_at d old name s before called.at)) up in
        up_follows d old new name s before after stands called note next plain.up to noted (stays note (maps_were d old new name s before after stands called)) (plain_were d old new name s before after stands called) refl cut
        (fused_since n (with_note note n) called.at.set next refl
        (subst (λ (e : DiskSet R g). CalledOn (OfGroup called.at.set) e) to (subst (λ (e : DiskSet R g). CalledOn e after) called.at.is_set since)) (site_up (with_note note n) note next.site noted)
        (subst (λ (e : DiskSet R g). FusedAs n e) called.at.is_set (stands.fuses s before called.at.below called.changed.there)))
        (fact_of_group n note) (seen_as n (with_note note n) note note refl refl refl refl refl)
        (ap (λ fs. fs.items) facts ∙ sym (set_same old.facts.items s (fact_of_group n note) called.at.fact)) load

    -- contents that are known were told of its disks
    tells : IsKnown (IsTold new) note → IsTrue (site_disks called.at.set.site).tells
    tells known =
        let now : slice_get new.disk_sets.items s ≡ Some after =
        ap (λ (es : List (DiskSet R g)). slice_get es s) called.changed.disk_sets ∙ get-set_same old.disk_sets.items s after (slice_get_within old.disk_sets.items s before called.changed.there) in
        lit_up n note called.at.set.site (up_noted n called.at.set.site called.at.stands.stands plain.up) known.1
        (subst (λ (e : DiskSet R g). IsRackTold e) called.at.is_set (called.changed.later.told (known.0.each s after now)))

    pub read_done : (bytes : List ℕ) → length bytes ≡ 512 * count → OnSites (λ o e. GavePlain n note place start o e (Ok bytes)) before after → OnSites (λ o e. StaysMapped o e) before after → cut_in after ≡ cut_in before → LeadsOver d line (Got bytes) old new
    read_done bytes size gave maps cut =
        let to : SetThen (λ e. GavePlain n note place start called.at.set.site e (Ok bytes)) after = sets_then (λ o e. GavePlain n note place start o e (Ok bytes)) before after called.at.set called.at.is_set gave in
        let many : ℕ = (site_disks called.at.set.site).units in
        let gives : GivesPlain (IsTold new) note place start count (Got bytes) = record {
          bytes = bytes;
          got = refl;
          size = size;
          each = λ known k below. reads_block note (site_disks called.at.set.site) place start count bytes to.holds.0 size (tells known) k below;
        } in
        leads_by d behind line s (calls s old new many) (Got bytes) old new place_is
        (got_ends (IsTold new) d behind line name volume start count s (calls s old new many) (Got bytes) is (calls_are d old new name s before after stands called many)
        (subst (λ (v : ℕ). GivesPlain (IsTold new) note v start count (Got bytes)) (sym plain.volume_is) gives) (record { world = refl; after = λ i. refl; strayed = refl }))
        (follows to.set to.is to.holds.1 (on_both (λ o e. StaysMapped o e) before after called.at.set to.set called.at.is_set to.is maps) cut) (calls_all d old new name s before after stands called many)

    pub read_stops : (no : No) → OnSites (λ o e. GavePlain n note place start o e (Err no)) before after → OnSites (λ o e. StaysMapped o e) before after → cut_in after ≡ cut_in before → LeadsOver d line (Refused no) old new
    read_stops (Device disk) gave maps cut =
        let to : SetThen (λ e. GavePlain n note place start called.at.set.site e (Err (Device disk))) after = sets_then (λ o e. GavePlain n note place start o e (Err (Device disk))) before after called.at.set called.at.is_set gave in
        let many : ℕ = (site_disks called.at.set.site).units + disk + 1 in
        let names : Names s many (calls s old new many) (site_disks called.at.set.site) (site_disks to.set.site)
        = calls_names d old new name s before after stands called called.at.set to.set called.at.is_set to.is many (omega arith) in
        leads_by d behind line s (calls s old new many) (Refused (Device disk)) old new place_is
        (unread_ends (IsTold new) d behind line name volume start count s disk (calls s old new many) is (calls_are d old new name s before after stands called many)
        (calls_named d old new name s before after stands called called.at.set to.set called.at.is_set to.is many disk (omega arith) to.holds.1)
        (subst (λ (v : ℕ). VolumeOut s (calls s old new many) note v) (sym plain.volume_is)
        (volume_out n note called.at.set.site place s many (calls s old new many) (site_disks to.set.site) (up_noted n called.at.set.site called.at.stands.stands plain.up) names to.holds.2)) (record { world = refl; after = λ i. refl; strayed = refl }))
        (follows to.set to.is to.holds.0 (on_both (λ o e. StaysMapped o e) before after called.at.set to.set called.at.is_set to.is maps) cut) (calls_all d old new name s before after stands called many)
    read_stops other gave maps cut = absurd (sets_then (λ o e. GavePlain n note place start o e (Err other)) before after called.at.set called.at.is_set gave).holds

  -- ---- the call

  -- what was read is what is handed on
  pub gave_plain : (n : Node) (note : GroupNode) (v start : ℕ) (into bytes : List ℕ) (before after : DiskSet R g) (done : Unit {0}) → bytes ≡ into → OnSites (λ o e. PlainRead n note v start into o e (Ok done)) before after
      → OnSites (λ o e. GavePlain n note v start o e (Ok bytes)) before after
  gave_plain n note v start into bytes before after done is read = subst (λ (bs : List ℕ). OnSites (λ o e. GavePlain n note v start o e (Ok bs)) before after) (sym is) read

  pub gave_none : (n : Node) (note : GroupNode) (v start : ℕ) (into : List ℕ) (before after : DiskSet R g) (no : No) → OnSites (λ o e. PlainRead n note v start into o e (Err no)) before after → OnSites (λ o e. GavePlain n note v start o e (Err no)) before after
  gave_none n kept v start into before after (Device disk) read = read
  gave_none n kept v start into before after other read = read

  -- the same below a replicated volume group
  on_over_each : (P Q : OverSet R g → OverSet R g → Type 0) → ((o s : OverSet R g) → P o s → Q o s) → (before after : DiskSet R g) → OnOver P before after → OnOver Q before after
  on_over_each P Q f (Over o) (Over s) it = f o s it
  on_over_each P Q f (Over o) (Bare rack) it = absurd it
  on_over_each P Q f (Over o) (Spoiled rack) it = absurd it
  on_over_each P Q f (Over o) (RaisedSet rvg) it = absurd it
  on_over_each P Q f (Over o) (Receives s) it = absurd it
  on_over_each P Q f (Over o) (DownSet rack) it = absurd it
  on_over_each P Q f (Over o) (OfGroup s) it = absurd it
  on_over_each P Q f (Over o) GoneSet it = absurd it
  on_over_each P Q f (Bare rack) after it = tt
  on_over_each P Q f (Spoiled rack) after it = tt
  on_over_each P Q f (RaisedSet rvg) after it = tt
  on_over_each P Q f (Receives s) after it = tt
  on_over_each P Q f (DownSet rack) after it = tt
  on_over_each P Q f (OfGroup s) after it = tt
  on_over_each P Q f GoneSet after it = tt

  pub gave_below : (v start size long : ℕ) (into bytes : List ℕ) (before after : DiskSet R g) (done : Unit {0}) → bytes ≡ into → long ≡ size → OnOver (ReadsBelow v start long into (Ok done)) before after
      → OnOver (GaveBelow v start size (Ok bytes)) before after
  gave_below v start size long into bytes before after done is same read =
      on_over_each (ReadsBelow v start long into (Ok done)) (GaveBelow v start size (Ok bytes))
      (λ o s x. record {
        gave = λ n note up fits. subst (λ (bs : List ℕ). GavePlain n note v start (site_in o) (site_in s) (Ok bs)) (sym is) (x.read n note up (subst (λ (k : ℕ). FitsPlain note v start k) (sym same) fits));
        cut = x.cut;
        kept = x.kept;
      }) before after read

  gave_no : (n : Node) (note : GroupNode) (v start : ℕ) (into : List ℕ) (o e : GroupSite R g) (no : No) → PlainRead n note v start into o e (Err no) → GavePlain n note v start o e (Err no)
  gave_no n note v start into o e (Device disk) read = read
  gave_no n note v start into o e other read = read

  pub none_below : (v start size long : ℕ) (into : List ℕ) (before after : DiskSet R g) (no : No) → long ≡ size → OnOver (ReadsBelow v start long into (Err no)) before after → OnOver (GaveBelow v start size (Err no)) before after
  none_below v start size long into before after why same read =
      on_over_each (ReadsBelow v start long into (Err why)) (GaveBelow v start size (Err why))
      (λ o s x. record {
        gave = λ n note up fits. gave_no n note v start into (site_in o) (site_in s) why (x.read n note up (subst (λ (k : ℕ). FitsPlain note v start k) (sym same) fits));
        cut = x.cut;
        kept = x.kept;
      }) before after read

  -- ---- the names of such a line

  by_names : (y : Yard R g) (line : ScriptLine) (name volume : List ℕ) (start count : ℕ) → IsReadOf line name volume start count → IsFree y line → (s : ℕ) (f : SiteFacts) → seat_of y.facts.items name ≡ Some s
      → slice_get y.facts.items s ≡ Some f → IsSome (place_of f.volumes volume)
  by_names y line name volume start count is free s f seat at =
      let may = may_read y line name volume start count is free in
      ap (λ (k : SiteFacts). is_some (place_of k.volumes volume)) (sym (named_same y name s f may.site seat at)) ∙ ap (λ (o : Option ℕ). is_some o) may.at.is

  -- the site that it names has the volume
  pub reads_there : (y : Yard R g) (words : ScriptLine) (name volume : List ℕ) → read_words words ≡ Some (name, volume) → IsFree y words → (s : ℕ) (f : SiteFacts) → seat_of y.facts.items name ≡ Some s → slice_get y.facts.items s ≡ Some f
      → IsSome (place_of f.volumes volume)
  reads_there y (Read site wanted start count) name volume is free s f seat at =
      let same : (site, wanted) ≡ (name, volume) = some_same is in
      subst (λ (v : List ℕ). IsSome (place_of f.volumes v)) (ap (λ (p : List ℕ × List ℕ). p.1) same)
      (by_names y (Read site wanted start count) site wanted start count (ByRead refl) free s f (ap (λ (p : List ℕ × List ℕ). seat_of y.facts.items p.0) same ∙ seat) at)
  reads_there y (Show site wanted start count) name volume is free s f seat at =
      let same : (site, wanted) ≡ (name, volume) = some_same is in
      subst (λ (v : List ℕ). IsSome (place_of f.volumes v)) (ap (λ (p : List ℕ × List ℕ). p.1) same)
      (by_names y (Show site wanted start count) site wanted start count (ByShow refl) free s f (ap (λ (p : List ℕ × List ℕ). seat_of y.facts.items p.0) same ∙ seat) at)
  reads_there y other name volume is free s f seat at = absurd (let clash : None ≡ Some (name, volume) = is in cc)
