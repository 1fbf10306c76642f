-- What a line that reads a data volume leads to at a site with a replicated volume group over its group.
use Rattle.std.proofs.Common.{◌≡◌, ◌∙◌, inl, inr, ◌*◌, ℕ, Bool, true, false, List, [], ◌∷◌, length, ap, sym, subst, refl}
use Rattle.std.specs.List.{find}
use Rattle.std.specs.Prelude.{Some, Ok, Err, slice_get, slice_set}
use Rattle.std.specs.Str.{bytes_eq}
use Rattle.vx_model.specs.Content.{Content}
use Rattle.vx_model.specs.Sites.{is_origin}
use Rattle.vx_model.specs.declared.no.No.{No}
use Rattle.vx_model.specs.declared.no.No.TheVariants.{Device}
use Rattle.vx_model.specs.declared.site.Role.TheVariants.{Primary}
use Rattle.vx_history.proofs.Updates.{at_place}
use Rattle.vx_history.specs.Doubts.{Doubted}
use Rattle.vx_history.specs.Groups.{GroupNode}
use Rattle.vx_history.specs.Refusals.{is_primary}
use Rattle.vx_history.specs.Steps.{burned}
use Rattle.vx_history.specs.World.{Node, World}
use Rattle.vx_history.specs.declared.event.Event.{Event}
use Rattle.vx_history.specs.declared.event.Event.TheVariants.{Read as ReadAt}
use Rattle.vx_history.specs.declared.event.Said.TheVariants.{Got as HasGot}
use Rattle.vx_disk.specs.declared.shelf.Shelf.{Ghosts}
use Rattle.vx_order.specs.declared.facts.SiteFacts.{SiteFacts}
use Rattle.vx_order.specs.declared.facts.VolumeFacts.{VolumeFacts}
use Rattle.vx_order.specs.declared.facts.VolumeKind.{VolumeKind}
use Rattle.vx_order.specs.declared.facts.VolumeKind.TheVariants.{Data}
use Rattle.vx_script.specs.declared.line.ScriptLine.{ScriptLine}
use Rattle.vx_script.specs.declared.line.ScriptLine.TheVariants.{Read, Show}
use Rattle.vx_effects.proofs.Effects.{changes_then}
use Rattle.vx_rvg.specs.Contents.{ShowsContent}
use Rattle.vx_diskset.specs.DiskSets.{RoseAt}
use Rattle.vx_diskset.specs.Fetching.{GaveAt}
use Rattle.vx_diskset.specs.Holds.{KeptBeside, beside_of}
use Rattle.vx_diskset.specs.Noted.{NotesOn}
use Rattle.vx_diskset.specs.Stands.{IsToldAt, KeepsRole, RoleIs, SiteStands}
use Rattle.vx_diskset.specs.declared.disk_set.DiskSet.{DiskSet}
use Rattle.vx_diskset.specs.declared.disk_set.DiskSet.TheVariants.{Over}
use Rattle.vx_diskset.specs.declared.over_set.OverSet.{OverSet}
use Rattle.vx_events.proofs.Blocks.{shown_are}
use Rattle.vx_events.proofs.DataNamed.{kind_found, read_role}
use Rattle.vx_events.proofs.RefusedCalls.{CallMay, read_may}
use Rattle.vx_events.specs.Ends.{Ends, ShowsReceived, noted}
use Rattle.vx_events.specs.Facts.{place_of, seat_of, site_number, volume_number}
use Rattle.vx_events.specs.GroupNotes.{IsKnown, note_at}
use Rattle.vx_events.specs.LinkedFacts.{linked_fact}
use Rattle.vx_events.specs.Lists.{Choice, events_of}
use Rattle.vx_events.specs.RvgOver.{SaysOver, is_plain_kind, kind_named}
use Rattle.vx_events.specs.RvgSteps.{over_rvg_at}
use Rattle.vx_events.specs.RvgViews.{is_over_rvg}
use Rattle.vx_events.specs.Sayings.{received_content}
use Rattle.vx_events.specs.declared.said.Said.{Said}
use Rattle.vx_events.specs.declared.said.Said.TheVariants.{Got, Refused}
use Rattle.vx_yard.proofs.Carrying.{SameLoad, carries_node}
use Rattle.vx_yard.proofs.Lists.{set_same}
use Rattle.vx_yard.proofs.NamedSite.{fact_named, place_at, site_at}
use Rattle.vx_yard.proofs.NoteSite.{changes_one, only_left, with_one}
use Rattle.vx_yard.proofs.OneSite.{Changed, beside_same, role_kept, told_by}
use Rattle.vx_yard.proofs.Reaching.{Reaches, reaches_same}
use Rattle.vx_yard.proofs.SiteEvents.{first_choice}
use Rattle.vx_yard.specs.AboveLines.{LeadsAbove}
use Rattle.vx_yard.specs.Carries.{Carries}
use Rattle.vx_yard.specs.Standing.{StandsFor}
use Rattle.vx_yard.specs.Working.{IsFree}
use Rattle.vx_yard.specs.Yards.{IsTold, in_files}
use Rattle.vx_yard.specs.declared.yard.Yard.{Yard}
use Rattle.vx_above.proofs.Moved.{OverCall, call_note}
use Rattle.vx_above.proofs.OverComes.{StaysAs, lit_still, none_still, on_still}
use Rattle.vx_above.proofs.OverEnds.{over_done, over_halts, told_up}
use Rattle.vx_above.proofs.OverLines.{LineOver, line_read, line_show}
use Rattle.vx_above.proofs.OverSeen.{noted_node}
use Rattle.vx_above.proofs.OverSites.{OverIs, at_over, over_set}
use Rattle.vx_site_lines.specs.Fetching.{IsReadLine}
use Rattle.vx_site_lines.specs.Shown.{GaveShown, GaveShownAt}
use Rattle.vx_events.proofs.RvgEvents.{rvg_apart}
use Rattle.vx_site_lines.proofs.FetchLine.{FetchAt, behind_read, fetch_at, got_ends, no_more, read_world, recounted, recounted_fits}
use Rattle.vx_site_lines.proofs.ShownLine.{all_shown, primary_of}
use Rattle.vx_site_lines.proofs.WriteCalls.{whole_log}

-- ---- the line, whichever of the two it is

record ReadSo (told : Type 0) (d : Doubted) (s v start count : ℕ) (line : ScriptLine) : Type 0 where
  over : LineOver told d s line
  events : (c : Choice) → events_of d.world line c ≡ ReadAt s v start count ∷ []
  notes : (u : World) → noted s line u ≡ u

read_events : (w : World) (name volume : List ℕ) (start count s v : ℕ) → site_number w name ≡ s → volume_number (w.nodes s) volume ≡ v
    → (let es : List Event = ReadAt (site_number w name) (volume_number (w.nodes (site_number w name)) volume) start count ∷ [] in es) ≡ ReadAt s v start count ∷ []
read_events w name volume start count s v number place =
    ap (λ (i : ℕ). let es : List Event = ReadAt i (volume_number (w.nodes i) volume) start count ∷ [] in es) number
    ∙ ap (λ (p : ℕ). let es : List Event = ReadAt s p start count ∷ [] in es) place

read_so : (told : Type 0) (d : Doubted) (line : ScriptLine) (name volume : List ℕ) (start count s v : ℕ) → IsReadLine line name volume start count → site_number d.world name ≡ s → volume_number (d.world.nodes s) volume ≡ v
    → kind_named (d.world.nodes s) volume ≡ Data → ReadSo told d s v start count line
read_so told d line name volume start count s v (inl is) number place kind =
    subst (λ (l : ScriptLine). ReadSo told d s v start count l) (sym is) (record {
      over = line_read told d name volume s number start count kind;
      events = λ c. read_events d.world name volume start count s v number place;
      notes = λ u. refl;
    })
read_so told d line name volume start count s v (inr is) number place kind =
    subst (λ (l : ScriptLine). ReadSo told d s v start count l) (sym is) (record {
      over = line_show told d name volume s number start count kind;
      events = λ c. read_events d.world name volume start count s v number place;
      notes = λ u. refl;
    })

-- the site of a line on a data volume, by its number
pub data_at : {R : Type 0} {g : Ghosts R} (d : Doubted) (y : Yard R g) (name volume : List ℕ) (s : ℕ) → StandsFor d y → seat_of y.facts.items name ≡ Some s → over_rvg_at d.world name ≡ true
    → kind_named (d.world.nodes (site_number d.world name)) volume ≡ Data → (is_over_rvg (d.world.nodes s) ≡ true) × (kind_named (d.world.nodes s) volume ≡ Data)
data_at d y name volume s stands seat over kind =
    let number : site_number d.world name ≡ s = (place_at d y name s stands seat).number in (
      subst (λ (i : ℕ). is_over_rvg (d.world.nodes i) ≡ true) number over,
      subst (λ (i : ℕ). kind_named (d.world.nodes i) volume ≡ Data) number kind,
    )

-- what the tests found of it
pub reading_at : {R : Type 0} {g : Ghosts R} (d : Doubted) (y : Yard R g) (name volume : List ℕ) (start count s v : ℕ) (e : DiskSet R g) → StandsFor d y → seat_of y.facts.items name ≡ Some s → is_over_rvg (d.world.nodes s) ≡ true
    → kind_named (d.world.nodes s) volume ≡ Data → CallMay y.facts.items name volume start count → slice_get y.disk_sets.items s ≡ Some e → ((f : SiteFacts) → slice_get y.facts.items s ≡ Some f → place_of f.volumes volume ≡ Some v)
    → FetchAt d y name volume start count s v
reading_at d y name volume start count s v e stands seat over kind may there place_is =
    let n : Node = d.world.nodes s in
    let apart = rvg_apart n over in
    let here = site_at d y name s stands apart seat in
    let fact = fact_named d y name s here seat may.site in
    let found : may.found.kind ≡ Data =
    sym (kind_found n volume may.found (ap (λ (k : SiteFacts). find (λ (x : VolumeFacts). bytes_eq x.name volume) k.volumes) (sym fact) ∙ may.finds)) ∙ kind in
    fetch_at d y name volume start count s v e stands (rvg_apart (d.world.nodes (site_number d.world name)) (subst (λ (i : ℕ). is_over_rvg (d.world.nodes i) ≡ true) (sym (place_at d y name s stands seat).number) over))
    may found seat there place_is

module _ {R : Type 0} {g : Ghosts R} (d : Doubted) (old new : Yard R g) (name volume : List ℕ) (start count s v : ℕ) (stands : StandsFor d old) (read : FetchAt d old name volume start count s v) (over : is_over_rvg (d.world.nodes s) ≡ true)
    (kind : kind_named (d.world.nodes s) volume ≡ Data) (facts : new.facts ≡ old.facts) (load : SameLoad old new) where
  abbrev n : Node
  n = d.world.nodes s

  abbrev note : GroupNode
  note = note_at (d.world.nodes s)

  abbrev known : Type 0
  known = IsKnown (IsTold new) (note_at (d.world.nodes s))

  -- what the line asks of the disks of the site
  pub record ReadCalls (before after : DiskSet R g) : Type 0 where
    pub changed : Changed old new s before after
    pub keeps : KeepsRole before after
    pub notes : NotesOn before after

  module _ (o p : OverSet R g) (calls : ReadCalls (Over o) (Over p)) (stood : SiteStands (beside_of d s) (d.world.nodes s) (Over p)) where
    call : OverCall d old new s o p
    call = record { stands = stands; below = read.seat.below; over = over; up = read.can.up; changed = calls.changed; notes = calls.notes }

    abbrev next : GroupNode
    next = call_note d old new s o p call

    role : RoleIs n (Over p)
    role = role_kept d old s (Over o) (Over p) stands read.seat.below calls.changed.there calls.keeps

    told : IsTold new → IsTold old
    told = told_by old new s (Over o) (Over p) calls.changed

    stays : StaysAs n n
    stays = record { name = refl; disks = refl; blocks = refl; volumes = refl; group = refl; failing = refl }

    facts_same : new.facts.items ≡ slice_set old.facts.items s (linked_fact d.world s)
    facts_same = ap (λ fs. fs.items) facts ∙ sym (set_same old.facts.items s (linked_fact d.world s) read.seat.fact)

    -- the same world, and the one in which the headers of the read are counted
    reach_same : Reaches d d s n (Over p)
    reach_same = reaches_same d s (Over p) stands.links stood role

    reach_counted : Reaches d (recounted d d.world) s n (Over p)
    reach_counted = record {
      changes = record { sites = refl; nodes = λ i apart. refl; links = λ i k apart. refl; headers = λ i apart. no_more (d.world.headers i); after = λ i apart. refl; strayed = λ calm. calm; gathering = λ i apart. refl };
      here = refl;
      links = recounted_fits d stands.links;
      stands = subst (λ (b : KeptBeside). SiteStands b n (Over p)) (sym (beside_same d (recounted d d.world) s refl (λ k. refl) (no_more (d.world.headers s)) refl)) stood;
      role = role;
      doubt = λ was a is. was a is;
    }

    -- contents are told
    told_here : known → IsToldAt (Over p)
    told_here lit = told_up d old new s o p call d n reach_same stays read.can.up lit

    module _ (line : ScriptLine) (so : LineOver (IsTold new) d s line) (said : Said) (says : SaysOver n next said said) where
      module _ (e : Doubted) (reach : Reaches d e s n (Over p)) (sent : e.world.packets ≡ d.world.packets) (gathering : e.world.gathering s ≡ d.world.gathering s) (shown : linked_fact d.world s ≡ linked_fact e.world s) where
        carries : Carries d old → Carries (with_one e s (noted_node n next (burned n.fuse))) new
        carries =
            let k : Node = noted_node n next (burned n.fuse) in
            carries_node s d (with_one e s k) k old new load (changes_then s d e (with_one e s k) reach.changes (changes_one e s k)) sent gathering (at_place e.world.nodes s k) refl refl refl told

        done_so : Ends known d line s [] said e → LeadsAbove d line said old new
        done_so ends =
            over_done d old new s o p call e n reach stays line said said (λ fails. so.lined said fails next) (λ fails x. so.wrap fails said x) says (linked_fact d.world s) shown facts_same
            read.can.up (so.fuse n.fuse n.fuse ∙ lit_still n.fuse) (on_still n.fuse) (none_still n.fuse) carries (subst (λ (i : ℕ). Ends known d line i [] said e) (sym so.place) ends)

        halts_so : (disk : ℕ) → RoseAt (Over o) (Over p) disk → Ends known d line s ((s, disk) ∷ []) said e → LeadsAbove d line said old new
        halts_so disk rose ends =
            over_halts d old new s o p call e n reach stays line said said (λ fails. so.lined said fails next) (λ fails x. so.wrap fails said x) says (linked_fact d.world s) shown facts_same
            read.can.up (so.fuse n.fuse n.fuse ∙ lit_still n.fuse) (on_still n.fuse) (none_still n.fuse) carries disk rose (subst (λ (i : ℕ). Ends known d line i ((s, disk) ∷ []) said e) (sym so.place) ends)

      same_done : Ends known d line s [] said d → LeadsAbove d line said old new
      same_done ends = done_so d reach_same refl refl refl ends

      same_halts : (disk : ℕ) → RoseAt (Over o) (Over p) disk → Ends known d line s ((s, disk) ∷ []) said d → LeadsAbove d line said old new
      same_halts disk rose ends = halts_so d reach_same refl refl refl disk rose ends

      read_done : Ends known d line s [] said (behind_read d s v start count) → LeadsAbove d line said old new
      read_done ends =
          read_world d s v start count (λ (e : Doubted). Ends known d line s [] said e → LeadsAbove d line said old new)
          (λ counted. done_so (recounted d d.world) reach_counted refl refl refl counted) ends

    -- ---- blocks of a primary

    fetched : (line : ScriptLine) (bytes : List ℕ) → IsReadLine line name volume start count → n.role ≡ Primary → length bytes ≡ 512 * count → (IsToldAt (Over p) → ShowsContent n.base v start count bytes) → LeadsAbove d line (Got bytes) old new
    fetched line bytes is primary size shows =
        let so : ReadSo (IsTold new) d s v start count line = read_so (IsTold new) d line name volume start count s v is read.seat.number read.volume_is kind in
        read_done line so.over (Got bytes) refl
        (got_ends known d line s v start count bytes so.events so.notes size
        (λ lit. record { site = read.seat.below; up = read.can.up; running = read.can.running; primary = primary; known = read.can.volume_exists; some = read.some; few = read.few; within = read.can.within })
        (λ lit. shows (told_here lit)))

    -- ---- blocks that any other site shows

    received : (bytes : List ℕ) → is_primary n.role ≡ false → length bytes ≡ 512 * count → (IsToldAt (Over p) → ShowsContent (received_content n) v start count bytes) → LeadsAbove d (Show name volume start count) (Got bytes) old new
    received bytes other size shows =
        let k : ℕ = site_number d.world name in
        let place : ℕ = volume_number (d.world.nodes k) volume in
        let role_k : is_primary (d.world.nodes k).role ≡ false = subst (λ (i : ℕ). is_primary (d.world.nodes i).role ≡ false) (sym read.seat.number) other in
        let shows_k : IsToldAt (Over p) → ShowsContent (received_content (d.world.nodes k)) place start count bytes =
        λ lit. subst (λ (i : ℕ). ShowsContent (received_content (d.world.nodes i)) (volume_number (d.world.nodes i) volume) start count bytes) (sym read.seat.number)
        (subst (λ (q : ℕ). ShowsContent (received_content n) q start count bytes) (sym read.volume_is) (shows lit)) in
        let so : ReadSo (IsTold new) d s v start count (Show name volume start count) = read_so (IsTold new) d (Show name volume start count) name volume start count s v (inr refl) read.seat.number read.volume_is kind in
        same_done (Show name volume start count) so.over (Got bytes) refl
        (subst (λ (i : ℕ). Ends known d (Show name volume start count) i [] (Got bytes) d) read.seat.number
        (ShowsReceived name volume start count refl role_k
        (record {
          bytes = bytes;
          got = refl;
          size = size;
          is = λ lit. ap (λ bs. HasGot bs) (shown_are (received_content (d.world.nodes k)) place start count bytes size (λ j inside. (shows_k (told_here lit)).each j inside));
        })
        tt (record { world = refl; after = λ i. refl; strayed = refl })))

    -- ---- a disk failed

    failed : (line : ScriptLine) (disk : ℕ) → IsReadLine line name volume start count → RoseAt (Over o) (Over p) disk → LeadsAbove d line (Refused (Device disk)) old new
    failed line disk is rose =
        let so : ReadSo (IsTold new) d s v start count line = read_so (IsTold new) d line name volume start count s v is read.seat.number read.volume_is kind in
        same_halts line so.over (Refused (Device disk)) refl disk rose
        (only_left known d line s (ReadAt s v start count) disk (so.events first_choice) refl tt (so.notes d.world))

  -- ---- the line, by what it asked of the disks

  module _ (before after : DiskSet R g) (calls : ReadCalls before after) where
    was : SiteStands (beside_of d s) n before
    was = stands.disk_sets.sites s before read.seat.below calls.changed.there

    first : OverIs before
    first = over_set (beside_of d s) n before was over

    -- at a primary
    primary_above : (line : ScriptLine) (bytes : List ℕ) → IsReadLine line name volume start count → n.role ≡ Primary → GaveAt (beside_of d s) n v start count before after (Ok bytes) → LeadsAbove d line (Got bytes) old new
    primary_above line bytes is primary gave =
        at_over (λ b a. ReadCalls b a × GaveAt (beside_of d s) n v start count b a (Ok bytes)) before after first (over_set (beside_of d s) n after gave.stands over)
        (λ o p it. fetched o p it.0 it.1.stands line bytes is primary it.1.size (λ lit. it.1.shows lit)) (calls, gave)

    -- at a site that receives, or at another one that is no primary
    pub shown_above : (bytes : List ℕ) → is_primary n.role ≡ false → GaveShown (beside_of d s) n v start count bytes after → LeadsAbove d (Show name volume start count) (Got bytes) old new
    shown_above bytes other gave =
        at_over (λ b a. ReadCalls b a × GaveShown (beside_of d s) n v start count bytes a) before after first (over_set (beside_of d s) n after gave.stands over)
        (λ o p it. received o p it.0 it.1.stands bytes other it.1.size (λ lit. it.1.shows lit)) (calls, gave)

    stops : (line : ScriptLine) (disk : ℕ) → IsReadLine line name volume start count → SiteStands (beside_of d s) n after × RoseAt before after disk → LeadsAbove d line (Refused (Device disk)) old new
    stops line disk is gave =
        at_over (λ b a. ReadCalls b a × (SiteStands (beside_of d s) n a × RoseAt b a disk)) before after first (over_set (beside_of d s) n after gave.0 over)
        (λ o p it. failed o p it.0 it.1.0 line disk is it.1.1) (calls, gave)

    pub fetch_stops_above : (line : ScriptLine) (no : No) → IsReadLine line name volume start count → GaveAt (beside_of d s) n v start count before after (Err no) → LeadsAbove d line (Refused no) old new
    fetch_stops_above line (Device disk) is gave = stops line disk is gave
    fetch_stops_above line other is gave = absurd gave

    pub shown_stops_above : (no : No) → GaveShownAt (beside_of d s) n v start count before after (Err no) → LeadsAbove d (Show name volume start count) (Refused no) old new
    shown_stops_above (Device disk) gave = stops (Show name volume start count) disk (inr refl) gave
    shown_stops_above other gave = absurd gave

    -- blocks of a site that has all its writes, whichever line reads them
    pub fetched_above : (line : ScriptLine) (bytes : List ℕ) → IsReadLine line name volume start count → IsFree old line → seat_of old.facts.items name ≡ Some s → is_origin n.role ≡ true
        → GaveAt (beside_of d s) n v start count before after (Ok bytes) → LeadsAbove d line (Got bytes) old new
    fetched_above line bytes (inl is) free seat origin gave =
        let free_read : IsFree old (Read name volume start count) = subst (λ (l : ScriptLine). IsFree old l) is free in
        let may = read_may old.facts.items (in_files old) name volume start count free_read in
        primary_above line bytes (inl is)
        (read_role d.world s old.facts.items (in_files old) name volume start count may.site (fact_named d old name s read.seat seat may.site) read.can.up (λ _. ap (λ (k : VolumeKind). is_plain_kind k) kind) free_read) gave
    fetched_above line bytes (inr is) free seat origin gave = by (is_primary n.role) refl
      where
        durable : length n.log ≡ n.safe
        durable = whole_log (beside_of d s) n before was read.can.up read.can.running origin

        by : (b : Bool) → is_primary n.role ≡ b → LeadsAbove d line (Got bytes) old new
        by true primary = primary_above line bytes (inr is) (primary_of n.role primary) gave
        by false other =
            subst (λ (l : ScriptLine). LeadsAbove d l (Got bytes) old new) (sym is)
            (shown_above bytes other (record {
              size = gave.size;
              shows = λ lit. subst (λ (c : Content). ShowsContent c v start count bytes) (sym (all_shown n durable)) (gave.shows lit);
              stands = gave.stands;
            }))
