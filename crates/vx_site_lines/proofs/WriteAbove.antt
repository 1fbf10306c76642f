-- What a line that writes to a data volume leads to at a site with a replicated volume group over its group.
use Rattle.std.proofs.Common.{◌≡◌, ◌∙◌, ⊎_elim, ◌++◌, ◌*◌, ◌+◌, ◌<◌, ◌≤◌, ℕ, Bool, true, false, List, [], ◌∷◌, length, ap, sym, subst, refl, arith}
use Rattle.std.specs.Prelude.{replicate, Some, None, Ok, Err, slice_get, slice_set}
use Rattle.std.specs.List.{list_any}
use Rattle.vx_model.specs.Content.{Write, blocks_in}
use Rattle.vx_model.specs.declared.limits.TheConstants.{MOST_NUMBER}
use Rattle.vx_model.specs.declared.no.Counted.{Counted}
use Rattle.vx_model.specs.declared.no.Counted.TheVariants.{Number}
use Rattle.vx_model.specs.declared.no.No.{No}
use Rattle.vx_model.specs.declared.no.No.TheVariants.{Device, Limit, Down as Off}
use Rattle.vx_history.proofs.Updates.{at_place}
use Rattle.vx_history.specs.Doubts.{Doubted}
use Rattle.vx_history.specs.Groups.{GroupNode}
use Rattle.vx_history.specs.Refusals.{is_waited_for, some_below}
use Rattle.vx_history.specs.Steps.{burned, crashed, half_begun, logged, worked, worked_on, write_calls}
use Rattle.vx_history.specs.World.{Node, NoFuse, World}
use Rattle.vx_history.specs.declared.event.Event.{Event}
use Rattle.vx_history.specs.declared.event.Event.TheVariants.{Write as WriteAt}
use Rattle.vx_disk.specs.Shelf.{Meaning}
use Rattle.vx_disk.specs.declared.shelf.Shelf.{Ghosts}
use Rattle.vx_order.specs.declared.facts.SiteFacts.{SiteFacts}
use Rattle.vx_script.specs.declared.line.ScriptLine.{ScriptLine}
use Rattle.vx_effects.proofs.Effects.{changes_then}
use Rattle.vx_effects.proofs.WriteLines.{line_cut, line_halted, line_written, worked_effect}
use Rattle.vx_effects.specs.Facts.{down_fact, half_fact, logged_fact}
use Rattle.vx_effects.specs.Writes.{IsLetIn}
use Rattle.vx_diskset.proofs.Fallen.{running_sure}
use Rattle.vx_diskset.specs.Blames.{BlamesSite}
use Rattle.vx_diskset.specs.DiskSets.{WroteAt, fell_to, halted_with, RoseAt}
use Rattle.vx_diskset.specs.Fuses.{FuseOn}
use Rattle.vx_diskset.specs.Holds.{KeptSite, beside_of, itself, sure_of}
use Rattle.vx_diskset.specs.Noted.{NotesOn}
use Rattle.vx_diskset.specs.Stands.{KeepsRole, RoleIs, SiteStands}
use Rattle.vx_diskset.specs.declared.disk_set.DiskSet.{DiskSet}
use Rattle.vx_diskset.specs.declared.disk_set.DiskSet.TheVariants.{Over}
use Rattle.vx_diskset.specs.declared.over_set.OverSet.{OverSet}
use Rattle.vx_events.proofs.Places.{never_some, some_same}
use Rattle.vx_events.specs.Ends.{Ends, noted}
use Rattle.vx_events.specs.Facts.{site_number, volume_number, seat_of}
use Rattle.vx_events.specs.Fails.{IsSiteDisk}
use Rattle.vx_events.specs.GroupNotes.{IsKnown, note_at}
use Rattle.vx_events.specs.LinkedFacts.{linked_fact}
use Rattle.vx_events.specs.Lists.{Choice, events_of}
use Rattle.vx_order.specs.declared.facts.VolumeKind.TheVariants.{Data}
use Rattle.vx_events.specs.RvgOver.{SaysOver, is_plain_kind, kind_named, burnt_over}
use Rattle.vx_events.specs.RvgViews.{is_over_rvg}
use Rattle.vx_events.specs.declared.said.Said.{Said}
use Rattle.vx_events.specs.declared.said.Said.TheVariants.{Refused}
use Rattle.vx_linked.specs.Holds.{awaits_one, is_over}
use Rattle.vx_yard.proofs.Carrying.{LetsGo, LetsGoBy, SameLoad, carries_let, carries_node}
use Rattle.vx_yard.proofs.CrashLine.{fuse_fact}
use Rattle.vx_yard.proofs.CrashSite.{down_up}
use Rattle.vx_yard.proofs.NoteSite.{changes_one, with_one}
use Rattle.vx_yard.proofs.OneSite.{Changed, role_kept, told_by}
use Rattle.vx_yard.proofs.Reaching.{Reaches, reaches_one}
use Rattle.vx_yard.proofs.Rows.{fact_like, fact_same}
use Rattle.vx_yard.proofs.SiteEvents.{first_choice, keeps_k}
use Rattle.vx_yard.specs.AboveLines.{LeadsAbove}
use Rattle.vx_yard.specs.Carries.{Carries}
use Rattle.vx_yard.specs.Standing.{StandsFor}
use Rattle.vx_yard.specs.Writes.{IsWriteLine, answer_by, unwritten_facts}
use Rattle.vx_yard.specs.Writes.IsWriteLine.{OfPut, OfWrite}
use Rattle.vx_yard.specs.Yards.{IsTold}
use Rattle.vx_yard.specs.declared.yard.Yard.{Yard}
use Rattle.vx_above.proofs.Moved.{OverCall, call_note}
use Rattle.vx_above.proofs.OverComes.{StaysAs, lit_burned, lit_spent, none_spent, on_spent}
use Rattle.vx_above.proofs.OverEnds.{over_done, over_halts, over_off, told_up}
use Rattle.vx_above.proofs.OverLines.{LineOver, line_put, line_write}
use Rattle.vx_above.proofs.OverSeen.{noted_node}
use Rattle.vx_above.proofs.OverSites.{OverIs, at_over, over_set}
use Rattle.vx_site_lines.proofs.WriteCalls.{links_count, small_ring, whole_log}
use Rattle.vx_site_lines.proofs.WriteEnds.{cut_ends, done_ends, half_ends, let_in, none_ends}
use Rattle.vx_site_lines.proofs.WriteLinks.{cut_fact, waited_as, write_events}
use Rattle.vx_site_lines.proofs.WriteSite.{cut_events, cut_for, cut_reaches, half_reaches, half_shown, written_fact, written_for, written_reaches}
use Rattle.vx_site_lines.proofs.WriteTests.{WritingAt, the_write}
use Rattle.vx_history.specs.Stops.{IsFused}
use Rattle.vx_events.specs.RvgSteps.{over_rvg_at}
use Rattle.vx_yard.proofs.NamedSite.{place_at}

-- no such answer shows a status
says_so : (n : Node) (next : GroupNode) (waited : Bool) (number : ℕ) → SaysOver n next (answer_by waited number) (answer_by waited number)
says_so n next true number = refl
says_so n next false number = refl

-- ---- the line, whichever of the two it is

record WriteSo (told : Type 0) (d : Doubted) (s v start : ℕ) (bytes : List ℕ) (line : ScriptLine) : Type 0 where
  over : LineOver told d s line
  events : (c : Choice) → events_of d.world line c ≡ WriteAt s v start bytes None ∷ []
  notes : (u : World) → noted s line u ≡ worked_on u s

write_so : (told : Type 0) (d : Doubted) (line : ScriptLine) (name volume : List ℕ) (start : ℕ) (bytes : List ℕ) (s v : ℕ) → IsWriteLine line name volume start bytes → site_number d.world name ≡ s → volume_number (d.world.nodes s) volume ≡ v
    → kind_named (d.world.nodes s) volume ≡ Data → WriteSo told d s v start bytes line
write_so told d line name volume start bytes s v (OfWrite count fill is filled) number place kind =
    subst (λ (l : ScriptLine). WriteSo told d s v start bytes l) (sym is) (record {
      over = line_write told d name volume s number start count fill kind;
      events = λ c. write_events d.world name volume start (replicate (512 * count) fill) s v number place ∙ ap (λ (bs : List ℕ). let es : List Event = WriteAt s v start bs None ∷ [] in es) (sym filled);
      notes = λ u. refl;
    })
write_so told d line name volume start bytes s v (OfPut is one) number place kind =
    subst (λ (l : ScriptLine). WriteSo told d s v start bytes l) (sym is) (record {
      over = line_put told d name volume s number start bytes kind;
      events = λ c. write_events d.world name volume start bytes s v number place;
      notes = λ u. refl;
    })

-- the site of a line, by its number
pub above_at : {R : Type 0} {g : Ghosts R} (d : Doubted) (y : Yard R g) (name volume : List ℕ) (s : ℕ) → StandsFor d y → seat_of y.facts.items name ≡ Some s → over_rvg_at d.world name ≡ true
    → is_plain_kind (kind_named (d.world.nodes (site_number d.world name)) volume) ≡ false → (is_over_rvg (d.world.nodes s) ≡ true) × (is_plain_kind (kind_named (d.world.nodes s) volume) ≡ false)
above_at d y name volume s stands seat over plain =
    let number : site_number d.world name ≡ s = (place_at d y name s stands seat).number in (
      subst (λ (i : ℕ). is_over_rvg (d.world.nodes i) ≡ true) number over,
      subst (λ (i : ℕ). is_plain_kind (kind_named (d.world.nodes i) volume) ≡ false) number plain,
    )

module _ {R : Type 0} {g : Ghosts R} (d : Doubted) (old new : Yard R g) (line : ScriptLine) (name volume : List ℕ) (start : ℕ) (bytes : List ℕ) (s v : ℕ) (stands : StandsFor d old) (is : IsWriteLine line name volume start bytes)
    (to : WritingAt d old name volume start bytes s v) (over : is_over_rvg (d.world.nodes s) ≡ true) (plain : is_plain_kind (kind_named (d.world.nodes s) volume) ≡ false) where
  abbrev n : Node
  n = d.world.nodes s

  abbrev note : GroupNode
  note = note_at (d.world.nodes s)

  abbrev x : Write
  x = the_write v start bytes

  abbrev known : Type 0
  known = IsKnown (IsTold new) note

  lets : n.safe < MOST_NUMBER → IsLetIn d.world s x
  lets free = let_in d.world s x to.changes to.seat.below to.can to.primary to.some to.few free to.goes

  so : WriteSo (IsTold new) d s v start bytes line
  so = write_so (IsTold new) d line name volume start bytes s v is to.seat.number to.place to.named

  -- what the line asks of the disks of the site
  pub record Wrote (before after : DiskSet R g) : Type 0 where
    pub changed : Changed old new s before after
    pub keeps : KeepsRole before after
    pub notes : NotesOn before after

  module _ (o p : OverSet R g) (wrote : Wrote (Over o) (Over p)) where
    call : OverCall d old new s o p
    call = record { stands = stands; below = to.seat.below; over = over; up = to.can.up; changed = wrote.changed; notes = wrote.notes }

    abbrev next : GroupNode
    next = call_note d old new s o p call

    stood : SiteStands (beside_of d s) n (Over o)
    stood = stands.disk_sets.sites s (Over o) to.seat.below wrote.changed.there

    whole : length n.log ≡ n.safe
    whole = whole_log (beside_of d s) n (Over o) stood to.can.up to.can.running to.can.origin

    counted : list_any (is_over (blocks_in bytes + 1)) (linked_fact d.world s).links ≡ false
    counted = links_count d.world s x to.changes (stands.links.rows s) to.can.up to.goes to.few (small_ring (beside_of d s) n (Over o) stood to.apart to.can.up)

    role : RoleIs n (Over p)
    role = role_kept d old s (Over o) (Over p) stands to.seat.below wrote.changed.there wrote.keeps

    told : IsTold new → IsTold old
    told = told_by old new s (Over o) (Over p) wrote.changed

    -- ---- the site is up still

    module _ (e : Doubted) (m : Node) (reach : Reaches d e s m (Over p)) (stays : StaysAs n m) (up : m.state ≡ n.state) (lit : burnt_over n.fuse m.fuse ≡ burned n.fuse) (on : (y : Meaning) → FuseOn m.fuse y → FuseOn (burned n.fuse) y)
        (off : m.fuse ≡ NoFuse → burned n.fuse ≡ NoFuse) (same_role : m.role ≡ n.role) (fed : m.fed_by ≡ n.fed_by) (sent : e.world.packets ≡ d.world.packets) (gathering : e.world.gathering s ≡ d.world.gathering s)
        (said : Said) (says : SaysOver n next said said) (f : SiteFacts) (shown : f ≡ linked_fact e.world s) (facts : new.facts.items ≡ slice_set old.facts.items s f) (load : SameLoad old new) where
      abbrev k : Node
      k = noted_node m next (burned n.fuse)

      abbrev left : Doubted
      left = with_one e s (noted_node m next (burned n.fuse))

      carries : Carries d old → Carries left new
      carries = carries_node s d left k old new load (changes_then s d e left reach.changes (changes_one e s k)) sent gathering (at_place e.world.nodes s k) up same_role fed told

      done_so : Ends known d line s [] said e → LeadsAbove d line said old new
      done_so ends =
          over_done d old new s o p call e m reach stays line said said (λ fails. so.over.lined said fails next) (λ fails y. so.over.wrap fails said y) says f shown facts
          (up ∙ to.can.up) (so.over.fuse n.fuse m.fuse ∙ lit) on off carries (subst (λ (i : ℕ). Ends known d line i [] said e) (sym so.over.place) ends)

      halts_so : (disk : ℕ) → RoseAt (Over o) (Over p) disk → Ends known d line s ((s, disk) ∷ []) said e → LeadsAbove d line said old new
      halts_so disk rose ends =
          over_halts d old new s o p call e m reach stays line said said (λ fails. so.over.lined said fails next) (λ fails y. so.over.wrap fails said y) says f shown facts
          (up ∙ to.can.up) (so.over.fuse n.fuse m.fuse ∙ lit) on off carries disk rose (subst (λ (i : ℕ). Ends known d line i ((s, disk) ∷ []) said e) (sym so.over.place) ends)

    -- it is done
    done_above : (number : ℕ) (f f' : SiteFacts) → WroteAt (beside_of d s) n x (Over o) (Over p) (Ok number) → slice_get old.facts.items s ≡ Some f
        → (list_any (is_over (blocks_in bytes + 1)) f.links ≡ false → f' ≡ logged_fact number (blocks_in bytes + 1) f) → new.facts.items ≡ slice_set old.facts.items s f' → SameLoad old new
        → LeadsAbove d line (answer_by (awaits_one f) number) old new
    done_above number f f' it at noted_so facts load =
        let can : IsLetIn d.world s x = lets it.1 in
        let e : Doubted = written_for d s x None in
        let m : Node = logged n x in
        let eff = line_written d s x (stands.links.rows s) can in
        let there : f ≡ linked_fact d.world s = some_same (sym at ∙ to.seat.fact) in
        let waited : Bool = some_below d.world.sites (λ i. is_waited_for i (d.world.links s i)) in
        let awaited : awaits_one f ≡ waited = ap (λ (q : SiteFacts). awaits_one q) there ∙ sym (waited_as d s stands.links to.can.up) in
        let answer : answer_by (awaits_one f) number ≡ answer_by waited (n.safe + 1) = ap (λ (w : Bool). answer_by w number) awaited ∙ ap (λ (i : ℕ). answer_by waited i) it.0 in
        let shown : f' ≡ linked_fact e.world s =
        noted_so (subst (λ (q : SiteFacts). list_any (is_over (blocks_in bytes + 1)) q.links ≡ false) (sym there) counted)
        ∙ ap (λ (q : SiteFacts). logged_fact number (blocks_in bytes + 1) q) there ∙ ap (λ (i : ℕ). logged_fact i (blocks_in bytes + 1) (linked_fact d.world s)) it.0
        ∙ sym (written_fact d s x stands.links can to.can.origin whole) in
        subst (λ (r : Said). LeadsAbove d line r old new) (sym answer)
        (done_so e m (written_reaches d s x (Over p) stands.links can it.2 role) (record { name = refl; disks = refl; blocks = refl; volumes = refl; group = refl; failing = refl }) refl
        (lit_spent write_calls n.fuse) (on_spent write_calls n.fuse) (none_spent write_calls n.fuse) refl refl eff.sent eff.gathering
        (answer_by waited (n.safe + 1)) (says_so n next waited (n.safe + 1)) f' shown facts load
        (done_ends known d line s x first_choice (so.events first_choice) so.notes (stands.links.rows s) can))

    -- a disk failed in it
    half_above : (disk number : ℕ) (f f' : SiteFacts) → IsSiteDisk n disk → WroteAt (beside_of d s) n x (Over o) (Over p) (Err (Device disk)) → (n.safe < MOST_NUMBER → number ≡ n.safe + 1) → slice_get old.facts.items s ≡ Some f
        → (list_any (is_over (blocks_in bytes + 1)) f.links ≡ false → f' ≡ half_fact disk number (blocks_in bytes + 1) f) → new.facts.items ≡ slice_set old.facts.items s f' → SameLoad old new
        → LeadsAbove d line (Refused (Device disk)) old new
    half_above disk number f f' names it next_is at noted_so facts load =
        let can : IsLetIn d.world s x = lets it.2 in
        let e : Doubted = written_for d s x (Some disk) in
        let m : Node = halted_with n x disk in
        let eff = line_halted d s x (stands.links.rows s) can disk in
        let there : f ≡ linked_fact d.world s = some_same (sym at ∙ to.seat.fact) in
        let shown : f' ≡ linked_fact e.world s =
        noted_so (subst (λ (q : SiteFacts). list_any (is_over (blocks_in bytes + 1)) q.links ≡ false) (sym there) counted)
        ∙ ap (λ (q : SiteFacts). half_fact disk number (blocks_in bytes + 1) q) there ∙ ap (λ (i : ℕ). half_fact disk i (blocks_in bytes + 1) (linked_fact d.world s)) (next_is it.2)
        ∙ sym (half_shown d s x stands.links can disk to.can.origin whole) in
        halts_so e m (half_reaches d s x disk (Over p) stands.links can it.0 role) (record { name = refl; disks = refl; blocks = refl; volumes = refl; group = refl; failing = refl }) refl
        (lit_burned n.fuse) (λ y here. here) (λ none. none) refl refl eff.sent eff.gathering (Refused (Device disk)) refl f' shown facts load disk it.1
        (half_ends known d line s x first_choice (so.events first_choice) so.notes disk names)

    -- no number is left
    none_above : (what : Counted) (most : ℕ) (f f' : SiteFacts) → WroteAt (beside_of d s) n x (Over o) (Over p) (Err (Limit what most)) → slice_get old.facts.items s ≡ Some f → f' ≡ f → new.facts.items ≡ slice_set old.facts.items s f' → SameLoad old new
        → LeadsAbove d line (Refused (Limit what most)) old new
    none_above what most f f' it at noted_so facts load =
        let m : Node = worked n in
        let e : Doubted = with_one d s m in
        let reach : Reaches d e s m (Over p) = reaches_one d s m (Over p) refl stands.links it.2 role in
        let stays : StaysAs n m = record { name = refl; disks = refl; blocks = refl; volumes = refl; group = refl; failing = refl } in
        let there : f ≡ linked_fact d.world s = some_same (sym at ∙ to.seat.fact) in
        let shown : f' ≡ linked_fact e.world s =
        noted_so ∙ there
        ∙ sym (fact_same m (e.world.nodes s) (d.world.links s) (d.world.links s) d.world.sites d.world.sites (at_place d.world.nodes s m) (λ j. refl) refl
        ∙ fact_like n m (d.world.links s) d.world.sites (fuse_fact n (burned n.fuse)) (λ j l. refl)) in
        subst (λ (no : No). LeadsAbove d line (Refused no) old new) (sym it.0)
        (done_so e m reach stays refl (lit_burned n.fuse) (λ y here. here) (λ none. none) refl refl refl refl (Refused (Limit Number MOST_NUMBER)) refl f' shown facts load
        (none_ends known d line s x first_choice (so.events first_choice) so.notes (λ lit. it.1 (told_up d old new s o p call e m reach stays to.can.up lit))))

    -- the fuse of its site ran out
    cut_above : (count : ℕ) (f f' : SiteFacts) → IsFused n.fuse → n.safe < MOST_NUMBER → n.safe ≤ count → count ≤ length (n.log ++ x ∷ [])
        → SiteStands (record (beside_of d s) { doubt = None }) (crashed (half_begun n x) count) (Over p) → slice_get old.facts.items s ≡ Some f
        → f' ≡ down_fact f → new.facts.items ≡ slice_set old.facts.items s f' → LetsGo old new s → LeadsAbove d line (Refused Off) old new
    cut_above count f f' fused free least most stays at noted_so facts gone =
        let can : IsLetIn d.world s x = lets free in
        let e : Doubted = cut_for d s x count in
        let m : Node = crashed (half_begun n x) count in
        let eff = worked_effect s d (cut_events d s x count) m (line_cut d s x (stands.links.rows s) can count least most) in
        let k : Node = noted_node m next NoFuse in
        let left : Doubted = with_one e s k in
        over_off d old new s o p call e m (cut_reaches d s x count (Over p) stands.links can least most stays) (record { name = refl; disks = refl; blocks = refl; volumes = refl; group = refl; failing = refl })
        line (Refused Off) (Refused Off) (λ fails. so.over.lined (Refused Off) fails next) (λ fails y. so.over.wrap fails (Refused Off) y) refl f'
        (noted_so ∙ ap down_fact (some_same (sym at ∙ to.seat.fact)) ∙ cut_fact d s x count stands.links can least most) facts
        refl refl (so.over.fuse n.fuse NoFuse)
        (carries_let s d left old new gone (omega (arith, to.seat.below, stands.disk_sets.few)) (changes_then s d e left eff.site (changes_one e s k)) eff.sent eff.gathering
        (λ up. down_up (sym (ap (λ (q : Node). q.state) (at_place e.world.nodes s k)) ∙ up)) told)
        refl (subst (λ (i : ℕ). Ends known d line i [] (Refused Off) e) (sym so.over.place) (cut_ends known d line s x (keeps_k count) (so.events (keeps_k count)) so.notes fused))

  -- ---- the line, by what it asked of the disks

  module _ (before after : DiskSet R g) (wrote : Wrote before after) (f f' : SiteFacts) (at : slice_get old.facts.items s ≡ Some f) (facts : new.facts.items ≡ slice_set old.facts.items s f') where
    was : SiteStands (beside_of d s) n before
    was = stands.disk_sets.sites s before to.seat.below wrote.changed.there

    first : OverIs before
    first = over_set (beside_of d s) n before was over

    pub write_above : (number : ℕ) (said : Said) → WroteAt (beside_of d s) n x before after (Ok number) → said ≡ answer_by (awaits_one f) number
        → (list_any (is_over (blocks_in bytes + 1)) f.links ≡ false → f' ≡ logged_fact number (blocks_in bytes + 1) f) → SameLoad old new → LeadsAbove d line said old new
    write_above number said it says noted_so load =
        subst (λ (r : Said). LeadsAbove d line r old new) (sym says)
        (at_over (λ b a. Wrote b a × WroteAt (beside_of d s) n x b a (Ok number)) before after first (over_set (beside_of d s) (logged n x) after it.2 over)
        (λ o p so_it. done_above o p so_it.0 number f f' so_it.1 at noted_so facts load) (wrote, it))

    pub stops_above : (why : No) (said : Said) (number : ℕ) → BlamesSite n why → WroteAt (beside_of d s) n x before after (Err why) → said ≡ Refused why → (n.safe < MOST_NUMBER → number ≡ n.safe + 1)
        → (list_any (is_over (blocks_in bytes + 1)) f.links ≡ false → f' ≡ unwritten_facts why number (blocks_in bytes + 1) f) → LetsGoBy why old new s → LeadsAbove d line said old new
    stops_above why said number blames it says next_is noted_so gone = subst (λ (r : Said). LeadsAbove d line r old new) (sym says) (by_why why blames it noted_so gone)
      where
        free : list_any (is_over (blocks_in bytes + 1)) f.links ≡ false
        free =
            subst (λ (q : SiteFacts). list_any (is_over (blocks_in bytes + 1)) q.links ≡ false) (sym (some_same (sym at ∙ to.seat.fact)))
            (links_count d.world s x to.changes (stands.links.rows s) to.can.up to.goes to.few (small_ring (beside_of d s) n before was to.apart to.can.up))

        by_own : (kept : KeptSite) → kept ≡ itself (beside_of d s) (half_begun n x) → (count : ℕ) → kept.node.safe ≤ count → count ≤ length kept.node.log → SiteStands (sure_of kept) (fell_to (half_begun n x) kept.node count) after
            → IsFused n.fuse → n.safe < MOST_NUMBER → f' ≡ down_fact f → LetsGo old new s → LeadsAbove d line (Refused Off) old new
        by_own kept own =
            subst (λ (q : KeptSite). (count : ℕ) → q.node.safe ≤ count → count ≤ length q.node.log → SiteStands (sure_of q) (fell_to (half_begun n x) q.node count) after
            → IsFused n.fuse → n.safe < MOST_NUMBER → f' ≡ down_fact f → LetsGo old new s → LeadsAbove d line (Refused Off) old new) (sym own)
            (λ count least most stays fused below noted_down gone_by.
            at_over (λ b a. Wrote b a × SiteStands (record (beside_of d s) { doubt = None }) (crashed (half_begun n x) count) a) before after first
            (over_set (record (beside_of d s) { doubt = None }) (crashed (half_begun n x) count) after stays over)
            (λ o p so_it. cut_above o p so_it.0 count f f' fused below least most so_it.1 at noted_down facts gone_by) (wrote, stays))

        by_why : (w : No) → BlamesSite n w → WroteAt (beside_of d s) n x before after (Err w) → (list_any (is_over (blocks_in bytes + 1)) f.links ≡ false → f' ≡ unwritten_facts w number (blocks_in bytes + 1) f) → LetsGoBy w old new s
            → LeadsAbove d line (Refused w) old new
        by_why (Device disk) blames it noted_so gone =
            at_over (λ b a. Wrote b a × WroteAt (beside_of d s) n x b a (Err (Device disk))) before after first (over_set (beside_of d s) (halted_with n x disk) after it.0 over)
            (λ o p so_it. half_above o p so_it.0 disk number f f' blames so_it.1 next_is at noted_so facts (record { flight = gone.flight; assemblies = gone.assemblies; feeders = gone.feeders })) (wrote, it)
        by_why (Limit what most) blames it noted_so gone =
            at_over (λ b a. Wrote b a × WroteAt (beside_of d s) n x b a (Err (Limit what most))) before after first (over_set (beside_of d s) (worked n) after it.2 over)
            (λ o p so_it. none_above o p so_it.0 what most f f' so_it.1 at (noted_so free) facts (record { flight = gone.flight; assemblies = gone.assemblies; feeders = gone.feeders })) (wrote, it)
        by_why Off blames it noted_so gone =
            let sure : (beside_of d s).doubt ≡ None = running_sure (beside_of d s) n before was to.can.up to.can.running in
            ⊎_elim (λ own. by_own it.1.kept own it.1.count it.1.least it.1.most it.1.stands it.0 it.3 (noted_so free) (record { flight = gone.flight; assemblies = gone.assemblies; feeders = gone.feeders })) (λ other. absurd (never_some (sym sure ∙ other))) it.1.is
        by_why other blames it noted_so gone = absurd it
