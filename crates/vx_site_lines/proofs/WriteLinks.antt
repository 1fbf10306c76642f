-- What a line that writes blocks leads to, where sites may keep links and be in doubt.
use Rattle.std.proofs.Common.{◌≡◌, ◌∙◌, ⊎_elim, ◌+◌, ◌-◌, ◌*◌, ◌^◌, ◌<◌, ◌≤◌, ℕ, Bool, true, false, List, [], ◌∷◌, ◌++◌, length, ap, sym, subst, refl, arith}
use Rattle.std.specs.Prelude.{Option, Some, None, Ok, Err, replicate, slice_get, slice_set, min}
use Rattle.std.specs.List.{list_any}
use Rattle.std.proofs.lemmas.Option.{slice_get_within}
use Rattle.vx_model.specs.Content.{Write, blocks_in}
use Rattle.vx_model.specs.declared.limits.TheConstants.{MOST_NUMBER}
use Rattle.vx_model.specs.declared.no.Counted.TheVariants.{Number}
use Rattle.vx_model.specs.declared.no.No.{No}
use Rattle.vx_model.specs.declared.no.No.TheVariants.{Device, Limit, Down as Off}
use Rattle.vx_model.specs.declared.no.Counted.{Counted}
use Rattle.vx_model.specs.declared.site.SiteState.{SiteState}
use Rattle.vx_model.specs.declared.site.SiteState.TheVariants.{Up as IsUp}
use Rattle.vx_history.specs.Doubts.{Doubted}
use Rattle.vx_history.specs.Refusals.{is_waited_for, some_below}
use Rattle.vx_history.specs.Steps.{burned, crashed, half_begun, logged, worked, worked_on, write_calls}
use Rattle.vx_history.specs.World.{Link, Node, World}
use Rattle.vx_history.specs.declared.event.Event.{Event}
use Rattle.vx_history.specs.declared.event.Event.TheVariants.{Write as WriteAt}
use Rattle.vx_disk.specs.Racks.{IsRack}
use Rattle.vx_disk.specs.declared.shelf.Shelf.{Ghosts}
use Rattle.vx_order.specs.declared.facts.SiteFacts.{SiteFacts}
use Rattle.vx_script.specs.declared.line.ScriptLine.{ScriptLine}
use Rattle.vx_script.specs.declared.line.ScriptLine.TheVariants.{Write as WriteLine, Put as PutLine}
use Rattle.vx_disk.specs.Causes.{OnDisks}
use Rattle.vx_disk.specs.Disks.{Disks}
use Rattle.vx_disk.specs.Spends.{Passed}
use Rattle.vx_events.specs.Fails.{IsSiteDisk, Fails}
use Rattle.vx_diskset.specs.Blames.{BlamesSite}
use Rattle.vx_diskset.specs.Asked.{FailsAs, FusedAs, LeavesFuse, WritesUnder, disks_told, size_in, IsRawSet}
use Rattle.vx_diskset.specs.Burning.{Burnt, IsLogged}
use Rattle.vx_diskset.specs.DiskSets.{WroteAt, halted_with, fell_to}
use Rattle.vx_diskset.specs.Holds.{KeptSite, beside_of, itself, sure_of, KeptBeside}
use Rattle.vx_diskset.specs.Needs.{HasRoom}
use Rattle.vx_diskset.specs.Stands.{IsToldAt, KeepsRole, RoleIs, SiteStands}
use Rattle.vx_diskset.specs.declared.disk_set.DiskSet.{DiskSet}
use Rattle.vx_events.specs.Ends.{Ends, noted}
use Rattle.vx_events.specs.Facts.{site_number, volume_number}
use Rattle.vx_events.specs.Fuses.{MayPass}
use Rattle.vx_events.specs.LinkedFacts.{linked_fact, links_by, links_of_site}
use Rattle.vx_events.specs.Lines.{IsCutBelow, IsDone, write_in}
use Rattle.vx_events.specs.LinksFit.{LinksFit}
use Rattle.vx_events.specs.Lists.{Choice, events_of, writing_events}
use Rattle.vx_events.specs.Sayings.{is_written}
use Rattle.vx_events.specs.declared.said.Said.{Said}
use Rattle.vx_events.specs.declared.said.Said.TheVariants.{DoneAt, Logged, Refused}
use Rattle.vx_effects.specs.Facts.{fact_of, half_fact, logged_fact, down_fact}
use Rattle.vx_effects.specs.Writes.{IsLetIn}
use Rattle.vx_effects.proofs.Facts.{down_is}
use Rattle.vx_effects.proofs.WriteLines.{line_cut, line_halted, line_written, worked_effect}
use Rattle.vx_events.proofs.Places.{never_some, some_same}
use Rattle.vx_linked.specs.Holds.{awaits, awaits_one, is_over, least_hold}
use Rattle.vx_linked.proofs.LeastHolds.{awaits_same}
use Rattle.vx_yard.specs.Standing.{Leads, StandsFor, BeginsFirst}
use Rattle.vx_yard.specs.Carries.{Carries}
use Rattle.vx_yard.specs.Stands.{RoseAll}
use Rattle.vx_yard.specs.Writes.{IsWriteLine, answer_by, unwritten_facts}
use Rattle.vx_yard.specs.Writes.IsWriteLine.{OfPut, OfWrite}
use Rattle.vx_yard.specs.Yards.{IsTold, count_of}
use Rattle.vx_yard.specs.declared.yard.Yard.{Yard}
use Rattle.vx_history.proofs.Updates.{at_place}
use Rattle.vx_diskset.proofs.Fallen.{running_sure}
use Rattle.vx_yard.proofs.Carrying.{LetsGo, LetsGoBy, SameLoad, carries_let, carries_node}
use Rattle.vx_yard.proofs.CrashLine.{fuse_fact, rose_still}
use Rattle.vx_yard.proofs.CrashSite.{down_up}
use Rattle.vx_yard.proofs.HoldsRoom.{room_beside}
use Rattle.vx_yard.proofs.LinkLines.{listed}
use Rattle.vx_yard.proofs.Lists.{get-set_same}
use Rattle.vx_yard.proofs.NoteSite.{changes_one, comes_one, with_one}
use Rattle.vx_yard.proofs.OneSite.{Changed, role_kept, rose_at, stands_at, told_by}
use Rattle.vx_yard.proofs.OverGroup.{noted_none}
use Rattle.vx_yard.proofs.RawSites.{raw_site, raw_told}
use Rattle.vx_yard.proofs.Rows.{fact_like, fact_same}
use Rattle.vx_yard.proofs.SiteEvents.{first_choice, keeps_k}
use Rattle.vx_site_lines.proofs.Apart.{fact_at, over_is}
use Rattle.vx_site_lines.proofs.WriteCalls.{calls_pass, fails_behind, fuse_burned, fuse_spent, links_count, log_works, small_ring, whole_log}
use Rattle.vx_site_lines.proofs.WriteEnds.{cut_ends, done_ends, half_ends, let_in, none_ends}
use Rattle.vx_site_lines.proofs.WriteSite.{cut_comes, cut_events, cut_for, half_comes, half_shown, written_comes, written_fact, written_for}
use Rattle.vx_site_lines.proofs.WriteTests.{Writing, WritingAt, the_write}
use Rattle.vx_yard.proofs.FirstSites.{begins_like, never_bare}

-- the event of the line, by the number of its volume
pub write_events : (w : World) (name volume : List ℕ) (start : ℕ) (bytes : List ℕ) (s v : ℕ) → site_number w name ≡ s → volume_number (w.nodes s) volume ≡ v → writing_events w name volume start bytes ≡ WriteAt s v start bytes None ∷ []
write_events w name volume start bytes s v number place =
    ap (λ (k : ℕ). let es : List Event = WriteAt k (volume_number (w.nodes k) volume) start bytes None ∷ [] in es) number
    ∙ ap (λ (k : ℕ). let es : List Event = WriteAt s k start bytes None ∷ [] in es) place

-- how such a line ends is how its write does, whichever of the two it is
pub record WriteEnding (told : Type 0) (d : Doubted) (s v start : ℕ) (bytes : List ℕ) (fails : Fails) (said : Said) (new : Doubted) : Type 0 where
  pub ends : (line : ScriptLine) → ((c : Choice) → events_of d.world line c ≡ WriteAt s v start bytes None ∷ []) → ((u : World) → noted s line u ≡ worked_on u s) → Ends told d line s fails said new
  pub counts : IsCutBelow told (d.world.nodes s) (the_write v start bytes) said
  pub works : is_written said ≡ true → (d.world.nodes s).failing 0 ≡ false
  pub calls : is_written said ≡ true → MayPass write_calls (d.world.nodes s).fuse

-- the calls of the line are those of its write
counts_by : (told : Type 0) (d : Doubted) (name volume : List ℕ) (start : ℕ) (bytes other : List ℕ) (s v : ℕ) (said : Said) → site_number d.world name ≡ s → volume_number (d.world.nodes s) volume ≡ v → bytes ≡ other
    → IsCutBelow told (d.world.nodes s) (the_write v start bytes) said → IsCutBelow told (d.world.nodes (site_number d.world name)) (write_in d.world name volume start other) said
counts_by told d name volume start bytes other s v said number place same counts =
    subst (λ (k : ℕ). IsCutBelow told (d.world.nodes k) (the_write (volume_number (d.world.nodes k) volume) start other) said) (sym number)
    (subst (λ (k : ℕ). IsCutBelow told (d.world.nodes s) (the_write k start other) said) (sym place)
    (subst (λ (bs : List ℕ). IsCutBelow told (d.world.nodes s) (the_write v start bs) said) same counts))

line_done : (told : Type 0) (d : Doubted) (line : ScriptLine) (name volume : List ℕ) (start : ℕ) (bytes : List ℕ) (s v : ℕ) (fails : Fails) (said : Said) (new : Doubted) → IsWriteLine line name volume start bytes → site_number d.world name ≡ s
    → volume_number (d.world.nodes s) volume ≡ v → WriteEnding told d s v start bytes fails said new → IsDone told d line fails said new
line_done told d line name volume start bytes s v fails said new (OfWrite count fill is filled) number place e =
    subst (λ (l : ScriptLine). IsDone told d l fails said new) (sym is) (record {
      ends = subst (λ (k : ℕ). Ends told d (WriteLine name volume start count fill) k fails said new) (sym number)
          (e.ends (WriteLine name volume start count fill)
          (λ c. write_events d.world name volume start (replicate (512 * count) fill) s v number place ∙ ap (λ (bs : List ℕ). let es : List Event = WriteAt s v start bs None ∷ [] in es) (sym filled))
          (λ u. refl));
      counts = counts_by told d name volume start bytes (replicate (512 * count) fill) s v said number place filled e.counts;
      works = subst (λ (k : ℕ). is_written said ≡ true → (d.world.nodes k).failing 0 ≡ false) (sym number) e.works;
      calls = subst (λ (k : ℕ). is_written said ≡ true → MayPass write_calls (d.world.nodes k).fuse) (sym number) e.calls;
    })
line_done told d line name volume start bytes s v fails said new (OfPut is one) number place e =
    subst (λ (l : ScriptLine). IsDone told d l fails said new) (sym is) (record {
      ends = subst (λ (k : ℕ). Ends told d (PutLine name volume start bytes) k fails said new) (sym number)
          (e.ends (PutLine name volume start bytes) (λ c. write_events d.world name volume start bytes s v number place) (λ u. refl));
      counts = counts_by told d name volume start bytes bytes s v said number place refl e.counts;
      works = subst (λ (k : ℕ). is_written said ≡ true → (d.world.nodes k).failing 0 ≡ false) (sym number) e.works;
      calls = subst (λ (k : ℕ). is_written said ≡ true → MayPass write_calls (d.world.nodes k).fuse) (sym number) e.calls;
    })

-- what the tests see of a site whose fuse ran out in a write
pub cut_fact : (d : Doubted) (s : ℕ) (x : Write) (count : ℕ) → LinksFit d → IsLetIn d.world s x → (d.world.nodes s).safe ≤ count → count ≤ length ((d.world.nodes s).log ++ x ∷ [])
    → down_fact (linked_fact d.world s) ≡ linked_fact (cut_for d s x count).world s
cut_fact d s x count fits can least most =
    let last : Doubted = cut_events d s x count in
    let e : Doubted = cut_for d s x count in
    let row : ℕ → Link = d.world.links s in
    let eff = worked_effect s d last (crashed (half_begun (d.world.nodes s) x) count) (line_cut d s x (fits.rows s) can count least most) in
    sym (ap (λ (m : Node). fact_of m (e.world.links s) e.world.sites) eff.is.node ∙ down_is (half_begun (d.world.nodes s) x) row e.world.sites count (e.world.links s))

-- whether some link has to confirm the write
pub waited_as : (d : Doubted) (s : ℕ) → LinksFit d → (d.world.nodes s).state ≡ IsUp → some_below d.world.sites (λ k. is_waited_for k (d.world.links s k)) ≡ awaits_one (linked_fact d.world s)
waited_as d s fits up = awaits_same d.world (listed d fits) s ∙ ap (λ (t : SiteState). list_any awaits (links_by t (links_of_site d.world s))) (sym up)

-- the number that a write of a site is to have, as the code counts it
pub next_after : (last next safe : ℕ) → last ≡ safe → safe < MOST_NUMBER → next ≡ min (last + 1) (2 ^ 64 - 1) → next ≡ safe + 1
next_after last next safe is free counted = omega (arith, is, free, counted)

written_so : (w : Bool) (number : ℕ) → is_written (answer_by w number) ≡ true
written_so true number = refl
written_so false number = refl

never_off : (w : Bool) (number : ℕ) → answer_by w number ≡ Refused Off → ⊥
never_off true number e = cc
never_off false number e = cc

never_written : (why : No) → is_written (Refused why) ≡ true → ⊥
never_written why e = cc

device_off : (disk : ℕ) → Refused (Device disk) ≡ Refused Off → ⊥
device_off disk e = cc

limit_off : Refused (Limit Number MOST_NUMBER) ≡ Refused Off → ⊥
limit_off e = cc

device_passes : (P : Disks → Disks → Type 0) (size : ℕ → ℕ) (disk : ℕ) (a b : Disks) → Burnt P (Refused (Device disk)) size a b → Passed a b
device_passes P size disk a b burnt = burnt

limit_passes : (P : Disks → Disks → Type 0) (size : ℕ → ℕ) (a b : Disks) → Burnt P (Refused (Limit Number MOST_NUMBER)) size a b → Passed a b
limit_passes P size a b burnt = burnt

on_logged : (P : Disks → Disks → Type 0) (size : ℕ → ℕ) (number : ℕ) (o n : Option Disks) → OnDisks o n (Burnt P (DoneAt number) size) → OnDisks o n (Burnt P (Logged number) size)
on_logged P size number None None on = tt
on_logged P size number None (Some n) on = absurd on
on_logged P size number (Some o) None on = absurd on
on_logged P size number (Some o) (Some n) on = on

module _ {R : Type 0} {g : Ghosts R} where
  -- the calls of a write that is done, whichever way it is answered
  pub answers_under : (w : Bool) (number : ℕ) (bytes : List ℕ) (a b : DiskSet R g) → WritesUnder bytes (DoneAt number) a b → WritesUnder bytes (answer_by w number) a b
  answers_under true number bytes a b under = record {
    burns = record { told = on_logged IsLogged (size_in a) number (disks_told a) (disks_told b) under.burns.told; sizes = under.burns.sizes };
    cuts = record { short = λ rvg is room fits off. absurd (never_off true number off) };
  }
  answers_under false number bytes a b under = under

  -- what the call asks of the room beside the links
  pub room_as : (d : Doubted) (y : Yard R g) (name volume : List ℕ) (start : ℕ) (bytes : List ℕ) (s v : ℕ) (e : DiskSet R g) (f : SiteFacts) (hold : ℕ) → StandsFor d y → WritingAt d y name volume start bytes s v
      → slice_get y.disk_sets.items s ≡ Some e → slice_get y.facts.items s ≡ Some f → hold ≡ least_hold f → HasRoom (beside_of d s).links (d.world.nodes s) hold (blocks_in bytes)
  room_as d y name volume start bytes s v e f hold stands to there at is =
      let whole = whole_log (beside_of d s) (d.world.nodes s) e (stands.disk_sets.sites s e to.seat.below there) to.can.up to.can.running to.can.origin in
      subst (λ (k : ℕ). HasRoom (beside_of d s).links (d.world.nodes s) k (blocks_in bytes)) (sym (is ∙ ap least_hold (some_same (sym at ∙ to.seat.fact))))
      (room_beside d.world s (stands.links.rows s) to.can.up (the_write v start bytes) to.changes to.goes to.can.origin whole to.can.fits)

  module _ (racks : (r : R) → IsRack (g.meaning r)) (d : Doubted) (old new : Yard R g) (line : ScriptLine) (name volume : List ℕ) (start : ℕ) (bytes : List ℕ) (s v : ℕ) (before after : DiskSet R g) (stands : StandsFor d old)
      (is : IsWriteLine line name volume start bytes) (to : Writing d old name volume start bytes s v) (changed : Changed old new s before after)
      (keeps : KeepsRole before after) where
    abbrev n : Node
    n = d.world.nodes s

    abbrev x : Write
    x = the_write v start bytes

    stood : SiteStands (beside_of d s) n before
    stood = stands.disk_sets.sites s before to.at.seat.below changed.there

    whole : length n.log ≡ n.safe
    whole = whole_log (beside_of d s) n before stood to.at.can.up to.at.can.running to.at.can.origin

    counted : list_any (is_over (blocks_in bytes + 1)) (linked_fact d.world s).links ≡ false
    counted = links_count d.world s x to.at.changes (stands.links.rows s) to.at.can.up to.at.goes to.at.few (small_ring (beside_of d s) n before stood to.at.apart to.at.can.up)

    lets : n.safe < MOST_NUMBER → IsLetIn d.world s x
    lets free = let_in d.world s x to.at.changes to.at.seat.below to.at.can to.at.primary to.at.some to.at.few free to.at.goes

    raw_after : (b : KeptBeside) (k : Node) → k.group ≡ n.group → SiteStands b k after → IsRawSet after
    raw_after b k same here = raw_site b k after (same ∙ to.none) here

    told_after : IsRawSet after → IsTold new → IsToldAt after
    told_after raw told = raw_told after raw (told.each s after (ap (λ es. slice_get es s) changed.disk_sets ∙ get-set_same old.disk_sets.items s after (slice_get_within old.disk_sets.items s before changed.there)))

    fits : FailsAs n before
    fits = stands.failing s before to.at.seat.below changed.there

    lit : FusedAs n before
    lit = stands.fuses s before to.at.seat.below changed.there

    kind : RoleIs n after
    kind = role_kept d old s before after stands to.at.seat.below changed.there keeps

    leads_by : (fails : Fails) (said : Said) (next : Doubted) → WriteEnding (IsTold new) d s v start bytes fails said next → StandsFor next new → (Carries d old → Carries next new) → RoseAll fails (count_of old) (count_of new)
        → Leads d line said old new
    leads_by fails said next ending stands_next carries rose = record {
      next = next;
      fails = fails;
      done = line_done (IsTold new) d line name volume start bytes s v fails said next is to.at.seat.number to.at.place ending;
      stands = stands_next;
      carries = carries;
      rose = rose;
    }

    -- it is done
    pub write_leads : (number : ℕ) (said : Said) (f f' : SiteFacts) → WroteAt (beside_of d s) n x before after (Ok number) → WritesUnder bytes (DoneAt number) before after → said ≡ answer_by (awaits_one f) number
        → slice_get old.facts.items s ≡ Some f → (list_any (is_over (blocks_in bytes + 1)) f.links ≡ false → f' ≡ logged_fact number (blocks_in bytes + 1) f) → new.facts.items ≡ slice_set old.facts.items s f'
        → SameLoad old new → Leads d line said old new
    write_leads number said f f' wrote under says at noted facts load =
        let can : IsLetIn d.world s x = lets wrote.1 in
        let e : Doubted = written_for d s x None in
        let eff = line_written d s x (stands.links.rows s) can in
        let there : f ≡ linked_fact d.world s = some_same (sym at ∙ to.at.seat.fact) in
        let waited : Bool = some_below d.world.sites (λ k. is_waited_for k (d.world.links s k)) in
        let awaited : awaits_one f ≡ waited = ap (λ (q : SiteFacts). awaits_one q) there ∙ sym (waited_as d s stands.links to.at.can.up) in
        let so : said ≡ answer_by waited (n.safe + 1) = says ∙ ap (λ (w : Bool). answer_by w number) awaited ∙ ap (λ (k : ℕ). answer_by waited k) wrote.0 in
        let burns : LeavesFuse IsLogged (answer_by waited number) before after = (answers_under waited number bytes before after under).burns in
        let written : is_written (answer_by waited number) ≡ true = written_so waited number in
        let shown : f' ≡ linked_fact e.world s =
        noted (subst (λ (q : SiteFacts). list_any (is_over (blocks_in bytes + 1)) q.links ≡ false) (sym there) counted)
        ∙ ap (λ (q : SiteFacts). logged_fact number (blocks_in bytes + 1) q) there ∙ ap (λ (k : ℕ). logged_fact k (blocks_in bytes + 1) (linked_fact d.world s)) wrote.0
        ∙ sym (written_fact d s x stands.links can to.at.can.origin whole) in
        subst (λ (r : Said). Leads d line r old new) (sym so) (leads_by [] (answer_by waited (n.safe + 1)) e
        (record {
          ends = λ l events notes. done_ends (IsTold new) d l s x first_choice (events first_choice) notes (stands.links.rows s) can;
          counts = record { done = λ told calls exact w. wrote.3 calls (told_after (raw_after (beside_of d s) (logged n x) refl wrote.2) told) exact; off = λ told calls exact off. absurd (never_off waited (n.safe + 1) off) };
          works = λ w. log_works (beside_of d s) n before after stood (answer_by waited number) burns racks fits written;
          calls = λ w. calls_pass (beside_of d s) n before after stood (answer_by waited number) burns racks lit written;
        })
        (stands_at d e old new s f' before after stands to.at.seat.below changed
        (written_comes d s x after stands.links can wrote.2 (fails_behind (beside_of d s) n before after stood (answer_by waited number) burns n refl fits)
        (fuse_spent (beside_of d s) n before after stood (answer_by waited number) burns x written lit) kind)
        (λ first. subst (λ (q : Node). BeginsFirst s q) (sym eff.is.node) (begins_like s n (logged n x) (λ bare. bare) refl refl refl refl first))
        (λ _. noted_none (beside_of d s) (logged n x) (e.world.nodes s) after wrote.2 to.none)
        (fact_at e.world s f' (over_is (logged n x) (e.world.nodes s) eff.is.node to.at.apart) shown) facts)
        (carries_node s d e (logged n x) old new load eff.site eff.sent eff.gathering eff.is.node refl refl refl (told_by old new s before after changed))
        (rose_still old new s before after changed.there changed.later changed.disk_sets))

    -- a disk failed in it
    half_leads : (disk number : ℕ) (f f' : SiteFacts) → IsSiteDisk n disk → WroteAt (beside_of d s) n x before after (Err (Device disk)) → WritesUnder bytes (Refused (Device disk)) before after → (n.safe < MOST_NUMBER → number ≡ n.safe + 1)
        → slice_get old.facts.items s ≡ Some f → (list_any (is_over (blocks_in bytes + 1)) f.links ≡ false → f' ≡ half_fact disk number (blocks_in bytes + 1) f) → new.facts.items ≡ slice_set old.facts.items s f'
        → SameLoad old new → Leads d line (Refused (Device disk)) old new
    half_leads disk number f f' names wrote under next_is at noted facts load =
        let can : IsLetIn d.world s x = lets wrote.2 in
        let e : Doubted = written_for d s x (Some disk) in
        let eff = line_halted d s x (stands.links.rows s) can disk in
        let there : f ≡ linked_fact d.world s = some_same (sym at ∙ to.at.seat.fact) in
        let shown : f' ≡ linked_fact e.world s =
        noted (subst (λ (q : SiteFacts). list_any (is_over (blocks_in bytes + 1)) q.links ≡ false) (sym there) counted)
        ∙ ap (λ (q : SiteFacts). half_fact disk number (blocks_in bytes + 1) q) there ∙ ap (λ (k : ℕ). half_fact disk k (blocks_in bytes + 1) (linked_fact d.world s)) (next_is wrote.2)
        ∙ sym (half_shown d s x stands.links can disk to.at.can.origin whole) in
        leads_by ((s, disk) ∷ []) (Refused (Device disk)) e
        (record {
          ends = λ l events notes. half_ends (IsTold new) d l s x first_choice (events first_choice) notes disk names;
          counts = record { done = λ told calls exact w. absurd (never_written (Device disk) w); off = λ told calls exact off. absurd (device_off disk off) };
          works = λ w. absurd (never_written (Device disk) w);
          calls = λ w. absurd (never_written (Device disk) w);
        })
        (stands_at d e old new s f' before after stands to.at.seat.below changed
        (half_comes d s x disk after stands.links can wrote.0 (fails_behind (beside_of d s) n before after stood (Refused (Device disk)) under.burns n refl fits)
        (fuse_burned (beside_of d s) n before after stood (Refused (Device disk)) under.burns (halted_with n x disk) refl (λ a b burnt. device_passes IsLogged (size_in before) disk a b burnt) lit) kind)
        (λ first. subst (λ (q : Node). BeginsFirst s q) (sym eff.is.node) (begins_like s n (halted_with n x disk) (λ bare. bare) refl refl refl refl first))
        (λ _. noted_none (beside_of d s) (halted_with n x disk) (e.world.nodes s) after wrote.0 to.none)
        (fact_at e.world s f' (over_is (halted_with n x disk) (e.world.nodes s) eff.is.node to.at.apart) shown) facts)
        (carries_node s d e (halted_with n x disk) old new load eff.site eff.sent eff.gathering eff.is.node refl refl refl (told_by old new s before after changed))
        (rose_at old new s disk before after changed wrote.1)

    -- no number is left
    none_leads : (what : Counted) (most : ℕ) (f f' : SiteFacts) → WroteAt (beside_of d s) n x before after (Err (Limit what most)) → WritesUnder bytes (Refused (Limit what most)) before after → slice_get old.facts.items s ≡ Some f
        → f' ≡ f → new.facts.items ≡ slice_set old.facts.items s f' → SameLoad old new → Leads d line (Refused (Limit what most)) old new
    none_leads what most f f' wrote under at noted facts load =
        let e : Doubted = with_one d s (worked n) in
        let there : f ≡ linked_fact d.world s = some_same (sym at ∙ to.at.seat.fact) in
        let shown : f' ≡ linked_fact e.world s =
        noted ∙ there
        ∙ sym (fact_same (worked n) (e.world.nodes s) (d.world.links s) (d.world.links s) d.world.sites d.world.sites (at_place d.world.nodes s (worked n)) (λ j. refl) refl
        ∙ fact_like n (worked n) (d.world.links s) d.world.sites (fuse_fact n (burned n.fuse)) (λ j l. refl)) in
        let burns : LeavesFuse IsLogged (Refused (Limit Number MOST_NUMBER)) before after = subst (λ (no : No). LeavesFuse IsLogged (Refused no) before after) wrote.0 under.burns in
        subst (λ (no : No). Leads d line (Refused no) old new) (sym wrote.0) (leads_by [] (Refused (Limit Number MOST_NUMBER)) e
        (record {
          ends = λ l events notes. none_ends (IsTold new) d l s x first_choice (events first_choice) notes (λ told. wrote.1 (told_after (raw_after (beside_of d s) (worked n) refl wrote.2) told));
          counts = record { done = λ told calls exact w. absurd (never_written (Limit Number MOST_NUMBER) w); off = λ told calls exact off. absurd (limit_off off) };
          works = λ w. absurd (never_written (Limit Number MOST_NUMBER) w);
          calls = λ w. absurd (never_written (Limit Number MOST_NUMBER) w);
        })
        (stands_at d e old new s f' before after stands to.at.seat.below changed
        (comes_one d s (worked n) after refl stands.links wrote.2
        (fails_behind (beside_of d s) n before after stood (Refused (Limit Number MOST_NUMBER)) burns (worked n) refl fits)
        (fuse_burned (beside_of d s) n before after stood (Refused (Limit Number MOST_NUMBER)) burns (worked n) refl (λ a b burnt. limit_passes IsLogged (size_in before) a b burnt) lit) kind)
        (λ first. subst (λ (q : Node). BeginsFirst s q) (sym (at_place d.world.nodes s (worked n))) (begins_like s n (worked n) (λ bare. bare) refl refl refl refl first))
        (λ _. noted_none (beside_of d s) (worked n) (e.world.nodes s) after wrote.2 to.none)
        (fact_at e.world s f' (over_is (worked n) (e.world.nodes s) (at_place d.world.nodes s (worked n)) to.at.apart) shown) facts)
        (carries_node s d e (worked n) old new load (changes_one d s (worked n)) refl refl (at_place d.world.nodes s (worked n)) refl refl refl (told_by old new s before after changed))
        (rose_still old new s before after changed.there changed.later changed.disk_sets))

    -- its fuse ran out, and the site is down
    cut_leads : (f f' : SiteFacts) → WroteAt (beside_of d s) n x before after (Err Off) → WritesUnder bytes (Refused Off) before after → slice_get old.facts.items s ≡ Some f
        → f' ≡ down_fact f → new.facts.items ≡ slice_set old.facts.items s f' → LetsGo old new s → Leads d line (Refused Off) old new
    cut_leads f f' wrote under at noted facts gone =
        ⊎_elim (λ own. by_own wrote.1.kept own wrote.1.count wrote.1.least wrote.1.most wrote.1.stands) (λ other. absurd (never_some (sym sure ∙ other))) wrote.1.is
      where
        can : IsLetIn d.world s x
        can = lets wrote.3

        sure : (beside_of d s).doubt ≡ None
        sure = running_sure (beside_of d s) n before stood to.at.can.up to.at.can.running

        by_own : (k : KeptSite) → k ≡ itself (beside_of d s) (half_begun n x) → (count : ℕ) → k.node.safe ≤ count → count ≤ length k.node.log → SiteStands (sure_of k) (fell_to (half_begun n x) k.node count) after → Leads d line (Refused Off) old new
        by_own k own =
            subst (λ (q : KeptSite). (count : ℕ) → q.node.safe ≤ count → count ≤ length q.node.log → SiteStands (sure_of q) (fell_to (half_begun n x) q.node count) after → Leads d line (Refused Off) old new) (sym own)
            (λ count least most stays.
            let e : Doubted = cut_for d s x count in
            let eff = worked_effect s d (cut_events d s x count) (crashed (half_begun n x) count) (line_cut d s x (stands.links.rows s) can count least most) in
            leads_by [] (Refused Off) e
            (record {
              ends = λ l events notes. cut_ends (IsTold new) d l s x (keeps_k count) (events (keeps_k count)) notes wrote.0;
              counts = record { done = λ told calls exact w. absurd (never_written Off w); off = λ told calls exact off. wrote.2 calls (told_after (raw_after (sure_of (itself (beside_of d s) (half_begun n x))) (fell_to (half_begun n x) (half_begun n x) count) refl stays) told) exact };
              works = λ w. absurd (never_written Off w);
              calls = λ w. absurd (never_written Off w);
            })
            (stands_at d e old new s f' before after stands to.at.seat.below changed
            (cut_comes d s x count after stands.links can least most stays (fails_behind (beside_of d s) n before after stood (Refused Off) under.burns n refl fits))
            (λ first. subst (λ (q : Node). BeginsFirst s q) (sym eff.is.node)
            (begins_like s n (crashed (half_begun n x) count) (λ bare. never_bare n to.at.can.up bare) refl refl refl refl first))
            (λ _. noted_none (sure_of (itself (beside_of d s) (half_begun n x))) (fell_to (half_begun n x) (half_begun n x) count) (e.world.nodes s) after stays to.none)
            (fact_at e.world s f' (over_is (crashed (half_begun n x) count) (e.world.nodes s) eff.is.node to.at.apart)
            (noted ∙ ap down_fact (some_same (sym at ∙ to.at.seat.fact)) ∙ cut_fact d s x count stands.links can least most)) facts)
            (carries_let s d e old new gone (omega (arith, to.at.seat.below, stands.disk_sets.few)) eff.site eff.sent eff.gathering (λ up. down_up (sym (ap (λ (q : Node). q.state) eff.is.node) ∙ up))
            (told_by old new s before after changed))
            (rose_still old new s before after changed.there changed.later changed.disk_sets))

    -- it was refused
    pub write_stops : (why : No) (said : Said) (number : ℕ) (f f' : SiteFacts) → BlamesSite n why → WroteAt (beside_of d s) n x before after (Err why) → WritesUnder bytes (Refused why) before after → said ≡ Refused why → (n.safe < MOST_NUMBER → number ≡ n.safe + 1)
        → slice_get old.facts.items s ≡ Some f → (list_any (is_over (blocks_in bytes + 1)) f.links ≡ false → f' ≡ unwritten_facts why number (blocks_in bytes + 1) f) → new.facts.items ≡ slice_set old.facts.items s f'
        → LetsGoBy why old new s → Leads d line said old new
    write_stops why said number f f' blames wrote under says next_is at noted facts gone = subst (λ (r : Said). Leads d line r old new) (sym says) (by_why why blames wrote under noted gone)
      where
        free : list_any (is_over (blocks_in bytes + 1)) f.links ≡ false
        free = subst (λ (q : SiteFacts). list_any (is_over (blocks_in bytes + 1)) q.links ≡ false) (sym (some_same (sym at ∙ to.at.seat.fact))) counted

        by_why : (why : No) → BlamesSite n why → WroteAt (beside_of d s) n x before after (Err why) → WritesUnder bytes (Refused why) before after
            → (list_any (is_over (blocks_in bytes + 1)) f.links ≡ false → f' ≡ unwritten_facts why number (blocks_in bytes + 1) f) → LetsGoBy why old new s → Leads d line (Refused why) old new
        by_why (Device disk) blames wrote under noted gone = half_leads disk number f f' blames wrote under next_is at noted facts (record { flight = gone.flight; assemblies = gone.assemblies; feeders = gone.feeders })
        by_why (Limit what most) blames wrote under noted gone = none_leads what most f f' wrote under at (noted free) facts (record { flight = gone.flight; assemblies = gone.assemblies; feeders = gone.feeders })
        by_why Off blames wrote under noted gone = cut_leads f f' wrote under at (noted free) facts (record { flight = gone.flight; assemblies = gone.assemblies; feeders = gone.feeders })
        by_why other blames wrote under noted gone = absurd wrote
