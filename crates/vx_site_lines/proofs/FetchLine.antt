-- A line that reads blocks of a site that may keep links.
use Rattle.std.proofs.Common.{◌≡◌, ◌∙◌, ◌+◌, ◌*◌, ◌<◌, ◌≤◌, ℕ, Bool, false, List, [], ◌∷◌, length, ap, sym, subst, refl, arith, inl, inr}
use Rattle.std.specs.Prelude.{None, Option, Some, Ok, Err, if◌then◌else◌, map, slice_get, unwrap_or}
use Rattle.std.specs.Str.{bytes_eq}
use Rattle.std.proofs.lemmas.Option.{slice_get_within}
use Rattle.vx_history.specs.Doubts.{Doubted}
use Rattle.vx_history.specs.Refusals.{Outcome}
use Rattle.vx_history.specs.Step.{outcome_of, step}
use Rattle.vx_history.specs.World.{Node, Volume, World}
use Rattle.vx_history.specs.declared.event.Event.{Event}
use Rattle.vx_history.specs.declared.event.Event.TheVariants.{Read as ReadAt}
use Rattle.vx_history.specs.declared.event.Said.TheVariants.{Got as HasGot}
use Rattle.vx_model.specs.declared.no.No.{No}
use Rattle.vx_model.specs.declared.no.No.TheVariants.{Device}
use Rattle.vx_model.specs.declared.site.Role.TheVariants.{Primary}
use Rattle.vx_model.specs.declared.site.SiteState.{SiteState}
use Rattle.vx_model.specs.declared.site.SiteState.TheVariants.{Bare as IsBare, Up as IsUp}
use Rattle.vx_disk.specs.Disks.{Untouched}
use Rattle.vx_disk.specs.declared.shelf.Shelf.{Ghosts}
use Rattle.vx_order.specs.declared.facts.SiteFacts.{SiteFacts}
use Rattle.vx_script.specs.declared.line.ScriptLine.{ScriptLine}
use Rattle.vx_script.specs.declared.line.ScriptLine.TheVariants.{Read, Show}
use Rattle.vx_diskset.specs.Asked.{LeavesAlone}
use Rattle.vx_diskset.specs.DiskSets.{CanRead}
use Rattle.vx_diskset.specs.Fetching.{GaveAt}
use Rattle.vx_diskset.specs.Fuses.{LeftAs}
use Rattle.vx_diskset.specs.Holds.{KeptBeside, beside_of}
use Rattle.vx_diskset.specs.Stands.{IsToldAt, KeepsRole, SiteStands, OverStands}
use Rattle.vx_diskset.specs.declared.disk_set.DiskSet.{DiskSet}
use Rattle.vx_diskset.specs.declared.disk_set.DiskSet.TheVariants.{Bare, Spoiled, Up, Receives, Down, OfGroup, Over, Gone}
use Rattle.vx_diskset.specs.declared.over_set.OverSite.{OverSite}
use Rattle.vx_diskset.specs.declared.over_set.OverSite.TheVariants.{Origin as OriginSite, Receiver as ReceiverSite, Deported as OverAway, Down as OverFell, Gone as NoOver}
use Rattle.vx_events.proofs.Blocks.{shown_are}
use Rattle.vx_events.proofs.Keeping.{read_stays}
use Rattle.vx_events.proofs.Places.{some_same}
use Rattle.vx_events.proofs.RefusedCalls.{CallMay}
use Rattle.vx_events.proofs.Steps.{read_step}
use Rattle.vx_events.specs.Ends.{Ends, noted}
use Rattle.vx_events.specs.Fails.{Fails}
use Rattle.vx_events.proofs.Passing.{IsCall}
use Rattle.vx_events.proofs.Testing.{volume_at, volume_kind}
use Rattle.vx_rvg.specs.Contents.{ShowsContent}
use Rattle.vx_events.specs.Facts.{group_by, group_fact, place_of, seat_of, site_number, volume_fact, volume_number}
use Rattle.vx_events.specs.GroupLines.{is_over_group}
use Rattle.vx_events.specs.LinkedFacts.{linked_fact}
use Rattle.vx_events.specs.Lines.{IsDone}
use Rattle.vx_events.specs.LinksFit.{LinksFit}
use Rattle.vx_events.specs.Lists.{Choice, events_of}
use Rattle.vx_events.specs.declared.said.Said.{Said}
use Rattle.vx_events.specs.declared.said.Said.TheVariants.{Got, Refused}
use Rattle.vx_site_lines.specs.Fetching.{IsReadLine}
use Rattle.vx_yard.specs.Working.{IsUngroupedAt}
use Rattle.vx_yard.specs.Stands.{RoseAll}
use Rattle.vx_yard.specs.Standing.{Leads, StandsFor}
use Rattle.vx_yard.specs.Yards.{IsTold, count_of}
use Rattle.vx_yard.specs.declared.yard.Yard.{Yard}
use Rattle.vx_yard.specs.Carries.{Carries}
use Rattle.vx_yard.proofs.Carrying.{SameLoad, carries_on, carries_same, feeds_same}
use Rattle.vx_yard.proofs.CrashLine.{rose_still}
use Rattle.vx_yard.proofs.FailsStay.{alone_keeps, fails_then}
use Rattle.vx_yard.proofs.FuseStays.{fused_on}
use Rattle.vx_yard.proofs.Lists.{get-set_same}
use Rattle.vx_yard.proofs.NamedSite.{SiteAt, apart_at, fact_named, named_at, site_at}
use Rattle.vx_yard.proofs.NoteSite.{comes_same, one_left, only_left}
use Rattle.vx_yard.proofs.OneSite.{Changed, Comes, beside_same, role_kept, rose_at, stands_still, told_by}
use Rattle.vx_site_lines.proofs.Apart.{never_up}
use Rattle.vx_diskset.specs.Noted.{NotedOver}
use Rattle.vx_yard.proofs.OverGroup.{noted_none, none_rvg}
use Rattle.vx_yard.proofs.RawSites.{raw_site, raw_told, ungrouped_over, ungrouped_site}
use Rattle.vx_yard.proofs.SiteEvents.{first_choice}
use Rattle.vx_diskset.proofs.Laying.{laid_in}
use Rattle.vx_diskset.specs.LaidBlocks.{laid_blockwise}
use Rattle.vx_order.specs.declared.facts.VolumeKind.TheVariants.{Data}
use Rattle.vx_events.proofs.DataPlaces.{DataPlaced, data_placed}
use Rattle.vx_events.proofs.Refused.{FoundAt, found_at}
use Rattle.vx_order.specs.declared.facts.VolumeFacts.{VolumeFacts}
use Rattle.std.specs.List.{find}
use Rattle.vx_events.specs.RvgViews.{is_over_rvg, over_table, table_at}
use Rattle.vx_events.specs.GroupNotes.{note_at}
use Rattle.vx_events.specs.StepsOver.{over_group_at}

-- ---- the event

-- the world behind a read: it is as it was
abbrev pub behind_read : Doubted → (s volume start count : ℕ) → Doubted
behind_read d s volume start count = record d { world = (step d.world (ReadAt s volume start count)).world }

-- the same world, with the headers of a read counted, of which there are none
abbrev pub recounted : Doubted → World → Doubted
recounted d v = record d { world = record v { headers = λ i. d.world.headers i + 0 } }

pub no_more : (n : ℕ) → n + 0 ≡ n
no_more n = omega arith

pub read_world : (d : Doubted) (s volume start count : ℕ) (P : Doubted → Type 0) → P (recounted d d.world) → P (behind_read d s volume start count)
read_world d s volume start count P here = subst (λ (v : World). P (recounted d v)) (sym (read_stays d.world s volume start count)) here

pub recounted_fits : (d : Doubted) → LinksFit d → LinksFit (recounted d d.world)
recounted_fits d fits = record {
  rows = fits.rows;
  later = fits.later;
  bare = λ p bare. let blank = fits.bare p bare in record { links = blank.links; headers = no_more (d.world.headers p) ∙ blank.headers };
  doubts = λ p a is.
      let f = fits.doubts p a is in
      record { up = f.up; halted = f.halted; up_too = f.up_too; halted_too = f.halted_too; row = f.row; starts = f.starts; quiet = f.quiet };
  starts = fits.starts;
  quiet = fits.quiet;
  rests = fits.rests;
}

-- a line that reads at this site, by the number of its volume
done_by : (told : Type 0) (d : Doubted) (line : ScriptLine) (name volume : List ℕ) (start count : ℕ) (fails : Fails) (said : Said) (next : Doubted) → IsReadLine line name volume start count
    → ((l : ScriptLine) → ((c : Choice) → events_of d.world l c ≡ ReadAt (site_number d.world name) (volume_number (d.world.nodes (site_number d.world name)) volume) start count ∷ [])
    → ((v : World) → noted (site_number d.world name) l v ≡ v) → Ends told d l (site_number d.world name) fails said next) → IsDone told d line fails said next
done_by told d line name volume start count fails said next (inl is) ends =
    subst (λ (l : ScriptLine). IsDone told d l fails said next) (sym is) (record { ends = ends (Read name volume start count) (λ c. refl) (λ v. refl); counts = tt; works = tt; calls = tt })
done_by told d line name volume start count fails said next (inr is) ends =
    subst (λ (l : ScriptLine). IsDone told d l fails said next) (sym is) (record { ends = ends (Show name volume start count) (λ c. refl) (λ v. refl); counts = tt; works = tt; calls = tt })

pub got_ends : (told : Type 0) (d : Doubted) (line : ScriptLine) (k v start count : ℕ) (bytes : List ℕ) → ((c : Choice) → events_of d.world line c ≡ ReadAt k v start count ∷ []) → ((u : World) → noted k line u ≡ u)
    → length bytes ≡ 512 * count → (told → IsCall d.world k v start count) → (told → ShowsContent (d.world.nodes k).base v start count bytes) → Ends told d line k [] (Got bytes) (behind_read d k v start count)
got_ends told d line k v start count bytes list still size call shows =
    let e : Event = ReadAt k v start count in
    one_left told d line k first_choice e (outcome_of d.world e) (Got bytes) (step d.world e).world (list first_choice) refl refl
    (record {
      bytes = bytes;
      got = refl;
      size = size;
      is = λ t. ap (λ (o : Outcome). o.said) (read_step d.world k v start count (call t)) ∙ ap (λ bs. HasGot bs) (shown_are (d.world.nodes k).base v start count bytes size (λ j inside. (shows t).each j inside));
    })
    (sym (still (step d.world e).world))

-- ---- what the tests found

-- the sizes of the volumes of a site that is up
record Whole (n : Node) : Type 0 where
  named : (v : ℕ) (x : Volume) → slice_get n.volumes v ≡ Some x → n.base.size v ≡ x.blocks

module _ {R : Type 0} {g : Ghosts R} where
  over_whole : (beside : KeptBeside) (n : Node) (s : OverSite R g) → OverStands beside n s → Whole n
  over_whole beside n (OriginSite f) h = let laid = laid_in n (laid_blockwise f.laid) h.lies in record { named = laid.named }
  over_whole beside n (ReceiverSite f) h = let laid = laid_in n (laid_blockwise f.laid) h.lies in record { named = laid.named }
  over_whole beside n (OverAway idle) h = record { named = h.1.lies.named }
  over_whole beside n (OverFell idle) h = record { named = h.2.lies.named }
  over_whole beside n NoOver h = absurd h

  whole_at : (beside : KeptBeside) (n : Node) (e : DiskSet R g) → is_over_group n ≡ false → n.state ≡ IsUp → SiteStands beside n e → Whole n
  whole_at beside n (Bare rack) apart up h = absurd (let e : IsBare ≡ IsUp = sym (ap (λ (k : Node). k.state) h.bare.is) ∙ up in cc)
  whole_at beside n (Spoiled rack) apart up h = absurd (let e : IsBare ≡ IsUp = sym (ap (λ (k : Node). k.state) h.is) ∙ up in cc)
  whole_at beside n (Up rvg) apart up h = let laid = laid_in n (g.meaning rvg.shelf) h.1.lies in record { named = laid.named }
  whole_at beside n (Receives site) apart up h = let laid = laid_in n (g.meaning site.rvg.shelf) h.1.lies in record { named = laid.named }
  whole_at beside n (Down rack) apart up h = record { named = h.lies.laid.named }
  whole_at beside n (OfGroup s) apart up h = never_up beside n s h apart up
  whole_at beside n (Over s) apart up h = over_whole beside n s.site h.1
  whole_at beside n Gone apart up h = absurd h

  -- a run of blocks of a data volume, by the numbers of its site and its volume
  pub record FetchAt (d : Doubted) (y : Yard R g) (name volume : List ℕ) (start count s place : ℕ) : Type 0 where
    pub seat : SiteAt d y name s
    pub apart : is_over_group (d.world.nodes s) ≡ false
    pub volume_is : volume_number (d.world.nodes s) volume ≡ place
    pub some : 1 ≤ count
    pub few : count ≤ 16
    pub can : CanRead (d.world.nodes s) place start count

  pub fetch_at : (d : Doubted) (y : Yard R g) (name volume : List ℕ) (start count s place : ℕ) (e : DiskSet R g) → StandsFor d y → over_group_at d.world name ≡ false → (may : CallMay y.facts.items name volume start count) → may.found.kind ≡ Data
      → seat_of y.facts.items name ≡ Some s → slice_get y.disk_sets.items s ≡ Some e → ((f : SiteFacts) → slice_get y.facts.items s ≡ Some f → place_of f.volumes volume ≡ Some place) → FetchAt d y name volume start count s place
  fetch_at d y name volume start count s place e stands apart may kind at there place_is =
      let over = apart_at d y name s stands apart at in
      let here = site_at d y name s stands over at in
      let n : Node = d.world.nodes s in
      let fact = fact_named d y name s here at may.site in
      let placed : DataPlaced n volume may.found =
      data_placed n volume may.found (ap (λ (k : SiteFacts). find (λ (v : VolumeFacts). bytes_eq v.name volume) k.volumes) (sym fact) ∙ may.finds) kind in
      let found : place_of (map volume_fact n.volumes) volume ≡ Some place = sym placed.same ∙ place_is (linked_fact d.world s) here.fact in
      let seen : FoundAt (λ (v : VolumeFacts). bytes_eq v.name volume) (map volume_fact n.volumes) placed.fact = found_at (λ (v : VolumeFacts). bytes_eq v.name volume) (map volume_fact n.volumes) placed.fact placed.found in
      let where_found : seen.place ≡ place = some_same (sym seen.is ∙ found) in
      let up : n.state ≡ IsUp = sym (ap (λ (k : SiteFacts). k.state) fact) ∙ may.up in
      let whole = whole_at (beside_of d s) n e over up (stands.disk_sets.sites s e here.below there) in
      let vol = volume_at n.volumes place placed.fact (ap (λ (i : ℕ). slice_get (map volume_fact n.volumes) i) (sym where_found) ∙ seen.there) in
      record {
        seat = here;
        apart = over;
        volume_is = ap (λ (o : Option ℕ). unwrap_or o 0) found;
        some = may.some;
        few = may.few;
        can = record {
          up = up;
          running = may.running (group_fact n) (ap (λ (k : SiteFacts). k.rvg) fact ∙ ap (λ (t : SiteState). group_by t n) up);
          volume_exists = slice_get_within n.volumes place vol.0 vol.1;
          within = omega (arith, may.range, vol.2, placed.blocks, whole.named place vol.0 vol.1);
        };
      }

  -- the same at a site that notes no group
  pub record Fetching (d : Doubted) (y : Yard R g) (name volume : List ℕ) (start count s place : ℕ) : Type 0 where
    pub seat : SiteAt d y name s
    pub apart : is_over_group (d.world.nodes s) ≡ false
    pub none : (d.world.nodes s).group ≡ None
    pub volume_is : volume_number (d.world.nodes s) volume ≡ place
    pub some : 1 ≤ count
    pub few : count ≤ 16
    pub can : CanRead (d.world.nodes s) place start count

  -- the volumes that the tests see there are data volumes
  raw_data : (d : Doubted) (y : Yard R g) (name volume : List ℕ) (start count s : ℕ) → StandsFor d y → IsUngroupedAt d.world name → seat_of y.facts.items name ≡ Some s → (may : CallMay y.facts.items name volume start count) → may.found.kind ≡ Data
  raw_data d y name volume start count s stands apart at may =
      let here = named_at d y name s stands (ungrouped_over d.world name apart) at in
      let n : Node = d.world.nodes s in
      let fact = fact_named d y name s here at may.site in
      let off : is_over_rvg n ≡ false = none_rvg n (ungrouped_site d.world name s here.number apart) in
      let table : table_at n ≡ map volume_fact n.volumes = ap (λ (b : Bool). if b then over_table n (note_at n) else map volume_fact n.volumes) off in
      volume_kind n.volumes may.at.place may.found
      (ap (λ (vs : List VolumeFacts). slice_get vs may.at.place) (sym (ap (λ (k : SiteFacts). k.volumes) fact ∙ table)) ∙ may.at.there)

  pub fetching : (d : Doubted) (y : Yard R g) (name volume : List ℕ) (start count s place : ℕ) (e : DiskSet R g) → StandsFor d y → IsUngroupedAt d.world name → CallMay y.facts.items name volume start count → seat_of y.facts.items name ≡ Some s
      → slice_get y.disk_sets.items s ≡ Some e → ((f : SiteFacts) → slice_get y.facts.items s ≡ Some f → place_of f.volumes volume ≡ Some place) → Fetching d y name volume start count s place
  fetching d y name volume start count s place e stands apart may at there place_is =
      let it = fetch_at d y name volume start count s place e stands (ungrouped_over d.world name apart) may (raw_data d y name volume start count s stands apart at may) at there place_is in
      record {
        seat = it.seat;
        apart = it.apart;
        none = ungrouped_site d.world name s it.seat.number apart;
        volume_is = it.volume_is;
        some = it.some;
        few = it.few;
        can = it.can;
      }

  -- ---- the disk set gave the blocks, or one of its disks failed

  module _ (d : Doubted) (old new : Yard R g) (s : ℕ) (before after : DiskSet R g) (stands : StandsFor d old) (below : s < d.world.sites) (changed : Changed old new s before after) (alone : LeavesAlone before after) (keeps : KeepsRole before after)
      (here : SiteStands (beside_of d s) (d.world.nodes s) after) (none : (d.world.nodes s).group ≡ None) (facts : new.facts ≡ old.facts) where
    -- the disk set of the site, of which nothing changed
    comes : Comes d d s after
    comes =
        let n : Node = d.world.nodes s in
        comes_same d s after stands.links here (fails_then n n before after refl (alone_keeps before after alone) (stands.failing s before below changed.there))
        (fused_on Untouched n n n.fuse before after refl (λ x y same left. subst (λ (z : Option (ℕ × ℕ)). LeftAs n.fuse z) (sym same.fuse) left) alone.told (stands.fuses s before below changed.there))
        (role_kept d old s before after stands below changed.there keeps)

    comes_recounted : Comes d (recounted d d.world) s after
    comes_recounted = record {
      changes = record { sites = refl; nodes = λ i apart. refl; links = λ i k apart. refl; headers = λ i apart. no_more (d.world.headers i); after = λ i apart. refl; strayed = λ calm. calm; gathering = λ i apart. refl };
      links = recounted_fits d stands.links;
      stands = subst (λ (b : KeptBeside). SiteStands b (d.world.nodes s) after) (sym (beside_same d (recounted d d.world) s refl (λ k. refl) (no_more (d.world.headers s)) refl)) here;
      failing = comes.failing;
      fuse = comes.fuse;
      role = comes.role;
      doubt = comes.doubt;
    }

    still_noted : NotedOver (d.world.nodes s) before → NotedOver (d.world.nodes s) after
    still_noted was = noted_none (beside_of d s) (d.world.nodes s) (d.world.nodes s) after here none

    pub stays_for : StandsFor d new
    stays_for = stands_still d d old new s before after stands below changed comes (λ first. first) still_noted refl (ap (λ fs. fs.items) facts)

    pub read_for : (k volume start count : ℕ) → StandsFor (behind_read d k volume start count) new
    read_for k volume start count =
        read_world d k volume start count (λ (e : Doubted). StandsFor e new) (stands_still d (recounted d d.world) old new s before after stands below changed comes_recounted (λ first. first) still_noted refl (ap (λ fs. fs.items) facts))

  -- at a primary
  pub fetch_leads : (d : Doubted) (line : ScriptLine) (old new : Yard R g) (name volume : List ℕ) (start count s place : ℕ) (bytes : List ℕ) (before after : DiskSet R g) → IsReadLine line name volume start count → StandsFor d old
      → Fetching d old name volume start count s place → (d.world.nodes s).role ≡ Primary → Changed old new s before after → LeavesAlone before after → KeepsRole before after → GaveAt (beside_of d s) (d.world.nodes s) place start count before after (Ok bytes)
      → new.facts ≡ old.facts → SameLoad old new → Leads d line (Got bytes) old new
  fetch_leads d line old new name volume start count s place bytes before after is stands read primary changed alone keeps gave facts load =
      let k : ℕ = site_number d.world name in
      let v : ℕ = volume_number (d.world.nodes k) volume in
      let can : CanRead (d.world.nodes k) v start count =
      subst (λ (i : ℕ). CanRead (d.world.nodes i) (volume_number (d.world.nodes i) volume) start count) (sym read.seat.number)
      (subst (λ (p : ℕ). CanRead (d.world.nodes s) p start count) (sym read.volume_is) read.can) in
      let shows : IsToldAt after → ShowsContent (d.world.nodes k).base v start count bytes =
      λ told. subst (λ (i : ℕ). ShowsContent (d.world.nodes i).base (volume_number (d.world.nodes i) volume) start count bytes) (sym read.seat.number)
      (subst (λ (p : ℕ). ShowsContent (d.world.nodes s).base p start count bytes) (sym read.volume_is) (gave.shows told)) in
      let there : slice_get new.disk_sets.items s ≡ Some after =
      ap (λ es. slice_get es s) changed.disk_sets ∙ get-set_same old.disk_sets.items s after (slice_get_within old.disk_sets.items s before changed.there) in
      let led : (d.world.nodes k).role ≡ Primary = subst (λ (i : ℕ). (d.world.nodes i).role ≡ Primary) (sym read.seat.number) primary in
      record {
        next = behind_read d k v start count;
        fails = [];
        done = done_by (IsTold new) d line name volume start count [] (Got bytes) (behind_read d k v start count) is
            (λ l list still. got_ends (IsTold new) d l k v start count bytes list still gave.size
            (λ told. record { site = omega (arith, read.seat.below, read.seat.number); up = can.up; running = can.running; primary = led; known = can.volume_exists; some = read.some; few = read.few; within = can.within })
            (λ told. shows (raw_told after (raw_site (beside_of d s) (d.world.nodes s) after read.none gave.stands) (told.each s after there))));
        carries = λ was. read_world d k v start count (λ (e : Doubted). Carries e new)
            (carries_on d (recounted d d.world) old new was load refl (λ i. refl) (λ i. feeds_same (d.world.nodes i) (d.world.nodes i) refl) (told_by old new s before after changed) (λ calm. calm));
        stands = read_for d old new s before after stands read.seat.below changed alone keeps gave.stands read.none facts k v start count;
        rose = rose_still old new s before after changed.there changed.later changed.disk_sets;
      }

  -- one of its disks failed
  pub fetch_stops : (d : Doubted) (line : ScriptLine) (old new : Yard R g) (name volume : List ℕ) (start count s place : ℕ) (no : No) (before after : DiskSet R g) → IsReadLine line name volume start count → StandsFor d old
      → Fetching d old name volume start count s place → Changed old new s before after → LeavesAlone before after → KeepsRole before after → GaveAt (beside_of d s) (d.world.nodes s) place start count before after (Err no)
      → new.facts ≡ old.facts → SameLoad old new → Leads d line (Refused no) old new
  fetch_stops d line old new name volume start count s place (Device disk) before after is stands read changed alone keeps gave facts load =
      let k : ℕ = site_number d.world name in
      record {
        next = d;
        fails = (k, disk) ∷ [];
        done = done_by (IsTold new) d line name volume start count ((k, disk) ∷ []) (Refused (Device disk)) d is
            (λ l list still. only_left (IsTold new) d l k (ReadAt k (volume_number (d.world.nodes k) volume) start count) disk (list first_choice) refl tt (still d.world));
        carries = carries_same d old new load (told_by old new s before after changed);
        stands = stays_for d old new s before after stands read.seat.below changed alone keeps gave.0 read.none facts;
        rose = subst (λ (i : ℕ). RoseAll ((i, disk) ∷ []) (count_of old) (count_of new)) (sym read.seat.number) (rose_at old new s disk before after changed gave.1);
      }
  fetch_stops d line old new name volume start count s place other before after is stands read changed alone keeps gave facts load = absurd gave
