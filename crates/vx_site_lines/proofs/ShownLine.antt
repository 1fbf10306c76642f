-- What a line leaves that shows blocks of a site that receives.
use Rattle.std.proofs.Common.{◌≡◌, ◌∙◌, ◌*◌, inl, inr, ℕ, Bool, true, false, List, [], length, ap, arith, sym, subst, refl}
use Rattle.std.specs.Prelude.{Ok, Err, slice_get, Some}
use Rattle.std.proofs.lemmas.List.{drop_all}
use Rattle.std.proofs.lemmas.Option.{slice_get_within}
use Rattle.vx_model.specs.Content.{Content, Write, fold_writes}
use Rattle.vx_model.specs.Sites.{is_origin}
use Rattle.vx_model.specs.declared.no.No.{No}
use Rattle.vx_model.specs.declared.no.No.TheVariants.{Device}
use Rattle.vx_model.specs.declared.site.Role.{Role}
use Rattle.vx_model.specs.declared.site.Role.TheVariants.{Primary, Secondary, Handing, Bunker}
use Rattle.vx_history.specs.Doubts.{Doubted}
use Rattle.vx_history.specs.Refusals.{is_primary}
use Rattle.vx_history.specs.World.{Node}
use Rattle.vx_history.specs.declared.event.Said.TheVariants.{Got as HasGot}
use Rattle.vx_disk.specs.declared.shelf.Shelf.{Ghosts}
use Rattle.vx_rvg.specs.Contents.{ShowsContent}
use Rattle.vx_events.proofs.Blocks.{shown_are}
use Rattle.vx_events.specs.Ends.{ShowsReceived}
use Rattle.vx_events.proofs.DataNamed.{read_role}
use Rattle.vx_events.proofs.RefusedCalls.{read_may}
use Rattle.vx_events.specs.Facts.{seat_of, site_number, volume_number}
use Rattle.vx_events.specs.Sayings.{received_content}
use Rattle.vx_events.specs.declared.said.Said.TheVariants.{Got, Refused}
use Rattle.vx_script.specs.declared.line.ScriptLine.{ScriptLine}
use Rattle.vx_script.specs.declared.line.ScriptLine.TheVariants.{Read, Show}
use Rattle.vx_diskset.specs.Asked.{LeavesAlone}
use Rattle.vx_diskset.specs.DiskSets.{CanRead}
use Rattle.vx_diskset.specs.Fetching.{GaveAt}
use Rattle.vx_diskset.specs.Holds.{KeptBeside, beside_of}
use Rattle.vx_diskset.specs.Received.{ShowedAt}
use Rattle.vx_diskset.specs.Stands.{IsToldAt, KeepsRole}
use Rattle.vx_diskset.specs.declared.disk_set.DiskSet.{DiskSet}
use Rattle.vx_site_lines.specs.Fetching.{IsReadLine}
use Rattle.vx_site_lines.specs.Shown.{GaveShown, GaveShownAt}
use Rattle.vx_yard.specs.Standing.{Leads, StandsFor}
use Rattle.vx_yard.specs.Working.{IsFree}
use Rattle.vx_yard.specs.Yards.{in_files}
use Rattle.vx_yard.specs.declared.yard.Yard.{Yard}
use Rattle.vx_yard.proofs.Carrying.{SameLoad, carries_same}
use Rattle.vx_yard.proofs.CrashLine.{rose_still}
use Rattle.vx_site_lines.proofs.FetchLine.{Fetching, fetch_leads, fetch_stops, stays_for}
use Rattle.vx_yard.proofs.Lists.{get-set_same}
use Rattle.vx_yard.proofs.NamedSite.{fact_named}
use Rattle.vx_yard.proofs.RawSites.{raw_site, raw_told}
use Rattle.vx_yard.proofs.OneSite.{Changed, told_by}
use Rattle.vx_site_lines.proofs.WriteCalls.{whole_log}
use Rattle.vx_yard.proofs.OverGroup.{both_ways, none_rvg}

pub not_primary : (r : Role) → is_origin r ≡ false → is_primary r ≡ false
not_primary Primary is = absurd (let e : true ≡ false = is in cc)
not_primary Secondary is = refl
not_primary (Handing to) is = refl
not_primary Bunker is = refl

pub primary_of : (r : Role) → is_primary r ≡ true → r ≡ Primary
primary_of Primary is = refl
primary_of Secondary is = absurd (let e : false ≡ true = is in cc)
primary_of (Handing to) is = absurd (let e : false ≡ true = is in cc)
primary_of Bunker is = absurd (let e : false ≡ true = is in cc)

-- where all writes are durable it shows the content
pub all_shown : (n : Node) → length n.log ≡ n.safe → received_content n ≡ n.base
all_shown n durable = ap (λ (ws : List Write). fold_writes n.base ws) (drop_all n.safe n.log (omega (arith, durable)))

module _ {R : Type 0} {g : Ghosts R} where
  -- ---- the call

  pub shown_blocks : (beside : KeptBeside) (n : Node) (volume start count k : ℕ) (bytes items : List ℕ) (old new : DiskSet R g) (done : Unit {0}) → count ≡ k → items ≡ bytes → length bytes ≡ 512 * count
      → (CanRead n volume start k → ShowedAt beside n volume start k bytes old new (Ok done)) → CanRead n volume start count → GaveShown beside n volume start count items new
  shown_blocks beside n volume start count k bytes items old new done same is size reads can =
      let got = reads (subst (λ (j : ℕ). CanRead n volume start j) same can) in
      subst (λ (xs : List ℕ). GaveShown beside n volume start count xs new) (sym is) (record {
        size = size;
        shows = λ told. subst (λ (j : ℕ). ShowsContent (received_content n) volume start j bytes) (sym same) (got.0 told);
        stands = got.1;
      })

  pub shown_none : (beside : KeptBeside) (n : Node) (volume start count k : ℕ) (bytes : List ℕ) (old new : DiskSet R g) (no : No) → count ≡ k
      → (CanRead n volume start k → ShowedAt beside n volume start k bytes old new (Err no)) → CanRead n volume start count → GaveShownAt beside n volume start count old new (Err no)
  shown_none beside n volume start count k bytes old new why same reads can = by why (reads (subst (λ (j : ℕ). CanRead n volume start j) same can))
    where
      by : (why : No) → ShowedAt beside n volume start k bytes old new (Err why) → GaveShownAt beside n volume start count old new (Err why)
      by (Device disk) h = h
      by other h = h

  -- ---- the line

  module _ (d : Doubted) (old new : Yard R g) (name volume : List ℕ) (start count s place : ℕ) (before after : DiskSet R g) (stands : StandsFor d old) (read : Fetching d old name volume start count s place) (changed : Changed old new s before after)
      (alone : LeavesAlone before after) (keeps : KeepsRole before after) (facts : new.facts ≡ old.facts) (load : SameLoad old new) where
    pub shown_leads : (bytes : List ℕ) → is_primary (d.world.nodes s).role ≡ false → GaveShown (beside_of d s) (d.world.nodes s) place start count bytes after → Leads d (Show name volume start count) (Got bytes) old new
    shown_leads bytes other gave =
        let k : ℕ = site_number d.world name in
        let v : ℕ = volume_number (d.world.nodes k) volume in
        let role : is_primary (d.world.nodes k).role ≡ false = subst (λ (i : ℕ). is_primary (d.world.nodes i).role ≡ false) (sym read.seat.number) other in
        let shows : IsToldAt after → ShowsContent (received_content (d.world.nodes k)) v start count bytes =
        λ told. subst (λ (i : ℕ). ShowsContent (received_content (d.world.nodes i)) (volume_number (d.world.nodes i) volume) start count bytes) (sym read.seat.number)
        (subst (λ (p : ℕ). ShowsContent (received_content (d.world.nodes s)) p start count bytes) (sym read.volume_is) (gave.shows told)) in
        let there : slice_get new.disk_sets.items s ≡ Some after =
        ap (λ es. slice_get es s) changed.disk_sets ∙ get-set_same old.disk_sets.items s after (slice_get_within old.disk_sets.items s before changed.there) in
        record {
          next = d;
          fails = [];
          done = record {
            ends = ShowsReceived name volume start count refl role
                (record {
                  bytes = bytes;
                  got = refl;
                  size = gave.size;
                  is = λ told. ap (λ bs. HasGot bs) (shown_are (received_content (d.world.nodes k)) v start count bytes gave.size (λ j inside. (shows (raw_told after (raw_site (beside_of d s) (d.world.nodes s) after read.none gave.stands) (told.each s after there))).each j inside));
                })
                tt (record { world = refl; after = λ i. refl; strayed = refl });
            counts = tt;
            works = tt;
            calls = tt;
          };
          stands = stays_for d old new s before after stands read.seat.below changed alone keeps gave.stands read.none facts;
          carries = carries_same d old new load (told_by old new s before after changed);
          rose = rose_still old new s before after changed.there changed.later changed.disk_sets;
        }

    pub shown_stops : (no : No) → GaveShownAt (beside_of d s) (d.world.nodes s) place start count before after (Err no) → Leads d (Show name volume start count) (Refused no) old new
    shown_stops (Device disk) gave = fetch_stops d (Show name volume start count) old new name volume start count s place (Device disk) before after (inr refl) stands read changed alone keeps gave facts load
    shown_stops other gave = absurd gave

    -- blocks of a site that has all its writes, whichever line reads them
    pub fetched_leads : (line : ScriptLine) (bytes : List ℕ) → IsReadLine line name volume start count → IsFree old line → seat_of old.facts.items name ≡ Some s → is_origin (d.world.nodes s).role ≡ true
        → GaveAt (beside_of d s) (d.world.nodes s) place start count before after (Ok bytes) → Leads d line (Got bytes) old new
    fetched_leads line bytes (inl is) free seat origin gave =
        let free_read : IsFree old (Read name volume start count) = subst (λ (l : ScriptLine). IsFree old l) is free in
        let may = read_may old.facts.items (in_files old) name volume start count free_read in
        fetch_leads d line old new name volume start count s place bytes before after (inl is) stands read
        (read_role d.world s old.facts.items (in_files old) name volume start count may.site (fact_named d old name s read.seat seat may.site) read.can.up (λ over. absurd (both_ways over (none_rvg (d.world.nodes s) read.none))) free_read) changed alone keeps gave facts load
    fetched_leads line bytes (inr is) free seat origin gave = by (is_primary n.role) refl
      where
        n : Node
        n = d.world.nodes s

        durable : length n.log ≡ n.safe
        durable = whole_log (beside_of d s) n before (stands.disk_sets.sites s before read.seat.below changed.there) read.can.up read.can.running origin

        by : (b : Bool) → is_primary n.role ≡ b → Leads d line (Got bytes) old new
        by true primary = fetch_leads d line old new name volume start count s place bytes before after (inr is) stands read (primary_of n.role primary) changed alone keeps gave facts load
        by false other =
            subst (λ (l : ScriptLine). Leads d l (Got bytes) old new) (sym is)
            (shown_leads bytes other (record {
              size = gave.size;
              shows = λ told. subst (λ (c : Content). ShowsContent c place start count bytes) (sym (all_shown n durable)) (gave.shows told);
              stands = gave.stands;
            }))
