-- What a line that makes a group of a bare site leads a yard to.
use Rattle.std.proofs.Common.{◌≡◌, ◌⊎◌, ◌∙◌, ◌<◌, ◌≤◌, ℕ, zero, suc, true, false, List, [], ◌∷◌, map, ap, sym, subst, refl, arith, inl, inr}
use Rattle.std.specs.Prelude.{Option, Some, None, Contains, Result, Ok, Err, slice_get, slice_set}
use Rattle.std.proofs.lemmas.Option.{slice_get_within}
use Rattle.vx_model.specs.declared.errors.OutOfMemory.{OutOfMemory as MemoryError}
use Rattle.vx_model.specs.declared.errors.Stop.{Stop}
use Rattle.vx_model.specs.declared.errors.Stop.TheVariants.{No as Refused, OutOfMemory}
use Rattle.vx_model.specs.declared.no.No.TheVariants.{Device}
use Rattle.vx_model.specs.declared.site.SiteState.{SiteState}
use Rattle.vx_model.specs.declared.site.SiteState.TheVariants.{Bare as IsBare}
use Rattle.vx_model.specs.declared.limits.TheConstants.{LEAST_GROUP_BLOCKS}
use Rattle.vx_config.specs.declared.config.Config.{Config}
use Rattle.vx_config.specs.declared.entry.DiskEntry.{DiskEntry}
use Rattle.vx_config.specs.declared.entry.VolumeEntry.{VolumeEntry}
use Rattle.vx_copies.specs.Marks.{failed_at}
use Rattle.vx_disk.specs.Counts.{Rose}
use Rattle.vx_disk.specs.Shelf.{Meaning}
use Rattle.vx_disk.specs.declared.shelf.Shelf.{Ghosts}
use Rattle.vx_history.specs.Doubts.{Doubted, happened}
use Rattle.vx_history.specs.Groups.{GroupNode, MissedNote}
use Rattle.vx_history.specs.Steps.{group_set}
use Rattle.vx_history.specs.World.{Node, NoFuse, World}
use Rattle.vx_history.specs.declared.event.Event.TheVariants.{Group as MakeGroup}
use Rattle.vx_kept.specs.Cleans.{at_serial}
use Rattle.vx_kept.specs.Trusts.{HasFailed}
use Rattle.vx_order.specs.declared.facts.SiteFacts.{SiteFacts}
use Rattle.vx_order.specs.declared.facts.VolumeFacts.{VolumeFacts}
use Rattle.vx_script.specs.declared.line.ScriptLine.TheVariants.{GroupInit}
use Rattle.vx_grouped.specs.Begins.{BeginsGroup, FailsSince, HoldsFailed, IsEmptyGroup, IsFirstNote, group_begun}
use Rattle.vx_grouped.specs.GroupSites.{UpNoted, site_disks}
use Rattle.vx_grouped.specs.declared.group_site.GroupSite.{GroupSite}
use Rattle.vx_grouped.specs.declared.group_site.GroupSite.TheVariants.{Up as SiteUp, Deported as SiteAway, Down as SiteDown, Marked, Gone as SiteGone}
use Rattle.vx_diskset.specs.Asked.{FailsAs, SameFailing}
use Rattle.vx_diskset.specs.GroupCalls.{AtPlain, InitIs, bare_disks, cut_in}
use Rattle.vx_diskset.specs.GroupSets.{cut_value}
use Rattle.vx_diskset.specs.Holds.{beside_of}
use Rattle.vx_diskset.specs.Noted.{NotedOver}
use Rattle.vx_diskset.specs.Stands.{RoleIs, SiteStands, faults_at}
use Rattle.vx_diskset.specs.declared.disk_set.DiskSet.{DiskSet}
use Rattle.vx_diskset.specs.declared.disk_set.DiskSet.TheVariants.{OfGroup}
use Rattle.vx_events.proofs.OverSeats.{fact_apart}
use Rattle.vx_events.specs.Facts.{seat_of}
use Rattle.vx_events.specs.Fails.{Fails}
use Rattle.vx_events.specs.GroupEnds.{GroupDone, InitFails}
use Rattle.vx_events.specs.GroupLines.{is_over_group}
use Rattle.vx_events.specs.GroupNotes.{FirstNote}
use Rattle.vx_events.specs.GroupViews.{config_of, noted_table, plain_fact}
use Rattle.vx_events.specs.RvgFits.{config_rvg}
use Rattle.vx_events.specs.LinkedFacts.{linked_fact, links_by, links_of_site}
use Rattle.vx_events.specs.StepsOver.{fact_of_group, fact_over}
use Rattle.vx_events.specs.declared.said.Said.{Said}
use Rattle.vx_events.specs.declared.said.Said.TheVariants.{Done, Refused as SaidNo}
use Rattle.vx_yard.proofs.Carrying.{SameLoad, carries_same}
use Rattle.vx_yard.proofs.ChangeSite.{counts_later}
use Rattle.vx_yard.proofs.CrashLine.{rose_still}
use Rattle.vx_yard.proofs.FailsStay.{fails_then}
use Rattle.vx_yard.proofs.FuseStays.{fused_none}
use Rattle.vx_yard.proofs.Lists.{get-set_same}
use Rattle.vx_yard.proofs.NamedSite.{fact_placed, place_at}
use Rattle.vx_yard.proofs.NoteSite.{comes_same}
use Rattle.vx_yard.proofs.OneSite.{Changed, rose_at, stands_still, told_by}
use Rattle.vx_yard.proofs.OverGroup.{bare_apart}
use Rattle.vx_yard.specs.GroupFacts.{group_up_facts}
use Rattle.vx_yard.specs.Replies.{reply_to}
use Rattle.vx_yard.specs.Standing.{LeadsOver, LeadsOverIs, StandsFor}
use Rattle.vx_yard.specs.Stands.{RoseAll, fault_count}
use Rattle.vx_yard.specs.Working.{IsFree}
use Rattle.vx_yard.specs.Yards.{IsYardKept, count_of, in_files}
use Rattle.vx_yard.specs.declared.yard.Yard.{Yard}
use Rattle.vx_group_lines.proofs.BareSites.{IsBareSite, bare_counts, bare_site, bare_sure, blank_links, over_state}
use Rattle.vx_above.proofs.Fails.{all_rose, calls_name, calls_of, failed_calls}
use Rattle.vx_group_lines.proofs.Arriving.{arrives_made, arrives_none, arrives_noted, noted_at}
use Rattle.vx_group_lines.proofs.GroupAt.{up_notes}
use Rattle.vx_group_lines.proofs.GroupCalls.{SetThen, set_then}
use Rattle.vx_group_lines.proofs.GroupLeads.{follows_on, leads_by, up_set}
use Rattle.vx_above.proofs.GroupStatus.{config_is, table_is}
use Rattle.vx_group_lines.proofs.Tests.{InitMay, init_may}

-- what the tests see of it as a group without volumes
made_fact : (w : World) (s : ℕ) (note : GroupNode) → (w.nodes s).state ≡ IsBare → noted_table note ≡ [] → group_up_facts [] (linked_fact w s) ≡ fact_of_group (group_begun note s (w.nodes s)) note
made_fact w s note bare none =
    ap (λ (t : SiteState). let f : SiteFacts = record (group_up_facts [] (linked_fact w s)) { links = links_by t (links_of_site w s) } in f) bare
    ∙ ap (λ (vs : List VolumeFacts). let f : SiteFacts = record (fact_of_group (group_begun note s (w.nodes s)) note) { volumes = vs } in f) (sym none)

-- the disk at this place is held as failed where its entry is
entry_failed : (disks : List DiskEntry) (k : ℕ) (d : DiskEntry) → slice_get disks k ≡ Some d → d.failed ≡ true → failed_at disks k ≡ true
entry_failed [] k d at is = absurd (cc)
entry_failed (e ∷ es) zero d at is = let same : d ≡ e = cc at in ap (λ (x : DiskEntry). x.failed) (sym same) ∙ is
entry_failed (e ∷ es) (suc k) d at is = entry_failed es k d at is

-- the disk that is held as failed
failed_entry : (disks : List DiskEntry) (k : ℕ) → failed_at disks k ≡ true → (d : DiskEntry) × (slice_get disks k ≡ Some d) × (d.failed ≡ true)
failed_entry [] k is = absurd (cc)
failed_entry (d ∷ ds) zero is = (d, refl, is)
failed_entry (d ∷ ds) (suc k) is = failed_entry ds k is

module _ {R : Type 0} {g : Ghosts R} where
  -- what the tests of the line found
  pub record IsInitSite (d : Doubted) (y : Yard R g) (name : List ℕ) (s : ℕ) (e : DiskSet R g) : Type 0 where
    pub at : IsBareSite d y name s e
    pub large : LEAST_GROUP_BLOCKS ≤ (d.world.nodes s).blocks

  pub init_site : (d : Doubted) (y : Yard R g) (name : List ℕ) (s : ℕ) (e : DiskSet R g) → StandsFor d y → IsYardKept y → IsFree y (GroupInit name) → seat_of y.facts.items name ≡ Some s → slice_get y.disk_sets.items s ≡ Some e → IsInitSite d y name s e
  init_site d y name s e stands kept free seat there =
      let may : InitMay y.facts.items name = init_may y.facts.items (in_files y) name free in
      let n : Node = d.world.nodes s in
      let found : may.site.facts ≡ fact_over d.world s = fact_placed d y name s (place_at d y name s stands seat) seat may.site in
      let bare : n.state ≡ IsBare = sym (over_state n d.world s (is_over_group n) refl) ∙ ap (λ (f : SiteFacts). f.state) (sym found) ∙ may.bare in
      let at : IsBareSite d y name s e = bare_site d y name s e stands kept seat there bare in
      record { at = at; large = omega (arith, may.large, ap (λ (f : SiteFacts). f.blocks) (found ∙ fact_apart d.world s (bare_apart n at.is))) }

  -- ---- the note of the group

  first_note : (n m : Node) (note : GroupNode) (site : ℕ) (old : Meaning) (fails : Fails) (e : GroupSite R g) → ((k : ℕ) → k < n.disks → Rose (old.disk_faults k) ((site_disks e).disk_faults k) → Contains fails (site, k)) → IsFirstNote note → UpNoted m note e → IsEmptyGroup site n e
      → (note.loose ≡ false) ⊎ HoldsFailed e → FailsSince old e → FirstNote site n.disks n.blocks fails note × (noted_table note ≡ [])
  first_note n m note site old fails (SiteUp group) names first up empty loose failed =
      let c : Config = group.core.inner.config in
      let is : config_of note.config ≡ Some (at_serial 0 c) = config_is note.config c up.at.lies.config up.spells in (
        record {
          now = at_serial 0 c;
          is = is;
          site = empty.site_is;
          many = empty.many;
          each = λ k d at. empty.each k d at;
          failed = λ k d at is.
              let below = slice_get_within c.disks k d at in
              let many = empty.many in
              names k (omega (arith, below, many)) (failed k (entry_failed c.disks k d at is));
          volumes = empty.volumes;
          rvg = empty.rvg;
          begun = first.begun;
          loose = by loose;
          size = first.size;
          others = first.others;
          cut = first.cut;
          dark = first.dark;
          maps = record {
            none = λ v. ap (λ (w : MissedNote). w.mapped v) first.maps;
            doubt = λ v. ap (λ (w : MissedNote). w.doubt v) first.maps;
            serial = let same : note.maps.serial ≡ first.serial = ap (λ (w : MissedNote). w.serial) first.maps in let small = first.small in omega (arith, same, small);
          };
          inside = first.inside;
        },
        table_is note c is ∙ ap (λ (vs : List VolumeEntry). map plain_fact vs) empty.volumes,
      )
    where
      by : (note.loose ≡ false) ⊎ HasFailed group.core.inner.config.disks → (note.loose ≡ false) ⊎ ((k : ℕ) × (d : DiskEntry) × (slice_get group.core.inner.config.disks k ≡ Some d) × (d.failed ≡ true))
      by (inl tight) = inl tight
      by (inr some) = let found = failed_entry group.core.inner.config.disks some.disk some.failed in inr (some.disk, found.0, found.1, found.2)
  first_note n m note site old fails (SiteAway idle) names first up empty loose failed = absurd up
  first_note n m note site old fails (SiteDown idle) names first up empty loose failed = absurd up
  first_note n m note site old fails (Marked rack) names first up empty loose failed = absurd up
  first_note n m note site old fails SiteGone names first up empty loose failed = absurd up

  -- ---- the line

  module _ (d : Doubted) (old new : Yard R g) (name : List ℕ) (s : ℕ) (before after : DiskSet R g) (stands : StandsFor d old) (site : IsInitSite d old name s before) (changed : Changed old new s before after) (failing : SameFailing before after)
      (load : SameLoad old new) where
    abbrev n : Node
    n = d.world.nodes s

    unfused : n.fuse ≡ NoFuse
    unfused = ap (λ (k : Node). k.fuse) site.at.is

    fails_as : FailsAs n after
    fails_as = fails_then n n before after refl failing (stands.failing s before site.at.below changed.there)

    -- the failed calls of the line
    abbrev fails_here : Fails
    fails_here = failed_calls s (count_of old s) (count_of new s) n.disks

    count_old : (k : ℕ) → count_of old s k ≡ faults_at before k
    count_old k = ap (λ (o : Option (DiskSet R g)). fault_count o k) changed.there

    count_new : (k : ℕ) → count_of new s k ≡ faults_at after k
    count_new k =
        ap (λ (es : List (DiskSet R g)). fault_count (slice_get es s) k) changed.disk_sets
        ∙ ap (λ (o : Option (DiskSet R g)). fault_count o k) (get-set_same old.disk_sets.items s after (slice_get_within old.disk_sets.items s before changed.there))

    names_here : (e : GroupSite R g) → ((k : ℕ) → (site_disks e).disk_faults k ≡ faults_at after k) → (k : ℕ) → k < n.disks → Rose ((bare_disks before).disk_faults k) ((site_disks e).disk_faults k) → Contains fails_here (s, k)
    names_here e is k below rose =
        calls_name s (count_of old s) (count_of new s) n.disks k below
        (subst (λ (a : ℕ). Rose a (count_of new s k)) (bare_counts (beside_of d s) n before site.at.stood site.at.bare k ∙ sym (count_old k))
        (subst (λ (b : ℕ). Rose ((bare_disks before).disk_faults k) b) (is k ∙ sym (count_new k)) rose))

    rose_here : RoseAll fails_here (count_of old) (count_of new)
    rose_here =
        all_rose s n.disks (count_of old) (count_of new)
        (λ t k. subst (λ (es : List (DiskSet R g)). count_of old t k ≤ fault_count (slice_get es t) k) (sym changed.disk_sets)
        (counts_later old.disk_sets.items s before after changed.there changed.later t k))

    pub init_done : (done : Unit {0}) → InitIs s n before after (Ok done) → new.facts.items ≡ slice_set old.facts.items s (group_up_facts [] (linked_fact d.world s)) → LeadsOver d (GroupInit name) Done old new
    init_done done begun facts =
        let to : SetThen (λ e. BeginsGroup s n (bare_disks before) e (Ok done)) after = set_then (λ e. BeginsGroup s n (bare_disks before) e (Ok done)) after begun.0 in
        let note : GroupNode = to.holds.0 in
        let m : Node = group_begun note s n in
        let names = names_here to.set.site (λ k. ap (λ (x : DiskSet R g). faults_at x k) (sym to.is)) in
        let first = first_note n m note s (bare_disks before) fails_here to.set.site names to.holds.1 to.holds.2 to.holds.3 to.holds.4 to.holds.6 in
        let h : Doubted = happened d (MakeGroup s) false in
        let e : Doubted = noted_at h s note in
        let cut : cut_value to.set.cut ≡ None = ap (λ (x : DiskSet R g). cut_in x) (sym to.is) ∙ begun.1 in
        let fails : FailsAs m (OfGroup to.set) = subst (λ (x : DiskSet R g). FailsAs m x) to.is (fails_then n m before after refl failing (stands.failing s before site.at.below changed.there)) in
        leads_by d e (GroupInit name) s fails_here Done old new site.at.number
        (GroupDone note (calls_of s (count_of old s) (count_of new s) n.disks) (first.0, refl) (record { world = refl; after = λ i. refl; strayed = refl }))
        (follows_on d e s m note (group_up_facts [] (linked_fact d.world s)) old new before to.set stands site.at.below
        (subst (λ (x : DiskSet R g). Changed old new s before x) to.is changed)
        (arrives_noted d h s (group_set s n) note (d.world.gathering s)
        (arrives_made d d s n (d.world.gathering s)
        (arrives_none d s stands.links (bare_sure d s site.at.bare stands.links) (blank_links d s (stands.links.bare s site.at.bare))) site.at.below site.at.bare site.at.is))
        (up_notes m note to.set.site to.holds.2).0
        (up_set m note to.set (record { few = site.at.few; some = site.at.some }) to.holds.2 to.holds.5 (ap (λ (o : Option Config). config_rvg o) first.0.is ∙ first.0.rvg) cut to.holds.1.cut) fails (fused_none m (OfGroup to.set) unfused)
        (made_fact d.world s note site.at.bare first.1) facts load)
        rose_here

    -- it is bare as it was
    still : (Q : GroupSite R g → Type 0) → AtPlain Q after → SiteStands (beside_of d s) n after → new.facts ≡ old.facts → StandsFor d new
    still Q at here facts =
        let to : SetThen Q after = set_then Q after at in
        stands_still d d old new s before after stands site.at.below changed
        (comes_same d s after stands.links here fails_as (fused_none n after unfused) (subst (λ (x : DiskSet R g). RoleIs n x) (sym to.is) tt)) (λ was. was)
        (λ _. subst (λ (x : DiskSet R g). NotedOver n x) (sym to.is) tt) refl (ap (λ fs. fs.items) facts)

    pub init_stops : (stop : Stop) (said : Result Said MemoryError) → said ≡ reply_to stop → InitIs s n before after (Err stop) → SiteStands (beside_of d s) n after → new.facts ≡ old.facts → LeadsOverIs d (GroupInit name) old new said
    init_stops stop said says begun here facts = subst (λ (r : Result Said MemoryError). LeadsOverIs d (GroupInit name) old new r) (sym says) (by stop begun)
      where
        by : (stop : Stop) → InitIs s n before after (Err stop) → LeadsOverIs d (GroupInit name) old new (reply_to stop)
        by OutOfMemory begun = record {
          stands = still (λ e. BeginsGroup s n (bare_disks before) e (Err OutOfMemory)) begun.0 here facts;
          carries = carries_same d old new load (told_by old new s before after changed);
          rose = rose_still old new s before after changed.there changed.later changed.disk_sets;
        }
        by (Refused (Device disk)) begun =
            let to : SetThen (λ e. BeginsGroup s n (bare_disks before) e (Err (Refused (Device disk)))) after = set_then (λ e. BeginsGroup s n (bare_disks before) e (Err (Refused (Device disk)))) after begun.0 in
            let rose : Rose (faults_at before disk) (faults_at after disk) = subst (λ (x : DiskSet R g). Rose (faults_at before disk) (faults_at x disk)) (sym to.is)
            (subst (λ (k : ℕ). Rose k ((site_disks to.set.site).disk_faults disk)) (bare_counts (beside_of d s) n before site.at.stood site.at.bare disk) to.holds.1) in
            leads_by d d (GroupInit name) s ((s, disk) ∷ []) (SaidNo (Device disk)) old new site.at.number
            (InitFails disk name refl (refl, tt) (0, omega arith, refl) refl (record { world = refl; after = λ i. refl; strayed = refl }))
            (record { stands = still (λ e. BeginsGroup s n (bare_disks before) e (Err (Refused (Device disk)))) begun.0 here facts; carries = carries_same d old new load (told_by old new s before after changed) })
            (rose_at old new s disk before after changed rose)
        by (Refused other) begun = absurd (set_then (λ e. BeginsGroup s n (bare_disks before) e (Err (Refused other))) after begun.0).holds
