-- What the import of a group that is down leads a yard to where it is refused.
use Rattle.vx_above.proofs.SiteCalls.{calls}
use Rattle.std.proofs.Common.{◌≡◌, ◌∙◌, ◌⊎◌, inl, inr, ⊎_elim, ◌<◌, ◌≤◌, ℕ, suc, true, false, List, [], length, ap, sym, subst, refl, arith, IsTrue, Bool}
use Rattle.std.specs.Prelude.{Contains, Option, Some, None, slice_get, slice_set, Result, Err, not}
use Rattle.std.proofs.lemmas.Option.{slice_get_within}
use Rattle.vx_model.specs.Content.{Content}
use Rattle.vx_model.specs.declared.errors.OutOfMemory.{OutOfMemory}
use Rattle.vx_model.specs.declared.errors.Stop.{Stop}
use Rattle.vx_model.specs.declared.errors.Stop.TheVariants.{No as StopsBy, OutOfMemory as MemoryStop}
use Rattle.vx_model.specs.declared.no.Counted.{Counted}
use Rattle.vx_model.specs.declared.no.Counted.TheVariants.{Number as Numbers}
use Rattle.vx_model.specs.declared.no.No.{No}
use Rattle.vx_model.specs.declared.no.No.TheVariants.{Damaged, Device, Format, Limit, Missing as Lacks, NoConfig}
use Rattle.vx_model.specs.declared.site.SiteState.TheVariants.{Down as IsDown}
use Rattle.vx_disk.specs.Counts.{Rose}
use Rattle.vx_disk.specs.declared.shelf.Shelf.{Ghosts}
use Rattle.vx_history.specs.Doubts.{Doubted}
use Rattle.vx_history.specs.Groups.{GroupNode}
use Rattle.vx_history.specs.World.{Node}
use Rattle.vx_order.specs.declared.facts.SiteFacts.{SiteFacts}
use Rattle.vx_script.specs.declared.line.ScriptLine.TheVariants.{Recover}
use Rattle.vx_grouped.proofs.ReadyLemmas.{imported_same}
use Rattle.vx_grouped.specs.GroupSites.{DownNoted, FitsPlain, site_disks}
use Rattle.vx_grouped.specs.SiteMaps.{CameMapped, StandMaps}
use Rattle.vx_grouped.specs.SiteReturns.{ImportWhy, KnownAway, SomeRose, SiteRecovers, as_imported, is_dimmed, stops_early}
use Rattle.vx_grouped.specs.declared.group_site.GroupSite.{GroupSite}
use Rattle.vx_diskset.specs.Asked.{FailsAs, SameFailing}
use Rattle.vx_diskset.specs.DiskSets.{Later}
use Rattle.vx_diskset.specs.GroupCalls.{AtFound, cut_in}
use Rattle.vx_diskset.specs.GroupSets.{cut_value, noted_cut}
use Rattle.vx_diskset.specs.Holds.{beside_of}
use Rattle.vx_diskset.specs.Recovers.{RaisesGroup, RaisesMaps, StaysBack}
use Rattle.vx_diskset.specs.declared.disk_set.DiskSet.{DiskSet}
use Rattle.vx_diskset.specs.declared.disk_set.DiskSet.TheVariants.{OfGroup}
use Rattle.vx_diskset.specs.declared.group_set.CutWrite.{CutWrite}
use Rattle.vx_diskset.specs.declared.group_set.GroupSet.{GroupSet}
use Rattle.vx_events.specs.Doubts.{IsAs, run_as}
use Rattle.vx_events.specs.GroupEnds.{FindsNoGroup, FoundNo, GroupEnds, GroupFails, GroupNotFound, KnowsNothing, NotFound, NotFoundLeaves}
use Rattle.vx_events.specs.GroupLines.{crash_first, is_over_group, noting}
use Rattle.vx_events.specs.GroupNotes.{note_at, NotesRefused}
use Rattle.vx_events.specs.StepsOver.{fact_of_group}
use Rattle.vx_events.specs.declared.said.Said.{Said}
use Rattle.vx_events.specs.declared.said.Said.TheVariants.{Refused}
use Rattle.vx_yard.proofs.Carrying.{SameLoad}
use Rattle.vx_yard.proofs.FailsStay.{fails_then}
use Rattle.vx_yard.proofs.FuseStays.{fused_none}
use Rattle.vx_yard.proofs.Lists.{get-set_same, set_same}
use Rattle.vx_yard.proofs.OneSite.{Changed}
use Rattle.vx_yard.specs.Standing.{StandsFor}
use Rattle.vx_yard.specs.Yards.{IsTold}
use Rattle.vx_yard.specs.declared.yard.Yard.{Yard}
use Rattle.vx_group_lines.specs.Noting.{IsNotedRefusal, KeepsRest, reply_noted}
use Rattle.vx_group_lines.specs.Rises.{ComesDown, RisesFor, RisesIs}
use Rattle.vx_group_lines.proofs.Arriving.{Arrives, arrives_noted, noted_at}
use Rattle.vx_group_lines.proofs.GroupAt.{down_noted, down_notes, lit_down, loose_down}
use Rattle.vx_group_lines.proofs.GroupCalls.{Called, calls_all, calls_are, calls_named, calls_none, maps_were, plain_were}
use Rattle.vx_group_lines.proofs.GroupLeads.{Follows, Sized, down_set, follows_on, sized_of}
use Rattle.vx_group_lines.proofs.GroupMarks.{begins_at, group_noted_at}
use Rattle.vx_group_lines.proofs.MapComing.{stays_down}
use Rattle.vx_group_lines.proofs.Rising.{fits_as, refused_as, sits_down, told_of, unfused_down}
use Rattle.vx_events.proofs.RvgStays.{refused_config}
use Rattle.vx_events.specs.GroupViews.{config_of}
use Rattle.vx_events.specs.RvgFits.{config_rvg, rvg_noted}
use Rattle.vx_group_lines.proofs.Dimming.{dimmed_by, knows_none, no_call, none_found, notes_refused, early_known, notes_short}

-- ---- counts

pub rose_up : (a b c k : ℕ) → b ≡ a → Rose b c → c ≤ k → Rose a k
rose_up a b c k is rose later = record {
  fell_not = omega (arith, is, rose.fell_not, later);
  rose = ⊎_elim (λ less. inl (omega (arith, is, less, later))) (λ top. inr (omega (arith, top, later))) rose.rose;
}

pub fits_note : (k next : GroupNode) → k.bytes ≡ next.bytes → (x : CutWrite) → FitsPlain next x.volume x.block (length x.bytes) → FitsPlain k x.volume x.block (length x.bytes)
fits_note k next same x fits = record { some = fits.some; whole = fits.whole; within = omega (arith, fits.within, ap (λ (b : Content). b.size x.volume) same) }

module _ {R : Type 0} {g : Ghosts R} where
  pub later_then : (a b c : DiskSet R g) → Later a b → Later b c → Later a c
  later_then a b c one two = record { counts = λ k. omega (arith, one.counts k, two.counts k); told = λ told. one.told (two.told told) }

  -- ---- the import

  -- the yard behind the call that imports
  pub record RaisedTo (old mid : Yard R g) (s : ℕ) (before after : DiskSet R g) : Type 0 where
    pub there : slice_get old.disk_sets.items s ≡ Some before
    pub disk_sets : mid.disk_sets.items ≡ slice_set old.disk_sets.items s after
    pub facts : mid.facts.items ≡ old.facts.items
    pub racks : mid.racks ≡ old.racks
    pub load : SameLoad old mid
    pub failing : SameFailing before after
    pub later : Later before after

  -- where the line begins
  pub record Begins (e : Doubted) (s : ℕ) (old : Yard R g) : Type 0 where
    pub stands : StandsFor e old
    pub below : s < e.world.sites
    pub over : is_over_group (e.world.nodes s) ≡ true
    pub down : (e.world.nodes s).state ≡ IsDown

  module _ (e : Doubted) (s : ℕ) (old new : Yard R g) (before after : DiskSet R g) (begin : Begins e s old) (call : Called e old new [] s before after) where
    abbrev n : Node
    n = e.world.nodes s

    abbrev note : GroupNode
    note = note_at (e.world.nodes s)

    abbrev site : GroupSite R g
    site = call.at.set.site

    pub is_down : DownNoted (e.world.nodes s) (note_at (e.world.nodes s)) call.at.set.site
    is_down = down_noted n site call.at.stands.stands begin.down

    pub sized : Sized (e.world.nodes s)
    sized = sized_of (beside_of e s) n call.at.set call.at.stands

    noted : (e.world.nodes s).group ≡ Some (note_at (e.world.nodes s))
    noted = group_noted_at e old [] s before call.at

    pub was_cut : cut_value call.at.set.cut ≡ (note_at (e.world.nodes s)).cut
    was_cut = call.at.stands.cut ∙ ap (λ (o : Option GroupNode). noted_cut o) noted

    pub was_fits : (x : CutWrite) → call.at.set.cut ≡ Some x → FitsPlain (note_at (e.world.nodes s)) x.volume x.block (length x.bytes)
    was_fits x is = (call.at.stands.lies x is).fits note noted

    pub turned : (set : GroupSet R g) → after ≡ OfGroup set → Changed old new s before (OfGroup set)
    turned set is = subst (λ (x : DiskSet R g). Changed old new s before x) is call.changed

    pub still_fails : (m : Node) (set : GroupSet R g) → after ≡ OfGroup set → m.failing ≡ n.failing → FailsAs m (OfGroup set)
    still_fails m set is same =
        subst (λ (x : DiskSet R g). FailsAs m x) is (fails_then n m before after same call.failing (begin.stands.failing s before call.at.below call.changed.there))

    pub there_now : slice_get new.disk_sets.items s ≡ Some after
    there_now =
        ap (λ (es : List (DiskSet R g)). slice_get es s) call.changed.disk_sets
        ∙ get-set_same old.disk_sets.items s after (slice_get_within old.disk_sets.items s before call.changed.there)

    pub starts : Arrives e e s (e.world.nodes s) (e.world.gathering s)
    starts = begins_at e old [] s before begin.stands call.at

    -- ---- it is down still

    abbrev dims : Bool
    dims = is_dimmed call.at.set.site

    pub loose : is_dimmed call.at.set.site ≡ true → (note_at (e.world.nodes s)).loose ≡ true
    loose is = loose_down n note site is_down is

    -- the note behind a refusal that came before the first write, or behind it
    abbrev left_note : Bool → GroupNode
    left_note late = dimmed_by late (is_dimmed call.at.set.site) (note_at (e.world.nodes s))

    abbrev left_node : Bool → Node
    left_node late = record (e.world.nodes s) { group = Some (left_note late) }

    left_plain : (late : Bool) → rvg_noted (left_note late) ≡ None
    left_plain late =
        ap (λ (c : List ℕ). config_rvg (config_of c)) (refused_config note (left_note late) (notes_refused late dims note)) ∙ plain_were e old new [] s before after begin.stands call

    stays : (late : Bool) (set : GroupSet R g) → after ≡ OfGroup set → DownNoted (left_node late) (left_note late) set.site → StandMaps (left_note late) set.site → cut_in after ≡ cut_value call.at.set.cut → new.facts.items ≡ old.facts.items → SameLoad old new
        → Follows e (noted_at e s (left_note late)) old new
    stays late set is holds maps cut facts load =
        let k : GroupNode = left_note late in
        let m : Node = left_node late in
        let same : cut_value set.cut ≡ cut_value call.at.set.cut = ap (λ (x : DiskSet R g). cut_in x) (sym is) ∙ cut in
        follows_on e (noted_at e s k) s m k (fact_of_group n note) old new before set begin.stands begin.below (turned set is) (arrives_noted e e s n k (e.world.gathering s) starts) (down_notes m k set.site holds).0
        (down_set m k set (record { few = sized.few; some = sized.some }) holds maps (left_plain late) (same ∙ was_cut) (fits_as k call.at.set.cut set.cut same (λ x at. fits_note k note refl x (was_fits x at)))) (still_fails m set is refl)
        (fused_none m (OfGroup set) (unfused_down n note site is_down)) refl (facts ∙ sym (set_same old.facts.items s (fact_of_group n note) call.at.fact)) load

    -- what a recovery notes that is refused
    left_last : (late : Bool) (d : Doubted) (comes : ComesDown d e s)
        → let last = run_as false d (crash_first (d.world.nodes s).state s) in IsAs last (noting last.world s (left_note late)) (noted_at e s (left_note late))
    left_last late d comes = subst (λ (x : Doubted). IsAs x (noting x.world s (left_note late)) (noted_at e s (left_note late))) (sym (refused_as d e s comes)) (record { world = refl; after = λ i. refl; strayed = refl })

    left_notes : (late : Bool) (d : Doubted) → ComesDown d e s → NotesRefused (note_at (d.world.nodes s)) (left_note late)
    left_notes late d comes = subst (λ (k : GroupNode). NotesRefused k (left_note late)) comes.note (notes_refused late dims note)

    -- the tests see the same
    quiet : (mid : Yard R g) → mid.facts.items ≡ old.facts.items → new.facts.items ≡ slice_set mid.facts.items s (fact_of_group (e.world.nodes s) (note_at (e.world.nodes s))) → new.facts.items ≡ old.facts.items
    quiet mid facts is =
        is ∙ ap (λ (fs : List SiteFacts). slice_set fs s (fact_of_group n note)) facts ∙ set_same old.facts.items s (fact_of_group n note) call.at.fact

    loaded : (mid : Yard R g) → SameLoad old mid → KeepsRest mid new → new.assemblies.items ≡ mid.assemblies.items → SameLoad old new
    loaded mid load rest same = record {
      flight = rest.flight ∙ load.flight;
      assemblies = same ∙ load.assemblies;
      feeders = ap (λ xs. xs.items) rest.feeders ∙ load.feeders;
    }

    -- ---- it is refused

    -- an answer that the tests see nothing of
    answered : (late : Bool) (many : ℕ) (why : No) (set : GroupSet R g) → after ≡ OfGroup set → DownNoted (left_node late) (left_note late) set.site → StandMaps (left_note late) set.site → cut_in after ≡ cut_value call.at.set.cut → new.facts.items ≡ old.facts.items → SameLoad old new
        → ((d : Doubted) (name : List ℕ) → ComesDown d e s → GroupEnds (IsTold new) d (Recover name) s (calls s old new many) (Refused why) (noted_at e s (left_note late))) → RisesFor e s (Refused why) old new
    answered late many why set is holds maps cut facts load ends =
        let follows = stays late set is holds maps cut facts load in
        record {
          next = noted_at e s (left_note late);
          fails = calls s old new many;
          done = ends;
          stands = follows.stands;
          carries = follows.carries;
          rose = calls_all e old new [] s before after begin.stands call many;
        }

    -- a call on a disk failed in it
    named_in : (set : GroupSet R g) → after ≡ OfGroup set → (many disk : ℕ) → disk < many → Rose ((as_imported call.at.set.site).disk_faults disk) ((site_disks set.site).disk_faults disk) → Contains (calls s old new many) (s, disk)
    named_in set is many disk low rose =
        calls_named e old new [] s before after begin.stands call call.at.set set call.at.is_set is many disk low
        (rose_up ((site_disks call.at.set.site).disk_faults disk) ((as_imported call.at.set.site).disk_faults disk) ((site_disks set.site).disk_faults disk) ((site_disks set.site).disk_faults disk)
        ((imported_same {R = R} {g = g} call.at.set.site).counts disk) rose (omega arith))

    named_by : (set : GroupSet R g) → after ≡ OfGroup set → (disk : ℕ) → Rose ((as_imported call.at.set.site).disk_faults disk) ((site_disks set.site).disk_faults disk) → Contains (calls s old new (suc disk)) (s, disk)
    named_by set is disk rose = named_in set is (suc disk) disk (omega arith) rose

    some_named : (set : GroupSet R g) → after ≡ OfGroup set → SomeRose (as_imported call.at.set.site) (site_disks set.site) → calls s old new n.disks ≡ [] → ⊥
    some_named set is some none =
        no_call (calls s old new n.disks) (s, some.disk) none
        (named_in set is n.disks some.disk (let low = some.below in let same = (sits_down n note call.at.set.site is_down).units in omega (arith, low, same)) some.rose)

    -- none was found, and nothing was written
    not_found : (many : ℕ) (why : No) (d : Doubted) (name : List ℕ) → ComesDown d e s → FoundNo s (calls s old new many) why → NotFound s (note_at (e.world.nodes s)) (calls s old new many) why → ((k : GroupNode) → NotFoundLeaves why k k)
        → GroupEnds (IsTold new) d (Recover name) s (calls s old new many) (Refused why) (noted_at e s (left_note false))
    not_found many why d name comes other none same = ⊎_elim
        (λ known.
        GroupNotFound why (left_note false) (calls_are e old new [] s before after begin.stands call many) tt
        (subst (λ (k : GroupNode). NotFound s k (calls s old new many) why) comes.note known.0) (subst (λ (k : GroupNode). NotFoundLeaves why k (left_note false)) comes.note known.1) refl (left_last false d comes))
        (λ nothing.
        FindsNoGroup (left_note false) why (calls_are e old new [] s before after begin.stands call many) tt
        (subst (λ (k : GroupNode). KnowsNothing (IsTold new) k) comes.note nothing.0) other (left_notes false d comes) refl (left_last false d comes))
        (early_known (IsTold new) dims s note (calls s old new many) why loose none other same)

    -- what was found no disk has that tells its contents
    strange : (many : ℕ) (why : No) (set : GroupSet R g) → after ≡ OfGroup set → DownNoted (left_node false) (left_note false) set.site → (IsTrue (site_disks set.site).tells → ⊥) → FoundNo s (calls s old new many) why → (d : Doubted) (name : List ℕ) → ComesDown d e s
        → GroupEnds (IsTold new) d (Recover name) s (calls s old new many) (Refused why) (noted_at e s (left_note false))
    strange many why set is holds never other d name comes =
        FindsNoGroup (left_note false) why (calls_are e old new [] s before after begin.stands call many) tt
        (subst (λ (k : GroupNode). KnowsNothing (IsTold new) k) comes.note
        (knows_none (IsTold new) dims note loose (λ told bright. never (lit_down (left_node false) (left_note false) set.site holds bright (told_of new s after set there_now is told)))))
        other (left_notes false d comes) refl (left_last false d comes)

    abbrev Left : Stop → GroupSite R g → Type 0
    Left stop x = DownNoted (left_node (not (stops_early stop))) (left_note (not (stops_early stop))) x

    abbrev LeftMaps : Stop → GroupSite R g → Type 0
    LeftMaps stop x = StandMaps (left_note (not (stops_early stop))) x

    -- why
    by_why : (why : No) (set : GroupSet R g) → after ≡ OfGroup set → Left (StopsBy why) set.site → LeftMaps (StopsBy why) set.site → cut_in after ≡ cut_value call.at.set.cut → ImportWhy (IsTrue (site_disks set.site).tells) (KnownAway (IsTrue (site_disks set.site).tells) note) (as_imported call.at.set.site) (site_disks set.site) (StopsBy why)
        → (mid : Yard R g) → mid.facts.items ≡ old.facts.items → SameLoad old mid → (result : Result Said OutOfMemory) → IsNotedRefusal s (fact_of_group n note) why mid new result → RisesIs e s old new result
    by_why (Device disk) set is holds maps cut rose mid facts load result it =
        subst (λ (r : Result Said OutOfMemory). RisesIs e s old new r) (sym it.said)
        (answered true (suc disk) (Device disk) set is holds maps cut (quiet mid facts it.facts) (loaded mid load it.same it.assemblies)
        (λ d name comes. GroupFails disk (left_note true) (calls_are e old new [] s before after begin.stands call (suc disk)) (named_by set is disk rose) (left_notes true d comes) refl (left_last true d comes)))
    by_why (Lacks disk) set is holds maps cut rose mid facts load result it =
        subst (λ (r : Result Said OutOfMemory). RisesIs e s old new r) (sym it.said)
        (answered false (suc disk) (Lacks disk) set is holds maps cut (quiet mid facts it.facts) (loaded mid load it.same it.assemblies)
        (λ d name comes. not_found (suc disk) (Lacks disk) d name comes (named_by set is disk rose) (named_by set is disk rose) (λ k. refl)))
    by_why NoConfig set is holds maps cut rose mid facts load result it =
        subst (λ (r : Result Said OutOfMemory). RisesIs e s old new r) (sym it.said)
        (answered false n.disks NoConfig set is holds maps cut (quiet mid facts it.facts) (loaded mid load it.same it.assemblies) (λ d name comes. ⊎_elim
        (λ found. not_found n.disks NoConfig d name comes tt found (λ k. refl))
        (λ nothing. FindsNoGroup (left_note false) NoConfig (calls_are e old new [] s before after begin.stands call n.disks) tt (subst (λ (k : GroupNode). KnowsNothing (IsTold new) k) comes.note nothing) tt (left_notes false d comes) refl (left_last false d comes))
        (none_found (IsTold new) (IsTrue (site_disks set.site).tells) dims s note (calls s old new n.disks) loose
        (λ told bright. lit_down (left_node false) (left_note false) set.site holds bright (told_of new s after set there_now is told)) (λ sure. some_named set is (rose sure)))))
    by_why (Limit what most) set is holds maps cut rose mid facts load result it =
        subst (λ (r : Result Said OutOfMemory). RisesIs e s old new r) (sym it.said)
        (subst (λ (w : Counted). RisesFor e s (Refused (Limit w most)) old new) (sym rose.0)
        (answered true 0 (Limit Numbers most) set is holds maps cut (quiet mid facts it.facts) (loaded mid load it.same it.assemblies)
        (λ d name comes. GroupNotFound (Limit Numbers most) (left_note true) (calls_are e old new [] s before after begin.stands call 0) tt rose.1 (left_notes true d comes) refl (left_last true d comes))))
    by_why (Damaged unit block stored computed) set is holds maps cut never mid facts load result it =
        subst (λ (r : Result Said OutOfMemory). RisesIs e s old new r) (sym it.said)
        (answered false 0 (Damaged unit block stored computed) set is holds maps cut (quiet mid facts it.facts) (loaded mid load it.same it.assemblies)
        (strange 0 (Damaged unit block stored computed) set is holds never tt))
    by_why (Format version) set is holds maps cut never mid facts load result it =
        subst (λ (r : Result Said OutOfMemory). RisesIs e s old new r) (sym it.said)
        (answered false 0 (Format version) set is holds maps cut (quiet mid facts it.facts) (loaded mid load it.same it.assemblies) (strange 0 (Format version) set is holds never tt))
    by_why other set is holds maps cut rose mid facts load result it = absurd rose

    by_stop : (stop : Stop) (set : GroupSet R g) → after ≡ OfGroup set → Left stop set.site → LeftMaps stop set.site → cut_in after ≡ cut_value call.at.set.cut → ImportWhy (IsTrue (site_disks set.site).tells) (KnownAway (IsTrue (site_disks set.site).tells) note) (as_imported call.at.set.site) (site_disks set.site) stop
        → (mid : Yard R g) → mid.facts.items ≡ old.facts.items → SameLoad old mid → (result : Result Said OutOfMemory) → reply_noted s (fact_of_group n note) stop mid new result → RisesIs e s old new result
    by_stop (StopsBy why) set is holds maps cut because mid facts load result it = by_why why set is holds maps cut because mid facts load result it
    by_stop MemoryStop set is holds maps cut because mid facts load result it =
        let same : SameLoad old new = subst (λ (y : Yard R g). SameLoad old y) (sym it.0) load in
        let follows = stays false set is holds maps cut (ap (λ (y : Yard R g). y.facts.items) it.0 ∙ facts) same in
        subst (λ (r : Result Said OutOfMemory). RisesIs e s old new r) (sym it.1)
        (record { note = left_note false; notes = notes_short dims note loose; stands = follows.stands; carries = follows.carries; rose = calls_none e old new [] s before after begin.stands call })

    -- a recovery that was refused in its import
    pub stays_back : (stop : Stop) (t : GroupSet R g) → after ≡ OfGroup t → RaisesGroup n note before after (Err stop) → RaisesMaps before after (Err stop) → (mid : Yard R g) → mid.facts.items ≡ old.facts.items → SameLoad old mid
        → (result : Result Said OutOfMemory) → ((f : SiteFacts) → slice_get mid.facts.items s ≡ Some f → reply_noted s f stop mid new result) → RisesIs e s old new result
    stays_back stop t is raised moved mid facts load result replied =
        let it : StaysBack n note call.at.set.site call.at.set.cut after stop = subst (λ (x : DiskSet R g). RaisesGroup n note x after (Err stop)) call.at.is_set raised in
        let here : SiteRecovers n note call.at.set.site t.site (Err stop) = subst (λ (x : DiskSet R g). AtFound (λ y. SiteRecovers n note call.at.set.site y (Err stop)) x) is it.refused in
        let late : Bool = not (stops_early stop) in
        let came : CameMapped call.at.set.site t.site (Err stop)
        = subst (λ (x : DiskSet R g). RaisesMaps (OfGroup call.at.set) x (Err stop)) is (subst (λ (x : DiskSet R g). RaisesMaps x after (Err stop)) call.at.is_set moved) in
        let maps : LeftMaps stop t.site = stays_down n (left_node late) note late dims call.at.set.site t.site stop (maps_were e old new [] s before after begin.stands call) is_down here.0 refl came in
        by_stop stop t is here.0 maps it.cut_stays here.1 mid facts load result
        (replied (fact_of_group n note) (ap (λ (fs : List SiteFacts). slice_get fs s) facts ∙ call.at.fact))
