-- What calls on the group of a site that is up lead its yard to, where it stays up and where its fuse runs out.
use Rattle.std.proofs.Common.{◌≡◌, ◌∙◌, ◌<◌, ◌≤◌, ℕ, false, List, [], length, ap, sym, subst, refl}
use Rattle.std.proofs.lemmas.Bool.{false_from_ne_true}
use Rattle.std.specs.Prelude.{Option, Some, None, Contains, IsTrue, slice_get, slice_set}
use Rattle.std.proofs.lemmas.Option.{slice_get_within}
use Rattle.vx_model.specs.Content.{Write}
use Rattle.vx_model.specs.declared.site.SiteState.{SiteState}
use Rattle.vx_model.specs.declared.site.SiteState.TheVariants.{Up as IsUp, Down as IsDown}
use Rattle.vx_disk.specs.Counts.{Rose}
use Rattle.vx_disk.specs.declared.shelf.Shelf.{Ghosts}
use Rattle.vx_history.specs.Doubts.{Doubted, happened}
use Rattle.vx_history.specs.Groups.{GroupNode}
use Rattle.vx_history.specs.Steps.{burned, crashed, worked_on}
use Rattle.vx_history.specs.World.{Node}
use Rattle.vx_history.specs.declared.event.Event.TheVariants.{Crash as CrashAt}
use Rattle.vx_order.specs.declared.facts.SiteFacts.{SiteFacts}
use Rattle.vx_order.specs.declared.facts.VolumeFacts.{VolumeFacts}
use Rattle.vx_watched.specs.Since.{CalledSince}
use Rattle.vx_grouped.specs.GroupSites.{DownNoted, FitsPlain, HasNoRvg, UpNoted, site_disks, with_note}
use Rattle.vx_grouped.specs.declared.group_site.GroupSite.{GroupSite}
use Rattle.vx_grouped.specs.declared.group_site.GroupSite.TheVariants.{Up as SiteUp, Deported as SiteAway, Down as SiteDown, Marked, Gone as SiteGone}
use Rattle.vx_diskset.specs.Asked.{FailsAs, FusedAs, SameFailing}
use Rattle.vx_diskset.specs.GroupCalls.{AtPlain, AtSite, OnSites, cut_in}
use Rattle.vx_diskset.specs.GroupSets.{cut_value}
use Rattle.vx_diskset.specs.Holds.{beside_of}
use Rattle.vx_diskset.specs.Stands.{faults_at}
use Rattle.vx_diskset.specs.declared.disk_set.DiskSet.{DiskSet}
use Rattle.vx_diskset.specs.declared.disk_set.DiskSet.TheVariants.{Bare, Spoiled, Up as RaisedSet, Receives, Down as DownSet, OfGroup, Over, Gone as GoneSet}
use Rattle.vx_diskset.specs.declared.group_set.CutWrite.{CutWrite}
use Rattle.vx_diskset.specs.declared.group_set.GroupSet.{GroupSet}
use Rattle.vx_events.specs.GroupEnds.{AreOf}
use Rattle.vx_events.specs.GroupLines.{noting}
use Rattle.vx_events.specs.GroupNotes.{note_at}
use Rattle.vx_events.specs.GroupViews.{noted_table}
use Rattle.vx_events.specs.RvgFits.{rvg_noted}
use Rattle.vx_events.specs.StepsOver.{fact_of_group}
use Rattle.vx_yard.proofs.Carrying.{LetsGo, SameLoad}
use Rattle.vx_yard.proofs.ChangeSite.{counts_later}
use Rattle.vx_yard.proofs.CrashLine.{rose_still}
use Rattle.vx_yard.proofs.FailsStay.{fails_then}
use Rattle.vx_yard.proofs.FuseStays.{fused_none}
use Rattle.vx_yard.proofs.Lists.{get-set_same}
use Rattle.vx_yard.proofs.OneSite.{Changed}
use Rattle.vx_yard.proofs.OverGroup.{set_notes}
use Rattle.vx_effects.specs.Facts.{down_fact}
use Rattle.vx_yard.specs.Standing.{StandsFor}
use Rattle.vx_yard.specs.Stands.{RoseAll, fault_count}
use Rattle.vx_yard.specs.Yards.{count_of}
use Rattle.vx_yard.specs.declared.yard.Yard.{Yard}
use Rattle.vx_group_lines.proofs.Arriving.{arrives_crash, arrives_worked}
use Rattle.vx_above.proofs.Fails.{all_rose, calls_name, calls_of}
use Rattle.vx_group_lines.proofs.GroupAt.{GroupAt, down_notes, uncut, up_noted, up_notes}
use Rattle.vx_group_lines.proofs.GroupLeads.{Follows, Sized, down_set, follows_off, follows_on, sized_of, up_set}
use Rattle.vx_group_lines.proofs.GroupMarks.{begins_at, group_noted_at}
use Rattle.vx_grouped.specs.SiteMaps.{StandMaps}
use Rattle.vx_above.proofs.Losing.{Names}
use Rattle.vx_above.proofs.SiteCalls.{calls}
use Rattle.vx_above.proofs.FuseGoing.{fused_goes}

-- the facts of such a site that went down
pub down_seen : (n : Node) (note : GroupNode) (k : GroupNode) → n.volumes ≡ [] → noted_table k ≡ noted_table note
    → down_fact (fact_of_group n note) ≡ fact_of_group (crashed (with_note k n) 0) k
down_seen n note k none same = ap (λ (vs : List VolumeFacts). let f : SiteFacts = record (down_fact (fact_of_group n note)) { volumes = vs } in f) (sym same)

pub seen_as : (n m : Node) (note next : GroupNode) → m.name ≡ n.name → m.state ≡ n.state → m.disks ≡ n.disks → m.blocks ≡ n.blocks → noted_table next ≡ noted_table note
    → fact_of_group n note ≡ fact_of_group m next
seen_as n m note next name state disks blocks same =
    ap (λ (x : List ℕ). let f : SiteFacts = record (fact_of_group n note) { name = x } in f) (sym name)
    ∙ ap (λ (x : SiteState). let f : SiteFacts = record (fact_of_group n note) { name = m.name; state = x } in f) (sym state)
    ∙ ap (λ (x : ℕ). let f : SiteFacts = record (fact_of_group n note) { name = m.name; state = m.state; disks = x } in f) (sym disks)
    ∙ ap (λ (x : ℕ). let f : SiteFacts = record (fact_of_group n note) { name = m.name; state = m.state; disks = m.disks; blocks = x } in f) (sym blocks)
    ∙ ap (λ (vs : List VolumeFacts). let f : SiteFacts = record (fact_of_group n note) { name = m.name; state = m.state; disks = m.disks; blocks = m.blocks; volumes = vs } in f) (sym same)

module _ {R : Type 0} {g : Ghosts R} where
  -- a disk set of a group, of whose site this holds
  pub record SetThen (P : GroupSite R g → Type 0) (e : DiskSet R g) : Type 0 where
    pub set : GroupSet R g
    pub is : e ≡ OfGroup set
    pub holds : P set.site

  pub set_then : (P : GroupSite R g → Type 0) (e : DiskSet R g) → AtPlain P e → SetThen P e
  set_then P (Bare rack) it = absurd it
  set_then P (Spoiled rack) it = absurd it
  set_then P (RaisedSet rvg) it = absurd it
  set_then P (Receives s) it = absurd it
  set_then P (DownSet rack) it = absurd it
  set_then P (OfGroup set) it = record { set = set; is = refl; holds = it }
  set_then P (Over set) it = absurd it
  set_then P GoneSet it = absurd it

  pub sets_then : (P : GroupSite R g → GroupSite R g → Type 0) (before after : DiskSet R g) (set : GroupSet R g) → before ≡ OfGroup set → OnSites P before after → SetThen (P set.site) after
  sets_then P before after set is it = set_then (P set.site) after (subst (λ (x : DiskSet R g). OnSites P x after) is it)

  pub site_up : (n : Node) (note : GroupNode) (e : GroupSite R g) → UpNoted n note e → IsTrue (site_disks e).down → ⊥
  site_up n note (SiteUp group) it = it.at.up
  site_up n note (SiteAway idle) it = absurd it
  site_up n note (SiteDown idle) it = absurd it
  site_up n note (Marked rack) it = absurd it
  site_up n note SiteGone it = absurd it

  -- the site is up as a group
  pub at_up : (d : Doubted) (y : Yard R g) (name : List ℕ) (s : ℕ) (e : DiskSet R g) (at : GroupAt d y name s e) → (d.world.nodes s).state ≡ IsUp → AtSite (UpNoted (d.world.nodes s) (note_at (d.world.nodes s))) e
  at_up d y name s e at up =
      subst (λ (x : DiskSet R g). AtSite (UpNoted (d.world.nodes s) (note_at (d.world.nodes s))) x) (sym at.is_set) (up_noted (d.world.nodes s) at.set.site at.stands.stands up)

  -- ---- the fuse of disks that are up

  pub fused_since : (n m : Node) (set next : GroupSet R g) → m.fuse ≡ burned n.fuse → CalledSince (site_disks set.site) (site_disks next.site) → (IsTrue (site_disks next.site).down → ⊥)
      → FusedAs n (OfGroup set) → FusedAs m (OfGroup next)
  fused_since n m set next is since up h = fused_goes n m (OfGroup set) (OfGroup next) is since.rack (λ o x was now. (since.told o x was now).fuse (false_from_ne_true (site_disks next.site).down up)) h

  -- ---- a call on the group of a site

  -- what it left of the yard
  pub record Called (d : Doubted) (old new : Yard R g) (name : List ℕ) (s : ℕ) (before after : DiskSet R g) : Type 0 where
    pub at : GroupAt d old name s before
    pub changed : Changed old new s before after
    pub failing : SameFailing before after

  module _ (d : Doubted) (old new : Yard R g) (name : List ℕ) (s : ℕ) (before after : DiskSet R g) (stands : StandsFor d old) (call : Called d old new name s before after) where
    abbrev n : Node
    n = d.world.nodes s

    abbrev note : GroupNode
    note = note_at (d.world.nodes s)

    pub calls_are : (many : ℕ) → AreOf s (calls s old new many)
    calls_are many = calls_of s (count_of old s) (count_of new s) many

    pub calls_all : (many : ℕ) → RoseAll (calls s old new many) (count_of old) (count_of new)
    calls_all many =
        all_rose s many (count_of old) (count_of new)
        (λ t k. subst (λ (es : List (DiskSet R g)). count_of old t k ≤ fault_count (slice_get es t) k) (sym call.changed.disk_sets)
        (counts_later old.disk_sets.items s before after call.changed.there call.changed.later t k))

    pub calls_none : RoseAll [] (count_of old) (count_of new)
    calls_none = rose_still old new s before after call.changed.there call.changed.later call.changed.disk_sets

    count_old : (k : ℕ) → count_of old s k ≡ faults_at before k
    count_old k = ap (λ (o : Option (DiskSet R g)). fault_count o k) call.changed.there

    count_new : (k : ℕ) → count_of new s k ≡ faults_at after k
    count_new k =
        ap (λ (es : List (DiskSet R g)). fault_count (slice_get es s) k) call.changed.disk_sets
        ∙ ap (λ (o : Option (DiskSet R g)). fault_count o k) (get-set_same old.disk_sets.items s after (slice_get_within old.disk_sets.items s before call.changed.there))

    -- a call on a disk of the site failed
    pub calls_named : (set next : GroupSet R g) → before ≡ OfGroup set → after ≡ OfGroup next → (many k : ℕ) → k < many → Rose ((site_disks set.site).disk_faults k) ((site_disks next.site).disk_faults k) → Contains (calls s old new many) (s, k)
    calls_named set next was is many k below rose =
        calls_name s (count_of old s) (count_of new s) many k below
        (subst (λ (a : ℕ). Rose a (count_of new s k)) (sym (count_old k ∙ ap (λ (x : DiskSet R g). faults_at x k) was))
        (subst (λ (b : ℕ). Rose ((site_disks set.site).disk_faults k) b) (sym (count_new k ∙ ap (λ (x : DiskSet R g). faults_at x k) is)) rose))

    pub calls_names : (set next : GroupSet R g) → before ≡ OfGroup set → after ≡ OfGroup next → (many : ℕ) → (site_disks set.site).units ≤ many
        → Names s many (calls s old new many) (site_disks set.site) (site_disks next.site)
    calls_names set next was is many enough = record { many = enough; each = λ k below rose. calls_named set next was is many k below rose }

    pub sized : Sized n
    sized = sized_of (beside_of d s) n call.at.set call.at.stands

    -- what is noted of its maps
    pub maps_were : StandMaps note call.at.set.site
    maps_were = call.at.stands.maps call.at.made note (group_noted_at d old name s before call.at)

    -- it names no replicated volume group
    pub plain_were : rvg_noted note ≡ None
    plain_were = call.at.stands.plain call.at.made note (group_noted_at d old name s before call.at)

    -- nothing is cut, and so it is noted
    pub note_uncut : n.state ≡ IsUp → note.cut ≡ None
    note_uncut up =
        let none : cut_value call.at.set.cut ≡ None = uncut (beside_of d s) n call.at.set call.at.stands (λ down. let e : IsUp ≡ IsDown = sym up ∙ down in absurd (cc)) in
        ap (λ (o : Option GroupNode). noted_of o) (sym (group_noted_at d old name s before call.at)) ∙ sym call.at.stands.cut ∙ none
      where
        noted_of : Option GroupNode → Option Write
        noted_of None = None
        noted_of (Some k) = k.cut

    pub set_uncut : n.state ≡ IsUp → cut_value call.at.set.cut ≡ None
    set_uncut up = uncut (beside_of d s) n call.at.set call.at.stands (λ down. let e : IsUp ≡ IsDown = sym up ∙ down in absurd (cc))

    pub cut_of : (next : GroupSet R g) → after ≡ OfGroup next → (cut : Option Write) → cut_in after ≡ cut → cut_value next.cut ≡ cut
    cut_of next is cut same = ap (λ (x : DiskSet R g). cut_in x) (sym is) ∙ same

    before_cut : cut_in before ≡ cut_value call.at.set.cut
    before_cut = ap (λ (x : DiskSet R g). cut_in x) call.at.is_set

    pub called_to : (next : GroupSet R g) → after ≡ OfGroup next → Changed old new s before (OfGroup next)
    called_to next is = subst (λ (x : DiskSet R g). Changed old new s before x) is call.changed

    pub failing_to : (m : Node) (next : GroupSet R g) → after ≡ OfGroup next → m.failing ≡ n.failing → FailsAs m (OfGroup next)
    failing_to m next is same =
        subst (λ (x : DiskSet R g). FailsAs m x) is (fails_then n m before after same call.failing (stands.failing s before call.at.below call.changed.there))

    -- it is up still
    pub up_follows : (k : GroupNode) (next : GroupSet R g) → n.state ≡ IsUp → after ≡ OfGroup next → UpNoted (with_note k n) k next.site → StandMaps k next.site → rvg_noted k ≡ None → k.cut ≡ note.cut → cut_in after ≡ cut_in before
        → FusedAs (with_note k n) (OfGroup next) → (f : SiteFacts) → f ≡ fact_of_group (with_note k n) k → new.facts.items ≡ slice_set old.facts.items s f → SameLoad old new
        → Follows d (record d { world = worked_on (noting d.world s k) s }) old new
    up_follows k next up is noted maps plain cut_noted cut fuse f fact facts load =
        follows_on d (record d { world = worked_on (noting d.world s k) s }) s (with_note k n) k f old new before next stands call.at.below (called_to next is)
        (arrives_worked d d s n k (d.world.gathering s) (begins_at d old name s before stands call.at))
        (up_notes (with_note k n) k next.site noted).0
        (up_set (with_note k n) k next (record { few = sized.few; some = sized.some }) noted maps plain (cut_of next is None (cut ∙ before_cut ∙ set_uncut up)) (cut_noted ∙ note_uncut up))
        (failing_to (with_note k n) next is refl) fuse fact facts load

    -- its fuse ran out
    pub off_follows : (k : GroupNode) (next : GroupSet R g) → n.state ≡ IsUp → after ≡ OfGroup next → DownNoted (crashed (with_note k n) 0) k next.site → StandMaps k next.site → rvg_noted k ≡ None
        → cut_in after ≡ k.cut → ((x : CutWrite) → next.cut ≡ Some x → FitsPlain k x.volume x.block (length x.bytes))
        → (f : SiteFacts) → f ≡ fact_of_group (crashed (with_note k n) 0) k → new.facts.items ≡ slice_set old.facts.items s f → LetsGo old new s
        → Follows d (record (happened d (CrashAt s 0) false) { world = worked_on (noting (happened d (CrashAt s 0) false).world s k) s }) old new
    off_follows k next up is noted maps plain cut fits f fact facts lets =
        let e : Doubted = happened d (CrashAt s 0) false in
        let none : HasNoRvg n = (set_notes (beside_of d s) n call.at.set call.at.stands call.at.made).1.none in
        let m : Node = crashed (with_note k n) 0 in
        follows_off d (record e { world = worked_on (noting e.world s k) s }) s m k f old new before next stands call.at.below (called_to next is)
        (arrives_worked d e s (crashed n 0) k None
        (arrives_crash d d s n (d.world.gathering s) (begins_at d old name s before stands call.at) call.at.below up none.log none.safe))
        (λ back. let w : IsDown ≡ IsUp = back in absurd (cc))
        (down_notes m k next.site noted).0
        (down_set m k next (record { few = sized.few; some = sized.some }) noted maps plain (cut_of next is k.cut cut) fits)
        (failing_to m next is refl) (fused_none m (OfGroup next) refl) fact facts lets
