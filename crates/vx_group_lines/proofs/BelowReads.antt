-- Lines that read a volume of a group below a replicated volume group.
use Rattle.std.proofs.Common.{◌≡◌, ◌∙◌, ◌+◌, ◌*◌, ◌⊎◌, inl, inr, ℕ, Bool, false, List, length, ap, arith, refl, subst, sym, IsTrue}
use Rattle.std.proofs.lemmas.Bool.{false_from_ne_true}
use Rattle.std.proofs.lemmas.Option.{slice_get_within}
use Rattle.std.specs.Prelude.{Some, slice_get, Ok, Err}
use Rattle.vx_model.specs.declared.no.No.{No}
use Rattle.vx_model.specs.declared.no.No.TheVariants.{Device}
use Rattle.vx_disk.specs.declared.shelf.Shelf.{Ghosts}
use Rattle.vx_history.specs.Doubts.{Doubted}
use Rattle.vx_history.specs.Groups.{GroupNode}
use Rattle.vx_history.specs.Steps.{burned, worked, worked_on}
use Rattle.vx_history.specs.World.{Node}
use Rattle.vx_order.specs.Calls.{is_data}
use Rattle.vx_script.specs.declared.line.ScriptLine.{ScriptLine}
use Rattle.vx_script.specs.declared.line.ScriptLine.TheVariants.{Read, Show}
use Rattle.vx_watched.specs.Since.{CalledSince}
use Rattle.vx_grouped.specs.GroupSites.{FitsPlain, UpNoted, site_disks}
use Rattle.vx_grouped.specs.declared.group_site.GroupSite.{GroupSite}
use Rattle.vx_grouped.specs.declared.group_site.GroupSite.TheVariants.{Up as SiteUp, Deported as SiteAway, Down as SiteDown, Marked, Gone as SiteGone}
use Rattle.vx_diskset.specs.Aboves.{site_in}
use Rattle.vx_diskset.specs.Asked.{FailsAs, FusedAs, SameFailing}
use Rattle.vx_diskset.specs.GroupCalls.{CalledOn}
use Rattle.vx_diskset.specs.GroupSets.{cut_value}
use Rattle.vx_diskset.specs.Holds.{KeptBeside, beside_of}
use Rattle.vx_diskset.specs.Noted.{NotedOver, SiteNoted, below_rvg}
use Rattle.vx_diskset.specs.OverKeeps.{KeepsOver, KeptBy, StaysHere}
use Rattle.vx_diskset.specs.OverPlains.{OnOver}
use Rattle.vx_diskset.specs.Stands.{IsRackTold, RoleIs, SiteStands, faults_at}
use Rattle.vx_diskset.specs.declared.disk_set.DiskSet.{DiskSet}
use Rattle.vx_diskset.specs.declared.disk_set.DiskSet.TheVariants.{Bare, Spoiled, Up as RaisedSet, Receives, Down as DownSet, OfGroup, Over, Gone as GoneSet}
use Rattle.vx_diskset.specs.declared.over_set.OverSet.{OverSet}
use Rattle.vx_diskset.proofs.OverNoted.{up_named, up_noted}
use Rattle.vx_effects.proofs.Leaving.{fit_worked}
use Rattle.vx_effects.proofs.Rises.{note_effect}
use Rattle.vx_events.proofs.Places.{some_same}
use Rattle.vx_events.proofs.RvgEvents.{rvg_apart}
use Rattle.vx_events.specs.Effects.{EffectAt}
use Rattle.vx_events.specs.Facts.{site_number}
use Rattle.vx_events.specs.Fails.{Fails}
use Rattle.vx_events.specs.GroupEnds.{VolumeOut}
use Rattle.vx_events.specs.GroupLines.{plain_number}
use Rattle.vx_events.specs.GroupNotes.{IsKnown, note_at}
use Rattle.vx_events.specs.GroupReplies.{GivesPlain}
use Rattle.vx_events.specs.LinkedFacts.{linked_fact}
use Rattle.vx_events.specs.RvgFits.{entries_noted}
use Rattle.vx_events.specs.RvgOver.{EndsRead, OverRvg, ReadOut, ReadsBeside, kind_named}
use Rattle.vx_events.specs.RvgSteps.{rvg_place}
use Rattle.vx_events.specs.StepsOver.{fact_over}
use Rattle.vx_events.specs.declared.said.Said.{Said}
use Rattle.vx_events.specs.declared.said.Said.TheVariants.{Got, Refused}
use Rattle.vx_diskset.specs.Layouts.{units_of}
use Rattle.vx_yard.proofs.ApplySite.{comes_effect}
use Rattle.vx_yard.proofs.Carrying.{SameLoad, carries_at, feeds_like}
use Rattle.vx_yard.proofs.CrashLine.{fuse_fact}
use Rattle.vx_yard.proofs.FailsStay.{fails_then}
use Rattle.vx_yard.proofs.Lists.{get-set_same, set_same}
use Rattle.vx_yard.proofs.OneSite.{Changed, Comes, stands_at, told_by}
use Rattle.vx_yard.proofs.OverGroup.{begins_apart}
use Rattle.vx_yard.proofs.Rows.{apart_same, fact_like}
use Rattle.vx_yard.specs.AboveLines.{LeadsAbove}
use Rattle.vx_yard.specs.Standing.{BeginsFirst, StandsFor}
use Rattle.vx_yard.specs.Yards.{IsTold, count_of}
use Rattle.vx_yard.specs.declared.yard.Yard.{Yard}
use Rattle.vx_above.proofs.Fails.{calls_of}
use Rattle.vx_above.proofs.FuseGoing.{fused_goes}
use Rattle.vx_above.proofs.Losing.{Names}
use Rattle.vx_above.proofs.OverSites.{note_is}
use Rattle.vx_above.proofs.SiteCalls.{calls, names_below, rose_below}
use Rattle.vx_group_lines.proofs.BelowAt.{BelowCall}
use Rattle.vx_group_lines.proofs.GroupAt.{lit_up}
use Rattle.vx_group_lines.proofs.GroupLeads.{Follows}
use Rattle.vx_group_lines.proofs.GroupRead.{reads_block, volume_out}
use Rattle.vx_group_lines.specs.Plain.{GaveBelow, GavePlain, IsReadOf}
use Rattle.vx_group_lines.specs.Plain.IsReadOf.{ByRead, ByShow}

-- the line that reads such a volume, by its names
reads_line : (told : Type 0) (d : Doubted) (line : ScriptLine) (name volume : List ℕ) (start count s : ℕ) (fails : Fails) (said : Said) (new : Doubted) → IsReadOf line name volume start count → site_number d.world name ≡ s
    → is_data (kind_named (d.world.nodes s) volume) ≡ false → ReadsBeside told d volume start count s fails said new → OverRvg told d line (rvg_place d.world line) fails said new
reads_line told d line name volume start count s fails said new (ByRead is) number kind reads =
    subst (λ (l : ScriptLine). OverRvg told d l (rvg_place d.world l) fails said new) (sym is)
    (subst (λ (k : ℕ). OverRvg told d (Read name volume start count) k fails said new) (sym number)
    (subst (λ (b : Bool). EndsRead b told d (Read name volume start count) volume start count s fails said new) (sym kind) reads))
reads_line told d line name volume start count s fails said new (ByShow is) number kind reads =
    subst (λ (l : ScriptLine). OverRvg told d l (rvg_place d.world l) fails said new) (sym is)
    (subst (λ (k : ℕ). OverRvg told d (Show name volume start count) k fails said new) (sym number)
    (subst (λ (b : Bool). EndsRead b told d (Show name volume start count) volume start count s fails said new) (sym kind) reads))

module _ {R : Type 0} {g : Ghosts R} where
  -- the disks behind a call, of which this holds
  record OverThen (P : OverSet R g → Type 0) (e : DiskSet R g) : Type 0 where
    set : OverSet R g
    is : e ≡ Over set
    holds : P set

  over_then : (P : OverSet R g → OverSet R g → Type 0) (o : OverSet R g) (e : DiskSet R g) → OnOver P (Over o) e → OverThen (P o) e
  over_then P o (Bare rack) it = absurd it
  over_then P o (Spoiled rack) it = absurd it
  over_then P o (RaisedSet rvg) it = absurd it
  over_then P o (Receives s) it = absurd it
  over_then P o (DownSet rack) it = absurd it
  over_then P o (OfGroup set) it = absurd it
  over_then P o (Over set) it = record { set = set; is = refl; holds = it }
  over_then P o GoneSet it = absurd it

  -- what stood over a group that is up stands
  kept_up : (beside : KeptBeside) (n m : Node) (note : GroupNode) (p : OverSet R g) (e : GroupSite R g) → UpNoted m note e → (StaysHere e → KeptBy beside n p e) → SiteStands beside (worked n) (Over p)
  kept_up beside n m note p (SiteUp laid) it by = by (false_from_ne_true _ it.at.up)
  kept_up beside n m note p (SiteAway idle) it by = absurd it
  kept_up beside n m note p (SiteDown idle) it by = absurd it
  kept_up beside n m note p (Marked rack) it by = absurd it
  kept_up beside n m note p SiteGone it by = absurd it

  runs_up : (n : Node) (note : GroupNode) (e : GroupSite R g) → UpNoted n note e → IsTrue (site_disks e).down → ⊥
  runs_up n note (SiteUp laid) it = it.at.up
  runs_up n note (SiteAway idle) it = absurd it
  runs_up n note (SiteDown idle) it = absurd it
  runs_up n note (Marked rack) it = absurd it
  runs_up n note SiteGone it = absurd it

  module _ (d : Doubted) (old new : Yard R g) (line : ScriptLine) (name volume : List ℕ) (start count s place : ℕ) (before after : DiskSet R g) (stands : StandsFor d old) (is : IsReadOf line name volume start count)
      (call : BelowCall d old name volume start count s place before) (changed : Changed old new s before after) (failing : SameFailing before after) (since : CalledOn before after) (facts : new.facts ≡ old.facts) (load : SameLoad old new) where
    abbrev n : Node
    n = d.world.nodes s

    abbrev note : GroupNode
    note = note_at (d.world.nodes s)

    abbrev o : OverSet R g
    o = call.at.set

    abbrev left : Doubted
    left = record d { world = worked_on d.world s }

    effect : EffectAt s d left (worked (d.world.nodes s)) (d.world.links s) (d.world.headers s) (d.after s) d.world.packets (d.world.gathering s)
    effect = note_effect d s (worked (d.world.nodes s))

    -- contents that are known were told of its disks
    tells : IsKnown (IsTold new) note → IsTrue (site_disks (site_in o)).tells
    tells known =
        let now : slice_get new.disk_sets.items s ≡ Some after =
        ap (λ (es : List (DiskSet R g)). slice_get es s) changed.disk_sets ∙ get-set_same old.disk_sets.items s after (slice_get_within old.disk_sets.items s before changed.there) in
        lit_up (below_rvg n) note (site_in o) call.asks known.1 (subst (λ (e : DiskSet R g). IsRackTold e) call.at.is_set (changed.later.told (known.0.each s after now)))

    -- the group is up, and what stood over it stands
    module _ (p : OverSet R g) (to : after ≡ Over p) (kept : KeepsOver o p) (cut : p.cut ≡ o.cut) (noted : UpNoted (worked (below_rvg (d.world.nodes s))) (note_at (d.world.nodes s)) (site_in p)) where
      stood : SiteStands (beside_of d s) (worked n) (Over p)
      stood = kept_up (beside_of d s) n (worked (below_rvg n)) note p (site_in p) noted (kept.each (beside_of d s) n call.at.stands call.up)

      fails : FailsAs (worked n) (Over p)
      fails = subst (λ (x : DiskSet R g). FailsAs (worked n) x) to (fails_then n (worked n) before after refl failing (stands.failing s before call.at.seat.below changed.there))

      since_below : CalledSince (site_disks (site_in o)) (site_disks (site_in p))
      since_below = subst (λ (x : DiskSet R g). CalledOn (Over o) x) to (subst (λ (x : DiskSet R g). CalledOn x after) call.at.is_set since)

      fused : FusedAs (worked n) (Over p)
      fused =
          fused_goes n (worked n) (Over o) (Over p) refl since_below.rack (λ x y was now. (since_below.told x y was now).fuse (false_from_ne_true (site_disks (site_in p)).down (runs_up (worked (below_rvg n)) note (site_in p) noted)))
          (subst (λ (x : DiskSet R g). FusedAs n x) call.at.is_set (stands.fuses s before call.at.seat.below changed.there))

      kind : RoleIs n (Over p)
      kind = kept.above n (subst (λ (x : DiskSet R g). RoleIs n x) call.at.is_set (stands.roles.each s before call.at.seat.below changed.there))

      comes : Comes d left s (Over p)
      comes = comes_effect d left s (worked n) d.world.packets (d.world.gathering s) (Over p) effect (fit_worked d s stands.links) refl refl refl refl refl stood fails fused kind

      changed_to : Changed old new s before (Over p)
      changed_to = subst (λ (x : DiskSet R g). Changed old new s before x) to changed

      site_now : SiteNoted (worked n) note (Over p)
      site_now = (
        up_noted (worked (below_rvg n)) note (site_in p) noted,
        ap (λ c. cut_value c) cut ∙ call.at.noted.1,
        call.at.noted.2,
        call.at.noted.3,
        up_named (worked (below_rvg n)) note (units_of n) (length (entries_noted note)) (site_in p) noted,
      )

      noted_now : NotedOver (worked n) (Over p)
      noted_now = ((λ other here. subst (λ (x : GroupNode). SiteNoted (worked n) x (Over p)) (some_same (sym (note_is n call.at.over) ∙ here)) site_now), call.at.named)

      shown : linked_fact d.world s ≡ fact_over left.world s
      shown = sym (fact_like n (worked n) (d.world.links s) d.world.sites (fuse_fact n (burned n.fuse)) (λ k l. refl))
          ∙ sym (apart_same (worked n) (left.world.nodes s) (d.world.links s) (left.world.links s) d.world.sites left.world.sites (rvg_apart (worked n) call.at.over) effect.is.node effect.is.links effect.site.sites)

      pub reads_follow : Follows d left old new
      reads_follow = record {
        stands = stands_at d left old new s (linked_fact d.world s) before (Over p) stands call.at.seat.below changed_to comes
            (λ _. subst (λ (x : Node). BeginsFirst s x) (sym effect.is.node) (begins_apart s (beside_of d s) (worked n) (Over p) stood (rvg_apart (worked n) call.at.over)))
            (λ _. subst (λ (x : Node). NotedOver x (Over p)) (sym effect.is.node) noted_now) shown (ap (λ fs. fs.items) facts ∙ sym (set_same old.facts.items s (linked_fact d.world s) call.at.seat.fact));
        carries = λ carries.
            carries_at s d left old new carries load (record { site = effect.site; packets = effect.sent; gathering = effect.gathering })
            (feeds_like n (left.world.nodes s) (ap (λ (x : Node). x.state) effect.is.node) (ap (λ (x : Node). x.role) effect.is.node) (ap (λ (x : Node). x.fed_by) effect.is.node))
            (told_by old new s before (Over p) changed_to);
      }

    leads : (said : Said) (many : ℕ)
        → GivesPlain (IsTold new) (note_at (d.world.nodes s)) (plain_number (note_at (d.world.nodes s)) volume) start count said
        ⊎ ReadOut s (calls s old new many) (note_at (d.world.nodes s)) (plain_number (note_at (d.world.nodes s)) volume) said
        → Follows d (record d { world = worked_on d.world s }) old new → LeadsAbove d line said old new
    leads said many reads then_so = record {
      next = left;
      fails = calls s old new many;
      works = reads_line (IsTold new) d line name volume start count s (calls s old new many) said left is call.at.seat.number call.kind
          (record { are = calls_of s (count_of old s) (count_of new s) many; reads = reads; left = record { world = refl; after = λ i. refl; strayed = refl } });
      stands = then_so.stands;
      carries = then_so.carries;
      rose = rose_below old new s before after changed many;
    }

    on_set : (P : OverSet R g → OverSet R g → Type 0) → OnOver P before after → OverThen (P o) after
    on_set P it = over_then P o after (subst (λ (x : DiskSet R g). OnOver P x after) call.at.is_set it)

    pub below_done : (size : ℕ) (bytes : List ℕ) → FitsPlain (note_at (d.world.nodes s)) place start size → length bytes ≡ 512 * count → OnOver (GaveBelow place start size (Ok bytes)) before after → LeadsAbove d line (Got bytes) old new
    below_done size bytes fits long gave =
        let to : OverThen (GaveBelow place start size (Ok bytes) o) after = on_set (GaveBelow place start size (Ok bytes)) gave in
        let got : GavePlain (below_rvg n) note place start (site_in o) (site_in to.set) (Ok bytes) = to.holds.gave (below_rvg n) note call.asks fits in
        let many : ℕ = (site_disks (site_in o)).units in
        let gives : GivesPlain (IsTold new) note place start count (Got bytes) = record {
          bytes = bytes;
          got = refl;
          size = long;
          each = λ known k below. reads_block note (site_disks (site_in o)) place start count bytes got.0 long (tells known) k below;
        } in
        leads (Got bytes) many (inl (subst (λ (v : ℕ). GivesPlain (IsTold new) note v start count (Got bytes)) (sym call.volume_is) gives))
        (reads_follow to.set to.is to.holds.kept to.holds.cut got.1)

    pub below_stops : (size : ℕ) (no : No) → FitsPlain (note_at (d.world.nodes s)) place start size → OnOver (GaveBelow place start size (Err no)) before after → LeadsAbove d line (Refused no) old new
    below_stops size (Device disk) fits gave =
        let to : OverThen (GaveBelow place start size (Err (Device disk)) o) after = on_set (GaveBelow place start size (Err (Device disk))) gave in
        let got : GavePlain (below_rvg n) note place start (site_in o) (site_in to.set) (Err (Device disk)) = to.holds.gave (below_rvg n) note call.asks fits in
        let many : ℕ = (site_disks (site_in o)).units + disk + 1 in
        let names : Names s many (calls s old new many) (site_disks (site_in o)) (site_disks (site_in to.set))
        = names_below old new s before after changed (site_disks (site_in o)) (site_disks (site_in to.set)) (λ j. ap (λ (x : DiskSet R g). faults_at x j) call.at.is_set) (λ j. ap (λ (x : DiskSet R g). faults_at x j) to.is) many (omega arith) in
        leads (Refused (Device disk)) many
        (inr (record {
          disk = disk;
          failed = names.each disk (omega arith) got.1;
          out = subst (λ (v : ℕ). VolumeOut s (calls s old new many) note v) (sym call.volume_is) (volume_out (below_rvg n) note (site_in o) place s many (calls s old new many) (site_disks (site_in to.set)) call.asks names got.2);
          says = refl;
        }))
        (reads_follow to.set to.is to.holds.kept to.holds.cut got.0)
    below_stops size other fits gave =
        absurd ((on_set (GaveBelow place start size (Err other)) gave).holds.gave (below_rvg n) note call.asks fits)
