-- What lines come to that make a disk of a group fail, crash its site, or set its fuse.
use Rattle.std.proofs.Common.{◌≡◌, ◌∙◌, ◌<◌, ℕ, Bool, true, false, List, [], ap, sym, subst, refl, arith}
use Rattle.std.proofs.Math.Path.{fun_ext}
use Rattle.std.specs.Prelude.{Option, Some, None, slice_get}
use Rattle.vx_model.specs.declared.site.SiteState.TheVariants.{Up as IsUp}
use Rattle.vx_disk.specs.declared.shelf.Shelf.{Ghosts}
use Rattle.vx_history.specs.Doubts.{After, Doubted, happened}
use Rattle.vx_history.specs.Groups.{GroupNode}
use Rattle.vx_history.specs.Steps.{fused}
use Rattle.vx_history.specs.World.{FuseSet, Node, World, updated, with_node}
use Rattle.vx_history.specs.declared.event.Event.TheVariants.{Crash as CrashAt}
use Rattle.vx_order.specs.declared.facts.SiteFacts.{SiteFacts}
use Rattle.vx_script.specs.declared.line.DiskState.{DiskState}
use Rattle.vx_script.specs.declared.line.ScriptLine.{ScriptLine}
use Rattle.vx_script.specs.declared.line.ScriptLine.TheVariants.{Crash, Disk, Fuse}
use Rattle.vx_grouped.specs.GroupSites.{GroupSiteStands, HasNoRvg, site_disks}
use Rattle.vx_grouped.specs.declared.group_site.GroupSite.{GroupSite}
use Rattle.vx_grouped.specs.declared.group_site.GroupSite.TheVariants.{Up as SiteUp, Deported as SiteAway, Down as SiteDown, Marked, Gone as SiteGone}
use Rattle.vx_disk.specs.Disks.{SameBlocks}
use Rattle.vx_diskset.specs.Fuses.{HasLeft}
use Rattle.vx_yard.proofs.CrashSite.{crash_up}
use Rattle.vx_diskset.proofs.FailSets.{stands_failing}
use Rattle.vx_diskset.specs.Asked.{FailsAs, FusedAs, SetsDisk, SetsFuse, disks_told, units_in}
use Rattle.vx_diskset.specs.Holds.{KeptBeside, beside_of, doubt_of}
use Rattle.vx_diskset.specs.Stands.{IsGroupSet, SiteStands}
use Rattle.vx_diskset.specs.declared.disk_set.DiskSet.{DiskSet}
use Rattle.vx_diskset.specs.declared.disk_set.DiskSet.TheVariants.{OfGroup}
use Rattle.vx_diskset.specs.declared.group_set.GroupSet.{GroupSet}
use Rattle.vx_effects.proofs.Effects.{updated_self}
use Rattle.vx_events.proofs.Places.{never_some}
use Rattle.vx_events.proofs.Refused.{disk_may, fuse_may}
use Rattle.vx_events.specs.Facts.{seat_of, site_number}
use Rattle.vx_events.specs.Failing.{is_failing, made_fail}
use Rattle.vx_events.specs.GroupEnds.{GroupDone, GroupEnds}
use Rattle.vx_events.specs.GroupLines.{is_over_group, noting}
use Rattle.vx_events.specs.GroupNotes.{note_at}
use Rattle.vx_events.specs.StepsOver.{fact_of_group, group_place, over_group_at}
use Rattle.vx_events.specs.declared.said.Said.TheVariants.{Done}
use Rattle.vx_yard.proofs.Carrying.{SameLoad}
use Rattle.vx_yard.proofs.CrashLine.{rose_still}
use Rattle.vx_yard.proofs.FailsStay.{fails_then, fuse_keeps, set_on}
use Rattle.vx_yard.proofs.FuseStays.{fused_on, fused_set}
use Rattle.vx_yard.proofs.Lists.{set_same}
use Rattle.vx_yard.proofs.NamedSite.{asks_at, named_same, place_at}
use Rattle.vx_yard.proofs.OneSite.{Changed}
use Rattle.vx_yard.proofs.OverGroup.{over_is}
use Rattle.vx_yard.specs.OfSites.{OfSite}
use Rattle.vx_yard.specs.Standing.{Falls, LeadsOver, StandsFor, crash_of}
use Rattle.vx_yard.specs.Working.{IsFree}
use Rattle.vx_yard.specs.Yards.{IsTold, in_files}
use Rattle.vx_yard.specs.declared.yard.Yard.{Yard}
use Rattle.vx_group_lines.proofs.Arriving.{Arrives, IsStill, arrives_none, arrives_with, with_at}
use Rattle.vx_group_lines.proofs.GroupAt.{GroupAt, group_at, note_is}
use Rattle.vx_group_lines.proofs.GroupLeads.{Sets, follows_on, leads_by}
use Rattle.vx_yard.proofs.OverGroup.{set_notes}
use Rattle.vx_yard.proofs.FirstSites.{begins_like}

-- ---- a note that stays

-- the node that stands at its place
pub node_back : (w : World) (s : ℕ) (k : Node) → k ≡ w.nodes s → with_node w s k ≡ w
node_back w s k is =
    ap (λ (x : Node). with_node w s x) is
    ∙ ap (λ (ns : ℕ → Node). let v : World = record w { nodes = ns } in v) (fun_ext (λ i. sym (updated_self w.nodes s i)))

pub noting_same : (w : World) (s : ℕ) (note : GroupNode) → (w.nodes s).group ≡ Some note → noting w s note ≡ w
noting_same w s note is =
    node_back w s (record (w.nodes s) { group = Some note }) (ap (λ (o : Option GroupNode). let k : Node = record (w.nodes s) { group = o } in k) (sym is))

pub none_as : (n m : Node) → m.role ≡ n.role → m.volumes ≡ n.volumes → m.log ≡ n.log → m.safe ≡ n.safe → m.halted ≡ n.halted → HasNoRvg n → HasNoRvg m
none_as n m role volumes log safe running none = record {
  role = role ∙ none.role;
  volumes = volumes ∙ none.volumes;
  log = log ∙ none.log;
  safe = safe ∙ none.safe;
  running = running ∙ none.running;
}

module _ {R : Type 0} {g : Ghosts R} where
  -- as many disks as its node has
  site_units : (n : Node) (e : GroupSite R g) → GroupSiteStands n e → (site_disks e).units ≡ n.disks
  site_units n (SiteUp group) (note, it) = it.at.lies.units
  site_units n (SiteAway idle) (note, it) = it.away.lies.units
  site_units n (SiteDown idle) (note, it) = it.away.lies.units
  site_units n (Marked rack) it = it.units
  site_units n SiteGone it = absurd it

  set_units : (beside : KeptBeside) (n : Node) (set : GroupSet R g) → IsGroupSet beside n set → units_in (OfGroup set) ≡ n.disks
  set_units beside n set it = site_units n set.site it.stands

  -- the note of a site over a group
  pub group_noted_at : (d : Doubted) (y : Yard R g) (name : List ℕ) (s : ℕ) (e : DiskSet R g) → GroupAt d y name s e → (d.world.nodes s).group ≡ Some (note_at (d.world.nodes s))
  group_noted_at d y name s e at =
      let it = set_notes (beside_of d s) (d.world.nodes s) at.set at.stands at.made in
      it.1.is ∙ ap (λ (k : GroupNode). Some k) (note_is (d.world.nodes s) it.0 it.1)

  -- what stands beside such a site is not looked at
  pub sets_of : (beside : KeptBeside) (n : Node) (set : GroupSet R g) → IsGroupSet beside n set → Sets n set
  sets_of beside n set it other sure unlinked = record {
    sure = λ _. sure;
    unlinked = λ _. unlinked;
    stands = it.stands;
    cut = it.cut;
    lies = it.lies;
    bare = it.bare;
    few = it.few;
    some = it.some;
    maps = it.maps;
    plain = it.plain;
  }

  -- where the line begins
  pub begins_at : (d : Doubted) (y : Yard R g) (name : List ℕ) (s : ℕ) (e : DiskSet R g) → StandsFor d y → GroupAt d y name s e → Arrives d d s (d.world.nodes s) (d.world.gathering s)
  begins_at d y name s e stands at = arrives_none d s stands.links (no_after (d.after s) (at.stands.sure at.made)) (at.stands.unlinked at.made)
    where
      no_after : (o : Option After) → doubt_of d.world s o ≡ None → o ≡ None
      no_after None is = refl
      no_after (Some a) is = absurd (never_some (sym is))

  -- ---- lines that change no note

  pub still_leads : (d : Doubted) (old new : Yard R g) (name : List ℕ) (line : ScriptLine) (s : ℕ) (before after : DiskSet R g) (m : Node) → StandsFor d old → GroupAt d old name s before → Changed old new s before after
      → group_place d.world line ≡ s → GroupEnds (IsTold new) d line s [] Done (with_at d s m) → SiteStands (beside_of d s) m after → is_over_group m ≡ true → IsStill (d.world.nodes s) m → m.group ≡ (d.world.nodes s).group
      → HasNoRvg m → fact_of_group m (note_at (d.world.nodes s)) ≡ fact_of_group (d.world.nodes s) (note_at (d.world.nodes s)) → FailsAs m after → FusedAs m after → new.facts ≡ old.facts → SameLoad old new → LeadsOver d line Done old new
  still_leads d old new name line s before after m stands at changed place ends here over still group none fact failing fuse facts load = by_set after_is.0 after_is.1
    where
      n : Node
      n = d.world.nodes s

      after_is : (set : GroupSet R g) × (after ≡ OfGroup set)
      after_is = over_is (beside_of d s) m after here over

      by_set : (set : GroupSet R g) → after ≡ OfGroup set → LeadsOver d line Done old new
      by_set set is =
          let turned : Changed old new s before (OfGroup set) = subst (λ (x : DiskSet R g). Changed old new s before x) is changed in
          let stood : IsGroupSet (beside_of d s) m set = subst (λ (x : DiskSet R g). SiteStands (beside_of d s) m x) is here in
          leads_by d (with_at d s m) line s [] Done old new place ends
          (follows_on d (with_at d s m) s m (note_at n) (fact_of_group n (note_at n)) old new before set stands at.below turned
          (arrives_with d d s n m (d.world.gathering s) still (begins_at d old name s before stands at))
          (record { is = group ∙ group_noted_at d old name s before at; none = none }) (sets_of (beside_of d s) m set stood)
          (subst (λ (x : DiskSet R g). FailsAs m x) is failing) (subst (λ (x : DiskSet R g). FusedAs m x) is fuse) (sym fact)
          (ap (λ fs. fs.items) facts ∙ sym (set_same old.facts.items s (fact_of_group n (note_at n)) at.fact)) load)
          (rose_still old new s before (OfGroup set) turned.there turned.later turned.disk_sets)

  pub none_at : (d : Doubted) (y : Yard R g) (name : List ℕ) (s : ℕ) (e : DiskSet R g) → GroupAt d y name s e → HasNoRvg (d.world.nodes s)
  none_at d y name s e at = (set_notes (beside_of d s) (d.world.nodes s) at.set at.stands at.made).1.none

  -- ---- a disk that is made to fail

  pub disk_of_site : (d : Doubted) (old : Yard R g) (name : List ℕ) (disk : ℕ) (state : DiskState) (on : Bool) (s : ℕ) (before after : DiskSet R g) → StandsFor d old → IsFree old (Disk name disk state)
      → seat_of old.facts.items name ≡ Some s → over_group_at d.world name ≡ true → on ≡ is_failing state → slice_get old.disk_sets.items s ≡ Some before
      → (disk < units_in before → SetsDisk disk on before after) → SetsDisk disk (is_failing state) before after
  disk_of_site d old name disk state on s before after stands free seat over is there did =
      let at = group_at d old name s before stands seat over there in
      let may = disk_may old.facts.items (in_files old) name disk state free in
      let fact = named_same old name s (fact_of_group (d.world.nodes s) (note_at (d.world.nodes s))) may.0 seat at.fact in
      let units : units_in before ≡ (d.world.nodes s).disks = ap (λ (x : DiskSet R g). units_in x) at.is_set ∙ set_units (beside_of d s) (d.world.nodes s) at.set at.stands in
      subst (λ (b : Bool). SetsDisk disk b before after) is (did (omega (arith, may.1, units, ap (λ (f : SiteFacts). f.disks) fact)))

  pub disk_leads : (d : Doubted) (old new : Yard R g) (name : List ℕ) (disk : ℕ) (state : DiskState) (s : ℕ) (before after : DiskSet R g) → StandsFor d old → seat_of old.facts.items name ≡ Some s
      → over_group_at d.world name ≡ true → Changed old new s before after → ((beside : KeptBeside) (n : Node) → SiteStands beside n before → SiteStands beside n after)
      → SetsDisk disk (is_failing state) before after → new.facts ≡ old.facts → SameLoad old new → LeadsOver d (Disk name disk state) Done old new
  disk_leads d old new name disk state s before after stands seat over changed keeps sets facts load =
      let on : Bool = is_failing state in
      let n : Node = d.world.nodes s in
      let at : GroupAt d old name s before = group_at d old name s before stands seat over changed.there in
      let m : Node = record n { failing = updated n.failing disk on } in
      still_leads d old new name (Disk name disk state) s before after m stands at changed (place_at d old name s stands seat).number
      (GroupDone (note_at n) tt (refl, refl, refl)
      (record { world = sym (ap (λ (v : World). made_fail v s disk on) (noting_same d.world s (note_at n) (group_noted_at d old name s before at))); after = λ i. refl; strayed = refl }))
      (stands_failing (beside_of d s) n (updated n.failing disk on) after (keeps (beside_of d s) n (stands.disk_sets.sites s before at.below changed.there))) at.over
      (record { state = refl; halted = refl; role = refl; rests = record { quiet = λ q. q; rests = λ q. q }; first = λ site was. begins_like site n m (λ bare. bare) refl refl refl refl was }) refl
      (none_as n m refl refl refl refl refl (none_at d old name s before at)) refl
      (record { told = λ x there u fails. set_on disk on (disks_told before) (disks_told after) n.failing (stands.failing s before at.below changed.there).told sets x there u fails })
      (fused_set n m before after disk on refl sets (stands.fuses s before at.below changed.there)) facts load

  -- ---- a fuse that is set

  -- the site of such a line is up
  pub fuse_up : (d : Doubted) (old : Yard R g) (name : List ℕ) (calls pick s : ℕ) (before : DiskSet R g) → IsFree old (Fuse name calls pick) → seat_of old.facts.items name ≡ Some s → GroupAt d old name s before
      → (d.world.nodes s).state ≡ IsUp
  fuse_up d old name calls pick s before free seat at =
      let may = fuse_may old.facts.items (in_files old) name calls pick free in
      ap (λ (f : SiteFacts). f.state) (sym (named_same old name s (fact_of_group (d.world.nodes s) (note_at (d.world.nodes s))) may.0 seat at.fact)) ∙ may.1

  pub fuse_leads : (d : Doubted) (old new : Yard R g) (name : List ℕ) (calls pick s : ℕ) (before after : DiskSet R g) → StandsFor d old → IsFree old (Fuse name calls pick) → seat_of old.facts.items name ≡ Some s
      → over_group_at d.world name ≡ true → Changed old new s before after → ((beside : KeptBeside) (n : Node) → SiteStands beside n before → n.state ≡ IsUp → SiteStands beside (record n { fuse = FuseSet calls }) after)
      → ((beside : KeptBeside) (n : Node) → SiteStands beside n before → n.state ≡ IsUp → SetsFuse calls pick before after) → new.facts ≡ old.facts → SameLoad old new → LeadsOver d (Fuse name calls pick) Done old new
  fuse_leads d old new name calls pick s before after stands free seat over changed fuses asked facts load =
      let n : Node = d.world.nodes s in
      let at : GroupAt d old name s before = group_at d old name s before stands seat over changed.there in
      let m : Node = record n { fuse = FuseSet calls } in
      let there = stands.disk_sets.sites s before at.below changed.there in
      let up : n.state ≡ IsUp = fuse_up d old name calls pick s before free seat at in
      let sets = asked (beside_of d s) n there up in
      still_leads d old new name (Fuse name calls pick) s before after m stands at changed (place_at d old name s stands seat).number
      (GroupDone (note_at n) tt (refl, refl, refl)
      (record { world = sym (ap (λ (v : World). fused v s calls) (noting_same d.world s (note_at n) (group_noted_at d old name s before at))); after = λ i. refl; strayed = refl }))
      (fuses (beside_of d s) n there up) at.over (record { state = refl; halted = refl; role = refl; rests = record { quiet = λ q. q; rests = λ q. q }; first = λ site was. begins_like site n m (λ bare. bare) refl refl refl refl was }) refl
      (none_as n m refl refl refl refl refl (none_at d old name s before at)) refl
      (fails_then n m before after refl (fuse_keeps calls pick before after sets) (stands.failing s before at.below changed.there))
      (fused_on (λ o x. SameBlocks o x × (x.fuse ≡ Some (calls, pick))) n m (FuseSet calls) before after refl
      (λ x y set left. subst (λ (z : Option (ℕ × ℕ)). HasLeft calls z) (sym set.1) (omega arith)) sets (stands.fuses s before at.below changed.there)) facts load

  pub fuse_asks : (d : Doubted) (old new : Yard R g) (name : List ℕ) (calls pick s : ℕ) (before after : DiskSet R g) → StandsFor d old → IsFree old (Fuse name calls pick) → seat_of old.facts.items name ≡ Some s
      → over_group_at d.world name ≡ true → Changed old new s before after → ((beside : KeptBeside) (n : Node) → SiteStands beside n before → n.state ≡ IsUp → SetsFuse calls pick before after) → OfSite (SetsFuse calls pick) (site_number d.world name) old new
  fuse_asks d old new name calls pick s before after stands free seat over changed asked =
      let at : GroupAt d old name s before = group_at d old name s before stands seat over changed.there in
      asks_at (SetsFuse calls pick) d old new name s before after stands seat changed.there changed.disk_sets
      (asked (beside_of d s) (d.world.nodes s) (stands.disk_sets.sites s before at.below changed.there) (fuse_up d old name calls pick s before free seat at))

  -- ---- a site that crashes

  pub crash_group_leads : (d : Doubted) (old new : Yard R g) (name : List ℕ) (pick s : ℕ) (before : DiskSet R g) → StandsFor d old → IsFree old (Crash name pick) → seat_of old.facts.items name ≡ Some s
      → over_group_at d.world name ≡ true → slice_get old.disk_sets.items s ≡ Some before → ((d : Doubted) → StandsFor d old → s < d.world.sites → (d.world.nodes s).state ≡ IsUp → Falls d s old new)
      → LeadsOver d (Crash name pick) Done old new
  crash_group_leads d old new name pick s before stands free seat over there fell =
      let n : Node = d.world.nodes s in
      let at : GroupAt d old name s before = group_at d old name s before stands seat over there in
      let f : Falls d s old new = fell d stands at.below (crash_up d old name pick s stands free seat) in
      let p = f.plain at.over in
      let is : crash_of d s 0 false ≡ crash_of d s f.count f.taken = ap (λ (k : ℕ). crash_of d s k false) (sym p.0) ∙ ap (λ (b : Bool). crash_of d s f.count b) (sym p.1) in
      let last : Doubted = happened d (CrashAt s 0) false in
      let noted : (last.world.nodes s).group ≡ Some (note_at n) = ap (λ (x : Doubted). (x.world.nodes s).group) is ∙ f.group ∙ group_noted_at d old name s before at in
      leads_by d (crash_of d s f.count f.taken) (Crash name pick) s [] Done old new (place_at d old name s stands seat).number
      (subst (λ (x : Doubted). GroupEnds (IsTold new) d (Crash name pick) s [] Done x) is
      (GroupDone (note_at n) tt (refl, refl, refl) (record { world = sym (noting_same last.world s (note_at n) noted); after = λ i. refl; strayed = refl })))
      (record { stands = f.stands; carries = f.carries }) f.rose
