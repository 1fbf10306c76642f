-- What a line that makes a disk fail, or ends that, comes to.
use Rattle.std.proofs.Common.{◌≡◌, ℕ, Bool, true, false, List, [], ap, sym, subst, refl}
use Rattle.std.specs.Prelude.{None, Option, Some, slice_get}
use Rattle.vx_history.specs.Doubts.{Doubted}
use Rattle.vx_history.specs.World.{with_node}
use Rattle.vx_history.specs.World.{Node, updated}
use Rattle.vx_disk.specs.declared.shelf.Shelf.{Ghosts}
use Rattle.vx_script.specs.declared.line.DiskState.{DiskState}
use Rattle.vx_script.specs.declared.line.ScriptLine.TheVariants.{Disk}
use Rattle.vx_diskset.specs.declared.disk_set.DiskSet.{DiskSet}
use Rattle.vx_events.specs.declared.said.Said.TheVariants.{Done}
use Rattle.vx_yard.specs.declared.yard.Yard.{Yard}
use Rattle.vx_events.specs.Facts.{seat_of, site_number}
use Rattle.vx_events.specs.Failing.{is_failing, made_fail}
use Rattle.vx_events.specs.StepsOver.{over_group_at}
use Rattle.vx_yard.proofs.CrashLine.{rose_still}
use Rattle.vx_yard.proofs.FailsStay.{failing_fact}
use Rattle.vx_diskset.proofs.FailSets.{stands_failing}
use Rattle.vx_diskset.specs.Asked.{SetsDisk, disks_told, units_in}
use Rattle.vx_diskset.specs.Holds.{KeptBeside, beside_of}
use Rattle.vx_diskset.specs.Stands.{KeepsRole, SiteStands}
use Rattle.vx_events.proofs.Refused.{disk_may}
use Rattle.vx_yard.specs.OfSites.{OfSite}
use Rattle.vx_yard.specs.Standing.{Leads, StandsFor, BeginsFirst}
use Rattle.vx_yard.specs.Working.{IsFree}
use Rattle.vx_yard.specs.Yards.{IsTold, in_files}
use Rattle.vx_yard.proofs.FailsStay.{set_on}
use Rattle.vx_yard.proofs.FuseStays.{fused_set}
use Rattle.vx_yard.proofs.NamedSite.{apart_at, asks_at, fact_named, named_at, place_at}
use Rattle.vx_yard.proofs.NoteSite.{changes_one, comes_one, none_left, with_one}
use Rattle.vx_yard.proofs.OneSite.{Changed, role_kept, stands_still, told_by}
use Rattle.vx_yard.proofs.Rows.{fact_like, fact_same}
use Rattle.vx_history.proofs.Updates.{at_place}
use Rattle.vx_order.specs.declared.facts.SiteFacts.{SiteFacts}
use Rattle.vx_diskset.specs.declared.disk_set.DiskSet.TheVariants.{Bare, Spoiled, Up, Receives, Down, OfGroup, Over, Gone}
use Rattle.std.proofs.Common.{◌<◌, ◌∙◌, arith}
use Rattle.vx_yard.proofs.Carrying.{SameLoad, carries_node}
use Rattle.vx_grouped.specs.GroupSites.{GroupSiteStands, site_disks}
use Rattle.vx_grouped.specs.declared.group_site.GroupSite.{GroupSite}
use Rattle.vx_grouped.specs.declared.group_site.GroupSite.TheVariants.{Up as GroupUp, Deported as GroupDeported, Down as GroupDown, Marked, Gone as GroupGone}
use Rattle.vx_site_lines.proofs.Apart.{fact_stays, over_is}
use Rattle.vx_diskset.proofs.Laying.{raw_in}
use Rattle.vx_yard.proofs.FirstSites.{begins_like}
use Rattle.vx_diskset.proofs.NotedLikes.{noted_stays}
use Rattle.vx_diskset.specs.Aboves.{site_in}
use Rattle.vx_diskset.specs.Noted.{NotedOver, NotedOn, OversStay, below_rvg}
use Rattle.vx_history.specs.Groups.{GroupNode}
use Rattle.vx_events.specs.Ends.{Ends}
use Rattle.vx_events.specs.GroupLines.{is_over_group}
use Rattle.vx_events.specs.GroupNotes.{IsKnown, note_at}
use Rattle.vx_events.specs.RvgOver.{EndsOver}
use Rattle.vx_events.specs.RvgSteps.{over_rvg_at}
use Rattle.vx_events.specs.RvgViews.{is_over_rvg}
use Rattle.vx_yard.specs.AboveLines.{LeadsAbove}
use Rattle.vx_yard.specs.Carries.{Carries}
use Rattle.vx_events.proofs.RvgEvents.{rvg_apart}
use Rattle.vx_site_lines.proofs.AboveEnds.{stays_over}

-- a site one of whose disks is made to fail, or not any longer
abbrev disk_node : Node → (disk : ℕ) → DiskState → Node
disk_node m disk state = record m { failing = updated m.failing disk (is_failing state) }

-- a site that notes one
note_of : (o : Option GroupNode) → (o ≡ None → ⊥) → (note : GroupNode) × (o ≡ Some note)
note_of None some = absurd (some refl)
note_of (Some note) some = (note, refl)

disk_ends : (told : Type 0) (d : Doubted) (name : List ℕ) (disk : ℕ) (state : DiskState) (s : ℕ) → site_number d.world name ≡ s
    → Ends told d (Disk name disk state) (site_number d.world name) [] Done (with_one d s (disk_node (d.world.nodes s) disk state))
disk_ends told d name disk state s number =
    none_left told d (Disk name disk state) (site_number d.world name) Done (with_node d.world s (disk_node (d.world.nodes s) disk state)) refl refl (ap (λ (k : ℕ). made_fail d.world k disk (is_failing state)) (sym number))

module _ {R : Type 0} {g : Ghosts R} where
  -- those of a group have as many
  group_units : (n : Node) (e : GroupSite R g) → GroupSiteStands n e → (site_disks e).units ≡ n.disks
  group_units n (GroupUp group) (note, h) = h.at.lies.units
  group_units n (GroupDeported rack) (note, h) = h.away.lies.units
  group_units n (GroupDown rack) (note, h) = h.away.lies.units
  group_units n (Marked rack) h = h.units
  group_units n GroupGone h = absurd h

  over_units : (n : Node) (note : GroupNode) (e : GroupSite R g) → NotedOn (below_rvg n) note e → (site_disks e).units ≡ n.disks
  over_units n note (GroupUp group) h = h.at.lies.units
  over_units n note (GroupDeported rack) h = h.away.lies.units
  over_units n note (GroupDown rack) h = h.away.lies.units
  over_units n note (Marked rack) h = absurd h
  over_units n note GroupGone h = absurd h

  units_at : (beside : KeptBeside) (n : Node) (e : DiskSet R g) → NotedOver n e → SiteStands beside n e → units_in e ≡ n.disks
  units_at beside n (Bare rack) noted h = h.bare.fitted.units
  units_at beside n (Spoiled rack) noted h = h.fitted.units
  units_at beside n (Up rvg) noted h = (raw_in n (g.meaning rvg.shelf) h.0.0 h.1.lies).units
  units_at beside n (Receives site) noted h = (raw_in n (g.meaning site.rvg.shelf) h.0.0 h.1.lies).units
  units_at beside n (Down rack) noted h = h.lies.units
  units_at beside n (OfGroup s) noted h = group_units n s.site h.stands
  units_at beside n (Over s) noted h = let has = note_of n.group h.0.0 in over_units n has.0 (site_in s) (noted.0 has.0 has.1).0
  units_at beside n Gone noted h = absurd h

  -- the disk that the line names is one of the site's
  pub disk_set_so : (d : Doubted) (old : Yard R g) (name : List ℕ) (disk : ℕ) (state : DiskState) (on : Bool) (s : ℕ) (before after : DiskSet R g) → StandsFor d old → over_group_at d.world name ≡ false → IsFree old (Disk name disk state)
      → seat_of old.facts.items name ≡ Some s → on ≡ is_failing state → slice_get old.disk_sets.items s ≡ Some before → (disk < units_in before → SetsDisk disk on before after) → SetsDisk disk (is_failing state) before after
  disk_set_so d old name disk state on s before after stands apart free seat is there did =
      let here = named_at d old name s stands apart seat in
      let may = disk_may old.facts.items (in_files old) name disk state free in
      let fact = fact_named d old name s here seat may.0 in
      let units = units_at (beside_of d s) (d.world.nodes s) before (stands.noted s before here.below there) (stands.disk_sets.sites s before here.below there) in
      subst (λ (b : Bool). SetsDisk disk b before after) is (did (omega (arith, may.1, units, ap (λ (f : SiteFacts). f.disks) fact)))

  -- the yard behind it, in which the site has such a disk
  pub disk_stands : (d : Doubted) (old new : Yard R g) (disk : ℕ) (state : DiskState) (s : ℕ) (before after : DiskSet R g) → StandsFor d old → s < d.world.sites → is_over_group (d.world.nodes s) ≡ false
      → Changed old new s before after → KeepsRole before after → OversStay before after → ((beside : KeptBeside) (n : Node) → SiteStands beside n before → SiteStands beside n after) → SetsDisk disk (is_failing state) before after
      → new.facts ≡ old.facts → StandsFor (with_one d s (disk_node (d.world.nodes s) disk state)) new
  disk_stands d old new disk state s before after stands below over changed role noted keeps sets facts =
      let on : Bool = is_failing state in
      let m : Node = d.world.nodes s in
      let failing : ℕ → Bool = updated m.failing disk on in
      let n : Node = record m { failing = failing } in
      let there = stands.disk_sets.sites s before below changed.there in
      stands_still d (with_one d s n) old new s before after stands below changed
      (comes_one d s n after refl stands.links (stands_failing (beside_of d s) m failing after (keeps (beside_of d s) m there))
      (record { told = λ x at u fails. set_on disk on (disks_told before) (disks_told after) m.failing (stands.failing s before below changed.there).told sets x at u fails })
      (fused_set m n before after disk on refl sets (stands.fuses s before below changed.there)) (role_kept d old s before after stands below changed.there role))
      (λ first. subst (λ (x : Node). BeginsFirst s x) (sym (at_place d.world.nodes s n)) (begins_like s m n (λ bare. bare) refl refl refl refl first))
      (λ was. subst (λ (x : Node). NotedOver x after) (sym (at_place d.world.nodes s n))
      (noted_stays m n (record { name = refl; disks = refl; blocks = refl; volumes = refl; group = refl; state = refl; fuse = refl }) before after noted was))
      (fact_stays d.world (with_one d s n).world s over (over_is n ((with_one d s n).world.nodes s) (at_place d.world.nodes s n) over)
      (fact_same n ((with_one d s n).world.nodes s) (d.world.links s) (d.world.links s) d.world.sites d.world.sites (at_place d.world.nodes s n) (λ k. refl) refl
      ∙ fact_like m n (d.world.links s) d.world.sites (failing_fact m failing) (λ k l. refl)))
      (ap (λ fs. fs.items) facts)

  disk_carries : (d : Doubted) (old new : Yard R g) (disk : ℕ) (state : DiskState) (s : ℕ) (before after : DiskSet R g) → Changed old new s before after → SameLoad old new
      → Carries d old → Carries (with_one d s (disk_node (d.world.nodes s) disk state)) new
  disk_carries d old new disk state s before after changed load =
      let n : Node = disk_node (d.world.nodes s) disk state in
      carries_node s d (with_one d s n) n old new load (changes_one d s n) refl refl (at_place d.world.nodes s n) refl refl refl (told_by old new s before after changed)

  pub disk_leads : (d : Doubted) (old new : Yard R g) (name : List ℕ) (disk : ℕ) (state : DiskState) (s : ℕ) (before after : DiskSet R g) → StandsFor d old → over_group_at d.world name ≡ false → seat_of old.facts.items name ≡ Some s
      → Changed old new s before after → KeepsRole before after → OversStay before after → ((beside : KeptBeside) (n : Node) → SiteStands beside n before → SiteStands beside n after) → SetsDisk disk (is_failing state) before after
      → new.facts ≡ old.facts → SameLoad old new → Leads d (Disk name disk state) Done old new
  disk_leads d old new name disk state s before after stands apart is changed role noted keeps sets facts load =
      let seat = named_at d old name s stands apart is in
      record {
        next = with_one d s (disk_node (d.world.nodes s) disk state);
        fails = [];
        done = record { ends = disk_ends (IsTold new) d name disk state s seat.number; counts = tt; works = tt; calls = tt };
        carries = disk_carries d old new disk state s before after changed load;
        stands = disk_stands d old new disk state s before after stands seat.below (apart_at d old name s stands apart is) changed role noted keeps sets facts;
        rose = rose_still old new s before after changed.there changed.later changed.disk_sets;
      }

  -- the same where the group of the site bears a replicated volume group
  pub disk_above : (d : Doubted) (old new : Yard R g) (name : List ℕ) (disk : ℕ) (state : DiskState) (s : ℕ) (before after : DiskSet R g) → StandsFor d old → over_rvg_at d.world name ≡ true → seat_of old.facts.items name ≡ Some s
      → Changed old new s before after → KeepsRole before after → OversStay before after → ((beside : KeptBeside) (n : Node) → SiteStands beside n before → SiteStands beside n after) → SetsDisk disk (is_failing state) before after
      → new.facts ≡ old.facts → SameLoad old new → LeadsAbove d (Disk name disk state) Done old new
  disk_above d old new name disk state s before after stands rvg is changed role noted keeps sets facts load =
      let m : Node = d.world.nodes s in
      let n : Node = disk_node m disk state in
      let seat = place_at d old name s stands is in
      let over : is_over_rvg m ≡ true = subst (λ (i : ℕ). is_over_rvg (d.world.nodes i) ≡ true) seat.number rvg in
      record {
        next = with_one d s n;
        fails = [];
        works = subst (λ (i : ℕ). EndsOver (IsTold new) d (Disk name disk state) i [] Done (with_one d s n)) (sym seat.number)
            (stays_over (IsTold new) d (Disk name disk state) s Done Done (with_one d s n) (disk_ends (IsKnown (IsTold new) (note_at m)) d name disk state s seat.number) refl refl over
            (ap (λ (x : Node). x.group) (at_place d.world.nodes s n)) refl);
        carries = disk_carries d old new disk state s before after changed load;
        stands = disk_stands d old new disk state s before after stands seat.below (rvg_apart m over) changed role noted keeps sets facts;
        rose = rose_still old new s before after changed.there changed.later changed.disk_sets;
      }

  pub disk_asks : (d : Doubted) (old new : Yard R g) (name : List ℕ) (disk : ℕ) (state : DiskState) (s : ℕ) (before after : DiskSet R g) → StandsFor d old → seat_of old.facts.items name ≡ Some s
      → Changed old new s before after → SetsDisk disk (is_failing state) before after → OfSite (SetsDisk disk (is_failing state)) (site_number d.world name) old new
  disk_asks d old new name disk state s before after stands is changed sets =
      asks_at (SetsDisk disk (is_failing state)) d old new name s before after stands is changed.there changed.disk_sets sets
