-- A call on the group below a replicated volume group for which memory was short: the yard stands for the same world.
use Rattle.std.proofs.Common.{◌≡◌, ◌∙◌, ℕ, List, length, ap, refl, subst, sym}
use Rattle.std.specs.Prelude.{Result, Err}
use Rattle.vx_model.specs.declared.errors.OutOfMemory.{OutOfMemory}
use Rattle.vx_disk.specs.Shelf.{Meaning}
use Rattle.vx_disk.specs.declared.shelf.Shelf.{Ghosts}
use Rattle.vx_history.specs.Doubts.{Doubted}
use Rattle.vx_history.specs.Groups.{GroupNode}
use Rattle.vx_history.specs.World.{Node}
use Rattle.vx_grouped.specs.GroupSites.{UpNoted, site_disks}
use Rattle.vx_diskset.proofs.OverNoted.{up_named, up_noted}
use Rattle.vx_diskset.specs.Aboves.{site_in}
use Rattle.vx_diskset.specs.Asked.{FailsAs, FusedAs}
use Rattle.vx_diskset.specs.GroupSets.{cut_value}
use Rattle.vx_diskset.specs.Holds.{beside_of}
use Rattle.vx_diskset.specs.Layouts.{units_of}
use Rattle.vx_diskset.specs.Noted.{NotedOver, SiteNoted, below_rvg}
use Rattle.vx_diskset.specs.OverKeeps.{KeepsOver}
use Rattle.vx_diskset.specs.Stands.{RoleIs, SiteStands}
use Rattle.vx_diskset.specs.declared.disk_set.DiskSet.{DiskSet}
use Rattle.vx_diskset.specs.declared.disk_set.DiskSet.TheVariants.{Over}
use Rattle.vx_diskset.specs.declared.over_set.OverSet.{OverSet}
use Rattle.vx_events.proofs.OverSeats.{fact_apart}
use Rattle.vx_events.proofs.Places.{some_same}
use Rattle.vx_events.proofs.RvgEvents.{rvg_apart}
use Rattle.vx_events.specs.GroupNotes.{note_at}
use Rattle.vx_events.specs.LinkedFacts.{linked_fact}
use Rattle.vx_events.specs.RvgFits.{entries_noted}
use Rattle.vx_events.specs.declared.said.Said.{Said}
use Rattle.vx_script.specs.declared.line.ScriptLine.{ScriptLine}
use Rattle.vx_yard.proofs.Carrying.{SameLoad, carries_same}
use Rattle.vx_yard.proofs.CrashLine.{rose_still}
use Rattle.vx_yard.proofs.Lists.{set_same}
use Rattle.vx_yard.proofs.NamedSite.{unbegun_for}
use Rattle.vx_yard.proofs.OneSite.{Changed, Comes, stands_at, told_by}
use Rattle.vx_yard.specs.AboveLines.{LeadsAboveIs}
use Rattle.vx_yard.specs.Standing.{StandsFor, StaysFor}
use Rattle.vx_yard.specs.declared.yard.Yard.{Yard}
use Rattle.vx_above.proofs.OverSites.{note_is}
use Rattle.vx_above.proofs.Works.{beside_short}
use Rattle.vx_group_lines.proofs.BelowAt.{BelowAt}

module _ {R : Type 0} {g : Ghosts R} (d : Doubted) (old new : Yard R g) (name : List ℕ) (s : ℕ) (before after : DiskSet R g) (p : OverSet R g) (stands : StandsFor d old) (at : BelowAt d old name s before) (changed : Changed old new s before after) (is : after ≡ Over p)
    (noted : UpNoted (below_rvg (d.world.nodes s)) (note_at (d.world.nodes s)) (site_in p)) (cut : p.cut ≡ at.set.cut) (kept : KeepsOver at.set p) (stood : SiteStands (beside_of d s) (d.world.nodes s) (Over p)) (disks : (site_disks (site_in p)).disks ≡ (site_disks (site_in at.set)).disks) where
  abbrev n : Node
  n = d.world.nodes s

  abbrev note : GroupNode
  note = note_at (d.world.nodes s)

  changed_over : Changed old new s before (Over p)
  changed_over = subst (λ (x : DiskSet R g). Changed old new s before x) is changed

  fails : FailsAs n (Over p)
  fails =
      let was : FailsAs n (Over at.set) = subst (λ (x : DiskSet R g). FailsAs n x) at.is_set (stands.failing s before at.seat.below changed.there) in
      record { told = λ x told u on. was.told x (sym disks ∙ told) u on }

  fused : FusedAs n (Over p)
  fused =
      let was : FusedAs n (Over at.set) = subst (λ (x : DiskSet R g). FusedAs n x) at.is_set (stands.fuses s before at.seat.below changed.there) in
      record { told = λ x told. was.told x (sym disks ∙ told) }

  kind : RoleIs n (Over p)
  kind = kept.above n (subst (λ (x : DiskSet R g). RoleIs n x) at.is_set (stands.roles.each s before at.seat.below changed.there))

  comes : Comes d d s (Over p)
  comes = record {
    changes = record { sites = refl; nodes = λ i apart. refl; links = λ i k apart. refl; headers = λ i apart. refl; after = λ i apart. refl; strayed = λ calm. calm; gathering = λ i apart. refl };
    links = stands.links;
    stands = stood;
    failing = fails;
    fuse = fused;
    role = kind;
    doubt = λ was. was;
  }

  site_now : SiteNoted n note (Over p)
  site_now = (
    up_noted (below_rvg n) note (site_in p) noted,
    ap (λ c. cut_value c) cut ∙ at.noted.1,
    at.noted.2,
    at.noted.3,
    up_named (below_rvg n) note (units_of n) (length (entries_noted note)) (site_in p) noted,
  )

  noted_now : NotedOver n (Over p)
  noted_now = ((λ other here. subst (λ (x : GroupNode). SiteNoted n x (Over p)) (some_same (sym (note_is n at.over) ∙ here)) site_now), at.named)

  pub short_stays : new.facts.items ≡ old.facts.items → SameLoad old new → StaysFor d old new
  short_stays facts load = record {
    stands = stands_at d d old new s (linked_fact d.world s) before (Over p) stands at.seat.below changed_over comes (λ first. first) (λ was. noted_now) (sym (fact_apart d.world s (rvg_apart n at.over)))
        (facts ∙ sym (set_same old.facts.items s (linked_fact d.world s) at.seat.fact));
    carries = λ carries. carries_same d old new load (told_by old new s before (Over p) changed_over) carries;
    rose = rose_still old new s before after changed.there changed.later changed.disk_sets;
  }

module _ {R : Type 0} {g : Ghosts R} where
  -- memory was short before anything was done
  pub unbegun_below : (d : Doubted) (line : ScriptLine) (y : Yard R g) (r : Result Said OutOfMemory) (x : OutOfMemory) → r ≡ Err x → StandsFor d y → LeadsAboveIs d line y y r
  unbegun_below d line y r x is stands = subst (λ (q : Result Said OutOfMemory). LeadsAboveIs d line y y q) (sym is) (beside_short d line y y (unbegun_for d y stands))
