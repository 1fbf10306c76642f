-- What a line comes to that crashes a site, or that applies what is logged.
use Rattle.std.proofs.Common.{◌≡◌, ℕ, [], ap, sym, subst, refl}
use Rattle.std.specs.Prelude.{Some, slice_get, slice_set}
use Rattle.vx_effects.specs.Facts.{halted_group}
use Rattle.vx_history.specs.World.{Node, Fuse}
use Rattle.vx_model.specs.declared.site.SiteState.{SiteState}
use Rattle.vx_model.specs.declared.site.SiteState.TheVariants.{Bare as IsBare, Up as IsUp, Deported, Down as IsDown}
use Rattle.vx_disk.specs.declared.shelf.Shelf.{Ghosts}
use Rattle.vx_order.specs.declared.facts.SiteFacts.{SiteFacts}
use Rattle.vx_diskset.specs.declared.disk_set.DiskSet.{DiskSet}
use Rattle.vx_yard.specs.declared.yard.Yard.{Yard}
use Rattle.vx_yard.specs.Changes.{halted_facts}
use Rattle.vx_diskset.specs.DiskSets.{Later, halted_at}
use Rattle.vx_events.specs.Facts.{group_by}
use Rattle.vx_yard.specs.Stands.{RoseAll, site_faults}
use Rattle.vx_yard.specs.Yards.{count_of}
use Rattle.vx_yard.proofs.ChangeSite.{rose_none, counts_later}
use Rattle.vx_events.specs.LinkedFacts.{seen_fact}

halted_as : (state : SiteState) (n : Node) (disk : ℕ) → halted_group disk (group_by state n) ≡ group_by state (halted_at n disk)
halted_as IsBare n disk = refl
halted_as IsUp n disk = refl
halted_as Deported n disk = refl
halted_as IsDown n disk = refl

pub stopped_fact : (n : Node) (disk : ℕ) → halted_facts disk (seen_fact n) ≡ seen_fact (halted_at n disk)
stopped_fact n disk = ap (λ r. let f : SiteFacts = record (seen_fact n) { rvg = r } in f) (halted_as n.state n disk)

fuse_as : (state : SiteState) (n : Node) (f : Fuse) → group_by state (record n { fuse = f }) ≡ group_by state n
fuse_as IsBare n f = refl
fuse_as IsUp n f = refl
fuse_as Deported n f = refl
fuse_as IsDown n f = refl

-- the tests see no fuse
pub fuse_fact : (n : Node) (f : Fuse) → seen_fact (record n { fuse = f }) ≡ seen_fact n
fuse_fact n f = ap (λ r. let x : SiteFacts = record (seen_fact n) { rvg = r } in x) (fuse_as n.state n f)

module _ {R : Type 0} {g : Ghosts R} where
  pub rose_still : (old new : Yard R g) (s : ℕ) (e after : DiskSet R g) → slice_get old.disk_sets.items s ≡ Some e → Later e after → new.disk_sets.items ≡ slice_set old.disk_sets.items s after → RoseAll [] (count_of old) (count_of new)
  rose_still old new s e after there later disk_sets =
      subst (λ es. RoseAll [] (count_of old) (site_faults es)) (sym disk_sets)
      (rose_none (count_of old) (site_faults (slice_set old.disk_sets.items s after)) (λ i d. counts_later old.disk_sets.items s e after there later i d))
