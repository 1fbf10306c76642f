-- What headers that are done say of the disks of their site: that of the log is not made to fail, and the fuse may let as many calls pass.
use Rattle.std.proofs.Common.{◌≡◌, ◌∙◌, ◌<◌, ◌≤◌, ℕ, true, false, arith, sym, subst}
use Rattle.std.proofs.lemmas.Bool.{false_from_ne_true}
use Rattle.std.specs.Prelude.{Option, Some, None}
use Rattle.vx_disk.specs.Burns.{FewerLeft}
use Rattle.vx_disk.specs.Causes.{WithDisks, Works}
use Rattle.vx_disk.specs.Disks.{Disks}
use Rattle.vx_disk.specs.Racks.{IsRack}
use Rattle.vx_disk.specs.declared.shelf.Shelf.{Ghosts}
use Rattle.vx_history.specs.World.{Fuse as FuseOf, Node, NoFuse, FuseSet, FuseLit}
use Rattle.vx_events.specs.Fuses.{MayPass}
use Rattle.vx_events.specs.declared.said.Said.TheVariants.{Done, Refused}
use Rattle.vx_model.specs.declared.no.No.{No}
use Rattle.vx_diskset.specs.Asked.{FailsAs, FusedAs, HeadUnder, disks_told}
use Rattle.vx_diskset.specs.Fuses.{LeftAs}
use Rattle.vx_diskset.specs.Holds.{KeptBeside}
use Rattle.vx_diskset.specs.Stands.{SiteStands}
use Rattle.vx_diskset.specs.declared.disk_set.DiskSet.{DiskSet}
use Rattle.vx_yard.proofs.FailsStay.{told_disks}

-- a refused line is not done
pub refused_undone : (why : No) → Refused why ≡ Done → ⊥
refused_undone why is = cc

works_on : (o : Option Disks) (d : Disks) → o ≡ Some d → Works o 0 → d.failing 0 ≡ false
works_on o d at works = let here : Works (Some d) 0 = subst (λ (x : Option Disks). Works x 0) at works in here

at_least : (k most : ℕ) (x y : Option (ℕ × ℕ)) → FewerLeft k x y → LeftAs (FuseLit most) x → k ≤ most
at_least k most None y fewer left = absurd left
at_least k most (Some f) y fewer left = omega (arith, fewer.0, left)

passes : (k : ℕ) (f : FuseOf) (x y : Option (ℕ × ℕ)) → FewerLeft k x y → LeftAs f x → MayPass k f
passes k NoFuse x y fewer left = tt
passes k (FuseSet calls) x y fewer left = at_least k calls x y fewer left
passes k (FuseLit most) x y fewer left = at_least k most x y fewer left

passes_on : (k : ℕ) (f : FuseOf) (o n : Option Disks) (d : Disks) → o ≡ Some d → WithDisks o n (λ x y. FewerLeft k x.fuse y.fuse) → LeftAs f d.fuse → MayPass k f
passes_on k f None n d at fewer left = absurd (cc)
passes_on k f (Some o) None d at fewer left = absurd fewer
passes_on k f (Some o) (Some n) d at fewer left =
    let same : o ≡ d = cc in
    passes k f o.fuse n.fuse fewer (subst (λ (x : Disks). LeftAs f x.fuse) (sym same) left)

module _ {R : Type 0} {g : Ghosts R} (racks : (r : R) → IsRack (g.meaning r)) (k : ℕ) (beside : KeptBeside) (n : Node) (before after : DiskSet R g) (stood : SiteStands beside n before) (head : HeadUnder k Done before after) where
  pub head_works : 0 < k → FailsAs n before → n.failing 0 ≡ false
  head_works some fails =
      let d = told_disks racks beside n before stood in
      let works : d.0.failing 0 ≡ false = works_on (disks_told before) d.0 d.1 (head.works some) in
      false_from_ne_true (n.failing 0) (λ on. let e : true ≡ false = sym (fails.told d.0 d.1 0 on) ∙ works in cc)

  pub head_passes : FusedAs n before → MayPass k n.fuse
  head_passes lit =
      let d = told_disks racks beside n before stood in
      passes_on k n.fuse (disks_told before) (disks_told after) d.0 d.1 head.takes (lit.told d.0 d.1)
