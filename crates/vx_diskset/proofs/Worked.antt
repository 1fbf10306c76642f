-- Disks on which some writes and flushes may have been made stand for their site, of whose fuse less is known.
use Rattle.std.proofs.Common.{◌≡◌, ◌∙◌, ap, sym, subst}
use Rattle.vx_history.specs.Steps.{burned, worked}
use Rattle.vx_history.specs.World.{Fuse, NoFuse, Node}
use Rattle.vx_disk.specs.Shelf.{Meaning}
use Rattle.vx_disk.specs.declared.shelf.Shelf.{Ghosts}
use Rattle.vx_diskset.specs.Holds.{KeptBeside}
use Rattle.vx_diskset.specs.Stands.{IsBareAt, IsCleanAt, IsDownAt, SiteStands}
use Rattle.vx_diskset.specs.declared.disk_set.DiskSet.{DiskSet}
use Rattle.vx_diskset.specs.declared.disk_set.DiskSet.TheVariants.{Bare, Spoiled, Up, Receives, Down, OfGroup, Over, Gone}
use Rattle.vx_diskset.proofs.GroupStands.{set_burned}
use Rattle.vx_diskset.proofs.OverSets.{over_worked}
use Rattle.vx_diskset.proofs.ReachedBack.{receiver_burned}
use Rattle.vx_diskset.proofs.StaysUp.{up_worked}

bare_worked : (n : Node) (m : Meaning) → IsBareAt n m → n ≡ worked n
bare_worked n m bare = let none : n.fuse ≡ NoFuse = ap (λ (k : Node). k.fuse) bare.is in ap (λ (x : Fuse). record n { fuse = x }) (none ∙ sym (ap (λ (x : Fuse). burned x) none))

down_worked : {beside : KeptBeside} (n : Node) (m : Meaning) → IsDownAt beside n m → n ≡ worked n
down_worked n m down = ap (λ (x : Fuse). record n { fuse = x }) (down.unfused ∙ sym (ap (λ (x : Fuse). burned x) down.unfused))

module _ {R : Type 0} {g : Ghosts R} where
  pub stands_worked : (beside : KeptBeside) (n : Node) (e : DiskSet R g) → SiteStands beside n e → SiteStands beside (worked n) e
  stands_worked beside n (Bare rack) stands = subst (λ (k : Node). IsCleanAt k (g.meaning rack)) (bare_worked n (g.meaning rack) stands.bare) stands
  stands_worked beside n (Spoiled rack) stands = subst (λ (k : Node). IsBareAt k (g.meaning rack)) (bare_worked n (g.meaning rack) stands) stands
  stands_worked beside n (Up rvg) stands = (stands.0, up_worked n rvg.core (g.meaning rvg.shelf) stands.1)
  stands_worked beside n (Receives s) stands = (stands.0, receiver_burned n s.rvg.core s.waiting (g.meaning s.rvg.shelf) stands.1)
  stands_worked beside n (Down rack) stands = subst (λ (k : Node). IsDownAt beside k (g.meaning rack)) (down_worked n (g.meaning rack) stands) stands
  stands_worked beside n (OfGroup s) stands = set_burned beside n s stands
  stands_worked beside n (Over s) stands =
      (stands.0, over_worked beside n s.site stands.1)
  stands_worked beside n Gone stands = absurd stands
