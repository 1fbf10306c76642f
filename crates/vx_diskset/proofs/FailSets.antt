-- Which disks of a site are made to fail is nothing by which its disk set stands.
use Rattle.std.proofs.Common.{◌≡◌, ℕ, Bool, ap}
use Rattle.vx_history.specs.World.{Node}
use Rattle.vx_disk.specs.declared.shelf.Shelf.{Ghosts}
use Rattle.vx_diskset.specs.Holds.{KeptBeside}
use Rattle.vx_diskset.specs.Stands.{SiteStands, bare_with}
use Rattle.vx_diskset.specs.declared.disk_set.DiskSet.{DiskSet}
use Rattle.vx_diskset.specs.declared.disk_set.DiskSet.TheVariants.{Bare, Spoiled, Up, Receives, Down, OfGroup, Over, Gone}
use Rattle.vx_diskset.proofs.FailGroup.{down_failing, receiver_failing, up_failing}
use Rattle.vx_diskset.proofs.GroupStands.{set_failing}
use Rattle.vx_diskset.proofs.OverSets.{over_failing}

bare_failing : (n : Node) (failing : ℕ → Bool) → n ≡ bare_with n → record n { failing = failing } ≡ bare_with (record n { failing = failing })
bare_failing n failing is = ap (λ (k : Node). let m : Node = record k { failing = failing } in m) is

module _ {R : Type 0} {g : Ghosts R} where
  pub stands_failing : (beside : KeptBeside) (n : Node) (failing : ℕ → Bool) (e : DiskSet R g) → SiteStands beside n e → SiteStands beside (record n { failing = failing }) e
  stands_failing beside n failing (Bare rack) h = record {
    bare = record { is = bare_failing n failing h.bare.is; fitted = h.bare.fitted; unarmed = h.bare.unarmed; few = h.bare.few; some = h.bare.some; blank = h.bare.blank };
    front = h.front;
  }
  stands_failing beside n failing (Spoiled rack) h = record { is = bare_failing n failing h.is; fitted = h.fitted; unarmed = h.unarmed; few = h.few; some = h.some; blank = h.blank }
  stands_failing beside n failing (Up rvg) h = (h.0, up_failing beside n failing rvg.core (g.meaning rvg.shelf) h.1)
  stands_failing beside n failing (Receives s) h = (h.0, receiver_failing beside n failing s.rvg.core s.waiting (g.meaning s.rvg.shelf) h.1)
  stands_failing beside n failing (Down rack) h = down_failing beside n failing (g.meaning rack) h
  stands_failing beside n failing (OfGroup s) h = set_failing beside n failing s h
  stands_failing beside n failing (Over s) h =
      (h.0, over_failing beside n failing s.site h.1)
  stands_failing beside n failing Gone h = absurd h
