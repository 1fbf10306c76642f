-- A site whose group of disks, with a replicated volume group over it, crashes: they keep its writes.
use Rattle.std.proofs.Common.{◌≡◌, subst}
use Rattle.vx_disk.specs.Racks.{IsRack, Stopped}
use Rattle.vx_disk.specs.Shelf.{Lawful}
use Rattle.vx_disk.specs.declared.shelf.Shelf.{Ghosts}
use Rattle.vx_group.specs.Holding.{wide}
use Rattle.vx_group.specs.Laws.{group_lawful}
use Rattle.vx_untold.specs.Shades.{shade_meaning}
use Rattle.vx_untold.specs.declared.shade.Shade.{Shade}
use Rattle.vx_history.specs.World.{Node}
use Rattle.vx_kept.specs.Commits.{Member}
use Rattle.vx_diskset.specs.LaidBlocks.{laid_blockwise}
use Rattle.vx_grouped.specs.GroupSites.{idle_disks, laid_disks}
use Rattle.vx_grouped.specs.declared.idle.Idle.{Idle}
use Rattle.vx_grouped.specs.declared.laid.Laid.{Laid}
use Rattle.vx_diskset.specs.DiskSets.{CrashedAt}
use Rattle.vx_diskset.specs.Holds.{KeptBeside}
use Rattle.vx_diskset.specs.Stands.{CutAt, CutOver, IsHeldAt, IsOverSite, OverStands, SiteStands}
use Rattle.vx_diskset.specs.declared.disk_set.DiskSet.TheVariants.{Over}
use Rattle.vx_diskset.specs.declared.founded.Founded.{Founded}
use Rattle.vx_diskset.specs.declared.founded.FoundedReceiver.{FoundedReceiver}
use Rattle.vx_diskset.specs.declared.over_set.OverSet.{OverSet}
use Rattle.vx_diskset.specs.declared.over_set.OverSite.{OverSite}
use Rattle.vx_diskset.specs.declared.over_set.OverSite.TheVariants.{Origin as OriginSite, Receiver as ReceiverSite, Down as GroupFell}
use Rattle.vx_diskset.proofs.OverCrash.{over_fell}
use Rattle.vx_diskset.proofs.Receiving.{receiver_held}
use Rattle.vx_diskset.proofs.StaysUp.{held_up}
use Rattle.vx_group.specs.Settles.{LacksCommit}
use Rattle.vx_logimport.specs.declared.rested.Rested.{Rested}
use Rattle.std.specs.Prelude.{Some}
use Rattle.vx_diskset.proofs.Laying.{over_there}
use Rattle.vx_diskset.proofs.OverSettles.{fell_settles}

module _ {R : Type 0} {g : Ghosts R} {beside : KeptBeside} (n : Node) (s : OverSet R g) (idle : Idle R g) (laws : (t : Shade R) → Lawful (shade_meaning g.meaning t)) (rack : IsRack (idle_disks idle)) where
  pub fell_held : (l : Laid R g) → Stopped (laid_disks l) (idle_disks idle) → ((r : Rested) → idle.rested ≡ Some r → LacksCommit l.core.inner → ⊥) → IsOverSite beside n → IsHeldAt beside n (laid_blockwise l) → CrashedAt beside n (Over (record { site = GroupFell idle; cut = s.cut }))
  fell_held l stop lacking over held = over_fell n l idle (Member (wide l.core).good (laid_disks l)) over held stop (laws idle.rack) rack l.stands.group.stands.kept
      (group_lawful (wide l.core) (laid_disks l) (laws l.shelf) l.stands.group.stands) (fell_settles l n idle stop (over_there n (laid_blockwise l) over.0 held.lies) lacking) s.cut

  module _ (f : Founded R g) (is : s.site ≡ OriginSite f) (stop : Stopped (laid_disks f.laid) (idle_disks idle)) (lacking : (r : Rested) → idle.rested ≡ Some r → LacksCommit f.laid.core.inner → ⊥) where
    pub origin_crashed : SiteStands beside n (Over s) → CrashedAt beside n (Over (record { site = GroupFell idle; cut = s.cut }))
    origin_crashed stands = fell_held f.laid stop lacking stands.0 (held_up n f.core (laid_blockwise f.laid) (subst (λ (x : OverSite R g). OverStands beside n x) is stands.1))

    pub origin_held : CutAt beside n (Over s) → CrashedAt beside n (Over (record { site = GroupFell idle; cut = s.cut }))
    origin_held cut = fell_held f.laid stop lacking cut.0 (subst (λ (x : OverSite R g). CutOver beside n x) is cut.1)

  module _ (f : FoundedReceiver R g) (is : s.site ≡ ReceiverSite f) (stop : Stopped (laid_disks f.laid) (idle_disks idle)) (lacking : (r : Rested) → idle.rested ≡ Some r → LacksCommit f.laid.core.inner → ⊥) where
    pub receiver_crashed : SiteStands beside n (Over s) → CrashedAt beside n (Over (record { site = GroupFell idle; cut = s.cut }))
    receiver_crashed stands = fell_held f.laid stop lacking stands.0 (receiver_held n f.core f.waiting (laid_blockwise f.laid) (subst (λ (x : OverSite R g). OverStands beside n x) is stands.1))

    pub receiver_cut : CutAt beside n (Over s) → CrashedAt beside n (Over (record { site = GroupFell idle; cut = s.cut }))
    receiver_cut cut = fell_held f.laid stop lacking cut.0 (subst (λ (x : OverSite R g). CutOver beside n x) is cut.1)
