-- What calls on a replicated volume group that receives answer of its site, over a group.
use Rattle.std.proofs.Common.{◌≡◌, ◌∙◌, ℕ, ◌≤◌, List, length, drop, ap, subst, sym, arith}
use Rattle.std.specs.Prelude.{None, Option, Result, Ok, Err}
use Rattle.vx_disk.specs.Counts.{Rose}
use Rattle.vx_disk.specs.Shelf.{Lawful}
use Rattle.vx_disk.specs.declared.shelf.Shelf.{Ghosts}
use Rattle.vx_history.specs.World.{Fuse, Node}
use Rattle.vx_model.specs.declared.call.Update.{Update}
use Rattle.vx_model.specs.declared.no.No.{No}
use Rattle.vx_model.specs.declared.no.No.TheVariants.{Device}
use Rattle.vx_secondary.specs.Receivers.{writes_of_updates}
use Rattle.vx_diskset.specs.LaidBlocks.{laid_blockwise}
use Rattle.vx_grouped.specs.GroupSites.{laid_disks, site_disks}
use Rattle.vx_diskset.specs.Aboves.{below_site}
use Rattle.vx_diskset.specs.DiskSets.{ReadAt}
use Rattle.vx_diskset.specs.Holds.{KeptBeside}
use Rattle.vx_diskset.specs.Stands.{IsReceiverAt, IsUpAt, OverStands, SiteStands, IsOverSite}
use Rattle.vx_diskset.specs.declared.founded.FoundedReceiver.{FoundedReceiver}
use Rattle.vx_diskset.specs.declared.group_set.CutWrite.{CutWrite}
use Rattle.vx_diskset.specs.declared.disk_set.DiskSet.TheVariants.{Over}
use Rattle.vx_diskset.specs.declared.over_set.OverSet.{OverSet}
use Rattle.vx_diskset.specs.declared.over_set.OverSite.{OverSite}
use Rattle.vx_diskset.specs.declared.over_set.OverSite.TheVariants.{Receiver as ReceiverSite}
use Rattle.vx_diskset.proofs.Receiving.{as_receiver, durable_of, receiver_up}
use Rattle.vx_diskset.specs.Shelves.{ReadAs}
use Rattle.vx_diskset.specs.Received.{ShowedAt}
use Rattle.vx_diskset.specs.Works.{ShownAs}

module _ {R : Type 0} {g : Ghosts R} (beside : KeptBeside) (n : Node) (old : OverSet R g) (f f' : FoundedReceiver R g) (cut : Option CutWrite) (is : old.site ≡ ReceiverSite f) (waiting : f'.waiting ≡ f.waiting) (stands : SiteStands beside n (Over old)) (running : n.halted ≡ None) where
  abbrev new : OverSet R g
  new = record { site = ReceiverSite f'; cut = cut }

  here : IsReceiverAt beside n f.core f.waiting (laid_blockwise f.laid)
  here = subst (λ (s : OverSite R g). OverStands beside n s) is stands.1

  over : IsOverSite beside n
  over = stands.0

  -- as a site with its durable writes
  pub over_durable : Lawful (laid_blockwise f.laid) → IsUpAt beside (durable_of n) f.core (laid_blockwise f.laid)
  over_durable lawful = receiver_up n f.core f.waiting (laid_blockwise f.laid) here running lawful f.sound.log_unit

  rose_over : (disk : ℕ) → Rose ((laid_disks f.laid).disk_faults disk) ((laid_disks f'.laid).disk_faults disk) → Rose ((site_disks (below_site old.site)).disk_faults disk) ((laid_disks f'.laid).disk_faults disk)
  rose_over disk rose = subst (λ (s : OverSite R g). Rose ((site_disks (below_site s)).disk_faults disk) ((laid_disks f'.laid).disk_faults disk)) (sym is) rose

  waits_new : writes_of_updates f'.waiting ≡ drop n.safe n.log
  waits_new = ap (λ (us : List Update). writes_of_updates us) waiting ∙ here.waits ∙ ap (λ (k : ℕ). drop k n.log) (here.head running)

  long : n.safe ≤ length n.log
  long = omega (arith, here.least, here.most)

  receives : (halted : Option ℕ) (fuse : Fuse) → IsUpAt beside (record (durable_of n) { halted = halted; fuse = fuse }) f'.core (laid_blockwise f'.laid) → IsReceiverAt beside (record n { halted = halted; fuse = fuse }) f'.core f'.waiting (laid_blockwise f'.laid)
  receives halted fuse up = as_receiver n f'.waiting halted fuse f'.core (laid_blockwise f'.laid) (here.sure running) here.role long waits_new up

  pub over_read : (volume start count : ℕ) (bytes : List ℕ) (r : Result (Unit {0}) No) → ReadAs beside (durable_of n) volume start count bytes f'.core (laid_blockwise f.laid) (laid_blockwise f'.laid) r → ReadAt beside n volume start count bytes (Over old) (Over new) r
  over_read volume start count bytes (Ok done) l = (l.0, (over, receives n.halted n.fuse l.1))
  over_read volume start count bytes (Err (Device disk)) l = ((over, receives n.halted n.fuse l.0), rose_over disk l.1)
  over_read volume start count bytes (Err other) l = l

module _ {R : Type 0} {g : Ghosts R} (beside : KeptBeside) (n : Node) (old : OverSet R g) (f f' : FoundedReceiver R g) (cut : Option CutWrite) (is : old.site ≡ ReceiverSite f) (stands : SiteStands beside n (Over old)) where
  pub receiver_in : IsReceiverAt beside n f.core f.waiting (laid_blockwise f.laid)
  receiver_in = subst (λ (s : OverSite R g). OverStands beside n s) is stands.1

  pub over_shown : (volume start count : ℕ) (bytes : List ℕ) (r : Result (Unit {0}) No) → ShownAs beside n volume start count bytes f'.core f'.waiting (laid_blockwise f.laid) (laid_blockwise f'.laid) r
      → ShowedAt beside n volume start count bytes (Over old) (Over (record { site = ReceiverSite f'; cut = cut })) r
  over_shown volume start count bytes (Ok done) l = (l.0, (stands.0, l.1))
  over_shown volume start count bytes (Err (Device disk)) l =
      ((stands.0, l.0), subst (λ (s : OverSite R g). Rose ((site_disks (below_site s)).disk_faults disk) ((laid_disks f'.laid).disk_faults disk)) (sym is) l.1)
  over_shown volume start count bytes (Err other) l = l
