-- What calls on a replicated volume group over a group answer of its site.
use Rattle.std.proofs.Common.{◌≡◌, ◌≤◌, ℕ, length, subst, sym, List, ap, refl}
use Rattle.std.specs.Prelude.{Option, Result, Ok, Err, None}
use Rattle.vx_disk.specs.Counts.{Rose}
use Rattle.vx_disk.specs.declared.shelf.Shelf.{Ghosts}
use Rattle.vx_history.specs.World.{Node}
use Rattle.vx_model.specs.Content.{Write, Content, fold_writes}
use Rattle.vx_model.specs.declared.no.No.{No}
use Rattle.vx_model.specs.declared.no.No.TheVariants.{Device, Limit, Down as IsDown}
use Rattle.vx_diskset.specs.LaidBlocks.{laid_blockwise}
use Rattle.vx_grouped.specs.GroupSites.{laid_disks, site_disks}
use Rattle.vx_diskset.specs.Aboves.{below_site}
use Rattle.vx_history.specs.Steps.{half_begun, logged, worked}
use Rattle.vx_diskset.specs.DiskSets.{AppliedUp, LoggedUp, ReadAt, halted_at, halted_with, with_first}
use Rattle.vx_diskset.specs.Holds.{KeptBeside}
use Rattle.vx_diskset.specs.Rooms.{AppliedAs}
use Rattle.vx_diskset.specs.Shelves.{LoggedAs, ReadAs}
use Rattle.vx_diskset.specs.Stands.{IsUpAt, OverStands, SiteStands, IsOverSite}
use Rattle.vx_diskset.specs.declared.founded.Founded.{Founded}
use Rattle.vx_diskset.specs.declared.group_set.CutWrite.{CutWrite}
use Rattle.vx_diskset.specs.declared.disk_set.DiskSet.TheVariants.{Over}
use Rattle.vx_diskset.specs.declared.over_set.OverSet.{OverSet}
use Rattle.vx_diskset.specs.declared.over_set.OverSite.{OverSite}
use Rattle.vx_diskset.specs.declared.over_set.OverSite.TheVariants.{Origin as OriginSite}
use Rattle.vx_diskset.proofs.RawSets.{over_on}
use Rattle.vx_diskset.proofs.StaysUp.{whole_held}
use Rattle.std.proofs.lemmas.List.{drop_all}
use Rattle.vx_rvg.specs.Contents.{ShowsContent}
use Rattle.vx_diskset.specs.Received.{ShowedAt}

module _ {R : Type 0} {g : Ghosts R} (beside : KeptBeside) (n : Node) (old : OverSet R g) (f f' : Founded R g) (cut : Option CutWrite) (is : old.site ≡ OriginSite f) where
  abbrev new : OverSet R g
  new = record { site = OriginSite f'; cut = cut }

  -- the group of it stands
  pub over_up : SiteStands beside n (Over old) → IsUpAt beside n f.core (laid_blockwise f.laid)
  over_up stands = subst (λ (s : OverSite R g). OverStands beside n s) is stands.1

  rose_over : (disk : ℕ) → Rose ((laid_disks f.laid).disk_faults disk) ((laid_disks f'.laid).disk_faults disk) → Rose ((site_disks (below_site old.site)).disk_faults disk) ((laid_disks f'.laid).disk_faults disk)
  rose_over disk rose = subst (λ (s : OverSite R g). Rose ((site_disks (below_site s)).disk_faults disk) ((laid_disks f'.laid).disk_faults disk)) (sym is) rose

  module _ (over : IsOverSite beside n) where
    pub over_logged : (x : Write) (r : Result ℕ No) → LoggedAs beside n x (laid_blockwise f.laid) f'.core (laid_blockwise f'.laid) r → LoggedUp beside n x (Over old) (Over new) r
    over_logged x (Ok number) l = (l.0, l.1, (over_on beside n (logged n x) refl refl refl refl over, l.2), λ origin calls told exact. absurd (over.0 exact.raw))
    over_logged x (Err (Device disk)) l = ((over_on beside n (halted_with n x disk) refl refl refl refl over, l.0), rose_over disk l.1, l.2)
    over_logged x (Err (Limit what most)) l = (l.0, l.1, (over_on beside n (worked n) refl refl refl refl over, l.2))
    over_logged x (Err IsDown) l = (l.0, (over_on beside n (half_begun n x) refl refl refl refl over, l.1), (λ origin calls told exact. absurd (over.0 exact.raw)), l.3)
    over_logged x (Err other) l = l

    pub over_applied : length n.log ≤ n.safe → (to : ℕ) (r : Result ℕ No) → AppliedAs beside n to f'.core (laid_blockwise f.laid) (laid_blockwise f'.laid) r → AppliedUp beside n to (Over old) (Over new) r
    over_applied whole to (Ok number) l = (l.0, l.1, (over_on beside n (worked n) refl refl refl refl over, l.2))
    over_applied whole to (Err (Device disk)) l = ((over_on beside n (halted_at n disk) refl refl refl refl over, l.0), rose_over disk l.1)
    over_applied whole to (Err IsDown) l = (l.0, (over_on beside n (with_first n n.safe) refl refl refl refl over, whole_held n (laid_blockwise f'.laid) whole l.1))
    over_applied whole to (Err other) l = l

    pub over_read : (volume start count : ℕ) (bytes : List ℕ) (r : Result (Unit {0}) No) → ReadAs beside n volume start count bytes f'.core (laid_blockwise f.laid) (laid_blockwise f'.laid) r → ReadAt beside n volume start count bytes (Over old) (Over new) r
    over_read volume start count bytes (Ok done) l = (l.0, (over, l.1))
    over_read volume start count bytes (Err (Device disk)) l = ((over, l.0), rose_over disk l.1)
    over_read volume start count bytes (Err other) l = l

    -- of a site that does not receive the content is what it shows
    pub over_showed : n.halted ≡ None → IsUpAt beside n f.core (laid_blockwise f.laid) → (volume start count : ℕ) (bytes : List ℕ) (r : Result (Unit {0}) No) → ReadAs beside n volume start count bytes f'.core (laid_blockwise f.laid) (laid_blockwise f'.laid) r
        → ShowedAt beside n volume start count bytes (Over old) (Over new) r
    over_showed running up volume start count bytes (Ok done) l =
        ((λ told. subst (λ (c : Content). ShowsContent c volume start count bytes) (ap (λ (xs : List Write). fold_writes n.base xs) (sym (drop_all n.safe n.log (up.durable running)))) (l.0 told)), (over, l.1))
    over_showed running up volume start count bytes (Err (Device disk)) l = ((over, l.0), rose_over disk l.1)
    over_showed running up volume start count bytes (Err other) l = l
