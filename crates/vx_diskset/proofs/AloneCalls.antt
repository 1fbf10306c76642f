-- Disks that are left alone, as a line whose calls passed leaves them.
use Rattle.std.proofs.Common.{◌≡◌, ℕ, sym, subst, refl, true, false}
use Rattle.std.specs.Prelude.{Option, Some, None}
use Rattle.vx_model.specs.declared.no.No.{No}
use Rattle.vx_model.specs.declared.no.No.TheVariants.{Down as IsDown}
use Rattle.vx_disk.specs.Causes.{OnDisks}
use Rattle.vx_disk.specs.Disks.{Disks, Untouched}
use Rattle.vx_disk.specs.declared.shelf.Shelf.{Ghosts}
use Rattle.vx_grouped.specs.SiteEnds.{is_off}
use Rattle.vx_disk.proofs.Spending.{loses_none}
use Rattle.vx_disk.specs.Spends.{Loses, Passed}
use Rattle.vx_events.specs.declared.said.Said.{Said}
use Rattle.vx_events.specs.declared.said.Said.TheVariants.{DoneAt, Logged, Refused}
use Rattle.vx_diskset.specs.Asked.{LeavesAlone, LeavesFuse, disks_told, size_in}
use Rattle.vx_diskset.specs.Burning.{Burnt, NoMore}
use Rattle.vx_diskset.specs.declared.disk_set.DiskSet.{DiskSet}

passed_alone : (x y : Disks) → Untouched x y → Passed x y
passed_alone x y same = record { fuse = subst (λ (f : Option (ℕ × ℕ)). Loses 0 x.fuse f) (sym same.fuse) (loses_none x.fuse); still = λ f first last. same.blocks }

passed_on : (P Q : Disks → Disks → Type 0) → ((x y : Disks) → P x y → Q x y) → (o n : Option Disks) → OnDisks o n P → OnDisks o n Q
passed_on P Q lift None None on = tt
passed_on P Q lift None (Some n) on = absurd on
passed_on P Q lift (Some o) None on = absurd on
passed_on P Q lift (Some o) (Some n) on = (lift o n on.0, on.1)

by_why : (why : No) → is_off why ≡ false → (size : ℕ → ℕ) (o n : Option Disks) → OnDisks o n Untouched → OnDisks o n (Burnt NoMore (Refused why) size)
by_why IsDown on size o n alone = absurd (let e : true ≡ false = on in cc)
by_why other on size o n alone = passed_on Untouched Passed passed_alone o n alone

by_said : (said : Said) → ((why : No) → said ≡ Refused why → ⊥) → (size : ℕ → ℕ) (o n : Option Disks) → OnDisks o n Untouched → OnDisks o n (Burnt NoMore said size)
by_said (DoneAt number) not size o n alone = passed_on Untouched (Burnt NoMore (DoneAt number) size) (λ x y same. (passed_alone x y same, tt)) o n alone
by_said (Logged number) not size o n alone = passed_on Untouched (Burnt NoMore (Logged number) size) (λ x y same. (passed_alone x y same, tt)) o n alone
by_said (Refused why) not size o n alone = absurd (not why refl)
by_said other not size o n alone = passed_on Untouched Passed passed_alone o n alone

module _ {R : Type 0} {g : Ghosts R} where
  -- by a line that was not refused
  pub alone_leaves : (said : Said) (a b : DiskSet R g) → ((why : No) → said ≡ Refused why → ⊥) → LeavesAlone a b → LeavesFuse NoMore said a b
  alone_leaves said a b not alone = record { told = by_said said not (size_in a) (disks_told a) (disks_told b) alone.told; sizes = alone.sizes }

  -- by one that was, and not by 6
  pub alone_refused : (why : No) (a b : DiskSet R g) → is_off why ≡ false → LeavesAlone a b → LeavesFuse NoMore (Refused why) a b
  alone_refused why a b on alone = record { told = by_why why on (size_in a) (disks_told a) (disks_told b) alone.told; sizes = alone.sizes }
