-- Calls on the group below a replicated volume group.
use Rattle.std.proofs.Common.{◌≡◌, refl, subst, sym}
use Rattle.std.specs.Prelude.{Err, Ok, OnOk, Result}
use Rattle.vx_disk.specs.declared.shelf.Shelf.{Ghosts}
use Rattle.vx_grouped.specs.declared.group_site.GroupSite.{GroupSite}
use Rattle.vx_diskset.specs.OverPlains.{OnOver}
use Rattle.vx_diskset.specs.declared.disk_set.DiskSet.{DiskSet}
use Rattle.vx_diskset.specs.declared.disk_set.DiskSet.TheVariants.{Bare, Spoiled, Up, Receives, Down, OfGroup, Over, Gone}
use Rattle.vx_diskset.specs.declared.over_set.OverSet.{OverSet}

-- where it is done
pub ok_carried : {T E : Type 0} {P Q : Type 0} (r : Result T E) → (P → Q) → OnOk r P → OnOk r Q
ok_carried (Ok x) f p = f p
ok_carried (Err e) f p = p

module _ {R : Type 0} {g : Ghosts R} where
  -- between the groups below two sites
  pub carried_site : (P : GroupSite R g → GroupSite R g → Type 0) (a b c d : GroupSite R g) → b ≡ a → c ≡ d → P b d → P a c
  carried_site P a b c d first last it = subst (λ x. P x c) first (subst (λ y. P b y) (sym last) it)

  -- of disks that have none nothing is said
  pub over_rest : (P : OverSet R g → OverSet R g → Type 0) (e : DiskSet R g) → ((s : OverSet R g) → e ≡ Over s → ⊥) → OnOver P e e
  over_rest P (Bare rack) never = tt
  over_rest P (Spoiled rack) never = tt
  over_rest P (Up rvg) never = tt
  over_rest P (Receives s) never = tt
  over_rest P (Down rack) never = tt
  over_rest P (OfGroup s) never = tt
  over_rest P (Over s) never = absurd (never s refl)
  over_rest P Gone never = tt
