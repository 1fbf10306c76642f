-- How many calls the fuses of racks have left at most, as the world knows of it behind each line.
use Rattle.std.proofs.Common.{◌≡◌, ◌-◌, ◌≤◌, ℕ, Bool, sym, subst, refl, arith}
use Rattle.std.specs.Prelude.{Option, Some, None}
use Rattle.vx_history.specs.World.{Fuse as FuseOf, Node, NoFuse, FuseSet, FuseLit}
use Rattle.vx_history.specs.Steps.{burned, spent}
use Rattle.vx_model.specs.declared.no.No.TheVariants.{Device}
use Rattle.vx_disk.specs.Causes.{OnDisks, WithDisks}
use Rattle.vx_disk.specs.Disks.{Disks, Untouched}
use Rattle.vx_disk.specs.declared.shelf.Shelf.{Ghosts}
use Rattle.vx_disk.specs.Spends.{Loses, Passed}
use Rattle.vx_events.specs.Fuses.{MayPass}
use Rattle.vx_events.specs.declared.said.Said.{Said}
use Rattle.vx_events.specs.declared.said.Said.TheVariants.{DoneAt, Refused}
use Rattle.vx_events.proofs.Places.{some_same}
use Rattle.vx_diskset.specs.Asked.{FusedAs, SetsDisk, disks_told}
use Rattle.vx_diskset.specs.Burning.{Burnt}
use Rattle.vx_diskset.specs.Fuses.{HasLeft, LeftAs}
use Rattle.vx_diskset.specs.declared.disk_set.DiskSet.{DiskSet}

fewer_left : (k most : ℕ) (x y : Option (ℕ × ℕ)) → Loses k x y → HasLeft most x → HasLeft (most - k) y
fewer_left k most None y loses h = absurd h
fewer_left k most (Some f) y loses h = subst (λ (z : Option (ℕ × ℕ)). HasLeft (most - k) z) (sym loses.2) (omega (arith, loses.1, h))

pub left_spent : (k : ℕ) (f : FuseOf) (x y : Option (ℕ × ℕ)) → Loses k x y → LeftAs f x → LeftAs (spent k f) y
left_spent k NoFuse x y loses h = tt
left_spent k (FuseSet calls) x y loses h = fewer_left k calls x y loses h
left_spent k (FuseLit most) x y loses h = fewer_left k most x y loses h

no_more_left : (most : ℕ) (x y : Option (ℕ × ℕ)) → Loses 0 x y → HasLeft most x → HasLeft most y
no_more_left most None y loses h = absurd h
no_more_left most (Some f) y loses h = subst (λ (z : Option (ℕ × ℕ)). HasLeft most z) (sym loses.2) (omega (arith, loses.1, h))

pub left_passed : (f : FuseOf) (x y : Option (ℕ × ℕ)) → Loses 0 x y → LeftAs f x → LeftAs (burned f) y
left_passed NoFuse x y loses h = tt
left_passed (FuseSet calls) x y loses h = no_more_left calls x y loses h
left_passed (FuseLit most) x y loses h = no_more_left most x y loses h

many_left : (k most : ℕ) (x y : Option (ℕ × ℕ)) → Loses k x y → HasLeft most x → k ≤ most
many_left k most None y loses h = absurd h
many_left k most (Some f) y loses h = omega (arith, loses.1, h)

-- calls that passed may pass
may_pass : (k : ℕ) (f : FuseOf) (x y : Option (ℕ × ℕ)) → Loses k x y → LeftAs f x → MayPass k f
may_pass k NoFuse x y loses h = tt
may_pass k (FuseSet calls) x y loses h = many_left k calls x y loses h
may_pass k (FuseLit most) x y loses h = many_left k most x y loses h

left_on : (P : Disks → Disks → Type 0) (o n : Option Disks) (f g : FuseOf) → ((x y : Disks) → P x y → LeftAs f x.fuse → LeftAs g y.fuse) → OnDisks o n P → ((d : Disks) → o ≡ Some d → LeftAs f d.fuse)
    → (d : Disks) → n ≡ Some d → LeftAs g d.fuse
left_on P None None f g step on was d at = absurd (cc)
left_on P None (Some n) f g step on was d at = absurd on
left_on P (Some o) None f g step on was d at = absurd on
left_on P (Some o) (Some n) f g step on was d at = subst (λ (x : Disks). LeftAs g x.fuse) (some_same at) (step o n on.0 (was o refl))

pub may_on : (P : Disks → Disks → Type 0) (k : ℕ) (o n : Option Disks) (f : FuseOf) (d : Disks) → o ≡ Some d → ((x y : Disks) → P x y → Loses k x.fuse y.fuse) → OnDisks o n P → LeftAs f d.fuse → MayPass k f
may_on P k None n f d at step on left = absurd (cc)
may_on P k (Some o) None f d at step on left = absurd on
may_on P k (Some o) (Some n) f d at step on left = may_pass k f o.fuse n.fuse (step o n on.0) (subst (λ (x : Disks). LeftAs f x.fuse) (sym (some_same at)) left)

-- a disk that was made to fail, or no longer, leaves the fuse
set_left : (disk : ℕ) (on : Bool) (o n : Option Disks) (f : FuseOf) → WithDisks o n (λ x y. Untouched x y × (y.failing disk ≡ on) × ((u : ℕ) → (u ≡ disk → ⊥) → y.failing u ≡ x.failing u)) → ((d : Disks) → o ≡ Some d → LeftAs f d.fuse)
    → (d : Disks) → n ≡ Some d → LeftAs f d.fuse
set_left disk on None None f sets was d at = absurd (cc)
set_left disk on None (Some n) f sets was d at = absurd sets
set_left disk on (Some o) None f sets was d at = absurd sets
set_left disk on (Some o) (Some n) f sets was d at =
    subst (λ (x : Disks). LeftAs f x.fuse) (some_same at) (subst (λ (z : Option (ℕ × ℕ)). LeftAs f z) (sym sets.0.fuse) (was o refl))

-- ---- what calls leave of the fuse of their site

-- a line that a failing disk ended, or want of a number, and one that is done
pub device_by : (P : Disks → Disks → Type 0) (size : ℕ → ℕ) (said : Said) (disk : ℕ) (o n : Disks) → said ≡ Refused (Device disk) → Burnt P said size o n → Passed o n
device_by P size said disk o n is burnt = subst (λ (t : Said). Burnt P t size o n) is burnt

pub done_by : (P : Disks → Disks → Type 0) (size : ℕ → ℕ) (said : Said) (number : ℕ) (o n : Disks) → said ≡ DoneAt number → Burnt P said size o n → Passed o n × P o n
done_by P size said number o n is burnt = subst (λ (t : Said). Burnt P t size o n) is burnt

module _ {R : Type 0} {g : Ghosts R} where
  pub fused_none : (n : Node) (e : DiskSet R g) → n.fuse ≡ NoFuse → FusedAs n e
  fused_none n e none = record { told = λ d at. subst (λ (f : FuseOf). LeftAs f d.fuse) (sym none) tt }

  pub fused_set : (n m : Node) (a b : DiskSet R g) (disk : ℕ) (on : Bool) → m.fuse ≡ n.fuse → SetsDisk disk on a b → FusedAs n a → FusedAs m b
  fused_set n m a b disk on is did h = record {
    told = λ d at. subst (λ (f : FuseOf). LeftAs f d.fuse) (sym is) (set_left disk on (disks_told a) (disks_told b) n.fuse did h.told d at);
  }

  pub fused_on : (P : Disks → Disks → Type 0) (n m : Node) (f : FuseOf) (a b : DiskSet R g) → m.fuse ≡ f → ((x y : Disks) → P x y → LeftAs n.fuse x.fuse → LeftAs f y.fuse) → OnDisks (disks_told a) (disks_told b) P → FusedAs n a → FusedAs m b
  fused_on P n m f a b is step on h = record {
    told = λ d at. subst (λ (k : FuseOf). LeftAs k d.fuse) (sym is) (left_on P (disks_told a) (disks_told b) n.fuse f step on h.told d at);
  }
