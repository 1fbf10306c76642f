-- The fuse of disks that are up, behind calls of which each passed.
use Rattle.std.proofs.Common.{◌≡◌, ◌∙◌, ℕ, true, false, ap, sym, subst, arith, refl}
use Rattle.std.specs.Prelude.{Option, Some, None}
use Rattle.vx_disk.specs.Disks.{Disks}
use Rattle.vx_disk.specs.declared.shelf.Shelf.{Ghosts}
use Rattle.vx_history.specs.Steps.{burned}
use Rattle.vx_history.specs.World.{Fuse as FuseOf, Node, NoFuse, FuseSet, FuseLit}
use Rattle.vx_watched.specs.Since.{FuseGoes, is_rack}
use Rattle.vx_diskset.specs.Asked.{FusedAs, disks_told}
use Rattle.vx_diskset.specs.Fuses.{HasLeft, LeftAs}
use Rattle.vx_diskset.specs.declared.disk_set.DiskSet.{DiskSet}

goes_left : (most : ℕ) (x y : Option (ℕ × ℕ)) → FuseGoes x y → HasLeft most x → HasLeft most y
goes_left most None y goes h = absurd h
goes_left most (Some f) None goes h = absurd (let e : false ≡ true = goes.set in cc)
goes_left most (Some f) (Some k) goes h = omega (arith, goes.left, h)

pub left_goes : (f : FuseOf) (x y : Option (ℕ × ℕ)) → FuseGoes x y → LeftAs f x → LeftAs (burned f) y
left_goes NoFuse x y goes h = tt
left_goes (FuseSet calls) x y goes h = goes_left calls x y goes h
left_goes (FuseLit most) x y goes h = goes_left most x y goes h

pub some_disks : (o : Option Disks) → is_rack o ≡ true → (d : Disks) × (o ≡ Some d)
some_disks None is = absurd (cc)
some_disks (Some d) is = (d, refl)

module _ {R : Type 0} {g : Ghosts R} where
  pub fused_goes : (n m : Node) (a b : DiskSet R g) → m.fuse ≡ burned n.fuse → is_rack (disks_told b) ≡ is_rack (disks_told a)
      → ((o x : Disks) → disks_told a ≡ Some o → disks_told b ≡ Some x → FuseGoes o.fuse x.fuse) → FusedAs n a → FusedAs m b
  fused_goes n m a b is rack goes h = record {
    told = λ x at.
        let first = some_disks (disks_told a) (sym rack ∙ ap (λ (o : Option Disks). is_rack o) at) in
        subst (λ (f : FuseOf). LeftAs f x.fuse) (sym is) (left_goes n.fuse first.0.fuse x.fuse (goes first.0 x first.1 at) (h.told first.0 first.1));
  }
