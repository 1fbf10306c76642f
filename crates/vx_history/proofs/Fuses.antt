-- Fuses behind calls that may have burned them.
use Rattle.std.proofs.Common.{◌≡◌, ap, refl}
use Rattle.vx_history.specs.Steps.{burned, worked}
use Rattle.vx_history.specs.Stops.{IsFused}
use Rattle.vx_history.specs.World.{Fuse, FuseLit, FuseSet, NoFuse, Node}

-- a fuse that may have let calls pass stays so
pub burned_twice : (f : Fuse) → burned (burned f) ≡ burned f
burned_twice NoFuse = refl
burned_twice (FuseSet calls) = refl
burned_twice (FuseLit most) = refl

pub worked_twice : (n : Node) → worked (worked n) ≡ worked n
worked_twice n = ap (λ (f : Fuse). let m : Node = record n { fuse = f } in m) (burned_twice n.fuse)

pub fused_before : (f : Fuse) → IsFused (burned f) → IsFused f
fused_before NoFuse is = is
fused_before (FuseSet calls) is = tt
fused_before (FuseLit most) is = tt
