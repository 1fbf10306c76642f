-- What a yard carries does not look at what a site notes of its group, nor at its fuse.
use Rattle.std.proofs.Common.{◌≡◌, ℕ, ap, sym, refl}
use Rattle.vx_disk.specs.declared.shelf.Shelf.{Ghosts}
use Rattle.vx_history.proofs.Updates.{at_place}
use Rattle.vx_history.specs.Doubts.{Doubted}
use Rattle.vx_history.specs.Groups.{GroupNode}
use Rattle.vx_history.specs.World.{Fuse, Node}
use Rattle.vx_above.proofs.OverSeen.{noted_node}
use Rattle.vx_yard.proofs.Carrying.{carries_node}
use Rattle.vx_yard.proofs.NoteSite.{changes_one, with_one}
use Rattle.vx_yard.specs.Carries.{Carries}
use Rattle.vx_yard.specs.declared.yard.Yard.{Yard}

pub carries_over : {R : Type 0} {g : Ghosts R} (e : Doubted) (s : ℕ) (m : Node) (next : GroupNode) (fuse : Fuse) (y : Yard R g) → e.world.nodes s ≡ m → Carries e y → Carries (with_one e s (noted_node m next fuse)) y
carries_over e s m next fuse y here =
    carries_node s e (with_one e s (noted_node m next fuse)) (noted_node m next fuse) y y (record { flight = refl; assemblies = refl; feeders = refl }) (changes_one e s (noted_node m next fuse)) refl refl
    (at_place e.world.nodes s (noted_node m next fuse)) (sym (ap (λ (x : Node). x.state) here)) (sym (ap (λ (x : Node). x.role) here)) (sym (ap (λ (x : Node). x.fed_by) here)) (λ told. told)
