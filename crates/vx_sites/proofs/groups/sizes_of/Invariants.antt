-- The loop of `sizes_of` over `volume`: what stays true.
use Rattle.std.proofs.Common.{◌≡◌, map, take}
use Rattle.vx_sites.proofs.groups.sizes_of.Given as goal

abbrev pub invariant-loop-volume : goal.invariant-loop-volume
invariant-loop-volume l = l.sizes.items ≡ map (λ x. x.blocks) (take l.volume-index l.volumes)
