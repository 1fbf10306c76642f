-- The loop of `names_of` over `volume`: what stays true.
use Rattle.std.proofs.Common.{◌≡◌, map, take}
use Rattle.vx_sites.proofs.groups.names_of.Given as goal

abbrev pub invariant-loop-volume : goal.invariant-loop-volume
invariant-loop-volume l = l.names.items ≡ map (λ x. x.name) (take l.volume-index l.volumes)
