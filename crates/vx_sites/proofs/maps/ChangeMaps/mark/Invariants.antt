-- The loop of `mark` over `write`: what stays true.
use Rattle.std.proofs.Common.{◌≡◌, take}
use Rattle.vx_history.specs.Regions.{joined_maps, marks_of_all}
use Rattle.vx_sites.specs.Shapes.{link_maps, with_link_map}
use Rattle.vx_sites.proofs.maps.ChangeMaps.mark.Given as goal

abbrev pub invariant-loop-write : goal.invariant-loop-write
invariant-loop-write l =
    let maps = link_maps l.fn.self.entries.items in
    link_maps l.self.entries.items ≡ with_link_map maps l.from l.to (joined_maps (maps l.from l.to) (marks_of_all (take l.write-index l.writes)))
