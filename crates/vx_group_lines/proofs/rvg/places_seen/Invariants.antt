-- The loop of `places_seen` over `name`: what stays true.
use Rattle.std.proofs.Common.{◌≡◌, map, take}
use Rattle.vx_group_lines.specs.Making.{seen_number}
use Rattle.vx_group_lines.proofs.rvg.places_seen.Given as goal

abbrev pub invariant-loop-name : goal.invariant-loop-name
invariant-loop-name l = l.units ≡ map (seen_number l.facts.volumes) (take l.name-index l.names)
