-- The loop of `map_places` over `back`: what stays true.
use Rattle.std.proofs.Common.{◌≡◌, ◌-◌, ◌<◌, ◌^◌, drop}
use Rattle.vx_linked.specs.Converting.{places_with_maps}
use Rattle.vx_linked.proofs.converting.map_places.Given as goal

-- the places of the last links
abbrev pub invariant-loop-back : goal.invariant-loop-back
invariant-loop-back l = (l.places ≡ places_with_maps (drop (l.count - l.back) l.links)) × (l.places < 2 ^ l.back)
