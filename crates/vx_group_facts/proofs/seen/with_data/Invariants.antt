-- The loop of `with_data` over `place`: what stays true.
use Rattle.std.proofs.Common.{◌≡◌, map, take}
use Rattle.vx_events.specs.RvgViews.{data_seen}
use Rattle.vx_group_facts.proofs.seen.with_data.Given as goal

abbrev pub invariant-loop-place : goal.invariant-loop-place
invariant-loop-place l = l.room ≡ map (data_seen l.volumes) (take l.place-index l.places)
