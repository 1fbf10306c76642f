-- The loop of `volumes_seen` over `entry`: what stays true.
use Rattle.std.proofs.Common.{◌≡◌, map, take}
use Rattle.vx_events.specs.GroupViews.{plain_fact}
use Rattle.vx_group_facts.proofs.seen.volumes_seen.Given as goal

abbrev pub invariant-loop-entry : goal.invariant-loop-entry
invariant-loop-entry l = l.room ≡ map plain_fact (take l.entry-index l.volumes)
