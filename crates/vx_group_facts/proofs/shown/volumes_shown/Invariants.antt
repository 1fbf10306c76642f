-- The loop of `volumes_shown` over `entry`: what stays true.
use Rattle.std.proofs.Common.{◌≡◌, map, take}
use Rattle.vx_events.specs.GroupViews.{volume_view}
use Rattle.vx_group_facts.proofs.shown.volumes_shown.Given as goal

abbrev pub invariant-loop-entry : goal.invariant-loop-entry
invariant-loop-entry l = l.room ≡ map volume_view (take l.entry-index l.volumes)
