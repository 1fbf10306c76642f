-- The loop of `disks_shown` over `disk`: what stays true.
use Rattle.std.proofs.Common.{◌≡◌, map, take}
use Rattle.vx_events.specs.GroupViews.{is_ok}
use Rattle.vx_group_facts.proofs.shown.disks_shown.Given as goal

abbrev pub invariant-loop-disk : goal.invariant-loop-disk
invariant-loop-disk l = l.room ≡ map is_ok (take l.disk-index l.disks)
