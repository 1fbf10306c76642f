-- The loop of `with_others` over `place`: what stays true.
use Rattle.std.proofs.Common.{◌≡◌, ◌++◌, take}
use Rattle.vx_events.specs.RvgViews.{others_from}
use Rattle.vx_group_facts.proofs.seen.with_others.Given as goal

abbrev pub invariant-loop-place : goal.invariant-loop-place
invariant-loop-place l = l.room ≡ l.fn.start ++ others_from l.units 0 (take l.place l.volumes)
