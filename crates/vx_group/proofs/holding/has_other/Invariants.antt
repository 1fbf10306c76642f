-- The loop of `has_other` over `other`: what stays true.
use Rattle.std.proofs.Common.{◌≡◌}
use Rattle.vx_group.specs.Dets.{any_below, is_other}
use Rattle.vx_group.proofs.holding.has_other.Given as goal

abbrev pub invariant-loop-other : goal.invariant-loop-other
invariant-loop-other l = l.any ≡ any_below (is_other l.config l.vol l.plex) l.other
