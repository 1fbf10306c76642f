-- The loop of `plex_of` over `run`: what stays true.
use Rattle.std.proofs.Common.{◌≡◌, take}
use Rattle.vx_group.proofs.shaping.plex_of.Given as goal

abbrev pub invariant-loop-run : goal.invariant-loop-run
invariant-loop-run l = l.subdisks ≡ take l.run-index l.runs
