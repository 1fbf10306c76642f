-- The loop of `lowest_with` over `disk`: what stays true.
use Rattle.std.proofs.Common.{ℕ, ◌<◌, get_or}
use Rattle.vx_layout.proofs.rooms.lowest_with.Given as goal

abbrev pub invariant-loop-disk : goal.invariant-loop-disk
invariant-loop-disk l = (e : ℕ) → e < l.disk → get_or l.rooms e 0 < l.wanted
