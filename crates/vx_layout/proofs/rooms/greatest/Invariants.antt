-- The loop of `greatest` over `disk`: what stays true.
use Rattle.std.proofs.Common.{◌≡◌, ℕ, ◌<◌, ◌≤◌, get_or}
use Rattle.vx_layout.proofs.rooms.greatest.Given as goal

abbrev pub invariant-loop-disk : goal.invariant-loop-disk
invariant-loop-disk l = ((e : ℕ) → e < l.disk → get_or l.rooms e 0 ≤ l.most) × ((e : ℕ) × (e < 8) × (get_or l.rooms e 0 ≡ l.most))
