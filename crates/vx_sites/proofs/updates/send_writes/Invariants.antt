-- The loop of `send_writes` over `past`: what stays true.
use Rattle.std.proofs.Common.{◌≡◌, ◌+◌, ◌++◌, drop}
use Rattle.vx_history.specs.Sends.{updates}
use Rattle.vx_sites.proofs.updates.send_writes.Given as goal

abbrev pub invariant-loop-past : goal.invariant-loop-past
invariant-loop-past l =
    l.packets ++ updates l.route.source l.route.target l.route.line (l.number + l.past) (drop l.past l.writes)
    ≡ l.fn.packets ++ updates l.route.source l.route.target l.route.line l.number l.writes
