-- The loop of `promise_below` over `back`: what stays true.
use Rattle.std.proofs.Common.{◌≡◌, ◌-◌, ◌++◌, map}
use Rattle.vx_history.specs.Events.{promises_of}
use Rattle.vx_sites.specs.Shapes.{plain_promise, node_of, row_of}
use Rattle.vx_sites.proofs.confirming.promise_below.Given as goal

abbrev pub invariant-loop-back : goal.invariant-loop-back
invariant-loop-back l =
    map plain_promise l.promised.items ++ promises_of (node_of l.node) l.number (row_of l.links) (l.sites - l.back)
    ≡ map plain_promise l.fn.promised.items ++ promises_of (node_of l.node) l.number (row_of l.links) l.sites
