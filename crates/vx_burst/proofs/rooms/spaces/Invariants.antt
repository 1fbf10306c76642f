-- The loop of `spaces` over `thread`: what stays true, and what falls.
use Rattle.std.proofs.Common.{◌≡◌, ◌+◌, length}
use Rattle.vx_burst.specs.Setting.{AreThreadRooms}
use Rattle.vx_burst.proofs.rooms.spaces.Given as goal

abbrev pub invariant-loop-thread : goal.invariant-loop-thread
invariant-loop-thread l = AreThreadRooms l.plan l.fn.threads l.all.items × (length l.all.items + l.thread ≡ l.fn.threads)

abbrev pub decreases-loop-thread : goal.decreases-loop-thread
decreases-loop-thread l = l.thread
