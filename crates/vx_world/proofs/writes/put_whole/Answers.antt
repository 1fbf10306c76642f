-- `put_whole`: what `log_write` asks, and its result.
use Rattle.std.proofs.Common.{ℕ, Bool, true, false, ap, arith}
use Rattle.vx_history.specs.World.{Node, World}
use Rattle.vx_sites.specs.Shapes.{world_of}
use Rattle.vx_world.proofs.Putting.{put_says}
use Rattle.vx_world.proofs.writes.put_whole.Goals as goal

pub log_write-requires-clause-room : goal.log_write-requires-clause-room
log_write-requires-clause-room c =
    let same = ap (λ (w : World). (w.nodes c.args.site).safe) c.in_ok-mark_writes.ensures in
    omega (arith, same, c.requires.room)

pub returns-then-is_waited : goal.returns-then-is_waited
returns-then-is_waited c = put_says (world_of c.args.world.now) (world_of c.mark_writes.new.self) (world_of c.log_write.new.self) c.args.site c.node.result.now.safe c.args.write true
    (ap (λ (n : Node). n.safe) c.node.ensures) c.if-is_waited.ensures c.in_ok-mark_writes.ensures c.in_ok-log_write.ensures

pub returns-else-is_waited : goal.returns-else-is_waited
returns-else-is_waited c = put_says (world_of c.args.world.now) (world_of c.mark_writes.new.self) (world_of c.log_write.new.self) c.args.site c.node.result.now.safe c.args.write false
    (ap (λ (n : Node). n.safe) c.node.ensures) c.if-is_waited.ensures c.in_ok-mark_writes.ensures c.in_ok-log_write.ensures
