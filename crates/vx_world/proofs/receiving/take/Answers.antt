-- `take`: its result.
use Rattle.std.proofs.Common.{◌≡◌, ◌∙◌, true, sym}
use Rattle.vx_history.specs.Gatherings.{completes}
use Rattle.vx_sites.specs.Shapes.{world_of, packet_of}
use Rattle.vx_world.proofs.Exchanges.{taken_and_told}
use Rattle.vx_world.proofs.receiving.take.Goals as goal

pub returns : goal.returns
returns c =
    let w = world_of c.args.world.now in
    let p = packet_of c.args.packet.now in
    let whole : completes (w.gathering p.target) p ≡ true = sym c.in_ok-completes.ensures ∙ c.if-not-branch.false in
    taken_and_told w (world_of c.receive.new.self) (world_of c.acknowledge.new.world) p c.args.write.now
    (completes (w.gathering p.target) p) c.args.ack whole c.in_ok-receive.ensures c.in_ok-acknowledge.ensures
