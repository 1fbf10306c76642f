-- `part_at`: its result.
use Rattle.vx_courier.proofs.Flying.{read_none, read_some}
use Rattle.vx_courier.proofs.finding.part_at.Goals as goal

pub returns-in-Some : goal.returns-in-Some
returns-in-Some g c = λ ps stands. read_some ps (g.N.Net.flying c.args.flight.now) c.args.number c.in-Some.bytes.now c.decode.result stands c.in-Some.ensures.packet c.decode.ensures.only

pub returns-in-None : goal.returns-in-None
returns-in-None g c = λ ps stands. read_none ps (g.N.Net.flying c.args.flight.now) c.args.number stands c.in-None.ensures.packet
