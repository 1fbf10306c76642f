-- `packet`: its result.
use Rattle.vx_sites.specs.Messages.{message_of}
use Rattle.vx_sites.proofs.Dispatching.{picked}
use Rattle.vx_sites.proofs.dispatches.Dispatches.packet.Goals as goal

pub returns : goal.returns
returns c =
    picked c.self.inside.sent.items c.deref.result.now c.args.self.now c.args.number c.seek-place.result.0 c.seek-place.result.1 c.index-dispatch.result.now
    (message_of c.in_ok-copy.field-0) c.self.view_is c.deref.ensures.value c.seek-place.ensures.place c.index-dispatch.ensures c.seek-place.ensures.part
    c.seek-place.ensures.is c.in_ok-copy.ensures
