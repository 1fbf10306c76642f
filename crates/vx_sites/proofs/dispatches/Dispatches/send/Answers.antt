-- `send`: its result; the invariant of what it hands on.
use Rattle.std.proofs.Common.{◌≡◌, ◌+◌, arith}
use Rattle.vx_history.specs.Sends.{parts_of as parts}
use Rattle.vx_sites.specs.Messages.{message_of}
use Rattle.vx_sites.proofs.Dispatching.{sent_more, count_more}
use Rattle.vx_sites.proofs.dispatches.Dispatches.send.Goals as goal

pub invariant_of-self-2 : goal.invariant_of-self-2
invariant_of-self-2 c =
    let more : c.in-Some.count ≡ c.self.inside.count + parts (message_of c.args.dispatch.message) = omega (arith, c.in-Some.ensures, c.from.ensures, c.parts_of.ensures) in
    count_more c.self.inside.sent.items c.args.dispatch c.push.new.self.items c.self.inside.count c.in-Some.count c.in_ok-push.ensures.items c.self.invariant more

pub returns : goal.returns
returns c = sent_more c.self.inside.sent.items c.args.dispatch c.push.new.self.items c.args.self.now c.self.view_is c.in_ok-push.ensures.items
