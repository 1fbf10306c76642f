-- `drain`: its result; what `go_on` asks; what stays true in its loop.
use Rattle.std.proofs.Common.{◌∙◌, sym, refl}
use Rattle.vx_settle.proofs.Bringings.{goes-none}
use Rattle.vx_burst_threads.specs.declared.drainer.Next.TheVariants as next
use Rattle.vx_burst_threads.proofs.Draining.{drained-then, drained-peer}
use Rattle.vx_burst_threads.proofs.Making.{keeps-self}
use Rattle.vx_burst_threads.proofs.Spending.{spent-later, leads-as, leads-from}
use Rattle.vx_burst_threads.proofs.drainer.Drainer.drain.Goals as goal

pub loop-init : goal.loop-init
loop-init g c = (
  drained-peer c.args.self.now.pass (g.P.Peer.stand c.args.self.now.peer) (g.P.Peer.stand c.finish-net.new.self) c.finish-net.ensures.finishes.goes c.finish-net.ensures.finishes.received c.finish-net.ensures.finishes.handed,
  c.finish-net.ensures.root,
  c.finish-net.ensures.finishes.net,
)

pub loop-preserved-in-From : goal.loop-preserved-in-From
loop-preserved-in-From g c = let pd = g.P.Peer.stand in (
  drained-then c.args.self.now.pass c.loop.self.pass c.go_on.new.pass (pd c.args.self.now.peer) (pd c.loop.self.peer) (pd c.go_on.new.peer) c.loop.invariant.0 c.go_on.ensures.drained,
  c.go_on.ensures.root ∙ c.loop.invariant.1,
  leads-from c.go_on.result c.in-From.more c.go_on.new.pass (pd c.loop.self.peer) (pd c.go_on.new.peer) c.in-From.is c.go_on.ensures.leads,
)

pub go_on-requires-clause-net : goal.go_on-requires-clause-net
go_on-requires-clause-net g c κs within = c.loop.invariant.2

pub returns-then-last : goal.returns-then-last
returns-then-last g c = let pd = g.P.Peer.stand in (
  drained-then c.args.self.now.pass c.loop.self.pass c.go_on.new.pass (pd c.args.self.now.peer) (pd c.loop.self.peer) (pd c.go_on.new.peer) c.loop.invariant.0 c.go_on.ensures.drained,
  c.go_on.ensures.root ∙ c.loop.invariant.1,
  spent-later c.go_on.new.pass c.go_on.new.pass (pd c.args.self.now.peer) (pd c.loop.self.peer) (pd c.go_on.new.peer) (pd c.go_on.new.peer)
      (leads-as c.go_on.result next.Idle c.go_on.new.pass (pd c.loop.self.peer) (pd c.go_on.new.peer) c.in-Idle.is c.go_on.ensures.leads).0 c.loop.invariant.0.goes (goes-none (pd c.go_on.new.peer)) refl (keeps-self c.go_on.new.pass),
)

pub loop-preserved : goal.loop-preserved
loop-preserved g c = let pd = g.P.Peer.stand in (
  drained-then c.args.self.now.pass c.loop.self.pass c.go_on.new.pass (pd c.args.self.now.peer) (pd c.loop.self.peer) (pd c.go_on.new.peer) c.loop.invariant.0 c.go_on.ensures.drained,
  c.go_on.ensures.root ∙ c.loop.invariant.1,
  c.loop.invariant.2 ∙ sym (leads-as c.go_on.result next.Idle c.go_on.new.pass (pd c.loop.self.peer) (pd c.go_on.new.peer) c.in-Idle.is c.go_on.ensures.leads).1,
)

pub returns-in-End : goal.returns-in-End
returns-in-End g c = let pd = g.P.Peer.stand in (
  drained-then c.args.self.now.pass c.loop.self.pass c.go_on.new.pass (pd c.args.self.now.peer) (pd c.loop.self.peer) (pd c.go_on.new.peer) c.loop.invariant.0 c.go_on.ensures.drained,
  c.go_on.ensures.root ∙ c.loop.invariant.1,
  spent-later c.go_on.new.pass c.go_on.new.pass (pd c.args.self.now.peer) (pd c.loop.self.peer) (pd c.go_on.new.peer) (pd c.go_on.new.peer)
      (leads-as c.go_on.result next.End c.go_on.new.pass (pd c.loop.self.peer) (pd c.go_on.new.peer) c.in-End.is c.go_on.ensures.leads).0 c.loop.invariant.0.goes (goes-none (pd c.go_on.new.peer)) refl (keeps-self c.go_on.new.pass),
)
