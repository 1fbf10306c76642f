-- `go_on`: clauses drained and leads.
use Rattle.vx_burst_threads.specs.declared.drainer.Next.TheVariants as next
use Rattle.vx_burst_threads.proofs.Draining.{drained-then}
use Rattle.vx_burst_threads.proofs.Spending.{spent-finish, leads-as}
use Rattle.vx_burst_threads.proofs.drainer.go_on.Goals as goal

pub returns-then-fresh-clause-drained : goal.returns-then-fresh-clause-drained
returns-then-fresh-clause-drained g c = let pd = g.P.Peer.stand in
    drained-then c.args.pass.now c.hand_next-next.new.pass c.finish.new.pass (pd c.args.peer.now) (pd c.hand_next-next.new.peer) (pd c.finish.new.peer) c.hand_next-next.ensures.drained c.finish.ensures.drained

pub returns-in-End-clause-drained : goal.returns-in-End-clause-drained
returns-in-End-clause-drained g c = let pd = g.P.Peer.stand in
    drained-then c.args.pass.now c.hand_next-next.new.pass c.finish-in-End.new.pass (pd c.args.peer.now) (pd c.hand_next-next.new.peer) (pd c.finish-in-End.new.peer) c.hand_next-next.ensures.drained c.finish-in-End.ensures.drained

pub returns-then-fresh-clause-leads : goal.returns-then-fresh-clause-leads
returns-then-fresh-clause-leads g c = let pd = g.P.Peer.stand in
    spent-finish c.hand_next-next.new.pass c.finish.new.pass (pd c.args.peer.now) (pd c.hand_next-next.new.peer) (pd c.finish.new.peer)
    (leads-as c.hand_next-next.result next.Idle c.hand_next-next.new.pass (pd c.args.peer.now) (pd c.hand_next-next.new.peer) c.in-Idle.is c.hand_next-next.ensures.leads)
    c.finish.ensures.drained.goes c.finish.ensures.received c.finish.ensures.drained.keeps

pub returns-in-End-clause-leads : goal.returns-in-End-clause-leads
returns-in-End-clause-leads g c = let pd = g.P.Peer.stand in
    spent-finish c.hand_next-next.new.pass c.finish-in-End.new.pass (pd c.args.peer.now) (pd c.hand_next-next.new.peer) (pd c.finish-in-End.new.peer)
    (leads-as c.hand_next-next.result next.End c.hand_next-next.new.pass (pd c.args.peer.now) (pd c.hand_next-next.new.peer) c.in-End.is c.hand_next-next.ensures.leads)
    c.finish-in-End.ensures.drained.goes c.finish-in-End.ensures.received c.finish-in-End.ensures.drained.keeps
