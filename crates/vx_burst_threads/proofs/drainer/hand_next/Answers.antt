-- `hand_next`: clauses drained and leads.
use Rattle.std.proofs.Common.{rules, ◌≡◌, ◌≤◌, ◌+◌, subst, sym}
use Rattle.vx_turn.specs.declared.ask.Job.TheVariants.{Fetch}
use Rattle.vx_turn.specs.declared.ask.JobReply.TheVariants as job
use Rattle.vx_burst_threads.proofs.Draining.{drained-hand, drained-job, drained-none, drained-then}
use Rattle.vx_burst_threads.specs.Draining.{GaveNothing}
use Rattle.vx_burst_threads.proofs.Spending.{spent-job, spent-hand}
use Rattle.vx_burst_threads.proofs.drainer.hand_next.Goals as goal

pub returns-in_default-clause-drained : goal.returns-in_default-clause-drained
returns-in_default-clause-drained g c = drained-none c.args.pass.now (g.P.Peer.stand c.args.peer.now)

pub returns-then-ack-net-clause-drained : goal.returns-then-ack-net-clause-drained
returns-then-ack-net-clause-drained g c = let pd = g.P.Peer.stand in
    drained-then c.args.pass.now c.work.new.pass c.acknowledge.new.pass (pd c.args.peer.now) (pd c.hand-ack.new.self) (pd c.hand-ack.new.self)
    (drained-hand c.args.pass.now c.work.new.pass (pd c.args.peer.now) (pd c.hand-ack.new.self) c.in-Some.number c.in-Done.field-0 c.work.result c.work.new.into c.hand-ack.result c.work.ensures.work c.work.ensures.same c.in-Done.is c.hand-ack.ensures.hands)
    c.acknowledge.ensures

pub returns-else-ack-net-clause-drained : goal.returns-else-ack-net-clause-drained
returns-else-ack-net-clause-drained g c = let pd = g.P.Peer.stand in
    drained-then c.args.pass.now c.work.new.pass c.acknowledge.new.pass (pd c.args.peer.now) (pd c.hand-ack.new.self) (pd c.hand-ack.new.self)
    (drained-hand c.args.pass.now c.work.new.pass (pd c.args.peer.now) (pd c.hand-ack.new.self) c.in-Some.number c.in-Done.field-0 c.work.result c.work.new.into c.hand-ack.result c.work.ensures.work c.work.ensures.same c.in-Done.is c.hand-ack.ensures.hands)
    c.acknowledge.ensures

pub returns-in-Nothing-clause-drained : goal.returns-in-Nothing-clause-drained
returns-in-Nothing-clause-drained g c = drained-job c.args.pass.now c.work.new.pass (g.P.Peer.stand c.args.peer.now) (Fetch c.in-Some.number) c.work.result c.work.new.into c.work.ensures.work c.work.ensures.same tt

pub returns-in-Gone-clause-drained : goal.returns-in-Gone-clause-drained
returns-in-Gone-clause-drained g c = drained-job c.args.pass.now c.work.new.pass (g.P.Peer.stand c.args.peer.now) (Fetch c.in-Some.number) c.work.result c.work.new.into c.work.ensures.work c.work.ensures.same tt

pub returns-in-Refused-clause-drained : goal.returns-in-Refused-clause-drained
returns-in-Refused-clause-drained g c = drained-job c.args.pass.now c.work.new.pass (g.P.Peer.stand c.args.peer.now) (Fetch c.in-Some.number) c.work.result c.work.new.into c.work.ensures.work c.work.ensures.same tt

pub returns-else-ack-net-clause-leads : goal.returns-else-ack-net-clause-leads
returns-else-ack-net-clause-leads g c = let pd = g.P.Peer.stand in
    let next : c.in-Some.number ≡ c.args.net + 1 = search rules in let none : c.hand-ack.result.net ≤ c.args.net = search rules in
    spent-hand c.args.pass.now c.work.new.pass c.acknowledge.new.pass (pd c.args.peer.now) (pd c.hand-ack.new.self) c.in-Some.number c.args.net c.in-Done.field-0 c.work.result c.work.new.into c.hand-ack.result
    next c.requires.net c.work.ensures.work c.work.ensures.same c.in-Done.is c.hand-ack.ensures.hands none c.acknowledge.ensures.keeps

pub returns-in-Nothing-clause-leads : goal.returns-in-Nothing-clause-leads
returns-in-Nothing-clause-leads g c = let s = g.P.Peer.stand c.args.peer.now in let next : c.in-Some.number ≡ c.args.net + 1 = search rules in
    spent-job c.args.pass.now c.work.new.pass s c.in-Some.number c.args.net c.work.result c.work.new.into next c.requires.net c.work.ensures.work c.work.ensures.same (subst (λ r. GaveNothing r c.work.new.into s s) (sym c.in-Nothing.is) tt)

pub returns-in-Gone-clause-leads : goal.returns-in-Gone-clause-leads
returns-in-Gone-clause-leads g c = let s = g.P.Peer.stand c.args.peer.now in let next : c.in-Some.number ≡ c.args.net + 1 = search rules in
    spent-job c.args.pass.now c.work.new.pass s c.in-Some.number c.args.net c.work.result c.work.new.into next c.requires.net c.work.ensures.work c.work.ensures.same (subst (λ r. GaveNothing r c.work.new.into s s) (sym c.in-Gone.is) tt)

pub returns-in-Refused-clause-leads : goal.returns-in-Refused-clause-leads
returns-in-Refused-clause-leads g c = let s = g.P.Peer.stand c.args.peer.now in let next : c.in-Some.number ≡ c.args.net + 1 = search rules in
    spent-job c.args.pass.now c.work.new.pass s c.in-Some.number c.args.net c.work.result c.work.new.into next c.requires.net c.work.ensures.work c.work.ensures.same (subst (λ r. GaveNothing r c.work.new.into s s) (sym c.in-Refused.is) tt)
