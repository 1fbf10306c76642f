-- `climb`: clause climbs; what `step` asks; what stays true in its loop over `net`.
use Rattle.std.proofs.Common.{rules, subst, refl, ◌∙◌}
use Rattle.vx_settle.specs.Bringing.{Steps}
use Rattle.vx_settle.proofs.Bringings.{mid-step, mid-stuck, mid-end, mid-first}
use Rattle.vx_settle.proofs.bringing.climb.Goals as goal

pub step-requires-clause-head : goal.step-requires-clause-head
step-requires-clause-head g c κs within = let h = c.loop-net.invariant.0.moves.head in c.requires.head ∙ Rattle.std.proofs.Common.sym h

pub loop-net-preserved : goal.loop-net-preserved
loop-net-preserved g c = let st = g.E.Engine.state in let pd = g.P.Peer.stand in
    let s = subst (λ r. Steps (st c.loop-net.engine) (pd c.loop-net.peer) r (st c.step.new.engine) (pd c.step.new.peer)) c.in-Some.is c.step.ensures.steps in (
      mid-step (st c.args.engine.now) (st c.loop-net.engine) (st c.step.new.engine) (pd c.args.peer.now) (pd c.loop-net.peer) (pd c.step.new.peer) c.loop-net.net c.in-Some.more c.loop-net.invariant.0 s,
      c.step.ensures.roots.0 ∙ c.loop-net.invariant.1,
      c.step.ensures.roots.1 ∙ c.loop-net.invariant.2,
    )

pub returns-in-None-clause-climbs : goal.returns-in-None-clause-climbs
returns-in-None-clause-climbs g c = let st = g.E.Engine.state in let pd = g.P.Peer.stand in
    let s = subst (λ r. Steps (st c.loop-net.engine) (pd c.loop-net.peer) r (st c.step.new.engine) (pd c.step.new.peer)) c.in-None.is c.step.ensures.steps in
    mid-stuck (st c.args.engine.now) (st c.loop-net.engine) (st c.step.new.engine) (pd c.args.peer.now) (pd c.loop-net.peer) (pd c.step.new.peer) c.loop-net.net c.loop-net.invariant.0 s

pub loop-net-init : goal.loop-net-init
loop-net-init g c = (mid-first (g.E.Engine.state c.args.engine.now) (g.P.Peer.stand c.args.peer.now) c.args.net c.requires.net, refl, refl)

pub returns-clause-climbs : goal.returns-clause-climbs
returns-clause-climbs g c = mid-end (g.E.Engine.state c.args.engine.now) (g.E.Engine.state c.loop-net.engine) (g.P.Peer.stand c.args.peer.now) (g.P.Peer.stand c.loop-net.peer) c.loop-net.net c.args.head c.requires.head (search rules) c.loop-net.invariant.0
