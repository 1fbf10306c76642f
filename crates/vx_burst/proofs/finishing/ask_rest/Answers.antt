-- `ask_rest`: what stays true in its loop over `k`.
use Rattle.std.proofs.Common.{◌∙◌, refl, arith}
use Rattle.vx_burst.proofs.Stages.{stages-none, stages-then}
use Rattle.vx_burst.proofs.finishing.ask_rest.Goals as goal

pub loop-k-init : goal.loop-k-init
loop-k-init g c = (stages-none g.P.Peer.stand g.P.Peer.root c.args.plan.now (g.E.Engine.state c.args.engine.now) c.args.peers.now c.args.answers.now c.args.taken, c.requires.links, c.requires.rest, c.requires.long, (λ j a lt at. absurd (omega (arith, lt))), refl)

pub loop-k-preserved : goal.loop-k-preserved
loop-k-preserved g c = let i = c.loop-k.invariant in let e = c.ask_next-taken.ensures in let st = g.E.Engine.state in (
  stages-then g.P.Peer.stand g.P.Peer.root c.args.plan.now (st c.args.engine.now) (st c.loop-k.engine) (st c.ask_next-taken.new.engine) c.args.peers.now c.loop-k.peers c.ask_next-taken.new.peers c.args.answers.now c.loop-k.answers c.ask_next-taken.new.answers
      c.args.taken c.loop-k.taken c.ask_next-taken.result i.0 e.stages,
  e.links,
  e.rest.0,
  e.rest.1,
  e.placed,
  e.root ∙ i.5,
)
