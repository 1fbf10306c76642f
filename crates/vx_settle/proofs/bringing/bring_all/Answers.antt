-- `bring_all`: clause brings; what stays true in its loop over `i`.
use Rattle.std.proofs.Common.{arith, slice_get, Some, ◌≡◌, ◌∙◌, refl, slice_index_or}
use Rattle.std.proofs.lemmas.Option.{slice_get-get_or}
use Rattle.vx_settle.proofs.ManyPeers.{brought-first, brought-step, brought-all, brought-link}
use Rattle.vx_settle.proofs.bringing.bring_all.Goals as goal

pub loop-i-init : goal.loop-i-init
loop-i-init g c = (brought-first g.P.Peer.stand g.P.Peer.root (g.E.Engine.state c.args.engine.now) c.args.peers.now, refl)

pub bring-requires-after_bounds : goal.bring-requires-after_bounds
bring-requires-after_bounds g c κs within = let q = slice_index_or c.loop-i.peers c.loop-i.i c.index-peers-i.result in
    let at : slice_get c.loop-i.peers c.loop-i.i ≡ Some q = slice_get-get_or c.loop-i.peers c.loop-i.i c.index-peers-i.result (let p = c.loop-i.auto.peers in let t = c.loop-i-test.true in omega (arith, p, t)) in
    brought-link g.P.Peer.stand g.P.Peer.root (g.E.Engine.state c.args.engine.now) (g.E.Engine.state c.loop-i.engine) c.args.peers.now c.loop-i.peers c.loop-i.i q at c.loop-i.invariant.0 c.requires

pub loop-i-preserved : goal.loop-i-preserved
loop-i-preserved g c = let q = slice_index_or c.loop-i.peers c.loop-i.i c.index-peers-i.result in
    let at : slice_get c.loop-i.peers c.loop-i.i ≡ Some q = slice_get-get_or c.loop-i.peers c.loop-i.i c.index-peers-i.result (let p = c.loop-i.auto.peers in let t = c.loop-i-test.true in omega (arith, p, t)) in (
      brought-step g.P.Peer.stand g.P.Peer.root (g.E.Engine.state c.args.engine.now) (g.E.Engine.state c.loop-i.engine) (g.E.Engine.state c.bring.new.engine) c.args.peers.now c.loop-i.peers c.loop-i.i q c.bring.new.peer at c.loop-i.invariant.0 c.bring.ensures.brings c.bring.ensures.roots.1,
      c.bring.ensures.roots.0 ∙ c.loop-i.invariant.1,
    )

pub returns-clause-brings : goal.returns-clause-brings
returns-clause-brings g c = brought-all g.P.Peer.stand g.P.Peer.root (g.E.Engine.state c.args.engine.now) (g.E.Engine.state c.loop-i.engine) c.args.peers.now c.loop-i.peers c.loop-i.i (let p = c.loop-i.auto.peers in let t = c.loop-i-test.false in omega (arith, p, t)) c.loop-i.invariant.0
