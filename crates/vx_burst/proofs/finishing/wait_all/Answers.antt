-- `wait_all`: what stays true in its loop over `k`.
use Rattle.std.proofs.Common.{rules, ◌≡◌, ◌<◌, ◌∙◌, sym, subst, refl, slice_get, Some, arith, length, slice_index_or}
use Rattle.std.proofs.lemmas.Option.{slice_get-get_or}
use Rattle.vx_settle.proofs.ManyPeers.{some-one}
use Rattle.vx_burst_threads.specs.declared.plan.Answered.{Answered}
use Rattle.vx_burst.specs.Finishing.{WaitedOne}
use Rattle.vx_burst.proofs.Waitings.{waits-none, waits-more, waited-links, places-set}
use Rattle.vx_burst.proofs.finishing.wait_all.Goals as goal

pub loop-k-init : goal.loop-k-init
loop-k-init g c = (λ start firsts plan log n stays stage placed. waits-none g.P.Peer.stand g.P.Peer.root start firsts plan log n stays (g.E.Engine.state c.args.engine.now) c.args.peers.now c.args.answers.now stage, c.requires, (refl, λ j b at. (b, at, refl)), refl)

pub loop-k-preserved : goal.loop-k-preserved
loop-k-preserved g c =
    let i = c.loop-k.invariant in let st = g.E.Engine.state in
    let r : c.loop-k.k < length c.loop-k.answers = (let p = i.2.0 in let t = c.loop-k-test.true in search rules) in
    let b = slice_index_or c.loop-k.answers c.loop-k.k c.index-answers-k.result in
    let a = slice_index_or c.loop-k.answers c.loop-k.k c.index-answers-k-in-loop-k.result in
    let at : slice_get c.loop-k.answers c.loop-k.k ≡ Some a = slice_get-get_or c.loop-k.answers c.loop-k.k c.index-answers-k-in-loop-k.result r in
    let that : slice_get c.loop-k.answers c.loop-k.k ≡ Some b = slice_get-get_or c.loop-k.answers c.loop-k.k c.index-answers-k.result r in
    let same : b ≡ a = some-one (sym that ∙ at) in
    let one = subst (λ (z : Answered). WaitedOne g.P.Peer.stand g.P.Peer.root (st c.loop-k.engine) c.loop-k.peers z.reply c.wait_one.result (st c.wait_one.new.engine) c.wait_one.new.peers) same c.wait_one.ensures.waited in
    let old = i.2.1 c.loop-k.k a at in (
      (λ start firsts plan log n stays stage placed. waits-more g.P.Peer.stand g.P.Peer.root start firsts plan n stays c.loop-k.k (st c.loop-k.engine) (st c.wait_one.new.engine) c.loop-k.peers c.wait_one.new.peers c.loop-k.answers a c.wait_one.result
          (i.0 start firsts plan log n stays stage placed) at (let z = placed c.loop-k.k old.0 (search rules) old.1 in let e = old.2 in omega (arith, z, e)) one),
      waited-links g.P.Peer.stand g.P.Peer.root (st c.loop-k.engine) (st c.wait_one.new.engine) c.loop-k.peers c.wait_one.new.peers a.reply c.wait_one.result one i.1,
      places-set c.args.answers.now c.loop-k.answers c.loop-k.k a (record { place = a.place; reply = a.reply; waited = c.wait_one.result }) at refl i.2,
      c.wait_one.ensures.root ∙ i.3,
    )
