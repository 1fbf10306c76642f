-- `set_drainers`: what `unreachable` asks; what stays true in its loop over `peer`.
use Rattle.std.proofs.Common.{rules, ◌≡◌, ◌++◌, ◌∷◌, [], true, length, ap, ◌∙◌, arith, None, length-append}
use Rattle.std.specs.Bool.{if◌then◌else◌}
use Rattle.std.specs.Result.{is_ok}
use Rattle.vx_turn.specs.Passing.{table_of, first_engine}
use Rattle.vx_burst_threads.specs.declared.worker.Worker.TheVariants.{Drains}
use Rattle.vx_burst_threads.specs.declared.drainer.Drainer.{Drainer}
use Rattle.vx_burst.proofs.Settings.{set-pass, linking-more}
use Rattle.vx_burst.proofs.setting.set_drainers.Goals as goal

pub unreachable-requires : goal.unreachable-requires
unreachable-requires g c =
    let l = c.loop-peer.invariant.0 in
    let none : c.pop-in-Some.result ≡ None = search rules in
    let full = set-pass g.P.Peer.stand (table_of c.args.turn.now) (g.E.Engine.state (first_engine c.args.turn.now)) c.args.callers c.args.plan.now c.loop-peer.workers.items c.loop-peer.passes c.pop-in-Some.new.self c.pop-in-Some.result l.set c.pop-in-Some.ensures none in
    let n = l.long in let r = c.requires.room.0 in
    let pop : c.loop-peer.peers.items ≡ c.pop.new.self.items ++ c.in-Some.peer ∷ [] = search rules in
    let some : length c.loop-peer.peers.items ≡ length (c.pop.new.self.items ++ c.in-Some.peer ∷ []) = ap (λ z. length z) pop in
    let one = length-append c.pop.new.self.items (c.in-Some.peer ∷ []) in
    absurd (omega (arith, full, n, r, some, one))

pub loop-peer-preserved : goal.loop-peer-preserved
loop-peer-preserved g c =
    let l = c.loop-peer.invariant.0 in
    let pop : c.loop-peer.peers.items ≡ c.pop.new.self.items ++ c.in-Some.peer ∷ [] = search rules in
    let some : length c.loop-peer.peers.items ≡ length (c.pop.new.self.items ++ c.in-Some.peer ∷ []) = ap (λ z. length z) pop in
    let one = length-append c.pop.new.self.items (c.in-Some.peer ∷ []) in
    let n = l.long in let r = c.requires.room.1 in let v = c.loop-peer.invariant.1 in
    let ok : is_ok c.push.result ≡ true = c.push.ensures.succeeds (omega (arith, n, r, v, some, one)) in
    let d : Drainer g.row.P.Denot = record { pass = c.in-Some-pop.pass; peer = c.in-Some.peer } in
    let items : c.push.new.self.items ≡ c.loop-peer.workers.items ++ Drains d ∷ [] = c.push.ensures.items ∙ ap (λ b. if b then c.loop-peer.workers.items ++ Drains d ∷ [] else c.loop-peer.workers.items) ok in (
      linking-more g.P.Peer.stand (table_of c.args.turn.now) (g.E.Engine.state (first_engine c.args.turn.now)) c.args.callers c.args.plan.now c.args.peers.now.items c.loop-peer.peers.items c.pop.new.self.items (length c.args.workers.items)
          c.loop-peer.workers.items c.push.new.self.items d c.loop-peer.passes c.pop-in-Some.new.self c.pop-in-Some.result l c.pop-in-Some.ensures c.in-Some-pop.is pop items,
      (let z = c.push.ensures.capacity in omega (arith, z, v)),
      (let z = c.pop.ensures.capacity in let u = c.loop-peer.invariant.2 in omega (arith, z, u)),
    )
