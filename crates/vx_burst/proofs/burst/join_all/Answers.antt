-- `join_all`: its result; what `unreachable` and `work_and_meet-pass` ask.
use Rattle.std.proofs.Common.{rules, ◌≡◌, ◌∙◌, ap, subst, arith, length, None}
use Rattle.vx_turn.specs.Passing.{table_of, first_engine}
use Rattle.vx_burst_threads.specs.Joining.{WorkedAndMet}
use Rattle.vx_burst.proofs.Settings.{set-pass, set-given}
use Rattle.vx_burst.proofs.Ends.{set-all}
use Rattle.vx_burst.proofs.burst.join_all.Goals as goal

pub unreachable-requires : goal.unreachable-requires
unreachable-requires g c =
    let none : c.pop.result ≡ None = search rules in
    let full = set-pass g.P.Peer.stand (table_of c.args.turn) (g.E.Engine.state (first_engine c.args.turn)) c.args.callers c.args.plan.now c.set_drainers-workers.result.items c.set_drainers-workers.new.passes c.pop.new.self c.pop.result
    c.set_drainers-workers.ensures.set c.pop.ensures none in
    let n = c.set_drainers-workers.ensures.long in let m = c.set_writers-workers.ensures.back.1 in let a = c.requires.callers in absurd (omega (arith, full, n, m, a))

pub work_and_meet-pass-requires-clause-table : goal.work_and_meet-pass-requires-clause-table
work_and_meet-pass-requires-clause-table g c κs within =
    let h = set-given g.P.Peer.stand (table_of c.args.turn) (g.E.Engine.state (first_engine c.args.turn)) c.args.callers c.args.plan.now c.set_drainers-workers.result.items c.set_drainers-workers.new.passes c.pop.new.self c.pop.result c.in-Some.pass
    c.set_drainers-workers.ensures.set c.pop.ensures c.in-Some.is in
    (h.0.table, set-all g.P.Peer.stand (table_of c.args.turn) (g.E.Engine.state (first_engine c.args.turn)) c.args.callers c.args.plan.now c.set_drainers-workers.result.items c.set_drainers-workers.ensures.set.workers)

pub work_and_meet-pass-requires-clause-room : goal.work_and_meet-pass-requires-clause-room
work_and_meet-pass-requires-clause-room g c κs within = let n = c.set_drainers-workers.ensures.long in let m = c.set_writers-workers.ensures.back.1 in let a = c.requires.callers in
    let b : length c.args.back.items ≡ 0 = ap (λ l. length l) c.requires.back.0 in let r = c.requires.back.1 in omega (arith, n, m, a, b, r)

pub close-engine-requires-after_bounds : goal.close-engine-requires-after_bounds
close-engine-requires-after_bounds g c κs within =
    let h = set-given g.P.Peer.stand (table_of c.args.turn) (g.E.Engine.state (first_engine c.args.turn)) c.args.callers c.args.plan.now c.set_drainers-workers.result.items c.set_drainers-workers.new.passes c.pop.new.self c.pop.result c.in-Some.pass
    c.set_drainers-workers.ensures.set c.pop.ensures c.in-Some.is in
    c.work_and_meet-pass.ensures.met.same.0 ∙ h.0.table

pub returns : goal.returns
returns g c =
    let h = set-given g.P.Peer.stand (table_of c.args.turn) (g.E.Engine.state (first_engine c.args.turn)) c.args.callers c.args.plan.now c.set_drainers-workers.result.items c.set_drainers-workers.new.passes c.pop.new.self c.pop.result c.in-Some.pass
    c.set_drainers-workers.ensures.set c.pop.ensures c.in-Some.is in record {
      ws = c.set_drainers-workers.result.items;
      set = c.set_drainers-workers.ensures.set.workers;
      back = c.set_drainers-workers.ensures.back;
      all = let n = c.set_drainers-workers.ensures.long in let m = c.set_writers-workers.ensures.back.1 in let a = c.requires.callers in omega (arith, n, m, a);
      pass = c.in-Some.pass;
      own = h.0;
      last = c.work_and_meet-pass.result.0;
      worked = subst (λ l. WorkedAndMet g.P.Peer.stand g.P.Peer.root c.args.plan.now c.in-Some.pass l c.set_drainers-workers.result.items c.args.answers.now c.work_and_meet-pass.result.0 c.work_and_meet-pass.result.1.items c.work_and_meet-pass.new.answers) c.requires.back.0 c.work_and_meet-pass.ensures;
      closes = c.close-engine.ensures;
    }
