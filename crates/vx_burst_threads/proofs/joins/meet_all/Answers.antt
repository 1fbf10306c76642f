-- `meet_all`: clauses met and laid; what stays true in its loop over `worker`.
use Rattle.std.proofs.Common.{rules, ◌≡◌, length, [], ◌∷◌, ◌++◌, ap, sym, subst, ◌∙◌, arith, true}
use Rattle.std.specs.Bool.{if◌then◌else◌}
use Rattle.std.specs.Result.{is_ok}
use Rattle.std.proofs.lemmas.List.{append-nil}
use Rattle.vx_settle.proofs.Bringings.{among-left}
use Rattle.vx_burst_threads.specs.declared.worker.Worker.TheVariants.{Writes, Drains}
use Rattle.vx_burst_threads.specs.Joining.{pass_of}
use Rattle.vx_burst_threads.proofs.Joining.{loop-first, loop-more, loop-last, lays-none, lays-writer, among-head}
use Rattle.vx_turn.specs.Passing.{table_of, table_id_of}
use Rattle.vx_burst_threads.proofs.joins.meet_all.Goals as goal

pub loop-worker-init : goal.loop-worker-init
loop-worker-init g c = (loop-first c.args.pass c.args.peers.items c.args.workers.items c.args.answers.now, c.requires.table.1, c.requires.room)

pub meet-requires-after_bounds : goal.meet-requires-after_bounds
meet-requires-after_bounds g c κs within = let pop : c.loop-worker.workers.items ≡ c.pop.new.self.items ++ c.in-Some.worker ∷ [] = search rules in (
  c.loop-worker.invariant.0.met.same.0 ∙ c.requires.table.0,
  subst (λ w. table_id_of (pass_of w) ≡ table_of c.args.turn.now) c.in-Writes.is (c.loop-worker.invariant.1 c.in-Some.worker (subst (λ l. Rattle.vx_turn.specs.Acting.LiesAmong c.in-Some.worker l) (sym pop) (among-head c.in-Some.worker c.pop.new.self.items []))),
)

pub loop-worker-preserved-in-Writes : goal.loop-worker-preserved-in-Writes
loop-worker-preserved-in-Writes g c = let pop : c.loop-worker.workers.items ≡ c.pop.new.self.items ++ c.in-Some.worker ∷ [] = search rules in
    let pop' : c.loop-worker.workers.items ≡ c.pop.new.self.items ++ Writes c.in-Writes.writer ∷ [] = pop ∙ ap (λ v. c.pop.new.self.items ++ v ∷ []) c.in-Writes.is in (
      loop-more c.args.pass c.loop-worker.pass c.meet.new.pass c.args.peers.items c.loop-worker.peers.items c.loop-worker.peers.items c.args.workers.items c.loop-worker.workers.items c.pop.new.self.items c.args.answers.now c.loop-worker.answers c.lay.new.answers (Writes c.in-Writes.writer) pop' c.loop-worker.invariant.0 (lays-writer c.in-Writes.writer c.loop-worker.answers c.lay.new.answers c.lay.ensures)
          c.meet.ensures.met c.meet.ensures.same (sym (append-nil c.loop-worker.peers.items)),
      (λ w m. c.loop-worker.invariant.1 w (subst (λ l. Rattle.vx_turn.specs.Acting.LiesAmong w l) (sym pop) (among-left w c.pop.new.self.items (c.in-Some.worker ∷ []) m))),
      c.loop-worker.invariant.2,
    )

pub meet-requires-in-Drains-after_bounds : goal.meet-requires-in-Drains-after_bounds
meet-requires-in-Drains-after_bounds g c κs within = let pop : c.loop-worker.workers.items ≡ c.pop.new.self.items ++ c.in-Some.worker ∷ [] = search rules in (
  c.loop-worker.invariant.0.met.same.0 ∙ c.requires.table.0,
  subst (λ w. table_id_of (pass_of w) ≡ table_of c.args.turn.now) c.in-Drains.is (c.loop-worker.invariant.1 c.in-Some.worker (subst (λ l. Rattle.vx_turn.specs.Acting.LiesAmong c.in-Some.worker l) (sym pop) (among-head c.in-Some.worker c.pop.new.self.items []))),
)

pub loop-worker-preserved : goal.loop-worker-preserved
loop-worker-preserved g c = let pop : c.loop-worker.workers.items ≡ c.pop.new.self.items ++ c.in-Some.worker ∷ [] = search rules in
    let pop' : c.loop-worker.workers.items ≡ c.pop.new.self.items ++ Drains c.in-Drains.drainer ∷ [] = pop ∙ ap (λ v. c.pop.new.self.items ++ v ∷ []) c.in-Drains.is in
    let n : length c.loop-worker.workers.items ≡ length (c.pop.new.self.items ++ c.in-Some.worker ∷ []) = ap (λ l. length l) pop in
    let k = Rattle.std.proofs.Common.length-append c.pop.new.self.items (c.in-Some.worker ∷ []) in let t = c.loop-worker.invariant.0.count in let r = c.loop-worker.invariant.2 in
    let ok : is_ok c.push.result ≡ true = c.push.ensures.succeeds (omega (arith, n, k, t, r)) in
    let items : c.push.new.self.items ≡ c.loop-worker.peers.items ++ c.in-Drains.drainer.peer ∷ [] = c.push.ensures.items ∙ ap (λ b. if b then c.loop-worker.peers.items ++ c.in-Drains.drainer.peer ∷ [] else c.loop-worker.peers.items) ok in (
      loop-more c.args.pass c.loop-worker.pass c.meet-in-Drains.new.pass c.args.peers.items c.loop-worker.peers.items c.push.new.self.items c.args.workers.items c.loop-worker.workers.items c.pop.new.self.items c.args.answers.now c.loop-worker.answers c.loop-worker.answers (Drains c.in-Drains.drainer) pop' c.loop-worker.invariant.0 (lays-none c.in-Drains.drainer c.loop-worker.answers)
          c.meet-in-Drains.ensures.met c.meet-in-Drains.ensures.same items,
      (λ w m. c.loop-worker.invariant.1 w (subst (λ l. Rattle.vx_turn.specs.Acting.LiesAmong w l) (sym pop) (among-left w c.pop.new.self.items (c.in-Some.worker ∷ []) m))),
      (let z = c.push.ensures.capacity in omega (arith, z, r)),
    )

pub returns-clause-met : goal.returns-clause-met
returns-clause-met g c = (loop-last c.args.pass c.loop-worker.pass c.args.peers.items c.loop-worker.peers.items c.args.workers.items c.loop-worker.workers.items c.args.answers.now c.loop-worker.answers (search rules) c.loop-worker.invariant.0).0

pub returns-clause-laid : goal.returns-clause-laid
returns-clause-laid g c = (loop-last c.args.pass c.loop-worker.pass c.args.peers.items c.loop-worker.peers.items c.args.workers.items c.loop-worker.workers.items c.args.answers.now c.loop-worker.answers (search rules) c.loop-worker.invariant.0).1
