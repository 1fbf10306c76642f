-- `set_writers`: what `unreachable` asks; what stays true in its loop over `thread`.
use Rattle.std.proofs.Common.{rules, ◌≡◌, ◌+◌, ◌++◌, ◌∷◌, [], true, length, ap, ◌∙◌, arith, None, refl, length-append}
use Rattle.std.specs.Bool.{if◌then◌else◌}
use Rattle.std.specs.Result.{is_ok}
use Rattle.vx_turn.specs.Passing.{table_of, first_engine}
use Rattle.vx_burst_threads.specs.declared.worker.Worker.TheVariants.{Writes}
use Rattle.vx_burst_threads.specs.declared.writer.Writer.{Writer}
use Rattle.vx_burst.proofs.Settings.{set-pass, writing-more}
use Rattle.vx_burst.proofs.setting.set_writers.Goals as goal

pub unreachable-requires : goal.unreachable-requires
unreachable-requires g c =
    let l = c.loop-thread.invariant.0 in
    let none : c.pop.result ≡ None = search rules in
    let full = set-pass g.P.Peer.stand (table_of c.args.turn.now) (g.E.Engine.state (first_engine c.args.turn.now)) c.args.callers c.args.plan.now c.loop-thread.workers.items c.loop-thread.passes c.pop.new.self c.pop.result l.set c.pop.ensures none in
    let n = l.long in let r = c.requires.room.0 in let q = l.left in
    absurd (omega (arith, full, n, r, q))

pub loop-thread-preserved : goal.loop-thread-preserved
loop-thread-preserved g c =
    let l = c.loop-thread.invariant.0 in
    let pop : c.loop-thread.rooms.items ≡ c.pop-in-loop-thread.new.self.items ++ c.in-Some-pop.room ∷ [] = search rules in
    let some : length c.loop-thread.rooms.items ≡ length (c.pop-in-loop-thread.new.self.items ++ c.in-Some-pop.room ∷ []) = ap (λ z. length z) pop in
    let one = length-append c.pop-in-loop-thread.new.self.items (c.in-Some-pop.room ∷ []) in
    let n = l.long in let r = c.requires.room.1 in let v = c.loop-thread.invariant.1 in let q = l.left in
    let ok : is_ok c.push.result ≡ true = c.push.ensures.succeeds (omega (arith, n, r, v, some, one, q)) in
    let x : Writer = record { thread = c.loop-thread.thread + 1; pass = c.in-Some.pass; made = c.in-Some-pop.room.made } in
    let items : c.push.new.self.items ≡ c.loop-thread.workers.items ++ Writes x ∷ [] = c.push.ensures.items ∙ ap (λ b. if b then c.loop-thread.workers.items ++ Writes x ∷ [] else c.loop-thread.workers.items) ok in (
      writing-more g.P.Peer.stand (table_of c.args.turn.now) (g.E.Engine.state (first_engine c.args.turn.now)) c.args.callers c.args.plan.now c.args.threads c.loop-thread.thread c.loop-thread.rooms.items c.pop-in-loop-thread.new.self.items c.in-Some-pop.room
          c.loop-thread.workers.items c.push.new.self.items x c.loop-thread.passes c.pop.new.self c.pop.result l c.requires.calls c.pop.ensures c.in-Some.is pop refl refl items,
      (let z = c.push.ensures.capacity in omega (arith, z, v)),
    )
