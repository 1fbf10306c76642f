-- `write_all`: its result; what `write_one` asks; what stays true in its loop over `k`.
use Rattle.std.proofs.Common.{rules, ◌≡◌, subst, refl, slice_get, Some, true, false}
use Rattle.std.proofs.lemmas.Option.{slice_get_read}
use Rattle.vx_burst_threads.specs.Writing.{WriterGoes}
use Rattle.vx_burst_threads.proofs.Making.{loop-first, loop-room, loop-step, loop-stop, loop-end}
use Rattle.vx_burst_threads.proofs.writer.Writer.write_all.Goals as goal

pub loop-k-init : goal.loop-k-init
loop-k-init g c = loop-first c.args.plan.now c.args.self.now c.requires.room.0

pub write_one-requires-clause-call : goal.write_one-requires-clause-call
write_one-requires-clause-call g c κs within = c.requires.calls c.loop-k.k c.in-Some.planned.now (slice_get_read c.args.plan.now _ c.loop-k.k c.in-Some.planned.now refl (search rules) (search rules))

pub write_one-requires-clause-room : goal.write_one-requires-clause-room
write_one-requires-clause-room g c κs within =
    let at : slice_get c.args.plan.now c.loop-k.k ≡ Some c.in-Some.planned.now = slice_get_read c.args.plan.now _ c.loop-k.k c.in-Some.planned.now refl (search rules) (search rules) in
    loop-room c.args.plan.now c.args.self.now c.loop-k.k c.loop-k.self c.in-Some.planned.now at c.loop-k.invariant c.requires.room.1

pub returns-then-not-write_one : goal.returns-then-not-write_one
returns-then-not-write_one g c =
    let at : slice_get c.args.plan.now c.loop-k.k ≡ Some c.in-Some.planned.now = slice_get_read c.args.plan.now _ c.loop-k.k c.in-Some.planned.now refl (search rules) (search rules) in
    let no : c.write_one.result ≡ false = search rules in
    loop-stop c.args.plan.now c.args.self.now c.loop-k.k c.loop-k.self c.write_one.new.self c.in-Some.planned.now at c.loop-k.invariant
    (subst (λ b. WriterGoes c.in-Some.planned.now c.loop-k.k c.loop-k.self b c.write_one.new.self) no c.write_one.ensures)

pub loop-k-preserved : goal.loop-k-preserved
loop-k-preserved g c =
    let at : slice_get c.args.plan.now c.loop-k.k ≡ Some c.in-Some.planned.now = slice_get_read c.args.plan.now _ c.loop-k.k c.in-Some.planned.now refl (search rules) (search rules) in
    let yes : c.write_one.result ≡ true = search rules in
    loop-step c.args.plan.now c.args.self.now c.loop-k.k c.loop-k.self c.write_one.new.self c.in-Some.planned.now at c.loop-k.invariant
    (subst (λ b. WriterGoes c.in-Some.planned.now c.loop-k.k c.loop-k.self b c.write_one.new.self) yes c.write_one.ensures)

pub returns : goal.returns
returns g c = loop-end c.args.plan.now c.args.self.now c.loop-k.k c.loop-k.self (search rules) c.loop-k.invariant
