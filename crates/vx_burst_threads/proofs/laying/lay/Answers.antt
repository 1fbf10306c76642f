-- `lay`: its result; what stays true in its loop over `one`.
use Rattle.std.proofs.Common.{rules}
use Rattle.vx_burst_threads.proofs.Layings.{laying-set, laying-past, laying-end, laying-first}
use Rattle.vx_burst_threads.proofs.laying.lay.Goals as goal

pub loop-one-init : goal.loop-one-init
loop-one-init c = laying-first c.args.made.items c.args.answers.now

pub loop-one-preserved-then-one-answers : goal.loop-one-preserved-then-one-answers
loop-one-preserved-then-one-answers c = laying-set c.args.made.items c.loop-one.made.items c.pop.new.self.items c.in-Some.one c.args.answers.now c.loop-one.answers (search rules) c.loop-one.invariant

pub loop-one-preserved : goal.loop-one-preserved
loop-one-preserved c = laying-past c.args.made.items c.loop-one.made.items c.pop.new.self.items c.in-Some.one c.args.answers.now c.loop-one.answers (search rules) (search rules) c.loop-one.invariant

pub returns : goal.returns
returns c = laying-end c.args.made.items c.loop-one.made.items c.args.answers.now c.loop-one.answers (search rules) c.loop-one.invariant
