-- `doubt_all`: its clauses; what stays true in its loop.
use Rattle.std.proofs.Common.{arith}
use Rattle.vx_loggroup.proofs.DoubtLemmas.{more_doubted, none_doubted}
use Rattle.vx_loggroup.proofs.doubting.doubt_all.Goals as goal

pub loop-vol-init : goal.loop-vol-init
loop-vol-init c = none_doubted c.args.alike.now c.args.unsure.now

pub loop-vol-preserved : goal.loop-vol-preserved
loop-vol-preserved c = more_doubted c.args.alike.now c.args.unsure.now c.loop-vol.unsure c.doubt_one.new.unsure c.loop-vol.vol c.loop-vol.invariant c.doubt_one.ensures.here c.doubt_one.ensures.more

pub returns-clause-sure : goal.returns-clause-sure
returns-clause-sure c = λ v lt off. c.loop-vol.invariant.sure v (let test = c.loop-vol-test.false in omega (arith, lt, test)) off

pub returns-clause-more : goal.returns-clause-more
returns-clause-more c = c.loop-vol.invariant.more
