-- `all_apart`: its result; what stays true in its loop over `i`.
use Rattle.vx_config.specs.Checks.{are_apart}
use Rattle.vx_config.proofs.PairLemmas.{pairwise-more, pairwise-over, pairwise-all}
use Rattle.vx_config.proofs.runs.all_apart.Goals as goal

pub returns-then-not-is_apart_from : goal.returns-then-not-is_apart_from
returns-then-not-is_apart_from c = pairwise-over are_apart c.args.runs.now c.loop-i.i _ c.loop-i-test.true c.if-not-is_apart_from.ensures c.loop-i.invariant

pub loop-i-preserved : goal.loop-i-preserved
loop-i-preserved c = pairwise-more are_apart c.args.runs.now c.loop-i.i _ c.loop-i-test.true c.if-not-is_apart_from.ensures c.loop-i.invariant

pub returns : goal.returns
returns c = pairwise-all are_apart c.args.runs.now c.loop-i.i c.loop-i-test.false c.loop-i.invariant
