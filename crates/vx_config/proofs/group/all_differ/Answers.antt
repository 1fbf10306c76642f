-- `all_differ`: its result; what stays true in its loop over `i`.
use Rattle.vx_config.specs.Checks.{other_than}
use Rattle.vx_config.proofs.PairLemmas.{pairwise-more, pairwise-over, pairwise-all}
use Rattle.vx_config.proofs.group.all_differ.Goals as goal

pub returns-then-not-is_other : goal.returns-then-not-is_other
returns-then-not-is_other c = pairwise-over other_than c.args.numbers.now c.loop-i.i 0 c.loop-i-test.true c.if-not-is_other.ensures c.loop-i.invariant

pub loop-i-preserved : goal.loop-i-preserved
loop-i-preserved c = pairwise-more other_than c.args.numbers.now c.loop-i.i 0 c.loop-i-test.true c.if-not-is_other.ensures c.loop-i.invariant

pub returns : goal.returns
returns c = pairwise-all other_than c.args.numbers.now c.loop-i.i c.loop-i-test.false c.loop-i.invariant
