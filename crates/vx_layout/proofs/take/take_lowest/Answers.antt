-- `take_lowest`: its result; what `next_gap-gap` asks; what stays true in its loop over `left`.
use Rattle.std.proofs.Common.{arith}
use Rattle.vx_layout.proofs.Takes.{before_end, gap_some, take_end, take_more, take_start}
use Rattle.vx_layout.proofs.take.take_lowest.Goals as goal

pub loop-left-init : goal.loop-left-init
loop-left-init c = take_start c.args.used.now c.args.disk c.args.end c.args.wanted c.args.found.now.items c.requires

pub next_gap-gap-requires : goal.next_gap-gap-requires
next_gap-gap-requires c = before_end c.args.used.now c.args.disk c.args.end c.args.wanted c.loop-left.block c.loop-left.left c.args.found.now.items c.loop-left.found.items (omega arith) c.loop-left.invariant

pub loop-left-smaller : goal.loop-left-smaller
loop-left-smaller c =
    let some = gap_some c.args.used.now c.args.disk c.args.end c.args.wanted c.loop-left.block c.loop-left.left c.min-blocks.result c.args.found.now.items c.loop-left.found.items c.next_gap-gap.result (omega arith) c.loop-left.invariant c.next_gap-gap.ensures c.min-blocks.ensures in
    omega (arith, some, c.loop-left-test.true, c.min-blocks.ensures)

pub loop-left-preserved : goal.loop-left-preserved
loop-left-preserved c = take_more c.args.used.now c.args.disk c.args.end c.args.wanted c.loop-left.block c.loop-left.left c.min-blocks.result c.args.found.now.items c.loop-left.found.items c.push.new.self.items c.next_gap-gap.result (omega arith) c.loop-left.invariant c.next_gap-gap.ensures c.min-blocks.ensures c.in_ok-push.ensures.items

pub returns : goal.returns
returns c = take_end c.args.used.now c.args.disk c.args.end c.args.wanted c.loop-left.block c.loop-left.left c.args.found.now.items c.loop-left.found.items (omega (arith, c.loop-left-test.false)) c.loop-left.invariant
