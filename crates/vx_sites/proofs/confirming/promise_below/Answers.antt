-- `promise_below`: its result; what stays true in its loop over `back`.
use Rattle.std.proofs.Common.{map}
use Rattle.vx_sites.specs.Shapes.{plain_promise, node_of, link_of, row_of}
use Rattle.vx_sites.proofs.Promising.{one_promised, all_promised}
use Rattle.vx_sites.proofs.confirming.promise_below.Goals as goal

pub loop-back-preserved : goal.loop-back-preserved
loop-back-preserved c =
    one_promised (node_of c.args.node.now) c.args.number (row_of c.args.links.now) c.args.sites c.loop-back.back (map plain_promise c.loop-back.promised.items) (map plain_promise c.promise_one.new.promised.items) _
    (link_of c.link_in.result) c.loop-back-test.true c.link_in.ensures c.in_ok-promise_one.ensures c.loop-back.invariant

pub returns : goal.returns
returns c =
    all_promised (node_of c.args.node.now) c.args.number (row_of c.args.links.now) c.args.sites c.loop-back.back (map plain_promise c.loop-back.promised.items) _ c.loop-back-test.false c.loop-back.invariant
