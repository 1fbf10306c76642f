-- `change_each`: its result; what stays true in its loop over `to`.
use Rattle.std.proofs.Common.{◌≡◌, ◌<◌, length, arith, refl, ◌∙◌}
use Rattle.std.proofs.lemmas.List.{length-set}
use Rattle.vx_history.specs.World.{no_regions}
use Rattle.vx_history.specs.Events.{link_after}
use Rattle.vx_sites.specs.Shapes.{node_of, with_map}
use Rattle.vx_sites.proofs.Each.{each_step, each_done}
use Rattle.vx_sites.proofs.row.change_each.Goals as goal

pub loop-to-preserved : goal.loop-to-preserved
loop-to-preserved c =
    let below : c.loop-to.to < length c.loop-to.links.items = omega (arith, c.loop-to.invariant.1) in (
      each_step (λ k l. with_map no_regions (link_after (node_of c.args.node.now) c.args.write.now k l)) c.args.links.now.items c.loop-to.links.items c.loop-to.to c.index.result.now c.change.result below c.index.ensures (c.change.ensures c.loop-to.to) (c.loop-to.invariant.0),
      length-set c.loop-to.links.items c.loop-to.to c.change.result ∙ c.loop-to.invariant.1,
    )

pub returns : goal.returns
returns c =
    let all : c.loop-to.to ≡ length c.args.links.now.items = omega (arith, c.len-to-end.ensures, c.args.links.now.ok.0) in
    each_done (λ k l. with_map no_regions (link_after (node_of c.args.node.now) c.args.write.now k l)) c.args.links.now.items c.loop-to.links.items c.loop-to.to all (λ k. refl) (c.loop-to.invariant.0)
