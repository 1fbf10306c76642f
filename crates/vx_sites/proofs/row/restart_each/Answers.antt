-- `restart_each`: its result; what stays true in its loop over `to`.
use Rattle.std.proofs.Common.{◌≡◌, ℕ, ◌<◌, length, arith, refl, ◌∙◌}
use Rattle.std.proofs.lemmas.List.{length-set}
use Rattle.vx_history.specs.World.{Link, Node}
use Rattle.vx_history.specs.Events.{restarted_link}
use Rattle.vx_sites.proofs.Each.{each_step, each_done}
use Rattle.vx_sites.proofs.row.restart_each.Goals as goal

pub loop-to-preserved : goal.loop-to-preserved
loop-to-preserved c =
    let below : c.loop-to.to < length c.loop-to.links.items = omega (arith, c.loop-to.invariant.1) in (
      λ (n : Node). each_step (λ (k : ℕ) (link : Link). restarted_link n k link) c.args.links.now.items c.loop-to.links.items c.loop-to.to c.index.result.now c.restart.result below c.index.ensures (c.restart.ensures n c.loop-to.to) (c.loop-to.invariant.0 n),
      length-set c.loop-to.links.items c.loop-to.to c.restart.result ∙ c.loop-to.invariant.1,
    )

pub returns : goal.returns
returns c =
    let all : c.loop-to.to ≡ length c.args.links.now.items = omega (arith, c.len-to-end.ensures, c.args.links.now.ok.0) in
    λ (n : Node). each_done (λ (k : ℕ) (link : Link). restarted_link n k link) c.args.links.now.items c.loop-to.links.items c.loop-to.to all (λ k. refl) (c.loop-to.invariant.0 n)
