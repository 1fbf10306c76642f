-- The loop of `is_taken` over `site`: what stays true.
use Rattle.std.proofs.Common.{◌≡◌}
use Rattle.std.specs.Prelude.{bytes_eq}
use Rattle.vx_history.specs.Refusals.{some_below}
use Rattle.vx_sites.specs.Shapes.{world_of}
use Rattle.vx_sites.proofs.bounds.is_taken.Given as goal

abbrev pub invariant-loop-site : goal.invariant-loop-site
invariant-loop-site l = l.taken ≡ some_below l.site (λ k. bytes_eq ((world_of l.world).nodes k).name l.name)
