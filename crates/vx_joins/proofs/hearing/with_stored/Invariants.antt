-- The loop of `with_stored` over `link`: what stays true.
use Rattle.std.proofs.Common.{◌≡◌, take}
use Rattle.vx_joins.specs.Hearings.{links_stored}
use Rattle.vx_joins.proofs.hearing.with_stored.Given as goal

abbrev pub invariant-loop-link : goal.invariant-loop-link
invariant-loop-link l = l.kept ≡ links_stored l.to l.stored (take l.link-index l.links)
