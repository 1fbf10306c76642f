-- `do_sizes_meet`: its result where the first site has volumes.
use Rattle.std.proofs.Common.{rules, ◌≡◌, ℕ, true, List, length}
use Rattle.std.specs.Prelude.{eqb, not}
use Rattle.vx_history.specs.Refusals.{agree}
use Rattle.vx_sites.specs.Shapes.{named_volumes}
use Rattle.vx_sites.proofs.Volumes.{meets_called}
use Rattle.vx_sites.proofs.bounds.do_sizes_meet.Goals as goal

pub returns-then-not-is_empty : goal.returns-then-not-is_empty
returns-then-not-is_empty c =
    let xs : List ℕ = c.args.here.now.volumes.items in
    let ys : List ℕ = c.args.there.now.volumes.items in
    let some : true ≡ not (eqb (length xs) 0) = search rules in
    let same : c.are_same.result ≡ agree (named_volumes 1 xs) (named_volumes 1 ys) = search rules in
    meets_called c.args.here.now.names.items c.args.there.now.names.items xs ys true c.are_same.result some same
