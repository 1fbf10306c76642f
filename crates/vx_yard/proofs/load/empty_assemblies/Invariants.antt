-- The loop of `empty_assemblies` over `k`: what stays true.
use Rattle.std.proofs.Common.{◌≡◌, length}
use Rattle.std.specs.Prelude.{All, None}
use Rattle.vx_yard.proofs.load.empty_assemblies.Given as goal

abbrev pub invariant-loop-k : goal.invariant-loop-k
invariant-loop-k l = record {
  many : length l.assemblies.items ≡ l.k;
  none : All (λ a. a.held ≡ None) l.assemblies.items;
}
