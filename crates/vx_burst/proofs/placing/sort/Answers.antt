-- `sort`: its result.
use Rattle.std.proofs.Common.{rules}
use Rattle.std.proofs.lemmas.List.Sorted.{IsNonDecreasingBy-from_sort_by_key}
use Rattle.vx_burst.specs.declared.placing.Spot.{Spot}
use Rattle.vx_burst.proofs.placing.sort.Goals as goal

pub returns : goal.returns
returns c = (c.sort_unstable_by_key.ensures.permutation, IsNonDecreasingBy-from_sort_by_key (λ (s : Spot). s.place) c.sort_unstable_by_key.new.self.items c.sort_unstable_by_key.ensures.sorted (λ a r q k. search rules))
