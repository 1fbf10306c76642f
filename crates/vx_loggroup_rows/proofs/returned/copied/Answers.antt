-- `copied`: what `import` asks.
use Rattle.vx_logimport.proofs.TellLemmas.{untold_tells}
use Rattle.vx_loggroup_rows.proofs.returned.copied.Goals as goal

pub import-requires-clause-can : goal.import-requires-clause-can
import-requires-clause-can c = record {
  base = λ i x each is. absurd (each 0 0);
  one = λ i j R x each_i each_j is. absurd (each_i 0 0);
  plain = λ i R x each is. absurd (each 0 0);
}

pub import-requires-clause-tells : goal.import-requires-clause-tells
import-requires-clause-tells c = untold_tells _ _ (λ i each. each 0 0)
