-- `brought`: what `import` asks.
use Rattle.vx_loggroup_rows.proofs.refuses.brought.Goals as goal

pub import-requires : goal.import-requires
import-requires c = record {
  can = record {
    base = λ i x each is. absurd (each 0 0);
    one = λ i j R x each_i each_j is. absurd (each_i 0 0);
    plain = λ i R x each is. absurd (each 0 0);
  };
}
