-- `brought`: what `import` asks.
use Rattle.vx_group_rows.proofs.UntoldLemmas.{untold_can}
use Rattle.vx_group_rows.proofs.imports.brought.Goals as goal

pub import-requires : goal.import-requires
import-requires c = record { can = untold_can _ (λ u b v left. left) }
