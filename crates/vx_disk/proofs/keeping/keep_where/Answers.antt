-- `keep_where`: clauses here and elsewhere.
use Rattle.std.proofs.Common.{◌≡◌, ℕ, Bool, true, cond, List, ◌∙◌, ap, arith}
use Rattle.vx_disk.specs.Blocks.{block_at}
use Rattle.vx_disk.proofs.Blocks.{block-over_same, block-over_other, length-block_at}
use Rattle.vx_disk.proofs.keeping.keep_where.Goals as goal

chosen : (loose : Bool) (y z : List ℕ) → loose ≡ true → y ≡ cond loose y z
chosen loose y z is = rw is

pub returns-then-loose-clause-here : goal.returns-then-loose-clause-here
returns-then-loose-clause-here c =
    ap (λ s. block_at s c.args.b) c.keep_block.ensures
    ∙ block-over_same _ _ c.args.b (length-block_at _ _ c.requires.in_latest) (omega (arith, c.requires.in_stable))
    ∙ chosen _ _ _ c.if-loose.true

pub returns-then-loose-clause-elsewhere : goal.returns-then-loose-clause-elsewhere
returns-then-loose-clause-elsewhere c = λ k other.
    ap (λ s. block_at s k) c.keep_block.ensures
    ∙ block-over_other _ _ c.args.b k (length-block_at _ _ c.requires.in_latest) (omega (arith, c.requires.in_stable)) other
