-- `get_u32`: clauses number and spelled.
use Rattle.std.proofs.Common.{arith, ◌≡◌, ◌∙◌, ap}
use Rattle.vx_wire.specs.Numbers.{be_bytes, number_at}
use Rattle.vx_wire.proofs.NumberLemmas.{number_at-spelled, number_at-is}
use Rattle.vx_wire.proofs.number.get_u32.Goals as goal

pub returns-clause-number : goal.returns-clause-number
returns-clause-number c = number_at-is 4 c.args.at _ c.args.bytes.now _ (omega arith) c.read_u32.ensures

pub returns-clause-spelled : goal.returns-clause-spelled
returns-clause-spelled c =
    let is : c.read_u32.result ≡ number_at 4 c.args.at c.args.bytes.now = number_at-is 4 c.args.at _ c.args.bytes.now _ (omega arith) c.read_u32.ensures in
    ap (be_bytes 4) is ∙ number_at-spelled 4 c.args.at c.args.bytes.now (λ i. omega (arith, c.type_inv.bytes i)) (omega arith)
