-- `get_u8`: clauses number and spelled.
use Rattle.std.proofs.Common.{arith, ◌∙◌, sym, ap}
use Rattle.vx_wire.specs.Numbers.{be_bytes}
use Rattle.vx_wire.proofs.NumberLemmas.{number_at-byte, number_at-spelled}
use Rattle.vx_wire.proofs.number.get_u8.Goals as goal

pub returns-clause-number : goal.returns-clause-number
returns-clause-number c = sym (number_at-byte c.args.at c.args.bytes.now)

pub returns-clause-spelled : goal.returns-clause-spelled
returns-clause-spelled c = ap (be_bytes 1) (sym (number_at-byte c.args.at c.args.bytes.now)) ∙ number_at-spelled 1 c.args.at c.args.bytes.now (λ i. omega (arith, c.type_inv.bytes i)) (omega arith)
