-- `is_member`: its result.
use Rattle.std.proofs.Common.{arith, inl, inr}
use Rattle.std.proofs.lemmas.Bool.{cases_lt}
use Rattle.vx_copyio.proofs.Spreading.{member_bit}
use Rattle.vx_copyio.proofs.spread.is_member.Goals as goal

pub returns : goal.returns
returns c = member_bit c.args.set c.args.disk c.min.result (omega arith) (elim (cases_lt 63 c.args.disk) [
  | inl high ↦ inr (omega (arith, c.min.ensures, high), high)
  | inr low ↦ inl (omega (arith, c.min.ensures, low))
])
