-- `is_payload`: its result.
use Rattle.std.proofs.Common.{◌∙◌, sym}
use Rattle.vx_packet.proofs.Numbers.{not_both}
use Rattle.vx_packet.proofs.Runs.{equal-text, text-equal, runs-join, runs-first, runs-second}
use Rattle.vx_packet.proofs.reading.is_payload.Goals as goal

pub returns-then-begins : goal.returns-then-begins
returns-then-begins c = (
  λ yes.
      runs-join c.args.front.now c.args.bytes.now c.args.payload.now (equal-text c.eq-begins.result _ _ c.eq-begins.ensures c.if-begins.true) (equal-text c.eq-ends.result _ _ c.eq-ends.ensures yes),
  λ same. text-equal c.eq-ends.result _ _ c.eq-ends.ensures (runs-second c.args.front.now c.args.bytes.now c.args.payload.now same),
)

pub returns-else-begins : goal.returns-else-begins
returns-else-begins c = (
  λ yes. absurd (not_both (sym c.if-begins.false ∙ yes)),
  λ same. text-equal c.eq-begins.result _ _ c.eq-begins.ensures (runs-first c.args.front.now c.args.bytes.now c.args.payload.now same),
)
