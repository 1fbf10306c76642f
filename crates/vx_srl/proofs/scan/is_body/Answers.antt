-- `is_body`: its result.
use Rattle.std.proofs.Common.{arith, refl}
use Rattle.vx_srl.proofs.ScanBodies.{are_bodies, byte_of_body}
use Rattle.vx_srl.proofs.scan.is_body.Goals as goal

pub returns-then-bytes-at-ne66 : goal.returns-then-bytes-at-ne66
returns-then-bytes-at-ne66 c = ((λ no. cc), (λ bodies. absurd (c.if-bytes-at-ne66.true (byte_of_body _ _ bodies c.loop-k.k (omega arith)))))

pub returns : goal.returns
returns c = ((λ yes. are_bodies _ c.args.bytes.now (λ k low. c.loop-k.invariant k (omega arith))), (λ bodies. refl))
