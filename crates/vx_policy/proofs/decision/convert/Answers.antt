-- The link that was read is the one before those that were passed.
use Rattle.std.proofs.Common.{◌≡◌, ℕ, ◌+◌, ◌-◌, ◌<◌, length, arith}
use Rattle.vx_policy.proofs.Rest.{bits-on, bits-none, bits-next}
use Rattle.vx_policy.specs.Verdicts.{goes_stale, goes_dcm}
use Rattle.vx_policy.proofs.decision.convert.Goals as goal

pub loop-back-init : goal.loop-back-init
loop-back-init c =
    record {
      stale = bits-none goes_stale _ _ c.args.links.now _ _ (omega arith);
      dcm = bits-none goes_dcm _ _ c.args.links.now _ _ (omega arith);
      few_stale = omega arith;
      few_dcm = omega arith;
    }

pub loop-back-preserved : goal.loop-back-preserved
loop-back-preserved c =
    let count : ℕ = length c.args.links.now in
    let back : ℕ = c.loop-back.back in
    let below : back < count = c.loop-back-test.true in
    let place : count - (back + 1) ≡ count - 1 - back = omega arith in
    let next : count - back ≡ count - 1 - back + 1 = omega (arith, below) in
    let there : count - 1 - back < count = omega (arith, below) in
    let known : count - 1 - back < length c.args.facts.now.used = omega (arith, below, c.requires.few, c.type_inv.facts) in
    record {
      stale = bits-on goes_stale _ _ _ _ _ _ _ _ _ _ _ _ place next there known c.loop-back.invariant.stale c.find_change-change.ensures c.stale_bit.ensures;
      dcm = bits-on goes_dcm _ _ _ _ _ _ _ _ _ _ _ _ place next there known c.loop-back.invariant.dcm c.find_change-change.ensures c.dcm_bit.ensures;
      few_stale = rw c.stale_bit.ensures (bits-next _ _ (goes_stale c.find_change-change.result) c.loop-back.invariant.few_stale);
      few_dcm = rw c.dcm_bit.ensures (bits-next _ _ (goes_dcm c.find_change-change.result) c.loop-back.invariant.few_dcm);
    }
