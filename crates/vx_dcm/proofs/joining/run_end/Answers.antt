-- The run of regions that bytes have.
use Rattle.std.proofs.Common.{◌≡◌, ◌∙◌, ⊎_elim, ℕ, true, arith, sym, subst}
use Rattle.std.proofs.lemmas.Bool.{cases_lt}
use Rattle.vx_bitmap.specs.Bits.{is_marked}
use Rattle.vx_dcm.proofs.joining.run_end.Goals as goal

pub loop-region-init : goal.loop-region-init
loop-region-init c = λ q low high. absurd (omega (arith, low, high))

pub loop-region-preserved : goal.loop-region-preserved
loop-region-preserved c = λ q low high.
    ⊎_elim
    (λ less. c.loop-region.invariant q low less)
    (λ past. subst (λ (r : ℕ). is_marked c.args.bytes.now r ≡ true) (let e : c.loop-region.region ≡ q = omega (arith, high, past) in e) (sym c.has_region_bit.ensures ∙ c.if-not-has_region_bit.false))
    (cases_lt q c.loop-region.region)
