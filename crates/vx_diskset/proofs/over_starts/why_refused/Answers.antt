-- Why a start was refused.
use Rattle.std.proofs.Common.{◌≡◌, ◌∙◌, false, refl, sym, true}
use Rattle.vx_diskset.proofs.over_starts.why_refused.Goals as goal

pub returns-then-is_down-clause-off : goal.returns-then-is_down-clause-off
returns-then-is_down-clause-off g c = λ down. refl

pub returns-then-is_down-clause-up : goal.returns-then-is_down-clause-up
returns-then-is_down-clause-up g c = λ up. absurd (up (sym c.is_down.ensures ∙ c.if-is_down.true))

pub returns-else-is_down-clause-off : goal.returns-else-is_down-clause-off
returns-else-is_down-clause-off g c = λ down. absurd (let clash : true ≡ false = sym down ∙ sym c.is_down.ensures ∙ c.if-is_down.false in cc)

pub returns-else-is_down-clause-up : goal.returns-else-is_down-clause-up
returns-else-is_down-clause-up g c = λ up. refl
