-- What each event of a receiver leaves of its numbers and its mark.
use Rattle.std.proofs.Common.{◌≡◌, ℕ, ◌+◌, ◌-◌, ◌≤◌, true, arith, refl}
use Rattle.vx_history.specs.Receiving.{received_step, is_log_phase}
use Rattle.vx_history.specs.declared.receiver.RState.{RState}
use Rattle.vx_history.specs.declared.receiver.REvent.{REvent}
use Rattle.vx_history.specs.declared.receiver.REvent.TheVariants.{Update, Applied, Restart}
use Rattle.vx_history.specs.declared.receiver.RAction.TheVariants.{Ignored, IgnoredAck, Take}
use Rattle.vx_model.specs.declared.limits.TheConstants.{MOST_WAITING}
use Rattle.vx_model.specs.declared.site.Mark.TheVariants.{Consistent, Inconsistent}
use Rattle.vx_model.specs.declared.site.SPhase.{SPhase}
use Rattle.vx_model.specs.declared.site.SPhase.TheVariants.{Quiet, Regions, Log, ForkKept}

pub takes-next : (s : RState) (e : REvent) (number : ℕ) → (received_step s e).action ≡ Take number
    → (number ≡ s.last + 1) × ((received_step s e).state.last ≡ number)
takes-next s (Update line n) number h = grind (arith, h)
takes-next s (Applied count) number h = grind (arith, h)
takes-next s (Restart last session) number h = grind (arith, h)

pub few-wait : (s : RState) (e : REvent) → s.waiting ≤ MOST_WAITING → (received_step s e).state.waiting ≤ MOST_WAITING
few-wait s (Update line n) h = grind (arith, h)
few-wait s (Applied count) h = grind (arith, h)
few-wait s (Restart last session) h = grind (arith, h)

in-log : (p : SPhase) → is_log_phase p ≡ true → p ≡ Log
in-log Quiet h = grind (arith, h)
in-log Regions h = grind (arith, h)
in-log Log h = refl
in-log ForkKept h = grind (arith, h)

pub becomes-consistent : (s : RState) (e : REvent) → s.mark ≡ Inconsistent → (received_step s e).state.mark ≡ Consistent
    → (s.phase ≡ Log) × (s.end ≤ (received_step s e).state.last - (received_step s e).state.waiting)
becomes-consistent s (Update line n) was is = grind (arith, was, is)
becomes-consistent s (Applied count) was is = grind (arith, was, is, in-log)
becomes-consistent s (Restart last session) was is = grind (arith, was, is, in-log)

pub stays-consistent : (s : RState) (e : REvent) → s.mark ≡ Consistent → (received_step s e).state.mark ≡ Consistent
stays-consistent s (Update line n) h = grind (arith, h)
stays-consistent s (Applied count) h = grind (arith, h)
stays-consistent s (Restart last session) h = grind (arith, h)

pub ignored-keeps : (s : RState) (e : REvent) → (received_step s e).action ≡ Ignored → (received_step s e).state ≡ s
ignored-keeps s (Update line n) h = grind (arith, h)
ignored-keeps s (Applied count) h = grind (arith, h)
ignored-keeps s (Restart last session) h = grind (arith, h)

pub answers-again : (s : RState) (e : REvent) (number : ℕ) → (received_step s e).action ≡ IgnoredAck number
    → ((received_step s e).state ≡ s) × (number ≡ s.last)
answers-again s (Update line n) number h = grind (arith, h)
answers-again s (Applied count) number h = grind (arith, h)
answers-again s (Restart last session) number h = grind (arith, h)
