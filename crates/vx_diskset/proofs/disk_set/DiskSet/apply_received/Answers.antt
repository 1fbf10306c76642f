-- An apply of what waits, before the crash.
use Rattle.std.proofs.Common.{◌∙◌, ℕ, ap, sym, arith, subst}
use Rattle.std.specs.Prelude.{min}
use Rattle.vx_diskset.proofs.Blamed.{blamed_receiver}
use Rattle.vx_diskset.proofs.Reaching.{reached_full, reached_idle, reached_none_up, reached_up}
use Rattle.vx_rvg.specs.Groups.{has_numbers}
use Rattle.vx_diskset.specs.Received.{reached_by}
use Rattle.vx_diskset.proofs.HeadCalls.{called_received, reached_called}
use Rattle.vx_diskset.specs.Asked.{IsRawSet}
use Rattle.vx_diskset.proofs.LeavesNumbers.{has_them}
use Rattle.vx_diskset.proofs.disk_set.DiskSet.apply_received.Goals as goal

pub returns-in-Up-clause-applied : goal.returns-in-Up-clause-applied
returns-in-Up-clause-applied g c = λ beside n stands raw can. reached_none_up beside n c.args.count c.head-in-Up.result c.args.self.now c.in-Up.rvg c.in-Up.is c.head-in-Up.ensures stands can

pub returns-then-few-eq0-clause-applied : goal.returns-then-few-eq0-clause-applied
returns-then-few-eq0-clause-applied g c = λ beside n stands raw can.
    reached_idle beside n c.args.count c.min-few.result c.head.result c.args.self.now c.in-Receives.site c.in-Receives.is (c.min-few.ensures ∙ ap (λ (k : ℕ). min c.args.count k) (c.from.ensures ∙ c.len.ensures.is)) (omega (arith, c.if-few-eq0.true)) c.head.ensures stands can

pub returns-else-not-has_numbers-clause-applied : goal.returns-else-not-has_numbers-clause-applied
returns-else-not-has_numbers-clause-applied g c = λ beside n stands raw can.
    reached_up beside n c.args.count c.min-few.result c.args.self.now c.in-Receives.site _ c.apply_oldest.result c.in-Receives.is
    (c.min-few.ensures ∙ ap (λ (k : ℕ). min c.args.count k) (c.from.ensures ∙ c.len.ensures.is)) (omega (arith, c.if-few-eq0.false)) (λ r able. c.apply_oldest.ensures.reaches beside n r able) stands can

pub returns-then-not-has_numbers-clause-applied : goal.returns-then-not-has_numbers-clause-applied
returns-then-not-has_numbers-clause-applied g c = λ beside n stands raw can.
    reached_full beside n c.args.count c.min-few.result c.args.self.now c.in-Receives.site c.in-Receives.is
    (c.min-few.ensures ∙ ap (λ (k : ℕ). min c.args.count k) (c.from.ensures ∙ c.len.ensures.is))
    (ap (λ (k : ℕ). has_numbers c.in-Receives.site.rvg.core k) (sym c.from-in-Receives.ensures) ∙ sym c.has_numbers.ensures ∙ c.if-not-has_numbers.true) stands can

pub returns-in-Up-clause-brought : goal.returns-in-Up-clause-brought
returns-in-Up-clause-brought g c = λ beside n stands can is. absurd (cc)

pub returns-then-few-eq0-clause-brought : goal.returns-then-few-eq0-clause-brought
returns-then-few-eq0-clause-brought g c = λ beside n stands can is. absurd (cc)

pub apply_oldest-requires-clause-numbers : goal.apply_oldest-requires-clause-numbers
apply_oldest-requires-clause-numbers g c =
    has_them c.in-Receives.site.rvg.core c.min-few.result (ap (λ (k : ℕ). has_numbers c.in-Receives.site.rvg.core k) (sym c.from-in-Receives.ensures) ∙ sym c.has_numbers.ensures ∙ c.if-not-has_numbers.false)

pub returns-else-not-has_numbers-clause-called : goal.returns-else-not-has_numbers-clause-called
returns-else-not-has_numbers-clause-called g c = λ beside n stands.
    called_received (reached_by c.apply_oldest.result) beside n c.args.self.now c.in-Receives.site _ c.in-Receives.is stands
    (λ up. reached_called c.apply_oldest.result c.in-Receives.site.rvg c.apply_oldest.new.rvg up (c.apply_oldest.ensures.off up) c.apply_oldest.ensures.spends)

pub returns-else-not-has_numbers-clause-blames : goal.returns-else-not-has_numbers-clause-blames
returns-else-not-has_numbers-clause-blames g c = λ beside n stands.
    let is_rack = (g.met.R.Rack g.world.𝓛 g.world.𝓜 g.world.𝓡 ((λ s x. x), (λ x. x), (λ x. x), λ x. x)).rack in
    blamed_receiver c.apply_oldest.result beside n c.args.self.now c.in-Receives.site c.in-Receives.is stands (is_rack c.in-Receives.site.rvg.shelf) c.apply_oldest.ensures.blames

pub returns-in-Over-clause-applied : goal.returns-in-Over-clause-applied
returns-in-Over-clause-applied g c = λ beside n stands raw can. absurd (subst (λ e. IsRawSet e) c.in-Over.is raw)
