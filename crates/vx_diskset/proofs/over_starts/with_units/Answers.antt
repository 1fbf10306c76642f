-- A group that came up, with its replicated volume group where it has one.
use Rattle.std.proofs.Common.{◌∙◌, ap, subst, sym}
use Rattle.vx_diskset.specs.OverStarts.{WithUnits}
use Rattle.vx_diskset.proofs.OverStarting.{units_none}
use Rattle.vx_diskset.proofs.UnitsLie.{laid_large, laid_placed}
use Rattle.vx_diskset.proofs.over_starts.with_units.Goals as goal

pub start_over-requires-clause-there : goal.start_over-requires-clause-there
start_over-requires-clause-there g c = λ κs lives. laid_placed c.args.laid c.in-Some.units (sym (ap (λ k. k.rvg) c.config.ensures) ∙ sym c.units_in.ensures ∙ c.in-Some.is)

pub start_over-requires-clause-large : goal.start_over-requires-clause-large
start_over-requires-clause-large g c = λ κs lives. laid_large c.args.laid c.in-Some.units (sym (ap (λ k. k.rvg) c.config.ensures) ∙ sym c.units_in.ensures ∙ c.in-Some.is)

pub returns-in-Some : goal.returns-in-Some
returns-in-Some g c = record {
  over = subst (λ o. WithUnits c.args.away o c.args.laid c.args.cut c.start_over.result.0 c.start_over.result.1) (sym c.in-Some.is ∙ c.units_in.ensures ∙ ap (λ k. k.rvg) c.config.ensures) c.start_over.ensures.starts;
}

pub returns-in-None : goal.returns-in-None
returns-in-None g c = record { over = units_none c.args.away c.args.laid.core.inner.config.rvg c.args.laid c.args.cut (sym (ap (λ k. k.rvg) c.config.ensures) ∙ sym c.units_in.ensures ∙ c.in-None.is) }
