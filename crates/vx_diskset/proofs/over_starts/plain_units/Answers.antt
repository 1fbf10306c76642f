-- A group that came up of a site that had no replicated volume group, with the one that it has.
use Rattle.std.proofs.Common.{◌∙◌, ap, subst, sym}
use Rattle.vx_diskset.specs.OverStarts.{PlainUnits}
use Rattle.vx_diskset.proofs.OverStarting.{plain_units_none}
use Rattle.vx_diskset.proofs.UnitsLie.{laid_large, laid_placed}
use Rattle.vx_diskset.proofs.over_starts.plain_units.Goals as goal

pub start_found-requires-clause-there : goal.start_found-requires-clause-there
start_found-requires-clause-there g c = λ κs lives. laid_placed c.args.laid c.in-Some.units (sym (ap (λ k. k.rvg) c.config.ensures) ∙ sym c.units_in.ensures ∙ c.in-Some.is)

pub start_found-requires-clause-large : goal.start_found-requires-clause-large
start_found-requires-clause-large g c = λ κs lives. laid_large c.args.laid c.in-Some.units (sym (ap (λ k. k.rvg) c.config.ensures) ∙ sym c.units_in.ensures ∙ c.in-Some.is)

pub returns-in-Some : goal.returns-in-Some
returns-in-Some g c = record {
  over = subst (λ o. PlainUnits c.args.away c.args.rested o c.args.laid c.args.cut c.start_found.result.0 c.start_found.result.1) (sym c.in-Some.is ∙ c.units_in.ensures ∙ ap (λ k. k.rvg) c.config.ensures) c.start_found.ensures.starts;
}

pub returns-in-None : goal.returns-in-None
returns-in-None g c = record { over = plain_units_none c.args.away c.args.rested c.args.laid.core.inner.config.rvg c.args.laid c.args.cut (sym (ap (λ k. k.rvg) c.config.ensures) ∙ sym c.units_in.ensures ∙ c.in-None.is) }
