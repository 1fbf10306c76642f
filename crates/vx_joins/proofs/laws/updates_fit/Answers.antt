-- `updates_fit`: clauses fit and one.
use Rattle.vx_joins.proofs.UpdatesFit.{are_one, update_fits}
use Rattle.vx_joins.proofs.laws.updates_fit.Goals as goal

pub returns-clause-fit : goal.returns-clause-fit
returns-clause-fit c = update_fits

pub returns-clause-one : goal.returns-clause-one
returns-clause-one c = are_one
