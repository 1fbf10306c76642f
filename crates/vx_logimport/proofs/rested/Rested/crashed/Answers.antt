-- `crashed`: of no volume the maps.
use Rattle.vx_logimport.proofs.NoneLemmas.{none_rests}
use Rattle.vx_logimport.proofs.rested.Rested.crashed.Goals as goal

pub returns-clause-maps : goal.returns-clause-maps
returns-clause-maps c = none_rests
