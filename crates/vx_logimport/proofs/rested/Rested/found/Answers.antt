-- `found`: of each volume.
use Rattle.std.proofs.Common.{Bool, true, false}
use Rattle.std.proofs.lemmas.List.{get_or-replicate}
use Rattle.vx_model.specs.declared.limits.TheConstants.{MOST_VOLUMES}
use Rattle.vx_logimport.proofs.rested.Rested.found.Goals as goal

pub returns-clause-alike : goal.returns-clause-alike
returns-clause-alike c = λ v lt. get_or-replicate {A = Bool} MOST_VOLUMES v true false lt

pub returns-clause-drls : goal.returns-clause-drls
returns-clause-drls c = λ v lt. get_or-replicate {A = Bool} MOST_VOLUMES v true false lt
