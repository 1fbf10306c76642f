-- `none`: of no volume.
use Rattle.std.proofs.Common.{Bool, true, false}
use Rattle.std.proofs.lemmas.List.{get_or-replicate}
use Rattle.vx_model.specs.declared.limits.TheConstants.{MOST_VOLUMES}
use Rattle.vx_logimport.proofs.NoneLemmas.{none_rests}
use Rattle.vx_logimport.proofs.rested.Rested.none.Goals as goal

pub returns-clause-none : goal.returns-clause-none
returns-clause-none c = record { alike = none_rests; maps = none_rests }

pub returns-clause-drls : goal.returns-clause-drls
returns-clause-drls c = λ v lt. get_or-replicate {A = Bool} MOST_VOLUMES v true false lt
