-- `keeps_its_numbers`: clauses stored, updates and ignored.
use Rattle.vx_sender.proofs.Events.{stored-rises, updates-fit, ignored-keeps}
use Rattle.vx_sender.proofs.laws.keeps_its_numbers.Goals as goal

pub returns-clause-stored : goal.returns-clause-stored
returns-clause-stored c = stored-rises

pub returns-clause-updates : goal.returns-clause-updates
returns-clause-updates c = updates-fit

pub returns-clause-ignored : goal.returns-clause-ignored
returns-clause-ignored c = ignored-keeps
