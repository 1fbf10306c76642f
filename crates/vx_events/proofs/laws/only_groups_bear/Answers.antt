-- The clause is its theorem.
use Rattle.vx_events.proofs.Bearing.{none_borne}
use Rattle.vx_events.proofs.laws.only_groups_bear.Goals as goal

pub returns : goal.returns
returns c = none_borne
