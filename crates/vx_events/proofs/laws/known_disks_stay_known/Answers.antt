-- The clause is its theorem.
use Rattle.vx_events.proofs.KnownLaws.{group_known}
use Rattle.vx_events.proofs.laws.known_disks_stay_known.Goals as goal

pub returns : goal.returns
returns c = group_known (Unit {0}) tt
