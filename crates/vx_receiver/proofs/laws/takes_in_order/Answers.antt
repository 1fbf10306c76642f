-- `takes_in_order`: clauses next, few, becomes, stays, ignored and again.
use Rattle.vx_receiver.proofs.Events.{takes-next, few-wait, becomes-consistent, stays-consistent, ignored-keeps, answers-again}
use Rattle.vx_receiver.proofs.laws.takes_in_order.Goals as goal

pub returns-clause-next : goal.returns-clause-next
returns-clause-next c = takes-next

pub returns-clause-few : goal.returns-clause-few
returns-clause-few c = few-wait

pub returns-clause-becomes : goal.returns-clause-becomes
returns-clause-becomes c = becomes-consistent

pub returns-clause-stays : goal.returns-clause-stays
returns-clause-stays c = stays-consistent

pub returns-clause-ignored : goal.returns-clause-ignored
returns-clause-ignored c = ignored-keeps

pub returns-clause-again : goal.returns-clause-again
returns-clause-again c = answers-again
