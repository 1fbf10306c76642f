-- `consistent_at_the_end`: clauses becomes, begins, stores and ignored.
use Rattle.vx_replay.proofs.Comes.{becomes-consistent, begins-later, ignored-keeps, stores-its-own}
use Rattle.vx_replay.proofs.laws.consistent_at_the_end.Goals as goal

pub returns-clause-becomes : goal.returns-clause-becomes
returns-clause-becomes c = becomes-consistent

pub returns-clause-begins : goal.returns-clause-begins
returns-clause-begins c = begins-later

pub returns-clause-stores : goal.returns-clause-stores
returns-clause-stores c = stores-its-own

pub returns-clause-ignored : goal.returns-clause-ignored
returns-clause-ignored c = ignored-keeps
