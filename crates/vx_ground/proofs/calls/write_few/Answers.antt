-- A write of a group, with the number of the disk that a failed one names.
use Rattle.vx_ground.proofs.calls.write_few.Goals as goal

pub returns-clause-goes : goal.returns-clause-goes
returns-clause-goes g c = c.write-answer.ensures.goes

pub returns-clause-ok : goal.returns-clause-ok
returns-clause-ok g c = c.write-answer.ensures.ok

pub returns-clause-cause : goal.returns-clause-cause
returns-clause-cause g c = c.write-answer.ensures.cause

pub returns-clause-names : goal.returns-clause-names
returns-clause-names g c = c.write-answer.ensures.names

pub returns-clause-works : goal.returns-clause-works
returns-clause-works g c = c.write-answer.ensures.works

pub returns-clause-disks : goal.returns-clause-disks
returns-clause-disks g c = c.write-answer.ensures.disks

pub returns-clause-loses : goal.returns-clause-loses
returns-clause-loses g c = c.write-answer.ensures.loses

pub returns-clause-trust : goal.returns-clause-trust
returns-clause-trust g c = c.write-answer.ensures.trust

pub returns-clause-finds : goal.returns-clause-finds
returns-clause-finds g c = c.write-answer.ensures.finds

pub returns-clause-few : goal.returns-clause-few
returns-clause-few g c = c.few_disk.ensures
