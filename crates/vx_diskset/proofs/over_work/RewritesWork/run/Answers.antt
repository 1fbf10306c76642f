-- Volumes that are written as they read, as a work.
use Rattle.vx_diskset.proofs.over_work.RewritesWork.run.Goals as goal

pub rewrite_each-answer-requires : goal.rewrite_each-answer-requires
rewrite_each-answer-requires g c = c.requires

pub returns : goal.returns
returns g c = c.rewrite_each-answer.ensures
