-- By what each site notes of its group.
use Rattle.vx_settling.proofs.NoGroups.{no_open, step_none, step_stays}
use Rattle.vx_settling.proofs.note_laws.without_groups_none_come.Goals as goal

pub returns : goal.returns
returns c = record {
  none = λ files d line fails said new b calm makes rvgs step. step_none d b calm fails said new files line makes rvgs step;
  calm = λ files d line fails said new b calm step. step_stays d b calm fails said new files line step;
  closed = λ d b. no_open d b;
}
