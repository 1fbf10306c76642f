-- The log of a replicated volume group is begun.
use Rattle.std.proofs.Common.{subst}
use Rattle.vx_model.specs.declared.state.State.{State}
use Rattle.vx_ground.specs.Lifted.{laid_volumes}
use Rattle.vx_diskset.specs.Works.{DoesMake}
use Rattle.vx_diskset.proofs.MakeGroup.{first_spells}
use Rattle.vx_diskset.proofs.over_group.log_over.Goals as goal

pub work_over-requires-after_bounds : goal.work_over-requires-after_bounds
work_over-requires-after_bounds g c = λ κs lives. (c.requires.placed, c.requires.large, first_spells c.args.site c.first-state.result c.first-state.ensures)

pub returns-clause-does : goal.returns-clause-does
returns-clause-does g c = subst (λ (x : State). DoesMake c.args.units.now x (laid_volumes c.args.laid) (laid_volumes c.work_over.result.0) c.work_over.result.1) c.first-state.ensures c.work_over.ensures.does

pub returns-clause-ground : goal.returns-clause-ground
returns-clause-ground g c = c.work_over.ensures.ground

pub returns-clause-since : goal.returns-clause-since
returns-clause-since g c = c.work_over.ensures.since

pub returns-clause-told : goal.returns-clause-told
returns-clause-told g c = c.work_over.ensures.told
