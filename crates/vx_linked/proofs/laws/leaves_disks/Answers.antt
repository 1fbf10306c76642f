-- `leaves_disks`: its result.
use Rattle.vx_linked.proofs.Leaving.{connect_leaves, cut_leaves, pause_leaves, pump_leaves, resume_leaves, tick_leaves, wait_leaves}
use Rattle.vx_linked.proofs.laws.leaves_disks.Goals as goal

pub returns : goal.returns
returns c = record { connect = connect_leaves; cut = cut_leaves; pause = pause_leaves; pump = pump_leaves; resume = resume_leaves; tick = tick_leaves; wait = wait_leaves }
