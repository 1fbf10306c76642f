-- `work_and_meet`: what the search does not find.
use denote.RattleType.{RattleType}
use denote.Param.Send.{IsSend, IsSync}
use denote.Param.{param}
use Rattle.vx_turn.specs.contracts.turn.Turn as turn
use Rattle.vx_burst_threads.proofs.Crossing.{turn_sync}
use Rattle.vx_burst_threads.proofs.threads.work_and_meet.Goals as goal

pub work_each-requires-sync-S : goal.work_each-requires-sync-S
work_each-requires-sync-S g c κs within = let e : IsSend (param 1 g.row.E) = c.type_bounds.send-E in
    let t : IsSync (turn.the_row (param 1 g.row.E) g.E.Engine) = turn_sync (param 1 g.row.E) g.E.Engine e in
    record { shared = t.shared }
