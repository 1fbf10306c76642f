-- Each clause is its theorem.
use Rattle.vx_world.proofs.RoomLines.{line_room, quiet_alike}
use Rattle.vx_world.proofs.laws.keeps_data_volumes.Goals as goal

pub returns : goal.returns
returns c = record { line = line_room; begins = quiet_alike }
