-- Each clause is its theorem.
use Rattle.vx_settling.proofs.Ends.{connect_done, pump_done, stays_can, tick_done}
use Rattle.vx_settling.proofs.ends_laws.settling_goes_on.Goals as goal

pub returns : goal.returns
returns c = record { connect = connect_done; tick = tick_done; pump = pump_done; can = stays_can }
