-- The loop of `fills` over `subdisk`: what stays true.
use Rattle.std.proofs.Common.{◌≡◌, drop}
use Rattle.vx_config.specs.Checks.{fill}
use Rattle.vx_config.proofs.soundness.fills.Given as goal

abbrev pub invariant-loop-subdisk : goal.invariant-loop-subdisk
invariant-loop-subdisk l = fill l.column l.columns l.room (drop l.subdisk-index l.subdisks) ≡ fill l.column l.ncol l.column l.subdisks
