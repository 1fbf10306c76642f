-- `read_top`: clauses sees and spends.
use Rattle.std.proofs.Common.{arith}
use Rattle.vx_ringio.proofs.Seeing.{one_read}
use Rattle.vx_disk.proofs.Spending.{spends_read}
use Rattle.vx_ringio.proofs.reads.read_top.Goals as goal

pub returns-clause-sees : goal.returns-clause-sees
returns-clause-sees g c = λ tells. record { bytes = c.read.new.into; read = one_read _ _ _ _ (omega arith) c.in_ok-read.ensures.ok tells; is = c.top_of.ensures.is }

pub returns-in_err-read-clause-spends : goal.returns-in_err-read-clause-spends
returns-in_err-read-clause-spends g c = spends_read _ _ c.read.ensures.goes c.read.ensures.down c.read.ensures.disks

pub returns-clause-spends : goal.returns-clause-spends
returns-clause-spends g c = spends_read _ _ c.read.ensures.goes c.read.ensures.down c.read.ensures.disks
