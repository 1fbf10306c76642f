-- `read_front`: clauses shows, sees and spends.
use Rattle.std.proofs.Common.{arith}
use Rattle.vx_ringio.proofs.Seeing.{front_shows, one_read}
use Rattle.vx_disk.proofs.Spending.{spends_read}
use Rattle.vx_ringio.proofs.reads.read_front.Goals as goal

pub returns-clause-shows : goal.returns-clause-shows
returns-clause-shows g c = front_shows _ c.args.ring c.args.place _ _ _ (omega arith) c.requires.some c.in_ok-read.ensures.ok c.get_record.ensures.seen

pub returns-clause-sees : goal.returns-clause-sees
returns-clause-sees g c = λ tells. record { bytes = c.read.new.into; read = one_read _ _ _ _ (omega arith) c.in_ok-read.ensures.ok tells; is = c.get_record.ensures.seen }

pub returns-in_err-read-clause-spends : goal.returns-in_err-read-clause-spends
returns-in_err-read-clause-spends g c = spends_read _ _ c.read.ensures.goes c.read.ensures.down c.read.ensures.disks

pub returns-clause-spends : goal.returns-clause-spends
returns-clause-spends g c = spends_read _ _ c.read.ensures.goes c.read.ensures.down c.read.ensures.disks
