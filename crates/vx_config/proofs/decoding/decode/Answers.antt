-- `decode`: clauses found, only and stop; that no number grows too large.
use Rattle.std.proofs.Common.{arith}
use Rattle.vx_config.proofs.DecodeLemmas.{rest-shorter, read-spelled, read-same, none-read, stops-read}
use Rattle.vx_config.proofs.decoding.decode.Goals as goal

pub overflow_sub-result : goal.overflow_sub-result
overflow_sub-result c = rest-shorter c.args.bytes.now c.in-Ok.config c.read_config.new.cursor.left.now (λ i. omega (arith, c.type_inv.bytes i)) c.in-Ok.ensures

pub returns-in-Ok-clause-found : goal.returns-in-Ok-clause-found
returns-in-Ok-clause-found c = read-spelled c.args.bytes.now c.in-Ok.config c.read_config.new.cursor.left.now (λ i. omega (arith, c.type_inv.bytes i)) c.in-Ok.ensures

pub returns-in-Ok-clause-only : goal.returns-in-Ok-clause-only
returns-in-Ok-clause-only c = λ d rest has is. read-same c.args.bytes.now c.in-Ok.config d c.read_config.new.cursor.left.now rest c.in-Ok.ensures has is

pub returns-in-Err-clause-only : goal.returns-in-Err-clause-only
returns-in-Err-clause-only c = rw c.stop_of.ensures (none-read c.args.bytes.now c.read_config.new.cursor.left.now c.in-Err.wrong c.in-Err.ensures)

pub returns-in-Err-clause-stop : goal.returns-in-Err-clause-stop
returns-in-Err-clause-stop c = rw c.stop_of.ensures (stops-read c.args.bytes.now c.read_config.new.cursor.left.now c.in-Err.wrong (λ i. omega (arith, c.type_inv.bytes i)) c.in-Err.ensures)
