-- `numbers_are_spelled`: clauses spelled and read.
use Rattle.vx_wire.proofs.NumberLemmas.{be_bytes-number, number_at-be_bytes}
use Rattle.vx_wire.proofs.number.numbers_are_spelled.Goals as goal

pub returns-clause-spelled : goal.returns-clause-spelled
returns-clause-spelled c = be_bytes-number

pub returns-clause-read : goal.returns-clause-read
returns-clause-read c = number_at-be_bytes
