-- `put_front`: clauses few and written; what `put` asks.
use Rattle.std.proofs.Common.{arith, ◌∙◌, ap, take}
use Rattle.std.proofs.lemmas.List.{take_at}
use Rattle.vx_wire.specs.Fields.{spelled}
use Rattle.vx_wire.specs.Places.{put_at}
use Rattle.vx_packet.specs.Rows.{numbers_list}
use Rattle.vx_packet.proofs.RowLemmas.{length-numbers}
use Rattle.vx_packet.proofs.row.put_front.Goals as goal

pub put-requires : goal.put-requires
put-requires c = omega (arith, length-numbers c.args.numbers)

pub returns-clause-few : goal.returns-clause-few
returns-clause-few c = omega (arith, length-numbers c.args.numbers)

pub returns-clause-written : goal.returns-clause-written
unfolding put_at
returns-clause-written c =
    ap (take c.put.result) c.put.ensures.written ∙ take_at (spelled (numbers_list c.args.numbers)) _ c.put.result (omega arith)
