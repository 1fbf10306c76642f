-- The loop of `subdisks_of`: what stays true.
use Rattle.std.proofs.Common.{◌≡◌, ◌-◌, length}
use Rattle.vx_config.specs.Forms.{read_many}
use Rattle.vx_config.specs.Table.{subdisk}
use Rattle.vx_config.proofs.ManyLemmas.{with_front}
use Rattle.vx_config.proofs.reading.subdisks_of.Given as goal

abbrev pub invariant-loop : goal.invariant-loop
invariant-loop l = record {
  so_far : with_front l.subdisks (read_many subdisk (l.count - l.counter) l.cursor.left.now) ≡ read_many subdisk l.count l.fn.cursor.left.now;
  len : length l.subdisks ≡ l.counter;
}
