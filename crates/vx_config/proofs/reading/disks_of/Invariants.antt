-- The loop of `disks_of`: what stays true.
use Rattle.std.proofs.Common.{◌≡◌, ◌-◌, length}
use Rattle.vx_config.specs.Forms.{read_many}
use Rattle.vx_config.specs.Table.{disk}
use Rattle.vx_config.proofs.ManyLemmas.{with_front}
use Rattle.vx_config.proofs.reading.disks_of.Given as goal

abbrev pub invariant-loop : goal.invariant-loop
invariant-loop l = record {
  so_far : with_front l.disks (read_many disk (l.count - l.counter) l.cursor.left.now) ≡ read_many disk l.count l.fn.cursor.left.now;
  len : length l.disks ≡ l.counter;
}
