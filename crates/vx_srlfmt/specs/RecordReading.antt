-- What stands in the places of a record header's fields, whether or not the block is one.
use Rattle.std.specs.Prelude.{ℕ, List}
use Rattle.vx_wire.specs.Numbers.{number_at}
use Rattle.vx_wire.specs.Places.{cut}
use Rattle.vx_srlfmt.specs.HeaderReading.{line_at}
use Rattle.vx_srlfmt.specs.declared.record.RecordHead.{RecordHead}

unfoldable pub head_in : List ℕ → RecordHead
head_in block = record {
  incarnation = number_at 8 8 block;
  run = number_at 8 16 block;
  line = line_at 24 block;
  number = number_at 8 36 block;
  vol = number_at 4 44 block;
  block = number_at 8 48 block;
  count = number_at 4 56 block;
  digest = cut 60 32 block;
  firsts = cut 92 16 block;
}
