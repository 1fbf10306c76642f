-- What stands in the places of a header's fields, whether or not the bytes are a packet.
use Rattle.std.specs.Prelude.{ℕ, List}
use Rattle.vx_wire.specs.Numbers.{number_at}
use Rattle.vx_packet.specs.declared.part.Part.{Part}

unfoldable pub part_in : List ℕ → Part
part_in bytes = record {
  kind = number_at 1 5 bytes;
  source = number_at 4 6 bytes;
  target = number_at 4 10 bytes;
  line = record { generation = number_at 8 14 bytes; origin = number_at 4 22 bytes };
  session = number_at 8 26 bytes;
  number = number_at 8 34 bytes;
  part = number_at 2 42 bytes;
  parts = number_at 2 44 bytes;
  start = 48;
  length = number_at 2 46 bytes;
}
