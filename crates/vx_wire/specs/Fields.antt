-- The fields of blocks and packets, as bytes.
use Rattle.std.specs.Prelude.{ℕ, Bool, true, false, List, [], ◌∷◌, ◌++◌, length, replicate, flat_map}
use Rattle.vx_model.specs.declared.history.Line.{Line}
use Rattle.vx_wire.specs.Numbers.{be_bytes}
use Rattle.vx_wire.specs.declared.field.Field.{Field}
use Rattle.vx_wire.specs.declared.field.Field.TheVariants.{U8, U16, U32, U64}

-- a number of a table
abbrev pub field_bytes : Field → List ℕ
field_bytes (U8 n) = be_bytes 1 n
field_bytes (U16 n) = be_bytes 2 n
field_bytes (U32 n) = be_bytes 4 n
field_bytes (U64 n) = be_bytes 8 n

-- a table: its numbers, one after the other
unfoldable pub spelled : List Field → List ℕ
spelled fields = flat_map field_bytes fields

-- a line: its generation, then its origin
unfoldable pub line_bytes : Line → List ℕ
line_bytes line = be_bytes 8 line.generation ++ be_bytes 4 line.origin

-- a name: its length, then its bytes
abbrev pub name_bytes : List ℕ → List ℕ
name_bytes name = length name ∷ name

-- a flag: 1 where it is set
abbrev pub flag_bytes : Bool → List ℕ
flag_bytes true = 1 ∷ []
flag_bytes false = 0 ∷ []

-- so many zeros
abbrev pub zero_bytes : ℕ → List ℕ
zero_bytes n = replicate n 0
