-- The rows of the table, as the code has them.
use Rattle.std.specs.Prelude.{◌≡◌, List, [], ◌∷◌}
use Rattle.vx_wire.specs.declared.field.Field.{Field}
use Rattle.vx_packet.specs.Messages.{Row}
use Rattle.vx_packet.specs.declared.row.Numbers.{Numbers}
use Rattle.vx_packet.specs.declared.row.Numbers.TheVariants as numbers
use Rattle.vx_packet.specs.declared.row.Row.{Row as RowValue}

-- the numbers, in order
abbrev pub numbers_list : Numbers → List Field
numbers_list numbers.None = []
numbers_list (numbers.One a) = a ∷ []
numbers_list (numbers.Two a b) = a ∷ b ∷ []
numbers_list (numbers.Three a b c) = a ∷ b ∷ c ∷ []

-- this is that row of the table
pub record IsRow (found : RowValue) (row : Row) : Type 0 where
  pub kind : found.kind ≡ row.kind
  pub session : found.session ≡ row.session
  pub number : found.number ≡ row.number
  pub numbers : numbers_list found.numbers ≡ row.numbers
  pub bytes : found.bytes.now ≡ row.bytes
