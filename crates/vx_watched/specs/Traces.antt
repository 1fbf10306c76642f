-- What a shelf tells of its contents beside another one.
use Rattle.std.specs.Prelude.{IsTrue}
use Rattle.vx_disk.specs.Shelf.{Meaning}

-- the second tells of its contents only where the first does
abbrev pub TellsLess : Meaning → Meaning → Type 0
TellsLess old new = IsTrue new.tells → IsTrue old.tells
