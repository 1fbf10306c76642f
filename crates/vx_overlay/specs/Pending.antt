-- The blocks that wait, as callers see them.
use Rattle.std.specs.Prelude.{◌≡◌, ℕ, ◌++◌, ◌&&◌, List, [], ◌∷◌, Option, Some, None, eqb, if◌then◌else◌}
use Rattle.vx_overlay.specs.declared.entry.Entry.{Entry}

-- how many have room, and those that wait, oldest first
pub record Pending : Type 0 where
  pub capacity : ℕ
  pub entries : List Entry

-- these bytes for a block of a volume
abbrev pub entry_of : ℕ → ℕ → List ℕ → Entry
entry_of volume block bytes = record { volume = volume; block = block; bytes = bytes }

-- the bytes of an entry, if it is of this block
abbrev pub bytes_for : Entry → ℕ → ℕ → Option (List ℕ)
bytes_for e volume block = if eqb e.volume volume && eqb e.block block then Some e.bytes else None

-- the first, or where there is none the second
abbrev pub newer_or : Option (List ℕ) → Option (List ℕ) → Option (List ℕ)
newer_or (Some bytes) other = Some bytes
newer_or None other = other

-- the bytes of the last entry that is of this block
abbrev pub newest : List Entry → ℕ → ℕ → Option (List ℕ)
newest [] volume block = None
newest (e ∷ rest) volume block = newer_or (newest rest volume block) (bytes_for e volume block)

-- an entry of this block with these bytes stands in the list, and none of the block after it
pub record IsNewestEntry (xs : List Entry) (volume block : ℕ) (bytes : List ℕ) : Type 0 where
  pub before : List Entry
  pub after : List Entry
  pub there : xs ≡ before ++ entry_of volume block bytes ∷ after
  pub last : newest after volume block ≡ None
