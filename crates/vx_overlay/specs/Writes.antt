-- The blocks of writes: what the last write that covers a block puts there, and the blocks of writes as those that wait.
use Rattle.std.specs.Prelude.{◌≡◌, ℕ, zero, suc, ◌+◌, ◌-◌, ◌%◌, ◌&&◌, leb, if◌then◌else◌, Option, Some, None, List, [], ◌∷◌, ◌++◌, length, take, drop}
use Rattle.vx_model.specs.declared.limits.TheConstants.{BLOCK}
use Rattle.vx_model.specs.Content.{Write, blocks_in, block_of, touches}
use Rattle.vx_overlay.specs.Pending.{entry_of, newer_or}
use Rattle.vx_overlay.specs.declared.entry.Entry.{Entry}

-- the bytes of the write are whole blocks
abbrev pub IsWholeWrite : Write → Type 0
IsWholeWrite x = length x.bytes % BLOCK ≡ 0

-- what a write puts into a block, where it ends within its volume
abbrev pub put_there : (ℕ → ℕ) → Write → ℕ → ℕ → Option (List ℕ)
put_there size x v b = if leb (x.start + blocks_in x.bytes) (size x.volume) && touches x v b then Some (block_of x.bytes (b - x.start)) else None

-- what the last of these writes that covers a block puts there
abbrev pub newest_of : (ℕ → ℕ) → List Write → ℕ → ℕ → Option (List ℕ)
newest_of size [] v b = None
newest_of size (x ∷ xs) v b = newer_or (newest_of size xs v b) (put_there size x v b)

-- so many blocks of a volume, with these bytes
abbrev pub entries_at : ℕ → ℕ → ℕ → List ℕ → List Entry
entries_at v b zero bytes = []
entries_at v b (suc n) bytes = entry_of v b (take BLOCK bytes) ∷ entries_at v (b + 1) n (drop BLOCK bytes)

-- the blocks of these writes, each write that does not end within its volume left out
abbrev pub entries_of : (ℕ → ℕ) → List Write → List Entry
entries_of size [] = []
entries_of size (x ∷ xs) = (if leb (x.start + blocks_in x.bytes) (size x.volume) then entries_at x.volume x.start (blocks_in x.bytes) x.bytes else []) ++ entries_of size xs

-- how many blocks these writes put, each write that does not end within its volume left out
abbrev pub blocks_within_of : (ℕ → ℕ) → List Write → ℕ
blocks_within_of size [] = 0
blocks_within_of size (x ∷ xs) = (if leb (x.start + blocks_in x.bytes) (size x.volume) then blocks_in x.bytes else 0) + blocks_within_of size xs
