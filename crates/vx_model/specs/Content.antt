-- What volumes hold, and what a write and a list of writes make of it.
use Rattle.std.specs.Prelude.{◌≡◌, ℕ, zero, suc, replicate, ◌+◌, ◌-◌, ◌*◌, ◌/◌, ◌<◌, Bool, ◌&&◌, List, [], ◌∷◌, ◌++◌, length, take, drop, eqb, ltb, leb, if◌then◌else◌, slice_get, pred, Some}

-- one write to a replicated volume group: whole blocks of 512 bytes, from block `start` of a volume on
pub record Write : Type 0 where
  pub volume : ℕ
  pub start : ℕ
  pub bytes : List ℕ

-- how many blocks each volume has, and the 512 bytes of each
pub record Content : Type 0 where
  pub size : ℕ → ℕ
  pub block : ℕ → ℕ → List ℕ

-- how many blocks these bytes are
abbrev pub blocks_in : List ℕ → ℕ
blocks_in bytes = length bytes / 512

-- block k of these bytes
abbrev pub block_of : List ℕ → ℕ → List ℕ
block_of bytes k = take 512 (drop (512 * k) bytes)

-- whether the write ends within its volume
abbrev pub is_within : Content → Write → Bool
is_within c x = leb (x.start + blocks_in x.bytes) (c.size x.volume)

-- whether the write puts this block
abbrev pub touches : Write → ℕ → ℕ → Bool
touches x volume block = eqb volume x.volume && (leb x.start block && ltb (512 * (block - x.start)) (length x.bytes))

-- what the write makes of this block, which held `here`
abbrev pub block_after : Write → ℕ → ℕ → List ℕ → List ℕ
block_after x volume block here = if touches x volume block then block_of x.bytes (block - x.start) else here

-- the content with the write's blocks in place of its own, or as it is where the write is not within it
abbrev pub put : Content → Write → Content
put c x = record c { block = λ v b. if is_within c x then block_after x v b (c.block v b) else c.block v b }

-- the content after these writes, in their order
abbrev pub fold_writes : Content → List Write → Content
fold_writes c [] = c
fold_writes c (x ∷ xs) = fold_writes (put c x) xs

-- so many blocks of a volume, one after another
abbrev pub blocks_from : Content → ℕ → ℕ → ℕ → List (List ℕ)
blocks_from c volume start zero = []
blocks_from c volume start (suc n) = c.block volume start ∷ blocks_from c volume (start + 1) n

-- ys is xs and then a rest
unfoldable pub IsPrefixOf : List Write → List Write → Type 0
IsPrefixOf xs ys = (rest : List Write) × (xs ++ rest ≡ ys)

-- the n-th of these writes, of which the first is number 1
abbrev pub IsNumber : List Write → ℕ → Write → Type 0
IsNumber xs n x = (0 < n) × (slice_get xs (pred n) ≡ Some x)

-- a block of zeros
abbrev pub zero_block : List ℕ
zero_block = replicate 512 0

-- volumes of these sizes that hold zeros
abbrev pub zeros : (ℕ → ℕ) → Content
zeros size = record { size = size; block = λ v b. zero_block }
