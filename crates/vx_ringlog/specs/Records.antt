-- The records of a log: a logged write with what stands before its blocks on disk.
use Rattle.std.specs.Prelude.{◌≡◌, ℕ, zero, suc, ◌-◌, ◌%◌, ◌≤◌, List, [], ◌∷◌, ◌++◌, length, take, drop, slice_index, All}
use Rattle.std.specs.List.{concat}
use Rattle.vx_model.specs.declared.limits.TheConstants.{BLOCK, MOST_CALL_BLOCKS, MOST_CALL_BYTES}
use Rattle.vx_model.specs.Content.{Write, blocks_in}
use Rattle.vx_model.specs.declared.history.Line.{Line}
use Rattle.vx_wire.specs.Fields.{zero_bytes}
use Rattle.vx_wire.specs.Seals.{digest_of}
use Rattle.vx_srlfmt.specs.Kinds.{body_byte, IsBody}
use Rattle.vx_srlfmt.specs.declared.header.Header.{Header}
use Rattle.vx_srlfmt.specs.declared.record.RecordHead.{RecordHead}

-- what the records of a log have in common with its header
pub record Era : Type 0 where
  pub incarnation : ℕ
  pub run : ℕ
  pub line : Line

-- the era of a header
abbrev pub era_of : Header → Era
era_of h = record { incarnation = h.incarnation; run = h.run; line = h.state.line }

-- the header of a record, and the blocks of its body as they stand on disk
pub record Record : Type 0 where
  pub head : RecordHead
  pub open head use {incarnation, run, line, number}
  pub body : List (List ℕ)

-- the blocks with these first bytes in place of their own, one block after another
abbrev pub with_firsts : List ℕ → List (List ℕ) → List ℕ
with_firsts firsts [] = []
with_firsts firsts (block ∷ blocks) = (slice_index firsts 0 ∷ drop 1 block) ++ with_firsts (drop 1 firsts) blocks

-- the bytes of a record as they were given
abbrev pub given : Record → List ℕ
given r = with_firsts r.head.firsts r.body

-- the body is the one of which the header has the count and the digest
pub record Genuine (r : Record) : Type 0 where
  pub count : r.head.count ≡ length r.body
  pub digest : r.head.digest ≡ digest_of (given r)

-- the write that a record logs
abbrev pub write_logged : Record → Write
write_logged r = record { volume = r.head.vol; start = r.head.block; bytes = given r }

-- blocks as they stand on disk: each begins with the byte of a body block
abbrev pub as_on_disk : List (List ℕ) → List (List ℕ)
as_on_disk [] = []
as_on_disk (block ∷ blocks) = (body_byte ∷ drop 1 block) ∷ as_on_disk blocks

-- the first byte of each block
abbrev pub first_bytes : List (List ℕ) → List ℕ
first_bytes [] = []
first_bytes (block ∷ blocks) = slice_index block 0 ∷ first_bytes blocks

-- with zeros behind them, up to 16
abbrev pub firsts_of : List (List ℕ) → List ℕ
firsts_of blocks = first_bytes blocks ++ zero_bytes (MOST_CALL_BLOCKS - length blocks)

-- a record that keeps these blocks
pub record KeepsBlocks (r : Record) (blocks : List (List ℕ)) : Type 0 where
  pub firsts : r.head.firsts ≡ firsts_of blocks
  pub body : r.body ≡ as_on_disk blocks

-- a block has 512 bytes
abbrev pub IsWhole : List ℕ → Type 0
IsWhole block = length block ≡ BLOCK

-- what was given comes back, block after block
abbrev pub GivenComesBack : Type 0
GivenComesBack = (r : Record) (blocks : List (List ℕ)) → All IsWhole blocks → KeepsBlocks r blocks → given r ≡ concat blocks

-- on disk there are as many whole blocks, each of them a body block, and up to 16 blocks have 16 first bytes
pub record StandOnDisk (blocks : List (List ℕ)) : Type 0 where
  pub count : length (as_on_disk blocks) ≡ length blocks
  pub whole : All IsWhole (as_on_disk blocks)
  pub body : All IsBody (as_on_disk blocks)
  pub firsts : length blocks ≤ MOST_CALL_BLOCKS → length (firsts_of blocks) ≡ MOST_CALL_BLOCKS
  pub zeros : drop (length blocks) (firsts_of blocks) ≡ zero_bytes (MOST_CALL_BLOCKS - length blocks)

-- so it is of all whole blocks
abbrev pub BlocksStand : Type 0
BlocksStand = (blocks : List (List ℕ)) → All IsWhole blocks → StandOnDisk blocks

-- the first n blocks of these bytes
abbrev pub first_blocks : ℕ → List ℕ → List (List ℕ)
first_blocks zero bytes = []
first_blocks (suc n) bytes = take BLOCK bytes ∷ first_blocks n (drop BLOCK bytes)

-- all blocks of a write
abbrev pub write_blocks : Write → List (List ℕ)
write_blocks x = first_blocks (blocks_in x.bytes) x.bytes

-- the record that logs a write under a number
abbrev pub record_of : Era → ℕ → Write → Record
record_of e number x = record {
  head = record {
    incarnation = e.incarnation;
    run = e.run;
    line = e.line;
    number = number;
    vol = x.volume;
    block = x.start;
    count = blocks_in x.bytes;
    digest = digest_of x.bytes;
    firsts = firsts_of (write_blocks x);
  };
  body = as_on_disk (write_blocks x);
}

-- the record logs the write, and its header fits its body, which is whole body blocks
pub record LogsWrite (r : Record) (x : Write) : Type 0 where
  pub write : write_logged r ≡ x
  pub genuine : Genuine r
  pub whole : All IsWhole r.body
  pub body : All IsBody r.body
  pub firsts : length x.bytes ≤ MOST_CALL_BYTES → length r.head.firsts ≡ MOST_CALL_BLOCKS
  pub zeros : drop r.head.count r.head.firsts ≡ zero_bytes (MOST_CALL_BLOCKS - r.head.count)

-- a write of whole blocks comes back from its record
abbrev pub WriteComesBack : Type 0
WriteComesBack = (e : Era) (number : ℕ) (x : Write) → length x.bytes % BLOCK ≡ 0 → LogsWrite (record_of e number x) x
