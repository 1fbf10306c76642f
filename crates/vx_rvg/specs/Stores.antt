-- Blocks that are put into a volume without the log.
use Rattle.std.specs.Prelude.{◌≡◌, ◌⊎◌, ℕ, ◌+◌, ◌%◌, ◌<◌, ◌≤◌, List, length, Option, Some, None, Result, Ok, Err, IsTrue}
use Rattle.vx_model.specs.declared.limits.TheConstants.{BLOCK}
use Rattle.vx_model.specs.Content.{Content, Write, put}
use Rattle.vx_model.specs.declared.no.No.{No}
use Rattle.vx_disk.specs.Moves.{Blocks, Run, Union}
use Rattle.vx_disk.specs.Shelf.{Meaning, Image}
use Rattle.vx_rvg.specs.Groups.{GroupFails, read_refusal}
use Rattle.vx_rvg.specs.Holdings.{Holding, kept_in, with_content}
use Rattle.vx_rvg.specs.Saves.{reclaim_refusal, reclaimed}
use Rattle.vx_rvg.specs.Stands.{FoundAs, Stands}
use Rattle.vx_rvg.specs.Views.{Core, last_of, unit_of}

-- the bytes are 1 to 64 whole blocks
pub record AreBlocks (bytes : List ℕ) : Type 0 where
  pub some : 0 < length bytes
  pub few : length bytes ≤ 32768
  pub whole : length bytes % BLOCK ≡ 0

-- each block of the content d is that of c, or that of c with the write in it
pub record IsPartly (c : Content) (x : Write) (d : Content) : Type 0 where
  pub size : (v : ℕ) → d.size v ≡ c.size v
  pub each : (v b : ℕ) → (d.block v b ≡ c.block v b) ⊎ (d.block v b ≡ (put c x).block v b)

-- the group, all of whose writes are in the volumes, without the records of its log
abbrev pub without_records : Core → Core
without_records c = reclaimed c (last_of c)

-- a first refusal, or else another
abbrev pub refusal_or : Option No → Option No → Option No
refusal_or (Some why) rest = Some why
refusal_or None rest = rest

-- why blocks are not put into a volume of `size` blocks: as a read is refused, or since no header is left that gives the records up
abbrev pub store_refusal : Core → ℕ → ℕ → ℕ → Option No
store_refusal c size start count = refusal_or (read_refusal c size start count) (reclaim_refusal c (last_of c))

-- the blocks of a log that holds records
pub record GivesUpLog (core : Core) (u b : ℕ) : Type 0 where
  pub holds : core.log.header.low ≤ last_of core
  pub run : Run core.units.srl 0 (core.log.ring + 2) u b

-- what a store may write: the blocks themselves, and where the log holds records its own
abbrev pub store_blocks : Core → (volume start count : ℕ) → Blocks
store_blocks c volume start count = Union (GivesUpLog c) (Run (unit_of c.units.vols volume) start count)

-- Of whatever the group held: an image in the call has it, with some blocks of the write in the content.
pub record Putting (core : Core) (x : Write) (m : Meaning) (i : Image) : Type 0 where
  pub each : (h : Holding) → Stands core h m → (d : Content) × IsPartly h.content x d × FoundAs core i (with_content d h)

-- The same of a store: as long as the image has the log's records it has all that the group held, and without them the content may have
-- some blocks of the write in it.
pub record Storing (core : Core) (x : Write) (m : Meaning) (i : Image) : Type 0 where
  pub each : (h : Holding) → Stands core h m
      → FoundAs core i h ⊎ ((d : Content) × IsPartly h.content x d × FoundAs (without_records core) i (with_content d (kept_in (without_records core) h)))

-- behind the put the group holds what it held, with the write in the content
pub record PutsInto (core after : Core) (x : Write) (old new : Meaning) : Type 0 where
  pub each : (h : Holding) → Stands core h old → Stands after (with_content (put h.content x) h) new

-- behind a store, but for the writes that its log gave up
pub record StoresInto (core after : Core) (x : Write) (old new : Meaning) : Type 0 where
  pub each : (h : Holding) → Stands core h old → Stands after (with_content (put h.content x) (kept_in (without_records core) h)) new

-- the blocks were put, or a device call failed
abbrev pub Puts : Core → Meaning → Meaning → Core → Result (Unit {0}) No → Type 0
Puts c old new c' (Ok done) = (c' ≡ c) × (IsTrue new.down → ⊥)
Puts c old new c' (Err why) = GroupFails c old new c' why

-- the records were given up and the blocks were put, or a device call failed in either
abbrev pub Stores : Core → Meaning → Meaning → Core → Result (Unit {0}) No → Type 0
Stores c old new c' (Ok done) = (c' ≡ without_records c) × (IsTrue new.down → ⊥)
Stores c old new c' (Err why) = GroupFails c old new c' why ⊎ GroupFails (without_records c) old new c' why

abbrev pub StoreIs : Option No → Core → Meaning → Meaning → Core → Result (Unit {0}) No → Type 0
StoreIs (Some why) c old new c' result = (result ≡ Err why) × (c' ≡ c)
StoreIs None c old new c' result = Stores c old new c' result
