-- What the events of a replay make of the record of replays, of the site that receives and of its content. No event of the world goes by
-- them yet.
use Rattle.std.specs.Prelude.{◌≡◌, ◌⊎◌, ℕ, ◌+◌, ◌*◌, ◌/◌, ◌≤◌, ◌<◌, Bool, true, false, ◌&&◌, eqb, leb, ltb, if◌then◌else◌, List, length, take, None}
use Rattle.vx_model.specs.Content.{Write, Content}
use Rattle.vx_model.specs.declared.limits.TheConstants.{REGION}
use Rattle.vx_model.specs.declared.site.Mark.TheVariants.{Consistent, Inconsistent}
use Rattle.vx_model.specs.declared.site.SPhase.TheVariants.{Regions as Copies, Log as Fills}
use Rattle.vx_model.specs.declared.link.Phase.{Phase}
use Rattle.vx_model.specs.declared.link.Phase.TheVariants.{Start, Regions as CopiesRegions, Done, Log as ByLogAgain}
use Rattle.vx_model.specs.declared.link.Mode.{Mode}
use Rattle.vx_model.specs.declared.link.Mode.TheVariants.{Log, Dcm, Replay, Fork, Stale}
use Rattle.vx_history.specs.World.{Node, Regions, Replays, no_regions}
use Rattle.vx_history.specs.Regions.{AtSome, Fuzzy}
use Rattle.vx_history.specs.Sound.{HasStored}

-- ## What is recorded of replays

-- a further replay begins at this head
abbrev pub begun_table : Replays → (id head : ℕ) → Replays
begun_table t id head = record {
  begun = id;
  start = λ i. if leb i t.begun then t.start i else head;
  read = λ i. if leb i t.begun then t.read i else head;
}

-- a region is read at this head in the last replay
abbrev pub read_table : Replays → (head : ℕ) → Replays
read_table t head = record t { read = λ i. if eqb i t.begun then head else t.read i }

-- ## The content of a site that receives

abbrev pub without_region : Regions → (volume region : ℕ) → Regions
without_region map volume region v r = if eqb v volume && eqb r region then false else map v r

-- the regions of volumes of these sizes
abbrev pub whole_map : (ℕ → ℕ) → Regions
whole_map size v r = ltb (REGION * r) (size v)

-- whether the block is one of this region, in volumes of these sizes
abbrev pub is_in_region : (ℕ → ℕ) → (volume region v b : ℕ) → Bool
is_in_region size volume region v b = eqb v volume && (eqb (b / REGION) region && ltb b (size v))

-- each block of the region has its value at some moment from low to high
abbrev pub RegionFuzzy : Content → Content → List Write → (low high volume region : ℕ) → Type 0
RegionFuzzy d s xs low high volume region = (v b : ℕ) → is_in_region s.size volume region v b ≡ true → AtSome d s xs low high v b

-- these blocks as the other content has them
abbrev pub with_blocks : (ℕ → ℕ → Bool) → Content → Content → Content
with_blocks pick c d = record c { block = λ v b. if pick v b then d.block v b else c.block v b }

-- the write's bytes are whole blocks
abbrev pub IsWholeBlocks : Write → Type 0
IsWholeBlocks x = 512 * (length x.bytes / 512) ≡ length x.bytes

-- the write is whole blocks that end within their volume, of these sizes
abbrev pub FitsVolumes : (ℕ → ℕ) → Write → Type 0
FitsVolumes size x = IsWholeBlocks x × (x.start + length x.bytes / 512 ≤ size x.volume)

-- past its volumes' ends c has what s has
abbrev pub IsBeyond : Content → Content → Type 0
IsBeyond c s = (v b : ℕ) → s.size v ≤ b → c.block v b ≡ s.block v b

-- no region is left of those that the volumes have
abbrev pub NoRegionLeft : (ℕ → ℕ) → Regions → Type 0
NoRegionLeft size map = (v b : ℕ) → b < size v → map v (b / REGION) ≡ false

-- ## The site that receives

-- it begins the replay of this id
abbrev pub entered : Node → (id : ℕ) → Node
entered n id = record n { mark = Inconsistent; phase = Copies; replay = id; end = 0; fork_map = None }

-- These blocks of a region are stored: those of the message in the content, and those with which the line began in what the site held at
-- number 0.
abbrev pub with_part : (line_start : Content) → Node → (ℕ → ℕ → Bool) → Content → Node
with_part line_start n pick blocks = record n { base = with_blocks pick n.base blocks; start = with_blocks pick n.start line_start }

-- it has every region, and goes on by the log from the start of the replay
abbrev pub closed_at : (held : List Write) → Node → (start end : ℕ) → Node
closed_at held n start end = record n { log = take start held; safe = start; phase = Fills; end = end; mark = if leb end start then Consistent else n.mark }

-- ## The link

-- with no region left the end of the copying follows
abbrev pub copying_on : (id left start end : ℕ) → Mode
copying_on id left start end = if eqb left 0 then Replay id Done left start end else Replay id CopiesRegions left start end

-- the link copies no region of this replay any more
abbrev pub IsOverPhase : Phase → (at id : ℕ) → Type 0
IsOverPhase Start at id = id < at
IsOverPhase CopiesRegions at id = id < at
IsOverPhase Done at id = Unit {0}
IsOverPhase ByLogAgain at id = Unit {0}

abbrev pub IsReplayOver : Mode → (id : ℕ) → Type 0
IsReplayOver Log id = Unit {0}
IsReplayOver Dcm id = Unit {0}
IsReplayOver (Replay at phase left start end) id = IsOverPhase phase at id
IsReplayOver (Fork maps) id = Unit {0}
IsReplayOver Stale id = Unit {0}

-- ## Messages of a replay

-- the start of a replay, from the origin of its line
abbrev pub SaysStart : Replays → (id start : ℕ) → Type 0
SaysStart t id start = (id ≤ t.begun) × (start ≡ t.start id)

-- a region as it was at moments of its replay
abbrev pub SaysRegion : (held : List Write) → (line_start : Content) → Replays → (id volume region : ℕ) → Content → Type 0
SaysRegion held line_start t id volume region blocks = (id ≤ t.begun) × RegionFuzzy blocks line_start held (t.start id) (t.read id) volume region

-- The end of the copying: the link copies no region of this replay any more, and while the receiver stands in it, each block there is as it was
-- at a moment of the replay.
abbrev pub SaysCopied : (held : List Write) → Replays → Node → Mode → (id start end : ℕ) → Type 0
SaysCopied held t b mode id start end =
    (id ≤ b.replay) × (start ≡ t.start id) × (end ≡ t.read id) × IsReplayOver mode id
    × (b.phase ≡ Copies → b.replay ≡ id → Fuzzy b.base b.start held (t.start id) (t.read id) no_regions)

-- What an acknowledgement of each kind says of the site that sent it, while that site stands in that replay: it copies or fills; and the region
-- is stored, or it fills and has the start on its disks.
pub record StandsIn (held : List Write) (t : Replays) (b : Node) (id volume region kind : ℕ) : Type 0 where
  pub stands : b.phase ≡ Copies ⊎ b.phase ≡ Fills
  pub copied : kind ≡ 1 → b.phase ≡ Copies → RegionFuzzy b.base b.start held (t.start id) (t.read id) volume region
  pub filled : kind ≡ 2 → (b.phase ≡ Fills) × HasStored b (t.start id)

abbrev pub SaysStored : (held : List Write) → Replays → Node → (id volume region kind : ℕ) → Type 0
SaysStored held t b id volume region kind = (id ≤ b.replay) × (b.replay ≡ id → StandsIn held t b id volume region kind)
