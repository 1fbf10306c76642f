-- What replays say of a site that receives, and what the mode of a link to it says.
use Rattle.std.specs.Prelude.{◌≡◌, ◌⊎◌, ℕ, ◌≤◌, ◌<◌, max, Bool, true, false, if◌then◌else◌, List, length, take, drop}
use Rattle.vx_model.specs.Content.{Write}
use Rattle.vx_model.specs.declared.site.Mark.TheVariants.{Consistent, Inconsistent}
use Rattle.vx_model.specs.declared.site.SPhase.{SPhase}
use Rattle.vx_model.specs.declared.site.SPhase.TheVariants.{Quiet, Regions as Copies, Log as Fills, ForkKept}
use Rattle.vx_model.specs.declared.link.Phase.{Phase}
use Rattle.vx_model.specs.declared.link.Phase.TheVariants.{Start, Regions as CopiesRegions, Done, Log as ByLogAgain}
use Rattle.vx_model.specs.declared.link.Mode.{Mode}
use Rattle.vx_model.specs.declared.link.Mode.TheVariants.{Log, Dcm, Replay, Fork, Stale}
use Rattle.vx_history.specs.World.{Node, Regions, Replays, no_regions}
use Rattle.vx_history.specs.Receiving.{phase_takes}
use Rattle.vx_history.specs.Regions.{joined_maps, marks_of_all, Fuzzy, IsMapped}

-- Each replay was read from its start to its last reading, which the line holds, and a later one began no earlier than that.
pub record GoodReplays (held : List Write) (t : Replays) : Type 0 where
  pub spans : (i : ℕ) → i ≤ t.begun → (t.start i ≤ t.read i) × (t.read i ≤ length held)
  pub rise : (i j : ℕ) → i < j → j ≤ t.begun → t.read i ≤ t.start j

abbrev pub is_copying : SPhase → Bool
is_copying Quiet = false
is_copying Copies = true
is_copying Fills = false
is_copying ForkKept = false

-- the first numbers of its line that a receiver's volumes have for certain, or will have at the end of its replay
abbrev pub certain_of : Replays → Node → ℕ
certain_of t n = if is_copying n.phase then t.start n.replay else n.safe

-- Of a site that receives, by the replays to it. While it copies regions it is inconsistent, and nothing waits. Behind them it has blocks
-- as they were at moments up to the replay's end.
pub record GoodCopy (held : List Write) (t : Replays) (n : Node) : Type 0 where
  pub size : n.base.size ≡ n.start.size
  pub known : n.replay ≤ t.begun
  pub copying : n.phase ≡ Copies → (n.mark ≡ Inconsistent) × (length n.log ≤ n.safe) × (length n.log ≤ t.start n.replay)
  pub filling : n.phase ≡ Fills → (t.start n.replay ≤ n.safe) × (n.end ≡ t.read n.replay) × Fuzzy n.base n.start held n.safe (max n.end n.safe) no_regions

-- the replay of a link is the last one that was begun to its receiver; ids begin with 1
abbrev pub IsReplay : Replays → (id start end : ℕ) → Type 0
IsReplay t id start end = (0 < id) × (id ≡ t.begun) × (start ≡ t.start id) × (end ≡ t.read id)

-- What the phase of a replay says of the site that it goes to. As it begins, the site is right outside the map and the regions of what came
-- since; and where the site has no more than the start, it was right at the start outside the map alone. While regions are copied, and
-- behind them, blocks are as they were at moments from the start to the end.
abbrev pub GoodPhase : (held : List Write) → Replays → Node → (map : Regions) → (stored : ℕ) → Phase → (id left start end : ℕ) → Type 0
GoodPhase held t b map stored Start id left start end =
    IsReplay t id start end × (stored ≤ start) × (end ≡ start) × (b.replay ≡ id → b.phase ≡ Copies)
    × IsMapped held (certain_of t b) b.base b.start (joined_maps map (marks_of_all (drop start held)))
    × (b.safe ≤ start → IsMapped (take start held) (certain_of t b) b.base b.start map)
GoodPhase held t b map stored CopiesRegions id left start end =
    IsReplay t id start end × (stored ≤ start) × (b.replay ≡ id) × (b.phase ≡ Copies) × Fuzzy b.base b.start held start end map
GoodPhase held t b map stored Done id left start end =
    IsReplay t id start end × (stored ≤ start) × (b.replay ≡ id) × (b.phase ≡ Copies ⊎ b.phase ≡ Fills)
    × (b.phase ≡ Copies → Fuzzy b.base b.start held start end no_regions)
GoodPhase held t b map stored ByLogAgain id left start end = IsReplay t id start end × (start ≤ stored) × (b.replay ≡ id) × (b.phase ≡ Fills)

-- What the mode of an origin's link says of the site that it feeds, on a line that holds these writes.
-- Fact 7. By the log only a consistent site is fed, which takes updates and has taken the last replay that was begun to it. A change map
-- has all regions in which the site differs from the line, and those of all numbers that it has not for certain. No link gathers the map
-- of a fork.
abbrev pub GoodMode : (held : List Write) → Replays → Node → (map : Regions) → (stored : ℕ) → Mode → Type 0
GoodMode held t b map stored Log = (b.mark ≡ Consistent) × (phase_takes b.phase ≡ true) × (t.begun ≤ b.replay)
GoodMode held t b map stored Dcm = IsMapped held (certain_of t b) b.base b.start map
GoodMode held t b map stored (Replay id phase left start end) = GoodPhase held t b map stored phase id left start end
GoodMode held t b map stored (Fork maps) = ⊥
GoodMode held t b map stored Stale = Unit {0}
