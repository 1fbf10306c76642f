-- What a commit makes of a configuration and of the disks.
use Rattle.std.specs.Prelude.{◌≡◌, ◌⊎◌, ℕ, ◌+◌, ◌<◌, ◌≤◌, Bool, true, false, IsTrue, Option, Some, Result, Ok, Err, List, length}
use Rattle.std.specs.Int.{trailing_zeros, w8}
use Rattle.vx_disk.specs.declared.shelf.ShelfError.{ShelfError}
use Rattle.vx_disk.specs.declared.shelf.ShelfError.TheVariants.{Fault, Down as IsDown}
use Rattle.vx_disk.specs.Blocks.{bit_at}
use Rattle.vx_disk.specs.Counts.{Rose}
use Rattle.vx_disk.specs.Moves.{Along, Moves}
use Rattle.vx_disk.specs.Shelf.{Each, Image, Meaning}
use Rattle.vx_model.specs.declared.errors.Stop.{Stop}
use Rattle.vx_model.specs.declared.errors.Stop.TheVariants.{No as Stopped, OutOfMemory}
use Rattle.vx_model.specs.declared.no.Counted.TheVariants.{Number}
use Rattle.vx_model.specs.declared.no.No.{No}
use Rattle.vx_model.specs.declared.no.No.TheVariants as refusal
use Rattle.vx_config.specs.Table.{greatest}
use Rattle.vx_config.specs.declared.config.Config.{Config}
use Rattle.vx_config.specs.declared.entry.DiskEntry.{DiskEntry}
use Rattle.vx_copyfmt.specs.Copies.{Copy, Disk, Holds, copy_of}
use Rattle.vx_copyfmt.specs.Commits.{Among, Answers, Committed, Counts, FindsNew, FindsOld, Forged, FromNew, FromOld, GivesConfig, IsGood, Lower, Spoilt, Tidy, Torn, CopyWritten, exactly}
use Rattle.vx_copyfmt.specs.Imports.{ImportOutcome as Finding, Damaged, Format, Found, Missing, NoConfig, import_of, is_label, settle}
use Rattle.vx_copyfmt.specs.Labels.{seen_in}
use Rattle.vx_copyio.specs.Putting.{AreasOf, LeavesSame}
use Rattle.vx_copies.specs.Answers.{good_set}
use Rattle.vx_copies.specs.Bodies.{failed_in}
use Rattle.vx_copies.specs.Looking.{on_shelf}
use Rattle.vx_copies.specs.Marks.{HasGood, NoneGood, blocks_at, failed_at, good_count}

-- a disk that the configuration holds as good
pub record HeldGood (c : Config) (m : Meaning) (u : ℕ) : Type 0 where
  pub below : u < m.units
  pub good : failed_at c.disks u ≡ false

-- no header that a crash may leave on a disk has a serial above that of the configuration
pub record Below (c : Config) (m : Meaning) : Type 0 where
  pub each : (u : ℕ) → u < m.units → Lower (c.serial + 1) (m.leaves u)

-- the disks are ready for the next serial: whatever a crash leaves of one that is held as good, its greater header counts
pub record ReadyDisks (c : Config) (m : Meaning) : Type 0 where
  pub below : Below c m
  pub counts : (u : ℕ) → HeldGood c m u → Counts (on_shelf m) (m.leaves u)

-- the same disks, of which more are held as failed: the count of each of these rose
pub record MoreFailed (old new : Meaning) (before after : List DiskEntry) : Type 0 where
  pub count : length after ≡ length before
  pub blocks : (u : ℕ) → blocks_at after u ≡ blocks_at before u
  pub stays : (u : ℕ) → failed_at before u ≡ true → failed_at after u ≡ true
  pub blamed : (u : ℕ) → failed_at before u ≡ false → failed_at after u ≡ true → Rose (old.faults u) (new.faults u)

-- the same configuration but for its serial and such disks
pub record Grown (old new : Meaning) (c d : Config) : Type 0 where
  pub site : d.site ≡ c.site
  pub disks : MoreFailed old new c.disks d.disks
  pub volumes : d.volumes ≡ c.volumes
  pub rvg : d.rvg ≡ c.rvg

-- one of the configurations that a commit may have begun, under its serial, which is at most the last one
pub record IsTry (c : Config) (last : ℕ) (old new : Meaning) (serial : ℕ) (d : Config) : Type 0 where
  pub serial_is : serial ≡ d.serial
  pub above : c.serial < serial
  pub within : serial ≤ last
  pub grown : Grown old new c d

-- one that holds no disk as failed that the last one does not
pub record IsBefore (c last : Config) (old new : Meaning) (serial : ℕ) (d : Config) : Type 0 where
  pub is : IsTry c last.serial old new serial d
  pub fewer : (u : ℕ) → failed_at d.disks u ≡ true → failed_at last.disks u ≡ true

-- the disk has its copy of before, or one that was begun, or that of before is torn
abbrev pub Becomes : (ℕ → Config → Type 0) → Meaning → ℕ → Disk → Type 0
Becomes begun m u d = FromOld (on_shelf m) (m.leaves u) d ⊎ FromNew (on_shelf m) begun (m.leaves u) d ⊎ Torn (on_shelf m) (m.leaves u) d

-- where the disks were ready, so it is in the image with each that was held as good
pub record OldOrBegun (begun : ℕ → Config → Type 0) (c : Config) (m : Meaning) (i : Image) : Type 0 where
  pub each : ReadyDisks c m → (u : ℕ) → HeldGood c m u → Becomes begun m u (i u)

-- Copies were begun: at each moment a crash leaves each disk that was held as good with its copy of before or one that was begun, and every
-- other block as it was; and so it does now.
pub record Begins (begun : ℕ → Config → Type 0) (c : Config) (old new : Meaning) : Type 0 where
  pub moves : Moves (AreasOf (HeldGood c old)) (OldOrBegun begun c old) old new
  pub leaves : (i : Image) → Each new.leaves i → OldOrBegun begun c old i

-- one of the configurations that were begun, by a table of them, that holds this disk as good
pub record IsOne (c : Config) (last : ℕ) (tries : ℕ → Config) (u serial : ℕ) (d : Config) : Type 0 where
  pub above : c.serial < serial
  pub within : serial ≤ last
  pub is : d ≡ tries serial
  pub holds : failed_at d.disks u ≡ false

-- the disk has a copy that was begun, and so has a disk of the set, of this serial or a later one
pub record Behind (good : ℕ) (c : Config) (last : ℕ) (tries : ℕ → Config) (m : Meaning) (i : Image) (u : ℕ) : Type 0 where
  pub from : FromNew (on_shelf m) (IsOne c last tries u) (m.leaves u) (i u)
  pub leader : ℕ
  pub held : HeldGood c m leader
  pub member : bit_at good leader ≡ true
  pub front : FromNew (on_shelf m) (IsOne c last tries leader) (m.leaves leader) (i leader)
  pub ahead : from.serial ≤ front.serial

-- Where the disks were ready, each that was held as good has in the image its copy of before, or one that was begun, or that of before is torn;
-- and it is ready for the next serial. One that is no member of the set has such a copy only behind one that is.
pub record Stage (good : ℕ) (c : Config) (last : ℕ) (tries : ℕ → Config) (m : Meaning) (i : Image) : Type 0 where
  pub each : ReadyDisks c m → (u : ℕ) → HeldGood c m u → Becomes (IsOne c last tries u) m u (i u)
  pub led : ReadyDisks c m → (u : ℕ) → HeldGood c m u → bit_at good u ≡ false → FromOld (on_shelf m) (m.leaves u) (i u) ⊎ Behind good c last tries m i u ⊎ Torn (on_shelf m) (m.leaves u) (i u)
  pub fit : ReadyDisks c m → (u : ℕ) → HeldGood c m u → Tidy (on_shelf m) (last + 1) (exactly (i u)) ⊎ Forged (m.leaves u) (i u)

-- Tries were made, from one configuration to another: under each serial one, of which a later one has no fewer failed disks.
pub record Underway (good : ℕ) (c d : Config) (old new : Meaning) : Type 0 where
  pub serial : c.serial ≤ d.serial
  pub grown : Grown old new c d
  pub tries : ℕ → Config
  pub tried : (s : ℕ) → c.serial < s → s ≤ d.serial → IsBefore c d old new s (tries s)
  pub chain : (s t : ℕ) → c.serial < s → s ≤ t → t ≤ d.serial → (u : ℕ) → failed_at (tries s).disks u ≡ true → failed_at (tries t).disks u ≡ true
  pub moves : Moves (AreasOf (HeldGood c old)) (Stage good c d.serial tries old) old new
  pub below : Below c old → Below d new
  pub leaves : Below c old → (u : ℕ) (e : Disk) → HeldGood c old u → Counts (on_shelf old) (old.leaves u) → Among (new.leaves u) e → Becomes (IsOne c d.serial tries u) old u e
  pub fits : Below c old → (u : ℕ) (e : Disk) → HeldGood c old u → Counts (on_shelf old) (old.leaves u) → Among (new.leaves u) e → Tidy (on_shelf old) (d.serial + 1) (exactly e) ⊎ Forged (old.leaves u) e
  pub now : (i : Image) → Each new.leaves i → Stage good c d.serial tries old i

-- whatever a crash leaves of a disk that is held as good, the next copy goes to one area
pub record AreTidy (c d : Config) (old new : Meaning) : Type 0 where
  pub each : Below c old → (u : ℕ) → HeldGood d new u → Tidy (on_shelf new) (d.serial + 1) (new.leaves u)

-- whatever a crash leaves of the disk, it has a copy with a later serial, and the one behind the last goes to one area
pub record LeavesLater (c : Config) (last : ℕ) (u : ℕ) (old new : Meaning) : Type 0 where
  pub tidy : Below c old → Tidy (on_shelf new) (last + 1) (new.leaves u)
  pub newer : Below c old → (e : Disk) → Among (new.leaves u) e → (x : Copy Config) × (copy_of (on_shelf old) e ≡ Some x) × (c.serial < x.serial)

-- so it is with a disk that is held as good, or the disk is as it was
pub record Remain (c d : Config) (old new : Meaning) : Type 0 where
  pub each : (u : ℕ) → HeldGood d new u → LeavesSame u old new ⊎ LeavesLater c d.serial u old new

-- each disk that the configuration holds as good has its copy, and the others lesser ones
pub record CopiesStand (c d : Config) (old new : Meaning) : Type 0 where
  pub each : Below c old → (i : Image) → Each new.leaves i → CopyWritten (on_shelf old) failed_in d.serial d old.units i

-- one disk more is held as failed: a call on it failed
pub record OneMarked (c d : Config) (old new : Meaning) (disk : ℕ) : Type 0 where
  pub unit : ℕ
  pub failed : Rose (old.faults unit) (new.faults unit) × Rose (old.disk_faults disk) (new.disk_faults disk)
  pub fewer : good_count d.disks + 1 ≡ good_count c.disks
  pub others : (u : ℕ) → failed_at c.disks u ≡ false → failed_at d.disks u ≡ true → u ≡ unit

-- each serial beside so many more cost a disk that was held as good
abbrev pub IsFew : ℕ → Config → Config → Type 0
IsFew more c d = d.serial + good_count d.disks ≤ c.serial + more + good_count c.disks

-- how a try ends: as it began; or with one good disk less and a fault, and the shelf up; or with the shelf down
abbrev pub TryEnds : {T : Type 0} → Config → Config → Meaning → Meaning → Result T ShelfError → Type 0
TryEnds c d old new (Ok x) = (d.disks ≡ c.disks) × AreTidy c d old new × CopiesStand c d old new
TryEnds c d old new (Err (Fault disk)) = OneMarked c d old new disk × Remain c d old new × (IsTrue new.down → ⊥)
TryEnds c d old new (Err IsDown) = IsTrue new.down

-- a set of disks as its lowest member, and 8 where it has none
abbrev pub lowest_member : ℕ → ℕ
lowest_member good = trailing_zeros w8 good

-- the count of the disk rose; or each disk of the set was held as failed, and it is the lowest of these
abbrev pub IsBlamed : ℕ → Config → Meaning → Meaning → ℕ → Type 0
IsBlamed good c old new disk = Rose (old.disk_faults disk) (new.disk_faults disk) ⊎ (NoneGood c.disks (length c.disks) good × (disk ≡ lowest_member good))

-- how tries end: with the configuration on its disks, of which one is a good disk of the set; or with none of these left, or no serial; or with
-- the shelf down
abbrev pub TriesEnd : {T : Type 0} → ℕ → Config → Config → Meaning → Meaning → Result T No → Type 0
TriesEnd good c d old new (Ok x) = (c.serial < d.serial) × HasGood d.disks good × AreTidy c d old new × CopiesStand c d old new × IsFew 1 c d
TriesEnd good c d old new (Err (refusal.Device disk)) = IsBlamed good c old new disk × (NoneGood d.disks (length d.disks) good ⊎ (greatest ≤ d.serial)) × Remain c d old new × IsFew 0 c d
TriesEnd good c d old new (Err refusal.Down) = IsTrue new.down × (d.serial ≤ c.serial + good_count c.disks)
TriesEnd good c d old new (Err other) = ⊥

-- each disk of the set was held as failed, or its count rose
pub record AllFailed (good : ℕ) (c : Config) (old new : Meaning) : Type 0 where
  pub each : (u : ℕ) → u < length c.disks → bit_at good u ≡ true → (failed_at c.disks u ≡ true) ⊎ Rose (old.faults u) (new.faults u)

-- a disk that was held as good is as it was, or has a later copy, unless its count rose
pub record Spared (c : Config) (last : ℕ) (old new : Meaning) : Type 0 where
  pub each : (u : ℕ) → HeldGood c old u → Rose (old.faults u) (new.faults u) ⊎ LeavesSame u old new ⊎ LeavesLater c last u old new

-- why a commit is refused: with 7 where each disk of the set failed or the last serial was used, and disks of which no call failed are spared;
-- with 6 where the shelf is down; with 19 where no serial was left
abbrev pub CommitStops : ℕ → Config → ℕ → Meaning → Meaning → No → Type 0
CommitStops good c last old new (refusal.Device disk) = (c.serial < greatest) × IsBlamed good c old new disk × (AllFailed good c old new ⊎ (greatest ≤ last)) × Spared c last old new
CommitStops good c last old new refusal.Down = (c.serial < greatest) × IsTrue new.down
CommitStops good c last old new (refusal.Limit Number most) = (greatest ≤ c.serial) × (most ≡ greatest)
CommitStops good c last old new other = ⊥

-- The disk failed last: from some moment of the call on the counts of a disk rose, and each other disk of the set was held as failed or had failed
-- before, but where the last serial was used.
pub record LastFailed {T : Type 0} (meaning : T → Meaning) (good : ℕ) (c : Config) (last : ℕ) (old new : T) (disk : ℕ) : Type 0 where
  pub moment : T
  pub unit : ℕ
  pub failed : Rose ((meaning moment).faults unit) ((meaning new).faults unit) × Rose ((meaning moment).disk_faults disk) ((meaning new).disk_faults disk)
  pub before : ((u : ℕ) → u < length c.disks → bit_at good u ≡ true → (u ≡ unit → ⊥) → (failed_at c.disks u ≡ true) ⊎ Rose ((meaning old).faults u) ((meaning moment).faults u)) ⊎ (greatest ≤ last)

-- 7 names the disk that failed last; where each disk of the set was held as failed, the lowest of these
abbrev pub NamesLast : {T : Type 0} → (T → Meaning) → ℕ → Config → ℕ → T → T → No → Type 0
NamesLast meaning good c last old new (refusal.Device disk) = LastFailed meaning good c last old new disk ⊎ (NoneGood c.disks (length c.disks) good × (disk ≡ lowest_member good))
NamesLast meaning good c last old new other = Unit {0}

-- the same of a call that takes memory
abbrev pub StopsLast : {T : Type 0} → (T → Meaning) → ℕ → Config → ℕ → T → T → Stop → Type 0
StopsLast meaning good c last old new (Stopped why) = NamesLast meaning good c last old new why
StopsLast meaning good c last old new OutOfMemory = Unit {0}

-- no disk came to be held as failed, or the count of this device rose
abbrev pub NamesFailed : Config → Config → Meaning → Meaning → ℕ → Type 0
NamesFailed c d old new device = (d.disks ≡ c.disks) ⊎ Rose (old.disk_faults device) (new.disk_faults device)

-- this finding is none: a disk is missing, or no disk has a configuration
abbrev pub IsNone : Finding Config → Type 0
IsNone (Found c) = ⊥
IsNone (Missing disk) = Unit {0}
IsNone NoConfig = Unit {0}
IsNone (Damaged disk block stored computed) = ⊥
IsNone (Format version) = ⊥

-- a disk that is held as failed can be read
pub record ReadsFailed (c : Config) (m : Meaning) (readable : ℕ → Bool) : Type 0 where
  pub disk : ℕ
  pub below : disk < m.units
  pub failed : failed_at c.disks disk ≡ true
  pub read : readable disk ≡ true

-- an import that reads disks that are held as failed, and none of the others, finds none; so it is where none is held as failed
pub record Silent (c : Config) (m : Meaning) : Type 0 where
  pub each : (i : Image) (readable : ℕ → Bool) → Each m.leaves i → ReadsFailed c m readable → ((u : ℕ) → HeldGood c m u → readable u ≡ false) → IsNone (import_of (on_shelf m) failed_in m.units readable i)

-- A refused commit changes the serial alone, which is the last one that it began; each but this one cost a disk. No header is above it, and what the failed disks say by
-- themselves stays none.
pub record Refused (good : ℕ) (c d : Config) (old new : Meaning) (why : No) : Type 0 where
  pub cause : CommitStops good c d.serial old new why
  pub later : c.serial ≤ d.serial
  pub few : d.serial ≤ c.serial + good_count c.disks
  pub kept : d ≡ record { serial = d.serial; site = c.site; disks = c.disks; volumes = c.volumes; rvg = c.rvg }
  pub below : Below c old → Below d new
  pub silent : Silent c old → Silent d new

-- whatever a crash leaves in the first block of a disk is a label
pub record HaveLabels (m : Meaning) : Type 0 where
  pub each : (u : ℕ) (v : List ℕ) → u < m.units → m.leaves u 0 v → is_label (seen_in v) ≡ true

-- this is the newest committed configuration, or none was committed; and the disks of the set are held as good by it
pub record WasCommitted (good : ℕ) (held : Option Config) (m : Meaning) : Type 0 where
  pub committed : Committed (on_shelf m) failed_in m.units held m.leaves
  pub members : (u : ℕ) → u < m.units → bit_at good u ≡ true → IsGood failed_in held u

-- Whichever disks can be read, an import over the image finds what it might have found before, or one of these; or a disk that was held as
-- good is torn, and it is refused with 22 for that disk, unless the torn body has the digest of its header and no later copy is read.
pub record MayFind (begun : ℕ → Config → Type 0) (c : Config) (m : Meaning) (i : Image) : Type 0 where
  pub each : (readable : ℕ → Bool) → FindsOld (on_shelf m) failed_in m.units m.leaves readable i ⊎ FindsNew (on_shelf m) failed_in begun m.units readable i ⊎ Spoilt (on_shelf m) failed_in (HeldGood c m) m.units m.leaves readable i

-- but for torn disks, whichever disks can be read, an import over the image finds one configuration, or is refused with 8 or 9: the committed
-- one, or one of these
pub record FoundOutcome (begun : ℕ → Config → Type 0) (held : Option Config) (c : Config) (m : Meaning) (i : Image) : Type 0 where
  pub found : Option Config
  pub which : (found ≡ held) ⊎ ((serial : ℕ) × (d : Config) × (found ≡ Some d) × begun serial d)
  pub each : (readable : ℕ → Bool) → Answers found (import_of (on_shelf m) failed_in m.units readable i) ⊎ Spoilt (on_shelf m) failed_in (HeldGood c m) m.units m.leaves readable i

-- what imports find at each moment of the call, and now, where the disks were ready
pub record Finds (good : ℕ) (begun : ℕ → Config → Type 0) (c : Config) (old new : Meaning) : Type 0 where
  pub since : ReadyDisks c old → Along old new (MayFind begun c old)
  pub now : ReadyDisks c old → (i : Image) → Each new.leaves i → MayFind begun c old i
  pub outcome_since : (held : Option Config) → WasCommitted good held old → ReadyDisks c old → HaveLabels old → Along old new (FoundOutcome begun held c old)
  pub outcome_now : (held : Option Config) → WasCommitted good held old → ReadyDisks c old → HaveLabels old → (i : Image) → Each new.leaves i → FoundOutcome begun held c old i

-- the disk has a copy, of its own serial, of a configuration that holds it as good
pub record OwnCopy (m : Meaning) (u : ℕ) (d : Disk) : Type 0 where
  pub config : Config
  pub area : ℕ
  pub copy : copy_of (on_shelf m) d ≡ Some (record { serial = config.serial; area = area; body = Holds config })
  pub holds : failed_at config.disks u ≡ false

-- each disk that was held as good is in the image by itself ready for the serial behind this one, unless a torn body has the digest of its header;
-- and it has a copy of before, or one of its own, or that of before is torn
pub record AreFit (c : Config) (last : ℕ) (m : Meaning) (i : Image) : Type 0 where
  pub each : (u : ℕ) → HeldGood c m u → Tidy (on_shelf m) (last + 1) (exactly (i u)) ⊎ Forged (m.leaves u) (i u)
  pub own : (u : ℕ) → HeldGood c m u → FromOld (on_shelf m) (m.leaves u) (i u) ⊎ OwnCopy m u (i u) ⊎ Torn (on_shelf m) (m.leaves u) (i u)

-- so it is at each moment of the call, where the disks were ready; and now with each disk that was
pub record StayFit (c : Config) (last : ℕ) (old new : Meaning) : Type 0 where
  pub since : ReadyDisks c old → Along old new (AreFit c last old)
  pub now : Below c old → (u : ℕ) (e : Disk) → HeldGood c old u → Counts (on_shelf old) (old.leaves u) → Among (new.leaves u) e → Tidy (on_shelf old) (last + 1) (exactly e) ⊎ Forged (old.leaves u) e
  pub own : Below c old → (u : ℕ) (e : Disk) → HeldGood c old u → Counts (on_shelf old) (old.leaves u) → Among (new.leaves u) e → FromOld (on_shelf old) (old.leaves u) e ⊎ OwnCopy old u e ⊎ Torn (on_shelf old) (old.leaves u) e

-- a disk that the call came to hold as failed
pub record Marked (c d : Config) (m : Meaning) (u : ℕ) : Type 0 where
  pub held : HeldGood c m u
  pub failed : failed_at d.disks u ≡ true

-- whatever a crash left of such a disk before the call, its greater header counted
pub record Counted (c d : Config) (m : Meaning) : Type 0 where
  pub each : (u : ℕ) → Marked c d m u → Counts (on_shelf m) (m.leaves u)

-- and a copy would have gone to one area
pub record WereTidy (c d : Config) (m : Meaning) : Type 0 where
  pub each : (u : ℕ) → Marked c d m u → Tidy (on_shelf m) (c.serial + 1) (m.leaves u)

-- A commit is done. The configuration has a later serial, the next one but for those that cost a disk each, and the failed disks held so. An import that reads a disk that it holds as good finds
-- it, or is refused with 8, whatever was committed before. Others find no other one: where an earlier one was committed, and this call marked
-- no disk that might have been torn; or where the disks that were held as failed say nothing by themselves, and this call marked none.
pub record Done (good : ℕ) (c d : Config) (old new : Meaning) : Type 0 where
  pub later : c.serial < d.serial
  pub few : IsFew 1 c d
  pub grown : Grown old new c d
  pub left : HasGood d.disks good
  pub below : Below c old → Below d new
  pub tidy : AreTidy c d old new
  pub stands : CopiesStand c d old new
  pub found : Below c old → HaveLabels old → (i : Image) (readable : ℕ → Bool) (g : ℕ) → Each new.leaves i → HeldGood d new g → readable g ≡ true
      → import_of (on_shelf new) failed_in new.units readable i ≡ settle failed_in new.units readable d
  pub newest : (held : Option Config) → WasCommitted good held old → Below c old → Counted c d old → HaveLabels old → (i : Image) (readable : ℕ → Bool) → Each new.leaves i
      → GivesConfig d (import_of (on_shelf old) failed_in old.units readable i) ⊎ Spoilt (on_shelf old) failed_in (Marked c d old) old.units old.leaves readable i
  pub committed : (held : Option Config) → WasCommitted good held old → Below c old → WereTidy c d old → HaveLabels old → WasCommitted (good_set d.disks) (Some d) new
  pub again : Below c old → Silent c old → HaveLabels old → d.disks ≡ c.disks → WasCommitted (good_set d.disks) (Some d) new
  pub silent : WasCommitted (good_set d.disks) (Some d) new → Silent d new

-- what a commit answers
abbrev pub CommitEnds : {T : Type 0} → ℕ → Config → Config → Meaning → Meaning → Result T No → Type 0
CommitEnds good c d old new (Ok x) = Done good c d old new
CommitEnds good c d old new (Err why) = Refused good c d old new why

-- and one that takes memory
abbrev pub CommitStopped : {T : Type 0} → ℕ → Config → Config → Meaning → Meaning → Result T Stop → Type 0
CommitStopped good c d old new (Ok x) = Done good c d old new
CommitStopped good c d old new (Err (Stopped why)) = Refused good c d old new why
CommitStopped good c d old new (Err OutOfMemory) = d ≡ c
