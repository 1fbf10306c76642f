-- What each call on a replicated volume group makes of it and of the shelf below, whatever shelf that is. Of its site it is said as crashes leave each block of the shelf
-- by itself.
use Rattle.std.specs.Prelude.{◌≡◌, ℕ, ◌+◌, ◌%◌, ◌<◌, ◌≤◌, List, length, take, Contains, None, Result, Ok, Err, IfErr, IfOk, OnOk, IsFalse, IsTrue}
use Rattle.vx_blockwise.specs.Blocks.{blockwise}
use Rattle.vx_disk.specs.Causes.{DeviceCause, refusal_of}
use Rattle.vx_disk.specs.Moves.{Anything, Blocks, Moves, Run}
use Rattle.vx_disk.specs.Shelf.{Goes, Meaning}
use Rattle.vx_disk.specs.declared.shelf.ShelfError.{ShelfError}
use Rattle.vx_events.specs.Sayings.{received_content}
use Rattle.vx_history.specs.World.{Node}
use Rattle.vx_model.specs.Content.{Content, blocks_in}
use Rattle.vx_model.specs.Sizes.{ring_of}
use Rattle.vx_model.specs.declared.call.Update.{Update}
use Rattle.vx_model.specs.declared.errors.Stop.{Stop}
use Rattle.vx_model.specs.declared.limits.TheConstants.{MOST_CALL_BYTES}
use Rattle.vx_model.specs.declared.no.No.{No}
use Rattle.vx_model.specs.declared.no.No.TheVariants.{Device}
use Rattle.vx_disk.specs.Counts.{Rose}
use Rattle.vx_rvg.specs.Contents.{ShowsContent}
use Rattle.vx_model.specs.declared.state.State.{State}
use Rattle.vx_model.specs.declared.units.Units.{Units}
use Rattle.vx_rvg.specs.Groups.{MakeCause, new_core}
use Rattle.vx_rvg.specs.Holdings.{nothing_logged}
use Rattle.vx_rvg.specs.Stands.{HoldsContent, Stands}
use Rattle.vx_rvg.specs.Starts.{IsStarted, StartCause, Starting, ring_in}
use Rattle.vx_rvg.specs.Views.{Core, IsSound}
use Rattle.vx_secondary.specs.Receivers.{Wait}
use Rattle.vx_srl.specs.Starts.{ReadsAtLimit}
use Rattle.vx_ground.specs.Rewrites.{OneRests}
use Rattle.vx_diskset.specs.Burning.{OffIf}
use Rattle.vx_diskset.specs.DiskSets.{CanLog, CanRead}
use Rattle.vx_diskset.specs.Holds.{KeptBeside}
use Rattle.vx_diskset.specs.Needs.{HasRoom}
use Rattle.vx_diskset.specs.Rooms.{AppliedAs, IsMore, TakesOne, logged_count}
use Rattle.vx_diskset.specs.Shelves.{ChangesOn, LoggedAs, ReadAs}
use Rattle.vx_diskset.specs.Stands.{IsReceiverAt, IsUpAt}

-- The group is sound still, on the same units; no other block has a value that it might not have.
pub record KeepsSound (c c' : Core) (old new : Meaning) : Type 0 where
  pub sound : IsSound c' new
  pub units : c'.units ≡ c.units
  pub moves : ChangesOn c old new

-- ---- a write

pub record AsksWrite (c : Core) (volume : ℕ) (bytes : List ℕ) (m : Meaning) : Type 0 where
  pub sound : IsSound c m
  pub there : volume < length c.units.vols
  pub some : 0 < length bytes
  pub few : length bytes ≤ MOST_CALL_BYTES
  pub whole : length bytes % 512 ≡ 0

pub record DoesWrite (c : Core) (volume start : ℕ) (bytes : List ℕ) (hold : ℕ) (m : Meaning) (c' : Core) (m' : Meaning) (r : Result ℕ No) : Type 0 where
  pub keeps : KeepsSound c c' m m'
  pub wrote : (beside : KeptBeside) (n : Node) → IsUpAt beside n c (blockwise m) → CanLog n volume start (blocks_in bytes) → HasRoom beside.links n hold (blocks_in bytes)
      → LoggedAs beside n (record { volume = volume; start = start; bytes = bytes }) (blockwise m) c' (blockwise m') r
  pub takes : TakesOne c c' r
  pub more : IsMore (logged_count r) c c'
  pub off : IsFalse m.down → OffIf r m'.down

-- ---- reads

pub record AsksRead (c : Core) (volume count : ℕ) (m : Meaning) : Type 0 where
  pub sound : IsSound c m
  pub there : volume < length c.units.vols
  pub some : 0 < count
  pub few : count ≤ MOST_CALL_BYTES
  pub whole : count % 512 ≡ 0

pub record DoesRead (c : Core) (volume start : ℕ) (count : ℕ) (m : Meaning) (c' : Core) (room : List ℕ) (m' : Meaning) (r : Result (Unit {0}) No) : Type 0 where
  pub keeps : KeepsSound c c' m m'
  pub same : c' ≡ c
  pub long : length room ≡ MOST_CALL_BYTES
  pub read : (beside : KeptBeside) (n : Node) → IsUpAt beside n c (blockwise m) → CanRead n volume start (blocks_in (take count room))
      → ReadAs beside n volume start (blocks_in (take count room)) (take count room) c' (blockwise m) (blockwise m') r
  pub down : m'.down ≡ m.down

-- what a receiver shows: the content after all writes that were received
abbrev pub ShownAs : KeptBeside → Node → ℕ → ℕ → ℕ → List ℕ → Core → List Update → Meaning → Meaning → Result (Unit {0}) No → Type 0
ShownAs beside n volume start count bytes c' us m new (Ok done) = (IsTrue new.tells → ShowsContent (received_content n) volume start count bytes) × IsReceiverAt beside n c' us new
ShownAs beside n volume start count bytes c' us m new (Err (Device disk)) = IsReceiverAt beside n c' us new × Rose (m.disk_faults disk) (new.disk_faults disk)
ShownAs beside n volume start count bytes c' us m new (Err other) = ⊥

pub record AsksShow (c : Core) (us : List Update) (volume count : ℕ) (m : Meaning) : Type 0 where
  pub read : AsksRead c volume count m
  pub waits : Wait c m.size us

pub record DoesShow (c : Core) (us : List Update) (volume start count : ℕ) (m : Meaning) (c' : Core) (us' : List Update) (room : List ℕ) (m' : Meaning) (r : Result (Unit {0}) No) : Type 0 where
  pub keeps : KeepsSound c c' m m'
  pub same : c' ≡ c
  pub waiting : us' ≡ us
  pub long : length room ≡ MOST_CALL_BYTES
  pub shown : (beside : KeptBeside) (n : Node) → IsReceiverAt beside n c us (blockwise m) → CanRead n volume start (blocks_in (take count room))
      → ShownAs beside n volume start (blocks_in (take count room)) (take count room) c' us' (blockwise m) (blockwise m') r
  pub down : m'.down ≡ m.down

-- ---- an apply

pub record DoesApply (c : Core) (to : ℕ) (m : Meaning) (c' : Core) (m' : Meaning) (r : Result ℕ No) : Type 0 where
  pub keeps : KeepsSound c c' m m'
  pub applied : (beside : KeptBeside) (n : Node) → IsUpAt beside n c (blockwise m) → n.halted ≡ None → AppliedAs beside n to c' (blockwise m) (blockwise m') r
  pub reached : IfOk r (λ number. c'.applied ≡ number)
  pub off : OffIf r m'.down

-- ---- the making and the start

-- no block changed but those of the log
abbrev pub LogBlocks : Units → Blocks
LogBlocks units u b = u ≡ units.srl

abbrev pub OnlyLog : Units → Meaning → Meaning → Type 0
OnlyLog units old new = Moves (LogBlocks units) Anything old new

abbrev pub DoesMake : Units → State → Meaning → Meaning → Result Core Stop → Type 0
DoesMake units state m m' (Ok c) =
    OnlyLog units m m' × IsSound c m' × (c ≡ new_core units state (ring_of (m.size units.srl)) c.maps) × (IsTrue m'.down → ⊥)
    × (IsTrue m.tells → (k : Content) (maps : List (List ℕ)) → HoldsContent units k maps m → Stands c (nothing_logged k maps) m')
DoesMake units state m m' (Err stop) = OnlyLog units m m' × MakeCause m m' stop

abbrev pub DoesStart : Units → Meaning → Meaning → Result Core No → Type 0
DoesStart units m m' (Ok c) = OnlyLog units m m' × IsSound c m' × IsStarted units m c m' × (IsTrue m'.down → ⊥)
DoesStart units m m' (Err why) = OnlyLog units m m' × Moves (Run units.srl 0 (ring_in units m + 2)) (Starting units m) m m' × StartCause units m m' why × ReadsAtLimit m m' why

-- ---- volumes that are written as they read

-- Whatever is answered, each block has a value that it might have; done, each block of these units has one.
pub record DoesRewrite (volumes : List ℕ) (m m' : Meaning) (r : Result (Unit {0}) ShelfError) : Type 0 where
  pub goes : Goes m.leaves m m'
  pub one : OnOk r ((u : ℕ) → Contains volumes u → OneRests u m')
  pub cause : IfErr r (λ e. DeviceCause m m' (refusal_of e))
