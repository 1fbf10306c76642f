-- A group that stands on its shelf with what it holds, and what a crash leaves of it.
use Rattle.std.specs.Prelude.{◌≡◌, ◌⊎◌, ℕ, ◌-◌, ◌*◌, ◌<◌, ◌≤◌, IsTrue, List, [], ◌∷◌, ◌++◌, length, take, drop, slice_get, None, Some, All}
use Rattle.vx_model.specs.declared.limits.TheConstants.{BLOCK}
use Rattle.vx_model.specs.Content.{Content, Write, block_of}
use Rattle.vx_model.specs.declared.call.Update.{Update}
use Rattle.vx_model.specs.declared.state.State.{State as SiteState}
use Rattle.vx_model.specs.declared.units.Units.{Units}
use Rattle.vx_srlfmt.specs.declared.header.Header.{Header}
use Rattle.vx_disk.specs.Shelf.{Meaning, Image, Keeps}
use Rattle.vx_bitmap.specs.Maps.{map_block_count}
use Rattle.vx_dcm.specs.Places.{Maps}
use Rattle.vx_overlay.specs.Pending.{newest}
use Rattle.vx_ringlog.specs.Cells.{RingImage as Kinds}
use Rattle.vx_ringlog.specs.Chain.{Recovers}
use Rattle.vx_ringlog.specs.Logs.{State}
use Rattle.vx_ringlog.specs.Records.{Record, given}
use Rattle.vx_ringio.specs.Classes.{classes}
use Rattle.vx_ringio.specs.Reading.{LeavesAs}
use Rattle.vx_srl.specs.Rings.{RingOn}
use Rattle.vx_overlay.specs.Writes.{entries_of}
use Rattle.vx_overlay.specs.declared.entry.Entry.{Entry}
use Rattle.vx_rvg.specs.Contents.{writes_of, HasSizes, KeepsContent, HasContent}
use Rattle.vx_rvg.specs.Holdings.{Holding, kept_in, update_of, with_writes}
use Rattle.vx_rvg.specs.Views.{Core, unit_of, applied_count}

-- the record has as many whole blocks as its header says
abbrev pub IsWholeRecord : Record → Type 0
IsWholeRecord r = length (given r) ≡ BLOCK * r.head.count

-- the blocks of these writes, and of those that are staged behind them
abbrev pub entries_waiting : (ℕ → ℕ) → List Write → List Write → List Entry
entries_waiting size xs [] = entries_of size xs
entries_waiting size xs (y ∷ ys) = entries_of size xs ++ entries_of size (y ∷ ys)

-- The log stands with these records staged, each record of it is whole, and the volumes with its writes over them have the content. What waits are the blocks of
-- the writes that are not applied and of those that are staged, and each other block of a volume has the content by itself.
pub record ReadyWith (staged : List Record) (core : Core) (c : Content) (s : State) (m : Meaning) : Type 0 where
  pub ring : RingOn core.log s m
  pub idle : s.staged ≡ staged
  pub whole : All IsWholeRecord s.held
  pub sizes : HasSizes core.units.vols c m
  pub content : KeepsContent core.units.vols c (writes_of s.held) m
  pub waiting : core.pending.entries ≡ entries_waiting c.size (writes_of (drop (applied_count core) s.held)) (writes_of staged)
  pub settled : (v b : ℕ) → b < c.size v → newest core.pending.entries v b ≡ None → Keeps m (unit_of core.units.vols v) b (c.block v b)

-- the same where nothing is staged
abbrev pub Ready : Core → Content → State → Meaning → Type 0
Ready core c s m = ReadyWith [] core c s m

-- The volumes with the writes of these records over them have the content. What waits are the blocks of those that are not applied, and each other block of a
-- volume has the content by itself.
pub record IsCovered (core : Core) (c : Content) (rs : List Record) (m : Meaning) : Type 0 where
  pub whole : All IsWholeRecord rs
  pub sizes : HasSizes core.units.vols c m
  pub content : KeepsContent core.units.vols c (writes_of rs) m
  pub waiting : core.pending.entries ≡ entries_of c.size (writes_of (drop (applied_count core) rs))
  pub settled : (v b : ℕ) → b < c.size v → newest core.pending.entries v b ≡ None → Keeps m (unit_of core.units.vols v) b (c.block v b)

-- the change maps in memory are the first ones of these blocks, as far as these are known
pub record HasMarks (d : Maps) (maps : List (List ℕ)) : Type 0 where
  pub each : (k : ℕ) (bytes : List ℕ) → k < map_block_count d.map → slice_get maps k ≡ Some bytes → bytes ≡ block_of d.map.bytes k

-- whatever a crash leaves, the first blocks of the map unit are these: all of them, where it is known what it holds
pub record KeepsMaps (units : Units) (maps : List (List ℕ)) (m : Meaning) : Type 0 where
  pub size : length maps ≤ m.size units.maps
  pub each : (b : ℕ) (bytes : List ℕ) → slice_get maps b ≡ Some bytes → Keeps m units.maps b bytes

-- the same of one image
pub record HasMaps (units : Units) (maps : List (List ℕ)) (i : Image) : Type 0 where
  pub each : (b : ℕ) (bytes : List ℕ) → slice_get maps b ≡ Some bytes → i units.maps b ≡ bytes

-- the volumes by themselves have the content, and the map unit has these blocks
pub record HoldsContent (units : Units) (c : Content) (maps : List (List ℕ)) (m : Meaning) : Type 0 where
  pub sizes : HasSizes units.vols c m
  pub blocks : (v b : ℕ) → b < c.size v → Keeps m (unit_of units.vols v) b (c.block v b)
  pub maps_are : KeepsMaps units maps m

-- a group that holds this, with these records staged: its log has these writes and no other, and its change maps are those of the map unit
pub record StandsWith (staged : List Record) (core : Core) (h : Holding) (m : Meaning) : Type 0 where
  pub log : State
  pub ready : ReadyWith staged core h.content log m
  pub low : core.log.header.low ≡ h.low
  pub writes : writes_of log.held ≡ h.writes
  pub place : core.log.header.place ≡ h.place
  pub maps : KeepsMaps core.units h.maps m
  pub marks : HasMarks core.maps h.maps

-- the same where nothing is staged
abbrev pub Stands : Core → Holding → Meaning → Type 0
Stands core h m = StandsWith [] core h m

-- An image has a log of this state and session, with a stamp up to this one, that has these writes from the first number and the first
-- place on and no other; the content with them; and the maps.
pub record FoundGroup (units : Units) (ring : ℕ) (state : SiteState) (session stamp : ℕ) (i : Image) (h : Holding) : Type 0 where
  pub header : Header
  pub records : List Record
  pub recovers : Recovers ring (classes units.srl ring i) header records
  pub state_is : header.state ≡ state
  pub session_is : header.incarnation ≡ session
  pub stamp_most : header.stamp ≤ stamp
  pub some : 0 < h.low
  pub low_is : header.low ≡ h.low
  pub writes_are : writes_of records ≡ h.writes
  pub place_is : header.place ≡ h.place
  pub content : HasContent units.vols h.content h.writes i
  pub maps : HasMaps units h.maps i

-- the same with the state and the session that the group has
abbrev pub FoundAs : Core → Image → Holding → Type 0
FoundAs core i h = FoundGroup core.units core.log.ring core.log.header.state core.log.header.incarnation core.log.header.stamp i h

-- Of whatever the group held: an image in the logging of these writes has it, with a first part of them, which may be none or all.
pub record Writing (core : Core) (xs : List Write) (m : Meaning) (i : Image) : Type 0 where
  pub each : (h : Holding) → Stands core h m → (k : ℕ) × FoundAs core i (with_writes (take k xs) h)

-- an image in a call that changes nothing of what the group held has it
pub record Resting (core : Core) (m : Meaning) (i : Image) : Type 0 where
  pub each : (h : Holding) → Stands core h m → FoundAs core i h

-- behind the call the group holds what it held
pub record Rests (core after : Core) (old new : Meaning) : Type 0 where
  pub each : (h : Holding) → Stands core h old → Stands after h new

-- behind a call that writes a header it holds what it held, but for the writes that its log gave up
pub record Retains (core after : Core) (old new : Meaning) : Type 0 where
  pub each : (h : Holding) → Stands core h old → Stands after (kept_in after h) new

-- an image in a call that writes a header has what the group held behind the old header, or what the log has of it behind the new one
pub record Saving (core after : Core) (m : Meaning) (i : Image) : Type 0 where
  pub each : (h : Holding) → Stands core h m → FoundAs core i h ⊎ FoundAs after i (kept_in after h)

-- Whatever a crash left, it is one log, of this state and session, that has these writes from the first number and the first place on
-- and no other; the content with them; and the maps.
pub record LeftGroup (units : Units) (ring : ℕ) (state : SiteState) (session stamp : ℕ) (h : Holding) (m : Meaning) : Type 0 where
  pub header : Header
  pub records : List Record
  pub kinds : Kinds
  pub leaves : LeavesAs units.srl ring kinds m
  pub recovers : Recovers ring kinds header records
  pub state_is : header.state ≡ state
  pub session_is : header.incarnation ≡ session
  pub stamp_most : header.stamp ≤ stamp
  pub some : 0 < h.low
  pub low_is : header.low ≡ h.low
  pub writes_are : writes_of records ≡ h.writes
  pub place_is : header.place ≡ h.place
  pub sizes : HasSizes units.vols h.content m
  pub content : KeepsContent units.vols h.content h.writes m
  pub maps : KeepsMaps units h.maps m

-- what a fetch of a number gives: the write that the group holds under it, on the line of its log
pub record GivesWrite (core : Core) (n : ℕ) (m : Meaning) (update : Update) : Type 0 where
  pub each : (h : Holding) → Stands core h m → IsTrue m.tells
      → (x : Write) × (slice_get h.writes (n - h.low) ≡ Some x) × (update ≡ update_of core.log.header.state.line n x)
