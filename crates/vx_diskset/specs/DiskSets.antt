-- What the calls on the disks of a site promise.
use Rattle.std.specs.Prelude.{◌≡◌, ℕ, ◌+◌, ◌*◌, ◌<◌, ◌≤◌, ◌++◌, ◌∷◌, [], ◌⊎◌, min, length, take, Option, Some, None, Result, Ok, Err, List, IsTrue, true}
use Rattle.vx_disk.specs.Maps.{maps_of}
use Rattle.vx_model.specs.declared.limits.TheConstants.{LEAST_BLOCKS, LINK_PLACES, MOST_DISKS}
use Rattle.vx_model.specs.Content.{Write}
use Rattle.vx_history.specs.World.{Node, bare_site}
use Rattle.vx_history.specs.Steps.{logged, raw_set, half_begun, crashed, recovered, burned, worked}
use Rattle.vx_model.specs.Sites.{is_origin}
use Rattle.vx_model.specs.Sizes.{ring_of}
use Rattle.vx_model.specs.declared.site.SiteState.TheVariants.{Up as IsUp}
use Rattle.vx_diskset.specs.Holds.{KeptBeside, KeptSite, itself, sure_of}
use Rattle.vx_model.specs.declared.errors.Stop.{Stop}
use Rattle.vx_model.specs.declared.errors.Stop.TheVariants.{No as Refused, OutOfMemory}
use Rattle.vx_model.specs.declared.no.No.{No}
use Rattle.vx_model.specs.declared.no.No.TheVariants.{Device, Limit, NoConfig, Down as IsDown}
use Rattle.vx_model.specs.declared.no.Counted.TheVariants.{Number}
use Rattle.vx_disk.specs.Counts.{Rose}
use Rattle.vx_disk.specs.Racks.{most_blocks}
use Rattle.vx_disk.specs.Shelf.{Meaning}
use Rattle.vx_disk.specs.declared.shelf.Shelf.{Ghosts}
use Rattle.vx_rvg.specs.Starts.{Room}
use Rattle.vx_rvg.specs.Contents.{ShowsContent}
use Rattle.vx_srl.specs.Views.{most_number}
use Rattle.vx_diskset.specs.declared.disk_set.DiskSet.{DiskSet}
use Rattle.vx_events.specs.Found.{SameDisks}
use Rattle.vx_diskset.specs.Holds.{most_header}
use Rattle.vx_history.specs.Stops.{IsFused}
use Rattle.vx_events.specs.Fuses.{IsExact}
use Rattle.vx_diskset.specs.Layouts.{raw_units}
use Rattle.vx_diskset.specs.Stands.{CutAt, IsRackTold, IsToldAt, IsUnused, RoleIs, SiteStands, StandsAlone, faults_at}

-- a write that nothing but a failing disk or want of a number can refuse
pub record CanWrite (n : Node) (volume start count : ℕ) : Type 0 where
  pub origin : is_origin n.role ≡ true
  pub up : n.state ≡ IsUp
  pub running : n.halted ≡ None
  pub volume_exists : volume < length n.volumes
  pub fits : count + 1 ≤ n.ring
  pub within : start + count ≤ n.base.size volume

-- a write that a site may log, whatever its role
pub record CanLog (n : Node) (volume start count : ℕ) : Type 0 where
  pub up : n.state ≡ IsUp
  pub running : n.halted ≡ None
  pub volume_exists : volume < length n.volumes
  pub fits : count + 1 ≤ n.ring
  pub within : start + count ≤ n.base.size volume

-- the same of a read
pub record CanRead (n : Node) (volume start count : ℕ) : Type 0 where
  pub up : n.state ≡ IsUp
  pub running : n.halted ≡ None
  pub volume_exists : volume < length n.volumes
  pub within : start + count ≤ n.base.size volume

-- a site with a write that met this failing disk
abbrev pub halted_with : Node → Write → ℕ → Node
halted_with n x disk = record n { log = n.log ++ x ∷ []; halted = Some disk; fuse = burned n.fuse }

-- a site that a failing disk halted
abbrev pub halted_at : Node → ℕ → Node
halted_at n disk = record n { halted = Some disk; fuse = burned n.fuse }

-- a site with the first of its writes alone, so many
abbrev pub with_first : Node → ℕ → Node
with_first n k = record n { log = take k n.log }

-- a site that crashed as another one, with so many writes; what it notes of its group stays
abbrev pub fell_to : (n k : Node) → (count : ℕ) → Node
fell_to n k count = record (crashed k count) { group = n.group }

abbrev pub no_number : No
no_number = Limit Number most_number

-- an apply that nothing but a failing disk can refuse
pub record CanApply (n : Node) : Type 0 where
  pub up : n.state ≡ IsUp
  pub running : n.halted ≡ None

-- disks on which a raw set can be, for whose log and change maps there is this room
pub record CanHold (room : Room) (m : Meaning) : Type 0 where
  pub some : 3 ≤ m.units
  pub few : m.units ≤ MOST_DISKS
  pub large : LEAST_BLOCKS ≤ m.size (raw_units m.units).srl
  pub is_ring : room.ring ≡ ring_of (m.size (raw_units m.units).srl)
  pub maps : LINK_PLACES * maps_of (raw_units m.units).vols m ≤ m.size (raw_units m.units).maps
  pub takes : LINK_PLACES * maps_of (raw_units m.units).vols m ≤ room.maps

-- the same of disks that are down
pub record CanStart (room : Room) (m : Meaning) : Type 0 where
  pub holds : CanHold room m
  pub down : IsTrue m.down

module _ {R : Type 0} {g : Ghosts R} where
  -- no count of a disk falls, and contents that are told now were told before
  pub record Later (old new : DiskSet R g) : Type 0 where
    pub counts : (d : ℕ) → faults_at old d ≤ faults_at new d
    pub told : IsRackTold new → IsRackTold old

  -- the count of this disk rose
  abbrev pub RoseAt : DiskSet R g → DiskSet R g → ℕ → Type 0
  RoseAt old new disk = Rose (faults_at old disk) (faults_at new disk)

  -- the disks of a new site, whatever its name; or a failing disk, want of memory, or more blocks than there may be
  abbrev pub FitIs : {T : Type 0} → Option T → ℕ → ℕ → DiskSet R g → DiskSet R g → Result (Unit {0}) Stop → Type 0
  FitIs dir disks blocks old new (Ok done) = (beside : KeptBeside) (name : List ℕ) → SiteStands beside (bare_site name disks blocks) new
  FitIs dir disks blocks old new (Err OutOfMemory) = IsUnused new
  FitIs dir disks blocks old new (Err (Refused (Device disk))) = IsUnused new × RoseAt old new disk
  FitIs dir disks blocks old new (Err (Refused other)) = most_blocks dir < blocks

  -- the disks of a bare site as a raw set without links, or as they were, with a failing disk or want of memory
  abbrev pub MadeIs : ℕ → Node → DiskSet R g → DiskSet R g → Result (Unit {0}) Stop → Type 0
  MadeIs site n old new (Ok done) = StandsAlone (raw_set site n) new
  MadeIs site n old new (Err OutOfMemory) = (beside : KeptBeside) → SiteStands beside n new
  MadeIs site n old new (Err (Refused (Device disk))) = ((beside : KeptBeside) → SiteStands beside n new) × RoseAt old new disk
  MadeIs site n old new (Err (Refused other)) = ⊥

  -- A site that crashed, as its node says it or as what it might be besides, with one of the numbers of writes that a crash may keep. What it notes of its group stays.
  pub record CrashedAt (beside : KeptBeside) (n : Node) (new : DiskSet R g) : Type 0 where
    pub kept : KeptSite
    pub is : (kept ≡ itself beside n) ⊎ (beside.doubt ≡ Some kept)
    pub count : ℕ
    pub least : kept.node.safe ≤ count
    pub most : count ≤ length kept.node.log
    pub stands : SiteStands (sure_of kept) (fell_to n kept.node count) new

  -- A running site that crashed, as its node says it, with one of the numbers of writes up to this one: none is kept that waits behind it.
  pub record CrashedTo (beside : KeptBeside) (n : Node) (limit : ℕ) (new : DiskSet R g) : Type 0 where
    pub count : ℕ
    pub least : n.safe ≤ count
    pub few : count ≤ limit
    pub most : count ≤ length n.log
    pub stands : SiteStands (sure_of (itself beside n)) (crashed n count) new

  -- the next number, or a failing disk, or want of a number; or its fuse ran out, and then this holds of the site with the write begun
  abbrev pub WroteWith : (Node → DiskSet R g → Type 0) → KeptBeside → Node → Write → DiskSet R g → DiskSet R g → Result ℕ No → Type 0
  WroteWith Off beside n x old new (Ok number) = (number ≡ n.safe + 1) × (n.safe < most_number) × SiteStands beside (logged n x) new × ((calls : ℕ) → IsToldAt new → IsExact n x calls → 4 ≤ calls)
  WroteWith Off beside n x old new (Err (Device disk)) = SiteStands beside (halted_with n x disk) new × RoseAt old new disk × (n.safe < most_number)
  WroteWith Off beside n x old new (Err (Limit what most)) = (Limit what most ≡ no_number) × (IsToldAt new → most_number ≤ most_header beside n) × SiteStands beside (worked n) new
  WroteWith Off beside n x old new (Err IsDown) = IsFused n.fuse × Off (half_begun n x) new × ((calls : ℕ) → IsToldAt new → IsExact n x calls → calls < 4) × (n.safe < most_number)
  WroteWith Off beside n x old new (Err other) = ⊥

  -- a write behind which the site of a fuse that ran out crashed, and one behind which it has not crashed yet
  abbrev pub WroteAt : KeptBeside → Node → Write → DiskSet R g → DiskSet R g → Result ℕ No → Type 0
  WroteAt beside n x old new result = WroteWith (λ k e. CrashedAt beside k e) beside n x old new result

  abbrev pub WroteUp : KeptBeside → Node → Write → DiskSet R g → DiskSet R g → Result ℕ No → Type 0
  WroteUp beside n x old new result = WroteWith (λ k e. CutAt beside k e) beside n x old new result

  -- the same of a site of any role, of which it is not known how many calls a write is
  abbrev pub LoggedUp : KeptBeside → Node → Write → DiskSet R g → DiskSet R g → Result ℕ No → Type 0
  LoggedUp beside n x old new (Ok number) = (number ≡ n.safe + 1) × (n.safe < most_number) × SiteStands beside (logged n x) new × (is_origin n.role ≡ true → (calls : ℕ) → IsToldAt new → IsExact n x calls → 4 ≤ calls)
  LoggedUp beside n x old new (Err (Device disk)) = SiteStands beside (halted_with n x disk) new × RoseAt old new disk × (n.safe < most_number)
  LoggedUp beside n x old new (Err (Limit what most)) = (Limit what most ≡ no_number) × (IsToldAt new → most_number ≤ most_header beside n) × SiteStands beside (worked n) new
  LoggedUp beside n x old new (Err IsDown) =
      IsFused n.fuse × CutAt beside (half_begun n x) new × (is_origin n.role ≡ true → (calls : ℕ) → IsToldAt new → IsExact n x calls → calls < 4) × (n.safe < most_number)
  LoggedUp beside n x old new (Err other) = ⊥

  -- the blocks, which are those of the content where it is told, or a failing disk
  abbrev pub ReadAt : KeptBeside → Node → ℕ → ℕ → ℕ → List ℕ → DiskSet R g → DiskSet R g → Result (Unit {0}) No → Type 0
  ReadAt beside n volume start count bytes old new (Ok done) = (IsToldAt new → ShowsContent n.base volume start count bytes) × SiteStands beside n new
  ReadAt beside n volume start count bytes old new (Err (Device disk)) = SiteStands beside n new × RoseAt old new disk
  ReadAt beside n volume start count bytes old new (Err other) = ⊥

  -- A site that came up: in its next session, where contents are told, and else with whatever stands on its disks.
  pub record CameUp (beside : KeptBeside) (n : Node) (new : DiskSet R g) : Type 0 where
    pub node : Node
    pub is : IsToldAt new → node ≡ recovered n
    pub same : SameDisks n node
    -- all its writes are durable
    pub whole : length node.log ≡ node.safe
    pub stands : SiteStands beside node new
    -- there was a further session
    pub next : IsToldAt new → n.session < most_number

  -- the same, with its group as its role has it
  pub record CameUpBy (beside : KeptBeside) (n : Node) (new : DiskSet R g) : Type 0 where
    pub came : CameUp beside n new
    pub role : RoleIs came.node new

  -- a site that stays down, maybe in the next session
  abbrev pub StillDown : KeptBeside → Node → DiskSet R g → Type 0
  StillDown beside n new = SiteStands beside n new ⊎ (SiteStands beside (record n { session = n.session + 1 }) new × (n.session < most_number))

  -- it came up, or a disk failed, or no number is left; nothing else where contents are told
  abbrev pub CameUpIs : KeptBeside → Node → DiskSet R g → DiskSet R g → Result (Unit {0}) No → Type 0
  CameUpIs beside n old new (Ok done) = CameUp beside n new
  CameUpIs beside n old new (Err (Device disk)) = StillDown beside n new × RoseAt old new disk
  CameUpIs beside n old new (Err (Limit what most)) = (Limit what most ≡ no_number) × (IsToldAt new → most_number ≤ most_header beside n + 2) × SiteStands beside n new
  CameUpIs beside n old new (Err other) = (IsToldAt new → ⊥) × SiteStands beside n new

  -- the same of a site that comes up by its role
  abbrev pub CameUpByIs : KeptBeside → Node → DiskSet R g → DiskSet R g → Result (Unit {0}) No → Type 0
  CameUpByIs beside n old new (Ok done) = CameUpBy beside n new
  CameUpByIs beside n old new (Err why) = CameUpIs beside n old new (Err why)

  -- a raw set that an earlier run left on the disks of a bare site: contents are not told
  pub record BareUp (n : Node) (new : DiskSet R g) : Type 0 where
    pub untold : IsToldAt new → ⊥
    pub node : Node
    pub same : SameDisks (raw_set 0 n) node
    pub whole : length node.log ≡ node.safe
    pub stands : (beside : KeptBeside) → beside.doubt ≡ None → SiteStands beside node new

  -- the same, with its group as its role has it
  pub record BareUpBy (n : Node) (new : DiskSet R g) : Type 0 where
    pub came : BareUp n new
    pub role : RoleIs came.node new

  -- a bare site whose disks hold nothing, or one of which failed; or, where contents are not told, whatever stands on them
  abbrev pub BareUpIs : Node → DiskSet R g → DiskSet R g → Result (Unit {0}) No → Type 0
  BareUpIs n old new (Ok done) = BareUp n new
  BareUpIs n old new (Err (Device disk)) = ((beside : KeptBeside) → SiteStands beside n new) × RoseAt old new disk
  BareUpIs n old new (Err NoConfig) = (beside : KeptBeside) → SiteStands beside n new
  BareUpIs n old new (Err other) = (IsToldAt new → ⊥) × ((beside : KeptBeside) → SiteStands beside n new)

  -- the same of a site that comes up by its role
  abbrev pub BareUpByIs : Node → DiskSet R g → DiskSet R g → Result (Unit {0}) No → Type 0
  BareUpByIs n old new (Ok done) = BareUpBy n new
  BareUpByIs n old new (Err why) = BareUpIs n old new (Err why)

  -- The number up to which all writes are in their volumes, or a failing disk; or its fuse ran out, and then this holds of the site and of the writes that are
  -- durable.
  abbrev pub AppliedWith : (ℕ → Node → DiskSet R g → Type 0) → KeptBeside → Node → ℕ → DiskSet R g → DiskSet R g → Result ℕ No → Type 0
  AppliedWith Off beside n to old new (Ok number) = (min to n.safe ≤ number) × (number ≤ n.safe) × SiteStands beside (worked n) new
  AppliedWith Off beside n to old new (Err (Device disk)) = SiteStands beside (halted_at n disk) new × RoseAt old new disk
  AppliedWith Off beside n to old new (Err IsDown) = IsFused n.fuse × Off n.safe n new
  AppliedWith Off beside n to old new (Err other) = ⊥

  -- an apply behind which the site of a fuse that ran out crashed, and one behind which it has not crashed yet
  abbrev pub AppliedAt : KeptBeside → Node → ℕ → DiskSet R g → DiskSet R g → Result ℕ No → Type 0
  AppliedAt beside n to old new result = AppliedWith (λ most k e. CrashedTo beside k most e) beside n to old new result

  abbrev pub AppliedUp : KeptBeside → Node → ℕ → DiskSet R g → DiskSet R g → Result ℕ No → Type 0
  AppliedUp beside n to old new result = AppliedWith (λ most k e. CutAt beside (with_first k most) e) beside n to old new result
