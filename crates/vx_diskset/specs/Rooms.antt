-- A site whose log has room for a write, and how it came to it.
use Rattle.std.specs.Prelude.{◌≡◌, ℕ, ◌<◌, ◌≤◌, min, List, None, Result, Ok, Err, OnOk, IsTrue, IsFalse, ◌+◌}
use Rattle.vx_history.specs.World.{Node}
use Rattle.vx_model.specs.declared.no.No.{No}
use Rattle.vx_history.specs.Steps.{burned, worked}
use Rattle.vx_model.specs.declared.no.No.TheVariants.{Device, Limit, Down}
use Rattle.vx_model.specs.declared.state.KeptLink.{KeptLink}
use Rattle.vx_diskset.specs.Holds.{KeptBeside}
use Rattle.vx_disk.specs.Counts.{Rose}
use Rattle.vx_disk.specs.Shelf.{Meaning}
use Rattle.vx_rvg.specs.Views.{Core, last_of}
use Rattle.vx_srl.specs.Views.{most_number}
use Rattle.vx_diskset.specs.DiskSets.{no_number, halted_at}
use Rattle.vx_diskset.specs.Lasts.{StandsHolding}
use Rattle.vx_diskset.specs.Holds.{state_with}
use Rattle.vx_diskset.specs.Layouts.{LiesOn, units_of}
use Rattle.vx_diskset.specs.Needs.{TakesAs}
use Rattle.vx_diskset.specs.Holds.{most_header}
use Rattle.vx_history.specs.Stops.{IsFused}
use Rattle.vx_diskset.specs.Fuses.{FuseOn}
use Rattle.vx_diskset.specs.Stands.{IsUpAt, IsHeldAt}

-- a site that is up and runs, before a write: its log may have used the one stamp that the write makes room for
pub record IsRoomy (beside : KeptBeside) (n : Node) (c : Core) (m : Meaning) : Type 0 where
  pub up : IsFalse m.down
  pub lies : LiesOn n m
  pub fuse : FuseOn (burned n.fuse) m
  pub units : c.units ≡ units_of n
  pub ring : c.log.ring ≡ n.ring
  pub found : List KeptLink
  pub kept : c.log.header.state ≡ state_with n found
  pub linked : IsTrue m.tells → found ≡ beside.links
  pub session : c.log.header.incarnation ≡ n.session
  pub first : 0 < c.log.header.low
  pub head : last_of c ≡ n.safe
  pub running : c.halted ≡ None
  pub stamp : IsTrue m.tells → c.log.header.stamp ≤ most_header beside n
  pub takes : TakesAs c.log n.log
  pub content : IsTrue m.tells → StandsHolding c n.log n.base m

-- what an apply answers of a site that is up: the number, or a failing disk; or its fuse ran out
abbrev pub AppliedAs : KeptBeside → Node → ℕ → Core → Meaning → Meaning → Result ℕ No → Type 0
AppliedAs beside n to c' m new (Ok number) = (min to n.safe ≤ number) × (number ≤ n.safe) × IsUpAt beside (worked n) c' new
AppliedAs beside n to c' m new (Err (Device disk)) = IsUpAt beside (halted_at n disk) c' new × Rose (m.disk_faults disk) (new.disk_faults disk)
AppliedAs beside n to c' m new (Err Down) = IsFused n.fuse × IsHeldAt beside n new
AppliedAs beside n to c' m new (Err other) = ⊥

-- the log of a site that is up has room; or a failing disk, or want of a number; or its fuse ran out
abbrev pub RoomIs : KeptBeside → Node → Meaning → Core → Meaning → Result (Unit {0}) No → Type 0
RoomIs beside n old c new (Ok done) = IsRoomy beside n c new
RoomIs beside n old c new (Err (Device disk)) = IsUpAt beside (halted_at n disk) c new × Rose (old.disk_faults disk) (new.disk_faults disk)
RoomIs beside n old c new (Err (Limit what most)) = (Limit what most ≡ no_number) × (IsTrue new.tells → most_number ≤ most_header beside n) × IsUpAt beside (worked n) c new
RoomIs beside n old c new (Err Down) = IsFused n.fuse × IsHeldAt beside n new
RoomIs beside n old c new (Err other) = ⊥

-- the same group with so many writes more in its log
pub record IsMore (count : ℕ) (c c' : Core) : Type 0 where
  pub units : c'.units ≡ c.units
  pub ring : c'.log.ring ≡ c.log.ring
  pub line : c'.log.header.state.line ≡ c.log.header.state.line
  pub last : last_of c' ≡ last_of c + count

-- how many writes a call logged that logs one
abbrev pub logged_count : {T : Type 0} → Result T No → ℕ
logged_count (Ok done) = 1
logged_count (Err why) = 0

-- it is not for want of a number that a call was refused
abbrev pub NeverLimit : {T : Type 0} → Result T No → Type 0
NeverLimit (Ok done) = Unit {0}
NeverLimit (Err (Limit what most)) = ⊥
NeverLimit (Err other) = Unit {0}

-- a stamp and a number are left for each of so many more writes
pub record HasNumbers (c : Core) (count : ℕ) : Type 0 where
  pub stamps : c.log.header.stamp + count ≤ most_number
  pub numbers : last_of c + count ≤ most_number

-- a call that takes one stamp and one number at most: it is not refused for want of one while there is one
pub record TakesOne {T : Type 0} (c c' : Core) (result : Result T No) : Type 0 where
  pub never : HasNumbers c 1 → NeverLimit result
  pub stamp : OnOk result (c'.log.header.stamp ≤ c.log.header.stamp + 1)
