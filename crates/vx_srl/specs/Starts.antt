-- How a log is made and started.
use Rattle.std.specs.Prelude.{◌≡◌, ◌⊎◌, ℕ, ◌+◌, ◌≤◌, ◌<◌, ◌++◌, Result, Ok, Err, List, [], IsTrue}
use Rattle.vx_model.specs.declared.errors.Stop.{Stop}
use Rattle.vx_model.specs.declared.errors.Stop.TheVariants.{No as Refused, OutOfMemory}
use Rattle.vx_model.specs.declared.no.No.{No}
use Rattle.vx_model.specs.declared.no.No.TheVariants.{Damaged, NoConfig, Limit}
use Rattle.vx_model.specs.declared.no.Counted.TheVariants.{Number}
use Rattle.vx_model.specs.declared.state.State.{State as SiteState}
use Rattle.vx_srlfmt.specs.Kinds.{Other}
use Rattle.vx_srlfmt.specs.declared.header.Header.{Header}
use Rattle.vx_disk.specs.Shelf.{Meaning, Image, Goes, Nothing}
use Rattle.vx_ringlog.specs.Acts.{head_acts}
use Rattle.vx_ringlog.specs.Cells.{Cells, RingImage as Kinds, run_all, still}
use Rattle.vx_ringlog.specs.Chain.{IsGreaterTop, Recovers}
use Rattle.vx_ringlog.specs.Logs.{State}
use Rattle.vx_ringlog.specs.Records.{Record}
use Rattle.vx_ringio.specs.Classes.{classes}
use Rattle.vx_ringio.specs.Reading.{LeavesAs, ReadsAs, SeesTop}
use Rattle.vx_ringio.specs.Tracks.{Tracks}
use Rattle.vx_ringio.specs.declared.top.TopSeen.TheVariants as top
use Rattle.vx_disk.specs.Causes.{DeviceCause}
use Rattle.vx_srl.specs.Damages.{HasDamage, SeesFronts}
use Rattle.vx_srl.specs.Headers.{new_header, raised}
use Rattle.vx_srl.specs.Rings.{RingOn}
use Rattle.vx_srl.specs.Views.{Log, most_number}

-- nothing is held or staged, on the shelf and in memory
pub record IsNewLog (unit ring head : ℕ) (state : SiteState) (l : Log) (m : Meaning) : Type 0 where
  pub is : l ≡ record { unit = unit; ring = ring; header = new_header state head; held = []; staged = [] }
  pub stands : IsTrue m.tells → (s : State) × RingOn l s m × (s.held ≡ []) × (s.staged ≡ [])

-- behind the zeros and both headers of a new log the cells of its unit are these
abbrev pub new_cells : Header → Header → Cells
new_cells first second = run_all (still (λ b. Other)) (head_acts 1 second ++ head_acts 0 first)

-- where the shelf tells its contents, the unit has both headers of a new log and nothing else
pub record HasNewHeaders (unit ring : ℕ) (first second : Header) (old new : Meaning) : Type 0 where
  pub each : IsTrue old.tells → first.stamp ≡ 2 → second.stamp ≡ 1 → Tracks unit ring (new_cells first second) new

-- a log was made, or a device call failed, or memory ran out
abbrev pub Makes : ℕ → ℕ → ℕ → SiteState → Meaning → Meaning → Result Log Stop → Type 0
Makes unit ring head state old new (Ok l) = IsNewLog unit ring head state l new × (IsTrue new.down → ⊥)
Makes unit ring head state old new (Err (Refused why)) = DeviceCause old new why
Makes unit ring head state old new (Err OutOfMemory) = Unit {0}

-- whatever a crash leaves on the unit, a start finds this header and these records
pub record LeavesLog (unit ring : ℕ) (h : Header) (rs : List Record) (m : Meaning) : Type 0 where
  pub kinds : Kinds
  pub leaves : LeavesAs unit ring kinds m
  pub recovers : Recovers ring kinds h rs

-- the header that was found, or one that a start writes
abbrev pub IsRaised : Header → Header → Type 0
IsRaised h g = (by : ℕ) × (0 < by) × (by ≤ 3) × (g ≡ raised h by)

-- an image in a start has the same records as before it, behind the header that was found or one that the start writes
pub record Restarting (unit ring : ℕ) (m : Meaning) (i : Image) : Type 0 where
  pub each : (h : Header) (rs : List Record) → LeavesLog unit ring h rs m
      → (g : Header) × ((g ≡ h) ⊎ IsRaised h g) × Recovers ring (classes unit ring i) g rs

-- a read gave a header of the log, behind which a start goes on
pub record StartsFrom (unit ring : ℕ) (g : Header) (m : Meaning) : Type 0 where
  pub block : ℕ
  pub header : Header
  pub low : block < 2
  pub sees : SeesTop unit ring block m (top.Valid header)
  pub raised_is : IsRaised header g

-- the log that a start gives holds the records that were left
pub record IsStartedLog (unit ring : ℕ) (l : Log) (old new : Meaning) : Type 0 where
  pub unit_is : l.unit ≡ unit
  pub ring_is : l.ring ≡ ring
  pub nothing_staged : l.staged ≡ []
  -- a read gave the header that it goes on from, whether a log was left or not
  pub header_is : IsTrue old.tells → StartsFrom unit ring l.header old
  -- which is the one that counts
  pub counts : (c : Kinds) (h : Header) → ReadsAs unit ring c old → IsGreaterTop c h → IsRaised h l.header
  -- reads gave the header of each, and of the blocks of the ring they give what they gave
  pub fronts : IsTrue old.tells → SeesFronts unit ring l.held old
  pub ring_reads : (b : ℕ) (v : List ℕ) → 2 ≤ b → new.reads unit b v → old.reads unit b v
  pub each : (h : Header) (rs : List Record) → LeavesLog unit ring h rs old
      → IsRaised h l.header × ((s : State) × RingOn l s new × (s.held ≡ rs) × (s.staged ≡ []) × (s.found ≡ rs))

-- neither header block is a header, and neither begins as one and is broken
pub record NoHeader (unit ring : ℕ) (m : Meaning) : Type 0 where
  pub first : SeesTop unit ring 0 m top.Other
  pub second : SeesTop unit ring 1 m top.Other

-- no log was left that a start should have found
abbrev pub NoLogLeft : ℕ → ℕ → Meaning → Type 0
NoLogLeft unit ring m = (h : Header) (rs : List Record) → LeavesLog unit ring h rs m → ⊥

-- where a log was left, its stamp or incarnation is at its limit
abbrev pub AtLimit : ℕ → ℕ → Meaning → Type 0
AtLimit unit ring m = (h : Header) (rs : List Record) → LeavesLog unit ring h rs m → (most_number ≤ h.stamp + 2) ⊎ (most_number ≤ h.incarnation)

-- why a start is refused: nothing is a header; a block is damaged; a number would go past its limit; or a device call failed
abbrev pub LogStartCause : ℕ → ℕ → Meaning → Meaning → No → Type 0
LogStartCause unit ring old new NoConfig = (IsTrue old.tells → NoHeader unit ring old) × NoLogLeft unit ring old
LogStartCause unit ring old new (Damaged u block stored computed) =
    (u ≡ unit) × (stored ≡ computed → ⊥) × (IsTrue old.tells → HasDamage unit ring block stored computed old) × NoLogLeft unit ring old
LogStartCause unit ring old new (Limit what most) = (what ≡ Number) × (most ≡ most_number) × AtLimit unit ring old
LogStartCause unit ring old new why = DeviceCause old new why

-- a start that is refused for want of a number has only read
abbrev pub ReadsAtLimit : Meaning → Meaning → No → Type 0
ReadsAtLimit old new (Limit what most) = Goes Nothing old new
ReadsAtLimit old new other = Unit {0}

abbrev pub StopReadsAtLimit : Meaning → Meaning → Stop → Type 0
StopReadsAtLimit old new (Refused why) = ReadsAtLimit old new why
StopReadsAtLimit old new OutOfMemory = Goes Nothing old new

-- the log was started, or the start was refused, or memory ran out
abbrev pub StartIs : ℕ → ℕ → Meaning → Meaning → Result Log Stop → Type 0
StartIs unit ring old new (Ok l) = IsStartedLog unit ring l old new × (IsTrue new.down → ⊥)
StartIs unit ring old new (Err (Refused why)) = LogStartCause unit ring old new why
StartIs unit ring old new (Err OutOfMemory) = Unit {0}

-- the same where memory was taken before
abbrev pub StartInIs : ℕ → ℕ → Meaning → Meaning → Result Log No → Type 0
StartInIs unit ring old new (Ok l) = IsStartedLog unit ring l old new × (IsTrue new.down → ⊥)
StartInIs unit ring old new (Err why) = LogStartCause unit ring old new why

-- memory for a start, as callers see it
pub record LogSpace : Type 0 where
  pub ring : ℕ
