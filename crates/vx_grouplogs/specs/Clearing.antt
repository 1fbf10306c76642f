-- Marks that are taken off.
use Rattle.std.specs.Prelude.{◌≡◌, ℕ, ◌-◌, ◌<◌, ◌≤◌, Bool, true, false, IsTrue, Option, Some, None, Result, Ok, Err}
use Rattle.vx_bitmap.specs.Bits.{Changed}
use Rattle.vx_bitmap.specs.Maps.{Lies, MapOn, regions_mapped}
use Rattle.vx_disk.specs.Counts.{Rose}
use Rattle.vx_disk.specs.Shelf.{Meaning, Values}
use Rattle.vx_drl.specs.Dirty.{Dirty, is_dirty}
use Rattle.vx_drl.specs.declared.marks.TheConstants.{MOST_HELD}
use Rattle.vx_logs.specs.Dirtying.{DrlAt, SameDrl}
use Rattle.vx_logs.specs.declared.logs.Logs.{Logs}
use Rattle.vx_logs.specs.declared.logs.Lost.{Lost}
use Rattle.vx_model.specs.declared.no.No.{No}
use Rattle.vx_model.specs.declared.no.No.TheVariants as refusal

-- its blocks are there
abbrev pub DrlLies : Option Dirty → Meaning → Type 0
DrlLies None m = Unit {0}
DrlLies (Some d) m = Lies d.map m

-- the last region of a log
abbrev pub greatest_region : Option Dirty → ℕ
greatest_region None = 0
greatest_region (Some d) = d.regions - 1

-- a value of one of its blocks while marks are taken off
abbrev pub ClearedAt : Option Dirty → Meaning → Values
ClearedAt o m = DrlAt 0 (greatest_region o) false o m

-- no more marks are held than may be
abbrev pub DrlFew : Option Dirty → Type 0
DrlFew None = Unit {0}
DrlFew (Some d) = d.held ≤ MOST_HELD

-- it stands where it stood; where more marks were held than may be, it has none
pub record DrlCleared (d e : Dirty) (m m' : Meaning) : Type 0 where
  pub same : SameDrl d e
  pub none : MOST_HELD < d.held → Changed 0 (d.regions - 1) false (regions_mapped d.map) (is_dirty d) (is_dirty e)
  pub held : MOST_HELD < d.held → e.held ≡ 0
  pub few : d.held ≤ MOST_HELD → e ≡ d
  pub stands : MapOn d.map m → MapOn e.map m'

-- it is cleared, or lost, where its disk's count rose
abbrev pub DrlEnding : Bool → Option Dirty → Option Dirty → Meaning → Meaning → Type 0
DrlEnding gone None None m m' = gone ≡ false
DrlEnding gone None (Some e) m m' = ⊥
DrlEnding gone (Some d) None m m' = (gone ≡ true) × Rose (m.faults d.map.unit) (m'.faults d.map.unit)
DrlEnding gone (Some d) (Some e) m m' = (gone ≡ false) × DrlCleared d e m m'

-- what is answered: whether it was lost
abbrev pub DrlClears : Option Dirty → Option Dirty → Meaning → Meaning → Result Bool No → Type 0
DrlClears o n m m' (Ok gone) = DrlEnding gone o n m m' × (IsTrue m'.down → IsTrue m.down)
DrlClears o n m m' (Err refusal.Down) = IsTrue m'.down
DrlClears o n m m' (Err other) = ⊥

-- the same of both logs of a volume: that of missed regions is as it was
abbrev pub Clears : Logs → Logs → Meaning → Meaning → Result Lost No → Type 0
Clears l l' m m' (Ok gone) = DrlEnding gone.drl l.drl l'.drl m m' × (l'.fmr ≡ l.fmr) × (gone.fmr ≡ false) × (IsTrue m'.down → IsTrue m.down)
Clears l l' m m' (Err refusal.Down) = IsTrue m'.down
Clears l l' m m' (Err other) = ⊥
