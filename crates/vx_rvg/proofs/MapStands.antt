-- The change maps that were read are those of the map unit.
use Rattle.std.proofs.Common.{◌≡◌, ℕ, ◌+◌, ◌*◌, ◌/◌, ◌<◌, ◌≤◌, Bool, true, false, List, length, IsTrue, IsFalse, refl, sym, subst, arith}
use Rattle.vx_model.specs.Content.{block_of}
use Rattle.vx_model.specs.declared.limits.TheConstants.{LINK_PLACES}
use Rattle.vx_model.specs.declared.no.No.{No}
use Rattle.vx_model.specs.declared.no.No.TheVariants as no
use Rattle.vx_model.specs.declared.state.State.{State as SiteState}
use Rattle.vx_model.specs.declared.units.Units.{Units}
use Rattle.vx_disk.specs.Causes.{DeviceCause}
use Rattle.vx_disk.specs.Maps.{maps_of}
use Rattle.vx_disk.specs.Moves.{Anything, Moves, Run}
use Rattle.vx_disk.specs.Shelf.{Goes, Lawful, Meaning, Nothing}
use Rattle.vx_disk.proofs.Moving.{then_goes}
use Rattle.vx_bitmap.specs.Maps.{IsRead, Lies}
use Rattle.vx_dcm.specs.Places.{DcmLoaded, Maps, MapsFit}
use Rattle.vx_srl.specs.Starts.{IsNewLog}
use Rattle.vx_srl.specs.Views.{Log}
use Rattle.vx_rvg.specs.Fills.{FillCause}
use Rattle.vx_rvg.specs.Stands.{HasMarks, KeepsMaps}
use Rattle.vx_rvg.specs.Starts.{GivesMarks}
use Rattle.vx_rvg.specs.Views.{UnitsPlaced}
use Rattle.vx_rvg.proofs.ReadStands.{keeps_rest}
use Rattle.vx_rvg.proofs.StartFill.{ring_rests}
use Rattle.vx_rvg.proofs.WriteLog.{cause_from}
use Rattle.vx_rvg.proofs.WriteSound.{loaded_same, maps_same, placed_same}

-- ---- where they lie

pub maps_need : (units : Units) (m : Meaning) → UnitsPlaced units m → MapsFit units m
maps_need units m placed = record { maps_exist = placed.maps_exist; exist = placed.exist; fit = placed.maps_fit }

pub loaded_lies : (units : Units) (d : Maps) (m : Meaning) → UnitsPlaced units m → DcmLoaded units m d → Lies d.map m
loaded_lies units d m placed loaded = record {
  exists = subst (λ (u : ℕ). u < m.units) (sym loaded.unit) placed.maps_exist;
  within = subst (λ (u : ℕ). d.map.first + length d.map.bytes / 512 ≤ m.size u) (sym loaded.unit) (fits d.map.first (length d.map.bytes) _ (m.size units.maps) loaded.first loaded.long placed.maps_fit);
}
  where
    fits : (first long blocks size : ℕ) → first ≡ 0 → long ≡ 512 * blocks → blocks ≤ size → first + long / 512 ≤ size
    fits first long blocks size none is le = omega (arith, none, is, le)

-- the blocks of the map unit behind a call that writes nothing
pub maps_rest : (units : Units) (maps : List (List ℕ)) (m m' : Meaning) → Goes Nothing m m' → KeepsMaps units maps m → KeepsMaps units maps m'
maps_rest units maps m m' goes keeps = record {
  size = (let least = keeps.size in let same = goes.size units.maps in omega (arith, least, same));
  each = λ b bytes there. keeps_rest m m' goes units.maps b bytes (keeps.each b bytes there);
}

-- ---- what they are

-- what a read gave of each block is what the unit keeps
pub marks_read : (units : Units) (d : Maps) (maps : List (List ℕ)) (m : Meaning) → Lawful m → UnitsPlaced units m → IsTrue m.tells → DcmLoaded units m d → KeepsMaps units maps m → IsRead d.map m → HasMarks d maps
marks_read units d maps m lawful placed tells loaded keeps read = record {
  each = λ k bytes low is.
      let left : m.leaves d.map.unit (d.map.first + k) (block_of d.map.bytes k) = lawful.shown d.map.unit (d.map.first + k) (block_of d.map.bytes k) (read.each tells k low) in
      let here : m.leaves units.maps k (block_of d.map.bytes k)
      = subst (λ (b : ℕ). m.leaves units.maps b (block_of d.map.bytes k)) (from_first d.map.first k loaded.first)
      (subst (λ (u : ℕ). m.leaves u (d.map.first + k) (block_of d.map.bytes k)) loaded.unit left) in
      sym ((keeps.each k bytes is).only (block_of d.map.bytes k) here);
}
  where
    from_first : (first k : ℕ) → first ≡ 0 → first + k ≡ k
    from_first first k none = omega (arith, none)

-- the same of calls before that wrote nothing
pub gives_marks : (units : Units) (d : Maps) (m m' : Meaning) → Lawful m' → UnitsPlaced units m → Goes Nothing m m' → DcmLoaded units m' d → IsRead d.map m' → GivesMarks units m d
gives_marks units d m m' lawful placed goes loaded read = record {
  each = λ maps tells keeps.
      marks_read units d maps m' lawful (placed_same units m m' (record { units = goes.units; size = goes.size }) placed) (subst (λ (t : Bool). IsTrue t) (sym goes.tells) tells) loaded (maps_rest units maps m m' goes keeps) read;
}

-- they could not be read
pub load_stops : (l : Log) (old mid new : Meaning) (why : No) → ((d : ℕ) → old.disk_faults d ≤ mid.disk_faults d) → DeviceCause mid new why → FillCause l old new why
load_stops l old mid new (no.Device disk) counts cause = cause_from old mid new (no.Device disk) counts cause
load_stops l old mid new no.Down counts cause = cause
load_stops l old mid new other counts cause = absurd cause

pub down_as : (before after : Bool) → after ≡ before → (IsTrue before → ⊥) → IsTrue after → ⊥
down_as before after same up down = up (subst (λ (t : Bool). IsTrue t) same down)

pub is_up : (down : Bool) → (IsTrue down → ⊥) → IsFalse down
is_up true up = absurd (up refl)
is_up false up = refl

pub room_as : (units : Units) (blocks : ℕ) (m m' : Meaning) → ((u : ℕ) → m'.size u ≡ m.size u) → LINK_PLACES * maps_of units.vols m ≤ blocks → LINK_PLACES * maps_of units.vols m' ≤ blocks
room_as units blocks m m' same le = subst (λ (n : ℕ). LINK_PLACES * n ≤ blocks) (sym (maps_same m m' same units.vols)) le

-- behind calls that wrote nothing they are as many
pub loaded_rests : (units : Units) (d : Maps) (m m' : Meaning) → Goes Nothing m m' → DcmLoaded units m d → DcmLoaded units m' d
loaded_rests units d m m' goes loaded = loaded_same units d m m' (record { units = goes.units; size = goes.size }) loaded

-- ---- a new log behind them

pub new_log_rests : (unit ring head : ℕ) (state : SiteState) (l : Log) (m m' : Meaning) → Goes Nothing m m' → (IsTrue m'.down → ⊥) → IsNewLog unit ring head state l m → IsNewLog unit ring head state l m'
new_log_rests unit ring head state l m m' goes up made = record {
  is = made.is;
  stands = λ tells.
      let stood = made.stands (subst (λ (t : Bool). IsTrue t) goes.tells tells) in
      (stood.0, ring_rests l stood.0 m m' goes up stood.1, stood.2, stood.3);
}

pub anything_rests : (units : Units) (count : ℕ) (old mid new : Meaning) → Moves (Run units.srl 0 count) Anything old mid → Goes Nothing mid new → Moves (Run units.srl 0 count) Anything old new
anything_rests units count old mid new moves goes = then_goes (Run units.srl 0 count) Anything Nothing old mid new moves goes (λ u b v none. absurd none) (λ i each. tt)
