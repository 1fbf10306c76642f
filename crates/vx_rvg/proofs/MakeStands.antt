-- A new group stands with the content that its volumes have by themselves.
use Rattle.std.proofs.Common.{◌≡◌, None, ℕ, ◌-◌, ◌<◌, ◌≤◌, List, [], length, drop, IsTrue, refl, sym, ◌∙◌, ap, subst, arith, ⊎_elim, All}
use Rattle.std.proofs.Math.Seq.{drop-nil}
use Rattle.std.proofs.lemmas.Bool.{cases_lt}
use Rattle.std.proofs.lemmas.List.Elements.{All-nil}
use Rattle.vx_model.specs.Content.{Content}
use Rattle.vx_model.specs.declared.state.State.{State as SiteState}
use Rattle.vx_model.specs.declared.units.Units.{Units}
use Rattle.vx_disk.specs.Moves.{Moves, Run, Says}
use Rattle.vx_disk.specs.Shelf.{Meaning, Keeps}
use Rattle.vx_disk.proofs.Moving.{kept_beside}
use Rattle.vx_overlay.specs.Pending.{Pending}
use Rattle.vx_overlay.specs.declared.entry.Entry.{Entry}
use Rattle.vx_overlay.specs.Writes.{entries_of}
use Rattle.vx_ringlog.specs.Logs.{State}
use Rattle.vx_ringlog.specs.Records.{Record}
use Rattle.vx_ringio.specs.Tracks.{RingLies}
use Rattle.vx_srl.specs.Headers.{new_header}
use Rattle.vx_srl.specs.Rings.{RingOn}
use Rattle.vx_srl.specs.Starts.{IsNewLog}
use Rattle.vx_dcm.specs.Places.{DcmLoaded, Maps}
use Rattle.vx_srl.specs.Views.{Log}
use Rattle.vx_rvg.specs.Contents.{writes_of, HasSizes, KeepsContent}
use Rattle.vx_rvg.specs.Holdings.{nothing_logged}
use Rattle.vx_rvg.specs.Stands.{HasMarks, HoldsContent, IsWholeRecord, Ready, Stands}
use Rattle.vx_rvg.specs.Views.{IsSound, UnitsPlaced, unit_of}
use Rattle.vx_rvg.proofs.ContentFacts.{maps_moved}
use Rattle.vx_rvg.proofs.WriteSound.{lies_same, moved_sizes, placed_same}

-- a block of a volume lies within those that exist
pub in_volumes : (vols : List ℕ) (c : Content) (m : Meaning) (v b : ℕ) → HasSizes vols c m → b < c.size v → v < length vols
in_volumes vols c m v b sizes below = ⊎_elim (λ is. is) (λ (past : length vols ≤ v). absurd (omega (arith, sizes.none v past, below))) (cases_lt v (length vols))

pub sizes_moved : (vols : List ℕ) (c : Content) (old new : Meaning) → ((u : ℕ) → new.size u ≡ old.size u) → HasSizes vols c old → HasSizes vols c new
sizes_moved vols c old new same sizes = record { each = λ v there. sizes.each v there ∙ sym (same (unit_of vols v)); none = sizes.none }

-- a call on the log's unit leaves a block of a volume as it is
pub volume_kept : (units : Units) (count : ℕ) (P : Says) (c : Content) (old new : Meaning) → UnitsPlaced units old → Moves (Run units.srl 0 count) P old new → HasSizes units.vols c old
    → (v b : ℕ) → b < c.size v → Keeps old (unit_of units.vols v) b (c.block v b) → Keeps new (unit_of units.vols v) b (c.block v b)
volume_kept units count P c old new placed moves sizes v b below keeps =
    kept_beside (Run units.srl 0 count) P old new moves (unit_of units.vols v) b (λ mine. placed.apart v (in_volumes units.vols c old v b sizes below) mine.there) (c.block v b) keeps

writes_none : (k : ℕ) (rs : List Record) → rs ≡ [] → writes_of (drop k rs) ≡ []
writes_none k rs is = ap (λ (xs : List Record). writes_of (drop k xs)) is ∙ ap writes_of (drop-nil k)

-- a new group is sound
pub new_sound : (units kept : Units) (state : SiteState) (ring count : ℕ) (P : Says) (l : Log) (maps : Maps) (pending : Pending) (old new : Meaning) → UnitsPlaced units old → kept ≡ units
    → l ≡ record { unit = units.srl; ring = ring; header = new_header state 0; held = []; staged = [] } → RingLies units.srl ring old → DcmLoaded units new maps → pending.capacity ≡ ring → pending.entries ≡ []
    → Moves (Run units.srl 0 count) P old new → IsSound (record { units = kept; log = l; maps = maps; pending = pending; applied = 0; halted = None }) new
new_sound units kept state ring count P l maps pending old new placed same is lies loaded room none moves =
    let sizes = moved_sizes (Run units.srl 0 count) P old new moves in
    subst (λ (u : Units). IsSound (record { units = u; log = l; maps = maps; pending = pending; applied = 0; halted = None }) new) (sym same)
    (subst (λ (k : Log). IsSound (record { units = units; log = k; maps = maps; pending = pending; applied = 0; halted = None }) new) (sym is) (record {
      placed = placed_same units old new sizes placed;
      maps = loaded;
      log_unit = refl;
      lies = lies_same units.srl ring old new sizes lies;
      idle = λ running up. refl;
      low = omega arith;
      known = omega arith;
      room = room;
      waiting = ap (λ (es : List Entry). length es) none;
    }))

pub new_stands : (units kept : Units) (state : SiteState) (ring count : ℕ) (P : Says) (c : Content) (maps : List (List ℕ)) (l : Log) (d : Maps) (pending : Pending) (old new : Meaning) → UnitsPlaced units old → kept ≡ units
    → IsNewLog units.srl ring 0 state l new → pending.entries ≡ [] → Moves (Run units.srl 0 count) P old new → IsTrue old.tells → HoldsContent units c maps old → HasMarks d maps
    → Stands (record { units = kept; log = l; maps = d; pending = pending; applied = 0; halted = None }) (nothing_logged c maps) new
new_stands units kept state ring count P c maps l d pending old new placed same made none moves tells holds marks =
    subst (λ (u : Units). Stands (record { units = u; log = l; maps = d; pending = pending; applied = 0; halted = None }) (nothing_logged c maps) new) (sym same) (record {
      log = s;
      ready = ready;
      low = ap (λ (x : Log). x.header.low) made.is;
      writes = ap writes_of held;
      place = ap (λ (x : Log). x.header.place) made.is;
      maps = maps_moved (Run units.srl 0 count) P units maps old new moves (λ b mine. placed.maps_apart mine.there) holds.maps_are;
      marks = marks;
    })
  where
    told : IsTrue new.tells
    told = subst IsTrue (sym moves.tells) tells

    stood : (s : State) × RingOn l s new × (s.held ≡ []) × (s.staged ≡ [])
    stood = made.stands told

    s : State
    s = stood.0

    held : s.held ≡ []
    held = stood.2

    ready : Ready (record { units = units; log = l; maps = d; pending = pending; applied = 0; halted = None }) c s new
    ready = record {
      ring = stood.1;
      idle = stood.3;
      whole = subst (λ (rs : List Record). All IsWholeRecord rs) (sym held) (All-nil IsWholeRecord);
      sizes = sizes_moved units.vols c old new moves.size holds.sizes;
      content = subst (λ (rs : List Record). KeepsContent units.vols c (writes_of rs) new) (sym held)
          (record { each = λ v b below. volume_kept units count P c old new placed moves holds.sizes v b below (holds.blocks v b below) });
      waiting = none ∙ sym (ap (λ xs. entries_of c.size xs) (writes_none (1 - l.header.low) s.held held));
      settled = λ v b below _. volume_kept units count P c old new placed moves holds.sizes v b below (holds.blocks v b below);
    }
