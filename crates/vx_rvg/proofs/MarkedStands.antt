-- A group that stands, while a write is logged whose regions are marked first.
use Rattle.std.proofs.Common.{◌≡◌, ◌∙◌, ◌⊎◌, inl, inr, ⊎_elim, ℕ, zero, suc, ◌+◌, ◌-◌, ◌/◌, ◌%◌, ◌^◌, ◌<◌, ◌≤◌, Bool, true, List, [], ◌∷◌, length, map, take, Option, Some, None, IsTrue, refl, sym, ap, subst, arith, append-nil}
use Rattle.std.specs.Prelude.{if◌then◌else◌, slice_index, IfErr, OnOk, Result, Ok, Err}
use Rattle.std.specs.Int.{div_ceil}
use Rattle.std.proofs.Math.Nat.{zero-div}
use Rattle.std.proofs.lemmas.Bool.{eqb-true, lt-ltb}
use Rattle.std.proofs.lemmas.List.{get_or-map, length-map}
use Rattle.vx_model.specs.Content.{Write}
use Rattle.vx_model.specs.Sizes.{regions_of}
use Rattle.vx_model.specs.declared.no.No.{No}
use Rattle.vx_model.specs.declared.no.No.TheVariants as no
use Rattle.vx_disk.specs.Burns.{FallsShort, MakesCalls}
use Rattle.vx_disk.specs.Causes.{BlamesUnit, WithDisks}
use Rattle.vx_disk.specs.Disks.{Disks}
use Rattle.vx_disk.specs.Moves.{Blocks, Moves, Run, Union}
use Rattle.vx_disk.specs.Shelf.{Image, Meaning}
use Rattle.vx_disk.specs.Spends.{MakesAtLeast, Loses, Spends, Spent}
use Rattle.vx_disk.proofs.Moving.{goes_on, wider}
use Rattle.vx_disk.proofs.Naming.{unit_since}
use Rattle.vx_disk.proofs.Spending.{then_at_least}
use Rattle.vx_bitmap.specs.Bits.{bit, is_marked}
use Rattle.vx_bitmap.specs.Maps.{map_block_count, regions_mapped}
use Rattle.vx_dcm.specs.Places.{HasRegion, Maps, MapsBetween, SlotsMarked, SomeChanged}
use Rattle.vx_srl.specs.Views.{BodyFits, Log}
use Rattle.vx_srl.specs.declared.kept.Kept.{Kept}
use Rattle.vx_rvg.specs.Groups.{Ended, Writes}
use Rattle.vx_rvg.specs.Holdings.{Holding, with_writes}
use Rattle.vx_rvg.specs.Marks.{AllMarkedIn, BlamesMarkedWrite, ByMarks, HasAllMaps, MarkedWriting, Marking, Marks, MarksBetween, Remarks, blocks_over, write_last, map_run, marked_in, with_blocks_of_maps, with_marks}
use Rattle.vx_rvg.specs.Stands.{FoundAs, Stands, Writing}
use Rattle.vx_rvg.specs.Views.{Core, IsSound, IsSoundWith, unit_of, volume_size}
use Rattle.vx_rvg.proofs.MarkStands.{stays_up}
use Rattle.vx_rvg.proofs.OverMarks.{marks_changed, now_marked}
use Rattle.vx_rvg.proofs.WriteLog.{cause_from}

-- ---- by whether places are named

pub by_none : (marks : ℕ) (A B : Type 0) → marks ≡ 0 → A → ByMarks marks A B
by_none zero A B none a = a
by_none (suc n) A B none a = absurd (omega (arith, none))

pub by_some : (marks : ℕ) (A B : Type 0) → (marks ≡ 0 → ⊥) → B → ByMarks marks A B
by_some zero A B some b = absurd (some refl)
by_some (suc n) A B some b = b

-- ---- a call that does nothing

pub between_none : (mine : ℕ → ℕ → ℕ → Type 0) (value : Bool) (d new : Maps) → new ≡ d → MapsBetween mine value d new
between_none mine value d new same = subst (λ (x : Maps). MapsBetween mine value d x) (sym same) (record { each = λ k w q has. inl refl })

pub still_short : (n : ℕ) (m : Meaning) → FallsShort n m m
still_short n m = record { left = λ up down. absurd (stays_up m.down m.down up (λ is. is) down) }

-- none is named by 0
pub none_named : (marks v first last : ℕ) (d : Maps) → marks ≡ 0 → SlotsMarked marks v first last d
none_named marks v first last d none = record { each = λ k low named. absurd (not_in_zero k (subst (λ (n : ℕ). bit n k ≡ true) none named)) } where
  not_in_zero : (k : ℕ) → bit 0 k ≡ true → ⊥
  not_in_zero k named = let one : (0 / (2 ^ k)) % 2 ≡ 1 = eqb-true ((0 / (2 ^ k)) % 2) 1 named in let none : 0 / (2 ^ k) ≡ 0 = zero-div (2 ^ k) in omega (arith, one, none)

-- ---- the regions of a write

pub regions_ordered : (start count : ℕ) → 0 < count → start / 64 ≤ (start + count - 1) / 64
regions_ordered start count some = omega (arith, some)

-- the last one is a region of its volume
pub write_region : {ks : List Kept} (core : Core) (m : Meaning) → IsSoundWith ks core m → (vol start count : ℕ) → vol < length core.units.vols → 0 < count → start + count ≤ volume_size core.units.vols m vol → HasRegion core.maps 0 vol (write_last start count)
write_region core m sound vol start count low some within = record {
  map = record {
    place = omega arith;
    volume = subst (λ (xs : List ℕ). vol < length xs) (sym sound.maps.sizes) (omega (arith, low, length-map core.units.vols m.size));
  };
  region = subst (λ (xs : List ℕ). write_last start count < regions_of (slice_index xs vol)) (sym sound.maps.sizes)
      (subst (λ (n : ℕ). write_last start count < regions_of n) (sym (get_or-map m.size core.units.vols vol 0 0 low)) (inside start count (m.size (unit_of core.units.vols vol)) some (omega (arith, within, ap (λ (t : Bool). if t then m.size (unit_of core.units.vols vol) else 0) (lt-ltb vol (length core.units.vols) low)))));
}
  where
    inside : (start count size : ℕ) → 0 < count → start + count ≤ size → (start + count - 1) / 64 < div_ceil size 64
    inside start count size some le = omega (arith, some, le)

-- ---- what a call before leaves of counts

least_none : (size : ℕ → ℕ) (a b : Bool) (x y : Option Disks) → (IsTrue b → ⊥) → WithDisks x y (Spent size a b) → WithDisks x y (λ o d. Loses 0 o.fuse d.fuse)
least_none size a b None None up on = tt
least_none size a b None (Some y) up on = absurd on
least_none size a b (Some x) None up on = absurd on
least_none size a b (Some x) (Some y) up on = ⊎_elim (λ passed. passed.0.fuse) (λ out. absurd (up out.1)) on.burnt

pub least_behind : {T E : Type 0} → (n : ℕ) (r : Result T E) (m mid last : Meaning) → Spends m mid → (IsTrue mid.down → ⊥) → OnOk r (MakesAtLeast n mid last) → OnOk r (MakesAtLeast n m last)
least_behind n (Ok x) m mid last spends up made =
    let all : 0 + n ≡ n = omega arith in
    subst (λ (k : ℕ). MakesAtLeast k m last) all (then_at_least 0 n m mid last (record { fuses = least_none m.size m.down mid.down m.disks mid.disks up spends.told }) made)
least_behind n (Err e) m mid last spends up made = tt

pub calls_same : {T E : Type 0} → (n : ℕ) (r : Result T E) (l k : Log) (bytes : List ℕ) (m mid last : Meaning) → mid ≡ m → k ≡ l → OnOk r (BodyFits k bytes → MakesCalls n mid last) → OnOk r (BodyFits l bytes → MakesCalls n m last)
calls_same n r l k bytes m mid last same log made =
    subst (λ (x : Meaning). OnOk r (BodyFits l bytes → MakesCalls n x last)) same (subst (λ (x : Log). OnOk r (BodyFits x bytes → MakesCalls n mid last)) log made)

pub short_same : (n : ℕ) (l k : Log) (bytes : List ℕ) (m mid last : Meaning) → mid ≡ m → k ≡ l → (BodyFits k bytes → FallsShort n mid last) → BodyFits l bytes → FallsShort n m last
short_same n l k bytes m mid last same log short =
    subst (λ (x : Meaning). BodyFits l bytes → FallsShort n x last) same (subst (λ (x : Log). BodyFits x bytes → FallsShort n mid last) log short)

-- the log failed behind the marks
pub blames_log : {T : Type 0} → (r : Result T No) (m mid : Meaning) (c k : Core) → Spends m mid → k.log.unit ≡ c.log.unit → IfErr r (BlamesUnit mid.disks k.log.unit) → IfErr r (BlamesMarkedWrite m.disks c)
blames_log (Ok x) m mid c k spends here blames = tt
blames_log (Err why) m mid c k spends here blames = inr (unit_since m mid k.log.unit c.log.unit why spends here blames)

-- ---- the marks could not be written

pub marks_fail : (c c' : Core) (vol start : ℕ) (bytes : List ℕ) (m m' : Meaning) (why : No) → Marks c m m' c' (Err why) → Writes (record c { maps = c'.maps }) vol start bytes m m' c' (Err why)
marks_fail c c' vol start bytes m m' (no.Device disk) fails = (ended c c' (Some disk) fails.0, fails.1)
  where
    ended : (c c' : Core) (halted : Option ℕ) → c' ≡ record c { maps = c'.maps; halted = halted } → Ended (record c { maps = c'.maps }) halted c'
    ended c c' halted is = record {
      units = ap (λ (k : Core). k.units) is;
      ring = ap (λ (k : Core). k.log.ring) is;
      header = ap (λ (k : Core). k.log.header) is;
      held = ap (λ (k : Core). k.log.held) is;
      maps = refl;
      pending = ap (λ (k : Core). k.pending) is;
      applied = ap (λ (k : Core). k.applied) is;
      halted_is = ap (λ (k : Core). k.halted) is;
    }
marks_fail c c' vol start bytes m m' no.Down fails = (as_is c c' fails.0, fails.1)
  where
    as_is : (c c' : Core) → c' ≡ record c { maps = c'.maps } → Ended (record c { maps = c'.maps }) c.halted c'
    as_is c c' is = record {
      units = ap (λ (k : Core). k.units) is;
      ring = ap (λ (k : Core). k.log.ring) is;
      header = ap (λ (k : Core). k.log.header) is;
      held = ap (λ (k : Core). k.log.held) is;
      maps = refl;
      pending = ap (λ (k : Core). k.pending) is;
      applied = ap (λ (k : Core). k.applied) is;
      halted_is = ap (λ (k : Core). k.halted) is;
    }
marks_fail c c' vol start bytes m m' other fails = absurd fails.1

-- an image in the marking has the write in no case
pub marks_first : (core : Core) (mine : ℕ → Type 0) (x : Write) (m mid : Meaning) → Moves (map_run core) (Marking core mine true m) m mid
    → Moves (Union (map_run core) (Run core.units.srl 0 (core.log.ring + 2))) (MarkedWriting core mine x m) m mid
marks_first core mine x m mid moves =
    wider (map_run core) (Union (map_run core) (Run core.units.srl 0 (core.log.ring + 2))) (Marking core mine true m) (MarkedWriting core mine x m) m mid moves (λ u b run. record { here = inl run })
    (λ i beside marking. record { each = λ h stands all. (let got = marking.each h stands all in (got.0, got.1, inl got.2)) })

-- ---- the write behind the marks

-- a write keeps the change maps
pub maps_kept : (r : Result ℕ No) (c c' : Core) (vol start : ℕ) (bytes : List ℕ) (m m' : Meaning) → Writes c vol start bytes m m' c' r → c'.maps ≡ c.maps
maps_kept (Ok number) c c' vol start bytes m m' writes = ap (λ (k : Core). k.maps) writes.1
maps_kept (Err (no.Device disk)) c c' vol start bytes m m' fails = fails.0.maps
maps_kept (Err no.Down) c c' vol start bytes m m' fails = fails.0.maps
maps_kept (Err other) c c' vol start bytes m m' fails = absurd fails

writes_since : (r : Result ℕ No) (c c' : Core) (vol start : ℕ) (bytes : List ℕ) (m mid m' : Meaning) → ((d : ℕ) → m.disk_faults d ≤ mid.disk_faults d) → Writes c vol start bytes mid m' c' r → Writes c vol start bytes m m' c' r
writes_since (Ok number) c c' vol start bytes m mid m' counts writes = writes
writes_since (Err (no.Device disk)) c c' vol start bytes m mid m' counts fails = (fails.0, cause_from m mid m' (no.Device disk) counts fails.1)
writes_since (Err no.Down) c c' vol start bytes m mid m' counts fails = fails
writes_since (Err other) c c' vol start bytes m mid m' counts fails = absurd fails

module _ (core c1 : Core) (is : c1 ≡ record core { maps = c1.maps }) where
  pub log_is : c1.log ≡ core.log
  log_is = ap (λ (k : Core). k.log) is

  pub marked_writes : (r : Result ℕ No) (c2 : Core) (vol start : ℕ) (bytes : List ℕ) (m mid m' : Meaning) → ((d : ℕ) → m.disk_faults d ≤ mid.disk_faults d) → Writes c1 vol start bytes mid m' c2 r
      → Writes (record core { maps = c2.maps }) vol start bytes m m' c2 r
  marked_writes r c2 vol start bytes m mid m' counts writes =
      let back : c1 ≡ record core { maps = c2.maps } = is ∙ ap (λ (x : Maps). record core { maps = x }) (sym (maps_kept r c1 c2 vol start bytes mid m' writes)) in
      subst (λ (k : Core). Writes k vol start bytes m m' c2 r) back (writes_since r c1 c2 vol start bytes m mid m' counts writes)

  found_here : (i : Image) (h : Holding) → FoundAs c1 i h → FoundAs core i h
  found_here i h found = subst (λ (k : Core). FoundAs k i h) is found

  module _ (mine : ℕ → Type 0) (m mid : Meaning) (sound : IsSound core m) (sound1 : IsSound c1 mid) (remarks : Remarks core c1 m mid)
      (bits : SomeChanged mine true (regions_mapped core.maps.map) (is_marked core.maps.map.bytes) (is_marked c1.maps.map.bytes)) (long : length c1.maps.map.bytes ≡ length core.maps.map.bytes) where
    module _ (h : Holding) (stands : Stands core h m) (known : HasAllMaps core.maps h.maps) where
      abbrev over : List (List ℕ)
      over = blocks_over c1.maps.map.bytes (map_block_count c1.maps.map) 0 h.maps

      stands1 : Stands c1 (with_marks c1.maps h) mid
      stands1 = remarks.each h stands known

      now_as : (r : ℕ) → r < regions_mapped core.maps.map → marked_in over r ≡ is_marked c1.maps.map.bytes r
      now_as r low = now_marked core c1 mine m mid sound.maps sound1.maps bits long h.maps stands.maps stands.marks known stands1.maps stands1.marks r low

      pub over_between : MarksBetween core.maps mine true h.maps over
      over_between = marks_changed core c1 mine m mid sound.maps sound1.maps bits long h.maps stands.maps stands.marks known stands1.maps stands1.marks

    -- ---- all of them are marked, and the write behind them is logged

    module _ (x : Write) (all : (r : ℕ) → r < regions_mapped core.maps.map → mine r → is_marked c1.maps.map.bytes r ≡ true) where
      over_all : (h : Holding) (stands : Stands core h m) (known : HasAllMaps core.maps h.maps) → AllMarkedIn core.maps mine (over h stands known)
      over_all h stands known = record { each = λ r low own. now_as h stands known r low ∙ all r low own }

      by_count : (h : Holding) (stands : Stands core h m) (known : HasAllMaps core.maps h.maps) (i : Image) (k : ℕ) → FoundAs c1 i (with_writes (take k (x ∷ [])) (with_marks c1.maps h))
          → FoundAs core i (with_blocks_of_maps (over h stands known) h) ⊎ (AllMarkedIn core.maps mine (over h stands known) × FoundAs core i (with_writes (x ∷ []) (with_blocks_of_maps (over h stands known) h)))
      by_count h stands known i zero found =
          inl (subst (λ (ws : List Write). FoundAs core i (record { low = h.low; writes = ws; place = h.place; content = h.content; maps = over h stands known })) (append-nil h.writes) (found_here i (with_writes [] (with_marks c1.maps h)) found))
      by_count h stands known i (suc zero) found = inr (over_all h stands known, found_here i (with_writes (x ∷ []) (with_marks c1.maps h)) found)
      by_count h stands known i (suc (suc k)) found = inr (over_all h stands known, found_here i (with_writes (x ∷ []) (with_marks c1.maps h)) found)

      marked_writing : (i : Image) → Writing c1 (x ∷ []) mid i → MarkedWriting core mine x m i
      marked_writing i writing = record {
        each = λ h stands known.
            let got = writing.each (with_marks c1.maps h) (stands1 h stands known) in
            (over h stands known, over_between h stands known, by_count h stands known i got.0 got.1);
      }

      abbrev both : Blocks
      both = Union (map_run core) (Run core.units.srl 0 (core.log.ring + 2))

      pub marked_moves : (last : Meaning) → Moves (map_run core) (Marking core mine true m) m mid → Moves (Run c1.units.srl 0 (c1.log.ring + 2)) (Writing c1 (x ∷ []) mid) mid last → Moves both (MarkedWriting core mine x m) m last
      marked_moves last first second =
          goes_on both (Run c1.units.srl 0 (c1.log.ring + 2)) (MarkedWriting core mine x m) (Writing c1 (x ∷ []) mid) m mid last (marks_first core mine x m mid first) second
          (λ u b run. record { here = inr (subst (λ (k : Core). Run k.units.srl 0 (k.log.ring + 2) u b) is run) }) (λ i beside writing. marked_writing i writing)
