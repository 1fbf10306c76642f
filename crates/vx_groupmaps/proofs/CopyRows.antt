-- The map of a plex that becomes that of another one.
use Rattle.std.proofs.Common.{◌≡◌, ◌∙◌, ◌⊎◌, inl, inr, ℕ, ◌+◌, ◌-◌, ◌<◌, ◌≤◌, Bool, true, false, Option, Some, None, List, IsTrue, refl, sym, ap, subst, arith}
use Rattle.std.specs.Prelude.{◌&&◌, leb, IfErr, OnOk, Result, Ok, Err, if◌then◌else◌}
use Rattle.std.proofs.lemmas.Bool.{cases_eq, leb-true}
use Rattle.vx_bitmap.specs.Bits.{Changed, is_among}
use Rattle.vx_bitmap.specs.Maps.{ChangedAt, MapOn, SamePlace, UnitCause}
use Rattle.vx_config.specs.Checks.{blocks_of as blocks_in, is_sound, plexes_of}
use Rattle.vx_config.specs.declared.config.Config.{Config}
use Rattle.vx_config.specs.declared.entry.VolumeLog.TheVariants.{Fmr as FmrLog}
use Rattle.vx_disk.specs.Causes.{DeviceCause}
use Rattle.vx_disk.specs.Counts.{Rose}
use Rattle.vx_disk.specs.Shelf.{Goes, Meaning, Or}
use Rattle.vx_disk.proofs.Causing.{Rose_before}
use Rattle.vx_disk.proofs.Runs.{both_Goes, same_Goes, weaker}
use Rattle.vx_drl.specs.Dirty.{Dirty}
use Rattle.vx_fmr.specs.Missed.{Missed, OthersSame, SameMissedShape, has_missed, missed_place}
use Rattle.vx_logs.specs.Held.{DrlRun, FmrRun, LogsFit, LogsStand}
use Rattle.vx_logs.specs.Noting.{SameFmr}
use Rattle.vx_logs.specs.declared.logs.Logs.{Logs}
use Rattle.vx_logs.proofs.LogLemmas.{log_lies}
use Rattle.vx_logs.proofs.MarkLemmas.{logs_apart, stands_beside}
use Rattle.vx_logs.proofs.NoteLemmas.{among_is}
use Rattle.vx_model.specs.Sizes.{regions_of as regions_in}
use Rattle.vx_model.specs.declared.no.No.{No}
use Rattle.vx_model.specs.declared.no.No.TheVariants as refusal
use Rattle.vx_volume.specs.Plexes.{DisksFit}
use Rattle.vx_groupmaps.specs.Copying.{CopyAnswers, CopyEnds, HasBoth, HasBothMaps, MapCopied, RowNoted}
use Rattle.vx_groupmaps.specs.Missing.{OnMaps}
use Rattle.vx_groupmaps.specs.Refusing.{MapBlocks}
use Rattle.vx_groupmaps.proofs.MapPlaces.{maps_kept, maps_on}
use Rattle.vx_groupmaps.proofs.ReadyLemmas.{same_then}

-- ---- blocks of the maps

-- what is written of a map is a block of it
pub changed_blocks : (f : Missed) (start end : ℕ) (value : Bool) (m m1 m2 : Meaning) → Goes (ChangedAt f.map start end value m) m1 m2 → Goes (MapBlocks (Some f)) m1 m2
changed_blocks f start end value m m1 m2 goes = weaker (ChangedAt f.map start end value m) (MapBlocks (Some f)) m1 m2 goes (λ u b x at. at.run)

-- the blocks of a map that lies where it lay
pub same_blocks : (f g : Missed) (m m' : Meaning) → SameFmr f g → Goes (MapBlocks (Some g)) m m' → Goes (MapBlocks (Some f)) m m'
same_blocks f g m m' same goes = weaker (MapBlocks (Some g)) (MapBlocks (Some f)) m m' goes
    (λ u b x run. record { there = run.there ∙ same.place.unit; first = omega (arith, run.first, same.place.first); last = omega (arith, run.last, same.place.first, same.place.long) })

pub both_blocks : (o : Option Missed) (m m1 m2 : Meaning) → Goes (MapBlocks o) m m1 → Goes (MapBlocks o) m1 m2 → Goes (MapBlocks o) m m2
both_blocks o m m1 m2 one two =
    weaker (Or (MapBlocks o) (MapBlocks o)) (MapBlocks o) m m2 (both_Goes (MapBlocks o) (MapBlocks o) m m1 m2 one two) (λ u b x either. elim either [ inl a ↦ a | inr a ↦ a ])

-- the maps are there still
pub both_later : (to from count : ℕ) (f g : Missed) (m m1 : Meaning) → HasBoth to from count f m → SameFmr f g → Goes (MapBlocks (Some f)) m m1 → HasBoth to from count g m1
both_later to from count f g m m1 has same goes = record {
  lies = record {
    exists = omega (arith, has.lies.exists, same.place.unit, goes.units);
    within = let size : m1.size g.map.unit ≡ m.size f.map.unit = goes.size g.map.unit ∙ ap m.size same.place.unit in omega (arith, has.lies.within, same.place.first, same.place.long, size);
  };
  here = omega (arith, has.here, same.shape.plexes);
  there = omega (arith, has.there, same.shape.plexes);
  apart = has.apart;
  many = omega (arith, has.many, same.shape.regions);
  fit = omega (arith, has.fit, same.shape.regions, same.shape.stride);
}

-- ---- one call behind others

pub unit_then : {T : Type 0} (u w : ℕ) (m m1 m2 : Meaning) (r : Result T No) → w ≡ u → ((d : ℕ) → m.faults d ≤ m1.faults d) → (IsTrue m1.down → IsTrue m.down) → UnitCause w m1 m2 r → UnitCause u m m2 r
unit_then u w m m1 m2 (Ok x) is faults up cause = λ down. up (cause down)
unit_then u w m m1 m2 (Err (refusal.Device d)) is faults up cause = (subst (λ (n : ℕ). Rose (m.faults n) (m2.faults n)) is (Rose_before (m.faults w) (m1.faults w) (m2.faults w) (faults w) cause.0), cause.1)
unit_then u w m m1 m2 (Err other) is faults up cause = tt

pub device_then : (m m1 m2 : Meaning) (why : No) → ((d : ℕ) → m.disk_faults d ≤ m1.disk_faults d) → DeviceCause m1 m2 why → DeviceCause m m2 why
device_then m m1 m2 (refusal.Device d) disks cause = Rose_before (m.disk_faults d) (m1.disk_faults d) (m2.disk_faults d) (disks d) cause
device_then m m1 m2 refusal.Down disks cause = cause
device_then m m1 m2 other disks none = absurd none

pub causes_then : {T : Type 0} (m m1 m2 : Meaning) (r : Result T No) → ((d : ℕ) → m.disk_faults d ≤ m1.disk_faults d) → IfErr r (DeviceCause m1 m2) → IfErr r (DeviceCause m m2)
causes_then m m1 m2 (Ok x) disks cause = tt
causes_then m m1 m2 (Err why) disks cause = device_then m m1 m2 why disks cause

-- ---- the loop

-- behind notes of the first n regions
pub record Noting (to from n count : ℕ) (f g : Missed) (m m' : Meaning) : Type 0 where
  pub row : RowNoted to from n f g m m'
  pub writes : Goes (MapBlocks (Some f)) m m'
  pub up : IsTrue m'.down → IsTrue m.down
  pub low : n ≤ count

pub noting_start : (to from count : ℕ) (f : Missed) (m : Meaning) → Noting to from 0 count f f m m
noting_start to from count f m = record {
  row = record {
    same = record { place = record { unit = refl; first = refl; long = refl }; shape = record { plexes = refl; stride = refl; regions = refl } };
    has = λ r lt on. absurd (omega (arith, lt));
    only = λ r low on. inl on;
    others = record { each = λ p r lt low other. refl };
    stands = λ on. on;
  };
  writes = same_Goes (MapBlocks (Some f)) m;
  up = λ down. down;
  low = omega arith;
}

-- the map of another plex is as it was
from_same : (to from r : ℕ) (f g : Missed) → (to ≡ from → ⊥) → from < f.plexes → r < f.stride → OthersSame to f g → has_missed g from r ≡ has_missed f from r
from_same to from r f g apart lt low others = others.each from r lt low (λ same. apart (sym same))

-- the other plex has not the region
pub noting_pass : (to from n count : ℕ) (f g : Missed) (m m' : Meaning) → HasBoth to from count f m → n < count → has_missed g from n ≡ false → Noting to from n count f g m m' → Noting to from (n + 1) count f g m m'
noting_pass to from n count f g m m' has lt off it = record {
  row = record {
    same = it.row.same;
    has = λ r low on. elim (cases_eq r n) [
      | inl is ↦ absurd (let clash : true ≡ false = sym on ∙ ap (has_missed f from) is ∙ sym (from_same to from n f g has.apart has.there (omega (arith, lt, has.many, has.fit)) it.row.others) ∙ off in cc)
      | inr other ↦ it.row.has r (omega (arith, low, other)) on
    ];
    only = it.row.only;
    others = it.row.others;
    stands = it.row.stands;
  };
  writes = it.writes;
  up = it.up;
  low = omega (arith, lt);
}

-- a region is not of a run of another one alone
apart_among : (n r : ℕ) → (r ≡ n → ⊥) → is_among n n r ≡ false
apart_among n r other = by (leb n r) (leb r n) refl refl
  where
    by : (s t : Bool) → leb n r ≡ s → leb r n ≡ t → s && t ≡ false
    by true true one two = absurd (let low : n ≤ r = leb-true n r one in let high : r ≤ n = leb-true r n two in other (omega (arith, low, high)))
    by true false one two = refl
    by false t one two = refl

-- a bit behind a note of one region
one_bit : (n r : ℕ) (was now : Bool) → now ≡ (if is_among n n r then true else was) → now ≡ true → (was ≡ true) ⊎ (r ≡ n)
one_bit n r was now is on = by was refl
  where
    by : (w : Bool) → was ≡ w → (w ≡ true) ⊎ (r ≡ n)
    by true at = inl refl
    by false at = elim (cases_eq r n) [
      | inl same ↦ inr same
      | inr other ↦ absurd (let clash : true ≡ false = sym on ∙ is ∙ ap (λ (t : Bool). if t then true else was) (apart_among n r other) ∙ at in cc)
    ]

-- it has
module _ (to from n count : ℕ) (f g h : Missed) (m m1 m2 : Meaning) (has : HasBoth to from count f m) (lt : n < count) (it : Noting to from n count f g m m1) (writes : Goes (ChangedAt g.map (missed_place g to n) (missed_place g to n) true m1) m1 m2) where
  pub noting_writes : Goes (MapBlocks (Some f)) m m2
  noting_writes = both_blocks (Some f) m m1 m2 it.writes (same_blocks f g m1 m2 it.row.same (changed_blocks g (missed_place g to n) (missed_place g to n) true m1 m1 m2 writes))

  pub noting_then : has_missed g from n ≡ true → SamePlace g.map h.map → SameMissedShape g h → OthersSame to g h → Changed n n true g.stride (has_missed g to) (has_missed h to) → (MapOn g.map m1 → MapOn h.map m2) → (IsTrue m2.down → IsTrue m1.down)
      → Noting to from (n + 1) count f h m m2
  noting_then on place shape others changed stands up = record {
    row = record {
      same = same_then f g h it.row.same (record { place = place; shape = shape });
      has = λ r low at. elim (cases_eq r n) [
        | inl is ↦ bit r (inside r low) ∙ ap (λ (t : Bool). if t then true else has_missed g to r) (among_is n n r (omega (arith, is)) (omega (arith, is)))
        | inr other ↦ bit r (inside r low) ∙ still (is_among n n r) (has_missed g to r) (it.row.has r (omega (arith, low, other)) at)
      ];
      only = λ r low at. elim (one_bit n r (has_missed g to r) (has_missed h to r) (bit r low) at) [
        | inl was ↦ it.row.only r low was
        | inr is ↦ inr (ap (has_missed f from) is ∙ sym (from_same to from n f g has.apart has.there (omega (arith, lt, has.many, has.fit)) it.row.others) ∙ on)
      ];
      others = record { each = λ p r under low other. others.each p r (omega (arith, under, it.row.same.shape.plexes)) (omega (arith, low, it.row.same.shape.stride)) other ∙ it.row.others.each p r under low other };
      stands = λ is. stands (it.row.stands is);
    };
    writes = noting_writes;
    up = λ down. it.up (up down);
    low = omega (arith, lt);
  }
    where
      inside : (r : ℕ) → r < n + 1 → r < f.stride
      inside r low = omega (arith, low, lt, has.many, has.fit)

      bit : (r : ℕ) → r < f.stride → has_missed h to r ≡ (if is_among n n r then true else has_missed g to r)
      bit r low = changed.each r (omega (arith, low, it.row.same.shape.stride))

      still : (t w : Bool) → w ≡ true → (if t then true else w) ≡ true
      still true w is = refl
      still false w is = is

pub noting_end : (to from n count : ℕ) (f g : Missed) (m m' : Meaning) → count ≤ n → Noting to from n count f g m m' → RowNoted to from count f g m m'
noting_end to from n count f g m m' all it = let is : n ≡ count = omega (arith, all, it.low) in subst (λ (k : ℕ). RowNoted to from k f g m m') is it.row

-- ---- a map that was emptied, and notes behind that

module _ (to from count : ℕ) (f g : Missed) (m m1 : Meaning) (has : HasBoth to from count f m) (place : SamePlace f.map g.map) (shape : SameMissedShape f g) (others : OthersSame to f g) (writes : Goes (ChangedAt f.map (missed_place f to 0) (missed_place f to (f.stride - 1)) false m) m m1) where
  pub emptied_blocks : Goes (MapBlocks (Some f)) m m1
  emptied_blocks = changed_blocks f (missed_place f to 0) (missed_place f to (f.stride - 1)) false m m m1 writes

  pub emptied_has : HasBoth to from count g m1
  emptied_has = both_later to from count f g m m1 has (record { place = place; shape = shape }) emptied_blocks

  pub copied_row : (h : Missed) (m2 : Meaning) → Changed 0 (f.stride - 1) false f.stride (has_missed f to) (has_missed g to) → (MapOn f.map m → MapOn g.map m1) → RowNoted to from count g h m1 m2 → MapCopied to from f h m m2
  copied_row h m2 changed stands row = record {
    same = same_then f g h (record { place = place; shape = shape }) row.same;
    has = λ r low on. row.has r (omega (arith, low, has.many)) (from_same to from r f g has.apart has.there (omega (arith, low, has.fit)) others ∙ on);
    only = λ r low on. elim (row.only r (omega (arith, low, shape.stride)) on) [
      | inl was ↦ absurd (let clash : true ≡ false = sym was ∙ none r low in cc)
      | inr is ↦ sym (from_same to from r f g has.apart has.there low others) ∙ is
    ];
    others = record { each = λ p r under low other. row.others.each p r (omega (arith, under, shape.plexes)) (omega (arith, low, shape.stride)) other ∙ others.each p r under low other };
    stands = λ on. row.stands (stands on);
  }
    where
      none : (r : ℕ) → r < f.stride → has_missed g to r ≡ false
      none r low = changed.each r low ∙ ap (λ (t : Bool). if t then false else has_missed f to r) (among_is 0 (f.stride - 1) r (omega arith) (omega (arith, low)))

-- what holds at Ok
pub copied_ok : {T E : Type 0} (to from count : ℕ) (f g h : Missed) (m m1 m2 : Meaning) → HasBoth to from count f m → SamePlace f.map g.map → SameMissedShape f g → OthersSame to f g → Goes (ChangedAt f.map (missed_place f to 0) (missed_place f to (f.stride - 1)) false m) m m1
    → Changed 0 (f.stride - 1) false f.stride (has_missed f to) (has_missed g to) → (MapOn f.map m → MapOn g.map m1) → (r : Result T E) → OnOk r (RowNoted to from count g h m1 m2) → OnOk r (MapCopied to from f h m m2)
copied_ok to from count f g h m m1 m2 has place shape others writes changed stands (Ok x) row = copied_row to from count f g m m1 has place shape others writes h m2 changed stands row
copied_ok to from count f g h m m1 m2 has place shape others writes changed stands (Err e) row = tt

-- ---- the logs of a volume

-- the map that was copied, where there is a log
pub copied_some : (to from : ℕ) (o : Option Missed) (f g : Missed) (m m' : Meaning) → o ≡ Some f → MapCopied to from f g m m' → CopyEnds to from false o (Some g) m m'
copied_some to from o f g m m' is done = subst (λ (x : Option Missed). CopyEnds to from false x (Some g) m m') (sym is) (refl, done)

-- what a copy asks of a map in memory
pub has_both : (to from count : ℕ) (o : Option Missed) (f : Missed) (m : Meaning) → o ≡ Some f → HasBothMaps to from count o m → HasBoth to from count f m
has_both to from count o f m is has = subst (λ (x : Option Missed). HasBothMaps to from count x m) is has

module _ (c : Config) (sound : is_sound c ≡ true) (v : ℕ) (some : 0 < blocks_in c.volumes v) (l : Logs) (fits : LogsFit c v l) (m : Meaning) (fit : DisksFit c.disks m) where
  pub both_there : (to from count : ℕ) → count ≡ regions_in (blocks_in c.volumes v) → to < plexes_of c v → from < plexes_of c v → (to ≡ from → ⊥) → HasBothMaps to from count l.fmr m
  both_there to from count is low under apart = by l.fmr refl
    where
      by : (o : Option Missed) → l.fmr ≡ o → HasBothMaps to from count o m
      by None at = tt
      by (Some f) at = let it = fits.fmr f at in record {
        lies = log_lies c v FmrLog f.map m sound some fit it.log;
        here = omega (arith, low, it.plexes);
        there = omega (arith, under, it.plexes);
        apart = apart;
        many = is ∙ sym it.regions;
        fit = (maps_kept c sound v some f it).fit;
      }

  module _ (m' : Meaning) (goes : Goes (MapBlocks l.fmr) m m') where
    pub copy_goes : Goes (OnMaps c v) m m'
    copy_goes = weaker (MapBlocks l.fmr) (OnMaps c v) m m' goes (λ u b x at. by l.fmr refl u b x at)
      where
        by : (o : Option Missed) → l.fmr ≡ o → (u b : ℕ) (x : List ℕ) → FmrRun o u b → OnMaps c v u b x
        by None is u b x none = absurd none
        by (Some f) is u b x run = maps_on c sound v some f (fits.fmr f is) m fit u b x run

    pub copy_stands : (to from : ℕ) (n : Option Missed) (r : Result Bool No) → CopyAnswers to from l.fmr n m m' r → OnOk r (LogsStand l m → LogsStand (record { drl = l.drl; fmr = n }) m')
    copy_stands to from n (Ok gone) answers = λ stand. record {
      drl = λ d is. stands_beside d.map (MapBlocks l.fmr) m m' goes (λ u b x run at. logs_apart c sound v some l fits m fit u b (subst (λ (o : Option Dirty). DrlRun o u b) (sym is) run) at) (stand.drl d is);
      fmr = λ g is. by g l.fmr n refl is answers.0 stand;
    }
      where
        by : (g : Missed) (o k : Option Missed) → l.fmr ≡ o → k ≡ Some g → CopyEnds to from gone o k m m' → LogsStand l m → MapOn g.map m'
        by g None None at is ends stand = absurd cc
        by g None (Some h) at is ends stand = absurd ends
        by g (Some f) None at is ends stand = absurd cc
        by g (Some f) (Some h) at is ends stand = let same : h ≡ g = cc in subst (λ (x : Missed). MapOn x.map m') same (ends.1.stands (stand.fmr f at))
    copy_stands to from n (Err why) answers = tt

-- a refusal comes of a shelf that is down
pub copy_down : (to from : ℕ) (o n : Option Missed) (m m' : Meaning) (why : No) → CopyAnswers to from o n m m' (Err why) → IsTrue m'.down
copy_down to from o n m m' refusal.Down down = down
copy_down to from o n m m' other none = absurd none
