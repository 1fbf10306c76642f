-- A log of missed regions that is taken up.
use Rattle.std.proofs.Common.{◌≡◌, ◌∙◌, inl, inr, ℕ, ◌+◌, ◌*◌, ◌/◌, ◌%◌, ◌<◌, Bool, true, false, Option, Some, None, List, IsTrue, refl, sym, ap, subst}
use Rattle.std.specs.Prelude.{◌&&◌, not, slice_get, IsFalse}
use Rattle.vx_bitmap.specs.Bits.{is_marked}
use Rattle.vx_bitmap.specs.Maps.{LoadCause}
use Rattle.vx_bitmap.proofs.Blocks.{by_block}
use Rattle.vx_config.specs.Checks.{blocks_of as blocks_in, is_sound}
use Rattle.vx_config.specs.declared.config.Config.{Config}
use Rattle.vx_config.specs.declared.entry.DiskEntry.{DiskEntry}
use Rattle.vx_config.specs.declared.entry.LogEntry.{LogEntry}
use Rattle.vx_config.specs.declared.entry.VolumeLog.{VolumeLog}
use Rattle.vx_config.specs.declared.entry.VolumeLog.TheVariants.{Fmr as FmrLog}
use Rattle.vx_disk.specs.Shelf.{Goes, Lawful, Meaning, Nothing}
use Rattle.vx_fmr.specs.Missed.{FmrLoaded, Missed, has_missed, missed_place}
use Rattle.vx_layout.specs.Places.{place}
use Rattle.vx_logs.specs.Held.{FmrFound, InUse}
use Rattle.vx_maplog.specs.Logs.{log_of, is_used, used_or}
use Rattle.vx_model.specs.Content.{block_of}
use Rattle.vx_model.specs.declared.errors.Stop.{Stop}
use Rattle.vx_model.specs.declared.errors.Stop.TheVariants.{No as Refused}
use Rattle.vx_model.specs.declared.no.No.{No}
use Rattle.vx_model.specs.declared.no.No.TheVariants.{Device}
use Rattle.vx_groupmaps.specs.Loading.{DeviceRose, failed_under, held_failed, on_failed_disk}
use Rattle.vx_groupmaps.specs.Missing.{DiskAgrees, MapAgrees, bit_in_maps}
use Rattle.vx_groupmaps.proofs.MapPlaces.{bit_low, mapped_stale, region_low, stale_there}

-- a log that is not in use lies on no disk that counts
pub unused_apart : (c : Config) (v : ℕ) (log : VolumeLog) → is_used c v log ≡ false → on_failed_disk c v log ≡ false
unused_apart c v log off = by (log_of c v log) off
  where
    at_disk : (e : LogEntry) → not e.lost ≡ false → (o : Option DiskEntry) → held_failed e o ≡ false
    at_disk e lost None = refl
    at_disk e lost (Some d) = ap (λ (b : Bool). b && d.failed) lost

    by : (o : Option LogEntry) → used_or o ≡ false → failed_under c.disks o ≡ false
    by None none = refl
    by (Some e) lost = at_disk e lost (slice_get c.disks e.disk)

-- a read that failed
pub device_rose : (m m' : Meaning) (stop : Stop) (why : No) (disk : ℕ) → stop ≡ Refused why → why ≡ Device disk → LoadCause m m' stop → DeviceRose m m'
device_rose m m' stop why disk is at cause =
    let rose = subst (λ (n : No). LoadCause m m' (Refused n)) at (subst (λ (s : Stop). LoadCause m m' s) is cause) in
    record { disk = disk; rose = rose }

in_use : (o : Option LogEntry) (e : LogEntry) → o ≡ Some e → used_or o ≡ true → e.lost ≡ false
in_use None e is used = absurd (let clash : false ≡ true = used in cc)
in_use (Some d) e is used = let same : d ≡ e = cc in subst (λ (x : LogEntry). x.lost ≡ false) same (kept d.lost used)
  where
    kept : (b : Bool) → not b ≡ true → b ≡ false
    kept true is = absurd (let clash : false ≡ true = is in cc)
    kept false is = refl

-- what a crash leaves is what the maps in memory and the plexes then have
module _ (c : Config) (sound : is_sound c ≡ true) (v : ℕ) (some : 0 < blocks_in c.volumes v) (m m' : Meaning) (law : Lawful m) (goes : Goes Nothing m m') (disk : DiskAgrees c v m) where
  left_now : (u b : ℕ) (x : List ℕ) → (IsTrue m'.down → ⊥) → m'.reads u b x → m.leaves u b x
  left_now u b x up read = elim (goes.reads u b x read) [
    | inl (inl was) ↦ law.shown u b x was
    | inl (inr now) ↦ absurd now
    | inr down ↦ absurd (up down)
  ]

  module _ (f : Missed) (found : FmrFound c v (Some f) m m') (up : IsTrue m'.down → ⊥) where
    it : FmrLoaded c v f
    it = found.1

    used : InUse c v FmrLog it.log.entry
    used = record { is = it.log.is; kept = in_use (log_of c v FmrLog) it.log.entry it.log.is found.0 }

    bit_is : (p b : ℕ) → bit_in_maps c v p b ≡ missed_place f p (b / 64)
    bit_is p b = ap (λ (n : ℕ). p * n + b / 64) (sym it.stride)

    told_agrees : IsTrue m.tells → MapAgrees c v (has_missed f) m'.reads
    told_agrees tells = record {
      so = λ p q b x y is on inside clear at_p at_q.
          let k : ℕ = missed_place f p (b / 64) / 4096 in
          let z : List ℕ = block_of f.map.bytes k in
          let low = bit_low c sound v some f it p (b / 64) (stale_there c sound v some f it p (mapped_stale c v p is)) (region_low c sound v some f it b inside) in
          let read : m.reads f.map.unit (f.map.first + k) z = found.2.each tells k low in
          let first : m.leaves f.map.unit (f.map.first + k) z = law.shown f.map.unit (f.map.first + k) z read in
          let second : m.leaves it.log.entry.disk (f.map.first + k) z = subst (λ (u : ℕ). m.leaves u (f.map.first + k) z) it.log.run.there first in
          let third : m.leaves it.log.entry.disk (it.log.entry.start + k) z = subst (λ (n : ℕ). m.leaves it.log.entry.disk (n + k) z) it.log.run.begins second in
          let left : m.leaves it.log.entry.disk (it.log.entry.start + bit_in_maps c v p b / 4096) z = subst (λ (n : ℕ). m.leaves it.log.entry.disk (it.log.entry.start + n / 4096) z) (sym (bit_is p b)) third in
          let off : is_marked z (missed_place f p (b / 64) % 4096) ≡ false = sym (by_block f.map.bytes (missed_place f p (b / 64))) ∙ clear in
          disk.so it.log.entry p q b x y z used is on inside left (subst (λ (n : ℕ). is_marked z (n % 4096) ≡ false) (sym (bit_is p b)) off)
          (left_now (place c v p b).0 (place c v p b).1 x up at_p) (left_now (place c v q b).0 (place c v q b).1 y up at_q);
    }

    untold_agrees : IsFalse m.tells → MapAgrees c v (has_missed f) m'.reads
    untold_agrees silent = record {
      so = λ p q b x y is on inside clear at_p at_q. absurd (law.none silent (place c v p b).0 (place c v p b).1 x (left_now (place c v p b).0 (place c v p b).1 x up at_p));
    }

    found_agrees : MapAgrees c v (has_missed f) m'.reads
    found_agrees = by m.tells refl
      where
        by : (t : Bool) → m.tells ≡ t → MapAgrees c v (has_missed f) m'.reads
        by true is = told_agrees is
        by false is = untold_agrees is

  pub taken_agrees : (o : Option Missed) (f : Missed) → o ≡ Some f → FmrFound c v o m m' → IsFalse m'.down → MapAgrees c v (has_missed f) m'.reads
  taken_agrees None f is found up = absurd cc
  taken_agrees (Some g) f is found up =
      let same : g ≡ f = cc in
      subst (λ (x : Missed). MapAgrees c v (has_missed x) m'.reads) same (found_agrees g found (λ down. let clash : true ≡ false = sym down ∙ up in cc))

pub found_fits : (c : Config) (v : ℕ) (m m' : Meaning) (o : Option Missed) (f : Missed) → o ≡ Some f → FmrFound c v o m m' → FmrLoaded c v f
found_fits c v m m' None f is found = absurd cc
found_fits c v m m' (Some g) f is found = let same : g ≡ f = cc in subst (λ (x : Missed). FmrLoaded c v x) same found.1
