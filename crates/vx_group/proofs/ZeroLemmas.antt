-- Zeros on the plexes of a new volume.
use Rattle.std.proofs.Common.{◌≡◌, inl, inr, ⊎_elim, ℕ, ◌+◌, ◌-◌, ◌*◌, ◌/◌, ◌<◌, ◌≤◌, IsTrue, List, length, replicate, Result, Ok, Err, OnOk, ap, ◌∙◌, arith}
use Rattle.std.specs.Prelude.{take}
use Rattle.std.proofs.lemmas.Bool.{cases_lt}
use Rattle.std.proofs.lemmas.List.{drop-replicate, length-replicate, take-replicate}
use Rattle.vx_disk.specs.Blocks.{bit_at}
use Rattle.vx_disk.specs.Shelf.{Goes, Meaning, Nothing, Or, piece}
use Rattle.vx_disk.specs.declared.shelf.ShelfError.TheVariants.{Fault}
use Rattle.vx_disk.proofs.Runs.{both_Goes, same_Goes, weaker}
use Rattle.vx_wire.specs.Fields.{zero_bytes}
use Rattle.vx_config.specs.Checks.{blocks_of}
use Rattle.vx_config.specs.declared.config.Config.{Config}
use Rattle.vx_volume.specs.Plexes.{InRun}
use Rattle.vx_volume.specs.Volumes.{AllBut, LastPlexFailed, OnPlexes, PlexFlushed, PlexWrote}
use Rattle.vx_volume.specs.declared.sets.Failed.{Failed}
use Rattle.vx_volume.proofs.CopyLemmas.{run_inside}
use Rattle.vx_group.specs.Blames.{Blames}
use Rattle.vx_group.specs.Makes.{AreZero, ZeroBelow, ZeroLoop, ZeroRun, ZerosOn}
use Rattle.vx_group.specs.Moves.{AllFlushed}
use Rattle.vx_group.proofs.DetachLemmas.{zero_bit}

-- ---- a run

piece_zero : (block count k : ℕ) → block ≤ k → k < block + count → piece block (zero_bytes (512 * count)) k ≡ zero_bytes 512
piece_zero block count k first last =
    ap (take 512) (drop-replicate (512 * (k - block)) (512 * count) 0) ∙ take-replicate 512 (512 * count - 512 * (k - block)) 0 (omega (arith, first, last))

pub run_is : (count : ℕ) → count ≤ 16 → take (512 * count) (replicate 8192 0) ≡ zero_bytes (512 * count)
run_is count few = take-replicate (512 * count) 8192 0 (omega (arith, few))

module _ (c : Config) (v block count : ℕ) (bytes : List ℕ) (old new : Meaning) (is : bytes ≡ zero_bytes (512 * count)) (volume : v < length c.volumes) (within : block + count ≤ blocks_of c.volumes v) where
  n : length bytes / 512 ≡ count
  n = let long : length bytes ≡ 512 * count = ap length is ∙ length-replicate {A = ℕ} (512 * count) 0 in omega (arith, long)

  value_of : (k : ℕ) (x : List ℕ) → InRun block (length bytes / 512) k → x ≡ piece block bytes k → x ≡ zero_bytes 512
  value_of k x run at =
      let last : k < block + length bytes / 512 = run.last in
      at ∙ ap (λ (b : List ℕ). piece block b k) is ∙ piece_zero block count k run.first (omega (arith, last, n))

  pub zero_goes : Goes (OnPlexes c v block (length bytes / 512) bytes) old new → Goes (ZerosOn c v) old new
  zero_goes goes = weaker (OnPlexes c v block (length bytes / 512) bytes) (ZerosOn c v) old new goes (λ u b x put. record {
    plex = put.plex;
    number = put.put.number;
    is_on = put.is_on;
    inside = run_inside c v block count put.put.number volume within (record { first = put.put.run.first; last = let last : put.put.number < block + length bytes / 512 = put.put.run.last in omega (arith, last, n) });
    at = put.put.at;
    value = value_of put.put.number x put.put.run put.put.value;
  })

  pub zero_ok : (failed : Failed) → failed.set ≡ 0 → AllBut c v (bit_at failed.set) (λ p. PlexWrote c v p block (length bytes / 512) block (length bytes / 512) bytes old new) old new → ZeroRun c v block count old new
  zero_ok failed none all = record {
    each = λ p k x is_on in_it reads. elim ((all.is_done p is_on (zero_bit failed.set p none)).each k x in_it reads) [
      | inl put ↦ inl (put.0.first, (let last : k < block + length bytes / 512 = put.0.last in omega (arith, last, n)), value_of k x put.0 put.1)
      | inr out ↦ inr ((λ first last. out.0 (record { first = first; last = omega (arith, last, n) })), out.1)
    ];
  }

-- some plex failed
pub some_failed : (failed : Failed) (old new : Meaning) → (failed.set ≡ 0 → ⊥) → LastPlexFailed failed old new → (IsTrue new.down → ⊥) → Blames {T = Unit {0}} old new (Err (Fault failed.disk))
some_failed failed old new some last up = (last.rose (omega (arith, some)), up)

pub each_flushed : (c : Config) (v : ℕ) (failed : Failed) (old new : Meaning) → failed.set ≡ 0 → AllBut c v (bit_at failed.set) (λ p. PlexFlushed c v p old new) old new → AllFlushed c v old new
each_flushed c v failed old new none all = record { each = λ p is_on. all.is_done p is_on (zero_bit failed.set p none) }

-- ---- all runs

pub zero_start : (c : Config) (v blocks : ℕ) (m : Meaning) → (IsTrue m.down → ⊥) → ZeroLoop c v 0 blocks m m
zero_start c v blocks m up = record {
  up = up;
  few = omega arith;
  goes = same_Goes (ZerosOn c v) m;
  below = record { each = λ p k x is_on in_it lt is. absurd (omega (arith, lt)) };
}

module _ (c : Config) (v done count blocks : ℕ) (old m m' : Meaning) (loop : ZeroLoop c v done blocks old m) (goes : Goes (ZerosOn c v) m m') where
  pub zero_then : Goes (ZerosOn c v) old m'
  zero_then = weaker (Or (ZerosOn c v) (ZerosOn c v)) (ZerosOn c v) old m' (both_Goes (ZerosOn c v) (ZerosOn c v) old m m' loop.goes goes) (λ u b x. ⊎_elim (λ put. put) (λ put. put))

  pub zero_more : (IsTrue m'.down → ⊥) → done + count ≤ blocks → ZeroRun c v done count m m' → ZeroLoop c v (done + count) blocks old m'
  zero_more up few run = record {
    up = up;
    few = few;
    goes = zero_then;
    below = record {
      each = λ p k x is_on in_it lt is. elim (run.each p k x is_on in_it is) [
        | inl put ↦ put.2
        | inr was ↦ elim (cases_lt k done) [
          | inl less ↦ loop.below.each p k x is_on in_it less was.1
          | inr le ↦ absurd (was.0 le lt)
        ]
      ];
    };
  }

pub zero_end : (c : Config) (v done blocks n : ℕ) (old m : Meaning) → ZeroLoop c v done blocks old m → n ≡ blocks → n ≤ done → ZeroBelow c v blocks m
zero_end c v done blocks n old m loop is le = record { each = λ p k x is_on in_it lt reads. loop.below.each p k x is_on in_it (omega (arith, lt, is, le)) reads }

-- ---- zeros that a crash leaves

pub all_zero : (c : Config) (v : ℕ) (m m' : Meaning) → ZeroBelow c v (blocks_of c.volumes v) m → AllFlushed c v m m' → AreZero c v m'
all_zero c v m m' below flushed = record { each = λ p k x is_on in_it left. below.each p k x is_on in_it in_it.within ((flushed.each p is_on).each k x in_it left) }

pub zero_flushed : (c : Config) (v : ℕ) (old m m' : Meaning) → Goes (ZerosOn c v) old m → Goes Nothing m m' → Goes (ZerosOn c v) old m'
zero_flushed c v old m m' goes flush = weaker (Or (ZerosOn c v) Nothing) (ZerosOn c v) old m' (both_Goes (ZerosOn c v) Nothing old m m' goes flush) (λ u b x. ⊎_elim (λ put. put) (λ none. absurd none))

pub zero_all : {T E : Type 0} (c : Config) (v : ℕ) (m m' : Meaning) → ZeroBelow c v (blocks_of c.volumes v) m → (r : Result T E) → OnOk r (AllFlushed c v m m') → OnOk r (AreZero c v m')
zero_all c v m m' below (Ok x) flushed = all_zero c v m m' below flushed
zero_all c v m m' below (Err e) flushed = tt
