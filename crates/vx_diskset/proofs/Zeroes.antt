-- Zeros on the disks of a site, run by run and disk by disk.
use Rattle.std.proofs.Common.{◌≡◌, inl, inr, ⊎_elim, ℕ, ◌+◌, ◌-◌, ◌*◌, ◌<◌, ◌≤◌, List, length, replicate, Result, Ok, Err, OnOk, ap, refl, subst, ◌∙◌, arith}
use Rattle.std.specs.Prelude.{IfErr, take}
use Rattle.std.proofs.lemmas.Bool.{cases_lt}
use Rattle.std.proofs.lemmas.List.{drop-replicate, length-replicate, take-replicate}
use Rattle.vx_model.specs.Content.{zero_block}
use Rattle.vx_disk.specs.Causes.{Cause, DeviceCause, refusal_of}
use Rattle.vx_disk.specs.Shelf.{Flushed, Goes, Keeps, Meaning, Nothing, Or, Written, Wrote, piece}
use Rattle.vx_disk.specs.declared.shelf.ShelfError.{ShelfError}
use Rattle.vx_disk.specs.declared.shelf.ShelfError.TheVariants.{Fault, Down}
use Rattle.vx_disk.proofs.Causing.{Rose_before}
use Rattle.vx_disk.proofs.Runs.{both_Goes, same_Goes, weaker}
use Rattle.vx_diskset.specs.Zeroing.{FailsAlike, GivesZeros, IsZeroOf, LeavesZeros, ZeroesDisk, ZeroesDisks}
use Rattle.vx_diskset.specs.Zeros.{OnlyZeros}
use Rattle.vx_diskset.proofs.KeepsFailing.{same_disks, same_then}

-- ---- a run

pub run_zeros : (count : ℕ) → count ≤ 16 → take {A = ℕ} (512 * count) (replicate 8192 0) ≡ replicate (512 * count) 0
run_zeros count few = take-replicate (512 * count) 8192 0 (omega (arith, few))

piece_zeros : (block count b : ℕ) → block ≤ b → 512 * (b - block) < 512 * count → piece block (replicate (512 * count) 0) b ≡ zero_block
piece_zeros block count b first last =
    ap (take 512) (drop-replicate (512 * (b - block)) (512 * count) 0) ∙ take-replicate 512 (512 * count - 512 * (b - block)) 0 (omega (arith, first, last))

module _ (disk block count : ℕ) (bytes : List ℕ) (is : bytes ≡ replicate (512 * count) 0) where
  long : length bytes ≡ 512 * count
  long = ap (λ (xs : List ℕ). length xs) is ∙ length-replicate {A = ℕ} (512 * count) 0

  written_zero : (u b : ℕ) (v : List ℕ) → Written disk block bytes u b v → v ≡ zero_block
  written_zero u b v put = put.value ∙ ap (λ (xs : List ℕ). piece block xs b) is ∙ piece_zeros block count b put.covers.first (omega (arith, put.covers.last, long))

  module _ (old new : Meaning) where
    pub run_goes : Goes (Written disk block bytes) old new → Goes (IsZeroOf disk) old new
    run_goes goes = weaker (Written disk block bytes) (IsZeroOf disk) old new goes (λ u b v put. record { there = put.covers.there; value = written_zero u b v put })

    run_each : Wrote disk block bytes old new → GivesZeros disk block old → GivesZeros disk (block + count) new
    run_each wrote was = record {
      each = λ b v low reads. elim (wrote.each disk b v reads) [
        | inl put ↦ written_zero disk b v put
        | inr out ↦ elim (cases_lt b block) [
          | inl less ↦ was.each b v less out.1
          | inr le ↦ absurd (out.0 (record { there = refl; first = omega (arith, le); last = omega (arith, le, low, long) }))
        ]
      ];
    }

    pub run_gives : (r : Result (Unit {0}) ShelfError) → OnOk r (Wrote disk block bytes old new) → OnOk r (GivesZeros disk block old → GivesZeros disk (block + count) new)
    run_gives (Ok done) wrote = run_each wrote
    run_gives (Err e) wrote = tt

-- ---- why it ended

pub device_of : (first mid last : Meaning) (unit : ℕ) (r : Result (Unit {0}) ShelfError) → ((d : ℕ) → first.disk_faults d ≤ mid.disk_faults d) → Cause mid last unit r → IfErr r (λ e. DeviceCause first last (refusal_of e))
device_of first mid last unit (Ok done) less cause = tt
device_of first mid last unit (Err (Fault disk)) less cause = Rose_before (first.disk_faults disk) (mid.disk_faults disk) (last.disk_faults disk) (less disk) cause.0.disk_count
device_of first mid last unit (Err Down) less cause = cause

later_why : (first mid last : Meaning) (e : ShelfError) → ((d : ℕ) → first.disk_faults d ≤ mid.disk_faults d) → DeviceCause mid last (refusal_of e) → DeviceCause first last (refusal_of e)
later_why first mid last (Fault disk) less rose = Rose_before (first.disk_faults disk) (mid.disk_faults disk) (last.disk_faults disk) (less disk) rose
later_why first mid last Down less down = down

pub device_later : (first mid last : Meaning) (r : Result (Unit {0}) ShelfError) → ((d : ℕ) → first.disk_faults d ≤ mid.disk_faults d) → IfErr r (λ e. DeviceCause mid last (refusal_of e)) → IfErr r (λ e. DeviceCause first last (refusal_of e))
device_later first mid last (Ok done) less cause = tt
device_later first mid last (Err e) less cause = later_why first mid last e less cause

-- ---- a disk

pub disk_start : (disk : ℕ) (m : Meaning) → ZeroesDisk disk 0 m m
disk_start disk m = record { goes = same_Goes (IsZeroOf disk) m; gives = record { each = λ b v low reads. absurd (omega (arith, low)) }; failing = same_disks m.disks }

module _ (disk done : ℕ) (old mid new : Meaning) (so : ZeroesDisk disk done old mid) where
  pub disk_goes : Goes (IsZeroOf disk) mid new → Goes (IsZeroOf disk) old new
  disk_goes goes = weaker (Or (IsZeroOf disk) (IsZeroOf disk)) (IsZeroOf disk) old new (both_Goes (IsZeroOf disk) (IsZeroOf disk) old mid new so.goes goes) (λ u b v. ⊎_elim (λ put. put) (λ put. put))

  pub disk_fails : FailsAlike mid.disks new.disks → FailsAlike old.disks new.disks
  disk_fails more = same_then old.disks mid.disks new.disks so.failing more

  pub disk_more : (count : ℕ) → Goes (IsZeroOf disk) mid new → FailsAlike mid.disks new.disks → (GivesZeros disk done mid → GivesZeros disk (done + count) new) → ZeroesDisk disk (done + count) old new
  disk_more count goes failing gives = record { goes = disk_goes goes; gives = gives so.gives; failing = disk_fails failing }

  pub flush_goes : Goes Nothing mid new → Goes (IsZeroOf disk) old new
  flush_goes goes = weaker (Or (IsZeroOf disk) Nothing) (IsZeroOf disk) old new (both_Goes (IsZeroOf disk) Nothing old mid new so.goes goes) (λ u b v. ⊎_elim (λ put. put) (λ none. absurd none))

  -- the disks before it are as they were, but for zeros
  flush_each : Goes Nothing mid new → mid.size disk ≤ done → Flushed disk mid new → LeavesZeros disk old → LeavesZeros (disk + 1) new
  flush_each goes all flushed was = record {
    each = λ u b low inside. elim (cases_lt u disk) [
      | inl less ↦ record {
        only = λ v left. elim ((flush_goes goes).leaves u b v left) [
          | inl before ↦ (was.each u b less (omega (arith, inside, (flush_goes goes).size u))).only v before
          | inr put ↦ put.value
        ];
      }
      | inr le ↦ here u b (omega (arith, low, le)) inside
    ];
  }
    where
      here : (u b : ℕ) → u ≡ disk → b < new.size u → Keeps new u b zero_block
      here u b is inside = record {
        only = λ v left. so.gives.each b v (omega (arith, ap (λ (k : ℕ). new.size k) is, inside, goes.size disk, all)) (flushed.each b v (subst (λ (k : ℕ). new.leaves k b v) is left));
      }

  pub flush_leaves : (r : Result (Unit {0}) ShelfError) → Goes Nothing mid new → mid.size disk ≤ done → OnOk r (Flushed disk mid new) → OnOk r (LeavesZeros disk old → LeavesZeros (disk + 1) new)
  flush_leaves (Ok x) goes all flushed = flush_each goes all flushed
  flush_leaves (Err e) goes all flushed = tt

-- ---- all disks

pub disks_start : (m : Meaning) → ZeroesDisks 0 m m
disks_start m = record { goes = same_Goes OnlyZeros m; leaves = record { each = λ u b low inside. absurd (omega (arith, low)) }; failing = same_disks m.disks }

module _ (disk : ℕ) (old mid new : Meaning) (so : ZeroesDisks disk old mid) where
  pub disks_goes : Goes (IsZeroOf disk) mid new → Goes OnlyZeros old new
  disks_goes goes = weaker (Or OnlyZeros (IsZeroOf disk)) OnlyZeros old new (both_Goes OnlyZeros (IsZeroOf disk) old mid new so.goes goes) (λ u b v. ⊎_elim (λ put. put) (λ put. put.value))

  pub disks_fail : FailsAlike mid.disks new.disks → FailsAlike old.disks new.disks
  disks_fail more = same_then old.disks mid.disks new.disks so.failing more

  pub disks_more : Goes (IsZeroOf disk) mid new → FailsAlike mid.disks new.disks → (LeavesZeros disk mid → LeavesZeros (disk + 1) new) → ZeroesDisks (disk + 1) old new
  disks_more goes failing leaves = record { goes = disks_goes goes; leaves = leaves so.leaves; failing = disks_fail failing }

pub disks_all : (disk : ℕ) (old new : Meaning) → ZeroesDisks disk old new → old.units ≤ disk → LeavesZeros old.units new
disks_all disk old new so all = record { each = λ u b low inside. so.leaves.each u b (omega (arith, low, all)) inside }
