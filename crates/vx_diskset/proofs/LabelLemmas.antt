-- Labels that are taken off: nothing but zeros is written, and clean disks stay clean.
use Rattle.std.proofs.Common.{arith, ◌≡◌, ◌∙◌, ◌⊎◌, inl, inr, ⊎_elim, ℕ, ◌<◌, ◌≤◌, List, Result, Ok, Err, ap, length, replicate, refl, subst, sym, take, IsTrue}
use Rattle.std.proofs.Math.Seq.{take-length}
use Rattle.std.proofs.lemmas.Bool.{cases_lt}
use Rattle.std.specs.Prelude.{IfErr}
use Rattle.vx_wire.specs.Numbers.{be_bytes}
use Rattle.vx_model.specs.Content.{zero_block}
use Rattle.vx_model.specs.declared.no.No.{No}
use Rattle.vx_copyfmt.specs.Labels.{begins_label, seen_in}
use Rattle.vx_copyfmt.specs.declared.label.LabelSeen.TheVariants as seen
use Rattle.vx_disk.specs.Causes.{DeviceCause}
use Rattle.vx_disk.specs.Shelf.{Covers, Goes, Keeps, Lawful, Meaning, Nothing, Or, Read, Written, piece}
use Rattle.vx_disk.proofs.Causing.{cause_before}
use Rattle.vx_disk.proofs.Runs.{both_Goes, same_Goes, then_nothing, weaker}
use Rattle.vx_disk.proofs.Spending.{spends_none, then_spends}
use Rattle.vx_disk.specs.Spends.{Spends}
use Rattle.vx_history.specs.World.{Node}
use Rattle.vx_diskset.specs.Stands.{IsCleanAt}
use Rattle.vx_diskset.specs.Unlabels.{HasNoFront, OnlyReads, Unlabels}
use Rattle.vx_diskset.specs.Zeroing.{IsZeroOf}
use Rattle.vx_diskset.specs.Zeros.{OnlyZeros}
use Rattle.vx_diskset.proofs.StaysUp.{never_both, not_true}
use Rattle.vx_diskset.proofs.Zeroes.{run_goes}

-- ---- one block

pub front_goes : (disk : ℕ) (old new : Meaning) → Goes (Written disk 0 (replicate 512 0)) old new → Goes OnlyZeros old new
front_goes disk old new goes = weaker (IsZeroOf disk) OnlyZeros old new (run_goes disk 0 1 (replicate 512 0) refl old new goes) (λ u b v put. put.value)

-- ---- calls in a row

pub unlabels_none : (m : Meaning) → Unlabels m m
unlabels_none m = record { goes = same_Goes OnlyZeros m; spends = spends_none m }

pub unlabels_then : (old mid new : Meaning) → Unlabels old mid → Unlabels mid new → Unlabels old new
unlabels_then old mid new one two = record {
  goes = weaker (Or OnlyZeros OnlyZeros) OnlyZeros old new (both_Goes OnlyZeros OnlyZeros old mid new one.goes two.goes) (λ u b v. ⊎_elim (λ put. put) (λ put. put));
  spends = then_spends old mid new one.spends two.spends;
}

pub causes_since : (old mid new : Meaning) → ((d : ℕ) → old.disk_faults d ≤ mid.disk_faults d) → (r : Result (Unit {0}) No) → IfErr r (DeviceCause mid new) → IfErr r (DeviceCause old new)
causes_since old mid new less (Ok done) it = tt
causes_since old mid new less (Err why) it = cause_before old mid new less why it

-- ---- clean disks

zeros_keep : (m new : Meaning) (u b : ℕ) → Goes OnlyZeros m new → Keeps m u b zero_block → Keeps new u b zero_block
zeros_keep m new u b goes keeps = record { only = λ v left. ⊎_elim (λ old. keeps.only v old) (λ put. put) (goes.leaves u b v left) }

pub clean_zeros : (n : Node) (m new : Meaning) → Goes OnlyZeros m new → IsCleanAt n m → IsCleanAt n new
clean_zeros n m new goes clean = record {
  bare = record {
    is = clean.bare.is;
    fitted = record {
      units = goes.units ∙ clean.bare.fitted.units;
      size = λ u there. goes.size u ∙ clean.bare.fitted.size u there;
      up = not_true new.down (λ down. never_both m.down (goes.safe clean.bare.unarmed down) clean.bare.fitted.up);
    };
    unarmed = goes.unarmed clean.bare.unarmed;
    few = clean.bare.few;
    some = clean.bare.some;
    blank = λ u b some past below. zeros_keep m new u b goes (clean.bare.blank u b some past below);
  };
  front = λ b below. zeros_keep m new 0 b goes (clean.front b below);
}

-- ---- zeros are no label

pub zero_seen : seen_in zero_block ≡ seen.Other
unfolding seen_in begins_label be_bytes
zero_seen = refl

pub no_front : (n : Node) (m : Meaning) → IsCleanAt n m → HasNoFront m
no_front n m clean = record { each = λ u low. front_at u (cases_lt 0 u) (subst (λ (k : ℕ). u < k) clean.bare.fitted.units low) }
  where
    some : 0 < n.blocks
    some = omega (arith, clean.bare.some)

    front_at : (u : ℕ) → (0 < u) ⊎ (u ≤ 0) → u < n.disks → Keeps m u 0 zero_block
    front_at u (inl past) low = clean.bare.blank u 0 past low some
    front_at u (inr none) low = subst (λ (k : ℕ). Keeps m k 0 zero_block) (omega (arith, none)) (clean.front 0 some)

pub no_front_read : (m new : Meaning) → Goes Nothing m new → HasNoFront m → HasNoFront new
no_front_read m new goes it = record { each = λ u low. record { only = λ v left. ⊎_elim (λ old. (it.each u (subst (λ (k : ℕ). u < k) goes.units low)).only v old) (λ none. absurd none) (goes.leaves u 0 v left) } }

-- what a read gave of such a block, where contents are told
pub zero_read : (m : Meaning) (disk : ℕ) (bytes : List ℕ) → Lawful m → length bytes ≡ 512 → IsTrue m.tells → Keeps m disk 0 zero_block → Read m disk 0 bytes → bytes ≡ zero_block
zero_read m disk bytes lawful long tells keeps read =
    let covers : Covers disk 0 bytes disk 0 = record { there = refl; first = omega arith; last = omega (arith, long) } in
    let is : piece 0 bytes 0 ≡ zero_block = keeps.only (piece 0 bytes 0) (lawful.shown disk 0 (piece 0 bytes 0) (read.each tells 0 covers)) in
    let whole : take 512 bytes ≡ bytes = ap (λ (k : ℕ). take k bytes) (sym long) ∙ take-length bytes in
    sym whole ∙ is

-- ---- reads in a row

pub reads_none : (m : Meaning) → OnlyReads m m
reads_none m = record { goes = same_Goes Nothing m; spends = spends_none m }

pub reads_then : (old mid new : Meaning) → OnlyReads old mid → Goes Nothing mid new → Spends mid new → OnlyReads old new
reads_then old mid new one goes spends = record { goes = then_nothing Nothing old mid new one.goes goes; spends = then_spends old mid new one.spends spends }
