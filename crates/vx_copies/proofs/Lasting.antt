-- Which disk failed last.
use Rattle.std.proofs.Common.{◌≡◌, ◌⊎◌, inl, inr, ℕ, ◌<◌, ◌≤◌, true, false, length, subst, arith}
use Rattle.vx_disk.specs.Counts.{Rose}
use Rattle.vx_disk.specs.Shelf.{Meaning}
use Rattle.vx_model.specs.declared.no.No.TheVariants as refusal
use Rattle.vx_config.specs.Table.{greatest}
use Rattle.vx_config.specs.declared.config.Config.{Config}
use Rattle.vx_copies.specs.Commits.{Grown, NamesLast, OneMarked, lowest_member}
use Rattle.vx_copies.specs.Marks.{NoneGood, failed_at}
use Rattle.vx_copies.proofs.OneTry.{held_or}

module _ {T : Type 0} (meaning : T → Meaning) where
  -- the last disk that failed so far: each other one that was marked had failed before
  pub record FailedLast (a c : Config) (old now : T) (disk : ℕ) : Type 0 where
    pub moment : T
    pub unit : ℕ
    pub failed : Rose ((meaning moment).faults unit) ((meaning now).faults unit) × Rose ((meaning moment).disk_faults disk) ((meaning now).disk_faults disk)
    pub before : (u : ℕ) → failed_at a.disks u ≡ false → failed_at c.disks u ≡ true → (u ≡ unit → ⊥) → Rose ((meaning old).faults u) ((meaning moment).faults u)

  -- or none was tried
  abbrev pub LastSoFar : ℕ → Config → Config → T → T → ℕ → Type 0
  LastSoFar good a c old now disk = FailedLast a c old now disk ⊎ ((c ≡ a) × (disk ≡ lowest_member good))

  -- one try more
  pub one_last : (a c d : Config) (old mid new : T) (disk : ℕ) → Grown (meaning old) (meaning mid) a c → OneMarked c d (meaning mid) (meaning new) disk → FailedLast a d old new disk
  one_last a c d old mid new disk grown one = record {
    moment = mid;
    unit = one.unit;
    failed = one.failed;
    before = λ u held failed other. elim (held_or c.disks u) [
      | inl still ↦ absurd (other (one.others u still failed))
      | inr was ↦ grown.disks.blamed u held was
    ];
  }

  -- and behind all of them
  pub names_last : (good : ℕ) (a d : Config) (old new : T) (disk : ℕ) → a.serial < greatest → NoneGood d.disks (length d.disks) good ⊎ (greatest ≤ d.serial) → length d.disks ≡ length a.disks
      → LastSoFar good a d old new disk → NamesLast meaning good a d.serial old new (refusal.Device disk)
  names_last good a d old new disk more (inl none) count (inl last) = inl (record {
    moment = last.moment;
    unit = last.unit;
    failed = last.failed;
    before = inl (λ u lt bit other. elim (held_or a.disks u) [
      | inl held ↦ inr (last.before u held (none.each u (omega (arith, lt, count)) bit) other)
      | inr failed ↦ inl failed
    ]);
  })
  names_last good a d old new disk more (inr most) count (inl last) = inl (record { moment = last.moment; unit = last.unit; failed = last.failed; before = inr most })
  names_last good a d old new disk more (inl none) count (inr first) = inr (subst (λ (x : Config). NoneGood x.disks (length x.disks) good) first.0 none, first.1)
  names_last good a d old new disk more (inr most) count (inr first) = let le : greatest ≤ a.serial = subst (λ (x : Config). greatest ≤ x.serial) first.0 most in absurd (omega (arith, le, more))
