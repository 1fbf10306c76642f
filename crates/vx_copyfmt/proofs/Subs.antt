-- Fewer values that a crash may leave, and a greater serial.
use Rattle.std.proofs.Common.{inl, inr, ⊎_elim, ℕ, ◌<◌, ◌≤◌, Option, List, arith}
use Rattle.vx_copyfmt.specs.Copies.{Disk}
use Rattle.vx_copyfmt.specs.Commits.{Slots, Lower, Counts, Fit, Tidy, TwoTargets, FromOld, FromNew, Forged, Torn}

module _ (old new : Slots) (sub : (b : ℕ) (v : List ℕ) → new b v → old b v) where
  pub lower_sub : (serial : ℕ) → Lower serial old → Lower serial new
  lower_sub serial lower a v h is in_v head = lower a v h is (sub a v in_v) head

  pub targets_sub : TwoTargets new → TwoTargets old
  targets_sub two = record {
    one = two.one;
    other = two.other;
    one_a = sub 1 (two.one 1) two.one_a;
    one_b = sub 129 (two.one 129) two.one_b;
    other_a = sub 1 (two.other 1) two.other_a;
    other_b = sub 129 (two.other 129) two.other_b;
    apart = two.apart;
  }

  pub forged_sub : (d : Disk) → Forged new d → Forged old d
  forged_sub d forged = record {
    area = forged.area;
    header = forged.header;
    top = forged.top;
    disk = forged.disk;
    among = λ b. sub b (forged.disk b) (forged.among b);
    head = forged.head;
    digest = forged.digest;
    targets = targets_sub forged.targets;
    changed = forged.changed;
  }

module _ {C : Type 0} (reads : ℕ → List ℕ → Option C) (old new : Slots) (sub : (b : ℕ) (v : List ℕ) → new b v → old b v) where
  pub counts_sub : Counts reads old → Counts reads new
  counts_sub counts d a h is among top = counts d a h is (λ b. sub b (d b) (among b)) top

  pub fit_sub : (serial : ℕ) → Fit reads serial old → Fit reads serial new
  fit_sub serial fit = record { counts = counts_sub fit.counts; below = lower_sub old new sub serial fit.below }

  pub tidy_sub : (serial : ℕ) → Tidy reads serial old → Tidy reads serial new
  tidy_sub serial tidy = record {
    fit = fit_sub serial tidy.fit;
    goes = λ v w x y in_v in_w in_x in_y. tidy.goes v w x y (sub 1 v in_v) (sub 129 w in_w) (sub 1 x in_x) (sub 129 y in_y);
  }

  pub old_sub : (d : Disk) → FromOld reads new d → FromOld reads old d
  old_sub d from = record { disk = from.disk; among = λ b. sub b (from.disk b) (from.among b); label = from.label; copy = from.copy }

  pub new_sub : (begun : ℕ → C → Type 0) (d : Disk) → FromNew reads begun new d → FromNew reads begun old d
  new_sub begun d from = record { serial = from.serial; config = from.config; area = from.area; made = from.made; first = from.first; there = sub 0 from.first from.there; label = from.label; copy = from.copy }

  pub torn_sub : (d : Disk) → Torn reads new d → Torn reads old d
  torn_sub d torn = record {
    disk = torn.disk;
    among = λ b. sub b (torn.disk b) (torn.among b);
    label = torn.label;
    was = torn.was;
    copy = torn.copy;
    most = torn.most;
    targets = targets_sub old new sub torn.targets;
    now = ⊎_elim (λ broken. inl broken) (λ forged. inr (forged_sub old new sub d forged)) torn.now;
  }

-- ---- a greater serial

pub lower_more : (s t : ℕ) (slots : Slots) → s ≤ t → Lower s slots → Lower t slots
lower_more s t slots le lower a v h is in_v head = let lt : h.serial < s = lower a v h is in_v head in omega (arith, le, lt)

module _ {C : Type 0} (reads : ℕ → List ℕ → Option C) where
  pub fit_more : (s t : ℕ) (slots : Slots) → s ≤ t → Fit reads s slots → Fit reads t slots
  fit_more s t slots le fit = record { counts = fit.counts; below = lower_more s t slots le fit.below }

  pub tidy_more : (s t : ℕ) (slots : Slots) → s ≤ t → Tidy reads s slots → Tidy reads t slots
  tidy_more s t slots le tidy = record { fit = fit_more s t slots le tidy.fit; goes = tidy.goes }
