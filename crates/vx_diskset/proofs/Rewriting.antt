-- Volumes of which each block is written as it reads, one volume after another.
use Rattle.std.proofs.Common.{◌≡◌, ◌∙◌, ◌⊎◌, inl, inr, ⊎_elim, ℕ, zero, suc, ◌+◌, ◌<◌, ◌≤◌, List, [], ◌∷◌, length, arith, refl, sym, subst}
use Rattle.std.specs.Prelude.{Contains, Err, Ok, slice_index, slice_index_or}
use Rattle.std.proofs.lemmas.Bool.{cases_eq}
use Rattle.vx_disk.specs.Causes.{Cause, DeviceCause, refusal_of}
use Rattle.vx_disk.specs.Shelf.{Goes, Meaning, Or}
use Rattle.vx_disk.specs.declared.shelf.ShelfError.{ShelfError}
use Rattle.vx_disk.specs.declared.shelf.ShelfError.TheVariants.{Down, Fault}
use Rattle.vx_disk.proofs.Causing.{Rose_before}
use Rattle.vx_disk.proofs.Runs.{both_Goes, same_Goes, weaker}
use Rattle.vx_ground.specs.Rewrites.{OneRests, WasLeft}
use Rattle.vx_diskset.specs.Works.{DoesRewrite}

-- the first of them were
pub record RewriteRun (volumes : List ℕ) (k : ℕ) (old now : Meaning) : Type 0 where
  pub goes : Goes old.leaves old now
  pub one : (j : ℕ) → j < k → OneRests (slice_index volumes j) now

-- within a list the default says nothing
default_same : (xs : List ℕ) (k d e : ℕ) → k < length xs → slice_index_or xs k d ≡ slice_index_or xs k e
default_same [] k d e low = absurd (omega (arith, low))
default_same (x ∷ xs) zero d e low = refl
default_same (x ∷ xs) (suc k) d e low = default_same xs k d e (omega (arith, low))

pub is_among : (xs : List ℕ) (k : ℕ) → k < length xs → Contains xs (slice_index xs k)
is_among xs k low = (k, low, default_same xs k (slice_index xs k) 0 low)

pub place_among : (xs : List ℕ) (u : ℕ) (among : Contains xs u) → slice_index xs among.0 ≡ u
place_among xs u among = default_same xs among.0 0 u among.1 ∙ among.2

pub is_there : (xs : List ℕ) (n : ℕ) → ((k : ℕ) → k < length xs → slice_index xs k < n) → (u : ℕ) → Contains xs u → u < n
is_there xs n each u among = let low = each among.0 among.1 in let same = default_same xs among.0 0 u among.1 ∙ among.2 in omega (arith, low, same)

pub rewrite_none : (volumes : List ℕ) (m : Meaning) → RewriteRun volumes 0 m m
rewrite_none volumes m = record { goes = same_Goes m.leaves m; one = λ j low. absurd (omega (arith, low)) }

module _ (volumes : List ℕ) (k : ℕ) (old mid new : Meaning) (run : RewriteRun volumes k old mid) (more : Goes (WasLeft (slice_index volumes k) mid) mid new) where
  -- what a crash might leave then it might leave before
  was_left : (u b : ℕ) (x : List ℕ) → Or old.leaves (WasLeft (slice_index volumes k) mid) u b x → old.leaves u b x
  was_left u b x (inl was) = was
  was_left u b x (inr was) = ⊎_elim (λ before. before) (λ before. before) (run.goes.leaves u b x was.left)

  run_goes : Goes old.leaves old new
  run_goes = weaker (Or old.leaves (WasLeft (slice_index volumes k) mid)) old.leaves old new (both_Goes old.leaves (WasLeft (slice_index volumes k) mid) old mid new run.goes more) was_left

  still_left : (u b : ℕ) (x : List ℕ) → new.leaves u b x → mid.leaves u b x
  still_left u b x left = ⊎_elim (λ was. was) (λ was. was.left) (more.leaves u b x left)

  still_one : (u : ℕ) → OneRests u mid → OneRests u new
  still_one u one = record { one = λ b x y low here there. one.one b x y (let size = more.size u in omega (arith, low, size)) (still_left u b x here) (still_left u b y there) }

  pub rewrite_more : OneRests (slice_index volumes k) new → RewriteRun volumes (k + 1) old new
  rewrite_more one = record {
    goes = run_goes;
    one = λ j low. ⊎_elim (λ (same : j ≡ k). subst (λ (i : ℕ). OneRests (slice_index volumes i) new) (sym same) one) (λ (apart : j ≡ k → ⊥). still_one (slice_index volumes j) (run.one j (omega (arith, low, apart)))) (cases_eq j k);
  }

  pub rewrite_fails : (e : ShelfError) → Cause {T = Unit {0}} mid new (slice_index volumes k) (Err e) → DoesRewrite volumes old new (Err e)
  rewrite_fails e cause = record { goes = run_goes; one = tt; cause = by e cause }
    where
      by : (e : ShelfError) → Cause {T = Unit {0}} mid new (slice_index volumes k) (Err e) → DeviceCause old new (refusal_of e)
      by (Fault disk) it = Rose_before (old.disk_faults disk) (mid.disk_faults disk) (new.disk_faults disk) (run.goes.disk_faults disk) it.0.disk_count
      by Down it = it

pub rewrite_done : (volumes : List ℕ) (k : ℕ) (old now : Meaning) → length volumes ≤ k → RewriteRun volumes k old now → DoesRewrite volumes old now (Ok tt)
rewrite_done volumes k old now all run = record {
  goes = run.goes;
  one = λ u among. subst (λ (v : ℕ). OneRests v now) (default_same volumes among.0 0 u among.1 ∙ among.2) (run.one among.0 (let low = among.1 in omega (arith, low, all)));
  cause = tt;
}
