-- One device call of a write to a plex, and all of them.
use Rattle.std.proofs.Common.{◌≡◌, ◌⊎◌, inl, inr, ⊎_elim, ℕ, ◌+◌, ◌-◌, ◌*◌, ◌/◌, ◌%◌, ◌<◌, ◌≤◌, List, length, take, drop, refl, ap, sym, ◌∙◌, subst, arith, IsTrue, Err}
use Rattle.std.proofs.lemmas.List.{length-drop, length-take}
use Rattle.std.proofs.lemmas.Bool.{cases_lt}
use Rattle.vx_disk.specs.Causes.{Cause}
use Rattle.vx_disk.specs.Counts.{Rose}
use Rattle.vx_disk.specs.Shelf.{Covers, Fits, Goes, Meaning, Or, Written, Wrote, piece}
use Rattle.vx_disk.specs.declared.shelf.ShelfError.{ShelfError}
use Rattle.vx_disk.specs.declared.shelf.ShelfError.TheVariants.{Fault, Down}
use Rattle.vx_disk.proofs.Blocks.{piece-take}
use Rattle.vx_disk.proofs.Causing.{Rose_before}
use Rattle.vx_disk.proofs.Runs.{both_Goes, same_Goes, weaker}
use Rattle.vx_config.specs.declared.config.Config.{Config}
use Rattle.vx_layout.specs.Places.{place}
use Rattle.vx_volume.specs.Plexes.{Asked, InRun, Inside, OneEach, RunFits, uses}
use Rattle.vx_volume.specs.Steps.{Part, WroteRun}
use Rattle.vx_volume.specs.Volumes.{OnPlex, PlexBlamed, PlexCause}
use Rattle.vx_volume.proofs.PlaceLemmas.{one_of, place_uses}

module _ (c : Config) (v p block done count disk at reach : ℕ) (bytes : List ℕ) (old : Meaning) (asked : Asked c v p block (length bytes / 512)) (fits : RunFits c v p block (length bytes / 512) old) (whole : length bytes % 512 ≡ 0)
    (more : done < length bytes / 512) (some : 0 < reach) (run : (j : ℕ) → j < reach → place c v p (block + done + j) ≡ (disk, at + j))
    (le_reach : count ≤ reach) (positive : 0 < count) (few : done + count ≤ length bytes / 512) where
  abbrev pub n : ℕ
  n = length bytes / 512

  one : OneEach c v p
  one = one_of c asked.sound v p asked.is_on

  abbrev pub slice : List ℕ
  slice = take (512 * (done + count) - 512 * done) (drop (512 * done) bytes)

  pub slice_long : length slice ≡ 512 * count
  slice_long = omega (arith, whole, few, length-take (512 * (done + count) - 512 * done) (drop (512 * done) bytes), length-drop (512 * done) bytes)

  -- block j of the call
  pub at_j : (j : ℕ) → j < count → place c v p (block + (done + j)) ≡ (disk, at + j)
  at_j j lt =
      let same : block + (done + j) ≡ block + done + j = omega arith in
      ap (λ (k : ℕ). place c v p k) same ∙ run j (omega (arith, lt, le_reach))

  pub run_j : (j : ℕ) → j < count → InRun block n (block + (done + j))
  run_j j lt = record { first = omega arith; last = omega (arith, lt, few) }

  disk_is : (j : ℕ) → j < count → (place c v p (block + (done + j))).0 ≡ disk
  disk_is j lt = ap (λ (q : ℕ × ℕ). q.0) (at_j j lt)

  pub run_fits : Fits old disk at (length slice)
  run_fits =
      let first : 0 < count = positive in
      let last_j : ℕ = count - 1 in
      let lt : last_j < count = omega (arith, positive) in
      let d : (place c v p (block + (done + last_j))).0 ≡ disk = disk_is last_j lt in
      let e : (place c v p (block + (done + last_j))).1 ≡ at + last_j = ap (λ (q : ℕ × ℕ). q.1) (at_j last_j lt) in
      let in_units : disk < old.units = subst (λ (w : ℕ). w < old.units) d (fits.there _ (run_j last_j lt)) in
      let in_size : at + last_j < old.size disk = subst (λ (b : ℕ). b < old.size disk) e (subst (λ (w : ℕ). (place c v p (block + (done + last_j))).1 < old.size w) d (fits.within _ (run_j last_j lt))) in
      record { exists = in_units; some = omega (arith, slice_long, positive); whole = omega (arith, slice_long); within = omega (arith, slice_long, in_size, positive) }

  -- its piece of the bytes
  pub piece_j : (b : ℕ) → at ≤ b → b - at < count → piece at slice b ≡ piece block bytes (block + (done + (b - at)))
  piece_j b above lt =
      let j : ℕ = b - at in
      let m : 512 * (done + count) - 512 * done ≡ 512 * count = omega arith in
      let back : done + j - done ≡ j = omega arith in
      let place_is : block + (done + j) - block ≡ done + j = omega arith in
      ap (λ (k : ℕ). take 512 (drop (512 * j) (take k (drop (512 * done) bytes)))) m
      ∙ ap (λ (k : ℕ). take 512 (drop (512 * k) (take (512 * count) (drop (512 * done) bytes)))) (sym back)
      ∙ piece-take bytes done (done + j) (512 * count) count refl (omega arith) (omega (arith, lt, back))
      ∙ ap (λ (k : ℕ). take 512 (drop (512 * k) bytes)) (sym place_is)

  covered : (b : ℕ) → Covers disk at slice disk b → b - at < count
  covered b covers = omega (arith, covers.last, slice_long)

  is_on : (u b : ℕ) (x : List ℕ) → Written disk at slice u b x → OnPlex c v p block n bytes u b x
  is_on u b x put =
      let first : at ≤ b = put.covers.first in
      let lt : b - at < count = covered b (record { there = refl; first = put.covers.first; last = put.covers.last }) in
      let sum : at + (b - at) ≡ b = omega (arith, first) in
      record {
        number = block + (done + (b - at));
        run = run_j (b - at) lt;
        at = at_j (b - at) lt ∙ ap (λ (k : ℕ). (disk, k)) sum ∙ ap (λ (w : ℕ). (w, b)) (sym put.covers.there);
        value = put.value ∙ piece_j b first lt;
      }

  module _ (new : Meaning) where
    pub run_Goes : Goes (Written disk at slice) old new → Goes (OnPlex c v p block n bytes) old new
    run_Goes write = weaker (Written disk at slice) (OnPlex c v p block n bytes) old new write is_on

    -- block k of the volume is written in this call where it is one of these
    covers_k : (k : ℕ) → InRun (block + done) count k → Covers disk at slice (place c v p k).0 (place c v p k).1
    covers_k k in_run =
        let low : block + done ≤ k = in_run.first in
        let high : k < block + done + count = in_run.last in
        let j : ℕ = k - (block + done) in
        let lt : j < count = omega (arith, low, high) in
        let is : k ≡ block + (done + j) = omega (arith, low) in
        let pair : place c v p k ≡ (disk, at + j) = ap (λ (i : ℕ). place c v p i) is ∙ at_j j lt in
        let d : (place c v p k).0 ≡ disk = ap (λ (q : ℕ × ℕ). q.0) pair in
        let e : (place c v p k).1 ≡ at + j = ap (λ (q : ℕ × ℕ). q.1) pair in
        record { there = d; first = omega (arith, e); last = omega (arith, e, lt, slice_long) }

    pub run_Wrote : Wrote disk at slice old new → WroteRun c v p block n done count bytes old new
    unfolding is_on place
    run_Wrote wrote = record {
      some = positive;
      few = few;
      wrote = record { each = each };
    }
      where
        put_at : (k : ℕ) (x : List ℕ) → Inside c v k → Written disk at slice (place c v p k).0 (place c v p k).1 x → InRun (block + done) count k × (x ≡ piece block bytes k)
        put_at k x inside put =
            let on = is_on (place c v p k).0 (place c v p k).1 x put in
            let same : on.number ≡ k = one.same on.number k (asked.inside on.number on.run) inside on.at in
            let lt : (place c v p k).1 - at < count = covered (place c v p k).1 (record { there = refl; first = put.covers.first; last = put.covers.last }) in
            let is : block + (done + ((place c v p k).1 - at)) ≡ k = same in
            (record { first = omega (arith, is); last = omega (arith, is, lt) }, subst (λ (i : ℕ). x ≡ piece block bytes i) same on.value)

        each : (k : ℕ) (x : List ℕ) → Inside c v k → new.reads (place c v p k).0 (place c v p k).1 x
            → (InRun (block + done) count k × (x ≡ piece block bytes k)) ⊎ ((InRun (block + done) count k → ⊥) × old.reads (place c v p k).0 (place c v p k).1 x)
        each k x inside is = elim (wrote.each (place c v p k).0 (place c v p k).1 x is) [
          | inl put ↦ inl (put_at k x inside put)
          | inr out ↦ inr ((λ in_run. out.0 (covers_k k in_run)), out.1)
        ]

    blamed : (d : ℕ) → (place c v p (block + (done + 0))).0 ≡ d → Rose (old.faults d) (new.faults d) → PlexBlamed c v p old new
    blamed d same rose = record { disk = d; is_its = subst (λ (w : ℕ). IsTrue (uses c v p w)) same (place_uses c asked.sound v p (block + (done + 0)) asked.is_on (asked.inside (block + (done + 0)) (run_j 0 positive))); rose = rose }

    pub run_Cause : (e : ShelfError) → Cause {T = Unit {0}} old new disk (Err e) → PlexCause {T = ℕ} c v p old new (Err e)
    run_Cause (Fault failed) cause =
        (blamed disk (disk_is 0 positive) cause.0.count, cause.0.disk_count, cause.1.after)
    run_Cause Down cause = cause

-- ---- the runs of one plex

pub fits_same : (c : Config) (v p block n : ℕ) (m m' : Meaning) → m'.units ≡ m.units → ((u : ℕ) → m'.size u ≡ m.size u) → RunFits c v p block n m → RunFits c v p block n m'
fits_same c v p block n m m' units size fits = record {
  there = λ k in_run. omega (arith, units, fits.there k in_run);
  within = λ k in_run. omega (arith, size (place c v p k).0, fits.within k in_run);
}

pub no_part : (c : Config) (v p block n : ℕ) (bytes : List ℕ) (m : Meaning) → (IsTrue m.down → ⊥) → Part c v p block n 0 bytes m m
no_part c v p block n bytes m up = record {
  up = up;
  few = omega arith;
  goes = same_Goes (OnPlex c v p block n bytes) m;
  wrote = record { each = λ k x inside is. inr ((λ in_run. let first : block ≤ k = in_run.first in let last : k < block + 0 = in_run.last in omega (arith, first, last)), is) };
}

module _ (c : Config) (v p block n done : ℕ) (bytes : List ℕ) (old m m' : Meaning) (part : Part c v p block n done bytes old m) (goes : Goes (OnPlex c v p block n bytes) m m') where
  pub part_goes : Goes (OnPlex c v p block n bytes) old m'
  part_goes = weaker (Or (OnPlex c v p block n bytes) (OnPlex c v p block n bytes)) (OnPlex c v p block n bytes) old m' (both_Goes (OnPlex c v p block n bytes) (OnPlex c v p block n bytes) old m m' part.goes goes) (λ u b x. ⊎_elim (λ put. put) (λ put. put))

  pub part_more : (count : ℕ) → WroteRun c v p block n done count bytes m m' → (IsTrue m'.down → ⊥) → Part c v p block n (done + count) bytes old m'
  part_more count run up = record {
    up = up;
    few = run.few;
    goes = part_goes;
    wrote = record {
      each = λ k x inside is. elim (run.wrote.each k x inside is) [
        | inl put ↦ let first : block + done ≤ k = put.0.first in let last : k < block + done + count = put.0.last in inl (record { first = omega (arith, first); last = omega (arith, last) }, put.1)
        | inr out ↦ elim (part.wrote.each k x inside out.1) [
          | inl before ↦ let last : k < block + done = before.0.last in inl (record { first = before.0.first; last = omega (arith, last) }, before.1)
          | inr was ↦ inr (
            (λ in_run. elim (cases_lt k (block + done)) [
              | inl lt ↦ was.0 (record { first = in_run.first; last = lt })
              | inr le ↦ out.0 (record { first = le; last = let last : k < block + (done + count) = in_run.last in omega (arith, last) })
            ]),
            was.1,
          )
        ]
      ];
    };
  }

  pub part_cause : (e : ShelfError) → PlexCause {T = ℕ} c v p m m' (Err e) → PlexCause {T = Unit {0}} c v p old m' (Err e)
  part_cause (Fault failed) cause =
      (record { disk = cause.0.disk; is_its = cause.0.is_its; rose = Rose_before _ _ _ (part.goes.faults cause.0.disk) cause.0.rose }, Rose_before _ _ _ (part.goes.disk_faults failed) cause.1, cause.2)
  part_cause Down cause = cause
