-- One device call of a read of a plex, and all of them.
use Rattle.std.proofs.Common.{◌≡◌, inl, inr, ⊎_elim, ℕ, ◌+◌, ◌-◌, ◌*◌, ◌/◌, ◌%◌, ◌<◌, ◌≤◌, List, ◌++◌, length, take, drop, refl, ap, sym, ◌∙◌, subst, arith, IsTrue, Err}
use Rattle.std.proofs.lemmas.Bool.{cases_lt}
use Rattle.vx_disk.specs.Shelf.{Covers, Goes, Meaning, Nothing, Or, Read, piece}
use Rattle.vx_disk.specs.declared.shelf.ShelfError.{ShelfError}
use Rattle.vx_disk.specs.declared.shelf.ShelfError.TheVariants.{Fault, Down}
use Rattle.vx_disk.proofs.Causing.{Rose_before}
use Rattle.vx_disk.proofs.Runs.{both_Goes, same_Goes, weaker}
use Rattle.vx_config.specs.declared.config.Config.{Config}
use Rattle.vx_layout.specs.Places.{place}
use Rattle.std.proofs.lemmas.List.{length-append, length-drop, length-take}
use Rattle.std.proofs.lemmas.Slice.{between-put_mid, take-put_mid_below}
use borrow.Rule.Slice.PartMut.{put_mid}
use Rattle.vx_disk.proofs.Blocks.{piece-take}
use Rattle.vx_volume.specs.Plexes.{Asked, InRun, RunFits}
use Rattle.vx_volume.proofs.WriteRuns.{at_j, piece_j}
use Rattle.vx_volume.specs.Steps.{ReadPart, ReadRun}
use Rattle.vx_volume.specs.Volumes.{PlexCause}

-- two runs of calls that write nothing
pub still : (old mid new : Meaning) → Goes Nothing old mid → Goes Nothing mid new → Goes Nothing old new
still old mid new first then_ = weaker (Or Nothing Nothing) Nothing old new (both_Goes Nothing Nothing old mid new first then_) (λ u b x. ⊎_elim (λ none. none) (λ none. none))

-- what it reads it read before
pub reads_before : (old new : Meaning) (u b : ℕ) (x : List ℕ) → Goes Nothing old new → (IsTrue new.down → ⊥) → new.reads u b x → old.reads u b x
reads_before old new u b x goes up is = elim (goes.reads u b x is) [
  | inl (inl was) ↦ was
  | inl (inr none) ↦ absurd none
  | inr down ↦ absurd (up down)
]

pub leaves_before : (old new : Meaning) (u b : ℕ) (x : List ℕ) → Goes Nothing old new → new.leaves u b x → old.leaves u b x
leaves_before old new u b x goes is = ⊎_elim (λ was. was) (λ none. absurd none) (goes.leaves u b x is)

pub no_read : (c : Config) (v p block n : ℕ) (bytes : List ℕ) (m : Meaning) → (IsTrue m.down → ⊥) → ReadPart c v p block n 0 bytes m m
no_read c v p block n bytes m up = record {
  up = up;
  few = omega arith;
  down = refl;
  goes = same_Goes Nothing m;
  read = record { each = λ tells k run. absurd (let first : block ≤ k = run.first in let last : k < block + 0 = run.last in omega (arith, first, last)) };
}

module _ (c : Config) (v p block n done : ℕ) (was : List ℕ) (old m m' : Meaning) (part : ReadPart c v p block n done was old m) (goes : Goes Nothing m m') where
  pub read_goes : Goes Nothing old m'
  read_goes = still old m m' part.goes goes

  pub read_more : (count : ℕ) (bytes : List ℕ) → ReadRun c v p block n done count was bytes m → m'.down ≡ m.down → ReadPart c v p block n (done + count) bytes old m'
  read_more count bytes run same = record {
    up = λ down. part.up (sym same ∙ down);
    few = run.few;
    down = same ∙ part.down;
    goes = read_goes;
    read = record {
      each = λ tells k in_run. elim (cases_lt k (block + done)) [
        | inl lt ↦
            let before : InRun block done k = record { first = in_run.first; last = lt } in
            subst (λ (x : List ℕ). old.reads (place c v p k).0 (place c v p k).1 x) (sym (run.same k before)) (part.read.each tells k before)
        | inr le ↦
            let last : k < block + (done + count) = in_run.last in
            reads_before old m (place c v p k).0 (place c v p k).1 (piece block bytes k) part.goes part.up (run.read.each (part.goes.tells ∙ tells) k (record { first = le; last = omega (arith, last) }))
      ];
    };
  }

  pub read_cause : (e : ShelfError) → PlexCause {T = ℕ} c v p m m' (Err e) → PlexCause {T = Unit {0}} c v p old m' (Err e)
  read_cause (Fault failed) cause = (record { disk = cause.0.disk; is_its = cause.0.is_its; rose = Rose_before _ _ _ (part.goes.faults cause.0.disk) cause.0.rose }, Rose_before _ _ _ (part.goes.disk_faults failed) cause.1, cause.2)
  read_cause Down cause = cause

-- ---- one call

-- blocks before a part of a list hang on what stands before it
front : (xs ys : List ℕ) (done b : ℕ) → b < done → take (512 * done) xs ≡ take (512 * done) ys → take 512 (drop (512 * b) xs) ≡ take 512 (drop (512 * b) ys)
front xs ys done b lt same = sym (of xs) ∙ ap (λ (t : List ℕ). take 512 (drop (512 * b) t)) same ∙ of ys
  where
    of : (zs : List ℕ) → take 512 (drop (512 * b) (take (512 * done) zs)) ≡ take 512 (drop (512 * b) zs)
    of zs = ap (λ (k : ℕ). take 512 (drop (512 * k) (take (512 * done) zs))) (let e : b ≡ b - 0 = omega arith in e) ∙ piece-take zs 0 b (512 * done) done refl (omega arith) (omega (arith, lt))

pub read_ok : (c : Config) (v p block done count disk at reach : ℕ) (into part : List ℕ) (old : Meaning) → Asked c v p block (length into / 512) → RunFits c v p block (length into / 512) old → length into % 512 ≡ 0
    → done < length into / 512 → 0 < reach → ((j : ℕ) → j < reach → place c v p (block + done + j) ≡ (disk, at + j)) → count ≤ reach → 0 < count → done + count ≤ length into / 512
    → length part ≡ 512 * (done + count) - 512 * done → (bytes : List ℕ) → bytes ≡ put_mid (512 * done) (512 * (done + count) - 512 * done) into part → length bytes ≡ length into → Read old disk at part
    → ReadRun c v p block (length into / 512) done count into bytes old
read_ok c v p block done count disk at reach into part old asked fits whole more some run le_reach positive few part_long bytes put long got =
    record {
      some = positive;
      few = few;
      read = record { each = λ tells k in_run. each tells k in_run };
      same = λ k in_run.
          let first : block ≤ k = in_run.first in
          let last : k < block + done = in_run.last in
          front bytes into done (k - block) (omega (arith, first, last)) (ap (take (512 * done)) put ∙ take-put_mid_below (512 * done) (512 * (done + count) - 512 * done) into part (512 * done) (omega arith) (omega (arith, more)));
    }
  where
    mine : take (512 * (done + count) - 512 * done) (drop (512 * done) bytes) ≡ part
    mine = ap (λ (xs : List ℕ). take (512 * (done + count) - 512 * done) (drop (512 * done) xs)) put ∙ between-put_mid (512 * done) (512 * (done + count) - 512 * done) into part (512 * (done + count)) (omega (arith, more)) part_long

    blocks : length bytes / 512 ≡ length into / 512
    blocks = ap (λ (n : ℕ). n / 512) long

    each : IsTrue old.tells → (k : ℕ) → InRun (block + done) count k → old.reads (place c v p k).0 (place c v p k).1 (piece block bytes k)
    each tells k in_run =
        let low : block + done ≤ k = in_run.first in
        let high : k < block + done + count = in_run.last in
        let j : ℕ = k - (block + done) in
        let lt : j < count = omega (arith, low, high) in
        let is : block + (done + j) ≡ k = omega (arith, low) in
        let asked' : Asked c v p block (length bytes / 512) = subst (λ (n : ℕ). Asked c v p block n) (sym blocks) asked in
        let fits' : RunFits c v p block (length bytes / 512) old = subst (λ (n : ℕ). RunFits c v p block n old) (sym blocks) fits in
        let pair : place c v p (block + (done + j)) ≡ (disk, at + j) = at_j c v p block done count disk at reach bytes old asked' fits' (omega (arith, whole, ap (λ (n : ℕ). n % 512) long)) (omega (arith, more, blocks)) some run le_reach positive (omega (arith, few, blocks)) j lt in
        let place_is : place c v p k ≡ (disk, at + j) = ap (λ (i : ℕ). place c v p i) (sym is) ∙ pair in
        let back : at + j - at ≡ j = omega arith in
        let piece_is : piece at part (at + j) ≡ piece block bytes k =
        ap (λ (xs : List ℕ). piece at xs (at + j)) (sym mine)
        ∙ piece_j c v p block done count disk at reach bytes old asked' fits' (omega (arith, whole, ap (λ (n : ℕ). n % 512) long)) (omega (arith, more, blocks)) some run le_reach positive (omega (arith, few, blocks)) (at + j) (omega arith) (omega (arith, lt, back))
        ∙ ap (λ (i : ℕ). piece block bytes (block + (done + i))) back ∙ ap (piece block bytes) is in
        let covers : Covers disk at part disk (at + j) = record { there = refl; first = omega arith; last = omega (arith, part_long, lt, back) } in
        subst (λ (q : ℕ × ℕ). old.reads q.0 q.1 (piece block bytes k)) (sym place_is) (subst (λ (x : List ℕ). old.reads disk (at + j) x) piece_is (got.each tells (at + j) covers))

pub part_length : (into : List ℕ) (done count : ℕ) → done + count ≤ length into / 512 → length (take (512 * (done + count) - 512 * done) (drop (512 * done) into)) ≡ 512 * (done + count) - 512 * done
part_length into done count few = omega (arith, few, length-take (512 * (done + count) - 512 * done) (drop (512 * done) into), length-drop (512 * done) into)

pub put_length : (a k : ℕ) (xs ys : List ℕ) → a + k ≤ length xs → length ys ≡ k → length (put_mid a k xs ys) ≡ length xs
put_length a k xs ys fits long =
    let one = length-append (take a xs) (ys ++ drop k (drop a xs)) in
    let two = length-append ys (drop k (drop a xs)) in
    omega (arith, one, two, length-take a xs, length-drop k (drop a xs), length-drop a xs, fits, long)
