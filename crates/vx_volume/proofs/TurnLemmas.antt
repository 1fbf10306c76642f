-- A read that asks the plexes in turn.
use Rattle.std.proofs.Common.{◌≡◌, ◌≢◌, ◌⊎◌, inl, inr, ℕ, suc, ◌+◌, ◌-◌, ◌%◌, ◌<◌, ◌≤◌, Bool, true, false, List, [], ◌∷◌, length, refl, ap, sym, ◌∙◌, subst, arith, IsTrue, Err, Option, Some, None}
use Rattle.std.specs.Prelude.{slice_get}
use Rattle.std.proofs.lemmas.Bool.{cases_eq, cases_lt}
use Rattle.std.proofs.Math.Nat.{add-mod_right, mod-eq_of_lt, mod-lt}
use Rattle.vx_disk.specs.Counts.{Rose}
use Rattle.vx_disk.specs.Shelf.{Goes, Meaning, Nothing, piece}
use Rattle.vx_disk.specs.declared.shelf.ShelfError.{ShelfError}
use Rattle.vx_disk.specs.declared.shelf.ShelfError.TheVariants.{Fault}
use Rattle.vx_disk.proofs.Causing.{Rose_after, Rose_before}
use Rattle.vx_disk.proofs.Runs.{same_Goes}
use Rattle.vx_config.specs.declared.config.Config.{Config}
use Rattle.vx_config.specs.declared.entry.VolumeEntry.{VolumeEntry}
use Rattle.vx_config.specs.Checks.{is_sound, plexes_of, plexes_or}
use Rattle.vx_layout.specs.Places.{place}
use Rattle.vx_volume.specs.Plexes.{SomeActive, active, prefer_of, prefer_or}
use Rattle.vx_volume.specs.Steps.{Device, ReadLoop}
use Rattle.vx_volume.specs.Volumes.{AllBut, AllPlexesFailed, LastPlexFailed, PlexBlamed, PlexCause, PlexRead, ReadFrom, first_asked, turn_of}
use Rattle.vx_disk.specs.Blocks.{bit_at}
use Rattle.vx_volume.specs.Sets.{bits}
use Rattle.vx_volume.specs.Steps.{in_set}
use Rattle.vx_volume.proofs.BitLemmas.{bit_of}
use Rattle.vx_volume.proofs.PlaceLemmas.{active_below, preferred_there}
use Rattle.vx_volume.proofs.ReadRuns.{reads_before, still}

-- ---- turns

wrapped : (n k : ℕ) → n < k → (n + k) % k ≡ n
wrapped n k lt = add-mod_right n k ∙ mod-eq_of_lt lt

-- the turn of the plex that is asked in a turn is that turn
pub turn_at : (plexes first t : ℕ) → first < plexes → t < plexes → turn_of plexes first ((first + t) % plexes) ≡ t
turn_at plexes first t in_first in_t = by (cases_lt (first + t) plexes)
  where
    by : (first + t < plexes) ⊎ (plexes ≤ first + t) → turn_of plexes first ((first + t) % plexes) ≡ t
    by (inl lt) =
        ap (λ (p : ℕ). (p + plexes - first) % plexes) (mod-eq_of_lt lt) ∙ ap (λ (n : ℕ). n % plexes) (let e : first + t + plexes - first ≡ t + plexes = omega arith in e) ∙ wrapped t plexes in_t
    by (inr le) =
        let r : ℕ = first + t - plexes in
        let low : r < plexes = omega (arith, in_first, in_t) in
        let at : (first + t) % plexes ≡ r = ap (λ (n : ℕ). n % plexes) (let e : first + t ≡ r + plexes = omega (arith, le) in e) ∙ wrapped r plexes low in
        ap (λ (p : ℕ). (p + plexes - first) % plexes) at ∙ ap (λ (n : ℕ). n % plexes) (let e : r + plexes - first ≡ t = omega (arith, le) in e) ∙ mod-eq_of_lt in_t

-- and the plex that is asked in the turn of a plex is that plex
pub plex_at_turn : (plexes first q : ℕ) → first < plexes → q < plexes → (first + turn_of plexes first q) % plexes ≡ q
plex_at_turn plexes first q in_first in_q = by (cases_lt q first)
  where
    by : (q < first) ⊎ (first ≤ q) → (first + turn_of plexes first q) % plexes ≡ q
    by (inl lt) =
        let turn : turn_of plexes first q ≡ q + plexes - first = mod-eq_of_lt (omega (arith, lt, in_first)) in
        ap (λ (n : ℕ). (first + n) % plexes) turn ∙ ap (λ (n : ℕ). n % plexes) (let e : first + (q + plexes - first) ≡ q + plexes = omega (arith, in_first) in e) ∙ wrapped q plexes in_q
    by (inr le) =
        let turn : turn_of plexes first q ≡ q - first = ap (λ (n : ℕ). n % plexes) (let e : q + plexes - first ≡ (q - first) + plexes = omega (arith, le) in e) ∙ wrapped (q - first) plexes (omega (arith, in_q)) in
        ap (λ (n : ℕ). (first + n) % plexes) turn ∙ ap (λ (n : ℕ). n % plexes) (let e : first + (q - first) ≡ q = omega (arith, le) in e) ∙ mod-eq_of_lt in_q

pub turn_below : (plexes first q : ℕ) → 0 < plexes → turn_of plexes first q < plexes
turn_below plexes first q some = mod-lt (q + plexes - first) some

-- ---- the loop

pub turns_start : (c : Config) (v plexes first device : ℕ) (m : Meaning) → (IsTrue m.down → ⊥) → ReadLoop c v plexes first 0 device m m
turns_start c v plexes first device m up = record { up = up; down = refl; goes = same_Goes Nothing m; blamed = λ q lt on turn. absurd (omega (arith, turn)) }

module _ (c : Config) (v plexes first turn device : ℕ) (old m : Meaning) (in_first : first < plexes) (loop : ReadLoop c v plexes first turn device old m) where
  pub turns_pass : (new : ℕ) → new ≡ device → active c v ((first + turn) % plexes) ≡ false → ReadLoop c v plexes first (turn + 1) new old m
  turns_pass new same off = rw same (record {
    up = loop.up;
    down = loop.down;
    goes = loop.goes;
    blamed = λ q lt on turn_lt. elim (cases_eq (turn_of plexes first q) turn) [
      | inl at ↦
          let here : (first + turn) % plexes ≡ q = ap (λ (n : ℕ). (first + n) % plexes) (sym at) ∙ plex_at_turn plexes first q in_first lt in
          absurd (let clash : true ≡ false = sym (subst (λ (p : ℕ). active c v p ≡ true) (sym here) on) ∙ off in cc)
      | inr not ↦ loop.blamed q lt on (omega (arith, turn_lt, not))
    ];
  })

  module _ (m' : Meaning) (goes : Goes Nothing m m') (down : m'.down ≡ m.down) where
    pub turns_failed : (new disk : ℕ) (e : ShelfError) → new ≡ disk → e ≡ Fault disk → PlexCause {T = Unit {0}} c v ((first + turn) % plexes) m m' (Err e) → ReadLoop c v plexes first (turn + 1) new old m'
    turns_failed new disk e same is raw =
        let cause = subst (λ (x : ShelfError). PlexCause {T = Unit {0}} c v ((first + turn) % plexes) m m' (Err x)) is raw in
        rw same (record {
          up = cause.2;
          down = down ∙ loop.down;
          goes = still old m m' loop.goes goes;
          blamed = λ q lt on turn_lt. (blame q lt on turn_lt cause.0 (cases_eq (turn_of plexes first q) turn), Rose_before _ _ _ (loop.goes.disk_faults disk) cause.1);
        })
      where
        blame : (q : ℕ) → q < plexes → IsTrue (active c v q) → turn_of plexes first q < turn + 1 → PlexBlamed c v ((first + turn) % plexes) m m' → (turn_of plexes first q ≡ turn) ⊎ (turn_of plexes first q ≢ turn) → PlexBlamed c v q old m'
        blame q lt on turn_lt mine (inl at) =
            let here : (first + turn) % plexes ≡ q = ap (λ (n : ℕ). (first + n) % plexes) (sym at) ∙ plex_at_turn plexes first q in_first lt in
            subst (λ (p : ℕ). PlexBlamed c v p old m') here (record { disk = mine.disk; is_its = mine.is_its; rose = Rose_before _ _ _ (loop.goes.faults mine.disk) mine.rose })
        blame q lt on turn_lt mine (inr not) =
            let was = (loop.blamed q lt on (omega (arith, turn_lt, not))).0 in
            record { disk = was.disk; is_its = was.is_its; rose = Rose_after _ _ _ was.rose (goes.faults was.disk) }

    pub turns_ok : (count block n n' : ℕ) (bytes : List ℕ) → plexes ≡ count → n' ≡ n → turn < plexes → active c v ((first + turn) % plexes) ≡ true → (IsTrue m'.down → ⊥) → PlexRead c v ((first + turn) % plexes) block block n' bytes m → ReadFrom c v count first block n ((first + turn) % plexes) bytes old m'
    turns_ok count block n n' bytes same long in_turn on up read = subst (λ (k : ℕ). ReadFrom c v k first block n ((first + turn) % plexes) bytes old m') same (record {
      inside = mod-lt (first + turn) (omega (arith, in_first));
      is_on = on;
      read = record {
        each = λ tells k run. reads_before old m (place c v ((first + turn) % plexes) k).0 (place c v ((first + turn) % plexes) k).1 (piece block bytes k) loop.goes loop.up
            (read.each (loop.goes.tells ∙ tells) k (record { first = run.first; last = omega (arith, run.last, long) }));
      };
      before = λ q lt is_on turn_lt.
          let was = (loop.blamed q lt is_on (let at = turn_at plexes first turn in_first in_turn in omega (arith, turn_lt, at))).0 in
          record { disk = was.disk; is_its = was.is_its; rose = Rose_after _ _ _ was.rose (goes.faults was.disk) };
      up = up;
    })

  pub turns_end : is_sound c ≡ true → plexes ≡ plexes_of c v → plexes ≤ turn → SomeActive c v → AllPlexesFailed c v device old m
  turns_end sound same le some = record {
    each = λ p on. (mine p on).0;
    rose = (mine some.plex some.is_on).1;
    up = loop.up;
  }
    where
      mine : (p : ℕ) → IsTrue (active c v p) → PlexBlamed c v p old m × Rose (old.disk_faults device) (m.disk_faults device)
      mine p on =
          let below = active_below c sound v p on in
          loop.blamed p (omega (arith, below, same)) on (let t = turn_below plexes first p (omega (arith, in_first)) in omega (arith, t, le))

-- ---- the calls

pub asked_below : (c : Config) → is_sound c ≡ true → (v next : ℕ) → 0 < plexes_of c v → first_asked (prefer_of c v) (next % plexes_of c v) < plexes_of c v
asked_below c sound v next some = by_volume (slice_get c.volumes v) refl some
  where
    by_prefer : (x : VolumeEntry) → slice_get c.volumes v ≡ Some x → (o : Option ℕ) → x.prefer ≡ o → 0 < length x.plexes → first_asked o (next % length x.plexes) < length x.plexes
    by_prefer x at None is some = mod-lt next some
    by_prefer x at (Some p) is some = preferred_there c sound v x p at is

    by_volume : (o : Option VolumeEntry) → slice_get c.volumes v ≡ o → 0 < plexes_or o → first_asked (prefer_or o) (next % plexes_or o) < plexes_or o
    by_volume None at some = absurd (omega (arith, some))
    by_volume (Some x) at some = by_prefer x at x.prefer refl some

pub some_plexes : (c : Config) → is_sound c ≡ true → (v : ℕ) → SomeActive c v → 0 < plexes_of c v
some_plexes c sound v some = let below = active_below c sound v some.plex some.is_on in omega (arith, below)

pub by_bits : (c : Config) (v : ℕ) (failed : List Bool) (set : ℕ) (done : ℕ → Type 0) (old m : Meaning) → set ≡ bits failed → AllBut c v (in_set failed) done old m → AllBut c v (bit_at set) done old m
by_bits c v failed set done old m is but = record {
  is_done = λ p on out. but.is_done p on (sym (same p) ∙ out);
  blamed = λ p in_. but.blamed p (sym (same p) ∙ in_);
  some = (but.some.0, but.some.1, same but.some.0 ∙ but.some.2);
  up = but.up;
}
  where
    same : (p : ℕ) → bit_at set p ≡ in_set failed p
    same p = ap (λ (s : ℕ). bit_at s p) is ∙ bit_of failed p

some_in : (failed : List Bool) → 0 < bits failed → (p : ℕ) × (in_set failed p ≡ true)
some_in [] some = absurd (omega (arith, some))
some_in (true ∷ bs) some = (0, refl)
some_in (false ∷ bs) some = let it = some_in bs (omega (arith, some)) in (suc it.0, it.1)

pub last_bits : (failed : List Bool) (set device : ℕ) (old m : Meaning) → set ≡ bits failed → Device failed device old m → LastPlexFailed (record { set = set; disk = device }) old m
last_bits failed set device old m is last = record { rose = λ some. let it = some_in failed (omega (arith, some, is)) in last.rose it.0 it.1 }
