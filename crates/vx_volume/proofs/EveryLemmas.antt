-- Writes and flushes of all plexes that are ACTIVE.
use Rattle.std.proofs.Common.{◌≡◌, ◌≢◌, inl, inr, ⊎_elim, ℕ, ◌+◌, ◌<◌, ◌≤◌, Bool, true, false, List, length, set, sym, ◌∙◌, subst, arith, IsTrue, Err}
use Rattle.std.proofs.lemmas.Bool.{cases_eq}
use Rattle.vx_disk.specs.Counts.{Rose}
use Rattle.vx_disk.specs.Shelf.{Flushed, Goes, Meaning, Nothing, Or, Values}
use Rattle.vx_disk.specs.declared.shelf.ShelfError.{ShelfError}
use Rattle.vx_disk.specs.declared.shelf.ShelfError.TheVariants.{Fault}
use Rattle.vx_disk.proofs.Runs.{both_Goes, same_Goes, weaker}
use Rattle.vx_config.specs.declared.config.Config.{Config}
use Rattle.vx_config.specs.Checks.{is_sound}
use Rattle.vx_layout.specs.Places.{place}
use Rattle.vx_volume.specs.Plexes.{Asked, Inside, RunFits, VolumeFits, active, uses}
use Rattle.vx_volume.specs.Steps.{FlushLoop, FlushedBelow, WriteLoop, in_set}
use Rattle.vx_volume.specs.Volumes.{OnPlex, OnPlexes, PlexBlamed, PlexCause, PlexFlushed, PlexWrote}
use Rattle.vx_volume.proofs.Loops.{has_failed, loop_start, pass_over, was_done}
use Rattle.vx_volume.proofs.PlaceLemmas.{apart_of, place_there, place_uses}
use Rattle.vx_volume.proofs.ReadRuns.{leaves_before, reads_before, still}
use Rattle.vx_volume.proofs.WriteRuns.{fits_same}

pub asked_of : (c : Config) (v p block n : ℕ) (m : Meaning) → VolumeFits c v block n m → IsTrue (active c v p) → Asked c v p block n
asked_of c v p block n m fits is_on = record { inside = fits.inside; is_on = is_on; sound = fits.sound; end = fits.end }

pub fits_now : (c : Config) (v p block n : ℕ) (written : Values) (old m : Meaning) → VolumeFits c v block n old → Goes written old m → IsTrue (active c v p) → RunFits c v p block n m
fits_now c v p block n written old m fits goes is_on = fits_same c v p block n old m goes.units goes.size (fits.fits p is_on)

-- ---- writes

pub write_start : (c : Config) (v block n : ℕ) (bytes : List ℕ) (failed : List Bool) (device : ℕ) (m : Meaning) → (IsTrue m.down → ⊥) → length failed ≡ 8 → ((p : ℕ) → in_set failed p ≡ false) → WriteLoop c v block n bytes 0 failed false device m m
write_start c v block n bytes failed device m up long none = record {
  loop = loop_start c v failed device (λ p. PlexWrote c v p block n block n bytes m m) m up long none;
  goes = same_Goes (OnPlexes c v block n bytes) m;
  later = λ p k x le is_on inside is. is;
}

module _ (c : Config) (v block n : ℕ) (bytes : List ℕ) (i : ℕ) (failed failed' : List Bool) (any any' : Bool) (device device' : ℕ) (old m : Meaning) (fits : VolumeFits c v block n old) (loop : WriteLoop c v block n bytes i failed any device old m) where
  pub write_pass : active c v i ≡ false → failed' ≡ failed → any' ≡ any → device' ≡ device → WriteLoop c v block n bytes (i + 1) failed' any' device' old m
  write_pass off f d e =
      let not : active c v i ≡ true → ⊥ = λ on. let clash : false ≡ true = sym off ∙ on in cc in
      rw f (rw d (rw e (record {
        loop = pass_over c v i failed any device (λ p. PlexWrote c v p block n block n bytes old m) (λ p. PlexWrote c v p block n block n bytes old m) old m m loop.loop not (λ p it. it);
        goes = loop.goes;
        later = λ p k x le is_on in_it is. loop.later p k x (omega (arith, le)) is_on in_it is;
      })))

  module _ (m' : Meaning) (is_on : active c v i ≡ true) (goes : Goes (OnPlex c v i block n bytes) m m') where
    pub write_goes : Goes (OnPlexes c v block n bytes) old m'
    write_goes = weaker (Or (OnPlexes c v block n bytes) (OnPlex c v i block n bytes)) (OnPlexes c v block n bytes) old m' (both_Goes (OnPlexes c v block n bytes) (OnPlex c v i block n bytes) old m m' loop.goes goes)
        (λ u b x. ⊎_elim (λ put. put) (λ put. record { plex = i; is_on = is_on; put = put }))

    module _ (up : IsTrue m'.down → ⊥) where
      alone : (p k : ℕ) (x : List ℕ) → p ≢ i → IsTrue (active c v p) → Inside c v k → m'.reads (place c v p k).0 (place c v p k).1 x → m.reads (place c v p k).0 (place c v p k).1 x
      alone p k x not on in_it is = elim (goes.reads (place c v p k).0 (place c v p k).1 x is) [
        | inl (inl was) ↦ was
        | inl (inr put) ↦ absurd (not ((apart_of c fits.sound).one v p k v i put.number in_it (fits.inside put.number put.run) on is_on (sym put.at)).1)
        | inr down ↦ absurd (up down)
      ]

      keeps : (p : ℕ) → p ≢ i → IsTrue (active c v p) → PlexWrote c v p block n block n bytes old m → PlexWrote c v p block n block n bytes old m'
      keeps p not on wrote = record { each = λ k x in_it is. wrote.each k x in_it (alone p k x not on in_it is) }

      later_on : (p k : ℕ) (x : List ℕ) → i + 1 ≤ p → IsTrue (active c v p) → Inside c v k → m'.reads (place c v p k).0 (place c v p k).1 x → old.reads (place c v p k).0 (place c v p k).1 x
      later_on p k x le on in_it is = loop.later p k x (omega (arith, le)) on in_it (alone p k x (apart_from p i le) on in_it is)
        where
          apart_from : (p i : ℕ) → i + 1 ≤ p → p ≢ i
          apart_from p i le same = omega (arith, le, same)

      pub write_ok : PlexWrote c v i block n block n bytes m m' → failed' ≡ failed → any' ≡ true → device' ≡ device → WriteLoop c v block n bytes (i + 1) failed' any' device' old m'
      write_ok wrote f d e = rw f (rw d (rw e (record {
        loop = was_done c v i failed any device (λ p. PlexWrote c v p block n block n bytes old m) (λ p. PlexWrote c v p block n block n bytes old m') old m m' loop.loop is_on up goes.faults goes.disk_faults loop.goes.faults loop.goes.disk_faults keeps
            (record { each = λ k x in_it is. ⊎_elim (λ put. inl put) (λ was. inr (was.0, loop.later i k x (omega arith) is_on in_it was.1)) (wrote.each k x in_it is) });
        goes = write_goes;
        later = later_on;
      })))

      pub write_failed : i < 8 → (disk : ℕ) → PlexBlamed c v i m m' → Rose (m.disk_faults disk) (m'.disk_faults disk) → failed' ≡ set failed i true → any' ≡ any → device' ≡ disk → WriteLoop c v block n bytes (i + 1) failed' any' device' old m'
      write_failed lt disk blamed rose f d e = rw f (rw d (rw e (record {
        loop = has_failed c v i failed any device (λ p. PlexWrote c v p block n block n bytes old m) (λ p. PlexWrote c v p block n block n bytes old m') old m m' loop.loop is_on up goes.faults goes.disk_faults loop.goes.faults loop.goes.disk_faults keeps disk lt blamed rose;
        goes = write_goes;
        later = later_on;
      })))

    pub write_failed_by : i < 8 → (disk : ℕ) (e : ShelfError) → e ≡ Fault disk → PlexCause {T = Unit {0}} c v i m m' (Err e) → failed' ≡ set failed i true → any' ≡ any → device' ≡ disk → WriteLoop c v block n bytes (i + 1) failed' any' device' old m'
    write_failed_by lt disk error is raw f d e =
        let cause = subst (λ (x : ShelfError). PlexCause {T = Unit {0}} c v i m m' (Err x)) is raw in
        write_failed cause.2 lt disk cause.0 cause.1 f d e

-- ---- flushes of one plex

pub flushed_none : (c : Config) (v p : ℕ) (m : Meaning) → (IsTrue m.down → ⊥) → FlushedBelow c v p 0 m m
flushed_none c v p m up = record { up = up; goes = same_Goes Nothing m; each = λ d b x lt is left. absurd (omega (arith, lt)) }

pub flushed_pass : (c : Config) (v p disk : ℕ) (old m : Meaning) → FlushedBelow c v p disk old m → uses c v p disk ≡ false → FlushedBelow c v p (disk + 1) old m
flushed_pass c v p disk old m is off = record {
  up = is.up;
  goes = is.goes;
  each = λ d b x lt on left. elim (cases_eq d disk) [
    | inl at ↦ absurd (let clash : true ≡ false = sym (subst (λ (e : ℕ). uses c v p e ≡ true) at on) ∙ off in cc)
    | inr not ↦ is.each d b x (omega (arith, lt, not)) on left
  ];
}

pub flushed_more : (c : Config) (v p disk : ℕ) (old m m' : Meaning) → FlushedBelow c v p disk old m → Goes Nothing m m' → (IsTrue m'.down → ⊥) → Flushed disk m m' → FlushedBelow c v p (disk + 1) old m'
flushed_more c v p disk old m m' is goes up flushed = record {
  up = up;
  goes = still old m m' is.goes goes;
  each = λ d b x lt on left. elim (cases_eq d disk) [
    | inl at ↦ reads_before old m d b x is.goes is.up (subst (λ (e : ℕ). m.reads e b x) (sym at) (flushed.each b x (subst (λ (e : ℕ). m'.leaves e b x) at left)))
    | inr not ↦ is.each d b x (omega (arith, lt, not)) on (leaves_before m m' d b x goes left)
  ];
}

pub flushed_all : (c : Config) (sound : is_sound c ≡ true) (v p disk : ℕ) (old m : Meaning) → IsTrue (active c v p) → length c.disks ≤ disk → FlushedBelow c v p disk old m → PlexFlushed c v p old m
flushed_all c sound v p disk old m is_on le is = record {
  each = λ k x inside left. is.each (place c v p k).0 (place c v p k).1 x (omega (arith, le, (place_there c sound v p k is_on inside).0)) (place_uses c sound v p k is_on inside) left;
}

-- ---- flushes of all

pub flush_start : (c : Config) (v : ℕ) (failed : List Bool) (device : ℕ) (m : Meaning) → (IsTrue m.down → ⊥) → length failed ≡ 8 → ((p : ℕ) → in_set failed p ≡ false) → FlushLoop c v 0 failed false device m m
flush_start c v failed device m up long none = record { loop = loop_start c v failed device (λ p. PlexFlushed c v p m m) m up long none; goes = same_Goes Nothing m }

module _ (c : Config) (v i : ℕ) (failed failed' : List Bool) (any any' : Bool) (device device' : ℕ) (old m : Meaning) (loop : FlushLoop c v i failed any device old m) where
  pub flush_pass : active c v i ≡ false → failed' ≡ failed → any' ≡ any → device' ≡ device → FlushLoop c v (i + 1) failed' any' device' old m
  flush_pass off f d e =
      let not : active c v i ≡ true → ⊥ = λ on. let clash : false ≡ true = sym off ∙ on in cc in
      rw f (rw d (rw e (record {
        loop = pass_over c v i failed any device (λ p. PlexFlushed c v p old m) (λ p. PlexFlushed c v p old m) old m m loop.loop not (λ p it. it);
        goes = loop.goes;
      })))

  module _ (m' : Meaning) (is_on : active c v i ≡ true) (goes : Goes Nothing m m') where
    pub flush_goes : Goes Nothing old m'
    flush_goes = still old m m' loop.goes goes

    kept_flushed : (p : ℕ) → p ≢ i → IsTrue (active c v p) → PlexFlushed c v p old m → PlexFlushed c v p old m'
    kept_flushed p not on flushed = record { each = λ k x inside left. flushed.each k x inside (leaves_before m m' (place c v p k).0 (place c v p k).1 x goes left) }

    pub flush_ok : (IsTrue m'.down → ⊥) → PlexFlushed c v i m m' → failed' ≡ failed → any' ≡ true → device' ≡ device → FlushLoop c v (i + 1) failed' any' device' old m'
    flush_ok up flushed f d e = rw f (rw d (rw e (record {
      loop = was_done c v i failed any device (λ p. PlexFlushed c v p old m) (λ p. PlexFlushed c v p old m') old m m' loop.loop is_on up goes.faults goes.disk_faults loop.goes.faults loop.goes.disk_faults kept_flushed
          (record { each = λ k x inside left. reads_before old m (place c v i k).0 (place c v i k).1 x loop.goes loop.loop.tried.up (flushed.each k x inside left) });
      goes = flush_goes;
    })))

    pub flush_failed : i < 8 → (disk : ℕ) (e : ShelfError) → e ≡ Fault disk → PlexCause {T = Unit {0}} c v i m m' (Err e) → failed' ≡ set failed i true → any' ≡ any → device' ≡ disk → FlushLoop c v (i + 1) failed' any' device' old m'
    flush_failed lt disk error is raw f d e =
        let cause = subst (λ (x : ShelfError). PlexCause {T = Unit {0}} c v i m m' (Err x)) is raw in
        rw f (rw d (rw e (record {
          loop = has_failed c v i failed any device (λ p. PlexFlushed c v p old m) (λ p. PlexFlushed c v p old m') old m m' loop.loop is_on cause.2 goes.faults goes.disk_faults loop.goes.faults loop.goes.disk_faults kept_flushed disk lt cause.0 cause.1;
          goes = flush_goes;
        })))
