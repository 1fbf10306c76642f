-- Writes of the plexes beside the logs.
use Rattle.std.proofs.Common.{◌≡◌, ◌∙◌, inl, inr, ⊎_elim, ◌⊎◌, ℕ, ◌+◌, ◌<◌, ◌≤◌, Bool, true, Option, Some, None, List, length, IsTrue, refl, sym, subst, arith}
use Rattle.std.specs.Prelude.{ltb, Err}
use Rattle.std.proofs.lemmas.Bool.{and_parts}
use Rattle.vx_model.specs.Sizes.{regions_of as regions_in}
use Rattle.vx_model.specs.declared.no.No.{No}
use Rattle.vx_model.specs.declared.no.No.TheVariants as refusal
use Rattle.vx_bitmap.specs.Maps.{MapOn}
use Rattle.vx_config.specs.Checks.{blocks_of as blocks_in, is_sound, plexes_of}
use Rattle.vx_config.specs.declared.config.Config.{Config}
use Rattle.vx_config.specs.declared.entry.VolumeLog.TheVariants.{Drl as DrlLog, Fmr as FmrLog}
use Rattle.vx_disk.specs.Blocks.{bit_at}
use Rattle.vx_disk.specs.Shelf.{Goes, Meaning, Or}
use Rattle.vx_disk.proofs.Causing.{Rose_after, Rose_before}
use Rattle.vx_disk.proofs.Runs.{both_Goes, weaker}
use Rattle.vx_drl.specs.Dirty.{Dirty}
use Rattle.vx_fmr.specs.Missed.{Missed}
use Rattle.vx_layout.specs.Places.{place}
use Rattle.vx_volume.specs.Plexes.{DisksFit, Inside, active}
use Rattle.vx_volume.specs.Volumes.{AllBut, EndsAt, LastPlexFailed, OnPlexes, PlexBlamed}
use Rattle.vx_volume.specs.declared.sets.Failed.{Failed}
use Rattle.vx_volume.proofs.PlaceLemmas.{active_below, has_of}
use Rattle.vx_logs.specs.Held.{DrlRun, FmrRun, LogsFit, LogsStand}
use Rattle.vx_logs.specs.Noting.{FmrAnswers, FmrAt, FmrEnds, is_one}
use Rattle.vx_logs.specs.Writes.{IsPlexPut, PutAt, PutsPlexes, Took, first_region, last_region}
use Rattle.vx_logs.specs.declared.logs.Logs.{Logs}
use Rattle.vx_logs.proofs.LogLemmas.{map_off_plex}
use Rattle.vx_logs.proofs.MarkLemmas.{at_before, fmr_ends, fmr_run, logs_apart, stands_beside}

-- the last region of a write is one of the volume's
pub last_inside : (blocks block n : ℕ) → 0 < n → block + n ≤ blocks → last_region block n < regions_in blocks
last_inside blocks block n some within = omega (arith, some, within)

pub first_last : (block n : ℕ) → 0 < n → first_region block ≤ last_region block n
first_last block n some = omega (arith, some)

-- ---- counts that rose, over more calls

pub blamed_around : (c : Config) (v p : ℕ) (m0 m m' m2 : Meaning) → ((u : ℕ) → m0.faults u ≤ m.faults u) → ((u : ℕ) → m'.faults u ≤ m2.faults u) → PlexBlamed c v p m m' → PlexBlamed c v p m0 m2
blamed_around c v p m0 m m' m2 before after blamed = record {
  disk = blamed.disk;
  is_its = blamed.is_its;
  rose = Rose_before (m0.faults blamed.disk) (m.faults blamed.disk) (m2.faults blamed.disk) (before blamed.disk) (Rose_after (m.faults blamed.disk) (m'.faults blamed.disk) (m2.faults blamed.disk) blamed.rose (after blamed.disk));
}

pub last_around : (f : Failed) (m0 m m' m2 : Meaning) → ((u : ℕ) → m0.disk_faults u ≤ m.disk_faults u) → ((u : ℕ) → m'.disk_faults u ≤ m2.disk_faults u) → LastPlexFailed f m m' → LastPlexFailed f m0 m2
last_around f m0 m m' m2 before after last = record {
  rose = λ some. Rose_before (m0.disk_faults f.disk) (m.disk_faults f.disk) (m2.disk_faults f.disk) (before f.disk) (Rose_after (m.disk_faults f.disk) (m'.disk_faults f.disk) (m2.disk_faults f.disk) (last.rose some) (after f.disk));
}

-- ---- no plex lies in a log

module _ (c : Config) (sound : is_sound c ≡ true) (v : ℕ) (some : 0 < blocks_in c.volumes v) (l : Logs) (fits : LogsFit c v l) (m : Meaning) (fit : DisksFit c.disks m) where
  -- a place of a plex that is ACTIVE
  pub off_logs : (p k u b : ℕ) → Inside c v k → IsTrue (active c v p) → place c v p k ≡ (u, b) → DrlRun l.drl u b ⊎ FmrRun l.fmr u b → ⊥
  off_logs p k u b inside is_on at = by l.drl l.fmr refl refl
    where
      by : (o : Option Dirty) (q : Option Missed) → l.drl ≡ o → l.fmr ≡ q → DrlRun o u b ⊎ FmrRun q u b → ⊥
      by None q is is' (inl none) = none
      by (Some d) q is is' (inl run) = map_off_plex c sound v DrlLog d.map m some fit (fits.drl d is).log v p k u b (has_of c v p k is_on inside) at run
      by o None is is' (inr none) = none
      by o (Some f) is is' (inr run) = map_off_plex c sound v FmrLog f.map m some fit (fits.fmr f is').log v p k u b (has_of c v p k is_on inside) at run

  module _ (block n : ℕ) (bytes : List ℕ) (volume : v < length c.volumes) (within : block + n ≤ blocks_in c.volumes v) where
    -- nor a block of the write
    pub write_off : (u b : ℕ) (x : List ℕ) → DrlRun l.drl u b ⊎ FmrRun l.fmr u b → OnPlexes c v block n bytes u b x → ⊥
    write_off u b x run on = off_logs on.plex on.put.number u b (record { volume = volume; within = omega (arith, on.put.run.last, within) }) on.is_on on.put.at run

    -- so the maps stand behind a write of the plexes
    pub drl_stays : (m1 : Meaning) → Goes (OnPlexes c v block n bytes) m m1 → (d : Dirty) → l.drl ≡ Some d → MapOn d.map m → MapOn d.map m1
    drl_stays m1 goes d is = stands_beside d.map (OnPlexes c v block n bytes) m m1 goes (λ u b x run. write_off u b x (inl (subst (λ (o : Option Dirty). DrlRun o u b) (sym is) run)))

    pub fmr_stays : (m1 : Meaning) → Goes (OnPlexes c v block n bytes) m m1 → (f : Missed) → l.fmr ≡ Some f → MapOn f.map m → MapOn f.map m1
    fmr_stays m1 goes f is = stands_beside f.map (OnPlexes c v block n bytes) m m1 goes (λ u b x run. write_off u b x (inr (subst (λ (o : Option Missed). FmrRun o u b) (sym is) run)))

    -- ---- the write, and notes of the plexes that failed

    pub first_puts : (m1 : Meaning) → Goes (OnPlexes c v block n bytes) m m1 → Goes (PutAt c v block n bytes l m) m m1
    first_puts m1 goes = weaker (OnPlexes c v block n bytes) (PutAt c v block n bytes l m) m m1 goes (λ u b x at. inl at)

    module _ (m1 : Meaning) (one : Goes (OnPlexes c v block n bytes) m m1) (failed : Failed) (ends : AllBut c v (bit_at failed.set) (Took c v block n bytes m m1) m m1) where
      failed_on : (q : ℕ) → is_one failed.set q ≡ true → IsTrue (active c v q)
      failed_on q is = (ends.blamed q (and_parts (ltb q 8) (bit_at failed.set q) is).1).0

      pub failed_below : (q : ℕ) → is_one failed.set q ≡ true → q < plexes_of c v
      failed_below q is = active_below c sound v q (failed_on q is)

      module _ (m2 : Meaning) (two : Goes (FmrAt (is_one failed.set) true (first_region block) (last_region block n) l.fmr m1) m1 m2) where
        pub both_puts : Goes (PutAt c v block n bytes l m) m m2
        both_puts =
            weaker (Or (OnPlexes c v block n bytes) (FmrAt (is_one failed.set) true (first_region block) (last_region block n) l.fmr m1)) (PutAt c v block n bytes l m) m m2
            (both_Goes (OnPlexes c v block n bytes) (FmrAt (is_one failed.set) true (first_region block) (last_region block n) l.fmr m1) m m1 m2 one two)
            (λ u b x. ⊎_elim (λ at. inl at) (λ at. inr (at_before (is_one failed.set) (active c v) true (first_region block) (last_region block n) l.fmr m m1 failed_on (fmr_stays m1 one) u b x at)))

        module _ (up : IsTrue m2.down → ⊥) where
          took_still : (p : ℕ) → IsTrue (active c v p) → Took c v block n bytes m m1 p → Took c v block n bytes m m2 p
          took_still p is_on took = record {
            each = λ k x inside is. elim (two.reads (place c v p k).0 (place c v p k).1 x is) [
              | inl (inl was) ↦ took.each k x inside was
              | inl (inr now) ↦ absurd (off_logs p k (place c v p k).0 (place c v p k).1 inside is_on refl (inr (fmr_run (is_one failed.set) true (first_region block) (last_region block n) l.fmr m1 (place c v p k).0 (place c v p k).1 x now)))
              | inr down ↦ absurd (up down)
            ];
          }

          pub all_still : AllBut c v (bit_at failed.set) (Took c v block n bytes m m2) m m2
          all_still = record {
            is_done = λ p is_on out. took_still p is_on (ends.is_done p is_on out);
            blamed = λ p in_set. let it = ends.blamed p in_set in (it.0, blamed_around c v p m m m1 m2 (λ u. omega arith) two.faults it.1);
            some = ends.some;
            up = up;
          }

          pub is_put : (lost : Bool) (l' : Logs) → LastPlexFailed failed m m1 → l'.drl ≡ l.drl → FmrEnds (is_one failed.set) true (first_region block) (last_region block n) lost l.fmr l'.fmr m1 m2
              → IsPlexPut c v block n bytes (record { failed = failed; lost = lost }) l l' m m2
          is_put lost l' last drl fmr = record {
            plexes = all_still;
            disk = last_around failed m m m1 m2 (λ u. omega arith) two.disk_faults last;
            drl = drl;
            fmr = ends_fmr;
            stands = λ on. record { drl = λ d is. stands_drl on d (sym drl ∙ is); fmr = λ g is. stands_fmr on l.fmr l'.fmr refl refl ends_fmr g is };
          }
            where
              ends_fmr : FmrEnds (is_one failed.set) true (first_region block) (last_region block n) lost l.fmr l'.fmr m m2
              ends_fmr = fmr_ends (is_one failed.set) (is_one failed.set) true (first_region block) (last_region block n) lost l.fmr l'.fmr m m1 m2 (λ q. refl) (fmr_stays m1 one) one.faults fmr

              stands_drl : LogsStand l m → (d : Dirty) → l.drl ≡ Some d → MapOn d.map m2
              stands_drl on d is =
                  stands_beside d.map (FmrAt (is_one failed.set) true (first_region block) (last_region block n) l.fmr m1) m1 m2 two
                  (λ u b x run at. logs_apart c sound v some l fits m fit u b (subst (λ (o : Option Dirty). DrlRun o u b) (sym is) run) (fmr_run (is_one failed.set) true (first_region block) (last_region block n) l.fmr m1 u b x at))
                  (drl_stays m1 one d is (on.drl d is))

              stands_fmr : LogsStand l m → (o q : Option Missed) → l.fmr ≡ o → l'.fmr ≡ q → FmrEnds (is_one failed.set) true (first_region block) (last_region block n) lost o q m m2 → (g : Missed) → q ≡ Some g → MapOn g.map m2
              stands_fmr on None None is is' ends g at = absurd cc
              stands_fmr on None (Some h) is is' ends g at = absurd ends
              stands_fmr on (Some f) None is is' ends g at = absurd cc
              stands_fmr on (Some f) (Some h) is is' ends g at = let same : h ≡ g = cc in subst (λ (y : Missed). MapOn y.map m2) same (ends.1.stands (on.fmr f is))

-- each plex failed
pub none_put : (c : Config) (v block n : ℕ) (bytes : List ℕ) (l : Logs) (m m1 : Meaning) (no : No) → Goes (OnPlexes c v block n bytes) m m1 → EndsAt c v (Took c v block n bytes m m1) m m1 (Err no) → PutsPlexes c v block n bytes l l m m1 (Err no)
none_put c v block n bytes l m m1 (refusal.Device disk) goes failed = record { plexes = failed; drl = refl; fmr = refl; writes = goes }
none_put c v block n bytes l m m1 refusal.Down goes down = down
none_put c v block n bytes l m m1 other goes none = absurd none

pub put_refused : (c : Config) (v block n : ℕ) (bytes : List ℕ) (those : ℕ → Bool) (anew : Bool) (first last : ℕ) (o q : Option Missed) (l l' : Logs) (m m1 m' : Meaning) (no : No) → FmrAnswers those anew first last o q m1 m' (Err no) → PutsPlexes c v block n bytes l l' m m' (Err no)
put_refused c v block n bytes those anew first last o q l l' m m1 m' refusal.Down down = down
put_refused c v block n bytes those anew first last o q l l' m m1 m' other none = absurd none

-- regions by other names
pub renamed : (P : ℕ → ℕ → Type 0) (first last a b : ℕ) → first ≡ a → last ≡ b → P first last → P a b
renamed P first last a b one two p = subst (λ (k : ℕ). P a k) two (subst (λ (k : ℕ). P k last) one p)
