-- A plex that is copied to another one.
use Rattle.std.proofs.Common.{◌≡◌, ◌≢◌, ◌⊎◌, inl, inr, ⊎_elim, ℕ, ◌+◌, ◌*◌, ◌/◌, ◌<◌, ◌≤◌, ◌^◌, true, IsTrue, List, length, Result, Ok, Err, OnOk, sym, ◌∙◌, subst, arith}
use Rattle.std.proofs.lemmas.Bool.{cases_Bool, cases_lt}
use Rattle.vx_disk.specs.Shelf.{Goes, Lawful, Meaning, Nothing, Or}
use Rattle.vx_disk.specs.declared.shelf.ShelfError.{ShelfError}
use Rattle.vx_disk.specs.declared.shelf.ShelfError.TheVariants.{Fault, Down}
use Rattle.vx_disk.proofs.Causing.{Rose_before}
use Rattle.vx_disk.proofs.Runs.{both_Goes, same_Goes, weaker}
use Rattle.vx_config.specs.Checks.{blocks_of, is_sound}
use Rattle.vx_config.specs.declared.config.Config.{Config}
use Rattle.vx_config.specs.declared.entry.DiskEntry.{DiskEntry}
use Rattle.vx_layout.specs.Places.{place}
use Rattle.vx_volume.specs.Plexes.{Asked, DisksFit, InRun, Inside, active}
use Rattle.vx_volume.specs.Volumes.{OnPlex, PlexBlamed, PlexCause, PlexFlushed, PlexRead, PlexWrote}
use Rattle.vx_volume.proofs.PlaceLemmas.{apart_of}
use Rattle.vx_volume.proofs.ReadRuns.{reads_before}
use Rattle.vx_volume.specs.Copies.{CopyBelow, CopyCause, CopyLoop, CopyRun, IsCopied, OnCopy}

pub run_inside : (c : Config) (v block n k : ℕ) → v < length c.volumes → block + n ≤ blocks_of c.volumes v → InRun block n k → Inside c v k
run_inside c v block n k volume within run = record { volume = volume; within = let last : k < block + n = run.last in omega (arith, last, within) }

pub asked_by : (c : Config) (v p block n : ℕ) → is_sound c ≡ true → IsTrue (active c v p) → v < length c.volumes → block + n ≤ blocks_of c.volumes v → blocks_of c.volumes v < 2 ^ 64 → Asked c v p block n
asked_by c v p block n sound is_on volume within small = record { inside = λ k run. run_inside c v block n k volume within run; is_on = is_on; sound = sound; end = omega (arith, within, small) }

-- so many blocks
pub one_run : (count long : ℕ) → long ≡ 512 * count → long / 512 ≡ count
one_run count long is = omega (arith, is)

pub disks_still : (ds : List DiskEntry) (m m' : Meaning) → DisksFit ds m → m'.units ≡ m.units → ((u : ℕ) → m'.size u ≡ m.size u) → DisksFit ds m'
disks_still ds m m' fit units size = record { there = λ u lt. let there = fit.there u lt in omega (arith, there, units); size = λ u lt. size u ∙ fit.size u lt }

-- ---- why it failed

blamed_later : (c : Config) (v p : ℕ) (old mid new : Meaning) → ((u : ℕ) → old.faults u ≤ mid.faults u) → PlexBlamed c v p mid new → PlexBlamed c v p old new
blamed_later c v p old mid new before blamed = record { disk = blamed.disk; is_its = blamed.is_its; rose = Rose_before _ _ _ (before blamed.disk) blamed.rose }

pub source_cause : (c : Config) (v source p : ℕ) (old new : Meaning) (e : ShelfError) → PlexCause {T = Unit {0}} c v source old new (Err e) → CopyCause {T = Unit {0}} c v source p old new (Err e)
source_cause c v source p old new (Fault disk) why = (inl why.0, why.1, why.2)
source_cause c v source p old new Down down = down

pub plex_cause : {T : Type 0} (c : Config) (v source p : ℕ) (old mid new : Meaning) → ((u : ℕ) → old.faults u ≤ mid.faults u) → ((d : ℕ) → old.disk_faults d ≤ mid.disk_faults d) → (r : Result T ShelfError) → PlexCause c v p mid new r → CopyCause c v source p old new r
plex_cause c v source p old mid new before disks_before (Ok x) up = up
plex_cause c v source p old mid new before disks_before (Err (Fault disk)) why = (inr (blamed_later c v p old mid new before why.0), Rose_before _ _ _ (disks_before disk) why.1, why.2)
plex_cause c v source p old mid new before disks_before (Err Down) down = down

pub cause_later : (c : Config) (v source p : ℕ) (old mid new : Meaning) → ((u : ℕ) → old.faults u ≤ mid.faults u) → ((d : ℕ) → old.disk_faults d ≤ mid.disk_faults d) → (e : ShelfError) → CopyCause {T = Unit {0}} c v source p mid new (Err e) → CopyCause {T = Unit {0}} c v source p old new (Err e)
cause_later c v source p old mid new before disks_before (Fault disk) why = (
  ⊎_elim (λ one. inl (blamed_later c v source old mid new before one)) (λ two. inr (blamed_later c v p old mid new before two)) why.0,
  Rose_before _ _ _ (disks_before disk) why.1,
  why.2,
)
cause_later c v source p old mid new before disks_before Down down = down

-- a value that is read is told
pub reads_tell : (m : Meaning) (u b : ℕ) (x : List ℕ) → Lawful m → m.reads u b x → IsTrue m.tells
reads_tell m u b x lawful is = elim (cases_Bool m.tells) [ inl tells ↦ tells | inr not ↦ absurd (lawful.none not u b x (lawful.shown u b x is)) ]

-- ---- a run

module _ (c : Config) (v source p block n : ℕ) (bytes : List ℕ) (old mid new : Meaning) (volume : v < length c.volumes) (within : block + n ≤ blocks_of c.volumes v) (read : Goes Nothing old mid) (write : Goes (OnPlex c v p block n bytes) mid new) where
  pub part_goes : Goes (OnCopy c v p) old new
  part_goes = weaker (Or Nothing (OnPlex c v p block n bytes)) (OnCopy c v p) old new (both_Goes Nothing (OnPlex c v p block n bytes) old mid new read write)
      (λ u b x. ⊎_elim (λ none. absurd none) (λ put. record { number = put.number; inside = run_inside c v block n put.number volume within put.run; at = put.at }))

  pub part_ok : Lawful new → (IsTrue mid.down → ⊥) → PlexRead c v source block block n bytes old → PlexWrote c v p block n block n bytes mid new → CopyRun c v source p block n old new
  part_ok lawful up got wrote = record {
    each = λ k x in_it is. elim (wrote.each k x in_it is) [
      | inl put ↦ inl (
        put.0.first,
        put.0.last,
        subst (λ (y : List ℕ). old.reads (place c v source k).0 (place c v source k).1 y) (sym put.1)
            (got.each (sym (write.tells ∙ read.tells) ∙ reads_tell new (place c v p k).0 (place c v p k).1 x lawful is) k put.0),
      )
      | inr out ↦ inr ((λ first last. out.0 (record { first = first; last = last })), reads_before old mid (place c v p k).0 (place c v p k).1 x read up out.1)
    ];
  }

pub part_end : {T : Type 0} (c : Config) (v source p block n : ℕ) (bytes : List ℕ) (old mid new : Meaning) → v < length c.volumes → block + n ≤ blocks_of c.volumes v → Goes Nothing old mid → Goes (OnPlex c v p block n bytes) mid new → Lawful new
    → (IsTrue mid.down → ⊥) → PlexRead c v source block block n bytes old → (r : Result T ShelfError) → OnOk r (PlexWrote c v p block n block n bytes mid new) → OnOk r (CopyRun c v source p block n old new)
part_end c v source p block n bytes old mid new volume within read write lawful up got (Ok x) wrote = part_ok c v source p block n bytes old mid new volume within read write lawful up got wrote
part_end c v source p block n bytes old mid new volume within read write lawful up got (Err e) wrote = tt

-- ---- all runs

pub copy_start : (c : Config) (v source p blocks : ℕ) (m : Meaning) → (IsTrue m.down → ⊥) → CopyLoop c v source p 0 blocks m m
copy_start c v source p blocks m up = record {
  up = up;
  few = omega arith;
  goes = same_Goes (OnCopy c v p) m;
  below = record { each = λ k x in_it lt is. absurd (omega (arith, lt)) };
}

module _ (c : Config) (v source p done count blocks : ℕ) (old m m' : Meaning) (loop : CopyLoop c v source p done blocks old m) (goes : Goes (OnCopy c v p) m m') where
  pub copy_then : Goes (OnCopy c v p) old m'
  copy_then = weaker (Or (OnCopy c v p) (OnCopy c v p)) (OnCopy c v p) old m' (both_Goes (OnCopy c v p) (OnCopy c v p) old m m' loop.goes goes) (λ u b x. ⊎_elim (λ put. put) (λ put. put))

  module _ (sound : is_sound c ≡ true) (from : IsTrue (active c v source)) (to : IsTrue (active c v p)) (apart : source ≢ p) where
    source_before : (k : ℕ) (x : List ℕ) → Inside c v k → m.reads (place c v source k).0 (place c v source k).1 x → old.reads (place c v source k).0 (place c v source k).1 x
    source_before k x in_it is = elim (loop.goes.reads (place c v source k).0 (place c v source k).1 x is) [
      | inl (inl was) ↦ was
      | inl (inr put) ↦ absurd (apart ((apart_of c sound).one v source k v p put.number in_it put.inside from to (sym put.at)).1)
      | inr down ↦ absurd (loop.up down)
    ]

    pub copy_more : (IsTrue m'.down → ⊥) → done + count ≤ blocks → CopyRun c v source p done count m m' → CopyLoop c v source p (done + count) blocks old m'
    copy_more up few run = record {
      up = up;
      few = few;
      goes = copy_then;
      below = record {
        each = λ k x in_it lt is. elim (run.each k x in_it is) [
          | inl put ↦ source_before k x in_it put.2
          | inr was ↦ elim (cases_lt k done) [
            | inl less ↦ loop.below.each k x in_it less was.1
            | inr le ↦ absurd (was.0 le lt)
          ]
        ];
      };
    }

pub copy_end : (c : Config) (v source p done blocks n : ℕ) (old m : Meaning) → CopyLoop c v source p done blocks old m → n ≡ blocks → n ≤ done → CopyBelow c v source p blocks old m
copy_end c v source p done blocks n old m loop is le = record { each = λ k x in_it lt reads. loop.below.each k x in_it (omega (arith, lt, is, le)) reads }

-- ---- durable

pub copied_all : {T E : Type 0} (c : Config) (v source p : ℕ) (old m m' : Meaning) → CopyBelow c v source p (blocks_of c.volumes v) old m → (r : Result T E) → OnOk r (PlexFlushed c v p m m') → OnOk r (IsCopied c v source p old m')
copied_all c v source p old m m' below (Ok x) flushed = record { each = λ k x in_it left. below.each k x in_it in_it.within (flushed.each k x in_it left) }
copied_all c v source p old m m' below (Err e) flushed = tt

pub copy_flushed : (c : Config) (v p : ℕ) (old m m' : Meaning) → Goes (OnCopy c v p) old m → Goes Nothing m m' → Goes (OnCopy c v p) old m'
copy_flushed c v p old m m' goes flush = weaker (Or (OnCopy c v p) Nothing) (OnCopy c v p) old m' (both_Goes (OnCopy c v p) Nothing old m m' goes flush) (λ u b x. ⊎_elim (λ put. put) (λ none. absurd none))
