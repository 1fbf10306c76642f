-- One disk more.
use Rattle.std.proofs.Common.{◌≡◌, ◌⊎◌, inl, inr, ℕ, zero, suc, ◌+◌, ◌<◌, Bool, true, false, IsTrue, Option, Some, None, List, [], refl, ap, sym, subst, ◌∙◌, arith}
use Rattle.std.specs.Prelude.{◌&&◌, ◌==◌, if◌then◌else◌}
use Rattle.std.proofs.lemmas.Bool.{cases_lt, eq-eqb, eqb-true, false_from_ne_true}
use Rattle.vx_disk.specs.Counts.{Rose}
use Rattle.vx_disk.specs.Shelf.{Meaning, Image, Lawful, Goes, Nothing}
use Rattle.vx_disk.proofs.Causing.{Rose_after, Rose_before}
use Rattle.vx_copyfmt.specs.Copies.{Disk, Copy, copy_of}
use Rattle.vx_copyfmt.specs.Imports.{first_of, is_label, later, newest_found, on_disk, strange, strange_label}
use Rattle.vx_copyfmt.specs.Labels.{seen_in}
use Rattle.vx_copyfmt.specs.declared.label.LabelSeen.{LabelSeen}
use Rattle.vx_copyfmt.specs.declared.label.LabelSeen.TheVariants as label
use Rattle.vx_config.specs.declared.config.Config.{Config}
use Rattle.vx_copies.specs.Answers.{flag_at}
use Rattle.vx_copies.specs.Looking.{CountsDisk, IsDiskRead, SeesDisk, ShowsDisk, ShowsFormat, FitsDisk, copy_view, on_shelf}
use Rattle.vx_copies.specs.Searching.{FitsBest, Searched, best_view, seen_format, seen_readable, seen_view}
use Rattle.vx_copies.specs.declared.search.Search.{Search}
use Rattle.vx_copies.specs.declared.seen.CopySeen.{CopySeen}
use Rattle.vx_copies.specs.declared.seen.DiskSeen.{DiskSeen}
use Rattle.vx_copies.specs.declared.seen.DiskSeen.TheVariants as disk
use Rattle.vx_copies.proofs.Reading.{StillUp, fill, fill_read, of_same, shelf_same, still_read, told_still}

-- ---- what is found on the disks below n hangs on these alone

pub strange_below : (p q : ℕ → Bool) (i j : Image) (n : ℕ) → ((u : ℕ) → u < n → p u ≡ q u) → ((u : ℕ) → u < n → i u ≡ j u) → strange p i n ≡ strange q j n
strange_below p q i j zero same alike = refl
strange_below p q i j (suc n) same alike =
    ap (λ (o : Option ℕ). first_of o (if p n then strange_label (seen_in (i n 0)) else None)) (strange_below p q i j n (λ u lt. same u (omega (arith, lt))) (λ u lt. alike u (omega (arith, lt))))
    ∙ ap (λ (b : Bool). first_of (strange q j n) (if b then strange_label (seen_in (i n 0)) else None)) (same n (omega arith))
    ∙ ap (λ (d : Disk). first_of (strange q j n) (if q n then strange_label (seen_in (d 0)) else None)) (alike n (omega arith))

pub newest_below : (r : ℕ → List ℕ → Option Config) (p q : ℕ → Bool) (i j : Image) (n : ℕ) → ((u : ℕ) → u < n → p u ≡ q u) → ((u : ℕ) → u < n → i u ≡ j u) → newest_found r p i n ≡ newest_found r q j n
newest_below r p q i j zero same alike = refl
newest_below r p q i j (suc n) same alike =
    ap (λ (o : Option (ℕ × Copy Config)). later o (if p n && is_label (seen_in (i n 0)) then on_disk n (copy_of r (i n)) else None)) (newest_below r p q i j n (λ u lt. same u (omega (arith, lt))) (λ u lt. alike u (omega (arith, lt))))
    ∙ ap (λ (b : Bool). later (newest_found r q j n) (if b && is_label (seen_in (i n 0)) then on_disk n (copy_of r (i n)) else None)) (same n (omega arith))
    ∙ ap (λ (d : Disk). later (newest_found r q j n) (if q n && is_label (seen_in (d 0)) then on_disk n (copy_of r d) else None)) (alike n (omega arith))

-- ---- one more

other_is : (u k : ℕ) → u < k → (u == k) ≡ false
other_is u k lt = false_from_ne_true (u == k) (λ same. let is : u ≡ k = eqb-true u k same in omega (arith, is, lt))

abbrev put_flag : Bool → ℕ → (ℕ → Bool) → ℕ → Bool
put_flag f k p u = if u == k then f else p u

abbrev put_disk : Disk → ℕ → Image → Image
put_disk d k i u = if u == k then d else i u

flag_below : (f : Bool) (k : ℕ) (p : ℕ → Bool) (u : ℕ) → u < k → put_flag f k p u ≡ p u
flag_below f k p u lt = rw (other_is u k lt) refl

flag_here : (f : Bool) (k : ℕ) (p : ℕ → Bool) → put_flag f k p k ≡ f
flag_here f k p = rw (eq-eqb k k refl) refl

disk_below : (d : Disk) (k : ℕ) (i : Image) (u : ℕ) → u < k → put_disk d k i u ≡ i u
disk_below d k i u lt = rw (other_is u k lt) refl

disk_here : (d : Disk) (k : ℕ) (i : Image) → put_disk d k i k ≡ d
disk_here d k i = rw (eq-eqb k k refl) refl

below_or : (u k : ℕ) → u < k + 1 → (u < k) ⊎ (u ≡ k)
below_or u k lt = elim (cases_lt u k) [ inl below ↦ inl below | inr le ↦ inr (omega (arith, lt, le)) ]

strange_none : (l : LabelSeen) (v : ℕ) → strange_label l ≡ Some v → is_label l ≡ false
strange_none (label.Label l) v is = absurd cc
strange_none (label.Format w) v is = refl
strange_none label.Other v is = refl

if_on : (b : Bool) (k : ℕ) (o : Option (Copy Config)) → (if b then on_disk k o else None) ≡ on_disk k (if b then o else None)
if_on true k o = refl
if_on false k o = refl

-- what one disk is found to add, by its blocks and whether it can be read
record Adds (k : ℕ) (old mid new : Meaning) (f : Bool) (d : Disk) (format : Option ℕ) (best : Option (ℕ × Copy Config)) : Type 0 where
  read : IsTrue old.tells → (b : ℕ) → old.reads k b (d b)
  blamed : f ≡ false → Rose (old.faults k) (new.faults k)
  still : f ≡ true → new.faults k ≡ old.faults k
  others : (u : ℕ) → (u ≡ k → ⊥) → new.faults u ≡ mid.faults u
  version : (if f then strange_label (seen_in (d 0)) else None) ≡ format
  copy : (if f && is_label (seen_in (d 0)) then on_disk k (copy_of (on_shelf old) d) else None) ≡ best

add : (k : ℕ) (old mid new : Meaning) (s t : Search) (f : Bool) (d : Disk) (format : Option ℕ) (best : Option (ℕ × Copy Config)) → Searched k old mid s → Goes Nothing mid new → Adds k old mid new f d format best
    → t.format ≡ first_of s.format format → best_view t.best ≡ later (best_view s.best) best → ((u : ℕ) → u < 8 → flag_at t.readable u ≡ (if u == k then f else flag_at s.readable u)) → FitsBest old.units t.best → Searched (k + 1) old new t
add k old mid new s t f d format best so_far goes adds format_is best_is flags fits =
    let count : k + 1 ≡ suc k = omega arith in
    let p : ℕ → Bool = put_flag f k so_far.readable in
    let i : Image = put_disk d k so_far.image in
    let formats : strange p i (suc k) ≡ t.format =
    ap (λ (o : Option ℕ). first_of o (if p k then strange_label (seen_in (i k 0)) else None))
    (strange_below p so_far.readable i so_far.image k (λ u lt. flag_below f k so_far.readable u lt) (λ u lt. disk_below d k so_far.image u lt) ∙ so_far.format)
    ∙ ap (λ (b : Bool). first_of s.format (if b then strange_label (seen_in (i k 0)) else None)) (flag_here f k so_far.readable)
    ∙ ap (λ (e : Disk). first_of s.format (if f then strange_label (seen_in (e 0)) else None)) (disk_here d k so_far.image)
    ∙ ap (first_of s.format) adds.version ∙ sym format_is in
    let bests : newest_found (on_shelf old) p i (suc k) ≡ best_view t.best =
    ap (λ (o : Option (ℕ × Copy Config)). later o (if p k && is_label (seen_in (i k 0)) then on_disk k (copy_of (on_shelf old) (i k)) else None))
    (newest_below (on_shelf old) p so_far.readable i so_far.image k (λ u lt. flag_below f k so_far.readable u lt) (λ u lt. disk_below d k so_far.image u lt) ∙ so_far.best)
    ∙ ap (λ (b : Bool). later (best_view s.best) (if b && is_label (seen_in (i k 0)) then on_disk k (copy_of (on_shelf old) (i k)) else None)) (flag_here f k so_far.readable)
    ∙ ap (λ (e : Disk). later (best_view s.best) (if f && is_label (seen_in (e 0)) then on_disk k (copy_of (on_shelf old) e) else None)) (disk_here d k so_far.image)
    ∙ ap (later (best_view s.best)) adds.copy ∙ sym best_is in
    record {
      readable = p;
      image = i;
      read = λ tells u b lt. elim (below_or u k lt) [
        | inl below ↦ subst (λ (e : Disk). old.reads u b (e b)) (sym (disk_below d k so_far.image u below)) (so_far.read tells u b below)
        | inr same ↦ subst (λ (v : ℕ). old.reads v b (i v b)) (sym same) (subst (λ (e : Disk). old.reads k b (e b)) (sym (disk_here d k so_far.image)) (adds.read tells b))
      ];
      blamed = λ u lt out. elim (below_or u k lt) [
        | inl below ↦ Rose_after (old.faults u) (mid.faults u) (new.faults u) (so_far.blamed u below (sym (flag_below f k so_far.readable u below) ∙ out)) (goes.faults u)
        | inr same ↦
            let here : p k ≡ false = subst (λ (v : ℕ). p v ≡ false) same out in
            subst (λ (v : ℕ). Rose (old.faults v) (new.faults v)) (sym same) (adds.blamed (sym (flag_here f k so_far.readable) ∙ here))
      ];
      still = λ u lt on. elim (below_or u k lt) [
        | inl below ↦ adds.others u (λ same. omega (arith, below, same)) ∙ so_far.still u below (sym (flag_below f k so_far.readable u below) ∙ on)
        | inr same ↦
            let here : p k ≡ true = subst (λ (v : ℕ). p v ≡ true) same on in
            subst (λ (v : ℕ). new.faults v ≡ old.faults v) (sym same) (adds.still (sym (flag_here f k so_far.readable) ∙ here))
      ];
      alone = λ u le. adds.others u (λ same. omega (arith, le, same)) ∙ so_far.alone u (omega (arith, le));
      format = ap (strange p i) count ∙ formats;
      best = ap (newest_found (on_shelf old) p i) count ∙ bests;
      flags = λ u lt small. elim (below_or u k lt) [
        | inl below ↦ flags u small ∙ ap (λ (b : Bool). if b then f else flag_at s.readable u) (other_is u k below) ∙ so_far.flags u below small ∙ sym (flag_below f k so_far.readable u below)
        | inr same ↦
            let test : (u == k) ≡ true = eq-eqb u k same in
            flags u small ∙ ap (λ (b : Bool). if b then f else flag_at s.readable u) test ∙ sym (ap (λ (b : Bool). if b then f else so_far.readable u) test)
      ];
      fits = fits;
    }

module _ (k : ℕ) (old mid new : Meaning) (lawful : Lawful old) (still : StillUp old mid) where
  read_before : (d : Disk) → IsDiskRead k mid d → IsTrue old.tells → (b : ℕ) → old.reads k b (d b)
  read_before d is tells b = still_read old mid still k b (d b) (is.each (told_still old mid still tells) b)

  sees_format : (version : ℕ) → ShowsFormat k mid version → mid.faults k ≡ old.faults k → ((u : ℕ) → new.faults u ≡ mid.faults u) → (d : Disk) × Adds k old mid new true d (Some version) None
  sees_format version shows before counts = (
    shows.blocks,
    record {
      read = read_before shows.blocks shows.read;
      blamed = λ no. absurd cc;
      still = λ is. counts k ∙ before;
      others = λ u apart. counts u;
      version = shows.label;
      copy = rw (strange_none (seen_in (shows.blocks 0)) version shows.label) refl;
    },
  )

  sees_copy : (seen : Option CopySeen) → ShowsDisk k mid seen → mid.faults k ≡ old.faults k → ((u : ℕ) → new.faults u ≡ mid.faults u) → (d : Disk) × Adds k old mid new true d None (on_disk k (copy_view seen))
  sees_copy seen shows before counts = (
    shows.blocks,
    record {
      read = read_before shows.blocks shows.read;
      blamed = λ no. absurd cc;
      still = λ is. counts k ∙ before;
      others = λ u apart. counts u;
      version = shows.label;
      copy = if_on (is_label (seen_in (shows.blocks 0))) k (copy_of (on_shelf old) shows.blocks)
          ∙ ap (λ (o : Option (Copy Config)). on_disk k (if is_label (seen_in (shows.blocks 0)) then o else None)) (sym (of_same (on_shelf mid) (on_shelf old) (shelf_same old mid still) shows.blocks))
          ∙ ap (on_disk k) shows.copy;
    },
  )

  adds : (seen : DiskSeen) → SeesDisk k mid new seen → mid.faults k ≡ old.faults k → CountsDisk k mid.faults new.faults seen → (d : Disk) × Adds k old mid new (seen_readable seen) d (seen_format seen) (seen_view k seen)
  adds disk.Unreadable sees before counts = (
    fill old lawful k,
    record {
      read = λ tells b. fill_read old lawful k b tells;
      blamed = λ is. Rose_before (old.faults k) (mid.faults k) (new.faults k) (still.goes.faults k) sees;
      still = λ is. absurd cc;
      others = counts;
      version = refl;
      copy = refl;
    },
  )
  adds (disk.Format version) sees before counts = sees_format version sees before counts
  adds (disk.Seen copy) sees before counts = sees_copy copy sees before counts

  pub one_more : (s t : Search) (seen : DiskSeen) → Searched k old mid s → Goes Nothing mid new → SeesDisk k mid new seen → CountsDisk k mid.faults new.faults seen → FitsDisk mid.units seen
      → t.format ≡ first_of s.format (seen_format seen) → best_view t.best ≡ later (best_view s.best) (seen_view k seen)
      → ((u : ℕ) → u < 8 → flag_at t.readable u ≡ (if u == k then seen_readable seen else flag_at s.readable u))
      → ((units : ℕ) → FitsBest units s.best → FitsDisk units seen → FitsBest units t.best) → Searched (k + 1) old new t
  one_more s t seen so_far goes sees counts fits format best flags keeps =
      let found = adds seen sees (so_far.alone k (omega arith)) counts in
      add k old mid new s t (seen_readable seen) found.0 (seen_format seen) (seen_view k seen) so_far goes found.1 format best flags
      (keeps old.units so_far.fits (subst (λ (n : ℕ). FitsDisk n seen) still.goes.units fits))

pub none_yet : (m : Meaning) (s : Search) → s.format ≡ None → best_view s.best ≡ None → FitsBest m.units s.best → Searched 0 m m s
none_yet m s format best fits = record {
  readable = λ u. true;
  image = λ u b. [];
  read = λ tells u b lt. absurd (omega (arith, lt));
  blamed = λ u lt out. absurd (omega (arith, lt));
  still = λ u lt on. absurd (omega (arith, lt));
  alone = λ u le. refl;
  format = sym format;
  best = sym best;
  flags = λ u lt small. absurd (omega (arith, lt));
  fits = fits;
}
