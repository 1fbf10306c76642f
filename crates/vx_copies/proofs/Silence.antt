-- What an import finds that reads none of the disks that are held as good.
use Rattle.std.proofs.Common.{◌≡◌, ◌⊎◌, inl, inr, ⊎_elim, ℕ, zero, suc, ◌<◌, Bool, true, false, IsFalse, Option, Some, None, List, refl, ap, sym, subst, ◌∙◌, arith}
use Rattle.std.specs.Prelude.{◌&&◌, if◌then◌else◌}
use Rattle.std.proofs.lemmas.Bool.{both_ways, cases_lt}
use Rattle.vx_disk.specs.Shelf.{Each, Image, Lawful, Meaning}
use Rattle.vx_copyfmt.specs.Copies.{Copy, Disk, copy_of}
use Rattle.vx_copyfmt.specs.Commits.{GivesConfig}
use Rattle.vx_copyfmt.specs.Imports.{Damaged, Format, Found, Missing, NoConfig, ImportOutcome as Finding, by_labels, by_newest, first_of, import_of, is_label, later, newest_found, on_disk, strange, strange_label}
use Rattle.vx_copyfmt.specs.Labels.{seen_in}
use Rattle.vx_copyfmt.proofs.Committing.{found_wants}
use Rattle.vx_copyfmt.proofs.Newest.{same_import}
use Rattle.vx_copyio.specs.Putting.{AreasOf}
use Rattle.vx_config.specs.declared.config.Config.{Config}
use Rattle.vx_copies.specs.Bodies.{failed_in}
use Rattle.vx_copies.specs.Commits.{HeldGood, IsNone, ReadsFailed, Silent, Underway, WasCommitted}
use Rattle.vx_copies.specs.Looking.{on_shelf}
use Rattle.vx_copies.specs.Marks.{HasGood, failed_at}
use Rattle.vx_copies.proofs.OneTry.{held_or}

-- ---- an import depends on the disks alone that it reads

module _ {C : Type 0} (reads : ℕ → List ℕ → Option C) (readable : ℕ → Bool) (i j : Image) where
  abbrev Label : Image → ℕ → Bool → Option ℕ
  Label k n b = if b then strange_label (seen_in (k n 0)) else None

  abbrev Put : Image → ℕ → Bool → Option (ℕ × Copy C)
  Put k n b = if b && is_label (seen_in (k n 0)) then on_disk n (copy_of reads (k n)) else None

  label_read : (n : ℕ) (b : Bool) → (b ≡ true → i n ≡ j n) → Label i n b ≡ Label j n b
  label_read n false same = refl
  label_read n true same = ap (λ (d : Disk). strange_label (seen_in (d 0))) (same refl)

  put_read : (n : ℕ) (b : Bool) → (b ≡ true → i n ≡ j n) → Put i n b ≡ Put j n b
  put_read n false same = refl
  put_read n true same = ap (λ (d : Disk). if is_label (seen_in (d 0)) then on_disk n (copy_of reads d) else None) (same refl)

  strange_read : (n : ℕ) → ((u : ℕ) → u < n → readable u ≡ true → i u ≡ j u) → strange readable i n ≡ strange readable j n
  strange_read zero same = refl
  strange_read (suc n) same =
      ap (λ (o : Option ℕ). first_of o (Label i n (readable n))) (strange_read n (λ u lt. same u (omega (arith, lt))))
      ∙ ap (first_of (strange readable j n)) (label_read n (readable n) (same n (omega arith)))

  newest_read : (n : ℕ) → ((u : ℕ) → u < n → readable u ≡ true → i u ≡ j u) → newest_found reads readable i n ≡ newest_found reads readable j n
  newest_read zero same = refl
  newest_read (suc n) same =
      ap (λ (o : Option (ℕ × Copy C)). later o (Put i n (readable n))) (newest_read n (λ u lt. same u (omega (arith, lt))))
      ∙ ap (later (newest_found reads readable j n)) (put_read n (readable n) (same n (omega arith)))

  -- one that reads none finds none
  none_strange : (n : ℕ) → ((u : ℕ) → u < n → readable u ≡ false) → strange readable i n ≡ None
  none_strange zero out = refl
  none_strange (suc n) out = ap (λ (o : Option ℕ). first_of o (Label i n (readable n))) (none_strange n (λ u lt. out u (omega (arith, lt)))) ∙ ap (Label i n) (out n (omega arith))

  none_newest : (n : ℕ) → ((u : ℕ) → u < n → readable u ≡ false) → newest_found reads readable i n ≡ None
  none_newest zero out = refl
  none_newest (suc n) out = ap (λ (o : Option (ℕ × Copy C)). later o (Put i n (readable n))) (none_newest n (λ u lt. out u (omega (arith, lt)))) ∙ ap (Put i n) (out n (omega arith))

  pub import_none : (failed : C → ℕ → Bool) (units : ℕ) → ((u : ℕ) → u < units → readable u ≡ false) → import_of reads failed units readable i ≡ NoConfig
  unfolding import_of
  import_none failed units out =
      ap (λ (o : Option ℕ). by_labels o (by_newest failed units readable (newest_found reads readable i units))) (none_strange units out)
      ∙ ap (λ (o : Option (ℕ × Copy C)). by_newest failed units readable o) (none_newest units out)

  pub import_read : (failed : C → ℕ → Bool) (units : ℕ) → ((u : ℕ) → u < units → readable u ≡ true → i u ≡ j u) → import_of reads failed units readable i ≡ import_of reads failed units readable j
  import_read failed units same = same_import reads failed units readable i j (strange_read units same) (newest_read units same)

-- ---- findings that are none

pub none_gives : (d : Config) (o : Finding Config) → IsNone o → GivesConfig d o
none_gives d (Found x) is = absurd is
none_gives d (Missing disk) is = tt
none_gives d NoConfig is = tt
none_gives d (Damaged disk block s t) is = absurd is
none_gives d (Format v) is = absurd is

-- a configuration misses a disk of its own
misses : (d : Config) (o : Finding Config) → GivesConfig d o → ((x : Config) → o ≡ Found x → x ≡ d → ⊥) → IsNone o
misses d (Found x) gives never = never x refl gives
misses d (Missing disk) gives never = tt
misses d NoConfig gives never = tt
misses d (Damaged disk block s t) gives never = absurd gives
misses d (Format v) gives never = absurd gives

pub committed_silent : (good members : ℕ) (d : Config) (m : Meaning) (some : HasGood d.disks good) → some.disk < m.units → WasCommitted members (Some d) m → Silent d m
committed_silent good members d m some lt was = record {
  each = λ i readable left reads_one unread.
      misses d (import_of (on_shelf m) failed_in m.units readable i) (was.committed.each i readable left)
      (λ x found is.
      let there : readable some.disk ≡ true = found_wants failed_in (on_shelf m) m.units readable i some.disk lt x found (subst (λ (k : Config). failed_in k some.disk ≡ false) (sym is) some.held) in
      both_ways (readable some.disk) (unread some.disk (record { below = lt; good = some.held })) there);
}

-- ---- a disk that was held as failed is as it was

module _ (good : ℕ) (c d : Config) (old new : Meaning) (underway : Underway good c d old new) (lawful : Lawful old) where
  held_here : (u : ℕ) → HeldGood c old u ⊎ (HeldGood c old u → ⊥)
  held_here u = elim (cases_lt u old.units) [
    | inr above ↦ inr (λ held. omega (arith, above, held.below))
    | inl lt ↦ elim (held_or c.disks u) [
      | inl stays ↦ inl (record { below = lt; good = stays })
      | inr failed ↦ inr (λ held. both_ways (failed_at c.disks u) held.good failed)
    ]
  ]

  module _ (i base : Image) (left : Each new.leaves i) (has : Each old.leaves base) where
    abbrev at_disk : (u : ℕ) → HeldGood c old u ⊎ (HeldGood c old u → ⊥) → Disk
    at_disk u (inl held) = base u
    at_disk u (inr out) = i u

    at_among : (u b : ℕ) (k : HeldGood c old u ⊎ (HeldGood c old u → ⊥)) → old.leaves u b (at_disk u k b)
    at_among u b (inl held) = has u b
    at_among u b (inr out) = ⊎_elim (λ was. was) (λ (mine : AreasOf (HeldGood c old) u b). absurd (out mine.on)) (underway.moves.leaves u b (i u b) (left u b))

    at_read : (readable : ℕ → Bool) → ((u : ℕ) → HeldGood c old u → readable u ≡ false) → (u : ℕ) (k : HeldGood c old u ⊎ (HeldGood c old u → ⊥)) → readable u ≡ true → i u ≡ at_disk u k
    at_read readable unread u (inl held) is = absurd (both_ways (readable u) (unread u held) is)
    at_read readable unread u (inr out) is = refl

    quiet_over : (readable : ℕ → Bool) → Silent c old → ReadsFailed c old readable → ((u : ℕ) → HeldGood c old u → readable u ≡ false) → IsNone (import_of (on_shelf old) failed_in old.units readable i)
    quiet_over readable silent reads_one unread =
        let j : Image = λ u. at_disk u (held_here u) in
        subst IsNone (sym (import_read (on_shelf old) readable i j failed_in old.units (λ u lt is. at_read readable unread u (held_here u) is)))
        (silent.each j readable (λ u b. at_among u b (held_here u)) reads_one unread)

  -- some disk can be read, or none
  any_read : (readable : ℕ → Bool) (n : ℕ) → ((u : ℕ) × (u < n) × (readable u ≡ true)) ⊎ ((u : ℕ) → u < n → readable u ≡ false)
  any_read readable zero = inr (λ u lt. absurd (omega (arith, lt)))
  any_read readable (suc n) = elim (any_read readable n) [
    | inl found ↦ let lt : found.0 < n = found.1 in inl (found.0, omega (arith, lt), found.2)
    | inr none ↦ one_more (readable n) refl none
  ]
    where
      one_more : (b : Bool) → readable n ≡ b → ((u : ℕ) → u < n → readable u ≡ false) → ((u : ℕ) × (u < suc n) × (readable u ≡ true)) ⊎ ((u : ℕ) → u < suc n → readable u ≡ false)
      one_more true is before = inl (n, omega arith, is)
      one_more false is before = inr (λ u lt. elim (cases_lt u n) [
        | inl below ↦ before u below
        | inr last ↦ let same : n ≡ u = omega (arith, lt, last) in subst (λ (k : ℕ). readable k ≡ false) same is
      ])

  -- so what these say by themselves is as it was
  pub quiet : (i : Image) (readable : ℕ → Bool) → (IsFalse old.tells → ⊥) → Each new.leaves i → Silent c old → ((u : ℕ) → HeldGood c old u → readable u ≡ false)
      → IsNone (import_of (on_shelf old) failed_in old.units readable i)
  quiet i readable tells left silent unread = by_tells old.tells refl
    where
      by_tells : (b : Bool) → old.tells ≡ b → IsNone (import_of (on_shelf old) failed_in old.units readable i)
      by_tells true is = elim (any_read readable old.units) [
        | inr none ↦ subst IsNone (sym (import_none (on_shelf old) readable i i failed_in old.units none)) tt
        | inl found ↦ elim (held_or c.disks found.0) [
          | inl stays ↦ absurd (both_ways (readable found.0) (unread found.0 (record { below = found.1; good = stays })) found.2)
          | inr failed ↦
              let some = lawful.image is in
              quiet_over i some.0 left (lawful.within some.0 some.1) readable silent (record { disk = found.0; below = found.1; failed = failed; read = found.2 }) unread
        ]
      ]
      by_tells false is = absurd (tells is)
