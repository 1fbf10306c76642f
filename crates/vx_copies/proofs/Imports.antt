-- The answer of an import, from what was found on all disks.
use Rattle.std.proofs.Common.{◌≡◌, ◌⊎◌, inl, inr, ℕ, zero, suc, ◌+◌, ◌<◌, ◌≤◌, Bool, true, false, IsTrue, Option, Some, None, Result, Ok, Err, List, [], ◌∷◌, length, refl, ap, sym, subst, ◌∙◌, arith}
use Rattle.std.specs.Prelude.{◌&&◌, ◌||◌, ◌==◌, not, if◌then◌else◌}
use Rattle.std.proofs.lemmas.Bool.{cases_lt, eq-eqb, eqb-true}
use Rattle.vx_model.specs.declared.errors.Stop.{Stop}
use Rattle.vx_model.specs.declared.errors.Stop.TheVariants.{No as Refused, OutOfMemory as NoMemory}
use Rattle.vx_model.specs.declared.no.No.{No}
use Rattle.vx_disk.specs.Counts.{Rose}
use Rattle.vx_disk.specs.Shelf.{Meaning, Image, Lawful}
use Rattle.vx_copyfmt.specs.Copies.{Disk}
use Rattle.vx_copyfmt.specs.Imports.{first_of, missing, or_missing, by_labels, by_newest, newest_found, import_of}
use Rattle.vx_config.specs.declared.config.Config.{Config}
use Rattle.vx_config.specs.declared.entry.DiskEntry.{DiskEntry}
use Rattle.vx_copies.specs.Answers.{IsAnswer, Imported, answer_to, flag_at, returned_from}
use Rattle.vx_copies.specs.Bodies.{failed_in}
use Rattle.vx_copies.specs.Looking.{FitsBody, body_view, on_shelf}
use Rattle.vx_copies.specs.Searching.{FitsBest, Searched, best_view}
use Rattle.vx_copies.specs.declared.search.Best.{Best}
use Rattle.vx_copies.specs.declared.search.Search.{Search}
use Rattle.vx_copies.specs.declared.seen.BodySeen.{BodySeen}
use Rattle.vx_copies.specs.declared.seen.BodySeen.TheVariants as body
use Rattle.vx_copies.proofs.Reading.{fill, fill_read}
use Rattle.vx_copies.proofs.Searching.{newest_below, strange_below}

abbrev Answer : Type 0
Answer = Result (Config × ℕ) No

abbrev Final : Type 0
Final = Result (Config × ℕ) Stop

-- ---- which disks can be read matters below the number of units alone

missing_same : (f p q : ℕ → Bool) (n : ℕ) → ((u : ℕ) → u < n → p u ≡ q u) → missing f p n ≡ missing f q n
missing_same f p q zero same = refl
missing_same f p q (suc n) same =
    ap (λ (o : Option ℕ). first_of o (if f n || p n then None else Some n)) (missing_same f p q n (λ u lt. same u (omega (arith, lt))))
    ∙ ap (λ (b : Bool). first_of (missing f q n) (if f n || b then None else Some n)) (same n (omega arith))

returned_same : (p q : ℕ → Bool) (k : ℕ) (ds : List DiskEntry) → ((u : ℕ) → k ≤ u → u < k + length ds → p u ≡ q u) → returned_from p k ds ≡ returned_from q k ds
returned_same p q k [] same = refl
returned_same p q k (d ∷ ds) same =
    ap (λ (b : Bool). record { blocks = d.blocks; failed = d.failed && not b } ∷ returned_from p (k + 1) ds) (same k (omega arith) (omega arith))
    ∙ ap (λ (t : List DiskEntry). record { blocks = d.blocks; failed = d.failed && not (q k) } ∷ t) (returned_same p q (k + 1) ds (λ u low high. same u (omega (arith, low)) (omega (arith, high))))

module _ (units : ℕ) (p q : ℕ → Bool) (agree : (u : ℕ) → u < units → u < 8 → p u ≡ q u) where
  holds_same : (c : Config) → (length c.disks ≡ units) × (length c.disks ≤ 8) → answer_to p (or_missing c (missing (failed_in c) p units)) ≡ answer_to q (or_missing c (missing (failed_in c) q units))
  holds_same c fits =
      let below : (u : ℕ) → u < units → p u ≡ q u = λ u lt. agree u lt (omega (arith, lt, fits.0, fits.1)) in
      ap (λ (o : Option ℕ). answer_to p (or_missing c o)) (missing_same (failed_in c) p q units below) ∙ by_missing (missing (failed_in c) q units)
    where
      by_missing : (o : Option ℕ) → answer_to p (or_missing c o) ≡ answer_to q (or_missing c o)
      by_missing (Some d) = refl
      by_missing None =
          let disks : returned_from p 0 c.disks ≡ returned_from q 0 c.disks = returned_same p q 0 c.disks (λ u low high. agree u (omega (arith, high, fits.0)) (omega (arith, high, fits.1))) in
          rw disks refl

  answer_same : (format : Option ℕ) (best : Option Best) → FitsBest units best
      → answer_to p (by_labels format (by_newest failed_in units p (best_view best))) ≡ answer_to q (by_labels format (by_newest failed_in units q (best_view best)))
  answer_same (Some v) best fits = refl
  answer_same None None fits = refl
  answer_same None (Some x) fits = by_body x.copy.body fits
    where
      by_body : (b : BodySeen) → FitsBody units b
          → answer_to p (by_newest failed_in units p (Some (x.disk, record { serial = x.copy.serial; area = x.copy.area; body = body_view b })))
          ≡ answer_to q (by_newest failed_in units q (Some (x.disk, record { serial = x.copy.serial; area = x.copy.area; body = body_view b })))
      by_body (body.Holds c) fit = holds_same c fit
      by_body (body.Differs s t) fit = refl

-- ---- answers

no_memory : (a : Answer) → IsAnswer a (Err NoMemory)
no_memory (Ok x) = inl refl
no_memory (Err why) = inl refl

ok_answer : (a : Answer) (x : Config × ℕ) → Ok x ≡ a → IsAnswer a (Ok x)
ok_answer (Ok y) x is = inr cc
ok_answer (Err why) x is = absurd cc

err_answer : (a : Answer) (why : No) → Err why ≡ a → IsAnswer a (Err (Refused why))
err_answer (Ok y) why is = absurd cc
err_answer (Err other) why is = inr cc

-- a count that is another one rose
other_rose : (before now : ℕ) → before ≤ now → (now == before) ≡ false → Rose before now
other_rose before now le apart = elim (cases_lt before now) [
  | inl lt ↦ record { fell_not = le; rose = inl lt }
  | inr back ↦ let same : (now == before) ≡ true = eq-eqb now before (omega (arith, le, back)) in let clash : true ≡ false = sym same ∙ apart in absurd cc
]

-- memory ran out
pub imported_none : (old new : Meaning) → Lawful old → ((u : ℕ) → old.faults u ≤ new.faults u) → Imported old new (Err NoMemory)
imported_none old new lawful le =
    let p : ℕ → Bool = λ u. new.faults u == old.faults u in
    record {
      readable = p;
      image = λ u b. fill old lawful u b;
      blamed = λ u lt out. other_rose (old.faults u) (new.faults u) (le u) out;
      still = λ u lt on. eqb-true (new.faults u) (old.faults u) on;
      read = λ tells u b. fill_read old lawful u b tells;
      answer = no_memory (answer_to p (import_of (on_shelf old) failed_in old.units p (λ u b. fill old lawful u b)));
    }

module _ (old new : Meaning) (lawful : Lawful old) (s : Search) (found : Searched old.units old new s) where
  abbrev at_unit : (u : ℕ) → (u < old.units) ⊎ (old.units ≤ u) → Disk
  at_unit u (inl lt) = found.image u
  at_unit u (inr le) = fill old lawful u

  abbrev whole : Image
  whole u = at_unit u (cases_lt u old.units)

  at_same : (u : ℕ) (c : (u < old.units) ⊎ (old.units ≤ u)) → u < old.units → at_unit u c ≡ found.image u
  at_same u (inl lt) below = refl
  at_same u (inr le) below = absurd (omega (arith, le, below))

  at_read : IsTrue old.tells → (u b : ℕ) (c : (u < old.units) ⊎ (old.units ≤ u)) → old.reads u b (at_unit u c b)
  at_read tells u b (inl lt) = found.read tells u b lt
  at_read tells u b (inr le) = fill_read old lawful u b tells

  is_import : import_of (on_shelf old) failed_in old.units found.readable whole ≡ by_labels s.format (by_newest failed_in old.units found.readable (best_view s.best))
  unfolding import_of
  is_import =
      ap (λ (o : Option ℕ). by_labels o (by_newest failed_in old.units found.readable (newest_found (on_shelf old) found.readable whole old.units)))
      (strange_below found.readable found.readable whole found.image old.units (λ u lt. refl) (λ u lt. at_same u (cases_lt u old.units) lt) ∙ found.format)
      ∙ ap (λ o. by_labels s.format (by_newest failed_in old.units found.readable o))
      (newest_below (on_shelf old) found.readable found.readable whole found.image old.units (λ u lt. refl) (λ u lt. at_same u (cases_lt u old.units) lt) ∙ found.best)

  is_answer : answer_to found.readable (import_of (on_shelf old) failed_in old.units found.readable whole) ≡ answer_to (flag_at s.readable) (by_labels s.format (by_newest failed_in old.units (flag_at s.readable) (best_view s.best)))
  is_answer = ap (answer_to found.readable) is_import ∙ answer_same old.units found.readable (flag_at s.readable) (λ u lt small. sym (found.flags u lt small)) s.format s.best found.fits

  made : (result : Final) → IsAnswer (answer_to found.readable (import_of (on_shelf old) failed_in old.units found.readable whole)) result → Imported old new result
  made result answer = record { readable = found.readable; image = whole; blamed = found.blamed; still = found.still; read = λ tells u b. at_read tells u b (cases_lt u old.units); answer = answer }

  pub imported_ok : (units : ℕ) (x : Config × ℕ) → units ≡ old.units → Ok x ≡ answer_to (flag_at s.readable) (by_labels s.format (by_newest failed_in units (flag_at s.readable) (best_view s.best))) → Imported old new (Ok x)
  imported_ok units x same is = made (Ok x) (ok_answer _ x (subst (λ (n : ℕ). Ok x ≡ answer_to (flag_at s.readable) (by_labels s.format (by_newest failed_in n (flag_at s.readable) (best_view s.best)))) same is ∙ sym is_answer))

  pub imported_err : (units : ℕ) (why : No) → units ≡ old.units → Err why ≡ answer_to (flag_at s.readable) (by_labels s.format (by_newest failed_in units (flag_at s.readable) (best_view s.best))) → Imported old new (Err (Refused why))
  imported_err units why same is = made (Err (Refused why)) (err_answer _ why (subst (λ (n : ℕ). Err why ≡ answer_to (flag_at s.readable) (by_labels s.format (by_newest failed_in n (flag_at s.readable) (best_view s.best)))) same is ∙ sym is_answer))
