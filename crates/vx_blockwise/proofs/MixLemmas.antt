-- A call on a shelf around another one, whose crashes leave each block by itself: the shelf before the call has joined its past.
use Rattle.std.proofs.Common.{◌≡◌, ◌⊎◌, inl, inr, ⊎_elim, ℕ, zero, suc, ◌≤◌, Bool, true, false, IsTrue, List, [], ◌∷◌, ◌++◌, length, length-append, refl, sym, ◌∙◌, subst, arith}
use Rattle.std.specs.Prelude.{IsFalse, OnOk, Option, None, Some, Result, Ok, Err}
use Rattle.vx_disk.specs.Causes.{Calls, Cause, OnDisks}
use Rattle.vx_disk.specs.Disks.{Disks, RanOut}
use Rattle.vx_disk.specs.Shelf.{Each, Fits, Flushed, Goes, Image, Lawful, Meaning, Read, Values, Wrote}
use Rattle.vx_disk.specs.declared.shelf.ShelfError.{ShelfError}
use Rattle.vx_disk.specs.declared.shelf.ShelfError.TheVariants.{Fault, Down}
use Rattle.vx_blockwise.specs.Blocks.{WasMixed, blockwise_since}

-- what an Ok brings
pub on_ok : {T E A B : Type 0} (r : Result T E) → (A → B) → OnOk r A → OnOk r B
on_ok (Ok x) f it = f it
on_ok (Err e) f it = tt

bool_by : (b : Bool) → (IsFalse b → ⊥) → IsTrue b
bool_by true not = refl
bool_by false not = absurd (not refl)

-- a shelf that may leave something tells its contents
pub told_each : (m : Meaning) (i : Image) → Lawful m → Each m.leaves i → IsTrue m.tells
told_each m i law each = bool_by m.tells (λ untold. law.none untold 0 0 (i 0 0) (each 0 0))

module _ {S : Type 0} (meaning : S → Meaning) (told : Bool) (s : S) (i : Image) where
  more : (past : List S) (t : ℕ) → WasMixed meaning told past t i → WasMixed meaning told (past ++ s ∷ []) t i
  more [] t was = absurd was
  more (x ∷ past) zero (inl here) = inl here
  more (x ∷ past) zero (inr there) = inr (more past zero there)
  more (x ∷ past) (suc t) was = more past t was

  newest : (past : List S) (t : ℕ) → t ≤ length past → IsTrue told → Each (meaning s).leaves i → WasMixed meaning told (past ++ s ∷ []) t i
  newest [] zero le tells each = inl (tells, each)
  newest [] (suc t) le tells each = absurd (omega (arith, le))
  newest (x ∷ past) zero le tells each = inr (newest past zero (omega arith) tells each)
  newest (x ∷ past) (suc t) le tells each = newest past t (omega (arith, le)) tells each

  which : (past : List S) (t : ℕ) → t ≤ length past → WasMixed meaning told (past ++ s ∷ []) t i → Each (meaning s).leaves i ⊎ WasMixed meaning told past t i
  which [] zero le (inl here) = inl here.1
  which [] zero le (inr none) = absurd none
  which [] (suc t) le was = absurd (omega (arith, le))
  which (x ∷ past) zero le (inl here) = inr (inl here)
  which (x ∷ past) zero le (inr there) = ⊎_elim (λ each. inl each) (λ was. inr (inr was)) (which past zero (omega arith) there)
  which (x ∷ past) (suc t) le was = which past t (omega (arith, le)) was

module _ {S : Type 0} (meaning : S → Meaning) (past : List S) (s : S) (new : Meaning) where
  -- what it gives and may leave is what the shelf inside does
  goes_pushed : (written : Values) → Lawful (meaning s) → Goes written (meaning s) new → Goes written (blockwise_since meaning past (meaning s)) (blockwise_since meaning (past ++ s ∷ []) new)
  goes_pushed written law goes = record {
    units = goes.units;
    size = goes.size;
    tells = goes.tells;
    reads = goes.reads;
    leaves = goes.leaves;
    later = omega (arith, length-append past (s ∷ []));
    since = λ t i le left. ⊎_elim
        (λ each. inr (λ u b. goes.leaves u b (i u b) (each u b)))
        (λ was. ⊎_elim (λ each. inl (inl each)) (λ old. inl (inr old)) (which meaning (meaning s).tells s i past t le (subst (λ (b : Bool). WasMixed meaning b (past ++ s ∷ []) t i) goes.tells was)))
        left;
    keeps = λ t i le was. inr (subst (λ (b : Bool). WasMixed meaning b (past ++ s ∷ []) t i) (sym goes.tells)
        (⊎_elim (λ each. newest meaning (meaning s).tells s i past t le (told_each (meaning s) i law each) each) (λ old. more meaning (meaning s).tells s i past t old) was));
    faults = goes.faults;
    disk_faults = goes.disk_faults;
    falls = goes.falls;
    unarmed = goes.unarmed;
    safe = goes.safe;
  }

  module _ (next : List S) (is : next ≡ past ++ s ∷ []) where
    pub mix_goes : (written : Values) → Lawful (meaning s) → Goes written (meaning s) new → Goes written (blockwise_since meaning past (meaning s)) (blockwise_since meaning next new)
    mix_goes written law goes = subst (λ (ss : List S). Goes written (blockwise_since meaning past (meaning s)) (blockwise_since meaning ss new)) (sym is) (goes_pushed written law goes)

    pub mix_cause : {T : Type 0} (unit : ℕ) (r : Result T ShelfError) → Cause (meaning s) new unit r → Cause (blockwise_since meaning past (meaning s)) (blockwise_since meaning next new) unit r
    mix_cause unit (Ok x) it = record { before = it.before; after = it.after }
    mix_cause unit (Err (Fault disk)) it = (record { count = it.0.count; disk_count = it.0.disk_count }, record { before = it.1.before; after = it.1.after })
    mix_cause unit (Err Down) it = it

    pub mix_read : (unit block : ℕ) (bytes : List ℕ) → Read (meaning s) unit block bytes → Read (blockwise_since meaning past (meaning s)) unit block bytes
    mix_read unit block bytes it = record { each = it.each }

    pub mix_wrote : (unit block : ℕ) (bytes : List ℕ) → Wrote unit block bytes (meaning s) new → Wrote unit block bytes (blockwise_since meaning past (meaning s)) (blockwise_since meaning next new)
    mix_wrote unit block bytes it = record { each = it.each }

    pub mix_flushed : (unit : ℕ) → Flushed unit (meaning s) new → Flushed unit (blockwise_since meaning past (meaning s)) (blockwise_since meaning next new)
    mix_flushed unit it = record { each = it.each }

  pub mix_fits : (unit block n : ℕ) → Fits (blockwise_since meaning past (meaning s)) unit block n → Fits (meaning s) unit block n
  mix_fits unit block n it = record { exists = it.exists; some = it.some; whole = it.whole; within = it.within }

-- a call on the disks of a rack, by any shelf that tells as much and is down as well
calls_by : {T : Type 0} (m k : Meaning) (step : Disks → Disks → Type 0) (o n : Disks) (r : Result T ShelfError) → k.tells ≡ m.tells → k.down ≡ m.down → k.size ≡ m.size → Calls m step o n r → Calls k step o n r
calls_by m k step o n (Ok x) tells down size it = ((λ told. it.0 (sym tells ∙ told)), it.1)
calls_by m k step o n (Err (Fault disk)) tells down size it = it
calls_by m k step o n (Err Down) tells down size it = ⊎_elim
    (λ off. inl (down ∙ off.0, off.1))
    (λ out. inr (subst (λ (f : ℕ → ℕ). RanOut f o n) (sym size) out))
    it

disks_by : (old new : Option Disks) (P Q : Disks → Disks → Type 0) → ((o n : Disks) → P o n → Q o n) → OnDisks old new P → OnDisks old new Q
disks_by None None P Q like it = tt
disks_by None (Some n) P Q like it = it
disks_by (Some o) None P Q like it = it
disks_by (Some o) (Some n) P Q like it = (like o n it.0, it.1)

pub mix_disks : {S T : Type 0} (meaning : S → Meaning) (past : List S) (m : Meaning) (step : Disks → Disks → Type 0) (old new : Option Disks) (r : Result T ShelfError) → OnDisks old new (λ o n. Calls m step o n r)
    → OnDisks old new (λ o n. Calls (blockwise_since meaning past m) step o n r)
mix_disks meaning past m step old new r it =
    disks_by old new (λ o n. Calls m step o n r) (λ o n. Calls (blockwise_since meaning past m) step o n r) (λ o n call. calls_by m (blockwise_since meaning past m) step o n r refl refl refl call) it
