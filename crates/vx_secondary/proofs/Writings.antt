-- A receiver's group logs a write.
use Rattle.std.proofs.Common.{◌≡◌, ◌∙◌, inl, inr, ℕ, ◌+◌, ◌<◌, ◌≤◌, Bool, true, false, List, [], ◌∷◌, ◌++◌, length, take, Option, Some, None, IsTrue, IsFalse, refl, sym, ap, subst, arith, length-append}
use Rattle.std.specs.Prelude.{Result, Ok, Err, leb, ltb, ◌&&◌, if◌then◌else◌}
use Rattle.std.proofs.lemmas.Bool.{and_parts}
use Rattle.std.proofs.lemmas.Bool.Decides.{nat_tests}
use Rattle.vx_model.specs.Content.{Write, blocks_in}
use Rattle.vx_model.specs.declared.call.Update.{Update}
use Rattle.vx_model.specs.declared.limits.TheConstants.{MOST_NUMBER}
use Rattle.vx_model.specs.declared.no.No.{No}
use Rattle.vx_model.specs.declared.no.No.TheVariants.{Device, Down, Limit}
use Rattle.vx_model.specs.declared.no.Counted.TheVariants.{Number}
use Rattle.vx_disk.specs.Moves.{Moves, Run}
use Rattle.vx_disk.specs.Shelf.{Meaning, Image}
use Rattle.vx_srl.specs.Views.{kept_record, most_number}
use Rattle.vx_srl.specs.declared.kept.Kept.{Kept}
use Rattle.vx_rvg.specs.Groups.{WriteIs, core_with_write, write_refusal}
use Rattle.vx_rvg.specs.Holdings.{Holding, with_writes}
use Rattle.vx_rvg.specs.Stands.{Stands, Writing}
use Rattle.vx_rvg.specs.Views.{Core, IsSound, last_of, unit_of}
use Rattle.vx_rvg.proofs.WriteLog.{cause_from}
use Rattle.vx_secondary.specs.Logging.{Grows, SameGroup, Logging, Step, LogsAll, EndsLogging}
use Rattle.vx_secondary.specs.Receivers.{can_log}
use Rattle.vx_secondary.proofs.Rooms.{failed_ends, failed_same}
use Rattle.vx_secondary.proofs.Steps.{found_same, same_self, step_of}

grows_with : (xs : List Write) (h : Holding) → Grows xs h (with_writes xs h)
grows_with xs h = record { gone = 0; few = omega arith; writes = refl; low = omega arith; content = refl; maps = refl }

writing_logging : (c : Core) (xs : List Write) (stamp : ℕ) (m : Meaning) (i : Image) → c.log.header.stamp ≤ stamp → Writing c xs m i → Logging c xs stamp m i
writing_logging c xs stamp m i le writing = record {
  each = λ h stands.
      let got = writing.each h stands in
      (got.0, (with_writes (take got.0 xs) h, (grows_with (take got.0 xs) h, found_same c c c.log.header.stamp stamp i (with_writes (take got.0 xs) h) (same_self c) le got.1)));
}

-- what a group can log is refused for want of a number alone
refusal_is : (c : Core) (size start count : ℕ) → c.halted ≡ None → count + 1 ≤ c.log.ring → start + count ≤ size
    → write_refusal c size start count ≡ (if leb most_number (last_of c) then Some (Limit Number most_number) else None)
refusal_is c size start count running fits within =
    let a : ltb c.log.ring (count + 1) ≡ false = grind (arith, nat_tests) in
    let b : ltb size (start + count) ≡ false = grind (arith, nat_tests) in
    rw (running, a, b) refl

pub can_parts : (c : Core) (size : ℕ → ℕ) (u : Update) → can_log c size u ≡ true
    → (u.vol < length c.units.vols) × ((blocks_in u.bytes + 1 ≤ c.log.ring) × (u.block + blocks_in u.bytes ≤ size (unit_of c.units.vols u.vol)))
can_parts c size u can =
    let first = and_parts (ltb u.vol (length c.units.vols)) (leb (blocks_in u.bytes + 1) c.log.ring && leb (u.block + blocks_in u.bytes) (size (unit_of c.units.vols u.vol))) can in
    let others = and_parts (leb (blocks_in u.bytes + 1) c.log.ring) (leb (u.block + blocks_in u.bytes) (size (unit_of c.units.vols u.vol))) first.1 in
    let a : ltb u.vol (length c.units.vols) ≡ true = first.0 in
    let b : leb (blocks_in u.bytes + 1) c.log.ring ≡ true = others.0 in
    let d : leb (u.block + blocks_in u.bytes) (size (unit_of c.units.vols u.vol)) ≡ true = others.1 in (
      let lt : u.vol < length c.units.vols = grind (arith, nat_tests) in lt,
      (
        let le : blocks_in u.bytes + 1 ≤ c.log.ring = grind (arith, nat_tests) in le,
        let le : u.block + blocks_in u.bytes ≤ size (unit_of c.units.vols u.vol) = grind (arith, nat_tests) in le,
      ),
    )

pub can_same : (c d : Core) (one two : ℕ → ℕ) (u : Update) → SameGroup c d → ((v : ℕ) → two v ≡ one v) → can_log c one u ≡ true → can_log d two u ≡ true
can_same c d one two u same sizes can =
    rw (same.units, same.ring, sizes (unit_of c.units.vols u.vol)) can

module _ (c c' : Core) (vol start : ℕ) (bytes : List ℕ) (m m' : Meaning) (size : ℕ) (running : c.halted ≡ None) (some : 0 < c.log.header.low)
    (fits : blocks_in bytes + 1 ≤ c.log.ring) (within : start + blocks_in bytes ≤ size) where
  abbrev x : Write
  x = record { volume = vol; start = start; bytes = bytes }

  abbrev why : Option No
  why = write_refusal c size start (blocks_in bytes)

  same_by : (r : Option No) (result : Result ℕ No) → WriteIs r c vol start bytes m m' c' result → SameGroup c c'
  same_by (Some w) result is = subst (λ (k : Core). SameGroup c k) (sym is.1) (same_self c)
  same_by None (Ok number) is = subst (λ (k : Core). SameGroup c k) (sym is.1) (record { units = refl; ring = refl; state = refl; session = refl; stamp = omega arith })
  same_by None (Err w) is = failed_same c c' m m' w is

  pub written_step : (result : Result ℕ No) → WriteIs why c vol start bytes m m' c' result → Moves (Run c.units.srl 0 (c.log.ring + 2)) (Writing c (x ∷ []) m) m m' → Step (x ∷ []) c c' m m'
  written_step result is moves =
      let same : SameGroup c c' = same_by why result is in
      step_of (x ∷ []) c c' (Run c.units.srl 0 (c.log.ring + 2)) (Writing c (x ∷ []) m) m m' same moves (λ u b run. record { here = inl run })
      (λ i writing. writing_logging c (x ∷ []) (c'.log.header.stamp + 1) m i (omega (arith, same.stamp)) writing)

  done_is : (r : Option No) (number : ℕ) → WriteIs r c vol start bytes m m' c' (Ok number) → (c' ≡ core_with_write c vol start bytes) × (IsTrue m'.down → ⊥)
  done_is (Some w) number is = absurd (let e : Ok number ≡ Err w = is.0 in cc)
  done_is None number is = (is.1, is.2)

  up_before : (before after : Bool) → (IsTrue before → IsTrue after) → (IsTrue after → ⊥) → IsFalse before
  up_before false after falls up = refl
  up_before true after falls up = absurd (up (falls refl))

  pub written_logs : (number : ℕ) → WriteIs why c vol start bytes m m' c' (Ok number) → IsSound c m → (IsTrue m.down → IsTrue m'.down)
      → ((h : Holding) → Stands c h m → Stands c' (with_writes (x ∷ []) h) m') → LogsAll (x ∷ []) c c' m m'
  written_logs number is sound falls stands =
      let done = done_is why number is in
      let idle : c.log.staged ≡ [] = sound.idle running (up_before m.down m'.down falls done.1) in
      record {
        last = ap (λ (k : Core). last_of k) done.0
            ∙ omega (arith, some, ap (λ (ks : List Kept). length ks) idle, length-append c.log.held (c.log.staged ++ kept_record c.log vol start bytes ∷ []), length-append c.log.staged (kept_record c.log vol start bytes ∷ []));
        running = ap (λ (k : Core). k.halted) done.0 ∙ running;
        holds = λ h s. (with_writes (x ∷ []) h, (grows_with (x ∷ []) h, stands h s));
      }

  ends_by : (b : Bool) (w : No) → leb most_number (last_of c) ≡ b → WriteIs (if b then Some (Limit Number most_number) else None) c vol start bytes m m' c' (Err w) → EndsLogging 0 c c' m m' w
  ends_by true w past is =
      let named : w ≡ Limit Number MOST_NUMBER = (let e : Err w ≡ Err (Limit Number most_number) = is.0 in cc) in
      let le : most_number ≤ last_of c = grind (arith, nat_tests) in
      subst (λ (k : Core). EndsLogging 0 c k m m' w) (sym is.1) (subst (λ (n : No). EndsLogging 0 c c m m' n) (sym named) (omega arith, (refl, (running, inr le))))
  ends_by false w past is = failed_ends c c' m m' w is

  pub written_ends : (w : No) → WriteIs why c vol start bytes m m' c' (Err w) → EndsLogging 0 c c' m m' w
  written_ends w is =
      ends_by (leb most_number (last_of c)) w refl
      (subst (λ (r : Option No). WriteIs r c vol start bytes m m' c' (Err w)) (refusal_is c size start (blocks_in bytes) running fits within) is)

-- ---- what stopped a later call

pub ends_later : (n k : ℕ) (c d e : Core) (m mid m' : Meaning) (why : No) → last_of d ≡ last_of c + n → ((disk : ℕ) → m.disk_faults disk ≤ mid.disk_faults disk)
    → EndsLogging k d e mid m' why → EndsLogging (n + k) c e m m' why
ends_later n k c d e m mid m' (Device disk) last counts ends = (omega (arith, last, ends.0), (ends.1.0, cause_from m mid m' (Device disk) counts ends.1.1))
ends_later n k c d e m mid m' Down last counts ends = (omega (arith, last, ends.0), cause_from m mid m' Down counts ends.1)
ends_later n k c d e m mid m' (Limit what most) last counts ends = (omega (arith, last, ends.0), ends.1)
ends_later n k c d e m mid m' other last counts ends = absurd ends.1
