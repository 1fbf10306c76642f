-- A receiver's group makes room in its log.
use Rattle.std.proofs.Common.{◌≡◌, ◌∙◌, ◌⊎◌, inl, inr, ⊎_elim, ℕ, ◌+◌, ◌-◌, ◌<◌, ◌≤◌, Bool, true, false, List, [], ◌∷◌, length, drop, Option, Some, None, IsFalse, refl, sym, ap, subst, arith, append-nil, length-append}
use Rattle.std.specs.Prelude.{Result, Ok, Err, leb, ◌&&◌, ◌||◌, if◌then◌else◌}
use Rattle.std.proofs.lemmas.Bool.Decides.{nat_tests}
use Rattle.std.proofs.lemmas.List.{length-drop}
use Rattle.vx_model.specs.Content.{Write}
use Rattle.vx_model.specs.declared.limits.TheConstants.{MOST_NUMBER}
use Rattle.vx_model.specs.declared.no.No.{No}
use Rattle.vx_model.specs.declared.no.No.TheVariants.{Device, Down, Limit}
use Rattle.vx_model.specs.declared.no.Counted.TheVariants.{Number}
use Rattle.vx_srlfmt.specs.declared.header.Header.{Header}
use Rattle.vx_disk.specs.Moves.{Moves, Run}
use Rattle.vx_disk.specs.Shelf.{Meaning, Image}
use Rattle.vx_srl.specs.Calls.{saved}
use Rattle.vx_srl.specs.Headers.{without}
use Rattle.vx_srl.specs.Views.{Log, most_number, count_to, head_number, free_of, widths, all_of}
use Rattle.vx_srl.specs.declared.kept.Kept.{Kept}
use Rattle.vx_rvg.specs.Groups.{ApplyIs, Ended, GroupFails, halted_or}
use Rattle.vx_rvg.specs.Holdings.{Holding, kept_in}
use Rattle.vx_rvg.specs.Saves.{SaveIs, reclaim_refusal, reclaimed, log_without}
use Rattle.vx_rvg.specs.Stands.{Resting, Rests, Retains, Saving, Stands}
use Rattle.vx_rvg.specs.Views.{Core, IsSound, Waits, last_of}
use Rattle.vx_rvg.proofs.ContentFacts.{stands_count}
use Rattle.vx_secondary.specs.Logging.{Grows, SameGroup, Own, Logging, Step, LogsAll, EndsLogging}
use Rattle.vx_secondary.proofs.Steps.{grows_self, found_same, same_self, step_of}

-- ---- a device call that failed

ended_same : (c c' : Core) (halted : Option ℕ) → Ended c halted c' → SameGroup c c'
ended_same c c' halted ended = record {
  units = ended.units;
  ring = ended.ring;
  state = ap (λ (g : Header). g.state) ended.header;
  session = ap (λ (g : Header). g.incarnation) ended.header;
  stamp = omega (arith, ap (λ (g : Header). g.stamp) ended.header);
}

ended_last : (c c' : Core) (halted : Option ℕ) → Ended c halted c' → last_of c' ≡ last_of c + 0
ended_last c c' halted ended = omega (arith, ap (λ (g : Header). g.low) ended.header, ap (λ (ks : List Kept). length ks) ended.held)

pub failed_same : (c c' : Core) (m m' : Meaning) (why : No) → GroupFails c m m' c' why → SameGroup c c'
failed_same c c' m m' (Device disk) fails = ended_same c c' (Some disk) fails.0
failed_same c c' m m' Down fails = ended_same c c' c.halted fails.0
failed_same c c' m m' other fails = absurd fails

pub failed_ends : (c c' : Core) (m m' : Meaning) (why : No) → GroupFails c m m' c' why → EndsLogging 0 c c' m m' why
failed_ends c c' m m' (Device disk) fails = (ended_last c c' (Some disk) fails.0, (fails.0.halted_is, fails.1))
failed_ends c c' m m' Down fails = (ended_last c c' c.halted fails.0, fails.1)
failed_ends c c' m m' other fails = absurd fails

-- ---- an apply

waits_own : (c : Core) (m : Meaning) (u b : ℕ) → Waits c m u b → Own c u b
waits_own c m u b waits = record { here = inr (waits.kept.head.vol, waits.exists, waits.there) }

resting_logging : (c : Core) (xs : List Write) (stamp : ℕ) (m : Meaning) (i : Image) → c.log.header.stamp ≤ stamp → Resting c m i → Logging c xs stamp m i
resting_logging c xs stamp m i le resting = record {
  each = λ h stands. (0, (h, (grows_self h, found_same c c c.log.header.stamp stamp i h (same_self c) le (resting.each h stands))));
}

module _ (c c' : Core) (m m' : Meaning) (count : ℕ) (running : c.halted ≡ None) where
  applied_is : (result : Result ℕ No) → ApplyIs (halted_or c.halted None) c count m m' c' result → ApplyIs None c count m m' c' result
  applied_is result is = subst (λ (o : Option ℕ). ApplyIs (halted_or o None) c count m m' c' result) running is

  applied_same : (result : Result ℕ No) → ApplyIs None c count m m' c' result → SameGroup c c'
  applied_same (Ok number) is = subst (λ (k : Core). SameGroup c k) (sym is.1.1) (record { units = refl; ring = refl; state = refl; session = refl; stamp = omega arith })
  applied_same (Err why) is = failed_same c c' m m' why is

  pub applied_step : (xs : List Write) (result : Result ℕ No) → ApplyIs (halted_or c.halted None) c count m m' c' result → Moves (Waits c m) (Resting c m) m m' → Step xs c c' m m'
  applied_step xs result is moves =
      let same : SameGroup c c' = applied_same result (applied_is result is) in
      step_of xs c c' (Waits c m) (Resting c m) m m' same moves (waits_own c m) (λ i rests. resting_logging c xs (c'.log.header.stamp + 1) m i (omega (arith, same.stamp)) rests)

  pub applied_logs : (number : ℕ) → ApplyIs (halted_or c.halted None) c count m m' c' (Ok number) → Rests c c' m m' → LogsAll [] c c' m m'
  applied_logs number is rests =
      let made = (applied_is (Ok number) is).1.1 in
      record {
        last = ap (λ (k : Core). last_of k) made ∙ omega arith;
        running = ap (λ (k : Core). k.halted) made ∙ running;
        holds = λ h stands. (h, (grows_self h, rests.each h stands));
      }

  pub applied_ends : (why : No) → ApplyIs (halted_or c.halted None) c count m m' c' (Err why) → EndsLogging 0 c c' m m' why
  applied_ends why is = failed_ends c c' m m' why (applied_is (Err why) is)

  -- it brings all in
  pub applied_all : (number : ℕ) → ApplyIs (halted_or c.halted None) c count m m' c' (Ok number) → count ≡ last_of c → last_of c' ≤ c'.applied
  applied_all number is all =
      let made = (applied_is (Ok number) is).1.1 in
      omega (arith, (applied_is (Ok number) is).0, ap (λ (k : Core). last_of k) made, ap (λ (k : Core). k.applied) made, all)

-- ---- the giving up of what is in the volumes

record Emptied (l l' : Log) : Type 0 where
  ring : l'.ring ≡ l.ring
  state : l'.header.state ≡ l.header.state
  incarnation : l'.header.incarnation ≡ l.header.incarnation
  first : 0 < l'.header.low
  head : head_number l' ≡ head_number l
  none : length l'.held ≡ 0
  least : l.header.stamp ≤ l'.header.stamp
  most : l'.header.stamp ≤ l.header.stamp + 1

emptied_by : (l : Log) (to : ℕ) (b : Bool) → leb l.header.low to ≡ b → 0 < l.header.low → head_number l ≡ to → Emptied l (if b then saved l (without l to) (count_to l to) else l)
emptied_by l to true is first head =
    let low : l.header.low ≤ to = grind (arith, nat_tests) in
    let less = length-drop (count_to l to) l.held in
    record {
      ring = refl;
      state = refl;
      incarnation = refl;
      first = omega arith;
      head = omega (arith, less, head, first, low);
      none = omega (arith, less, head, first, low);
      least = omega arith;
      most = omega arith;
    }
emptied_by l to false is first head =
    let high : to < l.header.low = grind (arith, nat_tests) in
    record {
      ring = refl;
      state = refl;
      incarnation = refl;
      first = first;
      head = refl;
      none = omega (arith, head, first, high);
      least = omega arith;
      most = omega arith;
    }

-- a holding of which the log gave up all
grows_kept : (c after : Core) (h : Holding) (m : Meaning) → Stands c h m → Emptied c.log after.log → 0 < c.log.header.low → Grows [] h (kept_in after h)
grows_kept c after h m stands emptied some =
    let many : length h.writes ≡ length c.log.held = stands_count c h m stands in
    record {
      gone = length h.writes - length after.log.held;
      few = omega (arith, length-append h.writes []);
      writes = ap (λ (ws : List Write). drop (length h.writes - length after.log.held) ws) (sym (append-nil h.writes));
      low = omega (arith, many, stands.low, emptied.none, emptied.head, emptied.first, some);
      content = refl;
      maps = refl;
    }

saving_logging : (c after : Core) (xs : List Write) (stamp : ℕ) (m : Meaning) (i : Image) → SameGroup c after → Emptied c.log after.log → 0 < c.log.header.low → after.log.header.stamp ≤ stamp
    → Saving c after m i → Logging c xs stamp m i
saving_logging c after xs stamp m i same emptied some le saving = record {
  each = λ h stands.
      ⊎_elim
      (λ found. (0, (h, (grows_self h, found_same c c c.log.header.stamp stamp i h (same_self c) (omega (arith, le, emptied.least)) found))))
      (λ found. (0, (kept_in after h, (grows_kept c after h m stands emptied some, found_same c after after.log.header.stamp stamp i (kept_in after h) same le found))))
      (saving.each h stands);
}

-- no record takes blocks
widths_none : (ks : List Kept) → length ks ≡ 0 → widths ks ≡ 0
widths_none [] is = refl
widths_none (k ∷ ks) is = absurd (omega (arith, is))

all_free : (l : Log) → length l.held ≡ 0 → l.staged ≡ [] → free_of l ≡ l.ring
all_free l none idle = let w = widths_none (all_of l) (omega (arith, none, ap (λ (ks : List Kept). length ks) idle, length-append l.held l.staged)) in omega (arith, w)

abbrev IsLimit : ℕ → ℕ → Option No → Type 0
IsLimit stamp to None = Unit {0}
IsLimit stamp to (Some why) = (why ≡ Limit Number MOST_NUMBER) × ((MOST_NUMBER ≤ stamp) ⊎ (MOST_NUMBER ≤ to))

limit_by : (b s t : Bool) (stamp to : ℕ) → leb most_number stamp ≡ s → leb most_number to ≡ t → IsLimit stamp to (if b && (s || t) then Some (Limit Number most_number) else None)
limit_by false s t stamp to es et = tt
limit_by true false false stamp to es et = tt
limit_by true true t stamp to es et = (refl, inl (let le : most_number ≤ stamp = grind (arith, nat_tests) in le))
limit_by true false true stamp to es et = (refl, inr (let le : most_number ≤ to = grind (arith, nat_tests) in le))

module _ (c c' : Core) (m m' : Meaning) (last : ℕ) (is_last : last ≡ last_of c) (some : 0 < c.log.header.low) (running : c.halted ≡ None) where
  emptied : Emptied c.log (log_without c.log last)
  emptied = emptied_by c.log last (leb c.log.header.low last) refl some (sym is_last)

  same : SameGroup c (reclaimed c last)
  same = record { units = refl; ring = emptied.ring; state = emptied.state; session = emptied.incarnation; stamp = emptied.least }

  done_is : (r : Option No) (done : Unit {0}) → SaveIs r c (reclaimed c last) m m' c' (Ok done) → c' ≡ reclaimed c last
  done_is (Some why) done is = absurd (let e : Ok done ≡ Err why = is.0 in cc)
  done_is None done is = is

  same_by : (r : Option No) (result : Result (Unit {0}) No) → SaveIs r c (reclaimed c last) m m' c' result → SameGroup c c'
  same_by (Some why) result is = subst (λ (k : Core). SameGroup c k) (sym is.1) (same_self c)
  same_by None (Ok done) is = subst (λ (k : Core). SameGroup c k) (sym is) same
  same_by None (Err why) is = failed_same c c' m m' why is

  pub reclaim_step : (result : Result (Unit {0}) No) → SaveIs (reclaim_refusal c last) c (reclaimed c last) m m' c' result
      → Moves (Run c.units.srl 0 (c.log.ring + 2)) (Saving c (reclaimed c last) m) m m' → Step [] c c' m m'
  reclaim_step result is moves =
      let here : SameGroup c c' = same_by (reclaim_refusal c last) result is in
      step_of [] c c' (Run c.units.srl 0 (c.log.ring + 2)) (Saving c (reclaimed c last) m) m m' here moves (λ u b run. record { here = inl run })
      (λ i saving. saving_logging c (reclaimed c last) [] (c'.log.header.stamp + 1) m i same emptied some (omega (arith, here.stamp, emptied.most)) saving)

  pub reclaim_logs : (done : Unit {0}) → SaveIs (reclaim_refusal c last) c (reclaimed c last) m m' c' (Ok done) → Retains c c' m m' → LogsAll [] c c' m m'
  reclaim_logs done is retains =
      let made : c' ≡ reclaimed c last = done_is (reclaim_refusal c last) done is in
      record {
        last = ap (λ (k : Core). last_of k) made ∙ omega (arith, emptied.head);
        running = ap (λ (k : Core). k.halted) made ∙ running;
        holds = λ h stands. (kept_in c' h, (subst (λ (k : Core). Grows [] h (kept_in k h)) (sym made) (grows_kept c (reclaimed c last) h m stands emptied some), retains.each h stands));
      }

  pub reclaim_last : (done : Unit {0}) → SaveIs (reclaim_refusal c last) c (reclaimed c last) m m' c' (Ok done) → last_of c' ≡ last_of c + 0
  reclaim_last done is = ap (λ (k : Core). last_of k) (done_is (reclaim_refusal c last) done is) ∙ omega (arith, emptied.head)

  pub reclaim_free : (done : Unit {0}) → SaveIs (reclaim_refusal c last) c (reclaimed c last) m m' c' (Ok done) → IsSound c' m' → IsFalse m'.down → free_of c'.log ≡ c.log.ring
  reclaim_free done is sound up =
      let made : c' ≡ reclaimed c last = done_is (reclaim_refusal c last) done is in
      all_free c'.log (ap (λ (k : Core). length k.log.held) made ∙ emptied.none) (sound.idle (ap (λ (k : Core). k.halted) made ∙ running) up)
      ∙ ap (λ (k : Core). k.log.ring) made ∙ emptied.ring

  limit_is : IsLimit c.log.header.stamp last (reclaim_refusal c last)
  limit_is = subst (λ (o : Option ℕ). IsLimit c.log.header.stamp last (halted_or o (if leb c.log.header.low last && (leb most_number c.log.header.stamp || leb most_number last) then Some (Limit Number most_number) else None)))
      (sym running) (limit_by (leb c.log.header.low last) (leb most_number c.log.header.stamp) (leb most_number last) c.log.header.stamp last refl refl)

  ends_by : (r : Option No) (why : No) → IsLimit c.log.header.stamp last r → SaveIs r c (reclaimed c last) m m' c' (Err why) → EndsLogging 0 c c' m m' why
  ends_by (Some limit) why is_limit is =
      let named : why ≡ Limit Number MOST_NUMBER = (let e : Err why ≡ Err limit = is.0 in let same : why ≡ limit = cc in same ∙ is_limit.0) in
      subst (λ (k : Core). EndsLogging 0 c k m m' why) (sym is.1)
      (subst (λ (n : No). EndsLogging 0 c c m m' n) (sym named) (omega arith, (refl, (running, ⊎_elim (λ stamp. inl stamp) (λ to. inr (omega (arith, to, is_last))) is_limit.1))))
  ends_by None why is_limit is = failed_ends c c' m m' why is

  pub reclaim_ends : (why : No) → SaveIs (reclaim_refusal c last) c (reclaimed c last) m m' c' (Err why) → EndsLogging 0 c c' m m' why
  reclaim_ends why is = ends_by (reclaim_refusal c last) why limit_is is
