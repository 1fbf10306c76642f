-- A write is a stage and a seal in turn.
use Rattle.std.proofs.Common.{◌≡◌, ℕ, zero, suc, ◌+◌, ◌<◌, ◌≤◌, Bool, false, List, [], ◌∷◌, ◌++◌, length, take, Ok, Err, Option, Some, None, IsTrue, refl, sym, ◌∙◌, ap, subst, arith, length-append}
use Rattle.std.specs.Prelude.{if◌then◌else◌, ltb}
use Rattle.vx_model.specs.Content.{Write, blocks_in}
use Rattle.vx_model.specs.declared.no.Counted.TheVariants.{Number}
use Rattle.vx_model.specs.declared.no.No.{No}
use Rattle.vx_model.specs.declared.no.No.TheVariants as no
use Rattle.vx_disk.specs.Burns.{FallsShort, MakesCalls}
use Rattle.vx_disk.specs.Causes.{DeviceCause}
use Rattle.vx_disk.specs.Moves.{Moves, Run}
use Rattle.vx_disk.specs.Shelf.{Image, Meaning}
use Rattle.vx_disk.proofs.Burning.{then_calls, then_short}
use Rattle.vx_disk.proofs.Moving.{goes_on, wider}
use Rattle.vx_overlay.specs.Pending.{Pending}
use Rattle.vx_overlay.specs.Writes.{entries_at}
use Rattle.vx_overlay.specs.declared.entry.Entry.{Entry}
use Rattle.vx_disk.specs.Spends.{MakesAtLeast}
use Rattle.vx_disk.proofs.Spending.{at_least, then_at_least}
use Rattle.vx_srl.specs.Views.{Log, kept_record, most_number, next_of}
use Rattle.vx_srl.specs.declared.kept.Kept.{Kept}
use Rattle.vx_rvg.specs.Commits.{Committing, Halts, HasStaged, Seals, StageIs, number_refusal, with_sealed, with_staged}
use Rattle.vx_rvg.specs.Groups.{GroupFails, Writes, core_halted, core_with_write}
use Rattle.vx_rvg.specs.Holdings.{Holding, with_writes}
use Rattle.vx_rvg.specs.Logging.{LogEnded}
use Rattle.vx_rvg.specs.Stands.{FoundAs, Stands, Writing}
use Rattle.vx_rvg.specs.Views.{Core, IsSound, IsSoundWith, last_of}
use Rattle.vx_rvg.proofs.StagedCalls.{not_over, pending_is}
use Rattle.vx_rvg.proofs.StagedStands.{none_staged}
use Rattle.vx_rvg.proofs.WriteLog.{cause_from}
use Rattle.vx_rvg.proofs.WriteSound.{failed_sound, log_failed, moved_sizes}
use Rattle.vx_rvg.proofs.WriteStands.{write_at}

-- ---- before the call

pub sound_staged : (core : Core) (m : Meaning) → core.log.staged ≡ [] → IsSound core m → IsSoundWith core.log.staged core m
sound_staged core m idle sound = subst (λ (ks : List Kept). IsSoundWith ks core m) (sym idle) sound

one_next : (l : Log) → l.staged ≡ [] → next_of l ≡ l.header.low + length l.held
one_next l idle = let none : length l.staged ≡ 0 = ap (λ (ks : List Kept). length ks) idle in omega (arith, none, length-append l.held l.staged)

pub no_part : (k : ℕ) → take {A = Write} k [] ≡ []
no_part zero = refl
no_part (suc k) = refl

-- a call that fails keeps what waits
cut_is : (m m' : Meaning) (why : No) → DeviceCause m m' why → (x : Core) (p : Pending) → record (core_halted why x) { pending = p } ≡ core_halted why (record x { pending = p })
cut_is m m' (no.Device disk) cause x p = refl
cut_is m m' no.Down cause x p = refl
cut_is m m' other cause x p = absurd cause

waits_as : (m m' : Meaning) (why : No) → DeviceCause m m' why → (x : Core) → (core_halted why x).pending ≡ x.pending
waits_as m m' (no.Device disk) cause x = refl
waits_as m m' no.Down cause x = refl
waits_as m m' other cause x = absurd cause

front_part : (xs ys : List Entry) → take (length xs) (xs ++ ys) ≡ xs
front_part [] ys = refl
front_part (x ∷ xs) ys = ap (λ (es : List Entry). x ∷ es) (front_part xs ys)

module _ (core : Core) (vol start : ℕ) (bytes : List ℕ) (m m1 : Meaning) (sound : IsSound core m) (idle : core.log.staged ≡ []) (some : 0 < core.log.header.low) (number : last_of core < most_number)
    (moves : Moves (Run core.units.srl 0 (core.log.ring + 2)) (Committing core m) m m1) where
  abbrev x : Write
  x = write_at vol start bytes

  none_refused : number_refusal core ≡ None
  none_refused =
      let fits : ltb most_number (next_of core.log) ≡ false = not_over most_number (next_of core.log) (omega (arith, one_next core.log idle, number, some)) in
      ap (λ (t : Bool). if t then Some (no.Limit Number most_number) else None) fits

  stage_found : (i : Image) → Committing core m i → Writing core (x ∷ []) m i
  stage_found i found = record {
    each = λ h stands.
        let part : _ = found.each [] h (none_staged core h m stands) in
        (0, subst (λ (xs : List Write). FoundAs core i (with_writes xs h)) (no_part part.0) part.1);
  }

  -- a crash in the stage leaves what was held
  pub stage_writing : Moves (Run core.units.srl 0 (core.log.ring + 2)) (Writing core (record { volume = vol; start = start; bytes = bytes } ∷ []) m) m m1
  stage_writing =
      wider (Run core.units.srl 0 (core.log.ring + 2)) (Run core.units.srl 0 (core.log.ring + 2)) (Committing core m) (Writing core (x ∷ []) m) m m1 moves (λ u b is. is) (λ i aside found. stage_found i found)

  -- ---- where the stage fails

  module _ (after : Core) (why : No) (answers : StageIs (number_refusal core) core vol start bytes m m1 after (Err why)) where
    halts : Halts core m m1 after why
    halts = subst (λ (o : Option No). StageIs o core vol start bytes m m1 after (Err why)) none_refused answers

    same_log : LogEnded core.log core.log
    same_log = record { unit = refl; ring = refl; header = refl; held = refl }

    pub stage_fails : GroupFails core m m1 after why
    stage_fails = subst (λ (k : Core). GroupFails core m m1 k why) (sym halts.0) (log_failed core core.log m m1 why same_log halts.1)

    pub stage_leaves : IsSound after m1
    stage_leaves =
        subst (λ (k : Core). IsSound k m1) (sym halts.0)
        (failed_sound core core.log m m1 why (moved_sizes (Run core.units.srl 0 (core.log.ring + 2)) (Committing core m) m m1 moves) sound same_log halts.1)

  -- ---- where it answers

  module _ (mid : Core) (n : ℕ) (answers : StageIs (number_refusal core) core vol start bytes m m1 mid (Ok n)) where
    mid_is : mid ≡ with_staged core vol start bytes
    mid_is = (subst (λ (o : Option No). StageIs o core vol start bytes m m1 mid (Ok n)) none_refused answers).1

    pub staged_up : IsTrue m1.down → ⊥
    staged_up = (subst (λ (o : Option No). StageIs o core vol start bytes m m1 mid (Ok n)) none_refused answers).2

    pub staged_low : 0 < mid.log.header.low
    staged_low = subst (λ (k : Core). 0 < k.log.header.low) (sym mid_is) some

    one_staged : length mid.log.staged ≡ 1
    one_staged =
        ap (λ (k : Core). length k.log.staged) mid_is
        ∙ ap (λ (ks : List Kept). length (ks ++ kept_record core.log vol start bytes ∷ [])) idle

    three : (m2 : Meaning) → (0 < length mid.log.staged → MakesCalls (length mid.log.staged + 2) m1 m2) → MakesCalls 3 m1 m2
    three m2 made = subst (λ (k : ℕ). MakesCalls (k + 2) m1 m2) one_staged (made (omega (arith, one_staged)))

    pub four_calls : (m2 : Meaning) → MakesCalls 1 m m1 → (0 < length mid.log.staged → MakesCalls (length mid.log.staged + 2) m1 m2) → MakesCalls 4 m m2
    four_calls m2 one made = then_calls 1 3 m m1 m2 one (three m2 made)

    pub four_short : (m2 : Meaning) → FallsShort 1 m m1 → MakesCalls 1 m m1 → FallsShort (length mid.log.staged + 2) m1 m2 → FallsShort 4 m m2
    four_short m2 first made short = then_short 1 3 m m1 m2 first made (subst (λ (k : ℕ). FallsShort (k + 2) m1 m2) one_staged short)

    pub four_least : (m2 : Meaning) → MakesAtLeast 1 m m1 → (0 < length mid.log.staged → MakesCalls (length mid.log.staged + 2) m1 m2) → MakesAtLeast 4 m m2
    four_least m2 one made = then_at_least 1 3 m m1 m2 one (at_least 3 m1 m2 (three m2 made))

    module _ (staged : (xs : List Write) (h : Holding) → HasStaged xs core h m → HasStaged (xs ++ record { volume = vol; start = start; bytes = bytes } ∷ []) mid h m1)
        (m2 : Meaning) (seals : Moves (Run mid.units.srl 0 (mid.log.ring + 2)) (Committing mid m1) m1 m2) where
      has_one : (h : Holding) → Stands core h m → HasStaged (x ∷ []) mid h m1
      has_one h stands = staged [] h (none_staged core h m stands)

      found_as_before : (i : Image) (h : Holding) → FoundAs mid i h → FoundAs core i h
      found_as_before i h found = subst (λ (k : Core). FoundAs k i h) mid_is found

      seal_found : (i : Image) → Committing mid m1 i → Writing core (x ∷ []) m i
      seal_found i found = record {
        each = λ h stands.
            let part : _ = found.each (x ∷ []) h (has_one h stands) in
            (part.0, found_as_before i (with_writes (take part.0 (x ∷ [])) h) part.1);
      }

      pub write_moves : Moves (Run core.units.srl 0 (core.log.ring + 2)) (Writing core (record { volume = vol; start = start; bytes = bytes } ∷ []) m) m m2
      write_moves =
          goes_on (Run core.units.srl 0 (core.log.ring + 2)) (Run mid.units.srl 0 (mid.log.ring + 2)) (Writing core (x ∷ []) m) (Committing mid m1) m m1 m2 stage_writing seals
          (λ u b is. subst (λ (k : Core). Run k.units.srl 0 (k.log.ring + 2) u b) mid_is is) (λ i aside found. seal_found i found)

      -- the seal answers
      module _ (after : Core) (last : ℕ) (sealed : Seals mid m1 m2 after (Ok last)) where
        after_is : after ≡ core_with_write core vol start bytes
        after_is = sealed.1 ∙ ap (λ (k : Core). with_sealed k) mid_is

        pub write_answers : Writes core vol start bytes m m2 after (Ok last)
        write_answers =
            let ks : List Kept = core.log.staged ++ kept_record core.log vol start bytes ∷ [] in
            let one : length ks ≡ 1 = ap (λ (l : List Kept). length (l ++ kept_record core.log vol start bytes ∷ [])) idle in
            let top : last ≡ last_of (with_sealed (with_staged core vol start bytes)) = sealed.0 ∙ ap (λ (k : Core). last_of (with_sealed k)) mid_is in
            (omega (arith, top, one, some, length-append core.log.held ks), after_is, sealed.2)

        pub write_leaves : IsSoundWith after.log.staged after m2 → IsSound after m2
        write_leaves so = subst (λ (ks : List Kept). IsSoundWith ks after m2) (ap (λ (k : Core). k.log.staged) after_is) so

        pub write_stands : ((xs : List Write) (h : Holding) → HasStaged xs mid h m1 → Stands after (with_writes xs h) m2)
            → (h : Holding) → Stands core h m → Stands after (with_writes (record { volume = vol; start = start; bytes = bytes } ∷ []) h) m2
        write_stands stand h stands = stand (x ∷ []) h (has_one h stands)

      -- the seal fails, and what waits is cut to what it was
      module _ (held after : Core) (is : held ≡ after) (why : No) (sealed : Seals mid m1 m2 after (Err why)) where
        cause : DeviceCause m m2 why
        cause = cause_from m m1 m2 why moves.disk_faults sealed.1

        held_is : held ≡ core_halted why (with_staged core vol start bytes)
        held_is = is ∙ sealed.0 ∙ ap (λ (k : Core). core_halted why k) mid_is

        waits_more : held.pending ≡ record core.pending { entries = core.pending.entries ++ entries_at vol start (blocks_in bytes) bytes }
        waits_more = ap (λ (k : Core). k.pending) held_is ∙ waits_as m m2 why cause (with_staged core vol start bytes)

        pub cut_fits : (count : ℕ) → count ≡ length core.pending.entries → count ≤ length held.pending.entries
        cut_fits count count_is =
            omega (arith, count_is, ap (λ (p : Pending). length p.entries) waits_more, length-append core.pending.entries (entries_at vol start (blocks_in bytes) bytes))

        module _ (count : ℕ) (count_is : count ≡ length core.pending.entries) (pending : Pending) (entries : pending.entries ≡ take count held.pending.entries) (capacity : pending.capacity ≡ held.pending.capacity) where
          pending_as : pending ≡ core.pending
          pending_as =
              pending_is core.pending pending core.pending.entries (capacity ∙ ap (λ (p : Pending). p.capacity) waits_more)
              (entries ∙ ap (λ (k : ℕ). take k held.pending.entries) count_is ∙ ap (λ (p : Pending). take (length core.pending.entries) p.entries) waits_more
              ∙ front_part core.pending.entries (entries_at vol start (blocks_in bytes) bytes))

          abbrev left : Core
          left = record core { log = (with_staged core vol start bytes).log }

          cut : record held { pending = pending } ≡ core_halted why (record core { log = (with_staged core vol start bytes).log })
          cut =
              ap (λ (k : Core). record k { pending = pending }) held_is ∙ cut_is m m2 why cause (with_staged core vol start bytes) pending
              ∙ ap (λ (p : Pending). core_halted why (record left { pending = p })) pending_as

          ended : LogEnded core.log (with_staged core vol start bytes).log
          ended = record { unit = refl; ring = refl; header = refl; held = refl }

          pub seal_fails : GroupFails core m m2 (record held { pending = pending }) why
          seal_fails = subst (λ (k : Core). GroupFails core m m2 k why) (sym cut) (log_failed core (with_staged core vol start bytes).log m m2 why ended cause)

          pub seal_leaves : IsSound (record held { pending = pending }) m2
          seal_leaves =
              subst (λ (k : Core). IsSound k m2) (sym cut)
              (failed_sound core (with_staged core vol start bytes).log m m2 why (moved_sizes (Run core.units.srl 0 (core.log.ring + 2)) (Writing core (x ∷ []) m) m m2 write_moves) sound ended cause)
