-- The calls of a group commit, from what the calls on the log are.
use Rattle.std.proofs.Common.{◌≡◌, ◌⊎◌, inl, inr, ⊎_elim, ℕ, zero, suc, ◌+◌, ◌<◌, ◌≤◌, Bool, true, false, List, [], ◌∷◌, ◌++◌, length, drop, Result, Ok, Err, Some, None, IsSome, IsTrue, refl, sym, ◌∙◌, ap, subst, arith, append-nil}
use Rattle.std.specs.Prelude.{if◌then◌else◌, ltb}
use Rattle.std.proofs.lemmas.Bool.Decides.{nat_tests}
use Rattle.vx_model.specs.Content.{Write, blocks_in}
use Rattle.vx_model.specs.declared.no.Counted.TheVariants.{Number}
use Rattle.vx_model.specs.declared.no.No.{No}
use Rattle.vx_model.specs.declared.no.No.TheVariants as no
use Rattle.vx_disk.specs.Causes.{DeviceCause}
use Rattle.vx_disk.specs.Moves.{Moves, Run}
use Rattle.vx_disk.specs.Shelf.{Meaning}
use Rattle.vx_overlay.specs.Pending.{Pending}
use Rattle.vx_overlay.specs.Writes.{entries_at}
use Rattle.vx_overlay.specs.declared.entry.Entry.{Entry}
use Rattle.vx_ringio.specs.Bodies.{IsBlocks}
use Rattle.vx_ringlog.specs.Records.{Record}
use Rattle.vx_srl.specs.Calls.{LogCause, SealsStaged as LogSeals, log_no_number, sealed_log, sealing, staged_with, staging}
use Rattle.vx_srl.specs.Rings.{Finding, RingGoes, LeadsTo}
use Rattle.vx_srl.specs.Views.{Log, free_of, head_number, kept_record, most_number, blocks_needed, next_of, record_next, widths}
use Rattle.vx_srl.specs.declared.errors.SrlNo.{SrlNo}
use Rattle.vx_srl.specs.declared.kept.Kept.{Kept}
use Rattle.vx_srl.proofs.Shared_S1.{widths_append}
use Rattle.vx_rvg.specs.Commits.{Committing, Halts, HasStaged, Seals, StageIs, number_refusal, with_sealed, with_staged}
use Rattle.vx_rvg.specs.Contents.{writes_of}
use Rattle.vx_rvg.specs.Groups.{core_halted, no_of}
use Rattle.vx_rvg.specs.Holdings.{Holding, with_writes}
use Rattle.vx_rvg.specs.Stands.{Stands, StandsWith}
use Rattle.vx_rvg.specs.Views.{Core, IsSoundWith, applied_count, volume_size}
use Rattle.vx_rvg.proofs.ApplyAll.{within_few}
use Rattle.vx_rvg.proofs.ContentFacts.{heads_length}
use Rattle.vx_rvg.proofs.StagedSound.{few_applied, halted_sound, more_sound, sealed_sound, staged_same, waiting_is}
use Rattle.vx_rvg.proofs.StagedStands.{seal_moves, seal_stands, stage_has, stage_moves}
use Rattle.vx_rvg.proofs.WriteLog.{no_cause}
use Rattle.vx_rvg.proofs.WriteSound.{moved_sizes}

-- ---- what waits has room

widths_drop : (n : ℕ) (ks : List Kept) → widths (drop n ks) ≤ widths ks
widths_drop zero ks = omega arith
widths_drop (suc n) [] = omega arith
widths_drop (suc n) (k ∷ ks) = omega (arith, widths_drop n ks)

pub staged_room : (core : Core) (m : Meaning) (bytes : List ℕ) → IsSoundWith core.log.staged core m → blocks_needed bytes ≤ free_of core.log → length core.pending.entries + blocks_in bytes ≤ core.pending.capacity
staged_room core m bytes sound room =
    let size : ℕ → ℕ = volume_size core.units.vols m in
    let rest : List Kept = drop (applied_count core) core.log.held in
    omega (
      arith,
      room,
      sound.room,
      sound.waiting,
      waiting_is size rest core.log.staged,
      within_few size rest,
      within_few size core.log.staged,
      widths_drop (applied_count core) core.log.held,
      widths_append core.log.held core.log.staged,
    )

-- ---- the group that a call leaves

pub pending_is : (p q : Pending) (es : List Entry) → q.capacity ≡ p.capacity → q.entries ≡ es → q ≡ record p { entries = es }
pending_is p q es capacity entries = λ i. record { capacity = capacity i; entries = entries i }

core_is : (core : Core) (log more : Log) (pending q : Pending) → log ≡ more → pending ≡ q → record core { log = log; pending = pending } ≡ record core { log = more; pending = q }
core_is core log more pending q one two = λ i. record core { log = one i; pending = two i }

log_is : (core : Core) (log : Log) → log ≡ core.log → record core { log = log } ≡ core
log_is core log is = ap (λ (l : Log). record core { log = l }) is

pub core_kept : (held core : Core) → held ≡ core → (log : Log) → log ≡ held.log → record held { log = log } ≡ core
core_kept held core is log same = log_is held log same ∙ is

-- ---- a refusal for want of a number

over : (a b : ℕ) → ltb a b ≡ true → a < b
over a b is = grind (arith, nat_tests)

pub not_over : (a b : ℕ) → b ≤ a → ltb a b ≡ false
not_over a b le = grind (arith, nat_tests)

up_to : (a b : ℕ) → ltb a b ≡ false → b ≤ a
up_to a b is = grind (arith, nat_tests)

same_err : (a b : SrlNo) → ◌≡◌ {A = Result ℕ SrlNo} (Err a) (Err b) → a ≡ b
same_err a b is = cc

not_ok : (n : ℕ) (why : SrlNo) → ◌≡◌ {A = Result ℕ SrlNo} (Ok n) (Err why) → ⊥
not_ok n why is = cc

same_ok : (a b : ℕ) → ◌≡◌ {A = Result ℕ SrlNo} (Ok a) (Ok b) → a ≡ b
same_ok a b is = cc

refused_as : (a b : SrlNo) → a ≡ b → ◌≡◌ {A = Result ℕ No} (Err (no_of a)) (Err (no_of b))
refused_as a b is = let f : SrlNo → Result ℕ No = λ w. Err (no_of w) in ap f is

-- where a number was given, one was left
pub number_fits : (l : Log) (number : ℕ) → (most_number < next_of l → ◌≡◌ {A = Result ℕ SrlNo} (Ok number) (Err log_no_number)) → next_of l ≤ most_number
number_fits l number past = fits_by (ltb most_number (next_of l)) refl
  where
    fits_by : (t : Bool) → ltb most_number (next_of l) ≡ t → next_of l ≤ most_number
    fits_by true is = absurd (not_ok number log_no_number (past (over most_number (next_of l) is)))
    fits_by false is = up_to most_number (next_of l) is

-- ---- the staging of a write

module _ (held core : Core) (is : held ≡ core) (vol start : ℕ) (bytes : List ℕ) (m m' : Meaning) (sound : IsSoundWith core.log.staged core m) (some : 0 < core.log.header.low)
    (goes : RingGoes held.log (staging (record_next held.log vol start bytes)) m m') where
  core_goes : RingGoes core.log (staging (record_next core.log vol start bytes)) m m'
  core_goes = subst (λ (k : Core). RingGoes k.log (staging (record_next k.log vol start bytes)) m m') is goes

  few : applied_count core ≤ length core.log.held
  few = few_applied core core.log.staged m sound some

  pub staged_moves : Moves (Run core.units.srl 0 (core.log.ring + 2)) (Committing core m) m m'
  staged_moves = stage_moves core m m' sound.placed sound.log_unit few (record_next core.log vol start bytes) core_goes

  module _ (log : Log) (pending : Pending) (stages : log ≡ staged_with held.log (kept_record held.log vol start bytes)) (capacity : pending.capacity ≡ held.pending.capacity)
      (entries : pending.entries ≡ held.pending.entries ++ entries_at vol start (blocks_in bytes) bytes) where
    pub staged_made : record held { log = log; pending = pending } ≡ with_staged core vol start bytes
    staged_made =
        core_is held log (staged_with held.log (kept_record held.log vol start bytes)) pending (record held.pending { entries = held.pending.entries ++ entries_at vol start (blocks_in bytes) bytes })
        stages (pending_is held.pending pending (held.pending.entries ++ entries_at vol start (blocks_in bytes) bytes) capacity entries)
        ∙ ap (λ (k : Core). with_staged k vol start bytes) is

    pub staged_sound : start + blocks_in bytes ≤ volume_size core.units.vols m vol → IsSoundWith log.staged (record held { log = log; pending = pending }) m'
    staged_sound within =
        subst (λ (k : Core). IsSoundWith k.log.staged k m') (sym staged_made)
        (more_sound core m m' (moved_sizes (Run core.units.srl 0 (core.log.ring + 2)) (Committing core m) m m' staged_moves) sound vol start bytes within)

    pub staged_has : vol < length core.units.vols → IsBlocks bytes → start + blocks_in bytes ≤ volume_size core.units.vols m vol → LeadsTo held.log (staging (record_next held.log vol start bytes)) log m m'
        → (xs : List Write) (h : Holding) → HasStaged xs core h m → HasStaged (xs ++ record { volume = vol; start = start; bytes = bytes } ∷ []) (record held { log = log; pending = pending }) h m'
    staged_has exists blocks within leads xs h has =
        let made : log ≡ (with_staged core vol start bytes).log = ap (λ (k : Core). k.log) staged_made in
        let core_leads : LeadsTo core.log (staging (record_next core.log vol start bytes)) (with_staged core vol start bytes).log m m'
        = subst (λ (k : Core). LeadsTo k.log (staging (record_next k.log vol start bytes)) (with_staged core vol start bytes).log m m') is (subst (λ (l : Log). LeadsTo held.log (staging (record_next held.log vol start bytes)) l m m') made leads) in
        subst (λ (k : Core). HasStaged (xs ++ record { volume = vol; start = start; bytes = bytes } ∷ []) k h m') (sym staged_made)
        (stage_has core m m' sound.placed sound.log_unit few (Finding core.log (staging (record_next core.log vol start bytes)) m) core_goes xs h has vol start bytes exists blocks within core_leads)

    pub stage_done : (number : ℕ) → number ≡ next_of held.log → (IsTrue m'.down → ⊥) → next_of held.log ≤ most_number
        → StageIs (number_refusal core) core vol start bytes m m' (record held { log = log; pending = pending }) (Ok number)
    stage_done number number_is up fits =
        let next : next_of held.log ≡ next_of core.log = ap (λ (k : Core). next_of k.log) is in
        let none : ltb most_number (next_of core.log) ≡ false = not_over most_number (next_of core.log) (omega (arith, fits, next)) in
        subst (λ (t : Bool). StageIs (if t then Some (no.Limit Number most_number) else None) core vol start bytes m m' (record held { log = log; pending = pending }) (Ok number)) (sym none)
        (number_is ∙ next, staged_made, up)

  -- a stage that was refused: no number is left, or a device call failed
  module _ (log : Log) (why : SrlNo) where
    stage_failed : log ≡ held.log → DeviceCause m m' (no_of why) → IsSoundWith (core_halted (no_of why) (record held { log = log })).log.staged (core_halted (no_of why) (record held { log = log })) m'
    stage_failed same cause =
        subst (λ (k : Core). IsSoundWith (core_halted (no_of why) k).log.staged (core_halted (no_of why) k) m') (sym (log_is held log same ∙ is))
        (halted_sound core m m' (moved_sizes (Run core.units.srl 0 (core.log.ring + 2)) (Committing core m) m m' staged_moves) sound (no_of why) cause)

    module _ (refused : most_number < next_of held.log → (◌≡◌ {A = Result ℕ SrlNo} (Err why) (Err log_no_number)) × (log ≡ held.log)) (stops : next_of held.log ≤ most_number → (log ≡ held.log) × LogCause m m' why) where
      next_is : next_of held.log ≡ next_of core.log
      next_is = ap (λ (k : Core). next_of k.log) is

      unchanged : most_number < next_of core.log → core_halted (no_of why) (record held { log = log }) ≡ core
      unchanged past =
          let none : (◌≡◌ {A = Result ℕ SrlNo} (Err why) (Err log_no_number)) × (log ≡ held.log) = refused (omega (arith, past, next_is)) in
          ap (λ (w : SrlNo). core_halted (no_of w) (record held { log = log })) (same_err why log_no_number none.0) ∙ (log_is held log none.1 ∙ is)

      answers_by : (t : Bool) → ltb most_number (next_of core.log) ≡ t
          → StageIs (if t then Some (no.Limit Number most_number) else None) core vol start bytes m m' (core_halted (no_of why) (record held { log = log })) (Err (no_of why))
      answers_by true past =
          let more : most_number < next_of core.log = over most_number (next_of core.log) past in
          (refused_as why log_no_number (same_err why log_no_number (refused (omega (arith, more, next_is))).0), unchanged more)
      answers_by false fits =
          let stop : (log ≡ held.log) × LogCause m m' why = stops (omega (arith, up_to most_number (next_of core.log) fits, next_is)) in
          (ap (λ (k : Core). core_halted (no_of why) k) (log_is held log stop.0 ∙ is), no_cause m m' why stop.1)

      pub stage_stopped : (said : No) → said ≡ no_of why → (k : Core) → k ≡ core_halted said (record held { log = log }) → StageIs (number_refusal core) core vol start bytes m m' k (Err said)
      stage_stopped said said_is k k_is =
          subst (λ (x : Core). StageIs (number_refusal core) core vol start bytes m m' x (Err said)) (sym k_is)
          (subst (λ (w : No). StageIs (number_refusal core) core vol start bytes m m' (core_halted w (record held { log = log })) (Err w)) (sym said_is) (answers_by (ltb most_number (next_of core.log)) refl))

      sound_by : (t : Bool) → ltb most_number (next_of core.log) ≡ t → IsSoundWith (core_halted (no_of why) (record held { log = log })).log.staged (core_halted (no_of why) (record held { log = log })) m'
      sound_by true past =
          subst (λ (k : Core). IsSoundWith k.log.staged k m') (sym (unchanged (over most_number (next_of core.log) past)))
          (staged_same core m m' (moved_sizes (Run core.units.srl 0 (core.log.ring + 2)) (Committing core m) m m' staged_moves) sound)
      sound_by false fits =
          let stop : (log ≡ held.log) × LogCause m m' why = stops (omega (arith, up_to most_number (next_of core.log) fits, next_is)) in
          stage_failed stop.0 (no_cause m m' why stop.1)

      pub stopped_sound : (said : No) → said ≡ no_of why → (k : Core) → k ≡ core_halted said (record held { log = log }) → IsSoundWith k.log.staged k m'
      stopped_sound said said_is k k_is =
          subst (λ (x : Core). IsSoundWith x.log.staged x m') (sym (k_is ∙ ap (λ (w : No). core_halted w (record held { log = log })) said_is)) (sound_by (ltb most_number (next_of core.log)) refl)

-- what holds where a number is refused
pub where_refused : (core : Core) (P : Type 0) → (most_number < next_of core.log → P) → IsSome (number_refusal core) → P
where_refused core P to refused = refused_by (ltb most_number (next_of core.log)) refl refused
  where
    refused_by : (t : Bool) → ltb most_number (next_of core.log) ≡ t → IsSome (if t then Some (no.Limit Number most_number) else None) → P
    refused_by true past some = to (over most_number (next_of core.log) past)
    refused_by false fits some = let wrong : false ≡ true = some in cc

-- ---- the sealing

pub some_or_none : (ks : List Kept) → (ks ≡ []) ⊎ (0 < length ks)
some_or_none [] = inl refl
some_or_none (k ∷ ks) = inr (omega arith)

sealed_none : (l : Log) → l.staged ≡ [] → sealed_log l ≡ l
sealed_none l none =
    let held : l.held ++ l.staged ≡ l.held = ap (λ (ks : List Kept). l.held ++ ks) none ∙ append-nil l.held in
    λ i. record l { held = held i; staged = sym none i }

no_records : (rs : List Record) → length rs ≡ 0 → rs ≡ []
no_records [] is = refl
no_records (r ∷ rs) is = absurd (omega (arith, is))

with_none : (h : Holding) → with_writes [] h ≡ h
with_none h = λ i. record h { writes = append-nil h.writes i }

-- with nothing staged
none_stands : (core : Core) (m : Meaning) → core.log.staged ≡ [] → (xs : List Write) (h : Holding) → HasStaged xs core h m → Stands core (with_writes xs h) m
none_stands core m none xs h has =
    let count : length has.stands.log.staged ≡ 0 = heads_length has.stands.log.staged core.log.staged has.stands.ready.ring.describes.staged ∙ ap (λ (ks : List Kept). length ks) none in
    let records : has.records ≡ [] = sym has.stands.ready.idle ∙ no_records has.stands.log.staged count in
    let writes : xs ≡ [] = sym has.are ∙ ap (λ (rs : List Record). writes_of rs) records in
    subst (λ (ws : List Write). Stands core (with_writes ws h) m) (sym writes)
    (subst (λ (x : Holding). Stands core x m) (sym (with_none h)) (subst (λ (rs : List Record). StandsWith rs core h m) records has.stands))

module _ (held core : Core) (is : held ≡ core) (m m' : Meaning) (sound : IsSoundWith core.log.staged core m) (some : 0 < core.log.header.low) (goes : RingGoes held.log sealing m m') where
  sealing_goes : RingGoes core.log sealing m m'
  sealing_goes = subst (λ (k : Core). RingGoes k.log sealing m m') is goes

  few_held : applied_count core ≤ length core.log.held
  few_held = few_applied core core.log.staged m sound some

  pub sealed_moves : Moves (Run core.units.srl 0 (core.log.ring + 2)) (Committing core m) m m'
  sealed_moves = seal_moves core m m' sound.placed sound.log_unit few_held sealing_goes

  module _ (log : Log) where
    module _ (number : ℕ) (result : Result ℕ SrlNo) (result_is : result ≡ Ok number) (nothing : held.log.staged ≡ [] → (result ≡ Ok (head_number held.log)) × (log ≡ held.log) × (m' ≡ m))
        (seals : 0 < length held.log.staged → LogSeals held.log m m' log result) where
      is_sealed : (log ≡ sealed_log held.log) × (number ≡ head_number (sealed_log held.log)) × ((IsTrue m.down → ⊥) → IsTrue m'.down → ⊥)
      is_sealed = ⊎_elim
          (λ none.
          let did = nothing none in
          (did.1 ∙ sym (sealed_none held.log none), same_ok number (head_number held.log) (sym result_is ∙ did.0) ∙ ap (λ (l : Log). head_number l) (sym (sealed_none held.log none)), λ up. subst (λ (x : Meaning). IsTrue x.down → ⊥) (sym did.2) up))
          (λ more.
          let did : LogSeals held.log m m' log (Ok number) = subst (λ (r : Result ℕ SrlNo). LogSeals held.log m m' log r) result_is (seals more) in
          (did.1, did.0, λ up. did.2))
          (some_or_none held.log.staged)

      sealed_made : record held { log = log } ≡ with_sealed core
      sealed_made = ap (λ (l : Log). record held { log = l }) is_sealed.0 ∙ ap (λ (k : Core). with_sealed k) is

      pub seal_done : (IsTrue m.down → ⊥) → Seals core m m' (record held { log = log }) (Ok number)
      seal_done up = (is_sealed.1 ∙ ap (λ (k : Core). head_number (sealed_log k.log)) is, sealed_made, is_sealed.2 up)

      pub all_sound : IsSoundWith log.staged (record held { log = log }) m'
      all_sound =
          subst (λ (k : Core). IsSoundWith k.log.staged k m') (sym sealed_made)
          (sealed_sound core m m' (moved_sizes (Run core.units.srl 0 (core.log.ring + 2)) (Committing core m) m m' sealed_moves) sound some)

      pub all_stand : (0 < length held.log.staged → LeadsTo held.log sealing log m m') → (xs : List Write) (h : Holding) → HasStaged xs core h m → Stands (record held { log = log }) (with_writes xs h) m'
      all_stand leads xs h has = ⊎_elim
          (λ none.
          let did = nothing none in
          let same : record held { log = log } ≡ core = log_is held log did.1 ∙ is in
          subst (λ (k : Core). Stands k (with_writes xs h) m') (sym same)
          (subst (λ (x : Meaning). Stands core (with_writes xs h) x) (sym did.2) (none_stands core m (ap (λ (k : Core). k.log.staged) (sym is) ∙ none) xs h has)))
          (λ more.
          let core_leads : LeadsTo core.log sealing (with_sealed core).log m m'
          = subst (λ (k : Core). LeadsTo k.log sealing (with_sealed core).log m m') is (subst (λ (l : Log). LeadsTo held.log sealing l m m') (ap (λ (k : Core). k.log) sealed_made) (leads more)) in
          subst (λ (k : Core). Stands k (with_writes xs h) m') (sym sealed_made)
          (seal_stands core m m' sound.placed sound.log_unit few_held (Finding core.log sealing m) sealing_goes xs h has core_leads))
          (some_or_none held.log.staged)

    -- a seal that a device call ended
    module _ (why : SrlNo) (result : Result ℕ SrlNo) (result_is : result ≡ Err why) (nothing : held.log.staged ≡ [] → result ≡ Ok (head_number held.log))
        (seals : 0 < length held.log.staged → LogSeals held.log m m' log result) where
      ended_so : (log ≡ held.log) × LogCause m m' why
      ended_so = ⊎_elim
          (λ none. absurd (not_ok (head_number held.log) why (sym (nothing none) ∙ result_is)))
          (λ more. subst (λ (r : Result ℕ SrlNo). LogSeals held.log m m' log r) result_is (seals more))
          (some_or_none held.log.staged)

      kept_core : record held { log = log } ≡ core
      kept_core = log_is held log ended_so.0 ∙ is

      pub seal_stopped : (said : No) → said ≡ no_of why → (k : Core) → k ≡ core_halted said (record held { log = log }) → Halts core m m' k said
      seal_stopped said said_is k k_is =
          (k_is ∙ ap (λ (x : Core). core_halted said x) kept_core, subst (λ (w : No). DeviceCause m m' w) (sym said_is) (no_cause m m' why ended_so.1))

      pub seal_failed : (said : No) → said ≡ no_of why → (k : Core) → k ≡ core_halted said (record held { log = log }) → IsSoundWith k.log.staged k m'
      seal_failed said said_is k k_is =
          subst (λ (x : Core). IsSoundWith x.log.staged x m') (sym (k_is ∙ ap (λ (w : No). core_halted w (record held { log = log })) said_is ∙ ap (λ (x : Core). core_halted (no_of why) x) kept_core))
          (halted_sound core m m' (moved_sizes (Run core.units.srl 0 (core.log.ring + 2)) (Committing core m) m m' sealed_moves) sound (no_of why) (no_cause m m' why ended_so.1))

      pub not_none : core.log.staged ≡ [] → ⊥
      not_none none = not_ok (head_number held.log) why (sym (nothing (ap (λ (k : Core). k.log.staged) is ∙ none)) ∙ result_is)
