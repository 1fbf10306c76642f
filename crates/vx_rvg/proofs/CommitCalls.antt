-- A group commit as its callers see it: where it begins and ends, and what it counts.
use Rattle.std.proofs.Common.{◌≡◌, ℕ, zero, suc, ◌+◌, ◌-◌, ◌≤◌, List, [], ◌∷◌, length, take, drop, Option, Some, None, Result, Ok, Err, OnOk, IsFalse, refl, sym, ◌∙◌, ap, subst, arith}
use Rattle.std.proofs.lemmas.List.{take_all}
use Rattle.vx_model.specs.declared.no.No.{No}
use Rattle.vx_model.specs.declared.no.No.TheVariants as no
use Rattle.vx_disk.specs.Causes.{DeviceCause}
use Rattle.vx_disk.specs.Shelf.{Meaning}
use Rattle.vx_overlay.specs.Pending.{Pending}
use Rattle.vx_overlay.specs.declared.entry.Entry.{Entry}
use Rattle.vx_srl.specs.declared.kept.Kept.{Kept}
use Rattle.vx_rvg.specs.Commits.{Halts, SealIs, Seals, StageIs, Stages, with_oldest, with_sealed, without_staged}
use Rattle.vx_rvg.specs.Groups.{core_halted}
use Rattle.vx_rvg.specs.Views.{Core, IsSound, IsSoundWith, applied_count, blocks_within, volume_size}
use Rattle.vx_rvg.proofs.StagedCalls.{pending_is}
use Rattle.vx_rvg.proofs.StagedSound.{waiting_is}
use Rattle.vx_rvg.proofs.WriteSound.{SameSizes, volume_same, within_same}

-- as many blocks wait of what is part of the log
abbrev pub IsCounted : ℕ → Core → Meaning → Type 0
IsCounted w c m = w ≡ blocks_within (volume_size c.units.vols m) (drop (applied_count c) c.log.held)

-- ---- the end

take_long : (k : ℕ) (xs : List Entry) → k ≤ length xs → length (take k xs) ≡ k
take_long zero xs le = refl
take_long (suc k) [] le = absurd (omega (arith, le))
take_long (suc k) (x ∷ xs) le = ap suc (take_long k xs (omega (arith, le)))

module _ (held core : Core) (is : held ≡ core) (m : Meaning) (w : ℕ) (sound : IsSoundWith core.log.staged core m) (counted : IsCounted w core m) where
  waits_more : length core.pending.entries ≡ w + blocks_within (volume_size core.units.vols m) core.log.staged
  waits_more =
      omega (arith, sound.waiting, counted, waiting_is (volume_size core.units.vols m) (drop (applied_count core) core.log.held) core.log.staged)

  pub oldest_fit : w ≤ length held.pending.entries
  oldest_fit = omega (arith, waits_more, ap (λ (k : Core). length k.pending.entries) is)

  module _ (pending : Pending) (entries : pending.entries ≡ take w held.pending.entries) (capacity : pending.capacity ≡ held.pending.capacity) where
    oldest_is : record held { pending = pending } ≡ with_oldest w core
    oldest_is =
        ap (λ (p : Pending). record held { pending = p }) (pending_is held.pending pending (take w held.pending.entries) capacity entries) ∙ ap (λ (k : Core). with_oldest w k) is

    pub end_is : record held { pending = pending } ≡ without_staged (volume_size core.units.vols m) core
    end_is =
        let count : w ≡ length core.pending.entries - blocks_within (volume_size core.units.vols m) core.log.staged = omega (arith, waits_more) in
        oldest_is ∙ ap (λ (k : ℕ). with_oldest k core) count

    pub end_same : core.log.staged ≡ [] → record held { pending = pending } ≡ core
    end_same none =
        let all : take w core.pending.entries ≡ core.pending.entries
        = take_all w core.pending.entries (omega (arith, waits_more, ap (λ (ks : List Kept). blocks_within (volume_size core.units.vols m) ks) none)) in
        oldest_is ∙ ap (λ (es : List Entry). record core { pending = record core.pending { entries = es } }) all

    pub end_sound : (core.halted ≡ None → IsFalse m.down → core.log.staged ≡ []) → IsSound (record held { pending = pending }) m
    end_sound sealed =
        subst (λ (k : Core). IsSound k m) (sym oldest_is)
        (record {
          placed = sound.placed;
          maps = sound.maps;
          log_unit = sound.log_unit;
          lies = sound.lies;
          idle = sealed;
          low = sound.low;
          known = sound.known;
          room = sound.room;
          waiting = take_long w core.pending.entries (omega (arith, waits_more)) ∙ counted;
        })

-- ---- what is counted over a call

pub counted_same : (w : ℕ) (core : Core) (m m' : Meaning) → SameSizes m m' → IsCounted w core m → IsCounted w core m'
counted_same w core m m' same counted =
    counted ∙ sym (within_same (volume_size core.units.vols m) (volume_size core.units.vols m') (volume_same core.units.vols m m' same) (drop (applied_count core) core.log.held))

counted_halted : (w : ℕ) (core : Core) (m m' : Meaning) (why : No) → DeviceCause m m' why → IsCounted w core m' → IsCounted w (core_halted why core) m'
counted_halted w core m m' (no.Device disk) cause counted = counted
counted_halted w core m m' no.Down cause counted = counted
counted_halted w core m m' other cause counted = absurd cause

module _ (w : ℕ) (core : Core) (m m' : Meaning) (counted : IsCounted w core m) (same : SameSizes m m') (c' : Core) where
  here : IsCounted w core m'
  here = counted_same w core m m' same counted

  kept_counted : c' ≡ core → IsCounted w c' m'
  kept_counted is = subst (λ (k : Core). IsCounted w k m') (sym is) here

  halts_counted : (why : No) → Halts core m m' c' why → IsCounted w c' m'
  halts_counted why halts = subst (λ (k : Core). IsCounted w k m') (sym halts.0) (counted_halted w core m m' why halts.1 here)

  module _ (vol start : ℕ) (bytes : List ℕ) where
    stages_counted : (result : Result ℕ No) → Stages core vol start bytes m m' c' result → IsCounted w c' m'
    stages_counted (Ok number) did = subst (λ (k : Core). IsCounted w k m') (sym did.1) here
    stages_counted (Err why) did = halts_counted why did

    pub stage_counted : (o : Option No) (result : Result ℕ No) → StageIs o core vol start bytes m m' c' result → IsCounted w c' m'
    stage_counted (Some why) result did = kept_counted did.1
    stage_counted None result did = stages_counted result did

  pub seal_counted : (o : Option No) (why : No) → SealIs o core m m' c' (Err why) → IsCounted w c' m'
  seal_counted (Some other) why did = kept_counted did.1
  seal_counted None why did = halts_counted why did

pub none_counted : (core : Core) (m : Meaning) → IsSoundWith core.log.staged core m → core.log.staged ≡ [] → IsCounted (length core.pending.entries) core m
none_counted core m sound none =
    omega (arith, sound.waiting, waiting_is (volume_size core.units.vols m) (drop (applied_count core) core.log.held) core.log.staged, ap (λ (ks : List Kept). blocks_within (volume_size core.units.vols m) ks) none)

-- ---- what a seal answers

pub sealed_is : (core : Core) (m m' : Meaning) (c' : Core) (result : Result ℕ No) → Seals core m m' c' result → OnOk result (c' ≡ with_sealed core)
sealed_is core m m' c' (Ok number) did = did.1
sealed_is core m m' c' (Err why) did = tt
