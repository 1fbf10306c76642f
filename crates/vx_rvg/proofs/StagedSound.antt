-- A group in a group commit stays sound over the calls of it.
use Rattle.std.proofs.Common.{◌≡◌, ℕ, ◌+◌, ◌<◌, ◌≤◌, Bool, true, List, [], ◌∷◌, ◌++◌, length, drop, IsTrue, refl, sym, ◌∙◌, ap, arith, length-append}
use Rattle.std.specs.Prelude.{if◌then◌else◌, leb}
use Rattle.std.proofs.lemmas.Bool.Decides.{nat_tests}
use Rattle.std.proofs.lemmas.List.{drop-append-le}
use Rattle.vx_model.specs.Content.{blocks_in}
use Rattle.vx_model.specs.declared.no.No.{No}
use Rattle.vx_model.specs.declared.no.No.TheVariants as no
use Rattle.vx_disk.specs.Causes.{DeviceCause}
use Rattle.vx_disk.specs.Shelf.{Meaning}
use Rattle.vx_overlay.specs.Writes.{entries_at}
use Rattle.vx_overlay.proofs.WriteLemmas.{entries_at_length}
use Rattle.vx_srl.specs.Views.{kept_record}
use Rattle.vx_srl.specs.declared.kept.Kept.{Kept}
use Rattle.vx_rvg.specs.Commits.{with_sealed, with_staged}
use Rattle.vx_rvg.specs.Groups.{core_halted}
use Rattle.vx_rvg.specs.Views.{Core, IsSoundWith, applied_count, blocks_waiting, blocks_within, volume_size}
use Rattle.vx_rvg.proofs.WriteSound.{SameSizes, lies_same, loaded_same, placed_same, volume_same, was_up, within_append, within_same}

-- ---- how many blocks wait

pub waiting_is : (size : ℕ → ℕ) (ks ss : List Kept) → blocks_waiting size ks ss ≡ blocks_within size ks + blocks_within size ss
waiting_is size ks [] = omega arith
waiting_is size ks (s ∷ ss) = refl

waiting_same : (one two : ℕ → ℕ) → ((v : ℕ) → two v ≡ one v) → (ks ss : List Kept) → blocks_waiting two ks ss ≡ blocks_waiting one ks ss
waiting_same one two same ks ss =
    omega (arith, waiting_is one ks ss, waiting_is two ks ss, within_same one two same ks, within_same one two same ss)

fits : (a b : ℕ) → a ≤ b → leb a b ≡ true
fits a b le = grind (arith, nat_tests)

-- the records that are not applied, before those behind them
pub few_applied : (core : Core) (staged : List Kept) (m : Meaning) → IsSoundWith staged core m → 0 < core.log.header.low → applied_count core ≤ length core.log.held
few_applied core staged m sound some = omega (arith, sound.known, sound.low, some)

-- a call that leaves a group as it is, whatever is staged where it works
pub kept_with : (ks : List Kept) (core : Core) (m m' : Meaning) → SameSizes m m' → (IsTrue m.down → IsTrue m'.down) → IsSoundWith ks core m → IsSoundWith ks core m'
kept_with ks core m m' same falls sound = record {
  placed = placed_same core.units m m' same sound.placed;
  maps = loaded_same core.units core.maps m m' same sound.maps;
  log_unit = sound.log_unit;
  lies = lies_same core.log.unit core.log.ring m m' same sound.lies;
  idle = λ running up. sound.idle running (was_up m.down m'.down falls up);
  low = sound.low;
  known = sound.known;
  room = sound.room;
  waiting = sound.waiting ∙ sym (waiting_same (volume_size core.units.vols m) (volume_size core.units.vols m') (volume_same core.units.vols m m' same) (drop (applied_count core) core.log.held) ks);
}

-- ---- the calls

module _ (core : Core) (m m' : Meaning) (same : SameSizes m m') (sound : IsSoundWith core.log.staged core m) where
  -- a call that leaves it as it is
  pub staged_same : IsSoundWith core.log.staged core m'
  staged_same = record {
    placed = placed_same core.units m m' same sound.placed;
    maps = loaded_same core.units core.maps m m' same sound.maps;
    log_unit = sound.log_unit;
    lies = lies_same core.log.unit core.log.ring m m' same sound.lies;
    idle = λ none up. refl;
    low = sound.low;
    known = sound.known;
    room = sound.room;
    waiting = sound.waiting ∙ sym (waiting_same (volume_size core.units.vols m) (volume_size core.units.vols m') (volume_same core.units.vols m m' same) (drop (applied_count core) core.log.held) core.log.staged);
  }

  -- a call that a device call ended
  pub halted_sound : (why : No) → DeviceCause m m' why → IsSoundWith (core_halted why core).log.staged (core_halted why core) m'
  halted_sound (no.Device disk) cause =
      let s : IsSoundWith core.log.staged core m' = staged_same in
      record { placed = s.placed; maps = s.maps; log_unit = s.log_unit; lies = s.lies; idle = λ none up. refl; low = s.low; known = s.known; room = s.room; waiting = s.waiting }
  halted_sound no.Down cause = staged_same
  halted_sound other cause = absurd cause

  -- a write more is staged
  pub more_sound : (vol start : ℕ) (bytes : List ℕ) → start + blocks_in bytes ≤ volume_size core.units.vols m vol
      → IsSoundWith (with_staged core vol start bytes).log.staged (with_staged core vol start bytes) m'
  more_sound vol start bytes within =
      let size : ℕ → ℕ = volume_size core.units.vols m in
      let size' : ℕ → ℕ = volume_size core.units.vols m' in
      let own : Kept = kept_record core.log vol start bytes in
      let rest : List Kept = drop (applied_count core) core.log.held in
      let here : (if leb (start + blocks_in bytes) (size vol) then blocks_in bytes else 0) ≡ blocks_in bytes = ap (λ (w : Bool). if w then blocks_in bytes else 0) (fits (start + blocks_in bytes) (size vol) within) in
      let one : blocks_within size (own ∷ []) ≡ blocks_in bytes = omega (arith, here) in
      record {
        placed = placed_same core.units m m' same sound.placed;
        maps = loaded_same core.units core.maps m m' same sound.maps;
        log_unit = sound.log_unit;
        lies = lies_same core.log.unit core.log.ring m m' same sound.lies;
        idle = λ none up. refl;
        low = sound.low;
        known = sound.known;
        room = sound.room;
        waiting =
            omega (
              arith,
              length-append core.pending.entries (entries_at vol start (blocks_in bytes) bytes),
              entries_at_length vol start (blocks_in bytes) bytes,
              sound.waiting,
              waiting_is size rest core.log.staged,
              within_append size core.log.staged (own ∷ []),
              one,
              waiting_is size rest (core.log.staged ++ own ∷ []),
              waiting_same size size' (volume_same core.units.vols m m' same) rest (core.log.staged ++ own ∷ []),
            );
      }

  -- all that is staged is sealed
  pub sealed_sound : 0 < core.log.header.low → IsSoundWith (with_sealed core).log.staged (with_sealed core) m'
  sealed_sound some =
      let size : ℕ → ℕ = volume_size core.units.vols m in
      let size' : ℕ → ℕ = volume_size core.units.vols m' in
      let n : ℕ = applied_count core in
      let rest : drop n (core.log.held ++ core.log.staged) ≡ drop n core.log.held ++ core.log.staged = drop-append-le n core.log.held core.log.staged (few_applied core core.log.staged m sound some) in
      record {
        placed = placed_same core.units m m' same sound.placed;
        maps = loaded_same core.units core.maps m m' same sound.maps;
        log_unit = sound.log_unit;
        lies = lies_same core.log.unit core.log.ring m m' same sound.lies;
        idle = λ none up. refl;
        low = sound.low;
        known = omega (arith, sound.known, length-append core.log.held core.log.staged);
        room = sound.room;
        waiting =
            omega (
              arith,
              sound.waiting,
              waiting_is size (drop n core.log.held) core.log.staged,
              within_append size (drop n core.log.held) core.log.staged,
              ap (λ (ks : List Kept). blocks_within size ks) rest,
              within_same size size' (volume_same core.units.vols m m' same) (drop n (core.log.held ++ core.log.staged)),
            );
      }
