-- A group stays sound over a call on its log.
use Rattle.std.proofs.Common.{◌≡◌, ℕ, ◌+◌, ◌*◌, ◌<◌, ◌≤◌, Bool, true, false, List, [], ◌∷◌, ◌++◌, length, drop, map, Option, Some, None, IsTrue, IsFalse, refl, sym, ◌∙◌, ap, subst, arith}
use Rattle.std.specs.Prelude.{if◌then◌else◌, leb, ltb}
use Rattle.std.proofs.lemmas.Option.{none-some}
use Rattle.std.proofs.lemmas.List.Sums.{sum_by-cons}
use Rattle.vx_disk.specs.Maps.{maps_of}
use Rattle.vx_model.specs.Sizes.{map_blocks}
use Rattle.vx_model.specs.declared.limits.TheConstants.{BLOCK, LINK_PLACES}
use Rattle.vx_model.specs.declared.no.No.{No}
use Rattle.vx_model.specs.declared.no.No.TheVariants as no
use Rattle.vx_model.specs.declared.units.Units.{Units}
use Rattle.vx_srlfmt.specs.declared.header.Header.{Header}
use Rattle.vx_disk.specs.Moves.{Blocks, Moves, Says}
use Rattle.vx_disk.specs.Shelf.{Meaning}
use Rattle.vx_dcm.specs.Places.{DcmLoaded, Maps}
use Rattle.vx_ringio.specs.Tracks.{RingLies}
use Rattle.vx_disk.specs.Causes.{DeviceCause}
use Rattle.vx_srl.specs.Views.{Log}
use Rattle.vx_srl.specs.declared.kept.Kept.{Kept}
use Rattle.vx_rvg.specs.Groups.{Ended, GroupFails, core_halted}
use Rattle.vx_rvg.specs.Logging.{LogEnded}
use Rattle.vx_rvg.specs.Views.{Core, IsSound, UnitsPlaced, applied_count, blocks_within, unit_of, volume_size}

-- ---- sizes that a call leaves

-- units and sizes are as they were
pub record SameSizes (m m' : Meaning) : Type 0 where
  pub units : m'.units ≡ m.units
  pub size : (u : ℕ) → m'.size u ≡ m.size u

pub moved_sizes : (mine : Blocks) (P : Says) (m m' : Meaning) → Moves mine P m m' → SameSizes m m'
moved_sizes mine P m m' moves = record { units = moves.units; size = moves.size }

pub maps_same : (m m' : Meaning) → ((u : ℕ) → m'.size u ≡ m.size u) → (us : List ℕ) → maps_of us m' ≡ maps_of us m
maps_same m m' same [] = refl
maps_same m m' same (u ∷ us) =
    let here : map_blocks (m'.size u) ≡ map_blocks (m.size u) = ap (λ (n : ℕ). map_blocks n) (same u) in
    let front = sum_by-cons (λ (v : ℕ). map_blocks (m'.size v)) u us in
    let front' = sum_by-cons (λ (v : ℕ). map_blocks (m.size v)) u us in
    omega (arith, front, front', here, maps_same m m' same us)

sizes_as : (m m' : Meaning) → ((u : ℕ) → m'.size u ≡ m.size u) → (us : List ℕ) → map m.size us ≡ map m'.size us
sizes_as m m' same [] = refl
sizes_as m m' same (u ∷ us) = ap (λ (n : ℕ). n ∷ map m.size us) (sym (same u)) ∙ ap (λ (ns : List ℕ). m'.size u ∷ ns) (sizes_as m m' same us)

pub maps_fit_as : (units : Units) (m m' : Meaning) → ((u : ℕ) → m'.size u ≡ m.size u) → LINK_PLACES * maps_of units.vols m ≤ m.size units.maps → LINK_PLACES * maps_of units.vols m' ≤ m'.size units.maps
maps_fit_as units m m' same fit = let maps = maps_same m m' same units.vols in omega (arith, maps, same units.maps, fit)

-- the change maps are as many as they were
pub loaded_same : (units : Units) (d : Maps) (m m' : Meaning) → SameSizes m m' → DcmLoaded units m d → DcmLoaded units m' d
loaded_same units d m m' same loaded = record {
  unit = loaded.unit;
  first = loaded.first;
  long = loaded.long ∙ ap (λ (n : ℕ). BLOCK * (LINK_PLACES * n)) (sym (maps_same m m' same.size units.vols));
  sizes = loaded.sizes ∙ sizes_as m m' same.size units.vols;
}

pub placed_same : (units : Units) (m m' : Meaning) → SameSizes m m' → UnitsPlaced units m → UnitsPlaced units m'
placed_same units m m' same placed = record {
  log_exists = omega (arith, same.units, placed.log_exists);
  maps_exist = omega (arith, same.units, placed.maps_exist);
  exist = λ v low. omega (arith, same.units, placed.exist v low);
  apart = placed.apart;
  maps_apart = placed.maps_apart;
  maps_aside = placed.maps_aside;
  distinct = placed.distinct;
  maps_fit = maps_fit_as units m m' same.size placed.maps_fit;
}

pub lies_same : (unit ring : ℕ) (m m' : Meaning) → SameSizes m m' → RingLies unit ring m → RingLies unit ring m'
lies_same unit ring m m' same lies = record { exists = omega (arith, same.units, lies.exists); within = omega (arith, same.size unit, lies.within) }

pub volume_same : (vols : List ℕ) (m m' : Meaning) → SameSizes m m' → (v : ℕ) → volume_size vols m' v ≡ volume_size vols m v
volume_same vols m m' same v = ap (λ (n : ℕ). if ltb v (length vols) then n else 0) (same.size (unit_of vols v))

pub within_same : (one two : ℕ → ℕ) → ((v : ℕ) → two v ≡ one v) → (ks : List Kept) → blocks_within two ks ≡ blocks_within one ks
within_same one two same [] = refl
within_same one two same (k ∷ ks) =
    let here : (if leb (k.head.block + k.head.count) (two k.head.vol) then k.head.count else 0) ≡ (if leb (k.head.block + k.head.count) (one k.head.vol) then k.head.count else 0)
    = ap (λ (n : ℕ). if leb (k.head.block + k.head.count) n then k.head.count else 0) (same k.head.vol) in
    omega (arith, here, within_same one two same ks)

pub within_append : (size : ℕ → ℕ) (ks ls : List Kept) → blocks_within size (ks ++ ls) ≡ blocks_within size ks + blocks_within size ls
within_append size [] ls = omega arith
within_append size (k ∷ ks) ls = omega (arith, within_append size ks ls)

-- ---- behind a call that failed

same_log : (u r : ℕ) (h : Header) (hs st : List Kept) (l : Log) → u ≡ l.unit → r ≡ l.ring → h ≡ l.header → hs ≡ l.held
    → record l { staged = st } ≡ record { unit = u; ring = r; header = h; held = hs; staged = st }
same_log u r h hs st l unit ring header held = rw (unit, ring, header, held) refl

pub ended_log : (l l' : Log) → LogEnded l l' → record l { staged = l'.staged } ≡ l'
ended_log l l' ended = same_log l'.unit l'.ring l'.header l'.held l'.staged l ended.unit ended.ring ended.header ended.held

staged_sound : (core : Core) (staged : List Kept) (halted : Option ℕ) (m m' : Meaning) → SameSizes m m' → IsSound core m → (halted ≡ None → IsFalse m'.down → staged ≡ [])
    → IsSound (record core { log = record core.log { staged = staged }; halted = halted }) m'
staged_sound core staged halted m m' same sound idle = record {
  placed = placed_same core.units m m' same sound.placed;
  maps = loaded_same core.units core.maps m m' same sound.maps;
  log_unit = sound.log_unit;
  lies = lies_same core.log.unit core.log.ring m m' same sound.lies;
  idle = idle;
  low = sound.low;
  known = sound.known;
  room = sound.room;
  waiting = sound.waiting ∙ sym (within_same (volume_size core.units.vols m) (volume_size core.units.vols m') (volume_same core.units.vols m m' same) (drop (applied_count core) core.log.held));
}

pub ended_sound : (core : Core) (l' : Log) (halted : Option ℕ) (m m' : Meaning) → SameSizes m m' → IsSound core m → LogEnded core.log l'
    → (halted ≡ None → IsFalse m'.down → l'.staged ≡ []) → IsSound (record core { log = l'; halted = halted }) m'
ended_sound core l' halted m m' same sound ended idle =
    subst (λ (l : Log). IsSound (record core { log = l; halted = halted }) m') (ended_log core.log l' ended) (staged_sound core l'.staged halted m m' same sound idle)

pub core_ended : (core : Core) (l' : Log) (halted : Option ℕ) → LogEnded core.log l' → Ended core halted (record core { log = l'; halted = halted })
core_ended core l' halted ended = record { units = refl; ring = ended.ring; header = ended.header; held = ended.held; maps = refl; pending = refl; applied = refl; halted_is = refl }

up_or_down : (down : Bool) → IsTrue down → IsFalse down → ⊥
up_or_down true is not = let wrong : true ≡ false = not in cc
up_or_down false is not = let wrong : false ≡ true = is in cc

-- a call on the log that a device call ended
pub log_failed : (core : Core) (l' : Log) (m m' : Meaning) (why : No) → LogEnded core.log l' → DeviceCause m m' why → GroupFails core m m' (core_halted why (record core { log = l' })) why
log_failed core l' m m' (no.Device disk) ended cause = (core_ended core l' (Some disk) ended, cause)
log_failed core l' m m' no.Down ended cause = (core_ended core l' core.halted ended, cause)
log_failed core l' m m' other ended cause = absurd cause

pub was_up : (before after : Bool) → (IsTrue before → IsTrue after) → IsFalse after → IsFalse before
was_up false after falls not = refl
was_up true after falls not = let wrong : false ≡ true = sym not ∙ falls refl in cc

-- a group that a call leaves as it is, on units of the same sizes
pub kept_sound : (core : Core) (m m' : Meaning) → SameSizes m m' → (IsTrue m.down → IsTrue m'.down) → IsSound core m → IsSound core m'
kept_sound core m m' same falls sound =
    ended_sound core core.log core.halted m m' same sound (record { unit = refl; ring = refl; header = refl; held = refl })
    (λ running up. sound.idle running (was_up m.down m'.down falls up))

pub failed_sound : (core : Core) (l' : Log) (m m' : Meaning) (why : No) → SameSizes m m' → IsSound core m → LogEnded core.log l' → DeviceCause m m' why → IsSound (core_halted why (record core { log = l' })) m'
failed_sound core l' m m' (no.Device disk) same sound ended cause =
    ended_sound core l' (Some disk) m m' same sound ended (λ none up. absurd (none-some disk (sym none)))
failed_sound core l' m m' no.Down same sound ended cause =
    ended_sound core l' core.halted m m' same sound ended (λ none up. absurd (up_or_down m'.down cause up))
failed_sound core l' m m' other same sound ended cause = absurd cause

-- the records that are not applied
pub applied_few : (core : Core) (m : Meaning) → IsSound core m → 0 < core.log.header.low → applied_count core ≤ length core.log.held
applied_few core m sound some = omega (arith, sound.known, sound.low, some)
