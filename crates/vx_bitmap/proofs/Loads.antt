-- A map that was read stands where a crash leaves one value at most in each of its blocks.
use Rattle.std.proofs.Common.{◌≡◌, ◌∙◌, ℕ, ◌+◌, ◌-◌, ◌*◌, ◌/◌, ◌<◌, ◌≤◌, Bool, true, false, List, length, take, drop, ⊎_elim, refl, ap, arith}
use Rattle.vx_model.specs.Content.{block_of}
use Rattle.vx_disk.specs.Moves.{Run, Settled}
use Rattle.vx_disk.specs.Shelf.{Goes, Lawful, Meaning, Nothing, Read, piece}
use Rattle.vx_bitmap.specs.Maps.{Lies, Map, MapOn, map_block_count}

module _ (old new : Meaning) (map : Map) (lawful : Lawful old) (read : Read old map.unit map.first map.bytes) (goes : Goes Nothing old new) (settled : Settled old (Run map.unit map.first (map_block_count map))) where
  piece_is : (k : ℕ) → piece map.first map.bytes (map.first + k) ≡ block_of map.bytes k
  piece_is k = ap (λ (n : ℕ). take 512 (drop n map.bytes)) (let e : 512 * (map.first + k - map.first) ≡ 512 * k = omega arith in e)

  only_by : (t : Bool) → old.tells ≡ t → (k : ℕ) → k < map_block_count map → (v : List ℕ) → old.leaves map.unit (map.first + k) v → v ≡ block_of map.bytes k
  only_by true tells k low v left =
      settled.each map.unit (map.first + k) v (piece map.first map.bytes (map.first + k)) (record { there = refl; first = omega arith; last = omega (arith, low) }) left
      (lawful.shown map.unit (map.first + k) (piece map.first map.bytes (map.first + k)) (read.each tells (map.first + k) (record { there = refl; first = omega arith; last = omega (arith, low) })))
      ∙ piece_is k
  only_by false tells k low v left = absurd (lawful.none tells map.unit (map.first + k) v left)

  pub load_stands : MapOn map new
  load_stands = record {
    each = λ k low. record {
      only = λ v left. ⊎_elim (λ was. only_by old.tells refl k low v was) (λ none. absurd none) (goes.leaves map.unit (map.first + k) v left);
    };
  }

-- and lies where it was read
pub load_lies : (old new : Meaning) (unit first : ℕ) (was bytes : List ℕ) → unit < old.units → first + length was / 512 ≤ old.size unit → length bytes ≡ length was → new.units ≡ old.units → new.size unit ≡ old.size unit
    → Lies (record { unit = unit; first = first; bytes = bytes }) new
load_lies old new unit first was bytes exists within long units size = record { exists = omega (arith, exists, units); within = omega (arith, within, long, size) }
