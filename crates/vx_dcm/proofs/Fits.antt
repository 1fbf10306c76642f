-- Units whose maps fit, one after another.
use Rattle.std.proofs.Common.{◌≡◌, ⊎_elim, ℕ, ◌+◌, ◌<◌, List, [], ◌∷◌, map, refl, sym, subst, arith}
use Rattle.std.specs.Prelude.{slice_index}
use Rattle.std.proofs.lemmas.Bool.{cases_eq}
use Rattle.std.proofs.lemmas.List.Sums.{sum_by-cons}
use Rattle.vx_disk.specs.Maps.{maps_of}
use Rattle.vx_model.specs.Sizes.{map_blocks}
use Rattle.vx_disk.specs.Shelf.{Meaning}
use Rattle.vx_dcm.specs.Places.{maps_in}

-- the first n units exist
pub record ExistBelow (n : ℕ) (vols : List ℕ) (m : Meaning) : Type 0 where
  pub each : (v : ℕ) → v < n → slice_index vols v < m.units

pub exist_next : (n : ℕ) (vols : List ℕ) (m : Meaning) → ExistBelow n vols m → slice_index vols n < m.units → ExistBelow (n + 1) vols m
exist_next n vols m below lt = record {
  each = λ v low. ⊎_elim (λ (same : v ≡ n). subst (λ (k : ℕ). slice_index vols k < m.units) (sym same) lt) (λ (other : v ≡ n → ⊥). below.each v (omega (arith, low, other))) (cases_eq v n);
}

sums : (a b c d e : ℕ) → a ≡ c + d → b ≡ c + e → d ≡ e → a ≡ b
sums a b c d e one two is = omega (arith, one, two, is)

-- the maps by the sizes of the volumes are those by the volumes
pub maps_same : (m : Meaning) (vols : List ℕ) → maps_in (map m.size vols) ≡ maps_of vols m
maps_same m [] = refl
maps_same m (u ∷ us) =
    sums (maps_in (map m.size (u ∷ us))) (maps_of (u ∷ us) m) (map_blocks (m.size u)) (maps_in (map m.size us)) (maps_of us m)
    (sum_by-cons (λ n. map_blocks n) (m.size u) (map m.size us)) (sum_by-cons (λ v. map_blocks (m.size v)) u us) (maps_same m us)
