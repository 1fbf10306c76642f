-- Data volumes as the program keeps them in an array: they stand first, and blank ones behind them.
use Rattle.std.specs.Prelude.{◌≡◌, ℕ, ◌-◌, List, [], ◌∷◌, ◌++◌, length, replicate, take}
use Rattle.std.proofs.Common.{◌≤◌, ap, sym, arith}
use Rattle.std.proofs.lemmas.List.{length-take}
use Rattle.vx_model.specs.declared.limits.TheConstants.{MOST_DATA_VOLUMES}
use Rattle.vx_history.specs.declared.volumes.DataVolume.{DataVolume}
use Rattle.vx_history.specs.declared.volumes.DataVolumes.TheInside.{Inside}

-- what stands behind the last of them
abbrev pub blank_data : DataVolume
blank_data = record { place = 0; name = 45 ∷ []; blocks = 0 }

pub record IsDataList (count : ℕ) (volumes : List DataVolume) : Type 0 where
  pub few : count ≤ MOST_DATA_VOLUMES
  pub whole : length volumes ≡ MOST_DATA_VOLUMES
  pub rest : volumes ≡ take count volumes ++ replicate (MOST_DATA_VOLUMES - count) blank_data

abbrev pub filled_up : List DataVolume → List DataVolume
filled_up vs = vs ++ replicate (MOST_DATA_VOLUMES - length vs) blank_data

abbrev held_in : List DataVolume → ℕ → Inside
held_in volumes count = record { volumes = volumes; count = count }

pub filled-front : (a : Inside) → IsDataList a.count a.volumes → held_in (filled_up (take a.count a.volumes)) (length (take a.count a.volumes)) ≡ a
filled-front a h =
    let few : a.count ≤ length a.volumes = omega (arith, h.few, h.whole) in
    let e : length (take a.count a.volumes) ≡ a.count = omega (arith, length-take a.count a.volumes) in
    rw e (ap (λ (vs : List DataVolume). held_in vs a.count) (sym h.rest))
