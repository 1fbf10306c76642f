-- Flags of which none is set.
use Rattle.std.proofs.Common.{◌≡◌, ◌⊎◌, inl, inr, ℕ, ◌<◌, ◌≤◌, Bool, false, arith, replicate}
use Rattle.std.proofs.lemmas.Bool.{cases_lt}
use Rattle.std.proofs.lemmas.List.{get_or-replicate, get_or_past, length-replicate}
use Rattle.vx_logimport.specs.Rests.{rests}
use Rattle.vx_model.specs.declared.limits.TheConstants.{MOST_VOLUMES}

pub none_rests : (v : ℕ) → rests (replicate MOST_VOLUMES false) v ≡ false
none_rests v = by (cases_lt v MOST_VOLUMES)
  where
    by : (v < MOST_VOLUMES) ⊎ (MOST_VOLUMES ≤ v) → rests (replicate MOST_VOLUMES false) v ≡ false
    by (inl low) = get_or-replicate {A = Bool} MOST_VOLUMES v false false low
    by (inr high) = get_or_past (replicate MOST_VOLUMES false) v false (let long = length-replicate {A = Bool} MOST_VOLUMES false in omega (arith, long, high))
