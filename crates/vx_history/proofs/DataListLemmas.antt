-- Data volumes put over the front of blank ones.
use Rattle.std.proofs.Common.{◌≡◌, ◌≤◌, ℕ, List, ◌++◌, length, drop, replicate, arith, length-append, subst, sym}
use Rattle.std.proofs.lemmas.List.{take_at, drop-replicate, length-replicate}
use Rattle.vx_model.specs.declared.limits.TheConstants.{MOST_DATA_VOLUMES}
use Rattle.vx_history.specs.DataLists.{IsDataList, blank_data}
use Rattle.vx_history.specs.declared.volumes.DataVolume.{DataVolume}

pub over_blank : (n : ℕ) (xs : List DataVolume) (blank : DataVolume) → blank ≡ blank_data → n ≤ MOST_DATA_VOLUMES → length xs ≡ n
    → IsDataList n (xs ++ drop n (replicate MOST_DATA_VOLUMES blank))
over_blank n xs blank is few e =
    subst (λ (b : DataVolume). IsDataList n (xs ++ drop n (replicate MOST_DATA_VOLUMES b))) (sym is)
    (record {
      few = few;
      whole = rw (length-append, drop-replicate, length-replicate) (omega (arith, few, e));
      rest = rw (take_at xs (drop n (replicate MOST_DATA_VOLUMES blank_data)) n e, drop-replicate);
    })
