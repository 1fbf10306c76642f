-- `new`: the invariant of what it hands on.
use Rattle.std.proofs.Common.{ap, length, ℕ, List}
use Rattle.vx_history.proofs.DataListLemmas.{over_blank}
use Rattle.vx_history.specs.declared.volumes.DataVolume.{DataVolume}
use Rattle.vx_history.proofs.volumes.DataVolumes.new.Goals as goal

pub invariant_of-result : goal.invariant_of-result
invariant_of-result c =
    over_blank _ _ _ (ap (λ (name : List ℕ). let v : DataVolume = record { place = 0; name = name; blocks = 0 } in v) c.new.ensures) c.requires.few (ap length c.copy_from_slice.ensures.after)
