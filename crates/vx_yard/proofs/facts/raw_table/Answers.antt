-- `raw_table`: what stays true in its loop over `k`.
use Rattle.std.proofs.Common.{◌∙◌, ◌≡◌, ◌+◌, ap, arith, ℕ, suc, ◌++◌, ◌∷◌, []}
use Rattle.std.specs.Prelude.{map}
use Rattle.vx_history.specs.Steps.{raw_volumes}
use Rattle.vx_order.specs.declared.facts.VolumeFacts.{VolumeFacts}
use Rattle.vx_events.specs.Facts.{volume_fact}
use Rattle.vx_yard.proofs.RawTable.{raw_table_more}
use Rattle.vx_yard.proofs.facts.raw_table.Goals as goal

pub loop-k-preserved : goal.loop-k-preserved
loop-k-preserved c =
    let next : suc c.loop-k.k ≡ c.loop-k.k + 1 = omega arith in
    c.in_ok-push.ensures
    ∙ ap (λ (v : VolumeFacts). c.loop-k.table ++ v ∷ []) c.raw_volume.ensures
    ∙ raw_table_more c.loop-k.k c.args.blocks c.loop-k.table (omega arith) c.loop-k.invariant
    ∙ ap (λ (n : ℕ). map volume_fact (raw_volumes 1 n c.args.blocks)) next
