-- `any_order`: its result.
use Rattle.vx_packet.proofs.TakingLemmas.{fresh, none-bad, step-kept, whole-comes, step-whole}
use Rattle.vx_packet.proofs.laws.any_order.Goals as goal

pub returns : goal.returns
returns c = record {
  fresh = fresh;
  none_bad = none-bad;
  whole = whole-comes;
  message = λ e m old new k can typed holds below is. step-whole e m old new k can typed holds below is;
  kept = λ e m old new k can holds below is. step-kept e m old new k can below holds is;
}
