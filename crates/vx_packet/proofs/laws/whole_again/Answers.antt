-- `whole_again`: its result.
use Rattle.vx_packet.proofs.CarriedLemmas.{came-fresh, came-after, whole-again}
use Rattle.vx_packet.proofs.laws.whole_again.Goals as goal

pub returns : goal.returns
returns c = record {
  fresh = came-fresh;
  stays = came-after;
  again = λ old new bytes p m came is taken same. whole-again old new bytes p m came is taken same;
}
