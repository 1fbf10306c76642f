-- Each clause is part of its theorem.
use Rattle.vx_world.proofs.Settles.{greeted_meets, turn_raises, settling_ends}
use Rattle.vx_world.proofs.Quiet.{none_left}
use Rattle.vx_world.proofs.laws.settles.Goals as goal

pub returns : goal.returns
returns c = record {
  meets = λ w p s sound may. (greeted_meets w p s sound may).0;
  raises = λ w p s sound met below. (turn_raises w p s sound met below).1;
  meets_again = λ w p s sound met below. (turn_raises w p s sound met below).0;
  ends = λ w p s sound may. (settling_ends w p s sound may).0;
  none_left = none_left;
  head = λ w p s sound may. (settling_ends w p s sound may).1;
}
