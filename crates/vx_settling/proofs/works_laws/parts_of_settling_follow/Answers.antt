-- Each clause is its theorem.
use Rattle.std.proofs.Common.{◌≡◌, true}
use Rattle.vx_settling.proofs.Working.{short_here, short_more, short_then, stop_more, stop_then, works_then}
use Rattle.vx_settling.proofs.works_laws.parts_of_settling_follow.Goals as goal

pub returns : goal.returns
returns c = record {
  works = λ t. works_then (t ≡ true);
  stop_more = λ t p s d xs ys. stop_more (t ≡ true) p s d d xs ys;
  stop_behind = λ t. stop_then (t ≡ true);
  short_more = λ t. short_more (t ≡ true);
  short_behind = λ t. short_then (t ≡ true);
  short_here = λ t. short_here (t ≡ true);
}
