-- Each clause is its theorem.
use Rattle.std.proofs.Common.{◌≡◌, true}
use Rattle.vx_settling.proofs.Ends.{first_same, free_stored, settle_done, settle_replies, settle_stored}
use Rattle.vx_settling.proofs.ends_laws.settles_at_the_head.Goals as goal

pub returns : goal.returns
returns c = record {
  first = first_same;
  replies = settle_replies;
  done = λ told d last new p s origin runs. settle_done d last p s origin runs (told ≡ true) new;
  free = free_stored;
  stored = λ d last p s good may runs. settle_stored d last p s may.sender runs good may;
}
