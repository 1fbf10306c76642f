-- `gives_what_was_sent`: clauses count, given and dropped.
use Rattle.std.proofs.Common.{◌+◌, ap, ◌∙◌}
use Rattle.vx_net.specs.Flights.{Flying, kept_packet}
use Rattle.vx_net.proofs.Sent.{all-sent, given-after, dropped-after}
use Rattle.vx_net.proofs.laws.gives_what_was_sent.Goals as goal

pub returns-clause-count : goal.returns-clause-count
returns-clause-count c packets few = ap (λ (f : Flying). f.count) (all-sent packets few)

pub returns-clause-given : goal.returns-clause-given
returns-clause-given c packets k few kept = ap (λ (f : Flying). kept_packet f (k + 1)) (all-sent packets few) ∙ given-after packets k kept

pub returns-clause-dropped : goal.returns-clause-dropped
returns-clause-dropped c packets k few gone = ap (λ (f : Flying). kept_packet f k) (all-sent packets few) ∙ dropped-after packets k gone
