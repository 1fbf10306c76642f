-- Each clause is its theorem.
use Rattle.vx_effects.proofs.TargetAnswers.{answer_effect, deaf_stays, ignored_effect, source_stays, target_stays}
use Rattle.vx_effects.proofs.packet_laws.answers_change_their_target.Goals as goal

pub returns : goal.returns
returns c = record { answer = answer_effect; ignored = ignored_effect; deaf = deaf_stays; target = target_stays; source = source_stays }
