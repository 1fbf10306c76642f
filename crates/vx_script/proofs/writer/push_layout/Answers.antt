-- `push_layout`: its result.
use Rattle.std.proofs.Common.{append_assoc, append-nil}
use Rattle.vx_script.proofs.writer.push_layout.Goals as goal

pub returns-in_ok-push_number-in-Stripe-2 : goal.returns-in_ok-push_number-in-Stripe-2
returns-in_ok-push_number-in-Stripe-2 c =
    rw (c.in-Stripe.is, c.in_ok-push_number-in-Stripe-2.ensures, c.in_ok-push_number-in-Stripe.ensures, c.in_ok-push_word-in-Stripe.ensures) (simp (append_assoc, append-nil))
