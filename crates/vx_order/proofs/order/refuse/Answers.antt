-- `refuse`: its result.
use Rattle.std.proofs.Common.{◌≡◌, ◌∙◌, ap, List, ◌∷◌, refl}
use Rattle.std.specs.Prelude.{Option}
use Rattle.vx_model.specs.declared.no.No.{No}
use Rattle.vx_order.specs.Order.{line_refusal}
use Rattle.vx_order.specs.Tests.{first_said_no}
use Rattle.vx_order.proofs.order.refuse.Goals as goal

-- The first tests are the same, and so are the others.
then : {t u : Option No} {ts us : List (Option No)} → t ≡ u → ts ≡ us → (t ∷ ts) ≡ (u ∷ us)
then e f = cc

pub returns : goal.returns
unfolding line_refusal
returns c =
    c.first_of.ensures
    ∙ ap first_said_no
    (then (rw (c.refuse_unknown_site.ensures, c.find_facts-first.ensures, c.find_first.ensures, c.find_first-3.ensures) refl)
    (then (rw (c.refuse_unknown_site-2.ensures, c.find_facts-second.ensures, c.find_second.ensures, c.find_second-3.ensures) refl)
    (then (rw (c.refuse_not_up.ensures, c.find_facts-first.ensures, c.find_first.ensures, c.find_facts-second.ensures, c.find_second.ensures, c.find_need.ensures) refl)
    (then (rw (c.refuse_halted.ensures, c.find_facts-first.ensures, c.find_first.ensures, c.find_facts-second.ensures, c.find_second.ensures, c.find_halt.ensures) refl)
    (then (rw (c.refuse_line_role.ensures, c.find_facts-first.ensures, c.find_first.ensures) refl)
    (then (rw (c.refuse_call_role.ensures, c.find_facts-first.ensures, c.find_first.ensures, c.find_span-span.ensures) refl)
    (then (rw (c.refuse_link_role.ensures, c.find_facts-first.ensures, c.find_first.ensures, c.find_facts-second.ensures, c.find_second.ensures, c.find_number-here.ensures, c.find_first-2.ensures, c.find_number-there.ensures, c.find_second-2.ensures, c.find_ask-ask.ensures) refl)
    (then (rw (c.refuse_line_unknown.ensures, c.find_facts-first.ensures, c.find_first.ensures) refl)
    (then (rw (c.refuse_unknown_volume.ensures, c.find_facts-first.ensures, c.find_first.ensures, c.find_span-span.ensures) refl)
    (then (rw (c.refuse_unknown_link.ensures, c.find_facts-first.ensures, c.find_first.ensures, c.find_facts-second.ensures, c.find_second.ensures, c.find_number-there.ensures, c.find_second-2.ensures, c.find_ask-ask.ensures) refl)
    (then (rw (c.refuse_taken.ensures, c.find_facts-first.ensures, c.find_first.ensures) refl)
    (then (rw (c.refuse_linked.ensures, c.find_facts-first.ensures, c.find_first.ensures, c.find_facts-second.ensures, c.find_second.ensures, c.find_number-there.ensures, c.find_second-2.ensures, c.find_ask-ask.ensures) refl)
    (then (rw (c.refuse_limit.ensures, c.find_facts-first.ensures, c.find_first.ensures) refl)
    (then (rw (c.refuse_many_links.ensures, c.find_facts-first.ensures, c.find_first.ensures, c.find_ask-ask.ensures) refl)
    (then (rw (c.refuse_size.ensures, c.find_facts-first.ensures, c.find_first.ensures) refl)
    (then (rw (c.refuse_unlike.ensures, c.find_facts-first.ensures, c.find_first.ensures, c.find_facts-second.ensures, c.find_second.ensures, c.find_ask-ask.ensures) refl)
    (then (rw (c.refuse_call_size.ensures, c.find_facts-first.ensures, c.find_first.ensures, c.find_span-span.ensures) refl)
    (then (rw (c.refuse_range.ensures, c.find_facts-first.ensures, c.find_first.ensures, c.find_span-span.ensures) refl)
    (then (rw (c.refuse_cut_off.ensures, c.find_facts-first.ensures, c.find_first.ensures, c.find_facts-second.ensures, c.find_second.ensures, c.find_number-there.ensures, c.find_second-2.ensures, c.find_ask-ask.ensures) refl)
    (then (rw (c.refuse_down_link.ensures, c.find_facts-first.ensures, c.find_first.ensures, c.find_span-span.ensures) refl)
    (then (rw (c.refuse_paused.ensures, c.find_facts-first.ensures, c.find_first.ensures, c.find_number-there.ensures, c.find_second-2.ensures, c.find_ask-ask.ensures) refl)
    (then (rw (c.refuse_replaying.ensures, c.find_facts-first.ensures, c.find_first.ensures, c.find_facts-second.ensures, c.find_second.ensures, c.find_number-there.ensures, c.find_second-2.ensures, c.find_ask-ask.ensures) refl)
    (then (rw (c.refuse_full_log.ensures, c.find_facts-first.ensures, c.find_first.ensures, c.find_span-span.ensures) refl)
    (then (rw (c.refuse_unconfirmed.ensures, c.find_facts-first.ensures, c.find_first.ensures, c.find_ask-ask.ensures) refl)
    refl))))))))))))))))))))))))
