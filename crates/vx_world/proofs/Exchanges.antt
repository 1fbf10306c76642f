-- What is sent behind a change of a link or of a site.
use Rattle.std.proofs.Common.{◌≡◌, ◌∙◌, ℕ, Bool, true, List, [], sym, ap, append-nil}
use Rattle.vx_model.specs.Content.{Write}
use Rattle.vx_history.specs.World.{Node, Packet, World, with_node}
use Rattle.vx_history.specs.Refusals.{says}
use Rattle.vx_history.specs.Sends.{with_link, sending, sent_by}
use Rattle.vx_history.specs.LinkForms.{with_plain}
use Rattle.vx_history.specs.Events.{link_step, link_event, greeting_back, with_write, from_memory, taken_if}
use Rattle.vx_history.specs.declared.event.Said.TheVariants.{Taken}
use Rattle.vx_history.specs.declared.sender.Action.{Action}
use Rattle.vx_history.specs.declared.sender.SEvent.{SEvent}
use Rattle.vx_history.specs.declared.sender.SEvent.TheVariants.{Connect}
use Rattle.vx_history.proofs.Updates.{at_place}

-- nothing is sent
pub sending_none : (w : World) → sending w [] ≡ w
sending_none w = ap (λ (ps : List Packet). let v : World = record w { packets = ps } in v) (append-nil w.packets)

-- a link is connected, and the other end greets
pub connected : (w mid new : World) (p s : ℕ) → mid ≡ with_link w p s (with_plain (w.links p s) (link_step w p s Connect).link)
    → new ≡ sending mid (greeting_back mid p s)
    → new ≡ sending (link_event w p s Connect) (greeting_back w p s)
connected w mid new p s moved sent =
    let moves : World = with_link w p s (with_plain (w.links p s) (link_step w p s Connect).link) in
    sent
    ∙ ap (λ (v : World). sending v (greeting_back v p s)) moved
    ∙ ap (λ (v : World). sending v (greeting_back w p s)) (sym (sending_none moves))

-- a link changes by its rule, and what the rule asks for is sent
pub moved_and_sent : (w mid new : World) (p s : ℕ) (e : SEvent) (a : Action) → mid ≡ with_link w p s (with_plain (w.links p s) (link_step w p s e).link)
    → a ≡ (link_step w p s e).action
    → new ≡ sending mid (sent_by a p s (mid.nodes p)) → new ≡ link_event w p s e
moved_and_sent w mid new p s e a moved asked sent =
    let moves : World = with_link w p s (with_plain (w.links p s) (link_step w p s e).link) in
    sent
    ∙ ap (λ (v : World). sending v (sent_by a p s (v.nodes p))) moved
    ∙ ap (λ (b : Action). sending moves (sent_by b p s (w.nodes p))) asked

-- an update is taken and acknowledged
pub taken_and_told : (w mid new : World) (p : Packet) (x : Write) (whole : Bool) (number : ℕ) → whole ≡ true
    → mid ≡ with_node w p.target (with_write (w.nodes p.target) p.source x)
    → new ≡ from_memory mid (mid.nodes p.target) p number → says new Taken ≡ taken_if whole w p x number
taken_and_told w mid new p x whole number is put told =
    let puts : World = with_node w p.target (with_write (w.nodes p.target) p.source x) in
    ap (λ (v : World). says v Taken)
    (told
    ∙ ap (λ (v : World). from_memory v (v.nodes p.target) p number) put
    ∙ ap (λ (n : Node). from_memory puts n p number) (at_place w.nodes p.target (with_write (w.nodes p.target) p.source x)))
    ∙ ap (λ (b : Bool). taken_if b w p x number) (sym is)
