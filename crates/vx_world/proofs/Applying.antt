-- Records that a receiver applies.
use Rattle.std.proofs.Common.{◌≡◌, ◌∙◌, ℕ, ◌-◌, min, Bool, false, length, sym, ap}
use Rattle.std.specs.Prelude.{eqb, if◌then◌else◌}
use Rattle.vx_history.specs.World.{World, Node, DataAck}
use Rattle.vx_history.specs.Sends.{sending, packets_of}
use Rattle.vx_history.specs.LinkForms.{plain_receiver}
use Rattle.vx_history.specs.Receiving.{Received, marked_by, applied_to, with_applied}
use Rattle.vx_history.specs.Refusals.{says}
use Rattle.vx_history.specs.Events.{applied, acknowledged, applied_by, apply_at}
use Rattle.vx_history.specs.World.{with_node}
use Rattle.vx_model.specs.declared.site.Mark.{Mark}
use Rattle.vx_history.specs.declared.receiver.RState.{RState}
use Rattle.vx_history.specs.declared.receiver.RAction.TheVariants.{Nothing as DoesNothing}
use Rattle.vx_history.specs.declared.event.Said.TheVariants.{DoneAt}

-- records wait at the receiver n, of which so many are applied: up to this number, and with this mark
pub record Due (count number : ℕ) (mark : Mark) (n : Node) : Type 0 where
  pub some : eqb (min count (length n.log - n.safe)) 0 ≡ false
  pub number_is : number ≡ applied_to (length n.log) (length n.log - n.safe - count)
  pub mark_is : mark ≡ (marked_by (record (plain_receiver n) { waiting = length n.log - n.safe - count }) number).mark

pub apply_due : (w v : World) (s count number : ℕ) (mark : Mark) → Due count number mark (w.nodes s) → v ≡ acknowledged w s (applied (w.nodes s) number mark)
    → says v (DoneAt number) ≡ apply_at w s count
apply_due w v s count number mark due is =
    let n : Node = w.nodes s in
    let left : ℕ = length n.log - n.safe - count in
    let r : RState = plain_receiver n in
    ap (λ (x : World). says x (DoneAt number)) is
    ∙ ap (λ (m : Mark). says (acknowledged w s (applied n number m)) (DoneAt number)) due.mark_is
    ∙ ap (λ (k : ℕ). says (acknowledged w s (applied n k (marked_by (record r { waiting = left }) k).mark)) (DoneAt k)) due.number_is
    ∙ sym (ap (λ (b : Bool). let x : Received = if b then record { state = r; action = DoesNothing } else with_applied r left in applied_by w s x.state x.action) due.some)

pub acked : (w mid v : World) (s number : ℕ) (mark : Mark) (m : Node) → m ≡ w.nodes s → mid ≡ with_node w s (applied (w.nodes s) number mark)
    → v ≡ sending mid (packets_of s m.fed_by m.line (DataAck number)) → v ≡ acknowledged w s (applied (w.nodes s) number mark)
acked w mid v s number mark m same changed sent =
    sent
    ∙ ap (λ (x : World). sending x (packets_of s m.fed_by m.line (DataAck number))) changed
    ∙ ap (λ (n : Node). sending (with_node w s (applied (w.nodes s) number mark)) (packets_of s n.fed_by n.line (DataAck number))) same
