-- The packets of a link that is settled, as they are delivered one by one.
use Rattle.std.proofs.Common.{◌≡◌, ◌∙◌, ◌++◌, ◌+◌, ◌<◌, ℕ, suc, List, drop, length, ap, arith, append_assoc, subst, sym}
use Rattle.std.proofs.lemmas.List.{length-append}
use Rattle.vx_disk.specs.declared.shelf.Shelf.{Ghosts}
use Rattle.vx_history.specs.Doubts.{Doubted}
use Rattle.vx_history.specs.Settling.{deliver_between}
use Rattle.vx_history.specs.World.{Packet}
use Rattle.vx_history.specs.declared.event.Event.{Event}
use Rattle.vx_node.specs.Handing.{handing_over}
use Rattle.vx_node.specs.Settling.{OnFor, SettlesFor, WentFor}
use Rattle.vx_node.specs.declared.going.Went.{Went}
use Rattle.vx_node.specs.declared.going.Went.TheVariants.{On}
use Rattle.vx_yard.specs.declared.yard.Yard.{Yard}
use Rattle.vx_yard.proofs.Carrying.{sent_count}
use Rattle.vx_node.proofs.Handing.{handed_all, handed_more, handed_rest, handed_settle, handed_to}
use Rattle.vx_node.proofs.WentThen.{went_as, went_more, went_then}
use Rattle.vx_settling.specs.Burnt.{noted_as}

module _ {R : Type 0} {g : Ghosts R} (first second : List ℕ) (a b : ℕ) where
  -- how many packets were sent
  pub sent_many : (d : Doubted) (y : Yard R g) → SettlesFor first second a b d y → y.flight.count ≡ length d.world.packets
  sent_many d y serves = sent_count (noted_as serves.noted.fuses d) y serves.noted.carries

  module _ (before n : ℕ) (d : Doubted) (old mid new : Yard R g) (one : OnFor first second a b d (handed_to a b before n d.world.packets) old mid) (low : before + n < length d.world.packets) where
    -- there are as many still
    more_low : before + n < length one.next.world.packets
    more_low = let many = ap (λ (ps : List Packet). length ps) one.works.moves.sent ∙ length-append d.world.packets one.works.moves.more in omega (arith, low, many)

    next_of : (r : Went) → ((m : Doubted) → SettlesFor first second a b m mid → before + n < length m.world.packets → WentFor first second a b m (handing_over a b (before + n) m.world.packets) mid new r)
        → WentFor first second a b one.next (handing_over a b (before + n) d.world.packets) mid new r
    next_of r call =
        went_as first second a b one.next (handing_over a b (before + n) one.next.world.packets) (handing_over a b (before + n) d.world.packets) mid new r
        (λ _. handed_more a b (before + n) d.world.packets one.next.world.packets one.works.moves.more one.works.moves.sent low) (call one.next one.serves more_low)

    -- the next of them is done
    pub sent_more : (next : ℕ) → next ≡ suc n → ((m : Doubted) → SettlesFor first second a b m mid → before + n < length m.world.packets → WentFor first second a b m (handing_over a b (before + n) m.world.packets) mid new On)
        → OnFor first second a b d (handed_to a b before next d.world.packets) old new
    sent_more next is call =
        subst (λ (k : ℕ). OnFor first second a b d (handed_to a b before k d.world.packets) old new) (sym is)
        (went_then first second a b d (handed_to a b before n d.world.packets) (handing_over a b (before + n) d.world.packets) old mid new On (handed_settle a b before n d.world.packets) one (next_of On call))

    -- it ends them
    pub sent_ends : (r : Went) → (r ≡ On → ⊥) → ((m : Doubted) → SettlesFor first second a b m mid → before + n < length m.world.packets → WentFor first second a b m (handing_over a b (before + n) m.world.packets) mid new r)
        → WentFor first second a b d (deliver_between a b before (drop before d.world.packets)) old new r
    sent_ends r not call =
        let ps : List Packet = d.world.packets in
        let xs : List Event = handed_to a b before n ps in
        let x : List Event = handing_over a b (before + n) ps in
        let ys : List Event = deliver_between a b (before + suc n) (drop (before + suc n) ps) in
        went_as first second a b d (xs ++ (x ++ ys)) (deliver_between a b before (drop before ps)) old new r
        (λ _. sym (append_assoc xs x ys) ∙ sym (handed_rest a b before (suc n) ps (omega (arith, low))))
        (went_then first second a b d xs (x ++ ys) old mid new r (handed_settle a b before n ps) one (went_more first second a b one.next x ys mid new r not (next_of r call)))

  -- all are delivered
  pub sent_all : (before n : ℕ) (d : Doubted) (old new : Yard R g) → OnFor first second a b d (handed_to a b before n d.world.packets) old new → before + n ≡ length d.world.packets
      → OnFor first second a b d (deliver_between a b before (drop before d.world.packets)) old new
  sent_all before n d old new one all =
      went_as first second a b d (handed_to a b before n d.world.packets) (deliver_between a b before (drop before d.world.packets)) old new On (λ _. handed_all a b before n d.world.packets all) one
