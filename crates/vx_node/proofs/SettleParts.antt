-- The sites of a link that is settled within its yard, and the calls of one event at them.
use Rattle.std.proofs.Common.{◌≡◌, ◌<◌, ⊎_elim, ℕ, List, length, sym, subst, true, arith}
use Rattle.std.specs.Prelude.{IfOk, Result, Some}
use Rattle.vx_model.specs.declared.errors.OutOfMemory.{OutOfMemory}
use Rattle.vx_history.specs.Doubts.{Doubted}
use Rattle.vx_history.specs.Events.{packet_at}
use Rattle.vx_history.specs.Settling.{is_between}
use Rattle.vx_history.specs.World.{Packet}
use Rattle.vx_disk.specs.declared.shelf.Shelf.{Ghosts}
use Rattle.vx_events.specs.declared.said.Said.{Said}
use Rattle.vx_events.specs.declared.said.Said.TheVariants.{Done}
use Rattle.vx_settling.proofs.Named.{between_two}
use Rattle.vx_settling.specs.Between.{IsSent}
use Rattle.vx_settling.specs.Burnt.{noted_as}
use Rattle.vx_diskset.specs.Asked.{LeavesFuse}
use Rattle.vx_diskset.specs.Burning.{NoMore}
use Rattle.vx_yard.specs.BothSites.{BothSites, SettleBurns}
use Rattle.vx_yard.specs.OfSites.{DeliverCalls, OfSite}
use Rattle.vx_yard.specs.declared.yard.Yard.{Yard}
use Rattle.vx_yard.proofs.SettleCalls.{packet_burns, settle_first, settle_second, settle_still}
use Rattle.vx_link_lines.proofs.DeliverCalls.{if_ok_then}
use Rattle.vx_node.specs.Settling.{SettlesFor}

module _ {R : Type 0} {g : Ghosts R} (first second : List ℕ) (a b : ℕ) (d : Doubted) where
  pub apart_at : (y : Yard R g) → SettlesFor first second a b d y → a ≡ b → ⊥
  apart_at y serves same = serves.may.can.apart (sym same)

  module _ (old new : Yard R g) (serves : SettlesFor first second a b d old) where
    here : a < length old.disk_sets.items
    here = omega (arith, serves.may.can.first, serves.noted.stands.disk_sets.few, serves.noted.stands.disk_sets.eight)

    there : b < length old.disk_sets.items
    there = omega (arith, serves.may.can.second, serves.noted.stands.disk_sets.few, serves.noted.stands.disk_sets.eight)

    -- an event that touches no disk
    pub still_at : new.disk_sets.items ≡ old.disk_sets.items → BothSites (SettleBurns Done) a b old new
    still_at same = settle_still a b (apart_at old serves) old new here there same

    pub done_at : (r : Result Said OutOfMemory) → IfOk r (λ said. said ≡ Done) → new.disk_sets.items ≡ old.disk_sets.items → IfOk r (λ said. BothSites (SettleBurns said) a b old new)
    done_at r done same =
        if_ok_then (λ said. said ≡ Done) (λ said. BothSites (SettleBurns said) a b old new) r
        (λ said is. subst (λ (x : Said). BothSites (SettleBurns x) a b old new) (sym is) (still_at same)) done

    -- one at the first site, or at the second
    pub first_at : (s : ℕ) (r : Result Said OutOfMemory) → s ≡ a → IfOk r (λ said. OfSite (LeavesFuse NoMore said) s old new) → IfOk r (λ said. BothSites (SettleBurns said) a b old new)
    first_at s r is calls =
        if_ok_then (λ said. OfSite (LeavesFuse NoMore said) s old new) (λ said. BothSites (SettleBurns said) a b old new) r
        (λ said of. settle_first a b (apart_at old serves) old new here there said (subst (λ (k : ℕ). OfSite (LeavesFuse NoMore said) k old new) is of)) calls

    pub second_at : (s : ℕ) (r : Result Said OutOfMemory) → s ≡ b → IfOk r (λ said. OfSite (LeavesFuse NoMore said) s old new) → IfOk r (λ said. BothSites (SettleBurns said) a b old new)
    second_at s r is calls =
        if_ok_then (λ said. OfSite (LeavesFuse NoMore said) s old new) (λ said. BothSites (SettleBurns said) a b old new) r
        (λ said of. settle_second a b (apart_at old serves) old new here there said (subst (λ (k : ℕ). OfSite (LeavesFuse NoMore said) k old new) is of)) calls

    -- a packet between them
    pub packet_at_one : (number : ℕ) (q : Packet) (r : Result Said OutOfMemory) → packet_at d.world.packets number ≡ Some q → IsSent a b q → is_between a b q ≡ true
        → IfOk r (λ said. DeliverCalls (noted_as serves.noted.fuses d).world number (packet_at d.world.packets number) said old new) → IfOk r (λ said. BothSites (SettleBurns said) a b old new)
    packet_at_one number q r at sent between calls =
        let w = (noted_as serves.noted.fuses d).world in
        let by : q.target < w.sites → IfOk r (λ said. OfSite (LeavesFuse NoMore said) q.target old new) =
        λ below. if_ok_then (λ said. DeliverCalls w number (packet_at w.packets number) said old new) (λ said. OfSite (LeavesFuse NoMore said) q.target old new) r (λ said of. packet_burns w number q said old new at below of) calls in
        ⊎_elim
        (λ update. second_at q.target r update.1 (by (omega (arith, serves.may.can.second, update.1))))
        (λ answer. first_at q.target r answer.1 (by (omega (arith, serves.may.can.first, answer.1))))
        (between_two a b q serves.may.can.apart sent between)
