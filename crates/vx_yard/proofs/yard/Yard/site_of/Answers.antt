-- The site that a line names.
use Rattle.std.proofs.Common.{◌≡◌, ◌∙◌, ap, sym, arith, List}
use Rattle.std.specs.Prelude.{Some, None}
use Rattle.vx_order.specs.declared.facts.SiteFacts.{SiteFacts}
use Rattle.vx_events.specs.Facts.{seat_of}
use Rattle.vx_events.proofs.Places.{seat_within}
use Rattle.vx_yard.proofs.Seats.{some_none}
use Rattle.vx_yard.proofs.yard.Yard.site_of.Goals as goal

pub returns-clause-seat : goal.returns-clause-seat
returns-clause-seat g c = ap (λ (fs : List SiteFacts). seat_of fs c.args.name.now) (sym c.deref.ensures.value) ∙ sym c.find_seat.ensures ∙ c.in-Some.is

pub returns-clause-fact : goal.returns-clause-fact
returns-clause-fact g c =
    let is : seat_of c.args.self.now.facts.items c.args.name.now ≡ Some c.in-Some.site = ap (λ (fs : List SiteFacts). seat_of fs c.args.name.now) (sym c.deref.ensures.value) ∙ sym c.find_seat.ensures ∙ c.in-Some.is in
    seat_within c.args.self.now.facts.items c.args.name.now c.in-Some.site is

pub returns-clause-disk_set : goal.returns-clause-disk_set
returns-clause-disk_set g c =
    let is : seat_of c.args.self.now.facts.items c.args.name.now ≡ Some c.in-Some.site = ap (λ (fs : List SiteFacts). seat_of fs c.args.name.now) (sym c.deref.ensures.value) ∙ sym c.find_seat.ensures ∙ c.in-Some.is in
    omega (arith, seat_within c.args.self.now.facts.items c.args.name.now c.in-Some.site is, c.requires.kept.few, c.requires.kept.eight)

pub returns-clause-small : goal.returns-clause-small
returns-clause-small g c =
    let is : seat_of c.args.self.now.facts.items c.args.name.now ≡ Some c.in-Some.site = ap (λ (fs : List SiteFacts). seat_of fs c.args.name.now) (sym c.deref.ensures.value) ∙ sym c.find_seat.ensures ∙ c.in-Some.is in
    omega (arith, seat_within c.args.self.now.facts.items c.args.name.now c.in-Some.site is, c.requires.kept.few)

pub unreachable-requires : goal.unreachable-requires
unreachable-requires g c =
    let none : seat_of c.args.self.now.facts.items c.args.name.now ≡ None = ap (λ (fs : List SiteFacts). seat_of fs c.args.name.now) (sym c.deref.ensures.value) ∙ sym c.find_seat.ensures ∙ c.in-None.is in
    some_none (seat_of c.args.self.now.facts.items c.args.name.now) c.requires.named none
