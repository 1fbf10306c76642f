-- The maps of the places that are named, one after another.
use Rattle.std.proofs.Common.{◌∙◌, true, arith, refl, sym}
use Rattle.vx_disk.proofs.Naming.{unit_since}
use Rattle.vx_disk.proofs.Spending.{spends_none, then_spends}
use Rattle.vx_dcm.specs.Places.{IsPlaceOfSlots, MapChanging}
use Rattle.vx_dcm.proofs.SlotMarks.{cause_since, lies_then, region_in, slots_bits, slots_moves, slots_next, slots_none, slots_part, slots_pass, slots_place, slots_were}
use Rattle.vx_dcm.proofs.dcm.Dcm.mark_slots.Goals.{then-has_bit+in_default, else-has_bit}
use Rattle.vx_dcm.proofs.dcm.Dcm.mark_slots.Goals as goal

pub loop-slot-init : goal.loop-slot-init
loop-slot-init g c = (
  slots_none c.args.self.now c.args.marks c.args.vol c.args.first c.args.last (g.S.Shelf.meaning c.args.shelf.now),
  λ all. refl,
  spends_none _,
  λ down. down,
)

pub has_bit-requires : goal.has_bit-requires
has_bit-requires g c = omega (arith, c.loop-slot-test.true)

pub mark_run-requires-clause-lies : goal.mark_run-requires-clause-lies
mark_run-requires-clause-lies g c = lies_then c.args.self.now c.loop-slot.self (g.S.Shelf.meaning c.args.shelf.now) (g.S.Shelf.meaning c.loop-slot.shelf) (MapChanging c.args.self.now.map (IsPlaceOfSlots c.args.self.now c.args.marks c.args.vol c.args.first c.args.last) true (g.S.Shelf.meaning c.args.shelf.now)) c.loop-slot.invariant.0.place c.loop-slot.invariant.0.moves c.requires.lies

pub mark_run-requires-clause-some : goal.mark_run-requires-clause-some
mark_run-requires-clause-some g c = c.requires.some

pub mark_run-requires-clause-exists : goal.mark_run-requires-clause-exists
mark_run-requires-clause-exists g c = region_in c.args.self.now c.loop-slot.self c.loop-slot.slot c.args.vol c.args.last c.loop-slot.invariant.0.sizes (omega (arith, c.loop-slot-test.true)) c.requires.exists

pub returns-in-Err-clause-moves : goal.returns-in-Err-clause-moves
returns-in-Err-clause-moves g c = slots_moves c.args.self.now c.args.marks c.args.vol c.args.first c.args.last c.loop-slot.slot c.loop-slot.self c.mark_run.new.self (g.S.Shelf.meaning c.args.shelf.now) (g.S.Shelf.meaning c.loop-slot.shelf) (g.S.Shelf.meaning c.mark_run.new.shelf) c.loop-slot.invariant.0 (omega (arith, c.loop-slot-test.true)) (sym c.has_bit.ensures ∙ c.if-has_bit.true) c.mark_run.ensures.place c.mark_run.ensures.sizes c.mark_run.ensures.part c.mark_run.ensures.bits c.mark_run.ensures.moves

pub returns-in-Err-clause-bits : goal.returns-in-Err-clause-bits
returns-in-Err-clause-bits g c = slots_bits c.args.self.now c.args.marks c.args.vol c.args.first c.args.last c.loop-slot.slot c.loop-slot.self c.mark_run.new.self (g.S.Shelf.meaning c.args.shelf.now) (g.S.Shelf.meaning c.loop-slot.shelf) (g.S.Shelf.meaning c.mark_run.new.shelf) c.loop-slot.invariant.0 (omega (arith, c.loop-slot-test.true)) (sym c.has_bit.ensures ∙ c.if-has_bit.true) c.mark_run.ensures.place c.mark_run.ensures.sizes c.mark_run.ensures.part c.mark_run.ensures.bits c.mark_run.ensures.moves

pub returns-in-Err-clause-part : goal.returns-in-Err-clause-part
returns-in-Err-clause-part g c = slots_part c.args.self.now c.args.marks c.args.vol c.args.first c.args.last c.loop-slot.slot c.loop-slot.self c.mark_run.new.self (g.S.Shelf.meaning c.args.shelf.now) (g.S.Shelf.meaning c.loop-slot.shelf) (g.S.Shelf.meaning c.mark_run.new.shelf) c.loop-slot.invariant.0 (omega (arith, c.loop-slot-test.true)) (sym c.has_bit.ensures ∙ c.if-has_bit.true) c.mark_run.ensures.place c.mark_run.ensures.sizes c.mark_run.ensures.part c.mark_run.ensures.bits c.mark_run.ensures.moves

pub returns-in-Err-clause-place : goal.returns-in-Err-clause-place
returns-in-Err-clause-place g c = slots_place c.args.self.now c.args.marks c.args.vol c.args.first c.args.last c.loop-slot.slot c.loop-slot.self c.mark_run.new.self (g.S.Shelf.meaning c.args.shelf.now) (g.S.Shelf.meaning c.loop-slot.shelf) (g.S.Shelf.meaning c.mark_run.new.shelf) c.loop-slot.invariant.0 (omega (arith, c.loop-slot-test.true)) (sym c.has_bit.ensures ∙ c.if-has_bit.true) c.mark_run.ensures.place c.mark_run.ensures.sizes c.mark_run.ensures.part c.mark_run.ensures.bits c.mark_run.ensures.moves

pub returns-in-Err-clause-sizes : goal.returns-in-Err-clause-sizes
returns-in-Err-clause-sizes g c = c.mark_run.ensures.sizes ∙ c.loop-slot.invariant.0.sizes

pub returns-in-Err-clause-cause : goal.returns-in-Err-clause-cause
returns-in-Err-clause-cause g c = cause_since (g.S.Shelf.meaning c.args.shelf.now) (g.S.Shelf.meaning c.loop-slot.shelf) (g.S.Shelf.meaning c.mark_run.new.shelf) c.in-Err.no c.loop-slot.invariant.0.moves.disk_faults c.in-Err.ensures.cause

pub returns-in-Err-clause-nothing : goal.returns-in-Err-clause-nothing
returns-in-Err-clause-nothing g c = λ all.
    c.mark_run.ensures.nothing (slots_were c.args.self.now c.args.marks c.args.vol c.args.first c.args.last c.loop-slot.slot c.loop-slot.self (g.S.Shelf.meaning c.args.shelf.now) (g.S.Shelf.meaning c.loop-slot.shelf) c.loop-slot.invariant.0 c.requires.exists all (omega (arith, c.loop-slot-test.true)) (sym c.has_bit.ensures ∙ c.if-has_bit.true)) ∙ c.loop-slot.invariant.1 all

pub returns-in-Err-clause-spends : goal.returns-in-Err-clause-spends
returns-in-Err-clause-spends g c = then_spends _ _ _ c.loop-slot.invariant.2 c.mark_run.ensures.spends

pub returns-in-Err-clause-blames : goal.returns-in-Err-clause-blames
returns-in-Err-clause-blames g c = unit_since (g.S.Shelf.meaning c.args.shelf.now) (g.S.Shelf.meaning c.loop-slot.shelf) c.loop-slot.self.map.unit c.args.self.now.map.unit c.in-Err.no c.loop-slot.invariant.2 c.loop-slot.invariant.0.place.unit c.in-Err.ensures.blames

pub loop-slot-preserved : goal.loop-slot-preserved
loop-slot-preserved g c = elim c.if-has_bit.branch [
  | then-has_bit+in_default w ↦ rw (w.self-is, w.shelf-is) (
    slots_next c.args.self.now c.args.marks c.args.vol c.args.first c.args.last c.loop-slot.slot c.loop-slot.self w.mark_run.new.self (g.S.Shelf.meaning c.args.shelf.now) (g.S.Shelf.meaning c.loop-slot.shelf) (g.S.Shelf.meaning w.mark_run.new.shelf) c.loop-slot.invariant.0 (omega (arith, c.loop-slot-test.true)) (sym c.has_bit.ensures ∙ w.if-has_bit.true) w.mark_run.ensures.place w.mark_run.ensures.sizes w.mark_run.ensures.part w.mark_run.ensures.bits w.mark_run.ensures.moves c.requires.exists w.in_default.ensures.marked w.in_default.ensures.stands,
    λ all. w.mark_run.ensures.nothing (slots_were c.args.self.now c.args.marks c.args.vol c.args.first c.args.last c.loop-slot.slot c.loop-slot.self (g.S.Shelf.meaning c.args.shelf.now) (g.S.Shelf.meaning c.loop-slot.shelf) c.loop-slot.invariant.0 c.requires.exists all (omega (arith, c.loop-slot-test.true)) (sym c.has_bit.ensures ∙ w.if-has_bit.true)) ∙ c.loop-slot.invariant.1 all,
    then_spends _ _ _ c.loop-slot.invariant.2 w.mark_run.ensures.spends,
    λ down. c.loop-slot.invariant.3 (w.in_default.ensures.unit down),
  )
  | else-has_bit w ↦ rw (w.self-is, w.shelf-is) (
    slots_pass c.args.self.now c.args.marks c.args.vol c.args.first c.args.last c.loop-slot.slot c.loop-slot.self (g.S.Shelf.meaning c.args.shelf.now) (g.S.Shelf.meaning c.loop-slot.shelf) c.loop-slot.invariant.0 (sym c.has_bit.ensures ∙ w.if-has_bit.false),
    c.loop-slot.invariant.1,
    c.loop-slot.invariant.2,
    c.loop-slot.invariant.3,
  )
]

pub returns-clause-moves : goal.returns-clause-moves
returns-clause-moves g c = c.loop-slot.invariant.0.moves

pub returns-clause-bits : goal.returns-clause-bits
returns-clause-bits g c = c.loop-slot.invariant.0.bits

pub returns-clause-stands : goal.returns-clause-stands
returns-clause-stands g c = c.loop-slot.invariant.0.stands

pub returns-clause-marked : goal.returns-clause-marked
returns-clause-marked g c = record { each = λ k low named. c.loop-slot.invariant.0.all k (omega (arith, low, c.loop-slot-test.false)) named }

pub returns-clause-part : goal.returns-clause-part
returns-clause-part g c = c.loop-slot.invariant.0.part

pub returns-clause-place : goal.returns-clause-place
returns-clause-place g c = c.loop-slot.invariant.0.place

pub returns-clause-sizes : goal.returns-clause-sizes
returns-clause-sizes g c = c.loop-slot.invariant.0.sizes

pub returns-clause-up : goal.returns-clause-up
returns-clause-up g c = c.loop-slot.invariant.3

pub returns-clause-nothing : goal.returns-clause-nothing
returns-clause-nothing g c = c.loop-slot.invariant.1

pub returns-clause-spends : goal.returns-clause-spends
returns-clause-spends g c = c.loop-slot.invariant.2
