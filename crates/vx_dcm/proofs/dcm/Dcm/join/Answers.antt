-- The regions that bytes have, run by run.
use Rattle.std.proofs.Common.{◌∙◌, ◌<◌, ℕ, true, List, arith, refl, subst}
use Rattle.std.specs.Prelude.{slice_index}
use Rattle.vx_model.specs.Sizes.{regions_of}
use Rattle.vx_disk.proofs.Naming.{unit_since}
use Rattle.vx_disk.proofs.Spending.{spends_none, then_spends}
use Rattle.vx_dcm.specs.Joined.{IsPlaceInBytes}
use Rattle.vx_dcm.specs.Places.{MapChanging, mapped_size}
use Rattle.vx_dcm.proofs.JoinMarks.{bits_inside, joined_bits, joined_moves, joined_next, joined_none, joined_part, joined_pass, joined_place, joined_region, joined_were}
use Rattle.vx_dcm.proofs.SlotMarks.{cause_since, lies_then}
use Rattle.vx_dcm.proofs.dcm.Dcm.join.Goals.{then-first-end+in_default, else-first-end}
use Rattle.vx_dcm.proofs.dcm.Dcm.join.Goals as goal

pub loop-first-init : goal.loop-first-init
loop-first-init g c = (joined_none c.args.self.now c.args.slot c.args.vol c.args.bytes.now (g.S.Shelf.meaning c.args.shelf.now), λ all. refl, spends_none _, λ down. down)

pub returns-in-Err-clause-moves : goal.returns-in-Err-clause-moves
returns-in-Err-clause-moves g c = joined_moves c.args.self.now c.args.slot c.args.vol c.args.bytes.now c.loop-first.first c.run_end-end.result c.loop-first.self c.mark_run.new.self (g.S.Shelf.meaning c.args.shelf.now) (g.S.Shelf.meaning c.loop-first.shelf) (g.S.Shelf.meaning c.mark_run.new.shelf) c.requires.fits.map c.loop-first.invariant.0 (omega (arith, c.if-first-end.true)) (omega (arith, c.run_end-end.ensures.high, c.regions-regions.ensures.is)) c.run_end-end.ensures.has c.mark_run.ensures.place c.mark_run.ensures.sizes c.mark_run.ensures.part c.mark_run.ensures.bits c.mark_run.ensures.moves

pub returns-in-Err-clause-bits : goal.returns-in-Err-clause-bits
returns-in-Err-clause-bits g c = joined_bits c.args.self.now c.args.slot c.args.vol c.args.bytes.now c.loop-first.first c.run_end-end.result c.loop-first.self c.mark_run.new.self (g.S.Shelf.meaning c.args.shelf.now) (g.S.Shelf.meaning c.loop-first.shelf) (g.S.Shelf.meaning c.mark_run.new.shelf) c.requires.fits.map c.loop-first.invariant.0 (omega (arith, c.if-first-end.true)) (omega (arith, c.run_end-end.ensures.high, c.regions-regions.ensures.is)) c.run_end-end.ensures.has c.mark_run.ensures.place c.mark_run.ensures.sizes c.mark_run.ensures.part c.mark_run.ensures.bits c.mark_run.ensures.moves

pub returns-in-Err-clause-part : goal.returns-in-Err-clause-part
returns-in-Err-clause-part g c = joined_part c.args.self.now c.args.slot c.args.vol c.args.bytes.now c.loop-first.first c.run_end-end.result c.loop-first.self c.mark_run.new.self (g.S.Shelf.meaning c.args.shelf.now) (g.S.Shelf.meaning c.loop-first.shelf) (g.S.Shelf.meaning c.mark_run.new.shelf) c.requires.fits.map c.loop-first.invariant.0 (omega (arith, c.if-first-end.true)) (omega (arith, c.run_end-end.ensures.high, c.regions-regions.ensures.is)) c.run_end-end.ensures.has c.mark_run.ensures.place c.mark_run.ensures.sizes c.mark_run.ensures.part c.mark_run.ensures.bits c.mark_run.ensures.moves

pub returns-in-Err-clause-place : goal.returns-in-Err-clause-place
returns-in-Err-clause-place g c = joined_place c.args.self.now c.args.slot c.args.vol c.args.bytes.now c.loop-first.first c.run_end-end.result c.loop-first.self c.mark_run.new.self (g.S.Shelf.meaning c.args.shelf.now) (g.S.Shelf.meaning c.loop-first.shelf) (g.S.Shelf.meaning c.mark_run.new.shelf) c.requires.fits.map c.loop-first.invariant.0 (omega (arith, c.if-first-end.true)) (omega (arith, c.run_end-end.ensures.high, c.regions-regions.ensures.is)) c.run_end-end.ensures.has c.mark_run.ensures.place c.mark_run.ensures.sizes c.mark_run.ensures.part c.mark_run.ensures.bits c.mark_run.ensures.moves

pub returns-in-Err-clause-sizes : goal.returns-in-Err-clause-sizes
returns-in-Err-clause-sizes g c = c.mark_run.ensures.sizes ∙ c.loop-first.invariant.0.sizes

pub returns-in-Err-clause-cause : goal.returns-in-Err-clause-cause
returns-in-Err-clause-cause g c = cause_since (g.S.Shelf.meaning c.args.shelf.now) (g.S.Shelf.meaning c.loop-first.shelf) (g.S.Shelf.meaning c.mark_run.new.shelf) c.in-Err.no c.loop-first.invariant.0.moves.disk_faults c.in-Err.ensures.cause

pub returns-in-Err-clause-nothing : goal.returns-in-Err-clause-nothing
returns-in-Err-clause-nothing g c = λ all. c.mark_run.ensures.nothing (joined_were c.args.self.now c.args.slot c.args.vol c.args.bytes.now c.loop-first.first c.run_end-end.result c.loop-first.self c.mark_run.new.self (g.S.Shelf.meaning c.args.shelf.now) (g.S.Shelf.meaning c.loop-first.shelf) (g.S.Shelf.meaning c.mark_run.new.shelf) c.requires.fits.map c.loop-first.invariant.0 (omega (arith, c.if-first-end.true)) (omega (arith, c.run_end-end.ensures.high, c.regions-regions.ensures.is)) c.run_end-end.ensures.has all) ∙ c.loop-first.invariant.1 all

pub returns-in-Err-clause-spends : goal.returns-in-Err-clause-spends
returns-in-Err-clause-spends g c = then_spends _ _ _ c.loop-first.invariant.2 c.mark_run.ensures.spends

pub returns-in-Err-clause-blames : goal.returns-in-Err-clause-blames
returns-in-Err-clause-blames g c = unit_since (g.S.Shelf.meaning c.args.shelf.now) (g.S.Shelf.meaning c.loop-first.shelf) c.loop-first.self.map.unit c.args.self.now.map.unit c.in-Err.no c.loop-first.invariant.2 c.loop-first.invariant.0.place.unit c.in-Err.ensures.blames

pub returns-clause-moves : goal.returns-clause-moves
returns-clause-moves g c = c.loop-first.invariant.0.moves

pub returns-clause-bits : goal.returns-clause-bits
returns-clause-bits g c = c.loop-first.invariant.0.bits

pub returns-clause-stands : goal.returns-clause-stands
returns-clause-stands g c = c.loop-first.invariant.0.stands

pub returns-clause-part : goal.returns-clause-part
returns-clause-part g c = c.loop-first.invariant.0.part

pub returns-clause-place : goal.returns-clause-place
returns-clause-place g c = c.loop-first.invariant.0.place

pub returns-clause-sizes : goal.returns-clause-sizes
returns-clause-sizes g c = c.loop-first.invariant.0.sizes

pub returns-clause-up : goal.returns-clause-up
returns-clause-up g c = c.loop-first.invariant.3

pub returns-clause-nothing : goal.returns-clause-nothing
returns-clause-nothing g c = c.loop-first.invariant.1

pub returns-clause-spends : goal.returns-clause-spends
returns-clause-spends g c = c.loop-first.invariant.2

pub run_end-end-requires-clause-inside : goal.run_end-end-requires-clause-inside
run_end-end-requires-clause-inside g c = omega (arith, c.regions-regions.ensures.is, bits_inside _ _ c.requires.fits.exact)

pub mark_run-requires-clause-lies : goal.mark_run-requires-clause-lies
mark_run-requires-clause-lies g c = lies_then c.args.self.now c.loop-first.self (g.S.Shelf.meaning c.args.shelf.now) (g.S.Shelf.meaning c.loop-first.shelf) (MapChanging c.args.self.now.map (IsPlaceInBytes c.args.self.now c.args.slot c.args.vol c.args.bytes.now) true (g.S.Shelf.meaning c.args.shelf.now)) c.loop-first.invariant.0.place c.loop-first.invariant.0.moves c.requires.lies

pub mark_run-requires-clause-some : goal.mark_run-requires-clause-some
mark_run-requires-clause-some g c = omega (arith, c.if-first-end.true)

pub mark_run-requires-clause-exists : goal.mark_run-requires-clause-exists
mark_run-requires-clause-exists g c = joined_region c.args.self.now c.args.slot c.args.vol c.args.bytes.now c.loop-first.first c.run_end-end.result c.loop-first.self c.loop-first.self (g.S.Shelf.meaning c.args.shelf.now) (g.S.Shelf.meaning c.loop-first.shelf) (g.S.Shelf.meaning c.loop-first.shelf) c.requires.fits.map c.loop-first.invariant.0 (omega (arith, c.if-first-end.true)) (omega (arith, c.run_end-end.ensures.high, c.regions-regions.ensures.is)) c.run_end-end.ensures.has

pub loop-first-preserved : goal.loop-first-preserved
loop-first-preserved g c = elim c.if-first-end.branch [
  | then-first-end+in_default w ↦ rw (w.self-is, w.shelf-is) (
    joined_next c.args.self.now c.args.slot c.args.vol c.args.bytes.now c.loop-first.first c.run_end-end.result c.loop-first.self w.mark_run.new.self (g.S.Shelf.meaning c.args.shelf.now) (g.S.Shelf.meaning c.loop-first.shelf) (g.S.Shelf.meaning w.mark_run.new.shelf) c.requires.fits.map c.loop-first.invariant.0 (omega (arith, w.if-first-end.true)) (omega (arith, c.run_end-end.ensures.high, c.regions-regions.ensures.is)) c.run_end-end.ensures.has w.mark_run.ensures.place w.mark_run.ensures.sizes w.mark_run.ensures.part w.mark_run.ensures.bits w.mark_run.ensures.moves w.in_default.ensures.marked (λ low. c.run_end-end.ensures.past (omega (arith, low, c.regions-regions.ensures.is))) w.in_default.ensures.stands,
    λ all. w.mark_run.ensures.nothing (joined_were c.args.self.now c.args.slot c.args.vol c.args.bytes.now c.loop-first.first c.run_end-end.result c.loop-first.self w.mark_run.new.self (g.S.Shelf.meaning c.args.shelf.now) (g.S.Shelf.meaning c.loop-first.shelf) (g.S.Shelf.meaning w.mark_run.new.shelf) c.requires.fits.map c.loop-first.invariant.0 (omega (arith, w.if-first-end.true)) (omega (arith, c.run_end-end.ensures.high, c.regions-regions.ensures.is)) c.run_end-end.ensures.has all) ∙ c.loop-first.invariant.1 all,
    then_spends _ _ _ c.loop-first.invariant.2 w.mark_run.ensures.spends,
    λ down. c.loop-first.invariant.3 (w.in_default.ensures.unit down),
  )
  | else-first-end w ↦ rw (w.self-is, w.shelf-is) (
    joined_pass c.args.self.now c.args.slot c.args.vol c.args.bytes.now c.loop-first.first c.run_end-end.result c.loop-first.self (g.S.Shelf.meaning c.args.shelf.now) (g.S.Shelf.meaning c.loop-first.shelf) c.loop-first.invariant.0 c.run_end-end.ensures.low (λ less. absurd (omega (arith, less, w.if-first-end.false))) (λ low. c.run_end-end.ensures.past (omega (arith, low, c.regions-regions.ensures.is))),
    c.loop-first.invariant.1,
    c.loop-first.invariant.2,
    c.loop-first.invariant.3,
  )
]

pub returns-clause-marked : goal.returns-clause-marked
returns-clause-marked g c = record {
  each = λ q inside has.
      let here : q < regions_of (mapped_size c.args.self.now c.args.vol) = subst (λ (xs : List ℕ). q < regions_of (slice_index xs c.args.vol)) c.loop-first.invariant.0.sizes inside in
      c.loop-first.invariant.0.all q (omega (arith, here, c.loop-first-test.false, c.regions-regions.ensures.is)) here has;
}
