-- The writes above a number, one after another.
use Rattle.std.proofs.Common.{◌≡◌, ◌+◌, ◌<◌, ◌≤◌, ap, arith, subst, sym}
use Rattle.vx_disk.proofs.Naming.{unit_since}
use Rattle.vx_disk.proofs.Spending.{then_spends}
use Rattle.vx_srl.specs.Views.{IsOrdered, all_of}
use Rattle.vx_rvg.specs.Above.{IsPlaceAbove}
use Rattle.vx_rvg.specs.Views.{Core, last_of, volume_size}
use Rattle.vx_rvg.proofs.MapStands.{is_up}
use Rattle.vx_rvg.proofs.MarkAbove.{above_all, cause_back, halted_back, none_done, place_back, places_above, step_done}
use Rattle.vx_rvg.proofs.MarkStands.{stays_up}
use Rattle.vx_rvg.proofs.MarkThrough.{next_moves, next_part}
use Rattle.vx_rvg.proofs.above.mark_rest.Goals as goal

pub loop-before-init : goal.loop-before-init
loop-before-init g c = (none_done c.args.core.now (g.S.Shelf.meaning c.args.shelf.now) c.args.slot c.args.above c.requires.sound, c.requires.up)

pub mark_next-requires-clause-sound : goal.mark_next-requires-clause-sound
mark_next-requires-clause-sound g c = c.loop-before.invariant.0.sound

pub mark_next-requires-clause-low : goal.mark_next-requires-clause-low
mark_next-requires-clause-low g c = subst (λ (k : Core). k.log.header.low ≤ c.loop-before.before + 1) (sym c.loop-before.invariant.0.through.is) (omega (arith, c.requires.low, c.loop-before.auto.before))

pub mark_next-requires-clause-held : goal.mark_next-requires-clause-held
mark_next-requires-clause-held g c =
    let last : c.head-last.result ≡ last_of c.args.core.now = subst (λ (k : Core). c.head-last.result ≡ last_of k) c.core.view_is c.head-last.ensures in
    subst (λ (k : Core). c.loop-before.before < last_of k) (sym c.loop-before.invariant.0.through.is) (omega (arith, c.loop-before-test.true, last))

pub loop-before-preserved : goal.loop-before-preserved
loop-before-preserved g c = (
  step_done c.args.core.now (g.S.Shelf.meaning c.args.shelf.now) c.args.slot c.args.above c.requires.sound c.requires.slot c.loop-before.before c.loop-before.core c.mark_next.new.core (g.S.Shelf.meaning c.loop-before.shelf) (g.S.Shelf.meaning c.mark_next.new.shelf) c.loop-before.auto.before
      (subst (λ (k : Core). IsOrdered k.log.ring k.log.header (all_of k.log)) c.core.view_is c.ring-ring.ensures.ordered) c.loop-before.invariant.0
      (record {
        is = c.in_default.ensures.marks.0;
        place = c.mark_next.ensures.place;
        sizes = c.mark_next.ensures.sizes;
        part = c.mark_next.ensures.part;
        bits = c.mark_next.ensures.bits;
        remarks = c.in_default.ensures.stands;
        moves = c.mark_next.ensures.moves;
      })
      c.in_default.ensures.marked c.mark_next.ensures.sound c.mark_next.ensures.spends,
  is_up _ c.in_default.ensures.marks.1,
)

pub returns-in-Err-clause-marks : goal.returns-in-Err-clause-marks
returns-in-Err-clause-marks g c = (halted_back c.args.core.now (g.S.Shelf.meaning c.args.shelf.now) c.args.slot c.args.above c.loop-before.before c.loop-before.core (g.S.Shelf.meaning c.loop-before.shelf) c.loop-before.invariant.0 c.in-Err.no c.mark_next.new.core c.in-Err.ensures.marks.0, cause_back c.args.core.now (g.S.Shelf.meaning c.args.shelf.now) c.args.slot c.args.above c.loop-before.before c.loop-before.core (g.S.Shelf.meaning c.loop-before.shelf) c.loop-before.invariant.0 c.in-Err.no (g.S.Shelf.meaning c.mark_next.new.shelf) c.in-Err.ensures.marks.1)

pub returns-in-Err-clause-part : goal.returns-in-Err-clause-part
returns-in-Err-clause-part g c = next_part c.args.core.now c.loop-before.core c.mark_next.new.core c.args.slot (places_above c.args.core.now (g.S.Shelf.meaning c.args.shelf.now) c.args.slot c.args.above) (IsPlaceAbove c.loop-before.core (volume_size c.loop-before.core.units.vols (g.S.Shelf.meaning c.loop-before.shelf)) c.args.slot c.loop-before.before) (g.S.Shelf.meaning c.args.shelf.now) (g.S.Shelf.meaning c.loop-before.shelf) (g.S.Shelf.meaning c.mark_next.new.shelf) c.requires.sound c.loop-before.invariant.0.sound c.loop-before.invariant.0.through (place_back c.args.core.now (g.S.Shelf.meaning c.args.shelf.now) c.args.slot c.args.above c.loop-before.before c.loop-before.core (g.S.Shelf.meaning c.loop-before.shelf) c.loop-before.invariant.0 c.loop-before.auto.before) c.mark_next.ensures.part

pub returns-in-Err-clause-moves : goal.returns-in-Err-clause-moves
returns-in-Err-clause-moves g c = next_moves c.args.core.now c.loop-before.core c.mark_next.new.core c.args.slot (places_above c.args.core.now (g.S.Shelf.meaning c.args.shelf.now) c.args.slot c.args.above) (IsPlaceAbove c.loop-before.core (volume_size c.loop-before.core.units.vols (g.S.Shelf.meaning c.loop-before.shelf)) c.args.slot c.loop-before.before) (g.S.Shelf.meaning c.args.shelf.now) (g.S.Shelf.meaning c.loop-before.shelf) (g.S.Shelf.meaning c.mark_next.new.shelf) c.requires.sound c.loop-before.invariant.0.sound c.loop-before.invariant.0.through (place_back c.args.core.now (g.S.Shelf.meaning c.args.shelf.now) c.args.slot c.args.above c.loop-before.before c.loop-before.core (g.S.Shelf.meaning c.loop-before.shelf) c.loop-before.invariant.0 c.loop-before.auto.before) c.mark_next.ensures.moves

pub returns-in-Err-clause-spends : goal.returns-in-Err-clause-spends
returns-in-Err-clause-spends g c = then_spends _ _ _ c.loop-before.invariant.0.spends c.mark_next.ensures.spends

pub returns-in-Err-clause-blames : goal.returns-in-Err-clause-blames
returns-in-Err-clause-blames g c = unit_since (g.S.Shelf.meaning c.args.shelf.now) (g.S.Shelf.meaning c.loop-before.shelf) c.loop-before.core.units.maps c.args.core.now.units.maps c.in-Err.no c.loop-before.invariant.0.spends (ap (λ (k : Core). k.units.maps) c.loop-before.invariant.0.through.is) c.in-Err.ensures.blames

pub returns-clause-marks : goal.returns-clause-marks
returns-clause-marks g c = (c.loop-before.invariant.0.through.is, stays_up _ _ c.loop-before.invariant.1 (λ down. down))

pub returns-clause-marked : goal.returns-clause-marked
returns-clause-marked g c =
    let last : c.head-last.result ≡ last_of c.args.core.now = subst (λ (k : Core). c.head-last.result ≡ last_of k) c.core.view_is c.head-last.ensures in
    above_all c.args.core.now (g.S.Shelf.meaning c.args.shelf.now) c.args.slot c.args.above c.loop-before.core (g.S.Shelf.meaning c.loop-before.shelf) c.loop-before.before c.head-last.result last (omega (arith, c.loop-before-test.false)) c.loop-before.invariant.0

pub returns-clause-part : goal.returns-clause-part
returns-clause-part g c = c.loop-before.invariant.0.through.part

pub returns-clause-sound : goal.returns-clause-sound
returns-clause-sound g c = c.loop-before.invariant.0.sound

pub returns-clause-stands : goal.returns-clause-stands
returns-clause-stands g c = c.loop-before.invariant.0.through.remarks

pub returns-clause-moves : goal.returns-clause-moves
returns-clause-moves g c = c.loop-before.invariant.0.through.moves

pub returns-clause-spends : goal.returns-clause-spends
returns-clause-spends g c = c.loop-before.invariant.0.spends
