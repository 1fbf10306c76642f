-- All regions of a place of a link, by the places that they have.
use Rattle.std.proofs.Common.{ℕ, ◌+◌, ◌-◌, ◌*◌, ◌<◌, ap, arith, subst}
use Rattle.std.proofs.lemmas.Result.{on_ok_weaker}
use Rattle.vx_bitmap.specs.Maps.{regions_mapped}
use Rattle.vx_dcm.specs.Places.{Maps}
use Rattle.vx_dcm.proofs.RunMarks.{moves_of, slot_between, slot_ends, slot_marked, slot_starts, slot_within}
use Rattle.vx_dcm.proofs.dcm.Dcm.mark_all.Goals as goal

pub change-requires-clause-inside : goal.change-requires-clause-inside
change-requires-clause-inside g c =
    subst (λ (d : Maps). 4096 * (c.from.result * c.self.inside.stride) + (4096 * c.self.inside.stride - 1) < regions_mapped d.map) c.self.view_is
    (slot_within c.self.inside.map c.self.inside.sizes.items c.self.inside.stride c.from.result c.self.invariant (omega (arith, c.from.ensures, c.requires.exists)) (omega (arith, c.if-stride-eq0.false)))

pub returns-clause-moves : goal.returns-clause-moves
returns-clause-moves g c =
    moves_of (4096 * (c.from.result * c.self.inside.stride)) (4096 * (c.from.result * c.self.inside.stride) + (4096 * c.self.inside.stride - 1)) _ _
    (slot_starts (record { map = c.self.inside.map; sizes = c.self.inside.sizes.items }) c.args.self.now c.self.view_is c.args.slot c.self.inside.stride (4096 * (c.from.result * c.self.inside.stride)) c.self.invariant.stride_is (ap (λ (n : ℕ). 4096 * (n * c.self.inside.stride)) c.from.ensures))
    (slot_ends (record { map = c.self.inside.map; sizes = c.self.inside.sizes.items }) c.args.self.now c.self.view_is c.args.slot c.self.inside.stride (4096 * (c.from.result * c.self.inside.stride)) c.self.invariant.stride_is (ap (λ (n : ℕ). 4096 * (n * c.self.inside.stride)) c.from.ensures))
    c.args.on c.args.self.now.map (g.S.Shelf.meaning c.args.shelf.now) (g.S.Shelf.meaning c.change.new.shelf) c.change.ensures.moves

pub returns-clause-marked : goal.returns-clause-marked
returns-clause-marked g c =
    on_ok_weaker c.change.result
    (λ changed. slot_marked c.args.self.now c.change.new.self c.change.ensures.placed c.change.ensures.sizes c.args.slot (4096 * (c.from.result * c.self.inside.stride)) (4096 * (c.from.result * c.self.inside.stride) + (4096 * c.self.inside.stride - 1))
    (slot_starts (record { map = c.self.inside.map; sizes = c.self.inside.sizes.items }) c.args.self.now c.self.view_is c.args.slot c.self.inside.stride (4096 * (c.from.result * c.self.inside.stride)) c.self.invariant.stride_is (ap (λ (n : ℕ). 4096 * (n * c.self.inside.stride)) c.from.ensures))
    (slot_ends (record { map = c.self.inside.map; sizes = c.self.inside.sizes.items }) c.args.self.now c.self.view_is c.args.slot c.self.inside.stride (4096 * (c.from.result * c.self.inside.stride)) c.self.invariant.stride_is (ap (λ (n : ℕ). 4096 * (n * c.self.inside.stride)) c.from.ensures))
    c.args.on changed)
    c.change.ensures.changed

pub returns-clause-part : goal.returns-clause-part
returns-clause-part g c =
    slot_between c.args.self.now c.change.new.self c.change.ensures.placed c.change.ensures.sizes c.args.slot (4096 * (c.from.result * c.self.inside.stride)) (4096 * (c.from.result * c.self.inside.stride) + (4096 * c.self.inside.stride - 1))
    (slot_starts (record { map = c.self.inside.map; sizes = c.self.inside.sizes.items }) c.args.self.now c.self.view_is c.args.slot c.self.inside.stride (4096 * (c.from.result * c.self.inside.stride)) c.self.invariant.stride_is (ap (λ (n : ℕ). 4096 * (n * c.self.inside.stride)) c.from.ensures))
    (slot_ends (record { map = c.self.inside.map; sizes = c.self.inside.sizes.items }) c.args.self.now c.self.view_is c.args.slot c.self.inside.stride (4096 * (c.from.result * c.self.inside.stride)) c.self.invariant.stride_is (ap (λ (n : ℕ). 4096 * (n * c.self.inside.stride)) c.from.ensures))
    c.args.on c.change.ensures.part
