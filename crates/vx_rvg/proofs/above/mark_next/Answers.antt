-- The regions of one write.
use Rattle.std.proofs.Common.{ℕ, ◌+◌, ◌/◌, ◌≤◌, true, ap, arith, subst, sym, refl}
use Rattle.std.proofs.lemmas.Result.{on_ok_weaker}
use Rattle.vx_bitmap.specs.Bits.{AllAre, is_marked}
use Rattle.vx_bitmap.specs.Maps.{regions_mapped}
use Rattle.vx_disk.specs.Moves.{Moves}
use Rattle.vx_dcm.specs.Places.{HasRegion, IsPlaceAmong, SomeChanged, has_mark, region_place}
use Rattle.vx_rvg.specs.Marks.{Marking, map_run}
use Rattle.vx_rvg.specs.Views.{volume_size}
use Rattle.vx_rvg.proofs.ApplyOne.{kept_at, kept_there, none_there}
use Rattle.vx_rvg.proofs.MarkAbove.{all_marked, bits_above, count_some, moves_above, none_marked, part_of_slot, slot_region}
use Rattle.vx_rvg.proofs.MarkThrough.{remarks_none}
use Rattle.vx_rvg.proofs.MarkedStands.{regions_ordered}
use Rattle.vx_rvg.proofs.WriteStands.{volume_size_is}
use Rattle.vx_disk.proofs.Spending.{spends_none}
use Rattle.vx_rvg.proofs.above.mark_next.Goals as goal

-- ---- it does not end within its volume

pub returns-then-head-volumes-clause-marked : goal.returns-then-head-volumes-clause-marked
returns-then-head-volumes-clause-marked g c =
    none_marked c.args.core.now (volume_size c.args.core.now.units.vols (g.S.Shelf.meaning c.args.shelf.now)) c.args.slot (c.args.before + 1) (kept_at _ _ _ c.front-head.ensures) (kept_there _ c.args.core.now (c.args.before + 1) _ c.front-head.ensures c.core.view_is) c.args.core.now.maps
    (omega (arith, (count_some _ (c.args.before + 1) _ c.front-head.ensures c.ring-ring.ensures.ordered), none_there c.args.core.now.units.vols (g.S.Shelf.meaning c.args.shelf.now) c.front-head.result.now.vol (omega (arith, c.if-head-volumes.true, c.volumes.ensures))))

pub returns-then-head-volumes-clause-stands : goal.returns-then-head-volumes-clause-stands
returns-then-head-volumes-clause-stands g c = remarks_none c.args.core.now (g.S.Shelf.meaning c.args.shelf.now)

pub returns-then-size-count-clause-stands : goal.returns-then-size-count-clause-stands
returns-then-size-count-clause-stands g c = remarks_none c.args.core.now (g.S.Shelf.meaning c.args.shelf.now)

-- ---- it does

pub last_region-last-requires-clause-some : goal.last_region-last-requires-clause-some
last_region-last-requires-clause-some g c = (count_some _ (c.args.before + 1) _ c.front-head.ensures c.ring-ring.ensures.ordered)

pub mark_regions-requires-clause-some : goal.mark_regions-requires-clause-some
mark_regions-requires-clause-some g c = subst (λ (n : ℕ). c.front-head.result.now.block / 64 ≤ n) (sym c.last_region-last.ensures) (regions_ordered c.front-head.result.now.block c.front-head.result.now.count (count_some _ (c.args.before + 1) _ c.front-head.ensures c.ring-ring.ensures.ordered))

pub mark_regions-requires-clause-exists : goal.mark_regions-requires-clause-exists
mark_regions-requires-clause-exists g c =
    subst (λ (n : ℕ). HasRegion c.args.core.now.maps c.args.slot c.front-head.result.now.vol n) (sym c.last_region-last.ensures)
    (slot_region c.args.core.now (g.S.Shelf.meaning c.args.shelf.now) c.requires.sound c.args.slot c.front-head.result.now.vol c.front-head.result.now.block c.front-head.result.now.count c.requires.slot (omega (arith, c.if-head-volumes.false, c.volumes.ensures)) (count_some _ (c.args.before + 1) _ c.front-head.ensures c.ring-ring.ensures.ordered) (omega (arith, c.if-size-count.false, c.if-size-count-2.false, c.size-size.ensures, ap (λ (u : ℕ). (g.S.Shelf.meaning c.args.shelf.now).size u) c.unit.ensures, volume_size_is c.args.core.now.units.vols (g.S.Shelf.meaning c.args.shelf.now) c.front-head.result.now.vol (omega (arith, c.if-head-volumes.false, c.volumes.ensures)))))

pub returns-clause-marked : goal.returns-clause-marked
returns-clause-marked g c =
    on_ok_weaker c.mark_regions.result
    (λ all. all_marked c.args.core.now (volume_size c.args.core.now.units.vols (g.S.Shelf.meaning c.args.shelf.now)) c.args.slot (c.args.before + 1) (kept_at _ _ _ c.front-head.ensures) (kept_there _ c.args.core.now (c.args.before + 1) _ c.front-head.ensures c.core.view_is) c.mark_regions.new.core.maps (subst (λ (n : ℕ). AllAre (c.front-head.result.now.block / 64) n true (has_mark c.mark_regions.new.core.maps c.args.slot c.front-head.result.now.vol)) c.last_region-last.ensures all)) c.mark_regions.ensures.marked

pub returns-clause-part : goal.returns-clause-part
returns-clause-part g c = part_of_slot c.args.slot c.front-head.result.now.vol (c.front-head.result.now.block / 64) c.last_region-last.result c.args.core.now.maps c.mark_regions.new.core.maps c.mark_regions.ensures.part

pub returns-clause-bits : goal.returns-clause-bits
returns-clause-bits g c =
    bits_above c.args.core.now (volume_size c.args.core.now.units.vols (g.S.Shelf.meaning c.args.shelf.now)) c.args.slot (c.args.before + 1) (kept_at _ _ _ c.front-head.ensures) (kept_there _ c.args.core.now (c.args.before + 1) _ c.front-head.ensures c.core.view_is) c.requires.low (omega (arith, c.if-size-count.false, c.if-size-count-2.false, c.size-size.ensures, ap (λ (u : ℕ). (g.S.Shelf.meaning c.args.shelf.now).size u) c.unit.ensures, volume_size_is c.args.core.now.units.vols (g.S.Shelf.meaning c.args.shelf.now) c.front-head.result.now.vol (omega (arith, c.if-head-volumes.false, c.volumes.ensures)))) c.args.before (omega arith) (regions_mapped c.args.core.now.maps.map) (is_marked c.args.core.now.maps.map.bytes) (is_marked c.mark_regions.new.core.maps.map.bytes)
    (subst (λ (n : ℕ). SomeChanged (IsPlaceAmong (region_place c.args.core.now.maps c.args.slot c.front-head.result.now.vol (c.front-head.result.now.block / 64)) (region_place c.args.core.now.maps c.args.slot c.front-head.result.now.vol n)) true (regions_mapped c.args.core.now.maps.map) (is_marked c.args.core.now.maps.map.bytes) (is_marked c.mark_regions.new.core.maps.map.bytes)) c.last_region-last.ensures c.mark_regions.ensures.bits)

pub returns-clause-moves : goal.returns-clause-moves
returns-clause-moves g c =
    moves_above c.args.core.now (volume_size c.args.core.now.units.vols (g.S.Shelf.meaning c.args.shelf.now)) c.args.slot (c.args.before + 1) (kept_at _ _ _ c.front-head.ensures) (kept_there _ c.args.core.now (c.args.before + 1) _ c.front-head.ensures c.core.view_is) c.requires.low (omega (arith, c.if-size-count.false, c.if-size-count-2.false, c.size-size.ensures, ap (λ (u : ℕ). (g.S.Shelf.meaning c.args.shelf.now).size u) c.unit.ensures, volume_size_is c.args.core.now.units.vols (g.S.Shelf.meaning c.args.shelf.now) c.front-head.result.now.vol (omega (arith, c.if-head-volumes.false, c.volumes.ensures)))) c.args.before (omega arith) (g.S.Shelf.meaning c.args.shelf.now) (g.S.Shelf.meaning c.mark_regions.new.shelf)
    (subst (λ (n : ℕ). Moves (map_run c.args.core.now) (Marking c.args.core.now (IsPlaceAmong (region_place c.args.core.now.maps c.args.slot c.front-head.result.now.vol (c.front-head.result.now.block / 64)) (region_place c.args.core.now.maps c.args.slot c.front-head.result.now.vol n)) true (g.S.Shelf.meaning c.args.shelf.now)) (g.S.Shelf.meaning c.args.shelf.now) (g.S.Shelf.meaning c.mark_regions.new.shelf)) c.last_region-last.ensures c.mark_regions.ensures.moves)

pub returns-clause-marks : goal.returns-clause-marks
returns-clause-marks g c = c.mark_regions.ensures.marks

pub returns-clause-place : goal.returns-clause-place
returns-clause-place g c = c.mark_regions.ensures.place

pub returns-clause-sizes : goal.returns-clause-sizes
returns-clause-sizes g c = c.mark_regions.ensures.sizes

pub returns-clause-sound : goal.returns-clause-sound
returns-clause-sound g c = c.mark_regions.ensures.sound

pub returns-clause-stands : goal.returns-clause-stands
returns-clause-stands g c = c.mark_regions.ensures.stands

pub returns-clause-spends : goal.returns-clause-spends
returns-clause-spends g c = c.mark_regions.ensures.spends

pub returns-clause-blames : goal.returns-clause-blames
returns-clause-blames g c = c.mark_regions.ensures.blames

pub returns-then-head-volumes-clause-sizes : goal.returns-then-head-volumes-clause-sizes
returns-then-head-volumes-clause-sizes g c = refl

pub returns-then-head-volumes-clause-sound : goal.returns-then-head-volumes-clause-sound
returns-then-head-volumes-clause-sound g c = c.requires.sound

pub returns-then-head-volumes-clause-blames : goal.returns-then-head-volumes-clause-blames
returns-then-head-volumes-clause-blames g c = tt

pub returns-then-head-volumes-clause-spends : goal.returns-then-head-volumes-clause-spends
returns-then-head-volumes-clause-spends g c = spends_none (g.S.Shelf.meaning c.args.shelf.now)

pub returns-then-size-count-clause-sizes : goal.returns-then-size-count-clause-sizes
returns-then-size-count-clause-sizes g c = refl

pub returns-then-size-count-clause-sound : goal.returns-then-size-count-clause-sound
returns-then-size-count-clause-sound g c = c.requires.sound

pub returns-then-size-count-clause-blames : goal.returns-then-size-count-clause-blames
returns-then-size-count-clause-blames g c = tt

pub returns-then-size-count-clause-spends : goal.returns-then-size-count-clause-spends
returns-then-size-count-clause-spends g c = spends_none (g.S.Shelf.meaning c.args.shelf.now)
