-- The units of a raw set, and the blocks that their change maps take.
use Rattle.std.proofs.Common.{◌∙◌, ◌*◌, ◌≤◌, ℕ, ap, refl, subst, sym}
use Rattle.std.proofs.lemmas.Bool.{le-leb, leb-true}
use Rattle.vx_disk.specs.Maps.{maps_of}
use Rattle.vx_model.specs.declared.limits.TheConstants.{LINK_PLACES}
use Rattle.vx_model.specs.declared.units.Units.{Units}
use Rattle.vx_dcm.specs.Places.{MapsFit}
use Rattle.vx_rvg.proofs.MapStands.{maps_need}
use Rattle.vx_diskset.specs.Layouts.{raw_units}
use Rattle.vx_diskset.proofs.MakeGroup.{placed_raw}
use Rattle.vx_diskset.proofs.starting.has_room.Goals as goal

pub room_blocks-requires : goal.room_blocks-requires
room_blocks-requires g c =
    let m = g.R.Shelf.meaning c.args.rack.now in
    subst (λ (u : Units). MapsFit u m) (sym (c.raw_units.ensures ∙ ap raw_units c.units.ensures)) (maps_need (raw_units m.units) m (placed_raw m.units m refl c.requires.some c.requires.maps))

pub returns-clause-is : goal.returns-clause-is
returns-clause-is g c = λ yes.
    let m = g.R.Shelf.meaning c.args.rack.now in
    let blocks = c.room_blocks.ensures ∙ ap (λ (u : Units). LINK_PLACES * maps_of u.vols m) (c.raw_units.ensures ∙ ap raw_units c.units.ensures) in
    subst (λ (n : ℕ). n ≤ c.args.blocks) blocks (leb-true c.room_blocks.result c.args.blocks yes)

pub returns-clause-all : goal.returns-clause-all
returns-clause-all g c = λ fit.
    let m = g.R.Shelf.meaning c.args.rack.now in
    let blocks = c.room_blocks.ensures ∙ ap (λ (u : Units). LINK_PLACES * maps_of u.vols m) (c.raw_units.ensures ∙ ap raw_units c.units.ensures) in
    le-leb c.room_blocks.result c.args.blocks (subst (λ (n : ℕ). n ≤ c.args.blocks) (sym blocks) fit)
