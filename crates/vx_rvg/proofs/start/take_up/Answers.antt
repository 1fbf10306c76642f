-- The change maps behind the writes of the log.
use Rattle.vx_disk.specs.Shelf.{Nothing}
use Rattle.vx_disk.proofs.Runs.{then_nothing}
use Rattle.vx_disk.proofs.Spending.{then_spends}
use Rattle.vx_rvg.proofs.MapStands.{down_as, gives_marks, is_up, load_stops, loaded_rests, maps_need, room_as}
use Rattle.vx_rvg.proofs.WriteSound.{placed_same}
use Rattle.vx_rvg.proofs.start.take_up.Goals as goal

pub load_in-requires-clause-fit : goal.load_in-requires-clause-fit
load_in-requires-clause-fit g c =
    maps_need c.args.units.now (g.S.Shelf.meaning c.fill.new.shelf)
    (placed_same c.args.units.now (g.S.Shelf.meaning c.args.shelf.now) (g.S.Shelf.meaning c.fill.new.shelf) (record { units = c.fill.ensures.goes.units; size = c.fill.ensures.goes.size }) c.requires.placed)

pub load_in-requires-clause-up : goal.load_in-requires-clause-up
load_in-requires-clause-up g c = is_up _ c.in_default.ensures.up

pub load_in-requires-clause-room : goal.load_in-requires-clause-room
load_in-requires-clause-room g c = room_as c.args.units.now _ (g.S.Shelf.meaning c.args.shelf.now) (g.S.Shelf.meaning c.fill.new.shelf) c.fill.ensures.goes.size c.requires.maps

pub returns-in-Ok-clause-loaded : goal.returns-in-Ok-clause-loaded
returns-in-Ok-clause-loaded g c = loaded_rests c.args.units.now c.in-Ok.maps (g.S.Shelf.meaning c.fill.new.shelf) (g.S.Shelf.meaning c.load_in.new.shelf) c.load_in.ensures.goes c.in-Ok.ensures.loaded

pub returns-in-Ok-clause-marks : goal.returns-in-Ok-clause-marks
returns-in-Ok-clause-marks g c =
    gives_marks c.args.units.now c.in-Ok.maps (g.S.Shelf.meaning c.args.shelf.now) (g.S.Shelf.meaning c.fill.new.shelf) (g.met.S.Shelf.lawful c.fill.new.shelf) c.requires.placed c.fill.ensures.goes
    c.in-Ok.ensures.loaded c.in-Ok.ensures.read

pub returns-in-Ok-clause-up : goal.returns-in-Ok-clause-up
returns-in-Ok-clause-up g c = down_as _ _ c.load_in.ensures.up c.in_default.ensures.up

pub returns-in-Ok-clause-goes : goal.returns-in-Ok-clause-goes
returns-in-Ok-clause-goes g c = then_nothing Nothing _ _ _ c.fill.ensures.goes c.load_in.ensures.goes

pub returns-in-Err-load_in-clause-goes : goal.returns-in-Err-load_in-clause-goes
returns-in-Err-load_in-clause-goes g c = then_nothing Nothing _ _ _ c.fill.ensures.goes c.load_in.ensures.goes

pub returns-in-Ok-clause-spends : goal.returns-in-Ok-clause-spends
returns-in-Ok-clause-spends g c = then_spends _ _ _ c.fill.ensures.spends c.load_in.ensures.spends

pub returns-in-Err-load_in-clause-spends : goal.returns-in-Err-load_in-clause-spends
returns-in-Err-load_in-clause-spends g c = then_spends _ _ _ c.fill.ensures.spends c.load_in.ensures.spends

pub returns-in-Err-load_in-clause-cause : goal.returns-in-Err-load_in-clause-cause
returns-in-Err-load_in-clause-cause g c =
    load_stops c.args.srl.now (g.S.Shelf.meaning c.args.shelf.now) (g.S.Shelf.meaning c.fill.new.shelf) (g.S.Shelf.meaning c.load_in.new.shelf) c.in-Err-load_in.no c.fill.ensures.goes.disk_faults c.in-Err-load_in.ensures.cause
