-- `find_header`: clauses found, goes, cause and spends.
use Rattle.std.proofs.Common.{refl}
use Rattle.vx_disk.specs.Shelf.{Nothing}
use Rattle.vx_disk.proofs.Runs.{then_nothing}
use Rattle.vx_srl.proofs.StartHeaders.{found, broken}
use Rattle.vx_disk.proofs.Spending.{then_spends}
use Rattle.vx_srl.proofs.start.find_header.Goals as goal

pub returns-in-Stands-clause-found : goal.returns-in-Stands-clause-found
returns-in-Stands-clause-found g c =
    found c.args.unit c.args.ring _ _ c.in-Ok.top c.in-Ok-read_top.top c.in-Ok.ensures.sees c.in-Ok-read_top.ensures.sees c.read_top.ensures.goes c.in-Ok.ensures.cause.after c.in-Stands.standing c.in-Stands.ensures
    c.in-Ok.ensures.of_ring c.in-Ok-read_top.ensures.of_ring

pub returns-in-Stands-clause-goes : goal.returns-in-Stands-clause-goes
returns-in-Stands-clause-goes g c = then_nothing Nothing _ _ _ c.read_top.ensures.goes c.read_top-2.ensures.goes

pub returns-in-Broken-clause-goes : goal.returns-in-Broken-clause-goes
returns-in-Broken-clause-goes g c = then_nothing Nothing _ _ _ c.read_top.ensures.goes c.read_top-2.ensures.goes

pub returns-in-Broken-clause-cause : goal.returns-in-Broken-clause-cause
returns-in-Broken-clause-cause g c =
    let b = broken c.args.unit c.args.ring _ _ c.in-Ok.top c.in-Ok-read_top.top c.in-Ok.ensures.sees c.in-Ok-read_top.ensures.sees c.read_top.ensures.goes c.in-Ok.ensures.cause.after
    c.in-Broken.block c.in-Broken.stored c.in-Broken.computed c.in-Broken.ensures c.in-Ok.ensures.differ c.in-Ok-read_top.ensures.differ in
    (refl, b.0, b.1, b.2)

pub returns-in-Stands-clause-spends : goal.returns-in-Stands-clause-spends
returns-in-Stands-clause-spends g c = then_spends _ _ _ c.read_top.ensures.spends c.read_top-2.ensures.spends

pub returns-in-Broken-clause-spends : goal.returns-in-Broken-clause-spends
returns-in-Broken-clause-spends g c = then_spends _ _ _ c.read_top.ensures.spends c.read_top-2.ensures.spends

pub returns-in-Err-read_top-clause-spends : goal.returns-in-Err-read_top-clause-spends
returns-in-Err-read_top-clause-spends g c = then_spends _ _ _ c.read_top.ensures.spends c.read_top-2.ensures.spends
