-- `import`: clause imported.
use Rattle.std.proofs.Common.{arith}
use Rattle.vx_copies.proofs.Imports.{imported_none, imported_ok, imported_err}
use Rattle.vx_copies.proofs.importing.import.Goals as goal

pub returns-in-Err-clause-imported : goal.returns-in-Err-clause-imported
returns-in-Err-clause-imported g c = imported_none (g.S.Shelf.meaning c.args.shelf.now) (g.S.Shelf.meaning c.args.shelf.now) (g.met.S.Shelf.lawful c.args.shelf.now) (λ u. omega arith)

pub returns-in-Ok-concluded-clause-imported : goal.returns-in-Ok-concluded-clause-imported
returns-in-Ok-concluded-clause-imported g c =
    imported_ok (g.S.Shelf.meaning c.args.shelf.now) (g.S.Shelf.meaning c.search_all.new.shelf) (g.met.S.Shelf.lawful c.args.shelf.now) c.in-Ok-search_all.search c.in-Ok-search_all.ensures.searched
    c.units-units.result c.in-Ok-concluded.found c.units-units.ensures c.in-Ok-concluded.ensures

pub returns-in-Ok-search_all-clause-imported : goal.returns-in-Ok-search_all-clause-imported
returns-in-Ok-search_all-clause-imported g c =
    imported_err (g.S.Shelf.meaning c.args.shelf.now) (g.S.Shelf.meaning c.search_all.new.shelf) (g.met.S.Shelf.lawful c.args.shelf.now) c.in-Ok-search_all.search c.in-Ok-search_all.ensures.searched
    c.units-units.result c.in-Err-concluded.no c.units-units.ensures c.in-Err-concluded.ensures

pub returns-clause-imported : goal.returns-clause-imported
returns-clause-imported g c = imported_none (g.S.Shelf.meaning c.args.shelf.now) (g.S.Shelf.meaning c.search_all.new.shelf) (g.met.S.Shelf.lawful c.args.shelf.now) c.search_all.ensures.goes.faults
