-- An import, as the site notes the group: it is up, or its disks are handed back.
use Rattle.vx_grouped.proofs.BringLemmas.{opened_brings}
use Rattle.vx_grouped.proofs.OpenedLemmas.{opened_returns}
use Rattle.vx_grouped.proofs.ReturnLemmas.{import_left}
use Rattle.vx_group.proofs.HoldLemmas.{narrow_on}
use Rattle.vx_loggroup.proofs.FactLemmas.{from_logged}
use Rattle.vx_grouped.proofs.ImportMapLemmas.{parts_came}
use Rattle.vx_grouped.proofs.importing.import_group.Goals as goal

pub returns-in-Ok-clause-leaves : goal.returns-in-Ok-clause-leaves
returns-in-Ok-clause-leaves g c = λ n note last away.
    opened_returns n note last (g.S.Shelf.meaning c.args.shelf) (g.met.S.Shelf.lawful c.args.shelf) away g.S.Shelf.meaning c.args.rested.now c.in-Ok.group.core c.in-Ok.group.logs.items c.in-Ok.group.alike c.in-Ok.group.stopped (g.S.Shelf.meaning c.in-Ok.group.shelf) c.requires.can c.in-Ok.ensures.imported c.in-Ok.group.stands.group.stands.trusts.both
    (narrow_on c.in-Ok.group.core (g.S.Shelf.meaning c.in-Ok.group.shelf) (from_logged c.in-Ok.group.core c.in-Ok.group.logs.items c.in-Ok.group.alike c.in-Ok.group.stopped (g.S.Shelf.meaning c.in-Ok.group.shelf) c.in-Ok.group.stands).group)

pub returns-in-Err-clause-leaves : goal.returns-in-Err-clause-leaves
returns-in-Err-clause-leaves g c = λ n note last away.
    import_left n note last (g.S.Shelf.meaning c.args.shelf) (g.met.S.Shelf.lawful c.args.shelf) away (g.S.Shelf.meaning c.in-Err.shelf) (g.met.S.Shelf.lawful c.in-Err.shelf) c.requires.can c.in-Err.ensures.same c.in-Err.ensures.again
    c.in-Err.stop c.in-Err.ensures.imported

pub returns-in-Ok-clause-up : goal.returns-in-Ok-clause-up
returns-in-Ok-clause-up g c = c.in-Ok.ensures.imported.up

pub returns-in-Ok-clause-maps : goal.returns-in-Ok-clause-maps
returns-in-Ok-clause-maps g c =
    parts_came g.S.Shelf.meaning c.args.rested.now (g.S.Shelf.meaning c.args.shelf) (g.met.S.Shelf.lawful c.args.shelf) c.requires.can c.in-Ok.group.core c.in-Ok.group.logs.items c.in-Ok.group.alike c.in-Ok.group.stopped (g.S.Shelf.meaning c.in-Ok.group.shelf) c.in-Ok.ensures.imported
    (from_logged c.in-Ok.group.core c.in-Ok.group.logs.items c.in-Ok.group.alike c.in-Ok.group.stopped (g.S.Shelf.meaning c.in-Ok.group.shelf) c.in-Ok.group.stands)

pub returns-in-Err-clause-maps : goal.returns-in-Err-clause-maps
returns-in-Err-clause-maps g c = tt

pub returns-in-Ok-clause-brings : goal.returns-in-Ok-clause-brings
returns-in-Ok-clause-brings g c =
    opened_brings (g.S.Shelf.meaning c.args.shelf) (g.met.S.Shelf.lawful c.args.shelf) g.S.Shelf.meaning g.met.S.Shelf.lawful c.args.rested.now c.in-Ok.group.core c.in-Ok.group.logs.items c.in-Ok.group.alike c.in-Ok.group.stopped (g.S.Shelf.meaning c.in-Ok.group.shelf)
    c.requires.can c.in-Ok.ensures.imported
