-- `commit`: clauses begins, finds and fit.
use Rattle.vx_copies.proofs.Found.{begins_try, finds_try, fits_try}
use Rattle.vx_copies.proofs.ManyTries.{none_yet}
use Rattle.vx_copies.proofs.calls.commit.Goals as goal

pub returns-in-Err-clause-begins : goal.returns-in-Err-clause-begins
returns-in-Err-clause-begins g c =
    begins_try c.args.good c.args.config.now c.args.config.now (g.S.Shelf.meaning c.args.shelf.now) (g.S.Shelf.meaning c.args.shelf.now) (none_yet c.args.good c.args.config.now (g.S.Shelf.meaning c.args.shelf.now))

pub returns-in-Err-clause-finds : goal.returns-in-Err-clause-finds
returns-in-Err-clause-finds g c =
    finds_try c.args.good c.args.config.now c.args.config.now (g.S.Shelf.meaning c.args.shelf.now) (g.S.Shelf.meaning c.args.shelf.now) (none_yet c.args.good c.args.config.now (g.S.Shelf.meaning c.args.shelf.now))
    (g.met.S.Shelf.lawful c.args.shelf.now) (g.met.S.Shelf.lawful c.args.shelf.now)

pub returns-in-Err-clause-fit : goal.returns-in-Err-clause-fit
returns-in-Err-clause-fit g c =
    fits_try c.args.good c.args.config.now c.args.config.now (g.S.Shelf.meaning c.args.shelf.now) (g.S.Shelf.meaning c.args.shelf.now)
    (none_yet c.args.good c.args.config.now (g.S.Shelf.meaning c.args.shelf.now)) (g.met.S.Shelf.lawful c.args.shelf.now)
