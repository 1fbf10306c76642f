-- `put_copy`: clauses moves, leaves and ok.
use Rattle.std.proofs.lemmas.Result.{on_ok_weaker}
use Rattle.vx_disk.proofs.Runs.{nothing_then}
use Rattle.vx_copyio.proofs.Putting.{read_moves, read_leaves, body_moves, body_leaves, header_moves, header_leaves, header_stands}
use Rattle.vx_copyio.proofs.copying.put_copy.Goals as goal

pub returns-in_err-area-clause-moves : goal.returns-in_err-area-clause-moves
returns-in_err-area-clause-moves g c = read_moves c.args.disk c.args.header.now c.args.body.now _ _ c.find_target.ensures.goes

pub returns-in_err-area-clause-leaves : goal.returns-in_err-area-clause-leaves
returns-in_err-area-clause-leaves g c = read_leaves c.args.disk c.args.header.now c.args.body.now _ _ c.find_target.ensures.goes

pub returns-in_err-put-clause-moves : goal.returns-in_err-put-clause-moves
returns-in_err-put-clause-moves g c =
    body_moves c.args.disk c.in_ok-area.area c.args.header.now c.args.body.now c.requires.can (record { whole = c.requires.whole; few = c.requires.few }) c.requires.long c.requires.digest
    (g.S.Shelf.meaning c.args.shelf.now) (g.met.S.Shelf.lawful c.args.shelf.now) c.in_ok-area.ensures.header c.in_ok-area.ensures.target
    (g.S.Shelf.meaning c.put.new.shelf) (nothing_then _ _ _ _ c.in_ok-area.ensures.goes c.put.ensures.goes)

pub returns-in_err-put-clause-leaves : goal.returns-in_err-put-clause-leaves
returns-in_err-put-clause-leaves g c =
    body_leaves c.args.disk c.in_ok-area.area c.args.header.now c.args.body.now c.requires.can (record { whole = c.requires.whole; few = c.requires.few }) c.requires.long c.requires.digest
    (g.S.Shelf.meaning c.args.shelf.now) (g.met.S.Shelf.lawful c.args.shelf.now) c.in_ok-area.ensures.header c.in_ok-area.ensures.target
    (g.S.Shelf.meaning c.put.new.shelf) (nothing_then _ _ _ _ c.in_ok-area.ensures.goes c.put.ensures.goes)

pub returns-clause-moves : goal.returns-clause-moves
returns-clause-moves g c =
    header_moves c.args.disk c.in_ok-area.area c.args.header.now c.args.body.now c.requires.can (record { whole = c.requires.whole; few = c.requires.few }) c.requires.long c.requires.digest
    (g.S.Shelf.meaning c.args.shelf.now) (g.met.S.Shelf.lawful c.args.shelf.now) c.in_ok-area.ensures.header c.in_ok-area.ensures.target
    (g.S.Shelf.meaning c.put.new.shelf) (nothing_then _ _ _ _ c.in_ok-area.ensures.goes c.in_ok-put.ensures.goes) c.in_ok-put.ensures.kept
    (g.S.Shelf.meaning c.put_header.new.shelf) c.put_header.ensures.goes

pub returns-clause-leaves : goal.returns-clause-leaves
returns-clause-leaves g c =
    header_leaves c.args.disk c.in_ok-area.area c.args.header.now c.args.body.now c.requires.can (record { whole = c.requires.whole; few = c.requires.few }) c.requires.long c.requires.digest
    (g.S.Shelf.meaning c.args.shelf.now) (g.met.S.Shelf.lawful c.args.shelf.now) c.in_ok-area.ensures.header c.in_ok-area.ensures.target
    (g.S.Shelf.meaning c.put.new.shelf) (nothing_then _ _ _ _ c.in_ok-area.ensures.goes c.in_ok-put.ensures.goes) c.in_ok-put.ensures.kept
    (g.S.Shelf.meaning c.put_header.new.shelf) c.put_header.ensures.goes

pub returns-clause-ok : goal.returns-clause-ok
returns-clause-ok g c =
    on_ok_weaker c.put_header.result
    (header_stands c.args.disk c.in_ok-area.area c.args.header.now c.args.body.now c.requires.can (record { whole = c.requires.whole; few = c.requires.few }) c.requires.long c.requires.digest
    (g.S.Shelf.meaning c.args.shelf.now) (g.met.S.Shelf.lawful c.args.shelf.now) c.in_ok-area.ensures.header c.in_ok-area.ensures.target
    (g.S.Shelf.meaning c.put.new.shelf) (nothing_then _ _ _ _ c.in_ok-area.ensures.goes c.in_ok-put.ensures.goes) c.in_ok-put.ensures.kept
    (g.S.Shelf.meaning c.put_header.new.shelf) c.put_header.ensures.goes)
    c.put_header.ensures.kept
