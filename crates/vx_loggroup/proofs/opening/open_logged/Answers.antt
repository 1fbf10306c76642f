-- `open_logged`: its result; what the calls ask.
use Rattle.std.proofs.Common.{None, arith}
use Rattle.vx_group.proofs.UnitLemmas.{goes_units, then_units}
use Rattle.vx_loggroup.proofs.OpenLemmas.{opened_maps, opened_stands, opens_by, settled_below, taken_full, taken_same}
use Rattle.vx_loggroup.proofs.opening.open_logged.Goals as goal

pub import_marked-requires-clause-covers : goal.import_marked-requires-clause-covers
import_marked-requires-clause-covers g c = c.requires.tells.covers

pub import_marked-requires-clause-tells : goal.import_marked-requires-clause-tells
import_marked-requires-clause-tells g c = c.requires.tells.drl

pub take_all-requires-clause-stands : goal.take_all-requires-clause-stands
take_all-requires-clause-stands g c =
    opened_stands (g.S.Shelf.meaning c.args.shelf.now) (g.S.Shelf.meaning c.import_marked.new.shelf) c.in-Ok.marked (g.met.S.Shelf.lawful c.args.shelf.now) (g.met.S.Shelf.lawful c.import_marked.new.shelf) c.requires.can c.args.rested.now c.in-Ok.ensures.ends c.requires.tells c.alike_of-alike.result c.alike_of-alike.ensures.why

pub take_all-requires-clause-plain : goal.take_all-requires-clause-plain
take_all-requires-clause-plain g c = c.in-Ok.ensures.ends.logs.plain

pub take_all-requires-clause-tells : goal.take_all-requires-clause-tells
take_all-requires-clause-tells g c =
    opened_maps (g.S.Shelf.meaning c.args.shelf.now) (g.S.Shelf.meaning c.import_marked.new.shelf) c.in-Ok.marked (g.met.S.Shelf.lawful c.args.shelf.now) (g.met.S.Shelf.lawful c.import_marked.new.shelf) c.requires.can c.args.rested.now c.in-Ok.ensures.ends c.requires.tells

pub settle_logs-requires-clause-stands : goal.settle_logs-requires-clause-stands
settle_logs-requires-clause-stands g c = c.take_all.ensures.stands

pub settle_logs-requires-clause-same : goal.settle_logs-requires-clause-same
settle_logs-requires-clause-same g c =
    taken_same (g.S.Shelf.meaning c.args.shelf.now) (g.S.Shelf.meaning c.import_marked.new.shelf) c.in-Ok.marked (g.met.S.Shelf.lawful c.args.shelf.now) (g.met.S.Shelf.lawful c.import_marked.new.shelf) c.requires.can c.args.rested.now c.in-Ok.ensures.ends c.requires.tells
    c.take_all.new.logs.items (g.S.Shelf.meaning c.take_all.new.shelf) (g.S.Shelf.meaning c.take_all.new.shelf) c.take_all.ensures.drls (let one = c.take_all.ensures.stands.many in let two = c.in-Ok.ensures.ends.logs.many in omega (arith, one, two)) c.take_all.ensures.goes (g.met.S.Shelf.lawful c.take_all.new.shelf)
    c.alike_of-alike.result c.alike_of-alike.ensures.why

pub settle_logs-requires-clause-full : goal.settle_logs-requires-clause-full
settle_logs-requires-clause-full g c =
    taken_full (g.S.Shelf.meaning c.args.shelf.now) (g.S.Shelf.meaning c.import_marked.new.shelf) c.in-Ok.marked (g.met.S.Shelf.lawful c.args.shelf.now) (g.met.S.Shelf.lawful c.import_marked.new.shelf) c.requires.can c.args.rested.now c.in-Ok.ensures.ends c.requires.tells
    c.take_all.new.logs.items (g.S.Shelf.meaning c.take_all.new.shelf) (g.S.Shelf.meaning c.take_all.new.shelf) c.take_all.ensures.drls (let one = c.take_all.ensures.stands.many in let two = c.in-Ok.ensures.ends.logs.many in omega (arith, one, two)) c.take_all.ensures.goes (g.met.S.Shelf.lawful c.take_all.new.shelf)

pub returns-in-Ok-clause-ends : goal.returns-in-Ok-clause-ends
returns-in-Ok-clause-ends g c =
    opens_by (λ s. g.S.Shelf.meaning s) c.import_marked.new.shelf (g.S.Shelf.meaning c.args.shelf.now) c.in-Ok.marked (g.met.S.Shelf.lawful c.args.shelf.now) (g.met.S.Shelf.lawful c.import_marked.new.shelf) c.requires.can c.args.rested.now c.in-Ok.ensures.ends c.requires.tells
    c.alike_of-alike.result c.alike_of-alike.ensures.stopped c.alike_of-alike.ensures.rested c.take_all.new.logs.items (g.S.Shelf.meaning c.take_all.new.shelf) (g.S.Shelf.meaning c.settle_logs.new.shelf) c.take_all.ensures.drls (let one = c.take_all.ensures.stands.many in let two = c.in-Ok.ensures.ends.logs.many in omega (arith, one, two))
    c.take_all.ensures.goes (g.met.S.Shelf.lawful c.take_all.new.shelf) c.settle_logs.result c.settle_logs.ensures c.take_all.ensures.why c.take_all.ensures.were

pub returns-in-Ok-clause-same : goal.returns-in-Ok-clause-same
returns-in-Ok-clause-same g c =
    then_units (g.S.Shelf.meaning c.args.shelf.now) (g.S.Shelf.meaning c.import_marked.new.shelf) (g.S.Shelf.meaning c.settle_logs.new.shelf) c.import_marked.ensures.same
    (then_units (g.S.Shelf.meaning c.import_marked.new.shelf) (g.S.Shelf.meaning c.take_all.new.shelf) (g.S.Shelf.meaning c.settle_logs.new.shelf) (goes_units _ (g.S.Shelf.meaning c.import_marked.new.shelf) (g.S.Shelf.meaning c.take_all.new.shelf) c.take_all.ensures.goes)
    (settled_below (record { inner = c.in-Ok.marked.core; held = None }) c.take_all.new.logs.items c.alike_of-alike.result (g.S.Shelf.meaning c.take_all.new.shelf) (g.S.Shelf.meaning c.settle_logs.new.shelf) c.settle_logs.result c.settle_logs.ensures))

pub returns-in-Err-clause-same : goal.returns-in-Err-clause-same
returns-in-Err-clause-same g c = c.import_marked.ensures.same
