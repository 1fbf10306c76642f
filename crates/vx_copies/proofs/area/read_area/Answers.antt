-- `read_area`: clauses sees and counts; what `read_copy` asks.
use Rattle.std.proofs.Common.{arith, sym}
use Rattle.vx_copyfmt.proofs.AreaLemmas.{header_of-only}
use Rattle.vx_copies.proofs.Reading.{area_none, area_sees, then_area}
use Rattle.vx_copies.proofs.area.read_area.Goals as goal

pub read_copy-requires-clause-can : goal.read_copy-requires-clause-can
read_copy-requires-clause-can g c = (header_of-only c.read.new.into c.in-Some.header (sym c.in-Some.ensures)).can

pub returns-in-Some-clause-sees : goal.returns-in-Some-clause-sees
returns-in-Some-clause-sees g c =
    area_sees (g.S.Shelf.meaning c.args.shelf.now) (g.met.S.Shelf.lawful c.args.shelf.now) c.args.disk c.args.area c.read.new.into (omega arith) c.in-Ok.ensures.ok
    (g.S.Shelf.meaning c.read.new.self) (g.S.Shelf.meaning c.read_copy.new.shelf) (record { goes = c.in-Ok.ensures.goes; up = c.in-Ok.ensures.cause.after }) c.in-Some.header (sym c.in-Some.ensures) c.read_copy.result c.read_copy.ensures.sees

pub returns-in-None-clause-sees : goal.returns-in-None-clause-sees
returns-in-None-clause-sees g c =
    area_none (g.S.Shelf.meaning c.args.shelf.now) (g.met.S.Shelf.lawful c.args.shelf.now) c.args.disk c.args.area c.read.new.into (omega arith) c.in-Ok.ensures.ok (sym c.in-None.ensures)

pub returns-in-Some-clause-counts : goal.returns-in-Some-clause-counts
returns-in-Some-clause-counts g c =
    then_area c.args.disk (g.S.Shelf.meaning c.args.shelf.now).faults (g.S.Shelf.meaning c.read.new.self).faults (g.S.Shelf.meaning c.read_copy.new.shelf).faults c.in-Ok.ensures.counts c.read_copy.result c.read_copy.ensures.counts
