-- `look`: clauses sees and counts.
use Rattle.std.proofs.Common.{arith, refl}
use Rattle.vx_copyfmt.specs.declared.label.LabelSeen.TheVariants as label
use Rattle.vx_copies.proofs.Reading.{disk_sees, shows_format, shows_other, then_disk}
use Rattle.vx_copies.proofs.look.look.Goals as goal

pub returns-in-Label-clause-sees : goal.returns-in-Label-clause-sees
returns-in-Label-clause-sees g c =
    disk_sees c.args.disk (g.S.Shelf.meaning c.args.shelf.now) (g.met.S.Shelf.lawful c.args.shelf.now) c.read.new.into (omega arith) c.in-Ok.ensures.ok
    (label.Label c.in-Label.field-0) c.in-Label.ensures refl refl
    (g.S.Shelf.meaning c.read.new.self) (g.S.Shelf.meaning c.look_areas.new.shelf) (record { goes = c.in-Ok.ensures.goes; up = c.in-Ok.ensures.cause.after }) c.look_areas.result c.look_areas.ensures.sees

pub returns-in-Format-clause-sees : goal.returns-in-Format-clause-sees
returns-in-Format-clause-sees g c =
    shows_format c.args.disk (g.S.Shelf.meaning c.args.shelf.now) (g.met.S.Shelf.lawful c.args.shelf.now) c.read.new.into (omega arith) c.in-Ok.ensures.ok c.in-Format.version c.in-Format.ensures

pub returns-in-Other-clause-sees : goal.returns-in-Other-clause-sees
returns-in-Other-clause-sees g c =
    shows_other c.args.disk (g.S.Shelf.meaning c.args.shelf.now) (g.met.S.Shelf.lawful c.args.shelf.now) c.read.new.into (omega arith) c.in-Ok.ensures.ok c.in-Other.ensures

pub returns-in-Label-clause-counts : goal.returns-in-Label-clause-counts
returns-in-Label-clause-counts g c =
    then_disk c.args.disk (g.S.Shelf.meaning c.args.shelf.now).faults (g.S.Shelf.meaning c.read.new.self).faults (g.S.Shelf.meaning c.look_areas.new.shelf).faults c.in-Ok.ensures.counts c.look_areas.result c.look_areas.ensures.counts
