-- A read of a volume: what was read, and that what is noted stays.
use Rattle.std.proofs.Common.{◌/◌, length, refl}
use Rattle.vx_model.specs.declared.limits.TheConstants.{BLOCK}
use Rattle.vx_group.specs.Holding.{wide}
use Rattle.vx_group.specs.Laws.{group_lawful}
use Rattle.vx_group.specs.Stands.{inner_meaning}
use Rattle.vx_grouped.proofs.ReadLemmas.{read_gives, read_not, read_stays, reads_plain}
use Rattle.vx_grouped.proofs.PlainMapLemmas.{parts_same}
use Rattle.vx_grouped.proofs.plain.read_plain.Goals as goal

pub returns-in-Ok-clause-reads : goal.returns-in-Ok-clause-reads
returns-in-Ok-clause-reads g c = λ note it.
    let lawful = g.met.S.Shelf.lawful in
    reads_plain note (inner_meaning (wide c.args.group.now.core) (g.S.Shelf.meaning c.args.group.now.shelf)) (g.S.Shelf.meaning c.args.group.now.shelf) c.args.vol c.args.block c.args.into.now c.read.new.into c.read.auto.into refl
    (group_lawful (wide c.args.group.now.core) (g.S.Shelf.meaning c.args.group.now.shelf) (lawful c.args.group.now.shelf) c.args.group.now.stands.group.stands) it c.requires.fits c.in-Ok.ensures.ok

pub returns-in-Ok-clause-stays : goal.returns-in-Ok-clause-stays
returns-in-Ok-clause-stays g c = λ n note at.
    read_stays n note c.args.group.now.core c.read.new.self.core (g.S.Shelf.meaning c.args.group.now.shelf) (g.S.Shelf.meaning c.read.new.self.shelf) (g.met.S.Shelf.lawful c.args.group.now.shelf) (g.met.S.Shelf.lawful c.read.new.self.shelf)
    c.read.ensures.below c.read.ensures.down c.read.ensures.goes c.read.ensures.same c.read.ensures.held c.read.ensures.settled c.read.ensures.trusted at

pub returns-in-Err-clause-stays : goal.returns-in-Err-clause-stays
returns-in-Err-clause-stays g c = λ n note at.
    read_stays n note c.args.group.now.core c.read.new.self.core (g.S.Shelf.meaning c.args.group.now.shelf) (g.S.Shelf.meaning c.read.new.self.shelf) (g.met.S.Shelf.lawful c.args.group.now.shelf) (g.met.S.Shelf.lawful c.read.new.self.shelf)
    c.read.ensures.below c.read.ensures.down c.read.ensures.goes c.read.ensures.same c.read.ensures.held c.read.ensures.settled c.read.ensures.trusted at

pub returns-in-Ok-clause-maps : goal.returns-in-Ok-clause-maps
returns-in-Ok-clause-maps g c =
    parts_same c.args.group.now.core.inner.config c.read.new.self.core.inner.config c.args.group.now.logs.items c.read.new.self.logs.items c.args.group.now.alike c.read.new.self.alike c.args.group.now.stopped c.read.new.self.stopped
    c.read.ensures.same c.read.ensures.logs c.read.ensures.alike c.read.ensures.stopped

pub returns-in-Err-clause-maps : goal.returns-in-Err-clause-maps
returns-in-Err-clause-maps g c =
    parts_same c.args.group.now.core.inner.config c.read.new.self.core.inner.config c.args.group.now.logs.items c.read.new.self.logs.items c.args.group.now.alike c.read.new.self.alike c.args.group.now.stopped c.read.new.self.stopped
    c.read.ensures.same c.read.ensures.logs c.read.ensures.alike c.read.ensures.stopped

pub returns-in-Ok-clause-gives_up : goal.returns-in-Ok-clause-gives_up
returns-in-Ok-clause-gives_up g c = λ disk is. absurd (read_not is)

pub returns-in-Err-clause-gives_up : goal.returns-in-Err-clause-gives_up
returns-in-Err-clause-gives_up g c = λ disk is.
    read_gives c.in-Err.failed c.refusal.result c.args.vol c.args.group.now.core.inner.config c.args.group.now.core.inner.next c.read.new.self.core.inner.next c.args.block (length c.args.into.now / BLOCK) c.read.new.into
    (g.S.Shelf.meaning c.args.group.now.shelf) (g.S.Shelf.meaning c.read.new.self.shelf) disk c.refusal.ensures is c.in-Err.ensures.turn

pub returns-in-Ok-clause-same : goal.returns-in-Ok-clause-same
returns-in-Ok-clause-same g c = c.read.ensures.same

pub returns-in-Ok-clause-below : goal.returns-in-Ok-clause-below
returns-in-Ok-clause-below g c = c.read.ensures.below

pub returns-in-Ok-clause-cause : goal.returns-in-Ok-clause-cause
returns-in-Ok-clause-cause g c = tt

pub returns-in-Err-clause-same : goal.returns-in-Err-clause-same
returns-in-Err-clause-same g c = c.read.ensures.same

pub returns-in-Err-clause-below : goal.returns-in-Err-clause-below
returns-in-Err-clause-below g c = c.read.ensures.below

pub returns-in-Err-clause-reads : goal.returns-in-Err-clause-reads
returns-in-Err-clause-reads g c = λ note holds. tt
