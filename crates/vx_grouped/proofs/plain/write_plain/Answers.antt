-- A write that is made durable: what it leaves, and which plexes it takes out of use.
use Rattle.std.proofs.Common.{arith, length, ◌∙◌}
use Rattle.std.specs.Prelude.{◌/◌}
use Rattle.vx_disk.specs.Shelf.{Written}
use Rattle.vx_disk.proofs.Runs.{then_nothing}
use Rattle.vx_group.proofs.FindingLemmas.{then_group}
use Rattle.vx_group.specs.Holding.{wide}
use Rattle.vx_group.specs.Laws.{group_lawful}
use Rattle.vx_group.specs.Stands.{inner_meaning}
use Rattle.vx_grouped.proofs.WriteLemmas.{both_lose, write_done, write_failed}
use Rattle.vx_grouped.proofs.BothLemmas.{both_on}
use Rattle.vx_grouped.specs.Ends.{plain_write}
use Rattle.vx_grouped.proofs.DoubtedMapLemmas.{runs_alone}
use Rattle.vx_grouped.proofs.PlainMapLemmas.{both_doubted, both_wrote, doubted_parts}
use Rattle.vx_logs.specs.Writes.{first_region, last_region}
use Rattle.vx_grouped.proofs.plain.write_plain.Goals as goal

pub flush_run-requires-clause-there : goal.flush_run-requires-clause-there
flush_run-requires-clause-there g c = omega (arith, c.requires.fits.exists, c.write.ensures.goes.units)

pub flush_run-requires-clause-within : goal.flush_run-requires-clause-within
flush_run-requires-clause-within g c = let same = c.write.ensures.goes.size c.args.vol in omega (arith, c.requires.fits.within, same)

pub returns-in-Err-clause-leaves : goal.returns-in-Err-clause-leaves
returns-in-Err-clause-leaves g c = λ n note at.
    write_failed n note c.args.vol c.args.block c.args.bytes.now c.args.group.now.core c.write.new.self.core (g.S.Shelf.meaning c.args.group.now.shelf) (g.S.Shelf.meaning c.write.new.self.shelf) at c.args.group.now.stands.group c.write.new.self.stands.group
    c.write.ensures.loses c.write.ensures.finds (Unit {0}) (Unit {0}) c.in-Err.error c.refusal.result c.refusal.ensures c.write.ensures.goes (inner_meaning (wide c.args.group.now.core) (g.S.Shelf.meaning c.args.group.now.shelf)) c.in-Err.ensures.cause

pub returns-in-Ok-flush_run-clause-loses : goal.returns-in-Ok-flush_run-clause-loses
returns-in-Ok-flush_run-clause-loses g c =
    let is_rack = c.requires.rack in
    both_lose (g.S.Shelf.meaning c.args.group.now.shelf) (g.S.Shelf.meaning c.write.new.self.shelf) (g.S.Shelf.meaning c.flush_run.new.self.shelf) (is_rack c.args.group.now.shelf) (is_rack c.write.new.self.shelf) (is_rack c.flush_run.new.self.shelf)
    c.write.ensures.goes.disk_faults c.flush_run.ensures.goes.disk_faults c.args.group.now.core.inner.config c.write.new.self.core.inner.config c.flush_run.new.self.core.inner.config c.write.ensures.loses c.flush_run.ensures.loses

pub returns-in-Err-flush_run-clause-loses : goal.returns-in-Err-flush_run-clause-loses
returns-in-Err-flush_run-clause-loses g c =
    let is_rack = c.requires.rack in
    both_lose (g.S.Shelf.meaning c.args.group.now.shelf) (g.S.Shelf.meaning c.write.new.self.shelf) (g.S.Shelf.meaning c.flush_run.new.self.shelf) (is_rack c.args.group.now.shelf) (is_rack c.write.new.self.shelf) (is_rack c.flush_run.new.self.shelf)
    c.write.ensures.goes.disk_faults c.flush_run.ensures.goes.disk_faults c.args.group.now.core.inner.config c.write.new.self.core.inner.config c.flush_run.new.self.core.inner.config c.write.ensures.loses c.flush_run.ensures.loses

pub returns-in-Ok-flush_run-clause-leaves : goal.returns-in-Ok-flush_run-clause-leaves
returns-in-Ok-flush_run-clause-leaves g c = λ n note at.
    let is_rack = c.requires.rack in
    let lawful = g.met.S.Shelf.lawful in
    write_done n note c.args.vol c.args.block c.args.bytes.now c.args.group.now.core c.flush_run.new.self.core (g.S.Shelf.meaning c.args.group.now.shelf) (g.S.Shelf.meaning c.flush_run.new.self.shelf) at c.args.group.now.stands.group c.flush_run.new.self.stands.group
    (both_lose (g.S.Shelf.meaning c.args.group.now.shelf) (g.S.Shelf.meaning c.write.new.self.shelf) (g.S.Shelf.meaning c.flush_run.new.self.shelf) (is_rack c.args.group.now.shelf) (is_rack c.write.new.self.shelf) (is_rack c.flush_run.new.self.shelf)
    c.write.ensures.goes.disk_faults c.flush_run.ensures.goes.disk_faults c.args.group.now.core.inner.config c.write.new.self.core.inner.config c.flush_run.new.self.core.inner.config c.write.ensures.loses c.flush_run.ensures.loses)
    (then_group c.args.group.now.core c.write.new.self.core c.flush_run.new.self.core (g.S.Shelf.meaning c.args.group.now.shelf) (g.S.Shelf.meaning c.write.new.self.shelf) (g.S.Shelf.meaning c.flush_run.new.self.shelf) c.write.ensures.finds c.flush_run.ensures.finds)
    (inner_meaning (wide c.write.new.self.core) (g.S.Shelf.meaning c.write.new.self.shelf))
    (group_lawful (wide c.args.group.now.core) (g.S.Shelf.meaning c.args.group.now.shelf) (lawful c.args.group.now.shelf) c.args.group.now.stands.group.stands)
    c.requires.fits c.write.ensures.goes c.in-Ok.ensures.ok c.flush_run.ensures.goes c.in-Ok-flush_run.ensures.ok c.in-Ok-flush_run.ensures.cause (λ is. c.in-Ok-flush_run.ensures.trust (c.in-Ok.ensures.trust is))

pub returns-in-Err-flush_run-clause-leaves : goal.returns-in-Err-flush_run-clause-leaves
returns-in-Err-flush_run-clause-leaves g c = λ n note at.
    let is_rack = c.requires.rack in
    write_failed n note c.args.vol c.args.block c.args.bytes.now c.args.group.now.core c.flush_run.new.self.core (g.S.Shelf.meaning c.args.group.now.shelf) (g.S.Shelf.meaning c.flush_run.new.self.shelf) at c.args.group.now.stands.group c.flush_run.new.self.stands.group
    (both_lose (g.S.Shelf.meaning c.args.group.now.shelf) (g.S.Shelf.meaning c.write.new.self.shelf) (g.S.Shelf.meaning c.flush_run.new.self.shelf) (is_rack c.args.group.now.shelf) (is_rack c.write.new.self.shelf) (is_rack c.flush_run.new.self.shelf)
    c.write.ensures.goes.disk_faults c.flush_run.ensures.goes.disk_faults c.args.group.now.core.inner.config c.write.new.self.core.inner.config c.flush_run.new.self.core.inner.config c.write.ensures.loses c.flush_run.ensures.loses)
    (then_group c.args.group.now.core c.write.new.self.core c.flush_run.new.self.core (g.S.Shelf.meaning c.args.group.now.shelf) (g.S.Shelf.meaning c.write.new.self.shelf) (g.S.Shelf.meaning c.flush_run.new.self.shelf) c.write.ensures.finds c.flush_run.ensures.finds)
    (Unit {0}) (Unit {0}) c.in-Err-flush_run.error c.refusal-in-Err-flush_run.result c.refusal-in-Err-flush_run.ensures
    (then_nothing (Written c.args.vol c.args.block c.args.bytes.now) (inner_meaning (wide c.args.group.now.core) (g.S.Shelf.meaning c.args.group.now.shelf)) (inner_meaning (wide c.write.new.self.core) (g.S.Shelf.meaning c.write.new.self.shelf)) (inner_meaning (wide c.flush_run.new.self.core) (g.S.Shelf.meaning c.flush_run.new.self.shelf)) c.write.ensures.goes c.flush_run.ensures.goes)
    (inner_meaning (wide c.write.new.self.core) (g.S.Shelf.meaning c.write.new.self.shelf)) c.in-Err-flush_run.ensures.cause

pub returns-in-Ok-flush_run-clause-on : goal.returns-in-Ok-flush_run-clause-on
returns-in-Ok-flush_run-clause-on g c = both_on c.args.group.now.core c.flush_run.new.self.core (g.S.Shelf.meaning c.args.group.now.shelf) (g.S.Shelf.meaning c.flush_run.new.self.shelf) c.args.group.now.stands.group c.flush_run.new.self.stands.group

pub returns-in-Err-flush_run-clause-on : goal.returns-in-Err-flush_run-clause-on
returns-in-Err-flush_run-clause-on g c = both_on c.args.group.now.core c.flush_run.new.self.core (g.S.Shelf.meaning c.args.group.now.shelf) (g.S.Shelf.meaning c.flush_run.new.self.shelf) c.args.group.now.stands.group c.flush_run.new.self.stands.group

pub returns-in-Err-clause-on : goal.returns-in-Err-clause-on
returns-in-Err-clause-on g c = both_on c.args.group.now.core c.write.new.self.core (g.S.Shelf.meaning c.args.group.now.shelf) (g.S.Shelf.meaning c.write.new.self.shelf) c.args.group.now.stands.group c.write.new.self.stands.group

pub returns-in-Err-clause-maps : goal.returns-in-Err-clause-maps
returns-in-Err-clause-maps g c =
    doubted_parts (plain_write c.args.vol c.args.block c.args.bytes.now) c.args.group.now.core c.write.new.self.core c.args.group.now.logs.items c.write.new.self.logs.items c.args.group.now.stopped c.write.new.self.stopped c.args.group.now.alike c.write.new.self.alike
    (g.S.Shelf.meaning c.args.group.now.shelf) (g.S.Shelf.meaning c.write.new.self.shelf) (c.requires.rack c.args.group.now.shelf) (c.requires.rack c.write.new.self.shelf) c.args.group.now.stands.group c.write.new.self.stands.group
    c.write.ensures.loses.frames c.write.ensures.goes.units c.write.ensures.goes.size c.requires.fits.exists c.write.ensures.ends_maps c.write.ensures.comes c.in-Err.ensures.moves
    (λ sure going up off.
    runs_alone c.args.group.now.core c.write.new.self.core c.write.new.self.logs.items c.write.new.self.alike c.write.new.self.stopped (g.S.Shelf.meaning c.write.new.self.shelf) c.write.new.self.stands
    c.args.vol (first_region c.args.block) (last_region c.args.block (length c.args.bytes.now / 512)) (c.write.ensures.loses.frames c.args.vol) (c.write.ensures.goes.size c.args.vol) going
    (c.in-Err.ensures.refused sure going (λ down. up (c.write.ensures.goes.falls down)) off))
    (λ v apart is. c.write.ensures.flags v apart ∙ is)

pub returns-in-Ok-flush_run-clause-maps : goal.returns-in-Ok-flush_run-clause-maps
returns-in-Ok-flush_run-clause-maps g c =
    both_wrote (plain_write c.args.vol c.args.block c.args.bytes.now) c.args.group.now.core c.write.new.self.core c.flush_run.new.self.core c.args.group.now.logs.items c.write.new.self.logs.items c.flush_run.new.self.logs.items
    c.args.group.now.stopped c.write.new.self.stopped c.flush_run.new.self.stopped c.args.group.now.alike c.write.new.self.alike c.flush_run.new.self.alike (g.S.Shelf.meaning c.args.group.now.shelf) (g.S.Shelf.meaning c.write.new.self.shelf) (g.S.Shelf.meaning c.flush_run.new.self.shelf)
    (c.requires.rack c.args.group.now.shelf) (c.requires.rack c.write.new.self.shelf) (c.requires.rack c.flush_run.new.self.shelf) c.args.group.now.stands.group c.flush_run.new.self.stands.group
    c.write.ensures.loses c.flush_run.ensures.loses c.write.ensures.goes.disk_faults c.flush_run.ensures.goes.disk_faults c.write.ensures.goes.units c.flush_run.ensures.goes.units c.write.ensures.goes.size c.flush_run.ensures.goes.size c.requires.fits.exists
    c.flush_run.ensures.goes.falls c.flush_run.ensures.loses.parts.later c.write.ensures.full c.write.ensures.keeps c.flush_run.ensures.keeps c.write.ensures.comes c.flush_run.ensures.comes
    c.flush_run.ensures.gone c.write.ensures.rests c.in-Ok.ensures.free c.flush_run.ensures.rests c.flush_run.ensures.flags c.in-Ok.ensures.alike
    c.in-Ok.ensures.moves (λ going. c.in-Ok-flush_run.ensures.moves going (let some = c.requires.fits.some in let whole = c.requires.fits.whole in omega (arith, some, whole)))

pub returns-in-Err-flush_run-clause-maps : goal.returns-in-Err-flush_run-clause-maps
returns-in-Err-flush_run-clause-maps g c =
    both_doubted (plain_write c.args.vol c.args.block c.args.bytes.now) c.args.group.now.core c.write.new.self.core c.flush_run.new.self.core c.args.group.now.logs.items c.write.new.self.logs.items c.flush_run.new.self.logs.items
    c.args.group.now.stopped c.write.new.self.stopped c.flush_run.new.self.stopped c.args.group.now.alike c.write.new.self.alike c.flush_run.new.self.alike (g.S.Shelf.meaning c.args.group.now.shelf) (g.S.Shelf.meaning c.write.new.self.shelf) (g.S.Shelf.meaning c.flush_run.new.self.shelf)
    (c.requires.rack c.args.group.now.shelf) (c.requires.rack c.write.new.self.shelf) (c.requires.rack c.flush_run.new.self.shelf) c.args.group.now.stands.group c.flush_run.new.self.stands.group
    c.write.ensures.loses c.flush_run.ensures.loses c.write.ensures.goes.disk_faults c.flush_run.ensures.goes.disk_faults c.write.ensures.goes.units c.flush_run.ensures.goes.units c.write.ensures.goes.size c.flush_run.ensures.goes.size c.requires.fits.exists
    c.flush_run.ensures.goes.falls c.flush_run.ensures.loses.parts.later c.write.ensures.full c.write.ensures.keeps c.flush_run.ensures.keeps c.write.ensures.comes c.flush_run.ensures.comes
    c.flush_run.ensures.gone c.write.ensures.rests c.in-Ok.ensures.free c.flush_run.ensures.rests c.flush_run.ensures.flags c.in-Ok.ensures.alike
    c.in-Ok.ensures.moves (λ going. c.in-Err-flush_run.ensures.moves going (let some = c.requires.fits.some in let whole = c.requires.fits.whole in omega (arith, some, whole)))

pub returns-in-Err-clause-goes : goal.returns-in-Err-clause-goes
returns-in-Err-clause-goes g c = c.write.ensures.goes

pub returns-in-Ok-flush_run-clause-goes : goal.returns-in-Ok-flush_run-clause-goes
returns-in-Ok-flush_run-clause-goes g c = then_nothing (Written c.args.vol c.args.block c.args.bytes.now) (inner_meaning (wide c.args.group.now.core) (g.S.Shelf.meaning c.args.group.now.shelf)) (inner_meaning (wide c.write.new.self.core) (g.S.Shelf.meaning c.write.new.self.shelf)) (inner_meaning (wide c.flush_run.new.self.core) (g.S.Shelf.meaning c.flush_run.new.self.shelf)) c.write.ensures.goes c.flush_run.ensures.goes

pub returns-in-Err-flush_run-clause-goes : goal.returns-in-Err-flush_run-clause-goes
returns-in-Err-flush_run-clause-goes g c = then_nothing (Written c.args.vol c.args.block c.args.bytes.now) (inner_meaning (wide c.args.group.now.core) (g.S.Shelf.meaning c.args.group.now.shelf)) (inner_meaning (wide c.write.new.self.core) (g.S.Shelf.meaning c.write.new.self.shelf)) (inner_meaning (wide c.flush_run.new.self.core) (g.S.Shelf.meaning c.flush_run.new.self.shelf)) c.write.ensures.goes c.flush_run.ensures.goes

pub returns-in-Err-clause-loses : goal.returns-in-Err-clause-loses
returns-in-Err-clause-loses g c = c.write.ensures.loses

pub returns-in-Err-clause-trust : goal.returns-in-Err-clause-trust
returns-in-Err-clause-trust g c = tt

pub returns-in-Err-clause-agreed : goal.returns-in-Err-clause-agreed
returns-in-Err-clause-agreed g c = c.in-Err.ensures.agreed

pub returns-in-Err-flush_run-clause-trust : goal.returns-in-Err-flush_run-clause-trust
returns-in-Err-flush_run-clause-trust g c = tt

pub returns-in-Ok-flush_run-clause-agreed : goal.returns-in-Ok-flush_run-clause-agreed
returns-in-Ok-flush_run-clause-agreed g c = tt

pub returns-in-Ok-flush_run-clause-cause : goal.returns-in-Ok-flush_run-clause-cause
returns-in-Ok-flush_run-clause-cause g c = tt
