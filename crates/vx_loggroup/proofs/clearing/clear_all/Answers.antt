-- `clear_all`: its clauses; what stays true in its loop over `vol`; what `clear_one` asks.
use Rattle.std.proofs.Common.{Bool, arith}
use Rattle.vx_group.specs.Holding.{wide}
use Rattle.vx_group.proofs.HoldLemmas.{wide_shape}
use Rattle.vx_loggroup.proofs.ClearLemmas.{all_cleared, goes_on, next_same, next_there, none_cleared, one_cleared, stops_by}
use Rattle.vx_loggroup.proofs.TakenMaps.{shrink_then}
use Rattle.vx_loggroup.proofs.clearing.clear_all.Goals as goal

pub loop-vol-init : goal.loop-vol-init
loop-vol-init g c = none_cleared c.args.core.now c.args.logs.now.items c.args.alike.now (g.S.Shelf.meaning c.args.shelf.now) c.requires.stands

pub overflow_cast-vol : goal.overflow_cast-vol
overflow_cast-vol g c =
    let end = c.len-vol-end.ensures in let test = c.loop-vol-test.true in let long = c.loop-vol.invariant.shrink.many in
    let many = c.loop-vol.invariant.stands.many in
    let few = c.loop-vol.invariant.stands.group.stands.few in
    let same = (wide_shape c.loop-vol.core).volumes in
    omega (arith, c.args.logs.now.ok, end, test, long, many, few, same)

pub clear_one-requires-clause-there : goal.clear_one-requires-clause-there
clear_one-requires-clause-there g c =
    let end = c.len-vol-end.ensures in let test = c.loop-vol-test.true in let long = c.loop-vol.invariant.shrink.many in
    next_there c.args.core.now c.args.logs.now.items c.args.alike.now (g.S.Shelf.meaning c.args.shelf.now) c.loop-vol.vol c.loop-vol.core c.loop-vol.logs.items (g.S.Shelf.meaning c.loop-vol.shelf) c.loop-vol.invariant (omega (arith, c.args.logs.now.ok, end, test, long))

pub clear_one-requires-clause-same : goal.clear_one-requires-clause-same
clear_one-requires-clause-same g c =
    let end = c.len-vol-end.ensures in let test = c.loop-vol-test.true in let long = c.loop-vol.invariant.shrink.many in
    next_same c.args.core.now c.args.logs.now.items c.args.alike.now (g.S.Shelf.meaning c.args.shelf.now) c.loop-vol.vol c.loop-vol.core c.loop-vol.logs.items (g.S.Shelf.meaning c.loop-vol.shelf) c.loop-vol.invariant c.requires.same (omega (arith, c.args.logs.now.ok, end, test))

pub returns-in-Err-clause-settles : goal.returns-in-Err-clause-settles
returns-in-Err-clause-settles g c = goes_on c.args.core.now c.args.logs.now.items c.args.alike.now (g.S.Shelf.meaning c.args.shelf.now) c.loop-vol.vol c.loop-vol.core c.loop-vol.logs.items (g.S.Shelf.meaning c.loop-vol.shelf) c.loop-vol.invariant c.clear_one.new.core c.clear_one.new.logs.items (g.S.Shelf.meaning c.clear_one.new.shelf) c.clear_one.ensures.stands c.clear_one.ensures.settles c.clear_one.ensures.marks c.clear_one.ensures.shrink

pub returns-in-Err-clause-cause : goal.returns-in-Err-clause-cause
returns-in-Err-clause-cause g c = stops_by c.args.core.now c.args.logs.now.items c.args.alike.now (g.S.Shelf.meaning c.args.shelf.now) c.loop-vol.vol c.loop-vol.core c.loop-vol.logs.items (g.S.Shelf.meaning c.loop-vol.shelf) c.loop-vol.invariant Bool Bool (wide c.clear_one.new.core) (g.S.Shelf.meaning c.clear_one.new.shelf) c.loop-vol.vol c.in-Err.error c.in-Err.ensures.cause

pub returns-then-not-done-clause-settles : goal.returns-then-not-done-clause-settles
returns-then-not-done-clause-settles g c = goes_on c.args.core.now c.args.logs.now.items c.args.alike.now (g.S.Shelf.meaning c.args.shelf.now) c.loop-vol.vol c.loop-vol.core c.loop-vol.logs.items (g.S.Shelf.meaning c.loop-vol.shelf) c.loop-vol.invariant c.clear_one.new.core c.clear_one.new.logs.items (g.S.Shelf.meaning c.clear_one.new.shelf) c.clear_one.ensures.stands c.clear_one.ensures.settles c.clear_one.ensures.marks c.clear_one.ensures.shrink

pub loop-vol-preserved : goal.loop-vol-preserved
loop-vol-preserved g c =
    one_cleared c.args.core.now c.args.logs.now.items c.args.alike.now (g.S.Shelf.meaning c.args.shelf.now) c.loop-vol.vol c.loop-vol.core c.loop-vol.logs.items (g.S.Shelf.meaning c.loop-vol.shelf) c.loop-vol.invariant c.clear_one.new.core c.clear_one.new.logs.items (g.S.Shelf.meaning c.clear_one.new.shelf) c.clear_one.ensures.stands c.clear_one.ensures.settles c.clear_one.ensures.marks c.clear_one.ensures.shrink
    (c.in-Ok.ensures.off c.if-not-done.false) c.in-Ok.ensures.trust c.requires.full

pub returns-clause-off : goal.returns-clause-off
returns-clause-off g c = λ is.
    let end = c.len-vol-end.ensures in let test = c.loop-vol-test.false in let long = c.loop-vol.invariant.shrink.many in
    all_cleared c.args.core.now c.args.logs.now.items c.args.alike.now (g.S.Shelf.meaning c.args.shelf.now) c.loop-vol.vol c.loop-vol.core c.loop-vol.logs.items (g.S.Shelf.meaning c.loop-vol.shelf) c.loop-vol.invariant (omega (arith, c.args.logs.now.ok, end, test, long))

pub returns-clause-settles : goal.returns-clause-settles
returns-clause-settles g c = c.loop-vol.invariant.settles

pub returns-in-Err-clause-shrink : goal.returns-in-Err-clause-shrink
returns-in-Err-clause-shrink g c = shrink_then c.args.logs.now.items c.loop-vol.logs.items c.clear_one.new.logs.items c.loop-vol.invariant.shrink c.clear_one.ensures.shrink

pub returns-then-not-done-clause-shrink : goal.returns-then-not-done-clause-shrink
returns-then-not-done-clause-shrink g c = shrink_then c.args.logs.now.items c.loop-vol.logs.items c.clear_one.new.logs.items c.loop-vol.invariant.shrink c.clear_one.ensures.shrink

pub returns-clause-shrink : goal.returns-clause-shrink
returns-clause-shrink g c = c.loop-vol.invariant.shrink

pub returns-in-Err-clause-off : goal.returns-in-Err-clause-off
returns-in-Err-clause-off g c = tt

pub returns-in-Err-clause-trust : goal.returns-in-Err-clause-trust
returns-in-Err-clause-trust g c = tt
