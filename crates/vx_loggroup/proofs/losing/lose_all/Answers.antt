-- `lose_all`: its clauses; what stays true in its loop over `vol`, and what the calls ask.
use Rattle.std.proofs.Common.{Bool, arith}
use Rattle.vx_group.specs.Holding.{wide}
use Rattle.vx_group.proofs.HoldLemmas.{wide_shape}
use Rattle.vx_loggroup.proofs.SettleLemmas.{lost_on, lost_stands, lost_stops, lost_there, none_lost, one_lost}
use Rattle.vx_loggroup.proofs.losing.lose_all.Goals as goal

pub loop-vol-init : goal.loop-vol-init
loop-vol-init g c = none_lost c.args.core.now c.args.logs.now.items c.args.alike.now c.args.stopped (g.S.Shelf.meaning c.args.shelf.now) c.requires.stands

pub overflow_cast-vol : goal.overflow_cast-vol
overflow_cast-vol g c =
    let end = c.len-vol-end.ensures in let test = c.loop-vol-test.true in
    let many = c.requires.stands.many in
    let few = c.requires.stands.group.stands.few in
    let same = (wide_shape c.args.core.now).volumes in
    omega (arith, c.args.logs.now.ok, end, test, many, few, same)

pub keep_logs-requires-clause-stands : goal.keep_logs-requires-clause-stands
keep_logs-requires-clause-stands g c = c.loop-vol.invariant.stands.group

pub keep_logs-requires-clause-there : goal.keep_logs-requires-clause-there
keep_logs-requires-clause-there g c =
    let end = c.len-vol-end.ensures in let test = c.loop-vol-test.true in
    lost_there c.args.core.now c.args.logs.now.items c.args.alike.now c.args.stopped (g.S.Shelf.meaning c.args.shelf.now) c.loop-vol.core (g.S.Shelf.meaning c.loop-vol.shelf) c.loop-vol.invariant c.loop-vol.vol (omega (arith, c.args.logs.now.ok, end, test))

pub loop-vol-preserved : goal.loop-vol-preserved
loop-vol-preserved g c =
    one_lost c.args.core.now c.args.logs.now.items c.args.alike.now c.args.stopped (g.S.Shelf.meaning c.args.shelf.now) c.loop-vol.core (g.S.Shelf.meaning c.loop-vol.shelf) c.loop-vol.invariant c.keep_logs.new.core (g.S.Shelf.meaning c.keep_logs.new.shelf) c.keep_logs.ensures.stands
    (record { goes = c.keep_logs.ensures.goes; narrow = c.keep_logs.ensures.narrow; loses = c.keep_logs.ensures.loses; finds = c.keep_logs.ensures.finds; below = c.keep_logs.ensures.below }) c.keep_logs.ensures.logs c.in-Ok.ensures.trust

pub returns-in-Err-clause-stands : goal.returns-in-Err-clause-stands
returns-in-Err-clause-stands g c =
    lost_stands c.args.core.now c.args.logs.now.items c.args.alike.now c.args.stopped (g.S.Shelf.meaning c.args.shelf.now) c.loop-vol.core (g.S.Shelf.meaning c.loop-vol.shelf) c.loop-vol.invariant c.keep_logs.new.core (g.S.Shelf.meaning c.keep_logs.new.shelf) c.keep_logs.ensures.stands
    (record { goes = c.keep_logs.ensures.goes; narrow = c.keep_logs.ensures.narrow; loses = c.keep_logs.ensures.loses; finds = c.keep_logs.ensures.finds; below = c.keep_logs.ensures.below }) c.keep_logs.ensures.logs

pub returns-in-Err-clause-settles : goal.returns-in-Err-clause-settles
returns-in-Err-clause-settles g c =
    lost_on c.args.core.now c.args.logs.now.items c.args.alike.now c.args.stopped (g.S.Shelf.meaning c.args.shelf.now) c.loop-vol.core (g.S.Shelf.meaning c.loop-vol.shelf) c.loop-vol.invariant c.keep_logs.new.core (g.S.Shelf.meaning c.keep_logs.new.shelf) c.keep_logs.ensures.stands
    (record { goes = c.keep_logs.ensures.goes; narrow = c.keep_logs.ensures.narrow; loses = c.keep_logs.ensures.loses; finds = c.keep_logs.ensures.finds; below = c.keep_logs.ensures.below }) c.keep_logs.ensures.logs

pub returns-in-Err-clause-agreed : goal.returns-in-Err-clause-agreed
returns-in-Err-clause-agreed g c = λ is. c.in-Err.ensures.agreed (c.loop-vol.invariant.trust is)

pub returns-in-Err-clause-cause : goal.returns-in-Err-clause-cause
returns-in-Err-clause-cause g c =
    lost_stops c.args.core.now c.args.logs.now.items c.args.alike.now c.args.stopped (g.S.Shelf.meaning c.args.shelf.now) c.loop-vol.core (g.S.Shelf.meaning c.loop-vol.shelf) c.loop-vol.invariant Bool (Unit {0}) (wide c.keep_logs.new.core) (g.S.Shelf.meaning c.keep_logs.new.shelf) c.loop-vol.vol c.in-Err.error c.in-Err.ensures.cause

pub returns-clause-stands : goal.returns-clause-stands
returns-clause-stands g c = c.loop-vol.invariant.stands

pub returns-clause-settles : goal.returns-clause-settles
returns-clause-settles g c = c.loop-vol.invariant.settles

pub returns-clause-trust : goal.returns-clause-trust
returns-clause-trust g c = c.loop-vol.invariant.trust
