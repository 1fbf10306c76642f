-- `rest_by`: its clauses.
use Rattle.std.proofs.Common.{◌≡◌, true, false, subst}
use Rattle.vx_logimport.specs.declared.rested.Rested.{Rested}
use Rattle.vx_loggroup.specs.Resting.{AllRest}
use Rattle.vx_loggroup.proofs.RestTells.{no_rested, rests_by, some_rested}
use Rattle.vx_loggroup.proofs.deporting.rest_by.Goals as goal

pub returns-then-stopped-clause-rests : goal.returns-then-stopped-clause-rests
returns-then-stopped-clause-rests c = c.if-stopped.true

pub returns-then-stopped-clause-each : goal.returns-then-stopped-clause-each
returns-then-stopped-clause-each c = λ r is. no_rested r is

pub returns-clause-rests : goal.returns-clause-rests
returns-clause-rests c = rests_by c.args.config.now c.args.stopped c.args.logs.now.items c.args.alike.now c.rest_all.result c.if-stopped.false c.rest_all.ensures

pub returns-clause-each : goal.returns-clause-each
returns-clause-each c = λ r is. (c.if-stopped.false, subst (λ (x : Rested). AllRest c.args.config.now c.args.logs.now.items c.args.alike.now x) (some_rested c.rest_all.result r is) c.rest_all.ensures)
